-- What is asked besides along a run's statements that the relation of trees has in the new function: as along trees that are alike (rx_engine_initial_forms),
-- but nothing where the run is left by a jump, or returns a value or nothing. Runs in which the new function reads a place that the text binds to are left out. (REM: "Adventures in refactoring Rust: extract function", OOPSLA 2023.)
use Rattle.std.specs.Prelude.{◌≡◌, ℕ, Bool, false, List, [], ◌∷◌, None, Some}
use Rattle.rx_core.specs.declared.types.Step.TheVariants as step
use Rattle.rx_typed.specs.Tree as tree
use Rattle.rx_typed.specs.Tree.{Exp, Operands, Scrutinee, Arms, Body}
use Rattle.rx_engine_simulation.specs.Turns.{Allowance}
use Rattle.rx_engine_simulation.specs.Histories.{Facts}
use Rattle.rx_engine_simulation.specs.Sights.{Renaming}
use Rattle.rx_lower_walks.specs.Walks.{Among}
use Rattle.rx_exits_plan.specs.Points.{jump_exit}
use Rattle.rx_exits_plan.specs.Plan.{Plan}
use Rattle.rx_engine_simulation.specs.Jumps.{Pack, as_return, Jumping, loop_of}
use Rattle.rx_exits_plan.specs.Blocks as block
use Rattle.rx_exits_plan.specs.Blocks.{Statement}
use Rattle.rx_engine_simulation.specs.Blocks.{Stretch, done, does_then, declares_then, lets_then}
use Rattle.rx_engine_simulation.specs.Like.{LikeExp, opens, reads, borrows, views, shares, builds, builds_structs, builds_variants, units, lazies, assigns, updates, calls, inputs, prints, blocks, chooses, loops, stays, gives, LikeAll, no_operands, operands_and, LikeMatched, at_places, of_values, LikeArms, no_arms, arms_and, LikeBody, opens_in, ends_in, runs_on, declares_all, lets_in, reads_place, looks_behind}
use Rattle.rx_engine_related.specs.Leaving.{left, left_by_jump, left_by_return, left_with_value, left_with_unit}
use Rattle.rx_engine_related.specs.Moved.{Moved, moved_all, moved_statement, moved_declaration, moved_let, moved_read, moved_look}
use Rattle.rx_engine_initial.specs.Variables.{Sides}
use Rattle.rx_engine_initial_forms.specs.Agreeing.{MovesSo, AllLike, BindingsSo}
use Rattle.rx_engine_initial_forms.specs.Following.{ExpAsked, BodyAsked}
use Rattle.rx_engine_initial_related.specs.AlsoMarked.{AlsoMarked, AlsoMarkedBody}

module _ (S : Sides) {items : ℕ → ℕ} {U : List ℕ} {gain : Allowance} {V : Facts} where
  abbrev mutual
    pub ExpMoves : {k : ℕ} {J : Jumping} {N : Renaming} {e e' : Exp} → LikeExp items (left U) gain V k J N e e' → Type 0
    ExpMoves (opens a i h (left_by_jump p q v g) l) = Unit {0}
    ExpMoves (opens a i h (left_by_return q g) l) = Unit {0}
    ExpMoves (opens a i h (left_with_value q) l) = ExpMoves l
    ExpMoves (opens {J = J} {R = N} {e = e} {e' = e'} {f = f} {f' = f'} a i h (left_with_unit q u n g) l) = (x : Exp) → AlsoMarked (f e) x → ExpAsked S J N (f' e') x
    ExpMoves (reads {v = v} {v' = z} l) = MovesSo l v z
    ExpMoves (borrows l) = Unit {0}
    ExpMoves (views {x = x} {y = y} {J = J} {R = N} {m = m} {m' = m'} {n = n} {moves = z} h) = ExpAsked S J N (tree.read m' z (tree.own y)) (tree.borrow m false (tree.under (tree.own x) (step.Deref n ∷ [])))
    ExpMoves (shares l) = ExpMoves l
    ExpMoves (builds f l) = AllMove l
    ExpMoves (builds_structs f l) = AllMove l
    ExpMoves (builds_variants f l) = AllMove l
    ExpMoves units = Unit {0}
    ExpMoves (lazies i j h a b) = ExpMoves a × ExpMoves b
    ExpMoves (assigns p l) = ExpMoves l
    ExpMoves (updates p q l) = MovesSo p false false × ExpMoves l
    ExpMoves (calls l) = AllMove l
    ExpMoves inputs = Unit {0}
    ExpMoves (prints l) = ExpMoves l
    ExpMoves (blocks l) = BodyMoves l
    ExpMoves (chooses i j h c l) = MatchedMoves c × ArmsMove l
    ExpMoves (loops {l = n} {J = J} f g h l) = (loop_of J.loops n ≡ None) × ExpMoves l
    ExpMoves (stays h) = Unit {0}
    ExpMoves (gives h l) = ExpMoves l

    pub AllMove : {k : ℕ} {J : Jumping} {N : Renaming} {es es' : Operands} → LikeAll items (left U) gain V k J N es es' → Type 0
    AllMove no_operands = Unit {0}
    AllMove (operands_and i j h a l) = ExpMoves a × AllMove l

    pub MatchedMoves : {k : ℕ} {J : Jumping} {N : Renaming} {c c' : Scrutinee} → LikeMatched items (left U) gain V k J N c c' → Type 0
    MatchedMoves at_places = Unit {0}
    MatchedMoves (of_values l) = ExpMoves l

    pub ArmsMove : {k : ℕ} {J : Jumping} {N : Renaming} {c c' : Scrutinee} {l l' : Arms} → LikeArms items (left U) gain V k J N c c' l l' → Type 0
    ArmsMove no_arms = Unit {0}
    ArmsMove (arms_and M t b e l) = BindingsSo S b × ExpMoves e × ArmsMove l

    pub BodyMoves : {k : ℕ} {J : Jumping} {N : Renaming} {b b' : Body} → LikeBody items (left U) gain V k J N b b' → Type 0
    BodyMoves (opens_in a i h o l) = Unit {0}
    BodyMoves (ends_in l) = ExpMoves l
    BodyMoves (runs_on i j h a l) = ExpMoves a × BodyMoves l
    BodyMoves (declares_all {xs = xs} {ys = ys} M d l) = AllLike S xs ys × BodyMoves l
    BodyMoves (lets_in M i j h c b l) = MatchedMoves c × BindingsSo S b × BodyMoves l
    BodyMoves (reads_place {s' = s} {n = n} {z = z} {y = y} {J = J} {R = N} {m = m} {v = v} {b = b} {b' = b'} l) =
        (x : Body) → AlsoMarkedBody b x → BodyAsked S J N (tree.lets s (tree.bind n z (tree.by_value v)) (tree.at_place m (tree.own y)) b') x
    BodyMoves (looks_behind {s' = s} {y = y} {J = J} {R = N} {m = m} {q' = q} {b = b} {b' = b'} x e a l) = (z : Body) → AlsoMarkedBody b z → BodyAsked S J N (tree.lets s q (tree.at_place m (tree.own y)) b') z

-- the new function's jumps are of the plan's exits, and no return of it is one of the text's
pub record LeavesBy (k : Plan) (J : Jumping) : Type 0 where
  pub exits : (l : ℕ) (again : Bool) (p : Pack) → J.leaving l again ≡ Some p → Among (jump_exit l again) k.exits
  pub outs : (l : ℕ) (again : Bool) (p : Pack) → J.leaving l again ≡ Some p → p.outs ≡ k.outs (jump_exit l again)
  pub no_return : J.returning ≡ as_return → ⊥

-- statement by statement; where a place is read that the text binds to, that what follows is alike
abbrev pub StretchMoves : (S : Sides) {items : ℕ → ℕ} {gain : Allowance} {U : List ℕ} {special : List ℕ} {J : Jumping} {N M : Renaming} {r r' : Stretch} → Moved items gain U special J N r r' M → Type 0
StretchMoves S moved_all = Unit {0}
StretchMoves S (moved_statement l m) = ExpMoves S l × StretchMoves S m
StretchMoves S (moved_declaration {xs = xs} {ys = ys} d m) = AllLike S xs ys × StretchMoves S m
StretchMoves S (moved_let c b m) = MatchedMoves S c × BindingsSo S b × StretchMoves S m
StretchMoves S (moved_read m) = ⊥
StretchMoves S (moved_look x h a m) = ⊥

-- statements of a block as those in front of others
abbrev pub stretch_of : List Statement → Stretch
stretch_of [] = done
stretch_of (block.does e ∷ ss) = does_then e (stretch_of ss)
stretch_of (block.begins s xs ∷ ss) = declares_then s xs (stretch_of ss)
stretch_of (block.binds s p c ∷ ss) = lets_then s p c (stretch_of ss)
