-- What is asked besides, along trees that the relation of trees has as alike (rx_engine_simulation): of reads, what moves in the new function
-- moves there; of what binds variables, their types; of loops, that none has the number of one around it. Where the relation is open, or has an
-- answer's read for what the text does otherwise, trees are asked to be alike as far as initialisation goes.
use Rattle.std.specs.Prelude.{◌≡◌, ℕ, Bool, false, List, [], ◌∷◌, Option, Some, None}
use Rattle.rx_core.specs.declared.types.Step.TheVariants as step
use Rattle.rx_typed.specs.Tree as tree
use Rattle.rx_typed.specs.Tree.{Exp, Operands, Scrutinee, Arms, Body}
use Rattle.rx_lower_walks.specs.Walks.{Among}
use Rattle.rx_engine_simulation.specs.Turns.{Allowance}
use Rattle.rx_engine_simulation.specs.Histories.{Facts}
use Rattle.rx_engine_simulation.specs.Sights.{Renaming}
use Rattle.rx_engine_simulation.specs.Jumps.{Jumping, loop_of}
use Rattle.rx_engine_simulation.specs.Openings.{Openings}
use Rattle.rx_engine_simulation.specs.Like.{LikeExp, opens, reads, borrows, views, shares, builds, builds_structs, builds_variants, units, lazies, assigns, updates, calls, inputs, prints, blocks, chooses, loops, stays, gives, LikeAll, no_operands, operands_and, LikeMatched, at_places, of_values, LikeArms, no_arms, arms_and, LikeBody, opens_in, ends_in, runs_on, declares_all, lets_in, reads_place, looks_behind}
use Rattle.rx_engine_initial.specs.Variables.{Sides, KnownVariables}
use Rattle.rx_engine_initial_forms.specs.Alike.{AlikeExp, AlikeBody}
use Rattle.rx_engine_initial_forms.specs.Agreeing.{Agrees, MovesSo, AllLike, BindingsSo}

-- the loops around
pub record AgreesOnLoops (S : Sides) (J : Jumping) (R : KnownVariables S) : Type 0 where
  pub known : (l k : ℕ) → loop_of J.loops l ≡ Some k → Among (k, l) R.loops
  pub no_others : (l k : ℕ) → Among (k, l) R.loops → loop_of J.loops l ≡ Some k

-- the answer's tree, and the text's
abbrev pub ExpAsked : Sides → Jumping → Renaming → Exp → Exp → Type 0
ExpAsked S J N e f = (R : KnownVariables S) → Agrees S N R → AgreesOnLoops S J R → AlikeExp S R e f

abbrev pub BodyAsked : Sides → Jumping → Renaming → Body → Body → Type 0
BodyAsked S J N b c = (R : KnownVariables S) → Agrees S N R → AgreesOnLoops S J R → AlikeBody S R b c

module _ (S : Sides) {items : ℕ → ℕ} {O : Openings} {gain : Allowance} {V : Facts} where
  abbrev mutual
    pub ExpSo : {k : ℕ} {J : Jumping} {N : Renaming} {e e' : Exp} → LikeExp items O gain V k J N e e' → Type 0
    ExpSo (opens {J = J} {R = N} {e = e} {e' = e'} {f = f} {f' = f'} a i h o l) = ExpAsked S J N (f' e') (f e)
    ExpSo (reads {v = v} {v' = z} l) = MovesSo l v z
    ExpSo (borrows l) = Unit {0}
    ExpSo (views {x = x} {y = y} {J = J} {R = N} {m = m} {m' = m'} {n = n} {moves = z} h) = ExpAsked S J N (tree.read m' z (tree.own y)) (tree.borrow m false (tree.under (tree.own x) (step.Deref n ∷ [])))
    ExpSo (shares l) = ExpSo l
    ExpSo (builds f l) = AllSo l
    ExpSo (builds_structs f l) = AllSo l
    ExpSo (builds_variants f l) = AllSo l
    ExpSo units = Unit {0}
    ExpSo (lazies i j h a b) = ExpSo a × ExpSo b
    ExpSo (assigns p l) = ExpSo l
    ExpSo (updates p q l) = MovesSo p false false × ExpSo l
    ExpSo (calls l) = AllSo l
    ExpSo inputs = Unit {0}
    ExpSo (prints l) = ExpSo l
    ExpSo (blocks l) = BodySo l
    ExpSo (chooses i j h c l) = MatchedSo c × ArmsSo l
    ExpSo (loops {l = n} {J = J} f g h l) = (loop_of J.loops n ≡ None) × ExpSo l
    ExpSo (stays h) = Unit {0}
    ExpSo (gives h l) = ExpSo l

    pub AllSo : {k : ℕ} {J : Jumping} {N : Renaming} {es es' : Operands} → LikeAll items O gain V k J N es es' → Type 0
    AllSo no_operands = Unit {0}
    AllSo (operands_and i j h a l) = ExpSo a × AllSo l

    pub MatchedSo : {k : ℕ} {J : Jumping} {N : Renaming} {c c' : Scrutinee} → LikeMatched items O gain V k J N c c' → Type 0
    MatchedSo at_places = Unit {0}
    MatchedSo (of_values l) = ExpSo l

    pub ArmsSo : {k : ℕ} {J : Jumping} {N : Renaming} {c c' : Scrutinee} {l l' : Arms} → LikeArms items O gain V k J N c c' l l' → Type 0
    ArmsSo no_arms = Unit {0}
    ArmsSo (arms_and M t b e l) = BindingsSo S b × ExpSo e × ArmsSo l

    pub BodySo : {k : ℕ} {J : Jumping} {N : Renaming} {b b' : Body} → LikeBody items O gain V k J N b b' → Type 0
    BodySo (opens_in {J = J} {R = N} {b = b} {b' = b'} {f = f} {f' = f'} a i h o l) = BodyAsked S J N (f' b') (f b)
    BodySo (ends_in l) = ExpSo l
    BodySo (runs_on i j h a l) = ExpSo a × BodySo l
    BodySo (declares_all {xs = xs} {ys = ys} M d l) = AllLike S xs ys × BodySo l
    BodySo (lets_in M i j h c b l) = MatchedSo c × BindingsSo S b × BodySo l
    BodySo (reads_place {s' = s} {n = n} {z = z} {y = y} {J = J} {R = N} {m = m} {v = v} {b = b} {b' = b'} l) = BodyAsked S J N (tree.lets s (tree.bind n z (tree.by_value v)) (tree.at_place m (tree.own y)) b') b
    BodySo (looks_behind {s' = s} {y = y} {J = J} {R = N} {m = m} {q' = q} {b = b} {b' = b'} x e a l) = BodyAsked S J N (tree.lets s q (tree.at_place m (tree.own y)) b') b
