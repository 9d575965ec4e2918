-- What is asked besides along the caller, which the relation of trees has alike but for the run's block (rx_engine_related): as along trees that are alike
-- (rx_engine_initial_forms); and where the run's block is, that it is alike the text's with all its marks. (REM: "Adventures in refactoring Rust:
-- extract function", OOPSLA 2023.)
use Rattle.std.specs.Prelude.{◌≡◌, ℕ, false, ◌==◌, [], ◌∷◌, None}
use Rattle.rx_core.specs.declared.types.Step.TheVariants as step
use Rattle.rx_typed.specs.Tree as tree
use Rattle.rx_typed.specs.Tree.{Exp, Operands, Scrutinee, Arms, Body}
use Rattle.rx_exits_plan.specs.Changed.{changed_body}
use Rattle.rx_exits_plan.specs.Marked.{marked_body, at_the_block}
use Rattle.rx_exits_plan.specs.Asked.{Asked}
use Rattle.rx_exits_plan.specs.Plan.{Plan}
use Rattle.rx_engine_simulation.specs.Turns.{Allowance}
use Rattle.rx_engine_simulation.specs.Histories.{Facts}
use Rattle.rx_engine_simulation.specs.Sights.{Renaming}
use Rattle.rx_engine_simulation.specs.Jumps.{Jumping, loop_of}
use Rattle.rx_engine_simulation.specs.Openings.{Openings}
use Rattle.rx_engine_simulation.specs.Like.{LikeExp, opens, reads, borrows, views, shares, builds, builds_structs, builds_variants, units, lazies, assigns, updates, calls, inputs, prints, blocks, chooses, loops, stays, gives, LikeAll, no_operands, operands_and, LikeMatched, at_places, of_values, LikeArms, no_arms, arms_and, LikeBody, opens_in, ends_in, runs_on, declares_all, lets_in, reads_place, looks_behind}
use Rattle.rx_engine_related.specs.InBlock.{run_block, in_its_block}
use Rattle.rx_engine_initial.specs.Variables.{Sides}
use Rattle.rx_engine_initial_forms.specs.Agreeing.{MovesSo, AllLike, BindingsSo}
use Rattle.rx_engine_initial_forms.specs.Following.{ExpAsked, BodyAsked}

module _ (S : Sides) (A : Asked) (k : Plan) {items : ℕ → ℕ} {O : Openings} {gain : Allowance} {V : Facts} where
  abbrev mutual
    pub ExpCalls : {i : ℕ} {J : Jumping} {N : Renaming} {e e' : Exp} → LikeExp items (in_its_block A S.muts_there k items O gain) gain V i J N e e' → Type 0
    ExpCalls (opens {J = J} {R = N} a i h (run_block {m = m} {m' = m'} {b = b} {b' = b'} q t) l) = ExpAsked S J N (tree.block m' b') (tree.block m (marked_body A.run A.home.around.loops k.params b))
    ExpCalls (reads {v = v} {v' = z} l) = MovesSo l v z
    ExpCalls (borrows l) = Unit {0}
    ExpCalls (views {x = x} {y = y} {J = J} {R = N} {m = m} {m' = m'} {n = n} {moves = z} h) = ExpAsked S J N (tree.read m' z (tree.own y)) (tree.borrow m false (tree.under (tree.own x) (step.Deref n ∷ [])))
    ExpCalls (shares l) = ExpCalls l
    ExpCalls (builds f l) = AllCall l
    ExpCalls (builds_structs f l) = AllCall l
    ExpCalls (builds_variants f l) = AllCall l
    ExpCalls units = Unit {0}
    ExpCalls (lazies i j h a b) = ExpCalls a × ExpCalls b
    ExpCalls (assigns p l) = ExpCalls l
    ExpCalls (updates p q l) = MovesSo p false false × ExpCalls l
    ExpCalls (calls l) = AllCall l
    ExpCalls inputs = Unit {0}
    ExpCalls (prints l) = ExpCalls l
    -- another block is not the run's
    ExpCalls (blocks {m = m} l) = ((m.node == A.run.block) ≡ false) × BodyCalls l
    ExpCalls (chooses i j h c l) = MatchedCalls c × ArmsCall l
    ExpCalls (loops {l = n} {J = J} f g h l) = (loop_of J.loops n ≡ None) × ExpCalls l
    ExpCalls (stays h) = Unit {0}
    ExpCalls (gives h l) = ExpCalls l

    pub AllCall : {i : ℕ} {J : Jumping} {N : Renaming} {es es' : Operands} → LikeAll items (in_its_block A S.muts_there k items O gain) gain V i J N es es' → Type 0
    AllCall no_operands = Unit {0}
    AllCall (operands_and i j h a l) = ExpCalls a × AllCall l

    pub MatchedCalls : {i : ℕ} {J : Jumping} {N : Renaming} {c c' : Scrutinee} → LikeMatched items (in_its_block A S.muts_there k items O gain) gain V i J N c c' → Type 0
    MatchedCalls at_places = Unit {0}
    MatchedCalls (of_values l) = ExpCalls l

    pub ArmsCall : {i : ℕ} {J : Jumping} {N : Renaming} {c c' : Scrutinee} {l l' : Arms} → LikeArms items (in_its_block A S.muts_there k items O gain) gain V i J N c c' l l' → Type 0
    ArmsCall no_arms = Unit {0}
    ArmsCall (arms_and M t b e l) = BindingsSo S b × ExpCalls e × ArmsCall l

    pub BodyCalls : {i : ℕ} {J : Jumping} {N : Renaming} {b b' : Body} → LikeBody items (in_its_block A S.muts_there k items O gain) gain V i J N b b' → Type 0
    BodyCalls (opens_in a i h o l) = Unit {0}
    BodyCalls (ends_in l) = ExpCalls l
    BodyCalls (runs_on i j h a l) = ExpCalls a × BodyCalls l
    BodyCalls (declares_all {xs = xs} {ys = ys} M d l) = AllLike S xs ys × BodyCalls l
    BodyCalls (lets_in M i j h c b l) = MatchedCalls c × BindingsSo S b × BodyCalls l
    BodyCalls (reads_place {s' = s} {n = n} {z = z} {y = y} {J = J} {R = N} {m = m} {v = v} {b = b} {b' = b'} l) =
        BodyAsked S J N (tree.lets s (tree.bind n z (tree.by_value v)) (tree.at_place m (tree.own y)) b') (changed_body (at_the_block A.run A.home.around.loops k.params) b)
    BodyCalls (looks_behind {s' = s} {y = y} {J = J} {R = N} {m = m} {q' = q} {b = b} {b' = b'} x e a l) =
        BodyAsked S J N (tree.lets s q (tree.at_place m (tree.own y)) b') (changed_body (at_the_block A.run A.home.around.loops k.params) b)
