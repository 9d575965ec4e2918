-- What is asked besides along trees that the relation of trees has as alike (rx_engine_simulation), but for what types say: each variable that begins
-- is of the text's type; no loop has the number of one around it; and where the relation is open, or has an answer's read for what the text
-- does otherwise, what is asked there (rx_engine_initial_related).
use Rattle.std.specs.Prelude.{◌≡◌, ℕ, ◌==◌, Bool, false, List, [], ◌∷◌, None}
use Rattle.rx_core.specs.declared.types.Step.TheVariants as step
use Rattle.rx_typed.specs.Tree as tree
use Rattle.rx_typed.specs.Tree.{Mark, Exp, Operands, Scrutinee, Arms, Body}
use Rattle.rx_lower_walks.specs.Matching.{Binding}
use Rattle.rx_lower_walks.specs.Actions.{Subject}
use Rattle.rx_exits_plan.specs.Changed.{changed_body}
use Rattle.rx_exits_plan.specs.Marked.{marked_body, at_the_block}
use Rattle.rx_exits_plan.specs.Asked.{Asked}
use Rattle.rx_exits_plan.specs.Plan.{Plan}
use Rattle.rx_engine_simulation.specs.Turns.{Allowance}
use Rattle.rx_engine_simulation.specs.Histories.{Facts}
use Rattle.rx_engine_simulation.specs.Sights.{Renaming}
use Rattle.rx_engine_simulation.specs.Jumps.{Jumping, loop_of}
use Rattle.rx_engine_simulation.specs.Openings.{Openings}
use Rattle.rx_engine_simulation.specs.Blocks.{Stretch}
use Rattle.rx_engine_simulation.specs.Packing.{Way}
use Rattle.rx_engine_simulation.specs.Endings.{Last}
use Rattle.rx_engine_simulation.specs.Binders.{LikeBindings, no_binding, binding_and}
use Rattle.rx_engine_simulation.specs.Like.{LikeExp, opens, reads, borrows, views, shares, builds, builds_structs, builds_variants, units, lazies, assigns, updates, calls, inputs, prints, blocks, chooses, loops, stays, gives, LikeAll, no_operands, operands_and, LikeMatched, at_places, of_values, LikeArms, no_arms, arms_and, LikeBody, opens_in, ends_in, runs_on, declares_all, lets_in, reads_place, looks_behind}
use Rattle.rx_modes_policy.specs.declared.uses.Mode.{Mode}
use Rattle.rx_engine_simulation.specs.Passing.{New}
use Rattle.rx_engine_related.specs.Standing.{RunBecomesCall, the_call}
use Rattle.rx_engine_related.specs.InBlock.{RunBlock, run_block, in_its_block}
use Rattle.rx_engine_related.specs.Leaving.{Left, left, left_by_jump, left_by_return, left_with_value, left_with_unit}
use Rattle.rx_engine_related.specs.Moved.{Moved, moved_all, moved_statement, moved_declaration, moved_let, moved_read, moved_look, Ended, gives_outs, gives_last, gives_never, gives_left}
use Rattle.rx_engine_blocks.specs.Renumbering.{Renumbering}
use Rattle.rx_engine_initial.specs.Variables.{Sides}
use Rattle.rx_engine_initial_forms.specs.Following.{ExpAsked, BodyAsked}
use Rattle.rx_engine_initial_related.specs.AlsoMarked.{AlsoMarked, AlsoMarkedBody}
use Rattle.rx_engine_initial_typed.specs.SameTypes.{SameVariable}

-- what is asked where the relation is open, with the answer's part inside and what is asked of it; of another block; and of statements that read
-- in place of what the text does
pub record Besides (O : Openings) (V : Facts) : Type 1 where
  pub opened : {a : ℕ} {J : Jumping} {N : Renaming} {e : Exp} {f g : Exp → Exp} → O.expression V a J N e f g → Exp → Type 0 → Type 0
  pub within : {a : ℕ} {J : Jumping} {N M : Renaming} {b : Body} {f g : Body → Body} → O.statements V a J N M b f g → Body → Type 0
  pub block : Mark → Type 0
  pub statements : Jumping → Renaming → Body → Body → Type 0

abbrev pub SamePairs : Renumbering → Sides → List ℕ → List ℕ → Type 0
SamePairs r S (x ∷ xs) (y ∷ ys) = SameVariable r S x y × SamePairs r S xs ys
SamePairs r S _ _ = Unit {0}

abbrev pub SameBindings : (r : Renumbering) (S : Sides) {V : Facts} {X Y : Subject} {N M : Renaming} {bs cs : List Binding} → LikeBindings V X Y N bs cs M → Type 0
SameBindings r S no_binding = Unit {0}
SameBindings r S (binding_and {b = b} {b' = c} w t s n e f l) = SameVariable r S b.variable c.variable × SameBindings r S l

module _ (r : Renumbering) (S : Sides) {items : ℕ → ℕ} {O : Openings} {gain : Allowance} {V : Facts} (B : Besides O V) where
  abbrev mutual
    pub ExpOfTypes : {i : ℕ} {J : Jumping} {N : Renaming} {e e' : Exp} → LikeExp items O gain V i J N e e' → Type 0
    ExpOfTypes (opens {e' = f} a i h o l) = B.opened o f (ExpOfTypes l)
    ExpOfTypes (reads l) = Unit {0}
    ExpOfTypes (borrows l) = Unit {0}
    ExpOfTypes (views {x = x} {y = y} {J = J} {R = N} {m = m} {m' = m'} {n = n} {moves = z} h) = ExpAsked S J N (tree.read m' z (tree.own y)) (tree.borrow m false (tree.under (tree.own x) (step.Deref n ∷ [])))
    ExpOfTypes (shares l) = ExpOfTypes l
    ExpOfTypes (builds f l) = AllOfTypes l
    ExpOfTypes (builds_structs f l) = AllOfTypes l
    ExpOfTypes (builds_variants f l) = AllOfTypes l
    ExpOfTypes units = Unit {0}
    ExpOfTypes (lazies i j h a b) = ExpOfTypes a × ExpOfTypes b
    ExpOfTypes (assigns p l) = ExpOfTypes l
    ExpOfTypes (updates p q l) = ExpOfTypes l
    ExpOfTypes (calls l) = AllOfTypes l
    ExpOfTypes inputs = Unit {0}
    ExpOfTypes (prints l) = ExpOfTypes l
    ExpOfTypes (blocks {m = m} l) = B.block m × BodyOfTypes l
    ExpOfTypes (chooses i j h c l) = MatchedOfTypes c × ArmsOfTypes l
    ExpOfTypes (loops {l = n} {J = J} f g h l) = (loop_of J.loops n ≡ None) × ExpOfTypes l
    ExpOfTypes (stays h) = Unit {0}
    ExpOfTypes (gives h l) = ExpOfTypes l

    pub AllOfTypes : {i : ℕ} {J : Jumping} {N : Renaming} {es es' : Operands} → LikeAll items O gain V i J N es es' → Type 0
    AllOfTypes no_operands = Unit {0}
    AllOfTypes (operands_and i j h a l) = ExpOfTypes a × AllOfTypes l

    pub MatchedOfTypes : {i : ℕ} {J : Jumping} {N : Renaming} {c c' : Scrutinee} → LikeMatched items O gain V i J N c c' → Type 0
    MatchedOfTypes at_places = Unit {0}
    MatchedOfTypes (of_values l) = ExpOfTypes l

    pub ArmsOfTypes : {i : ℕ} {J : Jumping} {N : Renaming} {c c' : Scrutinee} {l l' : Arms} → LikeArms items O gain V i J N c c' l l' → Type 0
    ArmsOfTypes no_arms = Unit {0}
    ArmsOfTypes (arms_and M t b e l) = SameBindings r S b × ExpOfTypes e × ArmsOfTypes l

    pub BodyOfTypes : {i : ℕ} {J : Jumping} {N : Renaming} {b b' : Body} → LikeBody items O gain V i J N b b' → Type 0
    BodyOfTypes (opens_in {b' = c} a i h o l) = B.within o c
    BodyOfTypes (ends_in l) = ExpOfTypes l
    BodyOfTypes (runs_on i j h a l) = ExpOfTypes a × BodyOfTypes l
    BodyOfTypes (declares_all {xs = xs} {ys = ys} M d l) = SamePairs r S xs ys × BodyOfTypes l
    BodyOfTypes (lets_in M i j h c b l) = MatchedOfTypes c × SameBindings r S b × BodyOfTypes l
    BodyOfTypes (reads_place {s' = s} {n = n} {z = z} {y = y} {J = J} {R = N} {m = m} {v = v} {b = b} {b' = b'} l) = B.statements J N b (tree.lets s (tree.bind n z (tree.by_value v)) (tree.at_place m (tree.own y)) b')
    BodyOfTypes (looks_behind {s' = s} {y = y} {J = J} {R = N} {m = m} {q' = q} {b = b} {b' = b'} x e a l) = B.statements J N b (tree.lets s q (tree.at_place m (tree.own y)) b')

-- along the caller: where the run's block is, that it is alike the text's with all its marks; another block is not the run's
abbrev pub BlockAsked : (S : Sides) (A : Asked) (k : Plan) {items : ℕ → ℕ} {O : Openings} {gain : Allowance} {a : ℕ} {J : Jumping} {N : Renaming} {f g : Exp → Exp} → RunBlock A S.muts_there k items O gain a J N f g → Type 0
BlockAsked S A k (run_block {J = J} {R = N} {m = m} {m' = n} {b = b} {b' = c} q t) = ExpAsked S J N (tree.block n c) (tree.block m (marked_body A.run A.home.around.loops k.params b))

-- what is asked there, with what is asked elsewhere
pub record AtBlock (A : Asked) (muts : List Bool) (k : Plan) (items : ℕ → ℕ) (O : Openings) (gain : Allowance) : Type 1 where
  pub asked : {a : ℕ} {J : Jumping} {N : Renaming} {f g : Exp → Exp} → RunBlock A muts k items O gain a J N f g → Type 0

abbrev pub in_caller_with : (S : Sides) (A : Asked) (k : Plan) {items : ℕ → ℕ} {O : Openings} {gain : Allowance} {V : Facts} → AtBlock A S.muts_there k items O gain → Besides (in_its_block A S.muts_there k items O gain) V
in_caller_with S A k W = record {
  opened = λ o f t. W.asked o;
  within = λ o c. Unit {0};
  block = λ m. (m.node == A.run.block) ≡ false;
  statements = λ J N b c. BodyAsked S J N c (changed_body (at_the_block A.run A.home.around.loops k.params) b);
}

abbrev pub alike_there : (S : Sides) (A : Asked) (k : Plan) {items : ℕ → ℕ} {O : Openings} {gain : Allowance} → AtBlock A S.muts_there k items O gain
alike_there S A k = record { asked = λ o. BlockAsked S A k o }

abbrev pub in_caller : (S : Sides) (A : Asked) (k : Plan) {items : ℕ → ℕ} {O : Openings} {gain : Allowance} {V : Facts} → Besides (in_its_block A S.muts_there k items O gain) V
in_caller S A k = in_caller_with S A k (alike_there S A k)

-- along the run's statements in the new function: of a value that is returned, as of others; of a unit that is bound first, that what returns it is
-- alike
abbrev pub LeftAsked : (S : Sides) {U : List ℕ} {a : ℕ} {J : Jumping} {N : Renaming} {e : Exp} {f g : Exp → Exp} → Left U a J N e f g → Exp → Type 0 → Type 0
LeftAsked S (left_by_jump p q v g) e' t = Unit {0}
LeftAsked S (left_by_return q g) e' t = Unit {0}
LeftAsked S (left_with_value q) e' t = t
LeftAsked S (left_with_unit {J = J} {R = N} {e = e} {g = g} {m = m} {m' = n} {mb = c} {n = i} {k = j} {o = o} {mutable = b} q u w h) e' t =
    (x : Exp) → AlsoMarked (tree.give m e) x → ExpAsked S J N (tree.give n (tree.block c (tree.lets i (tree.bind j o (tree.by_value b)) (tree.of_value e') (tree.ends g)))) x

abbrev pub in_new_function : (S : Sides) {U : List ℕ} {V : Facts} → Besides (left U) V
in_new_function S = record {
  opened = λ o e' t. LeftAsked S o e' t;
  within = λ o c. Unit {0};
  block = λ m. Unit {0};
  statements = λ J N b c. (x : Body) → AlsoMarkedBody b x → BodyAsked S J N c x;
}

-- in front of the run in its block, and behind it: where more of it became the call, that it is alike
abbrev pub WithinAsked : (S : Sides) {A : Asked} {muts : List Bool} {k : Plan} {modes : List Mode} {items : ℕ → ℕ} {gain : Allowance} {U : List ℕ} {F : New} {a : ℕ} {J : Jumping} {N M : Renaming} {b : Body} {f g : Body → Body}
    → RunBecomesCall A muts k modes items gain U F a J N M b f g → Body → Type 0
WithinAsked S {J = J} {N = N} {b = b} {f = f} {g = g} o c = BodyAsked S J N (g c) (f b)

abbrev pub around_call : (S : Sides) {A : Asked} {muts : List Bool} {k : Plan} {modes : List Mode} {items : ℕ → ℕ} {gain : Allowance} {U : List ℕ} {F : New} {V : Facts} → Besides (the_call A muts k modes items gain U F) V
around_call S = record {
  opened = λ o e' t. Unit {0};
  within = λ o c. WithinAsked S o c;
  block = λ m. Unit {0};
  statements = λ J N b c. BodyAsked S J N c b;
}

-- so statement by statement
abbrev pub StretchOfTypes : (r : Renumbering) (S : Sides) {items : ℕ → ℕ} {gain : Allowance} {U : List ℕ} {special : List ℕ} {J : Jumping} {N M : Renaming} {s s' : Stretch} → Moved items gain U special J N s s' M → Type 0
StretchOfTypes r S moved_all = Unit {0}
StretchOfTypes r S (moved_statement l m) = ExpOfTypes r S (in_new_function S) l × StretchOfTypes r S m
StretchOfTypes r S (moved_declaration {xs = xs} {ys = ys} d m) = SamePairs r S xs ys × StretchOfTypes r S m
StretchOfTypes r S (moved_let c b m) = MatchedOfTypes r S (in_new_function S) c × SameBindings r S b × StretchOfTypes r S m
StretchOfTypes r S (moved_read m) = ⊥
StretchOfTypes r S (moved_look x h a m) = ⊥

-- and of the statement that is left for the new function's end
abbrev pub EndOfTypes : (r : Renumbering) (S : Sides) {items : ℕ → ℕ} {gain : Allowance} {U : List ℕ} {special : List ℕ} {J : Jumping} {R : Renaming} {l : Last} {w : Way} {xs : List ℕ} {end : Body}
    → Ended items gain U special J R l w xs end → Type 0
EndOfTypes r S (gives_outs h g) = Unit {0}
EndOfTypes r S (gives_last l) = ExpOfTypes r S (in_new_function S) l
EndOfTypes r S gives_never = Unit {0}
EndOfTypes r S (gives_left l) = ExpOfTypes r S (in_new_function S) l
