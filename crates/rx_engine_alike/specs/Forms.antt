-- Whether typed parts of two programs are alike, by one walk over the text's tree (Rust Reference, "Expressions", "Statements"): one clause a
-- form. A block may be left open; in a run, jumps out of it and returns are returns of variants.
use Rattle.std.specs.Prelude.{ℕ, ◌==◌, nat_eq, Bool, true, false, not, ◌&&◌, ◌||◌, List, [], ◌∷◌, Option, Some, None}
use Rattle.rx_core.specs.declared.types.Step.{Step}
use Rattle.rx_core.specs.declared.types.Step.TheVariants as step
use Rattle.rx_typed.specs.Tree as tree
use Rattle.rx_typed.specs.Tree.{Root, Place, Pattern, Mark, Exp, Operands, Scrutinee, Arms, Body, fields_of, variable}
use Rattle.rx_exits_plan.specs.Marked.{is_among}
use Rattle.rx_engine_simulation.specs.Sights.{How, viewed, Sight, Renaming, sight_of}
use Rattle.rx_engine_simulation.specs.Jumps.{Returning, as_return, with_value, with_unit, no_return, Jumping, in_loop, loop_of}
use Rattle.rx_engine_simulation.specs.Places.{looking, writing, use_of}
use Rattle.rx_engine_alike.specs.Likeness.{Likeness, unlike, alike, both, but_open, choose, provided, when}
use Rattle.rx_engine_alike.specs.Read.{as_read, as_borrow, as_share, as_build, as_unit, as_lazily, as_assign, as_update, as_call, as_input, as_print, as_block, as_choose, as_loop, as_jump, as_give, as_no_operand, as_operand, as_no_arm, as_arm, as_ends, as_runs, as_declares, as_lets}
use Rattle.rx_engine_alike.specs.Same.{same_bool, same_operator, like_making}
use Rattle.rx_engine_alike.specs.Ways.{Way, apart, from_value, way_of, like_place}
use Rattle.rx_engine_alike.specs.Variables.{Ways, is_new, like_declared}
use Rattle.rx_engine_alike.specs.Patterns.{way_of_matched, like_tests, like_bindings, looks_behind, binds_value}
use Rattle.rx_engine_alike.specs.Units.{gives_unit}
use Rattle.rx_engine_alike.specs.Giving.{is_unit, gives_variant}
use Rattle.rx_engine_alike.specs.Leaving.{gives_pack, part_of_variant, bound_in_block, is_apart, stays_in, is_number}

-- what the walk is told of both programs
pub record Between : Type 0 where
  -- the items of the answer for those of the text
  pub items : ℕ → ℕ
  -- how new variables are seen
  pub ways : Ways
  -- functions of the text that give the unit
  pub units : List ℕ
  -- in a run, the loops around it
  pub outside : List ℕ
  -- the node of the block that is left open
  pub left_open : Option ℕ

abbrev pub is_open : Option ℕ → ℕ → Bool
is_open None n = false
is_open (Some k) n = n == k

-- ---- references of the text that are shared in the answer

abbrev pub is_viewed : How → Bool
is_viewed viewed = true
is_viewed _ = false

abbrev pub is_viewed_as : Option Sight → ℕ → Bool
is_viewed_as None y = false
is_viewed_as (Some e) y = nat_eq e.to y && is_viewed e.how

-- what the variable in the first place leads to is asked for again, where the answer has the shared reference in the second
abbrev pub views_from : Renaming → Bool → Root → List Step → Root → List Step → Bool
views_from R false (variable x) (step.Deref n ∷ []) (variable y) [] = is_viewed_as (sight_of R x) y
views_from R _ _ _ _ _ = false

abbrev pub views_place : Renaming → Bool → Place → Place → Bool
views_place R b p q = views_from R b p.root p.steps q.root q.steps

-- the text's value is the answer's, read in this place
abbrev pub is_read_in : Renaming → Place → Exp → Bool
is_read_in R q (tree.read m v p) = like_place R looking p q
is_read_in R q (tree.borrow m b p) = views_place R b p q
is_read_in R q _ = false

abbrev pub is_variable : Root → List Step → Bool
is_variable (variable y) [] = true
is_variable _ _ = false

abbrev pub looks_behind_place : Root → List Step → Pattern → Bool
looks_behind_place (variable y) [] q = looks_behind y q
looks_behind_place _ _ q = false

abbrev pub views_exp : Renaming → Exp → Place → Bool
views_exp R (tree.borrow m b p) q = views_place R b p q
views_exp R _ q = false

-- a `let` of the answer may look into this place where the text binds that value
abbrev pub may_be_read : Renaming → Exp → Pattern → Place → Bool
may_be_read R e q p = is_read_in R p e && ((binds_value q && is_variable p.root p.steps) || (views_exp R e p && looks_behind_place p.root p.steps q))

-- ---- what a `let` matches, with the answer's pattern

abbrev pub value_way : Bool → Way
value_way true = from_value
value_way false = apart

abbrev pub way_of_let : Renaming → Scrutinee → Pattern → Scrutinee → Way
way_of_let R (tree.of_value e) q (tree.at_place m p) = value_way (may_be_read R e q p)
way_of_let R c q c' = way_of_matched R c c'

-- ---- jumps: out of the run, or to a loop inside of what is looked at

abbrev pub jumped : Jumping → Renaming → Bool → ℕ → Bool → Exp → Likeness
jumped J R true l again e' = when (as_give e') (λ r. provided (gives_pack R (J.leaving l again) r.1) alike)
jumped J R false l again e' = when (as_jump e') (λ r. provided (is_number (loop_of J.loops l) r.1 && same_bool again r.2) alike)

-- ---- what is returned: with what is said of the text's value and another

-- a return stays one, or it is of a variant, with the value or without one for the unit, which is bound in front where it is an expression's
abbrev pub returned : List ℕ → Renaming → Returning → Exp → (Exp → Likeness) → Exp → Likeness
returned U R as_return e f e' = f e'
returned U R (with_value v) e f e' = when (part_of_variant v e') f
returned U R (with_unit v) e f e' =
    choose (is_unit e) (provided (gives_variant v [] e') alike) (provided (gives_unit U e) (when (bound_in_block e') (λ r. provided (is_new R r.0 && gives_variant v [] r.2) (f r.1))))
returned U R no_return e f e' = unlike

-- ---- form by form

module _ (C : Between) where
  abbrev mutual
    pub like_exp : Jumping → Renaming → Exp → Exp → Likeness
    like_exp J R (tree.read m v p) e' = when (as_read e') (λ r. provided (like_place R looking p r.2) alike)
    like_exp J R (tree.borrow m b p) (tree.read m' v q) = provided (views_place R b p q) alike
    like_exp J R (tree.borrow m b p) e' = when (as_borrow e') (λ r. provided (same_bool b r.1 && like_place R (use_of b) p r.2) alike)
    like_exp J R (tree.share m e) e' = when (as_share e') (λ r. like_exp J R e r.1)
    like_exp J R (tree.build m w es) e' = when (as_build e') (λ r. provided (like_making w r.1 (fields_of es)) (like_all J R es r.2))
    like_exp J R (tree.unit m) e' = when (as_unit e') (λ r. alike)
    like_exp J R (tree.lazily m b e f) e' = when (as_lazily e') (λ r. provided (same_bool b r.1) (both (like_exp J R e r.2) (like_exp J R f r.3)))
    like_exp J R (tree.assign m p e) e' = when (as_assign e') (λ r. provided (like_place R writing p r.1) (like_exp J R e r.2))
    like_exp J R (tree.update m o p e) e' = when (as_update e') (λ r. provided (same_operator o r.1 && (like_place R looking p r.2 && like_place R writing p r.2)) (like_exp J R e r.3))
    like_exp J R (tree.call m f es) e' = when (as_call e') (λ r. provided (nat_eq (C.items f) r.1) (like_all J R es r.2))
    like_exp J R (tree.input m) e' = when (as_input e') (λ r. alike)
    like_exp J R (tree.print m e) e' = when (as_print e') (λ r. like_exp J R e r.1)
    like_exp J R (tree.block m b) e' = when (as_block e') (λ r. but_open (is_open C.left_open m.node) (record { loops = J.loops; inside = R; text = b; answer = r.1 }) (like_body J R b r.1))
    like_exp J R (tree.choose m c l) e' = when (as_choose e') (λ r. both (like_matched J R c r.1) (like_arms J R (way_of_matched R c r.1) l r.2))
    like_exp J R (tree.loop m l e) e' = when (as_loop e') (λ r. provided (not (is_among l C.outside) && (stays_in J l && is_apart J.loops r.1)) (like_exp (in_loop J l r.1) R e r.2))
    like_exp J R (tree.jump m l again) e' = jumped J R (is_among l C.outside) l again e'
    like_exp J R (tree.give m e) e' = when (as_give e') (λ r. returned C.units R J.returning e (λ f. like_exp J R e f) r.1)

    pub like_all : Jumping → Renaming → Operands → Operands → Likeness
    like_all J R tree.no_operand es' = when (as_no_operand es') (λ r. alike)
    like_all J R (tree.operand_and n e es) es' = when (as_operand es') (λ r. provided (nat_eq n r.0) (both (like_exp J R e r.1) (like_all J R es r.2)))

    -- a place is looked at by the arms
    pub like_matched : Jumping → Renaming → Scrutinee → Scrutinee → Likeness
    like_matched J R (tree.at_place m p) (tree.at_place m' q) = alike
    like_matched J R (tree.of_value e) (tree.of_value f) = like_exp J R e f
    like_matched J R _ _ = unlike

    pub like_arms : Jumping → Renaming → Way → Arms → Arms → Likeness
    like_arms J R w tree.no_arm l' = when (as_no_arm l') (λ r. alike)
    like_arms J R w (tree.arm_and q e l) l' = when (as_arm l') (λ r. provided (like_tests w q r.0) (when (like_bindings C.ways w R q r.0) (λ Ra. both (like_exp J Ra e r.1) (like_arms J R w l r.2))))

    -- by the answer's pattern
    pub like_let : Jumping → Renaming → Scrutinee → Pattern → Scrutinee → Likeness
    like_let J R (tree.of_value e) q (tree.at_place m p) = provided (may_be_read R e q p) alike
    like_let J R (tree.at_place m p) q (tree.at_place m' p') = alike
    like_let J R (tree.of_value e) q (tree.of_value f) = like_exp J R e f
    like_let J R _ q _ = unlike

    pub like_body : Jumping → Renaming → Body → Body → Likeness
    like_body J R (tree.ends e) b' = when (as_ends b') (λ r. like_exp J R e r)
    like_body J R (tree.runs e b) b' = when (as_runs b') (λ r. both (like_exp J R e r.0) (like_body J R b r.1))
    like_body J R (tree.declares s xs b) b' = when (as_declares b') (λ r. when (like_declared C.ways R xs r.1) (λ Ra. like_body J Ra b r.2))
    like_body J R (tree.lets s q c b) b' = when (as_lets b') (λ r. both (like_let J R c r.1 r.2) (when (like_bindings C.ways (way_of_let R c r.1 r.2) R q r.1) (λ Ra. like_body J Ra b r.3)))
