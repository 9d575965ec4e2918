-- Whether patterns of both test alike and bind alike, where what they are matched with stands so (Rust Reference, "Patterns", "Binding modes").
use Rattle.std.specs.Prelude.{ℕ, nat_eq, Bool, true, false, not, ◌&&◌, ◌||◌, List, [], Option, Some, None}
use Rattle.rx_core.specs.declared.types.Step.TheVariants as step
use Rattle.rx_typed.specs.Tree as tree
use Rattle.rx_typed.specs.Tree.{Mode, by_value, by_reference, Pattern, Subpatterns, Root, variable, Scrutinee, Place}
use Rattle.rx_core.specs.declared.types.Step.{Step}
use Rattle.rx_engine_simulation.specs.Sights.{Renaming}
use Rattle.rx_engine_simulation.specs.Places.{looking, use_of}
use Rattle.rx_engine_alike.specs.Likeness.{if_so, and_then}
use Rattle.rx_engine_alike.specs.Same.{same_bool, same_constant}
use Rattle.rx_engine_alike.specs.Ways.{Way, apart, from_value, then_step, by_dereference, way_of, may}
use Rattle.rx_engine_alike.specs.Variables.{Ways, with_new}

-- how what is matched stands to each other
abbrev pub way_of_matched : Renaming → Scrutinee → Scrutinee → Way
way_of_matched R (tree.at_place m p) (tree.at_place m' q) = way_of R p q
way_of_matched R (tree.of_value e) (tree.of_value f) = from_value
way_of_matched R _ _ = apart

abbrev mutual
  pub like_tests : Way → Pattern → Pattern → Bool
  like_tests w tree.any tree.any = true
  like_tests w (tree.bind n x m) (tree.bind n' y m') = true
  like_tests w (tree.exactly n c) (tree.exactly n' d) = may looking w && same_constant c d
  like_tests w (tree.parts ps) (tree.parts qs) = like_tests_in w ps qs
  like_tests w (tree.variant n i several v ps) (tree.variant n' j several' u qs) =
      same_bool several several' && ((not several || (may looking w && nat_eq v u)) && like_tests_in (then_step w (step.Variant v) (step.Variant u)) ps qs)
  like_tests w (tree.behind m p) (tree.behind k q) = like_tests (by_dereference w) p q
  like_tests w _ _ = false

  pub like_tests_in : Way → Subpatterns → Subpatterns → Bool
  like_tests_in w tree.no_part tree.no_part = true
  like_tests_in w (tree.part_and i p ps) (tree.part_and j q qs) = like_tests (then_step w (step.Field i) (step.Field j)) p q && like_tests_in w ps qs
  like_tests_in w _ _ = false

-- a part is read where it stands alike, or borrowed alike
abbrev pub like_mode : Way → Mode → Mode → Bool
like_mode w (by_value v) (by_value u) = may looking w
like_mode w (by_reference k) (by_reference l) = same_bool k l && may (use_of k) w
like_mode w _ _ = false

abbrev mutual
  pub like_bindings : Ways → Way → Renaming → Pattern → Pattern → Option Renaming
  like_bindings L w R tree.any tree.any = Some R
  like_bindings L w R (tree.bind n x m) (tree.bind n' y m') = if_so (like_mode w m m') (with_new L R x y)
  like_bindings L w R (tree.exactly n c) (tree.exactly n' d) = Some R
  like_bindings L w R (tree.parts ps) (tree.parts qs) = like_bindings_in L w R ps qs
  like_bindings L w R (tree.variant n i several v ps) (tree.variant n' j several' u qs) = like_bindings_in L (then_step w (step.Variant v) (step.Variant u)) R ps qs
  like_bindings L w R (tree.behind m p) (tree.behind k q) = like_bindings L (by_dereference w) R p q
  like_bindings L w R _ _ = None

  pub like_bindings_in : Ways → Way → Renaming → Subpatterns → Subpatterns → Option Renaming
  like_bindings_in L w R tree.no_part tree.no_part = Some R
  like_bindings_in L w R (tree.part_and i p ps) (tree.part_and j q qs) =
      and_then (like_bindings L (then_step w (step.Field i) (step.Field j)) R p q) (λ Ra. like_bindings_in L w Ra ps qs)
  like_bindings_in L w R _ _ = None

-- ---- a pattern that looks behind the reference in a variable: what it binds is borrowed from there, and is not that variable

abbrev mutual
  pub all_borrow : ℕ → Pattern → Bool
  all_borrow y (tree.bind n x (by_reference k)) = not (nat_eq x y)
  all_borrow y (tree.bind n x (by_value v)) = false
  all_borrow y (tree.parts ps) = all_borrow_in y ps
  all_borrow y (tree.variant n i several v ps) = all_borrow_in y ps
  all_borrow y (tree.behind m p) = all_borrow y p
  all_borrow y _ = true

  pub all_borrow_in : ℕ → Subpatterns → Bool
  all_borrow_in y tree.no_part = true
  all_borrow_in y (tree.part_and i p ps) = all_borrow y p && all_borrow_in y ps

abbrev pub looks_behind : ℕ → Pattern → Bool
looks_behind y tree.any = true
looks_behind y (tree.behind m p) = all_borrow y p
looks_behind y _ = false

abbrev pub binds_value : Pattern → Bool
binds_value (tree.bind n z (by_value v)) = true
binds_value _ = false
