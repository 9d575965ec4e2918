-- New functions by hand that are wrong. For `w.0 = true;` where parts of `w` were moved one by one, `let mut w; w.0 = true;`: such a run is refused. For
-- `x = true; x = true;` where the text has `let mut x;`, `let x; x = true; x = true;`. And a function with the call that is wrong: for `x = true;` in
-- `let x; x = true; x`, the call alone, `let x; g(); x`, so that what the run hands out is forgotten.
use Rattle.std.specs.Prelude.{ℕ, Bool, true, false, List, [], ◌∷◌, Some, None}
use Rattle.rx_core.specs.declared.types.Step.TheVariants as step
use Rattle.rx_typed.specs.Types.{Typ, boolean, tuple_of, no_shape, shape_and}
use Rattle.rx_typed.specs.Tree as tree
use Rattle.rx_typed.specs.Tree.{Mark, Exp, Function, own, under}
use Rattle.rx_facts_tables.specs.Places.{Frame}

abbrev pub at : ℕ → Mark
at n = record { node = n; typ = None }

-- the only variable is of this type
abbrev pub one_of : Typ → Frame
one_of t = record { declared = []; sizes = λ i. 1; types = Some t ∷ [] }

abbrev pub two_booleans : Typ
two_booleans = tuple_of (shape_and boolean (shape_and boolean no_shape))

abbrev pub one_mut : Bool → List Bool
one_mut b = b ∷ []

abbrev pub true_at : ℕ → Exp
true_at n = tree.build (at n) (tree.constant (tree.truth true)) tree.no_operand

abbrev pub entering_a_part : Function
entering_a_part = record {
  params = [];
  body = tree.block (at 1) (tree.declares 2 (0 ∷ []) (tree.runs (tree.assign (at 3) (under (own 0) (step.Field 0 ∷ [])) (true_at 4)) (tree.ends (tree.give (at 1) (tree.unit (at 1))))));
}

abbrev pub assigning_again : Function
assigning_again = record {
  params = [];
  body = tree.block (at 1) (tree.declares 2 (0 ∷ []) (tree.runs (tree.assign (at 3) (own 0) (true_at 4)) (tree.runs (tree.assign (at 5) (own 0) (true_at 6)) (tree.ends (tree.give (at 1) (tree.unit (at 1)))))));
}

abbrev pub forgetting_an_out : Function
forgetting_an_out = record {
  params = [];
  body = tree.block (at 1) (tree.declares 2 (0 ∷ []) (tree.runs (tree.call (at 3) 1 tree.no_operand) (tree.ends (tree.read (at 4) false (own 0)))));
}
