-- An extraction by hand that forgets what its run hands out: `let y; y = 1; println!(y);` became `let y; f(); println!(y);`.
use Rattle.std.specs.Prelude.{ℕ, Bool, false, List, [], ◌∷◌, Some, None}
use Rattle.rx_typed.specs.Types.{boolean}
use Rattle.rx_typed.specs.Tree as tree
use Rattle.rx_typed.specs.Tree.{Mark, Function, own}
use Rattle.rx_facts_tables.specs.Places.{Frame}

abbrev pub at : ℕ → Mark
at n = record { node = n; typ = None }

-- the only variable is a truth value
abbrev pub one_boolean : Frame
one_boolean = record { declared = []; sizes = λ i. 1; types = Some boolean ∷ [] }

abbrev pub none_mut : List Bool
none_mut = false ∷ []

abbrev pub forgetting : Function
forgetting = record {
  params = [];
  body = tree.block (at 1) (tree.declares 2 (0 ∷ []) (tree.runs (tree.call (at 3) 5 tree.no_operand) (tree.runs (tree.print (at 5) (tree.read (at 6) false (own 0))) (tree.ends (tree.give (at 1) (tree.unit (at 1)))))));
}
