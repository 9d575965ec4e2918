-- The new function of an extraction without bounds has none.
use Rattle.std.proofs.Common.{◌≡◌, ℕ, List, [], ◌∷◌, map, Some, refl}
use Rattle.rx_core.specs.declared.types.Span.{Span}
use Rattle.rx_tree.specs.declared.tree.BoundLifetime.{BoundLifetime}
use Rattle.rx_tree.specs.declared.tree.Ident.{Ident}
use Rattle.rx_tree.specs.Lists.{nth, Every}
use Rattle.rx_tree.specs.Plain as plain
use Rattle.rx_tree.specs.Plain.{Function, ProgramTree}
use Rattle.rx_hoist_extraction.specs.Run.{Run, loops_round, run_parts}
use Rattle.rx_hoist_extraction.specs.Plan.{Plan}
use Rattle.rx_hoist_extraction.specs.Pinned.{pinned_function}
use Rattle.rx_hoist_extraction.specs.NewFunction.{new_function, new_lifetimes, shorts_of}
use Rattle.rx_hoist_extraction.specs.Extraction.{extraction, new_number}
use Rattle.rx_hoist_extraction.proofs.NewItemsAt.{new_function_at}
use Rattle.rx_engine_extraction.specs.Hoisting.{IsBare}

none_short : (s : Span) (ls : List Ident) (long : List ℕ) → shorts_of s [] ls long ≡ []
none_short s [] long = refl
none_short s (l ∷ ls) long = none_short s ls long

all_bare : (s : Span) (all ls : List Ident) → Every (λ (l : BoundLifetime). l.bounds ≡ []) (map (λ (l : Ident). record { name = l; bounds = shorts_of s [] all l.name }) ls)
all_bare s all [] = tt
all_bare s all (l ∷ ls) = (none_short s all l.name, all_bare s all ls)

pub extraction_bare : (p : ProgramTree) (r : Run) (pl : Plan) (s : Span) (f : Function) → nth p r.item ≡ Some (plain.function_item s f) → IsBare (extraction p r pl []) (new_number r pl)
extraction_bare p r pl s f e = let g = pinned_function p r.span pl.pins f in record {
  span = r.span;
  function = new_function p pl [] r.span (loops_round r g) (run_parts r g);
  there = new_function_at p r pl [] s f e;
  bare = let ls = new_lifetimes p pl r.span (run_parts r g) in all_bare r.span ls ls;
}
