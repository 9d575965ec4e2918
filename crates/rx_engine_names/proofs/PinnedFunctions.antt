-- A function whose kinds and types are written out is like that of the text, in any program with new items.
use Rattle.std.proofs.Common.{◌≡◌, ℕ, List, [], Option, Some, None, Ok, refl}
use Rattle.rx_core.specs.declared.types.Span.{Span}
use Rattle.rx_tree.specs.Plain as plain
use Rattle.rx_tree.specs.Plain.{Function, ItemTree, ProgramTree}
use Rattle.rx_resolve_names.specs.declared.resolved.ItemNames.{ItemNames}
use Rattle.rx_resolve_names.specs.Meant.{number, firsts, lifetimes_declared}
use Rattle.rx_resolve_names.specs.Items.{in_item, in_program}
use Rattle.rx_typed.specs.Naming.{function_named}
use Rattle.rx_hoist_extraction.specs.Plan.{Pins}
use Rattle.rx_hoist_extraction.specs.Pinned.{pinned_suffix, pinned_type, pinned_function}
use Rattle.rx_engine_names.specs.LikeNamed.{LikeFunction}
use Rattle.rx_engine_names.specs.Alike.{same_numbers}
use Rattle.rx_engine_names.specs.WrittenOut.{written_out, PinsName}
use Rattle.rx_engine_names.proofs.KeptItems.{Keeps, keeps_fits}
use Rattle.rx_engine_names.specs.ParameterNames.{parameter_names}
use Rattle.rx_engine_names.proofs.ChangedFunctions.{untold, function_item_alike}
use Rattle.rx_engine_names.proofs.KeptPrograms.{lockstep, same_serve, same_function}
use Rattle.rx_engine_names.proofs.FoundTypes.{each_finds}
use Rattle.rx_engine_names.proofs.PinnedPlaces.{pinned_becomes}

module _ (items : ℕ → ℕ) (P Q : ProgramTree) (k : Keeps items P Q) (ts : List ItemNames) (whole : in_program P ≡ Ok ts) (place : Span) where
  pub pinned_function_alike : (pins : Option Pins) → PinsName P pins → (n m : ℕ) (s : Span) (f : Function) (T : ItemNames) → in_item P n (plain.function_item s f) ≡ Ok T
      → (U : ItemNames) × (in_item Q m (plain.function_item s (pinned_function P place pins f)) ≡ Ok U)
      × LikeFunction (written_out pins) (same_numbers items) (function_named n s f T.names) (function_named m s (pinned_function P place pins f) U.names)
  pinned_function_alike None h n m s f T e = same_function items P Q k n m s f T e
  pinned_function_alike (Some pins) h n m s f T e =
      let ls = firsts [] 0 (lifetimes_declared (plain.function_item s f)) in
      let A = function_item_alike (lockstep items) (written_out (Some pins)) P Q k (pinned_suffix pins) (pinned_type P place pins) (λ b c. c) (refl, tt) refl n m s f
      (pinned_becomes (lockstep items) _ _ (keeps_fits items P Q k (number n) (number m) ls) P place pins (untold (parameter_names f.params)) (each_finds P ts whole (number n) ls pins.types h)) T e in
      (A.0, A.1, A.4 (same_numbers items) (same_serve items A.2 T A.0 A.3))
