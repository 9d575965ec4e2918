-- Whether a pattern's tests hold, by what stands where it is matched.
use Rattle.std.specs.Prelude.{ℕ, Bool, true, false, List, Option, Some}
use Rattle.rx_core.specs.declared.types.Step.{Step}
use Rattle.rx_typed.specs.Tree.{Pattern, any, bind, exactly, parts, variant, behind, Subpatterns, no_part, part_and}
use Rattle.rx_lower_walks.specs.Matching.{has_tag, equals}
use Rattle.rx_meaning.specs.Values.{Value, and_then}
use Rattle.rx_meaning.specs.Acting.{checked}
use Rattle.rx_machine_values.specs.Reaching.{stepped}
use Rattle.rx_machine_frames.specs.Choosing.{both}

abbrev pub tag_holds : Bool → ℕ → Option Value → Option Bool
tag_holds true v o = and_then o (λ u. checked (has_tag v) u)
tag_holds false v o = Some true

abbrev pub deeper : List Value → Option Value → Step → Option Value
deeper M o s = and_then o (λ u. stepped M s u)

-- none where a part that is tested does not stand there, or is of another type
abbrev mutual
  pub holds : List Value → Option Value → Pattern → Option Bool
  holds M o any = Some true
  holds M o (bind n x m) = Some true
  holds M o (exactly n c) = and_then o (λ u. checked (equals c) u)
  holds M o (parts ps) = all_parts_hold M o ps
  holds M o (variant n i several v ps) = both (tag_holds several v o) (all_parts_hold M (deeper M o (Step.Variant v)) ps)
  holds M o (behind m p) = holds M (deeper M o (Step.Deref m)) p

  pub all_parts_hold : List Value → Option Value → Subpatterns → Option Bool
  all_parts_hold M o no_part = Some true
  all_parts_hold M o (part_and i p ps) = both (holds M (deeper M o (Step.Field i)) p) (all_parts_hold M o ps)
