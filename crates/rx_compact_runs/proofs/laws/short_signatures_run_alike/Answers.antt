use Rattle.std.proofs.Common.{ap}
use Rattle.rx_meaning.specs.Programs.{run}
use Rattle.rx_compact_runs.proofs.Running.{one_program, accepted_alike}
use Rattle.rx_compact_runs.proofs.laws.short_signatures_run_alike.Goals as goal

pub returns : goal.returns
returns c = record {
  typed = λ p i q short small s t u a b m. one_program c.well_typed_or_wrong.ensures.typed c.well_typed_or_wrong.ensures.one p i q short s t u a b m;
  accepted = λ p i q short x y a b input n. ap (λ P. run P input n) (accepted_alike c.well_typed_or_wrong.ensures.typed c.well_typed_or_wrong.ensures.one c.short_signatures_are_typed.ensures p i q short x y a b);
}
