use Rattle.std.proofs.Common.{ap}
use Rattle.rx_meaning.specs.Programs.{run}
use Rattle.rx_compact_texts.proofs.SameRuns.{spans_run_alike}
use Rattle.rx_compact_texts.proofs.laws.runs_ignore_spans.Goals as goal

pub returns : goal.returns
returns c = λ p q same x y a b input n. ap (λ P. run P input n) (spans_run_alike c.well_typed_or_wrong.ensures.typed c.well_typed_or_wrong.ensures.one c.acceptance_ignores_spans.ensures p q same x y a b)
