use Rattle.std.proofs.Common.{ap}
use Rattle.rx_meaning.specs.Programs.{run}
use Rattle.rx_compact_texts.proofs.SameRuns.{short_text_runs_alike}
use Rattle.rx_compact_texts.proofs.laws.short_texts_run_alike.Goals as goal

pub returns : goal.returns
returns c = λ text name bytes s.
    let r = c.short_texts_are_read.ensures text name bytes s in (
      r.1,
      r.3,
      λ x y a b input n. ap (λ P. run P input n)
          (short_text_runs_alike c.well_typed_or_wrong.ensures.typed c.well_typed_or_wrong.ensures.one c.acceptance_ignores_spans.ensures c.short_signatures_are_typed.ensures s.program s.number r.0 r.1 r.2 r.4 x y a b),
    )
