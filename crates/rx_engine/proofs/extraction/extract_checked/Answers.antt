use Rattle.rx_engine.proofs.Keeping.{answered}
use Rattle.rx_engine.proofs.extraction.extract_checked.Goals as goal

pub returns : goal.returns
returns g c = record {
  verdict = answered c.answers_run_alike.ensures c.args.text.now (record { start = c.args.selection.start; end = c.args.selection.end; name = c.args.name.now; choice = g.P.Policy.choice c.args.policy.now })
      c.extract_checked.result c.requires.short c.extract_checked.ensures.verdict;
}
