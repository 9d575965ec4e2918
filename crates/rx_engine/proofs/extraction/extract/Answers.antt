use Rattle.rx_engine.proofs.Keeping.{answered}
use Rattle.rx_engine.proofs.extraction.extract.Goals as goal

pub returns : goal.returns
returns g c = record {
  verdict = answered c.answers_run_alike.ensures c.args.text.now (record { start = c.args.selection.start; end = c.args.selection.end; name = c.args.name.now; choice = g.P.Policy.choice c.args.policy.now })
      c.extract.result c.requires c.extract.ensures.verdict;
}
