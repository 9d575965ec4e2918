use Rattle.std.proofs.Common.{sym, ◌∙◌}
use Rattle.rx_exits_plan.specs.PlainPlan.{plain-Exit}
use Rattle.rx_exits.proofs.ReachingLemmas.{returns_is, returns_is_not}
use Rattle.rx_exits.proofs.planning.outs_at.Goals as goal

pub returns-then-is_return-clause-outs : goal.returns-then-is_return-clause-outs
returns-then-is_return-clause-outs c A ps L = record {
  live = λ ne. absurd (ne (returns_is (plain-Exit c.args.exit) (sym c.is_return.ensures ∙ c.if-is_return.true)));
  none = λ r. c.new.ensures;
}

pub returns-in_ok-outs-clause-outs : goal.returns-in_ok-outs-clause-outs
returns-in_ok-outs-clause-outs c A ps L = record {
  live = λ ne. c.in_ok-outs.ensures A ps L;
  none = λ r. absurd (returns_is_not (plain-Exit c.args.exit) (sym c.is_return.ensures ∙ c.if-is_return.false) r);
}
