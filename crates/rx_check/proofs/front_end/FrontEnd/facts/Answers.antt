use Rattle.std.proofs.Common.{sym, ap, subst}
use Rattle.rx_facts.specs.Answers.{AreFacts}
use Rattle.rx_check.specs.Front.{Front, IsFronted}
use Rattle.rx_check.proofs.front_end.FrontEnd.facts.Goals as goal

pub returns-clause-facts : goal.returns-clause-facts
returns-clause-facts c = let known : IsFronted c.args.self.now = subst IsFronted c.self.view_is c.self.invariant in
    subst (AreFacts c.args.self.now.typed) (sym (ap (λ (x : Front). x.facts) c.self.view_is)) known.1.facts
