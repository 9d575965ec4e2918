use Rattle.std.proofs.Common.{sym, ap, ◌∙◌, subst}
use Rattle.rx_facts.specs.Answers.{AreGraphs}
use Rattle.rx_check.specs.Front.{Front, IsFronted}
use Rattle.rx_check.proofs.front_end.FrontEnd.graphs.Goals as goal

pub returns-clause-graphs : goal.returns-clause-graphs
returns-clause-graphs c = let known : IsFronted c.args.self.now = subst IsFronted c.self.view_is c.self.invariant in
    subst (AreGraphs c.args.self.now.typed) (sym (c.as_slice.ensures ∙ ap (λ (x : Front). x.graphs) c.self.view_is)) known.1.graphs
