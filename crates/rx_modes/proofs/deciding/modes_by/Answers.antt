use Rattle.rx_modes.proofs.Passing.{pass_by}
use Rattle.rx_modes.proofs.Answering.{refused_by, answered_by}
use Rattle.rx_modes.proofs.deciding.modes_by.Goals as goal

pub returns-in-Some : goal.returns-in-Some
returns-in-Some g c A muts known are = refused_by A muts c.args.known.now (g.P.Policy.choice c.args.policy.now) c.in_ok-uses.uses.items c.as_slice-2.result.now c.as_slice.result.now c.in-Some.var
    c.as_slice-2.ensures.value c.as_slice.ensures c.in-Some.ensures known (c.in_ok-uses.ensures.uses A muts known)

pub passed-requires : goal.passed-requires
passed-requires g c = pass_by c.as_slice.result.now c.args.known.now.plan.now.params c.in_ok-uses.uses.items c.as_slice-2.result.now c.as_slice-in-None.result.now
    c.as_slice.ensures c.as_slice-2.ensures.value c.as_slice-in-None.ensures.value c.in_ok-uses.ensures.count c.in-None.ensures

pub returns : goal.returns
returns g c A muts known are = answered_by A muts c.args.known.now (g.P.Policy.choice c.args.policy.now) c.in_ok-uses.uses.items c.as_slice-in-None.result.now c.as_slice.result.now
    c.args.variables.now c.passed.result c.as_slice-in-None.ensures.value are
    (pass_by c.as_slice.result.now c.args.known.now.plan.now.params c.in_ok-uses.uses.items c.as_slice-2.result.now c.as_slice-in-None.result.now
    c.as_slice.ensures c.as_slice-2.ensures.value c.as_slice-in-None.ensures.value c.in_ok-uses.ensures.count c.in-None.ensures)
    c.passed.ensures known (c.in_ok-uses.ensures.uses A muts known)
