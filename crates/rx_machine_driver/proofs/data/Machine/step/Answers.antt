use Rattle.rx_typed.specs.PlainTree.{plain-Mark, plain-Expr}
use Rattle.rx_machine_driver.specs.PlainSteps.{rest_of}
use Rattle.std.proofs.Common.{refl}
use Rattle.rx_machine_driver.specs.declared.data.Step.TheVariants as step_to
use Rattle.rx_machine_driver.specs.declared.data.Turn.TheVariants as turn_form
use Rattle.rx_machine_driver.proofs.data.Machine.step.Goals as goal
use Rattle.rx_machine_driver.proofs.ActLemmas.{leads_next, goes_lead, body_leads, loops_wait}

pub returns-in-GoesInto : goal.returns-in-GoesInto
returns-in-GoesInto c = leads_next _ _ _ _ (step_to.Next c.opened.result) c.in-GoesInto.is (goes_lead _ (plain-Expr c.in-GoesInto.expr.now) c.opened.result c.opened.ensures)

pub returns-in-RunsBody : goal.returns-in-RunsBody
returns-in-RunsBody c =
    leads_next _ _ _ _ (step_to.Next c.opened_body.result) c.in-RunsBody.is (body_leads _ (rest_of c.in-RunsBody.rest.now c.in-RunsBody.last.now) c.opened_body.result c.opened_body.ensures)

pub returns-in-Loops : goal.returns-in-Loops
returns-in-Loops c =
    leads_next _ _ _ _ (step_to.Turn (turn_form.Loops c.in-Loops.mark c.in-Loops.number c.in-Loops.body)) c.in-Loops.is
    (loops_wait _ (plain-Mark c.in-Loops.mark.now) c.in-Loops.number (plain-Expr c.in-Loops.body.now) (turn_form.Loops c.in-Loops.mark c.in-Loops.number c.in-Loops.body) refl)

pub returns-in-Shares : goal.returns-in-Shares
returns-in-Shares c = leads_next _ _ _ _ _ c.in-Shares.is c.shares.ensures

pub returns-in-Inputs : goal.returns-in-Inputs
returns-in-Inputs c = leads_next _ _ _ _ _ c.in-Inputs.is c.inputs.ensures

pub returns-in-Settles : goal.returns-in-Settles
returns-in-Settles c = leads_next _ _ _ _ _ c.in-Settles.is c.settles.ensures

pub returns-in-Leaves : goal.returns-in-Leaves
returns-in-Leaves c = leads_next _ _ _ _ _ c.in-Leaves.is c.leave.ensures

pub returns-in-Decides : goal.returns-in-Decides
returns-in-Decides c = leads_next _ _ _ _ _ c.in-Decides.is c.decides.ensures
