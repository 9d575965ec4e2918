use Rattle.std.proofs.lemmas.Result.{on_ok_weaker}
use Rattle.rx_hoist_plan.specs.PlainPlan.{plain-Plan}
use Rattle.rx_hoist_extraction.specs.Plan.{to_continue}
use Rattle.rx_splice_laws.specs.MovedBy.{jump_to}
use Rattle.rx_splice_edits.specs.Deciding.{moving_of}
use Rattle.rx_splice_edits.proofs.Places.{jump_put, no_jump}
use Rattle.rx_splice_edits.proofs.moving.MovingPlaces.continue_at.Goals as goal

pub returns-in-Some : goal.returns-in-Some
returns-in-Some c =
    let d = c.args.self.now.decided in
    on_ok_weaker c.push_jump.result
    (jump_put (moving_of d) c.args.span (λ k. jump_to (plain-Plan d.plan.now) (to_continue k)) c.in-Some.number _ c.args.out.now c.push_jump.new.out
    c.in-Some.ensures)
    c.push_jump.ensures

pub returns-in-None : goal.returns-in-None
returns-in-None c =
    let d = c.args.self.now.decided in
    no_jump (moving_of d) c.args.span (λ k. jump_to (plain-Plan d.plan.now) (to_continue k)) _ c.args.out.now c.in-None.ensures
