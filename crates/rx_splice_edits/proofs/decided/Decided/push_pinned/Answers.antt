use Rattle.std.proofs.lemmas.Result.{on_ok_weaker}
use Rattle.rx_tree.specs.PlainOf.{plain-Program}
use Rattle.rx_typed.specs.PlainTypes.{plain-Ty}
use Rattle.rx_hoist_plan.specs.PlainPlan.{plain-Plan}
use Rattle.rx_splice_edits.specs.Deciding.{tokens_of}
use Rattle.rx_splice_edits.proofs.Places.{type_put, no_type_put}
use Rattle.rx_splice_edits.proofs.decided.Decided.push_pinned.Goals as goal

pub with_parentheses-requires : goal.with_parentheses-requires
with_parentheses-requires c = c.args.self.now.ordered

pub returns-in_ok-text-in-Some : goal.returns-in_ok-text-in-Some
returns-in_ok-text-in-Some c =
    let d = c.args.self.now in
    on_ok_weaker c.put.result
    (type_put (tokens_of d) (plain-Program d.program.now) d.run (plain-Plan d.plan.now).pins c.args.pattern.now (plain-Ty c.in-Some.ty.now) c.args.out.now
    c.put.new.self
    c.in_ok-text-in-Some.text c.with_parentheses.result c.in-Some.ensures c.with_parentheses.ensures c.in_ok-text-in-Some.ensures) c.put.ensures

pub returns-in-None : goal.returns-in-None
returns-in-None c =
    let d = c.args.self.now in
    no_type_put (tokens_of d) (plain-Program d.program.now) d.run (plain-Plan d.plan.now).pins c.args.pattern.now c.args.out.now c.in-None.ensures
