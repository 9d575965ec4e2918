use Rattle.std.proofs.Common.{map}
use Rattle.rx_lower_walks.specs.Actions as actions
use Rattle.rx_lower_walks.specs.PlainFlow.{plain-Temporary, plain-Act}
use Rattle.rx_lower_lifetimes.specs.Values.{value_type}
use Rattle.rx_lower_lifetimes.specs.PlainOf.{plain-Held, known}
use Rattle.rx_lower_lifetimes.proofs.Finding.{held_stays, held_grows, on_weaker}
use Rattle.rx_lower_lifetimes.proofs.notes.hold.Goals as goal

pub returns-then-find-len : goal.returns-then-find-len
returns-then-find-len c =
    held_stays c.args.held.now (actions.filled (plain-Act c.args.act.now)) (plain-Temporary c.in-Some.temporary) _ c.find.result c.len.result c.in-Some.ensures
    c.find.ensures c.if-find-len.true c.len.ensures

pub returns-in_ok-ty-in-Some : goal.returns-in_ok-ty-in-Some
returns-in_ok-ty-in-Some c =
    on_weaker c.push.result
    (held_grows c.args.held.now c.push.new.self (actions.filled (plain-Act c.args.act.now)) c.in-Some.temporary c.in_ok-ty-in-Some.ty
    (value_type (known c.args.decls.now.items c.args.variables.now) (map plain-Held c.args.held.now) (plain-Act c.args.act.now)) c.find.result c.len.result c.in-Some.ensures
    c.find.ensures c.if-find-len.false c.len.ensures
    c.in_ok-ty-in-Some.ensures)
    c.push.ensures.ok
