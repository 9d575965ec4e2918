use Rattle.std.proofs.Common.{map}
use Rattle.rx_typed.specs.PlainTree.{plain-TypedTree}
use Rattle.rx_lower_walks.specs.PlainFlow.{plain-Flow}
use Rattle.rx_lower_lifetimes.specs.Lowered.{Function}
use Rattle.rx_lower_lifetimes.specs.PlainOf.{plain-Open, plain-Notes}
use Rattle.rx_lower_lifetimes.proofs.Answering.{too_many_sites, too_many_positions, lowered}
use Rattle.rx_lower_lifetimes.proofs.whole.with_notes.Goals as goal

pub returns-then-positions-gt65536 : goal.returns-then-positions-gt65536
returns-then-positions-gt65536 c =
    let F : Function = record { items = c.args.decls.now.items; item = c.args.item; body = plain-TypedTree c.args.tree.now; variables = map plain-Open c.args.variables.now } in
    too_many_positions c.args.limit F c.args.mutable.now (plain-Flow c.args.flow.now) (plain-Notes c.args.notes.now) c.positions_of-positions.result c.len-size.result c.in-Ok.sites c.too_large.result
    c.requires.flow c.requires.notes c.positions_of-positions.ensures c.in-Ok.ensures.0 c.in-Ok.ensures.1 c.ranges.limit.fits c.len-size.ensures c.if-positions-gt65536.true c.too_large.ensures

pub returns-in-Ok-within : goal.returns-in-Ok-within
returns-in-Ok-within c =
    let F : Function = record { items = c.args.decls.now.items; item = c.args.item; body = plain-TypedTree c.args.tree.now; variables = map plain-Open c.args.variables.now } in
    lowered c.args.limit F c.args.mutable.now (plain-Flow c.args.flow.now) (plain-Notes c.args.notes.now) c.positions_of-positions.result c.in-Ok.sites c.in-Ok-within.graph
    c.requires.flow c.requires.notes c.positions_of-positions.ensures c.in-Ok.ensures.0 c.in-Ok.ensures.1 c.if-positions-gt65536.false
    c.in-Ok-within.ensures.0 c.in-Ok-within.ensures.1 c.in-Ok-within.ensures.2

pub returns-in-TooLarge : goal.returns-in-TooLarge
returns-in-TooLarge c =
    let F : Function = record { items = c.args.decls.now.items; item = c.args.item; body = plain-TypedTree c.args.tree.now; variables = map plain-Open c.args.variables.now } in
    too_many_sites c.args.limit F c.args.mutable.now (plain-Flow c.args.flow.now) (plain-Notes c.args.notes.now) c.positions_of-positions.result c.in-TooLarge.size c.in-Err.fault c.too_large-in-TooLarge.result
    c.requires.flow c.requires.notes c.positions_of-positions.ensures c.in-TooLarge.is c.in-Err.ensures c.too_large-in-TooLarge.ensures
