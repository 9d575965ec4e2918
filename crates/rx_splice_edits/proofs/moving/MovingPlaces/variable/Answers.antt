use Rattle.std.proofs.lemmas.Result.{on_ok_weaker}
use Rattle.rx_splice_edits.specs.Deciding.{moving_of, tokens_of}
use Rattle.rx_splice_edits.proofs.Places.{star_put, no_star}
use Rattle.rx_splice_edits.proofs.moving.MovingPlaces.variable.Goals as goal

pub returns-then-not-is_starred : goal.returns-then-not-is_starred
returns-then-not-is_starred c =
    let d = c.args.self.now.decided in
    no_star (moving_of d) (tokens_of d) c.args.own.now c.args.short c.args.span c.args.name.now c.is_starred.result c.args.out.now c.is_starred.ensures
    c.if-not-is_starred.true

pub returns : goal.returns
returns c =
    let d = c.args.self.now.decided in
    on_ok_weaker c.replace.result
    (star_put (moving_of d) (tokens_of d) c.args.own.now c.args.short c.args.span c.args.name.now c.is_starred.result c.args.out.now c.replace.new.self
    c.in_ok-text.text
    c.is_starred.ensures c.if-not-is_starred.false c.in_ok-text.ensures)
    c.replace.ensures
