use Rattle.rx_parse.proofs.Places.{place_read}
use Rattle.rx_parse.proofs.program.place.Goals as goal

pub returns-in-Some : goal.returns-in-Some
returns-in-Some c =
    let l = c.in-Some.ensures.lookup in
    place_read c.args.tokens.now c.in-Some.token.now c.args.left c.saturating_sub.result c.args.length c.saturating_sub.ensures l.3.0 l.1
