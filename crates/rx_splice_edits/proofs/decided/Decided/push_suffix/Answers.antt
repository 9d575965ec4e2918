use Rattle.std.proofs.lemmas.Result.{on_ok_weaker}
use Rattle.rx_splice_laws.specs.Moving.{suffix_edits}
use Rattle.rx_splice_edits.specs.Deciding.{moving_of, tokens_of}
use Rattle.rx_splice_edits.proofs.Places.{has_one, has_none}
use Rattle.rx_splice_edits.proofs.decided.Decided.push_suffix.Goals as goal

pub returns-in-Some : goal.returns-in-Some
returns-in-Some c =
    let d = c.args.self.now in
    has_one c.args.suffix _ (suffix_edits (tokens_of d) c.args.span ((moving_of d).kind c.args.span)) c.args.out.now c.in-Some.is

pub returns-in-None : goal.returns-in-None
returns-in-None c =
    let d = c.args.self.now in
    on_ok_weaker c.push_kind.result
    (has_none c.args.suffix (suffix_edits (tokens_of d) c.args.span ((moving_of d).kind c.args.span)) c.args.out.now c.push_kind.new.out c.in-None.is)
    c.push_kind.ensures
