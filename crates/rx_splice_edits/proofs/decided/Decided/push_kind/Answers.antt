use Rattle.std.proofs.lemmas.Result.{on_ok_weaker}
use Rattle.rx_splice_edits.specs.Deciding.{tokens_of}
use Rattle.rx_splice_edits.proofs.Places.{kind_written, kind_unwritten}
use Rattle.rx_splice_edits.proofs.decided.Decided.push_kind.Goals as goal

pub text_at-requires : goal.text_at-requires
text_at-requires c = c.args.self.now.ordered

pub returns-in_ok-text-in-Some : goal.returns-in_ok-text-in-Some
returns-in_ok-text-in-Some c =
    on_ok_weaker c.replace.result
    (kind_written (tokens_of c.args.self.now) c.args.span _ c.in-Some.kind c.args.out.now c.replace.new.self c.in_ok-text-in-Some.text c.text_at.result.now
    c.in-Some.ensures c.text_at.ensures c.in_ok-text-in-Some.ensures) c.replace.ensures

pub returns-in-None : goal.returns-in-None
returns-in-None c = kind_unwritten (tokens_of c.args.self.now) c.args.span _ c.args.out.now c.in-None.ensures
