use Rattle.std.proofs.Common.{[], codes, ap, sym, ◌∙◌}
use Rattle.std.proofs.lemmas.Result.{on_ok_weaker}
use Rattle.rx_print_spelling.specs.Pieces.{flat}
use Rattle.rx_splice_laws.specs.Moving.{returned, the_return}
use Rattle.rx_splice_edits.specs.Deciding.{moving_of}
use Rattle.rx_splice_edits.proofs.Words.{jump_words}
use Rattle.rx_splice_edits.proofs.Places.{replaced_by}
use Rattle.rx_splice_edits.proofs.moving.MovingPlaces.return_at.Goals as goal

pub returns : goal.returns
returns c =
    let M = moving_of c.args.self.now.decided in
    on_ok_weaker c.replace.result
    (replaced_by c.args.out.now c.replace.new.self c.args.span c.in_ok-text.text (returned M the_return)
    (c.in_ok-text.ensures ∙ ap flat (sym (jump_words M (codes "Return") []))))
    c.replace.ensures
