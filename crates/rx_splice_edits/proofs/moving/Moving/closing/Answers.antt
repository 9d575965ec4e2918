use Rattle.std.proofs.Common.{◌++◌, ap, ◌∙◌}
use Rattle.rx_print_spelling.specs.Pieces.{flat}
use Rattle.rx_splice_laws.specs.Moving as spliced
use Rattle.rx_splice_edits.specs.Deciding.{moving_of}
use Rattle.rx_splice_edits.proofs.moving.Moving.closing.Goals as goal

pub returns : goal.returns
returns c = c.in_ok-push_closing.ensures ∙ ap (λ l. l ++ flat (spliced.closing (moving_of c.args.self.now.decided))) c.empty-text.ensures
