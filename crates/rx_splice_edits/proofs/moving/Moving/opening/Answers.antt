use Rattle.std.proofs.Common.{ap, ◌∙◌}
use Rattle.rx_print_spelling.specs.Pieces.{flat}
use Rattle.rx_splice_laws.specs.Moving as spliced
use Rattle.rx_splice_edits.specs.Deciding.{moving_of}
use Rattle.rx_splice_edits.proofs.Words.{spaced_written}
use Rattle.rx_splice_edits.proofs.moving.Moving.opening.Goals as goal

pub returns : goal.returns
returns c =
    let ps = spliced.opening (moving_of c.args.self.now.decided) in
    spaced_written c.follows_directly.result ps c.in_ok-text.text c.push_opening.new.text c.space_if.result.now c.in_ok-text.ensures c.space_if.ensures
    c.in_ok-push_opening.ensures
    ∙ ap (λ b. flat (spliced.spaced b ps)) c.follows_directly.ensures
