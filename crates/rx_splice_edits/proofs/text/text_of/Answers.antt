use Rattle.std.proofs.Common.{◌++◌, ap, ◌∙◌}
use Rattle.rx_print_spelling.specs.Pieces.{flat}
use Rattle.rx_hoist_made.specs.PlainParts.{plain-Parts}
use Rattle.rx_splice_laws.specs.SplicedText.{call_pieces}
use Rattle.rx_splice_edits.proofs.text.text_of.Goals as goal

pub returns : goal.returns
returns c =
    let p = plain-Parts c.args.parts.now in
    c.in_ok-push_parts.ensures ∙ ap (λ o. o ++ flat (call_pieces p.statements p.tail)) c.empty-text.ensures
