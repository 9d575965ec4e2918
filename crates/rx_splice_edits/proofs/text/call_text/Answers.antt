use Rattle.std.proofs.Common.{ap, ◌∙◌}
use Rattle.rx_print_spelling.specs.Pieces.{flat}
use Rattle.rx_hoist_extraction.specs.Run.{Parts}
use Rattle.rx_splice_laws.specs.SplicedText.{call_pieces}
use Rattle.std.proofs.lemmas.Result.{IfOk-weaker}
use Rattle.rx_splice_edits.proofs.text.call_text.Goals as goal

pub returns : goal.returns
returns c =
    IfOk-weaker c.text_of-outcome.result _ _ (λ t e. e ∙ ap (λ (p : Parts). flat (call_pieces p.statements p.tail)) c.in_ok-call.ensures) c.text_of-outcome.ensures
