use Rattle.std.proofs.Common.{◌++◌, ap, ◌∙◌}
use Rattle.rx_splice_edits.proofs.pinning.suffixed.Goals as goal

pub returns : goal.returns
returns c = c.in_ok-push.ensures.ok ∙ ap (λ l. l ++ c.kind_text.result.now) c.in_ok-text.ensures ∙ ap (λ l. c.args.number.now ++ l) c.kind_text.ensures
