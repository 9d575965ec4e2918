use Rattle.std.proofs.Common.{◌++◌, ap, ◌∙◌}
use Rattle.rx_splice_laws.specs.SplicedText.{indented}
use Rattle.std.proofs.lemmas.Result.{on_ok_weaker}
use Rattle.rx_splice_edits.proofs.text.push_call.Goals as goal

pub returns : goal.returns
returns c =
    on_ok_weaker c.push_indented.result (λ e. e ∙ ap (λ t. c.args.out.now ++ indented c.args.indent.now t) (c.as_str.ensures ∙ c.in_ok-text.ensures)) c.push_indented.ensures
