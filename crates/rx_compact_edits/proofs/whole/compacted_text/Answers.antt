use Rattle.std.proofs.Common.{List, IfOk, SomeIff, subst}
use Rattle.rx_core.specs.declared.types.Edit.{Edit}
use Rattle.rx_splice.specs.Edits.{AreEdits, spliced}
use Rattle.rx_compact_edits.proofs.whole.compacted_text.Goals as goal

pub returns : goal.returns
returns c =
    subst (λ (es : List Edit). IfOk c.text_with.result (λ it. SomeIff it (AreEdits c.args.text.now es) (spliced 0 c.args.text.now es))) c.in_ok-edits.ensures c.text_with.ensures
