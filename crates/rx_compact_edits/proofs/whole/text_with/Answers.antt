use Rattle.std.proofs.Common.{List, sym, ap, subst, ◌∙◌}
use Rattle.std.proofs.lemmas.Bool.{false≢true}
use Rattle.rx_core.specs.declared.types.Edit.{Edit}
use Rattle.rx_splice.specs.Edits.{AreEdits, spliced}
use Rattle.rx_compact_edits.proofs.whole.text_with.Goals as goal

pub returns-then-not-can_be_cut : goal.returns-then-not-can_be_cut
returns-then-not-can_be_cut c = λ a. absurd (false≢true (sym c.if-not-can_be_cut.true ∙ c.can_be_cut.ensures.1 (subst (AreEdits c.args.text.now) (sym c.as_slice.ensures) a)))

pub splice-requires : goal.splice-requires
splice-requires c = subst (AreEdits c.args.text.now) (c.as_slice.ensures ∙ sym c.into_edits.ensures) (c.can_be_cut.ensures.0 c.if-not-can_be_cut.false)

pub returns : goal.returns
returns c = (
  subst (AreEdits c.args.text.now) c.as_slice.ensures (c.can_be_cut.ensures.0 c.if-not-can_be_cut.false),
  c.in_ok-splice.ensures ∙ ap (λ (es : List Edit). spliced 0 c.args.text.now es) c.into_edits.ensures,
)
