use Rattle.std.proofs.Common.{◌∙◌}
use Rattle.std.proofs.lemmas.Result.{IfOk-weaker}
use Rattle.rx_splice_edits.specs.Deciding.{tokens_of}
use Rattle.rx_splice_edits.proofs.Words.{field_told, enclosed_told, bare_told}
use Rattle.rx_splice_edits.proofs.moving.Moving.starred.Goals as goal

pub returns-then-short : goal.returns-then-short
returns-then-short c =
    IfOk-weaker c.long_field.result _ _ (λ t made. made ∙ field_told (tokens_of c.args.self.now.decided) c.args.span c.args.name.now c.args.short
    c.if-short.true) c.long_field.ensures

pub returns-then-is_enclosed : goal.returns-then-is_enclosed
returns-then-is_enclosed c =
    IfOk-weaker c.enclosed_star.result _ _
    (λ t made. made ∙ enclosed_told (tokens_of c.args.self.now.decided) c.args.span c.args.name.now c.args.short _ c.if-short.false c.is_enclosed.ensures
    c.if-is_enclosed.true)
    c.enclosed_star.ensures

pub returns : goal.returns
returns c =
    IfOk-weaker c.star.result _ _
    (λ t made. made ∙ bare_told (tokens_of c.args.self.now.decided) c.args.span c.args.name.now c.args.short _ c.if-short.false c.is_enclosed.ensures
    c.if-is_enclosed.false)
    c.star.ensures
