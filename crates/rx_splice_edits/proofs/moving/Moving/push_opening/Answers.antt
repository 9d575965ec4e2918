use Rattle.std.proofs.Common.{◌++◌, ap, ◌∙◌}
use Rattle.std.proofs.lemmas.Result.{on_ok_weaker}
use Rattle.rx_splice_edits.specs.Deciding.{moving_of}
use Rattle.rx_splice_edits.proofs.Words.{first_opening_told, handing_over_told}
use Rattle.rx_splice_edits.proofs.moving.Moving.push_opening.Goals as goal

pub returns-then-is_unit : goal.returns-then-is_unit
returns-then-is_unit c =
    on_ok_weaker c.push_first_opening.result
    (λ made. made ∙ ap (λ l. c.args.text.now ++ l) (first_opening_told (moving_of c.args.self.now.decided) c.is_unit.result c.is_unit.ensures
    c.if-is_unit.true))
    c.push_first_opening.ensures

pub returns : goal.returns
returns c =
    on_ok_weaker c.push_handing_over.result
    (λ made. made ∙ ap (λ l. c.args.text.now ++ l) (handing_over_told (moving_of c.args.self.now.decided) c.is_unit.result c.is_unit.ensures
    c.if-is_unit.false))
    c.push_handing_over.ensures
