use Rattle.std.proofs.Common.{◌++◌, ap, ◌∙◌}
use Rattle.std.proofs.lemmas.Result.{on_ok_weaker}
use Rattle.rx_splice_edits.specs.Deciding.{moving_of}
use Rattle.rx_splice_edits.proofs.Words.{first_closing_told, other_closing_told}
use Rattle.rx_splice_edits.proofs.moving.Moving.push_closing.Goals as goal

pub returns-then-is_unit : goal.returns-then-is_unit
returns-then-is_unit c =
    on_ok_weaker c.push_first_closing.result
    (λ made. made ∙ ap (λ l. c.args.text.now ++ l) (first_closing_told (moving_of c.args.self.now.decided) c.is_unit.result c.is_unit.ensures
    c.if-is_unit.true))
    c.push_first_closing.ensures

pub returns : goal.returns
returns c =
    on_ok_weaker c.push.result
    (λ made. made ∙ ap (λ l. c.args.text.now ++ l) (other_closing_told (moving_of c.args.self.now.decided) c.is_unit.result c.is_unit.ensures
    c.if-is_unit.false))
    c.push.ensures.ok
