use Rattle.std.proofs.Common.{◌∷◌, map, ap, ◌∙◌}
use Rattle.std.proofs.lemmas.Result.{IfOk-weaker}
use Rattle.rx_tree.specs.Plain as plain
use Rattle.rx_hoist_extraction.specs.Made.{joined}
use Rattle.rx_splice_edits.proofs.Words.{names_in}
use Rattle.rx_splice_edits.proofs.run_end.tuple_with.Goals as goal

pub returns : goal.returns
returns c =
    IfOk-weaker c.tuple_of.result _ _
    (λ it made. made ∙ ap (λ x. joined c.args.span (plain.var c.args.span x ∷ map (plain.var c.args.span) (names_in c.args.outs.now))) c.in_ok-name.ensures)
    c.tuple_of.ensures
