use Rattle.std.proofs.Common.{◌++◌, ap, ◌∙◌}
use Rattle.rx_splice.specs.Edits.{spliced}
use Rattle.rx_splice_laws.specs.Indent.{reindented}
use Rattle.rx_splice_laws.specs.SplicedRun.{between}
use Rattle.rx_splice_edits.specs.Cutting.{within}
use Rattle.std.proofs.lemmas.Result.{on_ok_weaker}
use Rattle.rx_splice_edits.proofs.Whole.{itself, whole_part}
use Rattle.rx_splice_edits.proofs.text.push_run.Goals as goal

pub push_spliced-requires : goal.push_spliced-requires
push_spliced-requires c = whole_part c.args.place.now.text.now c.args.place.now.run.start c.args.place.now.run.end c.args.edits.now c.requires

pub returns : goal.returns
returns c =
    let text = c.args.place.now.text.now in
    let from = c.args.place.now.run.start in
    let to = c.args.place.now.run.end in
    let es = c.args.edits.now in
    on_ok_weaker c.push_reindented.result (λ e. e ∙ ap (λ t. c.args.out.now ++ reindented c.args.indent.now t)
    (c.as_str.ensures ∙ c.in_ok-push_spliced.ensures ∙ ap (λ o. o ++ spliced from (between from to text) (within from to es)) c.empty-text.ensures
    ∙ ap (spliced from (between from to text)) (itself text from to es c.requires))) c.push_reindented.ensures
