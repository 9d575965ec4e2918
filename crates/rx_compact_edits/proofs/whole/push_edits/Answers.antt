use Rattle.std.proofs.Common.{List, [], ◌++◌, map, ap, ◌∙◌}
use Rattle.rx_tree.specs.declared.tree.Param.{Param}
use Rattle.rx_tree.specs.PlainOf.{plain-Param}
use Rattle.rx_splice_walk.proofs.Written.{two, three}
use Rattle.rx_splice_laws.specs.Edits.{written}
use Rattle.rx_splice_laws.specs.EditsOf.{body_edits}
use Rattle.rx_compact_lifetimes.specs.Rewritten.{becomes}
use Rattle.rx_compact_text.specs.CompactedText.{becomes_both, list_edits, parameters_edits, optional_edits, let_edits}
use Rattle.rx_compact_edits.specs.Writing.{part_of}
use Rattle.rx_compact_edits.proofs.whole.push_edits.Goals as goal

pub returns : goal.returns
returns c =
    let x = part_of c.args.source in let f = x.function in let rs = c.args.first.now in let m = becomes_both rs c.args.then.now in
    let ps = parameters_edits x.text m f.params in let r = optional_edits x.text m f.result in let b = body_edits (let_edits x.text (becomes rs)) [] [] f.body in
    let written_parameters = c.in_ok-push_parameters.ensures ∙ ap (λ (l : List Param). c.push_list.new.out ++ map written (parameters_edits x.text m (map plain-Param l))) c.as_slice.ensures in
    two c.args.out.now c.push_list.new.out c.push_body.new.out (list_edits x.tokens f f.lifetimes c.args.lifetimes.now) (ps ++ (r ++ b)) c.in_ok-push_list.ensures
    (three c.push_list.new.out c.push_parameters.new.out c.push_optional.new.out c.push_body.new.out ps r b written_parameters c.in_ok-push_optional.ensures c.in_ok-push_body.ensures)
