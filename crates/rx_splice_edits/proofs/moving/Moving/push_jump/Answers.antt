use Rattle.std.proofs.Common.{map, ap, ◌∙◌, sym}
use Rattle.std.proofs.lemmas.Result.{on_ok_weaker}
use Rattle.rx_print_spelling.specs.Pieces.{flat}
use Rattle.rx_hoist_plan.specs.PlainPlan.{plain-Exit, plain-Leaving, plain-Plan}
use Rattle.rx_hoist_extraction.specs.Plan.{enum_name, exit_name, outs_of, names_of}
use Rattle.rx_splice_laws.specs.Moving.{returned}
use Rattle.rx_splice_laws.specs.MovedBy.{jump_to}
use Rattle.rx_splice_edits.specs.Deciding.{moving_of}
use Rattle.rx_splice_edits.specs.Jumping.{jump_pieces}
use Rattle.rx_splice_edits.proofs.Words.{jump_words}
use Rattle.rx_splice_edits.proofs.Places.{replaced_by}
use Rattle.rx_splice_edits.proofs.moving.Moving.push_jump.Goals as goal

pub returns : goal.returns
returns c =
    let M = moving_of c.args.self.now.decided in
    let pl = plain-Plan c.args.self.now.decided.plan.now in
    let x = plain-Exit c.args.exit in
    on_ok_weaker c.replace.result
    (replaced_by c.args.out.now c.replace.new.self c.args.span c.in_ok-text.text (returned M (jump_to pl x))
    (c.in_ok-text.ensures
    ∙ ap (λ vs. flat (jump_pieces (enum_name pl) (exit_name x) (names_of vs))) (c.outs_of-outs.ensures ∙ ap (λ l. outs_of x (map plain-Leaving l))
    c.as_slice.ensures)
    ∙ ap flat (sym (jump_words M (exit_name x) (names_of (outs_of x pl.exits))))))
    c.replace.ensures
