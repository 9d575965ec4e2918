-- What is found is what is told of the answer, or why there is none.
use Rattle.std.specs.Prelude.{codes}
use Rattle.std.proofs.Common.{[], List, ℕ, inl, inr, subst}
use Rattle.rx_tree.specs.PlainOf.{plain-Program}
use Rattle.rx_engine.specs.Verdict.{Answers}
use Rattle.rx_engine_extraction.specs.Source.{Wish}
use Rattle.rx_rem_command.specs.declared.status.Status.TheVariants.{OutOfMemory}
use Rattle.rx_rem_command.specs.Lines.{status_line}
use Rattle.rx_rem_command.specs.ExtractionLines.{line_of_extraction, status_of_extraction}
use Rattle.rx_rem_command.specs.Replies.{no_room}
use Rattle.rx_rem_command.proofs.Replies.{reported}
use Rattle.rx_rem_command.proofs.Generations.{kept_bytes, answer_is_short, answer_is_accepted, text_is_checked, told_both, told_fault}
use Rattle.rx_rem_command.proofs.generating.generate_run.Goals as goal

pub tell_both-requires-clause-short : goal.tell_both-requires-clause-short
tell_both-requires-clause-short g c =
    let w : Wish = record { start = c.args.selection.start; end = c.args.selection.end; name = codes "step"; choice = g.P.Policy.choice c.args.policy.now } in
    let k = kept_bytes c.args.text.now c.as_bytes.result.now w c.extract_checked.result c.in-Ok.answer c.as_str.result.now c.as_bytes.ensures.value c.as_str.ensures
    c.extract_checked.ensures.verdict c.in-Ok.is in
    answer_is_short c.args.text.now w c.as_str.result.now k.0 k.1

pub tell_both-requires-clause-accepted : goal.tell_both-requires-clause-accepted
tell_both-requires-clause-accepted g c =
    let w : Wish = record { start = c.args.selection.start; end = c.args.selection.end; name = codes "step"; choice = g.P.Policy.choice c.args.policy.now } in
    let k = kept_bytes c.args.text.now c.as_bytes.result.now w c.extract_checked.result c.in-Ok.answer c.as_str.result.now c.as_bytes.ensures.value c.as_str.ensures
    c.extract_checked.ensures.verdict c.in-Ok.is in
    answer_is_accepted c.args.text.now w c.as_str.result.now k.0 k.1

pub returns-in-Ok : goal.returns-in-Ok
returns-in-Ok g c = let text = c.args.text.now in let answer = c.as_str.result.now in
    let w : Wish = record { start = c.args.selection.start; end = c.args.selection.end; name = codes "step"; choice = g.P.Policy.choice c.args.policy.now } in
    let k = kept_bytes text c.as_bytes.result.now w c.extract_checked.result c.in-Ok.answer answer c.as_bytes.ensures.value c.as_str.ensures
    c.extract_checked.ensures.verdict c.in-Ok.is in
    let x = k.1.extraction in
    let f = c.tell_both.ensures x.extracts.text.program x.program
    (text_is_checked text w answer k.0 k.1 (plain-Program c.args.program.now) c.args.checked.now c.requires.parses c.requires.checked) x.parses in
    (f.0, f.1, f.2, told_both text c.args.count w answer k.0 k.1 f.0 f.1 f.2 f.3, f.4)

pub returns-in-Err : goal.returns-in-Err
returns-in-Err g c = let p = plain-Program c.args.program.now in
    let w : Wish = record { start = c.args.selection.start; end = c.args.selection.end; name = codes "step"; choice = g.P.Policy.choice c.args.policy.now } in
    elim c.refuse.ensures [
      | inl r ↦ (
        status_of_extraction c.in-Err.fault,
        [],
        line_of_extraction p c.in-Err.fault,
        told_fault c.args.text.now c.args.count w c.extract_checked.result c.in-Err.fault p c.requires.parses
            (subst (λ (t : List ℕ). Answers t w c.extract_checked.result) c.as_bytes.ensures.value c.extract_checked.ensures.verdict) c.in-Err.is,
        reported _ _ _ _ c.refuse.result _ r,
      )
      | inr r ↦ (OutOfMemory, [], status_line OutOfMemory, no_room, reported _ _ _ OutOfMemory c.refuse.result _ r)
    ]
