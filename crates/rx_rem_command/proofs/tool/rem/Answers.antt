-- The status that is due is that of the words, of the reading, or of what is found.
use Rattle.std.proofs.Common.{[], Some, None, Err, ◌≡◌, ◌∙◌, refl, sym, ap, subst, Option}
use Rattle.std.specs.Prelude.{option_map}
use Rattle.rx_rem_command.specs.declared.status.Status.TheVariants.{Usage, ReadFault, TooLong, OutOfMemory}
use Rattle.rx_rem_command.specs.declared.words.Request.{Request}
use Rattle.rx_rem_command.specs.Forms.{Command, command_of, generates, Reads, most_bytes}
use Rattle.rx_rem_command.specs.Asked.{asked, requested}
use Rattle.rx_rem_command.specs.Lines.{status_line}
use Rattle.rx_rem_command.specs.Defined.{Choices, AnswersTo}
use Rattle.rx_rem_command.specs.Replies.{answered, not_read, too_long, no_memory, source_state}
use Rattle.rx_rem_command.proofs.Counts.{counts_few}
use Rattle.rx_rem_command.proofs.Replies.{replies, reported, found_due, generated_due, taken_few, taken_more, read_whole}
use Rattle.rx_rem_command.proofs.Requests.{words_read}
use Rattle.rx_rem_command.proofs.tool.rem.Goals as goal

pub returns-in_default-clause-replies : goal.returns-in_default-clause-replies
returns-in_default-clause-replies g c =
    let e : None ≡ command_of c.args.words.now = ap (option_map requested) (sym c.in_default.is)
    ∙ (c.read_words.ensures ∙ ap command_of c.as_slice.ensures) in
    let C : Choices = record { copy = g.C.Policy.choice c.args.copy.now; reference = g.R.Policy.choice c.args.by_reference.now } in
    let d = subst (λ (q : Option Command). AnswersTo C q [] Usage [] (status_line Usage)) e (refl, refl, refl) in
    replies _ _ _ _ _ _ _ _ Usage [] (status_line Usage) c.report_name.result
    (answered [] refl (λ h. absurd (subst Reads (sym e) h)) d)
    (reported _ _ _ Usage c.report_name.result _ c.report_name.ensures)

pub generate-requires-clause-some : goal.generate-requires-clause-some
generate-requires-clause-some g c =
    let e : Some (generates c.in-Generate.count) ≡ command_of c.args.words.now = ap (λ (r : Request). Some (requested r)) (sym c.in-Generate.is)
    ∙ (ap (option_map requested) (sym c.in-Some.is) ∙ (c.read_words.ensures ∙ ap command_of c.as_slice.ensures)) in
    (counts_few c.args.words.now c.in-Generate.count (sym e)).0

pub generate-requires-clause-few : goal.generate-requires-clause-few
generate-requires-clause-few g c =
    let e : Some (generates c.in-Generate.count) ≡ command_of c.args.words.now = ap (λ (r : Request). Some (requested r)) (sym c.in-Generate.is)
    ∙ (ap (option_map requested) (sym c.in-Some.is) ∙ (c.read_words.ensures ∙ ap command_of c.as_slice.ensures)) in
    (counts_few c.args.words.now c.in-Generate.count (sym e)).1

pub returns-in-Generate-clause-replies : goal.returns-in-Generate-clause-replies
returns-in-Generate-clause-replies g c =
    let e : Some (generates c.in-Generate.count) ≡ command_of c.args.words.now = ap (λ (r : Request). Some (requested r)) (sym c.in-Generate.is)
    ∙ (ap (option_map requested) (sym c.in-Some.is) ∙ (c.read_words.ensures ∙ ap command_of c.as_slice.ensures)) in
    let f = c.generate.ensures in
    replies _ _ _ _ _ _ _ _ f.0 f.1 f.2 c.generate.result (generated_due _ _ _ c.in-Generate.count f.0 f.1 f.2 e f.3) f.4

pub returns-in-Ok-clause-replies : goal.returns-in-Ok-clause-replies
returns-in-Ok-clause-replies g c =
    let e : Some (asked c.in-OfText.command) ≡ command_of c.args.words.now = ap (λ (r : Request). Some (requested r)) (sym c.in-OfText.is)
    ∙ (ap (option_map requested) (sym c.in-Some.is) ∙ (c.read_words.ensures ∙ ap command_of c.as_slice.ensures)) in
    let f = c.answer.ensures in
    let r = read_whole c.limit_of-limit.result _ (source_state g.S.Source.remaining g.S.Source.faults c.args.source.now)
    (source_state g.S.Source.remaining g.S.Source.faults c.read_all.new.source)
    c.as_slice-in-Ok.result.now c.in-Ok.text c.read_all.ensures.gone.0 (c.limit_of-limit.ensures.most ∙ ap most_bytes e) c.as_slice-in-Ok.ensures c.in-Ok.ensures.all
    c.in-Ok.ensures.within c.read_all.ensures.gone.3 in
    replies _ _ _ _ _ _ _ _ f.0 f.1 f.2 c.answer.result (found_due _ _ _ _ _ _ f.0 f.1 f.2 e (c.read_all.ensures.sound (λ q. cc)) r f.3) f.4

pub returns-in-Err-ReadFault-clause-replies : goal.returns-in-Err-ReadFault-clause-replies
returns-in-Err-ReadFault-clause-replies g c =
    let e : Some (asked c.in-OfText.command) ≡ command_of c.args.words.now = ap (λ (r : Request). Some (requested r)) (sym c.in-OfText.is)
    ∙ (ap (option_map requested) (sym c.in-Some.is) ∙ (c.read_words.ensures ∙ ap command_of c.as_slice.ensures)) in
    replies _ _ _ _ _ _ _ _ ReadFault [] (status_line ReadFault) c.report_name-in-Err-ReadFault.result
    (not_read (words_read c.args.words.now c.in-OfText.command e) (c.in-Err-ReadFault.ensures.fault (ap Err c.in-Err-ReadFault.field-0-is))
    (taken_few c.limit_of-limit.result _ _ _ c.in-Err-ReadFault.ensures.gone.0 (c.limit_of-limit.ensures.most ∙ ap most_bytes e) (λ l. let e = c.in-Err-ReadFault.ensures.gone.2.1 l in cc)
    c.in-Err-ReadFault.ensures.gone.3))
    (reported _ _ _ ReadFault c.report_name-in-Err-ReadFault.result _ c.report_name-in-Err-ReadFault.ensures)

pub returns-in-Err-TooLong-clause-replies : goal.returns-in-Err-TooLong-clause-replies
returns-in-Err-TooLong-clause-replies g c =
    let e : Some (asked c.in-OfText.command) ≡ command_of c.args.words.now = ap (λ (r : Request). Some (requested r)) (sym c.in-OfText.is)
    ∙ (ap (option_map requested) (sym c.in-Some.is) ∙ (c.read_words.ensures ∙ ap command_of c.as_slice.ensures)) in
    replies _ _ _ _ _ _ _ _ TooLong [] (status_line TooLong) c.report_name-in-Err-TooLong.result
    (too_long (words_read c.args.words.now c.in-OfText.command e) (c.in-Err-TooLong.ensures.sound (λ q. cc))
    (taken_more c.limit_of-limit.result _ _ _ c.in-Err-TooLong.ensures.gone.0 (c.limit_of-limit.ensures.most ∙ ap most_bytes e) c.in-Err-TooLong.ensures.gone.1
    (c.in-Err-TooLong.ensures.gone.2.0 (ap Err c.in-Err-TooLong.field-0-is)) c.in-Err-TooLong.ensures.gone.3))
    (reported _ _ _ TooLong c.report_name-in-Err-TooLong.result _ c.report_name-in-Err-TooLong.ensures)

pub returns-in-Err-OutOfMemory-clause-replies : goal.returns-in-Err-OutOfMemory-clause-replies
returns-in-Err-OutOfMemory-clause-replies g c =
    let e : Some (asked c.in-OfText.command) ≡ command_of c.args.words.now = ap (λ (r : Request). Some (requested r)) (sym c.in-OfText.is)
    ∙ (ap (option_map requested) (sym c.in-Some.is) ∙ (c.read_words.ensures ∙ ap command_of c.as_slice.ensures)) in
    replies _ _ _ _ _ _ _ _ OutOfMemory [] (status_line OutOfMemory) c.report_name-in-Err-OutOfMemory.result
    (no_memory (λ n. cc) (c.in-Err-OutOfMemory.ensures.sound (λ q. cc))
    (taken_few c.limit_of-limit.result _ _ _ c.in-Err-OutOfMemory.ensures.gone.0 (c.limit_of-limit.ensures.most ∙ ap most_bytes e) (λ l. let e = c.in-Err-OutOfMemory.ensures.gone.2.1 l in cc)
    c.in-Err-OutOfMemory.ensures.gone.3))
    (reported _ _ _ OutOfMemory c.report_name-in-Err-OutOfMemory.result _ c.report_name-in-Err-OutOfMemory.ensures)
