-- Of an extraction: what is found where the text is not accepted, and what is found of an answer; where two refusals of one text have one line; and that
-- where each condition is met the extraction is the defined answer, and nothing else is.
use Rattle.std.specs.Prelude.{◌↔◌}
use Rattle.std.proofs.Common.{ℕ, ◌≡◌, ◌≤◌, List, [], length, Option, Some, Result, Ok, Err, ◌⊎◌, inl, inr, refl, sym, ap, ◌∙◌, subst}
use Rattle.rx_core.specs.declared.types.Bound.{Bound}
use Rattle.rx_tree.specs.Plain.{ProgramTree}
use Rattle.rx_lex.specs.declared.lexer.LexFault.TheVariants as lex
use Rattle.rx_parse_grammar.specs.grammar.Items.{Parses}
use Rattle.rx_parse_grammar.proofs.Whole.{one_text}
use Rattle.rx_parse.specs.declared.fault.SyntaxFault.{SyntaxFault}
use Rattle.rx_parse.specs.declared.fault.SyntaxFault.TheVariants as syntax
use Rattle.rx_parse.specs.Answer.{IsCause}
use Rattle.rx_check.specs.declared.fault.CheckFault.{CheckFault}
use Rattle.rx_check.specs.declared.fault.CheckFault.TheVariants as check
use Rattle.rx_check.specs.Causes.{Causes}
use Rattle.rx_engine_extraction.specs.declared.refusal.Answer.{Answer}
use Rattle.rx_engine_extraction.specs.declared.refusal.Fault.{Fault}
use Rattle.rx_engine_extraction.specs.declared.refusal.Fault.TheVariants as fault
use Rattle.rx_engine_extraction.specs.declared.refusal.Refusal.{Refusal}
use Rattle.rx_engine_extraction.specs.declared.refusal.Refusal.TheVariants as refusal
use Rattle.rx_engine_extraction.specs.Alike.{AreOne}
use Rattle.rx_engine_extraction.specs.Source.{Wish}
use Rattle.rx_engine_extraction.specs.Promise.{Extracts}
use Rattle.rx_engine_extraction.specs.Promise as shape
use Rattle.rx_engine_extraction.specs.Verdict.{IsRefused}
use Rattle.rx_engine.specs.Promise.{Keeps}
use Rattle.rx_engine.specs.Verdict.{Answers}
use Rattle.rx_rem_command.specs.declared.status.Status.{Status}
use Rattle.rx_rem_command.specs.declared.status.Status.TheVariants.{Done}
use Rattle.rx_rem_command.specs.Alike.{AreOfPlaces, AreRefusalLines}
use Rattle.rx_rem_command.specs.CheckLines.{line_of_check, status_of_check}
use Rattle.rx_rem_command.specs.ExtractionLines.{line_of_refusal, line_of_extraction, status_of_extraction}
use Rattle.rx_rem_command.specs.Forms.{Preference, Command, extracts, command_of}
use Rattle.rx_rem_command.specs.Lines.{syntax_status, syntax_line}
use Rattle.rx_rem_command.specs.Defined.{Choices, Defined, AnswersTo, IsAccepted, faulty, no_program, program, Drawn, unaccepted, extracted, unmet, wish}
use Rattle.rx_rem_command.specs.Replies.{Found, defined, no_room}
use Rattle.rx_rem_command.proofs.CheckLemmas.{unread}

-- ---- what is found

pub found_unread_too : (text : List ℕ) (w : Wish) (f : SyntaxFault) → IsCause f text → Found (Drawn text w) (syntax_status f) [] (syntax_line f)
found_unread_too text w (syntax.Lex (lex.NotText at)) c = defined (unaccepted (no_program (syntax.Lex (lex.NotText at)) (unread text (syntax.Lex (lex.NotText at)) (λ e. cc) c)))
found_unread_too text w (syntax.Lex (lex.BadToken at)) c = defined (unaccepted (no_program (syntax.Lex (lex.BadToken at)) (unread text (syntax.Lex (lex.BadToken at)) (λ e. cc) c)))
found_unread_too text w (syntax.Lex lex.OutOfMemory) c = absurd (c.0 refl)
found_unread_too text w (syntax.Syntax at) c = defined (unaccepted (no_program (syntax.Syntax at) (unread text (syntax.Syntax at) (λ e. cc) c)))
found_unread_too text w (syntax.TooDeep at) c = defined (unaccepted (no_program (syntax.TooDeep at) (unread text (syntax.TooDeep at) (λ e. cc) c)))
found_unread_too text w syntax.OutOfMemory c = no_room

pub found_refused : (text : List ℕ) (w : Wish) (p : ProgramTree) (f : CheckFault) → Parses text p → Causes f p
    → Found (Drawn text w) (status_of_check f) [] (line_of_check p f)
found_refused text w p (check.Name e) x c = defined (unaccepted (program p x (faulty (check.Name e) (λ e. cc) c)))
found_refused text w p (check.Types e) x c = defined (unaccepted (program p x (faulty (check.Types e) (λ e. cc) c)))
found_refused text w p (check.Cover e) x c = defined (unaccepted (program p x (faulty (check.Cover e) (λ e. cc) c)))
found_refused text w p (check.Lower e) x c = defined (unaccepted (program p x (faulty (check.Lower e) (λ e. cc) c)))
found_refused text w p (check.Init e) x c = defined (unaccepted (program p x (faulty (check.Init e) (λ e. cc) c)))
found_refused text w p (check.Region i l k) x c = defined (unaccepted (program p x (faulty (check.Region i l k) (λ e. cc) c)))
found_refused text w p (check.Loan e) x c = defined (unaccepted (program p x (faulty (check.Loan e) (λ e. cc) c)))
found_refused text w p check.OutOfMemory x c = no_room

-- a fault of the extraction of a text with this program
found_cause : (text : List ℕ) (w : Wish) (f : Fault) (p : ProgramTree) → Parses text p → Answers text w (Err f)
    → Found (Drawn text w) (status_of_extraction f) [] (line_of_extraction p f)
found_cause text w (fault.Syntax e) p x c = found_unread_too text w e c.cause
found_cause text w (fault.NotAccepted e) p x c =
    found_refused text w p e x (subst (λ (q : ProgramTree). Causes e q) (one_text text c.program p c.parses x) c.cause)
found_cause text w (fault.Refused r) p x c = defined (unmet r c)
found_cause text w fault.OutOfMemory p x c = no_room

pub found_fault : (text : List ℕ) (w : Wish) (r : Result Answer Fault) (f : Fault) (p : ProgramTree) → Parses text p
    → Answers text w r → r ≡ Err f → Found (Drawn text w) (status_of_extraction f) [] (line_of_extraction p f)
found_fault text w r f p x c e = found_cause text w f p x (subst (Answers text w) e c)

pub found_answer : (text : List ℕ) (w : Wish) (r : Result Answer Fault) (a : Answer) (bytes : List ℕ)
    → Answers text w r → r ≡ Ok a → bytes ≡ a.text → Found (Drawn text w) Done bytes []
found_answer text w r a bytes c e b =
    let k : Keeps text w a.text a.bounds = subst (Answers text w) e c in
    subst (λ (t : List ℕ). Found (Drawn text w) Done t []) (sym b) (defined (extracted a.text a.bounds k))

-- ---- what an extraction tells of its text

pub kept : (text : List ℕ) (w : Wish) (answer : List ℕ) (bounds : List Bound) → Keeps text w answer bounds → Extracts text w
kept text w answer bounds k = k.extraction.extracts

pub extracted_accepted : (text : List ℕ) (w : Wish) → Extracts text w → IsAccepted text
extracted_accepted text w x = record { program = x.text.program; parses = x.is_text.parses; accepted = (x.text.types, x.is_text.accepted) }

pub unmet_accepted : (text : List ℕ) (w : Wish) (r : Refusal) → IsRefused text w r → IsAccepted text
unmet_accepted text w r x = record { program = x.text.program; parses = x.is_text.parses; accepted = (x.text.types, x.is_text.accepted) }

lines_or_places : (r q : Refusal) → AreOne r q → (line_of_refusal r ≡ line_of_refusal q) ⊎ AreOfPlaces r q
lines_or_places (refusal.Unreachable s) (refusal.Unreachable t) e = inr tt
lines_or_places (refusal.Unfit f) (refusal.Unfit g) e = inl refl
lines_or_places (refusal.Loan a b) (refusal.Loan c d) e = inr tt
lines_or_places r q e = inl (ap line_of_refusal e)

pub refusal_lines : (text : List ℕ) (w : Wish) (r q : Refusal) → IsRefused text w r → IsRefused text w q → AreOne r q
    → (line_of_refusal r ≡ line_of_refusal q) ⊎ AreRefusalLines text w (line_of_refusal r) (line_of_refusal q)
refusal_lines text w r q x y e = by (lines_or_places r q e)
  where
    by : (line_of_refusal r ≡ line_of_refusal q) ⊎ AreOfPlaces r q
        → (line_of_refusal r ≡ line_of_refusal q) ⊎ AreRefusalLines text w (line_of_refusal r) (line_of_refusal q)
    by (inl k) = inl k
    by (inr o) = inr (record { one = r; other = q; refused_one = x; refused_other = y; alike = o; line_one = refl; line_other = refl })

-- ---- the defined answer

-- where each condition is met it is the extraction
pub extraction_defined : ((bytes : List ℕ) (w : Wish) (x : Extracts bytes w) → shape.Keeps bytes w x.case.text x.case.bounds)
    → ((bytes : List ℕ) (w : Wish) (text : List ℕ) (bs : List Bound) → shape.Keeps bytes w text bs → length bytes ≤ 1048576 → Keeps bytes w text bs)
    → (C : Choices) (words : List (List ℕ)) (text name : List ℕ) (start end : ℕ) (w : Preference) → command_of words ≡ Some (extracts name start end w) → length text ≤ 1048576
    → (x : Extracts text (wish C name start end w)) → Defined C words text Done x.case.text []
extraction_defined law whole C words text name start end w e short x =
    let v = wish C name start end w in
    let k = law text v x in
    subst (λ (c : Option Command). AnswersTo C c text Done x.case.text []) (sym e)
    (extracted x.case.text x.case.bounds (whole text v x.case.text x.case.bounds k short))

-- an answer is of an extraction that meets them, and there is nothing on standard error
abbrev IsExtracted : List ℕ → Wish → List ℕ → List ℕ → Type 0
IsExtracted text w out err = (x : Extracts text w) × (out ≡ x.case.text) × (err ≡ [])

drawn_extracted : (text : List ℕ) (w : Wish) (s : Status) (out err : List ℕ) → s ≡ Done → Drawn text w s out err → IsExtracted text w out err
drawn_extracted text w _ out err e (unaccepted x) = absurd (cc)
drawn_extracted text w _ _ _ e (extracted a bs k) = (k.extraction.extracts, k.extraction.rendered, refl)
drawn_extracted text w _ _ _ e (unmet r x) = absurd (cc)

pub answer_extracted : (C : Choices) (words : List (List ℕ)) (text name out err : List ℕ) (start end : ℕ) (w : Preference) → command_of words ≡ Some (extracts name start end w)
    → Defined C words text Done out err → IsExtracted text (wish C name start end w) out err
answer_extracted C words text name out err start end w e d =
    drawn_extracted text (wish C name start end w) Done out err refl (subst (λ (c : Option Command). AnswersTo C c text Done out err) e d)
