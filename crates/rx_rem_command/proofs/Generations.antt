-- What is found where a text is made, extracted from and run with its answer.
use Rattle.std.specs.Prelude.{◌≢◌, codes, IfOk}
use Rattle.std.proofs.Common.{ℕ, ◌≡◌, ◌≤◌, List, [], length, Option, Some, Result, Ok, Err, refl, sym, ap, subst}
use Rattle.rx_core.specs.declared.types.Bound.{Bound}
use Rattle.rx_tree.specs.Plain.{ProgramTree}
use Rattle.rx_parse_grammar.specs.grammar.Items.{Parses}
use Rattle.rx_parse_grammar.proofs.Whole.{one_text}
use Rattle.rx_parse.specs.declared.fault.SyntaxFault.{SyntaxFault}
use Rattle.rx_parse.specs.Answer.{IsCause}
use Rattle.rx_check.specs.declared.fault.CheckFault.{CheckFault}
use Rattle.rx_check.specs.Passes.{Accepted}
use Rattle.rx_check.specs.Causes.{Causes}
use Rattle.rx_check.specs.Front.{IsCheckedOf}
use Rattle.rx_check.specs.Front as front
use Rattle.rx_modes_policy.specs.declared.uses.Mode.{Mode}
use Rattle.rx_modes_policy.specs.declared.uses.Uses.{Uses}
use Rattle.rx_engine_extraction.specs.declared.refusal.Answer.{Answer}
use Rattle.rx_engine_extraction.specs.declared.refusal.Fault.{Fault}
use Rattle.rx_engine_extraction.specs.declared.refusal.Fault.TheVariants as fault
use Rattle.rx_engine_extraction.specs.Source.{Wish}
use Rattle.rx_meaning.specs.declared.outcome.Outcome.{Outcome}
use Rattle.rx_meaning.specs.Programs.{UpTo}
use Rattle.rx_engine_extraction.specs.Promise.{Extracts}
use Rattle.rx_engine_extraction.specs.Promise as shape
use Rattle.rx_engine.specs.Runs.{Does}
use Rattle.rx_engine.specs.Promise.{Keeps}
use Rattle.rx_engine.specs.Verdict.{Answers}
use Rattle.rx_rem_generated.specs.Generated.{generated, run_start, run_end, input, turns, twice}
use Rattle.rx_rem_generated.specs.Summary.{summary}
use Rattle.rx_rem_generated.proofs.Lengths.{generated_length}
use Rattle.rx_rem_command.specs.declared.status.Status.{Status}
use Rattle.rx_rem_command.specs.declared.status.Status.TheVariants.{Done}
use Rattle.rx_rem_command.specs.Lines.{syntax_status, syntax_line}
use Rattle.rx_rem_command.specs.CheckLines.{line_of_check, status_of_check}
use Rattle.rx_rem_command.specs.ExtractionLines.{line_of_extraction, status_of_extraction}
use Rattle.rx_rem_command.specs.Defined.{IsAccepted, Choices, Defined, AnswersTo, generated_wish, Drawn, Summarised, undrawn, summarised}
use Rattle.rx_rem_command.specs.Forms.{Command, generates, command_of}
use Rattle.rx_rem_command.specs.Replies.{Found, defined, no_room}
use Rattle.rx_rem_command.specs.GeneratedReplies.{FoundBoth, found, no_memory_for_both}
use Rattle.rx_rem_command.proofs.Extractions.{found_unread_too, found_refused, found_fault}
use Rattle.rx_rem_command.proofs.RunLemmas.{unread_not_done, not_passed_not_done}
use Rattle.rx_rem_command.proofs.Counts.{counts_few}

-- ---- where there is no answer

pub found_undrawn : (text : List ℕ) (n : ℕ) (w : Wish) (s : Status) (out err : List ℕ) → s ≢ Done → Found (Drawn text w) s out err → Found (Summarised text n w) s out err
found_undrawn text n w s out err k (defined d) = defined (undrawn k d)
found_undrawn text n w _ _ _ k no_room = no_room

pub told_unread : (text : List ℕ) (n : ℕ) (w : Wish) (f : SyntaxFault) → IsCause f text → Found (Summarised text n w) (syntax_status f) [] (syntax_line f)
told_unread text n w f c = found_undrawn text n w (syntax_status f) [] (syntax_line f) (unread_not_done f) (found_unread_too text w f c)

pub told_refused : (text : List ℕ) (n : ℕ) (w : Wish) (p : ProgramTree) (f : CheckFault) → Parses text p → Causes f p
    → Found (Summarised text n w) (status_of_check f) [] (line_of_check p f)
told_refused text n w p f x c =
    found_undrawn text n w (status_of_check f) [] (line_of_check p f) (not_passed_not_done f) (found_refused text w p f x c)

extraction_not_done : (f : Fault) → status_of_extraction f ≡ Done → ⊥
extraction_not_done (fault.Syntax e) h = unread_not_done e h
extraction_not_done (fault.NotAccepted e) h = not_passed_not_done e h
extraction_not_done (fault.Refused r) h = cc
extraction_not_done fault.OutOfMemory h = cc

pub told_fault : (text : List ℕ) (n : ℕ) (w : Wish) (r : Result Answer Fault) (f : Fault) (p : ProgramTree) → Parses text p
    → Answers text w r → r ≡ Err f → Found (Summarised text n w) (status_of_extraction f) [] (line_of_extraction p f)
told_fault text n w r f p x c e =
    found_undrawn text n w (status_of_extraction f) [] (line_of_extraction p f) (extraction_not_done f) (found_fault text w r f p x c e)

-- ---- an answer is accepted and short

pub kept_by : (text : List ℕ) (w : Wish) (r : Result Answer Fault) (a : Answer) → Answers text w r → r ≡ Ok a → Keeps text w a.text a.bounds
kept_by text w r a c e = subst (Answers text w) e c

-- the same by the bytes of both
pub kept_bytes : (text bytes : List ℕ) (w : Wish) (r : Result Answer Fault) (a : Answer) (answer : List ℕ) → bytes ≡ text → answer ≡ a.text
    → Answers bytes w r → r ≡ Ok a → (bounds : List Bound) × Keeps text w answer bounds
kept_bytes text bytes w r a answer e f c i = let k = kept_by bytes w r a c i in
    (a.bounds, subst (λ (t : List ℕ). Keeps text w t a.bounds) (sym f) (subst (λ (t : List ℕ). Keeps t w a.text a.bounds) e k))

pub answer_is_accepted : (text : List ℕ) (w : Wish) (answer : List ℕ) (bounds : List Bound) → Keeps text w answer bounds → IsAccepted answer
answer_is_accepted text w answer bounds k = record { program = k.extraction.program; parses = k.extraction.parses; accepted = k.accepted }

pub answer_is_short : (text : List ℕ) (w : Wish) (answer : List ℕ) (bounds : List Bound) → Keeps text w answer bounds → length answer ≤ 1048576
answer_is_short text w answer bounds k = subst (λ (t : List ℕ). length t ≤ 1048576) (sym k.extraction.rendered) k.extraction.extracts.stands.0

-- ---- what both do is told

-- what is checked is the text's program
pub text_is_checked : (text : List ℕ) (w : Wish) (answer : List ℕ) (bounds : List Bound) (k : Keeps text w answer bounds) (p : ProgramTree) (x : front.Judged)
    → Parses text p → IsCheckedOf p x → IsCheckedOf k.extraction.extracts.text.program x
text_is_checked text w answer bounds k p x d c = let q = k.extraction.extracts.text.program in
    subst (λ (r : ProgramTree). IsCheckedOf r x) (one_text text p q d k.extraction.extracts.is_text.parses) c

pub told_both : (text : List ℕ) (n : ℕ) (w : Wish) (answer : List ℕ) (bounds : List Bound) (k : Keeps text w answer bounds) (s : Status) (out err : List ℕ)
    → FoundBoth n k.extraction.extracts.text.program k.extraction.program text answer s out err → Found (Summarised text n w) s out err
told_both text n w answer bounds k _ _ _ (found t b) =
    subst (λ (o : List ℕ). Found (Summarised text n w) Done o []) (sym b.is) (defined (summarised answer bounds k b.first b.second b.does b.does_again))
told_both text n w answer bounds k _ _ _ no_memory_for_both = no_room

-- a text has one program, so what holds of that which is read holds of each
pub of_each : (text : List ℕ) (p : ProgramTree) (P : ProgramTree → Type 0) → Parses text p → P p → (q : ProgramTree) → Parses text q → P q
of_each text p P x h q y = subst P (one_text text p q x y) h

pub if_ok_each : {A E : Type 0} (P Q : A → Type 0) (r : Result A E) → ((a : A) → P a → Q a) → IfOk r P → IfOk r Q
if_ok_each P Q (Ok a) f x = f a x
if_ok_each P Q (Err e) f x = tt

pub is_the_accepted : (text : List ℕ) (p : ProgramTree) → Parses text p → IsAccepted text → Accepted p
is_the_accepted text p x a = subst Accepted (one_text text a.program p a.parses x) a.accepted

-- the text that is made, and the range of its run
pub of_generated : (text : List ℕ) (start end n : ℕ) (choice : Uses → Mode) (s : Status) (out err : List ℕ) → text ≡ generated n → start ≡ run_start n → end ≡ run_end n
    → Found (Summarised text n (record { start = start; end = end; name = codes "step"; choice = choice })) s out err
    → Found (Summarised (generated n) n (record { start = run_start n; end = run_end n; name = codes "step"; choice = choice })) s out err
of_generated text start end n choice s out err e f g x =
    subst (λ (t : List ℕ). Found (Summarised t n (record { start = run_start n; end = run_end n; name = codes "step"; choice = choice })) s out err) e
    (subst (λ (i : ℕ). Found (Summarised text n (record { start = i; end = run_end n; name = codes "step"; choice = choice })) s out err) f
    (subst (λ (i : ℕ). Found (Summarised text n (record { start = start; end = i; name = codes "step"; choice = choice })) s out err) g x))

-- ---- the defined answer

told_done : (text : List ℕ) (n : ℕ) (w : Wish) (answer : List ℕ) (bounds : List Bound) (k : Keeps text w answer bounds) (p q : ProgramTree) → Parses text p → Parses answer q
    → (o a : Outcome) → Does p (turns n) (input n) o → Does q (twice n) (input n) a → Summarised text n w Done (summary text answer o.printed a.printed) []
told_done text n w answer bounds k p q x y o a f g = summarised answer bounds k o a
    (subst (λ (r : ProgramTree). Does r (turns n) (input n) o) (one_text text p k.extraction.extracts.text.program x k.extraction.extracts.is_text.parses) f)
    (subst (λ (r : ProgramTree). Does r (twice n) (input n) a) (one_text answer q k.extraction.program y k.extraction.parses) g)

pub summary_defined : ((bytes : List ℕ) (w : Wish) (x : Extracts bytes w) → shape.Keeps bytes w x.case.text x.case.bounds)
    → ((bytes : List ℕ) (w : Wish) (text : List ℕ) (bs : List Bound) → shape.Keeps bytes w text bs → length bytes ≤ 1048576 → Keeps bytes w text bs)
    → (C : Choices) (words : List (List ℕ)) (text : List ℕ) (n : ℕ) → command_of words ≡ Some (generates n) → (x : Extracts (generated n) (generated_wish C n))
    → (p : ProgramTree) → Parses x.case.text p → (o a : Outcome) → Does x.text.program (turns n) (input n) o → Does p (twice n) (input n) a
    → Defined C words text Done (summary (generated n) x.case.text o.printed a.printed) []
summary_defined law whole C words text n e x p y o a f g =
    let v = generated_wish C n in let answer = x.case.text in
    let short : length (generated n) ≤ 1048576 = generated_length n (counts_few words n e).1 in
    let k = law (generated n) v x in
    let keeps = whole (generated n) v answer x.case.bounds k short in
    subst (λ (c : Option Command). AnswersTo C c text Done (summary (generated n) answer o.printed a.printed) []) (sym e)
    (told_done (generated n) n v answer x.case.bounds keeps x.text.program p x.is_text.parses y o a f g)

abbrev IsTold : List ℕ → ℕ → Wish → List ℕ → List ℕ → Type 0
IsTold text n w out err = (x : Extracts text w) × (o : Outcome) × (a : Outcome) × (out ≡ summary text x.case.text o.printed a.printed) × (err ≡ [])
    × Does x.text.program (turns n) (input n) o × UpTo o a

told_only : (text : List ℕ) (n : ℕ) (w : Wish) (s : Status) (out err : List ℕ) → s ≡ Done → Summarised text n w s out err → IsTold text n w out err
told_only text n w s out err e (undrawn k d) = absurd (k e)
told_only text n w _ _ _ e (summarised answer bounds k o a f g) = (
  k.extraction.extracts,
  o,
  a,
  ap (λ (t : List ℕ). summary text t o.printed a.printed) k.extraction.rendered,
  refl,
  f,
  k.runs.text (input n) (turns n) o a f g,
)

pub summary_only : (C : Choices) (words : List (List ℕ)) (text out err : List ℕ) (n : ℕ) → command_of words ≡ Some (generates n) → Defined C words text Done out err
    → IsTold (generated n) n (generated_wish C n) out err
summary_only C words text out err n e d =
    told_only (generated n) n (generated_wish C n) Done out err refl (subst (λ (c : Option Command). AnswersTo C c text Done out err) e d)
