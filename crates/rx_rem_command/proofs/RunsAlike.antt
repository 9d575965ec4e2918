-- The answer of an extraction is accepted, and its runs are those of its text: the run of one is up to that of the other.
use Rattle.std.proofs.Common.{ℕ, ℤ, ◌≡◌, ◌*◌, List, Option, Some, inl, inr, refl, sym, ap, ◌∙◌, subst}
use Rattle.rx_core.specs.declared.types.Bound.{Bound}
use Rattle.rx_tree.specs.Plain.{ProgramTree}
use Rattle.rx_parse_grammar.specs.grammar.Items.{Parses}
use Rattle.rx_parse_grammar.proofs.Whole.{one_text}
use Rattle.rx_meaning.specs.declared.outcome.Outcome.{Outcome}
use Rattle.rx_meaning.specs.declared.outcome.End.TheVariants as ends
use Rattle.rx_meaning.specs.Programs.{UpTo, IsFront}
use Rattle.rx_check.specs.declared.fault.CheckFault.{CheckFault}
use Rattle.rx_check.specs.declared.fault.CheckFault.TheVariants as check
use Rattle.rx_check.specs.Passes.{Accepted}
use Rattle.rx_check.specs.Causes.{Causes}
use Rattle.rx_engine_extraction.specs.Source.{Wish}
use Rattle.rx_engine.specs.Promise.{Keeps, KeepsRuns}
use Rattle.rx_engine.specs.Runs.{Does}
use Rattle.rx_rem_command.specs.declared.status.Status.{Status}
use Rattle.rx_rem_command.specs.declared.status.Status.TheVariants.{Done, NotAccepted, StillRunning}
use Rattle.rx_rem_command.specs.Forms.{Preference, Command, extracts, runs, command_of}
use Rattle.rx_rem_command.specs.Defined.{Choices, Defined, AnswersTo, IsAccepted, wish, Drawn, unaccepted, extracted, unmet, Ran, refused, ran}
use Rattle.rx_rem_command.specs.RunLines.{end_status, end_line}
use Rattle.rx_rem_command.specs.UpTo.{IsUpTo}
use Rattle.rx_rem_command.proofs.CheckLemmas.{not_accepted}

-- ---- an answer

record Answered (text : List ℕ) (w : Wish) (answer : List ℕ) : Type 0 where
  pub bounds : List Bound
  pub kept : Keeps text w answer bounds

drawn_answered : (text : List ℕ) (w : Wish) (s : Status) (out err : List ℕ) → s ≡ Done → Drawn text w s out err → Answered text w out
drawn_answered text w _ out err e (unaccepted x) = absurd (cc)
drawn_answered text w _ _ _ e (extracted a bs k) = record { bounds = bs; kept = k }
drawn_answered text w _ _ _ e (unmet r x) = absurd (cc)

answered : (C : Choices) (words : List (List ℕ)) (text name answer err : List ℕ) (start end : ℕ) (w : Preference) → command_of words ≡ Some (extracts name start end w)
    → Defined C words text Done answer err → Answered text (wish C name start end w) answer
answered C words text name answer err start end w e d =
    drawn_answered text (wish C name start end w) Done answer err refl (subst (λ (c : Option Command). AnswersTo C c text Done answer err) e d)

pub answer_accepted : (C : Choices) (words : List (List ℕ)) (text name answer err : List ℕ) (start end : ℕ) (w : Preference) → command_of words ≡ Some (extracts name start end w)
    → Defined C words text Done answer err → IsAccepted answer
answer_accepted C words text name answer err start end w e d =
    let k = (answered C words text name answer err start end w e d).kept in
    record { program = k.extraction.program; parses = k.extraction.parses; accepted = k.accepted }

-- ---- its runs

-- the program of an accepted text does what the answer of its run says
record Doing (p : ProgramTree) (turns : ℕ) (input : List ℤ) (s : Status) (out err : List ℕ) : Type 0 where
  pub outcome : Outcome
  pub does : Does p turns input outcome
  pub status : s ≡ end_status outcome.end
  pub printed : out ≡ outcome.printed
  pub line : err ≡ end_line outcome.end

still : (o : Outcome) → o.end ≡ ends.Running → end_status o.end ≡ StillRunning
still o e = ap end_status e

up_to : (p q : ProgramTree) (n m : ℕ) (input : List ℤ) (s t : Status) (out err printed line : List ℕ) (a : Doing p n input s out err) (b : Doing q m input t printed line)
    → UpTo a.outcome b.outcome → IsUpTo s out err t printed line
up_to p q n m input s t out err printed line a b (inl e) = inl (
  a.status ∙ (ap (λ (o : Outcome). end_status o.end) e ∙ sym b.status),
  a.printed ∙ (ap (λ (o : Outcome). o.printed) e ∙ sym b.printed),
  a.line ∙ (ap (λ (o : Outcome). end_line o.end) e ∙ sym b.line),
)
up_to p q n m input s t out err printed line a b (inr f) = inr (
  a.status ∙ still a.outcome f.0,
  subst (λ (x : List ℕ). IsFront x printed) (sym a.printed) (subst (λ (x : List ℕ). IsFront a.outcome.printed x) (sym b.printed) f.1),
)

module _ (excluded : (p : ProgramTree) (e : CheckFault) → Accepted p → Causes e p → e ≡ check.OutOfMemory) where
  doing : (text : List ℕ) (p : ProgramTree) → Parses text p → Accepted p → (n : ℕ) (input : List ℤ) (s : Status) (out err : List ℕ) → Ran text n input s out err → Doing p n input s out err
  doing text p x h n input _ out err (refused c) = absurd (not_accepted excluded text (record { program = p; parses = x; accepted = h }) NotAccepted out err refl c)
  doing text p x h n input _ _ _ (ran q y k o d) = record { outcome = o; does = subst (λ (r : ProgramTree). Does r n input o) (one_text text q p y x) d; status = refl; printed = refl; line = refl }

  run_of : (C : Choices) (words : List (List ℕ)) (text : List ℕ) (n : ℕ) (input : List ℤ) (s : Status) (out err : List ℕ) → command_of words ≡ Some (runs n input) → Defined C words text s out err → Ran text n input s out err
  run_of C words text n input s out err e d = subst (λ (c : Option Command). AnswersTo C c text s out err) e d

  module _ (C : Choices) (words : List (List ℕ)) (text name answer said : List ℕ) (start end : ℕ) (w : Preference) (asked : command_of words ≡ Some (extracts name start end w))
      (is : Defined C words text Done answer said) where
    abbrev k : Keeps text (wish C name start end w) answer (answered C words text name answer said start end w asked is).bounds
    k = (answered C words text name answer said start end w asked is).kept

    abbrev p : ProgramTree
    p = k.extraction.extracts.text.program

    abbrev q : ProgramTree
    q = k.extraction.program

    alike : KeepsRuns p q
    alike = k.runs

    of_text : (n : ℕ) (input : List ℤ) (s : Status) (out err : List ℕ) → Ran text n input s out err → Doing p n input s out err
    of_text n input s out err r = let x = k.extraction.extracts in doing text p x.is_text.parses (x.text.types, x.is_text.accepted) n input s out err r

    of_answer : (n : ℕ) (input : List ℤ) (s : Status) (out err : List ℕ) → Ran answer n input s out err → Doing q n input s out err
    of_answer n input s out err r = doing answer q k.extraction.parses k.accepted n input s out err r

    -- with as many turns the answer is up to the text
    pub answer_up_to : (runs_it : List (List ℕ)) (n : ℕ) (input : List ℤ) → command_of runs_it ≡ Some (runs n input) → (s t : Status) (out err printed line : List ℕ)
        → Defined C runs_it answer s out err → Defined C runs_it text t printed line → IsUpTo s out err t printed line
    answer_up_to runs_it n input e s t out err printed line x y =
        let a = of_answer n input s out err (run_of C runs_it answer n input s out err e x) in
        let b = of_text n input t printed line (run_of C runs_it text n input t printed line e y) in
        up_to q p n n input s t out err printed line a b (alike.answer input n a.outcome b.outcome a.does b.does)

    -- and the text is up to the answer with twice as many
    pub text_up_to : (runs_it twice : List (List ℕ)) (n : ℕ) (input : List ℤ) → command_of runs_it ≡ Some (runs n input) → command_of twice ≡ Some (runs (2 * n) input)
        → (s t : Status) (out err printed line : List ℕ) → Defined C runs_it text s out err → Defined C twice answer t printed line → IsUpTo s out err t printed line
    text_up_to runs_it twice n input e f s t out err printed line x y =
        let a = of_text n input s out err (run_of C runs_it text n input s out err e x) in
        let b = of_answer (2 * n) input t printed line (run_of C twice answer (2 * n) input t printed line f y) in
        up_to p q n (2 * n) input s t out err printed line a b (alike.text input n a.outcome b.outcome a.does b.does)
