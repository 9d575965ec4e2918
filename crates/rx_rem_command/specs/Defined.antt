-- The defined answer of words on a text: a status, the bytes for standard output, and the line for standard error.
use Rattle.std.specs.Prelude.{ℕ, ℤ, ◌≡◌, ◌≢◌, ◌<◌, ◌≤◌, List, [], length, Option, Some, None, codes}
use Rattle.rx_core.specs.declared.types.Bound.{Bound}
use Rattle.rx_tree.specs.Plain.{ProgramTree}
use Rattle.rx_parse_grammar.specs.grammar.Items.{Parses}
use Rattle.rx_parse.specs.declared.fault.SyntaxFault.{SyntaxFault}
use Rattle.rx_meaning.specs.declared.outcome.Outcome.{Outcome}
use Rattle.rx_check.specs.declared.fault.CheckFault.{CheckFault}
use Rattle.rx_check.specs.declared.fault.CheckFault.TheVariants as check
use Rattle.rx_check.specs.Passes.{Accepted}
use Rattle.rx_check.specs.Causes.{Causes}
use Rattle.rx_cert.specs.declared.fault.VerifyFault.{VerifyFault}
use Rattle.rx_cert.specs.declared.fault.VerifyFault.TheVariants as verify
use Rattle.rx_cert.specs.Verified.{IsVerified, VerifyCauses}
use Rattle.rx_cert_least.specs.Least.{IsCertificateOf}
use Rattle.rx_compact_call.specs.Shortened.{IsShortened, IsUnnamed}
use Rattle.rx_modes_policy.specs.declared.uses.Mode.{Mode}
use Rattle.rx_modes_policy.specs.declared.uses.Uses.{Uses}
use Rattle.rx_engine_extraction.specs.declared.refusal.Refusal.{Refusal}
use Rattle.rx_engine_extraction.specs.Source.{Wish}
use Rattle.rx_engine.specs.Promise.{Keeps}
use Rattle.rx_engine_extraction.specs.Verdict.{IsUnread, IsRefused}
use Rattle.rx_rem_generated.specs.Generated.{generated, run_start, run_end, input, turns, twice}
use Rattle.rx_rem_generated.specs.Summary.{summary}
use Rattle.rx_rem_command.specs.declared.status.Status.{Status}
use Rattle.rx_rem_command.specs.declared.status.Status.TheVariants.{Done, Refused, Usage, NotAccepted}
use Rattle.rx_rem_command.specs.Forms.{Preference, by_copy, by_reference, Command, extracts, checks, certifies, verifies, compacts, runs, generates, command_of}
use Rattle.rx_rem_command.specs.Lines.{status_line, syntax_line}
use Rattle.rx_rem_command.specs.CheckLines.{line_of_check}
use Rattle.rx_rem_command.specs.ExtractionLines.{line_of_refusal}
use Rattle.rx_rem_command.specs.CertificateLines.{large_line, SaysFault}
use Rattle.rx_rem_command.specs.CompactLines.{unnamed_line}
use Rattle.rx_rem_command.specs.RunLines.{end_status, end_line}
use Rattle.rx_engine.specs.Runs.{Does}

-- ---- of a check

-- the text is a program that is accepted
pub record IsAccepted (text : List ℕ) : Type 0 where
  pub program : ProgramTree
  pub parses : Parses text program
  pub accepted : Accepted program

-- these are of a program, which is accepted or has this fault
pub data Judged (p : ProgramTree) : Status → List ℕ → List ℕ → Type 0 where
  passed : Accepted p → Judged p Done (codes "accepted\n") []
  faulty : (f : CheckFault) → f ≢ check.OutOfMemory → Causes f p → Judged p NotAccepted [] (line_of_check p f)

-- these are of a text, which is no program, for this reason, or is one
pub data Checked (text : List ℕ) : Status → List ℕ → List ℕ → Type 0 where
  no_program : (f : SyntaxFault) → IsUnread text f → Checked text NotAccepted [] (syntax_line f)
  program : {status : Status} {out err : List ℕ} (p : ProgramTree) → Parses text p → Judged p status out err → Checked text status out err

-- ---- of a certificate

-- these are of a text that is not accepted, as its check answers; or of its certificate; or of how many bytes that has, where it is too long
pub data Certified (text : List ℕ) : Status → List ℕ → List ℕ → Type 0 where
  uncertified : {out err : List ℕ} → Checked text NotAccepted out err → Certified text NotAccepted out err
  certified : (bytes : List ℕ) → IsCertificateOf text bytes → length bytes ≤ 16777216 → Certified text Done bytes []
  too_large : (bytes : List ℕ) → IsCertificateOf text bytes → 16777216 < length bytes → Certified text Refused [] (large_line (length bytes))

-- these are of bytes that are a certificate which is good for its text, or of a fault that is true of them
pub data Verdict (bytes : List ℕ) : Status → List ℕ → List ℕ → Type 0 where
  good : IsVerified bytes → Verdict bytes Done (codes "accepted\n") []
  bad : {line : List ℕ} (e : VerifyFault) → e ≢ verify.OutOfMemory → VerifyCauses e bytes → SaysFault bytes e line → Verdict bytes NotAccepted [] line

-- ---- of a short signature

-- these are of a text that is not accepted, as its check answers; or of the text with a short signature; or that it has no such function; or
-- of how many bytes it would have, where it is too long
pub data Shortened (text name : List ℕ) : Status → List ℕ → List ℕ → Type 0 where
  unshortened : {out err : List ℕ} → Checked text NotAccepted out err → Shortened text name NotAccepted out err
  shortened : (bytes : List ℕ) → IsShortened text name bytes → length bytes ≤ 1048576 → Shortened text name Done bytes []
  unnamed : IsUnnamed text name → Shortened text name Refused [] unnamed_line
  too_long : (bytes : List ℕ) → IsShortened text name bytes → 1048576 < length bytes → Shortened text name Refused [] (large_line (length bytes))

-- ---- of an extraction

-- how each variable is passed, among the ways that its uses allow, as two policies choose
pub record Choices : Type 0 where
  pub copy : Uses → Mode
  pub reference : Uses → Mode

abbrev pub choice_of : Choices → Preference → Uses → Mode
choice_of C by_copy = C.copy
choice_of C by_reference = C.reference

-- what is asked of a text
abbrev pub wish : Choices → List ℕ → ℕ → ℕ → Preference → Wish
wish C name start end w = record { start = start; end = end; name = name; choice = choice_of C w }

-- these are of a text that is not accepted, as its check answers; or of the answer, which keeps its promise; or of the first condition that
-- the text, which is accepted, doesn't meet
pub data Drawn (text : List ℕ) (w : Wish) : Status → List ℕ → List ℕ → Type 0 where
  unaccepted : {out err : List ℕ} → Checked text NotAccepted out err → Drawn text w NotAccepted out err
  extracted : (answer : List ℕ) (bounds : List Bound) → Keeps text w answer bounds → Drawn text w Done answer []
  unmet : (r : Refusal) → IsRefused text w r → Drawn text w Refused [] (line_of_refusal r)

-- ---- of a run

-- these are of a text that is not accepted, as its check answers, or of what its program does
pub data Ran (text : List ℕ) (turns : ℕ) (input : List ℤ) : Status → List ℕ → List ℕ → Type 0 where
  refused : {out err : List ℕ} → Checked text NotAccepted out err → Ran text turns input NotAccepted out err
  ran : (p : ProgramTree) → Parses text p → Accepted p → (o : Outcome) → Does p turns input o
      → Ran text turns input (end_status o.end) o.printed (end_line o.end)

-- ---- of a generated text

-- the run of its last function becomes `step`
abbrev pub generated_wish : Choices → ℕ → Wish
generated_wish C n = wish C (codes "step") (run_start n) (run_end n) by_copy

-- these are of a text of so many functions: what its extraction answers, where that is no answer; or what is told of the text and of the
-- answer, each with what it prints
pub data Summarised (text : List ℕ) (n : ℕ) (w : Wish) : Status → List ℕ → List ℕ → Type 0 where
  undrawn : {status : Status} {out err : List ℕ} → status ≢ Done → Drawn text w status out err → Summarised text n w status out err
  summarised : (answer : List ℕ) (bounds : List Bound) (k : Keeps text w answer bounds)
      → (first second : Outcome) → Does k.extraction.extracts.text.program (turns n) (input n) first → Does k.extraction.program (twice n) (input n) second
      → Summarised text n w Done (summary text answer first.printed second.printed) []

-- ---- of words

abbrev pub AnswersTo : Choices → Option Command → List ℕ → Status → List ℕ → List ℕ → Type 0
AnswersTo C None text = λ status out err. (status ≡ Usage) × (out ≡ []) × (err ≡ status_line Usage)
AnswersTo C (Some (extracts name start end w)) text = Drawn text (wish C name start end w)
AnswersTo C (Some checks) text = Checked text
AnswersTo C (Some certifies) text = Certified text
AnswersTo C (Some verifies) text = Verdict text
AnswersTo C (Some (compacts name)) text = Shortened text name
AnswersTo C (Some (runs turns input)) text = Ran text turns input
AnswersTo C (Some (generates n)) text = Summarised (generated n) n (generated_wish C n)

abbrev pub Defined : Choices → List (List ℕ) → List ℕ → Status → List ℕ → List ℕ → Type 0
Defined C words text = AnswersTo C (command_of words) text
