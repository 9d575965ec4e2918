-- When each status comes: what is then true of the words, of the text that was read, and of the source and the sinks.
use Rattle.std.specs.Prelude.{ℕ, ℤ, ◌≡◌, ◌⊎◌, ◌<◌, ◌≤◌, List, length, Some, None}
use Rattle.rx_core.specs.Streams.{Rose}
use Rattle.rx_tree.specs.Plain.{ProgramTree}
use Rattle.rx_parse_grammar.specs.grammar.Items.{Parses}
use Rattle.rx_meaning.specs.declared.outcome.Outcome.{Outcome}
use Rattle.rx_check.specs.Passes.{Accepted}
use Rattle.rx_cert.specs.Verified.{IsVerified}
use Rattle.rx_cert_least.specs.Least.{IsCertificateOf}
use Rattle.rx_compact_call.specs.Shortened.{IsShortened, IsUnnamed}
use Rattle.rx_engine_extraction.specs.declared.refusal.Refusal.{Refusal}
use Rattle.rx_engine_extraction.specs.Promise.{Extracts}
use Rattle.rx_engine_extraction.specs.Verdict.{IsRefused}
use Rattle.rx_rem_command.specs.declared.status.Status.{Status}
use Rattle.rx_rem_command.specs.declared.status.Status.TheVariants.{Done, Refused, Usage, NotAccepted, ReadFault, WriteFault, OutOfMemory, TooLong, StillRunning, Wrong, Trapped}
use Rattle.rx_rem_generated.specs.Generated.{generated}
use Rattle.rx_rem_command.specs.Forms.{Command, extracts, checks, certifies, verifies, compacts, runs, generates, command_of, Reads, most_bytes}
use Rattle.rx_rem_command.specs.Defined.{IsAccepted, Choices, wish, generated_wish}
use Rattle.rx_rem_command.specs.RunLines.{end_status}
use Rattle.rx_engine.specs.Runs.{Does}
use Rattle.rx_rem_command.specs.Replies.{Stream, IsForm, IsReader, HasFailed, IsRead, TakesOneMore, most_for}

-- the text is accepted, and its program ends with this status, on this input with so many turns
pub record EndsWith (text : List ℕ) (turns : ℕ) (input : List ℤ) (status : Status) : Type 0 where
  pub program : ProgramTree
  pub parses : Parses text program
  pub accepted : Accepted program
  pub outcome : Outcome
  pub does : Does program turns input outcome
  pub ends : end_status outcome.end ≡ status

-- the text is accepted, and its certificate is so long that this holds
pub record IsCertified (text : List ℕ) (Long : ℕ → Type 0) : Type 0 where
  pub bytes : List ℕ
  pub certificate : IsCertificateOf text bytes
  pub long : Long (length bytes)

-- the text is accepted, and with a short signature of its function of a name it is so long that this holds
pub record IsShort (text name : List ℕ) (Long : ℕ → Type 0) : Type 0 where
  pub bytes : List ℕ
  pub shortened : IsShortened text name bytes
  pub long : Long (length bytes)

-- each condition of the extraction is met; the text is accepted, and its certificate is short, or the text with the short signature; the
-- certificate is good for its text; `main` of the program ends
abbrev pub IsDone : Choices → Command → List ℕ → Type 0
IsDone C (extracts name start end w) text = Extracts text (wish C name start end w)
IsDone C checks text = IsAccepted text
IsDone C certifies text = IsCertified text (λ n. n ≤ 16777216)
IsDone C verifies text = IsVerified text
IsDone C (compacts name) text = IsShort text name (λ n. n ≤ 1048576)
IsDone C (runs turns input) text = EndsWith text turns input Done
IsDone C (generates n) text = Extracts (generated n) (generated_wish C n)

-- the text is accepted, and a condition of the extraction is not met: the refusal tells the first that is not; or its certificate is long;
-- or it has no function of the name, or is long with the short signature
abbrev pub IsUnmet : Choices → Command → List ℕ → Type 0
IsUnmet C (extracts name start end w) text = (r : Refusal) × IsRefused text (wish C name start end w) r
IsUnmet C (generates n) text = (r : Refusal) × IsRefused (generated n) (generated_wish C n) r
IsUnmet C certifies text = IsCertified text (λ n. 16777216 < n)
IsUnmet C (compacts name) text = IsUnnamed text name ⊎ IsShort text name (λ n. 1048576 < n)
IsUnmet C _ text = ⊥

-- the text is not accepted: the one that is read, or that is made; or what is read is no certificate that is good for its text
abbrev pub IsBad : Command → List ℕ → Type 0
IsBad (generates n) text = IsAccepted (generated n) → ⊥
IsBad verifies text = IsVerified text → ⊥
IsBad _ text = IsAccepted text → ⊥

-- the program that is run ends otherwise
abbrev pub IsStopped : Command → List ℕ → Status → Type 0
IsStopped (runs turns input) text status = EndsWith text turns input status
IsStopped _ text status = ⊥

-- when a status comes of what is asked for, on a text: one of these is true of a text at most
abbrev pub Comes : Choices → Command → List ℕ → Status → Type 0
Comes C command text Done = IsDone C command text
Comes C command text Refused = IsUnmet C command text
Comes C command text NotAccepted = IsBad command text
Comes C command text StillRunning = IsStopped command text StillRunning
Comes C command text Wrong = IsStopped command text Wrong
Comes C command text Trapped = IsStopped command text Trapped
Comes C command text _ = ⊥

-- the words ask for something, where that is of a text all that the source had left was read, and the status comes of that text
pub record ComesOfText (C : Choices) (words : List (List ℕ)) (source source' : Stream) (status : Status) : Type 0 where
  pub command : Command
  pub asked : command_of words ≡ Some command
  pub text : List ℕ
  pub read : Reads (Some command) → IsRead (most_bytes (Some command)) source source' text
  pub comes : Comes C command text status

-- when each status comes; want of memory is free, once the words have a form
abbrev pub Cause : Choices → List (List ℕ) → Stream → Stream → Stream → Stream → Stream → Stream → Status → Type 0
Cause C words source source' out out' err err' Usage = command_of words ≡ None
Cause C words source source' out out' err err' ReadFault = IsReader words × Rose source.faults source'.faults
Cause C words source source' out out' err err' WriteFault = HasFailed out out' ⊎ HasFailed err err'
Cause C words source source' out out' err err' OutOfMemory = IsForm words
Cause C words source source' out out' err err' TooLong = IsReader words × TakesOneMore (most_for words) source source'
Cause C words source source' out out' err err' status = ComesOfText C words source source' status
