-- What a call of the tool does: what is due, and how far it was written.
use Rattle.std.specs.Prelude.{ℕ, ◌+◌, ◌≡◌, ◌≤◌, ◌⊎◌, List, [], length, take, Option, Some, None}
use Rattle.rx_core.specs.Streams.{Rose, Told, Gone, Grown}
use Rattle.rx_tree.specs.Plain.{ProgramTree}
use Rattle.rx_rem_command.specs.declared.status.Status.{Status}
use Rattle.rx_rem_command.specs.declared.status.Status.TheVariants.{ReadFault, WriteFault, OutOfMemory, TooLong}
use Rattle.rx_rem_command.specs.Forms.{command_of, Reads, most_bytes}
use Rattle.rx_rem_command.specs.Lines.{status_line}
use Rattle.rx_rem_command.specs.Defined.{Choices, Judged, Defined}

-- the bytes of a source or a sink, where it tells them, and its counts
pub record Stream : Type 0 where
  pub bytes : Option (List ℕ)
  pub faults : ℕ
  pub standstills : ℕ

abbrev pub source_state : {S : Type 0} → (S → Option (List ℕ)) → (S → ℕ) → S → Stream
source_state remaining faults s = record { bytes = remaining s; faults = faults s; standstills = 0 }

abbrev pub sink_state : {K : Type 0} → (K → Option (List ℕ)) → (K → ℕ) → (K → ℕ) → K → Stream
sink_state contents faults standstills k = record { bytes = contents k; faults = faults k; standstills = standstills k }

-- the words have a form
abbrev pub IsForm : List (List ℕ) → Type 0
IsForm words = command_of words ≡ None → ⊥

-- they have one for which a text is read
abbrev pub IsReader : List (List ℕ) → Type 0
IsReader words = Reads (command_of words)

-- a sink failed, or took no byte of a piece, and only one of them
abbrev pub HasFailed : Stream → Stream → Type 0
HasFailed old new =
    (Rose old.faults new.faults × (new.standstills ≡ old.standstills)) ⊎ (Rose old.standstills new.standstills × (new.faults ≡ old.faults))

-- a sink did neither
abbrev pub IsSound : Stream → Stream → Type 0
IsSound old new = (new.faults ≡ old.faults) × (new.standstills ≡ old.standstills)

-- a sink got all the bytes, at the first try
abbrev pub HasAll : Stream → Stream → List ℕ → Type 0
HasAll old new bytes = Grown old.bytes new.bytes bytes × IsSound old new

-- a sink got a front of the bytes, and failed
abbrev pub IsCut : Stream → Stream → List ℕ → Type 0
IsCut old new bytes = ((n : ℕ) × (n ≤ length bytes) × Grown old.bytes new.bytes (take n bytes)) × HasFailed old new

-- the text was all that the source had left, no more than it may have, and nothing else was taken
pub record IsRead (most : ℕ) (old new : Stream) (text : List ℕ) : Type 0 where
  pub whole : Told old.bytes (λ all. (text ≡ all) × (new.bytes ≡ Some []))
  pub within : length text ≤ most
  pub gone : Gone old.bytes new.bytes text

-- a front of what the source had left was taken, of so many bytes, and nothing else
pub record IsTaken (old new : Stream) (Many : ℕ → Type 0) : Type 0 where
  pub bytes : List ℕ
  pub many : Many (length bytes)
  pub gone : Gone old.bytes new.bytes bytes

-- what a text may have at most was taken, and what is one byte longer
abbrev pub TakesAtMost : ℕ → Stream → Stream → Type 0
TakesAtMost most old new = IsTaken old new (λ n. n ≤ most)

abbrev pub TakesOneMore : ℕ → Stream → Stream → Type 0
TakesOneMore most old new = IsTaken old new (λ n. n ≡ most + 1)

-- how many bytes are read at most for the words
abbrev pub most_for : List (List ℕ) → ℕ
most_for words = most_bytes (command_of words)

-- the status, the bytes for standard output and the line for standard error; the source failed exactly where `ReadFault` is due
pub data Due (C : Choices) (words : List (List ℕ)) (source source' : Stream) : Status → List ℕ → List ℕ → Type 0 where
  answered : {status : Status} {outs errs : List ℕ} (text : List ℕ) → source'.faults ≡ source.faults → (IsReader words → IsRead (most_for words) source source' text) → Defined C words text status outs errs
      → Due C words source source' status outs errs
  not_read : IsReader words → Rose source.faults source'.faults → TakesAtMost (most_for words) source source' → Due C words source source' ReadFault [] (status_line ReadFault)
  too_long : IsReader words → source'.faults ≡ source.faults → TakesOneMore (most_for words) source source' → Due C words source source' TooLong [] (status_line TooLong)
  no_memory : IsForm words → source'.faults ≡ source.faults → TakesAtMost (most_for words) source source' → Due C words source source' OutOfMemory [] (status_line OutOfMemory)

-- how far what is due was written; where that failed, the status is `WriteFault`
pub data Ending (out out' err err' : Stream) (status : Status) (outs errs : List ℕ) : Status → Type 0 where
  whole : HasAll out out' outs → HasAll err err' errs → Ending out out' err err' status outs errs status
  out_cut : IsCut out out' outs → HasAll err err' (status_line WriteFault) → Ending out out' err err' status outs errs WriteFault
  both_cut : IsCut out out' outs → IsCut err err' (status_line WriteFault) → Ending out out' err err' status outs errs WriteFault
  err_cut : HasAll out out' outs → IsCut err err' errs → Ending out out' err err' status outs errs WriteFault

-- the defined answer, or want of memory
abbrev pub IsComplete : Choices → List (List ℕ) → List ℕ → Stream → Stream → Stream → Stream → Status → Type 0
IsComplete C words text out out' err err' result =
    (result ≡ OutOfMemory)
    ⊎ ((outs : List ℕ) × (errs : List ℕ) × Defined C words text result outs errs × HasAll out out' outs × HasAll err err' errs)

pub record Replies (C : Choices) (words : List (List ℕ)) (source source' out out' err err' : Stream) (result : Status) : Type 0 where
  pub written : (status : Status) × (outs : List ℕ) × (errs : List ℕ) × Due C words source source' status outs errs × Ending out out' err err' status outs errs result
  -- a fault has its cause
  pub read_fault : result ≡ ReadFault → Rose source.faults source'.faults
  pub write_fault : result ≡ WriteFault → HasFailed out out' ⊎ HasFailed err err'
  -- where none is told, none came; of a line that was cut, `written` says whether it was that of `ReadFault`
  pub read_sound : (result ≡ ReadFault → ⊥) → (result ≡ WriteFault → ⊥) → source'.faults ≡ source.faults
  pub write_sound : (result ≡ WriteFault → ⊥) → IsSound out out' × IsSound err err'
  -- where no count rose, the answer is the defined one, or want of memory; of words that ask for something of a text, it is that of the text
  pub complete : IsForm words → (text : List ℕ) → (IsReader words → (source.bytes ≡ Some text) × (length text ≤ most_for words)) → (Rose source.faults source'.faults → ⊥)
      → (HasFailed out out' → ⊥) → (HasFailed err err' → ⊥) → IsComplete C words text out out' err err' result

-- what is found where these are the answers: one of them, or want of memory
pub data Found (Answers : Status → List ℕ → List ℕ → Type 0) : Status → List ℕ → List ℕ → Type 0 where
  defined : {status : Status} {outs errs : List ℕ} → Answers status outs errs → Found Answers status outs errs
  no_room : Found Answers OutOfMemory [] (status_line OutOfMemory)

-- what is found for a program that is checked
pub data FoundOf (p : ProgramTree) : Status → List ℕ → List ℕ → Type 0 where
  judged : {status : Status} {outs errs : List ℕ} → Judged p status outs errs → FoundOf p status outs errs
  no_space : FoundOf p OutOfMemory [] (status_line OutOfMemory)

-- one line was written, or cut
abbrev pub Reports : Stream → Stream → Status → List ℕ → Status → Type 0
Reports err err' status line result = ((result ≡ status) × HasAll err err' line) ⊎ ((result ≡ WriteFault) × IsCut err err' line)

-- the line was, or that of want of memory
abbrev pub Refuses : Stream → Stream → Status → List ℕ → Status → Type 0
Refuses err err' status line result = Reports err err' status line result ⊎ Reports err err' OutOfMemory (status_line OutOfMemory) result

-- an answer was written, or cut
abbrev pub Delivers : Stream → Stream → Stream → Stream → List ℕ → Status → Status → Type 0
Delivers out out' err err' bytes done result =
    ((result ≡ done) × HasAll out out' bytes × HasAll err err' [])
    ⊎ ((result ≡ WriteFault) × IsCut out out' bytes × (HasAll err err' (status_line WriteFault) ⊎ IsCut err err' (status_line WriteFault)))
