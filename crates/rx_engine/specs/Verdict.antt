-- What is answered of a text, a range, a name and a policy: an extraction that keeps its promise, or why there is none.
use Rattle.std.specs.Prelude.{ℕ, List, Result, Ok, Err}
use Rattle.rx_engine_extraction.specs.declared.refusal.Fault.{Fault}
use Rattle.rx_engine_extraction.specs.declared.refusal.Fault.TheVariants as fault
use Rattle.rx_engine_extraction.specs.declared.refusal.Answer.{Answer}
use Rattle.rx_engine_extraction.specs.Source.{Wish}
use Rattle.rx_engine_extraction.specs.Verdict.{IsUnread, IsUnaccepted, IsRefused}
use Rattle.rx_engine.specs.Promise.{Keeps}

-- the bytes are no program; or one that is not accepted; or a condition is the first that is not met
abbrev pub Answers : List ℕ → Wish → Result Answer Fault → Type 0
Answers bytes w (Ok a) = Keeps bytes w a.text a.bounds
Answers bytes w (Err (fault.Syntax e)) = IsUnread bytes e
Answers bytes w (Err (fault.NotAccepted e)) = IsUnaccepted bytes e
Answers bytes w (Err (fault.Refused r)) = IsRefused bytes w r
Answers bytes w (Err fault.OutOfMemory) = Unit {0}
