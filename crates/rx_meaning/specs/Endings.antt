-- How a run ends, and where it does what has no meaning, why (Rust Reference, "Behavior considered undefined", "Overflow").
-- That an accepted program has no end with such a cause is for laws to say, of one cause at a time.
use Rattle.rx_meaning.specs.declared.outcome.End.{End}
use Rattle.rx_meaning.specs.declared.outcome.Trap.{Trap}

-- why what was done has no meaning
pub data Cause : Type 0 where
  -- what was looked at, or lies on the way there, lacks a value: it was never written
  lacks : Cause
  -- a place leads nowhere: to a part that its value doesn't have, as those of another variant, or from a variable that has no
  -- slot; or a reference was to lead into a temporary
  astray : Cause
  -- something was written behind a shared reference, or in a temporary
  immutable : Cause
  -- operands, of an operator, a test, a print, a condition or a call, that are of other types or another number than it takes
  mistyped : Cause
  -- what was followed as a reference is a value that is none
  missing_reference : Cause
  -- what was called is no function
  missing_function : Cause
  -- no arm of a match took the value
  missing_arm : Cause
  -- a function gave no value: its body ended without, or jumped to a loop around it
  missing_value : Cause

pub data Ending : Type 0 where
  -- `main` has ended
  finished : Ending
  trapped : Trap → Ending
  -- no turn was left
  running : Ending
  wrong : Cause → Ending

-- as it is told: the cause is forgotten
abbrev pub end_of : Ending → End
end_of finished = End.Ended
end_of (trapped t) = End.Trapped t
end_of running = End.Running
end_of (wrong c) = End.Wrong
