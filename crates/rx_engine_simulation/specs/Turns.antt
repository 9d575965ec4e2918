-- Which of two runs may be cut off, by how many turns each has left. The text is the program that was there first, the answer the
-- one that was made from it. A turn is a call of a function or a pass of a loop. And whether the answer may go astray, where it
-- asks again for the reference in a variable.
use Rattle.std.specs.Prelude.{◌≡◌, ℕ, Bool, true, ◌+◌, ◌*◌, ◌≤◌}
use Rattle.rx_meaning.specs.Endings.{missing_reference, Ending, running, wrong}

-- what the answer is allowed
pub record Allowance : Type 0 where
  -- so many further turns for each of the text
  pub turns : ℕ
  -- to go astray: to ask again for the reference in a variable whose value is none
  pub strays : Bool

pub data Direction : Type 0 where
  -- the answer has no more turns than the text, and is the one that may be cut off
  shorter : Allowance → Direction
  -- it has the further turns, and the text may be cut off
  longer : Allowance → Direction

-- also the credit that each turn of both gives
abbrev pub gain : Direction → Allowance
gain (shorter g) = g
gain (longer g) = g

-- The credit is the number of turns that the answer may take, besides, before the next turn of both.
abbrev pub Turns : Direction → ℕ → ℕ → ℕ → Type 0
Turns (shorter g) credit text answer = answer ≤ text
Turns (longer g) credit text answer = text + text * g.turns + credit ≤ answer

abbrev pub TextMayStop : Direction → Type 0
TextMayStop (shorter g) = ⊥
TextMayStop (longer g) = Unit {0}

abbrev pub AnswerMayStop : Direction → Type 0
AnswerMayStop (shorter g) = Unit {0}
AnswerMayStop (longer g) = ⊥

abbrev pub MayStray : Direction → Type 0
MayStray d = (gain d).strays ≡ true

-- how the text may end where the answer goes on, and the answer where the text does
abbrev pub TextMayEnd : Direction → Ending → Type 0
TextMayEnd d running = TextMayStop d
TextMayEnd d _ = ⊥

abbrev pub AnswerMayEnd : Direction → Ending → Type 0
AnswerMayEnd d running = AnswerMayStop d
AnswerMayEnd d (wrong missing_reference) = MayStray d
AnswerMayEnd d _ = ⊥
