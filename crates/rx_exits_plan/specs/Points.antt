-- The points of a run: where it is entered, and its exits. (Rust Reference, "break expressions", "continue expressions", "return
-- expressions".)
use Rattle.std.specs.Prelude.{ℕ, ◌*◌, ◌+◌, ◌==◌, Bool, true, false}

-- by its end; out of a loop that encloses it, or to the next pass of that loop, by the loop's number; out of the function
pub data Exit : Type 0 where
  next : Exit
  breaks : ℕ → Exit
  continues : ℕ → Exit
  returns : Exit

pub data Point : Type 0 where
  enters : Point
  leaves : Exit → Point

abbrev pub same_exit : Exit → Exit → Bool
same_exit next next = true
same_exit (breaks l) (breaks k) = l == k
same_exit (continues l) (continues k) = l == k
same_exit returns returns = true
same_exit _ _ = false

-- how a `break` or `continue` leaves: of which loop, and whether its next pass begins
abbrev pub jump_exit : ℕ → Bool → Exit
jump_exit l true = continues l
jump_exit l false = breaks l

-- no two points have one number
abbrev pub number : Point → ℕ
number enters = 0
number (leaves next) = 1
number (leaves returns) = 2
number (leaves (breaks l)) = 3 + 2 * l
number (leaves (continues l)) = 4 + 2 * l
