-- What a walk over a tree finds: the blocks that have a run, or the jumps out of loops and out of the function. (Rust Reference,
-- "break expressions", "return expressions".)
use Rattle.std.specs.Prelude.{ℕ, ◌+◌, ◌==◌, nat_le, nat_lt, Bool, ◌&&◌, if◌then◌else◌, List, [], ◌∷◌, ◌++◌, length, Option, Some, None}
use Rattle.rx_typed.specs.Tree.{Body, Function}
use Rattle.rx_exits_plan.specs.Blocks.{statements}
use Rattle.rx_exits_plan.specs.Spots.{Around, Spot, a_block, a_jump, a_return, spots_of_function}
use Rattle.rx_exits_plan.specs.Runs.{Run, Home}
use Rattle.rx_exits_plan.specs.Exits.{Jump, leaving}

-- a block of so many statements has the run's
abbrev pub has_tail : Run → ℕ → Bool
has_tail r n = if r.tail then r.first + r.count == n else nat_lt 0 r.count

abbrev pub has_run : Run → ℕ → Bool
has_run r n = nat_le (r.first + r.count) n && has_tail r n

abbrev pub home_at : Run → Around → ℕ → Body → List Home
home_at r a n b = if (n == r.block) && has_run r (length (statements b)) then record { around = a; body = b } ∷ [] else []

abbrev pub homes : Run → List Spot → List Home
homes r [] = []
homes r (a_block a n b ∷ ss) = home_at r a n b ++ homes r ss
homes r (a_jump a n l again ∷ ss) = homes r ss
homes r (a_return a n ∷ ss) = homes r ss

abbrev pub first_of_homes : List Home → Option Home
first_of_homes [] = None
first_of_homes (h ∷ hs) = Some h

-- the first block that has the run
abbrev pub first_home : Run → Function → Option Home
first_home r f = first_of_homes (homes r (spots_of_function f))

-- ---- what is sought, and what was found

pub data Sought : Type 0 where
  the_run : Run → Sought
  ways_out : List ℕ → Sought

pub record Found : Type 0 where
  pub homes : List Home
  pub jumps : List Jump

abbrev pub with_spots : Sought → Found → List Spot → Found
with_spots (the_run r) f ss = record { homes = f.homes ++ homes r ss; jumps = f.jumps }
with_spots (ways_out ls) f ss = record { homes = f.homes; jumps = f.jumps ++ leaving ls ss }
