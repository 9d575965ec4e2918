-- What stands around a part, and the exits that it gives.
use Rattle.std.specs.Prelude.{ℕ, ◌==◌, List, [], ◌∷◌, ◌++◌, length, drop, reverse, if◌then◌else◌}
use Rattle.rx_lower_walks.specs.Orders.{Exit, breaks, continues, returns}
use Rattle.rx_lower_walks.specs.Pieces.{ahead, breaking, continuing, returning, failing, Exits}
use Rattle.rx_lower_walks.specs.declared.around.Loop.{Loop}
use Rattle.rx_lower_walks.specs.declared.around.Around.{Around}

-- with one more variable, and with one more loop: what follows it, and what a pass of it begins with
abbrev pub with_variable : ℕ → Around → Around
with_variable x A = record { variables = A.variables ++ x ∷ []; loops = A.loops }

abbrev pub with_loop : ℕ → List ℕ → List ℕ → Around → Around
with_loop l after head A =
    record { variables = A.variables; loops = A.loops ++ record { number = l; depth = length A.variables; after = after; head = head } ∷ [] }

abbrev pub nothing_around : Around
nothing_around = record { variables = []; loops = [] }

-- of the last loop with this number: how many variables stand outside it, what follows it, what its passes begin with
abbrev pub depth_in : ℕ → ℕ → List Loop → ℕ
depth_in d l [] = d
depth_in d l (f ∷ fs) = depth_in (if l == f.number then f.depth else d) l fs

abbrev pub after_in : List ℕ → ℕ → List Loop → List ℕ
after_in e l [] = e
after_in e l (f ∷ fs) = after_in (if l == f.number then f.after else e) l fs

abbrev pub head_in : List ℕ → ℕ → List Loop → List ℕ
head_in e l [] = e
head_in e l (f ∷ fs) = head_in (if l == f.number then f.head else e) l fs

-- how many variables a jump leaves as they are
abbrev pub depth : Exit → List Loop → ℕ
depth (breaks n l) fs = depth_in 0 l fs
depth (continues n l) fs = depth_in 0 l fs
depth (returns n) fs = 0

-- the variables that it ends, last declared first
abbrev pub ended : Exit → Around → List ℕ
ended x A = reverse (drop (depth x A.loops) A.variables)

-- where each way leads, once it is known what follows and what comes where a test has failed
abbrev pub exits : List ℕ → List ℕ → List Loop → Exits
exits on fails fs ahead = on
exits on fails fs (breaking l) = after_in [] l fs
exits on fails fs (continuing l) = head_in [] l fs
exits on fails fs returning = []
exits on fails fs failing = fails
