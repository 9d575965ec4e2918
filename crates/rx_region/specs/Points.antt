-- The points of a function by numbers: its sites first, then the ends of its own lifetimes.
use Rattle.std.specs.Prelude.{ℕ, ◌+◌, ◌-◌, nat_lt, Bool, ◌&&◌, if◌then◌else◌, List}
use Rattle.rx_graph.specs.Tables.{at}
use Rattle.rx_region.specs.Solutions.{Point, site, end}

abbrev pub number : ℕ → Point → ℕ
number n (site p) = p
number n (end l) = n + l

abbrev pub point : ℕ → ℕ → Point
point n i = if nat_lt i n then site i else end (i - n)

-- whether the set of a lifetime has a point, in a table of so many sites
abbrev pub has_point : List (List ℕ) → ℕ → ℕ → Point → Bool
has_point T n l (site p) = nat_lt p n && at T l p
has_point T n l (end k) = at T l (n + k)
