-- When a graph is refused: with how many sites, 2^64 - 1 where there are more.
use Rattle.std.specs.Prelude.{◌≡◌, ℕ, ◌<◌}
use Rattle.rx_lower_walks.specs.declared.whole.GraphFault.{GraphFault}
use Rattle.rx_lower_walks.specs.declared.whole.GraphFault.TheVariants.{TooLarge, OutOfMemory}
use Rattle.rx_lower_walks.specs.Sums.{cap}

-- where it may have so many
abbrev pub RefusesOver : ℕ → GraphFault → ℕ → Type 0
RefusesOver limit (TooLarge n) sites = (n ≡ cap sites) × (limit < sites)
RefusesOver limit OutOfMemory sites = Unit {0}

-- a function's graph
abbrev pub Refuses : GraphFault → ℕ → Type 0
Refuses fault sites = RefusesOver 16384 fault sites
