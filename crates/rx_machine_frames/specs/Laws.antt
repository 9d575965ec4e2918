-- What the laws of steps say.
use Rattle.std.specs.Prelude.{◌≡◌, ◌<◌, ℕ}
use Rattle.rx_meaning.specs.Results.{after}
use Rattle.rx_meaning.specs.Programs.{outcome_of}
use Rattle.rx_meaning.specs.Expressions.{Functions}
use Rattle.rx_machine_frames.specs.Stepping.{Config, Led, goes, waits, ends, means}
use Rattle.rx_machine_frames.specs.Sizes.{config_size}

-- the rest of the run is the same behind what was printed, and an end is the run's
abbrev pub Keeps : Functions → ℕ → Config → Led → Type 0
Keeps P n c (goes w d) = means P n c ≡ after w (means P n d)
Keeps P n c waits = Unit {0}
Keeps P n c (ends w e) = outcome_of (means P n c) ≡ record { printed = w; end = e }

-- less is left to do before the next turn
abbrev pub Lessens : Config → Led → Type 0
Lessens c (goes w d) = config_size d < config_size c
Lessens c waits = Unit {0}
Lessens c (ends w e) = Unit {0}
