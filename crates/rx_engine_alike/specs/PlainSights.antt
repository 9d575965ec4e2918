-- How the answer has the variables of the text, as those of the code stand for it.
use Rattle.std.specs.Prelude.{ℕ, List, map}
use Rattle.rx_engine_simulation.specs.Sights as sights
use Rattle.rx_engine_simulation.specs.Sights.{Sight, sight, Renaming}
use Rattle.rx_engine_alike.specs.declared.sights.Hold.{Hold}
use Rattle.rx_engine_alike.specs.declared.sights.How.{How}
use Rattle.rx_engine_alike.specs.declared.sights.Seen.{Seen}

abbrev pub plain-Hold : Hold → sights.Hold
plain-Hold Hold.Fixed = sights.fixed
plain-Hold Hold.Shut = sights.shut
plain-Hold Hold.Free = sights.free

abbrev pub plain-How : How → sights.How
plain-How (How.Plain h) = sights.plain (plain-Hold h)
plain-How How.Special = sights.special
plain-How (How.Through h m) = sights.through (plain-Hold h) m
plain-How How.Copied = sights.copied
plain-How How.Viewed = sights.viewed
plain-How How.Absent = sights.absent

abbrev pub plain-Sight : Seen → Sight
plain-Sight s = sight s.to (plain-How s.how)

abbrev pub plain-Seen : Seen → ℕ × Sight
plain-Seen s = (s.variable, plain-Sight s)

-- the newest first
abbrev pub plain-Renaming : List Seen → Renaming
plain-Renaming = map plain-Seen
