use Rattle.std.proofs.Common.{◌≡◌, ◌+◌, map, drop}
use Rattle.rx_cover.specs.Width.{place_of}
use Rattle.rx_cover.specs.PlainTested.{plain-Tested}
use Rattle.rx_cover.proofs.width.place_of.Given as goal

abbrev pub invariant-loop-i : goal.invariant-loop-i
invariant-loop-i l = l.i + place_of (map plain-Tested (drop l.i l.table)) l.path ≡ place_of (map plain-Tested l.fn.table) l.fn.path
