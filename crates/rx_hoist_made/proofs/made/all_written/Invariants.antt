use Rattle.std.proofs.Common.{◌≡◌, map, take}
use Rattle.rx_hoist_extraction.specs.Made.{ident}
use Rattle.rx_hoist_made.proofs.made.all_written.Given as goal

abbrev pub invariant-loop-name : goal.invariant-loop-name
invariant-loop-name l =
    l.all ≡ map (ident l.span) (take l.name-index l.names)
