use Rattle.std.proofs.Common.{map}
use Rattle.rx_lower_walks.specs.PlainSite.{plain-Site}
use Rattle.rx_exits.proofs.Marking.{Noting}
use Rattle.rx_exits.proofs.marks.marks_of.Given as goal

abbrev pub invariant-loop-i : goal.invariant-loop-i
invariant-loop-i l = Noting (map plain-Site l.sites) l.marks l.i
