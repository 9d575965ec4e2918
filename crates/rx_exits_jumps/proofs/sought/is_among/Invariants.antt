use Rattle.std.proofs.Common.{◌≡◌, drop}
use Rattle.rx_exits_plan.specs.Marked.{is_among}
use Rattle.rx_exits_jumps.proofs.sought.is_among.Given as goal

abbrev pub invariant-loop-other : goal.invariant-loop-other
invariant-loop-other l = is_among l.number (drop l.other-index l.numbers) ≡ is_among l.fn.number l.fn.numbers
