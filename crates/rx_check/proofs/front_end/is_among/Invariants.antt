use Rattle.std.proofs.Common.{◌≡◌, drop}
use Rattle.rx_lower.specs.Functions.{function_at}
use Rattle.rx_check.proofs.front_end.is_among.Given as goal

abbrev pub invariant-loop-i : goal.invariant-loop-i
invariant-loop-i l = function_at (drop l.i l.functions) l.item ≡ function_at l.fn.functions l.fn.item
