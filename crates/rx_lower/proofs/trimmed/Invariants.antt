use Rattle.std.proofs.Common.{◌≡◌, ◌≤◌, take}
use Rattle.rx_lower.specs.Functions.{trimmed}
use Rattle.rx_lower.proofs.trimmed.Given as goal

abbrev pub invariant-loop-i : goal.invariant-loop-i
invariant-loop-i l = record {
  within : l.count ≤ l.i;
  same : trimmed (take l.i l.types) ≡ take l.count l.types;
}
