-- It is one of all exactly where it is one of those that are left.
use Rattle.std.proofs.Common.{◌≡◌, drop}
use Rattle.rx_core.specs.Bytes.{is_one_of}
use Rattle.rx_core.proofs.words.is_among_names.Given as goal

abbrev pub invariant-loop-other : goal.invariant-loop-other
invariant-loop-other l = is_one_of l.name (drop l.other-index l.names) ≡ is_one_of l.name l.names
