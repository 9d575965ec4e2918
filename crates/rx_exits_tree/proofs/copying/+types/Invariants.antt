-- The types so far are copied.
use Rattle.std.proofs.Common.{◌≡◌, take}
use Rattle.rx_exits_tree.proofs.copying.+types.Given as goal

abbrev pub invariant-types_copied-loop-ty : goal.invariant-types_copied-loop-ty
invariant-types_copied-loop-ty l = l.all ≡ take l.ty-index l.types
