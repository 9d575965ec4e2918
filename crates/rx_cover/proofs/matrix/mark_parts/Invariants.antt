use Rattle.std.proofs.Common.{◌≡◌, map, drop}
use Rattle.rx_typed.specs.PlainTree.{plain-Subpattern, subpatterns_of}
use Rattle.rx_cover.specs.Matrices as spec
use Rattle.rx_cover.proofs.matrix.mark_parts.Given as goal

abbrev pub invariant-loop-part : goal.invariant-loop-part
invariant-loop-part l = spec.mark_parts l.mask.items (subpatterns_of (map plain-Subpattern (drop l.part-index l.parts))) ≡ spec.mark_parts l.fn.mask.items (subpatterns_of (map plain-Subpattern l.fn.parts))
