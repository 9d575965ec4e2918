use Rattle.std.proofs.Common.{◌≡◌, map, drop}
use Rattle.rx_typed.specs.PlainTree.{plain-Subpattern, subpatterns_of}
use Rattle.rx_cover.specs.Matching.{part_of}
use Rattle.rx_cover.proofs.heads.part_among.Given as goal

abbrev pub invariant-loop-part : goal.invariant-loop-part
invariant-loop-part l = part_of (subpatterns_of (map plain-Subpattern (drop l.part-index l.parts))) l.number ≡ part_of (subpatterns_of (map plain-Subpattern l.fn.parts)) l.fn.number
