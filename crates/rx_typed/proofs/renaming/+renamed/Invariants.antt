use Rattle.std.proofs.Common.{◌≡◌, map}
use Rattle.rx_typed.specs.Regions.{region-Ty}
use Rattle.rx_typed.specs.Renaming.{argument, all_renamed}
use Rattle.rx_typed.proofs.Loops.{rest, regions_then}
use Rattle.rx_typed.proofs.renaming.+renamed.Given as goal

abbrev pub invariant-all_renamed-loop-part : goal.invariant-all_renamed-loop-part
invariant-all_renamed-loop-part l = regions_then (map region-Ty l.all) (all_renamed (argument l.arguments) (rest l.parts l.part-index)) ≡ all_renamed (argument l.arguments) (rest l.fn.parts 0)
