use Rattle.std.proofs.Common.{◌≡◌, ◌+◌, map}
use Rattle.rx_typed.specs.Regions.{region-Ty}
use Rattle.rx_typed.specs.Numbers.{open_in_all, all_numbered}
use Rattle.rx_typed.proofs.Loops.{rest, regions_then}
use Rattle.rx_typed.proofs.numbers.+numbered.Given as goal

abbrev pub invariant-all_numbered-loop-part : goal.invariant-all_numbered-loop-part
invariant-all_numbered-loop-part l = record {
  numbered : regions_then (map region-Ty l.all) (all_numbered l.from l.next (rest l.parts l.part-index)) ≡ all_numbered l.fn.from l.fn.next (rest l.fn.parts 0);
  next : l.next + open_in_all l.from (rest l.parts l.part-index) ≡ l.fn.next + open_in_all l.fn.from (rest l.fn.parts 0);
}
