use Rattle.std.proofs.Common.{◌≡◌, ◌+◌, ◌++◌, map, drop}
use Rattle.rx_typed.specs.Regions.{region-Ty}
use Rattle.rx_lower_lifetimes.specs.Numbered.{all_open, all_numbered, opened}
use Rattle.rx_lower_lifetimes.specs.PlainOf.{plain-Held}
use Rattle.rx_lower_lifetimes.proofs.numbering.push_temporaries.Given as goal

abbrev pub invariant-loop-one : goal.invariant-loop-one
invariant-loop-one l = record {
  types : map region-Ty l.all ++ all_numbered l.next (opened (map plain-Held (drop l.one-index l.held))) ≡ map region-Ty l.fn.before ++ all_numbered l.fn.next (opened (map plain-Held l.fn.held));
  next : l.next + all_open (opened (map plain-Held (drop l.one-index l.held))) ≡ l.fn.next + all_open (opened (map plain-Held l.fn.held));
}
