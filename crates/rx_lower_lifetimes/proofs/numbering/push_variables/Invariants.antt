use Rattle.std.proofs.Common.{◌≡◌, ◌+◌, ◌++◌, map, drop}
use Rattle.rx_typed.specs.Regions.{region-Ty}
use Rattle.rx_lower_lifetimes.specs.Numbered.{all_open, all_numbered}
use Rattle.rx_lower_lifetimes.specs.PlainOf.{plain-Open}
use Rattle.rx_lower_lifetimes.proofs.numbering.push_variables.Given as goal

abbrev pub invariant-loop-open : goal.invariant-loop-open
invariant-loop-open l = record {
  types : map region-Ty l.all ++ all_numbered l.next (map plain-Open (drop l.open-index l.opens)) ≡ map region-Ty l.fn.before ++ all_numbered l.fn.next (map plain-Open l.fn.opens);
  next : l.next + all_open (map plain-Open (drop l.open-index l.opens)) ≡ l.fn.next + all_open (map plain-Open l.fn.opens);
}
