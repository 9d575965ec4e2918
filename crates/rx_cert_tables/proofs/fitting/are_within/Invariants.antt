-- All are within exactly where those that are left are.
use Rattle.std.proofs.Common.{◌≡◌, drop}
use Rattle.std.specs.List.{list_all}
use Rattle.rx_cert_tables.specs.Fitting as spec
use Rattle.rx_cert_tables.proofs.fitting.are_within.Given as goal

abbrev pub invariant-loop-item : goal.invariant-loop-item
invariant-loop-item l = list_all (spec.is_within l.sites l.own) (drop l.item-index l.items) ≡ list_all (spec.is_within l.sites l.own) l.items
