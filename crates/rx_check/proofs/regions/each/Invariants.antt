use Rattle.std.proofs.Common.{drop}
use Rattle.rx_region_outlives.specs.Implied.{pairs_of}
use Rattle.rx_facts.specs.Passing.{Behind}
use Rattle.rx_check.specs.Functions.{LacksNone, LacksPair, AreRegionsOf}
use Rattle.rx_check.proofs.regions.each.Given as goal

abbrev pub invariant-loop-i : goal.invariant-loop-i
invariant-loop-i l = Behind (AreRegionsOf l.decls.items (pairs_of l.implied.items)) (LacksNone l.decls.items (pairs_of l.implied.items))
    (LacksPair l.decls.items (pairs_of l.implied.items)) l.functions (drop l.i l.functions) l.all
