use Rattle.std.proofs.Common.{subst}
use Rattle.std.proofs.lemmas.List.{map-id}
use Rattle.rx_exits_plan.specs.declared.plan.ExitOuts.{ExitOuts}
use Rattle.rx_exits.specs.Telling.{SomeOf, NoneOf, OutAt}
use Rattle.rx_exits.proofs.Listing.{some_turn, none_turn, none_end, some_none}
use Rattle.rx_exits.proofs.ReachingLemmas.{tells_true, tells_false}
use Rattle.rx_exits.proofs.refusing.is_out_in_part.Goals as goal

pub loop-each-init : goal.loop-each-init
loop-each-init c A p e i = elim i [ ]

pub loop-each-preserved : goal.loop-each-preserved
loop-each-preserved c A p =
    none_turn (λ (e : ExitOuts). e) (λ (e : ExitOuts). OutAt A e c.args.variable) c.args.exits.now c.loop-each.each-index c.each-item.result c.loop-each-test.true c.each-item.is
    (tells_false _ _ c.if-is_out_at.false (c.is_out_at.ensures A p)) (c.loop-each.invariant A p)

pub returns-then-is_out_at : goal.returns-then-is_out_at
returns-then-is_out_at c A p =
    subst (SomeOf (λ (e : ExitOuts). OutAt A e c.args.variable)) (map-id c.args.exits.now)
    (some_turn (λ (e : ExitOuts). e) (λ (e : ExitOuts). OutAt A e c.args.variable) c.args.exits.now c.loop-each.each-index c.each-item.result c.loop-each-test.true c.each-item.is
    (tells_true _ _ c.if-is_out_at.true (c.is_out_at.ensures A p)))

pub returns : goal.returns
returns c A p =
    some_none (λ (e : ExitOuts). OutAt A e c.args.variable) c.args.exits.now
    (subst (NoneOf (λ (e : ExitOuts). OutAt A e c.args.variable)) (map-id c.args.exits.now)
    (none_end (λ (e : ExitOuts). e) (λ (e : ExitOuts). OutAt A e c.args.variable) c.args.exits.now c.loop-each.each-index c.loop-each-test.false (c.loop-each.invariant A p)))
