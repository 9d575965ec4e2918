use Rattle.std.proofs.Common.{ℕ, get_or}
use Rattle.std.proofs.lemmas.List.{get_or_default}
use Rattle.rx_exits.specs.Telling.{Refused}
use Rattle.rx_exits.proofs.Listing.{first_turn, none_more, none_all}
use Rattle.rx_exits.proofs.ReachingLemmas.{tells_true, tells_false}
use Rattle.rx_exits.proofs.refusing.first_refused.Goals as goal

pub loop-variable-init : goal.loop-variable-init
loop-variable-init c A p x i = elim i [ ]

pub loop-variable-preserved : goal.loop-variable-preserved
loop-variable-preserved c A p =
    let x : ℕ = get_or c.args.all.now c.loop-variable.variable-index 0 in
    none_more (Refused A c.args.refusal) c.args.all.now c.loop-variable.variable-index x c.loop-variable-test.true (get_or_default c.args.all.now c.loop-variable.variable-index 0 x c.loop-variable-test.true)
    (tells_false _ _ c.if-is_refused.false (c.is_refused.ensures A p)) (c.loop-variable.invariant A p)

pub returns-then-is_refused : goal.returns-then-is_refused
returns-then-is_refused c A p =
    let x : ℕ = get_or c.args.all.now c.loop-variable.variable-index 0 in
    first_turn (Refused A c.args.refusal) c.args.all.now c.loop-variable.variable-index x c.loop-variable-test.true (get_or_default c.args.all.now c.loop-variable.variable-index 0 x c.loop-variable-test.true)
    (c.loop-variable.invariant A p) (tells_true _ _ c.if-is_refused.true (c.is_refused.ensures A p))

pub returns : goal.returns
returns c A p = none_all (Refused A c.args.refusal) c.args.all.now c.loop-variable.variable-index c.loop-variable-test.false (c.loop-variable.invariant A p)
