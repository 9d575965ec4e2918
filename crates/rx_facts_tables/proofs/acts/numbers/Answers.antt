use Rattle.std.proofs.Common.{◌≡◌, ◌+◌, ℕ, List, subst, sym, arith}
use Rattle.rx_facts_tables.proofs.Numbers.{Between, none_between, one_more_between}
use Rattle.rx_facts_tables.proofs.acts.numbers.Goals as goal

pub loop-n-init : goal.loop-n-init
loop-n-init c = subst (λ (l : List ℕ). Between l c.args.range.first c.args.range.first) (sym c.new-all.ensures) (none_between c.args.range.first)

pub loop-n-preserved : goal.loop-n-preserved
loop-n-preserved c = subst (λ (l : List ℕ). Between l c.args.range.first (c.loop-n.n + 1)) (sym c.in_ok-push.ensures)
    (one_more_between c.loop-n.all c.args.range.first c.loop-n.n c.loop-n.auto.n c.loop-n.invariant)

pub returns : goal.returns
returns c = let e : c.loop-n.n ≡ c.args.range.first + c.args.range.count = omega (arith, c.loop-n-test.false, c.loop-n.auto.n-end) in
    subst (λ n. Between c.loop-n.all c.args.range.first n) e c.loop-n.invariant
