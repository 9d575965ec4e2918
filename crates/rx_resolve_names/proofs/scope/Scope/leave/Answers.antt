use Rattle.std.proofs.Common.{◌≡◌, suc, ◌+◌, ◌-◌, drop, length, ap, ◌∙◌, arith}
use Rattle.rx_resolve_names.specs.Scopes.{oldest}
use Rattle.rx_resolve_names.proofs.scope.Scope.leave.Goals as goal
use Rattle.rx_resolve_names.proofs.Drops.{drop_one_more}

pub loop-turn-preserved : goal.loop-turn-preserved
loop-turn-preserved c =
    let next : suc (c.loop-turn._turn - c.args.len) ≡ c.loop-turn._turn + 1 - c.args.len = omega arith in
    (c.leave_newest.ensures ∙ ap (drop 1) c.loop-turn.invariant.0 ∙ drop_one_more (c.loop-turn._turn - c.args.len) c.args.self.now ∙ ap (λ n. drop n c.args.self.now) next, omega arith)

pub returns : goal.returns
unfolding oldest
returns c =
    let last : c.loop-turn._turn - c.args.len ≡ length c.args.self.now - c.args.len = omega arith in
    c.loop-turn.invariant.0 ∙ ap (λ n. drop n c.args.self.now) last
