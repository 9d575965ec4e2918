use Rattle.std.proofs.Common.{length, subst, sym, ◌<◌, ◌∙◌}
use Rattle.rx_graph.proofs.Rounds.{rounds_left}
use Rattle.rx_graph_closure.specs.Closing.{Passed}
use Rattle.rx_graph_closure.proofs.Joining.{next_round, rounds_shrink, below}
use Rattle.rx_graph_closure.proofs.closing.settle.Goals as goal

pub rounds-smaller : goal.rounds-smaller
rounds-smaller c =
    let pairs = c.args.pairs.now in let w = length c.args.scratch.now in let n = length c.args.rows.now in
    let before = c.rounds.rows in let after = c.round-grown.new.rows in
    let whole = next_round pairs w (length c.pass.new.scratch) (length c.pass-in-rounds.new.scratch) c.args.rows.now before c.pass.new.rows c.pass-in-rounds.new.rows after
    c.rounds.grown c.round-grown.result (c.pass.ensures.width ∙ c.rounds.invariant.1) (c.pass-in-rounds.ensures.width ∙ c.pass.ensures.width ∙ c.rounds.invariant.1)
    c.rounds.invariant.0 (subst (λ v. Passed pairs v before c.pass.new.rows) c.rounds.invariant.1 c.pass.ensures.passed) c.pass-in-rounds.ensures.passed c.round-grown.ensures.grown in
    subst (λ g. rounds_left w n after c.round-grown.result < rounds_left w n before g) (sym c.rounds-test.true)
    (rounds_shrink w n before c.pass.new.rows c.pass-in-rounds.new.rows after c.round-grown.result c.pass.ensures.passed.more c.pass-in-rounds.ensures.passed.more
    c.round-grown.ensures.grown.same c.round-grown.ensures.grown.more (below pairs w c.args.rows.now after whole.kept))

pub rounds-preserved : goal.rounds-preserved
rounds-preserved c =
    let pairs = c.args.pairs.now in let w = length c.args.scratch.now in let before = c.rounds.rows in (
      next_round pairs w (length c.pass.new.scratch) (length c.pass-in-rounds.new.scratch) c.args.rows.now before c.pass.new.rows c.pass-in-rounds.new.rows c.round-grown.new.rows
          c.rounds.grown c.round-grown.result (c.pass.ensures.width ∙ c.rounds.invariant.1) (c.pass-in-rounds.ensures.width ∙ c.pass.ensures.width ∙ c.rounds.invariant.1)
          c.rounds.invariant.0 (subst (λ v. Passed pairs v before c.pass.new.rows) c.rounds.invariant.1 c.pass.ensures.passed) c.pass-in-rounds.ensures.passed c.round-grown.ensures.grown,
      c.round-grown.ensures.width ∙ c.pass-in-rounds.ensures.width ∙ c.pass.ensures.width ∙ c.rounds.invariant.1,
    )
