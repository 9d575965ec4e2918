use Rattle.std.proofs.Common.{◌<◌, length, map, ◌∙◌, ap, subst}
use Rattle.rx_lower_walks.specs.PlainSite.{plain-Site}
use Rattle.rx_lower_walks.proofs.Closing.{one_fewer, one_closed, one_out, none_left}
use Rattle.rx_lower_walks.proofs.site.close.Goals as goal
use Rattle.rx_lower_walks.proofs.site.close.Goals.{in-Some+in_ok-close_one-in-Some, in-None}

here : (c : goal.Joined-pop) → c.loop-turn._turn < length c.args.opens
here c = subst (λ n. c.loop-turn._turn < n) c.len-turn-end.ensures c.loop-turn-test.true

pub loop-turn-preserved : goal.loop-turn-preserved
loop-turn-preserved c = elim c.match-pop.branch [
  | in-Some+in_ok-close_one-in-Some w ↦ record {
    left = one_fewer (length c.args.opens) c.loop-turn._turn (here c) c.loop-turn.opens c.pop.new.self w.in-Some.end w.in-Some.ensures c.loop-turn.invariant.left;
    sites = one_closed (length c.args.opens) c.loop-turn._turn (here c) c.loop-turn.opens c.pop.new.self w.in-Some.end w.in-Some.ensures
        (map plain-Site c.loop-turn.out) (map plain-Site c.match-pop.out) _ (ap (map plain-Site) w.out-is ∙ w.in_ok-close_one-in-Some.ensures.sites) c.loop-turn.invariant.sites;
    around = λ A h. one_out (length c.args.opens) c.loop-turn._turn (here c) c.loop-turn.opens c.pop.new.self w.in-Some.end w.in-Some.ensures
        c.loop-turn.around w.close_one.new.around c.match-pop.around A (c.loop-turn.invariant.around A h) w.in_ok-close_one-in-Some.ensures.around w.around-is;
  }
  | in-None w ↦ none_left (length c.args.opens) c.loop-turn._turn c.loop-turn.opens (here c) w.in-None.ensures.0 c.loop-turn.invariant.left
]
