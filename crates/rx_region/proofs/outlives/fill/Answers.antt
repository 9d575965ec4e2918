use Rattle.std.proofs.Common.{◌≡◌, ◌+◌, ◌<◌, length, true}
use Rattle.rx_graph_bits.specs.Rows.{holds, words}
use Rattle.rx_lower_lifetimes.specs.Answer.{plain-Lifetimes}
use Rattle.rx_region.proofs.Wholes.{wide_rows, regular_of, seeded}
use Rattle.rx_region.proofs.outlives.fill.Goals as goal

pub join_first-requires : goal.join_first-requires
join_first-requires c = wide_rows (length c.args.rows.now) (words c.args.bound) (length c.in_ok-all.all) c.args.rows.now c.in_ok-all.ensures.width c.requires.empty

pub add_live-requires-clause-regular : goal.add_live-requires-clause-regular
add_live-requires-clause-regular c = regular_of (words c.args.bound) (length c.in_ok-all.all) c.args.rows.now c.join_first.new.rows c.put_diagonal.new.rows
    (λ m i. (m < c.args.lifetimes.now.own) × (holds c.in_ok-all.all i ≡ true)) (λ m i. (m < c.args.lifetimes.now.own) × (i ≡ c.args.sites + m))
    c.in_ok-all.ensures.width c.join_first.ensures (c.put_diagonal.ensures (words c.args.bound))

pub returns : goal.returns
returns c = seeded (plain-Lifetimes c.args.lifetimes.now) c.args.live.now (length c.args.rows.now) c.args.sites (words c.args.bound) (length c.in_ok-all.all) c.in_ok-all.all
    c.args.rows.now c.join_first.new.rows c.put_diagonal.new.rows c.add_live.new.rows c.in_ok-all.ensures.width c.requires.empty c.in_ok-all.ensures c.join_first.ensures
    (c.put_diagonal.ensures (words c.args.bound)) c.in_ok-add_live.ensures
