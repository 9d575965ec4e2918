use Rattle.std.proofs.Common.{map, length, get_or}
use Rattle.rx_graph_bits.specs.Rows.{words}
use Rattle.rx_lower_walks.specs.declared.actions.Temporary.{Temporary}
use Rattle.rx_lower_walks.specs.PlainFlow.{plain-Temporary}
use Rattle.rx_lower_lifetimes.specs.Answer.{plain-Lifetimes}
use Rattle.rx_region.proofs.Seeding.{temporary_more, temporary_end}
use Rattle.rx_region.proofs.Wholes.{at_temporary}
use Rattle.rx_region.proofs.seeds.add_temporaries.Goals as goal

pub loop-k-preserved : goal.loop-k-preserved
loop-k-preserved c =
    let ts = c.args.temporaries.now in let d : Temporary = record { node = 0; which = 0 } in
    temporary_more c.args.live.now c.args.sites (words c.args.bound) (plain-Lifetimes c.args.lifetimes.now) (map plain-Temporary ts) (plain-Temporary (get_or ts c.loop-k.k d)) c.loop-k.k
    c.args.rows.now c.loop-k.rows c.add_root.new.rows (at_temporary ts c.loop-k.k d c.loop-k-test.true) c.requires.regular c.loop-k.invariant c.in_ok-add_root.ensures

pub returns : goal.returns
returns c = temporary_end c.args.live.now c.args.sites (words c.args.bound) (plain-Lifetimes c.args.lifetimes.now) (map plain-Temporary c.args.temporaries.now) c.loop-k.k
    (length c.args.temporaries.now) c.args.rows.now c.loop-k.rows c.loop-k.auto.k-end c.loop-k-test.false c.loop-k.invariant
