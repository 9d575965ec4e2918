use Rattle.rx_facts_tables.proofs.Turns.{joining_more, joining_done}
use Rattle.rx_facts_tables.proofs.turning.add_all.Goals as goal

pub loop-place-preserved : goal.loop-place-preserved
loop-place-preserved c = joining_more c.args.lists.now c.loop-place.lists c.add_at.new.lists c.args.places.now c.args.number c.loop-place.place-index
    c.loop-place-test.true c.in_ok-add_at.ensures c.loop-place.invariant

pub returns : goal.returns
returns c = joining_done c.args.lists.now c.loop-place.lists c.args.places.now c.args.number c.loop-place.place-index c.loop-place-test.false c.loop-place.invariant
