use Rattle.rx_facts_tables.proofs.Turns.{added}
use Rattle.rx_facts_tables.proofs.turning.add_at.Goals as goal

pub returns-then-at-lists : goal.returns-then-at-lists
returns-then-at-lists c = added c.args.lists.now c.args.at c.args.number c.index-lists-at.result c.push.new.self c.push.result c.if-at-lists.true c.push.ensures.ok
