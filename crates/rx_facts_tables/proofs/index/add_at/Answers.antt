use Rattle.rx_facts_tables.proofs.Turns.{added}
use Rattle.rx_facts_tables.proofs.index.add_at.Goals as goal

pub returns : goal.returns
returns c = added c.args.lists.now c.args.at c.args.number c.index-lists-at.result c.push.new.self c.push.result c.requires c.push.ensures
