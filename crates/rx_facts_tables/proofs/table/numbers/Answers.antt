use Rattle.rx_facts_tables.proofs.Effecting.{numbers_then}
use Rattle.rx_facts_tables.proofs.table.numbers.Goals as goal

pub returns : goal.returns
returns c = numbers_then c.args.index.now.roots _ _ c.args.roots.now c.number-all.result c.push_numbers.new.all c.parts-first.ensures c.number-all.ensures c.in_ok-push_numbers.ensures
