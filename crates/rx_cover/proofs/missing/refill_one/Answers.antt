use Rattle.rx_typed.specs.PlainTypes.{declarations}
use Rattle.rx_cover.specs.PlainCells.{plain-Column}
use Rattle.rx_cover.proofs.MissingLemmas as lemma
use Rattle.rx_cover.proofs.missing.refill_one.Goals as goal

pub returns-then-marked : goal.returns-then-marked
returns-then-marked c = lemma.marked_if (declarations c.args.decls.now.items) c.args.marked (plain-Column c.args.column) c.args.stack.now c.args.parts.now c.take.new.stack c.take.new.parts c.take.result c.if-marked.true c.take.ensures
