use Rattle.std.proofs.Common.{false}
use Rattle.rx_lower_walks.specs.PlainFlow.{plain-Place}
use Rattle.rx_facts_tables.specs.Layouts.{plain-Frame}
use Rattle.rx_facts_tables.proofs.Exact.{may}
use Rattle.rx_facts_tables.proofs.whole.InitTable.may_be_unset.Goals as goal

pub returns : goal.returns
returns c g t within = may (plain-Frame c.args.frame.now) c.requires.sized g c.args.self.now.unset.rows (plain-Place c.args.place.now) c.args.site c.range.result.first c.range.result.count
    c.args.self.now.layout.total c.some_at.result false c.requires.layout.total c.range.ensures.first c.range.ensures.count c.some_at.ensures (λ n less. t.unset c.args.site n within less)
