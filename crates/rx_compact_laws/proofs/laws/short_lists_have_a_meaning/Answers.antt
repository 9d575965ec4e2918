use Rattle.rx_compact_laws.proofs.Elsewhere.{merged_elsewhere, elided_elsewhere}
use Rattle.rx_compact_laws.proofs.laws.short_lists_have_a_meaning.Goals as goal

pub returns-clause-merged : goal.returns-clause-merged
returns-clause-merged c o p q n s f same ns e = merged_elsewhere o p q n s f same ns e

pub returns-clause-elided : goal.returns-clause-elided
returns-clause-elided c single p q n s f same ns e = elided_elsewhere single p q n s f same ns e
