use Rattle.std.proofs.Common.{refl, sym}
use Rattle.rx_compact_laws.proofs.Unwritten.{body_stays}
use Rattle.rx_compact_laws.proofs.laws.short_signatures_are_rewritten.Goals as goal

pub returns-clause-merged : goal.returns-clause-merged
returns-clause-merged c outlives f = record { params = refl; answer = refl; body = refl }

pub returns-clause-elided : goal.returns-clause-elided
returns-clause-elided c single f = record { params = refl; answer = refl; body = sym (body_stays f.body) }
