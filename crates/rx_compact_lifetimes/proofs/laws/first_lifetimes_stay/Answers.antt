use Rattle.rx_compact_lifetimes.proofs.Firsts.{merged_are_firsts, none_equal}
use Rattle.rx_compact_lifetimes.proofs.laws.first_lifetimes_stay.Goals as goal

pub returns-clause-names : goal.returns-clause-names
returns-clause-names c = merged_are_firsts

pub returns-clause-apart : goal.returns-clause-apart
returns-clause-apart c outlives f l k a b e = none_equal outlives f.lifetimes l k a b e
