use Rattle.rx_compact_lifetimes.proofs.Firsts.{merged_are_firsts}
use Rattle.rx_compact.proofs.Compacting.{is_preorder, none_known}
use Rattle.rx_compact.proofs.laws.lifetimes_are_apart.Goals as goal

pub returns-clause-names : goal.returns-clause-names
returns-clause-names c p i q h f d = merged_are_firsts h.outlives (is_preorder h.declared i h.outlives h.tells) f d

pub returns-clause-apart : goal.returns-clause-apart
returns-clause-apart c p i q h f l k a b e g = none_known h.declared i h.outlives h.tells f.lifetimes l k a b e g
