use Rattle.std.proofs.Common.{sym, ◌∙◌}
use Rattle.rx_exits.proofs.ReachingLemmas.{both_told, first_missing}
use Rattle.rx_exits.proofs.refusing.is_mixed.Goals as goal

pub returns-then-is_listed : goal.returns-then-is_listed
returns-then-is_listed c A p = both_told _ _ _ (sym c.is_listed.ensures ∙ c.if-is_listed.true) (c.is_mixed.ensures A p)

pub returns-else-is_listed : goal.returns-else-is_listed
returns-else-is_listed c A p = first_missing _ _ (sym c.is_listed.ensures ∙ c.if-is_listed.false)
