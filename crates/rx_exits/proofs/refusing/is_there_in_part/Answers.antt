use Rattle.std.proofs.Common.{sym, ◌∙◌}
use Rattle.rx_exits.proofs.ReachingLemmas.{three_told, first_of_three, second_missing}
use Rattle.rx_exits.proofs.refusing.is_there_in_part.Goals as goal

pub returns-then-may_be_unset : goal.returns-then-may_be_unset
returns-then-may_be_unset c A p =
    three_told _ _ _ _ (sym c.is_listed.ensures ∙ c.if-is_listed.true) ((c.may_be_unset.ensures A p).0 c.if-may_be_unset.true) (c.may_stand.ensures A p)

pub returns-else-may_be_unset : goal.returns-else-may_be_unset
returns-else-may_be_unset c A p = second_missing _ _ _ _ c.if-may_be_unset.false (c.may_be_unset.ensures A p)

pub returns-else-is_listed : goal.returns-else-is_listed
returns-else-is_listed c A p = first_of_three _ _ _ (sym c.is_listed.ensures ∙ c.if-is_listed.false)
