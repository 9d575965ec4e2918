use Rattle.std.proofs.Common.{ap, sym, ◌∙◌}
use Rattle.rx_exits_plan.specs.Occurrences.{has_number}
use Rattle.rx_exits.proofs.ReachingLemmas.{both_tell, first_missing}
use Rattle.rx_exits.proofs.refusing.is_shadowed_at.Goals as goal

pub returns-then-is_listed : goal.returns-then-is_listed
returns-then-is_listed c =
    both_tell _ _ _ (ap (has_number c.args.variable) (sym c.outs_of.ensures) ∙ sym c.is_listed.ensures ∙ c.if-is_listed.true) c.is_other.ensures

pub returns-else-is_listed : goal.returns-else-is_listed
returns-else-is_listed c = first_missing _ _ (ap (has_number c.args.variable) (sym c.outs_of.ensures) ∙ sym c.is_listed.ensures ∙ c.if-is_listed.false)
