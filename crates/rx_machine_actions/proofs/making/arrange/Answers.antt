use Rattle.std.proofs.Common.{◌≡◌, IfOk, map, ap, subst, ◌∙◌}
use Rattle.rx_machine_values.specs.PlainValues.{plain-Value}
use Rattle.rx_machine_actions.specs.PlainActs.{unsets}
use Rattle.rx_machine_actions.proofs.MakingLemmas.{arranged_fields}
use Rattle.rx_machine_actions.proofs.making.arrange.Goals as goal

pub returns : goal.returns
returns c =
    c.in_ok-boxed.ensures
    ∙ arranged_fields c.args.operands.now c.args.values c.in_ok-unset.values c.len-count.result c.into_vec-parts.result.items c.place_all.new.parts.items c.in_ok-unset.ensures.1 c.len-count.ensures
    (ap (map plain-Value) c.into_vec-parts.ensures ∙ subst (λ r. IfOk r (λ it. map plain-Value it ≡ unsets c.len-count.result)) c.in_ok-unset.ensures.0 c.unset_parts.ensures)
    c.place_all.ensures
