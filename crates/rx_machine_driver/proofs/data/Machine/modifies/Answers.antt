use Rattle.std.proofs.Common.{◌≡◌, IfOk, option_map, ap, subst, ◌∙◌}
use Rattle.rx_machine_values.specs.PlainValues.{plain-Value}
use Rattle.rx_typed.specs.PlainTree.{plain-Place}
use Rattle.rx_meaning.specs.Values.{and_then}
use Rattle.rx_meaning.specs.Places.{whole_value}
use Rattle.rx_machine_driver.specs.Running.{found_at, IsModified}
use Rattle.rx_machine_driver.proofs.ActLemmas.{modifies_lead}
use Rattle.rx_machine_driver.proofs.data.Machine.modifies.Goals as goal

pub returns : goal.returns
returns c =
    modifies_lead c.args.self.now c.args.op c.args.place.now (plain-Value c.args.value) c.modified.result
    (subst (λ u. IsModified c.args.op (plain-Place c.args.place.now) u (plain-Value c.args.value) c.modified.result)
    (subst (λ r. IfOk r (λ it. option_map plain-Value it ≡ and_then (found_at c.args.self.now c.args.place.now.var c.as_slice.result.now) (λ f. whole_value f))) c.in_ok-left.ensures.0 c.value_at-read.ensures
    ∙ ap (λ ss. and_then (found_at c.args.self.now c.args.place.now.var ss) (λ f. whole_value f)) c.as_slice.ensures)
    (subst (λ w. IsModified c.args.op (plain-Place c.args.place.now) (option_map plain-Value c.in_ok-left.left) (plain-Value w) c.modified.result) c.in_ok-left.ensures.1 c.modified.ensures))
