use Rattle.std.proofs.Common.{ap, subst, ◌∙◌}
use Rattle.rx_meaning.specs.Values.{and_then}
use Rattle.rx_meaning.specs.Places.{reference_to}
use Rattle.rx_machine_driver.specs.Running.{spot_at, IsGiven}
use Rattle.rx_machine_driver.proofs.ActLemmas.{borrows_lead}
use Rattle.rx_machine_driver.proofs.data.Machine.borrows.Goals as goal

pub returns : goal.returns
returns c =
    borrows_lead c.args.self.now c.args.mutable c.args.place.now c.given.result
    (subst (λ o. IsGiven o c.given.result) (c.in_ok-value.ensures ∙ ap (λ ss. and_then (spot_at c.args.self.now c.args.place.now.var ss) (λ at. reference_to c.args.mutable at)) c.as_slice.ensures) c.given.ensures)
