use Rattle.std.proofs.Common.{w64, rules, ap, ◌∙◌}
use Rattle.std.specs.Prelude.{FitsSigned}
use Rattle.std.proofs.lemmas.Int.{to_z-of_z}
use Rattle.rx_core.specs.declared.types.Kind.TheVariants.{I64}
use Rattle.rx_meaning.specs.Values.{number}
use Rattle.rx_machine_driver.specs.declared.next.Next.TheVariants as next
use Rattle.rx_machine_values.specs.declared.value.Value.TheVariants as value
use Rattle.rx_machine_values.specs.PlainValues.{value_number}
use Rattle.rx_machine_frames.specs.Frames as frames
use Rattle.rx_machine_driver.proofs.ActLemmas.{inputs_none, inputs_some}
use Rattle.rx_machine_driver.proofs.data.Machine.inputs.Goals as goal

pub returns-in-None : goal.returns-in-None
returns-in-None c =
    inputs_none c.args.self.now (next.Gives (value.Number c.input_number.result)) c.in-None.ensures.cases (ap frames.gives (value_number c.input_number.result ∙ c.input_number.ensures))

pub returns-in-Some : goal.returns-in-Some
returns-in-Some c =
    let f : FitsSigned w64 c.in-Some.number.now = search rules in
    inputs_some c.args.self.now c.in-Some.rest c.in-Some.number.now (next.Gives (value.Number c.input_number-in-Some.result)) c.in-Some.ensures.cases.0
    (ap frames.gives (value_number c.input_number-in-Some.result ∙ c.input_number-in-Some.ensures ∙ ap (λ z. number I64 z) (to_z-of_z w64 c.in-Some.number.now f)))
