use Rattle.std.proofs.Common.{map, ap, ◌∙◌, arith}
use Rattle.rx_meaning.specs.Values.{with_field}
use Rattle.rx_machine_values.specs.PlainValues.{plain-Value, values_of}
use Rattle.rx_machine_actions.proofs.MakingLemmas.{set_is, set_past}
use Rattle.rx_machine_actions.proofs.making.place.Goals as goal

pub returns-then-field-len : goal.returns-then-field-len
returns-then-field-len c =
    set_is c.args.parts.now.items c.args.field c.replace.new.dest
    ∙ ap (λ v. with_field (values_of (map plain-Value c.args.parts.now.items)) c.args.field (plain-Value v)) (cc)

pub returns-else-field-len : goal.returns-else-field-len
returns-else-field-len c = set_past c.args.parts.now.items c.args.field (plain-Value c.args.value) (let e = c.if-field-len.false in let f = c.len.ensures in omega (arith, e, f))
