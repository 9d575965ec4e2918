use Rattle.std.proofs.Common.{ap, sym, ◌∙◌}
use Rattle.std.specs.Option.{option_copied}
use Rattle.rx_typed.specs.Types.{Typ}
use Rattle.rx_typed.specs.PlainTypes.{plain-Ty, typ_mut}
use Rattle.rx_typed.specs.Elaborated.{coercion}
use Rattle.rx_typeck_elaborate_parts.specs.Assigning.{shape_of}
use Rattle.rx_typeck_typed.proofs.readers.passed_as.Goals as goal

pub returns-in-Mut : goal.returns-in-Mut
returns-in-Mut c = c.lent_as.ensures (plain-Ty c.in-Mut.field-1)
    ∙ ap (λ (t : Typ). coercion t (shape_of (option_copied c.args.expected))) (sym (ap plain-Ty c.in-Mut.is ∙ typ_mut c.in-Mut.field-0 c.in-Mut.field-1))
