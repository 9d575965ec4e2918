use Rattle.std.proofs.Common.{◌<◌, sym, subst, length, slice_get}
use Rattle.rx_typed.specs.Types.{Declarations, variants_declared}
use Rattle.rx_typed_declarations.proofs.Polarities.{same_declared}
use Rattle.rx_typeck_typed.proofs.typed_laws.typed_declarations_are_finite.Goals as goal

pub returns-clause-finite : goal.returns-clause-finite
returns-clause-finite c p names t typed = typed.well_formed.finite

pub returns-clause-few : goal.returns-clause-few
returns-clause-few c p names t numbered typed i =
    subst (λ (D : Declarations). length (variants_declared (slice_get D i)) < 4294967296) (sym (same_declared t.decls.items typed.declared typed.same))
    (c.declared_variants_are_few.ensures p names typed.declared numbered typed.declares i)
