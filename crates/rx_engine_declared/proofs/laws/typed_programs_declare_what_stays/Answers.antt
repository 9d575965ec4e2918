use Rattle.rx_typed.specs.PlainTypes.{declarations}
use Rattle.rx_engine_declared.proofs.Knowing.{all_known}
use Rattle.rx_engine_declared.proofs.laws.typed_programs_declare_what_stays.Goals as goal

pub returns : goal.returns
returns c = λ p q i same ns ms n m t u a b nodes variables.
    let z = c.one_size_each.ensures.some (declarations b.declared) (c.declared_are_finite.ensures q (declarations b.declared) b.declares.fits) in
    all_known p q i same nodes variables ns ms a.declared b.declared n.names_are m.names_are a.declares.items b.declares.items z.0 z.1 a.sizes b.sizes a.is_sizes b.is_sizes
