use Rattle.rx_typed.specs.PlainTypes.{declarations}
use Rattle.rx_engine_declared.proofs.Knowing.{all_known}
use Rattle.rx_engine_declared.proofs.laws.declarations_stay.Goals as goal

pub returns : goal.returns
returns c = λ p q i same ns ms n m ds es d e sizes sizes' t t' nodes variables.
    let z = c.one_size_each.ensures.some (declarations es) (c.declared_are_finite.ensures q (declarations es) e.fits) in
    all_known p q i same nodes variables ns ms ds es n m d.items e.items z.0 z.1 sizes sizes' t t'
