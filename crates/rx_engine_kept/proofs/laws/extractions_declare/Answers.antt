use Rattle.rx_typed.specs.PlainTypes.{declarations}
use Rattle.rx_engine_kept.proofs.AllDeclared.{extraction_declared}
use Rattle.rx_engine_kept.proofs.Fitting.{extraction_fits}
use Rattle.rx_engine_kept.proofs.laws.extractions_declare.Goals as goal

pub returns : goal.returns
returns c = λ p r pl bs s f t w N ns ms n m ds d small fits.
    let x = extraction_declared p r pl bs s f t w N ns ms n m.names_are ds d.items in
    (x.0, record { items = x.1; fits = extraction_fits p r pl bs s f t w N ns ms n m.names_are ds x.0 d x.1 (c.declared_are_finite.ensures p (declarations ds) d.fits) small m.finite fits })
