use Rattle.rx_typed.specs.PlainTypes.{declarations}
use Rattle.rx_hoist_extraction.specs.Extraction.{extraction}
use Rattle.rx_engine_names.proofs.ExtractionItems.{extraction_inserted, function_inserted, numbers_there}
use Rattle.rx_engine_declared.proofs.Extractions.{same_signature, extraction_known}
use Rattle.rx_engine_declared.proofs.laws.extractions_declare_what_stays.Goals as goal

pub returns-clause-inserted : goal.returns-clause-inserted
returns-clause-inserted c = λ p r pl bs s f t w.
    let x = function_inserted p r pl bs s f t w in
    (extraction_inserted p r pl bs s f t w, x.0, x.1, x.2, x.3, same_signature p r pl bs s f t w, numbers_there p r pl bs s f t w)

pub returns-clause-known : goal.returns-clause-known
returns-clause-known c = λ p r pl bs s f t w ns ms n m ds es d e sizes sizes' a b nodes variables.
    let z = c.one_size_each.ensures.some (declarations es) (c.declared_are_finite.ensures (extraction p r pl bs) (declarations es) e.fits) in
    extraction_known p r pl bs s f t w nodes variables ns ms ds es n m d.items e.items z.0 z.1 sizes sizes' a b
