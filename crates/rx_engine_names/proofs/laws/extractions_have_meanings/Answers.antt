use Rattle.rx_engine_names.proofs.ExtractionItems.{extraction_resolves}
use Rattle.rx_engine_names.proofs.NewPrograms.{new_items_resolve}
use Rattle.rx_engine_names.proofs.NoNewCycles.{no_new_cycle}
use Rattle.rx_engine_names.proofs.laws.extractions_have_meanings.Goals as goal

pub returns : goal.returns
returns c = λ p r plan bounds s f there free loops scope round names ts m a ls at i t k comes at' t' ends within inside u one.
    let new = new_items_resolve p r plan bounds s f there free loops scope round names ts m.names_are a ls at i t k comes at' t' ends within inside in
    let all = extraction_resolves p r plan bounds s f there free ts m.names_are u new.0 one new.1 in
    (all.0, record { names_are = all.1; finite = no_new_cycle p r plan bounds s f there free ts m.names_are names.types m.finite })
