use Rattle.rx_engine.proofs.Keeping.{kept}
use Rattle.rx_engine.proofs.laws.answers_run_alike.Goals as goal

pub returns : goal.returns
returns c = kept c.typed_declarations_are_finite.ensures.finite c.one_size_each.ensures.one c.parsed_programs_are_numbered.ensures c.one_tree.ensures c.one_typed_program.ensures
    c.found_extractions_run_alike.ensures.answer c.found_extractions_run_alike.ensures.text
