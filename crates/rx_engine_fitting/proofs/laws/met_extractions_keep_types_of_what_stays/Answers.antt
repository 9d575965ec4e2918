use Rattle.rx_hoist_extraction.specs.Extraction.{extraction}
use Rattle.rx_engine_names.proofs.ExtractionItems.{extraction_inserted}
use Rattle.rx_engine_declared.proofs.Extractions.{same_signature}
use Rattle.rx_engine_extraction.specs.Made.{named, run_of}
use Rattle.rx_engine_extraction.proofs.Ends.{block_function}
use Rattle.rx_engine_fitting.proofs.Declared.{typed_stays}
use Rattle.rx_engine_fitting.proofs.Deciding.{decided, free, selected}
use Rattle.rx_engine_fitting.proofs.laws.met_extractions_keep_types_of_what_stays.Goals as goal

pub returns : goal.returns
returns c = λ bytes T w d is short allowed stands bounds ms meant es declares sizes table n s f at other.
    let finite = c.typed_declarations_are_finite.ensures.finite in
    let size = c.one_size_each.ensures.one in
    let ready = c.accepted_functions_are_ready.ensures in
    let run = selected finite size ready bytes T w d is short allowed stands in
    let x = block_function T.program d.run.function d.run.block.path run.block run.at in
    let decides = decided finite size ready bytes T w d is short allowed stands in
    let word = free finite size ready bytes T w d is short allowed stands in
    let typed = decides.typed in
    let plan = named T w d in
    let r = run_of d.run in
    let none = c.unused_names_are_free.ensures T.length T.tokens T.program (record { text = bytes; lexed = decides.lexed; parsed = is.parses; long = is.long }) plan word in
    let i = extraction_inserted T.program r plan bounds x.0 x.1 x.2 none in
    let knows = c.declarations_stay.ensures T.program (extraction T.program r plan bounds) i (same_signature T.program r plan bounds x.0 x.1 x.2 none) is.accepted.front.names ms decides.meant.names_are meant.names_are
    typed.declared es typed.declares declares typed.sizes sizes typed.is_sizes table (λ k. k) (λ k. k) in
    typed_stays c.demands_are_orderly.ensures T.program r plan bounds x.0 x.1 x.2 none is.accepted.front.names ms decides.meant.names_are meant.names_are T.types typed _ knows n s f at other
