use Rattle.rx_engine_extraction.specs.Made.{told}
use Rattle.rx_engine_extraction.specs.Case.{asked}
use Rattle.rx_engine_extraction.proofs.Ends.{block_function}
use Rattle.rx_engine_fitting.proofs.Deciding.{decided, free, front, selected, settled_so}
use Rattle.rx_engine_fitting.proofs.laws.extractions_are_never_misnamed.Goals as goal

pub returns : goal.returns
returns c = λ bytes T w d is short allowed stands bounds e h.
    let finite = c.typed_declarations_are_finite.ensures.finite in
    let size = c.one_size_each.ensures.one in
    let ready = c.accepted_functions_are_ready.ensures in
    let run = selected finite size ready bytes T w d is short allowed stands in
    let x = block_function T.program d.run.function d.run.block.path run.block run.at in
    h.told (c.settled_extractions_resolve.ensures.faults (told T w d) (asked T d) bytes is.accepted.front.names T.types d.function.mutable w.choice (decided finite size ready bytes T w d is short allowed stands)
    (settled_so finite size ready bytes T w d is short allowed stands) (front finite size ready bytes T w d is short allowed stands) (free finite size ready bytes T w d is short allowed stands) x.0 x.1 x.2 bounds e h.cause)
