use Rattle.std.proofs.Common.{refl, ◌∙◌}
use Rattle.rx_hoist_extraction.specs.Extraction.{added, extraction}
use Rattle.rx_hoist_extraction.specs.Pinned.{pinned_function}
use Rattle.rx_engine_names.specs.Extractions.{goes_to_end}
use Rattle.rx_engine_extraction.specs.Made.{named, run_of, told}
use Rattle.rx_engine_extraction.specs.Case.{asked}
use Rattle.rx_engine_extraction.proofs.Ends.{block_function}
use Rattle.rx_engine_fitting.proofs.Deciding.{decided, free, front, selected, settled_so}
use Rattle.rx_engine_fitting.proofs.OneNumbering.{numbered}
use Rattle.rx_engine_fitting.proofs.TwoFunctions.{number_here}
use Rattle.rx_engine_fitting.proofs.laws.met_extractions_are_numbered.Goals as goal

pub returns : goal.returns
returns c = λ bytes T w d is short allowed stands bounds.
    let finite = c.typed_declarations_are_finite.ensures.finite in
    let size = c.one_size_each.ensures.one in
    let ready = c.accepted_functions_are_ready.ensures in
    let run = selected finite size ready bytes T w d is short allowed stands in
    let x = block_function T.program d.run.function d.run.block.path run.block run.at in
    let decides = decided finite size ready bytes T w d is short allowed stands in
    let word = free finite size ready bytes T w d is short allowed stands in
    let h = c.decided_runs_are_selected.ensures (told T w d) (asked T d) bytes is.accepted.front.names T.types d.function.mutable decides word x.0 x.1 x.2 in
    let y = c.settled_extractions_are_alike.ensures (told T w d) (asked T d) bytes is.accepted.front.names T.types d.function.mutable w.choice decides
    (settled_so finite size ready bytes T w d is short allowed stands) (front finite size ready bytes T w d is short allowed stands) word x.0 x.1 x.2 h.text h.text_resolves bounds in
    let g = pinned_function T.program d.run.span (named T w d).pins x.1 in
    let here = y.4.numbers d.run.function ∙ number_here d.run.function (added (named T w d)) in (
      x.0,
      x.1,
      x.2,
      y.0,
      y.4.pinned,
      y.4.pinned_resolves,
      numbered c.functions_with_a_call_have_one_numbering.ensures.within c.functions_with_a_call_have_one_numbering.ensures.at_the_end T.program (extraction T.program (run_of d.run) (named T w d) bounds) y.0 x.0 g (run_of d.run) (named T w d) y.4.pinned h.stands here
          (goes_to_end (run_of d.run) g) refl y.4.called,
    )
