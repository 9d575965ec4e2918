use Rattle.std.proofs.Common.{◌<◌, length, subst, arith}
use Rattle.rx_parse_grammar.proofs.Numbered.{text_numbered}
use Rattle.rx_typed.specs.Types.{Declarations}
use Rattle.rx_typed.specs.PlainTypes.{declarations}
use Rattle.rx_typed_declarations.proofs.Polarities.{same_declared}
use Rattle.rx_hoist_extraction.specs.Extraction.{extraction}
use Rattle.rx_engine_extraction.specs.Made.{named, run_of, told}
use Rattle.rx_engine_extraction.specs.Case.{asked}
use Rattle.rx_engine_extraction.proofs.Ends.{block_function}
use Rattle.rx_engine_kept.specs.EnumFits.{EnumFits}
use Rattle.rx_engine_fitting.proofs.Deciding.{decided, few_bytes, free, front, selected, settled_so}
use Rattle.rx_engine_fitting.proofs.FewItems.{extraction_items, text_items}
use Rattle.rx_engine_fitting.proofs.laws.met_extractions_declare.Goals as goal

pub returns : goal.returns
returns c = λ bytes T w d is short allowed all bounds.
    let stands = all.1.1 in
    let finite = c.typed_declarations_are_finite.ensures.finite in
    let size = c.one_size_each.ensures.one in
    let ready = c.accepted_functions_are_ready.ensures in
    let run = selected finite size ready bytes T w d is short allowed stands in
    let x = block_function T.program d.run.function d.run.block.path run.block run.at in
    let decides = decided finite size ready bytes T w d is short allowed stands in
    let word = free finite size ready bytes T w d is short allowed stands in
    let typed = decides.typed in
    let plan = named T w d in
    let h = c.decided_runs_are_selected.ensures (told T w d) (asked T d) bytes is.accepted.front.names T.types d.function.mutable decides word x.0 x.1 x.2 in
    let z = c.settled_extractions_are_alike.ensures (told T w d) (asked T d) bytes is.accepted.front.names T.types d.function.mutable w.choice decides
    (settled_so finite size ready bytes T w d is short allowed stands) (front finite size ready bytes T w d is short allowed stands) word x.0 x.1 x.2 h.text h.text_resolves bounds in
    let other = c.unused_names_are_free.ensures T.length T.tokens T.program (record { text = bytes; lexed = decides.lexed; parsed = is.parses; long = is.long }) plan word in
    let types = c.named_plans_name_types.ensures.types (told T w d) is.accepted.front.names T.types (text_numbered bytes T.program is.parses (few_bytes finite size ready bytes T w d is short allowed stands)) decides.meant typed decides.declared decides.among in
    let fits = subst (λ (D : Declarations). EnumFits D plan) (same_declared T.types.decls.items typed.declared typed.same)
    (c.enums_of_exits_keep_the_limits.ensures (declarations T.types.decls.items) plan T.sizes (finite T.program is.accepted.front.names T.types typed) is.sized all.1.0.types all.0) in
    let many = extraction_items T.program (run_of d.run) plan bounds x.0 x.1 x.2 in
    let least = text_items bytes T.program is.parses in
    let long = is.long in
    let few : length (extraction T.program (run_of d.run) plan bounds) < 4294967296 = omega (arith, many, least, long, short) in
    let e = c.extractions_declare.ensures T.program (run_of d.run) plan bounds x.0 x.1 x.2 other types is.accepted.front.names z.4.names decides.meant.names_are z.4.meant typed.declared typed.declares few fits in
    (z.4.names, e.0, z.4.meant, e.1)
