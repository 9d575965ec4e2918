use Rattle.std.proofs.Common.{◌<◌, length, inl, inr, ⊎_elim, subst, arith}
use Rattle.rx_parse_grammar.proofs.Numbered.{text_numbered}
use Rattle.rx_typed.specs.Types.{Declarations}
use Rattle.rx_typed.specs.PlainTypes.{declarations}
use Rattle.rx_typed_declarations.proofs.Polarities.{same_declared}
use Rattle.rx_typeck_solver.specs.Stepping.{known}
use Rattle.rx_typeck_typed.proofs.ExclusionLemmas.{declared_or_wrong}
use Rattle.rx_hoist_extraction.specs.Extraction.{extraction}
use Rattle.rx_engine_names.proofs.ExtractionItems.{extraction_inserted}
use Rattle.rx_engine_declared.proofs.Extractions.{same_signature}
use Rattle.rx_engine_extraction.specs.Made.{named, run_of, told}
use Rattle.rx_engine_kept.specs.EnumFits.{EnumFits}
use Rattle.rx_engine_fitting.proofs.Deciding.{decided, few_bytes, free}
use Rattle.rx_engine_fitting.proofs.FewItems.{extraction_items, text_items}
use Rattle.rx_engine_fitting.proofs.TwoFunctions.{by_cause, untyped_in_two}
use Rattle.rx_engine_fitting.proofs.laws.faults_of_types_stand_in_two_functions.Goals as goal

pub returns : goal.returns
returns c = λ bytes T w d is short allowed all bounds s f at e h.
    let stands = all.1.1 in
    let finite = c.typed_declarations_are_finite.ensures.finite in
    let size = c.one_size_each.ensures.one in
    let ready = c.accepted_functions_are_ready.ensures in
    let decides = decided finite size ready bytes T w d is short allowed stands in
    let word = free finite size ready bytes T w d is short allowed stands in
    let typed = decides.typed in
    let plan = named T w d in
    let r = run_of d.run in
    let other = c.unused_names_are_free.ensures T.length T.tokens T.program (record { text = bytes; lexed = decides.lexed; parsed = is.parses; long = is.long }) plan word in
    let types = c.named_plans_name_types.ensures.types (told T w d) is.accepted.front.names T.types (text_numbered bytes T.program is.parses (few_bytes finite size ready bytes T w d is short allowed stands)) decides.meant typed decides.declared decides.among in
    let fits = subst (λ (D : Declarations). EnumFits D plan) (same_declared T.types.decls.items typed.declared typed.same)
    (c.enums_of_exits_keep_the_limits.ensures (declarations T.types.decls.items) plan T.sizes (finite T.program is.accepted.front.names T.types typed) is.sized all.1.0.types all.0) in
    let many = extraction_items T.program r plan bounds s f at in
    let least = text_items bytes T.program is.parses in
    let long = is.long in
    let few : length (extraction T.program r plan bounds) < 4294967296 = omega (arith, many, least, long, short) in
    let ms = h.names in
    let meant = h.meant in
    let i = extraction_inserted T.program r plan bounds s f at other in
    let declares = c.extractions_declare.ensures T.program r plan bounds s f at other types is.accepted.front.names ms decides.meant.names_are meant typed.declared typed.declares few fits in
    by_cause (extraction T.program r plan bounds) ms e
    (λ x w. declared_or_wrong c.declared_are_finite.ensures c.one_size_each.ensures.some (extraction T.program r plan bounds) ms declares.0 x declares.1 w)
    (λ es x sizes y first.
    let knows = c.declarations_stay.ensures T.program (extraction T.program r plan bounds) i (same_signature T.program r plan bounds s f at other) is.accepted.front.names ms decides.meant.names_are meant.names_are
    typed.declared es typed.declares x typed.sizes sizes typed.is_sizes y (λ k. k) (λ k. k) in
    ⊎_elim
    (λ u. inl (record { names = ms; meant = meant; declared = es; declares = x; sizes = sizes; is_sizes = y; untyped = u }))
    (λ u. inr (record { names = ms; meant = meant; declared = es; declares = x; sizes = sizes; is_sizes = y; untyped = u }))
    (untyped_in_two c.demands_are_orderly.ensures T.program r plan bounds s f at other types is.accepted.front.names ms decides.meant.names_are meant.names_are T.types typed (known es sizes) knows e first)) h.cause
