use Rattle.std.proofs.Common.{inl}
use Rattle.rx_parse_grammar.proofs.Numbered.{text_numbered}
use Rattle.rx_tree.specs.Plain as plain
use Rattle.rx_exits_plan.specs.PlainPlan.{plan_of}
use Rattle.rx_engine_tied.proofs.Once.{jumps_apart}
use Rattle.rx_engine_tied.proofs.Seats.{item_there}
use Rattle.rx_engine_tied.proofs.Texts.{left_there, run_tied}
use Rattle.rx_engine_tied.proofs.laws.runs_are_tied.Goals as goal

pub returns : goal.returns
returns c = λ A q bytes names t k start end of is s f e r way first last muts acc.
    let few = text_numbered bytes A.program k.parsed k.short in
    let scoped = c.blocks_stand_in_scope.ensures A.program names t few k.meant k.typed A.function k.among s f (item_there A.program A.function.item (plain.function_item s f) e) in
    let signed = c.signatures_are_well_formed.ensures A.program names t few k.meant k.typed in
    let sized = c.sizes_are_sized.ensures A.program names k.typed.declared k.typed.sizes k.typed.declares k.typed.is_sizes in
    run_tied A q bytes names t k start end of is s f e r way first last scoped
    (left_there A q bytes names t k start end of is s f e r way first last scoped muts acc
    (c.names_mean_their_variables.ensures A.program names t few k.meant k.typed A.function k.among)
    (c.typed_functions_stand.ensures.unmarked A.program names t few k.meant k.typed A.function k.among)
    (jumps_apart A.program names t few k.meant k.typed signed sized A.function k.among)
    (λ y i. c.runs_tell_params_and_locals_by_names.ensures.meant A.program names t few k.meant k.typed A.function k.among q (plan_of q A.plan) k.function k.sits k.plan.plan y (inl i)))
