use Rattle.rx_typed.specs.PlainTypes.{declarations}
use Rattle.rx_machine.specs.Functions.{program_of}
use Rattle.rx_engine_validated.proofs.premises_laws.dropped_units_run_so.Goals as goal

pub returns : goal.returns
returns c = λ q u few front main item unit R drops given n. let x = c.accepted_programs_act_by_their_types.ensures q u few front main in
    c.dropped_units_change_no_run.ensures item (declarations u.decls.items) x.0 (program_of u main) x.1 unit (c.accepted_programs_are_initial.ensures q u few front main).formed R drops given n
