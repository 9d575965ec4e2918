use Rattle.rx_machine.specs.Functions.{program_of}
use Rattle.rx_engine_validated.proofs.References.{finds_references}
use Rattle.rx_engine_validated.proofs.premises_laws.accepted_runs_find_references.Goals as goal

pub returns : goal.returns
returns c = λ q u few front main given n.
    finds_references (program_of u main) given n (λ F is none told e. c.accepted_runs_follow_references.ensures.plain q u few front main F is none given n told e)
