use Rattle.rx_typed.specs.PlainTree.{plain-TypedTree}
use Rattle.rx_engine_validated.proofs.Runs.{tests_stay, run_never_ends, marked_run_never_ends}
use Rattle.rx_engine_validated.proofs.premises_laws.diverging_runs_never_end.Goals as goal

pub returns-clause-plain : goal.returns-clause-plain
returns-clause-plain c = λ p t few front f a r h sits short d l rest divided. let typed = front.typed in
    run_never_ends (plain-TypedTree f.tree) (tests_stay p front.names t few front.meant typed (c.signatures_are_well_formed.ensures p front.names t few front.meant typed)
    (c.sizes_are_sized.ensures p front.names typed.declared typed.sizes typed.declares typed.is_sizes) f a) r h sits short d l rest divided

pub returns-clause-marked : goal.returns-clause-marked
returns-clause-marked c = λ p t few front f a r h sits short d ls l rest divided. let typed = front.typed in
    marked_run_never_ends (plain-TypedTree f.tree) (tests_stay p front.names t few front.meant typed (c.signatures_are_well_formed.ensures p front.names t few front.meant typed)
    (c.sizes_are_sized.ensures p front.names typed.declared typed.sizes typed.declares typed.is_sizes) f a) r h sits short d ls l rest divided
