use Rattle.rx_machine_frames.proofs.StepLemmas.{step_keeps, step_less}
use Rattle.rx_machine_frames.proofs.laws.steps_keep.Goals as goal

pub returns-clause-keeps : goal.returns-clause-keeps
returns-clause-keeps c = λ P n K x s l. step_keeps P n K x s l

pub returns-clause-lessens : goal.returns-clause-lessens
returns-clause-lessens c = λ K x s. step_less K x s
