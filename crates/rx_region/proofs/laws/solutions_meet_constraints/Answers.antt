use Rattle.rx_region.proofs.Solving.{meets_solution, solution_meets}
use Rattle.rx_region.proofs.laws.solutions_meet_constraints.Goals as goal

pub returns : goal.returns
returns c = λ C g o R asks. (λ s. solution_meets C g o asks R s, λ m. meets_solution C g o asks R m)
