use Rattle.rx_meaning_keeping.proofs.Reaching.{runs_are_traced}
use Rattle.rx_meaning_keeping.proofs.Runs.{runs_end_for_reasons}
use Rattle.rx_meaning_keeping.proofs.Behaving.{plainly_behaves}
use Rattle.rx_meaning_keeping.proofs.laws.runs_are_traced.Goals as goal

pub returns-clause-activations : goal.returns-clause-activations
returns-clause-activations c = λ A b P h. runs_are_traced A b P h

pub returns-clause-ends : goal.returns-clause-ends
returns-clause-ends c = λ A b P h. runs_end_for_reasons A b P h

pub returns-clause-plainly : goal.returns-clause-plainly
returns-clause-plainly c = plainly_behaves
