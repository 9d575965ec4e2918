use Rattle.rx_meaning.proofs.spans.Functions.{same_runs}
use Rattle.rx_meaning.proofs.laws.runs_ignore_spans.Goals as goal

pub returns : goal.returns
returns c = same_runs
