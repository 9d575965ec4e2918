use Rattle.rx_compact_laws.proofs.Merging.{knows_the_same, are_apart}
use Rattle.rx_compact_laws.proofs.laws.merged_signatures_know_the_same.Goals as goal

pub returns-clause-same : goal.returns-clause-same
returns-clause-same c D E d e f same u merges l k = knows_the_same D E d e f same u merges l k

pub returns-clause-apart : goal.returns-clause-apart
returns-clause-apart c D E d e f same u merges these all l k x y a b = are_apart D E d e f same u merges these all l k x y a b
