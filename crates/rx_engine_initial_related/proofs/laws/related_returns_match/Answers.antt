use Rattle.rx_meaning_keeping.proofs.Parts.{parted}
use Rattle.rx_engine_initial_related.proofs.Returned.{value_returns, unit_returns}
use Rattle.rx_engine_initial_related.proofs.laws.related_returns_match.Goals as goal

pub returns-clause-value : goal.returns-clause-value
returns-clause-value c = λ S a b U p m n w i v e f h d t. value_returns S (parted S.frame a) (parted S.frame_there b) U p m n w i v e f h d t

pub returns-clause-unit : goal.returns-clause-unit
returns-clause-unit c = λ S a b R U g w v gives q m d. unit_returns S (parted S.frame a) (parted S.frame_there b) U R g gives q m d
