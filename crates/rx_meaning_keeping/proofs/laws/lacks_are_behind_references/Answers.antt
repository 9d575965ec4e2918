use Rattle.rx_meaning_keeping.proofs.Looking.{lacks_are_behind}
use Rattle.rx_meaning_keeping.proofs.laws.lacks_are_behind_references.Goals as goal

pub returns : goal.returns
returns c = λ P Fs muts all F q given n t e. lacks_are_behind P Fs muts all given n F q t e
