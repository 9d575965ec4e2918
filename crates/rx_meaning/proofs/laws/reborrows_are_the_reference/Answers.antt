use Rattle.std.specs.Prelude.{true, false}
use Rattle.rx_meaning.proofs.Reborrows.{reborrow_is}
use Rattle.rx_meaning.proofs.laws.reborrows_are_the_reference.Goals as goal

pub returns-clause-mutable : goal.returns-clause-mutable
returns-clause-mutable c = λ x i j q b m d s. reborrow_is x i j q true b m d s

pub returns-clause-shared : goal.returns-clause-shared
returns-clause-shared c = λ x i j q b m d s. reborrow_is x i j q false b m d s
