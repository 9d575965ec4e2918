use Rattle.rx_engine_covered.proofs.Choices.{choice_there}
use Rattle.rx_engine_covered.proofs.Widths.{same_width}
use Rattle.rx_engine_covered.proofs.laws.matches_by_other_numbers_are_covered.Goals as goal

pub returns-clause-covered : goal.returns-clause-covered
returns-clause-covered c = λ r apart D E items w a b l k. choice_there r apart D E items w a b l k

pub returns-clause-product : goal.returns-clause-product
returns-clause-product c = λ r apart w a b l. same_width r apart l.arms
