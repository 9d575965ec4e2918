use Rattle.rx_engine_standing.proofs.Ending.{end_stands}
use Rattle.rx_engine_standing.proofs.laws.ends_stand_by_the_text.Goals as goal

pub returns : goal.returns
returns c = λ D A f n s d xs ys b o o' t m same hs g i E q w. end_stands D A E q w f n s d xs ys b o o' t m same hs g i
