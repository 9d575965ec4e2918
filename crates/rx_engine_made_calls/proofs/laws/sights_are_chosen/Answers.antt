use Rattle.std.proofs.Common.{true}
use Rattle.rx_engine_made_calls.proofs.Seeing.{all_special_so, begins_so, seen_as}
use Rattle.rx_engine_made_calls.proofs.laws.sights_are_chosen.Goals as goal

pub returns-clause-begins : goal.returns-clause-begins
returns-clause-begins c = λ A muts k modes x. begins_so A muts k modes x

pub returns-clause-seen : goal.returns-clause-seen
returns-clause-seen c = λ A muts k modes R chosen again m x y w t d h fits s. seen_as A muts k modes R chosen again x y w t d h fits s

pub returns-clause-elsewhere : goal.returns-clause-elsewhere
returns-clause-elsewhere c = λ A muts k modes R chosen x y s. all_special_so A muts k modes R chosen true x y s
