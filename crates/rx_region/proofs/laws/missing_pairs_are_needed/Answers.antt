use Rattle.rx_region.specs.Solutions.{end}
use Rattle.rx_region.proofs.LeastLaws.{least_is_within}
use Rattle.rx_region.proofs.laws.missing_pairs_are_needed.Goals as goal

pub returns : goal.returns
returns c = λ C g R l k s keeps m. m.unknown (keeps l k m.long m.short (least_is_within C g R s l (end k) m.needed))
