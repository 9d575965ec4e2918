use Rattle.rx_resolve_names.proofs.Deciding.{named_or_misnamed}
use Rattle.rx_resolve_names.proofs.laws.named_or_misnamed.Goals as goal

pub returns : goal.returns
returns c p = named_or_misnamed p
