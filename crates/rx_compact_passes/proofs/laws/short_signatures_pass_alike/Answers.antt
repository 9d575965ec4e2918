use Rattle.rx_compact_passes.proofs.Passing.{pass_alike}
use Rattle.rx_compact_passes.proofs.laws.short_signatures_pass_alike.Goals as goal

pub returns : goal.returns
returns c p i q short small s t u a b = pass_alike c.declared_are_finite.ensures c.one_size_each.ensures.some p i q short small s t u a b
