use Rattle.rx_compact_types.proofs.Programs.{short_program}
use Rattle.rx_compact_types.proofs.laws.short_signatures_are_typed.Goals as goal

pub returns : goal.returns
returns c p i q short small = short_program p i q short small
