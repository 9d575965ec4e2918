use Rattle.rx_compact_types.proofs.MergedEqual.{known_where_one}
use Rattle.rx_compact_types.proofs.laws.merged_numbers_are_known.Goals as goal

pub returns : goal.returns
returns c o order s f few once l k e = known_where_one o order s f few once l k e
