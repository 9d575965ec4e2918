use Rattle.rx_hoist_numbers.proofs.Ways.{ends_at, has_way, one_way}
use Rattle.rx_hoist_numbers.proofs.Forms.{numbers_are, spans_are}
use Rattle.rx_hoist_numbers.proofs.laws.numbers_are_positions.Goals as goal

pub returns : goal.returns
returns c = record { numbers = numbers_are; spans = spans_are; listed = ends_at; found = has_way; one = one_way }
