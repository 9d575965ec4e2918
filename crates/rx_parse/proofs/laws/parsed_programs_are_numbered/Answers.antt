use Rattle.std.proofs.Common.{ℕ, ◌<◌, ◌≤◌, ◌^◌, arith}
use Rattle.rx_parse_grammar.proofs.Numbered.{text_numbered}
use Rattle.rx_parse.proofs.laws.parsed_programs_are_numbered.Goals as goal

below : (n : ℕ) → n ≤ 1048576 → n < 2 ^ 32
below n h = omega arith

pub returns : goal.returns
returns c = λ bytes p d h. text_numbered bytes p d (below _ h)
