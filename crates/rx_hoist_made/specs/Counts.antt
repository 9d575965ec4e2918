-- Numbers that are kept in 64 bits: what is more is the greatest number of 64 bits.
use Rattle.std.specs.Prelude.{ℕ, min}

abbrev pub capped : ℕ → ℕ
capped n = min n 18446744073709551615
