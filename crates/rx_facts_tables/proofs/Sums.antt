-- Sums of parts that are kept in 64 bits.
use Rattle.std.proofs.Common.{◌≡◌, ℕ, zero, suc, ◌+◌, ◌<◌, min, refl, arith}
use Rattle.rx_typed.specs.Types.{at_least_one}
use Rattle.rx_typed_declarations.specs.Sizes.{capped}

positive : (m : ℕ) → 0 < m → at_least_one m ≡ m
positive zero h = absurd (omega arith)
positive (suc m) h = refl

pub at_least_one_capped : (n : ℕ) → at_least_one (capped n) ≡ capped (at_least_one n)
at_least_one_capped zero = refl
at_least_one_capped (suc n) = positive (min (suc n) 18446744073709551615) (omega arith)

pub one_more_capped : (n : ℕ) → min (capped n + 1) 18446744073709551615 ≡ capped (suc n)
one_more_capped n = omega arith

pub ruleset counting_rules = (at_least_one_capped, one_more_capped)
