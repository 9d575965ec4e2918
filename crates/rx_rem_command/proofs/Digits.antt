-- A value of at most 18 digits is small, by the powers of ten.
use Rattle.std.proofs.Common.{ℕ, ◌<◌, ◌≤◌, ◌^◌, arith, lit<}
use Rattle.std.proofs.Math.Nat.{pow-le-pow_right}

pub few_digits : (i n value : ℕ) → i < n → n < 20 → value < 10 ^ i → value < 1000000000000000000
few_digits i n value h k l =
    let p : 10 ^ i ≤ 10 ^ 18 = pow-le-pow_right {n = 10} (lit< tt) {i = i} {j = 18} (omega arith) in
    omega (arith, p)
