-- Limits of counts that are kept in 64 bits, and what is told of them.
use Rattle.std.proofs.Common.{◌≡◌, ℕ, ◌<◌, ◌≤◌, ◌^◌, nat_lt, true, false, Option, Some, None, refl, sym, subst, ap, ◌∙◌, arith}
use Rattle.std.proofs.lemmas.Bool.{lt-ltb, le-ltb}
use Rattle.rx_core.specs.declared.types.Which.{Which}
use Rattle.rx_core.specs.declared.types.Which.TheVariants as which
use Rattle.rx_hoist_extraction.specs.Plan.{Plan}
use Rattle.rx_hoist_extraction.specs.Limits.{count_parameters}
use Rattle.rx_hoist_made.specs.Counts.{capped}
use Rattle.rx_hoist.specs.declared.hoisting.HoistFault.TheVariants as fault
use Rattle.rx_hoist.specs.Limits.{Allowed, Passed, lifetimes_limit, parameters_limit}

many_parameters : (n : ℕ) (pl : Plan) → 64 < count_parameters pl → parameters_limit n pl ≡ Some (which.Parameters, capped (count_parameters pl))
many_parameters n pl l = let e : nat_lt 64 (count_parameters pl) ≡ true = lt-ltb 64 (count_parameters pl) l in rw e refl

few_parameters : (n : ℕ) (pl : Plan) → count_parameters pl ≤ 64 → parameters_limit n pl ≡ lifetimes_limit n
few_parameters n pl l = let e : nat_lt 64 (count_parameters pl) ≡ false = le-ltb 64 (count_parameters pl) l in rw e refl

many_lifetimes : (n : ℕ) → 128 < n → lifetimes_limit n ≡ Some (which.Lifetimes, capped n)
many_lifetimes n l = let e : nat_lt 128 n ≡ true = lt-ltb 128 n l in rw e refl

few_lifetimes : (n : ℕ) → n ≤ 128 → lifetimes_limit n ≡ None
few_lifetimes n l = let e : nat_lt 128 n ≡ false = le-ltb 128 n l in rw e refl

-- ---- a fault that tells what passes its limit first

told : (l : Option Passed) (w : Which) (n : ℕ) → l ≡ Some (w, n) → Allowed l (fault.Limit w n)
told l w n there = subst (λ o. Allowed o (fault.Limit w n)) (sym there) (refl, refl)

pub parameters_told : (n : ℕ) (pl : Plan) (many : ℕ) → many ≡ count_parameters pl → many < 2 ^ 64 → 64 < many → Allowed (parameters_limit n pl) (fault.Limit which.Parameters many)
parameters_told n pl many e small past =
    let c : capped (count_parameters pl) ≡ many = omega arith in
    told (parameters_limit n pl) which.Parameters many (many_parameters n pl (omega arith) ∙ ap (λ m. Some (which.Parameters, m)) c)

pub lifetimes_told : (n : ℕ) (pl : Plan) (parameters many : ℕ) → parameters ≡ count_parameters pl → parameters ≤ 64 → many ≡ capped n → 128 < many
    → Allowed (parameters_limit n pl) (fault.Limit which.Lifetimes many)
lifetimes_told n pl parameters many e few is past =
    told (parameters_limit n pl) which.Lifetimes many
    (few_parameters n pl (omega arith) ∙ many_lifetimes n (omega arith) ∙ ap (λ m. Some (which.Lifetimes, m)) (sym is))

pub none_passed : (n : ℕ) (pl : Plan) (parameters many : ℕ) → parameters ≡ count_parameters pl → parameters ≤ 64 → many ≡ capped n → many ≤ 128
    → parameters_limit n pl ≡ None
none_passed n pl parameters many e few is fewer = few_parameters n pl (omega arith) ∙ few_lifetimes n (omega arith)
