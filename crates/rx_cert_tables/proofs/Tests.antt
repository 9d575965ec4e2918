-- Tests on numbers, joined by and and or.
use Rattle.std.proofs.Common.{◌≡◌, ◌⊎◌, inl, inr, ℕ, suc, ◌<◌, ◌≤◌, Bool, true, false, ◌&&◌, ◌||◌, ◌==◌, refl, sym, ap, ◌∙◌, arith}
use Rattle.std.proofs.lemmas.Bool.{eqb-true, false≢true}
use Rattle.std.proofs.lemmas.Bool.{cases_lt}
use Rattle.std.proofs.lemmas.Bool.Decides.{nat_tests}
use Rattle.std.specs.Prelude.{nat_lt, nat_le}

pub not_true : (b : Bool) → (b ≡ true → ⊥) → b ≡ false
not_true true h = absurd (h refl)
not_true false h = refl

pub or_none : (b : Bool) → (b || false) ≡ b
or_none true = refl
or_none false = refl

pub or_swap : (a b c : Bool) → ((a || b) || c) ≡ (b || (a || c))
or_swap true true c = refl
or_swap true false c = refl
or_swap false b c = refl

pub and_none : (b : Bool) → (b && false) ≡ false
and_none true = refl
and_none false = refl

pub and_parts : (a b : Bool) → (a && b) ≡ true → (a ≡ true) × (b ≡ true)
and_parts true b e = (refl, e)
and_parts false b e = absurd (false≢true e)

pub and_whole : (a b : Bool) → a ≡ true → b ≡ true → (a && b) ≡ true
and_whole a b e f = ap (λ x. x && b) e ∙ f

pub or_parts : (a b : Bool) → (a || b) ≡ true → (a ≡ true) ⊎ (b ≡ true)
or_parts true b e = inl refl
or_parts false b e = inr e

pub or_right : (a b : Bool) → b ≡ true → (a || b) ≡ true
or_right true b e = refl
or_right false b e = e

pub or_left : (a b : Bool) → a ≡ true → (a || b) ≡ true
or_left a b e = ap (λ x. x || b) e

-- ---- numbers

pub differs : (i n : ℕ) → (i ≡ n → ⊥) → (i == n) ≡ false
differs i n h = not_true (i == n) (λ e. h (eqb-true i n e))

pub le : (a b : ℕ) → a ≤ b → nat_le a b ≡ true
le a b h = grind (arith, nat_tests)

pub not_le : (a b : ℕ) → b < a → nat_le a b ≡ false
not_le a b h = grind (arith, nat_tests)

pub lt : (a b : ℕ) → a < b → nat_lt a b ≡ true
lt a b h = le (suc a) b h

pub not_lt : (a b : ℕ) → b ≤ a → nat_lt a b ≡ false
not_lt a b h = not_le (suc a) b (omega (arith, h))

pub from_le : (a b : ℕ) → nat_le a b ≡ true → a ≤ b
from_le a b e = go (cases_lt b a) where
  go : (b < a) ⊎ (a ≤ b) → a ≤ b
  go (inl h) = absurd (false≢true (sym (not_le a b h) ∙ e))
  go (inr h) = h

pub from_lt : (a b : ℕ) → nat_lt a b ≡ true → a < b
from_lt a b e = from_le (suc a) b e

-- both tests hold exactly where the numbers are so
pub between : (a p b : ℕ) → a ≤ p → p ≤ b → (nat_le a p && nat_le p b) ≡ true
between a p b h k = and_whole (nat_le a p) (nat_le p b) (le a p h) (le p b k)

pub below : (a p b : ℕ) → p < a → (nat_le a p && nat_le p b) ≡ false
below a p b h = ap (λ x. x && nat_le p b) (not_le a p h)

pub above : (a p b : ℕ) → b < p → (nat_le a p && nat_le p b) ≡ false
above a p b h = ap (λ x. nat_le a p && x) (not_le p b h) ∙ and_none (nat_le a p)
