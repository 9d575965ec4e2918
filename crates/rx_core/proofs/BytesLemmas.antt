-- `same_bytes` and `is_one_of` decide equality and membership, by recursion on both lists.
use Rattle.std.proofs.Common.{◌≡◌, ℕ, Bool, true, false, ◌&&◌, List, [], ◌∷◌, refl, sym, ap, ◌∙◌, eqb-true, eq-eqb}
use Rattle.std.specs.Prelude.{◌==◌}
use Rattle.rx_core.specs.Bytes.{same_bytes}

both_true : (a b : Bool) → (a && b) ≡ true → (a ≡ true) × (b ≡ true)
both_true true b e = (refl, e)
both_true false b e = absurd (cc)

pub same_bytes-true : (a b : List ℕ) → same_bytes a b ≡ true → a ≡ b
same_bytes-true [] [] e = refl
same_bytes-true [] (y ∷ ys) e = absurd (cc)
same_bytes-true (x ∷ xs) [] e = absurd (cc)
same_bytes-true (x ∷ xs) (y ∷ ys) e =
    let p = both_true (x == y) (same_bytes xs ys) e in
    let h : x ≡ y = eqb-true x y p.0 in
    let t = same_bytes-true xs ys p.1 in
    ap (λ a. a ∷ xs) h ∙ ap (λ l. y ∷ l) t

pub same_bytes-self : (a : List ℕ) → same_bytes a a ≡ true
same_bytes-self [] = refl
same_bytes-self (x ∷ xs) = ap (λ b. b && same_bytes xs xs) (eq-eqb x x refl) ∙ same_bytes-self xs

pub same_bytes-equal : (a b : List ℕ) → a ≡ b → same_bytes a b ≡ true
same_bytes-equal a b e = ap (same_bytes a) (sym e) ∙ same_bytes-self a
