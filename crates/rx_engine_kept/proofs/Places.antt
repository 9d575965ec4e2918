-- Where an item of a program with new items comes from: it stood in the program that was there before, or it is new.
use Rattle.std.proofs.Common.{◌≡◌, ℕ, suc, ◌+◌, ◌-◌, ◌<◌, ◌≤◌, nat_le, Bool, true, false, if◌then◌else◌, List, ◌∷◌, ◌++◌, length, slice_get, refl, ap, ◌∙◌, subst, arith}
use Rattle.std.proofs.lemmas.Bool.{le-leb, lt-leb, leb-true, leb-false}
use Rattle.rx_engine_names.specs.Insertion.{past}
use Rattle.rx_engine_declared.proofs.Stands.{Place, in_front, there, further, place, get_front, get_behind}

pub data Origin (k many : ℕ) : ℕ → Type 0 where
  of_old : (i : ℕ) → Origin k many (past k many i)
  of_new : (i : ℕ) → i < many → Origin k many (suc (k + i))

pub origin : (k many j : ℕ) → Origin k many j
origin k many j = by (place k j)
  where
    stays : (i : ℕ) → i ≤ k → past k many i ≡ i
    stays i l = ap (λ (b : Bool). if b then i else i + many) (le-leb i k l)

    moves : (i : ℕ) → k < i → past k many i ≡ i + many
    moves i l = ap (λ (b : Bool). if b then i else i + many) (lt-leb i k l)

    beyond : (d : ℕ) (b : Bool) → nat_le many d ≡ b → Origin k many (suc d + k)
    beyond d true e =
        let le : many ≤ d = leb-true many d e in
        let i : ℕ = suc (d - many) + k in
        let far : i + many ≡ suc d + k = omega (arith, le) in
        subst (λ (n : ℕ). Origin k many n) (moves i (omega arith) ∙ far) (of_old i)
    beyond d false e =
        let lt : d < many = leb-false many d e in
        let at : suc (k + d) ≡ suc d + k = omega arith in
        subst (λ (n : ℕ). Origin k many n) at (of_new d lt)

    by : {j : ℕ} → Place k j → Origin k many j
    by {j} (in_front l) = subst (λ (n : ℕ). Origin k many n) (stays j (omega (arith, l))) (of_old j)
    by there = subst (λ (n : ℕ). Origin k many n) (stays k (omega arith)) (of_old k)
    by (further d) = beyond d (nat_le many d) refl

-- a new item stands there
pub new_item : {A : Type 0} (bs ns hs : List A) (y : A) (i : ℕ) → i < length ns → slice_get (bs ++ (y ∷ (ns ++ hs))) (suc (length bs + i)) ≡ slice_get ns i
new_item bs ns hs y i l =
    let at : suc (length bs + i) ≡ suc i + length bs = omega arith in
    ap (slice_get (bs ++ (y ∷ (ns ++ hs)))) at ∙ get_behind bs (y ∷ (ns ++ hs)) (suc i) ∙ get_front ns hs i l
