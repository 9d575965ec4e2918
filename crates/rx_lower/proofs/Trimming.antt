-- Types up to the last that is there.
use Rattle.std.proofs.Common.{◌≡◌, ℕ, suc, ◌+◌, ◌<◌, ◌≤◌, List, [], ◌∷◌, ◌++◌, length, take, get_or, Option, Some, None, refl, sym, ap, ◌∙◌, arith}
use Rattle.std.proofs.Math.Seq.{take-suc}
use Rattle.rx_lower.specs.Functions.{trimmed, trimmed_and, last_there}

trimmed_none : {A : Type 0} (ts : List (Option A)) → trimmed (ts ++ None ∷ []) ≡ trimmed ts
trimmed_none [] = refl
trimmed_none (t ∷ ts) = ap (λ (l : List _). trimmed_and t l) (trimmed_none ts)

and_some : {A : Type 0} (o : Option A) (ts : List (Option A)) (t : A) → trimmed_and o (ts ++ Some t ∷ []) ≡ o ∷ (ts ++ Some t ∷ [])
and_some None [] t = refl
and_some None (x ∷ ts) t = refl
and_some (Some y) ts t = refl

trimmed_some : {A : Type 0} (ts : List (Option A)) (t : A) → trimmed (ts ++ Some t ∷ []) ≡ ts ++ Some t ∷ []
trimmed_some [] t = refl
trimmed_some (x ∷ ts) t = ap (λ (l : List _). trimmed_and x l) (trimmed_some ts t) ∙ and_some x ts t

-- one type further
pub next_within : {A : Type 0} (o : Option A) (i n r : ℕ) → n ≤ i → r ≡ last_there o i n → r ≤ i + 1
next_within None i n r h e = omega (arith, h, e)
next_within (Some t) i n r h e = omega (arith, h, e)

pub next_trimmed : {A : Type 0} (T : List (Option A)) (i n r : ℕ) (o : Option A) → i < length T → o ≡ get_or T i o → trimmed (take i T) ≡ take n T → r ≡ last_there o i n
    → trimmed (take (i + 1) T) ≡ take r T
next_trimmed T i n r o less is before e = by o is e
  where
    front : (o : Option _) → o ≡ get_or T i o → take (i + 1) T ≡ take i T ++ o ∷ []
    front o is = let one : i + 1 ≡ suc i = omega arith in ap (λ k. take k T) one ∙ take-suc T i o less ∙ ap (λ (x : Option _). take i T ++ x ∷ []) (sym is)

    by : (o : Option _) → o ≡ get_or T i o → r ≡ last_there o i n → trimmed (take (i + 1) T) ≡ take r T
    by None is e = ap trimmed (front None is) ∙ (trimmed_none (take i T) ∙ (before ∙ ap (λ k. take k T) (sym e)))
    by (Some t) is e = ap trimmed (front (Some t) is) ∙ (trimmed_some (take i T) t ∙ (sym (front (Some t) is) ∙ ap (λ k. take k T) (sym e)))
