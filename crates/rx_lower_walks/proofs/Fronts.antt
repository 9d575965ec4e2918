-- Fronts of ways, and what stands behind them.
use Rattle.std.proofs.Common.{◌≡◌, ℕ, zero, suc, ◌+◌, ◌<◌, ◌≤◌, false, List, [], ◌∷◌, length, drop, get_or, refl, ap, ◌∙◌, arith}
use Rattle.std.proofs.lemmas.List.{drop_more}
use Rattle.rx_core.specs.declared.types.Step.{Step}
use Rattle.rx_typed.specs.TypedPlaces.{is_front}

pub none_left : {A : Type 0} (xs : List A) (k : ℕ) → length xs ≤ k → drop k xs ≡ []
none_left [] zero h = refl
none_left [] (suc k) h = refl
none_left (x ∷ xs) zero h = absurd (omega (arith, h))
none_left (x ∷ xs) (suc k) h = none_left xs k (omega (arith, h))

-- a way that is shorter has no such front
pub too_short : (qs ss : List Step) (i : ℕ) → i < length qs → length ss ≤ i → is_front (drop i qs) (drop i ss) ≡ false
too_short [] ss i h k = absurd (omega (arith, h))
too_short (q ∷ qs) ss i h k =
    ap (λ (l : List Step). is_front l (drop i ss)) (drop_more (q ∷ qs) i q h) ∙ ap (λ (l : List Step). is_front (get_or (q ∷ qs) i q ∷ drop (i + 1) (q ∷ qs)) l) (none_left ss i k)
