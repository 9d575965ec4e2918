-- Params beside their modes: one after another, until one of the lists ends.
use Rattle.std.proofs.Common.{◌≡◌, ℕ, zero, suc, ◌≤◌, min, Bool, List, [], ◌∷◌, length, drop, refl, ap, subst, ◌∙◌, arith}
use Rattle.std.proofs.lemmas.List.{drop_all}
use Rattle.rx_typeck_typed.specs.declared.typed.TypedFn.{TypedFn}
use Rattle.rx_modes_policy.specs.declared.uses.Mode.{Mode}
use Rattle.rx_hoist_extraction.specs.Names.{Names}
use Rattle.rx_hoist_naming.specs.NamedPlan.{named_params}

no_modes : (ns : Names) (t : TypedFn) (xs : List ℕ) (vs : List Bool) → named_params ns t xs [] vs ≡ []
no_modes ns t [] vs = refl
no_modes ns t (x ∷ xs) vs = refl

no_flags : (ns : Names) (t : TypedFn) (xs : List ℕ) (ms : List Mode) → named_params ns t xs ms [] ≡ []
no_flags ns t [] ms = refl
no_flags ns t (x ∷ xs) [] = refl
no_flags ns t (x ∷ xs) (m ∷ ms) = refl

-- one of the lists has ended
pub params_done : (ns : Names) (t : TypedFn) (xs : List ℕ) (ms : List Mode) (vs : List Bool) (i : ℕ) → min (min (length xs) (length ms)) (length vs) ≤ i
    → named_params ns t (drop i xs) (drop i ms) (drop i vs) ≡ []
params_done ns t [] ms vs i h = ap (λ (l : List ℕ). named_params ns t l (drop i ms) (drop i vs)) (drop_all i [] (omega arith))
params_done ns t (x ∷ xs) [] vs i h = ap (λ (l : List Mode). named_params ns t (drop i (x ∷ xs)) l (drop i vs)) (drop_all i [] (omega arith)) ∙ no_modes ns t (drop i (x ∷ xs)) (drop i vs)
params_done ns t (x ∷ xs) (m ∷ ms) [] i h = ap (λ (l : List Bool). named_params ns t (drop i (x ∷ xs)) (drop i (m ∷ ms)) l) (drop_all i [] (omega arith)) ∙ no_flags ns t (drop i (x ∷ xs)) (drop i (m ∷ ms))
params_done ns t (x ∷ xs) (m ∷ ms) (v ∷ vs) zero h = absurd (omega (arith, h))
params_done ns t (x ∷ xs) (m ∷ ms) (v ∷ vs) (suc i) h = params_done ns t xs ms vs i (omega (arith, h))

-- the same, by how the count of steps is told
pub params_ended : (ns : Names) (t : TypedFn) (xs : List ℕ) (ms : List Mode) (vs : List Bool) (i n k : ℕ) → n ≡ min (length xs) (length ms) → k ≡ min n (length vs) → k ≤ i
    → named_params ns t (drop i xs) (drop i ms) (drop i vs) ≡ []
params_ended ns t xs ms vs i n k e f h = params_done ns t xs ms vs i (subst (λ z. z ≤ i) (f ∙ ap (λ z. min z (length vs)) e) h)
