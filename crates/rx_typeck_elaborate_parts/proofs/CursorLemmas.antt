-- Variables that have types from here on, one after the other.
use Rattle.std.proofs.Common.{◌≡◌, ◌<◌, ◌≤◌, ◌-◌, ◌⊎◌, inl, inr, ℕ, zero, suc, List, [], ◌∷◌, length, get_or, arith, refl, ap, sym, ◌∙◌, ◌+◌}
use Rattle.std.proofs.Math.ListN.{set}
use Rattle.rx_typed.specs.declared.nodes.Declaration.{Declaration}
use Rattle.rx_typed.specs.Naming.{known_among, as_known}

known_none : (x : ℕ) (ds : List Declaration) → known_among x zero ds ≡ ds
known_none zero ds = refl
known_none (suc x) [] = refl
known_none (suc x) (d ∷ ds) = ap (λ l. d ∷ l) (known_none x ds)

known_past : (x k : ℕ) (ds : List Declaration) → length ds ≤ x → known_among x k ds ≡ ds
known_past zero zero [] h = refl
known_past zero (suc k) [] h = refl
known_past (suc x) zero [] h = refl
known_past (suc x) (suc k) [] h = refl
known_past zero k (d ∷ ds) h = absurd (omega (arith, h))
known_past (suc x) k (d ∷ ds) h = ap (λ l. d ∷ l) (known_past x k ds (omega (arith, h)))

-- behind the last
pub known_done : (x k : ℕ) (ds : List Declaration) → (k ≡ zero) ⊎ (length ds ≤ x) → known_among x k ds ≡ ds
known_done x k ds (inl h) = ap (λ n. known_among x n ds) h ∙ known_none x ds
known_done x k ds (inr h) = known_past x k ds h

-- one more
pub known_one : (x k : ℕ) (ds : List Declaration) (d : Declaration) → x < length ds → known_among (suc x) k (set ds x (as_known (get_or ds x d))) ≡ known_among x (suc k) ds
known_one x k [] d h = absurd (omega (arith, h))
known_one zero k (e ∷ ds) d h = refl
known_one (suc x) k (e ∷ ds) d h = ap (λ l. e ∷ l) (known_one x k ds d (omega (arith, h)))

pub known_step : (i to : ℕ) (ds rest : List Declaration) (d : Declaration) → i < length ds → i < to → known_among i (to - i) ds ≡ rest
    → known_among (i + 1) (to - (i + 1)) (set ds i (as_known (get_or ds i d))) ≡ rest
known_step i to ds rest d within before is =
    let next : i + 1 ≡ suc i = omega arith in
    let left : to - i ≡ suc (to - (i + 1)) = omega arith in
    ap (λ n. known_among n (to - (i + 1)) (set ds i (as_known (get_or ds i d)))) next ∙ known_one i (to - (i + 1)) ds d within
    ∙ ap (λ k. known_among i k ds) (sym left) ∙ is
