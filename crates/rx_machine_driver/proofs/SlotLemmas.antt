-- Tables of slots, and the lists that they tell.
use Rattle.std.proofs.Common.{◌≡◌, ◌≢◌, ◌⊎◌, inl, inr, ℕ, zero, suc, ◌+◌, ◌<◌, nat_eq, true, false, List, [], ◌∷◌, ◌++◌, length, slice_set, Option, None, Some, if◌then◌else◌, refl, sym, ap, ◌∙◌, arith}
use Rattle.std.proofs.lemmas.Bool.{eq-eqb}
use Rattle.std.proofs.lemmas.Bool.Decides.{eqb_tells}
use Rattle.rx_meaning.specs.Values.{slot_of}
use Rattle.rx_machine_driver.specs.declared.slots.Slots.{Slots}
use Rattle.rx_machine_direct.specs.Direct.{recorded}
use Rattle.rx_machine_driver.specs.Fitting.{Tells}

not_same : (i j : ℕ) → (i ≡ j → ⊥) → nat_eq i j ≡ false
not_same i j h = by (eqb_tells i j)
  where
    by : ((nat_eq i j ≡ true) × (i ≡ j)) ⊎ ((nat_eq i j ≡ false) × (i ≢ j)) → nat_eq i j ≡ false
    by (inl t) = absurd (h t.1)
    by (inr f) = f.0

same_suc : (i j : ℕ) → nat_eq i j ≡ nat_eq (suc i) (suc j)
same_suc i j = by (eqb_tells i j)
  where
    by : ((nat_eq i j ≡ true) × (i ≡ j)) ⊎ ((nat_eq i j ≡ false) × (i ≢ j)) → nat_eq i j ≡ nat_eq (suc i) (suc j)
    by (inl t) = t.0 ∙ sym (eq-eqb (suc i) (suc j) (ap suc t.1))
    by (inr f) = f.0 ∙ sym (not_same (suc i) (suc j) (λ e. f.1 (omega (arith, e))))

-- ---- writing

pub recorded_more : (l : List (Option ℕ)) (x : ℕ) → recorded (l ++ None ∷ []) x ≡ recorded l x
recorded_more [] zero = refl
recorded_more [] (suc x) = refl
recorded_more (p ∷ l) zero = refl
recorded_more (p ∷ l) (suc x) = recorded_more l x

pub recorded_set : (l : List (Option ℕ)) (i v x : ℕ) → i < length l → recorded (slice_set l i (Some v)) x ≡ (if nat_eq x i then Some v else recorded l x)
recorded_set [] i v x k = absurd (omega (arith, k))
recorded_set (p ∷ l) zero v zero k = refl
recorded_set (p ∷ l) zero v (suc x) k = ap (λ b. if b then Some v else recorded l x) (sym (not_same (suc x) zero (λ e. omega (arith, e))))
recorded_set (p ∷ l) (suc i) v zero k = ap (λ b. if b then Some v else p) (sym (not_same zero (suc i) (λ e. omega (arith, e))))
recorded_set (p ∷ l) (suc i) v (suc x) k = recorded_set l i v x (omega (arith, k)) ∙ ap (λ b. if b then Some v else recorded l x) (same_suc x i)

-- ---- each table tells some list

abbrev listed : List (Option ℕ) → ℕ → List (ℕ × ℕ)
listed [] i = []
listed (None ∷ l) i = listed l (suc i)
listed (Some v ∷ l) i = (i, v) ∷ listed l (suc i)

not_listed : (l : List (Option ℕ)) (i x : ℕ) → x < i → slot_of (listed l i) x ≡ None
not_listed [] i x k = refl
not_listed (None ∷ l) i x k = not_listed l (suc i) x (omega (arith, k))
not_listed (Some v ∷ l) i x k = ap (λ b. if b then Some v else slot_of (listed l (suc i)) x) (not_same x i (λ e. omega (arith, k, e))) ∙ not_listed l (suc i) x (omega (arith, k))

is_listed : (l : List (Option ℕ)) (i k x : ℕ) → x ≡ i + k → slot_of (listed l i) x ≡ recorded l k
is_listed [] i k x e = refl
is_listed (None ∷ l) i zero x e = not_listed l (suc i) x (omega (arith, e))
is_listed (None ∷ l) i (suc k) x e = is_listed l (suc i) k x (omega (arith, e))
is_listed (Some v ∷ l) i zero x e = ap (λ b. if b then Some v else slot_of (listed l (suc i)) x) (eq-eqb x i (omega (arith, e)))
is_listed (Some v ∷ l) i (suc k) x e = ap (λ b. if b then Some v else slot_of (listed l (suc i)) x) (not_same x i (λ h. omega (arith, e, h))) ∙ is_listed l (suc i) k x (omega (arith, e))

abbrev pub list_told : Slots → List (ℕ × ℕ)
list_told S = listed S.table.items 0

pub tells_some : (S : Slots) → Tells S (list_told S)
tells_some S = λ x. is_listed S.table.items 0 x x (omega arith)

-- a table with one more slot tells the list with one more
pub tells_more : (S T : Slots) (l : List (ℕ × ℕ)) (v i : ℕ) → Tells S l → ((x : ℕ) → recorded T.table.items x ≡ (if nat_eq x v then Some i else recorded S.table.items x)) → Tells T ((v, i) ∷ l)
tells_more S T l v i h k = λ x. ap (λ o. if nat_eq x v then Some i else o) (h x) ∙ sym (k x)

pub tells_none : (S : Slots) → S.table.items ≡ [] → Tells S []
tells_none S e = λ x. ap (λ l. recorded l x) (sym e)
