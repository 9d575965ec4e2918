-- What is left of a list from a place on.
use Rattle.std.proofs.Common.{◌≡◌, ℕ, zero, suc, ◌+◌, List, [], ◌∷◌, Option, Some, None, drop, slice_get, refl, sym, ap, ◌∙◌, true≢false, is_none, arith}
use Rattle.rx_resolve_names.specs.declared.table.NumberedName.{NumberedName}
use Rattle.rx_resolve_names.specs.Scopes.{DeclaredNames, Variables, entered}

pub drop_one_more : {A : Type 0} (k : ℕ) (l : List A) → drop 1 (drop k l) ≡ drop (suc k) l
drop_one_more zero l = refl
drop_one_more (suc k) [] = refl
drop_one_more (suc k) (x ∷ l) = drop_one_more k l

-- at a place with an item
pub drop_at : {A : Type 0} (l : List A) (k : ℕ) (x : A) → slice_get l k ≡ Some x → drop k l ≡ x ∷ drop (suc k) l
drop_at [] k x h = absurd (true≢false (ap is_none h))
drop_at {A = A} (y ∷ l) zero x h = ap (λ o. by o) h
  where
    by : Option A → List A
    by None = y ∷ l
    by (Some z) = z ∷ l
drop_at (y ∷ l) (suc k) x h = drop_at l k x h

-- past its end
pub drop_past : {A : Type 0} (l : List A) (k : ℕ) → slice_get l k ≡ None → drop k l ≡ []
drop_past [] zero h = refl
drop_past [] (suc k) h = refl
drop_past (y ∷ l) zero h = absurd (true≢false (sym (ap is_none h)))
drop_past (y ∷ l) (suc k) h = drop_past l k h

-- one more name of a list enters the scope
pub enters_next : (vs new : Variables) (ds : DeclaredNames) (k : ℕ) (d : List ℕ × NumberedName) → slice_get ds k ≡ Some d → new ≡ record { name = d.0; number = d.1.number } ∷ vs
    → entered new (drop (k + 1) ds) ≡ entered vs (drop k ds)
enters_next vs new ds k d at is = ap (λ n. entered n (drop (k + 1) ds)) is ∙ sym (ap (entered vs) (drop_at ds k d at ∙ ap (λ n. d ∷ drop n ds) one))
  where
    one : suc k ≡ k + 1
    one = omega arith

pub enters_none : (vs : Variables) (ds : DeclaredNames) (k : ℕ) → slice_get ds k ≡ None → entered vs (drop (k + 1) ds) ≡ entered vs (drop k ds)
enters_none vs ds k at = ap (entered vs) (ap (λ n. drop n ds) one ∙ sym (drop_one_more k ds) ∙ ap (drop 1) (drop_past ds k at) ∙ sym (drop_past ds k at))
  where
    one : k + 1 ≡ suc k
    one = omega arith
