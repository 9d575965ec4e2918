-- Tables that are written, and those that are told, end with their last entry.
use Rattle.std.proofs.Common.{◌≡◌, ◌⊎◌, ℕ, zero, suc, ◌+◌, ◌<◌, ◌≤◌, List, [], ◌∷◌, length, set, Option, Some, None, refl, sym, subst, inl, inr, arith}
use Rattle.std.specs.Prelude.{IsSome}
use Rattle.rx_core.specs.declared.types.Ty.{Ty}
use Rattle.rx_typed.specs.Types.{Declarations}
use Rattle.rx_typeck_solver.specs.declared.solver.Solved.{Solved}
use Rattle.rx_typeck_solver.specs.Trimmed.{LastIsThere, IsTrimmed}
use Rattle.rx_typeck_solver.specs.Views.{EntryTyped, TableTyped}

-- ---- an entry is written within

there_first : {A : Type 0} (e : Option A) (es : List (Option A)) (x : A) → LastIsThere e es → LastIsThere (Some x) es
there_first e [] x h = refl
there_first e (f ∷ fs) x h = h

there_behind : {A : Type 0} (e : Option A) (es : List (Option A)) (n : ℕ) (x : A) → LastIsThere e es → LastIsThere e (set es n (Some x))
there_behind e [] n x h = h
there_behind e (f ∷ fs) zero x h = there_first f fs x h
there_behind e (f ∷ fs) (suc n) x h = there_behind f fs n x h

trimmed_within : {A : Type 0} (es : List (Option A)) (n : ℕ) (x : A) → IsTrimmed es → IsTrimmed (set es n (Some x))
trimmed_within [] n x h = tt
trimmed_within (e ∷ es) zero x h = there_first e es x h
trimmed_within (e ∷ es) (suc n) x h = there_behind e es n x h

-- ---- the last one is

there_last : {A : Type 0} (e : Option A) (es : List (Option A)) (n : ℕ) (x : A) → n < length es → length es ≤ n + 1 → LastIsThere e (set es n (Some x))
there_last e [] n x h k = absurd (omega arith)
there_last e (f ∷ []) zero x h k = refl
there_last e (f ∷ g ∷ gs) zero x h k = absurd (omega arith)
there_last e (f ∷ fs) (suc n) x h k = there_last f fs n x (omega arith) (omega arith)

trimmed_last : {A : Type 0} (es : List (Option A)) (n : ℕ) (x : A) → n < length es → length es ≤ n + 1 → IsTrimmed (set es n (Some x))
trimmed_last [] n x h k = absurd (omega arith)
trimmed_last (e ∷ []) zero x h k = refl
trimmed_last (e ∷ f ∷ fs) zero x h k = absurd (omega arith)
trimmed_last (e ∷ es) (suc n) x h k = there_last e es n x (omega arith) (omega arith)

-- in a table that was made longer only as far as needed
pub trimmed_set : {A : Type 0} (old es : List (Option A)) (n : ℕ) (x : A) → n < length es → (es ≡ old) ⊎ (length es ≤ n + 1) → IsTrimmed old → IsTrimmed (set es n (Some x))
trimmed_set old es n x less (inl same) h = trimmed_within es n x (subst (λ l. IsTrimmed l) (sym same) h)
trimmed_set old es n x less (inr long) h = trimmed_last es n x less long

-- ---- a table is told

module _ (s : Solved) (D : Declarations) where
  told_there : (e : Option ℕ) (t : Option Ty) → EntryTyped s D e t → IsSome e → IsSome t
  told_there None t h k = absurd (cc)
  told_there (Some i) t h k = subst (λ o. IsSome o) (sym h.1) refl

  told_last : (e : Option ℕ) (es : List (Option ℕ)) (t : Option Ty) (ts : List (Option Ty)) → EntryTyped s D e t → TableTyped s D es ts → LastIsThere e es → LastIsThere t ts
  told_last e [] t [] h k l = told_there e t h l
  told_last e [] t (u ∷ us) h k l = absurd k
  told_last e (f ∷ fs) t [] h k l = absurd k
  told_last e (f ∷ fs) t (u ∷ us) h k l = told_last f fs u us k.0 k.1 l

  pub trimmed_told : (es : List (Option ℕ)) (ts : List (Option Ty)) → TableTyped s D es ts → IsTrimmed es → IsTrimmed ts
  trimmed_told [] [] h k = tt
  trimmed_told [] (t ∷ ts) h k = absurd h
  trimmed_told (e ∷ es) [] h k = absurd h
  trimmed_told (e ∷ es) (t ∷ ts) h k = told_last e es t ts h.0 h.1 k
