-- What the type of a variable and its declaration say, as the uses ask.
use Rattle.std.proofs.Common.{◌≡◌, refl, sym, ap, ◌∙◌, ℕ, Bool, true, false, true≢false, List, Option, Some, None, slice_get}
use Rattle.std.specs.Bool.{Decides}
use Rattle.rx_typed.specs.Types.{Typ, integer, boolean, tuple_of, reference, named, Declarations, copies}
use Rattle.rx_exits_plan.specs.Asked.{Asked}
use Rattle.rx_modes_uses.specs.Uses.{IsCopy, IsMutableReference, IsDeclaredMut}
use Rattle.rx_modes.specs.Told.{is_copy, is_mutable_reference, is_mut}

never : {P : Type 0} → false ≡ true → P
never e = absurd (true≢false (sym e))

copied : (D : Declarations) (o : Option (Option Typ)) → is_copy D o ≡ true → (t : Typ) × (o ≡ Some (Some t)) × (copies D t ≡ true)
copied D None e = never e
copied D (Some None) e = never e
copied D (Some (Some t)) e = (t, refl, e)

referred : (o : Option (Option Typ)) → is_mutable_reference o ≡ true → (t : Typ) × (o ≡ Some (Some (reference true t)))
referred None e = never e
referred (Some None) e = never e
referred (Some (Some (integer k))) e = never e
referred (Some (Some boolean)) e = never e
referred (Some (Some (tuple_of ts))) e = never e
referred (Some (Some (reference true t))) e = (t, refl)
referred (Some (Some (reference false t))) e = never e
referred (Some (Some (named i))) e = never e

mut_there : (o : Option Bool) → is_mut o ≡ true → o ≡ Some true
mut_there None e = never e
mut_there (Some true) e = refl
mut_there (Some false) e = never e

module _ (A : Asked) (ts : List (Option Typ)) (x : ℕ) (types : A.frame.types ≡ ts) where
  typed_at : slice_get A.frame.types x ≡ slice_get ts x
  typed_at = ap (λ l. slice_get l x) types

  pub copy_told : (D : Declarations) → A.frame.declared ≡ D → Decides (is_copy D (slice_get ts x)) (IsCopy A x)
  copy_told D d = (such, λ h. ap (is_copy D) (sym typed_at ∙ h.1) ∙ (ap (λ E. copies E h.0) (sym d) ∙ h.2))
    where
      such : is_copy D (slice_get ts x) ≡ true → IsCopy A x
      such e = let h = copied D (slice_get ts x) e in (h.0, typed_at ∙ h.1, ap (λ E. copies E h.0) d ∙ h.2)

  pub reference_told : Decides (is_mutable_reference (slice_get ts x)) (IsMutableReference A x)
  reference_told = (such, λ h. ap is_mutable_reference (sym typed_at ∙ h.1))
    where
      such : is_mutable_reference (slice_get ts x) ≡ true → IsMutableReference A x
      such e = let h = referred (slice_get ts x) e in (h.0, typed_at ∙ h.1)

pub mut_told : (muts : List Bool) (x : ℕ) → Decides (is_mut (slice_get muts x)) (IsDeclaredMut muts x)
mut_told muts x = (mut_there (slice_get muts x), λ e. ap is_mut e)
