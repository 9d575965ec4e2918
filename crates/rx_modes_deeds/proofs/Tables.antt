-- Tables by variable: one that goes further says the same, and what is noted of a variable is noted of that one alone.
use mathlib.Core.Path.{fun_ext}
use Rattle.std.proofs.Common.{◌≡◌, refl, sym, ap, ◌∙◌, ◌==◌, ℕ, zero, suc, ◌<◌, Bool, true, false, true≢false, if◌then◌else◌, List, [], ◌∷◌, ◌++◌, length, get_or, subst}
use Rattle.std.proofs.Math.ListN.{set}
use Rattle.std.proofs.lemmas.Bool.{eq-eqb, eqb-true}
use Rattle.std.proofs.lemmas.List.{get_or-set_same, get_or-set_other, get_or_read}
use Rattle.rx_modes_deeds.specs.declared.deeds.Deeds.{Deeds}
use Rattle.rx_modes_deeds.specs.Doings.{both, nothing_done, deeds_at}

grown_at : (l : List Deeds) (x : ℕ) → deeds_at (l ++ nothing_done ∷ []) x ≡ deeds_at l x
grown_at [] zero = refl
grown_at [] (suc x) = refl
grown_at (d ∷ l) zero = refl
grown_at (d ∷ l) (suc x) = grown_at l x

pub grown : (l m : List Deeds) (d : Deeds) → m ≡ l ++ d ∷ [] → d ≡ nothing_done → deeds_at m ≡ deeds_at l
grown l m d e n = ap deeds_at (e ∙ ap (λ v. l ++ v ∷ []) n) ∙ fun_ext (grown_at l)

added_at : (l : List Deeds) (i : ℕ) (d v : Deeds) → i < length l → v ≡ get_or l i v → (x : ℕ)
    → deeds_at (set l i (both d v)) x ≡ both (if i == x then d else nothing_done) (deeds_at l x)
added_at l i d v less e x = by (i == x) refl
  where
    by : (b : Bool) → (i == x) ≡ b → deeds_at (set l i (both d v)) x ≡ both (if b then d else nothing_done) (deeds_at l x)
    by true is_so =
        let s : i ≡ x = eqb-true i x is_so in
        subst (λ y. deeds_at (set l i (both d v)) y ≡ both d (deeds_at l y)) s
        (get_or-set_same l i (both d v) nothing_done less ∙ ap (both d) (get_or_read l i v less e nothing_done))
    by false is_not = get_or-set_other l i x (both d v) nothing_done (λ s. true≢false (sym (eq-eqb i x (sym s)) ∙ is_not))

pub added : (t l : List Deeds) (i : ℕ) (d v n : Deeds) → i < length l → deeds_at l ≡ deeds_at t → v ≡ get_or l i v → n ≡ both d v
    → deeds_at (set l i n) ≡ (λ x. both (if i == x then d else nothing_done) (deeds_at t x))
added t l i d v n less same e is =
    let over : (ℕ → Deeds) → ℕ → Deeds = λ f x. both (if i == x then d else nothing_done) (f x) in
    ap (λ m. deeds_at (set l i m)) is ∙ fun_ext (added_at l i d v less e) ∙ ap over same
