-- Where the limits are kept, a table of sizes in 64 bits has the sizes themselves.
use Rattle.std.proofs.Common.{◌≡◌, ◌⊎◌, inl, inr, ℕ, zero, suc, ◌+◌, ◌<◌, ◌≤◌, Bool, true, false, ◌&&◌, nat_le, List, [], ◌∷◌, length, Option, Some, None, Result, Ok, Err, slice_get, refl, sym, ap, ◌∙◌, subst, arith, true≢false}
use Rattle.std.proofs.lemmas.List.{length-map, get_or_past}
use Rattle.std.proofs.lemmas.Option.{slice_get_past, get_or_from_slice_get}
use Rattle.std.proofs.lemmas.Bool.{cases_lt, leb-true}
use mathlib.Core.Path.{fun_ext}
use Rattle.rx_core.specs.declared.types.Span.{Span}
use Rattle.rx_tree.specs.Plain.{ProgramTree}
use Rattle.rx_resolve_names.specs.Holding.{name_span}
use Rattle.rx_resolve_names.specs.declared.resolved.ItemNames.{ItemNames}
use Rattle.rx_graph_cycles.specs.Reaches.{NoCycle}
use Rattle.rx_typed.specs.declared.declarations.Decl.{Decl}
use Rattle.rx_typed.specs.Types.{Declared, Declarations}
use Rattle.rx_typed.specs.PlainTypes.{plain-Decl, declarations}
use Rattle.rx_typed_declarations.specs.Held.{held_by_each}
use Rattle.rx_typed_declarations.specs.Sizes.{declared_parts, Sized, capped, IsSizes, told}
use Rattle.rx_typeck_typed.specs.declared.fault.DeclareFault.{DeclareFault}
use Rattle.rx_typeck_typed.specs.Steps.{Outcome, on_ok}
use Rattle.rx_typeck_typed.specs.Items.{declared_items, declared_item, entries_of}
use Rattle.rx_typeck_typed.specs.Limits.{item_fits, levels_fit, fits_at, all_fit}
use Rattle.rx_typeck_typed.specs.Programs.{Fits, Declares}

read_ok : {A B : Type 0} (m : Outcome A) (f : A → Outcome B) (b : B) → on_ok m f ≡ Ok b → (a : A) × (m ≡ Ok a) × (f a ≡ Ok b)
read_ok (Ok a) f b e = (a, refl, e)
read_ok (Err x) f b e = absurd (cc)

one_list : (x y : List Decl) (e : Result (List Decl) DeclareFault) → e ≡ Ok x → e ≡ Ok y → x ≡ y
one_list x y e h k = cc

-- as many declarations as items
as_many : (p : ProgramTree) (ns : List ItemNames) (n : ℕ) (is : ProgramTree) (ds : List Decl) → declared_items p ns n is ≡ Ok ds → length ds ≡ length is
as_many p ns n [] [] e = refl
as_many p ns n [] (d ∷ ds) e = absurd (cc)
as_many p ns n (i ∷ is) ds e =
    let a = read_ok (declared_item p (entries_of (slice_get ns n)) i) (λ d. on_ok (declared_items p ns (suc n) is) (λ ds. Ok (d ∷ ds))) ds e in
    let b = read_ok (declared_items p ns (suc n) is) (λ ds. Ok (a.0 ∷ ds)) ds a.2 in
    let c : a.0 ∷ b.0 ≡ ds = one_list (a.0 ∷ b.0) ds (Ok (a.0 ∷ b.0)) refl b.2 in
    sym (ap (λ (l : List Decl). length l) c) ∙ ap suc (as_many p ns (suc n) is b.0 b.1)

fits : (s : Span) (b : Bool) (u : Unit {0}) → fits_at s b ≡ Ok u → b ≡ true
fits s true u e = refl
fits s false u e = absurd (cc)

each_fits : (P : ℕ → ℕ) (D : Declarations) (n : ℕ) (is : ProgramTree) (u : Unit {0}) → all_fit P D n is ≡ Ok u → (j : ℕ) → j < length is
    → item_fits (P (n + j)) (slice_get D (n + j)) ≡ true
each_fits P D n [] u e j h = absurd (omega (arith, h))
each_fits P D n (i ∷ is) u e zero h =
    let a = read_ok (fits_at (name_span i) (item_fits (P n) (slice_get D n))) (λ _. all_fit P D (suc n) is) u e in
    let z : n ≡ n + 0 = omega arith in
    subst (λ k. item_fits (P k) (slice_get D k) ≡ true) z (fits (name_span i) (item_fits (P n) (slice_get D n)) a.0 a.1)
each_fits P D n (i ∷ is) u e (suc j) h =
    let a = read_ok (fits_at (name_span i) (item_fits (P n) (slice_get D n))) (λ _. all_fit P D (suc n) is) u e in
    let z : suc n + j ≡ n + suc j = omega arith in
    subst (λ k. item_fits (P k) (slice_get D k) ≡ true) z (each_fits P D (suc n) is u a.2 j (omega (arith, h)))

small : (n : ℕ) (o : Option Declared) (d : Declared) → o ≡ Some d → item_fits n o ≡ true → n ≤ 4096
small n None d e h = absurd (cc)
small n (Some x) d e h = leb-true n 4096 (first (nat_le n 4096) (levels_fit x) h)
  where
    first : (a b : Bool) → (a && b) ≡ true → a ≡ true
    first true b h = refl
    first false b h = absurd (true≢false (sym h))

module _ (finite : (p : ProgramTree) (D : Declarations) → Fits p D → NoCycle (held_by_each D)) (some : (D : Declarations) → NoCycle (held_by_each D) → (P : ℕ → ℕ) × Sized D P)
    (p : ProgramTree) (ns : List ItemNames) (ds : List Decl) (sizes : List ℕ) (declares : Declares p ns ds) (is_sizes : IsSizes (declarations ds) sizes) where
  abbrev D : Declarations
  D = declarations ds

  apart : NoCycle (held_by_each D)
  apart = finite p D declares.fits

  abbrev P : ℕ → ℕ
  P = (some D apart).0

  sized : Sized D P
  sized = (some D apart).1

  same : (i : ℕ) → told sizes i ≡ P i
  same i = by (cases_lt i (length D))
    where
      within : i < length D → told sizes i ≡ P i
      within h =
          let t : told sizes i ≡ capped (P i) = get_or_from_slice_get sizes i (capped (P i)) 1 (is_sizes.each P sized i h) in
          let n : length D ≡ length p = length-map ds plain-Decl ∙ as_many p ns 0 p ds declares.items in
          let f = each_fits P D 0 p tt (sym (declares.fits.limited.each apart P sized)) i (omega (arith, h, n)) in
          let d = there D i h in
          let z : 0 + i ≡ i = omega arith in
          let k = small (P i) (slice_get D i) d.0 d.1 (subst (λ k. item_fits (P k) (slice_get D k) ≡ true) z f) in
          omega (arith, t, k)
        where
          there : (D : Declarations) (i : ℕ) → i < length D → (d : Declared) × (slice_get D i ≡ Some d)
          there [] i h = absurd (omega (arith, h))
          there (d ∷ D) zero h = (d, refl)
          there (d ∷ D) (suc i) h = there D i (omega (arith, h))

      by : (i < length D) ⊎ (length D ≤ i) → told sizes i ≡ P i
      by (inl h) = within h
      by (inr h) = get_or_past sizes i 1 (omega (arith, h, is_sizes.whole)) ∙ sym (sized i ∙ ap (declared_parts P) (slice_get_past D i h))

  pub exact : Sized D (told sizes)
  exact i = let e : told sizes ≡ P = fun_ext same in subst (λ (Q : ℕ → ℕ). Q i ≡ declared_parts Q (slice_get D i)) (sym e) (sized i)
