-- Declarations are plainly the same, whatever polarities are recorded.
use Rattle.std.proofs.Common.{◌≡◌, ◌↔◌, ℕ, zero, suc, List, [], ◌∷◌, map, length, slice_get, option_map, Option, Some, None, refl, sym, ap, ◌∙◌}
use Rattle.std.proofs.Common.{subst, arith}
use Rattle.std.proofs.lemmas.Option.{slice_get-map}
use Rattle.rx_typed.specs.declared.declarations.Polarity.{Polarity}
use Rattle.rx_typed.specs.declared.declarations.Polarity.TheVariants.{Co, Inv}
use Rattle.rx_typed.specs.Regions.{held_regions, regions}
use Rattle.rx_typed.specs.declared.declarations.Decl.{Decl}
use Rattle.rx_typed.specs.declared.declarations.Decl.TheVariants as decl
use Rattle.rx_typed.specs.PlainTypes.{plain-Decl, declarations}
use Rattle.rx_typed_declarations.specs.Variance.{polarity, recording, unrecorded, variances_recorded, polarity_count}
use Rattle.rx_typed_declarations.specs.Variance.{Invariant, Recorded, AsMany}

unrecorded_plain : (d : Decl) → plain-Decl (unrecorded d) ≡ plain-Decl d
unrecorded_plain decl.Rt = refl
unrecorded_plain (decl.Struct c l vs fs) = refl
unrecorded_plain (decl.Enum c l vs ds) = refl
unrecorded_plain (decl.Func l ps t bs) = refl

unrecorded_declared : (ds : List Decl) → declarations (map unrecorded ds) ≡ declarations ds
unrecorded_declared [] = refl
unrecorded_declared (d ∷ ds) = (λ i. unrecorded_plain d i ∷ unrecorded_declared ds i)

pub same_declared : (a b : List Decl) → map unrecorded a ≡ map unrecorded b → declarations a ≡ declarations b
same_declared a b e = sym (unrecorded_declared a) ∙ ap declarations e ∙ unrecorded_declared b

-- ---- where as many polarities are recorded as there are lifetimes, they are the only ones

unrecorded_held : (d : Decl) → held_regions (unrecorded d) ≡ held_regions d
unrecorded_held decl.Rt = refl
unrecorded_held (decl.Struct c l vs fs) = refl
unrecorded_held (decl.Enum c l vs ds) = refl
unrecorded_held (decl.Func l ps t bs) = refl

unrecorded_regions : (ds : List Decl) → regions (map unrecorded ds) ≡ regions ds
unrecorded_regions [] = refl
unrecorded_regions (d ∷ ds) = (λ i. unrecorded_held d i ∷ unrecorded_regions ds i)

same_regions : (a b : List Decl) → map unrecorded a ≡ map unrecorded b → regions a ≡ regions b
same_regions a b e = sym (unrecorded_regions a) ∙ ap regions e ∙ unrecorded_regions b

one_polarity : (p q : Polarity) → (p ≡ Inv) ↔ (q ≡ Inv) → p ≡ q
one_polarity Co Co h = refl
one_polarity Co Inv h = absurd (let e : Co ≡ Inv = h.1 refl in cc)
one_polarity Inv Co h = absurd (let e : Co ≡ Inv = h.0 refl in cc)
one_polarity Inv Inv h = refl

one_list : (ps qs : List Polarity) → length ps ≡ length qs → ((k : ℕ) → (polarity ps k ≡ Inv) ↔ (polarity qs k ≡ Inv)) → ps ≡ qs
one_list [] [] e h = refl
one_list [] (q ∷ qs) e h = absurd (omega arith)
one_list (p ∷ ps) [] e h = absurd (omega arith)
one_list (p ∷ ps) (q ∷ qs) e h = (λ i. one_polarity p q (h zero) i ∷ one_list ps qs (omega arith) (λ k. h (suc k)) i)

count_unrecorded : (o : Option Decl) → polarity_count (option_map unrecorded o) ≡ polarity_count o
count_unrecorded None = refl
count_unrecorded (Some decl.Rt) = refl
count_unrecorded (Some (decl.Struct c l vs fs)) = refl
count_unrecorded (Some (decl.Enum c l vs ds)) = refl
count_unrecorded (Some (decl.Func l ps t bs)) = refl

same_count : (a b : List Decl) → map unrecorded a ≡ map unrecorded b → (i : ℕ) → polarity_count (slice_get a i) ≡ polarity_count (slice_get b i)
same_count a b e i =
    sym (count_unrecorded (slice_get a i))
    ∙ ap polarity_count (sym (slice_get-map unrecorded a i) ∙ ap (λ l. slice_get l i) e ∙ slice_get-map unrecorded b i)
    ∙ count_unrecorded (slice_get b i)

recorded_again : (d : Decl) → recording (unrecorded d) (variances_recorded (Some d)) ≡ d
recorded_again decl.Rt = refl
recorded_again (decl.Struct c l vs fs) = refl
recorded_again (decl.Enum c l vs ds) = refl
recorded_again (decl.Func l ps t bs) = refl

one_each : (a b : List Decl) → map unrecorded a ≡ map unrecorded b → ((i : ℕ) → variances_recorded (slice_get a i) ≡ variances_recorded (slice_get b i)) → a ≡ b
one_each [] [] e h = refl
one_each [] (d ∷ b) e h = absurd (cc)
one_each (d ∷ a) [] e h = absurd (cc)
one_each (d ∷ a) (x ∷ b) e h =
    let first : unrecorded d ≡ unrecorded x = cc in
    let rest : map unrecorded a ≡ map unrecorded b = cc in
    let same : d ≡ x = sym (recorded_again d) ∙ (λ i. recording (first i) (h zero i)) ∙ recorded_again x in
    (λ i. same i ∷ one_each a b rest (λ n. h (suc n)) i)

pub one_recording : (a b : List Decl) → map unrecorded a ≡ map unrecorded b → Recorded a → AsMany a → Recorded b → AsMany b → a ≡ b
one_recording a b e ra ma rb mb = one_each a b e (λ i.
    one_list (variances_recorded (slice_get a i)) (variances_recorded (slice_get b i)) (ma i ∙ same_count a b e i ∙ sym (mb i))
    (λ k. (
      λ p. (rb i k).1 (subst (λ H. Invariant H i k) (same_regions a b e) ((ra i k).0 p)),
      λ p. (ra i k).1 (subst (λ H. Invariant H i k) (sym (same_regions a b e)) ((rb i k).0 p)),
    )))
