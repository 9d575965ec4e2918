-- What all declarations keep is kept apart from spans.
use Rattle.std.proofs.Common.{◌≡◌, ℕ, suc, nat_le, Bool, true, false, ◌&&◌, if◌then◌else◌, List, [], ◌∷◌, map, Option, Some, None, Ok, Err, option_map, is_none, slice_get, refl, sym, ap, subst, ◌∙◌}
use Rattle.rx_core.specs.declared.types.Span.{Span}
use Rattle.rx_tree.specs.Plain as plain
use Rattle.rx_tree.specs.Plain.{Function, ItemTree, ProgramTree}
use Rattle.rx_tree.specs.Spans.{program_span}
use Rattle.rx_tree.specs.Erase.{erase_function, erase_item, erase_lifetime, erase_parameter, erase_program, erase_type, nowhere}
use Rattle.rx_graph_cycles.specs.Reaches.{FirstOnCycle, NoCycle}
use Rattle.rx_resolve_names.specs.Holding.{name_span}
use Rattle.rx_resolve_names.specs.declared.resolved.ItemNames.{ItemNames}
use Rattle.rx_typed.specs.Types.{Declarations, Declared}
use Rattle.rx_typed_declarations.specs.Held.{held_by_each}
use Rattle.rx_typed_declarations.specs.Sizes.{Sized}
use Rattle.rx_typeck_typed.specs.declared.fault.DeclareFault.{DeclareFault}
use Rattle.rx_typeck_typed.specs.Steps.{on_ok, Outcome}
use Rattle.rx_typeck_typed.specs.Limits.{all_fit, fits_at, item_fits, place_of, Limited}
use Rattle.rx_typeck_typed.specs.Programs.{all_derived, derived, derived_at, holds_copies, is_bare, is_nothing, main_fits, main_of, main_or, may_derive, Fits}
use Rattle.rx_check_laws.proofs.Cursors.{ap2}
use Rattle.rx_check_laws.proofs.Declared.{both_well, both_wrong, fits_like, on_like, turned, well_there, Agrees}

derived_like : (s t : Span) (b : Bool) → Agrees (derived_at s b) (derived_at t b)
derived_like s t true = both_well
derived_like s t false = both_wrong

item_derived : (D : Declarations) (o : Option Declared) (i : ItemTree) → Agrees (derived D o i) (derived D o (erase_item i))
item_derived D o (plain.rt_item s r) = both_well
item_derived D o (plain.struct_item s d) = derived_like _ _ (may_derive d.derives (holds_copies D o))
item_derived D o (plain.enum_item s d) = derived_like _ _ (may_derive d.derives (holds_copies D o))
item_derived D o (plain.function_item s f) = both_well

all_derived_like : (D : Declarations) (n : ℕ) (is : ProgramTree) → Agrees (all_derived D n is) (all_derived D n (map erase_item is))
all_derived_like D n [] = both_well
all_derived_like D n (i ∷ is) = on_like _ _ _ _ (item_derived D (slice_get D n) i) (λ u. all_derived_like D (suc n) is)

-- ---- main

nothing_same : {A B : Type 0} (f : A → B) (xs : List A) → is_nothing (map f xs) ≡ is_nothing xs
nothing_same f [] = refl
nothing_same f (x ∷ xs) = refl

absent_same : {A B : Type 0} (f : A → B) (o : Option A) → is_none (option_map f o) ≡ is_none o
absent_same f None = refl
absent_same f (Some a) = refl

bare_same : (f : Function) → is_bare (erase_function f) ≡ is_bare f
bare_same f = let a = nothing_same erase_lifetime f.lifetimes in let b = nothing_same erase_parameter f.params in let c = absent_same erase_type f.result in cc (a, b, c)

or_same : (b : Bool) (f : Function) (later : Option Function) → (if b then Some (erase_function f) else option_map erase_function later) ≡ option_map erase_function (if b then Some f else later)
or_same true f later = refl
or_same false f later = refl

main_same : (is : ProgramTree) → main_of (map erase_item is) ≡ option_map erase_function (main_of is)
main_same [] = refl
main_same (plain.rt_item s r ∷ is) = main_same is
main_same (plain.struct_item s d ∷ is) = main_same is
main_same (plain.enum_item s d ∷ is) = main_same is
main_same (plain.function_item s f ∷ is) = ap (main_or (plain.function_item nowhere (erase_function f))) (main_same is) ∙ or_same _ f (main_of is)

if_like : (b b' : Bool) (e e' : DeclareFault) → b ≡ b' → Agrees {A = Unit {0}} (if b then Ok tt else Err e) (if b' then Ok tt else Err e')
if_like b b' e e' h = subst (λ (c : Bool). Agrees {A = Unit {0}} (if b then Ok tt else Err e) (if c then Ok tt else Err e')) h (fits_like b e e')

main_like : (s t : Span) (o : Option Function) → Agrees (main_fits s o) (main_fits t (option_map erase_function o))
main_like s t None = both_wrong
main_like s t (Some f) = if_like (is_bare f) (is_bare (erase_function f)) _ _ (sym (bare_same f))

-- ---- limits

limit_like : (s t : Span) (b : Bool) → Agrees (fits_at s b) (fits_at t b)
limit_like s t true = both_well
limit_like s t false = both_wrong

all_fit_like : (P : ℕ → ℕ) (D : Declarations) (n : ℕ) (is : ProgramTree) → Agrees (all_fit P D n is) (all_fit P D n (map erase_item is))
all_fit_like P D n [] = both_well
all_fit_like P D n (i ∷ is) = on_like _ _ _ _ (limit_like (name_span i) (name_span (erase_item i)) (item_fits (P n) (slice_get D n))) (λ u. all_fit_like P D (suc n) is)

never_wrong : {A : Type 0} {a : A} {e : DeclareFault} → Ok a ≡ Err e → ⊥
never_wrong h = cc

limited_there : (p q : ProgramTree) (D : Declarations) → ((P : ℕ → ℕ) → Agrees (all_fit P D 0 p) (all_fit P D 0 q)) → Limited p D (Ok tt) → Limited q D (Ok tt)
limited_there p q D h l = record { endless = λ n c. absurd (never_wrong (l.endless n c)); each = λ no P z. sym (well_there tt (h P) (sym (l.each no P z))) }

pub fits_without : (p : ProgramTree) (D : Declarations) → Fits p D → Fits (erase_program p) D
fits_without p D f = record {
  numbered = f.numbered;
  derived_well = well_there tt (all_derived_like D 0 p) f.derived_well;
  limited = limited_there p (erase_program p) D (λ P. all_fit_like P D 0 p) f.limited;
  has_main = well_there tt (subst (λ (o : Option Function). Agrees (main_fits (program_span p) (main_of p)) (main_fits (program_span (erase_program p)) o)) (sym (main_same p)) (main_like _ _ (main_of p))) f.has_main;
}

pub fits_with : (p : ProgramTree) (D : Declarations) → Fits (erase_program p) D → Fits p D
fits_with p D f = record {
  numbered = f.numbered;
  derived_well = well_there tt (turned (all_derived_like D 0 p)) f.derived_well;
  limited = limited_there (erase_program p) p D (λ P. turned (all_fit_like P D 0 p)) f.limited;
  has_main = well_there tt (turned (subst (λ (o : Option Function). Agrees (main_fits (program_span p) (main_of p)) (main_fits (program_span (erase_program p)) o)) (sym (main_same p)) (main_like _ _ (main_of p)))) f.has_main;
}
