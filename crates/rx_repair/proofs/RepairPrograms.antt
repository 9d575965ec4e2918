-- A program that is accepted is so with the least bounds of a function: the function itself, since each of its solutions needs them;
-- its callers, since what each of its solutions needs is known where it is accepted, and so is said by the signature that it had.
use Rattle.std.proofs.Common.{◌≡◌, ◌↔◌, inl, inr, ℕ, zero, suc, true, List, [], ◌∷◌, ◌++◌, Option, Some, None, option_map, slice_get, get_or, refl, sym, ap, subst, ◌∙◌, length}
use Rattle.rx_core.specs.declared.types.Bound.{Bound}
use Rattle.rx_typed.specs.declared.declarations.Decl.{Decl}
use Rattle.rx_typed.specs.declared.declarations.Decl.TheVariants as decl
use Rattle.rx_core.specs.declared.types.Ty.{Ty}
use Rattle.rx_typed.specs.Types.{Declarations}
use Rattle.rx_typed.specs.PlainTypes.{declarations}
use Rattle.rx_typed.specs.Regions.{RegionTyp, regions}
use Rattle.rx_typed_declarations.specs.WellFormed.{WellSigned, bounds_fit}
use Rattle.rx_typed.specs.Renaming.{unit_region}
use Rattle.rx_tree.specs.Plain.{ProgramTree}
use Rattle.rx_resolve_names.specs.declared.resolved.ItemNames.{ItemNames}
use Rattle.rx_lower_walks.specs.Walks.{Among}
use Rattle.rx_lower_walks.specs.Walks as walks
use Rattle.rx_lower_lifetimes.specs.Values.{lifetimes_of}
use Rattle.rx_lower_lifetimes.specs.Lowered.{parameters}
use Rattle.rx_region_outlives.specs.Implied.{HasPair, ImpliesOf, implied_in}
use Rattle.rx_region_outlives.proofs.ImpliedLemmas.{has_front, has_behind, has_either, implied_told}
use Rattle.rx_region.specs.Constraints.{Context}
use Rattle.rx_region.specs.Solutions.{end}
use Rattle.rx_region.specs.Known.{parameters_ask}
use Rattle.rx_region.proofs.LeastLaws.{least_serves, least_is_within}
use Rattle.rx_typeck_typed.specs.declared.typed.Typed.{Typed}
use Rattle.rx_typeck_typed.specs.declared.typed.TypedFn.{TypedFn}
use Rattle.rx_typeck_typed.specs.Typing.{IsTyped}
use Rattle.rx_facts.specs.Functions.{body, sites_of}
use Rattle.rx_facts.specs.Passing.{AllAre}
use Rattle.rx_check.specs.Contexts.{AreAsked, context_of}
use Rattle.rx_check.specs.Functions.{Borrows}
use Rattle.rx_check.specs.Answers.{AllBorrow}
use Rattle.rx_check.proofs.Settling.{any_pairs}
use Rattle.rx_repair.specs.Bounded.{bounded, with_bounds, IsFunction, IsBounded}
use Rattle.rx_repair.specs.Calls.{CallsNotItself}
use Rattle.rx_repair.specs.LeastBounds.{by_types, IsLeastBound, AreLeastBounds}
use Rattle.rx_repair.specs.Signatures.{signature_says}
use Rattle.rx_repair.proofs.Accepting.{known_follows, least_accepted}
use Rattle.rx_repair.proofs.Callers.{AllFollow, caller_accepted}
use Rattle.rx_repair.proofs.Deciding.{same_or, follows_more}
use Rattle.rx_repair.proofs.Existing.{least_sets, are_least}
use Rattle.rx_repair.proofs.Observed.{at_item, parameters_at, regions_same}
use Rattle.rx_repair.proofs.OtherBounds.{same_needed}
use Rattle.rx_repair.proofs.Parameters.{Fitting, fitting}
use Rattle.rx_repair.proofs.Saying.{follows_said}
use Rattle.rx_repair.proofs.Typings.{only_one, as_many, a_function}

-- ---- by any lists of the pairs that fields ask

module _ (D : List Decl) (P Q : ℕ → List Bound) (asked : AreAsked D P) (other : AreAsked D Q) (f : TypedFn) where
  abbrev first : Context
  first = context_of D P f

  abbrev second : Context
  second = context_of D Q f

  implied_too : (t : RegionTyp) (l k : ℕ) → HasPair (implied_in Q t) l k → HasPair (implied_in P t) l k
  implied_too t l k h = (implied_told (regions D) P t (λ i n. asked i) l k).1 ((implied_told (regions D) Q t (λ i n. other i) l k).0 h)

  parameters_too : (xs : List ℕ) (l k : ℕ) → HasPair (parameters_ask second xs) l k → HasPair (parameters_ask first xs) l k
  parameters_too [] l k h = h
  parameters_too (x ∷ xs) l k h = elim (has_either (implied_in Q (get_or first.lifetimes.types x unit_region)) (parameters_ask second xs) l k h) [
    | inl a ↦ has_front (implied_in P (get_or first.lifetimes.types x unit_region)) (parameters_ask first xs) l k (implied_too (get_or first.lifetimes.types x unit_region) l k a)
    | inr b ↦ has_behind (implied_in P (get_or first.lifetimes.types x unit_region)) (parameters_ask first xs) l k (parameters_too xs l k b)
  ]

  by_types_too : (l k : ℕ) → HasPair (by_types second) l k → HasPair (by_types first) l k
  by_types_too l k h = elim (has_either (parameters_ask second second.lifetimes.params) (implied_in Q second.lifetimes.answer) l k h) [
    | inl a ↦ has_front (parameters_ask first first.lifetimes.params) (implied_in P first.lifetimes.answer) l k (parameters_too first.lifetimes.params l k a)
    | inr b ↦ has_behind (parameters_ask first first.lifetimes.params) (implied_in P first.lifetimes.answer) l k (implied_too first.lifetimes.answer l k b)
  ]

  pub bound_by_any : (l k : ℕ) → IsLeastBound first (sites_of f) l k → IsLeastBound second (sites_of f) l k
  bound_by_any l k b =
      let R = least_sets first (sites_of f) in
      let least = are_least first (sites_of f) in
      let there = (any_pairs D P Q asked other f R least l (end k)).0 (b.needed R (least_serves first (sites_of f) R least)) in
      record {
        long = b.long;
        short = b.short;
        different = b.different;
        needed = λ S s. least_is_within second (sites_of f) S s l (end k) there;
        unknown = λ w. b.unknown (follows_more (by_types second) (by_types first) by_types_too l k w);
      }

pub list_by_any : (D : List Decl) (P Q : ℕ → List Bound) → AreAsked D P → AreAsked D Q → (f : TypedFn) (bs : List Bound) → AreLeastBounds (context_of D P f) (sites_of f) bs → AreLeastBounds (context_of D Q f) (sites_of f) bs
list_by_any D P Q asked other f bs are = record {
  exact = λ l k. (λ h. bound_by_any D P Q asked other f l k ((are.exact l k).0 h), λ b. (are.exact l k).1 (bound_by_any D Q P other asked f l k b));
  ordered = are.ordered;
}

-- ---- with other bounds twice

bounded_twice : (bs cs : List Bound) (d : Decl) → bounded cs (bounded bs d) ≡ bounded cs d
bounded_twice bs cs decl.Rt = refl
bounded_twice bs cs (decl.Struct c l vs fs) = refl
bounded_twice bs cs (decl.Enum c l vs ds) = refl
bounded_twice bs cs (decl.Func l ps t old) = refl

with_twice : (D : List Decl) (i : ℕ) (bs cs : List Bound) → with_bounds (with_bounds D i bs) i cs ≡ with_bounds D i cs
with_twice [] i bs cs = refl
with_twice (d ∷ D) zero bs cs = ap (λ (x : Decl). x ∷ D) (bounded_twice bs cs d)
with_twice (d ∷ D) (suc i) bs cs = ap (λ (l : List Decl). d ∷ l) (with_twice D i bs cs)

-- a signature fits with bounds of its lifetimes
fitting_with : (E : Declarations) (bs : List Bound) (o : Option Decl) → bounds_fit (lifetimes_of o) bs ≡ true → Fitting E o → Fitting E (option_map (bounded bs) o)
fitting_with E bs None e f = f
fitting_with E bs (Some decl.Rt) e f = f
fitting_with E bs (Some (decl.Struct c l vs fs)) e f = f
fitting_with E bs (Some (decl.Enum c l vs ds)) e f = f
fitting_with E bs (Some (decl.Func l ps t old)) e f = record { params = f.params; answer = f.answer; bounds = e }

-- ---- a program

each_mapped : {A : Type 0} (G H : A → Type 0) (xs : List A) → ((a : A) → Among a xs → G a → H a) → AllAre G xs → AllAre H xs
each_mapped G H [] k h = tt
each_mapped G H (a ∷ xs) k h = (k a walks.here h.0, each_mapped G H xs (λ b w. k b (walks.there w)) h.1)

one_of_all : {A : Type 0} (G : A → Type 0) (xs : List A) → AllAre G xs → (a : A) → Among a xs → G a
one_of_all G [] h a w = elim w [ ]
one_of_all G (a ∷ xs) h _ walks.here = h.0
one_of_all G (x ∷ xs) h a (walks.there w) = one_of_all G xs h.1 a w

module _ (p : ProgramTree) (names : List ItemNames) (q : Typed) (signed : WellSigned q.decls.items) (typed : IsTyped p names q) (f : TypedFn) (among : Among f q.functions) (never : CallsNotItself f)
    (bs least : List Bound) (fit : bounds_fit (lifetimes_of (slice_get q.decls.items f.item)) bs ≡ true) where
  abbrev D : List Decl
  D = q.decls.items

  abbrev E : List Decl
  E = with_bounds D f.item bs

  is : IsFunction (slice_get D f.item)
  is = a_function _ p names q.functions D typed.declared f typed.functions typed.declares.items typed.same among

  as_many_with : length (body f).params ≡ length (parameters (slice_get E f.item))
  as_many_with = as_many _ p names q.functions D typed.declared f typed.functions typed.declares.items typed.same among ∙ ap (λ (ts : List Ty). length ts) (sym (parameters_at bs D f.item f.item))

  fits_with : Fitting (declarations D) (slice_get E f.item)
  fits_with = subst (Fitting (declarations D)) (sym (at_item bs D f.item))
      (fitting_with (declarations D) bs (slice_get D f.item) fit (fitting (declarations D) (slice_get D f.item) (λ d e. signed.signatures f.item d e)))

  module _ (P : ℕ → List Bound) (are : AreLeastBounds (context_of D P f) (sites_of f) least) where
    -- what is needed is known where the function is accepted, so its signature says it
    all_said : Borrows E P f → AllFollow least (signature_says P (slice_get E f.item))
    all_said a l k h =
        let b = (same_needed D P f bs never l k).0 ((are.exact l k).0 h) in
        follows_said E P f (declarations D) fits_with as_many_with l k b.long
        (known_follows (context_of E P f) l k (a.1.known l k b.long b.short (b.needed a.0 a.1.solution)))

    one_accepted : Borrows E P f → (h : TypedFn) → Among h q.functions → Borrows E P h → Borrows (with_bounds D f.item least) P h
    one_accepted a h w b = elim (same_or h.item f.item) [
      | inl e ↦ subst (λ (g : TypedFn). Borrows (with_bounds D f.item least) P g) (sym (only_one _ p names 0 p q.functions h f typed.functions w among e))
          (least_accepted D P f bs least never is (least_sets (context_of D P f) (sites_of f)) (are_least (context_of D P f) (sites_of f)) are a)
      | inr ne ↦ subst (λ (F : List Decl). Borrows F P h) (with_twice D f.item bs least) (caller_accepted E P f.item least (all_said a) h ne b)
    ]

    all_accepted : AllAre (Borrows E P) q.functions → AllAre (Borrows (with_bounds D f.item least) P) q.functions
    all_accepted all = each_mapped (Borrows E P) (Borrows (with_bounds D f.item least) P) q.functions (one_accepted (one_of_all (Borrows E P) q.functions all f among)) all

  asked_same : (P : ℕ → List Bound) (F : List Decl) (cs : List Bound) → F ≡ with_bounds D f.item cs → AreAsked F P ↔ AreAsked D P
  asked_same P F cs e =
      let same : regions F ≡ regions D = ap regions e ∙ regions_same cs D f.item in
      (λ h i. subst (λ (H : List (List RegionTyp)). ImpliesOf H i (P i)) same (h i), λ h i. subst (λ (H : List (List RegionTyp)). ImpliesOf H i (P i)) (sym same) (h i))

  pub program_accepted : (P : ℕ → List Bound) → AreAsked D P → AreLeastBounds (context_of D P f) (sites_of f) least → (t u : Typed) → IsBounded q f.item bs t → IsBounded q f.item least u
      → AllBorrow t → AllBorrow u
  program_accepted P asked are t u before after all =
      let now = (asked_same all.implied t.decls.items bs before.items).0 all.asked in
      let given : AllAre (Borrows E all.implied) q.functions =
      subst (λ (fs : List TypedFn). AllAre (Borrows E all.implied) fs) before.functions (subst (λ (F : List Decl). AllAre (Borrows F all.implied) t.functions) before.items all.each) in
      record {
        implied = all.implied;
        asked = (asked_same all.implied u.decls.items least after.items).1 now;
        each = subst (λ (F : List Decl). AllAre (Borrows F all.implied) u.functions) (sym after.items)
            (subst (λ (fs : List TypedFn). AllAre (Borrows (with_bounds D f.item least) all.implied) fs) (sym after.functions)
            (all_accepted all.implied (list_by_any D P all.implied asked now f least are) given));
      }
