-- What a program declares in which one function has a short signature: item by item.
use Rattle.std.proofs.Common.{◌≡◌, ℕ, zero, suc, ◌+◌, ◌≤◌, Bool, true, false, ◌&&◌, List, [], ◌∷◌, map, Option, Some, None, is_none, Ok, Err, refl, sym, ap, ap₂, subst, ◌∙◌, arith, if◌then◌else◌, slice_get, codes, filter, option_map}
use Rattle.std.specs.Str.{bytes_eq}
use Rattle.std.proofs.lemmas.Bool.{and_parts, and_from, false≢true}
use Rattle.rx_core.specs.declared.types.Bound.{Bound}
use Rattle.rx_core.specs.declared.types.Span.{Span}
use Rattle.rx_core.specs.declared.types.Ty.{Ty}
use Rattle.rx_tree.specs.declared.tree.BoundLifetime.{BoundLifetime}
use Rattle.rx_tree.specs.Plain as plain
use Rattle.rx_tree.specs.Plain.{TypeTree, Parameter, Function, ItemTree, ProgramTree}
use Rattle.rx_tree.specs.Spans.{program_span}
use Rattle.rx_resolve_names.specs.declared.resolved.ItemNames.{ItemNames}
use Rattle.rx_resolve_names.specs.Holding.{name_span}
use Rattle.rx_typed.specs.declared.declarations.Decl.{Decl}
use Rattle.rx_typed.specs.declared.declarations.Decl.TheVariants as decl
use Rattle.rx_typed.specs.Types.{Declarations, Declared, shapes_listed, function_declared}
use Rattle.rx_typed.specs.PlainTypes.{plain-Ty, plain-Decl, declarations}
use Rattle.rx_typed.specs.Regions.{regions_of, region-Ty, erased, all_erased}
use Rattle.rx_typed_declarations.proofs.RegionLemmas.{is_erased}
use Rattle.rx_typeck_solver.specs.declared.facts.Rule.{Rule}
use Rattle.rx_typeck_typed.specs.declared.fault.DeclareFault.TheVariants as fault
use Rattle.rx_typeck_typed.specs.Steps.{Outcome, on_ok}
use Rattle.rx_typeck_typed.specs.Written.{lifetimes_of}
use Rattle.rx_typeck_typed.specs.Items.{declared_item, entries_of, declared_items}
use Rattle.rx_typeck_typed.specs.Limits.{place_of, fits_at, item_fits, all_fit, Limited}
use Rattle.rx_typeck_typed.specs.Programs.{derived, all_derived, main_or, main_of, is_nothing, is_bare, main_fits, Fits}
use Rattle.rx_compact_lifetimes.specs.Rewritten.{renamed_bound, rewritten_type, rewritten_parameter}
use Rattle.rx_compact_lifetimes.specs.Merged.{joined_list, merged, mergings_of}
use Rattle.rx_compact_lifetimes.specs.Elided.{in_body, stays, elisions}
use Rattle.rx_compact.specs.Compacted.{compacted_function, compacted_item, compacted}
use Rattle.rx_compact_laws.specs.Alongside.{SameItems}
use Rattle.rx_compact_types.specs.Positions.{or_zero}
use Rattle.rx_compact_types.proofs.Renamed.{Related, RenamedFunction}
use Rattle.rx_compact_types.proofs.Declared.{read_ok}
use Rattle.rx_compact_types.proofs.Filling.{erased_same, all_erased_same}
use Rattle.rx_compact_types.proofs.SameTypes.{on_more, item}
use Rattle.rx_compact_types.proofs.Turning.{SameDeclared}

-- ---- what a renamed function is without lifetimes

types_erased : (ts : List Ty) → shapes_listed (all_erased (regions_of (map region-Ty ts))) ≡ map plain-Ty ts
types_erased [] = refl
types_erased (t ∷ ts) = ap₂ (λ x xs. x ∷ xs) (is_erased t) (types_erased ts)

pub renamed_plain : (R : ℕ → ℕ → Type 0) (f : ℕ → ℕ) (d e : Decl) → RenamedFunction R f d e → plain-Decl e ≡ plain-Decl d
renamed_plain R f d e r =
    let ps : map plain-Ty r.new_params ≡ map plain-Ty r.params =
    sym (types_erased r.new_params) ∙ (ap (λ ts. shapes_listed (all_erased ts)) r.params_are ∙ (ap shapes_listed (all_erased_same f (regions_of (map region-Ty r.params))) ∙ types_erased r.params)) in
    let t : plain-Ty r.new_answer ≡ plain-Ty r.answer = sym (is_erased r.new_answer) ∙ (ap erased r.answer_is ∙ (erased_same f (region-Ty r.answer) ∙ is_erased r.answer)) in
    ap plain-Decl r.is ∙ (ap₂ function_declared ps t ∙ sym (ap plain-Decl r.was))

ok_is : (a b : List Decl) → ◌≡◌ {A = Outcome (List Decl)} (Ok a) (Ok b) → a ≡ b
ok_is a b e = cc

some_item : (x y : ItemTree) → ◌≡◌ {A = Option ItemTree} (Some x) (Some y) → x ≡ y
some_item x y e = cc

some_decl : (x y : Decl) → ◌≡◌ {A = Option Decl} (Some x) (Some y) → x ≡ y
some_decl x y e = cc

module _ (o : ℕ → ℕ → Bool) (single : Bool) where
  abbrev short : Function → Function
  short f = compacted_function o single f

  -- ---- structs and enums

  lifetimes_same : (x : ItemTree) → lifetimes_of (Some (compacted_item o single x)) ≡ lifetimes_of (Some x)
  lifetimes_same (plain.function_item s f) = refl
  lifetimes_same (plain.rt_item s r) = refl
  lifetimes_same (plain.struct_item s d) = refl
  lifetimes_same (plain.enum_item s d) = refl

  pub all_lifetimes_same : (p : ProgramTree) (i n : ℕ) → lifetimes_of (slice_get (compacted o single p i) n) ≡ lifetimes_of (slice_get p n)
  all_lifetimes_same [] i n = refl
  all_lifetimes_same (x ∷ xs) zero zero = lifetimes_same x
  all_lifetimes_same (x ∷ xs) zero (suc n) = refl
  all_lifetimes_same (x ∷ xs) (suc i) zero = refl
  all_lifetimes_same (x ∷ xs) (suc i) (suc n) = all_lifetimes_same xs i n

  pub same_declared : (p : ProgramTree) (i : ℕ) → SameItems p (compacted o single p i) → SameDeclared p (compacted o single p i)
  same_declared p i same = record { item = λ x. ap or_zero (same.types x.name); lifetimes = all_lifetimes_same p i }

  -- ---- declarations, item by item

  module _ (p q : ProgramTree) (names news : List ItemNames) (counts : (n : ℕ) → lifetimes_of (slice_get q n) ≡ lifetimes_of (slice_get p n)) where
    pub item_declared : (n : ℕ) (x : ItemTree) → slice_get news n ≡ slice_get names n → declared_item q (entries_of (slice_get news n)) x ≡ declared_item p (entries_of (slice_get names n)) x
    item_declared n x e = ap (λ u. declared_item q (entries_of u) x) e ∙ item p q counts (entries_of (slice_get names n)) x

    behind_declared : (n : ℕ) (xs : ProgramTree) → ((k : ℕ) → n ≤ k → slice_get news k ≡ slice_get names k) → declared_items q news n xs ≡ declared_items p names n xs
    behind_declared n [] h = refl
    behind_declared n (x ∷ xs) h =
        ap (λ r. on_ok r (λ d. on_ok (declared_items q news (suc n) xs) (λ ds. Ok (d ∷ ds)))) (item_declared n x (h n (omega arith)))
        ∙ on_more (declared_item p (entries_of (slice_get names n)) x) (λ d. ap (λ r. on_ok r (λ ds. Ok (d ∷ ds))) (behind_declared (suc n) xs (λ k g. h k (omega (arith, g)))))

    -- what the item with the short signature declares, by numbers of which this holds
    pub record ShortItem (Holds : (ℕ → ℕ) → Decl → Type 0) (j : ℕ) (x : ItemTree) (d : Decl) : Type 0 where
      pub new : Decl
      pub declares : declared_item q (entries_of (slice_get news j)) (compacted_item o single x) ≡ Ok new
      pub same : plain-Decl new ≡ plain-Decl d
      pub renamed : (n : ℕ) (ps : List Ty) (t : Ty) (bs : List Bound) → d ≡ decl.Func n ps t bs → (f : ℕ → ℕ) × RenamedFunction (Related o) f d new × Holds f d

    -- of items from number n on; the one with the short signature has number m among them, and number j
    pub record Done (Holds : (ℕ → ℕ) → Decl → Type 0) (n : ℕ) (xs : ProgramTree) (m j : ℕ) (ds : List Decl) : Type 0 where
      pub new : List Decl
      pub is : declared_items q news n (compacted o single xs m) ≡ Ok new
      pub same : declarations new ≡ declarations ds
      pub others : (k : ℕ) → (k ≡ m → ⊥) → slice_get new k ≡ slice_get ds k
      pub this : (d : Decl) → slice_get ds m ≡ Some d → (n : ℕ) (ps : List Ty) (t : Ty) (bs : List Bound) → d ≡ decl.Func n ps t bs
          → (e : Decl) × (slice_get new m ≡ Some e) × ((f : ℕ → ℕ) × RenamedFunction (Related o) f d e × Holds f d)

    module _ (Holds : (ℕ → ℕ) → Decl → Type 0) (j : ℕ) (others : (k : ℕ) → (k ≡ j → ⊥) → slice_get news k ≡ slice_get names k) where
      pub done : (xs : ProgramTree) (n m : ℕ) → j ≡ n + m → ((x : ItemTree) → slice_get xs m ≡ Some x → (d : Decl) → declared_item p (entries_of (slice_get names j)) x ≡ Ok d → ShortItem Holds j x d)
          → (ds : List Decl) → declared_items p names n xs ≡ Ok ds → Done Holds n xs m j ds
      done [] n m w step ds e = record {
        new = [];
        is = refl;
        same = ap declarations (ok_is [] ds e);
        others = λ k h. ap (λ us. slice_get us k) (ok_is [] ds e);
        this = λ d h. absurd (let g : ◌≡◌ {A = Option Decl} None (Some d) = ap (λ us. slice_get us m) (ok_is [] ds e) ∙ h in cc);
      }
      done (x ∷ xs) n zero w step ds e =
          let a = read_ok (declared_item p (entries_of (slice_get names n)) x) (λ d. on_ok (declared_items p names (suc n) xs) (λ ds. Ok (d ∷ ds))) ds e in
          let b = read_ok (declared_items p names (suc n) xs) (λ ds. Ok (a.0 ∷ ds)) ds a.2 in
          let t : a.0 ∷ b.0 ≡ ds = ok_is (a.0 ∷ b.0) ds b.2 in
          let at : n ≡ j = omega (arith, w) in
          let c : ShortItem Holds j x a.0 = step x refl a.0 (subst (λ k. declared_item p (entries_of (slice_get names k)) x ≡ Ok a.0) at a.1) in
          let rest = behind_declared (suc n) xs (λ k g. others k (λ h. omega (arith, g, h, at))) in
          record {
            new = c.new ∷ b.0;
            is = ap (λ r. on_ok r (λ d. on_ok (declared_items q news (suc n) xs) (λ ds. Ok (d ∷ ds)))) (subst (λ k. declared_item q (entries_of (slice_get news k)) (compacted_item o single x) ≡ Ok c.new) (sym at) c.declares)
                ∙ ap (λ r. on_ok r (λ ds. Ok (c.new ∷ ds))) (rest ∙ b.1);
            same = ap (λ d. d ∷ declarations b.0) c.same ∙ ap declarations t;
            others = λ k h. other k h c.new a.0 b.0 ∙ ap (λ us. slice_get us k) t;
            this = λ d h n ps y bs g.
                let i : a.0 ≡ d = some_decl a.0 d (ap (λ us. slice_get us 0) t ∙ h) in
                let r = c.renamed n ps y bs (i ∙ g) in
                (c.new, refl, (r.0, subst (λ d. RenamedFunction (Related o) r.0 d c.new) i r.1, subst (λ d. Holds r.0 d) i r.2));
          }
        where
          other : (k : ℕ) → (k ≡ 0 → ⊥) → (v u : Decl) (us : List Decl) → slice_get (v ∷ us) k ≡ slice_get (u ∷ us) k
          other zero h v u us = absurd (h refl)
          other (suc k) h v u us = refl
      done (x ∷ xs) n (suc m) w step ds e =
          let a = read_ok (declared_item p (entries_of (slice_get names n)) x) (λ d. on_ok (declared_items p names (suc n) xs) (λ ds. Ok (d ∷ ds))) ds e in
          let b = read_ok (declared_items p names (suc n) xs) (λ ds. Ok (a.0 ∷ ds)) ds a.2 in
          let t : a.0 ∷ b.0 ≡ ds = ok_is (a.0 ∷ b.0) ds b.2 in
          let c = done xs (suc n) m (omega (arith, w)) step b.0 b.1 in
          record {
            new = a.0 ∷ c.new;
            is = ap (λ r. on_ok r (λ d. on_ok (declared_items q news (suc n) (compacted o single xs m)) (λ ds. Ok (d ∷ ds)))) (item_declared n x (others n (λ h. omega (arith, w, h))) ∙ a.1)
                ∙ ap (λ r. on_ok r (λ ds. Ok (a.0 ∷ ds))) c.is;
            same = ap (λ ds. plain-Decl a.0 ∷ ds) c.same ∙ ap declarations t;
            others = λ k h. other k h a.0 c.new b.0 c.others ∙ ap (λ us. slice_get us k) t;
            this = λ d h. c.this d (ap (λ us. slice_get us (suc m)) t ∙ h);
          }
        where
          other : (k : ℕ) → (k ≡ suc m → ⊥) → (u : Decl) (vs us : List Decl) → ((k : ℕ) → (k ≡ m → ⊥) → slice_get vs k ≡ slice_get us k)
              → slice_get (u ∷ vs) k ≡ slice_get (u ∷ us) k
          other zero h u vs us g = refl
          other (suc k) h u vs us g = g k (λ e. h (ap suc e))

  -- ---- what all declarations keep

  derived_same : (D : Declarations) (y : Option Declared) (x : ItemTree) → derived D y (compacted_item o single x) ≡ derived D y x
  derived_same D y (plain.function_item s f) = refl
  derived_same D y (plain.rt_item s r) = refl
  derived_same D y (plain.struct_item s d) = refl
  derived_same D y (plain.enum_item s d) = refl

  all_derived_same : (D : Declarations) (n : ℕ) (xs : ProgramTree) (m : ℕ) → all_derived D n (compacted o single xs m) ≡ all_derived D n xs
  all_derived_same D n [] m = refl
  all_derived_same D n (x ∷ xs) zero = ap (λ r. on_ok r (λ _. all_derived D (suc n) xs)) (derived_same D (slice_get D n) x)
  all_derived_same D n (x ∷ xs) (suc m) = on_more (derived D (slice_get D n) x) (λ _. all_derived_same D (suc n) xs m)

  span_same : (x : ItemTree) → name_span (compacted_item o single x) ≡ name_span x
  span_same (plain.function_item s f) = refl
  span_same (plain.rt_item s r) = refl
  span_same (plain.struct_item s d) = refl
  span_same (plain.enum_item s d) = refl

  place_same : (xs : ProgramTree) (m n : ℕ) → place_of (slice_get (compacted o single xs m) n) ≡ place_of (slice_get xs n)
  place_same [] m n = refl
  place_same (x ∷ xs) zero zero = span_same x
  place_same (x ∷ xs) zero (suc n) = refl
  place_same (x ∷ xs) (suc m) zero = refl
  place_same (x ∷ xs) (suc m) (suc n) = place_same xs m n

  all_fit_same : (P : ℕ → ℕ) (D : Declarations) (n : ℕ) (xs : ProgramTree) (m : ℕ) → all_fit P D n (compacted o single xs m) ≡ all_fit P D n xs
  all_fit_same P D n [] m = refl
  all_fit_same P D n (x ∷ xs) zero = ap (λ s. on_ok (fits_at s (item_fits (P n) (slice_get D n))) (λ _. all_fit P D (suc n) xs)) (span_same x)
  all_fit_same P D n (x ∷ xs) (suc m) = on_more (fits_at (name_span x) (item_fits (P n) (slice_get D n))) (λ _. all_fit_same P D (suc n) xs m)

  limited_same : (p : ProgramTree) (i : ℕ) (D : Declarations) → Limited p D (Ok tt) → Limited (compacted o single p i) D (Ok tt)
  limited_same p i D w = record {
    endless = λ n h. w.endless n h ∙ ap (λ s. fits_at s false) (sym (place_same p i n));
    each = λ h P z. w.each h P z ∙ sym (all_fit_same P D 0 p i);
  }

  -- `main` has neither lifetimes nor parameters nor a result, and keeps none
  no_lifetimes : (S : BoundLifetime → Bool) (R : BoundLifetime → BoundLifetime) (ls : List BoundLifetime) → is_nothing ls ≡ true → is_nothing (filter S (joined_list (map R ls))) ≡ true
  no_lifetimes S R [] h = refl
  no_lifetimes S R (l ∷ ls) h = absurd (false≢true h)

  no_parameters : (R Q : Parameter → Parameter) (xs : List Parameter) → is_nothing xs ≡ true → is_nothing (map R (map Q xs)) ≡ true
  no_parameters R Q [] h = refl
  no_parameters R Q (x ∷ xs) h = absurd (false≢true h)

  no_result : (R Q : TypeTree → TypeTree) (t : Option TypeTree) → is_none t ≡ true → is_none (option_map R (option_map Q t)) ≡ true
  no_result R Q None h = refl
  no_result R Q (Some t) h = absurd (false≢true h)

  bare_short : (f : Function) → is_bare f ≡ true → is_bare (short f) ≡ true
  bare_short f h =
      let a = and_parts (is_nothing f.lifetimes) (is_nothing f.params && is_none f.result) h in
      let b = and_parts (is_nothing f.params) (is_none f.result) a.1 in
      let m : Function = merged o f in
      let rs = mergings_of o f in
      let es = elisions single (in_body m.body) m in
      and_from (is_nothing (short f).lifetimes) (is_nothing (short f).params && is_none (short f).result) (no_lifetimes (stays single (in_body m.body) m) (renamed_bound rs) f.lifetimes a.0)
      (and_from (is_nothing (short f).params) (is_none (short f).result) (no_parameters (rewritten_parameter es) (rewritten_parameter rs) f.params b.0) (no_result (rewritten_type es) (rewritten_type rs) f.result b.1))

  -- the function `main` of both
  abbrev MainStays : Option Function → Option Function → Type 0
  MainStays None y = y ≡ None
  MainStays (Some f) y = (g : Function) × (y ≡ Some g) × (is_bare f ≡ true → is_bare g ≡ true)

  itself_stays : (y : Option Function) → MainStays y y
  itself_stays None = refl
  itself_stays (Some f) = (f, refl, λ h. h)

  either_stays : (b : Bool) (f g : Function) (y z : Option Function) → (is_bare f ≡ true → is_bare g ≡ true) → MainStays y z → MainStays (if b then Some f else y) (if b then Some g else z)
  either_stays true f g y z h k = (g, refl, h)
  either_stays false f g y z h k = k

  main_item : (x : ItemTree) (y : Option Function) → MainStays (main_or x y) (main_or (compacted_item o single x) y)
  main_item (plain.function_item s f) y = either_stays (bytes_eq f.name.name (codes "main")) f (short f) y y (bare_short f) (itself_stays y)
  main_item (plain.rt_item s r) y = itself_stays y
  main_item (plain.struct_item s d) y = itself_stays y
  main_item (plain.enum_item s d) y = itself_stays y

  main_behind : (x : ItemTree) (y z : Option Function) → MainStays y z → MainStays (main_or x y) (main_or x z)
  main_behind (plain.function_item s f) y z h = either_stays (bytes_eq f.name.name (codes "main")) f f y z (λ h. h) h
  main_behind (plain.rt_item s r) y z h = h
  main_behind (plain.struct_item s d) y z h = h
  main_behind (plain.enum_item s d) y z h = h

  main_stays : (xs : ProgramTree) (m : ℕ) → MainStays (main_of xs) (main_of (compacted o single xs m))
  main_stays [] m = refl
  main_stays (x ∷ xs) zero = main_item x (main_of xs)
  main_stays (x ∷ xs) (suc m) = main_behind x (main_of xs) (main_of (compacted o single xs m)) (main_stays xs m)

  main_fits_still : (s t : Span) (y z : Option Function) → MainStays y z → main_fits s y ≡ Ok tt → main_fits t z ≡ Ok tt
  main_fits_still s t None z h e = absurd (cc)
  main_fits_still s t (Some f) z h e = ap (main_fits t) h.1 ∙ good h.0 (h.2 (bare (is_bare f) refl e))
    where
      bare : (b : Bool) → is_bare f ≡ b → ◌≡◌ {A = Outcome (Unit {0})} (if b then Ok tt else Err (fault.Mismatch f.name.span Rule.Main)) (Ok tt) → is_bare f ≡ true
      bare true k e = k
      bare false k e = absurd (cc)

      good : (g : Function) → is_bare g ≡ true → main_fits t (Some g) ≡ Ok tt
      good g k = ap (λ b. if b then Ok tt else Err (fault.Mismatch g.name.span Rule.Main)) k

  pub fits_still : (p : ProgramTree) (i : ℕ) (D : Declarations) → Fits p D → Fits (compacted o single p i) D
  fits_still p i D w = record {
    numbered = w.numbered;
    derived_well = all_derived_same D 0 p i ∙ w.derived_well;
    limited = limited_same p i D w.limited;
    has_main = main_fits_still (program_span p) (program_span (compacted o single p i)) (main_of p) (main_of (compacted o single p i)) (main_stays p i) w.has_main;
  }
