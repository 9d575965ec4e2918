-- Types made of others, by the forms of entries.
use Rattle.std.proofs.Common.{◌≡◌, ℕ, zero, suc, ◌-◌, ◌<◌, Bool, true, false, IsTrue, List, [], ◌∷◌, length, get_or, map, slice_get, Option, Some, None, refl, sym, ap, ◌∙◌, subst, arith}
use Rattle.std.specs.Prelude.{option_map}
use Rattle.std.specs.Prelude.{Result, Ok, Err, IfOk}
use Rattle.std.specs.declared.alloc.AllocError.{AllocError}
use Rattle.std.proofs.lemmas.Option.{slice_get-map}
use Rattle.rx_core.specs.declared.types.Ty.{Ty}
use Rattle.rx_typed.specs.PlainTypes.{plain-Ty}
use Rattle.rx_typed.specs.Types.{tuple_of, reference, shapes_listed, Typ}
use Rattle.rx_typeck_solver.specs.declared.arena.Form.{Form}
use Rattle.rx_typeck_solver.specs.declared.arena.Form.TheVariants as form
use Rattle.rx_typeck_solver.specs.declared.arena.Entry.{Entry}
use Rattle.rx_typeck_solver.specs.Facts.{pointee, part_of, coerced, bound, of_one, of_two, fixed}
use Rattle.rx_typeck_solver.specs.declared.reading.Passed.{Passed}
use Rattle.rx_typeck_solver.specs.Reading.{AllTerms, summed}
use Rattle.rx_typeck_solver.specs.Solver.{Fixed, Term}
use Rattle.rx_typeck_solver.specs.Cells.{Cell, one, term_in, shapes_in, is_one, is_many, form_at, cell_form, cell, term, IsTerm, IsList, FormOk, Formable, Makes, Built}
use Rattle.rx_typeck_solver.specs.Tabled.{Sized}
use Rattle.rx_typeck_solver.specs.Growing.{Grown, MadeIs, MadeAs, only_one, named_in, coerce_form, found_of}
use Rattle.rx_typeck_solver.proofs.Adding.{cell_is}
use Rattle.rx_typeck_solver.proofs.Pairing.{term_is, to_lower}
use Rattle.rx_typeck_solver.proofs.Growth.{grown_by, grown_term, grows_none}

module _ (es : List Entry) (o : Formable es) (i : ℕ) (f : Form) (t : IsTerm es i) (e : f ≡ form_at es i) where
  is : term es i ≡ term_in (cell_form (cell es) f)
  is = term_is es o.0 i f o.1 t.0 e

  lower : (m : Bool) (j : ℕ) → f ≡ form.Reference m j → IsTerm es j × (term es i ≡ reference m (term es j))
  lower m j r = let p = to_lower es o.0 i f m j o.1 t.0 e r in let l = p.0 in let h = t.0 in ((omega (arith, l, h), p.1), p.2)

  pub pointee_some : (m : Bool) (j : ℕ) → f ≡ form.Reference m j → MadeIs es (Some j) (pointee (term es i))
  pointee_some m j r = let p = lower m j r in (p.0, ap pointee p.1)

  no_pointee : (c : ℕ → Cell) (f : Form) → ((m : Bool) (j : ℕ) → f ≡ form.Reference m j → ⊥) → pointee (term_in (cell_form c f)) ≡ None
  no_pointee c (form.Reference m j) n = absurd (n m j refl)
  no_pointee c (form.Fixed k) n = refl
  no_pointee c _ n = refl

  pub pointee_none : ((m : Bool) (j : ℕ) → f ≡ form.Reference m j → ⊥) → pointee (term es i) ≡ None
  pointee_none n = ap pointee is ∙ no_pointee (cell es) f n

  pub named_some : (k : ℕ) (u : Term) → f ≡ form.Named k → term es i ≡ u → Some k ≡ named_in u
  named_some k u r q = sym (ap named_in (sym q) ∙ ap named_in is ∙ ap (λ g. named_in (term_in (cell_form (cell es) g))) r)

  no_name : (c : ℕ → Cell) (f : Form) → ((k : ℕ) → f ≡ form.Named k → ⊥) → named_in (term_in (cell_form c f)) ≡ None
  no_name c (form.Named k) n = absurd (n k refl)
  no_name c (form.Fixed k) n = refl
  no_name c _ n = refl

  pub named_none : (u : Term) → ((k : ℕ) → f ≡ form.Named k → ⊥) → term es i ≡ u → None ≡ named_in u
  named_none u n q = sym (ap named_in (sym q) ∙ ap named_in is ∙ no_name (cell es) f n)

  pub tuple_list : (j : ℕ) → f ≡ form.Tuple j → IsList es j × (term es i ≡ tuple_of (shapes_in (cell es j)))
  tuple_list j r = let p = subst (λ g. FormOk es o.0 i g) (sym e ∙ r) (o.1 i t.0) in let l = p.0 in let h = t.0 in
      ((omega (arith, l, h), p.1), is ∙ ap (λ g. term_in (cell_form (cell es) g)) r)

  pub part_some : (j k : ℕ) (q : Option ℕ) (u : Term) → f ≡ form.Tuple j → MadeIs es q (slice_get (shapes_listed (shapes_in (cell es j))) k) → term es i ≡ u → MadeIs es q (part_of k u)
  part_some j k q u r h w = subst (λ x. MadeIs es q x) (sym (ap (part_of k) (sym w ∙ (tuple_list j r).1))) h

  no_part : (c : ℕ → Cell) (f : Form) (k : ℕ) → ((j : ℕ) → f ≡ form.Tuple j → ⊥) → IsTrue (is_one (cell_form c f)) → part_of k (term_in (cell_form c f)) ≡ None
  no_part c (form.Tuple j) k n h = absurd (n j refl)
  no_part c form.Nothing k n h = cc
  no_part c (form.And x y) k n h = cc
  no_part c _ k n h = refl

  pub part_none : (k : ℕ) (u : Term) → ((j : ℕ) → f ≡ form.Tuple j → ⊥) → term es i ≡ u → part_of k u ≡ None
  part_none k u n q = ap (part_of k) (sym q) ∙ ap (part_of k) is ∙ no_part (cell es) f k n (subst (λ c. IsTrue (is_one c)) (cell_is es o.0 o.1 i t.0 ∙ ap (cell_form (cell es)) (sym e)) t.1)

-- ---- lists

module _ (es : List Entry) (o : Formable es) (i : ℕ) (f : Form) (t : IsList es i) (e : f ≡ form_at es i) where
  cell_here : cell es i ≡ cell_form (cell es) f
  cell_here = cell_is es o.0 o.1 i t.0 ∙ ap (cell_form (cell es)) (sym e)

  abbrev Listed : List Term
  Listed = shapes_listed (shapes_in (cell es i))

  and_parts : (j k : ℕ) → f ≡ form.And j k → IsTerm es j × IsList es k × (shapes_listed (shapes_in (cell es i)) ≡ term es j ∷ shapes_listed (shapes_in (cell es k)))
  and_parts j k r = let p = subst (λ g. FormOk es o.0 i g) (sym e ∙ r) (o.1 i t.0) in let a = p.0 in let b = p.2 in let h = t.0 in
      ((omega (arith, a, h), p.1), (omega (arith, b, h), p.3), ap (λ c. shapes_listed (shapes_in c)) (cell_here ∙ ap (cell_form (cell es)) r))

  pub nth_here : (j k left : ℕ) (w : Option Term) → f ≡ form.And j k → left ≡ 0 → slice_get (shapes_listed (shapes_in (cell es i))) left ≡ w → MadeIs es (Some j) w
  nth_here j k left w r z q = let p = and_parts j k r in (p.0, sym q ∙ ap (slice_get (shapes_listed (shapes_in (cell es i)))) z ∙ ap (λ l. slice_get l 0) p.2)

  later : (left : ℕ) (u : Term) (us : List Term) → (left ≡ 0 → ⊥) → slice_get (u ∷ us) left ≡ slice_get us (left - 1)
  later zero u us n = absurd (n refl)
  later (suc left) u us n = let k : suc left - 1 ≡ left = omega arith in ap (slice_get us) (sym k)

  pub nth_more : (j k left : ℕ) (w : Option Term) → f ≡ form.And j k → (left ≡ 0 → ⊥) → slice_get (shapes_listed (shapes_in (cell es i))) left ≡ w → IsList es k × (slice_get (shapes_listed (shapes_in (cell es k))) (left - 1) ≡ w)
  nth_more j k left w r n q = let p = and_parts j k r in (p.1, sym (later left (term es j) (shapes_listed (shapes_in (cell es k))) n) ∙ ap (λ l. slice_get l left) (sym p.2) ∙ q)

  ends : (c : ℕ → Cell) (f : Form) → ((j k : ℕ) → f ≡ form.And j k → ⊥) → IsTrue (is_many (cell_form c f)) → shapes_listed (shapes_in (cell_form c f)) ≡ []
  ends c (form.And j k) n h = absurd (n j k refl)
  ends c form.Nothing n h = refl
  ends c _ n h = cc

  pub nth_end : (left : ℕ) (w : Option Term) → ((j k : ℕ) → f ≡ form.And j k → ⊥) → slice_get (shapes_listed (shapes_in (cell es i))) left ≡ w → w ≡ None
  nth_end left w n q = sym q ∙ ap (λ l. slice_get l left) (ap (λ c. shapes_listed (shapes_in c)) cell_here ∙ ends (cell es) f n (subst (λ c. IsTrue (is_many c)) cell_here t.1))

-- ---- coercions

coerce_cells : (es : List Entry) (n : ℕ) (f g : Form) (j : ℕ) → coerce_form f g ≡ Some j → (k l : ℕ) → FormOk es n k f → FormOk es n l g → (j < l) × IsTrue (is_one (cell es j)) × (coerced (term_in (cell_form (cell es) f)) (term_in (cell_form (cell es) g)) ≡ reference true (term es j))
coerce_cells es n (form.Reference true i) (form.Reference false j) k e x y a b = let q : j ≡ k = cc in subst (λ m. (m < y) × IsTrue (is_one (cell es m)) × (reference true (term es j) ≡ reference true (term es m))) q (b.0, b.1, refl)
coerce_cells es n (form.Reference true i) (form.Reference true j) k e x y a b = cc
coerce_cells es n (form.Reference true i) (form.Fixed j) k e x y a b = cc
coerce_cells es n (form.Reference true i) _ k e x y a b = cc
coerce_cells es n (form.Reference false i) g k e x y a b = cc
coerce_cells es n (form.Fixed i) g k e x y a b = cc
coerce_cells es n _ g k e x y a b = cc

coerce_none : (c : ℕ → Cell) (f g : Form) → coerce_form f g ≡ None → coerced (term_in (cell_form c f)) (term_in (cell_form c g)) ≡ term_in (cell_form c g)
coerce_none c (form.Reference true i) (form.Reference false j) e = cc
coerce_none c (form.Reference true i) (form.Reference true j) e = refl
coerce_none c (form.Reference true i) (form.Fixed j) e = refl
coerce_none c (form.Reference true i) _ e = refl
coerce_none c (form.Reference false i) g e = refl
coerce_none c (form.Fixed k) g e = refl
coerce_none c _ g e = refl

module _ (es : List Entry) (o : Formable es) (i j : ℕ) (f g : Form) (t : IsTerm es i) (u : IsTerm es j) (ef : f ≡ form_at es i) (eg : g ≡ form_at es j) where
  pub coerced_some : (r : Option ℕ) (k : ℕ) → r ≡ coerce_form f g → r ≡ Some k → IsTerm es k × (coerced (term es i) (term es j) ≡ reference true (term es k))
  coerced_some r k er rs = let p = coerce_cells es o.0 f g k (sym er ∙ rs) i j (subst (λ x. FormOk es o.0 i x) (sym ef) (o.1 i t.0)) (subst (λ x. FormOk es o.0 j x) (sym eg) (o.1 j u.0)) in
      let l = p.0 in let h = u.0 in
      ((omega (arith, l, h), p.1), ap (λ x. coerced x (term es j)) (term_is es o.0 i f o.1 t.0 ef) ∙ ap (coerced (term_in (cell_form (cell es) f))) (term_is es o.0 j g o.1 u.0 eg) ∙ p.2)

  pub coerced_none : (r : Option ℕ) → r ≡ coerce_form f g → r ≡ None → coerced (term es i) (term es j) ≡ term es j
  coerced_none r er rn = ap (λ x. coerced x (term es j)) (term_is es o.0 i f o.1 t.0 ef) ∙ ap (coerced (term_in (cell_form (cell es) f))) (term_is es o.0 j g o.1 u.0 eg) ∙ coerce_none (cell es) f g (sym er ∙ rn) ∙ sym (term_is es o.0 j g o.1 u.0 eg)

-- ---- entries that are made

pub made_grown : (sizes : List ℕ) (old new : List Entry) (i : ℕ) (t : Term) → Grown sizes old new i (one t) → MadeAs sizes old new (Some i) (Some t)
made_grown sizes old new i t g = let p = grown_term sizes old new i t g in record { grows = g.grows; is = (p.0, ap Some (sym p.1)) }

pub made_old : (sizes : List ℕ) (es : List Entry) (o : Option ℕ) (t : Option Term) → Sized sizes es → MadeIs es o t → MadeAs sizes es es o t
made_old sizes es o t s m = record { grows = grows_none sizes es s; is = m }

pub made_equal : (sizes : List ℕ) (old new : List Entry) (o : Option ℕ) (t u : Option Term) → MadeAs sizes old new o t → t ≡ u → MadeAs sizes old new o u
made_equal sizes old new o t u m e = subst (λ x. MadeAs sizes old new o x) e m

pub made_new : (sizes : List ℕ) (old new : List Entry) (i : ℕ) (t u : Term) → Formable old → Sized sizes old → ((n : ℕ) → Built sizes n old → Makes sizes n old new i (one t)) → t ≡ u → MadeAs sizes old new (Some i) (Some u)
made_new sizes old new i t u f s make e = made_equal sizes old new (Some i) (Some t) (Some u) (made_grown sizes old new i t (grown_by sizes old new i (one t) f s make)) (ap Some e)

-- one entry, or two
pub one_entry : (es : List Entry) (is : List ℕ) (g : Term → Option Term) (r : Option ℕ) (i : ℕ) → r ≡ only_one is → r ≡ Some i → of_one g (map (term es) is) ≡ g (term es i)
one_entry es [] g r i e s = cc
one_entry es (j ∷ []) g r i e s = let q : j ≡ i = cc in ap (λ x. g (term es x)) q
one_entry es (j ∷ k ∷ is) g r i e s = cc

pub one_term : (es : List Entry) (is : List ℕ) (r : Option ℕ) (i : ℕ) → AllTerms es is → r ≡ only_one is → r ≡ Some i → IsTerm es i
one_term es [] r i a e s = cc
one_term es (j ∷ []) r i a e s = let q : j ≡ i = cc in subst (λ x. IsTerm es x) q a.0
one_term es (j ∷ k ∷ is) r i a e s = cc

pub no_entry : (es : List Entry) (is : List ℕ) (g : Term → Option Term) (r : Option ℕ) → r ≡ only_one is → r ≡ None → of_one g (map (term es) is) ≡ None
no_entry es [] g r e s = refl
no_entry es (j ∷ []) g r e s = cc
no_entry es (j ∷ k ∷ js) g r e s = refl

pub bound_none : (ms : List Bool) (s : Passed) (t : Term) → s ≡ summed ms → s.none ≡ true → bound ms t ≡ t
bound_none [] s t e h = refl
bound_none (m ∷ ms) s t e h = let q : s.none ≡ false = ap (λ (p : Passed). p.none) e in cc

pub bound_some : (ms : List Bool) (s : Passed) (t : Term) → s ≡ summed ms → s.none ≡ false → reference s.mutable t ≡ bound ms t
bound_some [] s t e h = let q : s.none ≡ true = ap (λ (p : Passed). p.none) e in cc
bound_some (m ∷ ms) s t e h = ap (λ (p : Passed). reference p.mutable t) e

pub two_entries : (es : List Entry) (is : List ℕ) (g : Term → Term → Option Term) (d e : ℕ) → length is ≡ 2 → of_two g (map (term es) is) ≡ g (term es (get_or is 0 d)) (term es (get_or is 1 e))
two_entries es [] g d e h = absurd (omega arith)
two_entries es (i ∷ []) g d e h = absurd (omega arith)
two_entries es (i ∷ j ∷ []) g d e h = refl
two_entries es (i ∷ j ∷ k ∷ is) g d e h = absurd (omega arith)

pub not_two : (es : List Entry) (is : List ℕ) (g : Term → Term → Option Term) → (length is ≡ 2 → ⊥) → of_two g (map (term es) is) ≡ None
not_two es [] g h = refl
not_two es (i ∷ []) g h = refl
not_two es (i ∷ j ∷ []) g h = absurd (h (omega arith))
not_two es (i ∷ j ∷ k ∷ js) g h = refl

-- the only one itself
pub same_entry : (es : List Entry) (is : List ℕ) (g : Term → Term) (r : Option ℕ) → AllTerms es is → r ≡ only_one is → ((t : Term) → g t ≡ t) → MadeIs es r (of_one (λ t. Some (g t)) (map (term es) is))
same_entry es is g None a e h = no_entry es is (λ t. Some (g t)) None e refl
same_entry es is g (Some i) a e h = (one_term es is (Some i) i a e refl, one_entry es is (λ t. Some (g t)) (Some i) i e refl ∙ ap Some (h (term es i)))

pub of_one_same : (f g : Term → Option Term) (ts : List Term) → ((t : Term) → f t ≡ g t) → of_one f ts ≡ of_one g ts
of_one_same f g [] h = refl
of_one_same f g (t ∷ []) h = h t
of_one_same f g (t ∷ u ∷ ts) h = refl

pub found_made : (P : ℕ → Type 0) (Q : Option ℕ → Type 0) (r : Result ℕ AllocError) (q : Result (Option ℕ) AllocError) → q ≡ found_of r → ((i : ℕ) → P i → Q (Some i)) → IfOk r P → IfOk q Q
found_made P Q (Ok i) q e h p = subst (λ x. IfOk x Q) (sym e) (h i p)
found_made P Q (Err f) q e h p = subst (λ x. IfOk x Q) (sym e) tt

-- a type of a list of declared ones, by its number
pub declared_at : (D : List Typ) (ts : List Ty) (k : ℕ) (o : Option Ty) → map plain-Ty ts ≡ D → o ≡ slice_get ts k → fixed Fixed (option_map plain-Ty o) ≡ fixed Fixed (slice_get D k)
declared_at D ts k o e h = ap (λ x. fixed Fixed (option_map plain-Ty x)) h ∙ ap (fixed Fixed) (sym (slice_get-map plain-Ty ts k)) ∙ ap (λ l. fixed Fixed (slice_get l k)) e
