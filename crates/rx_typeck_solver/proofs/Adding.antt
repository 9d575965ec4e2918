-- An entry that is added leaves what stood before it.
use Rattle.std.proofs.Common.{◌≡◌, ℕ, zero, suc, ◌+◌, ◌<◌, ◌≤◌, Bool, IsTrue, List, [], ◌∷◌, ◌++◌, length, get_or, refl, sym, ap, ◌∙◌, subst, ◌⊎◌, inl, inr, ⊎_elim, arith, length-append}
use Rattle.std.specs.Prelude.{min, max}
use Rattle.rx_typed.specs.Types.{tuple_of, reference, shape_and, levels, most_levels, parts, sum_of_parts, at_least_one}
use Rattle.rx_typeck_solver.specs.declared.arena.Form.{Form}
use Rattle.rx_typeck_solver.specs.declared.arena.Form.TheVariants as form
use Rattle.rx_typeck_solver.specs.declared.arena.Entry.{Entry}
use Rattle.rx_typeck_solver.specs.Cells.{Cell, one, many, term_in, shapes_in, is_one, is_many, blank, form_at, cell_form, cell_of, cell, term, IsTerm, IsList, FormOk, parts_in, levels_in, parts_at, levels_at, sizes_of, Built, Extends, Makes}
use Rattle.rx_typeck_solver.proofs.Base.{decide}

pub get_or-left : {A : Type 0} (xs ys : List A) (i : ℕ) (d : A) → i < length xs → get_or (xs ++ ys) i d ≡ get_or xs i d
get_or-left [] ys i d h = absurd (omega arith)
get_or-left (x ∷ xs) ys zero d h = refl
get_or-left (x ∷ xs) ys (suc i) d h = get_or-left xs ys i d (omega arith)

pub get_or-last : {A : Type 0} (xs : List A) (y d : A) → get_or (xs ++ y ∷ []) (length xs) d ≡ y
get_or-last [] y d = refl
get_or-last (x ∷ xs) y d = get_or-last xs y d

abbrev FormsBelow : List Entry → ℕ → Type 0
FormsBelow es n = (i : ℕ) → i < length es → FormOk es n i (form_at es i)

-- a form over equal cells
form_same : (es : List Entry) (n i : ℕ) (f : Form) (c d : ℕ → Cell) → FormOk es n i f → ((j : ℕ) → j < i → c j ≡ d j) → cell_form c f ≡ cell_form d f
form_same es n i (form.Fixed k) c d o h = refl
form_same es n i (form.KindOf m) c d o h = refl
form_same es n i form.Boolean c d o h = refl
form_same es n i (form.Tuple j) c d o h = ap (λ x. one (tuple_of (shapes_in x))) (h j o.0)
form_same es n i (form.Reference m j) c d o h = ap (λ x. one (reference m (term_in x))) (h j o.0)
form_same es n i (form.Named k) c d o h = refl
form_same es n i form.Nothing c d o h = refl
form_same es n i (form.And j k) c d o h = ap (λ x. many (shape_and (term_in x) (shapes_in (c k)))) (h j o.0) ∙ ap (λ x. many (shape_and (term_in (d j)) (shapes_in x))) (h k o.2)

-- two tables that agree below a number, looked at as deep as need be
cells_agree : (es us : List Entry) (n : ℕ) → FormsBelow es n → (m : ℕ) → m ≤ length es → ((j : ℕ) → j < m → form_at us j ≡ form_at es j) → (a b i : ℕ) → i < m → i < a → i < b → cell_of a us i ≡ cell_of b es i
cells_agree es us n o m le e zero b i h ha hb = absurd (omega arith)
cells_agree es us n o m le e (suc a) zero i h ha hb = absurd (omega arith)
cells_agree es us n o m le e (suc a) (suc b) i h ha hb =
    ap (cell_form (λ j. cell_of a us j)) (e i h)
    ∙ form_same es n i (form_at es i) (λ j. cell_of a us j) (λ j. cell_of b es j) (o i (omega (arith, h, le))) (λ j k. cells_agree es us n o m le e a b j (omega (arith, k, h)) (omega (arith, k, ha)) (omega (arith, k, hb)))

-- what an entry stands for, by its form
pub cell_is : (es : List Entry) (n : ℕ) → FormsBelow es n → (i : ℕ) → i < length es → cell es i ≡ cell_form (cell es) (form_at es i)
unfolding cell
cell_is es n o i h = form_same es n i (form_at es i) (λ j. cell_of i es j) (λ j. cell_of (suc j) es j) (o i h) (λ j k. cells_agree es es n o (length es) (omega arith) (λ _ _. refl) i (suc j) j (omega (arith, k, h)) k (omega arith))

kept : (es us : List Entry) (n : ℕ) → FormsBelow es n → (i : ℕ) → i < length es → cell (es ++ us) i ≡ cell es i
unfolding cell
kept es us n o i h = cells_agree es (es ++ us) n o (length es) (omega arith) (λ j k. ap (λ e. e.form) (get_or-left es us j blank k)) (suc i) (suc i) i h (omega arith) (omega arith)

pub extends_by : (es us : List Entry) (n : ℕ) → FormsBelow es n → Extends es (es ++ us)
extends_by es us n o = record { longer = let l = length-append es us in omega (arith, l); same = kept es us n o }

pub extends_all : (a b c : List Entry) → Extends a b → Extends b c → Extends a c
extends_all a b c x y = record { longer = let p = x.longer in let q = y.longer in omega (arith, p, q); same = λ i h. y.same i (let p = x.longer in omega (arith, p, h)) ∙ x.same i h }

pub extends_same : (a : List Entry) → Extends a a
extends_same a = record { longer = omega arith; same = λ i h. refl }

-- a fit form stays so
form_kept : (es us : List Entry) (n i : ℕ) (f : Form) → i ≤ length es → ((j : ℕ) → j < length es → cell us j ≡ cell es j) → FormOk es n i f → FormOk us n i f
form_kept es us n i (form.Fixed k) le e o = tt
form_kept es us n i (form.KindOf m) le e o = o
form_kept es us n i form.Boolean le e o = tt
form_kept es us n i (form.Tuple j) le e o = let h = o.0 in (o.0, subst (λ c. IsTrue (is_many c)) (sym (e j (omega (arith, h, le)))) o.1)
form_kept es us n i (form.Reference m j) le e o = let h = o.0 in (o.0, subst (λ c. IsTrue (is_one c)) (sym (e j (omega (arith, h, le)))) o.1)
form_kept es us n i (form.Named k) le e o = tt
form_kept es us n i form.Nothing le e o = tt
form_kept es us n i (form.And j k) le e o = let h = o.0 in let g = o.2 in (o.0, subst (λ c. IsTrue (is_one c)) (sym (e j (omega (arith, h, le)))) o.1, o.2, subst (λ c. IsTrue (is_many c)) (sym (e k (omega (arith, g, le)))) o.3)

at_end : (es : List Entry) (e : Entry) (i : ℕ) → i < length (es ++ e ∷ []) → (i < length es) ⊎ (i ≡ length es)
at_end es e i h = ⊎_elim (λ x. inr x) (λ n. inl (let l = length-append es (e ∷ []) in omega (arith, h, l, n))) (decide i (length es))

-- an entry is added
pub added : (sizes : List ℕ) (n : ℕ) (es new : List Entry) (e : Entry) (i : ℕ) (c : Cell) → Built sizes n es → new ≡ es ++ e ∷ [] → i ≡ length es → FormOk es n (length es) e.form → cell_form (cell es) e.form ≡ c → e.parts ≡ min (parts_in (sizes_of sizes) c) 4097 → e.levels ≡ min (levels_in c) 129 → Makes sizes n es new i c
added sizes n es new e i c b en ei o ec ep el = subst (λ us. Makes sizes n es us i c) (sym en) (subst (λ k. Makes sizes n es (es ++ e ∷ []) k c) (sym ei) make)
  where
    us : List Entry
    us = es ++ e ∷ []

    x : Extends es (es ++ e ∷ [])
    x = extends_by es (e ∷ []) n b.forms

    last : get_or (es ++ e ∷ []) (length es) blank ≡ e
    last = get_or-last es e blank

    old_form : (j : ℕ) → j < length es → form_at (es ++ e ∷ []) j ≡ form_at es j
    old_form j h = ap (λ e. e.form) (get_or-left es (e ∷ []) j blank h)

    forms : (j : ℕ) → j < length (es ++ e ∷ []) → FormOk (es ++ e ∷ []) n j (form_at (es ++ e ∷ []) j)
    forms j h = ⊎_elim
        (λ k. subst (λ f. FormOk (es ++ e ∷ []) n j f) (sym (old_form j k)) (form_kept es (es ++ e ∷ []) n j (form_at es j) (omega (arith, k)) x.same (b.forms j k)))
        (λ k. subst (λ m. FormOk (es ++ e ∷ []) n m (form_at (es ++ e ∷ []) m)) (sym k) (subst (λ f. FormOk (es ++ e ∷ []) n (length es) f) (sym (ap (λ e. e.form) last)) (form_kept es (es ++ e ∷ []) n (length es) e.form (omega arith) x.same o)))
        (at_end es e j h)

    in_it : length es < length (es ++ e ∷ [])
    in_it = let l = length-append es (e ∷ []) in omega (arith, l)

    is : cell (es ++ e ∷ []) (length es) ≡ c
    is = cell_is (es ++ e ∷ []) n forms (length es) in_it ∙ ap (cell_form (cell (es ++ e ∷ []))) (ap (λ e. e.form) last)
        ∙ form_same es n (length es) e.form (cell (es ++ e ∷ [])) (cell es) o x.same ∙ ec

    make : Makes sizes n es (es ++ e ∷ []) (length es) c
    make = record {
      extends = x;
      built = record {
        forms = forms;
        sized = λ j h. ⊎_elim
            (λ k. ap (λ e. e.parts) (get_or-left es (e ∷ []) j blank k) ∙ b.sized j k ∙ ap (λ c. min (parts_in (sizes_of sizes) c) 4097) (sym (x.same j k)))
            (λ k. subst (λ m. parts_at (es ++ e ∷ []) m ≡ min (parts_in (sizes_of sizes) (cell (es ++ e ∷ []) m)) 4097) (sym k) (ap (λ e. e.parts) last ∙ ep ∙ ap (λ c. min (parts_in (sizes_of sizes) c) 4097) (sym is)))
            (at_end es e j h);
        high = λ j h. ⊎_elim
            (λ k. ap (λ e. e.levels) (get_or-left es (e ∷ []) j blank k) ∙ b.high j k ∙ ap (λ c. min (levels_in c) 129) (sym (x.same j k)))
            (λ k. subst (λ m. levels_at (es ++ e ∷ []) m ≡ min (levels_in (cell (es ++ e ∷ []) m)) 129) (sym k) (ap (λ e. e.levels) last ∙ el ∙ ap (λ c. min (levels_in c) 129) (sym is)))
            (at_end es e j h);
      };
      within = in_it;
      is = is;
    }

pub one_is : (c : Cell) → IsTrue (is_one c) → c ≡ one (term_in c)
one_is (one t) h = refl
one_is (many ts) h = cc

pub many_is : (c : Cell) → IsTrue (is_many c) → c ≡ many (shapes_in c)
many_is (one t) h = cc
many_is (many ts) h = refl

-- parts and levels of an entry that is a shape, or a list of them
pub term_parts : (sizes : List ℕ) (n : ℕ) (es : List Entry) (j p : ℕ) → Built sizes n es → IsTerm es j → p ≡ parts_at es j → p ≡ min (parts (sizes_of sizes) (term es j)) 4097
term_parts sizes n es j p b t e = e ∙ b.sized j t.0 ∙ ap (λ c. min (parts_in (sizes_of sizes) c) 4097) (one_is (cell es j) t.1)

pub term_levels : (sizes : List ℕ) (n : ℕ) (es : List Entry) (j l : ℕ) → Built sizes n es → IsTerm es j → l ≡ levels_at es j → l ≡ min (levels (term es j)) 129
term_levels sizes n es j l b t e = e ∙ b.high j t.0 ∙ ap (λ c. min (levels_in c) 129) (one_is (cell es j) t.1)

pub list_parts : (sizes : List ℕ) (n : ℕ) (es : List Entry) (j p : ℕ) → Built sizes n es → IsList es j → p ≡ parts_at es j → p ≡ min (sum_of_parts (sizes_of sizes) (shapes_in (cell es j))) 4097
list_parts sizes n es j p b t e = e ∙ b.sized j t.0 ∙ ap (λ c. min (parts_in (sizes_of sizes) c) 4097) (many_is (cell es j) t.1)

pub list_levels : (sizes : List ℕ) (n : ℕ) (es : List Entry) (j l : ℕ) → Built sizes n es → IsList es j → l ≡ levels_at es j → l ≡ min (most_levels (shapes_in (cell es j))) 129
list_levels sizes n es j l b t e = e ∙ b.high j t.0 ∙ ap (λ c. min (levels_in c) 129) (many_is (cell es j) t.1)

pub few_at_least : (s : ℕ) (p q : ℕ) → p ≡ min s 4097 → q ≡ max p 1 → q ≡ min (at_least_one s) 4097
few_at_least zero p q e f = omega (arith, e, f)
few_at_least (suc s) p q e f = omega (arith, e, f)

abbrev entry : Form → ℕ → ℕ → Entry
entry f p l = record { form = f; parts = p; levels = l }

pub added_reference : (sizes : List ℕ) (n : ℕ) (es new : List Entry) (m : Bool) (j p l q k i : ℕ) → IsTerm es j → Built sizes n es → q ≡ parts_at es j → p ≡ min (q + 1) 4097 → k ≡ levels_at es j → l ≡ min (k + 1) 129 → new ≡ es ++ record { form = form.Reference m j; parts = p; levels = l } ∷ [] → i ≡ length es → Makes sizes n es new i (one (reference m (term es j)))
added_reference sizes n es new m j p l q k i t b eq ep ek el en ei =
    let a = term_parts sizes n es j q b t eq in let c = term_levels sizes n es j k b t ek in
    added sizes n es new (entry (form.Reference m j) p l) i (one (reference m (term es j))) b en ei t refl (omega (arith, a, ep)) (omega (arith, c, el))

pub added_tuple : (sizes : List ℕ) (n : ℕ) (es new : List Entry) (j p l q k i : ℕ) → IsList es j → Built sizes n es → q ≡ parts_at es j → p ≡ max q 1 → k ≡ levels_at es j → l ≡ min (k + 1) 129 → new ≡ es ++ record { form = form.Tuple j; parts = p; levels = l } ∷ [] → i ≡ length es → Makes sizes n es new i (one (tuple_of (shapes_in (cell es j))))
added_tuple sizes n es new j p l q k i t b eq ep ek el en ei =
    let a = list_parts sizes n es j q b t eq in let c = list_levels sizes n es j k b t ek in
    added sizes n es new (entry (form.Tuple j) p l) i (one (tuple_of (shapes_in (cell es j)))) b en ei t refl (few_at_least (sum_of_parts (sizes_of sizes) (shapes_in (cell es j))) q p a ep) (omega (arith, c, el))

pub added_and : (sizes : List ℕ) (n : ℕ) (es new : List Entry) (j h p l q r k m i : ℕ) → IsTerm es j → IsList es h → Built sizes n es → q ≡ parts_at es j → r ≡ parts_at es h → p ≡ min (q + r) 4097 → k ≡ levels_at es j → m ≡ levels_at es h → l ≡ max k m → new ≡ es ++ record { form = form.And j h; parts = p; levels = l } ∷ [] → i ≡ length es → Makes sizes n es new i (many (shape_and (term es j) (shapes_in (cell es h))))
added_and sizes n es new j h p l q r k m i t u b eq er ep ek em el en ei =
    let a = term_parts sizes n es j q b t eq in let c = term_levels sizes n es j k b t ek in
    let d = list_parts sizes n es h r b u er in let e = list_levels sizes n es h m b u em in
    added sizes n es new (entry (form.And j h) p l) i (many (shape_and (term es j) (shapes_in (cell es h)))) b en ei (t.0, t.1, u.0, u.1) refl (omega (arith, a, d, ep)) (omega (arith, c, e, el))
