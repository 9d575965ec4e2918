-- What forms show of types is so.
use Rattle.std.proofs.Common.{◌≡◌, ℕ, zero, suc, ◌+◌, ◌-◌, ◌<◌, ◌≤◌, Bool, true, false, not, ◌&&◌, IsTrue, List, [], ◌∷◌, length, map, Option, Some, nat_eq, refl, sym, ap, ◌∙◌, subst, arith, ◌⊎◌, ⊎_elim, eq-eqb, ne_eqb, ◌↔◌, ◌||◌}
use Rattle.std.proofs.lemmas.Bool.{le-leb, lt-leb}
use Rattle.rx_typeck_solver.proofs.Base.{decide}
use Rattle.std.specs.Prelude.{nat_le, min, max, slice_get}
use Rattle.rx_typed.specs.Types.{Shape, Shapes, integer, boolean, tuple_of, reference, named, no_shape, shape_and, shapes_map, outline, shapes_listed, peeled, Declarations, copies, all_copy, derives_copy, levels, most_levels, parts, sum_of_parts, at_least_one, keeps_limits, Outline, FieldDeclared}
use Rattle.rx_typed.specs.declared.declarations.FieldDecl.{FieldDecl}
use Rattle.rx_typed.specs.PlainTypes.{plain-FieldDecl}
use Rattle.std.specs.Str.{bytes_eq}
use Rattle.std.proofs.lemmas.Slice.Eq.{bytes_eq-Decides}
use Rattle.rx_typeck_solver.specs.Growing.{only_one}
use Rattle.rx_typeck_solver.specs.declared.arena.Form.{Form}
use Rattle.rx_typeck_solver.specs.declared.arena.Form.TheVariants as form
use Rattle.rx_typeck_solver.specs.declared.arena.Entry.{Entry}
use Rattle.rx_typeck_solver.specs.Facts.{is_plain, is_integer, is_truth, is_tuple, is_item, is_mutable_reference, is_lent, test_one, is_among, all_among, names_of, exactly}
use Rattle.rx_typeck_solver.specs.Solver.{Leaf, Term}
use Rattle.rx_typeck_solver.specs.Cells.{Cell, one, many, term_in, shapes_in, is_one, is_many, form_at, cell_form, cell, term, IsTerm, IsList, FormOk, Formable, parts_in, levels_in, parts_at, levels_at, sizes_of}
use Rattle.rx_typeck_solver.specs.Tabled.{Sized}
use Rattle.rx_typeck_solver.specs.Looks.{plain_form, integer_form, truth_form, item_form, mutable_form, copies_cell}
use Rattle.rx_typeck_solver.proofs.Natural.{peeled_map}
use Rattle.rx_typeck_solver.proofs.Adding.{cell_is, one_is}
use Rattle.rx_typeck_solver.proofs.Pairing.{term_is}

eq_same : (a b c d : ℕ) → (a ≡ b → c ≡ d) → (c ≡ d → a ≡ b) → nat_eq a b ≡ nat_eq c d
eq_same a b c d f g = ⊎_elim (λ e. eq-eqb a b e ∙ sym (eq-eqb c d (f e))) (λ n. ne_eqb a b n ∙ sym (ne_eqb c d (λ e. n (g e)))) (decide a b)

le_same : (a b c d : ℕ) → (a ≤ b → c ≤ d) → (c ≤ d → a ≤ b) → nat_le a b ≡ nat_le c d
le_same a b c d f g = ⊎_elim (λ h. le-leb a b h ∙ sym (le-leb c d (f h))) (λ h. lt-leb a b h ∙ sym (lt-leb c d (⊎_elim (λ k. let p = g k in absurd (omega (arith, p, h))) (λ k. k) (either c d)))) (either a b)
  where
    either : (a b : ℕ) → (a ≤ b) ⊎ (b < a)
    either a b = grind arith

module _ (es : List Entry) (o : Formable es) (i : ℕ) (f : Form) (t : IsTerm es i) (e : f ≡ form_at es i) where
  is : term es i ≡ term_in (cell_form (cell es) f)
  is = term_is es o.0 i f o.1 t.0 e

  is_shape : IsTrue (is_one (cell_form (cell es) f))
  is_shape = subst (λ c. IsTrue (is_one c)) (cell_is es o.0 o.1 i t.0 ∙ ap (cell_form (cell es)) (sym e)) t.1

  plain : (c : ℕ → Cell) (f : Form) → IsTrue (is_one (cell_form c f)) → plain_form f ≡ is_plain (outline (term_in (cell_form c f)))
  plain c form.Nothing h = cc
  plain c (form.And x y) h = cc
  plain c (form.Fixed k) h = refl
  plain c _ h = refl

  pub plain_is : (b : Bool) → b ≡ plain_form f → b ≡ is_plain (outline (term es i))
  plain_is b q = q ∙ plain (cell es) f is_shape ∙ ap (λ u. is_plain (outline u)) (sym is)

  mutable : (c : ℕ → Cell) (f : Form) → IsTrue (is_one (cell_form c f)) → mutable_form f ≡ is_mutable_reference (outline (term_in (cell_form c f)))
  mutable c form.Nothing h = cc
  mutable c (form.And x y) h = cc
  mutable c (form.Fixed k) h = refl
  mutable c _ h = refl

  pub mutable_is : (b : Bool) → b ≡ mutable_form f → b ≡ is_mutable_reference (outline (term es i))
  mutable_is b q = q ∙ mutable (cell es) f is_shape ∙ ap (λ u. is_mutable_reference (outline u)) (sym is)

  integer_at : (c : ℕ → Cell) (f : Form) → IsTrue (is_one (cell_form c f)) → integer_form f ≡ is_integer (outline (term_in (cell_form c f)))
  integer_at c form.Nothing h = cc
  integer_at c (form.And x y) h = cc
  integer_at c (form.Fixed k) h = refl
  integer_at c _ h = refl

  under : (k : Term) → term es i ≡ peeled k → outline (term_in (cell_form (cell es) f)) ≡ peeled (outline k)
  under k q = ap outline (sym is ∙ q) ∙ sym (peeled_map (λ x. tt {0}) k)

  pub integer_is : (b : Bool) (k : Term) → b ≡ integer_form f → term es i ≡ peeled k → b ≡ is_integer (peeled (outline k))
  integer_is b k q w = q ∙ integer_at (cell es) f is_shape ∙ ap is_integer (under k w)

  truth : (c : ℕ → Cell) (f : Form) → IsTrue (is_one (cell_form c f)) → truth_form f ≡ is_truth (outline (term_in (cell_form c f)))
  truth c form.Nothing h = cc
  truth c (form.And x y) h = cc
  truth c (form.Fixed k) h = refl
  truth c _ h = refl

  pub truth_is : (b : Bool) (k : Term) → b ≡ truth_form f → term es i ≡ peeled k → b ≡ is_truth (peeled (outline k))
  truth_is b k q w = q ∙ truth (cell es) f is_shape ∙ ap is_truth (under k w)

  item : (c : ℕ → Cell) (j : ℕ) (f : Form) → IsTrue (is_one (cell_form c f)) → item_form j f ≡ is_item j (outline (term_in (cell_form c f)))
  item c j form.Nothing h = cc
  item c j (form.And x y) h = cc
  item c j (form.Fixed k) h = refl
  item c j _ h = refl

  pub item_is : (b : Bool) (j : ℕ) (k : Term) → b ≡ item_form j f → term es i ≡ peeled k → b ≡ is_item j (peeled (outline k))
  item_is b j k q w = q ∙ item (cell es) j f is_shape ∙ ap (is_item j) (under k w)

  count : (ts : Shapes Leaf) → length (shapes_listed (shapes_map (λ x. tt {0}) ts)) ≡ length (shapes_listed ts)
  count no_shape = refl
  count (shape_and t ts) = ap suc (count ts)

  pub tuple_is : (b : Bool) (n j : ℕ) (k : Term) → f ≡ form.Tuple j → b ≡ nat_eq (length (shapes_listed (shapes_in (cell es j)))) n → term es i ≡ peeled k → b ≡ is_tuple n (peeled (outline k))
  tuple_is b n j k r q w = q ∙ ap (λ x. nat_eq x n) (sym (count (shapes_in (cell es j)))) ∙ ap (λ g. is_tuple n (outline (term_in (cell_form (cell es) g)))) (sym r) ∙ ap (is_tuple n) (under k w)

  no_tuple : (c : ℕ → Cell) (n : ℕ) (f : Form) → ((j : ℕ) → f ≡ form.Tuple j → ⊥) → IsTrue (is_one (cell_form c f)) → false ≡ is_tuple n (outline (term_in (cell_form c f)))
  no_tuple c n (form.Tuple j) k h = absurd (k j refl)
  no_tuple c n form.Nothing k h = cc
  no_tuple c n (form.And x y) k h = cc
  no_tuple c n (form.Fixed x) k h = refl
  no_tuple c n _ k h = refl

  pub tuple_not : (n : ℕ) (k : Term) → ((j : ℕ) → f ≡ form.Tuple j → ⊥) → term es i ≡ peeled k → false ≡ is_tuple n (peeled (outline k))
  tuple_not n k h w = no_tuple (cell es) n f h is_shape ∙ ap (is_tuple n) (under k w)

lent : (a b : Shape (Unit {0})) → is_lent a b ≡ is_mutable_reference a && is_mutable_reference b
lent (reference true t) (reference true u) = refl
lent (reference true t) (reference false u) = refl
lent (reference true t) _ = refl
lent (reference false t) u = refl
lent _ u = refl

pub lent_both : (a b : Shape (Unit {0})) (x y : Bool) → x ≡ is_mutable_reference a → y ≡ is_mutable_reference b → x && y ≡ is_lent a b
lent_both a b x y e f = ap (λ z. z && y) e ∙ ap (λ z. is_mutable_reference a && z) f ∙ sym (lent a b)

-- ---- lists

module _ (es : List Entry) (o : Formable es) (i : ℕ) (f : Form) (t : IsList es i) (e : f ≡ form_at es i) where
  cell_here : cell es i ≡ cell_form (cell es) f
  cell_here = cell_is es o.0 o.1 i t.0 ∙ ap (cell_form (cell es)) (sym e)

  others : (j k : ℕ) → f ≡ form.And j k → IsList es k × (length (shapes_listed (shapes_in (cell es i))) ≡ suc (length (shapes_listed (shapes_in (cell es k)))))
  others j k r = let p = subst (λ g. FormOk es o.0 i g) (sym e ∙ r) (o.1 i t.0) in let b = p.2 in let h = t.0 in
      ((omega (arith, b, h), p.3), ap (λ c. length (shapes_listed (shapes_in c))) (cell_here ∙ ap (cell_form (cell es)) r))

  pub longer : (j k left : ℕ) (w : Bool) → f ≡ form.And j k → left ≡ 0 → nat_eq (length (shapes_listed (shapes_in (cell es i)))) left ≡ w → false ≡ w
  longer j k left w r z q = sym (ne_eqb (length (shapes_listed (shapes_in (cell es i)))) left (λ h. let l = (others j k r).1 in omega (arith, h, z, l))) ∙ q

  shorter : (n left : ℕ) → (left ≡ 0 → ⊥) → nat_eq (suc n) left ≡ nat_eq n (left - 1)
  shorter n zero h = absurd (h refl)
  shorter n (suc left) h = eq_same (suc n) (suc left) n (suc left - 1) (λ e. omega (arith, e)) (λ e. omega (arith, e))

  pub as_long_more : (j k left : ℕ) (w : Bool) → f ≡ form.And j k → (left ≡ 0 → ⊥) → nat_eq (length (shapes_listed (shapes_in (cell es i)))) left ≡ w → IsList es k × (nat_eq (length (shapes_listed (shapes_in (cell es k)))) (left - 1) ≡ w)
  as_long_more j k left w r n q = let p = others j k r in (p.0, sym (ap (λ m. nat_eq m left) p.1 ∙ shorter (length (shapes_listed (shapes_in (cell es k)))) left n) ∙ q)

  none_left : (c : ℕ → Cell) (f : Form) → ((j k : ℕ) → f ≡ form.And j k → ⊥) → IsTrue (is_many (cell_form c f)) → shapes_listed (shapes_in (cell_form c f)) ≡ []
  none_left c (form.And j k) n h = absurd (n j k refl)
  none_left c form.Nothing n h = refl
  none_left c _ n h = cc

  pub as_long_end : (left : ℕ) (b w : Bool) → ((j k : ℕ) → f ≡ form.And j k → ⊥) → b ≡ nat_eq left 0 → nat_eq (length (shapes_listed (shapes_in (cell es i)))) left ≡ w → b ≡ w
  as_long_end left b w n h q = h ∙ swap left ∙ ap (λ l. nat_eq (length l) left) (sym (ap (λ c. shapes_listed (shapes_in c)) cell_here ∙ none_left (cell es) f n (subst (λ c. IsTrue (is_many c)) cell_here t.1))) ∙ q
    where
      swap : (n : ℕ) → nat_eq n 0 ≡ nat_eq 0 n
      swap n = eq_same n 0 0 n (λ e. sym e) (λ e. sym e)

-- ---- Copy

mutual
  copies_outline : (D : Declarations) (t : Term) → copies D (outline t) ≡ copies D t
  copies_outline D (integer k) = refl
  copies_outline D boolean = refl
  copies_outline D (tuple_of ts) = all_outline D ts
  copies_outline D (reference m t) = refl
  copies_outline D (named i) = refl

  all_outline : (D : Declarations) (ts : Shapes Leaf) → all_copy D (shapes_map (λ k. tt {0}) ts) ≡ all_copy D ts
  all_outline D no_shape = refl
  all_outline D (shape_and t ts) = ap (λ b. b && all_copy D (shapes_map (λ k. tt {0}) ts)) (copies_outline D t) ∙ ap (λ b. copies D t && b) (all_outline D ts)

pub copy_is : (D : Declarations) (es : List Entry) (i : ℕ) (b : Bool) → IsTerm es i → b ≡ copies_cell D (cell es i) → b ≡ copies D (outline (term es i))
copy_is D es i b t e = e ∙ ap (copies_cell D) (one_is (cell es i) t.1) ∙ sym (copies_outline D (term es i))

-- whether a form is Copy, by the cells that it names
abbrev copies_form : Declarations → (ℕ → Cell) → Form → Bool
copies_form D c (form.Tuple j) = copies_cell D (c j)
copies_form D c (form.Reference m j) = not m
copies_form D c (form.Named i) = derives_copy (slice_get D i)
copies_form D c (form.And j k) = copies_cell D (c j) && copies_cell D (c k)
copies_form D c _ = true

many_copy : (D : Declarations) (c : Cell) → IsTrue (is_many c) → all_copy D (shapes_in c) ≡ copies_cell D c
many_copy D (one t) h = cc
many_copy D (many ts) h = refl

one_copy : (D : Declarations) (c : Cell) → IsTrue (is_one c) → copies D (term_in c) ≡ copies_cell D c
one_copy D (one t) h = refl
one_copy D (many ts) h = cc

copies_by : (D : Declarations) (es : List Entry) (n i : ℕ) (f : Form) → FormOk es n i f → copies_cell D (cell_form (cell es) f) ≡ copies_form D (cell es) f
copies_by D es n i (form.Tuple j) o = many_copy D (cell es j) o.1
copies_by D es n i (form.And j k) o = ap (λ b. b && all_copy D (shapes_in (cell es k))) (one_copy D (cell es j) o.1) ∙ ap (λ b. copies_cell D (cell es j) && b) (many_copy D (cell es k) o.3)
copies_by D es n i (form.Fixed k) o = refl
copies_by D es n i _ o = refl

pub copies_here : (D : Declarations) (es : List Entry) (o : Formable es) (i : ℕ) (f g : Form) → i < length es → f ≡ form_at es i → f ≡ g → copies_cell D (cell es i) ≡ copies_form D (cell es) g
copies_here D es o i f g h e r = ap (copies_cell D) (cell_is es o.0 o.1 i h) ∙ copies_by D es o.0 i (form_at es i) (o.1 i h) ∙ ap (copies_form D (cell es)) (sym e ∙ r)

-- ---- limits

mutual
  parts_outline : (P : ℕ → ℕ) (t : Term) → parts P (outline t) ≡ parts P t
  parts_outline P (integer k) = refl
  parts_outline P boolean = refl
  parts_outline P (tuple_of ts) = ap at_least_one (sum_outline P ts)
  parts_outline P (reference m t) = ap suc (parts_outline P t)
  parts_outline P (named i) = refl

  sum_outline : (P : ℕ → ℕ) (ts : Shapes Leaf) → sum_of_parts P (shapes_map (λ k. tt {0}) ts) ≡ sum_of_parts P ts
  sum_outline P no_shape = refl
  sum_outline P (shape_and t ts) = ap (λ n. n + sum_of_parts P (shapes_map (λ k. tt {0}) ts)) (parts_outline P t) ∙ ap (λ n. parts P t + n) (sum_outline P ts)

mutual
  levels_outline : (t : Term) → levels (outline t) ≡ levels t
  levels_outline (integer k) = refl
  levels_outline boolean = refl
  levels_outline (tuple_of ts) = ap suc (most_outline ts)
  levels_outline (reference m t) = ap suc (levels_outline t)
  levels_outline (named i) = refl

  most_outline : (ts : Shapes Leaf) → most_levels (shapes_map (λ k. tt {0}) ts) ≡ most_levels ts
  most_outline no_shape = refl
  most_outline (shape_and t ts) = ap (λ n. max n (most_levels (shapes_map (λ k. tt {0}) ts))) (levels_outline t) ∙ ap (λ n. max (levels t) n) (most_outline ts)

capped : (n m : ℕ) → nat_le (min n (m + 1)) m ≡ nat_le n m
capped n m = le_same (min n (m + 1)) m n m (λ h. omega (arith, h)) (λ h. omega (arith, h))

pub limits_kept : (sizes : List ℕ) (es : List Entry) (i : ℕ) (b : Bool) → Sized sizes es → IsTerm es i → b ≡ nat_le (parts_at es i) 4096 && nat_le (levels_at es i) 128 → b ≡ keeps_limits (sizes_of sizes) (outline (term es i))
limits_kept sizes es i b s t e =
    let c = one_is (cell es i) t.1 in
    let p : parts_at es i ≡ min (parts (sizes_of sizes) (term es i)) 4097 = s.parts i t.0 ∙ ap (λ c. min (parts_in (sizes_of sizes) c) 4097) c in
    let l : levels_at es i ≡ min (levels (term es i)) 129 = s.levels i t.0 ∙ ap (λ c. min (levels_in c) 129) c in
    e ∙ ap (λ n. nat_le n 4096 && nat_le (levels_at es i) 128) p ∙ ap (λ n. nat_le (min (parts (sizes_of sizes) (term es i)) 4097) 4096 && nat_le n 128) l
    ∙ ap (λ x. x && nat_le (min (levels (term es i)) 129) 128) (capped (parts (sizes_of sizes) (term es i)) 4096) ∙ ap (λ x. nat_le (parts (sizes_of sizes) (term es i)) 4096 && x) (capped (levels (term es i)) 128)
    ∙ ap (λ n. nat_le n 4096 && nat_le (levels (term es i)) 128) (sym (parts_outline (sizes_of sizes) (term es i))) ∙ ap (λ n. nat_le (parts (sizes_of sizes) (outline (term es i))) 4096 && nat_le n 128) (sym (levels_outline (term es i)))

-- ---- tests of lists

pub test_one_entry : (f : Outline → Bool) (es : List Entry) (js : List ℕ) (r : Option ℕ) (i : ℕ) → r ≡ only_one js → r ≡ Some i → f (outline (term es i)) ≡ test_one f (map outline (map (term es) js))
test_one_entry f es [] r i e s = cc
test_one_entry f es (j ∷ []) r i e s = let q : i ≡ j = cc in ap (λ x. f (outline (term es x))) q
test_one_entry f es (j ∷ k ∷ js) r i e s = cc

pub among_true : (x s : List ℕ) (l rest : List (List ℕ)) (b w : Bool) → l ≡ s ∷ rest → (IsTrue b ↔ (s ≡ x)) → b ≡ true → is_among x l ≡ w → true ≡ w
among_true x s l rest b w e d h q = sym (ap (is_among x) e ∙ ap (λ c. c || is_among x rest) ((bytes_eq-Decides s x).1 (d.0 h))) ∙ q

pub among_false : (x s : List ℕ) (l rest : List (List ℕ)) (b w : Bool) → l ≡ s ∷ rest → (IsTrue b ↔ (s ≡ x)) → b ≡ false → is_among x l ≡ w → is_among x rest ≡ w
among_false x s l rest b w e d h q = sym (ap (is_among x) e ∙ ap (λ c. c || is_among x rest) (go (bytes_eq s x) refl)) ∙ q
  where
    go : (c : Bool) → bytes_eq s x ≡ c → bytes_eq s x ≡ false
    go true p = let t : b ≡ true = d.1 ((bytes_eq-Decides s x).0 p) in cc
    go false p = p

count_names : (fs : List FieldDecl) → length (names_of (map plain-FieldDecl fs)) ≡ length fs
count_names [] = refl
count_names (f ∷ fs) = ap suc (count_names fs)

pub fields_exact : (fs : List FieldDecl) (F : List FieldDeclared) (xs : List (List ℕ)) (n : ℕ) (b : Bool) → map plain-FieldDecl fs ≡ F → n ≡ length xs → b ≡ all_among (names_of (map plain-FieldDecl fs)) xs → nat_eq (length fs) n && b ≡ exactly (names_of F) xs
fields_exact fs F xs n b e en eb =
    ap (λ c. nat_eq (length fs) n && c) eb ∙ ap (λ m. nat_eq (length fs) m && all_among (names_of (map plain-FieldDecl fs)) xs) en
    ∙ ap (λ m. nat_eq m (length xs) && all_among (names_of (map plain-FieldDecl fs)) xs) (sym (count_names fs)) ∙ ap (λ l. exactly (names_of l) xs) e

pub fields_then : (fs : List FieldDecl) (F : List FieldDeclared) (xs : List (List ℕ)) (n : ℕ) (b : Bool) → map plain-FieldDecl fs ≡ F → n ≡ length xs → b ≡ all_among (names_of (map plain-FieldDecl fs)) xs → length fs ≡ n → b ≡ exactly (names_of F) xs
fields_then fs F xs n b e en eb h = sym (ap (λ c. c && b) (eq-eqb (length fs) n h)) ∙ fields_exact fs F xs n b e en eb

pub fields_else : (fs : List FieldDecl) (F : List FieldDeclared) (xs : List (List ℕ)) (n : ℕ) → map plain-FieldDecl fs ≡ F → n ≡ length xs → (length fs ≡ n → ⊥) → nat_eq (length fs) n ≡ exactly (names_of F) xs
fields_else fs F xs n e en h = ne_eqb (length fs) n h ∙ sym (ap (λ c. c && all_among (names_of (map plain-FieldDecl fs)) xs) (ne_eqb (length fs) n h)) ∙ fields_exact fs F xs n _ e en refl
