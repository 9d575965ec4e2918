-- What two entries ask is what their shapes ask.
use Rattle.std.proofs.Common.{◌≡◌, ℕ, ◌<◌, Bool, true, false, ◌&&◌, IsTrue, List, length, nat_eq, refl, sym, ap, ◌∙◌, subst, arith, eq-eqb}
use Rattle.std.specs.Prelude.{min, max}
use Rattle.rx_core.specs.declared.types.Kind.{Kind}
use Rattle.rx_typed.specs.Types.{Shapes, integer, boolean, tuple_of, reference, named, no_shape, shape_and, peeled}
use Rattle.rx_typeck_solver.specs.declared.facts.Kinds.{Kinds}
use Rattle.rx_typeck_solver.specs.declared.arena.Form.{Form}
use Rattle.rx_typeck_solver.specs.declared.arena.Form.TheVariants as form
use Rattle.rx_typeck_solver.specs.declared.arena.Entry.{Entry}
use Rattle.rx_typeck_solver.specs.declared.unify.Pair.{Pair}
use Rattle.rx_typeck_solver.specs.Facts.{has}
use Rattle.rx_typeck_solver.specs.Solver.{Leaf, Fixed, KindOf, Term, State, upd, Step, Go, No, so, go_if, only, meet, some_kind, join, merge, unify_leaf, unify, unify_each, integer_in}
use Rattle.rx_typeck_solver.specs.Parents.{step_if}
use Rattle.rx_typeck_solver.specs.Cells.{Cell, one, many, term_in, shapes_in, is_one, is_many, form_at, cell_form, cell, FormOk, Formed}
use Rattle.rx_typeck_solver.specs.Pairs.{unify_cells, pair_of, pair_step}
use Rattle.rx_typeck_solver.proofs.Base.{upd_elim}
use Rattle.rx_typeck_solver.proofs.Parenthood.{fun_ext}
use Rattle.rx_typeck_solver.proofs.Adding.{cell_is}

both_one : (c d : Cell) (st : State) → IsTrue (is_one c) → IsTrue (is_one d) → unify (term_in c) (term_in d) st ≡ unify_cells c d st
both_one (one t) (one u) st h k = refl
both_one (one t) (many us) st h k = cc
both_one (many ts) d st h k = cc

both_many : (c d : Cell) (st : State) → IsTrue (is_many c) → IsTrue (is_many d) → unify_each (shapes_in c) (shapes_in d) st ≡ unify_cells c d st
both_many (many ts) (many us) st h k = refl
both_many (many ts) (one u) st h k = cc
both_many (one t) d st h k = cc

both_and : (c d k l : Cell) (st : State) → IsTrue (is_one c) → IsTrue (is_one d) → IsTrue (is_many k) → IsTrue (is_many l) → so (unify (term_in c) (term_in d) st) (λ s. unify_each (shapes_in k) (shapes_in l) s) ≡ so (unify_cells c d st) (λ s. unify_cells k l s)
both_and (one t) (one u) (many ts) (many us) st a b x y = refl
both_and (one t) (one u) (many ts) (one w) st a b x y = cc
both_and (one t) (one u) (one v) l st a b x y = cc
both_and (one t) (many us) k l st a b x y = cc
both_and (many ts) d k l st a b x y = cc

paired : (es : List Entry) (n i j : ℕ) (f g : Form) (st : State) → FormOk es n i f → FormOk es n j g → unify_cells (cell_form (cell es) f) (cell_form (cell es) g) st ≡ pair_step (cell es) (pair_of f g) st
paired es n i j (form.Fixed k) (form.Fixed l) st o p = refl
paired es n i j (form.Fixed k) (form.KindOf m) st o p = refl
paired es n i j (form.KindOf m) (form.Fixed l) st o p = refl
paired es n i j (form.KindOf m) (form.KindOf q) st o p = refl
paired es n i j form.Boolean form.Boolean st o p = refl
paired es n i j (form.Tuple x) (form.Tuple y) st o p = both_many (cell es x) (cell es y) st o.1 p.1
paired es n i j (form.Reference true x) (form.Reference true y) st o p = both_one (cell es x) (cell es y) st o.1 p.1
paired es n i j (form.Reference false x) (form.Reference false y) st o p = both_one (cell es x) (cell es y) st o.1 p.1
paired es n i j (form.Named x) (form.Named y) st o p = refl
paired es n i j form.Nothing form.Nothing st o p = refl
paired es n i j (form.And x k) (form.And y l) st o p = both_and (cell es x) (cell es y) (cell es k) (cell es l) st o.1 p.1 o.3 p.3
paired es n i j _ _ st o p = refl

pub by_pair : (es : List Entry) (n a b : ℕ) (f g : Form) (p : Pair) (st : State) → Formed n es → a < length es → b < length es → f ≡ form_at es a → g ≡ form_at es b → p ≡ pair_of f g → unify_cells (cell es a) (cell es b) st ≡ pair_step (cell es) p st
by_pair es n a b f g p st o ha hb ef eg ep =
    ap (λ c. unify_cells c (cell es b) st) (cell_is es n o a ha) ∙ ap (λ c. unify_cells (cell_form (cell es) (form_at es a)) c st) (cell_is es n o b hb)
    ∙ paired es n a b (form_at es a) (form_at es b) st (o a ha) (o b hb)
    ∙ ap (λ x. pair_step (cell es) (pair_of x (form_at es b)) st) (sym ef) ∙ ap (λ x. pair_step (cell es) (pair_of f x) st) (sym eg) ∙ ap (λ x. pair_step (cell es) x st) (sym ep)

-- ---- a shape and itself

and_same : (a : Bool) → a && a ≡ a
and_same true = refl
and_same false = refl

meet_same : (s : Kinds) → meet s s ≡ s
meet_same s = λ i. record { u8 = and_same s.u8 i; u32 = and_same s.u32 i; u64 = and_same s.u64 i; i32 = and_same s.i32 i; i64 = and_same s.i64 i }

goes : (b : Bool) (st : State) → IsTrue b → go_if b st ≡ Go st
goes true st h = refl
goes false st h = cc

has_itself : (k : Kind) → IsTrue (has (only k) k)
has_itself Kind.U8 = refl
has_itself _ = refl

join_same : (st : State) (r : ℕ) → IsTrue (some_kind (st.set r)) → join r r st ≡ Go st
join_same st r h =
    let both : meet (st.set r) (st.set r) ≡ st.set r = meet_same (st.set r) in
    let reps : (λ z. upd r r (λ x. x) (st.rep z)) ≡ st.rep = fun_ext (λ z. upd r r (λ x. x) (st.rep z)) st.rep (λ z. upd_elim (λ y. y ≡ st.rep z) r r (λ x. x) (st.rep z) (λ e. sym e) (λ _. refl)) in
    let sets : upd r (st.set r) st.set ≡ st.set = fun_ext (upd r (st.set r) st.set) st.set (λ z. upd_elim (λ y. y ≡ st.set z) r (st.set r) st.set z (λ e. ap st.set (sym e)) (λ _. refl)) in
    let all : record { shapes = st.shapes; rep = λ z. upd r r (λ x. x) (st.rep z); set = upd r (st.set r) st.set } ≡ st =
    ap (λ (x : ℕ → ℕ). record { shapes = st.shapes; rep = x; set = upd r (st.set r) st.set }) reps ∙ ap (λ (x : ℕ → Kinds). record { shapes = st.shapes; rep = st.rep; set = x }) sets in
    ap (λ x. go_if (some_kind x) (record { shapes = st.shapes; rep = λ z. upd r r (λ x. x) (st.rep z); set = upd r x st.set })) both
    ∙ goes (some_kind (st.set r)) (record { shapes = st.shapes; rep = λ z. upd r r (λ x. x) (st.rep z); set = upd r (st.set r) st.set }) h ∙ ap Go all

merge_same : (st : State) (n : ℕ) → ((z : ℕ) → IsTrue (some_kind (st.set z))) → merge n n st ≡ Go st
merge_same st n h = let r = st.rep n in let a : min (st.rep n) (st.rep n) ≡ st.rep n = omega arith in let b : max (st.rep n) (st.rep n) ≡ st.rep n = omega arith in
    ap (λ x. join x (max (st.rep n) (st.rep n)) st) a ∙ ap (λ x. join (st.rep n) x st) b ∙ join_same st (st.rep n) (h (st.rep n))

leaf_itself : (a : Leaf) (st : State) → ((z : ℕ) → IsTrue (some_kind (st.set z))) → unify_leaf a a st ≡ Go st
leaf_itself (Fixed k) st h = goes (has (only k) k) st (has_itself k)
leaf_itself (KindOf n) st h = merge_same st n h

mutual
  unify_itself : (t : Term) (st : State) → ((z : ℕ) → IsTrue (some_kind (st.set z))) → unify t t st ≡ Go st
  unify_itself (integer a) st h = leaf_itself a st h
  unify_itself boolean st h = refl
  unify_itself (tuple_of ts) st h = each_itself ts st h
  unify_itself (reference true t) st h = unify_itself t st h
  unify_itself (reference false t) st h = unify_itself t st h
  unify_itself (named i) st h = goes (nat_eq i i) st (eq-eqb i i refl)

  each_itself : (ts : Shapes Leaf) (st : State) → ((z : ℕ) → IsTrue (some_kind (st.set z))) → unify_each ts ts st ≡ Go st
  each_itself no_shape st h = refl
  each_itself (shape_and t ts) st h = ap (λ r. so r (λ s. unify_each ts ts s)) (unify_itself t st h) ∙ each_itself ts st h

pub cells_itself : (c : Cell) (st : State) → ((z : ℕ) → IsTrue (some_kind (st.set z))) → unify_cells c c st ≡ Go st
cells_itself (one t) st h = unify_itself t st h
cells_itself (many ts) st h = each_itself ts st h

pub so_true : (r : Step) (q : Bool) (s : State) (f : State → Step) → r ≡ step_if q s → q ≡ true → so r f ≡ f s
so_true r q s f e h = ap (λ x. so x f) (e ∙ ap (λ b. step_if b s) h)

pub so_false : (r : Step) (q : Bool) (s t : State) (f : State → Step) → r ≡ step_if q s → q ≡ false → so r f ≡ step_if q t
so_false r q s t f e h = ap (λ x. so x f) (e ∙ ap (λ b. step_if b s) h) ∙ ap (λ b. step_if b t) (sym h)

-- ---- one entry, by its form

pub term_is : (es : List Entry) (n i : ℕ) (f : Form) → Formed n es → i < length es → f ≡ form_at es i → term_in (cell es i) ≡ term_in (cell_form (cell es) f)
term_is es n i f o h e = ap term_in (cell_is es n o i h) ∙ ap (λ g. term_in (cell_form (cell es) g)) (sym e)

-- a reference leads to a lower entry, which is a shape
pub to_lower : (es : List Entry) (n i : ℕ) (f : Form) (m : Bool) (j : ℕ) → Formed n es → i < length es → f ≡ form_at es i → f ≡ form.Reference m j → (j < i) × IsTrue (is_one (cell es j)) × (term_in (cell es i) ≡ reference m (term_in (cell es j)))
to_lower es n i f m j o h e r = let p = subst (λ g. FormOk es n i g) (sym e ∙ r) (o i h) in (p.0, p.1, term_is es n i f o h e ∙ ap (λ g. term_in (cell_form (cell es) g)) r)

not_reference : (c : ℕ → Cell) (f : Form) → ((m : Bool) (j : ℕ) → f ≡ form.Reference m j → ⊥) → peeled (term_in (cell_form c f)) ≡ term_in (cell_form c f)
not_reference c (form.Reference m j) n = absurd (n m j refl)
not_reference c (form.Fixed k) n = refl
not_reference c _ n = refl

pub peeled_here : (es : List Entry) (n i : ℕ) (f : Form) → Formed n es → i < length es → f ≡ form_at es i → ((m : Bool) (j : ℕ) → f ≡ form.Reference m j → ⊥) → peeled (term_in (cell es i)) ≡ term_in (cell es i)
peeled_here es n i f o h e k = ap peeled (term_is es n i f o h e) ∙ not_reference (cell es) f k ∙ sym (term_is es n i f o h e)

-- an entry that is no integer type
not_integer : (c : ℕ → Cell) (f : Form) (s : Kinds) (st : State) → ((k : Kind) → f ≡ form.Fixed k → ⊥) → ((m : ℕ) → f ≡ form.KindOf m → ⊥) → integer_in (term_in (cell_form c f)) s st ≡ No
not_integer c (form.Fixed k) s st a b = absurd (a k refl)
not_integer c (form.KindOf m) s st a b = absurd (b m refl)
not_integer c _ s st a b = refl

pub no_integer : (es : List Entry) (n i : ℕ) (f : Form) (s : Kinds) (st : State) → Formed n es → i < length es → f ≡ form_at es i → ((k : Kind) → f ≡ form.Fixed k → ⊥) → ((m : ℕ) → f ≡ form.KindOf m → ⊥) → integer_in (term_in (cell es i)) s st ≡ No
no_integer es n i f s st o h e a b = ap (λ t. integer_in t s st) (term_is es n i f o h e) ∙ not_integer (cell es) f s st a b
