-- The states of tables that are written.
use Rattle.std.proofs.Common.{◌≡◌, ℕ, zero, suc, ◌+◌, ◌<◌, ◌≤◌, Bool, true, false, IsTrue, List, [], ◌∷◌, ◌++◌, length, get_or, set, Option, Some, None, refl, sym, ap, ◌∙◌, subst, ⊎_elim, arith, length-append, Vec, Global}
use Rattle.std.specs.Prelude.{option_map}
use Rattle.rx_typed.specs.Types.{integer, peeled}
use Rattle.rx_typeck_solver.specs.declared.facts.Kinds.{Kinds}
use Rattle.rx_typeck_solver.specs.declared.facts.Subject.{Subject}
use Rattle.rx_typeck_solver.specs.declared.facts.Subject.TheVariants as subject
use Rattle.rx_typeck_solver.specs.declared.arena.Form.{Form}
use Rattle.rx_typeck_solver.specs.declared.arena.Form.TheVariants as form
use Rattle.rx_typeck_solver.specs.declared.arena.Entry.{Entry}
use Rattle.rx_typeck_solver.specs.declared.classes.Classes.{Classes}
use Rattle.rx_typeck_solver.specs.declared.tables.Tables.{Tables}
use Rattle.rx_typeck_solver.specs.Solver.{KindOf, Term, State, upd, updated, Step, Go, go_if, some_kind, all_kinds, fresh, learn, integer_in, integer_at, behind_at}
use Rattle.rx_typeck_solver.specs.Parents.{rep_of, Falling, set_of, Classed, state_in, step_if}
use Rattle.rx_typeck_solver.specs.Cells.{Cell, one, many, term_in, is_one, cell, term, IsTerm, FormOk, form_at, Formed, Built, Extends, Makes}
use Rattle.rx_typeck_solver.specs.Pairs.{unify_cells}
use Rattle.rx_typeck_solver.specs.Tabled.{index_of, table_of, state_of, AreTrimmed, Fits, Sized}
use Rattle.rx_typeck_solver.proofs.Base.{decide_subject, updated_at, updated_other}
use Rattle.rx_typeck_solver.proofs.Parenthood.{fun_ext, IsTop, rep_is, rep_top}
use Rattle.rx_typeck_solver.proofs.ClassSteps.{sets_written, classed_set}

pub sized_of : (sizes : List ℕ) (n : ℕ) (es : List Entry) → Built sizes n es → Sized sizes es
sized_of sizes n es b = record { parts = b.sized; levels = b.high }

pub built_of : (sizes : List ℕ) (n : ℕ) (es : List Entry) → Formed n es → Sized sizes es → Built sizes n es
built_of sizes n es f s = record { forms = f; sized = s.parts; high = s.levels }

form_more : (es : List Entry) (n m i : ℕ) (f : Form) → n ≤ m → FormOk es n i f → FormOk es m i f
form_more es n m i (form.KindOf k) le h = omega (arith, le, h)
form_more es n m i (form.Tuple j) le h = h
form_more es n m i (form.Reference b j) le h = h
form_more es n m i (form.And j k) le h = h
form_more es n m i (form.Fixed k) le h = tt
form_more es n m i form.Boolean le h = tt
form_more es n m i (form.Named k) le h = tt
form_more es n m i form.Nothing le h = tt

pub formed_more : (es : List Entry) (n m : ℕ) → n ≤ m → Formed n es → Formed m es
formed_more es n m le f i h = form_more es n m i (form_at es i) le (f i h)

pub term_kept : (es us : List Entry) (i : ℕ) → Extends es us → IsTerm es i → IsTerm us i
term_kept es us i x t = let l = x.longer in let h = t.0 in (omega (arith, l, h), subst (λ c. IsTrue (is_one c)) (sym (x.same i t.0)) t.1)

-- the table of the same entries, or of more
pub table_kept : (es us : List Entry) (t : Tables) → Extends es us → Fits es t → table_of us t ≡ table_of es t
unfolding table_of
table_kept es us t x f = fun_ext (λ y. option_map (term us) (index_of t y)) (λ y. option_map (term es) (index_of t y)) (λ y. go y (index_of t y) refl)
  where
    go : (y : Subject) (o : Option ℕ) → index_of t y ≡ o → option_map (term us) o ≡ option_map (term es) o
    go y None e = refl
    go y (Some i) e = ap (λ c. Some (term_in c)) (x.same i (f.terms y i e).0)

pub table_same : (es : List Entry) (t u : Tables) → ((y : Subject) → index_of u y ≡ index_of t y) → table_of es u ≡ table_of es t
unfolding table_of
table_same es t u h = fun_ext (λ y. option_map (term es) (index_of u y)) (λ y. option_map (term es) (index_of t y)) (λ y. ap (option_map (term es)) (h y))

-- a subject gets an entry
pub table_put : (es : List Entry) (t u : Tables) (x : Subject) (i : ℕ) → index_of u x ≡ Some i → ((y : Subject) → (y ≡ x → ⊥) → index_of u y ≡ index_of t y) → table_of es u ≡ updated x (Some (term es i)) (table_of es t)
unfolding table_of
table_put es t u x i h k = fun_ext (λ y. option_map (term es) (index_of u y)) (updated x (Some (term es i)) (λ y. option_map (term es) (index_of t y))) (λ y. ⊎_elim
    (λ e. ap (λ z. option_map (term es) (index_of u z)) e ∙ ap (option_map (term es)) h ∙ sym (updated_at x (Some (term es i)) (λ y. option_map (term es) (index_of t y)) y e))
    (λ n. ap (option_map (term es)) (k y n) ∙ sym (updated_other x (Some (term es i)) (λ y. option_map (term es) (index_of t y)) y n)) (decide_subject y x))

pub put_terms : (es : List Entry) (t u : Tables) (x : Subject) (i : ℕ) → IsTerm es i → index_of u x ≡ Some i → ((y : Subject) → (y ≡ x → ⊥) → index_of u y ≡ index_of t y) → ((y : Subject) (j : ℕ) → index_of t y ≡ Some j → IsTerm es j) → (y : Subject) (j : ℕ) → index_of u y ≡ Some j → IsTerm es j
put_terms es t u x i it h k o y j e = ⊎_elim
    (λ q. let p : Some i ≡ Some j = sym h ∙ ap (index_of u) (sym q) ∙ e in let r : i ≡ j = cc in subst (λ z. IsTerm es z) r it)
    (λ n. o y j (sym (k y n) ∙ e)) (decide_subject y x)

-- what is read
pub table_is : (es : List Entry) (t : Tables) (x : Subject) (o : Option ℕ) → o ≡ index_of t x → table_of es t x ≡ option_map (term es) o
unfolding table_of
table_is es t x o e = ap (option_map (term es)) (sym e)

-- ---- learning a shape

pub learnt_new : (es : List Entry) (t u : Tables) (x : Subject) (i : ℕ) (o : Option ℕ) → o ≡ index_of t x → o ≡ None → index_of u x ≡ Some i → ((y : Subject) → (y ≡ x → ⊥) → index_of u y ≡ index_of t y) → u.classes ≡ t.classes → learn (table_of es t x) x (term es i) (state_of es t) ≡ Go (state_of es u)
learnt_new es t u x i o e n h k c =
    ap (λ p. learn p x (term es i) (state_of es t)) (table_is es t x o e ∙ ap (option_map (term es)) n)
    ∙ ap (λ (tab : Subject → Option Term). Go (state_in tab t.classes.parents.items t.classes.sets.items)) (sym (table_put es t u x i h k))
    ∙ ap (λ (d : Classes). Go (state_in (table_of es u) d.parents.items d.sets.items)) (sym c)

pub put_fits : (es : List Entry) (t u : Tables) (x : Subject) (i : ℕ) → Fits es t → IsTerm es i → index_of u x ≡ Some i → ((y : Subject) → (y ≡ x → ⊥) → index_of u y ≡ index_of t y) → u.classes ≡ t.classes → (AreTrimmed t → AreTrimmed u) → Fits es u
put_fits es t u x i f it h k c more = record {
  formed = subst (λ (d : Classes). Formed (length d.parents.items) es) (sym c) f.formed;
  classed = subst (λ (d : Classes). Classed d.parents.items d.sets.items) (sym c) f.classed;
  terms = put_terms es t u x i it h k f.terms;
  trimmed = more f.trimmed;
}

-- classes change, and the tables stay
pub with_classes : Tables → Classes → Tables
with_classes t d = record t { classes = d }

pub classes_fits : (es : List Entry) (t u : Tables) → Fits es t → ((y : Subject) → index_of u y ≡ index_of t y) → Classed u.classes.parents.items u.classes.sets.items → length u.classes.parents.items ≡ length t.classes.parents.items → AreTrimmed u → Fits es u
classes_fits es t u f k c l ends = record {
  formed = subst (λ n. Formed n es) (sym l) f.formed;
  classed = c;
  terms = λ y i e. f.terms y i (sym (k y) ∙ e);
  trimmed = ends;
}

cells_terms : (c d : Cell) (st : State) → IsTrue (is_one c) → IsTrue (is_one d) → unify_cells c d st ≡ learn (Some (term_in c)) (subject.Node 0) (term_in d) st
cells_terms (one t) (one u) st h k = refl
cells_terms (one t) (many us) st h k = cc
cells_terms (many ts) d st h k = cc

pub learnt_known : (es : List Entry) (t : Tables) (x : Subject) (i j : ℕ) (o : Option ℕ) (r : Step) → Fits es t → IsTerm es i → o ≡ index_of t x → o ≡ Some j → unify_cells (cell es j) (cell es i) (state_of es t) ≡ r → learn (table_of es t x) x (term es i) (state_of es t) ≡ r
learnt_known es t x i j o r f it e n h =
    ap (λ p. learn p x (term es i) (state_of es t)) (table_is es t x o e ∙ ap (option_map (term es)) n)
    ∙ sym (cells_terms (cell es j) (cell es i) (state_of es t) (f.terms x j (sym e ∙ n)).1 it.1) ∙ h

-- ---- classes that are given more nodes

self_past : (ps : List ℕ) (z : ℕ) → get_or (ps ++ length ps ∷ []) z z ≡ get_or ps z z
self_past ps z = let k : 0 + z ≡ z = omega arith in subst (λ y. get_or (ps ++ length ps ∷ []) z y ≡ get_or ps z y) k (go ps 0 (length ps) z (omega arith))
  where
    -- n stands before
    go : (ps : List ℕ) (n m z : ℕ) → n + length ps ≡ m → get_or (ps ++ m ∷ []) z (n + z) ≡ get_or ps z (n + z)
    go [] n m zero e = omega (arith, e)
    go [] n m (suc z) e = refl
    go (p ∷ ps) n m zero e = refl
    go (p ∷ ps) n m (suc z) e = let k : n + suc z ≡ suc n + z = omega arith in rw k (go ps (suc n) m z (omega (arith, e)))

pub reach_reps : (ps : List ℕ) → Falling ps → Falling (ps ++ length ps ∷ []) × (rep_of (ps ++ length ps ∷ []) ≡ rep_of ps)
reach_reps ps fall = (down, rep_is (ps ++ length ps ∷ []) (rep_of ps) down (record { up = λ z. ap (rep_of ps) (self_past ps z) ∙ t.up z; own = λ z e. t.own z (sym (self_past ps z) ∙ e) }))
  where
    t : IsTop ps (rep_of ps)
    t = rep_top ps fall

    down : Falling (ps ++ length ps ∷ [])
    down z = let e = self_past ps z in let h = fall z in omega (arith, e, h)

past_default : (ss : List Kinds) (d : Kinds) (z : ℕ) → get_or (ss ++ d ∷ []) z d ≡ get_or ss z d
past_default [] d zero = refl
past_default [] d (suc z) = refl
past_default (s ∷ ss) d zero = refl
past_default (s ∷ ss) d (suc z) = past_default ss d z

pub reach_sets : (ss : List Kinds) → set_of (ss ++ all_kinds ∷ []) ≡ set_of ss
unfolding set_of
reach_sets ss = fun_ext (λ z. get_or (ss ++ all_kinds ∷ []) z all_kinds) (λ z. get_or ss z all_kinds) (past_default ss all_kinds)

-- more nodes with a class
pub record Reached (ps new : List ℕ) (ss ts : List Kinds) : Type 0 where
  pub classed : Classed new ts
  pub reps : rep_of new ≡ rep_of ps
  pub sets : set_of ts ≡ set_of ss
  pub longer : length ps ≤ length new

pub reach_start : (ps : List ℕ) (ss : List Kinds) → Classed ps ss → Reached ps ps ss ss
reach_start ps ss c = record { classed = c; reps = refl; sets = refl; longer = omega arith }

pub reach_more : (ps new next : List ℕ) (ss sets more : List Kinds) (n : ℕ) (k : Kinds) → Reached ps new ss sets → n ≡ length new → next ≡ new ++ n ∷ [] → k ≡ all_kinds → more ≡ sets ++ k ∷ [] → Reached ps next ss more
reach_more ps new next ss sets more n k r en e ek f =
    let e' : next ≡ new ++ length new ∷ [] = e ∙ ap (λ x. new ++ x ∷ []) en in
    let f' : more ≡ sets ++ all_kinds ∷ [] = f ∙ ap (λ x. sets ++ x ∷ []) ek in
    subst (λ x. Reached ps x ss more) (sym e') (subst (λ x. Reached ps (new ++ length new ∷ []) ss x) (sym f') (record {
      classed = record {
        falling = (reach_reps new r.classed.falling).0;
        as_many = let l = length-append new (length new ∷ []) in let m = length-append sets (all_kinds ∷ []) in let a = r.classed.as_many in omega (arith, l, m, a);
        left = λ z. subst (λ g. IsTrue (some_kind (g z))) (sym (reach_sets sets)) (r.classed.left z);
      };
      reps = (reach_reps new r.classed.falling).1 ∙ r.reps;
      sets = reach_sets sets ∙ r.sets;
      longer = let l = length-append new (length new ∷ []) in let h = r.longer in omega (arith, l, h);
    }))

-- ---- what was read, and what is written

pub read_term : (es : List Entry) (t : Tables) (x : Subject) (o : Option ℕ) (i : ℕ) → Fits es t → o ≡ index_of t x → o ≡ Some i → IsTerm es i
read_term es t x o i f e n = f.terms x i (sym e ∙ n)

pub same_index : (t : Tables) (d : Classes) (y : Subject) → index_of (record t { classes = d }) y ≡ index_of t y
unfolding index_of
same_index t d (subject.Variable x) = refl
same_index t d (subject.Node x) = refl
same_index t d (subject.Expected x) = refl

pub restate : (es : List Entry) (t : Tables) (d : Classes) → state_in (table_of es t) d.parents.items d.sets.items ≡ state_of es (record t { classes = d })
restate es t d = ap (λ (tab : Subject → Option Term). state_in tab d.parents.items d.sets.items) (sym (table_same es t (record t { classes = d }) (same_index t d)))

-- a step on the classes alone
pub restated : (es : List Entry) (t : Tables) (d : Classes) (r : Step) (q : Bool) → r ≡ step_if q (state_in (table_of es t) d.parents.items d.sets.items) → r ≡ step_if q (state_of es (record t { classes = d }))
restated es t d r q e = e ∙ ap (step_if q) (restate es t d)

pub refits : (es : List Entry) (t : Tables) (d : Classes) → Fits es t → Classed d.parents.items d.sets.items → length d.parents.items ≡ length t.classes.parents.items → Fits es (record t { classes = d })
refits es t d f c l = classes_fits es t (record t { classes = d }) f (same_index t d) c l f.trimmed

pub integer_known : (es : List Entry) (t : Tables) (n i : ℕ) (k : Kinds) (o : Option ℕ) (r : Step) → o ≡ index_of t (subject.Node n) → o ≡ Some i → integer_in (term es i) k (state_of es t) ≡ r → integer_at (table_of es t (subject.Node n)) n k (state_of es t) ≡ r
integer_known es t n i k o r e h g = ap (λ p. integer_at p n k (state_of es t)) (table_is es t (subject.Node n) o e ∙ ap (option_map (term es)) h) ∙ g

pub integer_new : (es : List Entry) (t : Tables) (n : ℕ) (k : Kinds) (o : Option ℕ) (r : Step) → o ≡ index_of t (subject.Node n) → o ≡ None → fresh n k (state_of es t) ≡ r → integer_at (table_of es t (subject.Node n)) n k (state_of es t) ≡ r
integer_new es t n k o r e h g = ap (λ p. integer_at p n k (state_of es t)) (table_is es t (subject.Node n) o e ∙ ap (option_map (term es)) h) ∙ g

pub behind_known : (es : List Entry) (t : Tables) (n i j : ℕ) (k : Kinds) (o : Option ℕ) (r : Step) → o ≡ index_of t (subject.Node n) → o ≡ Some i → term es j ≡ peeled (term es i) → integer_in (term es j) k (state_of es t) ≡ r → behind_at (table_of es t (subject.Node n)) k (state_of es t) ≡ r
behind_known es t n i j k o r e h p g = ap (λ q. behind_at q k (state_of es t)) (table_is es t (subject.Node n) o e ∙ ap (option_map (term es)) h) ∙ ap (λ u. integer_in u k (state_of es t)) (sym p) ∙ g

-- ---- a fresh class

pub fresh_no : (n : ℕ) (k : Kinds) (b : Bool) (st s : State) → b ≡ some_kind k → b ≡ false → fresh n k st ≡ step_if b s
fresh_no n k b st s e f = ap (λ x. go_if x (record { shapes = updated (subject.Node n) (Some (integer (KindOf n))) st.shapes; rep = st.rep; set = upd n k st.set })) (sym e ∙ f) ∙ ap (λ x. step_if x s) (sym f)

-- the arena, the classes and the tables after it
pub record Freshened (es us : List Entry) (t u : Tables) (d : Classes) (n i : ℕ) : Type 0 where
  pub reached : Reached t.classes.parents.items d.parents.items t.classes.sets.items d.sets.items
  pub within : n < length d.parents.items
  pub extends : Extends es us
  pub formed : Formed (length d.parents.items) us
  pub at : IsTerm us i
  pub is : term us i ≡ integer (KindOf n)
  pub here : index_of u (subject.Node n) ≡ Some i
  pub other : (y : Subject) → (y ≡ subject.Node n → ⊥) → index_of u y ≡ index_of (record t { classes = d }) y
  pub classes : u.classes ≡ d

pub freshened : (sizes : List ℕ) (es us : List Entry) (t u : Tables) (d : Classes) (n i : ℕ) → Fits es t → Sized sizes es → Reached t.classes.parents.items d.parents.items t.classes.sets.items d.sets.items → n < length d.parents.items
    → ((sizes : List ℕ) (m : ℕ) → n < m → Built sizes m es → Makes sizes m es us i (one (integer (KindOf n))))
    → index_of u (subject.Node n) ≡ Some i → ((y : Subject) → (y ≡ subject.Node n → ⊥) → index_of u y ≡ index_of (record t { classes = d }) y) → u.classes ≡ d → Freshened es us t u d n i
freshened sizes es us t u d n i f z r h make here other c =
    let m = make sizes (length d.parents.items) h (built_of sizes (length d.parents.items) es (formed_more es (length t.classes.parents.items) (length d.parents.items) r.longer f.formed) z) in
    record { reached = r; within = h; extends = m.extends; formed = m.built.forms; at = (m.within, subst (λ c. IsTrue (is_one c)) (sym m.is) refl); is = ap term_in m.is; here = here; other = other; classes = c }

pub fresh_sized : (es us : List Entry) (t : Tables) (d : Classes) (n i : ℕ) → Fits es t → Reached t.classes.parents.items d.parents.items t.classes.sets.items d.sets.items → n < length d.parents.items
    → ((sizes : List ℕ) (m : ℕ) → n < m → Built sizes m es → Makes sizes m es us i (one (integer (KindOf n)))) → (sizes : List ℕ) → Sized sizes es → Sized sizes us
fresh_sized es us t d n i f r h make sizes z =
    let m = make sizes (length d.parents.items) h (built_of sizes (length d.parents.items) es (formed_more es (length t.classes.parents.items) (length d.parents.items) r.longer f.formed) z) in
    sized_of sizes (length d.parents.items) us m.built

-- the class's set is written last
pub fresh_fits : (es us : List Entry) (t u v : Tables) (d : Classes) (n i : ℕ) (k : Kinds) → Fits es t → Freshened es us t u d n i → some_kind k ≡ true → ((y : Subject) → index_of v y ≡ index_of u y) → v.classes.parents ≡ u.classes.parents → v.classes.sets.items ≡ set u.classes.sets.items n k → AreTrimmed v → Fits us v
fresh_fits es us t u v d n i k f r h same ep es' ends =
    let pp : v.classes.parents.items ≡ d.parents.items = ap (λ (p : Vec ℕ Global). p.items) ep ∙ ap (λ (c : Classes). c.parents.items) r.classes in
    let ss : v.classes.sets.items ≡ set d.sets.items n k = es' ∙ ap (λ (c : Classes). set c.sets.items n k) r.classes in
    record {
      formed = subst (λ ps. Formed (length ps) us) (sym pp) r.formed;
      classed = subst (λ ps. Classed ps v.classes.sets.items) (sym pp) (subst (λ ss. Classed d.parents.items ss) (sym ss)
          (classed_set d.parents.items d.parents.items d.sets.items n k r.reached.classed r.reached.classed.falling refl (let w = r.within in let a = r.reached.classed.as_many in omega (arith, w, a)) h));
      terms = λ y j e. put_terms us (record t { classes = d }) u (subject.Node n) i r.at r.here r.other (λ z l q. term_kept es us l r.extends (f.terms z l (sym (same_index t d z) ∙ q))) y j (sym (same y) ∙ e);
      trimmed = ends;
    }

pub fresh_goes : (es us : List Entry) (t u v : Tables) (d : Classes) (n i : ℕ) (k : Kinds) → Fits es t → Freshened es us t u d n i → some_kind k ≡ true → ((y : Subject) → index_of v y ≡ index_of u y) → v.classes.parents ≡ u.classes.parents → v.classes.sets.items ≡ set u.classes.sets.items n k → fresh n k (state_of es t) ≡ Go (state_of us v)
fresh_goes es us t u v d n i k f r h same ep es' =
    let pp : v.classes.parents.items ≡ d.parents.items = ap (λ (p : Vec ℕ Global). p.items) ep ∙ ap (λ (c : Classes). c.parents.items) r.classes in
    let ss : v.classes.sets.items ≡ set d.sets.items n k = es' ∙ ap (λ (c : Classes). set c.sets.items n k) r.classes in
    let hn : n < length d.sets.items = (let w = r.within in let a = r.reached.classed.as_many in omega (arith, w, a)) in
    let tab : table_of us v ≡ updated (subject.Node n) (Some (integer (KindOf n))) (table_of es t) =
    table_same us u v same ∙ table_put us (record t { classes = d }) u (subject.Node n) i r.here r.other
    ∙ ap (λ p. updated (subject.Node n) (Some p) (table_of us (record t { classes = d }))) r.is
    ∙ ap (λ (q : Subject → Option Term). updated (subject.Node n) (Some (integer (KindOf n))) q) (table_same us t (record t { classes = d }) (same_index t d) ∙ table_kept es us t r.extends f) in
    let reps : rep_of v.classes.parents.items ≡ rep_of t.classes.parents.items = ap rep_of pp ∙ r.reached.reps in
    let sets : set_of v.classes.sets.items ≡ upd n k (set_of t.classes.sets.items) = ap set_of ss ∙ sets_written d.sets.items n k hn ∙ ap (upd n k) r.reached.sets in
    let w : state_of us v ≡ record { shapes = updated (subject.Node n) (Some (integer (KindOf n))) (table_of es t); rep = rep_of t.classes.parents.items; set = upd n k (set_of t.classes.sets.items) } = λ j. record { shapes = tab j; rep = reps j; set = sets j } in
    ap (λ b. go_if b (record { shapes = updated (subject.Node n) (Some (integer (KindOf n))) (table_of es t); rep = rep_of t.classes.parents.items; set = upd n k (set_of t.classes.sets.items) })) h ∙ ap Go (sym w)
