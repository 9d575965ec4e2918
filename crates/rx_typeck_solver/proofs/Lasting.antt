-- The last passes.
use Rattle.std.proofs.Common.{◌≡◌, ℕ, zero, suc, ◌<◌, ◌≤◌, Bool, true, false, ◌||◌, IsTrue, List, [], ◌∷◌, length, get_or, Option, Some, None, nat_eq, refl, sym, ap, ◌∙◌, subst, ◌⊎◌, inl, inr, ⊎_elim, arith, eqb-true, eq-eqb}
use Rattle.std.specs.Prelude.{option_map}
use Rattle.std.specs.Bool.{Decides}
use Rattle.rx_typed.specs.Types.{integer, peeled}
use Rattle.rx_typeck_solver.specs.declared.facts.Subject.TheVariants as subject
use Rattle.rx_typeck_solver.specs.declared.facts.Kinds.{Kinds}
use Rattle.rx_typeck_solver.specs.declared.arena.Form.{Form}
use Rattle.rx_typeck_solver.specs.declared.arena.Form.TheVariants as form
use Rattle.rx_typeck_solver.specs.declared.arena.Entry.{Entry}
use Rattle.rx_typeck_solver.specs.declared.tables.Tables.{Tables}
use Rattle.rx_typeck_solver.specs.Valid.{IsIn}
use Rattle.rx_typeck_solver.specs.Solver.{KindOf, State, Root, single, class_fine}
use Rattle.rx_typeck_solver.specs.Parents.{rep_of, set_of}
use Rattle.rx_typeck_solver.specs.Cells.{Cell, term_in, cell_form, cell, term, IsTerm, form_at, FormOk}
use Rattle.rx_typeck_solver.specs.Tabled.{index_of, table_of, state_of, Fits}
use Rattle.rx_typeck_solver.specs.Ends.{Flat, class_behind, class_term, MarksAre, NodeIs}
use Rattle.rx_typeck_solver.proofs.Parenthood.{rep_below}
use Rattle.rx_typeck_solver.proofs.Pairing.{term_is}
use Rattle.rx_typeck_solver.proofs.States.{table_is, read_term}

module _ (es : List Entry) (t : Tables) (f : Fits es t) (n i : ℕ) (o : Option ℕ) (e : o ≡ index_of t (subject.Node n)) (h : o ≡ Some i) where
  shape : table_of es t (subject.Node n) ≡ Some (term es i)
  shape = table_is es t (subject.Node n) o e ∙ ap (option_map (term es)) h

  is_entry : IsTerm es i
  is_entry = read_term es t (subject.Node n) o i f e h

  module _ (p : ℕ) (g : Form) (w : IsTerm es p) (q : term es p ≡ peeled (term es i)) (r : g ≡ form_at es p) where
    under : peeled (term es i) ≡ term_in (cell_form (cell es) g)
    under = sym q ∙ term_is es (length t.classes.parents.items) p g f.formed w.0 r

    pub class_some : (k c : ℕ) → Flat t.classes.parents.items → g ≡ form.KindOf k → c ≡ get_or t.classes.parents.items k k → Some c ≡ class_behind (state_of es t) (table_of es t (subject.Node n))
    class_some k c flat s d = ap Some (d ∙ flat k) ∙ sym (ap (class_behind (state_of es t)) shape ∙ ap (class_term (state_of es t)) (under ∙ ap (λ x. term_in (cell_form (cell es) x)) s))

    not_open : (st : State) (c : ℕ → Cell) (g : Form) → ((k : ℕ) → g ≡ form.KindOf k → ⊥) → class_term st (term_in (cell_form c g)) ≡ None
    not_open st c (form.KindOf k) m = absurd (m k refl)
    not_open st c (form.Fixed k) m = refl
    not_open st c _ m = refl

    pub class_not : ((k : ℕ) → g ≡ form.KindOf k → ⊥) → None ≡ class_behind (state_of es t) (table_of es t (subject.Node n))
    class_not m = sym (ap (class_behind (state_of es t)) shape ∙ ap (class_term (state_of es t)) under ∙ not_open (state_of es t) (cell es) g m)

  module _ (g : Form) (r : g ≡ form_at es i) where
    here : term es i ≡ term_in (cell_form (cell es) g)
    here = term_is es (length t.classes.parents.items) i g f.formed is_entry.0 r

    pub open_is : (k : ℕ) → g ≡ form.KindOf k → Decides (nat_eq k n) (Root (table_of es t) n)
    open_is k s =
        let q : table_of es t (subject.Node n) ≡ Some (integer (KindOf k)) = shape ∙ ap Some (here ∙ ap (λ x. term_in (cell_form (cell es) x)) s) in
        (λ b. q ∙ ap (λ m. Some (integer (KindOf m))) (eqb-true k n b), λ z. let y : Some (integer (KindOf k)) ≡ Some (integer (KindOf n)) = sym q ∙ z in let x : k ≡ n = cc in eq-eqb k n x)

    no_open : (c : ℕ → Cell) (g : Form) → ((k : ℕ) → g ≡ form.KindOf k → ⊥) → term_in (cell_form c g) ≡ integer (KindOf n) → ⊥
    no_open c (form.KindOf k) m z = m k refl
    no_open c (form.Fixed k) m z = cc
    no_open c _ m z = cc

    pub open_not : ((k : ℕ) → g ≡ form.KindOf k → ⊥) → Decides false (Root (table_of es t) n)
    open_not m = (λ b. cc, λ z. absurd (no_open (cell es) g m (let y : Some (term es i) ≡ Some (integer (KindOf n)) = sym shape ∙ z in let x : term es i ≡ integer (KindOf n) = cc in sym here ∙ x)))

pub class_none : (es : List Entry) (t : Tables) (n : ℕ) (o : Option ℕ) → o ≡ index_of t (subject.Node n) → o ≡ None → None ≡ class_behind (state_of es t) (table_of es t (subject.Node n))
class_none es t n o e h = sym (ap (class_behind (state_of es t)) (table_is es t (subject.Node n) o e ∙ ap (option_map (term es)) h))

pub open_none : (es : List Entry) (t : Tables) (n : ℕ) (o : Option ℕ) → o ≡ index_of t (subject.Node n) → o ≡ None → Decides false (Root (table_of es t) n)
open_none es t n o e h = (λ b. cc, λ z. let y : None ≡ Some (integer (KindOf n)) = sym (table_is es t (subject.Node n) o e ∙ ap (option_map (term es)) h) ∙ z in absurd (cc))

pub is_in_at : (l : List ℕ) (i d : ℕ) → i < length l → IsIn (get_or l i d) l
is_in_at [] i d h = absurd (omega arith)
is_in_at (x ∷ l) zero d h = inl refl
is_in_at (x ∷ l) (suc i) d h = inr (is_in_at l i d (omega arith))

pub is_in_read : (qs l : List ℕ) (i d : ℕ) → qs ≡ l → i < length qs → IsIn (get_or qs i d) l
is_in_read qs l i d e h = subst (λ m. IsIn (get_or qs i d) m) e (is_in_at qs i d h)

past_none : (l : List (Option ℕ)) (n : ℕ) → length l ≤ n → get_or l n None ≡ None
past_none [] n h = refl
past_none (x ∷ l) zero h = absurd (omega arith)
past_none (x ∷ l) (suc n) h = past_none l n (omega arith)

-- an open node has a place in the table
pub in_nodes : (es : List Entry) (t : Tables) (n : ℕ) → Root (table_of es t) n → n < length t.nodes.items
unfolding index_of table_of
in_nodes es t n r = ⊎_elim (λ h. h) (λ h. let e = past_none t.nodes.items n h in let y : None ≡ Some (integer (KindOf n)) = sym (ap (option_map (term es)) e) ∙ r in absurd (cc)) (either n (length t.nodes.items))
  where
    either : (a b : ℕ) → (a < b) ⊎ (b ≤ a)
    either a b = grind arith

-- an open node has a class
open_in : (es : List Entry) (t : Tables) (n : ℕ) → Fits es t → Root (table_of es t) n → n < length t.classes.parents.items
open_in es t n f r = go (index_of t (subject.Node n)) refl
  where
    inside : (i : ℕ) (c : ℕ → Cell) (g : Form) → FormOk es (length t.classes.parents.items) i g → term_in (cell_form c g) ≡ integer (KindOf n) → n < length t.classes.parents.items
    inside i c (form.KindOf k) o e = let q : k ≡ n = cc in subst (λ m. m < length t.classes.parents.items) q o
    inside i c (form.Fixed k) o e = cc
    inside i c _ o e = cc

    go : (o : Option ℕ) → index_of t (subject.Node n) ≡ o → n < length t.classes.parents.items
    go None e = let y : None ≡ Some (integer (KindOf n)) = sym (table_is es t (subject.Node n) None (sym e)) ∙ r in absurd (cc)
    go (Some i) e =
        let w = f.terms (subject.Node n) i e in
        let y : Some (term es i) ≡ Some (integer (KindOf n)) = sym (table_is es t (subject.Node n) (Some i) (sym e)) ∙ r in
        let x : term es i ≡ integer (KindOf n) = cc in
        inside i (cell es) (form_at es i) (f.formed i w.0) (sym (term_is es (length t.classes.parents.items) i (form_at es i) f.formed w.0 refl) ∙ x)

pub node_open : (es : List Entry) (t : Tables) (n c : ℕ) (k : Kinds) (a m b : Bool) (marks : List Bool) → Fits es t → Flat t.classes.parents.items → Root (table_of es t) n → c ≡ get_or t.classes.parents.items n n → k ≡ set_of t.classes.sets.items c → a ≡ single k → m ≡ get_or marks c false → b ≡ a || m
    → (ls : List ℕ) → MarksAre (state_of es t) ls (length t.classes.parents.items) marks → NodeIs (state_of es t) ls n b
node_open es t n c k a m b marks f flat r ec ek ea em eb ls ms = go b refl
  where
    rc : c ≡ rep_of t.classes.parents.items n
    rc = ec ∙ flat n

    inside : c < length t.classes.parents.items
    inside = let p = rep_below t.classes.parents.items f.classed.falling n in let q = open_in es t n f r in omega (arith, rc, p, q)

    is : b ≡ class_fine (state_of es t) ls (rep_of t.classes.parents.items n)
    is = eb ∙ ap (λ x. x || m) (ea ∙ ap single ek) ∙ ap (λ x. single (set_of t.classes.sets.items c) || x) (em ∙ ms c inside) ∙ ap (class_fine (state_of es t) ls) rc

    go : (x : Bool) → b ≡ x → NodeIs (state_of es t) ls n b
    go true e = subst (λ y. NodeIs (state_of es t) ls n y) (sym e) (λ _. sym is ∙ e)
    go false e = subst (λ y. NodeIs (state_of es t) ls n y) (sym e) (r, sym is ∙ e)

pub node_closed : (es : List Entry) (t : Tables) (n : ℕ) (ls : List ℕ) → (Root (table_of es t) n → ⊥) → NodeIs (state_of es t) ls n true
node_closed es t n ls h = λ r. absurd (h r)

pub node_true : (st : State) (ls : List ℕ) (n : ℕ) (b : Bool) → NodeIs st ls n b → b ≡ true → Root st.shapes n → IsTrue (class_fine st ls (st.rep n))
node_true st ls n b h e = subst (λ y. NodeIs st ls n y) e h

pub node_false : (st : State) (ls : List ℕ) (n : ℕ) (b : Bool) → NodeIs st ls n b → b ≡ false → Root st.shapes n × (class_fine st ls (st.rep n) ≡ false)
node_false st ls n b h e = subst (λ y. NodeIs st ls n y) e h
