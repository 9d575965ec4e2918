-- Lists that are read one after another.
use Rattle.std.proofs.Common.{◌≡◌, ℕ, zero, suc, ◌+◌, ◌<◌, ◌≤◌, Bool, true, false, ◌&&◌, List, [], ◌∷◌, ◌++◌, length, get_or, drop, Option, Some, None, refl, sym, ap, ◌∙◌, subst, arith}
use Rattle.std.specs.Prelude.{option_map}
use Rattle.rx_typed.specs.Types.{references, outermost}
use Rattle.rx_typeck_solver.specs.declared.facts.Subject.{Subject}
use Rattle.rx_typeck_solver.specs.declared.facts.Subject.TheVariants as subject
use Rattle.rx_typeck_solver.specs.declared.facts.Passing.{Passing}
use Rattle.rx_typeck_solver.specs.declared.arena.Form.{Form}
use Rattle.rx_typeck_solver.specs.declared.arena.Form.TheVariants as form
use Rattle.rx_typeck_solver.specs.declared.arena.Entry.{Entry}
use Rattle.rx_typeck_solver.specs.declared.reading.Passed.{Passed}
use Rattle.rx_typeck_solver.specs.declared.tables.Tables.{Tables}
use Rattle.rx_typeck_solver.specs.Facts.{all_mutable, gone_through}
use Rattle.rx_typeck_solver.specs.Solver.{Term, passed_at}
use Rattle.rx_typeck_solver.specs.Cells.{Cell, term_in, cell_form, cell, term, IsTerm, Formed, form_at}
use Rattle.rx_typeck_solver.specs.Tabled.{index_of, table_of}
use Rattle.rx_typeck_solver.specs.Reading.{both, summed, with_gone, sum_at}
use Rattle.rx_typeck_solver.proofs.Pairing.{term_is, to_lower}
use Rattle.rx_typeck_solver.proofs.States.{table_is}

pub drop_read : {A : Type 0} (qs ps : List A) (i : ℕ) (d : A) → qs ≡ ps → i < length qs → drop i ps ≡ get_or qs i d ∷ drop (i + 1) ps
drop_read qs ps i d e h = subst (λ l. drop i l ≡ get_or qs i d ∷ drop (i + 1) l) e (go qs i d h)
  where
    go : {A : Type 0} (xs : List A) (i : ℕ) (d : A) → i < length xs → drop i xs ≡ get_or xs i d ∷ drop (i + 1) xs
    go [] i d h = absurd (omega arith)
    go (x ∷ xs) zero d h = refl
    go (x ∷ xs) (suc i) d h = let n : suc i + 1 ≡ suc (i + 1) = omega arith in rw n (go xs i d (omega arith))

pub drop_end : {A : Type 0} (qs ps : List A) (i : ℕ) → qs ≡ ps → length qs ≤ i → drop i ps ≡ []
drop_end qs ps i e h = subst (λ l. drop i l ≡ []) e (go qs i h)
  where
    go : {A : Type 0} (xs : List A) (i : ℕ) → length xs ≤ i → drop i xs ≡ []
    go [] zero h = refl
    go [] (suc i) h = refl
    go (x ∷ xs) zero h = absurd (omega arith)
    go (x ∷ xs) (suc i) h = go xs i (omega arith)

pub append_nil : {A : Type 0} (xs : List A) → xs ++ [] ≡ xs
append_nil [] = refl
append_nil (x ∷ xs) = ap (λ l. x ∷ l) (append_nil xs)

and_assoc : (a b c : Bool) → (a && b) && c ≡ a && (b && c)
and_assoc true b c = refl
and_assoc false b c = refl

and_true : (a : Bool) → a && true ≡ a
and_true true = refl
and_true false = refl

pub both_assoc : (a b c : Passed) → both (both a b) c ≡ both a (both b c)
both_assoc a b c = λ i. record { none = and_assoc a.none b.none c.none i; mutable = and_assoc a.mutable b.mutable c.mutable i }

pub both_nothing : (a : Passed) → both a (summed []) ≡ a
both_nothing a = λ i. record { none = and_true a.none i; mutable = and_true a.mutable i }

-- ---- dereferences

pub passed_turn : (es : List Entry) (t : Tables) (ps : List Passing) (i : ℕ) (p : Passing) (e : ℕ) (o : Option ℕ) (g sum new : Passed) → drop i ps ≡ p ∷ drop (i + 1) ps → o ≡ index_of t (subject.Node p.node) → o ≡ Some e → g ≡ summed (gone_through p.all (term es e)) → new ≡ both sum g
    → ((rest : Passed) → sum_at (table_of es t) (drop i ps) ≡ Some rest → sum_at (table_of es t) ps ≡ Some (both sum rest)) → (rest : Passed) → sum_at (table_of es t) (drop (i + 1) ps) ≡ Some rest → sum_at (table_of es t) ps ≡ Some (both new rest)
passed_turn es t ps i p e o g sum new d a b eg en inv rest h =
    let shape : table_of es t (subject.Node p.node) ≡ Some (term es e) = table_is es t (subject.Node p.node) o a ∙ ap (option_map (term es)) b in
    let here : sum_at (table_of es t) (drop i ps) ≡ Some (both g rest) =
    ap (sum_at (table_of es t)) d ∙ ap (λ x. with_gone x p.all (sum_at (table_of es t) (drop (i + 1) ps))) shape ∙ ap (λ x. with_gone (Some (term es e)) p.all x) h ∙ ap (λ x. Some (both x rest)) (sym eg) in
    inv (both g rest) here ∙ ap Some (sym (both_assoc sum g rest)) ∙ ap (λ x. Some (both x rest)) (sym en)

pub passed_end : (es : List Entry) (t : Tables) (ps : List Passing) (i : ℕ) (sum : Passed) → drop i ps ≡ [] → ((rest : Passed) → sum_at (table_of es t) (drop i ps) ≡ Some rest → sum_at (table_of es t) ps ≡ Some (both sum rest)) → sum_at (table_of es t) ps ≡ Some sum
passed_end es t ps i sum e inv = inv (summed []) (ap (sum_at (table_of es t)) e) ∙ ap Some (both_nothing sum)

-- the sum is that of the list
pub sums_up : (tab : Subject → Option Term) (ps : List Passing) (s : Passed) → sum_at tab ps ≡ Some s → (ms : List Bool) × (passed_at tab ps ≡ Some ms) × (s ≡ summed ms)
sums_up tab [] s e = ([], refl, cc)
sums_up tab (p ∷ ps) s e = go (tab (subject.Node p.node)) (sum_at tab ps) refl refl e (λ r h. sums_up tab ps r h)
  where
    joined : (xs ys : List Bool) → both (summed xs) (summed ys) ≡ summed (xs ++ ys)
    joined [] ys = refl
    joined (x ∷ xs) ys = λ i. record { none = false; mutable = (and_assoc x (all_mutable xs) (all_mutable ys) ∙ ap (λ b. x && b) (ap (λ (s : Passed). s.mutable) (joined xs ys))) i }

    go : (o : Option Term) (q : Option Passed) → tab (subject.Node p.node) ≡ o → sum_at tab ps ≡ q → with_gone o p.all q ≡ Some s → ((r : Passed) → sum_at tab ps ≡ Some r → (ms : List Bool) × (passed_at tab ps ≡ Some ms) × (r ≡ summed ms)) → (ms : List Bool) × (passed_at tab (p ∷ ps) ≡ Some ms) × (s ≡ summed ms)
    go (Some t) (Some r) a b h k =
        let m = k r b in
        let e : both (summed (gone_through p.all t)) r ≡ s = cc in
        (gone_through p.all t ++ m.0, rw (a, m.1) refl, sym e ∙ ap (both (summed (gone_through p.all t))) m.2 ∙ joined (gone_through p.all t) m.0)
    go (Some t) None a b h k = cc
    go None q a b h k = cc

no_references : (c : ℕ → Cell) (f : Form) → ((m : Bool) (j : ℕ) → f ≡ form.Reference m j → ⊥) → (references (term_in (cell_form c f)) ≡ []) × (outermost (term_in (cell_form c f)) ≡ [])
no_references c (form.Reference m j) n = absurd (n m j refl)
no_references c (form.Fixed k) n = (refl, refl)
no_references c _ n = (refl, refl)

pub no_references_here : (es : List Entry) (n i : ℕ) (f : Form) → Formed n es → i < length es → f ≡ form_at es i → ((m : Bool) (j : ℕ) → f ≡ form.Reference m j → ⊥) → (references (term es i) ≡ []) × (outermost (term es i) ≡ [])
no_references_here es n i f o h e k = let t = term_is es n i f o h e in let p = no_references (cell es) f k in (ap references t ∙ p.0, ap outermost t ∙ p.1)

pub through_turn : (es : List Entry) (n i j : ℕ) (f : Form) (m : Bool) (sum new whole : Passed) → Formed n es → IsTerm es i → f ≡ form_at es i → f ≡ form.Reference m j → new ≡ both sum (record { none = false; mutable = m }) → both sum (summed (references (term es i))) ≡ whole → IsTerm es j × (both new (summed (references (term es j))) ≡ whole)
through_turn es n i j f m sum new whole o t e r en inv =
    let p = to_lower es n i f m j o t.0 e r in let l = p.0 in let h = t.0 in (
      (omega (arith, l, h), p.1),
      ap (λ x. both x (summed (references (term es j)))) en ∙ both_assoc sum (record { none = false; mutable = m }) (summed (references (term es j))) ∙ ap (λ u. both sum (summed (references u))) (sym p.2) ∙ inv,
    )

pub through_end : (es : List Entry) (n i : ℕ) (f : Form) (sum whole : Passed) → Formed n es → IsTerm es i → f ≡ form_at es i → ((m : Bool) (j : ℕ) → f ≡ form.Reference m j → ⊥) → both sum (summed (references (term es i))) ≡ whole → sum ≡ whole
through_end es n i f sum whole o t e k inv = sym (ap (λ ms. both sum (summed ms)) (no_references_here es n i f o t.0 e k).0 ∙ both_nothing sum) ∙ inv

pub outermost_here : (es : List Entry) (n i j : ℕ) (f : Form) (m a : Bool) → Formed n es → IsTerm es i → f ≡ form_at es i → f ≡ form.Reference m j → a ≡ false → record { none = false; mutable = m } ≡ summed (gone_through a (term es i))
outermost_here es n i j f m a o t e r h = both_true m ∙ sym (ap (λ b. summed (gone_through b (term es i))) h ∙ ap (λ u. summed (outermost u)) (to_lower es n i f m j o t.0 e r).2)
  where
    both_true : (m : Bool) → record { none = false; mutable = m } ≡ summed (m ∷ [])
    both_true m = λ i. record { none = false; mutable = sym (and_true m) i }

pub outermost_none : (es : List Entry) (n i : ℕ) (f : Form) (a : Bool) → Formed n es → IsTerm es i → f ≡ form_at es i → ((m : Bool) (j : ℕ) → f ≡ form.Reference m j → ⊥) → a ≡ false → summed [] ≡ summed (gone_through a (term es i))
outermost_none es n i f a o t e k h = sym (ap (λ b. summed (gone_through b (term es i))) h ∙ ap summed (no_references_here es n i f o t.0 e k).1)

pub drop_item : {A : Type 0} (qs ps : List A) (i : ℕ) (s : A) → qs ≡ ps → i < length qs → s ≡ get_or qs i s → drop i ps ≡ s ∷ drop (i + 1) ps
drop_item qs ps i s e h q = drop_read qs ps i s e h ∙ ap (λ x. x ∷ drop (i + 1) ps) (sym q)
