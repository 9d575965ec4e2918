-- Facts are taken as the solver takes them.
use Rattle.std.proofs.Common.{◌≡◌, ℕ, Bool, true, false, List, [], ◌∷◌, length, map, Option, Some, None, refl, sym, ap, ◌∙◌, subst}
use Rattle.std.specs.Prelude.{Result, Ok, Err, IfOk, OnOk}
use Rattle.rx_typed.specs.declared.declarations.Decl.{Decl}
use Rattle.rx_typed.specs.PlainTypes.{declarations}
use Rattle.rx_typed.specs.Types.{outline}
use Rattle.rx_typeck_solver.specs.declared.facts.Subject.{Subject}
use Rattle.rx_typeck_solver.specs.declared.facts.Passing.{Passing}
use Rattle.rx_typeck_solver.specs.declared.facts.Op.{Op}
use Rattle.rx_typeck_solver.specs.declared.facts.Test.{Test}
use Rattle.rx_typeck_solver.specs.declared.facts.Kinds.{Kinds}
use Rattle.rx_typeck_solver.specs.declared.facts.Fact.{Fact}
use Rattle.rx_typeck_solver.specs.declared.facts.Fact.TheVariants as fact
use Rattle.rx_typeck_solver.specs.declared.facts.Subject.TheVariants as subject
use Rattle.rx_typeck_solver.specs.declared.arena.Entry.{Entry}
use Rattle.rx_typeck_solver.specs.declared.tables.Tables.{Tables}
use Rattle.rx_typeck_solver.specs.declared.reading.Passed.{Passed}
use Rattle.rx_typeck_solver.specs.Facts.{KnownItems, made, holds}
use Rattle.rx_typeck_solver.specs.Solver.{Fixed, Term, State, Step, No, so, go_if, learn, listed, terms_at, passed_at, equal_to, equals, passes, integer_at, behind_at, take, take_all}
use Rattle.rx_typeck_solver.specs.Parents.{step_if, rep_of, set_of}
use Rattle.rx_typeck_solver.specs.Cells.{term, IsTerm}
use Rattle.rx_typeck_solver.specs.Tabled.{index_of, table_of, state_of, Fits, Sized}
use Rattle.rx_typeck_solver.specs.Reading.{AllTerms, summed, sum_at}
use Rattle.rx_typeck_solver.specs.Growing.{Grows, MadeIs, MadeAs}
use Rattle.rx_typeck_solver.specs.Stepping.{known, Stepped}
use Rattle.rx_typeck_solver.proofs.ClassSteps.{step_of}
use Rattle.rx_typeck_solver.proofs.States.{table_is, table_kept, term_kept}
use Rattle.rx_typeck_solver.proofs.ListReads.{sums_up}

pub both_ok : {X E : Type 0} (r : Result X E) (P : X → Type 0) (Q : Type 0) → IfOk r P → OnOk r Q → IfOk r (λ x. P x × Q)
both_ok (Ok x) P Q p q = (p, q)
both_ok (Err e) P Q p q = tt

pub entries_terms : (es : List Entry) (t : Tables) (xs : List Subject) (js : List ℕ) → Fits es t → terms_at (index_of t) xs ≡ Some js → AllTerms es js × (terms_at (table_of es t) xs ≡ Some (map (term es) js))
entries_terms es t [] js f e = let q : [] ≡ js = cc in (subst (λ l. AllTerms es l) q tt, ap (λ l. Some (map (term es) l)) q)
entries_terms es t (x ∷ xs) js f e = go (index_of t x) (terms_at (index_of t) xs) refl refl e (λ ks h. entries_terms es t xs ks f h)
  where
    go : (o : Option ℕ) (p : Option (List ℕ)) → index_of t x ≡ o → terms_at (index_of t) xs ≡ p → listed o p ≡ Some js → ((ks : List ℕ) → terms_at (index_of t) xs ≡ Some ks → AllTerms es ks × (terms_at (table_of es t) xs ≡ Some (map (term es) ks))) → AllTerms es js × (terms_at (table_of es t) (x ∷ xs) ≡ Some (map (term es) js))
    go (Some i) (Some ks) a b h k =
        let q : i ∷ ks ≡ js = cc in
        let r = k ks b in (
          subst (λ l. AllTerms es l) q (f.terms x i a, r.0),
          ap (λ o. listed o (terms_at (table_of es t) xs)) (table_is es t x (Some i) (sym a)) ∙ ap (listed (Some (term es i))) r.1 ∙ ap (λ l. Some (map (term es) l)) q,
        )
    go (Some i) None a b h k = cc
    go None p a b h k = cc

pub extended_fits : (sizes : List ℕ) (es us : List Entry) (t : Tables) → Fits es t → Grows sizes es us → Fits us t
extended_fits sizes es us t f g = record { formed = g.formed (length t.classes.parents.items) f.formed; classed = f.classed; terms = λ x i e. term_kept es us i g.extends (f.terms x i e); trimmed = f.trimmed }

module _ (items : List Decl) (sizes : List ℕ) (es us : List Entry) (t : Tables) (xs : List Subject) (js ks : List ℕ) (ps : List Passing) (s : Passed) (o : Op) (m : Option ℕ)
    (f : Fits es t) (e : terms_at (index_of t) xs ≡ Some js) (k : ks ≡ js) (d : sum_at (table_of es t) ps ≡ Some s)
    (makes : (ms : List Bool) → s ≡ summed ms → MadeAs sizes es us m (made Fixed (declarations items) o (map (term es) ks) ms)) where
  ms : (ms : List Bool) × (passed_at (table_of es t) ps ≡ Some ms) × (s ≡ summed ms)
  ms = sums_up (table_of es t) ps s d

  got : MadeAs sizes es us m (made Fixed (declarations items) o (map (term es) ks) ms.0)
  got = makes ms.0 ms.2

  pub new_fits : Fits us t
  new_fits = extended_fits sizes es us t f got.grows

  pub new_sized : Sized sizes us
  new_sized = got.grows.sized

  pub new_term : (i : ℕ) → m ≡ Some i → IsTerm us i
  new_term i q = (subst (λ x. MadeIs us x (made Fixed (declarations items) o (map (term es) ks) ms.0)) q got.is).0

  asked : (x : Subject) → equals (known items sizes) o x (terms_at (table_of es t) xs) (passed_at (table_of es t) ps) (state_of es t) ≡ equal_to (made Fixed (declarations items) o (map (term es) ks) ms.0) x (state_of es t)
  asked x = ap (λ ts. equals (known items sizes) o x ts (passed_at (table_of es t) ps) (state_of es t)) (entries_terms es t xs js f e).1
      ∙ ap (λ ns. equals (known items sizes) o x (Some (map (term es) js)) ns (state_of es t)) ms.1 ∙ ap (λ l. equal_to (made Fixed (declarations items) o (map (term es) l) ms.0) x (state_of es t)) (sym k)

  same_state : state_of us t ≡ state_of es t
  same_state = ap (λ (tab : Subject → Option Term). record { shapes = tab; rep = rep_of t.classes.parents.items; set = set_of t.classes.sets.items }) (table_kept es us t got.grows.extends f)

  pub equals_learnt : (x : Subject) (i : ℕ) (u : Tables) (g : Bool) → m ≡ Some i → learn (table_of us t x) x (term us i) (state_of us t) ≡ step_if g (state_of us u) → Fits us u → Stepped sizes us u (equals (known items sizes) o x (terms_at (table_of es t) xs) (passed_at (table_of es t) ps) (state_of es t)) g
  equals_learnt x i u g q h w = record {
    step = asked x ∙ ap (λ p. equal_to p x (state_of es t)) (subst (λ x. MadeIs us x (made Fixed (declarations items) o (map (term es) ks) ms.0)) q got.is).1 ∙ ap (λ (st : State). learn (st.shapes x) x (term us i) st) (sym same_state) ∙ h;
    fits = w;
    sized = got.grows.sized;
  }

  pub equals_none : (x : Subject) → m ≡ None → Stepped sizes us t (equals (known items sizes) o x (terms_at (table_of es t) xs) (passed_at (table_of es t) ps) (state_of es t)) false
  equals_none x q = record {
    step = asked x ∙ ap (λ p. equal_to p x (state_of es t)) (subst (λ x. MadeIs us x (made Fixed (declarations items) o (map (term es) ks) ms.0)) q got.is);
    fits = new_fits;
    sized = got.grows.sized;
  }

pub passes_tested : (items : List Decl) (sizes : List ℕ) (es : List Entry) (t : Tables) (xs : List Subject) (js ks : List ℕ) (ps qs : List Passing) (s r : Passed) (w : Test) (b : Bool) → Fits es t → Sized sizes es → terms_at (index_of t) xs ≡ Some js → ks ≡ js → sum_at (table_of es t) ps ≡ Some s → sum_at (table_of es t) qs ≡ Some r
    → ((ms ns : List Bool) → s ≡ summed ms → r ≡ summed ns → b ≡ holds (known items sizes) w (map outline (map (term es) ks)) ms ns) → Stepped sizes es t (passes (known items sizes) w (terms_at (table_of es t) xs) (passed_at (table_of es t) ps) (passed_at (table_of es t) qs) (state_of es t)) b
passes_tested items sizes es t xs js ks ps qs s r w b f z e k d c h =
    let ms = sums_up (table_of es t) ps s d in
    let ns = sums_up (table_of es t) qs r c in
    record {
      step = ap (λ ts. passes (known items sizes) w ts (passed_at (table_of es t) ps) (passed_at (table_of es t) qs) (state_of es t)) (entries_terms es t xs js f e).1
          ∙ ap (λ x. passes (known items sizes) w (Some (map (term es) js)) x (passed_at (table_of es t) qs) (state_of es t)) ms.1
          ∙ ap (λ x. passes (known items sizes) w (Some (map (term es) js)) (Some ms.0) x (state_of es t)) ns.1
          ∙ ap (λ l. go_if (holds (known items sizes) w (map outline (map (term es) l)) ms.0 ns.0) (state_of es t)) (sym k)
          ∙ step_of b _ (state_of es t) (h ms.0 ns.0 ms.2 ns.2);
      fits = f;
      sized = z;
    }

pub stepped_as : (sizes : List ℕ) (es : List Entry) (t : Tables) (r q : Step) (g : Bool) → q ≡ r → Stepped sizes es t r g → Stepped sizes es t q g
stepped_as sizes es t r q g e h = record { step = e ∙ h.step; fits = h.fits; sized = h.sized }

-- one fact
pub take_equals : (K : KnownItems) (w : Fact) (x : Subject) (o : Op) (xs : List Subject) (ps : List Passing) (st : State) → w ≡ fact.Equals x o xs ps → take K w st ≡ equals K o x (terms_at st.shapes xs) (passed_at st.shapes ps) st
unfolding take
take_equals K w x o xs ps st e = ap (λ v. take K v st) e

pub take_integer : (K : KnownItems) (w : Fact) (n : ℕ) (k : Kinds) (st : State) → w ≡ fact.Integer n k → take K w st ≡ integer_at (st.shapes (subject.Node n)) n k st
unfolding take
take_integer K w n k st e = ap (λ v. take K v st) e

pub take_behind : (K : KnownItems) (w : Fact) (n : ℕ) (k : Kinds) (st : State) → w ≡ fact.IntegerBehind n k → take K w st ≡ behind_at (st.shapes (subject.Node n)) k st
unfolding take
take_behind K w n k st e = ap (λ v. take K v st) e

pub take_passes : (K : KnownItems) (w : Fact) (c : Test) (xs : List Subject) (ps qs : List Passing) (st : State) → w ≡ fact.Passes c xs ps qs → take K w st ≡ passes K c (terms_at st.shapes xs) (passed_at st.shapes ps) (passed_at st.shapes qs) st
unfolding take
take_passes K w c xs ps qs st e = ap (λ v. take K v st) e

pub take_never : (K : KnownItems) (w : Fact) (st : State) → w ≡ fact.Never → take K w st ≡ No
unfolding take
take_never K w st e = ap (λ v. take K v st) e

-- facts in turn
pub facts_go : (K : KnownItems) (sizes : List ℕ) (es us : List Entry) (t u : Tables) (w : Fact) (l rest : List Fact) (whole : Step) (g : Bool) → Stepped sizes us u (take K w (state_of es t)) g → g ≡ true → l ≡ w ∷ rest → take_all K l (state_of es t) ≡ whole → take_all K rest (state_of us u) ≡ whole
facts_go K sizes es us t u w l rest whole g h e d q = sym (ap (λ x. take_all K x (state_of es t)) d ∙ ap (λ r. so r (λ s. take_all K rest s)) (h.step ∙ ap (λ b. step_if b (state_of us u)) e)) ∙ q

pub facts_stop : (K : KnownItems) (sizes : List ℕ) (es us : List Entry) (t u : Tables) (w : Fact) (l rest : List Fact) (whole : Step) (g : Bool) → Stepped sizes us u (take K w (state_of es t)) g → g ≡ false → l ≡ w ∷ rest → take_all K l (state_of es t) ≡ whole → Stepped sizes us u whole false
facts_stop K sizes es us t u w l rest whole g h e d q = record {
  step = sym q ∙ ap (λ x. take_all K x (state_of es t)) d ∙ ap (λ r. so r (λ s. take_all K rest s)) (h.step ∙ ap (λ b. step_if b (state_of us u)) e);
  fits = h.fits;
  sized = h.sized;
}

pub facts_end : (K : KnownItems) (sizes : List ℕ) (es : List Entry) (t : Tables) (l : List Fact) (whole : Step) → Fits es t → Sized sizes es → l ≡ [] → take_all K l (state_of es t) ≡ whole → Stepped sizes es t whole true
facts_end K sizes es t l whole f z d q = record { step = sym q ∙ ap (λ x. take_all K x (state_of es t)) d; fits = f; sized = z }
