-- From what the passes find to what is promised.
use Rattle.std.proofs.Common.{◌≡◌, ℕ, zero, suc, ◌<◌, IsTrue, List, [], ◌∷◌, length, get_or, Option, Some, None, refl, sym, ap, ◌∙◌, subst, inl, inr, arith, Vec, Global, eq-eqb}
use Rattle.std.specs.Prelude.{option_map}
use Rattle.rx_typeck_solver.specs.declared.facts.Subject.{Subject}
use Rattle.rx_typeck_solver.specs.declared.facts.Subject.TheVariants as subject
use Rattle.rx_typeck_solver.specs.declared.facts.Demand.{Demand}
use Rattle.rx_typeck_solver.specs.declared.arena.Entry.{Entry}
use Rattle.rx_typeck_solver.specs.declared.tables.Tables.{Tables}
use Rattle.rx_typeck_solver.specs.declared.demands.Failure.{Failure}
use Rattle.rx_typeck_solver.specs.declared.solver.Solved.{Solved}
use Rattle.rx_typeck_solver.specs.declared.solver.Unsolved.{Unsolved}
use Rattle.rx_typeck_solver.specs.declared.solver.Unsolved.TheVariants as unsolved
use Rattle.rx_typeck_solver.specs.Facts.{KnownItems}
use Rattle.rx_typeck_solver.specs.Valid.{Task, Breaks, IsUnclear, Asked}
use Rattle.rx_typeck_solver.specs.Solver.{State, empty, all_kinds, some_kind, Found, Found_all, Failed, Lacking, solve}
use Rattle.rx_typeck_solver.specs.Ordered.{Orderly}
use Rattle.rx_typeck_solver.specs.Cells.{term}
use Rattle.rx_typeck_solver.specs.Parents.{top, rep_of, Falling, set_of, Classed}
use Rattle.rx_typeck_solver.specs.Tabled.{index_of, table_of, state_of, Fits, Sized}
use Rattle.rx_typeck_solver.specs.Trimmed.{IsTrimmed}
use Rattle.rx_typeck_solver.specs.Ends.{HasFailed, FoundIs, Ended, LiteralsAre, ClassesAre}
use Rattle.rx_typeck_solver.specs.Solving.{IsSound, IsSolved, IsUnsolved, UnclearAt}
use Rattle.rx_typeck_solver.proofs.Parenthood.{fun_ext}
use Rattle.rx_typeck_solver.proofs.States.{restate, refits}
use Rattle.rx_typeck_solver.proofs.Order.{AskedAt}
use Rattle.rx_typeck_solver.proofs.Final.{failed_breaks, not_lacking, asks_asked, root_asked, told_known, known_told, answer_valid, unclear_literal, unclear_class}

-- ---- the start

no_item : {A : Type 0} (l : List (Option A)) (n : ℕ) → l ≡ [] → get_or l n None ≡ None
no_item l n e = ap (λ m. get_or m n None) e

-- tables in which nothing is known
pub record Fresh (es : List Entry) (t : Tables) : Type 0 where
  pub entries : es ≡ []
  pub variables : t.variables.items ≡ []
  pub nodes : t.nodes.items ≡ []
  pub expected : t.expected.items ≡ []
  pub parents : t.classes.parents.items ≡ []
  pub sets : t.classes.sets.items ≡ []

fresh_index : (es : List Entry) (t : Tables) → Fresh es t → (x : Subject) → index_of t x ≡ None
unfolding index_of
fresh_index es t f (subject.Variable x) = no_item t.variables.items x f.variables
fresh_index es t f (subject.Node x) = no_item t.nodes.items x f.nodes
fresh_index es t f (subject.Expected x) = no_item t.expected.items x f.expected

fresh_table : (es : List Entry) (t : Tables) → Fresh es t → table_of es t ≡ (λ x. None)
unfolding table_of
fresh_table es t f = fun_ext (λ x. option_map (term es) (index_of t x)) (λ x. None) (λ x. ap (option_map (term es)) (fresh_index es t f x))

no_reps : rep_of [] ≡ (λ n. n)
unfolding rep_of
no_reps = fun_ext (λ z. top z [] z) (λ n. n) go
  where
    go : (z : ℕ) → top z [] z ≡ z
    go zero = refl
    go (suc z) = rw (eq-eqb (suc z) (suc z) refl) refl

no_sets : set_of [] ≡ (λ n. all_kinds)
unfolding set_of
no_sets = refl

pub fresh_empty : (es : List Entry) (t : Tables) → Fresh es t → state_of es t ≡ empty
fresh_empty es t f =
    let a = fresh_table es t f in
    let b = ap rep_of f.parents ∙ no_reps in
    let c = ap set_of f.sets ∙ no_sets in
    λ i. record { shapes = a i; rep = b i; set = c i }

pub fresh_fits : (es : List Entry) (t : Tables) → Fresh es t → Fits es t
fresh_fits es t f = record {
  formed = λ i h. absurd (let e = f.entries in let l : length es ≡ 0 = ap (λ m. length m) e in omega (arith, h, l));
  classed = subst (λ ps. Classed ps t.classes.sets.items) (sym f.parents) (subst (λ ss. Classed [] ss) (sym f.sets) (record { falling = λ z. omega arith; as_many = refl; left = λ z. left z }));
  terms = λ x i e. let q : None ≡ Some i = sym (fresh_index es t f x) ∙ e in absurd (cc);
  trimmed = (subst (λ l. IsTrimmed l) (sym f.variables) tt, subst (λ l. IsTrimmed l) (sym f.nodes) tt, subst (λ l. IsTrimmed l) (sym f.expected) tt);
}
  where
    left : (z : ℕ) → IsTrue (some_kind (set_of [] z))
    left z = ap (λ s. some_kind (s z)) no_sets

pub fresh_sized : (sizes : List ℕ) (es : List Entry) (t : Tables) → Fresh es t → Sized sizes es
fresh_sized sizes es t f = record {
  parts = λ i h. absurd (let l : length es ≡ 0 = ap (λ m. length m) f.entries in omega (arith, h, l));
  levels = λ i h. absurd (let l : length es ≡ 0 = ap (λ m. length m) f.entries in omega (arith, h, l));
}

-- from where nothing is known, demands in order lack nothing
pub fresh_reads : (K : KnownItems) (task : Task) (es : List Entry) (t : Tables) → Orderly task → Fresh es t → solve K task.demands (state_of es t) ≡ Lacking → ⊥
fresh_reads K task es t o f e = not_lacking K task o (ap (solve K task.demands) (sym (fresh_empty es t f)) ∙ e)

-- ---- classes whose parents are flat

pub flat_fits : (es : List Entry) (t : Tables) (ps : Vec ℕ Global) → Fits es t → Falling ps.items → length ps.items ≡ length t.classes.parents.items → Fits es (record t { classes = record { parents = ps; sets = t.classes.sets } })
flat_fits es t ps f fall l = refits es t (record { parents = ps; sets = t.classes.sets }) f (record { falling = fall; as_many = f.classed.as_many ∙ sym l; left = f.classed.left }) l

pub flat_state : (es : List Entry) (t : Tables) (ps : Vec ℕ Global) → rep_of ps.items ≡ rep_of t.classes.parents.items → state_of es t ≡ state_of es (record t { classes = record { parents = ps; sets = t.classes.sets } })
flat_state es t ps e = ap (λ (r : ℕ → ℕ). record { shapes = table_of es t; rep = r; set = set_of t.classes.sets.items }) (sym e) ∙ restate es t (record { parents = ps; sets = t.classes.sets })

-- ---- what is answered

pub asked_at : (ds : List Demand) (i : ℕ) (d : Demand) (n : ℕ) → i < length ds → d ≡ get_or ds i d → d.node ≡ n → Asked ds n d.span
asked_at [] i d n h e q = absurd (omega arith)
asked_at (x ∷ ds) zero d n h e q = inl (ap (λ (y : Demand). y.node) (sym e) ∙ q, ap (λ (y : Demand). y.span) (sym e))
asked_at (x ∷ ds) (suc i) d n h e q = inr (asked_at ds i d n (omega arith) e q)

pub asked_read : (qs ds : List Demand) (i : ℕ) (d : Demand) (n : ℕ) → qs ≡ ds → i < length qs → d ≡ get_or qs i d → d.node ≡ n → Asked ds n d.span
asked_read qs ds i d n e h q r = subst (λ l. Asked l n d.span) e (asked_at qs i d n h q r)

pub unclear_is : (K : KnownItems) (task : Task) (n : ℕ) (u : Unsolved) → UnclearAt task.demands n u → IsUnclear K task n → IsUnsolved K task u
unclear_is K task n (unsolved.Broken m s b) h i = (inr (h.1, subst (λ k. IsUnclear K task k) (sym h.0) i), subst (λ k. Asked task.demands k s) (sym h.0) h.2)
unclear_is K task n unsolved.OutOfMemory h i = absurd h

pub failed_is : (K : KnownItems) (task : Task) (sizes : List ℕ) (es us : List Entry) (t u : Tables) (x : Failure) (o : Option Failure) → Fresh es t → Ended sizes us u (solve K task.demands (state_of es t)) o → o ≡ Some x
    → IsUnsolved K task (unsolved.Broken x.node x.span x.broken)
failed_is K task sizes es us t u x o f e q = go (solve K task.demands (state_of es t)) refl (subst (λ p. FoundIs p (solve K task.demands (state_of es t)) (state_of us u)) q e.found)
  where
    go : (r : Found) → solve K task.demands (state_of es t) ≡ r → HasFailed x r → IsUnsolved K task (unsolved.Broken x.node x.span x.broken)
    go (Failed d) r h =
        let b = failed_breaks K task d (ap (solve K task.demands) (sym (fresh_empty es t f)) ∙ r) in
        (inl (subst (λ n. Breaks K task n x.broken) h.0 (subst (λ y. Breaks K task d.node y) h.2 b.0)), subst (λ n. Asked task.demands n x.span) h.0 (subst (λ s. Asked task.demands d.node s) h.1 b.1))
    go (Found_all st) r h = absurd h
    go Lacking r h = absurd h

-- the state at the end, with flat classes
pub ended_all : (K : KnownItems) (task : Task) (sizes : List ℕ) (es us : List Entry) (t u : Tables) (o : Option Failure) (ps : Vec ℕ Global) → Fresh es t → Ended sizes us u (solve K task.demands (state_of es t)) o → o ≡ None → rep_of ps.items ≡ rep_of u.classes.parents.items
    → solve K task.demands empty ≡ Found_all (state_of us (record u { classes = record { parents = ps; sets = u.classes.sets } }))
ended_all K task sizes es us t u o ps f e q r =
    ap (solve K task.demands) (sym (fresh_empty es t f)) ∙ subst (λ p. FoundIs p (solve K task.demands (state_of es t)) (state_of us u)) q e.found ∙ ap Found_all (flat_state us u ps r)

module _ (K : KnownItems) (task : Task) (o : Orderly task) (s : Solved) (end : solve K task.demands empty ≡ Found_all (state_of s.arena.entries.items s.tables)) where
  abbrev st : State
  st = state_of s.arena.entries.items s.tables

  pub literal_unclear : (n : ℕ) (r : Option ℕ) → LiteralsAre (state_of s.arena.entries.items s.tables) task.literals r → r ≡ Some n → IsUnclear K task n
  literal_unclear n r h e = let p = subst (λ q. LiteralsAre st task.literals q) e h in unclear_literal K task st o end n p.0 p.1

  pub class_unclear : (n : ℕ) (r q : Option ℕ) → LiteralsAre (state_of s.arena.entries.items s.tables) task.literals r → r ≡ None → ClassesAre (state_of s.arena.entries.items s.tables) task.literals q → q ≡ Some n → IsUnclear K task n
  class_unclear n r q h e k f =
      let l = subst (λ p. LiteralsAre st task.literals p) e h in
      let p = subst (λ p. ClassesAre st task.literals p) f k in
      unclear_class K task st o end l n p.0 p.1

  -- something is asked at the literal, and at the node of the class
  pub literal_asked : (n : ℕ) (r : Option ℕ) → LiteralsAre (state_of s.arena.entries.items s.tables) task.literals r → r ≡ Some n → AskedAt task.demands n
  literal_asked n r h e = let p = subst (λ q. LiteralsAre st task.literals q) e h in asks_asked n task.demands (o.literals n p.0)

  pub class_asked : (n : ℕ) (q : Option ℕ) → ClassesAre (state_of s.arena.entries.items s.tables) task.literals q → q ≡ Some n → AskedAt task.demands n
  class_asked n q k f = let p = subst (λ p. ClassesAre st task.literals p) f k in root_asked K task st o end n p.0

  pub is_solved : (r q : Option ℕ) → LiteralsAre (state_of s.arena.entries.items s.tables) task.literals r → r ≡ None → ClassesAre (state_of s.arena.entries.items s.tables) task.literals q → q ≡ None → IsSound s → IsSolved K task s
  is_solved r q h e k f g = record {
    sound = g;
    valid = answer_valid K task st o end (subst (λ p. LiteralsAre st task.literals p) e h) (subst (λ p. ClassesAre st task.literals p) f k);
    told = λ x. (λ t. told_known K task st o end x t, λ t. known_told K task st o end x t);
  }
