-- What the call declares is known behind it, and `mut` as the plan says.
use Rattle.std.proofs.Common.{if◌then◌else◌, ◌≡◌, ◌≤◌, ◌<◌, ◌+◌, ℕ, zero, suc, Bool, true, false, List, [], ◌∷◌, length, Option, Some, None, option_map, slice_get, refl, sym, ap, ◌∙◌, subst, arith}
use Rattle.rx_core.specs.declared.types.Span.{Span}
use Rattle.rx_typed.specs.declared.nodes.Declaration.{Declaration}
use Rattle.rx_typed.specs.declared.nodes.Node.{Node}
use Rattle.rx_typed.specs.declared.nodes.Stage.{Stage}
use Rattle.rx_typed.specs.Named as named
use Rattle.rx_typed.specs.Named.{never, Exp, Pattern, Patterns, Statements}
use Rattle.rx_typed.specs.Naming.{as_known, not_declared, of_statements, Cursor}
use Rattle.rx_tree.specs.Plain as plain
use Rattle.rx_hoist_extraction.specs.Plan.{has_enum, Variable}
use Rattle.rx_hoist_extraction.specs.Values.{held_by, next_values, Value}
use Rattle.rx_engine_names.specs.Renaming.{Renaming}
use Rattle.rx_engine_names.specs.HandedOut.{Handing, AreBound, none_bound, more_bound, IsWhole, ArePutBack, none_put_back, result_stays, own_stays, is_put_back, AreHanded, done_alone, is_tail, one_bound, one_assigned, several_bound, AreRedeclared, none_redeclared, more_redeclared}
use Rattle.rx_engine_changed.specs.Beside.{IsOneToOne}
use Rattle.rx_engine_changed.specs.Declared.{bound_mutable, IsKnownVariable}
use Rattle.rx_engine_changed.specs.Spots.{after, declared_at, known_from, spot, waits_where, with_variable, NumberedPatterns, NumberedStatements, Spot}
use Rattle.rx_engine_changed.proofs.Lists.{becomes_known, newest_at, read_at}
use Rattle.rx_engine_changed.proofs.PlannedDeeds.{given}
use Rattle.rx_engine_changed.proofs.Spots.{statements_numbered}
use Rattle.rx_engine_changed.proofs.Staging.{as_it_was, exp_keeps, keeps_on, now_known, optional_type_keeps, patterns_keep, pattern_keeps, statement_keeps, statements_keep, there_is, Counted, Keeps, Still}
use Rattle.rx_engine_changed.proofs.Standing.{next_number}

-- ---- later on

still_mutable : {a b : Declaration} {m : Bool} → Still a b → a.mutable ≡ m → b.mutable ≡ m
still_mutable (as_it_was e) h = ap (λ (d : Declaration). d.mutable) e ∙ h
still_mutable (now_known m s) h = m ∙ h

still_known : {a b : Declaration} → Still a b → a.stage ≡ Stage.Known → b.stage ≡ Stage.Known
still_known (as_it_was e) h = ap (λ (d : Declaration). d.stage) e ∙ h
still_known (now_known m s) h = s

later : (p q : Spot) (k : ℕ) (b : Bool) → Counted p → Keeps p q → IsKnownVariable p k b → IsKnownVariable q k b
later p q k b c x h = record {
  earlier = let i = x.reaches.variables in let j = h.earlier in omega (arith, i, j);
  mutable = still_mutable (x.kept c k h.earlier) h.mutable;
  known = still_known (x.kept c k h.earlier) h.known;
}

pub some_is : {A : Type 0} (a b : A) → ◌≡◌ {A = Option A} (Some a) (Some b) → a ≡ b
some_is a b e = cc

-- ---- a row of variables

record Bound (p r : Spot) (k : ℕ) (b : Bool) : Type 0 where
  behind : p.declared ≤ k
  before : k < r.declared
  mutable : (declared_at r k).mutable ≡ b

newest : (p : Spot) (n : Node) (d : ℕ) (m : Bool) → Counted p → d ≡ p.declared → (declared_at (with_variable m (after p)) d).mutable ≡ m
newest p n d m c e =
    ap (λ (x : Declaration). x.mutable) (read_at _ d not_declared (record { mutable = m; stage = Stage.Given }) (newest_at p.variables (record { mutable = m; stage = Stage.Given }) d (omega (arith, e, c))))

row_bound : {s : Span} {d : ℕ} {ms : List Bool} {ps : Patterns} (p r : Spot) → AreBound s d ms ps → NumberedPatterns p ps r → Counted p → (i : ℕ) (b : Bool) → slice_get ms i ≡ Some b → Bound p r (d + i) b
row_bound p r none_bound h c i b e = absurd (let k : None ≡ Some b = e in cc)
row_bound p r (more_bound {d = d} {m = m} {n = n} {ps = ps} j bs) h c zero b e =
    let x = h.1 in let t = patterns_keep ps h.0 r h.2 in
    let at : (declared_at h.0 d).mutable ≡ m = subst (λ (z : Spot). (declared_at z d).mutable ≡ m) (sym x.2) (newest p n d m c x.1) in
    let many : h.0.declared ≡ suc p.declared = ap (λ (z : Spot). z.declared) x.2 in
    let counted = (pattern_keeps (named.bind n d m) p h.0 x).counted c in
    let first = x.1 in let up = t.reaches.variables in
    let here : d < h.0.declared = omega (arith, first, many) in
    let there : (declared_at r d).mutable ≡ b = still_mutable (t.kept counted d here) at ∙ some_is m b e in
    subst (λ (k : ℕ). Bound p r k b) (no_more d) (record { behind = omega (arith, first); before = omega (arith, here, up); mutable = there })
  where
    no_more : (d : ℕ) → d ≡ d + 0
    no_more d = omega arith
row_bound p r (more_bound {d = d} {m = m} {n = n} {ps = ps} j bs) h c (suc i) b e =
    let k = pattern_keeps (named.bind n d m) p h.0 h.1 in
    let x = row_bound h.0 r bs h.2 (k.counted c) i b e in
    let up = k.reaches.variables in let l = x.behind in
    subst (λ (z : ℕ). Bound p r z b) (sym (next_number d i)) (record { behind = omega (arith, up, l); before = x.before; mutable = x.mutable })

-- behind a `let` its variables are known
let_known : (p r u : Spot) (k : ℕ) (b : Bool) → Counted r → Keeps r u → Bound p r k b → IsKnownVariable (known_from p.declared r.declared u) k b
let_known p r u k b c x h =
    let l = h.behind in let w = h.before in let up = x.reaches.variables in let counted = x.counted c in
    let z = there_is u.variables k (omega (arith, counted, w, up)) in
    let now : declared_at (known_from p.declared r.declared u) k ≡ as_known z.0 = read_at _ k not_declared (as_known z.0) (becomes_known p.declared r.declared k u.variables (l, w) ∙ ap (option_map as_known) z.1) in
    let old : declared_at u k ≡ z.0 = read_at u.variables k not_declared z.0 z.1 in
    record {
      earlier = omega (arith, w, up);
      mutable = ap (λ (d : Declaration). d.mutable) now ∙ ap (λ (d : Declaration). d.mutable) (sym old) ∙ still_mutable (x.kept c k w) h.mutable;
      known = ap (λ (d : Declaration). d.stage) now;
    }

not_waiting : (z : Bool) (x : Pattern) (p : Spot) → z ≡ false → waits_where z x p ≡ p
not_waiting false x p e = refl
not_waiting true x p e = absurd (let h : true ≡ false = e in cc)

no_whole : (z : Bool) (n : Node) (ps : Patterns) (p : Spot) → waits_where z (named.tuple_pattern n ps) p ≡ p
no_whole true n ps p = refl
no_whole false n ps p = refl

one_row : (s : Span) (p r : Spot) (n : Node) (d : ℕ) (m : Bool) → n.span ≡ s → NumberedPatterns p (named.pattern_and (named.bind n d m) named.no_pattern) r → Counted p → (i : ℕ) (b : Bool) → slice_get (m ∷ []) i ≡ Some b → Bound p r (d + i) b
one_row s p r n d m j h c i b e = row_bound p r (more_bound j none_bound) h c i b e

-- ---- variables that are redeclared

redeclared_known : {s : Span} {R : Renaming} {d : ℕ} {vs : List Variable} {ss : Statements} (p q : Spot) → AreRedeclared s R d vs ss → NumberedStatements p ss q → Counted p → (j : ℕ) (v : Variable) → slice_get vs j ≡ Some v → IsKnownVariable q (d + j) v.mutable
redeclared_known p q none_redeclared h c j v e = absurd (let k : None ≡ Some v = e in cc)
redeclared_known {s = s} p q (more_redeclared {d = d} {v = w} {n = n} {p = x} {w = y} {ss = ss} i k said hs) h c zero v e =
    let a = h.1 in
    let row = one_row s (after p) a.1 x d w.mutable k (a.1, a.2, refl) c 0 v.mutable (ap (λ (z : Variable). Some z.mutable) (some_is w v e)) in
    let counted = (pattern_keeps (named.bind x d w.mutable) (after p) a.1 a.2).counted c in
    let here = let_known (after p) a.1 a.3 (d + 0) v.mutable counted (optional_type_keeps (Some y) a.1 a.3 a.4) row in
    let there : IsKnownVariable h.0 (d + 0) v.mutable = subst (λ (z : Spot). IsKnownVariable z (d + 0) v.mutable) (sym a.5) here in
    later h.0 q (d + 0) v.mutable ((statement_keeps (named.declares n (named.bind x d w.mutable) (Some y)) p h.0 a).counted c) (statements_keep ss h.0 q h.2) there
redeclared_known {s = s} p q (more_redeclared {d = d} {v = w} {n = n} {p = x} {w = y} {ss = ss} i k said hs) h c (suc j) v e =
    subst (λ (z : ℕ). IsKnownVariable q z v.mutable) (sym (next_number d j))
    (redeclared_known h.0 q hs h.2 ((statement_keeps (named.declares n (named.bind x d w.mutable) (Some y)) p h.0 h.1).counted c) j v e)

-- ---- what is handed out

abbrev Redeclared : Spot → ℕ → List Variable → Type 0
Redeclared q e vs = (j : ℕ) (v : Variable) → slice_get vs j ≡ Some v → IsKnownVariable q (e + j) v.mutable

abbrev HandedOn : Spot → ℕ → List Bool → Type 0
HandedOn q d ms = (i : ℕ) (b : Bool) → slice_get ms i ≡ Some b → IsKnownVariable q (d + i) b

none_there : {X : Type 0} (b : Bool) → ◌≡◌ {A = Option Bool} None (Some b) → X
none_there b e = absurd (cc)

module _ (G : Handing) (R : Renaming) (e : ℕ) (vs : List Variable) where
  abbrev Q : Statements → Type 0
  Q = AreRedeclared G.call.place R e vs

  behind_those : {d : ℕ} {hs : List Value} {ss : Statements} (p q : Spot) → ArePutBack G R Q d hs ss → NumberedStatements p ss q → Counted p → Redeclared q e vs
  behind_those p q (none_put_back x) h c = redeclared_known p q x h c
  behind_those p q (result_stays x) h c = behind_those p q x h c
  behind_those p q (own_stays o x) h c = behind_those p q x h c
  behind_those p q (is_put_back {a = a} o b x) h c = behind_those h.0 q x h.2 ((statement_keeps a p h.0 h.1).counted c)

  handed_known : {W : Exp → Type 0} {d : ℕ} {hs : List Value} {ss : Statements} (p q : Spot) → ((h : Value) (t : List Value) → hs ≡ h ∷ t → (i : Exp) → W i → never i ≡ false) → AreHanded G R W Q d hs ss → NumberedStatements p ss q → Counted p
      → HandedOn q d (bound_mutable G hs) × Redeclared q e vs
  handed_known p q comes (done_alone {a = a} x y) h c = (λ i b k. none_there b k, redeclared_known h.0 q y h.2 ((statement_keeps a p h.0 h.1).counted c))
  handed_known p q comes (is_tail y) h c = (λ i b k. none_there b k, redeclared_known p q y h c)
  handed_known {d = d} p q comes (one_bound {v = v} {n = n} {p = x} {e = w} {ss = ss} own j k it y) h c =
      let a = h.1 in let after_it = (statement_keeps (named.lets n (named.bind x d v.mutable) None w) p h.0 a).counted c in (
        λ i b f.
            let row = one_row G.call.place (after p) a.1 x d v.mutable k (a.1, a.2, refl) c i b (subst (λ (z : Bool). slice_get (if z then v.mutable ∷ [] else []) i ≡ Some b) own f) in
            let counted = (pattern_keeps (named.bind x d v.mutable) (after p) a.1 a.2).counted c in
            let here = let_known (after p) a.1 a.5 (d + i) b counted (keeps_on (optional_type_keeps None a.1 a.3 a.4) (exp_keeps w a.3 _ a.5 a.6)) row in
            later h.0 q (d + i) b after_it (statements_keep ss h.0 q h.2) (subst (λ (z : Spot). IsKnownVariable z (d + i) b) (sym (a.7 ∙ not_waiting (never w) (named.bind x d v.mutable) (known_from p.declared a.1.declared a.5) (comes (held_by v) [] refl w it))) here),
        redeclared_known h.0 q y h.2 after_it,
      )
  handed_known p q comes (one_assigned {v = v} {a = a} own x y) h c =
      (λ i b f. none_there b (subst (λ (z : Bool). slice_get (if z then v.mutable ∷ [] else []) i ≡ Some b) own f), redeclared_known h.0 q y h.2 ((statement_keeps a p h.0 h.1).counted c))
  handed_known {d = d} p q comes (several_bound {h = h1} {i = h2} {hs = hs} {n = n} {p = x} {ps = ps} {e = w} {ss = ss} j k bs it y) h c =
      let a = h.1 in let after_it = (statement_keeps (named.lets n (named.tuple_pattern x ps) None w) p h.0 a).counted c in (
        λ i b f.
            let row = row_bound (after (after p)) a.1 bs a.2.1 c i b f in
            let counted = (pattern_keeps (named.tuple_pattern x ps) (after p) a.1 a.2).counted c in
            let wide : Bound (after p) a.1 (d + i) b = record { behind = row.behind; before = row.before; mutable = row.mutable } in
            let here = let_known (after p) a.1 a.5 (d + i) b counted (keeps_on (optional_type_keeps None a.1 a.3 a.4) (exp_keeps w a.3 _ a.5 a.6)) wide in
            later h.0 q (d + i) b after_it (statements_keep ss h.0 q h.2) (subst (λ (z : Spot). IsKnownVariable z (d + i) b) (sym (a.7 ∙ no_whole (never w) x ps (known_from p.declared a.1.declared a.5))) here),
        behind_those h.0 q y h.2 after_it,
      )

pub call_declares : (G : Handing) (R : Renaming) → IsOneToOne R → (ss : plain.Statements) (c : Cursor) (d e : ℕ) → length c.variables ≡ c.declared
    → AreHanded G R (IsWhole G R (has_enum G.call.plan.exits)) (AreRedeclared G.call.place R e G.call.plan.redeclared) d (next_values G.call.plan) (of_statements ss c).0
    → ((i : ℕ) (b : Bool) → slice_get (bound_mutable G (next_values G.call.plan)) i ≡ Some b → IsKnownVariable (spot (of_statements ss c).1) (d + i) b)
    × ((j : ℕ) (v : Variable) → slice_get G.call.plan.redeclared j ≡ Some v → IsKnownVariable (spot (of_statements ss c).1) (e + j) v.mutable)
call_declares G R apart ss c d e counted h =
    handed_known G R e G.call.plan.redeclared {W = IsWhole G R (has_enum G.call.plan.exits)} (spot c) (spot (of_statements ss c).1) (λ a t f i w. given R apart G a t f i w) h (statements_numbered ss c) counted
