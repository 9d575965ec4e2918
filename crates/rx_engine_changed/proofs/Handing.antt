-- What stands in place of a run has types: the call, alone or with a match on it, what is done with what it hands out, the tail.
use Rattle.std.proofs.Common.{◌≡◌, ◌≤◌, ℕ, zero, suc, true, false, IsTrue, List, [], ◌∷◌, map, length, Option, Some, None, refl, sym, ap, ◌∙◌, subst, arith}
use Rattle.rx_core.specs.declared.types.Kind.{Kind}
use Rattle.rx_core.specs.declared.types.Span.{Span}
use Rattle.rx_resolve_names.specs.Meant.{number}
use Rattle.rx_typed.specs.declared.nodes.Node.{Node}
use Rattle.rx_typed.specs.declared.nodes.Site.{Site}
use Rattle.rx_typed.specs.declared.nodes.Stage.{Stage}
use Rattle.rx_typed.specs.declared.nodes.Use.{Use}
use Rattle.rx_typed.specs.Types.{keeps_limits, outline, shape_and, shapes_of, tuple_of, unit_shape, Shapes, Typ}
use Rattle.rx_typed.specs.Named as named
use Rattle.rx_typed.specs.Named.{never, node_of, Exp, Exps, Statement}
use Rattle.rx_typed.specs.Naming.{waiting}
use Rattle.rx_hoist_extraction.specs.Plan.{Variable}
use Rattle.rx_hoist_extraction.specs.Values.{types_of, value_type, Value}
use Rattle.rx_typeck_solver.specs.declared.facts.Subject.TheVariants as subject
use Rattle.rx_typeck_solver.specs.Facts.{KnownItems}
use Rattle.rx_typeck_typed.specs.Asking.{expected, type_of}
use Rattle.rx_engine_names.specs.Renaming.{Renaming}
use Rattle.rx_engine_names.specs.Calls.{Calls}
use Rattle.rx_engine_names.specs.Calls.Passed.{passed_on as passes}
use Rattle.rx_engine_names.specs.HandedOut.{AreJoined, AreMade, IsAssigned, IsDone, IsMade}
use Rattle.rx_engine_names.specs.HandedOut.IsMade.{is_made}
use Rattle.rx_engine_names.specs.HandedOut.AreMade.{none_made, more_made}
use Rattle.rx_engine_names.specs.HandedOut.AreJoined.{one_joined, more_joined}
use Rattle.rx_engine_names.specs.HandedOut.IsDone.{is_done}
use Rattle.rx_engine_names.specs.HandedOut.IsAssigned.{is_assigned, is_given}
use Rattle.rx_engine_blocks.specs.Renumbering.{shape_at, shapes_at, Renumbering}
use Rattle.rx_engine_holes.specs.Entries.{Context, Entries}
use Rattle.rx_engine_holes.specs.CallFits.{MembersFit, StatementFits, ValueFits}
use Rattle.rx_engine_holes.specs.CallFits.MembersFit.{no_members, more_members}
use Rattle.rx_engine_holes.specs.CallFits.ValueFits.{a_variable, a_tuple}
use Rattle.rx_engine_holes.specs.CallFits.StatementFits.{assigned, given, given_within}
use Rattle.rx_engine_changed.specs.Spots.{after, declared_at, GivenThere, IsUse, NumberedExp, NumberedExps, NumberedStatement, Spot}
use Rattle.rx_engine_changed.specs.HandedTypes.{handed_type, IsStaged, KeepsLimits, NameStands}
use Rattle.rx_engine_changed.proofs.Arguments.{fits_itself}
use Rattle.rx_engine_changed.proofs.Staging.{exp_keeps, given_keeps, keeps_node, keeps_on, keeps_so, still_known, Counted, Keeps, KnownAt}
use Rattle.rx_engine_changed.proofs.Standing.{few_behind, few_first, known_use, later_same, row_behind, row_first_known, row_first_typed, settled, site_is, variable_later, RowFew, RowStands}

-- ---- values that are variables which were made

made_known : (u : Use) (r : Spot) (d : ℕ) → IsUse u r → u.number ≡ number d → number d ≡ d → KnownAt r d → u.known ≡ true
made_known u r d i e n k = known_use u r d i (e ∙ n) k.known

module _ (E : KnownItems) (f : ℕ) where
  -- a value of this type, also where it is expected
  pub record Valued (B : Context) (e : Exp) (t : Typ) : Type 0 where
    pub entries : Entries
    pub fits : ValueFits E f B e t t entries
    pub lives : never e ≡ false

  -- of this type, whatever is expected
  pub record Made (B : Context) (e : Exp) (u t : Typ) : Type 0 where
    pub entries : Entries
    pub fits : ValueFits E f B e u t entries
    pub lives : never e ≡ false

  pub made_fits : {s : Span} {B : Context} {p : Spot} (d : ℕ) (t : Typ) (ts : List Typ) {e : Exp} → IsMade s d e → number d ≡ d → RowStands B p d (t ∷ ts) → Counted p → (r z : Spot) (x : Site) → Keeps p r → NumberedExp r x e z → (u : Typ) → Made B e u t
  made_fits {B = B} d t ts (is_made {n} {u} i j) few row c r z x k h v = record {
    entries = _;
    fits = a_variable (subst (λ (m : ℕ). B (subject.Variable m) ≡ Some t) (sym (j ∙ few)) (row_first_typed d t ts row)) (made_known u r d h.1 j few (still_known d c k (row_first_known d t ts row)));
    lives = refl;
  }

  -- members of a tuple
  members_fit : {s : Span} {B : Context} {p : Spot} (d k : ℕ) (ts : List Typ) {es : Exps} → AreMade s d k es → length ts ≡ k → RowFew d k → RowStands B p d ts → Counted p → (r z : Spot) → Keeps p r → NumberedExps r Site.Value es z
      → (a : Entries) × MembersFit E B es (shapes_of ts) a
  members_fit d zero [] none_made e few row c r z k h = ([], no_members)
  members_fit d zero (t ∷ ts) none_made e few row c r z k h = absurd (omega (arith, e))
  members_fit d (suc j) [] (more_made m ms) e few row c r z k h = absurd (omega (arith, e))
  members_fit {B = B} d (suc j) (t ∷ ts) (more_made (is_made {n} {u} i l) ms) e few row c r z k h =
      let fd = few_first d j few in
      let rest = members_fit (suc d) j ts ms (omega (arith, e)) (few_behind d j few) (row_behind d t ts row) c h.0 z (keeps_on k (exp_keeps (named.var n u) r Site.Value h.0 h.1)) h.2 in
      (_, more_members (subst (λ (m : ℕ). B (subject.Variable m) ≡ Some t) (sym (l ∙ fd)) (row_first_typed d t ts row)) (made_known u r d h.1.1 l fd (still_known d c k (row_first_known d t ts row))) h.1.0.1 rest.1)

  module _ (q : Renumbering) where
    abbrev pub types_there : List Value → List Typ
    types_there hs = map (shape_at q) (types_of hs)

    shapes_there : (ts : List Typ) → shapes_at q (shapes_of ts) ≡ shapes_of (map (shape_at q) ts)
    shapes_there [] = refl
    shapes_there (t ∷ ts) = ap (shape_and (shape_at q t)) (shapes_there ts)

    pub as_many_types : (hs : List Value) → length (types_there hs) ≡ length hs
    as_many_types [] = refl
    as_many_types (h ∷ hs) = ap suc (as_many_types hs)

    -- nothing, the one, or the tuple
    pub joined_fits : {s : Span} {B : Context} {p : Spot} (d : ℕ) (hs : List Value) {e : Exp} → AreJoined s d (length hs) (named.present e) → RowFew d (length hs) → RowStands B p d (types_there hs)
        → KeepsLimits E q (handed_type hs) → Counted p → (r z : Spot) (x : Site) → Keeps p r → NumberedExp r x e z → (u : Typ) → Made B e u (shape_at q (handed_type hs))
    joined_fits d [] j few row l c r z x k h u = elim j [ ]
    joined_fits d (v ∷ []) (one_joined m) few row l c r z x k h u = made_fits d (shape_at q (value_type v)) [] m (few_first d 0 few) row c r z x k h u
    joined_fits {B = B} d (v ∷ w ∷ hs) (more_joined {n = n} {es = es} i ms) few row l c r z x k h u =
        let m = members_fit d (suc (suc (length hs))) (types_there (v ∷ w ∷ hs)) ms (as_many_types (v ∷ w ∷ hs)) few row c (after r) z (keeps_on k (keeps_node r)) h.1 in
        let same : shapes_of (types_there (v ∷ w ∷ hs)) ≡ shapes_at q (shapes_of (types_of (v ∷ w ∷ hs))) = sym (shapes_there (types_of (v ∷ w ∷ hs))) in
        subst (λ (z : Shapes Kind). Made B (named.tuple n es) u (tuple_of z)) same
        (record { entries = _; fits = a_tuple m.1 (subst (λ (z : Shapes Kind). IsTrue (keeps_limits E.sizes (outline (tuple_of z)))) (sym same) l); lives = refl })

  -- ---- assignments

  module _ (q : Renumbering) (C : Calls) (R : Renaming) (B : Context) where
    given_fits : (r s : Spot) {n k l : Node} {u : Use} {e : Exp} (t : Typ) → B (subject.Variable u.number) ≡ Some t → l.site ≡ Site.Value → (node_of e).site ≡ Site.Reborrows → Valued B e t → IsUse u r
        → (g : Stage) → (declared_at r u.number).stage ≡ g → IsStaged B r t g → (o : Option ℕ) → GivenThere (waiting u.number g) u.number o r s → (a : Entries) × StatementFits E f B (named.evaluates n (named.gives l k u o e) true) a
    given_fits r s {n = n} {k = k} {l = l} {u = u} {e = e} t y v w x i Stage.Known z st o g = (
      _,
      subst (λ (o : Option ℕ). StatementFits E f B (named.evaluates n (named.gives l k u o e) true) ((type_of k, t) ∷ (expected (node_of e), t) ∷ (type_of l, unit_shape) ∷ x.entries)) (sym g.0)
          (given_within y (known_use u r u.number i refl z) v x.fits w),
    )
    given_fits r s {n = n} {k = k} {l = l} {u = u} {e = e} t y v w x i (Stage.Waits m sp) z st o g = (
      _,
      subst (λ (o : Option ℕ). StatementFits E f B (named.evaluates n (named.gives l k u o e) true) ((type_of k, t) ∷ (expected (node_of e), t) ∷ (type_of l, unit_shape) ∷ x.entries)) (sym g.0)
          (given y st.1 v x.fits w x.lives),
    )
    given_fits r s t y v w x i Stage.Given z st o g = absurd st

    -- a value that is assigned to a variable of the text
    pub assignment_fits : {P : Exp → Type 0} {a : Statement} (v : Variable) (p s : Spot) → Counted p → NameStands C R q B p v → IsDone C.place (IsAssigned C R v.name P) a → NumberedStatement p a s
        → ((e : Exp) → P e → (r z : Spot) (x : Site) → Keeps p r → NumberedExp r x e z → z.declared ≤ s.declared → Valued B e (shape_at q v.typ)) → (c : Entries) × StatementFits E f B a c
    assignment_fits v p s c names (is_done i (is_assigned {n = m} {e = e} j (passes {n = k} {u = u} w z y) x)) h value =
        let there = names _ u.number z y in
        let p2 = after (after p) in
        let ke = keeps_so (keeps_on (keeps_on (keeps_node p) (keeps_node (after p))) (keeps_node p2)) h.1.2.2 in
        let known = settled B p (shape_at q v.typ) u.number (declared_at p u.number).stage there.staged (subst (λ (r : Spot). waiting u.number (declared_at r u.number).stage ≡ None) h.1.2.2 h.1.3) in
        let val = value e x h.1.1 s Site.Expects ke h.1.4 (omega arith) in
        (_, assigned there.typed (known_use u p u.number h.1.2.1 refl known) h.1.0.1 h.1.2.0.1 val.fits (site_is e h.1.1 Site.Expects s h.1.4) (fits_itself (shape_at q v.typ)))
    assignment_fits v p s c names (is_done i (is_given {n = m} {p = k} {u = u} {d = d} {e = e} w l z y x)) h value =
        let there = names _ u.number z y in
        let p3 = after (after (after p)) in
        let ke = keeps_on (keeps_on (keeps_node p) (keeps_node (after p))) (keeps_node (after (after p))) in
        let val = value e x p3 h.1.3 Site.Reborrows ke h.1.4 (given_keeps _ _ _ h.1.3 s h.1.6).reaches.variables in
        let after_value = variable_later u.number (shape_at q v.typ) (later_same B p h.1.3 c (keeps_on ke (exp_keeps e p3 Site.Reborrows h.1.3 h.1.4))) there in
        given_fits h.1.3 s (shape_at q v.typ) there.typed h.1.0.1 (site_is e p3 Site.Reborrows h.1.3 h.1.4) val h.1.5 (declared_at h.1.3 u.number).stage refl after_value.staged d h.1.6
