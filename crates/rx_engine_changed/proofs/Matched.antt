-- The call has a type, alone or with a match on it: its arguments are passed, each arm of the match gives the values, or assigns them and jumps.
use Rattle.std.proofs.Common.{if◌then◌else◌, ◌≡◌, ◌<◌, ◌≤◌, ◌+◌, ℕ, zero, suc, nat_eq, Bool, true, false, ◌||◌, IsTrue, List, [], ◌∷◌, map, length, Option, Some, None, slice_get, refl, ap, ◌∙◌, subst, eq-eqb, eqb-true, arith}
use Rattle.rx_core.specs.declared.types.Span.{Span}
use Rattle.rx_tree.specs.Lists.{Every}
use Rattle.rx_resolve_names.specs.Scopes.{variable_named}
use Rattle.rx_typed.specs.declared.nodes.Declaration.{Declaration}
use Rattle.rx_typed.specs.declared.nodes.Node.{Node}
use Rattle.rx_typed.specs.declared.nodes.Site.{Site}
use Rattle.rx_typed.specs.declared.nodes.Use.{Use}
use Rattle.rx_typed.specs.Types.{keeps_limits, outline, parameters_declared, result_declared, unit_shape, Typ}
use Rattle.rx_typed.specs.Named.{diverges, is_place, never, some_diverges, statement_diverges, Exp, Exps, Patterns, Statements}
use Rattle.rx_hoist_extraction.specs.Plan.{by_mut, names_of, to_next, to_return, Exit, Mode, Param, Variable}
use Rattle.rx_hoist_extraction.specs.Names.{Names}
use Rattle.rx_hoist_extraction.specs.Values.{types_of, value_type, variables_held, Value}
use Rattle.rx_hoist_extraction.specs.NewFunction.{passed_types}
use Rattle.rx_typeck_solver.specs.declared.facts.Subject.TheVariants as subject
use Rattle.rx_typeck_solver.specs.Facts.{KnownItems}
use Rattle.rx_typeck_typed.specs.Asking.{type_of}
use Rattle.rx_typeck_typed.specs.Demands.{count}
use Rattle.rx_engine_names.specs.Renaming.{Renaming}
use Rattle.rx_engine_names.specs.Calls.{AreArguments, IsArgument, IsCall}
use Rattle.rx_engine_names.specs.Calls.IsCall.{is_call}
use Rattle.rx_engine_names.specs.Calls.Passed.{passed_on as passes}
use Rattle.rx_engine_names.specs.Calls.IsArgument.{argument_by_value, argument_by_reborrow, argument_by_view, argument_by_shared, argument_by_mut}
use Rattle.rx_engine_names.specs.Calls.AreArguments.{no_argument, more_arguments}
use Rattle.rx_engine_names.specs.HandedOut.{AreAssigned, AreBound, Handing, IsJump, OneDone}
use Rattle.rx_engine_names.specs.HandedOut.AreBound.{none_bound, more_bound}
use Rattle.rx_engine_names.specs.HandedOut.IsDone.{is_done}
use Rattle.rx_engine_names.specs.HandedOut.AreAssigned.{all_assigned, more_assigned}
use Rattle.rx_engine_names.specs.HandedOut.OneDone.{one_done}
use Rattle.rx_engine_names.specs.HandedOut.IsJump.{jumps_out, jumps_on}
use Rattle.rx_engine_blocks.specs.Renumbering.{shape_at, Renumbering}
use Rattle.rx_engine_holes.specs.Entries.{with_entries, Context, Entries}
use Rattle.rx_engine_holes.specs.CallFits.{JumpFits, PartsBind, StatementsFit}
use Rattle.rx_engine_holes.specs.CallFits.PartsBind.{no_parts, more_parts}
use Rattle.rx_engine_holes.specs.CallFits.JumpFits.{a_break, a_continue}
use Rattle.rx_engine_holes.specs.CallFits.StatementFits.{jumps}
use Rattle.rx_engine_holes.specs.CallFits.StatementsFit.{no_more, a_statement}
use Rattle.rx_engine_changed.specs.Arguments.{ArePassed, IsPassed}
use Rattle.rx_engine_changed.specs.Spots.{after, declared_at, NumberedExp, NumberedExps, NumberedPatterns, NumberedStatements, Spot}
use Rattle.rx_engine_changed.specs.HandedTypes.{KeepsLimits, NameStands, ParamStands}
use Rattle.rx_engine_changed.proofs.Arguments.{call_fits}
use Rattle.rx_engine_changed.proofs.Inside.{statement_inside}
use Rattle.rx_engine_changed.proofs.Staging.{exp_keeps, keeps_node, keeps_on, patterns_keep, statement_keeps, still_known, as_it_was, now_known, Counted, Keeps, KnownAt, Still}
use Rattle.rx_engine_changed.proofs.Standing.{few_behind, few_first, known_use, later_with, row_behind, row_later, site_is, still_counted, variable_later, Later, RowFew, RowStands, RowTyped}
use Rattle.rx_engine_changed.proofs.Handing.{assignment_fits, made_fits, types_there, Made}

pub every_such : {A : Type 0} {P Q : A → Type 0} (xs : List A) → ((x : A) → P x → Q x) → Every P xs → Every Q xs
every_such [] f h = tt
every_such (x ∷ xs) f h = (f x h.0, every_such xs f h.1)

or_true : (b c : Bool) → c ≡ true → (b || c) ≡ true
or_true true c e = refl
or_true false c e = e

pub still_mutable : {p r : Spot} (k : ℕ) → Counted p → Keeps p r → k < p.declared → (declared_at r k).mutable ≡ (declared_at p k).mutable
still_mutable {p = p} {r = r} k c a l = by (a.kept c k l)
  where
    by : Still (declared_at p k) (declared_at r k) → (declared_at r k).mutable ≡ (declared_at p k).mutable
    by (as_it_was e) = ap (λ (d : Declaration). d.mutable) e
    by (now_known m s) = m

-- ---- variables that are bound to parts

some_same : (t u : Typ) → ◌≡◌ {A = Option Typ} (Some t) (Some u) → t ≡ u
some_same t u e = cc

none_there : (u : Typ) → ◌≡◌ {A = Option Typ} None (Some u) → ⊥
none_there u e = cc

other_number : (n m : ℕ) → (n ≡ m → ⊥) → nat_eq n m ≡ false
other_number n m w = by (nat_eq n m) refl
  where
    by : (b : Bool) → nat_eq n m ≡ b → b ≡ false
    by true e = absurd (w (eqb-true n m e))
    by false e = refl

none_before : (k : ℕ) → k ≡ 0 + k
none_before k = omega arith

one_further : (j k : ℕ) → j + suc k ≡ suc j + k
one_further j k = omega arith

module _ (E : KnownItems) where
  abbrev pub LimitsEach : List Typ → Type 0
  LimitsEach ts = (i : ℕ) (t : Typ) → slice_get ts i ≡ Some t → IsTrue (keeps_limits E.sizes (outline t))

  pub record BoundRow (B : Context) (d k : ℕ) (ts all : List Typ) (ps : Patterns) (p r : Spot) : Type 0 where
    pub entries : Entries
    pub binds : PartsBind E all k ps entries
    pub typed : RowTyped (with_entries entries B) d ts
    pub many : length ts ≡ count ps
    pub between : (i : ℕ) → i < length ts → (p.declared ≤ d + i) × (d + i < r.declared)

  pub bound_row : {s : Span} (B : Context) (d k : ℕ) {ms : List Bool} {ps : Patterns} (ts all : List Typ) (p r : Spot) → AreBound s d ms ps → length ms ≡ length ts → ((j : ℕ) → slice_get all (j + k) ≡ slice_get ts j) → LimitsEach ts → NumberedPatterns p ps r → BoundRow B d k ts all ps p r
  bound_row B d k [] all p r none_bound e g l h = record { entries = []; binds = no_parts; typed = λ i t e. absurd (none_there t e); many = refl; between = λ i w. absurd (omega (arith, w)) }
  bound_row B d k (t ∷ ts) all p r none_bound e g l h = absurd (omega (arith, e))
  bound_row B d k [] all p r (more_bound i bs) e g l h = absurd (omega (arith, e))
  bound_row B d k (t ∷ ts) all p r (more_bound {m = m} {n = n} i bs) e g l h =
      let x = bound_row B (suc d) (suc k) ts all h.0 r bs (omega (arith, e)) (λ j. ap (slice_get all) (one_further j k) ∙ g (suc j)) (λ i u w. l (suc i) u w) h.2 in
      let at : d ≡ p.declared = h.1.1 in
      let next : h.0.declared ≡ suc p.declared = ap (λ (s : Spot). s.declared) h.1.2 in
      let up = (patterns_keep _ h.0 r h.2).reaches.variables in record {
        entries = (type_of n, t) ∷ (subject.Variable d, t) ∷ x.entries;
        binds = more_parts (ap (slice_get all) (none_before k) ∙ g 0) (l 0 t refl) x.binds;
        typed = λ j u w. typed_at d t ts n x.entries x.typed j u w;
        many = ap suc x.many;
        between = λ j w. between_at d (length ts) p h.0 r at next up x.between j w;
      }
    where
      typed_at : (d : ℕ) (t : Typ) (ts : List Typ) (n : Node) (a : Entries) → RowTyped (with_entries a B) (suc d) ts → (j : ℕ) (u : Typ) → slice_get (t ∷ ts) j ≡ Some u → with_entries ((type_of n, t) ∷ (subject.Variable d, t) ∷ a) B (subject.Variable (d + j)) ≡ Some u
      typed_at d t ts n a y zero u w =
          ap (λ (b : Bool). if b then Some t else with_entries a B (subject.Variable (d + 0))) (eq-eqb (d + 0) d (omega arith)) ∙ w
      typed_at d t ts n a y (suc j) u w =
          ap (λ (b : Bool). if b then Some t else with_entries a B (subject.Variable (d + suc j))) (other_number (d + suc j) d (λ z. absurd (omega (arith, z))))
          ∙ (ap (λ (m : ℕ). with_entries a B (subject.Variable m)) (one_further d j) ∙ y j u w)

      between_at : (d m : ℕ) (p s r : Spot) → d ≡ p.declared → s.declared ≡ suc p.declared → s.declared ≤ r.declared → ((i : ℕ) → i < m → (s.declared ≤ suc d + i) × (suc d + i < r.declared)) → (j : ℕ) → j < suc m → (p.declared ≤ d + j) × (d + j < r.declared)
      between_at d m p s r e f g y zero w = (omega (arith, e), omega (arith, e, f, g))
      between_at d m p s r e f g y (suc j) w = let z = y j (omega (arith, w)) in let a = z.0 in let b = z.1 in (omega (arith, e, f, a), omega (arith, b))

  pub limits_of : (q : Renumbering) (hs : List Value) → Every (λ (v : Value). KeepsLimits E q (value_type v)) hs → LimitsEach (map (shape_at q) (types_of hs))
  limits_of q [] h i t e = absurd (none_there t e)
  limits_of q (v ∷ hs) h zero t e = subst (λ (z : Typ). IsTrue (keeps_limits E.sizes (outline z))) (some_same _ t e) h.0
  limits_of q (v ∷ hs) h (suc i) t e = limits_of q hs h.1 i t e

-- ---- the call

module _ (E : KnownItems) (f : ℕ) (q : Renumbering) (G : Handing) (R : Renaming) where
  module _ (B : Context) (p : Spot) (c : Counted p) where
    param_known : (x : Param) → ParamStands E G.call R q B p x → (j k : ℕ) → variable_named G.call.scope x.variable.name ≡ Some j → R.variable j k ≡ true → KnownAt p k
    param_known x h j k v r = let z = h.0 j k v r in record { earlier = z.0.earlier; known = z.1 }

    argument_passes : {m : Mode} {y : List ℕ} {e : Exp} → IsArgument G.call R y m e → ((j k : ℕ) → variable_named G.call.scope y ≡ Some j → R.variable j k ≡ true → KnownAt p k)
        → ((j k : ℕ) → variable_named G.call.scope y ≡ Some j → R.variable j k ≡ true → m ≡ by_mut → (declared_at p k).mutable ≡ true) → (r z : Spot) → Keeps p r → NumberedExp r Site.Expects e z → IsPassed e
    argument_passes (argument_by_value (passes {n = n} {u = u} i v w)) k m r z a h = (h.0.1, known_use u r u.number h.1 refl (still_known u.number c a (k _ u.number v w)).known)
    argument_passes (argument_by_reborrow (passes {n = n} {u = u} i v w)) k m r z a h = (h.0.1, known_use u r u.number h.1 refl (still_known u.number c a (k _ u.number v w)).known)
    argument_passes (argument_by_view (passes {n = n} {u = u} i v w)) k m r z a h = (h.0.1, known_use u r u.number h.1 refl (still_known u.number c a (k _ u.number v w)).known)
    argument_passes (argument_by_shared i (passes {n = n} {u = u} j v w)) k m r z a h =
        ((h.0.1, h.1.0.1), (known_use u (after r) u.number h.1.1 refl (still_known u.number c (keeps_on a (keeps_node r)) (k _ u.number v w)).known, λ e. absurd (cc)))
    argument_passes (argument_by_mut i (passes {n = n} {u = u} j v w)) k m r z a h =
        let b = keeps_on a (keeps_node r) in let y = k _ u.number v w in (
          (h.0.1, h.1.0.1),
          (
            known_use u (after r) u.number h.1.1 refl (still_known u.number c b y).known,
            λ e. ap (λ (x : Use). x.mutable) h.1.1 ∙ (still_mutable u.number c b y.earlier ∙ m _ u.number v w refl),
          ),
        )

    all_pass : (xs : List Param) {es : Exps} → AreArguments G.call R xs es → Every (ParamStands E G.call R q B p) xs → (r z : Spot) → Keeps p r → NumberedExps r Site.Expects es z → ArePassed es
    all_pass [] no_argument s r z a h = tt
    all_pass (x ∷ xs) (more_arguments {e = e} i is) s r z a h =
        (argument_passes i (param_known x s.0) (λ j k v w. (s.0.0 j k v w).2) r h.0 a h.1, all_pass xs is s.1 h.0 z (keeps_on a (exp_keeps e r Site.Expects h.0 h.1)) h.2)

    pub call_value : {e : Exp} (u t : Typ) → IsCall G.call R e → Every (ParamStands E G.call R q B p) G.call.plan.params → parameters_declared (slice_get E.items G.call.number) ≡ map (shape_at q) (passed_types G.call.plan.params)
        → result_declared (slice_get E.items G.call.number) ≡ Some t → (r z : Spot) (x : Site) → Keeps p r → NumberedExp r x e z → Made E f B e u t
    call_value u t (is_call i is) s d g r z x a h =
        let y = call_fits E B q G.call R f u t (is_call i is) (all_pass G.call.plan.params is s (after r) z (keeps_on a (keeps_node r)) h.1) (every_such G.call.plan.params (λ w k. (λ j m v o. (k.0 j m v o).0.typed, k.1)) s) d g in
        record { entries = y.0; fits = y.1; lives = refl }

    pub call_is_none : {e : Exp} → IsCall G.call R e → (is_place e ≡ false) × (never e ≡ false)
    call_is_none (is_call i is) = (refl, refl)

  -- ---- jumps

  pub jump_fits : (B : Context) {x : Exit} {e : Exp} (u : Typ) → IsJump G R x e → JumpFits E f B e u [] × (never e ≡ true) × (diverges e ≡ true)
  jump_fits B u (jumps_out i j k) = (a_break, refl, refl)
  jump_fits B u (jumps_on i j k) = (a_continue, refl, refl)

  pub jump_there : {x : Exit} {d : ℕ} {names : Names} {ss : Statements} → AreAssigned G.call R (OneDone G.call.place (IsJump G R x)) d names ss → (e : Exp) × IsJump G R x e
  jump_there (all_assigned (one_done (is_done i j))) = (_, j)
  jump_there (more_assigned a r) = jump_there r

  pub no_next : {e : Exp} → IsJump G R to_next e → ⊥
  no_next j = elim j [ ]

  pub no_return : {e : Exp} → IsJump G R to_return e → ⊥
  no_return j = elim j [ ]

  pub name_later : {A B : Context} {p r : Spot} (v : Variable) → Later A p B r → NameStands G.call R q A p v → NameStands G.call R q B r v
  name_later v l h j k w y = variable_later k (shape_at q v.typ) l (h j k w y)

  -- outs are assigned, then it jumps
  pub row_assigned : (x : Exit) (d : ℕ) (vs : List Variable) {ss : Statements} (B : Context) (p s : Spot) → Counted p → AreAssigned G.call R (OneDone G.call.place (IsJump G R x)) d (names_of vs) ss → Every (NameStands G.call R q B p) vs → RowStands B p d (types_there E f q (variables_held vs))
      → RowFew d (length vs) → NumberedStatements p ss s → (a : Entries) × StatementsFit E f B ss a × (some_diverges ss ≡ true)
  row_assigned x d [] B p s c (all_assigned (one_done (is_done {n = n} {e = e} i j))) names row few h =
      let y = jump_fits B unit_shape j in
      (_, a_statement (jumps y.0 (site_is e (after p) Site.Value h.0 h.1.1)) no_more, ap (λ (b : Bool). b || false) y.2)
  row_assigned x d (v ∷ vs) B p s c (more_assigned {a = first} {ss = ss} a rest) names row few h =
      let t = shape_at q v.typ in
      let y = assignment_fits E f q G.call R B v p h.0 c names.0 a h.1 (λ e m r z w k g le.
      let o = made_fits E f d t (types_there E f q (variables_held vs)) m (few_first d (length vs) few) row c r z w k g t in record { entries = o.entries; fits = o.fits; lives = o.lives }) in
      let i = statement_inside E f y.1 p h.0 h.1 in
      let l = later_with y.0 B p h.0 h.0 i.1 c (statement_keeps _ p h.0 h.1) in
      let z = row_assigned x (suc d) vs (with_entries y.0 B) h.0 s (still_counted l) rest (every_such vs (λ v k. name_later v l k) names.1) (row_later (suc d) (types_there E f q (variables_held vs)) l (row_behind d t (types_there E f q (variables_held vs)) row))
      (few_behind d (length vs) few) h.2 in
      (_, a_statement y.1 z.1, or_true (statement_diverges first) (some_diverges ss) z.2)
