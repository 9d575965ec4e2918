-- The statements and the tail that stand in place of a run fit, as the plan says.
use Rattle.std.proofs.Common.{if◌then◌else◌, ◌≡◌, ◌<◌, ◌≤◌, ◌+◌, ◌⊎◌, inl, inr, ℕ, suc, Bool, true, false, IsTrue, List, [], ◌∷◌, ◌++◌, map, length, slice_get, Some, None, refl, sym, ap, ◌∙◌, subst, arith}
use Rattle.rx_core.specs.declared.types.Kind.{Kind}
use Rattle.rx_tree.specs.Lists.{Every}
use Rattle.rx_resolve_names.specs.Meant.{number}
use Rattle.rx_typed.specs.declared.nodes.Node.{Node}
use Rattle.rx_typed.specs.declared.nodes.Site.{Site}
use Rattle.rx_typed.specs.Types.{keeps_limits, named as item, outline, reference, shape_and, shapes_listed, shapes_of, tuple_of, variant_parts, Shape, Shapes, Typ}
use Rattle.rx_typed.specs.Named as named
use Rattle.rx_typed.specs.Named.{Else, Exp, Patterns, Statement, Statements, Written, WrittenTypes}
use Rattle.rx_hoist_extraction.specs.Plan.{has_enum, has_exit, outs_of, to_next, Leaving, Variable}
use Rattle.rx_hoist_extraction.specs.Names.{Names}
use Rattle.rx_hoist_extraction.specs.Values.{held_by, next_values, result_of, types_of, value_type, values_at, values_of, Value}
use Rattle.rx_typeck_solver.specs.declared.facts.Subject.TheVariants as subject
use Rattle.rx_typeck_solver.specs.Facts.{KnownItems}
use Rattle.rx_typeck_typed.specs.Asking.{type_of}
use Rattle.rx_engine_names.specs.Renaming.{Renaming}
use Rattle.rx_engine_names.specs.WrittenOut.{SayAll, Says}
use Rattle.rx_engine_names.specs.WrittenOut.Says.{says_kind, says_bool, says_tuple, says_reference, says_item}
use Rattle.rx_engine_names.specs.WrittenOut.SayAll.{says_no_type, says_more_types}
use Rattle.rx_engine_names.specs.HandedOut.{received_mutable, AreHanded, ArePutBack, AreRedeclared, Handing, IsTail, IsWhole}
use Rattle.rx_engine_names.specs.HandedOut.IsDone.{is_done}
use Rattle.rx_engine_names.specs.HandedOut.AreHanded.{done_alone, is_tail, one_bound, one_assigned, several_bound}
use Rattle.rx_engine_names.specs.HandedOut.ArePutBack.{none_put_back, result_stays, own_stays, is_put_back}
use Rattle.rx_engine_names.specs.HandedOut.AreRedeclared.{none_redeclared, more_redeclared}
use Rattle.rx_engine_names.specs.HandedOut.IsTail.{no_value, no_result, call_is_tail, first_is_tail}
use Rattle.rx_engine_blocks.specs.Renumbering.{shape_at, shapes_at, Renumbering}
use Rattle.rx_engine_blocks.specs.Signature.{typ_written, typs_written}
use Rattle.rx_engine_holes.specs.Entries.{with_entries, Context, Entries}
use Rattle.rx_engine_holes.specs.CallFits.{written_entries, AllLifetimesFit, EndFits, Ends, LifetimesFit, StatementFits, StatementsFit, ValueFits}
use Rattle.rx_engine_holes.specs.CallFits.Ends.{at_value, at_coercion, at_reborrow}
use Rattle.rx_engine_holes.specs.CallFits as fitting
use Rattle.rx_engine_holes.specs.CallFits.StatementsFit.{no_more, a_statement}
use Rattle.rx_engine_holes.specs.CallFits.EndFits.{no_tail, a_tail}
use Rattle.rx_engine_changed.specs.Spots.{after, known_from, waits_where, NumberedElse, NumberedExp, NumberedStatements, Spot}
use Rattle.rx_engine_changed.specs.Inside.{Inside}
use Rattle.rx_engine_changed.specs.HandedTypes.{handed_type, CallStands, EndStands, ItemsDeclare, KeepsLimits, NextAgrees, OutsStand, ParamStands, ValueStands}
use Rattle.rx_engine_changed.proofs.Arguments.{fits_itself}
use Rattle.rx_engine_changed.proofs.Inside.{reaches_so, statement_inside, statements_inside, value_inside, waits_reaches}
use Rattle.rx_engine_changed.proofs.Lists.{there_below}
use Rattle.rx_engine_changed.proofs.Staging.{else_keeps, exp_keeps, keeps_itself, keeps_node, keeps_on, keeps_so, pattern_keeps, pattern_known, statement_keeps, statements_keep, still_known, Counted, Keeps, KnownAt}
use Rattle.rx_engine_changed.proofs.Standing.{few_behind, few_first, joined_context, later_on, later_same, later_with, row_behind, row_first_known, row_later, site_is, still_counted, variable_later, Later, RowFew, RowStands, RowTyped}
use Rattle.rx_engine_changed.proofs.Handing.{as_many_types, assignment_fits, made_fits, types_there, Valued}
use Rattle.rx_engine_changed.proofs.Matched.{bound_row, every_such, limits_of, name_later, still_mutable}
use Rattle.rx_engine_changed.proofs.Whole.{outs_later, whole_fits, whole_is_no_place, whole_lives, ArmStands, WholeWanted}

-- ---- types that are written

module _ (E : KnownItems) (q : Renumbering) (R : Renaming) (follows : (n : ℕ) → q.items n ≡ R.item n) where
  mutual
    says_type : {t : Shape Kind} {w : Written} → Says R t w → typ_written w ≡ shape_at q t
    says_type says_kind = refl
    says_type says_bool = refl
    says_type (says_tuple s) = ap tuple_of (say_types s)
    says_type (says_reference {m = m} s) = ap (reference m) (says_type s)
    says_type (says_item {i = i} e) = ap item (sym (follows i ∙ e))

    say_types : {ts : Shapes Kind} {ws : WrittenTypes} → SayAll R ts ws → shapes_of (typs_written ws) ≡ shapes_at q ts
    say_types says_no_type = refl
    say_types (says_more_types {t = u} {ws = ws} s ss) = ap (λ (t : Typ). shape_and t (shapes_of (typs_written ws))) (says_type s) ∙ ap (shape_and (shape_at q u)) (say_types ss)

  mutual
    says_lifetimes : {t : Shape Kind} {w : Written} → Says R t w → LifetimesFit E w
    says_lifetimes says_kind = tt
    says_lifetimes says_bool = tt
    says_lifetimes (says_tuple s) = say_lifetimes s
    says_lifetimes (says_reference s) = says_lifetimes s
    says_lifetimes (says_item e) = tt

    say_lifetimes : {ts : Shapes Kind} {ws : WrittenTypes} → SayAll R ts ws → AllLifetimesFit E ws
    say_lifetimes says_no_type = tt
    say_lifetimes (says_more_types s ss) = (says_lifetimes s, say_lifetimes ss)

listed_there : (q : Renumbering) (ts : List Typ) → shapes_listed (shapes_at q (shapes_of ts)) ≡ map (shape_at q) ts
listed_there q [] = refl
listed_there q (t ∷ ts) = ap (λ (us : List Typ). shape_at q t ∷ us) (listed_there q ts)

received_many : (own : Names) (hs : List Value) → length (received_mutable own hs) ≡ length hs
received_many own [] = refl
received_many own (result_of t ∷ hs) = ap suc (received_many own hs)
received_many own (held_by v ∷ hs) = ap suc (received_many own hs)

whole_itself : (s : Site) (t : Typ) → WholeWanted s t t
whole_itself Site.Value t = refl
whole_itself Site.Place t = refl
whole_itself Site.Scrutinee t = refl
whole_itself Site.Expects t = fits_itself t
whole_itself Site.Reborrows t = refl
whole_itself Site.Initialises t = refl

no_values : (h : Value) (hs : List Value) → ◌≡◌ {A = List Value} [] (h ∷ hs) → ⊥
no_values h hs e = cc

tuple_waits_not : (b : Bool) (n : Node) (ps : Patterns) (p : Spot) → waits_where b (named.tuple_pattern n ps) p ≡ p
tuple_waits_not true n ps p = refl
tuple_waits_not false n ps p = refl

no_more_number : (j : ℕ) → j + 0 ≡ j
no_more_number j = omega arith

module _ (E : KnownItems) (f : ℕ) (q : Renumbering) (G : Handing) (R : Renaming) (items : ItemsDeclare E q G f) (agrees : NextAgrees G) (follows : (n : ℕ) → q.items n ≡ R.item n) where
  abbrev next : List Value
  next = next_values G.call.plan

  abbrev T : Typ
  T = shape_at q (handed_type next)

  abbrev W : Exp → Type 0
  W e = IsWhole G R (has_enum G.call.plan.exits) e

  abbrev Few : Spot → Type 0
  Few s = (i : ℕ) → i < s.declared → number i ≡ i

  next_there : (h : Value) (hs : List Value) → next ≡ h ∷ hs → has_exit to_next G.call.plan.exits ≡ true
  next_there h hs e = by (has_exit to_next G.call.plan.exits) refl
    where
      by : (b : Bool) → has_exit to_next G.call.plan.exits ≡ b → b ≡ true
      by true i = refl
      by false i = absurd (no_values h hs (sym (ap (λ (b : Bool). if b then values_at G.call.plan to_next (outs_of to_next G.call.plan.exits) else []) i) ∙ e))

  -- what is known of the text's variables, later
  record Known (B : Context) (p : Spot) : Type 0 where
    params : Every (ParamStands E G.call R q B p) G.call.plan.params
    arms : has_enum G.call.plan.exits ≡ true → Every (ArmStands E f q G R items B p) G.call.plan.exits

  known_later : {A B : Context} {p r : Spot} → Later A p B r → Known A p → Known B r
  known_later {p = p} {r = r} l k = record {
    params = every_such G.call.plan.params (λ x h. (
      (λ j m v w. let z = h.0 j m v w in
          (variable_later m _ l z.0, (still_known m l.counted l.keeps (record { earlier = z.0.earlier; known = z.1 })).known, λ e. still_mutable m l.counted l.keeps z.0.earlier ∙ z.2 e)),
      h.1,
    )) k.params;
    arms = λ i. every_such G.call.plan.exits (λ x h. (h.0, h.1, h.2, outs_later E f q G R items x.exit x.outs l h.3)) (k.arms i);
  }

  -- the whole where its own type is expected
  whole_valued : {B : Context} {p : Spot} → Known B p → Counted p → {e : Exp} → W e → has_exit to_next G.call.plan.exits ≡ true → (r s : Spot) (z : Site) → Keeps p r → Few s → NumberedExp r z e s → WholeWanted z T T → Valued E f B e T
  whole_valued {B = B} {p = p} k c {e} w there r s z a few h want =
      let x = whole_fits E f q G R items (has_enum G.call.plan.exits) refl w B p c k.params k.arms r s z a few h T want in
      record { entries = x.entries; fits = subst (λ (t : Typ). ValueFits E f B e T t x.entries) (by x.is) x.fits; lives = whole_lives E f q G R items w there }
    where
      by : {t : Typ} → (t ≡ T) ⊎ (t ≡ T) → t ≡ T
      by (inl e) = e
      by (inr e) = e

  -- ---- redeclared variables

  redeclared_fit : (d : ℕ) (vs : List Variable) {ss : Statements} (B : Context) (p s : Spot) → AreRedeclared G.call.place R d vs ss → Every (λ (v : Variable). KeepsLimits E q v.typ) vs → NumberedStatements p ss s → (a : Entries) × StatementsFit E f B ss a
  redeclared_fit d [] B p s none_redeclared l h = ([], no_more)
  redeclared_fit d (v ∷ vs) B p s (more_redeclared {p = pn} {w = w} i j says rest) l h =
      let e = says_type E q R follows says in
      let x = redeclared_fit (suc d) vs (with_entries ((type_of pn, typ_written w) ∷ (subject.Variable d, typ_written w) ∷ written_entries w) B) h.0 s rest l.1 h.2 in
      (_, a_statement (fitting.StatementFits.declared (says_lifetimes E q R follows says) (subst (λ (t : Typ). IsTrue (keeps_limits E.sizes (outline t))) (sym e) l.0)) x.1)

  -- ---- values that are put back

  value_later : {A B : Context} {p r : Spot} (v : Value) → Later A p B r → ValueStands G R q A p v → ValueStands G R q B r v
  value_later (result_of t) l h = tt
  value_later (held_by v) l h = λ o. name_later E f q G R v l (h o)

  put_back_fit : {Q : Statements → Type 0} (d : ℕ) (hs : List Value) {ss : Statements} (B : Context) (p s : Spot) → Counted p → ArePutBack G R Q d hs ss → Every (ValueStands G R q B p) hs → RowStands B p d (types_there E f q hs) → RowFew d (length hs) → NumberedStatements p ss s
      → ((B' : Context) (p' : Spot) → Later B p B' p' → (xs : Statements) → Q xs → NumberedStatements p' xs s → (a : Entries) × StatementsFit E f B' xs a) → (a : Entries) × StatementsFit E f B ss a
  put_back_fit d [] B p s c (none_put_back x) vs row few h rest = rest B p (later_same B p p c (keeps_itself p)) _ x h
  put_back_fit d (result_of t ∷ hs) B p s c (result_stays x) vs row few h rest = put_back_fit (suc d) hs B p s c x vs.1 (row_behind d _ _ row) (few_behind d (length hs) few) h rest
  put_back_fit d (held_by v ∷ hs) B p s c (own_stays o x) vs row few h rest = put_back_fit (suc d) hs B p s c x vs.1 (row_behind d _ _ row) (few_behind d (length hs) few) h rest
  put_back_fit d (held_by v ∷ hs) B p s c (is_put_back o a x) vs row few h rest =
      let t = shape_at q v.typ in let ts = types_there E f q hs in
      let y = assignment_fits E f q G.call R B v p h.0 c (vs.0 o) a h.1 (λ e m r z w k g le.
      let o = made_fits E f d t ts m (few_first d (length hs) few) row c r z w k g t in record { entries = o.entries; fits = o.fits; lives = o.lives }) in
      let l = later_with y.0 B p h.0 h.0 (statement_inside E f y.1 p h.0 h.1).1 c (statement_keeps _ p h.0 h.1) in
      let x2 = put_back_fit (suc d) hs (with_entries y.0 B) h.0 s (still_counted l) x (every_such hs (λ v k. value_later v l k) vs.1) (row_later (suc d) ts l (row_behind d t ts row)) (few_behind d (length hs) few) h.2
      (λ B' p' l' xs z g. rest B' p' (later_on l l') xs z g) in
      (_, a_statement y.1 x2.1)

  -- ---- what is handed out

  -- variables that the parts are bound to, behind their `let`
  several_row : (d : ℕ) (ts : List Typ) (n : Node) (t : Typ) (B : Context) (p r r1 s1 u1 : Spot) (a b : Entries) → RowTyped (with_entries a B) d ts → ((j : ℕ) (u : Typ) → slice_get ts j ≡ Some u → (p.declared ≤ d + j) × (d + j < r1.declared)) → Inside s1 u1 b → s1 ≡ r1
      → Counted u1 → s1.declared ≤ u1.declared → r ≡ known_from p.declared r1.declared u1 → RowStands (with_entries ((type_of n, t) ∷ (a ++ b)) B) r d ts
  several_row d ts n t B p r r1 s1 u1 a b typed between inside same c up e = record {
    typed = λ j u y. joined_context a b B s1 u1 inside (subject.Variable (d + j)) (omega arith, (let x = (between j u y).1 in let z = ap (λ (s : Spot). s.declared) same in omega (arith, x, z))) ∙ typed j u y;
    known = λ j u y. let x = between j u y in let z = ap (λ (s : Spot). s.declared) same in subst (λ (s : Spot). KnownAt s (d + j)) (sym e) (pattern_known p.declared r1.declared u1 (d + j) c x.0 x.1 (omega (arith, up, z)));
  }

  abbrev pub IsSeveral : List Value → Type 0
  IsSeveral (h ∷ i ∷ hs) = Unit {0}
  IsSeveral _ = ⊥

  pub record HandedFits (B : Context) (s : Spot) (d : ℕ) (hs : List Value) (y : Statements) : Type 0 where
    pub entries : Entries
    pub fits : StatementsFit E f B y entries
    -- several values are still there behind
    pub row : IsSeveral hs → RowStands (with_entries entries B) s d (types_there E f q hs)

  -- behind a statement
  behind_first : {d : ℕ} {hs : List Value} {a : Statement} {ss : Statements} (B : Context) (p r s : Spot) → (IsSeveral hs → ⊥) → (x : Entries) → StatementFits E f B a x → (y : Entries) → StatementsFit E f (with_entries x B) ss y → HandedFits B s d hs (named.statement_and a ss)
  behind_first B p r s none x i y j = record { entries = x ++ y; fits = a_statement i j; row = λ z. absurd (none z) }

  handed_fits : {Q : Statements → Type 0} (d : ℕ) (hs : List Value) {y : Statements} (B : Context) (p s : Spot) → next ≡ hs → Counted p → AreHanded G R W Q d hs y → Known B p → Every (ValueStands G R q B p) hs → Few s → NumberedStatements p y s
      → ((B' : Context) (p' : Spot) → Later B p B' p' → (xs : Statements) → Q xs → NumberedStatements p' xs s → (a : Entries) × StatementsFit E f B' xs a) → HandedFits B s d hs y
  handed_fits d [] B p s e c (done_alone {ss = ss} (is_done {n = n} {e = v} i w) x) k vs few h rest =
      let up = (statements_keep _ h.0 s h.2).reaches.variables in
      let y = whole_fits E f q G R items (has_enum G.call.plan.exits) refl w B p c k.params k.arms (after p) h.0 Site.Value (keeps_node p) (λ i l. few i (omega (arith, l, up))) h.1.1 T refl in
      let z = fitting.StatementFits.done y.fits (site_is v (after p) Site.Value h.0 h.1.1) in
      let l = later_with y.entries B p h.0 h.0 (statement_inside E f z p h.0 h.1).1 c (statement_keeps (named.evaluates n v true) p h.0 h.1) in
      let o = rest (with_entries y.entries B) h.0 l ss x h.2 in behind_first B p h.0 s (λ x. x) y.entries z o.0 o.1
  handed_fits d (result_of t ∷ []) B p s e c (is_tail {ss = ss} x) k vs few h rest =
      let o = rest B p (later_same B p p c (keeps_itself p)) ss x h in record { entries = o.0; fits = o.1; row = λ z. absurd z }
  handed_fits d (held_by v ∷ []) B p s e c (one_bound {n = n} {p = pn} {e = w} {ss = ss} own i j x y) k vs few h rest =
      let up = (statements_keep _ h.0 s h.2).reaches.variables in
      let k5 = known_from (after p).declared h.1.1.declared h.1.5 in let up1 = (reaches_so {p = k5} (waits_reaches _ (named.bind pn d v.mutable) k5) h.1.7).variables in
      let pk = keeps_on (keeps_node p) (pattern_keeps (named.bind pn d v.mutable) (after p) h.1.1 h.1.2) in let pk2 = keeps_so pk h.1.4 in
      let sk = statement_keeps (named.lets n (named.bind pn d v.mutable) None w) p h.0 h.1 in
      let z = whole_valued k c x (next_there (held_by v) [] e) h.1.3 h.1.5 Site.Scrutinee pk2 (λ i l. few i (omega (arith, l, up, up1))) h.1.6 refl in
      let f1 = fitting.StatementFits.bound {m = v.mutable} z.fits (site_is w h.1.3 Site.Scrutinee h.1.5 h.1.6) (whole_is_no_place E f q G R items x) z.lives items.handed in
      let made = (type_of pn, T) ∷ (subject.Variable d, T) ∷ z.entries in
      let l = later_with made B p h.0 h.0 (statement_inside E f f1 p h.0 h.1).1 c sk in
      let o = rest (with_entries made B) h.0 l ss y h.2 in behind_first B p h.0 s (λ x. x) made f1 o.0 o.1
  handed_fits d (held_by v ∷ []) B p s e c (one_assigned {ss = ss} own a y) k vs few h rest =
      let up = (statements_keep _ h.0 s h.2).reaches.variables in
      let t : T ≡ shape_at q v.typ = ap (λ (hs : List Value). shape_at q (handed_type hs)) e in
      let f1 = assignment_fits E f q G.call R B v p h.0 c (vs.0 own) a h.1 (λ e2 w r z x kk g le. subst (λ (t : Typ). Valued E f B e2 t) t
      (whole_valued k c w (next_there (held_by v) [] e) r z x kk (λ i l. few i (omega (arith, l, le, up))) g (whole_itself x T))) in
      let l = later_with f1.0 B p h.0 h.0 (statement_inside E f f1.1 p h.0 h.1).1 c (statement_keeps _ p h.0 h.1) in
      let o = rest (with_entries f1.0 B) h.0 l ss y h.2 in behind_first B p h.0 s (λ x. x) f1.0 f1.1 o.0 o.1
  handed_fits d (g ∷ i ∷ hs) B p s e c (several_bound {n = n} {p = pn} {ps = ps} {e = w} {ss = ss} a b bs x put) k vs few h rest =
      let all = g ∷ i ∷ hs in let ts = types_there E f q all in let shapes = shapes_at q (shapes_of (types_of all)) in
      let up = (statements_keep _ h.0 s h.2).reaches.variables in
      let k5 = known_from (after p).declared h.1.1.declared h.1.5 in let up1 = (reaches_so {p = k5} (waits_reaches _ (named.tuple_pattern pn ps) k5) h.1.7).variables in
      let k2 = keeps_on (keeps_node p) (pattern_keeps (named.tuple_pattern pn ps) (after p) h.1.1 h.1.2) in let k3 = keeps_so k2 h.1.4 in
      let k4 = keeps_so (exp_keeps w h.1.3 Site.Scrutinee h.1.5 h.1.6) refl in
      let row = bound_row E B d 0 ts (shapes_listed shapes) (after (after p)) h.1.1 bs (received_many G.own all ∙ sym (as_many_types E f q all)) (λ j. ap (λ (z : List Typ). slice_get z (j + 0)) (listed_there q (types_of all)) ∙ ap (slice_get ts) (no_more_number j))
      (limits_of E q all (subst (Every (λ (v : Value). KeepsLimits E q (value_type v))) e items.values)) h.1.2.1 in
      let t : T ≡ tuple_of shapes = ap (λ (hs : List Value). shape_at q (handed_type hs)) e in
      let z = whole_valued k c x (next_there g (i ∷ hs) e) h.1.3 h.1.5 Site.Scrutinee k3 (λ j l. few j (omega (arith, l, up, up1))) h.1.6 refl in
      let f1 = fitting.StatementFits.several_bound (subst (λ (t : Typ). ValueFits E f B w T t z.entries) t z.fits) (site_is w h.1.3 Site.Scrutinee h.1.5 h.1.6) (whole_is_no_place E f q G R items x) z.lives (ap length (listed_there q (types_of all)) ∙ row.many) row.binds in
      let made = (type_of pn, tuple_of shapes) ∷ (row.entries ++ z.entries) in
      let l = later_with made B p h.0 h.0 (statement_inside E f f1 p h.0 h.1).1 c (statement_keeps (named.lets n (named.tuple_pattern pn ps) None w) p h.0 h.1) in
      let low = ap (λ (s : Spot). s.declared) h.1.4 in let high = k4.reaches.variables in
      let here = several_row d ts pn (tuple_of shapes) B p h.0 h.1.1 h.1.3 h.1.5 row.entries z.entries row.typed (λ j u y. row.between j (there_below ts j u y)) (value_inside E f z.fits h.1.3 h.1.5 Site.Scrutinee h.1.6).inside h.1.4
      ((keeps_on k3 k4).counted c) high (h.1.7 ∙ tuple_waits_not _ pn ps _) in
      let x2 = put_back_fit d all (with_entries made B) h.0 s (still_counted l) put (every_such all (λ v m. value_later v l m) vs) here
      (λ j y. few (d + j) (let m = (row.between j (let a = as_many_types E f q all in omega (arith, a, y))).1 in omega (arith, m, low, high, up1, up))) h.2 (λ B' p' l' xs y g. rest B' p' (later_on l l') xs y g) in
      let inside = (statements_inside E f x2.1 h.0 s h.2).1 in
      record {
        entries = made ++ x2.0;
        fits = a_statement f1 x2.1;
        row = λ several. record {
          typed = λ j u y. joined_context made x2.0 B h.0 s inside (subject.Variable (d + j)) (omega arith, (here.known j u y).earlier) ∙ here.typed j u y;
          known = λ j u y. still_known (d + j) (still_counted l) (statements_keep _ h.0 s h.2) (here.known j u y);
        };
      }

  -- ---- the statements alone, and with a tail at the end of a block

  statements_fit : (d later : ℕ) {y : Statements} (B : Context) (p s : Spot) → Counted p → Known B p → Every (ValueStands G R q B p) next → Few s → AreHanded G R W (AreRedeclared G.call.place R later G.call.plan.redeclared) d next y → NumberedStatements p y s → HandedFits B s d next y
  statements_fit d later B p s c k vs few a h = handed_fits d next B p s refl c a k vs few h (λ B' p' l xs y g. redeclared_fit later G.call.plan.redeclared B' p' s y items.redeclared g)

  all_stand : (B : Context) (p : Spot) (xs : List Leaving) → Every (λ (x : Leaving). variant_parts E.items G.enum (G.variant x.exit) ≡ types_there E f q (values_of G.call.plan x)) xs
      → Every (λ (x : Leaving). Every (λ (v : Value). KeepsLimits E q (value_type v)) (values_of G.call.plan x)) xs → Every (λ (x : Leaving). x.exit ≡ to_next → values_of G.call.plan x ≡ next) xs
      → Every (λ (x : Leaving). OutsStand G R q B p x.exit x.outs) xs → Every (ArmStands E f q G R items B p) xs
  all_stand B p [] a b c d = tt
  all_stand B p (x ∷ xs) a b c d = ((a.0, b.0, c.0, d.0), all_stand B p xs a.1 b.1 c.1 d.1)

  known_so : {B : Context} {p s : Spot} → CallStands E q G R B p s → Known B p
  known_so {B = B} {p = p} x = record { params = x.params; arms = λ i. all_stand B p G.call.plan.exits (items.variants i) items.exits agrees x.exits }

  pub run_fits : (d later : ℕ) {y : Statements} (B : Context) (p s : Spot) → CallStands E q G R B p s → AreHanded G R W (AreRedeclared G.call.place R later G.call.plan.redeclared) d next y → NumberedStatements p y s → (made : Entries) × StatementsFit E f B y made
  run_fits d later B p s x a h = let y = statements_fit d later B p s x.counted (known_so x) x.values x.few a h in (y.entries, y.fits)

  -- ---- with a tail, at the end of a block

  -- what is expected there, and what becomes of a value
  ends_cases : {B : Context} {n : Node} (z : Site) {t u : Typ} → Ends E B n z t u → (v : Typ) × WholeWanted z v t × ((w : Typ) → (w ≡ t) ⊎ (w ≡ v) → Ends E B n z w v)
  ends_cases {B} {n} Site.Value {t} (at_value i) = (t, refl, by)
    where
      by : (w : Typ) → (w ≡ t) ⊎ (w ≡ t) → Ends E B n Site.Value w t
      by w (inl e) = subst (λ (w : Typ). Ends E B n Site.Value w t) (sym e) (at_value i)
      by w (inr e) = subst (λ (w : Typ). Ends E B n Site.Value w t) (sym e) (at_value i)
  ends_cases Site.Place x = elim x [ ]
  ends_cases Site.Scrutinee x = elim x [ ]
  ends_cases Site.Initialises x = elim x [ ]
  ends_cases {B} {n} Site.Expects {t} {u} (at_coercion i c) = (u, c, by)
    where
      by : (w : Typ) → (w ≡ t) ⊎ (w ≡ u) → Ends E B n Site.Expects w u
      by w (inl e) = subst (λ (w : Typ). Ends E B n Site.Expects w u) (sym e) (at_coercion i c)
      by w (inr e) = subst (λ (w : Typ). Ends E B n Site.Expects w u) (sym e) (at_coercion i (fits_itself u))
  ends_cases {B} {n} Site.Reborrows {t} (at_reborrow i) = (t, refl, by)
    where
      by : (w : Typ) → (w ≡ t) ⊎ (w ≡ t) → Ends E B n Site.Reborrows w t
      by w (inl e) = subst (λ (w : Typ). Ends E B n Site.Reborrows w t) (sym e) (at_reborrow i)
      by w (inr e) = subst (λ (w : Typ). Ends E B n Site.Reborrows w t) (sym e) (at_reborrow i)

  tail_fits : (d : ℕ) (hs : List Value) {y : Statements} {o : Else} (B : Context) (p r s : Spot) (n : Node) (b : Bool) → next ≡ hs → Counted p → Known B p → Few s → (z : HandedFits B r d hs y) → IsTail G.call.place W d hs o → NumberedStatements p y r → NumberedElse r n.site o s → EndStands E q B n b y hs
      → (made : Entries) × EndFits E f B n b y o made
  tail_fits d [] B p r s n b e c k few z no_value h g end = (_, no_tail z.fits end)
  tail_fits d (held_by v ∷ hs) B p r s n b e c k few z no_result h g end = (_, no_tail z.fits end)
  tail_fits d (result_of t ∷ []) B p r s n b e c k few z (call_is_tail {e = w} x) h g end =
      let l = later_with z.entries B p r r (statements_inside E f z.fits p r h).1 c (statements_keep _ p r h) in
      let k2 = known_later l k in
      let same : shape_at q t ≡ T = ap (λ (hs : List Value). shape_at q (handed_type hs)) (sym e) in
      let i = ends_cases n.site (subst (λ (u : Typ). Ends E B n n.site u end.0) same end.1) in
      let y = whole_fits E f q G R items (has_enum G.call.plan.exits) refl x (with_entries z.entries B) r (still_counted l) k2.params k2.arms r s n.site (keeps_itself r) few g i.0 i.1 in
      (_, a_tail z.fits y.fits (whole_lives E f q G R items x (next_there (result_of t) [] e)) (site_is w r n.site s g) (i.2 y.typ y.is))
  tail_fits d (result_of t ∷ g0 ∷ hs) B p r s n b e c k few z (first_is_tail {e = w} m) h g end =
      let row = z.row tt in let ts = types_there E f q (g0 ∷ hs) in
      let i = ends_cases n.site end.1 in
      let l = later_with z.entries B p r r (statements_inside E f z.fits p r h).1 c (statements_keep _ p r h) in
      let y = made_fits E f d (shape_at q t) ts m (few d (let a = (row_first_known d (shape_at q t) ts row).earlier in let u = (exp_keeps w r n.site s g).reaches.variables in omega (arith, a, u))) row (still_counted l) r s n.site (keeps_itself r) g i.0 in
      (_, a_tail z.fits y.fits y.lives (site_is w r n.site s g) (i.2 (shape_at q t) (inl refl)))

  pub end_fits : (d later : ℕ) {y : Statements} {o : Else} (B : Context) (p r s : Spot) (n : Node) (b : Bool) → CallStands E q G R B p s → AreHanded G R W (AreRedeclared G.call.place R later G.call.plan.redeclared) d next y → IsTail G.call.place W d next o
      → NumberedStatements p y r → NumberedElse r n.site o s → EndStands E q B n b y next → (made : Entries) × EndFits E f B n b y o made
  end_fits d later {o = o} B p r s n b x a i h g end =
      let up = (else_keeps o r n.site s g).reaches.variables in
      tail_fits d next B p r s n b refl x.counted (known_so x) x.few (statements_fit d later B p r x.counted (known_so x) x.values (λ j w. x.few j (omega (arith, w, up))) a h) i h g end
