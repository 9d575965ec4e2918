-- The match on what a call gives has a type: each of its arms, and the whole, alone or not.
use Rattle.std.proofs.Common.{if◌then◌else◌, ◌≡◌, ◌<◌, ◌+◌, ◌⊎◌, inl, inr, ℕ, zero, suc, Bool, true, false, ◌&&◌, ◌||◌, List, [], ◌∷◌, length, slice_get, Some, refl, sym, ap, ◌∙◌, subst, arith}
use Rattle.rx_tree.specs.Lists.{Every}
use Rattle.rx_resolve_names.specs.Meant.{number}
use Rattle.rx_typed.specs.declared.nodes.Node.{Node}
use Rattle.rx_typed.specs.declared.nodes.Site.{Site}
use Rattle.rx_typed.specs.Types.{boolean, integer, named as item, no_shape, reference, shape_and, tuple_of, unit_shape, variant_parts, Typ}
use Rattle.rx_typed.specs.Named as named
use Rattle.rx_typed.specs.Named.{all_never, is_place, never, node_of, Arms, Else, Exp, Patterns, Statements}
use Rattle.rx_typed.specs.Naming.{passed_on}
use Rattle.rx_hoist_extraction.specs.Plan.{has_enum, has_exit, is_unit, names_of, same_exit, to_break, to_continue, to_next, to_return, Exit, Leaving, Variable}
use Rattle.rx_hoist_extraction.specs.Names.{Names}
use Rattle.rx_hoist_extraction.specs.Values.{next_values, result_of, value_type, values_at, values_of, variables_held, Value}
use Rattle.rx_typeck_solver.specs.Facts.{coerced, KnownItems}
use Rattle.rx_typeck_typed.specs.Demands.{count}
use Rattle.rx_engine_names.specs.Renaming.{Renaming}
use Rattle.rx_engine_names.specs.HandedOut.{not_mutable, AreArms, AreAssigned, AreJoined, Handing, IsArm, IsJump, IsWhole, OneDone}
use Rattle.rx_engine_names.specs.Calls.IsCall.{is_call}
use Rattle.rx_engine_names.specs.HandedOut.IsMade.{is_made}
use Rattle.rx_engine_names.specs.HandedOut.IsJump.{jumps_out, jumps_on}
use Rattle.rx_engine_names.specs.HandedOut.AreJoined.{nothing_joined, one_joined, more_joined}
use Rattle.rx_engine_names.specs.HandedOut.IsArm.{next_alone, next_with, jump_alone, jump_with, returns}
use Rattle.rx_engine_names.specs.HandedOut.AreArms.{no_arms, more_arms}
use Rattle.rx_engine_names.specs.HandedOut.IsWhole.{call_alone, call_matched}
use Rattle.rx_engine_blocks.specs.Renumbering.{shape_at, Renumbering}
use Rattle.rx_engine_holes.specs.Entries.{with_entries, Context, Entries}
use Rattle.rx_engine_holes.specs.CallFits.{ArmFits, ArmsFit, JumpFits, MatchFits, PartsBind, ValueFits}
use Rattle.rx_engine_holes.specs.CallFits.ValueFits.{the_unit, a_match}
use Rattle.rx_engine_holes.specs.CallFits.ArmsFit.{no_arms as none_fit, gives_value, leaves}
use Rattle.rx_engine_holes.specs.CallFits.JumpFits.{a_return, a_return_with, a_jump_behind}
use Rattle.rx_engine_changed.specs.Spots.{after, known_from, NumberedArms, NumberedExp, Spot}
use Rattle.rx_engine_changed.specs.HandedTypes.{handed_type, ItemsDeclare, KeepsLimits, NameStands, OutsStand, ParamStands}
use Rattle.rx_engine_changed.proofs.Arguments.{fits_itself}
use Rattle.rx_engine_changed.proofs.Inside.{inside_wider, one_on, parts_inside, still}
use Rattle.rx_engine_changed.proofs.Lists.{there_below}
use Rattle.rx_engine_changed.proofs.Staging.{arms_keep, behind_pattern, exp_keeps, keeps_itself, keeps_node, keeps_on, pattern_keeps, pattern_known, Counted, Keeps}
use Rattle.rx_engine_changed.proofs.Standing.{few_first, later_same, later_with, row_later, site_is, still_counted, Later, RowFew, RowStands}
use Rattle.rx_engine_changed.proofs.Handing.{as_many_types, joined_fits, made_fits, types_there, Made}
use Rattle.rx_engine_changed.proofs.Matched.{bound_row, call_is_none, call_value, every_such, jump_fits, jump_there, limits_of, name_later, no_next, no_return, row_assigned}

-- what is wanted of a value of type `t` at a site where `u` is expected
abbrev pub WholeWanted : Site → Typ → Typ → Type 0
WholeWanted Site.Expects u t = coerced t u ≡ t
WholeWanted _ u t = u ≡ t

arm_wanted : (s : Site) (u t : Typ) → WholeWanted s u t → ArmFits (passed_on s) u u t
arm_wanted Site.Value u t w = sym w
arm_wanted Site.Place u t w = sym w
arm_wanted Site.Scrutinee u t w = sym w
arm_wanted Site.Expects u t w = w
arm_wanted Site.Reborrows u t w = (sym w, sym w)
arm_wanted Site.Initialises u t w = subst (λ (z : Typ). coerced z u ≡ z) w (fits_itself u)

match_wanted : (s : Site) (u : Typ) → MatchFits s u u
match_wanted Site.Value u = tt
match_wanted Site.Place u = tt
match_wanted Site.Scrutinee u = tt
match_wanted Site.Expects u = refl
match_wanted Site.Reborrows u = tt
match_wanted Site.Initialises u = tt

unit_wanted : (s : Site) (u : Typ) → WholeWanted s u unit_shape → u ≡ unit_shape
unit_wanted Site.Value u w = w
unit_wanted Site.Place u w = w
unit_wanted Site.Scrutinee u w = w
unit_wanted Site.Expects u w = w
unit_wanted Site.Reborrows u w = w
unit_wanted Site.Initialises u w = w

no_length : {A : Type 0} (xs : List A) → zero ≡ length xs → xs ≡ []
no_length [] e = refl
no_length (x ∷ xs) e = absurd (omega (arith, e))

no_names : (vs : List Variable) → [] ≡ names_of vs → vs ≡ []
no_names [] e = refl
no_names (v ∷ vs) e = absurd (cc)

is_unit_so : (q : Renumbering) (t : Typ) → is_unit t ≡ true → shape_at q t ≡ unit_shape
is_unit_so q (tuple_of no_shape) e = refl
is_unit_so q (tuple_of (shape_and t ts)) e = absurd (cc)
is_unit_so q (integer k) e = absurd (cc)
is_unit_so q boolean e = absurd (cc)
is_unit_so q (reference m t) e = absurd (cc)
is_unit_so q (item i) e = absurd (cc)

no_more_number : (j : ℕ) → j + 0 ≡ j
no_more_number j = omega arith

held_many : (vs : List Variable) → length (variables_held vs) ≡ length vs
held_many [] = refl
held_many (v ∷ vs) = ap suc (held_many vs)

not_mutable_many : (k : ℕ) → length (not_mutable k) ≡ k
not_mutable_many zero = refl
not_mutable_many (suc k) = ap suc (not_mutable_many k)

module _ (E : KnownItems) (f : ℕ) (q : Renumbering) (G : Handing) (R : Renaming) (items : ItemsDeclare E q G f) where
  abbrev next : List Value
  next = next_values G.call.plan

  abbrev T : Typ
  T = shape_at q (handed_type next)

  -- an arm has the value that is handed out at the end of the run, or jumps
  data ArmCases (B : Context) (u : Typ) (e : Exp) : Type 0 where
    a_value : Made E f B e u T → ArmCases B u e
    a_jump : (a : Entries) → JumpFits E f B e u a → never e ≡ true → ArmCases B u e

  module _ (B : Context) (p : Spot) (c : Counted p) (r s : Spot) (z : Site) (k : Keeps p r) (u : Typ) (want : WholeWanted z u T) where
    unit_arm : (hs : List Value) → zero ≡ length hs → hs ≡ next → {n m : Node} → NumberedExp r (passed_on z) (named.block n (named.body m named.no_statement named.absent)) s → ArmCases B u (named.block n (named.body m named.no_statement named.absent))
    unit_arm hs e i {n} {m} h =
        let t : unit_shape ≡ T = ap (λ (hs : List Value). shape_at q (handed_type hs)) (sym (no_length hs e) ∙ i) in
        let v : u ≡ unit_shape = unit_wanted z u (subst (WholeWanted z u) (sym t) want) in
        a_value (subst (λ (x : Typ). Made E f B (named.block n (named.body m named.no_statement named.absent)) u x) t
        (subst (λ (x : Typ). Made E f B (named.block n (named.body m named.no_statement named.absent)) x unit_shape) (sym v)
        (record { entries = _; fits = the_unit (h.1.0.1 ∙ ap passed_on (sym h.0.1)); lives = refl })))

    value_arm : (d j : ℕ) (hs : List Value) {e : Exp} → AreJoined G.call.place d (suc j) (named.present e) → suc j ≡ length hs → hs ≡ next → RowFew d (length hs) → RowStands B p d (types_there E f q hs) → NumberedExp r (passed_on z) e s → ArmCases B u e
    value_arm d j hs {e} m i n few row h =
        a_value (subst (λ (hs : List Value). Made E f B e u (shape_at q (handed_type hs))) n
        (joined_fits E f q d hs (subst (λ (k : ℕ). AreJoined G.call.place d k (named.present e)) i m) few row (subst (λ (hs : List Value). KeepsLimits E q (handed_type hs)) (sym n) items.handed) c r s (passed_on z) k h u))

    jumps_behind : (d : ℕ) (x : Exit) (vs : List Variable) {names : Names} {n m : Node} {ss : Statements} → AreAssigned G.call R (OneDone G.call.place (IsJump G R x)) d names ss → names ≡ names_of vs → Every (NameStands G.call R q B p) vs → RowFew d (length vs)
        → RowStands B p d (types_there E f q (variables_held vs)) → NumberedExp r (passed_on z) (named.block n (named.body m ss named.absent)) s → ArmCases B u (named.block n (named.body m ss named.absent))
    jumps_behind d x vs {ss = ss} a i names few row h =
        let l = later_same B p (after (after r)) c (keeps_on k (keeps_on (keeps_node r) (keeps_node (after r)))) in
        let y = row_assigned E f q G R x d vs B (after (after r)) h.1.1 (still_counted l) (subst (λ (ns : Names). AreAssigned G.call R (OneDone G.call.place (IsJump G R x)) d ns ss) i a)
        (every_such vs (λ v w. name_later E f q G R v l w) names) (row_later d (types_there E f q (variables_held vs)) l row) few h.1.2 in
        a_jump _ (a_jump_behind (h.1.0.1 ∙ ap passed_on (sym h.0.1)) y.1 y.2) y.2

    returned : (d j : ℕ) (hs : List Value) (b : Bool) → is_unit G.call.plan.result ≡ b → hs ≡ (if b then [] else (result_of G.call.plan.result ∷ [])) → j ≡ length hs → {n : Node} {o : Else} → AreJoined G.call.place d j o → RowFew d (length hs)
        → RowStands B p d (types_there E f q hs) → NumberedExp r (passed_on z) (named.return n o) s → ArmCases B u (named.return n o)
    returned d j hs true e i l m few row h = by j (l ∙ ap length i) m
      where
        by : (j : ℕ) → j ≡ zero → {n : Node} {o : Else} → AreJoined G.call.place d j o → ArmCases B u (named.return n o)
        by zero w nothing_joined = a_jump [] (a_return (items.own ∙ ap Some (is_unit_so q G.call.plan.result e))) refl
        by (suc j) w m = absurd (omega (arith, w))
    returned d j hs false e i l {n} {o} m few row h = by j o (l ∙ ap length i) m h
      where
        t : Typ
        t = shape_at q G.call.plan.result

        by : (j : ℕ) (o : Else) → j ≡ 1 → AreJoined G.call.place d j o → NumberedExp r (passed_on z) (named.return n o) s → ArmCases B u (named.return n o)
        by zero o w m h = absurd (omega (arith, w))
        by (suc (suc j)) o w m h = absurd (omega (arith, w))
        by (suc zero) named.absent w m h = elim m [ ]
        by (suc zero) (named.present e) w (one_joined m) h =
            let row' = subst (λ (hs : List Value). RowStands B p d (types_there E f q hs)) i row in
            let y = made_fits E f d t [] m (few_first d 0 (subst (RowFew d) (ap length i) few)) row' c (after r) s Site.Expects (keeps_on k (keeps_node r)) h.1 t in
            a_jump _ (a_return_with items.own y.fits (site_is e (after r) Site.Expects s h.1) (fits_itself t)) refl

    arm_cases : (d j : ℕ) (hs : List Value) (x : Exit) (vs : List Variable) (names : Names) {e : Exp} → IsArm G R d j x names e → j ≡ length hs → names ≡ names_of vs → hs ≡ values_at G.call.plan x vs → (x ≡ to_next → hs ≡ next) → OutsStand G R q B p x vs
        → RowFew d (length hs) → RowStands B p d (types_there E f q hs) → NumberedExp r (passed_on z) e s → ArmCases B u e
    arm_cases d zero hs to_next vs names (next_alone a b) l g v n o few row h = unit_arm hs l (n refl) h
    arm_cases d (suc i) hs to_next vs names (next_with m) l g v n o few row h = value_arm d i hs m l (n refl) few row h
    arm_cases d j hs x vs [] (jump_alone m) l g v n o few row h = let y = jump_fits E f q G R B u m in a_jump [] y.0 y.1
    arm_cases d j hs (to_break i) vs (y ∷ ys) (jump_with a b m) l g v n o few row h =
        jumps_behind d (to_break i) vs m g o (subst (RowFew d) (ap length v ∙ held_many vs) few) (subst (λ (hs : List Value). RowStands B p d (types_there E f q hs)) v row) h
    arm_cases d j hs (to_continue i) vs (y ∷ ys) (jump_with a b m) l g v n o few row h =
        jumps_behind d (to_continue i) vs m g o (subst (RowFew d) (ap length v ∙ held_many vs) few) (subst (λ (hs : List Value). RowStands B p d (types_there E f q hs)) v row) h
    arm_cases d j hs to_next vs (y ∷ ys) (jump_with a b m) l g v n o few row h = absurd (no_next E f q G R (jump_there E f q G R m).1)
    arm_cases d j hs to_return vs (y ∷ ys) (jump_with a b m) l g v n o few row h = absurd (no_return E f q G R (jump_there E f q G R m).1)
    arm_cases d j hs to_return vs names (returns i m) l g v n o few row h = returned d j hs (is_unit G.call.plan.result) refl v l m few row h

  -- what is asked of the arms, one by one
  abbrev pub ArmStands : Context → Spot → Leaving → Type 0
  ArmStands B p x = (variant_parts E.items G.enum (G.variant x.exit) ≡ types_there E f q (values_of G.call.plan x)) × Every (λ (v : Value). KeepsLimits E q (value_type v)) (values_of G.call.plan x)
      × (x.exit ≡ to_next → values_of G.call.plan x ≡ next) × OutsStand G R q B p x.exit x.outs

  pub outs_later : {A B : Context} {p r : Spot} (x : Exit) (vs : List Variable) → Later A p B r → OutsStand G R q A p x vs → OutsStand G R q B r x vs
  outs_later to_next vs l h = tt
  outs_later (to_break k) vs l h = every_such vs (λ v w. name_later E f q G R v l w) h
  outs_later (to_continue k) vs l h = every_such vs (λ v w. name_later E f q G R v l w) h
  outs_later to_return vs l h = tt

  arms_fit : (xs : List Leaving) {l : Arms} (B : Context) (p s : Spot) (z : Site) (u : Typ) → WholeWanted z u T → Counted p → AreArms G R xs l → Every (ArmStands B p) xs → ((i : ℕ) → i < s.declared → number i ≡ i) → NumberedArms p (passed_on z) l s
      → (a : Entries) × ArmsFit E f B z G.enum u u l a
  arms_fit [] B p s z u want c no_arms hs few h = ([], none_fit)
  arms_fit (x ∷ xs) B p s z u want c (more_arms {n = n} {ps = ps} {d = d} {e = e} i bs arm rest) hs few h =
      let vs = values_of G.call.plan x in let ts = types_there E f q vs in let all = variant_parts E.items G.enum (G.variant x.exit) in
      let row = bound_row E B d 0 ts all (after p) h.0 bs (not_mutable_many (length vs) ∙ sym (as_many_types E f q vs)) (λ j. ap (λ (w : List Typ). slice_get w (j + 0)) hs.0.0 ∙ ap (slice_get ts) (no_more_number j)) (limits_of E q vs hs.0.1) h.1.1 in
      let p1 = known_from p.declared h.0.declared h.0 in
      let k = behind_pattern (named.variant_pattern n G.enum (G.variant x.exit) ps) p p h.0 h.0 (keeps_itself p) h.1 (keeps_itself h.0) in
      let l = later_with row.entries B p h.0 p1 (inside_wider (one_on p) (still h.0) row.entries (parts_inside E row.binds (after p) h.0 h.1.1).1) c k in
      let up = (exp_keeps e p1 (passed_on z) h.2 h.3).reaches.variables in
      let up' = (arms_keep _ h.2 (passed_on z) s h.4).reaches.variables in
      let there = (pattern_keeps (named.variant_pattern n G.enum (G.variant x.exit) ps) p h.0 h.1).counted c in
      let y = arm_cases (with_entries row.entries B) p1 (still_counted l) p1 h.2 z (keeps_itself p1) u want d (length vs) vs x.exit x.outs (names_of x.outs) arm refl refl refl hs.0.2 (outs_later x.exit x.outs l hs.0.3)
      (λ j w. few (d + j) (let a = (row.between j (let m = as_many_types E f q vs in omega (arith, m, w))).1 in omega (arith, a, up, up')))
      (record { typed = row.typed; known = λ j t w. let a = row.between j (there_below ts j t w) in pattern_known p.declared h.0.declared h.0 (d + j) there a.0 a.1 (omega arith) }) h.3 in
      let l2 = later_same B p h.2 c (keeps_on k (exp_keeps e p1 (passed_on z) h.2 h.3)) in
      let others = arms_fit xs B h.2 s z u want (still_counted l2) rest (every_such xs (λ x w. (w.0, w.1, w.2, outs_later x.exit x.outs l2 w.3)) hs.1) few h.4 in
      put B z u (ap length hs.0.0 ∙ row.many) row.binds (site_is e p1 (passed_on z) h.2 h.3) want y others
    where
      put : (B : Context) (z : Site) (u : Typ) {m : Node} {w : ℕ} {ps : Patterns} {e : Exp} {l : Arms} {a : Entries} → length (variant_parts E.items G.enum w) ≡ count ps → PartsBind E (variant_parts E.items G.enum w) 0 ps a → (node_of e).site ≡ passed_on z → WholeWanted z u T
          → ArmCases (with_entries a B) u e → (c : Entries) × ArmsFit E f B z G.enum u u l c → (c : Entries) × ArmsFit E f B z G.enum u u (named.arm_and (named.variant_pattern m G.enum w ps) e l) c
      put B z u many binds s want (a_value v) rest = (_, gives_value many binds v.fits v.lives s (arm_wanted z u T want) rest.1)
      put B z u many binds s want (a_jump a j v) rest = (_, leaves many binds j v s rest.1)

  -- ---- the whole

  pub record WholeFits (B : Context) (e : Exp) (u : Typ) : Type 0 where
    pub typ : Typ
    pub entries : Entries
    pub fits : ValueFits E f B e u typ entries
    pub is : (typ ≡ T) ⊎ (typ ≡ u)

  pub whole_fits : (b : Bool) → has_enum G.call.plan.exits ≡ b → {e : Exp} → IsWhole G R b e → (B : Context) (p : Spot) → Counted p → Every (ParamStands E G.call R q B p) G.call.plan.params → (has_enum G.call.plan.exits ≡ true → Every (ArmStands B p) G.call.plan.exits) → (r s : Spot) (z : Site) → Keeps p r
      → ((i : ℕ) → i < s.declared → number i ≡ i) → NumberedExp r z e s → (u : Typ) → WholeWanted z u T → WholeFits B e u
  whole_fits false i (call_alone w) B p c params arms r s z k few h u want =
      let y = call_value E f q G R B p c u T w params items.parameters (items.result ∙ ap (λ (b : Bool). Some (if b then item G.enum else T)) i) r s z k h in record { typ = T; entries = y.entries; fits = y.fits; is = inl refl }
  whole_fits true i (call_matched {n = n} {e = v} {l = l} j w rows) B p c params arms r s z k few h u want =
      let k1 = keeps_on k (keeps_node r) in let k2 = keeps_on k1 (exp_keeps v (after r) Site.Scrutinee h.1 h.2) in
      let y = call_value E f q G R B p c unit_shape (item G.enum) w params items.parameters (items.result ∙ ap (λ (b : Bool). Some (if b then item G.enum else T)) i) (after r) h.1 Site.Scrutinee k1 h.2 in
      let d = call_is_none E f q G R B p c w in let l2 = later_same B p h.1 c k2 in
      let x = arms_fit G.call.plan.exits B h.1 s n.site u (subst (λ (t : Site). WholeWanted t u T) (sym h.0.1) want) (still_counted l2) rows
      (every_such G.call.plan.exits (λ x w. (w.0, w.1, w.2, outs_later x.exit x.outs l2 w.3)) (arms i)) few (subst (λ (t : Site). NumberedArms h.1 (passed_on t) l s) (sym h.0.1) h.3) in
      record { typ = u; entries = _; fits = a_match y.fits (site_is v (after r) Site.Scrutinee h.1 h.2) d.0 d.1 x.1 (match_wanted n.site u); is = inr refl }

  -- ---- where the end of the run is reached, it has a value

  arm_lives : {d k : ℕ} {x : Exit} {names : Names} {e : Exp} → IsArm G R d k x names e → x ≡ to_next → never e ≡ false
  arm_lives (next_alone a b) i = refl
  arm_lives (next_with (one_joined (is_made a b))) i = refl
  arm_lives (next_with (more_joined a b)) i = refl
  arm_lives (jump_alone (jumps_out a b c)) i = absurd (cc)
  arm_lives (jump_alone (jumps_on a b c)) i = absurd (cc)
  arm_lives (jump_with a b m) i = let y = jump_there E f q G R m in absurd (no_next E f q G R (subst (λ (x : Exit). IsJump G R x y.0) i y.1))
  arm_lives (returns a m) i = absurd (cc)

  and_false : (a b : Bool) → b ≡ false → (a && b) ≡ false
  and_false true b e = e
  and_false false b e = refl

  arms_live : {xs : List Leaving} {l : Arms} → AreArms G R xs l → has_exit to_next xs ≡ true → all_never l ≡ false
  arms_live no_arms e = absurd (cc)
  arms_live (more_arms {x = x} {xs = xs} {e = v} {l = l} i bs arm rest) e = by x.exit refl e (arms_live rest)
    where
      by : (z : Exit) → x.exit ≡ z → (same_exit to_next z || has_exit to_next xs) ≡ true → (has_exit to_next xs ≡ true → all_never l ≡ false) → (never v && all_never l) ≡ false
      by to_next i e r = ap (λ (b : Bool). b && all_never l) (arm_lives arm i)
      by (to_break k) i e r = and_false (never v) (all_never l) (r e)
      by (to_continue k) i e r = and_false (never v) (all_never l) (r e)
      by to_return i e r = and_false (never v) (all_never l) (r e)

  pub whole_lives : {b : Bool} {e : Exp} → IsWhole G R b e → has_exit to_next G.call.plan.exits ≡ true → never e ≡ false
  whole_lives (call_alone (is_call i is)) e = refl
  whole_lives (call_matched i w rows) e = arms_live rows e

  pub whole_is_no_place : {b : Bool} {e : Exp} → IsWhole G R b e → is_place e ≡ false
  whole_is_no_place (call_alone (is_call i is)) = refl
  whole_is_no_place (call_matched i w rows) = refl
