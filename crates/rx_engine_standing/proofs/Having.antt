-- What fits in place of a run has the plan's types, whatever its entries are: the call, the match on it, and the variables that are bound behind it.
use Rattle.std.proofs.Common.{◌≡◌, ◌+◌, ℕ, zero, suc, Bool, true, false, ◌||◌, if◌then◌else◌, List, [], ◌∷◌, ◌++◌, length, map, Some, None, slice_get, refl, sym, ap, ◌∙◌, subst, arith}
use Rattle.rx_core.specs.declared.types.Kind.{Kind}
use Rattle.rx_core.specs.declared.types.Span.{Span}
use Rattle.rx_tree.specs.Lists.{Every}
use Rattle.rx_resolve_names.specs.Meant.{number}
use Rattle.rx_typed.specs.declared.nodes.Site.{Site}
use Rattle.rx_typed.specs.Named as named
use Rattle.rx_typed.specs.Named.{never, node_of, Arms, Exp, Exps, Statements, Written, WrittenTypes}
use Rattle.rx_typed.specs.Naming.{passed_on}
use Rattle.rx_typed.specs.Types.{named as item, reference, result_declared, shape_and, shapes_listed, shapes_of, tuple_of, variant_parts, Shape, Shapes, Typ}
use Rattle.rx_hoist_extraction.specs.Names.{Names}
use Rattle.rx_hoist_extraction.specs.Plan.{has_enum, has_exit, outs_of, same_exit, to_break, to_continue, to_next, to_return, Exit, Leaving, Variable}
use Rattle.rx_hoist_extraction.specs.Values.{held_by, next_values, result_of, types_of, values_at, values_of, Value}
use Rattle.rx_typeck_solver.specs.declared.facts.Subject.TheVariants as subject
use Rattle.rx_typeck_solver.specs.Facts.{KnownItems}
use Rattle.rx_engine_names.specs.Renaming.{Renaming}
use Rattle.rx_engine_names.specs.Calls.{IsCall}
use Rattle.rx_engine_names.specs.Calls.IsCall.{is_call}
use Rattle.rx_engine_names.specs.WrittenOut.{SayAll, Says}
use Rattle.rx_engine_names.specs.WrittenOut.Says.{says_kind, says_bool, says_tuple, says_reference, says_item}
use Rattle.rx_engine_names.specs.WrittenOut.SayAll.{says_no_type, says_more_types}
use Rattle.rx_engine_names.specs.HandedOut.{not_mutable, received_mutable, AreArms, AreAssigned, AreHanded, AreJoined, AreMade, ArePutBack, AreRedeclared, Handing, IsArm, IsJump, IsMade, IsWhole, OneDone}
use Rattle.rx_engine_names.specs.HandedOut.IsMade.{is_made}
use Rattle.rx_engine_names.specs.HandedOut.AreMade.{none_made, more_made}
use Rattle.rx_engine_names.specs.HandedOut.AreJoined.{one_joined, more_joined}
use Rattle.rx_engine_names.specs.HandedOut.IsDone.{is_done}
use Rattle.rx_engine_names.specs.HandedOut.AreAssigned.{all_assigned, more_assigned}
use Rattle.rx_engine_names.specs.HandedOut.OneDone.{one_done}
use Rattle.rx_engine_names.specs.HandedOut.IsJump.{jumps_out, jumps_on}
use Rattle.rx_engine_names.specs.HandedOut.IsArm.{next_alone, next_with, jump_alone, jump_with, returns}
use Rattle.rx_engine_names.specs.HandedOut.AreArms.{no_arms, more_arms}
use Rattle.rx_engine_names.specs.HandedOut.IsWhole.{call_alone, call_matched}
use Rattle.rx_engine_names.specs.HandedOut.AreHanded.{done_alone, is_tail, one_bound, one_assigned, several_bound}
use Rattle.rx_engine_names.specs.HandedOut.ArePutBack.{none_put_back, result_stays, own_stays, is_put_back}
use Rattle.rx_engine_names.specs.HandedOut.AreRedeclared.{none_redeclared, more_redeclared}
use Rattle.rx_engine_blocks.specs.Renumbering.{shape_at, shapes_at, Renumbering}
use Rattle.rx_engine_blocks.specs.Signature.{typ_written, typs_written}
use Rattle.rx_engine_holes.specs.Entries.{with_entries, Context, Entries}
use Rattle.rx_engine_holes.specs.CallFits.{ArmFits, ArmsFit, MembersFit, StatementsFit, ValueFits}
use Rattle.rx_engine_holes.specs.CallFits.MembersFit.{no_members, more_members}
use Rattle.rx_engine_holes.specs.CallFits.ValueFits.{a_call, a_variable, a_tuple, the_unit, a_match}
use Rattle.rx_engine_holes.specs.CallFits.ArmsFit.{gives_value, leaves}
use Rattle.rx_engine_holes.specs.CallFits.StatementFits.{bound as is_bound, several_bound as are_bound, declared as is_declared}
use Rattle.rx_engine_holes.specs.CallFits.StatementsFit.{a_statement}
use Rattle.rx_engine_changed.specs.HandedTypes.{handed_type, ItemsDeclare, NextAgrees}
use Rattle.rx_engine_standing.specs.Bound.{bound_types, variable_types}
use Rattle.rx_engine_standing.proofs.Entries.{behind, bound_row, in_front, later_entry, row_behind, row_few, row_in_front, row_later, the_entry, FewIn, HasEntry, RowFew, RowHas, RowKnown}
use Rattle.rx_engine_standing.proofs.Fitting.{some_is}
use Rattle.rx_engine_standing.proofs.Lists.{both}

-- ---- types that are written, and that are in a row

module _ (q : Renumbering) (R : Renaming) (follows : (n : ℕ) → q.items n ≡ R.item n) where
  mutual
    says_type : {t : Shape Kind} {w : Written} → Says R t w → typ_written w ≡ shape_at q t
    says_type says_kind = refl
    says_type says_bool = refl
    says_type (says_tuple s) = ap tuple_of (say_types s)
    says_type (says_reference {m = m} s) = ap (reference m) (says_type s)
    says_type (says_item {i = i} e) = ap item (sym (follows i ∙ e))

    say_types : {ts : Shapes Kind} {ws : WrittenTypes} → SayAll R ts ws → shapes_of (typs_written ws) ≡ shapes_at q ts
    say_types says_no_type = refl
    say_types (says_more_types {t = u} {ws = ws} s ss) = ap (λ (t : Typ). shape_and t (shapes_of (typs_written ws))) (says_type s) ∙ ap (shape_and (shape_at q u)) (say_types ss)

module _ (q : Renumbering) where
  abbrev there : List Value → List Typ
  there hs = map (shape_at q) (types_of hs)

  shapes_there : (ts : List Typ) → shapes_of (map (shape_at q) ts) ≡ shapes_at q (shapes_of ts)
  shapes_there [] = refl
  shapes_there (t ∷ ts) = ap (λ (us : Shapes Kind). shape_and (shape_at q t) us) (shapes_there ts)

  listed_there : (ts : List Typ) → shapes_listed (shapes_at q (shapes_of ts)) ≡ map (shape_at q) ts
  listed_there [] = refl
  listed_there (t ∷ ts) = ap (λ (us : List Typ). shape_at q t ∷ us) (listed_there ts)

  as_many : (hs : List Value) → length (there hs) ≡ length hs
  as_many [] = refl
  as_many (h ∷ hs) = ap suc (as_many hs)

not_mutable_many : (k : ℕ) → length (not_mutable k) ≡ k
not_mutable_many zero = refl
not_mutable_many (suc k) = ap suc (not_mutable_many k)

received_many : (own : Names) (hs : List Value) → length (received_mutable own hs) ≡ length hs
received_many own [] = refl
received_many own (result_of t ∷ hs) = ap suc (received_many own hs)
received_many own (held_by v ∷ hs) = ap suc (received_many own hs)

no_more_number : (j : ℕ) → j + 0 ≡ j
no_more_number j = omega arith

tuple_inner : (ts us : Shapes Kind) → ◌≡◌ {A = Typ} (tuple_of ts) (tuple_of us) → ts ≡ us
tuple_inner ts us e = cc

item_inner : (i j : ℕ) → ◌≡◌ {A = Typ} (item i) (item j) → i ≡ j
item_inner i j e = cc

-- ---- values

module _ (E : KnownItems) (f : ℕ) (q : Renumbering) where
  made_type : {C : Context} {s : Span} {d : ℕ} {e : Exp} {t u v : Typ} {a : Entries} → IsMade s d e → number d ≡ d → C (subject.Variable d) ≡ Some t → ValueFits E f C e u v a → v ≡ t
  made_type {C = C} {t = t} {v = v} (is_made i n) few c (a_variable h k) = some_is v t (sym h ∙ ap (λ (y : ℕ). C (subject.Variable y)) (n ∙ few) ∙ c)

  members_type : {C : Context} {s : Span} {d k : ℕ} {es : Exps} {ts : Shapes Kind} {a : Entries} → AreMade s d k es → (us : List Typ) → length us ≡ k → RowFew d us → RowKnown C d us → MembersFit E C es ts a → ts ≡ shapes_of us
  members_type none_made [] l few c no_members = refl
  members_type none_made (u ∷ us) l few c m = absurd (omega (arith, l))
  members_type (more_made i rest) [] l few c m = absurd (omega (arith, l))
  members_type {C = C} {d = d} (more_made (is_made i n) rest) (u ∷ us) l few c (more_members {x = x} {t = t} {ts = ts} h k z ms) =
      let w : t ≡ u = some_is t u (sym h ∙ ap (λ (y : ℕ). C (subject.Variable y)) (n ∙ few.0) ∙ c.0) in
      ap (λ (v : Typ). shape_and v ts) w ∙ ap (λ (vs : Shapes Kind). shape_and u vs) (members_type rest us (omega (arith, l)) few.1 c.1 ms)

  joined_type : {C : Context} {s : Span} {d k : ℕ} {e : Exp} {u v : Typ} {a : Entries} → AreJoined s d k (named.present e) → (hs : List Value) → length hs ≡ k → RowFew d (there q hs) → RowKnown C d (there q hs) → ValueFits E f C e u v a → v ≡ shape_at q (handed_type hs)
  joined_type (one_joined m) [] l few c x = absurd (omega (arith, l))
  joined_type (one_joined m) (h ∷ []) l few c x = made_type m few.0 c.0 x
  joined_type (one_joined m) (h ∷ i ∷ hs) l few c x = absurd (omega (arith, l))
  joined_type (more_joined n ms) [] l few c x = absurd (omega (arith, l))
  joined_type (more_joined n ms) (h ∷ []) l few c x = absurd (omega (arith, l))
  joined_type (more_joined n ms) (h ∷ i ∷ hs) l few c (a_tuple m lim) =
      ap (λ (vs : Shapes Kind). tuple_of vs) (members_type ms (there q (h ∷ i ∷ hs)) (as_many q (h ∷ i ∷ hs) ∙ l) few c m ∙ shapes_there q (types_of (h ∷ i ∷ hs)))

  module _ (G : Handing) (R : Renaming) (items : ItemsDeclare E q G f) (agrees : NextAgrees G) where
    abbrev next : List Value
    next = next_values G.call.plan

    abbrev T : Typ
    T = shape_at q (handed_type next)

    jump_there : {x : Exit} {d : ℕ} {names : Names} {ss : Statements} → AreAssigned G.call R (OneDone G.call.place (IsJump G R x)) d names ss → (e : Exp) × IsJump G R x e
    jump_there (all_assigned (one_done (is_done i j))) = (_, j)
    jump_there (more_assigned a r) = jump_there r

    no_next : {e : Exp} → IsJump G R to_next e → ⊥
    no_next j = elim j [ ]

    -- an arm of a Next exit
    arm_type : {C : Context} {d k : ℕ} {x : Exit} {names : Names} {e : Exp} {u v : Typ} {a : Entries} → IsArm G R d k x names e → x ≡ to_next → (hs : List Value) → length hs ≡ k → RowFew d (there q hs) → RowKnown C d (there q hs) → ValueFits E f C e u v a → v ≡ shape_at q (handed_type hs)
    arm_type (next_alone a b) i [] l few c (the_unit s) = refl
    arm_type (next_alone a b) i (h ∷ hs) l few c x = absurd (omega (arith, l))
    arm_type (next_with m) i hs l few c x = joined_type m hs l few c x
    arm_type (jump_alone (jumps_out a b m)) i hs l few c x = absurd (cc)
    arm_type (jump_alone (jumps_on a b m)) i hs l few c x = absurd (cc)
    arm_type (jump_with a b m) i hs l few c x = let y = jump_there m in absurd (no_next (subst (λ (z : Exit). IsJump G R z y.0) i y.1))
    arm_type (returns a m) i hs l few c x = absurd (cc)

    arm_lives : {d k : ℕ} {x : Exit} {names : Names} {e : Exp} → IsArm G R d k x names e → x ≡ to_next → never e ≡ true → ⊥
    arm_lives (next_alone a b) i v = absurd (cc)
    arm_lives (next_with (one_joined (is_made a b))) i v = absurd (cc)
    arm_lives (next_with (more_joined a b)) i v = absurd (cc)
    arm_lives (jump_alone (jumps_out a b c)) i v = absurd (cc)
    arm_lives (jump_alone (jumps_on a b c)) i v = absurd (cc)
    arm_lives (jump_with a b m) i v = let y = jump_there m in absurd (no_next (subst (λ (z : Exit). IsJump G R z y.0) i y.1))
    arm_lives (returns a m) i v = absurd (cc)

    abbrev ArmTold : Leaving → Type 0
    ArmTold x = (variant_parts E.items G.enum (G.variant x.exit) ≡ there q (values_of G.call.plan x)) × (x.exit ≡ to_next → values_of G.call.plan x ≡ next)

    arms_type : {B : Context} {xs : List Leaving} {l : Arms} {s : Site} {i : ℕ} {u t : Typ} {b : Entries} → AreArms G R xs l → has_exit to_next xs ≡ true → Every ArmTold xs → passed_on s ≡ Site.Value → FewIn b → ArmsFit E f B s i u t l b → t ≡ T
    arms_type no_arms e told s few x = absurd (cc)
    arms_type {B = B} {s = s} {u = u} {t = t} (more_arms {x = x} {xs = xs} {d = d} w bs arm rest) e told si few (gives_value {v = v} {a = a} {b = b} m binds value live at fit others) =
        by x.exit refl e (λ h. arms_type rest h told.1 si (λ y w k. few y w (later_entry (behind a (later_entry (behind b k))))) others)
      where
        hs : List Value
        hs = values_of G.call.plan x

        row : RowHas a d (there q hs) × RowKnown (with_entries a B) d (there q hs)
        row = bound_row E B bs binds (there q hs) (as_many q hs ∙ sym (not_mutable_many (length hs))) (λ j. ap (λ (w : List Typ). slice_get w (j + 0)) told.0.0 ∙ ap (slice_get (there q hs)) (no_more_number j))

        value_is : x.exit ≡ to_next → v ≡ shape_at q (handed_type hs)
        value_is z = arm_type arm z hs refl (row_few a d (there q hs) (λ y w h. few y w (later_entry (in_front _ h))) row.0) row.1 value

        by : (z : Exit) → x.exit ≡ z → (same_exit to_next z || has_exit to_next xs) ≡ true → (has_exit to_next xs ≡ true → t ≡ T) → t ≡ T
        by to_next z h f = let w : v ≡ t = subst (λ (y : Site). ArmFits y u t v) si fit in sym w ∙ value_is z ∙ ap (λ (hs : List Value). shape_at q (handed_type hs)) (told.0.1 z)
        by (to_break k) z h f = f h
        by (to_continue k) z h f = f h
        by to_return z h f = f h
    arms_type {t = t} (more_arms {x = x} {xs = xs} w bs arm rest) e told si few (leaves {a = a} {b = b} m binds jump nev at others) =
        by x.exit refl e (λ h. arms_type rest h told.1 si (λ y w k. few y w (later_entry (behind a (later_entry (behind b k))))) others)
      where
        by : (z : Exit) → x.exit ≡ z → (same_exit to_next z || has_exit to_next xs) ≡ true → (has_exit to_next xs ≡ true → t ≡ T) → t ≡ T
        by to_next z h f = absurd (arm_lives arm z nev)
        by (to_break k) z h f = f h
        by (to_continue k) z h f = f h
        by to_return z h f = f h

    call_result : {B : Context} {e : Exp} {u t : Typ} {a : Entries} → IsCall G.call R e → ValueFits E f B e u t a → result_declared (slice_get E.items G.call.number) ≡ Some t
    call_result (is_call s is) (a_call m xs r) = r

    -- the whole, where its value is bound
    whole_type : (b : Bool) → has_enum G.call.plan.exits ≡ b → {B : Context} {e : Exp} {u t : Typ} {a : Entries} → IsWhole G R b e → has_exit to_next G.call.plan.exits ≡ true → (node_of e).site ≡ Site.Scrutinee → FewIn a → ValueFits E f B e u t a → t ≡ T
    whole_type false i {t = t} (call_alone w) reached s few x = some_is t T (sym (call_result w x) ∙ (items.result ∙ ap (λ (b : Bool). Some (if b then item G.enum else T)) i))
    whole_type true i (call_matched w c rows) reached s few (a_match {a = a} x p l v arms m) =
        arms_type rows reached
        (both (λ (x : Leaving). variant_parts E.items G.enum (G.variant x.exit) ≡ there q (values_of G.call.plan x)) (λ (x : Leaving). x.exit ≡ to_next → values_of G.call.plan x ≡ next_values G.call.plan) ArmTold (λ x g h. (g, h)) G.call.plan.exits (items.variants i) agrees)
        (ap passed_on s) (λ y w h. few y w (later_entry (behind a h))) arms

    -- ---- what is bound

    module _ (follows : (n : ℕ) → q.items n ≡ R.item n) where
      redeclared_row : {s : Span} (vs : List Variable) {d : ℕ} {B : Context} {ss : Statements} {a : Entries} → AreRedeclared s R d vs ss → StatementsFit E f B ss a → RowHas a d (map (shape_at q) (variable_types vs))
      redeclared_row [] none_redeclared x = tt
      redeclared_row (v ∷ vs) {d = d} (more_redeclared i j says rest) (a_statement {a = a} {b = b} (is_declared lf lim) xs) = (
        subst (λ (t : Typ). HasEntry (subject.Variable d) t (a ++ b)) (says_type q R follows says) (later_entry (the_entry refl refl)),
        row_behind a b (suc d) (map (shape_at q) (variable_types vs)) (redeclared_row vs rest xs),
      )

      behind_back : {later : ℕ} {s : Span} (vs : List Variable) {d : ℕ} {hs : List Value} {B : Context} {ss : Statements} {a : Entries} → ArePutBack G R (AreRedeclared s R later vs) d hs ss → StatementsFit E f B ss a → RowHas a later (map (shape_at q) (variable_types vs))
      behind_back vs (none_put_back z) x = redeclared_row vs z x
      behind_back vs (result_stays r) x = behind_back vs r x
      behind_back vs (own_stays o r) x = behind_back vs r x
      behind_back {later = later} vs (is_put_back o i r) (a_statement {a = a} {b = b} x xs) = row_behind a b later (map (shape_at q) (variable_types vs)) (behind_back vs r xs)

      abbrev Hands : Entries → ℕ → ℕ → List Value → List Variable → Type 0
      Hands made d later hs vs = RowHas made d (map (shape_at q) (bound_types G.own hs)) × RowHas made later (map (shape_at q) (variable_types vs))

      several : {ts : Shapes Kind} (h i : Value) (hs : List Value) → tuple_of ts ≡ shape_at q (handed_type (h ∷ i ∷ hs)) → shapes_listed ts ≡ there q (h ∷ i ∷ hs)
      several {ts = ts} h i hs e = ap (λ (us : Shapes Kind). shapes_listed us) (tuple_inner ts (shapes_at q (shapes_of (types_of (h ∷ i ∷ hs)))) e) ∙ listed_there q (types_of (h ∷ i ∷ hs))

      next_there : (h : Value) (hs : List Value) → next ≡ h ∷ hs → has_exit to_next G.call.plan.exits ≡ true
      next_there h hs e = by (has_exit to_next G.call.plan.exits) refl
        where
          no_values : ◌≡◌ {A = List Value} [] (h ∷ hs) → ⊥
          no_values e = cc

          by : (b : Bool) → has_exit to_next G.call.plan.exits ≡ b → b ≡ true
          by true i = refl
          by false i = absurd (no_values (sym (ap (λ (b : Bool). if b then values_at G.call.plan to_next (outs_of to_next G.call.plan.exits) else []) i) ∙ e))

      pub hands : {later d : ℕ} {s : Span} (vs : List Variable) (hs : List Value) → hs ≡ next → {B : Context} {ss : Statements} {made : Entries} → AreHanded G R (IsWhole G R (has_enum G.call.plan.exits)) (AreRedeclared s R later vs) d hs ss → FewIn made → StatementsFit E f B ss made → Hands made d later hs vs
      hands {later = later} vs [] i (done_alone w z) few (a_statement {a = a} {b = b} x xs) = (tt, row_behind a b later (map (shape_at q) (variable_types vs)) (redeclared_row vs z xs))
      hands vs (result_of t ∷ []) i (is_tail z) few x = (tt, redeclared_row vs z x)
      hands {later = later} {d = d} vs (held_by v ∷ []) i (one_bound {p = node} own n p w z) few (a_statement {b = c} (is_bound {t = u} {a = a} x site pl nev lim) xs) =
          let first : Entries = (subject.Node node.number, u) ∷ (subject.Variable d, u) ∷ a in
          let t = whole_type (has_enum G.call.plan.exits) refl w (next_there (held_by v) [] (sym i)) site (λ y k h. few y k (in_front c (later_entry (later_entry h)))) x in
          let e : u ≡ shape_at q v.typ = t ∙ ap (λ (hs : List Value). shape_at q (handed_type hs)) (sym i) in
          let inner : HasEntry (subject.Variable d) u first = later_entry (the_entry refl refl) in
          let entry : HasEntry (subject.Variable d) u (first ++ c) = in_front c inner in (
            subst (λ (k : Bool). RowHas (first ++ c) d (map (shape_at q) (if k then v.typ ∷ [] else []))) (sym own) (subst (λ (k : Typ). HasEntry (subject.Variable d) k (first ++ c)) e entry, tt),
            row_behind first c later (map (shape_at q) (variable_types vs)) (redeclared_row vs z xs),
          )
      hands {later = later} {d = d} vs (held_by v ∷ []) i (one_assigned own w z) few (a_statement {a = a} {b = b} x xs) = (
        subst (λ (k : Bool). RowHas (a ++ b) d (map (shape_at q) (if k then v.typ ∷ [] else []))) (sym own) tt,
        row_behind a b later (map (shape_at q) (variable_types vs)) (redeclared_row vs z xs),
      )
      hands {later = later} {d = d} vs (h ∷ j ∷ hs) i (several_bound {p = node} n p bs w z) few (a_statement {b = c} (are_bound {ts = ts} {a = a} {b = b} x site pl nev len parts) xs) =
          let first : Entries = (subject.Node node.number, tuple_of ts) ∷ (b ++ a) in
          let t = whole_type (has_enum G.call.plan.exits) refl w (next_there h (j ∷ hs) (sym i)) site (λ y u k. few y u (in_front c (later_entry (behind b k)))) x in
          let e = several h j hs (t ∙ ap (λ (hs : List Value). shape_at q (handed_type hs)) (sym i)) in
          let us = there q (h ∷ j ∷ hs) in
          let row = bound_row E (λ x. None) bs parts us (as_many q (h ∷ j ∷ hs) ∙ sym (received_many G.own (h ∷ j ∷ hs))) (λ k. ap (λ (w : List Typ). slice_get w (k + 0)) e ∙ ap (slice_get us) (no_more_number k)) in (
            row_in_front first c d us (row_later (subject.Node node.number, tuple_of ts) (b ++ a) d us (row_in_front b a d us row.0)),
            row_behind first c later (map (shape_at q) (variable_types vs)) (behind_back vs z xs),
          )
