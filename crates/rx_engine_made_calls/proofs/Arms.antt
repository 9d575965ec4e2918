-- The arms of the match on what the call gives: each does what the plan says of its exit.
use Rattle.std.proofs.Common.{if◌then◌else◌, ◌≡◌, ◌≤◌, ◌<◌, ◌+◌, inl, inr, ℕ, zero, suc, Bool, true, false, ◌||◌, List, [], ◌∷◌, length, map, slice_get, Some, None, Option, refl, sym, ap, ◌∙◌, subst, arith}
use Rattle.rx_core.specs.declared.types.Kind.{Kind}
use Rattle.rx_core.specs.declared.types.Span.{Span}
use Rattle.rx_tree.specs.Lists.{Every}
use Rattle.rx_resolve_names.specs.Meant.{number}
use Rattle.rx_typed.specs.declared.nodes.Node.{Node}
use Rattle.rx_typed.specs.declared.nodes.Site.{Site}
use Rattle.rx_typed.specs.Types.{named as item, shape_and, shapes_of, tuple_of, unit_shape, variant_parts, Shapes, Typ}
use Rattle.rx_typed.specs.Elaborated.{has_several, Assigned}
use Rattle.rx_typed.specs.Named as named
use Rattle.rx_typed.specs.Named.{node_of, Arms as NamedArms, Else, Exp, Patterns, Statement, Statements}
use Rattle.rx_typed.specs.Naming.{passed_on}
use Rattle.rx_hoist_extraction.specs.Plan as hoist
use Rattle.rx_hoist_extraction.specs.Plan.{has_exit, is_unit, names_of, same_exit, to_break, to_continue, to_next, to_return, Leaving, Variable}
use Rattle.rx_hoist_extraction.specs.Names.{Names}
use Rattle.rx_hoist_extraction.specs.Values.{next_values, result_of, types_of, unless_unit, values_at, values_of, variables_held, Value}
use Rattle.rx_typeck_solver.specs.declared.facts.Subject.TheVariants as subject
use Rattle.rx_typeck_solver.specs.Facts.{Assignment, KnownItems}
use Rattle.rx_typeck_typed.specs.Asking.{expected, type_of}
use Rattle.rx_exits_plan.specs.Asked.{Asked}
use Rattle.rx_exits_plan.specs.Plan.{Plan}
use Rattle.rx_exits_plan.specs.Points.{breaks, continues, next, returns, Exit}
use Rattle.rx_engine_names.specs.Renaming.{Renaming as Pairing}
use Rattle.rx_engine_names.specs.HandedOut.{not_mutable, AreArms, AreAssigned, AreBound, AreJoined, Handing, IsArm, IsJump, OneDone, RoundIs}
use Rattle.rx_engine_names.specs.HandedOut.AreArms.{no_arms, more_arms}
use Rattle.rx_engine_names.specs.HandedOut.AreBound.{none_bound, more_bound}
use Rattle.rx_engine_names.specs.HandedOut.AreJoined.{nothing_joined, one_joined, more_joined}
use Rattle.rx_engine_names.specs.HandedOut.AreAssigned.{all_assigned, more_assigned}
use Rattle.rx_engine_names.specs.HandedOut.IsArm.{jump_alone, jump_with, next_alone, next_with}
use Rattle.rx_engine_names.specs.HandedOut.IsArm.{returns as returns_so}
use Rattle.rx_engine_names.specs.HandedOut.IsDone.{is_done}
use Rattle.rx_engine_names.specs.HandedOut.OneDone.{one_done}
use Rattle.rx_engine_names.specs.HandedOut.IsJump.{jumps_on, jumps_out}
use Rattle.rx_engine_names.specs.HandedOut.IsMade.{is_made}
use Rattle.rx_engine_names.specs.HandedOut.AreMade.{more_made, none_made}
use Rattle.rx_engine_names.specs.HandedOut.{AreMade}
use Rattle.rx_engine_blocks.specs.Renumbering.{shape_at, shapes_at, Renumbering}
use Rattle.rx_engine_typing.specs.Corresponding.{given_types}
use Rattle.rx_engine_holes.specs.Run.{append}
use Rattle.rx_engine_holes.specs.Entries.{Context, Entries, Has}
use Rattle.rx_engine_holes.specs.CallFits.{ArmFits, ArmsFit, JumpFits, MembersFit, PartsBind, ValueFits}
use Rattle.rx_engine_holes.specs.CallFits.MembersFit.{more_members, no_members}
use Rattle.rx_engine_holes.specs.CallFits.ValueFits.{a_tuple, the_unit}
use Rattle.rx_engine_holes.specs.CallFits.JumpFits.{a_jump_behind, a_return_with}
use Rattle.rx_engine_holes.specs.CallFits.ArmsFit.{gives_value, leaves}
use Rattle.rx_engine_changed.specs.Spots.{after, known_from, NumberedArms, NumberedExp, NumberedPatterns, Spot}
use Rattle.rx_engine_changed.specs.HandedTypes.{handed_type, ItemsDeclare}
use Rattle.rx_engine_simulation.specs.Sights.{In, IsNew, Renaming}
use Rattle.rx_engine_simulation.specs.Jumps.{as_return, loop_of, Jumping}
use Rattle.rx_engine_simulation.specs.Packing.{AreNew}
use Rattle.rx_engine_simulation.specs.Statements.{count as count_of}
use Rattle.rx_engine_made_trees.specs.Giving.GivesThem.{an_empty_block}
use Rattle.rx_engine_made_trees.specs.Giving.TailGives.{no_tail}
use Rattle.rx_engine_made_trees.specs.Arms.{ArmDoes, ArmsFor, EndsWith, JumpsOut}
use Rattle.rx_engine_made_trees.specs.Arms as made
use Rattle.rx_engine_made_trees.specs.Handing.{BindsAll, PutsBack}
use Rattle.rx_engine_made_trees.specs.Seen.{Distinct}
use Rattle.rx_engine_simulation.specs.Variants.{AllSpecial}
use Rattle.rx_engine_made_trees.specs.Arms.EndsWith.{alone, behind}
use Rattle.rx_engine_made_trees.specs.Arms.JumpsOut.{at_once, in_block}
use Rattle.rx_engine_made_trees.specs.Arms.ArmDoes.{does_break, does_continue, does_return, goes_on, returns_value}
use Rattle.rx_engine_made_trees.specs.Arms.ArmsFor.{an_arm, no_arms as none_for}
use Rattle.rx_engine_made_calls.specs.Plans.{is_there, ExitIs, ExitsAre, GoesBack, Rows}
use Rattle.rx_engine_made_calls.specs.Plans.ExitIs.{is_break, is_continue, is_next, is_return}
use Rattle.rx_engine_made_calls.specs.Plans.ExitsAre.{more_exits, no_exits}
use Rattle.rx_engine_made_calls.specs.Plans.Rows.{more_rows, no_rows}
use Rattle.rx_engine_made_calls.specs.Contexts.{Tells}
use Rattle.rx_engine_made_calls.proofs.Telling.{as_many_types, has_first, held_length, one_some, tells_more, types_there}
use Rattle.rx_engine_made_calls.proofs.Rising.{arms_rise, exp_rises}
use Rattle.rx_engine_made_calls.proofs.Types.{binds_all, bound_types, few_behind, few_first, from, joined_named, made_names, made_type, made_variable, Few, RowHas, WantedAt}
use Rattle.rx_engine_made_calls.proofs.Assigning.{assigned_all, Put}

-- ---- numbers from one on

pub in_from : (d j y : ℕ) → In y (from d j) → (d ≤ y) × (y < d + j)
in_from d zero y i = absurd i
in_from d (suc j) y (inl e) = (omega (arith, e), omega (arith, e))
in_from d (suc j) y (inr i) = let z = in_from (suc d) j y i in let a = z.0 in let b = z.1 in (omega (arith, a), omega (arith, b))

pub new_from : (R : Renaming) (d j : ℕ) → ((y : ℕ) → d ≤ y → IsNew R y) → AreNew R (from d j)
new_from R d zero n = tt
new_from R d (suc j) n = (n d (omega arith), λ i. (let a = (in_from (suc d) j d i).0 in absurd (omega (arith, a))), new_from R (suc d) j (λ y l. n y (omega (arith, l))))

-- variables of patterns are numbered in order
pub bound_first : {s : Span} {d : ℕ} {m : Bool} {ms : List Bool} {ps : Patterns} (p r : Spot) → AreBound s d (m ∷ ms) ps → NumberedPatterns p ps r → d ≡ p.declared
bound_first p r (more_bound i bs) h = h.1.1

pub bound_behind : {s : Span} {d : ℕ} {ms : List Bool} {ps : Patterns} (p r : Spot) → AreBound s d ms ps → NumberedPatterns p ps r → r.declared ≡ p.declared + length ms
bound_behind p r none_bound h = ap (λ (z : Spot). z.declared) h ∙ sym (no_more p.declared)
  where
    no_more : (n : ℕ) → n + 0 ≡ n
    no_more n = omega arith
bound_behind p r (more_bound {ms = ms} i bs) h =
    bound_behind h.0 r bs h.2 ∙ (ap (λ (z : Spot). z.declared + length ms) h.1.2 ∙ further p.declared (length ms))
  where
    further : (n m : ℕ) → suc n + m ≡ n + suc m
    further n m = omega arith

not_mutable_many : (k : ℕ) → length (not_mutable k) ≡ k
not_mutable_many zero = refl
not_mutable_many (suc k) = ap suc (not_mutable_many k)

-- ---- statements at the end of a block

pub ends_with : (s : Statement) (ss : Statements) → EndsWith s ss (append ss (named.statement_and s named.no_statement))
ends_with s named.no_statement = alone
ends_with s (named.statement_and a ss) = behind (ends_with s ss)

pub length_from : (d j : ℕ) → length (from d j) ≡ j
length_from d zero = refl
length_from d (suc j) = ap suc (length_from (suc d) j)

-- ---- lists

no_rows_left : {P : Variable → ℕ → Type 0} {vs : List Variable} {xs : List ℕ} → Rows P vs xs → names_of vs ≡ [] → (vs ≡ []) × (xs ≡ [])
no_rows_left no_rows e = (refl, refl)
no_rows_left (more_rows b bs) e = absurd (cc)

pub rows_length : {P : Variable → ℕ → Type 0} {vs : List Variable} {xs : List ℕ} → Rows P vs xs → length vs ≡ length xs
rows_length no_rows = refl
rows_length (more_rows b bs) = ap suc (rows_length bs)

-- the first exit is the run's end, or one of the others is
by_exit : {P : Type 0} (x : hoist.Exit) (xs : List Leaving) → (same_exit to_next x || has_exit to_next xs) ≡ true → (x ≡ to_next → P) → (has_exit to_next xs ≡ true → P) → P
by_exit to_next xs e f g = f refl
by_exit (to_break i) xs e f g = g e
by_exit (to_continue i) xs e f g = g e
by_exit to_return xs e f g = g e

-- what the end hands out: a value, if there is one, and what variables hold
pub next_length : (p : hoist.Plan) (has : Bool) (vs : List Variable) (xs : List ℕ) → is_there p.value ≡ has → length vs ≡ length xs → length (values_at p to_next vs) ≡ count_of has xs
next_length p has vs xs e l = by p.value has e
  where
    by : (o : Option Typ) (has : Bool) → is_there o ≡ has → length (values_at (record p { value = o }) to_next vs) ≡ count_of has xs
    by None false e = held_length vs ∙ l
    by (Some t) true e = ap suc (held_length vs ∙ l)
    by None true e = absurd (cc)
    by (Some t) false e = absurd (cc)

shapes_there : (q : Renumbering) (ts : List Typ) → shapes_at q (shapes_of ts) ≡ shapes_of (map (shape_at q) ts)
shapes_there q [] = refl
shapes_there q (t ∷ ts) = ap (shape_and (shape_at q t)) (shapes_there q ts)

-- a match whose value is wanted as it is: the type that is expected of it, at its site, is its own
abbrev pub WantsIt : Site → Typ → Typ → Type 0
WantsIt Site.Expects u t = u ≡ t
WantsIt Site.Initialises u t = u ≡ t
WantsIt _ u t = Unit {0}

module _ (E : KnownItems) (f : ℕ) (q : Renumbering) (G : Handing) (N : Pairing) (W : Assignment) (items : ItemsDeclare E q G f) (A : Asked) (muts : List Bool) (k : Plan) (R : Renaming) (J : Jumping) (has : Bool) where
  abbrev T : Assigned
  T = given_types E W

  abbrev next_there : List Value
  next_there = next_values G.call.plan

  abbrev Given : Typ
  Given = shape_at q (handed_type next_there)

  abbrev unit : Bool
  unit = is_unit G.call.plan.result

  abbrev Does : Exit → List ℕ → Exp → Type 0
  Does x qs e = ArmDoes T A muts k R unit has J x qs e

  -- what fits as an arm's value, or as one that jumps
  pub data ArmCase (z : Site) (u t : Typ) (e : Exp) : Type 0 where
    valued : {B : Context} {v : Typ} {b : Entries} → ValueFits E f B e u v b → Has W b → Tells W B → W (expected (node_of e)) ≡ u → (node_of e).site ≡ passed_on z → ArmFits (passed_on z) u t v → ArmCase z u t e
    jumping : {B : Context} {b : Entries} → JumpFits E f B e u b → Has W b → Tells W B → ArmCase z u t e

  -- ---- the end of the run

  -- an arm's value at its site
  value_wanted : (z : Site) (n : Node) (u t v : Typ) → WantsIt z u v → W (expected n) ≡ u → ArmFits (passed_on z) u t v → WantedAt W (passed_on z) n u v
  value_wanted Site.Value n u t v w e a = tt
  value_wanted Site.Place n u t v w e a = tt
  value_wanted Site.Scrutinee n u t v w e a = tt
  value_wanted Site.Expects n u t v w e a = (e, w)
  value_wanted Site.Initialises n u t v w e a = (e, w)
  value_wanted Site.Reborrows n u t v w e a = (e, sym a.1)

  -- what is joined has this type
  members_type : {s : Span} {B : Context} {d j : ℕ} {es : named.Exps} {ts : Shapes Kind} {a : Entries} (us : List Typ) → AreMade s d j es → MembersFit E B es ts a → Has W a → Tells W B → Few d j → RowHas W d us → length us ≡ j → ts ≡ shapes_of us
  members_type [] none_made no_members h tells few row i = refl
  members_type (u ∷ us) none_made no_members h tells few row i = absurd (omega (arith, i))
  members_type [] (more_made m ms) (more_members b known site rest) h tells few row i = absurd (omega (arith, i))
  members_type {d = d} {j = suc j} (u ∷ us) (more_made (is_made {u = x} w e) ms) (more_members {t = t} {ts = ts} b known site rest) h tells few row i =
      let first : t ≡ u = sym (tells _ t b) ∙ (ap (λ (n : ℕ). W (subject.Variable n)) (e ∙ few_first d j few) ∙ row.0) in
      ap (λ (t : Typ). shape_and t ts) first ∙ ap (shape_and u) (members_type us ms rest h.1 tells (few_behind d j few) row.1 (omega (arith, i)))

  pub joined_type : {s : Span} {B : Context} {d : ℕ} {e : Exp} {u v : Typ} {a : Entries} (hs : List Value) → AreJoined s d (length hs) (named.present e) → ValueFits E f B e u v a → Has W a → Tells W B → Few d (length hs) → RowHas W d (types_there q hs)
      → v ≡ shape_at q (handed_type hs)
  joined_type [] j fits h tells few row = elim j [ ]
  joined_type {d = d} (h0 ∷ []) (one_joined m) fits h tells few row = sym (made_type W E (made_variable W E m fits h tells (few_first d 0 few))) ∙ row.0
  joined_type (h0 ∷ h1 ∷ hs) (more_joined i ms) (a_tuple mf limits) h tells few row =
      ap tuple_of (members_type (types_there q (h0 ∷ h1 ∷ hs)) ms mf h.1 tells few row (as_many_types q (h0 ∷ h1 ∷ hs)) ∙ sym (shapes_there q (types_of (h0 ∷ h1 ∷ hs))))

  jump_there : {x : hoist.Exit} {d : ℕ} {names : Names} {ss : Statements} → AreAssigned G.call N (OneDone G.call.place (IsJump G N x)) d names ss → (e : Exp) × IsJump G N x e
  jump_there (all_assigned (one_done (is_done i j))) = (_, j)
  jump_there (more_assigned a r) = jump_there r

  no_next : {e : Exp} → IsJump G N to_next e → ⊥
  no_next j = elim j [ ]

  no_return : {e : Exp} → IsJump G N to_return e → ⊥
  no_return j = elim j [ ]

  next_arm : {d j : ℕ} {xs : Names} {e : Exp} {z : Site} {u t : Typ} (hs : List Value) → IsArm G N d j to_next xs e → j ≡ length hs → hs ≡ next_there → length hs ≡ count_of has (k.outs next) → ArmCase z u t e → WantsIt z u Given → Few d j → RowHas W d (types_there q hs) → Does next (from d j) e
  next_arm hs (next_alone a b) i n l c w few row = goes_on an_empty_block (i ∙ l)
  next_arm {d = d} {z = z} {u = u} {t = t} hs (next_with {k = j} {e = e} m) i n l (valued {v = v} fits h tells ex at a) w few row =
      let m2 = subst (λ (j : ℕ). AreJoined G.call.place d j (named.present e)) i m in
      let few2 = subst (Few d) i few in
      let y : v ≡ Given = joined_type hs m2 fits h tells few2 row ∙ ap (λ (hs : List Value). shape_at q (handed_type hs)) n in
      goes_on (joined_named W E (passed_on z) m fits h tells few at (λ one x. value_wanted z (node_of e) u t v (subst (WantsIt z u) (sym y) w) ex a)) (length_from d (suc j) ∙ (i ∙ l))
  next_arm hs (next_with (one_joined (is_made a b))) i n l (jumping fits h tells) w few row = elim fits [ ]
  next_arm hs (next_with (more_joined a b)) i n l (jumping fits h tells) w few row = elim fits [ ]
  next_arm hs (jump_alone m) i n l c w few row = elim m [ ]
  next_arm hs (jump_with a b m) i n l c w few row = absurd (no_next (jump_there m).1)

  -- ---- jumps

  -- with a value where it jumps: none fits
  no_value : {B : Context} {x : hoist.Exit} {e : Exp} {u v : Typ} {b : Entries} → IsJump G N x e → ValueFits E f B e u v b → ⊥
  no_value (jumps_out a b c) fits = elim fits [ ]
  no_value (jumps_on a b c) fits = elim fits [ ]

  break_is : {i l : ℕ} {e : Exp} → IsJump G N (to_break i) e → RoundIs G l i → ((d : ℕ) → N.loop l d ≡ true → loop_of J.loops l ≡ Some d) → (d : ℕ) × (loop_of J.loops l ≡ Some d) × made.IsJump d false e
  break_is {l = l} (jumps_out {l = m} {l' = d} a b c) r leads = (d, leads d (subst (λ (l : ℕ). N.loop l d ≡ true) (one_some m l (sym b ∙ r)) c), made.is_break)

  continue_is : {i l : ℕ} {e : Exp} → IsJump G N (to_continue i) e → RoundIs G l i → ((d : ℕ) → N.loop l d ≡ true → loop_of J.loops l ≡ Some d) → (d : ℕ) × (loop_of J.loops l ≡ Some d) × made.IsJump d true e
  continue_is {l = l} (jumps_on {l = m} {l' = d} a b c) r leads = (d, leads d (subst (λ (l : ℕ). N.loop l d ≡ true) (one_some m l (sym b ∙ r)) c), made.is_continue)

  abbrev Outs : List Variable → List ℕ → Type 0
  Outs vs xs = Rows (GoesBack G N q W A muts k R) vs xs

  -- a jump behind what is put back, in its block
  data JumpSo (x : hoist.Exit) (xs qs : List ℕ) (ss : Statements) : Type 0 where
    jump_so : {j : Node} {e : Exp} {front : Statements} → IsJump G N x e → PutsBack T A muts k R xs qs front → EndsWith (named.evaluates j e true) front ss → JumpSo x xs qs ss

  jump_last : {x : hoist.Exit} {xs qs : List ℕ} {p s : Spot} {ss : Statements} → Put E f q G N W A muts k R (OneDone G.call.place (IsJump G N x)) xs qs p s ss → JumpSo x xs qs ss
  jump_last {x = x} {xs = xs} {qs = qs} {ss = ss} o = by o.rest o.such o.is
    where
      by : (r : Statements) → OneDone G.call.place (IsJump G N x) r → ss ≡ append o.front r → JumpSo x xs qs ss
      by r (one_done (is_done {n = j} {e = e} i w)) a = jump_so w o.back (subst (EndsWith (named.evaluates j e true) o.front) (sym a) (ends_with (named.evaluates j e true) o.front))

  jump_behind : {x : hoist.Exit} {d : ℕ} {v : Variable} {vs : List Variable} {xs : List ℕ} {n m : Node} {ss : Statements} {z : Site} {u t : Typ} (p : Spot) (y : Site) (s : Spot) → Outs (v ∷ vs) xs
      → AreAssigned G.call N (OneDone G.call.place (IsJump G N x)) d (names_of (v ∷ vs)) ss → ArmCase z u t (named.block n (named.body m ss named.absent)) → Few d (length (v ∷ vs)) → RowHas W d (types_there q (variables_held (v ∷ vs)))
      → NumberedExp p y (named.block n (named.body m ss named.absent)) s → JumpSo x xs (from d (length (v ∷ vs))) ss
  jump_behind p y s outs (more_assigned a r) (valued fits h tells ex at w) few row num = elim fits [ ]
  jump_behind {d = d} {v = v} {vs = vs} p y s outs m (jumping (a_jump_behind at fits div) h tells) few row num = jump_last (assigned_all E f q G N W A muts k R (after (after p)) num.1.1 outs m fits h.1 tells row few num.1.2)

  with_break : {i l : ℕ} {n m : Node} {qs : List ℕ} {ss : Statements} → RoundIs G l i → ((d : ℕ) → N.loop l d ≡ true → loop_of J.loops l ≡ Some d) → Distinct (k.outs (breaks l)) → AllSpecial R (k.outs (breaks l)) → JumpSo (to_break i) (k.outs (breaks l)) qs ss
      → Does (breaks l) qs (named.block n (named.body m ss named.absent))
  with_break r leads dis all (jump_so w back ends) = let z = break_is w r leads in does_break z.1 dis all (in_block z.2 back ends)

  with_continue : {i l : ℕ} {n m : Node} {qs : List ℕ} {ss : Statements} → RoundIs G l i → ((d : ℕ) → N.loop l d ≡ true → loop_of J.loops l ≡ Some d) → Distinct (k.outs (continues l)) → AllSpecial R (k.outs (continues l)) → JumpSo (to_continue i) (k.outs (continues l)) qs ss
      → Does (continues l) qs (named.block n (named.body m ss named.absent))
  with_continue r leads dis all (jump_so w back ends) = let z = continue_is w r leads in does_continue z.1 dis all (in_block z.2 back ends)

  -- ---- a return

  no_joined : {s : Span} {d j : ℕ} {o : Else} → AreJoined s d j o → j ≡ 0 → o ≡ named.absent
  no_joined nothing_joined i = refl
  no_joined (one_joined m) i = absurd (omega (arith, i))
  no_joined (more_joined a ms) i = absurd (omega (arith, i))

  unit_return : {n : Node} {o : Else} → unit ≡ true → J.returning ≡ as_return → o ≡ named.absent → Does returns [] (named.return n o)
  unit_return {n = n} u r e = subst (λ (o : Else). Does returns [] (named.return n o)) (sym e) (does_return u r no_tail)

  value_return : {s : Span} {d : ℕ} {n : Node} {o : Else} {z : Site} {u t : Typ} → unit ≡ false → J.returning ≡ as_return → AreJoined s d 1 o → ArmCase z u t (named.return n o) → Few d 1 → RowHas W d (shape_at q G.call.plan.result ∷ []) → Does returns (d ∷ []) (named.return n o)
  value_return e r (one_joined m) (valued fits h tells ex at w) few row = elim fits [ ]
  value_return {d = d} e r (one_joined m) (jumping (a_return_with {r = w} own fits at coerces) h tells) few row =
      let x = made_variable W E m fits h.1 tells (few_first d 0 few) in
      let y = one_some w _ (sym own ∙ items.own) in
      returns_value e r (made_names W E Site.Expects w x at (h.0, y ∙ (sym row.0 ∙ made_type W E x)))

  return_arm : {s : Span} {d j : ℕ} {n : Node} {o : Else} {z : Site} {u t : Typ} (hs : List Value) → J.returning ≡ as_return → AreJoined s d j o → hs ≡ unless_unit G.call.plan.result → j ≡ length hs → ArmCase z u t (named.return n o) → Few d j → RowHas W d (types_there q hs)
      → Does returns (from d j) (named.return n o)
  return_arm {s = s} {d = d} {j = j} {n = n} {o = o} {z = z} {u = u} {t = t} hs r m e l c few row = by unit refl
    where
      by : (b : Bool) → unit ≡ b → Does returns (from d j) (named.return n o)
      by true i =
          let none : j ≡ 0 = l ∙ ap length (e ∙ ap (λ (b : Bool). if b then [] else (result_of G.call.plan.result ∷ [])) i) in
          subst (λ (j : ℕ). Does returns (from d j) (named.return n o)) (sym none) (unit_return i r (no_joined m none))
      by false i =
          let all : hs ≡ result_of G.call.plan.result ∷ [] = e ∙ ap (λ (b : Bool). if b then [] else (result_of G.call.plan.result ∷ [])) i in
          let one : j ≡ 1 = l ∙ ap length all in
          subst (λ (j : ℕ). Does returns (from d j) (named.return n o)) (sym one) (value_return i r (subst (λ (j : ℕ). AreJoined s d j o) one m) c (subst (Few d) one few) (subst (λ (hs : List Value). RowHas W d (types_there q hs)) all row))

  -- ---- an arm of an exit, which hands out these values

  abbrev InOrder : Exp → Type 0
  InOrder e = (p : Spot) × (y : Site) × (s : Spot) × NumberedExp p y e s

  -- a jump alone hands out nothing
  alone_break : (d : ℕ) {i l : ℕ} {vs : List Variable} {e : Exp} → IsJump G N (to_break i) e → names_of vs ≡ [] → RoundIs G l i → ((d : ℕ) → N.loop l d ≡ true → loop_of J.loops l ≡ Some d) → Distinct (k.outs (breaks l)) → AllSpecial R (k.outs (breaks l)) → Outs vs (k.outs (breaks l))
      → Does (breaks l) (from d (length vs)) e
  alone_break d {l = l} {vs = vs} {e = e} m none r leads dis all outs =
      let z = break_is m r leads in let x = no_rows_left outs none in
      subst (λ (vs : List Variable). Does (breaks l) (from d (length vs)) e) (sym x.0) (does_break z.1 dis all (subst (λ (xs : List ℕ). JumpsOut T A muts k R z.0 false xs [] e) (sym x.1) (at_once z.2)))

  alone_continue : (d : ℕ) {i l : ℕ} {vs : List Variable} {e : Exp} → IsJump G N (to_continue i) e → names_of vs ≡ [] → RoundIs G l i → ((d : ℕ) → N.loop l d ≡ true → loop_of J.loops l ≡ Some d) → Distinct (k.outs (continues l)) → AllSpecial R (k.outs (continues l)) → Outs vs (k.outs (continues l))
      → Does (continues l) (from d (length vs)) e
  alone_continue d {l = l} {vs = vs} {e = e} m none r leads dis all outs =
      let z = continue_is m r leads in let x = no_rows_left outs none in
      subst (λ (vs : List Variable). Does (continues l) (from d (length vs)) e) (sym x.0) (does_continue z.1 dis all (subst (λ (xs : List ℕ). JumpsOut T A muts k R z.0 true xs [] e) (sym x.1) (at_once z.2)))

  break_arm : {d j i l : ℕ} (vs : List Variable) {names : Names} {e : Exp} {z : Site} {u t : Typ} → IsArm G N d j (to_break i) names e → names ≡ names_of vs → RoundIs G l i → ((d : ℕ) → N.loop l d ≡ true → loop_of J.loops l ≡ Some d) → Distinct (k.outs (breaks l))
      → AllSpecial R (k.outs (breaks l)) → Outs vs (k.outs (breaks l)) → ArmCase z u t e → Few d (length vs) → RowHas W d (types_there q (variables_held vs)) → InOrder e → Does (breaks l) (from d (length vs)) e
  break_arm {d = d} vs (jump_alone m) e r leads dis all outs c few row num = alone_break d m (sym e) r leads dis all outs
  break_arm [] (jump_with a b m) e r leads dis all outs c few row num = absurd (cc)
  break_arm {d = d} {i = i} (v ∷ vs) (jump_with {ss = ss} a b m) e r leads dis all outs c few row num =
      with_break r leads dis all (jump_behind num.0 num.1 num.2 outs (subst (λ (ns : Names). AreAssigned G.call N (OneDone G.call.place (IsJump G N (to_break i))) d ns ss) e m) c few row num.3)

  continue_arm : {d j i l : ℕ} (vs : List Variable) {names : Names} {e : Exp} {z : Site} {u t : Typ} → IsArm G N d j (to_continue i) names e → names ≡ names_of vs → RoundIs G l i → ((d : ℕ) → N.loop l d ≡ true → loop_of J.loops l ≡ Some d) → Distinct (k.outs (continues l))
      → AllSpecial R (k.outs (continues l)) → Outs vs (k.outs (continues l)) → ArmCase z u t e → Few d (length vs) → RowHas W d (types_there q (variables_held vs)) → InOrder e → Does (continues l) (from d (length vs)) e
  continue_arm {d = d} vs (jump_alone m) e r leads dis all outs c few row num = alone_continue d m (sym e) r leads dis all outs
  continue_arm [] (jump_with a b m) e r leads dis all outs c few row num = absurd (cc)
  continue_arm {d = d} {i = i} (v ∷ vs) (jump_with {ss = ss} a b m) e r leads dis all outs c few row num =
      with_continue r leads dis all (jump_behind num.0 num.1 num.2 outs (subst (λ (ns : Names). AreAssigned G.call N (OneDone G.call.place (IsJump G N (to_continue i))) d ns ss) e m) c few row num.3)

  arm_does : {d j : ℕ} {w : hoist.Exit} {vs : List Variable} {x : Exit} {names : Names} {e : Exp} {z : Site} {u t : Typ} (hs : List Value) → is_there G.call.plan.value ≡ has → ExitIs G N q W A muts k R J w vs x → IsArm G N d j w names e → names ≡ names_of vs → hs ≡ values_at G.call.plan w vs → j ≡ length hs
      → (w ≡ to_next → hs ≡ next_there) → ArmCase z u t e → WantsIt z u Given → Few d j → RowHas W d (types_there q hs) → InOrder e → Does x (from d j) e
  arm_does {vs = vs} hs v (is_next l) m n e i same c w few row num = next_arm hs m i (same refl) (ap length e ∙ next_length G.call.plan has vs (k.outs next) v l) c w few row
  arm_does {d = d} {j = j} {vs = vs} {e = b} hs v (is_break {l = l} r leads dis all outs) m n e i same c w few row num =
      let many : j ≡ length vs = i ∙ (ap length e ∙ held_length vs) in
      subst (λ (j : ℕ). Does (breaks l) (from d j) b) (sym many) (break_arm vs m n r leads dis all outs c (subst (Few d) many few) (subst (λ (hs : List Value). RowHas W d (types_there q hs)) e row) num)
  arm_does {d = d} {j = j} {vs = vs} {e = b} hs v (is_continue {l = l} r leads dis all outs) m n e i same c w few row num =
      let many : j ≡ length vs = i ∙ (ap length e ∙ held_length vs) in
      subst (λ (j : ℕ). Does (continues l) (from d j) b) (sym many) (continue_arm vs m n r leads dis all outs c (subst (Few d) many few) (subst (λ (hs : List Value). RowHas W d (types_there q hs)) e row) num)
  arm_does hs v (is_return r) (returns_so a m) n e i same c w few row num = return_arm hs r m e i c few row
  arm_does hs v (is_return r) (jump_alone m) n e i same c w few row num = absurd (no_return m)
  arm_does hs v (is_return r) (jump_with a b m) n e i same c w few row num = absurd (no_return (jump_there m).1)

  -- ---- all arms

  -- a pattern's variables, and what they hold
  pub record Bound (d : ℕ) (vs : List Value) (p r : Spot) : Type 0 where
    pub new : AreNew R (from d (length vs))
    pub row : RowHas W d (types_there q vs)
    pub few : Few d (length vs)
    pub below : (y : ℕ) → In y (from d (length vs)) → y < r.declared

  pub bound_so : {s : Span} {d : ℕ} {ms : List Bool} {ps : Patterns} {a : Entries} {all : List Typ} (vs : List Value) (p r : Spot) → AreBound s d ms ps → PartsBind E all 0 ps a → Has W a → length ms ≡ length vs → all ≡ types_there q vs → NumberedPatterns p ps r
      → ((y : ℕ) → p.declared ≤ y → IsNew R y) → ((y : ℕ) → y < r.declared → number y ≡ y) → Bound d vs p r
  bound_so {s = s} {d = d} {ms = ms} {ps = ps} {all = all} vs p r b parts h many e num fresh few = record {
    new = subst (λ (j : ℕ). AreNew R (from d j)) many (new_at ms b);
    row = bound_types W E (types_there q vs) b parts h (many ∙ sym (as_many_types q vs)) (λ j. ap (λ (ts : List Typ). slice_get ts (j + 0)) e ∙ ap (slice_get (types_there q vs)) (no_more j));
    few = subst (Few d) many (few_at ms b);
    below = λ y i. (let n = in_from d (length vs) y i in below_at ms b y n.0 (let m = n.1 in omega (arith, m, many)));
  }
    where
      no_more : (j : ℕ) → j + 0 ≡ j
      no_more j = omega arith

      new_at : (ms : List Bool) → AreBound s d ms ps → AreNew R (from d (length ms))
      new_at [] b = tt
      new_at (m ∷ ms) b = let i = bound_first p r b num in new_from R d (suc (length ms)) (λ y l. fresh y (omega (arith, i, l)))

      few_at : (ms : List Bool) → AreBound s d ms ps → Few d (length ms)
      few_at [] b i w = absurd (omega (arith, w))
      few_at (m ∷ ms) b i w = let a = bound_first p r b num in let c = bound_behind p r b num in few (d + i) (omega (arith, a, c, w))

      below_at : (ms : List Bool) → AreBound s d ms ps → (y : ℕ) → d ≤ y → y < d + length ms → y < r.declared
      below_at [] b y l m = absurd (omega (arith, l, m))
      below_at (x ∷ ms) b y l m = let a = bound_first p r b num in let c = bound_behind p r b num in omega (arith, a, c, m)

  abbrev Arms : ℕ → List Exit → NamedArms → Type 0
  Arms v xs l = ArmsFor T A muts k R unit has J v xs l

  -- of each exit: the parts of its variant; what Next hands out
  abbrev pub PartsAre : Leaving → Type 0
  PartsAre x = (variant_parts E.items G.enum (G.variant x.exit) ≡ types_there q (values_of G.call.plan x)) × (x.exit ≡ to_next → values_of G.call.plan x ≡ next_there)

  one_arm : (y : Leaving) {v w d : ℕ} {p : Node} {ps : Patterns} {e : Exp} {l : NamedArms} {x : Exit} {xs : List Exit} {z : Site} {u t : Typ} → is_there G.call.plan.value ≡ has → w ≡ v → W (type_of p) ≡ item G.enum → ((y : Exit) (ys : List Exit) → xs ≡ y ∷ ys → has_several E.items G.enum ≡ true)
      → AreBound G.call.place d (not_mutable (length (values_of G.call.plan y))) ps → (a r : Spot) → Bound d (values_of G.call.plan y) a r → ExitIs G N q W A muts k R J y.exit y.outs x → IsArm G N d (length (values_of G.call.plan y)) y.exit (names_of y.outs) e → PartsAre y
      → ArmCase z u t e → WantsIt z u Given → InOrder e → Arms (suc v) xs l → Arms v (x ∷ xs) (named.arm_and (named.variant_pattern p G.enum w ps) e l)
  one_arm y {v = v} {d = d} {p = p} {ps = ps} {e = e} {l = l} {x = x} {xs = xs} value i typ several bs a r b exit m parts c w num rest =
      subst (λ (v2 : ℕ). Arms v (x ∷ xs) (named.arm_and (named.variant_pattern p G.enum v2 ps) e l)) (sym i)
      (an_arm (from d (length (values_of G.call.plan y))) typ several (subst (λ (j : ℕ). BindsAll (from d j) ps) (not_mutable_many (length (values_of G.call.plan y))) (binds_all bs)) b.new
      (arm_does (values_of G.call.plan y) value exit m refl refl refl parts.1 c w b.few b.row num) rest)

  pub arms_for : {v i : ℕ} {ls : List Leaving} {xs : List Exit} {l : NamedArms} {z : Site} {u t : Typ} {B : Context} {a : Entries} → is_there G.call.plan.value ≡ has → ExitsAre G N q W A muts k R E J v ls xs → AreArms G N ls l → ArmsFit E f B z i u t l a → Has W a → Tells W B → Every PartsAre ls
      → WantsIt z u Given → (p : Spot) (y : Site) (s : Spot) → ((n : ℕ) → p.declared ≤ n → IsNew R n) → ((n : ℕ) → n < s.declared → number n ≡ n) → NumberedArms p y l s → Arms v xs l
  arms_for value no_exits no_arms fits h tells parts w p y s fresh few num = none_for
  arms_for {v = v} {z = z} {u = u} {t = t} value (more_exits i several exit more) (more_arms {x = x} {d = d} {e = e} at bs m rest) (gives_value {a = a} {b = b} {c = c} many bind fit lives site arm rest_fits) h tells parts w p y s fresh few num =
      let h1 = has_first W a _ h.1 in let h2 = has_first W b c h1.1.1 in let up = exp_rises e _ y num.2 num.3 in let up2 = arms_rise _ num.2 y s num.4 in let up0 = bound_behind (after p) num.0 bs num.1.1 in
      one_arm x {z = z} {u = u} {t = t} value i h.0 several bs (after p) num.0 (bound_so (values_of G.call.plan x) (after p) num.0 bs bind h1.0 (not_mutable_many (length (values_of G.call.plan x))) parts.0.0 num.1.1 fresh (λ n l. few n (omega (arith, l, up, up2)))) exit m parts.0
      (valued fit h2.0 (tells_more W _ a tells h1.0) h1.1.0 site arm) w (known_from p.declared num.0.declared num.0, y, num.2, num.3)
      (arms_for {v = suc v} value more rest rest_fits h2.1 tells parts.1 w num.2 y s (λ n l. fresh n (omega (arith, l, up, up0))) few num.4)
  arms_for {v = v} {z = z} {u = u} {t = t} value (more_exits i several exit more) (more_arms {x = x} {d = d} {e = e} at bs m rest) (leaves {a = a} {b = b} {c = c} many bind fit never site rest_fits) h tells parts w p y s fresh few num =
      let h1 = has_first W a _ h.1 in let h2 = has_first W b c h1.1.1 in let up = exp_rises e _ y num.2 num.3 in let up2 = arms_rise _ num.2 y s num.4 in let up0 = bound_behind (after p) num.0 bs num.1.1 in
      one_arm x {z = z} {u = u} {t = t} value i h.0 several bs (after p) num.0 (bound_so (values_of G.call.plan x) (after p) num.0 bs bind h1.0 (not_mutable_many (length (values_of G.call.plan x))) parts.0.0 num.1.1 fresh (λ n l. few n (omega (arith, l, up, up2)))) exit m parts.0
      (jumping fit h2.0 (tells_more W _ a tells h1.0)) w (known_from p.declared num.0.declared num.0, y, num.2, num.3)
      (arms_for {v = suc v} value more rest rest_fits h2.1 tells parts.1 w num.2 y s (λ n l. fresh n (omega (arith, l, up, up0))) few num.4)

  -- ---- the type of the match, where one arm gives what the end of the run does

  own_type : (s : Site) (u t v : Typ) → (s ≡ Site.Expects → ⊥) → ArmFits s u t v → v ≡ t
  own_type Site.Value u t v unasked a = a
  own_type Site.Place u t v unasked a = a
  own_type Site.Scrutinee u t v unasked a = a
  own_type Site.Initialises u t v unasked a = a
  own_type Site.Reborrows u t v unasked a = a.0
  own_type Site.Expects u t v unasked a = absurd (unasked refl)

  next_type : {d j : ℕ} {x : hoist.Exit} {xs : Names} {e : Exp} {z : Site} {u t : Typ} (hs : List Value) → IsArm G N d j x xs e → x ≡ to_next → j ≡ length hs → hs ≡ next_there → (passed_on z ≡ Site.Expects → ⊥) → ArmCase z u t e → Few d j → RowHas W d (types_there q hs) → t ≡ Given
  next_type {z = z} {u = u} {t = t} hs (next_alone a b) x i n unasked (valued {v = v} fits h tells ex at w) few row = sym (own_type (passed_on z) u t v unasked w) ∙ (unit_type fits ∙ ap (λ (hs : List Value). shape_at q (handed_type hs)) (sym (none_left hs i) ∙ n))
    where
      unit_type : {B : Context} {n m : Node} {u v : Typ} {b : Entries} → ValueFits E f B (named.block n (named.body m named.no_statement named.absent)) u v b → v ≡ unit_shape
      unit_type (the_unit i) = refl

      none_left : (hs : List Value) → zero ≡ length hs → hs ≡ []
      none_left [] e = refl
      none_left (h ∷ hs) e = absurd (omega (arith, e))
  next_type hs (next_alone a b) x i n unasked (jumping (a_jump_behind at fits div) h tells) few row = absurd (cc)
  next_type {d = d} {z = z} {u = u} {t = t} hs (next_with {k = j} {e = e} m) x i n unasked (valued {v = v} fits h tells ex at w) few row =
      sym (own_type (passed_on z) u t v unasked w) ∙ (joined_type hs (subst (λ (j : ℕ). AreJoined G.call.place d j (named.present e)) i m) fits h tells (subst (Few d) i few) row ∙ ap (λ (hs : List Value). shape_at q (handed_type hs)) n)
  next_type hs (next_with (one_joined (is_made a b))) x i n unasked (jumping fits h tells) few row = elim fits [ ]
  next_type hs (next_with (more_joined a b)) x i n unasked (jumping fits h tells) few row = elim fits [ ]
  next_type {e = e} hs (jump_alone m) x i n unasked c few row = absurd (no_next (subst (λ (x : hoist.Exit). IsJump G N x e) x m))
  next_type hs (jump_with a b m) x i n unasked c few row = let y = jump_there m in absurd (no_next (subst (λ (x : hoist.Exit). IsJump G N x y.0) x y.1))
  next_type hs (returns_so a m) x i n unasked c few row = absurd (cc)

  pub arms_type : {i : ℕ} {ls : List Leaving} {l : NamedArms} {z : Site} {u t : Typ} {B : Context} {a : Entries} → AreArms G N ls l → ArmsFit E f B z i u t l a → Has W a → Tells W B → Every PartsAre ls → has_exit to_next ls ≡ true → (passed_on z ≡ Site.Expects → ⊥)
      → (p : Spot) (y : Site) (s : Spot) → ((n : ℕ) → p.declared ≤ n → IsNew R n) → ((n : ℕ) → n < s.declared → number n ≡ n) → NumberedArms p y l s → t ≡ Given
  arms_type no_arms fits h tells parts e unasked p y s fresh few num = absurd (cc)
  arms_type {z = z} {u = u} {t = t} (more_arms {x = x} {xs = xs} {d = d} {e = e} at bs m rest) (gives_value {a = a} {b = b} {c = c} many bind fit lives site arm rest_fits) h tells parts there unasked p y s fresh few num =
      let h1 = has_first W a _ h.1 in let h2 = has_first W b c h1.1.1 in let up = exp_rises e _ y num.2 num.3 in let up2 = arms_rise _ num.2 y s num.4 in let up0 = bound_behind (after p) num.0 bs num.1.1 in
      let bound = bound_so (values_of G.call.plan x) (after p) num.0 bs bind h1.0 (not_mutable_many (length (values_of G.call.plan x))) parts.0.0 num.1.1 fresh (λ n l. few n (omega (arith, l, up, up2))) in
      by_exit x.exit xs there
      (λ i. next_type {z = z} {u = u} {t = t} (values_of G.call.plan x) m i refl (parts.0.1 i) unasked (valued fit h2.0 (tells_more W _ a tells h1.0) h1.1.0 site arm) bound.few bound.row)
      (λ i. arms_type rest rest_fits h2.1 tells parts.1 i unasked num.2 y s (λ n l. fresh n (omega (arith, l, up, up0))) few num.4)
  arms_type {z = z} {u = u} {t = t} (more_arms {x = x} {xs = xs} {d = d} {e = e} at bs m rest) (leaves {a = a} {b = b} {c = c} many bind fit never site rest_fits) h tells parts there unasked p y s fresh few num =
      let h1 = has_first W a _ h.1 in let h2 = has_first W b c h1.1.1 in let up = exp_rises e _ y num.2 num.3 in let up2 = arms_rise _ num.2 y s num.4 in let up0 = bound_behind (after p) num.0 bs num.1.1 in
      let bound = bound_so (values_of G.call.plan x) (after p) num.0 bs bind h1.0 (not_mutable_many (length (values_of G.call.plan x))) parts.0.0 num.1.1 fresh (λ n l. few n (omega (arith, l, up, up2))) in
      by_exit x.exit xs there
      (λ i. next_type {z = z} {u = u} {t = t} (values_of G.call.plan x) m i refl (parts.0.1 i) unasked (jumping fit h2.0 (tells_more W _ a tells h1.0)) bound.few bound.row)
      (λ i. arms_type rest rest_fits h2.1 tells parts.1 i unasked num.2 y s (λ n l. fresh n (omega (arith, l, up, up0))) few num.4)
