-- Of the functions of an extraction two are to be typed: each other has a valid assignment, so a first one without stands there.
use Rattle.std.specs.Prelude.{nat_eq}
use Rattle.std.proofs.lemmas.Bool.{le-leb}
use Rattle.std.proofs.Common.{◌≡◌, ℕ, suc, ◌+◌, ◌<◌, Bool, true, false, if◌then◌else◌, List, [], ◌∷◌, Some, Ok, slice_get, inl, inr, ◌⊎◌, refl, sym, ap, ◌∙◌, subst, arith, eqb-true, eq-eqb}
use Rattle.rx_core.specs.declared.types.Span.{Span}
use Rattle.rx_tree.specs.Lists.{nth}
use Rattle.rx_tree.specs.Plain as plain
use Rattle.rx_tree.specs.Plain.{Function, ItemTree, ProgramTree}
use Rattle.rx_resolve_names.specs.declared.resolved.ItemNames.{ItemNames}
use Rattle.rx_resolve_names.specs.declared.resolved.NodeNames.{NodeNames}
use Rattle.rx_resolve_names.specs.Items.{in_program}
use Rattle.rx_typed.specs.Naming.{function_named}
use Rattle.rx_typed.specs.PlainTypes.{declarations}
use Rattle.rx_typed.specs.declared.declarations.Decl.{Decl}
use Rattle.rx_typed_declarations.specs.Sizes.{IsSizes}
use Rattle.rx_typeck_solver.specs.Facts.{KnownItems}
use Rattle.rx_typeck_solver.specs.Ordered.{Orderly}
use Rattle.rx_typeck_solver.specs.Stepping.{known}
use Rattle.rx_typeck_typed.specs.Demands.{task}
use Rattle.rx_typeck_typed.specs.declared.typed.Typed.{Typed}
use Rattle.rx_typeck_typed.specs.declared.fault.DeclareFault.{DeclareFault}
use Rattle.rx_typeck_typed.specs.declared.typed.TypeFault.{TypeFault}
use Rattle.rx_typeck_typed.specs.Programs.{Declares, Wrong}
use Rattle.rx_typeck_typed.specs.Typing.{entries, variables_at, FunctionUntyped, FirstUntyped, IsTyped, Causes, in_declaration, in_function}
use Rattle.rx_hoist_extraction.specs.Run.{Run}
use Rattle.rx_hoist_extraction.specs.Plan.{Bounds, Plan, has_enum}
use Rattle.rx_hoist_extraction.specs.Pinned.{pinned_function}
use Rattle.rx_hoist_extraction.specs.Extraction.{added, extraction, made_enum, made_function, new_number, with_call}
use Rattle.rx_hoist_extraction.proofs.NewItemsAt.{old_changed}
use Rattle.rx_engine_names.specs.NewNames.{AreFree}
use Rattle.rx_engine_names.specs.NewPlan.{TypesNamed}
use Rattle.rx_engine_names.specs.Insertion.{past, number_there}
use Rattle.rx_engine_names.proofs.ExtractionItems.{extraction_inserted}
use Rattle.rx_engine_blocks.specs.Knows.{Knows}
use Rattle.rx_engine_declared.proofs.Extractions.{got}
use Rattle.rx_engine_validated.specs.Kept.{kept}
use Rattle.rx_engine_kept.proofs.Places.{Origin, of_old, of_new, origin}
use Rattle.rx_engine_kept.proofs.AllDeclared.{one_item, new_there}
use Rattle.rx_engine_fitting.proofs.Declared.{item_same, typed_stays}

-- a function of these has no valid assignment; the first item has number i
abbrev UntypedAmong : KnownItems → List ItemNames → ℕ → ProgramTree → TypeFault → Type 0
UntypedAmong K ns i is e = (j : ℕ) × (s : Span) × (f : Function) × (slice_get is j ≡ Some (plain.function_item s f)) × FunctionUntyped K (function_named (i + j) s f (entries (slice_get ns (i + j)))) (variables_at (slice_get ns (i + j))) e

one_further : (K : KnownItems) (ns : List ItemNames) (i : ℕ) (x : ItemTree) (is : ProgramTree) (e : TypeFault) → UntypedAmong K ns (suc i) is e → UntypedAmong K ns i (x ∷ is) e
one_further K ns i x is e h =
    let on : suc i + h.0 ≡ i + suc h.0 = omega arith in
    (suc h.0, h.1, h.2, h.3, subst (λ (k : ℕ). FunctionUntyped K (function_named k h.1 h.2 (entries (slice_get ns k))) (variables_at (slice_get ns k)) e) on h.4)

first_untyped : (K : KnownItems) (ns : List ItemNames) (i : ℕ) (is : ProgramTree) (e : TypeFault) → FirstUntyped K ns i is e → UntypedAmong K ns i is e
first_untyped K ns i [] e h = absurd h
first_untyped K ns i (plain.function_item s f ∷ is) e (inl h) =
    let here : i ≡ i + 0 = omega arith in
    (0, s, f, refl, subst (λ (k : ℕ). FunctionUntyped K (function_named k s f (entries (slice_get ns k))) (variables_at (slice_get ns k)) e) here h)
first_untyped K ns i (plain.function_item s f ∷ is) e (inr h) = one_further K ns i (plain.function_item s f) is e (first_untyped K ns (suc i) is e h.1)
first_untyped K ns i (plain.rt_item s r ∷ is) e h = one_further K ns i (plain.rt_item s r) is e (first_untyped K ns (suc i) is e h)
first_untyped K ns i (plain.struct_item s d ∷ is) e h = one_further K ns i (plain.struct_item s d) is e (first_untyped K ns (suc i) is e h)
first_untyped K ns i (plain.enum_item s d ∷ is) e h = one_further K ns i (plain.enum_item s d) is e (first_untyped K ns (suc i) is e h)

-- a cause is wrong declarations or a function
pub by_cause : {X : Type 0} (p : ProgramTree) (ns : List ItemNames) (e : TypeFault) → ((d : DeclareFault) → Wrong p ns d → ⊥)
    → ((ds : List Decl) → Declares p ns ds → (sizes : List ℕ) → IsSizes (declarations ds) sizes → FirstUntyped (known ds sizes) ns 0 p e → X) → Causes p ns e → X
by_cause p ns e right there (in_declaration d w q) = absurd (right d w)
by_cause p ns e right there (in_function ds x sizes y z) = there ds x sizes y z

pub number_here : (k many : ℕ) → past k many k ≡ k
number_here k many = ap (λ (b : Bool). if b then k else k + many) (le-leb k k (omega arith))

module _ (orderly : (i : ℕ) (s : Span) (f : Function) (ns : List NodeNames) → Orderly (task (function_named i s f ns))) (P : ProgramTree) (r : Run) (pl : Plan) (bs : Bounds) (place : Span) (g : Function)
    (there : nth P r.item ≡ Some (plain.function_item place g)) (free : AreFree P pl) (N : TypesNamed P pl) (ns ms : List ItemNames) (n : in_program P ≡ Ok ns) (m : in_program (extraction P r pl bs) ≡ Ok ms) (t : Typed) (a : IsTyped P ns t)
    (E : KnownItems) (k : Knows (kept (number_there (extraction_inserted P r pl bs place g there free))) (known a.declared a.sizes) E) (e : TypeFault) where
  abbrev Q : ProgramTree
  Q = extraction P r pl bs

  abbrev h : Function
  h = pinned_function P r.span pl.pins g

  -- an item that is a function without a valid assignment
  abbrev Untyped : ℕ → ItemTree → Type 0
  Untyped j (plain.function_item s f) = FunctionUntyped E (function_named j s f (entries (slice_get ms j))) (variables_at (slice_get ms j)) e
  Untyped j _ = ⊥

  abbrev InTwo : Type 0
  InTwo = Untyped r.item (plain.function_item place (with_call P r pl h)) ⊎ Untyped (new_number r pl) (made_function P r pl bs h)

  -- what stands there is this
  is_item : (j : ℕ) (i it : ItemTree) → slice_get Q j ≡ Some i → slice_get Q j ≡ Some it → Untyped j i → Untyped j it
  is_item j i it x y u = subst (λ (z : ItemTree). Untyped j z) (one_item i it (sym x ∙ y)) u

  old_untyped : (i : ℕ) (s : Span) (f : Function) → slice_get Q (past r.item (added pl) i) ≡ Some (plain.function_item s f) → Untyped (past r.item (added pl) i) (plain.function_item s f) → (b : Bool) → nat_eq i r.item ≡ b → InTwo
  old_untyped i s f at u true q =
      let here : past r.item (added pl) i ≡ r.item = ap (past r.item (added pl)) (eqb-true i r.item q) ∙ number_here r.item (added pl) in
      let run = plain.function_item place (with_call P r pl h) in
      inl (subst (λ (b : ℕ). Untyped b run) here (is_item (past r.item (added pl) i) (plain.function_item s f) run at (ap (slice_get Q) here ∙ got Q r.item ∙ old_changed P r pl bs place g there) u))
  old_untyped i s f at u false q =
      let other : i ≡ r.item → ⊥ = λ same. absurd (let bad = sym q ∙ eq-eqb i r.item same in cc) in
      let v = typed_stays orderly P r pl bs place g there free ns ms n m t a E k i s f (sym (item_same orderly P r pl bs place g there free ns ms n m t a E k i other) ∙ at) other in
      absurd (u.none v.1 v.2)

  new_untyped : (i : ℕ) → i < added pl → (s : Span) (f : Function) → slice_get Q (suc (r.item + i)) ≡ Some (plain.function_item s f) → Untyped (suc (r.item + i)) (plain.function_item s f) → InTwo
  new_untyped i l s f at u = by (new_there P r pl bs place g there free N ns ms n m a.declared a.declares.items i l)
    where
      by : ((has_enum pl.exits ≡ true) × (slice_get Q (suc (r.item + i)) ≡ Some (made_enum P r pl)) × (suc (r.item + i) ≡ suc r.item)) ⊎ ((slice_get Q (suc (r.item + i)) ≡ Some (made_function P r pl bs h)) × (suc (r.item + i) ≡ new_number r pl)) → InTwo
      by (inl x) = absurd (is_item (suc (r.item + i)) (plain.function_item s f) (made_enum P r pl) at x.1 u)
      by (inr x) = inr (subst (λ (b : ℕ). Untyped b (made_function P r pl bs h)) x.1 (is_item (suc (r.item + i)) (plain.function_item s f) (made_function P r pl bs h) at x.0 u))

  by_origin : (j : ℕ) → Origin r.item (added pl) j → (s : Span) (f : Function) → slice_get Q j ≡ Some (plain.function_item s f) → Untyped j (plain.function_item s f) → InTwo
  by_origin j (of_old i) s f at u = old_untyped i s f at u (nat_eq i r.item) refl
  by_origin j (of_new i l) s f at u = new_untyped i l s f at u

  pub untyped_in_two : FirstUntyped E ms 0 Q e → InTwo
  untyped_in_two x =
      let y = first_untyped E ms 0 Q e x in
      let here : 0 + y.0 ≡ y.0 = omega arith in
      by_origin y.0 (origin r.item (added pl) y.0) y.1 y.2 y.3 (subst (λ (b : ℕ). Untyped b (plain.function_item y.1 y.2)) here y.4)
