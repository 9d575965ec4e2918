-- The end of the new function, whatever its shape: by cases on the run's value, on its tail or last statement, and on what follows.
use Rattle.std.proofs.Common.{◌≡◌, ℕ, ◌+◌, ◌≤◌, ◌^◌, arith, Bool, true, false, if◌then◌else◌, List, [], ◌∷◌, ◌++◌, length, map, Option, Some, None, Ok, refl, sym, ap, ◌∙◌, subst, append-nil, bytes_eq, codes}
use Rattle.rx_core.specs.declared.types.Span.{Span}
use Rattle.rx_tree.specs.Lists.{Every}
use Rattle.rx_tree.specs.Plain as plain
use Rattle.rx_tree.specs.Plain.{Expression, OptionalExpression, Statement, ProgramTree}
use Rattle.rx_resolve_names.specs.Scopes.{Variables, variable_named}
use Rattle.rx_resolve_names.specs.declared.resolved.ItemNames.{ItemNames}
use Rattle.rx_resolve_names.specs.declared.resolved.NodeNames.{NodeNames}
use Rattle.rx_resolve_names.specs.Steps.{Inside, child}
use Rattle.rx_resolve_names.specs.Names.{variant_in, in_expression, in_optional, in_statement, in_statements, Scoped}
use Rattle.rx_typed.specs.Types.{Typ}
use Rattle.rx_typed.specs.Named as named
use Rattle.rx_hoist_extraction.specs.Names.{Names, is_among, behind_all}
use Rattle.rx_hoist_extraction.specs.Run.{Parts, as_statements}
use Rattle.rx_hoist_extraction.specs.Plan.{Variable, to_next, has_exit, has_enum, outs_of, names_of, enum_name, exit_name}
use Rattle.rx_hoist_extraction.specs.Fresh.{fresh_variable}
use Rattle.rx_hoist_extraction.specs.Made.{ident, as_expressions, variant, let_typed, joined as made_joined}
use Rattle.rx_hoist_extraction.specs.WrittenTypes.{elided}
use Rattle.rx_hoist_extraction.specs.NewBody.{stays_last, last_of, next_outs, handing_on, followed, unfollowed, in_tuple, without_value, ended}
use Rattle.rx_hoist_extraction.specs.Changed.{Changes, changed, changed_optional}
use Rattle.rx_hoist_extraction.specs.Moved.{moving}
use Rattle.rx_hoist_extraction.proofs.FreshNames.{fresh_is_free}
use Rattle.rx_engine_names.specs.Renaming.{Has, Made}
use Rattle.rx_engine_names.specs.Within.{Within, OptionalWithin, StatementsWithin}
use Rattle.rx_engine_names.specs.Moves.{Moves, asked, ExitsNamed, rounds, Paired, StartsAlike}
use Rattle.rx_engine_names.specs.NewBody.{IsDone, nothing_done, goes_on}
use Rattle.rx_engine_names.specs.NewPlan.{HandedAtEnd}
use Rattle.rx_engine_names.proofs.SideBySide.{named_ok, the_same, grows_not}
use Rattle.rx_engine_names.proofs.Fitting.{FitItems}
use Rattle.rx_engine_names.proofs.FoundTypes.{Finds}
use Rattle.rx_engine_names.proofs.NewScopes.{is_name}
use Rattle.rx_engine_names.proofs.ReplacedBlocks.{past_all, split}
use Rattle.rx_engine_names.proofs.MadeRows.{Later, row_of_none}
use Rattle.rx_engine_names.proofs.MadeCalls.{ExpAlone}
use Rattle.rx_engine_names.proofs.MovedRows.{TailLike, MovedRow, changed_list, changed_in_a_row, within_in_a_row, moved_row}
use Rattle.rx_engine_names.proofs.LastStatements.{LastView, none_last, one_last, last_view, last_becomes, last_is_kept}
use Rattle.rx_engine_names.proofs.NewEnds.{EndMade, no_value, stays_alone, outs_end, outs_end_done, last_end_done, last_end_tail, value_end_alone, tail_end_alone, value_end_next, value_end_bound}

-- a fresh name is another than those that are taken
other_than_fresh : (taken : Names) (out0 : List ℕ) → is_among out0 taken ≡ false → (y : List ℕ) → is_among y taken ≡ true → (b : Bool) → bytes_eq y out0 ≡ b → b ≡ false
other_than_fresh taken out0 free y e true g = sym e ∙ subst (λ (z : List ℕ). is_among z taken ≡ false) (sym (is_name y out0 g)) free
other_than_fresh taken out0 free y e false g = refl

module _ (items : ℕ → ℕ) (P : ProgramTree) (V : Moves) (I I' : Inside) (start : Variables) (F : FitItems items I I') (E : ExitsNamed V I') (M : Made) (h : StartsAlike V M start)
    (at : List ℕ) (i : ℕ) (t : ItemNames) (xs : List Statement) (r : Scoped) (comes : in_statements I V.scope V.loops at i (as_statements xs) t ≡ Ok r) (within : StatementsWithin (asked V I I' start) [] (rounds V) (as_statements xs))
    (at3 : List ℕ) (t' : ItemNames) (found : (tp : Typ) → V.plan.value ≡ Some tp → Finds I P tp) (reached : (tp : Typ) → V.plan.value ≡ Some tp → has_exit to_next V.plan.exits ≡ true)
    (next : has_enum V.plan.exits ≡ true → has_exit to_next V.plan.exits ≡ true → variant_in I' (ident V.place (enum_name V.plan)) (ident V.place (exit_name to_next)) ≡ Ok (V.enum ∷ V.variant to_next ∷ []))
    (handed : Every (HandedAtEnd V (behind_all [] (as_statements xs))) (names_of (outs_of to_next V.plan.exits))) (few : length V.plan.identifiers + 1 ≤ 2 ^ 64)
    (at' : List ℕ) (i' : ℕ) (at2 : List ℕ) (u : ItemNames) where
  abbrev C : Changes
  C = moving V.plan V.place

  abbrev own : Names
  own = behind_all [] (as_statements xs)

  abbrev ys : List Statement
  ys = changed_list C [] (rounds V) xs

  abbrev next_names : Names
  next_names = names_of (outs_of to_next V.plan.exits)

  X : MovedRow items V I I' start M at' i' xs t u r
  X = moved_row items V I I' start F E M h at at' i i' xs within t u r comes

  abbrev EndOf : OptionalExpression → ItemNames → Parts → Type 0
  EndOf o tables p = EndMade items V I' start M at' i' at2 u xs o t tables r.scope p

  -- the outs of Next mean variables that correspond
  one_meant : (y : List ℕ) → HandedAtEnd V own y → (n : ℕ) × (m : ℕ) × (variable_named r.scope y ≡ Some n) × (variable_named X.scope y ≡ Some m) × Has X.made.variables n m
  one_meant y k = let z = X.names y k.0 in (z.0, z.1, z.2, z.3, subst (λ (b : Bool). Paired V.behind X.made b z.0 z.1) k.1 z.4)

  outs_meant : (ns : Names) → Every (HandedAtEnd V own) ns → Every (λ (y : List ℕ). (n : ℕ) × (m : ℕ) × (variable_named r.scope y ≡ Some n) × (variable_named X.scope y ≡ Some m) × Has X.made.variables n m) ns
  outs_meant [] k = tt
  outs_meant (y ∷ ns) k = (one_meant y k.0, outs_meant ns k.1)

  -- and are other than the fresh variable
  outs_differ : (ns : Names) → Every (HandedAtEnd V own) ns → Every (λ (y : List ℕ). bytes_eq y (fresh_variable V.plan.identifiers 0) ≡ false) ns
  outs_differ [] k = tt
  outs_differ (y ∷ ns) k =
      (other_than_fresh V.plan.identifiers (fresh_variable V.plan.identifiers 0) (fresh_is_free (codes "out_") V.plan.identifiers 0 (omega (arith, few))) y k.0.2 (bytes_eq y (fresh_variable V.plan.identifiers 0)) refl, outs_differ ns k.1)

  -- ---- the last statement, where nothing is handed out

  last_end : (v : LastView xs) → goes_on V ≡ false → (b : Bool) → stays_last V.plan ≡ b → EndOf plain.absent r.tables (last_of b ys)
  last_end (none_last same) goes b stays = stays_alone items V I I' start M at' i' at2 xs t u r X goes (last_of b ys) (same C [] (rounds V) b)
  last_end (one_last front s e same) goes b stays =
      let st = plain.expression_statement s e false in
      let S = split I V.scope V.loops at i front (st ∷ []) t r (ap (λ (z : List Statement). in_statements I V.scope V.loops at i (as_statements z) t) (sym same) ∙ comes) in
      let w = within_in_a_row (asked V I I' start) [] (rounds V) front (st ∷ []) (subst (λ (z : List Statement). StatementsWithin (asked V I I' start) [] (rounds V) (as_statements z)) same within) in
      let j = past_all i front in
      let A = named_ok (in_statement I S.middle.scope V.loops (child at j) st S.middle.tables) (λ (r : Scoped). Ok (record { scope = r.scope; tables = r.tables })) r S.rest in
      let B = named_ok (in_expression I S.middle.scope V.loops (child (child at j) 0) e S.middle.tables) (λ (t : ItemNames). Ok (record { scope = S.middle.scope; tables = t })) A.0 A.1 in
      let ends : B.0 ≡ r.tables = ap (λ (z : Scoped). z.tables) (the_same (record { scope = S.middle.scope; tables = B.0 }) A.0 B.2) ∙ ap (λ (z : Scoped). z.tables) (the_same A.0 r A.2) in
      let Z = moved_row items V I I' start F E M h at at' i i' front w.0 t u S.middle S.front in
      let own1 = behind_all [] (as_statements front) in
      let D = Z.entries e w.1.0 (child (child at j) 0) B.0 B.1 in
      let e' = changed C own1 (rounds V) e in
      let ys1 = changed_list C [] (rounds V) front in
      let shape = ap (λ (z : List Statement). changed_list C [] (rounds V) z) same ∙ changed_in_a_row C [] (rounds V) front (st ∷ []) in
      subst (λ (z : ItemNames). EndOf plain.absent z (last_of b ys)) ends
      (by b stays front s e same S.middle Z e' B.0 D.0 D.1 (Z.behind e w.1.0 (child (child at j) 0) B.0 B.1 D.0 D.1) shape)
    where
      by : (b : Bool) → stays_last V.plan ≡ b → (front : List Statement) (s : Span) (e : Expression) → xs ≡ front ++ (plain.expression_statement s e false ∷ []) → (m : Scoped) (Z : MovedRow items V I I' start M at' i' front t u m) (e' : Expression) (t1 : ItemNames) (more : List NodeNames) (grown : t1.names ≡ m.tables.names ++ more)
          → ((at3 : List ℕ) (v : ItemNames) → Later items Z.made v (λ w. in_expression I' Z.scope [] at3 e' v ≡ Ok w) (ExpAlone (TailLike V m.tables more e) v e')) → ys ≡ changed_list C [] (rounds V) front ++ (plain.expression_statement s e' false ∷ [])
          → EndOf plain.absent t1 (last_of b ys)
      by true stays front s e same m Z e' t1 more grown Y shape =
          last_end_done items V I I' start M at' i' at2 front t u m Z e e' t1 more grown Y s xs r.scope (last_of true ys) same goes stays (ap (last_of true) shape ∙ last_is_kept (changed_list C [] (rounds V) front) s e')
      by false stays front s e same m Z e' t1 more grown Y shape =
          last_end_tail items V I I' start M at' i' at2 front t u m Z e e' t1 more grown Y s xs r.scope (last_of false ys) same goes stays (ap (last_of false) shape ∙ last_becomes (changed_list C [] (rounds V) front) s e')

  -- ---- without a tail, and with one

  absent_end : (b : Bool) → goes_on V ≡ b → EndOf plain.absent r.tables (if b then followed V.plan V.place (record { statements = ys; tail = plain.absent }) (next_outs V.plan V.place) else unfollowed V.plan (record { statements = ys; tail = plain.absent }))
  absent_end true goes =
      outs_end items V I I' start M at' i' at2 xs t u r X plain.absent r.tables [] (sym (append-nil r.tables.names)) [] (λ R. IsDone V R named.absent)
      (record { made = X.made; grows = grows_not X.made; makes = row_of_none items X.made I' [] at' (past_all i' ys) X.scope X.row.table (λ R. IsDone V R named.absent) (λ R. nothing_done) })
      (λ R sv k c rest y n z f. f) (λ k c. no_value V.plan.value) goes next (outs_meant next_names handed) (followed V.plan V.place (record { statements = ys; tail = plain.absent }) (next_outs V.plan V.place)) refl
  absent_end false goes = last_end (last_view xs) goes (stays_last V.plan) refl

  module _ (e : Expression) (inside : Within (asked V I I' start) own (rounds V) e) (ends : in_expression I r.scope V.loops at3 e r.tables ≡ Ok t') where
    abbrev e' : Expression
    e' = changed C own (rounds V) e

    D : (more : List NodeNames) × (t'.names ≡ r.tables.names ++ more)
    D = X.entries e inside at3 t' ends

    Y : (at4 : List ℕ) (v : ItemNames) → Later items X.made v (λ w. in_expression I' X.scope [] at4 e' v ≡ Ok w) (ExpAlone (TailLike V r.tables D.0 e) v e')
    Y = X.behind e inside at3 t' ends D.0 D.1

    present_end : V.plan.value ≡ None → (b : Bool) → goes_on V ≡ b
        → EndOf (plain.present e) t' (if b then followed V.plan V.place (record { statements = ys; tail = plain.present e' }) (next_outs V.plan V.place) else unfollowed V.plan (record { statements = ys; tail = plain.present e' }))
    present_end none true goes = outs_end_done items V I I' start M at' i' at2 xs t u r X e e' t' D.0 D.1 Y none goes next (outs_meant next_names handed) (followed V.plan V.place (record { statements = ys; tail = plain.present e' }) (next_outs V.plan V.place)) refl
    present_end none false goes = tail_end_alone items V I I' start M at' i' at2 xs t u r X e e' t' D.0 D.1 Y none goes (unfollowed V.plan (record { statements = ys; tail = plain.present e' })) refl

    tuple_end : (tp : Typ) → V.plan.value ≡ Some tp → has_enum V.plan.exits ≡ false → (vs : List Variable) → outs_of to_next V.plan.exits ≡ vs → EndOf (plain.present e) t' (in_tuple P V.plan V.place tp ys e' (map (plain.var V.place) (names_of vs)))
    tuple_end tp is has [] none = value_end_alone items V I I' start M at' i' at2 xs t u r X e e' t' D.0 D.1 Y tp is has none (in_tuple P V.plan V.place tp ys e' []) refl
    tuple_end tp is has (v ∷ vs) any =
        let out0 = fresh_variable V.plan.identifiers 0 in
        value_end_bound items V I I' start M at' i' at2 xs t u r X e e' t' D.0 D.1 Y P F tp (found tp is) out0 is has v.name (names_of vs) (ap names_of any) (outs_meant next_names handed) (outs_differ next_names handed)
        (in_tuple P V.plan V.place tp ys e' (map (plain.var V.place) (names_of (v ∷ vs))))
        (ap (λ (ws : List Variable). record { statements = ys ++ (let_typed V.place out0 (elided P V.place tp) e' ∷ []); tail = plain.present (plain.tuple V.place (as_expressions (plain.var V.place out0 ∷ map (plain.var V.place) (names_of ws)))) }) (sym any))

    value_end : (tp : Typ) → V.plan.value ≡ Some tp → (b : Bool) → has_enum V.plan.exits ≡ b
        → EndOf (plain.present e) t' (if b then record { statements = ys; tail = handing_on V.plan V.place (e' ∷ next_outs V.plan V.place) } else in_tuple P V.plan V.place tp ys e' (next_outs V.plan V.place))
    value_end tp is true has =
        let es = e' ∷ next_outs V.plan V.place in
        value_end_next items V I I' start M at' i' at2 xs t u r X e e' t' D.0 D.1 Y tp is has (next has (reached tp is)) (outs_meant next_names handed) (record { statements = ys; tail = handing_on V.plan V.place es })
        (ap (λ (c : Bool). record { statements = ys; tail = if c then plain.present (variant V.place (enum_name V.plan) (exit_name to_next) es) else made_joined V.place es }) has)
    value_end tp is false has = tuple_end tp is has (outs_of to_next V.plan.exits) refl

  -- ---- every shape

  pub every_end : (o : OptionalExpression) → OptionalWithin (asked V I I' start) own (rounds V) o → in_optional I r.scope V.loops at3 o r.tables ≡ Ok t' → (v : Option Typ) → V.plan.value ≡ v
      → EndOf o t' (ended P V.plan V.place v ys (changed_optional C own (rounds V) o) (next_outs V.plan V.place))
  every_end (plain.present e) inside ends (Some tp) is = value_end e inside ends tp is (has_enum V.plan.exits) refl
  every_end (plain.present e) inside ends None is = present_end e inside ends is (goes_on V) refl
  every_end plain.absent inside ends (Some tp) is = subst (λ (z : ItemNames). EndOf plain.absent z (without_value V.plan V.place (record { statements = ys; tail = plain.absent }) (next_outs V.plan V.place))) (the_same r.tables t' ends) (absent_end (goes_on V) refl)
  every_end plain.absent inside ends None is = subst (λ (z : ItemNames). EndOf plain.absent z (without_value V.plan V.place (record { statements = ys; tail = plain.absent }) (next_outs V.plan V.place))) (the_same r.tables t' ends) (absent_end (goes_on V) refl)
