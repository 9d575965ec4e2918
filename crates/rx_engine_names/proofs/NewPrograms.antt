-- The new items of an extraction have meanings there: the enum of exits stands behind the function of the run, and the new function
-- behind it.
use Rattle.std.proofs.Common.{◌≡◌, ℕ, suc, ◌+◌, arith, Bool, true, false, if◌then◌else◌, List, [], ◌∷◌, ◌++◌, length, take, drop, Option, Some, None, Ok, refl, sym, ap, ◌∙◌, subst}
use Rattle.rx_core.specs.declared.types.Span.{Span}
use Rattle.rx_tree.specs.declared.tree.Ident.{Ident}
use Rattle.rx_tree.specs.Lists.{Every, nth}
use Rattle.rx_tree.specs.Plain as plain
use Rattle.rx_tree.specs.Plain.{Function, ItemTree, ProgramTree}
use Rattle.rx_resolve_names.specs.Scopes.{DeclaredNames, Variables}
use Rattle.rx_resolve_names.specs.declared.resolved.ItemNames.{ItemNames}
use Rattle.rx_resolve_names.specs.Meant.{number, firsts, lifetimes_declared, type_name, has_name, item_named, Around}
use Rattle.rx_resolve_names.specs.Steps.{Outcome, and_then, Inside}
use Rattle.rx_resolve_names.specs.Names.{in_optional, in_statements, Scoped}
use Rattle.rx_resolve_names.specs.Items.{in_item, in_items, in_program}
use Rattle.rx_hoist_extraction.specs.Names.{behind_all}
use Rattle.rx_hoist_extraction.specs.Run.{Run, as_statements, run_parts, numbered, labels_round}
use Rattle.rx_hoist_extraction.specs.Plan.{Plan, Bounds, has_enum, enum_name}
use Rattle.rx_hoist_extraction.specs.Values.{types_of, next_values}
use Rattle.rx_hoist_extraction.specs.WrittenTypes.{positions_of}
use Rattle.rx_hoist_extraction.specs.NewEnum.{enum_positions}
use Rattle.rx_hoist_extraction.specs.NewFunction.{new_function, parameter_positions}
use Rattle.rx_hoist_extraction.specs.Pinned.{pinned_function}
use Rattle.rx_hoist_extraction.specs.Extraction.{extraction, new_items, made_enum, made_function, with_call}
use Rattle.rx_hoist_extraction.proofs.FreshNames.{unlike}
use Rattle.rx_hoist_extraction.proofs.NewItemsAt.{items_are}
use Rattle.rx_engine_names.specs.NewNames.{Other, AreFree}
use Rattle.rx_engine_names.specs.Insertion.{Inserted, number_there}
use Rattle.rx_engine_names.specs.Within.{OptionalWithin, StatementsWithin}
use Rattle.rx_engine_names.specs.Moves.{labels_of, rounds}
use Rattle.rx_engine_names.specs.NewFunction.{moves_by}
use Rattle.rx_engine_names.specs.NewPlan.{PlanNames, run_claims}
use Rattle.rx_engine_names.proofs.SideBySide.{and_ok}
use Rattle.rx_engine_names.proofs.KeptItems.{inserted_keeps, items_keep}
use Rattle.rx_engine_names.proofs.FoundTypes.{type_finds}
use Rattle.rx_engine_names.proofs.ExtractionItems.{parts_of, every_front, extraction_inserted}
use Rattle.rx_engine_names.proofs.NewScopes.{same_name}
use Rattle.rx_engine_names.proofs.NewEnums.{enum_resolves}
use Rattle.rx_engine_names.proofs.NewItems.{fields_named, fields_found, new_function_alike}

-- ---- the enum is found

other_name : (x : List ℕ) (o : Option Ident) → Other x o → has_name x o ≡ false
other_name x None h = refl
other_name x (Some y) h = unlike x y.name h

others_named : (x : List ℕ) (is : ProgramTree) → Every (λ (i : ItemTree). Other x (type_name i)) is → Every (λ (i : ItemTree). has_name x (type_name i) ≡ false) is
others_named x [] h = tt
others_named x (i ∷ is) h = (other_name x (type_name i) h.0, others_named x is h.1)

not_in_front : (x : List ℕ) (n : ℕ) (is js : ProgramTree) → Every (λ (i : ItemTree). has_name x (type_name i) ≡ false) is → item_named type_name n (is ++ js) x ≡ item_named type_name (n + length is) js x
not_in_front x n [] js h = let same : n ≡ n + 0 = omega arith in ap (λ k. item_named type_name k js x) same
not_in_front x n (i ∷ is) js h =
    let same : suc n + length is ≡ n + suc (length is) = omega arith in
    ap (λ (b : Bool). if b then Some (n, i) else item_named type_name (suc n) (is ++ js) x) h.0 ∙ not_in_front x (suc n) is js h.1 ∙ ap (λ k. item_named type_name k js x) same

module _ (P : ProgramTree) (r : Run) (pl : Plan) (bs : Bounds) (s : Span) (f : Function) (there : nth P r.item ≡ Some (plain.function_item s f)) (free : AreFree P pl) where
  abbrev g : Function
  g = pinned_function P r.span pl.pins f

  abbrev Q : ProgramTree
  Q = extraction P r pl bs

  abbrev inserted : Inserted P Q
  inserted = extraction_inserted P r pl bs s f there free

  pub enum_stands : has_enum pl.exits ≡ true → item_named type_name 0 Q (enum_name pl) ≡ Some (suc r.item, made_enum P r pl)
  enum_stands h =
      let before = take r.item P in
      let at = parts_of P r.item (plain.function_item s f) there in
      let none = others_named (enum_name pl) before (every_front (λ (i : ItemTree). Other (enum_name pl) (type_name i)) before (plain.function_item s f ∷ drop (suc r.item) P) (subst (Every (λ (i : ItemTree). Other (enum_name pl) (type_name i))) at.0 (free.exits h))).0 in
      let new = if has_enum pl.exits then made_enum P r pl ∷ made_function P r pl bs g ∷ [] else made_function P r pl bs g ∷ [] in
      let start : 0 + length before ≡ r.item = omega (arith, at.1) in
      ap (λ (p : ProgramTree). item_named type_name 0 p (enum_name pl)) (items_are P r pl bs s f there)
      ∙ not_in_front (enum_name pl) 0 before (plain.function_item s (with_call P r pl g) ∷ (new ++ drop (suc r.item) P)) none
      ∙ ap (λ (b : Bool). item_named type_name (suc (0 + length before)) ((if b then made_enum P r pl ∷ made_function P r pl bs g ∷ [] else made_function P r pl bs g ∷ []) ++ drop (suc r.item) P) (enum_name pl)) h
      ∙ ap (λ (b : Bool). if b then Some (suc (0 + length before), made_enum P r pl) else item_named type_name (suc (suc (0 + length before))) (made_function P r pl bs g ∷ drop (suc r.item) P) (enum_name pl)) (same_name (enum_name pl))
      ∙ ap (λ k. Some (suc k, made_enum P r pl)) start

  module _ (loops : List Around) (scope : Variables) (round : labels_of loops ≡ labels_round r g) (N : PlanNames P (moves_by pl r.span loops scope (suc r.item)) (run_parts r g)) (ts : List ItemNames) (whole : in_program P ≡ Ok ts) where
    pub enum_item_resolves : has_enum pl.exits ≡ true → (n : ℕ) → (t : ItemNames) × (in_item Q n (made_enum P r pl) ≡ Ok t)
    enum_item_resolves h n =
        let ls = firsts [] 0 (lifetimes_declared (made_enum P r pl)) in
        let I : Inside = record { program = P; item = 0; lifetimes = [] } in
        let fit = items_keep (number_there inserted) P Q (inserted_keeps P Q inserted) 0 (number n) [] ls in
        let fields = fields_named P pl N.types pl.exits N.types.outs in
        let few = ap (λ (b : Bool). parameter_positions P pl + (if b then enum_positions P pl else positions_of P (types_of (next_values pl)))) h in
        enum_resolves (number_there inserted) P Q pl r.span n I fit N.exits_apart (fields_found P pl I (type_finds P ts whole 0 []) pl.exits fields) (omega (arith, N.fresh_lifetimes, few))

    module _ (a : ℕ) (own_lifetimes : DeclaredNames) (at : List ℕ) (i : ℕ) (t : ItemNames) (m : Scoped) (comes : in_statements (record { program = P; item = a; lifetimes = own_lifetimes }) scope loops at i (as_statements (run_parts r g).statements) t ≡ Ok m)
        (at3 : List ℕ) (t' : ItemNames) (ends : in_optional (record { program = P; item = a; lifetimes = own_lifetimes }) m.scope loops at3 (run_parts r g).tail m.tables ≡ Ok t')
        (within : StatementsWithin (run_claims (moves_by pl r.span loops scope (suc r.item))) [] (rounds (moves_by pl r.span loops scope (suc r.item))) (as_statements (run_parts r g).statements))
        (inside : OptionalWithin (run_claims (moves_by pl r.span loops scope (suc r.item))) (behind_all [] (as_statements (run_parts r g).statements)) (rounds (moves_by pl r.span loops scope (suc r.item))) (run_parts r g).tail) where
      function_item_resolves : (n : ℕ) → (u : ItemNames) × (in_item Q n (made_function P r pl bs g) ≡ Ok u)
      function_item_resolves n =
          let A = new_function_alike P Q inserted ts whole pl bs r.span loops scope (suc r.item) (run_parts r g) N (λ h. enum_stands h) n a own_lifetimes at i t m comes at3 t' ends within inside in
          (A.tables, ap (λ (ls : List (Option Ident)). in_item Q n (plain.function_item r.span (new_function P pl bs r.span (numbered 1 ls) (run_parts r g)))) (sym round) ∙ A.resolves)

      pub new_items_resolve : (ns : List ItemNames) × (in_items Q (suc r.item) (new_items P r pl bs g) ≡ Ok ns)
      new_items_resolve = by (has_enum pl.exits) refl
        where
          by : (b : Bool) → has_enum pl.exits ≡ b → (ns : List ItemNames) × (in_items Q (suc r.item) (if b then made_enum P r pl ∷ made_function P r pl bs g ∷ [] else made_function P r pl bs g ∷ []) ≡ Ok ns)
          by true h =
              let A = enum_item_resolves h (suc r.item) in
              let B = function_item_resolves (suc (suc r.item)) in (
                A.0 ∷ B.0 ∷ [],
                and_ok (in_item Q (suc r.item) (made_enum P r pl)) A.0 (λ x. and_then (in_items Q (suc (suc r.item)) (made_function P r pl bs g ∷ [])) (λ xs. Ok (x ∷ xs))) (Ok (A.0 ∷ B.0 ∷ [])) A.1
                    (ap (λ (o : Outcome ItemNames). and_then (and_then o (λ x. Ok (x ∷ []))) (λ xs. Ok (A.0 ∷ xs))) B.1),
              )
          by false h =
              let B = function_item_resolves (suc r.item) in
              (B.0 ∷ [], ap (λ (o : Outcome ItemNames). and_then o (λ x. Ok (x ∷ []))) B.1)
