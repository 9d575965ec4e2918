-- The params, the result and the locals of the new function resolve: by induction on each list.
use Rattle.std.proofs.lemmas.Bool.{or_left, or_right}
use Rattle.std.proofs.Common.{◌≡◌, ℕ, suc, ◌+◌, ◌≤◌, ◌<◌, arith, Bool, true, false, ◌&&◌, if◌then◌else◌, List, [], ◌∷◌, ◌++◌, length, Option, Some, None, Ok, refl, sym, ap, ◌∙◌, subst, append-nil, append_assoc, bytes_eq}
use Rattle.rx_core.specs.declared.types.Kind as kinds
use Rattle.rx_tree.specs.Lists.{Every}
use Rattle.rx_tree.specs.Plain.{TypeTree, ProgramTree}
use Rattle.rx_resolve_names.specs.declared.table.NumberedName.{NumberedName}
use Rattle.rx_resolve_names.specs.Scopes.{DeclaredNames, declared_as, Variables, variable_named}
use Rattle.rx_resolve_names.specs.declared.resolved.ItemNames.{ItemNames}
use Rattle.rx_resolve_names.specs.Meant.{number}
use Rattle.rx_resolve_names.specs.Steps.{Outcome, and_then, Inside, declare, declared_behind, child, next, with_variable}
use Rattle.rx_resolve_names.specs.Names.{lifetime_in, type_in, in_type, in_optional_type, in_statement, in_statements, Scoped}
use Rattle.rx_resolve_names.specs.Items.{in_parameter, in_parameters}
use Rattle.rx_typed.specs.declared.nodes.Stage.{Stage}
use Rattle.rx_typed.specs.Types as types
use Rattle.rx_typed.specs.Types.{Typ, Shape, integer, boolean, tuple_of, reference, shapes_of}
use Rattle.rx_typed.specs.Named as named
use Rattle.rx_typed.specs.Named.{Written}
use Rattle.rx_typed.specs.Naming.{give, of_parameters, of_optional_type}
use Rattle.rx_hoist_extraction.specs.Names.{Distinct, is_among}
use Rattle.rx_hoist_extraction.specs.Run.{as_statements}
use Rattle.rx_hoist_extraction.specs.Plan.{Mode, by_value, by_reborrow, by_view, by_shared, by_mut, Variable, Param, has_enum, names_of, enum_name}
use Rattle.rx_hoist_extraction.specs.Fresh.{fresh_lifetime}
use Rattle.rx_hoist_extraction.specs.Values.{next_values, types_of}
use Rattle.rx_hoist_extraction.specs.Made.{ident, let_nothing}
use Rattle.rx_hoist_extraction.specs.Moved.{is_referred}
use Rattle.rx_hoist_extraction.specs.WrittenTypes.{positions, positions_of, full, elided}
use Rattle.rx_hoist_extraction.specs.NewBody.{declared}
use Rattle.rx_hoist_extraction.specs.NewEnum.{enum_positions}
use Rattle.rx_hoist_extraction.specs.NewFunction.{is_by_value, viewed, passed, passed_types, new_parameters, joined_type, full_if_any, enum_type, new_result, result_positions}
use Rattle.rx_hoist_extraction.proofs.Signatures.{shapes_positions}
use Rattle.rx_engine_names.specs.Renaming.{Renaming, Has, Made, Serves}
use Rattle.rx_engine_names.specs.WrittenOut.{Says}
use Rattle.rx_engine_names.specs.Moves.{Moves}
use Rattle.rx_engine_names.specs.Replaced.{joined}
use Rattle.rx_engine_names.specs.NewBody.{LocalsFirst, no_local, a_local}
use Rattle.rx_engine_names.specs.NewFunction.{paired, referred_paired, others_paired, locals_paired, param_names, IsHeld, SaysFull, AreParameters, no_parameter, a_parameter, IsResult, result_enum, result_none, result_type}
use Rattle.rx_engine_names.proofs.SideBySide.{named_ok, and_ok, the_same, one_more}
use Rattle.rx_engine_names.proofs.Fitting.{FitItems}
use Rattle.rx_engine_names.proofs.FoundTypes.{Finds, FindAll}
use Rattle.rx_engine_names.proofs.Parameters.{number_next, type_no_more}
use Rattle.rx_engine_names.proofs.NoDoubles.{none_push}
use Rattle.rx_engine_names.proofs.Alone.{Alone, weaker, alone_give, alone_then, alone_map, alone_declare, KindAlone, Makes, makes_nothing, makes_then, makes_map}
use Rattle.rx_engine_names.proofs.MadeTypes.{item_made, full_made, elided_made}
use Rattle.rx_engine_names.proofs.MadeRows.{behind_variable, Row, row_then, row_of_none, row_of_one, Joined, joined_of, Single, single_of, bound_there, IsDeclaration, is_declaration, declaration_made}
use Rattle.rx_engine_names.proofs.NewScopes.{is_name, same_name, has_left, has_right, paired_declared, params_declared, behind_lets}

-- ---- the type of a param names what that of the variable does

viewed_finds : (I : Inside) (P : ProgramTree) (y : Shape kinds.Kind) → Finds I P y → Finds I P (viewed y)
viewed_finds I P (integer k) f = f
viewed_finds I P boolean f = f
viewed_finds I P (tuple_of ts) f = f
viewed_finds I P (reference m y) f = f
viewed_finds I P (types.named i) f = f

passed_finds : (I : Inside) (P : ProgramTree) (mode : Mode) (y : Shape kinds.Kind) → Finds I P y → Finds I P (passed mode y)
passed_finds I P by_value y f = f
passed_finds I P by_reborrow y f = f
passed_finds I P by_view y f = viewed_finds I P y f
passed_finds I P by_shared y f = f
passed_finds I P by_mut y f = f

-- ---- locals in front of other statements

pub locals_behind : (V : Moves) (R : Renaming) (n : ℕ) (vs : List Variable) {a : named.Statements} (b : named.Statements) → LocalsFirst V R named.no_statement n vs a → LocalsFirst V R b n vs (joined a b)
locals_behind V R n [] b no_local = no_local
locals_behind V R n (v ∷ vs) b (a_local g h k r d rest) = a_local g h k r d (locals_behind V R (suc n) vs b rest)

-- ---- one type for several values

joined_finds : (I : Inside) (P : ProgramTree) (ts : List Typ) → Every (λ (t : Typ). Finds I P t) ts → FindAll I P (shapes_of ts)
joined_finds I P [] f = tt
joined_finds I P (t ∷ ts) f = (f.0, joined_finds I P ts f.1)

abbrev pub OptionalTypeAlone : (Renaming → Option Written → Type 0) → ItemNames → Option TypeTree → KindAlone
OptionalTypeAlone S u y R u' es = Alone (S R) u u' es (of_optional_type y)

pub data OneType (S : Written → Type 0) : Option Written → Type 0 where
  one_type : {w : Written} → S w → OneType S (Some w)

pub data NoType : Option Written → Type 0 where
  no_type : NoType None

module _ (items : ℕ → ℕ) (M : Made) (P : ProgramTree) (V : Moves) (I I' : Inside) (F : FitItems items I I') where
  abbrev row : ℕ → List ℕ
  row = fresh_lifetime V.plan.lifetimes

  -- its number, and its type
  abbrev IsParam : ℕ → Param → Renaming → named.Parameter → Type 0
  IsParam n x R p = (p.variable ≡ n) × SaysFull P V.place R (passed x.mode x.variable.typ) p.typ

  module _ (total : ℕ) (meant : (i : ℕ) → i < total → (k : ℕ) × (lifetime_in I' (ident V.place (row i)) ≡ Ok k)) where
    -- ---- params

    pub params_made : (n i m : ℕ) → i ≡ number n → (xs : List Param) → m + positions_of P (passed_types xs) ≤ total → Every (λ (x : Param). Finds I P x.variable.typ) xs → Distinct (param_names xs)
        → Every (λ (x : List ℕ). (a : ℕ) × (variable_named V.scope x ≡ Some a)) (param_names xs)
        → ((a b : ℕ) → Has (referred_paired V.scope n xs) a b → Has V.behind a b) → ((a b : ℕ) → Has (others_paired V.scope n xs) a b → Has M.variables a b)
        → (ds : DeclaredNames) → ((x : List ℕ) → is_among x (param_names xs) ≡ true → declared_as ds x ≡ None) → (u : ItemNames) → length u.vars ≡ n
        → Makes items M u (λ v. in_parameters I' [] i (new_parameters P V.plan V.place m xs) (record { bindings = ds; tables = u }) ≡ Ok (record { bindings = ds ++ params_declared V.place i xs; tables = v }))
        (λ R u' es. Alone (λ ys. AreParameters P V R n xs ys) u u' es (of_parameters (new_parameters P V.plan V.place m xs)))
    params_made n i m place [] l f d known held made ds new u at =
        makes_nothing u (λ v. Ok (record { bindings = ds; tables = u }) ≡ Ok (record { bindings = ds ++ []; tables = v })) (λ R u' es. Alone (λ ys. AreParameters P V R n [] ys) u u' es (give []))
        (ap (λ (l : DeclaredNames). Ok (record { bindings = l; tables = u })) (sym (append-nil ds))) (λ R. alone_give [] no_parameter)
    params_made n i m place (x ∷ xs) l f d known held made ds new u at =
        let s = V.place in
        let y = x.variable.name in
        let tp = passed x.mode x.variable.typ in
        let z : List ℕ × NumberedName = (y, record { number = number i; span = s }) in
        let es = ds ++ z ∷ [] in
        let v1 = with_variable s u in
        let T = full_made items M I' s row total meant I F P (child [] i) m tp (passed_finds I P x.mode x.variable.typ f.0) (omega (arith, l)) v1 in
        let longer : length T.table.vars ≡ suc n = type_no_more I' (child [] i) (full P s row m tp) v1 T.table T.answer ∙ one_more u.vars s ∙ ap suc at in
        let B = params_made (suc n) (next i) (m + positions P tp) (ap (λ k. number (suc k)) place ∙ number_next n) xs (omega (arith, l)) f.1 d.1 known.1
        (λ a b h. held a b (has_right (if is_referred x.mode then paired (variable_named V.scope y) n else []) (referred_paired V.scope (suc n) xs) a b h))
        (λ a b h. made a b (has_right (if is_referred x.mode then [] else paired (variable_named V.scope y) n) (others_paired V.scope (suc n) xs) a b h))
        es (λ w e. none_push ds z w (new w (or_right (bytes_eq w y) (is_among w (param_names xs)) e)) (other w e (bytes_eq w y) refl)) T.table longer in
        behind_variable s u (makes_then T B
        (λ p q. and_ok (in_parameter I' [] i (record { name = ident s y; mutable = is_by_value x.mode && (x.moved && x.variable.mutable); typ = full P s row m tp }) (record { bindings = ds; tables = u })) (record { bindings = es; tables = T.table }) (in_parameters I' [] (next i) (new_parameters P V.plan s (m + positions P tp) xs))
        (Ok (record { bindings = ds ++ params_declared s i (x ∷ xs); tables = B.table }))
        (and_ok (declare ds (ident s y) i) es (λ ds. and_then (in_type I' (child [] i) (full P s row m tp) v1) (λ t. Ok (record { bindings = ds; tables = t }))) (Ok (record { bindings = es; tables = T.table }))
        (ap (declared_behind ds (ident s y) i) (new y (or_left (bytes_eq y y) (is_among y (param_names xs)) (same_name y)))) (ap (λ (o : Outcome ItemNames). and_then o (λ t. Ok (record { bindings = es; tables = t }))) p))
        (q ∙ ap (λ (l : DeclaredNames). Ok (record { bindings = l; tables = B.table })) (append_assoc ds (z ∷ []) (params_declared s (next i) xs))))
        (λ R sv N O. alone_then (alone_then (alone_declare s (record { mutable = is_by_value x.mode && (x.moved && x.variable.mutable); stage = Stage.Known })) (λ v h. alone_map {T = λ p. IsParam n x R p} (λ w. record { variable = v; typ = w }) N (λ w g. (h ∙ at, g))))
        (λ p h. alone_map (λ ps. p ∷ ps) O (λ ps g. whole R sv p ps h g))))
      where
        other : (w : List ℕ) → is_among w (param_names xs) ≡ true → (c : Bool) → bytes_eq w x.variable.name ≡ c → c ≡ false
        other w e true g = sym e ∙ subst (λ (z : List ℕ). is_among z (param_names xs) ≡ false) (sym (is_name w x.variable.name g)) d.0
        other w e false g = refl

        is_held : (R : Renaming) → Serves items M R → (c : Bool) → ((a b : ℕ) → Has ((if c then paired (variable_named V.scope x.variable.name) n else []) ++ referred_paired V.scope (suc n) xs) a b → Has V.behind a b)
            → ((a b : ℕ) → Has ((if c then [] else paired (variable_named V.scope x.variable.name) n) ++ others_paired V.scope (suc n) xs) a b → Has M.variables a b) → IsHeld V R c known.0.0 n
        is_held R sv true f g = f known.0.0 n (has_left (paired (variable_named V.scope x.variable.name) n) (referred_paired V.scope (suc n) xs) known.0.0 n (paired_declared (variable_named V.scope x.variable.name) n known.0.0 known.0.1))
        is_held R sv false f g = sv.variables known.0.0 n (g known.0.0 n (has_left (paired (variable_named V.scope x.variable.name) n) (others_paired V.scope (suc n) xs) known.0.0 n (paired_declared (variable_named V.scope x.variable.name) n known.0.0 known.0.1)))

        whole : (R : Renaming) → Serves items M R → (p : named.Parameter) (ps : List named.Parameter) → IsParam n x R p → AreParameters P V R (suc n) xs ps → AreParameters P V R n (x ∷ xs) (p ∷ ps)
        whole R sv p ps h g = subst (λ (k : ℕ). AreParameters P V R n (x ∷ xs) (record { variable = k; typ = p.typ } ∷ ps)) (sym h.0) (a_parameter known.0.1 (is_held R sv (is_referred x.mode) held made) h.1 g)

    -- ---- the result

    full_result : (at' : List ℕ) (m : ℕ) (ts : List Typ) → Every (λ (t : Typ). Finds I P t) ts → m + positions_of P ts ≤ total → (u : ItemNames)
        → Makes items M u (λ v. in_optional_type I' at' (full_if_any P V.plan V.place m (joined_type ts)) u ≡ Ok v)
        (OptionalTypeAlone (λ R w. (has_enum V.plan.exits ≡ false) → joined_type (types_of (next_values V.plan)) ≡ joined_type ts → IsResult P V R w) u (full_if_any P V.plan V.place m (joined_type ts)))
    full_result at' m [] f l u = makes_nothing u (λ v. Ok u ≡ Ok v) (OptionalTypeAlone (λ R w. (has_enum V.plan.exits ≡ false) → joined_type (types_of (next_values V.plan)) ≡ None → IsResult P V R w) u None) refl (λ R. alone_give None (λ has is. result_none has is))
    full_result at' m (t ∷ []) f l u =
        makes_map (full_made items M I' V.place row total meant I F P at' m t f.0 (omega (arith, l)) u) (λ a. a) (λ R sv N. alone_map (λ w. Some w) N (λ w h has is. result_type has is h))
    full_result at' m (t ∷ t1 ∷ ts) f l u =
        let same = shapes_positions P (t ∷ t1 ∷ ts) in
        makes_map (full_made items M I' V.place row total meant I F P at' m (tuple_of (shapes_of (t ∷ t1 ∷ ts))) (joined_finds I P (t ∷ t1 ∷ ts) f) (omega (arith, l, same)) u) (λ a. a) (λ R sv N. alone_map (λ w. Some w) N (λ w h has is. result_type has is h))

    pub result_made : (at' : List ℕ) (m : ℕ) → (has_enum V.plan.exits ≡ true → type_in I' (ident V.place (enum_name V.plan)) ≡ Ok V.enum) → Every (λ (t : Typ). Finds I P t) (types_of (next_values V.plan)) → m + result_positions P V.plan ≤ total → (u : ItemNames)
        → Makes items M u (λ v. in_optional_type I' at' (new_result P V.plan V.place m) u ≡ Ok v) (OptionalTypeAlone (λ R w. IsResult P V R w) u (new_result P V.plan V.place m))
    result_made at' m enum f l u = by (has_enum V.plan.exits) refl l
      where
        by : (b : Bool) → has_enum V.plan.exits ≡ b → m + (if b then enum_positions P V.plan else positions_of P (types_of (next_values V.plan))) ≤ total
            → Makes items M u (λ v. in_optional_type I' at' (if b then Some (enum_type P V.plan V.place m) else full_if_any P V.plan V.place m (joined_type (types_of (next_values V.plan)))) u ≡ Ok v)
            (OptionalTypeAlone (λ R w. IsResult P V R w) u (if b then Some (enum_type P V.plan V.place m) else full_if_any P V.plan V.place m (joined_type (types_of (next_values V.plan)))))
        by true has l1 =
            makes_map (item_made items M I' V.place row total meant (λ R w. IsResult P V R (Some w)) at' (enum_name V.plan) V.enum m (enum_positions P V.plan) (enum has) l1 (λ R sv d g. result_enum has g) u) (λ a. a) (λ R sv N. alone_map (λ w. Some w) N (λ w h. h))
        by false has l1 = makes_map (full_result at' m (types_of (next_values V.plan)) f l1 u) (λ a. a) (λ R sv N. weaker N (λ w h. h has refl))

  -- ---- locals

  -- a `let` without a value makes one variable
  one_declared : (sc : Variables) (at' : List ℕ) (x : List ℕ) (m : Bool) (y : TypeTree) (u : ItemNames) (r : Scoped) → in_statement I' sc [] at' (let_nothing V.place x m y) u ≡ Ok r → length r.tables.vars ≡ suc (length u.vars)
  one_declared sc at' x m y u r e =
      let w = bound_there I' (child at' 0) V.place u in
      let to : ItemNames → Scoped = λ t. record { scope = record { name = x; number = number (length u.vars) } ∷ sc; tables = t } in
      let A = named_ok (and_then (in_type I' (child at' 1) y w) (λ t. Ok t)) (λ t. Ok (to t)) r e in
      let B = named_ok (in_type I' (child at' 1) y w) (λ t. Ok t) A.0 A.1 in
      ap (λ (z : Scoped). length z.tables.vars) (sym (the_same (to A.0) r A.2)) ∙ ap (λ (z : ItemNames). length z.vars) (sym (the_same B.0 A.0 B.2)) ∙ type_no_more I' (child at' 1) y w B.0 B.1 ∙ one_more u.vars V.place

  pub locals_made : (at' : List ℕ) (n i : ℕ) (vs : List Variable) (sc : Variables) → Every (λ (v : Variable). Finds I P v.typ) vs → Every (λ (x : List ℕ). (a : ℕ) × (variable_named V.scope x ≡ Some a)) (names_of vs)
      → ((a b : ℕ) → Has (locals_paired V.scope n vs) a b → Has M.variables a b) → (u : ItemNames) → length u.vars ≡ n → Row items M I' [] at' i sc u (declared P V.place vs) (behind_lets n vs sc) (λ R z. LocalsFirst V R named.no_statement n vs z)
  locals_made at' n i [] sc f known made u at = row_of_none items M I' [] at' i sc u (λ R z. LocalsFirst V R named.no_statement n [] z) (λ R. no_local)
  locals_made at' n i (v ∷ vs) sc f known made u at =
      let way = child at' i in
      let y = elided P V.place v.typ in
      let k = length u.vars in
      let sc1 : Variables = record { name = v.name; number = number k } ∷ sc in
      let T = elided_made items M I' V.place I F P (child way 1) v.typ f.0 (bound_there I' (child way 0) V.place u) in
      let D = declaration_made items M I' [] way sc V.place v.name v.mutable y (λ R w. Says R v.typ w) u T in
      let A = row_of_one items M I' [] at' i sc sc1 u (let_nothing V.place v.name v.mutable y) (λ R. IsDeclaration V.place k v.mutable (λ w. Says R v.typ w)) D in
      let longer : length A.table.vars ≡ suc n = one_more_there sc1 A.table A.answer ∙ ap suc at in
      let B = locals_made at' (suc n) (next i) vs sc1 f.1 known.1 (λ a b h. made a b (has_right (paired (variable_named V.scope v.name) n) (locals_paired V.scope (suc n) vs) a b h)) A.table longer in
      let scopes : behind_lets (suc n) vs sc1 ≡ behind_lets n (v ∷ vs) sc = ap (λ (j : ℕ). behind_lets (suc n) vs (record { name = v.name; number = number j } ∷ sc)) at in
      subst (λ (z : Variables). Row items M I' [] at' i sc u (declared P V.place (v ∷ vs)) z (λ R z. LocalsFirst V R named.no_statement n (v ∷ vs) z)) scopes
      (makes_map (row_then items M I' [] at' i sc sc1 (behind_lets (suc n) vs sc1) u (let_nothing V.place v.name v.mutable y ∷ []) (declared P V.place vs) (λ R. Single (IsDeclaration V.place k v.mutable (λ w. Says R v.typ w))) (λ R z. LocalsFirst V R named.no_statement (suc n) vs z) A B)
      (λ a. a) (λ R sv N. weaker N (λ z h. whole R sv z h)))
    where
      one_more_there : (sc1 : Variables) (v1 : ItemNames) → in_statements I' sc [] at' i (as_statements (let_nothing V.place v.name v.mutable (elided P V.place v.typ) ∷ [])) u ≡ Ok (record { scope = sc1; tables = v1 }) → length v1.vars ≡ suc (length u.vars)
      one_more_there sc1 v1 e =
          let A = named_ok (in_statement I' sc [] (child at' i) (let_nothing V.place v.name v.mutable (elided P V.place v.typ)) u) (λ (r : Scoped). Ok (record { scope = r.scope; tables = r.tables })) (record { scope = sc1; tables = v1 }) e in
          ap (λ (z : Scoped). length z.tables.vars) (sym (the_same A.0 (record { scope = sc1; tables = v1 }) A.2)) ∙ one_declared sc (child at' i) v.name v.mutable (elided P V.place v.typ) u A.0 A.1

      first : (R : Renaming) → Serves items M R → (b : named.Statements) (d : named.Statement) → IsDeclaration V.place (length u.vars) v.mutable (λ w. Says R v.typ w) d → LocalsFirst V R named.no_statement (suc n) vs b → LocalsFirst V R named.no_statement n (v ∷ vs) (named.statement_and d b)
      first R sv b d (is_declaration {l = l} {p = p} {w = w} g h k) rest =
          subst (λ (j : ℕ). LocalsFirst V R named.no_statement n (v ∷ vs) (named.statement_and (named.declares l (named.bind p j v.mutable) (Some w)) b)) (sym at)
          (a_local g h known.0.1 (sv.variables known.0.0 n (made known.0.0 n (has_left (paired (variable_named V.scope v.name) n) (locals_paired V.scope (suc n) vs) known.0.0 n (paired_declared (variable_named V.scope v.name) n known.0.0 known.0.1)))) k rest)

      whole : (R : Renaming) → Serves items M R → (z : named.Statements) → Joined (Single (IsDeclaration V.place (length u.vars) v.mutable (λ w. Says R v.typ w))) (λ b. LocalsFirst V R named.no_statement (suc n) vs b) z → LocalsFirst V R named.no_statement n (v ∷ vs) z
      whole R sv z (joined_of a b (single_of {a = d} s1) rest) = first R sv b d s1 rest
