-- The new function's item in another program: what a plan of the text gives is put together.
use Rattle.std.proofs.Common.{◌≡◌, ℕ, ◌<◌, arith, Bool, true, false, if◌then◌else◌, List, [], ◌∷◌, ◌++◌, length, map, Option, Some, None, Ok, refl, sym, ap, ◌∙◌, subst, append-nil}
use Rattle.rx_core.specs.declared.types.Span.{Span}
use Rattle.rx_tree.specs.declared.tree.Ident.{Ident}
use Rattle.rx_tree.specs.Lists.{Every, listed}
use Rattle.rx_tree.specs.Plain as plain
use Rattle.rx_tree.specs.Plain.{TypeTree, Function, ItemTree, ProgramTree}
use Rattle.rx_tree.specs.Positions.{NodeTree}
use Rattle.rx_tree.specs.Nodes.{within_statements, within_optional}
use Rattle.rx_resolve_names.specs.Scopes.{DeclaredNames, Variables, variable_named, entered}
use Rattle.rx_resolve_names.specs.declared.resolved.ItemNames.{ItemNames}
use Rattle.rx_resolve_names.specs.Meant.{number, firsts, lifetimes_declared, Around}
use Rattle.rx_resolve_names.specs.Steps.{Inside, child}
use Rattle.rx_resolve_names.specs.Names.{lifetime_in, variant_in, in_optional_type, in_block, in_optional, in_statements, Scoped}
use Rattle.rx_resolve_names.specs.Items.{lifetimes_of, in_parameters, body_at, in_function, in_program}
use Rattle.rx_typed.specs.Types.{Typ}
use Rattle.rx_typed.specs.Named as named
use Rattle.rx_typed.specs.Naming.{begins, of_parameters}
use Rattle.rx_hoist_extraction.specs.Names.{is_among, behind_all}
use Rattle.rx_hoist_extraction.specs.Run.{Parts, as_statements}
use Rattle.rx_hoist_extraction.specs.Plan.{Exit, is_unit, exit_name, to_next, to_break, to_continue, to_return, Variable, Param, Leaving, Plan, Bounds, same_exit, has_exit, has_enum, outs_of, names_of, enum_name}
use Rattle.rx_hoist_extraction.specs.Values.{Value, result_of, value_type, variables_held, values_at, next_values, types_of, result_if_any}
use Rattle.rx_hoist_extraction.specs.Fresh.{fresh_lifetime}
use Rattle.rx_hoist_extraction.specs.Made.{ident}
use Rattle.rx_hoist_extraction.specs.Changed.{changed_optional}
use Rattle.rx_hoist_extraction.specs.Moved.{moving}
use Rattle.rx_hoist_extraction.specs.NewBody.{declared, next_outs, ended}
use Rattle.rx_hoist_extraction.specs.NewEnum.{fields_at}
use Rattle.rx_hoist_extraction.specs.NewFunction.{lifetimes_at, new_lifetimes, new_function, parameter_positions, signature_positions}
use Rattle.rx_hoist_extraction.proofs.Signatures.{declared_once}
use Rattle.rx_hoist_naming.specs.Words.{NamesTypes}
use Rattle.rx_engine_names.specs.Renaming.{Renaming, Made}
use Rattle.rx_engine_names.specs.NamedLifetimes.{LifetimeFits}
use Rattle.rx_engine_names.specs.Within.{OptionalWithin, StatementsWithin}
use Rattle.rx_engine_names.specs.Insertion.{Inserted, number_there}
use Rattle.rx_engine_names.specs.Moves.{Moves, asked, rounds}
use Rattle.rx_engine_names.specs.NewFunction.{param_names, others_paired, locals_paired, moves_by, begun, AreParameters, IsResult, NewFunctionAlike}
use Rattle.rx_engine_names.specs.NewBody.{LocalsFirst}
use Rattle.rx_engine_names.specs.NewPlan.{MaybeNames, TypesNamed, EnumStands, PlanNames, run_claims}
use Rattle.rx_engine_names.proofs.SideBySide.{the_same}
use Rattle.rx_engine_names.proofs.Fitting.{FitItems}
use Rattle.rx_engine_names.proofs.KeptItems.{inserted_keeps, items_keep}
use Rattle.rx_engine_names.proofs.FoundTypes.{Finds, type_finds}
use Rattle.rx_engine_names.proofs.ExtractionItems.{every_front, every_join}
use Rattle.rx_engine_names.proofs.Parameters.{type_no_more}
use Rattle.rx_engine_names.proofs.NewScopes.{starts_alike, nothing_else, start_of, params_declared, distinct_front, has_left, has_right}
use Rattle.rx_engine_names.proofs.DeclaredLifetimes.{bounds_declare, bounded_resolve}
use Rattle.rx_engine_names.proofs.NamedInRun.{statements_asked, optional_asked, run_fits}
use Rattle.rx_engine_names.proofs.ReplacedBlocks.{past_all}
use Rattle.rx_engine_names.proofs.Alone.{Alone, Makes}
use Rattle.rx_engine_names.proofs.MadeRows.{Row}
use Rattle.rx_engine_names.proofs.MovedRows.{changed_list}
use Rattle.rx_engine_names.proofs.NewEnds.{EndMade}
use Rattle.rx_engine_names.proofs.EveryEnd.{every_end}
use Rattle.rx_engine_names.proofs.NewSignatures.{OptionalTypeAlone, params_made, result_made, locals_made}
use Rattle.rx_engine_names.proofs.NewBodies.{BodyFor, BodyAlone, body_made}
use Rattle.rx_engine_names.proofs.NewFunctions.{parameters_more, params_many, copied_means, fresh_means, behind_entry, entry_vars, function_made, FunctionAlone}
use Rattle.rx_engine_names.proofs.NewEnums.{enum_meant, variant_meant, exits_named}

-- ---- what is handed out has types that are named

maybe_named : (P : ProgramTree) (o : Option Typ) → MaybeNames P o → Every (λ (t : Typ). NamesTypes P t) (types_of (result_if_any o))
maybe_named P None h = tt
maybe_named P (Some t) h = (h, tt)

held_named : (P : ProgramTree) (vs : List Variable) → Every (λ (v : Variable). NamesTypes P v.typ) vs → Every (λ (t : Typ). NamesTypes P t) (types_of (variables_held vs))
held_named P [] h = tt
held_named P (v ∷ vs) h = (h.0, held_named P vs h.1)

returned_named : (P : ProgramTree) (t : Typ) → NamesTypes P t → (b : Bool) → Every (λ (t : Typ). NamesTypes P t) (types_of (if b then [] else result_of t ∷ []))
returned_named P t h true = tt
returned_named P t h false = (h, tt)

types_both : (xs ys : List Value) → types_of (xs ++ ys) ≡ types_of xs ++ types_of ys
types_both [] ys = refl
types_both (x ∷ xs) ys = ap (λ (z : List Typ). value_type x ∷ z) (types_both xs ys)

pub values_named : (P : ProgramTree) (pl : Plan) → TypesNamed P pl → (x : Exit) (vs : List Variable) → Every (λ (v : Variable). NamesTypes P v.typ) vs → Every (λ (t : Typ). NamesTypes P t) (types_of (values_at pl x vs))
values_named P pl h to_next vs k = subst (Every (λ (t : Typ). NamesTypes P t)) (sym (types_both (result_if_any pl.value) (variables_held vs))) (every_join (λ (t : Typ). NamesTypes P t) (types_of (result_if_any pl.value)) (types_of (variables_held vs)) (maybe_named P pl.value h.value) (held_named P vs k))
values_named P pl h (to_break n) vs k = held_named P vs k
values_named P pl h (to_continue n) vs k = held_named P vs k
values_named P pl h to_return vs k = returned_named P pl.result h.result (is_unit pl.result)

outs_named : (P : ProgramTree) (x : Exit) (xs : List Leaving) → Every (λ (x : Leaving). Every (λ (v : Variable). NamesTypes P v.typ) x.outs) xs → Every (λ (v : Variable). NamesTypes P v.typ) (outs_of x xs)
outs_named P x [] h = tt
outs_named P x (y ∷ ys) h = by (same_exit x y.exit) (outs_named P x ys h.1)
  where
    by : (b : Bool) → Every (λ (v : Variable). NamesTypes P v.typ) (outs_of x ys) → Every (λ (v : Variable). NamesTypes P v.typ) (if b then y.outs else outs_of x ys)
    by true rest = h.0
    by false rest = rest

pub next_named : (P : ProgramTree) (pl : Plan) → TypesNamed P pl → Every (λ (t : Typ). NamesTypes P t) (types_of (next_values pl))
next_named P pl h = by (has_exit to_next pl.exits)
  where
    by : (b : Bool) → Every (λ (t : Typ). NamesTypes P t) (types_of (if b then values_at pl to_next (outs_of to_next pl.exits) else []))
    by true = values_named P pl h to_next (outs_of to_next pl.exits) (outs_named P to_next pl.exits h.outs)
    by false = tt

pub fields_named : (P : ProgramTree) (pl : Plan) → TypesNamed P pl → (xs : List Leaving) → Every (λ (x : Leaving). Every (λ (v : Variable). NamesTypes P v.typ) x.outs) xs → Every (λ (x : Leaving). Every (λ (t : Typ). NamesTypes P t) (fields_at pl x)) xs
fields_named P pl h [] k = tt
fields_named P pl h (x ∷ xs) k = (values_named P pl h x.exit x.outs k.0, fields_named P pl h xs k.1)

-- ---- and types that are named are found

pub each_found : {A : Type 0} (P : ProgramTree) (I : Inside) (find : (t : Typ) → NamesTypes P t → Finds I P t) (typ : A → Typ) (xs : List A) → Every (λ (x : A). NamesTypes P (typ x)) xs → Every (λ (x : A). Finds I P (typ x)) xs
each_found P I find typ [] h = tt
each_found P I find typ (x ∷ xs) h = (find (typ x) h.0, each_found P I find typ xs h.1)

pub fields_found : (P : ProgramTree) (pl : Plan) (I : Inside) → ((t : Typ) → NamesTypes P t → Finds I P t) → (xs : List Leaving) → Every (λ (x : Leaving). Every (λ (t : Typ). NamesTypes P t) (fields_at pl x)) xs
    → Every (λ (x : Leaving). Every (λ (t : Typ). Finds I P t) (fields_at pl x)) xs
fields_found P pl I find [] k = tt
fields_found P pl I find (x ∷ xs) k = (each_found P I find (λ (t : Typ). t) (fields_at pl x) k.0, fields_found P pl I find xs k.1)

value_found : (P : ProgramTree) (I : Inside) (find : (t : Typ) → NamesTypes P t → Finds I P t) (o : Option Typ) → MaybeNames P o → (t : Typ) → o ≡ Some t → Finds I P t
value_found P I find None h t e = absurd (cc)
value_found P I find (Some u) h t e = subst (λ (z : Typ). Finds I P z) (let same : u ≡ t = cc in same) (find u h)

-- a result makes no variable
result_vars : (I : Inside) (at : List ℕ) (y : Option TypeTree) (t t' : ItemNames) → in_optional_type I at y t ≡ Ok t' → length t'.vars ≡ length t.vars
result_vars I at None t t' e = ap (λ (z : ItemNames). length z.vars) (sym (the_same t t' e))
result_vars I at (Some y) t t' e = type_no_more I at y t t' e

module _ (P Q : ProgramTree) (c : Inserted P Q) (ts : List ItemNames) (whole : in_program P ≡ Ok ts) (pl : Plan) (bs : Bounds) (s : Span) (loops : List Around) (scope : Variables) (enum : ℕ) (run : Parts)
    (N : PlanNames P (moves_by pl s loops scope enum) run) (stands : EnumStands P Q (moves_by pl s loops scope enum)) (m : ℕ) (a : ℕ) (own_lifetimes : DeclaredNames) where
  abbrev V : Moves
  V = moves_by pl s loops scope enum

  abbrev I : Inside
  I = record { program = P; item = a; lifetimes = own_lifetimes }

  abbrev f : Function
  f = new_function P pl bs s (rounds V) run

  abbrev I' : Inside
  I' = record { program = Q; item = number m; lifetimes = firsts [] 0 (lifetimes_declared (plain.function_item s f)) }

  abbrev t0 : ItemNames
  t0 = record { vars = []; lifetimes = map (λ (l : Ident). l.span) (lifetimes_declared (plain.function_item s f)); loops = []; names = [] }

  abbrev items : ℕ → ℕ
  items = number_there c

  abbrev start : Variables
  start = start_of pl s

  abbrev M : Made
  M = begun pl scope

  abbrev total : ℕ
  total = signature_positions P pl

  lifetimes_are : I'.lifetimes ≡ firsts [] 0 (new_lifetimes P pl s run)
  lifetimes_are = ap (firsts [] 0) (bounds_declare s bs (new_lifetimes P pl s run) (new_lifetimes P pl s run))

  fit : FitItems items I I'
  fit = items_keep items P Q (inserted_keeps P Q c) a (number m) own_lifetimes I'.lifetimes

  resolved : (ns : List ℕ) × (lifetimes_of I' [] 0 f.lifetimes ≡ Ok ns)
  resolved = bounded_resolve I' s bs (new_lifetimes P pl s run) lifetimes_are (declared_once P pl bs s (rounds V) run N.fresh_lifetimes N.lifetimes)

  meant : (i : ℕ) → i < total → (k : ℕ) × (lifetime_in I' (ident s (fresh_lifetime pl.lifetimes i)) ≡ Ok k)
  meant = fresh_means P pl bs s run I' lifetimes_are

  find : (t : Typ) → NamesTypes P t → Finds I P t
  find t h = type_finds P ts whole a own_lifetimes t h

  callee : (x : List ℕ) → is_among x V.known ≡ false → variable_named start x ≡ None
  callee x e = nothing_else pl s loops scope enum x e

  fits : Every (λ (n : NodeTree). Every (LifetimeFits I I') (lifetimes_at n)) (within_statements (as_statements run.statements)) × Every (λ (n : NodeTree). Every (LifetimeFits I I') (lifetimes_at n)) (within_optional run.tail)
  fits = every_front (λ (n : NodeTree). Every (LifetimeFits I I') (lifetimes_at n)) (within_statements (as_statements run.statements)) (within_optional run.tail) (run_fits I I' run (copied_means P pl bs s run I' lifetimes_are))

  abbrev bindings : DeclaredNames
  bindings = params_declared s 0 pl.params

  abbrev known : Every (λ (x : List ℕ). (n : ℕ) × (variable_named scope x ≡ Some n)) (param_names pl.params) × Every (λ (x : List ℕ). (n : ℕ) × (variable_named scope x ≡ Some n)) (names_of pl.locals)
  known = every_front (λ (x : List ℕ). (n : ℕ) × (variable_named scope x ≡ Some n)) (param_names pl.params) (names_of pl.locals) N.meant

  module _ (at : List ℕ) (i : ℕ) (t : ItemNames) (r : Scoped) (comes : in_statements I scope loops at i (as_statements run.statements) t ≡ Ok r) (at3 : List ℕ) (t' : ItemNames) (ends : in_optional I r.scope loops at3 run.tail r.tables ≡ Ok t')
      (within : StatementsWithin (run_claims V) [] (rounds V) (as_statements run.statements)) (inside : OptionalWithin (run_claims V) (behind_all [] (as_statements run.statements)) (rounds V) run.tail) where
    claims : StatementsWithin (asked V I I' start) [] (rounds V) (as_statements run.statements)
    claims = statements_asked V I I' start callee [] (rounds V) (as_statements run.statements) within fits.0

    tail_claims : OptionalWithin (asked V I I' start) (behind_all [] (as_statements run.statements)) (rounds V) run.tail
    tail_claims = optional_asked V I I' start callee (behind_all [] (as_statements run.statements)) (rounds V) run.tail inside fits.1

    variants_meant : has_enum pl.exits ≡ true → (x : Exit) → has_exit x pl.exits ≡ true → variant_in I' (ident s (enum_name pl)) (ident s (exit_name x)) ≡ Ok (enum ∷ V.variant x ∷ [])
    variants_meant h x e = variant_meant P Q V stands N.exits_apart (λ x. refl) I' refl h x e

    abbrev ns : List ℕ
    ns = resolved.0

    abbrev u1 : ItemNames
    u1 = behind_entry items M I' f ns t0

    params : Makes items M u1 (λ v. in_parameters I' [] 0 f.params (record { bindings = []; tables = u1 }) ≡ Ok (record { bindings = bindings; tables = v })) (λ R u' es. Alone (λ ys. AreParameters P V R 0 pl.params ys) u1 u' es (of_parameters f.params))
    params = params_made items M P V I I' fit total meant 0 0 0 refl pl.params (omega arith) (each_found P I find (λ (x : Param). x.variable.typ) pl.params N.types.params) (distinct_front (param_names pl.params) (names_of pl.locals) N.apart) known.0
        (λ a b h. h) (λ a b h. has_left (others_paired scope 0 pl.params) (locals_paired scope (length pl.params) pl.locals) a b h) [] (λ x e. refl) u1 (entry_vars items M I' f ns t0)

    abbrev way1 : List ℕ
    way1 = child [] (number (length f.params))

    abbrev way2 : List ℕ
    way2 = child [] (body_at (number (length f.params)) f.result)

    result_item : Makes items M params.table (λ v. in_optional_type I' way1 f.result params.table ≡ Ok v) (OptionalTypeAlone (λ R w. IsResult P V R w) params.table f.result)
    result_item = result_made items M P V I I' fit total meant way1 (parameter_positions P pl) (enum_meant P Q V stands N.exits_apart (λ x. refl) I' refl) (each_found P I find (λ (t : Typ). t) (types_of (next_values pl)) (next_named P pl N.types)) (omega arith) params.table

    many : length result_item.table.vars ≡ length pl.params
    many = result_vars I' way1 f.result params.table result_item.table result_item.answer
        ∙ (let p = parameters_more I' [] 0 f.params (record { bindings = []; tables = u1 }) (record { bindings = bindings; tables = params.table }) params.answer in
        let q = entry_vars items M I' f ns t0 in let n = params_many P pl s 0 pl.params in omega (arith, p, q, n))

    locals_row : Row items M I' [] way2 0 (entered [] bindings) result_item.table (declared P s pl.locals) start (λ R z. LocalsFirst V R named.no_statement (length pl.params) pl.locals z)
    locals_row = locals_made items M P V I I' fit way2 (length pl.params) 0 pl.locals (entered [] bindings) (each_found P I find (λ (v : Variable). v.typ) pl.locals N.types.locals) known.1
        (λ a b h. has_right (others_paired scope 0 pl.params) (locals_paired scope (length pl.params) pl.locals) a b h) result_item.table many

    abbrev ending : Parts
    ending = ended P pl s pl.value (changed_list (moving pl s) [] (rounds V) run.statements) (changed_optional (moving pl s) (behind_all [] (as_statements run.statements)) (rounds V) run.tail) (next_outs pl s)

    abbrev way3 : List ℕ
    way3 = child way2 (number (length (listed (as_statements (declared P s pl.locals ++ ending.statements)))))

    end : EndMade items V I' start M way2 (past_all 0 (declared P s pl.locals)) way3 locals_row.table run.statements run.tail t t' r.scope ending
    end = every_end items P V I I' start fit (exits_named P Q V stands N.exits_apart (λ x. refl) I' refl) M (starts_alike pl s loops scope enum N.apart N.meant) at i t run.statements r comes claims at3 t' (value_found P I find pl.value N.types.value) N.reached
        (λ h e. variants_meant h to_next e) N.handed N.fresh_variable way2 (past_all 0 (declared P s pl.locals)) way3 locals_row.table run.tail tail_claims ends pl.value refl

    abbrev IsBody : Renaming → named.Body → Type 0
    IsBody = BodyFor V r.scope t end.added run.statements run.tail

    new_body_made : Makes items end.made result_item.table (λ v. in_block I' (entered [] bindings) [] way2 f.body result_item.table ≡ Ok v) (BodyAlone IsBody result_item.table f.body)
    new_body_made = body_made items P V I' start M way2 run.statements run.tail t t' r.scope (entered [] bindings) result_item.table locals_row ending end

    item_made : Makes items end.made t0 (λ v. in_function I' [] [] [] f t0 ≡ Ok v) (FunctionAlone (λ R d. (d.item ≡ m) × AreParameters P V R 0 pl.params d.params × IsResult P V R d.result × IsBody R d.body) t0 m s f)
    item_made = function_made items M P V I' f m IsBody ns resolved.1 t0 bindings params result_item end.made end.grows new_body_made

    pub new_function_alike : NewFunctionAlike items P Q V m f (as_statements run.statements) run.tail t t' r.scope
    new_function_alike = record {
      tables = item_made.table;
      resolves = item_made.answer;
      made = end.made;
      begins = λ a b h. end.grows.variables a b h;
      added = end.added;
      grown = end.grown;
      alike = λ R sv k c rest q e.
          let x = (item_made.numbers R sv).holds (begins item_made.table.names) [] (refl, refl) (item_made.grown ∙ sym (append-nil item_made.added)) in
          record { item = x.like.0; params = x.like.1; result = x.like.2; body = x.like.3 k c rest q e };
    }
