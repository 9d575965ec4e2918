-- A plan by names is the same by two functions that are the same with their types: it asks for the types of variables and nodes without
-- lifetimes.
use Rattle.std.proofs.Common.{◌≡◌, ℕ, suc, Bool, true, false, not, List, [], ◌∷◌, ◌++◌, map, get_or, slice_get, Option, Some, None, option_map, unwrap_or, refl, sym, ap, ◌∙◌}
use Rattle.std.specs.Option.{is_some}
use Rattle.rx_core.specs.declared.types.Span.{Span}
use Rattle.rx_core.specs.declared.types.Ty.{Ty}
use Rattle.rx_tree.specs.Plain as plain
use Rattle.rx_tree.specs.Positions.{NodeTree, a_statement, an_expression}
use Rattle.rx_typed.specs.Types.{Typ, unit_shape, result_declared}
use Rattle.rx_typed.specs.PlainTypes.{plain-Ty}
use Rattle.rx_typed.specs.Elaborated.{coercion, kind_in}
use Rattle.rx_typeck_solver.specs.declared.facts.Subject.{Subject}
use Rattle.rx_typeck_solver.specs.declared.facts.Subject.TheVariants as subject
use Rattle.rx_typeck_elaborate_parts.specs.Assigning.{shape_of}
use Rattle.rx_typeck_typed.specs.declared.typed.TypedFn.{TypedFn}
use Rattle.rx_typeck_typed.specs.Typing.{type_at}
use Rattle.rx_exits_plan.specs.declared.plan.ExitOuts.{ExitOuts}
use Rattle.rx_modes_policy.specs.declared.uses.Mode.{Mode}
use Rattle.rx_hoist_extraction.specs.Names.{Names}
use Rattle.rx_hoist_naming.specs.DeclaredNames.{declared_names}
use Rattle.rx_hoist_nodes.specs.Nodes.{nodes_of}
use Rattle.rx_hoist_naming.specs.NamedPlan.{named_variable, named_variables, named_param, named_params, named_exit, named_leaving, passed, value_if, lacks_type, is_never, Told, item_of, names_in, last_number, last_node, result_of, named_plan}
use Rattle.rx_hoist_naming.specs.Pinning.{open_literal, kind_pin, kind_pins, open_pattern, type_pin, type_pins, pins_if}
use Rattle.rx_engine_extraction.proofs.AgreeingTypes.{SameTyped}

shape_is : (o : Option Ty) → shape_of o ≡ unwrap_or (option_map plain-Ty o) unit_shape
shape_is None = refl
shape_is (Some t) = refl

some_is : (o : Option Ty) → is_some o ≡ is_some (option_map plain-Ty o)
some_is None = refl
some_is (Some t) = refl

module _ (f g : TypedFn) (s : SameTyped f g) where
  shape_alike : (x : Subject) → shape_of (type_at f x) ≡ shape_of (type_at g x)
  shape_alike x = shape_is (type_at f x) ∙ (ap (λ (o : Option Typ). unwrap_or o unit_shape) (s.types x) ∙ sym (shape_is (type_at g x)))

  lacks_alike : (n : ℕ) → lacks_type f n ≡ lacks_type g n
  lacks_alike n = let x = subject.Node n in
      ap not (some_is (type_at f x) ∙ (ap (λ (o : Option Typ). is_some o) (s.types x) ∙ sym (some_is (type_at g x))))

  -- ---- variables

  variable_alike : (ns : Names) (x : ℕ) → named_variable ns f x ≡ named_variable ns g x
  variable_alike ns x = λ i. record { name = get_or ns x []; mutable = get_or (s.same.mutable i) x false; typ = shape_alike (subject.Variable x) i }

  variables_alike : (ns : Names) (xs : List ℕ) → named_variables ns f xs ≡ named_variables ns g xs
  variables_alike ns [] = refl
  variables_alike ns (x ∷ xs) = λ i. variable_alike ns x i ∷ variables_alike ns xs i

  param_alike : (ns : Names) (x : ℕ) (m : Mode) (v : Bool) → named_param ns f x m v ≡ named_param ns g x m v
  param_alike ns x m v = λ i. record (named_param ns f x m v) { variable = variable_alike ns x i }

  params_alike : (ns : Names) (xs : List ℕ) (ms : List Mode) (vs : List Bool) → named_params ns f xs ms vs ≡ named_params ns g xs ms vs
  params_alike ns [] ms vs = refl
  params_alike ns (x ∷ xs) [] vs = refl
  params_alike ns (x ∷ xs) (m ∷ ms) [] = refl
  params_alike ns (x ∷ xs) (m ∷ ms) (v ∷ vs) = λ i. param_alike ns x m v i ∷ params_alike ns xs ms vs i

  exits_alike : (ns : Names) (ls : List ℕ) (es : List ExitOuts) → map (named_leaving ns f ls) es ≡ map (named_leaving ns g ls) es
  exits_alike ns ls [] = refl
  exits_alike ns ls (e ∷ es) = λ i. record { exit = named_exit ls e.exit; outs = variables_alike ns e.outs i } ∷ exits_alike ns ls es i

  -- ---- nodes

  value_alike : (b : Bool) (n : ℕ) → value_if b f n ≡ value_if b g n
  value_alike false n = refl
  value_alike true n = λ i. Some (passed (coercion (shape_alike (subject.Node n) i) (shape_alike (subject.Expected n) i)) (shape_alike (subject.Node n) i))

  never_alike : (o : Option NodeTree) (n : ℕ) → is_never f o n ≡ is_never g o n
  never_alike (Some (an_expression e)) n = lacks_alike n
  never_alike (Some (a_statement (plain.expression_statement t e b))) n = lacks_alike (suc n)
  never_alike _ n = refl

  kind_alike : (n : ℕ) (o : Option Span) → kind_pin f n o ≡ kind_pin g n o
  kind_alike n None = refl
  kind_alike n (Some t) = λ i. (t, kind_in (shape_alike (subject.Node n) i)) ∷ []

  kinds_alike : (n : ℕ) (ns : List NodeTree) → kind_pins f n ns ≡ kind_pins g n ns
  kinds_alike n [] = refl
  kinds_alike n (x ∷ xs) = λ i. kind_alike n (open_literal x) i ++ kinds_alike (suc n) xs i

  type_alike : (n : ℕ) (o : Option Span) → type_pin f n o ≡ type_pin g n o
  type_alike n None = refl
  type_alike n (Some t) = λ i. (t, shape_alike (subject.Node (suc n)) i) ∷ []

  types_alike : (r : Span) (ds : List ℕ) (n : ℕ) (ns : List NodeTree) → type_pins f r ds n ns ≡ type_pins g r ds n ns
  types_alike r ds n [] = refl
  types_alike r ds n (x ∷ xs) = λ i. type_alike n (open_pattern r ds n x) i ++ types_alike r ds (suc n) xs i

  pins_alike : (xs : List ℕ) (r : Span) (ds : List ℕ) (ns : List NodeTree) → pins_if xs f r ds ns ≡ pins_if xs g r ds ns
  pins_alike [] r ds ns = refl
  pins_alike (x ∷ xs) r ds ns = λ i. Some (record { kinds = kinds_alike 0 ns i; types = types_alike r ds 0 ns i })

-- by another function
abbrev pub by_function : Told → TypedFn → Told
by_function A g = record A { function = g }

module _ (A : Told) (g : TypedFn) (s : SameTyped A.function g) where
  abbrev f : TypedFn
  f = A.function

  abbrev B : Told
  B = by_function A g

  pub names_alike : names_in A ≡ names_in B
  names_alike = ap (λ (i : ℕ). declared_names (slice_get A.program i)) s.same.item

  pub plan_alike : named_plan A ≡ named_plan B
  plan_alike = λ i. record {
    name = A.name;
    exits = exits i;
    value = value_alike f g s A.plan.value (last_number A) i;
    never = never_alike f g s (last_node A) (last_number A) i;
    result = result_of (result_declared (slice_get A.declared (s.same.item i)));
    params = params i;
    locals = variables A.plan.locals i;
    redeclared = variables A.plan.redeclared i;
    pins = pinned i;
    identifiers = (named_plan A).identifiers;
    lifetimes = (named_plan A).lifetimes;
  }
    where
      exits : map (named_leaving (names_in A) f A.loops) A.plan.exits ≡ map (named_leaving (names_in B) g A.loops) A.plan.exits
      exits = exits_alike f g s (names_in A) A.loops A.plan.exits ∙ ap (λ (ns : Names). map (named_leaving ns g A.loops) A.plan.exits) names_alike

      params : named_params (names_in A) f A.plan.params A.modes A.moved ≡ named_params (names_in B) g A.plan.params A.modes A.moved
      params = params_alike f g s (names_in A) A.plan.params A.modes A.moved ∙ ap (λ (ns : Names). named_params ns g A.plan.params A.modes A.moved) names_alike

      variables : (xs : List ℕ) → named_variables (names_in A) f xs ≡ named_variables (names_in B) g xs
      variables xs = variables_alike f g s (names_in A) xs ∙ ap (λ (ns : Names). named_variables ns g xs) names_alike

      pinned : pins_if A.plan.loose f A.run.span A.diverging (nodes_of (item_of A)) ≡ pins_if A.plan.loose g A.run.span A.diverging (nodes_of (item_of B))
      pinned = pins_alike f g s A.plan.loose A.run.span A.diverging (nodes_of (item_of A))
          ∙ ap (λ (i : ℕ). pins_if A.plan.loose g A.run.span A.diverging (nodes_of (slice_get A.program i))) s.same.item
