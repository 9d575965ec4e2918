-- A function whose assignment of types meets what the rules ask acts by its types.
use Rattle.std.proofs.Common.{◌≡◌, ℕ, List, [], ◌∷◌, ◌++◌, map, drop, Option, Some, None, slice_get, refl, sym, ap, ◌∙◌, subst}
use Rattle.rx_tree.specs.Lists.{Every}
use Rattle.rx_typed.specs.declared.nodes.Site.{Site}
use Rattle.rx_typed.specs.Types.{Typ, unit_shape, parameters_declared, result_declared}
use Rattle.rx_typed.specs.Named.{Parameter, Function, written_node, body_node}
use Rattle.rx_typed.specs.TypedNumbers.{AreFrom, nodes, type_nodes, optional_nodes}
use Rattle.rx_typed.specs.Elaborated as elaborated
use Rattle.rx_typed.specs.Tree as tree
use Rattle.rx_typed.specs.Tree.{Temporary, mark_of, temporary_of, temporary_at}
use Rattle.rx_lower_walks.specs.Actions.{Action}
use Rattle.rx_lower_walks.specs.Orders as order
use Rattle.rx_lower_walks.specs.Orders.{Order, order_function, beginning, argument}
use Rattle.rx_lower_walks.specs.Walks.{IsWalk}
use Rattle.rx_typeck_solver.specs.declared.facts.Subject.TheVariants as subject
use Rattle.rx_typeck_solver.specs.Facts.{MeetsEach, Assignment, KnownItems}
use Rattle.rx_typeck_typed.specs.Asking.{Asking}
use Rattle.rx_typeck_typed.specs.Demands as rules
use Rattle.rx_meaning_typed.specs.TypedActs.{Typing, ActsTyped}
use Rattle.rx_meaning_typed.specs.TypedFunctions.{UnitsTyped, RightsTyped}
use Rattle.rx_repair.specs.TemporaryTypes as given_types
use Rattle.rx_repair.specs.TemporaryTypes.{Entry, silent, temporary_types}
use Rattle.rx_repair.proofs.Sites.{BodySited}
use Rattle.rx_repair.proofs.Entries.{Found, all_found}
use Rattle.rx_repair.proofs.Asking.{Asks, asks_map, both, then_first, then_second, result_u, never_given_u}
use Rattle.rx_repair.proofs.Pieces.{T, wished}
use Rattle.rx_repair.proofs.Patterns.{every_front, every_behind}
use Rattle.rx_repair.proofs.Writing.{written_typ, Taken, parameters_given, AgreeAs}
use Rattle.rx_repair.proofs.Acting.{body_site}
use Rattle.rx_meaning_accepted.specs.Fitting.{FunctionFits}
use Rattle.rx_meaning_accepted.specs.Typings.{result_or, typing_of}
use Rattle.rx_meaning_accepted.proofs.Walking.{of_walk}
use Rattle.rx_meaning_accepted.proofs.Operands as operands
use Rattle.rx_meaning_accepted.proofs.Patterns as patterns
use Rattle.rx_meaning_accepted.proofs.Building as building
use Rattle.rx_meaning_accepted.proofs.Joining as joining
use Rattle.rx_meaning_accepted.proofs.Acting as acting

module _ (K : KnownItems) (A : Assignment) (F : Function) (count : ℕ) (numbers : AreFrom 0 (nodes F) count) (sited : BodySited Site.Expects F.body) (fits : FunctionFits K.items F) (met : MeetsEach K A (rules.demands F)) where
  abbrev V : ℕ → Typ
  V x = A (subject.Variable x)

  abbrev U : Temporary → Typ
  U = temporary_types (T K A) V F

  abbrev R : Typ
  R = result_or (result_declared (slice_get K.items F.item))

  abbrev Tree : tree.Function
  Tree = elaborated.elaborated (T K A) F

  abbrev pub Its : Typing
  Its = typing_of (T K A) V F

  abbrev OfEntry : Entry → Type 0
  OfEntry e = Found U e

  found : Every OfEntry (given_types.entries (T K A) V F)
  found = all_found (T K A) V F count numbers

  result : (u : Typ) → result_declared (slice_get K.items F.item) ≡ Some u → R ≡ u
  result u e = ap result_or e

  front : Every OfEntry (given_types.parameters_entries (T K A) V F.params)
  front = every_front OfEntry (given_types.parameters_entries (T K A) V F.params) _ found.1

  behind : Every OfEntry (given_types.body_entries (T K A) V unit_shape F.body)
  behind = every_behind OfEntry (map silent (optional_nodes F.result)) _ (every_behind OfEntry (given_types.parameters_entries (T K A) V F.params) _ found.1)

  -- the parameters, what the body is expected to give, and the body
  asked : Asks K A (Every (Taken K A) F.params × ((result_declared (slice_get K.items F.item) ≡ Some (wished K A (body_node F.body))) × joining.GivesBody K A U R F.item result unit_shape F.body)) (rules.of_function F)
  asked =
      both (parameters_given K A F.params) (then_second (result_u F.result) (both (operands.result_wished K A F.item (body_node F.body))
      (then_first (acting.body_asks K A U R F.item result unit_shape Site.Expects F.body sited fits behind) (never_given_u F.never_given))))

  given : Every (Taken K A) F.params × ((result_declared (slice_get K.items F.item) ≡ Some (wished K A (body_node F.body))) × joining.GivesBody K A U R F.item result unit_shape F.body)
  given = asked.gives (subst (λ (l : List _). MeetsEach K A l) (asked.adds []) met)

  body_good : (d : Temporary) → building.Good K A U R (elaborated.function_body (T K A) F.body) d
  body_good d = given.1.1.ends (body_site Site.Expects F.body sited) (sym (result (wished K A (body_node F.body)) given.1.0)) d

  first_found : (x : Parameter) (xs : List Parameter) → Every OfEntry (given_types.parameters_entries (T K A) V (x ∷ xs)) → U (temporary_at (written_node x.typ).number 0) ≡ V x.variable
  first_found x xs h = h.0 0

  rest_found : (x : Parameter) (xs : List Parameter) → Every OfEntry (given_types.parameters_entries (T K A) V (x ∷ xs)) → Every OfEntry (given_types.parameters_entries (T K A) V xs)
  rest_found x xs h = every_behind OfEntry (map silent (drop 1 (type_nodes x.typ))) (given_types.parameters_entries (T K A) V xs) h.1

  begins : (xs : List Parameter) → Every OfEntry (given_types.parameters_entries (T K A) V xs) → (n : ℕ) (rest : Order) → patterns.H K A U R rest → patterns.H K A U R (beginning (elaborated.parameters xs) n rest)
  begins [] h n rest g = g
  begins (x ∷ xs) h n rest g = (tt, (λ _. ((V x.variable, refl, ap (λ (t : Typ). Some t) (first_found x xs h)), (λ _. begins xs (rest_found x xs h) n rest g))))

  holds : patterns.H K A U R (order_function Tree)
  holds = begins F.params front (mark_of Tree.body).node _ (body_good (temporary_of Tree.body)).0

  pub acts : ActsTyped Its Tree
  acts w a is = of_walk (patterns.Q K A U R) (λ x. tt) Tree holds w a is

  pub units : UnitsTyped Its Tree
  units t h = (body_good (temporary_of Tree.body)).1 t h

  pub rights : RightsTyped Its Tree
  rights t h = (body_good (temporary_of Tree.body)).2 t h

  -- its parameters are of the types that its item declares
  taken : (xs : List Parameter) (ps : List Typ) → AgreeAs xs ps → Every (Taken K A) xs → Every OfEntry (given_types.parameters_entries (T K A) V xs) → map (λ p. U (argument p)) (elaborated.parameters xs) ≡ ps
  taken [] [] a t h = refl
  taken [] (u ∷ ps) a t h = absurd a
  taken (x ∷ xs) [] a t h = absurd a
  taken (x ∷ xs) (u ∷ ps) a t h =
      ap (λ (z : Typ). z ∷ map (λ p. U (argument p)) (elaborated.parameters xs)) (first_found x xs h ∙ (t.0 ∙ sym a.0)) ∙ ap (λ (l : List Typ). u ∷ l) (taken xs ps a.1 t.1 (rest_found x xs h))

  pub takes : AgreeAs F.params (parameters_declared (slice_get K.items F.item)) → map (λ p. Its.temporaries (argument p)) Tree.params ≡ parameters_declared (slice_get K.items F.item)
  takes a = taken F.params (parameters_declared (slice_get K.items F.item)) a given.0 front

  pub gives : result_declared (slice_get K.items F.item) ≡ Some Its.result
  gives = given.1.0 ∙ ap (λ (t : Typ). Some t) (sym (result (wished K A (body_node F.body)) given.1.0))
