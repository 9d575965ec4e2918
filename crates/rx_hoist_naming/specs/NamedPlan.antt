-- The plan by names of a run whose plan by numbers is known (REM, "Extract function"). At the run a name tells one variable that is
-- declared outside; variables are numbered in the order in which their names are declared (Rust Reference, "Identifier patterns").
use Rattle.std.specs.Prelude.{ℕ, suc, Bool, true, false, not, ◌==◌, if◌then◌else◌, List, [], ◌∷◌, ◌++◌, map, get_or, Option, Some, None, slice_get}
use Rattle.std.specs.Option.{is_some}
use Rattle.rx_tree.specs.Plain as plain
use Rattle.rx_tree.specs.Plain.{ItemTree, ProgramTree}
use Rattle.rx_tree.specs.Positions.{NodeTree, a_statement, an_expression, node_at}
use Rattle.rx_lex.specs.Tok.{Tok}
use Rattle.rx_typed.specs.Types.{Typ, unit_shape, Declarations, result_declared}
use Rattle.rx_typed.specs.Elaborated.{Coercion, share, as_shared}
use Rattle.rx_typeck_solver.specs.declared.facts.Subject.TheVariants as subject
use Rattle.rx_typeck_elaborate_parts.specs.Assigning.{shape_of}
use Rattle.rx_typeck_typed.specs.declared.typed.TypedFn.{TypedFn}
use Rattle.rx_typeck_typed.specs.Typing.{type_at, coercion_at}
use Rattle.rx_typed_runs.specs.declared.runs.RunPos.{RunPos}
use Rattle.rx_exits_plan.specs.declared.plan.Exit.{Exit}
use Rattle.rx_exits_plan.specs.declared.plan.Exit.TheVariants as exit
use Rattle.rx_exits_plan.specs.declared.plan.ExitOuts.{ExitOuts}
use Rattle.rx_exits_plan.specs.declared.plan.ExitPlan.{ExitPlan}
use Rattle.rx_modes_policy.specs.declared.uses.Mode.{Mode}
use Rattle.rx_hoist_extraction.specs.Names.{Names}
use Rattle.rx_hoist_extraction.specs.Plan as plan
use Rattle.rx_hoist_extraction.specs.Plan.{Variable, Param, Leaving, Plan}
use Rattle.rx_hoist_plan.specs.PlainPlan.{plain-Mode}
use Rattle.rx_hoist_nodes.specs.Nodes.{nodes_of, number_at}
use Rattle.rx_hoist_naming.specs.NamesWords.{identifiers, lifetimes}
use Rattle.rx_hoist_naming.specs.DeclaredNames.{declared_names}
use Rattle.rx_hoist_naming.specs.Pinning.{node_type, pins_if}

-- ---- variables, by the names of all of the function

abbrev pub named_variable : Names → TypedFn → ℕ → Variable
named_variable ns t x = record { name = get_or ns x []; mutable = get_or t.mutable x false; typ = shape_of (type_at t (subject.Variable x)) }

abbrev pub named_variables : Names → TypedFn → List ℕ → List Variable
named_variables ns t xs = map (named_variable ns t) xs

abbrev pub named_param : Names → TypedFn → ℕ → Mode → Bool → Param
named_param ns t x m v = record { variable = named_variable ns t x; mode = plain-Mode m; moved = v }

-- as many as have a mode and a word on whether they are moved
abbrev pub named_params : Names → TypedFn → List ℕ → List Mode → List Bool → List Param
named_params ns t (x ∷ xs) (m ∷ ms) (v ∷ vs) = named_param ns t x m v ∷ named_params ns t xs ms vs
named_params ns t _ _ _ = []

-- ---- exits, by the loops round the run, the innermost first

-- how many stand in front of it
abbrev pub place_of : ℕ → List ℕ → ℕ
place_of l [] = 0
place_of l (k ∷ ks) = if k == l then 0 else suc (place_of l ks)

abbrev pub named_exit : List ℕ → Exit → plan.Exit
named_exit ls exit.Next = plan.to_next
named_exit ls (exit.Break l) = plan.to_break (place_of l ls)
named_exit ls (exit.Continue l) = plan.to_continue (place_of l ls)
named_exit ls exit.Return = plan.to_return

abbrev pub named_leaving : Names → TypedFn → List ℕ → ExitOuts → Leaving
named_leaving ns t ls e = record { exit = named_exit ls e.exit; outs = named_variables ns t e.outs }

-- ---- the run's last statement, or the block's tail

-- the type behind a coercion (Rust Reference, "Coercion types")
abbrev pub passed : Coercion → Typ → Typ
passed share t = as_shared t
passed _ t = t

-- the type of the tail of this number, where the run has a value
abbrev pub value_if : Bool → TypedFn → ℕ → Option Typ
value_if true t n = Some (passed (coercion_at t n) (node_type t n))
value_if false t n = None

-- a node that is Never has no type
abbrev pub lacks_type : TypedFn → ℕ → Bool
lacks_type t n = not (is_some (type_at t (subject.Node n)))

-- whether it gives no value: the node, and its number; the expression of a statement is the node behind it
abbrev pub is_never : TypedFn → Option NodeTree → ℕ → Bool
is_never t (Some (an_expression e)) n = lacks_type t n
is_never t (Some (a_statement (plain.expression_statement s e b))) n = lacks_type t (suc n)
is_never t _ n = false

-- the way to it
abbrev pub last_way : RunPos → List ℕ
last_way r = r.block.path ++ r.last ∷ []

-- ---- the plan

abbrev pub result_of : Option Typ → Typ
result_of (Some t) = t
result_of None = unit_shape

-- Of a text's tokens and tree, what it declares, the function of the run and its `let`s whose initialiser never goes on, by number:
-- the run, the loops round it, its plan by numbers, the modes of the params and whether they are moved, and the new name.
pub record Told : Type 0 where
  pub tokens : List Tok
  pub program : ProgramTree
  pub declared : Declarations
  pub function : TypedFn
  pub diverging : List ℕ
  pub run : RunPos
  pub loops : List ℕ
  pub plan : ExitPlan
  pub modes : List Mode
  pub moved : List Bool
  pub name : List ℕ

abbrev pub item_of : Told → Option ItemTree
item_of A = slice_get A.program A.function.item

abbrev pub names_in : Told → Names
names_in A = declared_names (item_of A)

abbrev pub last_number : Told → ℕ
last_number A = number_at A.program A.run.block.item (last_way A.run)

abbrev pub last_node : Told → Option NodeTree
last_node A = node_at A.program A.run.block.item (last_way A.run)

abbrev pub named_plan : Told → Plan
named_plan A = record {
  name = A.name;
  exits = map (named_leaving (names_in A) A.function A.loops) A.plan.exits;
  value = value_if A.plan.value A.function (last_number A);
  never = is_never A.function (last_node A) (last_number A);
  result = result_of (result_declared (slice_get A.declared A.function.item));
  params = named_params (names_in A) A.function A.plan.params A.modes A.moved;
  locals = named_variables (names_in A) A.function A.plan.locals;
  redeclared = named_variables (names_in A) A.function A.plan.redeclared;
  pins = pins_if A.plan.loose A.function A.run.span A.diverging (nodes_of (item_of A));
  identifiers = identifiers A.tokens;
  lifetimes = lifetimes A.tokens;
}
