-- What stands in place of a run (Rust Reference, "Call expressions", "Borrow operators"): the call of the new function, with variables
-- that correspond to its params.
use Rattle.std.specs.Prelude.{◌≡◌, ℕ, Bool, true, false, List, [], ◌∷◌, ◌++◌, length, Some, None, Ok}
use Rattle.rx_core.specs.declared.types.Span.{Span}
use Rattle.rx_tree.specs.Lists.{Every}
use Rattle.rx_tree.specs.Plain.{Expression}
use Rattle.rx_resolve_names.specs.Scopes.{Variables, variable_named}
use Rattle.rx_resolve_names.specs.declared.resolved.ItemNames.{ItemNames}
use Rattle.rx_resolve_names.specs.declared.resolved.NodeNames.{NodeNames}
use Rattle.rx_resolve_names.specs.Meant.{number, function_name, item_named, as_function, Around}
use Rattle.rx_resolve_names.specs.Steps.{Inside}
use Rattle.rx_resolve_names.specs.Names.{in_expression}
use Rattle.rx_typed.specs.declared.nodes.Node.{Node}
use Rattle.rx_typed.specs.declared.nodes.Site.{Site}
use Rattle.rx_typed.specs.declared.nodes.Use.{Use}
use Rattle.rx_typed.specs.Named as named
use Rattle.rx_typed.specs.Named.{Exp, Exps}
use Rattle.rx_typed.specs.Naming.{Cursor, of_expression}
use Rattle.rx_hoist_extraction.specs.Plan.{Mode, by_value, by_reborrow, by_view, by_shared, by_mut, Param, Plan}
use Rattle.rx_engine_names.specs.Renaming.{Renaming, Has, Made, Serves}
use Rattle.rx_engine_names.specs.Moves.{StandsAt}

pub record Calls : Type 0 where
  pub plan : Plan
  -- the span of the run, and the scope of the text where it begins
  pub place : Span
  pub scope : Variables
  -- the number of the new function
  pub number : ℕ

-- a variable with this name in the text, in the other program
pub data Passed (C : Calls) (R : Renaming) (x : List ℕ) : Exp → Type 0 where
  passed_on : {n : Node} {u : Use} {j : ℕ} → n.span ≡ C.place → variable_named C.scope x ≡ Some j → R.variable j u.number ≡ true → Passed C R x (named.var n u)

-- as the mode tells: itself, or a borrow of it
pub data IsArgument (C : Calls) (R : Renaming) (x : List ℕ) : Mode → Exp → Type 0 where
  argument_by_value : {e : Exp} → Passed C R x e → IsArgument C R x by_value e
  argument_by_reborrow : {e : Exp} → Passed C R x e → IsArgument C R x by_reborrow e
  argument_by_view : {e : Exp} → Passed C R x e → IsArgument C R x by_view e
  argument_by_shared : {n : Node} {e : Exp} → n.span ≡ C.place → Passed C R x e → IsArgument C R x by_shared (named.borrow n false e)
  argument_by_mut : {n : Node} {e : Exp} → n.span ≡ C.place → Passed C R x e → IsArgument C R x by_mut (named.borrow n true e)

pub data AreArguments (C : Calls) (R : Renaming) : List Param → Exps → Type 0 where
  no_argument : AreArguments C R [] named.no_exp
  more_arguments : {x : Param} {xs : List Param} {e : Exp} {es : Exps} → IsArgument C R x.variable.name x.mode e → AreArguments C R xs es → AreArguments C R (x ∷ xs) (named.exp_and e es)

pub data IsCall (C : Calls) (R : Renaming) : Exp → Type 0 where
  is_call : {n : Node} {es : Exps} → n.span ≡ C.place → AreArguments C R C.plan.params es → IsCall C R (named.call n C.number es)

-- the names of the params mean variables that correspond
abbrev pub ParamsMeant : Calls → Made → Variables → List Param → Type 0
ParamsMeant C M sc' xs = Every (λ (x : Param). (n : ℕ) × (m : ℕ) × (variable_named C.scope x.variable.name ≡ Some n) × (variable_named sc' x.variable.name ≡ Some m) × Has M.variables n m) xs

-- the name of the new function means it, and no variable
abbrev pub FunctionMeant : Calls → Inside → Variables → Type 0
FunctionMeant C I' sc' = (as_function (item_named function_name 0 I'.program C.plan.name) ≡ Some C.number) × (variable_named sc' C.plan.name ≡ None)

-- an expression that resolves, and whose tree is this for each renaming in which all correspond that were made
pub record ExpressionMade (items : ℕ → ℕ) (I' : Inside) (sc' : Variables) (ls' : List Around) (M : Made) (at' : List ℕ) (e : Expression) (u : ItemNames) (P : Renaming → Exp → Type 0) : Type 0 where
  pub tables : ItemNames
  pub resolves : in_expression I' sc' ls' at' e u ≡ Ok tables
  pub added' : List NodeNames
  pub grown' : tables.names ≡ u.names ++ added'
  pub like : (R : Renaming) → Serves items M R → (m : Bool) (k : Site) (c' : Cursor) (rest' : List NodeNames) → StandsAt u c' → c'.names ≡ added' ++ rest' → P R (of_expression m k e c').0

-- the scope behind a `let` of a name, where so many variables were declared
abbrev pub bound_to : List ℕ → ItemNames → Variables → Variables
bound_to x u sc = record { name = x; number = number (length u.vars) } ∷ sc
