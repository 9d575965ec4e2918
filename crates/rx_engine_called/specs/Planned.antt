-- What is had of an accepted text and a run in it: its types, the run in the typed tree of its function, its plan by numbers, and what is
-- told of them for the plan by names (REM, "Extract function").
use Rattle.std.specs.Prelude.{◌≡◌, ◌≤◌, ◌<◌, ◌^◌, ℕ, true, List, length}
use Rattle.rx_lex.specs.Tokens.{Lexes}
use Rattle.rx_lex.specs.Words.{is_identifier}
use Rattle.rx_parse_grammar.specs.grammar.Items.{Parses}
use Rattle.rx_resolve_names.specs.declared.resolved.ItemNames.{ItemNames}
use Rattle.rx_resolve_names.specs.Causes.{Meant}
use Rattle.rx_typed.specs.PlainTypes.{declarations}
use Rattle.rx_typed.specs.PlainTree.{plain-TypedTree}
use Rattle.rx_typeck_typed.specs.declared.typed.Typed.{Typed}
use Rattle.rx_typeck_typed.specs.Typing.{IsTyped}
use Rattle.rx_lower_walks.specs.Walks.{Among}
use Rattle.rx_exits_plan.specs.Runs.{Sits}
use Rattle.rx_exits_plan.specs.Asked.{Asked}
use Rattle.rx_exits_plan.specs.PlainPlan.{plan_of, IsExitPlan}
use Rattle.rx_exits.specs.Refusing.{same_name, NoneShadowed}
use Rattle.rx_hoist_nodes.specs.TypedRun.{typed_run}
use Rattle.rx_hoist_extraction.specs.NewFunction.{signature_positions}
use Rattle.rx_hoist_naming.specs.NamedPlan.{named_plan, names_in, Told}
use Rattle.rx_hoist_naming.specs.Words.{OutsAgree}

pub record Planned (A : Told) (q : Asked) (bytes : List ℕ) (names : List ItemNames) (t : Typed) : Type 0 where
  -- the text and its types
  pub lexed : Lexes bytes A.tokens
  pub parsed : Parses bytes A.program
  pub short : length bytes < 2 ^ 32
  pub meant : Meant A.program names
  pub typed : IsTyped A.program names t
  pub declared : A.declared ≡ declarations t.decls.items
  pub word : is_identifier A.name ≡ true
  -- the run in the typed tree of its function
  pub among : Among A.function t.functions
  pub function : q.function ≡ plain-TypedTree A.function.tree
  pub run : q.run ≡ typed_run A.program A.run
  pub loops : A.loops ≡ q.home.around.loops
  pub sits : Sits q.function q.run q.home
  -- its plan, in which no out is shadowed
  pub plan : IsExitPlan q A.plan
  pub agree : OutsAgree A.plan.exits
  pub visible : NoneShadowed q (plan_of q A.plan) (same_name (names_in A))
  pub few : signature_positions A.program (named_plan A) ≤ 2 ^ 32
