-- What is had of an accepted text and a run in it: its types, the run in the typed tree of its function, its plan by numbers, and what is told
-- of them for the plan by names (REM, "Extract function").
use Rattle.std.specs.Prelude.{◌≡◌, ◌≤◌, ◌<◌, ◌^◌, ℕ, Bool, true, List, drop, length}
use Rattle.rx_lex.specs.Tokens.{Lexes}
use Rattle.rx_lex.specs.Words.{is_identifier}
use Rattle.rx_parse_grammar.specs.grammar.Items.{Parses}
use Rattle.rx_resolve_names.specs.declared.resolved.ItemNames.{ItemNames}
use Rattle.rx_resolve_names.specs.Causes.{Meant}
use Rattle.rx_typed.specs.PlainTypes.{declarations}
use Rattle.rx_typed.specs.PlainTree.{plain-TypedTree}
use Rattle.rx_typed_runs.specs.declared.runs.RunPos.{RunPos}
use Rattle.rx_typeck_typed.specs.declared.typed.Typed.{Typed}
use Rattle.rx_typeck_typed.specs.Typing.{IsTyped}
use Rattle.rx_select.specs.RunOf.{RunOf}
use Rattle.rx_lower_walks.specs.Walks.{Among}
use Rattle.rx_exits_plan.specs.Runs.{Sits}
use Rattle.rx_exits_plan.specs.Asked.{Asked}
use Rattle.rx_exits_plan.specs.PlainPlan.{IsExitPlan}
use Rattle.rx_exits_plan.specs.Unreachable.{At, Unreachable}
use Rattle.rx_hoist_extraction.specs.NewFunction.{signature_positions}
use Rattle.rx_hoist_extraction.specs.Run.{Run}
use Rattle.rx_hoist_naming.specs.NamedPlan.{named_plan, Told}
use Rattle.rx_hoist_naming.specs.Words.{OutsAgree}
use Rattle.rx_engine_related.specs.Accepted.{Accepted}

-- the run by the way to its block from the function's body on
abbrev pub run_at : RunPos → Run
run_at r = record { item = r.function; way = drop 1 r.block.path; first = r.first; last = r.last; span = r.span }

pub record Decided (A : Told) (q : Asked) (bytes : List ℕ) (names : List ItemNames) (t : Typed) (muts : List Bool) : Type 0 where
  -- the text and its types
  pub lexed : Lexes bytes A.tokens
  pub parsed : Parses bytes A.program
  pub short : length bytes < 2 ^ 32
  pub meant : Meant A.program names
  pub typed : IsTyped A.program names t
  pub declared : A.declared ≡ declarations t.decls.items
  pub word : is_identifier A.name ≡ true
  -- the run in the text, and in the typed tree of its function, which is initialised
  pub start : ℕ
  pub end : ℕ
  pub run : RunOf (length bytes) A.tokens A.program start end A.run
  pub item : A.run.function ≡ A.function.item
  pub among : Among A.function t.functions
  pub function : q.function ≡ plain-TypedTree A.function.tree
  pub loops : A.loops ≡ q.home.around.loops
  pub sits : Sits q.function q.run q.home
  pub accepted : Accepted q muts
  -- the run and its exits are reached; its plan
  pub reached : (p : At) → Unreachable q p → ⊥
  pub plan : IsExitPlan q A.plan
  pub agree : OutsAgree A.plan.exits
  pub few : signature_positions A.program (named_plan A) ≤ 2 ^ 32
