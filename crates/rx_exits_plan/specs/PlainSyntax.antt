-- The homes, jumps and variables of a run that those of the code stand for. (Rust Reference, "Block expressions", "Scopes".)
use Rattle.std.specs.Prelude.{ℕ, List, ◌++◌, map, reverse, Option, Some, None}
use Rattle.std.specs.Borrow.{Bor}
use Rattle.rx_typed.specs.Tree.{Exp, Body, ends, runs, declares, lets, unit}
use Rattle.rx_typed.specs.declared.tree.Expr.{Expr}
use Rattle.rx_typed.specs.declared.tree.Stmt.{Stmt}
use Rattle.rx_typed.specs.PlainTree.{plain-Expr, plain-Stmt, nested_of}
use Rattle.rx_exits_plan.specs.Blocks.{Statement, does, begins, binds}
use Rattle.rx_exits_plan.specs.Spots.{Around}
use Rattle.rx_exits_plan.specs.Runs as runs
use Rattle.rx_exits_plan.specs.PlainPlan.{plain-Exit}
use Rattle.rx_exits_plan.specs.Exits as exits
use Rattle.rx_exits_plan.specs.declared.parts.Home.{Home}
use Rattle.rx_exits_plan.specs.declared.parts.Jump.{Jump}
use Rattle.rx_exits_plan.specs.declared.around.Around as code

-- ---- blocks

abbrev pub first_of : Body → Statement
first_of (ends e) = does e
first_of (runs e b) = does e
first_of (declares s xs b) = begins s xs
first_of (lets s p c b) = binds s p c

abbrev pub no_more : Body
no_more = ends (unit (record { node = 0; typ = None }))

-- whatever follows it
abbrev pub plain-Statement : Stmt → Statement
plain-Statement s = first_of (plain-Stmt s no_more)

abbrev pub plain-Home : Home → runs.Home
plain-Home h = record { around = record { scope = h.scope; loops = h.loops }; body = nested_of (map plain-Stmt h.stmts.now) (plain-Expr h.tail.now) }

abbrev pub plain-Value : Option (Bor Expr) → Option Exp
plain-Value None = None
plain-Value (Some e) = Some (plain-Expr e.now)

-- ---- what is around a place: the code has it in the order of the text

abbrev pub plain-Around : code.Around → Around
plain-Around a = record { scope = reverse a.scope; loops = reverse a.loops }

-- further variables
abbrev pub grown : code.Around → List ℕ → code.Around
grown a xs = record { scope = a.scope ++ xs; loops = a.loops }

-- ---- jumps

abbrev pub plain-Jump : Jump → exits.Jump
plain-Jump j = record { exit = plain-Exit j.exit; node = j.node; scope = j.scope }
