-- What passes its limit first: the parameters, the lifetimes (REM, "Extract function").
use Rattle.std.specs.Prelude.{◌≡◌, ℕ, ◌+◌, nat_lt, if◌then◌else◌, List, length, Option, Some, None, slice_get, ⊤}
use Rattle.rx_core.specs.declared.types.Which.{Which}
use Rattle.rx_core.specs.declared.types.Which.TheVariants as which
use Rattle.rx_tree.specs.declared.tree.Ident.{Ident}
use Rattle.rx_tree.specs.Plain as plain
use Rattle.rx_tree.specs.Plain.{ItemTree, ProgramTree}
use Rattle.rx_hoist_extraction.specs.Run.{Parts, Run, run_parts}
use Rattle.rx_hoist_extraction.specs.Plan.{Plan}
use Rattle.rx_hoist_extraction.specs.Pinned.{pinned_function}
use Rattle.rx_hoist_extraction.specs.NewFunction.{signature_positions}
use Rattle.rx_hoist_extraction.specs.Limits.{count_parameters, count_lifetimes}
use Rattle.rx_hoist_made.specs.Counts.{capped}
use Rattle.rx_hoist.specs.declared.hoisting.HoistFault.{HoistFault}
use Rattle.rx_hoist.specs.declared.hoisting.HoistFault.TheVariants as fault

-- what is told of a limit: what passes it, and its number
abbrev pub Passed : Type 0
Passed = Which × ℕ

abbrev pub lifetimes_limit : ℕ → Option Passed
lifetimes_limit n = if nat_lt 128 n then Some (which.Lifetimes, capped n) else None

abbrev pub parameters_limit : ℕ → Plan → Option Passed
parameters_limit n pl =
    if nat_lt 64 (count_parameters pl) then Some (which.Parameters, capped (count_parameters pl)) else lifetimes_limit n

-- `run` is the run as it stands in its function, pinned
abbrev pub limit : ProgramTree → Plan → Parts → Option Passed
limit P pl run = parameters_limit (count_lifetimes P pl run) pl

-- by the lifetimes that are copied
abbrev pub limit_by : ProgramTree → Plan → List Ident → Option Passed
limit_by P pl copied = parameters_limit (length copied + signature_positions P pl) pl

abbrev pub limit_in : ProgramTree → Run → Plan → Option ItemTree → Option Passed
limit_in P r pl (Some (plain.function_item s f)) = limit P pl (run_parts r (pinned_function P r.span pl.pins f))
limit_in P r pl _ = None

abbrev pub limit_at : ProgramTree → Run → Plan → Option Passed
limit_at P r pl = limit_in P r pl (slice_get P r.item)

-- a fault that such a limit allows; want of memory is always one
abbrev pub Allowed : Option Passed → HoistFault → Type 0
Allowed l fault.OutOfMemory = ⊤
Allowed None (fault.Limit w n) = ⊥
Allowed (Some p) (fault.Limit w n) = (w ≡ p.0) × (n ≡ p.1)
