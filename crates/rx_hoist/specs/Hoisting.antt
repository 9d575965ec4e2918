-- The parts of an extraction, by the block of the run and the labels round it (REM, "Extract function").
use Rattle.std.specs.Prelude.{ℕ, suc, if◌then◌else◌, List, [], ◌∷◌, ◌++◌, take, drop, Option, Some}
use Rattle.rx_core.specs.declared.types.Span.{Span}
use Rattle.rx_tree.specs.declared.tree.Ident.{Ident}
use Rattle.rx_tree.specs.Plain as plain
use Rattle.rx_tree.specs.Plain.{Body, Function, ItemTree, ProgramTree}
use Rattle.rx_tree.specs.Spans.{body_span}
use Rattle.rx_tree.specs.Erase.{nowhere}
use Rattle.rx_tree.specs.Positions.{a_block, descend}
use Rattle.rx_hoist_extraction.specs.Run.{Run, Parts, as_block, chosen_parts, labels_on, numbered, with_parts}
use Rattle.rx_hoist_extraction.specs.Plan.{Plan, has_enum}
use Rattle.rx_hoist_extraction.specs.Changed.{changed_body}
use Rattle.rx_hoist_extraction.specs.NewFunction.{new_function}
use Rattle.rx_hoist_extraction.specs.Call.{replacement}
use Rattle.rx_hoist_extraction.specs.Extraction.{made_enum, replacing}

abbrev pub block_with_call : ProgramTree → Run → Plan → List (Option Ident) → Body → Body
block_with_call P r pl labels block = with_parts r (replacement P pl r.span labels (chosen_parts r block)) block

abbrev pub body_with_call : ProgramTree → Run → Plan → List (Option Ident) → Body → Body → Body
body_with_call P r pl labels block b = changed_body (replacing (body_span block) (block_with_call P r pl labels block)) [] [] b

abbrev pub function_item : ProgramTree → Run → Plan → List (Option Ident) → Parts → ItemTree
function_item P r pl labels run = plain.function_item r.span (new_function P pl [] r.span (numbered 1 labels) run)

abbrev pub enum_if_any : ProgramTree → Run → Plan → ProgramTree
enum_if_any P r pl = if has_enum pl.exits then made_enum P r pl ∷ [] else []

abbrev pub items_of : ProgramTree → Run → Plan → List (Option Ident) → Body → Body → Span → Function → ProgramTree
items_of P r pl labels block b s f =
    (plain.function_item s (record f { body = body_with_call P r pl labels block b }) ∷ enum_if_any P r pl)
    ++ function_item P r pl labels (chosen_parts r block) ∷ []

abbrev pub with_items : ProgramTree → ℕ → ProgramTree → ProgramTree
with_items P n new = take n P ++ (new ++ drop (suc n) P)

-- ---- by the pinned body

abbrev pub no_block : Body
no_block = plain.body nowhere plain.no_statement plain.absent

abbrev pub block_in : Run → Body → Body
block_in r b = as_block (descend (Some (a_block b)) r.way)

abbrev pub parts_in : Run → Body → Parts
parts_in r b = chosen_parts r (block_in r b)

abbrev pub items_in : ProgramTree → Run → Plan → Body → Span → Function → ProgramTree
items_in P r pl b s f = items_of P r pl (labels_on (Some (a_block b)) r.way []) (block_in r b) b s f

abbrev pub some_function : Span → Function → Option ItemTree
some_function s f = Some (plain.function_item s f)
