-- The extraction of a run by a plan, with bounds for the lifetimes of the new function (REM, "Extract function"). It is a
-- function on plain trees: what is copied keeps its span, what is made has the span of the run. The new items stand behind the
-- function of the run, the enum first.
use Rattle.std.specs.Prelude.{ℕ, zero, suc, ◌+◌, if◌then◌else◌, [], ◌∷◌, ◌++◌}
use Rattle.rx_core.specs.declared.types.Span.{Span}
use Rattle.rx_tree.specs.Plain as plain
use Rattle.rx_tree.specs.Plain.{Body, Function, ItemTree, ProgramTree}
use Rattle.rx_tree.specs.Spans.{body_span}
use Rattle.rx_tree.specs.Erase.{SameProgram}
use Rattle.rx_hoist_extraction.specs.Run.{Run, run_block, run_parts, with_parts, same_place, labels_round, loops_round}
use Rattle.rx_hoist_extraction.specs.Plan.{Bounds, Plan, has_enum}
use Rattle.rx_hoist_extraction.specs.Pinned.{pinned_function}
use Rattle.rx_hoist_extraction.specs.Changed.{Changes, kept, changed_body}
use Rattle.rx_hoist_extraction.specs.NewEnum.{new_enum}
use Rattle.rx_hoist_extraction.specs.NewFunction.{new_function}
use Rattle.rx_hoist_extraction.specs.Call.{replacement}

-- ---- the function round the run

-- the block at a place becomes another; nothing else does
abbrev pub replacing : Span → Body → Changes
replacing place new = record kept { at_block = λ b changed. if same_place place (body_span b) then new else changed }

abbrev pub with_call : ProgramTree → Run → Plan → Function → Function
with_call P r pl f = let block = run_block r f in
    let call = replacement P pl r.span (labels_round r f) (run_parts r f) in
    record f { body = changed_body (replacing (body_span block) (with_parts r call block)) [] [] f.body }

-- ---- the new items

abbrev pub made_function : ProgramTree → Run → Plan → Bounds → Function → ItemTree
made_function P r pl bs f = plain.function_item r.span (new_function P pl bs r.span (loops_round r f) (run_parts r f))

abbrev pub made_enum : ProgramTree → Run → Plan → ItemTree
made_enum P r pl = plain.enum_item r.span (new_enum P pl r.span)

abbrev pub new_items : ProgramTree → Run → Plan → Bounds → Function → ProgramTree
new_items P r pl bs f =
    if has_enum pl.exits then made_enum P r pl ∷ made_function P r pl bs f ∷ [] else made_function P r pl bs f ∷ []

-- how many there are, and the number of the new function
abbrev pub added : Plan → ℕ
added pl = if has_enum pl.exits then 2 else 1

abbrev pub new_number : Run → Plan → ℕ
new_number r pl = r.item + added pl

-- ---- the program

-- of f with its kinds and types pinned
abbrev pub in_two : ProgramTree → Run → Plan → Bounds → Span → Function → ProgramTree
in_two P r pl bs s f = plain.function_item s (with_call P r pl f) ∷ new_items P r pl bs f

-- what becomes of the function of a number
abbrev pub at_function : ℕ → (Span → Function → ProgramTree) → ProgramTree → ProgramTree
at_function n F [] = []
at_function zero F (plain.function_item s f ∷ is) = F s f ++ is
at_function zero F (i ∷ is) = i ∷ is
at_function (suc n) F (i ∷ is) = i ∷ at_function n F is

abbrev pub extraction : ProgramTree → Run → Plan → Bounds → ProgramTree
extraction P r pl bs = at_function r.item (λ s f. in_two P r pl bs s (pinned_function P r.span pl.pins f)) P

-- Q is the extraction, apart from spans
abbrev pub Extracted : ProgramTree → Run → Plan → Bounds → ProgramTree → Type 0
Extracted P r pl bs Q = SameProgram Q (extraction P r pl bs)
