-- What holds of a case that meets a condition. What is decided is right as soon as a later condition speaks of it (REM, "Extract
-- function").
use Rattle.std.specs.Prelude.{◌≡◌, ◌≢◌, ℕ, ◌≤◌, ◌<◌, ◌^◌, Bool, true, false, List, [], length, map, Option, Some, None}
use Rattle.rx_tree.specs.Plain as plain
use Rattle.rx_tree.specs.Plain.{ItemTree, ProgramTree}
use Rattle.rx_tree.specs.Lists.{nth}
use Rattle.rx_lex.specs.Words.{is_identifier}
use Rattle.rx_lower.specs.Functions.{function_at}
use Rattle.rx_typeck_typed.specs.declared.typed.Typed.{Typed}
use Rattle.rx_typeck_typed.specs.declared.typed.TypedFn.{TypedFn}
use Rattle.rx_select.specs.RunOf.{RunOf}
use Rattle.rx_facts.specs.Functions.{body}
use Rattle.rx_exits_plan.specs.Runs.{Home, Sits}
use Rattle.rx_exits_jumps.specs.Seen.{first_home}
use Rattle.rx_exits_plan.specs.MixedInit.{MixedInit}
use Rattle.rx_exits_plan.specs.PartlyMoved.{PartlyMoved}
use Rattle.rx_exits_plan.specs.Asked.{Asked}
use Rattle.rx_exits_plan.specs.Plan.{Plan, IsPlan, is_moved}
use Rattle.rx_exits_plan.specs.declared.plan.ExitPlan.{ExitPlan}
use Rattle.rx_modes_policy.specs.declared.uses.Mode.{Mode}
use Rattle.rx_modes_policy.specs.declared.uses.Uses.{Uses}
use Rattle.rx_typed_runs.specs.declared.runs.RunPos.{RunPos}
use Rattle.rx_exits_plan.specs.PlainPlan.{plan_of, IsExitPlan}
use Rattle.rx_exits_plan.specs.Shadowed.{Shadowed}
use Rattle.rx_exits.specs.Refusing.{same_name as same_name_in}
use Rattle.rx_exits_plan.specs.Unreachable.{At, Unreachable, Endless}
use Rattle.rx_modes_uses.specs.Aliased.{Aliased}
use Rattle.rx_modes_uses.specs.Modes.{IsModes}
use Rattle.rx_modes_uses.specs.NotMut.{NotMut}
use Rattle.rx_hoist_extraction.specs.Plan as names
use Rattle.rx_hoist_extraction.specs.Run.{Parts, Run, run_parts}
use Rattle.rx_hoist_extraction.specs.Pinned.{pinned_function}
use Rattle.rx_hoist_extraction.specs.Limits.{first_past, count_parameters, count_lifetimes, made_parts}
use Rattle.rx_hoist_naming.specs.NamedPlan.{names_in}
use Rattle.rx_hoist_naming.specs.NameTest.{is_taken}
use Rattle.rx_hoist_nodes.specs.TypedRun.{typed_run}
use Rattle.rx_hoist_naming.specs.NamesWords.{identifiers}
use Rattle.rx_hoist_naming.specs.Words.{OutsAgree}
use Rattle.rx_print_spelling.specs.Items.{print_program}
use Rattle.rx_check.specs.declared.fault.CheckFault.{CheckFault}
use Rattle.rx_check.specs.declared.fault.CheckFault.TheVariants as check_fault
use Rattle.rx_check.specs.Causes.{Causes, PassCauses}
use Rattle.rx_check.specs.Passes.{IsFront, Accepted}
use Rattle.rx_core.specs.declared.types.Bound.{Bound}
use Rattle.rx_lower_lifetimes.specs.declared.whole.LowerFault.TheVariants as lower_fault
use Rattle.rx_repair.specs.Lacking.{Needs}
use Rattle.rx_engine_extraction.specs.Source.{Text, Wish}
use Rattle.rx_engine_extraction.specs.Case.{Case, asked}
use Rattle.rx_engine_extraction.specs.Made.{run_of, told, named, hoisted, new_item, named_bounds, extracted}
use Rattle.rx_engine_extraction.specs.Rendering.{Renders}
use Rattle.rx_engine_extraction.specs.Levels.{HasFewLevels}
use Rattle.rx_engine_extraction.specs.Confirmed.{Confirmed}
use Rattle.rx_engine_extraction.specs.Conditions.{Condition, selects, word, unused, reached, left, settled, whole, visible, passable, unmoved, few_parameters, few_lifetimes, few_levels, few_parts, few_numbers, fits, few_sites, few_positions, fits_bounded, known, legal, readable, few_bytes, confirmed}

-- ---- the limits

abbrev pub most_parameters : ℕ
most_parameters = 64

abbrev pub most_lifetimes : ℕ
most_lifetimes = 128

abbrev pub most_parts : ℕ
most_parts = 4096

abbrev pub most_sites : ℕ
most_sites = 16384

abbrev pub most_bytes : ℕ
most_bytes = 1048576

-- ---- what conditions speak of

-- the range selects this run
abbrev pub Selects : Text → Wish → Case → Type 0
Selects T w d = RunOf T.length T.tokens T.program w.start w.end d.run

-- its function, and its block there: the first that has it
pub record Seated (T : Text) (r : RunPos) (f : TypedFn) (h : Home) : Type 0 where
  pub function : function_at T.types.functions r.function ≡ Some f
  pub sits : Sits (body f) (typed_run T.program r) h
  pub first : first_home (typed_run T.program r) (body f) ≡ Some h

-- two variables of the function have one name
abbrev pub same_name : Text → Wish → Case → ℕ → ℕ → Bool
same_name T w d = same_name_in (names_in (told T w d))

-- the plan, as lists too, where an exit that is listed again hands out the same; and how its params are passed
pub record Passes (A : Asked) (f : TypedFn) (choice : Uses → Mode) (k : Plan) (list : ExitPlan) (modes : List Mode) (moved : List Bool) : Type 0 where
  pub listed : IsExitPlan A list
  pub agree : OutsAgree list.exits
  pub plan : k ≡ plan_of A list
  pub are_modes : IsModes A f.mutable k choice modes
  pub are_moved : moved ≡ map (is_moved A) k.params

-- the run as it stands in its function, pinned
abbrev pub parts_in : ProgramTree → names.Plan → Run → Option ItemTree → Parts
parts_in P pl r (Some (plain.function_item s f)) = run_parts r (pinned_function P r.span pl.pins f)
parts_in P pl r _ = record { statements = []; tail = plain.absent }

abbrev pub parts_of : Text → Wish → Case → Parts
parts_of T w d = parts_in T.program (named T w d) (run_of d.run) (nth T.program d.run.function)

-- a fault of another kind than that a graph passes its limits
abbrev pub IsUnfit : CheckFault → Type 0
IsUnfit (check_fault.Lower e) = ⊥
IsUnfit check_fault.OutOfMemory = ⊥
IsUnfit e = Unit {0}

-- the passes up to initialisation accept a program with these types, and the function of an item needs these bounds
pub record Fits (p : ProgramTree) (n : ℕ) (t : Typed) (g : TypedFn) (bs : List Bound) : Type 0 where
  pub front : IsFront p t
  pub made : function_at t.functions n ≡ Some g
  pub bounds : Needs t.decls.items g bs

-- this is the text of the extraction with its bounds
abbrev pub IsAnswer : Text → Wish → Case → List ℕ → Type 0
IsAnswer T w d text = Renders T.bytes T.tokens T.program (run_of d.run) (named T w d) (named_bounds T w d) text

-- ---- what holds

abbrev pub Holds : Text → Wish → Case → Condition → Type 0
Holds T w d selects = Selects T w d
Holds T w d word = is_identifier w.name ≡ true
Holds T w d unused = is_taken (identifiers T.tokens) w.name ≡ false
Holds T w d reached = Seated T d.run d.function d.home × ((q : At) → Unreachable (asked T d) q → ⊥)
Holds T w d left = Endless (asked T d) → ⊥
Holds T w d settled = (x : ℕ) → MixedInit (asked T d) x → ⊥
Holds T w d whole = IsPlan (asked T d) d.plan × ((x : ℕ) → PartlyMoved (asked T d) d.plan x → ⊥)
Holds T w d visible = (x : ℕ) → Shadowed (asked T d) d.plan (same_name T w d) x → ⊥
Holds T w d passable = (x : ℕ) → NotMut (asked T d) d.function.mutable d.plan x → ⊥
Holds T w d unmoved = ((x : ℕ) → Aliased (asked T d) d.function.mutable d.plan x → ⊥)
    × Passes (asked T d) d.function w.choice d.plan d.listed d.modes d.moved
Holds T w d few_parameters = count_parameters (named T w d) ≤ most_parameters
Holds T w d few_lifetimes = count_lifetimes T.program (named T w d) (parts_of T w d) ≤ most_lifetimes
Holds T w d few_levels = HasFewLevels T.bytes T.tokens T.program (run_of d.run) (named T w d)
Holds T w d few_parts = first_past most_parts (made_parts T.sizes (named T w d)) ≡ None
Holds T w d few_numbers = length (print_program (hoisted T w d)) < 2 ^ 32
Holds T w d fits = (e : CheckFault) → IsUnfit e → PassCauses e (hoisted T w d) → ⊥
Holds T w d few_sites = (f s l : ℕ) → PassCauses (check_fault.Lower (lower_fault.TooLarge f s l)) (hoisted T w d) → s ≤ most_sites
Holds T w d few_positions = Fits (hoisted T w d) (new_item T w d) d.types d.made d.bounds
Holds T w d fits_bounded = (e : CheckFault) → e ≢ check_fault.OutOfMemory → PassCauses e (extracted T w d) → ⊥
Holds T w d known = (i l k : ℕ) → Causes (check_fault.Region i l k) (extracted T w d) → ⊥
Holds T w d legal = Accepted (extracted T w d)
Holds T w d readable = IsAnswer T w d d.text
Holds T w d few_bytes = length d.text ≤ most_bytes
Holds T w d confirmed = Confirmed T w d
