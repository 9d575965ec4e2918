-- An answer that is found to be the extraction of a run (translation validation: what a transformation gave is tested, once and for each answer):
-- of an accepted text, with the plan of a run in it that isn't refused, with its block's tail or without, and of an accepted answer.
use Rattle.std.specs.Prelude.{◌≡◌, ℕ, true, Some, None, slice_get}
use Rattle.rx_tree.specs.Plain.{ProgramTree}
use Rattle.rx_tree.specs.Size.{IsNumbered}
use Rattle.rx_typed.specs.Types.{unit_shape, result_declared}
use Rattle.rx_typed.specs.PlainTypes.{declarations}
use Rattle.rx_typed.specs.PlainTree.{plain-TypedTree}
use Rattle.rx_typeck_typed.specs.declared.typed.Typed.{Typed}
use Rattle.rx_typeck_typed.specs.declared.typed.TypedFn.{TypedFn}
use Rattle.rx_lower_walks.specs.Walks.{Among}
use Rattle.rx_check.specs.Passes.{IsFront}
use Rattle.rx_meaning.specs.Values.{element}
use Rattle.rx_machine.specs.Functions.{program_of}
use Rattle.rx_exits_plan.specs.Runs.{Home, Sits}
use Rattle.rx_exits_plan.specs.Asked.{Asked}
use Rattle.rx_exits_plan.specs.Plan.{Plan, IsPlan}
use Rattle.rx_engine_related.specs.AboutRun.{special_of}
use Rattle.rx_engine_validated.specs.AskedOf.{asked_of}
use Rattle.rx_engine_validated.specs.Refused.{NotRefused}
use Rattle.rx_engine_validated.specs.Telling.{with_value}
use Rattle.rx_engine_alike.specs.Items.{items_with}
use Rattle.rx_engine_extracted.specs.Told.{Told}
use Rattle.rx_engine_extracted.specs.Programs.{extracts}

-- with the numbers of both `main`
pub record IsFound (p q : ProgramTree) (t u : Typed) (main other : ℕ) : Type 0 where
  pub few : IsNumbered p
  pub few_there : IsNumbered q
  pub front : IsFront p t
  pub accepted : IsFront q u
  -- the run and its function, and what is told of them
  pub told : Told
  pub function : TypedFn
  pub among : Among function t.functions
  pub home : Home
  pub sits : Sits (plain-TypedTree function.tree) told.run home
  -- its plan; of what type its value is isn't told
  pub plan : Plan
  pub is_plan : IsPlan (asked_of (declarations t.decls.items) front.parts function told.run home) plan
  pub kept : NotRefused (asked_of (declarations t.decls.items) front.parts function told.run home) function.mutable plan
  pub told_plan : told.plan ≡ with_value None plan
  pub around : told.around ≡ home.around.loops
  pub elsewhere : told.elsewhere ≡ special_of (asked_of (declarations t.decls.items) front.parts function told.run home) function.mutable plan
  pub muts : told.muts ≡ function.mutable
  -- the new function is declared to give the unit where this is told
  pub unit : told.gives_unit ≡ true → result_declared (slice_get (declarations u.decls.items) told.new.number) ≡ Some unit_shape
  -- its item, and how many items are behind it in the answer, of which one is the new function
  pub item : ℕ
  pub made : ℕ
  pub is_there : element (program_of t main).functions item ≡ Some (Some (plain-TypedTree function.tree))
  pub items : told.items ≡ items_with item made
  pub new_is_there : element (program_of u other).functions told.new.number ≡ Some (Some told.new.function)
  pub apart : (f : ℕ) → told.items f ≡ told.new.number → ⊥
  -- and so it is found
  pub found : extracts told item (program_of t main) (program_of u other) ≡ true
