-- What is told of a run, its plan and the answer's new function is so: of an accepted text, a run in it that isn't refused, and an answer with
-- further items behind the run's function (REM, "Extract method").
use Rattle.std.specs.Prelude.{◌≡◌, ℕ, map, Option, Some}
use Rattle.rx_typed.specs.Types.{Typ}
use Rattle.rx_lower_walks.specs.Walks.{Among}
use Rattle.rx_exits_plan.specs.Points.{next, leaves}
use Rattle.rx_exits_plan.specs.Blocks.{tail, written_tail}
use Rattle.rx_exits_plan.specs.Runs.{inside}
use Rattle.rx_exits_plan.specs.Changed.{changed, changed_statement}
use Rattle.rx_exits_plan.specs.Asked.{Asked}
use Rattle.rx_exits_plan.specs.Plan.{Plan}
use Rattle.rx_meaning.specs.Values.{element}
use Rattle.rx_meaning.specs.Programs.{Program}
use Rattle.rx_engine_simulation.specs.Endings.{none_left, a_marked}
use Rattle.rx_engine_related.specs.AboutRun.{special_of}
use Rattle.rx_engine_related.specs.Running.{passing}
use Rattle.rx_engine_related.specs.Had.{Had}
use Rattle.rx_engine_related.specs.ExtractsTail.{HadTail}
use Rattle.rx_engine_related.specs.Never.{NeverEnds}
use Rattle.rx_engine_alike.specs.Items.{items_with}
use Rattle.rx_engine_extracted.specs.Told.{Told}
use Rattle.rx_engine_related.specs.Stretched.{stretch_of}

-- the run never goes on to its end, by its form, with marks in front of jumps out of it
abbrev pub NeverRuns : Asked → Type 0
NeverRuns A = NeverEnds none_left (stretch_of (map (changed_statement (passing A.home.around.loops)) (inside A.run A.home.body)))

pub record ToldOf (A : Asked) (T : Told) (item made : ℕ) (P Q : Program) : Type 0 where
  pub run : T.run ≡ A.run
  pub around : T.around ≡ A.home.around.loops
  pub elsewhere : T.elsewhere ≡ special_of A T.muts T.plan
  -- what is had of the text, with its plan
  pub had : Had A T.muts T.plan
  pub never : (Among next T.plan.exits → ⊥) → NeverRuns A
  -- the run's function is at this item, and so many items are behind it in the answer, which has the new function there
  pub is_there : element P.functions item ≡ Some (Some A.function)
  pub items : T.items ≡ items_with item made
  pub new_is_there : element Q.functions T.new.number ≡ Some (Some T.new.function)
  pub apart : (f : ℕ) → T.items f ≡ T.new.number → ⊥

-- ---- a run with its block's tail

-- nor does such a run
abbrev pub NeverRunsWhole : Asked → Type 0
NeverRunsWhole A = NeverEnds (a_marked (changed (passing A.home.around.loops) (written_tail A.run.block (tail A.home.body))) (leaves next))
    (stretch_of (map (changed_statement (passing A.home.around.loops)) (inside A.run A.home.body)))

-- the plan with a value of this type, which is not told
abbrev pub with_value : Option Typ → Plan → Plan
with_value t k = record k { value = t }

pub record ToldOfTail (A : Asked) (T : Told) (value : Option Typ) (item made : ℕ) (P Q : Program) : Type 0 where
  pub run : T.run ≡ A.run
  pub around : T.around ≡ A.home.around.loops
  pub elsewhere : T.elsewhere ≡ special_of A T.muts T.plan
  pub had : HadTail A T.muts (with_value value T.plan)
  pub never : (Among next T.plan.exits → ⊥) → NeverRunsWhole A
  pub is_there : element P.functions item ≡ Some (Some A.function)
  pub items : T.items ≡ items_with item made
  pub new_is_there : element Q.functions T.new.number ≡ Some (Some T.new.function)
  pub apart : (f : ℕ) → T.items f ≡ T.new.number → ⊥
