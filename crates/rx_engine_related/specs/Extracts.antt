-- The answer's typed program is the text's with a call of a new function in place of a run (REM, "Extract method"), by its trees alone: no
-- history, walk or run is spoken of. In the run's block the text is read with marks where the run is entered and where it is left
-- (rx_exits_plan).
use Rattle.std.specs.Prelude.{◌≡◌, ℕ, Bool, List, Some}
use Rattle.rx_typed.specs.Tree.{Function}
use Rattle.rx_meaning.specs.Values.{element, with_element}
use Rattle.rx_meaning.specs.Programs.{Program}
use Rattle.rx_exits_plan.specs.Asked.{Asked}
use Rattle.rx_exits_plan.specs.Plan.{Plan}
use Rattle.rx_modes_policy.specs.declared.uses.Mode.{Mode}
use Rattle.rx_engine_simulation.specs.Passing.{New}
use Rattle.rx_engine_simulation.specs.Called.{a_turn}
use Rattle.rx_engine_simulation.specs.Units.{UnitFunctions}
use Rattle.rx_engine_simulation.specs.Rereads.{RereadsProgram}
use Rattle.rx_engine_related.specs.AboutRun.{special_of}
use Rattle.rx_engine_related.specs.Running.{running_of}
use Rattle.rx_engine_related.specs.ByForm.{RelatedFunction, SameEntry}
use Rattle.rx_engine_related.specs.InBlock.{in_its_block}
use Rattle.rx_engine_related.specs.Standing.{the_call}

-- the text with the marks of its run
abbrev pub with_its_marks : Program → ℕ → Asked → Plan → Program
with_its_marks P item A k = record { functions = with_element P.functions item (Some (running_of A k.params)); main = P.main }

pub record Extracts (A : Asked) (muts : List Bool) (k : Plan) (modes : List Mode) (P Q : Program) : Type 0 where
  -- the item of the run's function
  pub item : ℕ
  pub is_there : element P.functions item ≡ Some (Some A.function)
  -- the answer, in which a reference that is asked for again at an argument, a function's end or an assignment is read; whether one is
  -- asked for again where the new function is called
  pub read : Program
  pub rereads : RereadsProgram Q read
  pub again : Bool
  -- its new function, and its items for the text's
  pub new : New
  pub new_is_there : element read.functions new.number ≡ Some (Some new.function)
  pub items : ℕ → ℕ
  pub main : read.main ≡ items P.main
  pub others : (f : ℕ) → (f ≡ item → ⊥) → SameEntry items (element P.functions f) (element read.functions (items f))
  -- functions of the text that give the unit
  pub units : List ℕ
  pub are_units : UnitFunctions (with_its_marks P item A k).functions units
  -- the run's function there
  pub calling : Function
  pub calling_is_there : element read.functions (items item) ≡ Some (Some calling)
  pub related : RelatedFunction items (in_its_block A muts k items (the_call A muts k modes items (a_turn again) units new) (a_turn again)) (a_turn again) (special_of A muts k) A.function calling
