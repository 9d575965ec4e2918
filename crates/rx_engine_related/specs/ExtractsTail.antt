-- The answer's typed program is the text's with a call of a new function in place of a run that holds its block's tail (REM, "Extract method"), by its
-- trees alone; and what is had of such a run. In the run's block the text is read with marks where the run is entered and in front of its jumps,
-- and its tail is let pass (rx_engine_related).
use Rattle.std.specs.Prelude.{◌≡◌, ℕ, ◌≤◌, ◌==◌, Bool, true, List, Some}
use Rattle.rx_typed.specs.Tree as tree
use Rattle.rx_typed.specs.Tree.{Mark, Exp, Body, Function}
use Rattle.rx_lower_walks.specs.Orders.{order_function}
use Rattle.rx_meaning.specs.Values.{element, with_element}
use Rattle.rx_meaning.specs.Programs.{Program}
use Rattle.rx_exits_plan.specs.Runs.{Sits}
use Rattle.rx_exits_plan.specs.Coming.{HasNoMark}
use Rattle.rx_exits_plan.specs.Spots.{spots_of_function}
use Rattle.rx_exits_plan.specs.Asked.{Asked}
use Rattle.rx_exits_plan.specs.Plan.{Plan, IsPlan}
use Rattle.rx_exits_plan.specs.PartlyMoved.{PartlyMoved}
use Rattle.rx_modes_policy.specs.declared.uses.Mode.{Mode}
use Rattle.rx_modes_uses.specs.NotMut.{NotMut}
use Rattle.rx_modes_uses.specs.Aliased.{Aliased}
use Rattle.rx_engine_simulation.specs.Turns.{Allowance}
use Rattle.rx_engine_simulation.specs.Sights.{Renaming}
use Rattle.rx_engine_simulation.specs.Jumps.{Jumping}
use Rattle.rx_engine_simulation.specs.Openings.{Openings}
use Rattle.rx_engine_simulation.specs.Like.{LikeBody}
use Rattle.rx_engine_simulation.specs.Passing.{New}
use Rattle.rx_engine_simulation.specs.Called.{a_turn}
use Rattle.rx_engine_simulation.specs.Units.{UnitFunctions}
use Rattle.rx_engine_simulation.specs.Rereads.{RereadsProgram}
use Rattle.rx_engine_related.specs.AboutRun.{special_of}
use Rattle.rx_engine_related.specs.Accepted.{Accepted}
use Rattle.rx_engine_related.specs.OneSite.{blocks_at}
use Rattle.rx_engine_related.specs.Tailed.{tailed_body, tailed_of, HasNoPass}
use Rattle.rx_engine_related.specs.ByForm.{by_form, RelatedFunction, SameEntry}
use Rattle.rx_engine_related.specs.Tails.{the_tail_call}

-- an accepted text and a run in it with its block's tail, its plan, and no refusal
pub record HadTail (A : Asked) (muts : List Bool) (k : Plan) : Type 0 where
  pub tail : A.run.tail ≡ true
  pub plan : IsPlan A k
  pub accepted : Accepted A muts
  -- it sits in its function, which has no mark and lets no value pass; one block has its node
  pub sits : Sits A.function A.run A.home
  pub unmarked : HasNoMark (order_function A.function)
  pub unpassed : HasNoPass (order_function A.function)
  pub one_block : blocks_at A.run.block (spots_of_function A.function) ≤ 1
  pub whole : (x : ℕ) → ¬ (PartlyMoved A k x)
  pub unaliased : (x : ℕ) → ¬ (Aliased A muts k x)
  pub passed : (x : ℕ) → ¬ (NotMut A muts k x)

-- the run's function in the answer is the text's by other numbers but for the run's block, with such openings in that
pub data TailBlock (A : Asked) (muts : List Bool) (k : Plan) (items : ℕ → ℕ) (O : Openings) (gain : Allowance) : ℕ → Jumping → Renaming → (Exp → Exp) → (Exp → Exp) → Type 0 where
  tail_block : {a : ℕ} {J : Jumping} {R : Renaming} {m m' : Mark} {b b' : Body} → (m.node == A.run.block) ≡ true → LikeBody items O gain (by_form (special_of A muts k)) a J R (tailed_body A.run A.home.around.loops k.params b) b'
      → TailBlock A muts k items O gain a J R (λ e. tree.block m b) (λ e. tree.block m' b')

abbrev pub in_its_tail_block : Asked → List Bool → Plan → (ℕ → ℕ) → Openings → Allowance → Openings
in_its_tail_block A muts k items O gain = record {
  expression = λ V a J R e f g. TailBlock A muts k items O gain a J R f g;
  statements = λ V a J R S b f g. ⊥;
}

-- the text with the marks of such a run
abbrev pub with_tail_marks : Program → ℕ → Asked → Plan → Program
with_tail_marks P item A k = record { functions = with_element P.functions item (Some (tailed_of A k.params)); main = P.main }

-- as of a run without its block's tail
pub record ExtractsTail (A : Asked) (muts : List Bool) (k : Plan) (modes : List Mode) (P Q : Program) : Type 0 where
  pub item : ℕ
  pub is_there : element P.functions item ≡ Some (Some A.function)
  pub read : Program
  pub rereads : RereadsProgram Q read
  pub again : Bool
  pub new : New
  pub new_is_there : element read.functions new.number ≡ Some (Some new.function)
  pub items : ℕ → ℕ
  pub main : read.main ≡ items P.main
  pub others : (f : ℕ) → (f ≡ item → ⊥) → SameEntry items (element P.functions f) (element read.functions (items f))
  pub units : List ℕ
  pub are_units : UnitFunctions (with_tail_marks P item A k).functions units
  pub calling : Function
  pub calling_is_there : element read.functions (items item) ≡ Some (Some calling)
  pub related : RelatedFunction items (in_its_tail_block A muts k items (the_tail_call A muts k modes items (a_turn again) units new) (a_turn again)) (a_turn again) (special_of A muts k) A.function calling
