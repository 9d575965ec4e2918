-- Where the run stands in the text, told by marks (rx_exits_plan), the call stands in the answer (REM, "Extract method").
use Rattle.std.specs.Prelude.{◌≡◌, ℕ, Bool, List, [], ◌∷◌, length, Some}
use Rattle.rx_typed.specs.Tree as tree
use Rattle.rx_typed.specs.Tree.{Mark, Exp, Operands, Arms, Body, Subpatterns}
use Rattle.rx_lower_walks.specs.Walks.{Among}
use Rattle.rx_exits_plan.specs.Points.{next, enters, leaves}
use Rattle.rx_exits_plan.specs.Asked.{Asked}
use Rattle.rx_exits_plan.specs.Plan.{Plan}
use Rattle.rx_modes_policy.specs.declared.uses.Mode.{Mode}
use Rattle.rx_engine_simulation.specs.Turns.{Allowance}
use Rattle.rx_engine_simulation.specs.Sights.{Renaming}
use Rattle.rx_engine_simulation.specs.Jumps.{Jumping}
use Rattle.rx_engine_simulation.specs.Openings.{Openings}
use Rattle.rx_engine_simulation.specs.Passing.{New, inner_jumps}
use Rattle.rx_engine_simulation.specs.Blocks.{Stretch, before}
use Rattle.rx_engine_simulation.specs.Marks.{with_mark, closed_by}
use Rattle.rx_engine_simulation.specs.Endings.{Last, none_left, with_last}
use Rattle.rx_engine_simulation.specs.Packing.{Way, bare, as_variant, no_way, Gives, Receives, Picks, AreNew}
use Rattle.rx_engine_simulation.specs.Statements.{body_of}
use Rattle.rx_engine_related.specs.AboutRun.{special_of}
use Rattle.rx_engine_related.specs.Given.{EntersWith}
use Rattle.rx_engine_related.specs.Moved.{Moved, Ended}
use Rattle.rx_engine_related.specs.Handed.{Handed}
use Rattle.rx_engine_related.specs.Never.{NeverEnds}
use Rattle.rx_engine_related.specs.Leaving.{variant_for, jumps_of, ArmsOf}

-- the run's statements with the marks of its points and the reads of its params, where this is left of them
abbrev pub marked_run : Plan → Last → Stretch → Stretch
marked_run k none_left r = with_mark enters k.params (closed_by r (leaves next))
marked_run k _ r = with_mark enters k.params r

-- What the call gives, with the jumps of its function and how this ends. Alone, where the run's end is the only exit; or the match of it,
-- of which the arm of the end's variant gives the values, if the end is an exit.
pub data CallOf (A : Asked) (muts : List Bool) (k : Plan) (J : Jumping) (R : Renaming) (called : Exp) : Jumping → Way → Exp → Type 0 where
  call_alone : k.exits ≡ next ∷ [] → CallOf A muts k J R called inner_jumps bare called
  call_matched : {v : ℕ} {m : Mark} {l : Arms} {qs : List ℕ} {ps : Subpatterns} {e : Exp} (unit : Bool) → variant_for k next ≡ Some v → ArmsOf A muts k unit J R l → Picks l v ps e → Receives 0 qs ps → AreNew R qs → Gives bare qs e → length qs ≡ length (k.outs next)
      → CallOf A muts k J R called (jumps_of A muts k unit) (as_variant v) (tree.choose m (tree.of_value called) l)
  call_left : {m : Mark} {l : Arms} (unit : Bool) → (Among next k.exits → ⊥) → ArmsOf A muts k unit J R l → CallOf A muts k J R called (jumps_of A muts k unit) no_way (tree.choose m (tree.of_value called) l)

pub data RunBecomesCall (A : Asked) (muts : List Bool) (k : Plan) (modes : List Mode) (items : ℕ → ℕ) (gain : Allowance) (U : List ℕ) (N : New) : ℕ → Jumping → Renaming → Renaming → Body → (Body → Body) → (Body → Body) → Type 0 where
  run_becomes_call : {J Ji : Jumping} {R Rn : Renaming} {r r' : Stretch} {l : Last} {w : Way} {rest end : Body} {es : Operands} {mc : Mark} {called : Exp} {f' : Body → Body} (Ra Rb : Renaming) (mb : Mark) (ls : List (ℕ × ℕ))
      → N.function.body ≡ body_of mb ls r' end → EntersWith gain.strays k modes R es N.function.params ls Ra
      → Moved items gain U (special_of A muts k) Ji Ra r r' Rb → Ended items gain U (special_of A muts k) Ji Rb l w (k.outs next) end
      → (w ≡ no_way → NeverEnds l r) → CallOf A muts k J R (tree.call mc N.number es) Ji w called → Handed A muts k R Rb called Rn f'
      → RunBecomesCall A muts k modes items gain U N 1 J R Rn rest (λ b. before (marked_run k l r) (with_last l b)) f'

abbrev pub the_call : Asked → List Bool → Plan → List Mode → (ℕ → ℕ) → Allowance → List ℕ → New → Openings
the_call A muts k modes items gain U N = record {
  expression = λ V a J R e f g. ⊥;
  statements = λ V a J R S b f g. RunBecomesCall A muts k modes items gain U N a J R S b f g;
}
