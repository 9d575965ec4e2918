-- When the machine's data stand for frames and a state of the run.
use Rattle.std.specs.Prelude.{◌≡◌, ℕ, List, [], ◌∷◌, reverse, map, option_map, Option}
use Rattle.std.proofs.Common.{Bor}
use Rattle.rx_typed.specs.declared.tree.TypedTree.{TypedTree}
use Rattle.rx_typed.specs.PlainTree.{plain-Mark, plain-Expr, plain-TypedTree}
use Rattle.rx_meaning.specs.Values.{slot_of, State}
use Rattle.rx_meaning.specs.Expressions.{Functions}
use Rattle.rx_machine_values.specs.PlainValues.{plain-Value}
use Rattle.rx_machine_direct.specs.Direct.{recorded}
use Rattle.rx_machine_values.specs.PlainMemory.{plain-Memory}
use Rattle.rx_machine_frames.specs.Frames as frames
use Rattle.rx_machine_frames.specs.Frames.{Around}
use Rattle.rx_machine_driver.specs.PlainSteps.{plain-Hole}
use Rattle.rx_machine_driver.specs.declared.slots.Slots.{Slots}
use Rattle.rx_machine_driver.specs.declared.data.Frame.{Frame}
use Rattle.rx_machine_driver.specs.declared.data.Frame.TheVariants as frame
use Rattle.rx_machine_driver.specs.declared.data.Machine.{Machine}
use Rattle.rx_machine_driver.specs.declared.data.Turn.{Turn}
use Rattle.rx_machine_driver.specs.declared.data.Turn.TheVariants as turn

-- the table tells the newest slot of each variable
abbrev pub Tells : Slots → List (ℕ × ℕ) → Type 0
Tells S l = (x : ℕ) → slot_of l x ≡ recorded S.table.items x

abbrev pub IsAround : Frame → Around → Type 0
IsAround (frame.Hole h) a = a ≡ frames.hole (plain-Hole h)
IsAround (frame.Pass m l e) a = a ≡ frames.pass (plain-Mark m.now) l (plain-Expr e.now)
IsAround (frame.Call S) (frames.call_from F) = Tells S F.slots
IsAround (frame.Call S) _ = ⊥

-- each frame, the innermost first
abbrev pub AreAround : List Frame → List Around → Type 0
AreAround [] [] = Unit {0}
AreAround (f ∷ fs) (a ∷ K) = IsAround f a × AreAround fs K
AreAround _ _ = ⊥

abbrev pub functions_of : List (Option (Bor TypedTree)) → Functions
functions_of l = map (λ o. option_map (λ f. plain-TypedTree f.now) o) l

-- the machine is where so many turns are left, with these frames around, in this state
pub record Fits (m : Machine) (t : ℕ) (K : List Around) (s : State) : Type 0 where
  pub memory : plain-Memory m.memory ≡ s.memory
  pub slots : Tells m.slots s.frame.slots
  pub input : m.input.now ≡ s.input
  pub turns : s.turns ≡ t
  pub frames : AreAround (reverse m.frames) K

abbrev pub plain-Turn : Turn → frames.Next
plain-Turn (turn.Calls f vs) = frames.finishes (frames.calls f) (map plain-Value vs)
plain-Turn (turn.Loops m l e) = frames.loops (plain-Mark m.now) l (plain-Expr e.now)
