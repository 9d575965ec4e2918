-- What the machine's functions do.
use Rattle.std.specs.Prelude.{◌≡◌, ◌<◌, ◌≤◌, ℕ, suc, ◌+◌, ◌++◌, Bool, true, false, List, [], ◌∷◌, reverse, Option, Some, None}
use Rattle.rx_meaning.specs.declared.outcome.End.{End}
use Rattle.rx_meaning.specs.declared.outcome.Outcome.{Outcome}
use Rattle.rx_meaning.specs.Values as values
use Rattle.rx_meaning.specs.Values.{State, and_then}
use Rattle.rx_tree.specs.declared.tree.BinaryOp.{BinaryOp}
use Rattle.rx_typed.specs.Tree as tree
use Rattle.rx_typed.specs.Tree.{Function}
use Rattle.rx_lower_walks.specs.Actions.{Write}
use Rattle.rx_machine_running.specs.Running.{Meaning, nowhere}
use Rattle.rx_lower_walks.specs.Orders.{Exit, breaks, continues, returns}
use Rattle.rx_meaning.specs.Operators as operators
use Rattle.rx_meaning.specs.Operators.{Computed}
use Rattle.rx_meaning.specs.Places as places
use Rattle.rx_meaning.specs.Places.{in_slot}
use Rattle.rx_meaning.specs.Results.{after}
use Rattle.rx_meaning.specs.Programs.{outcome_of}
use Rattle.rx_meaning.specs.Expressions.{Functions}
use Rattle.rx_core.specs.declared.types.Step.{Step as PlaceStep}
use Rattle.rx_typed.specs.PlainTree.{plain-Mark, plain-Expr}
use Rattle.rx_machine_values.specs.PlainMemory.{plain-Memory}
use Rattle.rx_machine_actions.specs.PlainActs.{found_from}
use Rattle.rx_machine_frames.specs.Frames as frames
use Rattle.rx_machine_frames.specs.Frames.{Around, does_next}
use Rattle.rx_machine_frames.specs.Stepping as stepping
use Rattle.rx_machine_frames.specs.Stepping.{Led, step, config, means, behind_pass}
use Rattle.rx_machine_frames.specs.Sizes.{hole_size, next_size}
use Rattle.rx_machine_frames.specs.Laws.{Keeps, Lessens}
use Rattle.rx_machine_direct.specs.Reaching.{Reach, reached, reach_size, Comes}
use Rattle.rx_machine_driver.specs.PlainSteps.{plain-Hole, plain-Next}
use Rattle.rx_machine_driver.specs.declared.slots.Slots.{Slots}
use Rattle.rx_machine_driver.specs.declared.data.Frame.{Frame}
use Rattle.rx_machine_driver.specs.declared.data.Frame.TheVariants as frame
use Rattle.rx_machine_driver.specs.declared.data.Machine.{Machine}
use Rattle.rx_machine_driver.specs.declared.data.Step.{Step}
use Rattle.rx_machine_driver.specs.declared.data.Step.TheVariants as step_to
use Rattle.rx_machine_driver.specs.declared.data.Paused.{Paused}
use Rattle.rx_machine_driver.specs.declared.data.Paused.TheVariants as paused
use Rattle.rx_machine_direct.specs.Direct.{recorded}
use Rattle.rx_machine_driver.specs.Fitting.{Fits, plain-Turn}

-- where a place of the text leads
abbrev pub spot_at : Machine → ℕ → List PlaceStep → Option places.Spot
spot_at m x ss = and_then (recorded m.slots.table.items x) (λ i. places.follow (plain-Memory m.memory) ss (in_slot i [] true))

-- and what stands there
abbrev pub found_at : Machine → ℕ → List PlaceStep → Option (places.Spot × values.Value)
found_at m x ss = and_then (recorded m.slots.table.items x) (λ i. found_from (plain-Memory m.memory) (in_slot i [] true) ss)

-- the step that this value or the want of it leads to
abbrev pub IsGiven : Option values.Value → Step → Type 0
IsGiven (Some v) (step_to.Next y) = plain-Next y ≡ frames.gives v
IsGiven None (step_to.End e) = e ≡ End.Wrong
IsGiven _ _ = ⊥

-- the machine went where the run goes
abbrev pub Follows : ℕ → Machine → frames.Next → List Around → State → Led → Machine → Step → Type 0
Follows t old x K s (stepping.goes w d) new (step_to.Next y) = Fits new t d.around d.state × (plain-Next y ≡ d.next) × (new.printed ≡ old.printed ++ w)
Follows t old x K s (stepping.goes w d) new (step_to.Turn u) = Fits new t d.around d.state × (plain-Turn u ≡ d.next) × (new.printed ≡ old.printed ++ w)
Follows t old x K s stepping.waits new (step_to.Turn u) = Fits new t K s × (plain-Turn u ≡ x) × (new.printed ≡ old.printed)
Follows t old x K s (stepping.ends w e) new (step_to.End r) = (r ≡ e) × (new.printed ≡ old.printed ++ w)
Follows t old x K s _ new _ = ⊥

-- a frame gets a value
abbrev pub GivesTo : Frame → values.Value → Step → Type 0
GivesTo (frame.Hole h) v (step_to.Next y) = plain-Next y ≡ frames.filled (plain-Hole h) v
GivesTo (frame.Pass m l e) v (step_to.Next y) = plain-Next y ≡ frames.loops (plain-Mark m.now) l (plain-Expr e.now)
GivesTo (frame.Call S) v (step_to.End e) = e ≡ End.Wrong
GivesTo _ v _ = ⊥

-- a jump leaves a call: the caller's slots are those of the machine again
abbrev pub LeavesCall : Machine → Slots → Exit → values.Value → Machine → Step → Type 0
LeavesCall old S (returns n) v new (step_to.Next y) = (new ≡ record old { slots = S }) × (plain-Next y ≡ frames.gives v)
LeavesCall old S (breaks n l) v new (step_to.End e) = (new ≡ old) × (e ≡ End.Wrong)
LeavesCall old S (continues n l) v new (step_to.End e) = (new ≡ old) × (e ≡ End.Wrong)
LeavesCall _ S _ v _ _ = ⊥

-- a jump leaves a frame
abbrev pub LeavesFrame : Machine → Frame → Exit → values.Value → Machine → Step → Type 0
LeavesFrame old (frame.Hole h) x v new (step_to.Next y) = (new ≡ old) × (plain-Next y ≡ frames.leaves x v)
LeavesFrame old (frame.Pass m l e) x v new (step_to.Next y) = (new ≡ old) × (plain-Next y ≡ behind_pass (plain-Mark m.now) l (plain-Expr e.now) x v)
LeavesFrame old (frame.Call S) x v new to = LeavesCall old S x v new to
LeavesFrame old f x v new _ = ⊥

-- the step that what was made leads to
abbrev pub IsMade : Computed → Step → Type 0
IsMade (operators.gives v) (step_to.Next y) = plain-Next y ≡ frames.gives v
IsMade (operators.traps t) (step_to.End e) = e ≡ End.Trapped t
IsMade operators.senseless (step_to.End e) = e ≡ End.Wrong
IsMade _ _ = ⊥

-- the step of a place that is read and written
abbrev pub IsWrittenBack : tree.Place → Computed → Step → Type 0
IsWrittenBack p (operators.gives w) (step_to.Next y) = plain-Next y ≡ frames.performs (Write p nowhere []) (w ∷ [])
IsWrittenBack p (operators.traps t) (step_to.End e) = e ≡ End.Trapped t
IsWrittenBack p operators.senseless (step_to.End e) = e ≡ End.Wrong
IsWrittenBack p _ _ = ⊥

abbrev pub IsModified : BinaryOp → tree.Place → Option values.Value → values.Value → Step → Type 0
IsModified o p (Some u) v to = IsWrittenBack p (operators.operate o u v) to
IsModified o p None v (step_to.End e) = e ≡ End.Wrong
IsModified o p None v _ = ⊥

-- the step where the first operand of `&&` or `||` told this
abbrev pub IsDecided : Option Bool → values.Value → tree.Exp → Step → Type 0
IsDecided (Some true) v f (step_to.Next y) = plain-Next y ≡ frames.part frames.second_of f
IsDecided (Some false) v f (step_to.Next y) = plain-Next y ≡ frames.gives v
IsDecided None v f (step_to.End e) = e ≡ End.Wrong
IsDecided _ v f _ = ⊥

-- the step behind a write
abbrev pub IsDone : Bool → Step → Type 0
IsDone true (step_to.Next y) = plain-Next y ≡ frames.gives values.unit_value
IsDone false (step_to.End e) = e ≡ End.Wrong
IsDone _ _ = ⊥

-- one step of the run, whatever frames and state the machine stands for
abbrev pub Leads : Machine → frames.Next → Machine → Step → Type 0
Leads old x new to = (t : ℕ) (K : List Around) (s : State) → Fits old t K s → Follows t old x K s (step K x s) new to

-- one turn, where one is left
abbrev pub Takes : Functions → Machine → frames.Next → Machine → Step → Type 0
Takes P old x new to = (t : ℕ) (K : List Around) (s : State) → Fits old (suc t) K s → Follows t old x K s (stepping.turn P K x s) new to

-- this leaves the rest of the run as it is, and less to do before the next turn
abbrev pub IsStep : List Around → frames.Next → State → Led → Type 0
IsStep K x s led = ((P : Functions) (n : ℕ) → s.turns < n → Keeps P n (config K x s) led) × Lessens (config K x s) led

-- one step or several that come to no turn
abbrev pub Reaches : Machine → frames.Next → Machine → Step → Type 0
Reaches old x new to = (t : ℕ) (K : List Around) (s : State) → Fits old t K s → (led : Led) × IsStep K x s led × Follows t old x K s led new to

-- one turn, where one is left, and steps behind it
abbrev pub Turns : Functions → Machine → frames.Next → Machine → Step → Type 0
Turns P old x new to = (t : ℕ) (K : List Around) (s : State) → Fits old (suc t) K s
    → (led : Led) × ((n : ℕ) → s.turns ≤ n → Keeps P n (config K x s) led) × Follows t old x K s led new to

-- an expression came so far, by writes to memory alone
abbrev pub Arrives : Machine → tree.Exp → Machine → Reach → Type 0
Arrives old e new r = (new ≡ record old { memory = new.memory }) × Comes old.slots.table.items (plain-Memory old.memory) e (plain-Memory new.memory) r

-- this comes next where an expression came so far
abbrev pub Begins : Reach → frames.Next → Type 0
Begins r y = ((P : Functions) (below : Meaning) (s : State) → reached P below r s ≡ does_next P below y s) × (next_size y ≤ reach_size r)

-- the function of an item
abbrev pub IsFunction : Option (Option Function) → Option Function → Type 0
IsFunction (Some (Some f)) o = o ≡ Some f
IsFunction _ o = o ≡ None

-- the body of a call begins, whatever item it is of
abbrev pub Enters : Machine → Function → List values.Value → Machine → Step → Type 0
Enters old f vs new to = (t : ℕ) (K : List Around) (s : State) (i : ℕ) → Fits old t K s → Follows t old (frames.finishes (frames.calls i) vs) K s (stepping.entered K i f vs s) new to

-- how a run ends that waits for a turn where none is left
abbrev pub IsCutOff : Functions → frames.Next → End → Type 0
IsCutOff P x e = (K : List Around) (s : State) → s.turns ≡ 0 → stepping.turn P K x s ≡ stepping.ends [] e

-- ---- what changes variables

-- in a state from which the rest of a change leads on alike
pub record Came (t : ℕ) (K : List Around) (m : Machine) (rest : State → Option State) (o : Option State) : Type 0 where
  pub state : State
  pub fits : Fits m t K state
  pub same : rest state ≡ o

-- a change is on its way: this is left of it
abbrev pub Through : (State → Option State) → Machine → Machine → (State → Option State) → Type 0
Through f old new rest = (new.printed ≡ old.printed) × ((t : ℕ) (K : List Around) (s : State) → Fits old t K s → Came t K new rest (f s))

-- a change is done, or it is Wrong
abbrev pub Changes : (State → Option State) → Machine → Machine → Bool → Type 0
Changes f old new true = Through f old new (λ s. Some s)
Changes f old new false = (new.printed ≡ old.printed) × ((t : ℕ) (K : List Around) (s : State) → Fits old t K s → f s ≡ None)

-- ---- how much is left to do before the next turn

abbrev pub frame_size : Frame → ℕ
frame_size (frame.Hole h) = hole_size (plain-Hole h)
frame_size (frame.Pass m l e) = 1
frame_size (frame.Call S) = 1

abbrev pub work_of : List Frame → ℕ
work_of [] = 0
work_of (f ∷ fs) = frame_size f + work_of fs

-- the frames and what comes next
abbrev pub left_size : Machine → frames.Next → ℕ
left_size m x = work_of (reverse m.frames) + next_size x

-- ---- whole runs

-- where so many turns are left, and this comes next, the run has this outcome
abbrev pub Stands : Functions → ℕ → ℕ → Machine → frames.Next → Outcome → Type 0
Stands P n t m x o = (K : List Around) × (s : State) × Fits m t K s × (outcome_of (after m.printed (means P n (config K x s))) ≡ o)

abbrev pub Ended : Machine → End → Outcome → Type 0
Ended m e o = record { printed = m.printed; end = e } ≡ o

abbrev pub Pauses : Functions → ℕ → ℕ → Machine → Paused → Outcome → Type 0
Pauses P n t m (paused.Turn u) o = Stands P n t m (plain-Turn u) o
Pauses P n t m (paused.End e) o = Ended m e o

-- how a run ends where no turn is left
abbrev pub EndsSo : Functions → Paused → End → Type 0
EndsSo P (paused.Turn u) e = IsCutOff P (plain-Turn u) e
EndsSo P (paused.End r) e = e ≡ r
