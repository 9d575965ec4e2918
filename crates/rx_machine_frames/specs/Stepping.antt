-- One step of a run, from what comes next, the frames around and the state to the next of these.
use Rattle.std.specs.Prelude.{ℕ, zero, suc, nat_eq, Bool, true, false, List, [], ◌∷◌, Option, Some, None, if◌then◌else◌}
use Rattle.rx_typed.specs.Tree.{Mark, Place, Exp, Pattern, Function, operation}
use Rattle.rx_typed.specs.Tree as tree
use Rattle.rx_lower_walks.specs.Matching.{equals, bindings}
use Rattle.rx_lower_walks.specs.Actions.{Write, Build}
use Rattle.rx_lower_walks.specs.Orders.{Exit, breaks, continues, returns}
use Rattle.rx_meaning.specs.declared.outcome.End.{End}
use Rattle.rx_meaning.specs.Endings.{end_of}
use Rattle.rx_meaning.specs.Values.{Value, unit_value, and_then, element, Frame, new_frame, State, with_turns}
use Rattle.rx_meaning.specs.Results.{Result, Done, bind}
use Rattle.rx_meaning.specs.Results as results
use Rattle.rx_meaning.specs.Places.{found, whole_value}
use Rattle.rx_meaning.specs.Operators.{Computed, operate}
use Rattle.rx_meaning.specs.Operators as operators
use Rattle.rx_meaning.specs.Acting.{does_plainly, checked}
use Rattle.rx_meaning.specs.Expressions.{Functions}
use Rattle.rx_machine_running.specs.Running.{nowhere, level}
use Rattle.rx_machine_frames.specs.Frames.{Work, makes, calls, second_of, Next, goes_into, part, gives, performs, finishes, runs_body, tries, binds, begins, loops, leaves, decides, modifies, does_next, opened, opened_body, filled, Around, hole, pass, call_from, unwind}
use Rattle.rx_machine_frames.specs.Choosing.{first_arm, bind_all, declare_all, fill_all}

-- what comes next, with the frames around, the innermost first
pub record Config : Type 0 where
  pub around : List Around
  pub next : Next
  pub state : State

abbrev pub config : List Around → Next → State → Config
config K x s = record { around = K; next = x; state = s }

pub data Led : Type 0 where
  -- what this printed, and what comes then
  goes : List ℕ → Config → Led
  -- a turn is wanted
  waits : Led
  ends : List ℕ → End → Led

abbrev pub or_wrong : {A : Type 0} → Option A → (A → Led) → Led
or_wrong None go = ends [] End.Wrong
or_wrong (Some a) go = go a

-- ---- what becomes of a value and of a jump, by the innermost frame

abbrev pub given : List Around → Value → State → Led
given [] v s = ends [] End.Ended
given (hole h ∷ K) v s = goes [] (config K (filled h v) s)
given (pass m l e ∷ K) v s = goes [] (config K (loops m l e) s)
given (call_from F ∷ K) v s = ends [] End.Wrong

-- what comes behind a pass that a jump leaves: it ends this loop, or the pass alone, or it goes further out
abbrev pub behind_pass : Mark → ℕ → Exp → Exit → Value → Next
behind_pass m l e (breaks n k) v = if nat_eq k l then gives unit_value else leaves (breaks n k) v
behind_pass m l e (continues n k) v = if nat_eq k l then loops m l e else leaves (continues n k) v
behind_pass m l e (returns n) v = leaves (returns n) v

abbrev pub out_of_call : Frame → List Around → Exit → Value → State → Led
out_of_call F K (returns n) v s = goes [] (config K (gives v) (record s { frame = F }))
out_of_call F K _ v s = ends [] End.Wrong

abbrev pub left : List Around → Exit → Value → State → Led
left [] x v s = ends [] End.Wrong
left (hole h ∷ K) x v s = goes [] (config K (leaves x v) s)
left (pass m l e ∷ K) x v s = goes [] (config K (behind_pass m l e x v) s)
left (call_from F ∷ K) x v s = out_of_call F K x v s

-- ---- steps

abbrev pub done : List Around → Done ℕ → Led
done K (results.gives w v s) = goes w (config K (gives v) s)
done K (results.ends w e) = ends w (end_of e)

-- whether the second operand of `&&` or `||` comes
abbrev pub decided_by : List Around → Option Bool → Value → Exp → State → Led
decided_by K None v f s = ends [] End.Wrong
decided_by K (Some true) v f s = goes [] (config K (part second_of f) s)
decided_by K (Some false) v f s = goes [] (config K (gives v) s)

abbrev pub modified : List Around → Place → Computed → State → Led
modified K p (operators.gives w) s = goes [] (config K (performs (Write p nowhere []) (w ∷ [])) s)
modified K p (operators.traps t) s = ends [] (End.Trapped t)
modified K p operators.senseless s = ends [] End.Wrong

abbrev pub finished : List Around → Work → List Value → State → Led
finished K (makes w js) vs s = done K (does_plainly (Build w js [] nowhere) vs s)
finished K (calls f) vs s = waits

abbrev pub step : List Around → Next → State → Led
step K (goes_into e) s = goes [] (config K (opened e) s)
step K (part h e) s = goes [] (config (hole h ∷ K) (opened e) s)
step K (gives v) s = given K v s
step K (performs a vs) s = done K (does_plainly a vs s)
step K (finishes w vs) s = finished K w vs s
step K (runs_body b) s = goes [] (config K (opened_body b) s)
step K (tries S vs l) s =
    or_wrong (first_arm S vs l s) (λ a. or_wrong (bind_all S vs (bindings [] a.0) s) (λ s1. goes [] (config K (goes_into a.1) s1)))
step K (binds S vs p b) s = or_wrong (bind_all S vs (bindings [] p) s) (λ s1. goes [] (config K (runs_body b) s1))
step K (begins xs b) s = goes [] (config K (runs_body b) (declare_all xs s))
step K (loops m l e) s = waits
step K (leaves x v) s = left K x v s
step K (decides b v f) s = decided_by K (checked (equals (tree.truth b)) v) v f s
step K (modifies o p v) s =
    or_wrong (and_then (found p [] s) (λ f. whole_value f)) (λ u. modified K p (operate o u v) s)

-- ---- turns

-- one turn, unless none is left
abbrev pub with_turn : ℕ → State → (State → Led) → Led
with_turn zero s go = ends [] End.Running
with_turn (suc n) s go = go (with_turns s n)

-- the parameters are written in a new frame
abbrev pub entered : List Around → ℕ → Function → List Value → State → Led
entered K i g vs s =
    or_wrong (fill_all g.params vs (record s { frame = new_frame i })) (λ s1. goes [] (config (call_from s.frame ∷ K) (goes_into g.body) s1))

abbrev pub called : List Around → ℕ → Option (Option Function) → List Value → State → Led
called K i (Some (Some g)) vs s = with_turn s.turns s (λ s1. entered K i g vs s1)
called K i _ vs s = ends [] End.Wrong

-- what waits takes its turn: a call, or a pass of a loop
abbrev pub turn : Functions → List Around → Next → State → Led
turn P K (finishes (calls f) vs) s = called K f (element P f) vs s
turn P K (loops m l e) s = with_turn s.turns s (λ s1. goes [] (config (pass m l e ∷ K) (goes_into e) s1))
turn P K _ s = waits

-- ---- what is left of a run

unfoldable pub means : Functions → ℕ → Config → Result ℕ Value
means P n c = unwind P (level P n) c.around (does_next P (level P n) c.next c.state)
