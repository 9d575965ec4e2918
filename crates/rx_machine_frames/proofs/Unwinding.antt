-- What was printed already comes first, whatever frames are around; a jump leaves the holes.
use Rattle.std.proofs.Common.{◌≡◌, ℕ, ◌<◌, nat_eq, Bool, true, false, List, [], ◌∷◌, ◌++◌, if◌then◌else◌, refl, sym, ap, ◌∙◌}
use Rattle.rx_typed.specs.Tree.{Mark, Exp, loop}
use Rattle.rx_lower_walks.specs.Orders.{Exit, breaks, continues, returns}
use Rattle.rx_meaning.specs.Values.{Value, unit_value, Frame, State}
use Rattle.rx_meaning.specs.Results.{Result, on, jumps, stops, after, bind}
use Rattle.rx_meaning.specs.Acting.{plainly}
use Rattle.rx_meaning.specs.Expressions.{Functions, passed, returned}
use Rattle.rx_machine_running.specs.Running.{Meaning, value, level}
use Rattle.rx_machine_running.proofs.Runs.{at_a_turn}
use Rattle.rx_machine_frames.specs.Frames.{Hole, Around, hole, pass, call_from, loops, does_next, resume, unwind}
use Rattle.rx_meaning.proofs.Sequences.{after_after, bind_after}
use Rattle.rx_machine_frames.proofs.Steps.{opened_is}

passed_after : (l : ℕ) (w : List ℕ) (r : Result ℕ Value) (f : State → Result ℕ Value) → passed l (after w r) f ≡ after w (passed l r f)
unfolding passed after
passed_after l w (on x v s) f = sym (after_after w x (f s))
passed_after l w (jumps x (breaks n k) v s) f = by (nat_eq k l)
  where
    by : (b : Bool) → (if b then on (w ++ x) unit_value s else jumps (w ++ x) (breaks n k) v s) ≡ after w (if b then on x unit_value s else jumps x (breaks n k) v s)
    by true = refl
    by false = refl
passed_after l w (jumps x (continues n k) v s) f = by (nat_eq k l)
  where
    by : (b : Bool) → (if b then after (w ++ x) (f s) else jumps (w ++ x) (continues n k) v s) ≡ after w (if b then after x (f s) else jumps x (continues n k) v s)
    by true = sym (after_after w x (f s))
    by false = refl
passed_after l w (jumps x (returns n) v s) f = refl
passed_after l w (stops x e) f = refl

returned_after : (F : Frame) (w : List ℕ) (r : Result ℕ Value) → returned plainly F (after w r) ≡ after w (returned plainly F r)
unfolding returned after
returned_after F w (on x v s) = refl
returned_after F w (jumps x (breaks n k) v s) = refl
returned_after F w (jumps x (continues n k) v s) = refl
returned_after F w (jumps x (returns n) v s) = refl
returned_after F w (stops x e) = refl

pub unwind_after : (P : Functions) (below : Meaning) (K : List Around) (w : List ℕ) (r : Result ℕ Value) → unwind P below K (after w r) ≡ after w (unwind P below K r)
unfolding unwind
unwind_after P below [] w r = refl
unwind_after P below (hole h ∷ K) w r = ap (unwind P below K) (bind_after w r _) ∙ unwind_after P below K w (bind r (λ v s. resume P below h v s))
unwind_after P below (pass m l e ∷ K) w r = ap (unwind P below K) (passed_after l w r _) ∙ unwind_after P below K w (passed l r _)
unwind_after P below (call_from F ∷ K) w r = ap (unwind P below K) (returned_after F w r) ∙ unwind_after P below K w (returned plainly F r)

pub jump_leaves : (P : Functions) (below : Meaning) (h : Hole) (K : List Around) (w : List ℕ) (x : Exit) (v : Value) (s : State)
    → unwind P below (hole h ∷ K) (jumps w x v s) ≡ unwind P below K (jumps w x v s)
unfolding unwind bind
jump_leaves P below h K w x v s = refl

-- a pass of a loop, and the next one, where fewer turns are left than may be nested
pub pass_begins : (P : Functions) (n : ℕ) (m : Mark) (l : ℕ) (e : Exp) (s : State) → s.turns < n
    → passed l (level P n e s) (λ s1. level P n (loop m l e) s1) ≡ unwind P (level P n) (pass m l e ∷ []) (value P (level P n) e s)
unfolding unwind
pass_begins P n m l e s k = ap (λ r. passed l r (λ s1. level P n (loop m l e) s1)) (at_a_turn P n e s k)

pub pass_again : (P : Functions) (n : ℕ) (m : Mark) (l : ℕ) (e : Exp) (s : State) → s.turns < n → level P n (loop m l e) s ≡ does_next P (level P n) (loops m l e) s
pass_again P n m l e s k = at_a_turn P n (loop m l e) s k ∙ opened_is P (level P n) (loop m l e) s
