-- The body of a call: its parameters are written between the turn and the body, and leave the turns as they are.
use Rattle.std.proofs.Common.{◌≡◌, ℕ, ◌<◌, List, [], ◌∷◌, Option, None, Some, refl, sym, ap, ◌∙◌, subst}
use Rattle.rx_typed.specs.Tree.{Place, Temporary, Parameter, Function, own}
use Rattle.rx_lower_walks.specs.Actions.{Declare, Write}
use Rattle.rx_lower_walks.specs.Orders.{argument}
use Rattle.rx_meaning.specs.Endings.{Cause}
use Rattle.rx_meaning.specs.Values.{Value, unit_value, new_frame, State, with_memory, with_variable}
use Rattle.rx_meaning.specs.Results.{Result, Done, gives, or_ends, after, bind, result_of}
use Rattle.rx_meaning.specs.Places.{Spot, spot, after_write}
use Rattle.rx_meaning.specs.Straying.{why_not_found, why_not_written}
use Rattle.rx_meaning.specs.Acting.{plainly}
use Rattle.rx_meaning.specs.Expressions.{Functions, returned}
use Rattle.rx_machine_running.specs.Running.{acts, with_arguments, entered, value, level}
use Rattle.rx_machine_running.proofs.Runs.{at_a_turn}
use Rattle.rx_machine_frames.specs.Frames.{call_from, unwind}

-- go on alike where as many turns are left
abbrev Alike : State → (Value → State → Result ℕ Value) → (Value → State → Result ℕ Value) → Type 0
Alike s f g = (u : Value) (s1 : State) → s1.turns ≡ s.turns → f u s1 ≡ g u s1

declare_same : (x : ℕ) (s : State) (f g : Value → State → Result ℕ Value) → Alike s f g → bind (acts (Declare x) [] s) f ≡ bind (acts (Declare x) [] s) g
unfolding bind result_of
declare_same x s f g h = ap (after []) (h unit_value (with_variable x s) refl)

write_same : (p : Place) (t : Temporary) (v : Value) (s : State) (f g : Value → State → Result ℕ Value) → Alike s f g → bind (acts (Write p t []) (v ∷ []) s) f ≡ bind (acts (Write p t []) (v ∷ []) s) g
unfolding bind result_of
write_same p t v s f g h = by_spot (spot p [] s)
  where
    written : Cause → Option (List Value) → Done ℕ
    written c o = or_ends c o (λ M. gives [] unit_value (with_memory s M))

    by_memory : (c : Cause) (o : Option (List Value)) → bind (result_of (written c o)) f ≡ bind (result_of (written c o)) g
    by_memory c None = refl
    by_memory c (Some M) = ap (after []) (h unit_value (with_memory s M) refl)

    by_spot : (o : Option Spot) → bind (result_of (or_ends (why_not_found p [] s) o (λ at. written (why_not_written s.memory at) (after_write v s.memory at)))) f
        ≡ bind (result_of (or_ends (why_not_found p [] s) o (λ at. written (why_not_written s.memory at) (after_write v s.memory at)))) g
    by_spot None = refl
    by_spot (Some at) = by_memory (why_not_written s.memory at) (after_write v s.memory at)

arguments_same : (ps : List Parameter) (vs : List Value) (f g : State → Result ℕ Value) (s : State) → ((s1 : State) → s1.turns ≡ s.turns → f s1 ≡ g s1) → with_arguments ps vs f s ≡ with_arguments ps vs g s
unfolding with_arguments
arguments_same [] [] f g s h = h s refl
arguments_same [] (v ∷ vs) f g s h = refl
arguments_same (p ∷ ps) [] f g s h = refl
arguments_same (p ∷ ps) (v ∷ vs) f g s h =
    declare_same p.variable s _ _ (λ u s1 e. write_same (own p.variable) (argument p) v s1 _ _ (λ w s2 k. arguments_same ps vs f g s2 (λ s3 i. h s3 (i ∙ k ∙ e))))

pub call_begins : (P : Functions) (n i : ℕ) (f : Function) (vs : List Value) (s : State) → s.turns < n
    → entered (level P n) i f vs s ≡ unwind P (level P n) (call_from s.frame ∷ []) (with_arguments f.params vs (λ s1. value P (level P n) f.body s1) (record s { frame = new_frame i }))
unfolding unwind
call_begins P n i f vs s l = ap (returned plainly s.frame) (arguments_same f.params vs _ _ (record s { frame = new_frame i }) (λ s1 e. at_a_turn P n f.body s1 (subst (λ k. k < n) (sym e) l)))
