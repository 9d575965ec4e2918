-- What comes next is what the form does.
use Rattle.std.proofs.Common.{◌≡◌, ℕ, List, [], ◌∷◌, refl, sym, ap, ◌∙◌, append_assoc}
use Rattle.rx_typed.specs.Tree.{Exp, read, borrow, share, build, unit, lazily, assign, update, call, input, print, block, choose, loop, jump, give, Operands, no_operand, operand_and, Scrutinee, at_place, of_value, Arms, Pattern, Body, ends, runs, declares, lets, fields_of}
use Rattle.rx_lower_walks.specs.Matching.{bindings}
use Rattle.rx_lower_walks.specs.Actions.{subject}
use Rattle.rx_meaning.specs.Values.{Value, State}
use Rattle.rx_meaning.specs.Results.{Result, bind}
use Rattle.rx_meaning.specs.Expressions.{Functions}
use Rattle.rx_meaning.proofs.Sequences.{bind_bind, bind_on, bind_same}
use Rattle.rx_machine_running.specs.Running.{Meaning, bound, value, values, matched, arms, body}
use Rattle.rx_machine_frames.specs.Frames.{Work, makes, calls, Hole, operand, shares, first_of, second_of, assigns, updates, prints, gives_back, scrutinee, statement, initialiser, finish, resume, does_next, opened_operands, opened_choice, opened_let, opened, opened_body, filled}

-- an operand, and those behind it
one_out : (P : Functions) (below : Meaning) (i : ℕ) (e : Exp) (es : Operands) (s : State) (f : List Value → State → Result ℕ Value)
    → bind (values P below (operand_and i e es) s) f ≡ bind (value P below e s) (λ v s1. bind (values P below es s1) (λ vs s2. f (v ∷ vs) s2))
unfolding value
one_out P below i e es s f =
    bind_bind (value P below e s) _ f ∙ bind_same _ _ _ _ refl (λ v s1. bind_bind (values P below es s1) _ f ∙ bind_same _ _ _ _ refl (λ vs s2. bind_on (v ∷ vs) s2 f))

none_out : (P : Functions) (below : Meaning) (s : State) (f : List Value → State → Result ℕ Value) → bind (values P below no_operand s) f ≡ f [] s
unfolding value
none_out P below s f = bind_on [] s f

operands_are : (P : Functions) (below : Meaning) (w : Work) (es : Operands) (s : State) → bind (values P below es s) (λ vs s1. finish P below w vs s1) ≡ does_next P below (opened_operands w es) s
operands_are P below w no_operand s = none_out P below s _
operands_are P below w (operand_and i e es) s = one_out P below i e es s _

choice_is : (P : Functions) (below : Meaning) (c : Scrutinee) (l : Arms) (s : State) → bind (matched P below c s) (λ vs s1. arms P below (subject c) vs l s1) ≡ does_next P below (opened_choice c l) s
unfolding value
choice_is P below (at_place m p) l s = bind_on [] s _
choice_is P below (of_value e) l s = bind_bind (value P below e s) _ _ ∙ bind_same _ _ _ _ refl (λ v s1. bind_on (v ∷ []) s1 _)

let_is : (P : Functions) (below : Meaning) (c : Scrutinee) (p : Pattern) (b : Body) (s : State)
    → bind (matched P below c s) (λ vs s1. bound (subject c) vs (bindings [] p) (λ s2. body P below b s2) s1) ≡ does_next P below (opened_let c p b) s
unfolding value
let_is P below (at_place m q) p b s = bind_on [] s _
let_is P below (of_value e) p b s = bind_bind (value P below e s) _ _ ∙ bind_same _ _ _ _ refl (λ v s1. bind_on (v ∷ []) s1 _)

pub opened_is : (P : Functions) (below : Meaning) (e : Exp) (s : State) → value P below e s ≡ does_next P below (opened e) s
unfolding value
opened_is P below (read m moves p) s = refl
opened_is P below (build m w es) s = operands_are P below (makes w (fields_of es)) es s
opened_is P below (unit m) s = refl
opened_is P below (block m b) s = refl
opened_is P below (borrow m k p) s = refl
opened_is P below (share m e) s = refl
opened_is P below (lazily m b e f) s = refl
opened_is P below (assign m p e) s = refl
opened_is P below (update m o p e) s = refl
opened_is P below (call m f es) s = operands_are P below (calls f) es s
opened_is P below (input m) s = refl
opened_is P below (print m e) s = refl
opened_is P below (loop m l e) s = refl
opened_is P below (jump m l again) s = refl
opened_is P below (choose m c l) s = choice_is P below c l s
opened_is P below (give m e) s = refl

pub opened_body_is : (P : Functions) (below : Meaning) (b : Body) (s : State) → body P below b s ≡ does_next P below (opened_body b) s
unfolding value
opened_body_is P below (ends e) s = refl
opened_body_is P below (runs e rest) s = refl
opened_body_is P below (declares i xs rest) s = refl
opened_body_is P below (lets i p c rest) s = let_is P below c p rest s

pub filled_is : (P : Functions) (below : Meaning) (h : Hole) (v : Value) (s : State) → resume P below h v s ≡ does_next P below (filled h v) s
filled_is P below (operand w vs no_operand) v s = none_out P below s _
filled_is P below (operand w vs (operand_and i e es)) v s =
    one_out P below i e es s _ ∙ bind_same _ _ _ _ refl (λ u s1. bind_same _ _ _ _ refl (λ us s2. ap (λ l. finish P below w l s2) (sym (append_assoc vs (v ∷ []) (u ∷ us)))))
filled_is P below shares v s = refl
filled_is P below (first_of b f) v s = refl
filled_is P below second_of v s = refl
filled_is P below (assigns p) v s = refl
filled_is P below (updates o p) v s = refl
filled_is P below prints v s = refl
filled_is P below (gives_back n) v s = refl
filled_is P below (scrutinee S l) v s = refl
filled_is P below (statement b) v s = refl
filled_is P below (initialiser S p b) v s = refl
