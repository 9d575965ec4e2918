-- A value that is let pass is that value: the text tells that it passed, while the answer stands still.
use Rattle.std.proofs.Common.{◌≡◌, ℕ, List, [], ◌∷◌, ◌++◌, refl, sym, ap, ◌∙◌, subst, append-nil, ⊎_elim, le_refl}
use Rattle.rx_typed.specs.Tree.{Exp, Temporary, temporary_of}
use Rattle.rx_lower_walks.specs.Actions.{Action}
use Rattle.rx_lower_walks.specs.Orders.{Order}
use Rattle.rx_lower_walks.specs.Orders as order
use Rattle.rx_lower_walks.specs.Walks as walk
use Rattle.rx_lower_walks.specs.Walks.{Walk}
use Rattle.rx_meaning.specs.Values.{Value, State}
use Rattle.rx_meaning.specs.Results.{Result, on, jumps, stops, bind, after, result_of}
use Rattle.rx_meaning.specs.Telling.{acted}
use Rattle.rx_meaning.specs.Acting.{performed}
use Rattle.rx_meaning.specs.Expressions.{Functions, Meaning, value, below_level}
use Rattle.rx_meaning.proofs.Sequences.{bind_bind, bind_same}
use Rattle.rx_meaning.proofs.Told.{acted_append}
use Rattle.rx_engine_simulation.specs.Passed.{let_pass, passage}
use Rattle.rx_engine_simulation.proofs.Told.{Told, did, noted, followed}
use Rattle.rx_engine_simulation.proofs.Values.{Pair, Given}
use Rattle.rx_engine_simulation.proofs.States.{Direction, Facts, Renaming, Frozen, grown_refl}
use Rattle.rx_engine_simulation.proofs.Keeping.{KillsNone, states_step}
use Rattle.rx_engine_simulation.proofs.Results.{Jumping, both_on, DoAlike, alike_bind_at}
use Rattle.rx_engine_simulation.proofs.Positions.{IsWalked, value_walk}

-- ---- what is computed

passed_step : (e : Exp) (t : Temporary) (v : Value) (s : State) → bind {B = Value} (bind (on [] [] s) (λ vs s2. on [] (v ∷ vs) s2)) (λ vs s1. performed followed (passage e t) vs s1) ≡ on (did (passage e t) ∷ []) v s
unfolding bind after result_of noted
passed_step e t v s = refl

pub pass_goes : (P : Functions) (low : Meaning (Told ℕ)) (e : Exp) (t : Temporary) (s : State) → value followed P low (let_pass e) t s ≡ bind (value followed P low e (temporary_of e) s) (λ v s1. on (did (passage e t) ∷ []) v s1)
unfolding value
pass_goes P low e t s = bind_bind (value followed P low e (temporary_of e) s) _ _ ∙ bind_same (value followed P low e (temporary_of e) s) _ _ _ refl (λ v s1. passed_step e t v s1)

pub given_on : {E : Type 0} (r : Result E Value) → bind r (λ v s1. on [] v s1) ≡ r
unfolding bind after
given_on (on w v s) = ap (λ l. on l v s) (append-nil w)
given_on (jumps w x v s) = refl
given_on (stops w e) = refl

-- ---- its walk, whichever temporary it goes to

told_walk : (s : Order) (a : Action) (r : Result (Told ℕ) Value) → IsWalked s r → IsWalked (order.then (order.then s order.nothing) (order.act a)) (bind r (λ v s1. on (did a ∷ []) v s1))
unfolding bind after
told_walk s a (on w v s1) k =
    subst (λ l. Walk (order.then (order.then s order.nothing) (order.act a)) l walk.on) (ap (λ l. l ++ a ∷ []) (append-nil (acted w)) ∙ sym (acted_append w (did a ∷ []))) (walk.both (walk.both k walk.nothing) walk.acts)
told_walk s a (jumps w x v s1) k = walk.first tt (walk.first tt k)
told_walk s a (stops w e) k = walk.first tt (walk.first tt k)

pub passed_walk : (P : Functions) (m : ℕ) (e : Exp) (t : Temporary) (s : State) → IsWalked (order.order (let_pass e) t) (value followed P (below_level followed P m) (let_pass e) t s)
passed_walk P m e t s =
    subst (λ r. IsWalked (order.order (let_pass e) t) r) (sym (pass_goes P (below_level followed P m) e t s)) (told_walk (order.order e (temporary_of e)) (passage e t) (value followed P (below_level followed P m) e (temporary_of e) s) (value_walk P m e s))

-- ---- beside the answer

passed_kills : (e : Exp) (t : Temporary) → KillsNone (passage e t)
passed_kills e t x k = ⊎_elim (λ e. e) (λ e. e) k

pub passes_alike : (P : Functions) (V : Facts) (d : Direction) (R : Renaming) (Z Z' : Frozen) (J : Jumping) (m c : ℕ) (h : List Action) (j : List Pair) (s s' : State) (e : Exp) (t : Temporary) (r : Result ℕ Value)
    → DoAlike V d R Z Z' J Given c h j s s' (value followed P (below_level followed P m) e (temporary_of e) s) r → DoAlike V d R Z Z' J Given c h j s s' (value followed P (below_level followed P m) (let_pass e) t s) r
passes_alike P V d R Z Z' J m c h j s s' e t r k =
    subst (λ q. DoAlike V d R Z Z' J Given c h j s s' q r) (sym (pass_goes P (below_level followed P m) e t s))
    (subst (λ q. DoAlike V d R Z Z' J Given c h j s s' (bind (value followed P (below_level followed P m) e (temporary_of e) s) (λ v s1. on (did (passage e t) ∷ []) v s1)) q) (given_on r)
    (alike_bind_at V d R Z Z' J Given Given c c h j s s' _ _ _ _ (le_refl c) (order.order e (temporary_of e)) (value_walk P m e s) k (λ h1 j1 v v' s1 s1' w g z.
    λ good. both_on j1 refl g (record { inv = states_step V R Z Z' (passage e t) h1 j1 s1 s1' (passed_kills e t) z.inv; grown = grown_refl j1 s1 s1'; turns = z.turns }))))
