-- Orders without a choice: their walks are the fronts of one list.
use Rattle.std.proofs.Common.{◌≡◌, ℕ, List, [], ◌∷◌, ◌++◌, refl, sym, ◌∙◌, subst, ap}
use Rattle.rx_typed.specs.Tree.{Temporary}
use Rattle.rx_lower_walks.specs.Actions.{Give, Action, does}
use Rattle.rx_lower_walks.specs.Orders.{returns, Exit, Order}
use Rattle.rx_lower_walks.specs.Orders as order
use Rattle.rx_lower_walks.specs.Walks.{Out, on, leaves, fails, stopped, IsAway, Walk, rests, stops, nothing, acts, both, first, leave}
use Rattle.rx_engine_initial.specs.Matching.{Ended, by_stopping, by_returning}
use Rattle.rx_engine_initial.specs.Handing.{Straight, no_action, one_action, in_sequence, giving}
use Rattle.rx_engine_initial.proofs.Tracing.{nil_right, joined}

-- it has taken a front of the list, and all of it where it goes on
pub data Taken (l : List Action) : List Action → Out → Type 0 where
  all_taken : Taken l l on
  some_taken : {us : List Action} (vs : List Action) → us ++ vs ≡ l → Taken l us stopped

taken_stops : {l us : List Action} {o : Out} → Taken l us o → Taken l us stopped
taken_stops {l = l} all_taken = some_taken [] (nil_right l)
taken_stops (some_taken vs e) = some_taken vs e

nothing_taken : {us : List Action} {o : Out} → Walk order.nothing us o → Taken [] us o
nothing_taken rests = some_taken [] refl
nothing_taken (stops h) = taken_stops (nothing_taken h)
nothing_taken nothing = all_taken

act_taken : {a : Action} {us : List Action} {o : Out} → Walk (order.act a) us o → Taken (a ∷ []) us o
act_taken {a = a} rests = some_taken (a ∷ []) refl
act_taken (stops h) = taken_stops (act_taken h)
act_taken acts = all_taken

behind_taken : {l m us vs : List Action} {o : Out} → Taken l us on → Taken m vs o → Taken (l ++ m) (us ++ vs) o
behind_taken all_taken all_taken = all_taken
behind_taken {l = l} all_taken (some_taken {us = us} vs e) = some_taken vs (joined l us vs ∙ ap (λ t. l ++ t) e)

first_taken : {l us : List Action} {o : Out} (m : List Action) → IsAway o → Taken l us o → Taken (l ++ m) us o
first_taken m e all_taken = elim e [ ]
first_taken m e (some_taken {us = us} vs h) = some_taken (vs ++ m) (sym (joined us vs m) ∙ ap (λ t. t ++ m) h)

then_taken : (s t : Order) (l m : List Action) → ((us : List Action) (o : Out) → Walk s us o → Taken l us o) → ((us : List Action) (o : Out) → Walk t us o → Taken m us o)
    → (us : List Action) (o : Out) → Walk (order.then s t) us o → Taken (l ++ m) us o
then_taken s t l m f g us o rests = some_taken (l ++ m) refl
then_taken s t l m f g us o (stops {o = p} h) = taken_stops (then_taken s t l m f g us p h)
then_taken s t l m f g us o (both {us = u} {vs = v} h k) = behind_taken (f u on h) (g v o k)
then_taken s t l m f g us o (first e h) = first_taken m e (f us o h)

pub straightly : {s : Order} {l : List Action} → Straight s l → (us : List Action) (o : Out) → Walk s us o → Taken l us o
straightly no_action us o h = nothing_taken h
straightly one_action us o h = act_taken h
straightly (in_sequence {s = s} {t = t} {us = l} {vs = m} a b) us o h = then_taken s t l m (straightly a) (straightly b) us o h

-- ---- what gives and returns

-- a front of a list, which stopped or returned
pub data Given (l : List Action) (n : ℕ) : List Action → Out → Type 0 where
  stopped_there : {us : List Action} (vs : List Action) → us ++ vs ≡ l → Given l n us stopped
  returned : Given l n l (leaves (returns n))

given_stops : {l us : List Action} {n : ℕ} {o : Out} → Given l n us o → Given l n us stopped
given_stops (stopped_there vs e) = stopped_there vs e
given_stops {l = l} returned = stopped_there [] (nil_right l)

leave_given : {us : List Action} {o : Out} {n : ℕ} → Walk (order.leave (returns n)) us o → Given [] n us o
leave_given rests = stopped_there [] refl
leave_given (stops h) = given_stops (leave_given h)
leave_given leave = returned

behind_given : {l m us vs : List Action} {n : ℕ} {o : Out} → Taken l us on → Given m n vs o → Given (l ++ m) n (us ++ vs) o
behind_given {l = l} all_taken (stopped_there {us = us} vs e) = stopped_there vs (joined l us vs ∙ ap (λ t. l ++ t) e)
behind_given all_taken returned = returned

first_given : {l us : List Action} {n : ℕ} {o : Out} (m : List Action) → IsAway o → Taken l us o → Given (l ++ m) n us o
first_given m e all_taken = elim e [ ]
first_given m e (some_taken {us = us} vs h) = stopped_there (vs ++ m) (sym (joined us vs m) ∙ ap (λ t. t ++ m) h)

then_given : (s t : Order) (l m : List Action) (n : ℕ) → ((us : List Action) (o : Out) → Walk s us o → Taken l us o) → ((us : List Action) (o : Out) → Walk t us o → Given m n us o)
    → (us : List Action) (o : Out) → Walk (order.then s t) us o → Given (l ++ m) n us o
then_given s t l m n f g us o rests = stopped_there (l ++ m) refl
then_given s t l m n f g us o (stops {o = p} h) = given_stops (then_given s t l m n f g us p h)
then_given s t l m n f g us o (both {us = u} {vs = v} h k) = behind_given (f u on h) (g v o k)
then_given s t l m n f g us o (first e h) = first_given m e (f us o h)

pub giving_given : {s : Order} {l : List Action} → Straight s l → (n : ℕ) (t : Temporary) (us : List Action) (o : Out) → Walk (giving s n t) us o → Given (l ++ does n (Give t) ∷ []) n us o
giving_given {s = s} {l = l} a n t us o h = then_given s (order.then (order.act (does n (Give t))) (order.leave (returns n))) l (does n (Give t) ∷ []) n (straightly a)
    (λ vs p k. then_given (order.act (does n (Give t))) (order.leave (returns n)) (does n (Give t) ∷ []) [] n (λ ws q i. act_taken i) (λ ws q i. leave_given i) vs p k) us o h

pub given_ended : {l us : List Action} {n : ℕ} {o : Out} → Given l n us o → Ended o
given_ended (stopped_there vs e) = by_stopping
given_ended returned = by_returning

pub given_front : {l us : List Action} {n : ℕ} {o : Out} → Given l n us o → (vs : List Action) × (us ++ vs ≡ l)
given_front (stopped_there vs e) = (vs, e)
given_front {l = l} returned = ([], nil_right l)
