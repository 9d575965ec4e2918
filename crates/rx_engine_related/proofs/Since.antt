-- What a switch says behind a history, from the newest action back; a history as the list that a walk begins with.
use Rattle.std.proofs.Common.{◌≡◌, Bool, false, List, [], ◌∷◌, ◌++◌, refl, sym, ap, ◌∙◌, subst, append_assoc}
use Rattle.rx_typed.specs.Tree.{Function}
use Rattle.rx_lower_walks.specs.Actions.{Action}
use Rattle.rx_lower_walks.specs.Orders.{order_function}
use Rattle.rx_lower_walks.specs.Walks.{Walk, IsWalk}
use Rattle.rx_facts_tables.specs.Along.{Switch, behind, after}
use Rattle.rx_engine_simulation.specs.Histories.{put}
use Rattle.rx_engine_simulation.specs.Programs.{back, IsHistory}

abbrev pub since : Switch → List Action → Bool
since s [] = false
since s (a ∷ h) = behind s a (since s h)

pub after_back : (s : Switch) (h r : List Action) → after s (back h r) false ≡ after s r (since s h)
after_back s [] r = refl
after_back s (a ∷ h) r = after_back s h (a ∷ r)

pub back_put : (w h r : List Action) → back (put w h) r ≡ back h (w ++ r)
back_put [] h r = refl
back_put (a ∷ w) h r = back_put w (a ∷ h) r

pub back_both : (h r : List Action) → back h r ≡ back h [] ++ r
back_both [] r = refl
back_both (a ∷ h) r = back_both h (a ∷ r) ∙ sym (append_assoc (back h []) (a ∷ []) r) ∙ ap (λ l. l ++ r) (sym (back_both h (a ∷ [])))

-- a history is what a walk begins with
pub history_walk : (f : Function) (h : List Action) → IsHistory f h → IsWalk f (back h [])
history_walk f h k = (k.0, k.1, subst (λ l. Walk (order_function f) l k.1) (back_both h k.0) k.2)

pub walk_history : (f : Function) (h : List Action) → IsWalk f (back h []) → IsHistory f h
walk_history f h k = (k.0, k.1, subst (λ l. Walk (order_function f) l k.1) (sym (back_both h k.0)) k.2)

pub back_one : (a : Action) (h : List Action) → back (a ∷ h) [] ≡ back h [] ++ a ∷ []
back_one a h = back_both h (a ∷ [])

pub next_walk : (f : Function) (a : Action) (h : List Action) → IsHistory f (a ∷ h) → IsWalk f (back h [] ++ a ∷ [])
next_walk f a h k = subst (λ l. IsWalk f l) (back_one a h) (history_walk f (a ∷ h) k)

pub older : (f : Function) (a : Action) (h : List Action) → IsHistory f (a ∷ h) → IsHistory f h
older f a h k = (a ∷ k.0, k.1, k.2)
