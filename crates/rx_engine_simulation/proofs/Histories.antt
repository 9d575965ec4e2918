-- What an activation did is a history of a walk of its function: what it told, without the bytes, is a walk.
use Rattle.std.proofs.Common.{◌≡◌, ℕ, List, [], ◌∷◌, ◌++◌, refl, sym, ap, ◌∙◌, subst, append_assoc, ◌⊎◌, inl, inr, ⊎_elim}
use Rattle.std.proofs.lemmas.List.{append-nil}
use Rattle.rx_typed.specs.Tree.{Function}
use Rattle.rx_lower_walks.specs.Actions.{Act, Dead, Action}
use Rattle.rx_lower_walks.specs.Orders.{Order, order_function}
use Rattle.rx_lower_walks.specs.Walks.{Walk, actions_in, Among, here, there, EndsVariable}
use Rattle.rx_lower_walks.proofs.HeldLemmas.{held}
use Rattle.rx_exits_plan.specs.Coming.{Into, all, in_first, in_second, in_one, in_other, in_arm, in_next, in_scope, in_pass, in_later}
use Rattle.rx_meaning.specs.Values.{Value, State}
use Rattle.rx_meaning.specs.Acting.{plainly}
use Rattle.rx_meaning.specs.Expressions.{Functions, activation, below_level}
use Rattle.rx_meaning.specs.Telling.{acted, told_by, out_of}
use Rattle.rx_meaning.proofs.RunsFollow.{fully_walks}
use Rattle.rx_engine_simulation.specs.Histories.{put, Borrowed, BorrowsOwn}
use Rattle.rx_engine_simulation.specs.Programs.{back, IsHistory, ComesTo, begins, goes}
use Rattle.rx_engine_simulation.proofs.Positions.{put_append}
use Rattle.rx_engine_simulation.proofs.Told.{Told, says, did, followed, onto}

back_onto : (w : List (Told ℕ)) (h r : List Action) → back (onto w h) r ≡ back h (acted w ++ r)
back_onto [] h r = refl
back_onto (says b ∷ w) h r = back_onto w h r
back_onto (did a ∷ w) h r = back_onto w (a ∷ h) r

pub activation_history : (P : Functions) (n : ℕ) (g : Function) (vs : List Value) (s : State) → IsHistory g (onto (told_by (activation followed (below_level followed P n) g vs s)) [])
activation_history P n g vs s =
    let q = activation followed (below_level followed P n) g vs s in
    ([], out_of q, subst (λ w. Walk (order_function g) w (out_of q)) (sym (back_onto (told_by q) [] [] ∙ append-nil (acted (told_by q)))) (fully_walks plainly P n g vs s))

-- ---- where a history has come to

into_trans : {q s t : Order} {w u : List Action} → Into s t u → Into q s w → Into q t (u ++ w)
into_trans all k = k
into_trans (in_first i) k = in_first (into_trans i k)
into_trans {q = q} {t = t} {w = w} (in_second {us = us} {w = v} a i) k = subst (λ l. Into q t l) (sym (append_assoc us v w)) (in_second a (into_trans i k))
into_trans (in_one i) k = in_one (into_trans i k)
into_trans (in_other i) k = in_other (into_trans i k)
into_trans (in_arm i) k = in_arm (into_trans i k)
into_trans {q = q} {t = t} {w = w} (in_next {us = us} {w = v} a i) k = subst (λ l. Into q t l) (sym (append_assoc us v w)) (in_next a (into_trans i k))
into_trans (in_scope i) k = in_scope (into_trans i k)
into_trans (in_pass i) k = in_pass (into_trans i k)
into_trans {q = q} {t = t} {w = w} (in_later {us = us} {w = v} a e i) k = subst (λ l. Into q t l) (sym (append_assoc us v w)) (in_later a e (into_trans i k))

-- it is what a walk of the function did until there
pub came : {g : Function} {q : Order} {h : List Action} → ComesTo g q h → (w : List Action) × (h ≡ put w []) × Into q (order_function g) w
came begins = ([], refl, all)
came (goes {w = w} i k) = let a = came k in (a.0 ++ w, ap (λ h. put w h) a.1 ∙ sym (put_append a.0 w []), into_trans a.2 i)

pub among_back : (h r : List Action) (a : Action) → Among a h ⊎ Among a r → Among a (back h r)
among_back [] r a (inl k) = elim k [ ]
among_back [] r a (inr k) = k
among_back (b ∷ h) r a (inl here) = among_back h (b ∷ r) a (inr here)
among_back (b ∷ h) r a (inl (there k)) = among_back h (b ∷ r) a (inl k)
among_back (b ∷ h) r a (inr k) = among_back h (b ∷ r) a (inr (there k))

borrowing : (h : List Action) (x : ℕ) → Borrowed h x → (a : Action) × Among a h × BorrowsOwn a.act x
borrowing [] x b = absurd b
borrowing (a ∷ h) x (inl b) = (a, here, b)
borrowing (a ∷ h) x (inr b) = let k = borrowing h x b.1 in (k.0, there k.1, k.2)

-- a variable of which no action of the function borrows the own storage
pub never_borrowed : (g : Function) (x : ℕ) → ((a : Action) → Among a (actions_in (order_function g)) → BorrowsOwn a.act x → ⊥) → (a : Action) (h : List Action) → IsHistory g (a ∷ h) → Borrowed h x → ⊥
never_borrowed g x none a h k b = by (borrowing h x b)
  where
    ends_none : (a : Act) → EndsVariable a → BorrowsOwn a x → ⊥
    ends_none (Dead y) e f = f
    ends_none _ e f = absurd e

    by : (a : Action) × Among a h × BorrowsOwn a.act x → ⊥
    by (c, i, f) = ⊎_elim (λ m. none c m f) (λ m. ends_none c.act m f) (held k.2 c (among_back h (a ∷ k.0) c (inl i)))
