-- Each front of a walk is a walk that stopped: by induction on the walk, whose list is cut in one of its pieces.
use Rattle.std.proofs.Common.{◌≡◌, List, [], ◌∷◌, ◌++◌, ◌⊎◌, inl, inr, refl, sym, ◌∙◌, subst}
use Rattle.rx_lower_walks.specs.Actions.{Dead, Action, does}
use Rattle.rx_lower_walks.specs.Orders.{exit_node, Order}
use Rattle.rx_lower_walks.specs.Walks.{Out, stopped, Walk, rests, stops, nothing, acts, both, first, one, other, leave, fail, holds, next, ends, jumps, halts, last, more, by_stop}

-- two lists in two pieces each: one of the first pieces begins the other
Cut : {A : Type 0} → List A → List A → List A → List A → Type 0
Cut {A = A} a b c d = ((r : List A) × (a ≡ c ++ r)) ⊎ ((r : List A) × (c ≡ a ++ r) × (b ≡ r ++ d))

nil_right : {A : Type 0} (w : List A) → w ++ [] ≡ w
nil_right [] = refl
nil_right (a ∷ w) = rw (nil_right w)

cut : {A : Type 0} (a b c d : List A) → a ++ b ≡ c ++ d → Cut a b c d
unfolding Cut
cut [] b c d e = inr (c, refl, e)
cut (x ∷ a) b [] d e = inl (x ∷ a, refl)
cut (x ∷ a) b (y ∷ c) d e = by (cut a b c d (cc))
  where
    by : Cut a b c d → Cut (x ∷ a) b (y ∷ c) d
    by (inl h) = inl (h.0, cc)
    by (inr h) = inr (h.0, cc, h.2)

empty : {A : Type 0} (us vs : List A) → [] ≡ us ++ vs → us ≡ []
empty [] vs e = refl
empty (u ∷ us) vs e = absurd (cc)

-- of a list with one element at its end
data Short {A : Type 0} (a : A) (w : List A) : List A → Type 0 where
  within : {us : List A} (r : List A) → w ≡ us ++ r → Short a w us
  all : Short a w (w ++ a ∷ [])

short : {A : Type 0} (a : A) (w us vs : List A) → w ++ a ∷ [] ≡ us ++ vs → Short a w us
unfolding Cut
short a w us vs e = by (cut w (a ∷ []) us vs e)
  where
    by : Cut w (a ∷ []) us vs → Short a w us
    by (inl h) = within h.0 h.1
    by (inr ([], h, k)) = within [] (sym (h ∙ nil_right w) ∙ sym (nil_right us))
    by (inr (r ∷ [], h, k)) = subst (λ l. Short a w l) (cc) all
    by (inr (r ∷ q ∷ rs, h, k)) = absurd (cc)

-- a front of two parts, one behind the other
of_both : {X : Order} (us0 vs0 us vs : List Action) → Cut us0 vs0 us vs
    → ((r : List Action) → us0 ≡ us ++ r → Walk X us stopped) → ((r : List Action) → vs0 ≡ r ++ vs → Walk X (us0 ++ r) stopped) → Walk X us stopped
unfolding Cut
of_both us0 vs0 us vs (inl c) h k = h c.0 c.1
of_both {X = X} us0 vs0 us vs (inr c) h k = subst (λ l. Walk X l stopped) (sym c.1) (k c.0 c.2)

-- a front of a part with an action behind it
of_short : {X : Order} (a : Action) (us0 us : List Action) → Short a us0 us
    → ((r : List Action) → us0 ≡ us ++ r → Walk X us stopped) → Walk X (us0 ++ a ∷ []) stopped → Walk X us stopped
of_short a us0 us (within r e) h k = h r e
of_short a us0 us all h k = k

of_none : (X : Order) (us vs : List Action) → [] ≡ us ++ vs → Walk X us stopped
of_none X us vs e = subst (λ l. Walk X l stopped) (sym (empty us vs e)) rests

pub fronts : {s : Order} {w : List Action} {o : Out} → Walk s w o → (us vs : List Action) → w ≡ us ++ vs → Walk s us stopped
fronts rests us vs e = of_none _ us vs e
fronts (stops h) us vs e = fronts h us vs e
fronts nothing us vs e = of_none _ us vs e
fronts (acts {a = a}) us vs e = of_short a [] us (short a [] us vs e) (λ r q. of_none _ us r q) (stops acts)
fronts (both {us = us0} {vs = vs0} h k) us vs e = of_both us0 vs0 us vs (cut us0 vs0 us vs e) (λ r q. first tt (fronts h us r q)) (λ r q. both h (fronts k r vs q))
fronts (first a h) us vs e = first tt (fronts h us vs e)
fronts (one h) us vs e = one (fronts h us vs e)
fronts (other h) us vs e = other (fronts h us vs e)
fronts leave us vs e = of_none _ us vs e
fronts fail us vs e = of_none _ us vs e
fronts (holds a h) us vs e = holds tt (fronts h us vs e)
fronts (next {us = us0} {vs = vs0} h k) us vs e = of_both us0 vs0 us vs (cut us0 vs0 us vs e) (λ r q. holds tt (fronts h us r q)) (λ r q. next h (fronts k r vs q))
fronts (ends {n = n} {x = x} {us = us0} h) us vs e = of_short (does n (Dead x)) us0 us (short (does n (Dead x)) us0 us vs e) (λ r q. halts (fronts h us r q)) (stops (ends h))
fronts (jumps {x = x} {us = us0} {j = j} h) us vs e =
    of_short (does (exit_node j) (Dead x)) us0 us (short (does (exit_node j) (Dead x)) us0 us vs e) (λ r q. halts (fronts h us r q)) (stops (jumps h))
fronts (halts h) us vs e = halts (fronts h us vs e)
fronts (last h k) us vs e = last (fronts h us vs e) by_stop
fronts (more {us = us0} {vs = vs0} h p k) us vs e = of_both us0 vs0 us vs (cut us0 vs0 us vs e) (λ r q. last (fronts h us r q) by_stop) (λ r q. more h p (fronts k r vs q))
