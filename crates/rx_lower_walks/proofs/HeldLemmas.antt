-- What a walk of a part holds is an action of the part, or ends a variable: by induction on the walk.
use Rattle.std.proofs.Common.{ℕ, List, [], ◌∷◌, ◌++◌, ◌⊎◌, inl, inr}
use Rattle.rx_lower_walks.specs.Actions.{Dead, Action, does}
use Rattle.rx_lower_walks.specs.Orders.{Order}
use Rattle.rx_lower_walks.specs.Walks.{Out, Walk, rests, stops, nothing, acts, both, first, one, other, leave, fail, holds, next, ends, jumps, halts, last, more, actions_in, Among, here, there, EndsVariable}

in_front : {a : Action} (us vs : List Action) → Among a us → Among a (us ++ vs)
in_front _ vs here = here
in_front _ vs (there h) = there (in_front _ vs h)

behind : {a : Action} (us vs : List Action) → Among a vs → Among a (us ++ vs)
behind [] vs h = h
behind (u ∷ us) vs h = there (behind us vs h)

parted : {a : Action} (us vs : List Action) → Among a (us ++ vs) → Among a us ⊎ Among a vs
parted [] vs h = inr h
parted (u ∷ us) vs here = inl here
parted {a = a} (u ∷ us) vs (there h) = by (parted us vs h)
  where
    by : Among a us ⊎ Among a vs → Among a (u ∷ us) ⊎ Among a vs
    by (inl k) = inl (there k)
    by (inr k) = inr k

-- an action of either of two parts
abbrev pub Own : Action → List Action → Type 0
Own a l = Among a l ⊎ EndsVariable a.act

own_front : {a : Action} (us vs : List Action) → Own a us → Own a (us ++ vs)
own_front us vs (inl h) = inl (in_front us vs h)
own_front us vs (inr h) = inr h

own_behind : {a : Action} (us vs : List Action) → Own a vs → Own a (us ++ vs)
own_behind us vs (inl h) = inl (behind us vs h)
own_behind us vs (inr h) = inr h

of_two : {a : Action} (l us vs : List Action) → (Among a us → Own a l) → (Among a vs → Own a l) → Among a (us ++ vs) → Own a l
of_two {a = a} l us vs f g h = by (parted us vs h)
  where
    by : Among a us ⊎ Among a vs → Own a l
    by (inl k) = f k
    by (inr k) = g k

of_dead : {a : Action} (l : List Action) (n x : ℕ) → Among a (does n (Dead x) ∷ []) → Own a l
of_dead l n x here = inr tt
of_dead l n x (there h) = absurd (none h)
  where
    none : {b : Action} → Among b [] → ⊥
    none h = elim h [ ]

of_none : {a : Action} (l : List Action) → Among a [] → Own a l
of_none l h = elim h [ ]

pub held : {s : Order} {w : List Action} {o : Out} → Walk s w o → (a : Action) → Among a w → Own a (actions_in s)
held rests a k = of_none _ k
held (stops h) a k = held h a k
held nothing a k = of_none _ k
held acts a k = inl k
held (both {s = s} {t = t} {us = us} {vs = vs} h g) a k =
    of_two _ us vs (λ i. own_front (actions_in s) (actions_in t) (held h a i)) (λ i. own_behind (actions_in s) (actions_in t) (held g a i)) k
held (first {s = s} {t = t} e h) a k = own_front (actions_in s) (actions_in t) (held h a k)
held (one {s = s} {t = t} h) a k = own_front (actions_in s) (actions_in t) (held h a k)
held (other {s = s} {t = t} h) a k = own_behind (actions_in s) (actions_in t) (held h a k)
held leave a k = of_none _ k
held fail a k = of_none _ k
held (holds {s = s} {t = t} e h) a k = own_front (actions_in s) (actions_in t) (held h a k)
held (next {s = s} {t = t} {us = us} {vs = vs} h g) a k =
    of_two _ us vs (λ i. own_front (actions_in s) (actions_in t) (held h a i)) (λ i. own_behind (actions_in s) (actions_in t) (held g a i)) k
held (ends {us = us} h) a k = of_two _ us _ (λ i. held h a i) (λ i. of_dead _ _ _ i) k
held (jumps {us = us} h) a k = of_two _ us _ (λ i. held h a i) (λ i. of_dead _ _ _ i) k
held (halts h) a k = held h a k
held (last h e) a k = held h a k
held (more {us = us} {vs = vs} h e g) a k = of_two _ us vs (λ i. held h a i) (λ i. held g a i) k
