-- What holds of each act that an order has holds of those of its walks, and of the variables that end there.
use Rattle.std.proofs.Common.{List, [], ◌∷◌, ◌++◌}
use Rattle.rx_tree.specs.Lists.{Every}
use Rattle.rx_lower_walks.specs.Actions.{Act, Dead, Action, does}
use Rattle.rx_lower_walks.specs.Orders as order
use Rattle.rx_lower_walks.specs.Orders.{Order, perhaps, order_function}
use Rattle.rx_lower_walks.specs.Walks.{actions_in, Among, here, there, Out, Walk, rests, stops, nothing, acts, both, first, one, other, leave, fail, holds, next, ends, jumps, halts, last, more, IsWalk}
use Rattle.rx_typed.specs.Tree.{Function}

module _ (Q : Act → Type 0) where
  abbrev pub Holds : Order → Type 0
  Holds order.nothing = Unit {0}
  Holds order.nowhere = Unit {0}
  Holds (order.act a) = Q a.act
  Holds (order.then s t) = Holds s × Holds t
  Holds (order.or s t) = Holds s × Holds t
  Holds (order.leave x) = Unit {0}
  Holds order.fail = Unit {0}
  Holds (order.otherwise s t) = Holds s × Holds t
  Holds (order.ending n x s) = Q (Dead x) × Holds s
  Holds (order.passes l s) = Holds s

  abbrev OfAction : Action → Type 0
  OfAction a = Q a.act

  joined : (a b : List Action) → Every OfAction a → Every OfAction b → Every OfAction (a ++ b)
  joined [] b g h = h
  joined (x ∷ a) b g h = (g.0, joined a b g.1 h)

  held : {s : Order} {w : List Action} {o : Out} → Walk s w o → Holds s → Every OfAction w
  held rests k = tt
  held (stops h) k = held h k
  held nothing k = tt
  held acts k = (k, tt)
  held (both {us = us} {vs = vs} h g) k = joined us vs (held h k.0) (held g k.1)
  held (first e h) k = held h k.0
  held (one h) k = held h k.0
  held (other h) k = held h k.1
  held leave k = tt
  held fail k = tt
  held (holds e h) k = held h k.0
  held (next {us = us} {vs = vs} h g) k = joined us vs (held h k.0) (held g k.1)
  held (ends {n = n} {x = x} {us = us} h) k = joined us (does n (Dead x) ∷ []) (held h k.1) (k.0, tt)
  held (jumps {x = x} {us = us} h) k = joined us _ (held h k.1) (k.0, tt)
  held (halts h) k = held h k.1
  held (last h e) k = held h k
  held (more {us = us} {vs = vs} h e g) k = joined us vs (held h k) (held g k)

  last_of : (w : List Action) (a : Action) (rest : List Action) → Every OfAction ((w ++ a ∷ []) ++ rest) → Q a.act
  last_of [] a rest h = h.0
  last_of (b ∷ w) a rest h = last_of w a rest h.1

  pub of_walk : (f : Function) → Holds (order_function f) → (w : List Action) (a : Action) → IsWalk f (w ++ a ∷ []) → Q a.act
  of_walk f k w a h = last_of w a h.0 (held h.2 k)

  -- so also of what no walk comes to
  one_of : (l m : List Action) (a : Action) → (Among a l → OfAction a) → (Among a m → OfAction a) → Among a (l ++ m) → OfAction a
  one_of [] m a f g i = g i
  one_of (b ∷ l) m a f g here = f here
  one_of (b ∷ l) m a f g (there i) = one_of l m a (λ j. f (there j)) g i

  pub of_among : (s : Order) → Holds s → (a : Action) → Among a (actions_in s) → Q a.act
  of_among order.nothing h a i = elim i [ ]
  of_among order.nowhere h a i = elim i [ ]
  of_among (order.act b) h _ here = h
  of_among (order.act b) h a (there i) = elim i [ ]
  of_among (order.then s t) h a i = one_of (actions_in s) (actions_in t) a (of_among s h.0 a) (of_among t h.1 a) i
  of_among (order.or s t) h a i = one_of (actions_in s) (actions_in t) a (of_among s h.0 a) (of_among t h.1 a) i
  of_among (order.leave x) h a i = elim i [ ]
  of_among order.fail h a i = elim i [ ]
  of_among (order.otherwise s t) h a i = one_of (actions_in s) (actions_in t) a (of_among s h.0 a) (of_among t h.1 a) i
  of_among (order.ending n x s) h a i = of_among s h.1 a i
  of_among (order.passes l s) h a i = of_among s h a i
