-- An order with further marks behind what is returned: it has the walks of the order, with these marks put in.
use Rattle.std.proofs.Common.{◌≡◌, ℕ, List, [], ◌∷◌, ◌++◌, refl, subst, ap, ◌∙◌}
use Rattle.rx_lower_walks.specs.Actions.{Dead, Action, does}
use Rattle.rx_lower_walks.specs.Orders.{Exit, exit_node, Order}
use Rattle.rx_lower_walks.specs.Orders as order
use Rattle.rx_lower_walks.specs.Walks as walk
use Rattle.rx_lower_walks.specs.Walks.{Out, on, stopped, IsAway, Walk, rests, stops, nothing, acts, both, first, one, other, leave, fail, holds, next, ends, jumps, halts, last, more}
use Rattle.rx_exits_plan.specs.Points.{leaves, returns}
use Rattle.rx_exits_plan.specs.Marked.{shown}

abbrev pub returned : Action
returned = shown (leaves returns)

-- ---- lists

-- the second list is the first with such marks
pub data More : List Action → List Action → Type 0 where
  no_more : More [] []
  kept : {a : Action} {us vs : List Action} → More us vs → More (a ∷ us) (a ∷ vs)
  put_in : {us vs : List Action} → More us vs → More us (returned ∷ vs)

pub more_both : {us vs us1 vs1 : List Action} → More us vs → More us1 vs1 → More (us ++ us1) (vs ++ vs1)
more_both no_more k = k
more_both (kept h) k = kept (more_both h k)
more_both (put_in h) k = put_in (more_both h k)

pub more_same : (us : List Action) → More us us
more_same [] = no_more
more_same (a ∷ us) = kept (more_same us)

-- it is cut where the first is
pub record Cut (us : List Action) (a : Action) (vs l : List Action) : Type 0 where
  pub front : List Action
  pub rest : List Action
  pub is : l ≡ front ++ a ∷ rest
  pub in_front : More us front
  pub behind : More vs rest

pub cut_more : (us : List Action) (a : Action) (vs : List Action) {l m : List Action} → m ≡ us ++ a ∷ vs → More m l → Cut us a vs l
cut_more us a vs e no_more = absurd (none us e)
  where
    none : (us : List Action) → [] ≡ us ++ a ∷ vs → ⊥
    none [] e = cc
    none (u ∷ us) e = cc
cut_more [] a vs e (kept {a = b} {us = us1} {vs = l} h) = record { front = []; rest = l; is = ap (λ c. c ∷ l) (cc); in_front = no_more; behind = subst (λ q. More q l) (cc) h }
cut_more (u ∷ us) a vs e (kept {a = b} {us = us1} {vs = l} h) =
    let z = cut_more us a vs (cc) h in
    let f : b ≡ u = cc in
    record { front = u ∷ z.front; rest = z.rest; is = ap (λ c. c ∷ l) f ∙ ap (λ q. u ∷ q) z.is; in_front = kept z.in_front; behind = z.behind }
cut_more us a vs e (put_in {vs = l} h) = let z = cut_more us a vs e h in record { front = returned ∷ z.front; rest = z.rest; is = ap (λ q. returned ∷ q) z.is; in_front = put_in z.in_front; behind = z.behind }

-- ---- orders

abbrev pub returned_there : Order
returned_there = order.then (order.then order.nothing (order.act returned)) order.nothing

pub data Furthered : Order → Order → Type 0 where
  as_it_was : {s : Order} → Furthered s s
  f_behind : {t s : Order} → Furthered t s → Furthered (order.then t returned_there) s
  f_then : {s t q r : Order} → Furthered s q → Furthered t r → Furthered (order.then s t) (order.then q r)
  f_or : {s t q r : Order} → Furthered s q → Furthered t r → Furthered (order.or s t) (order.or q r)
  f_otherwise : {s t q r : Order} → Furthered s q → Furthered t r → Furthered (order.otherwise s t) (order.otherwise q r)
  f_ending : {n x : ℕ} {s q : Order} → Furthered s q → Furthered (order.ending n x s) (order.ending n x q)
  f_passes : {l : ℕ} {s q : Order} → Furthered s q → Furthered (order.passes l s) (order.passes l q)

pub record Marked (t : Order) (us : List Action) (o : Out) : Type 0 where
  pub list : List Action
  pub walk : Walk t list o
  pub more : More us list

abbrev Maps : Order → Order → Type 0
Maps q s = (us : List Action) (o : Out) → Walk q us o → Marked s us o

cut_off : {q : Order} {us : List Action} {o : Out} → Marked q us o → Marked q us stopped
cut_off z = record { list = z.list; walk = stops z.walk; more = z.more }

rested : {q : Order} → Marked q [] stopped
rested = record { list = []; walk = rests; more = no_more }

all_through : Walk returned_there (returned ∷ []) on
all_through = both (both nothing acts) nothing

only_marks : More [] (returned ∷ [])
only_marks = put_in no_more

nil_right : (l : List Action) → l ++ [] ≡ l
nil_right [] = refl
nil_right (a ∷ l) = ap (λ k. a ∷ k) (nil_right l)

behind_marked : (t : Order) (us : List Action) (o : Out) → Marked t us o → Marked (order.then t returned_there) us o
behind_marked t us on z = record { list = z.list ++ returned ∷ []; walk = both z.walk all_through; more = subst (λ l. More l (z.list ++ returned ∷ [])) (nil_right us) (more_both z.more only_marks) }
behind_marked t us (walk.leaves x) z = record { list = z.list; walk = first tt z.walk; more = z.more }
behind_marked t us walk.fails z = record { list = z.list; walk = first tt z.walk; more = z.more }
behind_marked t us walk.stopped z = record { list = z.list; walk = first tt z.walk; more = z.more }

then_marked : {us : List Action} {o : Out} (s t q r : Order) → Maps q s → Maps r t → Walk (order.then q r) us o → Marked (order.then s t) us o
then_marked s t q r f g rests = rested
then_marked s t q r f g (stops h) = cut_off (then_marked s t q r f g h)
then_marked s t q r f g (both a b) = let z = f _ _ a in let y = g _ _ b in record { list = z.list ++ y.list; walk = both z.walk y.walk; more = more_both z.more y.more }
then_marked s t q r f g (first e a) = let z = f _ _ a in record { list = z.list; walk = first e z.walk; more = z.more }

or_marked : {us : List Action} {o : Out} (s t q r : Order) → Maps q s → Maps r t → Walk (order.or q r) us o → Marked (order.or s t) us o
or_marked s t q r f g rests = rested
or_marked s t q r f g (stops h) = cut_off (or_marked s t q r f g h)
or_marked s t q r f g (one a) = let z = f _ _ a in record { list = z.list; walk = one z.walk; more = z.more }
or_marked s t q r f g (other a) = let z = g _ _ a in record { list = z.list; walk = other z.walk; more = z.more }

otherwise_marked : {us : List Action} {o : Out} (s t q r : Order) → Maps q s → Maps r t → Walk (order.otherwise q r) us o → Marked (order.otherwise s t) us o
otherwise_marked s t q r f g rests = rested
otherwise_marked s t q r f g (stops h) = cut_off (otherwise_marked s t q r f g h)
otherwise_marked s t q r f g (holds e a) = let z = f _ _ a in record { list = z.list; walk = holds e z.walk; more = z.more }
otherwise_marked s t q r f g (next a b) = let z = f _ _ a in let y = g _ _ b in record { list = z.list ++ y.list; walk = next z.walk y.walk; more = more_both z.more y.more }

ending_marked : {us : List Action} {o : Out} (n x : ℕ) (s q : Order) → Maps q s → Walk (order.ending n x q) us o → Marked (order.ending n x s) us o
ending_marked n x s q f rests = rested
ending_marked n x s q f (stops h) = cut_off (ending_marked n x s q f h)
ending_marked n x s q f (ends a) = let z = f _ _ a in record { list = z.list ++ does n (Dead x) ∷ []; walk = ends z.walk; more = more_both z.more (more_same (does n (Dead x) ∷ [])) }
ending_marked n x s q f (jumps {j = j} a) = let z = f _ _ a in record { list = z.list ++ does (exit_node j) (Dead x) ∷ []; walk = jumps z.walk; more = more_both z.more (more_same (does (exit_node j) (Dead x) ∷ [])) }
ending_marked n x s q f (halts a) = let z = f _ _ a in record { list = z.list; walk = halts z.walk; more = z.more }

passes_marked : {us : List Action} {o : Out} (l : ℕ) (s q : Order) → Maps q s → Walk (order.passes l q) us o → Marked (order.passes l s) us o
passes_marked l s q f rests = rested
passes_marked l s q f (stops h) = cut_off (passes_marked l s q f h)
passes_marked l s q f (last a e) = let z = f _ _ a in record { list = z.list; walk = last z.walk e; more = z.more }
passes_marked l s q f (more a e b) = let z = f _ _ a in let y = passes_marked l s q f b in record { list = z.list ++ y.list; walk = more z.walk e y.walk; more = more_both z.more y.more }

pub with_returns : {t s : Order} {us : List Action} {o : Out} → Furthered t s → Walk s us o → Marked t us o
with_returns {us = us} as_it_was h = record { list = us; walk = h; more = more_same us }
with_returns {us = us} {o = o} (f_behind {t = t} k) h = behind_marked t us o (with_returns k h)
with_returns (f_then {s = s} {t = t} {q = q} {r = r} k l) h = then_marked s t q r (λ us o x. with_returns k x) (λ us o x. with_returns l x) h
with_returns (f_or {s = s} {t = t} {q = q} {r = r} k l) h = or_marked s t q r (λ us o x. with_returns k x) (λ us o x. with_returns l x) h
with_returns (f_otherwise {s = s} {t = t} {q = q} {r = r} k l) h = otherwise_marked s t q r (λ us o x. with_returns k x) (λ us o x. with_returns l x) h
with_returns (f_ending {n = n} {x = x} {s = s} {q = q} k) h = ending_marked n x s q (λ us o x. with_returns k x) h
with_returns (f_passes {l = l} {s = s} {q = q} k) h = passes_marked l s q (λ us o x. with_returns k x) h
