-- An order with reads of variables behind the mark where a run is entered: without these reads its walks are those of the order.
use Rattle.std.proofs.Common.{◌≡◌, ℕ, Bool, true, false, List, [], ◌∷◌, ◌++◌, refl, subst, sym}
use Rattle.rx_lower_walks.specs.Actions.{Dead, Action, does}
use Rattle.rx_lower_walks.specs.Orders.{exit_node, Order}
use Rattle.rx_lower_walks.specs.Orders as order
use Rattle.rx_lower_walks.specs.Walks.{Out, stopped, IsAway, Walk, rests, stops, nothing, acts, both, first, one, other, holds, next, ends, jumps, halts, last, more, Among}
use Rattle.rx_exits_plan.specs.Points.{enters}
use Rattle.rx_exits_plan.specs.Marked.{shown}
use Rattle.rx_engine_related.specs.Reads.{entry_read, Wider, no_more, entered, kept, put_in}

-- ---- lists

pub from_anywhere : {xs : List ℕ} {us vs : List Action} (b : Bool) → Wider xs false us vs → Wider xs b us vs
from_anywhere b no_more = no_more
from_anywhere b (entered k) = entered k
from_anywhere b (kept k) = kept k

pub wider_both : {xs : List ℕ} {b : Bool} {us vs us1 vs1 : List Action} → Wider xs b us vs → Wider xs false us1 vs1 → Wider xs b (us ++ us1) (vs ++ vs1)
wider_both {b = b} no_more k = from_anywhere b k
wider_both (entered h) k = entered (wider_both h k)
wider_both (kept h) k = kept (wider_both h k)
wider_both (put_in y i h) k = put_in y i (wider_both h k)

pub wider_same : {xs : List ℕ} {b : Bool} (us : List Action) → Wider xs b us us
wider_same [] = no_more
wider_same (a ∷ us) = kept (wider_same us)

-- ---- orders

abbrev enters_there : Order
enters_there = order.then order.nothing (order.act (shown enters))

-- the first order is the second with such reads; whether it stands behind the mark
pub data Widened (xs : List ℕ) : Bool → Order → Order → Type 0 where
  as_it_was : {b : Bool} {s : Order} → Widened xs b s s
  put_first : {t s : Order} (y : ℕ) → Among y xs → Widened xs true t s → Widened xs true (order.then (order.act (entry_read y)) t) s
  w_entered : {t s : Order} → Widened xs true t s → Widened xs false (order.then enters_there t) (order.then enters_there s)
  w_then : {s t q r : Order} → Widened xs false s q → Widened xs false t r → Widened xs false (order.then s t) (order.then q r)
  w_or : {s t q r : Order} → Widened xs false s q → Widened xs false t r → Widened xs false (order.or s t) (order.or q r)
  w_otherwise : {s t q r : Order} → Widened xs false s q → Widened xs false t r → Widened xs false (order.otherwise s t) (order.otherwise q r)
  w_ending : {n x : ℕ} {s q : Order} → Widened xs false s q → Widened xs false (order.ending n x s) (order.ending n x q)
  w_passes : {l : ℕ} {s q : Order} → Widened xs false s q → Widened xs false (order.passes l s) (order.passes l q)

-- a walk of the order that lacks such reads
pub record Narrow (xs : List ℕ) (b : Bool) (q : Order) (us : List Action) (o : Out) : Type 0 where
  pub list : List Action
  pub walk : Walk q list o
  pub wider : Wider xs b list us

abbrev Maps : List ℕ → Bool → Order → Order → Type 0
Maps xs b s q = (us : List Action) (o : Out) → Walk s us o → Narrow xs b q us o

cut_off : {xs : List ℕ} {b : Bool} {q : Order} {us : List Action} {o : Out} → Narrow xs b q us o → Narrow xs b q us stopped
cut_off z = record { list = z.list; walk = stops z.walk; wider = z.wider }

rested : {xs : List ℕ} {b : Bool} {q : Order} → Narrow xs b q [] stopped
rested = record { list = []; walk = rests; wider = no_more }

-- it went no further than the read
only_read : {xs : List ℕ} {us : List Action} {o : Out} (y : ℕ) → Among y xs → Walk (order.act (entry_read y)) us o → Wider xs true [] us
only_read y i rests = no_more
only_read y i (stops h) = only_read y i h
only_read y i acts = put_in y i no_more

away_stopped : {us : List Action} {o : Out} {a : Action} → IsAway o → Walk (order.act a) us o → o ≡ stopped
away_stopped e rests = refl
away_stopped e (stops h) = refl
away_stopped e acts = elim e [ ]

put_narrow : {us : List Action} {o : Out} (xs : List ℕ) (y : ℕ) (t s : Order) → Among y xs → Maps xs true t s → Walk (order.then (order.act (entry_read y)) t) us o → Narrow xs true s us o
put_narrow xs y t s i f rests = rested
put_narrow xs y t s i f (stops h) = cut_off (put_narrow xs y t s i f h)
put_narrow xs y t s i f (both acts k) = let z = f _ _ k in record { list = z.list; walk = z.walk; wider = put_in y i z.wider }
put_narrow {us = us} {o = o} xs y t s i f (first e h) = subst (λ p. Narrow xs true s us p) (sym (away_stopped e h)) (record { list = []; walk = rests; wider = only_read y i h })

entered_narrow : {us : List Action} {o : Out} (xs : List ℕ) (t s : Order) → Maps xs true t s → Walk (order.then enters_there t) us o → Narrow xs false (order.then enters_there s) us o
entered_narrow xs t s f rests = rested
entered_narrow xs t s f (stops h) = cut_off (entered_narrow xs t s f h)
entered_narrow xs t s f (both (both nothing acts) k) = let z = f _ _ k in record { list = shown enters ∷ z.list; walk = both (both nothing acts) z.walk; wider = entered z.wider }
entered_narrow xs t s f (both (first e h) k) = elim e [ ]
entered_narrow {us = us} xs t s f (first e h) = record { list = us; walk = first e h; wider = wider_same us }

then_narrow : {us : List Action} {o : Out} (xs : List ℕ) (s t q r : Order) → Maps xs false s q → Maps xs false t r → Walk (order.then s t) us o → Narrow xs false (order.then q r) us o
then_narrow xs s t q r f g rests = rested
then_narrow xs s t q r f g (stops h) = cut_off (then_narrow xs s t q r f g h)
then_narrow xs s t q r f g (both a b) = let z = f _ _ a in let y = g _ _ b in record { list = z.list ++ y.list; walk = both z.walk y.walk; wider = wider_both z.wider y.wider }
then_narrow xs s t q r f g (first e a) = let z = f _ _ a in record { list = z.list; walk = first e z.walk; wider = z.wider }

or_narrow : {us : List Action} {o : Out} (xs : List ℕ) (s t q r : Order) → Maps xs false s q → Maps xs false t r → Walk (order.or s t) us o → Narrow xs false (order.or q r) us o
or_narrow xs s t q r f g rests = rested
or_narrow xs s t q r f g (stops h) = cut_off (or_narrow xs s t q r f g h)
or_narrow xs s t q r f g (one a) = let z = f _ _ a in record { list = z.list; walk = one z.walk; wider = z.wider }
or_narrow xs s t q r f g (other a) = let z = g _ _ a in record { list = z.list; walk = other z.walk; wider = z.wider }

otherwise_narrow : {us : List Action} {o : Out} (xs : List ℕ) (s t q r : Order) → Maps xs false s q → Maps xs false t r → Walk (order.otherwise s t) us o → Narrow xs false (order.otherwise q r) us o
otherwise_narrow xs s t q r f g rests = rested
otherwise_narrow xs s t q r f g (stops h) = cut_off (otherwise_narrow xs s t q r f g h)
otherwise_narrow xs s t q r f g (holds e a) = let z = f _ _ a in record { list = z.list; walk = holds e z.walk; wider = z.wider }
otherwise_narrow xs s t q r f g (next a b) = let z = f _ _ a in let y = g _ _ b in record { list = z.list ++ y.list; walk = next z.walk y.walk; wider = wider_both z.wider y.wider }

ending_narrow : {us : List Action} {o : Out} (xs : List ℕ) (n x : ℕ) (s q : Order) → Maps xs false s q → Walk (order.ending n x s) us o → Narrow xs false (order.ending n x q) us o
ending_narrow xs n x s q f rests = rested
ending_narrow xs n x s q f (stops h) = cut_off (ending_narrow xs n x s q f h)
ending_narrow xs n x s q f (ends a) = let z = f _ _ a in record { list = z.list ++ does n (Dead x) ∷ []; walk = ends z.walk; wider = wider_both z.wider (wider_same (does n (Dead x) ∷ [])) }
ending_narrow xs n x s q f (jumps {j = j} a) = let z = f _ _ a in record { list = z.list ++ does (exit_node j) (Dead x) ∷ []; walk = jumps z.walk; wider = wider_both z.wider (wider_same (does (exit_node j) (Dead x) ∷ [])) }
ending_narrow xs n x s q f (halts a) = let z = f _ _ a in record { list = z.list; walk = halts z.walk; wider = z.wider }

passes_narrow : {us : List Action} {o : Out} (xs : List ℕ) (l : ℕ) (s q : Order) → Maps xs false s q → Walk (order.passes l s) us o → Narrow xs false (order.passes l q) us o
passes_narrow xs l s q f rests = rested
passes_narrow xs l s q f (stops h) = cut_off (passes_narrow xs l s q f h)
passes_narrow xs l s q f (last a e) = let z = f _ _ a in record { list = z.list; walk = last z.walk e; wider = z.wider }
passes_narrow xs l s q f (more a e b) = let z = f _ _ a in let y = passes_narrow xs l s q f b in record { list = z.list ++ y.list; walk = more z.walk e y.walk; wider = wider_both z.wider y.wider }

pub narrow : {xs : List ℕ} {b : Bool} {t s : Order} {us : List Action} {o : Out} → Widened xs b t s → Walk t us o → Narrow xs b s us o
narrow {us = us} as_it_was h = record { list = us; walk = h; wider = wider_same us }
narrow {xs = xs} (put_first {t = t} {s = s} y i k) h = put_narrow xs y t s i (λ us o x. narrow k x) h
narrow {xs = xs} (w_entered {t = t} {s = s} k) h = entered_narrow xs t s (λ us o x. narrow k x) h
narrow {xs = xs} (w_then {s = s} {t = t} {q = q} {r = r} k l) h = then_narrow xs s t q r (λ us o x. narrow k x) (λ us o x. narrow l x) h
narrow {xs = xs} (w_or {s = s} {t = t} {q = q} {r = r} k l) h = or_narrow xs s t q r (λ us o x. narrow k x) (λ us o x. narrow l x) h
narrow {xs = xs} (w_otherwise {s = s} {t = t} {q = q} {r = r} k l) h = otherwise_narrow xs s t q r (λ us o x. narrow k x) (λ us o x. narrow l x) h
narrow {xs = xs} (w_ending {n = n} {x = x} {s = s} {q = q} k) h = ending_narrow xs n x s q (λ us o x. narrow k x) h
narrow {xs = xs} (w_passes {l = l} {s = s} {q = q} k) h = passes_narrow xs l s q (λ us o x. narrow k x) h
