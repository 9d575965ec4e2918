-- Without the marks behind what is returned, the walks of an order with them are those of the order.
use Rattle.std.proofs.Common.{◌≡◌, ℕ, Bool, true, false, not, ◌&&◌, ◌||◌, List, [], ◌∷◌, ◌++◌, refl, subst, sym, ap, true≢false}
use Rattle.rx_typed.specs.Tree.{variable}
use Rattle.rx_lower_walks.specs.Actions.{Dead, Action, does}
use Rattle.rx_lower_walks.specs.Orders.{exit_node, Order}
use Rattle.rx_lower_walks.specs.Orders as order
use Rattle.rx_lower_walks.specs.Walks.{Out, on, stopped, Walk, rests, stops, nothing, acts, both, first, one, other, holds, next, ends, jumps, halts, last, more}
use Rattle.rx_facts_tables.specs.Along.{ahead}
use Rattle.rx_facts_tables.specs.Live.{living}
use Rattle.rx_engine_related.proofs.Further.{returned, More, no_more, kept, put_in, more_both, more_same, returned_there, Furthered, as_it_was, f_behind, f_then, f_or, f_otherwise, f_ending, f_passes}

pub record Bare (s : Order) (vs : List Action) (o : Out) : Type 0 where
  pub list : List Action
  pub walk : Walk s list o
  pub more : More list vs

abbrev Maps : Order → Order → Type 0
Maps t s = (vs : List Action) (o : Out) → Walk t vs o → Bare s vs o

cut_off : {q : Order} {us : List Action} {o : Out} → Bare q us o → Bare q us stopped
cut_off z = record { list = z.list; walk = stops z.walk; more = z.more }

rested : {q : Order} → Bare q [] stopped
rested = record { list = []; walk = rests; more = no_more }

-- what the mark shows, and how it may end
data Goes : Out → Type 0 where
  goes_on : Goes on
  goes_no_further : Goes stopped

record Shown (vs : List Action) (o : Out) : Type 0 where
  pub more : More [] vs
  pub goes : Goes o

act_shown : {vs : List Action} {o : Out} → Walk (order.act returned) vs o → Shown vs o
act_shown rests = record { more = no_more; goes = goes_no_further }
act_shown (stops h) = record { more = (act_shown h).more; goes = goes_no_further }
act_shown acts = record { more = put_in no_more; goes = goes_on }

nothing_shown : {vs : List Action} {o : Out} → Walk order.nothing vs o → Shown vs o
nothing_shown rests = record { more = no_more; goes = goes_no_further }
nothing_shown (stops h) = record { more = (nothing_shown h).more; goes = goes_no_further }
nothing_shown nothing = record { more = no_more; goes = goes_on }

then_shown : {s t : Order} {vs : List Action} {o : Out} → ((us : List Action) (p : Out) → Walk s us p → Shown us p) → ((us : List Action) (p : Out) → Walk t us p → Shown us p) → Walk (order.then s t) vs o → Shown vs o
then_shown f g rests = record { more = no_more; goes = goes_no_further }
then_shown f g (stops h) = record { more = (then_shown f g h).more; goes = goes_no_further }
then_shown f g (both a b) = let y = g _ _ b in record { more = more_both (f _ _ a).more y.more; goes = y.goes }
then_shown f g (first e a) = f _ _ a

there_shown : {vs : List Action} {o : Out} → Walk returned_there vs o → Shown vs o
there_shown h = then_shown (λ us p k. then_shown (λ us p k. nothing_shown k) (λ us p k. act_shown k) k) (λ us p k. nothing_shown k) h

nil_right : (l : List Action) → l ++ [] ≡ l
nil_right [] = refl
nil_right (a ∷ l) = ap (λ k. a ∷ k) (nil_right l)

ended_so : {s : Order} {us vs : List Action} {o : Out} → Bare s us on → More [] vs → Goes o → Bare s (us ++ vs) o
ended_so {us = us} {vs = vs} z m goes_on = record { list = z.list; walk = z.walk; more = subst (λ l. More l (us ++ vs)) (nil_right z.list) (more_both z.more m) }
ended_so {us = us} {vs = vs} z m goes_no_further = record { list = z.list; walk = stops z.walk; more = subst (λ l. More l (us ++ vs)) (nil_right z.list) (more_both z.more m) }

behind_bare : {vs : List Action} {o : Out} (t s : Order) → Maps t s → Walk (order.then t returned_there) vs o → Bare s vs o
behind_bare t s f rests = rested
behind_bare t s f (stops h) = cut_off (behind_bare t s f h)
behind_bare t s f (both a b) = let y = there_shown b in ended_so (f _ _ a) y.more y.goes
behind_bare t s f (first e a) = f _ _ a

then_bare : {us : List Action} {o : Out} (s t q r : Order) → Maps s q → Maps t r → Walk (order.then s t) us o → Bare (order.then q r) us o
then_bare s t q r f g rests = rested
then_bare s t q r f g (stops h) = cut_off (then_bare s t q r f g h)
then_bare s t q r f g (both a b) = let z = f _ _ a in let y = g _ _ b in record { list = z.list ++ y.list; walk = both z.walk y.walk; more = more_both z.more y.more }
then_bare s t q r f g (first e a) = let z = f _ _ a in record { list = z.list; walk = first e z.walk; more = z.more }

or_bare : {us : List Action} {o : Out} (s t q r : Order) → Maps s q → Maps t r → Walk (order.or s t) us o → Bare (order.or q r) us o
or_bare s t q r f g rests = rested
or_bare s t q r f g (stops h) = cut_off (or_bare s t q r f g h)
or_bare s t q r f g (one a) = let z = f _ _ a in record { list = z.list; walk = one z.walk; more = z.more }
or_bare s t q r f g (other a) = let z = g _ _ a in record { list = z.list; walk = other z.walk; more = z.more }

otherwise_bare : {us : List Action} {o : Out} (s t q r : Order) → Maps s q → Maps t r → Walk (order.otherwise s t) us o → Bare (order.otherwise q r) us o
otherwise_bare s t q r f g rests = rested
otherwise_bare s t q r f g (stops h) = cut_off (otherwise_bare s t q r f g h)
otherwise_bare s t q r f g (holds e a) = let z = f _ _ a in record { list = z.list; walk = holds e z.walk; more = z.more }
otherwise_bare s t q r f g (next a b) = let z = f _ _ a in let y = g _ _ b in record { list = z.list ++ y.list; walk = next z.walk y.walk; more = more_both z.more y.more }

ending_bare : {us : List Action} {o : Out} (n x : ℕ) (s q : Order) → Maps s q → Walk (order.ending n x s) us o → Bare (order.ending n x q) us o
ending_bare n x s q f rests = rested
ending_bare n x s q f (stops h) = cut_off (ending_bare n x s q f h)
ending_bare n x s q f (ends a) = let z = f _ _ a in record { list = z.list ++ does n (Dead x) ∷ []; walk = ends z.walk; more = more_both z.more (more_same (does n (Dead x) ∷ [])) }
ending_bare n x s q f (jumps {j = j} a) = let z = f _ _ a in record { list = z.list ++ does (exit_node j) (Dead x) ∷ []; walk = jumps z.walk; more = more_both z.more (more_same (does (exit_node j) (Dead x) ∷ [])) }
ending_bare n x s q f (halts a) = let z = f _ _ a in record { list = z.list; walk = halts z.walk; more = z.more }

passes_bare : {us : List Action} {o : Out} (l : ℕ) (s q : Order) → Maps s q → Walk (order.passes l s) us o → Bare (order.passes l q) us o
passes_bare l s q f rests = rested
passes_bare l s q f (stops h) = cut_off (passes_bare l s q f h)
passes_bare l s q f (last a e) = let z = f _ _ a in record { list = z.list; walk = last z.walk e; more = z.more }
passes_bare l s q f (more a e b) = let z = f _ _ a in let y = passes_bare l s q f b in record { list = z.list ++ y.list; walk = more z.walk e y.walk; more = more_both z.more y.more }

pub without_returns : {t s : Order} {us : List Action} {o : Out} → Furthered t s → Walk t us o → Bare s us o
without_returns {us = us} as_it_was h = record { list = us; walk = h; more = more_same us }
without_returns (f_behind {t = t} {s = s} k) h = behind_bare t s (λ us o x. without_returns k x) h
without_returns (f_then {s = s} {t = t} {q = q} {r = r} k l) h = then_bare s t q r (λ us o x. without_returns k x) (λ us o x. without_returns l x) h
without_returns (f_or {s = s} {t = t} {q = q} {r = r} k l) h = or_bare s t q r (λ us o x. without_returns k x) (λ us o x. without_returns l x) h
without_returns (f_otherwise {s = s} {t = t} {q = q} {r = r} k l) h = otherwise_bare s t q r (λ us o x. without_returns k x) (λ us o x. without_returns l x) h
without_returns (f_ending {n = n} {x = x} {s = s} {q = q} k) h = ending_bare n x s q (λ us o x. without_returns k x) h
without_returns (f_passes {l = l} {s = s} {q = q} k) h = passes_bare l s q (λ us o x. without_returns k x) h

-- ---- lists

-- the shorter one is cut where the longer is, at an action that is no such mark
pub record CutBack (a : Action) (us : List Action) (rest : List Action) : Type 0 where
  pub front : List Action
  pub behind : List Action
  pub is : us ≡ front ++ a ∷ behind
  pub more : More behind rest

pub cut_back : (a : Action) → (a ≡ returned → ⊥) → (w rest : List Action) {us l : List Action} → l ≡ w ++ a ∷ rest → More us l → CutBack a us rest
cut_back a n w rest e no_more = absurd (none w e)
  where
    none : (w : List Action) → [] ≡ w ++ a ∷ rest → ⊥
    none [] e = cc
    none (u ∷ w) e = cc
cut_back a n [] rest e (kept {a = b} {us = us} h) = record { front = []; behind = us; is = ap (λ c. c ∷ us) (cc); more = subst (λ q. More us q) (cc) h }
cut_back a n (u ∷ w) rest e (kept {a = b} h) = let z = cut_back a n w rest (cc) h in record { front = b ∷ z.front; behind = z.behind; is = ap (λ q. b ∷ q) z.is; more = z.more }
cut_back a n [] rest e (put_in h) = absurd (n (sym (cc)))
cut_back a n (u ∷ w) rest e (put_in h) = cut_back a n w rest (cc) h

pub ahead_less : (x : ℕ) {us vs : List Action} → More us vs → ahead (living (variable x)) vs ≡ true → ahead (living (variable x)) us ≡ true
ahead_less x no_more e = e
ahead_less x (kept {a = a} {us = us} {vs = vs} h) e = by ((living (variable x)).gives a) ((living (variable x)).kills a) (ahead (living (variable x)) vs) (ahead (living (variable x)) us) (λ q. ahead_less x h q) e
  where
    by : (g k s t : Bool) → (s ≡ true → t ≡ true) → g || (not k && s) ≡ true → g || (not k && t) ≡ true
    by true k s t f e = refl
    by false true s t f e = absurd (true≢false (sym e))
    by false false s t f e = f e
ahead_less x (put_in h) e = ahead_less x h e
