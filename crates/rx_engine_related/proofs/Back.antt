-- Without the marks that are put in, and with a value let pass where the run's end is marked, the walks of an order with marks are those of the order.
use Rattle.std.proofs.Common.{◌≡◌, ℕ, Bool, true, false, not, ◌&&◌, ◌||◌, List, [], ◌∷◌, ◌++◌, refl, subst, sym, ap, true≢false}
use Rattle.rx_typed.specs.Tree.{variable, Temporary}
use Rattle.rx_lower_walks.specs.Actions.{Dead, Action, does}
use Rattle.rx_lower_walks.specs.Orders.{exit_node, Order}
use Rattle.rx_lower_walks.specs.Orders as order
use Rattle.rx_lower_walks.specs.Walks.{Out, on, stopped, IsAway, Walk, rests, stops, nothing, acts, both, first, one, other, holds, next, ends, jumps, halts, last, more}
use Rattle.rx_facts_tables.specs.Along.{ahead}
use Rattle.rx_facts_tables.specs.Live.{living}
use Rattle.rx_exits_plan.specs.Points as points
use Rattle.rx_exits_plan.specs.Points.{Point, leaves}
use Rattle.rx_exits_plan.specs.Marked.{shown}
use Rattle.rx_engine_related.proofs.Beside.{lets, Beside, no_more, kept, put_in, ended, Alike, same, ends_there, beside_both, beside_same, mark_there, Extended, as_it_stands, e_behind, e_then, e_or, e_otherwise, e_ending, e_passes, e_ended}

pub record Bare (Put : Point → Type 0) (s : Order) (vs : List Action) (o : Out) : Type 0 where
  pub list : List Action
  pub walk : Walk s list o
  pub more : Beside Put list vs

abbrev Maps : (Point → Type 0) → Order → Order → Type 0
Maps Put t s = (vs : List Action) (o : Out) → Walk t vs o → Bare Put s vs o

nil_right : (l : List Action) → l ++ [] ≡ l
nil_right [] = refl
nil_right (a ∷ l) = ap (λ k. a ∷ k) (nil_right l)

-- ---- what one action shows, and how it may end

data Only (a : Action) : List Action → Out → Type 0 where
  only_none : Only a [] stopped
  only_on : Only a (a ∷ []) on
  only_stopped : Only a (a ∷ []) stopped

data Empty : List Action → Out → Type 0 where
  empty_on : Empty [] on
  empty_stopped : Empty [] stopped

stop_only : {a : Action} {vs : List Action} {o : Out} → Only a vs o → Only a vs stopped
stop_only only_none = only_none
stop_only only_on = only_stopped
stop_only only_stopped = only_stopped

act_only : {a : Action} {vs : List Action} {o : Out} → Walk (order.act a) vs o → Only a vs o
act_only rests = only_none
act_only (stops h) = stop_only (act_only h)
act_only acts = only_on

stop_empty : {vs : List Action} {o : Out} → Empty vs o → Empty vs stopped
stop_empty empty_on = empty_stopped
stop_empty empty_stopped = empty_stopped

nothing_empty : {vs : List Action} {o : Out} → Walk order.nothing vs o → Empty vs o
nothing_empty rests = empty_stopped
nothing_empty (stops h) = stop_empty (nothing_empty h)
nothing_empty nothing = empty_on

empty_then : {a : Action} {us vs : List Action} {p o : Out} → p ≡ on → Empty us p → Only a vs o → Only a (us ++ vs) o
empty_then e empty_on k = k
empty_then e empty_stopped k = k

empty_away : {a : Action} {us : List Action} {o : Out} → IsAway o → Empty us o → Only a us o
empty_away e empty_on = absurd e
empty_away e empty_stopped = only_none

abbrev IsOn : Out → Type 0
IsOn on = Unit {0}
IsOn _ = ⊥

then_empty : {a : Action} {us vs : List Action} {p o : Out} → Only a us p → IsOn p → Empty vs o → Only a (us ++ vs) o
then_empty only_none e k = absurd e
then_empty only_on e empty_on = only_on
then_empty only_on e empty_stopped = only_stopped
then_empty only_stopped e k = absurd e

lead : {a : Action} {vs : List Action} {o : Out} → Walk (order.then order.nothing (order.act a)) vs o → Only a vs o
lead rests = only_none
lead (stops h) = stop_only (lead h)
lead (both x y) = empty_then refl (nothing_empty x) (act_only y)
lead (first e x) = empty_away e (nothing_empty x)

trail : {a : Action} {vs : List Action} {o : Out} → Walk (order.then (order.then order.nothing (order.act a)) order.nothing) vs o → Only a vs o
trail rests = only_none
trail (stops h) = stop_only (trail h)
trail (both x y) = then_empty (lead x) tt (nothing_empty y)
trail (first e x) = lead x

-- ---- orders

abbrev passed : Order → ℕ → Temporary → Temporary → Order
passed s n q d = order.then (order.then s order.nothing) (order.act (lets n q d))

module _ {Put : Point → Type 0} where
  cut_off : {q : Order} {us : List Action} {o : Out} → Bare Put q us o → Bare Put q us stopped
  cut_off z = record { list = z.list; walk = stops z.walk; more = z.more }

  rested : {q : Order} → Bare Put q [] stopped
  rested = record { list = []; walk = rests; more = no_more }

  put_behind : {s : Order} {us vs : List Action} {o : Out} (p : Point) → Put p → Bare Put s us on → Only (shown p) vs o → Bare Put s (us ++ vs) o
  put_behind {us = us} p i z only_none = record { list = z.list; walk = stops z.walk; more = subst (λ l. Beside Put z.list l) (sym (nil_right us)) z.more }
  put_behind {us = us} p i z only_on = record { list = z.list; walk = z.walk; more = subst (λ l. Beside Put l (us ++ shown p ∷ [])) (nil_right z.list) (beside_both z.more (put_in p i no_more)) }
  put_behind {us = us} p i z only_stopped = record { list = z.list; walk = stops z.walk; more = subst (λ l. Beside Put l (us ++ shown p ∷ [])) (nil_right z.list) (beside_both z.more (put_in p i no_more)) }

  behind_bare : {vs : List Action} {o : Out} (t s q : Order) (p : Point) → Put p → ((ws : List Action) (r : Out) → Walk q ws r → Only (shown p) ws r) → Maps Put t s → Walk (order.then t q) vs o → Bare Put s vs o
  behind_bare t s q p i g f rests = rested
  behind_bare t s q p i g f (stops h) = cut_off (behind_bare t s q p i g f h)
  behind_bare t s q p i g f (both a b) = put_behind p i (f _ _ a) (g _ _ b)
  behind_bare t s q p i g f (first e a) = f _ _ a

  let_pass_behind : {s : Order} {us vs : List Action} {o : Out} (n : ℕ) (q d : Temporary) → Bare Put s us on → Only (shown (leaves points.next)) vs o → Bare Put (passed s n q d) (us ++ vs) o
  let_pass_behind {us = us} n q d z only_none = record { list = (z.list ++ []) ++ []; walk = both (both z.walk nothing) rests; more = beside_both (subst (λ l. Beside Put l us) (sym (nil_right z.list)) z.more) no_more }
  let_pass_behind {us = us} n q d z only_on = record { list = (z.list ++ []) ++ lets n q d ∷ []; walk = both (both z.walk nothing) acts; more = beside_both (subst (λ l. Beside Put l us) (sym (nil_right z.list)) z.more) (ended n q d no_more) }
  let_pass_behind {us = us} n q d z only_stopped =
      record { list = (z.list ++ []) ++ lets n q d ∷ []; walk = stops (both (both z.walk nothing) acts); more = beside_both (subst (λ l. Beside Put l us) (sym (nil_right z.list)) z.more) (ended n q d no_more) }

  end_bare : {vs : List Action} {o : Out} (t s : Order) (n : ℕ) (q d : Temporary) → Maps Put t s → Walk (order.then t (mark_there (leaves points.next))) vs o → Bare Put (passed s n q d) vs o
  end_bare t s n q d f rests = rested
  end_bare t s n q d f (stops h) = cut_off (end_bare t s n q d f h)
  end_bare t s n q d f (both a b) = let_pass_behind n q d (f _ _ a) (trail b)
  end_bare t s n q d f (first e a) = let z = f _ _ a in record { list = z.list; walk = first e (first e z.walk); more = z.more }

  then_bare : {us : List Action} {o : Out} (s t q r : Order) → Maps Put s q → Maps Put t r → Walk (order.then s t) us o → Bare Put (order.then q r) us o
  then_bare s t q r f g rests = rested
  then_bare s t q r f g (stops h) = cut_off (then_bare s t q r f g h)
  then_bare s t q r f g (both a b) = let z = f _ _ a in let y = g _ _ b in record { list = z.list ++ y.list; walk = both z.walk y.walk; more = beside_both z.more y.more }
  then_bare s t q r f g (first e a) = let z = f _ _ a in record { list = z.list; walk = first e z.walk; more = z.more }

  or_bare : {us : List Action} {o : Out} (s t q r : Order) → Maps Put s q → Maps Put t r → Walk (order.or s t) us o → Bare Put (order.or q r) us o
  or_bare s t q r f g rests = rested
  or_bare s t q r f g (stops h) = cut_off (or_bare s t q r f g h)
  or_bare s t q r f g (one a) = let z = f _ _ a in record { list = z.list; walk = one z.walk; more = z.more }
  or_bare s t q r f g (other a) = let z = g _ _ a in record { list = z.list; walk = other z.walk; more = z.more }

  otherwise_bare : {us : List Action} {o : Out} (s t q r : Order) → Maps Put s q → Maps Put t r → Walk (order.otherwise s t) us o → Bare Put (order.otherwise q r) us o
  otherwise_bare s t q r f g rests = rested
  otherwise_bare s t q r f g (stops h) = cut_off (otherwise_bare s t q r f g h)
  otherwise_bare s t q r f g (holds e a) = let z = f _ _ a in record { list = z.list; walk = holds e z.walk; more = z.more }
  otherwise_bare s t q r f g (next a b) = let z = f _ _ a in let y = g _ _ b in record { list = z.list ++ y.list; walk = next z.walk y.walk; more = beside_both z.more y.more }

  ending_bare : {us : List Action} {o : Out} (n x : ℕ) (s q : Order) → Maps Put s q → Walk (order.ending n x s) us o → Bare Put (order.ending n x q) us o
  ending_bare n x s q f rests = rested
  ending_bare n x s q f (stops h) = cut_off (ending_bare n x s q f h)
  ending_bare n x s q f (ends a) = let z = f _ _ a in record { list = z.list ++ does n (Dead x) ∷ []; walk = ends z.walk; more = beside_both z.more (beside_same (does n (Dead x) ∷ [])) }
  ending_bare n x s q f (jumps {j = j} a) = let z = f _ _ a in record { list = z.list ++ does (exit_node j) (Dead x) ∷ []; walk = jumps z.walk; more = beside_both z.more (beside_same (does (exit_node j) (Dead x) ∷ [])) }
  ending_bare n x s q f (halts a) = let z = f _ _ a in record { list = z.list; walk = halts z.walk; more = z.more }

  passes_bare : {us : List Action} {o : Out} (l : ℕ) (s q : Order) → Maps Put s q → Walk (order.passes l s) us o → Bare Put (order.passes l q) us o
  passes_bare l s q f rests = rested
  passes_bare l s q f (stops h) = cut_off (passes_bare l s q f h)
  passes_bare l s q f (last a e) = let z = f _ _ a in record { list = z.list; walk = last z.walk e; more = z.more }
  passes_bare l s q f (more a e b) = let z = f _ _ a in let y = passes_bare l s q f b in record { list = z.list ++ y.list; walk = more z.walk e y.walk; more = beside_both z.more y.more }

  pub without_marks : {t s : Order} {us : List Action} {o : Out} → Extended Put t s → Walk t us o → Bare Put s us o
  without_marks {us = us} as_it_stands h = record { list = us; walk = h; more = beside_same us }
  without_marks (e_behind {t = t} {s = s} p i k) h = behind_bare t s (mark_there p) p i (λ ws r w. trail w) (λ us o x. without_marks k x) h
  without_marks (e_then {s = s} {t = t} {q = q} {r = r} k l) h = then_bare s t q r (λ us o x. without_marks k x) (λ us o x. without_marks l x) h
  without_marks (e_or {s = s} {t = t} {q = q} {r = r} k l) h = or_bare s t q r (λ us o x. without_marks k x) (λ us o x. without_marks l x) h
  without_marks (e_otherwise {s = s} {t = t} {q = q} {r = r} k l) h = otherwise_bare s t q r (λ us o x. without_marks k x) (λ us o x. without_marks l x) h
  without_marks (e_ending {n = n} {x = x} {s = s} {q = q} k) h = ending_bare n x s q (λ us o x. without_marks k x) h
  without_marks (e_passes {l = l} {s = s} {q = q} k) h = passes_bare l s q (λ us o x. without_marks k x) h
  without_marks (e_ended {t = t} {s = s} n q d k) h = end_bare t s n q d (λ us o x. without_marks k x) h

-- ---- lists

-- the one without marks is cut where the other is, at an action that is no mark put in
pub record CutBack (Put : Point → Type 0) (a : Action) (us : List Action) (rest : List Action) : Type 0 where
  pub front : List Action
  pub action : Action
  pub alike : Alike action a
  pub behind : List Action
  pub is : us ≡ front ++ action ∷ behind
  pub more : Beside Put behind rest

module _ {Put : Point → Type 0} where
  pub cut_back : (a : Action) → ((p : Point) → Put p → a ≡ shown p → ⊥) → (w rest : List Action) {us l : List Action} → l ≡ w ++ a ∷ rest → Beside Put us l → CutBack Put a us rest
  cut_back a n w rest e no_more = absurd (none w e)
    where
      none : (w : List Action) → [] ≡ w ++ a ∷ rest → ⊥
      none [] e = cc
      none (u ∷ w) e = cc
  cut_back a n [] rest e (kept {a = b} {us = us} h) = record { front = []; action = a; alike = same; behind = us; is = ap (λ c. c ∷ us) (cc); more = subst (λ q. Beside Put us q) (cc) h }
  cut_back a n (u ∷ w) rest e (kept {a = b} h) = let z = cut_back a n w rest (cc) h in record { front = b ∷ z.front; action = z.action; alike = z.alike; behind = z.behind; is = ap (λ q. b ∷ q) z.is; more = z.more }
  cut_back a n [] rest e (put_in p i h) = absurd (n p i (sym (cc)))
  cut_back a n (u ∷ w) rest e (put_in p i h) = cut_back a n w rest (cc) h
  cut_back a n [] rest e (ended {us = us} m q d h) =
      record { front = []; action = lets m q d; alike = subst (λ c. Alike (lets m q d) c) (cc) (ends_there m q d); behind = us; is = refl; more = subst (λ q. Beside Put us q) (cc) h }
  cut_back a n (u ∷ w) rest e (ended m q d h) = let z = cut_back a n w rest (cc) h in record { front = lets m q d ∷ z.front; action = z.action; alike = z.alike; behind = z.behind; is = ap (λ k. lets m q d ∷ k) z.is; more = z.more }

  pub ahead_less : (x : ℕ) {us vs : List Action} → Beside Put us vs → ahead (living (variable x)) vs ≡ true → ahead (living (variable x)) us ≡ true
  ahead_less x no_more e = e
  ahead_less x (kept {a = a} {us = us} {vs = vs} h) e = by ((living (variable x)).gives a) ((living (variable x)).kills a) (ahead (living (variable x)) vs) (ahead (living (variable x)) us) (λ q. ahead_less x h q) e
    where
      by : (g k s t : Bool) → (s ≡ true → t ≡ true) → g || (not k && s) ≡ true → g || (not k && t) ≡ true
      by true k s t f e = refl
      by false true s t f e = absurd (true≢false (sym e))
      by false false s t f e = f e
  ahead_less x (put_in p i h) e = ahead_less x h e
  ahead_less x (ended m q d h) e = ahead_less x h e
