-- An order with further marks behind what is given: a walk of the order without them has one of it beside it, which is that walk with such marks
-- put in, and with the mark of the run's end where a value is let pass.
use Rattle.std.proofs.Common.{◌≡◌, ℕ, Bool, true, false, not, ◌&&◌, ◌||◌, List, [], ◌∷◌, ◌++◌, refl, subst, ap, sym, ◌∙◌, true≢false, inl, inr}
use Rattle.rx_typed.specs.Tree.{variable, Temporary, lazy}
use Rattle.rx_lower_walks.specs.Actions.{Dead, Build, Action, does}
use Rattle.rx_lower_walks.specs.Orders.{exit_node, Order}
use Rattle.rx_lower_walks.specs.Orders as order
use Rattle.rx_lower_walks.specs.Walks as walk
use Rattle.rx_lower_walks.specs.Walks.{Out, on, stopped, Walk, rests, stops, nothing, acts, both, first, one, other, holds, next, ends, jumps, halts, last, more}
use Rattle.rx_facts_tables.specs.Along.{Switch, behind, after, ahead}
use Rattle.rx_facts_tables.specs.Live.{living}
use Rattle.rx_exits_plan.specs.Points as points
use Rattle.rx_exits_plan.specs.Points.{Point, leaves}
use Rattle.rx_exits_plan.specs.Marked.{shown}
use Rattle.rx_engine_simulation.specs.Histories.{put, Uses, WritesOwn, Borrowed}
use Rattle.rx_engine_simulation.specs.Programs.{back}
use Rattle.rx_engine_related.specs.Tailed.{lets_pass}
use Rattle.rx_engine_related.proofs.Formwise.{Congruent}

-- ---- lists

-- a value is let pass
abbrev pub lets : ℕ → Temporary → Temporary → Action
lets n q d = does n (Build lazy (0 ∷ []) (q ∷ []) d)

-- the second list is the first with marks of such points put in
pub data Beside (Put : Point → Type 0) : List Action → List Action → Type 0 where
  no_more : Beside Put [] []
  kept : {a : Action} {us vs : List Action} → Beside Put us vs → Beside Put (a ∷ us) (a ∷ vs)
  put_in : {us vs : List Action} (p : Point) → Put p → Beside Put us vs → Beside Put us (shown p ∷ vs)
  ended : {us vs : List Action} (n : ℕ) (q d : Temporary) → Beside Put us vs → Beside Put (lets n q d ∷ us) (shown (leaves points.next) ∷ vs)

-- an action, and the one that stands for it
pub data Alike : Action → Action → Type 0 where
  same : {a : Action} → Alike a a
  ends_there : (n : ℕ) (q d : Temporary) → Alike (lets n q d) (shown (leaves points.next))

pub alike_mark : (p : Point) {a b : Action} → Alike a b → a ≡ shown p → b ≡ shown p
alike_mark p same e = e
alike_mark p (ends_there n q d) e = absurd (true≢false (ap (λ (a : Action). lets_pass a.act) e))

pub alike_uses : (x : ℕ) {a b : Action} → Alike a b → Uses a.act x → Uses b.act x
alike_uses x same u = u
alike_uses x (ends_there n q d) u = absurd u

pub alike_writes : (x : ℕ) {a b : Action} → Alike a b → WritesOwn a.act x → WritesOwn b.act x
alike_writes x same u = u
alike_writes x (ends_there n q d) u = absurd u

-- a switch that sees no mark, and no value that is let pass
pub record Deaf (S : Switch) : Type 0 where
  pub gives_none : (p : Point) → S.gives (shown p) ≡ false
  pub kills_none : (p : Point) → S.kills (shown p) ≡ false
  pub gives_no_value : (n : ℕ) (q d : Temporary) → S.gives (lets n q d) ≡ false
  pub kills_no_value : (n : ℕ) (q d : Temporary) → S.kills (lets n q d) ≡ false

-- it is cut where the first is
pub record Cut (Put : Point → Type 0) (us : List Action) (a : Action) (vs l : List Action) : Type 0 where
  pub front : List Action
  pub action : Action
  pub alike : Alike a action
  pub rest : List Action
  pub is : l ≡ front ++ action ∷ rest
  pub in_front : Beside Put us front
  pub behind : Beside Put vs rest

-- a list that is cut anywhere
pub record Parted (Put : Point → Type 0) (us vs l : List Action) : Type 0 where
  pub front : List Action
  pub rest : List Action
  pub is : l ≡ front ++ rest
  pub in_front : Beside Put us front
  pub behind : Beside Put vs rest

put_back : (h r : List Action) → put (back h r) [] ≡ put r h
put_back [] r = refl
put_back (a ∷ h) r = put_back h (a ∷ r)

idle : (g k b : Bool) → g ≡ false → k ≡ false → g || (not k && b) ≡ b
idle false false b e f = refl
idle true k b e f = absurd (true≢false e)
idle false true b e f = absurd (true≢false f)

nil_right : (l : List Action) → l ++ [] ≡ l
nil_right [] = refl
nil_right (a ∷ l) = ap (λ k. a ∷ k) (nil_right l)

module _ {Put : Point → Type 0} where
  pub beside_both : {us vs us1 vs1 : List Action} → Beside Put us vs → Beside Put us1 vs1 → Beside Put (us ++ us1) (vs ++ vs1)
  beside_both no_more k = k
  beside_both (kept h) k = kept (beside_both h k)
  beside_both (put_in p o h) k = put_in p o (beside_both h k)
  beside_both (ended n q d h) k = ended n q d (beside_both h k)

  pub beside_same : (us : List Action) → Beside Put us us
  beside_same [] = no_more
  beside_same (a ∷ us) = kept (beside_same us)

  pub cut_beside : (us : List Action) (a : Action) (vs : List Action) {l m : List Action} → m ≡ us ++ a ∷ vs → Beside Put m l → Cut Put us a vs l
  cut_beside us a vs e no_more = absurd (none us e)
    where
      none : (us : List Action) → [] ≡ us ++ a ∷ vs → ⊥
      none [] e = cc
      none (u ∷ us) e = cc
  cut_beside [] a vs e (kept {a = b} {us = us1} {vs = l} h) = record { front = []; action = a; alike = same; rest = l; is = ap (λ c. c ∷ l) (cc); in_front = no_more; behind = subst (λ q. Beside Put q l) (cc) h }
  cut_beside (u ∷ us) a vs e (kept {a = b} {us = us1} {vs = l} h) =
      let z = cut_beside us a vs (cc) h in
      let f : b ≡ u = cc in
      record { front = u ∷ z.front; action = z.action; alike = z.alike; rest = z.rest; is = ap (λ c. c ∷ l) f ∙ ap (λ q. u ∷ q) z.is; in_front = kept z.in_front; behind = z.behind }
  cut_beside us a vs e (put_in {vs = l} p o h) = let z = cut_beside us a vs e h in record { front = shown p ∷ z.front; action = z.action; alike = z.alike; rest = z.rest; is = ap (λ q. shown p ∷ q) z.is; in_front = put_in p o z.in_front; behind = z.behind }
  cut_beside [] a vs e (ended {us = us1} {vs = l} n q d h) =
      record { front = []; action = shown (leaves points.next); alike = subst (λ c. Alike c (shown (leaves points.next))) (cc) (ends_there n q d); rest = l; is = refl; in_front = no_more; behind = subst (λ k. Beside Put k l) (cc) h }
  cut_beside (u ∷ us) a vs e (ended {us = us1} {vs = l} n q d h) =
      let z = cut_beside us a vs (cc) h in
      let f : lets n q d ≡ u = cc in
      record { front = shown (leaves points.next) ∷ z.front; action = z.action; alike = z.alike; rest = z.rest; is = ap (λ k. shown (leaves points.next) ∷ k) z.is; in_front = subst (λ c. Beside Put (c ∷ us) (shown (leaves points.next) ∷ z.front)) f (ended n q d z.in_front); behind = z.behind }

  pub parted : (us vs : List Action) {l m : List Action} → m ≡ us ++ vs → Beside Put m l → Parted Put us vs l
  parted [] vs {l = l} e h = record { front = []; rest = l; is = refl; in_front = no_more; behind = subst (λ q. Beside Put q l) e h }
  parted (u ∷ us) vs e no_more = absurd (cc)
  parted (u ∷ us) vs e (kept {a = b} {vs = l} h) =
      let z = parted us vs (cc) h in
      let f : b ≡ u = cc in
      record { front = u ∷ z.front; rest = z.rest; is = ap (λ c. c ∷ l) f ∙ ap (λ q. u ∷ q) z.is; in_front = kept z.in_front; behind = z.behind }
  parted (u ∷ us) vs e (put_in {vs = l} p o h) = let z = parted (u ∷ us) vs e h in record { front = shown p ∷ z.front; rest = z.rest; is = ap (λ q. shown p ∷ q) z.is; in_front = put_in p o z.in_front; behind = z.behind }
  parted (u ∷ us) vs e (ended {vs = l} n q d h) =
      let z = parted us vs (cc) h in
      let f : lets n q d ≡ u = cc in
      record { front = shown (leaves points.next) ∷ z.front; rest = z.rest; is = ap (λ k. shown (leaves points.next) ∷ k) z.is; in_front = subst (λ c. Beside Put (c ∷ us) (shown (leaves points.next) ∷ z.front)) f (ended n q d z.in_front); behind = z.behind }

  -- ---- what is told of them

  beside_put : {us vs g k : List Action} → Beside Put us vs → Beside Put g k → Beside Put (put us g) (put vs k)
  beside_put no_more m = m
  beside_put (kept h) m = beside_put h (kept m)
  beside_put (put_in p o h) m = beside_put h (put_in p o m)
  beside_put (ended n q d h) m = beside_put h (ended n q d m)

  pub beside_history : (h : List Action) {v : List Action} → Beside Put (back h []) v → Beside Put h (put v [])
  beside_history h {v = v} m = subst (λ g. Beside Put g (put v [])) (put_back h []) (beside_put m no_more)

  pub after_beside : (S : Switch) → Deaf S → {us vs : List Action} → Beside Put us vs → (b : Bool) → after S vs b ≡ after S us b
  after_beside S q no_more b = refl
  after_beside S q (kept {a = a} h) b = after_beside S q h (behind S a b)
  after_beside S q (put_in {us = us} {vs = vs} p o h) b = ap (λ c. after S vs c) (idle (S.gives (shown p)) (S.kills (shown p)) b (q.gives_none p) (q.kills_none p)) ∙ after_beside S q h b
  after_beside S q (ended {us = us} {vs = vs} n t d h) b =
      ap (λ c. after S vs c) (idle (S.gives (shown (leaves points.next))) (S.kills (shown (leaves points.next))) b (q.gives_none (leaves points.next)) (q.kills_none (leaves points.next))) ∙ after_beside S q h b
      ∙ sym (ap (λ c. after S us c) (idle (S.gives (lets n t d)) (S.kills (lets n t d)) b (q.gives_no_value n t d) (q.kills_no_value n t d)))

  pub ahead_beside : (x : ℕ) {us vs : List Action} → Beside Put us vs → ahead (living (variable x)) us ≡ true → ahead (living (variable x)) vs ≡ true
  ahead_beside x no_more e = e
  ahead_beside x (kept {a = a} {us = us} {vs = vs} h) e = by ((living (variable x)).gives a) ((living (variable x)).kills a) (ahead (living (variable x)) us) (ahead (living (variable x)) vs) (λ q. ahead_beside x h q) e
    where
      by : (g k s t : Bool) → (s ≡ true → t ≡ true) → g || (not k && s) ≡ true → g || (not k && t) ≡ true
      by true k s t f e = refl
      by false true s t f e = absurd (true≢false (sym e))
      by false false s t f e = f e
  ahead_beside x (put_in p o h) e = ahead_beside x h e
  ahead_beside x (ended n q d h) e = ahead_beside x h e

  pub borrowed_beside : (x : ℕ) {h k : List Action} → Beside Put h k → Borrowed h x → Borrowed k x
  borrowed_beside x no_more b = b
  borrowed_beside x (kept h) (inl b) = inl b
  borrowed_beside x (kept h) (inr b) = inr (b.0, borrowed_beside x h b.1)
  borrowed_beside x (put_in p o h) b = inr ((λ d. d), borrowed_beside x h b)
  borrowed_beside x (ended n q d h) (inl b) = absurd b
  borrowed_beside x (ended n q d h) (inr b) = inr ((λ d. d), borrowed_beside x h b.1)

-- ---- orders

abbrev pub mark_there : Point → Order
mark_there p = order.then (order.then order.nothing (order.act (shown p))) order.nothing

pub data Extended (Put : Point → Type 0) : Order → Order → Type 0 where
  as_it_stands : {s : Order} → Extended Put s s
  e_behind : {t s : Order} (p : Point) → Put p → Extended Put t s → Extended Put (order.then t (mark_there p)) s
  e_then : {s t q r : Order} → Extended Put s q → Extended Put t r → Extended Put (order.then s t) (order.then q r)
  e_or : {s t q r : Order} → Extended Put s q → Extended Put t r → Extended Put (order.or s t) (order.or q r)
  e_otherwise : {s t q r : Order} → Extended Put s q → Extended Put t r → Extended Put (order.otherwise s t) (order.otherwise q r)
  e_ending : {n x : ℕ} {s q : Order} → Extended Put s q → Extended Put (order.ending n x s) (order.ending n x q)
  e_passes : {l : ℕ} {s q : Order} → Extended Put s q → Extended Put (order.passes l s) (order.passes l q)
  e_ended : {t s : Order} (n : ℕ) (q d : Temporary) → Extended Put t s → Extended Put (order.then t (mark_there (leaves points.next))) (order.then (order.then s order.nothing) (order.act (lets n q d)))

pub extended : (Put : Point → Type 0) → Congruent (Extended Put)
extended Put = record { same = as_it_stands; sequence = e_then; choice = e_or; fallback = e_otherwise; ending = e_ending; passes = e_passes }

pub record Marked (Put : Point → Type 0) (t : Order) (us : List Action) (o : Out) : Type 0 where
  pub list : List Action
  pub walk : Walk t list o
  pub more : Beside Put us list

abbrev Maps : (Point → Type 0) → Order → Order → Type 0
Maps Put q s = (us : List Action) (o : Out) → Walk q us o → Marked Put s us o

all_through : (p : Point) → Walk (mark_there p) (shown p ∷ []) on
all_through p = both (both nothing acts) nothing

module _ {Put : Point → Type 0} where
  cut_off : {q : Order} {us : List Action} {o : Out} → Marked Put q us o → Marked Put q us stopped
  cut_off z = record { list = z.list; walk = stops z.walk; more = z.more }

  rested : {q : Order} → Marked Put q [] stopped
  rested = record { list = []; walk = rests; more = no_more }

  behind_marked : (t : Order) (p : Point) → Put p → (us : List Action) (o : Out) → Marked Put t us o → Marked Put (order.then t (mark_there p)) us o
  behind_marked t p i us on z = record { list = z.list ++ shown p ∷ []; walk = both z.walk (all_through p); more = subst (λ l. Beside Put l (z.list ++ shown p ∷ [])) (nil_right us) (beside_both z.more (put_in p i no_more)) }
  behind_marked t p i us (walk.leaves x) z = record { list = z.list; walk = first tt z.walk; more = z.more }
  behind_marked t p i us walk.fails z = record { list = z.list; walk = first tt z.walk; more = z.more }
  behind_marked t p i us walk.stopped z = record { list = z.list; walk = first tt z.walk; more = z.more }

  -- behind nothing
  by_nothing : {t : Order} {us vs : List Action} {o : Out} → Marked Put t us on → Walk order.nothing vs o → Marked Put t (us ++ vs) o
  by_nothing {us = us} z rests = record { list = z.list; walk = stops z.walk; more = subst (λ l. Beside Put l z.list) (sym (nil_right us)) z.more }
  by_nothing z (stops h) = cut_off (by_nothing z h)
  by_nothing {us = us} z nothing = record { list = z.list; walk = z.walk; more = subst (λ l. Beside Put l z.list) (sym (nil_right us)) z.more }

  then_nothing : {us : List Action} {o : Out} (s t : Order) → Maps Put s t → Walk (order.then s order.nothing) us o → Marked Put t us o
  then_nothing s t f rests = rested
  then_nothing s t f (stops h) = cut_off (then_nothing s t f h)
  then_nothing s t f (both a b) = by_nothing (f _ _ a) b
  then_nothing s t f (first e a) = f _ _ a

  -- where a value was let pass
  by_end : {t : Order} {us vs : List Action} {o : Out} (n : ℕ) (q d : Temporary) → Marked Put t us on → Walk (order.act (lets n q d)) vs o → Marked Put (order.then t (mark_there (leaves points.next))) (us ++ vs) o
  by_end n q d z rests = record { list = z.list ++ []; walk = both z.walk rests; more = beside_both z.more no_more }
  by_end n q d z (stops h) = cut_off (by_end n q d z h)
  by_end n q d z acts = record { list = z.list ++ shown (leaves points.next) ∷ []; walk = both z.walk (all_through (leaves points.next)); more = beside_both z.more (ended n q d no_more) }

  end_marked : {us : List Action} {o : Out} (s t : Order) (n : ℕ) (q d : Temporary) → Maps Put s t → Walk (order.then (order.then s order.nothing) (order.act (lets n q d))) us o → Marked Put (order.then t (mark_there (leaves points.next))) us o
  end_marked s t n q d f rests = rested
  end_marked s t n q d f (stops h) = cut_off (end_marked s t n q d f h)
  end_marked s t n q d f (both a b) = by_end n q d (then_nothing s t f a) b
  end_marked s t n q d f (first e a) = let z = then_nothing s t f a in record { list = z.list; walk = first e z.walk; more = z.more }

  then_marked : {us : List Action} {o : Out} (s t q r : Order) → Maps Put q s → Maps Put r t → Walk (order.then q r) us o → Marked Put (order.then s t) us o
  then_marked s t q r f g rests = rested
  then_marked s t q r f g (stops h) = cut_off (then_marked s t q r f g h)
  then_marked s t q r f g (both a b) = let z = f _ _ a in let y = g _ _ b in record { list = z.list ++ y.list; walk = both z.walk y.walk; more = beside_both z.more y.more }
  then_marked s t q r f g (first e a) = let z = f _ _ a in record { list = z.list; walk = first e z.walk; more = z.more }

  or_marked : {us : List Action} {o : Out} (s t q r : Order) → Maps Put q s → Maps Put r t → Walk (order.or q r) us o → Marked Put (order.or s t) us o
  or_marked s t q r f g rests = rested
  or_marked s t q r f g (stops h) = cut_off (or_marked s t q r f g h)
  or_marked s t q r f g (one a) = let z = f _ _ a in record { list = z.list; walk = one z.walk; more = z.more }
  or_marked s t q r f g (other a) = let z = g _ _ a in record { list = z.list; walk = other z.walk; more = z.more }

  otherwise_marked : {us : List Action} {o : Out} (s t q r : Order) → Maps Put q s → Maps Put r t → Walk (order.otherwise q r) us o → Marked Put (order.otherwise s t) us o
  otherwise_marked s t q r f g rests = rested
  otherwise_marked s t q r f g (stops h) = cut_off (otherwise_marked s t q r f g h)
  otherwise_marked s t q r f g (holds e a) = let z = f _ _ a in record { list = z.list; walk = holds e z.walk; more = z.more }
  otherwise_marked s t q r f g (next a b) = let z = f _ _ a in let y = g _ _ b in record { list = z.list ++ y.list; walk = next z.walk y.walk; more = beside_both z.more y.more }

  ending_marked : {us : List Action} {o : Out} (n x : ℕ) (s q : Order) → Maps Put q s → Walk (order.ending n x q) us o → Marked Put (order.ending n x s) us o
  ending_marked n x s q f rests = rested
  ending_marked n x s q f (stops h) = cut_off (ending_marked n x s q f h)
  ending_marked n x s q f (ends a) = let z = f _ _ a in record { list = z.list ++ does n (Dead x) ∷ []; walk = ends z.walk; more = beside_both z.more (beside_same (does n (Dead x) ∷ [])) }
  ending_marked n x s q f (jumps {j = j} a) = let z = f _ _ a in record { list = z.list ++ does (exit_node j) (Dead x) ∷ []; walk = jumps z.walk; more = beside_both z.more (beside_same (does (exit_node j) (Dead x) ∷ [])) }
  ending_marked n x s q f (halts a) = let z = f _ _ a in record { list = z.list; walk = halts z.walk; more = z.more }

  passes_marked : {us : List Action} {o : Out} (l : ℕ) (s q : Order) → Maps Put q s → Walk (order.passes l q) us o → Marked Put (order.passes l s) us o
  passes_marked l s q f rests = rested
  passes_marked l s q f (stops h) = cut_off (passes_marked l s q f h)
  passes_marked l s q f (last a e) = let z = f _ _ a in record { list = z.list; walk = last z.walk e; more = z.more }
  passes_marked l s q f (more a e b) = let z = f _ _ a in let y = passes_marked l s q f b in record { list = z.list ++ y.list; walk = more z.walk e y.walk; more = beside_both z.more y.more }

  pub with_marks : {t s : Order} {us : List Action} {o : Out} → Extended Put t s → Walk s us o → Marked Put t us o
  with_marks {us = us} as_it_stands h = record { list = us; walk = h; more = beside_same us }
  with_marks {us = us} {o = o} (e_behind {t = t} p i k) h = behind_marked t p i us o (with_marks k h)
  with_marks (e_then {s = s} {t = t} {q = q} {r = r} k l) h = then_marked s t q r (λ us o x. with_marks k x) (λ us o x. with_marks l x) h
  with_marks (e_or {s = s} {t = t} {q = q} {r = r} k l) h = or_marked s t q r (λ us o x. with_marks k x) (λ us o x. with_marks l x) h
  with_marks (e_otherwise {s = s} {t = t} {q = q} {r = r} k l) h = otherwise_marked s t q r (λ us o x. with_marks k x) (λ us o x. with_marks l x) h
  with_marks (e_ending {n = n} {x = x} {s = s} {q = q} k) h = ending_marked n x s q (λ us o x. with_marks k x) h
  with_marks (e_passes {l = l} {s = s} {q = q} k) h = passes_marked l s q (λ us o x. with_marks k x) h
  with_marks (e_ended {t = t} {s = s} n q d k) h = end_marked s t n q d (λ us o x. with_marks k x) h
