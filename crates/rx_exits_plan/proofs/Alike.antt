-- An order with marks in it has the walks of the order without them. A mark is a part that goes on or stops, and shows nothing once
-- marks are left out: so each walk is taken over part by part, both ways, with the way it ends.
use Rattle.std.proofs.Common.{◌≡◌, ℕ, List, [], ◌∷◌, ◌++◌, if◌then◌else◌, Bool, true, false, refl, sym, ◌∙◌, ap}
use Rattle.rx_lower_walks.specs.Actions.{Dead, Action, does}
use Rattle.rx_lower_walks.specs.Orders.{Exit, exit_node, Order}
use Rattle.rx_lower_walks.specs.Orders as order
use Rattle.rx_lower_walks.specs.Walks.{Out, on, leaves, fails, stopped, IsAway, Walk, rests, stops, nothing, acts, both, first, one, other, leave, fail, holds, next, ends, jumps, halts, last, more}
use Rattle.rx_exits_plan.specs.Unmarked.{is_mark, unfilled, unmarked}

-- ---- lists

kept_or : (t : Bool) (a : Action) (us vs : List Action) → (if t then us else a ∷ us) ++ vs ≡ if t then us ++ vs else a ∷ (us ++ vs)
kept_or true a us vs = refl
kept_or false a us vs = refl

pub unmarked_both : (us vs : List Action) → unmarked (us ++ vs) ≡ unmarked us ++ unmarked vs
unmarked_both [] vs = refl
unmarked_both (a ∷ us) vs =
    ap (λ l. if is_mark a.act then l else does a.node (unfilled a.act) ∷ l) (unmarked_both us vs)
    ∙ sym (kept_or (is_mark a.act) (does a.node (unfilled a.act)) (unmarked us) (unmarked vs))

same_both : (us vs ws zs : List Action) → unmarked us ≡ unmarked ws → unmarked vs ≡ unmarked zs → unmarked (us ++ vs) ≡ unmarked (ws ++ zs)
same_both us vs ws zs e f = unmarked_both us vs ∙ ap (λ l. l ++ unmarked vs) e ∙ ap (λ l. unmarked ws ++ l) f ∙ sym (unmarked_both ws zs)

-- behind what shows nothing, and in front of it
nothing_in_front : (us vs zs : List Action) → unmarked us ≡ [] → unmarked vs ≡ unmarked zs → unmarked (us ++ vs) ≡ unmarked zs
nothing_in_front us vs zs e f = same_both us vs [] zs e f

nil_right : (l : List Action) → l ++ [] ≡ l
nil_right [] = refl
nil_right (a ∷ l) = ap (λ k. a ∷ k) (nil_right l)

nothing_behind : (us vs ws : List Action) → unmarked us ≡ unmarked ws → unmarked vs ≡ [] → unmarked (us ++ vs) ≡ unmarked ws
nothing_behind us vs ws e f = same_both us vs ws [] e f ∙ ap unmarked (nil_right ws)

-- ---- orders

-- what goes on or stops, and shows nothing
pub data Silent : Order → Type 0 where
  silent_nothing : Silent order.nothing
  silent_act : {a : Action} → unmarked (a ∷ []) ≡ [] → Silent (order.act a)
  silent_then : {s t : Order} → Silent s → Silent t → Silent (order.then s t)

-- the first order is the second with silent parts put in, and with other temporaries that are filled
pub data Alike : Order → Order → Type 0 where
  is_nothing : Alike order.nothing order.nothing
  is_nowhere : Alike order.nowhere order.nowhere
  is_act : {a b : Action} → unmarked (a ∷ []) ≡ unmarked (b ∷ []) → Alike (order.act a) (order.act b)
  is_then : {s t q r : Order} → Alike s q → Alike t r → Alike (order.then s t) (order.then q r)
  is_or : {s t q r : Order} → Alike s q → Alike t r → Alike (order.or s t) (order.or q r)
  is_leave : {x : Exit} → Alike (order.leave x) (order.leave x)
  is_fail : Alike order.fail order.fail
  is_otherwise : {s t q r : Order} → Alike s q → Alike t r → Alike (order.otherwise s t) (order.otherwise q r)
  is_ending : {n x : ℕ} {s q : Order} → Alike s q → Alike (order.ending n x s) (order.ending n x q)
  is_passes : {l : ℕ} {s q : Order} → Alike s q → Alike (order.passes l s) (order.passes l q)
  marked_in_front : {s t q : Order} → Silent s → Alike t q → Alike (order.then s t) q
  marked_behind : {s t q : Order} → Alike s q → Silent t → Alike (order.then s t) q

pub itself : (q : Order) → Alike q q
itself order.nothing = is_nothing
itself order.nowhere = is_nowhere
itself (order.act a) = is_act refl
itself (order.then s t) = is_then (itself s) (itself t)
itself (order.or s t) = is_or (itself s) (itself t)
itself (order.leave x) = is_leave
itself order.fail = is_fail
itself (order.otherwise s t) = is_otherwise (itself s) (itself t)
itself (order.ending n x s) = is_ending (itself s)
itself (order.passes l s) = is_passes (itself s)

-- a walk of this order that shows the same
pub record Shown (q : Order) (us : List Action) (o : Out) : Type 0 where
  pub list : List Action
  pub walk : Walk q list o
  pub same : unmarked us ≡ unmarked list

pub record Quiet (t : Order) : Type 0 where
  pub list : List Action
  pub walk : Walk t list on
  pub shows : unmarked list ≡ []

pub quiet : {t : Order} → Silent t → Quiet t
quiet silent_nothing = record { list = []; walk = nothing; shows = refl }
quiet (silent_act {a = a} e) = record { list = a ∷ []; walk = acts; shows = e }
quiet (silent_then s t) =
    let a = quiet s in let b = quiet t in
    record { list = a.list ++ b.list; walk = both a.walk b.walk; shows = nothing_in_front a.list b.list [] a.shows b.shows }

-- how a silent part may end
pub data Goes : Out → Type 0 where
  goes_on : Goes on
  goes_no_further : Goes stopped

pub record Unshown (us : List Action) (o : Out) : Type 0 where
  pub shows : unmarked us ≡ []
  pub goes : Goes o

stopped_short : {us : List Action} {o : Out} → Unshown us o → Unshown us stopped
stopped_short u = record { shows = u.shows; goes = goes_no_further }

pub unshown : {t : Order} → Silent t → {us : List Action} {o : Out} → Walk t us o → Unshown us o
unshown h rests = record { shows = refl; goes = goes_no_further }
unshown h (stops a) = stopped_short (unshown h a)
unshown silent_nothing nothing = record { shows = refl; goes = goes_on }
unshown (silent_act e) acts = record { shows = e; goes = goes_on }
unshown (silent_then s t) (both {us = us} {vs = vs} a b) =
    let x = unshown s a in let y = unshown t b in
    record { shows = nothing_in_front us vs [] x.shows y.shows; goes = y.goes }
unshown (silent_then s t) (first e a) = unshown s a
unshown h (one _) = elim h [ ]
unshown h (other _) = elim h [ ]
unshown h leave = elim h [ ]
unshown h fail = elim h [ ]
unshown h (holds _ _) = elim h [ ]
unshown h (next _ _) = elim h [ ]
unshown h (ends _) = elim h [ ]
unshown h (jumps _) = elim h [ ]
unshown h (halts _) = elim h [ ]
unshown h (last _ _) = elim h [ ]
unshown h (more _ _ _) = elim h [ ]

-- ---- each walk of the first order has one of the second that shows the same

abbrev pub Maps : Order → Order → Type 0
Maps s q = (us : List Action) (o : Out) → Walk s us o → Shown q us o

abbrev rested : {q : Order} → Shown q [] stopped
rested = record { list = []; walk = rests; same = refl }

abbrev cut_off : {q : Order} {us : List Action} {o : Out} → Shown q us o → Shown q us stopped
cut_off z = record { list = z.list; walk = stops z.walk; same = z.same }

itself_maps : {us : List Action} {o : Out} (q : Order) → Walk q us o → Shown q us o
itself_maps {us = us} q a = record { list = us; walk = a; same = refl }

act_maps : {us : List Action} {o : Out} (a b : Action) → unmarked (a ∷ []) ≡ unmarked (b ∷ []) → Walk (order.act a) us o → Shown (order.act b) us o
act_maps a b e rests = rested
act_maps a b e (stops x) = cut_off (act_maps a b e x)
act_maps a b e acts = record { list = b ∷ []; walk = acts; same = e }

then_maps : {us : List Action} {o : Out} (s t q r : Order) → Maps s q → Maps t r → Walk (order.then s t) us o → Shown (order.then q r) us o
then_maps s t q r f g rests = rested
then_maps s t q r f g (stops x) = cut_off (then_maps s t q r f g x)
then_maps s t q r f g (both {us = us} {vs = vs} a b) =
    let z = f _ _ a in let y = g _ _ b in
    record { list = z.list ++ y.list; walk = both z.walk y.walk; same = same_both us vs z.list y.list z.same y.same }
then_maps s t q r f g (first e a) = let z = f _ _ a in record { list = z.list; walk = first e z.walk; same = z.same }

or_maps : {us : List Action} {o : Out} (s t q r : Order) → Maps s q → Maps t r → Walk (order.or s t) us o → Shown (order.or q r) us o
or_maps s t q r f g rests = rested
or_maps s t q r f g (stops x) = cut_off (or_maps s t q r f g x)
or_maps s t q r f g (one a) = let z = f _ _ a in record { list = z.list; walk = one z.walk; same = z.same }
or_maps s t q r f g (other a) = let z = g _ _ a in record { list = z.list; walk = other z.walk; same = z.same }

otherwise_maps : {us : List Action} {o : Out} (s t q r : Order) → Maps s q → Maps t r → Walk (order.otherwise s t) us o → Shown (order.otherwise q r) us o
otherwise_maps s t q r f g rests = rested
otherwise_maps s t q r f g (stops x) = cut_off (otherwise_maps s t q r f g x)
otherwise_maps s t q r f g (holds e a) = let z = f _ _ a in record { list = z.list; walk = holds e z.walk; same = z.same }
otherwise_maps s t q r f g (next {us = us} {vs = vs} a b) =
    let z = f _ _ a in let y = g _ _ b in
    record { list = z.list ++ y.list; walk = next z.walk y.walk; same = same_both us vs z.list y.list z.same y.same }

ending_maps : {us : List Action} {o : Out} (n x : ℕ) (s q : Order) → Maps s q → Walk (order.ending n x s) us o → Shown (order.ending n x q) us o
ending_maps n x s q f rests = rested
ending_maps n x s q f (stops a) = cut_off (ending_maps n x s q f a)
ending_maps n x s q f (ends {us = us} a) =
    let z = f _ _ a in let d : Action = does n (Dead x) in
    record { list = z.list ++ d ∷ []; walk = ends z.walk; same = same_both us (d ∷ []) z.list (d ∷ []) z.same refl }
ending_maps n x s q f (jumps {us = us} {j = j} a) =
    let z = f _ _ a in let d : Action = does (exit_node j) (Dead x) in
    record { list = z.list ++ d ∷ []; walk = jumps z.walk; same = same_both us (d ∷ []) z.list (d ∷ []) z.same refl }
ending_maps n x s q f (halts a) = let z = f _ _ a in record { list = z.list; walk = halts z.walk; same = z.same }

passes_maps : {us : List Action} {o : Out} (l : ℕ) (s q : Order) → Maps s q → Walk (order.passes l s) us o → Shown (order.passes l q) us o
passes_maps l s q f rests = rested
passes_maps l s q f (stops a) = cut_off (passes_maps l s q f a)
passes_maps l s q f (last a e) = let z = f _ _ a in record { list = z.list; walk = last z.walk e; same = z.same }
passes_maps l s q f (more {us = us} {vs = vs} a e b) =
    let z = f _ _ a in let y = passes_maps l s q f b in
    record { list = z.list ++ y.list; walk = more z.walk e y.walk; same = same_both us vs z.list y.list z.same y.same }

-- ---- without a silent part

-- it stopped in a part that shows nothing
only_stopped : {q : Order} (us : List Action) (o : Out) → IsAway o → Unshown us o → Shown q us o
only_stopped us on e u = elim e [ ]
only_stopped us stopped e u = record { list = []; walk = rests; same = u.shows }
only_stopped us (leaves x) e u = absurd (not_so u.goes)
  where
    not_so : Goes (leaves x) → ⊥
    not_so g = elim g [ ]
only_stopped us fails e u = absurd (not_so u.goes)
  where
    not_so : Goes fails → ⊥
    not_so g = elim g [ ]

behind_it : {q : Order} (us vs : List Action) (o : Out) → Shown q us on → unmarked vs ≡ [] → Goes o → Shown q (us ++ vs) o
behind_it us vs _ z e goes_on = record { list = z.list; walk = z.walk; same = nothing_behind us vs z.list z.same e }
behind_it us vs _ z e goes_no_further = record { list = z.list; walk = stops z.walk; same = nothing_behind us vs z.list z.same e }

front_left_out : {us : List Action} {o : Out} (s t q : Order) → Silent s → Maps t q → Walk (order.then s t) us o → Shown q us o
front_left_out s t q h f rests = rested
front_left_out s t q h f (stops a) = cut_off (front_left_out s t q h f a)
front_left_out s t q h f (both {us = us} {vs = vs} a b) =
    let z = f _ _ b in record { list = z.list; walk = z.walk; same = nothing_in_front us vs z.list (unshown h a).shows z.same }
front_left_out {us = us} {o = o} s t q h f (first e a) = only_stopped us o e (unshown h a)

end_left_out : {us : List Action} {o : Out} (s t q : Order) → Silent t → Maps s q → Walk (order.then s t) us o → Shown q us o
end_left_out s t q h f rests = rested
end_left_out s t q h f (stops a) = cut_off (end_left_out s t q h f a)
end_left_out s t q h f (both {us = us} {vs = vs} {o = o} a b) = let u = unshown h b in behind_it us vs o (f _ _ a) u.shows u.goes
end_left_out s t q h f (first e a) = f _ _ a

-- ---- with a silent part

front_put_in : {us : List Action} {o : Out} (s t q : Order) → Quiet s → Maps q t → Walk q us o → Shown (order.then s t) us o
front_put_in {us = us} s t q h f a =
    let z = f _ _ a in
    record { list = h.list ++ z.list; walk = both h.walk z.walk; same = sym (nothing_in_front h.list z.list us h.shows (sym z.same)) }

end_put_in : {us : List Action} {o : Out} (s t q : Order) → Quiet t → Maps q s → Walk q us o → Shown (order.then s t) us o
end_put_in {us = us} {o = o} s t q h f a = by o (f _ _ a)
  where
    by : (p : Out) → Shown s us p → Shown (order.then s t) us p
    by on z = record { list = z.list ++ h.list; walk = both z.walk h.walk; same = sym (nothing_behind z.list h.list us (sym z.same) h.shows) }
    by (leaves x) z = record { list = z.list; walk = first tt z.walk; same = z.same }
    by fails z = record { list = z.list; walk = first tt z.walk; same = z.same }
    by stopped z = record { list = z.list; walk = first tt z.walk; same = z.same }

-- ---- both ways

pub without : {s q : Order} {us : List Action} {o : Out} → Alike s q → Walk s us o → Shown q us o
without is_nothing a = itself_maps order.nothing a
without is_nowhere a = itself_maps order.nowhere a
without (is_act {a = a} {b = b} e) w = act_maps a b e w
without (is_then {s = s} {t = t} {q = q} {r = r} m n) a = then_maps s t q r (λ us o x. without m x) (λ us o x. without n x) a
without (is_or {s = s} {t = t} {q = q} {r = r} m n) a = or_maps s t q r (λ us o x. without m x) (λ us o x. without n x) a
without (is_leave {x = x}) a = itself_maps (order.leave x) a
without is_fail a = itself_maps order.fail a
without (is_otherwise {s = s} {t = t} {q = q} {r = r} m n) a = otherwise_maps s t q r (λ us o x. without m x) (λ us o x. without n x) a
without (is_ending {n = n} {x = x} {s = s} {q = q} m) a = ending_maps n x s q (λ us o x. without m x) a
without (is_passes {l = l} {s = s} {q = q} m) a = passes_maps l s q (λ us o x. without m x) a
without (marked_in_front {s = s} {t = t} {q = q} h m) a = front_left_out s t q h (λ us o x. without m x) a
without (marked_behind {s = s} {t = t} {q = q} m h) a = end_left_out s t q h (λ us o x. without m x) a

pub with_marks : {s q : Order} {us : List Action} {o : Out} → Alike s q → Walk q us o → Shown s us o
with_marks is_nothing a = itself_maps order.nothing a
with_marks is_nowhere a = itself_maps order.nowhere a
with_marks (is_act {a = a} {b = b} e) w = act_maps b a (sym e) w
with_marks (is_then {s = s} {t = t} {q = q} {r = r} m n) a = then_maps q r s t (λ us o x. with_marks m x) (λ us o x. with_marks n x) a
with_marks (is_or {s = s} {t = t} {q = q} {r = r} m n) a = or_maps q r s t (λ us o x. with_marks m x) (λ us o x. with_marks n x) a
with_marks (is_leave {x = x}) a = itself_maps (order.leave x) a
with_marks is_fail a = itself_maps order.fail a
with_marks (is_otherwise {s = s} {t = t} {q = q} {r = r} m n) a = otherwise_maps q r s t (λ us o x. with_marks m x) (λ us o x. with_marks n x) a
with_marks (is_ending {n = n} {x = x} {s = s} {q = q} m) a = ending_maps n x q s (λ us o x. with_marks m x) a
with_marks (is_passes {l = l} {s = s} {q = q} m) a = passes_maps l q s (λ us o x. with_marks m x) a
with_marks (marked_in_front {s = s} {t = t} {q = q} h m) a = front_put_in s t q (quiet h) (λ us o x. with_marks m x) a
with_marks (marked_behind {s = s} {t = t} {q = q} m h) a = end_put_in s t q (quiet h) (λ us o x. with_marks m x) a
