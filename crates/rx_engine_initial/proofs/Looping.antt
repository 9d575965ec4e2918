-- Loops, and variables that begin.
use Rattle.std.proofs.Common.{◌≡◌, ℕ, Bool, true, false, List, [], ◌∷◌, ◌++◌, ◌⊎◌, inl, inr, refl, sym, ◌∙◌, subst, ap}
use Rattle.rx_lower_walks.specs.Actions.{Dead, Action, does}
use Rattle.rx_lower_walks.specs.Orders.{Exit, breaks, continues, returns, exit_node, Order}
use Rattle.rx_lower_walks.specs.Orders as order
use Rattle.rx_lower_walks.specs.Walks.{Out, on, leaves, fails, stopped, IsAway, DoesNotFail, Passed, by_end, by_continue, Left, by_break, by_outer_break, by_outer_continue, by_return, by_stop, Walk, rests, stops, nothing, acts, both, first, one, other, leave, fail, holds, next, ends, jumps, halts, last, more}
use Rattle.rx_engine_initial.specs.Tracing.{View, Alike, Traced, copied}
use Rattle.rx_engine_initial.specs.Matching.{World, Hist, Reach, Good, SameExit, both_break, both_continue, both_return, SameOut, both_on, both_leave, both_fail, Comes, cut, gone, whole, Answer, Maps, WhichLoop, this_loop, outer_loop, Keeps}
use Rattle.rx_engine_initial.proofs.Tracing.{nil_right, joined}
use Rattle.rx_engine_initial.proofs.Mapping.{answer_stops, answer_rests, good_both, hist_joined}
use Rattle.rx_engine_initial.proofs.Calling.{wider_out}

-- ---- loops

-- how the text's loop is left
data LeftToo (L : ℕ → ℕ → Type 0) (k : ℕ) (p r : Out) : Type 0 where
  left_too : (t : Out) → SameOut L p t → Left k r t → LeftToo L k p r

module _ (L M : ℕ → ℕ → Type 0) (l k : ℕ) (which : (m j : ℕ) → M m j → WhichLoop L l k m j) where
  break_left : {n i j : ℕ} → WhichLoop L l k i j → i ≡ l → LeftToo L k on (leaves (breaks n j))
  break_left (this_loop e d) h = left_too on both_on (by_break d)
  break_left (outer_loop e d g) h = absurd (e h)

  outer_break_left : {m n i j : ℕ} → WhichLoop L l k i j → (i ≡ l → ⊥) → LeftToo L k (leaves (breaks m i)) (leaves (breaks n j))
  outer_break_left (this_loop e d) h = absurd (h e)
  outer_break_left {n = n} {j = j} (outer_loop e d g) h = left_too (leaves (breaks n j)) (both_leave (both_break g)) (by_outer_break d)

  outer_continue_left : {m n i j : ℕ} → WhichLoop L l k i j → (i ≡ l → ⊥) → LeftToo L k (leaves (continues m i)) (leaves (continues n j))
  outer_continue_left (this_loop e d) h = absurd (h e)
  outer_continue_left {n = n} {j = j} (outer_loop e d g) h = left_too (leaves (continues n j)) (both_leave (both_continue g)) (by_outer_continue d)

  left_same : {o p r : Out} → SameOut M o r → Left l o p → LeftToo L k p r
  left_same (both_leave (both_break {l = i} {k = j} g)) (by_break e) = break_left (which i j g) e
  left_same (both_leave (both_break {l = i} {k = j} g)) (by_outer_break n) = outer_break_left (which i j g) n
  left_same (both_leave (both_continue {l = i} {k = j} g)) (by_outer_continue n) = outer_continue_left (which i j g) n
  left_same (both_leave (both_return {n = n})) by_return = left_too (leaves (returns n)) (both_leave both_return) by_return
  left_same both_on d = elim d [ ]
  left_same both_fail d = elim d [ ]

  continued : {n i j : ℕ} → WhichLoop L l k i j → i ≡ l → Passed k (leaves (continues n j))
  continued (this_loop e d) h = by_continue d
  continued (outer_loop e d g) h = absurd (e h)

  passed_same : {o r : Out} → SameOut M o r → Passed l o → Passed k r
  passed_same both_on by_end = by_end
  passed_same (both_leave (both_continue {l = i} {k = j} g)) (by_continue e) = continued (which i j g) e
  passed_same (both_leave (both_break g)) d = elim d [ ]
  passed_same (both_leave both_return) d = elim d [ ]
  passed_same both_fail d = elim d [ ]

last_comes : (W : World) (R S : W.Scope) (Q : Keeps W) (l k : ℕ) → W.Inside R S l k → (q : Order) (us w vs : List Action) (o p : Out) → Left l o p → Comes W S q us w vs o → Comes W R (order.passes k q) us w vs p
last_comes W R S Q l k m q us w vs o p by_stop cut = cut
last_comes W R S Q l k m q us w vs o p by_return gone = gone
last_comes W R S Q l k m q us w vs o p d (whole r ws e x h) = by (left_same (W.Loop R) (W.Loop S) l k (λ n j i. Q.which R S l k n j m i) e d)
  where
    by : LeftToo (W.Loop R) k p r → Comes W R (order.passes k q) us w vs p
    by (left_too t i j) = whole t ws i (last x j) (λ V v. h V (Q.outside R S l k V m v))

reach_pass : (W : World) (l : ℕ) (q : Order) (w : List Action) → Reach W (order.passes l q) w → Reach W q w
reach_pass W l q w k us o h = k us stopped (last (stops h) by_stop)

reach_again : (W : World) (l : ℕ) (q : Order) (w vs : List Action) (o : Out) → Reach W (order.passes l q) w → Walk q vs o → Passed l o → Reach W (order.passes l q) (w ++ vs)
reach_again W l q w vs o k a d us p h = subst W.C (sym (joined w vs us)) (k (vs ++ us) p (more a d h))

more_comes : (W : World) (R S : W.Scope) (Q : Keeps W) (l m : ℕ) → W.Inside R S l m → (q : Order) (us w vs xs : List Action) (o p : Out) → Passed l o
    → ((ws : List Action) → Hist W R (us ++ vs) (w ++ ws) → Reach W (order.passes m q) (w ++ ws) → Answer W R (order.passes m q) (us ++ vs) (w ++ ws) xs p)
    → Reach W (order.passes m q) w → Good W us vs → Comes W S q us w vs o → Answer W R (order.passes m q) us w (vs ++ xs) p
more_comes W R S Q l m n q us w vs xs o p d again k a cut = elim d [ ]
more_comes W R S Q l m n q us w vs xs o p d again k a gone = elim d [ ]
more_comes W R S Q l m n q us w vs xs o p d again k a (whole r ws e x h) = by (again ws (λ V v. h V (Q.outside R S l m V n v)) (reach_again W m q w ws r k x (passed_same (W.Loop R) (W.Loop S) l m (λ i j g. Q.which R S l m i j n g) e d)))
  where
    comes : {p : Out} → Comes W R (order.passes m q) (us ++ vs) (w ++ ws) xs p → Comes W R (order.passes m q) us w (vs ++ xs) p
    comes cut = cut
    comes gone = gone
    comes (whole t ys i y j) = whole t (ws ++ ys) i (more x (passed_same (W.Loop R) (W.Loop S) l m (λ i j g. Q.which R S l m i j n g) e d) y) (hist_joined W R us vs xs w ws ys j)

    by : Answer W R (order.passes m q) (us ++ vs) (w ++ ws) xs p → Answer W R (order.passes m q) us w (vs ++ xs) p
    by z = record { good = good_both W us vs xs a z.good; comes = comes z.comes }

pub passes_maps : (W : World) (R S : W.Scope) (Q : Keeps W) (l m : ℕ) → W.Inside R S l m → (s q : Order) → Maps W S s q → Maps W R (order.passes l s) (order.passes m q)
passes_maps W R S Q l m n s q f us w vs o h k rests = answer_rests
passes_maps W R S Q l m n s q f us w vs o h k (stops {o = p} x) = answer_stops (passes_maps W R S Q l m n s q f us w vs p h k x)
passes_maps W R S Q l m n s q f us w vs o h k (last {o = p} a d) = by (f us w vs p (λ V v. h V (Q.inside R S l m V n v)) (reach_pass W m q w k) a)
  where
    by : Answer W S q us w vs p → Answer W R (order.passes m q) us w vs o
    by z = record { good = z.good; comes = last_comes W R S Q l m n q us w vs p o d z.comes }
passes_maps W R S Q l m n s q f us w vs o h k (more {us = u} {vs = v} {o = p} a d b) =
    by (λ ws i j. passes_maps W R S Q l m n s q f (us ++ u) (w ++ ws) v o i j b) (f us w u p (λ V v. h V (Q.inside R S l m V n v)) (reach_pass W m q w k) a)
  where
    by : ((ws : List Action) → Hist W R (us ++ u) (w ++ ws) → Reach W (order.passes m q) (w ++ ws) → Answer W R (order.passes m q) (us ++ u) (w ++ ws) v o)
        → Answer W S q us w u p → Answer W R (order.passes m q) us w (u ++ v) o
    by again z = more_comes W R S Q l m n q us w u v p o d again k z.good z.comes

-- ---- variables that begin

begun_comes : (W : World) (R S : W.Scope) (Q : Keeps W) (a b : Action) → W.Begins R S a b → (q : Order) (us w vs : List Action) {o : Out}
    → Comes W S q (us ++ a ∷ []) (w ++ b ∷ []) vs o → Comes W R (order.then (order.act b) q) us w (a ∷ vs) o
begun_comes W R S Q a b i q us w vs cut = cut
begun_comes W R S Q a b i q us w vs gone = gone
begun_comes W R S Q a b i q us w vs (whole p ws e x h) = whole p (b ∷ ws) (wider_out (λ l k. Q.begin_loops R S a b l k i) e) (both acts x)
    (λ V v. subst (λ l. Traced W.C V l (w ++ b ∷ ws)) (joined us (a ∷ []) vs) (subst (λ l. Traced W.C V ((us ++ a ∷ []) ++ vs) l) (joined w (b ∷ []) ws) (h V (Q.begin_wider R S a b V i v))))

-- the walks of an action
pub data OfAct (a : Action) : List Action → Out → Type 0 where
  acted : OfAct a (a ∷ []) on
  half : OfAct a (a ∷ []) stopped
  idle : OfAct a [] stopped

half_of : {a : Action} {us : List Action} {o : Out} → OfAct a us o → OfAct a us stopped
half_of acted = half
half_of half = half
half_of idle = idle

pub of_act : {a : Action} {us : List Action} {o : Out} → Walk (order.act a) us o → OfAct a us o
of_act rests = idle
of_act (stops h) = half_of (of_act h)
of_act acts = acted

pub begins_maps : (W : World) (R S : W.Scope) (Q : Keeps W) (a b : Action) → W.Begins R S a b → (s q : Order) → Maps W S s q → Maps W R (order.then (order.act a) s) (order.then (order.act b) q)
begins_maps W R S Q a b i s q f us w vs o h k rests = answer_rests
begins_maps W R S Q a b i s q f us w vs o h k (stops {o = p} x) = answer_stops (begins_maps W R S Q a b i s q f us w vs p h k x)
begins_maps W R S Q a b i s q f us w vs o h k (both {us = u} {vs = v} x y) = by (of_act x)
  where
    reached : Reach W q (w ++ b ∷ [])
    reached xs p z = subst W.C (sym (joined w (b ∷ []) xs)) (k (b ∷ xs) p (both acts z))

    answered : Answer W S q (us ++ a ∷ []) (w ++ b ∷ []) v o → Answer W R (order.then (order.act b) q) us w (a ∷ v) o
    answered z = record { good = (Q.begin_in_order R S us a b i, z.good); comes = begun_comes W R S Q a b i q us w v z.comes }

    by : {l : List Action} → OfAct a l on → Answer W R (order.then (order.act b) q) us w (l ++ v) o
    by acted = answered (f (us ++ a ∷ []) (w ++ b ∷ []) v o (Q.begun R S us w a b i h) reached y)
begins_maps W R S Q a b i s q f us w vs o h k (first e x) = by e (of_act x)
  where
    by : {l : List Action} {p : Out} → IsAway p → OfAct a l p → Answer W R (order.then (order.act b) q) us w l p
    by e acted = elim e [ ]
    by e half = record { good = (Q.begin_in_order R S us a b i, tt); comes = cut }
    by e idle = answer_rests
