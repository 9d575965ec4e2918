-- Walks of the forms of an order come from walks of the text's: sequences, choices, tests that fail, variables that end, actions, jumps.
use Rattle.std.proofs.Common.{◌≡◌, ℕ, Bool, true, false, List, [], ◌∷◌, ◌++◌, ◌⊎◌, inl, inr, refl, sym, ◌∙◌, subst, ap}
use Rattle.rx_lower_walks.specs.Actions.{Dead, Action, does}
use Rattle.rx_lower_walks.specs.Orders.{Exit, breaks, continues, returns, exit_node, Order}
use Rattle.rx_lower_walks.specs.Orders as order
use Rattle.rx_lower_walks.specs.Walks.{Out, on, leaves, fails, stopped, IsAway, DoesNotFail, Passed, by_end, by_continue, Left, by_break, by_outer_break, by_outer_continue, by_return, by_stop, Walk, rests, stops, nothing, acts, both, first, one, other, leave, fail, holds, next, ends, jumps, halts, last, more}
use Rattle.rx_engine_initial.specs.Tracing.{View, Alike, Traced, copied}
use Rattle.rx_engine_initial.specs.Matching.{World, Hist, Reach, Good, SameExit, both_break, both_continue, both_return, SameOut, both_on, both_leave, both_fail, Comes, cut, gone, whole, Answer, Maps, Keeps}
use Rattle.rx_engine_initial.proofs.Tracing.{nil_right, joined}

-- ---- lists that are in order

pub good_both : (W : World) (us vs ws : List Action) → Good W us vs → Good W (us ++ vs) ws → Good W us (vs ++ ws)
good_both W us [] ws g h = subst (λ l. Good W l ws) (nil_right us) h
good_both W us (a ∷ vs) ws g h = (g.0, good_both W (us ++ a ∷ []) vs ws g.1 (subst (λ l. Good W l ws) (sym (joined us (a ∷ []) vs)) h))

pub hist_joined : (W : World) (R : W.Scope) (us vs ws w x y : List Action) → Hist W R ((us ++ vs) ++ ws) ((w ++ x) ++ y) → Hist W R (us ++ (vs ++ ws)) (w ++ (x ++ y))
hist_joined W R us vs ws w x y h V i = subst (λ l. Traced W.C V l (w ++ (x ++ y))) (joined us vs ws) (subst (λ l. Traced W.C V ((us ++ vs) ++ ws) l) (joined w x y) (h V i))

pub hist_nil : (W : World) (R : W.Scope) (us w : List Action) → Hist W R us w → Hist W R (us ++ []) (w ++ [])
hist_nil W R us w h V i = subst (λ l. Traced W.C V l (w ++ [])) (sym (nil_right us)) (subst (λ l. Traced W.C V us l) (sym (nil_right w)) (h V i))

pub hist_one : (W : World) (R : W.Scope) (us w : List Action) (a b : Action) → Hist W R us w → ((V : View) → W.Seen R V → Alike V a b) → Hist W R (us ++ a ∷ []) (w ++ b ∷ [])
hist_one W R us w a b h e V i = copied a b (h V i) (e V i)

pub answer_stops : {W : World} {R : W.Scope} {q : Order} {us w vs : List Action} {o : Out} → Answer W R q us w vs o → Answer W R q us w vs stopped
answer_stops a = record { good = a.good; comes = cut }

pub answer_rests : {W : World} {R : W.Scope} {q : Order} {us w : List Action} → Answer W R q us w [] stopped
answer_rests = record { good = tt; comes = cut }

-- ---- sequences

pub away_too : {L : ℕ → ℕ → Type 0} {o p : Out} → SameOut L o p → IsAway o → IsAway p
away_too both_on h = h
away_too (both_leave e) h = tt
away_too both_fail h = tt

pub reach_first : (W : World) (s t : Order) (w : List Action) → Reach W (order.then s t) w → Reach W s w
reach_first W s t w k us o h = k us stopped (first tt (stops h))

pub reach_second : (W : World) (s t : Order) (w vs : List Action) → Reach W (order.then s t) w → Walk s vs on → Reach W t (w ++ vs)
reach_second W s t w vs k a us o h = subst W.C (sym (joined w vs us)) (k (vs ++ us) o (both a h))

then_on : (W : World) (R : W.Scope) (t q r : Order) (us w vs xs : List Action) (o : Out) → Maps W R t r → Walk t xs o → Reach W (order.then q r) w → Good W us vs
    → Comes W R q us w vs on → Answer W R (order.then q r) us w (vs ++ xs) o
then_on W R t q r us w vs xs o g b k a (whole _ ws both_on x h) = by (g (us ++ vs) (w ++ ws) xs o h (reach_second W q r w ws k x) b)
  where
    comes : {p : Out} → Comes W R r (us ++ vs) (w ++ ws) xs p → Comes W R (order.then q r) us w (vs ++ xs) p
    comes cut = cut
    comes gone = gone
    comes (whole p ys e y i) = whole p (ws ++ ys) e (both x y) (hist_joined W R us vs xs w ws ys i)

    by : Answer W R r (us ++ vs) (w ++ ws) xs o → Answer W R (order.then q r) us w (vs ++ xs) o
    by z = record { good = good_both W us vs xs a z.good; comes = comes z.comes }

then_away : (W : World) (R : W.Scope) (q r : Order) (us w vs : List Action) (o : Out) → IsAway o → Comes W R q us w vs o → Comes W R (order.then q r) us w vs o
then_away W R q r us w vs o a cut = cut
then_away W R q r us w vs o a gone = gone
then_away W R q r us w vs o a (whole p ws e x h) = whole p ws e (first (away_too e a) x) h

pub then_maps : (W : World) (R : W.Scope) (s t q r : Order) → Maps W R s q → Maps W R t r → Maps W R (order.then s t) (order.then q r)
then_maps W R s t q r f g us w vs o h k rests = answer_rests
then_maps W R s t q r f g us w vs o h k (stops {o = p} x) = answer_stops (then_maps W R s t q r f g us w vs p h k x)
then_maps W R s t q r f g us w vs o h k (both {us = u} {vs = v} a b) = by (f us w u on h (reach_first W q r w k) a)
  where
    by : Answer W R q us w u on → Answer W R (order.then q r) us w (u ++ v) o
    by z = then_on W R t q r us w u v o g b k z.good z.comes
then_maps W R s t q r f g us w vs o h k (first e a) = by (f us w vs o h (reach_first W q r w k) a)
  where
    by : Answer W R q us w vs o → Answer W R (order.then q r) us w vs o
    by z = record { good = z.good; comes = then_away W R q r us w vs o e z.comes }

-- ---- choices

one_comes : (W : World) (R : W.Scope) (q r : Order) (us w vs : List Action) (o : Out) → Comes W R q us w vs o → Comes W R (order.or q r) us w vs o
one_comes W R q r us w vs o cut = cut
one_comes W R q r us w vs o gone = gone
one_comes W R q r us w vs o (whole p ws e x h) = whole p ws e (one x) h

other_comes : (W : World) (R : W.Scope) (q r : Order) (us w vs : List Action) (o : Out) → Comes W R r us w vs o → Comes W R (order.or q r) us w vs o
other_comes W R q r us w vs o cut = cut
other_comes W R q r us w vs o gone = gone
other_comes W R q r us w vs o (whole p ws e x h) = whole p ws e (other x) h

pub or_maps : (W : World) (R : W.Scope) (s t q r : Order) → Maps W R s q → Maps W R t r → Maps W R (order.or s t) (order.or q r)
or_maps W R s t q r f g us w vs o h k rests = answer_rests
or_maps W R s t q r f g us w vs o h k (stops {o = p} x) = answer_stops (or_maps W R s t q r f g us w vs p h k x)
or_maps W R s t q r f g us w vs o h k (one a) = by (f us w vs o h (λ xs p x. k xs p (one x)) a)
  where
    by : Answer W R q us w vs o → Answer W R (order.or q r) us w vs o
    by z = record { good = z.good; comes = one_comes W R q r us w vs o z.comes }
or_maps W R s t q r f g us w vs o h k (other a) = by (g us w vs o h (λ xs p x. k xs p (other x)) a)
  where
    by : Answer W R r us w vs o → Answer W R (order.or q r) us w vs o
    by z = record { good = z.good; comes = other_comes W R q r us w vs o z.comes }

-- ---- tests that fail

reach_other : (W : World) (s t : Order) (w vs : List Action) → Reach W (order.otherwise s t) w → Walk s vs fails → Reach W t (w ++ vs)
reach_other W s t w vs k a us o h = subst W.C (sym (joined w vs us)) (k (vs ++ us) o (next a h))

pub stays_too : {L : ℕ → ℕ → Type 0} {o p : Out} → SameOut L o p → DoesNotFail o → DoesNotFail p
stays_too both_on h = tt
stays_too (both_leave e) h = tt
stays_too both_fail h = h

next_comes : (W : World) (R : W.Scope) (t q r : Order) (us w vs xs : List Action) (o : Out) → Maps W R t r → Walk t xs o → Reach W (order.otherwise q r) w → Good W us vs
    → Comes W R q us w vs fails → Answer W R (order.otherwise q r) us w (vs ++ xs) o
next_comes W R t q r us w vs xs o g b k a (whole _ ws both_fail x h) = by (g (us ++ vs) (w ++ ws) xs o h (reach_other W q r w ws k x) b)
  where
    comes : {p : Out} → Comes W R r (us ++ vs) (w ++ ws) xs p → Comes W R (order.otherwise q r) us w (vs ++ xs) p
    comes cut = cut
    comes gone = gone
    comes (whole p ys e y i) = whole p (ws ++ ys) e (next x y) (hist_joined W R us vs xs w ws ys i)

    by : Answer W R r (us ++ vs) (w ++ ws) xs o → Answer W R (order.otherwise q r) us w (vs ++ xs) o
    by z = record { good = good_both W us vs xs a z.good; comes = comes z.comes }

holds_comes : (W : World) (R : W.Scope) (q r : Order) (us w vs : List Action) (o : Out) → DoesNotFail o → Comes W R q us w vs o → Comes W R (order.otherwise q r) us w vs o
holds_comes W R q r us w vs o a cut = cut
holds_comes W R q r us w vs o a gone = gone
holds_comes W R q r us w vs o a (whole p ws e x h) = whole p ws e (holds (stays_too e a) x) h

pub otherwise_maps : (W : World) (R : W.Scope) (s t q r : Order) → Maps W R s q → Maps W R t r → Maps W R (order.otherwise s t) (order.otherwise q r)
otherwise_maps W R s t q r f g us w vs o h k rests = answer_rests
otherwise_maps W R s t q r f g us w vs o h k (stops {o = p} x) = answer_stops (otherwise_maps W R s t q r f g us w vs p h k x)
otherwise_maps W R s t q r f g us w vs o h k (holds e a) = by (f us w vs o h (λ xs p x. k xs stopped (holds tt (stops x))) a)
  where
    by : Answer W R q us w vs o → Answer W R (order.otherwise q r) us w vs o
    by z = record { good = z.good; comes = holds_comes W R q r us w vs o e z.comes }
otherwise_maps W R s t q r f g us w vs o h k (next {us = u} {vs = v} a b) = by (f us w u fails h (λ xs p x. k xs stopped (holds tt (stops x))) a)
  where
    by : Answer W R q us w u fails → Answer W R (order.otherwise q r) us w (u ++ v) o
    by z = next_comes W R t q r us w u v o g b k z.good z.comes

-- ---- variables that end

ends_comes : (W : World) (R : W.Scope) (Q : Keeps W) (m n x y : ℕ) (q : Order) (us w vs : List Action) → W.Ends R x y → Comes W R q us w vs on → Comes W R (order.ending n y q) us w (vs ++ does m (Dead x) ∷ []) on
ends_comes W R Q m n x y q us w vs e (whole _ ws both_on a h) =
    whole on (ws ++ does n (Dead y) ∷ []) both_on (ends a) (hist_joined W R us vs _ w ws _ (hist_one W R (us ++ vs) (w ++ ws) _ _ h (λ V i. Q.ended R x y m n V e i)))

jumps_comes : (W : World) (R : W.Scope) (Q : Keeps W) (n x y : ℕ) (i : Exit) (q : Order) (us w vs : List Action) → W.Ends R x y → Comes W R q us w vs (leaves i)
    → Comes W R (order.ending n y q) us w (vs ++ does (exit_node i) (Dead x) ∷ []) (leaves i)
jumps_comes W R Q n x y i q us w vs e gone = gone
jumps_comes W R Q n x y i q us w vs e (whole _ ws (both_leave {j = j} d) a h) =
    whole (leaves j) (ws ++ does (exit_node j) (Dead y) ∷ []) (both_leave d) (jumps a) (hist_joined W R us vs _ w ws _ (hist_one W R (us ++ vs) (w ++ ws) _ _ h (λ V i. Q.ended R x y _ _ V e i)))

pub good_dead : (W : World) (Q : Keeps W) (us vs : List Action) (n x : ℕ) → Good W us vs → Good W us (vs ++ does n (Dead x) ∷ [])
good_dead W Q us vs n x g = good_both W us vs (does n (Dead x) ∷ []) g (Q.dead_in_order (us ++ vs) n x, tt)

pub ending_maps : (W : World) (R : W.Scope) (Q : Keeps W) (m n x y : ℕ) (s q : Order) → W.Ends R x y → Maps W R s q → Maps W R (order.ending m x s) (order.ending n y q)
ending_maps W R Q m n x y s q e f us w vs o h k rests = answer_rests
ending_maps W R Q m n x y s q e f us w vs o h k (stops {o = p} a) = answer_stops (ending_maps W R Q m n x y s q e f us w vs p h k a)
ending_maps W R Q m n x y s q e f us w vs o h k (ends {us = u} a) = by (f us w u on h (λ xs p b. k xs stopped (halts (stops b))) a)
  where
    by : Answer W R q us w u on → Answer W R (order.ending n y q) us w (u ++ does m (Dead x) ∷ []) on
    by z = record { good = good_dead W Q us u m x z.good; comes = ends_comes W R Q m n x y q us w u e z.comes }
ending_maps W R Q m n x y s q e f us w vs o h k (jumps {us = u} {j = j} a) = by (f us w u (leaves j) h (λ xs p b. k xs stopped (halts (stops b))) a)
  where
    by : Answer W R q us w u (leaves j) → Answer W R (order.ending n y q) us w (u ++ does (exit_node j) (Dead x) ∷ []) (leaves j)
    by z = record { good = good_dead W Q us u (exit_node j) x z.good; comes = jumps_comes W R Q n x y j q us w u e z.comes }
ending_maps W R Q m n x y s q e f us w vs o h k (halts a) = by (f us w vs stopped h (λ xs p b. k xs stopped (halts (stops b))) a)
  where
    by : Answer W R q us w vs stopped → Answer W R (order.ending n y q) us w vs stopped
    by z = record { good = z.good; comes = cut }

-- ---- leaves

pub nothing_maps : (W : World) (R : W.Scope) → Maps W R order.nothing order.nothing
nothing_maps W R us w vs o h k rests = answer_rests
nothing_maps W R us w vs o h k (stops {o = p} a) = answer_stops (nothing_maps W R us w vs p h k a)
nothing_maps W R us w vs o h k nothing = record { good = tt; comes = whole on [] both_on nothing (hist_nil W R us w h) }

pub nowhere_maps : (W : World) (R : W.Scope) → Maps W R order.nowhere order.nowhere
nowhere_maps W R us w vs o h k rests = answer_rests
nowhere_maps W R us w vs o h k (stops {o = p} a) = answer_stops (nowhere_maps W R us w vs p h k a)

pub act_maps : (W : World) (R : W.Scope) (Q : Keeps W) (a b : Action) → W.Same R a b → Maps W R (order.act a) (order.act b)
act_maps W R Q a b e us w vs o h k rests = answer_rests
act_maps W R Q a b e us w vs o h k (stops {o = p} x) = answer_stops (act_maps W R Q a b e us w vs p h k x)
act_maps W R Q a b e us w vs o h k acts = record {
  good = (Q.in_order R us w a b h (k (b ∷ []) on acts) e, tt);
  comes = whole on (b ∷ []) both_on acts (hist_one W R us w a b h (λ V i. Q.alike R a b V e i));
}

pub leave_maps : (W : World) (R : W.Scope) (i j : Exit) → SameExit (W.Loop R) i j → Maps W R (order.leave i) (order.leave j)
leave_maps W R i j e us w vs o h k rests = answer_rests
leave_maps W R i j e us w vs o h k (stops {o = p} x) = answer_stops (leave_maps W R i j e us w vs p h k x)
leave_maps W R i j e us w vs o h k leave = record { good = tt; comes = whole (leaves j) [] (both_leave e) leave (hist_nil W R us w h) }

pub fail_maps : (W : World) (R : W.Scope) → Maps W R order.fail order.fail
fail_maps W R us w vs o h k rests = answer_rests
fail_maps W R us w vs o h k (stops {o = p} x) = answer_stops (fail_maps W R us w vs p h k x)
fail_maps W R us w vs o h k fail = record { good = tt; comes = whole fails [] both_fail fail (hist_nil W R us w h) }
