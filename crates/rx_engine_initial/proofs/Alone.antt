-- Parts that stand in one of the two programs alone.
use Rattle.std.proofs.Common.{◌≡◌, ℕ, Bool, true, false, List, [], ◌∷◌, ◌++◌, ◌⊎◌, inl, inr, refl, sym, ◌∙◌, subst, ap}
use Rattle.rx_lower_walks.specs.Actions.{Dead, Action, does}
use Rattle.rx_lower_walks.specs.Orders.{Exit, breaks, continues, returns, exit_node, Order}
use Rattle.rx_lower_walks.specs.Orders as order
use Rattle.rx_lower_walks.specs.Walks.{Out, on, leaves, fails, stopped, IsAway, DoesNotFail, Passed, by_end, by_continue, Left, by_break, by_outer_break, by_outer_continue, by_return, by_stop, Walk, rests, stops, nothing, acts, both, first, one, other, leave, fail, holds, next, ends, jumps, halts, last, more}
use Rattle.rx_engine_initial.specs.Tracing.{View, Alike, Traced, copied}
use Rattle.rx_engine_initial.specs.Matching.{World, Hist, Reach, Good, SameExit, both_break, both_continue, both_return, SameOut, both_on, both_leave, both_fail, Comes, cut, gone, whole, Answer, Maps, Keeps, IsSilent, IsSilentBehind, IsPassedOver, IsGone, Ended, by_stopping, by_returning}
use Rattle.rx_engine_initial.proofs.Tracing.{nil_right, joined}
use Rattle.rx_engine_initial.proofs.Mapping.{answer_stops, answer_rests, good_both, reach_first, reach_second, hist_joined}

-- ---- parts that the text has not

extra_comes : (W : World) (R : W.Scope) (q : Order) (us w vs xs : List Action) {o : Out} → Comes W R q (us ++ vs) w xs o → Comes W R q us w (vs ++ xs) o
extra_comes W R q us w vs xs cut = cut
extra_comes W R q us w vs xs gone = gone
extra_comes W R q us w vs xs (whole p ws e a h) = whole p ws e a (λ V i. subst (λ l. Traced W.C V l (w ++ ws)) (joined us vs xs) (h V i))

pub extra_maps : (W : World) (R : W.Scope) (s t q : Order) → IsSilent W R s q → Maps W R t q → Maps W R (order.then s t) q
extra_maps W R s t q c f us w vs o h k rests = answer_rests
extra_maps W R s t q c f us w vs o h k (stops {o = p} x) = answer_stops (extra_maps W R s t q c f us w vs p h k x)
extra_maps W R s t q c f us w vs o h k (both {us = u} {vs = v} a b) = by (f (us ++ u) w v o (c.quiet us w u h k a) k b)
  where
    by : Answer W R q (us ++ u) w v o → Answer W R q us w (u ++ v) o
    by z = record { good = good_both W us u v (c.good us w u on h k a) z.good; comes = extra_comes W R q us w u v z.comes }
extra_maps W R s t q c f us w vs o h k (first e a) = record { good = c.good us w vs o h k a; comes = subst (λ p. Comes W R q us w vs p) (sym (c.stays vs o a e)) cut }

abbrev IsStopped : Out → Type 0
IsStopped stopped = Unit {0}
IsStopped _ = ⊥

is_stopped : {o : Out} → o ≡ stopped → IsStopped o
is_stopped e = subst IsStopped (sym e) tt

behind_comes : (W : World) (R : W.Scope) (t q : Order) (us w vs xs : List Action) (o : Out) → IsSilentBehind W R t → Walk t xs o → Good W us vs → Comes W R q us w vs on → Answer W R q us w (vs ++ xs) o
behind_comes W R t q us w vs xs on c b g (whole _ ws both_on a h) = record {
  good = good_both W us vs xs g (c.good (us ++ vs) (w ++ ws) xs on h b);
  comes = whole on ws both_on a (λ V i. subst (λ l. Traced W.C V l (w ++ ws)) (joined us vs xs) (c.quiet (us ++ vs) (w ++ ws) xs h b V i));
}
behind_comes W R t q us w vs xs stopped c b g (whole _ ws both_on a h) = record { good = good_both W us vs xs g (c.good (us ++ vs) (w ++ ws) xs stopped h b); comes = cut }
behind_comes W R t q us w vs xs (leaves j) c b g z = absurd (is_stopped (c.stays xs (leaves j) b tt))
behind_comes W R t q us w vs xs fails c b g z = absurd (is_stopped (c.stays xs fails b tt))

pub extra_behind_maps : (W : World) (R : W.Scope) (s t q : Order) → Maps W R s q → IsSilentBehind W R t → Maps W R (order.then s t) q
extra_behind_maps W R s t q f c us w vs o h k rests = answer_rests
extra_behind_maps W R s t q f c us w vs o h k (stops {o = p} x) = answer_stops (extra_behind_maps W R s t q f c us w vs p h k x)
extra_behind_maps W R s t q f c us w vs o h k (both {us = u} {vs = v} a b) = by (f us w u on h k a)
  where
    by : Answer W R q us w u on → Answer W R q us w (u ++ v) o
    by z = behind_comes W R t q us w u v o c b z.good z.comes
extra_behind_maps W R s t q f c us w vs o h k (first e a) = f us w vs o h k a

-- ---- what only stops or returns

pub gone_maps : (W : World) (R : W.Scope) (s q : Order) → IsGone W R s q → Maps W R s q
gone_maps W R s q c us w vs o h k a = record { good = c.good us w vs o h k a; comes = by (c.ended vs o a) }
  where
    by : {o : Out} → Ended o → Comes W R q us w vs o
    by by_stopping = cut
    by by_returning = gone

-- ---- parts that the new program has not

old_comes : (W : World) (R : W.Scope) (q r : Order) (us w vs ws : List Action) {o : Out} → Walk q ws on → Comes W R r us (w ++ ws) vs o → Comes W R (order.then q r) us w vs o
old_comes W R q r us w vs ws a cut = cut
old_comes W R q r us w vs ws a gone = gone
old_comes W R q r us w vs ws a (whole p xs e x h) = whole p (ws ++ xs) e (both a x) (λ V i. subst (λ l. Traced W.C V (us ++ vs) l) (joined w ws xs) (h V i))

pub old_maps : (W : World) (R : W.Scope) (s q r : Order) → IsPassedOver W R q → Maps W R s r → Maps W R s (order.then q r)
old_maps W R s q r c f us w vs o h k x = by (c.passes us w h (reach_first W q r w k))
  where
    answered : (ws : List Action) → Walk q ws on → Answer W R r us (w ++ ws) vs o → Answer W R (order.then q r) us w vs o
    answered ws a z = record { good = z.good; comes = old_comes W R q r us w vs ws a z.comes }

    by : ((ws : List Action) × Walk q ws on × Hist W R us (w ++ ws)) → Answer W R (order.then q r) us w vs o
    by (ws, a, i) = answered ws a (f us (w ++ ws) vs o i (reach_second W q r w ws k a) x)
