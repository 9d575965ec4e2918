-- Where a part of the text never goes on, nothing is asked of what stands behind the part that matches it.
use Rattle.std.proofs.Common.{List, ◌++◌}
use Rattle.rx_lower_walks.specs.Actions.{Action}
use Rattle.rx_lower_walks.specs.Orders.{Order}
use Rattle.rx_lower_walks.specs.Orders as order
use Rattle.rx_lower_walks.specs.Walks.{Out, on, IsAway, Walk, rests, stops, both, first}
use Rattle.rx_engine_initial.specs.Matching.{World, both_on, Comes, cut, gone, whole, Answer, Maps, Keeps, Matches, is_known}
use Rattle.rx_engine_initial.proofs.Mapping.{answer_stops, answer_rests, reach_first, away_too}
use Rattle.rx_engine_initial.proofs.Matched.{maps}

module _ (W : World) (R : W.Scope) (s q t r : Order) where
  away : (us w vs : List Action) (o : Out) → IsAway o → Comes W R q us w vs o → Comes W R (order.then q r) us w vs o
  away us w vs o a cut = cut
  away us w vs o a gone = gone
  away us w vs o a (whole p ws e x h) = whole p ws e (first (away_too e a) x) h

  never : (us w vs xs : List Action) (o : Out) → ((ws : List Action) → Walk q ws on → ⊥) → Comes W R q us w vs on → Answer W R (order.then q r) us w (vs ++ xs) o
  never us w vs xs o n (whole _ ws both_on x h) = absurd (n ws x)

  never_maps : ((ws : List Action) → Walk q ws on → ⊥) → Maps W R s q → Maps W R (order.then s t) (order.then q r)
  never_maps n f us w vs o h k rests = answer_rests
  never_maps n f us w vs o h k (stops {o = p} x) = answer_stops (never_maps n f us w vs p h k x)
  never_maps n f us w vs o h k (both {us = u} {vs = v} a b) = never us w u v o n (f us w u on h (reach_first W q r w k) a).comes
  never_maps n f us w vs o h k (first e a) = by (f us w vs o h (reach_first W q r w k) a)
    where
      by : Answer W R q us w vs o → Answer W R (order.then q r) us w vs o
      by z = record { good = z.good; comes = away us w vs o e z.comes }

pub never_then : (W : World) → Keeps W → (R : W.Scope) {s q : Order} (t r : Order) → ((ws : List Action) → Walk q ws on → ⊥) → Matches W R s q → Matches W R (order.then s t) (order.then q r)
never_then W keep R {s = s} {q = q} t r n h = is_known (never_maps W R s q t r n (maps W keep R s q h))
