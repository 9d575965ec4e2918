-- Each walk of an order that matches another is in order, and comes from a walk of that one, unless it stops or returns.
use Rattle.std.proofs.Common.{◌≡◌, ℕ, List, [], ◌∷◌, ◌++◌, sym, subst}
use Rattle.rx_lower_walks.specs.Actions.{Action}
use Rattle.rx_lower_walks.specs.Orders.{Order}
use Rattle.rx_lower_walks.specs.Walks.{Out, Walk}
use Rattle.rx_engine_initial.specs.Matching.{World, Hist, Reach, Good, Maps, Matches, is_nothing, is_nowhere, is_act, is_then, is_or, is_leave, is_fail, is_otherwise, is_ending, is_passes, is_beginning, is_only_new, is_only_new_behind, is_only_old, is_gone, is_call, is_known, Keeps}
use Rattle.rx_engine_initial.proofs.Tracing.{nil_right, joined}
use Rattle.rx_engine_initial.proofs.Mapping.{nothing_maps, nowhere_maps, act_maps, then_maps, or_maps, leave_maps, fail_maps, otherwise_maps, ending_maps}
use Rattle.rx_engine_initial.proofs.Looping.{passes_maps, begins_maps}
use Rattle.rx_engine_initial.proofs.Alone.{extra_maps, extra_behind_maps, old_maps, gone_maps}
use Rattle.rx_engine_initial.proofs.Calling.{call_maps}

pub maps : (W : World) → Keeps W → (R : W.Scope) (s q : Order) → Matches W R s q → Maps W R s q
maps W Q R s q is_nothing = nothing_maps W R
maps W Q R s q is_nowhere = nowhere_maps W R
maps W Q R s q (is_act {a = a} {b = b} e) = act_maps W R Q a b e
maps W Q R _ _ (is_then {s = s} {t = t} {q = q} {r = r} m n) = then_maps W R s t q r (maps W Q R s q m) (maps W Q R t r n)
maps W Q R _ _ (is_or {s = s} {t = t} {q = q} {r = r} m n) = or_maps W R s t q r (maps W Q R s q m) (maps W Q R t r n)
maps W Q R s q (is_leave {i = i} {j = j} e) = leave_maps W R i j e
maps W Q R s q is_fail = fail_maps W R
maps W Q R _ _ (is_otherwise {s = s} {t = t} {q = q} {r = r} m n) = otherwise_maps W R s t q r (maps W Q R s q m) (maps W Q R t r n)
maps W Q R _ _ (is_ending {m = m} {n = n} {x = x} {y = y} {s = s} {q = q} e i) = ending_maps W R Q m n x y s q e (maps W Q R s q i)
maps W Q R _ _ (is_passes {S = S} {l = l} {k = k} {s = s} {q = q} e m) = passes_maps W R S Q l k e s q (maps W Q S s q m)
maps W Q R _ _ (is_beginning {S = S} {a = a} {b = b} {s = s} {q = q} e m) = begins_maps W R S Q a b e s q (maps W Q S s q m)
maps W Q R _ q (is_only_new {s = s} {t = t} c m) = extra_maps W R s t q c (maps W Q R t q m)
maps W Q R _ q (is_only_new_behind {s = s} {t = t} m c) = extra_behind_maps W R s t q (maps W Q R s q m) c
maps W Q R s _ (is_only_old {q = q} {r = r} c m) = old_maps W R s q r c (maps W Q R s r m)
maps W Q R s q (is_gone c) = gone_maps W R s q c
maps W Q R _ _ (is_call {S = S} {H = H} {K = K} {q = q} {r = r} c d m) = call_maps W R S Q H K q r c d (maps W Q S q r m)
maps W Q R s q (is_known f) = f

-- ---- of a function

pub good_at : (W : World) (us vs : List Action) (a : Action) (rest : List Action) → Good W us (vs ++ a ∷ rest) → W.Ok (us ++ vs) a
good_at W us [] a rest g = subst (λ l. W.Ok l a) (sym (nil_right us)) g.0
good_at W us (v ∷ vs) a rest g = subst (λ l. W.Ok l a) (joined us (v ∷ []) vs) (good_at W (us ++ v ∷ []) vs a rest g.1)

-- each action that some walk of the new order takes is in order behind what came before it
pub in_order_behind : (W : World) → Keeps W → (R : W.Scope) (s q : Order) → Matches W R s q → (us w : List Action) → Hist W R us w → Reach W q w
    → (vs : List Action) (a : Action) (rest : List Action) (o : Out) → Walk s (vs ++ a ∷ rest) o → W.Ok (us ++ vs) a
in_order_behind W Q R s q m us w h k vs a rest o x = good_at W us vs a rest ((maps W Q R s q m us w (vs ++ a ∷ rest) o h k x).good)
