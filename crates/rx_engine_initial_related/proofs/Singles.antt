-- Orders with one whole walk, which goes on or jumps: their walks are its fronts.
use Rattle.std.proofs.Common.{◌≡◌, ℕ, List, [], ◌∷◌, ◌++◌, None, refl, sym, ◌∙◌, subst, ap}
use Rattle.rx_lower_walks.specs.Matching.{Binding}
use Rattle.rx_lower_walks.specs.Actions.{Dead, Action, does, Subject, taken, declared, written}
use Rattle.rx_lower_walks.specs.Orders.{Exit, Order, exit_node, perhaps, binding}
use Rattle.rx_lower_walks.specs.Orders as orders
use Rattle.rx_lower_walks.specs.Walks.{Out, on, leaves, stopped, IsAway, Walk, rests, stops, nothing, acts, both, first, leave, jumps, halts}
use Rattle.rx_lower_walks.specs.Walks as walk
use Rattle.rx_engine_initial.specs.Matching.{dead}
use Rattle.rx_engine_initial.specs.Handing.{Straight, no_action, one_action, in_sequence}
use Rattle.rx_engine_initial.proofs.Tracing.{nil_right, joined}
use Rattle.rx_engine_initial_related.proofs.Acts.{Bound, bound_none, bound_and}

pub data Took (l : List Action) (o : Out) : List Action → Out → Type 0 where
  took_all : Took l o l o
  took_some : {us : List Action} (vs : List Action) → us ++ vs ≡ l → Took l o us stopped

abbrev pub Single : Order → List Action → Out → Type 0
Single s l o = (us : List Action) (p : Out) → Walk s us p → Took l o us p

pub took_stops : {l us : List Action} {o p : Out} → Took l o us p → Took l o us stopped
took_stops {l = l} took_all = took_some [] (nil_right l)
took_stops (took_some vs e) = took_some vs e

pub single_nothing : Single orders.nothing [] on
single_nothing us p rests = took_some [] refl
single_nothing us p (stops {o = o} h) = took_stops (single_nothing us o h)
single_nothing us p nothing = took_all

pub single_act : (a : Action) → Single (orders.act a) (a ∷ []) on
single_act a us p rests = took_some (a ∷ []) refl
single_act a us p (stops {o = o} h) = took_stops (single_act a us o h)
single_act a us p acts = took_all

pub single_leave : (x : Exit) → Single (orders.leave x) [] (leaves x)
single_leave x us p rests = took_some [] refl
single_leave x us p (stops {o = o} h) = took_stops (single_leave x us o h)
single_leave x us p leave = took_all

behind_took : {l m us vs : List Action} {o p : Out} → Took l on us on → Took m o vs p → Took (l ++ m) o (us ++ vs) p
behind_took took_all took_all = took_all
behind_took {l = l} took_all (took_some {us = us} vs e) = took_some vs (joined l us vs ∙ ap (λ t. l ++ t) e)

first_took : {l us : List Action} {p : Out} (m : List Action) (o : Out) → IsAway p → Took l on us p → Took (l ++ m) o us p
first_took m o e took_all = elim e [ ]
first_took m o e (took_some {us = us} vs h) = took_some (vs ++ m) (sym (joined us vs m) ∙ ap (λ t. t ++ m) h)

pub single_then : (s t : Order) {l m : List Action} {o : Out} → Single s l on → Single t m o → Single (orders.then s t) (l ++ m) o
single_then s t {l = l} {m = m} f g us p rests = took_some (l ++ m) refl
single_then s t {o = o} f g us p (stops {o = q} h) = took_stops (single_then s t f g us q h)
single_then s t f g us p (both {us = u} {vs = v} h k) = behind_took (f u on h) (g v p k)
single_then s t {m = m} {o = o} f g us p (first e h) = first_took m o e (f us p h)

-- what follows a jump is not come to
not_on : {A : Type 0} {l us : List Action} {j : Exit} → Took l (leaves j) us on → A
not_on t = elim t [ ]

pub single_away : (s t : Order) {l : List Action} {j : Exit} → Single s l (leaves j) → Single (orders.then s t) l (leaves j)
single_away s t {l = l} f us p rests = took_some l refl
single_away s t f us p (stops {o = q} h) = took_stops (single_away s t f us q h)
single_away s t f us p (both {us = u} {vs = v} h k) = not_on (f u on h)
single_away s t f us p (first e h) = f us p h

ends_took : {l us : List Action} {o : Out} (n x : ℕ) → Took l o us on → Took (l ++ dead n x o) o (us ++ does n (Dead x) ∷ []) on
ends_took n x took_all = took_all

jumps_took : {l us : List Action} {o : Out} (n x : ℕ) (j : Exit) → Took l o us (leaves j) → Took (l ++ dead n x o) o (us ++ does (exit_node j) (Dead x) ∷ []) (leaves j)
jumps_took n x j took_all = took_all

halts_took : {l us : List Action} {o : Out} (n x : ℕ) → Took l o us stopped → Took (l ++ dead n x o) o us stopped
halts_took n x took_all = took_some [] refl
halts_took {o = o} n x (took_some {us = us} vs e) = took_some (vs ++ dead n x o) (sym (joined us vs (dead n x o)) ∙ ap (λ t. t ++ dead n x o) e)

pub single_ending : (n x : ℕ) (s : Order) {l : List Action} {o : Out} → Single s l o → Single (orders.ending n x s) (l ++ dead n x o) o
single_ending n x s {l = l} {o = o} f us p rests = took_some (l ++ dead n x o) refl
single_ending n x s f us p (stops {o = q} h) = took_stops (single_ending n x s f us q h)
single_ending n x s f us p (walk.ends {us = u} h) = ends_took n x (f u on h)
single_ending n x s f us p (jumps {us = u} {j = j} h) = jumps_took n x j (f u (leaves j) h)
single_ending n x s f us p (halts h) = halts_took n x (f us stopped h)

pub straight_single : {s : Order} {l : List Action} → Straight s l → Single s l on
straight_single no_action = single_nothing
straight_single (one_action {a = a}) = single_act a
straight_single (in_sequence {s = s} {t = t} a b) = single_then s t (straight_single a) (straight_single b)

-- ---- bindings, whose variables end behind

abbrev pub deads : ℕ → List Binding → Out → List Action
deads n [] o = []
deads n (b ∷ bs) o = deads n bs o ++ dead n b.variable o

perhaps_single : (X : Subject) (b : Binding) → taken X b ≡ None → Single (perhaps b.node (taken X b)) [] on
perhaps_single X b e = subst (λ a. Single (perhaps b.node a) [] on) (sym e) single_nothing

pub bound_single : (X : Subject) (bs : List Binding) (n : ℕ) (r : Order) {us l : List Action} {o : Out} → Bound X bs us → Single r l o → Single (binding X bs n r) (us ++ (l ++ deads n bs o)) o
bound_single X _ n r {l = l} {o = o} bound_none f = subst (λ m. Single r m o) (sym (nil_right l)) f
bound_single X _ n r {l = l} {o = o} (bound_and {b = b} {bs = bs} {us = us} e d) f =
    subst (λ m. Single (orders.then (perhaps b.node (taken X b)) (orders.then (orders.act (declared b)) (orders.then (orders.act (written X b)) (orders.ending n b.variable (binding X bs n r))))) (declared b ∷ written X b ∷ m) o)
    (joined us (l ++ deads n bs o) (dead n b.variable o) ∙ ap (λ m. us ++ m) (joined l (deads n bs o) (dead n b.variable o)))
    (single_then _ _ (perhaps_single X b e) (single_then _ _ (single_act (declared b)) (single_then _ _ (single_act (written X b)) (single_ending n b.variable (binding X bs n r) (bound_single X bs n r d f)))))
