-- A history that came to a part goes on as walks of the part do; and what is behind an action in a walk that began behind the parts which
-- have it not is of the others.
use Rattle.std.proofs.Common.{◌≡◌, ℕ, List, [], ◌∷◌, ◌++◌, ◌⊎◌, inl, inr, ⊎_elim, refl, sym, ap, ◌∙◌, subst, append_assoc}
use Rattle.std.proofs.lemmas.List.{append-nil}
use Rattle.rx_typed.specs.Tree.{Function}
use Rattle.rx_lower_walks.specs.Actions.{Dead, Action, does}
use Rattle.rx_lower_walks.specs.Orders as order
use Rattle.rx_lower_walks.specs.Orders.{Order, order_function, exit_node}
use Rattle.rx_lower_walks.specs.Walks as walk
use Rattle.rx_lower_walks.specs.Walks.{Out, Walk, actions_in, Among, here, there, EndsVariable}
use Rattle.rx_lower_walks.proofs.HeldLemmas.{Own, held}
use Rattle.rx_exits_plan.specs.Coming.{Into, all, in_first, in_second, in_one, in_other, in_arm, in_next, in_scope, in_pass, in_later}
use Rattle.rx_engine_simulation.specs.Histories.{put, Uses, Written, Declares}
use Rattle.rx_engine_simulation.specs.Programs.{back, IsHistory, ComesTo}
use Rattle.rx_engine_simulation.proofs.Histories.{came, among_back}

-- ---- what came to a part goes on

pub goes_on : {q s : Order} {w u : List Action} → Into q s w → Walk q u walk.stopped → Walk s (w ++ u) walk.stopped
goes_on all k = k
goes_on (in_first i) k = walk.first tt (goes_on i k)
goes_on {s = s} {u = u} (in_second {us = us} {w = w} a i) k = subst (λ l. Walk s l walk.stopped) (sym (append_assoc us w u)) (walk.both a (goes_on i k))
goes_on (in_one i) k = walk.one (goes_on i k)
goes_on (in_other i) k = walk.other (goes_on i k)
goes_on (in_arm i) k = walk.holds tt (goes_on i k)
goes_on {s = s} {u = u} (in_next {us = us} {w = w} a i) k = subst (λ l. Walk s l walk.stopped) (sym (append_assoc us w u)) (walk.next a (goes_on i k))
goes_on (in_scope i) k = walk.halts (goes_on i k)
goes_on (in_pass i) k = walk.last (goes_on i k) walk.by_stop
goes_on {s = s} {u = u} (in_later {us = us} {w = w} a p i) k = subst (λ l. Walk s l walk.stopped) (sym (append_assoc us w u)) (walk.more a p (goes_on i k))

back_put : (w h r : List Action) → back (put w h) r ≡ back h (w ++ r)
back_put [] h r = refl
back_put (a ∷ w) h r = back_put w (a ∷ h) r

-- with the actions of such a walk, it is a history
pub comes_on : (g : Function) (q : Order) (h u : List Action) → ComesTo g q h → Walk q u walk.stopped → IsHistory g (put u h)
comes_on g q h u c k =
    let a = came c in
    ([], walk.stopped, subst (λ l. Walk (order_function g) l walk.stopped) (sym (back_put u h [] ∙ ap (λ h. back h (u ++ [])) a.1 ∙ back_put a.0 [] (u ++ []) ∙ ap (λ l. a.0 ++ l) (append-nil u))) (goes_on a.2 k))

-- what was done until then is of the whole
pub into_held : {q s : Order} {w : List Action} → Into q s w → (a : Action) → Among a w → Own a (actions_in s)
into_held {s = s} {w = w} i a m = held (goes_on i walk.rests) a (subst (λ l. Among a l) (sym (append-nil w)) m)

pub written_on : (x : ℕ) (w h : List Action) → ((a : Action) → Among a w → Declares a.act x → ⊥) → Written h x → Written (put w h) x
written_on x [] h none k = k
written_on x (a ∷ w) h none k = written_on x w (a ∷ h) (λ b m. none b (there m)) (inr (none a here, k))

-- ---- what is behind an action

-- the rest of a list behind it
pub data Behind (m : Action) : List Action → List Action → Type 0 where
  just : {w : List Action} → Behind m (m ∷ w) w
  later : {a : Action} {w v : List Action} → Behind m w v → Behind m (a ∷ w) v

behind_back : (m : Action) (h r v : List Action) → Behind m r v → Behind m (back h r) v
behind_back m [] r v k = k
behind_back m (a ∷ h) r v k = behind_back m h (a ∷ r) v (later k)

pub behind_newest : (m : Action) (v h r : List Action) → Behind m (back (v ++ m ∷ h) r) (back v r)
behind_newest m [] h r = behind_back m h (m ∷ r) r just
behind_newest m (a ∷ v) h r = behind_newest m v h (a ∷ r)

behind_append : {m : Action} (us vs v : List Action) → Behind m (us ++ vs) v → Among m us ⊎ Behind m vs v
behind_append [] vs v k = inr k
behind_append (u ∷ us) vs _ just = inl here
behind_append {m = m} (u ∷ us) vs v (later k) = by (behind_append us vs v k)
  where
    by : Among m us ⊎ Behind m vs v → Among m (u ∷ us) ⊎ Behind m vs v
    by (inl i) = inl (there i)
    by (inr b) = inr b

behind_nothing : {m : Action} {v : List Action} → Behind m [] v → ⊥
behind_nothing k = elim k [ ]

behind_among : {m a : Action} {w v : List Action} → Behind m w v → Among a v → Among a w
behind_among just i = there i
behind_among (later k) i = there (behind_among k i)

none_among : {a : Action} → Among a [] → ⊥
none_among k = elim k [ ]

-- behind this action such a variable is not used
abbrev pub Clean : Action → ℕ → List Action → Type 0
Clean m x w = (v : List Action) (a : Action) → Behind m w v → Among a v → Uses a.act x → ⊥

among_snoc : {a : Action} (us : List Action) (b : Action) → Among a (us ++ b ∷ []) → Among a us ⊎ (a ≡ b)
among_snoc [] b here = inr refl
among_snoc [] b (there i) = absurd (none_among i)
among_snoc (u ∷ us) b here = inl here
among_snoc {a} (u ∷ us) b (there i) = by (among_snoc us b i)
  where
    by : Among a us ⊎ (a ≡ b) → Among a (u ∷ us) ⊎ (a ≡ b)
    by (inl k) = inl (there k)
    by (inr e) = inr e

-- with the end of a variable behind it
clean_dead : (m : Action) (x n y : ℕ) (us : List Action) → Clean m x us → Clean m x (us ++ does n (Dead y) ∷ [])
clean_dead m x n y [] clean v a just i uses = none_among i
clean_dead m x n y [] clean v a (later k) i uses = behind_nothing k
clean_dead m x n y (u ∷ us) clean _ a just i uses = by (among_snoc us (does n (Dead y)) i)
  where
    by : Among a us ⊎ (a ≡ does n (Dead y)) → ⊥
    by (inl k) = clean us a just k uses
    by (inr e) = subst (λ (a : Action). Uses a.act x) e uses
clean_dead m x n y (u ∷ us) clean v a (later k) i uses = clean_dead m x n y us (λ v a k i uses. clean v a (later k) i uses) v a k i uses

module _ (m : Action) (x : ℕ) where
  abbrev pub AllClean : Order → Type 0
  AllClean s = (w : List Action) (o : Out) → Walk s w o → Clean m x w

  abbrev pub HasNone : Order → Type 0
  HasNone s = Own m (actions_in s) → ⊥

  pub clean_then : {s t : Order} → HasNone s → AllClean t → AllClean (order.then s t)
  clean_then none clean _ _ walk.rests v a k i uses = behind_nothing k
  clean_then none clean _ _ (walk.stops h) v a k i uses = clean_then none clean _ _ h v a k i uses
  clean_then none clean _ o (walk.both {us = us} {vs = vs} h g) v a k i uses = ⊎_elim (λ f. none (held h m f)) (λ b. clean vs o g v a b i uses) (behind_append us vs v k)
  clean_then none clean _ _ (walk.first {us = us} e h) v a k i uses = none (held h m (among_of k))
    where
      among_of : {m : Action} {w v : List Action} → Behind m w v → Among m w
      among_of just = here
      among_of (later k) = there (among_of k)

  pub clean_ending : {s : Order} {n y : ℕ} → AllClean s → AllClean (order.ending n y s)
  clean_ending clean _ _ walk.rests v a k i uses = behind_nothing k
  clean_ending clean _ _ (walk.stops h) v a k i uses = clean_ending clean _ _ h v a k i uses
  clean_ending clean _ _ (walk.ends {n = n} {x = y} {us = us} h) v a k i uses = clean_dead m x n y us (clean us _ h) v a k i uses
  clean_ending clean _ _ (walk.jumps {x = y} {us = us} {j = j} h) v a k i uses = clean_dead m x (exit_node j) y us (clean us _ h) v a k i uses
  clean_ending clean w _ (walk.halts h) v a k i uses = clean w _ h v a k i uses

  -- where no action uses it
  pub clean_all : {s : Order} → ((a : Action) → Own a (actions_in s) → Uses a.act x → ⊥) → AllClean s
  clean_all none _ _ h v a k i uses = none a (held h a (behind_among k i)) uses

-- a history with this action, and behind it
pub clean_history : (g : Function) (m : Action) (x : ℕ) → AllClean m x (order_function g) → (a : Action) (v h : List Action) → IsHistory g (a ∷ v ++ m ∷ h) → Uses a.act x → ⊥
clean_history g m x clean a v h good uses = clean _ good.1 good.2 (back v (a ∷ good.0)) a (behind_newest m (a ∷ v) h good.0) (among_back v (a ∷ good.0) a (inr here)) uses
