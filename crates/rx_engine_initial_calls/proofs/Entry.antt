-- What the plan says of a walk through the run, from where it is entered to an exit.
use Rattle.std.proofs.Common.{◌≡◌, ◌≢◌, ℕ, Bool, true, false, not, ◌&&◌, ◌||◌, List, [], ◌∷◌, ◌++◌, refl, sym, ◌∙◌, subst, ap}
use Rattle.rx_core.specs.declared.types.Step.{Step}
use Rattle.rx_typed.specs.Tree.{variable, own}
use Rattle.rx_typed.specs.TypedPlaces.{is_front}
use Rattle.rx_lower_walks.specs.Actions.{Act, Declare, Dead, Read, Write, Borrow, Test, Call, Build, Input, Print, Give, Action, does}
use Rattle.rx_lower_walks.specs.Walks.{IsWalk, Among, here, there, EndsVariable}
use Rattle.rx_facts_tables.specs.Along.{behind, after, ahead}
use Rattle.rx_facts_tables.specs.Setting.{is_behind, AllSet}
use Rattle.rx_facts_tables.specs.Wholes.{is_variable, is_all, assigns, begins, regains, loses, standing, stands, assigning, was_assigned}
use Rattle.rx_facts_tables.specs.Initialised.{IsFixed}
use Rattle.rx_facts_tables.specs.Live.{living, has_root}
use Rattle.rx_exits_plan.specs.Points.{Exit, returns, enters, leaves}
use Rattle.rx_exits_plan.specs.Marked.{shown}
use Rattle.rx_exits_plan.specs.Asked.{Asked, IsLiveAt}
use Rattle.rx_exits_plan.specs.Plan.{Plan, IsPlan, variables_of}
use Rattle.rx_exits_plan.specs.PartlyMoved.{PartlyMoved}
use Rattle.rx_meaning_keeping.proofs.Parts.{parted}
use Rattle.rx_engine_simulation.specs.Sights.{In}
use Rattle.rx_engine_related.specs.AboutRun.{special_of, text_of}
use Rattle.rx_engine_related.specs.Accepted.{Accepted}
use Rattle.rx_engine_related.proofs.Choosing.{chosen_is, param_named, out_is, offered_named}
use Rattle.rx_engine_initial.specs.Variables.{standing_in}
use Rattle.rx_engine_initial.proofs.Tracing.{joined, after_both}
use Rattle.rx_engine_initial.proofs.Ways.{no, and_left, and_right, and_both, or_left, or_right, clash}
use Rattle.rx_engine_initial.proofs.Uses.{uses_self}
use Rattle.rx_engine_initial.proofs.Known.{walk_front}
use Rattle.rx_engine_initial.proofs.Unset.{set_stands}
use Rattle.rx_engine_initial.proofs.Planned.{set_assigned, all_set_at, text_initialised, param_assigned, local_unset, out_set, not_live}
use Rattle.rx_engine_initial_calls.specs.GoneThrough.{all_read, IsGoneThrough}
use Rattle.rx_engine_initial_calls.proofs.TextPlaces.{lent_stands}
use Rattle.rx_modes_uses.specs.NotMut.{NotMut}

-- ---- lists

-- a read of a param is a use of it
reads_ahead : (y : ℕ) (ys : List ℕ) (us ws : List Action) → Among y ys → ahead (living (variable y)) (all_read ys us ++ ws) ≡ true
reads_ahead y _ us ws (here {l = ys}) = or_left (has_root (variable y ∷ []) (variable y)) (ahead (living (variable y)) (all_read ys us ++ ws)) (uses_self y)
reads_ahead y _ us ws (there {b = z} {l = ys} i) = or_right (has_root (variable z ∷ []) (variable y)) (ahead (living (variable y)) (all_read ys us ++ ws)) (reads_ahead y ys us ws i)

-- what was assigned is, until it begins
stays_assigned : (y : ℕ) (u : List Action) (b : Bool) → ((a : Action) → Among a u → begins y a.act ≡ false) → b ≡ true → after (assigning y) u b ≡ true
stays_assigned y [] b f e = e
stays_assigned y (a ∷ u) b f e = stays_assigned y u (behind (assigning y) a b) (λ c i. f c (there i)) (by (assigns y a.act) (begins y a.act) b (f a here) e)
  where
    by : (g k b : Bool) → k ≡ false → b ≡ true → (g || (not k && b)) ≡ true
    by true k b p q = refl
    by false false b p q = q
    by false true b p q = clash true refl p

-- where variables end, nothing is assigned, begins or is used
ends_begin : (y : ℕ) (a : Act) → EndsVariable a → begins y a ≡ false
ends_begin y (Dead x) e = refl
ends_begin y (Declare x) e = absurd e
ends_begin y (Read v p d) e = refl
ends_begin y (Write p t ss) e = refl
ends_begin y (Borrow v p d) e = refl
ends_begin y (Test p c) e = refl
ends_begin y (Call f ts d) e = refl
ends_begin y (Build w is ts d) e = refl
ends_begin y (Input d) e = refl
ends_begin y (Print t) e = refl
ends_begin y (Give t) e = refl

end_ahead : (y n : ℕ) (a : Act) (b : Bool) → EndsVariable a → behind (living (variable y)) (does n a) b ≡ b
end_ahead y n (Dead x) b e = refl
end_ahead y n (Declare x) b e = absurd e
end_ahead y n (Read v p d) b e = absurd e
end_ahead y n (Write p t ss) b e = absurd e
end_ahead y n (Borrow v p d) b e = absurd e
end_ahead y n (Test p c) b e = absurd e
end_ahead y n (Call f ts d) b e = absurd e
end_ahead y n (Build w is ts d) b e = absurd e
end_ahead y n (Input d) b e = absurd e
end_ahead y n (Print t) b e = absurd e
end_ahead y n (Give t) b e = absurd e

ends_ahead : (y : ℕ) (ds ws : List Action) → ((a : Action) → Among a ds → EndsVariable a.act) → ahead (living (variable y)) (ds ++ ws) ≡ ahead (living (variable y)) ws
ends_ahead y [] ws f = refl
ends_ahead y (a ∷ ds) ws f = end_ahead y a.node a.act (ahead (living (variable y)) (ds ++ ws)) (f a here) ∙ ends_ahead y ds ws (λ c i. f c (there i))

-- what stands behind actions and not in front of them was assigned by one of them
pub record Assigned (y : ℕ) (u : List Action) : Type 0 where
  pub front : List Action
  pub action : Action
  pub rest : List Action
  pub is : u ≡ front ++ action ∷ rest
  pub assigns : assigns y action.act ≡ true

regains_all : (y : ℕ) (a : Act) → regains y [] a ≡ true → assigns y a ≡ true
regains_all y (Write p t ss) e = and_both (is_variable p.root y) (is_all p.steps) (and_left (is_variable p.root y) (is_front p.steps []) e) (by p.steps (and_right (is_variable p.root y) (is_front p.steps []) e))
  where
    by : (ss : List Step) → is_front ss [] ≡ true → is_all ss ≡ true
    by [] e = refl
    by (s ∷ ss) e = no e
regains_all y (Declare x) e = no e
regains_all y (Dead x) e = no e
regains_all y (Read v p d) e = no e
regains_all y (Borrow v p d) e = no e
regains_all y (Test p c) e = no e
regains_all y (Call f ts d) e = no e
regains_all y (Build w is ts d) e = no e
regains_all y (Input d) e = no e
regains_all y (Print t) e = no e
regains_all y (Give t) e = no e

stood_up : (y : ℕ) (u : List Action) (b : Bool) → b ≡ false → after (standing y []) u b ≡ true → Assigned y u
stood_up y [] b e h = clash b h e
stood_up y (a ∷ u) b e h = by (λ i. stood_up y u (behind (standing y []) a b) i h) (regains y [] a.act) refl
  where
    rest : Assigned y u → Assigned y (a ∷ u)
    rest z = record { front = a ∷ z.front; action = z.action; rest = z.rest; is = ap (λ l. a ∷ l) z.is; assigns = z.assigns }

    still : (g k : Bool) → g ≡ false → (g || (not k && b)) ≡ false
    still true k p = no (sym p)
    still false true p = refl
    still false false p = e

    by : (behind (standing y []) a b ≡ false → Assigned y u) → (t : Bool) → regains y [] a.act ≡ t → Assigned y (a ∷ u)
    by f true q = record { front = []; action = a; rest = u; is = refl; assigns = regains_all y a.act q }
    by f false q = rest (f (still (regains y [] a.act) (loses y [] a.act) q))

among_front : {A : Type 0} (a b : A) (us vs : List A) → Among a us → Among a (us ++ b ∷ vs)
among_front a b _ vs here = here
among_front a b _ vs (there i) = there (among_front a b _ vs i)

-- ---- what the plan says of the walk

module _ (A : Asked) (muts : List Bool) (acc : Accepted A muts) (k : Plan) (plan : IsPlan A k) (whole : (x : ℕ) → ¬ (PartlyMoved A k x)) (passed : (x : ℕ) → ¬ (NotMut A muts k x)) (e : Exit) (exits : Among e k.exits)
    (w u : List Action) (c : IsWalk (text_of A k) (w ++ u)) (g : IsGoneThrough A k e u) where
  front : IsWalk (text_of A k) w
  front = walk_front (text_of A k) w u c

  pub entry : IsWalk (text_of A k) (w ++ shown enters ∷ [])
  entry = let z = g.entered in walk_front (text_of A k) (w ++ shown enters ∷ []) (all_read k.params z.0)
      (subst (λ l. IsWalk (text_of A k) l) (ap (λ l. w ++ l) z.1 ∙ sym (joined w (shown enters ∷ []) (all_read k.params z.0))) c)

  pub param_set : (y : ℕ) → Among y k.params → AllSet A.frame w (own y)
  param_set y i = all_set_at A k.params enters w entry y (param_named A k plan y i).1

  pub param_stands : (y : ℕ) → Among y k.params → (qs : List Step) → is_behind qs ≡ false → after (standing_in y qs) w false ≡ true
  param_stands y i = lent_stands A muts acc k plan y (param_named A k plan y i).0 w front (param_set y i)

  pub param_was : (y : ℕ) → Among y k.params → was_assigned (w ++ u) y ≡ true
  param_was y i = after_both (assigning y) w u false ∙ stays_assigned y u (was_assigned w y) (λ a j. g.declared a j y (chosen_is plan.params i).0) (param_assigned A muts acc k plan y i w entry)

  pub param_ahead : (y : ℕ) → Among y k.params → (ws : List Action) → ahead (living (variable y)) (u ++ ws) ≡ true
  param_ahead y i ws = let z = g.entered in ap (λ l. ahead (living (variable y)) (l ++ ws)) z.1 ∙ reads_ahead y k.params z.0 ws i

  to_mark : (rest : List Action) → IsWalk (text_of A k) ((w ++ u) ++ rest) → IsWalk (text_of A k) ((w ++ g.inner) ++ shown (leaves e) ∷ (g.ends ++ rest))
  to_mark rest d = subst (λ l. IsWalk (text_of A k) l) (ap (λ l. (w ++ l) ++ rest) g.left ∙ (ap (λ l. l ++ rest) (sym (joined w g.inner (shown (leaves e) ∷ g.ends))) ∙ joined (w ++ g.inner) (shown (leaves e) ∷ g.ends) rest)) d

  at_mark : w ++ u ≡ (w ++ g.inner) ++ shown (leaves e) ∷ g.ends
  at_mark = ap (λ l. w ++ l) g.left ∙ sym (joined w g.inner (shown (leaves e) ∷ g.ends))

  marked : IsWalk (text_of A k) ((w ++ g.inner) ++ shown (leaves e) ∷ [])
  marked = walk_front (text_of A k) ((w ++ g.inner) ++ shown (leaves e) ∷ []) g.ends (subst (λ l. IsWalk (text_of A k) l) (at_mark ∙ sym (joined (w ++ g.inner) (shown (leaves e) ∷ []) g.ends)) c)

  inner : IsWalk (text_of A k) (w ++ g.inner)
  inner = walk_front (text_of A k) (w ++ g.inner) (shown (leaves e) ∷ []) marked

  out_named : (y : ℕ) → Among y (k.outs e) → Among y (variables_of A)
  out_named y o = offered_named A k plan y (out_is A k plan e exits y o).0

  out_there : (y : ℕ) → Among y (k.outs e) → AllSet A.frame (w ++ g.inner) (own y)
  out_there y o = out_set A muts acc k plan e y (whole y) exits o (w ++ g.inner) marked

  pub out_was : (y : ℕ) → Among y (k.outs e) → was_assigned (w ++ u) y ≡ true
  out_was y o = ap (λ l. was_assigned l y) at_mark ∙ (after_both (assigning y) (w ++ g.inner) (shown (leaves e) ∷ g.ends) false
      ∙ stays_assigned y g.ends (was_assigned (w ++ g.inner) y) (λ a j. ends_begin y a.act (g.ended a j))
      (set_assigned A.frame (parted A.frame acc.sized) muts (text_of A k) (text_initialised A muts acc k plan) y (acc.named y (out_named y o)) (w ++ g.inner) inner (out_there y o)))

  pub not_needed : e ≢ returns → (y : ℕ) → In y (special_of A muts k) → (Among y (k.outs e) → ⊥) → (ws : List Action) → IsWalk (text_of A k) ((w ++ u) ++ ws) → ahead (living (variable y)) ws ≡ false
  not_needed n y s f ws d = sym (ends_ahead y g.ends ws g.ended) ∙ not_live A muts acc k plan passed e y exits n s f (w ++ g.inner) (g.ends ++ ws) (to_mark ws d)

  pub not_live_there : (y : ℕ) → ¬ (IsLiveAt A k.params e y) → (ws : List Action) → IsWalk (text_of A k) ((w ++ u) ++ ws) → ahead (living (variable y)) ws ≡ false
  not_live_there y f ws d = sym (ends_ahead y g.ends ws g.ended) ∙ by (ahead (living (variable y)) (g.ends ++ ws)) refl
    where
      by : (b : Bool) → ahead (living (variable y)) (g.ends ++ ws) ≡ b → ahead (living (variable y)) (g.ends ++ ws) ≡ false
      by false q = q
      by true q = absurd (f (w ++ g.inner, g.ends ++ ws, to_mark ws d, q))

  -- a local that is handed out, and not declared `mut`, is assigned in the run, so it was not before
  pub local_not : (y : ℕ) → Among y k.locals → Among y (k.outs e) → IsFixed muts y → was_assigned w y ≡ false
  local_not y i o fixed = by (was_assigned w y) refl
    where
      has : Assigned y g.inner
      has = let h = acc.named y (out_named y o) in stood_up y g.inner (stands w y []) (local_unset A muts acc k plan y i w entry)
          (sym (after_both (standing y []) w g.inner false) ∙ set_stands A.frame (parted A.frame acc.sized) muts (text_of A k) (text_initialised A muts acc k plan) y h.0 h.1 (w ++ g.inner) inner (out_there y o h.0 h.1))

      at : IsWalk (text_of A k) ((w ++ has.front) ++ has.action ∷ [])
      at = walk_front (text_of A k) ((w ++ has.front) ++ has.action ∷ []) has.rest (subst (λ l. IsWalk (text_of A k) l)
          (ap (λ l. w ++ l) has.is ∙ (sym (joined w has.front (has.action ∷ has.rest)) ∙ sym (joined (w ++ has.front) (has.action ∷ []) has.rest))) inner)

      there_too : (a : Action) → Among a has.front → Among a u
      there_too a j = subst (λ l. Among a l) (sym g.left) (among_front a (shown (leaves e)) g.inner g.ends (subst (λ l. Among a l) (sym has.is) (among_front a has.action has.front has.rest j)))

      by : (b : Bool) → was_assigned w y ≡ b → was_assigned w y ≡ false
      by false q = q
      by true q = clash (was_assigned (w ++ has.front) y)
          (after_both (assigning y) w has.front false ∙ stays_assigned y has.front (was_assigned w y) (λ a j. g.declared a (there_too a j) y (chosen_is plan.locals i).0) q)
          ((text_initialised A muts acc k plan (w ++ has.front) has.action at).assigns y has.assigns fixed)
