-- Where a run is entered: params were written, and are living, since the text with marks uses them there; locals are not.
use Rattle.std.proofs.Common.{◌≡◌, ◌⊎◌, inl, inr, ℕ, Bool, false, List, [], ◌∷◌, ◌++◌, map, refl, sym, ap, ◌∙◌, subst, true≢false}
use Rattle.rx_typed.specs.Tree.{Temporary, Body, runs, Function}
use Rattle.rx_lower_walks.specs.Actions.{Action}
use Rattle.rx_lower_walks.specs.Orders.{order_body, order_function}
use Rattle.rx_lower_walks.specs.Walks.{stopped, rests, nothing, acts, both, Walk, Among, here, there}
use Rattle.rx_facts_tables.specs.Wholes.{standing}
use Rattle.rx_exits_plan.specs.Blocks.{before}
use Rattle.rx_exits_plan.specs.Points.{enters}
use Rattle.rx_exits_plan.specs.Marked.{mark, using, entering, shown}
use Rattle.rx_exits_plan.proofs.Coming.{goes_on}
use Rattle.rx_exits_plan.specs.Asked.{Asked}
use Rattle.rx_exits_plan.specs.Plan.{Plan, IsPlan}
use Rattle.rx_engine_simulation.specs.Histories.{put, Written, Living, now, later}
use Rattle.rx_engine_simulation.specs.Programs as programs
use Rattle.rx_engine_simulation.specs.Programs.{back, IsHistory, Untouched, facts_of}
use Rattle.rx_engine_simulation.proofs.Histories.{came}
use Rattle.rx_engine_related.specs.Reads.{entry_read}
use Rattle.rx_engine_related.specs.AboutRun.{marked_with}
use Rattle.rx_engine_related.specs.Accepted.{Accepted}
use Rattle.rx_engine_related.proofs.Since.{since, back_put}
use Rattle.rx_engine_related.proofs.Unset.{lost_dead}
use Rattle.rx_engine_related.proofs.Points.{comes_to_mark, stands_at, written_at, lost_at}
use Rattle.rx_engine_related.proofs.Choosing.{param_named, local_named}

-- ---- what is used in a while, through reads, is living

pub data Reads : List Action → Type 0 where
  no_read : Reads []
  mark_and : {us : List Action} → Reads us → Reads (shown enters ∷ us)
  read_and : {us : List Action} (y : ℕ) → Reads us → Reads (entry_read y ∷ us)

module _ (f : Function) (l : List ℕ) (u : Untouched f (record { special = l; asked = [] })) (x : ℕ) where
  living_along : {us : List Action} → Reads us → (h : List Action) → IsHistory f (entry_read x ∷ put us h) → Living (facts_of f (record { special = l; asked = [] }) u) x h
  living_along no_read h k = now (entry_read x) k refl
  living_along (mark_and r) h k = later (shown enters) (λ e. none e) (living_along r (shown enters ∷ h) k)
    where
      none : ⊥ ⊎ ⊥ → ⊥
      none (inl e) = e
      none (inr e) = e
  living_along (read_and y r) h k = later (entry_read y) (λ e. none e) (living_along r (entry_read y ∷ h) k)
    where
      none : ⊥ ⊎ ⊥ → ⊥
      none (inl e) = e
      none (inr e) = e

-- the reads in front of that of a variable
pub record Until (x : ℕ) (ys : List ℕ) (b : Body) : Type 0 where
  pub list : List Action
  pub reads : Reads list
  pub walk : (n : ℕ) (d : Temporary) → Walk (order_body (before (map using ys) b) n d) (list ++ entry_read x ∷ []) stopped

until : (x : ℕ) (ys : List ℕ) (b : Body) → Among x ys → Until x ys b
until x [] b i = elim i [ ]
until x (_ ∷ ys) b here = record { list = []; reads = no_read; walk = λ n d. both acts rests }
until x (y ∷ ys) b (there i) = let z = until x ys b i in record { list = entry_read y ∷ z.list; reads = read_and y z.reads; walk = λ n d. both acts (z.walk n d) }

pub living_entered : (f : Function) (l : List ℕ) (u : Untouched f (record { special = l; asked = [] })) (xs : List ℕ) (x : ℕ) → Among x xs → (b : Body) (i : ℕ) (t : Temporary) (h : List Action)
    → programs.ComesTo f (order_body (before (entering xs) b) i t) h → Living (facts_of f (record { special = l; asked = [] }) u) x h
living_entered f l u xs x m b i t h c =
    let k = came c in
    let z = until x xs b m in
    let w : Walk (order_function f) (k.0 ++ shown enters ∷ (z.list ++ entry_read x ∷ [])) stopped = goes_on k.2 (shown enters ∷ (z.list ++ entry_read x ∷ [])) (both (both nothing acts) (z.walk i t)) in
    let e : back (entry_read x ∷ put (shown enters ∷ z.list) h) [] ≡ k.0 ++ shown enters ∷ (z.list ++ entry_read x ∷ []) =
    back_put (shown enters ∷ z.list) h (entry_read x ∷ []) ∙ ap (λ g. back g (shown enters ∷ (z.list ++ entry_read x ∷ []))) k.1 ∙ back_put k.0 [] (shown enters ∷ (z.list ++ entry_read x ∷ [])) in
    living_along f l u x (mark_and z.reads) h ([], stopped, subst (λ v. Walk (order_function f) v stopped) (sym e) w)

-- ---- of a plan

module _ (A : Asked) (muts : List Bool) (acc : Accepted A muts) (k : Plan) (p : IsPlan A k) (xs : List ℕ) where
  pub param_written : (x : ℕ) → Among x k.params → (b : Body) (i : ℕ) (t : Temporary) (h : List Action) → programs.ComesTo (marked_with A xs) (order_body (runs (mark enters) b) i t) h → Written h x
  param_written x m b i t h c =
      let z = param_named A k p x m in
      written_at A muts acc xs enters x (acc.named x z.0) z.1 h (comes_to_mark (marked_with A xs) enters b i t h c)

  local_lost : (x : ℕ) → Among x k.locals → (h : List Action) → IsHistory (marked_with A xs) (shown enters ∷ h) → since (standing x []) h ≡ false
  local_lost x m h c = let z = local_named A k p x m in lost_at A muts acc xs enters x h c (λ w q. z.1 w q)

  -- where some walk enters the run, no local is a param
  local_no_param : (x : ℕ) → Among x k.locals → (h : List Action) → IsHistory (marked_with A xs) (shown enters ∷ h) → Among x k.params → ⊥
  local_no_param x m h c i =
      let z = param_named A k p x i in
      true≢false (sym (stands_at A muts acc xs enters x (acc.named x z.0) z.1 h c) ∙ local_lost x m h c)

  pub local_dead : ((y : ℕ) → Among y xs → Among y k.params) → (l : List ℕ) (u : Untouched (marked_with A xs) (record { special = l; asked = [] })) (x : ℕ) → Among x k.locals
      → (b : Body) (i : ℕ) (t : Temporary) (h : List Action) → programs.ComesTo (marked_with A xs) (order_body (runs (mark enters) b) i t) h
      → Living (facts_of (marked_with A xs) (record { special = l; asked = [] }) u) x h → ⊥
  local_dead f l u x m b i t h c v =
      let q = comes_to_mark (marked_with A xs) enters b i t h c in
      lost_dead A muts acc xs x (λ j. local_no_param x m h q (f x j)) l u h (local_lost x m h q) v
