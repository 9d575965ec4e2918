-- That a variable is set where a run is entered, shown by a way through the graph of the marked function: the numbers of its sites, the last
-- being the mark. A way that the graph allows is a path, so a walk; what is set on it is looked up part by part.
use Rattle.std.proofs.Common.{◌≡◌, refl, subst, ◌⊎◌, inl, inr, ℕ, zero, suc, ◌+◌, ◌==◌, ◌<◌, ◌≤◌, Bool, true, false, ◌&&◌, ◌||◌, true≢false, sym, List, [], ◌∷◌, ◌++◌, Option, Some, None, arith}
use Rattle.std.proofs.lemmas.Bool.{eqb-true, cases_lt}
use Rattle.std.proofs.Math.Nat.{le_antisymm}
use Rattle.rx_typed.specs.Tree.{own}
use Rattle.rx_lower_walks.specs.Actions.{Action}
use Rattle.rx_lower_walks.specs.Walks.{Among, here, there}
use Rattle.rx_lower_walks.specs.Graph.{Site, site_at, Path, stop, go}
use Rattle.rx_lower_walks.proofs.Sites.{paths_are_walks_of}
use Rattle.rx_facts_tables.specs.Places.{Frame, place_at, spot_parts}
use Rattle.rx_facts_tables.specs.Setting.{is_set, AllSet}
use Rattle.rx_facts_tables.proofs.Numbers.{in_between}
use Rattle.rx_exits_plan.specs.Points.{enters}
use Rattle.rx_exits_plan.specs.Marked.{shown, marked}
use Rattle.rx_exits_plan.specs.Asked.{Asked}
use Rattle.rx_modes_uses.specs.Uses.{IsSetIn}
use Rattle.rx_modes_uses.proofs.Computing.{graph_of}

never : {P : Type 0} → false ≡ true → P
never e = absurd (true≢false (sym e))

both : (a b : Bool) → a && b ≡ true → (a ≡ true) × (b ≡ true)
both true b e = (refl, e)
both false b e = never e

-- ---- ways

abbrev pub is_among : ℕ → List ℕ → Bool
is_among i [] = false
is_among i (p ∷ ps) = (i == p) || is_among i ps

among_is : (i : ℕ) (ps : List ℕ) → is_among i ps ≡ true → Among i ps
among_is i [] e = never e
among_is i (p ∷ ps) e = by (λ h. among_is i ps h) (i == p) refl e
  where
    by : (is_among i ps ≡ true → Among i ps) → (b : Bool) → (i == p) ≡ b → b || is_among i ps ≡ true → Among i (p ∷ ps)
    by f true h e = subst (λ q. Among i (q ∷ ps)) (eqb-true i p h) here
    by f false h e = there (f e)

abbrev pub next_of : Option Site → List ℕ
next_of None = []
next_of (Some x) = x.next

abbrev pub is_way : List Site → List ℕ → List ℕ → Bool
is_way g ps [] = true
is_way g ps (i ∷ l) = is_among i ps && is_way g (next_of (site_at g i)) l

abbrev pub action_of : Option Site → List Action
action_of None = []
action_of (Some x) = x.action ∷ []

abbrev pub actions_on : List Site → List ℕ → List Action
actions_on g [] = []
actions_on g (i ∷ l) = action_of (site_at g i) ++ actions_on g l

from_none : (g : List Site) (ps : List ℕ) (us : List Action) → Path g [] us → Path g ps us
from_none g ps _ stop = stop
from_none g ps _ (go p x i d rest) = elim i [ ]

path_on : (g : List Site) (ps l : List ℕ) → is_way g ps l ≡ true → Path g ps (actions_on g l)
path_on g ps [] e = stop
path_on g ps (i ∷ l) e =
    let h = both (is_among i ps) (is_way g (next_of (site_at g i)) l) e in
    by (site_at g i) refl (among_is i ps h.0) (path_on g (next_of (site_at g i)) l h.1)
  where
    by : (o : Option Site) → site_at g i ≡ o → Among i ps → Path g (next_of o) (actions_on g l) → Path g ps (action_of o ++ actions_on g l)
    by None d j p = from_none g ps (actions_on g l) p
    by (Some x) d j p = go i x j d p

-- ---- parts

abbrev pub all_from : (ℕ → Bool) → ℕ → ℕ → Bool
all_from q zero n = true
all_from q (suc m) n = q n && all_from q m (suc n)

in_all : (q : ℕ → Bool) (m n i : ℕ) → all_from q m n ≡ true → n ≤ i → i < n + m → q i ≡ true
in_all q zero n i h le lt = absurd (omega (arith, le, lt))
in_all q (suc m) n i h le lt =
    let b = both (q n) (all_from q m (suc n)) h in
    by b.0 (λ l. in_all q m (suc n) i b.1 (omega (arith, l)) (omega (arith, lt))) (cases_lt n i)
  where
    by : q n ≡ true → (n < i → q i ≡ true) → (n < i) ⊎ (i ≤ n) → q i ≡ true
    by e f (inl l) = f l
    by e f (inr l) = subst (λ j. q j ≡ true) (le_antisymm le l) e

abbrev pub is_all_set : Frame → List Action → ℕ → Bool
is_all_set F w x = let l = place_at F (own x) in all_from (λ n. is_set F w n) (spot_parts F.sizes l.spot) l.first

all_set : (F : Frame) (w : List Action) (x : ℕ) → is_all_set F w x ≡ true → AllSet F w (own x)
all_set F w x e n h =
    let l = place_at F (own x) in let b = in_between l.first (spot_parts F.sizes l.spot) n h in
    in_all (λ n. is_set F w n) (spot_parts F.sizes l.spot) l.first n e b.0 b.1

-- ---- where the run is entered

pub set_along : (A : Asked) (x : ℕ) (l m : List ℕ) → is_way (graph_of A []) (0 ∷ []) m ≡ true → actions_on (graph_of A []) m ≡ actions_on (graph_of A []) l ++ shown enters ∷ []
    → is_all_set A.frame (actions_on (graph_of A []) l) x ≡ true → IsSetIn A x
set_along A x l m way e set =
    let w = actions_on (graph_of A []) l in (
      w,
      (paths_are_walks_of (marked A.run A.home.around.loops [] A.function) (w ++ shown enters ∷ [])).0
          (subst (λ us. Path (graph_of A []) (0 ∷ []) us) e (path_on (graph_of A []) (0 ∷ []) m way)),
      all_set A.frame w x set,
    )
