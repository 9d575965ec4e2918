-- What lies ahead on a path lies at its first action that gives it, and the path up to there is the end of a walk; back, a walk
-- is followed from the site on, by what stands between.
use Rattle.std.proofs.Common.{◌≡◌, ◌↔◌, ◌⊎◌, inl, inr, ℕ, true, false, not, ◌&&◌, List, [], ◌∷◌, ◌++◌, Some, refl, sym, ap, ◌∙◌, subst, true≢false}
use Rattle.std.proofs.lemmas.List.{append_assoc}
use Rattle.rx_typed.specs.Tree.{Root, Function}
use Rattle.rx_lower_walks.specs.Actions.{Action}
use Rattle.rx_lower_walks.specs.Walks.{IsWalk, Among, here, there}
use Rattle.rx_lower_walks.specs.Graph.{site_at, Path, stop, go, EachOnce}
use Rattle.rx_lower_walks.specs.Pieces.{graph}
use Rattle.rx_lower_walks.specs.Text.{actions_of}
use Rattle.rx_facts_tables.specs.Along.{Switch, ahead}
use Rattle.rx_facts_tables.proofs.Ways.{one_of, only}
use Rattle.rx_facts_tables.proofs.Forward.{gave, stayed, unkilled}
use Rattle.rx_facts_tables.specs.Live.{living, IsLive}
use Rattle.rx_facts_laws.specs.LiveOnWalks.{LiveOnSomeWalk}
use Rattle.rx_facts_laws.proofs.Arriving.{front_walks, way_to, walk_on, on_walk}

-- what lies ahead of an action, up to what gives it
record UpTo (s : Switch) (a : Action) (us : List Action) : Type 0 where
  behind : List Action
  more : List Action
  all : us ≡ behind ++ more
  between : List Action
  last : Action
  ends : a ∷ behind ≡ between ++ last ∷ []
  gives : s.gives last ≡ true
  keeps : (b : Action) → Among b between → s.kills b ≡ false

among_first : (P : Action → Type 0) (a b : Action) (l : List Action) → P a → ((c : Action) → Among c l → P c) → Among b (a ∷ l) → P b
among_first P a b l p h here = p
among_first P a b l p h (there m) = h b m

at_once : (s : Switch) (a : Action) (us : List Action) → s.gives a ≡ true → UpTo s a us
at_once s a us g = record { behind = []; more = us; all = refl; between = []; last = a; ends = refl; gives = g; keeps = λ b m. elim m [ ] }

later : (s : Switch) (a b : Action) (us : List Action) → s.kills a ≡ false → UpTo s b us → UpTo s a (b ∷ us)
later s a b us k r = record {
  behind = b ∷ r.behind;
  more = r.more;
  all = ap (λ l. b ∷ l) r.all;
  between = a ∷ r.between;
  last = r.last;
  ends = ap (λ l. a ∷ l) r.ends;
  gives = r.gives;
  keeps = λ c m. among_first (λ x. s.kills x ≡ false) a c r.between k r.keeps m;
}

up_to : (s : Switch) (a : Action) (us : List Action) → ahead s (a ∷ us) ≡ true → UpTo s a us
up_to s a [] h = by (one_of (s.gives a) (not (s.kills a) && false) h)
  where
    by : (s.gives a ≡ true) ⊎ ((not (s.kills a) && false) ≡ true) → UpTo s a []
    by (inl g) = at_once s a [] g
    by (inr k) = absurd (true≢false (sym (unkilled (s.kills a) false k).1))
up_to s a (b ∷ us) h = by (one_of (s.gives a) (not (s.kills a) && ahead s (b ∷ us)) h) (λ x. up_to s b us x)
  where
    by : (s.gives a ≡ true) ⊎ ((not (s.kills a) && ahead s (b ∷ us)) ≡ true) → (ahead s (b ∷ us) ≡ true → UpTo s b us) → UpTo s a (b ∷ us)
    by (inl g) rest = at_once s a (b ∷ us) g
    by (inr k) rest = let u = unkilled (s.kills a) (ahead s (b ∷ us)) k in later s a b us u.0 (rest u.1)

comes_ahead : (s : Switch) (between : List Action) (last : Action) → s.gives last ≡ true → ((b : Action) → Among b between → s.kills b ≡ false)
    → ahead s (between ++ last ∷ []) ≡ true
comes_ahead s [] last g k = gave (s.gives last) _ g
comes_ahead s (a ∷ l) last g k = stayed (s.gives a) (s.kills a) _ (k a here) (comes_ahead s l last g (λ b m. k b (there m)))

to_walk : (f : Function) (r : Root) (p : ℕ) → IsLive (graph f) r p → LiveOnSomeWalk f r p
to_walk f r p live = by live.0 live.1 live.2
  where
    by : (us : List Action) → Path (graph f) (p ∷ []) us → ahead (living r) us ≡ true → LiveOnSomeWalk f r p
    by us stop h = absurd (true≢false (sym h))
    by us (go {us = vs} q s m e path) h =
        let d : site_at (graph f) p ≡ Some s = ap (λ n. site_at (graph f) n) (sym (only q p m)) ∙ e in
        let w = way_to f p s d in
        let u = up_to (living r) s.action vs h in
        record {
          site = s;
          stands = d;
          before = w.0;
          behind = u.behind;
          walk = front_walks f (w.0 ++ s.action ∷ u.behind) u.more
              (subst (λ l. IsWalk f l) (ap (λ l. w.0 ++ s.action ∷ l) u.all ∙ sym (append_assoc w.0 (s.action ∷ u.behind) u.more)) (walk_on f p s w.0 vs w.1 d path));
          between = u.between;
          use_of = u.last;
          ends = u.ends;
          uses = u.gives;
          unwritten = u.keeps;
        }

of_walk : (f : Function) → EachOnce (actions_of (graph f)) → (r : Root) (p : ℕ) → LiveOnSomeWalk f r p → IsLive (graph f) r p
of_walk f once r p l = (
  l.site.action ∷ l.behind,
  go p l.site here l.stands (on_walk f once p l.site l.stands l.before l.behind l.walk).rest,
  subst (λ us. ahead (living r) us ≡ true) (sym l.ends) (comes_ahead (living r) l.between l.use_of l.uses l.unwritten),
)

pub live_on_walks : (f : Function) → EachOnce (actions_of (graph f)) → (r : Root) (p : ℕ) → IsLive (graph f) r p ↔ LiveOnSomeWalk f r p
live_on_walks f once r p = (to_walk f r p, of_walk f once r p)
