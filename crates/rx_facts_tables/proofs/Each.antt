-- What loops over sites come to.
use Rattle.std.proofs.Common.{◌≡◌, ◌⊎◌, inl, inr, ℕ, zero, suc, ◌+◌, ◌<◌, ◌≤◌, List, [], ◌∷◌, ◌++◌, length, map, drop, get_or, Some, refl, ap, sym, ◌∙◌, subst, arith, append-nil}
use Rattle.std.proofs.lemmas.List.{length-map}
use Rattle.std.proofs.lemmas.Bool.{cases_eq}
use Rattle.rx_lower_walks.specs.Actions.{Action}
use Rattle.rx_lower_walks.specs.Graph as graph
use Rattle.rx_lower_walks.specs.Graph.{site_at}
use Rattle.rx_graph.specs.declared.effect.Effect.{Effect}
use Rattle.rx_graph.specs.Facts.{targets}
use Rattle.rx_lower_walks.specs.declared.site.Site.{Site}
use Rattle.rx_lower_walks.specs.PlainSite.{plain-Site}
use Rattle.rx_facts_tables.specs.Along.{edges_of}
use Rattle.rx_facts_tables.specs.Tracking.{EachDoes}
use Rattle.rx_facts_tables.proofs.Ways.{site_within}

pub site_there : (sites : List Site) (i : ℕ) (s d : Site) → i < length sites → s ≡ get_or sites i d → site_at (map plain-Site sites) i ≡ Some (plain-Site s)
site_there [] i s d h e = absurd (omega (arith, h))
site_there (t ∷ sites) zero s d h e = ap (λ (x : Site). Some (plain-Site x)) (sym e)
site_there (t ∷ sites) (suc i) s d h e = site_there sites i s d (omega (arith, h)) e

one_site : (g : List graph.Site) (i : ℕ) (s t : graph.Site) → site_at g i ≡ Some s → site_at g i ≡ Some t → s ≡ t
one_site g i s t e f = cc

abbrev pub SoFar : (ℕ → graph.Site → Type 0) → List Site → ℕ → Type 0
SoFar P sites k = (i : ℕ) (s : graph.Site) → site_at (map plain-Site sites) i ≡ Some s → i < k → P i s

pub each_more : (P : ℕ → graph.Site → Type 0) (sites : List Site) (k : ℕ) (s d : Site) → k < length sites → s ≡ get_or sites k d → P k (plain-Site s)
    → SoFar P sites k → SoFar P sites (k + 1)
each_more P sites k s d within is h before i t e less = by (cases_eq i k)
  where
    by : (i ≡ k) ⊎ (i ≡ k → ⊥) → P i t
    by (inl x) =
        let at : site_at (map plain-Site sites) k ≡ Some t = ap (λ n. site_at (map plain-Site sites) n) (sym x) ∙ e in
        subst (λ n. P n t) (sym x) (subst (λ (u : graph.Site). P k u) (one_site (map plain-Site sites) k (plain-Site s) t (site_there sites k s d within is) at) h)
    by (inr d) = before i t e (omega (arith, less, d))

pub each_done : (P : ℕ → graph.Site → Type 0) (sites : List Site) (k : ℕ) → length sites ≤ k → SoFar P sites k
    → (i : ℕ) (s : graph.Site) → site_at (map plain-Site sites) i ≡ Some s → P i s
each_done P sites k past h i s e = h i s e (omega (arith, past, site_within (map plain-Site sites) i s e, length-map sites plain-Site))

none_left : (l : List Site) (k : ℕ) → length l ≤ k → drop k l ≡ []
none_left [] zero h = refl
none_left [] (suc k) h = refl
none_left (s ∷ l) zero h = absurd (omega (arith, h))
none_left (s ∷ l) (suc k) h = none_left l k (omega (arith, h))

pub all_do : (D : Effect → Action → Type 0) (all : List Effect) (sites : List Site) (k : ℕ) → length sites ≤ k
    → ((rest : List Effect) → EachDoes D rest (map plain-Site (drop k sites)) → EachDoes D (all ++ rest) (map plain-Site sites))
    → EachDoes D all (map plain-Site sites)
all_do D all sites k past h = subst (λ (l : List Effect). EachDoes D l (map plain-Site sites)) (append-nil all)
    (h [] (subst (λ (l : List Site). EachDoes D [] (map plain-Site l)) (sym (none_left sites k past)) tt))

-- where a site leads
pub next_there : (sites : List Site) (i : ℕ) (s : Site) (next : List ℕ) → i < length sites → s ≡ get_or sites i s → next ≡ s.next → targets (edges_of (map plain-Site sites)) i ≡ next
next_there [] i s next h e n = absurd (omega (arith, h))
next_there (t ∷ sites) zero s next h e n = ap (λ (x : Site). x.next) (sym e) ∙ sym n
next_there (t ∷ sites) (suc i) s next h e n = next_there sites i s next (omega (arith, h)) e n
