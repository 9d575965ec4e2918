-- Ways through a graph: paths that come to a site, and go on from it.
use Rattle.std.proofs.Common.{◌≡◌, ◌⊎◌, inl, inr, ℕ, zero, suc, ◌<◌, Bool, true, false, ◌||◌, ◌==◌, List, [], ◌∷◌, ◌++◌, length, Some, refl, ap, sym, ◌∙◌, subst, arith, true≢false}
use Rattle.std.proofs.lemmas.Bool.Decides.{Decides-eqb}
use Rattle.rx_lower_walks.specs.Actions.{Action}
use Rattle.rx_lower_walks.specs.Walks.{Among, here, there}
use Rattle.rx_lower_walks.specs.Graph.{Site, site_at, Path, stop, go, Comes, at_hand, along}
use Rattle.rx_graph.specs.Facts.{has, targets}
use Rattle.rx_facts_tables.specs.Along.{Arrives, edges_of}
use Rattle.rx_facts_tables.specs.Along as ways

pub one_of : (a b : Bool) → (a || b) ≡ true → (a ≡ true) ⊎ (b ≡ true)
one_of true b h = inl refl
one_of false b h = inr h

or_true : (a : Bool) → (a || true) ≡ true
or_true true = refl
or_true false = refl

-- ---- lists of numbers

pub has_among : (p : ℕ) (ps : List ℕ) → Among p ps → has ps p ≡ true
has_among p ps (here {l = l}) = ap (λ b. b || has l p) ((Decides-eqb p p).1 refl)
has_among p ps (there {b = q} {l = l} h) = ap (λ b. p == q || b) (has_among p l h) ∙ or_true (p == q)

pub among_has : (ps : List ℕ) (p : ℕ) → has ps p ≡ true → Among p ps
among_has [] p h = absurd (true≢false (sym h))
among_has (q ∷ ps) p h = by (one_of (p == q) (has ps p) h) (λ e. among_has ps p e)
  where
    by : ((p == q) ≡ true) ⊎ (has ps p ≡ true) → (has ps p ≡ true → Among p ps) → Among p (q ∷ ps)
    by (inl e) rest = subst (λ n. Among n (q ∷ ps)) (sym ((Decides-eqb p q).0 e)) here
    by (inr e) rest = there (rest e)

-- ---- sites and what they lead to

pub targets_at : (g : List Site) (q : ℕ) (s : Site) → site_at g q ≡ Some s → targets (edges_of g) q ≡ s.next
targets_at [] q s e = absurd (cc)
targets_at (t ∷ g) zero s e = let z : t ≡ s = cc in ap (λ (x : Site). x.next) z
targets_at (t ∷ g) (suc q) s e = targets_at g q s e

pub leads : (g : List Site) (q p : ℕ) (s : Site) → site_at g q ≡ Some s → Among p s.next → has (targets (edges_of g) q) p ≡ true
leads g q p s e m = ap (λ l. has l p) (targets_at g q s e) ∙ has_among p s.next m

pub record SiteThere (g : List Site) (q p : ℕ) : Type 0 where
  pub site : Site
  pub is : site_at g q ≡ Some site
  pub next : Among p site.next
  pub within : q < length g

pub site_of : (g : List Site) (q p : ℕ) → has (targets (edges_of g) q) p ≡ true → SiteThere g q p
site_of [] q p h = absurd (true≢false (sym h))
site_of (s ∷ g) zero p h = record { site = s; is = refl; next = among_has s.next p h; within = omega arith }
site_of (s ∷ g) (suc q) p h = let r = site_of g q p h in record { site = r.site; is = r.is; next = r.next; within = omega (arith, r.within) }

pub site_within : (g : List Site) (q : ℕ) (s : Site) → site_at g q ≡ Some s → q < length g
site_within [] q s e = absurd (cc)
site_within (t ∷ g) zero s e = omega arith
site_within (t ∷ g) (suc q) s e = omega (arith, site_within g q s e)

pub site_here : (g : List Site) (q : ℕ) → q < length g → (s : Site) × (site_at g q ≡ Some s)
site_here [] q h = absurd (omega (arith, h))
site_here (s ∷ g) zero h = (s, refl)
site_here (s ∷ g) (suc q) h = site_here g q (omega (arith, h))

-- ---- ways

pub arrives_on : (g : List Site) (p q r : ℕ) (us : List Action) (s : Site) → Arrives g p us q → site_at g q ≡ Some s → Among r s.next
    → Arrives g p (us ++ s.action ∷ []) r
arrives_on g p q r us s ways.there e m = ways.by r s e m ways.there
arrives_on g p q r us s (ways.by k t d n w) e m = ways.by k t d n (arrives_on g k q r _ s w e m)

pub record ComesFrom (g : List Site) (ps : List ℕ) (i : ℕ) : Type 0 where
  pub from : ℕ
  pub among : Among from ps
  pub us : List Action
  pub way : Arrives g from us i

pub comes_from : (g : List Site) (ps : List ℕ) (i : ℕ) → Comes g ps i → ComesFrom g ps i
comes_from g ps i (at_hand m) = record { from = i; among = m; us = []; way = ways.there }
comes_from g ps i (along p s m e c) = let r = comes_from g s.next i c in
    record { from = p; among = m; us = s.action ∷ r.us; way = ways.by r.from s e r.among r.way }

none_among : {B : Type 0} (p : ℕ) (qs : List ℕ) → qs ≡ [] → Among p qs → B
none_among p qs e here = absurd (cc)
none_among p qs e (there h) = absurd (cc)

pub only : (p q : ℕ) → Among p (q ∷ []) → p ≡ q
only p q here = refl
only p q (there h) = none_among p [] refl h

pub comes_to : (g : List Site) (i : ℕ) → Comes g (0 ∷ []) i → (us : List Action) × Arrives g 0 us i
comes_to g i c = let r = comes_from g (0 ∷ []) i c in (r.us, subst (λ n. Arrives g n r.us i) (only r.from 0 r.among) r.way)

path_on : (g : List Site) (p q : ℕ) (us vs : List Action) (s : Site) (ps : List ℕ) → Arrives g p us q → Among p ps → site_at g q ≡ Some s → Path g s.next vs
    → Path g ps (us ++ s.action ∷ vs)
path_on g p q us vs s ps ways.there m e rest = go p s m e rest
path_on g p q us vs s ps (ways.by {us = xs} k t d n w) m e rest = go p t m d (path_on g k q xs vs s t.next w n e rest)

-- a way to a site, and a path from there
pub path_through : (g : List Site) (p q : ℕ) (us vs : List Action) (s : Site) → Arrives g p us q → site_at g q ≡ Some s → Path g s.next vs
    → Path g (p ∷ []) (us ++ s.action ∷ vs)
path_through g p q us vs s w e rest = path_on g p q us vs s (p ∷ []) w here e rest

-- a path is a way to each of its sites, and a path from there
pub record Through (g : List Site) (ps : List ℕ) (us : List Action) (a : Action) (vs : List Action) : Type 0 where
  pub from : ℕ
  pub among : Among from ps
  pub at : ℕ
  pub site : Site
  pub is : site_at g at ≡ Some site
  pub action : site.action ≡ a
  pub way : Arrives g from us at
  pub rest : Path g site.next vs

pub through : (g : List Site) (ps : List ℕ) (us : List Action) (a : Action) (vs ws : List Action) → ws ≡ us ++ a ∷ vs → Path g ps ws → Through g ps us a vs
through g ps [] a vs ws e (go {us = xs} p s m d rest) =
    let x : s.action ≡ a = cc in let y : xs ≡ vs = cc in
    record { from = p; among = m; at = p; site = s; is = d; action = x; way = ways.there; rest = subst (λ us. Path g s.next us) y rest }
through g ps (u ∷ us) a vs ws e (go {us = xs} p s m d rest) =
    let x : s.action ≡ u = cc in let y : xs ≡ us ++ a ∷ vs = cc in
    let r = through g s.next us a vs xs y rest in
    record {
      from = p;
      among = m;
      at = r.at;
      site = r.site;
      is = r.is;
      action = r.action;
      way = subst (λ (b : Action). Arrives g p (b ∷ us) r.at) x (ways.by r.from s d r.among r.way);
      rest = r.rest;
    }
through g ps [] a vs ws e stop = absurd (cc)
through g ps (u ∷ us) a vs ws e stop = absurd (cc)

pub through_first : (g : List Site) (us : List Action) (a : Action) (vs : List Action) → Path g (0 ∷ []) (us ++ a ∷ vs)
    → (at : ℕ) × (s : Site) × (site_at g at ≡ Some s) × (s.action ≡ a) × Arrives g 0 us at
through_first g us a vs p = let r = through g (0 ∷ []) us a vs _ refl p in
    (r.at, r.site, r.is, r.action, subst (λ n. Arrives g n us r.at) (only r.from 0 r.among) r.way)
