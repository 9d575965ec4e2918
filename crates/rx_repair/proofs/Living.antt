-- Whether a fact lies ahead of a site is decided: it does where ways along sites that don't end it come to one that makes it true; so
-- where a pair of a list follows.
use Rattle.std.proofs.Common.{◌≡◌, ◌≢◌, ◌⊎◌, inl, inr, ℕ, zero, suc, ◌<◌, Bool, true, false, not, ◌&&◌, ◌||◌, if◌then◌else◌, List, [], ◌∷◌, ◌++◌, length, Option, Some, None, refl, sym, ap, subst, ◌∙◌, true≢false, arith}
use Rattle.rx_core.specs.declared.types.Bound.{Bound}
use Rattle.rx_lower_walks.specs.Walks.{Among}
use Rattle.rx_lower_walks.specs.Walks as walks
use Rattle.rx_lower_walks.specs.Actions.{Action}
use Rattle.rx_lower_walks.specs.Graph.{Site, site_at, Path, stop, go}
use Rattle.rx_facts_tables.specs.Along.{Switch, ahead, LiesAhead}
use Rattle.rx_facts_tables.proofs.Ways.{site_within}
use Rattle.rx_region_outlives.specs.Implied.{HasPair}
use Rattle.rx_region_outlives.specs.Related.{outlives}
use Rattle.rx_region_outlives.proofs.ImpliedLemmas.{has_front, has_behind, has_either}
use Rattle.rx_region.specs.Tables.{Follows, itself, by}
use Rattle.rx_repair.proofs.Deciding.{Decided, Below, any_below, same_or, follows_or}

some_same : {A : Type 0} (a b : A) → ◌≡◌ {A = Option A} (Some a) (Some b) → a ≡ b
some_same a b e = cc

none_some : {A : Type 0} (a : A) → ◌≡◌ {A = Option A} None (Some a) → ⊥
none_some a e = cc

module _ (g : List Site) (s : Switch) where
  -- ---- the ways as pairs of sites

  abbrev pairs_from : ℕ → List ℕ → List Bound
  pairs_from p [] = []
  pairs_from p (q ∷ qs) = outlives p q ∷ pairs_from p qs

  abbrev leaving : ℕ → Option Site → List Bound
  leaving p None = []
  leaving p (Some x) = if s.kills x.action then [] else pairs_from p x.next

  abbrev passing : ℕ → List Bound
  passing zero = []
  passing (suc n) = leaving n (site_at g n) ++ passing n

  abbrev ways : List Bound
  ways = passing (length g)

  -- one that doesn't end the fact leads to another
  record Leads (p q : ℕ) : Type 0 where
    site : Site
    stands : site_at g p ≡ Some site
    stays : s.kills site.action ≡ false
    next : Among q site.next

  pairs_there : (p q : ℕ) (qs : List ℕ) → Among q qs → HasPair (pairs_from p qs) p q
  pairs_there p q _ walks.here = inl refl
  pairs_there p q _ (walks.there {l = qs} m) = inr (pairs_there p q qs m)

  pairs_back : (p : ℕ) (qs : List ℕ) (m q : ℕ) → HasPair (pairs_from p qs) m q → (p ≡ m) × Among q qs
  pairs_back p [] m q h = absurd h
  pairs_back p (x ∷ qs) m q (inl e) = (ap (λ (b : Bound). b.long) e, subst (λ y. Among y (x ∷ qs)) (ap (λ (b : Bound). b.short) e) walks.here)
  pairs_back p (x ∷ qs) m q (inr h) = let r = pairs_back p qs m q h in (r.0, walks.there r.1)

  opened : (b : Bool) (p : ℕ) (qs : List ℕ) (m q : ℕ) → HasPair (if b then [] else pairs_from p qs) m q → (b ≡ false) × (p ≡ m) × Among q qs
  opened true p qs m q h = absurd h
  opened false p qs m q h = let r = pairs_back p qs m q h in (refl, r.0, r.1)

  leaving_back : (p : ℕ) (o : Option Site) → site_at g p ≡ o → (m q : ℕ) → HasPair (leaving p o) m q → (p ≡ m) × Leads p q
  leaving_back p None e m q h = absurd h
  leaving_back p (Some x) e m q h = let r = opened (s.kills x.action) p x.next m q h in
      (r.1, record { site = x; stands = e; stays = r.0; next = r.2 })

  ways_back : (n m q : ℕ) → HasPair (passing n) m q → Leads m q
  ways_back zero m q h = absurd h
  ways_back (suc n) m q h = elim (has_either (leaving n (site_at g n)) (passing n) m q h) [
    | inl a ↦ (let r = leaving_back n (site_at g n) refl m q a in subst (λ k. Leads k q) r.0 r.1)
    | inr b ↦ ways_back n m q b
  ]

  here_there : (p q : ℕ) (o : Option Site) → site_at g p ≡ o → Leads p q → HasPair (leaving p o) p q
  here_there p q None e l = absurd (none_some l.site (sym e ∙ l.stands))
  here_there p q (Some x) e l =
      let is : l.site ≡ x = some_same l.site x (sym l.stands ∙ e) in
      opens (s.kills x.action) (sym (ap (λ (y : Site). s.kills y.action) is) ∙ l.stays) (subst (λ (y : Site). Among q y.next) is l.next) where
        opens : (b : Bool) → b ≡ false → Among q x.next → HasPair (if b then [] else pairs_from p x.next) p q
        opens true e m = absurd (true≢false e)
        opens false e m = pairs_there p q x.next m

  ways_below : (n p q : ℕ) → p < n → Leads p q → HasPair (passing n) p q
  ways_below zero p q w l = absurd (omega (arith, w))
  ways_below (suc n) p q w l = elim (same_or p n) [
    | inl e ↦ has_front (leaving n (site_at g n)) (passing n) p q (subst (λ k. HasPair (leaving k (site_at g k)) p q) e (here_there p q (site_at g p) refl l))
    | inr ne ↦ has_behind (leaving n (site_at g n)) (passing n) p q (ways_below n p q (omega (arith, w, ne)) l)
  ]

  ways_there : (p q : ℕ) → Leads p q → HasPair ways p q
  ways_there p q l = ways_below (length g) p q (site_within g p l.site l.stands) l

  -- ---- the fact lies ahead where a way comes to a site that makes it true

  record Makes (p q : ℕ) : Type 0 where
    site : Site
    stands : site_at g q ≡ Some site
    gives : s.gives site.action ≡ true
    way : Follows ways p q

  turned : (p : ℕ) (x : Site) (a b c : Bool) → site_at g p ≡ Some x → s.gives x.action ≡ a → s.kills x.action ≡ b
      → (c ≡ true → (m : ℕ) × Among m x.next × ((q : ℕ) × Makes m q)) → (a || (not b && c)) ≡ true → (q : ℕ) × Makes p q
  turned p x true b c at ga kb rest e = (p, record { site = x; stands = at; gives = ga; way = itself })
  turned p x false true c at ga kb rest e = absurd (true≢false (sym e))
  turned p x false false c at ga kb rest e = let r = rest e in let t = r.2 in
      (t.0, record { site = t.1.site; stands = t.1.stands; gives = t.1.gives; way = by r.0 (ways_there p r.0 (record { site = x; stands = at; stays = kb; next = r.1 })) t.1.way })

  makes_ahead : (ps : List ℕ) (us : List Action) → Path g ps us → ahead s us ≡ true → (m : ℕ) × Among m ps × ((q : ℕ) × Makes m q)
  makes_ahead ps _ stop e = absurd (true≢false (sym e))
  makes_ahead ps _ (go {us = us} p x among at path) e =
      (p, among, turned p x (s.gives x.action) (s.kills x.action) (ahead s us) at refl refl (λ h. makes_ahead x.next us path h) e)

  or_true : (a b : Bool) → a ≡ true → (a || b) ≡ true
  or_true true b e = refl
  or_true false b e = absurd (true≢false (sym e))

  goes_on : (a b c : Bool) → b ≡ false → c ≡ true → (a || (not b && c)) ≡ true
  goes_on true b c e f = refl
  goes_on false true c e f = absurd (true≢false e)
  goes_on false false c e f = f

  ahead_made : (p q : ℕ) → Follows ways p q → (x : Site) → site_at g q ≡ Some x → s.gives x.action ≡ true → (ps : List ℕ) → Among p ps → LiesAhead g s ps
  ahead_made p _ itself x at gives ps among = (x.action ∷ [], go p x among at stop, or_true (s.gives x.action) (not (s.kills x.action) && false) gives)
  ahead_made p q (by m pair rest) x at gives ps among =
      let l = ways_back (length g) p m pair in
      let r = ahead_made m q rest x at gives l.site.next l.next in
      (l.site.action ∷ r.0, go p l.site among l.stands r.1, goes_on (s.gives l.site.action) (s.kills l.site.action) (ahead s r.0) l.stays r.2)

  makes_or : (p q : ℕ) (o : Option Site) → site_at g q ≡ o → Decided (Makes p q)
  makes_or p q None e = inr (λ t. none_some t.site (sym e ∙ t.stands))
  makes_or p q (Some x) e = on (s.gives x.action) refl (follows_or ways p q) where
    on : (b : Bool) → s.gives x.action ≡ b → Decided (Follows ways p q) → Decided (Makes p q)
    on true h (inl w) = inl (record { site = x; stands = e; gives = h; way = w })
    on true h (inr never) = inr (λ t. never t.way)
    on false h w = inr (λ t. true≢false (sym t.gives ∙ ap (λ (y : Site). s.gives y.action) (some_same t.site x (sym t.stands ∙ e)) ∙ h))

  only : (p m : ℕ) → Among m (p ∷ []) → m ≡ p
  only p _ walks.here = refl
  only p m (walks.there h) = none h where
    none : Among m [] → m ≡ p
    none x = elim x [ ]

  pub lies_ahead_or : (p : ℕ) → Decided (LiesAhead g s (p ∷ []))
  lies_ahead_or p = elim (any_below (Makes p) (λ q. makes_or p q (site_at g q) refl) (length g)) [
    | inl b ↦ inl (ahead_made p b.number b.holds.way b.holds.site b.holds.stands b.holds.gives (p ∷ []) walks.here)
    | inr never ↦ inr (λ l. let r = makes_ahead (p ∷ []) l.0 l.1 l.2 in let t = r.2 in
        never (record { number = t.0; below = site_within g t.0 t.1.site t.1.stands; holds = subst (λ k. Makes k t.0) (only p r.0 r.1) t.1 }))
  ]
