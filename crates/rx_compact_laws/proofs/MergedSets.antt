-- Lifetimes that become one have the same sites as before, and need no other pair: by induction on what the least sets have. A way along
-- pairs may go on from another of those that are one. Where that is asked to outlive this, the way was there before; else both are the
-- function's own, which have all sites, and the end that is reached is known to be outlived, since those that are one are known to be.
use Rattle.std.proofs.Common.{◌≡◌, ◌↔◌, ◌⊎◌, inl, inr, ℕ, ◌<◌, List, length, refl, sym, subst, ◌∙◌}
use Rattle.rx_lower_walks.specs.Graph.{Site}
use Rattle.rx_lower_walks.specs.Text.{actions_of}
use Rattle.rx_region.specs.Constraints.{Context, imposed}
use Rattle.rx_region.specs.Known as knowing
use Rattle.rx_region.specs.Known.{KnownToOutlive}
use Rattle.rx_region.specs.Solutions.{Point, site, end, Least, whole, ends, live, longer}
use Rattle.rx_region.specs.Tables as tables
use Rattle.rx_region.specs.Tables.{Follows}
use Rattle.rx_compact_laws.specs.MergedLifetimes.{AreMerged}

known_on : (C : Context) (l k m : ℕ) → KnownToOutlive C l k → KnownToOutlive C k m → KnownToOutlive C l m
known_on C l k m knowing.itself g = g
known_on C l k m (knowing.by n h rest) g = knowing.by n h (known_on C n k m rest g)

module _ (f : ℕ → ℕ) (C K : Context) (g : List Site) (M : AreMerged f C K (actions_of g)) where
  abbrev moved : Point → Point
  moved (site p) = site p
  moved (end l) = end (f l)

  there : (l : ℕ) (x : Point) → Least C g l x → Least K g (f l) (moved x)
  there l y (whole {p = p} w h) = whole ((M.own l).0 w) h
  there l y (ends w) = ends ((M.own l).0 w)
  there l y (live r i h) = live r i (M.live_there r l h)
  there l x (longer k h rest) = elim (M.imposed_there l k h) [
    | inl e ↦ subst (λ m. Least K g m (moved x)) (sym e) (there k x rest)
    | inr n ↦ longer (f k) n (there k x rest)
  ]

  along : (l k : ℕ) (x : Point) → Follows (imposed C (actions_of g)) l k → Least C g k x → Least C g l x
  along l k x tables.itself h = h
  along l k x (tables.by m pair rest) h = longer m pair (along m k x rest h)

  -- ---- sites

  same_or_whole : (l m p : ℕ) → f l ≡ f m → p < length g → Least C g m (site p) → Least C g l (site p)
  same_or_whole l m p e h s = elim (M.apart l m e) [
    | inl q ↦ subst (λ x. Least C g x (site p)) (sym q) s
    | inr o ↦ elim o [
      | inl w ↦ whole w.0 h
      | inr w ↦ along l m (site p) w s
    ]
  ]

  point_is : (p q : ℕ) → site p ≡ site q → p ≡ q
  point_is p q e = cc

  site_back : (x p : ℕ) (y : Point) → Least K g x y → y ≡ site p → p < length g → (l : ℕ) → x ≡ f l → Least C g l (site p)
  site_back x p y (whole {p = q} w h) e b l is = whole ((M.own l).1 (subst (λ m. m < K.lifetimes.own) is w)) b
  site_back x p y (ends w) e b l is = absurd (cc)
  site_back x p y (live {p = q} r i h) e b l is =
      let m = M.live_back r x h in
      same_or_whole l m.0 p (sym is ∙ m.2) b (subst (λ n. Least C g m.0 (site n)) (point_is q p e) (live r i m.1))
  site_back x p y (longer k h rest) e b l is =
      let m = M.imposed_back x k h in
      same_or_whole l m.0 p (sym is ∙ m.3) b (longer m.1 m.2 (site_back k p y rest e b m.1 m.4))

  pub sites_stay : (l p : ℕ) → p < length g → Least C g l (site p) ↔ Least K g (f l) (site p)
  sites_stay l p h = (there l (site p), λ s. site_back (f l) p (site p) s refl h l refl)

  -- ---- ends

  end_is : (x y : ℕ) → end x ≡ end y → x ≡ y
  end_is x y e = cc

  -- no pair of the first is missing: where it needs one, it is known
  abbrev Keeps : Context → Type 0
  Keeps D = (l k : ℕ) → l < D.lifetimes.own → k < D.lifetimes.own → Least D g l (end k) → KnownToOutlive D l k

  -- the end that a lifetime reaches under the new numbers is that of one which is known to be outlived by one whose end it reached
  record Reached (l y : ℕ) : Type 0 where
    by : ℕ
    last : ℕ
    own : by < C.lifetimes.own
    own_last : last < C.lifetimes.own
    reached : Least C g l (end by)
    known : KnownToOutlive C by last
    is : y ≡ f last

  goes_on : Keeps C → (l m y : ℕ) → f l ≡ f m → Reached m y → Reached l y
  goes_on keeps l m y e h = elim (M.apart l m e) [
    | inl s ↦ record { by = h.by; last = h.last; own = h.own; own_last = h.own_last; reached = subst (λ n. Least C g n (end h.by)) (sym s) h.reached; known = h.known; is = h.is }
    | inr o ↦ elim o [
      | inl w ↦ record {
        by = l;
        last = h.last;
        own = w.0;
        own_last = h.own_last;
        reached = ends w.0;
        known = known_on C l m h.last (M.equal l m w.0 w.1 e) (known_on C m h.by h.last (keeps m h.by w.1 h.own h.reached) h.known);
        is = h.is;
      }
      | inr w ↦ record { by = h.by; last = h.last; own = h.own; own_last = h.own_last; reached = along l m (end h.by) w h.reached; known = h.known; is = h.is }
    ]
  ]

  end_back : Keeps C → (x y : ℕ) (z : Point) → Least K g x z → z ≡ end y → (l : ℕ) → x ≡ f l → Reached l y
  end_back keeps x y z (whole w h) e l is = absurd (cc)
  end_back keeps x y z (live r i h) e l is = absurd (cc)
  end_back keeps x y z (ends w) e l is =
      let o : l < C.lifetimes.own = (M.own l).1 (subst (λ m. m < K.lifetimes.own) is w) in
      record { by = l; last = l; own = o; own_last = o; reached = ends o; known = knowing.itself; is = sym (end_is x y e) ∙ is }
  end_back keeps x y z (longer k h rest) e l is =
      let m = M.imposed_back x k h in
      let b = end_back keeps k y z rest e m.1 m.4 in
      goes_on keeps l m.0 y (sym is ∙ m.3) (record { by = b.by; last = b.last; own = b.own; own_last = b.own_last; reached = longer m.1 m.2 b.reached; known = b.known; is = b.is })

  -- one that is none of the old ones has its own end alone
  itself_or_old : (x y : ℕ) (z : Point) → Least K g x z → z ≡ end y → (x ≡ y) ⊎ ((l : ℕ) × (x ≡ f l))
  itself_or_old x y z (whole w h) e = absurd (cc)
  itself_or_old x y z (live r i h) e = absurd (cc)
  itself_or_old x y z (ends w) e = inl (end_is x y e)
  itself_or_old x y z (longer k h rest) e = let m = M.imposed_back x k h in inr (m.0, m.3)

  keeps_old : Keeps C → (x y a : ℕ) → x ≡ f a → x < K.lifetimes.own → Least K g x (end y) → KnownToOutlive K x y
  keeps_old keeps x y a is w h =
      let o : a < C.lifetimes.own = (M.own a).1 (subst (λ n. n < K.lifetimes.own) is w) in
      let b = end_back keeps x y (end y) h refl a is in
      let known : KnownToOutlive C a b.last = known_on C a b.by b.last (keeps a b.by o b.own b.reached) b.known in
      subst (λ m. KnownToOutlive K m y) (sym is) (subst (λ m. KnownToOutlive K (f a) m) (sym b.is) ((M.known a b.last o b.own_last).0 known))

  keeps_there : Keeps C → Keeps K
  keeps_there keeps x y w v h = elim (itself_or_old x y (end y) h refl) [
    | inl e ↦ subst (λ m. KnownToOutlive K x m) e knowing.itself
    | inr a ↦ keeps_old keeps x y a.0 a.1 w h
  ]

  keeps_back : Keeps K → Keeps C
  keeps_back keeps l k w v h = (M.known l k w v).1 (keeps (f l) (f k) ((M.own l).0 w) ((M.own k).0 v) (there l (end k) h))

  pub pairs_stay : ((l k : ℕ) → l < C.lifetimes.own → k < C.lifetimes.own → Least C g l (end k) → KnownToOutlive C l k)
      ↔ ((l k : ℕ) → l < K.lifetimes.own → k < K.lifetimes.own → Least K g l (end k) → KnownToOutlive K l k)
  pairs_stay = (keeps_there, keeps_back)
