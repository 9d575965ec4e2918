-- The rows that are read of a function's lines hold what the lines say, and nothing else.
use Rattle.std.proofs.Common.{◌≡◌, ◌⊎◌, inl, inr, ℕ, zero, suc, ◌+◌, ◌-◌, ◌<◌, nat_lt, nat_le, Bool, true, false, ◌&&◌, ◌==◌, if◌then◌else◌, List, [], ◌∷◌, length, take, drop, get_or, Option, Some, None, slice_get, refl, ap, sym, ◌∙◌, subst, arith, true≢false}
use Rattle.std.specs.List.{list_all}
use Rattle.std.proofs.lemmas.Bool.{lt-ltb, ltb-true, leb-true, le-leb}
use Rattle.rx_graph.specs.Tables.{at}
use Rattle.rx_graph.proofs.Spreading.{different}
use Rattle.rx_region.specs.Solutions.{Point, site, end}
use Rattle.rx_cert_lines.specs.declared.item.Item.{Item}
use Rattle.rx_cert_lines.specs.declared.line.Line.{Line}
use Rattle.rx_cert_tables.specs.declared.shape.Shape.{Shape}
use Rattle.rx_cert_tables.specs.Sets.{has_site, has_end, items_at, AreRows}
use Rattle.rx_cert_tables.specs.Fitting.{is_within, fits_function, fits_region, fits_loan, fits_at, AllFit}
use Rattle.rx_cert_tables.proofs.Placed.{site_within, end_within, region_within, loan_within}
use Rattle.rx_cert_rules.specs.Written.{written, inside}
use Rattle.rx_cert.specs.Sets.{points, sites}

-- ---- the items of a function's lines

-- the items at a place of some of the lines
items_there : (ls : List Line) (n : ℕ) (l : Line) → slice_get ls n ≡ Some l → items_at ls n ≡ l.items
items_there [] n l h = absurd (none h) where
  none : None ≡ Some l → ⊥
  none e = subst (λ (o : Option Line). is_nothing o) e tt where
    is_nothing : Option Line → Type 0
    is_nothing None = Unit {0}
    is_nothing (Some _) = ⊥
items_there (x ∷ ls) zero l h = ap (λ (o : Option Line). items_of o) h where
  items_of : Option Line → List Item
  items_of None = []
  items_of (Some y) = y.items
items_there (x ∷ ls) (suc n) l h = items_there ls n l h

items_behind : (m : ℕ) (ls : List Line) (n : ℕ) → items_at (drop m ls) n ≡ items_at ls (m + n)
items_behind zero ls n = let e : n ≡ 0 + n = omega arith in ap (λ k. items_at ls k) e
items_behind (suc m) [] n = refl
items_behind (suc m) (x ∷ ls) n = let e : suc (m + n) ≡ suc m + n = omega arith in items_behind m ls n ∙ ap (λ k. items_at (x ∷ ls) k) e

-- the first of some lines are among them
items_front : (c : ℕ) (ls : List Line) (n : ℕ) → (items_at (take c ls) n ≡ []) ⊎ ((n < c) × (items_at (take c ls) n ≡ items_at ls n))
items_front zero ls n = inl refl
items_front (suc c) [] n = inl refl
items_front (suc c) (x ∷ ls) zero = inr (omega arith, refl)
items_front (suc c) (x ∷ ls) (suc n) = more (items_front c ls n) where
  more : (items_at (take c ls) n ≡ []) ⊎ ((n < c) × (items_at (take c ls) n ≡ items_at ls n)) → (items_at (take c ls) n ≡ []) ⊎ ((suc n < suc c) × (items_at (take c ls) n ≡ items_at ls n))
  more (inl e) = inl e
  more (inr e) = inr (omega (arith, e.0), e.1)

not_first : (n : ℕ) → (1 + n == 0) ≡ false
not_first n = different (1 + n) 0 (λ e. omega (arith, e))

-- behind the first line
fits_later : (f : Shape) (n : ℕ) (l : Line) → fits_at f (1 + n) l ≡ true
    → (if nat_le (1 + n) f.lifetimes then fits_region f l else fits_loan f (get_or f.borrows (1 + n - 1 - f.lifetimes) 0) l) ≡ true
fits_later f n l e = subst (λ b. (if b then fits_function f l
    else (if nat_le (1 + n) f.lifetimes then fits_region f l else fits_loan f (get_or f.borrows (1 + n - 1 - f.lifetimes) 0) l)) ≡ true) (not_first n) e

pub region_at : (f : Shape) (n : ℕ) (l : Line) → n < f.lifetimes → fits_at f (1 + n) l ≡ true → fits_region f l ≡ true
region_at f n l h e = subst (λ b. (if b then fits_region f l else fits_loan f (get_or f.borrows (1 + n - 1 - f.lifetimes) 0) l) ≡ true)
    (le-leb (1 + n) f.lifetimes (omega (arith, h))) (fits_later f n l e)

pub loan_at : (f : Shape) (n : ℕ) (l : Line) → fits_at f (1 + (f.lifetimes + n)) l ≡ true
    → fits_loan f (get_or f.borrows (1 + (f.lifetimes + n) - 1 - f.lifetimes) 0) l ≡ true
loan_at f n l e = go (nat_le (1 + (f.lifetimes + n)) f.lifetimes) refl (fits_later f (f.lifetimes + n) l e) where
  go : (b : Bool) → nat_le (1 + (f.lifetimes + n)) f.lifetimes ≡ b
      → (if b then fits_region f l else fits_loan f (get_or f.borrows (1 + (f.lifetimes + n) - 1 - f.lifetimes) 0) l) ≡ true
      → fits_loan f (get_or f.borrows (1 + (f.lifetimes + n) - 1 - f.lifetimes) 0) l ≡ true
  go true w x = let y = leb-true (1 + (f.lifetimes + n)) f.lifetimes w in absurd (omega (arith, y))
  go false w x = x

module _ (f : Shape) (ls : List Line) (fit : AllFit f ls) where
  pub region_bounds : (l : ℕ) → (items_at (take f.lifetimes (drop 1 ls)) l ≡ []) ⊎ (list_all (is_within f.sites f.own) (items_at (take f.lifetimes (drop 1 ls)) l) ≡ true)
  region_bounds l = by (items_front f.lifetimes (drop 1 ls) l) where
    by : (items_at (take f.lifetimes (drop 1 ls)) l ≡ []) ⊎ ((l < f.lifetimes) × (items_at (take f.lifetimes (drop 1 ls)) l ≡ items_at (drop 1 ls) l))
        → (items_at (take f.lifetimes (drop 1 ls)) l ≡ []) ⊎ (list_all (is_within f.sites f.own) (items_at (take f.lifetimes (drop 1 ls)) l) ≡ true)
    by (inl e) = inl e
    by (inr e) = let h = fit (1 + l) (omega (arith, e.0)) in inr (subst (λ is. list_all (is_within f.sites f.own) is ≡ true)
        (sym (e.1 ∙ items_behind 1 ls l ∙ items_there ls (1 + l) h.0 h.1)) (region_within f h.0 (region_at f l h.0 e.0 h.2)))

  pub point_site : (l p : ℕ) → has_site (items_at (take f.lifetimes (drop 1 ls)) l) p ≡ true → p < f.sites
  point_site l p h = by (region_bounds l) where
    by : (items_at (take f.lifetimes (drop 1 ls)) l ≡ []) ⊎ (list_all (is_within f.sites f.own) (items_at (take f.lifetimes (drop 1 ls)) l) ≡ true) → p < f.sites
    by (inl e) = absurd (true≢false (sym h ∙ ap (λ is. has_site is p) e))
    by (inr e) = site_within f.sites f.own (items_at (take f.lifetimes (drop 1 ls)) l) p e h

  pub point_end : (l k : ℕ) → has_end (items_at (take f.lifetimes (drop 1 ls)) l) k ≡ true → k < f.own
  point_end l k h = by (region_bounds l) where
    by : (items_at (take f.lifetimes (drop 1 ls)) l ≡ []) ⊎ (list_all (is_within f.sites f.own) (items_at (take f.lifetimes (drop 1 ls)) l) ≡ true) → k < f.own
    by (inl e) = absurd (true≢false (sym h ∙ ap (λ is. has_end is k) e))
    by (inr e) = end_within f.sites f.own (items_at (take f.lifetimes (drop 1 ls)) l) k e h

  pub scope_site : (i p : ℕ) → has_site (items_at (take (length f.borrows) (drop (1 + f.lifetimes) ls)) i) p ≡ true → p < f.sites
  scope_site i p h = by (items_front (length f.borrows) (drop (1 + f.lifetimes) ls) i) where
    scopes : List Line
    scopes = take (length f.borrows) (drop (1 + f.lifetimes) ls)

    by : (items_at scopes i ≡ []) ⊎ ((i < length f.borrows) × (items_at scopes i ≡ items_at (drop (1 + f.lifetimes) ls) i)) → p < f.sites
    by (inl e) = absurd (true≢false (sym h ∙ ap (λ is. has_site is p) e))
    by (inr e) = let x = fit (1 + (f.lifetimes + i)) (omega (arith, e.0)) in let there : 1 + f.lifetimes + i ≡ 1 + (f.lifetimes + i) = omega arith in
        loan_within f (get_or f.borrows (1 + (f.lifetimes + i) - 1 - f.lifetimes) 0) x.0 (loan_at f i x.0 x.2) p
        (subst (λ is. has_site is p ≡ true) (e.1 ∙ items_behind (1 + f.lifetimes) ls i ∙ ap (λ n. items_at ls n) there ∙ items_there ls (1 + (f.lifetimes + i)) x.0 x.1) h)

-- ---- sets

bounded : (a b c : Bool) → (a ≡ true → b ≡ c) → (c ≡ true → a ≡ true) → (a && b) ≡ c
bounded true b c f g = f refl
bounded false b true f g = absurd (true≢false (sym (g refl)))
bounded false b false f g = refl

pub points_read : (f : Shape) (ls : List Line) (T : List (List ℕ)) → AllFit f ls → AreRows f.sites f.own (take f.lifetimes (drop 1 ls)) T
    → written f.sites f.own T ≡ points (take f.lifetimes (drop 1 ls))
points_read f ls T fit rows = λ j l x. same l x j where
  same : (l : ℕ) (x : Point) → written f.sites f.own T l x ≡ points (take f.lifetimes (drop 1 ls)) l x
  same l (site p) = bounded (nat_lt p f.sites) (at T l p) (has_site (items_at (take f.lifetimes (drop 1 ls)) l) p)
      (λ e. rows.sites_are l p (ltb-true p f.sites e))
      (λ e. lt-ltb p f.sites (point_site f ls fit l p e))
  same l (end k) = bounded (nat_lt k f.own) (at T l (f.sites + k)) (has_end (items_at (take f.lifetimes (drop 1 ls)) l) k)
      (λ e. rows.ends_are l k (ltb-true k f.own e))
      (λ e. lt-ltb k f.own (point_end f ls fit l k e))

pub scopes_read : (f : Shape) (ls : List Line) (U : List (List ℕ)) → AllFit f ls → AreRows f.sites 0 (take (length f.borrows) (drop (1 + f.lifetimes) ls)) U
    → inside U f.sites ≡ sites (take (length f.borrows) (drop (1 + f.lifetimes) ls))
scopes_read f ls U fit rows = λ j i p. same i p j where
  same : (i p : ℕ) → inside U f.sites i p ≡ sites (take (length f.borrows) (drop (1 + f.lifetimes) ls)) i p
  same i p = bounded (nat_lt p f.sites) (at U i p) (has_site (items_at (take (length f.borrows) (drop (1 + f.lifetimes) ls)) i) p)
      (λ e. rows.sites_are i p (ltb-true p f.sites e))
      (λ e. lt-ltb p f.sites (scope_site f ls fit i p e))
