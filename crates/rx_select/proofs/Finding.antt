-- The statements of a block that the places tell are those that the range selects: each has a token, so only one begins where the selected
-- tokens do, and only one ends there.
use Rattle.std.proofs.Common.{◌≡◌, ℕ, zero, suc, ◌+◌, ◌≤◌, ◌<◌, nat_le, Bool, true, false, ◌&&◌, List, [], ◌∷◌, Option, Some, None, if◌then◌else◌, refl, ap, sym, ◌∙◌, subst, arith}
use Rattle.std.proofs.Common.{inl, inr}
use Rattle.std.specs.Prelude.{◌⊎◌}
use Rattle.std.proofs.lemmas.Bool.{leb-true, le-leb}
use Rattle.rx_core.specs.declared.types.Span.{Span}
use Rattle.rx_tree.specs.Lists.{nth, Every}
use Rattle.rx_lex.specs.Tok.{Tok}
use Rattle.rx_select.specs.declared.places.Places.{Places}
use Rattle.rx_select.specs.Selected.{Within, IsToken}
use Rattle.rx_select.specs.Search.{begins_with, ends_with, beginning, ending, between, run_of}
use Rattle.rx_select.proofs.Tokens.{every_token}
use Rattle.rx_select.proofs.Rows.{InOrder, Part}
use Rattle.rx_select.proofs.Choosing.{Long, every_at, after, before, Chosen}
use Rattle.rx_select.proofs.Scanning.{and_true, both_true, Around, around_same, around_ends}

begins_says : (g : Places) (s : Span) → begins_with g s ≡ true → (g.before ≤ s.start) × (s.start ≤ g.start)
begins_says g s e = let p = and_true (nat_le g.before s.start) (nat_le s.start g.start) e in (leb-true g.before s.start p.0, leb-true s.start g.start p.1)

begins_is : (g : Places) (s : Span) → g.before ≤ s.start → s.start ≤ g.start → begins_with g s ≡ true
begins_is g s a b = both_true (nat_le g.before s.start) (nat_le s.start g.start) (le-leb g.before s.start a) (le-leb s.start g.start b)

ends_says : (g : Places) (s : Span) → ends_with g s ≡ true → (g.end ≤ s.end) × (s.end ≤ g.after)
ends_says g s e = let p = and_true (nat_le g.end s.end) (nat_le s.end g.after) e in (leb-true g.end s.end p.0, leb-true s.end g.after p.1)

ends_is : (g : Places) (s : Span) → g.end ≤ s.end → s.end ≤ g.after → ends_with g s ≡ true
ends_is g s a b = both_true (nat_le g.end s.end) (nat_le s.end g.after) (le-leb g.end s.end a) (le-leb s.end g.after b)

-- ---- what is found

-- the statement at a number counted from another
record Counted (n i : ℕ) (ss : List Span) (P : Span → Type 0) : Type 0 where
  place : ℕ
  span : Span
  is : i ≡ n + place
  there : nth ss place ≡ Some span
  has : P span

counted_on : (n i : ℕ) (a : Span) (ss : List Span) (P : Span → Type 0) → Counted (n + 1) i ss P → Counted n i (a ∷ ss) P
counted_on n i a ss P x = record { place = suc x.place; span = x.span; is = let e = x.is in omega (arith, e); there = x.there; has = x.has }

beginning_says : (g : Places) (n : ℕ) (ss : List Span) (i : ℕ) → beginning g n ss ≡ Some i → Counted n i ss (λ a. begins_with g a ≡ true)
beginning_says g n [] i e = absurd (cc)
beginning_says g n (a ∷ ss) i e = by (begins_with g a) refl e (λ h. counted_on n i a ss (λ a. begins_with g a ≡ true) (beginning_says g (n + 1) ss i h))
  where
    by : (b : Bool) → begins_with g a ≡ b → (if b then Some n else beginning g (n + 1) ss) ≡ Some i → (beginning g (n + 1) ss ≡ Some i → Counted n i (a ∷ ss) (λ a. begins_with g a ≡ true)) → Counted n i (a ∷ ss) (λ a. begins_with g a ≡ true)
    by true q h f = record { place = 0; span = a; is = let r : n ≡ i = cc in omega (arith, r); there = refl; has = q }
    by false q h f = f h

ending_says : (g : Places) (n : ℕ) (ss : List Span) (i : ℕ) → ending g n ss ≡ Some i → Counted n i ss (λ a. ends_with g a ≡ true)
ending_says g n [] i e = absurd (cc)
ending_says g n (a ∷ ss) i e = by (ends_with g a) refl e (λ h. counted_on n i a ss (λ a. ends_with g a ≡ true) (ending_says g (n + 1) ss i h))
  where
    by : (b : Bool) → ends_with g a ≡ b → (if b then Some n else ending g (n + 1) ss) ≡ Some i → (ending g (n + 1) ss ≡ Some i → Counted n i (a ∷ ss) (λ a. ends_with g a ≡ true)) → Counted n i (a ∷ ss) (λ a. ends_with g a ≡ true)
    by true q h f = record { place = 0; span = a; is = let r : n ≡ i = cc in omega (arith, r); there = refl; has = q }
    by false q h f = f h

-- ---- what is there is found

-- the token of an earlier statement would be one of the selected, and stand in front of them
begins_once : (ts : List Tok) (S E length : ℕ) (g : Places) (s a : Span) → Long ts → Around ts S E length g → Part ts s → s.end ≤ a.start → begins_with g a ≡ true → begins_with g s ≡ false
begins_once ts S E length g s a n x p h e = by (begins_with g s) refl
  where
    side : (t : Tok) → IsToken t ts → Within s.start s.end t → g.before ≤ s.start → (t.span.end ≤ g.before) ⊎ ((g.start ≤ t.span.start) × (t.span.end ≤ g.end)) ⊎ (g.after ≤ t.span.start) → ⊥
    side t i w u (inl k) = let m = every_token (λ t. t.span.start < t.span.end) ts t n i in omega (arith, k, m, u, w.0)
    side t i w u (inr (inl k)) =
        let m = every_token (λ t. t.span.start < t.span.end) ts t n i in
        let b = begins_says g a e in
        omega (arith, k.0, m, b.1, h, w.1)
    side t i w u (inr (inr k)) =
        let m = every_token (λ t. t.span.start < t.span.end) ts t n i in
        let b = begins_says g a e in
        let c = x.high in
        let d = x.to in
        let f = x.some in
        omega (arith, k, m, b.1, h, w.1, c, d, f)

    by : (c : Bool) → begins_with g s ≡ c → c ≡ false
    by false q = refl
    by true q = absurd (side p.token p.is p.within (begins_says g s q).0 (every_token (λ t. (t.span.end ≤ g.before) ⊎ ((g.start ≤ t.span.start) × (t.span.end ≤ g.end)) ⊎ (g.after ≤ t.span.start)) ts p.token x.sides p.is))

-- and one that ends there in front of another has no place for the token of that
ends_once : (ts : List Tok) (S E length : ℕ) (g : Places) (s a : Span) → Long ts → Around ts S E length g → Part ts a → s.end ≤ a.start → ends_with g a ≡ true → ends_with g s ≡ false
ends_once ts S E length g s a n x p h e = by (ends_with g s) refl
  where
    side : (t : Tok) → IsToken t ts → Within a.start a.end t → g.end ≤ s.end → (t.span.end ≤ g.before) ⊎ ((g.start ≤ t.span.start) × (t.span.end ≤ g.end)) ⊎ (g.after ≤ t.span.start) → ⊥
    side t i w u (inl k) =
        let m = every_token (λ t. t.span.start < t.span.end) ts t n i in
        let c = x.low in
        let d = x.from in
        let f = x.some in
        omega (arith, k, m, u, h, w.0, c, d, f)
    side t i w u (inr (inl k)) = let m = every_token (λ t. t.span.start < t.span.end) ts t n i in omega (arith, k.1, m, u, h, w.0)
    side t i w u (inr (inr k)) =
        let m = every_token (λ t. t.span.start < t.span.end) ts t n i in
        let b = ends_says g a e in
        omega (arith, k, m, b.1, w.1)

    by : (c : Bool) → ends_with g s ≡ c → c ≡ false
    by false q = refl
    by true q = absurd (side p.token p.is p.within (ends_says g s q).0 (every_token (λ t. (t.span.end ≤ g.before) ⊎ ((g.start ≤ t.span.start) × (t.span.end ≤ g.end)) ⊎ (g.after ≤ t.span.start)) ts p.token x.sides p.is))

beginning_is : (ts : List Tok) (S E length from to : ℕ) (g : Places) (n : ℕ) (ss : List Span) (k : ℕ) (a : Span) → Long ts → Around ts S E length g → InOrder from to ss → Every (Part ts) ss
    → nth ss k ≡ Some a → begins_with g a ≡ true → beginning g n ss ≡ Some (n + k)
beginning_is ts S E length from to g n [] k a l x o p e q = absurd (cc)
beginning_is ts S E length from to g n (c ∷ ss) zero a l x o p e q =
    let z : n ≡ n + 0 = omega arith in
    let r : c ≡ a = cc in
    ap (λ b. if b then Some n else beginning g (n + 1) ss) (ap (begins_with g) r ∙ q) ∙ ap (λ m. Some m) z
beginning_is ts S E length from to g n (c ∷ ss) (suc k) a l x o p e q =
    let h = after c.end to ss k a o.2 e in
    let m : n + 1 + k ≡ n + suc k = omega arith in
    ap (λ b. if b then Some n else beginning g (n + 1) ss) (begins_once ts S E length g c a l x p.0 h.0 q)
    ∙ beginning_is ts S E length c.end to g (n + 1) ss k a l x o.2 p.1 e q ∙ ap (λ m. Some m) m

ending_is : (ts : List Tok) (S E length from to : ℕ) (g : Places) (n : ℕ) (ss : List Span) (k : ℕ) (a : Span) → Long ts → Around ts S E length g → InOrder from to ss → Every (Part ts) ss
    → nth ss k ≡ Some a → ends_with g a ≡ true → ending g n ss ≡ Some (n + k)
ending_is ts S E length from to g n [] k a l x o p e q = absurd (cc)
ending_is ts S E length from to g n (c ∷ ss) zero a l x o p e q =
    let z : n ≡ n + 0 = omega arith in
    let r : c ≡ a = cc in
    ap (λ b. if b then Some n else ending g (n + 1) ss) (ap (ends_with g) r ∙ q) ∙ ap (λ m. Some m) z
ending_is ts S E length from to g n (c ∷ ss) (suc k) a l x o p e q =
    let h = after c.end to ss k a o.2 e in
    let m : n + 1 + k ≡ n + suc k = omega arith in
    ap (λ b. if b then Some n else ending g (n + 1) ss) (ends_once ts S E length g c a l x (every_at (Part ts) ss k a p.1 e) h.0 q)
    ∙ ending_is ts S E length c.end to g (n + 1) ss k a l x o.2 p.1 e q ∙ ap (λ m. Some m) m

-- ---- both

same_place : (m n : ℕ) → m ≡ 0 + n → m ≡ n
same_place m n e = omega (arith, e)

pub run_says : (ts : List Tok) (S E length : ℕ) (g : Places) (ps : List Span) (i j : ℕ) → Long ts → Around ts S E length g → run_of g ps ≡ Some (i, j) → Chosen ts S E ps i j
run_says ts S E length g ps i j n x e = by (beginning g 0 ps) (ending g 0 ps) refl refl e
  where
    test : (k l : ℕ) (c : Bool) → beginning g 0 ps ≡ Some k → ending g 0 ps ≡ Some l → nat_le k l ≡ c → if◌then◌else◌ {A = Option (ℕ × ℕ)} c (Some (k, l)) None ≡ Some (i, j) → Chosen ts S E ps i j
    test k l false a b d q = absurd (cc)
    test k l true a b d q =
        let z : (k, l) ≡ (i, j) = cc in
        let y = beginning_says g 0 ps k a in
        let v = ending_says g 0 ps l b in
        let u = begins_says g y.span y.has in
        let w = ends_says g v.span v.has in
        let m : k ≡ y.place = same_place k y.place y.is in
        let o : l ≡ v.place = same_place l v.place v.is in
        let P : ℕ × ℕ → Type 0 = λ r. Chosen ts S E ps r.0 r.1 in
        subst P z (record {
          a = y.span;
          b = v.span;
          first = ap (nth ps) m ∙ y.there;
          last = ap (nth ps) o ∙ v.there;
          forward = leb-true k l d;
          exactly = around_same ts S E length y.span.start v.span.end g n x u.0 u.1 w.0 w.1;
        })

    by : (k l : Option ℕ) → beginning g 0 ps ≡ k → ending g 0 ps ≡ l → between k l ≡ Some (i, j) → Chosen ts S E ps i j
    by None l a b q = absurd (cc)
    by (Some k) None a b q = absurd (cc)
    by (Some k) (Some l) a b q = test k l (nat_le k l) a b refl q

pub run_found : (ts : List Tok) (S E length from to : ℕ) (g : Places) (ps : List Span) (i j : ℕ) → Long ts → Around ts S E length g → InOrder from to ps → Every (Part ts) ps → to ≤ length → Chosen ts S E ps i j
    → run_of g ps ≡ Some (i, j)
run_found ts S E length from to g ps i j n x o p h c =
    let a = every_at (Part ts) ps i c.a p c.first in
    let b = every_at (Part ts) ps j c.b p c.last in
    let l = before from to ps j c.b o c.last in
    let r = around_ends ts S E length c.a.start c.b.end g n x a.front b.back (omega (arith, l, h)) c.exactly in
    let zf : 0 + i ≡ i = omega arith in
    let zl : 0 + j ≡ j = omega arith in
    ap (λ k. between k (ending g 0 ps)) (beginning_is ts S E length from to g 0 ps i c.a n x o p c.first (begins_is g c.a r.0 r.1) ∙ ap (λ k. Some k) zf)
    ∙ ap (λ k. between (Some i) k) (ending_is ts S E length from to g 0 ps j c.b n x o p c.last (ends_is g c.b r.2 r.3) ∙ ap (λ k. Some k) zl)
    ∙ ap (λ d. if◌then◌else◌ {A = Option (ℕ × ℕ)} d (Some (i, j)) None) (le-leb i j c.forward)
