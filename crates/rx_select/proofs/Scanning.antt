-- The places of the tokens that a range selects: by recursion on tokens in order, each of which stands in front of them, is one of them,
-- or stands behind them.
use Rattle.std.proofs.Common.{◌≡◌, ℕ, zero, suc, ◌+◌, ◌≤◌, ◌<◌, nat_le, nat_lt, Bool, true, false, ◌&&◌, List, [], ◌∷◌, Option, Some, None, if◌then◌else◌, refl, ap, sym, ◌∙◌, subst, arith}
use Rattle.std.proofs.Common.{inl, inr}
use Rattle.std.specs.Prelude.{◌⊎◌, ◌↔◌}
use Rattle.std.proofs.lemmas.Bool.{leb-true, le-leb, lt-leb}
use Rattle.rx_core.specs.declared.types.Span.{Span}
use Rattle.rx_tree.specs.Lists.{Every}
use Rattle.rx_lex.specs.Tok.{Tok}
use Rattle.rx_lex.proofs.TokenLaws.{Ordered}
use Rattle.rx_select.specs.declared.places.Places.{Places}
use Rattle.rx_select.specs.Selected.{Within, Cut, IsToken, FirstToLast}
use Rattle.rx_select.specs.Search.{front, back, places_of, places}
use Rattle.rx_select.proofs.Tokens.{Clean, every_token, of_every, ordered_at}
use Rattle.rx_select.proofs.Choosing.{Long, le_or_lt}

-- ---- tests

pub and_true : (a b : Bool) → (a && b) ≡ true → (a ≡ true) × (b ≡ true)
and_true true b e = (refl, e)
and_true false b e = absurd (cc)

pub both_true : (a b : Bool) → a ≡ true → b ≡ true → (a && b) ≡ true
both_true a b e f = ap (λ c. c && b) e ∙ f

not_le : (m n : ℕ) → nat_le m n ≡ false → n < m
not_le m n e = by (le_or_lt m n)
  where
    by : (m ≤ n) ⊎ (n < m) → n < m
    by (inl h) = let q = le-leb m n h in absurd (cc)
    by (inr h) = h

-- ---- in front

record Front (S at : ℕ) (ts : List Tok) (f : ℕ × ℕ) : Type 0 where
  sides : Every (λ t. (t.span.end ≤ f.0) ⊎ (f.1 ≤ t.span.start)) ts
  above : at ≤ f.0
  edge : (f.0 ≡ at) ⊎ ((t : Tok) × IsToken t ts × (t.span.end ≡ f.0) × (f.0 ≤ S))
  next : (t : Tok) × IsToken t ts × (t.span.start ≡ f.1) × (S < t.span.end)

right_sides : (p at from to : ℕ) (ts : List Tok) → at ≤ from → Ordered from to ts → Every (λ t. (t.span.end ≤ p) ⊎ (at ≤ t.span.start)) ts
right_sides p at from to [] h o = tt
right_sides p at from to (t ∷ ts) h o =
    let a = o.0 in
    let b = o.1 in
    (inr (omega (arith, h, a)), right_sides p at t.span.end to ts (omega (arith, h, a, b)) o.2)

front_says : (S at from to : ℕ) (ts : List Tok) (f : ℕ × ℕ) → at ≤ from → Ordered from to ts → front S at ts ≡ Some f → Front S at ts f
front_says S at from to [] f h o e = absurd (cc)
front_says S at from to (t ∷ ts) f h o e = by (nat_le t.span.end S) refl e (front_says S t.span.end t.span.end to ts f (omega arith) o.2)
  where
    by : (c : Bool) → nat_le t.span.end S ≡ c → (if c then front S t.span.end ts else Some (at, t.span.start)) ≡ Some f → (front S t.span.end ts ≡ Some f → Front S t.span.end ts f) → Front S at (t ∷ ts) f
    by true q d r =
        let x = r d in
        let a = o.0 in
        let b = o.1 in
        let u = x.above in
        let l = leb-true t.span.end S q in
        record { sides = (inl u, x.sides); above = omega (arith, u, a, b, h); edge = edge l x.edge; next = (x.next.0, inr x.next.1, x.next.2, x.next.3) }
      where
        edge : t.span.end ≤ S → (f.0 ≡ t.span.end) ⊎ ((u : Tok) × IsToken u ts × (u.span.end ≡ f.0) × (f.0 ≤ S)) → (f.0 ≡ at) ⊎ ((u : Tok) × IsToken u (t ∷ ts) × (u.span.end ≡ f.0) × (f.0 ≤ S))
        edge l (inl e) = inr (t, inl refl, sym e, omega (arith, e, l))
        edge l (inr x) = inr (x.0, inr x.1, x.2, x.3)
    by false q d r =
        let g : (at, t.span.start) ≡ f = cc in
        let n = not_le t.span.end S q in
        let P : ℕ × ℕ → Type 0 = λ p. Front S at (t ∷ ts) p in
        let b = o.1 in
        subst P g (record { sides = (inr (omega arith), right_sides at t.span.start t.span.end to ts (omega (arith, b)) o.2); above = omega arith; edge = inl refl; next = (t, inl refl, refl, n) })

front_some : (S at : ℕ) (ts : List Tok) (t : Tok) → IsToken t ts → S < t.span.end → (f : ℕ × ℕ) × (front S at ts ≡ Some f)
front_some S at [] t i h = absurd i
front_some S at (u ∷ ts) t i h = by (nat_le u.span.end S) refl i (λ j. front_some S u.span.end ts t j h)
  where
    by : (c : Bool) → nat_le u.span.end S ≡ c → IsToken t (u ∷ ts) → (IsToken t ts → (f : ℕ × ℕ) × (front S u.span.end ts ≡ Some f))
        → (f : ℕ × ℕ) × ((if c then front S u.span.end ts else Some (at, u.span.start)) ≡ Some f)
    by true q (inl e) r =
        let l = leb-true u.span.end S q in
        let m : t.span.end ≡ u.span.end = ap (λ (x : Tok). x.span.end) e in
        absurd (omega (arith, l, m, h))
    by true q (inr j) r = r j
    by false q j r = ((at, u.span.start), refl)

-- ---- behind

record Back (E at length : ℕ) (ts : List Tok) (q : ℕ × ℕ) : Type 0 where
  sides : Every (λ t. ((t.span.end ≤ q.0) × (t.span.start < E)) ⊎ ((q.1 ≤ t.span.start) × (E ≤ t.span.start))) ts
  above : at ≤ q.0
  edge : (q.0 ≡ at) ⊎ ((t : Tok) × IsToken t ts × (t.span.end ≡ q.0) × (t.span.start < E))
  next : (q.1 ≡ length) ⊎ ((t : Tok) × IsToken t ts × (t.span.start ≡ q.1) × (E ≤ t.span.start))

later_sides : (E p at from to : ℕ) (ts : List Tok) → at ≤ from → E ≤ at → Ordered from to ts → Every (λ t. ((t.span.end ≤ p) × (t.span.start < E)) ⊎ ((at ≤ t.span.start) × (E ≤ t.span.start))) ts
later_sides E p at from to [] h k o = tt
later_sides E p at from to (t ∷ ts) h k o =
    let a = o.0 in
    let b = o.1 in
    (inr (omega (arith, h, a), omega (arith, h, a, k)), later_sides E p at t.span.end to ts (omega (arith, h, a, b)) k o.2)

back_says : (E at length from to : ℕ) (ts : List Tok) → at ≤ from → Ordered from to ts → Back E at length ts (back E at length ts)
back_says E at length from to [] h o = record { sides = tt; above = omega arith; edge = inl refl; next = inl refl }
back_says E at length from to (t ∷ ts) h o = by (nat_lt t.span.start E) refl (back_says E t.span.end length t.span.end to ts (omega arith) o.2)
  where
    by : (c : Bool) → nat_lt t.span.start E ≡ c → Back E t.span.end length ts (back E t.span.end length ts) → Back E at length (t ∷ ts) (if c then back E t.span.end length ts else (at, t.span.start))
    by true q x =
        let a = o.0 in
        let b = o.1 in
        let u = x.above in
        let l = leb-true (suc t.span.start) E q in
        record { sides = (inl (u, omega (arith, l)), x.sides); above = omega (arith, u, a, b, h); edge = edge (omega (arith, l)) x.edge; next = next x.next }
      where
        p : ℕ × ℕ
        p = back E t.span.end length ts

        edge : t.span.start < E → (p.0 ≡ t.span.end) ⊎ ((u : Tok) × IsToken u ts × (u.span.end ≡ p.0) × (u.span.start < E)) → (p.0 ≡ at) ⊎ ((u : Tok) × IsToken u (t ∷ ts) × (u.span.end ≡ p.0) × (u.span.start < E))
        edge l (inl e) = inr (t, inl refl, sym e, l)
        edge l (inr x) = inr (x.0, inr x.1, x.2, x.3)

        next : (p.1 ≡ length) ⊎ ((u : Tok) × IsToken u ts × (u.span.start ≡ p.1) × (E ≤ u.span.start)) → (p.1 ≡ length) ⊎ ((u : Tok) × IsToken u (t ∷ ts) × (u.span.start ≡ p.1) × (E ≤ u.span.start))
        next (inl e) = inl e
        next (inr x) = inr (x.0, inr x.1, x.2, x.3)
    by false q x =
        let n = not_le (suc t.span.start) E q in
        let b = o.1 in
        record {
          sides = (inr (omega arith, omega (arith, n)), later_sides E at t.span.start t.span.end to ts (omega (arith, b)) (omega (arith, n)) o.2);
          above = omega arith;
          edge = inl refl;
          next = inr (t, inl refl, refl, omega (arith, n));
        }

-- ---- the places

pub record Around (ts : List Tok) (S E length : ℕ) (g : Places) : Type 0 where
  pub sides : Every (λ t. (t.span.end ≤ g.before) ⊎ ((g.start ≤ t.span.start) × (t.span.end ≤ g.end)) ⊎ (g.after ≤ t.span.start)) ts
  pub low : g.before ≤ S
  pub from : S ≤ g.start
  pub some : g.start < g.end
  pub to : g.end ≤ E
  pub high : E ≤ g.after
  pub first : (t : Tok) × IsToken t ts × (t.span.start ≡ g.start)
  pub last : (t : Tok) × IsToken t ts × (t.span.end ≡ g.end)
  pub edge_before : (g.before ≡ 0) ⊎ ((t : Tok) × IsToken t ts × (t.span.end ≡ g.before))
  pub edge_after : (g.after ≡ length) ⊎ ((t : Tok) × IsToken t ts × (t.span.start ≡ g.after))

abbrev fits : ℕ → ℕ → ℕ × ℕ → ℕ × ℕ → Bool
fits S E f q = nat_le S f.1 && (nat_lt f.1 q.0 && nat_le q.0 E)

around_at : (S E length : ℕ) (ts : List Tok) (f q : ℕ × ℕ) → E ≤ length → Front S 0 ts f → Back E 0 length ts q → fits S E f q ≡ true
    → Around ts S E length (record { before = f.0; start = f.1; end = q.0; after = q.1 })
around_at S E length ts f q h x y e =
    let c0 = and_true (nat_le S f.1) (nat_lt f.1 q.0 && nat_le q.0 E) e in
    let c1 = and_true (nat_lt f.1 q.0) (nat_le q.0 E) c0.1 in
    let a = leb-true S f.1 c0.0 in
    let b = leb-true (suc f.1) q.0 c1.0 in
    let c = leb-true q.0 E c1.1 in
    record {
      sides = of_every (λ t. (t.span.end ≤ f.0) ⊎ ((f.1 ≤ t.span.start) × (t.span.end ≤ q.0)) ⊎ (q.1 ≤ t.span.start)) ts (λ t i. side t
          (every_token (λ t. (t.span.end ≤ f.0) ⊎ (f.1 ≤ t.span.start)) ts t x.sides i) (every_token (λ t. ((t.span.end ≤ q.0) × (t.span.start < E)) ⊎ ((q.1 ≤ t.span.start) × (E ≤ t.span.start))) ts t y.sides i));
      low = low x.edge;
      from = a;
      some = omega (arith, b);
      to = c;
      high = high y.next;
      first = (x.next.0, x.next.1, x.next.2);
      last = last (omega (arith, b)) y.edge;
      edge_before = before x.edge;
      edge_after = after y.next;
    }
  where
    side : (t : Tok) → (t.span.end ≤ f.0) ⊎ (f.1 ≤ t.span.start) → ((t.span.end ≤ q.0) × (t.span.start < E)) ⊎ ((q.1 ≤ t.span.start) × (E ≤ t.span.start))
        → (t.span.end ≤ f.0) ⊎ ((f.1 ≤ t.span.start) × (t.span.end ≤ q.0)) ⊎ (q.1 ≤ t.span.start)
    side t (inl h) k = inl h
    side t (inr h) (inl k) = inr (inl (h, k.0))
    side t (inr h) (inr k) = inr (inr k.0)

    low : (f.0 ≡ 0) ⊎ ((t : Tok) × IsToken t ts × (t.span.end ≡ f.0) × (f.0 ≤ S)) → f.0 ≤ S
    low (inl e) = omega (arith, e)
    low (inr t) = t.3

    high : (q.1 ≡ length) ⊎ ((t : Tok) × IsToken t ts × (t.span.start ≡ q.1) × (E ≤ t.span.start)) → E ≤ q.1
    high (inl e) = omega (arith, e, h)
    high (inr t) = let u = t.2 in let v = t.3 in omega (arith, u, v)

    last : f.1 < q.0 → (q.0 ≡ 0) ⊎ ((t : Tok) × IsToken t ts × (t.span.end ≡ q.0) × (t.span.start < E)) → (t : Tok) × IsToken t ts × (t.span.end ≡ q.0)
    last l (inl e) = absurd (omega (arith, l, e))
    last l (inr t) = (t.0, t.1, t.2)

    before : (f.0 ≡ 0) ⊎ ((t : Tok) × IsToken t ts × (t.span.end ≡ f.0) × (f.0 ≤ S)) → (f.0 ≡ 0) ⊎ ((t : Tok) × IsToken t ts × (t.span.end ≡ f.0))
    before (inl e) = inl e
    before (inr t) = inr (t.0, t.1, t.2)

    after : (q.1 ≡ length) ⊎ ((t : Tok) × IsToken t ts × (t.span.start ≡ q.1) × (E ≤ t.span.start)) → (q.1 ≡ length) ⊎ ((t : Tok) × IsToken t ts × (t.span.start ≡ q.1))
    after (inl e) = inl e
    after (inr t) = inr (t.0, t.1, t.2)

pub around_says : (S E length : ℕ) (ts : List Tok) (g : Places) → E ≤ length → Ordered 0 length ts → places S E length ts ≡ Some g → Around ts S E length g
around_says S E length ts g h o e = by (front S 0 ts) refl e
  where
    q : ℕ × ℕ
    q = back E 0 length ts

    test : (f : ℕ × ℕ) (c : Bool) → front S 0 ts ≡ Some f → fits S E f (back E 0 length ts) ≡ c
        → (if c then Some (record { before = f.0; start = f.1; end = (back E 0 length ts).0; after = (back E 0 length ts).1 }) else None) ≡ Some g → Around ts S E length g
    test f false a b d = absurd (cc)
    test f true a b d =
        let z : record { before = f.0; start = f.1; end = (back E 0 length ts).0; after = (back E 0 length ts).1 } ≡ g = cc in
        subst (Around ts S E length) z (around_at S E length ts f (back E 0 length ts) h (front_says S 0 0 length ts f (omega arith) o a) (back_says E 0 length 0 length ts (omega arith) o) b)

    by : (f : Option (ℕ × ℕ)) → front S 0 ts ≡ f → places_of S E f (back E 0 length ts) ≡ Some g → Around ts S E length g
    by None a d = absurd (cc)
    by (Some f) a d = test f (fits S E f (back E 0 length ts)) a refl d

-- a token that is selected, where none is cut
pub places_found : (S E length : ℕ) (ts : List Tok) (t : Tok) → Ordered 0 length ts → Every (λ t. ¬ (Cut S E t)) ts → IsToken t ts → Within S E t → (g : Places) × (places S E length ts ≡ Some g)
places_found S E length ts t o w i s =
    let l = ordered_at 0 length ts t o i in
    let f = front_some S 0 ts t i (omega (arith, s.0, l.1)) in
    let x = front_says S 0 0 length ts f.0 (omega arith) o f.1 in
    let y = back_says E 0 length 0 length ts (omega arith) o in
    let a = starts l.1 f.0 x in
    let b = stops l.1 y in
    let q = back E 0 length ts in
    let c : fits S E f.0 q ≡ true = both_true (nat_le S f.0.1) (nat_lt f.0.1 q.0 && nat_le q.0 E) (le-leb S f.0.1 a.0)
    (both_true (nat_lt f.0.1 q.0) (nat_le q.0 E) (le-leb (suc f.0.1) q.0 (omega (arith, a.1, b.0, l.1))) (le-leb q.0 E b.1)) in (
      record { before = f.0.0; start = f.0.1; end = q.0; after = q.1 },
      ap (λ p. places_of S E p q) f.1 ∙ ap (λ d. if d then Some (record { before = f.0.0; start = f.0.1; end = q.0; after = q.1 }) else None) c,
    )
  where
    starts : t.span.start < t.span.end → (f : ℕ × ℕ) → Front S 0 ts f → (S ≤ f.1) × (f.1 ≤ t.span.start)
    starts m f x =
        let n = x.next in
        let c = every_token (λ t. ¬ (Cut S E t)) ts n.0 w n.1 in
        let below = side m f x (every_token (λ t. (t.span.end ≤ f.0) ⊎ (f.1 ≤ t.span.start)) ts t x.sides i) in
        (least f n.0 n.2 n.3 c below (le_or_lt S n.0.span.start), below)
      where
        bound : (f : ℕ × ℕ) → Front S 0 ts f → f.0 ≤ S
        bound f x = at x.edge
          where
            at : (f.0 ≡ 0) ⊎ ((t : Tok) × IsToken t ts × (t.span.end ≡ f.0) × (f.0 ≤ S)) → f.0 ≤ S
            at (inl e) = omega (arith, e)
            at (inr t) = t.3

        side : t.span.start < t.span.end → (f : ℕ × ℕ) → Front S 0 ts f → (t.span.end ≤ f.0) ⊎ (f.1 ≤ t.span.start) → f.1 ≤ t.span.start
        side m f x (inl h) = let k = bound f x in let a = s.0 in absurd (omega (arith, h, k, m, a))
        side m f x (inr h) = h

        least : (f : ℕ × ℕ) (u : Tok) → u.span.start ≡ f.1 → S < u.span.end → ¬ (Cut S E u) → f.1 ≤ t.span.start → (S ≤ u.span.start) ⊎ (u.span.start < S) → S ≤ f.1
        least f u e h c b (inl k) = omega (arith, e, k)
        least f u e h c b (inr k) = let z = s.1 in absurd (c (omega (arith, e, b, z, m), h, λ v. let y = v.0 in omega (arith, y, k)))

    stops : t.span.start < t.span.end → Back E 0 length ts (back E 0 length ts) → (t.span.end ≤ (back E 0 length ts).0) × ((back E 0 length ts).0 ≤ E)
    stops m y = let a = side m (every_token (λ t. ((t.span.end ≤ (back E 0 length ts).0) × (t.span.start < E)) ⊎ (((back E 0 length ts).1 ≤ t.span.start) × (E ≤ t.span.start))) ts t y.sides i) in (a, most a y.edge)
      where
        side : t.span.start < t.span.end → ((t.span.end ≤ (back E 0 length ts).0) × (t.span.start < E)) ⊎ (((back E 0 length ts).1 ≤ t.span.start) × (E ≤ t.span.start)) → t.span.end ≤ (back E 0 length ts).0
        side m (inl h) = h.0
        side m (inr h) = let a = s.1 in let b = h.1 in absurd (omega (arith, a, b, m))

        ends : (u : Tok) → IsToken u ts → u.span.end ≡ (back E 0 length ts).0 → u.span.start < E → t.span.end ≤ (back E 0 length ts).0 → (u.span.end ≤ E) ⊎ (E < u.span.end) → (back E 0 length ts).0 ≤ E
        ends u j e h a (inl k) = omega (arith, e, k)
        ends u j e h a (inr k) =
            let b = s.0 in
            absurd (every_token (λ t. ¬ (Cut S E t)) ts u w j (h, omega (arith, e, a, b, m), λ v. let z = v.1 in omega (arith, z, k)))

        most : t.span.end ≤ (back E 0 length ts).0 → ((back E 0 length ts).0 ≡ 0) ⊎ ((u : Tok) × IsToken u ts × (u.span.end ≡ (back E 0 length ts).0) × (u.span.start < E)) → (back E 0 length ts).0 ≤ E
        most a (inl e) = omega (arith, e)
        most a (inr u) = ends u.0 u.1 u.2 u.3 a (le_or_lt u.0.span.end E)

-- ---- what the places say of a range

pub around_whole : (ts : List Tok) (S E length : ℕ) (g : Places) → Around ts S E length g → Every (λ t. ¬ (Cut S E t)) ts
around_whole ts S E length g x = of_every (λ t. ¬ (Cut S E t)) ts (λ t i c. by t c (every_token (λ t. (t.span.end ≤ g.before) ⊎ ((g.start ≤ t.span.start) × (t.span.end ≤ g.end)) ⊎ (g.after ≤ t.span.start)) ts t x.sides i))
  where
    by : (t : Tok) → Cut S E t → (t.span.end ≤ g.before) ⊎ ((g.start ≤ t.span.start) × (t.span.end ≤ g.end)) ⊎ (g.after ≤ t.span.start) → ⊥
    by t c (inl h) = let l = x.low in let a = c.1 in omega (arith, h, l, a)
    by t c (inr (inl h)) = let a = x.from in let b = x.to in let u = h.0 in let v = h.1 in c.2 (omega (arith, a, u), omega (arith, b, v))
    by t c (inr (inr h)) = let l = x.high in let a = c.0 in omega (arith, h, l, a)

-- a range between the same tokens selects the same
pub around_same : (ts : List Tok) (S E length A B : ℕ) (g : Places) → Long ts → Around ts S E length g → g.before ≤ A → A ≤ g.start → g.end ≤ B → B ≤ g.after → Every (λ t. Within S E t ↔ Within A B t) ts
around_same ts S E length A B g n x a b c d = of_every (λ t. Within S E t ↔ Within A B t) ts (λ t i. by t (every_token (λ t. t.span.start < t.span.end) ts t n i)
    (every_token (λ t. (t.span.end ≤ g.before) ⊎ ((g.start ≤ t.span.start) × (t.span.end ≤ g.end)) ⊎ (g.after ≤ t.span.start)) ts t x.sides i))
  where
    by : (t : Tok) → t.span.start < t.span.end → (t.span.end ≤ g.before) ⊎ ((g.start ≤ t.span.start) × (t.span.end ≤ g.end)) ⊎ (g.after ≤ t.span.start) → Within S E t ↔ Within A B t
    by t m (inl h) = let l = x.low in (λ w. let u = w.0 in absurd (omega (arith, u, h, l, m)), λ w. let u = w.0 in absurd (omega (arith, u, h, a, m)))
    by t m (inr (inl h)) =
        let e = x.from in
        let f = x.to in
        let u = h.0 in
        let v = h.1 in
        (λ w. (omega (arith, b, u), omega (arith, c, v)), λ w. (omega (arith, e, u), omega (arith, f, v)))
    by t m (inr (inr h)) = let l = x.high in (λ w. let u = w.1 in absurd (omega (arith, u, h, l, m)), λ w. let u = w.1 in absurd (omega (arith, u, h, d, m)))

pub around_span : (ts : List Tok) (S E length : ℕ) (g : Places) → Long ts → Around ts S E length g → FirstToLast S E ts (record { start = g.start; end = g.end })
around_span ts S E length g n x =
    let s = around_same ts S E length g.start g.end g n x (omega (arith, x.low, x.from)) (omega arith) (omega arith) (omega (arith, x.to, x.high)) in
    let f = x.first in
    let l = x.last in
    let a = within_first f.0 f.2 (every_token (λ t. t.span.start < t.span.end) ts f.0 n f.1) (every_token (λ t. (t.span.end ≤ g.before) ⊎ ((g.start ≤ t.span.start) × (t.span.end ≤ g.end)) ⊎ (g.after ≤ t.span.start)) ts f.0 x.sides f.1) in
    let b = within_last l.0 l.2 (every_token (λ t. t.span.start < t.span.end) ts l.0 n l.1) (every_token (λ t. (t.span.end ≤ g.before) ⊎ ((g.start ≤ t.span.start) × (t.span.end ≤ g.end)) ⊎ (g.after ≤ t.span.start)) ts l.0 x.sides l.1) in
    let P : Tok → Type 0 = λ t. Within S E t ↔ Within g.start g.end t in
    record {
      first = f.0;
      first_is = f.1;
      first_selected = (every_token P ts f.0 s f.1).1 a;
      begins = f.2;
      last = l.0;
      last_is = l.1;
      last_selected = (every_token P ts l.0 s l.1).1 b;
      ends = l.2;
      all = of_every (λ t. Within S E t → Within g.start g.end t) ts (λ t i. (every_token P ts t s i).0);
    }
  where
    within_first : (t : Tok) → t.span.start ≡ g.start → t.span.start < t.span.end → (t.span.end ≤ g.before) ⊎ ((g.start ≤ t.span.start) × (t.span.end ≤ g.end)) ⊎ (g.after ≤ t.span.start) → Within g.start g.end t
    within_first t e m (inl h) = let a = x.low in let b = x.from in absurd (omega (arith, h, a, b, e, m))
    within_first t e m (inr (inl h)) = h
    within_first t e m (inr (inr h)) = let a = x.high in let b = x.to in let c = x.some in absurd (omega (arith, h, a, b, c, e))

    within_last : (t : Tok) → t.span.end ≡ g.end → t.span.start < t.span.end → (t.span.end ≤ g.before) ⊎ ((g.start ≤ t.span.start) × (t.span.end ≤ g.end)) ⊎ (g.after ≤ t.span.start) → Within g.start g.end t
    within_last t e m (inl h) = let a = x.low in let b = x.from in let c = x.some in absurd (omega (arith, h, a, b, c, e))
    within_last t e m (inr (inl h)) = h
    within_last t e m (inr (inr h)) = let a = x.high in let b = x.to in absurd (omega (arith, h, a, b, e, m))

-- clean places between which the same is selected stand between the same tokens
pub around_ends : (ts : List Tok) (S E length A B : ℕ) (g : Places) → Long ts → Around ts S E length g → Clean ts A → Clean ts B → B ≤ length → Every (λ t. Within S E t ↔ Within A B t) ts
    → (g.before ≤ A) × (A ≤ g.start) × (g.end ≤ B) × (B ≤ g.after)
around_ends ts S E length A B g n x ca cb lb ex =
    let f = around_span ts S E length g n x in
    let P : Tok → Type 0 = λ t. Within S E t ↔ Within A B t in
    let u = (every_token P ts f.first ex f.first_is).0 f.first_selected in
    let v = (every_token P ts f.last ex f.last_is).0 f.last_selected in
    let b = f.begins in
    let e = f.ends in
    let p : A ≤ g.start = omega (arith, u.0, b) in
    let q : g.end ≤ B = omega (arith, v.1, e) in
    (left p q x.edge_before, p, q, right p q x.edge_after)
  where
    left_at : A ≤ g.start → g.end ≤ B → (t : Tok) → IsToken t ts → t.span.end ≡ g.before → (t.span.end ≤ A) ⊎ (A ≤ t.span.start) → g.before ≤ A
    left_at p q t i e (inl h) = omega (arith, e, h)
    left_at p q t i e (inr h) =
        let a = x.low in
        let b = x.from in
        let c = x.some in
        let w = (every_token (λ t. Within S E t ↔ Within A B t) ts t ex i).1 (h, omega (arith, e, a, b, c, q)) in
        let m = every_token (λ t. t.span.start < t.span.end) ts t n i in
        absurd (omega (arith, w.0, e, a, m))

    left : A ≤ g.start → g.end ≤ B → (g.before ≡ 0) ⊎ ((t : Tok) × IsToken t ts × (t.span.end ≡ g.before)) → g.before ≤ A
    left p q (inl e) = omega (arith, e)
    left p q (inr t) = left_at p q t.0 t.1 t.2 (every_token (λ t. (t.span.end ≤ A) ⊎ (A ≤ t.span.start)) ts t.0 ca t.1)

    right_at : A ≤ g.start → g.end ≤ B → (t : Tok) → IsToken t ts → t.span.start ≡ g.after → (t.span.end ≤ B) ⊎ (B ≤ t.span.start) → B ≤ g.after
    right_at p q t i e (inr h) = omega (arith, e, h)
    right_at p q t i e (inl h) =
        let a = x.high in
        let b = x.to in
        let c = x.some in
        let w = (every_token (λ t. Within S E t ↔ Within A B t) ts t ex i).1 (omega (arith, e, a, b, c, p), h) in
        let m = every_token (λ t. t.span.start < t.span.end) ts t n i in
        absurd (omega (arith, w.1, e, a, m))

    right : A ≤ g.start → g.end ≤ B → (g.after ≡ length) ⊎ ((t : Tok) × IsToken t ts × (t.span.start ≡ g.after)) → B ≤ g.after
    right p q (inl e) = omega (arith, e, lb)
    right p q (inr t) = right_at p q t.0 t.1 t.2 (every_token (λ t. (t.span.end ≤ B) ⊎ (B ≤ t.span.start)) ts t.0 cb t.1)
