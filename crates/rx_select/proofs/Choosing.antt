-- Which statements of a block a range selects: in a block whose statements stand in order, each with a token, they are told by their tokens.
use Rattle.std.proofs.Common.{◌≡◌, ℕ, zero, suc, ◌+◌, ◌-◌, ◌≤◌, ◌<◌, List, [], ◌∷◌, Some, map, refl, sym, ◌∙◌, subst, arith, slice_get}
use Rattle.std.proofs.Common.{inl, inr}
use Rattle.std.specs.Prelude.{◌⊎◌, ◌↔◌}
use Rattle.rx_core.specs.declared.types.Span.{Span}
use Rattle.rx_tree.specs.Plain.{Body}
use Rattle.rx_tree.specs.Lists.{nth, Every}
use Rattle.rx_tree.specs.Spans.{body_span, node_span}
use Rattle.rx_tree.specs.Positions.{NodeTree, block_children}
use Rattle.rx_lex.specs.Tok.{Tok}
use Rattle.rx_select.specs.Selected.{Within, IsToken, FirstToLast}
use Rattle.rx_select.specs.Parts.{parts_of}
use Rattle.rx_select.proofs.Tokens.{every_token}
use Rattle.rx_select.proofs.Rows.{InOrder, Part, Each, Parted}

-- each token has bytes
abbrev pub Long : List Tok → Type 0
Long ts = Every (λ t. t.span.start < t.span.end) ts

-- ---- lists

pub every_at : {A : Type 0} (P : A → Type 0) (l : List A) (k : ℕ) (a : A) → Every P l → nth l k ≡ Some a → P a
every_at P [] k a h e = absurd (cc)
every_at P (x ∷ l) zero a h e = let q : x ≡ a = cc in subst P q h.0
every_at P (x ∷ l) (suc k) a h e = every_at P l k a h.1 e

pub same_at : {A : Type 0} (l : List A) (k : ℕ) (a b : A) → nth l k ≡ Some a → nth l k ≡ Some b → a ≡ b
same_at l k a b e f = let q = sym e ∙ f in cc

pub each_at : (cs : List NodeTree) (ps : List Span) (k : ℕ) (c : NodeTree) → Each (map node_span cs) ps → slice_get cs k ≡ Some c
    → (s : Span) × (nth ps k ≡ Some s) × (s.start ≤ (node_span c).start) × ((node_span c).end ≤ s.end)
each_at [] ps k c h e = absurd (cc)
each_at (x ∷ cs) [] k c h e = absurd h
each_at (x ∷ cs) (s ∷ ps) zero c h e =
    let q : x ≡ c = cc in
    let P : NodeTree → Type 0 = λ n. (s.start ≤ (node_span n).start) × ((node_span n).end ≤ s.end) in
    let r = subst P q (h.0, h.1) in
    (s, refl, r.0, r.1)
each_at (x ∷ cs) (s ∷ ps) (suc k) c h e = each_at cs ps k c h.2 e

-- ---- spans in order

pub after : (from to : ℕ) (ss : List Span) (k : ℕ) (a : Span) → InOrder from to ss → nth ss k ≡ Some a → (from ≤ a.start) × (a.start < a.end)
after from to [] k a o e = absurd (cc)
after from to (c ∷ ss) zero a o e =
    let P : Span → Type 0 = λ d. (from ≤ d.start) × (d.start < d.end) in
    let q : c ≡ a = cc in subst P q (o.0, o.1)
after from to (c ∷ ss) (suc k) a o e = let h = after c.end to ss k a o.2 e in (omega (arith, h.0, o.0, o.1), h.1)

order_bounds : (from to : ℕ) (ss : List Span) → InOrder from to ss → from ≤ to
order_bounds from to [] o = o
order_bounds from to (c ∷ ss) o = let h = order_bounds c.end to ss o.2 in let a = o.0 in let b = o.1 in omega (arith, h, a, b)

pub before : (from to : ℕ) (ss : List Span) (k : ℕ) (a : Span) → InOrder from to ss → nth ss k ≡ Some a → a.end ≤ to
before from to [] k a o e = absurd (cc)
before from to (c ∷ ss) zero a o e =
    let q : c ≡ a = cc in subst (λ (d : Span). d.end ≤ to) q (order_bounds c.end to ss o.2)
before from to (c ∷ ss) (suc k) a o e = before c.end to ss k a o.2 e

pub apart : (from to : ℕ) (ss : List Span) (i j : ℕ) (a b : Span) → InOrder from to ss → nth ss i ≡ Some a → nth ss j ≡ Some b → i < j → a.end ≤ b.start
apart from to [] i j a b o e f h = absurd (cc)
apart from to (c ∷ ss) zero zero a b o e f h = absurd (omega (arith, h))
apart from to (c ∷ ss) zero (suc j) a b o e f h =
    let g = after c.end to ss j b o.2 f in
    let q : c ≡ a = cc in subst (λ (d : Span). d.end ≤ b.start) q g.0
apart from to (c ∷ ss) (suc i) zero a b o e f h = absurd (omega (arith, h))
apart from to (c ∷ ss) (suc i) (suc j) a b o e f h = apart c.end to ss i j a b o.2 e f (omega (arith, h))

pub le_or_lt : (m n : ℕ) → (m ≤ n) ⊎ (n < m)
le_or_lt zero n = inl (omega arith)
le_or_lt (suc m) zero = inr (omega arith)
le_or_lt (suc m) (suc n) = by (le_or_lt m n)
  where
    by : (m ≤ n) ⊎ (n < m) → (suc m ≤ suc n) ⊎ (suc n < suc m)
    by (inl h) = inl (omega (arith, h))
    by (inr h) = inr (omega (arith, h))

pub between : (from to : ℕ) (ss : List Span) (i j : ℕ) (a b : Span) → InOrder from to ss → nth ss i ≡ Some a → nth ss j ≡ Some b → i ≤ j → (a.start ≤ b.start) × (a.end ≤ b.end)
between from to ss i j a b o e f h = by (le_or_lt j i)
  where
    by : (j ≤ i) ⊎ (i < j) → (a.start ≤ b.start) × (a.end ≤ b.end)
    by (inl k) =
        let q : j ≡ i = omega (arith, h, k) in
        let s : a ≡ b = same_at ss i a b e (subst (λ n. nth ss n ≡ Some b) q f) in
        subst (λ (d : Span). (a.start ≤ d.start) × (a.end ≤ d.end)) s (omega arith, omega arith)
    by (inr k) =
        let g = apart from to ss i j a b o e f k in
        let x = after from to ss i a o e in
        let y = after from to ss j b o f in
        (omega (arith, g, x.1), omega (arith, g, y.1))

-- ---- the statements that a range selects

pub record Chosen (ts : List Tok) (S E : ℕ) (ps : List Span) (i j : ℕ) : Type 0 where
  pub a : Span
  pub b : Span
  pub first : nth ps i ≡ Some a
  pub last : nth ps j ≡ Some b
  pub forward : i ≤ j
  pub exactly : Every (λ t. Within S E t ↔ Within a.start b.end t) ts

-- the selected tokens, from the first to the last, have bytes
pub spans_long : (ts : List Tok) (S E : ℕ) (w : Span) → Long ts → FirstToLast S E ts w → w.start < w.end
spans_long ts S E w l f =
    let h = every_token (λ t. t.span.start < t.span.end) ts f.first l f.first_is in
    let k = every_token (λ t. Within S E t → Within w.start w.end t) ts f.first f.all f.first_is f.first_selected in
    omega (arith, h, k.0, k.1)

-- and stand between the ends of the statements
pub chosen_around : (ts : List Tok) (S E : ℕ) (ps : List Span) (i j : ℕ) (w : Span) → FirstToLast S E ts w → (x : Chosen ts S E ps i j) → (x.a.start ≤ w.start) × (w.end ≤ x.b.end)
chosen_around ts S E ps i j w f x =
    let P : Tok → Type 0 = λ t. Within S E t ↔ Within x.a.start x.b.end t in
    let h = (every_token P ts f.first x.exactly f.first_is).0 f.first_selected in
    let k = (every_token P ts f.last x.exactly f.last_is).0 f.last_selected in
    let b = f.begins in
    let e = f.ends in
    (omega (arith, h.0, b), omega (arith, k.1, e))

pub chosen_within : (ts : List Tok) (S E : ℕ) (from to : ℕ) (ps : List Span) (i j : ℕ) (w : Span) → FirstToLast S E ts w → InOrder from to ps → Chosen ts S E ps i j → (from ≤ w.start) × (w.end ≤ to)
chosen_within ts S E from to ps i j w f o x =
    let h = chosen_around ts S E ps i j w f x in
    let a = after from to ps i x.a o x.first in
    let b = before from to ps j x.b o x.last in
    (omega (arith, h.0, a.0), omega (arith, h.1, b))

-- an earlier first statement would have its tokens selected too
not_earlier : (ts : List Tok) (S E : ℕ) (from to : ℕ) (ps : List Span) (i j k l : ℕ) → Long ts → InOrder from to ps → Every (Part ts) ps → Chosen ts S E ps i j → Chosen ts S E ps k l → i < k → ⊥
not_earlier ts S E from to ps i j k l n o p x y h =
    let c = every_at (Part ts) ps i x.a p x.first in
    let g = apart from to ps i k x.a y.a o x.first y.first h in
    let v = between from to ps i j x.a x.b o x.first x.last x.forward in
    let w = c.within in
    let s = (every_token (λ t. Within S E t ↔ Within x.a.start x.b.end t) ts c.token x.exactly c.is).1 (w.0, omega (arith, w.1, v.1)) in
    let u = (every_token (λ t. Within S E t ↔ Within y.a.start y.b.end t) ts c.token y.exactly c.is).0 s in
    let m = every_token (λ t. t.span.start < t.span.end) ts c.token n c.is in
    omega (arith, u.0, w.1, g, m)

not_later : (ts : List Tok) (S E : ℕ) (from to : ℕ) (ps : List Span) (i j k l : ℕ) → Long ts → InOrder from to ps → Every (Part ts) ps → Chosen ts S E ps i j → Chosen ts S E ps k l → l < j → ⊥
not_later ts S E from to ps i j k l n o p x y h =
    let c = every_at (Part ts) ps j x.b p x.last in
    let g = apart from to ps l j y.b x.b o y.last x.last h in
    let v = between from to ps i j x.a x.b o x.first x.last x.forward in
    let w = c.within in
    let s = (every_token (λ t. Within S E t ↔ Within x.a.start x.b.end t) ts c.token x.exactly c.is).1 (omega (arith, w.0, v.0), w.1) in
    let u = (every_token (λ t. Within S E t ↔ Within y.a.start y.b.end t) ts c.token y.exactly c.is).0 s in
    let m = every_token (λ t. t.span.start < t.span.end) ts c.token n c.is in
    omega (arith, u.1, w.0, g, m)

pub chosen_one : (ts : List Tok) (S E : ℕ) (from to : ℕ) (ps : List Span) (i j k l : ℕ) → Long ts → InOrder from to ps → Every (Part ts) ps → Chosen ts S E ps i j → Chosen ts S E ps k l
    → (i ≡ k) × (j ≡ l)
chosen_one ts S E from to ps i j k l n o p x y = (by (le_or_lt i k) (le_or_lt k i), of (le_or_lt j l) (le_or_lt l j))
  where
    by : (i ≤ k) ⊎ (k < i) → (k ≤ i) ⊎ (i < k) → i ≡ k
    by (inl a) (inl b) = omega (arith, a, b)
    by (inr a) b = absurd (not_earlier ts S E from to ps k l i j n o p y x a)
    by (inl a) (inr b) = absurd (not_earlier ts S E from to ps i j k l n o p x y b)

    of : (j ≤ l) ⊎ (l < j) → (l ≤ j) ⊎ (j < l) → j ≡ l
    of (inl a) (inl b) = omega (arith, a, b)
    of (inr a) b = absurd (not_later ts S E from to ps i j k l n o p x y a)
    of (inl a) (inr b) = absurd (not_later ts S E from to ps k l i j n o p y x b)

-- where a child of the block holds all that is selected, and a token in front of that is in this child, the block's own statements
-- aren't selected: that token would be
pub not_around : (ts : List Tok) (S E : ℕ) (w : Span) (b : Body) (i j k : ℕ) (c : NodeTree) (t : Tok) → Long ts → FirstToLast S E ts w → Parted ts b → Chosen ts S E (parts_of b) i j
    → slice_get (block_children b) k ≡ Some c → w.end ≤ (node_span c).end → IsToken t ts → (node_span c).start ≤ t.span.start → t.span.end ≤ w.start → ⊥
not_around ts S E w b i j k c t n f p x e h it u v =
    let s = each_at (block_children b) (parts_of b) k c p.each e in
    let g = chosen_around ts S E (parts_of b) i j w f x in
    let m = spans_long ts S E w n f in
    by s.0 s.1 s.2 s.3 g m (le_or_lt i k)
  where
    by : (s : Span) → nth (parts_of b) k ≡ Some s → s.start ≤ (node_span c).start → (node_span c).end ≤ s.end → (x.a.start ≤ w.start) × (w.end ≤ x.b.end) → w.start < w.end → (i ≤ k) ⊎ (k < i) → ⊥
    by s q y z g m (inr l) =
        let r = apart ((body_span b).start + 1) ((body_span b).end - 1) (parts_of b) k i s x.a p.ordered q x.first l in
        omega (arith, r, g.0, h, z, m)
    by s q y z g m (inl l) =
        let r = between ((body_span b).start + 1) ((body_span b).end - 1) (parts_of b) i k x.a s p.ordered x.first q l in
        let o = (every_token (λ t. Within S E t ↔ Within x.a.start x.b.end t) ts t x.exactly it).1 (omega (arith, r.0, y, u), omega (arith, v, m, g.1)) in
        let a = every_token (λ t. Within S E t → Within w.start w.end t) ts t f.all it o in
        let d = every_token (λ t. t.span.start < t.span.end) ts t n it in
        omega (arith, a.0, v, d)
