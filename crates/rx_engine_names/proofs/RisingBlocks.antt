-- Blocks in the order of the text begin further and further on: so one place has one way. By induction on the way.
use Rattle.std.proofs.Common.{◌≡◌, ℕ, zero, suc, ◌+◌, ◌≤◌, ◌<◌, arith, List, [], ◌∷◌, ◌++◌, Option, Some, None, slice_get, refl, sym, ap, ◌∙◌, subst}
use Rattle.rx_tree.specs.Plain.{Body}
use Rattle.rx_tree.specs.Spans.{body_span}
use Rattle.rx_tree.specs.Positions.{NodeTree, an_item, a_type, a_block, a_statement, an_expression, a_pattern, children, descend}
use Rattle.rx_tree.specs.Nodes.{below}
use Rattle.rx_tree.proofs.NodesLaws.{joined, below_is}
use Rattle.rx_select.proofs.Ways.{down}

-- ---- where blocks begin

abbrev pub start_of : NodeTree → List ℕ
start_of (an_item i) = []
start_of (a_type t) = []
start_of (a_block b) = (body_span b).start ∷ []
start_of (a_statement a) = []
start_of (an_expression e) = []
start_of (a_pattern p) = []

abbrev pub starts : List NodeTree → List ℕ
starts [] = []
starts (n ∷ ns) = start_of n ++ starts ns

pub append_apart : (xs ys zs : List ℕ) → (xs ++ ys) ++ zs ≡ xs ++ (ys ++ zs)
append_apart [] ys zs = refl
append_apart (x ∷ xs) ys zs = ap (λ l. x ∷ l) (append_apart xs ys zs)

pub starts_both : (xs ys : List NodeTree) → starts (xs ++ ys) ≡ starts xs ++ starts ys
starts_both [] ys = refl
starts_both (x ∷ xs) ys = ap (λ l. start_of x ++ l) (starts_both xs ys) ∙ sym (append_apart (start_of x) (starts xs) (starts ys))

-- ---- numbers that rise between two

abbrev pub Rising : ℕ → ℕ → List ℕ → Type 0
Rising low high [] = low ≤ high
Rising low high (x ∷ xs) = (low ≤ x) × Rising (x + 1) high xs

pub rising_is : (low high : ℕ) (xs : List ℕ) → Rising low high xs → low ≤ high
rising_is low high [] h = h
rising_is low high (x ∷ xs) h = let k = rising_is (x + 1) high xs h.1 in let j = h.0 in omega (arith, k, j)

pub rising_near : (low near high : ℕ) (xs : List ℕ) → near ≤ low → Rising low high xs → Rising near high xs
rising_near low near high [] e h = omega (arith, e, h)
rising_near low near high (x ∷ xs) e h = (let j = h.0 in omega (arith, e, j), h.1)

pub rising_far : (low high far : ℕ) (xs : List ℕ) → high ≤ far → Rising low high xs → Rising low far xs
rising_far low high far [] e h = omega (arith, e, h)
rising_far low high far (x ∷ xs) e h = (h.0, rising_far (x + 1) high far xs e h.1)

pub rising_both : (low mid high : ℕ) (xs ys : List ℕ) → Rising low mid xs → Rising mid high ys → Rising low high (xs ++ ys)
rising_both low mid high [] ys h k = rising_near mid low high ys h k
rising_both low mid high (x ∷ xs) ys h k = (h.0, rising_both (x + 1) mid high xs ys h.1 k)

pub record Split (low high : ℕ) (xs ys : List ℕ) : Type 0 where
  pub mid : ℕ
  pub front : Rising low mid xs
  pub back : Rising mid high ys

pub rising_split : (low high : ℕ) (xs ys : List ℕ) → Rising low high (xs ++ ys) → Split low high xs ys
rising_split low high [] ys h = record { mid = low; front = omega arith; back = h }
rising_split low high (x ∷ xs) ys h = let s = rising_split (x + 1) high xs ys h.1 in record { mid = s.mid; front = (h.0, s.front); back = s.back }

-- ---- a node among others, with all blocks in it

abbrev pub Rises : ℕ → ℕ → NodeTree → Type 0
Rises low high n = Rising low high (start_of n ++ starts (below n))

pub row_split : (low high : ℕ) (c : NodeTree) (cs : List NodeTree) → Rising low high (starts (joined (c ∷ cs))) → Split low high (start_of c ++ starts (below c)) (starts (joined cs))
row_split low high c cs h = rising_split low high (start_of c ++ starts (below c)) (starts (joined cs))
    (subst (Rising low high) (ap (λ l. start_of c ++ l) (starts_both (below c) (joined cs)) ∙ sym (append_apart (start_of c) (starts (below c)) (starts (joined cs)))) h)

-- a child's blocks rise between two in the row's
pub record Between (low high : ℕ) (c : NodeTree) : Type 0 where
  pub first : ℕ
  pub end : ℕ
  pub after : low ≤ first
  pub before : end ≤ high
  pub rises : Rises first end c

pub child_between : (low high : ℕ) (cs : List NodeTree) (k : ℕ) (c : NodeTree) → Rising low high (starts (joined cs)) → slice_get cs k ≡ Some c → Between low high c
child_between low high [] k c h e = absurd (cc)
child_between low high (x ∷ cs) zero c h e =
    let q : x ≡ c = cc in
    let s = row_split low high x cs h in
    record { first = low; end = s.mid; after = omega arith; before = rising_is s.mid high (starts (joined cs)) s.back; rises = subst (Rises low s.mid) q s.front }
child_between low high (x ∷ cs) (suc k) c h e =
    let s = row_split low high x cs h in
    let b = child_between s.mid high cs k c s.back e in
    let i = rising_is low s.mid (start_of x ++ starts (below x)) s.front in
    let j = b.after in
    record { first = b.first; end = b.end; after = omega (arith, i, j); before = b.before; rises = b.rises }

-- ---- the children of a node

pub below_rises : (low high : ℕ) (n : NodeTree) → Rises low high n → Rising low high (starts (joined (children n)))
below_rises low high n h =
    let s = rising_split low high (start_of n) (starts (below n)) h in
    let i = rising_is low s.mid (start_of n) s.front in
    subst (λ (l : List NodeTree). Rising low high (starts l)) (below_is n) (rising_near s.mid low high (starts (below n)) i s.back)

abbrev Begins : ℕ → ℕ → Body → Type 0
Begins low high b = (low ≤ (body_span b).start) × ((body_span b).start < high)

pub block_begins : (ks : List ℕ) (low high : ℕ) (n : NodeTree) (b : Body) → Rises low high n → descend (Some n) ks ≡ Some (a_block b) → Begins low high b
block_begins [] low high n b h e =
    let q : n ≡ a_block b = cc in
    by (subst (Rises low high) q h)
  where
    by : Rises low high (a_block b) → Begins low high b
    by h = let k = rising_is ((body_span b).start + 1) high (starts (below (a_block b))) h.1 in (h.0, omega (arith, k))
block_begins (k ∷ ks) low high n b h e = down (Begins low high b) n k ks b (λ c q d. by (child_between low high (children n) k c (below_rises low high n h) q) c d (λ l g r. block_begins ks l g c b r d)) e
  where
    by : {c : NodeTree} → Between low high c → (d : NodeTree) → descend (Some c) ks ≡ Some (a_block b) → ((l g : ℕ) → Rises l g c → Begins l g b) → Begins low high b
    by w d e f =
        let r = f w.first w.end w.rises in
        let i = w.after in
        let j = w.before in
        (let x = r.0 in omega (arith, i, x), let x = r.1 in omega (arith, j, x))

-- ---- one way

one_child : (low high : ℕ) (cs : List NodeTree) (k l : ℕ) (c d : NodeTree) (ks js : List ℕ) (b a : Body) → Rising low high (starts (joined cs)) → slice_get cs k ≡ Some c → slice_get cs l ≡ Some d
    → descend (Some c) ks ≡ Some (a_block b) → descend (Some d) js ≡ Some (a_block a) → (body_span b).start ≡ (body_span a).start → k ≡ l
one_child low high [] k l c d ks js b a h e f u v s = absurd (cc)
one_child low high (x ∷ cs) zero zero c d ks js b a h e f u v s = refl
one_child low high (x ∷ cs) zero (suc l) c d ks js b a h e f u v s =
    let q : x ≡ c = cc in
    let w = row_split low high x cs h in
    let z = child_between w.mid high cs l d w.back f in
    let i = (block_begins ks low w.mid c b (subst (Rises low w.mid) q w.front) u).1 in
    let j = (block_begins js z.first z.end d a z.rises v).0 in
    let t = z.after in
    absurd (omega (arith, i, j, t, s))
one_child low high (x ∷ cs) (suc k) zero c d ks js b a h e f u v s =
    let q : x ≡ d = cc in
    let w = row_split low high x cs h in
    let z = child_between w.mid high cs k c w.back e in
    let i = (block_begins js low w.mid d a (subst (Rises low w.mid) q w.front) v).1 in
    let j = (block_begins ks z.first z.end c b z.rises u).0 in
    let t = z.after in
    absurd (omega (arith, i, j, t, s))
one_child low high (x ∷ cs) (suc k) (suc l) c d ks js b a h e f u v s =
    let w = row_split low high x cs h in
    ap suc (one_child w.mid high cs k l c d ks js b a w.back e f u v s)

not_below : (low high : ℕ) (n : NodeTree) (b a : Body) (k : ℕ) (ks : List ℕ) → Rises low high n → n ≡ a_block b → descend (Some n) (k ∷ ks) ≡ Some (a_block a) → (body_span b).start ≡ (body_span a).start → ⊥
not_below low high n b a k ks h q e s = down ⊥ n k ks a by e
  where
    row : Rising ((body_span b).start + 1) high (starts (joined (children n)))
    row = subst (λ (l : List NodeTree). Rising ((body_span b).start + 1) high (starts l)) (below_is n)
        (subst (λ (m : NodeTree). Rising ((body_span b).start + 1) high (starts (below m))) (sym q) ((subst (Rises low high) q h).1))

    by : (c : NodeTree) → slice_get (children n) k ≡ Some c → descend (Some c) ks ≡ Some (a_block a) → ⊥
    by c f d =
        let z = child_between ((body_span b).start + 1) high (children n) k c row f in
        let j = (block_begins ks z.first z.end c a z.rises d).0 in
        let t = z.after in
        absurd (omega (arith, j, t, s))

pub one_way : (ks js : List ℕ) (low high : ℕ) (n : NodeTree) (b a : Body) → Rises low high n → descend (Some n) ks ≡ Some (a_block b) → descend (Some n) js ≡ Some (a_block a)
    → (body_span b).start ≡ (body_span a).start → ks ≡ js
one_way [] [] low high n b a h e f s = refl
one_way [] (j ∷ js) low high n b a h e f s = absurd (not_below low high n b a j js h (cc) f s)
one_way (k ∷ ks) [] low high n b a h e f s = absurd (not_below low high n a b k ks h (cc) e (sym s))
one_way (k ∷ ks) (j ∷ js) low high n b a h e f s =
    down (k ∷ ks ≡ j ∷ js) n k ks b (λ c u v. down (k ∷ ks ≡ j ∷ js) n j js a (λ d x y. by c d u v x y (λ l g r w. one_way ks js l g c b a r v w s)) f) e
  where
    by : (c d : NodeTree) → slice_get (children n) k ≡ Some c → descend (Some c) ks ≡ Some (a_block b) → slice_get (children n) j ≡ Some d → descend (Some d) js ≡ Some (a_block a)
        → ((l g : ℕ) → Rises l g c → descend (Some c) js ≡ Some (a_block a) → ks ≡ js) → k ∷ ks ≡ j ∷ js
    by c d u v x y on =
        let row = below_rises low high n h in
        let p : k ≡ j = one_child low high (children n) k j c d ks js b a row u x v y s in
        let t : slice_get (children n) k ≡ Some d = subst (λ i. slice_get (children n) i ≡ Some d) (sym p) x in
        let o : d ≡ c = cc in
        let z = child_between low high (children n) k c row u in
        ap (λ i. i ∷ ks) p ∙ ap (λ l. j ∷ l) (on z.first z.end z.rises (subst (λ m. descend (Some m) js ≡ Some (a_block a)) o y))
