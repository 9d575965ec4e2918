-- Ways in a part of the text, and how many nodes stand in front of where they end: each number has a way, and one.
use Rattle.std.proofs.Common.{◌≡◌, ℕ, zero, suc, ◌+◌, ◌-◌, ◌<◌, ◌≤◌, List, [], ◌∷◌, ◌++◌, length, take, Option, Some, None, slice_get, refl, sym, ap, subst, ◌∙◌, ◌⊎◌, inl, inr, arith, length-append}
use Rattle.std.proofs.lemmas.Bool.{cases_lt, cases_order}
use Rattle.std.proofs.lemmas.Option.{slice_get_within}
use Rattle.rx_tree.specs.Positions.{NodeTree, children, descend}
use Rattle.rx_tree.specs.Nodes.{below}
use Rattle.rx_hoist_nodes.specs.Nodes.{within, within_all, in_front}
use Rattle.rx_hoist_nodes.proofs.Within.{below_is, less_below}
use Rattle.rx_hoist_numbers.specs.Counting.{WayTo}

same_node : (m n : NodeTree) → ◌≡◌ {A = Option NodeTree} (Some m) (Some n) → m ≡ n
same_node m n e = cc

-- ---- lists

in_left : {A : Type 0} (xs ys : List A) (k : ℕ) (m : A) → slice_get xs k ≡ Some m → slice_get (xs ++ ys) k ≡ Some m
in_left [] ys k m e = absurd (cc)
in_left (x ∷ xs) ys zero m e = e
in_left (x ∷ xs) ys (suc k) m e = in_left xs ys k m e

in_right : {A : Type 0} (xs ys : List A) (k n : ℕ) (m : A) → n ≡ length xs + k → slice_get ys k ≡ Some m → slice_get (xs ++ ys) n ≡ Some m
in_right [] ys k n m h e = let same : n ≡ k = omega (arith, h) in subst (λ (i : ℕ). slice_get ys i ≡ Some m) (sym same) e
in_right (x ∷ xs) ys k zero m h e = absurd (omega (arith, h))
in_right (x ∷ xs) ys k (suc n) m h e = in_right xs ys k n m (omega (arith, h)) e

-- ---- rows

-- a node of a row's node, among all of the row
in_row : (ns : List NodeTree) (k j : ℕ) (c m : NodeTree) → slice_get ns k ≡ Some c → slice_get (within c) j ≡ Some m
    → slice_get (within_all ns) (length (within_all (take k ns)) + j) ≡ Some m
in_row [] k j c m e h = absurd (cc)
in_row (x ∷ ns) zero j c m e h =
    let same : x ≡ c = same_node x c e in
    let at : slice_get (within x) j ≡ Some m = subst (λ (y : NodeTree). slice_get (within y) j ≡ Some m) (sym same) h in
    let front : j ≡ 0 + j = omega arith in
    subst (λ (i : ℕ). slice_get (within x ++ within_all ns) i ≡ Some m) front (in_left (within x) (within_all ns) j m at)
in_row (x ∷ ns) (suc k) j c m e h =
    let l = length-append (within x) (within_all (take k ns)) in
    in_right (within x) (within_all ns) (length (within_all (take k ns)) + j) _ m (omega (arith, l)) (in_row ns k j c m e h)

-- further on in a row there are as many more as below what was passed
take_more : (ns : List NodeTree) (k l : ℕ) (c : NodeTree) → slice_get ns k ≡ Some c → k < l → length (within_all (take k ns)) + length (within c) ≤ length (within_all (take l ns))
take_more [] k l c e h = absurd (cc)
take_more (x ∷ ns) k zero c e h = absurd (omega (arith, h))
take_more (x ∷ ns) zero (suc l) c e h =
    let same : x ≡ c = same_node x c e in
    let a = length-append (within x) (within_all (take l ns)) in
    subst (λ (y : NodeTree). 0 + length (within y) ≤ length (within x ++ within_all (take l ns))) same (omega (arith, a))
take_more (x ∷ ns) (suc k) (suc l) c e h =
    let r = take_more ns k l c e (omega (arith, h)) in
    let a = length-append (within x) (within_all (take k ns)) in
    let b = length-append (within x) (within_all (take l ns)) in
    omega (arith, r, a, b)

record InRow (ns : List NodeTree) (k : ℕ) : Type 0 where
  place : ℕ
  child : NodeTree
  is : slice_get ns place ≡ Some child
  rest : ℕ
  less : rest < length (within child)
  number : length (within_all (take place ns)) + rest ≡ k

in_some : (ns : List NodeTree) (k : ℕ) → k < length (within_all ns) → InRow ns k
in_some [] k h = absurd (omega (arith, h))
in_some (x ∷ ns) k h = by (cases_lt k (length (within x))) (λ l. in_some ns (k - length (within x)) (let a = length-append (within x) (within_all ns) in omega (arith, a, h, l)))
  where
    by : (k < length (within x)) ⊎ (length (within x) ≤ k) → (length (within x) ≤ k → InRow ns (k - length (within x))) → InRow (x ∷ ns) k
    by (inl l) later = record { place = 0; child = x; is = refl; rest = k; less = l; number = omega arith }
    by (inr l) later =
        let r = later l in
        let n = r.number in
        let b = length-append (within x) (within_all (take r.place ns)) in
        record { place = suc r.place; child = r.child; is = r.is; rest = r.rest; less = r.less; number = omega (arith, n, b, l) }

-- ---- the node at the end of a way

pub ends_at : (n : NodeTree) (ks : List ℕ) (m : NodeTree) → descend (Some n) ks ≡ Some m → slice_get (within n) (length (in_front (Some n) ks)) ≡ Some m
ends_at n [] m e = e
ends_at n (k ∷ ks) m e = by (slice_get (children n) k) refl e (λ c d. ends_at c ks m d)
  where
    by : (o : Option NodeTree) → slice_get (children n) k ≡ o → descend o ks ≡ Some m
        → ((c : NodeTree) → descend (Some c) ks ≡ Some m → slice_get (within c) (length (in_front (Some c) ks)) ≡ Some m)
        → slice_get (within n) (suc (length (within_all (take k (children n)) ++ in_front (slice_get (children n) k) ks))) ≡ Some m
    by None s d each = absurd (cc)
    by (Some c) s d each =
        let front = within_all (take k (children n)) in
        let a = length-append front (in_front (Some c) ks) in
        let h = in_row (children n) k (length (in_front (Some c) ks)) c m s (each c d) in
        let g : slice_get (within_all (children n)) (length (front ++ in_front (Some c) ks)) ≡ Some m =
        subst (λ (i : ℕ). slice_get (within_all (children n)) i ≡ Some m) (sym a) h in
        subst (λ (l : List NodeTree). slice_get l (length (front ++ in_front (slice_get (children n) k) ks)) ≡ Some m) (sym (below_is n))
        (subst (λ (o : Option NodeTree). slice_get (within_all (children n)) (length (front ++ in_front o ks)) ≡ Some m) (sym s) g)

-- so many stand in front that there is one more
ends_within : (n : NodeTree) (ks : List ℕ) (m : NodeTree) → descend (Some n) ks ≡ Some m → length (in_front (Some n) ks) < length (within n)
ends_within n ks m e = slice_get_within (within n) _ m (ends_at n ks m e)

-- ---- each number has a way

way_in : (fuel : ℕ) (n : NodeTree) (k : ℕ) → length (below n) < fuel → k < length (within n) → WayTo n k
way_in zero n k f h = absurd (omega (arith, f))
way_in (suc fuel) n zero f h = record { way = []; node = n; leads = refl; number = refl }
way_in (suc fuel) n (suc k) f h =
    let e = ap (λ (l : List NodeTree). length l) (below_is n) in
    let r = in_some (children n) k (omega (arith, h, e)) in
    let less = less_below n r.child r.place r.is in
    let w = way_in fuel r.child r.rest (omega (arith, f, less)) r.less in
    let front = within_all (take r.place (children n)) in
    let a = length-append front (in_front (Some r.child) w.way) in
    let x = w.number in
    let y = r.number in
    let z : suc (length (front ++ in_front (Some r.child) w.way)) ≡ suc k = omega (arith, a, x, y) in
    record {
      way = r.place ∷ w.way;
      node = w.node;
      leads = subst (λ (o : Option NodeTree). descend o w.way ≡ Some w.node) (sym r.is) w.leads;
      number = subst (λ (o : Option NodeTree). suc (length (front ++ in_front o w.way)) ≡ suc k) (sym r.is) z;
    }

pub has_way : (n : NodeTree) (k : ℕ) → k < length (within n) → WayTo n k
has_way n k h = way_in (suc (length (below n))) n k (omega arith) h

-- ---- and one

-- two ways that part at their first step end at nodes of different numbers
apart : (ns : List NodeTree) (i j : ℕ) (is js : List ℕ) (c d x : NodeTree) → slice_get ns i ≡ Some c → descend (Some c) is ≡ Some x → i < j
    → length (within_all (take i ns) ++ in_front (Some c) is) ≡ length (within_all (take j ns) ++ in_front (Some d) js) → ⊥
apart ns i j is js c d x s g less same =
    let p = length-append (within_all (take i ns)) (in_front (Some c) is) in
    let q = length-append (within_all (take j ns)) (in_front (Some d) js) in
    let t = take_more ns i j c s less in
    let w = ends_within c is x g in
    omega (arith, p, q, t, w, same)

first_step : (ns : List NodeTree) (k l : ℕ) (ks ls : List ℕ) (c d a b : NodeTree) → slice_get ns k ≡ Some c → slice_get ns l ≡ Some d
    → descend (Some c) ks ≡ Some a → descend (Some d) ls ≡ Some b
    → length (within_all (take k ns) ++ in_front (Some c) ks) ≡ length (within_all (take l ns) ++ in_front (Some d) ls)
    → ((c : NodeTree) → descend (Some c) ks ≡ Some a → descend (Some c) ls ≡ Some b → length (in_front (Some c) ks) ≡ length (in_front (Some c) ls) → ks ≡ ls)
    → ◌≡◌ {A = List ℕ} (k ∷ ks) (l ∷ ls)
first_step ns k l ks ls c d a b s t g u same each = by (cases_order k l)
  where
    by : (k ≡ l) ⊎ ((k < l) ⊎ (l < k)) → ◌≡◌ {A = List ℕ} (k ∷ ks) (l ∷ ls)
    by (inl e) =
        let one : c ≡ d = same_node c d (sym s ∙ ap (λ (i : ℕ). slice_get ns i) e ∙ t) in
        let p = length-append (within_all (take k ns)) (in_front (Some c) ks) in
        let q = length-append (within_all (take l ns)) (in_front (Some d) ls) in
        let f = ap (λ (i : ℕ). length (within_all (take i ns))) e in
        let x : length (in_front (Some c) ks) ≡ length (in_front (Some d) ls) = omega (arith, p, q, f, same) in
        let rest = each c g (subst (λ (y : NodeTree). descend (Some y) ls ≡ Some b) (sym one) u)
        (subst (λ (y : NodeTree). length (in_front (Some c) ks) ≡ length (in_front (Some y) ls)) (sym one) x) in
        cc
    by (inr (inl h)) = absurd (apart ns k l ks ls c d a s g h same)
    by (inr (inr h)) = absurd (apart ns l k ls ks d c b t u h (sym same))

pub one_way : (n : NodeTree) (ks ls : List ℕ) (a b : NodeTree) → descend (Some n) ks ≡ Some a → descend (Some n) ls ≡ Some b
    → length (in_front (Some n) ks) ≡ length (in_front (Some n) ls) → ks ≡ ls
one_way n [] [] a b e f h = refl
one_way n [] (l ∷ ls) a b e f h = absurd (omega (arith, h))
one_way n (k ∷ ks) [] a b e f h = absurd (omega (arith, h))
one_way n (k ∷ ks) (l ∷ ls) a b e f h =
    by (slice_get (children n) k) refl e (slice_get (children n) l) refl f (omega (arith, h)) (λ c g u same. one_way c ks ls a b g u same)
  where
    by : (o : Option NodeTree) → slice_get (children n) k ≡ o → descend o ks ≡ Some a → (p : Option NodeTree) → slice_get (children n) l ≡ p → descend p ls ≡ Some b
        → length (within_all (take k (children n)) ++ in_front (slice_get (children n) k) ks) ≡ length (within_all (take l (children n)) ++ in_front (slice_get (children n) l) ls)
        → ((c : NodeTree) → descend (Some c) ks ≡ Some a → descend (Some c) ls ≡ Some b → length (in_front (Some c) ks) ≡ length (in_front (Some c) ls) → ks ≡ ls)
        → ◌≡◌ {A = List ℕ} (k ∷ ks) (l ∷ ls)
    by None s g p t u same each = absurd (cc)
    by (Some c) s g None t u same each = absurd (cc)
    by (Some c) s g (Some d) t u same each =
        let front = λ (i : ℕ) (o : Option NodeTree) (is : List ℕ). length (within_all (take i (children n)) ++ in_front o is) in
        first_step (children n) k l ks ls c d a b s t g u
        (sym (ap (λ (o : Option NodeTree). front k o ks) s) ∙ same ∙ ap (λ (o : Option NodeTree). front l o ls) t) each
