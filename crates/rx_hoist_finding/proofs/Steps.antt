-- Steps of a walk over the children of a node, and along a way: what is there so far, and what a step adds.
use Rattle.std.proofs.Common.{◌≡◌, ℕ, zero, suc, ◌+◌, ◌<◌, ◌≤◌, List, [], ◌∷◌, ◌++◌, length, map, take, Option, Some, None, slice_get, drop, option_map, refl, sym, ap, ◌∙◌, append_assoc, append-nil, add-one, arith, length-append}
use Rattle.std.proofs.lemmas.List.{length-map, take_all, length-take-le, drop_more, drop_all}
use Rattle.std.proofs.lemmas.Option.{slice_get-map}
use Rattle.rx_tree.specs.declared.tree.Item.{Item}
use Rattle.rx_tree.specs.PlainOf.{plain-Item}
use Rattle.rx_tree.specs.Positions.{NodeTree, an_item, children, descend}
use Rattle.rx_tree.specs.Nodes.{below}
use Rattle.rx_tree_operations.specs.declared.positions.Node.{Node}
use Rattle.rx_tree_operations.specs.NodeOf.{plain-Node}
use Rattle.rx_hoist_nodes.specs.Nodes.{within, within_all, in_front}
use Rattle.rx_hoist_nodes.proofs.Within.{below_is, one_more, at_least}

-- ---- a node behind others

pub pushed : (ns : List Node) (n : Node) → map plain-Node (ns ++ n ∷ []) ≡ map plain-Node ns ++ (plain-Node n ∷ [])
pushed [] n = refl
pushed (m ∷ ns) n = ap (λ l. plain-Node m ∷ l) (pushed ns n)

-- ---- children

-- so many children, and one more
pub child_more : (n c : NodeTree) (old now later : List NodeTree) (k : ℕ) → now ≡ old ++ (n ∷ within_all (take k (children n))) → Some c ≡ slice_get (children n) k → later ≡ now ++ within c
    → later ≡ old ++ (n ∷ within_all (take (k + 1) (children n)))
child_more n c old now later k e s l =
    l ∙ ap (λ x. x ++ within c) e ∙ append_assoc old (n ∷ within_all (take k (children n))) (within c)
    ∙ ap (λ x. old ++ (n ∷ x)) (sym (one_more (children n) k c (sym s)) ∙ ap (λ m. within_all (take m (children n))) (sym (add-one k)))

-- none is left
past_all : {A : Type 0} (xs : List A) (k : ℕ) → None ≡ slice_get xs k → length xs ≤ k
past_all [] k e = omega arith
past_all (x ∷ xs) zero e = absurd (cc)
past_all (x ∷ xs) (suc k) e = let h = past_all xs k e in omega (arith, h)

within_past : {A : Type 0} (xs : List A) (k : ℕ) (x : A) → Some x ≡ slice_get xs k → k + 1 ≤ length xs
within_past [] k x e = absurd (cc)
within_past (y ∷ xs) zero x e = omega arith
within_past (y ∷ xs) (suc k) x e = let h = within_past xs k x e in omega (arith, h)

pub child_within : (n c : NodeTree) (k : ℕ) → Some c ≡ slice_get (children n) k → k + 1 ≤ length (children n)
child_within n c k e = within_past (children n) k c e

pub children_done : (n : NodeTree) (old now : List NodeTree) (k : ℕ) → now ≡ old ++ (n ∷ within_all (take k (children n))) → None ≡ slice_get (children n) k → now ≡ old ++ within n
children_done n old now k e s =
    e ∙ ap (λ x. old ++ (n ∷ x)) (ap within_all (take_all k (children n) (past_all (children n) k s)) ∙ sym (below_is n))

-- a list cannot hold so many
pub too_many : (n : NodeTree) (old : List NodeTree) (all : List Node) (k : ℕ) → map plain-Node all ≡ old ++ (n ∷ within_all (take k (children n))) → k ≤ length (children n) → k + 1 ≤ length all
too_many n old all k e h =
    let a = length-map all plain-Node in
    let b = ap (λ (l : List NodeTree). length l) e in
    let d = length-append old (n ∷ within_all (take k (children n))) in
    let f = at_least (take k (children n)) in
    let g = length-take-le k (children n) h in
    omega (arith, a, b, d, f, g)

-- where no child of a number is left, all up to a later number are there
pub children_past : (n : NodeTree) (old now : List NodeTree) (k m : ℕ) → now ≡ old ++ (n ∷ within_all (take k (children n))) → None ≡ slice_get (children n) k → k ≤ m
    → now ≡ old ++ (n ∷ within_all (take m (children n)))
children_past n old now k m e s l =
    let long = past_all (children n) k s in
    e ∙ ap (λ x. old ++ (n ∷ within_all x)) (take_all k (children n) long ∙ sym (take_all m (children n) (omega (arith, long, l))))

-- ---- a way

-- one step more
pub way_goes : (n c : NodeTree) (old now : List NodeTree) (k : ℕ) (ks : List ℕ) (whole : List NodeTree) → old ++ in_front (Some n) (k ∷ ks) ≡ whole
    → now ≡ old ++ (n ∷ within_all (take k (children n))) → Some c ≡ slice_get (children n) k → now ++ in_front (Some c) ks ≡ whole
way_goes n c old now k ks whole e m s =
    ap (λ x. x ++ in_front (Some c) ks) m ∙ append_assoc old (n ∷ within_all (take k (children n))) (in_front (Some c) ks)
    ∙ ap (λ (o : Option NodeTree). old ++ (n ∷ (within_all (take k (children n)) ++ in_front o ks))) s ∙ e

pub way_leads : (n c : NodeTree) (k : ℕ) (ks : List ℕ) (whole : Option NodeTree) → descend (Some n) (k ∷ ks) ≡ whole → Some c ≡ slice_get (children n) k → descend (Some c) ks ≡ whole
way_leads n c k ks whole e s = ap (λ (o : Option NodeTree). descend o ks) s ∙ e

-- it leads nowhere
pub way_stops : (n : NodeTree) (old now : List NodeTree) (k : ℕ) (ks : List ℕ) (whole : List NodeTree) → old ++ in_front (Some n) (k ∷ ks) ≡ whole
    → now ≡ old ++ (n ∷ within_all (take k (children n))) → None ≡ slice_get (children n) k → now ≡ whole
way_stops n old now k ks whole e m s =
    m ∙ ap (λ x. old ++ (n ∷ x)) (sym (append-nil (within_all (take k (children n)))))
    ∙ ap (λ (o : Option NodeTree). old ++ (n ∷ (within_all (take k (children n)) ++ in_front o ks))) s ∙ e

pub way_misses : (n : NodeTree) (k : ℕ) (ks : List ℕ) (whole : Option NodeTree) → descend (Some n) (k ∷ ks) ≡ whole → None ≡ slice_get (children n) k → None ≡ whole
way_misses n k ks whole e s = ap (λ (o : Option NodeTree). descend o ks) s ∙ e

-- as many nodes
pub as_many : (all : List Node) (ns : List NodeTree) → map plain-Node all ≡ ns → length all ≡ length ns
as_many all ns e = sym (length-map all plain-Node) ∙ ap (λ (l : List NodeTree). length l) e

-- the item of a number
pub item_at : (items : List Item) (i : ℕ) → slice_get (map an_item (map plain-Item items)) i ≡ option_map (λ (x : Item). an_item (plain-Item x)) (slice_get items i)
item_at items i = slice_get-map an_item (map plain-Item items) i ∙ ap (option_map an_item) (slice_get-map plain-Item items i) ∙ twice (slice_get items i)
  where
    twice : (o : Option Item) → option_map an_item (option_map plain-Item o) ≡ option_map (λ (x : Item). an_item (plain-Item x)) o
    twice None = refl
    twice (Some x) = refl

-- the way has ended
pub way_ends : (n : NodeTree) (old : List NodeTree) (path : List ℕ) (i : ℕ) (whole : List NodeTree) → old ++ in_front (Some n) (drop i path) ≡ whole → length path ≤ i → old ≡ whole
way_ends n old path i whole e h = sym (append-nil old) ∙ ap (λ (l : List ℕ). old ++ in_front (Some n) l) (sym (drop_all i path h)) ∙ e

pub way_ended : (n : NodeTree) (path : List ℕ) (i : ℕ) (whole : Option NodeTree) → descend (Some n) (drop i path) ≡ whole → length path ≤ i → Some n ≡ whole
way_ended n path i whole e h = ap (λ (l : List ℕ). descend (Some n) l) (sym (drop_all i path h)) ∙ e
