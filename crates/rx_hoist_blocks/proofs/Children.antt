-- A walk that numbers a node, or some in a row: it numbers all that stand there, one by one, and each block among them is one of the
-- typed tree, by its number.
use Rattle.std.proofs.Common.{◌≡◌, ℕ, zero, suc, ◌+◌, List, [], ◌∷◌, ◌++◌, length, take, Option, Some, None, slice_get, refl, sym, ap, subst, ◌∙◌, arith, length-append}
use Rattle.rx_tree.specs.Plain as plain
use Rattle.rx_tree.specs.Plain.{Body}
use Rattle.rx_tree.specs.Lists.{statements}
use Rattle.rx_tree.specs.Positions.{NodeTree, an_item, a_type, a_block, a_statement, an_expression, a_pattern, children, descend}
use Rattle.rx_tree.specs.Nodes.{below}
use Rattle.rx_hoist_nodes.specs.Nodes.{within, within_all, in_front}
use Rattle.rx_hoist_nodes.proofs.Within.{below_is}
use Rattle.rx_typed.specs.Tree as tree
use Rattle.rx_exits_plan.specs.Blocks.{statements as typed_statements}
use Rattle.rx_exits_plan.specs.Spots.{Around, Spot, a_block as spot_block, spots_of}
use Rattle.rx_hoist_blocks.proofs.Blocks.{Has, Goes, this_block, behind}

-- from the number i on; the next one is j; the part of the typed tree is S
pub record Walked (n : NodeTree) (i j : ℕ) (S : Around → List Spot) : Type 0 where
  pub size : j ≡ i + length (within n)
  pub has : (ks : List ℕ) (b : Body) → descend (Some n) ks ≡ Some (a_block b) → Has (i + length (in_front (Some n) ks)) (length (statements b)) S

pub record WalkedAll (ns : List NodeTree) (i j : ℕ) (S : Around → List Spot) : Type 0 where
  pub size : j ≡ i + length (within_all ns)
  pub has : (k : ℕ) (ks : List ℕ) (b : Body) → descend (slice_get ns k) ks ≡ Some (a_block b)
      → Has (i + length (within_all (take k ns) ++ in_front (slice_get ns k) ks)) (length (statements b)) S

has_at : {m n k : ℕ} {S : Around → List Spot} → m ≡ n → Has m k S → Has n k S
has_at {m} {n} {k} {S} e h = subst (λ (x : ℕ). Has x k S) e h

-- ---- numbers that are the same, parts that stand in others

pub from : {ns : List NodeTree} {i i' j : ℕ} {S : Around → List Spot} → i' ≡ i → WalkedAll ns i' j S → WalkedAll ns i j S
from {ns} {i} {i'} {j} {S} e w = subst (λ (x : ℕ). WalkedAll ns x j S) e w

pub upto : {ns : List NodeTree} {i j j' : ℕ} {S : Around → List Spot} → j' ≡ j → WalkedAll ns i j' S → WalkedAll ns i j S
upto {ns} {i} {j} {j'} {S} e w = subst (λ (x : ℕ). WalkedAll ns i x S) e w

pub goes : {ns : List NodeTree} {i j : ℕ} {S R : Around → List Spot} → Goes S R → WalkedAll ns i j S → WalkedAll ns i j R
goes g w = record { size = w.size; has = λ k ks b e. g _ _ (w.has k ks b e) }

pub goes_one : {n : NodeTree} {i j : ℕ} {S R : Around → List Spot} → Goes S R → Walked n i j S → Walked n i j R
goes_one g w = record { size = w.size; has = λ ks b e. g _ _ (w.has ks b e) }

pub one_upto : {n : NodeTree} {i j j' : ℕ} {S : Around → List Spot} → j' ≡ j → Walked n i j' S → Walked n i j S
one_upto {n} {i} {j} {j'} {S} e w = subst (λ (x : ℕ). Walked n i x S) e w

-- ---- rows

pub no_child : (i : ℕ) (S : Around → List Spot) → WalkedAll [] i i S
no_child i S = record { size = omega arith; has = λ k ks b e. absurd (cc) }

pub child_and : {n : NodeTree} {ns : List NodeTree} {i j k : ℕ} {S : Around → List Spot} → Walked n i j S → WalkedAll ns j k S → WalkedAll (n ∷ ns) i k S
child_and {n} {ns} {i} {j} {k} {S} w r = record {
  size = let a = w.size in let b = r.size in let l = length-append (within n) (within_all ns) in omega (arith, a, b, l);
  has = λ m ks b e. at m ks b e;
}
  where
    at : (m : ℕ) (ks : List ℕ) (b : Body) → descend (slice_get (n ∷ ns) m) ks ≡ Some (a_block b)
        → Has (i + length (within_all (take m (n ∷ ns)) ++ in_front (slice_get (n ∷ ns) m) ks)) (length (statements b)) S
    at zero ks b e = w.has ks b e
    at (suc m) ks b e =
        let a = w.size in
        let front = within_all (take m ns) in
        let rest = in_front (slice_get ns m) ks in
        let p = length-append (within n ++ front) rest in
        let q = length-append (within n) front in
        let r2 = length-append front rest in
        let same : j + length (front ++ rest) ≡ i + length ((within n ++ front) ++ rest) = omega (arith, a, p, q, r2) in
        has_at same (r.has m ks b e)

pub one_child : {n : NodeTree} {i j : ℕ} {S : Around → List Spot} → Walked n i j S → WalkedAll (n ∷ []) i j S
one_child {n} {i} {j} {S} w = child_and w (no_child j S)

-- ---- a node

is_node : (m n : NodeTree) → ◌≡◌ {A = Option NodeTree} (Some m) (Some n) → m ≡ n
is_node m n e = cc

-- with its number, its children behind it; it is no block
pub node_with : {n : NodeTree} {i j : ℕ} {S : Around → List Spot} → ((b : Body) → n ≡ a_block b → ⊥) → WalkedAll (children n) (suc i) j S → Walked n i j S
node_with {n} {i} {j} {S} other w = record {
  size = let a = w.size in let l = ap (λ (x : List NodeTree). length x) (below_is n) in omega (arith, a, l);
  has = λ ks b e. at ks b e;
}
  where
    at : (ks : List ℕ) (b : Body) → descend (Some n) ks ≡ Some (a_block b) → Has (i + length (in_front (Some n) ks)) (length (statements b)) S
    at [] b e = absurd (other b (is_node _ _ e))
    at (k ∷ ks) b e = has_at (omega arith) (w.has k ks b e)

-- a block: that of its number in the typed tree, with as many statements
pub block_with : (b : Body) (i j : ℕ) (B : tree.Body) → length (typed_statements B) ≡ length (statements b) → WalkedAll (children (a_block b)) (suc i) j (λ a. spots_of a B)
    → Walked (a_block b) i j (λ a. spot_block a i B ∷ spots_of a B)
block_with b i j B long w = record {
  size = let a = w.size in let l = ap (λ (x : List NodeTree). length x) (below_is (a_block b)) in omega (arith, a, l);
  has = λ ks d e. at ks d e;
}
  where
    same_block : (d : Body) → a_block b ≡ a_block d → b ≡ d
    same_block d e = cc

    at : (ks : List ℕ) (d : Body) → descend (Some (a_block b)) ks ≡ Some (a_block d) → Has (i + length (in_front (Some (a_block b)) ks)) (length (statements d)) (λ a. spot_block a i B ∷ spots_of a B)
    at [] d e =
        let h = subst (λ (k : ℕ). Has i k (λ a. spot_block a i B ∷ spots_of a B)) (long ∙ ap (λ (x : Body). length (statements x)) (same_block d (is_node _ _ e))) (this_block i B (λ a. spots_of a B)) in
        has_at (omega arith) h
    at (k ∷ ks) d e = has_at (omega arith) (behind (λ a. spot_block a i B) (λ a. spots_of a B) _ _ (w.has k ks d e))
