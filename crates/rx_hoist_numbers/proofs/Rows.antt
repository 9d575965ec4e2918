-- A walk that numbers a node, or some in a row: each way in the part of the text leads in the tree with numbers to the same node, whose
-- number is how many stand in front, from the walk's first on; and the walk adds the spans of all.
use Rattle.std.proofs.Common.{◌≡◌, ℕ, zero, suc, ◌+◌, List, [], ◌∷◌, ◌++◌, length, map, take, Option, Some, slice_get, refl, sym, ap, subst, ◌∙◌, arith, append_assoc, append-nil, length-append}
use Rattle.std.proofs.lemmas.List.{map-append}
use Rattle.rx_core.specs.declared.types.Span.{Span}
use Rattle.rx_tree.specs.Positions.{NodeTree, children, descend}
use Rattle.rx_tree.specs.Spans.{node_span}
use Rattle.rx_hoist_nodes.specs.Nodes.{within, within_all, in_front}
use Rattle.rx_hoist_nodes.proofs.Within.{below_is}
use Rattle.rx_typed.specs.Naming.{Cursor}
use Rattle.rx_hoist_numbers.specs.NumberedNodes as numbered
use Rattle.rx_hoist_numbers.specs.NumberedNodes.{NumberedNode}
use Rattle.rx_hoist_numbers.specs.Counting.{IsNode, AreNode}

-- no node is numbered between
pub record Stays (c c' : Cursor) : Type 0 where
  pub number : c'.number ≡ c.number
  pub spans : c'.spans ≡ c.spans

pub stays : (c : Cursor) → Stays c c
stays c = record { number = refl; spans = refl }

pub stays_then : {c c1 c2 : Cursor} → Stays c c1 → Stays c1 c2 → Stays c c2
stays_then a b = record { number = b.number ∙ a.number; spans = b.spans ∙ a.spans }

pub record Counted (n : NodeTree) (m : NumberedNode) (c c' : Cursor) : Type 0 where
  pub size : c'.number ≡ c.number + length (within n)
  pub spans : c'.spans ≡ c.spans ++ map node_span (within n)
  pub each : (ks : List ℕ) → AreNode (descend (Some n) ks) (numbered.descend (Some m) ks) (c.number + length (in_front (Some n) ks))

pub record CountedAll (ns : List NodeTree) (ms : List NumberedNode) (c c' : Cursor) : Type 0 where
  pub size : c'.number ≡ c.number + length (within_all ns)
  pub spans : c'.spans ≡ c.spans ++ map node_span (within_all ns)
  pub each : (k : ℕ) (ks : List ℕ) → AreNode (descend (slice_get ns k) ks) (numbered.descend (slice_get ms k) ks) (c.number + length (within_all (take k ns) ++ in_front (slice_get ns k) ks))

are_at : (o : Option NodeTree) (p : Option NumberedNode) {i j : ℕ} → i ≡ j → AreNode o p i → AreNode o p j
are_at o p e h = subst (λ (k : ℕ). AreNode o p k) e h

-- ---- in front and behind, where nothing is numbered

pub from : {ns : List NodeTree} {ms : List NumberedNode} {c c1 c2 : Cursor} → Stays c c1 → CountedAll ns ms c1 c2 → CountedAll ns ms c c2
from {ns} {ms} {c} {c1} {c2} s w = record {
  size = w.size ∙ ap (λ (i : ℕ). i + length (within_all ns)) s.number;
  spans = w.spans ∙ ap (λ (l : List Span). l ++ map node_span (within_all ns)) s.spans;
  each = λ k ks. are_at (descend (slice_get ns k) ks) (numbered.descend (slice_get ms k) ks) (ap (λ (i : ℕ). i + length (within_all (take k ns) ++ in_front (slice_get ns k) ks)) s.number) (w.each k ks);
}

pub upto : {ns : List NodeTree} {ms : List NumberedNode} {c c1 c2 : Cursor} → Stays c1 c2 → CountedAll ns ms c c1 → CountedAll ns ms c c2
upto s w = record { size = s.number ∙ w.size; spans = s.spans ∙ w.spans; each = w.each }

pub one_upto : {n : NodeTree} {m : NumberedNode} {c c1 c2 : Cursor} → Stays c1 c2 → Counted n m c c1 → Counted n m c c2
one_upto s w = record { size = s.number ∙ w.size; spans = s.spans ∙ w.spans; each = w.each }

-- ---- rows

pub no_child : {c c' : Cursor} → Stays c c' → CountedAll [] [] c c'
no_child {c} {c'} s = record {
  size = let e = s.number in omega (arith, e);
  spans = s.spans ∙ sym (append-nil c.spans);
  each = λ k ks. tt;
}

pub child_and : {n : NodeTree} {m : NumberedNode} {ns : List NodeTree} {ms : List NumberedNode} {c c1 c2 : Cursor} → Counted n m c c1 → CountedAll ns ms c1 c2 → CountedAll (n ∷ ns) (m ∷ ms) c c2
child_and {n} {m} {ns} {ms} {c} {c1} {c2} w r = record {
  size = let a = w.size in let b = r.size in let l = length-append (within n) (within_all ns) in omega (arith, a, b, l);
  spans = r.spans ∙ ap (λ (l : List Span). l ++ map node_span (within_all ns)) w.spans
      ∙ append_assoc c.spans (map node_span (within n)) (map node_span (within_all ns))
      ∙ ap (λ (l : List Span). c.spans ++ l) (sym (map-append node_span (within n) (within_all ns)));
  each = at;
}
  where
    at : (k : ℕ) (ks : List ℕ) → AreNode (descend (slice_get (n ∷ ns) k) ks) (numbered.descend (slice_get (m ∷ ms) k) ks) (c.number + length (within_all (take k (n ∷ ns)) ++ in_front (slice_get (n ∷ ns) k) ks))
    at zero ks = w.each ks
    at (suc k) ks =
        let a = w.size in
        let front = within_all (take k ns) in
        let rest = in_front (slice_get ns k) ks in
        let p = length-append (within n ++ front) rest in
        let q = length-append (within n) front in
        let t = length-append front rest in
        are_at (descend (slice_get ns k) ks) (numbered.descend (slice_get ms k) ks) (omega (arith, a, p, q, t)) (r.each k ks)

pub one_child : {n : NodeTree} {m : NumberedNode} {c c' : Cursor} → Counted n m c c' → CountedAll (n ∷ []) (m ∷ []) c c'
one_child {n} {m} {c} {c'} w = child_and w (no_child (stays c'))

-- ---- a node

-- with its number, its children behind it
pub node_with : {n : NodeTree} {m : NumberedNode} {c c1 c2 : Cursor} → IsNode n m c.number → c1.number ≡ suc c.number → c1.spans ≡ c.spans ++ node_span n ∷ []
    → CountedAll (children n) (numbered.children m) c1 c2 → Counted n m c c2
node_with {n} {m} {c} {c1} {c2} h i s w = record {
  size = let a = w.size in let l = ap (λ (x : List NodeTree). length x) (below_is n) in omega (arith, a, l, i);
  spans = w.spans ∙ ap (λ (l : List Span). l ++ map node_span (within_all (children n))) s ∙ append_assoc c.spans (node_span n ∷ []) (map node_span (within_all (children n)))
      ∙ ap (λ (l : List NodeTree). c.spans ++ (node_span n ∷ map node_span l)) (sym (below_is n));
  each = at;
}
  where
    at : (ks : List ℕ) → AreNode (descend (Some n) ks) (numbered.descend (Some m) ks) (c.number + length (in_front (Some n) ks))
    at [] = are_at (Some n) (Some m) (omega arith) h
    at (k ∷ ks) = are_at (descend (slice_get (children n) k) ks) (numbered.descend (slice_get (numbered.children m) k) ks) (omega (arith, i)) (w.each k ks)
