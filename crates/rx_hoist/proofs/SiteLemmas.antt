-- Nodes on a way; the labels on it, where those of what is further in come first.
use Rattle.std.proofs.Common.{◌≡◌, ℕ, suc, ◌+◌, ◌-◌, ◌<◌, ◌≤◌, List, [], ◌∷◌, ◌++◌, length, get_or, take, drop, Option, Some, None, Result, Ok, Err, IfOk, Vec, Global, slice_get, refl, sym, ap, ◌∙◌, append_assoc, append-nil, arith, drop-cons}
use Rattle.std.specs.declared.alloc.AllocError.{AllocError}
use Rattle.std.specs.Borrow.{Bor}
use Rattle.std.proofs.Math.Seq.{take-length}
use Rattle.rx_tree.specs.declared.tree.Ident.{Ident}
use Rattle.rx_tree.specs.Positions.{NodeTree, children, descend}
use Rattle.rx_hoist_extraction.specs.Run.{label_of, labels_on}
use Rattle.rx_hoist_made.specs.PlainParts.{plain-Labels}

labels_behind : (n : Option NodeTree) (ks : List ℕ) (ls : List (Option Ident)) → labels_on n ks ls ≡ labels_on n ks [] ++ ls
labels_behind None ks ls = refl
labels_behind (Some n) [] ls = refl
labels_behind (Some n) (k ∷ ks) ls = let c = slice_get (children n) k in
    labels_behind c ks (label_of n ++ ls)
    ∙ sym (append_assoc (labels_on c ks []) (label_of n) ls)
    ∙ ap (λ l. l ++ ls) (ap (λ m. labels_on c ks [] ++ m) (sym (append-nil (label_of n))) ∙ sym (labels_behind c ks (label_of n ++ [])))

labels_then : (n : NodeTree) (k : ℕ) (ks : List ℕ) → labels_on (Some n) (k ∷ ks) [] ≡ labels_on (slice_get (children n) k) ks [] ++ label_of n
labels_then n k ks = labels_behind (slice_get (children n) k) ks (label_of n ++ []) ∙ ap (λ m. labels_on (slice_get (children n) k) ks [] ++ m) (append-nil (label_of n))

-- those of a step down, by those of what is further in
labels_down : (n : NodeTree) (way rest : List ℕ) (k : ℕ) (next : Option NodeTree) (inner whole : List (Option Ident)) → way ≡ k ∷ rest → next ≡ slice_get (children n) k → inner ≡ labels_on next rest []
    → whole ≡ inner ++ label_of n → whole ≡ labels_on (Some n) way []
labels_down n way rest k next inner whole is there found all =
    all ∙ ap (λ l. l ++ label_of n) (found ∙ ap (λ m. labels_on m rest []) there) ∙ sym (labels_then n k rest) ∙ ap (λ w. labels_on (Some n) w []) (sym is)

pub first_and_rest : (way : List ℕ) → 1 ≤ length way → way ≡ get_or way 0 0 ∷ take (length way - 1) (drop 1 way)
first_and_rest [] l = absurd (omega (arith, l))
first_and_rest (k ∷ ks) l = let many : length (k ∷ ks) - 1 ≡ length ks = omega arith in ap (λ zs. k ∷ zs) (sym (ap (λ n. take n ks) many ∙ take-length ks))

pub labels_found : (r : Result (Vec (Option (Bor Ident)) Global) AllocError) (n : NodeTree) (way rest : List ℕ) (k : ℕ) (next : Option NodeTree) (inner : List (Option Ident))
    → way ≡ k ∷ rest → next ≡ slice_get (children n) k → inner ≡ labels_on next rest [] → IfOk r (λ it. plain-Labels it.items ≡ inner ++ label_of n)
    → IfOk r (λ it. plain-Labels it.items ≡ labels_on (Some n) way [])
labels_found (Ok it) n way rest k next inner is there found all = labels_down n way rest k next inner (plain-Labels it.items) is there found all
labels_found (Err e) n way rest k next inner is there found all = tt

pub reached_on : (n : NodeTree) (next whole : Option NodeTree) (way : List ℕ) (i k : ℕ) → i < length way → k ≡ get_or way i 0 → next ≡ slice_get (children n) k
    → descend (Some n) (drop i way) ≡ whole → descend next (drop (i + 1) way) ≡ whole
reached_on n next whole way i k less is there kept =
    let more : suc i ≡ i + 1 = omega arith in
    ap (λ m. descend m (drop (i + 1) way)) there ∙ ap (λ j. descend (slice_get (children n) j) (drop (i + 1) way)) is
    ∙ sym (ap (descend (Some n)) (drop-cons way i 0 less ∙ ap (λ j. get_or way i 0 ∷ drop j way) more)) ∙ kept
