-- Where each way is followed by one site at most, so is a part with one begin; behind a test come two at most.
use Rattle.std.proofs.Common.{◌≡◌, ℕ, ◌+◌, ◌==◌, List, [], ◌∷◌, ◌++◌, Bool, true, false, if◌then◌else◌, Option, Some, None, refl, sym, ap, ◌∙◌, arith}
use Rattle.rx_lower_walks.specs.Actions.{Action}
use Rattle.rx_lower_walks.specs.Orders.{Order}
use Rattle.rx_lower_walks.specs.Orders as order
use Rattle.rx_lower_walks.specs.Pieces.{Way, Scope, Exits, Begin, starts, through, entry, distinct, moved, part}
use Rattle.rx_lower_walks.proofs.Fits.{append_nil}
use Rattle.rx_lower_walks.proofs.Entry.{Single, by_action, by_way, never}

-- one site at most, for each way
abbrev pub Steps : Type 0
Steps = Way → Option ℕ

abbrev pub one : Option ℕ → List ℕ
one None = []
one (Some p) = p ∷ []

abbrev pub ones : Steps → Exits
ones k q = one (k q)

-- two sites at most, the first way's first
abbrev pub two : Option ℕ → Option ℕ → List ℕ
two None e = one e
two (Some p) None = p ∷ []
two (Some p) (Some q) = if q == p then p ∷ [] else p ∷ q ∷ []

abbrev pub first : List Begin → ℕ → Steps → Option ℕ
first [] b k = None
first (starts i ∷ bs) b k = Some (b + i)
first (through q ∷ bs) b k = k q

pub one_entry : (bs : List Begin) (b : ℕ) (k : Steps) → Single bs → entry bs b (ones k) ≡ one (first bs b k)
one_entry bs b k (by_action e) = ap (λ bs. entry bs b (ones k)) e ∙ sym (ap (λ bs. one (first bs b k)) e)
one_entry bs b k (by_way q e) = ap (λ bs. entry bs b (ones k)) e ∙ append_nil (ones k q) ∙ sym (ap (λ bs. one (first bs b k)) e)
one_entry bs b k (never e) = ap (λ bs. entry bs b (ones k)) e ∙ sym (ap (λ bs. one (first bs b k)) e)

pub two_distinct : (e f : Option ℕ) → distinct (one e ++ one f) ≡ two e f
two_distinct None None = refl
two_distinct None (Some q) = refl
two_distinct (Some p) None = refl
two_distinct (Some p) (Some q) = by (q == p)
  where
    by : (c : Bool) → p ∷ (if c then [] else q ∷ []) ≡ (if c then p ∷ [] else p ∷ q ∷ [])
    by true = refl
    by false = refl

entry_both : (bs cs : List Begin) (b : ℕ) (k : Exits) → entry (bs ++ cs) b k ≡ entry bs b k ++ entry cs b k
entry_both [] cs b k = refl
entry_both (starts i ∷ bs) cs b k = ap (λ ps. (b + i) ∷ ps) (entry_both bs cs b k)
entry_both (through q ∷ bs) cs b k = ap (λ ps. k q ++ ps) (entry_both bs cs b k) ∙ sym (assoc (k q) (entry bs b k) (entry cs b k))
  where
    assoc : (xs ys zs : List ℕ) → (xs ++ ys) ++ zs ≡ xs ++ (ys ++ zs)
    assoc [] ys zs = refl
    assoc (x ∷ xs) ys zs = ap (λ l. x ∷ l) (assoc xs ys zs)

entry_moved : (n : ℕ) (bs : List Begin) (b : ℕ) (k : Exits) → entry (moved n bs) b k ≡ entry bs (b + n) k
entry_moved n [] b k = refl
entry_moved n (starts i ∷ bs) b k =
    let e : b + (n + i) ≡ b + n + i = omega arith in
    ap (λ p. p ∷ entry (moved n bs) b k) e ∙ ap (λ ps. (b + n + i) ∷ ps) (entry_moved n bs b k)
entry_moved n (through q ∷ bs) b k = ap (λ ps. k q ++ ps) (entry_moved n bs b k)

-- the site of a test, and those of its ways
pub fork_sites : (scope : Scope) (a : Action) (s t : Order) → Single (part scope s).begins → Single (part scope t).begins → (b : ℕ) (k : Steps)
    → (part scope (order.then (order.act a) (order.or s t))).sites b (ones k)
    ≡ record { action = a; next = two (first (part scope s).begins (b + 1) k) (first (part scope t).begins (b + 1 + (part scope s).size) k) }
    ∷ ((part scope s).sites (b + 1) (ones k) ++ (part scope t).sites (b + 1 + (part scope s).size) (ones k))
fork_sites scope a s t f h b k =
    ap (λ (ps : List ℕ). record { action = a; next = ps } ∷ ((part scope s).sites (b + 1) (ones k) ++ (part scope t).sites (b + 1 + (part scope s).size) (ones k))) next
  where
    next : distinct (entry ((part scope s).begins ++ moved (part scope s).size (part scope t).begins) (b + 1) (ones k))
        ≡ two (first (part scope s).begins (b + 1) k) (first (part scope t).begins (b + 1 + (part scope s).size) k)
    next =
        ap distinct (entry_both (part scope s).begins (moved (part scope s).size (part scope t).begins) (b + 1) (ones k))
        ∙ ap (λ ps. distinct (entry (part scope s).begins (b + 1) (ones k) ++ ps)) (entry_moved (part scope s).size (part scope t).begins (b + 1) (ones k))
        ∙ ap (λ ps. distinct (ps ++ entry (part scope t).begins (b + 1 + (part scope s).size) (ones k))) (one_entry (part scope s).begins (b + 1) k f)
        ∙ ap (λ ps. distinct (one (first (part scope s).begins (b + 1) k) ++ ps)) (one_entry (part scope t).begins (b + 1 + (part scope s).size) k h)
        ∙ two_distinct (first (part scope s).begins (b + 1) k) (first (part scope t).begins (b + 1 + (part scope s).size) k)
