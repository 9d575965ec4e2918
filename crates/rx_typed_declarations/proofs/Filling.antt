-- A table that is filled in an order of a graph's nodes is right of each, where an entry is right as soon as those of
-- all that its node leads to are.
use Rattle.std.proofs.Common.{◌≡◌, ℕ, zero, suc, ◌<◌, ◌≤◌, ◌⊎◌, inl, inr, List, [], ◌∷◌, length, get_or, slice_set}
use Rattle.std.proofs.Common.{replicate}
use Rattle.std.proofs.Common.{refl, sym, ◌∙◌, subst, arith}
use Rattle.std.proofs.lemmas.List.{length-replicate, length-set, get_or_past}
use Rattle.std.proofs.lemmas.Bool.{cases_lt}
use Rattle.rx_graph_cycles.specs.Reaches.{targets, IsIn, NoCycle}
use Rattle.rx_graph_cycles.specs.Orders.{Behind, InOrder}
use Rattle.rx_graph_cycles.proofs.Placing.{order_exists}

-- by what is right of a number, and what counts past the table's end
set_good : {X : Type 0} (none : X) (Good : ℕ → X → Type 0) (table : List X) (n i : ℕ) (v : X) → Good n v
    → (length table ≤ n → Good n none) → (n ≡ i) ⊎ Good i (get_or table i none)
    → Good i (get_or (slice_set table n v) i none)
set_good none Good [] n i v good past (inl same) =
    let At : ℕ → Type 0 = λ k. Good k none in subst At same (past (omega arith))
set_good none Good [] n i v good past (inr h) = h
set_good none Good (x ∷ xs) zero zero v good past h = good
set_good none Good (x ∷ xs) zero (suc i) v good past (inl same) = absurd (omega arith)
set_good none Good (x ∷ xs) zero (suc i) v good past (inr h) = h
set_good none Good (x ∷ xs) (suc n) zero v good past (inl same) = absurd (omega arith)
set_good none Good (x ∷ xs) (suc n) zero v good past (inr h) = h
set_good none Good (x ∷ xs) (suc n) (suc i) v good past (inl same) =
    set_good none (λ k. Good (suc k)) xs n i v good (λ le. past (omega arith)) (inl (omega arith))
set_good none Good (x ∷ xs) (suc n) (suc i) v good past (inr h) =
    set_good none (λ k. Good (suc k)) xs n i v good (λ le. past (omega arith)) (inr h)

-- a table becomes another where entries of these numbers are set, one after the other, each to a value that is right there
pub data Fills {X : Type 0} (Value : List X → ℕ → X → Type 0) : List X → List ℕ → List X → Type 0 where
  fills_none : {table : List X} → Fills Value table [] table
  fills_one : {table new : List X} {n : ℕ} {ns : List ℕ} (v : X) → Value table n v
      → Fills Value (slice_set table n v) ns new → Fills Value table (n ∷ ns) new

abbrev pub fill_by : {X : Type 0} → (List X → ℕ → X) → List X → List ℕ → List X
fill_by value table [] = table
fill_by value table (n ∷ ns) = fill_by value (slice_set table n (value table n)) ns

pub length_fills : {X : Type 0} {Value : List X → ℕ → X → Type 0} {table new : List X} {order : List ℕ}
    → Fills Value table order new → length new ≡ length table
length_fills fills_none = refl
length_fills (fills_one {table = table} {n = n} v is more) = length_fills more ∙ length-set table n v

pub fills_by : {X : Type 0} (value : List X → ℕ → X) (table : List X) (order : List ℕ)
    → Fills (λ t n v. v ≡ value t n) table order (fill_by value table order)
fills_by value table [] = fills_none
fills_by value table (n ∷ ns) = fills_one (value table n) refl (fills_by value (slice_set table n (value table n)) ns)

pub length_fill_by : {X : Type 0} (value : List X → ℕ → X) (table : List X) (order : List ℕ)
    → length (fill_by value table order) ≡ length table
length_fill_by value table order = length_fills (fills_by value table order)

module _ (X : Type 0) (none : X) (edges : List (List ℕ)) (Good : ℕ → X → Type 0) (Value : List X → ℕ → X → Type 0)
    (past : (i : ℕ) → length edges ≤ i → Good i none)
    (step : (table : List X) (n : ℕ) (v : X) → ((j : ℕ) → IsIn (targets edges n) j → Good j (get_or table j none))
    → Value table n v → Good n v) where
  filled_so : (before order : List ℕ) (table new : List X) → length table ≡ length edges
      → ((i : ℕ) → IsIn before i → Good i (get_or table i none)) → Behind edges before order → Fills Value table order new
      → (i : ℕ) → IsIn before i ⊎ IsIn order i → Good i (get_or new i none)
  filled_so before [] table new whole good behind fills_none i (inl h) = good i h
  filled_so before [] table new whole good behind fills_none i (inr h) = absurd h
  filled_so before (n ∷ ns) table new whole good behind (fills_one v is more) i h =
      filled_so (n ∷ before) ns (slice_set table n v) new (length-set table n v ∙ whole) one_more behind.1 more i (move h)
    where
      move : IsIn before i ⊎ IsIn (n ∷ ns) i → IsIn (n ∷ before) i ⊎ IsIn ns i
      move (inl h) = inl (inr h)
      move (inr (inl same)) = inl (inl same)
      move (inr (inr h)) = inr h

      target : (j : ℕ) → IsIn (targets edges n) j → (j < length edges) ⊎ (length edges ≤ j)
          → Good j (get_or table j none)
      target j t (inl less) = good j (behind.0 j less t)
      target j t (inr le) = let At : X → Type 0 = λ x. Good j x in
          subst At (sym (get_or_past table j none (rw whole le))) (past j le)

      here : Good n v
      here = step table n v (λ j t. target j t (cases_lt j (length edges))) is

      old : (j : ℕ) → IsIn (n ∷ before) j → (n ≡ j) ⊎ Good j (get_or table j none)
      old j (inl same) = inl same
      old j (inr h) = inr (good j h)

      one_more : (j : ℕ) → IsIn (n ∷ before) j → Good j (get_or (slice_set table n v) j none)
      one_more j h = set_good none Good table n j v here (λ le. past n (rw (sym whole) le)) (old j h)

  pub all_filled_so : (order : List ℕ) (table new : List X) → length table ≡ length edges → InOrder edges order
      → Fills Value table order new → (i : ℕ) → Good i (get_or new i none)
  all_filled_so order table new whole is fills i = by (cases_lt i (length edges))
    where
      by : (i < length edges) ⊎ (length edges ≤ i) → Good i (get_or new i none)
      by (inl less) = filled_so [] order table new whole (λ j h. absurd h) is.behind fills i (inr (is.all i less))
      by (inr le) = let At : X → Type 0 = λ x. Good i x in
          subst At (sym (get_or_past new i none (rw (length_fills fills, whole) le))) (past i le)

pub all_filled : (X : Type 0) (none : X) (edges : List (List ℕ)) (Good : ℕ → X → Type 0) (value : List X → ℕ → X)
    → ((i : ℕ) → length edges ≤ i → Good i none)
    → ((table : List X) (n : ℕ) → ((j : ℕ) → IsIn (targets edges n) j → Good j (get_or table j none)) → Good n (value table n))
    → (order : List ℕ) (table : List X) → length table ≡ length edges → InOrder edges order → (i : ℕ)
    → Good i (get_or (fill_by value table order) i none)
all_filled X none edges Good value past step order table whole is =
    all_filled_so X none edges Good (λ t n v. v ≡ value t n) past
    (λ t n v good same. subst (λ x. Good n x) (sym same) (step t n good)) order table (fill_by value table order) whole is
    (fills_by value table order)

-- what holds of a node as soon as it holds of all that the node leads to, and of what is no node, holds of all
pub by_targets : (edges : List (List ℕ)) (Good : ℕ → Type 0) → ((i : ℕ) → length edges ≤ i → Good i)
    → ((n : ℕ) → ((j : ℕ) → IsIn (targets edges n) j → Good j) → Good n) → NoCycle edges → (i : ℕ) → Good i
by_targets edges Good past step apart i =
    let o = order_exists edges apart in
    all_filled (Unit {0}) tt edges (λ n u. Good n) (λ t n. tt) past (λ t n h. step n h) o.0
    (replicate (length edges) tt) (length-replicate (length edges) tt) o.1 i
