-- What private functions do: sites that are seen, and those of them from which a way is to go on.
use Rattle.std.specs.Prelude.{◌≡◌, ◌⊎◌, ℕ, zero, suc, ◌+◌, ◌*◌, ◌<◌, ◌≤◌, Bool, true, false, if◌then◌else◌, List, [], length}
use Rattle.rx_graph_bits.specs.Rows.{holds}
use Rattle.rx_graph.specs.Facts.{has, targets}
use Rattle.rx_graph_reach.specs.Reached.{Reached}

-- how many numbers below a bound a row doesn't hold
abbrev pub unseen : ℕ → List ℕ → ℕ
unseen zero row = 0
unseen (suc n) row = (if holds row n then 0 else 1) + unseen n row

-- of these sites, those inside the set are seen, and a way is to go on from each that was not seen before
pub record Added (n : ℕ) (inside : ℕ → Bool) (sites seen ahead seen' ahead' : List ℕ) : Type 0 where
  pub width : length seen' ≡ length seen
  pub keeps : (p : ℕ) → p < n → holds seen p ≡ true → holds seen' p ≡ true
  pub kept : (p : ℕ) → has ahead p ≡ true → has ahead' p ≡ true
  pub only : (p : ℕ) → p < n → holds seen' p ≡ true → (holds seen p ≡ true) ⊎ ((has sites p ≡ true) × (inside p ≡ true) × (has ahead' p ≡ true))
  pub opens : (p : ℕ) → has ahead' p ≡ true → (has ahead p ≡ true) ⊎ ((p < n) × (holds seen' p ≡ true))
  pub all : (p : ℕ) → p < n → has sites p ≡ true → inside p ≡ true → holds seen' p ≡ true
  pub left : length ahead' + unseen n seen' ≡ length ahead + unseen n seen

-- of the sites that are seen
pub record Stands (edges : List (List ℕ)) (inside stops : ℕ → Bool) (first : ℕ) (seen ahead : List ℕ) : Type 0 where
  pub wide : length edges ≤ 64 * length seen
  pub sound : (p : ℕ) → p < length edges → holds seen p ≡ true → Reached edges inside stops first p
  pub opened : (p : ℕ) → has ahead p ≡ true → (p < length edges) × (holds seen p ≡ true)
  pub begun : (p : ℕ) → p < length edges → has (targets edges first) p ≡ true → inside p ≡ true → holds seen p ≡ true
  pub closed : (q : ℕ) → q < length edges → holds seen q ≡ true → (has ahead q ≡ true)
      ⊎ (stops q ≡ false → (p : ℕ) → p < length edges → has (targets edges q) p ≡ true → inside p ≡ true → holds seen p ≡ true)

-- where a site leads, unless it stops a way
abbrev pub onward : List (List ℕ) → (ℕ → Bool) → ℕ → List ℕ
onward edges stops q = if stops q then [] else targets edges q
