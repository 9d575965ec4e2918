-- What private functions of the worklist do.
use Rattle.std.specs.Prelude.{◌≡◌, ◌⊎◌, ℕ, ◌+◌, ◌*◌, ◌-◌, ◌<◌, ◌≤◌, Bool, true, false, List, [], ◌∷◌, length, Some, slice_get}
use Rattle.rx_graph_bits.specs.Rows.{holds, Inserted}
use Rattle.rx_graph.specs.Facts.{has, targets}
use Rattle.rx_graph.specs.Equations.{Rules, Derived}

-- how high a table's values are
abbrev pub heights : {I : Type 0} → (I → ℕ) → List I → ℕ
heights height [] = 0
heights height (a ∷ T) = height a + heights height T

-- each value is one
abbrev pub Fit : {I : Type 0} → Rules I → List I → Type 0
Fit {I} R T = (p : ℕ) (a : I) → slice_get T p ≡ Some a → R.Fits a

-- each site has what it begins with
pub record Begun {I : Type 0} (R : Rules I) (n : ℕ) (T : List I) : Type 0 where
  pub count : length T ≡ n
  pub begins : (p : ℕ) (a : I) → slice_get T p ≡ Some a → R.Begins p a
  pub fits : Fit R T

-- a value is joined to that of a site, which is noted where it grew
pub record Joined {I : Type 0} (R : Rules I) (p : ℕ) (b : I) (old new : List I) (before after : List ℕ) (grown : Bool) : Type 0 where
  pub count : length new ≡ length old
  pub width : length after ≡ length before
  pub there : (c : I) → slice_get new p ≡ Some c → (a : I) × (slice_get old p ≡ Some a) × R.Joins a b c × R.Fits c
  pub other : (r : ℕ) → (r ≡ p → ⊥) → slice_get new r ≡ slice_get old r
  pub same : grown ≡ false → (new ≡ old) × (after ≡ before)
  pub noted : grown ≡ true → Inserted before after p
  pub more : grown ≡ true → heights R.height old < heights R.height new

-- what a site makes of its value is below those of the sites that it leads to
abbrev pub Follows : {I : Type 0} → Rules I → List (List ℕ) → List I → ℕ → Type 0
Follows {I} R edges T q = (p : ℕ) (a c : I) → has (targets edges q) p ≡ true → slice_get T q ≡ Some a → slice_get T p ≡ Some c → (b : I) × R.Steps q a b × R.Below b c

-- what holds of a table at each moment
pub record Sound {I : Type 0} (R : Rules I) (edges : List (List ℕ)) (T : List I) (pending : List ℕ) : Type 0 where
  pub count : length T ≡ length edges
  pub width : length edges ≤ 64 * length pending
  pub begins : (p : ℕ) (a : I) → slice_get T p ≡ Some a → (b : I) × R.Begins p b × R.Below b a
  pub fits : Fit R T
  pub derived : (p : ℕ) (a : I) → slice_get T p ≡ Some a → Derived R edges p a

-- .. between the visits of sites: each site that still has to pass its value on is noted
pub record Stands {I : Type 0} (R : Rules I) (edges : List (List ℕ)) (T : List I) (pending : List ℕ) : Type 0 where
  pub sound : Sound R edges T pending
  pub noted : (q : ℕ) → q < length T → (holds pending q ≡ true) ⊎ Follows R edges T q

-- .. or but this site
pub record StandsBut {I : Type 0} (R : Rules I) (edges : List (List ℕ)) (q : ℕ) (T : List I) (pending : List ℕ) : Type 0 where
  pub sound : Sound R edges T pending
  pub noted : (r : ℕ) → r < length T → (r ≡ q → ⊥) → (holds pending r ≡ true) ⊎ Follows R edges T r

-- .. while a site passes on what it made of its value, to these sites so far
pub record Passing {I : Type 0} (R : Rules I) (edges : List (List ℕ)) (q : ℕ) (a b : I) (Done : ℕ → Type 0) (T : List I) (pending : List ℕ) : Type 0 where
  pub sound : Sound R edges T pending
  pub noted : (r : ℕ) → r < length T → (r ≡ q → ⊥) → (holds pending r ≡ true) ⊎ Follows R edges T r
  pub own : (holds pending q ≡ true) ⊎ ((slice_get T q ≡ Some a) × ((p : ℕ) (c : I) → Done p → slice_get T p ≡ Some c → R.Below b c))

-- whether values grew, and sites were noted
pub record Grown {I : Type 0} (height : I → ℕ) (old new : List I) (before after : List ℕ) (grown : Bool) : Type 0 where
  pub same : grown ≡ false → new ≡ old
  pub fewer : grown ≡ false → (i : ℕ) → i < length old → holds after i ≡ true → holds before i ≡ true
  pub more : grown ≡ true → heights height old < heights height new

-- the sites of the first steps of a sweep, which goes up or down
abbrev pub site_of : Bool → ℕ → ℕ → ℕ
site_of false n k = k
site_of true n k = n - (k + 1)

abbrev pub Among : Bool → ℕ → ℕ → ℕ → Type 0
Among down n k q = (j : ℕ) × (j < k) × (q ≡ site_of down n j)

-- sites that are not noted
abbrev pub NoneNoted : (ℕ → Type 0) → List ℕ → Type 0
NoneNoted Q pending = (q : ℕ) → Q q → holds pending q ≡ false
