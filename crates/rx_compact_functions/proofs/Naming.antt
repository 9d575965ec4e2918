-- The first of some lifetimes that is equal to one, one step on.
use Rattle.std.proofs.Common.{◌≡◌, ℕ, suc, ◌+◌, ◌<◌, Bool, false, List, length, get_or, drop, sym, ap, ◌∙◌, arith}
use Rattle.std.specs.Prelude.{if◌then◌else◌}
use Rattle.rx_tree.specs.declared.tree.BoundLifetime.{BoundLifetime}
use Rattle.rx_hoist_made.proofs.Dropped.{drop_is}
use Rattle.rx_compact_lifetimes.specs.Merged.{are_equal, first_equal}

next_is : (k : ℕ) → suc k ≡ k + 1
next_is k = omega arith

first_here : (o : ℕ → ℕ → Bool) (l k : ℕ) (ls : List BoundLifetime) (x : List ℕ) (y : BoundLifetime) → k < length ls → y ≡ get_or ls k y
    → first_equal o l k (drop k ls) x ≡ (if are_equal o l k then y.name.name else first_equal o l (k + 1) (drop (k + 1) ls) x)
first_here o l k ls x y h e = ap (λ ys. first_equal o l k ys x) (drop_is ls k y h e)
    ∙ ap (λ m. if are_equal o l k then y.name.name else first_equal o l m (drop (k + 1) ls) x) (next_is k)

pub first_passed : (o : ℕ → ℕ → Bool) (l k : ℕ) (ls : List BoundLifetime) (x w : List ℕ) (y : BoundLifetime) (r : Bool) → k < length ls → y ≡ get_or ls k y
    → r ≡ are_equal o l k → r ≡ false → first_equal o l k (drop k ls) x ≡ w → first_equal o l (k + 1) (drop (k + 1) ls) x ≡ w
first_passed o l k ls x w y r h e same is inv =
    sym (first_here o l k ls x y h e ∙ ap (λ b. if b then y.name.name else first_equal o l (k + 1) (drop (k + 1) ls) x) (sym same ∙ is)) ∙ inv
