-- The two tests of names are one.
use Rattle.std.proofs.Common.{◌≡◌, ℕ, Bool, true, false, List, [], ◌∷◌, ◌++◌, refl, sym, ap, ap₂, ◌∙◌}
use Rattle.std.specs.Prelude.{◌||◌}
use Rattle.std.specs.Str.{bytes_eq}
use Rattle.std.proofs.lemmas.Bool.Decides.{same_from_decides}
use Rattle.std.proofs.lemmas.Slice.Eq.{bytes_eq-Decides}
use Rattle.rx_core.specs.Bytes.{same_bytes, is_one_of}
use Rattle.rx_core.proofs.BytesLemmas.{same_bytes-true, same_bytes-equal}
use Rattle.rx_hoist_extraction.specs.Names.{Names, is_among}

pub same_is_equal : (x y : List ℕ) → same_bytes x y ≡ bytes_eq x y
same_is_equal x y = same_from_decides (same_bytes x y) (bytes_eq x y) (same_bytes-true x y, same_bytes-equal x y) (bytes_eq-Decides x y)

pub one_of_is_among : (x : List ℕ) (ys : Names) → is_one_of x ys ≡ is_among x ys
one_of_is_among x [] = refl
one_of_is_among x (y ∷ ys) = ap₂ (λ a b. a || b) (same_is_equal x y) (one_of_is_among x ys)

pub same_is_among : (x y : List ℕ) → same_bytes x y ≡ is_among x (y ∷ [])
same_is_among x y = same_is_equal x y ∙ sym (or_false (bytes_eq x y))
  where
    or_false : (b : Bool) → (b || false) ≡ b
    or_false true = refl
    or_false false = refl

pub among_both : (x : List ℕ) (ys zs : Names) → is_among x (ys ++ zs) ≡ is_among x ys || is_among x zs
among_both x [] zs = refl
among_both x (y ∷ ys) zs = ap (λ b. bytes_eq x y || b) (among_both x ys zs) ∙ sides (bytes_eq x y) (is_among x ys) (is_among x zs)
  where
    sides : (a b c : Bool) → (a || (b || c)) ≡ ((a || b) || c)
    sides true b c = refl
    sides false b c = refl

pub ruleset among_rules = (same_is_among, among_both)
