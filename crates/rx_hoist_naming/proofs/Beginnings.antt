-- A text begins with a word where its first bytes are those of the word.
use Rattle.std.proofs.Common.{◌≡◌, ℕ, List, [], ◌∷◌, length, take, ◌&&◌, refl, ap}
use Rattle.std.specs.Prelude.{◌==◌, nat_eq}
use Rattle.std.specs.List.{starts_with}
use Rattle.rx_hoist_extraction.specs.FreeName.{begins_with}

pub begins : (word text : List ℕ) → starts_with nat_eq text word ≡ begins_with word text
begins [] text = refl
begins (b ∷ bs) [] = refl
begins (b ∷ bs) (c ∷ cs) = ap (λ r. (b == c) && r) (begins bs cs)
