-- Words and lists of them, as bytes.
use Rattle.std.specs.Prelude.{ℕ, Bool, true, false, ◌==◌, ◌&&◌, ◌||◌, List, [], ◌∷◌}

-- whether both are the same bytes
abbrev pub same_bytes : List ℕ → List ℕ → Bool
same_bytes [] [] = true
same_bytes (a ∷ as') (b ∷ bs) = (a == b) && same_bytes as' bs
same_bytes _ _ = false

-- whether the word is one of these
abbrev pub is_one_of : List ℕ → List (List ℕ) → Bool
is_one_of w [] = false
is_one_of w (v ∷ vs) = same_bytes w v || is_one_of w vs
