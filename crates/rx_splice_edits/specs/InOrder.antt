-- Tokens in the order of the text (Rust Reference, "Lexical structure"), and those that begin in front of a place.
use Rattle.std.specs.Prelude.{ℕ, Bool, true, false, ◌==◌, ◌&&◌, if◌then◌else◌, nat_le, nat_lt, List, [], ◌∷◌, codes}
use Rattle.rx_core.specs.Bytes.{same_bytes}
use Rattle.rx_lex.specs.Tok.{Tok}

-- none is empty, and each begins where the one before it ends, or later; the first begins at a place or later
abbrev pub in_order : ℕ → List Tok → Bool
in_order from [] = true
in_order from (t ∷ ts) = nat_le from t.span.start && (nat_lt t.span.start t.span.end && in_order t.span.end ts)

-- the tokens in front of the first that begins here or later
abbrev pub in_front : ℕ → List Tok → List Tok
in_front at [] = []
in_front at (t ∷ ts) = if nat_le at t.span.start then [] else t ∷ in_front at ts

-- whether the last is a mark `/` that ends here
abbrev pub last_slash : ℕ → List Tok → Bool
last_slash at [] = false
last_slash at (t ∷ []) = (t.span.end == at) && same_bytes t.text (codes "/")
last_slash at (t ∷ u ∷ ts) = last_slash at (u ∷ ts)

-- the tokens behind the first, where it begins here
abbrev pub behind_first : ℕ → List Tok → List Tok
behind_first at [] = []
behind_first at (t ∷ ts) = if t.span.start == at then ts else []

-- the first word, where it begins here
abbrev pub text_first : ℕ → List Tok → List ℕ
text_first at [] = []
text_first at (t ∷ ts) = if t.span.start == at then t.text else []
