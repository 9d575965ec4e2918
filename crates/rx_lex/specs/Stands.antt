-- What may follow a word that is to be a token (Rust Reference, "Tokens": the longest word is the token), by its first byte.
use Rattle.std.specs.Prelude.{ℕ, Bool, true, false, not, ◌==◌, ◌&&◌, ◌||◌, List, [], ◌∷◌, ◌++◌, codes}
use Rattle.rx_core.specs.Bytes.{same_bytes, is_one_of}
use Rattle.rx_lex.specs.declared.token.Class.{Class}
use Rattle.rx_lex.specs.declared.token.Class.TheVariants.{Identifier, Keyword, Lifetime, Number, Format, Mark}
use Rattle.rx_lex.specs.Words.{marks, goes_on}

-- whether the mark and the first byte of the rest are a longer mark
abbrev pub makes_longer : List ℕ → List ℕ → Bool
makes_longer w [] = false
makes_longer w (c ∷ cs) = is_one_of (w ++ (c ∷ [])) marks

-- whether a `/` before this rest begins a comment
abbrev pub makes_comment : List ℕ → Bool
makes_comment [] = false
makes_comment (c ∷ cs) = (c == 42) || (c == 47)

-- whether the mark ends before this rest
abbrev pub stands_alone : List ℕ → List ℕ → Bool
stands_alone w rest = not (makes_longer w rest) && (not (same_bytes w (codes "_") && goes_on rest) && not (same_bytes w (codes "/") && makes_comment rest))

-- whether the word ends before this rest
abbrev pub stands : Class → List ℕ → List ℕ → Bool
stands Identifier w rest = not (goes_on rest)
stands Keyword w rest = not (goes_on rest)
stands Lifetime w rest = not (goes_on rest)
stands Number w rest = not (goes_on rest)
stands Format w rest = true
stands Mark w rest = stands_alone w rest
