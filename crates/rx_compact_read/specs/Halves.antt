-- Words of which each `&&` counts as two `&`, as it does in a type (Rust Reference, "Pointer types").
use Rattle.std.specs.Prelude.{ℕ, Bool, false, if◌then◌else◌, List, [], ◌∷◌, codes}
use Rattle.rx_core.specs.Bytes.{same_bytes}
use Rattle.rx_lex.specs.declared.token.Class.{Class}
use Rattle.rx_lex.specs.declared.token.Class.TheVariants.{Mark}
use Rattle.rx_lex.specs.Tok.{Tok}
use Rattle.rx_parse_laws.specs.Words.{words}

abbrev pub is_double : Class → List ℕ → Bool
is_double Mark w = same_bytes w (codes "&&")
is_double c w = false

abbrev pub ampersand : Class × List ℕ
ampersand = (Mark, codes "&")

-- each `&&` as two
abbrev pub halves : List (Class × List ℕ) → List (Class × List ℕ)
halves [] = []
halves (p ∷ ps) = if is_double p.0 p.1 then ampersand ∷ ampersand ∷ halves ps else p ∷ halves ps

abbrev pub halves_of : List Tok → List (Class × List ℕ)
halves_of ts = halves (words ts)
