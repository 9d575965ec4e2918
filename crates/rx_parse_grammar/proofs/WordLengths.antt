-- A word that is as long as no entry of a table is none of them.
use Rattle.std.proofs.Common.{◌≡◌, ◌≢◌, ℕ, zero, List, [], ◌∷◌, length, nat_eq, refl, sym}
use Rattle.std.specs.Cmp.Lexicographic.{unequal}
use Rattle.rx_parse_grammar.specs.declared.symbol.Symbol.{Symbol}
use Rattle.rx_parse_grammar.specs.declared.symbol.Symbol.TheVariants as symbol
use Rattle.rx_parse_grammar.specs.parser.Symbols.{lookup, marks, mark}

abbrev NoneAsLong : List (List ℕ × Symbol) → ℕ → Type 0
NoneAsLong [] n = zero ≡ zero
NoneAsLong (k ∷ ks) n = (length k.0 ≢ n) × NoneAsLong ks n

others : (ks : List (List ℕ × Symbol)) (w : List ℕ) → NoneAsLong ks (length w) → lookup ks w ≡ symbol.Other
others [] w apart = refl
others (k ∷ ks) w apart = rw (unequal nat_eq k.0 w apart.0) (others ks w apart.1)

pub no_mark : (w : List ℕ) → 1 ≢ length w → 2 ≢ length w → symbol.Other ≡ mark w
unfolding mark
no_mark w one two = sym (others marks w
    (two, (two, (two, (two, (two, (two, (two, (two, (two, (two, (two, (two, (two, (two, (one, (one, (one, (one, (one, (one, (one, (one, (one, (one, (one, (one, (one, (one, (one, (one, (one, (one, (one, (one, (one, (one, refl)))))))))))))))))))))))))))))))))))))
