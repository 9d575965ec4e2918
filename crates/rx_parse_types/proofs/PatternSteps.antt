-- Steps of the parser of patterns, for the goals of the code.
use Rattle.std.proofs.Common.{◌≡◌, ℕ, suc, zero, ◌-◌, ◌<◌, List, [], Ok, Err, refl, subst, arith}
use Rattle.rx_tree.specs.Plain.{PatternTree}
use Rattle.rx_lex.specs.Tok.{Tok}
use Rattle.rx_parse_grammar.specs.declared.stop.Stop.{Stop}
use Rattle.rx_parse_grammar.specs.declared.symbol.Symbol.TheVariants as symbol
use Rattle.rx_parse_grammar.specs.parser.Symbols.{peek}
use Rattle.rx_parse_grammar.specs.parser.Steps.{Parser, Got, expect}
use Rattle.rx_parse_grammar.specs.parser.Lists.{elements}
use Rattle.rx_parse_grammar.specs.parser.Patterns.{pattern, pattern_by, field_pattern, struct_pattern}

pub pattern_is : (d : ℕ) (i : List Tok) → 0 < d → pattern d i ≡ pattern_by (pattern (d - 1)) (d - 1) (peek i) i
unfolding pattern
pattern_is zero i some = absurd (omega arith)
pattern_is (suc d) i some = let e : d ≡ suc d - 1 = omega arith in subst (λ z. pattern (suc d) i ≡ pattern_by (pattern z) z (peek i) i) e refl

pub struct_fault : (N : Parser (Got PatternTree)) (d : ℕ) (n t : Tok) (i j : List Tok) (f : Stop) → expect symbol.OpenBrace i ≡ Ok (t, j)
    → elements symbol.CloseBrace (field_pattern N d) [] 0 j ≡ Err f → struct_pattern N d n i ≡ Err f
unfolding struct_pattern
struct_fault N d n t i j f e r = rw (e, r)
