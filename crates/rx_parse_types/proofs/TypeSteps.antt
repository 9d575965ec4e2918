-- Steps of the parser of types, for the goals of the code.
use Rattle.std.proofs.Common.{◌≡◌, ℕ, suc, zero, ◌-◌, ◌<◌, true, false, List, ◌∷◌, None, Ok, Err, refl, subst, arith}
use Rattle.std.specs.Prelude.{nat_lt}
use Rattle.std.proofs.lemmas.Bool.{le-ltb}
use Rattle.rx_tree.specs.Plain as plain
use Rattle.rx_tree.specs.Plain.{TypeTree}
use Rattle.rx_lex.specs.Tok.{Tok}
use Rattle.rx_parse_grammar.specs.declared.stop.Stop.{Stop}
use Rattle.rx_parse_grammar.specs.declared.symbol.Symbol.TheVariants as symbol
use Rattle.rx_parse_grammar.specs.grammar.Words.{join, second_ampersand}
use Rattle.rx_parse_grammar.specs.parser.Symbols.{head, tail, peek}
use Rattle.rx_parse_grammar.specs.parser.Steps.{Parser, Got, node, sees, expect}
use Rattle.rx_parse_grammar.specs.parser.Types.{typ, type_by, two_references}
use Rattle.rx_parse_grammar.proofs.SymbolLemmas.{seen}

pub typ_is : (d : ℕ) (i : List Tok) → 0 < d → typ d i ≡ type_by (typ (d - 1)) (d - 1) (peek i) i
unfolding typ
typ_is zero i some = absurd (omega arith)
typ_is (suc d) i some = let e : d ≡ suc d - 1 = omega arith in subst (λ z. typ (suc d) i ≡ type_by (typ z) z (peek i) i) e refl

roomy : (d : ℕ) → nat_lt (suc d) 1 ≡ false
roomy d = le-ltb (suc d) 1 (omega arith)

module _ (N : Parser (Got TypeTree)) where
  pub two_fault : (d : ℕ) (i : List Tok) (f : Stop) → 0 < d → peek i ≡ symbol.AndAnd → N (second_ampersand (head i) ∷ tail i) ≡ Err f → two_references N d i ≡ Err f
  unfolding two_references expect
  two_fault zero i f some p r = absurd (omega arith)
  two_fault (suc d) i f some p r = let s : sees symbol.AndAnd i ≡ true = seen symbol.AndAnd i p in rw (roomy d, s, r)

  pub two_made : (d : ℕ) (i j : List Tok) (y : Got TypeTree) → 0 < d → peek i ≡ symbol.AndAnd → N (second_ampersand (head i) ∷ tail i) ≡ Ok (y, j)
      → two_references N d i ≡ Ok (node (λ s. plain.ref_type s None false y.tree) (join (head i).span y.span) y.height, j)
  unfolding two_references expect
  two_made zero i j y some p r = absurd (omega arith)
  two_made (suc d) i j y some p r = let s : sees symbol.AndAnd i ≡ true = seen symbol.AndAnd i p in rw (roomy d, s, r)
