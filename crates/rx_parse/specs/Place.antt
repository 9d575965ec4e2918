-- Where the tokens of a text stop: at a token, or at the text's end.
use Rattle.std.specs.Prelude.{ℕ, ◌-◌, List, [], ◌∷◌, length, drop}
use Rattle.rx_lex.specs.Tok.{Tok}
use Rattle.rx_parse_grammar.specs.declared.stop.Stop.{Stop}
use Rattle.rx_parse_grammar.specs.declared.stop.Stop.TheVariants as stop
use Rattle.rx_parse.specs.declared.fault.SyntaxFault.{SyntaxFault}
use Rattle.rx_parse.specs.declared.fault.SyntaxFault.TheVariants as fault

-- where the first of these tokens stands, or the end
abbrev pub start_of : List Tok → ℕ → ℕ
start_of [] end = end
start_of (t ∷ ts) end = t.span.start

-- where the token stands before which so many tokens end
abbrev pub place_of : ℕ → List Tok → ℕ → ℕ
place_of left ts end = start_of (drop (length ts - left) ts) end

abbrev pub fault_of : Stop → List Tok → ℕ → SyntaxFault
fault_of stop.OutOfMemory ts end = fault.OutOfMemory
fault_of (stop.Syntax left) ts end = fault.Syntax (place_of left ts end)
fault_of (stop.TooDeep left) ts end = fault.TooDeep (place_of left ts end)
