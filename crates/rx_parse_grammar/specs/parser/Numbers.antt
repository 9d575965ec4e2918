-- The value and the suffix of a number (Rust Reference, "Integer literals"), as functions of its text.
use Rattle.std.specs.Prelude.{ℕ, Bool, ◌&&◌, if◌then◌else◌, nat_le, List, [], ◌∷◌, take, drop, Option, Some, None}
use Rattle.std.specs.List.{list_all, list_any}
use Rattle.std.specs.Str.{bytes_eq}
use Rattle.rx_core.specs.declared.types.Span.{Span}
use Rattle.rx_core.specs.declared.types.Kind.{Kind}
use Rattle.rx_core.specs.declared.types.Kind.TheVariants.{U8, U32, U64, I32, I64}
use Rattle.rx_lex.specs.declared.numeral.Base.{Base}
use Rattle.rx_lex.specs.Numerals.{radix, is_digit_of, is_among, value_from, kind_name, greatest}
use Rattle.rx_lex.specs.Digits.{body_length, base_of, is_decimal}
use Rattle.rx_parse_grammar.specs.declared.symbol.Symbol.TheVariants as symbol
use Rattle.rx_parse_grammar.specs.grammar.Words.{is_index}
use Rattle.rx_parse_grammar.specs.parser.Symbols.{head}
use Rattle.rx_parse_grammar.specs.parser.Steps.{Parser, ◌>>=◌, pure, refuse, expect}

-- whether these are digits, with the prefix of their base
abbrev pub is_body : Option Base → List ℕ → Bool
is_body None w = is_decimal w
is_body (Some b) w = list_all (is_among b) (drop 2 w) && list_any (is_digit_of b) (drop 2 w)

abbrev pub body_value : Option Base → List ℕ → ℕ
body_value None w = value_from 10 0 w
body_value (Some b) w = value_from (radix b) 0 (drop 2 w)

-- the value of a text without a suffix, if it is at most the greatest
abbrev pub value_of : List ℕ → Option ℕ
value_of w = if is_body (base_of w) w && nat_le (body_value (base_of w) w) greatest then Some (body_value (base_of w) w) else None

-- the suffix of this name, which may be none
abbrev pub suffix_named : List ℕ → Option (Option Kind)
suffix_named [] = Some None
suffix_named (c ∷ cs) =
    if bytes_eq (c ∷ cs) (kind_name U8) then Some (Some U8)
    else (if bytes_eq (c ∷ cs) (kind_name U32) then Some (Some U32)
    else (if bytes_eq (c ∷ cs) (kind_name U64) then Some (Some U64)
    else (if bytes_eq (c ∷ cs) (kind_name I32) then Some (Some I32)
    else (if bytes_eq (c ∷ cs) (kind_name I64) then Some (Some I64) else None))))

abbrev pub paired : Option ℕ → Option (Option Kind) → Option (ℕ × Option Kind)
paired (Some v) (Some k) = Some (v, k)
paired (Some v) None = None
paired None k = None

-- the value and the suffix of a text that is a number
unfoldable pub numeral : List ℕ → Option (ℕ × Option Kind)
numeral w = paired (value_of (take (body_length w) w)) (suffix_named (drop (body_length w) w))

-- the value of a text that is an index
unfoldable pub index_value : List ℕ → Option ℕ
index_value w = if is_index w && nat_le (value_from 10 0 w) greatest then Some (value_from 10 0 w) else None

-- a number where it stands
pub record Numbered : Type 0 where
  pub span : Span
  pub value : ℕ
  pub suffix : Option Kind

abbrev pub number_by : Option (ℕ × Option Kind) → Parser Numbered
number_by None = refuse
number_by (Some n) = expect symbol.Number >>= (λ t. pure (record { span = t.span; value = n.0; suffix = n.1 }))

unfoldable pub number : Parser Numbered
number = λ i. number_by (numeral (head i).text) i

abbrev pub index_by : Option ℕ → Parser (ℕ × Span)
index_by None = refuse
index_by (Some v) = expect symbol.Number >>= (λ t. pure (v, t.span))

unfoldable pub index : Parser (ℕ × Span)
index = λ i. index_by (index_value (head i).text) i
