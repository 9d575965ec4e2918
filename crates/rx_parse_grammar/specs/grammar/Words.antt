-- The tokens that productions name, and where a production stands.
use Rattle.std.specs.Prelude.{◌≡◌, ◌≢◌, ℕ, ◌+◌, ◌≤◌, max, Bool, true, false, ◌&&◌, not, ◌==◌, List, [], ◌∷◌, ◌++◌, Option, codes}
use Rattle.std.specs.List.{list_all}
use Rattle.rx_core.specs.declared.types.Span.{Span}
use Rattle.rx_core.specs.declared.types.Kind.{Kind}
use Rattle.rx_tree.specs.declared.tree.Ident.{Ident}
use Rattle.rx_lex.specs.declared.token.Class.TheVariants as class
use Rattle.rx_lex.specs.Tok.{Tok}
use Rattle.rx_lex.specs.Numerals.{IsNumeral, is_digit, value_from, greatest}

abbrev pub IsMark : List ℕ → Tok → Type 0
IsMark w t = (t.class ≡ class.Mark) × (t.text ≡ w)

abbrev pub IsKeyword : List ℕ → Tok → Type 0
IsKeyword w t = (t.class ≡ class.Keyword) × (t.text ≡ w)

abbrev pub IsName : Tok → Type 0
IsName t = t.class ≡ class.Identifier

-- a name that is this word, as `rt` and `println`
abbrev pub IsNamed : List ℕ → Tok → Type 0
IsNamed w t = IsName t × (t.text ≡ w)

abbrev pub IsFormat : Tok → Type 0
IsFormat t = t.class ≡ class.Format

-- a lifetime other than `'_`
abbrev pub IsLifetime : Tok → Type 0
IsLifetime t = (t.class ≡ class.Lifetime) × (t.text ≢ codes "'_")

abbrev pub IsAnonymous : Tok → Type 0
IsAnonymous t = (t.class ≡ class.Lifetime) × (t.text ≡ codes "'_")

-- a number with this value and this suffix
pub record IsNumber (t : Tok) (v : ℕ) (k : Option Kind) : Type 0 where
  pub class : t.class ≡ class.Number
  pub numeral : IsNumeral t.text v k
  pub fits : v ≤ greatest

-- decimal digits, the first of which is 0 only where it is the only one
abbrev pub is_index : List ℕ → Bool
is_index [] = false
is_index (c ∷ []) = is_digit c
is_index (c ∷ d ∷ cs) = is_digit c && (not (c == 48) && list_all is_digit (d ∷ cs))

-- an index of a tuple
pub record IsIndex (t : Tok) (v : ℕ) : Type 0 where
  pub class : t.class ≡ class.Number
  pub digits : is_index t.text ≡ true
  pub value : v ≡ value_from 10 0 t.text
  pub fits : v ≤ greatest

-- from the first token of one place to the last of another
abbrev pub join : Span → Span → Span
join a b = record { start = a.start; end = b.end }

abbrev pub final_span : Span → List Tok → Span
final_span s [] = s
final_span s (t ∷ ts) = final_span t.span ts

-- from the first token to the last
abbrev pub span_of : List Tok → Span
span_of [] = record { start = 0; end = 0 }
span_of (t ∷ ts) = join t.span (final_span t.span ts)

abbrev pub ident : Tok → Ident
ident t = record { span = t.span; name = t.text }

-- the mark `&&` counts as two `&`: the second of them
abbrev pub second_ampersand : Tok → Tok
second_ampersand t = record { class = class.Mark; span = record { start = t.span.start + 1; end = t.span.end }; text = codes "&" }

-- `mut`, or nothing
pub data IsMutability : List Tok → Bool → Type 0 where
  immutable : IsMutability [] false
  mutable : (t : Tok) → IsKeyword (codes "mut") t → IsMutability (t ∷ []) true

-- elements with commas between them and perhaps behind the last; the last number is the most that an element has
pub data IsListOf {A : Type 0} (E : List Tok → A → ℕ → Type 0) : List Tok → List A → ℕ → Type 0 where
  no_element : IsListOf E [] [] 0
  last_element : {ts : List Tok} {x : A} {h : ℕ} → E ts x h → IsListOf E ts (x ∷ []) h
  element : {ts : List Tok} (us vs : List Tok) (c : Tok) (x : A) (xs : List A) (m n : ℕ) → E us x m → IsMark (codes ",") c → IsListOf E vs xs n
      → ts ≡ us ++ (c ∷ vs) → IsListOf E ts (x ∷ xs) (max m n)
