-- The words that are tokens (Rust Reference, "Identifiers", "Keywords", "Punctuation").
use Rattle.std.specs.Prelude.{◌≡◌, ℕ, ◌≤◌, Bool, true, false, not, ◌==◌, ◌&&◌, ◌||◌, nat_le, if◌then◌else◌, List, [], ◌∷◌, ◌++◌, Option, codes}
use Rattle.std.specs.List.{list_all}
use Rattle.std.specs.Char.{is_ascii}
use Rattle.std.specs.Str.{chars, is_utf8}
use Rattle.unicode_ident.specs.Ident.{is_xid_start, is_xid_continue}
use Rattle.unicode_normalization.specs.Forms.{is_nfc}
use Rattle.rx_core.specs.declared.types.Kind.{Kind}
use Rattle.rx_core.specs.Bytes.{same_bytes, is_one_of}
use Rattle.rx_lex.specs.declared.token.Class.{Class}
use Rattle.rx_lex.specs.declared.token.Class.TheVariants.{Identifier, Keyword, Lifetime, Number, Format, Mark}
use Rattle.rx_lex.specs.Numerals.{is_digit, IsNumeral, greatest}

abbrev pub is_letter : ℕ → Bool
is_letter c = (nat_le 97 c && nat_le c 122) || (nat_le 65 c && nat_le c 90)

abbrev pub is_ascii_start : ℕ → Bool
is_ascii_start c = is_letter c || (c == 95)

abbrev pub is_ascii_continue : ℕ → Bool
is_ascii_continue c = is_ascii_start c || is_digit c

-- the characters that an identifier may begin with, and go on with
abbrev pub is_start : ℕ → Bool
is_start c = is_ascii_start c || (nat_le 128 c && is_xid_start c)

abbrev pub is_continue : ℕ → Bool
is_continue c = is_ascii_continue c || (nat_le 128 c && is_xid_continue c)

abbrev pub keywords : List (List ℕ)
keywords =
    codes "as" ∷ codes "async" ∷ codes "await" ∷ codes "break" ∷ codes "const" ∷ codes "continue" ∷ codes "crate" ∷ codes "dyn"
    ∷ codes "else" ∷ codes "enum" ∷ codes "extern" ∷ codes "false" ∷ codes "fn" ∷ codes "for" ∷ codes "gen" ∷ codes "if"
    ∷ codes "impl" ∷ codes "in" ∷ codes "let" ∷ codes "loop" ∷ codes "match" ∷ codes "mod" ∷ codes "move" ∷ codes "mut"
    ∷ codes "pub" ∷ codes "ref" ∷ codes "return" ∷ codes "self" ∷ codes "Self" ∷ codes "static" ∷ codes "struct" ∷ codes "super"
    ∷ codes "trait" ∷ codes "true" ∷ codes "type" ∷ codes "unsafe" ∷ codes "use" ∷ codes "where" ∷ codes "while" ∷ codes "abstract"
    ∷ codes "become" ∷ codes "box" ∷ codes "do" ∷ codes "final" ∷ codes "macro" ∷ codes "override" ∷ codes "priv" ∷ codes "try"
    ∷ codes "typeof" ∷ codes "unsized" ∷ codes "virtual" ∷ codes "yield"
    ∷ codes "u8" ∷ codes "u32" ∷ codes "u64" ∷ codes "i32" ∷ codes "i64" ∷ codes "bool" ∷ []

abbrev pub marks : List (List ℕ)
marks =
    codes "->" ∷ codes "=>" ∷ codes "::" ∷ codes "==" ∷ codes "!=" ∷ codes "<=" ∷ codes ">=" ∷ codes "&&" ∷ codes "||"
    ∷ codes "+=" ∷ codes "-=" ∷ codes "*=" ∷ codes "/=" ∷ codes "%="
    ∷ codes "(" ∷ codes ")" ∷ codes "{" ∷ codes "}" ∷ codes "[" ∷ codes "]" ∷ codes "<" ∷ codes ">" ∷ codes "," ∷ codes ";"
    ∷ codes ":" ∷ codes "." ∷ codes "=" ∷ codes "+" ∷ codes "-" ∷ codes "*" ∷ codes "/" ∷ codes "%" ∷ codes "!" ∷ codes "&"
    ∷ codes "#" ∷ codes "_" ∷ []

-- whether the characters are such a first one and then such others
abbrev pub spells_name : List ℕ → Bool
spells_name [] = false
spells_name (c ∷ cs) = is_start c && list_all is_continue cs

-- the bytes are a text that spells a name and is in the normalization form C; a text of ASCII is, and its characters are its bytes
abbrev pub is_name : List ℕ → Bool
is_name w = if list_all is_ascii w then spells_name w else is_utf8 w && (spells_name (chars w) && is_nfc (chars w))

-- not `_` alone, no keyword
abbrev pub is_identifier : List ℕ → Bool
is_identifier w = is_name w && not (same_bytes w (codes "_")) && not (is_one_of w keywords)

-- what may stand behind the `'` of a lifetime
abbrev pub is_lifetime_name : List ℕ → Bool
is_lifetime_name w = is_identifier w || same_bytes w (codes "_")

-- `"{}"`
abbrev pub format_text : List ℕ
format_text = 34 ∷ 123 ∷ 125 ∷ 34 ∷ []

-- the word is of this class
pub data IsWord : Class → List ℕ → Type 0 where
  identifier : {w : List ℕ} → is_identifier w ≡ true → IsWord Identifier w
  keyword : {w : List ℕ} → is_one_of w keywords ≡ true → IsWord Keyword w
  lifetime : {w name : List ℕ} → is_lifetime_name name ≡ true → w ≡ codes "'" ++ name → IsWord Lifetime w
  number : {w : List ℕ} {v : ℕ} {k : Option Kind} → IsNumeral w v k → v ≤ greatest → IsWord Number w
  format : {w : List ℕ} → w ≡ format_text → IsWord Format w
  mark : {w : List ℕ} → is_one_of w marks ≡ true → IsWord Mark w

-- whether the first of the characters goes on an identifier
abbrev pub begins_continue : List ℕ → Bool
begins_continue [] = false
begins_continue (c ∷ cs) = is_continue c

-- whether a text begins with a character that goes on an identifier
abbrev pub goes_on : List ℕ → Bool
goes_on [] = false
goes_on (b ∷ bs) = is_ascii_continue b || (nat_le 128 b && begins_continue (chars (b ∷ bs)))

abbrev pub begins_with_star : List ℕ → Bool
begins_with_star [] = false
begins_with_star (c ∷ cs) = c == 42

-- what may not follow the word directly
abbrev pub may_follow : Class → List ℕ → List ℕ → Bool
may_follow Identifier w rest = not (goes_on rest)
may_follow Keyword w rest = not (goes_on rest)
may_follow Lifetime w rest = not (goes_on rest)
may_follow Number w rest = not (goes_on rest)
may_follow Format w rest = true
may_follow Mark w rest = not (same_bytes w (codes "_") && goes_on rest) && not (same_bytes w (codes "/") && begins_with_star rest)
