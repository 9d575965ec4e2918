-- The words of a text by their class (Rust Reference, "Identifiers", "Lifetimes and loop labels").
use Rattle.std.specs.Prelude.{ℕ, Bool, true, false, if◌then◌else◌, List, [], ◌∷◌, ◌++◌}
use Rattle.rx_lex.specs.declared.token.Class.{Class}
use Rattle.rx_lex.specs.declared.token.Class.TheVariants.{Identifier, Keyword, Lifetime, Number, Format, Mark}
use Rattle.rx_lex.specs.Tok.{Tok}
use Rattle.rx_hoist_extraction.specs.Names.{Names}

abbrev pub is_identifier_class : Class → Bool
is_identifier_class Identifier = true
is_identifier_class Keyword = false
is_identifier_class Lifetime = false
is_identifier_class Number = false
is_identifier_class Format = false
is_identifier_class Mark = false

abbrev pub is_lifetime_class : Class → Bool
is_lifetime_class Identifier = false
is_lifetime_class Keyword = false
is_lifetime_class Lifetime = true
is_lifetime_class Number = false
is_lifetime_class Format = false
is_lifetime_class Mark = false

-- those of a class, in the order of the text
abbrev pub word_of : (Class → Bool) → Tok → Names
word_of P t = if P t.class then t.text ∷ [] else []

abbrev pub words_of : (Class → Bool) → List Tok → Names
words_of P [] = []
words_of P (t ∷ ts) = word_of P t ++ words_of P ts

abbrev pub identifiers : List Tok → Names
identifiers ts = words_of is_identifier_class ts

-- a lifetime's or label's word begins with its `'`
abbrev pub lifetimes : List Tok → Names
lifetimes ts = words_of is_lifetime_class ts
