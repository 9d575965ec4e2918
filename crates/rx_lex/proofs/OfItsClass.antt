-- What a word of a known class is: by the one constructor of that class.
use Rattle.std.proofs.Common.{◌≡◌, ℕ, ◌≤◌, true, List, ◌++◌, Option}
use Rattle.std.specs.Prelude.{codes}
use Rattle.rx_core.specs.declared.types.Kind.{Kind}
use Rattle.rx_core.specs.Bytes.{is_one_of}
use Rattle.rx_lex.specs.declared.token.Class.{Class}
use Rattle.rx_lex.specs.declared.token.Class.TheVariants.{Identifier, Keyword, Lifetime, Number, Format, Mark}
use Rattle.rx_lex.specs.Numerals.{IsNumeral, greatest}
use Rattle.rx_lex.specs.Words.{IsWord, identifier, keyword, lifetime, number, format, mark, is_lifetime_name, keywords, marks, is_identifier, format_text}

pub identifier_is : {c : Class} {w : List ℕ} → IsWord c w → c ≡ Identifier → is_identifier w ≡ true
identifier_is (identifier i) e = i
identifier_is (keyword i) e = absurd (cc)
identifier_is (lifetime i d) e = absurd (cc)
identifier_is (number i b) e = absurd (cc)
identifier_is (format i) e = absurd (cc)
identifier_is (mark i) e = absurd (cc)

pub keyword_is : {c : Class} {w : List ℕ} → IsWord c w → c ≡ Keyword → is_one_of w keywords ≡ true
keyword_is (identifier i) e = absurd (cc)
keyword_is (keyword i) e = i
keyword_is (lifetime i d) e = absurd (cc)
keyword_is (number i b) e = absurd (cc)
keyword_is (format i) e = absurd (cc)
keyword_is (mark i) e = absurd (cc)

-- a lifetime is `'` and its name
pub record LifetimeOf (w : List ℕ) : Type 0 where
  pub name : List ℕ
  pub named : is_lifetime_name name ≡ true
  pub is : w ≡ codes "'" ++ name

pub lifetime_is : {c : Class} {w : List ℕ} → IsWord c w → c ≡ Lifetime → LifetimeOf w
lifetime_is (identifier i) e = absurd (cc)
lifetime_is (keyword i) e = absurd (cc)
lifetime_is (lifetime {name = name} i d) e = record { name = name; named = i; is = d }
lifetime_is (number i b) e = absurd (cc)
lifetime_is (format i) e = absurd (cc)
lifetime_is (mark i) e = absurd (cc)

-- a number has a value of 64 bits and perhaps a suffix
pub record NumberOf (w : List ℕ) : Type 0 where
  pub value : ℕ
  pub suffix : Option Kind
  pub numeral : IsNumeral w value suffix
  pub fits : value ≤ greatest

pub number_is : {c : Class} {w : List ℕ} → IsWord c w → c ≡ Number → NumberOf w
number_is (identifier i) e = absurd (cc)
number_is (keyword i) e = absurd (cc)
number_is (lifetime i d) e = absurd (cc)
number_is (number {v = v} {k = k} i b) e = record { value = v; suffix = k; numeral = i; fits = b }
number_is (format i) e = absurd (cc)
number_is (mark i) e = absurd (cc)

pub format_is : {c : Class} {w : List ℕ} → IsWord c w → c ≡ Format → w ≡ format_text
format_is (identifier i) e = absurd (cc)
format_is (keyword i) e = absurd (cc)
format_is (lifetime i d) e = absurd (cc)
format_is (number i b) e = absurd (cc)
format_is (format i) e = i
format_is (mark i) e = absurd (cc)

pub mark_is : {c : Class} {w : List ℕ} → IsWord c w → c ≡ Mark → is_one_of w marks ≡ true
mark_is (identifier i) e = absurd (cc)
mark_is (keyword i) e = absurd (cc)
mark_is (lifetime i d) e = absurd (cc)
mark_is (number i b) e = absurd (cc)
mark_is (format i) e = absurd (cc)
mark_is (mark i) e = i
