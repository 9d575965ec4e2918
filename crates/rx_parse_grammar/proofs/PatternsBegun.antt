-- What the tokens begin that the parser of patterns passed before it stopped.
use Rattle.rx_parse_grammar.proofs.PatternsDerived.{patterns_are, fields_are}
use Rattle.std.proofs.Common.{◌≡◌, ℕ, zero, suc, max, true, false, None, codes, [], ◌∷◌, ◌++◌, refl, sym, ap, subst, ◌∙◌, arith}
use Rattle.rx_tree.specs.Plain as plain
use Rattle.rx_tree.specs.Plain.{PatternTree}
use Rattle.rx_tree.specs.PlainOf.{patterns_of, field_patterns_of}
use Rattle.rx_lex.specs.Tok.{Tok}
use Rattle.rx_parse_grammar.specs.declared.symbol.Symbol.{Symbol}
use Rattle.rx_parse_grammar.specs.declared.symbol.Symbol.TheVariants as symbol
use Rattle.rx_parse_grammar.specs.grammar.Words.{join, span_of, ident}
use Rattle.rx_parse_grammar.specs.grammar.Patterns.{IsPattern, ArePatterns, IsFieldPattern, AreFieldPatterns}
use Rattle.rx_parse_grammar.specs.grammar.Patterns as g
use Rattle.rx_parse_grammar.specs.parser.Patterns.{begins_pattern, mutable_binding, number_pattern, negative_pattern, variant_pattern, long_field, short_field, field_pattern, field_pattern_by, struct_pattern, named_pattern, named_pattern_by, pattern_by, pattern}
use Rattle.rx_lex.specs.declared.token.Class.TheVariants as class
use Rattle.rx_lex.specs.Words.{IsWord}
use Rattle.rx_parse_grammar.specs.parser.Symbols.{symbol_of}
use Rattle.rx_parse_grammar.proofs.SymbolLemmas.{Stands, stands}
use Rattle.rx_parse_grammar.proofs.Reading.{span_between, span_past}
use Rattle.rx_parse_grammar.proofs.Begun.{spelled, took, passed_last, gave, chose, either, refused, Known, any, at, Begun, Completes, roomed, roomy, stopped, stand_in, stand_in_stands, words_of}
use Rattle.rx_parse_grammar.proofs.BegunLists.{Fits, fits_leaf, fits_node, listed_found, some_listed_found, group_found, whole_part}
use Rattle.rx_parse_grammar.proofs.BegunWords.{is_number, number_took, zero_is, zero_words}
use Rattle.rx_parse_grammar.proofs.PatternsRead.{pattern_some}

mutable_begun : {K : Known} → Begun K mutable_binding (Fits IsPattern)
unfolding mutable_binding
mutable_begun = took symbol.Mut refl (λ m sm. took symbol.Name refl (λ n sn. gave (fits_leaf (λ s. plain.bind s (ident n) true) refl (g.mutable_binding m n sm sn refl))))

number_begun : {K : Known} → Begun K number_pattern (Fits IsPattern)
unfolding number_pattern
number_begun = number_took _ (λ t v k s. gave (fits_leaf (λ s. plain.int_pattern s false v k) refl (g.number t v k s refl)))

negative_begun : {K : Known} → Begun K negative_pattern (Fits IsPattern)
unfolding negative_pattern
negative_begun = took symbol.Minus refl (λ m sm. number_took _ (λ t v k s. gave (fits_leaf (λ s. plain.int_pattern s true v k) refl (g.negative m t v k sm s refl))))

-- ---- what a pattern begins with

pub pattern_completes : Completes (Fits IsPattern) []
pattern_completes = whole_part [] (stand_in symbol.Name ∷ []) _ _ (words_of (symbol.Name ∷ []) refl) (g.binding (stand_in symbol.Name) (stand_in_stands symbol.Name refl) refl)

first_pattern : (q : Symbol) → begins_pattern q ≡ true → (t : Tok) → Stands q t → IsWord t.class t.text → Completes (Fits IsPattern) (t ∷ [])
first_pattern symbol.Name e t s w = whole_part (t ∷ []) [] _ _ tt (g.binding t s refl)
first_pattern symbol.Number e t s w = let n = is_number t w s in whole_part (t ∷ []) [] _ _ tt (g.number t n.0 n.1 n.2 refl)
first_pattern symbol.Mut e t s w = whole_part (t ∷ []) (stand_in symbol.Name ∷ []) _ _ (words_of (symbol.Name ∷ []) refl) (g.mutable_binding t (stand_in symbol.Name) s (stand_in_stands symbol.Name refl) refl)
first_pattern symbol.True e t s w = whole_part (t ∷ []) [] _ _ tt (g.true_is t s refl)
first_pattern symbol.False e t s w = whole_part (t ∷ []) [] _ _ tt (g.false_is t s refl)
first_pattern symbol.Underscore e t s w = whole_part (t ∷ []) [] _ _ tt (g.wild t s refl)
first_pattern symbol.Minus e t s w = whole_part (t ∷ []) (spelled class.Number (codes "0") ∷ []) _ _ zero_words (g.negative t (spelled class.Number (codes "0")) 0 None s zero_is refl)
first_pattern symbol.OpenParen e t s w = whole_part (t ∷ []) (stand_in symbol.CloseParen ∷ []) _ _ (words_of (symbol.CloseParen ∷ []) refl) (g.unit t (stand_in symbol.CloseParen) s (stand_in_stands symbol.CloseParen refl) refl)
first_pattern _ e t s w = absurd (cc)

module _ (d : ℕ) (ok : Begun any (pattern d) (Fits IsPattern)) where
  variant_begun : {K : Known} (e : Tok) → Stands symbol.Name e → Begun K (variant_pattern (pattern d) d e) (λ us x. Fits IsPattern (e ∷ us) x)
  unfolding variant_pattern
  variant_begun e se = took symbol.ColonColon refl (λ p sp. took symbol.Name refl (λ v sv. either symbol.OpenParen
      (roomed 1 d symbol.OpenParen refl (λ o so. some_listed_found symbol.CloseParen _ refl ok (λ us c y ys h sc l.
      gave (fits_node (λ s. plain.variant_pattern s (ident e) (ident v) (patterns_of (y ∷ ys))) (span_between (p ∷ v ∷ o ∷ us) e c) _
      (g.variant_with e p v o c us y ys h se sp sv so sc (patterns_are l) refl)))))
      (gave (fits_leaf (λ s. plain.variant_pattern s (ident e) (ident v) plain.no_pattern) refl (g.variant e p v se sp sv refl)))))

  long_begun : {K : Known} → Begun K (long_field (pattern d) d) (Fits IsFieldPattern)
  unfolding long_field
  long_begun = took symbol.Name refl (λ n sn. either symbol.Colon
      (took symbol.Colon refl (λ c sc. passed_last _ ok (λ us y f.
      record { span = ap (λ z. join n.span z) f.span ∙ span_past n (c ∷ []) us (pattern_some f.holds); holds = g.field n c us y.tree y.height sn sc f.holds refl })))
      (gave (record { span = refl; holds = g.short_field n sn refl })))

  short_begun : {K : Known} → Begun K (short_field (pattern d) d) (Fits IsFieldPattern)
  unfolding short_field
  short_begun = took symbol.Mut refl (λ m sm. took symbol.Name refl (λ n sn. gave (record { span = refl; holds = g.short_mutable m n sm sn refl })))

  field_by_begun : (q : Symbol) → Begun (at q) (field_pattern_by (pattern d) d q) (Fits IsFieldPattern)
  field_by_begun symbol.Name = roomy 1 d symbol.Name refl (λ t s. whole_part (t ∷ []) [] _ _ tt (g.short_field t s refl)) long_begun
  field_by_begun symbol.Mut = roomy 1 d symbol.Mut refl (λ t s. whole_part (t ∷ []) (stand_in symbol.Name ∷ []) _ _ (words_of (symbol.Name ∷ []) refl) (g.short_mutable t (stand_in symbol.Name) s (stand_in_stands symbol.Name refl) refl)) short_begun
  field_by_begun _ = refused (whole_part [] (stand_in symbol.Name ∷ []) _ _ (words_of (symbol.Name ∷ []) refl) (g.short_field (stand_in symbol.Name) (stand_in_stands symbol.Name refl) refl))

  field_begun : {K : Known} → Begun K (field_pattern (pattern d) d) (Fits IsFieldPattern)
  unfolding field_pattern
  field_begun = chose (field_pattern_by (pattern d) d) field_by_begun

  struct_begun : {K : Known} (n : Tok) → Stands symbol.Name n → Begun K (struct_pattern (pattern d) d n) (λ us x. Fits IsPattern (n ∷ us) x)
  unfolding struct_pattern
  struct_begun n sn = took symbol.OpenBrace refl (λ o so. listed_found symbol.CloseBrace _ [] 0 refl field_begun (λ us c fs h sc l.
      let z : max 0 h ≡ h = omega arith in
      gave (fits_node (λ s. plain.make_pattern s (ident n) (field_patterns_of fs)) (span_between (o ∷ us) n c) _
      (subst (λ i. IsPattern (n ∷ o ∷ (us ++ (c ∷ []))) (plain.make_pattern (span_of (n ∷ o ∷ (us ++ (c ∷ [])))) (ident n) (field_patterns_of fs)) (suc i)) (sym z)
      (g.structure n o c us fs h sn so sc (fields_are l) refl)))))

  named_by_begun : (t : Tok) → Stands symbol.Name t → (q : Symbol) → Begun (at q) (named_pattern_by (pattern d) d t q) (λ us x. Fits IsPattern (t ∷ us) x)
  named_by_begun t s symbol.ColonColon = variant_begun t s
  named_by_begun t s symbol.OpenBrace = struct_begun t s
  named_by_begun t s _ = gave (fits_leaf (λ s. plain.bind s (ident t) false) refl (g.binding t s refl))

  named_begun : {K : Known} → Begun K (named_pattern (pattern d) d) (Fits IsPattern)
  unfolding named_pattern
  named_begun = took symbol.Name refl (λ t s. chose (named_pattern_by (pattern d) d t) (named_by_begun t s))

  pattern_by_begun : (q : Symbol) → Begun (at q) (pattern_by (pattern d) d q) (Fits IsPattern)
  pattern_by_begun symbol.Name = named_begun
  pattern_by_begun symbol.Number = number_begun
  pattern_by_begun symbol.Mut = mutable_begun
  pattern_by_begun symbol.True = took symbol.True refl (λ t s. gave (fits_leaf (λ s. plain.bool_pattern s true) refl (g.true_is t s refl)))
  pattern_by_begun symbol.False = took symbol.False refl (λ t s. gave (fits_leaf (λ s. plain.bool_pattern s false) refl (g.false_is t s refl)))
  pattern_by_begun symbol.Underscore = took symbol.Underscore refl (λ t s. gave (fits_leaf plain.wild refl (g.wild t s refl)))
  pattern_by_begun symbol.Minus = negative_begun
  pattern_by_begun symbol.OpenParen = group_found _ IsPattern IsPattern ok
      (λ o c so sc. g.unit o c so sc refl)
      (λ o c us y h so sc r. g.parentheses o c us y h so sc r refl)
      (λ o m c us vs y ys h i so sm sc r more. g.tuple o m c us vs y ys h i so sm sc r (patterns_are more) refl)
  pattern_by_begun _ = refused pattern_completes

-- what the parser of patterns passed
pub pattern_begun : (d : ℕ) → Begun any (pattern d) (Fits IsPattern)
unfolding pattern
pattern_begun zero = stopped begins_pattern refl pattern_completes (λ t e w. first_pattern (symbol_of t) e t (stands t) w)
pattern_begun (suc d) = chose (pattern_by (pattern d) d) (pattern_by_begun d (pattern_begun d))
