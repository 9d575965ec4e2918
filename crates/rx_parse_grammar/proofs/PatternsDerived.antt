-- A pattern that is read is one that the grammar derives.
use Rattle.std.proofs.Common.{◌≡◌, ℕ, zero, suc, ◌≤◌, max, true, false, List, [], ◌∷◌, ◌++◌, refl, sym, ap, subst, ◌∙◌, arith}
use Rattle.rx_tree.specs.declared.tree.Ident.{Ident}
use Rattle.rx_tree.specs.Plain as plain
use Rattle.rx_tree.specs.Plain.{PatternTree}
use Rattle.rx_tree.specs.PlainOf.{patterns_of, field_patterns_of}
use Rattle.rx_lex.specs.Tok.{Tok}
use Rattle.rx_parse_grammar.specs.declared.symbol.Symbol.{Symbol}
use Rattle.rx_parse_grammar.specs.declared.symbol.Symbol.TheVariants as symbol
use Rattle.rx_parse_grammar.specs.grammar.Words.{IsListOf, no_element, last_element, element, join, span_of, ident}
use Rattle.rx_parse_grammar.specs.grammar.Patterns.{IsPattern, ArePatterns, IsFieldPattern, AreFieldPatterns}
use Rattle.rx_parse_grammar.specs.grammar.Patterns as g
use Rattle.rx_parse_grammar.specs.parser.Patterns.{begins_pattern, mutable_binding, number_pattern, negative_pattern, variant_pattern, long_field, short_field, field_pattern, field_pattern_by, struct_pattern, named_pattern, named_pattern_by, pattern_by, pattern}
use Rattle.rx_parse_grammar.proofs.SymbolLemmas.{Stands}
use Rattle.rx_parse_grammar.proofs.Reading.{span_between, span_past}
use Rattle.rx_parse_grammar.proofs.Deriving.{Derives, Fits, fits_leaf, fits_node, took, passed_last, gave, chose, either, roomy, refused, stopped, listed_found, some_listed_found, group_found}
use Rattle.rx_parse_grammar.proofs.NumberLaws.{number_took}
use Rattle.rx_parse_grammar.proofs.PatternsRead.{pattern_some}

pub patterns_are : {us : List Tok} {ys : List PatternTree} {h : ℕ} → IsListOf IsPattern us ys h → ArePatterns us ys h
patterns_are no_element = g.no_pattern
patterns_are (last_element r) = g.last_pattern r
patterns_are (element us vs c y ys m n r s more is) = g.pattern_and us vs c y ys m n r s (patterns_are more) is

pub fields_are : {us : List Tok} {fs : List (Ident × PatternTree)} {h : ℕ} → IsListOf IsFieldPattern us fs h → AreFieldPatterns us fs h
fields_are no_element = g.no_field
fields_are (last_element r) = g.last_field r
fields_are (element us vs c f fs m n r s more is) = g.field_and us vs c f fs m n r s (fields_are more) is

mutable_derived : (d : ℕ) → Derives mutable_binding (Fits IsPattern (suc d))
unfolding mutable_binding
mutable_derived d = took symbol.Mut refl (λ m sm. took symbol.Name refl (λ n sn. gave (fits_leaf (λ s. plain.bind s (ident n) true) refl (g.mutable_binding m n sm sn refl))))

number_derived : (d : ℕ) → Derives number_pattern (Fits IsPattern (suc d))
unfolding number_pattern
number_derived d = number_took _ (λ t v k s. gave (fits_leaf (λ s. plain.int_pattern s false v k) refl (g.number t v k s refl)))

negative_derived : (d : ℕ) → Derives negative_pattern (Fits IsPattern (suc d))
unfolding negative_pattern
negative_derived d = took symbol.Minus refl (λ m sm. number_took _ (λ t v k s. gave (fits_leaf (λ s. plain.int_pattern s true v k) refl (g.negative m t v k sm s refl))))

module _ (d : ℕ) (ok : Derives (pattern d) (Fits IsPattern d)) where
  variant_derived : (e : Tok) → Stands symbol.Name e → Derives (variant_pattern (pattern d) d e) (λ us x. Fits IsPattern (suc d) (e ∷ us) x)
  unfolding variant_pattern
  variant_derived e se = took symbol.ColonColon refl (λ p sp. took symbol.Name refl (λ v sv. either symbol.OpenParen
      (roomy 1 d (λ low. took symbol.OpenParen refl (λ o so. some_listed_found symbol.CloseParen _ refl ok (λ us c y ys h sc l b.
      gave (fits_node (λ s. plain.variant_pattern s (ident e) (ident v) (patterns_of (y ∷ ys))) (span_between (p ∷ v ∷ o ∷ us) e c) b
      (g.variant_with e p v o c us y ys h se sp sv so sc (patterns_are l) refl))))))
      (gave (fits_leaf (λ s. plain.variant_pattern s (ident e) (ident v) plain.no_pattern) refl (g.variant e p v se sp sv refl)))))

  long_derived : 1 ≤ d → Derives (long_field (pattern d) d) (Fits IsFieldPattern d)
  unfolding long_field
  long_derived low = took symbol.Name refl (λ n sn. either symbol.Colon
      (took symbol.Colon refl (λ c sc. passed_last _ ok (λ us y f.
      record { low = f.low; span = ap (λ z. join n.span z) f.span ∙ span_past n (c ∷ []) us (pattern_some f.holds); holds = g.field n c us y.tree y.height sn sc f.holds refl })))
      (gave (record { low = low; span = refl; holds = g.short_field n sn refl })))

  short_derived : 1 ≤ d → Derives (short_field (pattern d) d) (Fits IsFieldPattern d)
  unfolding short_field
  short_derived low = took symbol.Mut refl (λ m sm. took symbol.Name refl (λ n sn. gave (record { low = low; span = refl; holds = g.short_mutable m n sm sn refl })))

  field_by_derived : (q : Symbol) → Derives (field_pattern_by (pattern d) d q) (Fits IsFieldPattern d)
  field_by_derived symbol.Name = roomy 1 d long_derived
  field_by_derived symbol.Mut = roomy 1 d short_derived
  field_by_derived _ = refused

  field_derived : Derives (field_pattern (pattern d) d) (Fits IsFieldPattern d)
  unfolding field_pattern
  field_derived = chose (field_pattern_by (pattern d) d) field_by_derived

  struct_derived : (n : Tok) → Stands symbol.Name n → Derives (struct_pattern (pattern d) d n) (λ us x. Fits IsPattern (suc d) (n ∷ us) x)
  unfolding struct_pattern
  struct_derived n sn = took symbol.OpenBrace refl (λ o so. listed_found symbol.CloseBrace _ [] 0 refl field_derived (λ us c fs h sc l b.
      let z : max 0 h ≡ h = omega arith in
      gave (fits_node (λ s. plain.make_pattern s (ident n) (field_patterns_of fs)) (span_between (o ∷ us) n c) (omega arith)
      (subst (λ i. IsPattern (n ∷ o ∷ (us ++ (c ∷ []))) (plain.make_pattern (span_of (n ∷ o ∷ (us ++ (c ∷ [])))) (ident n) (field_patterns_of fs)) (suc i)) (sym z)
      (g.structure n o c us fs h sn so sc (fields_are l) refl)))))

  named_by_derived : (t : Tok) → Stands symbol.Name t → (q : Symbol) → Derives (named_pattern_by (pattern d) d t q) (λ us x. Fits IsPattern (suc d) (t ∷ us) x)
  named_by_derived t s symbol.ColonColon = variant_derived t s
  named_by_derived t s symbol.OpenBrace = struct_derived t s
  named_by_derived t s _ = gave (fits_leaf (λ s. plain.bind s (ident t) false) refl (g.binding t s refl))

  named_derived : Derives (named_pattern (pattern d) d) (Fits IsPattern (suc d))
  unfolding named_pattern
  named_derived = took symbol.Name refl (λ t s. chose (named_pattern_by (pattern d) d t) (named_by_derived t s))

  pattern_by_derived : (q : Symbol) → Derives (pattern_by (pattern d) d q) (Fits IsPattern (suc d))
  pattern_by_derived symbol.Name = named_derived
  pattern_by_derived symbol.Number = number_derived d
  pattern_by_derived symbol.Mut = mutable_derived d
  pattern_by_derived symbol.True = took symbol.True refl (λ t s. gave (fits_leaf (λ s. plain.bool_pattern s true) refl (g.true_is t s refl)))
  pattern_by_derived symbol.False = took symbol.False refl (λ t s. gave (fits_leaf (λ s. plain.bool_pattern s false) refl (g.false_is t s refl)))
  pattern_by_derived symbol.Underscore = took symbol.Underscore refl (λ t s. gave (fits_leaf plain.wild refl (g.wild t s refl)))
  pattern_by_derived symbol.Minus = negative_derived d
  pattern_by_derived symbol.OpenParen = group_found _ IsPattern IsPattern ok
      (λ o c so sc. g.unit o c so sc refl)
      (λ o c us y h so sc r. g.parentheses o c us y h so sc r refl)
      (λ o m c us vs y ys h i so sm sc r more. g.tuple o m c us vs y ys h i so sm sc r (patterns_are more) refl)
  pattern_by_derived _ = refused

-- what is read is a pattern of at most so many levels
pub pattern_sound : (d : ℕ) → Derives (pattern d) (Fits IsPattern d)
unfolding pattern
pattern_sound zero = stopped begins_pattern
pattern_sound (suc d) = chose (pattern_by (pattern d) d) (pattern_by_derived d (pattern_sound d))
