-- A pattern that the grammar derives is read, where nothing that follows goes on it: by induction on derivations.
use Rattle.std.proofs.Common.{◌≡◌, ℕ, suc, ◌+◌, ◌≤◌, max, Bool, true, false, List, [], ◌∷◌, ◌++◌, Option, refl, sym, ap, subst, ◌∙◌, arith}
use Rattle.std.specs.Prelude.{◌≢◌}
use Rattle.rx_core.specs.declared.types.Span.{Span}
use Rattle.rx_core.specs.declared.types.Kind.{Kind}
use Rattle.rx_tree.specs.declared.tree.Ident.{Ident}
use Rattle.rx_tree.specs.Plain as plain
use Rattle.rx_tree.specs.Plain.{PatternTree}
use Rattle.rx_tree.specs.PlainOf.{patterns_of, field_patterns_of}
use Rattle.rx_lex.specs.Tok.{Tok}
use Rattle.rx_parse_grammar.specs.declared.symbol.Symbol.{Symbol}
use Rattle.rx_parse_grammar.specs.declared.symbol.Symbol.TheVariants as symbol
use Rattle.rx_parse_grammar.specs.grammar.Words.{IsNumber, IsListOf, no_element, last_element, element, join, span_of, ident}
use Rattle.rx_parse_grammar.specs.grammar.Patterns.{IsPattern, ArePatterns, IsFieldPattern, AreFieldPatterns}
use Rattle.rx_parse_grammar.specs.grammar.Patterns as g
use Rattle.rx_parse_grammar.specs.parser.Symbols.{symbol_of, peek}
use Rattle.rx_parse_grammar.specs.parser.Steps.{Parser, Got, pure, leaf}
use Rattle.rx_parse_grammar.specs.parser.Patterns.{begins_pattern, mutable_binding, number_pattern, negative_pattern, variant_pattern, long_field, short_field, field_pattern, field_pattern_by, struct_pattern, named_pattern, named_pattern_by, pattern_by, pattern}
use Rattle.rx_parse_grammar.proofs.SymbolLemmas.{Stands}
use Rattle.rx_parse_grammar.proofs.Reading.{Reads, take, last, done, by, here, there, room, first_is, got, node_is, placed, span_between, span_past, differs, some_first, deeper, Element, closes_paren, listed, some_listed, unit_reads, parentheses_read, tuple_reads}
use Rattle.rx_parse_grammar.proofs.TypesRead.{at_front}
use Rattle.rx_parse_grammar.proofs.NumberLaws.{number_take}

-- what may follow a pattern, and a field's pattern
abbrev pub ends_pattern : Symbol → Bool
ends_pattern symbol.ColonColon = false
ends_pattern symbol.OpenBrace = false
ends_pattern symbol.OpenParen = false
ends_pattern _ = true

abbrev ends_field : Symbol → Bool
ends_field symbol.ColonColon = false
ends_field symbol.OpenBrace = false
ends_field symbol.OpenParen = false
ends_field symbol.Colon = false
ends_field _ = true

ends_both : (q : Symbol) → ends_field q ≡ true → ends_pattern q ≡ true
ends_both symbol.ColonColon e = e
ends_both symbol.OpenBrace e = e
ends_both symbol.OpenParen e = e
ends_both _ e = refl

abbrev pub EndsPattern : Symbol → Type 0
EndsPattern q = ends_pattern q ≡ true

abbrev EndsField : Symbol → Type 0
EndsField q = ends_field q ≡ true

-- ---- what a pattern begins with

abbrev begins_field : Symbol → Bool
begins_field symbol.Name = true
begins_field symbol.Mut = true
begins_field _ = false

named_front : (b : Symbol → Bool) (q : Symbol) → b q ≡ true → {ts : List Tok} (t : Tok) (us rest : List Tok) → ts ≡ t ∷ us → symbol_of t ≡ q → b (peek (ts ++ rest)) ≡ true
named_front b q e t us rest is s = at_front b t us rest is (ap b s ∙ e)

pub pattern_front : {ts : List Tok} {y : PatternTree} {h : ℕ} → IsPattern ts y h → (rest : List Tok) → begins_pattern (peek (ts ++ rest)) ≡ true
pattern_front (g.wild t s is) rest = named_front begins_pattern symbol.Underscore refl t _ rest is (first_is symbol.Underscore t refl s)
pattern_front (g.binding n s is) rest = named_front begins_pattern symbol.Name refl n _ rest is (first_is symbol.Name n refl s)
pattern_front (g.mutable_binding m n sm s is) rest = named_front begins_pattern symbol.Mut refl m _ rest is (first_is symbol.Mut m refl sm)
pattern_front (g.number t v k s is) rest = named_front begins_pattern symbol.Number refl t _ rest is (first_is symbol.Number t refl s.class)
pattern_front (g.negative m t v k sm s is) rest = named_front begins_pattern symbol.Minus refl m _ rest is (first_is symbol.Minus m refl sm)
pattern_front (g.true_is t s is) rest = named_front begins_pattern symbol.True refl t _ rest is (first_is symbol.True t refl s)
pattern_front (g.false_is t s is) rest = named_front begins_pattern symbol.False refl t _ rest is (first_is symbol.False t refl s)
pattern_front (g.unit o c so sc is) rest = named_front begins_pattern symbol.OpenParen refl o _ rest is (first_is symbol.OpenParen o refl so)
pattern_front (g.parentheses o c us y h so sc inner is) rest = named_front begins_pattern symbol.OpenParen refl o _ rest is (first_is symbol.OpenParen o refl so)
pattern_front (g.tuple o m c us vs y ys h i so sm sc inner more is) rest = named_front begins_pattern symbol.OpenParen refl o _ rest is (first_is symbol.OpenParen o refl so)
pattern_front (g.variant e p v se sp sv is) rest = named_front begins_pattern symbol.Name refl e _ rest is (first_is symbol.Name e refl se)
pattern_front (g.variant_with e p v o c us y ys h se sp sv so sc inner is) rest = named_front begins_pattern symbol.Name refl e _ rest is (first_is symbol.Name e refl se)
pattern_front (g.structure n o c us fs h sn so sc inner is) rest = named_front begins_pattern symbol.Name refl n _ rest is (first_is symbol.Name n refl sn)

pub pattern_some : {ts : List Tok} {y : PatternTree} {h : ℕ} → IsPattern ts y h → ts ≢ []
pattern_some {ts = ts} r = some_first begins_pattern ts refl (pattern_front r [])

pub pattern_positive : {ts : List Tok} {y : PatternTree} {h : ℕ} → IsPattern ts y h → 1 ≤ h
pattern_positive (g.wild t s is) = omega arith
pattern_positive (g.binding n s is) = omega arith
pattern_positive (g.mutable_binding m n sm s is) = omega arith
pattern_positive (g.number t v k s is) = omega arith
pattern_positive (g.negative m t v k sm s is) = omega arith
pattern_positive (g.true_is t s is) = omega arith
pattern_positive (g.false_is t s is) = omega arith
pattern_positive (g.unit o c so sc is) = omega arith
pattern_positive (g.parentheses o c us y h so sc inner is) = omega arith
pattern_positive (g.tuple o m c us vs y ys h i so sm sc inner more is) = omega arith
pattern_positive (g.variant e p v se sp sv is) = omega arith
pattern_positive (g.variant_with e p v o c us y ys h se sp sv so sc inner is) = omega arith
pattern_positive (g.structure n o c us fs h sn so sc inner is) = omega arith

field_front : {ts : List Tok} {f : Ident × PatternTree} {h : ℕ} → IsFieldPattern ts f h → (rest : List Tok) → begins_field (peek (ts ++ rest)) ≡ true
field_front (g.field n d us y h sn sd inner is) rest = named_front begins_field symbol.Name refl n _ rest is (first_is symbol.Name n refl sn)
field_front (g.short_field n sn is) rest = named_front begins_field symbol.Name refl n _ rest is (first_is symbol.Name n refl sn)
field_front (g.short_mutable m n sm sn is) rest = named_front begins_field symbol.Mut refl m _ rest is (first_is symbol.Mut m refl sm)

-- ---- the cases

abbrev tuple_of : Span → List PatternTree → PatternTree
tuple_of s l = plain.tuple_pattern s (patterns_of l)

-- a name alone
named_other : (N : Parser (Got PatternTree)) (d : ℕ) (t : Tok) (q : Symbol) → ends_pattern q ≡ true → named_pattern_by N d t q ≡ pure (leaf (λ s. plain.bind s (ident t) false) t.span)
named_other N d t symbol.ColonColon e = absurd (cc)
named_other N d t symbol.OpenBrace e = absurd (cc)
named_other N d t _ e = refl

module _ (d : ℕ) (rest : List Tok) where
  wild_case : (t : Tok) → Stands symbol.Underscore t → Reads (pattern (suc d)) (t ∷ []) (got (t ∷ []) (plain.wild (span_of (t ∷ []))) 1) rest
  unfolding pattern
  wild_case t s = by (pattern_by (pattern d) d) symbol.Underscore (first_is symbol.Underscore t refl s) (take _ symbol.Underscore t refl s (done refl))

  true_case : (t : Tok) → Stands symbol.True t → Reads (pattern (suc d)) (t ∷ []) (got (t ∷ []) (plain.bool_pattern (span_of (t ∷ [])) true) 1) rest
  unfolding pattern
  true_case t s = by (pattern_by (pattern d) d) symbol.True (first_is symbol.True t refl s) (take _ symbol.True t refl s (done refl))

  false_case : (t : Tok) → Stands symbol.False t → Reads (pattern (suc d)) (t ∷ []) (got (t ∷ []) (plain.bool_pattern (span_of (t ∷ [])) false) 1) rest
  unfolding pattern
  false_case t s = by (pattern_by (pattern d) d) symbol.False (first_is symbol.False t refl s) (take _ symbol.False t refl s (done refl))

  number_case : (t : Tok) (v : ℕ) (k : Option Kind) → IsNumber t v k → Reads (pattern (suc d)) (t ∷ []) (got (t ∷ []) (plain.int_pattern (span_of (t ∷ [])) false v k) 1) rest
  unfolding pattern number_pattern
  number_case t v k s = by (pattern_by (pattern d) d) symbol.Number (first_is symbol.Number t refl s.class) (number_take _ t v k s (done refl))

  negative_case : (m t : Tok) (v : ℕ) (k : Option Kind) → Stands symbol.Minus m → IsNumber t v k → Reads (pattern (suc d)) (m ∷ t ∷ []) (got (m ∷ t ∷ []) (plain.int_pattern (span_of (m ∷ t ∷ [])) true v k) 1) rest
  unfolding pattern negative_pattern
  negative_case m t v k sm s = by (pattern_by (pattern d) d) symbol.Minus (first_is symbol.Minus m refl sm) (take _ symbol.Minus m refl sm (number_take _ t v k s (done refl)))

  mutable_case : (m n : Tok) → Stands symbol.Mut m → Stands symbol.Name n → Reads (pattern (suc d)) (m ∷ n ∷ []) (got (m ∷ n ∷ []) (plain.bind (span_of (m ∷ n ∷ [])) (ident n) true) 1) rest
  unfolding pattern mutable_binding
  mutable_case m n sm s = by (pattern_by (pattern d) d) symbol.Mut (first_is symbol.Mut m refl sm) (take _ symbol.Mut m refl sm (take _ symbol.Name n refl s (done refl)))

  -- behind a name
  named_case : (n : Tok) (us : List Tok) (y : PatternTree) (h : ℕ) (q : Symbol) → Stands symbol.Name n → peek (us ++ rest) ≡ q → Reads (named_pattern_by (pattern d) d n q) us (got (n ∷ us) y h) rest
      → Reads (pattern (suc d)) (n ∷ us) (got (n ∷ us) y h) rest
  unfolding pattern named_pattern
  named_case n us y h q s e r = by (pattern_by (pattern d) d) symbol.Name (first_is symbol.Name n refl s) (take _ symbol.Name n refl s (by (named_pattern_by (pattern d) d n) q e r))

  binding_case : (n : Tok) → Stands symbol.Name n → ends_pattern (peek rest) ≡ true → Reads (pattern (suc d)) (n ∷ []) (got (n ∷ []) (plain.bind (span_of (n ∷ [])) (ident n) false) 1) rest
  binding_case n s e = named_case n [] _ 1 (peek rest) s refl
      (subst (λ (p : Parser (Got PatternTree)). Reads p [] (got (n ∷ []) (plain.bind (span_of (n ∷ [])) (ident n) false) 1) rest) (sym (named_other (pattern d) d n (peek rest) e)) (done refl))

  variant_case : (e p v : Tok) → Stands symbol.Name e → Stands symbol.ColonColon p → Stands symbol.Name v → ends_pattern (peek rest) ≡ true
      → Reads (pattern (suc d)) (e ∷ p ∷ v ∷ []) (got (e ∷ p ∷ v ∷ []) (plain.variant_pattern (span_of (e ∷ p ∷ v ∷ [])) (ident e) (ident v) plain.no_pattern) 1) rest
  unfolding variant_pattern
  variant_case e p v se sp sv n = named_case e _ _ 1 symbol.ColonColon se (first_is symbol.ColonColon p refl sp)
      (take _ symbol.ColonColon p refl sp (take _ symbol.Name v refl sv (there _ (differs ends_pattern _ symbol.OpenParen n refl) (done refl))))

  variant_with_case : (e p v o c : Tok) (us : List Tok) (y : PatternTree) (ys : List PatternTree) (h : ℕ) → Stands symbol.Name e → Stands symbol.ColonColon p → Stands symbol.Name v
      → Stands symbol.OpenParen o → Stands symbol.CloseParen c → 1 ≤ d → IsListOf (Element (pattern d) EndsPattern symbol.CloseParen) us (y ∷ ys) h
      → Reads (pattern (suc d)) (e ∷ p ∷ v ∷ o ∷ (us ++ (c ∷ [])))
      (got (e ∷ p ∷ v ∷ o ∷ (us ++ (c ∷ []))) (plain.variant_pattern (span_of (e ∷ p ∷ v ∷ o ∷ (us ++ (c ∷ [])))) (ident e) (ident v) (patterns_of (y ∷ ys))) (suc h)) rest
  unfolding variant_pattern
  variant_with_case e p v o c us y ys h se sp sv so sc low l = named_case e _ _ (suc h) symbol.ColonColon se (first_is symbol.ColonColon p refl sp)
      (take _ symbol.ColonColon p refl sp (take _ symbol.Name v refl sv (here _ (first_is symbol.OpenParen o refl so) (room low (take _ symbol.OpenParen o refl so
      (some_listed _ EndsPattern c refl refl (closes_paren c sc) l
      (done (node_is (λ s. plain.variant_pattern s (ident e) (ident v) (patterns_of (y ∷ ys))) (join e.span c.span) h (e ∷ p ∷ v ∷ o ∷ (us ++ (c ∷ []))) (span_between (p ∷ v ∷ o ∷ us) e c)))))))))

  struct_case : (n o c : Tok) (us : List Tok) (fs : List (Ident × PatternTree)) (h : ℕ) → Stands symbol.Name n → Stands symbol.OpenBrace o → Stands symbol.CloseBrace c
      → IsListOf (Element (field_pattern (pattern d) d) EndsField symbol.CloseBrace) us fs h
      → Reads (pattern (suc d)) (n ∷ o ∷ (us ++ (c ∷ []))) (got (n ∷ o ∷ (us ++ (c ∷ []))) (plain.make_pattern (span_of (n ∷ o ∷ (us ++ (c ∷ [])))) (ident n) (field_patterns_of fs)) (suc h)) rest
  unfolding struct_pattern
  struct_case n o c us fs h sn so sc l = named_case n _ _ (suc h) symbol.OpenBrace sn (first_is symbol.OpenBrace o refl so)
      (take _ symbol.OpenBrace o refl so (listed _ EndsField [] 0 c refl refl (record { word = refl; stands = sc; no_comma = λ a. cc }) l
      (let z : max 0 h ≡ h = omega arith in
      done (ap (λ i. record { tree = plain.make_pattern (join n.span c.span) (ident n) (field_patterns_of fs); height = i + 1; span = join n.span c.span }) z
      ∙ node_is (λ s. plain.make_pattern s (ident n) (field_patterns_of fs)) (join n.span c.span) h (n ∷ o ∷ (us ++ (c ∷ []))) (span_between (o ∷ us) n c)))))

  group_case : (o : Tok) (us : List Tok) (y : PatternTree) (h : ℕ) → Stands symbol.OpenParen o → Reads (pattern_by (pattern d) d symbol.OpenParen) (o ∷ us) (got (o ∷ us) y h) rest
      → Reads (pattern (suc d)) (o ∷ us) (got (o ∷ us) y h) rest
  unfolding pattern
  group_case o us y h s r = by (pattern_by (pattern d) d) symbol.OpenParen (first_is symbol.OpenParen o refl s) r

-- ---- fields

module _ (d : ℕ) (low : 1 ≤ d) where
  field_case : (n c : Tok) (us : List Tok) (y : PatternTree) (h : ℕ) (rest : List Tok) → Stands symbol.Name n → Stands symbol.Colon c → us ≢ [] → Reads (pattern d) us (got us y h) rest
      → Reads (field_pattern (pattern d) d) (n ∷ c ∷ us) (got (n ∷ c ∷ us) (ident n, y) h) rest
  unfolding field_pattern long_field
  field_case n c us y h rest sn sc some r = by (field_pattern_by (pattern d) d) symbol.Name (first_is symbol.Name n refl sn) (room low (take _ symbol.Name n refl sn
      (here _ (first_is symbol.Colon c refl sc) (take _ symbol.Colon c refl sc (last _ r
      (done (ap (λ s. record { tree = (ident n, y); height = h; span = s }) (span_past n (c ∷ []) us some))))))))

  short_case : (n : Tok) (rest : List Tok) → Stands symbol.Name n → ends_field (peek rest) ≡ true
      → Reads (field_pattern (pattern d) d) (n ∷ []) (got (n ∷ []) (ident n, plain.bind (span_of (n ∷ [])) (ident n) false) 1) rest
  unfolding field_pattern long_field
  short_case n rest sn e = by (field_pattern_by (pattern d) d) symbol.Name (first_is symbol.Name n refl sn) (room low (take _ symbol.Name n refl sn
      (there _ (differs ends_field _ symbol.Colon e refl) (done refl))))

  short_mutable_case : (m n : Tok) (rest : List Tok) → Stands symbol.Mut m → Stands symbol.Name n
      → Reads (field_pattern (pattern d) d) (m ∷ n ∷ []) (got (m ∷ n ∷ []) (ident n, plain.bind (span_of (m ∷ n ∷ [])) (ident n) true) 1) rest
  unfolding field_pattern short_field
  short_mutable_case m n rest sm sn = by (field_pattern_by (pattern d) d) symbol.Mut (first_is symbol.Mut m refl sm) (room low (take _ symbol.Mut m refl sm (take _ symbol.Name n refl sn (done refl))))

-- the tokens of a field stand in its span
field_placed : {p : Parser (Got (Ident × PatternTree))} {ts rest : List Tok} {h : ℕ} (f : Span → Ident × PatternTree) (us : List Tok) → ts ≡ us → Reads p us (got us (f (span_of us)) h) rest
    → Reads p ts (got ts (f (span_of ts)) h) rest
field_placed f us e r = placed f us e r

-- a pattern as an element of a list
pattern_listed : {us : List Tok} {y : PatternTree} {h : ℕ} → IsPattern us y h → (d : ℕ) → h ≤ d → (close : Symbol) → begins_pattern close ≡ false
    → ((c : ℕ) → h ≤ suc c → (rest : List Tok) → ends_pattern (peek rest) ≡ true → Reads (pattern (suc c)) us (got us y h) rest) → Element (pattern d) EndsPattern close us y h
pattern_listed {us = us} {y = y} {h = h} r d b close n f = record {
  front = λ rest. differs begins_pattern (peek (us ++ rest)) close (pattern_front r rest) n;
  reads = λ rest e. deeper (λ d. Reads (pattern d) us (got us y h) rest) h d (pattern_positive r) b (λ c l. f c l rest e);
}

-- a field's pattern as an element of a list
field_listed : {us : List Tok} {f : Ident × PatternTree} {h : ℕ} → IsFieldPattern us f h → (d : ℕ)
    → ((rest : List Tok) → ends_field (peek rest) ≡ true → Reads (field_pattern (pattern d) d) us (got us f h) rest) → Element (field_pattern (pattern d) d) EndsField symbol.CloseBrace us f h
field_listed {us = us} r d f = record { front = λ rest. differs begins_field (peek (us ++ rest)) symbol.CloseBrace (field_front r rest) refl; reads = f }

some_levels : {us : List Tok} {y : PatternTree} {ys : List PatternTree} {h : ℕ} → ArePatterns us (y ∷ ys) h → 1 ≤ h
some_levels (g.last_pattern r) = pattern_positive r
some_levels (g.pattern_and us vs c y ys m k r s more is) = let z = pattern_positive r in omega arith

mutual
  -- a pattern of at most so many levels
  pattern_reads : {ts : List Tok} {y : PatternTree} {h : ℕ} → IsPattern ts y h → (d : ℕ) → h ≤ suc d → (rest : List Tok) → ends_pattern (peek rest) ≡ true → Reads (pattern (suc d)) ts (got ts y h) rest
  pattern_reads (g.wild t s is) d b rest n = placed plain.wild (t ∷ []) is (wild_case d rest t s)
  pattern_reads (g.binding t s is) d b rest n = placed (λ s. plain.bind s (ident t) false) (t ∷ []) is (binding_case d rest t s n)
  pattern_reads (g.mutable_binding m t sm s is) d b rest n = placed (λ s. plain.bind s (ident t) true) (m ∷ t ∷ []) is (mutable_case d rest m t sm s)
  pattern_reads (g.number t v k s is) d b rest n = placed (λ s. plain.int_pattern s false v k) (t ∷ []) is (number_case d rest t v k s)
  pattern_reads (g.negative m t v k sm s is) d b rest n = placed (λ s. plain.int_pattern s true v k) (m ∷ t ∷ []) is (negative_case d rest m t v k sm s)
  pattern_reads (g.true_is t s is) d b rest n = placed (λ s. plain.bool_pattern s true) (t ∷ []) is (true_case d rest t s)
  pattern_reads (g.false_is t s is) d b rest n = placed (λ s. plain.bool_pattern s false) (t ∷ []) is (false_case d rest t s)
  pattern_reads (g.unit o c so sc is) d b rest n =
      placed (λ s. plain.tuple_pattern s plain.no_pattern) (o ∷ c ∷ []) is (group_case d rest o _ _ _ so (unit_reads (pattern d) tuple_of EndsPattern o c rest so sc))
  pattern_reads (g.parentheses o c us y h so sc inner is) d b rest n =
      placed (λ s. y) (o ∷ (us ++ (c ∷ []))) is (group_case d rest o _ _ _ so (parentheses_read (pattern d) tuple_of EndsPattern o c us y h rest refl so sc
      (pattern_listed inner d (omega arith) symbol.CloseParen refl (pattern_reads inner))))
  pattern_reads (g.tuple o m c us vs y ys h i so sm sc inner more is) d b rest n =
      placed (λ s. plain.tuple_pattern s (patterns_of (y ∷ ys))) (o ∷ (us ++ (m ∷ (vs ++ (c ∷ []))))) is (group_case d rest o _ _ _ so
      (tuple_reads (pattern d) tuple_of EndsPattern o m c us vs y ys h i rest refl refl so sm sc
      (pattern_listed inner d (omega arith) symbol.CloseParen refl (pattern_reads inner)) (patterns_listed more d (omega arith) symbol.CloseParen refl)))
  pattern_reads (g.variant e p v se sp sv is) d b rest n = placed (λ s. plain.variant_pattern s (ident e) (ident v) plain.no_pattern) (e ∷ p ∷ v ∷ []) is (variant_case d rest e p v se sp sv n)
  pattern_reads (g.variant_with e p v o c us y ys h se sp sv so sc inner is) d b rest n =
      placed (λ s. plain.variant_pattern s (ident e) (ident v) (patterns_of (y ∷ ys))) (e ∷ p ∷ v ∷ o ∷ (us ++ (c ∷ []))) is
      (variant_with_case d rest e p v o c us y ys h se sp sv so sc (let z = some_levels inner in omega arith) (patterns_listed inner d (omega arith) symbol.CloseParen refl))
  pattern_reads (g.structure n o c us fs h sn so sc inner is) d b rest e =
      placed (λ s. plain.make_pattern s (ident n) (field_patterns_of fs)) (n ∷ o ∷ (us ++ (c ∷ []))) is (struct_case d rest n o c us fs h sn so sc (fields_listed inner d (omega arith)))

  patterns_listed : {us : List Tok} {ys : List PatternTree} {h : ℕ} → ArePatterns us ys h → (d : ℕ) → h ≤ d → (close : Symbol) → begins_pattern close ≡ false
      → IsListOf (Element (pattern d) EndsPattern close) us ys h
  patterns_listed g.no_pattern d b close n = no_element
  patterns_listed (g.last_pattern r) d b close n = last_element (pattern_listed r d b close n (pattern_reads r))
  patterns_listed (g.pattern_and us vs c y ys m k r s more is) d b close n =
      element us vs c y ys m k (pattern_listed r d (omega arith) close n (pattern_reads r)) s (patterns_listed more d (omega arith) close n) is

  field_reads : {us : List Tok} {f : Ident × PatternTree} {h : ℕ} → IsFieldPattern us f h → (d : ℕ) → h ≤ d → (rest : List Tok) → ends_field (peek rest) ≡ true
      → Reads (field_pattern (pattern d) d) us (got us f h) rest
  field_reads (g.field n c us y h sn sc inner is) d b rest e =
      let p = pattern_positive inner in
      field_placed (λ s. (ident n, y)) (n ∷ c ∷ us) is (field_case d (omega arith) n c us y h rest sn sc (pattern_some inner)
      (deeper (λ d. Reads (pattern d) us (got us y h) rest) h d p b (λ c l. pattern_reads inner c l rest (ends_both (peek rest) e))))
  field_reads (g.short_field n sn is) d b rest e = field_placed (λ s. (ident n, plain.bind s (ident n) false)) (n ∷ []) is (short_case d b n rest sn e)
  field_reads (g.short_mutable m n sm sn is) d b rest e = field_placed (λ s. (ident n, plain.bind s (ident n) true)) (m ∷ n ∷ []) is (short_mutable_case d b m n rest sm sn)

  fields_listed : {us : List Tok} {fs : List (Ident × PatternTree)} {h : ℕ} → AreFieldPatterns us fs h → (d : ℕ) → h ≤ d
      → IsListOf (Element (field_pattern (pattern d) d) EndsField symbol.CloseBrace) us fs h
  fields_listed g.no_field d b = no_element
  fields_listed (g.last_field r) d b = last_element (field_listed r d (field_reads r d b))
  fields_listed (g.field_and us vs c f fs m k r s more is) d b = element us vs c f fs m k (field_listed r d (field_reads r d (omega arith))) s (fields_listed more d (omega arith)) is

-- a pattern of at most so many levels is read where nothing that follows goes on it
pub pattern_complete : {ts : List Tok} {y : PatternTree} {h : ℕ} → IsPattern ts y h → (d : ℕ) → h ≤ d → (rest : List Tok) → ends_pattern (peek rest) ≡ true → Reads (pattern d) ts (got ts y h) rest
pattern_complete {ts = ts} {y = y} {h = h} r d b rest n = deeper (λ d. Reads (pattern d) ts (got ts y h) rest) h d (pattern_positive r) b (λ c e. pattern_reads r c e rest n)
