-- The types and patterns that tokens are derived as are formed, where each token is a word of its class: by induction on derivations.
use Rattle.std.proofs.Common.{ℕ, List, [], ◌∷◌, ◌++◌, Option, refl, subst}
use Rattle.rx_tree.specs.declared.tree.Ident.{Ident}
use Rattle.rx_tree.specs.Plain.{TypeTree, PatternTree}
use Rattle.rx_tree.specs.PlainOf.{types_of, patterns_of, field_patterns_of}
use Rattle.rx_tree.specs.Lists.{Every}
use Rattle.rx_lex.specs.Tok.{Tok}
use Rattle.rx_lex.specs.Words as words
use Rattle.rx_lex.specs.Words.{IsWord, is_identifier}
use Rattle.rx_lex.proofs.OfItsClass.{identifier_is}
use Rattle.rx_lex.specs.Tokens.{AreWords}
use Rattle.rx_parse_grammar.specs.grammar.Words as w
use Rattle.rx_parse_grammar.specs.grammar.Words.{IsName, IsLifetime, IsListOf, ident}
use Rattle.rx_parse_grammar.specs.grammar.Types as type
use Rattle.rx_parse_grammar.specs.grammar.Types.{IsType, AreTypes, IsReferenceLifetime, IsLifetimeArgument}
use Rattle.rx_parse_grammar.specs.grammar.Patterns as pattern
use Rattle.rx_parse_grammar.specs.grammar.Patterns.{IsPattern, ArePatterns, IsFieldPattern, AreFieldPatterns}
use Rattle.rx_print_spelling.specs.Formed.{Named, Lasting, MaybeLasting, FormedType, FormedTypes, FormedPattern, FormedPatterns, FormedFieldPatterns}

pub words_left : (us vs : List Tok) → AreWords (us ++ vs) → AreWords us
words_left [] vs k = tt
words_left (u ∷ us) vs k = (k.0, words_left us vs k.1)

pub words_right : (us vs : List Tok) → AreWords (us ++ vs) → AreWords vs
words_right [] vs k = k
words_right (u ∷ us) vs k = words_right us vs k.1

pub lasting : (t : Tok) → IsLifetime t → IsWord t.class t.text → Lasting (ident t)
lasting t l k = (subst (λ c. IsWord c t.text) l.0 k, l.1)

-- a fact of each element of a list
pub every : {A : Type 0} (E : List Tok → A → ℕ → Type 0) (P : A → Type 0) → ((ts : List Tok) (x : A) (h : ℕ) → E ts x h → AreWords ts → P x)
    → {ts : List Tok} {xs : List A} {h : ℕ} → IsListOf E ts xs h → AreWords ts → Every P xs
every E P one w.no_element k = tt
every E P one (w.last_element d) k = (one _ _ _ d k, tt)
every E P one (w.element us vs c x xs m n d i e is) k =
    let j = subst AreWords is k in (one us x m d (words_left us (c ∷ vs) j), every E P one e (words_right us (c ∷ vs) j).1)

-- ---- types

reference_lifetime : {ts : List Tok} {l : Option Ident} → IsReferenceLifetime ts l → AreWords ts → MaybeLasting l
reference_lifetime type.no_lifetime k = tt
reference_lifetime (type.anonymous t i) k = tt
reference_lifetime (type.lifetime t i) k = lasting t i k.0

argument_lifetime : (ts : List Tok) (l : Option Ident) (h : ℕ) → IsLifetimeArgument ts l h → AreWords ts → MaybeLasting l
argument_lifetime ts l h (type.anonymous_argument t i) k = tt
argument_lifetime ts l h (type.lifetime_argument t i) k = lasting t i k.0

mutual
  pub type_formed : {ts : List Tok} {y : TypeTree} {h : ℕ} → IsType ts y h → AreWords ts → FormedType y
  type_formed (type.kind t k' i is) k = tt
  type_formed (type.bool t i is) k = tt
  type_formed (type.named t i is) k = (identifier_is (subst AreWords is k).0 i, tt)
  type_formed (type.named_with t o c us l ls i a b d is) k =
      let j = subst AreWords is k in (identifier_is j.0 i, (tt, every IsLifetimeArgument MaybeLasting argument_lifetime d (words_left us (c ∷ []) j.1.1)))
  type_formed (type.reference t ls ms us l m y h i a b d is) k =
      let j = (subst AreWords is k).1 in (reference_lifetime a (words_left ls (ms ++ us) j), type_formed d (words_right ms us (words_right ls (ms ++ us) j)))
  type_formed (type.two_references t us y h i d is) k = (tt, type_formed d (words.mark refl, (subst AreWords is k).1))
  type_formed (type.unit o c i a is) k = tt
  type_formed (type.parentheses o c us y h i a d is) k = type_formed d (words_left us (c ∷ []) (subst AreWords is k).1)
  type_formed (type.tuple o m c us vs y ys h n i a b d e is) k =
      let j = (subst AreWords is k).1 in
      (type_formed d (words_left us (m ∷ (vs ++ c ∷ [])) j), types_formed e (words_left vs (c ∷ []) (words_right us (m ∷ (vs ++ c ∷ [])) j).1))

  pub types_formed : {ts : List Tok} {ys : List TypeTree} {h : ℕ} → AreTypes ts ys h → AreWords ts → FormedTypes (types_of ys)
  types_formed type.no_type k = tt
  types_formed (type.last_type d) k = (type_formed d k, tt)
  types_formed (type.type_and us vs c y ys m n d i e is) k =
      let j = subst AreWords is k in (type_formed d (words_left us (c ∷ vs) j), types_formed e (words_right us (c ∷ vs) j).1)

-- ---- patterns

mutual
  pub pattern_formed : {ts : List Tok} {y : PatternTree} {h : ℕ} → IsPattern ts y h → AreWords ts → FormedPattern y
  pattern_formed (pattern.wild t i is) k = tt
  pattern_formed (pattern.binding n i is) k = identifier_is (subst AreWords is k).0 i
  pattern_formed (pattern.mutable_binding m n i a is) k = identifier_is (subst AreWords is k).1.0 a
  pattern_formed (pattern.number t v s i is) k = i.fits
  pattern_formed (pattern.negative m t v s i a is) k = a.fits
  pattern_formed (pattern.true_is t i is) k = tt
  pattern_formed (pattern.false_is t i is) k = tt
  pattern_formed (pattern.unit o c i a is) k = tt
  pattern_formed (pattern.parentheses o c us y h i a d is) k = pattern_formed d (words_left us (c ∷ []) (subst AreWords is k).1)
  pattern_formed (pattern.tuple o m c us vs y ys h n i a b d e is) k =
      let j = (subst AreWords is k).1 in
      (pattern_formed d (words_left us (m ∷ (vs ++ c ∷ [])) j), patterns_formed e (words_left vs (c ∷ []) (words_right us (m ∷ (vs ++ c ∷ [])) j).1))
  pattern_formed (pattern.variant e p v i a b is) k = let j = subst AreWords is k in (identifier_is j.0 i, identifier_is j.1.1.0 b, tt)
  pattern_formed (pattern.variant_with e p v o c us y ys h i a b f g d is) k =
      let j = subst AreWords is k in (identifier_is j.0 i, identifier_is j.1.1.0 b, patterns_formed d (words_left us (c ∷ []) j.1.1.1.1))
  pattern_formed (pattern.structure n o c us fs h i a b d is) k =
      let j = subst AreWords is k in (identifier_is j.0 i, field_patterns_formed d (words_left us (c ∷ []) j.1.1))

  patterns_formed : {ts : List Tok} {ys : List PatternTree} {h : ℕ} → ArePatterns ts ys h → AreWords ts → FormedPatterns (patterns_of ys)
  patterns_formed pattern.no_pattern k = tt
  patterns_formed (pattern.last_pattern d) k = (pattern_formed d k, tt)
  patterns_formed (pattern.pattern_and us vs c y ys m n d i e is) k =
      let j = subst AreWords is k in (pattern_formed d (words_left us (c ∷ vs) j), patterns_formed e (words_right us (c ∷ vs) j).1)

  field_pattern_formed : {ts : List Tok} {f : Ident × PatternTree} {h : ℕ} → IsFieldPattern ts f h → AreWords ts → Named f.0 × FormedPattern f.1
  field_pattern_formed (pattern.field n d us y h i a e is) k = let j = subst AreWords is k in (identifier_is j.0 i, pattern_formed e j.1.1)
  field_pattern_formed (pattern.short_field n i is) k = let j = subst AreWords is k in (identifier_is j.0 i, identifier_is j.0 i)
  field_pattern_formed (pattern.short_mutable m n i a is) k = let j = subst AreWords is k in (identifier_is j.1.0 a, identifier_is j.1.0 a)

  field_patterns_formed : {ts : List Tok} {fs : List (Ident × PatternTree)} {h : ℕ} → AreFieldPatterns ts fs h → AreWords ts → FormedFieldPatterns (field_patterns_of fs)
  field_patterns_formed pattern.no_field k = tt
  field_patterns_formed (pattern.last_field d) k = let f = field_pattern_formed d k in (f.0, f.1, tt)
  field_patterns_formed (pattern.field_and us vs c f fs m n d i e is) k =
      let j = subst AreWords is k in
      let g = field_pattern_formed d (words_left us (c ∷ vs) j) in
      (g.0, g.1, field_patterns_formed e (words_right us (c ∷ vs) j).1)
