-- What the tokens begin that the parsers of numbers and of named words passed before they stopped.
use Rattle.std.proofs.Common.{◌≡◌, ◌≤◌, ℕ, Bool, true, false, cond, List, [], ◌∷◌, ◌++◌, length, Option, Some, None, Err, codes, refl, sym, subst, arith}
use Rattle.rx_core.specs.declared.types.Span.{Span}
use Rattle.rx_core.specs.declared.types.Kind.{Kind}
use Rattle.rx_lex.specs.declared.token.Class.{Class}
use Rattle.rx_lex.specs.declared.token.Class.TheVariants as class
use Rattle.rx_lex.specs.Tok.{Tok}
use Rattle.rx_lex.specs.Numerals.{IsNumeral, decimal, greatest}
use Rattle.rx_lex.specs.Words.{IsWord, is_identifier}
use Rattle.rx_lex.specs.Words as words
use Rattle.rx_parse_grammar.specs.declared.stop.Stop.{Stop}
use Rattle.rx_parse_grammar.specs.declared.stop.Stop.TheVariants.{Syntax}
use Rattle.rx_parse_grammar.specs.declared.symbol.Symbol.TheVariants as symbol
use Rattle.rx_lex.specs.Tokens.{AreWords}
use Rattle.rx_parse_grammar.specs.grammar.Words.{IsNumber, IsIndex, IsNamed}
use Rattle.rx_parse_grammar.specs.parser.Symbols.{head, tail}
use Rattle.rx_parse_grammar.specs.parser.Steps.{Parser, and_then, ◌>>=◌, pure, expect, sees, expect_word, sees_word, when_word}
use Rattle.rx_parse_grammar.specs.parser.Numbers.{Numbered, numeral, number_by, number, index_value, index_by, index}
use Rattle.rx_parse_grammar.proofs.Deriving.{okay}
use Rattle.rx_parse_grammar.proofs.NumberLaws.{numbered, number_at, index_at}
use Rattle.rx_parse_grammar.proofs.WordSteps.{word_at}
use Rattle.rx_parse_grammar.proofs.Begun.{spelled, Goes, Known, any, Begun, single, cut, passed, as_also}

-- ---- numbers

numeral_of : {c : Class} {w : List ℕ} → IsWord c w → c ≡ class.Number → (v : ℕ) × (k : Option Kind) × IsNumeral w v k × (v ≤ greatest)
numeral_of (words.number {v = v} {k = k} n b) e = (v, k, n, b)
numeral_of _ e = absurd (cc)

-- a word of the class of numbers is a number
pub is_number : (t : Tok) → IsWord t.class t.text → t.class ≡ class.Number → (v : ℕ) × (k : Option Kind) × IsNumber t v k
is_number t w e = let n = numeral_of w e in (n.0, n.1, record { class = e; numeral = n.2; fits = n.3 })

pub zero_is : IsNumber (spelled class.Number (codes "0")) 0 None
zero_is = record { class = refl; numeral = decimal 48 [] None refl refl refl; fits = omega arith }

pub zero_words : AreWords (spelled class.Number (codes "0") ∷ [])
zero_words = (words.number zero_is.numeral zero_is.fits, tt)

expect_cut : {A : Type 0} (f : Tok → A) (b : Bool) (x : Tok × List Tok) (n : ℕ) (e : Stop) → and_then (cond b (okay x) (Err (Syntax n))) (λ t. pure (f t)) ≡ Err e → e ≡ Syntax n
expect_cut f true x n e h = absurd (cc)
expect_cut f false x n e h = cc

number_cut : (o : Option (ℕ × Option Kind)) (i : List Tok) (e : Stop) → number_by o i ≡ Err e → e ≡ Syntax (length i)
unfolding expect
number_cut None i e h = cc
number_cut (Some v) i e h = expect_cut _ (sees symbol.Number i) (head i, tail i) (length i) e h

abbrev IsNumbered : List Tok → Numbered → Type 0
IsNumbered ts x = (t : Tok) × (ts ≡ t ∷ []) × (x ≡ numbered t x.value x.suffix) × IsNumber t x.value x.suffix

number_begun : {K : Known} → Begun K number IsNumbered
unfolding number
number_begun = single (record { derive = λ i r x q. number_at i (numeral (head i).text) refl r x q }) (λ i e h. number_cut (numeral (head i).text) i e h)
    (record { further = spelled class.Number (codes "0") ∷ []; words = zero_words; made = numbered (spelled class.Number (codes "0")) 0 None; part = (spelled class.Number (codes "0"), refl, refl, zero_is) })

pub number_took : {K : Known} {A : Type 0} (f : Numbered → Parser A) {E : List Tok → A → Type 0} → ((t : Tok) (v : ℕ) (k : Option Kind) → IsNumber t v k → Begun any (f (numbered t v k)) (λ vs x. E (t ∷ vs) x))
    → Begun K (number >>= f) E
number_took f {E = E} g = passed number_begun (λ us n w.
    as_also (λ vs x m. subst (λ z. E (z ++ vs) x) (sym w.1) m)
    (subst (λ z. Begun any (f z) (λ vs x. E (w.0 ∷ vs) x)) (sym w.2) (g w.0 n.value n.suffix w.3)))

index_cut : (o : Option ℕ) (i : List Tok) (e : Stop) → index_by o i ≡ Err e → e ≡ Syntax (length i)
unfolding expect
index_cut None i e h = cc
index_cut (Some v) i e h = expect_cut _ (sees symbol.Number i) (head i, tail i) (length i) e h

abbrev IsIndexed : List Tok → ℕ × Span → Type 0
IsIndexed ts x = (t : Tok) × (ts ≡ t ∷ []) × (x ≡ (x.0, t.span)) × IsIndex t x.0

zero_index : IsIndex (spelled class.Number (codes "0")) 0
zero_index = record { class = refl; digits = refl; value = refl; fits = omega arith }

index_begun : {K : Known} → Begun K index IsIndexed
unfolding index
index_begun = single (record { derive = λ i r x q. index_at i (index_value (head i).text) refl r x q }) (λ i e h. index_cut (index_value (head i).text) i e h)
    (record { further = spelled class.Number (codes "0") ∷ []; words = zero_words; made = (0, (spelled class.Number (codes "0")).span); part = (spelled class.Number (codes "0"), refl, refl, zero_index) })

pub index_took : {K : Known} {A : Type 0} (f : ℕ × Span → Parser A) {E : List Tok → A → Type 0} → ((t : Tok) (v : ℕ) → IsIndex t v → Begun any (f (v, t.span)) (λ vs x. E (t ∷ vs) x)) → Begun K (index >>= f) E
index_took f {E = E} g = passed index_begun (λ us n w.
    as_also (λ vs x m. subst (λ z. E (z ++ vs) x) (sym w.1) m) (subst (λ z. Begun any (f z) (λ vs x. E (w.0 ∷ vs) x)) (sym w.2) (g w.0 n.0 w.3)))

-- ---- named words

record Word (w : List ℕ) (us : List Tok) (c : Tok) : Type 0 where
  is : us ≡ c ∷ []
  named : IsNamed w c

word_begun : {K : Known} (w : List ℕ) → is_identifier w ≡ true → Begun K (expect_word w) (Word w)
unfolding expect_word
word_begun w i = single
    (record { derive = λ i r c e. let m = word_at w i c r (sees_word w i) refl e in record { ts = c ∷ []; is = m.1; part = record { is = refl; named = m.0 } } })
    (λ i e h. cut (sees_word w i) (head i, tail i) (length i) e h)
    (record { further = spelled class.Identifier w ∷ []; words = (words.identifier i, tt); made = spelled class.Identifier w; part = record { is = refl; named = (refl, refl) } })

pub took_word : {K : Known} {A : Type 0} {f : Tok → Parser A} {E : List Tok → A → Type 0} (w : List ℕ) → is_identifier w ≡ true → ((c : Tok) → IsNamed w c → Begun any (f c) (λ vs x. E (c ∷ vs) x)) → Begun K (expect_word w >>= f) E
took_word {f = f} {E = E} w i g = passed (word_begun w i) (λ us c m. subst (λ z. Begun any (f c) (λ vs x. E (z ++ vs) x)) (sym m.is) (g c m.named))

pub either_word : {K : Known} {A : Type 0} {p q : Parser A} (w : List ℕ) {E : List Tok → A → Type 0} → Begun any p E → Begun any q E → Begun K (when_word w p q) E
either_word {A = A} {p = p} {q = q} w {E = E} a b = record { goes = λ i k. decided i (sees_word w i); some = b.some }
  where
    decided : (i : List Tok) (c : Bool) → Goes E i (cond c (p i) (q i))
    decided i true = a.goes i refl
    decided i false = b.goes i refl
