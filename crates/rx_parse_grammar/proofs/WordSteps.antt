-- Names that are certain words: how they are read, and what they derive.
use Rattle.std.proofs.Common.{◌≡◌, ℕ, Bool, true, false, cond, List, ◌∷◌, ◌++◌, length, Ok, Err, refl, ap, subst, ◌∙◌}
use Rattle.std.specs.Prelude.{◌≢◌}
use Rattle.std.specs.Str.{bytes_eq}
use Rattle.std.proofs.lemmas.Slice.Eq.{bytes_eq-Decides}
use Rattle.std.proofs.lemmas.Bool.{and_parts, and_from, and_right, false_from_ne_true}
use Rattle.rx_lex.specs.Tok.{Tok}
use Rattle.rx_parse_grammar.specs.declared.symbol.Symbol.TheVariants as symbol
use Rattle.rx_parse_grammar.specs.declared.stop.Stop.TheVariants.{Syntax}
use Rattle.rx_parse_grammar.specs.grammar.Words.{IsNamed}
use Rattle.rx_parse_grammar.specs.parser.Symbols.{head, tail}
use Rattle.rx_parse_grammar.specs.parser.Steps.{Parser, and_then, ◌>>=◌, sees, sees_word, expect_word, when_word}
use Rattle.rx_parse_grammar.proofs.Reading.{Reads, first_is}
use Rattle.rx_parse_grammar.proofs.SymbolLemmas.{seen, sees_is, stands_as}
use Rattle.rx_parse_grammar.proofs.Deriving.{Derives, Found, okay, same_pair, two, chosen, starts}

word_seen : (w : List ℕ) (c : Tok) (rest : List Tok) → IsNamed w c → sees_word w (c ∷ rest) ≡ true
unfolding sees_word
word_seen w c rest s = and_from (sees symbol.Name (c ∷ rest)) (bytes_eq c.text w) (seen symbol.Name (c ∷ rest) (first_is symbol.Name c refl s.0)) ((bytes_eq-Decides c.text w).1 s.1)

other_word : (w : List ℕ) (c : Tok) (rest : List Tok) → c.text ≢ w → sees_word w (c ∷ rest) ≡ false
unfolding sees_word
other_word w c rest n = and_right (sees symbol.Name (c ∷ rest)) (bytes_eq c.text w) (false_from_ne_true (bytes_eq c.text w) (λ e. n ((bytes_eq-Decides c.text w).0 e)))

pub take_word : {A : Type 0} (f : Tok → Parser A) {vs rest : List Tok} {x : A} (w : List ℕ) (c : Tok) → IsNamed w c → Reads (f c) vs x rest → Reads (expect_word w >>= f) (c ∷ vs) x rest
unfolding expect_word
take_word f {vs = vs} {rest = rest} w c s r = record { read = ap (λ b. and_then (cond b (okay (c, vs ++ rest)) (Err (Syntax (length (c ∷ (vs ++ rest)))))) f) (word_seen w c (vs ++ rest) s) ∙ r.read }

pub here_word : {A : Type 0} {p : Parser A} (r : Parser A) {vs rest : List Tok} {x : A} (w : List ℕ) (c : Tok) → IsNamed w c → Reads p (c ∷ vs) x rest → Reads (when_word w p r) (c ∷ vs) x rest
here_word {p = p} r {vs = vs} {rest = rest} w c s k = record { read = ap (λ b. cond b (p (c ∷ (vs ++ rest))) (r (c ∷ (vs ++ rest)))) (word_seen w c (vs ++ rest) s) ∙ k.read }

pub there_word : {A : Type 0} (p : Parser A) {r : Parser A} {vs rest : List Tok} {x : A} (w : List ℕ) (c : Tok) → c.text ≢ w → Reads r (c ∷ vs) x rest → Reads (when_word w p r) (c ∷ vs) x rest
there_word p {r = r} {vs = vs} {rest = rest} w c n k = record { read = ap (λ b. cond b (p (c ∷ (vs ++ rest))) (r (c ∷ (vs ++ rest)))) (other_word w c (vs ++ rest) n) ∙ k.read }

pub word_at : (w : List ℕ) (i : List Tok) (c : Tok) (r : List Tok) (b : Bool) → sees_word w i ≡ b → cond b (okay (head i, tail i)) (Err (Syntax (length i))) ≡ Ok (c, r) → IsNamed w c × (i ≡ c ∷ r)
unfolding sees_word
word_at w i c r true s e =
    let p = and_parts (sees symbol.Name i) (bytes_eq (head i).text w) s in
    let q = starts i symbol.Name (sees_is symbol.Name i p.0) refl in
    let z : (head i, tail i) ≡ (c, r) = same_pair (head i, tail i) (c, r) e in
    let h : head i ≡ c = ap (λ (p : Tok × List Tok). p.0) z in
    (subst (λ t. IsNamed w t) h (stands_as symbol.Name (head i) q.1, (bytes_eq-Decides (head i).text w).0 p.1), q.0 ∙ ap (λ (p : Tok × List Tok). p.0 ∷ p.1) z)
word_at w i c r false s e = absurd (cc)

pub took_word : {A : Type 0} {f : Tok → Parser A} {E : List Tok → A → Type 0} (w : List ℕ) → ((c : Tok) → IsNamed w c → Derives (f c) (λ vs x. E (c ∷ vs) x)) → Derives (expect_word w >>= f) E
unfolding expect_word
took_word {f = f} w g = record {
  derive = λ i r x e.
      let s = two (cond (sees_word w i) (okay (head i, tail i)) (Err (Syntax (length i)))) f x r e in
      let c = word_at w i s.mid s.i (sees_word w i) refl s.first in
      let n = (g s.mid c.0).derive s.i r x s.second in
      record { ts = s.mid ∷ n.ts; is = c.1 ∙ ap (λ z. s.mid ∷ z) n.is; part = n.part };
}

pub either_word : {A : Type 0} {p q : Parser A} (w : List ℕ) {E : List Tok → A → Type 0} → Derives p E → Derives q E → Derives (when_word w p q) E
either_word {p = p} {q = q} w {E = E} a b = record { derive = λ i r x e. chosen (Found E i x r) (sees_word w i) (p i) (q i) x r (λ s. a.derive i r x) (λ s. b.derive i r x) e }
