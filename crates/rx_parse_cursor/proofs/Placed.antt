-- The tokens of a text stand on a byte each at least.
use Rattle.std.proofs.Common.{◌≡◌, ℕ, ◌+◌, ◌<◌, List, [], ◌∷◌, length, refl, ap, subst, sym, arith}
use Rattle.std.proofs.lemmas.List.Elements.{All-cons, All-nil}
use Rattle.rx_core.specs.declared.types.Span.{Span}
use Rattle.rx_lex.specs.declared.token.Token.{Token}
use Rattle.rx_lex.specs.Tok.{Tok, tok, toks}
use Rattle.rx_lex.specs.Tokens.{Tokens, Lexes, none, gap, token}
use Rattle.rx_lex.proofs.LongestWord.{word_not_empty}
use Rattle.rx_parse_cursor.specs.Place.{IsPlaced, ArePlaced}

not_empty : (w : List ℕ) → (w ≡ [] → ⊥) → 0 < length w
not_empty [] n = absurd (n refl)
not_empty (c ∷ cs) n = omega arith

head_of : (t u : Tok) (ts us : List Tok) → t ∷ ts ≡ u ∷ us → t ≡ u
head_of t u ts us e = cc

tail_of : (t u : Tok) (ts us : List Tok) → t ∷ ts ≡ u ∷ us → ts ≡ us
tail_of t u ts us e = cc

placed : {at : ℕ} {t : List ℕ} {ts : List Tok} → Tokens at t ts → (us : List Token) → toks us ≡ ts → ArePlaced us
placed none [] e = All-nil IsPlaced
placed none (u ∷ us) e = absurd (cc)
placed (gap n g l r) us e = placed r us e
placed (token c w r n l s) [] e = absurd (cc)
placed {at = at} (token c w r n l s) (u ∷ us) e =
    let h : tok u ≡ record { class = c; span = record { start = at; end = at + length w }; text = w } = head_of (tok u) _ (toks us) _ e in
    let z : u.span ≡ record { start = at; end = at + length w } = ap (λ (t : Tok). t.span) h in
    let b : 0 < length w = not_empty w (word_not_empty l.front.word) in
    let a : u.span.start < u.span.end = subst (λ (p : Span). p.start < p.end) (sym z) (omega (arith, b)) in
    All-cons IsPlaced u us a (placed s us (tail_of (tok u) _ (toks us) _ e))

-- what the lexer gives can be read
pub are_placed : (bytes : List ℕ) (us : List Token) → Lexes bytes (toks us) → ArePlaced us
are_placed bytes us l = placed l.tokens us refl
