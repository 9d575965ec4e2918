-- What a cursor shows, by whether the first `&` of a `&&` is behind it.
use Rattle.std.proofs.Common.{◌≡◌, ℕ, suc, ◌-◌, ◌<◌, Bool, true, false, cond, List, [], ◌∷◌, length, drop, refl, ap, sym, ◌∙◌, length-drop, drop-cons, get_or}
use Rattle.std.proofs.lemmas.List.{length-map}
use Rattle.rx_lex.specs.declared.token.Token.{Token}
use Rattle.rx_lex.specs.Tok.{Tok, tok, toks}
use Rattle.rx_parse_grammar.specs.declared.symbol.Symbol.TheVariants as symbol
use Rattle.rx_parse_grammar.specs.grammar.Words.{second_ampersand}
use Rattle.rx_parse_grammar.specs.parser.Symbols.{symbol_of, mark, head, tail, peek}
use Rattle.rx_parse_cursor.specs.Place.{halved}

pub ampersand_is : (t : Tok) → symbol_of (second_ampersand t) ≡ symbol.Ampersand
unfolding symbol_of mark
ampersand_is t = refl

pub shown_length : (b : Bool) (n : ℕ) (ts : List Token) → length ts - n ≡ length (cond b (halved (toks (drop n ts))) (toks (drop n ts)))
shown_length b n ts = sym (length-drop n ts) ∙ by_half b (drop n ts) where
  by_half : (b : Bool) (us : List Token) → length us ≡ length (cond b (halved (toks us)) (toks us))
  by_half true [] = refl
  by_half true (u ∷ us) = ap (λ n. suc n) (sym (length-map us tok))
  by_half false us = sym (length-map us tok)

pub half_is : (b : Bool) (us : List Tok) → peek (cond b (halved us) us) ≡ symbol.AndAnd
    → halved us ≡ second_ampersand (head (cond b (halved us) us)) ∷ tail (cond b (halved us) us)
half_is true [] e = absurd (cc)
half_is true (u ∷ us) e = let z : symbol.Ampersand ≡ symbol.AndAnd = sym (ampersand_is u) ∙ e in absurd (cc)
half_is false [] e = absurd (cc)
half_is false (u ∷ us) e = refl

pub half_peeked : (us : List Token) (n : ℕ) (t : Token) → n < length us → symbol.Ampersand ≡ peek (halved (toks (drop n us)))
half_peeked us n t e =
    let d = drop-cons us n t e in
    sym (ampersand_is (tok (get_or us n t))) ∙ ap (λ l. peek (halved (toks l))) (sym d)
