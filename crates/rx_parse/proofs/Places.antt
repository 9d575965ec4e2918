-- Where the token stands before which so many end: at the list behind the tokens before it, and where no token is left at the end.
use Rattle.std.proofs.Common.{◌≡◌, ℕ, suc, ◌-◌, ◌<◌, List, ◌∷◌, ◌++◌, length, drop, get_or, sym, ap, ◌∙◌, arith, drop-cons}
use Rattle.std.proofs.lemmas.List.{length-append, length-map, drop-map}
use Rattle.std.proofs.Math.Seq.{drop-append_seam, drop-length}
use Rattle.rx_lex.specs.declared.token.Token.{Token}
use Rattle.rx_lex.specs.Tok.{Tok, tok, toks}
use Rattle.rx_parse.specs.Place.{start_of, place_of}

at_seam : (us vs : List Tok) (n : ℕ) → n ≡ length vs → length (us ++ vs) - n ≡ length us
at_seam us vs n k = omega (arith, k, length-append us vs)

pub place_at : (ts us rest : List Tok) (t : Tok) (n end : ℕ) → ts ≡ us ++ (t ∷ rest) → n ≡ length (t ∷ rest) → place_of n ts end ≡ t.span.start
place_at ts us rest t n end is k =
    ap (λ (z : List Tok). place_of n z end) is ∙ ap (λ (m : ℕ). start_of (drop m (us ++ (t ∷ rest))) end) (at_seam us (t ∷ rest) n k)
    ∙ ap (λ (z : List Tok). start_of z end) (drop-append_seam us (t ∷ rest))

pub place_at_end : (ts : List Tok) (n end : ℕ) → n ≡ 0 → place_of n ts end ≡ end
place_at_end ts n end k =
    let e : length ts - n ≡ length ts = omega (arith, k) in
    ap (λ (m : ℕ). start_of (drop m ts) end) e ∙ ap (λ (z : List Tok). start_of z end) (drop-length ts)

-- of the token that the code reads there
pub place_read : (us : List Token) (t : Token) (left n end : ℕ) → n ≡ length us - left → n < length us → t ≡ get_or us n t → t.span.start ≡ place_of left (toks us) end
place_read us t left n end e l g =
    let d : drop n (toks us) ≡ tok (get_or us n t) ∷ toks (drop (suc n) us) = drop-map tok n us ∙ ap toks (drop-cons us n t l) in
    let m : length (toks us) - left ≡ n = omega (arith, e, length-map us tok) in
    ap (λ (u : Token). u.span.start) g ∙ sym (ap (λ (k : ℕ). start_of (drop k (toks us)) end) m ∙ ap (λ (z : List Tok). start_of z end) d)
