-- Tokens stop being a program at one place at most: what begins a program has no front that begins none, so of two places neither is before the other.
use Rattle.std.proofs.Common.{◌≡◌, ℕ, ◌≤◌, ◌<◌, List, [], ◌∷◌, ◌++◌, length, ◌⊎◌, inl, inr, refl, sym, ap, subst, ◌∙◌, arith, append_assoc}
use Rattle.std.proofs.lemmas.Bool.{cases_lt}
use Rattle.std.proofs.lemmas.List.{length-append}
use Rattle.rx_lex.specs.Tok.{Tok}
use Rattle.rx_lex.proofs.TokenLaws.{lexes_one}
use Rattle.rx_parse_grammar.specs.grammar.Begins.{Begins, BeginsNone}
use Rattle.rx_parse_grammar.specs.grammar.Items.{IsFile}
use Rattle.rx_parse_grammar.specs.parser.Symbols.{head, tail}
use Rattle.rx_parse.specs.declared.fault.SyntaxFault.TheVariants.{Syntax}
use Rattle.rx_parse.specs.Answer.{through, StopsAt, StopsAtEnd, IsCause}

-- what begins a program has no front that begins none
front : (us vs : List Tok) → BeginsNone us → Begins (us ++ vs) → ⊥
front us vs n b =
    n (vs ++ b.further) b.program b.height (subst (λ (ts : List Tok). IsFile ts b.program b.height) (append_assoc us vs b.further) b.derived)

-- of two ways to part a list, where the first part is the shorter
record Longer (us vs : List Tok) : Type 0 where
  between : List Tok
  is : vs ≡ us ++ between

longer : (us vs r s : List Tok) → us ++ r ≡ vs ++ s → length us ≤ length vs → Longer us vs
longer [] vs r s e l = record { between = vs; is = refl }
longer (u ∷ us) [] r s e l = absurd (omega arith)
longer (u ∷ us) (v ∷ vs) r s e l =
    let h : u ≡ v = ap head e in
    let w = longer us vs r s (ap tail e) (omega arith) in
    record { between = w.between; is = ap (λ (x : Tok). x ∷ vs) (sym h) ∙ ap (λ (xs : List Tok). u ∷ xs) w.is }

-- a token that is before another is none at which the tokens stop
not_before : {at other : ℕ} (ts : List Tok) (a : StopsAt at ts) (b : StopsAt other ts) → length a.here.before < length b.here.before → ⊥
not_before ts a b l =
    let us = a.here.before in
    let vs = b.here.before in
    let e : through a.here ++ a.here.behind ≡ vs ++ (b.here.token ∷ b.here.behind) = append_assoc us (a.here.token ∷ []) a.here.behind ∙ sym a.here.tokens ∙ b.here.tokens in
    let n : length (through a.here) ≤ length vs = omega (arith, l, length-append us (a.here.token ∷ [])) in
    let w = longer (through a.here) vs a.here.behind (b.here.token ∷ b.here.behind) e n in
    front (through a.here) w.between a.stops (subst Begins w.is b.begins)

not_with_end : {at other size : ℕ} (ts : List Tok) → StopsAt at ts → StopsAtEnd other size ts → ⊥
not_with_end ts a b =
    let t = a.here in
    front (through t) t.behind a.stops (subst Begins (t.tokens ∙ sym (append_assoc t.before (t.token ∷ []) t.behind)) b.begins)

token_in : (us vs r s : List Tok) (t u : Tok) → us ++ (t ∷ r) ≡ vs ++ (u ∷ s) → length us ≡ length vs → t ≡ u
token_in [] [] r s t u e n = ap head e
token_in [] (v ∷ vs) r s t u e n = absurd (omega (arith, n))
token_in (x ∷ us) [] r s t u e n = absurd (omega (arith, n))
token_in (x ∷ us) (v ∷ vs) r s t u e n = token_in us vs r s t u (ap tail e) (omega (arith, n))

same_token : {at other : ℕ} (ts : List Tok) → StopsAt at ts → StopsAt other ts → at ≡ other
same_token {at = at} {other = other} ts a b = by (cases_lt n m) (cases_lt m n)
  where
    n : ℕ
    n = length a.here.before

    m : ℕ
    m = length b.here.before

    by : (n < m) ⊎ (m ≤ n) → (m < n) ⊎ (n ≤ m) → at ≡ other
    by (inl l) y = absurd (not_before ts a b l)
    by (inr k) (inl l) = absurd (not_before ts b a l)
    by (inr k) (inr l) =
        a.here.place
        ∙ ap (λ (t : Tok). t.span.start) (token_in a.here.before b.here.before a.here.behind b.here.behind a.here.token b.here.token (sym a.here.tokens ∙ b.here.tokens) (omega (arith, k, l)))
        ∙ sym b.here.place

one_stop : {at other size : ℕ} (ts : List Tok) → StopsAt at ts ⊎ StopsAtEnd at size ts → StopsAt other ts ⊎ StopsAtEnd other size ts → at ≡ other
one_stop ts (inl a) (inl b) = same_token ts a b
one_stop ts (inl a) (inr b) = absurd (not_with_end ts a b)
one_stop ts (inr a) (inl b) = absurd (not_with_end ts b a)
one_stop ts (inr a) (inr b) = a.place ∙ sym b.place

pub one_place : (bytes : List ℕ) (at other : ℕ) → IsCause (Syntax at) bytes → IsCause (Syntax other) bytes → at ≡ other
one_place bytes at other a b =
    one_stop a.0 a.2 (subst (λ (ts : List Tok). StopsAt other ts ⊎ StopsAtEnd other (length bytes) ts) (lexes_one bytes b.0 a.0 b.1 a.1) b.2)
