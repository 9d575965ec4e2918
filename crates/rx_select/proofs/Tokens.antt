-- Tokens in order, the places between them, and the tokens of a part of a text: by recursion on lists of tokens.
use Rattle.std.proofs.Common.{◌≡◌, ℕ, ◌+◌, ◌≤◌, ◌<◌, List, [], ◌∷◌, ◌++◌, length, refl, sym, ◌∙◌, subst, arith}
use Rattle.std.proofs.Common.{inl, inr}
use Rattle.std.specs.Prelude.{◌⊎◌, ◌≢◌}
use Rattle.rx_core.specs.declared.types.Span.{Span}
use Rattle.rx_tree.specs.Lists.{Every}
use Rattle.rx_lex.specs.Tok.{Tok}
use Rattle.rx_lex.specs.Tokens as lexing
use Rattle.rx_lex.specs.Tokens.{Tokens}
use Rattle.rx_lex.proofs.TokenLaws.{Ordered}
use Rattle.rx_parse_grammar.specs.grammar.Words.{span_of, final_span}
use Rattle.rx_select.specs.Selected.{IsToken}

-- ---- members

pub token_left : (t : Tok) (us vs : List Tok) → IsToken t us → IsToken t (us ++ vs)
token_left t [] vs i = absurd i
token_left t (u ∷ us) vs (inl e) = inl e
token_left t (u ∷ us) vs (inr i) = inr (token_left t us vs i)

pub token_right : (t : Tok) (us vs : List Tok) → IsToken t vs → IsToken t (us ++ vs)
token_right t [] vs i = i
token_right t (u ∷ us) vs i = inr (token_right t us vs i)

pub every_token : (P : Tok → Type 0) (ts : List Tok) (t : Tok) → Every P ts → IsToken t ts → P t
every_token P [] t h i = absurd i
every_token P (u ∷ ts) t h (inl e) = subst P (sym e) h.0
every_token P (u ∷ ts) t h (inr i) = every_token P ts t h.1 i

pub of_every : (P : Tok → Type 0) (ts : List Tok) → ((t : Tok) → IsToken t ts → P t) → Every P ts
of_every P [] f = tt
of_every P (t ∷ ts) f = (f t (inl refl), of_every P ts (λ u i. f u (inr i)))

-- ---- order

pub ordered_above : (from to : ℕ) (ts : List Tok) → Ordered from to ts → from ≤ to
ordered_above from to [] o = o
ordered_above from to (t ∷ ts) o = let h = ordered_above t.span.end to ts o.2 in let a = o.0 in let b = o.1 in omega (arith, h, a, b)

-- a token of tokens in order
pub ordered_at : (from to : ℕ) (ts : List Tok) (t : Tok) → Ordered from to ts → IsToken t ts → (from ≤ t.span.start) × (t.span.start < t.span.end) × (t.span.end ≤ to)
ordered_at from to [] t o i = absurd i
ordered_at from to (u ∷ ts) t o (inl e) =
    let h = ordered_above u.span.end to ts o.2 in
    let P : Tok → Type 0 = λ x. (from ≤ x.span.start) × (x.span.start < x.span.end) × (x.span.end ≤ to) in
    subst P (sym e) (o.0, o.1, h)
ordered_at from to (u ∷ ts) t o (inr i) =
    let h = ordered_at u.span.end to ts t o.2 i in
    let a = o.0 in
    let b = o.1 in
    (omega (arith, h.0, a, b), h.1, h.2)

pub ordered_near : (from near to : ℕ) (ts : List Tok) → near ≤ from → Ordered from to ts → Ordered near to ts
ordered_near from near to [] h o = omega (arith, h, o)
ordered_near from near to (t ∷ ts) h o = (omega (arith, h, o.0), o.1, o.2)

pub ordered_far : (from to far : ℕ) (ts : List Tok) → to ≤ far → Ordered from to ts → Ordered from far ts
ordered_far from to far [] h o = omega (arith, h, o)
ordered_far from to far (t ∷ ts) h o = (o.0, o.1, ordered_far t.span.end to far ts h o.2)

-- where the last of some tokens ends, or else the place in front of them
abbrev pub last_end : ℕ → List Tok → ℕ
last_end from [] = from
last_end from (t ∷ ts) = last_end t.span.end ts

pub ordered_split : (from to : ℕ) (us vs : List Tok) → Ordered from to (us ++ vs) → Ordered from (last_end from us) us × Ordered (last_end from us) to vs
ordered_split from to [] vs o = (omega arith, o)
ordered_split from to (t ∷ us) vs o = let s = ordered_split t.span.end to us vs o.2 in ((o.0, o.1, s.0), s.1)

pub ordered_front : (from to : ℕ) (us vs : List Tok) (c : Tok) → Ordered from to (us ++ (c ∷ vs)) → Ordered from c.span.start us
ordered_front from to [] vs c o = o.0
ordered_front from to (t ∷ us) vs c o = (o.0, o.1, ordered_front t.span.end to us vs c o.2)

-- a token is as long as its text
abbrev pub EachLong : List Tok → Type 0
EachLong ts = Every (λ t. t.span.end ≡ t.span.start + length t.text) ts

pub each_long : {at : ℕ} {t : List ℕ} {ts : List Tok} → Tokens at t ts → EachLong ts
each_long lexing.none = tt
each_long (lexing.gap n g l d) = each_long d
each_long (lexing.token c w r n l d) = (refl, each_long d)

-- ---- places between tokens

-- no token stands on both sides of the place
abbrev pub Clean : List Tok → ℕ → Type 0
Clean ts at = Every (λ t. (t.span.end ≤ at) ⊎ (at ≤ t.span.start)) ts

clean_below : (from to at : ℕ) (ts : List Tok) → at ≤ from → Ordered from to ts → Clean ts at
clean_below from to at [] h o = tt
clean_below from to at (t ∷ ts) h o =
    let a = o.0 in
    let b = o.1 in
    (inr (omega (arith, h, a)), clean_below t.span.end to at ts (omega (arith, h, a, b)) o.2)

pub clean_start : (from to : ℕ) (ts : List Tok) (t : Tok) → Ordered from to ts → IsToken t ts → Clean ts t.span.start
clean_start from to [] t o i = absurd i
clean_start from to (u ∷ ts) t o (inl e) =
    let b = o.1 in
    subst (λ (x : Tok). Clean (u ∷ ts) x.span.start) (sym e) (inr (omega arith), clean_below u.span.end to u.span.start ts (omega (arith, b)) o.2)
clean_start from to (u ∷ ts) t o (inr i) = let h = ordered_at u.span.end to ts t o.2 i in (inl h.0, clean_start u.span.end to ts t o.2 i)

pub clean_end : (from to : ℕ) (ts : List Tok) (t : Tok) → Ordered from to ts → IsToken t ts → Clean ts t.span.end
clean_end from to [] t o i = absurd i
clean_end from to (u ∷ ts) t o (inl e) =
    subst (λ (x : Tok). Clean (u ∷ ts) x.span.end) (sym e) (inl (omega arith), clean_below u.span.end to u.span.end ts (omega arith) o.2)
clean_end from to (u ∷ ts) t o (inr i) =
    let h = ordered_at u.span.end to ts t o.2 i in
    let a = h.0 in
    let b = h.1 in
    (inl (omega (arith, a, b)), clean_end u.span.end to ts t o.2 i)

-- ---- the tokens of a part of a text

pub record Inside (all : List Tok) (from to : ℕ) (ts : List Tok) : Type 0 where
  pub ordered : Ordered from to ts
  pub is : (t : Tok) → IsToken t ts → IsToken t all

pub inside_is : (all : List Tok) (from to : ℕ) (ts us : List Tok) → ts ≡ us → Inside all from to ts → Inside all from to us
inside_is all from to ts us e x = subst (λ (l : List Tok). Inside all from to l) e x

pub inside_left : (all : List Tok) (from to : ℕ) (us vs : List Tok) → Inside all from to (us ++ vs) → Inside all from (last_end from us) us
inside_left all from to us vs x = record { ordered = (ordered_split from to us vs x.ordered).0; is = λ t i. x.is t (token_left t us vs i) }

pub inside_right : (all : List Tok) (from to : ℕ) (us vs : List Tok) → Inside all from to (us ++ vs) → Inside all (last_end from us) to vs
inside_right all from to us vs x = record { ordered = (ordered_split from to us vs x.ordered).1; is = λ t i. x.is t (token_right t us vs i) }

-- what stands in front of some tokens, or behind them, may be left out
pub inside_front : (all : List Tok) (from to : ℕ) (us vs : List Tok) → Inside all from to (us ++ vs) → Inside all from to us
inside_front all from to us vs x =
    let s = ordered_split from to us vs x.ordered in
    record { ordered = ordered_far from (last_end from us) to us (ordered_above (last_end from us) to vs s.1) s.0; is = λ t i. x.is t (token_left t us vs i) }

pub inside_back : (all : List Tok) (from to : ℕ) (us vs : List Tok) → Inside all from to (us ++ vs) → Inside all from to vs
inside_back all from to us vs x =
    let s = ordered_split from to us vs x.ordered in
    record { ordered = ordered_near (last_end from us) from to vs (ordered_above from (last_end from us) us s.0) s.1; is = λ t i. x.is t (token_right t us vs i) }

pub inside_after : (all : List Tok) (from to : ℕ) (t : Tok) (us : List Tok) → Inside all from to (t ∷ us) → Inside all from to us
inside_after all from to t us x = inside_back all from to (t ∷ []) us x

pub inside_before : (all : List Tok) (from to : ℕ) (us vs : List Tok) (c : Tok) → Inside all from to (us ++ (c ∷ vs)) → Inside all from c.span.start us
inside_before all from to us vs c x = record { ordered = ordered_front from to us vs c x.ordered; is = λ t i. x.is t (token_left t us (c ∷ vs) i) }

-- ---- the span of tokens

pub final_end : (s : Span) (ts : List Tok) → (final_span s ts).end ≡ last_end s.end ts
final_end s [] = refl
final_end s (t ∷ ts) = final_end t.span ts

ordered_last : (from to : ℕ) (ts : List Tok) → Ordered from to ts → Ordered from (last_end from ts) ts
ordered_last from to [] o = omega arith
ordered_last from to (t ∷ ts) o = (o.0, o.1, ordered_last t.span.end to ts o.2)

ordered_ends : (from to : ℕ) (ts : List Tok) → Ordered from to ts → last_end from ts ≤ to
ordered_ends from to [] o = o
ordered_ends from to (t ∷ ts) o = ordered_ends t.span.end to ts o.2

-- tokens in order stand in their span
pub record Spanned (from to : ℕ) (s : Span) (ts : List Tok) : Type 0 where
  pub starts : from ≤ s.start
  pub long : s.start < s.end
  pub ends : s.end ≤ to
  pub within : Ordered s.start s.end ts

spanned_at : (from to : ℕ) (t : Tok) (ts : List Tok) → Ordered from to (t ∷ ts) → Spanned from to (span_of (t ∷ ts)) (t ∷ ts)
spanned_at from to t ts o =
    let e = final_end t.span ts in
    let l = ordered_last t.span.end to ts o.2 in
    let u = ordered_above t.span.end (last_end t.span.end ts) ts l in
    let v = ordered_ends t.span.end to ts o.2 in
    let b = o.1 in
    record {
      starts = o.0;
      long = omega (arith, e, u, b);
      ends = omega (arith, e, v);
      within = (omega arith, o.1, subst (λ n. Ordered t.span.end n ts) (sym e) l);
    }

pub spanned : (from to : ℕ) (ts : List Tok) → ts ≢ [] → Ordered from to ts → Spanned from to (span_of ts) ts
spanned from to [] n o = absurd (n refl)
spanned from to (t ∷ ts) n o = spanned_at from to t ts o

-- the first and the last of some tokens
pub record Ends (ts : List Tok) (s : Span) : Type 0 where
  pub first : Tok
  pub first_is : IsToken first ts
  pub begins : first.span.start ≡ s.start
  pub last : Tok
  pub last_is : IsToken last ts
  pub ends : last.span.end ≡ s.end

last_of : (t : Tok) (ts : List Tok) → (u : Tok) × IsToken u (t ∷ ts) × (u.span.end ≡ last_end t.span.end ts)
last_of t [] = (t, inl refl, refl)
last_of t (u ∷ ts) = let l = last_of u ts in (l.0, inr l.1, l.2)

ends_at : (t : Tok) (ts : List Tok) → Ends (t ∷ ts) (span_of (t ∷ ts))
ends_at t ts =
    let l = last_of t ts in
    record { first = t; first_is = inl refl; begins = refl; last = l.0; last_is = l.1; ends = l.2 ∙ sym (final_end t.span ts) }

pub ends_of : (ts : List Tok) → ts ≢ [] → Ends ts (span_of ts)
ends_of [] n = absurd (n refl)
ends_of (t ∷ ts) n = ends_at t ts
