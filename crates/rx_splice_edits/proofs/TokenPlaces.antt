-- Tokens in order, split at a place: in front of it all begin earlier, and from there on none does.
use Rattle.std.proofs.Common.{◌≡◌, ℕ, zero, suc, ◌+◌, ◌<◌, ◌≤◌, Bool, true, false, ◌&&◌, List, [], ◌∷◌, length, take, drop, drop-cons, get_or, refl, ap, sym, ◌∙◌, cond, arith}
use Rattle.std.specs.Prelude.{◌==◌, nat_le, nat_lt, codes}
use Rattle.std.proofs.lemmas.Bool.{and_parts, eqb-true, leb-true, ltb-true, false_from_ne_true}
use Rattle.std.proofs.lemmas.Bool.Decides.{nat_tests}
use Rattle.std.proofs.lemmas.List.{drop_all}
use Rattle.rx_core.specs.Bytes.{same_bytes}
use Rattle.rx_lex.specs.declared.token.Token.{Token}
use Rattle.rx_lex.specs.Tok.{Tok, tok, toks}
use Rattle.rx_splice_laws.specs.Places.{behind, tokens_from, after_slash, text_at}
use Rattle.rx_splice_edits.specs.InOrder.{in_order, in_front, last_slash, behind_first, text_first}

-- what is asked of tokens in order, one after the other
pub record First (from : ℕ) (t : Tok) (ts : List Tok) : Type 0 where
  pub low : from ≤ t.span.start
  pub some : t.span.start < t.span.end
  pub rest : in_order t.span.end ts ≡ true

pub first_of_all : (from : ℕ) (t : Tok) (ts : List Tok) → in_order from (t ∷ ts) ≡ true → First from t ts
first_of_all from t ts o =
    let a = and_parts (nat_le from t.span.start) (nat_lt t.span.start t.span.end && in_order t.span.end ts) o in
    let b = and_parts (nat_lt t.span.start t.span.end) (in_order t.span.end ts) a.1 in
    record { low = leb-true from t.span.start a.0; some = ltb-true t.span.start t.span.end b.0; rest = b.1 }

-- ---- one after the other

all_of : (a b c : Bool) → (a && (b && c)) ≡ ((a && b) && c)
all_of true b c = refl
all_of false b c = refl

pub in_order_from : (from : ℕ) (ts : List Token) (i : ℕ) (t : Token) → i < length ts → t ≡ get_or ts i t
    → in_order from (toks (drop i ts)) ≡ ((nat_le from t.span.start && nat_lt t.span.start t.span.end) && in_order t.span.end (toks (drop (i + 1) ts)))
in_order_from from ts i t w is =
    let n : suc i ≡ i + 1 = omega arith in
    ap (λ l. in_order from (toks l)) (drop-cons ts i t w ∙ ap (λ x. x ∷ drop (suc i) ts) (sym is) ∙ ap (λ k. t ∷ drop k ts) n)
    ∙ all_of (nat_le from t.span.start) (nat_lt t.span.start t.span.end) (in_order t.span.end (toks (drop (i + 1) ts)))

pub order_goes_on : (from : ℕ) (ts : List Token) (i : ℕ) (t : Token) (b all : Bool) → i < length ts → t ≡ get_or ts i t
    → b ≡ (nat_le from t.span.start && nat_lt t.span.start t.span.end) → b ≡ true → in_order from (toks (drop i ts)) ≡ all → in_order t.span.end (toks (drop (i + 1) ts)) ≡ all
order_goes_on from ts i t b all w is e y s =
    ap (λ c. c && in_order t.span.end (toks (drop (i + 1) ts))) (sym y ∙ e) ∙ sym (in_order_from from ts i t w is) ∙ s

pub order_stops : (from : ℕ) (ts : List Token) (i : ℕ) (t : Token) (b all : Bool) → i < length ts → t ≡ get_or ts i t
    → b ≡ (nat_le from t.span.start && nat_lt t.span.start t.span.end) → b ≡ false → in_order from (toks (drop i ts)) ≡ all → false ≡ all
order_stops from ts i t b all w is e n s =
    ap (λ c. c && in_order t.span.end (toks (drop (i + 1) ts))) (sym n ∙ e) ∙ sym (in_order_from from ts i t w is) ∙ s

pub order_ends : (from : ℕ) (ts : List Token) (i : ℕ) (all : Bool) → length ts ≤ i → in_order from (toks (drop i ts)) ≡ all → true ≡ all
order_ends from ts i all w s = ap (λ l. in_order from (toks l)) (sym (drop_all i ts w)) ∙ s

-- ---- they rise

starts_low : (from : ℕ) (ts : List Token) → in_order from (toks ts) ≡ true → (k : ℕ) (d : Token) → k < length ts → from ≤ (get_or ts k d).span.start
starts_low from [] o k d l = absurd (omega (arith, l))
starts_low from (t ∷ ts) o zero d l = (first_of_all from (tok t) (toks ts) o).low
starts_low from (t ∷ ts) o (suc k) d l =
    let f = first_of_all from (tok t) (toks ts) o in
    omega (arith, f.low, f.some, starts_low t.span.end ts f.rest k d (omega (arith, l)))

pub starts_rise : (from : ℕ) (ts : List Token) → in_order from (toks ts) ≡ true → (i j : ℕ) (d : Token) → i ≤ j → j < length ts → (get_or ts i d).span.start ≤ (get_or ts j d).span.start
starts_rise from [] o i j d l m = absurd (omega (arith, m))
starts_rise from (t ∷ ts) o zero zero d l m = omega arith
starts_rise from (t ∷ ts) o zero (suc j) d l m =
    let f = first_of_all from (tok t) (toks ts) o in
    omega (arith, f.some, starts_low t.span.end ts f.rest j d (omega (arith, m)))
starts_rise from (t ∷ ts) o (suc i) zero d l m = absurd (omega (arith, l))
starts_rise from (t ∷ ts) o (suc i) (suc j) d l m =
    let f = first_of_all from (tok t) (toks ts) o in
    starts_rise t.span.end ts f.rest i j d (omega (arith, l)) (omega (arith, m))

pub below : (a b n : ℕ) → a ≤ b → nat_lt b n ≡ true → nat_lt a n ≡ true
below a b n l e = let m = ltb-true b n e in grind (arith, nat_tests)

-- ---- where they are split

not_from : (a n : ℕ) → nat_lt a n ≡ true → nat_le n a ≡ false
not_from a n e = let m = ltb-true a n e in grind (arith, nat_tests)

from_here : (a n : ℕ) → nat_lt a n ≡ false → nat_le n a ≡ true
from_here a n e = grind (arith, nat_tests)

abbrev pub InFront : ℕ → List Token → ℕ → Type 0
InFront at ts n = (k : ℕ) (d : Token) → k < n → nat_lt (get_or ts k d).span.start at ≡ true

abbrev pub NotInFront : ℕ → List Token → ℕ → Type 0
NotInFront at ts n = (k : ℕ) (d : Token) → n ≤ k → k < length ts → nat_lt (get_or ts k d).span.start at ≡ false

pub front_split : (at : ℕ) (ts : List Token) (n : ℕ) → n ≤ length ts → InFront at ts n → NotInFront at ts n → toks (take n ts) ≡ in_front at (toks ts)
front_split at [] zero l f g = refl
front_split at [] (suc n) l f g = absurd (omega (arith, l))
front_split at (t ∷ ts) zero l f g =
    ap (λ b. cond b [] (tok t ∷ in_front at (toks ts))) (sym (from_here t.span.start at (g zero t (omega arith) (omega arith))))
front_split at (t ∷ ts) (suc n) l f g =
    ap (λ us. tok t ∷ us) (front_split at ts n (omega (arith, l)) (λ k d m. f (suc k) d (omega (arith, m))) (λ k d m w. g (suc k) d (omega (arith, m)) (omega (arith, w))))
    ∙ ap (λ b. cond b [] (tok t ∷ in_front at (toks ts))) (sym (not_from t.span.start at (f zero t (omega arith))))

pub rest_split : (at : ℕ) (ts : List Token) (n : ℕ) → n ≤ length ts → InFront at ts n → NotInFront at ts n → toks (drop n ts) ≡ tokens_from at (toks ts)
rest_split at [] zero l f g = refl
rest_split at [] (suc n) l f g = absurd (omega (arith, l))
rest_split at (t ∷ ts) zero l f g =
    ap (λ b. cond b (tok t ∷ toks ts) (tokens_from at (toks ts))) (sym (from_here t.span.start at (g zero t (omega arith) (omega arith))))
rest_split at (t ∷ ts) (suc n) l f g =
    rest_split at ts n (omega (arith, l)) (λ k d m. f (suc k) d (omega (arith, m))) (λ k d m w. g (suc k) d (omega (arith, m)) (omega (arith, w)))
    ∙ ap (λ b. cond b (tok t ∷ toks ts) (tokens_from at (toks ts))) (sym (not_from t.span.start at (f zero t (omega arith))))

-- ---- the token that begins at a place is the first of those from there on

apart : (n m : ℕ) → n < m → (m == n) ≡ false
apart n m l = false_from_ne_true (m == n) (λ e. let h : m ≡ n = eqb-true m n e in absurd (omega (arith, l, h)))

same : (n : ℕ) → (n == n) ≡ true
same n = grind (arith, nat_tests)

none_behind : (at from : ℕ) (ts : List Tok) → at < from → in_order from ts ≡ true → behind at ts ≡ []
none_behind at from [] l o = refl
none_behind at from (t ∷ ts) l o =
    let f = first_of_all from t ts o in
    ap (λ b. cond b ts (behind at ts)) (apart at t.span.start (omega (arith, l, f.low))) ∙ none_behind at t.span.end ts (omega (arith, l, f.low, f.some)) f.rest

pub behind_is : (at from : ℕ) (ts : List Tok) → in_order from ts ≡ true → behind at ts ≡ behind_first at (tokens_from at ts)
behind_is at from [] o = refl
behind_is at from (t ∷ ts) o =
    let f = first_of_all from t ts o in
    elim (nat_le at t.span.start) as (λ v. nat_le at t.span.start ≡ v → behind at (t ∷ ts) ≡ behind_first at (cond v (t ∷ ts) (tokens_from at ts))) [
      | true ↦ λ e. elim (t.span.start == at) as (λ w. (t.span.start == at) ≡ w → cond w ts (behind at ts) ≡ cond w ts []) [
        | true ↦ λ h. refl
        | false ↦ λ h. let m = leb-true at t.span.start e in none_behind at t.span.end ts (omega (arith, m, f.some)) f.rest
      ] refl
      | false ↦ λ e.
          let m : t.span.start < at = grind (arith, nat_tests) in
          let n : (t.span.start == at) ≡ false = grind (arith, nat_tests) in
          ap (λ b. cond b ts (behind at ts)) n ∙ behind_is at t.span.end ts f.rest
    ] refl

none_here : (at from : ℕ) (ts : List Tok) → at < from → in_order from ts ≡ true → text_at ts at ≡ []
none_here at from [] l o = refl
none_here at from (t ∷ ts) l o =
    let f = first_of_all from t ts o in
    ap (λ b. cond b t.text (text_at ts at)) (apart at t.span.start (omega (arith, l, f.low))) ∙ none_here at t.span.end ts (omega (arith, l, f.low, f.some)) f.rest

pub text_is : (at from : ℕ) (ts : List Tok) → in_order from ts ≡ true → text_at ts at ≡ text_first at (tokens_from at ts)
text_is at from [] o = refl
text_is at from (t ∷ ts) o =
    let f = first_of_all from t ts o in
    elim (nat_le at t.span.start) as (λ v. nat_le at t.span.start ≡ v → text_at (t ∷ ts) at ≡ text_first at (cond v (t ∷ ts) (tokens_from at ts))) [
      | true ↦ λ e. elim (t.span.start == at) as (λ w. (t.span.start == at) ≡ w → cond w t.text (text_at ts at) ≡ cond w t.text []) [
        | true ↦ λ h. refl
        | false ↦ λ h. let m = leb-true at t.span.start e in none_here at t.span.end ts (omega (arith, m, f.some)) f.rest
      ] refl
      | false ↦ λ e.
          let n : (t.span.start == at) ≡ false = grind (arith, nat_tests) in
          ap (λ b. cond b t.text (text_at ts at)) n ∙ text_is at t.span.end ts f.rest
    ] refl

-- ---- the mark `/` in front of a place is the last in front of it

no_slash : (at from : ℕ) (ts : List Tok) → at ≤ from → in_order from ts ≡ true → after_slash ts at ≡ false
no_slash at from [] l o = refl
no_slash at from (t ∷ ts) l o =
    let f = first_of_all from t ts o in
    let n : (t.span.end == at) ≡ false = apart at t.span.end (omega (arith, l, f.low, f.some)) in
    ap (λ b. cond (b && same_bytes t.text (codes "/")) true (after_slash ts at)) n ∙ no_slash at t.span.end ts (omega (arith, l, f.low, f.some)) f.rest

abbrev Slash : ℕ → List Tok → Type 0
Slash at ts = after_slash ts at ≡ last_slash at (in_front at ts)

slash_next : (at : ℕ) (t u : Tok) (ts : List Tok) → nat_le at t.span.start ≡ false → in_order t.span.end (u ∷ ts) ≡ true → Slash at (u ∷ ts) → Slash at (t ∷ u ∷ ts)
slash_next at t u ts e o s =
    let f = first_of_all t.span.end u ts o in
    elim (nat_le at u.span.start) as (λ v. nat_le at u.span.start ≡ v → after_slash (t ∷ u ∷ ts) at ≡ last_slash at (cond (nat_le at t.span.start) [] (t ∷ cond v [] (u ∷ in_front at ts)))) [
      | true ↦ λ h.
          let m = leb-true at u.span.start h in
          let none : after_slash (u ∷ ts) at ≡ false =
          let k : (u.span.end == at) ≡ false = apart at u.span.end (omega (arith, m, f.some)) in
          ap (λ b. cond (b && same_bytes u.text (codes "/")) true (after_slash ts at)) k ∙ no_slash at u.span.end ts (omega (arith, m, f.some)) f.rest in
          alone ((t.span.end == at) && same_bytes t.text (codes "/")) (after_slash (u ∷ ts) at) none
          ∙ ap (λ b. last_slash at (cond b [] (t ∷ []))) (sym e)
      | false ↦ λ h.
          let n : (t.span.end == at) ≡ false = grind (arith, nat_tests, f.low) in
          ap (λ b. cond (b && same_bytes t.text (codes "/")) true (after_slash (u ∷ ts) at)) n
          ∙ s ∙ ap (λ b. last_slash at (cond b [] (u ∷ in_front at ts))) h
          ∙ ap (λ b. last_slash at (cond b [] (t ∷ u ∷ in_front at ts))) (sym e)
    ] refl
  where
    alone : (a b : Bool) → b ≡ false → cond a true b ≡ a
    alone true b n = refl
    alone false b n = n

slash_last : (at : ℕ) (t : Tok) → nat_le at t.span.start ≡ false → Slash at (t ∷ [])
slash_last at t e =
    or_false ((t.span.end == at) && same_bytes t.text (codes "/")) ∙ ap (λ b. last_slash at (cond b [] (t ∷ []))) (sym e)
  where
    or_false : (a : Bool) → cond a true false ≡ a
    or_false true = refl
    or_false false = refl

slash_from : (at from : ℕ) (ts : List Tok) → in_order from ts ≡ true → Slash at ts
slash_from at from [] o = refl
slash_from at from (t ∷ ts) o =
    let f = first_of_all from t ts o in
    elim (nat_le at t.span.start) as (λ v. nat_le at t.span.start ≡ v → Slash at (t ∷ ts)) [
      | true ↦ λ e.
          let m = leb-true at t.span.start e in
          let k : (t.span.end == at) ≡ false = apart at t.span.end (omega (arith, m, f.some)) in
          ap (λ b. cond (b && same_bytes t.text (codes "/")) true (after_slash ts at)) k
          ∙ no_slash at t.span.end ts (omega (arith, m, f.some)) f.rest
          ∙ ap (λ b. last_slash at (cond b [] (t ∷ in_front at ts))) (sym e)
      | false ↦ λ e. further t ts e f.rest (slash_from at t.span.end ts f.rest)
    ] refl
  where
    further : (t : Tok) (ts : List Tok) → nat_le at t.span.start ≡ false → in_order t.span.end ts ≡ true → Slash at ts → Slash at (t ∷ ts)
    further t [] e o s = slash_last at t e
    further t (u ∷ ts) e o s = slash_next at t u ts e o s

pub after_slash_is : (at from : ℕ) (ts : List Tok) → in_order from ts ≡ true → after_slash ts at ≡ last_slash at (in_front at ts)
after_slash_is at from ts o = slash_from at from ts o
