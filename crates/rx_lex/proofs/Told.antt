-- A text has tokens or gets stuck: each step of the reading is decided, by what the scanner would test.
use Rattle.std.proofs.Common.{◌≡◌, ℕ, zero, suc, ◌+◌, ◌-◌, ◌≤◌, ◌<◌, Bool, true, false, List, [], ◌∷◌, ◌++◌, length, length-drop, take, drop, get_or, Option, Some, None, refl, sym, ap, ◌∙◌, arith, inl, inr}
use Rattle.std.specs.Prelude.{◌⊎◌, nat_le, codes, encode_utf8, encode_utf8_all}
use Rattle.std.specs.Str.{chars, IsUtf8}
use Rattle.std.proofs.lemmas.Bool.{cases_lt, leb-true, leb-false, false≢true, both_ways}
use Rattle.std.proofs.lemmas.List.{append_cancel_left, take-append-drop}
use Rattle.std.proofs.lemmas.Str.{encodes-chars, length-encode, len_utf8_bounds, IsUtf8-drop}
use Rattle.rx_core.specs.declared.types.Kind.{Kind}
use Rattle.rx_core.specs.Bytes.{same_bytes, is_one_of}
use Rattle.rx_core.proofs.BytesLemmas.{same_bytes-true, same_bytes-equal}
use Rattle.rx_lex.specs.declared.token.Class.{Class}
use Rattle.rx_lex.specs.declared.token.Class.TheVariants.{Identifier, Keyword, Lifetime, Number, Format, Mark}
use Rattle.rx_lex.specs.Numerals.{IsNumeral, is_digit, suffix_text, greatest}
use Rattle.rx_lex.specs.Digits.{IsBody, body_length, base_of}
use Rattle.rx_lex.specs.Words.{IsWord, number, keyword, is_name, is_lifetime_name, keywords, begins_continue, goes_on}
use Rattle.rx_lex.specs.Tok.{Tok}
use Rattle.rx_lex.specs.Tokens.{Gap, Tokens, Stuck, Lexes, token_at}
use Rattle.rx_lex.specs.Scan.{gap_rest}
use Rattle.rx_lex.specs.FrontWord.{Continues, WordOf, NoWord, begins_comment, begins_quote}
use Rattle.rx_lex.proofs.Names.{IsRun, goes_on_is}
use Rattle.rx_lex.proofs.NameTests.{char_continues, Read, read_none, read_more}
use Rattle.rx_lex.proofs.NumeralLaws.{named, named_suffix, value_by, is_body_by, body_reads, body_from, no_body, numeral_from, no_numeral, no_numeral_value}
use Rattle.rx_lex.proofs.Gaps.{gap_is, gap_shorter, gap_front}
use Rattle.rx_lex.proofs.FrontWords.{run_of, run_word, run_no_word, digit_no_word, line_word, name_word, no_name_word, has, two_word, comment_no_mark, no_mark, one_word, formats, format_word, no_word, quote_boundary, lifetime_word, lifetime_no_word}
use Rattle.rx_lex.proofs.Reading.{Reading, reading_begins, reading_gap, reading_word, reading_ends, reading_stuck}

-- ---- runs

data More (t : List ℕ) : Type 0 where
  more : (n : ℕ) → Continues n t → More t

char_more : (t : List ℕ) → IsUtf8 t → goes_on t ≡ true → More t
char_more t u e = by_chars (chars t) refl
  where
    by_chars : (cs : List ℕ) → chars t ≡ cs → More t
    by_chars [] k = absurd (false≢true (sym (goes_on_is t ∙ ap begins_continue k) ∙ e))
    by_chars (c ∷ cs) k =
        let is : t ≡ encode_utf8 c ++ encode_utf8_all cs = sym (encodes-chars t u) ∙ ap encode_utf8_all k in
        let l = length-encode c in
        let b = (len_utf8_bounds c).0 in
        more (length (encode_utf8 c))
        (char_continues t (encode_utf8_all cs) c (length (encode_utf8 c)) u is refl (omega (arith, l, b))
        (sym (goes_on_is t ∙ ap begins_continue k) ∙ e))

record RunTo (t : List ℕ) : Type 0 where
  n : ℕ
  read : Read n t
  ends : goes_on (drop n t) ≡ false

runs_from : (k at : ℕ) (t : List ℕ) → length t ≤ at + k → Read at t → (b : Bool) → goes_on (drop at t) ≡ b → RunTo t
runs_from k at t l r false e = record { n = at; read = r; ends = e }
runs_from zero at t l r true e =
    elim (char_more (drop at t) r.rest e) [
      | more n c ↦ let p = c.not_empty in let w = c.within in absurd (omega (arith, length-drop at t))
    ]
runs_from (suc k) at t l r true e =
    elim (char_more (drop at t) r.rest e) [
      | more n c ↦
          let p = c.not_empty in
          runs_from k (at + n) t (omega arith) (read_more at n t (drop at t) refl r c) (goes_on (drop (at + n) t)) refl
    ]

runs : (t : List ℕ) → IsUtf8 t → RunTo t
runs t u = runs_from (length t) 0 t (omega arith) (read_none t u) (goes_on t) refl

-- ---- numbers

data SuffixOr (s : List ℕ) : Type 0 where
  a_suffix : (k : Option Kind) → s ≡ suffix_text k → SuffixOr s
  no_suffix : ((k : Option Kind) → s ≡ suffix_text k → ⊥) → SuffixOr s

suffix_of : (s : List ℕ) → SuffixOr s
suffix_of s = by_test (same_bytes s (suffix_text (named s))) refl
  where
    by_test : (b : Bool) → same_bytes s (suffix_text (named s)) ≡ b → SuffixOr s
    by_test true e = a_suffix (named s) (same_bytes-true s (suffix_text (named s)) e)
    by_test false e = no_suffix (λ k i.
        let n : named s ≡ k = ap named i ∙ named_suffix k in
        both_ways (same_bytes s (suffix_text (named s))) e
        (same_bytes-equal s (suffix_text (named s)) (i ∙ ap suffix_text (sym n))))

data BodyOr (w : List ℕ) : Type 0 where
  a_body : (v : ℕ) → IsBody w v → v ≤ greatest → BodyOr w
  not_body : ((v : ℕ) → IsBody w v → v ≤ greatest → ⊥) → BodyOr w

body_of : (w : List ℕ) → BodyOr w
body_of w = by_tests (is_body_by (base_of w) w) (nat_le (value_by (base_of w) w) greatest) refl refl
  where
    by_tests : (a b : Bool) → is_body_by (base_of w) w ≡ a → nat_le (value_by (base_of w) w) greatest ≡ b → BodyOr w
    by_tests true true e l =
        let v = value_by (base_of w) w in a_body v (body_from w (base_of w) refl e v refl) (leb-true v greatest l)
    by_tests true false e l =
        let m = leb-false (value_by (base_of w) w) greatest l in
        not_body (λ v i b. let h = (body_reads i).value in absurd (omega (arith, m, h)))
    by_tests false b e l = not_body (λ v i k. no_body w (base_of w) refl e v i)

data NumberOr (w : List ℕ) : Type 0 where
  a_number : (v : ℕ) (k : Option Kind) → IsNumeral w v k → v ≤ greatest → NumberOr w
  no_number : ((v : ℕ) (k : Option Kind) → IsNumeral w v k → v ≤ greatest → ⊥) → NumberOr w

number_of : (w : List ℕ) → NumberOr w
number_of w =
    elim (suffix_of (drop (body_length w) w)) [
      | no_suffix h ↦ no_number (no_numeral w (body_length w) refl h)
      | a_suffix k e ↦ elim (body_of (take (body_length w) w)) [
        | a_body v i b ↦ a_number v k (numeral_from w v (body_length w) k i e) b
        | not_body h ↦ no_number (no_numeral_value w (body_length w) refl h)
      ]
    ]

-- ---- the class of a run

data ClassOr (w : List ℕ) : Type 0 where
  a_class : (c : Class) → IsWord c w → ClassOr w
  no_class : ((c : Class) → IsWord c w → ⊥) → ClassOr w

class_of_run : (w : List ℕ) → IsRun w → ClassOr w
class_of_run w a = by_digit (is_digit (get_or w 0 0)) refl
  where
    by_name : is_digit (get_or w 0 0) ≡ false → is_one_of w keywords ≡ false → same_bytes w (codes "_") ≡ false
        → (b : Bool) → is_name w ≡ b → ClassOr w
    by_name d k l true e = a_class Identifier (name_word w k l e)
    by_name d k l false e = no_class (no_name_word w a d k l e)

    by_line : is_digit (get_or w 0 0) ≡ false → is_one_of w keywords ≡ false
        → (b : Bool) → same_bytes w (codes "_") ≡ b → ClassOr w
    by_line d k true e = a_class Mark (line_word w e)
    by_line d k false e = by_name d k e (is_name w) refl

    by_keyword : is_digit (get_or w 0 0) ≡ false → (b : Bool) → is_one_of w keywords ≡ b → ClassOr w
    by_keyword d true e = a_class Keyword (keyword e)
    by_keyword d false e = by_line d e (same_bytes w (codes "_")) refl

    by_digit : (b : Bool) → is_digit (get_or w 0 0) ≡ b → ClassOr w
    by_digit true e =
        elim (number_of w) [
          | a_number v k i b ↦ a_class Number (number i b)
          | no_number h ↦ no_class (digit_no_word w e h)
        ]
    by_digit false e = by_keyword e (is_one_of w keywords) refl

-- ---- the word that comes first

data FirstOr (t : List ℕ) : Type 0 where
  found : (c : Class) (n : ℕ) → WordOf c n t → FirstOr t
  none_first : NoWord t → FirstOr t

module _ (t : List ℕ) (u : IsUtf8 t) where
  lifetime_first : begins_quote t ≡ true → FirstOr t
  lifetime_first q =
      let r = runs (drop 1 t) (IsUtf8-drop t 1 u (quote_boundary t q u)) in
      by_name r (is_lifetime_name (take r.n (drop 1 t))) refl
    where
      by_name : (r : RunTo (drop 1 t)) (b : Bool) → is_lifetime_name (take r.n (drop 1 t)) ≡ b → FirstOr t
      by_name r true i = found Lifetime (1 + r.n) (lifetime_word r.n t (drop 1 t) refl q r.read.within r.ends i)
      by_name r false i = none_first (lifetime_no_word r.n t (drop 1 t) refl q r.read.text r.read.all r.ends i)

  mark_first : goes_on t ≡ false → begins_quote t ≡ false → formats t ≡ false → FirstOr t
  mark_first e q m = by_two (has 2 t) refl
    where
      by_one : has 2 t ≡ false → begins_comment t ≡ false → (b : Bool) → has 1 t ≡ b → FirstOr t
      by_one h c true k = found Mark 1 (one_word t h c k e)
      by_one h c false k = none_first (no_word t u e q m (λ g. no_mark t h k))

      by_comment : has 2 t ≡ false → (b : Bool) → begins_comment t ≡ b → FirstOr t
      by_comment h true c = none_first (no_word t u e q m (comment_no_mark t h c))
      by_comment h false c = by_one h c (has 1 t) refl

      by_two : (b : Bool) → has 2 t ≡ b → FirstOr t
      by_two true h = found Mark 2 (two_word t h)
      by_two false h = by_comment h (begins_comment t) refl

  no_run : goes_on t ≡ false → FirstOr t
  no_run e = by_quote (begins_quote t) refl
    where
      by_format : begins_quote t ≡ false → (b : Bool) → formats t ≡ b → FirstOr t
      by_format q true m = found Format 4 (format_word t m)
      by_format q false m = mark_first e q m

      by_quote : (b : Bool) → begins_quote t ≡ b → FirstOr t
      by_quote true q = lifetime_first q
      by_quote false q = by_format q (formats t) refl

  first_of : FirstOr t
  first_of = let r = runs t u in by_run r.n r.read r.ends
    where
      by_run : (n : ℕ) → Read n t → goes_on (drop n t) ≡ false → FirstOr t
      by_run zero r e = no_run e
      by_run (suc n) r e =
          let o = run_of (suc n) t (omega arith) r.within r.text r.all e in
          elim (class_of_run (take (suc n) t) o.run) [
            | a_class c i ↦ found c (suc n) (run_word c (suc n) t o i)
            | no_class h ↦ none_first (run_no_word (suc n) t o h)
          ]

-- ---- the whole text

data Told (bytes : List ℕ) : Type 0 where
  with_tokens : (ts : List Tok) → Tokens 0 bytes ts → Told bytes
  stuck_at : (at : ℕ) → Stuck 0 bytes at → Told bytes

-- what is left behind a blank or a comment
behind_gap : (t q : List ℕ) (n : ℕ) → Gap t q → length t ≡ n + length q → drop n t ≡ q
behind_gap t q n g l = append_cancel_left (take n t) (drop n t) q (take-append-drop n t ∙ gap_front n g l)

-- how the reading goes on from a place
abbrev GoesOn : List ℕ → ℕ → Type 0
GoesOn bytes at = (n : ℕ) (us : List Tok) → 0 < n → Reading bytes (at + n) us → Told bytes

told_from : (k at : ℕ) (bytes : List ℕ) (ts : List Tok) → length bytes ≤ at + k → Reading bytes at ts
    → (at < length bytes) ⊎ (length bytes ≤ at) → Told bytes
told_from k at bytes ts l r (inr h) = with_tokens ts (reading_ends bytes at ts h r)
told_from zero at bytes ts l r (inl h) = absurd (omega arith)
told_from (suc k) at bytes ts l r (inl h) =
    by_gap (gap_rest (drop at bytes)) refl
    (λ n us p d. told_from k (at + n) bytes us (omega arith) d (cases_lt (at + n) (length bytes)))
  where
    by_word : gap_rest (drop at bytes) ≡ None → FirstOr (drop at bytes) → GoesOn bytes at → Told bytes
    by_word e (none_first w) again = stuck_at at (reading_stuck bytes at ts h e w r)
    by_word e (found c n w) again =
        again n (ts ++ (token_at at c (take n (drop at bytes)) ∷ [])) w.not_empty (reading_word bytes at n ts c e w r)

    by_gap : (o : Option (List ℕ)) → gap_rest (drop at bytes) ≡ o → GoesOn bytes at → Told bytes
    by_gap None e again = by_word e (first_of (drop at bytes) r.text) again
    by_gap (Some q) e again =
        let t = drop at bytes in
        let n = length t - length q in
        let g = gap_is t q e in
        let s = gap_shorter g in
        let d : drop n t ≡ q = behind_gap t q n g (omega arith) in
        again n ts (omega arith) (reading_gap bytes at n ts (omega arith) (e ∙ ap (λ x. Some x) (sym d)) r)

pub told : (bytes : List ℕ) → IsUtf8 bytes → ((ts : List Tok) × Lexes bytes ts) ⊎ ((at : ℕ) × Stuck 0 bytes at)
told bytes u =
    elim (told_from (length bytes) 0 bytes [] (omega arith) (reading_begins bytes u) (cases_lt 0 (length bytes))) [
      | with_tokens ts d ↦ inl (ts, record { text = u; tokens = d })
      | stuck_at at s ↦ inr (at, s)
    ]
