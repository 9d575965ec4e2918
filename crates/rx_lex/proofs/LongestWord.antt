-- A word that stands before its rest is the longest word there: two words that begin one text are compared by their kinds.
use Rattle.std.proofs.Common.{◌≡◌, ℕ, ◌+◌, ◌≤◌, Bool, true, false, List, [], ◌∷◌, ◌++◌, length, refl, sym, ap, subst, ◌∙◌, arith, inl, inr}
use Rattle.std.specs.Prelude.{◌≢◌, ◌==◌, ◌&&◌, ◌||◌, not, nat_le, codes, ℕ}
use Rattle.std.specs.List.{list_all}
use Rattle.std.specs.Char.{is_ascii}
use Rattle.std.specs.Str.{chars, IsUtf8}
use Rattle.std.proofs.lemmas.Str.{chars-append, IsUtf8-append}
use Rattle.std.proofs.lemmas.Bool.{and_parts, and_from, and_left, and_right, or_cases, or_parts, or_from, or_left, not-true, not_from_false, false≢true, leb-true, eqb-true, both_ways, false_from_ne_true}
use Rattle.rx_core.specs.Bytes.{same_bytes, is_one_of}
use Rattle.rx_core.proofs.BytesLemmas.{same_bytes-true}
use Rattle.rx_lex.specs.declared.token.Class.{Class}
use Rattle.rx_lex.specs.declared.token.Class.TheVariants.{Identifier, Keyword, Lifetime, Number, Format, Mark}
use Rattle.rx_lex.specs.Numerals.{is_digit}
use Rattle.rx_lex.specs.Words.{IsWord, identifier, keyword, lifetime, number, format, mark, is_ascii_continue, is_continue, begins_continue, is_identifier, is_name, is_lifetime_name, keywords, marks, format_text, goes_on, begins_with_star, may_follow}
use Rattle.rx_lex.specs.Tokens.{Longest, Gap, blank, line_comment, block_comment, is_blank, Tokens, token, gap, token_at}
use Rattle.rx_lex.specs.Tok.{Tok}
use Rattle.rx_lex.specs.Stands.{makes_longer, makes_comment, stands_alone, stands}
use Rattle.rx_lex.proofs.FirstBytes.{first, first-append, one_of_all, numeral_continues, numeral_digit}
use Rattle.rx_lex.proofs.Names.{opens, IsRun, ascii_run, name_run, goes_on_is, texts_alike, ascii_utf8}

-- ---- runs of characters of identifiers

-- the word is a whole run of characters of identifiers at the front of the text
pub record Run (w r t : List ℕ) : Type 0 where
  pub run : IsRun w
  pub ends : goes_on r ≡ false
  pub is : t ≡ w ++ r

pub chars_alike : (w r v q : List ℕ) → list_all is_continue w ≡ true → begins_continue r ≡ false → list_all is_continue v ≡ true → begins_continue q ≡ false
    → w ++ r ≡ v ++ q → w ≡ v
chars_alike [] r [] q a b c d e = refl
chars_alike [] r (y ∷ ys) q a b c d e =
    absurd (both_ways (begins_continue r) b (ap begins_continue e ∙ (and_parts (is_continue y) (list_all is_continue ys) c).0))
chars_alike (x ∷ xs) r [] q a b c d e =
    absurd (both_ways (begins_continue q) d (ap begins_continue (sym e) ∙ (and_parts (is_continue x) (list_all is_continue xs) a).0))
chars_alike (x ∷ xs) r (y ∷ ys) q a b c d e =
    let h : x ≡ y = cc in
    let s : xs ++ r ≡ ys ++ q = cc in
    let p = chars_alike xs r ys q (and_parts (is_continue x) (list_all is_continue xs) a).1 b (and_parts (is_continue y) (list_all is_continue ys) c).1 d s in
    cc

run_alike : (w r v q : List ℕ) → IsRun w → goes_on r ≡ false → IsRun v → goes_on q ≡ false → w ++ r ≡ v ++ q → w ≡ v
run_alike w r v q a b c d e =
    let f = sym (chars-append w r a.text) ∙ (ap chars e ∙ chars-append v q c.text) in
    let g = chars_alike (chars w) (chars r) (chars v) (chars q) a.continues (sym (goes_on_is r) ∙ b) c.continues (sym (goes_on_is q) ∙ d) f in
    texts_alike w v a.text c.text g

-- two whole runs at the front of one text are one
pub same_run : {w r v q t : List ℕ} → Run w r t → Run v q t → w ≡ v
same_run {w} {r} {v} {q} a b = run_alike w r v q a.run a.ends b.run b.ends (sym a.is ∙ b.is)

-- ---- the kinds of words

-- of what kind a word is, and what its first byte says
pub data Kind_of : Class → List ℕ → Type 0 where
  run : {c : Class} {w : List ℕ} → ((r : List ℕ) → may_follow c w r ≡ true → goes_on r ≡ false) → ((r : List ℕ) → stands c w r ≡ true → goes_on r ≡ false)
      → IsRun w → Kind_of c w
  a_lifetime : {c : Class} {w name : List ℕ} → c ≡ Lifetime → IsRun name → w ≡ 39 ∷ name → Kind_of c w
  a_format : {c : Class} {w : List ℕ} → w ≡ format_text → Kind_of c w
  a_mark : {c : Class} {w : List ℕ} → c ≡ Mark → is_one_of w marks ≡ true → opens (first w) ≡ false → (first w == 34) ≡ false → (first w == 39) ≡ false
      → Kind_of c w

-- the marks but `_` begin with no byte of an identifier, and `_` is one
abbrev mark_first : List ℕ → Bool
mark_first w = same_bytes w (codes "_") || (not (opens (first w)) && (not (first w == 34) && not (first w == 39)))

mark_kind : {c : Class} {w : List ℕ} → c ≡ Mark → is_one_of w marks ≡ true → Kind_of c w
mark_kind {c} {w} k e =
    elim (or_cases (same_bytes w (codes "_")) (not (opens (first w)) && (not (first w == 34) && not (first w == 39))) (one_of_all mark_first w marks refl e)) [
      | inl h ↦
          let s = same_bytes-true w (codes "_") h in
          run (λ r f. line_ends r w c k h f) (λ r f. line_stands r w c k h f) (ascii_run w (ap (list_all is_ascii_continue) s) (λ n. cc))
      | inr h ↦
          let p = and_parts (not (opens (first w))) (not (first w == 34) && not (first w == 39)) h in
          let q = and_parts (not (first w == 34)) (not (first w == 39)) p.1 in
          a_mark k e (not-true (opens (first w)) p.0) (not-true (first w == 34) q.0) (not-true (first w == 39) q.1)
    ]
  where
    line_ends : (r w : List ℕ) (c : Class) → c ≡ Mark → same_bytes w (codes "_") ≡ true → may_follow c w r ≡ true → goes_on r ≡ false
    line_ends r w c k h f =
        let g = ap (λ d. may_follow d w r) (sym k) ∙ f in
        let p = and_parts (not (same_bytes w (codes "_") && goes_on r)) (not (same_bytes w (codes "/") && begins_with_star r)) g in
        not-true (goes_on r) (ap (λ b. not (b && goes_on r)) (sym h) ∙ p.0)

    line_stands : (r w : List ℕ) (c : Class) → c ≡ Mark → same_bytes w (codes "_") ≡ true → stands c w r ≡ true → goes_on r ≡ false
    line_stands r w c k h f =
        let g = ap (λ d. stands d w r) (sym k) ∙ f in
        let p = and_parts (not (makes_longer w r)) (not (same_bytes w (codes "_") && goes_on r) && not (same_bytes w (codes "/") && makes_comment r)) g in
        let q = and_parts (not (same_bytes w (codes "_") && goes_on r)) (not (same_bytes w (codes "/") && makes_comment r)) p.1 in
        not-true (goes_on r) (ap (λ b. not (b && goes_on r)) (sym h) ∙ q.0)

digit_first : (w : List ℕ) → is_digit (first w) ≡ true → w ≢ []
digit_first [] e = absurd (false≢true e)
digit_first (c ∷ cs) e = λ n. cc

keyword_not_empty : (w : List ℕ) → is_one_of w keywords ≡ true → w ≢ []
keyword_not_empty w e = λ n. false≢true (sym (ap (λ l. is_one_of l keywords) n) ∙ e)

-- an identifier is a name
pub identifier_name : (w : List ℕ) → is_identifier w ≡ true → is_name w ≡ true
identifier_name w e =
    (and_parts (is_name w) (not (same_bytes w (codes "_"))) (and_parts (is_name w && not (same_bytes w (codes "_"))) (not (is_one_of w keywords)) e).0).0

pub lifetime_run : (name : List ℕ) → is_lifetime_name name ≡ true → IsRun name
lifetime_run name e =
    elim (or_cases (is_identifier name) (same_bytes name (codes "_")) e) [
      | inl h ↦ name_run name (identifier_name name h)
      | inr h ↦ let s = same_bytes-true name (codes "_") h in ascii_run name (ap (list_all is_ascii_continue) s) (λ n. cc)
    ]

pub kind_of : {c : Class} {w : List ℕ} → IsWord c w → Kind_of c w
kind_of (identifier {w = w} e) = run (λ r f. not-true (goes_on r) f) (λ r f. not-true (goes_on r) f) (name_run w (identifier_name w e))
kind_of (keyword {w = w} e) =
    run (λ r f. not-true (goes_on r) f) (λ r f. not-true (goes_on r) f) (ascii_run w (one_of_all (list_all is_ascii_continue) w keywords refl e) (keyword_not_empty w e))
kind_of (lifetime {name = name} i e) = a_lifetime refl (lifetime_run name i) e
kind_of (number {w = w} n b) = run (λ r f. not-true (goes_on r) f) (λ r f. not-true (goes_on r) f) (ascii_run w (numeral_continues n) (digit_first w (numeral_digit n)))
kind_of (format e) = a_format e
kind_of (mark e) = mark_kind refl e

-- no word is empty
pub word_not_empty : {c : Class} {w : List ℕ} → IsWord c w → w ≢ []
word_not_empty {w = w} i = by_kind (kind_of i)
  where
    by_kind : {c : Class} {w : List ℕ} → Kind_of c w → w ≢ []
    by_kind (run f s a) = a.not_empty
    by_kind (a_lifetime k a e) = λ n. cc
    by_kind (a_format e) = λ n. cc
    by_kind (a_mark {w = w} k e a b d) = λ n. false≢true (sym (ap (λ l. is_one_of l marks) n) ∙ e)

-- each word is a text
pub kind_utf8 : {c : Class} {w : List ℕ} → Kind_of c w → IsUtf8 w
kind_utf8 (run f s a) = a.text
kind_utf8 (a_lifetime {name = name} k a e) = subst IsUtf8 (sym e) (IsUtf8-append (39 ∷ []) name (ascii_utf8 (39 ∷ []) refl) a.text)
kind_utf8 (a_format {w = w} e) = ascii_utf8 w (ap (list_all is_ascii) e)
kind_utf8 (a_mark {w = w} k e a b d) = ascii_utf8 w (one_of_all (list_all is_ascii) w marks refl e)

pub word_utf8 : {c : Class} {w : List ℕ} → IsWord c w → IsUtf8 w
word_utf8 i = kind_utf8 (kind_of i)

-- ---- the longest word

pub mark_length : (w : List ℕ) → is_one_of w marks ≡ true → length w ≤ 2
mark_length w e = leb-true (length w) 2 (one_of_all (λ l. nat_le (length l) 2) w marks refl e)

marks_compare : (w v r q : List ℕ) → is_one_of w marks ≡ true → is_one_of v marks ≡ true → not (makes_longer w r) ≡ true → w ++ r ≡ v ++ q → length v ≤ length w
marks_compare [] v r q a b s e = absurd (false≢true a)
marks_compare (x ∷ y ∷ w) v r q a b s e = let m = mark_length v b in omega arith
marks_compare (x ∷ []) [] r q a b s e = omega arith
marks_compare (x ∷ []) (y ∷ []) r q a b s e = omega arith
marks_compare (x ∷ []) (y ∷ z ∷ v) [] q a b s e = absurd (cc)
marks_compare (x ∷ []) (y ∷ z ∷ []) (d ∷ r) q a b s e =
    let h : x ∷ d ∷ [] ≡ y ∷ z ∷ [] = cc in
    absurd (false≢true (ap not (sym b ∙ ap (λ l. is_one_of l marks) (sym h)) ∙ s))
marks_compare (x ∷ []) (y ∷ z ∷ u ∷ v) (d ∷ r) q a b s e = let m = mark_length (y ∷ z ∷ u ∷ v) b in absurd (omega arith)

-- words that begin one text have one first byte
same_first : (w r v q : List ℕ) → w ≢ [] → v ≢ [] → w ++ r ≡ v ++ q → first w ≡ first v
same_first w r v q a b e = sym (first-append w r a) ∙ ap first e ∙ first-append v q b

not_both : (c d : ℕ) → c ≡ d → opens c ≡ true → opens d ≡ false → ⊥
not_both c d e a b = both_ways (opens d) b (ap opens (sym e) ∙ a)

pub mark_not_empty : {w : List ℕ} → is_one_of w marks ≡ true → w ≢ []
mark_not_empty e n = false≢true (sym (ap (λ l. is_one_of l marks) n) ∙ e)

pub format_not_empty : {w : List ℕ} → w ≡ format_text → w ≢ []
format_not_empty e n = cc

lifetime_not_empty : {w name : List ℕ} → w ≡ 39 ∷ name → w ≢ []
lifetime_not_empty e n = cc

-- a first byte that is another than the quote
not_quote : (w v name r q : List ℕ) → w ≢ [] → (first w == 39) ≡ false → v ≡ 39 ∷ name → w ++ r ≡ v ++ q → ⊥
not_quote w v name r q n b f e = both_ways (first w == 39) b (ap (λ d. d == 39) (same_first w r v q n (lifetime_not_empty f) e ∙ ap first f))

pub run_no_quote : (w : List ℕ) → IsRun w → (first w == 39) ≡ false
run_no_quote w a = false_from_ne_true (first w == 39) (λ h. not_both (first w) 39 (eqb-true (first w) 39 h) a.opened refl)

pub format_no_quote : (w : List ℕ) → w ≡ format_text → (first w == 39) ≡ false
format_no_quote w f = ap (λ l. first l == 39) f

compare : {c d : Class} {w v : List ℕ} (r q : List ℕ) → Kind_of c w → Kind_of d v → stands c w r ≡ true → may_follow d v q ≡ true → w ++ r ≡ v ++ q → length v ≤ length w
compare r q (run {w = w} f s a) (run {w = v} g t c) x y e = let h = run_alike w r v q a (s r x) c (g q y) e in omega (arith, ap length h)
compare r q (run {w = w} f s a) (a_lifetime {w = v} {name = n} k b i) x y e = absurd (not_quote w v n r q a.not_empty (run_no_quote w a) i e)
compare r q (run {w = w} f s a) (a_format {w = v} g) x y e = absurd (not_both (first w) 34 (same_first w r v q a.not_empty (format_not_empty g) e ∙ ap first g) a.opened refl)
compare r q (run {w = w} f s a) (a_mark {w = v} g i c d z) x y e = absurd (not_both (first w) (first v) (same_first w r v q a.not_empty (mark_not_empty i) e) a.opened c)
compare r q (a_lifetime {w = w} {name = n} k a i) (run {w = v} g t c) x y e = absurd (not_quote v w n q r c.not_empty (run_no_quote v c) i (sym e))
compare r q (a_lifetime {c = c} {w = w} {name = n} k a i) (a_lifetime {c = d} {w = v} {name = m} l b j) x y e =
    let s = not-true (goes_on r) (ap (λ c. stands c w r) (sym k) ∙ x) in
    let t = not-true (goes_on q) (ap (λ c. may_follow c v q) (sym l) ∙ y) in
    let f : 39 ∷ (n ++ r) ≡ 39 ∷ (m ++ q) = ap (λ x. x ++ r) (sym i) ∙ (e ∙ ap (λ x. x ++ q) j) in
    let g : n ++ r ≡ m ++ q = cc in
    let h = run_alike n r m q a s b t g in
    omega (arith, ap length h, ap length i, ap length j)
compare r q (a_lifetime {w = w} {name = n} k a i) (a_format {w = v} g) x y e = absurd (not_quote v w n q r (format_not_empty g) (format_no_quote v g) i (sym e))
compare r q (a_lifetime {w = w} {name = n} k a i) (a_mark {w = v} g j c d z) x y e = absurd (not_quote v w n q r (mark_not_empty j) z i (sym e))
compare r q (a_format {w = w} f) (run {w = v} g t c) x y e = absurd (not_both (first v) 34 (sym (same_first w r v q (format_not_empty f) c.not_empty e) ∙ ap first f) c.opened refl)
compare r q (a_format {w = w} f) (a_lifetime {w = v} {name = n} k b i) x y e = absurd (not_quote w v n r q (format_not_empty f) (format_no_quote w f) i e)
compare r q (a_format {w = w} f) (a_format {w = v} g) x y e = omega (arith, ap length f, ap length g)
compare r q (a_format {w = w} f) (a_mark {w = v} g i c d z) x y e =
    let h : first v ≡ 34 = sym (same_first w r v q (format_not_empty f) (mark_not_empty i) e) ∙ ap first f in
    absurd (both_ways (first v == 34) d (ap (λ b. b == 34) h))
compare r q (a_mark {w = w} f i a b z) (run {w = v} g t c) x y e = absurd (not_both (first v) (first w) (sym (same_first w r v q (mark_not_empty i) c.not_empty e)) c.opened a)
compare r q (a_mark {w = w} f i a b z) (a_lifetime {w = v} {name = n} k c j) x y e = absurd (not_quote w v n r q (mark_not_empty i) z j e)
compare r q (a_mark {w = w} f i a b z) (a_format {w = v} g) x y e =
    let h : first w ≡ 34 = same_first w r v q (mark_not_empty i) (format_not_empty g) e ∙ ap first g in
    absurd (both_ways (first w == 34) b (ap (λ b. b == 34) h))
compare {c = c} r q (a_mark {w = w} f i a b z) (a_mark {w = v} g j d k l) x y e = marks_compare w v r q i j (no_longer w r (ap (λ l. stands l w r) (sym f) ∙ x)) e
  where
    no_longer : (w r : List ℕ) → stands_alone w r ≡ true → not (makes_longer w r) ≡ true
    no_longer w r h = (and_parts (not (makes_longer w r)) (not (same_bytes w (codes "_") && goes_on r) && not (same_bytes w (codes "/") && makes_comment r)) h).0

star_comments : (b : Bool) (r : List ℕ) → not (b && makes_comment r) ≡ true → not (b && begins_with_star r) ≡ true
star_comments false r e = refl
star_comments true [] e = refl
star_comments true (c ∷ cs) e = not_from_false (c == 42) (or_parts (c == 42) (c == 47) (not-true ((c == 42) || (c == 47)) e)).0

pub stands_follows : (c : Class) (w r : List ℕ) → stands c w r ≡ true → may_follow c w r ≡ true
stands_follows Identifier w r e = e
stands_follows Keyword w r e = e
stands_follows Lifetime w r e = e
stands_follows Number w r e = e
stands_follows Format w r e = refl
stands_follows Mark w r e =
    let p = and_parts (not (makes_longer w r)) (not (same_bytes w (codes "_") && goes_on r) && not (same_bytes w (codes "/") && makes_comment r)) e in
    let q = and_parts (not (same_bytes w (codes "_") && goes_on r)) (not (same_bytes w (codes "/") && makes_comment r)) p.1 in
    and_from (not (same_bytes w (codes "_") && goes_on r)) (not (same_bytes w (codes "/") && begins_with_star r)) q.0
    (star_comments (same_bytes w (codes "/")) r q.1)

-- a word that stands before the rest is the longest one
pub word_longest : (c : Class) (w r t : List ℕ) → IsWord c w → stands c w r ≡ true → t ≡ w ++ r → Longest c w r t
word_longest c w r t i s e = record {
  front = record { word = i; follows = stands_follows c w r s; is = e };
  longest = λ d v q f. compare r q (kind_of i) (kind_of f.word) s f.follows (sym e ∙ f.is);
}

-- ---- no blank and no comment begins where a word stands

-- whether a text begins with a blank, `//` or `/*`
abbrev pub begins_gap : List ℕ → Bool
begins_gap [] = false
begins_gap (c ∷ cs) = is_blank c || ((c == 47) && makes_comment cs)

pub gap_begins : {t q : List ℕ} → Gap t q → begins_gap t ≡ true
gap_begins (blank {c = c} {r = r} e) = or_left (is_blank c) ((c == 47) && makes_comment r) e
gap_begins (line_comment u a b e) = ap begins_gap e
gap_begins (block_comment b) = refl

pub no_gap : (t : List ℕ) → begins_gap t ≡ false → (q : List ℕ) → Gap t q → ⊥
no_gap t e q g = both_ways (begins_gap t) e (gap_begins g)

-- a byte of an identifier is no blank and no `/`
opens_no_gap : (c : ℕ) (cs : List ℕ) → opens c ≡ true → begins_gap (c ∷ cs) ≡ false
opens_no_gap c cs e = false_from_ne_true (begins_gap (c ∷ cs)) (λ g.
    elim (or_cases (is_blank c) ((c == 47) && makes_comment cs) g) [
      | inl h ↦ blank_apart c e h
      | inr h ↦ false≢true (ap opens (sym (eqb-true c 47 (and_parts (c == 47) (makes_comment cs) h).0)) ∙ e)
    ])
  where
    blank_apart : (c : ℕ) → opens c ≡ true → is_blank c ≡ true → ⊥
    blank_apart c e h =
        elim (or_cases ((c == 32) || (c == 9) || (c == 10)) (c == 13) h) [
          | inl h ↦ elim (or_cases ((c == 32) || (c == 9)) (c == 10) h) [
            | inl h ↦ elim (or_cases (c == 32) (c == 9) h) [
              | inl h ↦ false≢true (ap opens (sym (eqb-true c 32 h)) ∙ e)
              | inr h ↦ false≢true (ap opens (sym (eqb-true c 9 h)) ∙ e)
            ]
            | inr h ↦ false≢true (ap opens (sym (eqb-true c 10 h)) ∙ e)
          ]
          | inr h ↦ false≢true (ap opens (sym (eqb-true c 13 h)) ∙ e)
        ]

-- no mark begins with a blank; one that begins with `/` is `/` or goes on with `=`
abbrev mark_no_gap : List ℕ → Bool
mark_no_gap [] = false
mark_no_gap (c ∷ cs) = not (is_blank c) && (not (c == 47) || (same_bytes (c ∷ cs) (codes "/") || same_bytes (c ∷ cs) (codes "/=")))

kind_no_gap : {c : Class} {w : List ℕ} (r : List ℕ) → Kind_of c w → stands c w r ≡ true → begins_gap (w ++ r) ≡ false
kind_no_gap r (run {w = []} f s a) x = absurd (a.not_empty refl)
kind_no_gap r (run {w = c ∷ cs} f s a) x = opens_no_gap c (cs ++ r) a.opened
kind_no_gap r (a_lifetime k a e) x = ap (λ l. begins_gap (l ++ r)) e
kind_no_gap r (a_format f) x = ap (λ l. begins_gap (l ++ r)) f
kind_no_gap r (a_mark {c = c} {w = w} f i a b d) x = alone_no_gap w r (one_of_all mark_no_gap w marks refl i) (ap (λ l. stands l w r) (sym f) ∙ x)
  where
    slash_alone : (w r : List ℕ) → w ≡ codes "/" → stands_alone w r ≡ true → makes_comment r ≡ false
    slash_alone w r h e =
        let g = ap (λ l. stands_alone l r) (sym h) ∙ e in
        let p = and_parts (not (makes_longer (codes "/") r)) (not (makes_comment r)) g in
        not-true (makes_comment r) p.1

    slash_longer : (w r : List ℕ) (c : ℕ) (cs : List ℕ) → w ≡ c ∷ cs → w ≡ codes "/=" → makes_comment (cs ++ r) ≡ false
    slash_longer w r c cs h e = let t : cs ≡ 61 ∷ [] = cc in ap (λ l. makes_comment (l ++ r)) t

    slash_only : (w r : List ℕ) (c : ℕ) (cs : List ℕ) → w ≡ c ∷ cs → w ≡ codes "/" → makes_comment r ≡ false → makes_comment (cs ++ r) ≡ false
    slash_only w r c cs h e m = let t : cs ≡ [] = cc in ap (λ l. makes_comment (l ++ r)) t ∙ m

    alone_no_gap : (w r : List ℕ) → mark_no_gap w ≡ true → stands_alone w r ≡ true → begins_gap (w ++ r) ≡ false
    alone_no_gap [] r e x = absurd (false≢true e)
    alone_no_gap (c ∷ cs) r e x =
        let p = and_parts (not (is_blank c)) (not (c == 47) || (same_bytes (c ∷ cs) (codes "/") || same_bytes (c ∷ cs) (codes "/="))) e in
        or_from (is_blank c) ((c == 47) && makes_comment (cs ++ r)) (not-true (is_blank c) p.0)
        (elim (or_cases (not (c == 47)) (same_bytes (c ∷ cs) (codes "/") || same_bytes (c ∷ cs) (codes "/=")) p.1) [
          | inl h ↦ and_left (c == 47) (makes_comment (cs ++ r)) (not-true (c == 47) h)
          | inr h ↦ and_right (c == 47) (makes_comment (cs ++ r)) (elim (or_cases (same_bytes (c ∷ cs) (codes "/")) (same_bytes (c ∷ cs) (codes "/=")) h) [
            | inl k ↦ let s = same_bytes-true (c ∷ cs) (codes "/") k in slash_only (c ∷ cs) r c cs refl s (slash_alone (c ∷ cs) r s x)
            | inr k ↦ slash_longer (c ∷ cs) r c cs refl (same_bytes-true (c ∷ cs) (codes "/=") k)
          ])
        ])

pub no_gap_at_word : (c : Class) (w r t : List ℕ) → IsWord c w → stands c w r ≡ true → t ≡ w ++ r → (q : List ℕ) → Gap t q → ⊥
no_gap_at_word c w r t i s e = no_gap t (ap begins_gap e ∙ kind_no_gap r (kind_of i) s)

-- ---- the tokens of a text that is put together from words and spaces

-- a word that stands before the rest is the first token
pub token_then : {at : ℕ} {r : List ℕ} {ts : List Tok} (c : Class) (w : List ℕ) → IsWord c w → stands c w r ≡ true
    → Tokens (at + length w) r ts → Tokens at (w ++ r) (token_at at c w ∷ ts)
token_then {r = r} c w i s d = token c w r (no_gap_at_word c w r (w ++ r) i s refl) (word_longest c w r (w ++ r) i s refl) d

-- a blank byte is no token
pub blank_then : {at : ℕ} {r : List ℕ} {ts : List Tok} (c : ℕ) → is_blank c ≡ true → Tokens (at + 1) r ts → Tokens at (c ∷ r) ts
blank_then {r = r} c e d = gap 1 (blank e) (omega arith) d
