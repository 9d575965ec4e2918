-- A text has at most one list of tokens, in order, each a word; one that gets stuck has none: by induction on how the text is read.
use Rattle.std.proofs.Common.{◌≡◌, ℕ, ◌+◌, ◌≤◌, ◌<◌, Bool, true, false, cond, List, [], ◌∷◌, ◌++◌, length, length-append, length-take, take, drop, ◌-◌, append_assoc, refl, sym, ap, subst, ◌∙◌, arith}
use Rattle.std.specs.Prelude.{◌≢◌, ◌==◌, ◌&&◌, not, if◌then◌else◌, codes}
use Rattle.std.proofs.lemmas.Bool.{and_parts, not-true, false≢true}
use Rattle.rx_core.specs.Bytes.{same_bytes, is_one_of}
use Rattle.rx_lex.specs.declared.token.Class.{Class}
use Rattle.rx_lex.specs.declared.token.Class.TheVariants.{Identifier, Keyword, Lifetime, Number, Format, Mark}
use Rattle.rx_lex.specs.Numerals.{is_digit}
use Rattle.rx_lex.specs.Words.{IsWord, identifier, keyword, lifetime, number, format, mark, is_name, keywords, marks}
use Rattle.rx_lex.specs.Tok.{Tok}
use Rattle.rx_lex.specs.Tokens.{Front, Longest, Gap, Tokens, none, gap, token, token_at, Stuck, here, after_gap, after_token, Lexes, AreWords}
use Rattle.rx_lex.proofs.FirstBytes.{first, one_of_all, numeral_digit}
use Rattle.rx_lex.proofs.Names.{name_no_digit, name_run}
use Rattle.rx_lex.proofs.LongestWord.{gap_begins, word_not_empty, run_no_quote}
use Rattle.std.proofs.Math.Seq.{take-append_seam}
use Rattle.rx_lex.proofs.Gaps.{gap_one, gap_front}

-- ---- a word is of one class

-- the class that a word can have
abbrev pub class_of : List ℕ → Class
class_of w =
    if is_digit (first w) then Number
    else (if is_one_of w keywords then Keyword
    else (if same_bytes w (codes "_") then Mark
    else (if first w == 39 then Lifetime
    else (if is_name w then Identifier
    else (if first w == 34 then Format else Mark)))))

abbrev is_keyword_class : Class → Bool
is_keyword_class Keyword = true
is_keyword_class _ = false

abbrev is_mark_class : Class → Bool
is_mark_class Mark = true
is_mark_class _ = false

keyword_class : (c : Class) → is_keyword_class c ≡ true → c ≡ Keyword
keyword_class Identifier e = absurd (false≢true e)
keyword_class Keyword e = refl
keyword_class Lifetime e = absurd (false≢true e)
keyword_class Number e = absurd (false≢true e)
keyword_class Format e = absurd (false≢true e)
keyword_class Mark e = absurd (false≢true e)

mark_class : (c : Class) → is_mark_class c ≡ true → c ≡ Mark
mark_class Identifier e = absurd (false≢true e)
mark_class Keyword e = absurd (false≢true e)
mark_class Lifetime e = absurd (false≢true e)
mark_class Number e = absurd (false≢true e)
mark_class Format e = absurd (false≢true e)
mark_class Mark e = refl

pub word_class : {c : Class} {w : List ℕ} → IsWord c w → class_of w ≡ c
word_class (identifier {w = w} e) =
    let p = and_parts (is_name w && not (same_bytes w (codes "_"))) (not (is_one_of w keywords)) e in
    let q = and_parts (is_name w) (not (same_bytes w (codes "_"))) p.0 in
    by_tests (is_digit (first w)) (is_one_of w keywords) (same_bytes w (codes "_")) (first w == 39) (is_name w) (first w == 34)
    (name_no_digit w q.0) (not-true (is_one_of w keywords) p.1) (not-true (same_bytes w (codes "_")) q.1) (run_no_quote w (name_run w q.0)) q.0
  where
    by_tests : (a b c d e f : Bool) → a ≡ false → b ≡ false → c ≡ false → d ≡ false → e ≡ true
        → cond {A = Class} a Number (cond b Keyword (cond c Mark (cond d Lifetime (cond e Identifier (cond f Format Mark))))) ≡ Identifier
    by_tests a b c d e f p q r s t = rw (p, q, r, s, t)
word_class (lifetime i e) = ap class_of e
word_class (keyword {w = w} e) = keyword_class (class_of w) (one_of_all (λ l. is_keyword_class (class_of l)) w keywords refl e)
word_class (number {w = w} n b) =
    ap (λ t. cond {A = Class} t Number (cond (is_one_of w keywords) Keyword (cond (same_bytes w (codes "_")) Mark (cond (first w == 39) Lifetime (cond (is_name w) Identifier (cond (first w == 34) Format Mark))))))
    (numeral_digit n)
word_class (format e) = ap class_of e
word_class (mark {w = w} e) = mark_class (class_of w) (one_of_all (λ l. is_mark_class (class_of l)) w marks refl e)

-- ---- the longest word is one

fronts_alike : (w v r q : List ℕ) → length w ≡ length v → w ++ r ≡ v ++ q → (w ≡ v) × (r ≡ q)
fronts_alike [] [] r q n e = (refl, e)
fronts_alike [] (y ∷ ys) r q n e = absurd (omega arith)
fronts_alike (x ∷ xs) [] r q n e = absurd (omega arith)
fronts_alike (x ∷ xs) (y ∷ ys) r q n e =
    let h : x ≡ y = cc in
    let s : xs ++ r ≡ ys ++ q = cc in
    let p = fronts_alike xs ys r q (omega arith) s in
    let k : x ∷ xs ≡ y ∷ ys = cc in
    (k, p.1)

pub longest_one : {c d : Class} {w v r q t : List ℕ} → Longest c w r t → Longest d v q t → (c ≡ d) × (w ≡ v) × (r ≡ q)
longest_one {c} {d} {w} {v} {r} {q} a b =
    let m = a.longest d v q b.front in
    let n = b.longest c w r a.front in
    let p = fronts_alike w v r q (omega arith) (sym a.front.is ∙ b.front.is) in
    (sym (word_class a.front.word) ∙ (ap class_of p.0 ∙ word_class b.front.word), p.0, p.1)

front_not_empty : {c : Class} {w r : List ℕ} → Front c w r [] → ⊥
front_not_empty {w = w} {r = r} f = both_empty w r (word_not_empty f.word) f.is
  where
    both_empty : (w r : List ℕ) → w ≢ [] → [] ≡ w ++ r → ⊥
    both_empty [] r n e = n refl
    both_empty (c ∷ cs) r n e = cc

no_gap_in_empty : {r : List ℕ} → Gap [] r → ⊥
no_gap_in_empty g = false≢true (gap_begins g)

-- ---- one list of tokens

same_step : (m n : ℕ) (r q t : List ℕ) → length t ≡ m + length r → length t ≡ n + length q → r ≡ q → m ≡ n
same_step m n r q t a b e = omega (arith, ap length e)

token_alike : (at : ℕ) (c d : Class) (w v : List ℕ) → c ≡ d → w ≡ v → token_at at c w ≡ token_at at d v
token_alike at c d w v p q = cc

same_tokens : {at : ℕ} {t : List ℕ} {ts us : List Tok} → Tokens at t ts → Tokens at t us → ts ≡ us
same_tokens none none = refl
same_tokens none (gap n g l d) = absurd (no_gap_in_empty g)
same_tokens none (token c w r n l d) = absurd (front_not_empty l.front)
same_tokens (gap n g l d) none = absurd (no_gap_in_empty g)
same_tokens {at = at} {us = us} (gap n {t = t} {r = r} g l d) (gap m {r = q} h k e) =
    let s = gap_one g h in
    let i = same_step n m r q t l k s in
    same_tokens d (subst (λ b. Tokens (at + n) b us) (sym s) (subst (λ a. Tokens (at + a) q us) (sym i) e))
same_tokens (gap n {r = r} g l d) (token c w q m k e) = absurd (m r g)
same_tokens (token c w r n l d) none = absurd (front_not_empty l.front)
same_tokens (token c w r n l d) (gap m {r = q} g k e) = absurd (n q g)
same_tokens {at = at} (token c w r n l d) (token {ts = us} b v q m k e) =
    let p = longest_one l k in
    let i : length v ≡ length w = ap length (sym p.1) in
    let h = same_tokens d (subst (λ x. Tokens (at + length w) x us) (sym p.2) (subst (λ a. Tokens (at + a) q us) i e)) in
    ap (λ x. token_at at c w ∷ x) h ∙ ap (λ x. x ∷ us) (token_alike at c b w v p.0 p.1)

pub tokens_unique : (at : ℕ) (t : List ℕ) (ts us : List Tok) → Tokens at t ts → Tokens at t us → ts ≡ us
tokens_unique at t ts us a b = same_tokens a b

pub lexes_one : (bytes : List ℕ) (ts us : List Tok) → Lexes bytes ts → Lexes bytes us → ts ≡ us
lexes_one bytes ts us a b = same_tokens a.tokens b.tokens

-- ---- a text that gets stuck has no tokens

tokens_not_stuck : {at bad : ℕ} {t : List ℕ} {ts : List Tok} → Tokens at t ts → Stuck at t bad → ⊥
tokens_not_stuck none (here n g f) = n refl
tokens_not_stuck none (after_gap n g l s) = no_gap_in_empty g
tokens_not_stuck none (after_token c w r n l s) = front_not_empty l.front
tokens_not_stuck (gap n {r = r} g l d) (here m h f) = h r g
tokens_not_stuck {at = at} {bad = bad} (gap n {t = t} {r = r} g l d) (after_gap m {r = q} h k e) =
    let s = gap_one g h in
    let i = same_step n m r q t l k s in
    tokens_not_stuck d (subst (λ b. Stuck (at + n) b bad) (sym s) (subst (λ a. Stuck (at + a) q bad) (sym i) e))
tokens_not_stuck (gap n {r = r} g l d) (after_token c w q m k e) = m r g
tokens_not_stuck (token c w r n l d) (here m h f) = f c w r l.front
tokens_not_stuck (token c w r n l d) (after_gap m {r = q} g k e) = n q g
tokens_not_stuck {at = at} {bad = bad} (token c w r n l d) (after_token b v q m k e) =
    let p = longest_one l k in
    let i : length v ≡ length w = ap length (sym p.1) in
    tokens_not_stuck d (subst (λ x. Stuck (at + length w) x bad) (sym p.2) (subst (λ a. Stuck (at + a) q bad) i e))

pub tokens_or_stuck : (at bad : ℕ) (t : List ℕ) (ts : List Tok) → Tokens at t ts → Stuck at t bad → ⊥
tokens_or_stuck at bad t ts a b = tokens_not_stuck a b

-- ---- tokens in order

-- the tokens stand in order from a place to another, and none is empty
abbrev pub Ordered : ℕ → ℕ → List Tok → Type 0
Ordered from to [] = from ≤ to
Ordered from to (t ∷ ts) = (from ≤ t.span.start) × (t.span.start < t.span.end) × Ordered t.span.end to ts

pub ordered_from : (from near to : ℕ) (ts : List Tok) → near ≤ from → Ordered from to ts → Ordered near to ts
ordered_from from near to [] h o = omega arith
ordered_from from near to (t ∷ ts) h o = (omega (arith, o.0), o.1, o.2)

word_length : {c : Class} {w : List ℕ} → IsWord c w → 0 < length w
word_length {w = w} i = long w (word_not_empty i)
  where
    long : (w : List ℕ) → w ≢ [] → 0 < length w
    long [] n = absurd (n refl)
    long (c ∷ cs) n = omega arith

in_order : {at : ℕ} {t : List ℕ} {ts : List Tok} (to : ℕ) → at + length t ≡ to → Tokens at t ts → Ordered at to ts
in_order to e none = omega arith
in_order {at = at} {ts = ts} to e (gap n g l d) = ordered_from (at + n) at to ts (omega arith) (in_order to (omega arith) d)
in_order {at = at} to e (token {t = t} c w r n l d) =
    let p = word_length l.front.word in
    let h : length t ≡ length w + length r = ap length l.front.is ∙ length-append w r in
    (omega arith, omega arith, in_order to (omega arith) d)

pub tokens_in_order : (at : ℕ) (t : List ℕ) (ts : List Tok) → Tokens at t ts → Ordered at (at + length t) ts
tokens_in_order at t ts d = in_order (at + length t) refl d

-- ---- each token is a word

each_word : {at : ℕ} {t : List ℕ} {ts : List Tok} → Tokens at t ts → AreWords ts
each_word none = tt
each_word (gap n g l d) = each_word d
each_word (token c w r n l d) = (l.front.word, each_word d)

pub tokens_are_words : (at : ℕ) (t : List ℕ) (ts : List Tok) → Tokens at t ts → AreWords ts
tokens_are_words at t ts d = each_word d

-- ---- each token stands where its span says

abbrev pub EachStands : List ℕ → List Tok → Type 0
EachStands bytes [] = Unit {0}
EachStands bytes (t ∷ ts) = (t.text ≡ take (t.span.end - t.span.start) (drop t.span.start bytes)) × EachStands bytes ts

seam : (before w r : List ℕ) → w ≡ take (length before + length w - length before) (drop (length before) (before ++ (w ++ r)))
seam [] w r = let e : 0 + length w - 0 ≡ length w = omega arith in rw e (sym (take-append_seam w r))
seam (b ∷ before) w r =
    let e : length (b ∷ before) + length w - length (b ∷ before) ≡ length before + length w - length before = omega arith in
    rw e (seam before w r)

each_stands : {at : ℕ} {t : List ℕ} {ts : List Tok} (bytes before : List ℕ) → length before ≡ at → bytes ≡ before ++ t → Tokens at t ts → EachStands bytes ts
each_stands bytes before n e none = tt
each_stands bytes before n e (gap k {t = t} {r = r} g l d) =
    let f : t ≡ take k t ++ r = gap_front k g l in
    each_stands bytes (before ++ take k t) (omega (arith, length-append before (take k t), length-take k t)) (e ∙ (ap (λ x. before ++ x) f ∙ sym (append_assoc before (take k t) r))) d
each_stands {at = at} bytes before n e (token {t = t} c w r m l d) =
    let f : bytes ≡ before ++ (w ++ r) = e ∙ ap (λ x. before ++ x) l.front.is in
    let h : w ≡ take (at + length w - at) (drop at bytes) =
    subst (λ a. w ≡ take (a + length w - a) (drop a bytes)) n (seam before w r ∙ ap (λ x. take (length before + length w - length before) (drop (length before) x)) (sym f)) in
    (h, each_stands bytes (before ++ w) (omega (arith, length-append before w)) (f ∙ sym (append_assoc before w r)) d)

pub tokens_stand : (bytes : List ℕ) (ts : List Tok) → Tokens 0 bytes ts → EachStands bytes ts
tokens_stand bytes ts d = each_stands bytes [] refl refl d

-- ---- a text gets stuck at one place

same_place : {at a b : ℕ} {t : List ℕ} → Stuck at t a → Stuck at t b → a ≡ b
same_place (here n g f) (here m h k) = refl
same_place (here n g f) (after_gap m {r = q} h l s) = absurd (g q h)
same_place (here n g f) (after_token c w r m l s) = absurd (f c w r l.front)
same_place (after_gap n {r = r} g l s) (here m h k) = absurd (h r g)
same_place {at = at} {b = b} (after_gap n {t = t} {r = r} g l s) (after_gap m {r = q} h k e) =
    let p = gap_one g h in
    let i = same_step n m r q t l k p in
    same_place s (subst (λ x. Stuck (at + n) x b) (sym p) (subst (λ x. Stuck (at + x) q b) (sym i) e))
same_place (after_gap n {r = r} g l s) (after_token c w q m k e) = absurd (m r g)
same_place (after_token c w r n l s) (here m h k) = absurd (k c w r l.front)
same_place (after_token c w r n l s) (after_gap m {r = q} g k e) = absurd (n q g)
same_place {at = at} {b = b} (after_token c w r n l s) (after_token d v q m k e) =
    let p = longest_one l k in
    let i : length v ≡ length w = ap length (sym p.1) in
    same_place s (subst (λ x. Stuck (at + length w) x b) (sym p.2) (subst (λ x. Stuck (at + x) q b) i e))

pub stuck_one : (at a b : ℕ) (t : List ℕ) → Stuck at t a → Stuck at t b → a ≡ b
stuck_one at a b t s e = same_place s e
