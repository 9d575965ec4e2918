-- The word that comes first, as the scanner finds it, is the longest; where it finds none there is none: by the kinds of words.
use Rattle.std.proofs.Common.{◌≡◌, ℕ, suc, ◌+◌, ◌-◌, ◌≤◌, ◌<◌, Bool, true, false, cond, get_or, List, [], ◌∷◌, ◌++◌, length, length-take, take, drop, refl, sym, ap, subst, ◌∙◌, arith, inl, inr, Option, Some, None}
use Rattle.std.specs.Prelude.{◌≢◌, ◌==◌, ◌&&◌, ◌||◌, not, nat_le, codes, MatchOption}
use Rattle.std.specs.List.{list_all}
use Rattle.std.specs.Str.{chars, IsUtf8, IsCharBoundary}
use Rattle.std.proofs.lemmas.Str.{chars-append, IsCharBoundary-after_ascii}
use Rattle.std.proofs.lemmas.Bool.{and_parts, and_from, and_left, and_right, or_cases, not-true, not_from_false, false≢true, both_ways, false_from_ne_true, eqb-true, leb-true, le-leb}
use Rattle.std.proofs.lemmas.List.{take-append-drop}
use Rattle.rx_core.specs.declared.types.Kind.{Kind}
use Rattle.rx_core.specs.Bytes.{same_bytes, is_one_of}
use Rattle.rx_core.proofs.BytesLemmas.{same_bytes-true}
use Rattle.rx_lex.specs.declared.token.Class.{Class}
use Rattle.rx_lex.specs.declared.token.Class.TheVariants.{Identifier, Keyword, Lifetime, Number, Format, Mark}
use Rattle.rx_lex.specs.Numerals.{IsNumeral, is_digit, greatest}
use Rattle.rx_lex.specs.Words.{IsWord, identifier, keyword, lifetime, number, format, mark, is_continue, is_name, is_lifetime_name, keywords, marks, format_text, goes_on, begins_with_star, may_follow}
use Rattle.rx_lex.specs.Tokens.{Front, Gap}
use Rattle.rx_lex.specs.Stands.{makes_longer, makes_comment, stands_alone, stands}
use Rattle.rx_lex.specs.FrontWord.{WordOf, NoWord, begins_comment, begins_quote}
use Rattle.rx_lex.specs.Scan.{gap_rest, line_rest}
use Rattle.rx_lex.proofs.FirstBytes.{first, first-append, one_of_all, numeral_digit}
use Rattle.rx_lex.proofs.Names.{opens, IsRun, run_from, name_run, goes_on_is, texts_alike, run_goes_on}
use Rattle.rx_lex.proofs.LongestWord.{Run, same_run, chars_alike, Kind_of, run, a_lifetime, a_format, a_mark, kind_of, word_longest, word_not_empty, identifier_name, lifetime_run, run_no_quote, format_no_quote, mark_length, mark_not_empty, format_not_empty}
use Rattle.rx_lex.proofs.OfItsClass.{mark_is}
use Rattle.rx_lex.proofs.Gaps.{gap_is}
use Rattle.rx_lex.proofs.TokenLaws.{class_of, word_class}

-- ---- the word of a run

abbrev line_or_other : List ℕ → Bool
line_or_other w = same_bytes w (codes "_") || not (opens (first w))

line_alone : (r : List ℕ) → goes_on r ≡ false → stands_alone (codes "_") r ≡ true
line_alone [] e = refl
line_alone (d ∷ r) e = rw e

run_stands : {c : Class} {w : List ℕ} (r : List ℕ) → IsWord c w → opens (first w) ≡ true → goes_on r ≡ false → stands c w r ≡ true
run_stands r (identifier i) a e = not_from_false (goes_on r) e
run_stands r (keyword i) a e = not_from_false (goes_on r) e
run_stands r (lifetime i d) a e = not_from_false (goes_on r) e
run_stands r (number i b) a e = not_from_false (goes_on r) e
run_stands r (format i) a e = refl
run_stands r (mark {w = w} i) a e =
    elim (or_cases (same_bytes w (codes "_")) (not (opens (first w))) (one_of_all line_or_other w marks refl i)) [
      | inl h ↦ ap (λ l. stands_alone l r) (same_bytes-true w (codes "_") h) ∙ line_alone r e
      | inr h ↦ absurd (both_ways (opens (first w)) (not-true (opens (first w)) h) a)
    ]

long_enough : (n : ℕ) (t : List ℕ) → 0 < n → n ≤ length t → take n t ≢ []
long_enough n [] p h = absurd (omega arith)
long_enough n (c ∷ t) p h = λ e. let k : length (take n (c ∷ t)) ≡ 0 = ap length e in absurd (omega (arith, length-take n (c ∷ t)))

pub some_bytes : (w : List ℕ) → 0 < length w → w ≢ []
some_bytes [] p e = absurd (omega arith)
some_bytes (c ∷ w) p e = cc

-- the first bytes, this many, are a whole run
pub record RunOf (n : ℕ) (t : List ℕ) : Type 0 where
  pub not_empty : 0 < n
  pub within : n ≤ length t
  pub run : IsRun (take n t)
  pub ends : goes_on (drop n t) ≡ false

pub run_of : (n : ℕ) (t : List ℕ) → 0 < n → n ≤ length t → IsUtf8 (take n t) → list_all is_continue (chars (take n t)) ≡ true → goes_on (drop n t) ≡ false → RunOf n t
run_of n t p h u a e = record { not_empty = p; within = h; run = run_from (take n t) u a (long_enough n t p h); ends = e }

pub run_word : (c : Class) (n : ℕ) (t : List ℕ) → RunOf n t → IsWord c (take n t) → WordOf c n t
run_word c n t o i = record {
  not_empty = o.not_empty;
  within = o.within;
  longest = word_longest c (take n t) (drop n t) t i (run_stands (drop n t) i o.run.opened o.ends) (sym (take-append-drop n t));
}

front_first : (t w r v q : List ℕ) → w ≢ [] → v ≢ [] → t ≡ w ++ r → t ≡ v ++ q → first w ≡ first v
front_first t w r v q m n d e = sym (first-append w r m) ∙ (ap first (sym d ∙ e) ∙ first-append v q n)

pub run_no_word : (n : ℕ) (t : List ℕ) → RunOf n t → ((c : Class) → IsWord c (take n t) → ⊥) → NoWord t
run_no_word n t o none = λ g c w r f. by_kind c w r f (kind_of f.word)
  where
    apart : (w r : List ℕ) → t ≡ w ++ r → w ≢ [] → opens (first w) ≡ false → ⊥
    apart w r d m b =
        both_ways (opens (first w)) b
        (ap opens (front_first t w r (take n t) (drop n t) m o.run.not_empty d (sym (take-append-drop n t))) ∙ o.run.opened)

    by_kind : (c : Class) (w r : List ℕ) → Front c w r t → Kind_of c w → ⊥
    by_kind c w r f (run g s a) =
        let x : Run w r t = record { run = a; ends = g r f.follows; is = f.is } in
        let y : Run (take n t) (drop n t) t = record { run = o.run; ends = o.ends; is = sym (take-append-drop n t) } in
        none c (subst (IsWord c) (same_run x y) f.word)
    by_kind c w r f (a_lifetime k a e) = apart w r f.is (λ m. cc) (ap (λ l. opens (first l)) e)
    by_kind c w r f (a_format g) = apart w r f.is (format_not_empty g) (ap (λ l. opens (first l)) g)
    by_kind c w r f (a_mark g i b d z) = apart w r f.is (mark_not_empty i) b

-- ---- the class of a run

pub first_read : (w : List ℕ) → get_or w 0 0 ≡ first w
first_read [] = refl
first_read (c ∷ cs) = refl

digit_class : (w : List ℕ) → is_digit (first w) ≡ true → class_of w ≡ Number
digit_class w e =
    ap (λ t. cond {A = Class} t Number (cond (is_one_of w keywords) Keyword (cond (same_bytes w (codes "_")) Mark (cond (first w == 39) Lifetime (cond (is_name w) Identifier (cond (first w == 34) Format Mark)))))) e

other_class : (w : List ℕ) (c : Class) → class_of w ≡ c → is_digit (first w) ≡ true → c ≡ Number
other_class w c e d = sym e ∙ digit_class w d

-- a run that begins with a digit, and is no number, is no word
digit_word : {c : Class} {w : List ℕ} → is_digit (first w) ≡ true → ((v : ℕ) (k : Option Kind) → IsNumeral w v k → v ≤ greatest → ⊥) → IsWord c w → ⊥
digit_word {w = w} d f (identifier i) = let e = other_class w Identifier (word_class {w = w} (identifier i)) d in cc
digit_word {w = w} d f (keyword i) = let e = other_class w Keyword (word_class {w = w} (keyword i)) d in cc
digit_word {w = w} d f (lifetime i b) = let e = other_class w Lifetime (word_class {w = w} (lifetime i b)) d in cc
digit_word {w = w} d f (number {v = v} {k = k} n b) = f v k n b
digit_word {w = w} d f (format i) = let e = other_class w Format (word_class {w = w} (format i)) d in cc
digit_word {w = w} d f (mark i) = let e = other_class w Mark (word_class {w = w} (mark i)) d in cc

pub digit_no_word : (w : List ℕ) → is_digit (get_or w 0 0) ≡ true → ((v : ℕ) (k : Option Kind) → IsNumeral w v k → v ≤ greatest → ⊥) → (c : Class) → IsWord c w → ⊥
digit_no_word w d f c i = digit_word (ap is_digit (sym (first_read w)) ∙ d) f i

pub line_word : (w : List ℕ) → same_bytes w (codes "_") ≡ true → IsWord Mark w
line_word w e = mark (ap (λ l. is_one_of l marks) (same_bytes-true w (codes "_") e))

pub name_word : (w : List ℕ) → is_one_of w keywords ≡ false → same_bytes w (codes "_") ≡ false → is_name w ≡ true → IsWord Identifier w
name_word w k l n =
    identifier (and_from (is_name w && not (same_bytes w (codes "_"))) (not (is_one_of w keywords))
    (and_from (is_name w) (not (same_bytes w (codes "_"))) n (not_from_false (same_bytes w (codes "_")) l))
    (not_from_false (is_one_of w keywords) k))

-- a run that is no number, no keyword, no `_` and no name is no word
pub no_name_word : (w : List ℕ) → IsRun w → is_digit (get_or w 0 0) ≡ false → is_one_of w keywords ≡ false → same_bytes w (codes "_") ≡ false → is_name w ≡ false
    → (c : Class) → IsWord c w → ⊥
no_name_word w a d k l n c i = by_word w a d k l n c i
  where
    by_word : (w : List ℕ) → IsRun w → is_digit (get_or w 0 0) ≡ false → is_one_of w keywords ≡ false → same_bytes w (codes "_") ≡ false → is_name w ≡ false
        → (c : Class) → IsWord c w → ⊥
    by_word w a d k l n Identifier (identifier i) = both_ways (is_name w) n (identifier_name w i)
    by_word w a d k l n Keyword (keyword i) = both_ways (is_one_of w keywords) k i
    by_word w a d k l n Lifetime (lifetime i e) = both_ways (opens (first w)) (ap (λ v. opens (first v)) e) a.opened
    by_word w a d k l n Number (number i b) = both_ways (is_digit (first w)) (ap is_digit (sym (first_read w)) ∙ d) (numeral_digit i)
    by_word w a d k l n Format (format i) = both_ways (opens (first w)) (ap (λ v. opens (first v)) i) a.opened
    by_word w a d k l n Mark (mark i) =
        elim (or_cases (same_bytes w (codes "_")) (not (opens (first w))) (one_of_all line_or_other w marks refl i)) [
          | inl h ↦ both_ways (same_bytes w (codes "_")) l h
          | inr h ↦ both_ways (opens (first w)) (not-true (opens (first w)) h) a.opened
        ]

-- the first bytes, as a range from 0
pub from_start : (n : ℕ) (t : List ℕ) → take (n - 0) t ≡ take n t
from_start n t = ap (λ m. take m t) (let e : n - 0 ≡ n = omega arith in e)

-- what is said of the class of a run
abbrev pub ClassIs : List ℕ → Option Class → Type 0
ClassIs w o = MatchOption o ((c : Class) → IsWord c w → ⊥) (λ c. IsWord c w)

pub class_found : (w v : List ℕ) (o : Option Class) (c : Class) → w ≡ v → o ≡ Some c → ClassIs w o → IsWord c v
class_found w v o c e f h = subst (IsWord c) e (subst (ClassIs w) f h)

pub class_none : (w v : List ℕ) (o : Option Class) → w ≡ v → o ≡ None → ClassIs w o → (c : Class) → IsWord c v → ⊥
class_none w v o e f h c i = (subst (ClassIs w) f h) c (subst (IsWord c) (sym e) i)

-- ---- marks

abbrev pub has : ℕ → List ℕ → Bool
has n t = nat_le n (length t) && is_one_of (take n t) marks

three_no_mark : (a b d : ℕ) → is_one_of (a ∷ b ∷ d ∷ []) marks ≡ false
three_no_mark a b d = false_from_ne_true (is_one_of (a ∷ b ∷ d ∷ []) marks) (λ h. let m = mark_length (a ∷ b ∷ d ∷ []) h in absurd (omega arith))

two_alone : (a b : ℕ) (r : List ℕ) → stands_alone (a ∷ b ∷ []) r ≡ true
two_alone a b r =
    and_from (not (makes_longer (a ∷ b ∷ []) r)) (not (same_bytes (a ∷ b ∷ []) (codes "_") && goes_on r) && not (same_bytes (a ∷ b ∷ []) (codes "/") && makes_comment r))
    (not_longer a b r)
    (and_from (not (same_bytes (a ∷ b ∷ []) (codes "_") && goes_on r)) (not (same_bytes (a ∷ b ∷ []) (codes "/") && makes_comment r))
    (not_from_false (same_bytes (a ∷ b ∷ []) (codes "_") && goes_on r) (and_left (same_bytes (a ∷ b ∷ []) (codes "_")) (goes_on r) (and_right (a == 95) false refl)))
    (not_from_false (same_bytes (a ∷ b ∷ []) (codes "/") && makes_comment r) (and_left (same_bytes (a ∷ b ∷ []) (codes "/")) (makes_comment r) (and_right (a == 47) false refl))))
  where
    not_longer : (a b : ℕ) (r : List ℕ) → not (makes_longer (a ∷ b ∷ []) r) ≡ true
    not_longer a b [] = refl
    not_longer a b (d ∷ r) = not_from_false (is_one_of (a ∷ b ∷ d ∷ []) marks) (three_no_mark a b d)

pub two_word : (t : List ℕ) → has 2 t ≡ true → WordOf Mark 2 t
two_word t e = let p = and_parts (nat_le 2 (length t)) (is_one_of (take 2 t) marks) e in by_bytes t (leb-true 2 (length t) p.0) p.1
  where
    by_bytes : (t : List ℕ) → 2 ≤ length t → is_one_of (take 2 t) marks ≡ true → WordOf Mark 2 t
    by_bytes [] p i = absurd (omega arith)
    by_bytes (a ∷ []) p i = absurd (omega arith)
    by_bytes (a ∷ b ∷ t) p i = record { not_empty = omega arith; within = p; longest = word_longest Mark (a ∷ b ∷ []) t (a ∷ b ∷ t) (mark i) (two_alone a b t) refl }

-- a mark where no longer one comes first has one byte
pub one_byte : (w r t : List ℕ) → is_one_of w marks ≡ true → t ≡ w ++ r → has 2 t ≡ false → (w ≡ first t ∷ []) × (t ≡ first t ∷ r)
one_byte [] r t i e h = absurd (false≢true i)
one_byte (a ∷ []) r t i e h = let f : first t ≡ a = ap first e in (cc, cc)
one_byte (a ∷ b ∷ []) r t i e h =
    absurd (both_ways (has 2 t) h (ap (has 2) e ∙ and_from (nat_le 2 (length (a ∷ b ∷ r))) (is_one_of (a ∷ b ∷ []) marks) (le-leb 2 (length (a ∷ b ∷ r)) (omega arith)) i))
one_byte (a ∷ b ∷ d ∷ w) r t i e h = let m = mark_length (a ∷ b ∷ d ∷ w) i in absurd (omega arith)

comment_gap : (t : List ℕ) (c d : ℕ) (r : List ℕ) → t ≡ c ∷ d ∷ r → c ≡ 47 → d ≡ 47 → Gap t (line_rest r)
comment_gap t c d r e p q = gap_is t (line_rest r) (let k : t ≡ 47 ∷ 47 ∷ r = cc in ap gap_rest k)

pub comment_no_mark : (t : List ℕ) → has 2 t ≡ false → begins_comment t ≡ true → ((q : List ℕ) → Gap t q → ⊥) → (w r : List ℕ) → Front Mark w r t → ⊥
comment_no_mark t h b g w r f =
    let i = mark_is f.word refl in
    let p = one_byte w r t i f.is h in
    by_rest t w r b g p.0 p.1 f.follows
  where
    star : (w r : List ℕ) (x : ℕ) → w ≡ x ∷ [] → x ≡ 47 → may_follow Mark w r ≡ true → begins_with_star r ≡ false
    star w r x e h f =
        let k : w ≡ codes "/" = cc in
        let m = ap (λ l. may_follow Mark l r) (sym k) ∙ f in
        not-true (begins_with_star r) m

    by_rest : (t w r : List ℕ) → begins_comment t ≡ true → ((q : List ℕ) → Gap t q → ⊥) → w ≡ first t ∷ [] → t ≡ first t ∷ r → may_follow Mark w r ≡ true → ⊥
    by_rest [] w r b g p q f = false≢true b
    by_rest (c ∷ []) w r b g p q f = false≢true (sym (and_right (c == 47) false refl) ∙ b)
    by_rest (c ∷ d ∷ t) w r b g p q f =
        let s : r ≡ d ∷ t = cc in
        let x = and_parts (c == 47) ((d == 42) || (d == 47)) b in
        elim (or_cases (d == 42) (d == 47) x.1) [
          | inl k ↦ both_ways (begins_with_star r) (star w r c p (eqb-true c 47 x.0) f) (ap begins_with_star s ∙ k)
          | inr k ↦ g (line_rest t) (comment_gap (c ∷ d ∷ t) c d t refl (eqb-true c 47 x.0) (eqb-true d 47 k))
        ]

pub no_mark : (t : List ℕ) → has 2 t ≡ false → has 1 t ≡ false → (w r : List ℕ) → Front Mark w r t → ⊥
no_mark t h k w r f =
    let i = mark_is f.word refl in
    let p = one_byte w r t i f.is h in
    both_ways (has 1 t) k (one_there t w r i p.0 p.1)
  where
    one_there : (t w r : List ℕ) → is_one_of w marks ≡ true → w ≡ first t ∷ [] → t ≡ first t ∷ r → has 1 t ≡ true
    one_there [] w r i p q = absurd (cc)
    one_there (c ∷ t) w r i p q = and_from (nat_le 1 (length (c ∷ t))) (is_one_of (c ∷ []) marks) (le-leb 1 (length (c ∷ t)) (omega arith)) (ap (λ l. is_one_of l marks) (sym p) ∙ i)

pub one_word : (t : List ℕ) → has 2 t ≡ false → begins_comment t ≡ false → has 1 t ≡ true → goes_on t ≡ false → WordOf Mark 1 t
one_word [] h b k n = absurd (false≢true k)
one_word (a ∷ t) h b k n =
    let i = (and_parts (nat_le 1 (length (a ∷ t))) (is_one_of (a ∷ []) marks) k).1 in
    record { not_empty = omega arith; within = omega arith; longest = word_longest Mark (a ∷ []) t (a ∷ t) (mark i) (one_alone a t h b n) refl }
  where
    no_line : (a : ℕ) (t : List ℕ) → goes_on (a ∷ t) ≡ false → same_bytes (a ∷ []) (codes "_") ≡ false
    no_line a t n = and_left (a == 95) true (false_from_ne_true (a == 95) (λ h. both_ways (goes_on (a ∷ t)) n (ap (λ b. goes_on (b ∷ t)) (eqb-true a 95 h))))

    not_longer : (a : ℕ) (t : List ℕ) → has 2 (a ∷ t) ≡ false → makes_longer (a ∷ []) t ≡ false
    not_longer a [] h = refl
    not_longer a (d ∷ t) h = false_from_ne_true (is_one_of (a ∷ d ∷ []) marks) (λ i.
        both_ways (has 2 (a ∷ d ∷ t)) h (and_from (nat_le 2 (length (a ∷ d ∷ t))) (is_one_of (a ∷ d ∷ []) marks) (le-leb 2 (length (a ∷ d ∷ t)) (omega arith)) i))

    slash : (a : ℕ) (t : List ℕ) → ((a == 47) && makes_comment t) ≡ false → (same_bytes (a ∷ []) (codes "/") && makes_comment t) ≡ false
    slash a t e = by_test (a == 47) (makes_comment t) e
      where
        by_test : (x y : Bool) → (x && y) ≡ false → ((x && true) && y) ≡ false
        by_test true y e = e
        by_test false y e = refl

    one_alone : (a : ℕ) (t : List ℕ) → has 2 (a ∷ t) ≡ false → begins_comment (a ∷ t) ≡ false → goes_on (a ∷ t) ≡ false → stands_alone (a ∷ []) t ≡ true
    one_alone a t h b n =
        and_from (not (makes_longer (a ∷ []) t)) (not (same_bytes (a ∷ []) (codes "_") && goes_on t) && not (same_bytes (a ∷ []) (codes "/") && makes_comment t))
        (not_from_false (makes_longer (a ∷ []) t) (not_longer a t h))
        (and_from (not (same_bytes (a ∷ []) (codes "_") && goes_on t)) (not (same_bytes (a ∷ []) (codes "/") && makes_comment t))
        (not_from_false (same_bytes (a ∷ []) (codes "_") && goes_on t) (and_left (same_bytes (a ∷ []) (codes "_")) (goes_on t) (no_line a t n)))
        (not_from_false (same_bytes (a ∷ []) (codes "/") && makes_comment t) (slash a t b)))

-- ---- formats, and no word at all

abbrev pub formats : List ℕ → Bool
formats t = nat_le 4 (length t) && same_bytes (take 4 t) format_text

pub format_word : (t : List ℕ) → formats t ≡ true → WordOf Format 4 t
format_word t e =
    let p = and_parts (nat_le 4 (length t)) (same_bytes (take 4 t) format_text) e in
    record {
      not_empty = omega arith;
      within = leb-true 4 (length t) p.0;
      longest = word_longest Format (take 4 t) (drop 4 t) t (format (same_bytes-true (take 4 t) format_text p.1)) refl (sym (take-append-drop 4 t));
    }

pub no_word : (t : List ℕ) → IsUtf8 t → goes_on t ≡ false → begins_quote t ≡ false → formats t ≡ false
    → (((q : List ℕ) → Gap t q → ⊥) → (w r : List ℕ) → Front Mark w r t → ⊥) → NoWord t
no_word t u n j m k = λ g c w r f. by_kind c w r g f (kind_of f.word)
  where
    format_there : (t w r : List ℕ) → w ≡ format_text → t ≡ w ++ r → formats t ≡ true
    format_there t w r e f =
        let s : t ≡ format_text ++ r = f ∙ ap (λ l. l ++ r) e in
        ap formats s ∙ and_from (nat_le 4 (length (format_text ++ r))) (same_bytes format_text format_text) (le-leb 4 (length (format_text ++ r)) (omega arith)) refl

    by_kind : (c : Class) (w r : List ℕ) → ((q : List ℕ) → Gap t q → ⊥) → Front c w r t → Kind_of c w → ⊥
    by_kind c w r g f (run x s a) = both_ways (goes_on t) n (ap goes_on f.is ∙ run_goes_on w r a)
    by_kind c w r g f (a_lifetime i a e) = both_ways (begins_quote t) j (ap begins_quote (f.is ∙ ap (λ l. l ++ r) e))
    by_kind c w r g f (a_format e) = both_ways (formats t) m (format_there t w r e f.is)
    by_kind c w r g f (a_mark e i b d z) = k g w r (subst (λ x. Front x w r t) e f)

-- ---- lifetimes

digit_no_quote : (c : ℕ) → is_digit c ≡ true → (c == 39) ≡ false
digit_no_quote c d = false_from_ne_true (c == 39) (λ h. false≢true (ap is_digit (sym (eqb-true c 39 h)) ∙ d))

quoted : (t : List ℕ) → begins_quote t ≡ true → t ≡ 39 ∷ drop 1 t
quoted [] e = absurd (false≢true e)
quoted (c ∷ t) e = ap (λ d. d ∷ t) (eqb-true c 39 e)

-- behind the `'` a character begins
pub quote_boundary : (t : List ℕ) → begins_quote t ≡ true → IsUtf8 t → IsCharBoundary t 1
quote_boundary [] q u = absurd (false≢true q)
quote_boundary (c ∷ t) q u = let h : c ≡ 39 = eqb-true c 39 q in IsCharBoundary-after_ascii (c ∷ t) 0 u (omega arith) (omega arith)

lifetime_front : (n : ℕ) (t : List ℕ) → begins_quote t ≡ true → n ≤ length (drop 1 t) → goes_on (drop n (drop 1 t)) ≡ false → is_lifetime_name (take n (drop 1 t)) ≡ true
    → WordOf Lifetime (suc n) t
lifetime_front n [] q h e i = absurd (false≢true q)
lifetime_front n (c ∷ t) q h e i = record {
  not_empty = omega arith;
  within = omega arith;
  longest = word_longest Lifetime (c ∷ take n t) (drop n t) (c ∷ t) (lifetime i (ap (λ d. d ∷ take n t) (eqb-true c 39 q))) (not_from_false (goes_on (drop n t)) e)
      (ap (λ l. c ∷ l) (sym (take-append-drop n t)));
}

-- the text behind the `'` is u
pub lifetime_word : (n : ℕ) (t u : List ℕ) → u ≡ drop 1 t → begins_quote t ≡ true → n ≤ length u → goes_on (drop n u) ≡ false → is_lifetime_name (take n u) ≡ true
    → WordOf Lifetime (1 + n) t
lifetime_word n t u x q h e i =
    let k : suc n ≡ 1 + n = omega arith in
    subst (λ m. WordOf Lifetime m t) k
    (lifetime_front n t q (subst (λ l. n ≤ length l) x h) (ap (λ l. goes_on (drop n l)) (sym x) ∙ e) (ap (λ l. is_lifetime_name (take n l)) (sym x) ∙ i))

lifetime_none : (n : ℕ) (t : List ℕ) → begins_quote t ≡ true → IsUtf8 (take n (drop 1 t)) → list_all is_continue (chars (take n (drop 1 t))) ≡ true
    → goes_on (drop n (drop 1 t)) ≡ false → is_lifetime_name (take n (drop 1 t)) ≡ false → NoWord t
lifetime_none n t q u a e i = λ g c w r f. by_word c w r f.word f.follows (sym (quoted t q) ∙ f.is)
  where
    not_quoted : (w r : List ℕ) → w ≢ [] → 39 ∷ drop 1 t ≡ w ++ r → (first w == 39) ≡ true
    not_quoted w r m d = ap (λ x. x == 39) (sym (first-append w r m) ∙ ap first (sym d))

    other : (c : Class) (w r : List ℕ) → IsWord c w → (first w == 39) ≡ false → 39 ∷ drop 1 t ≡ w ++ r → ⊥
    other c w r i b d = both_ways (first w == 39) b (not_quoted w r (word_not_empty i) d)

    same_name : (name r : List ℕ) → is_lifetime_name name ≡ true → goes_on r ≡ false → drop 1 t ≡ name ++ r → name ≡ take n (drop 1 t)
    same_name name r h s d =
        let l = lifetime_run name h in
        let g : chars name ++ chars r ≡ chars (take n (drop 1 t)) ++ chars (drop n (drop 1 t)) =
        sym (chars-append name r l.text) ∙ (ap chars (sym d ∙ sym (take-append-drop n (drop 1 t))) ∙ chars-append (take n (drop 1 t)) (drop n (drop 1 t)) u) in
        texts_alike name (take n (drop 1 t)) l.text u
        (chars_alike (chars name) (chars r) (chars (take n (drop 1 t))) (chars (drop n (drop 1 t))) l.continues (sym (goes_on_is r) ∙ s) a (sym (goes_on_is (drop n (drop 1 t))) ∙ e) g)

    by_word : (c : Class) (w r : List ℕ) → IsWord c w → may_follow c w r ≡ true → 39 ∷ drop 1 t ≡ w ++ r → ⊥
    by_word Identifier w r (identifier i) s d = other Identifier w r (identifier i) (run_no_quote w (name_run w (identifier_name w i))) d
    by_word Keyword w r (keyword i) s d = other Keyword w r (keyword i) (not-true (first w == 39) (one_of_all (λ v. not (first v == 39)) w keywords refl i)) d
    by_word Lifetime w r (lifetime {name = name} h b) s d =
        let f : 39 ∷ drop 1 t ≡ 39 ∷ (name ++ r) = d ∙ ap (λ l. l ++ r) b in
        let k : drop 1 t ≡ name ++ r = cc in
        let p = same_name name r h (not-true (goes_on r) s) k in
        both_ways (is_lifetime_name (take n (drop 1 t))) i (ap is_lifetime_name (sym p) ∙ h)
    by_word Number w r (number j b) s d = other Number w r (number j b) (digit_no_quote (first w) (numeral_digit j)) d
    by_word Format w r (format j) s d = other Format w r (format j) (format_no_quote w j) d
    by_word Mark w r (mark j) s d = other Mark w r (mark j) (not-true (first w == 39) (one_of_all (λ v. not (first v == 39)) w marks refl j)) d

pub lifetime_no_word : (n : ℕ) (t u : List ℕ) → u ≡ drop 1 t → begins_quote t ≡ true → IsUtf8 (take n u) → list_all is_continue (chars (take n u)) ≡ true
    → goes_on (drop n u) ≡ false → is_lifetime_name (take n u) ≡ false → NoWord t
lifetime_no_word n t u x q v a e i =
    lifetime_none n t q (subst (λ l. IsUtf8 (take n l)) x v) (ap (λ l. list_all is_continue (chars (take n l))) (sym x) ∙ a)
    (ap (λ l. goes_on (drop n l)) (sym x) ∙ e) (ap (λ l. is_lifetime_name (take n l)) (sym x) ∙ i)
