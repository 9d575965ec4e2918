-- Lines that begin otherwise change blanks and comments alone: the tokens of the text have the same words. By induction on how the text is read.
use Rattle.std.proofs.Common.{◌≡◌, ℕ, zero, suc, ◌+◌, ◌-◌, ◌<◌, Bool, true, false, List, [], ◌∷◌, ◌++◌, length, length-append, get_or, take, refl, sym, ap, subst, ◌∙◌, arith, append_assoc, inl, inr}
use Rattle.std.specs.Prelude.{⊤, not, ◌&&◌, ◌||◌, ◌==◌, if◌then◌else◌, IsUtf8}
use Rattle.std.specs.List.{list_all}
use Rattle.std.specs.Str.{chars}
use Rattle.std.proofs.lemmas.Bool.{and_parts, and_from, and_left, or_cases, or_left, or_right, not-true, not_from_false, both_ways, false≢true, eqb-true, cases_Bool}
use Rattle.std.proofs.lemmas.List.{take_at}
use Rattle.std.proofs.lemmas.List.Folds.{list_all-append}
use Rattle.std.proofs.lemmas.Str.{chars-append, IsUtf8-take, IsCharBoundary-before_ascii}
use Rattle.rx_lex.specs.declared.token.Class.{Class}
use Rattle.rx_lex.specs.Words as words
use Rattle.rx_lex.specs.Words.{IsWord, is_continue, is_ascii_continue, is_name, keywords, marks}
use Rattle.rx_lex.specs.Tok.{Tok}
use Rattle.rx_lex.specs.Tokens.{Gap, blank, line_comment, block_comment, Balanced, nothing, plain, nested, slashes, opening, closing, begins_pair, is_blank, at_line_end, Longest, Tokens, none, gap, token, token_at}
use Rattle.rx_lex.specs.Stands.{stands}
use Rattle.rx_lex.proofs.FirstBytes.{first, one_of_all, all_more, numeral_continues}
use Rattle.rx_lex.proofs.Names.{IsRun, chars_low}
use Rattle.rx_lex.proofs.Gaps.{gap_shorter}
use Rattle.rx_lex.proofs.LongestWord.{token_then, blank_then, lifetime_run}
use Rattle.rx_parse_laws.specs.Words.{words as words_of}
use Rattle.rx_splice_laws.specs.Indent.{is_level, four, begins_with, reindented_from, reindented}
use Rattle.rx_splice_laws.specs.RunRead.{ReadAs}
use Rattle.rx_splice_laws.proofs.AsRead.{longest_stands}
use Rattle.rx_splice_laws.proofs.Seams.{Alike, alike_low, alike_word, stands_alike, gap_low}
use Rattle.rx_splice_laws.proofs.Put.{run_word}

-- ---- no word has a line feed

abbrev pub no_feed : List ℕ → Bool
no_feed w = list_all (λ b. not (b == 10)) w

at_seam : (xs : List ℕ) (b : ℕ) (r : List ℕ) → get_or (xs ++ (b ∷ r)) (length xs) 0 ≡ b
at_seam [] b r = refl
at_seam (x ∷ xs) b r = at_seam xs b r

feed_continues : (a w : List ℕ) → IsUtf8 (a ++ (10 ∷ w)) → list_all is_continue (chars (a ++ (10 ∷ w))) ≡ true → ⊥
feed_continues a w u e =
    let n : length a < length (a ++ (10 ∷ w)) = omega (arith, length-append a (10 ∷ w)) in
    let b = IsCharBoundary-before_ascii (a ++ (10 ∷ w)) (length a) n (subst (λ x. x < 128) (sym (at_seam a 10 w)) (omega arith)) in
    let v = subst IsUtf8 (take_at a (10 ∷ w) (length a) refl) (IsUtf8-take (a ++ (10 ∷ w)) (length a) u b) in
    let f : list_all is_continue (chars a ++ (10 ∷ chars w)) ≡ true = ap (list_all is_continue) (sym (chars-append a (10 ∷ w) v ∙ ap (λ x. chars a ++ x) (chars_low 10 w (omega arith)))) ∙ e in
    let p = and_parts (list_all is_continue (chars a)) (list_all is_continue (10 ∷ chars w)) (sym (list_all-append is_continue (chars a) (10 ∷ chars w)) ∙ f) in
    both_ways (is_continue 10) refl (and_parts (is_continue 10) (list_all is_continue (chars w)) p.1).0

run_feed : (a w : List ℕ) → IsUtf8 (a ++ w) → list_all is_continue (chars (a ++ w)) ≡ true → no_feed w ≡ true
run_feed a [] u e = refl
run_feed a (c ∷ w) u e =
    let m : a ++ (c ∷ w) ≡ (a ++ c ∷ []) ++ w = sym (append_assoc a (c ∷ []) w) in
    elim (cases_Bool (c == 10)) [
      | inl h ↦
          let k : a ++ (c ∷ w) ≡ a ++ (10 ∷ w) = ap (λ x. a ++ (x ∷ w)) (eqb-true c 10 h) in
          absurd (feed_continues a w (subst IsUtf8 k u) (ap (λ x. list_all is_continue (chars x)) (sym k) ∙ e))
      | inr h ↦ and_from (not (c == 10)) (no_feed w) (not_from_false (c == 10) h) (run_feed (a ++ c ∷ []) w (subst IsUtf8 m u) (ap (λ x. list_all is_continue (chars x)) (sym m) ∙ e))
    ]

run_no_feed : {w : List ℕ} → IsRun w → no_feed w ≡ true
run_no_feed {w} r = run_feed [] w r.text r.continues

word_no_feed : {c : Class} {w : List ℕ} → IsWord c w → no_feed w ≡ true
word_no_feed (words.identifier {w = w} i) = run_no_feed (run_word {w = w} (words.identifier i) refl)
word_no_feed (words.keyword {w = w} i) = run_no_feed (run_word {w = w} (words.keyword i) refl)
word_no_feed (words.lifetime {name = name} i e) = ap no_feed e ∙ run_no_feed (lifetime_run name i)
word_no_feed (words.number {w = w} n b) = run_no_feed (run_word {w = w} (words.number n b) refl)
word_no_feed (words.format e) = ap no_feed e
word_no_feed (words.mark {w = w} i) = one_of_all no_feed w marks refl i

-- ---- what has no line feed stays

either : {A : Type 0} (b : Bool) (x y : A) → b ≡ false → (if b then x else y) ≡ y
either b x y e = rw e refl

kept_line : (ind u r : List ℕ) → no_feed u ≡ true → reindented_from 0 ind (u ++ r) ≡ u ++ reindented_from 0 ind r
kept_line ind [] r e = refl
kept_line ind (c ∷ u) r e =
    let p = and_parts (not (c == 10)) (no_feed u) e in
    either ((c == 10) && begins_with ind (u ++ r)) (c ∷ (four ++ reindented_from (length ind) ind (u ++ r))) (c ∷ reindented_from 0 ind (u ++ r))
    (and_left (c == 10) (begins_with ind (u ++ r)) (not-true (c == 10) p.0))
    ∙ ap (λ x. c ∷ x) (kept_line ind u r p.1)

-- the first byte stays
record First (c : ℕ) (ind t : List ℕ) : Type 0 where
  behind : List ℕ
  is : reindented_from 0 ind (c ∷ t) ≡ c ∷ behind

first_stays : (c : ℕ) (ind t : List ℕ) → First c ind t
first_stays c ind t = by ((c == 10) && begins_with ind t) refl
  where
    by : (b : Bool) → ((c == 10) && begins_with ind t) ≡ b → First c ind t
    by true e = record { behind = four ++ reindented_from (length ind) ind t; is = rw e refl }
    by false e = record { behind = reindented_from 0 ind t; is = rw e refl }

line_stays : (ind r : List ℕ) → at_line_end r ≡ at_line_end (reindented_from 0 ind r)
line_stays ind [] = refl
line_stays ind (c ∷ r) = let f = first_stays c ind r in sym (ap at_line_end f.is)

-- ---- so many bytes in front are spaces and tabs

abbrev pub Leads : ℕ → List ℕ → Type 0
Leads zero t = ⊤
Leads (suc n) [] = ⊥
Leads (suc n) (c ∷ t) = (is_level c ≡ true) × Leads n t

leads_of : (ind t : List ℕ) → list_all is_level ind ≡ true → begins_with ind t ≡ true → Leads (length ind) t
leads_of [] t l b = tt
leads_of (c ∷ ind) [] l b = absurd (false≢true b)
leads_of (c ∷ ind) (d ∷ t) l b =
    let p = and_parts (is_level c) (list_all is_level ind) l in
    let q = and_parts (c == d) (begins_with ind t) b in
    (ap is_level (sym (eqb-true c d q.0)) ∙ p.0, leads_of ind t p.1 q.1)

level_blank : (c : ℕ) → is_level c ≡ true → is_blank c ≡ true
level_blank c e =
    elim (or_cases (c == 32) (c == 9) e) [
      | inl h ↦ ap is_blank (eqb-true c 32 h)
      | inr h ↦ ap is_blank (eqb-true c 9 h)
    ]

-- ---- within a comment

pair_first : (c : ℕ) (ind t : List ℕ) → begins_pair (c ∷ reindented_from 0 ind t) ≡ begins_pair (c ∷ t)
pair_first c ind [] = refl
pair_first c ind (d ∷ t) = let f = first_stays d ind t in ap (λ x. begins_pair (c ∷ x)) f.is

feed_plain : (t : List ℕ) → begins_pair (10 ∷ t) ≡ false
feed_plain [] = refl
feed_plain (c ∷ t) = refl

space_plain : (t : List ℕ) → begins_pair (32 ∷ t) ≡ false
space_plain [] = refl
space_plain (c ∷ t) = refl

spaces_balanced : {t r : List ℕ} → Balanced t r → Balanced (four ++ t) r
spaces_balanced {t} b = plain (space_plain (32 ∷ 32 ∷ 32 ∷ t)) (plain (space_plain (32 ∷ 32 ∷ t)) (plain (space_plain (32 ∷ t)) (plain (space_plain t) b)))

module _ (ind : List ℕ) (level : list_all is_level ind ≡ true) where
  feed_within : (c : ℕ) (t r : List ℕ) → c ≡ 10 → Balanced (reindented_from (length ind) ind t) (closing ++ reindented_from 0 ind r)
      → Balanced (c ∷ (four ++ reindented_from (length ind) ind t)) (closing ++ reindented_from 0 ind r)
  feed_within c t r e b = plain (ap (λ x. begins_pair (x ∷ (four ++ reindented_from (length ind) ind t))) e ∙ feed_plain (four ++ reindented_from (length ind) ind t)) (spaces_balanced b)

  balanced_again : {t v : List ℕ} (r : List ℕ) → Balanced t v → v ≡ closing ++ r → (n : ℕ) → Leads n t → Balanced (reindented_from n ind t) (closing ++ reindented_from 0 ind r)
  balanced_again r (nothing {t = t}) e zero l = subst (λ x. Balanced (reindented_from 0 ind x) (closing ++ reindented_from 0 ind r)) (sym e) nothing
  balanced_again r (nothing {t = t}) e (suc n) l = absurd (false≢true (subst (Leads (suc n)) e l).0)
  balanced_again r (plain {c = c} {t = t} p b) e zero l = by ((c == 10) && begins_with ind t) refl (λ n k. balanced_again r b e n k)
    where
      by : (x : Bool) → ((c == 10) && begins_with ind t) ≡ x → ((n : ℕ) → Leads n t → Balanced (reindented_from n ind t) (closing ++ reindented_from 0 ind r))
          → Balanced (if x then c ∷ (four ++ reindented_from (length ind) ind t) else c ∷ reindented_from 0 ind t) (closing ++ reindented_from 0 ind r)
      by true h f = let q = and_parts (c == 10) (begins_with ind t) h in feed_within c t r (eqb-true c 10 q.0) (f (length ind) (leads_of ind t level q.1))
      by false h f = plain (pair_first c ind t ∙ p) (f 0 tt)
  balanced_again r (plain {c = c} {t = t} p b) e (suc n) l = balanced_again r b e n l.1
  balanced_again r (nested {t = t} {u = u} b d) e zero l = nested (balanced_again u b refl 0 tt) (balanced_again r d e 0 tt)
  balanced_again r (nested {t = t} {u = u} b d) e (suc n) l = absurd (false≢true l.0)

  -- ---- the tokens

  again : {at : ℕ} {t : List ℕ} {ts : List Tok} (us : List Tok) → Tokens at t us → words_of us ≡ words_of ts → ReadAs at t ts
  again us d e = record { tokens = us; read = d; same = e }

  gap_then : {t q : List ℕ} {ts : List Tok} → Gap t q → ((at : ℕ) → ReadAs at q ts) → (at : ℕ) → ReadAs at t ts
  gap_then {t} {q} g f at = let a = f (at + (length t - length q)) in let h = gap_shorter g in again a.tokens (gap (length t - length q) g (omega (arith, h)) a.read) a.same

  spaces_then : {r : List ℕ} {ts : List Tok} → ((at : ℕ) → ReadAs at r ts) → (at : ℕ) → ReadAs at (four ++ r) ts
  spaces_then f at = gap_then (blank refl) (gap_then (blank refl) (gap_then (blank refl) (gap_then (blank refl) f))) at

  blank_again : (c : ℕ) (r : List ℕ) (ts : List Tok) → is_blank c ≡ true → ((n : ℕ) → Leads n r → (at : ℕ) → ReadAs at (reindented_from n ind r) ts) → (n : ℕ) → Leads n (c ∷ r) → (at : ℕ) → ReadAs at (reindented_from n ind (c ∷ r)) ts
  blank_again c r ts e f zero l at = by ((c == 10) && begins_with ind r) refl
    where
      by : (x : Bool) → ((c == 10) && begins_with ind r) ≡ x → ReadAs at (if x then c ∷ (four ++ reindented_from (length ind) ind r) else c ∷ reindented_from 0 ind r) ts
      by true h = gap_then (blank e) (spaces_then (f (length ind) (leads_of ind r level (and_parts (c == 10) (begins_with ind r) h).1))) at
      by false h = gap_then (blank e) (f 0 tt) at
  blank_again c r ts e f (suc n) l at = f n l.1 at

  line_again : (t u r : List ℕ) (ts : List Tok) → no_feed u ≡ true → at_line_end r ≡ true → t ≡ slashes ++ (u ++ r) → ((at : ℕ) → ReadAs at (reindented_from 0 ind r) ts) → (n : ℕ) → Leads n t → (at : ℕ)
      → ReadAs at (reindented_from n ind t) ts
  line_again t u r ts a b e f zero l at =
      subst (λ x. ReadAs at x ts) (sym (ap (reindented_from 0 ind) e ∙ kept_line ind (slashes ++ u) r a)) (gap_then (line_comment u a (sym (line_stays ind r) ∙ b) refl) f at)
  line_again t u r ts a b e f (suc n) l at = absurd (false≢true (subst (Leads (suc n)) e l).0)

  block_again : (u r : List ℕ) (ts : List Tok) → Balanced u (closing ++ r) → ((at : ℕ) → ReadAs at (reindented_from 0 ind r) ts) → (n : ℕ) → Leads n (opening ++ u) → (at : ℕ) → ReadAs at (reindented_from n ind (opening ++ u)) ts
  block_again u r ts b f zero l at = gap_then (block_comment (balanced_again r b refl 0 tt)) f at
  block_again u r ts b f (suc n) l at = absurd (false≢true l.0)

  gap_again : {t r : List ℕ} (ts : List Tok) → Gap t r → ((n : ℕ) → Leads n r → (at : ℕ) → ReadAs at (reindented_from n ind r) ts) → (n : ℕ) → Leads n t → (at : ℕ) → ReadAs at (reindented_from n ind t) ts
  gap_again ts (blank {c = c} {r = r} e) f n l at = blank_again c r ts e f n l at
  gap_again ts (line_comment u {t = t} {r = r} a b e) f n l at = line_again t u r ts a b e (f 0 tt) n l at
  gap_again ts (block_comment {u = u} {r = r} b) f n l at = block_again u r ts b (f 0 tt) n l at

  empty_alike : Alike [] []
  empty_alike = record { goes = refl; longer = λ w. refl; comment = refl; line = refl }

  low_alike : (r : List ℕ) → first r < 128 → Alike r (reindented_from 0 ind r)
  low_alike [] h = empty_alike
  low_alike (c ∷ r) h = let f = first_stays c ind r in subst (λ x. Alike (c ∷ r) x) (sym f.is) (alike_low c r f.behind h)

  tokens_alike : {at : ℕ} {r : List ℕ} {ts : List Tok} → Tokens at r ts → Alike r (reindented_from 0 ind r)
  tokens_alike none = empty_alike
  tokens_alike (gap n {t = t} g l d) = low_alike t (gap_low g)
  tokens_alike (token {t = t} c w r g l d) =
      subst (λ x. Alike x (reindented_from 0 ind x)) (sym l.front.is)
      (subst (λ x. Alike (w ++ r) x) (sym (kept_line ind w r (word_no_feed l.front.word))) (alike_word r (reindented_from 0 ind r) l.front.word))

  no_level : (t : List ℕ) (n : ℕ) → ((q : List ℕ) → Gap t q → ⊥) → Leads (suc n) t → ⊥
  no_level [] n g l = l
  no_level (c ∷ t) n g l = g t (blank (level_blank c l.0))

  token_again : (t r : List ℕ) (c : Class) (w : List ℕ) (ts : List Tok) (k : ℕ) → ((q : List ℕ) → Gap t q → ⊥) → Longest c w r t → Alike r (reindented_from 0 ind r) → ((at : ℕ) → ReadAs at (reindented_from 0 ind r) ts)
      → (n : ℕ) → Leads n t → (at : ℕ) → ReadAs at (reindented_from n ind t) (token_at k c w ∷ ts)
  token_again t r c w ts k g l a f zero m at =
      let x = f (at + length w) in
      subst (λ y. ReadAs at y (token_at k c w ∷ ts)) (sym (ap (reindented_from 0 ind) l.front.is ∙ kept_line ind w r (word_no_feed l.front.word)))
      (again (token_at at c w ∷ x.tokens) (token_then c w l.front.word (sym (stands_alike c w r (reindented_from 0 ind r) a) ∙ longest_stands c w r t g l) x.read) (ap (λ ys. (c, w) ∷ ys) x.same))
  token_again t r c w ts k g l a f (suc n) m at = absurd (no_level t n g m)

  nothing_again : (n : ℕ) (at : ℕ) → ReadAs at (reindented_from n ind []) []
  nothing_again zero at = again [] none refl
  nothing_again (suc n) at = again [] none refl

  pub tokens_again : {k : ℕ} {t : List ℕ} {ts : List Tok} → Tokens k t ts → (n : ℕ) → Leads n t → (at : ℕ) → ReadAs at (reindented_from n ind t) ts
  tokens_again none n l at = nothing_again n at
  tokens_again (gap m {ts = ts} g e d) n l at = gap_again ts g (λ j k i. tokens_again d j k i) n l at
  tokens_again {k = k} (token {t = t} {ts = ts} c w r g e d) n l at = token_again t r c w ts k g e (tokens_alike d) (λ i. tokens_again d 0 tt i) n l at

pub reindented_again : (ind t : List ℕ) (k : ℕ) (ts : List Tok) → list_all is_level ind ≡ true → Tokens k t ts → (at : ℕ) → ReadAs at (reindented ind t) ts
reindented_again ind t k ts l d at = tokens_again ind l d 0 tt at
