-- Pieces of which each word ends before what follows it, or is an `&` that another follows: their tokens have the same words, where each
-- `&&` counts as two `&`. By recursion on the pieces.
use Rattle.std.proofs.Common.{◌≡◌, ◌⊎◌, inl, inr, ℕ, ◌+◌, Bool, true, false, List, [], ◌∷◌, ◌++◌, codes, length, length-append, refl, sym, ap, subst, ◌∙◌, arith}
use Rattle.std.specs.Prelude.{◌≢◌, ⊤, not, ◌||◌, ◌==◌}
use Rattle.std.proofs.lemmas.Bool.{both_ways, or_cases, eqb-true, false≢true}
use Rattle.std.proofs.lemmas.Bool.Decides.{nat_tests}
use Rattle.rx_core.specs.Bytes.{same_bytes}
use Rattle.rx_core.proofs.BytesLemmas.{same_bytes-true}
use Rattle.rx_lex.specs.declared.token.Class.{Class}
use Rattle.rx_lex.specs.declared.token.Class.TheVariants.{Mark}
use Rattle.rx_lex.specs.Words as words
use Rattle.rx_lex.specs.Words.{IsWord, marks}
use Rattle.rx_lex.specs.Tok.{Tok}
use Rattle.rx_lex.specs.Tokens.{Gap, blank, line_comment, block_comment, is_blank, Tokens, token_at}
use Rattle.rx_lex.specs.Stands.{stands}
use Rattle.rx_lex.proofs.FirstBytes.{first, one_of_all}
use Rattle.rx_lex.proofs.Names.{opens}
use Rattle.rx_lex.proofs.LongestWord.{token_then, word_not_empty}
use Rattle.rx_parse_laws.specs.Words.{words as words_of}
use Rattle.rx_print_spelling.specs.Pieces.{Piece, word, blanks, flat}
use Rattle.rx_splice_laws.specs.SplicedRun.{piece_words}
use Rattle.rx_splice_laws.proofs.AsRead.{Skips, skipped, skip, Gaps, skips_then, onto, onto-append, Reads}
use Rattle.rx_splice_laws.proofs.Put.{run_word}
use Rattle.rx_compact_read.specs.Halves.{ampersand, halves, halves_of}
use Rattle.rx_compact_read.proofs.Halves.{halves_more}

abbrev pub meets : List ℕ → Bool
meets [] = false
meets (c ∷ cs) = c == 38

-- the word ends before this, or it is an `&` before another
pub data Stops (c : Class) (w r : List ℕ) : Type 0 where
  ends : stands c w r ≡ true → Stops c w r
  joins : c ≡ Mark → w ≡ codes "&" → meets r ≡ true → Stops c w r

abbrev pub ReadsMeeting : List Piece → List ℕ → Type 0
ReadsMeeting [] r = ⊤
ReadsMeeting (word c w ∷ ps) r = IsWord c w × Stops c w (onto ps r) × ReadsMeeting ps r
ReadsMeeting (blanks b ∷ ps) r = Gaps b (onto ps r) × ReadsMeeting ps r

pub reads_more : (ps : List Piece) (r : List ℕ) → Reads ps r → ReadsMeeting ps r
reads_more [] r a = tt
reads_more (word c w ∷ ps) r a = (a.0, ends a.1, reads_more ps r a.2)
reads_more (blanks b ∷ ps) r a = (a.0, reads_more ps r a.1)

pub meeting_joined : (ps qs : List Piece) (r : List ℕ) → ReadsMeeting ps (onto qs r) → ReadsMeeting qs r → ReadsMeeting (ps ++ qs) r
meeting_joined [] qs r a b = b
meeting_joined (word c w ∷ ps) qs r a b = (a.0, subst (Stops c w) (sym (onto-append ps qs r)) a.1, meeting_joined ps qs r a.2 b)
meeting_joined (blanks v ∷ ps) qs r a b = (subst (Gaps v) (sym (onto-append ps qs r)) a.0, meeting_joined ps qs r a.1 b)

-- ---- an `&`, and two

pub single_ends : (r : List ℕ) → meets r ≡ false → stands Mark (codes "&") r ≡ true
single_ends [] e = refl
single_ends (c ∷ cs) e = rw e refl

pub double_ends : (r : List ℕ) → stands Mark (codes "&&") r ≡ true
double_ends [] = refl
double_ends (c ∷ cs) = refl

pub single_stops : (r : List ℕ) → Stops Mark (codes "&") r
single_stops r = by (meets r) refl where
  by : (b : Bool) → meets r ≡ b → Stops Mark (codes "&") r
  by true e = joins refl refl e
  by false e = ends (single_ends r e)

-- ---- blanks and comments begin with no `&`

blank_quiet : (c : ℕ) → is_blank c ≡ true → (c == 38) ≡ false
blank_quiet c e = grind (arith, nat_tests)

gap_quiet : {t q : List ℕ} → Gap t q → meets t ≡ false
gap_quiet (blank {c = c} {r = r} e) = blank_quiet c e
gap_quiet (line_comment u {t = t} {r = r} a b e) = ap meets e
gap_quiet (block_comment b) = refl

skips_quiet : {t q : List ℕ} → Skips t q → (length t ≡ length q → ⊥) → meets t ≡ false
skips_quiet skipped l = absurd (l refl)
skips_quiet (skip g k) l = gap_quiet g

pub gaps_quiet : (b : ℕ) (bs r : List ℕ) → Gaps (b ∷ bs) r → (b == 38) ≡ false
gaps_quiet b bs r g = skips_quiet (g r (λ e. e)) (λ h. absurd (omega (arith, h, length-append (b ∷ bs) r)))

-- ---- a word that begins with `&`

no_open : (d : ℕ) → (d == 38) ≡ true → opens d ≡ true → ⊥
no_open d e o = both_ways (opens d) (ap opens (eqb-true d 38 e)) o

meets_first : (w : List ℕ) → meets w ≡ true → (first w == 38) ≡ true
meets_first [] e = absurd (false≢true e)
meets_first (c ∷ cs) e = e

pub record Ampersands (c : Class) (w : List ℕ) : Type 0 where
  pub class : c ≡ Mark
  pub text : (w ≡ codes "&") ⊎ (w ≡ codes "&&")

not_or : (a b : Bool) → not a || b ≡ true → a ≡ true → b ≡ true
not_or true true e h = refl
not_or true false e h = absurd (false≢true e)
not_or false b e h = absurd (false≢true h)

ampersands : {c : Class} {w : List ℕ} → IsWord c w → meets w ≡ true → Ampersands c w
ampersands (words.identifier {w = w} i) e = absurd (no_open (first w) (meets_first w e) (run_word {w = w} (words.identifier i) refl).opened)
ampersands (words.keyword {w = w} i) e = absurd (no_open (first w) (meets_first w e) (run_word {w = w} (words.keyword i) refl).opened)
ampersands (words.lifetime {w = w} i f) e = absurd (false≢true (sym (ap meets f) ∙ e))
ampersands (words.number {w = w} n b) e = absurd (no_open (first w) (meets_first w e) (run_word {w = w} (words.number n b) refl).opened)
ampersands (words.format {w = w} f) e = absurd (false≢true (sym (ap meets f) ∙ e))
ampersands (words.mark {w = w} i) e =
    let h = not_or (meets w) (same_bytes w (codes "&") || same_bytes w (codes "&&")) (one_of_all (λ v. not (meets v) || (same_bytes v (codes "&") || same_bytes v (codes "&&"))) w marks refl i) e in
    record {
      class = refl;
      text = elim (or_cases (same_bytes w (codes "&")) (same_bytes w (codes "&&")) h) [ inl k ↦ inl (same_bytes-true w (codes "&") k) | inr k ↦ inr (same_bytes-true w (codes "&&") k) ];
    }

-- ---- the tokens

pub record Halved (at : ℕ) (t : List ℕ) (ws : List (Class × List ℕ)) (ts : List Tok) : Type 0 where
  pub tokens : List Tok
  pub read : Tokens at t (tokens ++ ts)
  pub same : halves_of tokens ≡ halves ws

one_token : (at : ℕ) (c : Class) (w r : List ℕ) (ws : List (Class × List ℕ)) (ts : List Tok) → IsWord c w → stands c w r ≡ true → Halved (at + length w) r ws ts → Halved at (w ++ r) ((c, w) ∷ ws) ts
one_token at c w r ws ts i s h = record { tokens = token_at at c w ∷ h.tokens; read = token_then c w i s h.read; same = halves_more (c, w) (words_of h.tokens) ws h.same }

pub empty_word : {c : Class} {w : List ℕ} (r : List ℕ) → IsWord c w → meets (w ++ r) ≡ meets w
empty_word {w = w} r i = by w (word_not_empty i) where
  by : (w : List ℕ) → w ≢ [] → meets (w ++ r) ≡ meets w
  by [] n = absurd (n refl)
  by (c ∷ cs) n = refl

-- the first `&` stands in front
doubled : (at : ℕ) (r : List ℕ) (ws : List (Class × List ℕ)) (ts : List Tok) → Halved (at + 2) r ws ts → Halved at (38 ∷ 38 ∷ r) (ampersand ∷ ampersand ∷ ws) ts
doubled at r ws ts h = record {
  tokens = token_at at Mark (codes "&&") ∷ h.tokens;
  read = token_then Mark (codes "&&") (words.mark refl) (double_ends r) h.read;
  same = ap (λ z. ampersand ∷ ampersand ∷ z) h.same;
}

doubled_more : (at : ℕ) (r : List ℕ) (ws : List (Class × List ℕ)) (ts : List Tok) → Halved (at + 2) (38 ∷ r) (ampersand ∷ ws) ts → Halved at (38 ∷ 38 ∷ 38 ∷ r) (ampersand ∷ (Mark, codes "&&") ∷ ws) ts
doubled_more at r ws ts h = record {
  tokens = token_at at Mark (codes "&&") ∷ h.tokens;
  read = token_then Mark (codes "&&") (words.mark refl) (double_ends (38 ∷ r)) h.read;
  same = ap (λ z. ampersand ∷ ampersand ∷ z) h.same;
}

skipped_over : (at : ℕ) (b r : List ℕ) (ws : List (Class × List ℕ)) (ts : List Tok) → Skips (b ++ r) r → Halved (at + length b) r ws ts → Halved at (b ++ r) ws ts
skipped_over at b r ws ts s h = record { tokens = h.tokens; read = skips_then s at (length b) (h.tokens ++ ts) (length-append b r) h.read; same = h.same }

elsewhere : {at to : ℕ} {t : List ℕ} {ws : List (Class × List ℕ)} {ts : List Tok} → at ≡ to → Halved at t ws ts → Halved to t ws ts
elsewhere {t = t} {ws = ws} {ts = ts} e h = subst (λ n. Halved n t ws ts) e h

-- with what is told of the pieces behind a word
word_halved : (at : ℕ) (c : Class) (w : List ℕ) (ps : List Piece) (r : List ℕ) (ts : List Tok) → IsWord c w → Stops c w (onto ps r) → Tokens (at + length (w ++ flat ps)) r ts
    → ((n : ℕ) → Tokens (n + length (flat ps)) r ts → Halved n (onto ps r) (piece_words ps) ts)
    → ((n : ℕ) → Tokens ((n + 1) + length (flat ps)) r ts → Halved n (38 ∷ onto ps r) (ampersand ∷ piece_words ps) ts) → Halved at (w ++ onto ps r) ((c, w) ∷ piece_words ps) ts
word_halved at c w ps r ts i (ends e) d f g = one_token at c w (onto ps r) (piece_words ps) ts i e (f (at + length w) (subst (λ k. Tokens k r ts) (omega (arith, length-append w (flat ps))) d))
word_halved at c w ps r ts i (joins k e m) d f g =
    let l : length w ≡ 1 = ap length e in
    subst (λ x. Halved at (x ++ onto ps r) ((c, x) ∷ piece_words ps) ts) (sym e) (subst (λ x. Halved at (38 ∷ onto ps r) ((x, codes "&") ∷ piece_words ps) ts) (sym k)
    (g at (subst (λ n. Tokens n r ts) (omega (arith, l, length-append w (flat ps))) d)))

behind_one : (at : ℕ) (c : Class) (w : List ℕ) (ps : List Piece) (r : List ℕ) (ts : List Tok) → IsWord c w → Stops c w (onto ps r) → Tokens ((at + 1) + length (w ++ flat ps)) r ts
    → ((n : ℕ) → Tokens (n + length (flat ps)) r ts → Halved n (onto ps r) (piece_words ps) ts)
    → ((n : ℕ) → Tokens ((n + 1) + length (flat ps)) r ts → Halved n (38 ∷ onto ps r) (ampersand ∷ piece_words ps) ts) → Halved at (38 ∷ (w ++ onto ps r)) (ampersand ∷ (c, w) ∷ piece_words ps) ts
behind_one at c w ps r ts i s d f g = by (meets w) refl where
  text : (w ≡ codes "&") ⊎ (w ≡ codes "&&") → Halved at (38 ∷ (w ++ onto ps r)) (ampersand ∷ (Mark, w) ∷ piece_words ps) ts
  text (inl e) = let l : length w ≡ 1 = ap length e in
      subst (λ x. Halved at (38 ∷ (x ++ onto ps r)) (ampersand ∷ (Mark, x) ∷ piece_words ps) ts) (sym e)
      (doubled at (onto ps r) (piece_words ps) ts (f (at + 2) (subst (λ k. Tokens k r ts) (omega (arith, l, length-append w (flat ps))) d)))
  text (inr e) = let l : length w ≡ 2 = ap length e in
      subst (λ x. Halved at (38 ∷ (x ++ onto ps r)) (ampersand ∷ (Mark, x) ∷ piece_words ps) ts) (sym e)
      (doubled_more at (onto ps r) (piece_words ps) ts (g (at + 2) (subst (λ k. Tokens k r ts) (omega (arith, l, length-append w (flat ps))) d)))

  by : (b : Bool) → meets w ≡ b → Halved at (38 ∷ (w ++ onto ps r)) (ampersand ∷ (c, w) ∷ piece_words ps) ts
  by true e = let a = ampersands i e in subst (λ x. Halved at (38 ∷ (w ++ onto ps r)) (ampersand ∷ (x, w) ∷ piece_words ps) ts) (sym a.class) (text a.text)
  by false e =
      one_token at Mark (codes "&") (w ++ onto ps r) ((c, w) ∷ piece_words ps) ts (words.mark refl) (single_ends (w ++ onto ps r) (empty_word (onto ps r) i ∙ e))
      (word_halved (at + 1) c w ps r ts i s d f g)

mutual
  pub halved : (ps : List Piece) (at : ℕ) (r : List ℕ) (ts : List Tok) → ReadsMeeting ps r → meets r ≡ false → Tokens (at + length (flat ps)) r ts → Halved at (onto ps r) (piece_words ps) ts
  halved [] at r ts s q d = record { tokens = []; read = subst (λ k. Tokens k r ts) (omega arith) d; same = refl }
  halved (word c w ∷ ps) at r ts s q d = word_halved at c w ps r ts s.0 s.1 d (λ n e. halved ps n r ts s.2 q e) (λ n e. with_one ps n r ts s.2 q e)
  halved (blanks b ∷ ps) at r ts s q d =
      skipped_over at b (onto ps r) (piece_words ps) ts (s.0 (onto ps r) (λ e. e)) (halved ps (at + length b) r ts s.1 q (subst (λ k. Tokens k r ts) (omega (arith, length-append b (flat ps))) d))

  -- with an `&` directly in front
  with_one : (ps : List Piece) (at : ℕ) (r : List ℕ) (ts : List Tok) → ReadsMeeting ps r → meets r ≡ false → Tokens ((at + 1) + length (flat ps)) r ts → Halved at (38 ∷ onto ps r) (ampersand ∷ piece_words ps) ts
  with_one [] at r ts s q d =
      one_token at Mark (codes "&") r [] ts (words.mark refl) (single_ends r q) (record { tokens = []; read = subst (λ k. Tokens k r ts) (let e : (at + 1) + 0 ≡ at + 1 = omega arith in e) d; same = refl })
  with_one (blanks [] ∷ ps) at r ts s q d = with_one ps at r ts s.1 q d
  with_one (blanks (b ∷ bs) ∷ ps) at r ts s q d =
      one_token at Mark (codes "&") (b ∷ (bs ++ onto ps r)) (piece_words ps) ts (words.mark refl) (single_ends (b ∷ (bs ++ onto ps r)) (gaps_quiet b bs (onto ps r) s.0))
      (skipped_over (at + 1) (b ∷ bs) (onto ps r) (piece_words ps) ts (s.0 (onto ps r) (λ e. e))
      (halved ps ((at + 1) + length (b ∷ bs)) r ts s.1 q (subst (λ k. Tokens k r ts) (omega (arith, length-append bs (flat ps))) d)))
  with_one (word c w ∷ ps) at r ts s q d = behind_one at c w ps r ts s.0 s.1 d (λ n e. halved ps n r ts s.2 q e) (λ n e. with_one ps n r ts s.2 q e)
