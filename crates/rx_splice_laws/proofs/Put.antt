-- Where words are put into a text, each word there ends before what follows it, since in the text without them each did.
use Rattle.std.proofs.Common.{◌≡◌, ℕ, ◌+◌, Bool, true, false, List, [], ◌∷◌, ◌++◌, codes, length, length-append, refl, sym, ap, subst, ◌∙◌, arith, inl, inr}
use Rattle.std.specs.Prelude.{◌≢◌, ◌⊎◌, ⊤, not, ◌&&◌, ◌==◌}
use Rattle.std.specs.List.{list_all}
use Rattle.std.proofs.lemmas.Bool.{not-true, and_parts, both_ways, false_from_ne_true, false≢true, eqb-true}
use Rattle.rx_core.specs.Bytes.{same_bytes, is_one_of}
use Rattle.rx_lex.specs.declared.token.Class.{Class}
use Rattle.rx_lex.specs.declared.token.Class.TheVariants.{Identifier, Keyword, Lifetime, Number, Format, Mark}
use Rattle.rx_lex.specs.Words as words
use Rattle.rx_lex.specs.Words.{IsWord, marks, keywords, goes_on, is_ascii_continue}
use Rattle.rx_lex.specs.Tok.{Tok}
use Rattle.rx_lex.specs.Tokens.{AreWords, at_line_end, token_at}
use Rattle.rx_lex.specs.Stands.{stands, stands_alone, makes_longer, makes_comment}
use Rattle.rx_lex.proofs.FirstBytes.{first, one_of_all, numeral_continues}
use Rattle.rx_lex.proofs.Names.{IsRun, opens, run_goes_on, name_run, ascii_run}
use Rattle.rx_lex.proofs.LongestWord.{identifier_name, word_not_empty}
use Rattle.rx_print_spelling.specs.Pieces.{Piece, word, blanks, flat}
use Rattle.rx_print_spelling.proofs.Pieces.{places}
use Rattle.rx_splice_laws.specs.Places.{after_slash}
use Rattle.rx_splice_laws.proofs.AsRead.{Gaps, skipped, onto, onto-append, Reads}
use Rattle.rx_splice_laws.proofs.Seams.{Left, nothing_left, word_left, gap_left, left_of, left_of-append, Fits, Seen, EachSeen, Read, Seamed, kept_read, reads_front, reads_back, reads_joined, seen_behind, gaps_quiet}
use Rattle.rx_splice_laws.proofs.Beside.{left_at, Before, runs_class, ends_class, begins_run, ends_run, starred, Front, InPlace, Closing, Opening, Next}

-- ---- the words of pieces

pub read_words : (at : ℕ) (ps : List Piece) (r : List ℕ) → Reads ps r → AreWords (places at ps)
read_words at [] r a = tt
read_words at (word c w ∷ ps) r a = (a.0, read_words (at + length w) ps r a.2)
read_words at (blanks b ∷ ps) r a = read_words (at + length b) ps r a.1

-- the last of them ends before what follows
pub last_ends : (ps : List Piece) (l : Left) (r : List ℕ) → Reads ps r → Before l (onto ps r) → Before (left_of l ps) r
last_ends [] l r a b = b
last_ends (word c w ∷ ps) l r a b = last_ends ps (word_left c w) r a.2 a.1
last_ends (blanks [] ∷ ps) l r a b = last_ends ps l r a.1 b
last_ends (blanks (x ∷ xs) ∷ ps) l r a b = last_ends ps gap_left r a.1 tt

before_too : (l : Left) (r s : List ℕ) → Before l r → Fits l r s → Before l s
before_too nothing_left r s b f = tt
before_too (word_left c w) r s b f = f b
before_too gap_left r s b f = tt

ends_goes : (c : Class) (w r : List ℕ) → ends_class c ≡ true → stands c w r ≡ true → goes_on r ≡ false
ends_goes Identifier w r e s = not-true (goes_on r) s
ends_goes Keyword w r e s = not-true (goes_on r) s
ends_goes Lifetime w r e s = not-true (goes_on r) s
ends_goes Number w r e s = not-true (goes_on r) s
ends_goes Format w r e s = absurd (false≢true e)
ends_goes Mark w r e s = absurd (false≢true e)

ends_quiet : (ts : List Tok) (r : List ℕ) → ends_run ts ≡ true → Before (left_at ts) r → goes_on r ≡ false
ends_quiet [] r e b = absurd (false≢true e)
ends_quiet (t ∷ []) r e b = ends_goes t.class t.text r e b
ends_quiet (t ∷ u ∷ us) r e b = ends_quiet (u ∷ us) r e b

-- ---- the first byte of a word

pub run_word : {c : Class} {w : List ℕ} → IsWord c w → runs_class c ≡ true → IsRun w
run_word (words.identifier {w = w} i) e = name_run w (identifier_name w i)
run_word (words.keyword {w = w} i) e = ascii_run w (one_of_all (list_all is_ascii_continue) w keywords refl i) (word_not_empty (words.keyword i))
run_word (words.lifetime i b) e = absurd (false≢true e)
run_word (words.number {w = w} n b) e = ascii_run w (numeral_continues n) (word_not_empty (words.number n b))
run_word (words.format i) e = absurd (false≢true e)
run_word (words.mark i) e = absurd (false≢true e)

opens_no_line : (d : ℕ) → opens d ≡ true → (d == 10) ≡ false
opens_no_line d o = false_from_ne_true (d == 10) (λ h. both_ways (opens d) (ap opens (eqb-true d 10 h)) o)

first_no_line : {c : Class} {w : List ℕ} → IsWord c w → (first w == 10) ≡ false
first_no_line (words.identifier {w = w} i) = opens_no_line (first w) (run_word {w = w} (words.identifier i) refl).opened
first_no_line (words.keyword {w = w} i) = opens_no_line (first w) (run_word {w = w} (words.keyword i) refl).opened
first_no_line (words.lifetime {w = w} i e) = ap (λ v. first v == 10) e
first_no_line (words.number {w = w} n b) = opens_no_line (first w) (run_word {w = w} (words.number n b) refl).opened
first_no_line (words.format {w = w} e) = ap (λ v. first v == 10) e
first_no_line (words.mark {w = w} i) = not-true (first w == 10) (one_of_all (λ v. not (first v == 10)) w marks refl i)

no_line : (w r : List ℕ) → w ≢ [] → (first w == 10) ≡ false → at_line_end (w ++ r) ≡ false
no_line [] r n e = absurd (n refl)
no_line (d ∷ w) r n e = e

-- no line ends where a word begins
pub word_no_line : {c : Class} {w : List ℕ} (r : List ℕ) → IsWord c w → at_line_end (w ++ r) ≡ false
word_no_line {w = w} r i = no_line w r (word_not_empty i) (first_no_line i)

-- ---- in place of tokens that begin with a run

left_false : (a b : Bool) → not (a && b) ≡ true → b ≡ true → a ≡ false
left_false false b e f = refl
left_false true true e f = absurd (false≢true e)
left_false true false e f = absurd (false≢true f)

-- a word that stood before a run, before what is written there
before_run : {c : Class} {v : List ℕ} (x s : List ℕ) (ps : List Piece) → IsWord c v → goes_on x ≡ true → Front ps → (starred ps ≡ true → same_bytes v (codes "/") ≡ false)
    → stands c v x ≡ true → stands c v (onto ps s) ≡ true
before_run x s ps (words.identifier i) g f n e = absurd (both_ways (goes_on x) (not-true (goes_on x) e) g)
before_run x s ps (words.keyword i) g f n e = absurd (both_ways (goes_on x) (not-true (goes_on x) e) g)
before_run x s ps (words.lifetime i b) g f n e = absurd (both_ways (goes_on x) (not-true (goes_on x) e) g)
before_run x s ps (words.number i b) g f n e = absurd (both_ways (goes_on x) (not-true (goes_on x) e) g)
before_run x s ps (words.format i) g f n e = refl
before_run x s ps (words.mark {w = v} i) g f n e =
    let p = and_parts (not (makes_longer v x)) (not (same_bytes v (codes "_") && goes_on x) && not (same_bytes v (codes "/") && makes_comment x)) e in
    let q = and_parts (not (same_bytes v (codes "_") && goes_on x)) (not (same_bytes v (codes "/") && makes_comment x)) p.1 in
    f v s i (left_false (same_bytes v (codes "_")) (goes_on x) q.0 g) n

front_fits : (all : List Tok) (at : ℕ) (l : Left) {c : Class} {w : List ℕ} (r s : List ℕ) (ps : List Piece) → IsWord c w → runs_class c ≡ true → Front ps
    → (starred ps ≡ true → after_slash all at ≡ false) → Seen all at l → Fits l (w ++ r) (onto ps s)
front_fits all at nothing_left r s ps i e f n k = tt
front_fits all at gap_left {w = w} r s ps i e f n k = λ h. absurd (both_ways (at_line_end (w ++ r)) (word_no_line r i) h)
front_fits all at (word_left d v) {w = w} r s ps i e f n k =
    before_run (w ++ r) s ps k.0 (run_goes_on w r (run_word i e)) f (λ h. false_from_ne_true (same_bytes v (codes "/")) (λ m. both_ways (after_slash all at) (n h) (k.1 m)))

pub replaced_seam : (all : List Tok) (t : Tok) (ts : List Tok) (ps src : List Piece) → InPlace (t ∷ ts) ps → (starred ps ≡ true → after_slash all t.span.start ≡ false) → places t.span.start src ≡ t ∷ ts
    → (qs : List Piece) → src ≡ word t.class t.text ∷ qs → ((l : Left) → left_of l src ≡ left_at (t ∷ ts)) → Seamed all t.span.start src ps
replaced_seam all t ts ps src i n e qs f g = record {
  so = λ l r s k a h.
      let w = subst AreWords e (read_words t.span.start src r a) in
      let b = subst (λ x. Before x r) (g nothing_left) (last_ends src nothing_left r a tt) in
      let q = ends_quiet (t ∷ ts) s i.ends (before_too (left_at (t ∷ ts)) r s b (subst (λ x. Fits x r s) (g l) h)) in
      record {
        reads = i.reads w s q;
        fits = subst (λ x. Fits l (onto x r) (onto ps s)) (sym f) (front_fits all t.span.start l (onto qs r) s ps w.0 i.begins (i.front w) n k);
      };
}

-- ---- behind pieces, before what follows them

put_read : (l : Left) (front gap new ps : List Piece) (r s : List ℕ) → Read l front new (onto gap r) (onto ps (onto gap s)) → Reads ps (onto gap s) → Reads gap s → Read l (front ++ gap) (new ++ (ps ++ gap)) r s
put_read l front gap new ps r s k a b = record {
  reads = reads_joined new (ps ++ gap) s (subst (Reads new) (sym (onto-append ps gap s)) k.reads) (reads_joined ps gap s a b);
  fits = subst (λ x. Fits l x (onto (new ++ (ps ++ gap)) s)) (sym (onto-append front gap r))
      (subst (λ x. Fits l (onto front (onto gap r)) x) (sym (onto-append new (ps ++ gap) s ∙ ap (onto new) (onto-append ps gap s))) k.fits);
}

closing_fits : (ts : List Tok) (ps : List Piece) (r s : List ℕ) → ts ≢ [] → AreWords ts → Closing ps → Fits (left_at ts) r (onto ps s)
closing_fits [] ps r s n a c = absurd (n refl)
closing_fits (t ∷ []) ps r s n a c = λ e. c.closes s a.0
closing_fits (t ∷ u ∷ us) ps r s n a c = closing_fits (u ∷ us) ps r s (λ e. absurd (cc)) a.1 c

pub behind_seam : (all : List Tok) (at : ℕ) (ts : List Tok) (ps front gap new : List Piece) → ts ≢ [] → Closing ps → places at front ≡ ts → ((l : Left) → left_of l front ≡ left_at ts)
    → Seamed all at front new → Seamed all at (front ++ gap) (new ++ (ps ++ gap))
behind_seam all at ts ps front gap new n c e g w = record {
  so = λ l r s k a h.
      let u = reads_front front gap r a in
      let v = kept_read gap (left_of l front) r s (reads_back front gap r a) (subst (λ x. Fits x r s) (left_of-append l front gap) h) in
      let f = closing_fits ts ps (onto gap r) (onto gap s) n (subst AreWords e (read_words at front (onto gap r) u)) c in
      put_read l front gap new ps r s (w.so l (onto gap r) (onto ps (onto gap s)) k u (subst (λ x. Fits x (onto gap r) (onto ps (onto gap s))) (sym (g l)) f)) (c.reads (onto gap s)) v.reads;
}

-- before a token that goes on no name
pub quiet_token : (at : ℕ) (ps : List Piece) (z : Tok) (zs : List Tok) (s : List ℕ) → places at ps ≡ z ∷ zs → Reads ps s → ((r : List ℕ) → goes_on (z.text ++ r) ≡ false) → goes_on (onto ps s) ≡ false
quiet_token at [] z zs s e a f = absurd (cc)
quiet_token at (word c w ∷ ps) z zs s e a f =
    let h : token_at at c w ≡ z = cc in
    let i : z.text ≡ w = ap (λ (x : Tok). x.text) (sym h) in
    ap (λ x. goes_on (x ++ onto ps s)) (sym i) ∙ f (onto ps s)
quiet_token at (blanks [] ∷ ps) z zs s e a f = quiet_token (at + 0) ps z zs s e a.1 f
quiet_token at (blanks (b ∷ bs) ∷ ps) z zs s e a f = gaps_quiet b bs (onto ps s) a.0

pub fits_of_before : (ts : List Tok) (r s : List ℕ) → ts ≢ [] → Before (left_at ts) s → Fits (left_at ts) r s
fits_of_before [] r s n b = absurd (n refl)
fits_of_before (t ∷ []) r s n b = λ e. b
fits_of_before (t ∷ u ∷ us) r s n b = fits_of_before (u ∷ us) r s (λ e. absurd (cc)) b

pub next_seam : (all : List Tok) (at mid : ℕ) (ts : List Tok) (z : Tok) (ps front more : List Piece) → ts ≢ [] → Next ts z ps → ((l : Left) → left_of l front ≡ left_at ts)
    → places mid more ≡ z ∷ [] → Seamed all at (front ++ more) (front ++ (ps ++ more))
next_seam all at mid ts z ps front more n c g e = record {
  so = λ l r s k a h.
      let u = reads_front front more r a in
      let v = kept_read more (left_of l front) r s (reads_back front more r a) (subst (λ x. Fits x r s) (left_of-append l front more) h) in
      let f = fits_of_before ts (onto more r) (onto ps (onto more s)) n (c.behind (onto more s)) in
      put_read l front more front ps r s (kept_read front l (onto more r) (onto ps (onto more s)) u (subst (λ x. Fits x (onto more r) (onto ps (onto more s))) (sym (g l)) f))
      (c.reads (onto more s) (quiet_token mid more z [] s e v.reads c.before)) v.reads;
}

-- ---- before the second of two tokens

pub bare_left : (at : ℕ) (ps : List Piece) (l : Left) → places at ps ≡ [] → (left_of l ps ≡ gap_left) ⊎ ((left_of l ps ≡ l) × (length (flat ps) ≡ 0))
bare_left at [] l e = inr (refl, refl)
bare_left at (word c w ∷ ps) l e = absurd (cc)
bare_left at (blanks [] ∷ ps) l e = bare_left (at + 0) ps l e
bare_left at (blanks (b ∷ bs) ∷ ps) l e = inl (gap_stays (at + length (b ∷ bs)) ps e)
  where
    gap_stays : (at : ℕ) (ps : List Piece) → places at ps ≡ [] → left_of gap_left ps ≡ gap_left
    gap_stays at [] e = refl
    gap_stays at (word c w ∷ ps) e = absurd (cc)
    gap_stays at (blanks [] ∷ ps) e = gap_stays (at + 0) ps e
    gap_stays at (blanks (b ∷ bs) ∷ ps) e = gap_stays (at + length (b ∷ bs)) ps e

-- behind the only token: a gap, or its word, which ends here
abbrev pub Only : Left → ℕ → Tok → Type 0
Only l end t = (l ≡ gap_left) ⊎ ((l ≡ word_left t.class t.text) × (end ≡ t.span.start + length t.text))

pub only_left : (at : ℕ) (ps : List Piece) (t : Tok) (l : Left) → places at ps ≡ t ∷ [] → Only (left_of l ps) (at + length (flat ps)) t
only_left at [] t l e = absurd (cc)
only_left at (blanks [] ∷ ps) t l e = subst (λ n. Only (left_of l ps) n t) (let h : (at + 0) + length (flat ps) ≡ at + length (flat ps) = omega arith in h) (only_left (at + 0) ps t l e)
only_left at (blanks (b ∷ bs) ∷ ps) t l e =
    subst (λ n. Only (left_of gap_left ps) n t) (let h : (at + length (b ∷ bs)) + length (flat ps) ≡ at + length ((b ∷ bs) ++ flat ps) = omega (arith, length-append bs (flat ps)) in h)
    (only_left (at + length (b ∷ bs)) ps t gap_left e)
only_left at (word c w ∷ ps) t l e =
    let h : token_at at c w ≡ t = cc in
    let k : places (at + length w) ps ≡ [] = cc in
    subst (λ x. Only (left_of (word_left c w) ps) (at + length (w ++ flat ps)) x) h (by (bare_left (at + length w) ps (word_left c w) k))
  where
    by : (left_of (word_left c w) ps ≡ gap_left) ⊎ ((left_of (word_left c w) ps ≡ word_left c w) × (length (flat ps) ≡ 0)) → Only (left_of (word_left c w) ps) (at + length (w ++ flat ps)) (token_at at c w)
    by (inl g) = inl g
    by (inr g) = inr (g.0, omega (arith, g.1, length-append w (flat ps)))

opening_fits : (t u : Tok) (l : Left) (end : ℕ) (ps : List Piece) (r s : List ℕ) → Opening t u ps → IsWord u.class u.text → u.span.start ≡ end → Only l end t → Fits l (u.text ++ r) (onto ps s)
opening_fits t u l end ps r s o i e (inl g) = subst (λ x. Fits x (u.text ++ r) (onto ps s)) (sym g) (λ h. absurd (both_ways (at_line_end (u.text ++ r)) (word_no_line r i) h))
opening_fits t u l end ps r s o i e (inr g) = subst (λ x. Fits x (u.text ++ r) (onto ps s)) (sym g.0) (λ h. o.apart (e ∙ g.1) s)

pub between_seam : (all : List Tok) (at : ℕ) (t u : Tok) (ps front rest new qs : List Piece) → Opening t u ps → places at front ≡ t ∷ [] → u.span.start ≡ at + length (flat front) → rest ≡ word u.class u.text ∷ qs
    → EachSeen all (t ∷ []) → Seamed all u.span.start rest new → Seamed all at (front ++ rest) (front ++ (ps ++ new))
between_seam all at t u ps front rest new qs o e m f y w = record {
  so = λ l r s k a h.
      let x = reads_front front rest r a in
      let z = reads_back front rest r a in
      let i = subst (λ p. Reads p r) f z in
      let q = w.so (left_of l front) r s (subst (λ n. Seen all n (left_of l front)) (sym m) (seen_behind all at l front (onto rest r) k x (subst (EachSeen all) (sym e) y))) z (subst (λ p. Fits p r s) (left_of-append l front rest) h) in
      let b = subst (λ p. Fits (left_of l front) (onto p r) (onto ps (onto new s))) (sym f) (opening_fits t u (left_of l front) (at + length (flat front)) ps (onto qs r) (onto new s) o i.0 m (only_left at front t l e)) in
      let v = kept_read front l (onto rest r) (onto ps (onto new s)) x b in
      record {
        reads = reads_joined front (ps ++ new) s (subst (Reads front) (sym (onto-append ps new s)) v.reads) (reads_joined ps new s (o.reads (onto new s)) q.reads);
        fits = subst (λ p. Fits l p (onto (front ++ (ps ++ new)) s)) (sym (onto-append front rest r))
            (subst (λ p. Fits l (onto front (onto rest r)) p) (sym (onto-append front (ps ++ new) s ∙ ap (onto front) (onto-append ps new s))) v.fits);
      };
}
