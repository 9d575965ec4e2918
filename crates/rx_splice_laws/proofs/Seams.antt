-- Where parts of a text with edits meet: a word that ended before what followed it ends before what follows it now.
use Rattle.std.proofs.Common.{◌≡◌, ℕ, ◌+◌, ◌<◌, Bool, true, false, List, [], ◌∷◌, ◌++◌, codes, length, length-append, refl, sym, ap, subst, ◌∙◌, arith, inl, inr}
use Rattle.std.specs.Prelude.{◌≢◌, ⊤, not, ◌&&◌, ◌==◌}
use Rattle.std.specs.List.{list_all}
use Rattle.std.specs.Str.{chars}
use Rattle.std.proofs.lemmas.Bool.{and_from, and_left, and_right, not-true, not_from_false, false≢true, false_from_ne_true, leb-true}
use Rattle.std.proofs.lemmas.Bool.Decides.{nat_tests}
use Rattle.std.proofs.lemmas.Str.{chars-append}
use Rattle.rx_core.specs.Bytes.{same_bytes, is_one_of}
use Rattle.rx_lex.specs.declared.token.Class.{Class}
use Rattle.rx_lex.specs.declared.token.Class.TheVariants.{Identifier, Keyword, Lifetime, Number, Format, Mark}
use Rattle.rx_lex.specs.Words.{IsWord, keyword, lifetime, marks, goes_on, begins_continue}
use Rattle.rx_lex.specs.Tok.{Tok}
use Rattle.rx_lex.specs.Tokens.{Gap, blank, line_comment, block_comment, is_blank, at_line_end, token_at}
use Rattle.rx_lex.specs.Stands.{stands, stands_alone, makes_longer, makes_comment}
use Rattle.rx_lex.proofs.FirstBytes.{first}
use Rattle.rx_lex.proofs.Names.{goes_on_is, chars_not_empty}
use Rattle.rx_lex.proofs.LongestWord.{word_utf8, word_not_empty}
use Rattle.rx_lex.proofs.Standing.{stands_before_blank}
use Rattle.rx_print_spelling.specs.Pieces.{Piece, word, blanks, flat}
use Rattle.rx_print_spelling.proofs.Pieces.{places}
use Rattle.rx_splice_laws.specs.Places.{after_slash}
use Rattle.rx_splice_laws.proofs.AsRead.{Skips, skipped, skip, Gaps, onto, onto_is, onto-append, Reads}

-- ---- texts that begin alike

pub record Alike (r s : List ℕ) : Type 0 where
  pub goes : goes_on r ≡ goes_on s
  pub longer : (w : List ℕ) → makes_longer w r ≡ makes_longer w s
  pub comment : makes_comment r ≡ makes_comment s
  pub line : at_line_end r ≡ at_line_end s

alone_alike : (w r s : List ℕ) → Alike r s → stands_alone w r ≡ stands_alone w s
alone_alike w r s a =
    ap (λ b. not b && (not (same_bytes w (codes "_") && goes_on r) && not (same_bytes w (codes "/") && makes_comment r))) (a.longer w)
    ∙ ap (λ b. not (makes_longer w s) && (not (same_bytes w (codes "_") && b) && not (same_bytes w (codes "/") && makes_comment r))) a.goes
    ∙ ap (λ b. not (makes_longer w s) && (not (same_bytes w (codes "_") && goes_on s) && not (same_bytes w (codes "/") && b))) a.comment

pub stands_alike : (c : Class) (w r s : List ℕ) → Alike r s → stands c w r ≡ stands c w s
stands_alike Identifier w r s a = ap not a.goes
stands_alike Keyword w r s a = ap not a.goes
stands_alike Lifetime w r s a = ap not a.goes
stands_alike Number w r s a = ap not a.goes
stands_alike Format w r s a = refl
stands_alike Mark w r s a = alone_alike w r s a

-- at a byte of ASCII
goes_low : (d : ℕ) (r s : List ℕ) → d < 128 → goes_on (d ∷ r) ≡ goes_on (d ∷ s)
goes_low d r s h = rw (high_false d h) refl
  where
    high_false : (d : ℕ) → d < 128 → Rattle.std.specs.Prelude.nat_le 128 d ≡ false
    high_false d h = false_from_ne_true (Rattle.std.specs.Prelude.nat_le 128 d) (λ e. let m = leb-true 128 d e in absurd (omega (arith, h, m)))

pub alike_low : (d : ℕ) (r s : List ℕ) → d < 128 → Alike (d ∷ r) (d ∷ s)
alike_low d r s h = record { goes = goes_low d r s h; longer = λ w. refl; comment = refl; line = refl }

-- at a word
begins_same : (cs x y : List ℕ) → cs ≢ [] → begins_continue (cs ++ x) ≡ begins_continue (cs ++ y)
begins_same [] x y n = absurd (n refl)
begins_same (c ∷ cs) x y n = refl

goes_word : {c : Class} {w : List ℕ} (r s : List ℕ) → IsWord c w → goes_on (w ++ r) ≡ goes_on (w ++ s)
goes_word {w = w} r s i =
    let u = word_utf8 i in
    goes_on_is (w ++ r) ∙ ap begins_continue (chars-append w r u)
    ∙ begins_same (chars w) (chars r) (chars s) (chars_not_empty w u (word_not_empty i))
    ∙ ap begins_continue (sym (chars-append w s u)) ∙ sym (goes_on_is (w ++ s))

with_first : (w r s : List ℕ) → w ≢ [] → goes_on (w ++ r) ≡ goes_on (w ++ s) → Alike (w ++ r) (w ++ s)
with_first [] r s n e = absurd (n refl)
with_first (d ∷ w) r s n e = record { goes = e; longer = λ v. refl; comment = refl; line = refl }

pub alike_word : {c : Class} {w : List ℕ} (r s : List ℕ) → IsWord c w → Alike (w ++ r) (w ++ s)
alike_word {w = w} r s i = with_first w r s (word_not_empty i) (goes_word r s i)

-- ---- blanks and comments begin with a byte of ASCII, which goes on no name

low_blank : (c : ℕ) → is_blank c ≡ true → c < 128
low_blank c e = grind (arith, nat_tests)

pub gap_low : {t q : List ℕ} → Gap t q → first t < 128
gap_low (blank {c = c} e) = low_blank c e
gap_low (line_comment u {t = t} {r = r} a b e) = let h : first t ≡ 47 = ap first e in omega (arith, h)
gap_low (block_comment b) = omega arith

pub gap_quiet : {t q : List ℕ} → Gap t q → goes_on t ≡ false
gap_quiet (blank {c = c} {r = r} e) = not-true (goes_on (c ∷ r)) (stands_before_blank {c = Keyword} {w = codes "as"} c r (keyword refl) e)
gap_quiet (line_comment u {t = t} {r = r} a b e) = ap goes_on e
gap_quiet (block_comment b) = refl

skips_low : {t q : List ℕ} → Skips t q → length q < length t → first t < 128
skips_low skipped l = absurd (omega (arith, l))
skips_low (skip g k) l = gap_low g

skips_quiet : {t q : List ℕ} → Skips t q → length q < length t → goes_on t ≡ false
skips_quiet skipped l = absurd (omega (arith, l))
skips_quiet (skip g k) l = gap_quiet g

pub gaps_low : (b : ℕ) (bs r : List ℕ) → Gaps (b ∷ bs) r → b < 128
gaps_low b bs r g = skips_low (g [] (λ e. refl)) (omega arith)

pub gaps_quiet : (b : ℕ) (bs r : List ℕ) → Gaps (b ∷ bs) r → goes_on (b ∷ (bs ++ r)) ≡ false
gaps_quiet b bs r g = skips_quiet (g r (λ e. e)) (let h : length r < length (b ∷ (bs ++ r)) = omega (arith, length-append bs r) in h)

-- ---- what stands directly in front

pub data Left : Type 0 where
  nothing_left : Left
  word_left : Class → List ℕ → Left
  gap_left : Left

-- behind pieces
abbrev pub left_of : Left → List Piece → Left
left_of l [] = l
left_of l (word c w ∷ ps) = left_of (word_left c w) ps
left_of l (blanks [] ∷ ps) = left_of l ps
left_of l (blanks (b ∷ bs) ∷ ps) = left_of gap_left ps

pub left_of-append : (l : Left) (ps qs : List Piece) → left_of l (ps ++ qs) ≡ left_of (left_of l ps) qs
left_of-append l [] qs = refl
left_of-append l (word c w ∷ ps) qs = left_of-append (word_left c w) ps qs
left_of-append l (blanks [] ∷ ps) qs = left_of-append l ps qs
left_of-append l (blanks (b ∷ bs) ∷ ps) qs = left_of-append gap_left ps qs

-- what stood before r stands before s
abbrev pub Fits : Left → List ℕ → List ℕ → Type 0
Fits nothing_left r s = ⊤
Fits (word_left c w) r s = stands c w r ≡ true → stands c w s ≡ true
Fits gap_left r s = at_line_end r ≡ true → at_line_end s ≡ true

pub fits_alike : (l : Left) (r s : List ℕ) → Alike r s → Fits l r s
fits_alike nothing_left r s a = tt
fits_alike (word_left c w) r s a = λ e. sym (stands_alike c w r s a) ∙ e
fits_alike gap_left r s a = λ e. sym a.line ∙ e

-- what is in front is a word; a `/` is one of the text, and ends here
abbrev pub Seen : List Tok → ℕ → Left → Type 0
Seen all at (word_left c w) = IsWord c w × (same_bytes w (codes "/") ≡ true → after_slash all at ≡ true)
Seen all at _ = ⊤

-- where tokens end, they are seen
abbrev pub EachSeen : List Tok → List Tok → Type 0
EachSeen all [] = ⊤
EachSeen all (t ∷ ts) = (same_bytes t.text (codes "/") ≡ true → after_slash all t.span.end ≡ true) × EachSeen all ts

pub seen_left : (all ts us : List Tok) → EachSeen all (ts ++ us) → EachSeen all ts
seen_left all [] us e = tt
seen_left all (t ∷ ts) us e = (e.0, seen_left all ts us e.1)

pub seen_right : (all ts us : List Tok) → EachSeen all (ts ++ us) → EachSeen all us
seen_right all [] us e = e
seen_right all (t ∷ ts) us e = seen_right all ts us e.1

pub seen_behind : (all : List Tok) (at : ℕ) (l : Left) (ps : List Piece) (r : List ℕ) → Seen all at l → Reads ps r → EachSeen all (places at ps) → Seen all (at + length (flat ps)) (left_of l ps)
seen_behind all at l [] r s a e = subst (λ n. Seen all n l) (let h : at ≡ at + 0 = omega arith in h) s
seen_behind all at l (word c w ∷ ps) r s a e =
    subst (λ n. Seen all n (left_of (word_left c w) ps)) (omega (arith, length-append w (flat ps)))
    (seen_behind all (at + length w) (word_left c w) ps r (a.0, e.0) a.2 e.1)
seen_behind all at l (blanks [] ∷ ps) r s a e =
    subst (λ n. Seen all n (left_of l ps)) (let h : (at + 0) + length (flat ps) ≡ at + length (flat ps) = omega arith in h)
    (seen_behind all (at + 0) l ps r (subst (λ n. Seen all n l) (let h : at ≡ at + 0 = omega arith in h) s) a.1 e)
seen_behind all at l (blanks (b ∷ bs) ∷ ps) r s a e =
    subst (λ n. Seen all n (left_of gap_left ps)) (let h : (at + length (b ∷ bs)) + length (flat ps) ≡ at + length ((b ∷ bs) ++ flat ps) = omega (arith, length-append bs (flat ps)) in h)
    (seen_behind all (at + length (b ∷ bs)) gap_left ps r tt a.1 e)

-- ---- pieces one after the other

pub reads_front : (ps qs : List Piece) (r : List ℕ) → Reads (ps ++ qs) r → Reads ps (onto qs r)
reads_front [] qs r a = tt
reads_front (word c w ∷ ps) qs r a = (a.0, ap (stands c w) (sym (onto-append ps qs r)) ∙ a.1, reads_front ps qs r a.2)
reads_front (blanks b ∷ ps) qs r a = (subst (Gaps b) (onto-append ps qs r) a.0, reads_front ps qs r a.1)

pub reads_back : (ps qs : List Piece) (r : List ℕ) → Reads (ps ++ qs) r → Reads qs r
reads_back [] qs r a = a
reads_back (word c w ∷ ps) qs r a = reads_back ps qs r a.2
reads_back (blanks b ∷ ps) qs r a = reads_back ps qs r a.1

pub reads_joined : (ps qs : List Piece) (r : List ℕ) → Reads ps (onto qs r) → Reads qs r → Reads (ps ++ qs) r
reads_joined [] qs r a b = b
reads_joined (word c w ∷ ps) qs r a b = (a.0, ap (stands c w) (onto-append ps qs r) ∙ a.1, reads_joined ps qs r a.2 b)
reads_joined (blanks v ∷ ps) qs r a b = (subst (Gaps v) (sym (onto-append ps qs r)) a.0, reads_joined ps qs r a.1 b)

-- ---- in place of these pieces of the text, which stand at a place, those

pub record Read (l : Left) (src new : List Piece) (r s : List ℕ) : Type 0 where
  pub reads : Reads new s
  pub fits : Fits l (onto src r) (onto new s)

pub record Seamed (all : List Tok) (at : ℕ) (src new : List Piece) : Type 0 where
  pub so : (l : Left) (r s : List ℕ) → Seen all at l → Reads src r → Fits (left_of l src) r s → Read l src new r s

-- another lifetime
lifetimes_begin : {v w : List ℕ} (r s : List ℕ) → IsWord Lifetime v → IsWord Lifetime w → Alike (v ++ r) (w ++ s)
lifetimes_begin r s (lifetime {w = v} {name = n} i e) (lifetime {w = w} {name = m} j f) =
    subst (λ x. Alike (x ++ r) (w ++ s)) (sym e) (subst (λ x. Alike ((codes "'" ++ n) ++ r) (x ++ s)) (sym f) (alike_low 39 (n ++ r) (m ++ s) (omega arith)))

pub lifetime_seam : (all : List Tok) (at : ℕ) (v w : List ℕ) → IsWord Lifetime w → Seamed all at (word Lifetime v ∷ []) (word Lifetime w ∷ [])
lifetime_seam all at v w i = record {
  so = λ l r s k a f. record { reads = (i, f a.1, tt); fits = fits_alike l (v ++ r) (w ++ s) (lifetimes_begin r s a.0 i) };
}

-- kept
kept_word : (l : Left) (c : Class) (w : List ℕ) (ps : List Piece) (r s : List ℕ) → IsWord c w → stands c w (onto ps r) ≡ true → Read (word_left c w) ps ps r s → Read l (word c w ∷ ps) (word c w ∷ ps) r s
kept_word l c w ps r s i e k = record { reads = (i, k.fits e, k.reads); fits = fits_alike l (w ++ onto ps r) (w ++ onto ps s) (alike_word (onto ps r) (onto ps s) i) }

kept_gap : (l : Left) (b : ℕ) (bs : List ℕ) (ps : List Piece) (r s : List ℕ) → Gaps (b ∷ bs) (onto ps r) → Read gap_left ps ps r s → Read l (blanks (b ∷ bs) ∷ ps) (blanks (b ∷ bs) ∷ ps) r s
kept_gap l b bs ps r s g k = record {
  reads = ((λ q f. g q (λ e. f (k.fits e))), k.reads);
  fits = fits_alike l (b ∷ (bs ++ onto ps r)) (b ∷ (bs ++ onto ps s)) (alike_low b (bs ++ onto ps r) (bs ++ onto ps s) (gaps_low b bs (onto ps r) g));
}

kept_none : (l : Left) (ps : List Piece) (r s : List ℕ) → Read l ps ps r s → Read l (blanks [] ∷ ps) (blanks [] ∷ ps) r s
kept_none l ps r s k = record { reads = ((λ q f. skipped), k.reads); fits = k.fits }

pub kept_read : (src : List Piece) (l : Left) (r s : List ℕ) → Reads src r → Fits (left_of l src) r s → Read l src src r s
kept_read [] l r s a f = record { reads = tt; fits = f }
kept_read (word c w ∷ ps) l r s a f = kept_word l c w ps r s a.0 a.1 (kept_read ps (word_left c w) r s a.2 f)
kept_read (blanks [] ∷ ps) l r s a f = kept_none l ps r s (kept_read ps l r s a.1 f)
kept_read (blanks (b ∷ bs) ∷ ps) l r s a f = kept_gap l b bs ps r s a.0 (kept_read ps gap_left r s a.1 f)

pub kept_seam : (all : List Tok) (at : ℕ) (src : List Piece) → Seamed all at src src
kept_seam all at src = record { so = λ l r s e a f. kept_read src l r s a f }

-- one part after the other
pub both_read : (l : Left) (src more new new2 : List Piece) (r s : List ℕ) → Read l src new (onto more r) (onto new2 s) → Reads new2 s → Read l (src ++ more) (new ++ new2) r s
both_read l src more new new2 r s k a = record {
  reads = reads_joined new new2 s k.reads a;
  fits = subst (λ x. Fits l x (onto (new ++ new2) s)) (sym (onto-append src more r)) (subst (λ x. Fits l (onto src (onto more r)) x) (sym (onto-append new new2 s)) k.fits);
}

pub two_seams : (all : List Tok) (at mid : ℕ) (src more new new2 : List Piece) → mid ≡ at + length (flat src) → EachSeen all (places at src) → Seamed all at src new → Seamed all mid more new2
    → Seamed all at (src ++ more) (new ++ new2)
two_seams all at mid src more new new2 m e a b = record {
  so = λ l r s k h f.
      let u = reads_front src more r h in
      let v = reads_back src more r h in
      let q = b.so (left_of l src) r s (subst (λ n. Seen all n (left_of l src)) (sym m) (seen_behind all at l src (onto more r) k u e)) v (subst (λ x. Fits x r s) (left_of-append l src more) f) in
      both_read l src more new new2 r s (a.so l (onto more r) (onto new2 s) k u q.fits) q.reads;
}
