-- Where parts of a signature with its edits meet: a word that ended before what followed it ends before what follows it now, or is an `&`
-- before another.
use Rattle.std.proofs.Common.{◌≡◌, inl, inr, ℕ, suc, ◌+◌, ◌≤◌, Bool, true, false, List, [], ◌∷◌, ◌++◌, codes, length, length-append, drop, refl, sym, ap, subst, ◌∙◌, arith}
use Rattle.std.specs.Prelude.{⊤, if◌then◌else◌}
use Rattle.std.proofs.lemmas.Bool.{both_ways}
use Rattle.rx_lex.specs.declared.token.Class.{Class}
use Rattle.rx_lex.specs.declared.token.Class.TheVariants.{Lifetime, Mark}
use Rattle.rx_lex.specs.Words.{IsWord, lifetime}
use Rattle.rx_lex.specs.Tok.{Tok}
use Rattle.rx_lex.specs.Tokens.{blank, is_blank, at_line_end}
use Rattle.rx_lex.specs.Stands.{stands}
use Rattle.rx_lex.proofs.Gaps.{gap_one}
use Rattle.rx_print_spelling.specs.Pieces.{Piece, word, blanks, flat}
use Rattle.rx_print_spelling.proofs.Pieces.{places}
use Rattle.rx_splice_laws.specs.SplicedRun.{piece_words}
use Rattle.rx_splice_laws.proofs.AsRead.{Skips, skipped, skip, Gaps, onto, onto_is, onto-append, Reads}
use Rattle.rx_splice_laws.proofs.Seams.{Alike, alike_low, alike_word, stands_alike, gaps_low, Left, nothing_left, word_left, gap_left, left_of, left_of-append, reads_front, reads_back}
use Rattle.rx_splice_laws.proofs.Put.{word_no_line, Only, only_left}
use Rattle.rx_compact_text.specs.CompactedText.{leading_blanks}
use Rattle.rx_compact_read.proofs.Meeting.{Stops, ends, joins, ReadsMeeting, meeting_joined, single_stops, double_ends}
use Rattle.rx_compact_read.proofs.Types.{IsAmpersand}

-- what stood before r stands before s
abbrev pub FitsMeeting : Left → List ℕ → List ℕ → Type 0
FitsMeeting nothing_left r s = ⊤
FitsMeeting (word_left c w) r s = stands c w r ≡ true → Stops c w s
FitsMeeting gap_left r s = at_line_end r ≡ true → at_line_end s ≡ true

pub meeting_alike : (l : Left) (r s : List ℕ) → Alike r s → FitsMeeting l r s
meeting_alike nothing_left r s a = tt
meeting_alike (word_left c w) r s a = λ e. ends (sym (stands_alike c w r s a) ∙ e)
meeting_alike gap_left r s a = λ e. sym a.line ∙ e

pub record ReadMeeting (l : Left) (src new : List Piece) (r s : List ℕ) : Type 0 where
  pub reads : ReadsMeeting new s
  pub fits : FitsMeeting l (onto src r) (onto new s)

pub record SeamMeeting (src new : List Piece) : Type 0 where
  pub so : (l : Left) (r s : List ℕ) → Reads src r → FitsMeeting (left_of l src) r s → ReadMeeting l src new r s

-- ---- kept

kept_word : (l : Left) (c : Class) (w : List ℕ) (ps : List Piece) (r s : List ℕ) → IsWord c w → stands c w (onto ps r) ≡ true → ReadMeeting (word_left c w) ps ps r s → ReadMeeting l (word c w ∷ ps) (word c w ∷ ps) r s
kept_word l c w ps r s i e k = record { reads = (i, k.fits e, k.reads); fits = meeting_alike l (w ++ onto ps r) (w ++ onto ps s) (alike_word (onto ps r) (onto ps s) i) }

kept_gap : (l : Left) (b : ℕ) (bs : List ℕ) (ps : List Piece) (r s : List ℕ) → Gaps (b ∷ bs) (onto ps r) → ReadMeeting gap_left ps ps r s → ReadMeeting l (blanks (b ∷ bs) ∷ ps) (blanks (b ∷ bs) ∷ ps) r s
kept_gap l b bs ps r s g k = record {
  reads = ((λ q f. g q (λ e. f (k.fits e))), k.reads);
  fits = meeting_alike l (b ∷ (bs ++ onto ps r)) (b ∷ (bs ++ onto ps s)) (alike_low b (bs ++ onto ps r) (bs ++ onto ps s) (gaps_low b bs (onto ps r) g));
}

kept_none : (l : Left) (ps : List Piece) (r s : List ℕ) → ReadMeeting l ps ps r s → ReadMeeting l (blanks [] ∷ ps) (blanks [] ∷ ps) r s
kept_none l ps r s k = record { reads = ((λ q f. skipped), k.reads); fits = k.fits }

pub kept_meeting : (src : List Piece) (l : Left) (r s : List ℕ) → Reads src r → FitsMeeting (left_of l src) r s → ReadMeeting l src src r s
kept_meeting [] l r s a f = record { reads = tt; fits = f }
kept_meeting (word c w ∷ ps) l r s a f = kept_word l c w ps r s a.0 a.1 (kept_meeting ps (word_left c w) r s a.2 f)
kept_meeting (blanks [] ∷ ps) l r s a f = kept_none l ps r s (kept_meeting ps l r s a.1 f)
kept_meeting (blanks (b ∷ bs) ∷ ps) l r s a f = kept_gap l b bs ps r s a.0 (kept_meeting ps gap_left r s a.1 f)

pub kept_seam : (src : List Piece) → SeamMeeting src src
kept_seam src = record { so = λ l r s a f. kept_meeting src l r s a f }

-- ---- one part after the other

both_read : (l : Left) (src more new new2 : List Piece) (r s : List ℕ) → ReadMeeting l src new (onto more r) (onto new2 s) → ReadsMeeting new2 s → ReadMeeting l (src ++ more) (new ++ new2) r s
both_read l src more new new2 r s k a = record {
  reads = meeting_joined new new2 s k.reads a;
  fits = subst (λ x. FitsMeeting l x (onto (new ++ new2) s)) (sym (onto-append src more r)) (subst (λ x. FitsMeeting l (onto src (onto more r)) x) (sym (onto-append new new2 s)) k.fits);
}

pub two_seams : (src more new new2 : List Piece) → SeamMeeting src new → SeamMeeting more new2 → SeamMeeting (src ++ more) (new ++ new2)
two_seams src more new new2 a b = record {
  so = λ l r s h f.
      let q = b.so (left_of l src) r s (reads_back src more r h) (subst (λ x. FitsMeeting x r s) (left_of-append l src more) f) in
      both_read l src more new new2 r s (a.so l (onto more r) (onto new2 s) (reads_front src more r h) q.fits) q.reads;
}

-- ---- another lifetime

lifetimes_begin : {v w : List ℕ} (r s : List ℕ) → IsWord Lifetime v → IsWord Lifetime w → Alike (v ++ r) (w ++ s)
lifetimes_begin r s (lifetime {w = v} {name = n} i e) (lifetime {w = w} {name = m} j f) =
    subst (λ x. Alike (x ++ r) (w ++ s)) (sym e) (subst (λ x. Alike ((codes "'" ++ n) ++ r) (x ++ s)) (sym f) (alike_low 39 (n ++ r) (m ++ s) (omega arith)))

lifetime_stops : (v w s : List ℕ) → Stops Lifetime v s → Stops Lifetime w s
lifetime_stops v w s (ends e) = ends e
lifetime_stops v w s (joins k i m) = absurd (cc)

pub lifetime_seam : (v w : List ℕ) → IsWord Lifetime w → SeamMeeting (word Lifetime v ∷ []) (word Lifetime w ∷ [])
lifetime_seam v w i = record {
  so = λ l r s a f. record { reads = (i, lifetime_stops v w s (f a.1), tt); fits = meeting_alike l (v ++ r) (w ++ s) (lifetimes_begin r s a.0 i) };
}

-- ---- blanks that go

skips_then : {t q r : List ℕ} → Skips t q → Skips q r → Skips t r
skips_then skipped k = k
skips_then (skip g s) k = skip g (skips_then s k)

line_same : (ps : List Piece) (r s : List ℕ) → (at_line_end r ≡ true → at_line_end s ≡ true) → at_line_end (onto ps r) ≡ true → at_line_end (onto ps s) ≡ true
line_same [] r s f e = f e
line_same (word c [] ∷ ps) r s f e = line_same ps r s f e
line_same (word c (b ∷ bs) ∷ ps) r s f e = e
line_same (blanks [] ∷ ps) r s f e = line_same ps r s f e
line_same (blanks (b ∷ bs) ∷ ps) r s f e = e

-- pieces that have no word are one gap
bare_gaps : (ps : List Piece) (r : List ℕ) → piece_words ps ≡ [] → Reads ps r → (s : List ℕ) → (at_line_end r ≡ true → at_line_end s ≡ true) → Skips (onto ps s) s
bare_gaps [] r b a s f = skipped
bare_gaps (word c w ∷ ps) r b a s f = absurd (cc)
bare_gaps (blanks g ∷ ps) r b a s f = skips_then (a.0 (onto ps s) (line_same ps r s f)) (bare_gaps ps r b a.1 s f)

skip_blank : {c : ℕ} {t r : List ℕ} → Skips (c ∷ t) r → is_blank c ≡ true → length r ≤ length t → Skips t r
skip_blank skipped e l = absurd (omega (arith, l))
skip_blank {c = c} {t = t} {r = r} (skip {q = q} g k) e l = subst (λ x. Skips x r) (gap_one g (blank {c = c} {r = t} e)) k

drop_skips : (g r : List ℕ) → Skips (g ++ r) r → Skips (drop (leading_blanks g) g ++ r) r
drop_skips [] r s = s
drop_skips (c ∷ g) r s = by (is_blank c) refl (λ k. drop_skips g r k) where
  by : (b : Bool) → is_blank c ≡ b → (Skips (g ++ r) r → Skips (drop (leading_blanks g) g ++ r) r) → Skips (drop (if b then suc (leading_blanks g) else 0) (c ∷ g) ++ r) r
  by true e f = f (skip_blank s e (omega (arith, length-append g r)))
  by false e f = s

pub leading_low : (g : List ℕ) → leading_blanks g ≤ length g
leading_low [] = omega arith
leading_low (c ∷ g) = by (is_blank c) (leading_low g) where
  by : (b : Bool) → leading_blanks g ≤ length g → (if b then suc (leading_blanks g) else 0) ≤ length (c ∷ g)
  by true l = omega (arith, l)
  by false l = omega arith

-- in front of what begins with no blank
pub leading_then : (g z : List ℕ) → leading_blanks z ≡ 0 → leading_blanks (g ++ z) ≡ leading_blanks g
leading_then [] z e = e
leading_then (c ∷ g) z e = ap (λ n. if is_blank c then suc n else 0) (leading_then g z e)

-- ---- a lifetime between an ampersand and what it points to goes, with the blanks behind it

-- behind the ampersand, with gaps, which is the only word there
ampersand_fits : (l : Left) (n : ℕ) (a : Tok) → IsAmpersand a → Only l n a → (c : Class) (w r s : List ℕ) → IsWord c w → FitsMeeting l (w ++ r) s
ampersand_fits l n a m (inl g) c w r s i = subst (λ x. FitsMeeting x (w ++ r) s) (sym g) (λ h. absurd (both_ways (at_line_end (w ++ r)) (word_no_line r i) h))
ampersand_fits l n a m (inr g) c w r s i = subst (λ x. FitsMeeting x (w ++ r) s) (sym g.0) (λ h. stops m) where
  stops : IsAmpersand a → Stops a.class a.text s
  stops (inl k) = subst (λ x. Stops x a.text s) (sym k.0) (subst (λ x. Stops Mark x s) (sym k.1) (single_stops s))
  stops (inr k) = subst (λ x. Stops x a.text s) (sym k.0) (subst (λ x. Stops Mark x s) (sym k.1) (ends (double_ends s)))

pub gone_seam : (at : ℕ) (a : Tok) (c d : Class) (w v : List ℕ) (front gap rest new qs : List Piece) → IsAmpersand a → places at front ≡ a ∷ [] → piece_words gap ≡ [] → rest ≡ word d v ∷ qs → SeamMeeting rest new
    → SeamMeeting (front ++ (word c w ∷ (gap ++ rest))) (front ++ (blanks (drop (leading_blanks (flat gap)) (flat gap)) ∷ new))
gone_seam at a c d w v front gap rest new qs m e b f q = record {
  so = λ l r s h x.
      let h1 = reads_front front (word c w ∷ (gap ++ rest)) r h in
      let h2 = reads_back front (word c w ∷ (gap ++ rest)) r h in
      let h3 = reads_front gap rest r h2.2 in
      let h4 = reads_back gap rest r h2.2 in
      let i = subst (λ ps. Reads ps r) f h4 in
      let y = subst (λ z. FitsMeeting z r s) (left_of-append l front (word c w ∷ (gap ++ rest)) ∙ left_of-append (word_left c w) gap rest) x in
      let z = q.so (left_of (word_left c w) gap) r s h4 y in
      let n : at_line_end (onto rest r) ≡ false = ap (λ ps. at_line_end (onto ps r)) f ∙ word_no_line (onto qs r) i.0 in
      let skips : (t : List ℕ) → Skips (drop (leading_blanks (flat gap)) (flat gap) ++ t) t = (λ t. drop_skips (flat gap) t
      (subst (λ u. Skips u t) (onto_is gap t) (bare_gaps gap (onto rest r) b h3 t (λ k. absurd (both_ways (at_line_end (onto rest r)) n k))))) in
      let p = kept_meeting front l (onto (word c w ∷ (gap ++ rest)) r) (onto (blanks (drop (leading_blanks (flat gap)) (flat gap)) ∷ new) s) h1
      (ampersand_fits (left_of l front) (at + length (flat front)) a m (only_left at front a l e) c w (onto (gap ++ rest) r) (onto (blanks (drop (leading_blanks (flat gap)) (flat gap)) ∷ new) s) h2.0) in
      record {
        reads = meeting_joined front (blanks (drop (leading_blanks (flat gap)) (flat gap)) ∷ new) s p.reads ((λ t k. skips t), z.reads);
        fits = subst (λ u. FitsMeeting l u (onto (front ++ (blanks (drop (leading_blanks (flat gap)) (flat gap)) ∷ new)) s)) (sym (onto-append front (word c w ∷ (gap ++ rest)) r))
            (subst (λ u. FitsMeeting l (onto front (onto (word c w ∷ (gap ++ rest)) r)) u) (sym (onto-append front (blanks (drop (leading_blanks (flat gap)) (flat gap)) ∷ new) s)) p.fits);
      };
}
