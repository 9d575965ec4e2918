-- What stands directly behind pieces, and what they begin with.
use Rattle.std.proofs.Common.{◌≡◌, ◌⊎◌, inl, inr, ℕ, ◌+◌, true, false, List, [], ◌∷◌, ◌++◌, codes, length, refl, sym, ap, subst, ◌∙◌}
use Rattle.rx_lex.specs.declared.token.Class.{Class}
use Rattle.rx_lex.specs.declared.token.Class.TheVariants.{Mark}
use Rattle.rx_lex.specs.Stands.{stands}
use Rattle.rx_lex.specs.Tok.{Tok}
use Rattle.rx_lex.specs.Tokens.{token_at}
use Rattle.rx_print_spelling.specs.Pieces.{Piece, word, blanks, flat}
use Rattle.rx_print_spelling.proofs.Pieces.{places}
use Rattle.rx_splice_laws.specs.SplicedRun.{piece_words}
use Rattle.rx_splice_laws.proofs.AsRead.{onto, Reads}
use Rattle.rx_splice_laws.proofs.Seams.{Left, nothing_left, word_left, gap_left, left_of, Fits}
use Rattle.rx_splice_laws.proofs.Put.{bare_left}
use Rattle.rx_compact_read.proofs.Meeting.{Stops, ends, joins, meets, empty_word, gaps_quiet}
use Rattle.rx_compact_read.proofs.SignatureSeams.{FitsMeeting}

-- a gap, or this word
abbrev pub Last : Left → Tok → Type 0
Last l n = (l ≡ gap_left) ⊎ (l ≡ word_left n.class n.text)

behind_last : (at : ℕ) (ps : List Piece) (c : Class) (w : List ℕ) (n : Tok) → token_at at c w ≡ n → places (at + length w) ps ≡ [] → Last (left_of (word_left c w) ps) n
behind_last at ps c w n h k = by (bare_left (at + length w) ps (word_left c w) k) where
  by : (left_of (word_left c w) ps ≡ gap_left) ⊎ ((left_of (word_left c w) ps ≡ word_left c w) × (length (flat ps) ≡ 0)) → Last (left_of (word_left c w) ps) n
  by (inl g) = inl g
  by (inr g) = inr (g.0 ∙ ap (λ (x : Tok). word_left x.class x.text) h)

pub last_left : (at : ℕ) (ps : List Piece) (us : List Tok) (n : Tok) (l : Left) → places at ps ≡ us ++ n ∷ [] → Last (left_of l ps) n
last_left at [] [] n l e = absurd (cc)
last_left at [] (u ∷ us) n l e = absurd (cc)
last_left at (blanks [] ∷ ps) us n l e = last_left (at + 0) ps us n l e
last_left at (blanks (b ∷ bs) ∷ ps) us n l e = last_left (at + length (b ∷ bs)) ps us n gap_left e
last_left at (word c w ∷ ps) [] n l e = let h : token_at at c w ≡ n = cc in let k : places (at + length w) ps ≡ [] = cc in behind_last at ps c w n h k
last_left at (word c w ∷ ps) (u ∷ us) n l e = let k : places (at + length w) ps ≡ us ++ n ∷ [] = cc in last_left (at + length w) ps us n (word_left c w) k

-- where there is a word, what stands in front doesn't count
pub left_same : (at : ℕ) (ps : List Piece) (t : Tok) (ts : List Tok) → places at ps ≡ t ∷ ts → (l k : Left) → left_of l ps ≡ left_of k ps
left_same at [] t ts e l k = absurd (cc)
left_same at (word c w ∷ ps) t ts e l k = refl
left_same at (blanks [] ∷ ps) t ts e l k = left_same (at + 0) ps t ts e l k
left_same at (blanks (b ∷ bs) ∷ ps) t ts e l k = refl

pub stops_ends : {c : Class} {w r : List ℕ} → (c ≡ Mark → w ≡ codes "&" → ⊥) → Stops c w r → stands c w r ≡ true
stops_ends n (ends e) = e
stops_ends n (joins k i m) = absurd (n k i)

-- behind a word that is no `&`
pub last_fits : (l : Left) (n : Tok) (r s : List ℕ) → Last l n → (n.class ≡ Mark → n.text ≡ codes "&" → ⊥) → FitsMeeting l r s → Fits l r s
last_fits l n r s (inl e) q f = subst (λ x. Fits x r s) (sym e) (subst (λ x. FitsMeeting x r s) e f)
last_fits l n r s (inr e) q f = subst (λ x. Fits x r s) (sym e) (λ h. stops_ends q (subst (λ x. FitsMeeting x r s) e f h))

pub fits_more : (l : Left) (r s : List ℕ) → Fits l r s → FitsMeeting l r s
fits_more nothing_left r s f = tt
fits_more (word_left c w) r s f = λ e. ends (f e)
fits_more gap_left r s f = f

pub fits_end : (l : Left) → Fits l [] []
fits_end nothing_left = tt
fits_end (word_left c w) = λ e. e
fits_end gap_left = λ e. e

heads : (p q : Class × List ℕ) (ps qs : List (Class × List ℕ)) → p ∷ ps ≡ q ∷ qs → p ≡ q
heads p q ps qs e = cc

-- pieces whose first word is no `&`
pub no_meeting : (ps : List Piece) (r : List ℕ) (c : Class) (w : List ℕ) (ws : List (Class × List ℕ)) → Reads ps r → piece_words ps ≡ (c, w) ∷ ws → meets w ≡ false → meets (onto ps r) ≡ false
no_meeting [] r c w ws a e m = absurd (cc)
no_meeting (word d v ∷ ps) r c w ws a e m =
    let h : v ≡ w = ap (λ (p : Class × List ℕ). p.1) (heads (d, v) (c, w) (piece_words ps) ws e) in empty_word (onto ps r) a.0 ∙ ap meets h ∙ m
no_meeting (blanks [] ∷ ps) r c w ws a e m = no_meeting ps r c w ws a.1 e m
no_meeting (blanks (b ∷ bs) ∷ ps) r c w ws a e m = gaps_quiet b bs (onto ps r) a.0
