-- A text that a line feed follows has its tokens before those of the rest: each word ends before a line feed, and so does each comment.
use Rattle.std.proofs.Common.{◌≡◌, ℕ, ◌+◌, true, List, [], ◌∷◌, ◌++◌, length, refl, sym, ap, subst, ◌∙◌, arith, append-nil}
use Rattle.std.specs.Prelude.{⊤, ◌==◌}
use Rattle.std.specs.List.{list_all}
use Rattle.std.proofs.lemmas.Bool.{eqb-true}
use Rattle.rx_lex.specs.declared.token.Class.{Class}
use Rattle.rx_lex.specs.Words.{IsWord}
use Rattle.rx_lex.specs.Tok.{Tok}
use Rattle.rx_lex.specs.Tokens.{Tokens, at_line_end}
use Rattle.rx_lex.specs.Stands.{stands}
use Rattle.rx_lex.proofs.Standing.{stands_at_end, stands_before_blank}
use Rattle.rx_print_spelling.specs.Pieces.{Piece, word, blanks, flat}
use Rattle.rx_print_spelling.proofs.Pieces.{places}
use Rattle.rx_splice_laws.specs.Indent.{is_level, reindented}
use Rattle.rx_splice_laws.specs.RunRead.{ReadAs}
use Rattle.rx_splice_laws.proofs.AsRead.{as_pieces, onto, onto_is, Reads, reads_tokens}
use Rattle.rx_splice_laws.proofs.Seams.{Left, nothing_left, word_left, gap_left, left_of, Fits, kept_read}

-- what is in front is a word, if it is one
abbrev WordLeft : Left → Type 0
WordLeft (word_left c w) = IsWord c w
WordLeft _ = ⊤

word_behind : (ps : List Piece) (l : Left) (r : List ℕ) → WordLeft l → Reads ps r → WordLeft (left_of l ps)
word_behind [] l r i a = i
word_behind (word c w ∷ ps) l r i a = word_behind ps (word_left c w) r a.0 a.2
word_behind (blanks [] ∷ ps) l r i a = word_behind ps l r i a.1
word_behind (blanks (b ∷ bs) ∷ ps) l r i a = word_behind ps gap_left r tt a.1

before_feed : {c : Class} {w : List ℕ} (r : List ℕ) → IsWord c w → at_line_end r ≡ true → stands c w r ≡ true
before_feed [] i e = stands_at_end i
before_feed {c} {w} (d ∷ r) i e = let h : d ≡ 10 = eqb-true d 10 e in subst (λ x. stands c w (x ∷ r) ≡ true) (sym h) (stands_before_blank 10 r i refl)

feed_fits : (l : Left) (r s : List ℕ) → WordLeft l → at_line_end s ≡ true → Fits l r s
feed_fits nothing_left r s i e = tt
feed_fits (word_left c w) r s i e = λ h. before_feed s i e
feed_fits gap_left r s i e = λ h. e

pub goes_on_read : (at : ℕ) (t r : List ℕ) (ts us : List Tok) → Tokens at t ts → at_line_end r ≡ true → Tokens (at + length t) r us → Tokens at (t ++ r) (ts ++ us)
goes_on_read at t r ts us d e f =
    let p = as_pieces d in
    let k = kept_read p.pieces nothing_left [] r p.reads (feed_fits (left_of nothing_left p.pieces) [] r (word_behind p.pieces nothing_left [] tt p.reads) e) in
    subst (λ x. Tokens at x (ts ++ us)) (onto_is p.pieces r ∙ ap (λ x. x ++ r) p.text)
    (subst (λ x. Tokens at (onto p.pieces r) (x ++ us)) p.placed (reads_tokens at p.pieces r us k.reads (subst (λ x. Tokens (at + length x) r us) (sym p.text) f)))
