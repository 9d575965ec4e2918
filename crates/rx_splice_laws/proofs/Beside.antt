-- What may be written beside what: in each edit each word ends before what follows it, and so does the word in front of the edit.
use Rattle.std.proofs.Common.{◌≡◌, ℕ, ◌+◌, Bool, true, false, List, [], ◌∷◌, ◌++◌, codes, length, refl, sym, ap, subst, ◌∙◌, inl, inr}
use Rattle.std.specs.Prelude.{⊤, not, ◌&&◌, ◌||◌, ◌==◌}
use Rattle.std.proofs.lemmas.Bool.{and_from, and_right, not_from_false, or_cases, both_ways, false≢true}
use Rattle.rx_core.specs.Bytes.{same_bytes, is_one_of}
use Rattle.rx_lex.specs.declared.token.Class.{Class}
use Rattle.rx_lex.specs.declared.token.Class.TheVariants.{Identifier, Keyword, Lifetime, Number, Format, Mark}
use Rattle.rx_lex.specs.Words as words
use Rattle.rx_lex.specs.Words.{IsWord, marks, goes_on, begins_with_star}
use Rattle.rx_lex.specs.Tok.{Tok}
use Rattle.rx_lex.specs.Tokens.{AreWords}
use Rattle.rx_lex.specs.Stands.{stands, stands_alone}
use Rattle.rx_lex.proofs.FirstBytes.{first, one_of_all}
use Rattle.rx_lex.proofs.Names.{opens}
use Rattle.rx_lex.proofs.Standing.{is_apart, mark_before, mark_before_word}
use Rattle.rx_print_spelling.specs.Pieces.{Piece, word, blanks, mark, flat}
use Rattle.rx_splice_laws.proofs.AsRead.{onto, Reads}
use Rattle.rx_splice_laws.proofs.Seams.{Left, nothing_left, word_left, gap_left}

-- ---- any word before a byte that goes on no name and makes no mark longer

pub stands_before : {c : Class} {w : List ℕ} (d : ℕ) (r : List ℕ) → is_apart d ≡ true → goes_on (d ∷ r) ≡ false → IsWord c w → stands c w (d ∷ r) ≡ true
stands_before d r a g (words.identifier i) = not_from_false (goes_on (d ∷ r)) g
stands_before d r a g (words.keyword i) = not_from_false (goes_on (d ∷ r)) g
stands_before d r a g (words.lifetime i b) = not_from_false (goes_on (d ∷ r)) g
stands_before d r a g (words.number i b) = not_from_false (goes_on (d ∷ r)) g
stands_before d r a g (words.format i) = refl
stands_before d r a g (words.mark {w = w} i) = mark_before w d r i a (and_right (same_bytes w (codes "_")) (goes_on (d ∷ r)) g)

-- ---- what stands directly behind tokens

abbrev pub left_at : List Tok → Left
left_at [] = nothing_left
left_at (t ∷ []) = word_left t.class t.text
left_at (t ∷ u ∷ us) = left_at (u ∷ us)

abbrev pub Before : Left → List ℕ → Type 0
Before (word_left c w) r = stands c w r ≡ true
Before _ r = ⊤

pub left_at_last : (ts : List Tok) (t : Tok) → left_at (ts ++ t ∷ []) ≡ word_left t.class t.text
left_at_last [] t = refl
left_at_last (u ∷ []) t = refl
left_at_last (u ∷ v ∷ ts) t = left_at_last (v ∷ ts) t

-- ---- words that are runs of characters of names, as names, keywords and numbers are, and lifetimes end in one

abbrev pub runs_class : Class → Bool
runs_class Identifier = true
runs_class Keyword = true
runs_class Number = true
runs_class _ = false

abbrev pub ends_class : Class → Bool
ends_class Lifetime = true
ends_class c = runs_class c

abbrev pub begins_run : List Tok → Bool
begins_run [] = false
begins_run (t ∷ ts) = runs_class t.class

abbrev pub ends_run : List Tok → Bool
ends_run [] = false
ends_run (t ∷ []) = ends_class t.class
ends_run (t ∷ u ∷ us) = ends_run (u ∷ us)

-- ---- in place of tokens

-- whether the first word begins with `*`
abbrev pub starred : List Piece → Bool
starred (word Mark w ∷ ps) = begins_with_star w
starred _ = false

-- a mark before them: not `_`, and no `/` before `*`
abbrev pub Front : List Piece → Type 0
Front ps = (w r : List ℕ) → is_one_of w marks ≡ true → same_bytes w (codes "_") ≡ false → (starred ps ≡ true → same_bytes w (codes "/") ≡ false) → stands_alone w (onto ps r) ≡ true

pub record InPlace (ts : List Tok) (ps : List Piece) : Type 0 where
  pub reads : AreWords ts → (r : List ℕ) → goes_on r ≡ false → Reads ps r
  pub front : AreWords ts → Front ps
  pub begins : begins_run ts ≡ true
  pub ends : ends_run ts ≡ true

pub front_word : (c : Class) (x : List ℕ) (ps : List Piece) → opens (first x) ≡ true → Front (word c x ∷ ps)
front_word c [] ps o w r i n s = absurd (both_ways (opens 0) refl o)
front_word c (d ∷ x) ps o w r i n s = mark_before_word w d (x ++ onto ps r) i n o

pub front_parenthesis : (ps : List Piece) → Front (mark (codes "(") ∷ ps)
front_parenthesis ps w r i n s = mark_before w 40 (onto ps r) i refl (and_right (same_bytes w (codes "_")) (goes_on (40 ∷ onto ps r)) refl)

pub front_star : (ps : List Piece) → Front (mark (codes "*") ∷ ps)
front_star ps w r i n s =
    elim (or_cases (same_bytes w (codes "/")) (stands_alone w (42 ∷ onto ps r)) (one_of_all (λ v. same_bytes v (codes "/") || stands_alone v (42 ∷ onto ps r)) w marks refl i)) [
      | inl h ↦ absurd (both_ways (same_bytes w (codes "/")) (s refl) h)
      | inr h ↦ h
    ]

-- ---- directly behind tokens, before anything

pub record Closing (ps : List Piece) : Type 0 where
  pub reads : (r : List ℕ) → Reads ps r
  pub closes : {c : Class} {w : List ℕ} (r : List ℕ) → IsWord c w → stands c w (onto ps r) ≡ true

-- ---- directly before the second of two tokens: where nothing stands between them, the first ends before it

pub record Opening (t u : Tok) (ps : List Piece) : Type 0 where
  pub reads : (r : List ℕ) → Reads ps r
  pub apart : u.span.start ≡ t.span.start + length t.text → (r : List ℕ) → stands t.class t.text (onto ps r) ≡ true

-- ---- directly behind tokens that z follows, which goes on no name

pub record Next (ts : List Tok) (z : Tok) (ps : List Piece) : Type 0 where
  pub reads : (r : List ℕ) → goes_on r ≡ false → Reads ps r
  pub before : (r : List ℕ) → goes_on (z.text ++ r) ≡ false
  pub behind : (r : List ℕ) → Before (left_at ts) (onto ps r)
