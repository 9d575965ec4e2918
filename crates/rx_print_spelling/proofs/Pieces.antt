-- Pieces of which each stands before the next are the tokens of their text: by recursion on the pieces.
use Rattle.std.proofs.Common.{◌≡◌, ℕ, ◌+◌, true, List, [], ◌∷◌, ◌++◌, length, refl, sym, ap, subst, ◌∙◌, arith, append_assoc, append-nil}
use Rattle.std.specs.Prelude.{⊤}
use Rattle.std.specs.List.{list_all}
use Rattle.std.specs.Char.{is_ascii}
use Rattle.std.specs.Str.{IsUtf8}
use Rattle.std.proofs.lemmas.Bool.{and_parts}
use Rattle.std.proofs.lemmas.Bool.Decides.{nat_tests}
use Rattle.std.proofs.lemmas.Str.{IsUtf8-nil, IsUtf8-append}
use Rattle.rx_lex.specs.Tok.{Tok}
use Rattle.rx_lex.specs.Words.{IsWord}
use Rattle.rx_lex.specs.Stands.{stands}
use Rattle.rx_lex.specs.Tokens.{Tokens, Lexes, token_at, is_blank}
use Rattle.rx_lex.specs.Tokens as tokens
use Rattle.rx_lex.proofs.FirstBytes.{all_more}
use Rattle.rx_lex.proofs.Names.{ascii_utf8}
use Rattle.rx_lex.proofs.LongestWord.{token_then, blank_then, word_utf8}
use Rattle.rx_print_spelling.specs.Pieces.{Piece, word, blanks, bytes_of, flat}

-- each word is one of its class and ends before what follows it; the blanks are blank
abbrev pub Stand : List Piece → List ℕ → Type 0
Stand [] rest = ⊤
Stand (word c w ∷ ps) rest = IsWord c w × (stands c w (flat ps ++ rest) ≡ true) × Stand ps rest
Stand (blanks b ∷ ps) rest = (list_all is_blank b ≡ true) × Stand ps rest

-- the tokens that the words are, from a place on
abbrev pub places : ℕ → List Piece → List Tok
places at [] = []
places at (word c w ∷ ps) = token_at at c w ∷ places (at + length w) ps
places at (blanks b ∷ ps) = places (at + length b) ps

-- ---- pieces one after the other

pub flat-append : (ps qs : List Piece) → flat (ps ++ qs) ≡ flat ps ++ flat qs
flat-append [] qs = refl
flat-append (p ∷ ps) qs = ap (λ l. bytes_of p ++ l) (flat-append ps qs) ∙ sym (append_assoc (bytes_of p) (flat ps) (flat qs))

pub flat_then : (ps qs : List Piece) (rest : List ℕ) → flat (ps ++ qs) ++ rest ≡ flat ps ++ (flat qs ++ rest)
flat_then ps qs rest = ap (λ l. l ++ rest) (flat-append ps qs) ∙ append_assoc (flat ps) (flat qs) rest

pub stand-append : (ps qs : List Piece) (rest : List ℕ) → Stand ps (flat qs ++ rest) → Stand qs rest → Stand (ps ++ qs) rest
stand-append [] qs rest a b = b
stand-append (word c w ∷ ps) qs rest a b = (a.0, ap (stands c w) (flat_then ps qs rest) ∙ a.1, stand-append ps qs rest a.2 b)
stand-append (blanks v ∷ ps) qs rest a b = (a.0, stand-append ps qs rest a.1 b)

-- where the pieces end
abbrev pub past : ℕ → List Piece → ℕ
past at [] = at
past at (p ∷ ps) = past (at + length (bytes_of p)) ps

pub places-append : (at : ℕ) (ps qs : List Piece) → places at (ps ++ qs) ≡ places at ps ++ places (past at ps) qs
places-append at [] qs = refl
places-append at (word c w ∷ ps) qs = ap (λ l. token_at at c w ∷ l) (places-append (at + length w) ps qs)
places-append at (blanks b ∷ ps) qs = places-append (at + length b) ps qs

-- ---- the tokens of the text

blanks_then : (b : List ℕ) (at : ℕ) {r : List ℕ} {ts : List Tok} → list_all is_blank b ≡ true → Tokens (at + length b) r ts → Tokens at (b ++ r) ts
blanks_then [] at {r} {ts} e d = subst (λ n. Tokens n r ts) (omega arith) d
blanks_then (c ∷ b) at {r} {ts} e d =
    let p = and_parts (is_blank c) (list_all is_blank b) e in
    blank_then c p.0 (blanks_then b (at + 1) p.1 (subst (λ n. Tokens n r ts) (omega arith) d))

pub stand_tokens : (at : ℕ) (ps : List Piece) → Stand ps [] → Tokens at (flat ps) (places at ps)
stand_tokens at [] s = tokens.none
stand_tokens at (word c w ∷ ps) s = token_then c w s.0 (ap (stands c w) (sym (append-nil (flat ps))) ∙ s.1) (stand_tokens (at + length w) ps s.2)
stand_tokens at (blanks b ∷ ps) s = blanks_then b at s.0 (stand_tokens (at + length b) ps s.1)

-- ---- the whole is a text

blank_ascii : (c : ℕ) → is_blank c ≡ true → is_ascii c ≡ true
blank_ascii c e = grind (arith, nat_tests)

text_pieces : (ps : List Piece) (rest : List ℕ) → Stand ps rest → IsUtf8 (flat ps)
text_pieces [] rest s = IsUtf8-nil
text_pieces (word c w ∷ ps) rest s = IsUtf8-append w (flat ps) (word_utf8 s.0) (text_pieces ps rest s.2)
text_pieces (blanks b ∷ ps) rest s = IsUtf8-append b (flat ps) (ascii_utf8 b (all_more is_blank is_ascii blank_ascii b s.0)) (text_pieces ps rest s.1)

pub stand_lexes : (ps : List Piece) → Stand ps [] → Lexes (flat ps) (places 0 ps)
stand_lexes ps s = record {
  text = text_pieces ps [] s;
  tokens = stand_tokens 0 ps s;
}
