-- What was read of a text: with tokens of the rest it has these before them, and where the rest gets stuck it does.
use Rattle.std.proofs.Common.{◌≡◌, ℕ, ◌+◌, ◌-◌, ◌≤◌, ◌<◌, false, List, [], ◌∷◌, ◌++◌, length, length-drop, take, drop, refl, sym, ap, subst, ◌∙◌, arith, append_assoc, append-nil, Option, Some, None, Ok, Err, Result}
use Rattle.std.specs.Result.{is_err, OnOk}
use Rattle.std.specs.Prelude.{◌≢◌, MatchOption}
use Rattle.std.specs.Str.{IsUtf8, IsCharBoundary}
use Rattle.std.proofs.lemmas.List.{drop-drop, length-take-le, take_rest, map-append}
use Rattle.std.proofs.lemmas.Str.{IsCharBoundary-from_drop}
use Rattle.rx_lex.specs.declared.token.Class.{Class}
use Rattle.rx_lex.specs.declared.front.Word.{Word}
use Rattle.rx_lex.specs.declared.lexer.LexFault.{LexFault}
use Rattle.rx_lex.specs.declared.lexer.LexFault.TheVariants.{NotText, BadToken, OutOfMemory}
use Rattle.rx_lex.specs.Lexing.{FaultOf}
use Rattle.rx_lex.specs.Tok.{Tok, tok, toks}
use Rattle.rx_lex.specs.declared.token.Token.{Token}
use Rattle.rx_lex.specs.Tokens.{Tokens, none, gap, token, token_at, Stuck, here, after_gap, after_token, Lexes}
use Rattle.rx_lex.specs.FrontWord.{WordOf, NoWord}
use Rattle.rx_lex.specs.Scan.{gap_rest}
use Rattle.rx_lex.proofs.Names.{rest_text}
use Rattle.rx_lex.proofs.LongestWord.{word_utf8}
use Rattle.rx_lex.proofs.TokenLaws.{tokens_or_stuck}
use Rattle.rx_lex.proofs.Gaps.{gap_is, gap_none, gap_shorter, gap_utf8}

pub record Reading (bytes : List ℕ) (at : ℕ) (ts : List Tok) : Type 0 where
  pub within : at ≤ length bytes
  pub text : IsUtf8 (drop at bytes)
  pub tokens : (us : List Tok) → Tokens at (drop at bytes) us → Tokens 0 bytes (ts ++ us)
  pub stuck : (bad : ℕ) → Stuck at (drop at bytes) bad → Stuck 0 bytes bad

pub reading_begins : (bytes : List ℕ) → IsUtf8 bytes → Reading bytes 0 []
reading_begins bytes u = record { within = omega arith; text = u; tokens = λ us d. d; stuck = λ bad s. s }

drop_on : (at n : ℕ) (bytes : List ℕ) → drop n (drop at bytes) ≡ drop (at + n) bytes
drop_on at n bytes = drop-drop n at bytes

lengths : (n : ℕ) (t : List ℕ) → n ≤ length t → length t ≡ n + length (drop n t)
lengths n t h = omega (arith, length-drop n t)

pub reading_gap : (bytes : List ℕ) (at n : ℕ) (ts : List Tok) → n ≤ length (drop at bytes) → gap_rest (drop at bytes) ≡ Some (drop n (drop at bytes))
    → Reading bytes at ts → Reading bytes (at + n) ts
reading_gap bytes at n ts h g r =
    let e = drop_on at n bytes in
    let k = gap_is (drop at bytes) (drop n (drop at bytes)) g in
    let m = lengths n (drop at bytes) h in
    record {
      within = let b = r.within in omega (arith, length-drop at bytes);
      text = subst IsUtf8 e (gap_utf8 k r.text);
      tokens = λ us d. r.tokens us (gap n k m (subst (λ l. Tokens (at + n) l us) (sym e) d));
      stuck = λ bad s. r.stuck bad (after_gap n k m (subst (λ l. Stuck (at + n) l bad) (sym e) s));
    }

pub gap_moves : (t : List ℕ) (n : ℕ) → n ≤ length t → gap_rest t ≡ Some (drop n t) → 0 < n
gap_moves t n h g = omega (arith, gap_shorter (gap_is t (drop n t) g), length-drop n t)

pub reading_word : (bytes : List ℕ) (at n : ℕ) (ts : List Tok) (c : Class) → gap_rest (drop at bytes) ≡ None → WordOf c n (drop at bytes)
    → Reading bytes at ts → Reading bytes (at + n) (ts ++ (token_at at c (take n (drop at bytes)) ∷ []))
reading_word bytes at n ts c g w r =
    let e = drop_on at n bytes in
    let k = gap_none (drop at bytes) g in
    let i : length (take n (drop at bytes)) ≡ n = length-take-le n (drop at bytes) w.within in
    let t = token_at at c (take n (drop at bytes)) in
    record {
      within = let b = r.within in let v = w.within in omega (arith, length-drop at bytes);
      text = subst IsUtf8 e (rest_text n (drop at bytes) w.within r.text (word_utf8 w.longest.front.word));
      tokens = λ us d.
          subst (Tokens 0 bytes) (sym (append_assoc ts (t ∷ []) us))
          (r.tokens (t ∷ us) (token c (take n (drop at bytes)) (drop n (drop at bytes)) k w.longest
          (subst (λ m. Tokens (at + m) (drop n (drop at bytes)) us) (sym i) (subst (λ l. Tokens (at + n) l us) (sym e) d))));
      stuck = λ bad s.
          r.stuck bad (after_token c (take n (drop at bytes)) (drop n (drop at bytes)) k w.longest
          (subst (λ m. Stuck (at + m) (drop n (drop at bytes)) bad) (sym i) (subst (λ l. Stuck (at + n) l bad) (sym e) s)));
    }

past_end : (at : ℕ) (bytes : List ℕ) → length bytes ≤ at → drop at bytes ≡ []
past_end at bytes h = empty (drop at bytes) (omega (arith, length-drop at bytes))
  where
    empty : (l : List ℕ) → length l ≡ 0 → l ≡ []
    empty [] e = refl
    empty (c ∷ cs) e = absurd (omega arith)

pub reading_ends : (bytes : List ℕ) (at : ℕ) (ts : List Tok) → length bytes ≤ at → Reading bytes at ts → Tokens 0 bytes ts
reading_ends bytes at ts h r =
    subst (Tokens 0 bytes) (append-nil ts) (r.tokens [] (subst (λ l. Tokens at l []) (sym (past_end at bytes h)) none))

pub reading_stuck : (bytes : List ℕ) (at : ℕ) (ts : List Tok) → at < length bytes → gap_rest (drop at bytes) ≡ None → NoWord (drop at bytes) → Reading bytes at ts
    → Stuck 0 bytes at
reading_stuck bytes at ts h g w r =
    let k = gap_none (drop at bytes) g in
    r.stuck at (here (not_past at bytes h) k (w k))
  where
    not_past : (at : ℕ) (bytes : List ℕ) → at < length bytes → drop at bytes ≢ []
    not_past at bytes h e = let n : length (drop at bytes) ≡ 0 = ap length e in absurd (omega (arith, length-drop at bytes))

-- ---- words begin and end where characters do

pub word_begins_char : (bytes : List ℕ) (at : ℕ) → at ≤ length bytes → IsUtf8 (drop at bytes) → IsCharBoundary bytes at
word_begins_char bytes at b u = IsCharBoundary-from_drop bytes at b u

pub word_ends_char : (bytes : List ℕ) (at n : ℕ) (c : Class) → at ≤ length bytes → IsUtf8 (drop at bytes) → WordOf c n (drop at bytes) → IsCharBoundary bytes (at + n)
word_ends_char bytes at n c b u w =
    let h = w.within in
    IsCharBoundary-from_drop bytes (at + n) (omega (arith, length-drop at bytes))
    (subst IsUtf8 (drop_on at n bytes) (rest_text n (drop at bytes) h u (word_utf8 w.longest.front.word)))

-- ---- what the scanner answers on the bytes from a place on

-- the rest of the bytes, as a slice of them, is the rest of the text
pub rest_is : (text bytes : List ℕ) (at : ℕ) → bytes ≡ text → take (length bytes - at) (drop at bytes) ≡ drop at text
rest_is text bytes at e = take_rest bytes at ∙ ap (drop at) e

abbrev GapOf : ℕ → List ℕ → Type 0
GapOf n t = (n ≤ length t) × (gap_rest t ≡ Some (drop n t))

pub reads_gap : (text rest : List ℕ) (at n : ℕ) (ts : List Tok) → rest ≡ drop at text → GapOf n rest → Reading text at ts → Reading text (at + n) ts
reads_gap text rest at n ts e g r = let h = subst (GapOf n) e g in reading_gap text at n ts h.0 h.1 r

pub reads_on : (rest : List ℕ) (n : ℕ) → GapOf n rest → 0 < n
reads_on rest n g = gap_moves rest n g.0 g.1

pub reads_word : (text rest : List ℕ) (at n : ℕ) (ts us : List Tok) (t : Tok) (c : Class) → rest ≡ drop at text → gap_rest rest ≡ None → WordOf c n rest
    → t ≡ token_at at c (take n (drop at text)) → us ≡ ts ++ (t ∷ []) → Reading text at ts → Reading text (at + n) us
reads_word text rest at n ts us t c e g w h k r =
    let m = reading_word text at n ts c (ap gap_rest (sym e) ∙ g) (subst (WordOf c n) e w) r in
    subst (Reading text (at + n)) (sym (k ∙ ap (λ x. ts ++ (x ∷ [])) h)) m

pub reads_stuck : (text rest : List ℕ) (at : ℕ) (ts : List Tok) → rest ≡ drop at text → at < length text → gap_rest rest ≡ None → NoWord rest → Reading text at ts
    → Stuck 0 text at
reads_stuck text rest at ts e h g w r = reading_stuck text at ts h (ap gap_rest (sym e) ∙ g) (subst NoWord e w) r

-- what is said of the word that comes first
abbrev pub WordIs : List ℕ → Option Word → Type 0
WordIs t o = MatchOption o (NoWord t) (λ x. WordOf x.class x.length t)

pub word_found : (t u : List ℕ) (o : Option Word) (w : Word) → t ≡ u → o ≡ Some w → WordIs t o → WordOf w.class w.length u
word_found t u o w e f h = subst (WordOf w.class w.length) e (subst (WordIs t) f h)

pub word_none : (t u : List ℕ) (o : Option Word) → t ≡ u → o ≡ None → WordIs t o → NoWord u
word_none t u o e f h = subst NoWord e (subst (WordIs t) f h)

-- ---- bytes with tokens fail for want of memory alone

pub only_memory : (e : LexFault) (bytes : List ℕ) → FaultOf e bytes → (ts : List Tok) → Lexes bytes ts → e ≡ OutOfMemory
only_memory (NotText at) bytes f ts l = absurd (f.0 l.text)
only_memory (BadToken at) bytes f ts l = absurd (tokens_or_stuck 0 at bytes ts l.tokens f.1)
only_memory OutOfMemory bytes f ts l = refl

-- ---- lists of tokens, one token longer

pub on_ok : {T E : Type 0} (r : Result T E) (P : Type 0) → false ≡ is_err r → OnOk r P → P
on_ok (Ok x) P e h = h
on_ok (Err x) P e h = absurd (cc)

pub toks_more : (l k : List Token) (t : Token) → k ≡ l ++ (t ∷ []) → toks k ≡ toks l ++ (tok t ∷ [])
toks_more l k t e = ap toks e ∙ map-append tok l (t ∷ [])
