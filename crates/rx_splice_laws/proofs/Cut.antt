-- A text as pieces, cut where its tokens are.
use Rattle.std.proofs.Common.{◌≡◌, ℕ, ◌+◌, List, [], ◌∷◌, ◌++◌, length, length-append, refl, sym, ap, subst, ◌∙◌, arith}
use Rattle.std.specs.Prelude.{◌≢◌}
use Rattle.rx_lex.specs.declared.token.Class.{Class}
use Rattle.rx_lex.specs.Tok.{Tok}
use Rattle.rx_lex.specs.Tokens.{token_at}
use Rattle.rx_parse_grammar.specs.grammar.Words.{span_of}
use Rattle.rx_print_spelling.specs.Pieces.{Piece, word, blanks, bytes_of, flat}
use Rattle.rx_print_spelling.proofs.Pieces.{places}
use Rattle.rx_parse_laws.specs.Words.{words}
use Rattle.rx_splice_laws.specs.SplicedRun.{piece_words}
use Rattle.rx_splice_laws.proofs.Seams.{Left, word_left, gap_left, left_of}
use Rattle.rx_splice_laws.proofs.Beside.{left_at}

pub words_placed : (at : ℕ) (ps : List Piece) → words (places at ps) ≡ piece_words ps
words_placed at [] = refl
words_placed at (word c w ∷ ps) = ap (λ l. (c, w) ∷ l) (words_placed (at + length w) ps)
words_placed at (blanks b ∷ ps) = words_placed (at + length b) ps

pub words_joined : (ps qs : List Piece) → piece_words (ps ++ qs) ≡ piece_words ps ++ piece_words qs
words_joined [] qs = refl
words_joined (word c w ∷ ps) qs = ap (λ l. (c, w) ∷ l) (words_joined ps qs)
words_joined (blanks b ∷ ps) qs = words_joined ps qs

pub words-append : (ts us : List Tok) → words (ts ++ us) ≡ words ts ++ words us
words-append [] us = refl
words-append (t ∷ ts) us = ap (λ l. (t.class, t.text) ∷ l) (words-append ts us)

-- ---- between the parts of the tokens

pub record Split (at : ℕ) (src : List Piece) (us ws : List Tok) : Type 0 where
  pub front : List Piece
  pub back : List Piece
  pub is : src ≡ front ++ back
  pub first : places at front ≡ us
  pub second : places (at + length (flat front)) back ≡ ws

split_more : {at : ℕ} {src : List Piece} {us ws : List Tok} (p : Piece) (k : ℕ) → k ≡ at + length (bytes_of p) → (t : List Tok) → ((qs : List Piece) → places at (p ∷ qs) ≡ t ++ places k qs)
    → Split k src us ws → Split at (p ∷ src) (t ++ us) ws
split_more {at} p k e t f s = record {
  front = p ∷ s.front;
  back = s.back;
  is = ap (λ l. p ∷ l) s.is;
  first = f s.front ∙ ap (λ l. t ++ l) s.first;
  second = ap (λ n. places n s.back) (let h : at + length (bytes_of p ++ flat s.front) ≡ k + length (flat s.front) = omega (arith, e, length-append (bytes_of p) (flat s.front)) in h) ∙ s.second;
}

pub split : (at : ℕ) (src : List Piece) (us ws : List Tok) → places at src ≡ us ++ ws → Split at src us ws
split at src [] ws e = record { front = []; back = src; is = refl; first = refl; second = ap (λ n. places n src) (let h : at + 0 ≡ at = omega arith in h) ∙ e }
split at [] (u ∷ us) ws e = absurd (cc)
split at (blanks b ∷ src) (u ∷ us) ws e = split_more (blanks b) (at + length b) refl [] (λ qs. refl) (split (at + length b) src (u ∷ us) ws e)
split at (word c w ∷ src) (u ∷ us) ws e =
    let h : token_at at c w ≡ u = cc in
    let k : places (at + length w) src ≡ us ++ ws = cc in
    subst (λ t. Split at (word c w ∷ src) (t ∷ us) ws) h (split_more (word c w) (at + length w) refl (token_at at c w ∷ []) (λ qs. refl) (split (at + length w) src us ws k))

-- ---- before the first token

pub bare_places : (ps : List Piece) → piece_words ps ≡ [] → (k : ℕ) → places k ps ≡ []
bare_places [] b k = refl
bare_places (word c w ∷ ps) b k = absurd (cc)
bare_places (blanks x ∷ ps) b k = bare_places ps b (k + length x)

pub record Lead (at : ℕ) (src : List Piece) (t : Tok) (ts : List Tok) : Type 0 where
  pub gap : List Piece
  pub rest : List Piece
  pub is : src ≡ gap ++ rest
  pub bare : piece_words gap ≡ []
  pub start : t.span.start ≡ at + length (flat gap)
  pub placed : places t.span.start rest ≡ t ∷ ts
  -- the rest begins with the token's word
  pub word_first : (qs : List Piece) × (rest ≡ word t.class t.text ∷ qs)

pub lead : (at : ℕ) (src : List Piece) (t : Tok) (ts : List Tok) → places at src ≡ t ∷ ts → Lead at src t ts
lead at [] t ts e = absurd (cc)
lead at (blanks b ∷ src) t ts e =
    let l = lead (at + length b) src t ts e in
    record { gap = blanks b ∷ l.gap; rest = l.rest; is = ap (λ x. blanks b ∷ x) l.is; bare = l.bare; start = omega (arith, l.start, length-append b (flat l.gap)); placed = l.placed; word_first = l.word_first }
lead at (word c w ∷ src) t ts e =
    let h : token_at at c w ≡ t = cc in
    let s : at ≡ t.span.start = ap (λ (x : Tok). x.span.start) h in
    record { gap = []; rest = word c w ∷ src; is = refl; bare = refl; start = omega (arith, s); placed = ap (λ n. places n (word c w ∷ src)) (sym s) ∙ e; word_first = (src, ap (λ (x : Tok). word x.class x.text ∷ src) h) }

-- ---- behind the last token

pub record Trail (at : ℕ) (src : List Piece) (ts : List Tok) : Type 0 where
  pub front : List Piece
  pub gap : List Piece
  pub is : src ≡ front ++ gap
  pub placed : places at front ≡ ts
  pub bare : piece_words gap ≡ []
  pub end : (span_of ts).end ≡ at + length (flat front)
  -- they end with the last token's word
  pub word_last : (l : Left) → left_of l front ≡ left_at ts
  -- a word in front stays there
  pub word_first : (c : Class) (w : List ℕ) (qs : List Piece) → src ≡ word c w ∷ qs → (rs : List Piece) × (front ≡ word c w ∷ rs)

behind_blanks : (b : List ℕ) (ps : List Piece) (m : Left) → ((l : Left) → left_of l ps ≡ m) → (l : Left) → left_of l (blanks b ∷ ps) ≡ m
behind_blanks [] ps m f l = f l
behind_blanks (x ∷ b) ps m f l = f gap_left

bare_words : (at : ℕ) (ps : List Piece) → places at ps ≡ [] → piece_words ps ≡ []
bare_words at ps e = sym (words_placed at ps) ∙ ap words e

pub trail : (at : ℕ) (src : List Piece) (ts : List Tok) → places at src ≡ ts → ts ≢ [] → Trail at src ts
trail at [] ts e n = absurd (n (sym e))
trail at (blanks b ∷ src) ts e n =
    let l = trail (at + length b) src ts e n in
    record { front = blanks b ∷ l.front; gap = l.gap; is = ap (λ x. blanks b ∷ x) l.is; placed = l.placed; bare = l.bare; end = omega (arith, l.end, length-append b (flat l.front)); word_last = behind_blanks b l.front (left_at ts) l.word_last; word_first = λ c w qs i. absurd (cc) }
trail at (word c w ∷ src) ts e n = by (places (at + length w) src) refl (λ u us k. trail (at + length w) src (u ∷ us) k (λ z. absurd (cc)))
  where
    last : (us : List Tok) → places (at + length w) src ≡ us → us ≡ [] → Trail at (word c w ∷ src) (token_at at c w ∷ us)
    last us k h = record {
      front = word c w ∷ [];
      gap = src;
      is = refl;
      placed = ap (λ l. token_at at c w ∷ l) (sym h);
      bare = bare_words (at + length w) src (k ∙ h);
      end = ap (λ l. (span_of (token_at at c w ∷ l)).end) h ∙ (let q : at + length w ≡ at + length (w ++ []) = omega (arith, length-append w []) in q);
      word_last = λ l. ap (λ x. left_at (token_at at c w ∷ x)) (sym h);
      word_first = λ d v qs i. ([], ap (λ p. p ∷ []) (let j : word c w ≡ word d v = cc in j));
    }

    more : (u : Tok) (us : List Tok) → Trail (at + length w) src (u ∷ us) → Trail at (word c w ∷ src) (token_at at c w ∷ u ∷ us)
    more u us l = record {
      front = word c w ∷ l.front;
      gap = l.gap;
      is = ap (λ x. word c w ∷ x) l.is;
      placed = ap (λ x. token_at at c w ∷ x) l.placed;
      bare = l.bare;
      end = omega (arith, l.end, length-append w (flat l.front));
      word_last = λ m. l.word_last (word_left c w);
      word_first = λ d v qs i. (l.front, ap (λ p. p ∷ l.front) (let j : word c w ≡ word d v = cc in j));
    }

    by : (us : List Tok) → places (at + length w) src ≡ us → ((u : Tok) (vs : List Tok) → places (at + length w) src ≡ u ∷ vs → Trail (at + length w) src (u ∷ vs)) → Trail at (word c w ∷ src) ts
    by [] k f = subst (λ l. Trail at (word c w ∷ src) l) (ap (λ l. token_at at c w ∷ l) (sym k) ∙ e) (last [] k refl)
    by (u ∷ us) k f = subst (λ l. Trail at (word c w ∷ src) l) (ap (λ l. token_at at c w ∷ l) (sym k) ∙ e) (more u us (f u us k))
