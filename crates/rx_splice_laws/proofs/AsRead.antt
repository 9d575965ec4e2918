-- Pieces of any text: words, and blanks and comments. Each text with tokens is such pieces, and such pieces have their words as tokens.
use Rattle.std.proofs.Common.{◌≡◌, ℕ, ◌+◌, ◌-◌, ◌<◌, true, false, List, [], ◌∷◌, ◌++◌, codes, length, length-append, refl, sym, ap, subst, ◌∙◌, arith, append_assoc, append-nil, inl, inr}
use Rattle.std.specs.Prelude.{⊤, not, ◌&&◌, ◌==◌}
use Rattle.std.specs.List.{list_all}
use Rattle.std.proofs.lemmas.Bool.{and_parts, and_from, not_from_false, not-true, false_from_ne_true, cases_Bool, eqb-true, and_right}
use Rattle.rx_core.specs.Bytes.{same_bytes, is_one_of}
use Rattle.rx_core.proofs.BytesLemmas.{same_bytes-true}
use Rattle.rx_lex.specs.declared.token.Class.{Class}
use Rattle.rx_lex.specs.declared.token.Class.TheVariants.{Identifier, Keyword, Lifetime, Number, Format, Mark}
use Rattle.rx_lex.specs.Words as words
use Rattle.rx_lex.specs.Words.{IsWord, marks, goes_on, begins_with_star, may_follow}
use Rattle.rx_lex.specs.Tok.{Tok}
use Rattle.rx_lex.specs.Tokens.{Gap, blank, line_comment, block_comment, Balanced, nothing, plain, nested, slashes, opening, closing, begins_pair, is_blank, at_line_end, Longest, Tokens, none, gap, token, token_at}
use Rattle.rx_lex.specs.Scan.{line_rest}
use Rattle.rx_lex.specs.Stands.{stands, stands_alone, makes_longer, makes_comment}
use Rattle.rx_lex.proofs.Gaps.{gap_is, gap_shorter}
use Rattle.rx_lex.proofs.LongestWord.{token_then, mark_not_empty}
use Rattle.rx_print_spelling.specs.Pieces.{Piece, word, blanks, bytes_of, flat}
use Rattle.rx_print_spelling.proofs.Pieces.{places, Stand}

-- ---- blanks and comments, one behind the other

pub data Skips : List ℕ → List ℕ → Type 0 where
  skipped : {r : List ℕ} → Skips r r
  skip : {t q r : List ℕ} → Gap t q → Skips q r → Skips t r

-- b is blanks and comments before r, and before what else follows: where a line ends at r, there one ends too
abbrev pub Gaps : List ℕ → List ℕ → Type 0
Gaps b r = (s : List ℕ) → (at_line_end r ≡ true → at_line_end s ≡ true) → Skips (b ++ s) s

skips_shorter : {t r : List ℕ} → Skips t r → length r < length t + 1
skips_shorter skipped = omega arith
skips_shorter (skip g k) = let h = gap_shorter g in let l = skips_shorter k in omega (arith, h, l)

pub skips_then : {t r : List ℕ} → Skips t r → (at n : ℕ) (ts : List Tok) → length t ≡ n + length r → Tokens (at + n) r ts → Tokens at t ts
skips_then (skipped {r = r}) at n ts e d = subst (λ k. Tokens k r ts) (omega (arith, e)) d
skips_then (skip {t = t} {q = q} {r = r} g k) at n ts e d =
    let h = gap_shorter g in
    let l = skips_shorter k in
    gap (length t - length q) g (omega (arith, h))
    (skips_then k (at + (length t - length q)) (length q - length r) ts (omega (arith, l)) (subst (λ m. Tokens m r ts) (omega (arith, h, l, e)) d))

-- the text of pieces and what follows
abbrev pub onto : List Piece → List ℕ → List ℕ
onto [] r = r
onto (p ∷ ps) r = bytes_of p ++ onto ps r

pub onto_is : (ps : List Piece) (r : List ℕ) → onto ps r ≡ flat ps ++ r
onto_is [] r = refl
onto_is (p ∷ ps) r = ap (λ x. bytes_of p ++ x) (onto_is ps r) ∙ sym (append_assoc (bytes_of p) (flat ps) r)

pub onto-append : (ps qs : List Piece) (r : List ℕ) → onto (ps ++ qs) r ≡ onto ps (onto qs r)
onto-append [] qs r = refl
onto-append (p ∷ ps) qs r = ap (λ x. bytes_of p ++ x) (onto-append ps qs r)

-- before this, each word ends before what follows it; what is between words is blanks and comments
abbrev pub Reads : List Piece → List ℕ → Type 0
Reads [] r = ⊤
Reads (word c w ∷ ps) r = IsWord c w × (stands c w (onto ps r) ≡ true) × Reads ps r
Reads (blanks b ∷ ps) r = Gaps b (onto ps r) × Reads ps r

pub reads_tokens : (at : ℕ) (ps : List Piece) (r : List ℕ) (ts : List Tok) → Reads ps r → Tokens (at + length (flat ps)) r ts → Tokens at (onto ps r) (places at ps ++ ts)
reads_tokens at [] r ts s d = subst (λ k. Tokens k r ts) (omega arith) d
reads_tokens at (word c w ∷ ps) r ts s d =
    token_then c w s.0 s.1 (reads_tokens (at + length w) ps r ts s.2 (subst (λ k. Tokens k r ts) (omega (arith, length-append w (flat ps))) d))
reads_tokens at (blanks b ∷ ps) r ts s d =
    skips_then (s.0 (onto ps r) (λ e. e)) at (length b) (places (at + length b) ps ++ ts) (length-append b (onto ps r))
    (reads_tokens (at + length b) ps r ts s.1 (subst (λ k. Tokens k r ts) (omega (arith, length-append b (flat ps))) d))

-- ---- pieces that stand

blanks_skip : (b : List ℕ) → list_all is_blank b ≡ true → (s : List ℕ) → Skips (b ++ s) s
blanks_skip [] e s = skipped
blanks_skip (c ∷ b) e s = let p = and_parts (is_blank c) (list_all is_blank b) e in skip (blank p.0) (blanks_skip b p.1 s)

pub stand_reads : (ps : List Piece) (r : List ℕ) → Stand ps r → Reads ps r
stand_reads [] r s = tt
stand_reads (word c w ∷ ps) r s = (s.0, ap (stands c w) (onto_is ps r) ∙ s.1, stand_reads ps r s.2)
stand_reads (blanks b ∷ ps) r s = ((λ q f. blanks_skip b s.0 q), stand_reads ps r s.1)

-- ---- a token stands before its rest

no_single : (w : List ℕ) (c a : ℕ) → (w ≡ [] → ⊥) → same_bytes (w ++ c ∷ []) (a ∷ []) ≡ false
no_single [] c a n = absurd (n refl)
no_single (b ∷ []) c a n = and_right (b == a) false refl
no_single (b ∷ d ∷ w) c a n = and_right (b == a) false refl

longer_follows : (w : List ℕ) (c : ℕ) (r : List ℕ) → (w ≡ [] → ⊥) → may_follow Mark (w ++ c ∷ []) r ≡ true
longer_follows w c r n = rw (no_single w c 95 n, no_single w c 47 n) refl

not_longer : (w r t : List ℕ) → is_one_of w marks ≡ true → Longest Mark w r t → makes_longer w r ≡ false
not_longer w [] t i l = refl
not_longer w (c ∷ cs) t i l = false_from_ne_true (is_one_of (w ++ c ∷ []) marks) (λ h.
    let k = l.longest Mark (w ++ c ∷ []) cs (record { word = words.mark h; follows = longer_follows w c cs (mark_not_empty i); is = l.front.is ∙ sym (append_assoc w (c ∷ []) cs) }) in
    absurd (omega (arith, k, length-append w (c ∷ []))))

no_comment : (w r t : List ℕ) → ((q : List ℕ) → Gap t q → ⊥) → t ≡ w ++ r → not (same_bytes w (codes "/") && begins_with_star r) ≡ true
    → not (same_bytes w (codes "/") && makes_comment r) ≡ true
no_comment w [] t g e f = f
no_comment w (c ∷ r) t g e f = elim (cases_Bool (same_bytes w (codes "/"))) [
  | inr h ↦ ap (λ b. not (b && makes_comment (c ∷ r))) h
  | inl h ↦ let s : w ≡ codes "/" = same_bytes-true w (codes "/") h in
      let a : (c == 42) ≡ false = not-true (c == 42) (subst (λ b. not (b && (c == 42)) ≡ true) h f) in
      let b : (c == 47) ≡ false = false_from_ne_true (c == 47) (λ k.
      let m : c ≡ 47 = eqb-true c 47 k in
      let z : t ≡ 47 ∷ 47 ∷ r = e ∙ ap (λ l. l ++ (c ∷ r)) s ∙ ap (λ x. 47 ∷ x ∷ r) m in
      g (line_rest r) (subst (λ x. Gap x (line_rest r)) (sym z) (gap_is (47 ∷ 47 ∷ r) (line_rest r) refl))) in
      rw (h, a, b) refl
]

alone : (w r t : List ℕ) → is_one_of w marks ≡ true → ((q : List ℕ) → Gap t q → ⊥) → Longest Mark w r t → stands_alone w r ≡ true
alone w r t i g l =
    let p = and_parts (not (same_bytes w (codes "_") && goes_on r)) (not (same_bytes w (codes "/") && begins_with_star r)) l.front.follows in
    and_from (not (makes_longer w r)) (not (same_bytes w (codes "_") && goes_on r) && not (same_bytes w (codes "/") && makes_comment r)) (not_from_false (makes_longer w r) (not_longer w r t i l))
    (and_from (not (same_bytes w (codes "_") && goes_on r)) (not (same_bytes w (codes "/") && makes_comment r)) p.0 (no_comment w r t g l.front.is p.1))

is_a_mark : {w : List ℕ} → IsWord Mark w → is_one_of w marks ≡ true
is_a_mark (words.mark h) = h

pub longest_stands : (c : Class) (w r t : List ℕ) → ((q : List ℕ) → Gap t q → ⊥) → Longest c w r t → stands c w r ≡ true
longest_stands Identifier w r t g l = l.front.follows
longest_stands Keyword w r t g l = l.front.follows
longest_stands Lifetime w r t g l = l.front.follows
longest_stands Number w r t g l = l.front.follows
longest_stands Format w r t g l = refl
longest_stands Mark w r t g l = alone w r t (is_a_mark l.front.word) g l

-- ---- a blank or a comment, before something else

record Held (t v : List ℕ) : Type 0 where
  front : List ℕ
  is : t ≡ front ++ v
  held : (s : List ℕ) → Balanced (front ++ (closing ++ s)) (closing ++ s)

pair_same : (c : ℕ) (f r s : List ℕ) → begins_pair (c ∷ (f ++ (closing ++ r))) ≡ begins_pair (c ∷ (f ++ (closing ++ s)))
pair_same c [] r s = refl
pair_same c (d ∷ f) r s = refl

inside : (a b s : List ℕ) → (opening ++ (a ++ (closing ++ b))) ++ s ≡ opening ++ (a ++ (closing ++ (b ++ s)))
inside a b s = ap (λ x. opening ++ x) (append_assoc a (closing ++ b) s)

balanced_held : {t v : List ℕ} (r : List ℕ) → Balanced t v → v ≡ closing ++ r → Held t v
balanced_held r nothing i = record { front = []; is = refl; held = λ s. nothing }
balanced_held r (plain {c = c} {t = t} {r = v} e b) i = more (balanced_held r b i)
  where
    more : Held t v → Held (c ∷ t) v
    more h = record {
      front = c ∷ h.front;
      is = ap (λ x. c ∷ x) h.is;
      held = λ s. plain (sym (ap (λ x. begins_pair (c ∷ x)) (h.is ∙ ap (λ x. h.front ++ x) i) ∙ pair_same c h.front r s) ∙ e) (h.held s);
    }
balanced_held r (nested {t = t} {u = u} {r = v} b d) i = both (balanced_held u b refl) (balanced_held r d i)
  where
    both : Held t (closing ++ u) → Held u v → Held (opening ++ t) v
    both h k = record {
      front = opening ++ (h.front ++ (closing ++ k.front));
      is = ap (λ x. opening ++ x) (h.is ∙ ap (λ x. h.front ++ (closing ++ x)) k.is) ∙ sym (inside h.front k.front v);
      held = λ s. subst (λ x. Balanced x (closing ++ s)) (sym (inside h.front k.front (closing ++ s))) (nested (h.held (k.front ++ (closing ++ s))) (k.held s));
    }

pub record Moves (t r : List ℕ) : Type 0 where
  pub front : List ℕ
  pub is : t ≡ front ++ r
  pub moves : (s : List ℕ) → (at_line_end r ≡ true → at_line_end s ≡ true) → Gap (front ++ s) s

pub gap_moves : {t r : List ℕ} → Gap t r → Moves t r
gap_moves (blank {c = c} e) = record { front = c ∷ []; is = refl; moves = λ s f. blank e }
gap_moves (line_comment u a b e) = record { front = slashes ++ u; is = e; moves = λ s f. line_comment u a (f b) refl }
gap_moves (block_comment {u = u} {r = r} b) =
    let h = balanced_held r b refl in record {
      front = opening ++ (h.front ++ closing);
      is = ap (λ x. opening ++ x) (h.is ∙ sym (append_assoc h.front closing r));
      moves = λ s f. subst (λ x. Gap (opening ++ x) s) (sym (append_assoc h.front closing s)) (block_comment (h.held s));
    }

-- ---- each text with tokens is such pieces

pub record AsPieces (at : ℕ) (t : List ℕ) (ts : List Tok) : Type 0 where
  pub pieces : List Piece
  pub text : flat pieces ≡ t
  pub placed : places at pieces ≡ ts
  pub reads : Reads pieces []

at_end : (ps : List Piece) (t : List ℕ) → flat ps ≡ t → onto ps [] ≡ t
at_end ps t e = onto_is ps [] ∙ append-nil (flat ps) ∙ e

pub as_pieces : {at : ℕ} {t : List ℕ} {ts : List Tok} → Tokens at t ts → AsPieces at t ts
as_pieces none = record { pieces = []; text = refl; placed = refl; reads = tt }
as_pieces {at = at} (gap n {t = t} {r = r} {ts = ts} g l d) =
    let p = as_pieces d in
    let m = gap_moves g in
    let k : length m.front ≡ n = omega (arith, l, ap length m.is, length-append m.front r) in
    record {
      pieces = blanks m.front ∷ p.pieces;
      text = ap (λ x. m.front ++ x) p.text ∙ sym m.is;
      placed = ap (λ m. places (at + m) p.pieces) k ∙ p.placed;
      reads = ((λ s f. skip (m.moves s (λ e. f (ap at_line_end (at_end p.pieces r p.text) ∙ e))) skipped), p.reads);
    }
as_pieces {at = at} (token {t = t} c w r g l d) =
    let p = as_pieces d in record {
      pieces = word c w ∷ p.pieces;
      text = ap (λ x. w ++ x) p.text ∙ sym l.front.is;
      placed = ap (λ x. token_at at c w ∷ x) p.placed;
      reads = (l.front.word, ap (stands c w) (at_end p.pieces r p.text) ∙ longest_stands c w r t g l, p.reads);
    }
