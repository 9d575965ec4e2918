-- The pieces of a text, parted where a function's list in angle brackets begins and ends, and where its body begins.
use Rattle.std.proofs.Common.{◌≡◌, ℕ, ◌+◌, List, [], ◌∷◌, ◌++◌, length, length-append, refl, sym, ap, subst, ◌∙◌, arith, append_assoc}
use Rattle.rx_core.specs.declared.types.Span.{Span}
use Rattle.rx_lex.specs.Tok.{Tok}
use Rattle.rx_lex.specs.Tokens.{Tokens}
use Rattle.rx_parse_grammar.specs.grammar.Words.{span_of, final_span}
use Rattle.rx_print_spelling.specs.Pieces.{Piece, word, flat}
use Rattle.rx_print_spelling.proofs.Pieces.{places, flat-append}
use Rattle.rx_splice_laws.proofs.AsRead.{as_pieces, Reads}
use Rattle.rx_splice_laws.proofs.Cut.{split, lead, trail, bare_places}
use Rattle.rx_splice_laws.proofs.Seams.{Left, word_left, left_of}
use Rattle.rx_splice_laws.proofs.Beside.{left_at_last}
use Rattle.rx_splice_laws.proofs.Spelled.{places_then, gap_places}

pub record Parted (text : List ℕ) (all before list sign behind : List Tok) : Type 0 where
  pub a : List Piece
  pub l : List Piece
  pub s : List Piece
  pub b : List Piece
  pub whole : flat (a ++ (l ++ (s ++ b))) ≡ text
  pub reads : Reads (a ++ (l ++ (s ++ b))) []
  pub placed : places 0 (a ++ (l ++ (s ++ b))) ≡ all
  pub first : places 0 a ≡ before
  pub second : places (0 + length (flat a)) l ≡ list
  pub third : places ((0 + length (flat a)) + length (flat l)) s ≡ sign
  pub fourth : places (((0 + length (flat a)) + length (flat l)) + length (flat s)) b ≡ behind

-- of a function without a list
pub unlisted : (text : List ℕ) (all before sign behind : List Tok) → Tokens 0 text all → all ≡ before ++ (sign ++ behind)
    → (p : Parted text all before [] sign behind) × (p.l ≡ [])
unlisted text all before sign behind d is =
    let w = as_pieces d in
    let p = split 0 w.pieces before (sign ++ behind) (w.placed ∙ is) in
    let q = split (0 + length (flat p.front)) p.back sign behind p.second in
    let e : w.pieces ≡ p.front ++ (q.front ++ q.back) = p.is ∙ ap (λ x. p.front ++ x) q.is in
    let z : 0 + length (flat p.front) ≡ (0 + length (flat p.front)) + 0 = omega arith in (
      record {
        a = p.front;
        l = [];
        s = q.front;
        b = q.back;
        whole = ap flat (sym e) ∙ w.text;
        reads = subst (λ x. Reads x []) e w.reads;
        placed = ap (places 0) (sym e) ∙ w.placed;
        first = p.first;
        second = refl;
        third = ap (λ n. places n q.front) (sym z) ∙ q.first;
        fourth = ap (λ n. places (n + length (flat q.front)) q.back) (sym z) ∙ q.second;
      },
      refl,
    )

-- of one with a list, from this token to that
pub record Listed (a l : List Piece) (o c : Tok) : Type 0 where
  pub more : List Piece
  pub is : l ≡ word o.class o.text ∷ more
  pub starts : o.span.start ≡ 0 + length (flat a)
  pub ends : c.span.end ≡ (0 + length (flat a)) + length (flat l)
  pub last : (k : Left) → left_of k l ≡ word_left c.class c.text

listed_end : (o c : Tok) (us : List Tok) → (span_of (o ∷ (us ++ c ∷ []))).end ≡ c.span.end
listed_end o c us = last_end o.span us c where
  last_end : (s : Span) (us : List Tok) (c : Tok) → (final_span s (us ++ c ∷ [])).end ≡ c.span.end
  last_end s [] c = refl
  last_end s (u ∷ us) c = last_end u.span us c

regrouped : (p g f t s b : List Piece) → p ++ ((g ++ (f ++ t)) ++ (s ++ b)) ≡ (p ++ g) ++ (f ++ ((t ++ s) ++ b))
regrouped p g f t s b =
    ap (λ x. p ++ x) (append_assoc g (f ++ t) (s ++ b) ∙ ap (λ x. g ++ x) (append_assoc f t (s ++ b) ∙ ap (λ x. f ++ x) (sym (append_assoc t s b))))
    ∙ sym (append_assoc p g (f ++ ((t ++ s) ++ b)))

pub listed : (text : List ℕ) (all before us sign behind : List Tok) (o c : Tok) → Tokens 0 text all → all ≡ before ++ ((o ∷ (us ++ c ∷ [])) ++ (sign ++ behind))
    → (p : Parted text all before (o ∷ (us ++ c ∷ [])) sign behind) × Listed p.a p.l o c
listed text all before us sign behind o c d is =
    let ls = o ∷ (us ++ c ∷ []) in
    let w = as_pieces d in
    let p = split 0 w.pieces before (ls ++ (sign ++ behind)) (w.placed ∙ is) in
    let q = split (0 + length (flat p.front)) p.back ls (sign ++ behind) p.second in
    let g = lead (0 + length (flat p.front)) q.front o (us ++ c ∷ []) q.first in
    let f = trail o.span.start g.rest ls g.placed (λ z. absurd (cc)) in
    let r = split ((0 + length (flat p.front)) + length (flat q.front)) q.back sign behind q.second in
    let e : w.pieces ≡ (p.front ++ g.gap) ++ (f.front ++ ((f.gap ++ r.front) ++ r.back)) =
    p.is ∙ ap (λ x. p.front ++ x) (q.is ∙ ap (λ x. x ++ q.back) (g.is ∙ ap (λ x. g.gap ++ x) f.is) ∙ ap (λ x. (g.gap ++ (f.front ++ f.gap)) ++ x) r.is) ∙ regrouped p.front g.gap f.front f.gap r.front r.back in
    let start : o.span.start ≡ 0 + length (flat (p.front ++ g.gap)) = omega (arith, g.start, ap length (flat-append p.front g.gap), length-append (flat p.front) (flat g.gap)) in
    let end : c.span.end ≡ (0 + length (flat (p.front ++ g.gap))) + length (flat f.front) = omega (arith, f.end, start, listed_end o c us) in
    let n : (0 + length (flat p.front)) + length (flat q.front) ≡ ((0 + length (flat (p.front ++ g.gap))) + length (flat f.front)) + length (flat f.gap) =
    omega (
      arith,
      ap length (flat-append p.front g.gap),
      length-append (flat p.front) (flat g.gap),
      ap (λ x. length (flat x)) (g.is ∙ ap (λ x. g.gap ++ x) f.is),
      ap length (flat-append g.gap (f.front ++ f.gap)),
      length-append (flat g.gap) (flat (f.front ++ f.gap)),
      ap length (flat-append f.front f.gap),
      length-append (flat f.front) (flat f.gap),
    ) in
    let k : ((0 + length (flat p.front)) + length (flat q.front)) + length (flat r.front) ≡ ((0 + length (flat (p.front ++ g.gap))) + length (flat f.front)) + length (flat (f.gap ++ r.front)) =
    omega (arith, n, ap length (flat-append f.gap r.front), length-append (flat f.gap) (flat r.front)) in
    let m = f.word_first o.class o.text g.word_first.0 g.word_first.1 in (
      record {
        a = p.front ++ g.gap;
        l = f.front;
        s = f.gap ++ r.front;
        b = r.back;
        whole = ap flat (sym e) ∙ w.text;
        reads = subst (λ x. Reads x []) e w.reads;
        placed = ap (places 0) (sym e) ∙ w.placed;
        first = places_then 0 p.front g.gap (bare_places g.gap g.bare) ∙ p.first;
        second = ap (λ n. places n f.front) (sym start) ∙ f.placed;
        third = gap_places ((0 + length (flat (p.front ++ g.gap))) + length (flat f.front)) f.gap r.front (bare_places f.gap f.bare) ∙ ap (λ n. places n r.front) (sym n) ∙ r.first;
        fourth = ap (λ n. places n r.back) (sym k) ∙ r.second;
      },
      record { more = m.0; is = m.1; starts = start; ends = end; last = λ x. f.word_last x ∙ left_at_last (o ∷ us) c },
    )
