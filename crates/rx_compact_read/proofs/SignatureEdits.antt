-- Edits of a signature, as a calculus over tokens: kept, a lifetime by another, a lifetime behind an ampersand left out with the blanks
-- behind it, one part after another. The text with them is pieces with the words of the tokens that they make.
use Rattle.std.proofs.Common.{◌≡◌, inl, inr, ℕ, suc, ◌+◌, ◌-◌, true, false, List, [], ◌∷◌, ◌++◌, length, length-append, drop, take, refl, sym, ap, subst, ◌∙◌, arith, append_assoc, append-nil}
use Rattle.std.specs.Prelude.{◌≢◌, ◌==◌, ◌||◌, not, if◌then◌else◌}
use Rattle.std.proofs.lemmas.Bool.{not-true, false_from_ne_true, both_ways, eqb-true, or_cases}
use Rattle.std.proofs.lemmas.List.{drop_at, drop-drop}
use Rattle.rx_lex.specs.declared.token.Class.{Class}
use Rattle.rx_lex.specs.declared.token.Class.TheVariants.{Lifetime}
use Rattle.rx_lex.specs.Words as word_of
use Rattle.rx_lex.specs.Words.{IsWord, marks}
use Rattle.rx_lex.proofs.FirstBytes.{first, one_of_all}
use Rattle.rx_lex.proofs.Names.{opens}
use Rattle.rx_lex.proofs.LongestWord.{word_not_empty}
use Rattle.rx_lex.specs.Tok.{Tok}
use Rattle.rx_lex.specs.Tokens.{is_blank, token_at, AreWords}
use Rattle.rx_parse_grammar.specs.grammar.Words.{IsLifetime}
use Rattle.rx_parse_laws.specs.Words.{words}
use Rattle.rx_print_spelling.specs.Pieces.{Piece, word, blanks, flat}
use Rattle.rx_print_spelling.proofs.Pieces.{places, flat-append}
use Rattle.rx_splice_laws.specs.Edits.{Edit, replaced, no_edit, edit_and}
use Rattle.rx_splice_laws.specs.SplicedRun.{piece_words}
use Rattle.rx_splice_laws.proofs.AsRead.{onto, onto_is, onto-append}
use Rattle.rx_splice_laws.proofs.Cut.{words_placed, split, lead, bare_places}
use Rattle.rx_splice_laws.proofs.Edited.{made}
use Rattle.rx_splice_laws.proofs.Spelled.{Pieced, two_parts, nothing_edited, all_replaced, places_then}
use Rattle.rx_splice_laws.proofs.Put.{run_word}
use Rattle.rx_print_spelling.proofs.TextsFormed.{words_left, words_right}
use Rattle.rx_compact_text.specs.CompactedText.{leading_blanks, with_blanks}
use Rattle.rx_compact_read.proofs.Types.{IsAmpersand}
use Rattle.rx_compact_read.proofs.SignatureSeams.{SeamMeeting, kept_seam, two_seams, lifetime_seam, gone_seam, leading_low, leading_then}

pub data Changed (text : List ℕ) : List Edit → List Tok → List Tok → Type 0 where
  kept : (ts : List Tok) → Changed text [] ts ts
  lifetime : (k : Tok) (w : List ℕ) → IsLifetime k → IsWord Lifetime w → Changed text (replaced k.span (word Lifetime w ∷ []) ∷ []) (k ∷ []) (made (word Lifetime w ∷ []))
  gone : {es : List Edit} {vs us : List Tok} (a k : Tok) → IsAmpersand a → vs ≢ [] → Changed text es vs us → Changed text (replaced (with_blanks text k.span) [] ∷ es) (a ∷ k ∷ vs) (a ∷ us)
  joined : {es fs : List Edit} {ts us vs ws : List Tok} → Changed text es ts us → Changed text fs vs ws → Changed text (es ++ fs) (ts ++ vs) (us ++ ws)

pub record SpelledSignature (at : ℕ) (src : List Piece) (es : List Edit) (us : List Tok) : Type 0 where
  pub pieces : List Piece
  pub pieced : Pieced at src pieces es us
  pub seamed : SeamMeeting src pieces

such : {at : ℕ} {src more : List Piece} {es : List Edit} {us : List Tok} → src ≡ more → SpelledSignature at src es us → SpelledSignature at more es us
such {at} {es = es} {us = us} e s = subst (λ x. SpelledSignature at x es us) e s

both_parts : (at mid : ℕ) (src more : List Piece) (es fs : List Edit) (us ws : List Tok) → mid ≡ at + length (flat src) → SpelledSignature at src es us → SpelledSignature mid more fs ws → SpelledSignature at (src ++ more) (es ++ fs) (us ++ ws)
both_parts at mid src more es fs us ws m s r = record {
  pieces = s.pieces ++ r.pieces;
  pieced = two_parts at mid src more s.pieces r.pieces es fs us ws m s.pieced r.pieced;
  seamed = two_seams src more s.pieces r.pieces s.seamed r.seamed;
}

kept_part : (at : ℕ) (src : List Piece) (ts : List Tok) → piece_words src ≡ words ts → SpelledSignature at src [] ts
kept_part at src ts e = record { pieces = src; pieced = nothing_edited at src ts e; seamed = kept_seam src }

-- ---- another lifetime

one_lifetime : (at : ℕ) (k : Tok) (c : Class) (v w : List ℕ) → c ≡ Lifetime → IsWord Lifetime w → token_at at c v ≡ k → SpelledSignature at (word c v ∷ []) (replaced k.span (word Lifetime w ∷ []) ∷ []) (made (word Lifetime w ∷ []))
one_lifetime at k c v w e i h =
    subst (λ (x : Tok). SpelledSignature at (word c v ∷ []) (replaced x.span (word Lifetime w ∷ []) ∷ []) (made (word Lifetime w ∷ []))) h
    (subst (λ d. SpelledSignature at (word d v ∷ []) (replaced (token_at at c v).span (word Lifetime w ∷ []) ∷ []) (made (word Lifetime w ∷ []))) (sym e) (record {
      pieces = word Lifetime w ∷ [];
      pieced = all_replaced at (at + length v) (word Lifetime v ∷ []) (word Lifetime w ∷ []) (omega (arith, length-append v []));
      seamed = lifetime_seam v w i;
    }))

lifetime_of : (at : ℕ) (src : List Piece) (k : Tok) (w : List ℕ) → IsLifetime k → IsWord Lifetime w → places at src ≡ k ∷ [] → SpelledSignature at src (replaced k.span (word Lifetime w ∷ []) ∷ []) (made (word Lifetime w ∷ []))
lifetime_of at [] k w l i e = absurd (cc)
lifetime_of at (blanks b ∷ src) k w l i e =
    both_parts at (at + length b) (blanks b ∷ []) src [] (replaced k.span (word Lifetime w ∷ []) ∷ []) [] (made (word Lifetime w ∷ [])) (omega (arith, length-append b []))
    (kept_part at (blanks b ∷ []) [] refl) (lifetime_of (at + length b) src k w l i e)
lifetime_of at (word c v ∷ src) k w l i e =
    let h : token_at at c v ≡ k = cc in
    let n : places (at + length v) src ≡ [] = cc in
    both_parts at (at + length v) (word c v ∷ []) src (replaced k.span (word Lifetime w ∷ []) ∷ []) [] (made (word Lifetime w ∷ [])) [] (omega (arith, length-append v []))
    (one_lifetime at k c v w (ap (λ (x : Tok). x.class) h ∙ l.0) i h) (kept_part (at + length v) src [] (sym (words_placed (at + length v) src) ∙ ap words n))

-- ---- where parts stand in the text

pub drop_front : (text : List ℕ) (at mid : ℕ) (ps qs : List Piece) (rest : List ℕ) → drop at text ≡ onto (ps ++ qs) rest → mid ≡ at + length (flat ps) → drop mid text ≡ onto qs rest
drop_front text at mid ps qs rest e m =
    ap (λ n. drop n text) m ∙ sym (drop-drop (length (flat ps)) at text) ∙ ap (drop (length (flat ps))) (e ∙ onto-append ps qs rest ∙ onto_is ps (onto qs rest)) ∙ drop_at (flat ps) (onto qs rest) (length (flat ps)) refl

-- ---- a lifetime that goes

no_blank : (d : ℕ) → opens d ≡ true → is_blank d ≡ false
no_blank d o = false_from_ne_true (is_blank d) (λ e.
    let n32 : opens 32 ≡ false = refl in let n9 : opens 9 ≡ false = refl in let n10 : opens 10 ≡ false = refl in let n13 : opens 13 ≡ false = refl in
    let is : (c : ℕ) → opens c ≡ false → (d == c) ≡ true → ⊥ = (λ c n h. both_ways (opens d) (ap opens (eqb-true d c h) ∙ n) o) in
    elim (or_cases (((d == 32) || (d == 9)) || (d == 10)) (d == 13) e) [
      | inr h ↦ is 13 n13 h
      | inl f ↦ elim (or_cases ((d == 32) || (d == 9)) (d == 10) f) [
        | inr h ↦ is 10 n10 h
        | inl k ↦ elim (or_cases (d == 32) (d == 9) k) [ inl h ↦ is 32 n32 h | inr h ↦ is 9 n9 h ]
      ]
    ])

first_no_blank : {c : Class} {w : List ℕ} → IsWord c w → is_blank (first w) ≡ false
first_no_blank (word_of.identifier {w = w} i) = no_blank (first w) (run_word {w = w} (word_of.identifier i) refl).opened
first_no_blank (word_of.keyword {w = w} i) = no_blank (first w) (run_word {w = w} (word_of.keyword i) refl).opened
first_no_blank (word_of.lifetime {w = w} i e) = ap (λ v. is_blank (first v)) e
first_no_blank (word_of.number {w = w} n b) = no_blank (first w) (run_word {w = w} (word_of.number n b) refl).opened
first_no_blank (word_of.format {w = w} e) = ap (λ v. is_blank (first v)) e
first_no_blank (word_of.mark {w = w} i) = not-true (is_blank (first w)) (one_of_all (λ v. not (is_blank (first v))) w marks refl i)

word_blank : {c : Class} {w : List ℕ} (r : List ℕ) → IsWord c w → leading_blanks (w ++ r) ≡ 0
word_blank {w = w} r i = by w (word_not_empty i) (first_no_blank i) where
  by : (w : List ℕ) → w ≢ [] → is_blank (first w) ≡ false → leading_blanks (w ++ r) ≡ 0
  by [] n e = absurd (n refl)
  by (d ∷ w) n e = ap (λ b. if b then suc (leading_blanks (w ++ r)) else 0) e

-- it and the blanks behind it are nothing
gone_pieced : (at to : ℕ) (c : Class) (w : List ℕ) (gap : List Piece) → to ≡ (at + length w) + leading_blanks (flat gap)
    → Pieced at (word c w ∷ gap) (blanks (drop (leading_blanks (flat gap)) (flat gap)) ∷ []) (record { from = at; to = to; by = [] } ∷ []) []
gone_pieced at to c w gap t =
    let z : at - at ≡ 0 = omega arith in
    let d : to - at ≡ length w + leading_blanks (flat gap) = omega (arith, t) in
    let l = leading_low (flat gap) in record {
      text = append-nil (drop (leading_blanks (flat gap)) (flat gap))
          ∙ sym (ap (λ n. take n (w ++ flat gap) ++ drop (to - at) (w ++ flat gap)) z
          ∙ ap (λ n. drop n (w ++ flat gap)) d ∙ sym (drop-drop (leading_blanks (flat gap)) (length w) (w ++ flat gap))
          ∙ ap (drop (leading_blanks (flat gap))) (drop_at w (flat gap) (length w) refl));
      words = refl;
      ordered = edit_and (omega arith) (omega (arith, t)) (no_edit (omega (arith, t, l, length-append w (flat gap))));
    }

tail_of : (t u : Tok) (ts us : List Tok) → t ∷ ts ≡ u ∷ us → ts ≡ us
tail_of t u ts us e = cc

head_of : (t u : Tok) (ts us : List Tok) → t ∷ ts ≡ u ∷ us → t ≡ u
head_of t u ts us e = cc

-- the pieces round it
record Around (at : ℕ) (src : List Piece) (a k v : Tok) (vs : List Tok) : Type 0 where
  front : List Piece
  gap : List Piece
  rest : List Piece
  qs : List Piece
  is : src ≡ front ++ (word k.class k.text ∷ (gap ++ rest))
  first : places at front ≡ a ∷ []
  start : k.span.start ≡ at + length (flat front)
  end : k.span.end ≡ k.span.start + length k.text
  bare : piece_words gap ≡ []
  next : v.span.start ≡ k.span.end + length (flat gap)
  placed : places v.span.start rest ≡ v ∷ vs
  word_first : rest ≡ word v.class v.text ∷ qs

around : (at : ℕ) (src : List Piece) (a k v : Tok) (vs : List Tok) → places at src ≡ a ∷ k ∷ v ∷ vs → Around at src a k v vs
around at src a k v vs e =
    let s = split at src (a ∷ []) (k ∷ v ∷ vs) e in
    let mid = at + length (flat s.front) in
    let l = lead mid s.back k (v ∷ vs) s.second in
    let h = ap (places k.span.start) (sym l.word_first.1) ∙ l.placed in
    let t : token_at k.span.start k.class k.text ≡ k = head_of _ k _ (v ∷ vs) h in
    let end : k.span.end ≡ k.span.start + length k.text = sym (ap (λ (x : Tok). x.span.end) t) in
    let f : places (k.span.start + length k.text) l.word_first.0 ≡ v ∷ vs = tail_of _ k _ (v ∷ vs) h in
    let n = lead (k.span.start + length k.text) l.word_first.0 v vs f in record {
      front = s.front ++ l.gap;
      gap = n.gap;
      rest = n.rest;
      qs = n.word_first.0;
      is = s.is ∙ ap (λ x. s.front ++ x) (l.is ∙ ap (λ x. l.gap ++ x) (l.word_first.1 ∙ ap (λ x. word k.class k.text ∷ x) n.is)) ∙ sym (append_assoc s.front l.gap (word k.class k.text ∷ (n.gap ++ n.rest)));
      first = places_then at s.front l.gap (bare_places l.gap l.bare) ∙ s.first;
      start = omega (arith, l.start, ap length (flat-append s.front l.gap), length-append (flat s.front) (flat l.gap));
      end = end;
      bare = n.bare;
      next = omega (arith, n.start, end);
      placed = n.placed;
      word_first = n.word_first.1;
    }

gone_of : (text : List ℕ) (at : ℕ) (src : List Piece) (rest : List ℕ) (es : List Edit) (us : List Tok) (a k v : Tok) (vs : List Tok) → IsAmpersand a → IsWord v.class v.text → drop at text ≡ onto src rest
    → (w : Around at src a k v vs) → SpelledSignature v.span.start w.rest es us → SpelledSignature at src (replaced (with_blanks text k.span) [] ∷ es) (a ∷ us)
gone_of text at src rest es us a k v vs m i d w s =
    let g = flat w.gap in
    let D : drop at text ≡ onto (w.front ++ (word k.class k.text ∷ (w.gap ++ w.rest))) rest = d ∙ ap (λ ps. onto ps rest) w.is in
    let D1 : drop k.span.start text ≡ onto ((word k.class k.text ∷ []) ++ (w.gap ++ w.rest)) rest = drop_front text at k.span.start w.front (word k.class k.text ∷ (w.gap ++ w.rest)) rest D w.start in
    let D2 : drop k.span.end text ≡ onto (w.gap ++ w.rest) rest = drop_front text k.span.start k.span.end (word k.class k.text ∷ []) (w.gap ++ w.rest) rest D1 (omega (arith, w.end, length-append k.text [])) in
    let z : leading_blanks (onto w.rest rest) ≡ 0 = ap (λ ps. leading_blanks (onto ps rest)) w.word_first ∙ word_blank (onto w.qs rest) i in
    let b : leading_blanks (drop k.span.end text) ≡ leading_blanks g = ap leading_blanks (D2 ∙ onto-append w.gap w.rest rest ∙ onto_is w.gap (onto w.rest rest)) ∙ leading_then g (onto w.rest rest) z in
    let to : (with_blanks text k.span).end ≡ (k.span.start + length k.text) + leading_blanks g = omega (arith, w.end, b) in
    let p = gone_pieced k.span.start (with_blanks text k.span).end k.class k.text w.gap to in
    let n : v.span.start ≡ k.span.start + length (flat (word k.class k.text ∷ w.gap)) = omega (arith, w.next, w.end, length-append k.text g) in
    such (sym w.is) (record {
      pieces = w.front ++ (blanks (drop (leading_blanks g) g) ∷ s.pieces);
      pieced = two_parts at k.span.start w.front (word k.class k.text ∷ (w.gap ++ w.rest)) w.front (blanks (drop (leading_blanks g) g) ∷ s.pieces) [] (replaced (with_blanks text k.span) [] ∷ es) (a ∷ []) us w.start
          (nothing_edited at w.front (a ∷ []) (sym (words_placed at w.front) ∙ ap words w.first))
          (two_parts k.span.start v.span.start (word k.class k.text ∷ w.gap) w.rest (blanks (drop (leading_blanks g) g) ∷ []) s.pieces (replaced (with_blanks text k.span) [] ∷ []) es [] us n p s.pieced);
      seamed = gone_seam at a k.class v.class k.text v.text w.front w.gap w.rest s.pieces w.qs m w.first w.bare w.word_first s.seamed;
    })

module _ (text : List ℕ) where
  pub spells_signature : {es : List Edit} {ts us : List Tok} → Changed text es ts us → AreWords ts → (at : ℕ) (src : List Piece) (rest : List ℕ) → places at src ≡ ts → drop at text ≡ onto src rest → SpelledSignature at src es us
  spells_signature (kept ts) a at src rest e d = kept_part at src ts (sym (words_placed at src) ∙ ap words e)
  spells_signature (lifetime k w l i) a at src rest e d = lifetime_of at src k w l i e
  spells_signature (gone {vs = []} {us = us} b k m n c) a at src rest e d = absurd (n refl)
  spells_signature (gone {es = es} {vs = v ∷ vs} {us = us} b k m n c) a at src rest e d =
      let w = around at src b k v vs e in
      let D = d ∙ ap (λ ps. onto ps rest) (w.is ∙ ap (λ x. w.front ++ x) (sym (append_assoc (word k.class k.text ∷ []) w.gap w.rest)) ∙ sym (append_assoc w.front (word k.class k.text ∷ w.gap) w.rest)) in
      gone_of text at src rest es us b k v vs m a.1.1.0 d w
      (spells_signature c a.1.1 v.span.start w.rest rest w.placed (drop_front text at v.span.start (w.front ++ (word k.class k.text ∷ w.gap)) w.rest rest D
      (omega (arith, w.next, w.end, w.start, ap length (flat-append w.front (word k.class k.text ∷ w.gap)), length-append (flat w.front) (flat (word k.class k.text ∷ w.gap)), length-append k.text (flat w.gap)))))
  spells_signature (joined {es = es} {fs = fs} {ts = ts} {us = us} {vs = vs} {ws = ws} c f) a at src rest e d =
      let p = split at src ts vs e in
      let D = d ∙ ap (λ ps. onto ps rest) p.is in
      such (sym p.is) (both_parts at (at + length (flat p.front)) p.front p.back es fs us ws refl
      (spells_signature c (words_left ts vs a) at p.front (onto p.back rest) p.first (D ∙ onto-append p.front p.back rest))
      (spells_signature f (words_right ts vs a) (at + length (flat p.front)) p.back rest p.second (drop_front text at (at + length (flat p.front)) p.front p.back rest D refl)))
