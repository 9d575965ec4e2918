-- What edits of tokens make of the text: its pieces are the kept ones and those of the edits, and each word ends before what follows it.
-- By induction on the edits.
use Rattle.std.proofs.Common.{◌≡◌, ℕ, ◌+◌, ◌-◌, true, false, List, [], ◌∷◌, ◌++◌, length, length-append, take, drop, refl, sym, ap, subst, ◌∙◌, arith, append-nil, append_assoc}
use Rattle.std.specs.Prelude.{◌≢◌, ⊤}
use Rattle.rx_lex.specs.Tok.{Tok}
use Rattle.rx_lex.specs.declared.token.Class.{Class}
use Rattle.rx_lex.specs.declared.token.Class.TheVariants.{Lifetime}
use Rattle.rx_lex.specs.Words.{IsWord}
use Rattle.rx_lex.specs.Tokens.{token_at}
use Rattle.rx_parse_grammar.specs.grammar.Words.{span_of, IsLifetime}
use Rattle.rx_print_spelling.specs.Pieces.{Piece, word, blanks, bytes_of, flat}
use Rattle.rx_print_spelling.proofs.Pieces.{places, past, places-append, flat-append}
use Rattle.rx_splice_laws.specs.Edits.{Edit, spliced, replaced, put, Ordered, no_edit, edit_and}
use Rattle.rx_splice_laws.specs.Places.{after_slash}
use Rattle.rx_splice_laws.proofs.Splicing.{spliced-append, ordered-append}
use Rattle.rx_parse_laws.specs.Words.{words}
use Rattle.rx_splice_laws.specs.SplicedRun.{piece_words}
use Rattle.rx_splice_laws.proofs.Edited.{Edited, kept, instead, renamed, between, behind, next, joined, made}
use Rattle.rx_splice_laws.proofs.Seams.{Left, left_of, EachSeen, seen_left, seen_right, Seamed, kept_seam, lifetime_seam, two_seams}
use Rattle.rx_splice_laws.proofs.Beside.{left_at, starred, InPlace}
use Rattle.rx_splice_laws.proofs.Put.{replaced_seam, behind_seam, next_seam, between_seam}
use Rattle.rx_splice_laws.proofs.Cut.{bare_places, words_placed, words_joined, words-append, split, lead, trail}

abbrev pub EachEdit : (Edit → Type 0) → List Edit → Type 0
EachEdit P [] = ⊤
EachEdit P (e ∷ es) = P e × EachEdit P es

-- an edit that begins with `*` doesn't stand directly behind a `/`
abbrev pub IsUnslashed : List Tok → Edit → Type 0
IsUnslashed all e = starred e.by ≡ true → after_slash all e.from ≡ false

abbrev pub Unslashed : List Tok → List Edit → Type 0
Unslashed all es = EachEdit (IsUnslashed all) es

pub unslashed_left : (all : List Tok) (es fs : List Edit) → Unslashed all (es ++ fs) → Unslashed all es
unslashed_left all [] fs u = tt
unslashed_left all (e ∷ es) fs u = (u.0, unslashed_left all es fs u.1)

pub unslashed_right : (all : List Tok) (es fs : List Edit) → Unslashed all (es ++ fs) → Unslashed all fs
unslashed_right all [] fs u = u
unslashed_right all (e ∷ es) fs u = unslashed_right all es fs u.1

-- these pieces are the text with the edits, and have these words
pub record Pieced (at : ℕ) (src new : List Piece) (es : List Edit) (us : List Tok) : Type 0 where
  pub text : flat new ≡ spliced at (flat src) es
  pub words : piece_words new ≡ words us
  pub ordered : Ordered at es (at + length (flat src))

pub record Spelled (all : List Tok) (at : ℕ) (src : List Piece) (es : List Edit) (us : List Tok) : Type 0 where
  pub pieces : List Piece
  pub pieced : Pieced at src pieces es us
  pub seamed : Seamed all at src pieces

drop_seam : (t u : List ℕ) → drop (length t) (t ++ u) ≡ u
drop_seam [] u = refl
drop_seam (c ∷ t) u = drop_seam t u

-- a part of the text in front, in which nothing is edited
after_gap : (at mid : ℕ) (g src new : List Piece) (es : List Edit) (us : List Tok) → piece_words g ≡ [] → mid ≡ at + length (flat g) → Pieced mid src new es us → Pieced at (g ++ src) (g ++ new) es us
after_gap at mid g src new es us b m s = record {
  text = flat-append g new ∙ ap (λ x. flat g ++ x) s.text ∙ sym (spliced-append at mid (mid + length (flat src)) (flat g) (flat src) [] es m (no_edit (omega (arith, m))) s.ordered) ∙ ap (λ x. spliced at x es) (sym (flat-append g src));
  words = words_joined g new ∙ ap (λ x. x ++ piece_words new) b ∙ s.words;
  ordered = subst (λ n. Ordered at es n) (omega (arith, m, length-append (flat g) (flat src), ap length (flat-append g src)))
      (ordered-append (no_edit {from = at} {to = mid} (omega (arith, m))) s.ordered);
}

pub two_parts : (at mid : ℕ) (src more new new2 : List Piece) (es fs : List Edit) (us ws : List Tok) → mid ≡ at + length (flat src) → Pieced at src new es us → Pieced mid more new2 fs ws
    → Pieced at (src ++ more) (new ++ new2) (es ++ fs) (us ++ ws)
two_parts at mid src more new new2 es fs us ws m s r =
    let o : Ordered at es mid = subst (λ n. Ordered at es n) (sym m) s.ordered in record {
      text = flat-append new new2 ∙ ap (λ x. x ++ flat new2) s.text ∙ ap (λ x. spliced at (flat src) es ++ x) r.text
          ∙ sym (spliced-append at mid (mid + length (flat more)) (flat src) (flat more) es fs m o r.ordered) ∙ ap (λ x. spliced at x (es ++ fs)) (sym (flat-append src more));
      words = words_joined new new2 ∙ ap (λ x. x ++ piece_words new2) s.words ∙ ap (λ x. words us ++ x) r.words ∙ sym (words-append us ws);
      ordered = subst (λ n. Ordered at (es ++ fs) n) (omega (arith, m, length-append (flat src) (flat more), ap length (flat-append src more))) (ordered-append o r.ordered);
    }

-- pieces put into the text, with nothing in front
pub put_first : (at : ℕ) (src new ps : List Piece) (es : List Edit) (us : List Tok) → Pieced at src new es us → Pieced at src (ps ++ new) (put at ps ∷ es) (made ps ++ us)
put_first at src new ps es us s =
    let z : at - at ≡ 0 = omega arith in record {
      text = flat-append ps new ∙ ap (λ x. flat ps ++ x) s.text ∙ sym (ap (λ n. take n (flat src) ++ (flat ps ++ spliced at (drop n (flat src)) es)) z);
      words = words_joined ps new ∙ ap (λ x. piece_words ps ++ x) s.words ∙ ap (λ x. x ++ words us) (sym (words_placed 0 ps)) ∙ sym (words-append (made ps) us);
      ordered = edit_and (omega arith) (omega arith) s.ordered;
    }

pub nothing_edited : (at : ℕ) (src : List Piece) (ts : List Tok) → piece_words src ≡ words ts → Pieced at src src [] ts
nothing_edited at src ts e = record { text = refl; words = e; ordered = no_edit (omega arith) }

-- all of it is replaced
pub all_replaced : (at end : ℕ) (src ps : List Piece) → end ≡ at + length (flat src) → Pieced at src ps (record { from = at; to = end; by = ps } ∷ []) (made ps)
all_replaced at end src ps m =
    let z : at - at ≡ 0 = omega arith in
    let l : end - at ≡ length (flat src) = omega (arith, m) in record {
      text = sym (ap (λ n. take n (flat src) ++ (flat ps ++ drop (end - at) (flat src))) z ∙ ap (λ n. flat ps ++ drop n (flat src)) l
          ∙ ap (λ x. flat ps ++ x) (ap (λ x. drop (length (flat src)) x) (sym (append-nil (flat src))) ∙ drop_seam (flat src) []) ∙ append-nil (flat ps));
      words = sym (words_placed 0 ps);
      ordered = edit_and (omega arith) (omega (arith, m)) (no_edit (omega (arith, m)));
    }

past_is : (at : ℕ) (ps : List Piece) → past at ps ≡ at + length (flat ps)
past_is at [] = omega arith
past_is at (p ∷ ps) = let h = past_is (at + length (bytes_of p)) ps in omega (arith, h, length-append (bytes_of p) (flat ps))

pub gap_places : (at : ℕ) (g ps : List Piece) → ((k : ℕ) → places k g ≡ []) → places at (g ++ ps) ≡ places (at + length (flat g)) ps
gap_places at g ps b = places-append at g ps ∙ ap (λ x. x ++ places (past at g) ps) (b at) ∙ ap (λ n. places n ps) (past_is at g)

pub places_then : (at : ℕ) (ps g : List Piece) → ((k : ℕ) → places k g ≡ []) → places at (ps ++ g) ≡ places at ps
places_then at ps g b = places-append at ps g ∙ ap (λ x. places at ps ++ x) (b (past at ps)) ∙ append-nil (places at ps)

module _ (all : List Tok) where
  -- of the same text and edits
  such : {at : ℕ} {src more : List Piece} {es : List Edit} {us ws : List Tok} → src ≡ more → us ≡ ws → Spelled all at src es us → Spelled all at more es ws
  such {at} {src} {more} {es} {us} {ws} e f s = subst (λ x. Spelled all at x es ws) e (subst (λ x. Spelled all at src es x) f s)

  gap_in_front : (at mid : ℕ) (g src : List Piece) (es : List Edit) (us : List Tok) → piece_words g ≡ [] → places at g ≡ [] → mid ≡ at + length (flat g) → Spelled all mid src es us → Spelled all at (g ++ src) es us
  gap_in_front at mid g src es us b e m s = record {
    pieces = g ++ s.pieces;
    pieced = after_gap at mid g src s.pieces es us b m s.pieced;
    seamed = two_seams all at mid g src g s.pieces m (subst (EachSeen all) (sym e) tt) (kept_seam all at g) s.seamed;
  }

  parts : (at mid : ℕ) (src more : List Piece) (es fs : List Edit) (ts us ws : List Tok) → mid ≡ at + length (flat src) → places at src ≡ ts → EachSeen all ts → Spelled all at src es us → Spelled all mid more fs ws
      → Spelled all at (src ++ more) (es ++ fs) (us ++ ws)
  parts at mid src more es fs ts us ws m e y s r = record {
    pieces = s.pieces ++ r.pieces;
    pieced = two_parts at mid src more s.pieces r.pieces es fs us ws m s.pieced r.pieced;
    seamed = two_seams all at mid src more s.pieces r.pieces m (subst (EachSeen all) (sym e) y) s.seamed r.seamed;
  }

  kept_part : (at : ℕ) (src : List Piece) (ts : List Tok) → piece_words src ≡ words ts → Spelled all at src [] ts
  kept_part at src ts e = record { pieces = src; pieced = nothing_edited at src ts e; seamed = kept_seam all at src }

  instead_of : (at : ℕ) (src : List Piece) (t : Tok) (ts : List Tok) (ps : List Piece) → InPlace (t ∷ ts) ps → (starred ps ≡ true → after_slash all t.span.start ≡ false) → EachSeen all (t ∷ ts) → places at src ≡ t ∷ ts
      → Spelled all at src (replaced (span_of (t ∷ ts)) ps ∷ []) (made ps)
  instead_of at src t ts ps i n y e =
      let l = lead at src t ts e in
      let r = trail t.span.start l.rest (t ∷ ts) l.placed (λ z. absurd (cc)) in
      let w = r.word_first t.class t.text l.word_first.0 l.word_first.1 in
      let a : Spelled all t.span.start r.front (replaced (span_of (t ∷ ts)) ps ∷ []) (made ps) = record {
        pieces = ps;
        pieced = all_replaced t.span.start (span_of (t ∷ ts)).end r.front ps r.end;
        seamed = replaced_seam all t ts ps r.front i n r.placed w.0 w.1 r.word_last;
      } in
      let b = parts t.span.start (span_of (t ∷ ts)).end r.front r.gap (replaced (span_of (t ∷ ts)) ps ∷ []) [] (t ∷ ts) (made ps) [] r.end r.placed y a (kept_part (span_of (t ∷ ts)).end r.gap [] r.bare) in
      let c = gap_in_front at t.span.start l.gap (r.front ++ r.gap) (replaced (span_of (t ∷ ts)) ps ∷ []) (made ps ++ []) l.bare (bare_places l.gap l.bare at) l.start b in
      such (sym (l.is ∙ ap (λ x. l.gap ++ x) r.is)) (append-nil (made ps)) c

  one_lifetime : (at : ℕ) (t : Tok) (c : Class) (v w : List ℕ) → c ≡ Lifetime → IsWord Lifetime w → token_at at c v ≡ t → Spelled all at (word c v ∷ []) (replaced t.span (word Lifetime w ∷ []) ∷ []) (made (word Lifetime w ∷ []))
  one_lifetime at t c v w k i h =
      subst (λ (x : Tok). Spelled all at (word c v ∷ []) (replaced x.span (word Lifetime w ∷ []) ∷ []) (made (word Lifetime w ∷ []))) h
      (subst (λ d. Spelled all at (word d v ∷ []) (replaced (token_at at c v).span (word Lifetime w ∷ []) ∷ []) (made (word Lifetime w ∷ []))) (sym k) (record {
        pieces = word Lifetime w ∷ [];
        pieced = all_replaced at (at + length v) (word Lifetime v ∷ []) (word Lifetime w ∷ []) (omega (arith, length-append v []));
        seamed = lifetime_seam all at v w i;
      }))

  lifetime_of : (at : ℕ) (src : List Piece) (t : Tok) (w : List ℕ) → IsLifetime t → IsWord Lifetime w → EachSeen all (t ∷ []) → places at src ≡ t ∷ []
      → Spelled all at src (replaced t.span (word Lifetime w ∷ []) ∷ []) (made (word Lifetime w ∷ []))
  lifetime_of at [] t w l i y e = absurd (cc)
  lifetime_of at (blanks b ∷ src) t w l i y e =
      gap_in_front at (at + length b) (blanks b ∷ []) src (replaced t.span (word Lifetime w ∷ []) ∷ []) (made (word Lifetime w ∷ [])) refl refl (omega (arith, length-append b [])) (lifetime_of (at + length b) src t w l i y e)
  lifetime_of at (word c v ∷ src) t w l i y e =
      let h : token_at at c v ≡ t = cc in
      let k : places (at + length v) src ≡ [] = cc in
      parts at (at + length v) (word c v ∷ []) src (replaced t.span (word Lifetime w ∷ []) ∷ []) [] (t ∷ []) (made (word Lifetime w ∷ [])) [] (omega (arith, length-append v []))
      (ap (λ x. x ∷ []) h) y (one_lifetime at t c v w (ap (λ (x : Tok). x.class) h ∙ l.0) i h) (kept_part (at + length v) src [] (sym (words_placed (at + length v) src) ∙ ap words k))

  pub spells : {es : List Edit} {ts us : List Tok} → Edited es ts us → Unslashed all es → EachSeen all ts → (at : ℕ) (src : List Piece) → places at src ≡ ts → Spelled all at src es us
  spells (kept ts) u y at src e = kept_part at src ts (sym (words_placed at src) ∙ ap words e)
  spells (instead [] ps n b i) u y at src e = absurd (n refl)
  spells (instead (t ∷ ts) ps n b i) u y at src e = instead_of at src t ts ps i u.0 y e
  spells (renamed t w l i) u y at src e = lifetime_of at src t w l i y e
  spells (next ts z ps n c) u y at src e =
      let k = split at src ts (z ∷ []) e in
      let r = trail at k.front ts k.first n in
      let end = (span_of ts).end in
      let more = r.gap ++ k.back in
      let m : at + length (flat k.front) ≡ end + length (flat r.gap) = omega (arith, r.end, ap (λ x. length (flat x)) r.is, ap length (flat-append r.front r.gap), length-append (flat r.front) (flat r.gap)) in
      let g : places end more ≡ z ∷ [] = gap_places end r.gap k.back (bare_places r.gap r.bare) ∙ ap (λ n. places n k.back) (sym m) ∙ k.second in
      let s : Spelled all at (r.front ++ more) (put end ps ∷ []) (ts ++ (made ps ++ z ∷ [])) = record {
        pieces = r.front ++ (ps ++ more);
        pieced = two_parts at end r.front more r.front (ps ++ more) [] (put end ps ∷ []) ts (made ps ++ z ∷ []) r.end (nothing_edited at r.front ts (sym (words_placed at r.front) ∙ ap words r.placed))
            (put_first end more more ps [] (z ∷ []) (nothing_edited end more (z ∷ []) (sym (words_placed end more) ∙ ap words g)));
        seamed = next_seam all at end ts z ps r.front more n c r.word_last g;
      } in
      such (sym (append_assoc r.front r.gap k.back) ∙ ap (λ x. x ++ k.back) (sym r.is) ∙ sym k.is) refl s
  spells (between {es = es} {ts = ts} {us = us} t u ps o d) q y at src e =
      let k = split at src (t ∷ []) (u ∷ ts) e in
      let mid = at + length (flat k.front) in
      let l = lead mid k.back u ts k.second in
      let s = spells d q.1 y.1 u.span.start l.rest l.placed in
      let front = k.front ++ l.gap in
      let m : u.span.start ≡ at + length (flat front) = omega (arith, l.start, ap length (flat-append k.front l.gap), length-append (flat k.front) (flat l.gap)) in
      let g : places at front ≡ t ∷ [] = places_then at k.front l.gap (bare_places l.gap l.bare) ∙ k.first in
      let a : Spelled all at (front ++ l.rest) (put u.span.start ps ∷ es) (t ∷ (made ps ++ us)) = record {
        pieces = front ++ (ps ++ s.pieces);
        pieced = two_parts at u.span.start front l.rest front (ps ++ s.pieces) [] (put u.span.start ps ∷ es) (t ∷ []) (made ps ++ us) m (nothing_edited at front (t ∷ []) (sym (words_placed at front) ∙ ap words g))
            (put_first u.span.start l.rest s.pieces ps es us s.pieced);
        seamed = between_seam all at t u ps front l.rest s.pieces l.word_first.0 o g m l.word_first.1 (y.0, tt) s.seamed;
      } in
      such (append_assoc k.front l.gap l.rest ∙ ap (λ x. k.front ++ x) (sym l.is) ∙ sym k.is) refl a
  spells (behind {es = es} {ts = ts} {us = us} ps n c d) u y at src e =
      let r = trail at src ts e n in
      let end = (span_of ts).end in
      let s = spells d (unslashed_left all es (put end ps ∷ []) u) y at r.front r.placed in
      let a : Spelled all at (r.front ++ r.gap) (es ++ put end ps ∷ []) (us ++ (made ps ++ [])) = record {
        pieces = s.pieces ++ (ps ++ r.gap);
        pieced = two_parts at end r.front r.gap s.pieces (ps ++ r.gap) es (put end ps ∷ []) us (made ps ++ []) r.end s.pieced (put_first end r.gap r.gap ps [] [] (nothing_edited end r.gap [] r.bare));
        seamed = behind_seam all at ts ps r.front r.gap s.pieces n c r.placed r.word_last s.seamed;
      } in
      such (sym r.is) (ap (λ x. us ++ x) (append-nil (made ps))) a
  spells (joined {es = es} {fs = fs} {ts = ts} {us = us} {vs = vs} {ws = ws} d f) u y at src e =
      let p = split at src ts vs e in
      let s = spells d (unslashed_left all es fs u) (seen_left all ts vs y) at p.front p.first in
      let r = spells f (unslashed_right all es fs u) (seen_right all ts vs y) (at + length (flat p.front)) p.back p.second in
      such (sym p.is) refl (parts at (at + length (flat p.front)) p.front p.back es fs ts us ws refl p.first (seen_left all ts vs y) s r)
