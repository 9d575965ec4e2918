-- A run with a value: text stands directly before its tail's first token, and behind its last. The tokens of the whole.
use Rattle.std.proofs.Common.{◌≡◌, ℕ, ◌+◌, true, List, [], ◌∷◌, ◌++◌, codes, length, length-append, refl, sym, ap, subst, ◌∙◌, arith, append_assoc, append-nil, inl, inr}
use Rattle.std.specs.Prelude.{◌≢◌, ◌⊎◌}
use Rattle.std.proofs.lemmas.Bool.{both_ways}
use Rattle.rx_tree.specs.Plain.{Body, Statement, Expression}
use Rattle.rx_lex.specs.declared.token.Class.{Class}
use Rattle.rx_lex.specs.declared.token.Class.TheVariants.{Mark}
use Rattle.rx_lex.specs.Words.{IsWord}
use Rattle.rx_lex.specs.Tok.{Tok}
use Rattle.rx_lex.specs.Tokens.{AreWords, Tokens, at_line_end}
use Rattle.rx_lex.specs.Stands.{stands}
use Rattle.rx_lex.proofs.Standing.{whole_mark_stands}
use Rattle.rx_parse_grammar.specs.grammar.Words.{IsMark, span_of}
use Rattle.rx_parse_grammar.specs.grammar.Expressions as g
use Rattle.rx_parse_laws.specs.Words.{words}
use Rattle.rx_print_spelling.specs.Pieces.{Piece, word, flat}
use Rattle.rx_print_spelling.proofs.Pieces.{places, flat-append}
use Rattle.rx_splice_laws.specs.Edits.{Edit, put, spliced}
use Rattle.rx_splice_laws.specs.SplicedRun.{Part, between}
use Rattle.rx_splice_laws.specs.RunRead.{ReadBefore}
use Rattle.rx_splice_laws.proofs.AsRead.{onto, onto_is, onto-append, Reads, reads_tokens}
use Rattle.rx_splice_laws.proofs.Seams.{Left, nothing_left, gap_left, left_of, left_of-append, Fits, Seen, EachSeen, seen_left, seen_right, Seamed, seen_behind, reads_front, reads_back, reads_joined}
use Rattle.rx_splice_laws.proofs.Beside.{left_at, left_at_last, Before}
use Rattle.rx_splice_laws.proofs.Put.{read_words, word_no_line, bare_left, fits_of_before}
use Rattle.rx_splice_laws.proofs.Edited.{Edited, made}
use Rattle.rx_splice_laws.proofs.Cut.{bare_places, words_placed, split, lead, trail}
use Rattle.rx_splice_laws.proofs.Spelled.{Unslashed, Pieced, two_parts, put_first, places_then, spells}
use Rattle.rx_splice_laws.proofs.Stars.{part_seen}
use Rattle.rx_splice_laws.proofs.RunSpliced.{Bytes, blank_fits}
use Rattle.rx_splice_laws.specs.Fronts.{Fronts, none_in_front, statement_in_front, like_in_front}

-- ---- statements end with `;` or `}`, before which and behind which anything may stand

abbrev pub Ended : List Tok → Type 0
Ended ts = (r : List ℕ) → Before (left_at ts) r

mark_ended : (w : List ℕ) (us : List Tok) (t : Tok) → ((r : List ℕ) → stands Mark w r ≡ true) → IsMark w t → Ended (us ++ t ∷ [])
mark_ended w us t f m r = subst (λ l. Before l r) (sym (left_at_last us t)) (ap (λ c. stands c t.text r) m.0 ∙ ap (λ v. stands Mark v r) m.1 ∙ f r)

semicolon_ended : (us : List Tok) (t : Tok) → IsMark (codes ";") t → Ended (us ++ t ∷ [])
semicolon_ended us t m = mark_ended (codes ";") us t (λ r. whole_mark_stands (codes ";") r refl) m

brace_ended : (us : List Tok) (t : Tok) → IsMark (codes "}") t → Ended (us ++ t ∷ [])
brace_ended us t m = mark_ended (codes "}") us t (λ r. whole_mark_stands (codes "}") r refl) m

ended_behind : (us vs : List Tok) → vs ≢ [] → Ended vs → Ended (us ++ vs)
ended_behind us [] n e = absurd (n refl)
ended_behind [] (v ∷ vs) n e = e
ended_behind (u ∷ []) (v ∷ vs) n e = e
ended_behind (u ∷ w ∷ us) (v ∷ vs) n e = ended_behind (w ∷ us) (v ∷ vs) n e

ended_as : {ts us : List Tok} → ts ≡ us → Ended us → Ended ts
ended_as i e = subst Ended (sym i) e

some_block : {ts : List Tok} {b : Body} {h : ℕ} → g.IsBlock ts b h → ts ≢ []
some_block (g.braces o c us ss y h so sc d is) n = absurd (cc)

block_ended : {ts : List Tok} {b : Body} {h : ℕ} → g.IsBlock ts b h → Ended ts
block_ended (g.braces o c us ss y h so sc d is) = ended_as is (brace_ended (o ∷ us) c sc)

mutual
  if_ended : {ts : List Tok} {x : Expression} {h : ℕ} → g.IsIf ts x h → Ended ts
  if_ended (g.if_alone t us vs x b m n st c r is) = ended_as is (ended_behind (t ∷ us) vs (some_block r) (block_ended r))
  if_ended (g.if_else t e us vs ws x y b m n k st se c r s is) =
      ended_as (is ∙ ap (λ z. t ∷ z) (sym (append_assoc us vs (e ∷ ws)))) (ended_behind (t ∷ (us ++ vs)) (e ∷ ws) (λ i. absurd (cc)) (ended_behind (e ∷ []) ws (else_some s) (else_ended s)))

  else_ended : {ts : List Tok} {x : Expression} {h : ℕ} → g.IsElse ts x h → Ended ts
  else_ended (g.else_block b h d) = block_ended d
  else_ended (g.else_if d) = if_ended d

  else_some : {ts : List Tok} {x : Expression} {h : ℕ} → g.IsElse ts x h → ts ≢ []
  else_some (g.else_block b h d) = some_block d
  else_some (g.else_if d) = if_some d

  if_some : {ts : List Tok} {x : Expression} {h : ℕ} → g.IsIf ts x h → ts ≢ []
  if_some (g.if_alone t us vs x b m n st c r is) i = absurd (cc)
  if_some (g.if_else t e us vs ws x y b m n k st se c r s is) i = absurd (cc)

like_ended : {ts : List Tok} {x : Expression} {h : ℕ} → g.IsLike ts x h → Ended ts
like_ended (g.block b h d) = block_ended d
like_ended (g.conditional d) = if_ended d
like_ended (g.match t o c us vs x a more m n st so sc d r is) = ended_as (is ∙ ap (λ z. t ∷ z) (sym (append_assoc us (o ∷ vs) (c ∷ [])))) (brace_ended (t ∷ (us ++ (o ∷ vs))) c sc)
like_ended (g.loop ls us t l b h sl st d is) = ended_as (is ∙ sym (append_assoc ls (t ∷ []) us)) (ended_behind (ls ++ t ∷ []) us (some_block d) (block_ended d))
like_ended (g.while ls us vs t l x b m n sl st c d is) =
    ended_as (is ∙ sym (append_assoc ls (t ∷ us) vs)) (ended_behind (ls ++ (t ∷ us)) vs (some_block d) (block_ended d))

pub like_some : {ts : List Tok} {x : Expression} {h : ℕ} → g.IsLike ts x h → ts ≢ []
like_some (g.block b h d) i = some_block d i
like_some (g.conditional d) i = if_some d i
like_some (g.match t o c us vs x a more m n st so sc d r is) i = absurd (cc)
like_some (g.loop ls us t l b h sl st d is) i = block_behind ls (t ∷ us) (λ e. absurd (cc)) (sym is ∙ i)
  where
    block_behind : (us vs : List Tok) → vs ≢ [] → us ++ vs ≢ []
    block_behind [] vs n e = n e
    block_behind (u ∷ us) vs n e = absurd (cc)
like_some (g.while ls us vs t l x b m n sl st c d is) i = block_behind ls (t ∷ (us ++ vs)) (λ e. absurd (cc)) (sym is ∙ i)
  where
    block_behind : (us vs : List Tok) → vs ≢ [] → us ++ vs ≢ []
    block_behind [] vs n e = n e
    block_behind (u ∷ us) vs n e = absurd (cc)

statement_ended : {ts : List Tok} {a : Statement} {h : ℕ} → g.IsStatement ts a h → Ended ts
statement_ended (g.let_with t q z ps ys us w y x m n k st sq sz sp sy d is) =
    ended_as (is ∙ ap (λ v. t ∷ v) (sym (append_assoc ps (ys ++ (q ∷ us)) (z ∷ []) ∙ ap (λ v. ps ++ v) (append_assoc ys (q ∷ us) (z ∷ []))))) (semicolon_ended (t ∷ (ps ++ (ys ++ (q ∷ us)))) z sz)
statement_ended (g.let_without t n z ms ys m y h st sn sz sm sy is) =
    ended_as (is ∙ ap (λ v. t ∷ v) (sym (append_assoc (ms ++ n ∷ []) ys (z ∷ [])))) (semicolon_ended (t ∷ ((ms ++ n ∷ []) ++ ys)) z sz)
statement_ended (g.done z us x h sz d nb is) = ended_as is (semicolon_ended us z sz)
statement_ended (g.done_like z us x h sz d is) = ended_as is (semicolon_ended us z sz)

last_some : (us : List Tok) (z : Tok) → us ++ z ∷ [] ≢ []
last_some [] z e = absurd (cc)
last_some (u ∷ us) z e = absurd (cc)

pub statement_some : {ts : List Tok} {a : Statement} {h : ℕ} → g.IsStatement ts a h → ts ≢ []
statement_some (g.let_with t q z ps ys us w y x m n k st sq sz sp sy d is) i = absurd (cc)
statement_some (g.let_without t n z ms ys m y h st sn sz sm sy is) i = absurd (cc)
statement_some (g.done z us x h sz d nb is) i = last_some us z (sym is ∙ i)
statement_some (g.done_like z us x h sz d is) i = last_some us z (sym is ∙ i)

-- behind statements in front of something
pub fronts_ended : {ts : List Tok} {ss : List Statement} {h : ℕ} → Fronts ts ss h → Ended ts
fronts_ended none_in_front = λ r. tt
fronts_ended (statement_in_front us [] a ss m n d f is) = ended_as (is ∙ append-nil us) (statement_ended d)
fronts_ended (statement_in_front us (v ∷ vs) a ss m n d f is) = ended_as is (ended_behind us (v ∷ vs) (λ e. absurd (cc)) (fronts_ended f))
fronts_ended (like_in_front us [] x ss m n d f is) = ended_as (is ∙ append-nil us) (like_ended d)
fronts_ended (like_in_front us (v ∷ vs) x ss m n d f is) = ended_as is (ended_behind us (v ∷ vs) (λ e. absurd (cc)) (fronts_ended f))

-- ---- what stands in front of the tail

either_left : (x k m : Left) (n : ℕ) → x ≡ k → (k ≡ gap_left) ⊎ ((k ≡ m) × (n ≡ 0)) → (x ≡ gap_left) ⊎ (x ≡ m)
either_left x k m n e (inl h) = inl (e ∙ h)
either_left x k m n e (inr h) = inr (e ∙ h.0)

behind_left : (at : ℕ) (ps : List Piece) (us : List Tok) → places at ps ≡ us → (left_of nothing_left ps ≡ gap_left) ⊎ (left_of nothing_left ps ≡ left_at us)
behind_left at ps [] e = either_left (left_of nothing_left ps) (left_of nothing_left ps) nothing_left (length (flat ps)) refl (bare_left at ps nothing_left e)
behind_left at ps (u ∷ us) e =
    let t = trail at ps (u ∷ us) e (λ z. absurd (cc)) in
    let m : left_of nothing_left ps ≡ left_of (left_at (u ∷ us)) t.gap = ap (left_of nothing_left) t.is ∙ left_of-append nothing_left t.front t.gap ∙ ap (λ l. left_of l t.gap) (t.word_last nothing_left) in
    either_left (left_of nothing_left ps) (left_of (left_at (u ∷ us)) t.gap) (left_at (u ∷ us)) (length (flat t.gap)) m (bare_left 0 t.gap (left_at (u ∷ us)) (bare_places t.gap t.bare 0))

before_tail : (us : List Tok) (l : Left) {c : Class} {w : List ℕ} (x s : List ℕ) → IsWord c w → Ended us → (l ≡ gap_left) ⊎ (l ≡ left_at us) → Fits l (w ++ x) s
before_tail us l {w = w} x s i e (inl g') = subst (λ k. Fits k (w ++ x) s) (sym g') (λ h. absurd (both_ways (at_line_end (w ++ x)) (word_no_line x i) h))
before_tail [] l {w = w} x s i e (inr g') = subst (λ k. Fits k (w ++ x) s) (sym g') tt
before_tail (u ∷ us) l {w = w} x s i e (inr g') = subst (λ k. Fits k (w ++ x) s) (sym g') (fits_of_before (u ∷ us) (w ++ x) s (λ z. absurd (cc)) (e s))

put_reads : (all us : List Tok) (v : Tok) (ps f rest new1 new2 qs : List Piece) (from : ℕ) (r s : List ℕ) → Ended us → ((q : List ℕ) → Reads ps q) → places from f ≡ us → v.span.start ≡ from + length (flat f)
    → rest ≡ word v.class v.text ∷ qs → EachSeen all us → Seamed all from f new1 → Seamed all v.span.start rest new2 → Reads (f ++ rest) r → Fits (left_of nothing_left (f ++ rest)) r s → Reads (new1 ++ (ps ++ new2)) s
put_reads all us v ps f rest new1 new2 qs from r s k o e m w y d t a h =
    let x = reads_front f rest r a in
    let z = reads_back f rest r a in
    let i = subst (λ p. Reads p r) w z in
    let n = t.so (left_of nothing_left f) r s (subst (λ j. Seen all j (left_of nothing_left f)) (sym m) (seen_behind all from nothing_left f (onto rest r) tt x (subst (EachSeen all) (sym e) y))) z
    (subst (λ p. Fits p r s) (left_of-append nothing_left f rest) h) in
    let b = subst (λ p. Fits (left_of nothing_left f) (onto p r) (onto ps (onto new2 s))) (sym w) (before_tail us (left_of nothing_left f) (onto qs r) (onto ps (onto new2 s)) i.0 k (behind_left from f us e)) in
    let q = d.so nothing_left (onto rest r) (onto ps (onto new2 s)) tt x b in
    reads_joined new1 (ps ++ new2) s (subst (Reads new1) (sym (onto-append ps new2 s)) q.reads) (reads_joined ps new2 s (o (onto new2 s)) n.reads)

-- ---- the whole, wherever it stands

pub record ReadPut (text : List ℕ) (ts : List Tok) (es : List Edit) (us : List Tok) (at : ℕ) : Type 0 where
  pub tokens : List Tok
  pub read : ReadBefore at (spliced (span_of ts).start (between (span_of ts).start (span_of ts).end text) es) tokens
  pub same : words tokens ≡ words us

pub put_read : (text : List ℕ) (all us : List Tok) (v : Tok) (vs : List Tok) {es fs : List Edit} {us2 vs2 : List Tok} (ps : List Piece) → Ended us → ((r : List ℕ) → Reads ps r) → Edited es us us2 → Edited fs (v ∷ vs) vs2
    → Unslashed all es → Unslashed all fs → Part all (us ++ (v ∷ vs)) → us ++ (v ∷ vs) ≢ [] → Bytes text (us ++ (v ∷ vs)) → (at : ℕ)
    → ReadPut text (us ++ (v ∷ vs)) (es ++ (put v.span.start ps ∷ fs)) (us2 ++ (made ps ++ vs2)) at
put_read text all us v vs {es} {fs} {us2} {vs2} ps k o d e x y p some b at =
    let from = (span_of (us ++ (v ∷ vs))).start in
    let c = split from b.pieces us (v ∷ vs) b.placed in
    let l = lead (from + length (flat c.front)) c.back v vs c.second in
    let f = c.front ++ l.gap in
    let j : places from f ≡ us = places_then from c.front l.gap (bare_places l.gap l.bare) ∙ c.first in
    let m : v.span.start ≡ from + length (flat f) = omega (arith, l.start, ap length (flat-append c.front l.gap), length-append (flat c.front) (flat l.gap)) in
    let h = part_seen all (us ++ (v ∷ vs)) p in
    let s = spells all d x (seen_left all us (v ∷ vs) h) from f j in
    let t = spells all e y (seen_right all us (v ∷ vs) h) v.span.start l.rest l.placed in
    let src : f ++ l.rest ≡ b.pieces = append_assoc c.front l.gap l.rest ∙ ap (λ z. c.front ++ z) (sym l.is) ∙ sym c.is in
    let w : Pieced from (f ++ l.rest) (s.pieces ++ (ps ++ t.pieces)) (es ++ (put v.span.start ps ∷ fs)) (us2 ++ (made ps ++ vs2)) =
    two_parts from v.span.start f l.rest s.pieces (ps ++ t.pieces) es (put v.span.start ps ∷ fs) us2 (made ps ++ vs2) m s.pieced (put_first v.span.start l.rest t.pieces ps fs vs2 t.pieced) in
    let i : flat (s.pieces ++ (ps ++ t.pieces)) ≡ spliced from (between from (span_of (us ++ (v ∷ vs))).end text) (es ++ (put v.span.start ps ∷ fs)) =
    w.text ∙ ap (λ z. spliced from (flat z) (es ++ (put v.span.start ps ∷ fs))) src ∙ ap (λ z. spliced from z (es ++ (put v.span.start ps ∷ fs))) b.is in
    let left : left_of nothing_left (f ++ l.rest) ≡ left_at (us ++ (v ∷ vs)) = ap (left_of nothing_left) src ∙ b.ends nothing_left in
    let ws = subst AreWords b.placed (read_words from b.pieces b.rest b.reads) in
    record {
      tokens = places at (s.pieces ++ (ps ++ t.pieces));
      read = record {
        read = λ r more n q.
            subst (λ z. Tokens at z (places at (s.pieces ++ (ps ++ t.pieces)) ++ more)) (onto_is (s.pieces ++ (ps ++ t.pieces)) r ∙ ap (λ z. z ++ r) i)
            (reads_tokens at (s.pieces ++ (ps ++ t.pieces)) r more
            (put_reads all us v ps f l.rest s.pieces t.pieces l.word_first.0 from b.rest r k o j m l.word_first.1 (seen_left all us (v ∷ vs) h) s.seamed t.seamed (subst (λ z. Reads z b.rest) (sym src) b.reads)
            (subst (λ z. Fits z b.rest r) (sym left) (blank_fits (us ++ (v ∷ vs)) b.rest r some ws n)))
            (subst (λ z. Tokens (at + length z) r more) (sym i) q));
      };
      same = words_placed at (s.pieces ++ (ps ++ t.pieces)) ∙ w.words;
    }
