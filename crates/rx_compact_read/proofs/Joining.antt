-- The parts of a text with the edits of a short signature, one behind the other: their tokens.
use Rattle.std.proofs.Common.{◌≡◌, inl, inr, ℕ, ◌+◌, true, false, List, [], ◌∷◌, ◌++◌, map, codes, length, length-append, refl, sym, ap, subst, ◌∙◌, append_assoc, append-nil, arith}
use Rattle.std.specs.Prelude.{not}
use Rattle.std.proofs.lemmas.Bool.{false≢true}
use Rattle.rx_tree.specs.declared.tree.BoundLifetime.{BoundLifetime}
use Rattle.rx_tree.specs.Lists.{Every}
use Rattle.rx_lex.specs.declared.token.Class.{Class}
use Rattle.rx_lex.specs.declared.token.Class.TheVariants.{Identifier, Mark}
use Rattle.rx_lex.specs.Words.{goes_on}
use Rattle.rx_lex.specs.Stands.{stands}
use Rattle.rx_lex.specs.Tok.{Tok}
use Rattle.rx_lex.specs.Tokens.{Tokens, none, at_line_end}
use Rattle.rx_parse_grammar.specs.grammar.Words.{IsMark}
use Rattle.rx_parse_laws.specs.Words.{words}
use Rattle.rx_print_spelling.specs.Pieces.{Piece, word, flat}
use Rattle.rx_print_spelling.specs.Items.{in_angles, bound_pieces}
use Rattle.rx_print_spelling.specs.Formed.{FormedBound}
use Rattle.rx_print_spelling.proofs.Pieces.{places, past, places-append, flat-append}
use Rattle.rx_splice_laws.specs.Edits.{Edit, spliced}
use Rattle.rx_splice_laws.specs.SplicedRun.{piece_words}
use Rattle.rx_splice_laws.proofs.AsRead.{onto, onto_is, onto-append, Reads, reads_tokens}
use Rattle.rx_splice_laws.proofs.Cut.{words_placed}
use Rattle.rx_splice_laws.proofs.Seams.{EachSeen, Seen, Left, nothing_left, word_left, left_of, left_of-append, Fits, alike_low, fits_alike, seen_behind, kept_read, reads_front, reads_back}
use Rattle.rx_splice_laws.proofs.Put.{last_ends, quiet_token}
use Rattle.rx_splice_laws.proofs.Beside.{Before}
use Rattle.rx_splice_laws.proofs.Spelled.{Pieced, Spelled, two_parts, nothing_edited, all_replaced}
use Rattle.rx_splice_laws.proofs.Stars.{part_seen}
use Rattle.rx_compact_read.specs.Halves.{halves, halves_of}
use Rattle.rx_compact_read.proofs.Meeting.{meets, halved}
use Rattle.rx_compact_read.proofs.SignatureSeams.{FitsMeeting}
use Rattle.rx_compact_read.proofs.SignatureEdits.{SpelledSignature}
use Rattle.rx_compact_read.proofs.Lists.{list_reads}
use Rattle.rx_compact_read.proofs.Ends.{Last, last_left, left_same, stops_ends, last_fits, fits_more, fits_end, no_meeting}
use Rattle.rx_compact_read.proofs.Parted.{Parted, Listed}

abbrev pub map_pieces : List BoundLifetime → List (List Piece)
map_pieces ls = map bound_pieces ls

less_no_ampersand : codes ">" ≡ codes "&" → ⊥
less_no_ampersand e = absurd (cc)

-- ---- the list, behind the function's name

pub record Listing (n : Tok) (at : ℕ) (l new : List Piece) (es : List Edit) : Type 0 where
  pub pieced : Pieced at l new es (places at new)
  pub so : (r s : List ℕ) → Reads l r → ((k : Left) → FitsMeeting k r s) → goes_on r ≡ false → (k : Left) → Last k n → Reads new s × Fits k (onto l r) (onto new s)

no_mark : {c : Class} {P : Type 0} → c ≡ Identifier → c ≡ Mark → P
no_mark e f = let h : Identifier ≡ Mark = sym e ∙ f in absurd (cc)

placed_words : (at : ℕ) (ps : List Piece) → piece_words ps ≡ words (places at ps)
placed_words at ps = sym (words_placed at ps)

-- there is none
pub no_list : (n : Tok) (at : ℕ) → n.class ≡ Identifier → Listing n at [] [] []
no_list n at i = record {
  pieced = nothing_edited at [] [] refl;
  so = λ r s a f q k e. (tt, last_fits k n r s e (λ m. no_mark i m) (f k));
}

-- it is replaced by what has these words
list_pieced : (at : ℕ) (from to : ℕ) (l new : List Piece) → from ≡ at → to ≡ at + length (flat l) → Pieced at l new (record { from = from; to = to; by = new } ∷ []) (places at new)
list_pieced at from to l new e f =
    let p = all_replaced at to l new f in
    subst (λ x. Pieced at l new (record { from = x; to = to; by = new } ∷ []) (places at new)) (sym e) (record {
      text = p.text;
      words = placed_words at new;
      ordered = p.ordered;
    })

less_first : (o : Tok) (l more : List Piece) (r : List ℕ) → IsMark (codes "<") o → l ≡ word o.class o.text ∷ more → onto l r ≡ 60 ∷ onto more r
less_first o l more r s e = ap (λ ps. onto ps r) e ∙ ap (λ w. w ++ onto more r) s.1

pub new_list : (n o c : Tok) (a l : List Piece) (x : BoundLifetime) (xs : List BoundLifetime) (from to : ℕ) → IsMark (codes "<") o → IsMark (codes ">") c → Every FormedBound (x ∷ xs) → Listed a l o c
    → from ≡ 0 + length (flat a) → to ≡ (0 + length (flat a)) + length (flat l)
    → Listing n (0 + length (flat a)) l (in_angles (map_pieces (x ∷ xs))) (record { from = from; to = to; by = in_angles (map_pieces (x ∷ xs)) } ∷ [])
new_list n o c a l x xs from to so sc f d e g = record {
  pieced = list_pieced (0 + length (flat a)) from to l (in_angles (map_pieces (x ∷ xs))) e g;
  so = λ r s h q z k i.
      let b = subst (λ y. Before y r) (d.last nothing_left) (last_ends l nothing_left r h tt) in
      let t = stops_ends (λ m p. less_no_ampersand (sym sc.1 ∙ p)) (q (word_left c.class c.text) b) in
      let t2 : stands Mark (codes ">") s ≡ true = ap (λ y. stands y (codes ">") s) (sym sc.0) ∙ ap (λ w. stands c.class w s) (sym sc.1) ∙ t in (
        list_reads x xs s f t2,
        subst (λ y. Fits k y (onto (in_angles (map_pieces (x ∷ xs))) s)) (sym (less_first o l d.more r so d.is)) (fits_alike k (60 ∷ onto d.more r) (onto (in_angles (map_pieces (x ∷ xs))) s) (alike_low 60 _ _ (omega arith))),
      );
}

pub lost_list : (n o c : Tok) (a l : List Piece) (from to : ℕ) → n.class ≡ Identifier → IsMark (codes "<") o → Listed a l o c → from ≡ 0 + length (flat a) → to ≡ (0 + length (flat a)) + length (flat l)
    → Listing n (0 + length (flat a)) l [] (record { from = from; to = to; by = [] } ∷ [])
lost_list n o c a l from to i so d e g = record {
  pieced = list_pieced (0 + length (flat a)) from to l [] e g;
  so = λ r s h q z k la. (tt, lost r s q z k la);
}
  where
    lost : (r s : List ℕ) → ((k : Left) → FitsMeeting k r s) → goes_on r ≡ false → (k : Left) → Last k n → Fits k (onto l r) s
    lost r s q z k (inl g) = subst (λ x. Fits x (onto l r) s) (sym g) (λ h. absurd (false≢true (sym (ap at_line_end (less_first o l d.more r so d.is)) ∙ h)))
    lost r s q z k (inr g) = subst (λ x. Fits x (onto l r) s) (sym g) (λ h. stops_ends (λ m p. no_mark i m) (q (word_left n.class n.text) (ap (λ x. stands x n.text r) i ∙ ap not z)))

-- ---- all parts

pub record Joined (text : List ℕ) (es : List Edit) (before : List Tok) (new : List Piece) (sign body : List Tok) : Type 0 where
  pub at : ℕ
  pub signature : List Tok
  pub behind : List Tok
  pub read : Tokens 0 (spliced 0 text es) (before ++ (places at new ++ (signature ++ behind)))
  pub halves : halves_of signature ≡ halves_of sign
  pub body_words : words behind ≡ words body

seen_ahead : (all : List Tok) (ahead b : List Piece) → places 0 (ahead ++ b) ≡ all → EachSeen all (places 0 ahead)
seen_ahead all ahead b e = part_seen all (places 0 ahead) (record { pre = []; post = places (past 0 ahead) b; is = sym e ∙ places-append 0 ahead b })

pub joined_parts : (text : List ℕ) (all before list sign behind : List Tok) (P : Parted text all before list sign behind) (n o z : Tok) (front more us : List Tok) (new : List Piece) (esL esS esB : List Edit) (signed body : List Tok)
    → before ≡ front ++ n ∷ [] → n.class ≡ Identifier → sign ≡ o ∷ more → IsMark (codes "(") o → Listing n (0 + length (flat P.a)) P.l new esL
    → SpelledSignature ((0 + length (flat P.a)) + length (flat P.l)) P.s esS signed → Spelled all (((0 + length (flat P.a)) + length (flat P.l)) + length (flat P.s)) P.b esB body → body ≡ z ∷ us → IsMark (codes "{") z
    → Joined text (esL ++ (esS ++ esB)) before new signed body
joined_parts text all before list sign behind P n o z front more us new esL esS esB signed body first ni opens so L S B begins sz =
    let r2 : List ℕ = onto P.b [] in
    let s2 : List ℕ = onto B.pieces [] in
    let back = reads_back P.a (P.l ++ (P.s ++ P.b)) [] P.reads in
    let back2 = reads_back P.l (P.s ++ P.b) [] back in
    let reads_a : Reads P.a (onto P.l (onto P.s r2)) = subst (Reads P.a) (onto-append P.l (P.s ++ P.b) [] ∙ ap (onto P.l) (onto-append P.s P.b [])) (reads_front P.a (P.l ++ (P.s ++ P.b)) [] P.reads) in
    let reads_l : Reads P.l (onto P.s r2) = subst (Reads P.l) (onto-append P.s P.b []) (reads_front P.l (P.s ++ P.b) [] back) in
    let reads_s : Reads P.s r2 = reads_front P.s P.b [] back2 in
    let reads_b : Reads P.b [] = reads_back P.s P.b [] back2 in
    let ahead_is : P.a ++ (P.l ++ (P.s ++ P.b)) ≡ ((P.a ++ P.l) ++ P.s) ++ P.b =
    sym (append_assoc P.a P.l (P.s ++ P.b)) ∙ sym (append_assoc (P.a ++ P.l) P.s P.b) in
    let l0 : Left = left_of nothing_left ((P.a ++ P.l) ++ P.s) in
    let seen = seen_behind all 0 nothing_left ((P.a ++ P.l) ++ P.s) (onto P.b []) tt (reads_front ((P.a ++ P.l) ++ P.s) P.b [] (subst (λ x. Reads x []) ahead_is P.reads))
    (seen_ahead all ((P.a ++ P.l) ++ P.s) P.b (ap (places 0) (sym ahead_is) ∙ P.placed)) in
    let place : 0 + length (flat ((P.a ++ P.l) ++ P.s)) ≡ ((0 + length (flat P.a)) + length (flat P.l)) + length (flat P.s) =
    omega (arith, ap length (flat-append (P.a ++ P.l) P.s), length-append (flat (P.a ++ P.l)) (flat P.s), ap length (flat-append P.a P.l), length-append (flat P.a) (flat P.l)) in
    let qB = B.seamed.so l0 [] [] (subst (λ k. Seen all k l0) place seen) reads_b (fits_end (left_of l0 P.b)) in
    let tS : places ((0 + length (flat P.a)) + length (flat P.l)) P.s ≡ o ∷ more = P.third ∙ opens in
    let lS : Left = left_of nothing_left (P.a ++ P.l) in
    let fits : (k : Left) → FitsMeeting (left_of k P.s) r2 s2 = (λ k. subst (λ x. FitsMeeting x r2 s2) (left_of-append nothing_left (P.a ++ P.l) P.s ∙ left_same ((0 + length (flat P.a)) + length (flat P.l)) P.s o more tS lS k) (fits_more l0 r2 s2 qB.fits)) in
    let FS : (k : Left) → FitsMeeting k (onto P.s r2) (onto S.pieces s2) = (λ k. let q = S.seamed.so k r2 s2 reads_s (fits k) in q.fits) in
    let qS = S.seamed.so lS r2 s2 reads_s (fits lS) in
    let quiet = quiet_token ((0 + length (flat P.a)) + length (flat P.l)) P.s o more r2 tS reads_s (λ r. ap (λ w. goes_on (w ++ r)) so.1) in
    let kA : Left = left_of nothing_left P.a in
    let la : Last kA n = last_left 0 P.a front n nothing_left (P.first ∙ first) in
    let LL = L.so (onto P.s r2) (onto S.pieces s2) reads_l FS quiet kA la in
    let qA = kept_read P.a nothing_left (onto P.l (onto P.s r2)) (onto new (onto S.pieces s2)) reads_a LL.1 in
    let pL : ℕ = 0 + length (flat P.a) in
    let pS : ℕ = pL + length (flat new) in
    let pB : ℕ = pS + length (flat S.pieces) in
    let tB : Tokens pB s2 (places pB B.pieces ++ []) = reads_tokens pB B.pieces [] [] qB.reads none in
    let quiet2 : meets s2 ≡ false = no_meeting B.pieces [] Mark (codes "{") (words us) qB.reads (B.pieced.words ∙ ap words begins ∙ ap (λ c. (c, z.text) ∷ words us) sz.0 ∙ ap (λ w. (Mark, w) ∷ words us) sz.1) refl in
    let hS = halved S.pieces pS s2 (places pB B.pieces ++ []) qS.reads quiet2 tB in
    let tL = reads_tokens pL new (onto S.pieces s2) (hS.tokens ++ (places pB B.pieces ++ [])) LL.0 hS.read in
    let tA = reads_tokens 0 P.a (onto new (onto S.pieces s2)) (places pL new ++ (hS.tokens ++ (places pB B.pieces ++ []))) qA.reads tL in
    let done = two_parts 0 pL P.a (P.l ++ (P.s ++ P.b)) P.a (new ++ (S.pieces ++ B.pieces)) [] (esL ++ (esS ++ esB)) before (places pL new ++ (signed ++ body)) refl (nothing_edited 0 P.a before (placed_words 0 P.a ∙ ap words P.first))
    (two_parts pL (pL + length (flat P.l)) P.l (P.s ++ P.b) new (S.pieces ++ B.pieces) esL (esS ++ esB) (places pL new) (signed ++ body) refl L.pieced
    (two_parts (pL + length (flat P.l)) ((pL + length (flat P.l)) + length (flat P.s)) P.s P.b S.pieces B.pieces esS esB signed body refl S.pieced B.pieced)) in
    let text_is : onto P.a (onto new (onto S.pieces s2)) ≡ spliced 0 text (esL ++ (esS ++ esB)) =
    sym (onto-append P.a (new ++ (S.pieces ++ B.pieces)) [] ∙ ap (onto P.a) (onto-append new (S.pieces ++ B.pieces) [] ∙ ap (onto new) (onto-append S.pieces B.pieces [])))
    ∙ onto_is (P.a ++ (new ++ (S.pieces ++ B.pieces))) [] ∙ append-nil (flat (P.a ++ (new ++ (S.pieces ++ B.pieces)))) ∙ done.text ∙ ap (λ t. spliced 0 t (esL ++ (esS ++ esB))) P.whole in
    record {
      at = pL;
      signature = hS.tokens;
      behind = places pB B.pieces;
      read = subst (λ t. Tokens 0 t (before ++ (places pL new ++ (hS.tokens ++ places pB B.pieces)))) text_is
          (subst (λ ts. Tokens 0 (onto P.a (onto new (onto S.pieces s2))) (ts ++ (places pL new ++ (hS.tokens ++ places pB B.pieces)))) P.first
          (subst (λ ts. Tokens 0 (onto P.a (onto new (onto S.pieces s2))) (places 0 P.a ++ (places pL new ++ (hS.tokens ++ ts)))) (append-nil (places pB B.pieces)) tA));
      halves = hS.same ∙ ap halves S.pieced.words;
      body_words = words_placed pB B.pieces ∙ B.pieced.words;
    }
