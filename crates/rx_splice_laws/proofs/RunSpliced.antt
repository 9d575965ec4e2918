-- The text of a run with its edits: its words are derived as what becomes of the run.
use Rattle.std.proofs.Common.{◌≡◌, ℕ, ◌+◌, ◌-◌, ◌≤◌, true, List, [], ◌∷◌, ◌++◌, length, length-append, take, refl, sym, ap, subst, ◌∙◌, arith, append_assoc}
use Rattle.std.specs.Prelude.{◌≢◌}
use Rattle.std.proofs.lemmas.List.{take_at, drop_at}
use Rattle.rx_core.specs.declared.types.Span.{Span}
use Rattle.rx_tree.specs.Plain as plain
use Rattle.rx_tree.specs.Plain.{OptionalExpression, Statement, ProgramTree}
use Rattle.rx_tree.specs.PlainOf.{statements_of}
use Rattle.rx_tree.specs.Erase.{erase_statements, erase_optional}
use Rattle.rx_lex.specs.declared.token.Class.{Class}
use Rattle.rx_lex.specs.Words.{IsWord}
use Rattle.rx_lex.specs.Stands.{stands}
use Rattle.rx_lex.proofs.Standing.{stands_at_end, stands_before_blank}
use Rattle.rx_lex.specs.Tok.{Tok}
use Rattle.rx_lex.specs.Tokens.{Tokens, Lexes, AreWords}
use Rattle.rx_parse_grammar.specs.grammar.Words.{span_of}
use Rattle.rx_parse_grammar.specs.grammar.Expressions.{AreStatements}
use Rattle.rx_parse_laws.specs.Parts.{Within, erased_within}
use Rattle.rx_parse_laws.proofs.SameWords.{Again}
use Rattle.rx_parse_laws.proofs.ExpressionsAgain.{statements_again}
use Rattle.rx_print_spelling.specs.Pieces.{Piece, flat}
use Rattle.rx_print_spelling.proofs.Pieces.{places, flat-append}
use Rattle.rx_resolve_names.specs.Meant.{Around}
use Rattle.rx_hoist_extraction.specs.Names.{behind_all}
use Rattle.rx_hoist_extraction.specs.Plan.{Plan}
use Rattle.rx_hoist_extraction.specs.Changed.{changed_statements, changed_optional}
use Rattle.rx_hoist_extraction.specs.FormedPlan.{FormedPlan}
use Rattle.rx_splice_laws.specs.Edits.{spliced, Ordered}
use Rattle.rx_splice_laws.specs.EditsOf.{all_statement_edits, optional_edits}
use Rattle.rx_splice_laws.specs.Moving.{Moving, run_edits, run_changes}
use Rattle.rx_splice_laws.specs.MovedBy.{moved_by, PinsLow}
use Rattle.rx_splice_laws.specs.SplicedRun.{Part, between, edits_of_run, MovedRun, SplicedRun}
use Rattle.rx_splice_laws.specs.RunRead.{begins_blank, ReadBefore, run_bytes, ReadRun}
use Rattle.rx_splice_laws.proofs.Cut.{words_placed, split, lead, trail}
use Rattle.rx_splice_laws.proofs.Spelled.{Unslashed, spells}
use Rattle.rx_splice_laws.proofs.Stars.{unslashed-append, all_statement_stars, optional_stars, run_unslashed, part_seen}
use Rattle.rx_splice_laws.proofs.AsRead.{as_pieces, onto, onto_is, Reads, reads_tokens}
use Rattle.rx_splice_laws.proofs.Seams.{Left, nothing_left, left_of, Fits, Seamed, reads_front, reads_back}
use Rattle.rx_splice_laws.proofs.Put.{read_words}
use Rattle.rx_splice_laws.proofs.Beside.{left_at}
use Rattle.rx_splice_laws.proofs.Fitting.{run_kept}
use Rattle.rx_splice_laws.proofs.Settling.{text_settled}
use Rattle.rx_splice_laws.proofs.Bounded.{EachBounded, tokens_bounded, bounded_left, bounded_right, edits_bounded, in_order}
use Rattle.rx_splice_laws.proofs.Planned.{plan_spelt}
use Rattle.rx_splice_laws.proofs.MovedTwice.{statements_moved, tail_moved}

-- ---- the run's bytes

-- the pieces of a part of the text, from its first token to its last
pub record Bytes (text : List ℕ) (ts : List Tok) : Type 0 where
  pub pieces : List Piece
  pub placed : places (span_of ts).start pieces ≡ ts
  pub is : flat pieces ≡ between (span_of ts).start (span_of ts).end text
  pub end : (span_of ts).end ≡ (span_of ts).start + length (flat pieces)
  pub within : (span_of ts).end ≤ length text
  -- each word ends before what follows it in the text
  pub rest : List ℕ
  pub reads : Reads pieces rest
  pub ends : (l : Left) → left_of l pieces ≡ left_at ts

middle : (a b c : List ℕ) (from to : ℕ) → from ≡ length a → to ≡ from + length b → between from to (a ++ (b ++ c)) ≡ b
middle a b c from to e f =
    let k : length b ≡ to - from = omega (arith, f) in
    ap (λ x. take (to - from) x) (drop_at a (b ++ c) from (sym e)) ∙ take_at b c (to - from) k

in_the_middle : (text a b c : List ℕ) (from to : ℕ) → text ≡ a ++ (b ++ c) → from ≡ length a → to ≡ from + length b → between from to text ≡ b
in_the_middle text a b c from to e f g = ap (between from to) e ∙ middle a b c from to f g

up_to_end : (text a b c : List ℕ) (from to : ℕ) → text ≡ a ++ (b ++ c) → from ≡ length a → to ≡ from + length b → to ≤ length text
up_to_end text a b c from to e f g = omega (arith, ap length e, length-append a (b ++ c), length-append b c, f, g)

five_parts : (a b c d e ps back mid rest : List Piece) → ps ≡ a ++ back → back ≡ mid ++ e → mid ≡ b ++ rest → rest ≡ c ++ d → flat ps ≡ (flat a ++ flat b) ++ (flat c ++ (flat d ++ flat e))
five_parts a b c d e ps back mid rest i j k l =
    ap flat (i ∙ ap (λ x. a ++ x) (j ∙ ap (λ x. x ++ e) (k ∙ ap (λ x. b ++ x) l)))
    ∙ flat-append a ((b ++ (c ++ d)) ++ e)
    ∙ ap (λ x. flat a ++ x) (flat-append (b ++ (c ++ d)) e)
    ∙ ap (λ x. flat a ++ (x ++ flat e)) (flat-append b (c ++ d))
    ∙ ap (λ x. flat a ++ ((flat b ++ x) ++ flat e)) (flat-append c d)
    ∙ ap (λ x. flat a ++ x) (append_assoc (flat b) (flat c ++ flat d) (flat e))
    ∙ ap (λ x. flat a ++ (flat b ++ x)) (append_assoc (flat c) (flat d) (flat e))
    ∙ sym (append_assoc (flat a) (flat b) (flat c ++ (flat d ++ flat e)))

of_five : (text : List ℕ) (a b c d e ps back mid rest : List Piece) → flat ps ≡ text → ps ≡ a ++ back → back ≡ mid ++ e → mid ≡ b ++ rest → rest ≡ c ++ d → text ≡ (flat a ++ flat b) ++ (flat c ++ (flat d ++ flat e))
of_five text a b c d e ps back mid rest t i j k l = sym t ∙ five_parts a b c d e ps back mid rest i j k l

reads_within : (ps a back mid e b rest c d : List Piece) → ps ≡ a ++ back → back ≡ mid ++ e → mid ≡ b ++ rest → rest ≡ c ++ d → Reads ps [] → Reads c (onto d (onto e []))
reads_within ps a back mid e b rest c d i j k l r =
    reads_front c d (onto e []) (subst (λ x. Reads x (onto e [])) l
    (reads_back b rest (onto e []) (subst (λ x. Reads x (onto e [])) k
    (reads_front mid e [] (subst (λ x. Reads x []) j (reads_back a back [] (subst (λ x. Reads x []) i r)))))))

pub bytes_of_part : (text : List ℕ) (all : List Tok) (t : Tok) (ts : List Tok) → Tokens 0 text all → Part all (t ∷ ts) → Bytes text (t ∷ ts)
bytes_of_part text all t ts d p =
    let w = as_pieces d in
    let f = split 0 w.pieces p.pre ((t ∷ ts) ++ p.post) (w.placed ∙ p.is) in
    let m = split (0 + length (flat f.front)) f.back (t ∷ ts) p.post f.second in
    let l = lead (0 + length (flat f.front)) m.front t ts m.first in
    let z = trail t.span.start l.rest (t ∷ ts) l.placed (λ e. absurd (cc)) in
    let whole = of_five text f.front l.gap z.front z.gap m.back w.pieces f.back m.front l.rest w.text f.is m.is l.is z.is in
    let a = flat f.front ++ flat l.gap in
    let c = flat z.gap ++ flat m.back in
    let s : t.span.start ≡ length a = omega (arith, l.start, length-append (flat f.front) (flat l.gap)) in
    record {
      pieces = z.front;
      placed = z.placed;
      is = sym (in_the_middle text a (flat z.front) c t.span.start (span_of (t ∷ ts)).end whole s z.end);
      end = z.end;
      within = up_to_end text a (flat z.front) c t.span.start (span_of (t ∷ ts)).end whole s z.end;
      rest = onto z.gap (onto m.back []);
      reads = reads_within w.pieces f.front f.back m.front m.back l.gap l.rest z.front z.gap f.is m.is l.is z.is w.reads;
      ends = z.word_last;
    }

-- its tokens begin and end where characters do
pub part_bounded : (text : List ℕ) (all ts : List Tok) → Part all ts → EachBounded text all → EachBounded text ts
part_bounded text all ts p b = bounded_left text ts p.post (bounded_right text p.pre (ts ++ p.post) (subst (EachBounded text) p.is b))

-- ---- pieces in place of those of a part, before a blank

blank_before : {c : Class} {w : List ℕ} (r : List ℕ) → IsWord c w → begins_blank r ≡ true → stands c w r ≡ true
blank_before [] i b = stands_at_end i
blank_before (d ∷ r) i b = stands_before_blank d r i b

pub blank_fits : (ts : List Tok) (r s : List ℕ) → ts ≢ [] → AreWords ts → begins_blank s ≡ true → Fits (left_at ts) r s
blank_fits [] r s n a b = absurd (n refl)
blank_fits (t ∷ []) r s n a b = λ e. blank_before s a.0 b
blank_fits (t ∷ u ∷ us) r s n a b = blank_fits (u ∷ us) r s (λ e. absurd (cc)) a.1 b

pub read_before : (all : List Tok) (at k : ℕ) (ts : List Tok) (src new : List Piece) (rest t : List ℕ) → ts ≢ [] → places at src ≡ ts → ((l : Left) → left_of l src ≡ left_at ts) → Reads src rest
    → Seamed all at src new → flat new ≡ t → ReadBefore k t (places k new)
read_before all at k ts src new rest t n e g a w i = record {
  read = λ s more b d.
      let f = subst (λ x. Fits x rest s) (sym (g nothing_left)) (blank_fits ts rest s n (subst AreWords e (read_words at src rest a)) b) in
      let q = w.so nothing_left rest s tt a f in
      subst (λ x. Tokens k x (places k new ++ more)) (onto_is new s ∙ ap (λ x. x ++ s) i)
      (reads_tokens k new s more q.reads (subst (λ x. Tokens (k + length x) s more) (sym i) d));
}

-- ---- the run with its edits

pub run_stars : (M : Moving) (all : List Tok) (ls : List Around) (ss : List Statement) (y : OptionalExpression) → Unslashed all (edits_of_run M all ls ss y)
run_stars M all ls ss y =
    unslashed-append all (all_statement_edits (run_edits M all) [] ls (statements_of ss)) (optional_edits (run_edits M all) (behind_all [] (statements_of ss)) ls y)
    (all_statement_stars (run_edits M all) all (run_unslashed M all) [] ls (statements_of ss)) (optional_stars (run_edits M all) all (run_unslashed M all) (behind_all [] (statements_of ss)) ls y)

module _ (P : ProgramTree) (pl : Plan) (r : Span) (F : FormedPlan P pl) (L : PinsLow pl.pins) where
  told : (ls : List Around) (ss : List Statement) (y : OptionalExpression) (h : ℕ) (us : List Tok) (tree : Within) (n : ℕ) → Again (λ vs (w : Within). AreStatements vs w.0 w.1 n) erased_within us (erased_within tree)
      → erased_within tree ≡ (erase_statements (changed_statements (run_changes (moved_by P pl r)) [] ls (statements_of ss)), erase_optional (changed_optional (run_changes (moved_by P pl r)) (behind_all [] (statements_of ss)) ls y))
      → n ≤ 130 + (h + h + h) → MovedRun P pl r ls ss y h us
  told ls ss y h us tree n a e l = record {
    statements = a.tree.0;
    tail = a.tree.1;
    levels = n;
    derived = a.derived;
    same_statements = ap (λ (z : plain.Statements × OptionalExpression). z.0) (a.same ∙ e) ∙ ap erase_statements (statements_moved P pl r ls (statements_of ss));
    same_tail = ap (λ (z : plain.Statements × OptionalExpression). z.1) (a.same ∙ e) ∙ ap erase_optional (tail_moved P pl r ls (statements_of ss) y);
    low = l;
  }

  of_part : (text : List ℕ) (all ts : List Tok) (ls : List Around) (ss : List Statement) (y : OptionalExpression) (h : ℕ) → Lexes text all → Part all ts → AreStatements ts ss y h
      → Bytes text ts → SplicedRun P pl r text all ts ls ss y h
  of_part text all ts ls ss y h d p g b =
      let M = moved_by P pl r in
      let k = run_kept M all (plan_spelt P pl r F L) (text_settled 0 text all d.tokens) ts ss y h g ls p in
      let at = (span_of ts).start in
      let s = spells all k.edited (run_stars M all ls ss y) (part_seen all ts p) at b.pieces b.placed in
      let o = subst (λ n. Ordered at (edits_of_run M all ls ss y) n) (sym b.end) s.pieced.ordered in record {
        pieces = s.pieces;
        is_text = s.pieced.text ∙ ap (λ x. spliced at x (edits_of_run M all ls ss y)) b.is;
        in_order = o;
        can_be_made = record {
          in_order = in_order 0 (length text) (omega arith) b.within o;
          on_boundaries = edits_bounded text k.edited (part_bounded text all ts p (tokens_bounded text all d.text d.tokens));
        };
        read = λ us e. told ls ss y h us k.tree k.height (statements_again k.derived us (e ∙ s.pieced.words)) k.same k.low;
      }

  pub run_spliced : (text : List ℕ) (all ts : List Tok) (ls : List Around) (ss : List Statement) (y : OptionalExpression) (h : ℕ) → Lexes text all → Part all ts → ts ≢ [] → AreStatements ts ss y h
      → SplicedRun P pl r text all ts ls ss y h
  run_spliced text all [] ls ss y h d p n g = absurd (n refl)
  run_spliced text all (t ∷ ts) ls ss y h d p n g = of_part text all (t ∷ ts) ls ss y h d p g (bytes_of_part text all t ts d.tokens p)

  -- ---- read

  read_part : (text : List ℕ) (all ts : List Tok) (ls : List Around) (ss : List Statement) (y : OptionalExpression) (h : ℕ) → Lexes text all → Part all ts → ts ≢ [] → AreStatements ts ss y h
      → Bytes text ts → (k : ℕ) → ReadRun P pl r text all ts ls ss y h k
  read_part text all ts ls ss y h d p n g b k =
      let M = moved_by P pl r in
      let c = run_kept M all (plan_spelt P pl r F L) (text_settled 0 text all d.tokens) ts ss y h g ls p in
      let s = spells all c.edited (run_stars M all ls ss y) (part_seen all ts p) (span_of ts).start b.pieces b.placed in
      let e : flat s.pieces ≡ run_bytes P pl r text all ts ls ss y = s.pieced.text ∙ ap (λ x. spliced (span_of ts).start x (edits_of_run M all ls ss y)) b.is in record {
        tokens = places k s.pieces;
        read = read_before all (span_of ts).start k ts b.pieces s.pieces b.rest (run_bytes P pl r text all ts ls ss y) n b.placed b.ends b.reads s.seamed e;
        becomes = told ls ss y h (places k s.pieces) c.tree c.height (statements_again c.derived (places k s.pieces) (words_placed k s.pieces ∙ s.pieced.words)) c.same c.low;
      }

  pub run_read : (text : List ℕ) (all ts : List Tok) (ls : List Around) (ss : List Statement) (y : OptionalExpression) (h : ℕ) → Lexes text all → Part all ts → ts ≢ [] → AreStatements ts ss y h
      → (k : ℕ) → ReadRun P pl r text all ts ls ss y h k
  run_read text all [] ls ss y h d p n g k = absurd (n refl)
  run_read text all (t ∷ ts) ls ss y h d p n g k = read_part text all (t ∷ ts) ls ss y h d p n g (bytes_of_part text all t ts d.tokens p) k
