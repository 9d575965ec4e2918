-- A run whose tail becomes a statement: with the `;` behind it, its tokens are derived as the statements with it.
use Rattle.std.proofs.Common.{◌≡◌, ℕ, ◌+◌, ◌≤◌, max, true, false, List, [], ◌∷◌, ◌++◌, codes, refl, sym, ap, subst, ◌∙◌, arith, append_assoc, append-nil}
use Rattle.std.specs.Prelude.{◌≢◌}
use Rattle.rx_core.specs.declared.types.Span.{Span}
use Rattle.rx_tree.specs.Plain as plain
use Rattle.rx_tree.specs.Plain.{Expression, OptionalExpression, Statement, Statements, ProgramTree}
use Rattle.rx_tree.specs.PlainOf.{statements_of}
use Rattle.rx_tree.specs.Lists.{listed}
use Rattle.rx_tree.specs.Erase.{nowhere, erase, erase_statement, erase_statements, erase_optional}
use Rattle.rx_lex.specs.declared.token.Class.TheVariants.{Mark}
use Rattle.rx_lex.specs.Tok.{Tok}
use Rattle.rx_lex.specs.Tokens.{Lexes, token_at}
use Rattle.rx_parse_grammar.specs.grammar.Words.{IsMark, span_of}
use Rattle.rx_parse_grammar.specs.grammar.Expressions as g
use Rattle.rx_parse_grammar.specs.grammar.Expressions.{AreStatements}
use Rattle.rx_parse_laws.specs.Parts.{Within, erased_within}
use Rattle.rx_parse_laws.specs.Words.{words}
use Rattle.rx_parse_laws.proofs.SameWords.{Again}
use Rattle.rx_parse_laws.proofs.ExpressionsAgain.{statements_again}
use Rattle.rx_print_spelling.specs.Pieces.{mark}
use Rattle.rx_print_spelling.proofs.Pieces.{places}
use Rattle.rx_resolve_names.specs.Meant.{Around}
use Rattle.rx_hoist_extraction.specs.Names.{behind_all}
use Rattle.rx_hoist_extraction.specs.Run.{as_statements}
use Rattle.rx_hoist_extraction.specs.Made.{done}
use Rattle.rx_hoist_extraction.specs.Plan.{Plan}
use Rattle.rx_hoist_extraction.specs.FormedPlan.{FormedPlan}
use Rattle.rx_hoist_extraction.specs.Changed.{changed, changed_statements}
use Rattle.rx_splice_laws.specs.Edits.{Edit, put, spliced}
use Rattle.rx_splice_laws.specs.EditsOf.{all_statement_edits, optional_edits}
use Rattle.rx_splice_laws.specs.Moving.{run_edits, run_changes}
use Rattle.rx_hoist_extraction.specs.Moved.{moving}
use Rattle.rx_splice_laws.specs.MovedBy.{moved_by, moved_statements, pins_of, PinsLow}
use Rattle.rx_splice_laws.specs.SplicedRun.{Part, between, edits_of_run}
use Rattle.rx_splice_laws.specs.RunRead.{ReadBefore}
use Rattle.rx_splice_laws.specs.RunDone.{edits_of_done, DoneRun, ReadDoneRun}
use Rattle.rx_splice_laws.proofs.AsRead.{stand_reads}
use Rattle.rx_splice_laws.proofs.Beside.{Closing, stands_before}
use Rattle.rx_splice_laws.proofs.Edited as calculus
use Rattle.rx_splice_laws.proofs.Edited.{Edited}
use Rattle.rx_splice_laws.proofs.Cut.{words_placed}
use Rattle.rx_splice_laws.proofs.Spelled.{Unslashed, spells}
use Rattle.rx_splice_laws.proofs.Stars.{unslashed-append, part_seen}
use Rattle.rx_splice_laws.proofs.Fitting.{run_kept}
use Rattle.rx_splice_laws.proofs.Settling.{text_settled}
use Rattle.rx_splice_laws.proofs.Planned.{plan_spelt}
use Rattle.rx_splice_laws.proofs.MovedTwice.{statements_moved, tail_moved}
use Rattle.rx_splice_laws.proofs.RunSpliced.{Bytes, bytes_of_part, read_before, run_stars}
use Rattle.rx_print_spelling.proofs.Standing.{Apart, close}

-- ---- one statement more

abbrev pub behind_these : Statements → Statement → Statements
behind_these plain.no_statement a = plain.statement_and a plain.no_statement
behind_these (plain.statement_and b ss) a = plain.statement_and b (behind_these ss a)

pub row_erased : (ss : List Statement) (a : Statement) → erase_statements (statements_of (ss ++ a ∷ [])) ≡ behind_these (erase_statements (statements_of ss)) (erase_statement a)
row_erased [] a = refl
row_erased (b ∷ ss) a = ap (λ (z : Statements). plain.statement_and (erase_statement b) z) (row_erased ss a)

pub listed_erased : (ss : Statements) (a : Statement) → erase_statements (as_statements (listed ss ++ a ∷ [])) ≡ behind_these (erase_statements ss) (erase_statement a)
listed_erased plain.no_statement a = refl
listed_erased (plain.statement_and b ss) a = ap (λ (z : Statements). plain.statement_and (erase_statement b) z) (listed_erased ss a)

-- ---- with `;` behind the tail

record Done (ts : List Tok) (ss : List Statement) (e : Expression) (h : ℕ) (z : Tok) : Type 0 where
  statements : List Statement
  levels : ℕ
  derived : AreStatements (ts ++ z ∷ []) statements plain.absent levels
  same : erase_statements (statements_of statements) ≡ behind_these (erase_statements (statements_of ss)) (plain.expression_statement nowhere (erase e) true)
  low : levels ≤ h

present_is : {x e : Expression} → plain.present x ≡ plain.present e → x ≡ e
present_is i = cc

last_done : {ts : List Tok} (x e : Expression) (h : ℕ) (z : Tok) → plain.present x ≡ plain.present e → g.IsStatement (ts ++ z ∷ []) (plain.expression_statement (span_of (ts ++ z ∷ [])) x true) h → Done ts [] e h z
last_done {ts} x e h z i d = record {
  statements = plain.expression_statement (span_of (ts ++ z ∷ [])) x true ∷ [];
  levels = max h 0;
  derived = g.statement_and (ts ++ z ∷ []) [] (plain.expression_statement (span_of (ts ++ z ∷ [])) x true) [] plain.absent h 0 d g.end (sym (append-nil (ts ++ z ∷ [])));
  same = ap (λ (w : Expression). plain.statement_and (plain.expression_statement nowhere (erase w) true) plain.no_statement) (present_is i);
  low = omega arith;
}

one_more : {ts us vs : List Tok} (a : Statement) (ss : List Statement) (e : Expression) (m n : ℕ) (z : Tok) → ts ≡ us ++ vs → g.IsStatement us a m → Done vs ss e n z → Done ts (a ∷ ss) e (max m n) z
one_more {ts} {us} {vs} a ss e m n z is d r = record {
  statements = a ∷ r.statements;
  levels = max m r.levels;
  derived = g.statement_and us (vs ++ z ∷ []) a r.statements plain.absent m r.levels d r.derived (ap (λ x. x ++ z ∷ []) is ∙ append_assoc us vs (z ∷ []));
  same = ap (λ (w : Statements). plain.statement_and (erase_statement a) w) r.same;
  low = let l = r.low in omega (arith, l);
}

like_more : {ts us vs : List Tok} (x : Expression) (ss : List Statement) (e : Expression) (m n : ℕ) (z : Tok) → ts ≡ us ++ vs → g.IsLike us x m → Done vs ss e n z → Done ts (plain.expression_statement (span_of us) x false ∷ ss) e (max m n) z
like_more {ts} {us} {vs} x ss e m n z is d r = record {
  statements = plain.expression_statement (span_of us) x false ∷ r.statements;
  levels = max m r.levels;
  derived = g.like_and us (vs ++ z ∷ []) x r.statements plain.absent m r.levels d r.derived (some vs) (ap (λ x. x ++ z ∷ []) is ∙ append_assoc us vs (z ∷ []));
  same = ap (λ (w : Statements). plain.statement_and (plain.expression_statement nowhere (erase x) false) w) r.same;
  low = let l = r.low in omega (arith, l);
}
  where
    some : (vs : List Tok) → vs ++ z ∷ [] ≢ []
    some [] i = absurd (cc)
    some (v ∷ vs) i = absurd (cc)

statements_done : {ts : List Tok} {ss : List Statement} {y : OptionalExpression} {h : ℕ} → AreStatements ts ss y h → (e : Expression) → y ≡ plain.present e → (z : Tok) → IsMark (codes ";") z → Done ts ss e h z
statements_done g.end e i z s = absurd (cc)
statements_done (g.tail {ts = ts} {x = x} {h = h} d nb) e i z s = last_done x e h z i (g.done z ts x h s d nb refl)
statements_done (g.tail_like {ts = ts} {x = x} {h = h} d) e i z s = last_done x e h z i (g.done_like z ts x h s d refl)
statements_done (g.statement_and us vs a ss y m n d r is) e i z s = one_more a ss e m n z is d (statements_done r e i z s)
statements_done (g.like_and us vs x ss y m n d r ne is) e i z s = like_more x ss e m n z is d (statements_done r e i z s)

-- ---- tokens with edits, wherever they stand

pub record ReadEdited (text : List ℕ) (ts : List Tok) (es : List Edit) (us : List Tok) (at : ℕ) : Type 0 where
  pub tokens : List Tok
  pub read : ReadBefore at (spliced (span_of ts).start (between (span_of ts).start (span_of ts).end text) es) tokens
  pub same : words tokens ≡ words us

pub edited_read : (text : List ℕ) (all ts : List Tok) {es : List Edit} {us : List Tok} → ts ≢ [] → Edited es ts us → Unslashed all es → Part all ts → Bytes text ts → (at : ℕ) → ReadEdited text ts es us at
edited_read text all ts {es} {us} n e u p b at =
    let s = spells all e u (part_seen all ts p) (span_of ts).start b.pieces b.placed in record {
      tokens = places at s.pieces;
      read = read_before all (span_of ts).start at ts b.pieces s.pieces b.rest (spliced (span_of ts).start (between (span_of ts).start (span_of ts).end text) es) n b.placed b.ends b.reads s.seamed
          (s.pieced.text ∙ ap (λ x. spliced (span_of ts).start x es) b.is);
      same = words_placed at s.pieces ∙ s.pieced.words;
    }

semicolon_closes : Closing (mark (codes ";") ∷ [])
semicolon_closes = record {
  reads = λ r. let a : Apart (mark (codes ";") ∷ []) r = close refl refl in stand_reads (mark (codes ";") ∷ []) r a.stand;
  closes = λ r w. stands_before 59 r refl refl w;
}

-- ---- the run

tail_there : (o : OptionalExpression) (w : Expression) → erase_optional o ≡ plain.present w → (e : Expression) × (o ≡ plain.present e) × (erase e ≡ w)
tail_there plain.absent w i = absurd (cc)
tail_there (plain.present e) w i = (e, refl, present_is i)

module _ (P : ProgramTree) (pl : Plan) (r : Span) (F : FormedPlan P pl) (L : PinsLow pl.pins) where
  -- the tail in the run with its moved variables and jumps, and moved after it is pinned
  abbrev moved_one : List Around → Statements → Expression → Expression
  moved_one ls S x = changed (run_changes (moved_by P pl r)) (behind_all [] S) ls x

  abbrev moved_twice : List Around → Statements → Expression → Expression
  moved_twice ls S x = changed (moving pl r) (behind_all [] S) ls (changed (pins_of P r pl.pins) (behind_all [] S) ls x)

  become : (ls : List Around) (ss : List Statement) (x : Expression) (h : ℕ) (us : List Tok) (n : ℕ) (new : List Statement) (o : OptionalExpression) → AreStatements us new o n → erase_optional o ≡ plain.absent
      → erase_statements (statements_of new) ≡ behind_these (erase_statements (changed_statements (run_changes (moved_by P pl r)) [] ls (statements_of ss))) (plain.expression_statement nowhere (erase (moved_one ls (statements_of ss) x)) true)
      → n ≤ 130 + (h + h + h) → DoneRun P pl r ls ss x h us
  become ls ss x h us n new (plain.present y) d a e l = absurd (cc)
  become ls ss x h us n new plain.absent d a e l = record {
    statements = new;
    levels = n;
    derived = d;
    same = e
        ∙ ap (λ (w : Statements). behind_these (erase_statements w) (plain.expression_statement nowhere (erase (moved_one ls (statements_of ss) x)) true)) (statements_moved P pl r ls (statements_of ss))
        ∙ ap (λ (w : Expression). behind_these (erase_statements (moved_statements P pl r ls (statements_of ss))) (plain.expression_statement nowhere (erase w) true))
        (present_is {x = moved_one ls (statements_of ss) x} {e = moved_twice ls (statements_of ss) x} (tail_moved P pl r ls (statements_of ss) (plain.present x)))
        ∙ sym (listed_erased (moved_statements P pl r ls (statements_of ss)) (done r (moved_twice ls (statements_of ss) x)));
    low = l;
  }

  of_part : (text : List ℕ) (all ts : List Tok) (ls : List Around) (ss : List Statement) (x : Expression) (h : ℕ) → Lexes text all → Part all ts → ts ≢ [] → AreStatements ts ss (plain.present x) h
      → Bytes text ts → (at : ℕ) → ReadDoneRun P pl r text all ts ls ss x h at
  of_part text all ts ls ss x h d p n i b at =
      let M = moved_by P pl r in
      let S = statements_of ss in
      let k = run_kept M all (plan_spelt P pl r F L) (text_settled 0 text all d.tokens) ts ss (plain.present x) h i ls p in
      let want = erase (moved_one ls S x) in
      let o = tail_there k.tree.1 want (ap (λ (z : Statements × OptionalExpression). z.1) k.same) in
      let c = statements_done k.derived o.0 o.1 (token_at 0 Mark (codes ";")) (refl, refl) in
      let q = edited_read text all ts n (calculus.behind (mark (codes ";") ∷ []) n semicolon_closes k.edited)
      (unslashed-append all (edits_of_run M all ls ss (plain.present x)) (put (span_of ts).end (mark (codes ";") ∷ []) ∷ []) (run_stars M all ls ss (plain.present x)) ((λ e. absurd (cc)), tt)) p b at in
      let a : Again (λ vs (w : Within). AreStatements vs w.0 w.1 c.levels) erased_within q.tokens (erase_statements (statements_of c.statements), plain.absent) = statements_again c.derived q.tokens q.same in record {
        tokens = q.tokens;
        read = q.read;
        becomes = become ls ss x h q.tokens c.levels a.tree.0 a.tree.1 a.derived (ap (λ (w : Statements × OptionalExpression). w.1) a.same)
            (ap (λ (w : Statements × OptionalExpression). w.0) a.same ∙ c.same
            ∙ ap (λ (w : Expression). behind_these (erase_statements (statements_of k.tree.0)) (plain.expression_statement nowhere w true)) o.2
            ∙ ap (λ (w : Statements). behind_these w (plain.expression_statement nowhere want true)) (ap (λ (w : Statements × OptionalExpression). w.0) k.same))
            (let l = c.low in let m = k.low in omega (arith, l, m));
      }

  pub run_done : (text : List ℕ) (all ts : List Tok) (ls : List Around) (ss : List Statement) (x : Expression) (h : ℕ) → Lexes text all → Part all ts → ts ≢ [] → AreStatements ts ss (plain.present x) h
      → (at : ℕ) → ReadDoneRun P pl r text all ts ls ss x h at
  run_done text all [] ls ss x h d p n i at = absurd (n refl)
  run_done text all (t ∷ ts) ls ss x h d p n i at = of_part text all (t ∷ ts) ls ss x h d p n i (bytes_of_part text all t ts d.tokens p) at
