-- A run that a tail follows, which may end with an expression that ends in a block, without `;`: its tokens are derived as statements in
-- front of the tail.
use Rattle.std.proofs.Common.{◌≡◌, ℕ, true, List, [], ◌∷◌, refl, sym, ap, subst, ◌∙◌, arith, append-nil}
use Rattle.std.specs.Prelude.{◌≢◌}
use Rattle.std.specs.List.{list_all}
use Rattle.rx_core.specs.declared.types.Span.{Span}
use Rattle.rx_tree.specs.Plain as plain
use Rattle.rx_tree.specs.Plain.{Statement, ProgramTree}
use Rattle.rx_tree.specs.PlainOf.{statements_of}
use Rattle.rx_tree.specs.Lists.{listed}
use Rattle.rx_tree.specs.Erase.{erase_statements}
use Rattle.rx_lex.specs.Tok.{Tok}
use Rattle.rx_lex.specs.Tokens.{Lexes}
use Rattle.rx_parse_grammar.specs.grammar.Words.{span_of}
use Rattle.rx_resolve_names.specs.Meant.{Around}
use Rattle.rx_hoist_extraction.specs.Plan.{Plan}
use Rattle.rx_hoist_extraction.specs.FormedPlan.{FormedPlan}
use Rattle.rx_splice_laws.specs.Edits.{spliced}
use Rattle.rx_splice_laws.specs.EditsOf.{all_statement_edits}
use Rattle.rx_splice_laws.specs.Indent.{is_level, reindented}
use Rattle.rx_splice_laws.specs.Moving.{run_edits, run_changes}
use Rattle.rx_splice_laws.specs.MovedBy.{moved_by, moved_statements, PinsLow}
use Rattle.rx_splice_laws.specs.RunRead.{run_bytes}
use Rattle.rx_splice_laws.specs.SplicedRun.{Part, between}
use Rattle.rx_splice_laws.specs.Fronts.{Fronts}
use Rattle.rx_splice_laws.specs.FrontRead.{ReadFront}
use Rattle.rx_splice_laws.proofs.Fitting.{run_suits}
use Rattle.rx_splice_laws.proofs.Settling.{text_settled}
use Rattle.rx_splice_laws.proofs.Planned.{plan_spelt}
use Rattle.rx_splice_laws.proofs.MovedTwice.{statements_moved}
use Rattle.rx_splice_laws.proofs.Stars.{all_statement_stars, run_unslashed}
use Rattle.rx_splice_laws.proofs.RunSpliced.{Bytes, bytes_of_part}
use Rattle.rx_splice_laws.proofs.RunLines.{alone, read_lines}
use Rattle.rx_splice_laws.proofs.RunDone.{edited_read}
use Rattle.rx_splice_laws.proofs.Fronts.{fronts_kept}
use Rattle.rx_splice_laws.proofs.RunValue.{as_listed}

module _ (P : ProgramTree) (pl : Plan) (r : Span) (F : FormedPlan P pl) (L : PinsLow pl.pins) where
  front_of_part : (text : List ℕ) (all ts : List Tok) (ls : List Around) (ss : List Statement) (h : ℕ) → Lexes text all → Part all ts → ts ≢ [] → Fronts ts ss h → Bytes text ts
      → (ind : List ℕ) → list_all is_level ind ≡ true → (at : ℕ) → ReadFront (reindented ind (run_bytes P pl r text all ts ls ss plain.absent)) (listed (moved_statements P pl r ls (statements_of ss))) h at
  front_of_part text all ts ls ss h d p n f b ind l at =
      let M = moved_by P pl r in
      let S = statements_of ss in
      let A = run_edits M all in
      let U = run_suits M all (plan_spelt P pl r F L) (text_settled 0 text all d.tokens) in
      let k = fronts_kept A (run_changes M) all U f [] ls p in
      let es = all_statement_edits A [] ls S in
      let q = edited_read text all ts n k.edited (all_statement_stars A all (run_unslashed M all) [] ls S) p b 0 in
      let t = spliced (span_of ts).start (between (span_of ts).start (span_of ts).end text) es in
      let z = read_lines ind t 0 q.tokens l (alone 0 t q.tokens q.read) at in
      subst (λ fs. ReadFront (reindented ind (spliced (span_of ts).start (between (span_of ts).start (span_of ts).end text) fs)) (listed (moved_statements P pl r ls S)) h at) (sym (append-nil es))
      (record {
        tokens = z.0;
        read = z.2;
        alike = k.tokens;
        same_words = z.1 ∙ q.same;
        becomes = record {
          statements = k.tree;
          levels = k.height;
          in_front = k.derived;
          same = k.same ∙ ap erase_statements (statements_moved P pl r ls S ∙ sym (as_listed (moved_statements P pl r ls S)));
          low = let m = k.low in omega (arith, m);
        };
      })

  pub front_on_lines : (text : List ℕ) (all ts : List Tok) (ls : List Around) (ss : List Statement) (h : ℕ) → Lexes text all → Part all ts → ts ≢ [] → Fronts ts ss h
      → (ind : List ℕ) → list_all is_level ind ≡ true → (at : ℕ) → ReadFront (reindented ind (run_bytes P pl r text all ts ls ss plain.absent)) (listed (moved_statements P pl r ls (statements_of ss))) h at
  front_on_lines text all [] ls ss h d p n f ind l at = absurd (n refl)
  front_on_lines text all (t ∷ ts) ls ss h d p n f ind l at = front_of_part text all (t ∷ ts) ls ss h d p n f (bytes_of_part text all t ts d.tokens p) ind l at
