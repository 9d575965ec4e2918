-- A run with a value: its tokens with what stands round its tail are derived as its statements and what the tail becomes.
use Rattle.std.proofs.Common.{◌≡◌, ℕ, ◌+◌, ◌≤◌, max, false, List, map, Some, [], ◌∷◌, ◌++◌, codes, refl, sym, ap, subst, ◌∙◌, arith, append_assoc, append-nil}
use Rattle.std.specs.Prelude.{◌≢◌}
use Rattle.std.proofs.lemmas.Bool.{false≢true}
use Rattle.rx_core.specs.declared.types.Span.{Span}
use Rattle.rx_tree.specs.Plain as plain
use Rattle.rx_tree.specs.Plain.{TypeTree, Expression, OptionalExpression, Statement, Statements, ProgramTree}
use Rattle.rx_tree.specs.PlainOf.{statements_of}
use Rattle.rx_tree.specs.Lists.{listed, statement_span}
use Rattle.rx_tree.specs.Erase.{nowhere, erase, erase_statement, erase_statements, erase_optional, erase_ident, erase_type, erase_all}
use Rattle.rx_lex.specs.Tok.{Tok}
use Rattle.rx_lex.specs.Tokens.{Lexes}
use Rattle.rx_lex.proofs.TokenLaws.{Ordered, tokens_in_order}
use Rattle.rx_parse_grammar.specs.grammar.Words.{span_of, final_span}
use Rattle.rx_parse_grammar.specs.grammar.Expressions as g
use Rattle.rx_parse_grammar.specs.grammar.Expressions.{AreStatements, IsExpression}
use Rattle.rx_parse_grammar.proofs.ExpressionsFront.{expression_some}
use Rattle.rx_parse_laws.specs.Parts.{Within, erased_within}
use Rattle.rx_parse_laws.specs.Words.{words}
use Rattle.rx_parse_laws.proofs.SameWords.{Again}
use Rattle.rx_parse_laws.proofs.ExpressionsAgain.{statements_again}
use Rattle.rx_resolve_names.specs.Meant.{Around}
use Rattle.rx_hoist_extraction.specs.Run.{Parts, as_statements}
use Rattle.rx_print_spelling.specs.Pieces.{mark}
use Rattle.rx_print_spelling.specs.Formed.{FormedType}
use Rattle.rx_print_spelling.specs.Levels.{type_levels}
use Rattle.rx_hoist_extraction.specs.Names.{behind_all}
use Rattle.rx_hoist_extraction.specs.Plan.{to_next, Plan, outs_of, names_of, enum_name, exit_name}
use Rattle.rx_hoist_extraction.specs.Fresh.{fresh_variable}
use Rattle.rx_hoist_extraction.specs.Made as made_of
use Rattle.rx_hoist_extraction.specs.Made.{variant, let_typed, as_expressions}
use Rattle.rx_hoist_extraction.specs.NewBody.{next_outs}
use Rattle.rx_hoist_extraction.specs.FormedPlan.{FormedPlan}
use Rattle.rx_hoist_extraction.specs.Changed.{changed}
use Rattle.rx_splice_laws.specs.Edits.{put, spliced}
use Rattle.rx_splice_laws.specs.EditsOf.{all_statement_edits, edits}
use Rattle.rx_splice_laws.specs.Places.{first_start, tokens_from}
use Rattle.rx_splice_laws.specs.Moving.{run_edits, run_changes}
use Rattle.rx_splice_laws.specs.MovedBy.{moved_by, moved_statements, PinsLow}
use Rattle.rx_splice_laws.specs.RunEnd.{RunEnd, in_variant}
use Rattle.rx_splice_laws.specs.SplicedRun.{Part, between}
use Rattle.rx_splice_laws.specs.SplicedText.{behind_statements, tail_start}
use Rattle.rx_splice_laws.specs.RunRead.{ReadBefore}
use Rattle.rx_splice_laws.specs.RunValue.{edits_of_value, moved_value, EndedRun, ReadEndedRun}
use Rattle.rx_splice_laws.proofs.AsRead.{Reads}
use Rattle.rx_splice_laws.proofs.Beside.{Closing, starred}
use Rattle.rx_splice_laws.proofs.Edited as calculus
use Rattle.rx_splice_laws.proofs.Edited.{made}
use Rattle.rx_splice_laws.proofs.Kept.{Low, widens, left, right}
use Rattle.rx_splice_laws.proofs.Changing.{expression_kept}
use Rattle.rx_splice_laws.proofs.Fitting.{run_suits}
use Rattle.rx_splice_laws.proofs.Settling.{Sooner, skipped, tokens_behind, from_rest, text_settled}
use Rattle.rx_splice_laws.proofs.Planned.{plan_spelt}
use Rattle.rx_splice_laws.proofs.MovedTwice.{statements_moved, tail_moved}
use Rattle.rx_splice_laws.proofs.Stars.{unslashed-append, stars, all_statement_stars, run_unslashed}
use Rattle.rx_splice_laws.proofs.RunSpliced.{Bytes, bytes_of_part}
use Rattle.rx_splice_laws.proofs.RunDone.{behind_these, row_erased, listed_erased}
use Rattle.rx_splice_laws.specs.Fronts.{Fronts, none_in_front, statement_in_front, like_in_front}
use Rattle.rx_splice_laws.proofs.Fronts.{fronts_then, fronts_view, fronts_kept, Parted, parted}
use Rattle.rx_splice_laws.proofs.TailPut.{statement_some, like_some, fronts_ended, put_read}
use Rattle.rx_splice_laws.proofs.ValueRead.{variant_opening, variant_closing, variant_read, let_opening, let_read}

-- ---- where the tail begins

abbrev end_or : ℕ → List Tok → ℕ
end_or at [] = at
end_or at (t ∷ ts) = (span_of (t ∷ ts)).end

last_span : (s : Span) (ts : List Tok) (v : Tok) (vs : List Tok) → (final_span s (ts ++ (v ∷ vs))).end ≡ (final_span v.span vs).end
last_span s [] v vs = refl
last_span s (t ∷ ts) v vs = last_span t.span ts v vs

pub end_behind : (us : List Tok) (v : Tok) (vs : List Tok) → (span_of (us ++ (v ∷ vs))).end ≡ (span_of (v ∷ vs)).end
end_behind [] v vs = refl
end_behind (u ∷ us) v vs = last_span u.span us v vs

end_joined : (at : ℕ) (us vs : List Tok) → us ≢ [] → end_or (span_of us).end vs ≡ end_or at (us ++ vs)
end_joined at [] vs n = absurd (n refl)
end_joined at (u ∷ us) [] n = ap (λ x. end_or at (u ∷ x)) (sym (append-nil us))
end_joined at (u ∷ us) (v ∷ vs) n = sym (end_behind (u ∷ us) v vs)

spanned : {ts : List Tok} {a : Statement} {h : ℕ} → g.IsStatement ts a h → statement_span a ≡ span_of ts
spanned (g.let_with t q z ps ys us w y x m n k st sq sz sp sy d is) = refl
spanned (g.let_without t n z ms ys m y h st sn sz sm sy is) = refl
spanned (g.done z us x h sz d nb is) = refl
spanned (g.done_like z us x h sz d is) = refl

fronts_end : {us : List Tok} {ss : List Statement} {m : ℕ} → Fronts us ss m → (at : ℕ) → behind_statements at ss ≡ end_or at us
fronts_end none_in_front at = refl
fronts_end (statement_in_front us vs a ss m n d f is) at =
    fronts_end f (statement_span a).end ∙ ap (λ (s : Span). end_or s.end vs) (spanned d) ∙ end_joined at us vs (statement_some d) ∙ ap (end_or at) (sym is)
fronts_end (like_in_front us vs x ss m n d f is) at = fronts_end f (span_of us).end ∙ end_joined at us vs (like_some d) ∙ ap (end_or at) (sym is)

record InFront (from : ℕ) (pre : List Tok) (v : Tok) : Type 0 where
  low : from ≤ v.span.start
  sooner : Sooner v.span.start pre

in_front : (from to : ℕ) (pre : List Tok) (v : Tok) (rest : List Tok) → Ordered from to (pre ++ (v ∷ rest)) → InFront from pre v
in_front from to [] v rest o = record { low = o.0; sooner = tt }
in_front from to (p ∷ pre) v rest o = let r = in_front p.span.end to pre v rest o.2 in record { low = omega (arith, o.0, o.1, r.low); sooner = (omega (arith, o.1, r.low), r.sooner) }

rest_of : (from to : ℕ) (pre : List Tok) (v : Tok) (rest : List Tok) → Ordered from to (pre ++ (v ∷ rest)) → Ordered v.span.start to (v ∷ rest)
rest_of from to [] v rest o = (omega arith, o.1, o.2)
rest_of from to (p ∷ pre) v rest o = rest_of p.span.end to pre v rest o.2

at_start : (from to : ℕ) (pre : List Tok) (v : Tok) (rest : List Tok) → Ordered from to (pre ++ (v ∷ rest)) → tokens_from v.span.start (pre ++ (v ∷ rest)) ≡ v ∷ rest
at_start from to pre v rest o = skipped v.span.start pre (v ∷ rest) (in_front from to pre v rest o).sooner (from_rest v.span.start to (v ∷ rest) (rest_of from to pre v rest o))

pub tail_place : (all us : List Tok) (v : Tok) (vs : List Tok) {ss : List Statement} {m : ℕ} (from to : ℕ) → Ordered from to all → Fronts us ss m → Part all (us ++ (v ∷ vs)) → tail_start all (span_of (us ++ (v ∷ vs))).start ss ≡ v.span.start
tail_place all us v vs {ss} from to o f p =
    ap (λ n. first_start (span_of (us ++ (v ∷ vs))).start (tokens_from n all)) (fronts_end f (span_of (us ++ (v ∷ vs))).start) ∙ ap (first_start (span_of (us ++ (v ∷ vs))).start) (by us p)
  where
    by : (us : List Tok) (p : Part all (us ++ (v ∷ vs))) → tokens_from (end_or (span_of (us ++ (v ∷ vs))).start us) all ≡ v ∷ (vs ++ p.post)
    by [] p = ap (tokens_from v.span.start) p.is ∙ at_start from to p.pre v (vs ++ p.post) (subst (Ordered from to) p.is o)
    by (u ∷ us) p =
        let i : all ≡ p.pre ++ ((u ∷ us) ++ (v ∷ (vs ++ p.post))) = p.is ∙ ap (λ x. p.pre ++ x) (append_assoc (u ∷ us) (v ∷ vs) p.post) in
        ap (tokens_from (span_of (u ∷ us)).end) i ∙ tokens_behind from to p.pre (u ∷ us) (v ∷ (vs ++ p.post)) (λ e. absurd (cc)) (subst (Ordered from to) i o)

-- ---- what is derived of the statements in front of the tail and of the tail

pub as_listed : (ss : Statements) → as_statements (listed ss) ≡ ss
as_listed plain.no_statement = refl
as_listed (plain.statement_and a ss) = ap (λ (z : Statements). plain.statement_and a z) (as_listed ss)

-- with text round the tail, the whole is derived as these parts
pub record Finish (e : RunEnd) (S : Statements) (w : Expression) (want : Parts) (h : ℕ) : Type 0 where
  pub finish : (us : List Tok) (ss : List Statement) (m : ℕ) (vs : List Tok) (x : Expression) (n : ℕ) → Fronts us ss m → IsExpression vs x n → fronts_view ss ≡ erase_statements S → erase x ≡ erase w
      → m ≤ 130 + (h + h + h) → n ≤ 130 + (h + h + h) → EndedRun want h (us ++ (made e.before ++ (vs ++ made e.behind)))

module _ (P : ProgramTree) (pl : Plan) (r : Span) where
  pub variant_finish : (S : Statements) (w : Expression) (h : ℕ)
      → Finish (in_variant pl) S w (record { statements = listed S; tail = plain.present (variant r (enum_name pl) (exit_name to_next) (w ∷ next_outs pl r)) }) h
  variant_finish S w h = record {
    finish = λ us ss m vs x n f d e k a b.
        let xs = names_of (outs_of to_next pl.exits) in
        let c = variant_read r (enum_name pl) (exit_name to_next) vs x n xs d in
        let t = fronts_then f (made (variant_opening (enum_name pl) (exit_name to_next)) ++ (vs ++ made (variant_closing xs))) [] (plain.present c.tree) c.levels (g.tail c.derived c.no_like)
        (λ z. absurd (cc)) in
        record {
          statements = ss ++ [];
          tail = plain.present c.tree;
          levels = t.levels;
          derived = t.derived;
          same_statements = ap fronts_view (append-nil ss) ∙ e ∙ ap erase_statements (sym (as_listed S));
          same_tail = ap (λ (z : Expression). plain.present z) (c.same
              ∙ ap (λ (z : Expression). plain.variant nowhere (erase_ident (made_of.ident r (enum_name pl))) (erase_ident (made_of.ident r (exit_name to_next)))
              (plain.a_list (plain.expression_and z (erase_all (as_expressions (map (plain.var r) xs)))))) k);
          low = let l = t.low in let q = c.low in omega (arith, l, q, a, b);
        };
  }

  pub let_finish : (y : TypeTree) (S : Statements) (w : Expression) (h : ℕ) → FormedType y → type_levels y ≤ 130 → (e : RunEnd) → e.before ≡ let_opening (fresh_variable pl.identifiers 0) y → e.behind ≡ mark (codes ";") ∷ []
      → Finish e S w (record { statements = listed S ++ let_typed r (fresh_variable pl.identifiers 0) y w ∷ []; tail = plain.absent }) h
  let_finish y S w h F L e i j = record {
    finish = λ us ss m vs x n f d q k a b.
        let out = fresh_variable pl.identifiers 0 in
        let c = let_read r out y vs x n F d in
        let ts = made (let_opening out y) ++ (vs ++ made (mark (codes ";") ∷ [])) in
        let t = fronts_then f ts (c.statement ∷ []) plain.absent (max c.levels 0) (g.statement_and ts [] c.statement [] plain.absent c.levels 0 c.derived g.end (sym (append-nil ts)))
        (λ z. absurd (cc)) in
        subst (λ z. EndedRun (record { statements = listed S ++ let_typed r out y w ∷ []; tail = plain.absent }) h (us ++ (made z ++ (vs ++ made e.behind)))) (sym i)
        (subst (λ z. EndedRun (record { statements = listed S ++ let_typed r out y w ∷ []; tail = plain.absent }) h (us ++ (made (let_opening out y) ++ (vs ++ made z)))) (sym j)
        (record {
          statements = ss ++ c.statement ∷ [];
          tail = plain.absent;
          levels = t.levels;
          derived = t.derived;
          same_statements = row_erased ss c.statement ∙ ap (λ (z : Statement). behind_these (fronts_view ss) z) (c.same
              ∙ ap (λ (z : Expression). plain.let_statement nowhere (plain.bind nowhere (erase_ident (made_of.ident r out)) false) (Some (erase_type y)) (plain.present z)) k)
              ∙ ap (λ (z : Statements). behind_these z (erase_statement (let_typed r out y w))) q ∙ sym (listed_erased S (let_typed r out y w));
          same_tail = refl;
          low = let l = t.low in let o = c.low in omega (arith, l, o, a, b, L);
        }));
  }

-- ---- the run

-- what is asked of the text round the tail
pub record Round (e : RunEnd) : Type 0 where
  pub before_reads : (r : List ℕ) → Reads e.before r
  pub closes : Closing e.behind
  pub before_plain : starred e.before ≡ false
  pub behind_plain : starred e.behind ≡ false

pub again_ended : (want : Parts) (h : ℕ) (us vs : List Tok) → EndedRun want h us → words vs ≡ words us → EndedRun want h vs
again_ended want h us vs m e =
    let a : Again (λ ws (w : Within). AreStatements ws w.0 w.1 m.levels) erased_within vs (erase_statements (statements_of m.statements), erase_optional m.tail) = statements_again m.derived vs e in record {
      statements = a.tree.0;
      tail = a.tree.1;
      levels = m.levels;
      derived = a.derived;
      same_statements = ap (λ (z : Statements × OptionalExpression). z.0) a.same ∙ m.same_statements;
      same_tail = ap (λ (z : Statements × OptionalExpression). z.1) a.same ∙ m.same_tail;
      low = m.low;
    }

module _ (P : ProgramTree) (pl : Plan) (r : Span) (F : FormedPlan P pl) (L : PinsLow pl.pins) (e : RunEnd) (O : Round e) where
  present_is : {x y : Expression} → plain.present x ≡ plain.present y → x ≡ y
  present_is i = cc

  work : (text : List ℕ) (all : List Tok) (ls : List Around) (ss : List Statement) (x : Expression) (h : ℕ) (want : Parts) → Lexes text all → (us : List Tok) (v : Tok) (vs : List Tok) (m k : ℕ)
      → Finish e (moved_statements P pl r ls (statements_of ss)) (moved_value P pl r ls (statements_of ss) x) want h → Fronts us ss m → IsExpression (v ∷ vs) x k → m ≤ h → k ≤ h
      → Part all (us ++ (v ∷ vs)) → us ++ (v ∷ vs) ≢ [] → Bytes text (us ++ (v ∷ vs)) → (at : ℕ)
      → ReadEndedRun text (us ++ (v ∷ vs)) (edits_of_value (moved_by P pl r) all (us ++ (v ∷ vs)) ls ss x e) want h at
  work text all ls ss x h want d us v vs m k w f t a b p n bytes at =
      let M = moved_by P pl r in
      let S = statements_of ss in
      let A = run_edits M all in
      let U = run_suits M all (plan_spelt P pl r F L) (text_settled 0 text all d.tokens) in
      let kf = fronts_kept A (run_changes M) all U f [] ls (left (v ∷ vs) p) in
      let kt = (expression_kept Low widens A (run_changes M) all U t (behind_all [] S) ls (right us p)).kept_so in
      let es = all_statement_edits A [] ls S in
      let fs = edits A (behind_all [] S) ls false x in
      let et = calculus.behind e.behind (λ z. absurd (cc)) O.closes kt.edited in
      let q = put_read text all us v vs e.before (fronts_ended f) O.before_reads kf.edited et
      (all_statement_stars A all (run_unslashed M all) [] ls S)
      (unslashed-append all fs (put (span_of (v ∷ vs)).end e.behind ∷ []) (stars A all (run_unslashed M all) (behind_all [] S) ls false x) ((λ z. absurd (false≢true (sym O.behind_plain ∙ z))), tt)) p n bytes at in
      let place : v.span.start ≡ tail_start all (span_of (us ++ (v ∷ vs))).start ss = sym (tail_place all us v vs 0 _ (tokens_in_order 0 text all d.tokens) f p) in
      let g' : es ++ (put v.span.start e.before ∷ (fs ++ put (span_of (v ∷ vs)).end e.behind ∷ [])) ≡ edits_of_value M all (us ++ (v ∷ vs)) ls ss x e =
      ap (λ z. es ++ (put z e.before ∷ (fs ++ put (span_of (v ∷ vs)).end e.behind ∷ []))) place ∙ ap (λ z. es ++ (put (tail_start all (span_of (us ++ (v ∷ vs))).start ss) e.before ∷ (fs ++ put z e.behind ∷ []))) (sym (end_behind us v vs)) in
      let lf = kf.low in
      let lt = kt.low in
      let z = w.finish kf.tokens kf.tree kf.height kt.tokens kt.tree kt.height kf.derived kt.derived (kf.same ∙ ap erase_statements (statements_moved P pl r ls S))
      (kt.same ∙ ap erase (present_is {x = changed (run_changes M) (behind_all [] S) ls x} {y = moved_value P pl r ls S x} (tail_moved P pl r ls S (plain.present x)))) (omega (arith, lf, a)) (omega (arith, lt, b)) in
      record {
        tokens = q.tokens;
        read = subst (λ y. ReadBefore at (spliced (span_of (us ++ (v ∷ vs))).start (between (span_of (us ++ (v ∷ vs))).start (span_of (us ++ (v ∷ vs))).end text) y) q.tokens) g' q.read;
        becomes = again_ended want h (kf.tokens ++ (made e.before ++ (kt.tokens ++ made e.behind))) q.tokens z q.same;
      }

  pub ended_read : (text : List ℕ) (all ts : List Tok) (ls : List Around) (ss : List Statement) (x : Expression) (h : ℕ) (want : Parts) → Lexes text all → Part all ts → ts ≢ [] → AreStatements ts ss (plain.present x) h
      → Finish e (moved_statements P pl r ls (statements_of ss)) (moved_value P pl r ls (statements_of ss) x) want h → (at : ℕ)
      → ReadEndedRun text ts (edits_of_value (moved_by P pl r) all ts ls ss x e) want h at
  ended_read text all [] ls ss x h want d p n i w at = absurd (n refl)
  ended_read text all (t ∷ ts) ls ss x h want d p n i w at = by q.front q.tail q.is q.in_front q.behind q.front_low q.tail_low
    where
      q : Parted (t ∷ ts) ss x h
      q = parted i x refl

      by : (us tl : List Tok) {m k : ℕ} → t ∷ ts ≡ us ++ tl → Fronts us ss m → IsExpression tl x k → m ≤ h → k ≤ h → ReadEndedRun text (t ∷ ts) (edits_of_value (moved_by P pl r) all (t ∷ ts) ls ss x e) want h at
      by us [] is f y a b = absurd (expression_some y refl)
      by us (v ∷ vs) {m} {k} is f y a b =
          subst (λ zs. ReadEndedRun text zs (edits_of_value (moved_by P pl r) all zs ls ss x e) want h at) (sym is)
          (work text all ls ss x h want d us v vs m k w f y a b (subst (Part all) is p) (subst (λ zs. zs ≢ []) is n) (subst (Bytes text) is (bytes_of_part text all t ts d.tokens p)) at)
