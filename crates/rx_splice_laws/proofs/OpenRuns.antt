-- A run whose last statement is an expression that ends in a block, without `;`: its tokens are also derived with this as the tail.
use Rattle.std.proofs.Common.{◌≡◌, ℕ, max, true, false, List, [], ◌∷◌, ◌++◌, refl, sym, ap, subst, ◌∙◌, arith, append_assoc, append-nil}
use Rattle.std.specs.Prelude.{◌≢◌}
use Rattle.std.specs.List.{list_all}
use Rattle.std.proofs.lemmas.Bool.{false≢true}
use Rattle.rx_core.specs.declared.types.Span.{Span}
use Rattle.rx_tree.specs.Plain as plain
use Rattle.rx_tree.specs.Plain.{Expression, OptionalExpression, Statement, Statements, ProgramTree}
use Rattle.rx_tree.specs.PlainOf.{statements_of}
use Rattle.rx_tree.specs.Lists.{listed}
use Rattle.rx_tree.specs.Erase.{erase, erase_optional}
use Rattle.rx_lex.specs.Tok.{Tok}
use Rattle.rx_lex.specs.Tokens.{Lexes}
use Rattle.rx_parse_grammar.specs.grammar.Words.{span_of}
use Rattle.rx_parse_grammar.specs.grammar.Expressions as g
use Rattle.rx_parse_grammar.specs.grammar.Expressions.{AreStatements}
use Rattle.rx_resolve_names.specs.Meant.{Around}
use Rattle.rx_hoist_extraction.specs.Names.{Names, bound_by, behind_all}
use Rattle.rx_hoist_extraction.specs.Run.{Parts}
use Rattle.rx_hoist_extraction.specs.Plan.{Plan}
use Rattle.rx_hoist_extraction.specs.NewBody.{behind_a, last_of}
use Rattle.rx_hoist_extraction.specs.Made.{done}
use Rattle.rx_hoist_extraction.specs.Changed.{Changes, changed, changed_statement, changed_statements}
use Rattle.rx_hoist_extraction.specs.FormedPlan.{FormedPlan}
use Rattle.rx_splice_laws.specs.Edits.{Edit, put, spliced}
use Rattle.rx_splice_laws.specs.EditsOf.{EditsAt, edits, statement_edits, all_statement_edits}
use Rattle.rx_splice_laws.specs.Indent.{is_level, reindented}
use Rattle.rx_splice_laws.specs.Moving.{Moving, run_edits, run_changes}
use Rattle.rx_splice_laws.specs.MovedBy.{moved_by, moved_statements, PinsLow}
use Rattle.rx_splice_laws.specs.RunEnd.{is_open, with_semicolon}
use Rattle.rx_splice_laws.specs.RunRead.{run_bytes}
use Rattle.rx_splice_laws.specs.RunValue.{moved_value, EndedRun}
use Rattle.rx_splice_laws.specs.SplicedRun.{Part, between, edits_of_run}
use Rattle.rx_splice_laws.specs.Fronts.{Fronts, none_in_front, statement_in_front, like_in_front, edits_of_open}
use Rattle.rx_splice_laws.specs.BodyRead.{kept_parts, done_parts, ReadParts}
use Rattle.rx_splice_laws.proofs.MovedTwice.{statements_moved, tail_moved}
use Rattle.rx_splice_laws.proofs.RunSpliced.{run_read}
use Rattle.rx_splice_laws.proofs.RunDone.{behind_these, listed_erased, run_done}
use Rattle.rx_splice_laws.proofs.NewBodies.{ended_some}
use Rattle.rx_splice_laws.proofs.RunParts.{kept_on_lines, done_on_lines}

-- the last of them, without `;`
abbrev row : List Statement → Span → Expression → List Statement
row ss s x = ss ++ plain.expression_statement s x false ∷ []

record OpenRun (ts : List Tok) (ss : List Statement) (h : ℕ) : Type 0 where
  front : List Statement
  span : Span
  tail : Expression
  is : ss ≡ row front span tail
  derived : AreStatements ts front (plain.present tail) h

statement_more : {ts us vs : List Tok} (a : Statement) (ss : List Statement) (m n : ℕ) → ts ≡ us ++ vs → g.IsStatement us a m → OpenRun vs ss n → OpenRun ts (a ∷ ss) (max m n)
statement_more {ts} {us} {vs} a ss m n is d r = record {
  front = a ∷ r.front;
  span = r.span;
  tail = r.tail;
  is = ap (λ (z : List Statement). a ∷ z) r.is;
  derived = g.statement_and us vs a r.front (plain.present r.tail) m n d r.derived is;
}

tail_some : {ts : List Tok} {ss : List Statement} {y : OptionalExpression} {h : ℕ} → AreStatements ts ss y h → (x : Expression) → y ≡ plain.present x → ts ≢ []
tail_some d x e = ended_some d (erase x) (ap erase_optional e)

like_more : {ts us vs : List Tok} (x : Expression) (ss : List Statement) (m n : ℕ) → ts ≡ us ++ vs → g.IsLike us x m → OpenRun vs ss n → OpenRun ts (plain.expression_statement (span_of us) x false ∷ ss) (max m n)
like_more {ts} {us} {vs} x ss m n is d r = record {
  front = plain.expression_statement (span_of us) x false ∷ r.front;
  span = r.span;
  tail = r.tail;
  is = ap (λ (z : List Statement). plain.expression_statement (span_of us) x false ∷ z) r.is;
  derived = g.like_and us vs x r.front (plain.present r.tail) m n d r.derived (tail_some r.derived r.tail refl) is;
}

only_like : {ts us vs : List Tok} (x : Expression) (m n : ℕ) → g.IsLike us x m → Fronts vs [] n → ts ≡ us ++ vs → OpenRun ts (plain.expression_statement (span_of us) x false ∷ []) (max m n)
only_like {ts} {us} x m n d none_in_front is = record {
  front = [];
  span = span_of us;
  tail = x;
  is = refl;
  derived = subst (AreStatements ts [] (plain.present x)) (let h : m ≡ max m 0 = omega arith in h) (subst (λ z. AreStatements z [] (plain.present x) m) (sym (is ∙ append-nil us)) (g.tail_like d));
}

closed_last : {us : List Tok} {a : Statement} {m : ℕ} → g.IsStatement us a m → is_open (a ∷ []) ≡ true → ⊥
closed_last (g.let_with t q z ps ys us w y x m n k st sq sz sp sy d is) e = false≢true e
closed_last (g.let_without t n z ms ys m y h st sn sz sm sy is) e = false≢true e
closed_last (g.done z us x h sz d nb is) e = false≢true e
closed_last (g.done_like z us x h sz d is) e = false≢true e

pub open_behind : {us : List Tok} {a : Statement} {m : ℕ} → g.IsStatement us a m → (b : Statement) (ss : List Statement) → is_open (a ∷ b ∷ ss) ≡ is_open (b ∷ ss)
open_behind (g.let_with t q z ps ys us w y x m n k st sq sz sp sy d is) b ss = refl
open_behind (g.let_without t n z ms ys m y h st sn sz sm sy is) b ss = refl
open_behind (g.done z us x h sz d nb is) b ss = refl
open_behind (g.done_like z us x h sz d is) b ss = refl

open_run : {ts : List Tok} {ss : List Statement} {h : ℕ} → Fronts ts ss h → is_open ss ≡ true → OpenRun ts ss h
open_run none_in_front e = absurd (false≢true e)
open_run (statement_in_front us vs a [] m n d f is) e = absurd (closed_last d e)
open_run (statement_in_front us vs a (b ∷ ss) m n d f is) e = statement_more a (b ∷ ss) m n is d (open_run f (sym (open_behind d b ss) ∙ e))
open_run (like_in_front us vs x [] m n d f is) e = only_like x m n d f is
open_run (like_in_front us vs x (b ∷ ss) m n d f is) e = like_more x (b ∷ ss) m n is d (open_run f e)

-- ---- its edits, and what becomes of it

open_edits : (A : EditsAt) (own : Names) (ls : List Around) (ss : List Statement) (s : Span) (x : Expression)
    → all_statement_edits A own ls (statements_of (row ss s x)) ≡ all_statement_edits A own ls (statements_of ss) ++ edits A (behind_all own (statements_of ss)) ls false x
open_edits A own ls [] s x = append-nil (edits A own ls false x)
open_edits A own ls (a ∷ ss) s x =
    ap (λ z. statement_edits A own ls a ++ z) (open_edits A (bound_by a ++ own) ls ss s x)
    ∙ sym (append_assoc (statement_edits A own ls a) (all_statement_edits A (bound_by a ++ own) ls (statements_of ss)) (edits A (behind_all (bound_by a ++ own) (statements_of ss)) ls false x))

run_open_edits : (M : Moving) (all : List Tok) (ls : List Around) (ss : List Statement) (s : Span) (x : Expression) → edits_of_run M all ls (row ss s x) plain.absent ≡ edits_of_run M all ls ss (plain.present x)
run_open_edits M all ls ss s x = append-nil (all_statement_edits (run_edits M all) [] ls (statements_of (row ss s x))) ∙ open_edits (run_edits M all) [] ls ss s x

row_changed : (C : Changes) (own : Names) (ls : List Around) (ss : List Statement) (s : Span) (x : Expression)
    → changed_statements C own ls (statements_of (row ss s x)) ≡ behind_these (changed_statements C own ls (statements_of ss)) (plain.expression_statement s (changed C (behind_all own (statements_of ss)) ls x) false)
row_changed C own ls [] s x = refl
row_changed C own ls (a ∷ ss) s x = ap (λ (z : Statements). plain.statement_and (changed_statement C own ls a) z) (row_changed C (bound_by a ++ own) ls ss s x)

row_listed : (ss : Statements) (a : Statement) → listed (behind_these ss a) ≡ listed ss ++ a ∷ []
row_listed plain.no_statement a = refl
row_listed (plain.statement_and b ss) a = ap (λ (z : List Statement). b ∷ z) (row_listed ss a)

abbrev parts_of : List Statement → OptionalExpression → Parts
parts_of S y = record { statements = S; tail = y }

last_stays : (ss : List Statement) (s : Span) (x : Expression) → last_of true (row ss s x) ≡ parts_of (ss ++ plain.expression_statement s x true ∷ []) plain.absent
last_stays [] s x = refl
last_stays (a ∷ []) s x = refl
last_stays (a ∷ b ∷ ss) s x = ap (behind_a a) (last_stays (b ∷ ss) s x)

last_goes : (ss : List Statement) (s : Span) (x : Expression) → last_of false (row ss s x) ≡ parts_of ss (plain.present x)
last_goes [] s x = refl
last_goes (a ∷ []) s x = refl
last_goes (a ∷ b ∷ ss) s x = ap (behind_a a) (last_goes (b ∷ ss) s x)

present_is : {x y : Expression} → plain.present x ≡ plain.present y → x ≡ y
present_is i = cc

module _ (P : ProgramTree) (pl : Plan) (r : Span) where
  row_moved : (ls : List Around) (ss : List Statement) (s : Span) (x : Expression)
      → listed (moved_statements P pl r ls (statements_of (row ss s x))) ≡ row (listed (moved_statements P pl r ls (statements_of ss))) s (moved_value P pl r ls (statements_of ss) x)
  row_moved ls ss s x =
      let C = run_changes (moved_by P pl r) in
      ap listed (sym (statements_moved P pl r ls (statements_of (row ss s x))) ∙ row_changed C [] ls ss s x
      ∙ ap (λ (z : Statements). behind_these z (plain.expression_statement s (changed C (behind_all [] (statements_of ss)) ls x) false)) (statements_moved P pl r ls (statements_of ss))
      ∙ ap (λ (z : Expression). behind_these (moved_statements P pl r ls (statements_of ss)) (plain.expression_statement s z false))
      (present_is {x = changed C (behind_all [] (statements_of ss)) ls x} {y = moved_value P pl r ls (statements_of ss) x} (tail_moved P pl r ls (statements_of ss) (plain.present x))))
      ∙ row_listed (moved_statements P pl r ls (statements_of ss)) (plain.expression_statement s (moved_value P pl r ls (statements_of ss) x) false)

  goes_as : (ls : List Around) (ss : List Statement) (s : Span) (x : Expression) → kept_parts P pl r ls ss (plain.present x) ≡ last_of false (listed (moved_statements P pl r ls (statements_of (row ss s x))))
  goes_as ls ss s x = sym (ap (last_of false) (row_moved ls ss s x) ∙ last_goes (listed (moved_statements P pl r ls (statements_of ss))) s (moved_value P pl r ls (statements_of ss) x))

  -- with its `;`, whatever its span
  stays_as : (ls : List Around) (ss : List Statement) (s : Span) (x : Expression) (h : ℕ) (us : List Tok) → EndedRun (done_parts P pl r ls ss x) h us → EndedRun (last_of true (listed (moved_statements P pl r ls (statements_of (row ss s x))))) h us
  stays_as ls ss s x h us m =
      let S = moved_statements P pl r ls (statements_of ss) in
      let y = moved_value P pl r ls (statements_of ss) x in
      subst (λ p. EndedRun p h us) (sym (ap (last_of true) (row_moved ls ss s x) ∙ last_stays (listed S) s y))
      (record {
        statements = m.statements;
        tail = m.tail;
        levels = m.levels;
        derived = m.derived;
        same_statements = m.same_statements ∙ listed_erased S (done r y) ∙ sym (listed_erased S (plain.expression_statement s y true));
        same_tail = m.same_tail;
        low = m.low;
      })

  module _ (F : FormedPlan P pl) (L : PinsLow pl.pins) (text : List ℕ) (all ts : List Tok) (ls : List Around) (h : ℕ) (d : Lexes text all) (p : Part all ts) (n : ts ≢ []) (ind : List ℕ) (l : list_all is_level ind ≡ true) where
    abbrev on_lines : List Edit → List ℕ
    on_lines es = reindented ind (spliced (span_of ts).start (between (span_of ts).start (span_of ts).end text) es)

    row_goes : (ss : List Statement) (s : Span) (x : Expression) → AreStatements ts ss (plain.present x) h → (at : ℕ)
        → ReadParts (on_lines (edits_of_run (moved_by P pl r) all ls (row ss s x) plain.absent)) (last_of false (listed (moved_statements P pl r ls (statements_of (row ss s x))))) h at
    row_goes ss s x i at =
        let a = kept_on_lines P pl r text all ts ls ss (plain.present x) h ind l (run_read P pl r F L text all ts ls ss (plain.present x) h d p n i 0) at in
        subst (λ es. ReadParts (on_lines es) (last_of false (listed (moved_statements P pl r ls (statements_of (row ss s x))))) h at) (sym (run_open_edits (moved_by P pl r) all ls ss s x))
        (subst (λ q. ReadParts (on_lines (edits_of_run (moved_by P pl r) all ls ss (plain.present x))) q h at) (goes_as ls ss s x) a)

    row_stays : (ss : List Statement) (s : Span) (x : Expression) → AreStatements ts ss (plain.present x) h → (at : ℕ)
        → ReadParts (on_lines (edits_of_open (moved_by P pl r) all ts ls (row ss s x))) (last_of true (listed (moved_statements P pl r ls (statements_of (row ss s x))))) h at
    row_stays ss s x i at =
        let a = done_on_lines P pl r text all ts ls ss x h ind l (run_done P pl r F L text all ts ls ss x h d p n i 0) at in
        subst (λ es. ReadParts (on_lines (es ++ put (span_of ts).end (with_semicolon plain.absent).behind ∷ [])) (last_of true (listed (moved_statements P pl r ls (statements_of (row ss s x))))) h at) (sym (run_open_edits (moved_by P pl r) all ls ss s x))
        (record { tokens = a.tokens; read = a.read; becomes = stays_as ls ss s x h a.tokens a.becomes })

    pub open_goes : (ss : List Statement) → Fronts ts ss h → is_open ss ≡ true → (at : ℕ)
        → ReadParts (reindented ind (run_bytes P pl r text all ts ls ss plain.absent)) (last_of false (listed (moved_statements P pl r ls (statements_of ss)))) h at
    open_goes ss f e at =
        let q = open_run f e in
        subst (λ zs. ReadParts (reindented ind (run_bytes P pl r text all ts ls zs plain.absent)) (last_of false (listed (moved_statements P pl r ls (statements_of zs)))) h at) (sym q.is) (row_goes q.front q.span q.tail q.derived at)

    pub open_stays : (ss : List Statement) → Fronts ts ss h → is_open ss ≡ true → (at : ℕ)
        → ReadParts (reindented ind (spliced (span_of ts).start (between (span_of ts).start (span_of ts).end text) (edits_of_open (moved_by P pl r) all ts ls ss))) (last_of true (listed (moved_statements P pl r ls (statements_of ss)))) h at
    open_stays ss f e at =
        let q = open_run f e in
        subst (λ zs. ReadParts (on_lines (edits_of_open (moved_by P pl r) all ts ls zs)) (last_of true (listed (moved_statements P pl r ls (statements_of zs)))) h at) (sym q.is) (row_stays q.front q.span q.tail q.derived at)
