-- The body of the new function from its text: the tokens of the locals, of the run and of the tail behind it are derived as a block.
use Rattle.std.proofs.Common.{◌≡◌, ℕ, suc, ◌+◌, ◌≤◌, max, true, false, List, [], ◌∷◌, ◌++◌, Some, codes, length, length-append, refl, sym, ap, subst, ◌∙◌, arith, append_assoc, append-nil}
use Rattle.std.specs.Prelude.{◌≢◌}
use Rattle.rx_core.specs.declared.types.Span.{Span}
use Rattle.rx_tree.specs.Plain as plain
use Rattle.rx_tree.specs.Plain.{Expression, OptionalExpression, Statement, Statements, ProgramTree}
use Rattle.rx_tree.specs.PlainOf.{statements_of}
use Rattle.rx_tree.specs.Lists.{Every}
use Rattle.rx_tree.specs.Erase.{nowhere, erase_statement, erase_statements, erase_optional}
use Rattle.rx_lex.specs.declared.token.Class.TheVariants.{Mark}
use Rattle.rx_lex.specs.Tok.{Tok}
use Rattle.rx_lex.specs.Tokens.{Tokens, at_line_end, token_at}
use Rattle.rx_parse_grammar.specs.grammar.Expressions as g
use Rattle.rx_parse_grammar.specs.grammar.Expressions.{AreStatements, IsStatement}
use Rattle.rx_parse_grammar.proofs.ExpressionsFront.{expression_some}
use Rattle.rx_parse_laws.specs.Words.{words}
use Rattle.rx_typed.specs.Types.{levels}
use Rattle.rx_print_spelling.specs.Pieces.{Piece, mark, line, flat}
use Rattle.rx_print_spelling.specs.Patterns.{pattern_pieces}
use Rattle.rx_print_spelling.specs.Types.{annotation_pieces}
use Rattle.rx_print_spelling.specs.Places.{stated, goes_on}
use Rattle.rx_print_spelling.specs.Expressions.{pieces, statement}
use Rattle.rx_print_spelling.specs.Levels.{type_levels, tail_levels}
use Rattle.rx_print_spelling.specs.Formed.{Formed, FormedOptional}
use Rattle.rx_print_spelling.proofs.Pieces.{places, past, places-append, flat-append}
use Rattle.rx_print_spelling.proofs.Standing.{Apart, whole, keyword_then, line_then, space_then, appended, joined, close, nothing, ends_enclosed}
use Rattle.rx_print_spelling.proofs.TypesStand.{pattern_ends, annotation_ends}
use Rattle.rx_print_spelling.proofs.ExpressionsStand.{expression_stands}
use Rattle.rx_print_spelling.proofs.BlocksRead.{AsBetween, declared_reads, tail_reads}
use Rattle.rx_print_spelling.proofs.ExpressionsRead.{expression_reads}
use Rattle.rx_hoist_extraction.specs.Run.{Parts, as_statements}
use Rattle.rx_hoist_extraction.specs.Plan.{Variable}
use Rattle.rx_hoist_extraction.specs.Made as made_of
use Rattle.rx_hoist_extraction.specs.Made.{let_nothing}
use Rattle.rx_hoist_extraction.specs.WrittenTypes.{elided}
use Rattle.rx_hoist_extraction.specs.NewBody.{declared}
use Rattle.rx_hoist_extraction.specs.FormedPlan.{VariableSpells}
use Rattle.rx_hoist_extraction.proofs.FormedSignatures.{elided_formed}
use Rattle.rx_hoist_extraction.proofs.WrittenLevels.{elided_levels}
use Rattle.rx_splice_laws.specs.Indent.{four}
use Rattle.rx_splice_laws.specs.SplicedText.{lines, tail_line}
use Rattle.rx_splice_laws.specs.RunRead.{ReadLines}
use Rattle.rx_splice_laws.specs.RunValue.{EndedRun}
use Rattle.rx_splice_laws.specs.BodyRead.{ReadParts, body_text, OneTail, tail_or, ReadNewBody}
use Rattle.rx_splice_laws.specs.FrontRead.{FrontRun, ReadFront}
use Rattle.rx_splice_laws.proofs.AsRead.{onto, onto_is, Reads, reads_tokens, stand_reads}
use Rattle.rx_splice_laws.specs.Fronts.{Fronts, none_in_front, statement_in_front, like_in_front}
use Rattle.rx_splice_laws.proofs.Fronts.{fronts_then, fronts_view}
use Rattle.rx_splice_laws.proofs.Cut.{words-append}
use Rattle.rx_splice_laws.proofs.RunValue.{again_ended}
use Rattle.rx_splice_laws.proofs.TailPut.{statement_some, like_some}

-- ---- the locals

record Behind (ts : List Tok) (want : Statements) (y : OptionalExpression) (h : ℕ) : Type 0 where
  statements : List Statement
  levels : ℕ
  derived : AreStatements ts statements y levels
  same : erase_statements (statements_of statements) ≡ erase_statements want
  low : levels ≤ h

statement_behind : (us vs : List Tok) (a b : Statement) (want : Statements) (y : OptionalExpression) (m h : ℕ) → IsStatement us a m → erase_statement a ≡ erase_statement b → m ≤ h → Behind vs want y h → Behind (us ++ vs) (plain.statement_and b want) y h
statement_behind us vs a b want y m h d e l r = record {
  statements = a ∷ r.statements;
  levels = max m r.levels;
  derived = g.statement_and us vs a r.statements y m r.levels d r.derived refl;
  same = ap (λ (w : Statement). plain.statement_and w (fronts_view r.statements)) e ∙ ap (λ (w : Statements). plain.statement_and (erase_statement b) w) r.same;
  low = let k = r.low in omega (arith, k, l);
}

module _ (P : ProgramTree) (r : Span) where
  local_of : Variable → Statement
  local_of v = let_nothing r v.name v.mutable (elided P r v.typ)

  locals_then : (vs : List Variable) → Every (VariableSpells P) vs → Every (λ (v : Variable). levels v.typ ≤ 130) vs → (us : List Tok) (ss : List Statement) (S : List Statement) (y : OptionalExpression) (n h : ℕ)
      → AreStatements us ss y n → fronts_view ss ≡ erase_statements (as_statements S) → n ≤ h → 130 ≤ h → (at : ℕ) → Behind (places at (lines (declared P r vs)) ++ us) (as_statements (declared P r vs ++ S)) y h
  locals_then [] f l us ss S y n h d e k b at = record { statements = ss; levels = n; derived = d; same = e; low = k }
  locals_then (v ∷ vs) f l us ss S y n h d e k b at =
      let from : ℕ = at + length {A = ℕ} (10 ∷ 32 ∷ 32 ∷ 32 ∷ 32 ∷ []) in
      let t = elided P r v.typ in
      let a = let_nothing r v.name v.mutable t in
      let ps = statement 1 a in
      let x = declared_reads 1 r r (made_of.ident r v.name) v.mutable (Some t) (elided_formed P r v.typ f.0.1) from in
      let q : type_levels t ≤ 130 = subst (λ m. m ≤ 130) (sym (elided_levels P r v.typ)) l.0 in
      subst (λ z. Behind z (as_statements (a ∷ (declared P r vs ++ S))) y h) (sym (ap (λ z. z ++ us) (places-append from ps (lines (declared P r vs))) ∙ append_assoc (places from ps) (places (past from ps) (lines (declared P r vs))) us))
      (statement_behind (places from ps) (places (past from ps) (lines (declared P r vs)) ++ us) x.tree a (as_statements (declared P r vs ++ S)) y (max (max 1 (type_levels t)) 0) h x.derived x.same (omega (arith, q, b))
      (locals_then vs f.1 l.1 us ss S y n h d e k b (past from ps)))

  local_stands : (v : Variable) → VariableSpells P v → (rest : List ℕ) → Apart (statement 1 (let_nothing r v.name v.mutable (elided P r v.typ))) rest
  local_stands v f rest =
      let p = made_of.binding r v.name v.mutable in
      let y = Some (elided P r v.typ) in
      keyword_then refl refl (space_then (joined (pattern_pieces p) (pattern_ends p f.0) (refl, refl) (joined (annotation_pieces y) (annotation_ends y (elided_formed P r v.typ f.1)) (refl, refl) (close refl refl))))

  locals_stand : (vs : List Variable) → Every (VariableSpells P) vs → (rest : List ℕ) → Apart (lines (declared P r vs)) rest
  locals_stand [] f rest = nothing rest
  locals_stand (v ∷ vs) f rest =
      line_then 1 (appended (statement 1 (let_nothing r v.name v.mutable (elided P r v.typ))) (local_stands v f.0 (flat (lines (declared P r vs)) ++ rest)) (locals_stand vs f.1 rest))

-- ---- the tail behind a run without one

fronts_of : {ts : List Tok} {ss : List Statement} {y : OptionalExpression} {h : ℕ} → AreStatements ts ss y h → y ≡ plain.absent → Fronts ts ss h
fronts_of g.end e = none_in_front
fronts_of (g.tail d nb) e = absurd (cc)
fronts_of (g.tail_like d) e = absurd (cc)
fronts_of (g.statement_and us vs a ss y m n d r is) e = statement_in_front us vs a ss m n d (fronts_of r e) is
fronts_of (g.like_and us vs x ss y m n d r ne is) e = like_in_front us vs x ss m n d (fronts_of r e) is

joined_some : (us vs : List Tok) → us ≢ [] → us ++ vs ≢ []
joined_some [] vs n e = n refl
joined_some (u ∷ us) vs n e = absurd (cc)

pub ended_some : {ts : List Tok} {ss : List Statement} {y : OptionalExpression} {h : ℕ} → AreStatements ts ss y h → (w : Expression) → erase_optional y ≡ plain.present w → ts ≢ []
ended_some g.end w e = absurd (cc)
ended_some (g.tail d nb) w e = expression_some d
ended_some (g.tail_like d) w e = like_some d
ended_some (g.statement_and us vs a ss y m n d r is) w e = λ i. joined_some us vs (statement_some d) (sym is ∙ i)
ended_some (g.like_and us vs x ss y m n d r ne is) w e = λ i. joined_some us vs (like_some d) (sym is ∙ i)

tail_absent : (o : OptionalExpression) → erase_optional o ≡ plain.absent → o ≡ plain.absent
tail_absent plain.absent e = refl
tail_absent (plain.present x) e = absurd (cc)

none_listed : (ss : List Statement) → fronts_view ss ≡ plain.no_statement → ss ≡ []
none_listed [] e = refl
none_listed (a ∷ ss) e = absurd (cc)

abbrev parts_of : List Statement → OptionalExpression → Parts
parts_of S y = record { statements = S; tail = y }

tail_after : (S : List Statement) (x : Expression) (h : ℕ) (us vs : List Tok) (k : ℕ) → FrontRun S h us → AsBetween vs plain.no_statement (plain.present x) k → k ≤ 131 → EndedRun (parts_of S (plain.present x)) h (us ++ vs)
tail_after S x h us vs k m b l =
    let t = fronts_then m.in_front vs b.list b.last k b.derived (ended_some b.derived _ b.same_tail) in
    record {
      statements = m.statements ++ b.list;
      tail = b.last;
      levels = t.levels;
      derived = t.derived;
      same_statements = ap fronts_view (ap (λ z. m.statements ++ z) (none_listed b.list b.same) ∙ append-nil m.statements) ∙ m.same;
      same_tail = b.same_tail;
      low = let p = t.low in let q = m.low in omega (arith, p, q, l);
    }

in_front_of : (S : List Statement) (h : ℕ) (us : List Tok) → EndedRun (parts_of S plain.absent) h us → FrontRun S h us
in_front_of S h us m = record { statements = m.statements; levels = m.levels; in_front = fronts_of m.derived (tail_absent m.tail m.same_tail); same = m.same_statements; low = m.low }

tail_there : (x : Expression) → Formed x → (k : ℕ) → AsBetween (places k (tail_line (plain.present x))) plain.no_statement (plain.present x) (max 0 (tail_levels (plain.present x)))
tail_there x f k = tail_reads 1 x (expression_reads x 1 f) k

with_tail : (S : List Statement) (y o : OptionalExpression) (h : ℕ) (us : List Tok) (k : ℕ) → OneTail y o → FormedOptional o → tail_levels o ≤ 131 → EndedRun (parts_of S y) h us → EndedRun (parts_of S (tail_or y o)) h (us ++ places k (tail_line o))
with_tail S plain.absent plain.absent h us k c f l m = subst (EndedRun (parts_of S plain.absent) h) (sym (append-nil us)) m
with_tail S (plain.present e) plain.absent h us k c f l m = subst (EndedRun (parts_of S (plain.present e)) h) (sym (append-nil us)) m
with_tail S plain.absent (plain.present x) h us k c f l m = tail_after S x h us (places k (tail_line (plain.present x))) (max 0 (tail_levels (plain.present x))) (in_front_of S h us m) (tail_there x f k) (omega (arith, l))
with_tail S (plain.present e) (plain.present x) h us k c f l m = absurd c

abbrev closing : OptionalExpression → List Piece
closing o = tail_line o ++ (line 0 ∷ mark (codes "}") ∷ [])

closing_stands : (o : OptionalExpression) → FormedOptional o → (rest : List ℕ) → Apart (closing o) rest
closing_stands plain.absent f rest = line_then 0 (close refl refl)
closing_stands (plain.present x) f rest =
    line_then 1 (joined (stated x (pieces false 1 x)) (ends_enclosed (goes_on x) (pieces false 1 x) (expression_stands x 1 f).alone) (refl, refl) (line_then 0 (close refl refl)))

closing_line : (o : OptionalExpression) (r : List ℕ) → at_line_end (onto (closing o) r) ≡ true
closing_line plain.absent r = refl
closing_line (plain.present x) r = refl

-- ---- a text between pieces

around_read : (at : ℕ) (ps qs : List Piece) (run t : List ℕ) (us : List Tok) → ((r : List ℕ) → Reads ps r) → ((r : List ℕ) → Reads qs r) → ((r : List ℕ) → at_line_end (onto qs r) ≡ true)
    → ReadLines (at + length (flat ps)) run us → flat ps ++ (run ++ flat qs) ≡ t → ReadLines at t (places at ps ++ (us ++ places ((at + length (flat ps)) + length run) qs))
around_read at ps qs run t us a b c d i = record {
  read = λ r more e q.
      let k : ℕ = (at + length (flat ps)) + length run in
      let z : Tokens (k + length (flat qs)) r more = subst (λ n. Tokens n r more) (omega (arith, ap length i, length-append (flat ps) (run ++ flat qs), length-append run (flat qs))) q in
      let x = reads_tokens k qs r more (b r) z in
      let y = d.read (onto qs r) (places k qs ++ more) (c r) x in
      let w = reads_tokens at ps (run ++ onto qs r) (us ++ (places k qs ++ more)) (a (run ++ onto qs r)) y in
      subst (λ n. Tokens at n ((places at ps ++ (us ++ places k qs)) ++ more))
      (onto_is ps (run ++ onto qs r) ∙ ap (λ n. flat ps ++ (run ++ n)) (onto_is qs r) ∙ ap (λ n. flat ps ++ n) (sym (append_assoc run (flat qs) r)) ∙ sym (append_assoc (flat ps) (run ++ flat qs) r) ∙ ap (λ n. n ++ r) i)
      (subst (Tokens at (onto ps (run ++ onto qs r))) (sym (append_assoc (places at ps) (us ++ places k qs) more ∙ ap (λ n. places at ps ++ n) (append_assoc us (places k qs) more))) w);
}

-- ---- the whole

module _ (P : ProgramTree) (r : Span) (vs : List Variable) (F : Every (VariableSpells P) vs) (L : Every (λ (v : Variable). levels v.typ ≤ 130) vs) where
  abbrev opening : List Piece
  opening = mark (codes "{") ∷ (lines (declared P r vs) ++ line 1 ∷ [])

  opening_stands : (rest : List ℕ) → Apart opening rest
  opening_stands rest = whole refl refl (appended (lines (declared P r vs)) (locals_stand P r vs F (flat (line 1 ∷ []) ++ rest)) (line_then 1 (nothing rest)))

  text_is : (run : List ℕ) (o : OptionalExpression) → flat opening ++ (run ++ flat (closing o)) ≡ body_text (declared P r vs) run o
  text_is run o =
      ap (λ x. codes "{" ++ (x ++ (run ++ flat (closing o)))) (flat-append (lines (declared P r vs)) (line 1 ∷ []))
      ∙ ap (λ x. codes "{" ++ x) (append_assoc (flat (lines (declared P r vs))) (10 ∷ four) (run ++ flat (closing o)))
      ∙ ap (λ x. codes "{" ++ (flat (lines (declared P r vs)) ++ (10 ∷ (four ++ (run ++ x))))) (flat-append (tail_line o) (line 0 ∷ mark (codes "}") ∷ []))

  opening_places : (at : ℕ) → places at opening ≡ token_at at Mark (codes "{") ∷ places (at + length (codes "{")) (lines (declared P r vs))
  opening_places at =
      ap (λ x. token_at at Mark (codes "{") ∷ x) (places-append (at + length (codes "{")) (lines (declared P r vs)) (line 1 ∷ []) ∙ append-nil (places (at + length (codes "{")) (lines (declared P r vs))))

  -- with the tokens of the run and of the tail behind it
  whole_of : (run : List ℕ) (S : List Statement) (y z o : OptionalExpression) (h at : ℕ) (us : List Tok) → tail_or y o ≡ z → FormedOptional o → ReadLines (at + length (flat opening)) run us
      → EndedRun (parts_of S z) h (us ++ places ((at + length (flat opening)) + length run) (tail_line o)) → ReadNewBody r (declared P r vs) run (parts_of S y) o h at
  whole_of run S y w o h at us j f m e =
      let k : ℕ = (at + length (flat opening)) + length run in
      let z = token_at (past k (tail_line o) + length {A = ℕ} (10 ∷ [])) Mark (codes "}") in
      let q = token_at at Mark (codes "{") in
      let xs = places (at + length (codes "{")) (lines (declared P r vs)) in
      let b = locals_then P r vs F L (us ++ places k (tail_line o)) e.statements S e.tail e.levels (131 + (h + h + h)) e.derived e.same_statements e.low (omega arith) (at + length (codes "{")) in
      let i : places at opening ++ (us ++ places k (closing o)) ≡ q ∷ ((xs ++ (us ++ places k (tail_line o))) ++ z ∷ []) =
      ap (λ x. x ++ (us ++ places k (closing o))) (opening_places at)
      ∙ ap (λ x. q ∷ (xs ++ x)) (ap (λ x. us ++ x) (places-append k (tail_line o) (line 0 ∷ mark (codes "}") ∷ [])) ∙ sym (append_assoc us (places k (tail_line o)) (z ∷ [])))
      ∙ ap (λ x. q ∷ x) (sym (append_assoc xs (us ++ places k (tail_line o)) (z ∷ []))) in
      record {
        tokens = places at opening ++ (us ++ places k (closing o));
        read = around_read at opening (closing o) run (body_text (declared P r vs) run o) us (λ n. let a = opening_stands n in stand_reads opening n a.stand) (λ n. let a = closing_stands o f n in stand_reads (closing o) n a.stand) (closing_line o) m (text_is run o);
        tree = _;
        levels = suc b.levels;
        derived = g.braces q z (xs ++ (us ++ places k (tail_line o))) b.statements e.tail b.levels (refl, refl) (refl, refl) b.derived i;
        same = ap (λ (w : Statements). plain.body nowhere w (erase_optional e.tail)) b.same
            ∙ ap (λ (w : OptionalExpression). plain.body nowhere (erase_statements (as_statements (declared P r vs ++ S))) w) (e.same_tail ∙ ap erase_optional (sym j));
        low = let n = b.low in omega (arith, n);
      }

  whole_body : (run : List ℕ) (S : List Statement) (y o : OptionalExpression) (h at : ℕ) → OneTail y o → FormedOptional o → tail_levels o ≤ 131 → ReadParts run (parts_of S y) h (at + length (flat opening))
      → ReadNewBody r (declared P r vs) run (parts_of S y) o h at
  whole_body run S y o h at c f l m =
      whole_of run S y (tail_or y o) o h at m.tokens refl f m.read (with_tail S y o h m.tokens ((at + length (flat opening)) + length run) c f l m.becomes)

  pub new_bodies : (run : List ℕ) (want : Parts) (o : OptionalExpression) (h : ℕ) → OneTail want.tail o → FormedOptional o → tail_levels o ≤ 131 → ((k : ℕ) → ReadParts run want h k)
      → (at : ℕ) → ReadNewBody r (declared P r vs) run want o h at
  new_bodies run want o h c f l m at = whole_body run want.statements want.tail o h at c f l (m (at + length (flat opening)))

  -- behind a run that may end with an expression that ends in a block
  front_body : (run : List ℕ) (S : List Statement) (x : Expression) (h at : ℕ) → Formed x → tail_levels (plain.present x) ≤ 131 → ReadFront run S h (at + length (flat opening))
      → ReadNewBody r (declared P r vs) run (parts_of S plain.absent) (plain.present x) h at
  front_body run S x h at f l m =
      let k : ℕ = (at + length (flat opening)) + length run in
      let ws = places k (tail_line (plain.present x)) in
      let e = tail_after S x h m.alike ws (max 0 (tail_levels (plain.present x))) m.becomes (tail_there x f k) (omega (arith, l)) in
      whole_of run S plain.absent (plain.present x) (plain.present x) h at m.tokens refl f m.read
      (again_ended (parts_of S (plain.present x)) h (m.alike ++ ws) (m.tokens ++ ws) e (words-append m.tokens ws ∙ ap (λ z. z ++ words ws) m.same_words ∙ sym (words-append m.alike ws)))

  pub front_bodies : (run : List ℕ) (S : List Statement) (x : Expression) (h : ℕ) → Formed x → tail_levels (plain.present x) ≤ 131 → ((k : ℕ) → ReadFront run S h k)
      → (at : ℕ) → ReadNewBody r (declared P r vs) run (parts_of S plain.absent) (plain.present x) h at
  front_bodies run S x h f l m at = front_body run S x h at f l (m (at + length (flat opening)))
