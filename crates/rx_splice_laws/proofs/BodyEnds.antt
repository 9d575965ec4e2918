-- The body of the new function, whatever the end of its run is: by the cases of the end.
use Rattle.std.proofs.Common.{◌≡◌, ℕ, ◌≤◌, Bool, true, false, List, [], ◌∷◌, ◌++◌, map, Option, Some, None, codes, refl, sym, ap, subst, ◌∙◌, arith, append_assoc, append-nil}
use Rattle.std.specs.Prelude.{◌≢◌, ⊤, ◌||◌, if◌then◌else◌}
use Rattle.std.specs.List.{list_all}
use Rattle.std.proofs.lemmas.Bool.{and_parts, false≢true}
use Rattle.rx_core.specs.declared.types.Span.{Span}
use Rattle.rx_tree.specs.Plain as plain
use Rattle.rx_tree.specs.Plain.{Expression, OptionalExpression, Statement, Statements, ProgramTree}
use Rattle.rx_tree.specs.PlainOf.{statements_of}
use Rattle.rx_tree.specs.Lists.{Every, listed}
use Rattle.rx_lex.specs.Tok.{Tok}
use Rattle.rx_lex.specs.Tokens.{Lexes}
use Rattle.rx_parse_grammar.specs.grammar.Words.{span_of}
use Rattle.rx_parse_grammar.specs.grammar.Expressions as g
use Rattle.rx_parse_grammar.specs.grammar.Expressions.{AreStatements}
use Rattle.rx_typed.specs.Types.{Typ, levels}
use Rattle.rx_print_spelling.specs.Pieces.{mark}
use Rattle.rx_print_spelling.specs.Formed.{Spells, Formed, FormedOptional, FormedOptionalList}
use Rattle.rx_print_spelling.specs.Levels.{tail_levels, list_levels, optional_list_levels}
use Rattle.rx_resolve_names.specs.Meant.{Around}
use Rattle.rx_hoist_extraction.specs.Names.{Names, bound_by, behind_all}
use Rattle.rx_hoist_extraction.specs.Run.{Parts}
use Rattle.rx_hoist_extraction.specs.Plan.{to_next, Variable, Plan, has_exit, has_enum, outs_of, names_of, enum_name, exit_name}
use Rattle.rx_hoist_extraction.specs.Fresh.{fresh_variable}
use Rattle.rx_hoist_extraction.specs.Made.{as_expressions, joined, given, variant}
use Rattle.rx_hoist_extraction.specs.NewBody as new
use Rattle.rx_hoist_extraction.specs.NewBody.{declared, next_outs, handing_on, is_any, is_followed, stays_last, last_of, ended}
use Rattle.rx_hoist_extraction.specs.Changed.{Changes, changed_statement, changed_statements}
use Rattle.rx_hoist_extraction.specs.FormedPlan.{TypeSpells, MaybeSpells, FormedPlan}
use Rattle.rx_hoist_extraction.specs.Moved.{moving}
use Rattle.rx_hoist_extraction.proofs.MadeNames.{exit_is_identifier, exit_name_spells, variable_is_identifier}
use Rattle.rx_hoist_extraction.proofs.FormedBodies.{listed_formed, joined_formed}
use Rattle.rx_hoist_extraction.proofs.FormedSignatures.{outs_spell}
use Rattle.rx_splice_laws.specs.Edits.{Edit, put}
use Rattle.rx_splice_laws.specs.EditsOf.{edits, all_statement_edits}
use Rattle.rx_splice_laws.specs.Indent.{is_level}
use Rattle.rx_splice_laws.specs.Moving.{Moving, run_edits}
use Rattle.rx_splice_laws.specs.MovedBy.{moved_by, pins_of, moved_statements, moved_tail, PinsLow}
use Rattle.rx_splice_laws.specs.RunEnd.{RunEnd, as_it_is, with_semicolon, in_variant, in_tuple, is_open, followed, unfollowed, end_by}
use Rattle.rx_splice_laws.specs.RunDone.{edits_of_done}
use Rattle.rx_splice_laws.specs.RunValue.{edits_of_value, moved_value, in_variant_parts, in_let_parts}
use Rattle.rx_splice_laws.specs.SplicedRun.{Part, edits_of_run}
use Rattle.rx_splice_laws.specs.SplicedText.{tail_start, put_if_any}
use Rattle.rx_splice_laws.specs.Fronts.{Fronts, none_in_front, statement_in_front, like_in_front, edits_of_open}
use Rattle.rx_splice_laws.specs.BodyRead.{OneTail, tail_or, kept_parts, done_parts, ReadParts, ReadNewBody}
use Rattle.rx_splice_laws.specs.EndRead.{RunTokens, edits_by_end, run_on_lines, ValueLow, ReadWholeBody}
use Rattle.rx_splice_laws.proofs.TailPut.{statement_some, like_some}
use Rattle.rx_splice_laws.proofs.RunSpliced.{run_read}
use Rattle.rx_splice_laws.proofs.RunDone.{run_done}
use Rattle.rx_splice_laws.proofs.RunParts.{kept_on_lines, done_on_lines, ended_on_lines}
use Rattle.rx_splice_laws.proofs.ValueRead.{variant_closing}
use Rattle.rx_splice_laws.proofs.ValuedRuns.{names_spell, variant_runs, let_runs}
use Rattle.rx_splice_laws.proofs.OpenRuns.{open_behind, open_goes, open_stays}
use Rattle.rx_splice_laws.proofs.FrontRuns.{front_on_lines}
use Rattle.rx_splice_laws.proofs.NewBodies.{new_bodies, front_bodies}

abbrev parts_of : List Statement → OptionalExpression → Parts
parts_of S y = record { statements = S; tail = y }

-- ---- a run that does not end with an open statement

joined_some : (us vs : List Tok) → us ≢ [] → us ++ vs ≢ []
joined_some [] vs n e = n refl
joined_some (u ∷ us) vs n e = absurd (cc)

fronts_some : {ts : List Tok} {b : Statement} {ss : List Statement} {h : ℕ} → Fronts ts (b ∷ ss) h → ts ≢ []
fronts_some (statement_in_front us vs a ss m n d f is) e = joined_some us vs (statement_some d) (sym is ∙ e)
fronts_some (like_in_front us vs x ss m n d f is) e = joined_some us vs (like_some d) (sym is ∙ e)

none_left : {ts : List Tok} {h : ℕ} → Fronts ts [] h → AreStatements ts [] plain.absent h
none_left none_in_front = g.end

closed_run : {ts : List Tok} {ss : List Statement} {h : ℕ} → Fronts ts ss h → is_open ss ≡ false → AreStatements ts ss plain.absent h
closed_run none_in_front e = g.end
closed_run (statement_in_front us vs a [] m n d f is) e = g.statement_and us vs a [] plain.absent m n d (none_left f) is
closed_run (statement_in_front us vs a (b ∷ ss) m n d f is) e = g.statement_and us vs a (b ∷ ss) plain.absent m n d (closed_run f (sym (open_behind d b ss) ∙ e)) is
closed_run (like_in_front us vs x [] m n d f is) e = absurd (false≢true (sym e))
closed_run (like_in_front us vs x (b ∷ ss) m n d f is) e = g.like_and us vs x (b ∷ ss) plain.absent m n d (closed_run f e) (fronts_some f) is

open_more : (a b : Statement) (ss : List Statement) → is_open (a ∷ b ∷ ss) ≡ is_open (b ∷ ss)
open_more (plain.let_statement s p t o) b ss = refl
open_more (plain.expression_statement s e true) b ss = refl
open_more (plain.expression_statement s e false) b ss = refl

last_closed : (stays : Bool) (ss : List Statement) → is_open ss ≡ false → last_of stays ss ≡ parts_of ss plain.absent
last_closed stays [] e = refl
last_closed stays (plain.let_statement s p t o ∷ []) e = refl
last_closed stays (plain.expression_statement s x true ∷ []) e = refl
last_closed stays (plain.expression_statement s x false ∷ []) e = absurd (false≢true (sym e))
last_closed stays (a ∷ b ∷ ss) e = ap (new.behind_a a) (last_closed stays (b ∷ ss) (sym (open_more a b ss) ∙ e))

changed_open : (C : Changes) (own : Names) (ls : List Around) (ss : Statements) → is_open (listed (changed_statements C own ls ss)) ≡ is_open (listed ss)
changed_open C own ls plain.no_statement = refl
changed_open C own ls (plain.statement_and (plain.let_statement s p t o) plain.no_statement) = refl
changed_open C own ls (plain.statement_and (plain.expression_statement s e true) plain.no_statement) = refl
changed_open C own ls (plain.statement_and (plain.expression_statement s e false) plain.no_statement) = refl
changed_open C own ls (plain.statement_and a (plain.statement_and b ss)) =
    open_more (changed_statement C own ls a) (changed_statement C (bound_by a ++ own) ls b) (listed (changed_statements C (bound_by b ++ (bound_by a ++ own)) ls ss))
    ∙ changed_open C (bound_by a ++ own) ls (plain.statement_and b ss) ∙ sym (open_more a b (listed ss))

listed_of : (ss : List Statement) → listed (statements_of ss) ≡ ss
listed_of [] = refl
listed_of (a ∷ ss) = ap (λ (z : List Statement). a ∷ z) (listed_of ss)

-- ---- what is handed on

vars_formed : (r : Span) (xs : Names) → Every Spells xs → Every Formed (map (plain.var r) xs)
vars_formed r [] h = tt
vars_formed r (x ∷ xs) h = (h.0, vars_formed r xs h.1)

given_formed : (es : List Expression) → Every Formed es → FormedOptionalList (given es)
given_formed [] h = tt
given_formed (e ∷ es) h = (tt, listed_formed (e ∷ es) h)

vars_low : (r : Span) (xs : Names) → list_levels (as_expressions (map (plain.var r) xs)) ≤ 1
vars_low r [] = omega arith
vars_low r (x ∷ xs) = let k = vars_low r xs in omega (arith, k)

given_low : (r : Span) (xs : Names) → optional_list_levels (given (map (plain.var r) xs)) ≤ 1
given_low r [] = omega arith
given_low r (x ∷ xs) = vars_low r (x ∷ xs)

joined_low : (r : Span) (xs : Names) → tail_levels (joined r (map (plain.var r) xs)) ≤ 131
joined_low r [] = omega arith
joined_low r (x ∷ []) = omega arith
joined_low r (x ∷ y ∷ xs) = let k = vars_low r (x ∷ y ∷ xs) in omega (arith, k)

abbrev SomeTail : OptionalExpression → Type 0
SomeTail plain.absent = ⊥
SomeTail (plain.present x) = ⊤

module _ (P : ProgramTree) (pl : Plan) (r : Span) (F : FormedPlan P pl) where
  abbrev outs : Names
  outs = names_of (outs_of to_next pl.exits)

  outs_are : Every Spells outs
  outs_are = names_spell P (outs_of to_next pl.exits) (outs_spell P to_next pl.exits F.exits)

  handed_formed : (b : Bool) → FormedOptional (if b then plain.present (variant r (enum_name pl) (exit_name to_next) (next_outs pl r)) else joined r (next_outs pl r))
  handed_formed true = (exit_is_identifier pl F.name, exit_name_spells to_next, given_formed (next_outs pl r) (vars_formed r outs outs_are))
  handed_formed false = joined_formed r (next_outs pl r) (vars_formed r outs outs_are)

  handed_low : (b : Bool) → tail_levels (if b then plain.present (variant r (enum_name pl) (exit_name to_next) (next_outs pl r)) else joined r (next_outs pl r)) ≤ 131
  handed_low true = let k = given_low r outs in omega (arith, k)
  handed_low false = joined_low r outs

  some_handed : (b : Bool) (es : List Expression) → (b || is_any es) ≡ true → SomeTail (if b then plain.present (variant r (enum_name pl) (exit_name to_next) es) else joined r es)
  some_handed true es e = tt
  some_handed false [] e = absurd (false≢true e)
  some_handed false (x ∷ []) e = tt
  some_handed false (x ∷ y ∷ es) e = tt

-- ---- the body

one_absent : (y : OptionalExpression) → OneTail y plain.absent
one_absent plain.absent = tt
one_absent (plain.present e) = tt

or_absent : (y : OptionalExpression) → tail_or y plain.absent ≡ y
or_absent plain.absent = refl
or_absent (plain.present e) = refl

closing_put : (at : ℕ) (xs : Names) → put at (variant_closing xs) ∷ [] ≡ put_if_any at (variant_closing xs)
closing_put at [] = refl
closing_put at (x ∷ xs) = refl

module _ (P : ProgramTree) (pl : Plan) (r : Span) (F : FormedPlan P pl) (L : PinsLow pl.pins) (V : ValueLow pl.value) (W : Every (λ (v : Variable). levels v.typ ≤ 130) pl.locals)
    (text : List ℕ) (all ts : List Tok) (ls : List Around) (h : ℕ) (d : Lexes text all) (p : Part all ts) (n : ts ≢ []) (ind : List ℕ) (l : list_all is_level ind ≡ true) where
  abbrev M : Moving
  M = moved_by P pl r

  abbrev moved_row : List Statement → List Statement
  moved_row ss = listed (moved_statements P pl r ls (statements_of ss))

  abbrev row_edits : List Statement → List Edit
  row_edits ss = all_statement_edits (run_edits M all) [] ls (statements_of ss)

  abbrev value_edits : List Statement → Expression → List Edit
  value_edits ss x = edits (run_edits M all) (behind_all [] (statements_of ss)) ls false x

  abbrev Whole : List Edit → OptionalExpression → Parts → Type 0
  Whole es o Q = (at : ℕ) → ReadWholeBody r (declared P r pl.locals) (run_on_lines ind text ts es) o Q h at

  abbrev Ends : List Statement → OptionalExpression → RunEnd → Parts → Type 0
  Ends ss o e Q = Whole (edits_by_end M all ts ls ss o e) e.tail Q

  whole : (es fs : List Edit) (want : Parts) (o : OptionalExpression) (Q : Parts) → fs ≡ es → parts_of want.statements (tail_or want.tail o) ≡ Q
      → ((at : ℕ) → ReadNewBody r (declared P r pl.locals) (run_on_lines ind text ts fs) want o h at) → Whole es o Q
  whole es fs want o Q i j m at =
      let b = m at in
      subst (λ z. ReadWholeBody r (declared P r pl.locals) (run_on_lines ind text ts z) o Q h at) i
      (subst (λ q. ReadWholeBody r (declared P r pl.locals) (run_on_lines ind text ts fs) o q h at) j
      (record { tokens = b.tokens; read = b.read; tree = b.tree; levels = b.levels; derived = b.derived; same = b.same; low = b.low }))

  -- parts of which the tail is there or not, and no tail behind them
  of_parts : (es fs : List Edit) (want : Parts) → fs ≡ es → ((k : ℕ) → ReadParts (run_on_lines ind text ts fs) want h k) → Whole es plain.absent want
  of_parts es fs want i m =
      whole es fs want plain.absent want i (ap (parts_of want.statements) (or_absent want.tail))
      (new_bodies P r pl.locals F.locals W (run_on_lines ind text ts fs) want plain.absent h (one_absent want.tail) tt (omega arith) m)

  kept_end : (ss : List Statement) (x : Expression) → AreStatements ts ss (plain.present x) h → Ends ss (plain.present x) as_it_is (parts_of (moved_row ss) (plain.present (moved_value P pl r ls (statements_of ss) x)))
  kept_end ss x i =
      of_parts _ (edits_of_run M all ls ss (plain.present x)) (kept_parts P pl r ls ss (plain.present x)) (ap (λ z. row_edits ss ++ z) (sym (append-nil (value_edits ss x))))
      (kept_on_lines P pl r text all ts ls ss (plain.present x) h ind l (run_read P pl r F L text all ts ls ss (plain.present x) h d p n i 0))

  closed_end : (ss : List Statement) → AreStatements ts ss plain.absent h → Ends ss plain.absent as_it_is (parts_of (moved_row ss) plain.absent)
  closed_end ss i =
      of_parts _ (edits_of_run M all ls ss plain.absent) (kept_parts P pl r ls ss plain.absent) refl
      (kept_on_lines P pl r text all ts ls ss plain.absent h ind l (run_read P pl r F L text all ts ls ss plain.absent h d p n i 0))

  goes_end : (ss : List Statement) → Fronts ts ss h → is_open ss ≡ true → Ends ss plain.absent as_it_is (last_of false (moved_row ss))
  goes_end ss f e = of_parts _ (edits_of_run M all ls ss plain.absent) (last_of false (moved_row ss)) refl (open_goes P pl r F L text all ts ls h d p n ind l ss f e)

  stays_end : (ss : List Statement) → Fronts ts ss h → is_open ss ≡ true → Ends ss plain.absent (with_semicolon plain.absent) (last_of true (moved_row ss))
  stays_end ss f e =
      of_parts _ (edits_of_open M all ts ls ss) (last_of true (moved_row ss)) (ap (λ z. z ++ put (span_of ts).end (mark (codes ";") ∷ []) ∷ []) (append-nil (row_edits ss)))
      (open_stays P pl r F L text all ts ls h d p n ind l ss f e)

  done_end : (ss : List Statement) (x : Expression) (o : OptionalExpression) → AreStatements ts ss (plain.present x) h → FormedOptional o → tail_levels o ≤ 131
      → Ends ss (plain.present x) (with_semicolon o) (parts_of (moved_row ss ++ new.tail_done r (plain.present (moved_value P pl r ls (statements_of ss) x))) o)
  done_end ss x o i f k =
      whole _ (edits_of_done M all ts ls ss x) (done_parts P pl r ls ss x) o _ (append_assoc (row_edits ss) (value_edits ss x) (put (span_of ts).end (mark (codes ";") ∷ []) ∷ [])) refl
      (new_bodies P r pl.locals F.locals W _ (done_parts P pl r ls ss x) o h tt f k
      (done_on_lines P pl r text all ts ls ss x h ind l (run_done P pl r F L text all ts ls ss x h d p n i 0)))

  front_end : (ss : List Statement) (w : OptionalExpression) → Fronts ts ss h → SomeTail w → FormedOptional w → tail_levels w ≤ 131
      → Ends ss plain.absent (record as_it_is { tail = w }) (parts_of (moved_row ss ++ []) w)
  front_end ss plain.absent i s f k = absurd s
  front_end ss (plain.present x) i s f k =
      whole _ (edits_of_run M all ls ss plain.absent) (parts_of (moved_row ss) plain.absent) (plain.present x) _ refl (ap (λ z. parts_of z (plain.present x)) (sym (append-nil (moved_row ss))))
      (front_bodies P r pl.locals F.locals W _ (moved_row ss) x h f k (front_on_lines P pl r F L text all ts ls ss h d p n i ind l))

  variant_end : (ss : List Statement) (x : Expression) → AreStatements ts ss (plain.present x) h
      → Ends ss (plain.present x) (in_variant pl) (parts_of (moved_row ss) (plain.present (variant r (enum_name pl) (exit_name to_next) (moved_value P pl r ls (statements_of ss) x ∷ next_outs pl r))))
  variant_end ss x i =
      of_parts _ (edits_of_value M all ts ls ss x (in_variant pl)) (in_variant_parts P pl r ls ss x)
      (ap (λ z. row_edits ss ++ (put (tail_start all (span_of ts).start ss) (in_variant pl).before ∷ (value_edits ss x ++ z))) (closing_put (span_of ts).end (names_of (outs_of to_next pl.exits))))
      (ended_on_lines text ts (edits_of_value M all ts ls ss x (in_variant pl)) (in_variant_parts P pl r ls ss x) h ind l (variant_runs P pl r F L text all ts ls ss x h d p n i 0))

  tuple_end : (t : Typ) → TypeSpells P t → levels t ≤ 130 → (xs : Names) → names_of (outs_of to_next pl.exits) ≡ xs → (ss : List Statement) (x : Expression) → AreStatements ts ss (plain.present x) h
      → Ends ss (plain.present x) (in_tuple P pl r t xs) (new.in_tuple P pl r t (moved_row ss) (moved_value P pl r ls (statements_of ss) x) (map (plain.var r) xs))
  tuple_end t f k [] e ss x i = kept_end ss x i
  tuple_end t f k (y ∷ ys) e ss x i =
      let out = fresh_variable pl.identifiers 0 in
      let w = joined r (plain.var r out ∷ next_outs pl r) in
      let xs : Names = out ∷ names_of (outs_of to_next pl.exits) in
      whole _ (edits_of_value M all ts ls ss x (in_tuple P pl r t (y ∷ ys))) (in_let_parts P pl r t ls ss x) w _ refl
      (ap (λ (z : Names). parts_of (in_let_parts P pl r t ls ss x).statements (joined r (plain.var r out ∷ map (plain.var r) z))) e)
      (new_bodies P r pl.locals F.locals W _ (in_let_parts P pl r t ls ss x) w h tt
      (joined_formed r (plain.var r out ∷ next_outs pl r) (variable_is_identifier pl.identifiers 0 F.fresh_variable, vars_formed r (names_of (outs_of to_next pl.exits)) (outs_are P pl r F))) (joined_low r xs)
      (ended_on_lines text ts (edits_of_value M all ts ls ss x (in_tuple P pl r t (y ∷ ys))) (in_let_parts P pl r t ls ss x) h ind l (let_runs P pl r F L t y ys f k text all ts ls ss x h d p n i 0)))

  row_open : (ss : List Statement) → is_open (moved_row ss) ≡ is_open ss
  row_open ss =
      changed_open (moving pl r) [] ls (changed_statements (pins_of P r pl.pins) [] ls (statements_of ss)) ∙ changed_open (pins_of P r pl.pins) [] ls (statements_of ss) ∙ ap is_open (listed_of ss)

  last_end : (ss : List Statement) → Fronts ts ss h → (stays c : Bool) → is_open ss ≡ c
      → Ends ss plain.absent (if stays then (if c then with_semicolon plain.absent else as_it_is) else as_it_is) (last_of stays (moved_row ss))
  last_end ss f true true e = stays_end ss f e
  last_end ss f false true e = goes_end ss f e
  last_end ss f true false e = subst (Ends ss plain.absent as_it_is) (sym (last_closed true (moved_row ss) (row_open ss ∙ e))) (closed_end ss (closed_run f e))
  last_end ss f false false e = subst (Ends ss plain.absent as_it_is) (sym (last_closed false (moved_row ss) (row_open ss ∙ e))) (closed_end ss (closed_run f e))

  abbrev moved_run : List Statement → OptionalExpression → Parts
  moved_run ss o = parts_of (moved_row ss) (moved_tail P pl r ls (statements_of ss) o)

  without_end : (ss : List Statement) (o : OptionalExpression) → RunTokens ts ss o h → (b : Bool) → is_followed pl (next_outs pl r) ≡ b
      → Ends ss o (if b then followed pl r o else unfollowed pl ss o) (if b then new.followed pl r (moved_run ss o) (next_outs pl r) else new.unfollowed pl (moved_run ss o))
  without_end ss plain.absent i true e =
      front_end ss (handing_on pl r (next_outs pl r)) i (some_handed P pl r F (has_enum pl.exits) (next_outs pl r) (and_parts (has_exit to_next pl.exits) (has_enum pl.exits || is_any (next_outs pl r)) e).1)
      (handed_formed P pl r F (has_enum pl.exits)) (handed_low P pl r F (has_enum pl.exits))
  without_end ss (plain.present x) i true e = done_end ss x (handing_on pl r (next_outs pl r)) i (handed_formed P pl r F (has_enum pl.exits)) (handed_low P pl r F (has_enum pl.exits))
  without_end ss plain.absent i false e = last_end ss i (stays_last pl) (is_open ss) refl
  without_end ss (plain.present x) i false e = kept_end ss x i

  value_end : (t : Typ) → TypeSpells P t → levels t ≤ 130 → (ss : List Statement) (x : Expression) → AreStatements ts ss (plain.present x) h → (b : Bool) → has_enum pl.exits ≡ b
      → Ends ss (plain.present x) (if b then in_variant pl else in_tuple P pl r t (names_of (outs_of to_next pl.exits)))
      (if b then parts_of (moved_row ss) (handing_on pl r (moved_value P pl r ls (statements_of ss) x ∷ next_outs pl r)) else new.in_tuple P pl r t (moved_row ss) (moved_value P pl r ls (statements_of ss) x) (next_outs pl r))
  value_end t f k ss x i true e =
      subst (λ c. Ends ss (plain.present x) (in_variant pl) (parts_of (moved_row ss) (if c then plain.present (variant r (enum_name pl) (exit_name to_next) (moved_value P pl r ls (statements_of ss) x ∷ next_outs pl r)) else joined r (moved_value P pl r ls (statements_of ss) x ∷ next_outs pl r)))) (sym e)
      (variant_end ss x i)
  value_end t f k ss x i false e = tuple_end t f k (names_of (outs_of to_next pl.exits)) refl ss x i

  by_value : (v : Option Typ) → MaybeSpells P v → ValueLow v → (ss : List Statement) (o : OptionalExpression) → RunTokens ts ss o h
      → Ends ss o (end_by P pl r v ss o) (ended P pl r v (moved_row ss) (moved_tail P pl r ls (statements_of ss) o) (next_outs pl r))
  by_value None f k ss plain.absent i = without_end ss plain.absent i (is_followed pl (next_outs pl r)) refl
  by_value None f k ss (plain.present x) i = without_end ss (plain.present x) i (is_followed pl (next_outs pl r)) refl
  by_value (Some t) f k ss plain.absent i = without_end ss plain.absent i (is_followed pl (next_outs pl r)) refl
  by_value (Some t) f k ss (plain.present x) i = value_end t f k ss x i (has_enum pl.exits) refl

  pub body_ends : (ss : List Statement) (o : OptionalExpression) → RunTokens ts ss o h → Ends ss o (end_by P pl r pl.value ss o) (ended P pl r pl.value (moved_row ss) (moved_tail P pl r ls (statements_of ss) o) (next_outs pl r))
  body_ends ss o i = by_value pl.value F.value V ss o i
