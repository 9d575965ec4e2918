-- Where kinds and types are written out, names and jumps stay: by induction over all forms. So a run and what is behind it name and declare
-- the same, since a way to its block on which no type is written out leads to what becomes of the block, with the same loops round it.
use Rattle.std.proofs.Common.{◌≡◌, ℕ, zero, suc, ◌+◌, ◌-◌, Bool, true, false, List, [], ◌∷◌, ◌++◌, length, take, drop, Option, Some, None, nat_le, slice_get, refl, sym, ap, ◌∙◌, subst}
use Rattle.rx_core.specs.declared.types.Span.{Span}
use Rattle.rx_tree.specs.declared.tree.Ident.{Ident}
use Rattle.rx_tree.specs.Lists.{listed, statements, tail}
use Rattle.rx_tree.specs.Plain as plain
use Rattle.rx_tree.specs.Plain.{TypeTree, PatternTree, Expression, Expressions, OptionalExpression, OptionalExpressions, FieldExpressions, Arms, Body, Statement, Statements, Function, ProgramTree}
use Rattle.rx_tree.specs.Positions.{a_block, a_pattern, a_statement, a_type, an_expression, an_item, children, descend, NodeTree}
use Rattle.rx_resolve_names.specs.Meant.{Around, a_loop, a_test}
use Rattle.rx_exits_plan.specs.Asked.{Asked}
use Rattle.rx_hoist_extraction.specs.Names.{behind_all, bound, bound_by, declared_by, Names}
use Rattle.rx_hoist_extraction.specs.Plan.{Pins}
use Rattle.rx_hoist_extraction.specs.Changed.{Changes, changed, changed_all, changed_arguments, changed_arms, changed_body, changed_fields, changed_optional, changed_statement, changed_statements}
use Rattle.rx_hoist_extraction.specs.Pinned.{pinned_function, pinning}
use Rattle.rx_hoist_extraction.specs.Run.{as_block, as_statements, behind, chosen, chosen_parts, goes_past, label_of, labels_on, labels_round, numbered, Run, run_block, tail_if}
use Rattle.rx_select.proofs.Ways.{no_block}
use Rattle.rx_engine_names.specs.KeptWays.{KeepsMaybe, KeepsWay}
use Rattle.rx_engine_names.specs.Within.{AllWithin, ArgumentsWithin, ArmsWithin, BodyWithin, Claims, FieldsWithin, OptionalWithin, StatementsWithin, StatementWithin, Within}
use Rattle.rx_engine_names.proofs.KeptWays.{Becomes, child_becomes, node_become}
use Rattle.rx_engine_called.specs.Outside.{Outer, outside, outside_all, outside_arguments, outside_arms, outside_body, outside_fields, outside_of, outside_optional, outside_statement, outside_statements}
use Rattle.rx_engine_called.specs.Tied.{tied_behind}
use Rattle.rx_engine_called.specs.WrittenOut.{SaysTheSame}

two : {xs xs' ys ys' : List Outer} → xs ≡ xs' → ys ≡ ys' → xs ++ ys ≡ xs' ++ ys'
two d e = λ j. d j ++ e j

module _ (P : ProgramTree) (place : Span) (pins : Pins) where
  abbrev C : Changes
  C = pinning P place pins

  bound_same : (mine : Names) (round : List Around) (a : Statement) → bound_by (changed_statement C mine round a) ≡ bound_by a
  bound_same mine round (plain.let_statement s p y o) = refl
  bound_same mine round (plain.expression_statement s e b) = refl

  behind_same : (own mine : Names) (round : List Around) (ss : Statements) → behind_all own (changed_statements C mine round ss) ≡ behind_all own ss
  behind_same own mine round plain.no_statement = refl
  behind_same own mine round (plain.statement_and a ss) =
      ap (λ (l : Names). behind_all (l ++ own) (changed_statements C (bound_by a ++ mine) round ss)) (bound_same mine round a) ∙ behind_same (bound_by a ++ own) (bound_by a ++ mine) round ss

  -- ---- what leads out

  mutual
    same : (own mine : Names) (ls round : List Around) (e : Expression) → outside own ls (changed C mine round e) ≡ outside own ls e
    same own mine ls round (plain.int s v k) = refl
    same own mine ls round (plain.bool s b) = refl
    same own mine ls round (plain.tuple s es) = same_all own mine ls round es
    same own mine ls round (plain.var s x) = refl
    same own mine ls round (plain.field s e x) = same own mine ls round e
    same own mine ls round (plain.part s e i) = same own mine ls round e
    same own mine ls round (plain.deref s e) = same own mine ls round e
    same own mine ls round (plain.negate s e) = same own mine ls round e
    same own mine ls round (plain.invert s e) = same own mine ls round e
    same own mine ls round (plain.borrow s m e) = same own mine ls round e
    same own mine ls round (plain.binary s o a b) = two (same own mine ls round a) (same own mine ls round b)
    same own mine ls round (plain.assign s a b) = two (same own mine ls round a) (same own mine ls round b)
    same own mine ls round (plain.update s o a b) = two (same own mine ls round a) (same own mine ls round b)
    same own mine ls round (plain.call s f es) = same_all own mine ls round es
    same own mine ls round (plain.next_input s) = refl
    same own mine ls round (plain.variant s a v es) = same_arguments own mine ls round es
    same own mine ls round (plain.make s x fs) = same_fields own mine ls round fs
    same own mine ls round (plain.print s e) = same own mine ls round e
    same own mine ls round (plain.block s b) = same_body own mine ls round b
    same own mine ls round (plain.if s c b o) = two (same own mine ls round c) (two (same_body own mine ls round b) (same_optional own mine ls round o))
    same own mine ls round (plain.if_let s p e b o) = two (same own mine ls round e) (two (same_body (bound p ++ own) (bound p ++ mine) ls round b) (same_optional own mine ls round o))
    same own mine ls round (plain.match s e l) = two (same own mine ls round e) (same_arms own mine ls round l)
    same own mine ls round (plain.loop s l b) = same_body own mine (a_loop l 0 ∷ ls) (a_loop l 0 ∷ round) b
    same own mine ls round (plain.while s l c b) = two (same own mine (a_test ∷ a_loop l 0 ∷ ls) (a_test ∷ a_loop l 0 ∷ round) c) (same_body own mine (a_loop l 0 ∷ ls) (a_loop l 0 ∷ round) b)
    same own mine ls round (plain.while_let s l p e b) =
        two (same own mine (a_test ∷ a_loop l 0 ∷ ls) (a_test ∷ a_loop l 0 ∷ round) e) (same_body (bound p ++ own) (bound p ++ mine) (a_loop l 0 ∷ ls) (a_loop l 0 ∷ round) b)
    same own mine ls round (plain.break s l) = refl
    same own mine ls round (plain.continue s l) = refl
    same own mine ls round (plain.return s o) = same_optional own mine ls round o

    same_all : (own mine : Names) (ls round : List Around) (es : Expressions) → outside_all own ls (changed_all C mine round es) ≡ outside_all own ls es
    same_all own mine ls round plain.no_expression = refl
    same_all own mine ls round (plain.expression_and e es) = two (same own mine ls round e) (same_all own mine ls round es)

    same_optional : (own mine : Names) (ls round : List Around) (o : OptionalExpression) → outside_optional own ls (changed_optional C mine round o) ≡ outside_optional own ls o
    same_optional own mine ls round plain.absent = refl
    same_optional own mine ls round (plain.present e) = same own mine ls round e

    same_arguments : (own mine : Names) (ls round : List Around) (o : OptionalExpressions) → outside_arguments own ls (changed_arguments C mine round o) ≡ outside_arguments own ls o
    same_arguments own mine ls round plain.no_list = refl
    same_arguments own mine ls round (plain.a_list es) = same_all own mine ls round es

    same_fields : (own mine : Names) (ls round : List Around) (fs : FieldExpressions) → outside_fields own ls (changed_fields C mine round fs) ≡ outside_fields own ls fs
    same_fields own mine ls round plain.no_field = refl
    same_fields own mine ls round (plain.field_and x e fs) = two (same own mine ls round e) (same_fields own mine ls round fs)

    same_arms : (own mine : Names) (ls round : List Around) (l : Arms) → outside_arms own ls (changed_arms C mine round l) ≡ outside_arms own ls l
    same_arms own mine ls round plain.no_arm = refl
    same_arms own mine ls round (plain.arm_and p e l) = two (same (bound p ++ own) (bound p ++ mine) ls round e) (same_arms own mine ls round l)

    same_body : (own mine : Names) (ls round : List Around) (b : Body) → outside_body own ls (changed_body C mine round b) ≡ outside_body own ls b
    same_body own mine ls round (plain.body s ss o) =
        two (same_statements own mine ls round ss)
        (ap (λ (l : Names). outside_optional l ls (changed_optional C (behind_all mine ss) round o)) (behind_same own mine round ss) ∙ same_optional (behind_all own ss) (behind_all mine ss) ls round o)

    same_statement : (own mine : Names) (ls round : List Around) (a : Statement) → outside_statement own ls (changed_statement C mine round a) ≡ outside_statement own ls a
    same_statement own mine ls round (plain.let_statement s p y o) = same_optional own mine ls round o
    same_statement own mine ls round (plain.expression_statement s e b) = same own mine ls round e

    same_statements : (own mine : Names) (ls round : List Around) (ss : Statements) → outside_statements own ls (changed_statements C mine round ss) ≡ outside_statements own ls ss
    same_statements own mine ls round plain.no_statement = refl
    same_statements own mine ls round (plain.statement_and a ss) =
        two (same_statement own mine ls round a)
        (ap (λ (l : Names). outside_statements (l ++ own) ls (changed_statements C (bound_by a ++ mine) round ss)) (bound_same mine round a) ∙ same_statements (bound_by a ++ own) (bound_by a ++ mine) ls round ss)

  -- ---- what is claimed of names and jumps alone

  module _ (N : Claims) (typed : (y : Option TypeTree) → N.annotation y) (blocks : (own : Names) (ls : List Around) (b : Body) → N.block own ls b) where
    mutual
      stays : (own mine : Names) (ls round : List Around) (e : Expression) → Within N own ls e → Within N own ls (changed C mine round e)
      stays own mine ls round (plain.int s v k) h = tt
      stays own mine ls round (plain.bool s b) h = tt
      stays own mine ls round (plain.tuple s es) h = all_stay own mine ls round es h
      stays own mine ls round (plain.var s x) h = h
      stays own mine ls round (plain.field s e x) h = stays own mine ls round e h
      stays own mine ls round (plain.part s e i) h = stays own mine ls round e h
      stays own mine ls round (plain.deref s e) h = stays own mine ls round e h
      stays own mine ls round (plain.negate s e) h = stays own mine ls round e h
      stays own mine ls round (plain.invert s e) h = stays own mine ls round e h
      stays own mine ls round (plain.borrow s m e) h = stays own mine ls round e h
      stays own mine ls round (plain.binary s o a b) h = (stays own mine ls round a h.0, stays own mine ls round b h.1)
      stays own mine ls round (plain.assign s a b) h = (stays own mine ls round a h.0, stays own mine ls round b h.1)
      stays own mine ls round (plain.update s o a b) h = (stays own mine ls round a h.0, stays own mine ls round b h.1)
      stays own mine ls round (plain.call s f es) h = (h.0, all_stay own mine ls round es h.1)
      stays own mine ls round (plain.next_input s) h = tt
      stays own mine ls round (plain.variant s a v es) h = arguments_stay own mine ls round es h
      stays own mine ls round (plain.make s x fs) h = fields_stay own mine ls round fs h
      stays own mine ls round (plain.print s e) h = stays own mine ls round e h
      stays own mine ls round (plain.block s b) h = body_stays own mine ls round b h
      stays own mine ls round (plain.if s c b o) h = (stays own mine ls round c h.0, body_stays own mine ls round b h.1, optional_stays own mine ls round o h.2)
      stays own mine ls round (plain.if_let s p e b o) h = (stays own mine ls round e h.0, body_stays (bound p ++ own) (bound p ++ mine) ls round b h.1, optional_stays own mine ls round o h.2)
      stays own mine ls round (plain.match s e l) h = (stays own mine ls round e h.0, arms_stay own mine ls round l h.1)
      stays own mine ls round (plain.loop s l b) h = body_stays own mine (a_loop l 0 ∷ ls) (a_loop l 0 ∷ round) b h
      stays own mine ls round (plain.while s l c b) h =
          (stays own mine (a_test ∷ a_loop l 0 ∷ ls) (a_test ∷ a_loop l 0 ∷ round) c h.0, body_stays own mine (a_loop l 0 ∷ ls) (a_loop l 0 ∷ round) b h.1)
      stays own mine ls round (plain.while_let s l p e b) h =
          (stays own mine (a_test ∷ a_loop l 0 ∷ ls) (a_test ∷ a_loop l 0 ∷ round) e h.0, body_stays (bound p ++ own) (bound p ++ mine) (a_loop l 0 ∷ ls) (a_loop l 0 ∷ round) b h.1)
      stays own mine ls round (plain.break s l) h = h
      stays own mine ls round (plain.continue s l) h = h
      stays own mine ls round (plain.return s o) h = (h.0, optional_stays own mine ls round o h.1)

      all_stay : (own mine : Names) (ls round : List Around) (es : Expressions) → AllWithin N own ls es → AllWithin N own ls (changed_all C mine round es)
      all_stay own mine ls round plain.no_expression h = tt
      all_stay own mine ls round (plain.expression_and e es) h = (stays own mine ls round e h.0, all_stay own mine ls round es h.1)

      optional_stays : (own mine : Names) (ls round : List Around) (o : OptionalExpression) → OptionalWithin N own ls o → OptionalWithin N own ls (changed_optional C mine round o)
      optional_stays own mine ls round plain.absent h = tt
      optional_stays own mine ls round (plain.present e) h = stays own mine ls round e h

      arguments_stay : (own mine : Names) (ls round : List Around) (o : OptionalExpressions) → ArgumentsWithin N own ls o → ArgumentsWithin N own ls (changed_arguments C mine round o)
      arguments_stay own mine ls round plain.no_list h = tt
      arguments_stay own mine ls round (plain.a_list es) h = all_stay own mine ls round es h

      fields_stay : (own mine : Names) (ls round : List Around) (fs : FieldExpressions) → FieldsWithin N own ls fs → FieldsWithin N own ls (changed_fields C mine round fs)
      fields_stay own mine ls round plain.no_field h = tt
      fields_stay own mine ls round (plain.field_and x e fs) h = (stays own mine ls round e h.0, fields_stay own mine ls round fs h.1)

      arms_stay : (own mine : Names) (ls round : List Around) (l : Arms) → ArmsWithin N own ls l → ArmsWithin N own ls (changed_arms C mine round l)
      arms_stay own mine ls round plain.no_arm h = tt
      arms_stay own mine ls round (plain.arm_and p e l) h = (stays (bound p ++ own) (bound p ++ mine) ls round e h.0, arms_stay own mine ls round l h.1)

      body_stays : (own mine : Names) (ls round : List Around) (b : Body) → BodyWithin N own ls b → BodyWithin N own ls (changed_body C mine round b)
      body_stays own mine ls round (plain.body s ss o) h = (
        blocks own ls (changed_body C mine round (plain.body s ss o)),
        statements_stay own mine ls round ss h.1,
        subst (λ (l : Names). OptionalWithin N l ls (changed_optional C (behind_all mine ss) round o)) (sym (behind_same own mine round ss)) (optional_stays (behind_all own ss) (behind_all mine ss) ls round o h.2),
      )

      statement_stays : (own mine : Names) (ls round : List Around) (a : Statement) → StatementWithin N own ls a → StatementWithin N own ls (changed_statement C mine round a)
      statement_stays own mine ls round (plain.let_statement s p y o) h = (typed (C.at_let p y), optional_stays own mine ls round o h.1)
      statement_stays own mine ls round (plain.expression_statement s e b) h = stays own mine ls round e h

      statements_stay : (own mine : Names) (ls round : List Around) (ss : Statements) → StatementsWithin N own ls ss → StatementsWithin N own ls (changed_statements C mine round ss)
      statements_stay own mine ls round plain.no_statement h = tt
      statements_stay own mine ls round (plain.statement_and a ss) h = (
        statement_stays own mine ls round a h.0,
        subst (λ (l : Names). StatementsWithin N (l ++ own) ls (changed_statements C (bound_by a ++ mine) round ss)) (sym (bound_same mine round a)) (statements_stay (bound_by a ++ own) (bound_by a ++ mine) ls round ss h.1),
      )

  -- ---- rows of statements, one by one

  abbrev Made : Statement → Statement → Type 0
  Made x y = (mine : Names) × (round : List Around) × (y ≡ changed_statement C mine round x)

  abbrev AllMade : List Statement → List Statement → Type 0
  AllMade [] [] = Unit {0}
  AllMade [] (y ∷ ys) = ⊥
  AllMade (x ∷ xs) [] = ⊥
  AllMade (x ∷ xs) (y ∷ ys) = Made x y × AllMade xs ys

  all_made : (mine : Names) (round : List Around) (ss : Statements) → AllMade (listed ss) (listed (changed_statements C mine round ss))
  all_made mine round plain.no_statement = tt
  all_made mine round (plain.statement_and a ss) = ((mine, round, refl), all_made (bound_by a ++ mine) round ss)

  made_taken : (n : ℕ) (xs ys : List Statement) → AllMade xs ys → AllMade (take n xs) (take n ys)
  made_taken zero xs ys h = tt
  made_taken (suc n) [] [] h = tt
  made_taken (suc n) [] (y ∷ ys) h = absurd h
  made_taken (suc n) (x ∷ xs) [] h = absurd h
  made_taken (suc n) (x ∷ xs) (y ∷ ys) h = (h.0, made_taken n xs ys h.1)

  made_dropped : (n : ℕ) (xs ys : List Statement) → AllMade xs ys → AllMade (drop n xs) (drop n ys)
  made_dropped zero xs ys h = h
  made_dropped (suc n) [] [] h = tt
  made_dropped (suc n) [] (y ∷ ys) h = absurd h
  made_dropped (suc n) (x ∷ xs) [] h = absurd h
  made_dropped (suc n) (x ∷ xs) (y ∷ ys) h = made_dropped n xs ys h.1

  made_long : (xs ys : List Statement) → AllMade xs ys → length ys ≡ length xs
  made_long [] [] h = refl
  made_long [] (y ∷ ys) h = absurd h
  made_long (x ∷ xs) [] h = absurd h
  made_long (x ∷ xs) (y ∷ ys) h = ap suc (made_long xs ys h.1)

  made_bound : (x y : Statement) → Made x y → bound_by y ≡ bound_by x
  made_bound x y h = ap bound_by h.2 ∙ bound_same h.0 h.1 x

  row_same : (own : Names) (ls : List Around) (xs ys : List Statement) → AllMade xs ys → outside_statements own ls (as_statements ys) ≡ outside_statements own ls (as_statements xs)
  row_same own ls [] [] h = refl
  row_same own ls [] (y ∷ ys) h = absurd h
  row_same own ls (x ∷ xs) [] h = absurd h
  row_same own ls (x ∷ xs) (y ∷ ys) h =
      two (ap (outside_statement own ls) h.0.2 ∙ same_statement own h.0.0 ls h.0.1 x)
      (ap (λ (l : Names). outside_statements (l ++ own) ls (as_statements ys)) (made_bound x y h.0) ∙ row_same (bound_by x ++ own) ls xs ys h.1)

  row_behind : (own : Names) (xs ys : List Statement) → AllMade xs ys → behind_all own (as_statements ys) ≡ behind_all own (as_statements xs)
  row_behind own [] [] h = refl
  row_behind own [] (y ∷ ys) h = absurd h
  row_behind own (x ∷ xs) [] h = absurd h
  row_behind own (x ∷ xs) (y ∷ ys) h = ap (λ (l : Names). behind_all (l ++ own) (as_statements ys)) (made_bound x y h.0) ∙ row_behind (bound_by x ++ own) xs ys h.1

  row_declared : (xs ys : List Statement) → AllMade xs ys → declared_by ys ≡ declared_by xs
  row_declared [] [] h = refl
  row_declared [] (y ∷ ys) h = absurd h
  row_declared (x ∷ xs) [] h = absurd h
  row_declared (x ∷ xs) (y ∷ ys) h = let d = made_bound x y h.0 in let e = row_declared xs ys h.1 in λ j. d j ++ e j

  module _ (N : Claims) (typed : (y : Option TypeTree) → N.annotation y) (blocks : (own : Names) (ls : List Around) (b : Body) → N.block own ls b) where
    row_stays : (own : Names) (ls : List Around) (xs ys : List Statement) → AllMade xs ys → StatementsWithin N own ls (as_statements xs) → StatementsWithin N own ls (as_statements ys)
    row_stays own ls [] [] h k = tt
    row_stays own ls [] (y ∷ ys) h k = absurd h
    row_stays own ls (x ∷ xs) [] h k = absurd h
    row_stays own ls (x ∷ xs) (y ∷ ys) h k = (
      subst (StatementWithin N own ls) (sym h.0.2) (statement_stays N typed blocks own h.0.0 ls h.0.1 x k.0),
      subst (λ (l : Names). StatementsWithin N (l ++ own) ls (as_statements ys)) (sym (made_bound x y h.0)) (row_stays (bound_by x ++ own) ls xs ys h.1 k.1),
    )

  -- ---- a run in a block

  module _ (r : Run) (mine : Names) (round : List Around) (s : Span) (ss : Statements) (o : OptionalExpression) where
    abbrev old : Body
    old = plain.body s ss o

    abbrev new : Body
    new = changed_body C mine round (plain.body s ss o)

    made : AllMade (listed ss) (listed (changed_statements C mine round ss))
    made = all_made mine round ss

    run_made : AllMade (chosen r (listed ss)) (chosen r (listed (changed_statements C mine round ss)))
    run_made = made_taken (r.last + 1 - r.first) (drop r.first (listed ss)) (drop r.first (listed (changed_statements C mine round ss))) (made_dropped r.first (listed ss) (listed (changed_statements C mine round ss)) made)

    pub past_same : goes_past r (listed (changed_statements C mine round ss)) ≡ goes_past r (listed ss)
    past_same = ap (λ (n : ℕ). nat_le n r.last) (made_long (listed ss) (listed (changed_statements C mine round ss)) made)

    tail_same : (b : Bool) (own : Names) (ls : List Around) → outside_optional own ls (tail_if b (changed_optional C (behind_all mine ss) round o)) ≡ outside_optional own ls (tail_if b o)
    tail_same false own ls = refl
    tail_same true own ls = same_optional own (behind_all mine ss) ls round o

    pub parts_same : (labels : List (Option Ident)) → outside_of labels (chosen_parts r new) ≡ outside_of labels (chosen_parts r old)
    parts_same labels =
        let ls = numbered 1 labels in
        let d = row_behind [] (chosen r (listed ss)) (chosen r (listed (changed_statements C mine round ss))) run_made in
        let e = past_same in
        let turned : outside_optional (behind_all [] (as_statements (chosen r (listed (changed_statements C mine round ss))))) ls (tail_if (goes_past r (listed (changed_statements C mine round ss))) (changed_optional C (behind_all mine ss) round o))
        ≡ outside_optional (behind_all [] (as_statements (chosen r (listed ss)))) ls (tail_if (goes_past r (listed ss)) (changed_optional C (behind_all mine ss) round o)) =
        λ j. outside_optional (d j) ls (tail_if (e j) (changed_optional C (behind_all mine ss) round o)) in
        two (row_same [] ls (chosen r (listed ss)) (chosen r (listed (changed_statements C mine round ss))) run_made) (turned ∙ tail_same (goes_past r (listed ss)) (behind_all [] (as_statements (chosen r (listed ss)))) ls)

    pub run_declared : declared_by (chosen_parts r new).statements ≡ declared_by (chosen_parts r old).statements
    run_declared = row_declared (chosen r (listed ss)) (chosen r (listed (changed_statements C mine round ss))) run_made

    behind_made : AllMade (behind r (listed ss)) (behind r (listed (changed_statements C mine round ss)))
    behind_made = made_dropped (r.last + 1) (listed ss) (listed (changed_statements C mine round ss)) made

    pub behind_stays : (words ns : Names) (q : Asked)
        → StatementsWithin (tied_behind words ns q (declared_by (chosen_parts r old).statements)) [] [] (as_statements (behind r (listed ss))) × OptionalWithin (tied_behind words ns q (declared_by (chosen_parts r old).statements)) (behind_all [] (as_statements (behind r (listed ss)))) [] o
        → StatementsWithin (tied_behind words ns q (declared_by (chosen_parts r new).statements)) [] [] (as_statements (behind r (listed (changed_statements C mine round ss))))
        × OptionalWithin (tied_behind words ns q (declared_by (chosen_parts r new).statements)) (behind_all [] (as_statements (behind r (listed (changed_statements C mine round ss))))) [] (changed_optional C (behind_all mine ss) round o)
    behind_stays words ns q h =
        let N = tied_behind words ns q (declared_by (chosen_parts r old).statements) in
        let d = row_behind [] (behind r (listed ss)) (behind r (listed (changed_statements C mine round ss))) behind_made in
        subst (λ (own : Names). StatementsWithin (tied_behind words ns q own) [] [] (as_statements (behind r (listed (changed_statements C mine round ss))))
        × OptionalWithin (tied_behind words ns q own) (behind_all [] (as_statements (behind r (listed (changed_statements C mine round ss))))) [] (changed_optional C (behind_all mine ss) round o)) (sym run_declared) (
          row_stays N (λ y. tt) (λ own ls b. tt) [] [] (behind r (listed ss)) (behind r (listed (changed_statements C mine round ss))) behind_made h.0,
          subst (λ (l : Names). OptionalWithin N l [] (changed_optional C (behind_all mine ss) round o)) (sym d)
              (optional_stays N (λ y. tt) (λ own ls b. tt) (behind_all [] (as_statements (behind r (listed ss)))) (behind_all mine ss) [] round o h.1),
        )

  -- ---- the way to the block

  label_kept : (mine : Names) (round : List Around) (e : Expression) → label_of (an_expression (changed C mine round e)) ≡ label_of (an_expression e)
  label_kept mine round (plain.int s v k) = refl
  label_kept mine round (plain.bool s b) = refl
  label_kept mine round (plain.tuple s es) = refl
  label_kept mine round (plain.var s x) = refl
  label_kept mine round (plain.field s e x) = refl
  label_kept mine round (plain.part s e i) = refl
  label_kept mine round (plain.deref s e) = refl
  label_kept mine round (plain.negate s e) = refl
  label_kept mine round (plain.invert s e) = refl
  label_kept mine round (plain.borrow s m e) = refl
  label_kept mine round (plain.binary s o a b) = refl
  label_kept mine round (plain.assign s a b) = refl
  label_kept mine round (plain.update s o a b) = refl
  label_kept mine round (plain.call s f es) = refl
  label_kept mine round (plain.next_input s) = refl
  label_kept mine round (plain.variant s a v es) = refl
  label_kept mine round (plain.make s x fs) = refl
  label_kept mine round (plain.print s e) = refl
  label_kept mine round (plain.block s b) = refl
  label_kept mine round (plain.if s c b o) = refl
  label_kept mine round (plain.if_let s p e b o) = refl
  label_kept mine round (plain.match s e l) = refl
  label_kept mine round (plain.loop s l b) = refl
  label_kept mine round (plain.while s l c b) = refl
  label_kept mine round (plain.while_let s l p e b) = refl
  label_kept mine round (plain.break s l) = refl
  label_kept mine round (plain.continue s l) = refl
  label_kept mine round (plain.return s o) = refl

  node_label : (n m : NodeTree) → Becomes P place pins n m → ((t : TypeTree) → n ≡ a_type t → ⊥) → ((p : PatternTree) → n ≡ a_pattern p → ⊥) → label_of m ≡ label_of n
  node_label (an_item i) m h no_type no_pattern = absurd h
  node_label (a_type t) m h no_type no_pattern = absurd (no_type t refl)
  node_label (a_block b) m h no_type no_pattern = ap label_of h.2
  node_label (a_statement a) m h no_type no_pattern = ap label_of h.2
  node_label (an_expression e) m h no_type no_pattern = ap label_of h.2 ∙ label_kept h.0 h.1 e
  node_label (a_pattern p) m h no_type no_pattern = absurd (no_pattern p refl)

  pub record Led (b : Body) (n m : NodeTree) (ks : List ℕ) : Type 0 where
    pub mine : Names
    pub round : List Around
    pub leads : descend (Some m) ks ≡ Some (a_block (changed_body C mine round b))
    pub labels : (L : List (Option Ident)) → labels_on (Some m) ks L ≡ labels_on (Some n) ks L

  pub led : (ks : List ℕ) (n m : NodeTree) (b : Body) → Becomes P place pins n m → descend (Some n) ks ≡ Some (a_block b) → KeepsWay pins (Some n) ks → Led b n m ks
  led [] n m b h e w =
      let q : n ≡ a_block b = cc in
      let k = subst (λ (x : NodeTree). Becomes P place pins x m) q h in
      record { mine = k.0; round = k.1; leads = ap (λ (x : NodeTree). Some x) k.2; labels = λ L. refl }
  led (k ∷ ks) n m b h e w = by (slice_get (children n) k) refl e w.1 (λ c d g f v. led ks c d b g f v)
    where
      by : (o : Option NodeTree) → slice_get (children n) k ≡ o → descend o ks ≡ Some (a_block b) → KeepsWay pins o ks
          → ((c d : NodeTree) → Becomes P place pins c d → descend (Some c) ks ≡ Some (a_block b) → KeepsWay pins (Some c) ks → Led b c d ks) → Led b n m (k ∷ ks)
      by None q f v on = absurd (cc)
      by (Some c) q f v on =
          let no_type : (t : TypeTree) → n ≡ a_type t → ⊥ = λ t z. no_block (k ∷ ks) (a_type t) b tt (subst (λ (x : NodeTree). descend (Some x) (k ∷ ks) ≡ Some (a_block b)) z e) in
          let no_pattern : (p : PatternTree) → n ≡ a_pattern p → ⊥ = λ p z. no_block (k ∷ ks) (a_pattern p) b tt (subst (λ (x : NodeTree). descend (Some x) (k ∷ ks) ≡ Some (a_block b)) z e) in
          let all = node_become P place pins n m h w.0 no_type no_pattern in
          let x = child_becomes P place pins (children n) (children m) k c all q in
          let y = on c x.0 x.2 f v in
          let l = node_label n m h no_type no_pattern in
          record {
            mine = y.mine;
            round = y.round;
            leads = ap (λ (o : Option NodeTree). descend o ks) x.1 ∙ y.leads;
            labels = λ L.
                ap (λ (o : Option NodeTree). labels_on o ks (label_of m ++ L)) x.1 ∙ y.labels (label_of m ++ L) ∙ ap (λ (z : List (Option Ident)). labels_on (Some c) ks (z ++ L)) l
                ∙ ap (λ (o : Option NodeTree). labels_on o ks (label_of n ++ L)) (sym q);
          }

-- ---- a function

-- in a block and in what becomes of it
pub says_in : (P : ProgramTree) (place : Span) (pins : Pins) (r : Run) (f g : Function) (mine : Names) (round : List Around) (b : Body) → run_block r f ≡ b → run_block r g ≡ changed_body (pinning P place pins) mine round b → labels_round r g ≡ labels_round r f
    → SaysTheSame r f g
says_in P place pins r f g mine round (plain.body s ss o) d e l =
    record {
      outside = (λ j. outside_of (l j) (chosen_parts r (e j))) ∙ parts_same P place pins r mine round s ss o (labels_round r f) ∙ ap (λ (x : Body). outside_of (labels_round r f) (chosen_parts r x)) (sym d);
      declared = ap (λ (x : Body). declared_by (chosen_parts r x).statements) e ∙ run_declared P place pins r mine round s ss o ∙ ap (λ (x : Body). declared_by (chosen_parts r x).statements) (sym d);
      past = ap (λ (x : Body). goes_past r (statements x)) e ∙ past_same P place pins r mine round s ss o ∙ ap (λ (x : Body). goes_past r (statements x)) (sym d);
      behind = λ words ns q h.
          let There : Body → Type 0 = λ x. StatementsWithin (tied_behind words ns q (declared_by (chosen_parts r x).statements)) [] [] (as_statements (behind r (statements x)))
          × OptionalWithin (tied_behind words ns q (declared_by (chosen_parts r x).statements)) (behind_all [] (as_statements (behind r (statements x)))) [] (tail x) in
          subst There (sym e) (behind_stays P place pins r mine round s ss o words ns q (subst There d h));
    }

pub says_the_same : (P : ProgramTree) (place : Span) (pins : Option Pins) (f : Function) (r : Run) (b : Body) → descend (Some (a_block f.body)) r.way ≡ Some (a_block b) → KeepsMaybe pins (Some (a_block f.body)) r.way → SaysTheSame r f (pinned_function P place pins f)
says_the_same P place None f r b e w = record { outside = refl; declared = refl; past = refl; behind = λ words ns q h. h }
says_the_same P place (Some pins) f r b e w =
    let x = led P place pins r.way (a_block f.body) (a_block (changed_body (pinning P place pins) [] [] f.body)) b ([], [], refl) e w in
    says_in P place pins r f (pinned_function P place (Some pins) f) x.mine x.round b (ap as_block e) (ap as_block x.leads) (x.labels [])
