-- What is made of lists while their parts are gone over, and at the end.
use Rattle.std.proofs.Common.{◌≡◌, ℕ, ◌+◌, ◌<◌, ◌≤◌, List, [], ◌∷◌, ◌++◌, length, map, take, get_or, Result, Ok, IfOk, OnOk, refl, ap, sym, ◌∙◌, subst, take_all}
use Rattle.std.proofs.lemmas.List.{map-append}
use Rattle.std.proofs.lemmas.Grind.{take_at_read}
use Rattle.rx_tree.specs.declared.tree.Expr.{Expr}
use Rattle.rx_tree.specs.declared.tree.FieldExpr.{FieldExpr}
use Rattle.rx_tree.specs.declared.tree.Arm.{Arm}
use Rattle.rx_tree.specs.declared.tree.Stmt.{Stmt}
use Rattle.rx_tree.specs.declared.tree.Ident.{Ident}
use Rattle.rx_tree.specs.Plain as plain
use Rattle.rx_tree.specs.Plain.{PatternTree, Expression, Statement}
use Rattle.rx_tree.specs.PlainOf.{plain-Expr, plain-Pattern, plain-FieldExpr, plain-Arm, plain-Stmt, expressions_of, field_expressions_of, arms_of, statements_of}
use Rattle.rx_tree.proofs.Rules.{field_expression_by_parts, arm_by_parts}
use Rattle.rx_resolve_names.specs.Meant.{Around}
use Rattle.rx_hoist_extraction.specs.Names.{Names, bound, bound_by, behind_all}
use Rattle.rx_hoist_extraction.specs.Changed.{Changes, changed, changed_all, changed_fields, changed_arms, changed_statement, changed_statements}

-- ---- lists whose parts become something else, as lists

pub all_changed : (C : Changes) (own : Names) (ls : List Around) (l : List Expression) → changed_all C own ls (expressions_of l) ≡ expressions_of (map (changed C own ls) l)
all_changed C own ls [] = refl
all_changed C own ls (e ∷ l) = ap (λ es. plain.expression_and (changed C own ls e) es) (all_changed C own ls l)

abbrev pub field_changed : Changes → Names → List Around → Ident × Expression → Ident × Expression
field_changed C own ls f = (f.0, changed C own ls f.1)

pub fields_changed : (C : Changes) (own : Names) (ls : List Around) (l : List (Ident × Expression)) → changed_fields C own ls (field_expressions_of l) ≡ field_expressions_of (map (field_changed C own ls) l)
fields_changed C own ls [] = refl
fields_changed C own ls (f ∷ l) = ap (λ fs. plain.field_and f.0 (changed C own ls f.1) fs) (fields_changed C own ls l)

abbrev pub arm_changed : Changes → Names → List Around → PatternTree × Expression → PatternTree × Expression
arm_changed C own ls a = (a.0, changed C (bound a.0 ++ own) ls a.1)

pub arms_changed : (C : Changes) (own : Names) (ls : List Around) (l : List (PatternTree × Expression)) → changed_arms C own ls (arms_of l) ≡ arms_of (map (arm_changed C own ls) l)
arms_changed C own ls [] = refl
arms_changed C own ls (a ∷ l) = ap (λ r. plain.arm_and a.0 (changed C (bound a.0 ++ own) ls a.1) r) (arms_changed C own ls l)

-- ---- statements, whose names are bound behind them

abbrev pub each_changed : Changes → Names → List Around → List Statement → List Statement
each_changed C own ls [] = []
each_changed C own ls (a ∷ ss) = changed_statement C own ls a ∷ each_changed C (bound_by a ++ own) ls ss

pub statements_changed : (C : Changes) (own : Names) (ls : List Around) (l : List Statement) → changed_statements C own ls (statements_of l) ≡ statements_of (each_changed C own ls l)
statements_changed C own ls [] = refl
statements_changed C own ls (a ∷ l) = ap (λ ss. plain.statement_and (changed_statement C own ls a) ss) (statements_changed C (bound_by a ++ own) ls l)

pub behind_push : (own : Names) (l : List Statement) (a : Statement) → behind_all own (statements_of (l ++ a ∷ [])) ≡ bound_by a ++ behind_all own (statements_of l)
behind_push own [] a = refl
behind_push own (b ∷ l) a = behind_push (bound_by b ++ own) l a

pub each_push : (C : Changes) (own : Names) (ls : List Around) (l : List Statement) (a : Statement)
    → each_changed C own ls (l ++ a ∷ []) ≡ each_changed C own ls l ++ changed_statement C (behind_all own (statements_of l)) ls a ∷ []
each_push C own ls [] a = refl
each_push C own ls (b ∷ l) a = ap (λ ss. changed_statement C own ls b ∷ ss) (each_push C (bound_by b ++ own) ls l a)

-- ---- one more part behind those that are made

-- what a step gave, where it succeeded
pub given : {A E : Type 0} (P : A → Type 0) (r : Result A E) (x : A) → r ≡ Ok x → IfOk r P → P x
given P r x is h = subst (λ o. IfOk o P) is h

pub given_on : {A E : Type 0} (Q : Type 0) (r : Result A E) (x : A) → r ≡ Ok x → OnOk r Q → Q
given_on Q r x is h = subst (λ o. OnOk o Q) is h

pub made_next : {A B M E : Type 0} (plain : M → B) (plain_part : A → B) (F : B → B) (all held whole : List M) (next : M) (parts : List A) (i : ℕ) (x : A) (r : Result M E)
    → map plain all ≡ map F (map plain_part (take i parts)) → i < length parts → x ≡ get_or parts i x → IfOk r (λ it. plain it ≡ F (plain_part x)) → r ≡ Ok next
    → held ≡ all → whole ≡ held ++ next ∷ [] → map plain whole ≡ map F (map plain_part (take (i + 1) parts))
made_next plain plain_part F all held whole next parts i x r made within is one came same put =
    ap (map plain) (put ∙ ap (λ l. l ++ next ∷ []) same)
    ∙ map-append plain all (next ∷ [])
    ∙ ap (λ l. l ++ plain next ∷ []) made
    ∙ ap (λ y. map F (map plain_part (take i parts)) ++ y ∷ []) (given (λ it. plain it ≡ F (plain_part x)) r next came one ∙ ap (λ y. F (plain_part y)) is)
    ∙ sym (map-append F (map plain_part (take i parts)) (plain_part (get_or parts i x) ∷ []))
    ∙ ap (map F) (sym (map-append plain_part (take i parts) (get_or parts i x ∷ [])))
    ∙ ap (λ l. map F (map plain_part l)) (sym (take_at_read parts i x within).1)

-- ---- all of them

pub all_made : (C : Changes) (own : Names) (ls : List Around) (all parts : List Expr) (n : ℕ) → map plain-Expr all ≡ map (changed C own ls) (map plain-Expr (take n parts)) → length parts ≤ n
    → expressions_of (map plain-Expr all) ≡ changed_all C own ls (expressions_of (map plain-Expr parts))
all_made C own ls all parts n made past =
    ap expressions_of (made ∙ ap (λ l. map (changed C own ls) (map plain-Expr l)) (take_all n parts past)) ∙ sym (all_changed C own ls (map plain-Expr parts))

pub fields_made : (C : Changes) (own : Names) (ls : List Around) (all parts : List FieldExpr) (n : ℕ)
    → map plain-FieldExpr all ≡ map (field_changed C own ls) (map plain-FieldExpr (take n parts)) → length parts ≤ n
    → field_expressions_of (map plain-FieldExpr all) ≡ changed_fields C own ls (field_expressions_of (map plain-FieldExpr parts))
fields_made C own ls all parts n made past =
    ap field_expressions_of (made ∙ ap (λ l. map (field_changed C own ls) (map plain-FieldExpr l)) (take_all n parts past))
    ∙ sym (fields_changed C own ls (map plain-FieldExpr parts))

pub arms_made : (C : Changes) (own : Names) (ls : List Around) (all parts : List Arm) (n : ℕ)
    → map plain-Arm all ≡ map (arm_changed C own ls) (map plain-Arm (take n parts)) → length parts ≤ n
    → arms_of (map plain-Arm all) ≡ changed_arms C own ls (arms_of (map plain-Arm parts))
arms_made C own ls all parts n made past =
    ap arms_of (made ∙ ap (λ l. map (arm_changed C own ls) (map plain-Arm l)) (take_all n parts past))
    ∙ sym (arms_changed C own ls (map plain-Arm parts))

pub statements_made : (C : Changes) (own : Names) (ls : List Around) (all parts : List Stmt) (n : ℕ)
    → map plain-Stmt all ≡ each_changed C own ls (map plain-Stmt (take n parts)) → length parts ≤ n
    → statements_of (map plain-Stmt all) ≡ changed_statements C own ls (statements_of (map plain-Stmt parts))
statements_made C own ls all parts n made past =
    ap statements_of (made ∙ ap (λ l. each_changed C own ls (map plain-Stmt l)) (take_all n parts past))
    ∙ sym (statements_changed C own ls (map plain-Stmt parts))

pub names_behind : (own names : Names) (parts : List Stmt) (n : ℕ) → names ≡ behind_all own (statements_of (map plain-Stmt (take n parts))) → length parts ≤ n
    → names ≡ behind_all own (statements_of (map plain-Stmt parts))
names_behind own names parts n is past = is ∙ ap (λ l. behind_all own (statements_of (map plain-Stmt l))) (take_all n parts past)

-- ---- fields and arms by their parts

pub field_made : {E : Type 0} (C : Changes) (own : Names) (ls : List Around) (f : FieldExpr) (r : Result FieldExpr E)
    → IfOk r (λ it. plain-FieldExpr it ≡ (f.field, changed C own ls (plain-Expr f.value))) → IfOk r (λ it. plain-FieldExpr it ≡ field_changed C own ls (plain-FieldExpr f))
field_made C own ls f r made = subst (λ y. IfOk r (λ it. plain-FieldExpr it ≡ field_changed C own ls y)) (sym (field_expression_by_parts f)) made

pub arm_made : {E : Type 0} (C : Changes) (own : Names) (ls : List Around) (a : Arm) (r : Result Arm E)
    → IfOk r (λ it. plain-Arm it ≡ (plain-Pattern a.pattern, changed C (bound (plain-Pattern a.pattern) ++ own) ls (plain-Expr a.body)))
    → IfOk r (λ it. plain-Arm it ≡ arm_changed C own ls (plain-Arm a))
arm_made C own ls a r made = subst (λ y. IfOk r (λ it. plain-Arm it ≡ arm_changed C own ls y)) (sym (arm_by_parts a)) made

-- ---- one more statement, whose names are bound behind it

stmts_to : (parts : List Stmt) (i : ℕ) (x : Stmt) → i < length parts → x ≡ get_or parts i x → map plain-Stmt (take (i + 1) parts) ≡ map plain-Stmt (take i parts) ++ plain-Stmt x ∷ []
stmts_to parts i x within is =
    ap (map plain-Stmt) ((take_at_read parts i x within).1 ∙ ap (λ y. take i parts ++ y ∷ []) (sym is))
    ∙ map-append plain-Stmt (take i parts) (x ∷ [])

pub names_next : {E : Type 0} (own names new : Names) (parts : List Stmt) (i : ℕ) (x next : Stmt) (r : Result Stmt E)
    → names ≡ behind_all own (statements_of (map plain-Stmt (take i parts))) → i < length parts → x ≡ get_or parts i x
    → OnOk r (new ≡ bound_by (plain-Stmt x) ++ names) → r ≡ Ok next → new ≡ behind_all own (statements_of (map plain-Stmt (take (i + 1) parts)))
names_next own names new parts i x next r so_far within is more came =
    given_on (new ≡ bound_by (plain-Stmt x) ++ names) r next came more
    ∙ ap (λ n. bound_by (plain-Stmt x) ++ n) so_far
    ∙ sym (behind_push own (map plain-Stmt (take i parts)) (plain-Stmt x))
    ∙ ap (λ l. behind_all own (statements_of l)) (sym (stmts_to parts i x within is))

pub statement_next : {E : Type 0} (C : Changes) (own names : Names) (ls : List Around) (all held whole : List Stmt) (next : Stmt) (parts : List Stmt) (i : ℕ) (x : Stmt) (r : Result Stmt E)
    → names ≡ behind_all own (statements_of (map plain-Stmt (take i parts))) → map plain-Stmt all ≡ each_changed C own ls (map plain-Stmt (take i parts))
    → i < length parts → x ≡ get_or parts i x → IfOk r (λ it. plain-Stmt it ≡ changed_statement C names ls (plain-Stmt x)) → r ≡ Ok next
    → held ≡ all → whole ≡ held ++ next ∷ [] → map plain-Stmt whole ≡ each_changed C own ls (map plain-Stmt (take (i + 1) parts))
statement_next C own names ls all held whole next parts i x r so_far made within is one came same put =
    ap (map plain-Stmt) (put ∙ ap (λ l. l ++ next ∷ []) same)
    ∙ map-append plain-Stmt all (next ∷ [])
    ∙ ap (λ l. l ++ plain-Stmt next ∷ []) made
    ∙ ap (λ y. each_changed C own ls (map plain-Stmt (take i parts)) ++ y ∷ [])
    (given (λ it. plain-Stmt it ≡ changed_statement C names ls (plain-Stmt x)) r next came one ∙ ap (λ n. changed_statement C n ls (plain-Stmt x)) so_far)
    ∙ sym (each_push C own ls (map plain-Stmt (take i parts)) (plain-Stmt x))
    ∙ ap (each_changed C own ls) (sym (stmts_to parts i x within is))
