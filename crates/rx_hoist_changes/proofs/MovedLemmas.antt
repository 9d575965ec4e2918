-- The parts of a run that is moved, by its statements and its tail.
use Rattle.std.proofs.Common.{◌≡◌, List, [], ◌∷◌, map, Option, option_map, Result, Ok, IfOk, refl, ap, sym, ◌∙◌}
use Rattle.rx_tree.specs.declared.tree.Expr.{Expr}
use Rattle.rx_tree.specs.declared.tree.Stmt.{Stmt}
use Rattle.rx_tree.specs.Plain as plain
use Rattle.rx_tree.specs.Plain.{OptionalExpression, Statement}
use Rattle.rx_tree.specs.PlainOf.{plain-Expr, plain-Stmt, optional_of, statements_of}
use Rattle.rx_tree.specs.Lists.{listed}
use Rattle.rx_tree.proofs.ListsLemmas.{listed-statements_of}
use Rattle.rx_resolve_names.specs.Meant.{Around}
use Rattle.rx_hoist_extraction.specs.Names.{Names, behind_all}
use Rattle.rx_hoist_extraction.specs.Run.{Parts, as_statements}
use Rattle.rx_hoist_extraction.specs.Changed.{Changes, changed_optional, changed_statements}
use Rattle.rx_hoist_extraction.specs.NewBody.{moved_parts}
use Rattle.rx_hoist_changes.specs.PartsOf.{parts_of}
use Rattle.rx_hoist_changes.proofs.ListLemmas.{given}

as_statements_is : (l : List Statement) → statements_of l ≡ as_statements l
as_statements_is [] = refl
as_statements_is (a ∷ l) = ap (λ ss. plain.statement_and a ss) (as_statements_is l)

abbrev parts : List Statement → OptionalExpression → Parts
parts ss o = record { statements = ss; tail = o }

pub moved_made : {F : Type 0} (C : Changes) (ls around : List Around) (old new : Names) (l stmts held : List Stmt) (o : OptionalExpression) (tail : Option Expr) (q : Result (Option Expr) F)
    → statements_of (map plain-Stmt stmts) ≡ changed_statements C old around (statements_of (map plain-Stmt l)) → new ≡ behind_all old (statements_of (map plain-Stmt l))
    → IfOk q (λ it. optional_of (option_map plain-Expr it) ≡ changed_optional C new around o)
    → q ≡ Ok tail → held ≡ stmts → old ≡ [] → around ≡ ls
    → parts_of (held, tail) ≡ moved_parts C ls (record { statements = map plain-Stmt l; tail = o })
moved_made C ls around old new l stmts held o tail q made behind ended came same began there =
    let SS = statements_of (map plain-Stmt l) in
    let is : SS ≡ as_statements (map plain-Stmt l) = as_statements_is (map plain-Stmt l) in
    let first : map plain-Stmt held ≡ listed (changed_statements C [] ls (as_statements (map plain-Stmt l))) =
    ap (map plain-Stmt) same
    ∙ sym (listed-statements_of (map plain-Stmt stmts))
    ∙ ap listed made
    ∙ ap (λ k. listed (changed_statements C old k SS)) there
    ∙ ap (λ n. listed (changed_statements C n ls SS)) began
    ∙ ap (λ ss. listed (changed_statements C [] ls ss)) is in
    let names : new ≡ behind_all [] (as_statements (map plain-Stmt l)) = behind ∙ ap (λ n. behind_all n SS) began ∙ ap (behind_all []) is in
    let second : optional_of (option_map plain-Expr tail) ≡ changed_optional C (behind_all [] (as_statements (map plain-Stmt l))) ls o =
    given (λ it. optional_of (option_map plain-Expr it) ≡ changed_optional C new around o) q tail came ended
    ∙ ap (λ k. changed_optional C new k o) there
    ∙ ap (λ n. changed_optional C n ls o) names in
    ap (λ ss. parts ss (optional_of (option_map plain-Expr tail))) first ∙ ap (parts (listed (changed_statements C [] ls (as_statements (map plain-Stmt l))))) second
