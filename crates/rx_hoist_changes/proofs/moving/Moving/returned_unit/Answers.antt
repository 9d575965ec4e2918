use Rattle.std.proofs.Common.{◌≡◌, [], map, IfOk, ap, ◌∙◌, subst}
use Rattle.rx_tree.specs.Plain as plain
use Rattle.rx_tree.specs.PlainOf.{plain-Expr, plain-Stmt, plain-TypeText}
use Rattle.rx_hoist_plan.specs.PlainPlan.{plain-Plan}
use Rattle.rx_hoist_extraction.specs.Fresh.{fresh_variable}
use Rattle.rx_hoist_extraction.specs.Made.{let_typed}
use Rattle.rx_hoist_extraction.specs.Moved.{returned}
use Rattle.rx_hoist_changes.proofs.ListLemmas.{given}
use Rattle.rx_hoist_changes.proofs.moving.Moving.returned_unit.Goals as goal

pub returns : goal.returns
returns c =
    let r = c.args.self.now.run in
    let pl = plain-Plan c.args.self.now.plan.now in
    let out = fresh_variable pl.identifiers 0 in
    let statement : plain-Stmt c.in_ok-tail.stmt ≡ let_typed r out (plain.tuple_type r plain.no_type) (plain-Expr c.args.value) =
    ap plain-Stmt c.in_ok-tail.ensures.1 ∙ c.in_ok-stmt.ensures
    ∙ ap (λ x. let_typed r x (plain-TypeText c.unit_type.result) (plain-Expr c.in_ok-out.value)) (given (λ x. x ≡ out) _ _ c.in_ok-out.ensures.0 c.fresh_variable.ensures)
    ∙ ap (λ t. let_typed r out t (plain-Expr c.in_ok-out.value)) c.unit_type.ensures
    ∙ ap (λ v. let_typed r out (plain.tuple_type r plain.no_type) (plain-Expr v)) c.in_ok-out.ensures.1 in
    let tail : plain-Expr c.in_ok-tail.tail ≡ returned pl r [] =
    given (λ it. plain-Expr it ≡ returned pl r (map plain-Expr c.new.result)) _ _ c.in_ok-tail.ensures.0 c.returned.ensures
    ∙ ap (λ l. returned pl r (map plain-Expr l)) c.new.ensures in
    subst (λ a. IfOk c.nested.result (λ it. plain-Expr it ≡ plain.block r (plain.body r (plain.statement_and a plain.no_statement) (plain.present (returned pl r []))))) statement
    (subst (λ e. IfOk c.nested.result (λ it. plain-Expr it ≡ plain.block r (plain.body r (plain.statement_and (plain-Stmt c.in_ok-tail.stmt) plain.no_statement) (plain.present e)))) tail
    (c.nested.ensures _ c.with_tail.ensures))
