use Rattle.std.proofs.Common.{◌≡◌, ◌∷◌, [], List, Option, Bor, ap, ◌∙◌}
use Rattle.std.specs.Prelude.{option_map}
use Rattle.std.specs.Option.{option_copied}
use Rattle.rx_tree.specs.declared.tree.Expr.{Expr}
use Rattle.rx_tree.specs.declared.tree.Ident.{Ident}
use Rattle.rx_tree.specs.Nodes.{below, within_statements}
use Rattle.rx_tree.specs.Positions.{an_expression}
use Rattle.rx_tree.specs.PlainOf.{plain-Expr, optional_of}
use Rattle.rx_hoist_extraction.specs.Run.{as_statements}
use Rattle.rx_hoist_extraction.specs.NewFunction.{copied_lifetimes, lifetimes_at_all}
use Rattle.rx_hoist_made.specs.Noting.{with_all}
use Rattle.rx_hoist_made.specs.PlainParts.{plain-RunParts}
use Rattle.rx_hoist_made.proofs.Dropped.{ok_map}
use Rattle.rx_hoist_made.proofs.Noted.{copied_with, copied_without}
use Rattle.rx_hoist_made.proofs.lifetimes.copied_lifetimes.Goals as goal

pub returns-in-Some : goal.returns-in-Some
returns-in-Some c =
    let p = plain-RunParts c.args.run in
    let e = plain-Expr c.in-Some.tail.now in
    let found = c.in_ok-found.ensures ∙ ap (λ (l : List Ident). with_all l (lifetimes_at_all (within_statements (as_statements p.statements)))) c.new.ensures in
    let tail = ap (λ (o : Option (Bor Expr)). optional_of (option_map plain-Expr (option_copied o))) c.in-Some.is in
    ok_map (λ (it : List Ident). it ≡ with_all c.in_ok-found.found (lifetimes_at_all (an_expression e ∷ below (an_expression e)))) (λ (it : List Ident). it ≡ copied_lifetimes p)
    c.with_nodes.result (λ it h. h ∙ copied_with p e c.in_ok-found.found found tail) c.with_nodes.ensures

pub returns-in-None : goal.returns-in-None
returns-in-None c =
    let p = plain-RunParts c.args.run in
    let found = c.in_ok-found.ensures ∙ ap (λ (l : List Ident). with_all l (lifetimes_at_all (within_statements (as_statements p.statements)))) c.new.ensures in
    let tail = ap (λ (o : Option (Bor Expr)). optional_of (option_map plain-Expr (option_copied o))) c.in-None.is in
    copied_without p c.in_ok-found.found found tail
