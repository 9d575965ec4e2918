use Rattle.std.proofs.Common.{◌≡◌, ◌++◌, List, map, ap, ◌∙◌}
use Rattle.std.proofs.Common.{◌+◌, take, drop}
use Rattle.rx_tree.specs.declared.tree.Stmt.{Stmt}
use Rattle.rx_tree.specs.PlainOf.{plain-Block, plain-Stmt}
use Rattle.rx_tree.specs.Lists.{statements}
use Rattle.rx_hoist_extraction.specs.Run as runs
use Rattle.rx_hoist_made.proofs.Dropped.{held_ok, ok_map}
use Rattle.rx_hoist.specs.Runs.{run_of}
use Rattle.rx_hoist.proofs.PlaceLemmas.{statements_put}
use Rattle.rx_hoist.proofs.parts.statements_with.Goals as goal

pub returns : goal.returns
returns c =
    let r = run_of c.args.run.now in
    let b = c.args.block.now in
    let rest = held_ok (λ (it : List Stmt). it ≡ c.from_on.result.now) c.copied.result c.in_ok-rest.rest c.copied.ensures c.in_ok-rest.ensures.0 in
    let front = held_ok (λ (it : List Stmt). it ≡ c.in_front.result.now) c.copied-2.result c.in_ok-front.front c.copied-2.ensures c.in_ok-front.ensures.0 in
    ok_map (λ (it : List Stmt). it ≡ c.in_ok-front.front ++ c.in_ok-front.stmts)
    (λ (it : List Stmt). map plain-Stmt it ≡ runs.in_front r (statements (plain-Block b)) ++ (map plain-Stmt c.args.stmts ++ runs.behind r (statements (plain-Block b))))
    c.together-2.result
    (λ it e. statements_put r b it c.in_ok-front.front c.args.stmts c.in_ok-rest.rest
    (e ∙ ap (λ l. c.in_ok-front.front ++ l) (c.in_ok-front.ensures.1 ∙ c.in_ok-stmts.ensures ∙ ap (λ l. l ++ c.in_ok-rest.rest) c.in_ok-rest.ensures.1))
    (front ∙ c.in_front.ensures ∙ ap (take r.first) c.as_slice-all.ensures)
    (rest ∙ c.from_on.ensures ∙ ap (drop (r.last + 1)) c.as_slice-all.ensures))
    c.together-2.ensures
