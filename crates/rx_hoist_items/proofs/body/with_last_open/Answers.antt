use Rattle.std.proofs.Common.{◌∷◌, [], List, map, ap, sym, ◌∙◌}
use Rattle.std.proofs.lemmas.List.{map-append}
use Rattle.rx_tree.specs.declared.tree.Stmt.{Stmt}
use Rattle.rx_tree.specs.PlainOf.{plain-Stmt}
use Rattle.rx_hoist_extraction.specs.NewBody.{last_of}
use Rattle.rx_hoist_made.proofs.Dropped.{ok_map}
use Rattle.rx_hoist_items.proofs.Ends.{last_of_more}
use Rattle.rx_hoist_items.proofs.body.with_last_open.Goals as goal

pub returns-in-Some : goal.returns-in-Some
returns-in-Some c =
    let same = ap (λ (l : List Stmt). last_of c.args.stays (map plain-Stmt l)) c.in-Some.ensures
    ∙ ap (last_of c.args.stays) (map-append plain-Stmt c.pop.new.self (c.in-Some.last ∷ []))
    ∙ last_of_more c.args.stays (map plain-Stmt c.pop.new.self) (plain-Stmt c.in-Some.last) in
    ok_map _ _ c.with_last.result (λ it h. h ∙ sym same) c.with_last.ensures
