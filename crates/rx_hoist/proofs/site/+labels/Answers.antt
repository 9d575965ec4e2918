use Rattle.rx_tree_operations.specs.NodeOf.{plain-Node}
use Rattle.rx_hoist_made.specs.PlainParts.{plain-Labels}
use Rattle.rx_hoist.proofs.SiteLemmas.{first_and_rest, labels_found}
use Rattle.rx_hoist.proofs.site.+labels.Goals as goal

pub returns-in_ok-labels_on-in-Some : goal.returns-in_ok-labels_on-in-Some
returns-in_ok-labels_on-in-Some t c =
    labels_found c.with_label.result (plain-Node c.args.node) c.args.way.now _ _ _ (plain-Labels c.in_ok-labels_on-in-Some.field-0.items)
    (first_and_rest c.args.way.now c.in-len1-up.len_at_least) c.in-Some.ensures c.in_ok-labels_on-in-Some.ensures c.with_label.ensures
