use Rattle.std.proofs.Common.{List, ℕ, subst, sym}
use Rattle.rx_splice.proofs.Spliced.{SoFar, begins}
use Rattle.rx_splice.proofs.splicing.splice.Goals as goal

pub loop-edit-init : goal.loop-edit-init
loop-edit-init c =
    let text = c.args.text.now in
    let all = c.args.edits.now.list in
    subst (λ (out : List ℕ). SoFar text all out 0 0) (sym c.empty-out.ensures) (begins text all c.utf8.text c.requires)
