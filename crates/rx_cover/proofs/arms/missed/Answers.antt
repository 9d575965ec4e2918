use Rattle.std.proofs.Common.{[], ◌∷◌, ◌∙◌, ap, subst, map, Some, None}
use Rattle.rx_typed.specs.PlainTypes.{plain-Ty, declarations}
use Rattle.rx_cover.specs.PlainCells.{plain-Row, plain-Column}
use Rattle.rx_cover.specs.PlainChoices.{plain-Arms}
use Rattle.rx_cover.specs.Finding.{Settles}
use Rattle.rx_cover.proofs.ArmLemmas.{missed_none, missed_some}
use Rattle.rx_cover.proofs.arms.missed.Goals as goal

pub returns-in-Some : goal.returns-in-Some
returns-in-Some c =
    let D = declarations c.args.decls.now.items in
    let t = plain-Ty c.args.ty.now in
    let ps = plain-Arms c.args.arms in
    missed_some D t ps c.in-Some.stack c.last_of.result
    (subst (λ l. Settles D (t ∷ []) l (Some c.in-Some.stack)) (ap (map plain-Row) c.as_slice-2.ensures ∙ c.in_ok-rows.ensures)
    (subst (λ l. Settles D l (map plain-Row c.as_slice-2.result.now) (Some c.in-Some.stack)) (ap (map plain-Column) c.as_slice.ensures ∙ c.in_ok-columns.ensures)
    (subst (λ o. Settles D (map plain-Column c.as_slice.result.now) (map plain-Row c.as_slice-2.result.now) o) c.in-Some.is c.in_ok-stack.ensures)))
    c.last_of.ensures

pub returns : goal.returns
returns c =
    let D = declarations c.args.decls.now.items in
    let t = plain-Ty c.args.ty.now in
    let ps = plain-Arms c.args.arms in
    missed_none D t ps
    (subst (λ l. Settles D (t ∷ []) l None) (ap (map plain-Row) c.as_slice-2.ensures ∙ c.in_ok-rows.ensures)
    (subst (λ l. Settles D l (map plain-Row c.as_slice-2.result.now) None) (ap (map plain-Column) c.as_slice.ensures ∙ c.in_ok-columns.ensures)
    (subst (λ o. Settles D (map plain-Column c.as_slice.result.now) (map plain-Row c.as_slice-2.result.now) o) c.in-None.is c.in_ok-stack.ensures)))
