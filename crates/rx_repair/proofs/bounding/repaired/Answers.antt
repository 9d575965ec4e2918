use Rattle.std.proofs.Common.{◌≡◌, ◌∙◌, map, sym, ap, subst, arith, get_or, Ok, IfOk}
use Rattle.std.specs.Prelude.{insert, remove}
use Rattle.rx_tree.specs.declared.tree.Item.{Item}
use Rattle.rx_tree.specs.PlainOf.{plain-Item}
use Rattle.rx_repair.specs.Repaired.{repaired_item}
use Rattle.rx_repair.proofs.Steps.{put, kept}
use Rattle.rx_repair.proofs.bounding.repaired.Goals as goal

pub returns-then-item-len : goal.returns-then-item-len
returns-then-item-len c = kept c.args.program.items c.args.item c.args.bounds.now (omega (arith, c.len.ensures, c.if-item-len.true))

pub returns : goal.returns
returns c =
    let is = c.args.program.items in
    let new = c.in_ok-new.new in
    let left : c.in_ok-new.rest ≡ remove is c.args.item =
    c.in_ok-new.ensures.1 ∙ (c.from_vec.ensures ∙ (c.remove-old.ensures.items ∙ ap (λ l. remove l c.args.item) c.into_vec-rest.ensures)) in
    let made : plain-Item new ≡ repaired_item c.args.bounds.now (plain-Item c.remove-old.result) =
    subst (λ r. IfOk r (λ (it : Item). plain-Item it ≡ repaired_item c.args.bounds.now (plain-Item c.remove-old.result))) c.in_ok-new.ensures.0 c.repaired_item.ensures in
    ap (λ l. map plain-Item l) (c.in_ok-items.ensures ∙ ap (λ l. insert l c.args.item new) left)
    ∙ put is c.args.item c.remove-old.result new c.args.bounds.now (omega (arith, c.len.ensures, c.if-item-len.false))
    (c.remove-old.ensures.value ∙ ap (λ l. get_or l c.args.item c.remove-old.result) c.into_vec-rest.ensures) made
