-- One item more is read, or what is left begins with none.
use Rattle.std.proofs.Common.{List, ℕ, length, sym, subst, ap, ◌∙◌}
use Rattle.std.specs.Prelude.{◌==◌}
use Rattle.std.proofs.lemmas.Bool.{false≢true}
use Rattle.rx_cert_lines.specs.declared.item.Item.{Item}
use Rattle.rx_cert_lines.proofs.ItemTexts.{ItemsSoFar, one_more_so_far, no_items_so_far}
use Rattle.rx_cert_lines.proofs.reader.items.Goals as goal

pub returns-in_default : goal.returns-in_default
returns-in_default c =
    no_items_so_far c.args.bytes.now c.loop-left.left.now c.loop-left.items.items c.loop-left.invariant c.in_default.ensures
    (λ e. false≢true (sym c.loop-left-test.true ∙ c.is_empty.ensures ∙ ap (λ (l : List ℕ). length l == 0) e))

pub loop-left-preserved : goal.loop-left-preserved
loop-left-preserved c =
    subst (λ (is : List Item). ItemsSoFar c.args.bytes.now c.in-Some.rest.now is) (sym c.in_ok-push.ensures.items)
    (one_more_so_far c.args.bytes.now c.loop-left.left.now c.in-Some.rest.now c.loop-left.items.items c.in-Some.item c.loop-left.invariant c.in-Some.ensures)
