-- A run more.
use Rattle.std.proofs.Common.{List, sym, ◌∙◌, subst, refl, arith}
use Rattle.rx_cert_lines.specs.declared.item.Item.{Item}
use Rattle.rx_cert_tables.proofs.Runs.{RunsTo, run_more}
use Rattle.rx_cert_tables.proofs.collecting.site_items.Goals as goal

pub loop-at-preserved-then-holds : goal.loop-at-preserved-then-holds
loop-at-preserved-then-holds c =
    subst (λ (is : List Item). RunsTo c.args.row.now c.args.sites is c.run_end-end.result) (sym c.in_ok-push.ensures.items)
    (run_more c.args.row.now c.args.sites c.loop-at.items.items c.loop-at.at c.run_end-end.result _ (omega (arith, c.ranges.sites.fits)) refl
    (sym c.holds.ensures ∙ c.if-holds.true) c.loop-at.invariant c.run_end-end.ensures)
