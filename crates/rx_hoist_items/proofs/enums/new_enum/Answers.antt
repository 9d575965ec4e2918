use Rattle.std.proofs.Common.{◌≡◌, ap, codes, ◌∙◌}
use Rattle.rx_tree.specs.declared.tree.Enum.{Enum}
use Rattle.rx_tree.specs.PlainOf.{plain-Enum, plain-Program}
use Rattle.rx_hoist_plan.specs.PlainPlan.{plain-Plan}
use Rattle.rx_hoist_extraction.specs.Names.{Names}
use Rattle.rx_hoist_extraction.specs.NewEnum.{new_enum}
use Rattle.rx_hoist_made.specs.Rows.{fresh_row}
use Rattle.rx_hoist_made.proofs.Dropped.{ok_map}
use Rattle.rx_hoist_items.specs.Signatures.{enum_of}
use Rattle.rx_hoist_items.proofs.SignatureLemmas.{enum_is}
use Rattle.rx_hoist_items.proofs.enums.new_enum.Goals as goal

pub returns : goal.returns
returns c =
    let P = plain-Program c.args.program.now in
    let pl = plain-Plan c.args.plan.now in
    let s = c.args.span in
    let many = c.args.positions in
    let names : c.as_slice-2.result.now ≡ fresh_row (codes "'r") pl.lifetimes 0 many =
    c.as_slice-2.ensures ∙ c.in_ok-names.ensures ∙ ap (λ (taken : Names). fresh_row (codes "'r") taken 0 many) c.as_slice.ensures in
    let same = enum_is P pl s many c.as_slice-2.result.now c.requires.counted names in
    ok_map (λ (it : Enum). plain-Enum it ≡ enum_of P pl s c.as_slice-2.result.now) (λ (it : Enum). plain-Enum it ≡ new_enum P pl s)
    c.enum_of.result (λ it h. h ∙ same) c.enum_of.ensures
