-- The forms that the match passes over, and those that are seen by their parts.
use Rattle.std.proofs.Common.{◌∙◌}
use Rattle.rx_print_places.proofs.Passed.{first_else, field_begins, part_begins, assign_begins, update_begins}
use Rattle.rx_print_places.proofs.places.+first.Goals as goal

pub begins-returns-in_default : goal.begins-returns-in_default
begins-returns-in_default t c =
    first_else c.args.e.now
    c.in_default.not-Block c.in_default.not-If c.in_default.not-IfLet c.in_default.not-Match
    c.in_default.not-Loop c.in_default.not-While c.in_default.not-WhileLet c.in_default.not-Field
    c.in_default.not-Part c.in_default.not-Binary c.in_default.not-Assign c.in_default.not-Update

pub begins-returns-in-Field : goal.begins-returns-in-Field
begins-returns-in-Field t c =
    c.begins_at.ensures ∙ field_begins c.args.e.now c.get.result.now c.in-Field.base c.in-Field.field-1 c.in-Field.is c.get.ensures

pub begins-returns-in-Part : goal.begins-returns-in-Part
begins-returns-in-Part t c =
    c.begins_at-in-Part.ensures ∙ part_begins c.args.e.now c.get-in-Part.result.now c.in-Part.base c.in-Part.field-1 c.in-Part.is c.get-in-Part.ensures

pub begins-returns-in-Assign : goal.begins-returns-in-Assign
begins-returns-in-Assign t c =
    c.begins_at-in-Assign.ensures ∙ assign_begins c.args.e.now c.get-in-Assign.result.now c.in-Assign.a c.in-Assign.field-1 c.in-Assign.is c.get-in-Assign.ensures

pub begins-returns-in-Update : goal.begins-returns-in-Update
begins-returns-in-Update t c =
    c.begins_at-in-Update.ensures ∙ update_begins c.args.e.now c.get-in-Update.result.now c.in-Update.field-0 c.in-Update.a c.in-Update.field-2 c.in-Update.is c.get-in-Update.ensures
