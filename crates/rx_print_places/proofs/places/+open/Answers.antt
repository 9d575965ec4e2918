-- The forms that the match passes over, and those that are seen by their parts.
use Rattle.std.proofs.Common.{◌∙◌}
use Rattle.rx_print_places.proofs.Passed.{open_else, field_open, part_open, deref_open, neg_open, not_open, borrow_open}
use Rattle.rx_print_places.proofs.places.+open.Goals as goal

pub is_open-returns-in_default : goal.is_open-returns-in_default
is_open-returns-in_default t c =
    open_else c.args.e.now
    c.in_default.not-Make c.in_default.not-Field c.in_default.not-Part c.in_default.not-Deref
    c.in_default.not-Neg c.in_default.not-Not c.in_default.not-Borrow c.in_default.not-Binary

pub is_open-returns-in-Field : goal.is_open-returns-in-Field
is_open-returns-in-Field t c =
    c.is_open_at.ensures ∙ field_open c.args.e.now c.get.result.now c.in-Field.base c.in-Field.field-1 c.in-Field.is c.get.ensures

pub is_open-returns-in-Part : goal.is_open-returns-in-Part
is_open-returns-in-Part t c =
    c.is_open_at-in-Part.ensures ∙ part_open c.args.e.now c.get-in-Part.result.now c.in-Part.base c.in-Part.field-1 c.in-Part.is c.get-in-Part.ensures

pub is_open-returns-in-Deref : goal.is_open-returns-in-Deref
is_open-returns-in-Deref t c =
    c.is_open_at-in-Deref.ensures ∙ deref_open c.args.e.now c.get-in-Deref.result.now c.in-Deref.base c.in-Deref.is c.get-in-Deref.ensures

pub is_open-returns-in-Neg : goal.is_open-returns-in-Neg
is_open-returns-in-Neg t c =
    c.is_open_at-in-Neg.ensures ∙ neg_open c.args.e.now c.get-in-Neg.result.now c.in-Neg.base c.in-Neg.is c.get-in-Neg.ensures

pub is_open-returns-in-Not : goal.is_open-returns-in-Not
is_open-returns-in-Not t c =
    c.is_open_at-in-Not.ensures ∙ not_open c.args.e.now c.get-in-Not.result.now c.in-Not.base c.in-Not.is c.get-in-Not.ensures

pub is_open-returns-in-Borrow : goal.is_open-returns-in-Borrow
is_open-returns-in-Borrow t c =
    c.is_open_at-in-Borrow.ensures ∙ borrow_open c.args.e.now c.get-in-Borrow.result.now c.in-Borrow.field-0 c.in-Borrow.base c.in-Borrow.is c.get-in-Borrow.ensures
