use Rattle.std.proofs.Common.{Some, None, if◌then◌else◌, ap, sym, ◌∙◌}
use Rattle.std.proofs.lemmas.Bool.{le-leb, lt-leb}
use Rattle.rx_tree.specs.PlainOf.{plain-Block}
use Rattle.rx_select.specs.Parts.{parts_of}
use Rattle.rx_select.specs.Search.{beginning, ending}
use Rattle.rx_select.proofs.Forms.{parts_are, no_first, no_last, first_and_last}
use Rattle.rx_select.proofs.block.run_in.Goals as goal

pub returns-in_err-first : goal.returns-in_err-first
returns-in_err-first c =
    let b = c.args.block.now in
    let e = parts_are b c.as_slice-stmts.result.now c.tail_place_of-tail.result c.as_slice-stmts.ensures c.tail_place_of-tail.ensures in
    c.from_residual.ensures ∙ sym (no_first c.args.places (parts_of (plain-Block b)) (sym (ap (beginning c.args.places 0) e) ∙ sym c.find_beginning.ensures ∙ c.in_err-first.was))

pub returns-in_err-last : goal.returns-in_err-last
returns-in_err-last c =
    let b = c.args.block.now in
    let e = parts_are b c.as_slice-stmts.result.now c.tail_place_of-tail.result c.as_slice-stmts.ensures c.tail_place_of-tail.ensures in
    c.from_residual-in_err-last.ensures ∙ sym (no_last c.args.places (parts_of (plain-Block b)) (sym (ap (ending c.args.places 0) e) ∙ sym c.find_ending.ensures ∙ c.in_err-last.was))

pub returns-then-first-last : goal.returns-then-first-last
returns-then-first-last c =
    let b = c.args.block.now in
    let e = parts_are b c.as_slice-stmts.result.now c.tail_place_of-tail.result c.as_slice-stmts.ensures c.tail_place_of-tail.ensures in
    let i = c.in_ok-first.first in
    let j = c.in_ok-last.last in
    sym (first_and_last c.args.places (parts_of (plain-Block b)) i j (sym (ap (beginning c.args.places 0) e) ∙ sym c.find_beginning.ensures ∙ c.in_ok-first.was)
    (sym (ap (ending c.args.places 0) e) ∙ sym c.find_ending.ensures ∙ c.in_ok-last.was)
    ∙ ap (λ t. if t then Some (i, j) else None) (le-leb i j c.if-first-last.true))

pub returns-else-first-last : goal.returns-else-first-last
returns-else-first-last c =
    let b = c.args.block.now in
    let e = parts_are b c.as_slice-stmts.result.now c.tail_place_of-tail.result c.as_slice-stmts.ensures c.tail_place_of-tail.ensures in
    let i = c.in_ok-first.first in
    let j = c.in_ok-last.last in
    sym (first_and_last c.args.places (parts_of (plain-Block b)) i j (sym (ap (beginning c.args.places 0) e) ∙ sym c.find_beginning.ensures ∙ c.in_ok-first.was)
    (sym (ap (ending c.args.places 0) e) ∙ sym c.find_ending.ensures ∙ c.in_ok-last.was)
    ∙ ap (λ t. if t then Some (i, j) else None) (lt-leb i j c.if-first-last.false))
