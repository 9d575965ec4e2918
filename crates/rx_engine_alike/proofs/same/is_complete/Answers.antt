use Rattle.std.proofs.Common.{◌≡◌, ◌+◌, ◌-◌, true, false, ◌&&◌, map, length, sym, ap, ◌∙◌}
use Rattle.rx_typed.specs.Tree.{fields_of}
use Rattle.rx_typed.specs.PlainTree.{plain-Operand, operands_of}
use Rattle.rx_engine_alike.specs.Same.{has_all}
use Rattle.rx_engine_alike.proofs.SameLemmas.{has_all_next, has_all_end, fields_length}
use Rattle.rx_engine_alike.proofs.same.is_complete.Goals as goal

pub loop-field-preserved : goal.loop-field-preserved
loop-field-preserved c =
    let es = c.args.operands.now in
    let js = fields_of (operands_of (map plain-Operand es)) in
    let i = c.loop-field.field in
    ap (λ b. b && has_all js (length es - (i + 1)) (i + 1)) (sym c.if-not-has.false ∙ c.has.ensures) ∙ sym (has_all_next js (length es) i c.loop-field-test.true) ∙ c.loop-field.invariant

pub returns-then-not-has : goal.returns-then-not-has
returns-then-not-has c =
    let es = c.args.operands.now in
    let js = fields_of (operands_of (map plain-Operand es)) in
    let i = c.loop-field.field in
    ap (λ b. b && has_all js (length es - (i + 1)) (i + 1)) (sym c.if-not-has.true ∙ c.has.ensures) ∙ sym (has_all_next js (length es) i c.loop-field-test.true) ∙ c.loop-field.invariant
    ∙ ap (λ n. has_all js n 0) (sym (fields_length es))

pub returns : goal.returns
returns c =
    let es = c.args.operands.now in
    let js = fields_of (operands_of (map plain-Operand es)) in
    sym (has_all_end js (length es) c.loop-field.field c.loop-field-test.false) ∙ c.loop-field.invariant ∙ ap (λ n. has_all js n 0) (sym (fields_length es))
