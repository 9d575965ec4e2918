use Rattle.std.proofs.Common.{◌++◌, ◌∙◌, ap, arith}
use Rattle.rx_tree.specs.PlainOf.{plain-Program}
use Rattle.rx_cover_values.proofs.WrittenLemmas.{goes_first, goes_last, goes_back, goes_on_at, goes_nowhere}
use Rattle.rx_cover_values.proofs.writing.push_value.Goals as goal

pub loop-top-init : goal.loop-top-init
loop-top-init c = goes_first (plain-Program c.args.program.now) c.args.nodes.now c.args.text.now c.push.new.self c.new-opened.result c.new-opened.ensures c.in_ok-push.ensures.ok

pub returns : goal.returns
returns c = λ v is. goes_last (plain-Program c.args.program.now) c.args.nodes.now c.args.text.now c.loop-top.at c.loop-top.text c.loop-top.opened c.loop-top.invariant c.in_default.ensures.0 v is

pub loop-top-preserved-then-top-parts_of : goal.loop-top-preserved-then-top-parts_of
loop-top-preserved-then-top-parts_of c =
    goes_back (plain-Program c.args.program.now) c.args.nodes.now c.args.text.now c.loop-top.opened c.pop.new.self c.in-Some.top c.loop-top.at c.loop-top.text c.in-Some.ensures c.loop-top.invariant
    c.push-then-top-parts_of.new.self (let h = c.if-top-parts_of.true in let e = c.parts_of.ensures in omega (arith, h, e)) (c.in_ok-push-2.ensures.ok ∙ ap (λ l. c.loop-top.text ++ l) c.closing.ensures)

pub loop-top-preserved-then-at-nodes : goal.loop-top-preserved-then-at-nodes
loop-top-preserved-then-at-nodes c =
    goes_on_at (plain-Program c.args.program.now) c.args.nodes.now c.args.text.now c.loop-top.opened c.pop.new.self c.in-Some.top c.loop-top.at c.loop-top.text c.in-Some.ensures c.loop-top.invariant
    _ c.push_two.new.opened c.begin.new.text (let h = c.if-top-parts_of.false in let e = c.parts_of.ensures in omega (arith, h, e)) (let h = c.if-at-nodes.true in omega (arith, h)) c.in_ok-push_two.ensures c.in_ok-begin.ensures

pub loop-top-preserved : goal.loop-top-preserved
loop-top-preserved c =
    goes_nowhere (plain-Program c.args.program.now) c.args.nodes.now c.args.text.now c.loop-top.opened c.pop.new.self c.in-Some.top c.loop-top.at c.loop-top.text c.in-Some.ensures c.loop-top.invariant
    c.pop.new.self c.loop-top.at c.loop-top.text (let h = c.if-top-parts_of.false in let e = c.parts_of.ensures in omega (arith, h, e)) (let h = c.if-at-nodes.false in omega (arith, h))
