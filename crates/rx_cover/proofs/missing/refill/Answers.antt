use Rattle.std.proofs.Common.{subst, true, false, [], ◌∷◌, get_or, arith}
use Rattle.rx_typed.specs.PlainTypes.{declarations}
use Rattle.rx_cover.specs.PlainCells.{plain-Column}
use Rattle.rx_cover.specs.Finding.{Refills}
use Rattle.rx_cover.proofs.MissingLemmas as lemma
use Rattle.rx_cover.proofs.missing.refill.Goals as goal

pub returns-then-not-branch : goal.returns-then-not-branch
returns-then-not-branch c = λ ts s.
    let D = declarations c.args.decls.now.items in
    let m = get_or c.args.mask.now c.loop-i.i false in
    let x = c.index-columns-i.result in
    let long = c.requires.long in
    c.loop-i.invariant ts s c.refill_one.new.stack c.refill_one.new.parts false
    (lemma.refill_ends D c.args.mask.now c.args.columns.now c.loop-i.i x ts c.loop-i.stack c.loop-i.parts c.refill_one.new.stack c.refill_one.new.parts c.refill_one.new.stack c.refill_one.new.parts (omega arith) c.loop-i-test.true c.index-columns-i.is
    (λ xs q. subst (λ b. Refills D (m ∷ []) (plain-Column x ∷ []) xs c.loop-i.stack c.loop-i.parts c.refill_one.new.stack c.refill_one.new.parts b) c.if-not-branch.true (c.in_ok-refill_one.ensures xs q)))

pub loop-i-preserved : goal.loop-i-preserved
loop-i-preserved c = λ ts s left new b k.
    let D = declarations c.args.decls.now.items in
    let m = get_or c.args.mask.now c.loop-i.i false in
    let x = c.index-columns-i.result in
    let long = c.requires.long in
    c.loop-i.invariant ts s left new b
    (lemma.refill_next D c.args.mask.now c.args.columns.now c.loop-i.i x ts c.loop-i.stack c.loop-i.parts c.refill_one.new.stack c.refill_one.new.parts left new b (omega arith) c.loop-i-test.true c.index-columns-i.is
    (λ xs q. subst (λ b. Refills D (m ∷ []) (plain-Column x ∷ []) xs c.loop-i.stack c.loop-i.parts c.refill_one.new.stack c.refill_one.new.parts b) c.if-not-branch.false (c.in_ok-refill_one.ensures xs q)) k)

pub returns : goal.returns
returns c = λ ts s.
    let long = c.requires.long in
    c.loop-i.invariant ts s c.loop-i.stack c.loop-i.parts true
    (lemma.refill_done (declarations c.args.decls.now.items) c.args.mask.now c.args.columns.now c.loop-i.i ts c.loop-i.stack c.loop-i.parts (omega arith) (omega arith))
