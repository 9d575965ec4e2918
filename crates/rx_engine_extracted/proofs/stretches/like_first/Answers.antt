use Rattle.std.proofs.Common.{ap, ◌∙◌, Option, arith}
use Rattle.rx_engine_alike.specs.Likeness.{and_then}
use Rattle.rx_engine_alike.specs.PlainParts.{plain-Part}
use Rattle.rx_engine_extracted.specs.declared.stretches.Passed.{Passed}
use Rattle.rx_engine_extracted.specs.PlainStretches.{first_alike}
use Rattle.rx_engine_extracted.proofs.StretchLemmas.{next_so}
use Rattle.rx_engine_extracted.proofs.stretches.like_first.Goals as goal

pub loop-left-preserved : goal.loop-left-preserved
loop-left-preserved c =
    next_so (λ n. first_alike c.args.between.now c.args.jumping.now n c.loop-left.renaming.items (plain-Part c.loop-left.rest.text) (plain-Part c.loop-left.rest.answer))
    (λ n. first_alike c.args.between.now c.args.jumping.now n c.like_next.new.renaming.items (plain-Part c.in-Some.further.text) (plain-Part c.in-Some.further.answer))
    c.loop-left.left _ (omega (arith, c.loop-left-test.true))
    (λ n. c.in_ok-further.ensures n
    ∙ ap (λ (o : Option Passed). and_then o (λ p. first_alike c.args.between.now c.args.jumping.now n c.like_next.new.renaming.items (plain-Part p.text) (plain-Part p.answer))) c.in-Some.is)
    c.loop-left.invariant
