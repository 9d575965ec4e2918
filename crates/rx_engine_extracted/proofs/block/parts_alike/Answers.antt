use Rattle.std.proofs.Common.{ap, sym, ◌∙◌, List}
use Rattle.rx_typed.specs.PlainTree.{plain-Expr}
use Rattle.rx_engine_alike.specs.Likeness.{Likeness, both, is_alike}
use Rattle.rx_engine_alike.specs.PlainLikeness.{plain-Likeness, exp_alike}
use Rattle.rx_engine_alike.specs.declared.sights.Seen.{Seen}
use Rattle.rx_engine_extracted.proofs.block.parts_alike.Goals as goal

pub returns : goal.returns
returns c =
    c.all_alike.ensures
    ∙ ap is_alike (c.both.ensures ∙ ap (λ (x : Likeness). both (plain-Likeness c.in_ok-found.found) x)
    (c.in_ok-tail.ensures ∙ ap (λ (R : List Seen). exp_alike c.args.between.now c.args.jumping.now R (plain-Expr c.args.text.tail.now)
    (plain-Expr c.args.answer.tail.now)) c.as_slice-here.ensures.value)
    ∙ sym (c.in_ok-found.ensures (plain-Expr c.args.text.tail.now) (plain-Expr c.args.answer.tail.now)))
