use Rattle.std.proofs.Common.{◌≡◌, subst, IfOk}
use Rattle.rx_typed.specs.PlainTypes.{plain-Ty}
use Rattle.rx_cover.specs.Heads.{with_head}
use Rattle.rx_cover.specs.PlainCells.{plain-Head}
use Rattle.rx_cover.specs.PlainValue.{plain-Value, plain_values}
use Rattle.rx_cover.proofs.MissingLemmas as lemma
use Rattle.rx_cover.proofs.missing.finished.Goals as goal

pub returns : goal.returns
returns c =
    let w = with_head (plain-Ty c.args.ty.now) (plain-Head c.args.head) (plain_values c.args.parts) in
    lemma.finished_if c.args.stack c.in_ok-value.stack c.in_ok-value.value w c.pushed.result c.in_ok-value.ensures.1
    (subst (λ q. IfOk q (λ v. plain-Value v ≡ w)) c.in_ok-value.ensures.0 c.with_head.ensures) c.pushed.ensures
