use Rattle.std.proofs.Common.{Some, sym, subst}
use Rattle.std.proofs.lemmas.Result.{on_ok_weaker}
use Rattle.rx_splice_edits.specs.Ending.{IsPut}
use Rattle.rx_splice_edits.proofs.RunLemmas.{put_text, put_none}
use Rattle.rx_splice_edits.proofs.run.put_if_any.Goals as goal

pub returns-in_ok-own-in-Some : goal.returns-in_ok-own-in-Some
returns-in_ok-own-in-Some c ps i =
    on_ok_weaker c.put.result (put_text c.args.at c.in_ok-own-in-Some.own ps c.args.out.now _
    (subst (λ t. IsPut (Some t) ps) (sym c.in_ok-own-in-Some.ensures) (subst (λ o. IsPut o ps) c.in-Some.is i))) c.put.ensures

pub returns-in-None : goal.returns-in-None
returns-in-None c ps i = put_none c.args.at ps c.args.out.now (subst (λ o. IsPut o ps) c.in-None.is i)
