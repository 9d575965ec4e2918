use Rattle.std.proofs.Common.{None, option_map, IfOk, refl, sym, subst}
use Rattle.rx_tree.specs.PlainOf.{plain-Expr, optional_of}
use Rattle.rx_splice_edits.specs.Ending.{IsEnd, followed_by}
use Rattle.rx_splice_edits.specs.declared.run_end.RunEnd.{RunEnd}
use Rattle.rx_splice_edits.proofs.EndLemmas.{tail_in}
use Rattle.rx_splice_edits.proofs.run_end.followed.Goals as goal

pub returns-in-Some : goal.returns-in-Some
returns-in-Some c =
    subst (λ o. IfOk c.closed.result (λ e. IsEnd e (followed_by (tail_in o) (optional_of (option_map plain-Expr c.args.tail))))) (sym c.in-Some.is)
    c.closed.ensures

pub returns-in-None : goal.returns-in-None
returns-in-None c =
    let end : RunEnd = record { before = None; behind = None; tail = c.args.tail } in
    subst (λ o. IsEnd end (followed_by (tail_in o) (optional_of (option_map plain-Expr c.args.tail)))) (sym c.in-None.is) (tt, tt, refl)
