use Rattle.std.proofs.Common.{◌≡◌, option_map, codes, ap}
use Rattle.std.proofs.lemmas.Result.{IfOk-at_ok}
use Rattle.rx_tree.specs.PlainOf.{plain-Expr, optional_of}
use Rattle.rx_splice_edits.proofs.run_end.closed.Goals as goal

pub returns : goal.returns
returns c =
    (tt, IfOk-at_ok (λ t. t ≡ codes ";") c.in_ok-behind.ensures.0 c.new.ensures, ap (λ o. optional_of (option_map plain-Expr o)) c.in_ok-behind.ensures.1)
