use Rattle.std.proofs.Common.{◌≡◌, ◌++◌, IfOk, sym, subst}
use Rattle.rx_lower_walks.specs.PlainFlow.{plain-Act, plain-Temporary}
use Rattle.rx_exits.specs.Moving.{moved_by}
use Rattle.rx_exits.proofs.moving.with_moved.Goals as goal

pub returns-in-Read : goal.returns-in-Read
returns-in-Read c =
    subst (λ a. IfOk c.with_read.result (λ it. it ≡ c.args.found ++ moved_by (plain-Act a))) (sym c.in-Read.is) (c.with_read.ensures (plain-Temporary c.in-Read.field-2))
