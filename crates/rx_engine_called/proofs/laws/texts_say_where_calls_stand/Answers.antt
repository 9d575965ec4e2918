use Rattle.rx_engine_called.proofs.Behind.{behind_agrees}
use Rattle.rx_engine_called.proofs.Called.{run_says}
use Rattle.rx_engine_called.proofs.laws.texts_say_where_calls_stand.Goals as goal

pub returns : goal.returns
returns c = λ P r pl s g stands tells outs redeclared received few_exits few behind.
    run_says P r pl s g stands (record { tells = tells; outs = outs; redeclared = redeclared; received = received; fresh_exits = few_exits; fresh_values = few }) (λ past. behind_agrees P r pl g few tells.redeclared (behind past))
