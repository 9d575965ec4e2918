use Rattle.std.proofs.Common.{arith}
use Rattle.rx_engine_alike.proofs.GivenLemmas.{only_of_more}
use Rattle.rx_engine_alike.proofs.leaving.only_operand.Goals as goal

pub returns-in-len2-up : goal.returns-in-len2-up
returns-in-len2-up c = only_of_more c.args.operands.now (omega (arith, c.in-len2-up.len_at_least))
