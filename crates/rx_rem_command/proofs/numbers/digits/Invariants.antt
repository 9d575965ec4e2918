-- The rest of the word behind the value so far is the whole word.
use Rattle.std.proofs.Common.{◌≡◌, ◌<◌, ◌^◌, drop}
use Rattle.rx_rem_command.specs.Numbers.{digits_from}
use Rattle.rx_rem_command.proofs.numbers.digits.Given as goal

abbrev pub invariant-loop-byte : goal.invariant-loop-byte
invariant-loop-byte l = record {
  rest : digits_from l.value (drop l.byte-index l.word) ≡ digits_from 0 l.word;
  small : l.value < 10 ^ l.byte-index;
}
