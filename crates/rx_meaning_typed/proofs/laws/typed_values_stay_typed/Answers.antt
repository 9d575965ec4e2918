use Rattle.rx_meaning.specs.Acting.{plainly}
use Rattle.rx_meaning_keeping.specs.Strict.{strictly}
use Rattle.rx_meaning_typed.proofs.Typing.{reached_typed}
use Rattle.rx_meaning_typed.proofs.Strictly.{plainly_keeps, strictly_keeps}
use Rattle.rx_meaning_typed.proofs.laws.typed_values_stay_typed.Goals as goal

pub returns : goal.returns
returns c = record {
  plain = λ D Ts P all L lend. reached_typed plainly plainly_keeps D Ts P all L lend;
  strict = λ D Ts P all L lend. reached_typed strictly strictly_keeps D Ts P all L lend;
}
