use Rattle.std.specs.Prelude.{false}
use Rattle.rx_meaning.specs.Endings.{wrong, mistyped}
use Rattle.rx_meaning.specs.Acting.{plainly}
use Rattle.rx_meaning_keeping.specs.Strict.{strictly}
use Rattle.rx_meaning_typed.proofs.Typing.{ends_sensibly}
use Rattle.rx_meaning_typed.proofs.Strictly.{plainly_keeps, strictly_keeps}
use Rattle.rx_meaning_typed.proofs.laws.typed_runs_are_not_mistyped.Goals as goal

pub returns : goal.returns
returns c = record {
  plain = λ D Ts P all formed F q np given n t e. ends_sensibly plainly plainly_keeps D Ts P all false (λ f G x w a is. tt) formed F q np given n t (wrong mistyped) e;
  strict = λ D Ts P all formed F q np given n t e. ends_sensibly strictly strictly_keeps D Ts P all false (λ f G x w a is. tt) formed F q np given n t (wrong mistyped) e;
}
