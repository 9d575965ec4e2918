use Rattle.std.specs.Prelude.{true}
use Rattle.rx_meaning.specs.Endings.{wrong, immutable}
use Rattle.rx_meaning.specs.Acting.{plainly}
use Rattle.rx_meaning_keeping.specs.Strict.{strictly}
use Rattle.rx_meaning_typed.proofs.Typing.{ends_sensibly}
use Rattle.rx_meaning_typed.proofs.Strictly.{plainly_keeps, strictly_keeps}
use Rattle.rx_meaning_typed.proofs.laws.typed_runs_write_what_is_mutable.Goals as goal

pub returns : goal.returns
returns c = record {
  plain = λ D Ts P all lend formed F q np given n t e. ends_sensibly plainly plainly_keeps D Ts P all true lend formed F q np given n t (wrong immutable) e;
  strict = λ D Ts P all lend formed F q np given n t e. ends_sensibly strictly strictly_keeps D Ts P all true lend formed F q np given n t (wrong immutable) e;
}
