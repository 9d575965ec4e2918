use Rattle.rx_meaning_typed.proofs.Unreferring.{runs_as_plain}
use Rattle.rx_meaning_covered.proofs.Running.{never_wrong, never_wrong_plainly}
use Rattle.rx_meaning_covered.proofs.laws.covered_runs_are_never_wrong.Goals as goal

pub returns : goal.returns
returns x = record {
  strict = λ D N Ts P typed free Fs muts initial covered given ranged n F q np c e. never_wrong D N Ts P typed free Fs muts initial covered given ranged n F q np c e;
  plain = λ D N Ts P typed free Fs muts initial covered given ranged n F q np c e. never_wrong_plainly D N Ts P typed free Fs muts initial covered given ranged n F q np c e;
  same = λ D N Ts P typed free Fs muts initial given n F q. runs_as_plain D Ts P typed free Fs muts initial F q given n;
}
