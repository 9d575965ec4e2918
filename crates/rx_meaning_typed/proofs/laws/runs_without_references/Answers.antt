use Rattle.rx_meaning_typed.proofs.Unreferring.{never_behind, runs_as_plain, causes_remain}
use Rattle.rx_meaning_typed.proofs.laws.runs_without_references.Goals as goal

pub returns : goal.returns
returns c = record {
  never_behind = λ D Ts P all free. never_behind D Ts P.functions all free;
  plain = λ D Ts P all free Fs muts initial F q given n. runs_as_plain D Ts P all free Fs muts initial F q given n;
  causes = λ D Ts P all free Fs muts initial F q np given n t c e. causes_remain D Ts P all free Fs muts initial F q np given n t c e;
}
