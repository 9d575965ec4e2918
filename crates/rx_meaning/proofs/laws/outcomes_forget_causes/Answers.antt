use Rattle.std.proofs.Common.{◌≡◌, ℕ, refl}
use Rattle.rx_meaning.specs.Endings.{end_of}
use Rattle.rx_meaning.specs.Values.{Value}
use Rattle.rx_meaning.specs.Results.{Result, on, jumps, stops}
use Rattle.rx_meaning.specs.Acting.{plainly}
use Rattle.rx_meaning.specs.Programs.{ending_of, outcome_of, run_by}
use Rattle.rx_meaning.proofs.laws.outcomes_forget_causes.Goals as goal

ends_alike : (r : Result ℕ Value) → (outcome_of r).end ≡ end_of (ending_of r)
ends_alike (on w v s) = refl
ends_alike (jumps w x v s) = refl
ends_alike (stops w e) = refl

pub returns : goal.returns
returns c = λ P given n. ends_alike (run_by plainly P given n)
