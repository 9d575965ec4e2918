use Rattle.std.proofs.Common.{ℕ, Option, map, drop}
use Rattle.rx_typed.specs.PlainTypes.{declarations}
use Rattle.rx_cover.specs.declared.judging.Problem.{Problem}
use Rattle.rx_cover.specs.Judging.{Told}
use Rattle.rx_cover.specs.PlainChoices.{plain-Choice}
use Rattle.rx_cover.proofs.judging.first_judged.Given as goal

abbrev pub invariant-loop-i : goal.invariant-loop-i
invariant-loop-i l = (o : Option (ℕ × Problem)) → Told (declarations l.decls.items) (map plain-Choice (drop l.i l.choices)) o → Told (declarations l.decls.items) (map plain-Choice l.choices) o
