use Rattle.std.proofs.Common.{drop}
use Rattle.rx_typed.specs.PlainTypes.{declarations}
use Rattle.rx_typed_declarations.specs.Sizes.{told}
use Rattle.rx_facts.specs.Passing.{Behind}
use Rattle.rx_facts.specs.Functions.{IsInitialised, IsUninitialised}
use Rattle.rx_facts.specs.Answers.{AreFactsOf}
use Rattle.rx_facts.proofs.finding.each.Given as goal

abbrev pub invariant-loop-i : goal.invariant-loop-i
invariant-loop-i l = Behind (AreFactsOf (declarations l.decls.items) (told l.sizes)) (IsInitialised (declarations l.decls.items) (told l.sizes))
    (IsUninitialised (declarations l.decls.items) (told l.sizes)) l.functions (drop l.i l.functions) l.all
