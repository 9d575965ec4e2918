use Rattle.std.proofs.Common.{drop}
use Rattle.rx_facts.specs.Passing.{Behind}
use Rattle.rx_facts.specs.Functions.{IsSmall, IsLarge}
use Rattle.rx_facts.specs.Answers.{IsGraphOf}
use Rattle.rx_facts.proofs.lowering.lower_each.Given as goal

abbrev pub invariant-loop-function : goal.invariant-loop-function
invariant-loop-function l = Behind (IsGraphOf l.decls.items) (IsSmall l.decls.items) (IsLarge l.decls.items) l.functions (drop l.function-index l.functions) l.all
