-- What is answered of the functions that are left is answered of all.
use Rattle.std.proofs.Common.{drop}
use Rattle.rx_typed.specs.PlainTypes.{declarations}
use Rattle.rx_check.proofs.CoverLemmas.{Answers}
use Rattle.rx_check.proofs.passes.covers_each.Given as goal

abbrev pub invariant-loop-function : goal.invariant-loop-function
invariant-loop-function l = Answers (declarations l.typed.decls.items) l.typed.functions (drop l.function-index l.typed.functions)
