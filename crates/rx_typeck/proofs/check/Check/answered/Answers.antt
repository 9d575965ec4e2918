use Rattle.std.proofs.Common.{IfErr, ap, sym, subst}
use Rattle.rx_tree.specs.PlainOf.{plain-Func}
use Rattle.rx_typed.specs.Naming.{function_named}
use Rattle.rx_typeck_solver.specs.Ordered.{Orderly}
use Rattle.rx_typeck_solver.specs.Solving.{task_of, IsSolved, IsUnsolved}
use Rattle.rx_typeck.specs.declared.check.Question.{Question}
use Rattle.rx_typeck.specs.Checking.{known_of}
use Rattle.rx_typeck.proofs.TypingLemmas.{untyped_as, given}
use Rattle.rx_typeck.proofs.check.Check.answered.Goals as goal

pub solve-requires : goal.solve-requires
solve-requires c = subst (λ (q : Question). Orderly (task_of q.demands q.literals)) (sym c.requires.0) (c.demands_are_orderly.ensures c.args.item c.args.span (plain-Func c.args.function.now) c.args.names.now)

pub returns-in-Ok-elaborated-clause-typed : goal.returns-in-Ok-elaborated-clause-typed
returns-in-Ok-elaborated-clause-typed c =
    let solved = given _ c.solve.result c.in-Ok.solved c.solve.ensures.solved c.in-Ok.is in
    let found = given _ c.found.result c.in-Ok-found.found c.found.ensures c.in-Ok-found.is in
    let asked = subst (λ (q : Question). IsSolved (known_of c.args.self.now) (task_of q.demands q.literals) c.in-Ok.solved) c.requires.0 solved in
    given _ c.elaborated.result c.in-Ok-elaborated.typed
    (c.elaborated.ensures c.in-Ok.solved c.args.variables.now found asked (ap (λ (q : Question). q.described) c.requires.0) c.requires.1) c.in-Ok-elaborated.is

pub returns-clause-untyped : goal.returns-clause-untyped
returns-clause-untyped c told =
    untyped_as (known_of c.args.self.now) (function_named c.args.item c.args.span (plain-Func c.args.function.now) c.args.names.now) c.args.variables.now c.solve.result c.in-Err.unsolved _
    (subst (λ (q : Question). IfErr c.solve.result (λ e. IsUnsolved (known_of c.args.self.now) (task_of q.demands q.literals) e)) c.requires.0 c.solve.ensures.unsolved)
    c.in-Err.is c.of_unsolved.ensures told
