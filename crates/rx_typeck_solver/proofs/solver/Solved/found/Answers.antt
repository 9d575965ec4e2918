use Rattle.std.proofs.Common.{List, Option, sym, ap, ◌∙◌, subst}
use Rattle.rx_core.specs.declared.types.Ty.{Ty}
use Rattle.rx_typed.specs.PlainTypes.{declarations}
use Rattle.rx_typeck_solver.specs.Views.{Entered, TableTyped}
use Rattle.rx_typeck_solver.proofs.Exporting.{entered, given, found_by}
use Rattle.rx_typeck_solver.proofs.solver.Solved.found.Goals as goal

pub types_in-requires-clause-entries : goal.types_in-requires-clause-entries
types_in-requires-clause-entries c = subst (Entered c.args.self.now) (sym c.deref.ensures.value) (entered c.args.self.now c.requires.sound).0

pub types_in-requires-2-clause-entries : goal.types_in-requires-2-clause-entries
types_in-requires-2-clause-entries c = subst (Entered c.args.self.now) (sym c.deref-2.ensures.value) (entered c.args.self.now c.requires.sound).1

pub types_in-requires-3-clause-entries : goal.types_in-requires-3-clause-entries
types_in-requires-3-clause-entries c = subst (Entered c.args.self.now) (sym c.deref-3.ensures.value) (entered c.args.self.now c.requires.sound).2

pub returns : goal.returns
returns c =
    let one = c.in_ok-nodes.ensures in
    let two = c.in_ok-expected.ensures in
    let table = TableTyped c.args.self.now (declarations c.args.items.now) in
    found_by c.args.self.now (declarations c.args.items.now) _ c.deref.result.now c.deref-2.result.now c.deref-3.result.now c.requires.sound c.deref.ensures.value c.deref-2.ensures.value c.deref-3.ensures.value
    (subst (table c.deref.result.now) (sym (ap (λ (h : List (Option Ty) × List (Option Ty)). h.0) two.1 ∙ one.1)) (given (table c.deref.result.now) c.types_in.result c.in_ok-variables.variables c.types_in.ensures c.in_ok-variables.was))
    (subst (table c.deref-2.result.now) (sym (ap (λ (h : List (Option Ty) × List (Option Ty)). h.1) two.1)) (given (table c.deref-2.result.now) c.types_in-2.result c.in_ok-nodes.nodes c.types_in-2.ensures one.0))
    (given (table c.deref-3.result.now) c.types_in-3.result c.in_ok-expected.expected c.types_in-3.ensures two.0)
