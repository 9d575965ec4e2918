use Rattle.std.proofs.Common.{◌+◌, ◌++◌, drop, ap, sym, ◌∙◌, arith}
use Rattle.std.proofs.lemmas.List.{append-nil}
use Rattle.rx_typed.specs.PlainTypes.{plain-Decl, declarations}
use Rattle.rx_machine_driver.specs.Fitting.{functions_of}
use Rattle.rx_machine_driver.proofs.BindLemmas.{drop_next, drop_end}
use Rattle.rx_machine.specs.Functions.{typed_functions}
use Rattle.rx_machine.proofs.TableLemmas.{one_more}
use Rattle.rx_machine.proofs.functions.table.Goals as goal

pub loop-decl-preserved : goal.loop-decl-preserved
loop-decl-preserved c =
    ap (λ l. functions_of l ++ typed_functions (declarations (drop (c.loop-decl.decl-index + 1) c.args.decls.now)) (drop c.next_tree-next.result.1 c.args.functions.now)) c.in_ok-push.ensures.items
    ∙ one_more c.loop-decl.all.items (plain-Decl c.decl-item.result) (declarations (drop (c.loop-decl.decl-index + 1) c.args.decls.now)) (declarations (drop c.loop-decl.decl-index c.args.decls.now)) c.next_tree-next.result.0
    (drop c.loop-decl.at c.args.functions.now) (drop c.next_tree-next.result.1 c.args.functions.now)
    (ap declarations (drop_next c.args.decls.now c.loop-decl.decl-index c.decl-item.result (let e = c.loop-decl-test.true in omega (arith, e)) c.decl-item.is)) c.next_tree-next.ensures.first c.next_tree-next.ensures.behind
    ∙ c.loop-decl.invariant

pub returns : goal.returns
returns c =
    sym (append-nil (functions_of c.loop-decl.all.items))
    ∙ ap (λ l. functions_of c.loop-decl.all.items ++ typed_functions (declarations l) (drop c.loop-decl.at c.args.functions.now)) (sym (drop_end c.args.decls.now c.loop-decl.decl-index (let e = c.loop-decl-test.false in omega (arith, e))))
    ∙ c.loop-decl.invariant
