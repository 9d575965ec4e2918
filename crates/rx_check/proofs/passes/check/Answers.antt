use Rattle.std.proofs.Common.{◌≡◌}
use Rattle.rx_tree.specs.Plain.{ProgramTree}
use Rattle.rx_tree.specs.PlainOf.{plain-Program}
use Rattle.rx_check.specs.declared.fault.CheckFault.{CheckFault}
use Rattle.rx_check.specs.declared.fault.CheckFault.TheVariants as check_fault
use Rattle.rx_check.specs.Causes.{Causes}
use Rattle.rx_check.specs.Front.{IsFrontOf}
use Rattle.rx_check.proofs.PassLemmas.{on_err}
use Rattle.rx_check.proofs.passes.check.Goals as goal

pub returns-in-Ok-clause-complete : goal.returns-in-Ok-clause-complete
returns-in-Ok-clause-complete c a = let p = plain-Program c.args.program.now in
    on_err (λ (e : CheckFault). (q : ProgramTree) → IsFrontOf q c.in-Ok.front → Causes e q) (λ (e : CheckFault). e ≡ check_fault.OutOfMemory)
    (λ e cause. c.passed_or_faulty.ensures.accepted p e a (cause p c.in-Ok.ensures.front)) c.with_front.result c.with_front.ensures.fault
