use Rattle.std.proofs.Common.{sym, subst}
use Rattle.std.specs.Prelude.{IfOk, IfErr}
use Rattle.rx_tree.specs.Plain.{ProgramTree}
use Rattle.rx_typeck_typed.specs.declared.typed.Typed.{Typed}
use Rattle.rx_check.specs.Causes.{BorrowCauses, BorrowedIn}
use Rattle.rx_check.specs.Front.{Front, IsFrontOf, IsCheckedOf}
use Rattle.rx_check.proofs.PassLemmas.{checked_of, behind_front}
use Rattle.rx_check.proofs.passes.with_front.Goals as goal

-- what is found is that of the program whose front it is
found_of : (c : goal.In-Ok) (p : ProgramTree) → IsFrontOf p c.args.front → IsCheckedOf p (record { front = c.in-Ok.front; regions = c.in-Ok.found.regions; loans = c.in-Ok.found.loans })
found_of c p front =
    let told = subst (λ r. IfOk r (λ x. BorrowedIn c.typed.result.now x)) c.in-Ok.ensures.0 c.behind_front-outcome.ensures.found in
    let found = subst (λ (t : Typed). BorrowedIn t c.in-Ok.found) c.typed.ensures.same told in
    subst (λ (f : Front). IsCheckedOf p (record { front = f; regions = c.in-Ok.found.regions; loans = c.in-Ok.found.loans })) (sym c.in-Ok.ensures.1)
    (checked_of p c.args.front c.in-Ok.found.regions c.in-Ok.found.loans front found.regions found.loans)

pub invariant_of-result : goal.invariant_of-result
invariant_of-result c = (c.requires.0, found_of c c.requires.0 c.requires.1)

pub returns-in-Ok-clause-checked : goal.returns-in-Ok-clause-checked
returns-in-Ok-clause-checked c p front = found_of c p front

pub returns-in-Err-clause-fault : goal.returns-in-Err-clause-fault
returns-in-Err-clause-fault c p front =
    let told = subst (λ r. IfErr r (λ e. BorrowCauses e c.typed.result.now)) c.in-Err.ensures c.behind_front-outcome.ensures.fault in
    behind_front p c.args.front.typed c.in-Err.fault front.accepted (subst (λ (t : Typed). BorrowCauses c.in-Err.fault t) c.typed.ensures.same told)
