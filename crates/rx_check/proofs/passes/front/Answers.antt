use Rattle.std.proofs.Common.{sym, subst}
use Rattle.rx_tree.specs.PlainOf.{plain-Program}
use Rattle.rx_check.specs.Causes.{PassCauses}
use Rattle.rx_check.proofs.PassLemmas.{misnamed}
use Rattle.rx_check.proofs.passes.front.Goals as goal

pub returns-in-Err-clause-complete : goal.returns-in-Err-clause-complete
returns-in-Err-clause-complete c a = let p = plain-Program c.args.program.now in
    c.passed_or_faulty.ensures.fronted p c.of_names.result a (subst (λ e. PassCauses e p) (sym c.of_names.ensures) (misnamed p c.in-Err.fault c.in-Err.ensures.fault))
