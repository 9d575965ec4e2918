use Rattle.std.proofs.Common.{Ok, Err, ap, ◌∙◌, subst}
use Rattle.rx_loan.specs.declared.judging.BorrowFault.{BorrowFault}
use Rattle.rx_loan.specs.Answer.{Judges}
use Rattle.rx_facts.specs.Functions.{sites_of, span_of}
use Rattle.rx_check.specs.Contexts.{context_of}
use Rattle.rx_check.proofs.Telling.{judged, place_of}
use Rattle.rx_check.proofs.loans.function_loans.Goals as goal

pub returns-in-Ok : goal.returns-in-Ok
returns-in-Ok c D P graph regions =
    judged D P c.args.function.now c.args.lowered.now graph c.as_slice-sites.result.now c.as_slice-sites.ensures c.as_slice-owned.result.now c.as_slice-owned.ensures
    (Ok c.in-Ok.loans) c.args.regions.now c.in-Ok.ensures regions

pub returns-in-Err-Loan : goal.returns-in-Err-Loan
returns-in-Err-Loan c D P graph regions =
    let at = place_of D P c.args.function.now c.args.lowered.now graph c.as_slice-sites.result.now c.as_slice-sites.ensures c.as_slice-owned.result.now c.as_slice-owned.ensures
    c.as_slice-spans.result.now c.as_slice-spans.ensures in (
      c.in-Err-Loan.borrow,
      c.in-Err-Loan.access,
      c.span_of.ensures ∙ (ap (λ n. span_of c.as_slice-spans.result.now n) c.node_of.ensures ∙ at c.in-Err-Loan.borrow),
      c.span_of-in-Err-Loan.ensures ∙ (ap (λ n. span_of c.as_slice-spans.result.now n) c.node_of-in-Err-Loan.ensures ∙ at c.in-Err-Loan.access),
      subst (λ (e : BorrowFault). Judges (context_of D P c.args.function.now) (sites_of c.args.function.now) (Err e)) c.in-Err-Loan.field-0-is
          (judged D P c.args.function.now c.args.lowered.now graph c.as_slice-sites.result.now c.as_slice-sites.ensures c.as_slice-owned.result.now c.as_slice-owned.ensures
          (Err c.in-Err-Loan.field-0) c.args.regions.now c.in-Err-Loan.ensures regions),
    )
