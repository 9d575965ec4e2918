use Rattle.std.proofs.Common.{sym, subst}
use Rattle.rx_tree.specs.PlainOf.{plain-Program}
use Rattle.rx_typeck_typed.specs.declared.typed.Typed.{Typed}
use Rattle.rx_facts.specs.Answers.{AreGraphs, AreFacts}
use Rattle.rx_cert.specs.Verified.{Faults}
use Rattle.rx_cert.specs.Parts.{OfPassed}
use Rattle.rx_cert.specs.declared.fault.VerifyFault.{VerifyFault}
use Rattle.rx_cert.proofs.Answering.{of_passed, front_fault}
use Rattle.rx_cert.proofs.verifying.of_program.Goals as goal

pub front-requires : goal.front-requires
front-requires c = c.parsed_programs_are_numbered.ensures c.args.text.now (plain-Program c.args.program.now) c.requires.parses c.requires.short

pub of_passed-outcome-requires-clause-graphs : goal.of_passed-outcome-requires-clause-graphs
of_passed-outcome-requires-clause-graphs c = subst (λ (t : Typed). AreGraphs t c.graphs.result.now) (sym c.typed.ensures.same) c.graphs.ensures.graphs

pub of_passed-outcome-requires-clause-facts : goal.of_passed-outcome-requires-clause-facts
of_passed-outcome-requires-clause-facts c = subst (λ (t : Typed). AreFacts t c.facts.result.now) (sym c.typed.ensures.same) c.facts.ensures.facts

pub returns-in-Ok : goal.returns-in-Ok
returns-in-Ok c = of_passed c.args.text.now (plain-Program c.args.program.now) c.in-Ok.front.typed c.args.lines.now c.requires.parses c.in-Ok.ensures.front.accepted
    c.of_passed-outcome.result (subst (λ (t : Typed). OfPassed t c.args.lines.now c.of_passed-outcome.result) c.typed.ensures.same c.of_passed-outcome.ensures)

pub returns-in-Err : goal.returns-in-Err
returns-in-Err c = subst (λ (e : VerifyFault). Faults e c.args.lines.now c.args.text.now) (sym c.of_front.ensures)
    (front_fault c.args.text.now (plain-Program c.args.program.now) c.args.lines.now c.requires.parses c.in-Err.fault c.in-Err.ensures.fault)
