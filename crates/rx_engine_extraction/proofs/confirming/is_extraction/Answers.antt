use Rattle.std.proofs.Common.{◌∙◌, ap}
use Rattle.rx_tree.specs.PlainOf.{plain-Program}
use Rattle.rx_check.specs.Front.{Front}
use Rattle.rx_machine.specs.Functions.{program_of}
use Rattle.rx_engine_extraction.specs.Confirming.{found_in}
use Rattle.rx_engine_extraction.specs.Deciding.{text_of, case_of}
use Rattle.rx_engine_extraction.proofs.Comparing.{not_accepted_so, found_so}
use Rattle.rx_engine_extraction.proofs.confirming.is_extraction.Goals as goal

pub returns-in-Err-clause-found : goal.returns-in-Err-clause-found
returns-in-Err-clause-found c = let T = text_of c.args.given.now in
    (not_accepted_so c.passed_or_faulty.ensures.accepted T (case_of T c.args.decision.now) c.args.new_fn c.args.made (plain-Program c.args.program.now)
    c.in-Err.fault c.in-Err.ensures.fault c.of_check.result c.of_check.ensures).0

pub returns-in-Ok-outcome-clause-found : goal.returns-in-Ok-outcome-clause-found
returns-in-Ok-outcome-clause-found c = let T = text_of c.args.given.now in let d = case_of T c.args.decision.now in
    found_so c.one_typing.ensures T d c.args.new_fn c.args.made (plain-Program c.args.program.now) c.in-Ok.checked c.in-Ok.ensures.checked c.in-Ok-outcome.found
    (c.in-Ok-outcome.ensures ∙ ap (λ (x : Front). found_in T d c.args.new_fn c.args.made (program_of x.typed x.main) x.typed) c.front.ensures)
