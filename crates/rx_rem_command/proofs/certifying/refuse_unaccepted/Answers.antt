-- The program that is read is the text's.
use Rattle.std.proofs.Common.{inr}
use Rattle.rx_tree.specs.PlainOf.{plain-Program}
use Rattle.rx_parse_grammar.proofs.Whole.{one_text}
use Rattle.rx_rem_command.proofs.Certificates.{said_of}
use Rattle.rx_rem_command.proofs.certifying.refuse_unaccepted.Goals as goal

pub returns-in-Ok : goal.returns-in-Ok
returns-in-Ok g c p parses = said_of _ _ c.refuse_program-status.result c.args.fault.now (plain-Program c.in-Ok.program) p
    (one_text c.args.text.now (plain-Program c.in-Ok.program) p c.in-Ok.ensures.found parses) c.refuse_program-status.ensures

pub returns-in-Err : goal.returns-in-Err
returns-in-Err g c p parses = inr c.report_name.ensures
