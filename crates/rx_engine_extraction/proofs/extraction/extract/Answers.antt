use Rattle.rx_tree.specs.PlainOf.{plain-Program}
use Rattle.rx_engine_extraction.proofs.Starting.{unread_answer, unaccepted_answer}
use Rattle.rx_engine_extraction.proofs.extraction.extract.Goals as goal

pub checked-requires : goal.checked-requires
checked-requires g c = c.parsed_programs_are_numbered.ensures c.args.text.now (plain-Program c.in-Ok.program) c.in-Ok.ensures.found c.requires

pub returns-in-Err : goal.returns-in-Err
returns-in-Err g c = record {
  verdict = unread_answer c.args.text.now (record { start = c.args.selection.start; end = c.args.selection.end; name = c.args.name.now; choice = g.P.Policy.choice c.args.policy.now })
      c.in-Err.fault c.in-Err.ensures.fault;
}

pub returns-in-Err-checked : goal.returns-in-Err-checked
returns-in-Err-checked g c = record {
  verdict = unaccepted_answer c.args.text.now (plain-Program c.in-Ok.program) c.in-Ok.ensures.found
      (record { start = c.args.selection.start; end = c.args.selection.end; name = c.args.name.now; choice = g.P.Policy.choice c.args.policy.now })
      c.in-Err-checked.fault c.in-Err-checked.ensures.fault;
}
