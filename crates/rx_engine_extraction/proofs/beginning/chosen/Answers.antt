use Rattle.std.proofs.Common.{◌≡◌, sym, subst, ◌∙◌}
use Rattle.rx_lex.specs.Tok.{toks}
use Rattle.rx_select.specs.declared.selecting.SelectFault.TheVariants as select_fault
use Rattle.rx_hoist_naming.specs.declared.names.NameRefusal.{NameRefusal}
use Rattle.rx_hoist_naming.specs.NameTest.{RefusedName}
use Rattle.rx_hoist_naming.specs.NamesWords.{identifiers}
use Rattle.rx_engine_extraction.proofs.Starting.{free_unused}
use Rattle.rx_engine_extraction.proofs.beginning.chosen.Goals as goal

told : select_fault.NotARun ≡ select_fault.OutOfMemory → ⊥
told e = cc

pub returns-in-Err-NotARun-clause-fault : goal.returns-in-Err-NotARun-clause-fault
returns-in-Err-NotARun-clause-fault c = λ r h. told (sym c.in-Err-NotARun.field-0-is ∙ c.in-Err-NotARun.ensures.only r h)

pub returns-in-Ok-name_free-clause-found : goal.returns-in-Ok-name_free-clause-found
returns-in-Ok-name_free-clause-found c = let free = c.in-Ok-name_free.ensures in
    record { run = c.in-Ok.ensures.run; word = free.word; unused = free_unused (identifiers (toks c.args.tokens.now.list)) c.args.name.now free }

pub returns-in-Err-BadName-clause-fault : goal.returns-in-Err-BadName-clause-fault
returns-in-Err-BadName-clause-fault c = let ids = identifiers (toks c.args.tokens.now.list) in
    (c.in-Ok.run', c.in-Ok.ensures.run, subst (λ (x : NameRefusal). RefusedName ids c.args.name.now x) c.in-Err-BadName.field-0-is c.in-Err-BadName.ensures)

pub returns-in-Err-NameTaken-clause-fault : goal.returns-in-Err-NameTaken-clause-fault
returns-in-Err-NameTaken-clause-fault c = let ids = identifiers (toks c.args.tokens.now.list) in
    let h = subst (λ (x : NameRefusal). RefusedName ids c.args.name.now x) c.in-Err-NameTaken.field-0-is c.in-Err-NameTaken.ensures in
    (c.in-Ok.run', c.in-Ok.ensures.run, h.0, h.1)
