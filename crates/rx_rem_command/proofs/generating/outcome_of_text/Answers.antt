-- The text has one program, which is accepted; so it is read, or memory runs out.
use Rattle.std.proofs.Common.{List, ℕ, sym, subst}
use Rattle.rx_tree.specs.PlainOf.{plain-Program}
use Rattle.rx_tree.specs.Plain.{ProgramTree}
use Rattle.rx_parse_grammar.specs.grammar.Items.{Parses}
use Rattle.rx_meaning.specs.declared.outcome.Outcome.{Outcome}
use Rattle.rx_engine.specs.Runs.{Does}
use Rattle.rx_rem_generated.specs.Generated.{input}
use Rattle.rx_rem_command.proofs.Generations.{is_the_accepted, of_each, if_ok_each}
use Rattle.rx_rem_command.proofs.generating.outcome_of_text.Goals as goal

pub outcome_of_program-outcome-requires-clause-accepted : goal.outcome_of_program-outcome-requires-clause-accepted
outcome_of_program-outcome-requires-clause-accepted c = let p = plain-Program c.in-Ok.program in
    is_the_accepted c.args.text.now p (subst (λ (t : List ℕ). Parses t p) c.as_bytes.ensures.value c.in-Ok.ensures.found) c.requires.accepted

pub memory_of_text-requires : goal.memory_of_text-requires
memory_of_text-requires c = let p = c.requires.accepted.program in
    c.in-Err.ensures.only p (subst (λ (t : List ℕ). Parses t p) (sym c.as_bytes.ensures.value) c.requires.accepted.parses)

pub returns-in-Ok : goal.returns-in-Ok
returns-in-Ok c = let p = plain-Program c.in-Ok.program in
    if_ok_each (λ (o : Outcome). Does p c.args.turns (input c.args.count) o) (λ (o : Outcome). (q : ProgramTree) → Parses c.args.text.now q → Does q c.args.turns (input c.args.count) o)
    c.outcome_of_program-outcome.result
    (λ o d. of_each c.args.text.now p (λ (q : ProgramTree). Does q c.args.turns (input c.args.count) o)
    (subst (λ (t : List ℕ). Parses t p) c.as_bytes.ensures.value c.in-Ok.ensures.found) d) c.outcome_of_program-outcome.ensures
