use Rattle.std.proofs.Common.{sym, subst}
use Rattle.rx_tree.specs.PlainOf.{plain-Program}
use Rattle.rx_check.specs.Causes.{PassCauses}
use Rattle.rx_check.proofs.PassLemmas.{mistyped, front_of}
use Rattle.rx_check.proofs.passes.fronted.Goals as goal

pub invariant_of-result : goal.invariant_of-result
invariant_of-result c = let p = plain-Program c.args.program.now in let f = c.in-Ok-behind_types.ensures.found in (
  p,
  front_of p c.args.names.now.items c.in-Ok.typed c.main_of-main.result c.in-Ok-behind_types.found.graphs c.in-Ok-behind_types.found.facts c.requires.numbered c.requires.named
      c.in-Ok.ensures.typed c.main_of-main.ensures f.covered f.graphs f.facts,
)

pub returns-in-Ok-behind_types-clause-front : goal.returns-in-Ok-behind_types-clause-front
returns-in-Ok-behind_types-clause-front c = let p = plain-Program c.args.program.now in let f = c.in-Ok-behind_types.ensures.found in
    front_of p c.args.names.now.items c.in-Ok.typed c.main_of-main.result c.in-Ok-behind_types.found.graphs c.in-Ok-behind_types.found.facts c.requires.numbered c.requires.named
    c.in-Ok.ensures.typed c.main_of-main.ensures f.covered f.graphs f.facts

pub returns-in-Err-clause-fault : goal.returns-in-Err-clause-fault
returns-in-Err-clause-fault c = let p = plain-Program c.args.program.now in
    subst (λ e. PassCauses e p) (sym c.of_types.ensures) (mistyped p c.args.names.now.items c.in-Err.fault c.requires.named c.in-Err.ensures.fault)
