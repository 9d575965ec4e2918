use Rattle.std.proofs.Common.{sym, ap, ◌∙◌, arith}
use Rattle.rx_typed.specs.Types.{peeled}
use Rattle.rx_typeck_solver.proofs.Pairing.{to_lower, peeled_here}
use Rattle.rx_typeck_solver.proofs.tables.peeled.Goals as goal

pub loop-to-preserved : goal.loop-to-preserved
loop-to-preserved c =
    let p = to_lower c.args.arena.now.entries.items c.requires.formed.0 c.loop-to.at c.form.result c.in-Reference.field-0 c.in-Reference.to c.requires.formed.1 c.loop-to.invariant.0.0 c.form.ensures c.in-Reference.is in
    let l = p.0 in let h = c.loop-to.invariant.0.0 in
    ((omega (arith, l, h), p.1), ap peeled (sym p.2) ∙ c.loop-to.invariant.1)

pub returns : goal.returns
returns c = record {
  value = sym (peeled_here c.args.arena.now.entries.items c.requires.formed.0 c.loop-to.at c.form.result c.requires.formed.1 c.loop-to.invariant.0.0 c.form.ensures (λ m j. c.in_default.not-Reference m j)) ∙ c.loop-to.invariant.1;
  term = c.loop-to.invariant.0;
}
