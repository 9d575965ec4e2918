use Rattle.std.proofs.Common.{sym, subst}
use Rattle.std.proofs.lemmas.Result.{IfOk-weaker}
use Rattle.rx_typeck_solver.specs.Reading.{AllTerms}
use Rattle.rx_typeck_solver.proofs.Lacking.{entries_known}
use Rattle.rx_typeck_solver.proofs.Taking.{both_ok, entries_terms, new_fits, new_term, equals_learnt, equals_none}
use Rattle.rx_typeck_solver.proofs.take.equals.Goals as goal

pub entries-requires : goal.entries-requires
entries-requires c = entries_known c.args.arena.now.entries.items c.args.tables.now c.args.others.now c.requires.others

pub made-requires-clause-terms : goal.made-requires-clause-terms
made-requires-clause-terms c = subst (λ l. AllTerms c.args.arena.now.entries.items l) (sym c.deref.ensures.value) (entries_terms c.args.arena.now.entries.items c.args.tables.now c.args.others.now c.in-Ok.ts.items c.requires.fits c.in-Ok.ensures).0

pub learn-requires-clause-fits : goal.learn-requires-clause-fits
learn-requires-clause-fits c = new_fits c.args.items.now c.args.sizes.now c.args.arena.now.entries.items c.made.new.arena.entries.items c.args.tables.now c.args.others.now c.in-Ok.ts.items c.deref.result.now c.args.passings.now c.dereferences-passed.result c.args.op.now c.in-Ok-made.made c.requires.fits c.in-Ok.ensures c.deref.ensures.value c.dereferences-passed.ensures c.in-Ok-made.ensures

pub learn-requires-clause-term : goal.learn-requires-clause-term
learn-requires-clause-term c = new_term c.args.items.now c.args.sizes.now c.args.arena.now.entries.items c.made.new.arena.entries.items c.args.tables.now c.args.others.now c.in-Ok.ts.items c.deref.result.now c.args.passings.now c.dereferences-passed.result c.args.op.now c.in-Ok-made.made c.requires.fits c.in-Ok.ensures c.deref.ensures.value c.dereferences-passed.ensures c.in-Ok-made.ensures c.in-Some.entry c.in-Some.is

pub returns-in-Some : goal.returns-in-Some
returns-in-Some c = IfOk-weaker c.learn.result _ _ (λ g h. equals_learnt c.args.items.now c.args.sizes.now c.args.arena.now.entries.items c.made.new.arena.entries.items c.args.tables.now c.args.others.now c.in-Ok.ts.items c.deref.result.now c.args.passings.now c.dereferences-passed.result c.args.op.now c.in-Ok-made.made c.requires.fits c.in-Ok.ensures c.deref.ensures.value c.dereferences-passed.ensures c.in-Ok-made.ensures c.args.of c.in-Some.entry c.learn.new.tables g c.in-Some.is h.0 h.1) (both_ok c.learn.result _ _ c.learn.ensures.step c.learn.ensures.fits)

pub returns-in-Ok-made : goal.returns-in-Ok-made
returns-in-Ok-made c = equals_none c.args.items.now c.args.sizes.now c.args.arena.now.entries.items c.made.new.arena.entries.items c.args.tables.now c.args.others.now c.in-Ok.ts.items c.deref.result.now c.args.passings.now c.dereferences-passed.result c.args.op.now c.in-Ok-made.made c.requires.fits c.in-Ok.ensures c.deref.ensures.value c.dereferences-passed.ensures c.in-Ok-made.ensures c.args.of c.in-None.is
