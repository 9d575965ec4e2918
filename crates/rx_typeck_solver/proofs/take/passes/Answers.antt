use Rattle.std.proofs.Common.{sym, subst}
use Rattle.rx_typeck_solver.specs.Reading.{AllTerms}
use Rattle.rx_typeck_solver.proofs.Lacking.{entries_known}
use Rattle.rx_typeck_solver.proofs.Taking.{entries_terms, passes_tested}
use Rattle.rx_typeck_solver.proofs.take.passes.Goals as goal

pub entries-requires : goal.entries-requires
entries-requires c = entries_known c.args.arena.now.entries.items c.args.tables.now c.args.of.now c.requires.of

pub holds-requires-clause-terms : goal.holds-requires-clause-terms
holds-requires-clause-terms c = subst (λ l. AllTerms c.args.arena.now.entries.items l) (sym c.deref.ensures.value) (entries_terms c.args.arena.now.entries.items c.args.tables.now c.args.of.now c.in-Ok.ts.items c.requires.fits c.in-Ok.ensures).0

pub returns : goal.returns
returns c = passes_tested c.args.items.now c.args.sizes.now c.args.arena.now.entries.items c.args.tables.now c.args.of.now c.in-Ok.ts.items c.deref.result.now c.args.pattern.now c.args.place.now c.dereferences-pattern.result c.dereferences-place.result c.args.test.now c.holds.result c.requires.fits c.requires.sized c.in-Ok.ensures c.deref.ensures.value c.dereferences-pattern.ensures c.dereferences-place.ensures c.holds.ensures
