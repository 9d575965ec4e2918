use Rattle.std.proofs.Common.{refl, sym, ◌∙◌}
use Rattle.std.specs.Vec.{with_item}
use Rattle.rx_typeck_solver.proofs.States.{freshened, fresh_sized, fresh_fits, fresh_goes, same_index}
use Rattle.rx_typeck_solver.proofs.tables.fresh.Goals as goal

pub returns-clause-step : goal.returns-clause-step
returns-clause-step c = fresh_goes c.args.arena.now.entries.items c.kind_of.new.self.entries.items c.args.tables.now c.put.new.self (record c.put.new.self { classes = record { parents = c.put.new.self.classes.parents; sets = with_item c.put.new.self.classes.sets c.args.node c.args.kinds } }) c.reach.new.classes c.args.node c.in-Ok-kind_of.entry c.args.kinds c.requires.fits (freshened c.requires.sizable.0 c.args.arena.now.entries.items c.kind_of.new.self.entries.items c.args.tables.now c.put.new.self c.reach.new.classes c.args.node c.in-Ok-kind_of.entry c.requires.fits c.requires.sizable.1 (record { classed = c.in-Ok.ensures.classed; reps = c.in-Ok.ensures.reps; sets = c.in-Ok.ensures.sets; longer = c.in-Ok.ensures.longer }) c.in-Ok.ensures.within c.in-Ok-kind_of.ensures c.in-Ok-put.ensures.here c.in-Ok-put.ensures.other c.in-Ok-put.ensures.classes) (sym c.some_kind.ensures ∙ c.if-not-some_kind.false) (λ y. same_index c.put.new.self _ y) refl refl

pub returns-clause-fits : goal.returns-clause-fits
returns-clause-fits c = fresh_fits c.args.arena.now.entries.items c.kind_of.new.self.entries.items c.args.tables.now c.put.new.self (record c.put.new.self { classes = record { parents = c.put.new.self.classes.parents; sets = with_item c.put.new.self.classes.sets c.args.node c.args.kinds } }) c.reach.new.classes c.args.node c.in-Ok-kind_of.entry c.args.kinds c.requires.fits (freshened c.requires.sizable.0 c.args.arena.now.entries.items c.kind_of.new.self.entries.items c.args.tables.now c.put.new.self c.reach.new.classes c.args.node c.in-Ok-kind_of.entry c.requires.fits c.requires.sizable.1 (record { classed = c.in-Ok.ensures.classed; reps = c.in-Ok.ensures.reps; sets = c.in-Ok.ensures.sets; longer = c.in-Ok.ensures.longer }) c.in-Ok.ensures.within c.in-Ok-kind_of.ensures c.in-Ok-put.ensures.here c.in-Ok-put.ensures.other c.in-Ok-put.ensures.classes) (sym c.some_kind.ensures ∙ c.if-not-some_kind.false) (λ y. same_index c.put.new.self _ y) refl refl (c.in-Ok-put.ensures.trimmed c.requires.fits.trimmed)

pub returns-clause-sized : goal.returns-clause-sized
returns-clause-sized c = fresh_sized c.args.arena.now.entries.items c.kind_of.new.self.entries.items c.args.tables.now c.reach.new.classes c.args.node c.in-Ok-kind_of.entry c.requires.fits (record { classed = c.in-Ok.ensures.classed; reps = c.in-Ok.ensures.reps; sets = c.in-Ok.ensures.sets; longer = c.in-Ok.ensures.longer }) c.in-Ok.ensures.within c.in-Ok-kind_of.ensures
