use Rattle.rx_typeck_solver.specs.Stepping.{known}
use Rattle.rx_typeck_solver.specs.Solving.{task_of}
use Rattle.rx_typeck_solver.proofs.Ending.{fresh_fits, fresh_reads, flat_fits, literal_asked, class_asked, unclear_is, failed_is, ended_all, literal_unclear, class_unclear, is_solved}
use Rattle.rx_typeck_solver.proofs.solver.solve.Goals as goal

pub take_demands-requires-clause-fits : goal.take_demands-requires-clause-fits
take_demands-requires-clause-fits c = fresh_fits c.new-arena.result.entries.items c.new-tables.result (record { entries = c.new-arena.ensures; variables = c.new-tables.ensures.variables; nodes = c.new-tables.ensures.nodes; expected = c.new-tables.ensures.expected; parents = c.new-tables.ensures.parents; sets = c.new-tables.ensures.sets })

pub take_demands-requires-clause-reads : goal.take_demands-requires-clause-reads
take_demands-requires-clause-reads c = fresh_reads (known c.args.decls.now.items c.args.sizes.now) (task_of c.args.demands.now c.args.literals.now) c.new-arena.result.entries.items c.new-tables.result c.requires (record { entries = c.new-arena.ensures; variables = c.new-tables.ensures.variables; nodes = c.new-tables.ensures.nodes; expected = c.new-tables.ensures.expected; parents = c.new-tables.ensures.parents; sets = c.new-tables.ensures.sets })

pub returns-in-Some-clause-unsolved : goal.returns-in-Some-clause-unsolved
returns-in-Some-clause-unsolved c = failed_is (known c.args.decls.now.items c.args.sizes.now) (task_of c.args.demands.now c.args.literals.now) c.args.sizes.now c.new-arena.result.entries.items c.take_demands.new.arena.entries.items c.new-tables.result c.take_demands.new.tables c.in-Some.failure c.in-Ok.failed (record { entries = c.new-arena.ensures; variables = c.new-tables.ensures.variables; nodes = c.new-tables.ensures.nodes; expected = c.new-tables.ensures.expected; parents = c.new-tables.ensures.parents; sets = c.new-tables.ensures.sets }) c.in-Ok.ensures c.in-Some.is

pub unclear_literal-requires-clause-fits : goal.unclear_literal-requires-clause-fits
unclear_literal-requires-clause-fits c = flat_fits c.take_demands.new.arena.entries.items c.take_demands.new.tables c.flatten.new.parents c.in-Ok.ensures.fits c.flatten.ensures.falling c.flatten.ensures.as_long

pub unclear_class-requires-clause-fits : goal.unclear_class-requires-clause-fits
unclear_class-requires-clause-fits c = flat_fits c.take_demands.new.arena.entries.items c.take_demands.new.tables c.flatten.new.parents c.in-Ok.ensures.fits c.flatten.ensures.falling c.flatten.ensures.as_long

pub unclear-requires : goal.unclear-requires
unclear-requires c = literal_asked (known c.args.decls.now.items c.args.sizes.now) (task_of c.args.demands.now c.args.literals.now) c.requires (record { arena = c.take_demands.new.arena; tables = record c.take_demands.new.tables { classes = record { parents = c.flatten.new.parents; sets = c.take_demands.new.tables.classes.sets } } }) (ended_all (known c.args.decls.now.items c.args.sizes.now) (task_of c.args.demands.now c.args.literals.now) c.args.sizes.now c.new-arena.result.entries.items c.take_demands.new.arena.entries.items c.new-tables.result c.take_demands.new.tables c.in-Ok.failed c.flatten.new.parents (record { entries = c.new-arena.ensures; variables = c.new-tables.ensures.variables; nodes = c.new-tables.ensures.nodes; expected = c.new-tables.ensures.expected; parents = c.new-tables.ensures.parents; sets = c.new-tables.ensures.sets }) c.in-Ok.ensures c.in_default.is c.flatten.ensures.same) c.in-Some-unclear_literal.node c.unclear_literal.result c.unclear_literal.ensures c.in-Some-unclear_literal.is

pub unclear-requires-in-Some-open : goal.unclear-requires-in-Some-open
unclear-requires-in-Some-open c = class_asked (known c.args.decls.now.items c.args.sizes.now) (task_of c.args.demands.now c.args.literals.now) c.requires (record { arena = c.take_demands.new.arena; tables = record c.take_demands.new.tables { classes = record { parents = c.flatten.new.parents; sets = c.take_demands.new.tables.classes.sets } } }) (ended_all (known c.args.decls.now.items c.args.sizes.now) (task_of c.args.demands.now c.args.literals.now) c.args.sizes.now c.new-arena.result.entries.items c.take_demands.new.arena.entries.items c.new-tables.result c.take_demands.new.tables c.in-Ok.failed c.flatten.new.parents (record { entries = c.new-arena.ensures; variables = c.new-tables.ensures.variables; nodes = c.new-tables.ensures.nodes; expected = c.new-tables.ensures.expected; parents = c.new-tables.ensures.parents; sets = c.new-tables.ensures.sets }) c.in-Ok.ensures c.in_default.is c.flatten.ensures.same) c.in-Some-open.node c.in-Ok-unclear_class.open c.in-Ok-unclear_class.ensures c.in-Some-open.is

pub returns-in-Some-unclear_literal-clause-unsolved : goal.returns-in-Some-unclear_literal-clause-unsolved
returns-in-Some-unclear_literal-clause-unsolved c = unclear_is (known c.args.decls.now.items c.args.sizes.now) (task_of c.args.demands.now c.args.literals.now) c.in-Some-unclear_literal.node c.unclear.result c.unclear.ensures (literal_unclear (known c.args.decls.now.items c.args.sizes.now) (task_of c.args.demands.now c.args.literals.now) c.requires (record { arena = c.take_demands.new.arena; tables = record c.take_demands.new.tables { classes = record { parents = c.flatten.new.parents; sets = c.take_demands.new.tables.classes.sets } } }) (ended_all (known c.args.decls.now.items c.args.sizes.now) (task_of c.args.demands.now c.args.literals.now) c.args.sizes.now c.new-arena.result.entries.items c.take_demands.new.arena.entries.items c.new-tables.result c.take_demands.new.tables c.in-Ok.failed c.flatten.new.parents (record { entries = c.new-arena.ensures; variables = c.new-tables.ensures.variables; nodes = c.new-tables.ensures.nodes; expected = c.new-tables.ensures.expected; parents = c.new-tables.ensures.parents; sets = c.new-tables.ensures.sets }) c.in-Ok.ensures c.in_default.is c.flatten.ensures.same) c.in-Some-unclear_literal.node c.unclear_literal.result c.unclear_literal.ensures c.in-Some-unclear_literal.is)

pub returns-in-Some-open-clause-unsolved : goal.returns-in-Some-open-clause-unsolved
returns-in-Some-open-clause-unsolved c = unclear_is (known c.args.decls.now.items c.args.sizes.now) (task_of c.args.demands.now c.args.literals.now) c.in-Some-open.node c.unclear-in-Some-open.result c.unclear-in-Some-open.ensures (class_unclear (known c.args.decls.now.items c.args.sizes.now) (task_of c.args.demands.now c.args.literals.now) c.requires (record { arena = c.take_demands.new.arena; tables = record c.take_demands.new.tables { classes = record { parents = c.flatten.new.parents; sets = c.take_demands.new.tables.classes.sets } } }) (ended_all (known c.args.decls.now.items c.args.sizes.now) (task_of c.args.demands.now c.args.literals.now) c.args.sizes.now c.new-arena.result.entries.items c.take_demands.new.arena.entries.items c.new-tables.result c.take_demands.new.tables c.in-Ok.failed c.flatten.new.parents (record { entries = c.new-arena.ensures; variables = c.new-tables.ensures.variables; nodes = c.new-tables.ensures.nodes; expected = c.new-tables.ensures.expected; parents = c.new-tables.ensures.parents; sets = c.new-tables.ensures.sets }) c.in-Ok.ensures c.in_default.is c.flatten.ensures.same) c.in-Some-open.node c.unclear_literal.result c.in-Ok-unclear_class.open c.unclear_literal.ensures c.in_default-unclear_literal.is c.in-Ok-unclear_class.ensures c.in-Some-open.is)

pub returns-in-None-clause-solved : goal.returns-in-None-clause-solved
returns-in-None-clause-solved c = is_solved (known c.args.decls.now.items c.args.sizes.now) (task_of c.args.demands.now c.args.literals.now) c.requires (record { arena = c.take_demands.new.arena; tables = record c.take_demands.new.tables { classes = record { parents = c.flatten.new.parents; sets = c.take_demands.new.tables.classes.sets } } }) (ended_all (known c.args.decls.now.items c.args.sizes.now) (task_of c.args.demands.now c.args.literals.now) c.args.sizes.now c.new-arena.result.entries.items c.take_demands.new.arena.entries.items c.new-tables.result c.take_demands.new.tables c.in-Ok.failed c.flatten.new.parents (record { entries = c.new-arena.ensures; variables = c.new-tables.ensures.variables; nodes = c.new-tables.ensures.nodes; expected = c.new-tables.ensures.expected; parents = c.new-tables.ensures.parents; sets = c.new-tables.ensures.sets }) c.in-Ok.ensures c.in_default.is c.flatten.ensures.same) c.unclear_literal.result c.in-Ok-unclear_class.open c.unclear_literal.ensures c.in_default-unclear_literal.is c.in-Ok-unclear_class.ensures c.in-None.is (record { fits = flat_fits c.take_demands.new.arena.entries.items c.take_demands.new.tables c.flatten.new.parents c.in-Ok.ensures.fits c.flatten.ensures.falling c.flatten.ensures.as_long; flat = c.flatten.ensures.flat })
