use Rattle.std.proofs.Common.{◌∙◌}
use Rattle.std.proofs.lemmas.Result.{IfOk-weaker}
use Rattle.rx_typeck_solver.specs.Tabled.{state_of}
use Rattle.rx_typeck_solver.specs.Stepping.{known}
use Rattle.rx_typeck_solver.proofs.Lacking.{fact_equals_reads, fact_behind_reads, fact_passes_reads}
use Rattle.rx_typeck_solver.proofs.Taking.{both_ok, stepped_as, take_equals, take_integer, take_behind, take_passes, take_never}
use Rattle.rx_typeck_solver.proofs.take.take.Goals as goal

pub equals-requires-clause-others : goal.equals-requires-clause-others
equals-requires-clause-others c = (fact_equals_reads (known c.args.items.now c.args.sizes.now) c.args.fact.now c.in-Equals.of c.in-Equals.op c.in-Equals.others c.in-Equals.passings (state_of c.args.arena.now.entries.items c.args.tables.now) c.in-Equals.is c.requires.reads).0

pub equals-requires-clause-passings : goal.equals-requires-clause-passings
equals-requires-clause-passings c = (fact_equals_reads (known c.args.items.now c.args.sizes.now) c.args.fact.now c.in-Equals.of c.in-Equals.op c.in-Equals.others c.in-Equals.passings (state_of c.args.arena.now.entries.items c.args.tables.now) c.in-Equals.is c.requires.reads).1

pub integer_behind-requires-clause-known : goal.integer_behind-requires-clause-known
integer_behind-requires-clause-known c = fact_behind_reads (known c.args.items.now c.args.sizes.now) c.args.fact.now c.in-IntegerBehind.node c.in-IntegerBehind.kinds (state_of c.args.arena.now.entries.items c.args.tables.now) c.in-IntegerBehind.is c.requires.reads

pub passes-requires-clause-of : goal.passes-requires-clause-of
passes-requires-clause-of c = (fact_passes_reads (known c.args.items.now c.args.sizes.now) c.args.fact.now c.in-Passes.test c.in-Passes.of c.in-Passes.pattern c.in-Passes.place (state_of c.args.arena.now.entries.items c.args.tables.now) c.in-Passes.is c.requires.reads).0

pub passes-requires-clause-pattern : goal.passes-requires-clause-pattern
passes-requires-clause-pattern c = (fact_passes_reads (known c.args.items.now c.args.sizes.now) c.args.fact.now c.in-Passes.test c.in-Passes.of c.in-Passes.pattern c.in-Passes.place (state_of c.args.arena.now.entries.items c.args.tables.now) c.in-Passes.is c.requires.reads).1

pub passes-requires-clause-place : goal.passes-requires-clause-place
passes-requires-clause-place c = (fact_passes_reads (known c.args.items.now c.args.sizes.now) c.args.fact.now c.in-Passes.test c.in-Passes.of c.in-Passes.pattern c.in-Passes.place (state_of c.args.arena.now.entries.items c.args.tables.now) c.in-Passes.is c.requires.reads).2

pub returns-in-Equals : goal.returns-in-Equals
returns-in-Equals c = IfOk-weaker c.equals.result _ _ (λ g h. stepped_as c.args.sizes.now c.equals.new.arena.entries.items c.equals.new.tables _ _ g (take_equals (known c.args.items.now c.args.sizes.now) c.args.fact.now c.in-Equals.of c.in-Equals.op c.in-Equals.others c.in-Equals.passings (state_of c.args.arena.now.entries.items c.args.tables.now) c.in-Equals.is) h) c.equals.ensures

pub returns-in-Integer : goal.returns-in-Integer
returns-in-Integer c = IfOk-weaker c.integer.result _ _ (λ g h. record { step = take_integer (known c.args.items.now c.args.sizes.now) c.args.fact.now c.in-Integer.node c.in-Integer.kinds (state_of c.args.arena.now.entries.items c.args.tables.now) c.in-Integer.is ∙ h.0; fits = h.1.0; sized = h.1.1 c.args.sizes.now c.requires.sized })
    (both_ok c.integer.result _ _ c.integer.ensures.step (both_ok c.integer.result _ _ c.integer.ensures.fits c.integer.ensures.sized))

pub returns-in-IntegerBehind : goal.returns-in-IntegerBehind
returns-in-IntegerBehind c = record { step = take_behind (known c.args.items.now c.args.sizes.now) c.args.fact.now c.in-IntegerBehind.node c.in-IntegerBehind.kinds (state_of c.args.arena.now.entries.items c.args.tables.now) c.in-IntegerBehind.is ∙ c.integer_behind.ensures.step; fits = c.integer_behind.ensures.fits; sized = c.requires.sized }

pub returns-in-Passes : goal.returns-in-Passes
returns-in-Passes c = IfOk-weaker c.passes.result _ _ (λ g h. stepped_as c.args.sizes.now c.args.arena.now.entries.items c.args.tables.now _ _ g (take_passes (known c.args.items.now c.args.sizes.now) c.args.fact.now c.in-Passes.test c.in-Passes.of c.in-Passes.pattern c.in-Passes.place (state_of c.args.arena.now.entries.items c.args.tables.now) c.in-Passes.is) h) c.passes.ensures

pub returns-in-Never : goal.returns-in-Never
returns-in-Never c = record { step = take_never (known c.args.items.now c.args.sizes.now) c.args.fact.now (state_of c.args.arena.now.entries.items c.args.tables.now) c.in-Never.is; fits = c.requires.fits; sized = c.requires.sized }
