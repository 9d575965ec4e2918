-- The bounds are kept while the program is made.
use Rattle.std.proofs.Common.{◌≡◌, List, Some as SomeOf}
use Rattle.rx_core.specs.declared.types.Bound.{Bound}
use Rattle.rx_lower.specs.Functions.{function_at}
use Rattle.rx_typeck_typed.specs.declared.typed.TypedFn.{TypedFn as FnOf}
use Rattle.rx_repair.specs.Lacking.{Lacks, Needs}
use Rattle.rx_repair.proofs.Outcomes.{if_ok}
use Rattle.rx_repair.proofs.repairing.repair.Goals as goal

pub returns-clause-lacks : goal.returns-clause-lacks
returns-clause-lacks c =
    if_ok (λ (bs : List Bound). (f : FnOf) → function_at c.args.front.now.typed.functions c.args.new_fn ≡ SomeOf f → Lacks c.args.front.now.typed.decls.items f bs)
    c.least_bounds.result c.in_ok-bounds.bounds c.in_ok-program.bounds c.in_ok-bounds.ensures.0 c.in_ok-program.ensures.1 c.least_bounds.ensures.lacks

pub returns-clause-needs : goal.returns-clause-needs
returns-clause-needs c =
    if_ok (λ (bs : List Bound). (f : FnOf) → function_at c.args.front.now.typed.functions c.args.new_fn ≡ SomeOf f → Needs c.args.front.now.typed.decls.items f bs)
    c.least_bounds.result c.in_ok-bounds.bounds c.in_ok-program.bounds c.in_ok-bounds.ensures.0 c.in_ok-program.ensures.1 c.least_bounds.ensures.needs
