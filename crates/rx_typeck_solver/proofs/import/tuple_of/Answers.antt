use Rattle.std.proofs.Common.{ap}
use Rattle.std.proofs.lemmas.Result.{IfOk-weaker}
use Rattle.rx_typed.specs.Types.{tuple_of}
use Rattle.rx_typeck_solver.specs.Cells.{one}
use Rattle.rx_typeck_solver.proofs.Growth.{grown_over, grown_list}
use Rattle.rx_typeck_solver.proofs.import.tuple_of.Goals as goal

pub returns-in-Ok : goal.returns-in-Ok
returns-in-Ok c = IfOk-weaker c.tuple.result _ _ (λ i h. let l = grown_list c.args.sizes.now c.args.arena.now.entries.items c.listed.new.arena.entries.items c.in-Ok.list _ c.in-Ok.ensures in
    grown_over c.args.sizes.now c.args.arena.now.entries.items c.listed.new.arena.entries.items c.tuple.new.self.entries.items i c.in-Ok.list _ _ _ c.requires.formed c.in-Ok.ensures (λ n b. h c.args.sizes.now n l.0 b) (ap (λ us. one (tuple_of us)) l.1)) c.tuple.ensures
