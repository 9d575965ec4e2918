-- A run that is not refused has a walk to each of its exits, and through its pieces to its end; and one that leaves it by each `break` and `continue`.
use Rattle.std.proofs.Common.{ℕ, Bool, true, false, List, Some, refl, subst}
use Rattle.rx_lower_walks.specs.Orders.{Order, exit}
use Rattle.rx_lower_walks.specs.Walks.{leaves, stopped, Walk, Among}
use Rattle.rx_lower_walks.specs.Actions.{Action}
use Rattle.rx_exits_plan.specs.Points.{Exit, next, breaks, continues, jump_exit}
use Rattle.rx_exits_plan.specs.Exits.{exits}
use Rattle.rx_exits_plan.specs.Asked.{Asked}
use Rattle.rx_exits_plan.specs.Plan.{Plan}
use Rattle.rx_exits_plan.specs.Unreachable.{At, Unreachable}
use Rattle.rx_engine_related.specs.ByForm.{IsItself, is_itself, is_none}
use Rattle.rx_engine_related.specs.Had.{Had}
use Rattle.rx_engine_related.proofs.Loops.{run_apart, round_it}
use Rattle.rx_engine_initial.specs.Matching.{fill}
use Rattle.rx_engine_initial_calls.specs.GoneThrough.{IsGoneThrough}
use Rattle.rx_engine_initial_calls.specs.RunPieces.{run_pieces}
use Rattle.rx_engine_initial_calls.specs.MatchOf.{HasWays}
use Rattle.rx_engine_initial_calls.proofs.Reached.{reached}
use Rattle.rx_engine_initial_calls.proofs.Reaching.{some_goes_through, some_goes_to_end}
use Rattle.rx_engine_initial_calls.proofs.Onward.{some_leaves_so}

pub has_ways : (A : Asked) (muts : List Bool) (k : Plan) → Had A muts k → ((q : At) → Unreachable A q → ⊥) → (r : Order) → HasWays A k (run_pieces A k) (fill (run_pieces A k) r)
has_ways A muts k had f r = record {
  through = λ e i. let z = some_goes_through A k had.short had.unmarked had.sits had.one_block e (reached A f e (there e i)) r in (z.0, stopped, z.1, z.2);
  to_end = λ i. some_goes_to_end A k had.short had.unmarked had.sits had.one_block (reached A f next (there next i));
}
  where
    there : (e : Exit) → Among e k.exits → Among e (exits A.run A.home)
    there e i = subst (λ (es : List Exit). Among e es) had.plan.exits i

pub leaves_so : (A : Asked) (muts : List Bool) (k : Plan) → Had A muts k → IsItself (Some (Some A.function)) → ((q : At) → Unreachable A q → ⊥) → (l : ℕ) (again : Bool) → Among (jump_exit l again) k.exits → (q : Order)
    → (n : ℕ) × (u : List Action) × Walk (fill (run_pieces A k) q) u (leaves (exit n l again)) × IsGoneThrough A k (jump_exit l again) u
leaves_so A muts k had (is_none n) f l again i q = absurd n
leaves_so A muts k had (is_itself self) f l again i q =
    some_leaves_so A k had.short had.unmarked had.sits had.one_block l again (run_apart A.function self A.run A.home had.sits.block l (round again there)) (reached A f (jump_exit l again) there) q
  where
    there : Among (jump_exit l again) (exits A.run A.home)
    there = subst (λ (es : List Exit). Among (jump_exit l again) es) had.plan.exits i

    round : (b : Bool) → Among (jump_exit l b) (exits A.run A.home) → Among l A.home.around.loops
    round true j = round_it A.run A.home (continues l) l refl j
    round false j = round_it A.run A.home (breaks l) l refl j
