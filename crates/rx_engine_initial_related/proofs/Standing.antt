-- So the call matches the run.
use Rattle.std.proofs.Common.{◌≡◌, ℕ, Bool, List, sym, subst}
use Rattle.rx_typed.specs.Tree as tree
use Rattle.rx_typed.specs.Tree.{Temporary, Mark, Parameter, Operands, Body}
use Rattle.rx_typed_declarations.specs.Sizes.{Sized}
use Rattle.rx_lower_walks.specs.Orders.{Order, order_body}
use Rattle.rx_lower_walks.specs.Walks.{Among}
use Rattle.rx_exits_plan.specs.Points.{next}
use Rattle.rx_exits_plan.specs.Asked.{Asked}
use Rattle.rx_exits_plan.specs.Plan.{Plan}
use Rattle.rx_exits_plan.specs.Unreachable.{At, Unreachable}
use Rattle.rx_modes_policy.specs.declared.uses.Mode.{Mode}
use Rattle.rx_meaning_keeping.proofs.Parts.{parted}
use Rattle.rx_engine_simulation.specs.Sights.{Renaming}
use Rattle.rx_engine_related.specs.Given.{EntersWith}
use Rattle.rx_engine_related.specs.Handed.{Handed}
use Rattle.rx_engine_related.specs.Had.{Had}
use Rattle.rx_engine_initial.specs.Matching.{fill, Matches}
use Rattle.rx_engine_initial.specs.Variables.{Sides, KnownVariables}
use Rattle.rx_engine_initial.specs.Copies.{world}
use Rattle.rx_engine_initial.specs.Planned.{IsTextOf}
use Rattle.rx_engine_initial_calls.specs.RunPieces.{run_pieces}
use Rattle.rx_engine_initial_calls.proofs.Calls.{call_matches}
use Rattle.rx_engine_initial_calls.proofs.Ways.{has_ways}
use Rattle.rx_engine_initial_forms.specs.Agreeing.{Agrees}
use Rattle.rx_engine_initial_related.specs.CallerAsked.{EntersSo, CallerAsked}
use Rattle.rx_engine_initial_related.proofs.Called.{call_stands}
use Rattle.rx_engine_initial_related.proofs.NoFails.{body_stays}

pub call_matches_run : (S : Sides) (A : Asked) (k : Plan) → Had A S.muts_there k → ((q : At) → Unreachable A q → ⊥) → Sized S.frame.declared S.frame.sizes → IsTextOf S A k → Among next k.exits
    → {again : Bool} {modes : List Mode} {R Ra Rb Rn : Renaming} {es : Operands} {ps : List Parameter} {ls : List (ℕ × ℕ)} {mc : Mark} {i : ℕ} {f : Body → Body}
    (given : EntersWith again k modes R es ps ls Ra) → EntersSo A given → Handed A S.muts_there k R Rb (tree.call mc i es) Rn f → CallerAsked S A k R Rn → (K : KnownVariables S) → Agrees S R K
    → (T : KnownVariables S) × Agrees S Rn T × (T.loops ≡ K.loops)
    × ((n : ℕ) (b : Body) (d : Temporary) (r : Order) → Matches (world S) T (order_body b n d) r → Matches (world S) K (order_body (f b) n d) (fill (run_pieces A k) r))
call_matches_run S A k had reached sized text nexts given so handed asked K g =
    let z = call_stands S A k had.plan nexts given so handed asked K g in (
      z.0,
      z.1,
      z.2,
      λ n b d r m.
          let w = z.3 n in
          let y = (has_ways A S.muts_there k had reached r).to_end nexts in
          subst (λ s. Matches (world S) K s (fill (run_pieces A k) r)) (sym (w.1 b d))
          (call_matches A k had.plan S had.accepted text had.whole had.passed (parted S.frame sized) K z.0 w.0 (run_pieces A k) (order_body b n d) r nexts w.2 y.0 y.1 y.2 (body_stays b n d) m),
    )
