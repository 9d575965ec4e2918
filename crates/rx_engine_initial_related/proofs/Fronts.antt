-- The block of the run: what stands in front of the run matches, so the block does where the call matches the run.
use Rattle.std.proofs.Common.{ℕ, List, sym, subst}
use Rattle.rx_typed.specs.Tree.{Temporary, Body, ends, temporary_of}
use Rattle.rx_lower_walks.specs.Matching.{Binding}
use Rattle.rx_lower_walks.specs.Actions.{Subject}
use Rattle.rx_lower_walks.specs.Orders.{Order, order_body}
use Rattle.rx_exits_plan.specs.Blocks.{Statement, before, tail}
use Rattle.rx_exits_plan.specs.Runs.{in_front, behind}
use Rattle.rx_exits_plan.specs.Marked.{ended_tail, marked_body}
use Rattle.rx_exits_plan.specs.Asked.{Asked}
use Rattle.rx_exits_plan.specs.Plan.{Plan}
use Rattle.rx_engine_initial.specs.Matching.{Piece, fill, Matches, is_then, is_act, is_beginning, is_ending}
use Rattle.rx_engine_initial.specs.Variables.{Sides, both_end, KnownVariables}
use Rattle.rx_engine_initial.specs.Copies.{writes, begins_so, world}
use Rattle.rx_engine_initial_calls.specs.RunPieces.{declaring_pieces, binding_pieces, pieces_of, run_pieces}
use Rattle.rx_engine_initial_calls.proofs.GoingThrough.{body_filled, run_filled}
use Rattle.rx_engine_initial_forms.specs.Binders.{AlikeDeclared, none_declared, declares_one, AlikeBindings, no_binding, binding_and}
use Rattle.rx_engine_initial_forms.proofs.Forms.{exp_matches, matched_matches, one_there, taken_match}
use Rattle.rx_engine_initial_related.specs.FrontAlike.{FrontAlike, nothing_in_front, does_both, begins_both, binds_both}

module _ (S : Sides) where
  declared_front : {R T : KnownVariables S} {xs ys : List ℕ} → AlikeDeclared S R xs ys T → (m n s t : ℕ) (H K : List Piece) (q r : Order) → Matches (world S) T (fill H q) (fill K r)
      → Matches (world S) R (fill (declaring_pieces m s xs H) q) (fill (declaring_pieces n t ys K) r)
  declared_front none_declared m n s t H K q r h = h
  declared_front (declares_one o d) m n s t H K q r h = is_beginning (begins_so o.variables o.loops) (is_ending (one_there S o) (declared_front d m n s t H K q r h))

  bound_front : {X Y : Subject} {R T : KnownVariables S} {bs cs : List Binding} → AlikeBindings S X Y R bs cs T → (m n : ℕ) (H K : List Piece) (q r : Order) → Matches (world S) T (fill H q) (fill K r)
      → Matches (world S) R (fill (binding_pieces m X bs H) q) (fill (binding_pieces n Y cs K) r)
  bound_front no_binding m n H K q r h = h
  bound_front (binding_and {b = c} {c = d} t o z) m n H K q r h = is_then (taken_match S t c.node d.node) (is_beginning (begins_so o.variables o.loops)
      (is_then (is_act (writes (one_there S o) both_end)) (is_ending (one_there S o) (bound_front z m n H K q r h))))

  pub front_matches : {R T : KnownVariables S} {ss ts : List Statement} → FrontAlike S R ss ts T → (m n : ℕ) (q r : Order) → Matches (world S) T q r → Matches (world S) R (fill (pieces_of m ss) q) (fill (pieces_of n ts) r)
  front_matches nothing_in_front m n q r h = h
  front_matches (does_both {e = e} {f = f} a l) m n q r h = is_then (exp_matches S a (temporary_of e) (temporary_of f)) (front_matches l m n q r h)
  front_matches (begins_both {m = s} {n = t} {ss = ss} {ts = ts} d l) m n q r h = declared_front d m n s t (pieces_of m ss) (pieces_of n ts) q r (front_matches l m n q r h)
  front_matches (binds_both {ss = ss} {ts = ts} c b l) m n q r h = is_then (matched_matches S c) (bound_front b m n (pieces_of m ss) (pieces_of n ts) q r (front_matches l m n q r h))

pub block_matches : (S : Sides) (A : Asked) (k : Plan) (R T : KnownVariables S) (ss : List Statement) → FrontAlike S R ss (in_front A.run A.home.body) T → (b : Body) (m : ℕ) (d t : Temporary)
    → Matches (world S) T (order_body b m d) (fill (run_pieces A k) (order_body (before (behind A.run A.home.body) (ends (ended_tail A.run.tail A.run.block A.home.around.loops (tail A.home.body)))) A.run.block t))
    → Matches (world S) R (order_body (before ss b) m d) (order_body (marked_body A.run A.home.around.loops k.params A.home.body) A.run.block t)
block_matches S A k R T ss front b m d t h =
    subst (λ s. Matches (world S) R s (order_body (marked_body A.run A.home.around.loops k.params A.home.body) A.run.block t)) (sym (body_filled m ss b d))
    (subst (λ s. Matches (world S) R (fill (pieces_of m ss) (order_body b m d)) s) (sym (run_filled A k t)) (front_matches S front m A.run.block (order_body b m d) _ h))
