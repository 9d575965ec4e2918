-- In a function that is like itself, the marks of each exit of a run but `return` lead to one place of the function with marks.
use Rattle.std.proofs.Common.{◌≡◌, ◌≢◌, ◌≤◌, ℕ, if◌then◌else◌, Bool, true, false, List, [], ◌∷◌, ◌++◌, refl, subst, Some}
use Rattle.rx_typed.specs.Tree.{temporary_of, Function}
use Rattle.rx_lower_walks.specs.Orders.{order, order_function}
use Rattle.rx_lower_walks.specs.Walks.{Among}
use Rattle.rx_exits_plan.specs.Blocks.{tail}
use Rattle.rx_exits_plan.specs.Spots.{a_block, spots_of_function}
use Rattle.rx_exits_plan.specs.Runs.{Run, Home, Sits, inside}
use Rattle.rx_exits_plan.specs.Points.{Exit, next, breaks, continues, returns, leaves, jump_exit}
use Rattle.rx_exits_plan.specs.Marked.{is_among, shown}
use Rattle.rx_exits_plan.specs.Coming.{HasNoMark}
use Rattle.rx_exits_plan.specs.Asked.{Asked}
use Rattle.rx_exits_plan.specs.Plan.{Plan, IsPlan}
use Rattle.rx_engine_simulation.specs.Openings.{no_openings}
use Rattle.rx_engine_simulation.specs.Marking.{without_turns}
use Rattle.rx_engine_related.specs.AboutRun.{text_of}
use Rattle.rx_engine_related.specs.ByForm.{RelatedFunction, IsItself, is_itself, is_none}
use Rattle.rx_engine_related.specs.OneSite.{blocks_at}
use Rattle.rx_engine_related.specs.OnePlace.{LeadsToOnePlace, loops_in, loops_of, loops_of_run}
use Rattle.rx_engine_related.proofs.Recombining.{sole_leads}
use Rattle.rx_engine_related.proofs.Entry.{marked_end_stands_once}
use Rattle.rx_engine_related.proofs.Jumps.{among_both}
use Rattle.rx_engine_related.proofs.MarkedJumps.{marked_jumps_meet}
use Rattle.rx_engine_related.proofs.Loops.{NotIn, not_both, tail_apart, round_it}

pub apart_from_run : (f : Function) → RelatedFunction (λ f. f) no_openings without_turns [] f f → (r : Run) (h : Home) → Among (a_block h.around r.block h.body) (spots_of_function f)
    → (l : ℕ) → Among l h.around.loops → is_among l (loops_of_run r h.body) ≡ false
apart_from_run f self r h i l round = by (r.tail) (among_both l (loops_of (inside r h.body)) (loops_in (order (tail h.body) (temporary_of (tail h.body)))) (tail_apart f self r h i l round))
  where
    by : (t : Bool) → NotIn l (loops_of (inside r h.body)) × NotIn l (loops_in (order (tail h.body) (temporary_of (tail h.body))))
        → is_among l (loops_of (inside r h.body) ++ (if t then loops_in (order (tail h.body) (temporary_of (tail h.body))) else [])) ≡ false
    by true z = not_both l (loops_of (inside r h.body)) (loops_in (order (tail h.body) (temporary_of (tail h.body)))) z.0 z.1
    by false z = not_both l (loops_of (inside r h.body)) [] z.0 refl

pub exits_meet : (A : Asked) (k : Plan) → IsPlan A k → Sits A.function A.run A.home → HasNoMark (order_function A.function) → blocks_at A.run.block (spots_of_function A.function) ≤ 1
    → IsItself (Some (Some A.function)) → (e : Exit) → Among e k.exits → e ≢ returns → LeadsToOnePlace (text_of A k) (shown (leaves e))
exits_meet A k plan sits bare few (is_none n) e i nr = absurd n
exits_meet A k plan sits bare few (is_itself self) e i nr = by e i nr
  where
    meets : (l : ℕ) (again : Bool) → Among l A.home.around.loops → LeadsToOnePlace (text_of A k) (shown (leaves (jump_exit l again)))
    meets l again j = marked_jumps_meet A.run A.home k.params A.function l again bare few sits.block (apart_from_run A.function self A.run A.home sits.block l j)

    by : (x : Exit) → Among x k.exits → x ≢ returns → LeadsToOnePlace (text_of A k) (shown (leaves x))
    by next j n = sole_leads (text_of A k) (shown (leaves next)) (marked_end_stands_once A.home.around.loops A.run k.params A.function bare few)
    by (breaks l) j n = meets l false (round_it A.run A.home (breaks l) l refl (subst (λ es. Among (breaks l) es) plan.exits j))
    by (continues l) j n = meets l true (round_it A.run A.home (continues l) l refl (subst (λ es. Among (continues l) es) plan.exits j))
    by returns j n = absurd (n refl)
