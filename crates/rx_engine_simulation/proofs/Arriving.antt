-- A history that arrives behind a mark of the text, or behind what its function gives, has that as its newest action.
use Rattle.std.proofs.Common.{◌≡◌, List, [], ◌∷◌, ◌++◌, refl, sym, ap, ◌∙◌, append_assoc}
use Rattle.rx_typed.specs.Tree as tree
use Rattle.rx_typed.specs.Tree.{Mark, Exp, Body, Function, temporary_of}
use Rattle.rx_lower_walks.specs.Actions.{Action, Give, at_mark}
use Rattle.rx_lower_walks.specs.Orders.{order, order_body}
use Rattle.rx_lower_walks.specs.Walks as walk
use Rattle.rx_lower_walks.specs.Walks.{Walk}
use Rattle.rx_exits_plan.specs.Points.{Point}
use Rattle.rx_exits_plan.specs.Marked.{mark, shown}
use Rattle.rx_engine_simulation.specs.Histories.{put}
use Rattle.rx_engine_simulation.specs.Programs.{IsHistory, About, Untouched, facts_of}
use Rattle.rx_engine_simulation.specs.Blocks.{Stretch, done, does_then, declares_then, lets_then, before, declared_all, Through, through_none, through_run, through_declaration, through_let}
use Rattle.rx_engine_simulation.specs.Arrivals.{to_rest, Arrives, arrives_rest, arrives_past, arrives_part, arrives_then}
use Rattle.rx_engine_simulation.specs.Marks.{closed_by}
use Rattle.rx_engine_simulation.specs.Endings.{a_marked, an_end, with_last, aim_of}
use Rattle.rx_engine_simulation.specs.Variants.{at_marked}
use Rattle.rx_engine_simulation.proofs.Positions.{next_at, put_append}
use Rattle.rx_engine_simulation.proofs.Blocks.{through_into}
use Rattle.rx_engine_simulation.proofs.MarksTell.{comes_on}

-- its newest action, and that it is one
abbrev pub Newest : Function → Action → List Action → Type 0
Newest g a h = (h0 : List Action) × (h ≡ a ∷ h0) × IsHistory g h

mark_on : (p : Point) {w : List Action} → Walk (order (mark p) (temporary_of (mark p))) w walk.on → w ≡ shown p ∷ []
mark_on p (walk.both walk.nothing walk.acts) = refl
mark_on p (walk.first e k) = absurd e

through_closed : (r : Stretch) (p : Point) {w : List Action} → Through (closed_by r p) w → (v : List Action) × (w ≡ v ++ shown p ∷ [])
through_closed done p (through_run {u = u} k through_none) = ([], ap (λ w. w ++ []) (mark_on p k))
through_closed (does_then e r) p (through_run {u = u} k th) = let a = through_closed r p th in (u ++ a.0, ap (λ w. u ++ w) a.1 ∙ sym (append_assoc u a.0 (shown p ∷ [])))
through_closed (declares_then n xs r) p (through_declaration th) = let a = through_closed r p th in (declared_all n xs ++ a.0, ap (λ w. declared_all n xs ++ w) a.1 ∙ sym (append_assoc (declared_all n xs) a.0 (shown p ∷ [])))
through_closed (lets_then n q c r) p (through_let {u = u} {v = v} k b th) =
    let a = through_closed r p th in
    (u ++ (v ++ a.0), ap (λ w. u ++ (v ++ w)) a.1 ∙ ap (λ w. u ++ w) (sym (append_assoc v a.0 (shown p ∷ []))) ∙ sym (append_assoc u (v ++ a.0) (shown p ∷ [])))

module _ (g : Function) (K : About) (u : Untouched g K) where
  -- behind statements that end with a mark
  pub behind_closed : (r : Stretch) (p : Point) (rest : Body) {h : List Action} → Arrives (facts_of g K u) (to_rest (before (closed_by r p) rest) (closed_by r p)) h → Newest g (shown p) h
  behind_closed r p rest (arrives_rest {h = h} {w = w} i t c th) =
      let a = through_closed r p th in
      let at = (facts_of g K u).within (through_into th rest i t) c in
      (put a.0 h, ap (λ w. put w h) a.1 ∙ put_append a.0 (shown p ∷ []) h, comes_on g (order_body rest i t) (put w h) [] at walk.rests)

  -- behind the last statement, with a mark behind it
  pub behind_statement : (r : Stretch) (e : Exp) (p : Point) (rest : Body) {h : List Action} → Arrives (facts_of g K u) (aim_of (a_marked e p) (before r (with_last (a_marked e p) rest)) r) h → Newest g (shown p) h
  behind_statement r e p rest (arrives_then (arrives_past {h = h} {w = w} {u = v} i t c th k)) =
      let at = (facts_of g K u).within (through_into th (with_last (a_marked e p) rest) i t) c in
      let next = next_at (facts_of g K u) at (v, refl, k) in
      (put v (put w h), refl, comes_on g (order_body (tree.runs (mark p) rest) i t) (put v (put w h)) (shown p ∷ []) next (walk.stops (walk.both (walk.both walk.nothing walk.acts) walk.rests)))

  -- behind what the function gives at its end
  pub behind_end : (r : Stretch) (m : Mark) (e : Exp) (rest : Body) {h : List Action} → Arrives (facts_of g K u) (aim_of (an_end m e) (before r (with_last (an_end m e) rest)) r) h → Newest g (at_mark m (Give (temporary_of e))) h
  behind_end r m e rest (arrives_then (arrives_past {h = h} {w = w} {u = v} i t c th k)) =
      let at = (facts_of g K u).within (through_into th (with_last (an_end m e) rest) i t) c in
      let next = next_at (facts_of g K u) at (v, refl, k) in
      (put v (put w h), refl, comes_on g _ (put v (put w h)) (at_mark m (Give (temporary_of e)) ∷ []) next (walk.both walk.acts walk.rests))

  -- behind the mark in front of a jump
  pub behind_jump : (q : Point) (e : Exp) {h : List Action} → Arrives (facts_of g K u) (at_marked q e) h → Newest g (shown q) h
  behind_jump q e (arrives_then (arrives_part {h = h} t c)) = (h, refl, comes_on g _ h (shown q ∷ []) c (walk.both (walk.both walk.nothing walk.acts) walk.rests))
