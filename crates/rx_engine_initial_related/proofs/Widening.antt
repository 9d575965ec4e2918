-- With reads of variables where a run is entered, some walk goes as each walk of the function with marks does; so one comes to the run's entry in
-- the text, which is a part of it.
use Rattle.std.proofs.Common.{◌≡◌, ℕ, ◌≤◌, ◌==◌, Bool, true, false, if◌then◌else◌, List, [], ◌∷◌, ◌++◌, refl, sym, subst, ap, eqb-true}
use Rattle.rx_typed.specs.Tree.{Temporary, Body, mark_of, temporary_of}
use Rattle.rx_lower_walks.specs.Actions.{Dead, Action, does}
use Rattle.rx_lower_walks.specs.Orders.{exit_node, Order, order, order_body, order_function}
use Rattle.rx_lower_walks.specs.Walks.{Out, stopped, Walk, rests, stops, nothing, acts, both, first, one, other, holds, next, jumps, halts, last, more, IsWalk, Among, here, there}
use Rattle.rx_lower_walks.specs.Walks as walk
use Rattle.rx_exits_plan.specs.Blocks.{statements, before}
use Rattle.rx_exits_plan.specs.Spots.{outermost, spots_of_function}
use Rattle.rx_exits_plan.specs.Runs.{Sits, in_front}
use Rattle.rx_exits_plan.specs.Points.{enters}
use Rattle.rx_exits_plan.specs.Changed.{changed}
use Rattle.rx_exits_plan.specs.Marked.{shown, entering, marked_body, at_the_block, marked}
use Rattle.rx_exits_plan.specs.Coming.{Into, HasNoMark}
use Rattle.rx_exits_plan.specs.Asked.{Asked}
use Rattle.rx_exits_plan.specs.Plan.{Plan}
use Rattle.rx_exits_plan.specs.Unreachable.{SomeComes}
use Rattle.rx_exits_plan.proofs.Coming.{Covered, is_part, c_leave, Came, came}
use Rattle.rx_engine_related.specs.AboutRun.{text_of}
use Rattle.rx_engine_related.specs.OneSite.{blocks_at}
use Rattle.rx_engine_related.specs.Reads.{entry_read, Wider, no_more, entered, kept, put_in}
use Rattle.rx_engine_related.proofs.Bare.{NoMarks, no_marks}
use Rattle.rx_engine_related.proofs.HistoriesEntering.{marked_wide}
use Rattle.rx_engine_related.proofs.Sole.{of_beginning, all_free, take_free}
use Rattle.rx_engine_related.proofs.Widened.{wider_both, wider_same, Widened, as_it_was, put_first, w_entered, w_then, w_or, w_otherwise, w_ending, w_passes}
use Rattle.rx_engine_initial_calls.proofs.OtherActions.{Holds, is_known, known, beginning_covered, before_covered, Covers, covered}
use Rattle.rx_engine_initial_calls.proofs.Reaching.{from_entry, IsHome, is_home}

-- ---- a walk with such reads

record Wide (xs : List ℕ) (b : Bool) (t : Order) (us : List Action) (o : Out) : Type 0 where
  list : List Action
  walk : Walk t list o
  wider : Wider xs b us list

cut_off : {xs : List ℕ} {b : Bool} {t : Order} {us : List Action} {o : Out} → Wide xs b t us o → Wide xs b t us stopped
cut_off z = record { list = z.list; walk = stops z.walk; wider = z.wider }

rested : {xs : List ℕ} {b : Bool} {t : Order} → Wide xs b t [] stopped
rested = record { list = []; walk = rests; wider = no_more }

widen : {xs : List ℕ} {b : Bool} {t s : Order} {us : List Action} {o : Out} → Widened xs b t s → Walk s us o → Wide xs b t us o
widen {us = us} as_it_was h = record { list = us; walk = h; wider = wider_same us }
widen (put_first y i k) h = let z = widen k h in record { list = entry_read y ∷ z.list; walk = both {us = entry_read y ∷ []} {vs = z.list} acts z.walk; wider = put_in y i z.wider }
widen (w_entered k) rests = rested
widen (w_entered k) (stops h) = cut_off (widen (w_entered k) h)
widen (w_entered k) (both (both nothing acts) g) = let z = widen k g in record { list = shown enters ∷ z.list; walk = both (both nothing acts) z.walk; wider = entered z.wider }
widen (w_entered k) (both (first e h) g) = elim e [ ]
widen {us = us} (w_entered k) (first e h) = record { list = us; walk = first e h; wider = wider_same us }
widen (w_then k l) rests = rested
widen (w_then k l) (stops h) = cut_off (widen (w_then k l) h)
widen (w_then k l) (both a c) = let z = widen k a in let y = widen l c in record { list = z.list ++ y.list; walk = both z.walk y.walk; wider = wider_both z.wider y.wider }
widen (w_then k l) (first e a) = let z = widen k a in record { list = z.list; walk = first e z.walk; wider = z.wider }
widen (w_or k l) rests = rested
widen (w_or k l) (stops h) = cut_off (widen (w_or k l) h)
widen (w_or k l) (one a) = let z = widen k a in record { list = z.list; walk = one z.walk; wider = z.wider }
widen (w_or k l) (other a) = let z = widen l a in record { list = z.list; walk = other z.walk; wider = z.wider }
widen (w_otherwise k l) rests = rested
widen (w_otherwise k l) (stops h) = cut_off (widen (w_otherwise k l) h)
widen (w_otherwise k l) (holds e a) = let z = widen k a in record { list = z.list; walk = holds e z.walk; wider = z.wider }
widen (w_otherwise k l) (next a c) = let z = widen k a in let y = widen l c in record { list = z.list ++ y.list; walk = next z.walk y.walk; wider = wider_both z.wider y.wider }
widen (w_ending k) rests = rested
widen (w_ending k) (stops h) = cut_off (widen (w_ending k) h)
widen (w_ending {n = n} {x = x} k) (walk.ends a) = let z = widen k a in record { list = z.list ++ does n (Dead x) ∷ []; walk = walk.ends z.walk; wider = wider_both z.wider (wider_same (does n (Dead x) ∷ [])) }
widen (w_ending {n = n} {x = x} k) (jumps {j = j} a) = let z = widen k a in
    record { list = z.list ++ does (exit_node j) (Dead x) ∷ []; walk = jumps z.walk; wider = wider_both z.wider (wider_same (does (exit_node j) (Dead x) ∷ [])) }
widen (w_ending k) (halts a) = let z = widen k a in record { list = z.list; walk = halts z.walk; wider = z.wider }
widen (w_passes k) rests = rested
widen (w_passes k) (stops h) = cut_off (widen (w_passes k) h)
widen (w_passes k) (last a e) = let z = widen k a in record { list = z.list; walk = last z.walk e; wider = z.wider }
widen (w_passes k) (more a e c) = let z = widen k a in let y = widen (w_passes k) c in record { list = z.list ++ y.list; walk = more z.walk e y.walk; wider = wider_both z.wider y.wider }

has_still : {xs : List ℕ} {b : Bool} {us vs : List Action} {a : Action} → Wider xs b us vs → Among a us → Among a vs
has_still no_more i = i
has_still (entered h) here = here
has_still (entered h) (there i) = there (has_still h i)
has_still (kept h) here = here
has_still (kept h) (there i) = there (has_still h i)
has_still (put_in y j h) i = there (has_still h i)

split_at : (a : Action) (us : List Action) → Among a us → (v rest : List Action) × (us ≡ v ++ a ∷ rest)
split_at a _ (here {l = l}) = ([], l, refl)
split_at a (b ∷ us) (there i) = let z = split_at a us i in (b ∷ z.0, z.1, ap (λ w. b ∷ w) z.2)

in_middle : (w : List Action) (a : Action) (rest : List Action) → Among a ((w ++ a ∷ []) ++ rest)
in_middle [] a rest = here
in_middle (b ∷ w) a rest = there (in_middle w a rest)

-- ---- the run's entry is a part of the text

record Entry (A : Asked) (k : Plan) (s : Order) : Type 0 where
  to : Temporary
  is : s ≡ order_body (before (entering k.params) (from_entry A)) A.run.block to

module _ (A : Asked) (k : Plan) where
  entry_home : (d f : Temporary) → NoMarks (order_body A.home.body A.run.block f) → Covered (Holds (shown enters) (Entry A k)) (order_body (marked_body A.run A.home.around.loops k.params A.home.body) A.run.block d)
  entry_home d f h = before_covered (in_front A.run A.home.body) (before (entering k.params) (from_entry A)) A.run.block d (take_free A.run.first (statements A.home.body) (all_free A.home.body A.run.block f h).0)
      (is_part (is_known (record { to = d; is = refl })))

  entry_covers : Covers (Holds (shown enters) (Entry A k)) (at_the_block A.run A.home.around.loops k.params) (IsHome A)
  entry_covers = record {
    at_block = λ c n was b d f q h g. by (n == A.run.block) n was b d f refl q h g;
    at_jump = λ m l again d. c_leave;
    at_return = λ v f d. f d;
  }
    where
      by : (t : Bool) (n : ℕ) (was b : Body) (d f : Temporary) → (n == A.run.block) ≡ t → (n ≡ A.run.block → was ≡ A.home.body) → NoMarks (order_body was n f)
          → Covered (Holds (shown enters) (Entry A k)) (order_body b n d) → Covered (Holds (shown enters) (Entry A k)) (order_body (if t then marked_body A.run A.home.around.loops k.params was else b) n d)
      by true n was b d f g q h c =
          let i = eqb-true n A.run.block g in
          subst (λ m. Covered (Holds (shown enters) (Entry A k)) (order_body (marked_body A.run A.home.around.loops k.params was) m d)) (sym i)
          (subst (λ w. Covered (Holds (shown enters) (Entry A k)) (order_body (marked_body A.run A.home.around.loops k.params w) A.run.block d)) (sym (q i))
          (entry_home d f (subst (λ w. NoMarks (order_body w A.run.block f)) (q i) (subst (λ m. NoMarks (order_body was m f)) i h))))
      by false n was b d f g q h c = c

  text_covered : HasNoMark (order_function A.function) → Sits A.function A.run A.home → blocks_at A.run.block (spots_of_function A.function) ≤ 1 → Covered (Holds (shown enters) (Entry A k)) (order_function (text_of A k))
  text_covered h sits few =
      let f = A.function in
      let C = at_the_block A.run A.home.around.loops k.params in
      beginning_covered f.params (mark_of (changed C f.body)).node (order (changed C f.body) (temporary_of (changed C f.body)))
      (covered (Holds (shown enters) (Entry A k)) C (IsHome A) entry_covers f.body (outermost f) (temporary_of (changed C f.body)) (temporary_of f.body) (is_home A sits few)
      (of_beginning f.params (mark_of f.body).node (order f.body (temporary_of f.body)) (no_marks (order_function f) h.none)))

  pub record Entering : Type 0 where
    pub front : List Action
    pub to : Temporary
    pub into : Into (order_body (before (entering k.params) (from_entry A)) A.run.block to) (order_function (text_of A k)) front

  pub comes_in : HasNoMark (order_function A.function) → Sits A.function A.run A.home → blocks_at A.run.block (spots_of_function A.function) ≤ 1 → SomeComes A enters → Entering
  comes_in h sits few (w, c) = by c
    where
      of_came : (v : List Action) → Came (shown enters) (Holds (shown enters) (Entry A k)) (order_function (text_of A k)) v → Entering
      of_came v z = let e = known z.is z.rest [] stopped z.walk in record { front = z.front; to = e.to; into = subst (λ s. Into s (order_function (text_of A k)) z.front) e.is z.into }

      by : IsWalk (marked A.run A.home.around.loops [] A.function) (w ++ shown enters ∷ []) → Entering
      by (rest, o, x) =
          let z = widen (marked_wide A.run A.home.around.loops k.params A.function) x in
          let y = split_at (shown enters) z.list (has_still z.wider (in_middle w (shown enters) rest)) in
          of_came y.0 (came refl z.walk (text_covered h sits few) y.0 y.1 y.2)
