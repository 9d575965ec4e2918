-- A walk that comes to the mark of a `break` or `continue` of a run goes on to leave the run so, whatever follows: inside the run each such mark
-- stands in front of its jump, and variables end behind it.
use Rattle.std.proofs.Common.{◌≡◌, ℕ, ◌≤◌, Bool, true, false, List, [], ◌∷◌, ◌++◌, map, refl, sym, ◌∙◌, subst, ap, true≢false}
use Rattle.rx_typed.specs.Tree.{Temporary, choose, at_place, no_arm, Body, ends, own}
use Rattle.rx_lower_walks.specs.Matching.{Binding, bindings}
use Rattle.rx_lower_walks.specs.Actions.{Action, Subject, subject}
use Rattle.rx_lower_walks.specs.Orders.{Order, order_body, order_function, exit}
use Rattle.rx_lower_walks.specs.Orders as orders
use Rattle.rx_lower_walks.specs.Walks.{leaves, stopped, Walk, both, first, jumps, Among, EndsVariable, here, there}
use Rattle.rx_exits_plan.specs.Blocks.{Statement, begins, binds, before}
use Rattle.rx_exits_plan.specs.Blocks as block
use Rattle.rx_exits_plan.specs.Spots.{spots_of_function}
use Rattle.rx_exits_plan.specs.Runs.{Sits, inside}
use Rattle.rx_exits_plan.specs.Points.{next, enters, jump_exit}
use Rattle.rx_exits_plan.specs.Points as point
use Rattle.rx_exits_plan.specs.Changed.{changed_statement}
use Rattle.rx_exits_plan.specs.Marked.{at_point, shown, is_among, marking, entering, ended}
use Rattle.rx_exits_plan.specs.Coming.{HasNoMark}
use Rattle.rx_exits_plan.specs.Asked.{Asked}
use Rattle.rx_exits_plan.specs.Plan.{Plan}
use Rattle.rx_exits_plan.specs.Unreachable.{SomeComes}
use Rattle.rx_engine_related.specs.OneSite.{blocks_at}
use Rattle.rx_engine_related.specs.OnePlace.{loops_of}
use Rattle.rx_engine_related.proofs.Meeting.{AreEnds, and, none, Going, free_led, free_two, then_splits, idle, none_done, none_nowhere}
use Rattle.rx_engine_related.proofs.Jumps.{IsLed, marked_before}
use Rattle.rx_engine_related.proofs.MarkedJumps.{entered_led}
use Rattle.rx_engine_related.proofs.Sole.{jump_numbers}
use Rattle.rx_engine_related.proofs.Undeclared.{Undeclared, walk_away}
use Rattle.rx_engine_initial.specs.Matching.{Piece, doing, ending, fill}
use Rattle.rx_engine_initial_calls.specs.GoneThrough.{all_read, IsGoneThrough}
use Rattle.rx_engine_initial_calls.specs.RunPieces.{declaring_pieces, binding_pieces, pieces_of, run_pieces}
use Rattle.rx_engine_initial_calls.proofs.Unnamed.{Untouched, walk_leaves}
use Rattle.rx_engine_initial_calls.proofs.GoingThrough.{body_filled, before_both, AllPieces, untouched_run, undeclared_run, not_begun}
use Rattle.rx_engine_initial_calls.proofs.OtherActions.{Met}
use Rattle.rx_engine_initial_calls.proofs.Reaching.{Entered, comes_there, up_to, reads_both}

-- ---- in front of what never goes on

abbrev never : Body
never = ends (choose (at_point enters) (at_place (at_point enters) (own 0)) no_arm)

abbrev nowhere_then : Order
nowhere_then = orders.then orders.nothing orders.nowhere

never_left : {u : List Action} {j : orders.Exit} → Walk nowhere_then u (leaves j) → ⊥
never_left (both w k) = elim k [ ]
never_left (first e w) = elim w [ ]

-- so a walk that leaves these pieces leaves them whatever follows
left_so : (K : List Piece) (q : Order) {u : List Action} {j : orders.Exit} → Walk (fill K nowhere_then) u (leaves j) → Walk (fill K q) u (leaves j)
left_so [] q w = absurd (never_left w)
left_so (doing s ∷ K) q (both w k) = both w (left_so K q k)
left_so (doing s ∷ K) q (first e w) = first e w
left_so (ending n x ∷ K) q (jumps w) = jumps (left_so K q w)

-- ---- what the pieces of a run touch, with the ends of their variables

module _ (y : ℕ) where
  declared_untouched : (n s : ℕ) (xs : List ℕ) (K : List Piece) (q : Order) → AllPieces (λ t. Untouched y t) (declaring_pieces n s xs K) → (AllPieces (λ t. Untouched y t) K → Untouched y (fill K q))
      → Untouched y (fill (declaring_pieces n s xs K) q)
  declared_untouched n s [] K q h f = f h
  declared_untouched n s (x ∷ xs) K q h f = (h.0, (h.0, declared_untouched n s xs K q h.1 f))

  bound_untouched : (n : ℕ) (S : Subject) (bs : List Binding) (K : List Piece) (q : Order) → AllPieces (λ t. Untouched y t) (binding_pieces n S bs K) → (AllPieces (λ t. Untouched y t) K → Untouched y (fill K q))
      → Untouched y (fill (binding_pieces n S bs K) q)
  bound_untouched n S [] K q h f = f h
  bound_untouched n S (b ∷ bs) K q h f = (h.0, (h.1.0, (h.1.1.0, (h.1.0, bound_untouched n S bs K q h.1.1.1 f))))

  pub filled_untouched : (n : ℕ) (ss : List Statement) (q : Order) → AllPieces (λ t. Untouched y t) (pieces_of n ss) → Untouched y q → Untouched y (fill (pieces_of n ss) q)
  filled_untouched n [] q h i = i
  filled_untouched n (block.does e ∷ ss) q h i = (h.0, filled_untouched n ss q h.1 i)
  filled_untouched n (begins s xs ∷ ss) q h i = declared_untouched n s xs (pieces_of n ss) q h (λ k. filled_untouched n ss q k i)
  filled_untouched n (binds s p c ∷ ss) q h i = (h.0, bound_untouched n (subject c) (bindings [] p) (pieces_of n ss) q h.1 (λ k. filled_untouched n ss q k i))

  pub filled_undeclared : (K : List Piece) (q : Order) → AllPieces (λ t. Undeclared y t) K → Undeclared y q → Undeclared y (fill K q)
  filled_undeclared [] q h i = i
  filled_undeclared (doing s ∷ K) q h i = (h.0, filled_undeclared K q h.1 i)
  filled_undeclared (ending n x ∷ K) q h i = filled_undeclared K q h i

-- ---- the walk

ends_are : {us : List Action} → AreEnds us → (a : Action) → Among a us → EndsVariable a.act
ends_are none a i = elim i [ ]
ends_are (and h) _ here = tt
ends_are (and h) a (there i) = ends_are h a i

module _ (A : Asked) (k : Plan) (short : A.run.tail ≡ false) (l : ℕ) (again : Bool) (apart : is_among l (loops_of (inside A.run A.home.body)) ≡ false) where
  abbrev mark : Action
  mark = shown (point.leaves (jump_exit l again))

  abbrev within : List Statement
  within = map (changed_statement (marking A.home.around.loops)) (inside A.run A.home.body)

  filled : (d : Temporary) → order_body (before (entering k.params) (before within (before (ended A.run.tail) never))) A.run.block d ≡ fill (run_pieces A k) nowhere_then
  filled d = ap (λ b. order_body b A.run.block d) (ap (λ b. before (entering k.params) b) (before_both within (ended A.run.tail) never) ∙ before_both (entering k.params) (within ++ ended A.run.tail) never)
      ∙ body_filled A.run.block (entering k.params ++ (within ++ ended A.run.tail)) never d

  never_led : (d : Temporary) → IsLed l again 0 (order_body never A.run.block d)
  never_led d = free_led mark refl l again (free_two mark refl l again (then_splits mark refl l again) (idle mark refl l again (λ u o h. none_done mark refl l again h)) (idle mark refl l again (λ u o h. none_nowhere mark refl l again h)))

  end_led : (t : Bool) (d : Temporary) → t ≡ false → IsLed l again 0 (order_body (before (ended t) never) A.run.block d)
  end_led true d e = absurd (true≢false e)
  end_led false d e = marked_before l again (point.leaves next) never A.run.block d (jump_numbers l again).1 (never_led d)

  pieces_led : (z : Met mark (Entered A)) → IsLed l again 0 (fill (run_pieces A k) nowhere_then)
  pieces_led z = subst (λ s. IsLed l again 0 s) (filled z.is.to)
      (entered_led l again A.home.around.loops A.run k.params A.home.body (before (ended A.run.tail) never) A.run.block z.is.to z.is.was_to z.is.unmarked apart (end_led A.run.tail z.is.to short))

  going : (z : Met mark (Entered A)) → Going mark refl l again (fill (run_pieces A k) nowhere_then) (shown enters ∷ all_read k.params z.front)
  going z = (pieces_led z).onward (shown enters ∷ all_read k.params z.front) [] stopped (up_to A k short (jump_exit l again) z nowhere_then)

  pub onward : (z : Met mark (Entered A)) (q : Order) → (n : ℕ) × (u : List Action) × Walk (fill (run_pieces A k) q) u (leaves (exit n l again)) × IsGoneThrough A k (jump_exit l again) u
  onward z q = let g = going z in (
    g.node,
    (shown enters ∷ all_read k.params z.front) ++ mark ∷ g.list,
    left_so (run_pieces A k) q g.walk,
    record {
      entered = (z.front ++ mark ∷ g.list, ap (λ u. shown enters ∷ u) (sym (reads_both k.params z.front (mark ∷ g.list))));
      inner = shown enters ∷ all_read k.params z.front;
      ends = g.list;
      left = refl;
      ended = ends_are g.are;
      named = λ a i y f. walk_leaves y (filled_untouched y A.run.block (entering k.params ++ (within ++ ended A.run.tail)) nowhere_then (untouched_run A k y f) (tt, tt)) g.walk a i;
      declared = λ a i y f. not_begun y a.act (walk_away y (filled_undeclared y (run_pieces A k) nowhere_then (undeclared_run A k y f) (tt, tt)) g.walk a i);
    },
  )

pub some_leaves_so : (A : Asked) (k : Plan) → A.run.tail ≡ false → HasNoMark (order_function A.function) → Sits A.function A.run A.home → blocks_at A.run.block (spots_of_function A.function) ≤ 1
    → (l : ℕ) (again : Bool) → is_among l (loops_of (inside A.run A.home.body)) ≡ false → SomeComes A (point.leaves (jump_exit l again)) → (q : Order)
    → (n : ℕ) × (u : List Action) × Walk (fill (run_pieces A k) q) u (leaves (exit n l again)) × IsGoneThrough A k (jump_exit l again) u
some_leaves_so A k short h sits few l again apart c q = onward A k short l again apart (comes_there A h sits few (jump_exit l again) c) q
