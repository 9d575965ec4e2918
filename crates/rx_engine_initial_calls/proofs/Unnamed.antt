-- A variable that a run does not name, as its occurrences tell: no action of the run begins, writes, moves or ends it, nor with the marks of
-- the run.
use Rattle.std.proofs.Common.{◌≡◌, ℕ, Bool, true, false, if◌then◌else◌, List, [], ◌∷◌, ◌++◌, map}
use Rattle.rx_core.specs.declared.types.Step.{Step}
use Rattle.rx_typed.specs.Tree.{Root, variable, temporary, Place, Temporary, Mode, by_value, by_reference, Mark, Exp, read, borrow, share, build, unit, lazily, assign, update, call, input, print, block, choose, loop, jump, give, Operands, no_operand, operand_and, Scrutinee, at_place, of_value, Arms, no_arm, arm_and, Body, ends, runs, declares, lets, under, mark_of, temporary_at, temporary_of}
use Rattle.rx_lower_walks.specs.Matching.{PartTest, Binding, tests, bindings}
use Rattle.rx_lower_walks.specs.Actions.{Dead, Read, Action, does, Subject, in_place, in_temporary, subject, taking}
use Rattle.rx_lower_walks.specs.Orders.{Exit, exit_node, Order, testing, perhaps, binding, declaring, order, order_all, order_scrutinee, order_arms, order_body}
use Rattle.rx_lower_walks.specs.Orders as order
use Rattle.rx_lower_walks.specs.Walks.{Out, Walk, rests, stops, acts, both, first, one, other, leave, holds, next, jumps, halts, last, more, Among, here, there}
use Rattle.rx_lower_walks.specs.Walks as walk
use Rattle.rx_exits_plan.specs.Blocks.{bound}
use Rattle.rx_exits_plan.specs.Points.{leaves, jump_exit}
use Rattle.rx_exits_plan.specs.Changed.{changed, changed_all, changed_matched, changed_arms, changed_body}
use Rattle.rx_exits_plan.specs.Marked.{mark_then, is_among, marking}
use Rattle.rx_exits_plan.specs.Occurrences.{Occurrence, names, declared, named_root, named_place, all_declared, occurrences, occurrences_in, occurrences_matched, occurrences_armed, occurrences_of}
use Rattle.rx_engine_initial.specs.Copies.{IsOther}
use Rattle.rx_engine_initial.specs.Fates.{LeavesBe, AllLeave}

module _ (x : ℕ) where
  -- no action of an order touches the variable
  abbrev pub Untouched : Order → Type 0
  Untouched (order.act a) = LeavesBe a.act x
  Untouched (order.then s t) = Untouched s × Untouched t
  Untouched (order.or s t) = Untouched s × Untouched t
  Untouched (order.otherwise s t) = Untouched s × Untouched t
  Untouched (order.ending n y s) = (y ≡ x → ⊥) × Untouched s
  Untouched (order.passes l s) = Untouched s
  Untouched _ = Unit {0}

  -- none of these is of it
  abbrev pub Away : List Occurrence → Type 0
  Away [] = Unit {0}
  Away (names y ∷ os) = (y ≡ x → ⊥) × Away os
  Away (declared y ∷ os) = (y ≡ x → ⊥) × Away os

  pub away_front : (os ps : List Occurrence) → Away (os ++ ps) → Away os
  away_front [] ps h = tt
  away_front (names y ∷ os) ps h = (h.0, away_front os ps h.1)
  away_front (declared y ∷ os) ps h = (h.0, away_front os ps h.1)

  pub away_rest : (os ps : List Occurrence) → Away (os ++ ps) → Away ps
  away_rest [] ps h = h
  away_rest (names y ∷ os) ps h = away_rest os ps h.1
  away_rest (declared y ∷ os) ps h = away_rest os ps h.1

  -- ---- what a walk does

  leave_two : (l m : List Action) → AllLeave l x → AllLeave m x → AllLeave (l ++ m) x
  leave_two [] m f g a i = g a i
  leave_two (_ ∷ l) m f g b here = f b here
  leave_two (b ∷ l) m f g a (there i) = leave_two l m (λ c k. f c (there k)) g a i

  leave_one : (a : Action) → LeavesBe a.act x → AllLeave (a ∷ []) x
  leave_one a h _ here = h
  leave_one a h b (there i) = elim i [ ]

  leave_none : AllLeave [] x
  leave_none a i = elim i [ ]

  pub walk_leaves : {s : Order} {u : List Action} {o : Out} → Untouched s → Walk s u o → AllLeave u x
  walk_leaves h rests = leave_none
  walk_leaves h (stops w) = walk_leaves h w
  walk_leaves h walk.nothing = leave_none
  walk_leaves h (acts {a = a}) = leave_one a h
  walk_leaves h (both {us = u} {vs = v} w k) = leave_two u v (walk_leaves h.0 w) (walk_leaves h.1 k)
  walk_leaves h (first e w) = walk_leaves h.0 w
  walk_leaves h (one w) = walk_leaves h.0 w
  walk_leaves h (other w) = walk_leaves h.1 w
  walk_leaves h leave = leave_none
  walk_leaves h walk.fail = leave_none
  walk_leaves h (holds e w) = walk_leaves h.0 w
  walk_leaves h (next {us = u} {vs = v} w k) = leave_two u v (walk_leaves h.0 w) (walk_leaves h.1 k)
  walk_leaves h (walk.ends {n = n} {x = y} {us = u} w) = leave_two u (does n (Dead y) ∷ []) (walk_leaves h.1 w) (leave_one (does n (Dead y)) h.0)
  walk_leaves h (jumps {x = y} {us = u} {j = j} w) = leave_two u (does (exit_node j) (Dead y) ∷ []) (walk_leaves h.1 w) (leave_one (does (exit_node j) (Dead y)) h.0)
  walk_leaves h (halts w) = walk_leaves h.1 w
  walk_leaves h (last w e) = walk_leaves h w
  walk_leaves h (more {us = u} {vs = v} w e k) = leave_two u v (walk_leaves h w) (walk_leaves h k)

  -- ---- actions

  root_other : (r : Root) → Away (named_root r) → IsOther r x
  root_other (variable y) h = h.0
  root_other (temporary t) h = tt

  read_leaves : (v : Bool) (p : Place) (d : Temporary) → Away (named_place p) → LeavesBe (Read v p d) x
  read_leaves true p d h = root_other p.root h
  read_leaves false p d h = tt

  -- a place of the text, or a temporary
  abbrev pub SubjectAway : Subject → Type 0
  SubjectAway (in_place p) = Away (named_place p)
  SubjectAway (in_temporary t) = Unit {0}

  testing_leaves : (S : Subject) (ts : List PartTest) (r : Order) → Untouched r → Untouched (testing S ts r)
  testing_leaves S [] r h = h
  testing_leaves S (t ∷ ts) r h = (tt, (testing_leaves S ts r h, tt))

  pub taking_leaves : (n : ℕ) (m : Mode) (S : Subject) (ss : List Step) (d : Temporary) → SubjectAway S → Untouched (perhaps n (taking m S ss d))
  taking_leaves n (by_reference v) S ss d h = tt
  taking_leaves n (by_value v) (in_place p) ss d h = read_leaves v (under p ss) d h
  taking_leaves n (by_value v) (in_temporary t) ss d h = tt

  pub binding_leaves : (S : Subject) (bs : List Binding) (n : ℕ) (r : Order) → SubjectAway S → Away (all_declared (map (λ (b : Binding). b.variable) bs)) → Untouched r → Untouched (binding S bs n r)
  binding_leaves S [] n r s i h = h
  binding_leaves S (b ∷ bs) n r s i h = (taking_leaves b.node b.mode S b.steps (temporary_at b.node 0) s, (i.0, (i.0, (i.0, binding_leaves S bs n r s i.1 h))))

  pub declaring_leaves : (s : ℕ) (ys : List ℕ) (n : ℕ) (r : Order) → Away (all_declared ys) → Untouched r → Untouched (declaring s ys n r)
  declaring_leaves s [] n r i h = h
  declaring_leaves s (y ∷ ys) n r i h = (i.0, (i.0, declaring_leaves s ys n r i.1 h))

  -- ---- trees, with marks in front of jumps out of these loops, and behind what is returned

  module _ (ls : List ℕ) where
    jump_leaves : (m : Mark) (l : ℕ) (again : Bool) (d : Temporary) → Untouched (order (if is_among l ls then mark_then (leaves (jump_exit l again)) (jump m l again) else jump m l again) d)
    jump_leaves m l again d = by (is_among l ls)
      where
        by : (b : Bool) → Untouched (order (if b then mark_then (leaves (jump_exit l again)) (jump m l again) else jump m l again) d)
        by true = ((tt, tt), tt)
        by false = tt

    pub subject_away : (s : Scrutinee) → Away (occurrences_matched s) → SubjectAway (subject (changed_matched (marking ls) s))
    subject_away (at_place m p) h = h
    subject_away (of_value e) h = tt

    mutual
      pub exp_leaves : (e : Exp) (d : Temporary) → Away (occurrences e) → Untouched (order (changed (marking ls) e) d)
      exp_leaves (read m v p) d h = read_leaves v p d h
      exp_leaves (borrow m b p) d h = tt
      exp_leaves (share m e) d h = (exp_leaves e (temporary_at m.node 1) h, tt)
      exp_leaves (build m v es) d h = (all_leave es h, tt)
      exp_leaves (unit m) d h = tt
      exp_leaves (lazily m b e f) d h =
          let C = marking ls in (
            exp_leaves e (temporary_of (changed C e)) (away_front (occurrences e) (occurrences f) h),
            (tt, ((exp_leaves f (temporary_of (changed C f)) (away_rest (occurrences e) (occurrences f) h), tt), tt)),
          )
      exp_leaves (assign m p e) d h = (exp_leaves e (temporary_of (changed (marking ls) e)) (away_rest (named_place p) (occurrences e) h), root_other p.root (away_front (named_place p) (occurrences e) h))
      exp_leaves (update m o p e) d h =
          (exp_leaves e (temporary_of (changed (marking ls) e)) (away_rest (named_place p) (occurrences e) h), (tt, (tt, root_other p.root (away_front (named_place p) (occurrences e) h))))
      exp_leaves (call m f es) d h = (all_leave es h, tt)
      exp_leaves (input m) d h = tt
      exp_leaves (print m e) d h = (exp_leaves e (temporary_of (changed (marking ls) e)) h, tt)
      exp_leaves (block m b) d h = body_leaves b m.node d h
      exp_leaves (choose m s l) d h = (
        matched_leaves s (away_front (occurrences_matched s) (occurrences_armed l) h),
        arms_leave (subject (changed_matched (marking ls) s)) l d (subject_away s (away_front (occurrences_matched s) (occurrences_armed l) h))
            (away_rest (occurrences_matched s) (occurrences_armed l) h),
      )
      exp_leaves (loop m l e) d h = exp_leaves e (temporary_of (changed (marking ls) e)) h
      exp_leaves (jump m l again) d h = jump_leaves m l again d
      exp_leaves (give m e) d h = ((exp_leaves e (temporary_of (changed (marking ls) e)) h, ((tt, tt), tt)), (tt, tt))

      all_leave : (es : Operands) → Away (occurrences_in es) → Untouched (order_all (changed_all (marking ls) es))
      all_leave no_operand h = tt
      all_leave (operand_and i e es) h = (
        exp_leaves e (temporary_of (changed (marking ls) e)) (away_front (occurrences e) (occurrences_in es) h),
        all_leave es (away_rest (occurrences e) (occurrences_in es) h),
      )

      pub matched_leaves : (s : Scrutinee) → Away (occurrences_matched s) → Untouched (order_scrutinee (changed_matched (marking ls) s))
      matched_leaves (at_place m p) h = tt
      matched_leaves (of_value e) h = exp_leaves e (temporary_of (changed (marking ls) e)) h

      arms_leave : (S : Subject) (l : Arms) (d : Temporary) → SubjectAway S → Away (occurrences_armed l) → Untouched (order_arms S (changed_arms (marking ls) l) d)
      arms_leave S no_arm d s h = tt
      arms_leave S (arm_and p e l) d s h =
          let C = marking ls in
          let r : Order = order (changed C e) d in
          let i = away_rest (all_declared (bound p)) (occurrences e ++ occurrences_armed l) h in (
            testing_leaves S (tests [] p) (binding S (bindings [] p) (mark_of (changed C e)).node r)
                (binding_leaves S (bindings [] p) (mark_of (changed C e)).node r s (away_front (all_declared (bound p)) (occurrences e ++ occurrences_armed l) h)
                (exp_leaves e d (away_front (occurrences e) (occurrences_armed l) i))),
            arms_leave S l d s (away_rest (occurrences e) (occurrences_armed l) i),
          )

      body_leaves : (b : Body) (n : ℕ) (d : Temporary) → Away (occurrences_of b) → Untouched (order_body (changed_body (marking ls) b) n d)
      body_leaves (ends e) n d h = exp_leaves e d h
      body_leaves (runs e b) n d h = (
        exp_leaves e (temporary_of (changed (marking ls) e)) (away_front (occurrences e) (occurrences_of b) h),
        body_leaves b n d (away_rest (occurrences e) (occurrences_of b) h),
      )
      body_leaves (declares s ys b) n d h =
          declaring_leaves s ys n (order_body (changed_body (marking ls) b) n d) (away_front (all_declared ys) (occurrences_of b) h) (body_leaves b n d (away_rest (all_declared ys) (occurrences_of b) h))
      body_leaves (lets s p c b) n d h =
          let i = away_rest (all_declared (bound p)) (occurrences_matched c ++ occurrences_of b) h in
          let j = away_front (occurrences_matched c) (occurrences_of b) i in (
            matched_leaves c j,
            binding_leaves (subject (changed_matched (marking ls) c)) (bindings [] p) n (order_body (changed_body (marking ls) b) n d) (subject_away c j)
                (away_front (all_declared (bound p)) (occurrences_matched c ++ occurrences_of b) h) (body_leaves b n d (away_rest (occurrences_matched c) (occurrences_of b) i)),
          )
