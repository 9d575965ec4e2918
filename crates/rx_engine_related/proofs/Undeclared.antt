-- A variable that the statements of a run, and its tail, do not declare, as their occurrences tell: no action of theirs begins it, nor with the
-- marks of the run.
use Rattle.std.proofs.Common.{◌≡◌, inl, inr, ℕ, ◌==◌, Bool, true, false, ◌||◌, if◌then◌else◌, List, [], ◌∷◌, ◌++◌, map, refl, sym, ◌∙◌, true≢false}
use Rattle.std.proofs.lemmas.Bool.Decides.{Decides-eqb}
use Rattle.rx_core.specs.declared.types.Step.{Step}
use Rattle.rx_typed.specs.Tree.{Temporary, Mode, by_value, by_reference, Mark, Exp, read, borrow, share, build, unit, lazily, assign, update, call, input, print, block, choose, loop, jump, give, Operands, no_operand, operand_and, Scrutinee, at_place, of_value, Arms, no_arm, arm_and, Body, ends, runs, declares, lets, mark_of, temporary_at, temporary_of}
use Rattle.rx_lower_walks.specs.Matching.{PartTest, Binding, tests, bindings}
use Rattle.rx_lower_walks.specs.Actions.{Act, Declare, Dead, Read, Write, Borrow, Test, Call, Build, Input, Print, Give, Action, Subject, in_place, in_temporary, subject, taking}
use Rattle.rx_lower_walks.specs.Orders.{Order, testing, perhaps, binding, declaring, order, order_all, order_scrutinee, order_arms, order_body}
use Rattle.rx_lower_walks.specs.Orders as order
use Rattle.rx_lower_walks.specs.Walks.{Out, Walk, actions_in, Among, here, there, EndsVariable}
use Rattle.rx_lower_walks.proofs.HeldLemmas.{Own, held}
use Rattle.rx_exits_plan.specs.Blocks.{bound, written_tail}
use Rattle.rx_exits_plan.specs.Points.{next, leaves, jump_exit}
use Rattle.rx_exits_plan.specs.Changed.{changed, changed_all, changed_matched, changed_arms, changed_body}
use Rattle.rx_exits_plan.specs.Marked.{mark_then, then_mark, is_among, marking, ended_value}
use Rattle.rx_exits_plan.specs.Occurrences.{Occurrence, names, declared, named_place, all_declared, occurrences, occurrences_in, occurrences_matched, occurrences_armed, occurrences_of, declared_among, has_number}
use Rattle.rx_engine_simulation.specs.Histories.{Declares}

module _ (x : ℕ) where
  -- no action of an order begins the variable
  abbrev pub Undeclared : Order → Type 0
  Undeclared (order.act a) = Declares a.act x → ⊥
  Undeclared (order.then s t) = Undeclared s × Undeclared t
  Undeclared (order.or s t) = Undeclared s × Undeclared t
  Undeclared (order.otherwise s t) = Undeclared s × Undeclared t
  Undeclared (order.ending n y s) = Undeclared s
  Undeclared (order.passes l s) = Undeclared s
  Undeclared _ = Unit {0}

  -- none of these declares it
  abbrev pub Away : List Occurrence → Type 0
  Away [] = Unit {0}
  Away (names y ∷ os) = Away os
  Away (declared y ∷ os) = (x ≡ y → ⊥) × Away os

  -- ---- occurrences

  pub away_front : (os ps : List Occurrence) → Away (os ++ ps) → Away os
  away_front [] ps h = tt
  away_front (names y ∷ os) ps h = away_front os ps h
  away_front (declared y ∷ os) ps h = (h.0, away_front os ps h.1)

  pub away_rest : (os ps : List Occurrence) → Away (os ++ ps) → Away ps
  away_rest [] ps h = h
  away_rest (names y ∷ os) ps h = away_rest os ps h
  away_rest (declared y ∷ os) ps h = away_rest os ps h.1

  pub either_false : (b c : Bool) → b || c ≡ false → (b ≡ false) × (c ≡ false)
  either_false true c e = absurd (true≢false e)
  either_false false c e = (refl, e)

  pub away_of : (os : List Occurrence) → has_number x (declared_among os) ≡ false → Away os
  away_of [] e = tt
  away_of (names y ∷ os) e = away_of os e
  away_of (declared y ∷ os) e = let z = either_false (x == y) (has_number x (declared_among os)) e in ((λ q. true≢false (sym ((Decides-eqb x y).1 q) ∙ z.0)), away_of os z.1)

  -- ---- what a walk does

  abbrev pub NoneIn : List Action → Type 0
  NoneIn l = (a : Action) → Among a l → Declares a.act x → ⊥

  none_in_two : (l m : List Action) → NoneIn l → NoneIn m → NoneIn (l ++ m)
  none_in_two [] m f g a i = g a i
  none_in_two (_ ∷ l) m f g b here = f b here
  none_in_two (b ∷ l) m f g a (there i) = none_in_two l m (λ c k. f c (there k)) g a i

  none_in : (s : Order) → Undeclared s → NoneIn (actions_in s)
  none_in order.nothing h a i = elim i [ ]
  none_in order.nowhere h a i = elim i [ ]
  none_in (order.act b) h _ here = h
  none_in (order.act b) h a (there i) = elim i [ ]
  none_in (order.then s t) h a i = none_in_two (actions_in s) (actions_in t) (none_in s h.0) (none_in t h.1) a i
  none_in (order.or s t) h a i = none_in_two (actions_in s) (actions_in t) (none_in s h.0) (none_in t h.1) a i
  none_in (order.leave q) h a i = elim i [ ]
  none_in order.fail h a i = elim i [ ]
  none_in (order.otherwise s t) h a i = none_in_two (actions_in s) (actions_in t) (none_in s h.0) (none_in t h.1) a i
  none_in (order.ending n y s) h a i = none_in s h a i
  none_in (order.passes l s) h a i = none_in s h a i

  no_end : (a : Act) → EndsVariable a → Declares a x → ⊥
  no_end (Dead y) e d = d
  no_end (Declare y) e d = e
  no_end (Read m p q) e d = e
  no_end (Write p t ss) e d = e
  no_end (Borrow k p q) e d = e
  no_end (Test p c) e d = e
  no_end (Call f ts q) e d = e
  no_end (Build w js ts q) e d = e
  no_end (Input q) e d = e
  no_end (Print t) e d = e
  no_end (Give t) e d = e

  pub walk_away : {s : Order} {u : List Action} {o : Out} → Undeclared s → Walk s u o → NoneIn u
  walk_away {s = s} h w a i = by (held w a i)
    where
      by : Own a (actions_in s) → Declares a.act x → ⊥
      by (inl k) = none_in s h a k
      by (inr k) = no_end a.act k

  -- ---- patterns

  testing_away : (S : Subject) (ts : List PartTest) (r : Order) → Undeclared r → Undeclared (testing S ts r)
  testing_away S [] r h = h
  testing_away S (t ∷ ts) r h = ((λ d. d), (testing_away S ts r h, tt))

  pub taking_away : (n : ℕ) (m : Mode) (S : Subject) (ss : List Step) (d : Temporary) → Undeclared (perhaps n (taking m S ss d))
  taking_away n (by_reference v) S ss d = λ q. q
  taking_away n (by_value v) (in_place p) ss d = λ q. q
  taking_away n (by_value v) (in_temporary t) ss d = tt

  binding_away : (S : Subject) (bs : List Binding) (n : ℕ) (r : Order) → Away (all_declared (map (λ (b : Binding). b.variable) bs)) → Undeclared r → Undeclared (binding S bs n r)
  binding_away S [] n r i h = h
  binding_away S (b ∷ bs) n r i h = (taking_away b.node b.mode S b.steps (temporary_at b.node 0), (i.0, ((λ d. d), binding_away S bs n r i.1 h)))

  declaring_away : (s : ℕ) (ys : List ℕ) (n : ℕ) (r : Order) → Away (all_declared ys) → Undeclared r → Undeclared (declaring s ys n r)
  declaring_away s [] n r i h = h
  declaring_away s (y ∷ ys) n r i h = (i.0, declaring_away s ys n r i.1 h)

  -- ---- trees, with marks in front of jumps out of these loops, and behind what is returned

  module _ (ls : List ℕ) where
    jump_away : (m : Mark) (l : ℕ) (again : Bool) (d : Temporary) → Undeclared (order (if is_among l ls then mark_then (leaves (jump_exit l again)) (jump m l again) else jump m l again) d)
    jump_away m l again d = by (is_among l ls)
      where
        by : (b : Bool) → Undeclared (order (if b then mark_then (leaves (jump_exit l again)) (jump m l again) else jump m l again) d)
        by true = ((tt, λ q. q), tt)
        by false = tt

    mutual
      pub exp_away : (e : Exp) (d : Temporary) → Away (occurrences e) → Undeclared (order (changed (marking ls) e) d)
      exp_away (read m v p) d h = λ q. q
      exp_away (borrow m b p) d h = λ q. q
      exp_away (share m e) d h = (exp_away e (temporary_at m.node 1) h, λ q. q)
      exp_away (build m v es) d h = (all_away es h, λ q. q)
      exp_away (unit m) d h = tt
      exp_away (lazily m b e f) d h =
          let C = marking ls in (
            exp_away e (temporary_of (changed C e)) (away_front (occurrences e) (occurrences f) h),
            (
              (λ q. q),
              ((exp_away f (temporary_of (changed C f)) (away_rest (occurrences e) (occurrences f) h), tt), λ q. q),
            ),
          )
      exp_away (assign m p e) d h = (exp_away e (temporary_of (changed (marking ls) e)) (away_rest (named_place p) (occurrences e) h), λ q. q)
      exp_away (update m o p e) d h = (exp_away e (temporary_of (changed (marking ls) e)) (away_rest (named_place p) (occurrences e) h), ((λ q. q), ((λ q. q), λ q. q)))
      exp_away (call m f es) d h = (all_away es h, λ q. q)
      exp_away (input m) d h = λ q. q
      exp_away (print m e) d h = (exp_away e (temporary_of (changed (marking ls) e)) h, λ q. q)
      exp_away (block m b) d h = body_away b m.node d h
      exp_away (choose m s l) d h = (
        matched_away s (away_front (occurrences_matched s) (occurrences_armed l) h),
        arms_away (subject (changed_matched (marking ls) s)) l d
            (away_rest (occurrences_matched s) (occurrences_armed l) h),
      )
      exp_away (loop m l e) d h = exp_away e (temporary_of (changed (marking ls) e)) h
      exp_away (jump m l again) d h = jump_away m l again d
      exp_away (give m e) d h = ((exp_away e (temporary_of (changed (marking ls) e)) h, ((tt, λ q. q), tt)), ((λ q. q), tt))

      all_away : (es : Operands) → Away (occurrences_in es) → Undeclared (order_all (changed_all (marking ls) es))
      all_away no_operand h = tt
      all_away (operand_and i e es) h = (
        exp_away e (temporary_of (changed (marking ls) e)) (away_front (occurrences e) (occurrences_in es) h),
        all_away es
            (away_rest (occurrences e) (occurrences_in es) h),
      )

      pub matched_away : (s : Scrutinee) → Away (occurrences_matched s) → Undeclared (order_scrutinee (changed_matched (marking ls) s))
      matched_away (at_place m p) h = tt
      matched_away (of_value e) h = exp_away e (temporary_of (changed (marking ls) e)) h

      arms_away : (S : Subject) (l : Arms) (d : Temporary) → Away (occurrences_armed l) → Undeclared (order_arms S (changed_arms (marking ls) l) d)
      arms_away S no_arm d h = tt
      arms_away S (arm_and p e l) d h =
          let C = marking ls in
          let r : Order = order (changed C e) d in
          let i = away_rest (all_declared (bound p)) (occurrences e ++ occurrences_armed l) h in (
            testing_away S (tests [] p) (binding S (bindings [] p) (mark_of (changed C e)).node r)
                (binding_away S (bindings [] p) (mark_of (changed C e)).node r (away_front (all_declared (bound p)) (occurrences e ++ occurrences_armed l) h)
                (exp_away e d (away_front (occurrences e) (occurrences_armed l) i))),
            arms_away S l d (away_rest (occurrences e) (occurrences_armed l) i),
          )

      body_away : (b : Body) (n : ℕ) (d : Temporary) → Away (occurrences_of b) → Undeclared (order_body (changed_body (marking ls) b) n d)
      body_away (ends e) n d h = exp_away e d h
      body_away (runs e b) n d h = (
        exp_away e (temporary_of (changed (marking ls) e)) (away_front (occurrences e) (occurrences_of b) h),
        body_away b n d
            (away_rest (occurrences e) (occurrences_of b) h),
      )
      body_away (declares s ys b) n d h =
          declaring_away s ys n (order_body (changed_body (marking ls) b) n d) (away_front (all_declared ys) (occurrences_of b) h) (body_away b n d (away_rest (all_declared ys) (occurrences_of b) h))
      body_away (lets s p c b) n d h =
          let i = away_rest (all_declared (bound p)) (occurrences_matched c ++ occurrences_of b) h in (
            matched_away c (away_front (occurrences_matched c) (occurrences_of b) i),
            binding_away (subject (changed_matched (marking ls) c)) (bindings [] p) n (order_body (changed_body (marking ls) b) n d)
                (away_front (all_declared (bound p)) (occurrences_matched c ++ occurrences_of b) h) (body_away b n d (away_rest (occurrences_matched c) (occurrences_of b) i)),
          )

    -- ---- a tail, with the mark of the run's end behind its value

    ended_away : (e : Exp) (d : Temporary) → Away (occurrences e) → Undeclared (order (then_mark (leaves next) (changed (marking ls) e)) d)
    ended_away e d h = (exp_away e (temporary_of (changed (marking ls) e)) h, ((tt, λ q. q), tt))

    given_away : (t : Bool) (m : Mark) (e : Exp) (d : Temporary) → Away (occurrences (if t then e else give m e))
        → Undeclared (order (if t then give m (then_mark (leaves next) (changed (marking ls) e)) else then_mark (leaves next) (changed (marking ls) (give m e))) d)
    given_away true m e d h = (ended_away e (temporary_of (changed (marking ls) e)) h, ((λ q. q), tt))
    given_away false m e d h = ended_away (give m e) d h

    pub value_away : (n : ℕ) (v : Exp) (d : Temporary) → Away (occurrences (written_tail n v)) → Undeclared (order (ended_value n ls v) d)
    value_away n (read m v p) d h = ended_away (read m v p) d h
    value_away n (borrow m b p) d h = ended_away (borrow m b p) d h
    value_away n (share m e) d h = ended_away (share m e) d h
    value_away n (build m w es) d h = ended_away (build m w es) d h
    value_away n (unit m) d h = ended_away (unit m) d h
    value_away n (lazily m b e f) d h = ended_away (lazily m b e f) d h
    value_away n (assign m p e) d h = ended_away (assign m p e) d h
    value_away n (update m o p e) d h = ended_away (update m o p e) d h
    value_away n (call m f es) d h = ended_away (call m f es) d h
    value_away n (input m) d h = ended_away (input m) d h
    value_away n (print m e) d h = ended_away (print m e) d h
    value_away n (block m b) d h = ended_away (block m b) d h
    value_away n (choose m s l) d h = ended_away (choose m s l) d h
    value_away n (loop m l e) d h = ended_away (loop m l e) d h
    value_away n (jump m l again) d h = ended_away (jump m l again) d h
    value_away n (give m e) d h = given_away (m.node == n) m e d h
