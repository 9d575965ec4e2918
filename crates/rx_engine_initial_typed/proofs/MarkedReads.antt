-- The run's statements read by type with the marks of the run in front of jumps too, where their function does: marks read nothing.
use Rattle.std.specs.Prelude.{take, drop}
use Rattle.std.proofs.Common.{◌≡◌, ◌⊎◌, inl, inr, ℕ, zero, suc, Bool, true, false, if◌then◌else◌, List, [], ◌∷◌, map, refl, sym, ◌∙◌, subst, ap}
use Rattle.rx_typed.specs.Tree as tree
use Rattle.rx_typed.specs.Tree.{Mark, Temporary, Place, Exp, Operands, Scrutinee, Arms, Body, Parameter, variable, mark_of, temporary_of, temporary_at}
use Rattle.rx_lower_walks.specs.Matching.{PartTest, Binding, tests, bindings}
use Rattle.rx_lower_walks.specs.Actions.{Act, Declare, Read, Borrow, Input, Action, does, at_mark, Subject, subject, test_of, declared, written}
use Rattle.rx_lower_walks.specs.Actions.{in_temporary as subject_in}
use Rattle.rx_lower_walks.specs.Orders.{Order, testing, binding, declaring, order_all, order_scrutinee, order_arms, order_body, order_function}
use Rattle.rx_lower_walks.specs.Orders as order
use Rattle.rx_lower_walks.specs.Walks.{Among, here, there, actions_in}
use Rattle.rx_facts_tables.specs.Places.{Frame}
use Rattle.rx_exits_plan.specs.Blocks as block
use Rattle.rx_exits_plan.specs.Blocks.{Statement, statements, tail}
use Rattle.rx_exits_plan.specs.Runs.{inside}
use Rattle.rx_exits_plan.specs.Spots.{a_block, spots_of_function}
use Rattle.rx_exits_plan.specs.Points.{jump_exit, leaves}
use Rattle.rx_exits_plan.specs.Changed.{changed, changed_all, changed_matched, changed_arms, changed_body, changed_statement}
use Rattle.rx_exits_plan.specs.Marked.{mark_then, is_among}
use Rattle.rx_exits_plan.specs.Asked.{Asked}
use Rattle.rx_engine_simulation.specs.Blocks.{before}
use Rattle.rx_engine_related.specs.Running.{passing}
use Rattle.rx_engine_initial_related.specs.Moving.{stretch_of}
use Rattle.rx_engine_initial_related.proofs.InBlocks.{OfParts, in_function}
use Rattle.rx_engine_initial_related.proofs.Lists.{split}
use Rattle.rx_engine_initial_typed.specs.ByType.{MovesByType, ReadsByType}
use Rattle.rx_engine_initial_typed.proofs.Moves.{of_first, of_second, of_one, of_tested, of_next, of_ending, of_pass, behind_bindings, behind_declared, behind_tests}

abbrev IsRead : Act → Type 0
IsRead (Read v p d) = Unit {0}
IsRead _ = ⊥

only : {a b : Action} → Among a (b ∷ []) → a ≡ b
only here = refl
only (there i) = elim i [ ]

either : {A B P : Type 0} → A ⊎ B → (A → P) → (B → P) → P
either (inl a) f g = f a
either (inr b) f g = g b

pub body_is : (b : Body) → block.before (statements b) (tree.ends (tail b)) ≡ b
body_is (tree.ends e) = refl
body_is (tree.runs e b) = ap (λ c. tree.runs e c) (body_is b)
body_is (tree.declares s xs b) = ap (λ c. tree.declares s xs c) (body_is b)
body_is (tree.lets s p d b) = ap (λ c. tree.lets s p d c) (body_is b)

-- marks in front of jumps leave the temporaries where they were
module _ (ls : List ℕ) where
  mark_kept : (e : Exp) → mark_of (changed (passing ls) e) ≡ mark_of e
  mark_kept (tree.read m v p) = refl
  mark_kept (tree.borrow m b p) = refl
  mark_kept (tree.share m e) = refl
  mark_kept (tree.build m w es) = refl
  mark_kept (tree.unit m) = refl
  mark_kept (tree.lazily m b e f) = refl
  mark_kept (tree.assign m p e) = refl
  mark_kept (tree.update m o p e) = refl
  mark_kept (tree.call m f es) = refl
  mark_kept (tree.input m) = refl
  mark_kept (tree.print m e) = refl
  mark_kept (tree.block m b) = refl
  mark_kept (tree.choose m s l) = refl
  mark_kept (tree.loop m l e) = refl
  mark_kept (tree.jump m l again) = by (is_among l ls)
    where
      by : (t : Bool) → mark_of (if t then mark_then (leaves (jump_exit l again)) (tree.jump m l again) else tree.jump m l again) ≡ m
      by true = refl
      by false = refl
  mark_kept (tree.give m e) = refl

  subject_kept : (c : Scrutinee) → subject (changed_matched (passing ls) c) ≡ subject c
  subject_kept (tree.at_place m p) = refl
  subject_kept (tree.of_value e) = ap (λ (m : Mark). subject_in (temporary_at m.node 0)) (mark_kept e)

module _ {F : Frame} where
  -- ---- parts that read by type, put together

  none : ReadsByType F order.nothing
  none = record { each = λ a x p v d i e q. elim i [ ] }

  leaving : {x : order.Exit} → ReadsByType F (order.leave x)
  leaving = record { each = λ a x p v d i e q. elim i [ ] }

  nowhere : ReadsByType F order.nowhere
  nowhere = record { each = λ a x p v d i e q. elim i [ ] }

  failing : ReadsByType F order.fail
  failing = record { each = λ a x p v d i e q. elim i [ ] }

  other : (a : Action) → (IsRead a.act → ⊥) → ReadsByType F (order.act a)
  other a n = record { each = λ b x p v d i e q. absurd (n (subst (λ (c : Act). IsRead c) (sym (ap (λ (c : Action). c.act) (sym (only i)) ∙ e)) tt)) }

  pub both : {s t : Order} → ReadsByType F s → ReadsByType F t → ReadsByType F (order.then s t)
  both {s = s} {t = t} g h = record { each = λ a x p v d i e q. either (split (actions_in s) (actions_in t) i) (λ j. g.each a x p v d j e q) (λ j. h.each a x p v d j e q) }

  one_or : {s t : Order} → ReadsByType F s → ReadsByType F t → ReadsByType F (order.or s t)
  one_or {s = s} {t = t} g h = record { each = λ a x p v d i e q. either (split (actions_in s) (actions_in t) i) (λ j. g.each a x p v d j e q) (λ j. h.each a x p v d j e q) }

  or_next : {s t : Order} → ReadsByType F s → ReadsByType F t → ReadsByType F (order.otherwise s t)
  or_next {s = s} {t = t} g h = record { each = λ a x p v d i e q. either (split (actions_in s) (actions_in t) i) (λ j. g.each a x p v d j e q) (λ j. h.each a x p v d j e q) }

  ended : {n x : ℕ} {s : Order} → ReadsByType F s → ReadsByType F (order.ending n x s)
  ended g = record { each = g.each }

  passed : {l : ℕ} {s : Order} → ReadsByType F s → ReadsByType F (order.passes l s)
  passed g = record { each = g.each }

  -- wherever the value goes
  read_to : (m : Mark) (v : Bool) (p : Place) (f d : Temporary) → ReadsByType F (order.act (at_mark m (Read v p f))) → ReadsByType F (order.act (at_mark m (Read v p d)))
  read_to m v p f d h = record { each = λ a x q w u i e r. moved q w u x (sym (ap (λ (c : Action). c.act) (only i)) ∙ e) r }
    where
      moved : (q : Place) (w : Bool) (u : Temporary) (x : ℕ) → Read v p d ≡ Read w q u → q.root ≡ variable x → MovesByType F q w
      moved q w u x e r = let i : p ≡ q = cc in let j : v ≡ w = cc in
          subst (λ (c : Bool). MovesByType F q c) j (subst (λ (c : Place). MovesByType F c v) i (h.each (at_mark m (Read v p f)) x p v f here refl (ap (λ (c : Place). c.root) i ∙ r)))

  tested : (X : Subject) (us : List PartTest) (rest : Order) → ReadsByType F rest → ReadsByType F (testing X us rest)
  tested X [] rest h = h
  tested X (t ∷ us) rest h = both (other (test_of X t) (λ z. z)) (one_or (tested X us rest h) failing)

  bound : (X : Subject) (bs : List Binding) (n m : ℕ) (a b : Order) → ReadsByType F (binding X bs n a) → ReadsByType F b → ReadsByType F (binding X bs m b)
  bound X [] n m a b h g = g
  bound X (c ∷ bs) n m a b h g = both (of_first h) (both (other (declared c) (λ z. z)) (both (other (written X c) (λ z. z)) (ended (bound X bs n m a b (of_ending (of_second (of_second (of_second h)))) g))))

  declares : (k : ℕ) (xs : List ℕ) (n : ℕ) (b : Order) → ReadsByType F b → ReadsByType F (declaring k xs n b)
  declares k [] n b g = g
  declares k (x ∷ xs) n b g = both (other (does k (Declare x)) (λ z. z)) (ended (declares k xs n b g))

  -- ---- with marks in front of jumps

  module _ (ls : List ℕ) where
    jump_reads : (t : Bool) (m : Mark) (l : ℕ) (again : Bool) (d : Temporary) → ReadsByType F (order.order (if t then mark_then (leaves (jump_exit l again)) (tree.jump m l again) else tree.jump m l again) d)
    jump_reads true m l again d = both (both none (other _ (λ z. z))) leaving
    jump_reads false m l again d = leaving

    mutual
      pub with_marks : (e : Exp) (f d : Temporary) → ReadsByType F (order.order e f) → ReadsByType F (order.order (changed (passing ls) e) d)
      with_marks (tree.read m v p) f d h = read_to m v p f d h
      with_marks (tree.borrow m b p) f d h = other (at_mark m (Borrow b p d)) (λ z. z)
      with_marks (tree.share m e) f d h = both (with_marks e (temporary_at m.node 1) (temporary_at m.node 1) (of_first h)) (other _ (λ z. z))
      with_marks (tree.build m w es) f d h = both (all_with_marks es (of_first h)) (other _ (λ z. z))
      with_marks (tree.unit m) f d h = none
      with_marks (tree.lazily m b e g) f d h = both (with_marks e (temporary_of e) (temporary_of (changed (passing ls) e)) (of_first h)) (both (other _ (λ z. z))
          (both (one_or (with_marks g (temporary_of g) (temporary_of (changed (passing ls) g)) (of_one (of_first (of_second (of_second h))))) none) (other _ (λ z. z))))
      with_marks (tree.assign m p e) f d h = both (with_marks e (temporary_of e) (temporary_of (changed (passing ls) e)) (of_first h)) (other _ (λ z. z))
      with_marks (tree.update m o p e) f d h = both (with_marks e (temporary_of e) (temporary_of (changed (passing ls) e)) (of_first h))
          (both (of_first (of_second h)) (both (other _ (λ z. z)) (other _ (λ z. z))))
      with_marks (tree.call m g es) f d h = both (all_with_marks es (of_first h)) (other _ (λ z. z))
      with_marks (tree.input m) f d h = other (at_mark m (Input d)) (λ z. z)
      with_marks (tree.print m e) f d h = both (with_marks e (temporary_of e) (temporary_of (changed (passing ls) e)) (of_first h)) (other _ (λ z. z))
      with_marks (tree.block m b) f d h = body_with_marks b m.node f d h
      with_marks (tree.choose m s l) f d h = both (matched_with_marks s (of_first h))
          (subst (λ X. ReadsByType F (order_arms X (changed_arms (passing ls) l) d)) (sym (subject_kept ls s)) (arms_with_marks (subject s) l f d (of_second h)))
      with_marks (tree.loop m l e) f d h = passed (with_marks e (temporary_of e) (temporary_of (changed (passing ls) e)) (of_pass h))
      with_marks (tree.jump m l again) f d h = jump_reads (is_among l ls) m l again d
      with_marks (tree.give m e) f d h = both (with_marks e (temporary_of e) (temporary_of (changed (passing ls) e)) (of_first h)) (both (other _ (λ z. z)) leaving)

      all_with_marks : (es : Operands) → ReadsByType F (order_all es) → ReadsByType F (order_all (changed_all (passing ls) es))
      all_with_marks tree.no_operand h = none
      all_with_marks (tree.operand_and i e es) h = both (with_marks e (temporary_of e) (temporary_of (changed (passing ls) e)) (of_first h)) (all_with_marks es (of_second h))

      matched_with_marks : (s : Scrutinee) → ReadsByType F (order_scrutinee s) → ReadsByType F (order_scrutinee (changed_matched (passing ls) s))
      matched_with_marks (tree.at_place m p) h = none
      matched_with_marks (tree.of_value e) h = with_marks e (temporary_of e) (temporary_of (changed (passing ls) e)) h

      arms_with_marks : (X : Subject) (l : Arms) (f d : Temporary) → ReadsByType F (order_arms X l f) → ReadsByType F (order_arms X (changed_arms (passing ls) l) d)
      arms_with_marks X tree.no_arm f d h = nowhere
      arms_with_marks X (tree.arm_and p e l) f d h =
          let k = behind_tests X (tests [] p) (binding X (bindings [] p) (mark_of e).node (order.order e f)) (of_tested h) in
          or_next (tested X (tests [] p) (binding X (bindings [] p) (mark_of (changed (passing ls) e)).node (order.order (changed (passing ls) e) d))
          (bound X (bindings [] p) (mark_of e).node (mark_of (changed (passing ls) e)).node (order.order e f) (order.order (changed (passing ls) e) d) k (with_marks e f d (behind_bindings X (bindings [] p) (mark_of e).node (order.order e f) k)))) (arms_with_marks X l f d (of_next h))

      body_with_marks : (b : Body) (n : ℕ) (f d : Temporary) → ReadsByType F (order_body b n f) → ReadsByType F (order_body (changed_body (passing ls) b) n d)
      body_with_marks (tree.ends e) n f d h = with_marks e f d h
      body_with_marks (tree.runs e b) n f d h = both (with_marks e (temporary_of e) (temporary_of (changed (passing ls) e)) (of_first h)) (body_with_marks b n f d (of_second h))
      body_with_marks (tree.declares s xs b) n f d h = declares s xs n (order_body (changed_body (passing ls) b) n d) (body_with_marks b n f d (behind_declared s xs n (order_body b n f) h))
      body_with_marks (tree.lets s p c b) n f d h = both (matched_with_marks c (of_first h))
          (subst (λ X. ReadsByType F (binding X (bindings [] p) n (order_body (changed_body (passing ls) b) n d))) (sym (subject_kept ls c))
          (bound (subject c) (bindings [] p) n n (order_body b n f) (order_body (changed_body (passing ls) b) n d) (of_second h) (body_with_marks b n f d (behind_bindings (subject c) (bindings [] p) n (order_body b n f) (of_second h)))))

    -- the first statements of a block, in front of nothing else that reads
    pub first_with_marks : (i : ℕ) (ss : List Statement) (b c : Body) (n : ℕ) (f d : Temporary) → ReadsByType F (order_body (block.before ss b) n f) → ReadsByType F (order_body c n d)
        → ReadsByType F (order_body (before (stretch_of (map (changed_statement (passing ls)) (take i ss))) c) n d)
    first_with_marks zero ss b c n f d h g = g
    first_with_marks (suc i) [] b c n f d h g = g
    first_with_marks (suc i) (block.does e ∷ ss) b c n f d h g = both (with_marks e (temporary_of e) (temporary_of (changed (passing ls) e)) (of_first h)) (first_with_marks i ss b c n f d (of_second h) g)
    first_with_marks (suc i) (block.begins s xs ∷ ss) b c n f d h g =
        declares s xs n (order_body (before (stretch_of (map (changed_statement (passing ls)) (take i ss))) c) n d) (first_with_marks i ss b c n f d (behind_declared s xs n (order_body (block.before ss b) n f) h) g)
    first_with_marks (suc i) (block.binds s p e ∷ ss) b c n f d h g = both (matched_with_marks e (of_first h))
        (subst (λ X. ReadsByType F (binding X (bindings [] p) n (order_body (before (stretch_of (map (changed_statement (passing ls)) (take i ss))) c) n d))) (sym (subject_kept ls e))
        (bound (subject e) (bindings [] p) n n (order_body (block.before ss b) n f) (order_body (before (stretch_of (map (changed_statement (passing ls)) (take i ss))) c) n d) (of_second h)
        (first_with_marks i ss b c n f d (behind_bindings (subject e) (bindings [] p) n (order_body (block.before ss b) n f) (of_second h)) g)))

  pub behind_first : (i : ℕ) (ss : List Statement) (b : Body) (n : ℕ) (f : Temporary) → ReadsByType F (order_body (block.before ss b) n f) → ReadsByType F (order_body (block.before (drop i ss) b) n f)
  behind_first zero ss b n f h = h
  behind_first (suc i) [] b n f h = h
  behind_first (suc i) (block.does e ∷ ss) b n f h = behind_first i ss b n f (of_second h)
  behind_first (suc i) (block.begins s xs ∷ ss) b n f h = behind_first i ss b n f (behind_declared s xs n (order_body (block.before ss b) n f) h)
  behind_first (suc i) (block.binds s p e ∷ ss) b n f h = behind_first i ss b n f (behind_bindings (subject e) (bindings [] p) n (order_body (block.before ss b) n f) (of_second h))

  pub parts_read : OfParts (ReadsByType F)
  parts_read = record { first = λ h. of_first h; second = λ h. of_second h; one = λ h. of_one h; tested = λ h. of_tested h; next = λ h. of_next h; ended = λ h. of_ending h; pass = λ h. of_pass h }

-- so the run's statements with the marks of the run
pub run_reads : (F : Frame) (A : Asked) → ReadsByType F (order_function A.function) → Among (a_block A.home.around A.run.block A.home.body) (spots_of_function A.function) → (m : Mark)
    → (f : Temporary) × ReadsByType F (order_body (before (stretch_of (map (changed_statement (passing A.home.around.loops)) (inside A.run A.home.body))) (tree.ends (tree.unit m))) A.run.block f)
run_reads F A h i m =
    let z = in_function (ReadsByType F) parts_read A.function h A.home.around A.run.block A.home.body i in (
      z.0,
      first_with_marks A.home.around.loops A.run.count (drop A.run.first (statements A.home.body)) (tree.ends (tail A.home.body)) (tree.ends (tree.unit m)) A.run.block z.0 z.0
          (behind_first A.run.first (statements A.home.body) (tree.ends (tail A.home.body)) A.run.block z.0 (subst (λ b. ReadsByType F (order_body b A.run.block z.0)) (sym (body_is A.home.body)) z.1)) none,
    )
