-- The end of a run with its block's tail is told at one place of its text, at most: form by form, an order tells it no more often than its tree has
-- blocks of the run's node.
use Rattle.std.proofs.Common.{◌≡◌, ℕ, zero, suc, ◌+◌, ◌*◌, ◌≤◌, ◌==◌, if◌then◌else◌, Bool, true, false, ◌||◌, List, [], ◌∷◌, ◌++◌, map, take, drop, refl, sym, ap, ◌∙◌, subst, arith, true≢false}
use Rattle.rx_core.specs.declared.types.Step.{Step}
use Rattle.rx_typed.specs.Tree.{Temporary, Mode, by_value, by_reference, Making, Mark, Exp, read, borrow, share, build, unit, lazily, assign, update, call, input, print, block, choose, loop, jump, give, Operands, no_operand, operand_and, Scrutinee, at_place, of_value, Arms, no_arm, arm_and, Body, ends, runs, declares, lets, Parameter, Function, mark_of, temporary_at, temporary_of, temporaries_of, fields_of}
use Rattle.rx_lower_walks.specs.Matching.{PartTest, Binding, tests, bindings}
use Rattle.rx_lower_walks.specs.Actions.{Build, Action, Subject, in_place, in_temporary, subject, taking, at_mark}
use Rattle.rx_lower_walks.specs.Orders.{Order, testing, perhaps, binding, declaring, order, order_all, order_scrutinee, order_arms, order_body, beginning, order_function}
use Rattle.rx_lower_walks.specs.Orders as orders
use Rattle.rx_lower_walks.specs.Walks.{actions_in, Among, here}
use Rattle.rx_exits_plan.specs.Blocks.{Statement, does, begins, binds, statements, tail, before}
use Rattle.rx_exits_plan.specs.Spots.{Around, Spot, a_block, a_jump, a_return, spots, spots_in, spots_matched, spots_armed, spots_of, outermost, spots_of_function, with_variables, with_loop}
use Rattle.rx_exits_plan.specs.Blocks.{bound}
use Rattle.rx_exits_plan.specs.Runs.{Run, in_front, inside, behind}
use Rattle.rx_exits_plan.specs.Points.{leaves, jump_exit, number}
use Rattle.rx_exits_plan.specs.Changed.{Changes, changed, changed_all, changed_matched, changed_arms, changed_body, changed_statement}
use Rattle.rx_exits_plan.specs.Marked.{mark_then, is_among, using, entering}
use Rattle.rx_exits_plan.specs.Unmarked.{is_mark}
use Rattle.rx_exits_plan.specs.Coming.{HasNoMark}
use Rattle.rx_exits_plan.specs.Asked.{Asked}
use Rattle.rx_engine_simulation.specs.Passed.{let_pass}
use Rattle.rx_engine_related.specs.OneSite.{blocks_at}
use Rattle.rx_engine_related.specs.Running.{passing}
use Rattle.rx_engine_related.specs.Tailed.{passing_value, tailed_body, in_the_tailed_block, tailed, lets_pass, tells_end, one_if, tells, HasNoPass, TellsOnce}
use Rattle.rx_engine_related.proofs.Bare.{in_first, in_second}
use Rattle.rx_engine_related.proofs.Sole.{differ}

abbrev told : Order → ℕ
told s = tells tells_end s

-- ---- patterns

testing_told : (S : Subject) (ts : List PartTest) (r : Order) → told (testing S ts r) ≡ told r
testing_told S [] r = refl
testing_told S (t ∷ ts) r = let h = testing_told S ts r in omega (arith, h)

taking_told : (n : ℕ) (m : Mode) (S : Subject) (ss : List Step) (d : Temporary) → told (perhaps n (taking m S ss d)) ≡ 0
taking_told n (by_reference v) S ss d = refl
taking_told n (by_value v) (in_place p) ss d = refl
taking_told n (by_value v) (in_temporary t) ss d = refl

binding_told : (S : Subject) (bs : List Binding) (n : ℕ) (r : Order) → told (binding S bs n r) ≡ told r
binding_told S [] n r = refl
binding_told S (b ∷ bs) n r = let h = binding_told S bs n r in let t = taking_told b.node b.mode S b.steps (temporary_at b.node 0) in omega (arith, h, t)

declaring_told : (s : ℕ) (xs : List ℕ) (n : ℕ) (r : Order) → told (declaring s xs n r) ≡ told r
declaring_told s [] n r = refl
declaring_told s (x ∷ xs) n r = let h = declaring_told s xs n r in omega (arith, h)

beginning_told : (ps : List Parameter) (n : ℕ) (r : Order) → told (beginning ps n r) ≡ told r
beginning_told [] n r = refl
beginning_told (p ∷ ps) n r = let h = beginning_told ps n r in omega (arith, h)

-- ---- trees

-- blocks by weights
abbrev weighed : (ℕ → Body → ℕ) → List Spot → ℕ
weighed w [] = 0
weighed w (a_block a n b ∷ ss) = w n b + weighed w ss
weighed w (a_jump a n l again ∷ ss) = weighed w ss
weighed w (a_return a n ∷ ss) = weighed w ss

weighed_both : (w : ℕ → Body → ℕ) (l m : List Spot) → weighed w (l ++ m) ≡ weighed w l + weighed w m
weighed_both w [] m = omega arith
weighed_both w (a_block a n b ∷ l) m = let h = weighed_both w l m in omega (arith, h)
weighed_both w (a_jump a n k again ∷ l) m = weighed_both w l m
weighed_both w (a_return a n ∷ l) m = weighed_both w l m

-- what is put at blocks and jumps tells it no more often than the weights say
record Light (C : Changes) (w : ℕ → Body → ℕ) : Type 0 where
  jump_mark : (m : Mark) (l : ℕ) (again : Bool) → mark_of (C.at_jump m l again) ≡ m
  at_return : (e : Exp) → C.at_return e ≡ e
  at_block : (n : ℕ) (was b : Body) (d f : Temporary) (i : ℕ) → told (order_body was n f) ≡ 0 → told (order_body b n d) ≤ i → told (order_body (C.at_block n was b) n d) ≤ w n was + i
  at_jump : (m : Mark) (l : ℕ) (again : Bool) (d : Temporary) → told (order (C.at_jump m l again) d) ≡ 0

module _ (C : Changes) (w : ℕ → Body → ℕ) (K : Light C w) where
  same : (e : Exp) → mark_of (changed C e) ≡ mark_of e
  same (read m v p) = refl
  same (borrow m b p) = refl
  same (share m e) = refl
  same (build m v es) = refl
  same (unit m) = refl
  same (lazily m b e f) = refl
  same (assign m p e) = refl
  same (update m o p e) = refl
  same (call m f es) = refl
  same (input m) = refl
  same (print m e) = refl
  same (block m b) = refl
  same (choose m s l) = refl
  same (loop m l e) = refl
  same (jump m l again) = K.jump_mark m l again
  same (give m e) = refl

  same_temporaries : (es : Operands) → temporaries_of (changed_all C es) ≡ temporaries_of es
  same_temporaries no_operand = refl
  same_temporaries (operand_and i e es) = ap (λ (m : Mark). temporary_at m.node 0 ∷ temporaries_of (changed_all C es)) (same e) ∙ ap (λ l. temporary_of e ∷ l) (same_temporaries es)

  same_fields : (es : Operands) → fields_of (changed_all C es) ≡ fields_of es
  same_fields no_operand = refl
  same_fields (operand_and i e es) = ap (λ l. i ∷ l) (same_fields es)

  built : (m : Mark) (v : Making) (es : Operands) (d f : Temporary) → one_if (tells_end (at_mark m (Build v (fields_of (changed_all C es)) (temporaries_of (changed_all C es)) d))) ≡ one_if (tells_end (at_mark m (Build v (fields_of es) (temporaries_of es) f)))
  built m v es d f = ap (λ is. one_if (tells_end (at_mark m (Build v is (temporaries_of (changed_all C es)) d)))) (same_fields es) ∙ ap (λ ts. one_if (tells_end (at_mark m (Build v (fields_of es) ts d)))) (same_temporaries es)

  mutual
    few : (e : Exp) (a : Around) (d f : Temporary) → told (order e f) ≡ 0 → told (order (changed C e) d) ≤ weighed w (spots a e)
    few (read m v p) a d f h = omega arith
    few (borrow m b p) a d f h = omega arith
    few (share m e) a d f h = let x = few e a (temporary_at m.node 1) (temporary_at m.node 1) (omega (arith, h)) in omega (arith, x)
    few (build m v es) a d f h = let x = few_all es a (omega (arith, h)) in let y = built m v es d f in omega (arith, x, y, h)
    few (unit m) a d f h = omega arith
    few (lazily m b e g) a d f h =
        let x = few e a (temporary_of (changed C e)) (temporary_of e) (omega (arith, h)) in let y = few g a (temporary_of (changed C g)) (temporary_of g) (omega (arith, h)) in let z = weighed_both w (spots a e) (spots a g) in omega (arith, x, y, z)
    few (assign m p e) a d f h = let x = few e a (temporary_of (changed C e)) (temporary_of e) (omega (arith, h)) in omega (arith, x)
    few (update m o p e) a d f h = let x = few e a (temporary_of (changed C e)) (temporary_of e) (omega (arith, h)) in omega (arith, x)
    few (call m g es) a d f h = let x = few_all es a (omega (arith, h)) in omega (arith, x)
    few (input m) a d f h = omega arith
    few (print m e) a d f h = let x = few e a (temporary_of (changed C e)) (temporary_of e) (omega (arith, h)) in omega (arith, x)
    few (block m b) a d f h = K.at_block m.node b (changed_body C b) d f (weighed w (spots_of a b)) h (few_body b m.node a d f h)
    few (choose m s l) a d f h =
        let x = few_matched s a (omega (arith, h)) in let y = few_arms (subject s) (subject (changed_matched C s)) l a d f (omega (arith, h)) in let z = weighed_both w (spots_matched a s) (spots_armed a l) in omega (arith, x, y, z)
    few (loop m l e) a d f h = few e (with_loop l a) (temporary_of (changed C e)) (temporary_of e) h
    few (jump m l again) a d f h = let x = K.at_jump m l again d in omega (arith, x)
    few (give m e) a d f h =
        let x = few e a (temporary_of (changed C e)) (temporary_of e) (omega (arith, h)) in let z = weighed_both w (spots a e) (a_return a m.node ∷ []) in
        subst (λ c. told (order (give m c) d) ≤ weighed w (spots a (give m e))) (sym (K.at_return (changed C e))) (omega (arith, x, z))

    few_all : (es : Operands) (a : Around) → told (order_all es) ≡ 0 → told (order_all (changed_all C es)) ≤ weighed w (spots_in a es)
    few_all no_operand a h = omega arith
    few_all (operand_and i e es) a h =
        let x = few e a (temporary_of (changed C e)) (temporary_of e) (omega (arith, h)) in let y = few_all es a (omega (arith, h)) in let z = weighed_both w (spots a e) (spots_in a es) in omega (arith, x, y, z)

    few_matched : (s : Scrutinee) (a : Around) → told (order_scrutinee s) ≡ 0 → told (order_scrutinee (changed_matched C s)) ≤ weighed w (spots_matched a s)
    few_matched (at_place m p) a h = omega arith
    few_matched (of_value e) a h = few e a (temporary_of (changed C e)) (temporary_of e) h

    few_arms : (S T : Subject) (l : Arms) (a : Around) (d f : Temporary) → told (order_arms S l f) ≡ 0 → told (order_arms T (changed_arms C l) d) ≤ weighed w (spots_armed a l)
    few_arms S T no_arm a d f h = omega arith
    few_arms S T (arm_and p e l) a d f h =
        let q = testing_told S (tests [] p) (binding S (bindings [] p) (mark_of e).node (order e f)) in
        let r = binding_told S (bindings [] p) (mark_of e).node (order e f) in
        let x = few e (with_variables (bound p) a) d f (omega (arith, h, q, r)) in
        let y = few_arms S T l a d f (omega (arith, h)) in
        let z = weighed_both w (spots (with_variables (bound p) a) e) (spots_armed a l) in
        let t = testing_told T (tests [] p) (binding T (bindings [] p) (mark_of (changed C e)).node (order (changed C e) d)) in
        let b = binding_told T (bindings [] p) (mark_of (changed C e)).node (order (changed C e) d) in
        omega (arith, x, y, z, t, b)

    few_body : (b : Body) (n : ℕ) (a : Around) (d f : Temporary) → told (order_body b n f) ≡ 0 → told (order_body (changed_body C b) n d) ≤ weighed w (spots_of a b)
    few_body (ends e) n a d f h = few e a d f h
    few_body (runs e b) n a d f h =
        let x = few e a (temporary_of (changed C e)) (temporary_of e) (omega (arith, h)) in let y = few_body b n a d f (omega (arith, h)) in let z = weighed_both w (spots a e) (spots_of a b) in omega (arith, x, y, z)
    few_body (declares s xs b) n a d f h =
        let q = declaring_told s xs n (order_body b n f) in let x = few_body b n (with_variables xs a) d f (omega (arith, h, q)) in let y = declaring_told s xs n (order_body (changed_body C b) n d) in omega (arith, x, y)
    few_body (lets s p c b) n a d f h =
        let q = binding_told (subject c) (bindings [] p) n (order_body b n f) in
        let x = few_matched c a (omega (arith, h)) in
        let y = few_body b n (with_variables (bound p) a) d f (omega (arith, h, q)) in
        let z = weighed_both w (spots_matched a c) (spots_of (with_variables (bound p) a) b) in
        let t = binding_told (subject (changed_matched C c)) (bindings [] p) n (order_body (changed_body C b) n d) in
        omega (arith, x, y, z, t)

-- ---- inside the run nothing tells it

abbrev nowhere : Around
nowhere = record { scope = []; loops = [] }

weighs_none : (l : List Spot) → weighed (λ n b. 0) l ≡ 0
weighs_none [] = refl
weighs_none (a_block a n b ∷ l) = let h = weighs_none l in omega (arith, h)
weighs_none (a_jump a n k again ∷ l) = weighs_none l
weighs_none (a_return a n ∷ l) = weighs_none l

other_number : (l : ℕ) (again : Bool) → (number (leaves (jump_exit l again)) == 1) ≡ false
other_number l true = differ (4 + 2 * l) 1 (λ e. omega (arith, e))
other_number l false = differ (3 + 2 * l) 1 (λ e. omega (arith, e))

jump_told : (t : Bool) (m : Mark) (l : ℕ) (again : Bool) (d : Temporary) → told (order (if t then mark_then (leaves (jump_exit l again)) (jump m l again) else jump m l again) d) ≡ 0
jump_told true m l again d = let e = ap one_if (other_number l again) in omega (arith, e)
jump_told false m l again d = refl

jump_keeps : (t : Bool) (m : Mark) (l : ℕ) (again : Bool) → mark_of (if t then mark_then (leaves (jump_exit l again)) (jump m l again) else jump m l again) ≡ m
jump_keeps true m l again = refl
jump_keeps false m l again = refl

module _ (ls : List ℕ) where
  passing_light : Light (passing ls) (λ n b. 0)
  passing_light = record {
    jump_mark = λ m l again. jump_keeps (is_among l ls) m l again;
    at_return = λ e. refl;
    at_block = λ n was b d f i h c. omega (arith, c);
    at_jump = λ m l again d. jump_told (is_among l ls) m l again d;
  }

  none_inside : (e : Exp) (d f : Temporary) → told (order e f) ≡ 0 → told (order (changed (passing ls) e) d) ≡ 0
  none_inside e d f h = let x = few (passing ls) (λ n b. 0) passing_light e nowhere d f h in let z = weighs_none (spots nowhere e) in omega (arith, x, z)

  none_matched : (c : Scrutinee) → told (order_scrutinee c) ≡ 0 → told (order_scrutinee (changed_matched (passing ls) c)) ≡ 0
  none_matched c h = let x = few_matched (passing ls) (λ n b. 0) passing_light c nowhere h in let z = weighs_none (spots_matched nowhere c) in omega (arith, x, z)

  -- what is let pass tells it once
  passed_once : (e : Exp) (d f : Temporary) → told (order e f) ≡ 0 → told (order (let_pass (changed (passing ls) e)) d) ≤ 1
  passed_once e d f h = let x = none_inside e (temporary_of (changed (passing ls) e)) f h in omega (arith, x)

  given_once : (t : Bool) (m : Mark) (e : Exp) (d f : Temporary) → told (order (give m e) f) ≡ 0 → told (order (if t then give m (let_pass (changed (passing ls) e)) else let_pass (changed (passing ls) (give m e))) d) ≤ 1
  given_once true m e d f h = let x = passed_once e (temporary_of (changed (passing ls) e)) (temporary_of e) (omega (arith, h)) in omega (arith, x)
  given_once false m e d f h = passed_once (give m e) d f h

  value_once : (n : ℕ) (v : Exp) (d f : Temporary) → told (order v f) ≡ 0 → told (order (passing_value n ls v) d) ≤ 1
  value_once n (read m v p) d f h = passed_once (read m v p) d f h
  value_once n (borrow m k p) d f h = passed_once (borrow m k p) d f h
  value_once n (share m e) d f h = passed_once (share m e) d f h
  value_once n (build m w es) d f h = passed_once (build m w es) d f h
  value_once n (unit m) d f h = passed_once (unit m) d f h
  value_once n (lazily m b e g) d f h = passed_once (lazily m b e g) d f h
  value_once n (assign m p e) d f h = passed_once (assign m p e) d f h
  value_once n (update m o p e) d f h = passed_once (update m o p e) d f h
  value_once n (call m g es) d f h = passed_once (call m g es) d f h
  value_once n (input m) d f h = passed_once (input m) d f h
  value_once n (print m e) d f h = passed_once (print m e) d f h
  value_once n (block m b) d f h = passed_once (block m b) d f h
  value_once n (choose m s l) d f h = passed_once (choose m s l) d f h
  value_once n (loop m l e) d f h = passed_once (loop m l e) d f h
  value_once n (jump m l k) d f h = passed_once (jump m l k) d f h
  value_once n (give m e) d f h = given_once (m.node == n) m e d f h

  -- ---- statements

  abbrev Free : Statement → Type 0
  Free (does e) = told (order e (temporary_of e)) ≡ 0
  Free (begins s xs) = Unit {0}
  Free (binds s p c) = told (order_scrutinee c) ≡ 0

  abbrev AllFree : List Statement → Type 0
  AllFree [] = Unit {0}
  AllFree (s ∷ ss) = Free s × AllFree ss

  all_free : (b : Body) (n : ℕ) (d : Temporary) → told (order_body b n d) ≡ 0 → AllFree (statements b) × (told (order (tail b) d) ≡ 0)
  all_free (ends e) n d h = (tt, h)
  all_free (runs e b) n d h = let z = all_free b n d (omega (arith, h)) in (((omega (arith, h)), z.0), z.1)
  all_free (declares s xs b) n d h = let q = declaring_told s xs n (order_body b n d) in let z = all_free b n d (omega (arith, h, q)) in ((tt, z.0), z.1)
  all_free (lets s p c b) n d h = let q = binding_told (subject c) (bindings [] p) n (order_body b n d) in let z = all_free b n d (omega (arith, h, q)) in (((omega (arith, h)), z.0), z.1)

  take_free : (i : ℕ) (ss : List Statement) → AllFree ss → AllFree (take i ss)
  take_free zero ss h = tt
  take_free (suc i) [] h = tt
  take_free (suc i) (s ∷ ss) h = (h.0, take_free i ss h.1)

  drop_free : (i : ℕ) (ss : List Statement) → AllFree ss → AllFree (drop i ss)
  drop_free zero ss h = h
  drop_free (suc i) [] h = tt
  drop_free (suc i) (s ∷ ss) h = drop_free i ss h.1

  before_told : (ss : List Statement) (b : Body) (n : ℕ) (d : Temporary) → AllFree ss → told (order_body (before ss b) n d) ≡ told (order_body b n d)
  before_told [] b n d h = refl
  before_told (does e ∷ ss) b n d h = let x = h.0 in let y = before_told ss b n d h.1 in omega (arith, x, y)
  before_told (begins s xs ∷ ss) b n d h = let x = declaring_told s xs n (order_body (before ss b) n d) in let y = before_told ss b n d h.1 in omega (arith, x, y)
  before_told (binds s p c ∷ ss) b n d h =
      let x = h.0 in let t = binding_told (subject c) (bindings [] p) n (order_body (before ss b) n d) in let y = before_told ss b n d h.1 in omega (arith, x, y, t)

  inside_told : (ss : List Statement) (b : Body) (n : ℕ) (d : Temporary) → AllFree ss → told (order_body (before (map (changed_statement (passing ls)) ss) b) n d) ≡ told (order_body b n d)
  inside_told [] b n d h = refl
  inside_told (does e ∷ ss) b n d h = let x = none_inside e (temporary_of (changed (passing ls) e)) (temporary_of e) h.0 in let y = inside_told ss b n d h.1 in omega (arith, x, y)
  inside_told (begins s xs ∷ ss) b n d h = let x = declaring_told s xs n (order_body (before (map (changed_statement (passing ls)) ss) b) n d) in let y = inside_told ss b n d h.1 in omega (arith, x, y)
  inside_told (binds s p c ∷ ss) b n d h =
      let x = none_matched c h.0 in let t = binding_told (subject (changed_matched (passing ls) c)) (bindings [] p) n (order_body (before (map (changed_statement (passing ls)) ss) b) n d) in let y = inside_told ss b n d h.1 in omega (arith, x, y, t)

  reads_told : (ys : List ℕ) (b : Body) (n : ℕ) (d : Temporary) → told (order_body (before (map using ys) b) n d) ≡ told (order_body b n d)
  reads_told [] b n d = refl
  reads_told (y ∷ ys) b n d = let h = reads_told ys b n d in omega (arith, h)

  body_once : (r : Run) (xs : List ℕ) (b : Body) (n : ℕ) (d f : Temporary) → told (order_body b n f) ≡ 0 → told (order_body (tailed_body r ls xs b) n d) ≤ 1
  body_once r xs b n d f h =
      let z = all_free b n f h in
      let last : Body = ends (passing_value r.block ls (tail b)) in
      let rest : Body = before (behind r b) last in
      let run : Body = before (map (changed_statement (passing ls)) (inside r b)) rest in
      let x0 : told (order (passing_value r.block ls (tail b)) d) ≤ 1 = value_once r.block (tail b) d f z.1 in
      let x1 = before_told (behind r b) last n d (drop_free r.count (drop r.first (statements b)) (drop_free r.first (statements b) z.0)) in
      let x2 = inside_told (inside r b) rest n d (take_free r.count (drop r.first (statements b)) (drop_free r.first (statements b) z.0)) in
      let x3 = reads_told xs run n d in
      let x4 = before_told (in_front r b) (before (entering xs) run) n d (take_free r.first (statements b) z.0) in
      omega (arith, x0, x1, x2, x3, x4)

-- ---- the function

abbrev of_run : Run → ℕ → Body → ℕ
of_run r n b = if n == r.block then 1 else 0

chosen : (t : Bool) (r : Run) (ls xs : List ℕ) (was b : Body) (n : ℕ) (d f : Temporary) (i : ℕ) → told (order_body was n f) ≡ 0 → told (order_body b n d) ≤ i → told (order_body (if t then tailed_body r ls xs was else b) n d) ≤ (if t then 1 else 0) + i
chosen true r ls xs was b n d f i h c = let x = body_once ls r xs was n d f h in omega (arith, x)
chosen false r ls xs was b n d f i h c = omega (arith, c)

tailed_light : (r : Run) (ls xs : List ℕ) → Light (in_the_tailed_block r ls xs) (of_run r)
tailed_light r ls xs = record {
  jump_mark = λ m l again. refl;
  at_return = λ e. refl;
  at_block = λ n was b d f i h c. chosen (n == r.block) r ls xs was b n d f i h c;
  at_jump = λ m l again d. refl;
}

same_blocks : (r : Run) (l : List Spot) → weighed (of_run r) l ≡ blocks_at r.block l
same_blocks r [] = refl
same_blocks r (a_block a n b ∷ l) = by (n == r.block) (same_blocks r l)
  where
    by : (t : Bool) → weighed (of_run r) l ≡ blocks_at r.block l → (if t then 1 else 0) + weighed (of_run r) l ≡ (if t then suc (blocks_at r.block l) else blocks_at r.block l)
    by true h = omega (arith, h)
    by false h = omega (arith, h)
same_blocks r (a_jump a n k again ∷ l) = same_blocks r l
same_blocks r (a_return a n ∷ l) = same_blocks r l

told_at_most : (r : Run) (ls xs : List ℕ) (f : Function) → told (order_function f) ≡ 0 → blocks_at r.block (spots_of_function f) ≤ 1 → told (order_function (tailed r ls xs f)) ≤ 1
told_at_most r ls xs f h one =
    let C = in_the_tailed_block r ls xs in
    let q = beginning_told f.params (mark_of f.body).node (order f.body (temporary_of f.body)) in
    let x = few C (of_run r) (tailed_light r ls xs) f.body (outermost f) (temporary_of (changed C f.body)) (temporary_of f.body) (omega (arith, h, q)) in
    let y = beginning_told f.params (mark_of (changed C f.body)).node (order (changed C f.body) (temporary_of (changed C f.body))) in
    let z = same_blocks r (spots_of_function f) in
    omega (arith, x, y, z, one)

-- ---- an order none of whose actions is of a kind

none_told : (Q : Action → Bool) (s : Order) → ((a : Action) → Among a (actions_in s) → Q a ≡ false) → tells Q s ≡ 0
none_told Q orders.nothing f = refl
none_told Q orders.nowhere f = refl
none_told Q (orders.act a) f = ap one_if (f a here)
none_told Q (orders.then s t) f = let x = none_told Q s (λ a i. f a (in_first (actions_in t) i)) in let y = none_told Q t (λ a i. f a (in_second (actions_in s) i)) in omega (arith, x, y)
none_told Q (orders.or s t) f = let x = none_told Q s (λ a i. f a (in_first (actions_in t) i)) in let y = none_told Q t (λ a i. f a (in_second (actions_in s) i)) in omega (arith, x, y)
none_told Q (orders.leave x) f = refl
none_told Q orders.fail f = refl
none_told Q (orders.otherwise s t) f = let x = none_told Q s (λ a i. f a (in_first (actions_in t) i)) in let y = none_told Q t (λ a i. f a (in_second (actions_in s) i)) in omega (arith, x, y)
none_told Q (orders.ending n x s) f = none_told Q s f
none_told Q (orders.passes l s) f = none_told Q s f

neither : (b c : Bool) (n : ℕ) → b ≡ false → c ≡ false → b || (if c then n == 1 else false) ≡ false
neither false false n e f = refl
neither true c n e f = absurd (true≢false e)
neither false true n e f = absurd (true≢false f)

pub tells_once : (A : Asked) (xs : List ℕ) → HasNoMark (order_function A.function) → HasNoPass (order_function A.function) → blocks_at A.run.block (spots_of_function A.function) ≤ 1 → TellsOnce A xs
tells_once A xs unmarked unpassed one = record {
  none_before = none_told (λ a. lets_pass a.act) (order_function A.function) unpassed.none;
  once = told_at_most A.run A.home.around.loops xs A.function (none_told tells_end (order_function A.function) (λ a i. neither (lets_pass a.act) (is_mark a.act) a.node (unpassed.none a i) (unmarked.none a i))) one;
}
