-- The mark at the end of a run stands once in the text that runs: form by form, an order has no more of them than its tree has blocks of
-- the run's node.
use Rattle.std.proofs.Common.{◌≡◌, ℕ, ◌+◌, ◌*◌, ◌≤◌, ◌==◌, if◌then◌else◌, Bool, true, false, ◌&&◌, List, [], ◌∷◌, ◌++◌, map, take, drop, zero, suc, refl, sym, ap, ◌∙◌, true≢false, arith}
use Rattle.std.proofs.lemmas.Bool.Decides.{Decides-eqb}
use Rattle.rx_core.specs.declared.types.Step.{Step}
use Rattle.rx_typed.specs.Tree.{Temporary, Mode, by_value, by_reference, Making, Mark, Exp, read, borrow, share, build, unit, lazily, assign, update, call, input, print, block, choose, loop, jump, give, Operands, no_operand, operand_and, Scrutinee, at_place, of_value, Arms, no_arm, arm_and, Body, ends, runs, declares, lets, Parameter, Function, mark_of, temporary_at, temporary_of, temporaries_of, fields_of}
use Rattle.rx_lower_walks.specs.Matching.{PartTest, Binding, tests, bindings}
use Rattle.rx_lower_walks.specs.Actions.{Subject, in_place, in_temporary, subject, taking}
use Rattle.rx_lower_walks.specs.Orders.{Order, testing, perhaps, binding, declaring, order, order_all, order_scrutinee, order_arms, order_body, beginning, order_function}
use Rattle.rx_lower_walks.specs.Walks.{Among, here, there}
use Rattle.rx_exits_plan.specs.Blocks.{Statement, does, begins, binds, bound, declared_by, statements, tail, before}
use Rattle.rx_exits_plan.specs.Spots.{Around, with_variables, with_loop, Spot, a_block, a_jump, a_return, spots, spots_in, spots_matched, spots_armed, spots_of, outermost, spots_of_function}
use Rattle.rx_exits_plan.specs.Runs.{Run, Home, in_front, inside, behind}
use Rattle.rx_exits_plan.specs.Points.{Exit, Point, leaves, next, returns, jump_exit, number}
use Rattle.rx_exits_plan.specs.Changed.{Changes, changed, changed_all, changed_matched, changed_arms, changed_body, changed_statement}
use Rattle.rx_exits_plan.specs.Marked.{mark_then, shown, is_among, using, entering, ended}
use Rattle.rx_exits_plan.specs.Unmarked.{makes_mark}
use Rattle.rx_exits_plan.specs.Coming.{HasNoMark}
use Rattle.rx_exits_plan.specs.Exits.{leaving, past, spots_in_statements, at_start}
use Rattle.rx_engine_related.specs.OneSite.{StandsOnce, blocks_at, times_taken}
use Rattle.rx_engine_related.specs.Running.{passing, running_body, in_the_block, running}
use Rattle.rx_engine_related.proofs.Counting.{one_if, count, stands_once}
use Rattle.rx_engine_related.proofs.Bare.{NoMarks, no_marks, not_it, none_counted}

-- ---- patterns

pub of_testing : (S : Subject) (ts : List PartTest) (r : Order) → NoMarks (testing S ts r) → NoMarks r
of_testing S [] r h = h
of_testing S (t ∷ ts) r h = of_testing S ts r h.1.0

pub of_binding : (S : Subject) (bs : List Binding) (n : ℕ) (r : Order) → NoMarks (binding S bs n r) → NoMarks r
of_binding S [] n r h = h
of_binding S (b ∷ bs) n r h = of_binding S bs n r h.1.1.1

pub of_declaring : (s : ℕ) (xs : List ℕ) (n : ℕ) (r : Order) → NoMarks (declaring s xs n r) → NoMarks r
of_declaring s [] n r h = h
of_declaring s (x ∷ xs) n r h = of_declaring s xs n r h.1

pub of_beginning : (ps : List Parameter) (n : ℕ) (r : Order) → NoMarks (beginning ps n r) → NoMarks r
of_beginning [] n r h = h
of_beginning (p ∷ ps) n r h = of_beginning ps n r h.1.1

testing_count : (k : ℕ) (S : Subject) (ts : List PartTest) (r : Order) → count k (testing S ts r) ≡ count k r
testing_count k S [] r = refl
testing_count k S (t ∷ ts) r = let h = testing_count k S ts r in omega (arith, h)

taking_count : (k n : ℕ) (m : Mode) (S : Subject) (ss : List Step) (d : Temporary) → count k (perhaps n (taking m S ss d)) ≡ 0
taking_count k n (by_reference v) S ss d = refl
taking_count k n (by_value v) (in_place p) ss d = refl
taking_count k n (by_value v) (in_temporary t) ss d = refl

binding_count : (k : ℕ) (S : Subject) (bs : List Binding) (n : ℕ) (r : Order) → count k (binding S bs n r) ≡ count k r
binding_count k S [] n r = refl
binding_count k S (b ∷ bs) n r = let h = binding_count k S bs n r in let t = taking_count k b.node b.mode S b.steps (temporary_at b.node 0) in omega (arith, h, t)

declaring_count : (k s : ℕ) (xs : List ℕ) (n : ℕ) (r : Order) → count k (declaring s xs n r) ≡ count k r
declaring_count k s [] n r = refl
declaring_count k s (x ∷ xs) n r = let h = declaring_count k s xs n r in omega (arith, h)

pub beginning_count : (k : ℕ) (ps : List Parameter) (n : ℕ) (r : Order) → count k (beginning ps n r) ≡ count k r
beginning_count k [] n r = refl
beginning_count k (p ∷ ps) n r = let h = beginning_count k ps n r in omega (arith, h)

-- ---- trees

-- blocks and jumps, by weights
abbrev pub weighed : (Around → ℕ → Body → ℕ) → (ℕ → Bool → ℕ) → List Spot → ℕ
weighed w v [] = 0
weighed w v (a_block a n b ∷ ss) = w a n b + weighed w v ss
weighed w v (a_jump a n l again ∷ ss) = v l again + weighed w v ss
weighed w v (a_return a n ∷ ss) = weighed w v ss

pub weighed_both : (w : Around → ℕ → Body → ℕ) (v : ℕ → Bool → ℕ) (l m : List Spot) → weighed w v (l ++ m) ≡ weighed w v l + weighed w v m
weighed_both w v [] m = omega arith
weighed_both w v (a_block a n b ∷ l) m = let h = weighed_both w v l m in omega (arith, h)
weighed_both w v (a_jump a n k again ∷ l) m = let h = weighed_both w v l m in omega (arith, h)
weighed_both w v (a_return a n ∷ l) m = weighed_both w v l m

-- what is put at blocks, jumps and returns has no more of them than the weights say
pub record Light (k : ℕ) (C : Changes) (w : Around → ℕ → Body → ℕ) (v : ℕ → Bool → ℕ) : Type 0 where
  pub jump_mark : (m : Mark) (l : ℕ) (again : Bool) → mark_of (C.at_jump m l again) ≡ m
  pub return_mark : (e : Exp) → mark_of (C.at_return e) ≡ mark_of e
  pub at_block : (a : Around) (n : ℕ) (was b : Body) (d f : Temporary) (i : ℕ) → NoMarks (order_body was n f) → count k (order_body b n d) ≤ i → count k (order_body (C.at_block n was b) n d) ≤ w a n was + i
  pub at_jump : (m : Mark) (l : ℕ) (again : Bool) (d : Temporary) → count k (order (C.at_jump m l again) d) ≤ v l again
  pub at_return : (e : Exp) → count k (order (C.at_return e) (temporary_of (C.at_return e))) ≤ count k (order e (temporary_of e))

module _ (k : ℕ) (C : Changes) (w : Around → ℕ → Body → ℕ) (u : ℕ → Bool → ℕ) (K : Light k C w u) where
  same : (e : Exp) → mark_of (changed C e) ≡ mark_of e
  same (read m v p) = refl
  same (borrow m b p) = refl
  same (share m e) = refl
  same (build m v es) = refl
  same (unit m) = refl
  same (lazily m b e f) = refl
  same (assign m p e) = refl
  same (update m o p e) = refl
  same (call m f es) = refl
  same (input m) = refl
  same (print m e) = refl
  same (block m b) = refl
  same (choose m s l) = refl
  same (loop m l e) = refl
  same (jump m l again) = K.jump_mark m l again
  same (give m e) = refl

  same_temporaries : (es : Operands) → temporaries_of (changed_all C es) ≡ temporaries_of es
  same_temporaries no_operand = refl
  same_temporaries (operand_and i e es) = ap (λ (m : Mark). temporary_at m.node 0 ∷ temporaries_of (changed_all C es)) (same e) ∙ ap (λ l. temporary_of e ∷ l) (same_temporaries es)

  same_fields : (es : Operands) → fields_of (changed_all C es) ≡ fields_of es
  same_fields no_operand = refl
  same_fields (operand_and i e es) = ap (λ l. i ∷ l) (same_fields es)

  pub built : (v : Making) (es : Operands) (c : Bool) → makes_mark v (fields_of es) (temporaries_of es) ≡ false → one_if (makes_mark v (fields_of (changed_all C es)) (temporaries_of (changed_all C es)) && c) ≡ 0
  built v es c e = not_it (makes_mark v (fields_of (changed_all C es)) (temporaries_of (changed_all C es))) c
      (ap (λ is. makes_mark v is (temporaries_of (changed_all C es))) (same_fields es) ∙ ap (λ ts. makes_mark v (fields_of es) ts) (same_temporaries es) ∙ e)

  mutual
    pub few : (e : Exp) (a : Around) (d f : Temporary) → NoMarks (order e f) → count k (order (changed C e) d) ≤ weighed w u (spots a e)
    few (read m v p) a d f h = omega arith
    few (borrow m b p) a d f h = omega arith
    few (share m e) a d f h = let x = few e a (temporary_at m.node 1) (temporary_at m.node 1) h.0 in omega (arith, x)
    few (build m v es) a d f h = let x = few_all es a h.0 in let y = built v es (m.node == k) h.1 in omega (arith, x, y)
    few (unit m) a d f h = omega arith
    few (lazily m b e g) a d f h =
        let x = few e a (temporary_of (changed C e)) (temporary_of e) h.0 in let y = few g a (temporary_of (changed C g)) (temporary_of g) h.1.1.0.0 in let z = weighed_both w u (spots a e) (spots a g) in omega (arith, x, y, z)
    few (assign m p e) a d f h = let x = few e a (temporary_of (changed C e)) (temporary_of e) h.0 in omega (arith, x)
    few (update m o p e) a d f h = let x = few e a (temporary_of (changed C e)) (temporary_of e) h.0 in omega (arith, x)
    few (call m g es) a d f h = let x = few_all es a h.0 in omega (arith, x)
    few (input m) a d f h = omega arith
    few (print m e) a d f h = let x = few e a (temporary_of (changed C e)) (temporary_of e) h.0 in omega (arith, x)
    few (block m b) a d f h = K.at_block a m.node b (changed_body C b) d f (weighed w u (spots_of a b)) h (few_body b m.node a d f h)
    few (choose m s l) a d f h =
        let x = few_matched s a h.0 in let y = few_arms (subject s) (subject (changed_matched C s)) l a d f h.1 in let z = weighed_both w u (spots_matched a s) (spots_armed a l) in omega (arith, x, y, z)
    few (loop m l e) a d f h = few e (with_loop l a) (temporary_of (changed C e)) (temporary_of e) h
    few (jump m l again) a d f h = let x = K.at_jump m l again d in omega (arith, x)
    few (give m e) a d f h =
        let x = few e a (temporary_of (changed C e)) (temporary_of e) h.0 in let y = K.at_return (changed C e) in let z = weighed_both w u (spots a e) (a_return a m.node ∷ []) in omega (arith, x, y, z)

    few_all : (es : Operands) (a : Around) → NoMarks (order_all es) → count k (order_all (changed_all C es)) ≤ weighed w u (spots_in a es)
    few_all no_operand a h = omega arith
    few_all (operand_and i e es) a h =
        let x = few e a (temporary_of (changed C e)) (temporary_of e) h.0 in let y = few_all es a h.1 in let z = weighed_both w u (spots a e) (spots_in a es) in omega (arith, x, y, z)

    few_matched : (s : Scrutinee) (a : Around) → NoMarks (order_scrutinee s) → count k (order_scrutinee (changed_matched C s)) ≤ weighed w u (spots_matched a s)
    few_matched (at_place m p) a h = omega arith
    few_matched (of_value e) a h = few e a (temporary_of (changed C e)) (temporary_of e) h

    few_arms : (S T : Subject) (l : Arms) (a : Around) (d f : Temporary) → NoMarks (order_arms S l f) → count k (order_arms T (changed_arms C l) d) ≤ weighed w u (spots_armed a l)
    few_arms S T no_arm a d f h = omega arith
    few_arms S T (arm_and p e l) a d f h =
        let x = few e (with_variables (bound p) a) d f (of_binding S (bindings [] p) (mark_of e).node (order e f) (of_testing S (tests [] p) (binding S (bindings [] p) (mark_of e).node (order e f)) h.0)) in
        let y = few_arms S T l a d f h.1 in
        let z = weighed_both w u (spots (with_variables (bound p) a) e) (spots_armed a l) in
        let t = testing_count k T (tests [] p) (binding T (bindings [] p) (mark_of (changed C e)).node (order (changed C e) d)) in
        let b = binding_count k T (bindings [] p) (mark_of (changed C e)).node (order (changed C e) d) in
        omega (arith, x, y, z, t, b)

    few_body : (b : Body) (n : ℕ) (a : Around) (d f : Temporary) → NoMarks (order_body b n f) → count k (order_body (changed_body C b) n d) ≤ weighed w u (spots_of a b)
    few_body (ends e) n a d f h = few e a d f h
    few_body (runs e b) n a d f h =
        let x = few e a (temporary_of (changed C e)) (temporary_of e) h.0 in let y = few_body b n a d f h.1 in let z = weighed_both w u (spots a e) (spots_of a b) in omega (arith, x, y, z)
    few_body (declares s xs b) n a d f h =
        let x = few_body b n (with_variables xs a) d f (of_declaring s xs n (order_body b n f) h) in let y = declaring_count k s xs n (order_body (changed_body C b) n d) in omega (arith, x, y)
    few_body (lets s p c b) n a d f h =
        let x = few_matched c a h.0 in
        let y = few_body b n (with_variables (bound p) a) d f (of_binding (subject c) (bindings [] p) n (order_body b n f) h.1) in
        let z = weighed_both w u (spots_matched a c) (spots_of (with_variables (bound p) a) b) in
        let t = binding_count k (subject (changed_matched C c)) (bindings [] p) n (order_body (changed_body C b) n d) in
        omega (arith, x, y, z, t)

-- ---- whichever temporary a value goes to

testing_map : (S : Subject) (ts : List PartTest) (q r : Order) → (NoMarks q → NoMarks r) → NoMarks (testing S ts q) → NoMarks (testing S ts r)
testing_map S [] q r f h = f h
testing_map S (t ∷ ts) q r f h = (h.0, (testing_map S ts q r f h.1.0, tt))

binding_map : (S : Subject) (bs : List Binding) (n : ℕ) (q r : Order) → (NoMarks q → NoMarks r) → NoMarks (binding S bs n q) → NoMarks (binding S bs n r)
binding_map S [] n q r f h = f h
binding_map S (b ∷ bs) n q r f h = (h.0, (h.1.0, (h.1.1.0, binding_map S bs n q r f h.1.1.1)))

declaring_map : (s : ℕ) (xs : List ℕ) (n : ℕ) (q r : Order) → (NoMarks q → NoMarks r) → NoMarks (declaring s xs n q) → NoMarks (declaring s xs n r)
declaring_map s [] n q r f h = f h
declaring_map s (x ∷ xs) n q r f h = (h.0, declaring_map s xs n q r f h.1)

mutual
  pub anywhere : (e : Exp) (d f : Temporary) → NoMarks (order e f) → NoMarks (order e d)
  anywhere (read m v p) d f h = h
  anywhere (borrow m b p) d f h = h
  anywhere (share m e) d f h = h
  anywhere (build m v es) d f h = h
  anywhere (unit m) d f h = h
  anywhere (lazily m b e g) d f h = h
  anywhere (assign m p e) d f h = h
  anywhere (update m o p e) d f h = h
  anywhere (call m g es) d f h = h
  anywhere (input m) d f h = h
  anywhere (print m e) d f h = h
  anywhere (block m b) d f h = anywhere_body b m.node d f h
  anywhere (choose m s l) d f h = (h.0, anywhere_arms (subject s) l d f h.1)
  anywhere (loop m l e) d f h = h
  anywhere (jump m l again) d f h = h
  anywhere (give m e) d f h = h

  anywhere_arms : (S : Subject) (l : Arms) (d f : Temporary) → NoMarks (order_arms S l f) → NoMarks (order_arms S l d)
  anywhere_arms S no_arm d f h = h
  anywhere_arms S (arm_and p e l) d f h = (testing_map S (tests [] p) (binding S (bindings [] p) (mark_of e).node (order e f)) (binding S (bindings [] p) (mark_of e).node (order e d)) (λ i. binding_map S (bindings [] p) (mark_of e).node (order e f) (order e d) (λ j. anywhere e d f j) i) h.0, anywhere_arms S l d f h.1)

  pub anywhere_body : (b : Body) (n : ℕ) (d f : Temporary) → NoMarks (order_body b n f) → NoMarks (order_body b n d)
  anywhere_body (ends e) n d f h = anywhere e d f h
  anywhere_body (runs e b) n d f h = (h.0, anywhere_body b n d f h.1)
  anywhere_body (declares s xs b) n d f h = declaring_map s xs n (order_body b n f) (order_body b n d) (λ i. anywhere_body b n d f i) h
  anywhere_body (lets s p c b) n d f h = (h.0, binding_map (subject c) (bindings [] p) n (order_body b n f) (order_body b n d) (λ i. anywhere_body b n d f i) h.1)

-- ---- statements

abbrev pub Free : Statement → Type 0
Free (does e) = NoMarks (order e (temporary_of e))
Free (begins s xs) = Unit {0}
Free (binds s p c) = NoMarks (order_scrutinee c)

abbrev pub AllFree : List Statement → Type 0
AllFree [] = Unit {0}
AllFree (s ∷ ss) = Free s × AllFree ss

pub all_free : (b : Body) (n : ℕ) (d : Temporary) → NoMarks (order_body b n d) → AllFree (statements b) × NoMarks (order (tail b) d)
all_free (ends e) n d h = (tt, h)
all_free (runs e b) n d h = let z = all_free b n d h.1 in ((h.0, z.0), z.1)
all_free (declares s xs b) n d h = let z = all_free b n d (of_declaring s xs n (order_body b n d) h) in ((tt, z.0), z.1)
all_free (lets s p c b) n d h = let z = all_free b n d (of_binding (subject c) (bindings [] p) n (order_body b n d) h.1) in ((h.0, z.0), z.1)

pub take_free : (i : ℕ) (ss : List Statement) → AllFree ss → AllFree (take i ss)
take_free zero ss h = tt
take_free (suc i) [] h = tt
take_free (suc i) (s ∷ ss) h = (h.0, take_free i ss h.1)

pub drop_free : (i : ℕ) (ss : List Statement) → AllFree ss → AllFree (drop i ss)
drop_free zero ss h = h
drop_free (suc i) [] h = tt
drop_free (suc i) (s ∷ ss) h = drop_free i ss h.1

pub before_count : (k : ℕ) (ss : List Statement) (b : Body) (n : ℕ) (d : Temporary) → AllFree ss → count k (order_body (before ss b) n d) ≡ count k (order_body b n d)
before_count k [] b n d h = refl
before_count k (does e ∷ ss) b n d h = let x = none_counted k (order e (temporary_of e)) h.0 in let y = before_count k ss b n d h.1 in omega (arith, x, y)
before_count k (begins s xs ∷ ss) b n d h = let x = declaring_count k s xs n (order_body (before ss b) n d) in let y = before_count k ss b n d h.1 in omega (arith, x, y)
before_count k (binds s p c ∷ ss) b n d h =
    let x = none_counted k (order_scrutinee c) h.0 in let t = binding_count k (subject c) (bindings [] p) n (order_body (before ss b) n d) in let y = before_count k ss b n d h.1 in omega (arith, x, y, t)

-- no block weighs
abbrev pub light : Around → ℕ → Body → ℕ
light a n b = 0

module _ (k : ℕ) (C : Changes) (v : ℕ → Bool → ℕ) (K : Light k C light v) where
  pub changed_count : (ss : List Statement) (a : Around) (b : Body) (n : ℕ) (d : Temporary) → AllFree ss
      → count k (order_body (before (map (changed_statement C) ss) b) n d) ≤ weighed light v (spots_in_statements a ss) + count k (order_body b n d)
  changed_count [] a b n d h = omega arith
  changed_count (does e ∷ ss) a b n d h =
      let x = few k C light v K e a (temporary_of (changed C e)) (temporary_of e) h.0 in let z = weighed_both light v (spots a e) (spots_in_statements a ss) in let y = changed_count ss a b n d h.1 in omega (arith, x, y, z)
  changed_count (begins s xs ∷ ss) a b n d h =
      let x = declaring_count k s xs n (order_body (before (map (changed_statement C) ss) b) n d) in let y = changed_count ss (with_variables xs a) b n d h.1 in omega (arith, x, y)
  changed_count (binds s p c ∷ ss) a b n d h =
      let x = few_matched k C light v K c a h.0 in let z = weighed_both light v (spots_matched a c) (spots_in_statements (with_variables (declared_by (binds s p c)) a) ss) in
      let t = binding_count k (subject (changed_matched C c)) (bindings [] p) n (order_body (before (map (changed_statement C) ss) b) n d) in
      let y = changed_count ss (with_variables (declared_by (binds s p c)) a) b n d h.1 in omega (arith, x, y, z, t)

-- ---- the run's block

pub differ : (n m : ℕ) → (n ≡ m → ⊥) → (n == m) ≡ false
differ n m h = by (n == m) refl
  where
    by : (b : Bool) → (n == m) ≡ b → (n == m) ≡ false
    by true e = absurd (h ((Decides-eqb n m).0 e))
    by false e = e

-- a jump weighs where it is marked with this number
abbrev pub jump_weight : ℕ → List ℕ → ℕ → Bool → ℕ
jump_weight k ls l again = if is_among l ls then one_if (number (leaves (jump_exit l again)) == k) else 0

jump_count : (k : ℕ) (t : Bool) (m : Mark) (l : ℕ) (again : Bool) (d : Temporary)
    → count k (order (if t then mark_then (leaves (jump_exit l again)) (jump m l again) else jump m l again) d) ≤ (if t then one_if (number (leaves (jump_exit l again)) == k) else 0)
jump_count k true m l again d = omega arith
jump_count k false m l again d = omega arith

jump_keeps : (t : Bool) (p : Point) (m : Mark) (l : ℕ) (again : Bool) → mark_of (if t then mark_then p (jump m l again) else jump m l again) ≡ m
jump_keeps true p m l again = refl
jump_keeps false p m l again = refl

pub passing_light : (k : ℕ) (ls : List ℕ) → Light k (passing ls) light (jump_weight k ls)
passing_light k ls = record {
  jump_mark = λ m l again. jump_keeps (is_among l ls) (leaves (jump_exit l again)) m l again;
  return_mark = λ e. refl;
  at_block = λ a n was b d f i h c. omega (arith, c);
  at_jump = λ m l again d. jump_count k (is_among l ls) m l again d;
  at_return = λ e. omega arith;
}

pub reads_count : (k : ℕ) (ys : List ℕ) (b : Body) (n : ℕ) (d : Temporary) → count k (order_body (before (map using ys) b) n d) ≡ count k (order_body b n d)
reads_count k [] b n d = refl
reads_count k (y ∷ ys) b n d = let h = reads_count k ys b n d in omega (arith, h)

-- its end's mark, and those of the jumps of the run
abbrev pub inner : ℕ → List ℕ → Run → Around → Body → ℕ
inner k ls r a b = one_if (1 == k) + weighed light (jump_weight k ls) (spots_in_statements (past (in_front r b) a) (inside r b))

block_count : (k : ℕ) → (0 == k) ≡ false → (r : Run) (ls xs : List ℕ) (a : Around) (b : Body) (n : ℕ) (d f : Temporary) → NoMarks (order_body b n f) → count k (order_body (running_body r ls xs b) n d) ≤ inner k ls r a b
block_count k nz r ls xs a b n d f h =
    let z = all_free b n f h in
    let last : Body = ends (tail b) in
    let rest : Body = before (behind r b) last in
    let after_end : Body = before (ended false) rest in
    let run : Body = before (map (changed_statement (passing ls)) (inside r b)) after_end in
    let e0 : one_if (0 == k) ≡ 0 = ap one_if nz in
    let x0 : count k (order (tail b) d) ≤ 0 = (let q = none_counted k (order (tail b) d) (anywhere (tail b) d f z.1) in omega (arith, q)) in
    let x1 = before_count k (behind r b) last n d (drop_free r.count (drop r.first (statements b)) (drop_free r.first (statements b) z.0)) in
    let x2 = changed_count k (passing ls) (jump_weight k ls) (passing_light k ls) (inside r b) (past (in_front r b) a) after_end n d (take_free r.count (drop r.first (statements b)) (drop_free r.first (statements b) z.0)) in
    let x3 = reads_count k xs run n d in
    let x4 = before_count k (in_front r b) (before (entering xs) run) n d (take_free r.first (statements b) z.0) in
    omega (arith, e0, x0, x1, x2, x3, x4)

-- ---- the function

chosen : (k : ℕ) → (0 == k) ≡ false → (t : Bool) (r : Run) (ls xs : List ℕ) (a : Around) (was b : Body) (n : ℕ) (d f : Temporary) (i : ℕ) → NoMarks (order_body was n f) → count k (order_body b n d) ≤ i
    → count k (order_body (if t then running_body r ls xs was else b) n d) ≤ (if t then inner k ls r a was else 0) + i
chosen k nz true r ls xs a was b n d f i h c = let x = block_count k nz r ls xs a was n d f h in omega (arith, x)
chosen k nz false r ls xs a was b n d f i h c = omega (arith, c)

abbrev pub of_run : ℕ → List ℕ → Run → Around → ℕ → Body → ℕ
of_run k ls r a n b = if n == r.block then inner k ls r a b else 0

-- no jump weighs
abbrev pub free : ℕ → Bool → ℕ
free l again = 0

pub block_light : (k : ℕ) → (0 == k) ≡ false → (r : Run) (ls xs : List ℕ) → Light k (in_the_block r ls xs) (of_run k ls r) free
block_light k nz r ls xs = record {
  jump_mark = λ m l again. refl;
  return_mark = λ e. refl;
  at_block = λ a n was b d f i h c. chosen k nz (n == r.block) r ls xs a was b n d f i h c;
  at_jump = λ m l again d. omega arith;
  at_return = λ e. omega arith;
}

function_count : (k : ℕ) → (0 == k) ≡ false → (r : Run) (ls xs : List ℕ) (f : Function) → HasNoMark (order_function f) → count k (order_function (running r ls xs f)) ≤ weighed (of_run k ls r) free (spots_of_function f)
function_count k nz r ls xs f h =
    let C = in_the_block r ls xs in
    let n = of_beginning f.params (mark_of f.body).node (order f.body (temporary_of f.body)) (no_marks (order_function f) h.none) in
    let x = few k C (of_run k ls r) free (block_light k nz r ls xs) f.body (outermost f) (temporary_of (changed C f.body)) (temporary_of f.body) n in
    let y = beginning_count k f.params (mark_of (changed C f.body)).node (order (changed C f.body) (temporary_of (changed C f.body))) in
    omega (arith, x, y)

-- ---- its end

pub no_jump_weight : (ls : List ℕ) (l : List Spot) → weighed light (jump_weight 1 ls) l ≡ 0
no_jump_weight ls [] = refl
no_jump_weight ls (a_block a n b ∷ l) = let h = no_jump_weight ls l in omega (arith, h)
no_jump_weight ls (a_jump a n k again ∷ l) = by (is_among k ls) again (no_jump_weight ls l)
  where
    by : (t again : Bool) → weighed light (jump_weight 1 ls) l ≡ 0 → (if t then one_if (number (leaves (jump_exit k again)) == 1) else 0) + weighed light (jump_weight 1 ls) l ≡ 0
    by true true h = let e : one_if ((4 + 2 * k) == 1) ≡ 0 = ap one_if (differ (4 + 2 * k) 1 (λ e. omega (arith, e))) in omega (arith, h, e)
    by true false h = let e : one_if ((3 + 2 * k) == 1) ≡ 0 = ap one_if (differ (3 + 2 * k) 1 (λ e. omega (arith, e))) in omega (arith, h, e)
    by false again h = omega (arith, h)
no_jump_weight ls (a_return a n ∷ l) = no_jump_weight ls l

same_blocks : (ls : List ℕ) (r : Run) (l : List Spot) → weighed (of_run 1 ls r) free l ≡ blocks_at r.block l
same_blocks ls r [] = refl
same_blocks ls r (a_block a n b ∷ l) = by (n == r.block) (same_blocks ls r l)
  where
    by : (t : Bool) → weighed (of_run 1 ls r) free l ≡ blocks_at r.block l → (if t then inner 1 ls r a b else 0) + weighed (of_run 1 ls r) free l ≡ (if t then suc (blocks_at r.block l) else blocks_at r.block l)
    by true h = let e = no_jump_weight ls (spots_in_statements (past (in_front r b) a) (inside r b)) in omega (arith, h, e)
    by false h = omega (arith, h)
same_blocks ls r (a_jump a n k again ∷ l) = let h = same_blocks ls r l in omega (arith, h)
same_blocks ls r (a_return a n ∷ l) = same_blocks ls r l

pub end_stands_once : (r : Run) (ls xs : List ℕ) (f : Function) → HasNoMark (order_function f) → blocks_at r.block (spots_of_function f) ≤ 1 → StandsOnce (running r ls xs f) (shown (leaves next))
end_stands_once r ls xs f h few_blocks =
    let x = function_count 1 refl r ls xs f h in let z = same_blocks ls r (spots_of_function f) in
    stands_once (running r ls xs f) (leaves next) (omega (arith, x, z, few_blocks))

-- ---- an exit that one jump takes

pub block_there : (n : ℕ) (c : Around) (d : Body) (l : List Spot) → Among (a_block c n d) l → 1 ≤ blocks_at n l
block_there n c d [] i = elim i [ ]
block_there n c d (a_block _ _ _ ∷ l) here = by (n == n) ((Decides-eqb n n).1 refl)
  where
    by : (t : Bool) → t ≡ true → 1 ≤ (if t then suc (blocks_at n l) else blocks_at n l)
    by true e = omega arith
    by false e = absurd (true≢false (sym e))
block_there n c d (a_block a m b ∷ l) (there i) = by (m == n) (block_there n c d l i)
  where
    by : (t : Bool) → 1 ≤ blocks_at n l → 1 ≤ (if t then suc (blocks_at n l) else blocks_at n l)
    by true h = omega arith
    by false h = h
block_there n c d (a_jump a m k again ∷ l) (there i) = block_there n c d l i
block_there n c d (a_return a m ∷ l) (there i) = block_there n c d l i

no_block_weight : (k : ℕ) (ls : List ℕ) (r : Run) (l : List Spot) → blocks_at r.block l ≤ 0 → weighed (of_run k ls r) free l ≡ 0
no_block_weight k ls r [] h = refl
no_block_weight k ls r (a_block a n b ∷ l) h = by (n == r.block) h (λ g. no_block_weight k ls r l g)
  where
    by : (t : Bool) → (if t then suc (blocks_at r.block l) else blocks_at r.block l) ≤ 0 → (blocks_at r.block l ≤ 0 → weighed (of_run k ls r) free l ≡ 0) → (if t then inner k ls r a b else 0) + weighed (of_run k ls r) free l ≡ 0
    by true g rest = absurd (omega (arith, g))
    by false g rest = let z = rest g in omega (arith, z)
no_block_weight k ls r (a_jump a n m again ∷ l) h = let z = no_block_weight k ls r l h in omega (arith, z)
no_block_weight k ls r (a_return a n ∷ l) h = no_block_weight k ls r l h

sole_weight : (k : ℕ) (ls : List ℕ) (r : Run) (c : Around) (d : Body) (l : List Spot) → Among (a_block c r.block d) l → blocks_at r.block l ≤ 1 → weighed (of_run k ls r) free l ≤ inner k ls r c d
sole_weight k ls r c d [] i h = elim i [ ]
sole_weight k ls r c d (a_block _ _ _ ∷ l) here h = by (r.block == r.block) ((Decides-eqb r.block r.block).1 refl) h
  where
    by : (t : Bool) → t ≡ true → (if t then suc (blocks_at r.block l) else blocks_at r.block l) ≤ 1 → (if t then inner k ls r c d else 0) + weighed (of_run k ls r) free l ≤ inner k ls r c d
    by true e g = let z = no_block_weight k ls r l (omega (arith, g)) in omega (arith, z)
    by false e g = absurd (true≢false (sym e))
sole_weight k ls r c d (a_block a n b ∷ l) (there i) h = by (n == r.block) h (λ g. sole_weight k ls r c d l i g)
  where
    by : (t : Bool) → (if t then suc (blocks_at r.block l) else blocks_at r.block l) ≤ 1 → (blocks_at r.block l ≤ 1 → weighed (of_run k ls r) free l ≤ inner k ls r c d) → (if t then inner k ls r a b else 0) + weighed (of_run k ls r) free l ≤ inner k ls r c d
    by true g rest = let z = block_there r.block c d l i in absurd (omega (arith, g, z))
    by false g rest = let z = rest g in omega (arith, z)
sole_weight k ls r c d (a_jump a n m again ∷ l) (there i) h = let z = sole_weight k ls r c d l i h in omega (arith, z)
sole_weight k ls r c d (a_return a n ∷ l) (there i) h = sole_weight k ls r c d l i h

as_taken : (x : Exit) (ls : List ℕ) (l : List Spot) → weighed light (jump_weight (number (leaves x)) ls) l ≤ times_taken x (leaving ls l)
as_taken x ls [] = omega arith
as_taken x ls (a_block a n b ∷ l) = let h = as_taken x ls l in omega (arith, h)
as_taken x ls (a_jump a n k again ∷ l) = by (is_among k ls) (number (leaves (jump_exit k again)) == number (leaves x)) refl (as_taken x ls l)
  where
    by : (t u : Bool) → (number (leaves (jump_exit k again)) == number (leaves x)) ≡ u → weighed light (jump_weight (number (leaves x)) ls) l ≤ times_taken x (leaving ls l)
        → (if t then one_if (number (leaves (jump_exit k again)) == number (leaves x)) else 0) + weighed light (jump_weight (number (leaves x)) ls) l
        ≤ times_taken x (if t then record { exit = jump_exit k again; node = n; scope = a.scope } ∷ leaving ls l else leaving ls l)
    by true u e h = at (number (leaves (jump_exit k again)) == number (leaves x)) h
      where
        at : (u : Bool) → weighed light (jump_weight (number (leaves x)) ls) l ≤ times_taken x (leaving ls l)
            → one_if u + weighed light (jump_weight (number (leaves x)) ls) l ≤ (if u then suc (times_taken x (leaving ls l)) else times_taken x (leaving ls l))
        at true h = omega (arith, h)
        at false h = omega (arith, h)
    by false u e h = omega (arith, h)
as_taken x ls (a_return a n ∷ l) = by (number (leaves returns) == number (leaves x)) (as_taken x ls l)
  where
    by : (u : Bool) → weighed light (jump_weight (number (leaves x)) ls) l ≤ times_taken x (leaving ls l)
        → weighed light (jump_weight (number (leaves x)) ls) l ≤ (if u then suc (times_taken x (leaving ls l)) else times_taken x (leaving ls l))
    by true h = omega (arith, h)
    by false h = h

pub jump_numbers : (l : ℕ) (again : Bool) → ((0 == number (leaves (jump_exit l again))) ≡ false) × ((1 == number (leaves (jump_exit l again))) ≡ false)
jump_numbers l true = (differ 0 (4 + 2 * l) (λ e. omega (arith, e)), differ 1 (4 + 2 * l) (λ e. omega (arith, e)))
jump_numbers l false = (differ 0 (3 + 2 * l) (λ e. omega (arith, e)), differ 1 (3 + 2 * l) (λ e. omega (arith, e)))

pub jump_stands_once : (r : Run) (h : Home) (xs : List ℕ) (f : Function) (l : ℕ) (again : Bool) → HasNoMark (order_function f) → blocks_at r.block (spots_of_function f) ≤ 1
    → Among (a_block h.around r.block h.body) (spots_of_function f) → times_taken (jump_exit l again) (leaving h.around.loops (spots_in_statements (at_start r h) (inside r h.body))) ≤ 1
    → StandsOnce (running r h.around.loops xs f) (shown (leaves (jump_exit l again)))
jump_stands_once r h xs f l again bare few_blocks i once =
    let k = number (leaves (jump_exit l again)) in let ls = h.around.loops in
    let q = jump_numbers l again in
    let x = function_count k q.0 r ls xs f bare in
    let y = sole_weight k ls r h.around h.body (spots_of_function f) i few_blocks in
    let e : one_if (1 == k) ≡ 0 = ap one_if q.1 in
    let z = as_taken (jump_exit l again) ls (spots_in_statements (at_start r h) (inside r h.body)) in
    stands_once (running r ls xs f) (leaves (jump_exit l again)) (omega (arith, x, y, e, z, once))
