-- The marked function in which variables are used where its run is entered is the one without, with reads put in: form by form.
use Rattle.std.proofs.Common.{◌≡◌, ℕ, ◌==◌, if◌then◌else◌, Bool, true, false, List, [], ◌∷◌, map, refl, sym, ap, ◌∙◌, subst}
use Rattle.rx_typed.specs.Tree.{Temporary, truth, operation, lazy, Mark, Exp, read, borrow, share, build, unit, lazily, assign, update, call, input, print, block, choose, loop, jump, give, Operands, no_operand, operand_and, Scrutinee, at_place, of_value, Arms, no_arm, arm_and, Body, ends, runs, declares, lets, Parameter, Function, temporary_place, mark_of, temporary_at, temporary_of, temporaries_of, fields_of}
use Rattle.rx_lower_walks.specs.Matching.{equals, PartTest, Binding, tests, bindings}
use Rattle.rx_lower_walks.specs.Actions.{Write, Test, Build, Call, Print, Give, Action, at_mark, Subject, in_temporary, subject}
use Rattle.rx_lower_walks.specs.Orders.{Order, testing, binding, declaring, order, order_all, order_scrutinee, order_arms, order_body, beginning, order_function}
use Rattle.rx_lower_walks.specs.Orders as order
use Rattle.rx_lower_walks.specs.Walks.{Among, here, there}
use Rattle.rx_exits_plan.specs.Blocks.{Statement, does, begins, binds, before}
use Rattle.rx_exits_plan.specs.Runs.{Run, in_front}
use Rattle.rx_exits_plan.specs.Changed.{Changes, changed, changed_all, changed_matched, changed_arms, changed_body}
use Rattle.rx_exits_plan.specs.Marked.{using, entering, marked_body, at_the_block, marked}
use Rattle.rx_engine_related.proofs.Widened.{Widened, as_it_was, put_first, w_entered, w_then, w_or, w_otherwise, w_ending, w_passes}

-- ---- patterns and statements

module _ (xs : List ℕ) where
  testing_wide : (S : Subject) (ts : List PartTest) {q r : Order} → Widened xs false q r → Widened xs false (testing S ts q) (testing S ts r)
  testing_wide S [] m = m
  testing_wide S (t ∷ ts) m = w_then as_it_was (w_or (testing_wide S ts m) as_it_was)

  binding_wide : (S : Subject) (bs : List Binding) (n : ℕ) {q r : Order} → Widened xs false q r → Widened xs false (binding S bs n q) (binding S bs n r)
  binding_wide S [] n m = m
  binding_wide S (b ∷ bs) n m = w_then as_it_was (w_then as_it_was (w_then as_it_was (w_ending (binding_wide S bs n m))))

  declaring_wide : (s : ℕ) (ys : List ℕ) (n : ℕ) {q r : Order} → Widened xs false q r → Widened xs false (declaring s ys n q) (declaring s ys n r)
  declaring_wide s [] n m = m
  declaring_wide s (x ∷ ys) n m = w_then as_it_was (w_ending (declaring_wide s ys n m))

  beginning_wide : (ps : List Parameter) (n : ℕ) {q r : Order} → Widened xs false q r → Widened xs false (beginning ps n q) (beginning ps n r)
  beginning_wide [] n m = m
  beginning_wide (p ∷ ps) n m = w_then as_it_was (w_then as_it_was (w_ending (beginning_wide ps n m)))

  before_wide : (ss : List Statement) (a b : Body) (n : ℕ) (d : Temporary) → Widened xs false (order_body a n d) (order_body b n d) → Widened xs false (order_body (before ss a) n d) (order_body (before ss b) n d)
  before_wide [] a b n d m = m
  before_wide (does e ∷ ss) a b n d m = w_then as_it_was (before_wide ss a b n d m)
  before_wide (begins s ys ∷ ss) a b n d m = declaring_wide s ys n (before_wide ss a b n d m)
  before_wide (binds s p c ∷ ss) a b n d m = w_then as_it_was (binding_wide (subject c) (bindings [] p) n (before_wide ss a b n d m))

  reads_wide : (ys : List ℕ) → ((y : ℕ) → Among y ys → Among y xs) → (b : Body) (n : ℕ) (d : Temporary) → Widened xs true (order_body (before (map using ys) b) n d) (order_body b n d)
  reads_wide [] f b n d = as_it_was
  reads_wide (y ∷ ys) f b n d = put_first y (f y here) (reads_wide ys (λ z i. f z (there i)) b n d)

  entering_wide : (b : Body) (n : ℕ) (d : Temporary) → Widened xs false (order_body (before (entering xs) b) n d) (order_body (before (entering []) b) n d)
  entering_wide b n d = w_entered (reads_wide xs (λ y i. i) b n d)

-- ---- trees

module _ (r : Run) (ls xs : List ℕ) where
  abbrev C : Changes
  C = at_the_block r ls xs

  abbrev D : Changes
  D = at_the_block r ls []

  same : (e : Exp) → mark_of (changed D e) ≡ mark_of (changed C e)
  same (read m v p) = refl
  same (borrow m k p) = refl
  same (share m e) = refl
  same (build m w es) = refl
  same (unit m) = refl
  same (lazily m b e f) = refl
  same (assign m p e) = refl
  same (update m o p e) = refl
  same (call m f es) = refl
  same (input m) = refl
  same (print m e) = refl
  same (block m b) = refl
  same (choose m s l) = refl
  same (loop m l e) = refl
  same (jump m l k) = refl
  same (give m e) = refl

  same_temporary : (e : Exp) → temporary_of (changed D e) ≡ temporary_of (changed C e)
  same_temporary e = ap (λ (m : Mark). temporary_at m.node 0) (same e)

  same_temporaries : (es : Operands) → temporaries_of (changed_all D es) ≡ temporaries_of (changed_all C es)
  same_temporaries no_operand = refl
  same_temporaries (operand_and i e es) = ap (λ t. t ∷ temporaries_of (changed_all D es)) (same_temporary e) ∙ ap (λ l. temporary_of (changed C e) ∷ l) (same_temporaries es)

  same_fields : (es : Operands) → fields_of (changed_all D es) ≡ fields_of (changed_all C es)
  same_fields no_operand = refl
  same_fields (operand_and i e es) = ap (λ l. i ∷ l) (same_fields es)

  same_subject : (s : Scrutinee) → subject (changed_matched D s) ≡ subject (changed_matched C s)
  same_subject (at_place m p) = refl
  same_subject (of_value e) = ap in_temporary (same_temporary e)

  act_wide : {a b : Action} → b ≡ a → Widened xs false (order.act a) (order.act b)
  act_wide {a = a} e = subst (λ b. Widened xs false (order.act a) (order.act b)) (sym e) as_it_was

  told : (f : Temporary → Action) (e : Exp) → Widened xs false (order.act (f (temporary_of (changed C e)))) (order.act (f (temporary_of (changed D e))))
  told f e = act_wide (ap f (same_temporary e))

  -- where its value goes to its own temporary
  own_wide : (e : Exp) → Widened xs false (order (changed C e) (temporary_of (changed C e))) (order (changed D e) (temporary_of (changed C e)))
      → Widened xs false (order (changed C e) (temporary_of (changed C e))) (order (changed D e) (temporary_of (changed D e)))
  own_wide e m = subst (λ t. Widened xs false (order (changed C e) (temporary_of (changed C e))) (order (changed D e) t)) (sym (same_temporary e)) m

  of_block : (n : ℕ) (was b c : Body) (d : Temporary) (t : Bool) → Widened xs false (order_body b n d) (order_body c n d)
      → Widened xs false (order_body (if t then marked_body r ls xs was else b) n d) (order_body (if t then marked_body r ls [] was else c) n d)
  of_block n was b c d true m = before_wide xs (in_front r was) _ _ n d (entering_wide xs _ n d)
  of_block n was b c d false m = m

  mutual
    wide : (e : Exp) (d : Temporary) → Widened xs false (order (changed C e) d) (order (changed D e) d)
    wide (read m v p) d = as_it_was
    wide (borrow m k p) d = as_it_was
    wide (share m e) d = w_then (wide e _) as_it_was
    wide (build m w es) d = w_then (all_wide es) (act_wide (ap (λ is. at_mark m (Build w is (temporaries_of (changed_all D es)) d)) (same_fields es) ∙ ap (λ ts. at_mark m (Build w (fields_of (changed_all C es)) ts d)) (same_temporaries es)))
    wide (unit m) d = as_it_was
    wide (lazily m b e g) d = w_then (own_wide e (wide e _)) (w_then (told (λ t. at_mark m (Test (temporary_place t) (equals (truth b)))) e) (w_then (w_or (own_wide g (wide g _)) as_it_was)
        (act_wide (ap (λ t. at_mark m (Build lazy [] (t ∷ temporary_of (changed D g) ∷ []) d)) (same_temporary e) ∙ ap (λ t. at_mark m (Build lazy [] (temporary_of (changed C e) ∷ t ∷ []) d)) (same_temporary g)))))
    wide (assign m p e) d = w_then (own_wide e (wide e _)) (told (λ t. at_mark m (Write p t [])) e)
    wide (update m o p e) d = w_then (own_wide e (wide e _)) (w_then as_it_was (w_then (told (λ t. at_mark m (Build (operation o) [] (temporary_at m.node 1 ∷ t ∷ []) (temporary_at m.node 2))) e) as_it_was))
    wide (call m g es) d = w_then (all_wide es) (act_wide (ap (λ ts. at_mark m (Call g ts d)) (same_temporaries es)))
    wide (input m) d = as_it_was
    wide (print m e) d = w_then (own_wide e (wide e _)) (told (λ t. at_mark m (Print t)) e)
    wide (block m b) d = of_block m.node b (changed_body C b) (changed_body D b) d (m.node == r.block) (body_wide b m.node d)
    wide (choose m s l) d = w_then (matched_wide s)
        (subst (λ S. Widened xs false (order_arms (subject (changed_matched C s)) (changed_arms C l) d) (order_arms S (changed_arms D l) d)) (sym (same_subject s)) (arms_wide (subject (changed_matched C s)) l d))
    wide (loop m l e) d = w_passes (own_wide e (wide e _))
    wide (jump m l k) d = as_it_was
    wide (give m e) d = w_then (own_wide e (wide e _)) (w_then (told (λ t. at_mark m (Give t)) e) as_it_was)

    all_wide : (es : Operands) → Widened xs false (order_all (changed_all C es)) (order_all (changed_all D es))
    all_wide no_operand = as_it_was
    all_wide (operand_and i e es) = w_then (own_wide e (wide e _)) (all_wide es)

    matched_wide : (s : Scrutinee) → Widened xs false (order_scrutinee (changed_matched C s)) (order_scrutinee (changed_matched D s))
    matched_wide (at_place m p) = as_it_was
    matched_wide (of_value e) = own_wide e (wide e _)

    arms_wide : (S : Subject) (l : Arms) (d : Temporary) → Widened xs false (order_arms S (changed_arms C l) d) (order_arms S (changed_arms D l) d)
    arms_wide S no_arm d = as_it_was
    arms_wide S (arm_and p e l) d = w_otherwise
        (subst (λ (m : Mark). Widened xs false (testing S (tests [] p) (binding S (bindings [] p) (mark_of (changed C e)).node (order (changed C e) d))) (testing S (tests [] p) (binding S (bindings [] p) m.node (order (changed D e) d))))
        (sym (same e)) (testing_wide xs S (tests [] p) (binding_wide xs S (bindings [] p) (mark_of (changed C e)).node (wide e d))))
        (arms_wide S l d)

    body_wide : (b : Body) (n : ℕ) (d : Temporary) → Widened xs false (order_body (changed_body C b) n d) (order_body (changed_body D b) n d)
    body_wide (ends e) n d = wide e d
    body_wide (runs e b) n d = w_then (own_wide e (wide e _)) (body_wide b n d)
    body_wide (declares s ys b) n d = declaring_wide xs s ys n (body_wide b n d)
    body_wide (lets s p c b) n d = w_then (matched_wide c)
        (subst (λ S. Widened xs false (binding (subject (changed_matched C c)) (bindings [] p) n (order_body (changed_body C b) n d)) (binding S (bindings [] p) n (order_body (changed_body D b) n d))) (sym (same_subject c))
        (binding_wide xs (subject (changed_matched C c)) (bindings [] p) n (body_wide b n d)))

  pub marked_wide : (g : Function) → Widened xs false (order_function (marked r ls xs g)) (order_function (marked r ls [] g))
  marked_wide g =
      subst (λ (m : Mark). Widened xs false (beginning g.params (mark_of (changed C g.body)).node (order (changed C g.body) (temporary_of (changed C g.body)))) (beginning g.params m.node (order (changed D g.body) (temporary_of (changed D g.body)))))
      (sym (same g.body)) (beginning_wide xs g.params (mark_of (changed C g.body)).node (own_wide g.body (wide g.body _)))
