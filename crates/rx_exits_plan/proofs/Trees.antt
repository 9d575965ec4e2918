-- A changed tree has the order of the tree, with silent parts put in, where what is put at blocks, jumps and returns has: form by form.
use Rattle.std.proofs.Common.{◌≡◌, ℕ, Bool, List, [], ◌∷◌, refl, sym, ◌∙◌, subst, ap}
use Rattle.rx_typed.specs.Tree.{Temporary, Making, operation, lazy, truth, Mark, Exp, read, borrow, share, build, unit, lazily, assign, update, call, input, print, block, choose, loop, jump, give, Operands, no_operand, operand_and, Scrutinee, at_place, of_value, Arms, no_arm, arm_and, Body, ends, runs, declares, lets, Function, Parameter, temporary_place, mark_of, temporary_at, temporary_of, temporaries_of, fields_of}
use Rattle.rx_lower_walks.specs.Matching.{equals, PartTest, Binding, tests, bindings}
use Rattle.rx_lower_walks.specs.Actions.{Write, Test, Build, Call, Print, Give, Action, at_mark, Subject, in_temporary, subject}
use Rattle.rx_lower_walks.specs.Orders.{Order, testing, binding, declaring, order, order_all, order_scrutinee, order_arms, order_body, beginning, order_function}
use Rattle.rx_lower_walks.specs.Orders as order
use Rattle.rx_exits_plan.specs.Changed.{Changes, changed, changed_all, changed_matched, changed_arms, changed_body, changed_function}
use Rattle.rx_exits_plan.specs.Unmarked.{unmarked}
use Rattle.rx_exits_plan.proofs.Alike.{Alike, is_nothing, is_nowhere, is_act, is_then, is_or, is_leave, is_fail, is_otherwise, is_ending, is_passes, itself}

-- what is put at blocks, jumps and returns: it keeps the node of a value, and has the order with silent parts
pub record Keeps (C : Changes) : Type 0 where
  pub jump_mark : (m : Mark) (l : ℕ) (k : Bool) → mark_of (C.at_jump m l k) ≡ m
  pub return_mark : (e : Exp) → mark_of (C.at_return e) ≡ mark_of e
  pub at_block : (n : ℕ) (was b : Body) → ((d f : Temporary) → Alike (order_body b n d) (order_body was n f))
      → (d f : Temporary) → Alike (order_body (C.at_block n was b) n d) (order_body was n f)
  pub at_jump : (m : Mark) (l : ℕ) (k : Bool) (d f : Temporary) → Alike (order (C.at_jump m l k) d) (order (jump m l k) f)
  pub at_return : (e was : Exp) → ((d f : Temporary) → Alike (order e d) (order was f)) → (d f : Temporary) → Alike (order (C.at_return e) d) (order was f)

-- ---- patterns

pub testing_alike : (S : Subject) (ts : List PartTest) {q r : Order} → Alike q r → Alike (testing S ts q) (testing S ts r)
testing_alike S [] m = m
testing_alike S (t ∷ ts) m = is_then (itself _) (is_or (testing_alike S ts m) is_fail)

pub binding_alike : (S : Subject) (bs : List Binding) (n : ℕ) {q r : Order} → Alike q r → Alike (binding S bs n q) (binding S bs n r)
binding_alike S [] n m = m
binding_alike S (b ∷ bs) n m = is_then (itself _) (is_then (itself _) (is_then (itself _) (is_ending (binding_alike S bs n m))))

pub declaring_alike : (s : ℕ) (xs : List ℕ) (n : ℕ) {q r : Order} → Alike q r → Alike (declaring s xs n q) (declaring s xs n r)
declaring_alike s [] n m = m
declaring_alike s (x ∷ xs) n m = is_then (itself _) (is_ending (declaring_alike s xs n m))

beginning_alike : (ps : List Parameter) (n : ℕ) {q r : Order} → Alike q r → Alike (beginning ps n q) (beginning ps n r)
beginning_alike [] n m = m
beginning_alike (p ∷ ps) n m = is_then (itself _) (is_then (itself _) (is_ending (beginning_alike ps n m)))

-- ---- a value that goes elsewhere

mutual
  pub elsewhere : (e : Exp) (d f : Temporary) → Alike (order e d) (order e f)
  elsewhere (read m v p) d f = is_act refl
  elsewhere (borrow m k p) d f = is_act refl
  elsewhere (share m e) d f = is_then (itself _) (is_act refl)
  elsewhere (build m w es) d f = is_then (itself _) (is_act refl)
  elsewhere (unit m) d f = is_nothing
  elsewhere (lazily m b e g) d f = is_then (itself _) (is_then (itself _) (is_then (itself _) (is_act refl)))
  elsewhere (assign m p e) d f = itself _
  elsewhere (update m o p e) d f = itself _
  elsewhere (call m g es) d f = is_then (itself _) (is_act refl)
  elsewhere (input m) d f = is_act refl
  elsewhere (print m e) d f = itself _
  elsewhere (block m b) d f = body_elsewhere b m.node d f
  elsewhere (choose m s l) d f = is_then (itself _) (arms_elsewhere (subject s) l d f)
  elsewhere (loop m l e) d f = itself _
  elsewhere (jump m l k) d f = itself _
  elsewhere (give m e) d f = itself _

  arms_elsewhere : (S : Subject) (l : Arms) (d f : Temporary) → Alike (order_arms S l d) (order_arms S l f)
  arms_elsewhere S no_arm d f = is_nowhere
  arms_elsewhere S (arm_and p e l) d f =
      is_otherwise (testing_alike S (tests [] p) (binding_alike S (bindings [] p) (mark_of e).node (elsewhere e d f))) (arms_elsewhere S l d f)

  body_elsewhere : (b : Body) (n : ℕ) (d f : Temporary) → Alike (order_body b n d) (order_body b n f)
  body_elsewhere (ends e) n d f = elsewhere e d f
  body_elsewhere (runs e b) n d f = is_then (itself _) (body_elsewhere b n d f)
  body_elsewhere (declares s xs b) n d f = declaring_alike s xs n (body_elsewhere b n d f)
  body_elsewhere (lets s p c b) n d f = is_then (itself _) (binding_alike (subject c) (bindings [] p) n (body_elsewhere b n d f))

-- ---- nodes stay

module _ (C : Changes) (K : Keeps C) where
  pub same_mark : (e : Exp) → mark_of (changed C e) ≡ mark_of e
  same_mark (read m v p) = refl
  same_mark (borrow m k p) = refl
  same_mark (share m e) = refl
  same_mark (build m w es) = refl
  same_mark (unit m) = refl
  same_mark (lazily m b e f) = refl
  same_mark (assign m p e) = refl
  same_mark (update m o p e) = refl
  same_mark (call m f es) = refl
  same_mark (input m) = refl
  same_mark (print m e) = refl
  same_mark (block m b) = refl
  same_mark (choose m s l) = refl
  same_mark (loop m l e) = refl
  same_mark (jump m l k) = K.jump_mark m l k
  same_mark (give m e) = refl

  same_temporary : (e : Exp) → temporary_of (changed C e) ≡ temporary_of e
  same_temporary e = ap (λ (m : Mark). temporary_at m.node 0) (same_mark e)

  pub same_temporaries : (es : Operands) → temporaries_of (changed_all C es) ≡ temporaries_of es
  same_temporaries no_operand = refl
  same_temporaries (operand_and i e es) = ap (λ t. t ∷ temporaries_of (changed_all C es)) (same_temporary e) ∙ ap (λ l. temporary_of e ∷ l) (same_temporaries es)

  pub same_fields : (es : Operands) → fields_of (changed_all C es) ≡ fields_of es
  same_fields no_operand = refl
  same_fields (operand_and i e es) = ap (λ l. i ∷ l) (same_fields es)

  pub same_subject : (s : Scrutinee) → subject (changed_matched C s) ≡ subject s
  same_subject (at_place m p) = refl
  same_subject (of_value e) = ap in_temporary (same_temporary e)

  -- an action that a temporary of a changed part is told of
  told : (act : Temporary → Action) (e : Exp) → Alike (order.act (act (temporary_of (changed C e)))) (order.act (act (temporary_of e)))
  told act e = is_act (ap (λ t. unmarked (act t ∷ [])) (same_temporary e))

  built : (m : Mark) (w : Making) (es : Operands) (d f : Temporary)
      → Alike (order.act (at_mark m (Build w (fields_of (changed_all C es)) (temporaries_of (changed_all C es)) d))) (order.act (at_mark m (Build w (fields_of es) (temporaries_of es) f)))
  built m w es d f = is_act (ap (λ is. unmarked (at_mark m (Build w is (temporaries_of (changed_all C es)) d) ∷ [])) (same_fields es)
      ∙ ap (λ ts. unmarked (at_mark m (Build w (fields_of es) ts d) ∷ [])) (same_temporaries es))

  called : (m : Mark) (g : ℕ) (es : Operands) (d f : Temporary)
      → Alike (order.act (at_mark m (Call g (temporaries_of (changed_all C es)) d))) (order.act (at_mark m (Call g (temporaries_of es) f)))
  called m g es d f = is_act (ap (λ ts. unmarked (at_mark m (Call g ts d) ∷ [])) (same_temporaries es))

  -- ---- the order

  mutual
    pub changed_alike : (e : Exp) (d f : Temporary) → Alike (order (changed C e) d) (order e f)
    changed_alike (read m v p) d f = is_act refl
    changed_alike (borrow m k p) d f = is_act refl
    changed_alike (share m e) d f = is_then (changed_alike e _ _) (is_act refl)
    changed_alike (build m w es) d f = is_then (all_alike es) (built m w es d f)
    changed_alike (unit m) d f = is_nothing
    changed_alike (lazily m b e g) d f = is_then (changed_alike e _ _) (is_then (told (λ t. at_mark m (Test (temporary_place t) (equals (truth b)))) e)
        (is_then (is_or (changed_alike g _ _) is_nothing) (is_act (ap (λ t. unmarked (at_mark m (Build lazy [] (t ∷ temporary_of (changed C g) ∷ []) d) ∷ [])) (same_temporary e)
        ∙ ap (λ t. unmarked (at_mark m (Build lazy [] (temporary_of e ∷ t ∷ []) d) ∷ [])) (same_temporary g)))))
    changed_alike (assign m p e) d f = is_then (changed_alike e _ _) (told (λ t. at_mark m (Write p t [])) e)
    changed_alike (update m o p e) d f = is_then (changed_alike e _ _) (is_then (is_act refl)
        (is_then (told (λ t. at_mark m (Build (operation o) [] (temporary_at m.node 1 ∷ t ∷ []) (temporary_at m.node 2))) e) (is_act refl)))
    changed_alike (call m g es) d f = is_then (all_alike es) (called m g es d f)
    changed_alike (input m) d f = is_act refl
    changed_alike (print m e) d f = is_then (changed_alike e _ _) (told (λ t. at_mark m (Print t)) e)
    changed_alike (block m b) d f = K.at_block m.node b (changed_body C b) (λ t u. body_alike b m.node t u) d f
    changed_alike (choose m s l) d f = is_then (matched_alike s)
        (subst (λ S. Alike (order_arms S (changed_arms C l) d) (order_arms (subject s) l f)) (sym (same_subject s)) (arms_alike (subject s) l d f))
    changed_alike (loop m l e) d f = is_passes (changed_alike e _ _)
    changed_alike (jump m l k) d f = K.at_jump m l k d f
    changed_alike (give m e) d f = is_then (K.at_return (changed C e) e (λ t u. changed_alike e t u) _ _) (is_then
        (is_act (ap (λ (n : Mark). unmarked (at_mark m (Give (temporary_at n.node 0)) ∷ [])) (K.return_mark (changed C e) ∙ same_mark e))) is_leave)

    all_alike : (es : Operands) → Alike (order_all (changed_all C es)) (order_all es)
    all_alike no_operand = is_nothing
    all_alike (operand_and i e es) = is_then (changed_alike e _ _) (all_alike es)

    pub matched_alike : (s : Scrutinee) → Alike (order_scrutinee (changed_matched C s)) (order_scrutinee s)
    matched_alike (at_place m p) = is_nothing
    matched_alike (of_value e) = changed_alike e _ _

    arms_alike : (S : Subject) (l : Arms) (d f : Temporary) → Alike (order_arms S (changed_arms C l) d) (order_arms S l f)
    arms_alike S no_arm d f = is_nowhere
    arms_alike S (arm_and p e l) d f = is_otherwise
        (subst (λ (m : Mark). Alike (testing S (tests [] p) (binding S (bindings [] p) m.node (order (changed C e) d))) (testing S (tests [] p) (binding S (bindings [] p) (mark_of e).node (order e f))))
        (sym (same_mark e)) (testing_alike S (tests [] p) (binding_alike S (bindings [] p) (mark_of e).node (changed_alike e d f))))
        (arms_alike S l d f)

    pub body_alike : (b : Body) (n : ℕ) (d f : Temporary) → Alike (order_body (changed_body C b) n d) (order_body b n f)
    body_alike (ends e) n d f = changed_alike e d f
    body_alike (runs e b) n d f = is_then (changed_alike e _ _) (body_alike b n d f)
    body_alike (declares s xs b) n d f = declaring_alike s xs n (body_alike b n d f)
    body_alike (lets s p c b) n d f = is_then (matched_alike c)
        (subst (λ S. Alike (binding S (bindings [] p) n (order_body (changed_body C b) n d)) (binding (subject c) (bindings [] p) n (order_body b n f))) (sym (same_subject c))
        (binding_alike (subject c) (bindings [] p) n (body_alike b n d f)))

  pub function_alike : (g : Function) → Alike (order_function (changed_function C g)) (order_function g)
  function_alike g =
      subst (λ (m : Mark). Alike (beginning g.params m.node (order (changed C g.body) (temporary_at m.node 0))) (order_function g)) (sym (same_mark g.body))
      (beginning_alike g.params (mark_of g.body).node (changed_alike g.body _ _))
