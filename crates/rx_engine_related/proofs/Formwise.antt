-- Form by form: where what is put at blocks, jumps and returns of a tree is so related, in whichever way that goes with the forms of orders, the orders of
-- the two changed trees are.
use Rattle.std.proofs.Common.{◌≡◌, ℕ, Bool, List, [], ◌∷◌, map, refl, sym, ap, ◌∙◌, subst}
use Rattle.rx_typed.specs.Tree.{Temporary, truth, operation, lazy, Mark, Exp, read, borrow, share, build, unit, lazily, assign, update, call, input, print, block, choose, loop, jump, give, Operands, no_operand, operand_and, Scrutinee, at_place, of_value, Arms, no_arm, arm_and, Body, ends, runs, declares, lets, Parameter, Function, temporary_place, mark_of, temporary_at, temporary_of, temporaries_of, fields_of}
use Rattle.rx_lower_walks.specs.Matching.{equals, PartTest, Binding, tests, bindings}
use Rattle.rx_lower_walks.specs.Actions.{Write, Test, Build, Call, Print, Give, Action, at_mark, Subject, in_temporary, subject}
use Rattle.rx_lower_walks.specs.Orders.{Order, testing, binding, declaring, order, order_all, order_scrutinee, order_arms, order_body, beginning, order_function}
use Rattle.rx_lower_walks.specs.Orders as order
use Rattle.rx_exits_plan.specs.Blocks.{Statement, does, begins, binds, before}
use Rattle.rx_exits_plan.specs.Changed.{Changes, changed, changed_all, changed_matched, changed_arms, changed_body, changed_statement, changed_function}

-- what goes with the forms
pub record Congruent (Rel : Order → Order → Type 0) : Type 0 where
  pub same : {s : Order} → Rel s s
  pub sequence : {s t q r : Order} → Rel s q → Rel t r → Rel (order.then s t) (order.then q r)
  pub choice : {s t q r : Order} → Rel s q → Rel t r → Rel (order.or s t) (order.or q r)
  pub fallback : {s t q r : Order} → Rel s q → Rel t r → Rel (order.otherwise s t) (order.otherwise q r)
  pub ending : {n x : ℕ} {s q : Order} → Rel s q → Rel (order.ending n x s) (order.ending n x q)
  pub passes : {l : ℕ} {s q : Order} → Rel s q → Rel (order.passes l s) (order.passes l q)

-- what is put at blocks, jumps and returns keeps nodes, and is so related
pub record Furthers (Rel : Order → Order → Type 0) (C D : Changes) : Type 0 where
  pub jump_mark : (m : Mark) (l : ℕ) (k : Bool) → mark_of (D.at_jump m l k) ≡ mark_of (C.at_jump m l k)
  pub return_mark : (e f : Exp) → mark_of f ≡ mark_of e → mark_of (D.at_return f) ≡ mark_of (C.at_return e)
  pub at_block : (n : ℕ) (was b c : Body) (d : Temporary) → Rel (order_body b n d) (order_body c n d) → Rel (order_body (C.at_block n was b) n d) (order_body (D.at_block n was c) n d)
  pub at_jump : (m : Mark) (l : ℕ) (k : Bool) (d : Temporary) → Rel (order (C.at_jump m l k) d) (order (D.at_jump m l k) d)
  pub at_return : (e f : Exp) → mark_of f ≡ mark_of e → Rel (order e (temporary_of e)) (order f (temporary_of e)) → Rel (order (C.at_return e) (temporary_of (C.at_return e))) (order (D.at_return f) (temporary_of (C.at_return e)))

module _ (Rel : Order → Order → Type 0) (L : Congruent Rel) where
  -- ---- patterns and statements

  pub testing_further : (S : Subject) (ts : List PartTest) {q r : Order} → Rel q r → Rel (testing S ts q) (testing S ts r)
  testing_further S [] m = m
  testing_further S (t ∷ ts) m = L.sequence L.same (L.choice (testing_further S ts m) L.same)

  pub binding_further : (S : Subject) (bs : List Binding) (n : ℕ) {q r : Order} → Rel q r → Rel (binding S bs n q) (binding S bs n r)
  binding_further S [] n m = m
  binding_further S (b ∷ bs) n m = L.sequence L.same (L.sequence L.same (L.sequence L.same (L.ending (binding_further S bs n m))))

  pub declaring_further : (s : ℕ) (ys : List ℕ) (n : ℕ) {q r : Order} → Rel q r → Rel (declaring s ys n q) (declaring s ys n r)
  declaring_further s [] n m = m
  declaring_further s (x ∷ ys) n m = L.sequence L.same (L.ending (declaring_further s ys n m))

  pub beginning_further : (ps : List Parameter) (n : ℕ) {q r : Order} → Rel q r → Rel (beginning ps n q) (beginning ps n r)
  beginning_further [] n m = m
  beginning_further (p ∷ ps) n m = L.sequence L.same (L.sequence L.same (L.ending (beginning_further ps n m)))

  pub before_further : (ss : List Statement) (a b : Body) (n : ℕ) (d : Temporary) → Rel (order_body a n d) (order_body b n d) → Rel (order_body (before ss a) n d) (order_body (before ss b) n d)
  before_further [] a b n d m = m
  before_further (does e ∷ ss) a b n d m = L.sequence L.same (before_further ss a b n d m)
  before_further (begins s ys ∷ ss) a b n d m = declaring_further s ys n (before_further ss a b n d m)
  before_further (binds s p c ∷ ss) a b n d m = L.sequence L.same (binding_further (subject c) (bindings [] p) n (before_further ss a b n d m))

  module _ (C D : Changes) (K : Furthers Rel C D) where
    same : (e : Exp) → mark_of (changed D e) ≡ mark_of (changed C e)
    same (read m v p) = refl
    same (borrow m k p) = refl
    same (share m e) = refl
    same (build m w es) = refl
    same (unit m) = refl
    same (lazily m b e f) = refl
    same (assign m p e) = refl
    same (update m o p e) = refl
    same (call m f es) = refl
    same (input m) = refl
    same (print m e) = refl
    same (block m b) = refl
    same (choose m s l) = refl
    same (loop m l e) = refl
    same (jump m l k) = K.jump_mark m l k
    same (give m e) = refl

    pub same_temporary : (e : Exp) → temporary_of (changed D e) ≡ temporary_of (changed C e)
    same_temporary e = ap (λ (m : Mark). temporary_at m.node 0) (same e)

    same_temporaries : (es : Operands) → temporaries_of (changed_all D es) ≡ temporaries_of (changed_all C es)
    same_temporaries no_operand = refl
    same_temporaries (operand_and i e es) = ap (λ t. t ∷ temporaries_of (changed_all D es)) (same_temporary e) ∙ ap (λ l. temporary_of (changed C e) ∷ l) (same_temporaries es)

    same_fields : (es : Operands) → fields_of (changed_all D es) ≡ fields_of (changed_all C es)
    same_fields no_operand = refl
    same_fields (operand_and i e es) = ap (λ l. i ∷ l) (same_fields es)

    pub same_subject : (s : Scrutinee) → subject (changed_matched D s) ≡ subject (changed_matched C s)
    same_subject (at_place m p) = refl
    same_subject (of_value e) = ap in_temporary (same_temporary e)

    pub act_further : {a b : Action} → b ≡ a → Rel (order.act a) (order.act b)
    act_further {a = a} e = subst (λ b. Rel (order.act a) (order.act b)) (sym e) L.same

    told : (f : Temporary → Action) (e : Exp) → Rel (order.act (f (temporary_of (changed C e)))) (order.act (f (temporary_of (changed D e))))
    told f e = act_further (ap f (same_temporary e))

    pub own_further : (e : Exp) → Rel (order (changed C e) (temporary_of (changed C e))) (order (changed D e) (temporary_of (changed C e)))
        → Rel (order (changed C e) (temporary_of (changed C e))) (order (changed D e) (temporary_of (changed D e)))
    own_further e m = subst (λ t. Rel (order (changed C e) (temporary_of (changed C e))) (order (changed D e) t)) (sym (same_temporary e)) m

    given_further : (m : Mark) (e : Exp) → Rel (order (changed C e) (temporary_of (changed C e))) (order (changed D e) (temporary_of (changed C e))) → (d : Temporary)
        → Rel (order (give m (C.at_return (changed C e))) d) (order (give m (D.at_return (changed D e))) d)
    given_further m e h d =
        let q = ap (λ (n : Mark). temporary_at n.node 0) (K.return_mark (changed C e) (changed D e) (same e)) in
        subst (λ t. Rel (order (give m (C.at_return (changed C e))) d) (order.then (order (D.at_return (changed D e)) t) (order.then (order.act (at_mark m (Give t))) (order.leave (order.returns m.node))))) (sym q)
        (L.sequence (K.at_return (changed C e) (changed D e) (same e) h) L.same)

    mutual
      pub further : (e : Exp) (d : Temporary) → Rel (order (changed C e) d) (order (changed D e) d)
      further (read m v p) d = L.same
      further (borrow m k p) d = L.same
      further (share m e) d = L.sequence (further e _) L.same
      further (build m w es) d = L.sequence (all_further es) (act_further (ap (λ is. at_mark m (Build w is (temporaries_of (changed_all D es)) d)) (same_fields es) ∙ ap (λ ts. at_mark m (Build w (fields_of (changed_all C es)) ts d)) (same_temporaries es)))
      further (unit m) d = L.same
      further (lazily m b e g) d = L.sequence (own_further e (further e _)) (L.sequence (told (λ t. at_mark m (Test (temporary_place t) (equals (truth b)))) e) (L.sequence (L.choice (own_further g (further g _)) L.same)
          (act_further (ap (λ t. at_mark m (Build lazy [] (t ∷ temporary_of (changed D g) ∷ []) d)) (same_temporary e) ∙ ap (λ t. at_mark m (Build lazy [] (temporary_of (changed C e) ∷ t ∷ []) d)) (same_temporary g)))))
      further (assign m p e) d = L.sequence (own_further e (further e _)) (told (λ t. at_mark m (Write p t [])) e)
      further (update m o p e) d = L.sequence (own_further e (further e _)) (L.sequence L.same (L.sequence (told (λ t. at_mark m (Build (operation o) [] (temporary_at m.node 1 ∷ t ∷ []) (temporary_at m.node 2))) e) L.same))
      further (call m g es) d = L.sequence (all_further es) (act_further (ap (λ ts. at_mark m (Call g ts d)) (same_temporaries es)))
      further (input m) d = L.same
      further (print m e) d = L.sequence (own_further e (further e _)) (told (λ t. at_mark m (Print t)) e)
      further (block m b) d = K.at_block m.node b (changed_body C b) (changed_body D b) d (body_further b m.node d)
      further (choose m s l) d = L.sequence (matched_further s)
          (subst (λ S. Rel (order_arms (subject (changed_matched C s)) (changed_arms C l) d) (order_arms S (changed_arms D l) d)) (sym (same_subject s)) (arms_further (subject (changed_matched C s)) l d))
      further (loop m l e) d = L.passes (own_further e (further e _))
      further (jump m l k) d = K.at_jump m l k d
      further (give m e) d = given_further m e (further e _) d

      all_further : (es : Operands) → Rel (order_all (changed_all C es)) (order_all (changed_all D es))
      all_further no_operand = L.same
      all_further (operand_and i e es) = L.sequence (own_further e (further e _)) (all_further es)

      pub matched_further : (s : Scrutinee) → Rel (order_scrutinee (changed_matched C s)) (order_scrutinee (changed_matched D s))
      matched_further (at_place m p) = L.same
      matched_further (of_value e) = own_further e (further e _)

      arms_further : (S : Subject) (l : Arms) (d : Temporary) → Rel (order_arms S (changed_arms C l) d) (order_arms S (changed_arms D l) d)
      arms_further S no_arm d = L.same
      arms_further S (arm_and p e l) d = L.fallback
          (subst (λ (m : Mark). Rel (testing S (tests [] p) (binding S (bindings [] p) (mark_of (changed C e)).node (order (changed C e) d))) (testing S (tests [] p) (binding S (bindings [] p) m.node (order (changed D e) d))))
          (sym (same e)) (testing_further S (tests [] p) (binding_further S (bindings [] p) (mark_of (changed C e)).node (further e d))))
          (arms_further S l d)

      body_further : (b : Body) (n : ℕ) (d : Temporary) → Rel (order_body (changed_body C b) n d) (order_body (changed_body D b) n d)
      body_further (ends e) n d = further e d
      body_further (runs e b) n d = L.sequence (own_further e (further e _)) (body_further b n d)
      body_further (declares s ys b) n d = declaring_further s ys n (body_further b n d)
      body_further (lets s p c b) n d = L.sequence (matched_further c)
          (subst (λ S. Rel (binding (subject (changed_matched C c)) (bindings [] p) n (order_body (changed_body C b) n d)) (binding S (bindings [] p) n (order_body (changed_body D b) n d))) (sym (same_subject c))
          (binding_further (subject (changed_matched C c)) (bindings [] p) n (body_further b n d)))

    pub statements_further : (ss : List Statement) (a b : Body) (n : ℕ) (d : Temporary) → Rel (order_body a n d) (order_body b n d) → Rel (order_body (before (map (changed_statement C) ss) a) n d) (order_body (before (map (changed_statement D) ss) b) n d)
    statements_further [] a b n d h = h
    statements_further (does e ∷ ss) a b n d h = L.sequence (own_further e (further e _)) (statements_further ss a b n d h)
    statements_further (begins s ys ∷ ss) a b n d h = declaring_further s ys n (statements_further ss a b n d h)
    statements_further (binds s p c ∷ ss) a b n d h = L.sequence (matched_further c)
        (subst (λ S. Rel (binding (subject (changed_matched C c)) (bindings [] p) n (order_body (before (map (changed_statement C) ss) a) n d)) (binding S (bindings [] p) n (order_body (before (map (changed_statement D) ss) b) n d))) (sym (same_subject c))
        (binding_further (subject (changed_matched C c)) (bindings [] p) n (statements_further ss a b n d h)))

    pub function_further : (g : Function) → Rel (order_function (changed_function C g)) (order_function (changed_function D g))
    function_further g =
        subst (λ (m : Mark). Rel (beginning g.params (mark_of (changed C g.body)).node (order (changed C g.body) (temporary_of (changed C g.body)))) (beginning g.params m.node (order (changed D g.body) (temporary_of (changed D g.body)))))
        (sym (same g.body)) (beginning_further g.params (mark_of (changed C g.body)).node (own_further g.body (further g.body _)))
