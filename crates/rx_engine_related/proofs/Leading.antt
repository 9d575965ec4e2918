-- Form by form: where the parts of a tree with changes at its blocks and jumps are told of, by how many blocks weigh in them, so is the
-- tree.
use Rattle.std.proofs.Common.{◌≡◌, ℕ, ◌+◌, ◌≤◌, ◌==◌, Bool, List, [], ◌∷◌, ◌++◌, refl, arith}
use Rattle.rx_core.specs.declared.types.Step.{Step}
use Rattle.rx_typed.specs.Tree.{Temporary, Mode, by_value, by_reference, Mark, Exp, read, borrow, share, build, unit, lazily, assign, update, call, input, print, block, choose, loop, jump, give, Operands, no_operand, operand_and, Scrutinee, at_place, of_value, Arms, no_arm, arm_and, Body, ends, runs, declares, lets, Parameter, mark_of, temporary_at, temporary_of}
use Rattle.rx_lower_walks.specs.Matching.{PartTest, Binding, tests, bindings}
use Rattle.rx_lower_walks.specs.Actions.{Action, does, Subject, in_place, in_temporary, subject, taking, test_of, declared, written, taken}
use Rattle.rx_lower_walks.specs.Actions as action
use Rattle.rx_lower_walks.specs.Orders.{Exit, Order, testing, perhaps, binding, declaring, declared_parameter, written_parameter, order, order_all, order_scrutinee, order_arms, order_body, beginning}
use Rattle.rx_lower_walks.specs.Orders as orders
use Rattle.rx_exits_plan.specs.Blocks.{bound}
use Rattle.rx_exits_plan.specs.Spots.{Around, with_variables, with_loop, Spot, a_return, spots, spots_in, spots_matched, spots_armed, spots_of}
use Rattle.rx_exits_plan.specs.Changed.{Changes, changed, changed_all, changed_matched, changed_arms, changed_body}
use Rattle.rx_engine_related.proofs.Counting.{one_if, is_it}
use Rattle.rx_engine_related.proofs.Bare.{NoMarks}
use Rattle.rx_engine_related.proofs.Sole.{Light, built, weighed, weighed_both, of_testing, of_binding, of_declaring}

-- what holds of the loops of an order
abbrev pub Loops : (ℕ → Type 0) → Order → Type 0
Loops Ok (orders.then s t) = Loops Ok s × Loops Ok t
Loops Ok (orders.or s t) = Loops Ok s × Loops Ok t
Loops Ok (orders.otherwise s t) = Loops Ok s × Loops Ok t
Loops Ok (orders.ending n x s) = Loops Ok s
Loops Ok (orders.passes l s) = Ok l × Loops Ok s
Loops Ok _ = Unit {0}

pub loops_testing : (Ok : ℕ → Type 0) (S : Subject) (ts : List PartTest) (r : Order) → Loops Ok (testing S ts r) → Loops Ok r
loops_testing Ok S [] r h = h
loops_testing Ok S (t ∷ ts) r h = loops_testing Ok S ts r h.1.0

pub loops_binding : (Ok : ℕ → Type 0) (S : Subject) (bs : List Binding) (n : ℕ) (r : Order) → Loops Ok (binding S bs n r) → Loops Ok r
loops_binding Ok S [] n r h = h
loops_binding Ok S (b ∷ bs) n r h = loops_binding Ok S bs n r h.1.1.1

pub loops_declaring : (Ok : ℕ → Type 0) (s : ℕ) (xs : List ℕ) (n : ℕ) (r : Order) → Loops Ok (declaring s xs n r) → Loops Ok r
loops_declaring Ok s [] n r h = h
loops_declaring Ok s (x ∷ xs) n r h = loops_declaring Ok s xs n r h.1

-- how it is told of parts put together; an action is none of the marks of this number
pub record Forms (k : ℕ) (Ok : ℕ → Type 0) (P : ℕ → Order → Type 0) : Type 0 where
  pub of_nothing : P 0 orders.nothing
  pub of_nowhere : P 0 orders.nowhere
  pub of_fail : P 0 orders.fail
  pub of_act : (b : Action) → one_if (is_it k b) ≡ 0 → P 0 (orders.act b)
  pub of_leave : (x : Exit) → P 0 (orders.leave x)
  pub of_then : (b c : ℕ) (s t : Order) → P b s → P c t → P (b + c) (orders.then s t)
  pub of_or : (b c : ℕ) (s t : Order) → P b s → P c t → P (b + c) (orders.or s t)
  pub of_otherwise : (b c : ℕ) (s t : Order) → P b s → P c t → P (b + c) (orders.otherwise s t)
  pub of_ending : (b n x : ℕ) (s : Order) → P b s → P b (orders.ending n x s)
  pub of_passes : (b l : ℕ) (s : Order) → Ok l → P b s → P b (orders.passes l s)
  pub weak : (b c : ℕ) (s : Order) → b ≤ c → P b s → P c s

module _ (k : ℕ) (Ok : ℕ → Type 0) (P : ℕ → Order → Type 0) (F : Forms k Ok P) where
  with_act : (b : ℕ) (s : Order) (c : Action) → one_if (is_it k c) ≡ 0 → P b s → P b (orders.then s (orders.act c))
  with_act b s c e x = F.weak (b + 0) b (orders.then s (orders.act c)) (omega arith) (F.of_then b 0 s (orders.act c) x (F.of_act c e))

  behind_it : (b : ℕ) (s t : Order) → P 0 s → P b t → P b (orders.then s t)
  behind_it b s t x y = F.weak (0 + b) b (orders.then s t) (omega arith) (F.of_then 0 b s t x y)

  pub act_with : (b : ℕ) (s : Order) (c : Action) → one_if (is_it k c) ≡ 0 → P b s → P b (orders.then (orders.act c) s)
  act_with b s c e x = behind_it b (orders.act c) s (F.of_act c e) x

  perhaps_not : (b : ℕ) (s : Order) → P b s → P b (orders.or s orders.nothing)
  perhaps_not b s x = F.weak (b + 0) b (orders.or s orders.nothing) (omega arith) (F.of_or b 0 s orders.nothing x F.of_nothing)

  of_testing_part : (b : ℕ) (S : Subject) (ts : List PartTest) (r : Order) → P b r → P b (testing S ts r)
  of_testing_part b S [] r x = x
  of_testing_part b S (t ∷ ts) r x =
      act_with b (orders.or (testing S ts r) orders.fail) (test_of S t) refl
      (F.weak (b + 0) b (orders.or (testing S ts r) orders.fail) (omega arith) (F.of_or b 0 (testing S ts r) orders.fail (of_testing_part b S ts r x) F.of_fail))

  of_taking : (n : ℕ) (m : Mode) (S : Subject) (ss : List Step) (d : Temporary) → P 0 (perhaps n (taking m S ss d))
  of_taking n (by_reference v) S ss d = F.of_act _ refl
  of_taking n (by_value v) (in_place p) ss d = F.of_act _ refl
  of_taking n (by_value v) (in_temporary t) ss d = F.of_nothing

  pub of_binding_part : (b : ℕ) (S : Subject) (bs : List Binding) (n : ℕ) (r : Order) → P b r → P b (binding S bs n r)
  of_binding_part b S [] n r x = x
  of_binding_part b S (c ∷ bs) n r x =
      let e = F.of_ending b n c.variable (binding S bs n r) (of_binding_part b S bs n r x) in
      let w = act_with b (orders.ending n c.variable (binding S bs n r)) (written S c) refl e in
      behind_it b (perhaps c.node (taken S c)) _ (of_taking c.node c.mode S c.steps (temporary_at c.node 0)) (act_with b _ (declared c) refl w)

  pub of_declaring_part : (b s : ℕ) (xs : List ℕ) (n : ℕ) (r : Order) → P b r → P b (declaring s xs n r)
  of_declaring_part b s [] n r x = x
  of_declaring_part b s (y ∷ xs) n r x = act_with b (orders.ending n y (declaring s xs n r)) (does s (action.Declare y)) refl (F.of_ending b n y (declaring s xs n r) (of_declaring_part b s xs n r x))

  pub of_beginning_part : (b : ℕ) (ps : List Parameter) (n : ℕ) (r : Order) → P b r → P b (beginning ps n r)
  of_beginning_part b [] n r x = x
  of_beginning_part b (p ∷ ps) n r x =
      let e = F.of_ending b n p.variable (beginning ps n r) (of_beginning_part b ps n r x) in
      act_with b _ (declared_parameter p) refl (act_with b _ (written_parameter p) refl e)

-- no jump weighs
abbrev pub no_weight : ℕ → Bool → ℕ
no_weight l again = 0

-- and at blocks and jumps
pub record Changing (k : ℕ) (Ok : ℕ → Type 0) (P : ℕ → Order → Type 0) (C : Changes) (w : Around → ℕ → Body → ℕ) : Type 0 where
  pub of_block : (a : Around) (n : ℕ) (was b : Body) (d f : Temporary) (i : ℕ) → NoMarks (order_body was n f) → Loops Ok (order_body was n f) → P i (order_body b n d) → P (w a n was + i) (order_body (C.at_block n was b) n d)
  pub of_jump : (m : Mark) (l : ℕ) (again : Bool) (d : Temporary) → P 0 (order (C.at_jump m l again) d)
  -- parts of the operand give parts of what is put there
  pub of_return : (e : Exp) (i : ℕ) → ((d : Temporary) → P i (order e d)) → (d : Temporary) → P i (order (C.at_return e) d)

module _ (k : ℕ) (Ok : ℕ → Type 0) (P : ℕ → Order → Type 0) (F : Forms k Ok P) (C : Changes) (w : Around → ℕ → Body → ℕ) (G : Changing k Ok P C w)
    (w0 : Around → ℕ → Body → ℕ) (u0 : ℕ → Bool → ℕ) (K : Light k C w0 u0) where
  abbrev W : List Spot → ℕ
  W l = weighed w no_weight l

  -- parts of two lists of spots
  both_then : (l m : List Spot) (s t : Order) → P (W l) s → P (W m) t → P (W (l ++ m)) (orders.then s t)
  both_then l m s t x y = let z = weighed_both w no_weight l m in F.weak (W l + W m) (W (l ++ m)) (orders.then s t) (omega (arith, z)) (F.of_then (W l) (W m) s t x y)

  both_otherwise : (l m : List Spot) (s t : Order) → P (W l) s → P (W m) t → P (W (l ++ m)) (orders.otherwise s t)
  both_otherwise l m s t x y = let z = weighed_both w no_weight l m in F.weak (W l + W m) (W (l ++ m)) (orders.otherwise s t) (omega (arith, z)) (F.of_otherwise (W l) (W m) s t x y)

  mutual
    pub grown : (e : Exp) (a : Around) (d f : Temporary) → NoMarks (order e f) → Loops Ok (order e f) → P (W (spots a e)) (order (changed C e) d)
    grown (read m v p) a d f h i = F.of_act _ refl
    grown (borrow m b p) a d f h i = F.of_act _ refl
    grown (share m e) a d f h i = with_act k Ok P F (W (spots a e)) _ _ refl (grown e a (temporary_at m.node 1) (temporary_at m.node 1) h.0 i.0)
    grown (build m v es) a d f h i = with_act k Ok P F (W (spots_in a es)) _ _ (built k C w0 u0 K v es (m.node == k) h.1) (grown_all es a h.0 i.0)
    grown (unit m) a d f h i = F.of_nothing
    grown (lazily m b e g) a d f h i =
        both_then (spots a e) (spots a g) _ _ (grown e a (temporary_of (changed C e)) (temporary_of e) h.0 i.0)
        (act_with k Ok P F (W (spots a g)) _ _ refl (with_act k Ok P F (W (spots a g)) _ _ refl (perhaps_not k Ok P F (W (spots a g)) _ (grown g a (temporary_of (changed C g)) (temporary_of g) h.1.1.0.0 i.1.1.0.0))))
    grown (assign m p e) a d f h i = with_act k Ok P F (W (spots a e)) _ _ refl (grown e a (temporary_of (changed C e)) (temporary_of e) h.0 i.0)
    grown (update m o p e) a d f h i =
        F.weak (W (spots a e) + 0) (W (spots a e)) _ (omega arith) (F.of_then (W (spots a e)) 0 _ _ (grown e a (temporary_of (changed C e)) (temporary_of e) h.0 i.0)
        (act_with k Ok P F 0 _ _ refl (act_with k Ok P F 0 _ _ refl (F.of_act _ refl))))
    grown (call m g es) a d f h i = with_act k Ok P F (W (spots_in a es)) _ _ refl (grown_all es a h.0 i.0)
    grown (input m) a d f h i = F.of_act _ refl
    grown (print m e) a d f h i = with_act k Ok P F (W (spots a e)) _ _ refl (grown e a (temporary_of (changed C e)) (temporary_of e) h.0 i.0)
    grown (block m b) a d f h i = G.of_block a m.node b (changed_body C b) d f (W (spots_of a b)) h i (grown_body b m.node a d f h i)
    grown (choose m s l) a d f h i = both_then (spots_matched a s) (spots_armed a l) _ _ (grown_matched s a h.0 i.0) (grown_arms (subject s) (subject (changed_matched C s)) l a d f h.1 i.1)
    grown (loop m l e) a d f h i = F.of_passes (W (spots (with_loop l a) e)) l _ i.0 (grown e (with_loop l a) (temporary_of (changed C e)) (temporary_of e) h i.1)
    grown (jump m l again) a d f h i = G.of_jump m l again d
    grown (give m e) a d f h i =
        both_then (spots a e) (a_return a m.node ∷ []) _ _ (G.of_return (changed C e) (W (spots a e)) (λ t. grown e a t (temporary_of e) h.0 i.0) (temporary_of (C.at_return (changed C e))))
        (act_with k Ok P F 0 _ _ refl (F.of_leave _))

    grown_all : (es : Operands) (a : Around) → NoMarks (order_all es) → Loops Ok (order_all es) → P (W (spots_in a es)) (order_all (changed_all C es))
    grown_all no_operand a h i = F.of_nothing
    grown_all (operand_and j e es) a h i = both_then (spots a e) (spots_in a es) _ _ (grown e a (temporary_of (changed C e)) (temporary_of e) h.0 i.0) (grown_all es a h.1 i.1)

    pub grown_matched : (s : Scrutinee) (a : Around) → NoMarks (order_scrutinee s) → Loops Ok (order_scrutinee s) → P (W (spots_matched a s)) (order_scrutinee (changed_matched C s))
    grown_matched (at_place m p) a h i = F.of_nothing
    grown_matched (of_value e) a h i = grown e a (temporary_of (changed C e)) (temporary_of e) h i

    grown_arms : (S T : Subject) (l : Arms) (a : Around) (d f : Temporary) → NoMarks (order_arms S l f) → Loops Ok (order_arms S l f) → P (W (spots_armed a l)) (order_arms T (changed_arms C l) d)
    grown_arms S T no_arm a d f h i = F.of_nowhere
    grown_arms S T (arm_and p e l) a d f h i =
        let r : Order = order e f in
        let q = binding S (bindings [] p) (mark_of e).node r in
        let x = grown e (with_variables (bound p) a) d f (of_binding S (bindings [] p) (mark_of e).node r (of_testing S (tests [] p) q h.0)) (loops_binding Ok S (bindings [] p) (mark_of e).node r (loops_testing Ok S (tests [] p) q i.0)) in
        let b = W (spots (with_variables (bound p) a) e) in
        both_otherwise (spots (with_variables (bound p) a) e) (spots_armed a l) _ _
        (of_testing_part k Ok P F b T (tests [] p) _ (of_binding_part k Ok P F b T (bindings [] p) (mark_of (changed C e)).node (order (changed C e) d) x)) (grown_arms S T l a d f h.1 i.1)

    grown_body : (b : Body) (n : ℕ) (a : Around) (d f : Temporary) → NoMarks (order_body b n f) → Loops Ok (order_body b n f) → P (W (spots_of a b)) (order_body (changed_body C b) n d)
    grown_body (ends e) n a d f h i = grown e a d f h i
    grown_body (runs e b) n a d f h i = both_then (spots a e) (spots_of a b) _ _ (grown e a (temporary_of (changed C e)) (temporary_of e) h.0 i.0) (grown_body b n a d f h.1 i.1)
    grown_body (declares s xs b) n a d f h i =
        of_declaring_part k Ok P F (W (spots_of (with_variables xs a) b)) s xs n _ (grown_body b n (with_variables xs a) d f (of_declaring s xs n (order_body b n f) h) (loops_declaring Ok s xs n (order_body b n f) i))
    grown_body (lets s p c b) n a d f h i =
        both_then (spots_matched a c) (spots_of (with_variables (bound p) a) b) _ _ (grown_matched c a h.0 i.0)
        (of_binding_part k Ok P F (W (spots_of (with_variables (bound p) a) b)) (subject (changed_matched C c)) (bindings [] p) n _
        (grown_body b n (with_variables (bound p) a) d f (of_binding (subject c) (bindings [] p) n (order_body b n f) h.1) (loops_binding Ok (subject c) (bindings [] p) n (order_body b n f) i.1)))
