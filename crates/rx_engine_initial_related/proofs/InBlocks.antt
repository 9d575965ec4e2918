-- What holds of the order of a function, and so of each of its parts, holds of the order of each of its blocks.
use Rattle.std.proofs.Common.{◌⊎◌, inl, inr, ℕ, List, [], ◌∷◌}
use Rattle.rx_typed.specs.Tree as tree
use Rattle.rx_typed.specs.Tree.{Temporary, Parameter, Exp, Operands, Scrutinee, Arms, Body, Function, mark_of, temporary_of, temporary_at}
use Rattle.rx_lower_walks.specs.Matching.{PartTest, Binding, tests, bindings}
use Rattle.rx_lower_walks.specs.Actions.{Subject, subject}
use Rattle.rx_lower_walks.specs.Orders.{Order, testing, binding, declaring, order_all, order_scrutinee, order_arms, order_body, beginning, order_function}
use Rattle.rx_lower_walks.specs.Orders as order
use Rattle.rx_lower_walks.specs.Walks.{Among, here, there}
use Rattle.rx_exits_plan.specs.Blocks.{bound}
use Rattle.rx_exits_plan.specs.Spots.{Around, a_block, a_return, with_variables, with_loop, spots, spots_in, spots_matched, spots_armed, spots_of, outermost, spots_of_function}
use Rattle.rx_engine_initial_related.proofs.Lists.{split}

either : {A B C : Type 0} → A ⊎ B → (A → C) → (B → C) → C
either (inl a) f g = f a
either (inr b) f g = g b

pub record OfParts (P : Order → Type 0) : Type 0 where
  pub first : {s t : Order} → P (order.then s t) → P s
  pub second : {s t : Order} → P (order.then s t) → P t
  pub one : {s t : Order} → P (order.or s t) → P s
  pub tested : {s t : Order} → P (order.otherwise s t) → P s
  pub next : {s t : Order} → P (order.otherwise s t) → P t
  pub ended : {n x : ℕ} {s : Order} → P (order.ending n x s) → P s
  pub pass : {l : ℕ} {s : Order} → P (order.passes l s) → P s

module _ (P : Order → Type 0) (C : OfParts P) where
  pub of_tests : (X : Subject) (ts : List PartTest) (rest : Order) → P (testing X ts rest) → P rest
  of_tests X [] rest h = h
  of_tests X (t ∷ ts) rest h = of_tests X ts rest (C.one (C.second h))

  pub of_bindings : (X : Subject) (bs : List Binding) (n : ℕ) (rest : Order) → P (binding X bs n rest) → P rest
  of_bindings X [] n rest h = h
  of_bindings X (b ∷ bs) n rest h = of_bindings X bs n rest (C.ended (C.second (C.second (C.second h))))

  pub of_declared : (k : ℕ) (xs : List ℕ) (n : ℕ) (rest : Order) → P (declaring k xs n rest) → P rest
  of_declared k [] n rest h = h
  of_declared k (x ∷ xs) n rest h = of_declared k xs n rest (C.ended (C.second h))

  pub of_params : (ps : List Parameter) (n : ℕ) (rest : Order) → P (beginning ps n rest) → P rest
  of_params [] n rest h = h
  of_params (p ∷ ps) n rest h = of_params ps n rest (C.ended (C.second (C.second h)))

  abbrev Found : ℕ → Body → Type 0
  Found n b = (f : Temporary) × P (order_body b n f)

  none_there : {c a : Around} {n m : ℕ} {b : Body} → Among (a_block c n b) (a_return a m ∷ []) → Found n b
  none_there (there j) = elim j [ ]

  mutual
    in_exp : (e : Exp) (a : Around) (d : Temporary) → P (order.order e d) → (c : Around) (n : ℕ) (b : Body) → Among (a_block c n b) (spots a e) → Found n b
    in_exp (tree.read m v p) a d h c n b i = elim i [ ]
    in_exp (tree.borrow m k p) a d h c n b i = elim i [ ]
    in_exp (tree.share m e) a d h c n b i = in_exp e a (temporary_at m.node 1) (C.first h) c n b i
    in_exp (tree.build m w es) a d h c n b i = in_all es a (C.first h) c n b i
    in_exp (tree.unit m) a d h c n b i = elim i [ ]
    in_exp (tree.lazily m k e f) a d h c n b i = either (split (spots a e) (spots a f) i) (λ j. in_exp e a (temporary_of e) (C.first h) c n b j) (λ j. in_exp f a (temporary_of f) (C.one (C.first (C.second (C.second h)))) c n b j)
    in_exp (tree.assign m p e) a d h c n b i = in_exp e a (temporary_of e) (C.first h) c n b i
    in_exp (tree.update m o p e) a d h c n b i = in_exp e a (temporary_of e) (C.first h) c n b i
    in_exp (tree.call m f es) a d h c n b i = in_all es a (C.first h) c n b i
    in_exp (tree.input m) a d h c n b i = elim i [ ]
    in_exp (tree.print m e) a d h c n b i = in_exp e a (temporary_of e) (C.first h) c n b i
    in_exp (tree.block m r) a d h c n b here = (d, h)
    in_exp (tree.block m r) a d h c n b (there i) = in_body r a m.node d h c n b i
    in_exp (tree.choose m s l) a d h c n b i = either (split (spots_matched a s) (spots_armed a l) i) (λ j. in_matched s a (C.first h) c n b j) (λ j. in_arms l a (subject s) d (C.second h) c n b j)
    in_exp (tree.loop m l e) a d h c n b i = in_exp e (with_loop l a) (temporary_of e) (C.pass h) c n b i
    in_exp (tree.jump m l k) a d h c n b (there i) = elim i [ ]
    in_exp (tree.give m e) a d h c n b i = either (split (spots a e) (a_return a m.node ∷ []) i) (λ j. in_exp e a (temporary_of e) (C.first h) c n b j) (λ j. none_there j)

    in_all : (es : Operands) (a : Around) → P (order_all es) → (c : Around) (n : ℕ) (b : Body) → Among (a_block c n b) (spots_in a es) → Found n b
    in_all tree.no_operand a h c n b i = elim i [ ]
    in_all (tree.operand_and k e es) a h c n b i = either (split (spots a e) (spots_in a es) i) (λ j. in_exp e a (temporary_of e) (C.first h) c n b j) (λ j. in_all es a (C.second h) c n b j)

    in_matched : (s : Scrutinee) (a : Around) → P (order_scrutinee s) → (c : Around) (n : ℕ) (b : Body) → Among (a_block c n b) (spots_matched a s) → Found n b
    in_matched (tree.at_place m p) a h c n b i = elim i [ ]
    in_matched (tree.of_value e) a h c n b i = in_exp e a (temporary_of e) h c n b i

    in_arms : (l : Arms) (a : Around) (X : Subject) (d : Temporary) → P (order_arms X l d) → (c : Around) (n : ℕ) (b : Body) → Among (a_block c n b) (spots_armed a l) → Found n b
    in_arms tree.no_arm a X d h c n b i = elim i [ ]
    in_arms (tree.arm_and p e l) a X d h c n b i = either (split (spots (with_variables (bound p) a) e) (spots_armed a l) i) (λ j. in_exp e (with_variables (bound p) a) d (of_bindings X (bindings [] p) (mark_of e).node (order.order e d) (of_tests X (tests [] p) (binding X (bindings [] p) (mark_of e).node (order.order e d)) (C.tested h))) c n b j) (λ j. in_arms l a X d (C.next h) c n b j)

    in_body : (r : Body) (a : Around) (m : ℕ) (d : Temporary) → P (order_body r m d) → (c : Around) (n : ℕ) (b : Body) → Among (a_block c n b) (spots_of a r) → Found n b
    in_body (tree.ends e) a m d h c n b i = in_exp e a d h c n b i
    in_body (tree.runs e r) a m d h c n b i = either (split (spots a e) (spots_of a r) i) (λ j. in_exp e a (temporary_of e) (C.first h) c n b j) (λ j. in_body r a m d (C.second h) c n b j)
    in_body (tree.declares k xs r) a m d h c n b i = in_body r (with_variables xs a) m d (of_declared k xs m (order_body r m d) h) c n b i
    in_body (tree.lets k p s r) a m d h c n b i = either (split (spots_matched a s) (spots_of (with_variables (bound p) a) r) i) (λ j. in_matched s a (C.first h) c n b j) (λ j. in_body r (with_variables (bound p) a) m d (of_bindings (subject s) (bindings [] p) m (order_body r m d) (C.second h)) c n b j)

  pub in_function : (f : Function) → P (order_function f) → (c : Around) (n : ℕ) (b : Body) → Among (a_block c n b) (spots_of_function f) → Found n b
  in_function f h c n b i = in_exp f.body (outermost f) (temporary_of f.body) (of_params f.params (mark_of f.body).node (order.order f.body (temporary_of f.body)) h) c n b i
