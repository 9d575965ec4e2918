-- No test that fails leads out of an expression or a block: behind the last arm nothing goes on.
use Rattle.std.proofs.Common.{ℕ, List, [], ◌∷◌, Some, None, Option}
use Rattle.rx_typed.specs.Tree as tree
use Rattle.rx_typed.specs.Tree.{Temporary, Exp, Operands, Scrutinee, Arms, Body, temporary_of, temporary_at}
use Rattle.rx_lower_walks.specs.Matching.{Binding, bindings}
use Rattle.rx_lower_walks.specs.Actions.{Act, Action, Subject, subject, taken}
use Rattle.rx_lower_walks.specs.Orders.{Order, Exit, perhaps, binding, declaring, order, order_all, order_scrutinee, order_arms, order_body}
use Rattle.rx_lower_walks.specs.Orders as orders
use Rattle.rx_lower_walks.specs.Walks.{fails, Walk, both, first, one, other, holds, next, last, more}

abbrev pub Stays : Order → Type 0
Stays s = (us : List Action) → Walk s us fails → ⊥

stays_nothing : Stays orders.nothing
stays_nothing us w = elim w [ ]

stays_nowhere : Stays orders.nowhere
stays_nowhere us w = elim w [ ]

stays_act : (a : Action) → Stays (orders.act a)
stays_act a us w = elim w [ ]

stays_leave : (x : Exit) → Stays (orders.leave x)
stays_leave x us w = elim w [ ]

stays_then : (s t : Order) → Stays s → Stays t → Stays (orders.then s t)
stays_then s t f g us (both {us = u} {vs = v} h k) = g v k
stays_then s t f g us (first e h) = f us h

stays_or : (s t : Order) → Stays s → Stays t → Stays (orders.or s t)
stays_or s t f g us (one h) = f us h
stays_or s t f g us (other h) = g us h

stays_otherwise : (s t : Order) → Stays t → Stays (orders.otherwise s t)
stays_otherwise s t g us (holds e h) = e
stays_otherwise s t g us (next {us = u} {vs = v} h k) = g v k

stays_ending : (n x : ℕ) (s : Order) → Stays (orders.ending n x s)
stays_ending n x s us w = elim w [ ]

stays_passes : (l : ℕ) (s : Order) → Stays (orders.passes l s)
stays_passes l s us (last h k) = elim k [ ]
stays_passes l s us (more {vs = v} h p k) = stays_passes l s v k

stays_perhaps : (n : ℕ) (a : Option Act) → Stays (perhaps n a)
stays_perhaps n None = stays_nothing
stays_perhaps n (Some a) = stays_act _

stays_binding : (X : Subject) (bs : List Binding) (n : ℕ) (r : Order) → Stays r → Stays (binding X bs n r)
stays_binding X [] n r f = f
stays_binding X (b ∷ bs) n r f = stays_then _ _ (stays_perhaps b.node (taken X b)) (stays_then _ _ (stays_act _) (stays_then _ _ (stays_act _) (stays_ending n b.variable (binding X bs n r))))

stays_declaring : (s : ℕ) (xs : List ℕ) (n : ℕ) (r : Order) → Stays r → Stays (declaring s xs n r)
stays_declaring s [] n r f = f
stays_declaring s (x ∷ xs) n r f = stays_then _ _ (stays_act _) (stays_ending n x (declaring s xs n r))

mutual
  pub exp_stays : (e : Exp) (d : Temporary) → Stays (order e d)
  exp_stays (tree.read m v p) d = stays_act _
  exp_stays (tree.borrow m b p) d = stays_act _
  exp_stays (tree.share m e) d = stays_then _ _ (exp_stays e (temporary_at m.node 1)) (stays_act _)
  exp_stays (tree.build m w es) d = stays_then _ _ (all_stays es) (stays_act _)
  exp_stays (tree.unit m) d = stays_nothing
  exp_stays (tree.lazily m b e f) d = stays_then _ _ (exp_stays e (temporary_of e)) (stays_then _ _ (stays_act _) (stays_then _ _ (stays_or _ _ (exp_stays f (temporary_of f)) stays_nothing) (stays_act _)))
  exp_stays (tree.assign m p e) d = stays_then _ _ (exp_stays e (temporary_of e)) (stays_act _)
  exp_stays (tree.update m o p e) d = stays_then _ _ (exp_stays e (temporary_of e)) (stays_then _ _ (stays_act _) (stays_then _ _ (stays_act _) (stays_act _)))
  exp_stays (tree.call m f es) d = stays_then _ _ (all_stays es) (stays_act _)
  exp_stays (tree.input m) d = stays_act _
  exp_stays (tree.print m e) d = stays_then _ _ (exp_stays e (temporary_of e)) (stays_act _)
  exp_stays (tree.block m b) d = body_stays b m.node d
  exp_stays (tree.choose m s l) d = stays_then _ _ (matched_stays s) (arms_stay (subject s) l d)
  exp_stays (tree.loop m l e) d = stays_passes l (order e (temporary_of e))
  exp_stays (tree.jump m l again) d = stays_leave _
  exp_stays (tree.give m e) d = stays_then _ _ (exp_stays e (temporary_of e)) (stays_then _ _ (stays_act _) (stays_leave _))

  all_stays : (es : Operands) → Stays (order_all es)
  all_stays tree.no_operand = stays_nothing
  all_stays (tree.operand_and i e es) = stays_then _ _ (exp_stays e (temporary_of e)) (all_stays es)

  matched_stays : (s : Scrutinee) → Stays (order_scrutinee s)
  matched_stays (tree.at_place m p) = stays_nothing
  matched_stays (tree.of_value e) = exp_stays e (temporary_of e)

  arms_stay : (X : Subject) (l : Arms) (d : Temporary) → Stays (order_arms X l d)
  arms_stay X tree.no_arm d = stays_nowhere
  arms_stay X (tree.arm_and p e l) d = stays_otherwise _ _ (arms_stay X l d)

  pub body_stays : (b : Body) (n : ℕ) (d : Temporary) → Stays (order_body b n d)
  body_stays (tree.ends e) n d = exp_stays e d
  body_stays (tree.runs e b) n d = stays_then _ _ (exp_stays e (temporary_of e)) (body_stays b n d)
  body_stays (tree.declares s xs b) n d = stays_declaring s xs n (order_body b n d) (body_stays b n d)
  body_stays (tree.lets s p c b) n d = stays_then _ _ (matched_stays c) (stays_binding (subject c) (bindings [] p) n (order_body b n d) (body_stays b n d))
