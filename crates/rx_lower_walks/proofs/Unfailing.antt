-- No test of a pattern leads out of the form that has it, so that what a variable's part does where one fails says nothing.
use Rattle.std.proofs.Common.{◌≡◌, ℕ, List, [], ◌∷◌, ◌++◌, Bool, true, false, ◌&&◌, ◌||◌, if◌then◌else◌, Option, Some, None, refl, ◌∙◌}
use Rattle.rx_typed.specs.Tree.{Exp, read, borrow, share, build, unit, lazily, assign, update, call, input, print, block, choose, loop, jump, give, Operands, no_operand, operand_and, Scrutinee, at_place, of_value, Arms, no_arm, arm_and, Body, ends, runs, declares, lets, Temporary, temporary_at, temporary_of}
use Rattle.rx_lower_walks.specs.Matching.{Binding, bindings}
use Rattle.rx_lower_walks.specs.Actions.{Act, Action, Subject, subject, taken}
use Rattle.rx_lower_walks.specs.Orders.{Exit, breaks, continues, returns, exit_node, Order, perhaps, binding, declaring, order_all, order_scrutinee, order_arms, order_body}
use Rattle.rx_lower_walks.specs.Orders as order
use Rattle.rx_lower_walks.specs.Graph.{Site}
use Rattle.rx_lower_walks.specs.Pieces.{Way, ahead, breaking, continuing, returning, failing, exit_way, Scope, Variable, left, Exits, nowhere_part, onto, then_part, leaving_part, part}
use Rattle.rx_lower_walks.proofs.Local.{same_sites}

pub NeverFails : Order → Type 0
NeverFails s = (scope : Scope) → (part scope s).ends failing ≡ false

nothing_unfailing : NeverFails order.nothing
unfolding NeverFails
nothing_unfailing scope = refl

nowhere_unfailing : NeverFails order.nowhere
unfolding NeverFails
nowhere_unfailing scope = refl

act_unfailing : (a : Action) → NeverFails (order.act a)
unfolding NeverFails
act_unfailing a scope = refl

and_false : (b : Bool) → (b && false) ≡ false
and_false true = refl
and_false false = refl

both_false : (x b c : Bool) → b ≡ false → c ≡ false → ((true && b) || (x && c)) ≡ false
both_false x b c d e = rw (d, e) (and_false x)

both_unfailing : (s t : Order) → NeverFails s → NeverFails t → NeverFails (order.then s t)
unfolding NeverFails
both_unfailing s t f h scope = both_false ((part scope s).ends ahead) _ _ (f scope) (h scope)

or_unfailing : (s t : Order) → NeverFails s → NeverFails t → NeverFails (order.or s t)
unfolding NeverFails
or_unfailing s t f h scope = rw (f scope, h scope) refl

-- whatever the first part does
otherwise_unfailing : (s t : Order) → NeverFails t → NeverFails (order.otherwise s t)
unfolding NeverFails
otherwise_unfailing s t h scope = rw (h scope) (and_false _)

ending_unfailing : (n x : ℕ) (s : Order) → NeverFails (order.ending n x s)
unfolding NeverFails
ending_unfailing n x s scope = both_false _ _ _ (and_false _) refl

passes_unfailing : (l : ℕ) (s : Order) → NeverFails (order.passes l s)
unfolding NeverFails
passes_unfailing l s scope = refl

leaving_unfailing : (n : ℕ) (xs : List ℕ) (x : Exit) → (leaving_part n xs (exit_way x)).ends failing ≡ false
leaving_unfailing n [] (breaks m l) = refl
leaving_unfailing n [] (continues m l) = refl
leaving_unfailing n [] (returns m) = refl
leaving_unfailing n (y ∷ xs) x = leaving_unfailing n xs x

leave_unfailing : (x : Exit) → NeverFails (order.leave x)
unfolding NeverFails
leave_unfailing x scope = leaving_unfailing (exit_node x) (left x scope) x

-- ---- the forms of the typed tree

perhaps_unfailing : (n : ℕ) (a : Option Act) → NeverFails (perhaps n a)
perhaps_unfailing n None = nothing_unfailing
perhaps_unfailing n (Some a) = act_unfailing _

binding_unfailing : (S : Subject) (bs : List Binding) (n : ℕ) (rest : Order) → NeverFails rest → NeverFails (binding S bs n rest)
binding_unfailing S [] n rest h = h
binding_unfailing S (b ∷ bs) n rest h =
    both_unfailing _ _ (perhaps_unfailing b.node (taken S b)) (both_unfailing _ _ (act_unfailing _) (both_unfailing _ _ (act_unfailing _) (ending_unfailing _ _ _)))

declaring_unfailing : (s : ℕ) (xs : List ℕ) (n : ℕ) (rest : Order) → NeverFails rest → NeverFails (declaring s xs n rest)
declaring_unfailing s [] n rest h = h
declaring_unfailing s (x ∷ xs) n rest h = both_unfailing _ _ (act_unfailing _) (ending_unfailing _ _ _)

mutual
  pub order_unfailing : (e : Exp) (d : Temporary) → NeverFails (order.order e d)
  order_unfailing (read m moves p) d = act_unfailing _
  order_unfailing (build m w es) d = both_unfailing _ _ (all_unfailing es) (act_unfailing _)
  order_unfailing (lazily m b e f) d =
      both_unfailing _ _ (order_unfailing e (temporary_of e)) (both_unfailing _ _ (act_unfailing _)
      (both_unfailing _ _ (or_unfailing _ _ (order_unfailing f (temporary_of f)) nothing_unfailing) (act_unfailing _)))
  order_unfailing (borrow m k p) d = act_unfailing _
  order_unfailing (share m e) d = both_unfailing _ _ (order_unfailing e (temporary_at m.node 1)) (act_unfailing _)
  order_unfailing (call m f es) d = both_unfailing _ _ (all_unfailing es) (act_unfailing _)
  order_unfailing (input m) d = act_unfailing _
  order_unfailing (print m e) d = both_unfailing _ _ (order_unfailing e (temporary_of e)) (act_unfailing _)
  order_unfailing (assign m p e) d = both_unfailing _ _ (order_unfailing e (temporary_of e)) (act_unfailing _)
  order_unfailing (update m o p e) d =
      both_unfailing _ _ (order_unfailing e (temporary_of e)) (both_unfailing _ _ (act_unfailing _) (both_unfailing _ _ (act_unfailing _) (act_unfailing _)))
  order_unfailing (choose m s l) d = both_unfailing _ _ (scrutinee_unfailing s) (arms_unfailing (subject s) l d)
  order_unfailing (loop m l e) d = passes_unfailing l _
  order_unfailing (jump m l again) d = leave_unfailing _
  order_unfailing (give m e) d = both_unfailing _ _ (order_unfailing e (temporary_of e)) (both_unfailing _ _ (act_unfailing _) (leave_unfailing _))
  order_unfailing (unit m) d = nothing_unfailing
  order_unfailing (block m b) d = body_unfailing b m.node d

  pub all_unfailing : (es : Operands) → NeverFails (order_all es)
  all_unfailing no_operand = nothing_unfailing
  all_unfailing (operand_and i e es) = both_unfailing _ _ (order_unfailing e (temporary_of e)) (all_unfailing es)

  pub scrutinee_unfailing : (s : Scrutinee) → NeverFails (order_scrutinee s)
  scrutinee_unfailing (at_place m p) = nothing_unfailing
  scrutinee_unfailing (of_value e) = order_unfailing e (temporary_of e)

  pub arms_unfailing : (S : Subject) (l : Arms) (d : Temporary) → NeverFails (order_arms S l d)
  arms_unfailing S no_arm d = nowhere_unfailing
  arms_unfailing S (arm_and p e rest) d = otherwise_unfailing _ _ (arms_unfailing S rest d)

  pub body_unfailing : (b : Body) (n : ℕ) (d : Temporary) → NeverFails (order_body b n d)
  body_unfailing (ends e) n d = order_unfailing e d
  body_unfailing (runs e rest) n d = both_unfailing _ _ (order_unfailing e (temporary_of e)) (body_unfailing rest n d)
  body_unfailing (declares s xs rest) n d = declaring_unfailing s xs n _ (body_unfailing rest n d)
  body_unfailing (lets s p c rest) n d = both_unfailing _ _ (scrutinee_unfailing c) (binding_unfailing (subject c) (bindings [] p) n _ (body_unfailing rest n d))

-- ---- endings

-- the sites of a variable's part whose tests don't lead out of it, and the end of the variable
pub plain_ending : (scope : Scope) (n x : ℕ) (s : Order) (b : ℕ) (k : Exits) → (part (Variable x ∷ scope) s).ends failing ≡ false
    → (then_part failing (part (Variable x ∷ scope) s) nowhere_part).sites b k ≡ (part (Variable x ∷ scope) s).sites b k
plain_ending scope n x s b k e = by ((part (Variable x ∷ scope) s).ends failing) ∙ same_sites (Variable x ∷ scope) s b (onto failing [] k) k agrees
  where
    append_none : (l : List Site) → l ++ [] ≡ l
    append_none [] = refl
    append_none (t ∷ l) = rw (append_none l)

    by : (c : Bool) → (part (Variable x ∷ scope) s).sites b (onto failing [] k) ++ (if c then [] else []) ≡ (part (Variable x ∷ scope) s).sites b (onto failing [] k)
    by true = append_none _
    by false = append_none _

    agrees : (q : Way) → (part (Variable x ∷ scope) s).ends q ≡ true → onto failing [] k q ≡ k q
    agrees failing d = absurd (cc)
    agrees ahead d = refl
    agrees (breaking l) d = refl
    agrees (continuing l) d = refl
    agrees returning d = refl
