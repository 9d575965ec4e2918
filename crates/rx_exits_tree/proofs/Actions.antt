-- The actions of a block are those of its statements, then those of what follows.
use Rattle.std.proofs.Common.{◌≡◌, ℕ, List, [], ◌∷◌, ◌++◌, Option, Some, None, refl, sym, ap, ◌∙◌}
use Rattle.std.proofs.lemmas.List.{append_assoc, append-nil}
use Rattle.rx_typed.specs.Tree.{Temporary, Exp, Body, ends, unit, temporary_of}
use Rattle.rx_lower_walks.specs.Matching.{Binding, bindings}
use Rattle.rx_lower_walks.specs.Actions as action
use Rattle.rx_lower_walks.specs.Actions.{Act, Declare, Subject, subject, taken, declared, written}
use Rattle.rx_lower_walks.specs.Orders.{Order, perhaps, binding, declaring, order, order_scrutinee, order_body, order_function}
use Rattle.rx_lower_walks.specs.Walks.{actions_in}
use Rattle.rx_exits_plan.specs.Blocks.{Statement, does, begins, binds, before}
use Rattle.rx_exits_plan.specs.Runs.{Run, inside, last_value}
use Rattle.rx_exits_plan.specs.Through.{all_begun, is_taken, all_bound, actions_of}
use Rattle.rx_exits_plan.specs.Plan.{actions_of_value, run_actions}
use Rattle.rx_exits_tree.specs.Shapes.{mark_at}
use Rattle.rx_exits_tree.specs.Alone.{value_as_statement, alone}

declaring_actions : (s : ℕ) (xs : List ℕ) (n : ℕ) (r : Order) → actions_in (declaring s xs n r) ≡ all_begun s xs ++ actions_in r
declaring_actions s [] n r = refl
declaring_actions s (x ∷ xs) n r = ap (λ l. action.does s (Declare x) ∷ l) (declaring_actions s xs n r)

perhaps_actions : (n : ℕ) (a : Option Act) → actions_in (perhaps n a) ≡ is_taken n a
perhaps_actions n None = refl
perhaps_actions n (Some a) = refl

binding_actions : (S : Subject) (bs : List Binding) (n : ℕ) (r : Order) → actions_in (binding S bs n r) ≡ all_bound S bs ++ actions_in r
binding_actions S [] n r = refl
binding_actions S (b ∷ bs) n r =
    ap (λ l. l ++ (declared b ∷ written S b ∷ actions_in (binding S bs n r))) (perhaps_actions b.node (taken S b))
    ∙ ap (λ l. is_taken b.node (taken S b) ++ (declared b ∷ written S b ∷ l)) (binding_actions S bs n r)
    ∙ sym (append_assoc (is_taken b.node (taken S b)) (declared b ∷ written S b ∷ all_bound S bs) (actions_in r))

statements_actions : (ss : List Statement) (b : Body) (n : ℕ) (d : Temporary) → actions_in (order_body (before ss b) n d) ≡ actions_of ss ++ actions_in (order_body b n d)
statements_actions [] b n d = refl
statements_actions (does e ∷ ss) b n d =
    ap (λ l. actions_in (order e (temporary_of e)) ++ l) (statements_actions ss b n d)
    ∙ sym (append_assoc (actions_in (order e (temporary_of e))) (actions_of ss) (actions_in (order_body b n d)))
statements_actions (begins s xs ∷ ss) b n d =
    declaring_actions s xs n (order_body (before ss b) n d)
    ∙ ap (λ l. all_begun s xs ++ l) (statements_actions ss b n d)
    ∙ sym (append_assoc (all_begun s xs) (actions_of ss) (actions_in (order_body b n d)))
statements_actions (binds s p c ∷ ss) b n d =
    let C = actions_in (order_scrutinee c) in
    let B = all_bound (subject c) (bindings [] p) in
    let R = actions_in (order_body b n d) in
    ap (λ l. C ++ l) (binding_actions (subject c) (bindings [] p) n (order_body (before ss b) n d) ∙ ap (λ l. B ++ l) (statements_actions ss b n d) ∙ sym (append_assoc B (actions_of ss) R))
    ∙ sym (append_assoc C (B ++ actions_of ss) R)

value_actions : (v : Option Exp) → actions_of (value_as_statement v) ≡ actions_of_value v
value_actions None = refl
value_actions (Some e) = append-nil (actions_in (order e (temporary_of e)))

pub alone_actions : (r : Run) (b : Body) → actions_in (order_function (alone r b)) ≡ run_actions r b
alone_actions r b =
    let v = value_as_statement (last_value r b) in
    let n = r.block in
    let d = temporary_of (alone r b).body in
    statements_actions (inside r b) (before v (ends (unit (mark_at n)))) n d
    ∙ ap (λ l. actions_of (inside r b) ++ l) (statements_actions v (ends (unit (mark_at n))) n d ∙ append-nil (actions_of v) ∙ value_actions (last_value r b))
