-- What a flow, an arm or a statement adds to the order of the items before it.
use Rattle.std.proofs.Common.{◌≡◌, ℕ, ◌+◌, ◌<◌, ◌≤◌, List, [], ◌∷◌, ◌++◌, Result, Ok, IfOk, map, drop, length, get_or, sym, ap, ◌∙◌, subst}
use Rattle.std.specs.declared.alloc.AllocError.{AllocError}
use Rattle.std.proofs.lemmas.List.{at_drop_all}
use Rattle.rx_typed.specs.Tree.{Temporary, temporary_of, mark_of}
use Rattle.rx_typed.specs.declared.tree.TypedTree.{TypedTree}
use Rattle.rx_typed.specs.declared.tree.Operand.{Operand}
use Rattle.rx_typed.specs.declared.tree.Arm.{Arm}
use Rattle.rx_typed.specs.PlainTree.{plain-Expr, plain-Operand, plain-Arm, plain-Pattern, plain-Param, plain-TypedTree, operands_of, arms_of}
use Rattle.rx_typed.proofs.Rules.{arm_by_parts}
use Rattle.rx_lower_walks.specs.Matching.{Binding, tests, bindings}
use Rattle.rx_lower_walks.specs.Actions.{Subject}
use Rattle.rx_lower_walks.specs.Orders as order
use Rattle.rx_lower_walks.specs.Orders.{Order, order_all, order_arms, order_body, testing, binding}
use Rattle.rx_lower_walks.specs.declared.flow.Flow.{Flow}
use Rattle.rx_lower_walks.specs.declared.flow.Flow.TheVariants as form
use Rattle.rx_lower_walks.specs.declared.flow.Item.{Item}
use Rattle.rx_lower_walks.specs.Flows as flows
use Rattle.rx_lower_walks.specs.Flows.{order_of}
use Rattle.rx_lower_walks.specs.PlainFlow.{plain-Flow, plain-Item, flow_nothing, flow_nowhere}
use Rattle.rx_lower_order.specs.Items.{ordered, binding_items, test_items, parameter_items}
use Rattle.rx_lower_order.proofs.Orders.{ordered_more, tests_ordered, bindings_ordered, parameters_ordered}
use Rattle.rx_lower_order.proofs.Listed.{next_of}

-- what is so of a call's value
pub of_value : {A : Type 0} (P : A → Type 0) (r : Result A AllocError) (a : A) → r ≡ Ok a → IfOk r P → P a
of_value {A = A} P r a e h = subst (λ (s : Result A AllocError). IfOk s P) e h

-- a flow behind items
pub done_more : (old new : List Item) (f : Flow) (s t : Order) → map plain-Item new ≡ map plain-Item old ++ flows.doing (plain-Flow f) ∷ [] → order_of (plain-Flow f) ≡ s
    → ordered (map plain-Item new) t ≡ ordered (map plain-Item old) (order.then s t)
done_more old new f s t more is =
    ap (λ l. ordered l t) more ∙ ordered_more (map plain-Item old) (flows.doing (plain-Flow f) ∷ []) t ∙ ap (λ r. ordered (map plain-Item old) (order.then r t)) is

pub tried_more : (old new : List Item) (f : Flow) (s t : Order) → map plain-Item new ≡ map plain-Item old ++ flows.trying (plain-Flow f) ∷ [] → order_of (plain-Flow f) ≡ s
    → ordered (map plain-Item new) t ≡ ordered (map plain-Item old) (order.otherwise s t)
tried_more old new f s t more is =
    ap (λ l. ordered l t) more ∙ ordered_more (map plain-Item old) (flows.trying (plain-Flow f) ∷ []) t ∙ ap (λ r. ordered (map plain-Item old) (order.otherwise r t)) is

pub bound_more : (old new : List Item) (S : Subject) (bs : List Binding) (n : ℕ) (t : Order) → map plain-Item new ≡ map plain-Item old ++ binding_items S bs n
    → ordered (map plain-Item new) t ≡ ordered (map plain-Item old) (binding S bs n t)
bound_more old new S bs n t more = ap (λ l. ordered l t) more ∙ ordered_more (map plain-Item old) (binding_items S bs n) t ∙ ap (ordered (map plain-Item old)) (bindings_ordered S bs n t)

-- what a call gives is another order, where the two are the same
pub same_order : (s t : Order) (r : Result Flow AllocError) → s ≡ t → IfOk r (λ it. order_of (plain-Flow it) ≡ s) → IfOk r (λ it. order_of (plain-Flow it) ≡ t)
same_order s t r e h = subst (λ (u : Order). IfOk r (λ it. order_of (plain-Flow it) ≡ u)) e h

-- ---- turns of loops

pub operands_turn : (xs : List Operand) (i : ℕ) (x : Operand) (old before new : List Item) (r : Result Flow AllocError) (f : Flow) (s : Order) → i < length xs → x ≡ get_or xs i x
    → r ≡ Ok f → before ≡ old → IfOk r (λ it. order_of (plain-Flow it) ≡ order.order (plain-Operand x).1 (temporary_of (plain-Operand x).1))
    → map plain-Item new ≡ map plain-Item before ++ flows.doing (plain-Flow f) ∷ []
    → ordered (map plain-Item old) (order_all (operands_of (map plain-Operand (drop i xs)))) ≡ s
    → ordered (map plain-Item new) (order_all (operands_of (map plain-Operand (drop (i + 1) xs)))) ≡ s
operands_turn xs i x old before new r f s less is was held flow more done =
    let of_x = order.order (plain-Operand x).1 (temporary_of (plain-Operand x).1) in
    done_more old new f of_x _ (more ∙ ap (λ l. map plain-Item l ++ flows.doing (plain-Flow f) ∷ []) held) (of_value (λ it. order_of (plain-Flow it) ≡ of_x) r f was flow)
    ∙ ap (ordered (map plain-Item old)) (sym (next_of (λ ys. order_all (operands_of (map plain-Operand ys))) xs i x less is)) ∙ done

pub operands_end : (xs : List Operand) (i : ℕ) (items : List Item) (r : Result Flow AllocError) (s : Order) → length xs ≤ i
    → ordered (map plain-Item items) (order_all (operands_of (map plain-Operand (drop i xs)))) ≡ s
    → IfOk r (λ it. order_of (plain-Flow it) ≡ ordered (map plain-Item items) (order_of (plain-Flow form.Nothing)))
    → IfOk r (λ it. order_of (plain-Flow it) ≡ s)
operands_end xs i items r s past done h =
    same_order _ s r (ap (λ f. ordered (map plain-Item items) (order_of f)) flow_nothing ∙ ap (ordered (map plain-Item items)) (sym (at_drop_all (λ ys. order_all (operands_of (map plain-Operand ys))) xs i past)) ∙ done) h

pub arms_turn : (S : Subject) (d : Temporary) (xs : List Arm) (i : ℕ) (x : Arm) (old before new : List Item) (r : Result Flow AllocError) (f : Flow) (s : Order) → i < length xs → x ≡ get_or xs i x
    → r ≡ Ok f → before ≡ old
    → IfOk r (λ it. order_of (plain-Flow it) ≡ testing S (tests [] (plain-Arm x).0) (binding S (bindings [] (plain-Arm x).0) (mark_of (plain-Arm x).1).node (order.order (plain-Arm x).1 d)))
    → map plain-Item new ≡ map plain-Item before ++ flows.trying (plain-Flow f) ∷ []
    → ordered (map plain-Item old) (order_arms S (arms_of (map plain-Arm (drop i xs))) d) ≡ s
    → ordered (map plain-Item new) (order_arms S (arms_of (map plain-Arm (drop (i + 1) xs))) d) ≡ s
arms_turn S d xs i x old before new r f s less is was held flow more done =
    let of_x = testing S (tests [] (plain-Arm x).0) (binding S (bindings [] (plain-Arm x).0) (mark_of (plain-Arm x).1).node (order.order (plain-Arm x).1 d)) in
    tried_more old new f of_x _ (more ∙ ap (λ l. map plain-Item l ++ flows.trying (plain-Flow f) ∷ []) held) (of_value (λ it. order_of (plain-Flow it) ≡ of_x) r f was flow)
    ∙ ap (ordered (map plain-Item old)) (sym (next_of (λ ys. order_arms S (arms_of (map plain-Arm ys)) d) xs i x less is)) ∙ done

pub arms_end : (S : Subject) (d : Temporary) (xs : List Arm) (i : ℕ) (items : List Item) (r : Result Flow AllocError) (s : Order) → length xs ≤ i
    → ordered (map plain-Item items) (order_arms S (arms_of (map plain-Arm (drop i xs))) d) ≡ s
    → IfOk r (λ it. order_of (plain-Flow it) ≡ ordered (map plain-Item items) (order_of (plain-Flow form.Nowhere)))
    → IfOk r (λ it. order_of (plain-Flow it) ≡ s)
arms_end S d xs i items r s past done h =
    same_order _ s r (ap (λ f. ordered (map plain-Item items) (order_of f)) flow_nowhere ∙ ap (ordered (map plain-Item items)) (sym (at_drop_all (λ ys. order_arms S (arms_of (map plain-Arm ys)) d) xs i past)) ∙ done) h

-- ---- arms and functions

pub arm_made : (S : Subject) (d : Temporary) (x : Arm) (first second third : List Item) (n : ℕ) (b r : Result Flow AllocError) (f : Flow)
    → map plain-Item first ≡ test_items S (tests [] (plain-Pattern x.pattern))
    → n ≡ (mark_of (plain-Expr x.body)).node
    → map plain-Item second ≡ map plain-Item first ++ binding_items S (bindings [] (plain-Pattern x.pattern)) n
    → b ≡ Ok f → third ≡ second → IfOk b (λ it. order_of (plain-Flow it) ≡ order.order (plain-Expr x.body) d)
    → IfOk r (λ it. order_of (plain-Flow it) ≡ ordered (map plain-Item third) (order_of (plain-Flow f)))
    → IfOk r (λ it. order_of (plain-Flow it) ≡ testing S (tests [] (plain-Arm x).0) (binding S (bindings [] (plain-Arm x).0) (mark_of (plain-Arm x).1).node (order.order (plain-Arm x).1 d)))
arm_made S d x first second third n b r f tested node bound was held body h =
    let P = plain-Pattern x.pattern in
    let E = plain-Expr x.body in
    let body_is = of_value (λ it. order_of (plain-Flow it) ≡ order.order E d) b f was body in
    same_order _ _ r
    (ap (λ l. ordered (map plain-Item l) (order_of (plain-Flow f))) held
    ∙ ap (ordered (map plain-Item second)) body_is
    ∙ bound_more first second S (bindings [] P) n (order.order E d) bound
    ∙ ap (λ l. ordered l (binding S (bindings [] P) n (order.order E d))) tested
    ∙ tests_ordered S (tests [] P) (binding S (bindings [] P) n (order.order E d))
    ∙ ap (λ m. testing S (tests [] P) (binding S (bindings [] P) m (order.order E d))) node
    ∙ ap (λ a. testing S (tests [] a.0) (binding S (bindings [] a.0) (mark_of a.1).node (order.order a.1 d))) (sym (arm_by_parts x)))
    h

pub function_made : (t : TypedTree) (first second : List Item) (n : ℕ) (b r : Result Flow AllocError) (f : Flow)
    → n ≡ (mark_of (plain-Expr t.body)).node
    → map plain-Item first ≡ parameter_items (map plain-Param t.params) n
    → b ≡ Ok f → second ≡ first → IfOk b (λ it. order_of (plain-Flow it) ≡ order.order (plain-Expr t.body) (temporary_of (plain-Expr t.body)))
    → IfOk r (λ it. order_of (plain-Flow it) ≡ ordered (map plain-Item second) (order_of (plain-Flow f)))
    → IfOk r (λ it. order_of (plain-Flow it) ≡ order.order_function (plain-TypedTree t))
function_made t first second n b r f node begun was held body h =
    let E = plain-Expr t.body in
    let s = order.order E (temporary_of E) in
    same_order _ _ r
    (ap (λ l. ordered (map plain-Item l) (order_of (plain-Flow f))) held
    ∙ ap (ordered (map plain-Item first)) (of_value (λ it. order_of (plain-Flow it) ≡ s) b f was body)
    ∙ ap (λ l. ordered l s) begun
    ∙ parameters_ordered (map plain-Param t.params) n s
    ∙ ap (λ m. order.beginning (map plain-Param t.params) m s) node)
    h
