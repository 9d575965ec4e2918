-- The actions of a piece's sites are those of the text, in its order, but for what nothing comes to.
use Rattle.std.proofs.Common.{◌≡◌, ℕ, ◌+◌, List, [], ◌∷◌, ◌++◌, Bool, true, false, if◌then◌else◌, refl, sym, ap, subst}
use Rattle.rx_lower_walks.specs.Actions.{Dead, Action, does}
use Rattle.rx_lower_walks.specs.Orders.{exit_node, Order}
use Rattle.rx_lower_walks.specs.Orders as order
use Rattle.rx_lower_walks.specs.Graph.{Site}
use Rattle.rx_lower_walks.specs.Pieces.{Way, ahead, failing, exit_way, Scope, Variable, Looped, left, Exits, entry, Piece, nowhere_part, act_part, onto, then_part, or_part, round, inside, loop_part, leaving_part, part, no_exits, graph_of}
use Rattle.rx_lower_walks.specs.Text.{ending_all, in_text, actions_of, Sublist, none, kept, dropped}

nothing_kept : (m : List Action) → Sublist [] m
nothing_kept [] = none
nothing_kept (a ∷ m) = dropped (nothing_kept m)

both_kept : {l m i j : List Action} → Sublist l m → Sublist i j → Sublist (l ++ i) (m ++ j)
both_kept none k = k
both_kept (kept h) k = kept (both_kept h k)
both_kept (dropped h) k = dropped (both_kept h k)

pub actions_of_both : (g h : List Site) → actions_of (g ++ h) ≡ actions_of g ++ actions_of h
actions_of_both [] h = refl
actions_of_both (s ∷ g) h = ap (λ l. s.action ∷ l) (actions_of_both g h)

no_more : (l : List Action) → l ++ [] ≡ l
no_more [] = refl
no_more (a ∷ l) = rw (no_more l)

-- whatever its first number and its exits are
InOrder : Piece → List Action → Type 0
InOrder f l = (b : ℕ) (k : Exits) → Sublist (actions_of (f.sites b k)) l

act_in_order : (a : Action) → InOrder (act_part a) (a ∷ [])
unfolding InOrder
act_in_order a b k = kept none

nowhere_in_order : InOrder nowhere_part []
unfolding InOrder
nowhere_in_order b k = none

then_in_order : (c : Way) (f h : Piece) (l m : List Action) → InOrder f l → InOrder h m → InOrder (then_part c f h) (l ++ m)
unfolding InOrder
then_in_order c f h l m fl hm b k =
    subst (λ us. Sublist us (l ++ m)) (sym (actions_of_both (f.sites b (onto c (entry h.begins (b + f.size) k) k)) _)) (both_kept (fl b _) (by (f.ends c)))
  where
    by : (s : Bool) → Sublist (actions_of (if s then h.sites (b + f.size) k else [])) m
    by true = hm (b + f.size) k
    by false = nothing_kept m

or_in_order : (f h : Piece) (l m : List Action) → InOrder f l → InOrder h m → InOrder (or_part f h) (l ++ m)
unfolding InOrder
or_in_order f h l m fl hm b k = subst (λ us. Sublist us (l ++ m)) (sym (actions_of_both (f.sites b k) _)) (both_kept (fl b k) (hm (b + f.size) k))

loop_in_order : (n : ℕ) (f : Piece) (l : List Action) → InOrder f l → InOrder (loop_part n f) l
unfolding InOrder
loop_in_order n f l fl b k = fl b (inside n (entry (round n f.begins) b k) k)

leaving_in_order : (n : ℕ) (xs : List ℕ) (q : Way) → InOrder (leaving_part n xs q) (ending_all n xs)
unfolding InOrder
leaving_in_order n [] q b k = none
leaving_in_order n (x ∷ xs) q b k =
    then_in_order ahead (act_part (does n (Dead x))) (leaving_part n xs q) (does n (Dead x) ∷ []) (ending_all n xs) (act_in_order (does n (Dead x))) (leaving_in_order n xs q) b k

ending_in_order : (n x : ℕ) (f : Piece) (l : List Action) → InOrder f l
    → InOrder (then_part ahead (then_part failing f nowhere_part) (act_part (does n (Dead x)))) (l ++ does n (Dead x) ∷ [])
unfolding InOrder
ending_in_order n x f l fl b k =
    then_in_order ahead (then_part failing f nowhere_part) (act_part (does n (Dead x))) l (does n (Dead x) ∷ [])
    (λ b k. subst (λ m. Sublist (actions_of ((then_part failing f nowhere_part).sites b k)) m) (no_more l) (then_in_order failing f nowhere_part l [] fl nowhere_in_order b k))
    (act_in_order (does n (Dead x))) b k

part_in_order : (scope : Scope) (s : Order) → InOrder (part scope s) (in_text scope s)
unfolding InOrder
part_in_order scope order.nothing b k = none
part_in_order scope order.nowhere b k = none
part_in_order scope (order.act a) b k = act_in_order a b k
part_in_order scope (order.then s t) b k = then_in_order ahead (part scope s) (part scope t) _ _ (part_in_order scope s) (part_in_order scope t) b k
part_in_order scope (order.or s t) b k = or_in_order (part scope s) (part scope t) _ _ (part_in_order scope s) (part_in_order scope t) b k
part_in_order scope (order.leave x) b k = leaving_in_order (exit_node x) (left x scope) (exit_way x) b k
part_in_order scope order.fail b k = none
part_in_order scope (order.otherwise s t) b k = then_in_order failing (part scope s) (part scope t) _ _ (part_in_order scope s) (part_in_order scope t) b k
part_in_order scope (order.ending n x s) b k = ending_in_order n x (part (Variable x ∷ scope) s) (in_text (Variable x ∷ scope) s) (part_in_order (Variable x ∷ scope) s) b k
part_in_order scope (order.passes l s) b k = loop_in_order l (part (Looped l ∷ scope) s) _ (part_in_order (Looped l ∷ scope) s) b k

pub graph_in_text : (s : Order) → Sublist (actions_of (graph_of s)) (in_text [] s)
unfolding InOrder
graph_in_text s = part_in_order [] s 0 no_exits
