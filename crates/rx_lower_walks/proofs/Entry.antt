-- The paths of a function's graph begin at its site 0: what its forms do has one begin at most.
use Rattle.std.proofs.Common.{◌≡◌, ℕ, zero, suc, List, [], ◌∷◌, ◌++◌, length, Bool, true, false, if◌then◌else◌, Option, Some, None, refl, sym, ap, ◌∙◌, subst, arith}
use Rattle.rx_typed.specs.Tree.{Exp, read, borrow, share, build, unit, lazily, assign, update, call, input, print, block, choose, loop, jump, give, Operands, no_operand, operand_and, Scrutinee, at_place, of_value, Arms, no_arm, arm_and, Body, ends, runs, declares, lets, Parameter, Function, Temporary, mark_of, temporary_at, temporary_of}
use Rattle.rx_lower_walks.specs.Matching.{PartTest, Binding, tests, bindings}
use Rattle.rx_lower_walks.specs.Actions.{Act, Action, Subject, subject, taken}
use Rattle.rx_lower_walks.specs.Orders.{exit_node, Order, testing, perhaps, binding, declaring, order_all, order_scrutinee, order_arms, order_body, beginning, order_function}
use Rattle.rx_lower_walks.specs.Orders as order
use Rattle.rx_lower_walks.specs.Graph.{Site, Comes, at_hand, along}
use Rattle.rx_lower_walks.specs.Pieces.{Way, ahead, failing, exit_way, same, Turn, once_more, out, cut_off, turn, Scope, Variable, Looped, left, Begin, starts, through, entry, Piece, moved, then_begins, turned, round, leaving_part, part, no_exits, graph_of, entries}
use Rattle.rx_lower_walks.proofs.Fits.{none_among}
use Rattle.rx_lower_walks.proofs.Reached.{Reach, part_reach}
use Rattle.rx_lower_walks.proofs.WholeLemmas.{has_all, size_is}

-- its first site, one way without an action, or none
pub data Single (bs : List Begin) : Type 0 where
  by_action : bs ≡ starts 0 ∷ [] → Single bs
  by_way : (q : Way) → bs ≡ through q ∷ [] → Single bs
  never : bs ≡ [] → Single bs

none_comes : {B : Type 0} {g : List Site} {i : ℕ} → Comes g [] i → B
none_comes (at_hand m) = none_among m
none_comes (along p s m e c) = none_among m

-- a part that begins with no action has no sites
pub no_sites : (f : Piece) → Reach f → entry f.begins 0 no_exits ≡ [] → f.size ≡ 0
no_sites f rf e = by f.size refl
  where
    by : (n : ℕ) → f.size ≡ n → f.size ≡ 0
    by zero d = d
    by (suc n) d = none_comes (subst (λ (ps : List ℕ). Comes (f.sites 0 no_exits) ps 0) e (rf.holds (f.sites 0 no_exits) 0 no_exits (has_all (f.sites 0 no_exits) []) 0 (omega arith) (omega (arith, d))))

moved_none : (hs : List Begin) → Single hs → Single (moved 0 hs ++ [])
moved_none hs (by_action e) = by_action (ap (λ hs. moved 0 hs ++ []) e)
moved_none hs (by_way q e) = by_way q (ap (λ hs. moved 0 hs ++ []) e)
moved_none hs (never e) = never (ap (λ hs. moved 0 hs ++ []) e)

then_single : (c : Way) (f : Piece) (hs : List Begin) → Reach f → Single f.begins → Single hs → Single (then_begins c f.begins (moved f.size hs))
then_single c f hs rf (by_action e) h = by_action (ap (λ bs. then_begins c bs (moved f.size hs)) e)
then_single c f hs rf (by_way q e) h = subst Single (sym (ap (λ bs. then_begins c bs (moved f.size hs)) e)) (by (same q c))
  where
    by : (b : Bool) → Single ((if b then moved f.size hs else through q ∷ []) ++ [])
    by true = subst (λ n. Single (moved n hs ++ [])) (sym (no_sites f rf (ap (λ bs. entry bs 0 no_exits) e))) (moved_none hs h)
    by false = by_way q refl
then_single c f hs rf (never e) h = never (ap (λ bs. then_begins c bs (moved f.size hs)) e)

round_single : (l : ℕ) (bs : List Begin) → Single bs → Single (round l bs)
round_single l bs (by_action e) = by_action (ap (round l) e)
round_single l bs (by_way q e) = subst Single (sym (ap (round l) e)) (by (turn l q))
  where
    by : (t : Turn) → Single (turned t ++ [])
    by once_more = never refl
    by (out p) = by_way p refl
    by cut_off = never refl
round_single l bs (never e) = never (ap (round l) e)

-- ---- orders

pub IsSingle : Order → Type 0
IsSingle s = (scope : Scope) → Single (part scope s).begins

nothing_single : IsSingle order.nothing
unfolding IsSingle
nothing_single scope = by_way ahead refl

nowhere_single : IsSingle order.nowhere
unfolding IsSingle
nowhere_single scope = never refl

act_single : (a : Action) → IsSingle (order.act a)
unfolding IsSingle
act_single a scope = by_action refl

act_then : (a : Action) (t : Order) → IsSingle (order.then (order.act a) t)
unfolding IsSingle
act_then a t scope = by_action refl

both_single : (s t : Order) → IsSingle s → IsSingle t → IsSingle (order.then s t)
unfolding IsSingle
both_single s t f h scope = then_single ahead (part scope s) (part scope t).begins (part_reach scope s) (f scope) (h scope)

otherwise_single : (s t : Order) → IsSingle s → IsSingle t → IsSingle (order.otherwise s t)
unfolding IsSingle
otherwise_single s t f h scope = then_single failing (part scope s) (part scope t).begins (part_reach scope s) (f scope) (h scope)

ending_single : (n x : ℕ) (s : Order) → IsSingle s → IsSingle (order.ending n x s)
unfolding IsSingle
ending_single n x s f scope =
    then_single ahead (part (Variable x ∷ scope) (order.otherwise s order.nowhere)) (starts 0 ∷ []) (part_reach (Variable x ∷ scope) (order.otherwise s order.nowhere))
    (then_single failing (part (Variable x ∷ scope) s) [] (part_reach (Variable x ∷ scope) s) (f (Variable x ∷ scope)) (never refl)) (by_action refl)

passes_single : (l : ℕ) (s : Order) → IsSingle s → IsSingle (order.passes l s)
unfolding IsSingle
passes_single l s f scope = round_single l (part (Looped l ∷ scope) s).begins (f (Looped l ∷ scope))

leaving_single : (n : ℕ) (xs : List ℕ) (q : Way) → Single (leaving_part n xs q).begins
leaving_single n [] q = by_way q refl
leaving_single n (x ∷ xs) q = by_action refl

leave_single : (x : order.Exit) → IsSingle (order.leave x)
unfolding IsSingle
leave_single x scope = leaving_single (exit_node x) (left x scope) (exit_way x)

-- ---- the forms of the typed tree

testing_single : (S : Subject) (ts : List PartTest) (rest : Order) → IsSingle rest → IsSingle (testing S ts rest)
testing_single S [] rest h = h
testing_single S (t ∷ ts) rest h = act_then _ _

perhaps_single : (n : ℕ) (a : Option Act) → IsSingle (perhaps n a)
perhaps_single n None = nothing_single
perhaps_single n (Some a) = act_single _

binding_single : (S : Subject) (bs : List Binding) (n : ℕ) (rest : Order) → IsSingle rest → IsSingle (binding S bs n rest)
binding_single S [] n rest h = h
binding_single S (b ∷ bs) n rest h = both_single _ _ (perhaps_single b.node (taken S b)) (act_then _ _)

declaring_single : (s : ℕ) (xs : List ℕ) (n : ℕ) (rest : Order) → IsSingle rest → IsSingle (declaring s xs n rest)
declaring_single s [] n rest h = h
declaring_single s (x ∷ xs) n rest h = act_then _ _

mutual
  pub order_single : (e : Exp) (d : Temporary) → IsSingle (order.order e d)
  order_single (read m moves p) d = act_single _
  order_single (build m w es) d = both_single _ _ (all_single es) (act_single _)
  order_single (lazily m b e f) d = both_single _ _ (order_single e (temporary_of e)) (act_then _ _)
  order_single (borrow m k p) d = act_single _
  order_single (share m e) d = both_single _ _ (order_single e (temporary_at m.node 1)) (act_single _)
  order_single (call m f es) d = both_single _ _ (all_single es) (act_single _)
  order_single (input m) d = act_single _
  order_single (print m e) d = both_single _ _ (order_single e (temporary_of e)) (act_single _)
  order_single (assign m p e) d = both_single _ _ (order_single e (temporary_of e)) (act_single _)
  order_single (update m o p e) d = both_single _ _ (order_single e (temporary_of e)) (act_then _ _)
  order_single (choose m s l) d = both_single _ _ (scrutinee_single s) (arms_single (subject s) l d)
  order_single (loop m l e) d = passes_single l _ (order_single e (temporary_of e))
  order_single (jump m l again) d = leave_single _
  order_single (give m e) d = both_single _ _ (order_single e (temporary_of e)) (act_then _ _)
  order_single (unit m) d = nothing_single
  order_single (block m b) d = body_single b m.node d

  all_single : (es : Operands) → IsSingle (order_all es)
  all_single no_operand = nothing_single
  all_single (operand_and i e es) = both_single _ _ (order_single e (temporary_of e)) (all_single es)

  scrutinee_single : (s : Scrutinee) → IsSingle (order_scrutinee s)
  scrutinee_single (at_place m p) = nothing_single
  scrutinee_single (of_value e) = order_single e (temporary_of e)

  arms_single : (S : Subject) (l : Arms) (d : Temporary) → IsSingle (order_arms S l d)
  arms_single S no_arm d = nowhere_single
  arms_single S (arm_and p e rest) d =
      otherwise_single _ _ (testing_single S (tests [] p) _ (binding_single S (bindings [] p) (mark_of e).node _ (order_single e d))) (arms_single S rest d)

  body_single : (b : Body) (n : ℕ) (d : Temporary) → IsSingle (order_body b n d)
  body_single (ends e) n d = order_single e d
  body_single (runs e rest) n d = both_single _ _ (order_single e (temporary_of e)) (body_single rest n d)
  body_single (declares s xs rest) n d = declaring_single s xs n _ (body_single rest n d)
  body_single (lets s p c rest) n d = both_single _ _ (scrutinee_single c) (binding_single (subject c) (bindings [] p) n _ (body_single rest n d))

pub single_begins : (e : Exp) (d : Temporary) (scope : Scope) → Single (part scope (order.order e d)).begins
unfolding IsSingle
single_begins e d scope = order_single e d scope

beginning_single : (ps : List Parameter) (n : ℕ) (rest : Order) → IsSingle rest → IsSingle (beginning ps n rest)
beginning_single [] n rest h = h
beginning_single (p ∷ ps) n rest h = act_then _ _

function_single : (f : Function) → IsSingle (order_function f)
function_single f = beginning_single f.params (mark_of f.body).node _ (order_single f.body (temporary_of f.body))

-- ---- the first site

-- paths begin at site 0, or there are no sites
pub data Entry (s : Order) : Type 0 where
  at_zero : entries s ≡ 0 ∷ [] → Entry s
  empty : entries s ≡ [] → graph_of s ≡ [] → Entry s

no_list : (g : List Site) → length g ≡ 0 → g ≡ []
no_list [] e = refl
no_list (s ∷ g) e = absurd (omega arith)

nowhere_to : (s : Order) → entries s ≡ [] → Entry s
nowhere_to s e = empty e (no_list (graph_of s) (size_is s ∙ no_sites (part [] s) (part_reach [] s) e))

entry_of : (s : Order) → Single (part [] s).begins → Entry s
entry_of s (by_action e) = at_zero (ap (λ bs. entry bs 0 no_exits) e)
entry_of s (by_way q e) = nowhere_to s (ap (λ bs. entry bs 0 no_exits) e)
entry_of s (never e) = nowhere_to s (ap (λ bs. entry bs 0 no_exits) e)

pub function_entry : (f : Function) → Entry (order_function f)
unfolding IsSingle
function_entry f = entry_of (order_function f) (function_single f [])
