-- The marked function has the order of the function with silent parts put in, so their walks show the same. What is put in front of
-- statements and behind them is followed down the block; the rest is form by form.
use Rattle.std.proofs.Common.{◌≡◌, ℕ, ◌==◌, if◌then◌else◌, Bool, true, false, List, [], ◌∷◌, ◌++◌, map, take, drop, refl, sym, ◌∙◌, subst, ap}
use Rattle.std.proofs.lemmas.List.{take-append-drop}
use Rattle.rx_typed.specs.Tree.{Temporary, Mark, Exp, read, borrow, share, build, unit, lazily, assign, update, call, input, print, block, choose, loop, jump, give, Body, ends, runs, declares, lets, Function, mark_of, temporary_at, temporary_of}
use Rattle.rx_lower_walks.specs.Matching.{bindings}
use Rattle.rx_lower_walks.specs.Actions.{Give, Action, at_mark, subject}
use Rattle.rx_lower_walks.specs.Orders.{Order, binding, order, order_body, order_function}
use Rattle.rx_lower_walks.specs.Walks.{Out, stopped, Walk, IsWalk}
use Rattle.rx_lower_walks.proofs.WalksFronts.{fronts}
use Rattle.rx_exits_plan.specs.Blocks.{Statement, does, begins, binds, statements, tail, before}
use Rattle.rx_exits_plan.specs.Runs.{Run, in_front, inside, behind}
use Rattle.rx_exits_plan.specs.Points.{Point, enters, leaves, next, returns, jump_exit}
use Rattle.rx_exits_plan.specs.Changed.{Changes, changed, changed_statement}
use Rattle.rx_exits_plan.specs.Marked.{mark, mark_then, then_mark, is_among, marking, ended, ended_value, ended_tail, marked_body, at_the_block, marked}
use Rattle.rx_exits_plan.specs.Unmarked.{unmarked}
use Rattle.rx_exits_plan.proofs.Alike.{Silent, silent_nothing, silent_act, silent_then, Alike, is_act, is_then, is_leave, marked_in_front, marked_behind, itself, without, with_marks}
use Rattle.rx_exits_plan.proofs.Trees.{Keeps, elsewhere, declaring_alike, binding_alike, same_mark, same_subject, changed_alike, matched_alike, function_alike}

-- ---- marks

mark_is_silent : (p : Point) (d : Temporary) → Silent (order (mark p) d)
mark_is_silent p d = silent_then silent_nothing (silent_act refl)

in_front_alike : (p : Point) (e : Exp) {q : Order} (d : Temporary) → Alike (order e d) q → Alike (order (mark_then p e) d) q
in_front_alike p e d m = marked_in_front (mark_is_silent p _) m

behind_alike : (p : Point) (e : Exp) {q : Order} (d : Temporary) → Alike (order e (temporary_of e)) q → Alike (order (then_mark p e) d) q
behind_alike p e d m = marked_behind m (silent_then (mark_is_silent p _) silent_nothing)

-- ---- inside the run

jump_alike : (t : Bool) (p : Point) (m : Mark) (l : ℕ) (k : Bool) (d f : Temporary)
    → Alike (order (if t then mark_then p (jump m l k) else jump m l k) d) (order (jump m l k) f)
jump_alike true p m l k d f = in_front_alike p (jump m l k) d is_leave
jump_alike false p m l k d f = is_leave

jump_keeps : (t : Bool) (p : Point) (m : Mark) (l : ℕ) (k : Bool) → mark_of (if t then mark_then p (jump m l k) else jump m l k) ≡ m
jump_keeps true p m l k = refl
jump_keeps false p m l k = refl

pub inside_keeps : (ls : List ℕ) → Keeps (marking ls)
inside_keeps ls = record {
  jump_mark = λ m l k. jump_keeps (is_among l ls) (leaves (jump_exit l k)) m l k;
  return_mark = λ e. refl;
  at_block = λ n was b h d f. h d f;
  at_jump = λ m l k d f. jump_alike (is_among l ls) (leaves (jump_exit l k)) m l k d f;
  at_return = λ e was h d f. behind_alike (leaves returns) e d (h _ f);
}

-- ---- its block

-- the same statements in front
before_same : (ss : List Statement) (a b : Body) (n : ℕ) (d f : Temporary) → Alike (order_body a n d) (order_body b n f)
    → Alike (order_body (before ss a) n d) (order_body (before ss b) n f)
before_same [] a b n d f m = m
before_same (does e ∷ ss) a b n d f m = is_then (itself _) (before_same ss a b n d f m)
before_same (begins s xs ∷ ss) a b n d f m = declaring_alike s xs n (before_same ss a b n d f m)
before_same (binds s p c ∷ ss) a b n d f m = is_then (itself _) (binding_alike (subject c) (bindings [] p) n (before_same ss a b n d f m))

before_changed : (C : Changes) (K : Keeps C) (ss : List Statement) (a b : Body) (n : ℕ) (d f : Temporary) → Alike (order_body a n d) (order_body b n f)
    → Alike (order_body (before (map (changed_statement C) ss) a) n d) (order_body (before ss b) n f)
before_changed C K [] a b n d f m = m
before_changed C K (does e ∷ ss) a b n d f m = is_then (changed_alike C K e _ _) (before_changed C K ss a b n d f m)
before_changed C K (begins s xs ∷ ss) a b n d f m = declaring_alike s xs n (before_changed C K ss a b n d f m)
before_changed C K (binds s p c ∷ ss) a b n d f m = is_then (matched_alike C K c)
    (subst (λ S. Alike (binding S (bindings [] p) n (order_body (before (map (changed_statement C) ss) a) n d)) (binding (subject c) (bindings [] p) n (order_body (before ss b) n f)))
    (sym (same_subject C K c)) (binding_alike (subject c) (bindings [] p) n (before_changed C K ss a b n d f m)))

ended_alike : (t : Bool) (a b : Body) (n : ℕ) (d f : Temporary) → Alike (order_body a n d) (order_body b n f) → Alike (order_body (before (ended t) a) n d) (order_body b n f)
ended_alike true a b n d f m = m
ended_alike false a b n d f m = marked_in_front (mark_is_silent (leaves next) _) m

value_alike : (ls : List ℕ) (e : Exp) (d f : Temporary) → Alike (order (then_mark (leaves next) (changed (marking ls) e)) d) (order e f)
value_alike ls e d f = behind_alike (leaves next) (changed (marking ls) e) d (changed_alike (marking ls) (inside_keeps ls) e _ f)

given_alike : (t : Bool) (ls : List ℕ) (m : Mark) (e : Exp) (d f : Temporary)
    → Alike (order (if t then give m (then_mark (leaves next) (changed (marking ls) e)) else then_mark (leaves next) (changed (marking ls) (give m e))) d) (order (give m e) f)
given_alike true ls m e d f = is_then (value_alike ls e (temporary_of (then_mark (leaves next) (changed (marking ls) e))) _) (is_then (is_act (ap (λ (n : Mark). unmarked (at_mark m (Give (temporary_at n.node 0)) ∷ [])) (same_mark (marking ls) (inside_keeps ls) e))) is_leave)
given_alike false ls m e d f = value_alike ls (give m e) d f

ended_value_alike : (n : ℕ) (ls : List ℕ) (e : Exp) (d f : Temporary) → Alike (order (ended_value n ls e) d) (order e f)
ended_value_alike n ls (give m e) d f = given_alike (m.node == n) ls m e d f
ended_value_alike n ls (read m v p) d f = value_alike ls (read m v p) d f
ended_value_alike n ls (borrow m k p) d f = value_alike ls (borrow m k p) d f
ended_value_alike n ls (share m e) d f = value_alike ls (share m e) d f
ended_value_alike n ls (build m w es) d f = value_alike ls (build m w es) d f
ended_value_alike n ls (unit m) d f = value_alike ls (unit m) d f
ended_value_alike n ls (lazily m b e g) d f = value_alike ls (lazily m b e g) d f
ended_value_alike n ls (assign m p e) d f = value_alike ls (assign m p e) d f
ended_value_alike n ls (update m o p e) d f = value_alike ls (update m o p e) d f
ended_value_alike n ls (call m g es) d f = value_alike ls (call m g es) d f
ended_value_alike n ls (input m) d f = value_alike ls (input m) d f
ended_value_alike n ls (print m e) d f = value_alike ls (print m e) d f
ended_value_alike n ls (block m b) d f = value_alike ls (block m b) d f
ended_value_alike n ls (choose m s l) d f = value_alike ls (choose m s l) d f
ended_value_alike n ls (loop m l e) d f = value_alike ls (loop m l e) d f
ended_value_alike n ls (jump m l k) d f = value_alike ls (jump m l k) d f

tail_alike : (t : Bool) (n : ℕ) (ls : List ℕ) (e : Exp) (d f : Temporary) → Alike (order (ended_tail t n ls e) d) (order e f)
tail_alike true n ls e d f = ended_value_alike n ls e d f
tail_alike false n ls e d f = elsewhere e d f

-- a body is its statements in front of its tail; a run cuts the statements in three
again : (b : Body) → before (statements b) (ends (tail b)) ≡ b
again (ends e) = refl
again (runs e b) = ap (λ c. runs e c) (again b)
again (declares s xs b) = ap (λ c. declares s xs c) (again b)
again (lets s p c b) = ap (λ a. lets s p c a) (again b)

before_both : (ss ts : List Statement) (b : Body) → before (ss ++ ts) b ≡ before ss (before ts b)
before_both [] ts b = refl
before_both (does e ∷ ss) ts b = ap (λ c. runs e c) (before_both ss ts b)
before_both (begins s xs ∷ ss) ts b = ap (λ c. declares s xs c) (before_both ss ts b)
before_both (binds s p c ∷ ss) ts b = ap (λ a. lets s p c a) (before_both ss ts b)

cut_once : (k : ℕ) (ss : List Statement) (b : Body) → before (take k ss) (before (drop k ss) b) ≡ before ss b
cut_once k ss b = sym (before_both (take k ss) (drop k ss) b) ∙ ap (λ l. before l b) (take-append-drop k ss)

in_three : (r : Run) (b : Body) → before (in_front r b) (before (inside r b) (before (behind r b) (ends (tail b)))) ≡ b
in_three r b =
    ap (before (in_front r b)) (cut_once r.count (drop r.first (statements b)) (ends (tail b)))
    ∙ cut_once r.first (statements b) (ends (tail b)) ∙ again b

marked_body_alike : (r : Run) (ls : List ℕ) (b : Body) (n : ℕ) (d f : Temporary) → Alike (order_body (marked_body r ls [] b) n d) (order_body b n f)
marked_body_alike r ls b n d f =
    let last : Body = ends (tail b) in
    let marked_last : Body = ends (ended_tail r.tail r.block ls (tail b)) in
    let rest : Body = before (behind r b) last in
    let marked_rest : Body = before (behind r b) marked_last in
    let m0 = before_same (behind r b) marked_last last n d f (tail_alike r.tail r.block ls (tail b) d f) in
    let m1 = ended_alike r.tail marked_rest rest n d f m0 in
    let m2 = before_changed (marking ls) (inside_keeps ls) (inside r b) (before (ended r.tail) marked_rest) rest n d f m1 in
    let marked_run : Body = before (map (changed_statement (marking ls)) (inside r b)) (before (ended r.tail) marked_rest) in
    let m3 = before_same (in_front r b) (runs (mark enters) marked_run) (before (inside r b) rest) n d f (marked_in_front (mark_is_silent enters _) m2) in
    subst (λ c. Alike (order_body (marked_body r ls [] b) n d) (order_body c n f)) (in_three r b) m3

-- ---- its function

block_alike : (t : Bool) (r : Run) (ls : List ℕ) (n : ℕ) (was b : Body) → ((d f : Temporary) → Alike (order_body b n d) (order_body was n f))
    → (d f : Temporary) → Alike (order_body (if t then marked_body r ls [] was else b) n d) (order_body was n f)
block_alike true r ls n was b h d f = marked_body_alike r ls was n d f
block_alike false r ls n was b h d f = h d f

pub block_keeps : (r : Run) (ls : List ℕ) → Keeps (at_the_block r ls [])
block_keeps r ls = record {
  jump_mark = λ m l k. refl;
  return_mark = λ e. refl;
  at_block = λ n was b h d f. block_alike (n == r.block) r ls n was b h d f;
  at_jump = λ m l k d f. is_leave;
  at_return = λ e was h d f. h d f;
}

pub marked_alike : (f : Function) (r : Run) (ls : List ℕ) → Alike (order_function (marked r ls [] f)) (order_function f)
marked_alike f r ls = function_alike (at_the_block r ls []) (block_keeps r ls) f

-- ---- walks

begun : {s : Order} {o : Out} (w rest : List Action) → Walk s (w ++ rest) o → Walk s w stopped
begun w rest h = fronts h w rest refl

nil_right : (l : List Action) → l ++ [] ≡ l
nil_right [] = refl
nil_right (a ∷ l) = ap (λ k. a ∷ k) (nil_right l)

alone : {s : Order} {w : List Action} → Walk s w stopped → (rest : List Action) × (o : Out) × Walk s (w ++ rest) o
alone {s = s} {w = w} h = ([], stopped, subst (λ l. Walk s l stopped) (sym (nil_right w)) h)

pub none_new : (f : Function) (r : Run) (ls : List ℕ) (u : List Action) → IsWalk (marked r ls [] f) u → (w : List Action) × IsWalk f w × (unmarked u ≡ unmarked w)
none_new f r ls u (rest, o, h) = let z = without (marked_alike f r ls) (begun u rest h) in (z.list, alone z.walk, z.same)

pub none_lost : (f : Function) (r : Run) (ls : List ℕ) (w : List Action) → IsWalk f w → (u : List Action) × IsWalk (marked r ls [] f) u × (unmarked u ≡ unmarked w)
none_lost f r ls w (rest, o, h) = let z = with_marks (marked_alike f r ls) (begun w rest h) in (z.list, alone z.walk, sym z.same)
