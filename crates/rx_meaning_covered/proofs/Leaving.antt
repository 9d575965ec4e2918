-- A function whose jumps are in their loops and whose body ends by giving leaves by giving a value: by induction on walks.
use Rattle.std.proofs.Common.{◌≡◌, ℕ, true, false, Option, Some, None, List, [], ◌∷◌, refl}
use Rattle.rx_typed.specs.Tree.{Temporary, Exp, read, borrow, share, build, unit, lazily, assign, update, call, input, print, block, choose, loop, jump, give, Operands, no_operand, operand_and, Scrutinee, at_place, of_value, Arms, no_arm, arm_and, Body, ends, runs, lets, Parameter, Function, mark_of, temporary_of, temporary_at}
use Rattle.rx_typed.specs.Tree as tree
use Rattle.rx_lower_walks.specs.Matching.{PartTest, Binding, tests, bindings}
use Rattle.rx_lower_walks.specs.Actions.{Act, Action, Subject, subject, taken}
use Rattle.rx_lower_walks.specs.Orders as order
use Rattle.rx_lower_walks.specs.Orders.{Exit, breaks, continues, returns, Order, testing, perhaps, binding, declaring, exit, order_all, order_scrutinee, order_arms, order_body, beginning, order_function}
use Rattle.rx_lower_walks.specs.Walks as walk
use Rattle.rx_lower_walks.specs.Walks.{Out, Walk, Passed, Left, Among}
use Rattle.rx_meaning_keeping.specs.Keeping.{IsNoAnswer}
use Rattle.rx_meaning_covered.specs.Scopes.{Scoped, ScopedAll, ScopedScrutinee, ScopedArms, ScopedBody, ScopedFunction, IsGiving, BodyGives, Gives}
use Rattle.rx_meaning_covered.specs.Covered.{Answers}

-- ---- jumps are to loops among these

abbrev ExitIn : List ℕ → Exit → Type 0
ExitIn ls (breaks n l) = Among l ls
ExitIn ls (continues n l) = Among l ls
ExitIn ls (returns n) = Unit {0}

abbrev OutIn : List ℕ → Out → Type 0
OutIn ls (walk.leaves x) = ExitIn ls x
OutIn ls _ = Unit {0}

abbrev LeavesIn : List ℕ → Order → Type 0
LeavesIn ls (order.leave x) = ExitIn ls x
LeavesIn ls (order.then s t) = LeavesIn ls s × LeavesIn ls t
LeavesIn ls (order.or s t) = LeavesIn ls s × LeavesIn ls t
LeavesIn ls (order.otherwise s t) = LeavesIn ls s × LeavesIn ls t
LeavesIn ls (order.ending n x s) = LeavesIn ls s
LeavesIn ls (order.passes l s) = LeavesIn (l ∷ ls) s
LeavesIn ls _ = Unit {0}

outer : (l k : ℕ) (ls : List ℕ) → (k ≡ l → ⊥) → Among k (l ∷ ls) → Among k ls
outer l _ ls n walk.here = absurd (n refl)
outer l k ls n (walk.there h) = h

left_in : (l : ℕ) (ls : List ℕ) {o p : Out} → Left l o p → OutIn (l ∷ ls) o → OutIn ls p
left_in l ls (walk.by_break e) h = tt
left_in l ls (walk.by_outer_break {k = k} n) h = outer l k ls n h
left_in l ls (walk.by_outer_continue {k = k} n) h = outer l k ls n h
left_in l ls walk.by_return h = tt
left_in l ls walk.by_stop h = tt

leaves_in : (ls : List ℕ) {V : Order} {w : List Action} {o : Out} → LeavesIn ls V → Walk V w o → OutIn ls o
leaves_in ls h walk.rests = tt
leaves_in ls h (walk.stops k) = tt
leaves_in ls h walk.nothing = tt
leaves_in ls h walk.acts = tt
leaves_in ls h (walk.both j k) = leaves_in ls h.1 k
leaves_in ls h (walk.first a k) = leaves_in ls h.0 k
leaves_in ls h (walk.one k) = leaves_in ls h.0 k
leaves_in ls h (walk.other k) = leaves_in ls h.1 k
leaves_in ls h walk.leave = h
leaves_in ls h walk.fail = tt
leaves_in ls h (walk.holds d k) = leaves_in ls h.0 k
leaves_in ls h (walk.next j k) = leaves_in ls h.1 k
leaves_in ls h (walk.ends k) = tt
leaves_in ls h (walk.jumps k) = leaves_in ls h k
leaves_in ls h (walk.halts k) = tt
leaves_in ls h (walk.last {l = l} k f) = left_in l ls f (leaves_in (l ∷ ls) h k)
leaves_in ls h (walk.more j p k) = leaves_in ls h k

-- ---- a part that never goes on

abbrev NeverOn : Order → Type 0
NeverOn (order.leave x) = Unit {0}
NeverOn order.nowhere = Unit {0}
NeverOn order.fail = Unit {0}
NeverOn (order.then s t) = NeverOn t
NeverOn (order.ending n x s) = NeverOn s
NeverOn _ = ⊥

never_on : {V : Order} {w : List Action} → NeverOn V → Walk V w walk.on → ⊥
never_on h (walk.both j k) = never_on h k
never_on h (walk.ends k) = never_on h k
never_on h (walk.first a k) = a
never_on h walk.nothing = h
never_on h walk.acts = h
never_on h (walk.one k) = h
never_on h (walk.other k) = h
never_on h (walk.holds d k) = h
never_on h (walk.next j k) = h
never_on h (walk.last k f) = h
never_on h (walk.more j p k) = h

-- ---- orders of trees

testing_leaves : (ls : List ℕ) (S : Subject) (ts : List PartTest) (rest : Order) → LeavesIn ls rest → LeavesIn ls (testing S ts rest)
testing_leaves ls S [] rest h = h
testing_leaves ls S (t ∷ ts) rest h = (tt, (testing_leaves ls S ts rest h, tt))

perhaps_leaves : (ls : List ℕ) (n : ℕ) (o : Option Act) → LeavesIn ls (perhaps n o)
perhaps_leaves ls n None = tt
perhaps_leaves ls n (Some a) = tt

binding_leaves : (ls : List ℕ) (S : Subject) (bs : List Binding) (n : ℕ) (rest : Order) → LeavesIn ls rest → LeavesIn ls (binding S bs n rest)
binding_leaves ls S [] n rest h = h
binding_leaves ls S (b ∷ bs) n rest h = (perhaps_leaves ls b.node (taken S b), (tt, (tt, binding_leaves ls S bs n rest h)))

declaring_leaves : (ls : List ℕ) (s : ℕ) (xs : List ℕ) (n : ℕ) (rest : Order) → LeavesIn ls rest → LeavesIn ls (declaring s xs n rest)
declaring_leaves ls s [] n rest h = h
declaring_leaves ls s (x ∷ xs) n rest h = (tt, declaring_leaves ls s xs n rest h)

mutual
  tree_leaves : (xs ls : List ℕ) (e : Exp) (d : Temporary) → Scoped xs ls e → LeavesIn ls (order.order e d)
  tree_leaves xs ls (read m v p) d h = tt
  tree_leaves xs ls (borrow m k p) d h = tt
  tree_leaves xs ls (share m e) d h = (tree_leaves xs ls e (temporary_at m.node 1) h, tt)
  tree_leaves xs ls (build m w es) d h = (all_leave xs ls es h, tt)
  tree_leaves xs ls (unit m) d h = tt
  tree_leaves xs ls (lazily m b e f) d h = (tree_leaves xs ls e (temporary_of e) h.0, (tt, ((tree_leaves xs ls f (temporary_of f) h.1, tt), tt)))
  tree_leaves xs ls (assign m p e) d h = (tree_leaves xs ls e (temporary_of e) h.1, tt)
  tree_leaves xs ls (update m o p e) d h = (tree_leaves xs ls e (temporary_of e) h.1, (tt, (tt, tt)))
  tree_leaves xs ls (call m f es) d h = (all_leave xs ls es h, tt)
  tree_leaves xs ls (input m) d h = tt
  tree_leaves xs ls (print m e) d h = (tree_leaves xs ls e (temporary_of e) h, tt)
  tree_leaves xs ls (block m b) d h = body_leaves xs ls b m.node d h
  tree_leaves xs ls (choose m c l) d h = (scrutinee_leaves xs ls c h.0, arms_leave xs ls (subject c) l d h.1)
  tree_leaves xs ls (loop m l e) d h = tree_leaves xs (l ∷ ls) e (temporary_of e) h
  tree_leaves xs ls (jump m l true) d h = h
  tree_leaves xs ls (jump m l false) d h = h
  tree_leaves xs ls (give m e) d h = (tree_leaves xs ls e (temporary_of e) h, (tt, tt))

  all_leave : (xs ls : List ℕ) (es : Operands) → ScopedAll xs ls es → LeavesIn ls (order_all es)
  all_leave xs ls no_operand h = tt
  all_leave xs ls (operand_and i e es) h = (tree_leaves xs ls e (temporary_of e) h.0, all_leave xs ls es h.1)

  scrutinee_leaves : (xs ls : List ℕ) (c : Scrutinee) → ScopedScrutinee xs ls c → LeavesIn ls (order_scrutinee c)
  scrutinee_leaves xs ls (at_place m p) h = tt
  scrutinee_leaves xs ls (of_value e) h = tree_leaves xs ls e (temporary_of e) h

  arms_leave : (xs ls : List ℕ) (S : Subject) (l : Arms) (d : Temporary) → ScopedArms xs ls l → LeavesIn ls (order_arms S l d)
  arms_leave xs ls S no_arm d h = tt
  arms_leave xs ls S (arm_and p e rest) d h =
      (testing_leaves ls S (tests [] p) (binding S (bindings [] p) (mark_of e).node (order.order e d)) (binding_leaves ls S (bindings [] p) (mark_of e).node (order.order e d) (tree_leaves _ ls e d h.0)), arms_leave xs ls S rest d h.1)

  body_leaves : (xs ls : List ℕ) (b : Body) (n : ℕ) (d : Temporary) → ScopedBody xs ls b → LeavesIn ls (order_body b n d)
  body_leaves xs ls (ends e) n d h = tree_leaves xs ls e d h
  body_leaves xs ls (runs e rest) n d h = (tree_leaves xs ls e (temporary_of e) h.0, body_leaves xs ls rest n d h.1)
  body_leaves xs ls (tree.declares i ys rest) n d h = declaring_leaves ls i ys n (order_body rest n d) (body_leaves _ ls rest n d h)
  body_leaves xs ls (lets i p c rest) n d h = (scrutinee_leaves xs ls c h.0, binding_leaves ls (subject c) (bindings [] p) n (order_body rest n d) (body_leaves _ ls rest n d h.1))

beginning_leaves : (ls : List ℕ) (ps : List Parameter) (n : ℕ) (rest : Order) → LeavesIn ls rest → LeavesIn ls (beginning ps n rest)
beginning_leaves ls [] n rest h = h
beginning_leaves ls (p ∷ ps) n rest h = (tt, (tt, beginning_leaves ls ps n rest h))

-- ---- a body that ends by giving

binding_never : (S : Subject) (bs : List Binding) (n : ℕ) (rest : Order) → NeverOn rest → NeverOn (binding S bs n rest)
binding_never S [] n rest h = h
binding_never S (b ∷ bs) n rest h = binding_never S bs n rest h

declaring_never : (s : ℕ) (xs : List ℕ) (n : ℕ) (rest : Order) → NeverOn rest → NeverOn (declaring s xs n rest)
declaring_never s [] n rest h = h
declaring_never s (x ∷ xs) n rest h = declaring_never s xs n rest h

giving_never : (e : Exp) (d : Temporary) → IsGiving e → NeverOn (order.order e d)
giving_never (give m e) d h = tt
giving_never (read m v p) d h = absurd h
giving_never (borrow m k p) d h = absurd h
giving_never (share m e) d h = absurd h
giving_never (build m w es) d h = absurd h
giving_never (unit m) d h = absurd h
giving_never (lazily m b e f) d h = absurd h
giving_never (assign m p e) d h = absurd h
giving_never (update m o p e) d h = absurd h
giving_never (call m f es) d h = absurd h
giving_never (input m) d h = absurd h
giving_never (print m e) d h = absurd h
giving_never (block m b) d h = absurd h
giving_never (choose m c l) d h = absurd h
giving_never (loop m l e) d h = absurd h
giving_never (jump m l k) d h = absurd h

body_never : (b : Body) (n : ℕ) (d : Temporary) → BodyGives b → NeverOn (order_body b n d)
body_never (ends e) n d h = giving_never e d h
body_never (runs e rest) n d h = body_never rest n d h
body_never (tree.declares i xs rest) n d h = declaring_never i xs n (order_body rest n d) (body_never rest n d h)
body_never (lets i p c rest) n d h = binding_never (subject c) (bindings [] p) n (order_body rest n d) (body_never rest n d h)

beginning_never : (ps : List Parameter) (n : ℕ) (rest : Order) → NeverOn rest → NeverOn (beginning ps n rest)
beginning_never [] n rest h = h
beginning_never (p ∷ ps) n rest h = beginning_never ps n rest h

gives_never : (e : Exp) (d : Temporary) → Gives e → NeverOn (order.order e d)
gives_never (block m b) d h = body_never b m.node d h
gives_never (give m e) d h = absurd h
gives_never (read m v p) d h = absurd h
gives_never (borrow m k p) d h = absurd h
gives_never (share m e) d h = absurd h
gives_never (build m w es) d h = absurd h
gives_never (unit m) d h = absurd h
gives_never (lazily m b e f) d h = absurd h
gives_never (assign m p e) d h = absurd h
gives_never (update m o p e) d h = absurd h
gives_never (call m f es) d h = absurd h
gives_never (input m) d h = absurd h
gives_never (print m e) d h = absurd h
gives_never (choose m c l) d h = absurd h
gives_never (loop m l e) d h = absurd h
gives_never (jump m l k) d h = absurd h

pub functions_answer : (F : Function) → ScopedFunction F → Gives F.body → Answers F
functions_answer F h g o x k n = by x (leaves_in [] (beginning_leaves [] F.params (mark_of F.body).node (order.order F.body (temporary_of F.body)) (tree_leaves _ [] F.body (temporary_of F.body) h)) k) k n
  where
    by : (x : Out) → OutIn [] x → Walk (order_function F) o x → IsNoAnswer x → ⊥
    by walk.on i k n = never_on (beginning_never F.params (mark_of F.body).node (order.order F.body (temporary_of F.body)) (gives_never F.body (temporary_of F.body) g)) k
    by (walk.leaves (breaks m l)) i k n = elim i [ ]
    by (walk.leaves (continues m l)) i k n = elim i [ ]
    by (walk.leaves (returns m)) i k n = n
    by walk.fails i k n = n
    by walk.stopped i k n = n
