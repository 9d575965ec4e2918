-- Where names mean something, what an action uses has begun on the walk: by induction on orders and their walks.
use Rattle.std.proofs.Common.{◌≡◌, ℕ, false, List, [], ◌∷◌, ◌++◌, map, refl, sym, subst, ⊎_elim, append_assoc, append-nil}
use Rattle.rx_core.specs.declared.types.Step.{Step}
use Rattle.rx_typed.specs.Tree.{Root, variable, temporary, Place, Mode, by_value, by_reference, Temporary, Exp, read, borrow, share, build, unit, lazily, assign, update, call, input, print, block, choose, loop, jump, give, Operands, no_operand, operand_and, Scrutinee, at_place, of_value, Arms, no_arm, arm_and, Body, ends, runs, lets, Parameter, Function, own, temporary_place, under, mark_of, temporary_of, temporary_at}
use Rattle.rx_typed.specs.Tree as tree
use Rattle.rx_lower_walks.specs.Matching.{PartTest, Binding, tests, bindings}
use Rattle.rx_lower_walks.specs.Actions.{Act, Declare, Dead, Read, Write, Borrow, Test, Call, Build, Input, Print, Give, Action, does, Subject, in_place, in_temporary, subject, part, taking, declared, written}
use Rattle.rx_lower_walks.specs.Orders as order
use Rattle.rx_lower_walks.specs.Orders.{exit_node, Order, testing, perhaps, binding, declaring, order_all, order_scrutinee, order_arms, order_body, beginning, order_function, argument, declared_parameter, written_parameter}
use Rattle.rx_lower_walks.specs.Walks as walk
use Rattle.rx_lower_walks.specs.Walks.{Out, Walk, Among, IsWalk}
use Rattle.rx_meaning_covered.specs.Begun.{HasBegun, ActBegun, UsesBegun}
use Rattle.rx_meaning_covered.specs.Scopes.{PlaceIn, variables_of, Scoped, ScopedAll, ScopedScrutinee, ScopedArms, ScopedBody, ScopedFunction}
use Rattle.rx_meaning_covered.proofs.Passing.{among_both}

-- ---- lists

among_front : {A : Type 0} (a : A) (l m : List A) → Among a l → Among a (l ++ m)
among_front a _ m walk.here = walk.here
among_front a _ m (walk.there h) = walk.there (among_front a _ m h)

among_behind : {A : Type 0} (a : A) (l m : List A) → Among a m → Among a (l ++ m)
among_behind a [] m h = h
among_behind a (b ∷ l) m h = walk.there (among_behind a l m h)

-- ---- orders in scope

abbrev ActIn : List ℕ → Act → Type 0
ActIn xs (Read m p d) = PlaceIn xs p
ActIn xs (Borrow k p d) = PlaceIn xs p
ActIn xs (Test p c) = PlaceIn xs p
ActIn xs (Write p t ss) = PlaceIn xs p
ActIn xs _ = Unit {0}

-- the variables that have begun where an order goes on
abbrev begun_by_act : Act → List ℕ
begun_by_act (Declare x) = x ∷ []
begun_by_act _ = []

abbrev begun_by : Order → List ℕ
begun_by (order.act a) = begun_by_act a.act
begun_by (order.then s t) = begun_by s ++ begun_by t
begun_by _ = []

abbrev InScope : List ℕ → Order → Type 0
InScope xs (order.act a) = ActIn xs a.act
InScope xs (order.then s t) = InScope xs s × InScope (begun_by s ++ xs) t
InScope xs (order.or s t) = InScope xs s × InScope xs t
InScope xs (order.otherwise s t) = InScope xs s × InScope xs t
InScope xs (order.ending n x s) = InScope xs s
InScope xs (order.passes l s) = InScope xs s
InScope xs _ = Unit {0}

-- ---- walks

abbrev AllBegun : List Action → List Action → Type 0
AllBegun w [] = Unit {0}
AllBegun w (a ∷ us) = ActBegun a.act w × AllBegun (w ++ a ∷ []) us

abbrev Knows : List ℕ → List Action → Type 0
Knows xs w = (x : ℕ) → Among x xs → HasBegun x w

begun_more : (x : ℕ) (w us : List Action) → HasBegun x w → HasBegun x (w ++ us)
begun_more x w us h = (h.0, among_front (does h.0 (Declare x)) w us h.1)

knows_more : (xs : List ℕ) (w us : List Action) → Knows xs w → Knows xs (w ++ us)
knows_more xs w us k x h = begun_more x w us (k x h)

knows_both : (xs ys : List ℕ) (w : List Action) → Knows xs w → Knows ys w → Knows (xs ++ ys) w
knows_both xs ys w k j x h = ⊎_elim (λ g. k x g) (λ g. j x g) (among_both x xs ys h)

begun_both : (w us vs : List Action) → AllBegun w us → AllBegun (w ++ us) vs → AllBegun w (us ++ vs)
begun_both w [] vs h k = subst (λ z. AllBegun z vs) (append-nil w) k
begun_both w (a ∷ us) vs h k = (h.0, begun_both (w ++ a ∷ []) us vs h.1 (subst (λ z. AllBegun z vs) (sym (append_assoc w (a ∷ []) us)) k))

act_begun : (xs : List ℕ) (w : List Action) (a : Act) → Knows xs w → ActIn xs a → ActBegun a w
act_begun xs w (Read m p d) k h = λ x q. k x (h x q)
act_begun xs w (Borrow m p d) k h = λ x q. k x (h x q)
act_begun xs w (Test p c) k h = λ x q. k x (h x q)
act_begun xs w (Write p t ss) k h = λ x q. k x (h x q)
act_begun xs w (Declare x) k h = tt
act_begun xs w (Dead x) k h = tt
act_begun xs w (Call f ts d) k h = tt
act_begun xs w (Build m js ts d) k h = tt
act_begun xs w (Input d) k h = tt
act_begun xs w (Print t) k h = tt
act_begun xs w (Give t) k h = tt

act_knows : (w : List Action) (n : ℕ) (a : Act) → Knows (begun_by_act a) (w ++ does n a ∷ [])
act_knows w n (Declare y) x h = (n, among_behind (does n (Declare x)) w (does n (Declare y) ∷ []) (same x y h))
  where
    same : (x y : ℕ) → Among x (y ∷ []) → Among (does n (Declare x)) (does n (Declare y) ∷ [])
    same _ y walk.here = walk.here
    same x y (walk.there g) = elim g [ ]
act_knows w n (Read m p d) x h = elim h [ ]
act_knows w n (Borrow m p d) x h = elim h [ ]
act_knows w n (Test p c) x h = elim h [ ]
act_knows w n (Write p t ss) x h = elim h [ ]
act_knows w n (Dead y) x h = elim h [ ]
act_knows w n (Call f ts d) x h = elim h [ ]
act_knows w n (Build m js ts d) x h = elim h [ ]
act_knows w n (Input d) x h = elim h [ ]
act_knows w n (Print t) x h = elim h [ ]
act_knows w n (Give t) x h = elim h [ ]

-- what an order that goes on leaves
knows_on : (V : Order) (w us : List Action) → Walk V us walk.on → Knows (begun_by V) (w ++ us)
knows_on _ w _ walk.nothing = λ x h. elim h [ ]
knows_on _ w _ (walk.acts {a = a}) = act_knows w a.node a.act
knows_on _ w _ (walk.both {s = s} {t = t} {us = us} {vs = vs} j k) =
    knows_both (begun_by s) (begun_by t) (w ++ (us ++ vs)) (subst (λ z. Knows (begun_by s) z) (append_assoc w us vs) (knows_more (begun_by s) (w ++ us) vs (knows_on s w us j)))
    (subst (λ z. Knows (begun_by t) z) (append_assoc w us vs) (knows_on t (w ++ us) vs k))
knows_on _ w _ (walk.first a k) = absurd a
knows_on _ w _ (walk.one k) = λ x h. elim h [ ]
knows_on _ w _ (walk.other k) = λ x h. elim h [ ]
knows_on _ w _ (walk.holds d k) = λ x h. elim h [ ]
knows_on _ w _ (walk.next j k) = λ x h. elim h [ ]
knows_on _ w _ (walk.ends k) = λ x h. elim h [ ]
knows_on _ w _ (walk.last k f) = λ x h. elim h [ ]
knows_on _ w _ (walk.more j p k) = λ x h. elim h [ ]

-- each action of a walk uses what has begun
walks_begun : (xs : List ℕ) (w : List Action) {V : Order} {us : List Action} {o : Out} → Knows xs w → InScope xs V → Walk V us o → AllBegun w us
walks_begun xs w k h walk.rests = tt
walks_begun xs w k h (walk.stops j) = walks_begun xs w k h j
walks_begun xs w k h walk.nothing = tt
walks_begun xs w k h (walk.acts {a = a}) = (act_begun xs w a.act k h, tt)
walks_begun xs w k h (walk.both {s = s} {us = us} {vs = vs} i j) =
    begun_both w us vs (walks_begun xs w k h.0 i) (walks_begun (begun_by s ++ xs) (w ++ us) (knows_both (begun_by s) xs (w ++ us) (knows_on s w us i) (knows_more xs w us k)) h.1 j)
walks_begun xs w k h (walk.first a j) = walks_begun xs w k h.0 j
walks_begun xs w k h (walk.one j) = walks_begun xs w k h.0 j
walks_begun xs w k h (walk.other j) = walks_begun xs w k h.1 j
walks_begun xs w k h walk.leave = tt
walks_begun xs w k h walk.fail = tt
walks_begun xs w k h (walk.holds d j) = walks_begun xs w k h.0 j
walks_begun xs w k h (walk.next {us = us} {vs = vs} i j) = begun_both w us vs (walks_begun xs w k h.0 i) (walks_begun xs (w ++ us) (knows_more xs w us k) h.1 j)
walks_begun xs w k h (walk.ends {n = n} {x = x} {us = us} j) = begun_both w us (does n (Dead x) ∷ []) (walks_begun xs w k h j) (tt, tt)
walks_begun xs w k h (walk.jumps {x = x} {us = us} {j = j} i) = begun_both w us (does (exit_node j) (Dead x) ∷ []) (walks_begun xs w k h i) (tt, tt)
walks_begun xs w k h (walk.halts j) = walks_begun xs w k h j
walks_begun xs w k h (walk.last j f) = walks_begun xs w k h j
walks_begun xs w k h (walk.more {us = us} {vs = vs} i p j) = begun_both w us vs (walks_begun xs w k h i) (walks_begun xs (w ++ us) (knows_more xs w us k) h j)

-- one of them
one_begun : (v w : List Action) (a : Action) (rest : List Action) → AllBegun v ((w ++ a ∷ []) ++ rest) → ActBegun a.act (v ++ w)
one_begun v [] a rest h = subst (λ z. ActBegun a.act z) (sym (append-nil v)) h.0
one_begun v (b ∷ w) a rest h = subst (λ z. ActBegun a.act z) (append_assoc v (b ∷ []) w) (one_begun (v ++ b ∷ []) w a rest h.1)

-- ---- more in scope

abbrev More : List ℕ → List ℕ → Type 0
More xs ys = (x : ℕ) → Among x xs → Among x ys

more_behind : (zs xs ys : List ℕ) → More xs ys → More (zs ++ xs) (zs ++ ys)
more_behind zs xs ys m x h = ⊎_elim (λ g. among_front x zs ys g) (λ g. among_behind x zs ys (m x g)) (among_both x zs xs h)

act_in_more : (xs ys : List ℕ) → More xs ys → (a : Act) → ActIn xs a → ActIn ys a
act_in_more xs ys m (Read o p d) h = λ x q. m x (h x q)
act_in_more xs ys m (Borrow o p d) h = λ x q. m x (h x q)
act_in_more xs ys m (Test p c) h = λ x q. m x (h x q)
act_in_more xs ys m (Write p t ss) h = λ x q. m x (h x q)
act_in_more xs ys m (Declare x) h = tt
act_in_more xs ys m (Dead x) h = tt
act_in_more xs ys m (Call f ts d) h = tt
act_in_more xs ys m (Build w js ts d) h = tt
act_in_more xs ys m (Input d) h = tt
act_in_more xs ys m (Print t) h = tt
act_in_more xs ys m (Give t) h = tt

in_more : (V : Order) (xs ys : List ℕ) → More xs ys → InScope xs V → InScope ys V
in_more order.nothing xs ys m h = tt
in_more order.nowhere xs ys m h = tt
in_more (order.act a) xs ys m h = act_in_more xs ys m a.act h
in_more (order.then s t) xs ys m h = (in_more s xs ys m h.0, in_more t (begun_by s ++ xs) (begun_by s ++ ys) (more_behind (begun_by s) xs ys m) h.1)
in_more (order.or s t) xs ys m h = (in_more s xs ys m h.0, in_more t xs ys m h.1)
in_more (order.leave x) xs ys m h = tt
in_more order.fail xs ys m h = tt
in_more (order.otherwise s t) xs ys m h = (in_more s xs ys m h.0, in_more t xs ys m h.1)
in_more (order.ending n x s) xs ys m h = in_more s xs ys m h
in_more (order.passes l s) xs ys m h = in_more s xs ys m h

-- behind a part
after : (U V : Order) (xs : List ℕ) → InScope xs V → InScope (begun_by U ++ xs) V
after U V xs h = in_more V xs (begun_by U ++ xs) (λ x g. among_behind x (begun_by U) xs g) h

-- ---- orders of trees

-- what is matched is in scope
abbrev SubjectIn : List ℕ → Subject → Type 0
SubjectIn xs (in_place p) = PlaceIn xs p
SubjectIn xs (in_temporary t) = Unit {0}

part_in : (xs : List ℕ) (S : Subject) (ss : List Step) → SubjectIn xs S → PlaceIn xs (part S ss)
part_in xs (in_place p) ss h = h
part_in xs (in_temporary t) ss h = λ x q. absurd (cc)

subject_more : (xs ys : List ℕ) → More xs ys → (S : Subject) → SubjectIn xs S → SubjectIn ys S
subject_more xs ys m (in_place p) h = λ x q. m x (h x q)
subject_more xs ys m (in_temporary t) h = tt

own_in : (xs : List ℕ) (x : ℕ) → Among x xs → PlaceIn xs (own x)
own_in xs x h y q = subst (λ z. Among z xs) (same x y q) h
  where
    same : (x y : ℕ) → ◌≡◌ {A = Root} (variable x) (variable y) → x ≡ y
    same x y q = cc

testing_in : (xs : List ℕ) (S : Subject) (ts : List PartTest) (rest : Order) → SubjectIn xs S → InScope xs rest → InScope xs (testing S ts rest)
testing_in xs S [] rest s h = h
testing_in xs S (t ∷ ts) rest s h = (part_in xs S t.steps s, (testing_in xs S ts rest s h, tt))

perhaps_in : (xs : List ℕ) (n : ℕ) (S : Subject) (m : Mode) (ss : List Step) (d : Temporary) → SubjectIn xs S → InScope xs (perhaps n (taking m S ss d))
perhaps_in xs n (in_place p) (by_value v) ss d s = s
perhaps_in xs n (in_temporary t) (by_value v) ss d s = tt
perhaps_in xs n (in_place p) (by_reference k) ss d s = s
perhaps_in xs n (in_temporary t) (by_reference k) ss d s = λ x q. absurd (cc)

perhaps_begins : (n : ℕ) (S : Subject) (m : Mode) (ss : List Step) (d : Temporary) → begun_by (perhaps n (taking m S ss d)) ≡ []
perhaps_begins n (in_place p) (by_value v) ss d = refl
perhaps_begins n (in_temporary t) (by_value v) ss d = refl
perhaps_begins n (in_place p) (by_reference k) ss d = refl
perhaps_begins n (in_temporary t) (by_reference k) ss d = refl

-- one that is new comes to those in scope
put_back : (ys : List ℕ) (y : ℕ) (xs : List ℕ) → More (y ∷ (ys ++ xs)) (ys ++ (y ∷ xs))
put_back ys y xs z walk.here = among_behind z ys (z ∷ xs) walk.here
put_back ys y xs z (walk.there g) = more_behind ys xs (y ∷ xs) (λ u k. walk.there k) z g

binding_in : (bs : List Binding) (xs : List ℕ) (S : Subject) (n : ℕ) (rest : Order) → SubjectIn xs S → InScope (variables_of bs ++ xs) rest → InScope xs (binding S bs n rest)
binding_in [] xs S n rest s h = h
binding_in (b ∷ bs) xs S n rest s h =
    let inner = binding_in bs (b.variable ∷ xs) S n rest (subject_more xs (b.variable ∷ xs) (λ x g. walk.there g) S s) (in_more rest (b.variable ∷ (variables_of bs ++ xs)) (variables_of bs ++ (b.variable ∷ xs)) (put_back (variables_of bs) b.variable xs) h) in (
      perhaps_in xs b.node S b.mode b.steps (temporary_at b.node 0) s,
      subst (λ z. InScope (z ++ xs) (order.then (order.act (declared b)) (order.then (order.act (written S b)) (order.ending n b.variable (binding S bs n rest))))) (sym (perhaps_begins b.node S b.mode b.steps (temporary_at b.node 0)))
          (tt, (own_in (b.variable ∷ xs) b.variable walk.here, inner)),
    )

declaring_in : (ys : List ℕ) (xs : List ℕ) (s n : ℕ) (rest : Order) → InScope (ys ++ xs) rest → InScope xs (declaring s ys n rest)
declaring_in [] xs s n rest h = h
declaring_in (y ∷ ys) xs s n rest h = (tt, declaring_in ys (y ∷ xs) s n rest (in_more rest (y ∷ (ys ++ xs)) (ys ++ (y ∷ xs)) (put_back ys y xs) h))

behind_in : (U : Order) (xs : List ℕ) (a : Act) → ActIn xs a → ActIn (begun_by U ++ xs) a
behind_in U xs a h = act_in_more xs (begun_by U ++ xs) (λ x g. among_behind x (begun_by U) xs g) a h

scrutinee_in : (xs ls : List ℕ) (c : Scrutinee) → ScopedScrutinee xs ls c → SubjectIn xs (subject c)
scrutinee_in xs ls (at_place m p) h = h
scrutinee_in xs ls (of_value e) h = tt

mutual
  tree_in : (xs ls : List ℕ) (e : Exp) (d : Temporary) → Scoped xs ls e → InScope xs (order.order e d)
  tree_in xs ls (read m v p) d h = h
  tree_in xs ls (borrow m k p) d h = h
  tree_in xs ls (share m e) d h = (tree_in xs ls e (temporary_at m.node 1) h, (λ x q. absurd (cc)))
  tree_in xs ls (build m w es) d h = (all_in xs ls es h, tt)
  tree_in xs ls (unit m) d h = tt
  tree_in xs ls (lazily m b e f) d h =
      let oe = order.order e (temporary_of e) in
      (tree_in xs ls e (temporary_of e) h.0, ((λ x q. absurd (cc)), ((after oe (order.order f (temporary_of f)) xs (tree_in xs ls f (temporary_of f) h.1), tt), tt)))
  tree_in xs ls (assign m p e) d h = (tree_in xs ls e (temporary_of e) h.1, behind_in (order.order e (temporary_of e)) xs (Write p (temporary_of e) []) h.0)
  tree_in xs ls (update m o p e) d h =
      let oe = order.order e (temporary_of e) in
      (tree_in xs ls e (temporary_of e) h.1, (behind_in oe xs (Read false p (temporary_at m.node 1)) h.0, (tt, behind_in oe xs (Write p (temporary_at m.node 2) []) h.0)))
  tree_in xs ls (call m f es) d h = (all_in xs ls es h, tt)
  tree_in xs ls (input m) d h = tt
  tree_in xs ls (print m e) d h = (tree_in xs ls e (temporary_of e) h, tt)
  tree_in xs ls (block m b) d h = body_in xs ls b m.node d h
  tree_in xs ls (choose m c l) d h = (scrutinee_order xs ls c h.0, after (order_scrutinee c) (order_arms (subject c) l d) xs (arms_in xs ls (subject c) l d (scrutinee_in xs ls c h.0) h.1))
  tree_in xs ls (loop m l e) d h = tree_in xs (l ∷ ls) e (temporary_of e) h
  tree_in xs ls (jump m l k) d h = tt
  tree_in xs ls (give m e) d h = (tree_in xs ls e (temporary_of e) h, (tt, tt))

  all_in : (xs ls : List ℕ) (es : Operands) → ScopedAll xs ls es → InScope xs (order_all es)
  all_in xs ls no_operand h = tt
  all_in xs ls (operand_and i e es) h = (tree_in xs ls e (temporary_of e) h.0, after (order.order e (temporary_of e)) (order_all es) xs (all_in xs ls es h.1))

  scrutinee_order : (xs ls : List ℕ) (c : Scrutinee) → ScopedScrutinee xs ls c → InScope xs (order_scrutinee c)
  scrutinee_order xs ls (at_place m p) h = tt
  scrutinee_order xs ls (of_value e) h = tree_in xs ls e (temporary_of e) h

  arms_in : (xs ls : List ℕ) (S : Subject) (l : Arms) (d : Temporary) → SubjectIn xs S → ScopedArms xs ls l → InScope xs (order_arms S l d)
  arms_in xs ls S no_arm d s h = tt
  arms_in xs ls S (arm_and p e rest) d s h = (
    testing_in xs S (tests [] p) (binding S (bindings [] p) (mark_of e).node (order.order e d)) s (binding_in (bindings [] p) xs S (mark_of e).node (order.order e d) s (tree_in (variables_of (bindings [] p) ++ xs) ls e d h.0)),
    arms_in xs ls S rest d s h.1,
  )

  body_in : (xs ls : List ℕ) (b : Body) (n : ℕ) (d : Temporary) → ScopedBody xs ls b → InScope xs (order_body b n d)
  body_in xs ls (ends e) n d h = tree_in xs ls e d h
  body_in xs ls (runs e rest) n d h = (tree_in xs ls e (temporary_of e) h.0, after (order.order e (temporary_of e)) (order_body rest n d) xs (body_in xs ls rest n d h.1))
  body_in xs ls (tree.declares i ys rest) n d h = declaring_in ys xs i n (order_body rest n d) (body_in (ys ++ xs) ls rest n d h)
  body_in xs ls (lets i p c rest) n d h = (
    scrutinee_order xs ls c h.0,
    after (order_scrutinee c) (binding (subject c) (bindings [] p) n (order_body rest n d)) xs
        (binding_in (bindings [] p) xs (subject c) n (order_body rest n d) (scrutinee_in xs ls c h.0) (body_in (variables_of (bindings [] p) ++ xs) ls rest n d h.1)),
  )

abbrev given_variables : List Parameter → List ℕ
given_variables ps = map (λ p. p.variable) ps

beginning_in : (ps : List Parameter) (xs : List ℕ) (n : ℕ) (rest : Order) → InScope (given_variables ps ++ xs) rest → InScope xs (beginning ps n rest)
beginning_in [] xs n rest h = h
beginning_in (p ∷ ps) xs n rest h =
    (tt, (own_in (p.variable ∷ xs) p.variable walk.here, beginning_in ps (p.variable ∷ xs) n rest (in_more rest (p.variable ∷ (given_variables ps ++ xs)) (given_variables ps ++ (p.variable ∷ xs)) (put_back (given_variables ps) p.variable xs) h)))

pub functions_use_begun : (F : Function) → ScopedFunction F → UsesBegun F
functions_use_begun F h w a is =
    one_begun [] w a is.0 (walks_begun [] [] (λ x g. elim g [ ]) (beginning_in F.params [] (mark_of F.body).node (order.order F.body (temporary_of F.body)) (subst (λ z. InScope z (order.order F.body (temporary_of F.body))) (sym (append-nil (given_variables F.params)))
    (tree_in (given_variables F.params) [] F.body (temporary_of F.body) h))) is.2)
