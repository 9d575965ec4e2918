-- Behind what a function gives, variables end, and nothing else is done: so no variable is living there. By induction on walks, each of
-- whose lists is cut where the function gives; that it leaves then is seen form by form.
use Rattle.std.proofs.Common.{◌≡◌, ◌⊎◌, inl, inr, ℕ, true, List, [], ◌∷◌, ◌++◌, sym, ap, ◌∙◌, subst, true≢false, append_assoc}
use Rattle.rx_core.specs.declared.types.Step.{Step}
use Rattle.rx_typed.specs.Tree.{variable, Temporary, Mode, by_value, by_reference, Exp, read, borrow, share, build, unit, lazily, assign, update, call, input, print, block, choose, loop, jump, give, Operands, no_operand, operand_and, Scrutinee, at_place, of_value, Arms, no_arm, arm_and, Body, ends, runs, declares, lets, Parameter, Function, mark_of}
use Rattle.rx_lower_walks.specs.Matching.{PartTest, Binding, tests, bindings}
use Rattle.rx_lower_walks.specs.Actions.{Act, Dead, Give, Action, does, Subject, in_place, in_temporary, subject, taking}
use Rattle.rx_lower_walks.specs.Orders.{Exit, returns, exit_node, Order, testing, perhaps, binding, declaring, order, order_all, order_scrutinee, order_arms, order_body, beginning, order_function}
use Rattle.rx_lower_walks.specs.Orders as order
use Rattle.rx_lower_walks.specs.Walks as walk
use Rattle.rx_lower_walks.specs.Walks.{Out, Walk, IsWalk, Passed, by_end, by_continue, Left, by_break, by_outer_break, by_outer_continue, by_return, by_stop}
use Rattle.rx_facts_tables.specs.Along.{ahead}
use Rattle.rx_facts_tables.specs.Live.{living}
use Rattle.rx_engine_simulation.specs.Histories.{Living}
use Rattle.rx_engine_simulation.specs.Programs.{back, Untouched, facts_of}
use Rattle.rx_engine_related.proofs.Since.{back_both}
use Rattle.rx_engine_related.proofs.Living.{living_ahead}

-- ---- orders that leave where they give

abbrev NotGive : Act → Type 0
NotGive (Give t) = ⊥
NotGive _ = Unit {0}

pub data Closing : Order → Type 0 where
  c_give : {n k : ℕ} {t : Temporary} → Closing (order.then (order.act (does n (Give t))) (order.leave (returns k)))
  c_nothing : Closing order.nothing
  c_nowhere : Closing order.nowhere
  c_act : {a : Action} → NotGive a.act → Closing (order.act a)
  c_then : {s t : Order} → Closing s → Closing t → Closing (order.then s t)
  c_or : {s t : Order} → Closing s → Closing t → Closing (order.or s t)
  c_leave : {x : Exit} → Closing (order.leave x)
  c_fail : Closing order.fail
  c_otherwise : {s t : Order} → Closing s → Closing t → Closing (order.otherwise s t)
  c_ending : {n x : ℕ} {s : Order} → Closing s → Closing (order.ending n x s)
  c_passes : {l : ℕ} {s : Order} → Closing s → Closing (order.passes l s)

testing_closing : (S : Subject) (ts : List PartTest) {r : Order} → Closing r → Closing (testing S ts r)
testing_closing S [] c = c
testing_closing S (t ∷ ts) c = c_then (c_act tt) (c_or (testing_closing S ts c) c_fail)

taking_closing : (n : ℕ) (m : Mode) (S : Subject) (ss : List Step) (d : Temporary) → Closing (perhaps n (taking m S ss d))
taking_closing n (by_reference k) S ss d = c_act tt
taking_closing n (by_value v) (in_place p) ss d = c_act tt
taking_closing n (by_value v) (in_temporary t) ss d = c_nothing

binding_closing : (S : Subject) (bs : List Binding) (n : ℕ) {r : Order} → Closing r → Closing (binding S bs n r)
binding_closing S [] n c = c
binding_closing S (b ∷ bs) n c = c_then (taking_closing b.node b.mode S b.steps _) (c_then (c_act tt) (c_then (c_act tt) (c_ending (binding_closing S bs n c))))

declaring_closing : (s : ℕ) (xs : List ℕ) (n : ℕ) {r : Order} → Closing r → Closing (declaring s xs n r)
declaring_closing s [] n c = c
declaring_closing s (x ∷ xs) n c = c_then (c_act tt) (c_ending (declaring_closing s xs n c))

beginning_closing : (ps : List Parameter) (n : ℕ) {r : Order} → Closing r → Closing (beginning ps n r)
beginning_closing [] n c = c
beginning_closing (p ∷ ps) n c = c_then (c_act tt) (c_then (c_act tt) (c_ending (beginning_closing ps n c)))

mutual
  closing : (e : Exp) (d : Temporary) → Closing (order e d)
  closing (read m v p) d = c_act tt
  closing (borrow m k p) d = c_act tt
  closing (share m e) d = c_then (closing e _) (c_act tt)
  closing (build m w es) d = c_then (all_closing es) (c_act tt)
  closing (unit m) d = c_nothing
  closing (lazily m b e g) d = c_then (closing e _) (c_then (c_act tt) (c_then (c_or (closing g _) c_nothing) (c_act tt)))
  closing (assign m p e) d = c_then (closing e _) (c_act tt)
  closing (update m o p e) d = c_then (closing e _) (c_then (c_act tt) (c_then (c_act tt) (c_act tt)))
  closing (call m g es) d = c_then (all_closing es) (c_act tt)
  closing (input m) d = c_act tt
  closing (print m e) d = c_then (closing e _) (c_act tt)
  closing (block m b) d = body_closing b m.node d
  closing (choose m s l) d = c_then (matched_closing s) (arms_closing (subject s) l d)
  closing (loop m l e) d = c_passes (closing e _)
  closing (jump m l k) d = c_leave
  closing (give m e) d = c_then (closing e _) c_give

  all_closing : (es : Operands) → Closing (order_all es)
  all_closing no_operand = c_nothing
  all_closing (operand_and i e es) = c_then (closing e _) (all_closing es)

  matched_closing : (s : Scrutinee) → Closing (order_scrutinee s)
  matched_closing (at_place m p) = c_nothing
  matched_closing (of_value e) = closing e _

  arms_closing : (S : Subject) (l : Arms) (d : Temporary) → Closing (order_arms S l d)
  arms_closing S no_arm d = c_nowhere
  arms_closing S (arm_and p e l) d = c_otherwise (testing_closing S (tests [] p) (binding_closing S (bindings [] p) (mark_of e).node (closing e d))) (arms_closing S l d)

  body_closing : (b : Body) (n : ℕ) (d : Temporary) → Closing (order_body b n d)
  body_closing (ends e) n d = closing e d
  body_closing (runs e b) n d = c_then (closing e _) (body_closing b n d)
  body_closing (declares s xs b) n d = declaring_closing s xs n (body_closing b n d)
  body_closing (lets s p c b) n d = c_then (matched_closing c) (binding_closing (subject c) (bindings [] p) n (body_closing b n d))

function_closing : (f : Function) → Closing (order_function f)
function_closing f = beginning_closing f.params (mark_of f.body).node (closing f.body _)

-- ---- lists

abbrev Cut : Action → List Action → List Action → List Action → List Action → Type 0
Cut a us vs w rest = ((r : List Action) × (us ≡ w ++ a ∷ r) × (rest ≡ r ++ vs)) ⊎ ((k : List Action) × (vs ≡ k ++ a ∷ rest))

cut : (a : Action) (us vs w rest : List Action) → us ++ vs ≡ w ++ a ∷ rest → Cut a us vs w rest
cut a [] vs w rest e = inr (w, e)
cut a (u ∷ us) vs [] rest e = inl (us, cc, sym (cc))
cut a (u ∷ us) vs (x ∷ w) rest e = by (cut a us vs w rest (cc))
  where
    by : Cut a us vs w rest → Cut a (u ∷ us) vs (x ∷ w) rest
    by (inl (r, h, g)) = inl (r, cc, g)
    by (inr (k, g)) = inr (k, g)

not_empty : (a : Action) (w rest : List Action) → [] ≡ w ++ a ∷ rest → ⊥
not_empty a [] rest e = cc
not_empty a (x ∷ w) rest e = cc

only_one : (a b : Action) (w rest : List Action) → b ∷ [] ≡ w ++ a ∷ rest → (b ≡ a) × (rest ≡ [])
only_one a b [] rest e = (cc, sym (cc))
only_one a b (x ∷ w) rest e = absurd (tail_of (cc))
  where
    tail_of : [] ≡ w ++ a ∷ rest → ⊥
    tail_of h = not_empty a w rest h

pub data AllEnd : List Action → Type 0 where
  no_more : AllEnd []
  end_and : {n x : ℕ} {l : List Action} → AllEnd l → AllEnd (does n (Dead x) ∷ l)

one_more : {l : List Action} (n x : ℕ) → AllEnd l → AllEnd (l ++ does n (Dead x) ∷ [])
one_more n x no_more = end_and no_more
one_more n x (end_and h) = end_and (one_more n x h)

-- ---- behind what it gives

data Gone : Out → Type 0 where
  returned : {k : ℕ} → Gone (walk.leaves (returns k))
  halted : Gone walk.stopped

record Closed (rest : List Action) (o : Out) : Type 0 where
  pub all_end : AllEnd rest
  pub gone : Gone o

not_on : {A : Type 0} → Gone walk.on → A
not_on g = elim g [ ]

not_failed : {A : Type 0} → Gone walk.fails → A
not_failed g = elim g [ ]

not_passed : {A : Type 0} {l : ℕ} {o : Out} → Gone o → Passed l o → A
not_passed returned p = elim p [ ]
not_passed halted p = elim p [ ]

left_gone : {l : ℕ} {o p : Out} → Gone o → Left l o p → Gone p
left_gone returned by_return = returned
left_gone halted by_stop = halted

stopped_short : {rest : List Action} {o : Out} → Closed rest o → Closed rest walk.stopped
stopped_short c = record { all_end = c.all_end; gone = halted }

module _ (n : ℕ) (t : Temporary) where
  abbrev gives : Action
  gives = does n (Give t)

  not_give : (a : Action) → NotGive a.act → a ≡ gives → ⊥
  not_give a h e = subst (λ (b : Action). NotGive b.act) e h

  not_dead : (k x : ℕ) → does k (Dead x) ≡ gives → ⊥
  not_dead k x e = subst (λ (b : Action). DeadOne b.act) e tt
    where
      DeadOne : Act → Type 0
      DeadOne (Dead y) = Unit {0}
      DeadOne _ = ⊥

  given : {m k : ℕ} {s : Temporary} {l : List Action} {o : Out} → Walk (order.then (order.act (does m (Give s))) (order.leave (returns k))) l o → (w rest : List Action) → l ≡ w ++ gives ∷ rest → Closed rest o
  given walk.rests w rest e = absurd (not_empty gives w rest e)
  given (walk.stops h) w rest e = stopped_short (given h w rest e)
  given (walk.both walk.acts h) w rest e = left_so h w rest e
    where
      left_so : {m k : ℕ} {s : Temporary} {v : List Action} {o : Out} → Walk (order.leave (returns k)) v o → (w rest : List Action) → does m (Give s) ∷ v ≡ w ++ gives ∷ rest → Closed rest o
      left_so walk.rests w rest e = record { all_end = subst (λ l. AllEnd l) (sym (only_one gives _ w rest e).1) no_more; gone = halted }
      left_so (walk.stops h) w rest e = stopped_short (left_so h w rest e)
      left_so walk.leave w rest e = record { all_end = subst (λ l. AllEnd l) (sym (only_one gives _ w rest e).1) no_more; gone = returned }
  given (walk.first a h) w rest e = alone h a w rest e
    where
      alone : {m : ℕ} {s : Temporary} {v : List Action} {o : Out} → Walk (order.act (does m (Give s))) v o → walk.IsAway o → (w rest : List Action) → v ≡ w ++ gives ∷ rest → Closed rest o
      alone walk.rests a w rest e = absurd (not_empty gives w rest e)
      alone (walk.stops h) a w rest e = its h w rest e
        where
          its : {m : ℕ} {s : Temporary} {v : List Action} {o : Out} → Walk (order.act (does m (Give s))) v o → (w rest : List Action) → v ≡ w ++ gives ∷ rest → Closed rest walk.stopped
          its walk.rests w rest e = absurd (not_empty gives w rest e)
          its (walk.stops h) w rest e = its h w rest e
          its walk.acts w rest e = record { all_end = subst (λ l. AllEnd l) (sym (only_one gives _ w rest e).1) no_more; gone = halted }
      alone walk.acts a w rest e = elim a [ ]

  behind_it : {s : Order} {l : List Action} {o : Out} → Walk s l o → Closing s → (w rest : List Action) → l ≡ w ++ gives ∷ rest → Closed rest o
  behind_it h c_give w rest e = given h w rest e
  behind_it walk.rests c w rest e = absurd (not_empty gives w rest e)
  behind_it (walk.stops h) c w rest e = stopped_short (behind_it h c w rest e)
  behind_it walk.nothing c_nothing w rest e = absurd (not_empty gives w rest e)
  behind_it (walk.acts {a = b}) (c_act g) w rest e = absurd (not_give b g (only_one gives b w rest e).0)
  behind_it (walk.both {us = us} {vs = vs} h k) (c_then c d) w rest e = by (cut gives us vs w rest e) (λ r q. behind_it h c w r q) (λ m q. behind_it k d m rest q)
    where
      by : {o : Out} → Cut gives us vs w rest → ((r : List Action) → us ≡ w ++ gives ∷ r → Closed r walk.on) → ((m : List Action) → vs ≡ m ++ gives ∷ rest → Closed rest o) → Closed rest o
      by (inl (r, q, g)) f k = not_on (f r q).gone
      by (inr (m, q)) f k = k m q
  behind_it (walk.first a h) (c_then c d) w rest e = behind_it h c w rest e
  behind_it (walk.one h) (c_or c d) w rest e = behind_it h c w rest e
  behind_it (walk.other h) (c_or c d) w rest e = behind_it h d w rest e
  behind_it walk.leave c_leave w rest e = absurd (not_empty gives w rest e)
  behind_it walk.fail c_fail w rest e = absurd (not_empty gives w rest e)
  behind_it (walk.holds a h) (c_otherwise c d) w rest e = behind_it h c w rest e
  behind_it (walk.next {us = us} {vs = vs} h k) (c_otherwise c d) w rest e = by (cut gives us vs w rest e) (λ r q. behind_it h c w r q) (λ m q. behind_it k d m rest q)
    where
      by : {o : Out} → Cut gives us vs w rest → ((r : List Action) → us ≡ w ++ gives ∷ r → Closed r walk.fails) → ((m : List Action) → vs ≡ m ++ gives ∷ rest → Closed rest o) → Closed rest o
      by (inl (r, q, g)) f k = not_failed (f r q).gone
      by (inr (m, q)) f k = k m q
  behind_it (walk.ends {n = k} {x = x} {us = us} h) (c_ending c) w rest e = by (cut gives us (does k (Dead x) ∷ []) w rest e) (λ r q. behind_it h c w r q)
    where
      by : {o : Out} → Cut gives us (does k (Dead x) ∷ []) w rest → ((r : List Action) → us ≡ w ++ gives ∷ r → Closed r walk.on) → Closed rest o
      by (inl (r, q, g)) f = not_on (f r q).gone
      by (inr (m, q)) f = absurd (not_dead k x (only_one gives (does k (Dead x)) m rest q).0)
  behind_it (walk.jumps {x = x} {us = us} {j = j} h) (c_ending c) w rest e = by (cut gives us (does (exit_node j) (Dead x) ∷ []) w rest e) (λ r q. behind_it h c w r q)
    where
      by : Cut gives us (does (exit_node j) (Dead x) ∷ []) w rest → ((r : List Action) → us ≡ w ++ gives ∷ r → Closed r (walk.leaves j)) → Closed rest (walk.leaves j)
      by (inl (r, q, g)) f = let z = f r q in record { all_end = subst (λ l. AllEnd l) (sym g) (one_more (exit_node j) x z.all_end); gone = z.gone }
      by (inr (m, q)) f = absurd (not_dead (exit_node j) x (only_one gives (does (exit_node j) (Dead x)) m rest q).0)
  behind_it (walk.halts h) (c_ending c) w rest e = behind_it h c w rest e
  behind_it (walk.last h g) (c_passes c) w rest e = let z = behind_it h c w rest e in record { all_end = z.all_end; gone = left_gone z.gone g }
  behind_it (walk.more {us = us} {vs = vs} {o = o} h g k) (c_passes c) w rest e = by (cut gives us vs w rest e) (λ r q. behind_it h c w r q) (λ m q. behind_it k (c_passes c) m rest q)
    where
      by : {p : Out} → Cut gives us vs w rest → ((r : List Action) → us ≡ w ++ gives ∷ r → Closed r o) → ((m : List Action) → vs ≡ m ++ gives ∷ rest → Closed rest p) → Closed rest p
      by (inl (r, q, z)) f k = not_passed (f r q).gone g
      by (inr (m, q)) f k = k m q

-- ---- nothing is living

first_end : (a : Action) (l m : List Action) → AllEnd (a ∷ m) → (AllEnd m → AllEnd l) → AllEnd (a ∷ l)
first_end _ l m (end_and k) f = end_and (f k)

first_part : (l m : List Action) → AllEnd (l ++ m) → AllEnd l
first_part [] m h = no_more
first_part (a ∷ l) m h = first_end a l (l ++ m) h (λ k. first_part l m k)

none_ahead : (x : ℕ) {l : List Action} → AllEnd l → ahead (living (variable x)) l ≡ true → ⊥
none_ahead x no_more e = true≢false (sym e)
none_ahead x (end_and h) e = none_ahead x h e

pub given_dead : (f : Function) (l : List ℕ) (u : Untouched f (record { special = l; asked = [] })) (n : ℕ) (t : Temporary) (x : ℕ) (h : List Action)
    → Living (facts_of f (record { special = l; asked = [] }) u) x (does n (Give t) ∷ h) → ⊥
given_dead f l u n t x h v =
    let z = living_ahead f l u x (does n (Give t) ∷ h) v in
    let e = ap (λ w. w ++ z.walk.0) (back_both h (does n (Give t) ∷ z.list)) ∙ append_assoc (back h []) (does n (Give t) ∷ z.list) z.walk.0 in
    none_ahead x (first_part z.list z.walk.0 (behind_it n t z.walk.2 (function_closing f) (back h []) (z.list ++ z.walk.0) e).all_end) z.live
