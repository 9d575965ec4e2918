-- What is told of a part of an order, by the variables in scope and the loops round it: a mark that stands only in front of jumps out of a loop
-- is none of a part that stands in that loop twice; a variable that is not in scope ends with parts of it; so of parts put together.
use Rattle.std.proofs.Common.{◌≡◌, ℕ, Bool, true, false, ◌&&◌, ◌==◌, List, [], ◌∷◌, ◌++◌, map, reverse, refl, sym, ap, ◌∙◌, subst, ◌⊎◌, inl, inr, append_assoc}
use Rattle.std.proofs.lemmas.Bool.Decides.{Decides-eqb}
use Rattle.std.proofs.lemmas.Grind.{reverse_onto}
use Rattle.rx_core.specs.declared.types.Step.{Step}
use Rattle.rx_typed.specs.Tree.{by_reference, by_value, Mode, own, Parameter, Temporary, temporary_at}
use Rattle.rx_lower_walks.specs.Matching.{Binding, PartTest}
use Rattle.rx_lower_walks.specs.Actions.{Action, Declare, declared, does, in_place, in_temporary, source_of, Subject, taking, test_of, Write, written}
use Rattle.rx_lower_walks.specs.Orders.{argument, beginning, binding, declared_parameter, declaring, Exit, Order, perhaps, testing, written_parameter}
use Rattle.rx_lower_walks.specs.Orders as order
use Rattle.rx_lower_walks.specs.Walks.{actions_in, Among, here, there}
use Rattle.rx_facts_tables.specs.Wholes.{regains}
use Rattle.rx_exits_plan.specs.Spots.{Around, with_loop, with_variables}
use Rattle.rx_exits_plan.specs.Unmarked.{is_mark}
use Rattle.rx_hoist_meant.proofs.Patterns.{among_split, none_among}
use Rattle.rx_engine_called.specs.Ended.{begun, e_act, e_ending, e_fail, e_leave, e_nothing, e_nowhere, e_or, e_otherwise, e_passes, e_then, Ends, HasNot, i_act, i_ending, i_fail, i_free, i_leave, i_loop, i_nothing, i_nowhere, i_or, i_otherwise, i_passes, i_then, Inside, l_act, l_ending, l_fail, l_free, l_leave, l_nothing, l_nowhere, l_or, l_otherwise, l_passes, l_then, Leaving}

abbrev pub and_variable : ℕ → Around → Around
and_variable y a = record { scope = y ∷ a.scope; loops = a.loops }

pub one_by_one : (y : ℕ) (ys : List ℕ) (a : Around) → with_variables (y ∷ ys) a ≡ with_variables ys (and_variable y a)
one_by_one y ys a = (λ j. record { scope = same j; loops = a.loops })
  where
    same : reverse (y ∷ ys) ++ a.scope ≡ reverse ys ++ (y ∷ a.scope)
    same = ap (λ (m : List ℕ). m ++ a.scope) (reverse_onto ys y []) ∙ append_assoc (reverse ys) (y ∷ []) a.scope

-- a number stands there twice
abbrev pub Twice : ℕ → List ℕ → Type 0
Twice l [] = ⊥
Twice l (k ∷ ks) = ((k ≡ l) × Among l ks) ⊎ Twice l ks

module _ (x : ℕ) (m : Action) (l : ℕ) (mark : is_mark m.act ≡ true) (Hides : Type 0) where
  -- where the action does not stand
  abbrev pub Lost : Around → Type 0
  Lost a = (Hides × Among x a.scope) ⊎ Twice l a.loops

  pub record Part (a : Around) (s : Order) : Type 0 where
    pub hidden : Lost a → HasNot m s
    pub ends : (Among x a.scope → ⊥) → Ends x s
    pub leaves : Among l a.loops → Leaving m l s
    pub inside : Hides → (Among l a.loops → ⊥) → (Among x a.scope → ⊥) → Inside x m l s

  pub not_mark : (b : Action) → is_mark b.act ≡ false → b ≡ m → ⊥
  not_mark b e q = clash (sym (ap (λ (c : Action). is_mark c.act) q ∙ mark) ∙ e)
    where
      clash : true ≡ false → ⊥
      clash f = cc

  -- ---- lists

  has_none : (us : List Action) → us ≡ [] → (a : Action) → Among a us → a ≡ m → ⊥
  has_none us e a i q = none_among (subst (Among a) e i)

  two_free : (us vs : List Action) → ((a : Action) → Among a us → a ≡ m → ⊥) → ((a : Action) → Among a vs → a ≡ m → ⊥) → (a : Action) → Among a (us ++ vs) → a ≡ m → ⊥
  two_free us vs f g a i q = among_split a us vs ⊥ i (λ j. f a j q) (λ j. g a j q)

  one_free : (b : Action) → (b ≡ m → ⊥) → (a : Action) → Among a (b ∷ []) → a ≡ m → ⊥
  one_free b f a i q = at i q
    where
      at : {c : Action} → Among c (b ∷ []) → c ≡ m → ⊥
      at here r = f r
      at (there j) r = none_among j

  -- ---- parts put together

  pub of_nothing : (a : Around) → Part a order.nothing
  of_nothing a = record { hidden = λ h c i q. none_among i; ends = λ n. e_nothing; leaves = λ i. l_nothing; inside = λ h f n. i_nothing }

  pub of_nowhere : (a : Around) → Part a order.nowhere
  of_nowhere a = record { hidden = λ h c i q. none_among i; ends = λ n. e_nowhere; leaves = λ i. l_nowhere; inside = λ h f n. i_nowhere }

  pub of_fail : (a : Around) → Part a order.fail
  of_fail a = record { hidden = λ h c i q. none_among i; ends = λ n. e_fail; leaves = λ i. l_fail; inside = λ h f n. i_fail }

  pub of_leave : (a : Around) (j : Exit) → Part a (order.leave j)
  of_leave a j = record { hidden = λ h c i q. none_among i; ends = λ n. e_leave; leaves = λ i. l_leave; inside = λ h f n. i_leave }

  pub of_act : (a : Around) (b : Action) → (b ≡ m → ⊥) → ((Among x a.scope → ⊥) → regains x [] b.act ≡ false) → Part a (order.act b)
  of_act a b f g = record { hidden = λ h. one_free b f; ends = λ n. e_act (g n); leaves = λ i. l_act f; inside = λ h k n. i_act f }

  -- an action that writes nothing
  pub of_plain : (a : Around) (b : Action) → is_mark b.act ≡ false → regains x [] b.act ≡ false → Part a (order.act b)
  of_plain a b e r = of_act a b (not_mark b e) (λ n. r)

  pub of_then : (a : Around) {s t : Order} → Part a s → Part a t → Part a (order.then s t)
  of_then a {s} {t} p q = record {
    hidden = λ h. two_free (actions_in s) (actions_in t) (p.hidden h) (q.hidden h);
    ends = λ n. e_then (p.ends n) (q.ends n);
    leaves = λ i. l_then (p.leaves i) (q.leaves i);
    inside = λ h f n. i_then (p.ends n) (p.inside h f n) (q.inside h f n);
  }

  pub of_or : (a : Around) {s t : Order} → Part a s → Part a t → Part a (order.or s t)
  of_or a {s} {t} p q = record {
    hidden = λ h. two_free (actions_in s) (actions_in t) (p.hidden h) (q.hidden h);
    ends = λ n. e_or (p.ends n) (q.ends n);
    leaves = λ i. l_or (p.leaves i) (q.leaves i);
    inside = λ h f n. i_or (p.inside h f n) (q.inside h f n);
  }

  pub of_otherwise : (a : Around) {s t : Order} → Part a s → Part a t → Part a (order.otherwise s t)
  of_otherwise a {s} {t} p q = record {
    hidden = λ h. two_free (actions_in s) (actions_in t) (p.hidden h) (q.hidden h);
    ends = λ n. e_otherwise (p.ends n) (q.ends n);
    leaves = λ i. l_otherwise (p.leaves i) (q.leaves i);
    inside = λ h f n. i_otherwise (p.ends n) (p.inside h f n) (q.inside h f n);
  }

  further : (k : ℕ) (a : Around) → Lost a → Lost (with_loop k a)
  further k a (inl h) = inl h
  further k a (inr h) = inr (inr h)

  pub of_passes : (a : Around) (k : ℕ) {s : Order} → Part (with_loop k a) s → Part a (order.passes k s)
  of_passes a k {s} p = record {
    hidden = λ h. p.hidden (further k a h);
    ends = λ n. e_passes (p.ends n);
    leaves = λ i. at_leave (k == l) refl i;
    inside = λ h f n. at_inside (k == l) refl h f n;
  }
    where
      other : (k == l) ≡ false → k ≡ l → ⊥
      other e q = let z = (Decides-eqb k l).1 q in clash (sym z ∙ e)
        where
          clash : true ≡ false → ⊥
          clash f = cc

      at_leave : (b : Bool) → (k == l) ≡ b → Among l a.loops → Leaving m l (order.passes k s)
      at_leave true e i = l_free (p.hidden (inr (inl ((Decides-eqb k l).0 e, i))))
      at_leave false e i = l_passes (other e) (p.leaves (there i))

      not_deeper : (k == l) ≡ false → (Among l a.loops → ⊥) → Among l (k ∷ a.loops) → ⊥
      not_deeper e f i = at i (other e)
        where
          at : {n : ℕ} → Among l (n ∷ a.loops) → (n ≡ l → ⊥) → ⊥
          at here g = g refl
          at (there j) g = f j

      at_inside : (b : Bool) → (k == l) ≡ b → Hides → (Among l a.loops → ⊥) → (Among x a.scope → ⊥) → Inside x m l (order.passes k s)
      at_inside true e h f n =
          let q : k ≡ l = (Decides-eqb k l).0 e in
          subst (λ (z : ℕ). Inside x m l (order.passes z s)) (sym q) (i_loop (p.ends n) (p.leaves (subst (λ (z : ℕ). Among l (z ∷ a.loops)) (sym q) here)))
      at_inside false e h f n = i_passes (p.ends n) (p.inside h (not_deeper e f) n)

  -- ---- variables that begin

  deeper : (y : ℕ) (a : Around) → Lost a → Lost (and_variable y a)
  deeper y a (inl h) = inl (h.0, there h.1)
  deeper y a (inr h) = inr h

  pub of_begun : (a : Around) (w : Action) (n y : ℕ) {s : Order} → (w ≡ m → ⊥) → ((y ≡ x → ⊥) → regains x [] w.act ≡ false) → Part (and_variable y a) s → Part a (order.then (order.act w) (order.ending n y s))
  of_begun a w n y {s} f g p = record {
    hidden = λ h. two_free (w ∷ []) (actions_in s) (one_free w f) (p.hidden (deeper y a h));
    ends = λ o. ends_so (y == x) refl o;
    leaves = λ i. l_then (l_act f) (l_ending (p.leaves i));
    inside = λ h k o. inside_so (y == x) refl h k o;
  }
    where
      other : (y == x) ≡ false → y ≡ x → ⊥
      other e q = let z = (Decides-eqb y x).1 q in clash (sym z ∙ e)
        where
          clash : true ≡ false → ⊥
          clash f = cc

      not_it : (y == x) ≡ false → (Among x a.scope → ⊥) → Among x (y ∷ a.scope) → ⊥
      not_it e o i = at i (other e)
        where
          at : {z : ℕ} → Among x (z ∷ a.scope) → (z ≡ x → ⊥) → ⊥
          at here k = k refl
          at (there j) k = o j

      ends_so : (b : Bool) → (y == x) ≡ b → (Among x a.scope → ⊥) → Ends x (order.then (order.act w) (order.ending n y s))
      ends_so true e o = let q : y ≡ x = (Decides-eqb y x).0 e in subst (λ (z : ℕ). Ends x (order.then (order.act w) (order.ending n z s))) (sym q) begun
      ends_so false e o = e_then (e_act (g (other e))) (e_ending (p.ends (not_it e o)))

      inside_so : (b : Bool) → (y == x) ≡ b → Hides → (Among l a.loops → ⊥) → (Among x a.scope → ⊥) → Inside x m l (order.then (order.act w) (order.ending n y s))
      inside_so true e h k o =
          let q : y ≡ x = (Decides-eqb y x).0 e in
          i_free (two_free (w ∷ []) (actions_in s) (one_free w f) (p.hidden (inl (h, subst (λ (z : ℕ). Among x (z ∷ a.scope)) (sym q) here))))
      inside_so false e h k o = i_then (e_act (g (other e))) (i_act f) (i_ending (p.inside h k (not_it e o)))

  -- a write of the whole of a variable
  writes_it : (y : ℕ) (t : Temporary) (ss : List Step) → (y ≡ x → ⊥) → regains x [] (Write (own y) t ss) ≡ false
  writes_it y t ss f = by (y == x) refl
    where
      by : (b : Bool) → (y == x) ≡ b → ((y == x) && true) ≡ false
      by true e = absurd (f ((Decides-eqb y x).0 e))
      by false e = ap (λ (b : Bool). b && true) e

  of_taking : (a : Around) (n : ℕ) (k : Mode) (S : Subject) (ss : List Step) (d : Temporary) → Part a (perhaps n (taking k S ss d))
  of_taking a n (by_reference v) S ss d = of_plain a _ refl refl
  of_taking a n (by_value v) (in_place p) ss d = of_plain a _ refl refl
  of_taking a n (by_value v) (in_temporary t) ss d = of_nothing a

  pub of_binding : (a : Around) (S : Subject) (bs : List Binding) (n : ℕ) {s : Order} → Part (with_variables (map (λ (b : Binding). b.variable) bs) a) s → Part a (binding S bs n s)
  of_binding a S [] n p = p
  of_binding a S (b ∷ bs) n {s} p =
      let q = of_binding (and_variable b.variable a) S bs n (subst (λ (z : Around). Part z s) (one_by_one b.variable (map (λ (b : Binding). b.variable) bs) a) p) in
      of_then a (of_taking a b.node b.mode S b.steps (temporary_at b.node 0)) (of_then a (of_plain a (declared b) refl refl)
      (of_begun a (written S b) n b.variable (not_mark (written S b) refl) (writes_it b.variable (source_of S b).0 (source_of S b).1) q))

  pub of_declaring : (a : Around) (k : ℕ) (ys : List ℕ) (n : ℕ) {s : Order} → Part (with_variables ys a) s → Part a (declaring k ys n s)
  of_declaring a k [] n p = p
  of_declaring a k (y ∷ ys) n {s} p =
      let q = of_declaring (and_variable y a) k ys n (subst (λ (z : Around). Part z s) (one_by_one y ys a) p) in
      of_begun a (does k (Declare y)) n y (not_mark (does k (Declare y)) refl) (λ f. refl) q

  pub of_beginning : (a : Around) (ps : List Parameter) (n : ℕ) {s : Order} → Part (with_variables (map (λ (p : Parameter). p.variable) ps) a) s → Part a (beginning ps n s)
  of_beginning a [] n p = p
  of_beginning a (y ∷ ps) n {s} p =
      let q = of_beginning (and_variable y.variable a) ps n (subst (λ (z : Around). Part z s) (one_by_one y.variable (map (λ (p : Parameter). p.variable) ps) a) p) in
      of_then a (of_plain a (declared_parameter y) refl refl) (of_begun a (written_parameter y) n y.variable (not_mark (written_parameter y) refl) (writes_it y.variable (argument y) []) q)

  pub of_testing : (a : Around) (S : Subject) (ts : List PartTest) {s : Order} → Part a s → Part a (testing S ts s)
  of_testing a S [] p = p
  of_testing a S (t ∷ ts) p = of_then a (of_plain a (test_of S t) refl refl) (of_or a (of_testing a S ts p) (of_fail a))
