-- Where an order has one action of a kind at most, walks that hold such an action hold it at one place, and go on there alike.
use Rattle.std.proofs.Common.{◌≡◌, ◌⊎◌, inl, inr, ℕ, zero, suc, ◌+◌, ◌≤◌, Bool, true, false, List, [], ◌∷◌, ◌++◌, Some, refl, sym, ap, ◌∙◌, subst, arith}
use Rattle.rx_typed.specs.Tree.{Function}
use Rattle.rx_lower_walks.specs.Actions.{Dead, Action, does}
use Rattle.rx_lower_walks.specs.Orders.{exit_node, Order, order_function}
use Rattle.rx_lower_walks.specs.Orders as order
use Rattle.rx_lower_walks.specs.Walks.{IsWalk, actions_in, Among, here, there}
use Rattle.rx_lower_walks.specs.Graph.{Site, site_at, Path}
use Rattle.rx_lower_walks.specs.Pieces.{Scope, Variable, Looped, left, graph}
use Rattle.rx_lower_walks.specs.Text.{ending_all, in_text, actions_of, Sublist, none, kept, dropped}
use Rattle.rx_lower_walks.proofs.InText.{graph_in_text}
use Rattle.rx_lower_walks.proofs.Sites.{paths_are_walks_of}
use Rattle.rx_facts_tables.specs.Along.{Arrives}
use Rattle.rx_facts_tables.proofs.Ways.{path_through, through, only}
use Rattle.rx_engine_related.specs.Tailed.{one_if, tells}

-- actions of a kind that no end of a variable is
module _ (Q : Action → Bool) (dead : (n x : ℕ) → Q (does n (Dead x)) ≡ false) where
  abbrev tally : List Action → ℕ
  tally [] = 0
  tally (a ∷ l) = one_if (Q a) + tally l

  tally_both : (l m : List Action) → tally (l ++ m) ≡ tally l + tally m
  tally_both [] m = omega arith
  tally_both (a ∷ l) m = let h = tally_both l m in omega (arith, h)

  no_end : (k x : ℕ) → one_if (Q (does k (Dead x))) ≡ 0
  no_end k x = ap one_if (dead k x)

  no_ends : (k : ℕ) (xs : List ℕ) → tally (ending_all k xs) ≡ 0
  no_ends k [] = refl
  no_ends k (x ∷ xs) = let h = no_ends k xs in let e = no_end k x in omega (arith, h, e)

  in_the_text : (scope : Scope) (s : Order) → tally (in_text scope s) ≡ tells Q s
  in_the_text scope order.nothing = refl
  in_the_text scope order.nowhere = refl
  in_the_text scope (order.act a) = omega arith
  in_the_text scope (order.then s t) = let h = in_the_text scope s in let k = in_the_text scope t in let b = tally_both (in_text scope s) (in_text scope t) in omega (arith, h, k, b)
  in_the_text scope (order.or s t) = let h = in_the_text scope s in let k = in_the_text scope t in let b = tally_both (in_text scope s) (in_text scope t) in omega (arith, h, k, b)
  in_the_text scope (order.leave x) = no_ends (exit_node x) (left x scope)
  in_the_text scope order.fail = refl
  in_the_text scope (order.otherwise s t) = let h = in_the_text scope s in let k = in_the_text scope t in let b = tally_both (in_text scope s) (in_text scope t) in omega (arith, h, k, b)
  in_the_text scope (order.ending m x s) =
      let h = in_the_text (Variable x ∷ scope) s in let b = tally_both (in_text (Variable x ∷ scope) s) (does m (Dead x) ∷ []) in let e = no_end m x in omega (arith, h, b, e)
  in_the_text scope (order.passes l s) = in_the_text (Looped l ∷ scope) s

  fewer : {l m : List Action} → Sublist l m → tally l ≤ tally m
  fewer none = omega arith
  fewer (kept h) = let k = fewer h in omega (arith, k)
  fewer (dropped {l = l} {m = m} h) = let k = fewer h in omega (arith, k)

  -- ---- in the graph

  found : (g : List Site) (i : ℕ) (s : Site) → site_at g i ≡ Some s → Q s.action ≡ true → 1 ≤ tally (actions_of g)
  found [] i s e h = absurd (cc)
  found (x ∷ g) zero s e h =
      let z : x ≡ s = cc in
      let q = ap (λ (y : Site). one_if (Q y.action)) z ∙ ap one_if h in
      omega (arith, q)
  found (x ∷ g) (suc i) s e h = let k = found g i s e h in omega (arith, k)

  at_one : (g : List Site) → tally (actions_of g) ≤ 1 → (i j : ℕ) (s t : Site) → site_at g i ≡ Some s → site_at g j ≡ Some t → Q s.action ≡ true → Q t.action ≡ true → i ≡ j
  at_one [] o i j s t e f h k = absurd (cc)
  at_one (x ∷ g) o zero zero s t e f h k = refl
  at_one (x ∷ g) o zero (suc j) s t e f h k =
      let z : x ≡ s = cc in
      let q = ap (λ (y : Site). one_if (Q y.action)) z ∙ ap one_if h in
      let m = found g j t f k in
      absurd (omega (arith, q, m, o))
  at_one (x ∷ g) o (suc i) zero s t e f h k =
      let z : x ≡ t = cc in
      let q = ap (λ (y : Site). one_if (Q y.action)) z ∙ ap one_if k in
      let m = found g i s e h in
      absurd (omega (arith, q, m, o))
  at_one (x ∷ g) o (suc i) (suc j) s t e f h k = let m = at_one g (omega (arith, o)) i j s t e f h k in omega (arith, m)

  sole : (f : Function) → tells Q (order_function f) ≤ 1 → (i j : ℕ) (s t : Site) → site_at (graph f) i ≡ Some s → site_at (graph f) j ≡ Some t → Q s.action ≡ true → Q t.action ≡ true → i ≡ j
  sole f o i j s t e g h k =
      let l = fewer (graph_in_text (order_function f)) in
      let m = in_the_text [] (order_function f) in
      at_one (graph f) (omega (arith, l, m, o)) i j s t e g h k

  -- ---- on walks

  -- the site of an action of a walk, the way to it, and the path on
  record At (f : Function) (a : Action) (w us : List Action) : Type 0 where
    pub number : ℕ
    pub site : Site
    pub is : site_at (graph f) number ≡ Some site
    pub action : site.action ≡ a
    pub way : Arrives (graph f) 0 w number
    pub rest : Path (graph f) site.next us

  at_site : (f : Function) (a : Action) (w us : List Action) → IsWalk f (w ++ a ∷ us) → At f a w us
  at_site f a w us walk =
      let t = through (graph f) (0 ∷ []) w a us (w ++ a ∷ us) refl ((paths_are_walks_of f (w ++ a ∷ us)).1 walk) in
      record { number = t.at; site = t.site; is = t.is; action = t.action; way = subst (λ n. Arrives (graph f) n w t.at) (only t.from 0 t.among) t.way; rest = t.rest }

  one_site : (a b : Site) → Some a ≡ Some b → a ≡ b
  one_site a b h = cc

  -- behind the one, whichever it is, a walk may go on as any other does
  pub goes_on_as : (f : Function) → tells Q (order_function f) ≤ 1 → (a b : Action) → Q a ≡ true → Q b ≡ true → (w v us : List Action) → IsWalk f (w ++ a ∷ us) → IsWalk f (v ++ b ∷ []) → IsWalk f (v ++ b ∷ us)
  goes_on_as f o a b qa qb w v us h k =
      let x = at_site f a w us h in
      let y = at_site f b v [] k in
      let q : x.number ≡ y.number = sole f o x.number y.number x.site y.site x.is y.is (ap Q x.action ∙ qa) (ap Q y.action ∙ qb) in
      let s : x.site ≡ y.site = one_site x.site y.site (sym x.is ∙ ap (λ n. site_at (graph f) n) q ∙ y.is) in
      subst (λ c. IsWalk f (v ++ c ∷ us)) y.action
      ((paths_are_walks_of f (v ++ y.site.action ∷ us)).0 (path_through (graph f) 0 y.number v us y.site y.way y.is (subst (λ (z : Site). Path (graph f) z.next us) s x.rest)))

  -- ---- an action of an order is told of

  in_both : (a : Action) (l m : List Action) → Among a (l ++ m) → Among a l ⊎ Among a m
  in_both a [] m i = inr i
  in_both a (_ ∷ l) m here = inl here
  in_both a (b ∷ l) m (there i) = by (in_both a l m i)
    where
      by : Among a l ⊎ Among a m → Among a (b ∷ l) ⊎ Among a m
      by (inl k) = inl (there k)
      by (inr k) = inr k

  either_told : (s t : Order) {X Y : Type 0} → (X → 1 ≤ tells Q s) → (Y → 1 ≤ tells Q t) → X ⊎ Y → 1 ≤ tells Q s + tells Q t
  either_told s t f g (inl k) = let x = f k in omega (arith, x)
  either_told s t f g (inr k) = let x = g k in omega (arith, x)

  pub is_told : (s : Order) (a : Action) → Among a (actions_in s) → Q a ≡ true → 1 ≤ tells Q s
  is_told (order.act b) _ here e = let q = ap one_if e in omega (arith, q)
  is_told (order.act b) a (there i) e = elim i [ ]
  is_told (order.then s t) a i e = either_told s t (λ k. is_told s a k e) (λ k. is_told t a k e) (in_both a (actions_in s) (actions_in t) i)
  is_told (order.or s t) a i e = either_told s t (λ k. is_told s a k e) (λ k. is_told t a k e) (in_both a (actions_in s) (actions_in t) i)
  is_told (order.otherwise s t) a i e = either_told s t (λ k. is_told s a k e) (λ k. is_told t a k e) (in_both a (actions_in s) (actions_in t) i)
  is_told (order.ending n x s) a i e = is_told s a i e
  is_told (order.passes l s) a i e = is_told s a i e
  is_told order.nothing a i e = elim i [ ]
  is_told order.nowhere a i e = elim i [ ]
  is_told (order.leave x) a i e = elim i [ ]
  is_told order.fail a i e = elim i [ ]
