-- Patterns, new variables and parameters do alike, and what follows them: one binding, test or variable at a time.
use Rattle.std.proofs.Common.{◌≡◌, ℕ, ◌≤◌, nat_eq, List, [], ◌∷◌, length, Option, Some, None, refl, sym, ap, ◌∙◌, subst, le_refl, if◌then◌else◌}
use Rattle.rx_typed.specs.Tree.{Parameter, own}
use Rattle.rx_lower_walks.specs.Matching.{PartTest, Binding}
use Rattle.rx_lower_walks.specs.Actions.{Act, Declare, Test, Action, does, Subject, part, test_of, taken, declared, written, source_of}
use Rattle.rx_lower_walks.specs.Orders as order
use Rattle.rx_lower_walks.specs.Orders.{Order, argument, perhaps, binding, declaring, testing, beginning, declared_parameter, written_parameter}
use Rattle.rx_meaning.specs.Values.{Value, State, with_variable}
use Rattle.rx_meaning.specs.Results.{Result, bind}
use Rattle.rx_meaning.specs.Acting.{performed, plainly}
use Rattle.rx_meaning.specs.Patterns.{decided, tested, took, bound, begun}
use Rattle.rx_meaning.specs.Expressions.{with_arguments}
use Rattle.rx_engine_simulation.proofs.Told.{Told, followed}
use Rattle.rx_engine_simulation.proofs.Values.{Pair, pair, More, Given, AllGiven, none_given, more_given, all_more, given_more}
use Rattle.rx_engine_simulation.proofs.States.{Direction, Facts, How, plain, special, Sight, sight, Renaming, sight_of, Frozen, Grown}
use Rattle.rx_engine_simulation.proofs.Declaring.{IsNew, eq_self, ne_false, states_plain, grown_plain, states_special, grown_special}
use Rattle.rx_engine_simulation.proofs.Results.{Jumping, both_on, both_stop, DoAlike, alike_bind, alike_bind_at}
use Rattle.rx_engine_simulation.proofs.Spots.{no_steps, writing, LikePlace, direct}
use Rattle.rx_engine_simulation.proofs.Acts.{read_alike, test_alike}
use Rattle.rx_engine_simulation.proofs.Borrows.{borrow_alike}
use Rattle.rx_engine_simulation.proofs.Writes.{write_alike, write_all_alike}
use Rattle.rx_engine_simulation.proofs.Positions.{Failed, acted_one, fails_now, fails_later, next_at, one_at, scope_at, act_walk, took_walk}
use Rattle.rx_engine_simulation.proofs.Parts.{Ready, go_on, stay, alike_drop, alike_closed, declared_then, decided_alike}
pub use Rattle.rx_engine_simulation.specs.Binders.{NewHow, new_plain, new_special, LikeDeclared, none_new, new_and, LikeParams, no_param, param_and, LikeTaken, takes_none, takes_read, takes_borrow, LikeBindings, no_binding, binding_and, LikeTests, no_test, test_and}

if_self : (x : ℕ) (e : Sight) (o : Option Sight) → (if nat_eq x x then Some e else o) ≡ Some e
if_self x e o = ap (λ b. if b then Some e else o) (eq_self x)

pub seen_new : (x : ℕ) (e : Sight) (R : Renaming) → sight_of ((x, e) ∷ R) x ≡ Some e
seen_new x e R = if_self x e (sight_of R x)

pub own_like : (V : Facts) (R : Renaming) (x y : ℕ) (w : How) → NewHow V x w → LikePlace ((x, sight y w) ∷ R) writing (own x) (own y)
own_like V R x y w (new_plain k n) = direct (plain k) (seen_new x _ R) tt (λ o. tt, tt) no_steps
own_like V R x y w (new_special k) = direct special (seen_new x _ R) tt (λ o. tt, tt) no_steps

-- both with a new variable
pub record Newly (V : Facts) (d : Direction) (Ra : Renaming) (Z Z' : Frozen) (c m n : ℕ) (h1 : List Action) (j : List Pair) (s s' t t' : State) : Type 0 where
  pub pairs : List Pair
  pub ready : Ready V d Ra Z Z' c m n h1 pairs t t'
  pub grown : Grown j s s' pairs t t'

none_is : {A : Type 0} {a : A} → None ≡ Some a → ⊥
none_is e = cc

pub unanchored : (Z : Frozen) (R : Renaming) (x : ℕ) → sight_of R x ≡ None → ((x i : ℕ) → Z.anchored x i → (e : Sight) × (sight_of R x ≡ Some e)) → (i : ℕ) → Z.anchored x i → ⊥
unanchored Z R x none known i k = let a = known x i k in none_is (sym none ∙ a.1)

pub known_on : (Z : Frozen) (R : Renaming) (x : ℕ) (e : Sight) → sight_of R x ≡ None → ((x i : ℕ) → Z.anchored x i → (e : Sight) × (sight_of R x ≡ Some e)) → (z i : ℕ) → Z.anchored z i → (f : Sight) × (sight_of ((x, e) ∷ R) z ≡ Some f)
known_on Z R x e none known z i k =
    let a = known z i k in
    (a.0, ap (λ b. if b then Some e else sight_of R z) (ne_false x z (λ f. none_is (sym none ∙ ap (λ z. sight_of R z) (sym f) ∙ a.1))) ∙ a.1)

pub newly : (V : Facts) (d : Direction) (R : Renaming) (Z Z' : Frozen) (c m n k x y : ℕ) (w : How) (h : List Action) (j : List Pair) (s s' : State) → NewHow V x w → sight_of R x ≡ None → IsNew R y → Ready V d R Z Z' c m n h j s s'
    → Newly V d ((x, sight y w) ∷ R) Z Z' c m n (does k (Declare x) ∷ h) j s s' (with_variable x s) (with_variable y s')
newly V d R Z Z' c m n k x y w h j s s' (new_plain b l) none u r = record {
  pairs = pair (length s.memory) (length s'.memory) b ∷ j;
  ready = record { inv = states_plain V R Z Z' k x y h j s s' r.inv u (unanchored Z R x none r.known) b l; turns = r.turns; low = r.low; low' = r.low'; known = known_on Z R x (sight y (plain b)) none r.known };
  grown = grown_plain V R Z Z' k x y h j s s' r.inv u (unanchored Z R x none r.known) b l;
}
newly V d R Z Z' c m n k x y w h j s s' (new_special i) none u r = record {
  pairs = j;
  ready = record { inv = states_special V R Z Z' k x y h j s s' r.inv u (unanchored Z R x none r.known) i; turns = r.turns; low = r.low; low' = r.low'; known = known_on Z R x (sight y special) none r.known };
  grown = grown_special V R Z Z' k x y h j s s' r.inv u (unanchored Z R x none r.known) i;
}

-- what follows, from wherever both come to where the text has this left
abbrev pub Follow : Facts → Direction → Renaming → Frozen → Frozen → Jumping → ℕ → ℕ → ℕ → ℕ → Order → (State → Result (Told ℕ) Value) → (State → Result ℕ Value) → Type 0
Follow V d R Z Z' J c e m n o go go' = (h : List Action) (j : List Pair) (s s' : State) → Ready V d R Z Z' c m n h j s s' → V.Comes o h → DoAlike V d R Z Z' J Given e h j s s' (go s) (go' s')

module _ (V : Facts) (d : Direction) (Z Z' : Frozen) (J : Jumping) (c e m n : ℕ) (le : e ≤ c) where
  pub begun_alike : {R Ra : Renaming} {xs ys : List ℕ} → LikeDeclared V R xs ys Ra → (i i' b b' : ℕ) (o : Order) (go : State → Result (Told ℕ) Value) (go' : State → Result ℕ Value) → Follow V d Ra Z Z' J c e m n o go go'
      → Follow V d R Z Z' J c e m n (declaring i xs b o) (λ s. begun followed i xs b go s) (λ s. begun plainly i' ys b' go' s)
  unfolding begun
  begun_alike none_new i i' b b' o go go' k h j s s' r at = k h j s s' r at
  begun_alike {R} (new_and {x = x} {y = y} {xs = xs} {ys = ys} w f none u l) i i' b b' o go go' k h j s s' r at =
      let a = newly V d R Z Z' c m n i x y w h j s s' f none u r in
      declared_then V d R Z Z' J Given e h j a.pairs s s' i i' x y _ _ a.grown
      (alike_drop V d R Z Z' J Given e _ a.pairs _ _ x (sight y w) _ _ none (alike_closed V d ((x, sight y w) ∷ R) Z Z' J Given e _ a.pairs _ _ b b' x y _ _
      (begun_alike l i i' b b' o go go' k _ a.pairs _ _ a.ready (scope_at V (next_at V at (acted_one (does i (Declare x)) h))))))

  pub took_alike : {R : Renaming} {o o' : Option Act} → LikeTaken R o o' → (k k' : ℕ) (vs vs' : List Value) (h : List Action) (j : List Pair) (s s' : State) → AllGiven j vs vs' → Ready V d R Z Z' c m n h j s s' → DoAlike V d R Z Z' J AllGiven c h j s s' (took followed k o vs s) (took plainly k' o' vs' s')
  unfolding took
  took_alike {R} takes_none k k' vs vs' h j s s' g r = λ good. both_on j refl g (stay V d R Z Z' r)
  took_alike {R} (takes_read {v = v} {v' = v'} {p = p} {p' = p'} {t = t} {t' = t'} l) k k' vs vs' h j s s' g r =
      alike_bind V d R Z Z' J Given AllGiven c c h j s s' _ _ _ _ (le_refl c) (read_alike V d R Z Z' J c h j s s' r.inv r.turns k k' v v' p p' t t' vs vs' l g) (λ h1 j1 a b t t' q w good. both_on j1 refl (more_given q none_given) (stay V d R Z Z' (go_on V d R Z Z' r w)))
  took_alike {R} (takes_borrow {k = i} {p = p} {p' = p'} {t = t} {t' = t'} l) k k' vs vs' h j s s' g r =
      alike_bind V d R Z Z' J Given AllGiven c c h j s s' _ _ _ _ (le_refl c) (borrow_alike V d R Z Z' J c h j s s' r.inv r.turns k k' i p p' t t' vs vs' l g) (λ h1 j1 a b t t' q w good. both_on j1 refl (more_given q none_given) (stay V d R Z Z' (go_on V d R Z Z' r w)))

  pub bound_alike : {S S' : Subject} {R Ra : Renaming} {bs bs' : List Binding} → LikeBindings V S S' R bs bs' Ra → (b b' : ℕ) (o : Order) (go : State → Result (Told ℕ) Value) (go' : State → Result ℕ Value) → Follow V d Ra Z Z' J c e m n o go go'
      → (vs vs' : List Value) (h : List Action) (j : List Pair) (s s' : State) → AllGiven j vs vs' → Ready V d R Z Z' c m n h j s s' → V.Comes (binding S bs b o) h
      → DoAlike V d R Z Z' J Given e h j s s' (bound followed S vs bs b go s) (bound plainly S' vs' bs' b' go' s')
  unfolding bound
  bound_alike no_binding b b' o go go' k vs vs' h j s s' g r at = k h j s s' r at
  bound_alike {S} {S'} {R} (binding_and {b = a} {b' = a'} {bs = bs} {bs' = bs'} w l way f none u rest) b b' o go go' k vs vs' h j s s' g r at =
      alike_bind_at V d R Z Z' J AllGiven Given c e h j s s' _ _ _ _ le (perhaps a.node (taken S a)) (took_walk a.node (taken S a) vs s) (took_alike l a.node a'.node vs vs' h j s s' g r) (λ h1 j1 ws ws' t t' k1 q z.
      let r1 = go_on V d R Z Z' r z in
      let fresh = newly V d R Z Z' c m n a.node a.variable a'.variable w h1 j1 t t' f none u r1 in
      let g1 = all_more z.grown.more g in
      let at1 = next_at V (next_at V at k1) (acted_one (declared a) h1) in
      let Rb = (a.variable, sight a'.variable w) ∷ R in
      declared_then V d R Z Z' J Given e h1 j1 fresh.pairs t t' a.node a'.node a.variable a'.variable _ _ fresh.grown
      (alike_drop V d R Z Z' J Given e _ fresh.pairs _ _ a.variable (sight a'.variable w) _ _ none
      (alike_bind_at V d Rb Z Z' J Given Given c e _ fresh.pairs _ _ _ _ _ _ le (order.act (written S a)) (act_walk (written S a) ws (with_variable a.variable t))
      (write_all_alike V d Rb Z Z' J c _ fresh.pairs _ _ fresh.ready.inv fresh.ready.turns a.node a'.node (source_of S a).0 (source_of S' a').0 (source_of S a).1 (source_of S' a').1 (own a.variable) (own a'.variable) (own_like V R a.variable a'.variable w f) way ws ws' (all_more fresh.grown.more q)) (λ h2 j2 v v' t2 t2' k2 q2 z2.
      alike_closed V d Rb Z Z' J Given e h2 j2 t2 t2' b b' a.variable a'.variable _ _
      (bound_alike rest b b' o go go' k vs vs' h2 j2 t2 t2' (all_more z2.grown.more (all_more fresh.grown.more g1)) (go_on V d Rb Z Z' fresh.ready z2) (scope_at V (next_at V at1 k2)))))))

  pub tested_alike : {S S' : Subject} {R : Renaming} {ts ts' : List PartTest} → LikeTests R S S' ts ts' → (o : Order) (go other : State → Result (Told ℕ) Value) (go' other' : State → Result ℕ Value) → (vs vs' : List Value) (h : List Action) (j : List Pair) (s s' : State) → AllGiven j vs vs' → Ready V d R Z Z' c m n h j s s' → V.Comes (testing S ts o) h
      → ((h1 : List Action) (j1 : List Pair) (t t' : State) → More j j1 → Ready V d R Z Z' c m n h1 j1 t t' → V.Comes o h1 → DoAlike V d R Z Z' J Given e h1 j1 t t' (go t) (go' t'))
      → ((h1 : List Action) (j1 : List Pair) (t t' : State) → More j j1 → Ready V d R Z Z' c m n h1 j1 t t' → Failed (testing S ts o) h h1 → DoAlike V d R Z Z' J Given e h1 j1 t t' (other t) (other' t'))
      → DoAlike V d R Z Z' J Given e h j s s' (tested followed S vs ts go other s) (tested plainly S' vs' ts' go' other' s')
  unfolding tested
  tested_alike no_test o go other go' other' vs vs' h j s s' g r at k l = k h j s s' (λ p i. i) r at
  tested_alike {S} {S'} {R} (test_and {t = t0} {t' = t0'} {ts = ts} {ts' = ts'} p same rest) o go other go' other' vs vs' h j s s' g r at k l =
      subst (λ x. DoAlike V d R Z Z' J Given e h j s s' (tested followed S vs (t0 ∷ ts) go other s) (bind (performed plainly (does t0'.node (Test (part S' t0'.steps) x)) vs' s') (λ v s1. decided v (λ s2. tested plainly S' vs' ts' go' other' s2) other' s1))) same
      (alike_bind_at V d R Z Z' J Given Given c e h j s s' _ _ _ _ le (order.act (test_of S t0)) (act_walk (test_of S t0) vs s) (test_alike V d R Z Z' J c h j s s' r.inv r.turns t0.node t0'.node t0.check (part S t0.steps) (part S' t0'.steps) vs vs' p g) (λ h1 j1 v v' t t' k1 q z.
      let r1 = go_on V d R Z Z' r z in
      decided_alike V d R Z Z' J Given e h1 j1 t t' v v' _ _ _ _ q.0
      (tested_alike rest o go other go' other' vs vs' h1 j1 t t' (all_more z.grown.more g) r1 (one_at V (next_at V at k1)) (λ h2 j2 u u' f. k h2 j2 u u' (λ p i. f p (z.grown.more p i)))
      (λ h2 j2 u u' f r2 x. l h2 j2 u u' (λ p i. f p (z.grown.more p i)) r2 (fails_later k1 x)))
      (l h1 j1 t t' z.grown.more r1 (fails_now k1))))

  pub arguments_alike : {R Ra : Renaming} {ps qs : List Parameter} → LikeParams V R ps qs Ra → (b b' : ℕ) (o : Order) (go : State → Result (Told ℕ) Value) (go' : State → Result ℕ Value) → Follow V d Ra Z Z' J c e m n o go go'
      → (vs vs' : List Value) (h : List Action) (j : List Pair) (s s' : State) → AllGiven j vs vs' → Ready V d R Z Z' c m n h j s s' → V.Comes (beginning ps b o) h
      → DoAlike V d R Z Z' J Given e h j s s' (with_arguments followed ps b vs go s) (with_arguments plainly qs b' vs' go' s')
  unfolding with_arguments
  arguments_alike no_param b b' o go go' k vs vs' h j s s' none_given r at = k h j s s' r at
  arguments_alike no_param b b' o go go' k vs vs' h j s s' (more_given g gs) r at = λ good. both_stop refl refl
  arguments_alike (param_and w f none u l) b b' o go go' k vs vs' h j s s' none_given r at = λ good. both_stop refl refl
  arguments_alike {R} (param_and {p = p} {q = q} w f none u l) b b' o go go' k vs vs' h j s s' (more_given {v = v} {w = v'} {vs = us} {ws = us'} g gs) r at =
      let fresh = newly V d R Z Z' c m n p.node p.variable q.variable w h j s s' f none u r in
      let at1 = next_at V at (acted_one (declared_parameter p) h) in
      let Rb = (p.variable, sight q.variable w) ∷ R in
      declared_then V d R Z Z' J Given e h j fresh.pairs s s' p.node q.node p.variable q.variable _ _ fresh.grown
      (alike_drop V d R Z Z' J Given e _ fresh.pairs _ _ p.variable (sight q.variable w) _ _ none
      (alike_bind_at V d Rb Z Z' J Given Given c e _ fresh.pairs _ _ _ _ _ _ le (order.act (written_parameter p)) (act_walk (written_parameter p) (v ∷ []) (with_variable p.variable s))
      (write_alike V d Rb Z Z' J c _ fresh.pairs _ _ fresh.ready.inv fresh.ready.turns p.node q.node (argument p) (argument q) [] [] (own p.variable) (own q.variable) (own_like V R p.variable q.variable w f) no_steps v v' (given_more fresh.grown.more g)) (λ h2 j2 x x' t2 t2' k2 q2 z2.
      alike_closed V d Rb Z Z' J Given e h2 j2 t2 t2' b b' p.variable q.variable _ _ (arguments_alike l b b' o go go' k us us' h2 j2 t2 t2' (all_more z2.grown.more (all_more fresh.grown.more gs)) (go_on V d Rb Z Z' fresh.ready z2) (scope_at V (next_at V at1 k2))))))
