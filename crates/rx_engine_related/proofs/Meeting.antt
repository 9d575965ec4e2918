-- Walks of an order, behind marks of one exit: a walk that holds the mark holds it in one part, and goes on behind that part as any other
-- that leaves it so; so where the jumps of a loop's pass lead to one place, those of the order do.
use Rattle.std.proofs.Common.{◌≡◌, ◌⊎◌, inl, inr, ℕ, zero, suc, ◌+◌, ◌≤◌, ◌==◌, Bool, true, false, List, [], ◌∷◌, ◌++◌, refl, sym, ap, ◌∙◌, subst, true≢false, append-nil, append_assoc, arith}
use Rattle.std.proofs.lemmas.Bool.Decides.{Decides-eqb}
use Rattle.rx_lower_walks.specs.Actions.{Dead, Action, does}
use Rattle.rx_lower_walks.specs.Orders.{Exit, breaks, continues, exit, exit_node, Order}
use Rattle.rx_lower_walks.specs.Orders as order
use Rattle.rx_lower_walks.specs.Walks.{Out, on, leaves, fails, stopped, IsAway, Passed, by_end, by_continue, Left, by_break, by_outer_break, by_outer_continue, by_return, by_stop, Walk, rests, stops, nothing, acts, both, first, one, other, leave, fail, holds, next, ends, jumps, halts, last, more}
use Rattle.rx_lower_walks.proofs.WalksFronts.{fronts}
use Rattle.rx_exits_plan.specs.Unmarked.{is_mark}
use Rattle.rx_engine_related.specs.OnePlace.{MeetInOne, alike, ends_in_one, ends_in_other}

-- ---- lists

pub data AreEnds : List Action → Type 0 where
  none : AreEnds []
  and : {n x : ℕ} {us : List Action} → AreEnds us → AreEnds (does n (Dead x) ∷ us)

ends_both : {us vs : List Action} → AreEnds us → AreEnds vs → AreEnds (us ++ vs)
ends_both none k = k
ends_both (and h) k = and (ends_both h k)

meets_behind : {us vs : List Action} → MeetInOne us vs → (w : List Action) → MeetInOne (us ++ w) (vs ++ w)
meets_behind alike w = alike
meets_behind (ends_in_one h) w = ends_in_one (meets_behind h w)
meets_behind (ends_in_other h) w = ends_in_other (meets_behind h w)

meets_ends : {us vs : List Action} → AreEnds us → AreEnds vs → (w : List Action) → MeetInOne (us ++ w) (vs ++ w)
meets_ends none none w = alike
meets_ends none (and k) w = ends_in_other (meets_ends none k w)
meets_ends (and h) k w = ends_in_one (meets_ends h k w)

pub meets_none : {us : List Action} → AreEnds us → MeetInOne us []
meets_none none = alike
meets_none (and h) = ends_in_one (meets_none h)

-- where an action stands in a list of two pieces
abbrev Cut : Action → List Action → List Action → List Action → List Action → Type 0
Cut a us vs w rest = ((r : List Action) × (us ≡ w ++ a ∷ r) × (rest ≡ r ++ vs)) ⊎ ((k : List Action) × (w ≡ us ++ k) × (vs ≡ k ++ a ∷ rest))

cut : (a : Action) (us vs w rest : List Action) → us ++ vs ≡ w ++ a ∷ rest → Cut a us vs w rest
cut a [] vs w rest e = inr (w, refl, e)
cut a (u ∷ us) vs [] rest e = inl (us, cc, cc)
cut a (u ∷ us) vs (x ∷ w) rest e = by (cut a us vs w rest (cc))
  where
    by : Cut a us vs w rest → Cut a (u ∷ us) vs (x ∷ w) rest
    by (inl (r, h, k)) = inl (r, cc, k)
    by (inr (k, h, g)) = inr (k, cc, g)

pub not_empty : (a : Action) (w rest : List Action) → [] ≡ w ++ a ∷ rest → ⊥
not_empty a [] rest e = absurd (cc)
not_empty a (x ∷ w) rest e = absurd (cc)

only_one : (a b : Action) (w rest : List Action) → b ∷ [] ≡ w ++ a ∷ rest → b ≡ a
only_one a b [] rest e = cc
only_one a b (x ∷ w) rest e = absurd (tail_of (cc))
  where
    tail_of : [] ≡ w ++ a ∷ rest → ⊥
    tail_of h = not_empty a w rest h

-- ---- outs

-- of passes that end alike but for the node of their jump
pub data PassAlike (k : ℕ) : Out → Out → Type 0 where
  same : {o : Out} → PassAlike k o o
  both_break : (n m : ℕ) → PassAlike k (leaves (breaks n k)) (leaves (breaks m k))
  both_continue : (n m : ℕ) → PassAlike k (leaves (continues n k)) (leaves (continues m k))

same_left : {k : ℕ} {o p r : Out} → PassAlike k o p → Left k o r → Left k p r
same_left same g = g
same_left (both_break n m) (by_break e) = by_break refl
same_left (both_break n m) (by_outer_break ne) = absurd (ne refl)
same_left (both_continue n m) (by_outer_continue ne) = absurd (ne refl)

same_passed : {k : ℕ} {o p : Out} → PassAlike k o p → Passed k o → Passed k p
same_passed same g = g
same_passed (both_break n m) g = elim g [ ]
same_passed (both_continue n m) (by_continue e) = by_continue refl

-- this action, a mark, and the jumps behind it
module _ (a : Action) (is : is_mark a.act ≡ true) (l : ℕ) (again : Bool) where
  not_dead : (n x : ℕ) → does n (Dead x) ≡ a → ⊥
  not_dead n x e = absurd (contrary (ap (λ (b : Action). is_mark b.act) e ∙ is))
    where
      contrary : false ≡ true → ⊥
      contrary q = cc

  -- it stops, or is left by such a jump
  abbrev pub Goes : Out → Type 0
  Goes o = (o ≡ stopped) ⊎ ((n : ℕ) × (o ≡ leaves (exit n l again)))

  on_stays : Goes on → ⊥
  on_stays (inl e) = absurd (cc)
  on_stays (inr (n, e)) = absurd (cc)

  fails_stays : Goes fails → ⊥
  fails_stays (inl e) = absurd (cc)
  fails_stays (inr (n, e)) = absurd (cc)

  pub record Leaving (q : Order) (front x : List Action) (n : ℕ) : Type 0 where
    pub list : List Action
    pub are : AreEnds list
    pub walk : Walk q (front ++ (x ++ list)) (leaves (exit n l again))

  -- ---- a walk that holds it, in a part

  pub record Focus (Front : List Action → Type 0) (s q : Order) (w us : List Action) (o : Out) : Type 0 where
    pub front : List Action
    pub inner : List Action
    pub later : List Action
    pub rest : List Action
    pub out : Out
    pub is_front : Front front
    pub walk : Walk s (inner ++ a ∷ later) out
    pub before : w ≡ front ++ inner
    pub behind : us ≡ later ++ rest
    -- behind any front, a walk of the part that ends so goes on
    pub goes : (f x : List Action) → Front f → Walk s x out → Walk q (f ++ (x ++ rest)) o
    pub gone : Goes out → AreEnds rest × Goes o
    pub left : (n : ℕ) (x : List Action) → Walk s x (leaves (exit n l again)) → Leaving q front x n

  abbrev pub Empty : List Action → Type 0
  Empty f = f ≡ []

  -- nothing in front of the part
  at_front : {s q : Order} {w us : List Action} {o : Out} (later rest : List Action) (out : Out) → Walk s (w ++ a ∷ later) out → us ≡ later ++ rest
      → ((x : List Action) → Walk s x out → Walk q (x ++ rest) o) → (Goes out → AreEnds rest × Goes o) → ((n : ℕ) (x : List Action) → Walk s x (leaves (exit n l again)) → Leaving q [] x n) → Focus Empty s q w us o
  at_front {q = q} {w = w} {o = o} later rest out h e f g k = record {
    front = [];
    inner = w;
    later = later;
    rest = rest;
    out = out;
    is_front = refl;
    walk = h;
    before = refl;
    behind = e;
    goes = λ d x i y. subst (λ z. Walk q (z ++ (x ++ rest)) o) (sym i) (f x y);
    gone = g;
    left = k;
  }

  no_ends : {q : Order} (front x : List Action) (n : ℕ) → Walk q (front ++ x) (leaves (exit n l again)) → Leaving q front x n
  no_ends {q = q} front x n h = record { list = []; are = none; walk = subst (λ z. Walk q (front ++ z) (leaves (exit n l again))) (sym (append-nil x)) h }

  -- nor behind it
  whole : {s q : Order} {w us : List Action} {o : Out} → Walk s (w ++ a ∷ us) o → ((x : List Action) → Walk s x o → Walk q x o) → ((n : ℕ) (x : List Action) → Walk s x (leaves (exit n l again)) → Walk q x (leaves (exit n l again))) → Focus Empty s q w us o
  whole {q = q} {us = us} {o = o} h f k = at_front us [] o h (sym (append-nil us)) (λ x y. subst (λ z. Walk q z o) (sym (append-nil x)) (f x y)) (λ g. (none, g)) (λ n x y. no_ends [] x n (k n x y))

  -- the part is the last
  at_end : {Front : List Action → Type 0} {s q : Order} {us : List Action} {o : Out} (w front inner : List Action) → Front front → Walk s (inner ++ a ∷ us) o → w ≡ front ++ inner
      → ((f x : List Action) (p : Out) → Front f → Walk s x p → Walk q (f ++ x) p) → Focus Front s q w us o
  at_end {q = q} {us = us} {o = o} w front inner i h e f = record {
    front = front;
    inner = inner;
    later = us;
    rest = [];
    out = o;
    is_front = i;
    walk = h;
    before = e;
    behind = sym (append-nil us);
    goes = λ d x c y. subst (λ z. Walk q (d ++ z) o) (sym (append-nil x)) (f d x o c y);
    gone = λ g. (none, g);
    left = λ n x y. no_ends front x n (f front x (leaves (exit n l again)) i y);
  }

  halted : {Front : List Action → Type 0} {s q : Order} {w us : List Action} {o : Out} → Focus Front s q w us o → Focus Front s q w us stopped
  halted z = record {
    front = z.front;
    inner = z.inner;
    later = z.later;
    rest = z.rest;
    out = z.out;
    is_front = z.is_front;
    walk = z.walk;
    before = z.before;
    behind = z.behind;
    goes = λ f x i y. stops (z.goes f x i y);
    gone = λ g. ((z.gone g).0, inl refl);
    left = z.left;
  }

  abbrev pub Either : (F K : List Action → Type 0) (s t q : Order) (w us : List Action) (o : Out) → Type 0
  Either F K s t q w us o = Focus F s q w us o ⊎ Focus K t q w us o

  halted_either : {F K : List Action → Type 0} {s t q : Order} {w us : List Action} {o : Out} → Either F K s t q w us o → Either F K s t q w us stopped
  halted_either (inl z) = inl (halted z)
  halted_either (inr z) = inr (halted z)

  -- ---- form by form

  pub in_then : {s t : Order} {u : List Action} {o : Out} → Walk (order.then s t) u o → (w us : List Action) → u ≡ w ++ a ∷ us → Either Empty (λ f. Walk s f on) s t (order.then s t) w us o
  in_then rests w us e = absurd (not_empty a w us e)
  in_then (stops h) w us e = halted_either (in_then h w us e)
  in_then {s = s} {t = t} {o = o} (both {us = u} {vs = v} h k) w us e = by (cut a u v w us e)
    where
      by : Cut a u v w us → Either Empty (λ f. Walk s f on) s t (order.then s t) w us o
      by (inl (r, i, j)) = inl (at_front r v on (subst (λ z. Walk s z on) i h) j (λ x y. both y k) (λ g. absurd (on_stays g)) (λ n x y. no_ends [] x n (first tt y)))
      by (inr (x, i, j)) = inr (at_end w u x h (subst (λ z. Walk t z o) j k) i (λ f z p c y. both c y))
  in_then {s = s} {o = o} (first g h) w us e = inl (whole (subst (λ z. Walk s z o) e h) (λ x y. first g y) (λ n x y. first tt y))

  pub in_or : {s t : Order} {u : List Action} {o : Out} → Walk (order.or s t) u o → (w us : List Action) → u ≡ w ++ a ∷ us → Either Empty Empty s t (order.or s t) w us o
  in_or rests w us e = absurd (not_empty a w us e)
  in_or (stops h) w us e = halted_either (in_or h w us e)
  in_or {s = s} {o = o} (one h) w us e = inl (whole (subst (λ z. Walk s z o) e h) (λ x y. one y) (λ n x y. one y))
  in_or {t = t} {o = o} (other h) w us e = inr (whole (subst (λ z. Walk t z o) e h) (λ x y. other y) (λ n x y. other y))

  pub in_otherwise : {s t : Order} {u : List Action} {o : Out} → Walk (order.otherwise s t) u o → (w us : List Action) → u ≡ w ++ a ∷ us → Either Empty (λ f. Walk s f fails) s t (order.otherwise s t) w us o
  in_otherwise rests w us e = absurd (not_empty a w us e)
  in_otherwise (stops h) w us e = halted_either (in_otherwise h w us e)
  in_otherwise {s = s} {t = t} {o = o} (next {us = u} {vs = v} h k) w us e = by (cut a u v w us e)
    where
      by : Cut a u v w us → Either Empty (λ f. Walk s f fails) s t (order.otherwise s t) w us o
      by (inl (r, i, j)) = inl (at_front r v fails (subst (λ z. Walk s z fails) i h) j (λ x y. next y k) (λ g. absurd (fails_stays g)) (λ n x y. no_ends [] x n (holds tt y)))
      by (inr (x, i, j)) = inr (at_end w u x h (subst (λ z. Walk t z o) j k) i (λ f z p c y. next c y))
  in_otherwise {s = s} {o = o} (holds g h) w us e = inl (whole (subst (λ z. Walk s z o) e h) (λ x y. holds g y) (λ n x y. holds tt y))

  pub in_ending : {n x : ℕ} {s : Order} {u : List Action} {o : Out} → Walk (order.ending n x s) u o → (w us : List Action) → u ≡ w ++ a ∷ us → Focus Empty s (order.ending n x s) w us o
  in_ending rests w us e = absurd (not_empty a w us e)
  in_ending (stops h) w us e = halted (in_ending h w us e)
  in_ending {n = n} {x = x} {s = s} (ends {us = u} h) w us e = by (cut a u (does n (Dead x) ∷ []) w us e)
    where
      by : Cut a u (does n (Dead x) ∷ []) w us → Focus Empty s (order.ending n x s) w us on
      by (inl (r, i, j)) = at_front r (does n (Dead x) ∷ []) on (subst (λ z. Walk s z on) i h) j (λ z y. ends y) (λ g. absurd (on_stays g))
          (λ m z y. record { list = does (exit_node (exit m l again)) (Dead x) ∷ []; are = and none; walk = jumps y })
      by (inr (y, i, j)) = absurd (not_dead n x (only_one a (does n (Dead x)) y us j))
  in_ending {n = n} {x = x} {s = s} (jumps {us = u} {j = q} h) w us e = by (cut a u (does (exit_node q) (Dead x) ∷ []) w us e)
    where
      by : Cut a u (does (exit_node q) (Dead x) ∷ []) w us → Focus Empty s (order.ending n x s) w us (leaves q)
      by (inl (r, i, j)) = at_front r (does (exit_node q) (Dead x) ∷ []) (leaves q) (subst (λ z. Walk s z (leaves q)) i h) j (λ z y. jumps y) (λ g. (and none, g))
          (λ m z y. record { list = does (exit_node (exit m l again)) (Dead x) ∷ []; are = and none; walk = jumps y })
      by (inr (y, i, j)) = absurd (not_dead (exit_node q) x (only_one a (does (exit_node q) (Dead x)) y us j))
  in_ending {n = n} {x = v} {s = s} (halts h) w us e = at_front us [] stopped (subst (λ z. Walk s z stopped) e h) (sym (append-nil us))
      (λ x y. subst (λ z. Walk (order.ending n v s) z stopped) (sym (append-nil x)) (halts y)) (λ g. (none, g))
      (λ m z y. record { list = does (exit_node (exit m l again)) (Dead v) ∷ []; are = and none; walk = jumps y })

  -- ---- in a pass of a loop

  pub record Before (k : ℕ) (s : Order) (f : List Action) : Type 0 where
    pub put : (x : List Action) (o : Out) → Walk (order.passes k s) x o → Walk (order.passes k s) (f ++ x) o

  pub record Pass (k : ℕ) (s : Order) (w us : List Action) (o : Out) : Type 0 where
    pub front : List Action
    pub inner : List Action
    pub later : List Action
    pub rest : List Action
    pub out : Out
    pub is_front : Before k s front
    pub walk : Walk s (inner ++ a ∷ later) out
    pub before : w ≡ front ++ inner
    pub behind : us ≡ later ++ rest
    pub goes : (f x : List Action) (p : Out) → Before k s f → PassAlike k out p → Walk s x p → Walk (order.passes k s) (f ++ (x ++ rest)) o
    pub stays : out ≡ stopped → AreEnds rest × (o ≡ stopped)
    pub gone : (l ≡ k → ⊥) → Goes out → AreEnds rest × Goes o

  halted_pass : {k : ℕ} {s : Order} {w us : List Action} {o : Out} → Pass k s w us o → Pass k s w us stopped
  halted_pass z = record {
    front = z.front;
    inner = z.inner;
    later = z.later;
    rest = z.rest;
    out = z.out;
    is_front = z.is_front;
    walk = z.walk;
    before = z.before;
    behind = z.behind;
    goes = λ f x p i g y. stops (z.goes f x p i g y);
    stays = λ e. ((z.stays e).0, refl);
    gone = λ n g. ((z.gone n g).0, inl refl);
  }

  left_stopped : {k : ℕ} {o r : Out} → Left k o r → o ≡ stopped → r ≡ stopped
  left_stopped by_stop e = refl
  left_stopped (by_break i) e = absurd (cc)
  left_stopped (by_outer_break i) e = absurd (cc)
  left_stopped (by_outer_continue i) e = absurd (cc)
  left_stopped by_return e = absurd (cc)

  break_of : (n m k : ℕ) (b : Bool) → leaves (breaks n k) ≡ leaves (exit m l b) → k ≡ l
  break_of n m k true e = absurd (cc)
  break_of n m k false e = cc

  continue_of : (n m k : ℕ) (b : Bool) → leaves (continues n k) ≡ leaves (exit m l b) → k ≡ l
  continue_of n m k true e = cc
  continue_of n m k false e = absurd (cc)

  left_gone : {k : ℕ} {o r : Out} → (l ≡ k → ⊥) → Left k o r → Goes o → Goes r
  left_gone n g (inl e) = inl (left_stopped g e)
  left_gone n (by_break {n = i} {k = j} q) (inr (m, e)) = absurd (n (sym (break_of i m j again e) ∙ q))
  left_gone n (by_outer_break q) (inr z) = inr z
  left_gone n (by_outer_continue q) (inr z) = inr z
  left_gone n by_return (inr z) = inr z
  left_gone n by_stop (inr z) = inr z

  passed_gone : {k : ℕ} {o : Out} → (l ≡ k → ⊥) → Passed k o → Goes o → ⊥
  passed_gone n by_end g = absurd (on_stays g)
  passed_gone n (by_continue q) (inl e) = absurd (cc)
  passed_gone n (by_continue {n = i} {k = j} q) (inr (m, e)) = n (sym (continue_of i m j again e) ∙ q)

  passed_stays : {k : ℕ} {o : Out} → Passed k o → o ≡ stopped → ⊥
  passed_stays by_end e = absurd (cc)
  passed_stays (by_continue q) e = absurd (cc)

  pub in_passes : {k : ℕ} {s : Order} {u : List Action} {o : Out} → Walk (order.passes k s) u o → (w us : List Action) → u ≡ w ++ a ∷ us → Pass k s w us o
  in_passes rests w us e = absurd (not_empty a w us e)
  in_passes (stops h) w us e = halted_pass (in_passes h w us e)
  in_passes {k = k} {s = s} {o = o} (last {o = q} h g) w us e = record {
    front = [];
    inner = w;
    later = us;
    rest = [];
    out = q;
    is_front = record { put = λ x o y. y };
    walk = subst (λ z. Walk s z q) e h;
    before = refl;
    behind = sym (append-nil us);
    goes = λ f x p i r y. i.put (x ++ []) o (subst (λ z. Walk (order.passes k s) z o) (sym (append-nil x)) (last y (same_left r g)));
    stays = λ i. (none, left_stopped g i);
    gone = λ n i. (none, left_gone n g i);
  }
  in_passes {k = k} {s = s} {o = o} (more {us = u} {vs = v} {o = q} h g y) w us e = by (cut a u v w us e) (λ c d. in_passes y c us d)
    where
      by : Cut a u v w us → ((c : List Action) → v ≡ c ++ a ∷ us → Pass k s c us o) → Pass k s w us o
      by (inl (r, i, j)) ih = record {
        front = [];
        inner = w;
        later = r;
        rest = v;
        out = q;
        is_front = record { put = λ x o y. y };
        walk = subst (λ z. Walk s z q) i h;
        before = refl;
        behind = j;
        goes = λ f x p c d z. c.put (x ++ v) o (more z (same_passed d g) y);
        stays = λ c. absurd (passed_stays g c);
        gone = λ n c. absurd (passed_gone n g c);
      }
      by (inr (x, i, j)) ih = let z = ih x j in record {
        front = u ++ z.front;
        inner = z.inner;
        later = z.later;
        rest = z.rest;
        out = z.out;
        is_front = record { put = λ x o y. subst (λ c. Walk (order.passes k s) c o) (sym (append_assoc u z.front x)) (more h g (z.is_front.put x o y)) };
        walk = z.walk;
        before = i ∙ ap (λ c. u ++ c) z.before ∙ sym (append_assoc u z.front z.inner);
        behind = z.behind;
        goes = z.goes;
        stays = z.stays;
        gone = z.gone;
      }

  -- ---- what is told of orders

  -- no walk holds it
  pub record Free (s : Order) : Type 0 where
    pub never : (w us : List Action) (o : Out) → Walk s (w ++ a ∷ us) o → ⊥

  pub record Going (s : Order) (v : List Action) : Type 0 where
    pub list : List Action
    pub are : AreEnds list
    pub node : ℕ
    pub walk : Walk s (v ++ a ∷ list) (leaves (exit node l again))

  -- each walk that holds it leaves by such a jump
  pub record Led (s : Order) : Type 0 where
    pub behind : (w us : List Action) (o : Out) → Walk s (w ++ a ∷ us) o → AreEnds us × Goes o
    pub onward : (v vs : List Action) (o : Out) → Walk s (v ++ a ∷ vs) o → Going s v

  pub record Joined (s : Order) (v us : List Action) (o : Out) : Type 0 where
    pub list : List Action
    pub meets : MeetInOne us list
    pub walk : Walk s (v ++ a ∷ list) o

  -- all go on alike
  pub record OnePlace (s : Order) : Type 0 where
    pub join : (w us v vs : List Action) (o p : Out) → Walk s (w ++ a ∷ us) o → Walk s (v ++ a ∷ vs) p → Joined s v us o

  shape : (f i z r v : List Action) → v ≡ f ++ i → f ++ ((i ++ a ∷ z) ++ r) ≡ v ++ a ∷ (z ++ r)
  shape f i z r v e = ap (λ c. f ++ c) (append_assoc i (a ∷ z) r) ∙ sym (append_assoc f i (a ∷ (z ++ r))) ∙ ap (λ c. c ++ a ∷ (z ++ r)) (sym e)

  not_in : {Front : List Action → Type 0} {s q : Order} {w us : List Action} {o : Out} → Free s → Focus Front s q w us o → ⊥
  not_in h f = h.never f.inner f.later f.out f.walk

  led_behind : {Front : List Action → Type 0} {s q : Order} {w us : List Action} {o : Out} → Led s → Focus Front s q w us o → AreEnds us × Goes o
  led_behind h f = let z = h.behind f.inner f.later f.out f.walk in let y = f.gone z.1 in (subst (λ c. AreEnds c) (sym f.behind) (ends_both z.0 y.0), y.1)

  led_onward : {Front : List Action → Type 0} {s q : Order} {w us : List Action} {o : Out} → Led s → Focus Front s q w us o → Going q w
  led_onward {q = q} {w = w} h f =
      let z = h.onward f.inner f.later f.out f.walk in
      let y = f.left z.node (f.inner ++ a ∷ z.list) z.walk in
      record { list = z.list ++ y.list; are = ends_both z.are y.are; node = z.node; walk = subst (λ c. Walk q c (leaves (exit z.node l again))) (shape f.front f.inner z.list y.list w f.before) y.walk }

  joined_in : {Front : List Action → Type 0} {s q : Order} {w us v vs : List Action} {o p : Out} → OnePlace s → Focus Front s q w us o → Focus Front s q v vs p → Joined q v us o
  joined_in {q = q} {v = v} {o = o} h f k =
      let z = h.join f.inner f.later k.inner k.later f.out k.out f.walk k.walk in
      record {
        list = z.list ++ f.rest;
        meets = subst (λ c. MeetInOne c (z.list ++ f.rest)) (sym f.behind) (meets_behind z.meets f.rest);
        walk = subst (λ c. Walk q c o) (shape k.front k.inner z.list f.rest v k.before) (f.goes k.front (k.inner ++ a ∷ z.list) k.is_front z.walk);
      }

  joined_pass : {k : ℕ} {s : Order} {w us v vs : List Action} {o p : Out} → OnePlace s → Pass k s w us o → Pass k s v vs p → Joined (order.passes k s) v us o
  joined_pass {k = n} {s = s} {v = v} {o = o} h f k =
      let z = h.join f.inner f.later k.inner k.later f.out k.out f.walk k.walk in
      record {
        list = z.list ++ f.rest;
        meets = subst (λ c. MeetInOne c (z.list ++ f.rest)) (sym f.behind) (meets_behind z.meets f.rest);
        walk = subst (λ c. Walk (order.passes n s) c o) (shape k.front k.inner z.list f.rest v k.before) (f.goes k.front (k.inner ++ a ∷ z.list) f.out k.is_front same z.walk);
      }

  both_alike : (n m : ℕ) (b : Bool) → PassAlike l (leaves (exit n l b)) (leaves (exit m l b))
  both_alike n m true = both_continue n m
  both_alike n m false = both_break n m

  -- the passes of the loop that such a jump is of
  pub at_loop : {s : Order} → Led s → OnePlace (order.passes l s)
  at_loop {s = s} h = record { join = λ w us v vs o p g d. joined (in_passes g w us refl) (in_passes d v vs refl) d }
    where
      joined : {w us v vs : List Action} {o p : Out} → Pass l s w us o → Pass l s v vs p → Walk (order.passes l s) (v ++ a ∷ vs) p → Joined (order.passes l s) v us o
      joined {us = us} {v = v} {vs = vs} {o = o} f k d = by (h.behind f.inner f.later f.out f.walk)
        where
          by : AreEnds f.later × Goes f.out → Joined (order.passes l s) v us o
          by (c, inl e) =
              let y = f.stays e in record {
                list = [];
                meets = meets_none (subst (λ z. AreEnds z) (sym f.behind) (ends_both c y.0));
                walk = subst (λ z. Walk (order.passes l s) (v ++ a ∷ []) z) (sym y.1) (fronts d (v ++ a ∷ []) vs (sym (append_assoc v (a ∷ []) vs)));
              }
          by (c, inr (n, e)) =
              let y = h.onward k.inner k.later k.out k.walk in record {
                list = y.list ++ f.rest;
                meets = subst (λ z. MeetInOne z (y.list ++ f.rest)) (sym f.behind) (meets_ends c y.are f.rest);
                walk = subst (λ c. Walk (order.passes l s) c o) (shape k.front k.inner y.list f.rest v k.before)
                    (f.goes k.front (k.inner ++ a ∷ y.list) (leaves (exit y.node l again)) k.is_front (subst (λ z. PassAlike l z (leaves (exit y.node l again))) (sym e) (both_alike n y.node again)) y.walk);
              }

  -- ---- two parts

  pub apart : {A B C : Type 0} → (A → C) → (B → C) → A ⊎ B → C
  apart f g (inl x) = f x
  apart f g (inr x) = g x

  abbrev pub Splits : (F K : List Action → Type 0) (s t q : Order) → Type 0
  Splits F K s t q = (w us : List Action) (o : Out) → Walk q (w ++ a ∷ us) o → Either F K s t q w us o

  pub free_two : {F K : List Action → Type 0} {s t q : Order} → Splits F K s t q → Free s → Free t → Free q
  free_two f c d = record { never = λ w us o h. apart (λ z. not_in c z) (λ z. not_in d z) (f w us o h) }

  pub led_two : {F K : List Action → Type 0} {s t q : Order} → Splits F K s t q → Led s → Led t → Led q
  led_two f c d = record {
    behind = λ w us o h. apart (λ z. led_behind c z) (λ z. led_behind d z) (f w us o h);
    onward = λ v vs o h. apart (λ z. led_onward c z) (λ z. led_onward d z) (f v vs o h);
  }

  pub one_first : {F K : List Action → Type 0} {s t q : Order} → Splits F K s t q → OnePlace s → Free t → OnePlace q
  one_first f c d = record { join = λ w us v vs o p h g. joined_in c (apart (λ z. z) (λ z. absurd (not_in d z)) (f w us o h)) (apart (λ z. z) (λ z. absurd (not_in d z)) (f v vs p g)) }

  pub one_second : {F K : List Action → Type 0} {s t q : Order} → Splits F K s t q → Free s → OnePlace t → OnePlace q
  one_second f c d = record { join = λ w us v vs o p h g. joined_in d (apart (λ z. absurd (not_in c z)) (λ z. z) (f w us o h)) (apart (λ z. absurd (not_in c z)) (λ z. z) (f v vs p g)) }

  pub free_led : {s : Order} → Free s → Led s
  free_led h = record { behind = λ w us o g. absurd (h.never w us o g); onward = λ v vs o g. absurd (h.never v vs o g) }

  -- ---- by how many blocks of the run's node a part has

  pub record Part (b : ℕ) (s : Order) : Type 0 where
    pub when_none : b ≤ 0 → Free s
    pub when_one : b ≤ 1 → Led s ⊎ OnePlace s

  one_of_two : {F K : List Action → Type 0} {s t q : Order} → Splits F K s t q → (b c : ℕ) → Part b s → Part c t → b + c ≤ 1 → Led q ⊎ OnePlace q
  one_of_two f zero c x y e = apart (λ z. inl (led_two f (free_led (x.when_none (omega arith))) z)) (λ z. inr (one_second f (x.when_none (omega arith)) z)) (y.when_one (omega (arith, e)))
  one_of_two f (suc b) zero x y e = apart (λ z. inl (led_two f z (free_led (y.when_none (omega arith))))) (λ z. inr (one_first f z (y.when_none (omega arith)))) (x.when_one (omega (arith, e)))
  one_of_two f (suc b) (suc c) x y e = absurd (omega (arith, e))

  pub part_two : {F K : List Action → Type 0} {s t q : Order} → Splits F K s t q → {b c : ℕ} → Part b s → Part c t → Part (b + c) q
  part_two f {b = b} {c = c} x y = record { when_none = λ e. free_two f (x.when_none (omega (arith, e))) (y.when_none (omega (arith, e))); when_one = λ e. one_of_two f b c x y e }

  pub then_splits : {s t : Order} → Splits Empty (λ f. Walk s f on) s t (order.then s t)
  then_splits w us o h = in_then h w us refl

  pub or_splits : {s t : Order} → Splits Empty Empty s t (order.or s t)
  or_splits w us o h = in_or h w us refl

  pub otherwise_splits : {s t : Order} → Splits Empty (λ f. Walk s f fails) s t (order.otherwise s t)
  otherwise_splits w us o h = in_otherwise h w us refl

  -- ---- parts without it

  pub none_done : {u : List Action} {o : Out} → Walk order.nothing u o → u ≡ []
  none_done rests = refl
  none_done (stops h) = none_done h
  none_done nothing = refl

  pub none_nowhere : {u : List Action} {o : Out} → Walk order.nowhere u o → u ≡ []
  none_nowhere rests = refl
  none_nowhere (stops h) = none_nowhere h

  pub none_left : {x : Exit} {u : List Action} {o : Out} → Walk (order.leave x) u o → u ≡ []
  none_left rests = refl
  none_left (stops h) = none_left h
  none_left leave = refl

  pub none_failed : {u : List Action} {o : Out} → Walk order.fail u o → u ≡ []
  none_failed rests = refl
  none_failed (stops h) = none_failed h
  none_failed fail = refl

  act_done : {b : Action} {u : List Action} {o : Out} → Walk (order.act b) u o → (u ≡ []) ⊎ (u ≡ b ∷ [])
  act_done rests = inl refl
  act_done (stops h) = act_done h
  act_done acts = inr refl

  pub idle : {s : Order} → ((u : List Action) (o : Out) → Walk s u o → u ≡ []) → Free s
  idle f = record { never = λ w us o h. not_empty a w us (sym (f (w ++ a ∷ us) o h)) }

  pub free_act : {b : Action} → (b ≡ a → ⊥) → Free (order.act b)
  free_act {b = b} n = record { never = λ w us o h. apart (λ e. not_empty a w us (sym e)) (λ e. n (only_one a b w us (sym e))) (act_done h) }

  pub as_part : {s : Order} → Free s → Part 0 s
  as_part h = record { when_none = λ e. h; when_one = λ e. inl (free_led h) }

  pub nothing_part : Part 0 order.nothing
  nothing_part = as_part (idle (λ u o h. none_done h))

  -- ---- the jump behind its mark

  -- as a text has it
  abbrev pub marked : Order
  marked = order.then order.nothing (order.act a)

  mark_done : {u : List Action} {o : Out} → Walk marked u o → (u ≡ []) ⊎ (u ≡ a ∷ [])
  mark_done rests = inl refl
  mark_done (stops h) = mark_done h
  mark_done (both {vs = v} h k) = subst (λ c. ((c ++ v) ≡ []) ⊎ ((c ++ v) ≡ a ∷ [])) (sym (none_done h)) (act_done k)
  mark_done (first g h) = inl (none_done h)

  act_away : {v : List Action} {o : Out} → Walk (order.act a) v o → IsAway o → o ≡ stopped
  act_away rests g = refl
  act_away (stops h) g = refl
  act_away acts g = absurd g

  nothing_away : {v : List Action} {o : Out} → Walk order.nothing v o → IsAway o → o ≡ stopped
  nothing_away rests g = refl
  nothing_away (stops h) g = refl
  nothing_away nothing g = absurd g

  mark_away : {v : List Action} {o : Out} → Walk marked v o → IsAway o → o ≡ stopped
  mark_away rests g = refl
  mark_away (stops h) g = refl
  mark_away (both h k) g = act_away k g
  mark_away (first i h) g = nothing_away h g

  jump_out : {x : Exit} {v : List Action} {o : Out} → Walk (order.leave x) v o → (o ≡ stopped) ⊎ (o ≡ leaves x)
  jump_out rests = inl refl
  jump_out (stops h) = inl refl
  jump_out leave = inr refl

  jump_list : {x : Exit} {u : List Action} {o : Out} → Walk (order.then marked (order.leave x)) u o → ((u ≡ []) ⊎ (u ≡ a ∷ [])) × ((o ≡ stopped) ⊎ (o ≡ leaves x))
  jump_list rests = (inl refl, inl refl)
  jump_list (stops h) = ((jump_list h).0, inl refl)
  jump_list (both {us = u} h k) = (subst (λ c. ((u ++ c) ≡ []) ⊎ ((u ++ c) ≡ a ∷ [])) (sym (none_left k)) (subst (λ c. (c ≡ []) ⊎ (c ≡ a ∷ [])) (sym (append-nil u)) (mark_done h)), jump_out k)
  jump_list (first g h) = (mark_done h, inl (mark_away h g))

  jump_goes : (n : ℕ) (o : Out) → (o ≡ stopped) ⊎ (o ≡ leaves (exit n l again)) → Goes o
  jump_goes n o (inl e) = inl e
  jump_goes n o (inr e) = inr (n, e)

  -- such a list ends with it
  pub at_its_end : (w us : List Action) → a ∷ [] ≡ w ++ a ∷ us → (w ≡ []) × (us ≡ [])
  at_its_end [] us e = (refl, cc)
  at_its_end (x ∷ w) us e = absurd (not_empty a w us (cc))

  pub jump_led : (n : ℕ) → Led (order.then marked (order.leave (exit n l again)))
  jump_led n = record {
    behind = λ w us o h. let z = jump_list h in (apart (λ e. absurd (not_empty a w us (sym e))) (λ e. subst (λ c. AreEnds c) (sym (at_its_end w us (sym e)).1) none) z.0, jump_goes n o z.1);
    onward = λ v vs o h. let z = jump_list h in apart (λ e. absurd (not_empty a v vs (sym e))) (λ e. went v (at_its_end v vs (sym e)).0) z.0;
  }
    where
      went : (v : List Action) → v ≡ [] → Going (order.then marked (order.leave (exit n l again))) v
      went v e = record { list = []; are = none; node = n; walk = subst (λ c. Walk (order.then marked (order.leave (exit n l again))) (c ++ a ∷ []) (leaves (exit n l again))) (sym e) (both (both nothing acts) leave) }

  -- ---- what parts give

  left_outside : (n k : ℕ) (b : Bool) → (l ≡ k → ⊥) → Left k (leaves (exit n l b)) (leaves (exit n l b))
  left_outside n k true e = by_outer_continue e
  left_outside n k false e = by_outer_break e

  pub free_ending : {n x : ℕ} {s : Order} → Free s → Free (order.ending n x s)
  free_ending h = record { never = λ w us o g. not_in h (in_ending g w us refl) }

  pub led_ending : {n x : ℕ} {s : Order} → Led s → Led (order.ending n x s)
  led_ending h = record { behind = λ w us o g. led_behind h (in_ending g w us refl); onward = λ v vs o g. led_onward h (in_ending g v vs refl) }

  one_ending : {n x : ℕ} {s : Order} → OnePlace s → OnePlace (order.ending n x s)
  one_ending h = record { join = λ w us v vs o p g k. joined_in h (in_ending g w us refl) (in_ending k v vs refl) }

  pub free_passes : {k : ℕ} {s : Order} → Free s → Free (order.passes k s)
  free_passes h = record { never = λ w us o g. let z = in_passes g w us refl in h.never z.inner z.later z.out z.walk }

  one_passes : {k : ℕ} {s : Order} → OnePlace s → OnePlace (order.passes k s)
  one_passes h = record { join = λ w us v vs o p g k. joined_pass h (in_passes g w us refl) (in_passes k v vs refl) }

  pub led_passes : {k : ℕ} {s : Order} → (l ≡ k → ⊥) → Led s → Led (order.passes k s)
  led_passes {k = k} {s = s} n h = record { behind = λ w us o g. back (in_passes g w us refl); onward = λ v vs o g. onto (in_passes g v vs refl) }
    where
      back : {w us : List Action} {o : Out} → Pass k s w us o → AreEnds us × Goes o
      back f = let z = h.behind f.inner f.later f.out f.walk in let y = f.gone n z.1 in (subst (λ c. AreEnds c) (sym f.behind) (ends_both z.0 y.0), y.1)

      onto : {v vs : List Action} {o : Out} → Pass k s v vs o → Going (order.passes k s) v
      onto {v = v} f =
          let z = h.onward f.inner f.later f.out f.walk in
          let y = f.is_front.put (f.inner ++ a ∷ z.list) (leaves (exit z.node l again)) (last z.walk (left_outside z.node k again n)) in
          record { list = z.list; are = z.are; node = z.node; walk = subst (λ c. Walk (order.passes k s) c (leaves (exit z.node l again))) (sym (append_assoc f.front f.inner (a ∷ z.list)) ∙ ap (λ c. c ++ a ∷ z.list) (sym f.before)) y }

  pub part_passes : {k b : ℕ} {s : Order} → Part b s → Part b (order.passes k s)
  part_passes {k = k} {s = s} x = record { when_none = λ e. free_passes (x.when_none e); when_one = λ e. apart (λ z. its (l == k) refl z) (λ z. inr (one_passes z)) (x.when_one e) }
    where
      its : (t : Bool) → (l == k) ≡ t → Led s → Led (order.passes k s) ⊎ OnePlace (order.passes k s)
      its true e z = inr (subst (λ c. OnePlace (order.passes c s)) ((Decides-eqb l k).0 e) (at_loop z))
      its false e z = inl (led_passes (λ q. absurd (differ ((Decides-eqb l k).1 q) e)) z)
        where
          differ : (l == k) ≡ true → (l == k) ≡ false → ⊥
          differ p q = true≢false (sym p ∙ q)

  pub part_ending : {n x b : ℕ} {s : Order} → Part b s → Part b (order.ending n x s)
  part_ending x = record { when_none = λ e. free_ending (x.when_none e); when_one = λ e. apart (λ z. inl (led_ending z)) (λ z. inr (one_ending z)) (x.when_one e) }

  pub weaker : {b c : ℕ} {s : Order} → b ≤ c → Part b s → Part c s
  weaker i x = record { when_none = λ e. x.when_none (omega (arith, i, e)); when_one = λ e. x.when_one (omega (arith, i, e)) }
