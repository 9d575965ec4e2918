-- What was received is taken once, and assigned to the variable outside that it is of; and variables begin again.
use Rattle.std.proofs.Common.{◌≡◌, ℕ, Bool, List, [], ◌∷◌, ◌++◌, Some, refl, sym, ◌∙◌, subst, ap}
use Rattle.rx_typed.specs.Tree as tree
use Rattle.rx_typed.specs.Tree.{Body, own, temporary_at}
use Rattle.rx_lower_walks.specs.Actions.{Declare, Read, Write, Action, does, at_mark}
use Rattle.rx_lower_walks.specs.Walks.{Among, here, there}
use Rattle.rx_exits_plan.specs.Blocks.{Statement, begins, before, declared_by_all}
use Rattle.rx_exits_plan.specs.Blocks as block
use Rattle.rx_exits_plan.specs.Points.{Exit}
use Rattle.rx_exits_plan.specs.Asked.{Asked}
use Rattle.rx_exits_plan.specs.Plan.{Plan}
use Rattle.rx_engine_simulation.specs.Sights.{special, Sight, sight, Renaming, sight_of, IsNew}
use Rattle.rx_engine_simulation.specs.Packing.{takes_read}
use Rattle.rx_engine_related.specs.Handed.{PutBack, all_back, stays, goes_back, Redeclared, none_again, again_and}
use Rattle.rx_engine_initial.specs.Variables.{Sides, KnownVariables}
use Rattle.rx_engine_initial.specs.Entered.{IsNewHere}
use Rattle.rx_engine_initial.specs.Handing.{by_read, one_action, in_sequence}
use Rattle.rx_engine_initial.specs.Fates.{AllLeave}
use Rattle.rx_engine_initial.proofs.Uses.{none_is}
use Rattle.rx_engine_initial_calls.specs.Received.{MayTake, Receives, no_more, takes_one, assigns_one, begins_one}
use Rattle.rx_engine_initial_forms.specs.Agreeing.{Agrees}
use Rattle.rx_engine_initial_related.proofs.Scope.{AllSlots, Injective, first, further, injective_more, seen, new_here}
use Rattle.rx_engine_initial_related.proofs.Acts.{Acts, acts_none, acts_begins, Done, done_none, done_one}
use Rattle.rx_engine_initial_related.proofs.Arguments.{one_more_leaves, read_leaves}
use Rattle.rx_engine_initial_related.proofs.Coming.{Comes, comes_none, comes_both, comes_written, comes_begun, none_left}
use Rattle.rx_engine_initial_related.proofs.Receiving.{Sub, Held, held_further}

-- those that were assigned stand for variables of the text that are none of the rest
abbrev pub Assigned : Renaming → List ℕ → List ℕ → Type 0
Assigned N xs ys = (y : ℕ) → Among y ys → (z : ℕ) × (sight_of N z ≡ Some (sight y special)) × (Among z xs → ⊥)

module _ (S : Sides) (A : Asked) (muts : List Bool) (k : Plan) (e : Exit) (agains : List ℕ) (R : Renaming) (K : KnownVariables S) (g : Agrees S R K) (all : AllSlots R)
    (may : (x y : ℕ) → sight_of R x ≡ Some (sight y special) → Among x (k.outs e) → MayTake S k e y x) where
  pub record Back (N M : Renaming) (xs os : List ℕ) (f : Body → Body) : Type 0 where
    pub statements : List Statement
    pub is : (b : Body) → f b ≡ before statements b
    pub actions : List Action
    pub acts : Done statements actions
    pub new : (x : ℕ) → Among x (declared_by_all statements) → ⊥
    pub comes : Comes k e agains N actions M
    pub injective : Injective M
    pub receives : (rest : List Action) → ((hs ys : List ℕ) → Receives S k e K hs ys rest) → (hs ys : List ℕ) → Sub os hs → Assigned N xs ys → Receives S k e K hs ys (actions ++ rest)

  nothing_back : (N : Renaming) → Injective N → Back N N [] [] (λ b. b)
  nothing_back N inj = record {
    statements = [];
    is = λ b. refl;
    actions = [];
    acts = done_none;
    new = λ x i. elim i [ ];
    comes = comes_none k e agains N;
    injective = inj;
    receives = λ rest f hs ys a b. f hs ys;
  }

  -- one stays where it was received
  stays_back : {N M : Renaming} {x o : ℕ} {xs os : List ℕ} {f : Body → Body} → Back N M xs os f → Back N M (x ∷ xs) (o ∷ os) f
  stays_back b = record {
    statements = b.statements;
    is = b.is;
    actions = b.actions;
    acts = b.acts;
    new = b.new;
    comes = b.comes;
    injective = b.injective;
    receives = λ rest f hs ys s a. b.receives rest f hs ys (λ z i. s z (there i)) (λ y i. let z = a y i in (z.0, z.1, λ j. z.2 (there j)));
  }

  -- one goes back
  module _ (N M : Renaming) (x y o : ℕ) (m n : tree.Mark) (v : Bool) (xs os : List ℕ) (f : Body → Body) (h : sight_of R x ≡ Some (sight y special)) (new : IsNew N y) (inj : Injective N) (held : Held N (x ∷ xs) (o ∷ os))
      (out : Among x (k.outs e)) (b : Back ((x, sight y special) ∷ N) M xs os f) where
    abbrev took : Action
    took = at_mark n (Read v (own o) (temporary_at n.node 0))

    abbrev wrote : Action
    wrote = at_mark m (Write (own y) (temporary_at n.node 0) [])

    others_left : (z : ℕ) (s : Sight) → (z ≡ x → ⊥) → sight_of N z ≡ Some s → AllLeave (took ∷ []) s.to
    others_left z s other p = one_more_leaves took [] s.to (read_leaves v o s.to (temporary_at n.node 0) (λ (q : o ≡ s.to). other (inj z x s (sight o special) p held.0 (sym q)))) (none_left s.to)

    not_yet : (ys : List ℕ) → Assigned N (x ∷ xs) ys → Among y ys → ⊥
    not_yet ys a i = let z = a y i in new z.0 (sight y special) z.1 refl

    assigned : (ys : List ℕ) → Assigned N (x ∷ xs) ys → Assigned ((x, sight y special) ∷ N) xs (y ∷ ys)
    assigned ys a _ here = (x, first N x (sight y special), held.1.0)
    assigned ys a w (there i) = let z = a w i in
        (z.0, further N x (sight y special) z.0 (λ (q : z.0 ≡ x). z.2 (subst (λ u. Among z.0 (u ∷ xs)) q here)) ∙ z.1, λ j. z.2 (there j))

    received : (rest : List Action) → ((hs ys : List ℕ) → Receives S k e K hs ys rest) → (hs ys : List ℕ) → Sub (o ∷ os) hs → Assigned N (x ∷ xs) ys → Receives S k e K hs ys (took ∷ wrote ∷ (b.actions ++ rest))
    received rest c hs ys s a =
        takes_one {gs = os} by_read (s o here) (λ z i. (s z (there i), λ (q : o ≡ z). held.1.1.0 (subst (λ w. Among w os) (sym q) i)))
        (assigns_one x (seen S R K g all x (sight y special) h) (may x y h out) (not_yet ys a) (b.receives rest c os (y ∷ ys) (λ z i. i) (assigned ys a)))

    goes : Back N M (x ∷ xs) (o ∷ os) (λ c. tree.runs (tree.assign m (own y) (tree.read n v (own o))) (f c))
    goes = record {
      statements = block.does (tree.assign m (own y) (tree.read n v (own o))) ∷ b.statements;
      is = λ c. ap (λ d. tree.runs (tree.assign m (own y) (tree.read n v (own o))) d) (b.is c);
      actions = took ∷ wrote ∷ b.actions;
      acts = done_one (in_sequence one_action one_action) b.acts;
      new = b.new;
      comes = comes_both k e agains N ((x, sight y special) ∷ N) M (took ∷ wrote ∷ []) b.actions (comes_written k e agains N x y m.node (temporary_at n.node 0) [] (took ∷ []) out new others_left) b.comes;
      injective = b.injective;
      receives = received;
    }

  pub put_back : {N M : Renaming} {xs os : List ℕ} {f : Body → Body} → PutBack A muts k R N xs os f M → Injective N → Held N xs os → ((x : ℕ) → Among x xs → Among x (k.outs e)) → Back N M xs os f
  put_back {N = N} all_back inj held outs = nothing_back N inj
  put_back (stays p) inj held outs = stays_back (put_back p inj held.1.1.1 (λ z i. outs z (there i)))
  put_back {N = N} {M = M} (goes_back {x = x} {y = y} {o = o} {m = m} {xs = xs} {os = os} {f = f} h new a (takes_read {m = n} {moves = v}) p) inj held outs =
      goes N M x y o m n v xs os f h new inj held (outs x here)
      (put_back p (injective_more N x (sight y special) inj new) (held_further N x (sight y special) xs os held.1.0 held.1.1.1) (λ z i. outs z (there i)))

  -- ---- what begins again

  pub record Again (N M : Renaming) (f : Body → Body) : Type 0 where
    pub statements : List Statement
    pub is : (b : Body) → f b ≡ before statements b
    pub actions : List Action
    pub acts : Acts statements actions
    pub new : (x : ℕ) → Among x (declared_by_all statements) → IsNewHere K.variables x
    pub comes : Comes k e agains N actions M
    pub injective : Injective M
    pub receives : (hs ys : List ℕ) → Receives S k e K hs ys actions

  nothing_begun : (N : Renaming) → Injective N → Again N N (λ b. b)
  nothing_begun N inj = record {
    statements = [];
    is = λ b. refl;
    actions = [];
    acts = acts_none;
    new = λ x i. elim i [ ];
    comes = comes_none k e agains N;
    injective = inj;
    receives = λ hs ys. no_more;
  }

  one_begun : (N M : Renaming) (x y n : ℕ) (f : Body → Body) → IsNew N y → Among x agains → IsNewHere K.variables y → Again ((x, sight y special) ∷ N) M f → Again N M (λ b. tree.declares n (y ∷ []) (f b))
  one_begun N M x y n f new named fresh rest = record {
    statements = begins n (y ∷ []) ∷ rest.statements;
    is = λ b. ap (λ c. tree.declares n (y ∷ []) c) (rest.is b);
    actions = does n (Declare y) ∷ rest.actions;
    acts = acts_begins rest.acts;
    new = λ z i. newly z i;
    comes = comes_both k e agains N ((x, sight y special) ∷ N) M (does n (Declare y) ∷ []) rest.actions (comes_begun k e agains N x y n named new) rest.comes;
    injective = rest.injective;
    receives = λ hs ys. begins_one {gs = []} fresh (λ z i. elim i [ ]) (rest.receives [] ys);
  }
    where
      newly : (z : ℕ) → Among z (y ∷ declared_by_all rest.statements) → IsNewHere K.variables z
      newly _ here = fresh
      newly z (there i) = rest.new z i

  -- where what is had outside is had in front of them
  pub begun_again : {Rb N M : Renaming} {xs : List ℕ} {f : Body → Body} → Redeclared Rb N xs f M → Injective N → ((x : ℕ) → Among x xs → Among x agains) → ((z : ℕ) (s : Sight) → sight_of R z ≡ Some s → sight_of N z ≡ Some s) → Again N M f
  begun_again {N = N} none_again inj named there_too = nothing_begun N inj
  begun_again {N = N} {M = M} (again_and {x = x} {y = y} {n = n} {f = f} had none new r) inj named there_too =
      one_begun N M x y n f new (named x here) (new_here S R K g all y (λ z s h q. new z s (there_too z s h) q))
      (begun_again r (injective_more N x (sight y special) inj new) (λ z i. named z (there i))
      (λ z s h. further N x (sight y special) z (λ (q : z ≡ x). none_is (sym none ∙ subst (λ v. sight_of N v ≡ Some s) q (there_too z s h))) ∙ there_too z s h))

-- what is not declared again was had in front
pub had_in_front : {Rb N M : Renaming} {xs : List ℕ} {f : Body → Body} → Redeclared Rb N xs f M → (z : ℕ) → (Among z xs → ⊥) → sight_of M z ≡ sight_of N z
had_in_front none_again z n = refl
had_in_front {N = N} (again_and {x = x} {y = y} {xs = xs} had none new r) z n = had_in_front r z (λ i. n (there i)) ∙ further N x (sight y special) z other
  where
    other : z ≡ x → ⊥
    other q = n (subst (λ v. Among z (v ∷ xs)) q here)
