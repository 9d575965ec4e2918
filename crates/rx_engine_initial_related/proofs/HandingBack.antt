-- What is done at the run's end with what the call gives, or the match of it.
use Rattle.std.proofs.Common.{◌≡◌, ◌⊎◌, inl, inr, ℕ, Bool, List, [], ◌∷◌, ◌++◌, map, Some, refl, sym, subst, ap}
use Rattle.rx_typed.specs.Tree as tree
use Rattle.rx_typed.specs.Tree.{Mark, Exp, Body, own, temporary_of}
use Rattle.rx_lower_walks.specs.Matching.{Binding, bindings_in}
use Rattle.rx_lower_walks.specs.Actions.{Declare, Write, Action, does, at_mark}
use Rattle.rx_lower_walks.specs.Walks.{Among, here, there}
use Rattle.rx_exits_plan.specs.Blocks.{Statement, before, declared_by_all}
use Rattle.rx_exits_plan.specs.Blocks as block
use Rattle.rx_exits_plan.specs.Points.{next}
use Rattle.rx_exits_plan.specs.Asked.{Asked}
use Rattle.rx_exits_plan.specs.Plan.{Plan}
use Rattle.rx_engine_simulation.specs.Sights.{special, sight, Renaming, sight_of, IsNew}
use Rattle.rx_engine_simulation.specs.Handing.{received_none, received_and}
use Rattle.rx_engine_related.specs.Handed.{HandsBack, hands_none, hands_assigned, hands_declared, hands_several}
use Rattle.rx_engine_initial.specs.Variables.{Sides, KnownVariables}
use Rattle.rx_engine_initial.proofs.Tracing.{joined}
use Rattle.rx_engine_initial_calls.specs.Received.{MayTake, Receives, assigns_one, receives_one}
use Rattle.rx_engine_initial_forms.specs.Agreeing.{Agrees}
use Rattle.rx_engine_initial_related.proofs.Scope.{AllSlots, Injective, seen, new_here, injective_more}
use Rattle.rx_engine_initial_related.proofs.Acts.{acts_none, done_acts, bound_and, bound_none, Around, it_alone, assigned, bound_to}
use Rattle.rx_engine_initial_related.proofs.Arguments.{one_more_leaves}
use Rattle.rx_engine_initial_related.proofs.Coming.{Comes, none_left, comes_none, comes_both, comes_written}
use Rattle.rx_engine_initial_related.proofs.Receiving.{Got, got}
use Rattle.rx_engine_initial_related.proofs.PuttingBack.{Back, put_back}
use Rattle.rx_engine_initial_related.proofs.Lists.{split}

module _ (S : Sides) (A : Asked) (k : Plan) (agains : List ℕ) (R : Renaming) (K : KnownVariables S) (g : Agrees S R K) (all : AllSlots R)
    (may : (x y : ℕ) → sight_of R x ≡ Some (sight y special) → Among x (k.outs next) → MayTake S k next y x) (e : Exp) where
  pub record Hands (N M : Renaming) (f : Body → Body) : Type 0 where
    pub statements : List Statement
    pub is : (b : Body) → f b ≡ before statements b
    pub actions : List Action
    pub around : Around e statements actions
    pub new : (x : ℕ) → Among x (declared_by_all statements) → IsNew R x
    pub comes : Comes k next agains N actions M
    pub injective : Injective M
    pub receives : (rest : List Action) → ((hs ys : List ℕ) → Receives S k next K hs ys rest) → (hs : List ℕ) → Receives S k next K hs [] (actions ++ rest)

  drops : (N : Renaming) → Injective N → Hands N N (λ b. tree.runs e b)
  drops N inj = record {
    statements = block.does e ∷ [];
    is = λ b. refl;
    actions = [];
    around = it_alone acts_none;
    new = λ x i. elim i [ ];
    comes = comes_none k next agains N;
    injective = inj;
    receives = λ rest f hs. f hs [];
  }

  assigns_it : {N : Renaming} {x y : ℕ} {m : Mark} → Injective N → IsNew N y → sight_of R x ≡ Some (sight y special) → Among x (k.outs next) → Hands N ((x, sight y special) ∷ N) (λ b. tree.runs (tree.assign m (own y) e) b)
  assigns_it {N} {x} {y} {m} inj new h out = record {
    statements = block.does (tree.assign m (own y) e) ∷ [];
    is = λ b. refl;
    actions = at_mark m (Write (own y) (temporary_of e) []) ∷ [];
    around = assigned acts_none;
    new = λ z i. elim i [ ];
    comes = comes_written k next agains N x y m.node (temporary_of e) [] [] out new (λ z s n p. none_left s.to);
    injective = injective_more N x (sight y special) inj new;
    receives = λ rest f hs. assigns_one x (seen S R K g all x (sight y special) h) (may x y h out) (λ i. elim i [ ]) (f hs (y ∷ []));
  }

  declares_it : {N : Renaming} {x y n i : ℕ} {mutable : Bool} → Injective N → IsNew R y → IsNew N y → Among x (k.outs next)
      → Hands N ((x, sight y special) ∷ N) (λ b. tree.lets n (tree.bind i y (tree.by_value mutable)) (tree.of_value e) b)
  declares_it {N} {x} {y} {n} {i} {mutable} inj outside new out = record {
    statements = block.binds n (tree.bind i y (tree.by_value mutable)) (tree.of_value e) ∷ [];
    is = λ b. refl;
    actions = does i (Declare y) ∷ does i (Write (own y) (temporary_of e) []) ∷ [];
    around = bound_to (bound_and refl bound_none) acts_none;
    new = λ z j. newly z j;
    comes = comes_written k next agains N x y i (temporary_of e) [] (does i (Declare y) ∷ []) out new (λ z s w h. one_more_leaves (does i (Declare y)) [] s.to (λ (q : y ≡ s.to). new z s h (sym q)) (none_left s.to));
    injective = injective_more N x (sight y special) inj new;
    receives = λ rest f hs. receives_one (new_here S R K g all y outside) (f (y ∷ hs) []);
  }
    where
      newly : (z : ℕ) → Among z (y ∷ []) → IsNew R z
      newly _ here = outside
      newly z (there j) = elim j [ ]

  pub hands : {muts : List Bool} {N M : Renaming} {xs : List ℕ} {f : Body → Body} → HandsBack A muts k R e N xs M f → Injective N → ((x : ℕ) → Among x xs → Among x (k.outs next)) → Hands N M f
  hands {N = N} hands_none inj outs = drops N inj
  hands (hands_assigned {x = x} none new h m) inj outs = assigns_it inj new h (outs x here)
  hands (hands_declared {x = x} (received_and none n j received_none)) inj outs = declares_it inj n j (outs x here)
  hands {muts = muts} {N = N} {M = M} (hands_several {x = x} {z = w} {n = n} {xs = xs} {os = os} {ps = ps} {Rr = Rr} {g = q} r p b) inj outs = record {
    statements = block.binds n (tree.parts ps) (tree.of_value e) ∷ back.statements;
    is = λ c. ap (λ d. tree.lets n (tree.parts ps) (tree.of_value e) d) (back.is c);
    actions = parts.actions ++ back.actions;
    around = bound_to parts.bound (done_acts back.acts);
    new = λ z i. newly z (split (map (λ (c : Binding). c.variable) (bindings_in [] ps)) (declared_by_all back.statements) i);
    comes = comes_both k next agains N Rr M parts.actions back.actions parts.comes back.comes;
    injective = back.injective;
    receives = λ rest f hs. subst (λ l. Receives S k next K hs [] l) (sym (joined parts.actions back.actions rest))
        (parts.receives (back.actions ++ rest) [] hs (λ gs a c. back.receives rest f gs [] a (λ y i. elim i [ ])));
  }
    where
      parts : Got S k next agains R K g all (temporary_of e) [] ps N Rr (x ∷ w ∷ xs) os
      parts = got S k next agains R K g all r p (temporary_of e) [] inj outs

      back : Back S A muts k next agains R K g all may Rr M (x ∷ w ∷ xs) os q
      back = put_back S A muts k next agains R K g all may b parts.injective parts.held outs

      newly : (z : ℕ) → Among z (map (λ (c : Binding). c.variable) (bindings_in [] ps)) ⊎ Among z (declared_by_all back.statements) → IsNew R z
      newly z (inl i) = parts.new z i
      newly z (inr i) = absurd (back.new z i)
