-- Declared variables and params that the relation of trees has as alike are so here, and scopes agree behind them.
use Rattle.std.proofs.Common.{◌≡◌, ℕ, List, [], ◌∷◌, map, Option}
use Rattle.rx_typed.specs.Tree.{Parameter}
use Rattle.rx_lower_walks.specs.Matching.{PartTest, Binding}
use Rattle.rx_lower_walks.specs.Actions.{Act, Subject}
use Rattle.rx_engine_simulation.specs.Histories.{Facts}
use Rattle.rx_engine_simulation.specs.Sights.{How, Renaming}
use Rattle.rx_engine_simulation.specs.Places.{IsDirect}
use Rattle.rx_engine_simulation.specs.Binders.{NewHow, new_plain, new_special, LikeDeclared, none_new, new_and, LikeParams, no_param, param_and, LikeTaken, takes_none, takes_read, takes_borrow, LikeBindings, no_binding, binding_and, LikeTests, no_test, test_and}
use Rattle.rx_exits_plan.specs.Bound.{variables_of_params}
use Rattle.rx_engine_initial.specs.Variables.{Sides, KnownVariables}
use Rattle.rx_engine_initial_forms.specs.Binders.{AlikeDeclared, none_declared, declares_one, AlikeParams, AlikeTaken, AlikeBindings, AlikeTests}
use Rattle.rx_engine_initial_forms.specs.Binders as binders
use Rattle.rx_engine_initial_forms.specs.Agreeing.{Agrees, AllLike, TakenSo, BindingsSo}
use Rattle.rx_engine_initial_forms.proofs.Places.{read_copy, borrow_copy, test_copy}
use Rattle.rx_engine_initial_forms.proofs.Scopes.{one_more}

new_direct : {V : Facts} {x : ℕ} {w : How} → NewHow V x w → IsDirect w
new_direct (new_plain w f) = tt
new_direct (new_special s) = tt

module _ (S : Sides) (V : Facts) where
  pub declared_alike : {N M : Renaming} {xs ys : List ℕ} → LikeDeclared V N xs ys M → AllLike S xs ys → (R : KnownVariables S) → Agrees S N R → (T : KnownVariables S) × AlikeDeclared S R ys xs T × Agrees S M T
  declared_alike none_new l R g = (R, none_declared, g)
  declared_alike {N = N} (new_and {x = x} {y = y} w n e f d) l R g = let t = one_more S N R g x y w (new_direct n) e f l.0 in let z = declared_alike d l.1 t.0 t.2 in (z.0, declares_one t.1 z.1, z.2)

  pub params_alike : {N M : Renaming} {ps qs : List Parameter} → LikeParams V N ps qs M → AllLike S (variables_of_params ps) (variables_of_params qs) → (R : KnownVariables S) → Agrees S N R
      → (T : KnownVariables S) × AlikeParams S R qs ps T × Agrees S M T
  params_alike no_param l R g = (R, binders.no_param, g)
  params_alike {N = N} (param_and {p = p} {q = q} w n e f d) l R g = let t = one_more S N R g p.variable q.variable w (new_direct n) e f l.0 in let z = params_alike d l.1 t.0 t.2 in (z.0, binders.param_and t.1 z.1, z.2)

  taken_alike : {N : Renaming} {a b : Option Act} (l : LikeTaken N a b) → TakenSo l → (R : KnownVariables S) → Agrees S N R → AlikeTaken R.variables b a
  taken_alike takes_none m R g = binders.takes_none
  taken_alike {N = N} (takes_read {v = v} {v' = z} {t = t} {t' = d} l) m R g = binders.takes_both (read_copy S N R g l v z m d t)
  taken_alike {N = N} (takes_borrow {k = k} {t = t} {t' = d} l) m R g = binders.takes_both (borrow_copy S N R g l k k d t)

  pub bindings_alike : {X Y : Subject} {N M : Renaming} {bs cs : List Binding} (l : LikeBindings V X Y N bs cs M) → BindingsSo S l → (R : KnownVariables S) → Agrees S N R
      → (T : KnownVariables S) × AlikeBindings S Y X R cs bs T × Agrees S M T
  bindings_alike no_binding h R g = (R, binders.no_binding, g)
  bindings_alike {N = N} (binding_and {b = b} {b' = c} w t s n e f r) h R g = let m = one_more S N R g b.variable c.variable w (new_direct n) e f h.1 in let z = bindings_alike r h.2 m.0 m.2 in
      (z.0, binders.binding_and (taken_alike t h.0 R g) m.1 z.1, z.2)

  pub tests_alike : {X Y : Subject} {N : Renaming} {ts us : List PartTest} → LikeTests N X Y ts us → (R : KnownVariables S) → Agrees S N R → AlikeTests R.variables Y X us ts
  tests_alike no_test R g = binders.no_test
  tests_alike {N = N} (test_and {t = t} {t' = u} l e r) R g = binders.test_and (test_copy S N R g l u.check t.check) (tests_alike r R g)
