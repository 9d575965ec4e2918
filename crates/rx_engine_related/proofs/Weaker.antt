-- What is alike is alike where more is special, with other openings, and with more credit.
use Rattle.std.proofs.Common.{ℕ, ◌≤◌, List, arith}
use Rattle.rx_typed.specs.Tree.{Parameter, Exp, Operands, Scrutinee, Arms, Body}
use Rattle.rx_lower_walks.specs.Matching.{Binding}
use Rattle.rx_lower_walks.specs.Actions.{Subject}
use Rattle.rx_engine_simulation.specs.Turns.{Allowance}
use Rattle.rx_engine_simulation.specs.Histories.{Facts}
use Rattle.rx_engine_simulation.specs.Sights.{How, Renaming}
use Rattle.rx_engine_simulation.specs.Binders.{NewHow, new_plain, new_special, LikeDeclared, none_new, new_and, LikeParams, no_param, param_and, LikeBindings, no_binding, binding_and}
use Rattle.rx_engine_simulation.specs.Jumps.{Jumping, in_loop}
use Rattle.rx_engine_simulation.specs.Openings.{Openings}
use Rattle.rx_engine_simulation.specs.Like.{LikeExp, opens, LikeAll, LikeMatched, LikeArms, LikeBody, opens_in, reads, borrows, views, shares, builds, builds_structs, builds_variants, units, lazies, assigns, updates, calls, inputs, prints, blocks, chooses, loops, stays, gives, no_operands, operands_and, at_places, of_values, no_arms, arms_and, ends_in, runs_on, declares_all, lets_in, reads_place, looks_behind}

-- ---- new variables

module _ (V W : Facts) (too : (x : ℕ) → V.Special x → W.Special x) where
  new_how : {x : ℕ} {w : How} → NewHow V x w → NewHow W x w
  new_how (new_plain w f) = new_plain w f
  new_how {x} (new_special s) = new_special (too x s)

  pub weaker_declared : {R Ra : Renaming} {xs ys : List ℕ} → LikeDeclared V R xs ys Ra → LikeDeclared W R xs ys Ra
  weaker_declared none_new = none_new
  weaker_declared (new_and w f none u l) = new_and w (new_how f) none u (weaker_declared l)

  pub weaker_params : {R Ra : Renaming} {ps qs : List Parameter} → LikeParams V R ps qs Ra → LikeParams W R ps qs Ra
  weaker_params no_param = no_param
  weaker_params (param_and w f none u l) = param_and w (new_how f) none u (weaker_params l)

  pub weaker_bindings : {S S' : Subject} {R Ra : Renaming} {bs bs' : List Binding} → LikeBindings V S S' R bs bs' Ra → LikeBindings W S S' R bs bs' Ra
  weaker_bindings no_binding = no_binding
  weaker_bindings (binding_and w l way f none u bs) = binding_and w l way (new_how f) none u (weaker_bindings bs)

-- ---- form by form

-- how the openings of the one become those of the other, under such jumps
pub record Opens (O O' : Openings) (V W : Facts) (Ok : Jumping → Type 0) : Type 0 where
  pub special : (x : ℕ) → V.Special x → W.Special x
  pub into : (J : Jumping) (l k : ℕ) → Ok J → Ok (in_loop J l k)
  pub expression : (a : ℕ) (J : Jumping) (R : Renaming) (e : Exp) (f f' : Exp → Exp) → Ok J → O.expression V a J R e f f' → O'.expression W a J R e f f'
  pub statements : (a : ℕ) (J : Jumping) (R S : Renaming) (b : Body) (f f' : Body → Body) → Ok J → O.statements V a J R S b f f' → O'.statements W a J R S b f f'

module _ (items : ℕ → ℕ) (O O' : Openings) (g g' : Allowance) (more : g.turns ≤ g'.turns) (V W : Facts) (Ok : Jumping → Type 0) (w : Opens O O' V W Ok) where
  mutual
    pub weaker_exp : {k k' : ℕ} {J : Jumping} {R : Renaming} {e e' : Exp} → k ≤ k' → Ok J → LikeExp items O g V k J R e e' → LikeExp items O' g' W k' J R e e'
    weaker_exp {k} {k'} {J} {R} le ok (opens {e = e} {e' = e'} {f = f} {f' = f'} a i n o l) = opens {e = e} {e' = e'} {f = f} {f' = f'} a i (omega (arith, le, n)) (w.expression a J R e f f' ok o) (weaker_exp {k = i} {k' = i} (omega arith) ok l)
    weaker_exp le ok (reads p) = reads p
    weaker_exp le ok (borrows p) = borrows p
    weaker_exp le ok (views seen) = views seen
    weaker_exp le ok (shares l) = shares (weaker_exp le ok l)
    weaker_exp le ok (builds f l) = builds f (weaker_all le ok l)
    weaker_exp le ok (builds_structs c l) = builds_structs c (weaker_all le ok l)
    weaker_exp le ok (builds_variants c l) = builds_variants c (weaker_all le ok l)
    weaker_exp le ok units = units
    weaker_exp le ok (lazies i j n l r) = lazies i j (omega (arith, le, n)) (weaker_exp {k = i} {k' = i} (omega arith) ok l) (weaker_exp {k = j} {k' = j} (omega arith) ok r)
    weaker_exp le ok (assigns p l) = assigns p (weaker_exp le ok l)
    weaker_exp le ok (updates p q l) = updates p q (weaker_exp le ok l)
    weaker_exp le ok (calls l) = calls (weaker_all le ok l)
    weaker_exp le ok inputs = inputs
    weaker_exp le ok (prints l) = prints (weaker_exp le ok l)
    weaker_exp le ok (blocks l) = blocks (weaker_body le ok l)
    weaker_exp le ok (chooses i j n l a) = chooses i j (omega (arith, le, n)) (weaker_matched {k = i} {k' = i} (omega arith) ok l) (weaker_arms {k = j} {k' = j} (omega arith) ok a)
    weaker_exp {J = J} le ok (loops {l = l} {l' = l'} apart a b e) = loops apart a b (weaker_exp more (w.into J l l' ok) e)
    weaker_exp le ok (stays f) = stays f
    weaker_exp le ok (gives f l) = gives f (weaker_exp le ok l)

    pub weaker_all : {k k' : ℕ} {J : Jumping} {R : Renaming} {es es' : Operands} → k ≤ k' → Ok J → LikeAll items O g V k J R es es' → LikeAll items O' g' W k' J R es es'
    weaker_all le ok no_operands = no_operands
    weaker_all le ok (operands_and i j n l ls) = operands_and i j (omega (arith, le, n)) (weaker_exp {k = i} {k' = i} (omega arith) ok l) (weaker_all {k = j} {k' = j} (omega arith) ok ls)

    pub weaker_matched : {k k' : ℕ} {J : Jumping} {R : Renaming} {c c' : Scrutinee} → k ≤ k' → Ok J → LikeMatched items O g V k J R c c' → LikeMatched items O' g' W k' J R c c'
    weaker_matched le ok at_places = at_places
    weaker_matched le ok (of_values l) = of_values (weaker_exp le ok l)

    pub weaker_arms : {k k' : ℕ} {J : Jumping} {R : Renaming} {c c' : Scrutinee} {l l' : Arms} → k ≤ k' → Ok J → LikeArms items O g V k J R c c' l l' → LikeArms items O' g' W k' J R c c' l l'
    weaker_arms le ok no_arms = no_arms
    weaker_arms le ok (arms_and Ra lt lb la ls) = arms_and Ra lt (weaker_bindings V W w.special lb) (weaker_exp le ok la) (weaker_arms le ok ls)

    pub weaker_body : {k k' : ℕ} {J : Jumping} {R : Renaming} {b b' : Body} → k ≤ k' → Ok J → LikeBody items O g V k J R b b' → LikeBody items O' g' W k' J R b b'
    weaker_body {k} {k'} {J} {R} le ok (opens_in {Ra = Ra} {b = b} {b' = b'} {f = f} {f' = f'} a i n o l) = opens_in {Ra = Ra} {b = b} {b' = b'} {f = f} {f' = f'} a i (omega (arith, le, n)) (w.statements a J R Ra b f f' ok o) (weaker_body {k = i} {k' = i} (omega arith) ok l)
    weaker_body le ok (ends_in l) = ends_in (weaker_exp le ok l)
    weaker_body le ok (runs_on i j n l lb) = runs_on i j (omega (arith, le, n)) (weaker_exp {k = i} {k' = i} (omega arith) ok l) (weaker_body {k = j} {k' = j} (omega arith) ok lb)
    weaker_body le ok (declares_all Ra ld lb) = declares_all Ra (weaker_declared V W w.special ld) (weaker_body le ok lb)
    weaker_body le ok (lets_in Ra i j n lc lp lb) = lets_in Ra i j (omega (arith, le, n)) (weaker_matched {k = i} {k' = i} (omega arith) ok lc) (weaker_bindings V W w.special lp) (weaker_body {k = j} {k' = j} (omega arith) ok lb)
    weaker_body le ok (reads_place l) = reads_place (weaker_body le ok l)
    weaker_body le ok (looks_behind x seen behind l) = looks_behind x seen behind (weaker_body le ok l)
