-- References of the text that are shared in the answer: where the tests say so they are asked for again, and the place that a `let` of the
-- answer looks into is read.
use Rattle.std.proofs.Common.{◌≡◌, ℕ, ◌+◌, ◌≤◌, Bool, false, ◌&&◌, List, [], ◌∷◌, Option, Some, None, refl, ap, ◌∙◌}
use Rattle.rx_core.specs.declared.types.Step.{Step}
use Rattle.rx_core.specs.declared.types.Step.TheVariants as step
use Rattle.rx_typed.specs.Tree as tree
use Rattle.rx_typed.specs.Tree.{Root, Place, Pattern, Mark, Exp, Scrutinee, Body, variable, temporary, own}
use Rattle.rx_lower_walks.specs.Matching.{bindings}
use Rattle.rx_lower_walks.specs.Actions.{Subject, subject}
use Rattle.rx_exits_plan.specs.Changed.{Changes, changed}
use Rattle.rx_engine_simulation.specs.Turns.{Allowance}
use Rattle.rx_engine_simulation.specs.Histories.{Facts}
use Rattle.rx_engine_simulation.specs.Sights.{How, viewed, Sight, sight, Renaming, sight_of}
use Rattle.rx_engine_simulation.specs.Places.{looking, at_variable}
use Rattle.rx_engine_simulation.specs.Binders.{AreBehind, LikeBindings}
use Rattle.rx_engine_simulation.specs.Jumps.{Jumping}
use Rattle.rx_engine_simulation.specs.Openings.{Openings}
use Rattle.rx_engine_simulation.specs.Like.{LikeExp, LikeMatched, LikeBody, reads, views, lets_in, reads_place, looks_behind}
use Rattle.rx_engine_alike.specs.Ways.{Way}
use Rattle.rx_engine_alike.specs.Patterns.{binds_value}
use Rattle.rx_engine_alike.specs.Forms.{is_viewed, is_viewed_as, views_from, views_place, is_read_in, is_variable, looks_behind_place, views_exp, may_be_read}
use Rattle.rx_engine_alike_laws.proofs.Promised.{Says, says, silent, so, and_so, or_says, equal_so}
use Rattle.rx_engine_alike_laws.proofs.Ways.{like_place_so}
use Rattle.rx_engine_alike_laws.proofs.Patterns.{StandAlike, looks_behind_so}

abbrev place : Root → List Step → Place
place r ss = record { root = r; steps = ss }

viewed_so : (w : How) → Says (w ≡ viewed) (is_viewed w)
viewed_so viewed = says refl
viewed_so _ = silent

viewed_as_so : (R : Renaming) (x : ℕ) (o : Option Sight) (y : ℕ) → sight_of R x ≡ o → Says (sight_of R x ≡ Some (sight y viewed)) (is_viewed_as o y)
viewed_as_so R x None y q = silent
viewed_as_so R x (Some e) y q = and_so (equal_so e.to y) (viewed_so e.how) (λ k w. q ∙ (ap (λ z. Some (sight z e.how)) k ∙ ap (λ z. Some (sight y z)) w))

-- what a variable leads to, and the shared reference
pub data Views (R : Renaming) : Bool → Place → Place → Type 0 where
  a_view : {x y : ℕ} {n : Bool} → sight_of R x ≡ Some (sight y viewed) → Views R false (at_variable x (step.Deref n ∷ [])) (own y)

views_from_so : (R : Renaming) (b : Bool) (r : Root) (ss : List Step) (r' : Root) (ss' : List Step) → Says (Views R b (place r ss) (place r' ss')) (views_from R b r ss r' ss')
views_from_so R false (variable x) (step.Deref n ∷ []) (variable y) [] = so (λ s. a_view s) (viewed_as_so R x (sight_of R x) y refl)
views_from_so R _ _ _ _ _ = silent

pub views_place_so : (R : Renaming) (b : Bool) (p p' : Place) → Says (Views R b p p') (views_place R b p p')
views_place_so R b p p' = views_from_so R b p.root p.steps p'.root p'.steps

-- the answer's place may be read
pub data MayRead (R : Renaming) : Pattern → Place → Type 0 where
  by_binding : {n z y : ℕ} {v : Bool} → MayRead R (tree.bind n z (tree.by_value v)) (own y)
  by_looking : {y : ℕ} {q : Pattern} (x : ℕ) → sight_of R x ≡ Some (sight y viewed) → AreBehind y (bindings [] q) → MayRead R q (own y)

neither : {P Q : Type 0} {a : Bool} → Says P a → Says Q (a && false)
neither (says p) = silent
neither silent = silent

pub binds_so : (R : Renaming) (q : Pattern) (r : Root) (ss : List Step) → Says (MayRead R q (place r ss)) (binds_value q && is_variable r ss)
binds_so R (tree.bind n z (tree.by_value v)) (variable y) [] = says by_binding
binds_so R (tree.bind n z (tree.by_value v)) _ _ = silent
binds_so R _ r ss = silent

looked : {R : Renaming} {b : Bool} {p : Place} {y : ℕ} {q : Pattern} → Views R b p (own y) → AreBehind y (bindings [] q) → MayRead R q (own y)
looked (a_view {x = x} s) k = by_looking x s k

pub looks_so : (R : Renaming) (e : Exp) (q : Pattern) (r : Root) (ss : List Step) → Says (MayRead R q (place r ss)) (views_exp R e (place r ss) && looks_behind_place r ss q)
looks_so R (tree.borrow m b p) q (variable y) [] = and_so (views_place_so R b p (own y)) (looks_behind_so y q) (λ v k. looked {q = q} v k)
looks_so R (tree.borrow m b p) q (variable y) (s ∷ ss) = neither (views_place_so R b p (place (variable y) (s ∷ ss)))
looks_so R (tree.borrow m b p) q (temporary t) ss = neither (views_place_so R b p (place (temporary t) ss))
looks_so R _ q r ss = silent

module _ (items : ℕ → ℕ) (O : Openings) (gain : Allowance) (V : Facts) where
  pub viewing : {k : ℕ} {J : Jumping} {R : Renaming} {m m' : Mark} {b v : Bool} {p p' : Place} → Views R b p p' → LikeExp items O gain V k J R (tree.borrow m b p) (tree.read m' v p')
  viewing (a_view s) = views s

  -- the place stands for a value that is read
  reading : {k s' : ℕ} {J : Jumping} {R : Renaming} {q : Pattern} {m : Mark} {p : Place} {b b' : Body} → MayRead R q p
      → LikeBody items O gain V k J R b (tree.lets s' q (tree.of_value (tree.read m false p)) b') → LikeBody items O gain V k J R b (tree.lets s' q (tree.at_place m p) b')
  reading by_binding l = reads_place l
  reading (by_looking x s k) l = looks_behind x s k l

  module _ (C : Changes) where
    -- and the text's value is that
    pub data ReadFor (R : Renaming) (e : Exp) (q : Pattern) (p : Place) : Type 0 where
      read_for : ((k : ℕ) (J : Jumping) (m : Mark) → LikeExp items O gain V k J R (changed C e) (tree.read m false p))
          → ((k s' : ℕ) (J : Jumping) (m : Mark) (b b' : Body) → LikeBody items O gain V k J R b (tree.lets s' q (tree.of_value (tree.read m false p)) b')
          → LikeBody items O gain V k J R b (tree.lets s' q (tree.at_place m p) b'))
          → ReadFor R e q p

    pub read_in_so : (R : Renaming) (p : Place) (e : Exp) → Says ((k : ℕ) (J : Jumping) (m : Mark) → LikeExp items O gain V k J R (changed C e) (tree.read m false p)) (is_read_in R p e)
    read_in_so R q (tree.read m v p) = so (λ l k J n. reads l) (like_place_so R looking p q)
    read_in_so R q (tree.borrow m b p) = so (λ s k J n. viewing s) (views_place_so R b p q)
    read_in_so R q _ = silent

    pub may_be_read_so : (R : Renaming) (e : Exp) (q : Pattern) (p : Place) → Says (ReadFor R e q p) (may_be_read R e q p)
    may_be_read_so R e q p = and_so (read_in_so R p e) (or_says (binds_so R q p.root p.steps) (looks_so R e q p.root p.steps)) (λ r o. read_for r (λ k s' J m b b' l. reading o l))

  -- a `let` of the answer matches as the text's does with this scrutinee, or with one that stands for it
  pub data LetLike (k : ℕ) (J : Jumping) (R : Renaming) (w : Way) (c : Scrutinee) (q : Pattern) (z : Scrutinee) : Type 0 where
    let_like : (c' : Scrutinee) → LikeMatched items O gain V k J R c c' → StandAlike R w (subject c) (subject c')
        → ((j s' : ℕ) (b b' : Body) → LikeBody items O gain V j J R b (tree.lets s' q c' b') → LikeBody items O gain V j J R b (tree.lets s' q z b')) → LetLike k J R w c q z

  -- what follows it
  pub data RestLike (k : ℕ) (J : Jumping) (R : Renaming) (w : Way) (q q' : Pattern) (b y : Body) : Type 0 where
    rest_like : (Ra : Renaming) → ((S S' : Subject) → StandAlike R w S S' → LikeBindings V S S' R (bindings [] q) (bindings [] q') Ra) → LikeBody items O gain V k J Ra b y → RestLike k J R w q q' b y

  pub let_rest : {i j k s s' : ℕ} {J : Jumping} {R : Renaming} {w : Way} {c z : Scrutinee} {q q' : Pattern} {b y : Body} → i + j ≤ k → LetLike i J R w c q' z → RestLike j J R w q q' b y
      → LikeBody items O gain V k J R (tree.lets s q c b) (tree.lets s' q' z y)
  let_rest {i} {j} {k} {s} {s'} {c = c} {q = q} {b = b} {y = y} le (let_like c' m st f) (rest_like Ra g l) = f k s' (tree.lets s q c b) y (lets_in Ra i j le m (g (subject c) (subject c') st) l)
