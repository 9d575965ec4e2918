-- Members of lists; and what an action that leaves a variable does not do.
use Rattle.std.proofs.Common.{◌≡◌, ◌⊎◌, inl, inr, ℕ, Bool, true, false, ◌&&◌, ◌==◌, List, [], ◌∷◌, ◌++◌, Some, refl, sym, ◌∙◌, subst, ap, true≢false, eqb-true}
use Rattle.rx_typed.specs.Tree.{Root, variable, temporary}
use Rattle.rx_lower_walks.specs.Actions.{Act, Declare, Dead, Read, Write, Borrow, Test, Call, Build, Input, Print, Give}
use Rattle.rx_lower_walks.specs.Walks.{Among, here, there}
use Rattle.rx_facts_tables.specs.Wholes.{assigns, begins, is_variable, is_all}
use Rattle.rx_exits_plan.specs.Blocks.{Statement, declared_by, declared_by_all}
use Rattle.rx_engine_simulation.specs.Sights.{Hold, plain, special, Sight, sight, Renaming, sight_of}
use Rattle.rx_engine_related.specs.Given.{LocalsOf, all_locals, a_local}
use Rattle.rx_engine_initial.specs.Copies.{IsOther}
use Rattle.rx_engine_initial.specs.Fates.{LeavesBe}
use Rattle.rx_engine_initial.proofs.Uses.{some_is}
use Rattle.rx_engine_initial.proofs.Ways.{same_self, other_number}
use Rattle.rx_engine_initial_related.proofs.Acts.{among_front, among_rest}
use Rattle.rx_engine_initial_related.proofs.Receiving.{not_first}

-- ---- lists and acts

pub split : {X : Type 0} {x : X} (l m : List X) → Among x (l ++ m) → Among x l ⊎ Among x m
split [] m j = inr j
split (y ∷ l) m here = inl here
split {X} {x} (y ∷ l) m (there j) = by (split l m j)
  where
    by : Among x l ⊎ Among x m → Among x (y ∷ l) ⊎ Among x m
    by (inl q) = inl (there q)
    by (inr q) = inr q

pub declared_split : (z : ℕ) (ss ts : List Statement) → Among z (declared_by_all (ss ++ ts)) → Among z (declared_by_all ss) ⊎ Among z (declared_by_all ts)
declared_split z [] ts j = inr j
declared_split z (s ∷ ss) ts j = by (split (declared_by s) (declared_by_all (ss ++ ts)) j) (λ q. declared_split z ss ts q)
  where
    rest : Among z (declared_by_all ss) ⊎ Among z (declared_by_all ts) → Among z (declared_by s ++ declared_by_all ss) ⊎ Among z (declared_by_all ts)
    rest (inl q) = inl (among_rest (declared_by s) (declared_by_all ss) q)
    rest (inr q) = inr q

    by : Among z (declared_by s) ⊎ Among z (declared_by_all (ss ++ ts)) → (Among z (declared_by_all (ss ++ ts)) → Among z (declared_by_all ss) ⊎ Among z (declared_by_all ts))
        → Among z (declared_by s ++ declared_by_all ss) ⊎ Among z (declared_by_all ts)
    by (inl q) f = inl (among_front (declared_by s) (declared_by_all ss) q)
    by (inr q) f = rest (f q)

pub in_or_not : (x : ℕ) (l : List ℕ) → Among x l ⊎ (Among x l → ⊥)
in_or_not x [] = inr (λ j. elim j [ ])
in_or_not x (y ∷ l) = by (x == y) refl (in_or_not x l)
  where
    rest : (x == y) ≡ false → Among x l ⊎ (Among x l → ⊥) → Among x (y ∷ l) ⊎ (Among x (y ∷ l) → ⊥)
    rest q (inl j) = inl (there j)
    rest q (inr n) = inr (not_first x y l (λ (e : x ≡ y). true≢false (sym (same_self x) ∙ subst (λ v. (x == v) ≡ false) (sym e) q)) n)

    by : (b : Bool) → (x == y) ≡ b → Among x l ⊎ (Among x l → ⊥) → Among x (y ∷ l) ⊎ (Among x (y ∷ l) → ⊥)
    by true q r = inl (subst (λ v. Among x (v ∷ l)) (eqb-true x y q) here)
    by false q r = rest q r

other_variable : (y z : ℕ) (all : Bool) → (y ≡ z → ⊥) → (y == z) && all ≡ false
other_variable y z all n = ap (λ b. b && all) (other_number y z n)

-- what leaves a variable as it is neither assigns nor begins it
pub leaves_quiet : (a : Act) (z : ℕ) → LeavesBe a z → (assigns z a ≡ false) × (begins z a ≡ false)
leaves_quiet (Declare y) z h = (refl, other_number y z h)
leaves_quiet (Dead y) z h = (refl, refl)
leaves_quiet (Read true p d) z h = (refl, refl)
leaves_quiet (Read false p d) z h = (refl, refl)
leaves_quiet (Write p t ss) z h = (by p.root h, refl)
  where
    by : (r : Root) → IsOther r z → is_variable r z && is_all p.steps ≡ false
    by (variable y) q = other_variable y z (is_all p.steps) q
    by (temporary t) q = refl
leaves_quiet (Borrow v p d) z h = (refl, refl)
leaves_quiet (Test p c) z h = (refl, refl)
leaves_quiet (Call g ts d) z h = (refl, refl)
leaves_quiet (Build w is ts d) z h = (refl, refl)
leaves_quiet (Input d) z h = (refl, refl)
leaves_quiet (Print t) z h = (refl, refl)
leaves_quiet (Give t) z h = (refl, refl)

pub not_special : {A : Type 0} {w : Hold} {y z : ℕ} → Some (sight y special) ≡ Some (sight z (plain w)) → A
not_special e = absurd (clash (ap (λ (s : Sight). s.how) (some_is e)))
  where
    clash : {w : Hold} → special ≡ plain w → ⊥
    clash q = cc

pub local_special : {R N M : Renaming} {xs : List ℕ} {ls : List (ℕ × ℕ)} → LocalsOf R N xs ls M → (x : ℕ) → Among x xs → (y : ℕ) × (sight_of R x ≡ Some (sight y special))
local_special all_locals x j = elim j [ ]
local_special (a_local {y = y} h n f l) _ here = (y, h)
local_special (a_local h n f l) x (there j) = local_special l x j
