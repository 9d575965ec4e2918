-- Whether a variable was assigned since it began: told alike of a walk without marks, and so where it stands.
use Rattle.std.proofs.Common.{◌≡◌, ◌⊎◌, inl, inr, ℕ, Bool, true, false, not, ◌&&◌, ◌||◌, ◌==◌, List, [], ◌∷◌, refl, sym, ap, true≢false}
use Rattle.std.proofs.lemmas.Bool.Decides.{Decides-eqb}
use Rattle.rx_core.specs.declared.types.Step.{Step}
use Rattle.rx_typed.specs.Tree.{Root, variable, temporary}
use Rattle.rx_typed.specs.TypedPlaces.{is_front, same_steps}
use Rattle.rx_lower_walks.specs.Actions.{Act, Declare, Dead, Read, Write, Borrow, Test, Call, Build, Input, Print, Give, Action}
use Rattle.rx_facts_tables.specs.Wholes.{is_variable, is_all, regains, loses, standing, assigns, begins, assigning}
use Rattle.rx_exits_plan.specs.Unmarked.{is_mark, unfilled}
use Rattle.rx_engine_simulation.specs.Histories.{IsRoot, IsWhole, Declares}
use Rattle.rx_engine_related.proofs.Since.{since}
use Rattle.rx_engine_related.proofs.Blind.{Blind}
use Rattle.rx_engine_related.proofs.Setting.{either, or_right}

module _ (x : ℕ) where
  assigns_none : (a : Act) → is_mark a ≡ true → (assigns x a ≡ false) × (begins x a ≡ false)
  assigns_none (Build w js ts d) e = (refl, refl)
  assigns_none (Declare y) e = absurd (true≢false (sym e))
  assigns_none (Dead y) e = absurd (true≢false (sym e))
  assigns_none (Read m p d) e = absurd (true≢false (sym e))
  assigns_none (Write p t ss) e = absurd (true≢false (sym e))
  assigns_none (Borrow k p d) e = absurd (true≢false (sym e))
  assigns_none (Test p c) e = absurd (true≢false (sym e))
  assigns_none (Call m ts d) e = absurd (true≢false (sym e))
  assigns_none (Input d) e = absurd (true≢false (sym e))
  assigns_none (Print d) e = absurd (true≢false (sym e))
  assigns_none (Give d) e = absurd (true≢false (sym e))

  pub assigns_same : (a : Act) → (assigns x (unfilled a) ≡ assigns x a) × (begins x (unfilled a) ≡ begins x a)
  assigns_same (Read m p d) = (refl, refl)
  assigns_same (Build w js ts d) = (refl, refl)
  assigns_same (Declare y) = (refl, refl)
  assigns_same (Dead y) = (refl, refl)
  assigns_same (Write p t ss) = (refl, refl)
  assigns_same (Borrow k p d) = (refl, refl)
  assigns_same (Test p c) = (refl, refl)
  assigns_same (Call m ts d) = (refl, refl)
  assigns_same (Input d) = (refl, refl)
  assigns_same (Print d) = (refl, refl)
  assigns_same (Give d) = (refl, refl)

  pub assigning_blind : Blind (assigning x)
  assigning_blind = record {
    gives_none = λ a e. (assigns_none a.act e).0;
    kills_none = λ a e. (assigns_none a.act e).1;
    gives_same = λ a. (assigns_same a.act).0;
    kills_same = λ a. (assigns_same a.act).1;
  }

  -- ---- what stands was assigned

  whole_front : (b : Bool) (ss : List Step) → (b && is_front ss []) ≡ true → (b && is_all ss) ≡ true
  whole_front b [] e = e
  whole_front true (s ∷ ss) e = e
  whole_front false (s ∷ ss) e = e

  behind_it : (l s : Bool) → not l && s ≡ true → s ≡ true
  behind_it true s q = absurd (true≢false (sym q))
  behind_it false s q = q

  unended : (l s t : Bool) → (s ≡ true → t ≡ true) → not (l && true) && s ≡ true → not l && t ≡ true
  unended true s t f e = absurd (true≢false (sym e))
  unended false s t f e = f e

  step : (a : Act) (s t : Bool) → (s ≡ true → t ≡ true) → regains x [] a || (not (loses x [] a) && s) ≡ true → assigns x a || (not (begins x a) && t) ≡ true
  step (Declare y) s t f e = unended (y == x) s t f e
  step (Dead y) s t f e = f (behind_it ((y == x) && true) s e)
  step (Read true p d) s t f e = f (behind_it (is_variable p.root x && same_steps p.steps []) s e)
  step (Read false p d) s t f e = f e
  step (Write p d ss) s t f e = by (either (is_variable p.root x && is_front p.steps []) s e)
    where
      by : ((is_variable p.root x && is_front p.steps []) ≡ true) ⊎ (s ≡ true) → (is_variable p.root x && is_all p.steps) || t ≡ true
      by (inl q) = first_so (is_variable p.root x && is_all p.steps) t (whole_front (is_variable p.root x) p.steps q)
        where
          first_so : (b c : Bool) → b ≡ true → b || c ≡ true
          first_so true c e = refl
          first_so false c e = absurd (true≢false (sym e))
      by (inr q) = or_right (is_variable p.root x && is_all p.steps) t (f q)
  step (Borrow k p d) s t f e = f e
  step (Test p c) s t f e = f e
  step (Call m ts d) s t f e = f e
  step (Build w js ts d) s t f e = f e
  step (Input d) s t f e = f e
  step (Print d) s t f e = f e
  step (Give d) s t f e = f e

  pub stands_assigned : (h : List Action) → since (standing x []) h ≡ true → since (assigning x) h ≡ true
  stands_assigned [] e = e
  stands_assigned (a ∷ h) e = step a.act (since (standing x []) h) (since (assigning x) h) (λ q. stands_assigned h q) e

  -- ---- in the words of histories

  pub whole_assigns : (r : Root) (ss : List Step) → IsRoot r x → IsWhole ss → (is_variable r x && is_all ss) ≡ true
  whole_assigns (variable y) [] i w = ap (λ b. b && true) ((Decides-eqb y x).1 (sym i))
  whole_assigns (variable y) (s ∷ ss) i w = absurd w
  whole_assigns (temporary t) ss i w = absurd i

  pub begins_declares : (a : Act) → begins x a ≡ true → Declares a x
  begins_declares (Declare y) e = sym ((Decides-eqb y x).0 e)
  begins_declares (Dead y) e = true≢false (sym e)
  begins_declares (Read m p d) e = true≢false (sym e)
  begins_declares (Write p t ss) e = true≢false (sym e)
  begins_declares (Borrow k p d) e = true≢false (sym e)
  begins_declares (Test p c) e = true≢false (sym e)
  begins_declares (Call m ts d) e = true≢false (sym e)
  begins_declares (Build w js ts d) e = true≢false (sym e)
  begins_declares (Input d) e = true≢false (sym e)
  begins_declares (Print d) e = true≢false (sym e)
  begins_declares (Give d) e = true≢false (sym e)
