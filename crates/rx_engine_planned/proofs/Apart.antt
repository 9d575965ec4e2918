-- No variable is both a param and a local of a run that is reached: where it is wholly set it stands.
use Rattle.std.proofs.Common.{◌≡◌, ℕ, Bool, true, false, if◌then◌else◌, List, [], ◌∷◌, ◌++◌, refl, sym, ap, ◌∙◌, subst}
use Rattle.rx_lower_walks.specs.Walks.{Among, here, there, IsWalk}
use Rattle.rx_lower_walks.specs.Actions.{Action}
use Rattle.rx_facts_tables.specs.Along.{after}
use Rattle.rx_facts_tables.specs.Setting.{setting, AllSet}
use Rattle.rx_facts_tables.specs.Wholes.{standing}
use Rattle.rx_typed.specs.Tree.{own}
use Rattle.rx_exits_plan.specs.Points.{enters}
use Rattle.rx_exits_plan.specs.Marked.{shown, marked}
use Rattle.rx_exits_plan.proofs.Marks.{none_new}
use Rattle.rx_exits_plan.specs.Asked.{Asked, ComesTo, IsLocal, IsParam}
use Rattle.rx_exits_plan.specs.Occurrences.{those}
use Rattle.rx_exits_plan.specs.Plan.{foreign_of, variables_of, Chosen, none, taken, left, IsPlan, Plan}
use Rattle.rx_exits_plan.specs.Unreachable.{NoneComes}
use Rattle.rx_meaning_keeping.specs.Ready.{HasPart}
use Rattle.rx_meaning_keeping.proofs.Parts.{parted}
use Rattle.rx_engine_related.specs.Accepted.{Accepted}
use Rattle.rx_engine_related.proofs.Blind.{after_alike, setting_blind, standing_blind}
use Rattle.rx_engine_related.proofs.Points.{shorter, stands_when_set}

-- what is chosen is one of the list, of which that holds
pub chosen_holds : {Q : ℕ → Type 0} {l m : List ℕ} → Chosen Q l m → (x : ℕ) → Among x m → Q x × Among x l
chosen_holds none x i = absurd (elim i [ ])
chosen_holds {Q} (taken {x = y} {l = l} {m = m} q c) x i = by i (λ j. chosen_holds c x j)
  where
    by : {z : ℕ} → Among z (y ∷ m) → (Among z m → Q z × Among z l) → Q z × Among z (y ∷ l)
    by here on = (q, here)
    by (there j) on = let r = on j in (r.0, there r.1)
chosen_holds (left q c) x i = let r = chosen_holds c x i in (r.0, there r.1)

those_among : (f : ℕ → Bool) (l : List ℕ) (x : ℕ) → Among x (those f l) → Among x l
those_among f [] x i = i
those_among f (y ∷ l) x i = by (f y) i (λ j. those_among f l x j)
  where
    by : (b : Bool) → Among x (if b then y ∷ those f l else those f l) → (Among x (those f l) → Among x l) → Among x (y ∷ l)
    by true i on = at i on
      where
        at : {z : ℕ} → Among z (y ∷ those f l) → (Among z (those f l) → Among z l) → Among z (y ∷ l)
        at here on = here
        at (there j) on = there (on j)
    by false i on = there (on i)

module _ (A : Asked) (muts : List Bool) (acc : Accepted A muts) where
  set_on : (x : ℕ) → HasPart A.frame x [] → (w : List Action) → ComesTo A enters w → AllSet A.frame w (own x) → after (standing x []) w false ≡ true
  set_on x (n, is) w comes set =
      let b = none_new A.function A.run A.home.around.loops w (shorter (marked A.run A.home.around.loops [] A.function) w (shown enters ∷ []) comes) in
      let s = stands_when_set A.frame (parted A.frame acc.sized) muts A.function acc.initialised x n is b.0 b.1 (sym (after_alike (setting A.frame n) (setting_blind A.frame n) w b.0 b.2) ∙ set n is) in
      after_alike (standing x []) (standing_blind x []) w b.0 b.2 ∙ s

  pub no_both : (k : Plan) → IsPlan A k → (NoneComes A enters → ⊥) → (x : ℕ) → Among x k.params → Among x k.locals → ⊥
  no_both k plan reached x i j = reached none_comes
    where
      none_comes : NoneComes A enters
      none_comes (w, comes) =
          let p = chosen_holds plan.params x i in
          let l = chosen_holds plan.locals x j in
          let s = set_on x (acc.named x (those_among _ (variables_of A) x p.1)) w comes (p.0 w comes) in
          clash (sym s ∙ l.0 w comes)
        where
          clash : true ≡ false → ⊥
          clash e = cc
