-- A variable that does not stand is not living: what uses it would have found it set, on a walk of an initialised function.
use Rattle.std.proofs.Common.{◌≡◌, inr, ℕ, Bool, true, false, not, ◌&&◌, ◌||◌, ◌==◌, List, [], ◌∷◌, ◌++◌, Some, refl, sym, ap, ◌∙◌, subst, true≢false}
use Rattle.std.proofs.lemmas.Bool.Decides.{Decides-eqb}
use Rattle.rx_core.specs.declared.types.Step.{Step}
use Rattle.rx_typed.specs.Tree.{Root, variable, temporary, Place}
use Rattle.rx_typed.specs.TypedPlaces.{is_front}
use Rattle.rx_lower_walks.specs.Actions.{Act, Declare, Dead, Read, Write, Borrow, Test, Call, Build, Input, Print, Give, Action, does}
use Rattle.rx_lower_walks.specs.Walks.{IsWalk, Among}
use Rattle.rx_facts_tables.specs.Along.{after}
use Rattle.rx_facts_tables.specs.Setting.{looked_at}
use Rattle.rx_facts_tables.specs.Wholes.{placed, is_variable, regains, loses, standing, holds_in}
use Rattle.rx_facts_tables.specs.Wholes as wholes
use Rattle.rx_exits_plan.specs.Unmarked.{is_mark, unfilled}
use Rattle.rx_exits_plan.specs.Asked.{Asked}
use Rattle.rx_meaning_keeping.proofs.Parts.{Parted, parted}
use Rattle.rx_engine_simulation.specs.Histories.{IsRoot, IsWhole, WritesWhole, Uses, Living, asked, now, later}
use Rattle.rx_engine_simulation.specs.Programs.{back, IsHistory, Untouched, facts_of}
use Rattle.rx_engine_related.specs.Reads.{entry_read}
use Rattle.rx_engine_related.specs.AboutRun.{marked_with}
use Rattle.rx_engine_related.specs.Accepted.{Accepted}
use Rattle.rx_engine_related.proofs.Since.{since, after_back, next_walk}
use Rattle.rx_engine_related.proofs.Blind.{standing_blind}
use Rattle.rx_engine_related.proofs.Plainly.{acts}
use Rattle.rx_engine_related.proofs.Points.{shorter, standing_unturned, stands_when_set}

-- ---- uses, whichever temporaries are filled

pub uses_bare : (a : Act) (x : ℕ) → Uses (unfilled a) x ≡ Uses a x
uses_bare (Read m p d) x = refl
uses_bare (Borrow k p d) x = refl
uses_bare (Test p c) x = refl
uses_bare (Write p t ss) x = refl
uses_bare (Declare y) x = refl
uses_bare (Dead y) x = refl
uses_bare (Call f ts d) x = refl
uses_bare (Build w js ts d) x = refl
uses_bare (Input d) x = refl
uses_bare (Print t) x = refl
uses_bare (Give t) x = refl

pub bare_act : (a b : Action) → does a.node (unfilled a.act) ≡ does b.node (unfilled b.act) → unfilled a.act ≡ unfilled b.act
bare_act a b e = ap (λ (c : Action). c.act) e

-- what uses a variable is no mark
pub uses_unmarked : (a : Act) (x : ℕ) → Uses a x → is_mark a ≡ false
uses_unmarked (Read m p d) x u = refl
uses_unmarked (Borrow k p d) x u = refl
uses_unmarked (Test p c) x u = refl
uses_unmarked (Write p t ss) x u = refl
uses_unmarked (Declare y) x u = refl
uses_unmarked (Dead y) x u = refl
uses_unmarked (Call f ts d) x u = refl
uses_unmarked (Build w js ts d) x u = absurd u
uses_unmarked (Input d) x u = refl
uses_unmarked (Print t) x u = refl
uses_unmarked (Give t) x u = refl

pub not_entry : (xs : List ℕ) (x : ℕ) (a : Action) → Uses a.act x → (Among x xs → ⊥) → (y : ℕ) → Among y xs → a ≡ entry_read y → ⊥
not_entry xs x a u none y i e = by (subst (λ (b : Action). Uses b.act x) e u)
  where
    by : x ≡ y → ⊥
    by q = none (subst (λ z. Among z xs) (sym q) i)

-- what makes it stand writes the whole
pub regained : (x : ℕ) (a : Act) → regains x [] a ≡ true → WritesWhole a x
regained x (Write p t ss) e = its p.root p.steps e
  where
    its : (r : Root) (qs : List Step) → (is_variable r x && is_front qs []) ≡ true → IsRoot r x × IsWhole qs
    its (variable y) [] q = (sym ((Decides-eqb y x).0 (only (y == x) q)), tt)
      where
        only : (b : Bool) → b && true ≡ true → b ≡ true
        only true e = refl
        only false e = e
    its (variable y) (s ∷ qs) q = none_so (y == x) q
      where
        none_so : (b : Bool) → b && false ≡ true → (x ≡ y) × ⊥
        none_so true e = absurd (true≢false (sym e))
        none_so false e = absurd (true≢false (sym e))
    its (temporary t) qs q = absurd (true≢false (sym q))
regained x (Declare y) e = true≢false (sym e)
regained x (Dead y) e = true≢false (sym e)
regained x (Read m p d) e = true≢false (sym e)
regained x (Borrow k p d) e = true≢false (sym e)
regained x (Test p c) e = true≢false (sym e)
regained x (Call f ts d) e = true≢false (sym e)
regained x (Build w js ts d) e = true≢false (sym e)
regained x (Input d) e = true≢false (sym e)
regained x (Print t) e = true≢false (sym e)
regained x (Give t) e = true≢false (sym e)

-- ---- what is used stands

module _ (A : Asked) (muts : List Bool) (acc : Accepted A muts) where
  parts : Parted A.frame
  parts = parted A.frame acc.sized

  looked_stands : (w : List Action) (b : Action) (p : Place) (x : ℕ) → IsWalk A.function (w ++ b ∷ []) → looked_at b.act ≡ Some p → IsRoot p.root x → after (standing x []) w false ≡ true
  looked_stands w b p x k e i = by p.root p.steps i e
    where
      by : (r : Root) (ss : List Step) → IsRoot r x → looked_at b.act ≡ Some (record { root = r; steps = ss }) → after (standing x []) w false ≡ true
      by (temporary t) ss j q = absurd j
      by (variable y) ss j q = its (subst (λ z. looked_at b.act ≡ Some (placed z ss)) (sym j) q)
        where
          its : looked_at b.act ≡ Some (placed x ss) → after (standing x []) w false ≡ true
          its q =
              let part = acc.places w b x ss k q in
              stands_when_set A.frame parts muts A.function acc.initialised x part.0 (parts.within x [] ss part.0 part.1) w (shorter A.function w (b ∷ []) k)
              ((acc.initialised w b k).looks (placed x ss) q part.0 part.1)

  written_stands : (w : List Action) (b : Action) (x : ℕ) → IsWalk A.function (w ++ b ∷ []) → wholes.enters x [] b.act ≡ true → after (standing x []) w false ≡ true
  written_stands w b x k e = (acc.initialised w b k).enters x [] e

  enters_part : (r : Root) (ss : List Step) (x : ℕ) → IsRoot r x → (IsWhole ss → ⊥) → (is_variable r x && holds_in [] ss) ≡ true
  enters_part (variable y) [] x i n = absurd (n tt)
  enters_part (variable y) (s ∷ ss) x i n = ap (λ b. b && true) ((Decides-eqb y x).1 (sym i))
  enters_part (temporary t) ss x i n = absurd i

  pub used_stands : (w : List Action) (n : ℕ) (a : Act) (x : ℕ) → IsWalk A.function (w ++ does n a ∷ []) → Uses a x → after (standing x []) w false ≡ true
  used_stands w n (Read m p d) x k u = looked_stands w (does n (Read m p d)) p x k refl u
  used_stands w n (Borrow m p d) x k u = looked_stands w (does n (Borrow m p d)) p x k refl u
  used_stands w n (Test p c) x k u = looked_stands w (does n (Test p c)) p x k refl u
  used_stands w n (Write p t ss) x k u = written_stands w (does n (Write p t ss)) x k (enters_part p.root p.steps x u.0 u.1)
  used_stands w n (Declare y) x k u = absurd u
  used_stands w n (Dead y) x k u = absurd u
  used_stands w n (Call f ts d) x k u = absurd u
  used_stands w n (Build v js ts d) x k u = absurd u
  used_stands w n (Input d) x k u = absurd u
  used_stands w n (Print t) x k u = absurd u
  used_stands w n (Give t) x k u = absurd u

  -- ---- of the text with marks

  module _ (xs : List ℕ) (x : ℕ) (none : Among x xs → ⊥) where
    -- an action that uses the variable finds it standing
    pub use_finds : (a : Action) (h : List Action) → IsHistory (marked_with A xs) (a ∷ h) → Uses a.act x → since (standing x []) h ≡ true
    use_finds a h k u =
        let z = acts A.function A.run A.home.around.loops xs (back h []) a (standing x []) (standing_blind x []) (standing_unturned x xs) (uses_unmarked a.act x u) (not_entry xs x a u none) (next_walk (marked_with A xs) a h k) in
        let v : Uses z.action.act x = subst (λ (T : Type 0). T) (uses_bare z.action.act x) (subst (λ y. Uses y x) (sym (bare_act z.action a z.bare)) (subst (λ (T : Type 0). T) (sym (uses_bare a.act x)) u)) in
        sym (after_back (standing x []) h []) ∙ z.same ∙ used_stands z.list z.action.node z.action.act x z.walk v

    still_lost : (g k b : Bool) → (g ≡ true → ⊥) → b ≡ false → g || (not k && b) ≡ false
    still_lost true k b n e = absurd (n refl)
    still_lost false true b n e = refl
    still_lost false false b n e = e

    pub lost_dead : (l : List ℕ) (u : Untouched (marked_with A xs) (record { special = l; asked = [] })) (h : List Action) → since (standing x []) h ≡ false → Living (facts_of (marked_with A xs) (record { special = l; asked = [] }) u) x h → ⊥
    lost_dead l u h e (asked c) = c.1
    lost_dead l u h e (now a good uses) = true≢false (sym (use_finds a h good uses) ∙ e)
    lost_dead l u h e (later a n k) = lost_dead l u (a ∷ h) (still_lost (regains x [] a.act) (loses x [] a.act) (since (standing x []) h) (λ q. n (inr (regained x a.act q))) e) k
