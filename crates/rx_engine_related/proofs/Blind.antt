-- What is set, and what stands, is told alike of a walk and of the walk without its marks, whichever temporaries it fills.
use Rattle.std.proofs.Common.{◌≡◌, ℕ, Bool, true, false, not, ◌&&◌, ◌||◌, if◌then◌else◌, List, [], ◌∷◌, ◌++◌, refl, sym, ap, ◌∙◌, true≢false}
use Rattle.rx_core.specs.declared.types.Step.{Step}
use Rattle.rx_lower_walks.specs.Actions.{Act, Declare, Dead, Read, Write, Borrow, Test, Call, Build, Input, Print, Give, Action, does}
use Rattle.rx_facts_tables.specs.Along.{Switch, behind, after}
use Rattle.rx_facts_tables.specs.Places.{Frame}
use Rattle.rx_facts_tables.specs.Setting.{sets, unsets, setting}
use Rattle.rx_facts_tables.specs.Wholes.{regains, loses, standing}
use Rattle.rx_exits_plan.specs.Unmarked.{is_mark, unfilled, unmarked}

pub record Blind (S : Switch) : Type 0 where
  pub gives_none : (a : Action) → is_mark a.act ≡ true → S.gives a ≡ false
  pub kills_none : (a : Action) → is_mark a.act ≡ true → S.kills a ≡ false
  pub gives_same : (a : Action) → S.gives (does a.node (unfilled a.act)) ≡ S.gives a
  pub kills_same : (a : Action) → S.kills (does a.node (unfilled a.act)) ≡ S.kills a

idle : (g k b : Bool) → g ≡ false → k ≡ false → b ≡ g || (not k && b)
idle false false b e f = refl
idle true k b e f = absurd (true≢false e)
idle false true b e f = absurd (true≢false f)

abbrev bare : Action → Action
bare a = does a.node (unfilled a.act)

pub after_unmarked : (S : Switch) → Blind S → (w : List Action) (b : Bool) → after S (unmarked w) b ≡ after S w b
after_unmarked S k [] b = refl
after_unmarked S k (a ∷ w) b = by (λ c. after_unmarked S k w c) (is_mark a.act) refl
  where
    by : ((c : Bool) → after S (unmarked w) c ≡ after S w c) → (t : Bool) → is_mark a.act ≡ t → after S (if t then unmarked w else bare a ∷ unmarked w) b ≡ after S w (behind S a b)
    by ih true e = ih b ∙ ap (λ c. after S w c) (idle (S.gives a) (S.kills a) b (k.gives_none a e) (k.kills_none a e))
    by ih false e = ih (behind S (bare a) b) ∙ ap (λ c. after S w (c || (not (S.kills (bare a)) && b))) (k.gives_same a) ∙ ap (λ c. after S w (S.gives a || (not c && b))) (k.kills_same a)

pub after_alike : (S : Switch) → Blind S → (u w : List Action) → unmarked u ≡ unmarked w → after S u false ≡ after S w false
after_alike S k u w e = sym (after_unmarked S k u false) ∙ ap (λ l. after S l false) e ∙ after_unmarked S k w false

-- ---- switches

module _ (F : Frame) (n : ℕ) where
  sets_none : (a : Act) → is_mark a ≡ true → (sets F n a ≡ false) × (unsets F n a ≡ false)
  sets_none (Build w js ts d) e = (refl, refl)
  sets_none (Declare x) e = absurd (true≢false (sym e))
  sets_none (Dead x) e = absurd (true≢false (sym e))
  sets_none (Read m p d) e = absurd (true≢false (sym e))
  sets_none (Write p t ss) e = absurd (true≢false (sym e))
  sets_none (Borrow k p d) e = absurd (true≢false (sym e))
  sets_none (Test p c) e = absurd (true≢false (sym e))
  sets_none (Call m ts d) e = absurd (true≢false (sym e))
  sets_none (Input d) e = absurd (true≢false (sym e))
  sets_none (Print d) e = absurd (true≢false (sym e))
  sets_none (Give d) e = absurd (true≢false (sym e))

  sets_same : (a : Act) → (sets F n (unfilled a) ≡ sets F n a) × (unsets F n (unfilled a) ≡ unsets F n a)
  sets_same (Read true p d) = (refl, refl)
  sets_same (Read false p d) = (refl, refl)
  sets_same (Build w js ts d) = (refl, refl)
  sets_same (Declare x) = (refl, refl)
  sets_same (Dead x) = (refl, refl)
  sets_same (Write p t ss) = (refl, refl)
  sets_same (Borrow k p d) = (refl, refl)
  sets_same (Test p c) = (refl, refl)
  sets_same (Call m ts d) = (refl, refl)
  sets_same (Input d) = (refl, refl)
  sets_same (Print d) = (refl, refl)
  sets_same (Give d) = (refl, refl)

  pub setting_blind : Blind (setting F n)
  setting_blind = record {
    gives_none = λ a e. (sets_none a.act e).0;
    kills_none = λ a e. (sets_none a.act e).1;
    gives_same = λ a. (sets_same a.act).0;
    kills_same = λ a. (sets_same a.act).1;
  }

module _ (x : ℕ) (qs : List Step) where
  regains_none : (a : Act) → is_mark a ≡ true → (regains x qs a ≡ false) × (loses x qs a ≡ false)
  regains_none (Build w js ts d) e = (refl, refl)
  regains_none (Declare y) e = absurd (true≢false (sym e))
  regains_none (Dead y) e = absurd (true≢false (sym e))
  regains_none (Read m p d) e = absurd (true≢false (sym e))
  regains_none (Write p t ss) e = absurd (true≢false (sym e))
  regains_none (Borrow k p d) e = absurd (true≢false (sym e))
  regains_none (Test p c) e = absurd (true≢false (sym e))
  regains_none (Call m ts d) e = absurd (true≢false (sym e))
  regains_none (Input d) e = absurd (true≢false (sym e))
  regains_none (Print d) e = absurd (true≢false (sym e))
  regains_none (Give d) e = absurd (true≢false (sym e))

  regains_same : (a : Act) → (regains x qs (unfilled a) ≡ regains x qs a) × (loses x qs (unfilled a) ≡ loses x qs a)
  regains_same (Read true p d) = (refl, refl)
  regains_same (Read false p d) = (refl, refl)
  regains_same (Build w js ts d) = (refl, refl)
  regains_same (Declare y) = (refl, refl)
  regains_same (Dead y) = (refl, refl)
  regains_same (Write p t ss) = (refl, refl)
  regains_same (Borrow k p d) = (refl, refl)
  regains_same (Test p c) = (refl, refl)
  regains_same (Call m ts d) = (refl, refl)
  regains_same (Input d) = (refl, refl)
  regains_same (Print d) = (refl, refl)
  regains_same (Give d) = (refl, refl)

  pub standing_blind : Blind (standing x qs)
  standing_blind = record {
    gives_none = λ a e. (regains_none a.act e).0;
    kills_none = λ a e. (regains_none a.act e).1;
    gives_same = λ a. (regains_same a.act).0;
    kills_same = λ a. (regains_same a.act).1;
  }

-- ---- a last action that is no mark

pub record Last (l : List Action) (c : Action) (w : List Action) : Type 0 where
  pub front : List Action
  pub action : Action
  pub rest : List Action
  pub is : w ≡ front ++ action ∷ rest
  pub alike : unmarked front ≡ l
  pub same : bare action ≡ c

pub last_of : (l : List Action) (c : Action) (w : List Action) → unmarked w ≡ l ++ c ∷ [] → Last l c w
last_of l c [] e = absurd (none l e)
  where
    none : (l : List Action) → [] ≡ l ++ c ∷ [] → ⊥
    none [] e = cc
    none (d ∷ l) e = cc
last_of l c (b ∷ w) e = by (λ m h. last_of m c w h) (is_mark b.act) refl e
  where
    later : (m : List Action) (z : Last m c w) → unmarked (b ∷ z.front) ≡ l → Last l c (b ∷ w)
    later m z f = record { front = b ∷ z.front; action = z.action; rest = z.rest; is = ap (λ k. b ∷ k) z.is; alike = f; same = z.same }

    shown_first : ((m : List Action) → unmarked w ≡ m ++ c ∷ [] → Last m c w) → (l : List Action) → is_mark b.act ≡ false → bare b ∷ unmarked w ≡ l ++ c ∷ [] → Last l c (b ∷ w)
    shown_first ih [] f e = record { front = []; action = b; rest = w; is = refl; alike = refl; same = cc }
    shown_first ih (d ∷ l) f e =
        let q : bare b ≡ d = cc in
        let z = ih l (cc) in
        record { front = b ∷ z.front; action = z.action; rest = z.rest; is = ap (λ k. b ∷ k) z.is; alike = ap (λ t. if t then unmarked z.front else bare b ∷ unmarked z.front) f ∙ ap (λ k. bare b ∷ k) z.alike ∙ ap (λ k. k ∷ l) q; same = z.same }

    by : ((m : List Action) → unmarked w ≡ m ++ c ∷ [] → Last m c w) → (t : Bool) → is_mark b.act ≡ t → (if t then unmarked w else bare b ∷ unmarked w) ≡ l ++ c ∷ [] → Last l c (b ∷ w)
    by ih true f e = let z = ih l e in later l z (ap (λ t. if t then unmarked z.front else bare b ∷ unmarked z.front) f ∙ z.alike)
    by ih false f e = shown_first ih l f e
