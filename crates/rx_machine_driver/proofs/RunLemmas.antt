-- A machine that follows the steps has the outcome of the run.
use Rattle.std.proofs.Common.{◌≡◌, ◌<◌, ◌≤◌, ℕ, suc, ℤ, List, [], ◌∷◌, ◌++◌, reverse, Option, None, Some, refl, sym, ap, subst, ◌∙◌, arith}
use Rattle.std.proofs.lemmas.List.{append-nil}
use Rattle.rx_meaning.specs.declared.outcome.End.{End}
use Rattle.rx_meaning.specs.declared.outcome.Outcome.{Outcome}
use Rattle.rx_meaning.specs.Values as values
use Rattle.rx_meaning.specs.Values.{element, State}
use Rattle.rx_meaning.specs.Results.{Result, on, jumps, stops, after}
use Rattle.rx_meaning.specs.Expressions.{Functions}
use Rattle.rx_meaning.specs.Programs.{Program, outcome_of, begins, run}
use Rattle.rx_typed.specs.Tree.{Mark, Exp, Function}
use Rattle.rx_machine_values.specs.PlainMemory.{plain-Memory}
use Rattle.rx_machine_frames.specs.Frames as frames
use Rattle.rx_machine_frames.specs.Frames.{Around}
use Rattle.rx_machine_frames.specs.Stepping.{Config, Led, goes, waits, ends, config, means, called, entered, with_turn}
use Rattle.rx_machine_frames.specs.Sizes.{next_size, sizes}
use Rattle.rx_machine_frames.specs.Laws.{Keeps, Lessens}
use Rattle.rx_meaning.proofs.Sequences.{after_after, after_nothing}
use Rattle.rx_machine_frames.proofs.StepLemmas.{turn_keeps, run_begins}
use Rattle.rx_machine_driver.specs.declared.next.Next.{Next}
use Rattle.rx_machine_driver.specs.PlainSteps.{plain-Next}
use Rattle.rx_machine_driver.specs.declared.data.Machine.{Machine}
use Rattle.rx_machine_driver.specs.declared.data.Step.{Step}
use Rattle.rx_machine_driver.specs.declared.data.Step.TheVariants as step_to
use Rattle.rx_machine_driver.specs.declared.data.Turn.{Turn}
use Rattle.rx_machine_driver.specs.declared.data.Paused.{Paused}
use Rattle.rx_machine_driver.specs.declared.data.Paused.TheVariants as paused
use Rattle.rx_machine_driver.specs.Fitting.{AreAround, Fits, plain-Turn}
use Rattle.rx_machine_driver.specs.Running.{EndsSo, Follows, IsStep, Reaches, Turns, work_of, left_size, Stands, Ended, Pauses, IsFunction, IsCutOff}
use Rattle.rx_machine_driver.proofs.SlotLemmas.{tells_none}
use Rattle.rx_machine_driver.proofs.FitLemmas.{some_frames, some_state, fits_some, fits_weigh}

-- what was printed comes first in an outcome
outcome_after : (w : List ℕ) (r : Result ℕ values.Value) → outcome_of (after w r) ≡ record { printed = w ++ (outcome_of r).printed; end = (outcome_of r).end }
unfolding after
outcome_after w (on v a s) = refl
outcome_after w (jumps v x a s) = refl
outcome_after w (stops v e) = refl

module _ (P : Functions) (n t : ℕ) (o : Outcome) where
  -- it goes on
  goes_on : (old new : Machine) (c : Config) (w : List ℕ) (d : Config) (y : frames.Next) → Fits new t d.around d.state → y ≡ d.next → new.printed ≡ old.printed ++ w → means P n c ≡ after w (means P n d)
      → outcome_of (after old.printed (means P n c)) ≡ o → Stands P n t new y o
  goes_on old new c w d y f e p k h = (
    d.around,
    d.state,
    f,
    ap (λ x. outcome_of (after new.printed (means P n (config d.around x d.state)))) e
        ∙ ap (λ q. outcome_of (after q (means P n d))) p
        ∙ ap outcome_of (sym (after_after old.printed w (means P n d)))
        ∙ ap (λ r. outcome_of (after old.printed r)) (sym k) ∙ h,
  )

  -- it ends
  ended : (old new : Machine) (c : Config) (w : List ℕ) (e r : End) → r ≡ e → new.printed ≡ old.printed ++ w → outcome_of (means P n c) ≡ record { printed = w; end = e } → outcome_of (after old.printed (means P n c)) ≡ o
      → Ended new r o
  ended old new c w e r h p k i =
      ap (λ q. let x : Outcome = record { printed = q; end = r } in x) p ∙ ap (λ z. let x : Outcome = record { printed = old.printed ++ w; end = z } in x) h
      ∙ ap (λ (z : Outcome). let x : Outcome = record { printed = old.printed ++ z.printed; end = z.end } in x) (sym k) ∙ sym (outcome_after old.printed (means P n c)) ∙ i

  -- what a step or a turn led to
  Stepped : Machine → Step → Type 0
  Stepped new (step_to.Next y) = Stands P n t new (plain-Next y) o
  Stepped new (step_to.Turn u) = Stands P n t new (plain-Turn u) o
  Stepped new (step_to.End e) = Ended new e o

  by_step : (old new : Machine) (K : List Around) (s : State) (x : frames.Next) (led : Led) (to : Step) → Follows t old x K s led new to → Keeps P n (config K x s) led → outcome_of (after old.printed (means P n (config K x s))) ≡ o → Stepped new to
  unfolding Stepped
  by_step old new K s x (goes w d) (step_to.Next y) f k h = goes_on old new (config K x s) w d (plain-Next y) f.0 f.1 f.2 k h
  by_step old new K s x (goes w d) (step_to.Turn u) f k h = goes_on old new (config K x s) w d (plain-Turn u) f.0 f.1 f.2 k h
  by_step old new K s x (goes w d) (step_to.End e) f k h = absurd f
  by_step old new K s x waits (step_to.Next y) f k h = absurd f
  by_step old new K s x waits (step_to.Turn u) f k h = (K, s, f.0, ap (λ y. outcome_of (after new.printed (means P n (config K y s)))) f.1 ∙ ap (λ q. outcome_of (after q (means P n (config K x s)))) f.2 ∙ h)
  by_step old new K s x waits (step_to.End e) f k h = absurd f
  by_step old new K s x (ends w e) (step_to.Next y) f k h = absurd f
  by_step old new K s x (ends w e) (step_to.Turn u) f k h = absurd f
  by_step old new K s x (ends w e) (step_to.End r) f k h = ended old new (config K x s) w e r f.0 f.1 k h

  stepped : (old new : Machine) (x : frames.Next) (to : Step) → t < n → Reaches old x new to → Stands P n t old x o → Stepped new to
  stepped old new x to l h st =
      let e : st.1.turns ≡ t = st.2.turns in
      let r : (led : Led) × IsStep st.0 x st.1 led × Follows t old x st.0 st.1 led new to = h t st.0 st.1 st.2 in
      by_step old new st.0 st.1 x r.0 to r.2 (r.1.0 P n (omega (arith, e, l))) st.3

  pub stands_next : (old new : Machine) (x : frames.Next) (y : Next) → t < n → Reaches old x new (step_to.Next y) → Stands P n t old x o → Stands P n t new (plain-Next y) o
  unfolding Stepped
  stands_next old new x y l h st = stepped old new x (step_to.Next y) l h st

  pub stands_turn : (old new : Machine) (x : frames.Next) (u : Turn) → t < n → Reaches old x new (step_to.Turn u) → Stands P n t old x o → Stands P n t new (plain-Turn u) o
  unfolding Stepped
  stands_turn old new x u l h st = stepped old new x (step_to.Turn u) l h st

  pub stands_end : (old new : Machine) (x : frames.Next) (e : End) → t < n → Reaches old x new (step_to.End e) → Stands P n t old x o → Ended new e o
  unfolding Stepped
  stands_end old new x e l h st = stepped old new x (step_to.End e) l h st

  turned : (old new : Machine) (x : frames.Next) (to : Step) → suc t ≤ n → Turns P old x new to → Stands P n (suc t) old x o → Stepped new to
  turned old new x to l h st =
      let e : st.1.turns ≡ suc t = st.2.turns in
      let r : (led : Led) × ((n : ℕ) → st.1.turns ≤ n → Keeps P n (config st.0 x st.1) led) × Follows t old x st.0 st.1 led new to = h t st.0 st.1 st.2 in
      by_step old new st.0 st.1 x r.0 to r.2 (r.1 n (omega (arith, e, l))) st.3

  pub takes_next : (old new : Machine) (x : frames.Next) (y : Next) → suc t ≤ n → Turns P old x new (step_to.Next y) → Stands P n (suc t) old x o → Stands P n t new (plain-Next y) o
  unfolding Stepped
  takes_next old new x y l h st = turned old new x (step_to.Next y) l h st

  pub takes_turn : (old new : Machine) (x : frames.Next) (u : Turn) → suc t ≤ n → Turns P old x new (step_to.Turn u) → Stands P n (suc t) old x o → Stands P n t new (plain-Turn u) o
  unfolding Stepped
  takes_turn old new x u l h st = turned old new x (step_to.Turn u) l h st

  pub takes_end : (old new : Machine) (x : frames.Next) (e : End) → suc t ≤ n → Turns P old x new (step_to.End e) → Stands P n (suc t) old x o → Ended new e o
  unfolding Stepped
  takes_end old new x e l h st = turned old new x (step_to.End e) l h st

-- ---- steps come to the next turn

less_by : (old new : Machine) (K : List Around) (s : State) (x : frames.Next) (led : Led) (y : Next) → Fits old 0 K s → Follows 0 old x K s led new (step_to.Next y) → Lessens (config K x s) led → left_size new (plain-Next y) < left_size old x
less_by old new K s x (goes w d) y f k l =
    let a : work_of (reverse old.frames) ≡ sizes K = fits_weigh old 0 K s f in
    let b : work_of (reverse new.frames) ≡ sizes d.around = fits_weigh new 0 d.around d.state k.0 in
    let c : next_size (plain-Next y) ≡ next_size d.next = ap next_size k.1 in
    omega (arith, a, b, c, l)
less_by old new K s x waits y f k l = absurd k
less_by old new K s x (ends w e) y f k l = absurd k

pub step_lessens : (old new : Machine) (x : frames.Next) (y : Next) → Reaches old x new (step_to.Next y) → left_size new (plain-Next y) < left_size old x
step_lessens old new x y h =
    let K : List Around = some_frames old in
    let s : State = some_state old in
    let r : (led : Led) × IsStep K x s led × Follows 0 old x K s led new (step_to.Next y) = h 0 K s (fits_some old) in
    less_by old new K s x r.0 y (fits_some old) r.2 r.1.1

-- ---- whole runs

pub starts : (P : Program) (n : ℕ) (m : Machine) (input : List ℤ) (vs : List values.Value) → plain-Memory m.memory ≡ [] → m.slots.table.items ≡ [] → m.frames ≡ [] → m.input.now ≡ input → m.printed ≡ [] → vs ≡ []
    → Stands P.functions n n m (frames.finishes (frames.calls P.main) vs) (run P input n)
starts P n m input vs hm hs hf hi hp hv = (
  [],
  begins input n,
  record { memory = hm; slots = tells_none m.slots hs; input = hi; turns = refl; frames = subst (λ l. AreAround (reverse l) []) (sym hf) tt },
  ap (λ q. outcome_of (after q (means P.functions n (config [] (frames.finishes (frames.calls P.main) vs) (begins input n))))) hp
      ∙ ap outcome_of (after_nothing _)
      ∙ ap (λ l. outcome_of (means P.functions n (config [] (frames.finishes (frames.calls P.main) l) (begins input n)))) hv
      ∙ sym (run_begins P input n),
)

-- where no turn is left
pub cut : (P : Functions) (n : ℕ) (m : Machine) (u : Turn) (e : End) (o : Outcome) → IsCutOff P (plain-Turn u) e → Stands P n 0 m (plain-Turn u) o → Ended m e o
cut P n m u e o h st =
    let K : List Around = st.0 in
    let s : State = st.1 in
    let z : s.turns ≡ 0 = st.2.turns in
    let k : Keeps P n (config K (plain-Turn u) s) (ends [] e) = subst (λ l. Keeps P n (config K (plain-Turn u) s) l) (h K s z) (turn_keeps P n K (plain-Turn u) s (omega (arith, z))) in
    ended P n 0 o m m (config K (plain-Turn u) s) [] e e refl (sym (append-nil m.printed)) k st.3

pub call_cut : (P : Functions) (i : ℕ) (g : Function) (vs : List values.Value) → IsFunction (element P i) (Some g) → IsCutOff P (frames.finishes (frames.calls i) vs) End.Running
call_cut P i g vs e K s z = by (element P i) e
  where
    by : (o : Option (Option Function)) → IsFunction o (Some g) → called K i o vs s ≡ ends [] End.Running
    by None e = cc
    by (Some None) e = cc
    by (Some (Some f)) e = ap (λ n. with_turn n s (λ s1. entered K i f vs s1)) z

pub call_none : (P : Functions) (i : ℕ) (vs : List values.Value) → IsFunction (element P i) None → IsCutOff P (frames.finishes (frames.calls i) vs) End.Wrong
call_none P i vs e K s z = by (element P i) e
  where
    by : (o : Option (Option Function)) → IsFunction o None → called K i o vs s ≡ ends [] End.Wrong
    by None e = refl
    by (Some None) e = refl
    by (Some (Some f)) e = cc

pub loop_cut : (P : Functions) (m : Mark) (l : ℕ) (e : Exp) → IsCutOff P (frames.loops m l e) End.Running
loop_cut P m l e K s z = ap (λ n. with_turn n s (λ s1. goes [] (config (frames.pass m l e ∷ K) (frames.goes_into e) s1))) z

-- by what the machine waits for

module _ (P : Functions) (n : ℕ) (o : Outcome) where
  pub pauses_turn : (m : Machine) (p : Paused) (u : Turn) (t : ℕ) → p ≡ paused.Turn u → Pauses P n t m p o → Stands P n t m (plain-Turn u) o
  pauses_turn m p u t e h = subst (λ q. Pauses P n t m q o) e h

  pub pauses_end : (m : Machine) (p : Paused) (r : End) (t : ℕ) → p ≡ paused.End r → Pauses P n t m p o → Ended m r o
  pauses_end m p r t e h = subst (λ q. Pauses P n t m q o) e h

  pub pauses_at : (m : Machine) (p : Paused) (t k : ℕ) → t ≡ k → Pauses P n t m p o → Pauses P n k m p o
  pauses_at m p t k e h = subst (λ j. Pauses P n j m p o) e h

  pub last_ends : (m : Machine) (p : Paused) (e : End) → EndsSo P p e → Pauses P n 0 m p o → Ended m e o
  last_ends m (paused.Turn u) e h st = cut P n m u e o h st
  last_ends m (paused.End r) e h st = ap (λ z. let x : Outcome = record { printed = m.printed; end = z } in x) h ∙ st
