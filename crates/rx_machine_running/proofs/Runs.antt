-- What a run does, told without temporaries, is what it does.
use Rattle.std.proofs.Common.{◌≡◌, ℕ, zero, suc, ◌<◌, ℤ, List, [], refl, sym, ap, ◌∙◌, arith}
use Rattle.rx_typed.specs.Tree.{Temporary, temporary_of, Exp, read, borrow, share, build, unit, lazily, assign, update, call, input, print, block, choose, loop, jump, give, Operands, no_operand, operand_and, Scrutinee, at_place, of_value, Arms, no_arm, arm_and, Body, ends, runs, declares, lets, Function, mark_of}
use Rattle.rx_lower_walks.specs.Matching.{tests, bindings}
use Rattle.rx_lower_walks.specs.Actions.{Subject, subject}
use Rattle.rx_meaning.specs.Values.{Value, element, State}
use Rattle.rx_meaning.specs.Acting.{plainly}
use Rattle.rx_meaning.specs.Expressions as full
use Rattle.rx_meaning.specs.Expressions.{Functions, returned}
use Rattle.rx_meaning.specs.Programs as programs
use Rattle.rx_meaning.specs.Programs.{Program, outcome_of, begins}
use Rattle.rx_meaning.proofs.MoreTurns.{level_of}
use Rattle.rx_meaning.proofs.Blind.{plainly_blind}
use Rattle.rx_meaning.proofs.Sequences.{bind_same}
use Rattle.rx_machine_running.specs.Running.{Meaning, nowhere, value, values, matched, arms, body, entered, level, run}
use Rattle.rx_machine_running.proofs.Alike.{goes_on, decided_same, tested_same, bound_same, begun_same, arguments_same, turn_same, passed_same, found_same}

abbrev AllAlike : full.Meaning ℕ → Meaning → Type 0
AllAlike below lower = (e : Exp) (d : Temporary) (s : State) → below e d s ≡ lower e s

entered_is : (below : full.Meaning ℕ) (lower : Meaning) → AllAlike below lower → (i : ℕ) (f : Function) (vs : List Value) (s : State) → full.entered plainly below i f vs s ≡ entered lower i f vs s
entered_is below lower h i f vs s = ap (returned plainly s.frame) (arguments_same f.params (mark_of f.body).node vs _ _ _ (λ s1. h f.body (temporary_of f.body) s1))

mutual
  unfolding full.value value

  value_is : (P : Functions) (below : full.Meaning ℕ) (lower : Meaning) → AllAlike below lower → (e : Exp) (d : Temporary) (s : State) → full.value plainly P below e d s ≡ value P lower e s
  value_is P below lower h (read m moves p) d s = refl
  value_is P below lower h (build m w es) d s = bind_same _ _ _ _ (values_are P below lower h es s) (λ vs s1. refl)
  value_is P below lower h (unit m) d s = refl
  value_is P below lower h (block m b) d s = body_is P below lower h b m.node d s
  value_is P below lower h (borrow m k p) d s = refl
  value_is P below lower h (share m e) d s = bind_same _ _ _ _ (value_is P below lower h e _ s) (λ v s1. refl)
  value_is P below lower h (lazily m b e f) d s =
      bind_same _ _ _ _ (value_is P below lower h e _ s) (λ v s1. bind_same _ _ _ _ refl (λ t s2.
      bind_same _ _ _ _ (decided_same t _ _ _ _ s2 (λ s3. value_is P below lower h f _ s3) (λ s3. refl)) (λ w s4. refl)))
  value_is P below lower h (assign m p e) d s = bind_same _ _ _ _ (value_is P below lower h e _ s) (λ v s1. refl)
  value_is P below lower h (update m o p e) d s =
      bind_same _ _ _ _ (value_is P below lower h e _ s) (λ v s1. bind_same _ _ _ _ refl (λ u s2. bind_same _ _ _ _ refl (λ w s3. refl)))
  value_is P below lower h (call m f es) d s =
      bind_same _ _ _ _ (values_are P below lower h es s) (λ vs s1. goes_on _ _ _ ∙ found_same (element P f) _ _ (λ g. turn_same s1 _ _ (λ s2. entered_is below lower h f g vs s2)))
  value_is P below lower h (input m) d s = refl
  value_is P below lower h (print m e) d s = bind_same _ _ _ _ (value_is P below lower h e _ s) (λ v s1. refl)
  value_is P below lower h (loop m l e) d s = turn_same s _ _ (λ s1. passed_same l _ _ _ _ (h e (temporary_of e) s1) (λ s2. h (loop m l e) d s2))
  value_is P below lower h (jump m l again) d s = refl
  value_is P below lower h (choose m c l) d s = bind_same _ _ _ _ (matched_is P below lower h c s) (λ vs s1. arms_are P below lower h (subject c) vs l d s1)
  value_is P below lower h (give m e) d s = bind_same _ _ _ _ (value_is P below lower h e _ s) (λ v s1. goes_on _ _ _)

  values_are : (P : Functions) (below : full.Meaning ℕ) (lower : Meaning) → AllAlike below lower → (es : Operands) (s : State) → full.values plainly P below es s ≡ values P lower es s
  values_are P below lower h no_operand s = refl
  values_are P below lower h (operand_and i e es) s = bind_same _ _ _ _ (value_is P below lower h e _ s) (λ v s1. bind_same _ _ _ _ (values_are P below lower h es s1) (λ vs s2. refl))

  matched_is : (P : Functions) (below : full.Meaning ℕ) (lower : Meaning) → AllAlike below lower → (c : Scrutinee) (s : State) → full.matched plainly P below c s ≡ matched P lower c s
  matched_is P below lower h (at_place m p) s = refl
  matched_is P below lower h (of_value e) s = bind_same _ _ _ _ (value_is P below lower h e _ s) (λ v s1. refl)

  arms_are : (P : Functions) (below : full.Meaning ℕ) (lower : Meaning) → AllAlike below lower → (S : Subject) (vs : List Value) (l : Arms) (d : Temporary) (s : State) → full.arms plainly P below S vs l d s ≡ arms P lower S vs l s
  arms_are P below lower h S vs no_arm d s = refl
  arms_are P below lower h S vs (arm_and p e rest) d s =
      tested_same S vs (tests [] p) _ _ _ _ s (λ s1. bound_same S vs (bindings [] p) (mark_of e).node _ _ s1 (λ s2. value_is P below lower h e d s2)) (λ s1. arms_are P below lower h S vs rest d s1)

  body_is : (P : Functions) (below : full.Meaning ℕ) (lower : Meaning) → AllAlike below lower → (b : Body) (n : ℕ) (d : Temporary) (s : State) → full.body plainly P below b n d s ≡ body P lower b s
  body_is P below lower h (ends e) n d s = value_is P below lower h e d s
  body_is P below lower h (runs e rest) n d s = bind_same _ _ _ _ (value_is P below lower h e _ s) (λ v s1. body_is P below lower h rest n d s1)
  body_is P below lower h (declares i xs rest) n d s = begun_same i xs n _ _ s (λ s1. body_is P below lower h rest n d s1)
  body_is P below lower h (lets i p c rest) n d s =
      bind_same _ _ _ _ (matched_is P below lower h c s) (λ vs s1. bound_same (subject c) vs (bindings [] p) n _ _ s1 (λ s2. body_is P below lower h rest n d s2))

levels_are : (P : Functions) (n : ℕ) → AllAlike (full.below_level plainly P n) (level P n)
unfolding full.below_level level
levels_are P zero = λ e d s. refl
levels_are P (suc n) = λ e d s. value_is P (full.below_level plainly P n) (level P n) (levels_are P n) e d s

pub run_is : (P : Program) (given : List ℤ) (n : ℕ) → programs.run P given n ≡ run P given n
run_is P given n = ap outcome_of (found_same (element P.functions P.main) _ _ (λ g. turn_same (begins given n) _ _ (λ s1.
    entered_is (full.below_level plainly P.functions n) (level P.functions n) (levels_are P.functions n) P.main g [] s1)))

-- where fewer turns are left than may be nested, one level more says nothing
pub at_a_turn : (P : Functions) (n : ℕ) (e : Exp) (s : State) → s.turns < n → level P n e s ≡ value P (level P n) e s
unfolding level
at_a_turn P n e s l =
    sym (levels_are P n e nowhere s) ∙ level_of plainly plainly_blind P n (suc n) e nowhere s l (omega (arith, l)) ∙ levels_are P (suc n) e nowhere s
