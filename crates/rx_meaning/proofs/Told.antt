-- Telling changes nothing: each action does what it did and tells besides, so these are ways to act that are alike.
use Rattle.std.proofs.Common.{◌≡◌, ℕ, ℤ, List, [], ◌∷◌, ◌++◌, refl, ap, sym, ◌∙◌}
use Rattle.rx_typed.specs.Tree.{Function}
use Rattle.rx_lower_walks.specs.Actions.{Action}
use Rattle.rx_meaning.specs.Values.{Value, State}
use Rattle.rx_meaning.specs.Results as results
use Rattle.rx_meaning.specs.Results.{Done, gives}
use Rattle.rx_meaning.specs.Acting.{Acting}
use Rattle.rx_meaning.specs.Expressions.{Functions, activation, below_level}
use Rattle.rx_meaning.specs.Programs.{Program, begins, run_by}
use Rattle.rx_meaning.specs.Telling.{told, telling, Told, says, did, said, acted, saying, noted, fully, Alike, Anything, SameSaid, SameActions}
use Rattle.rx_meaning.proofs.Kept.{DoneLeaves, IsKept}
use Rattle.rx_meaning.proofs.ActingAlike.{DoneAlike, gave, ended, activations_alike, called_alike}

pub said_append : {E : Type 0} (u v : List (Told E)) → said (u ++ v) ≡ said u ++ said v
said_append [] v = refl
said_append (says b ∷ u) v = ap (λ l. b ∷ l) (said_append u v)
said_append (did a ∷ u) v = said_append u v

pub acted_append : {E : Type 0} (u v : List (Told E)) → acted (u ++ v) ≡ acted u ++ acted v
acted_append [] v = refl
acted_append (says b ∷ u) v = acted_append u v
acted_append (did a ∷ u) v = ap (λ l. a ∷ l) (acted_append u v)

pub saying_append : {E : Type 0} (u v : List E) → saying (u ++ v) ≡ saying u ++ saying v
saying_append [] v = refl
saying_append (b ∷ u) v = ap (λ l. says b ∷ l) (saying_append u v)

pub said_saying : {E : Type 0} (w : List E) → w ≡ said (saying w)
said_saying [] = refl
said_saying (b ∷ w) = ap (λ l. b ∷ l) (said_saying w)

pub acted_saying : {E : Type 0} (w : List E) → [] ≡ acted (saying w)
acted_saying [] = refl
acted_saying (b ∷ w) = acted_saying w

module _ {E : Type 0} (A : Acting E) where
  -- the actions in place of what is told

  told_alike : (a : Action) (r : Done E) → DoneAlike Anything r (told a r)
  unfolding told
  told_alike a (gives w v s) = gave tt
  told_alike a (results.ends w e) = ended tt

  pub telling_alone : (P : Functions) (n : ℕ) (f : Function) (vs : List Value) (s : State) → Alike Anything (activation A (below_level A P n) f vs s) (activation (telling A) (below_level (telling A) P n) f vs s)
  telling_alone P n f vs s = activations_alike Anything tt (λ w x u y t k. tt) A (telling A) (λ w u t. tt) (λ a ws s1. told_alike a (A.perform a ws s1)) P n f vs s

  -- both

  said_join : (w x : List E) (u y : List (Told E)) → SameSaid w u → SameSaid x y → SameSaid (w ++ x) (u ++ y)
  said_join w x u y t k = ap (λ l. l ++ x) t ∙ ap (λ l. said u ++ l) k ∙ sym (said_append u y)

  said_within : (w : List E) (u : List (Told E)) → SameSaid w u → SameSaid (A.inner w) (saying (A.inner (said u)))
  said_within w u t = ap A.inner t ∙ said_saying (A.inner (said u))

  noted_said : (a : Action) (r : Done E) → DoneAlike SameSaid r (noted a r)
  unfolding noted
  noted_said a (gives w v s) = gave (said_saying w)
  noted_said a (results.ends w e) = ended (said_saying w)

  pub fully_says : (P : Functions) (n : ℕ) (f : Function) (vs : List Value) (s : State) → Alike SameSaid (activation A (below_level A P n) f vs s) (activation (fully A) (below_level (fully A) P n) f vs s)
  fully_says P n f vs s = activations_alike SameSaid refl said_join A (fully A) said_within (λ a ws s1. noted_said a (A.perform a ws s1)) P n f vs s

  pub runs_say : (P : Program) (given : List ℤ) (n : ℕ) → Alike SameSaid (run_by A P given n) (run_by (fully A) P given n)
  runs_say P given n = called_alike SameSaid refl said_join A (fully A) said_within (λ a ws s1. noted_said a (A.perform a ws s1)) P.functions n P.main [] (begins given n)

  -- the actions of both

  acted_join : (w x : List Action) (u y : List (Told E)) → SameActions w u → SameActions x y → SameActions (w ++ x) (u ++ y)
  acted_join w x u y t k = ap (λ l. l ++ x) t ∙ ap (λ l. acted u ++ l) k ∙ sym (acted_append u y)

  noted_acted : (a : Action) (r : Done E) → DoneAlike SameActions (told a r) (noted a r)
  unfolding told noted
  noted_acted a (gives w v s) = gave (ap (λ l. a ∷ l) (acted_saying w))
  noted_acted a (results.ends w e) = ended (ap (λ l. a ∷ l) (acted_saying w))

  pub fully_acts : (P : Functions) (n : ℕ) (f : Function) (vs : List Value) (s : State) → Alike SameActions (activation (telling A) (below_level (telling A) P n) f vs s) (activation (fully A) (below_level (fully A) P n) f vs s)
  fully_acts P n f vs s = activations_alike SameActions refl acted_join (telling A) (fully A) (λ w u t. acted_saying (A.inner (said u))) (λ a ws s1. noted_acted a (A.perform a ws s1)) P n f vs s

  -- what the way to act keeps of the state is kept

  noted_kept : (I : State → Type 0) (a : Action) (r : Done E) → DoneLeaves I r → DoneLeaves I (noted a r)
  unfolding noted
  noted_kept I a (gives w v s) h = h
  noted_kept I a (results.ends w e) h = tt

  pub fully_kept : (I : State → Type 0) → IsKept A I → IsKept (fully A) I
  fully_kept I k = record { performs = λ a vs s h. noted_kept I a (A.perform a vs s) (k.performs a vs s h); turns = k.turns; frames = k.frames }
