-- The plain way to act doesn't look at the turns; and what tells the actions of one that doesn't, doesn't.
use Rattle.std.proofs.Common.{ℕ, ℤ, List, [], ◌∷◌, ◌++◌, Option, Some, None, refl, ap, ◌∙◌}
use Rattle.rx_lower_walks.specs.Actions.{Act, Declare, Dead, Read, Write, Borrow, Test, Call, Build, Input, Print, Give, Action}
use Rattle.rx_meaning.specs.Endings.{Cause}
use Rattle.rx_meaning.specs.Values.{Value, get, State, with_turns}
use Rattle.rx_meaning.specs.Results.{Done, or_ends}
use Rattle.rx_meaning.specs.Places.{spot, found, whole_value, reference_to, after_write}
use Rattle.rx_meaning.specs.Operators as operators
use Rattle.rx_meaning.specs.Operators.{Computed, make, shown}
use Rattle.rx_meaning.specs.Acting.{Acting, checked, computed, next_input, does_plainly, plainly}
use Rattle.rx_meaning.specs.Programs.{IsFront}
use Rattle.rx_meaning.specs.Telling.{told, telling, Told, said, saying, noted, fully}
use Rattle.rx_meaning.proofs.Fronts.{front_self}
use Rattle.rx_meaning.proofs.Told.{said_append, saying_append}
use Rattle.rx_meaning.proofs.Turns.{SameDone, gave, ended, IsBlind}

or_blind : {A : Type 0} (t u : ℕ) (c : Cause) (o : Option A) (go go' : A → Done ℕ) → ((a : A) → SameDone t u (go a) (go' a)) → SameDone t u (or_ends c o go) (or_ends c o go')
or_blind t u c None go go' k = ended
or_blind t u c (Some a) go go' k = k a

computed_blind : (c : Computed) (s : State) (u : ℕ) → SameDone s.turns u (computed c s) (computed c (with_turns s u))
computed_blind (operators.gives v) s u = gave refl
computed_blind (operators.traps t) s u = ended
computed_blind operators.senseless s u = ended

input_blind : (l : List ℤ) (s : State) (u : ℕ) → SameDone s.turns u (next_input l s) (next_input l (with_turns s u))
input_blind [] s u = gave refl
input_blind (z ∷ zs) s u = gave refl

does_blind : (a : Act) (vs : List Value) (s : State) (u : ℕ) → SameDone s.turns u (does_plainly a vs s) (does_plainly a vs (with_turns s u))
does_blind (Declare x) vs s u = gave refl
does_blind (Dead x) vs s u = gave refl
does_blind (Read m p d) vs s u = or_blind s.turns u _ (found p vs s) _ _ (λ f. or_blind s.turns u _ (whole_value f) _ _ (λ v. gave refl))
does_blind (Write p t ss) [] s u = ended
does_blind (Write p t ss) (v ∷ []) s u = or_blind s.turns u _ (get ss v) _ _ (λ w. or_blind s.turns u _ (spot p [] s) _ _ (λ at. or_blind s.turns u _ (after_write w s.memory at) _ _ (λ M. gave refl)))
does_blind (Write p t ss) (v ∷ w ∷ vs) s u = ended
does_blind (Borrow k p d) vs s u = or_blind s.turns u _ (spot p vs s) _ _ (λ at. or_blind s.turns u _ (reference_to k at) _ _ (λ v. gave refl))
does_blind (Test p c) vs s u = or_blind s.turns u _ (found p vs s) _ _ (λ f. or_blind s.turns u _ (checked c f.1) _ _ (λ b. gave refl))
does_blind (Call f ts d) vs s u = gave refl
does_blind (Build w js ts d) vs s u = computed_blind (make w js vs) s u
does_blind (Input d) vs s u = input_blind s.input s u
does_blind (Print t) [] s u = ended
does_blind (Print t) (v ∷ []) s u = or_blind s.turns u _ (shown v) _ _ (λ bytes. gave refl)
does_blind (Print t) (v ∷ w ∷ vs) s u = ended
does_blind (Give t) [] s u = ended
does_blind (Give t) (v ∷ []) s u = gave refl
does_blind (Give t) (v ∷ w ∷ vs) s u = ended

pub plainly_blind : IsBlind plainly
plainly_blind = record { performs = λ a vs s u. does_blind a.act vs s u; tells = λ o w h. h }

module _ {E : Type 0} (A : Acting E) (blind : IsBlind A) where
  told_blind : (a : Action) (t u : ℕ) (r r' : Done E) → SameDone t u r r' → SameDone t u (told a r) (told a r')
  unfolding told
  told_blind a t u r r' (gave h) = gave h
  told_blind a t u r r' ended = ended

  pub telling_blind : IsBlind (telling A)
  telling_blind = record { performs = λ a vs s u. told_blind a s.turns u _ _ (blind.performs a vs s u); tells = λ o w h. front_self [] }

  noted_blind : (a : Action) (t u : ℕ) (r r' : Done E) → SameDone t u r r' → SameDone t u (noted a r) (noted a r')
  unfolding noted
  noted_blind a t u r r' (gave h) = gave h
  noted_blind a t u r r' ended = ended

  said_front : (o w : List (Told E)) → IsFront o w → IsFront (said o) (said w)
  said_front o w h = (said h.0, ap said h.1 ∙ said_append o h.0)

  saying_front : (o w : List E) → IsFront o w → IsFront (saying o) (saying w)
  saying_front o w h = (saying h.0, ap saying h.1 ∙ saying_append o h.0)

  pub fully_blind : IsBlind (fully A)
  fully_blind = record {
    performs = λ a vs s u. noted_blind a s.turns u _ _ (blind.performs a vs s u);
    tells = λ o w h. saying_front _ _ (blind.tells _ _ (said_front o w h));
  }
