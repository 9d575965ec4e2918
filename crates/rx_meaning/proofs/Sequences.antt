-- Parts one behind another: each law goes by what the first part gave.
use Rattle.std.proofs.Common.{◌≡◌, ℕ, List, [], ◌∷◌, ◌++◌, refl, sym, ap, ◌∙◌, append_assoc}
use Rattle.std.proofs.lemmas.List.{append-nil}
use Rattle.rx_meaning.specs.Values.{Value, State}
use Rattle.rx_meaning.specs.Results.{Result, on, jumps, stops, after, bind, gives, result_of}
use Rattle.rx_meaning.specs.Acting.{plainly}
use Rattle.rx_meaning.specs.Patterns.{closed}

module _ {E : Type 0} where
  pub after_after : {A : Type 0} (u w : List E) (r : Result E A) → after u (after w r) ≡ after (u ++ w) r
  unfolding after
  after_after u w (on x a s) = ap (λ l. on l a s) (sym (append_assoc u w x))
  after_after u w (jumps x j v s) = ap (λ l. jumps l j v s) (sym (append_assoc u w x))
  after_after u w (stops x e) = ap (λ l. stops l e) (sym (append_assoc u w x))

  pub after_nothing : {A : Type 0} (r : Result E A) → after [] r ≡ r
  unfolding after
  after_nothing (on x a s) = refl
  after_nothing (jumps x j v s) = refl
  after_nothing (stops x e) = refl

  pub bind_after : {A B : Type 0} (w : List E) (r : Result E A) (f : A → State → Result E B) → bind (after w r) f ≡ after w (bind r f)
  unfolding bind after
  bind_after w (on x a s) f = sym (after_after w x (f a s))
  bind_after w (jumps x j v s) f = refl
  bind_after w (stops x e) f = refl

  pub bind_bind : {A B C : Type 0} (r : Result E A) (f : A → State → Result E B) (g : B → State → Result E C) → bind (bind r f) g ≡ bind r (λ a s. bind (f a s) g)
  unfolding bind
  bind_bind (on w a s) f g = bind_after w (f a s) g
  bind_bind (jumps w j v s) f g = refl
  bind_bind (stops w e) f g = refl

  -- what tells nothing goes on
  pub bind_on : {A B : Type 0} (a : A) (s : State) (f : A → State → Result E B) → bind (on [] a s) f ≡ f a s
  unfolding bind
  bind_on a s f = after_nothing (f a s)

  pub bind_same : {A B : Type 0} (r r2 : Result E A) (f g : A → State → Result E B) → r ≡ r2 → ((a : A) (s : State) → f a s ≡ g a s) → bind r f ≡ bind r2 g
  unfolding bind
  bind_same {A = A} {B = B} r r2 f g e h = ap (λ x. bind x f) e ∙ by r2
    where
      by : (r : Result E A) → bind r f ≡ bind r g
      by (on w a s) = ap (after w) (h a s)
      by (jumps w x v s) = refl
      by (stops w e) = refl

-- the end of a variable does nothing in a run that tells its bytes alone
pub closed_is : (n x : ℕ) (r : Result ℕ Value) → closed plainly n x r ≡ r
unfolding closed bind after result_of
closed_is n x (on w v s) = ap (λ l. on l v s) (append-nil w)
closed_is n x (jumps w j v s) = ap (λ l. jumps l j v s) (append-nil w)
closed_is n x (stops w e) = refl
