-- What a part told is a front of what it tells with what follows.
use Rattle.std.proofs.Common.{◌≡◌, ℕ, nat_eq, Bool, true, false, List, [], ◌∷◌, ◌++◌, refl, sym, ap, ◌∙◌, append_assoc, if◌then◌else◌}
use Rattle.std.proofs.lemmas.List.{append-nil}
use Rattle.rx_lower_walks.specs.Orders.{breaks, continues, returns}
use Rattle.rx_meaning.specs.Values.{Value, unit_value, Frame, State}
use Rattle.rx_meaning.specs.Results.{Result, on, jumps, stops, after, bind}
use Rattle.rx_meaning.specs.Acting.{Acting}
use Rattle.rx_meaning.specs.Patterns.{closed}
use Rattle.rx_meaning.specs.Expressions.{passed, returned}
use Rattle.rx_meaning.specs.Programs.{IsFront}
use Rattle.rx_meaning.specs.Telling.{told_by}

pub front_self : {A : Type 0} (w : List A) → IsFront w w
front_self w = ([], sym (append-nil w))

pub front_more : {A : Type 0} (o w x : List A) → IsFront o w → IsFront o (w ++ x)
front_more o w x h = (h.0 ++ x, ap (λ l. l ++ x) h.1 ∙ append_assoc o h.0 x)

pub told_after : {E A : Type 0} (w : List E) (r : Result E A) → told_by (after w r) ≡ w ++ told_by r
unfolding after
told_after w (on v a s) = refl
told_after w (jumps v x a s) = refl
told_after w (stops v e) = refl

-- behind what is told first
pub front_behind : {E A : Type 0} (w o : List E) (r : Result E A) → IsFront o (told_by r) → IsFront (w ++ o) (told_by (after w r))
front_behind w o r h = (h.0, told_after w r ∙ ap (λ l. w ++ l) h.1 ∙ sym (append_assoc w o h.0))

pub front_after : {E A : Type 0} (o w : List E) (r : Result E A) → IsFront o w → IsFront o (told_by (after w r))
front_after o w r h = let m = front_more o w (told_by r) h in (m.0, told_after w r ∙ m.1)

pub front_bind : {E A B : Type 0} (o : List E) (r : Result E A) (go : A → State → Result E B) → IsFront o (told_by r) → IsFront o (told_by (bind r go))
unfolding bind
front_bind o (on w a s) go h = front_after o w (go a s) h
front_bind o (jumps w x a s) go h = h
front_bind o (stops w e) go h = h

pub front_closed : {E : Type 0} (A : Acting E) (n x : ℕ) (o : List E) (r : Result E Value) → IsFront o (told_by r) → IsFront o (told_by (closed A n x r))
unfolding closed
front_closed A n x o (on w v s) h = front_after o w _ h
front_closed A n x o (jumps w j v s) h = front_after o w _ h
front_closed A n x o (stops w e) h = h

pub front_passed : {E : Type 0} (l : ℕ) (o : List E) (r : Result E Value) (go : State → Result E Value) → IsFront o (told_by r) → IsFront o (told_by (passed l r go))
unfolding passed
front_passed l o (on w v s) go h = front_after o w (go s) h
front_passed l o (jumps w (breaks n k) v s) go h = by (nat_eq k l)
  where
    by : (b : Bool) → IsFront o (told_by (if b then on w unit_value s else jumps w (breaks n k) v s))
    by true = h
    by false = h
front_passed l o (jumps w (continues n k) v s) go h = by (nat_eq k l)
  where
    by : (b : Bool) → IsFront o (told_by (if b then after w (go s) else jumps w (continues n k) v s))
    by true = front_after o w (go s) h
    by false = h
front_passed l o (jumps w (returns n) v s) go h = h
front_passed l o (stops w e) go h = h

pub told_returned : {E : Type 0} (A : Acting E) (F : Frame) (r : Result E Value) → told_by (returned A F r) ≡ A.inner (told_by r)
unfolding returned
told_returned A F (on w v s) = refl
told_returned A F (jumps w (breaks n k) v s) = refl
told_returned A F (jumps w (continues n k) v s) = refl
told_returned A F (jumps w (returns n) v s) = refl
told_returned A F (stops w e) = refl
