-- The plain way behaves: by cases on the action.
use Rattle.std.proofs.Common.{◌≡◌, ℕ, List, [], ◌∷◌, Option, Some, None, refl, subst}
use Rattle.rx_lower_walks.specs.Actions.{Act, Declare, Dead, Read, Write, Borrow, Test, Call, Build, Input, Print, Give}
use Rattle.rx_meaning.specs.Endings.{Cause}
use Rattle.rx_meaning.specs.Straying.{why_no_part, why_not_found, why_not_written, why_not_checked}
use Rattle.rx_meaning.specs.Values.{Value, get, State}
use Rattle.rx_meaning.specs.Results as results
use Rattle.rx_meaning.specs.Results.{Done, gives, or_ends}
use Rattle.rx_meaning.specs.Places.{spot, found, after_write}
use Rattle.rx_meaning.specs.Operators.{shown}
use Rattle.rx_meaning.specs.Acting.{checked, does_plainly, plainly}
use Rattle.rx_meaning_keeping.specs.Using.{Gives}
use Rattle.rx_meaning_keeping.specs.Reaching.{Behaves}

abbrev pub DoneSo : {E : Type 0} → Act → State → Done E → Type 0
DoneSo a s (gives t v s1) = Gives a s v s1
DoneSo a s (results.ends t e) = Unit {0}

or_so : {E A : Type 0} (a : Act) (s : State) (c : Cause) (o : Option A) (go : A → Done E) → ((x : A) → DoneSo a s (go x)) → DoneSo a s (or_ends c o go)
or_so a s c None go h = tt
or_so a s c (Some x) go h = h x

abbrev IsFree : Act → Type 0
IsFree (Write p t ss) = ⊥
IsFree (Print t) = ⊥
IsFree (Test p c) = ⊥
IsFree _ = Unit {0}

free_so : (a : Act) (s : State) → IsFree a → (r : Done ℕ) → DoneSo a s r
free_so (Declare x) s h (gives t v s1) = tt
free_so (Dead x) s h (gives t v s1) = tt
free_so (Read m p d) s h (gives t v s1) = tt
free_so (Borrow k p d) s h (gives t v s1) = tt
free_so (Call f ts d) s h (gives t v s1) = tt
free_so (Build w js ts d) s h (gives t v s1) = tt
free_so (Input d) s h (gives t v s1) = tt
free_so (Give d) s h (gives t v s1) = tt
free_so (Write p t ss) s h (gives u v s1) = absurd h
free_so (Print t) s h (gives u v s1) = absurd h
free_so (Test p c) s h (gives u v s1) = absurd h
free_so a s h (results.ends t e) = tt

pub plain_so : (a : Act) (vs : List Value) (s : State) → DoneSo a s (does_plainly a vs s)
plain_so (Write p t ss) (v ∷ []) s = or_so (Write p t ss) s (why_no_part ss v) (get ss v) _ (λ u. or_so (Write p t ss) s (why_not_found p [] s) (spot p [] s) _ (λ at. or_so (Write p t ss) s (why_not_written s.memory at) (after_write u s.memory at) _ (λ M. refl)))
plain_so (Write p t ss) [] s = tt
plain_so (Write p t ss) (v ∷ u ∷ vs) s = tt
plain_so (Print t) (v ∷ []) s = or_so (Print t) s (why_not_checked v) (shown v) _ (λ x. refl)
plain_so (Print t) [] s = tt
plain_so (Print t) (v ∷ u ∷ vs) s = tt
plain_so (Test p c) vs s = or_so (Test p c) s (why_not_found p vs s) (found p vs s) _ (λ f. or_so (Test p c) s (why_not_checked f.1) (checked c f.1) _ (λ b. (refl, b, refl)))
plain_so (Declare x) vs s = free_so (Declare x) s tt (does_plainly (Declare x) vs s)
plain_so (Dead x) vs s = free_so (Dead x) s tt (does_plainly (Dead x) vs s)
plain_so (Read m p d) vs s = free_so (Read m p d) s tt (does_plainly (Read m p d) vs s)
plain_so (Borrow k p d) vs s = free_so (Borrow k p d) s tt (does_plainly (Borrow k p d) vs s)
plain_so (Call f ts d) vs s = free_so (Call f ts d) s tt (does_plainly (Call f ts d) vs s)
plain_so (Build w js ts d) vs s = free_so (Build w js ts d) s tt (does_plainly (Build w js ts d) vs s)
plain_so (Input d) vs s = free_so (Input d) s tt (does_plainly (Input d) vs s)
plain_so (Give t) vs s = free_so (Give t) s tt (does_plainly (Give t) vs s)

pub so_done : {E : Type 0} (a : Act) (s : State) (r : Done E) (t : List E) (v : Value) (s1 : State) → DoneSo a s r → r ≡ gives t v s1 → Gives a s v s1
so_done a s r t v s1 h e = subst (λ z. DoneSo a s z) e h

pub plainly_behaves : Behaves plainly
plainly_behaves a vs s t v s1 e = so_done a.act s (does_plainly a.act vs s) t v s1 (plain_so a.act vs s) e
