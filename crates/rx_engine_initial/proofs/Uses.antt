-- What an action looks at, enters or writes: the variables that it uses, and what a write of a whole makes true.
use Rattle.std.proofs.Common.{◌≡◌, ℕ, ◌<◌, Bool, true, false, not, ◌&&◌, ◌||◌, ◌==◌, nat_le, nat_lt, List, [], ◌∷◌, ◌++◌, Option, Some, None, refl, sym, ◌∙◌, subst, ap, eqb-true, eq-eqb, ltb-true, arith}
use Rattle.rx_core.specs.declared.types.Step.{Step}
use Rattle.rx_core.specs.declared.types.Step.TheVariants as step
use Rattle.rx_typed.specs.Types.{Declarations}
use Rattle.rx_typed.specs.Tree.{Root, variable, temporary, Temporary, Place, own}
use Rattle.rx_lower_walks.specs.Actions.{Act, Declare, Dead, Read, Write, Borrow, Test, Call, Build, Input, Print, Give, Action, does}
use Rattle.rx_facts_tables.specs.Along.{Switch, behind, after, ahead}
use Rattle.rx_facts_tables.specs.Places.{Frame, is_part, located, at, nowhere, spans}
use Rattle.rx_facts_tables.specs.Setting.{looked_at, setting}
use Rattle.rx_facts_tables.specs.Wholes.{placed, holds_in, is_variable, enters, assigns, begins, assigning, was_assigned}
use Rattle.rx_facts_tables.specs.Live.{living, used, written, has_root, roots_of}
use Rattle.rx_engine_initial.specs.Variables.{fresh}
use Rattle.rx_engine_initial.proofs.Ways.{no, and_left, and_right, same_self}

pub or_false : (b : Bool) → b ≡ true → (b || false) ≡ true
or_false true h = refl
or_false false h = no h

pub first_true : (b : Bool) → (b || false) ≡ true → b ≡ true
first_true true h = refl
first_true false h = no h

pub some_is : {A : Type 0} {a b : A} → Some a ≡ Some b → a ≡ b
some_is e = cc

pub none_is : {A B : Type 0} {a : A} → None ≡ Some a → B
none_is e = absurd (cc)

-- what an action writes as a whole is this variable
pub written_is : (x : ℕ) (a : Act) → has_root (roots_of (written a)) (variable x) ≡ true → (P : Act → Type 0) → ((t : Temporary) (ss : List Step) → P (Write (own x) t ss)) → P a
written_is x (Write p t ss) h P f = of_write p.root p.steps h
  where
    of_write : (r : Root) (qs : List Step) → has_root (roots_of (written (Write (record { root = r; steps = qs }) t ss))) (variable x) ≡ true → P (Write (record { root = r; steps = qs }) t ss)
    of_write (variable y) [] h = subst (λ (z : ℕ). P (Write (own z) t ss)) (eqb-true x y (first_true (x == y) h)) (f t ss)
    of_write (variable y) (q ∷ qs) h = no h
    of_write (temporary u) [] h = no h
    of_write (temporary u) (q ∷ qs) h = no h
written_is x (Declare y) h P f = no h
written_is x (Dead y) h P f = no h
written_is x (Read m p d) h P f = no h
written_is x (Borrow k p d) h P f = no h
written_is x (Test p c) h P f = no h
written_is x (Call g ts d) h P f = no h
written_is x (Build w is ts d) h P f = no h
written_is x (Input d) h P f = no h
written_is x (Print t) h P f = no h
written_is x (Give t) h P f = no h

pub uses_self : (x : ℕ) → has_root (variable x ∷ []) (variable x) ≡ true
uses_self x = or_false (x == x) (same_self x)

-- a write of a part uses the variable
pub entered_uses : (x : ℕ) (qs ss : List Step) (t : Temporary) (rs : List Step) → holds_in qs ss ≡ true → has_root (used (Write (placed x ss) t rs)) (variable x) ≡ true
entered_uses x [] [] t rs h = no h
entered_uses x (q ∷ qs) [] t rs h = no h
entered_uses x qs (s ∷ ss) t rs h = or_false (x == x) (same_self x)

-- ---- a variable that was not assigned is one of which "assigned" is false

of_begin : (c b : Bool) → (c || not b) ≡ not (not c && b)
of_begin true b = refl
of_begin false b = refl

of_write : (c b : Bool) → (not c && not b) ≡ not (c || b)
of_write true b = refl
of_write false b = refl

turned : (x : ℕ) (a : Act) (n : ℕ) (b : Bool) → behind (fresh x) (does n a) (not b) ≡ not (behind (assigning x) (does n a) b)
turned x (Declare y) n b = of_begin (y == x) b
turned x (Write p t ss) n b = of_write (assigns x (Write p t ss)) b
turned x (Dead y) n b = refl
turned x (Read m p d) n b = refl
turned x (Borrow k p d) n b = refl
turned x (Test p c) n b = refl
turned x (Call g ts d) n b = refl
turned x (Build w is ts d) n b = refl
turned x (Input d) n b = refl
turned x (Print t) n b = refl
turned x (Give t) n b = refl

pub all_turned : (x : ℕ) (w : List Action) (b : Bool) → after (fresh x) w (not b) ≡ not (after (assigning x) w b)
all_turned x [] b = refl
all_turned x (a ∷ w) b = ap (λ c. after (fresh x) w c) (turned x a.act a.node b) ∙ all_turned x w (behind (assigning x) a b)

pub not_true_is : (b : Bool) → not b ≡ true → b ≡ false
not_true_is true h = no h
not_true_is false h = refl

-- ---- no place of a temporary has parts

no_spot : (D : Declarations) (P : ℕ → ℕ) (ss : List Step) → located D P ss 0 nowhere ≡ at 0 nowhere
no_spot D P [] = refl
no_spot D P (step.Field i ∷ ss) = no_spot D P ss
no_spot D P (step.Variant v ∷ ss) = no_spot D P ss
no_spot D P (step.Deref m ∷ ss) = refl

none_there : (n : ℕ) → (nat_le 0 n && nat_lt n 0) ≡ true → ⊥
none_there n h = by (ltb-true n 0 (and_right (nat_le 0 n) (nat_lt n 0) h))
  where
    by : n < 0 → ⊥
    by l = omega (arith, l)

pub no_part : (F : Frame) (t : Temporary) (ss : List Step) (n : ℕ) → is_part F (record { root = temporary t; steps = ss }) n ≡ true → ⊥
no_part F t ss n h = none_there n (subst (λ l. spans F.sizes l n ≡ true) (no_spot F.declared F.sizes ss) h)

-- ---- what an action uses is live in front of it

given : (g k b : Bool) → g ≡ true → (g || (not k && b)) ≡ true
given true k b h = refl
given false k b h = no h

pub ahead_at : (s : Switch) (b : Action) → s.gives b ≡ true → ahead s (b ∷ []) ≡ true
ahead_at s b h = given (s.gives b) (s.kills b) false h
