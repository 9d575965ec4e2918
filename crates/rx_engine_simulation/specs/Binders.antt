-- New variables that are alike (Rust Reference, "Patterns", "let statements", "Function parameters").
use Rattle.std.specs.Prelude.{◌≡◌, ℕ, Bool, List, [], ◌∷◌, Option, Some, None}
use Rattle.rx_core.specs.declared.types.Step.{Step}
use Rattle.rx_core.specs.declared.types.Step.TheVariants as step
use Rattle.rx_typed.specs.Tree.{Temporary, Place, Parameter, Mode, by_reference}
use Rattle.rx_lower_walks.specs.Matching.{PartTest, Binding}
use Rattle.rx_lower_walks.specs.Actions.{Act, Read, Borrow, Subject, part, taken, source_of}
use Rattle.rx_engine_simulation.specs.Histories.{Facts}
use Rattle.rx_engine_simulation.specs.Sights.{Hold, NotFixed, How, plain, special, sight, Renaming, sight_of, IsNew}
use Rattle.rx_engine_simulation.specs.Places.{looking, LikePlace, LikeSteps, use_of}

-- how a new variable may be seen
pub data NewHow (V : Facts) (x : ℕ) : How → Type 0 where
  new_plain : (w : Hold) → NotFixed w → NewHow V x (plain w)
  new_special : V.Special x → NewHow V x special

-- new variables of both, and the renaming then
pub data LikeDeclared (V : Facts) : Renaming → List ℕ → List ℕ → Renaming → Type 0 where
  none_new : {R : Renaming} → LikeDeclared V R [] [] R
  new_and : {R Ra : Renaming} {x y : ℕ} {xs ys : List ℕ} (w : How) → NewHow V x w → sight_of R x ≡ None → IsNew R y → LikeDeclared V ((x, sight y w) ∷ R) xs ys Ra → LikeDeclared V R (x ∷ xs) (y ∷ ys) Ra

pub data LikeParams (V : Facts) : Renaming → List Parameter → List Parameter → Renaming → Type 0 where
  no_param : {R : Renaming} → LikeParams V R [] [] R
  param_and : {R Ra : Renaming} {p q : Parameter} {ps qs : List Parameter} (w : How) → NewHow V p.variable w → sight_of R p.variable ≡ None → IsNew R q.variable → LikeParams V ((p.variable, sight q.variable w) ∷ R) ps qs Ra → LikeParams V R (p ∷ ps) (q ∷ qs) Ra

-- what a binding reads or borrows
pub data LikeTaken (R : Renaming) : Option Act → Option Act → Type 0 where
  takes_none : LikeTaken R None None
  takes_read : {v v' : Bool} {p p' : Place} {t t' : Temporary} → LikePlace R looking p p' → LikeTaken R (Some (Read v p t)) (Some (Read v' p' t'))
  takes_borrow : {k : Bool} {p p' : Place} {t t' : Temporary} → LikePlace R (use_of k) p p' → LikeTaken R (Some (Borrow k p t)) (Some (Borrow k p' t'))

pub data LikeBindings (V : Facts) (S S' : Subject) : Renaming → List Binding → List Binding → Renaming → Type 0 where
  no_binding : {R : Renaming} → LikeBindings V S S' R [] [] R
  binding_and : {R Ra : Renaming} {b b' : Binding} {bs bs' : List Binding} (w : How) → LikeTaken R (taken S b) (taken S' b') → LikeSteps (source_of S b).1 (source_of S' b').1
      → NewHow V b.variable w → sight_of R b.variable ≡ None → IsNew R b'.variable → LikeBindings V S S' ((b.variable, sight b'.variable w) ∷ R) bs bs' Ra → LikeBindings V S S' R (b ∷ bs) (b' ∷ bs') Ra

-- a binding that borrows from behind a reference
abbrev pub GoesBehind : Mode → List Step → Type 0
GoesBehind (by_reference k) (step.Deref n ∷ ss) = Unit {0}
GoesBehind _ _ = ⊥

-- all do, and none is of this variable
abbrev pub AreBehind : ℕ → List Binding → Type 0
AreBehind y [] = Unit {0}
AreBehind y (b ∷ bs) = GoesBehind b.mode b.steps × (b.variable ≡ y → ⊥) × AreBehind y bs

pub data LikeTests (R : Renaming) (S S' : Subject) : List PartTest → List PartTest → Type 0 where
  no_test : LikeTests R S S' [] []
  test_and : {t t' : PartTest} {ts ts' : List PartTest} → LikePlace R looking (part S t.steps) (part S' t'.steps) → t.check ≡ t'.check → LikeTests R S S' ts ts' → LikeTests R S S' (t ∷ ts) (t' ∷ ts')
