-- Places that are alike, for what is done there (Rust Reference, "Place expressions and value expressions", "Borrow operators").
use Rattle.std.specs.Prelude.{◌≡◌, ℕ, Bool, true, false, List, [], ◌∷◌, Some}
use Rattle.rx_core.specs.declared.types.Step.{Step}
use Rattle.rx_core.specs.declared.types.Step.TheVariants as step
use Rattle.rx_typed.specs.Tree.{variable, temporary, Temporary, Place}
use Rattle.rx_engine_simulation.specs.Histories.{IsOwn}
use Rattle.rx_engine_simulation.specs.Sights.{Hold, free, How, plain, through, copied, viewed, absent, sight, Renaming, sight_of}

-- the same way, but for what is said of references
pub data LikeSteps : List Step → List Step → Type 0 where
  no_steps : LikeSteps [] []
  fields : {i : ℕ} {ss ss' : List Step} → LikeSteps ss ss' → LikeSteps (step.Field i ∷ ss) (step.Field i ∷ ss')
  variants : {i : ℕ} {ss ss' : List Step} → LikeSteps ss ss' → LikeSteps (step.Variant i ∷ ss) (step.Variant i ∷ ss')
  derefs : {m k : Bool} {ss ss' : List Step} → LikeSteps ss ss' → LikeSteps (step.Deref m ∷ ss) (step.Deref k ∷ ss')

pub data Use : Type 0 where
  -- read, tested
  looking : Use
  -- borrowed shared, and mutable
  sharing : Use
  changing : Use
  writing : Use

abbrev pub NotCopied : How → Type 0
NotCopied copied = ⊥
NotCopied _ = Unit {0}

abbrev pub IsFreed : How → Type 0
IsFreed (plain free) = Unit {0}
IsFreed (through free m) = Unit {0}
IsFreed _ = ⊥

abbrev pub IsMutable : How → Type 0
IsMutable (through w false) = ⊥
IsMutable viewed = ⊥
IsMutable _ = Unit {0}

abbrev pub Allowed : Use → How → List Step → Type 0
Allowed looking w ss = Unit {0}
Allowed sharing w ss = IsOwn ss → NotCopied w
Allowed changing w ss = (IsOwn ss → IsFreed w) × IsMutable w
Allowed writing w ss = (IsOwn ss → NotCopied w) × IsMutable w

abbrev pub IsDirect : How → Type 0
IsDirect (through w m) = ⊥
IsDirect viewed = ⊥
IsDirect absent = ⊥
IsDirect _ = Unit {0}

abbrev pub at_variable : ℕ → List Step → Place
at_variable x ss = record { root = variable x; steps = ss }

abbrev pub at_temporary : Temporary → List Step → Place
at_temporary t ss = record { root = temporary t; steps = ss }

-- a place of the text, and the answer's, for such a use
pub data LikePlace (R : Renaming) (u : Use) : Place → Place → Type 0 where
  direct : {x y : ℕ} {ss ss' : List Step} (w : How) → sight_of R x ≡ Some (sight y w) → IsDirect w → Allowed u w ss → LikeSteps ss ss' → LikePlace R u (at_variable x ss) (at_variable y ss')
  behind : {x y : ℕ} {k : Bool} {ss ss' : List Step} (w : Hold) (m : Bool) → sight_of R x ≡ Some (sight y (through w m)) → Allowed u (through w m) ss → LikeSteps ss ss' → LikePlace R u (at_variable x ss) (at_variable y (step.Deref k ∷ ss'))
  shared : {x y : ℕ} {m k : Bool} {ss ss' : List Step} → sight_of R x ≡ Some (sight y viewed) → Allowed u viewed (step.Deref m ∷ ss) → LikeSteps ss ss' → LikePlace R u (at_variable x (step.Deref m ∷ ss)) (at_variable y (step.Deref k ∷ ss'))
  of_temporary : {t t' : Temporary} {ss ss' : List Step} → LikeSteps ss ss' → LikePlace R u (at_temporary t ss) (at_temporary t' ss')

abbrev pub use_of : Bool → Use
use_of true = changing
use_of false = sharing
