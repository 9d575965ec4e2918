-- Demands of the text and of the answer, block by block: a block of the text, and what stands for it in a part of the answer.
use Rattle.std.specs.Prelude.{◌≡◌, ◌⊎◌, ℕ, Bool, false, List, Option, Some, None}
use Rattle.rx_core.specs.declared.types.Kind.{Kind}
use Rattle.rx_typed.specs.Types.{integer, reference, outline, peeled}
use Rattle.rx_typeck_solver.specs.declared.facts.Subject.{Subject}
use Rattle.rx_typeck_solver.specs.declared.facts.Subject.TheVariants as subject
use Rattle.rx_typeck_solver.specs.declared.facts.Demand.{Demand}
use Rattle.rx_typeck_solver.specs.Facts.{Assignment, KnownItems, MeetsEach}
use Rattle.rx_typeck_solver.specs.Valid.{Task, Told, IsIn, literals_of}
use Rattle.rx_engine_blocks.specs.Renumbering.{Renumbering, shape_at, subject_at}
use Rattle.rx_engine_blocks.specs.Along.{PartialInverse, Viewed, Sees, MutableAt, shared, composed}
use Rattle.rx_engine_blocks.specs.Untested.{untested}

-- the task of some demands and their literals
abbrev pub task_of : List Demand → Task
task_of ds = record { demands = ds; literals = literals_of ds }

-- variables of the text that the answer has behind references: for the first it has what the second leads to
abbrev pub Behind : Type 0
Behind = ℕ → Option ℕ

abbrev pub none_behind : Behind
none_behind x = None

abbrev pub Refers : Renumbering → Behind → Assignment → Type 0
Refers r behind C = (x y : ℕ) → behind x ≡ Some y → (m : Bool) × (C (subject.Variable y) ≡ reference m (C (subject.Variable (r.variables x))))

-- an assignment of the text, with the outlines of the valid one and with its types at what is fixed, and one of the answer
pub record Tied (r : Renumbering) (view : Viewed) (behind : Behind) (IsFixed : Subject → Type 0) (A B C : Assignment) : Type 0 where
  pub sees : Sees r view B C
  pub mutable : MutableAt view B
  pub refers : Refers r behind C
  pub outlines : (x : Subject) → outline (A x) ≡ outline (B x)
  pub settled : (x : Subject) → IsFixed x → A x ≡ B x

-- the valid assignments of the text and of the part
pub record Block (r : Renumbering) (u : PartialInverse r) (view : Viewed) (behind : Behind) (IsFixed : Subject → Type 0) (D D' : KnownItems) (A V : Assignment) (es es' : List Demand) : Type 0 where
  pub there : MeetsEach D A es → MeetsEach D' V es' → MeetsEach D' (composed r u view A V) (untested es')
  pub back : (B C : Assignment) → Tied r view behind IsFixed A B C → MeetsEach D A es → MeetsEach D' C es' → MeetsEach D B es
  -- a literal of the answer is one of the text
  pub literal : (n : ℕ) → IsIn n (literals_of es') → (m : ℕ) × IsIn m (literals_of es) × (r.nodes m ≡ n)

-- literals that have i32 in the text have it here
abbrev pub NearIn : Renumbering → Assignment → List Demand → Assignment → Type 0
NearIn r A es' C = (m : ℕ) → IsIn (r.nodes m) (literals_of es') → peeled (A (subject.Node m)) ≡ integer Kind.I32 → peeled (C (subject.Node (r.nodes m))) ≡ integer Kind.I32

-- what comes from the text has the outlines of the text
abbrev pub Outlined : Renumbering → Viewed → Assignment → List Demand → Assignment → Type 0
Outlined r view A es' C = (x : Subject) → Told es' (subject_at r x) → outline (C (subject_at r x)) ≡ outline (shared (view x) (shape_at r (A x)))

-- what is fixed has the text's type in each assignment of the part that gives i32 to those literals; outlines are the text's
abbrev pub Fixes : Renumbering → Viewed → (Subject → Type 0) → KnownItems → Assignment → List Demand → Type 0
Fixes r view IsFixed D' A es' = (C : Assignment) → MeetsEach D' C es' → NearIn r A es' C → Outlined r view A es' C → (x : Subject) → IsFixed x → Told es' (subject_at r x)
    → C (subject_at r x) ≡ shared (view x) (shape_at r (A x))

-- a variable behind a reference: in each assignment of the part the reference leads to the text's type; by its own number it is no
-- variable of the part
pub record References (r : Renumbering) (u : PartialInverse r) (view : Viewed) (behind : Behind) (D' : KnownItems) (A : Assignment) (es' : List Demand) (x y : ℕ) : Type 0 where
  pub mutable : Bool
  pub leads : (C : Assignment) → MeetsEach D' C es' → C (subject.Variable y) ≡ reference mutable (shape_at r (A (subject.Variable x)))
  pub hidden : Told es' (subject.Variable (r.variables x)) → ⊥
  pub told : Told es' (subject.Variable y)
  pub new : u.variable y ≡ None
  pub as_it_is : view (subject.Variable x) ≡ false

abbrev pub AllReferences : (r : Renumbering) → PartialInverse r → Viewed → Behind → KnownItems → Assignment → List Demand → Type 0
AllReferences r u view behind D' A es' = (x y : ℕ) → behind x ≡ Some y → References r u view behind D' A es' x y

-- what another part tells, or has behind a reference
abbrev pub IsBehind : Behind → Subject → Type 0
IsBehind behind (subject.Variable x) = (y : ℕ) × (behind x ≡ Some y)
IsBehind behind _ = ⊥

abbrev pub ToldIn : Renumbering → Behind → List Demand → Subject → Type 0
ToldIn q behind fs x = Told fs (subject_at q x) ⊎ IsBehind behind x
