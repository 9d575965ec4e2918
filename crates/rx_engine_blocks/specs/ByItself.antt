-- What is asked of an assignment of a part of the answer, which has the text's types at what comes from the text, so that it is the valid one: nothing
-- says that the part is accepted (Rust Reference, "Type system").
use Rattle.std.specs.Prelude.{◌≡◌, ◌⊎◌, ℕ, List}
use Rattle.rx_typeck_solver.specs.declared.facts.Subject.{Subject}
use Rattle.rx_typeck_solver.specs.declared.facts.Subject.TheVariants as subject
use Rattle.rx_typeck_solver.specs.declared.facts.Demand.{Demand}
use Rattle.rx_typeck_solver.specs.Facts.{Assignment, KnownItems, MeetsEach}
use Rattle.rx_typeck_solver.specs.Valid.{IsIn, Told, literals_of}
use Rattle.rx_engine_blocks.specs.Renumbering.{Renumbering, subject_at}
use Rattle.rx_engine_blocks.specs.Along.{PartialInverse, Viewed, composed}

-- an assignment of the part has these types where the text tells something
abbrev pub AgreesThere : Renumbering → Assignment → List Demand → List Demand → Assignment → Type 0
AgreesThere r V ds es C = (x : Subject) → Told ds x → Told es (subject_at r x) → C (subject_at r x) ≡ V (subject_at r x)

-- a literal of the text is one of the part, or the part doesn't tell its node, or its type is fixed
abbrev pub LiteralStands : Renumbering → (Subject → Type 0) → List Demand → ℕ → Type 0
LiteralStands r IsFixed es m = IsIn (r.nodes m) (literals_of es) ⊎ ((Told es (subject.Node (r.nodes m)) → ⊥) ⊎ IsFixed (subject.Node m))

-- what the part tells comes from what the text tells, or has one type where that has the text's
abbrev pub TellsOne : Renumbering → KnownItems → Assignment → List Demand → List Demand → Subject → Type 0
TellsOne r E V ds es y = ((x : Subject) × (y ≡ subject_at r x) × Told ds x) ⊎ ((C : Assignment) → MeetsEach E C es → AgreesThere r V ds es C → C y ≡ V y)

pub record ByItself (r : Renumbering) (u : PartialInverse r) (view : Viewed) (IsFixed : Subject → Type 0) (E : KnownItems) (A V : Assignment) (ds es : List Demand) : Type 0 where
  pub same : (y : Subject) → composed r u view A V y ≡ V y
  pub meets : MeetsEach E V es
  pub literals : (m : ℕ) → IsIn m (literals_of ds) → LiteralStands r IsFixed es m
  pub tells : (y : Subject) → Told es y → TellsOne r E V ds es y
