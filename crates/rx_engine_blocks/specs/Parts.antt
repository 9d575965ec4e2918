-- A part of the answer: demands of the text that another part has, and demands that the answer adds.
use Rattle.std.specs.Prelude.{◌≡◌, ℕ, List, [], ◌∷◌}
use Rattle.rx_typed.specs.Types.{outline}
use Rattle.rx_typeck_solver.specs.declared.facts.Subject.{Subject}
use Rattle.rx_typeck_solver.specs.declared.facts.Subject.TheVariants as subject
use Rattle.rx_typeck_solver.specs.declared.facts.Passing.{Passing}
use Rattle.rx_typeck_solver.specs.declared.facts.Fact.{Fact}
use Rattle.rx_typeck_solver.specs.declared.facts.Fact.TheVariants as fact
use Rattle.rx_typeck_solver.specs.declared.facts.Demand.{Demand}
use Rattle.rx_typeck_solver.specs.Facts.{Assignment, KnownItems, MeetsEach}
use Rattle.rx_typeck_solver.specs.Valid.{IsIn, Told, literals_of}
use Rattle.rx_engine_blocks.specs.Renumbering.{Renumbering}
use Rattle.rx_engine_blocks.specs.Along.{PartialInverse, Viewed}
use Rattle.rx_engine_blocks.specs.Blocks.{Behind, Block, ToldIn}

abbrev pub EachOf : (Subject → Type 0) → List Subject → Type 0
EachOf P [] = Unit {0}
EachOf P (x ∷ xs) = P x × EachOf P xs

abbrev pub EachPassing : (Subject → Type 0) → List Passing → Type 0
EachPassing P [] = Unit {0}
EachPassing P (p ∷ ps) = P (subject.Node p.node) × EachPassing P ps

-- all that a fact names
abbrev pub About : (Subject → Type 0) → Fact → Type 0
About P (fact.Equals x o xs ps) = P x × EachOf P xs × EachPassing P ps
About P (fact.Integer n s) = P (subject.Node n)
About P (fact.IntegerBehind n s) = P (subject.Node n)
About P (fact.Passes t xs ps qs) = EachOf P xs × EachPassing P ps × EachPassing P qs
About P fact.Never = Unit {0}

abbrev pub AllAbout : (Subject → Type 0) → List Fact → Type 0
AllAbout P [] = Unit {0}
AllAbout P (f ∷ fs) = About P f × AllAbout P fs

abbrev pub EachAbout : (Subject → Type 0) → List Demand → Type 0
EachAbout P [] = Unit {0}
EachAbout P (d ∷ ds) = AllAbout P d.facts × EachAbout P ds

-- what has the same type in both
abbrev pub SameAs : Assignment → Assignment → Subject → Type 0
SameAs A V x = A x ≡ V x

-- demands that the answer adds: of what is new there, or has the type that the answer gives it; none is a literal's
pub record Added (A' V : Assignment) (es' : List Demand) : Type 0 where
  pub about : EachAbout (SameAs A' V) es'
  pub literals : (n : ℕ) → IsIn n (literals_of es') → ⊥

-- types of these outlines that are the same at these subjects meet demands too
abbrev pub Elsewhere : KnownItems → Assignment → (Subject → Type 0) → List Demand → Type 0
Elsewhere D A P ds = (B : Assignment) → ((x : Subject) → outline (A x) ≡ outline (B x)) → ((x : Subject) → P x → A x ≡ B x) → MeetsEach D A ds → MeetsEach D B ds

-- demands of the answer that stand for some of the text: a block; and where the part tells what the ones are about, what it tells is enough for the others
pub record StandsFor (r : Renumbering) (u : PartialInverse r) (view : Viewed) (behind : Behind) (IsFixed : Subject → Type 0) (D D' : KnownItems) (A V : Assignment) (whole gs gs' : List Demand) : Type 0 where
  pub block : Block r u view behind IsFixed D D' A V gs gs'
  pub elsewhere : EachAbout (Told whole) gs' → Elsewhere D A (ToldIn r behind whole) gs
