-- The types that were found, looked at one step at a time.
use Rattle.std.specs.Prelude.{◌≡◌, ℕ, List, Option, Some, None, [], ◌∷◌, replicate, slice_get}
use Rattle.rx_core.specs.declared.types.Kind.{Kind}
use Rattle.rx_typed.specs.Types.{Shapes, Typ, integer, boolean, tuple_of, reference, named, no_shape, shape_and, shapes_map, Declarations, lifetimes_declared}
use Rattle.rx_typed.specs.Regions.{RegionTyp, region_integer, region_boolean, region_tuple, region_reference, region_named, RegionTyps, no_region, region_and, region-Ty}
use Rattle.rx_core.specs.declared.types.Ty.{Ty}
use Rattle.rx_typeck_solver.specs.declared.facts.Subject.{Subject}
use Rattle.rx_typeck_solver.specs.declared.facts.Subject.TheVariants as subject
use Rattle.rx_typeck_solver.specs.declared.export.Found.{Found}
use Rattle.rx_typeck_solver.specs.declared.solver.Solved.{Solved}
use Rattle.rx_typeck_solver.specs.declared.views.Look.{Look}
use Rattle.rx_typeck_solver.specs.declared.views.Look.TheVariants as look
use Rattle.rx_typeck_solver.specs.Solver.{pick, filled_by, filled_leaf}
use Rattle.rx_typeck_solver.specs.Parents.{rep_of, set_of}
use Rattle.rx_typeck_solver.specs.Cells.{cell, shapes_in, term, IsTerm}
use Rattle.rx_typeck_solver.specs.Solving.{types_of, HasTerm}
use Rattle.rx_typeck_solver.specs.Trimmed.{IsTrimmed}

-- the integer type of an open node
abbrev pub kind_found : Solved → ℕ → Kind
kind_found s n = pick (set_of s.tables.classes.sets.items (rep_of s.tables.classes.parents.items n))

abbrev pub IsEntry : Solved → ℕ → Type 0
IsEntry s i = IsTerm s.arena.entries.items i

-- the type of an entry
abbrev pub typ_at : Solved → ℕ → Typ
typ_at s i = filled_by (kind_found s) (term s.arena.entries.items i)

abbrev pub EntryIs : Solved → Subject → Option ℕ → Type 0
EntryIs s x None = HasTerm s x → ⊥
EntryIs s x (Some i) = HasTerm s x × IsEntry s i × (types_of s x ≡ typ_at s i)

-- the outermost form of a type, and the entry that a reference leads to
abbrev pub LookIs : Solved → Look → Typ → Type 0
LookIs s (look.Int k) t = t ≡ integer k
LookIs s look.Bool t = t ≡ boolean
LookIs s look.Tuple t = (ts : Shapes Kind) × (t ≡ tuple_of ts)
LookIs s (look.Reference m j) t = IsEntry s j × (t ≡ reference m (typ_at s j))
LookIs s (look.Named i) t = t ≡ named i

abbrev pub PartIs : Solved → Option ℕ → Option Typ → Type 0
PartIs s None o = o ≡ None
PartIs s (Some j) o = IsEntry s j × (o ≡ Some (typ_at s j))

-- the types of a list
abbrev pub typs_at : Solved → ℕ → Shapes Kind
typs_at s j = shapes_map (filled_leaf (kind_found s)) (shapes_in (cell s.arena.entries.items j))

-- ---- as types of the code, in which each lifetime has the number 0

abbrev mutual
  pub unnumbered : Declarations → Typ → RegionTyp
  unnumbered D (integer k) = region_integer k
  unnumbered D boolean = region_boolean
  unnumbered D (tuple_of ts) = region_tuple (all_unnumbered D ts)
  unnumbered D (reference m t) = region_reference m 0 (unnumbered D t)
  unnumbered D (named i) = region_named i (replicate (lifetimes_declared (slice_get D i)) 0)

  pub all_unnumbered : Declarations → Shapes Kind → RegionTyps
  all_unnumbered D no_shape = no_region
  all_unnumbered D (shape_and t ts) = region_and (unnumbered D t) (all_unnumbered D ts)

-- these, and then those
abbrev pub regions_then : List RegionTyp → RegionTyps → RegionTyps
regions_then [] rs = rs
regions_then (t ∷ ts) rs = region_and t (regions_then ts rs)

-- ---- all types that were found, by the numbers of variables and nodes

abbrev pub joined : {A : Type 0} → Option (Option A) → Option A
joined (Some o) = o
joined None = None

-- what stands for an entry, if there is one
abbrev pub EntryTyped : Solved → Declarations → Option ℕ → Option Ty → Type 0
EntryTyped s D None o = o ≡ None
EntryTyped s D (Some i) o = (t : Ty) × (o ≡ Some t) × (region-Ty t ≡ unnumbered D (typ_at s i))

-- a table of types for a table of entries
abbrev pub TableTyped : Solved → Declarations → List (Option ℕ) → List (Option Ty) → Type 0
TableTyped s D [] [] = Unit {0}
TableTyped s D (e ∷ es) (t ∷ ts) = EntryTyped s D e t × TableTyped s D es ts
TableTyped s D _ _ = ⊥

abbrev pub EntryWithin : Solved → Option ℕ → Type 0
EntryWithin s None = Unit {0}
EntryWithin s (Some i) = IsEntry s i

abbrev pub Entered : Solved → List (Option ℕ) → Type 0
Entered s [] = Unit {0}
Entered s (e ∷ es) = EntryWithin s e × Entered s es

abbrev pub found_at : Found → Subject → Option Ty
found_at f (subject.Variable x) = joined (slice_get f.variables x)
found_at f (subject.Node n) = joined (slice_get f.nodes n)
found_at f (subject.Expected n) = joined (slice_get f.expected n)

-- exactly what the demands tell has a type, and that is the one that was found
abbrev pub TypeFound : Solved → Declarations → Subject → Option Ty → Type 0
TypeFound s D x None = HasTerm s x → ⊥
TypeFound s D x (Some t) = HasTerm s x × (region-Ty t ≡ unnumbered D (types_of s x))

-- and no table goes on behind its last type
pub record IsFound (s : Solved) (D : Declarations) (f : Found) : Type 0 where
  pub each : (x : Subject) → TypeFound s D x (found_at f x)
  pub trimmed : IsTrimmed f.variables × IsTrimmed f.nodes × IsTrimmed f.expected
