-- The types that a `let` with a type gives the variables of its pattern, with their lifetimes as written, from left to right
-- (Rust Reference, "let statements", "Patterns", "Binding modes").
use Rattle.std.specs.Prelude.{ℕ, suc, List, [], ◌∷◌, ◌++◌, Option, Some, None, slice_get}
use Rattle.rx_core.specs.declared.types.Step.{Step}
use Rattle.rx_core.specs.declared.types.Step.TheVariants as step
use Rattle.rx_tree.specs.Plain.{ProgramTree}
use Rattle.rx_typed.specs.declared.declarations.Decl.{Decl}
use Rattle.rx_typed.specs.declared.declarations.Decl.TheVariants as decl
use Rattle.rx_typed.specs.Types as types
use Rattle.rx_typed.specs.PlainTypes.{declarations}
use Rattle.rx_typed.specs.Regions.{RegionTyp, region_reference, erased, region-Ty}
use Rattle.rx_typed.specs.Named as named
use Rattle.rx_typed.specs.Named.{Pattern, Patterns, FieldPatterns}
use Rattle.rx_typed.specs.Naming.{Cursor, Annotation, of_pattern}
use Rattle.rx_typed.specs.Elaborated.{Met, met, field_in}
use Rattle.rx_typed.specs.Places.{place_type}
use Rattle.rx_typeck_elaborate_parts.specs.Entries.{in_front}
use Rattle.rx_typeck_typed.specs.Lets.{let_type}

-- what stands behind all references
abbrev pub peeled : RegionTyp → RegionTyp
peeled (region_reference m l t) = peeled t
peeled t = t

-- what a variable has of a part; behind references it borrows the part, for a lifetime that is free
abbrev pub bound : ℕ → Met → RegionTyp → RegionTyp
bound free None t = t
bound free (Some m) t = region_reference m free t

-- the way to the parts: those of a variant stand behind it
abbrev pub way : Option ℕ → List Step
way None = []
way (Some v) = step.Variant v ∷ []

-- the type of a part
abbrev pub part : List Decl → Option ℕ → ℕ → RegionTyp → RegionTyp
part D v k t = place_type D t (way v ++ step.Field k ∷ [])

-- of the declarations, the number of the lifetimes that are free, and whether references were gone through so far; each
-- variable with its type
abbrev mutual
  pub bindings : List Decl → ℕ → Met → Pattern → RegionTyp → List (ℕ × RegionTyp)
  bindings D free r (named.wild n) t = []
  bindings D free r (named.bind n x m) t = (x, bound free r t) ∷ []
  bindings D free r (named.whole_number n g v k) t = []
  bindings D free r (named.truth n b) t = []
  bindings D free r (named.tuple_pattern n ps) t = parts D free (met (erased t) r) None 0 ps (peeled t)
  bindings D free r (named.variant_pattern n i v ps) t = parts D free (met (erased t) r) (Some v) 0 ps (peeled t)
  bindings D free r (named.struct_pattern n i fs) t = fields D free (met (erased t) r) i fs (peeled t)

  -- parts in order, from this number on
  pub parts : List Decl → ℕ → Met → Option ℕ → ℕ → Patterns → RegionTyp → List (ℕ × RegionTyp)
  parts D free r v k named.no_pattern t = []
  parts D free r v k (named.pattern_and p ps) t = bindings D free r p (part D v k t) ++ parts D free r v (suc k) ps t

  pub fields : List Decl → ℕ → Met → ℕ → FieldPatterns → RegionTyp → List (ℕ × RegionTyp)
  fields D free r i named.no_field_pattern t = []
  fields D free r i (named.field_pattern_and x p fs) t =
      bindings D free r p (part D None (field_in (declarations D) (types.named i) x) t) ++ fields D free r i fs t

-- where a type stands, behind the pattern of its `let`
abbrev pub behind : Annotation → Cursor
behind a = (of_pattern a.pattern (in_front a)).1

-- of a `let`, in a program with these declarations
abbrev pub of_let : ProgramTree → List Decl → ℕ → Annotation → List (ℕ × RegionTyp)
of_let p D free a = bindings D free None (of_pattern a.pattern (in_front a)).0 (region-Ty (let_type p free a.typ (behind a).names))

-- of several
abbrev pub of_lets : ProgramTree → List Decl → ℕ → List Annotation → List (ℕ × RegionTyp)
of_lets p D free [] = []
of_lets p D free (a ∷ more) = of_let p D free a ++ of_lets p D free more

-- how many lifetimes a function has; where one is left out in a `let` it has this number, which none of them has
abbrev pub lifetimes : Option Decl → ℕ
lifetimes (Some (decl.Func l ps t bs)) = l
lifetimes _ = 0

-- of those of a function, by its item's number
abbrev pub annotated : ProgramTree → List Decl → ℕ → List Annotation → List (ℕ × RegionTyp)
annotated p D i lets = of_lets p D (lifetimes (slice_get D i)) lets
