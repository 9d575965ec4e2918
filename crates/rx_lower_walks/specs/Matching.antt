-- What a pattern tests and what it binds, from left to right (Rust Reference, "Patterns").
use Rattle.std.specs.Prelude.{ℕ, Bool, true, false, List, [], ◌∷◌, ◌++◌}
use Rattle.rx_core.specs.declared.types.Step.{Step}
use Rattle.rx_core.specs.declared.types.Step.TheVariants as step
use Rattle.rx_typed.specs.Tree.{Constant, Mode, Pattern, any, bind, exactly, parts, variant, behind, Subpatterns, no_part, part_and}

-- what a refutable part asks
pub data Check : Type 0 where
  -- the tag of this variant: of the whole enum
  has_tag : ℕ → Check
  equals : Constant → Check

-- a refutable part: its node, and the way to it from what the pattern is matched against
pub record PartTest : Type 0 where
  pub node : ℕ
  pub steps : List Step
  pub check : Check

pub record Binding : Type 0 where
  pub node : ℕ
  pub variable : ℕ
  pub steps : List Step
  pub mode : Mode

-- a variant is refutable where its enum has several
abbrev pub tag_test : Bool → ℕ → List Step → ℕ → List PartTest
tag_test true n at v = record { node = n; steps = at; check = has_tag v } ∷ []
tag_test false n at v = []

-- a variant's own test comes before those of its parts
abbrev mutual
  pub tests : List Step → Pattern → List PartTest
  tests at any = []
  tests at (bind n x m) = []
  tests at (exactly n c) = record { node = n; steps = at; check = equals c } ∷ []
  tests at (parts ps) = tests_in at ps
  tests at (variant n i several v ps) = tag_test several n at v ++ tests_in (at ++ step.Variant v ∷ []) ps
  tests at (behind m p) = tests (at ++ step.Deref m ∷ []) p

  pub tests_in : List Step → Subpatterns → List PartTest
  tests_in at no_part = []
  tests_in at (part_and i p ps) = tests (at ++ step.Field i ∷ []) p ++ tests_in at ps

abbrev mutual
  pub bindings : List Step → Pattern → List Binding
  bindings at any = []
  bindings at (bind n x m) = record { node = n; variable = x; steps = at; mode = m } ∷ []
  bindings at (exactly n c) = []
  bindings at (parts ps) = bindings_in at ps
  bindings at (variant n i several v ps) = bindings_in (at ++ step.Variant v ∷ []) ps
  bindings at (behind m p) = bindings (at ++ step.Deref m ∷ []) p

  pub bindings_in : List Step → Subpatterns → List Binding
  bindings_in at no_part = []
  bindings_in at (part_and i p ps) = bindings (at ++ step.Field i ∷ []) p ++ bindings_in at ps
