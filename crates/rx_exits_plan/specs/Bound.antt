-- The variables that a pattern binds, the ways to its parts left out, and those of parameters. (Rust Reference, "Patterns".)
use Rattle.std.specs.Prelude.{ℕ, List, [], ◌∷◌, ◌++◌, map}
use Rattle.rx_typed.specs.Tree.{Pattern, any, bind, exactly, parts, variant, behind, Subpatterns, no_part, part_and, Parameter}

-- those that the parts of a pattern bind, the ways to the parts left out
abbrev mutual
  pub bound_pattern : Pattern → List ℕ
  bound_pattern any = []
  bound_pattern (bind n x m) = x ∷ []
  bound_pattern (exactly n c) = []
  bound_pattern (parts ps) = bound_parts ps
  bound_pattern (variant n i several v ps) = bound_parts ps
  bound_pattern (behind m p) = bound_pattern p

  pub bound_parts : Subpatterns → List ℕ
  bound_parts no_part = []
  bound_parts (part_and i p ps) = bound_pattern p ++ bound_parts ps

abbrev pub variables_of_params : List Parameter → List ℕ
variables_of_params ps = map (λ (p : Parameter). p.variable) ps
