-- The variables of a pattern's bindings, whatever the way to the pattern.
use Rattle.std.proofs.Common.{◌≡◌, ℕ, List, [], ◌∷◌, ◌++◌, map, refl, ap, ◌∙◌}
use Rattle.std.proofs.lemmas.List.{append-nil, map-append}
use Rattle.rx_core.specs.declared.types.Step.{Step}
use Rattle.rx_core.specs.declared.types.Step.TheVariants as step
use Rattle.rx_typed.specs.Tree.{Pattern, any, bind, exactly, parts, variant, behind, Subpatterns, no_part, part_and}
use Rattle.rx_typed.specs.declared.tree.Subpattern.{Subpattern}
use Rattle.rx_typed.specs.PlainTree.{plain-Pattern, plain-Subpattern, subpatterns_of}
use Rattle.rx_typed.proofs.Rules.{subpattern_by_parts}
use Rattle.rx_lower_walks.specs.Matching.{Binding, bindings, bindings_in}
use Rattle.rx_exits_plan.specs.Blocks.{bound}
use Rattle.rx_exits_plan.specs.Bound.{bound_pattern, bound_parts}

mutual
  pattern_bound : (at : List Step) (p : Pattern) → map (λ (b : Binding). b.variable) (bindings at p) ≡ bound_pattern p
  pattern_bound at any = refl
  pattern_bound at (bind n x m) = refl
  pattern_bound at (exactly n c) = refl
  pattern_bound at (parts ps) = parts_bound at ps
  pattern_bound at (variant n i several v ps) = parts_bound (at ++ step.Variant v ∷ []) ps
  pattern_bound at (behind m p) = pattern_bound (at ++ step.Deref m ∷ []) p

  parts_bound : (at : List Step) (ps : Subpatterns) → map (λ (b : Binding). b.variable) (bindings_in at ps) ≡ bound_parts ps
  parts_bound at no_part = refl
  parts_bound at (part_and i p ps) =
      map-append (λ (b : Binding). b.variable) (bindings (at ++ step.Field i ∷ []) p) (bindings_in at ps)
      ∙ ap (λ l. l ++ map (λ (b : Binding). b.variable) (bindings_in at ps)) (pattern_bound (at ++ step.Field i ∷ []) p)
      ∙ ap (λ l. bound_pattern p ++ l) (parts_bound at ps)

pub bound_is : (p : Pattern) → bound p ≡ bound_pattern p
bound_is p = pattern_bound [] p

pub ruleset bound_rules = (append-nil)

pub parts_more : (x : Subpattern) (xs : List Subpattern)
    → bound_parts (subpatterns_of (map plain-Subpattern (x ∷ xs))) ≡ bound_pattern (plain-Pattern x.pattern) ++ bound_parts (subpatterns_of (map plain-Subpattern xs))
parts_more x xs = ap (λ (q : ℕ × Pattern). bound_pattern q.1 ++ bound_parts (subpatterns_of (map plain-Subpattern xs))) (subpattern_by_parts x)
