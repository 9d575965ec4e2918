-- How places lie to one another: which are the same, and which are fronts of others. (RFC 2094, "Reborrow constraints", "Access legality".)
use Rattle.std.specs.Prelude.{Bool, true, false, ◌&&◌, ◌==◌, List, [], ◌∷◌}
use Rattle.rx_core.specs.declared.types.Step.{Step}
use Rattle.rx_core.specs.declared.types.Step.TheVariants as step
use Rattle.rx_typed.specs.Tree.{Place, Root, variable, temporary, Temporary}

abbrev pub same_step : Step → Step → Bool
same_step (step.Field i) (step.Field j) = i == j
same_step (step.Variant v) (step.Variant w) = v == w
same_step (step.Deref true) (step.Deref true) = true
same_step (step.Deref false) (step.Deref false) = true
same_step _ _ = false

abbrev pub same_temporary : Temporary → Temporary → Bool
same_temporary s t = s.node == t.node && s.which == t.which

abbrev pub same_root : Root → Root → Bool
same_root (variable x) (variable y) = x == y
same_root (temporary s) (temporary t) = same_temporary s t
same_root _ _ = false

-- whether a way is a front of another, or all of it
abbrev pub is_front : List Step → List Step → Bool
is_front [] ss = true
is_front (r ∷ rs) [] = false
is_front (r ∷ rs) (s ∷ ss) = same_step r s && is_front rs ss

abbrev pub same_steps : List Step → List Step → Bool
same_steps rs ss = is_front rs ss && is_front ss rs

-- a place is a prefix of another: what stands behind it there is a way to it, or none where they are one
abbrev pub is_prefix : Place → Place → Bool
is_prefix p q = same_root p.root q.root && is_front p.steps q.steps
