-- Whether the match of what the new function gives has an arm for each exit that does as the text: it puts back what the exit hands out, and
-- jumps; or it returns; or it gives the values of the run's end (REM, "Extract method": reified control flow; Rust Reference, "match
-- expressions").
use Rattle.std.specs.Prelude.{ℕ, nat_eq, ◌==◌, Bool, true, false, not, ◌&&◌, ◌||◌, List, [], ◌∷◌, length, Option, Some, None, if◌then◌else◌}
use Rattle.rx_typed.specs.Tree as tree
use Rattle.rx_typed.specs.Tree.{Pattern, Subpatterns, Exp, Arms, Body}
use Rattle.rx_exits_plan.specs.Points.{Exit, next, breaks, continues, returns, same_exit}
use Rattle.rx_exits_plan.specs.Plan.{Plan}
use Rattle.rx_engine_simulation.specs.Sights.{Renaming}
use Rattle.rx_engine_simulation.specs.Jumps.{Returning, as_return, with_value, with_unit, no_return, Jumping, loop_of, Pack}
use Rattle.rx_engine_related.specs.Leaving.{packed, variant_for, returning_if}
use Rattle.rx_engine_alike.specs.Likeness.{if_so}
use Rattle.rx_engine_alike.specs.Same.{same_bool}
use Rattle.rx_engine_alike.specs.Variables.{is_in, is_new}
use Rattle.rx_engine_alike.specs.Giving.{is_unit, takes, gives_bare}
use Rattle.rx_engine_alike.specs.Leaving.{is_number}
use Rattle.rx_engine_extracted.specs.Told.{Told, all_special, without}
use Rattle.rx_engine_extracted.specs.Handing.{Put, received_in, received, put_back, is_within}

-- ---- the arm for a variant: an enum's only variant is not tested

pub record Arm : Type 0 where
  pub parts : Subpatterns
  pub body : Exp

abbrev pub arm_by : Pattern → ℕ → Exp → Option Arm → Option Arm
arm_by (tree.variant n i several w ps) v e o = if nat_eq w v then Some (record { parts = ps; body = e }) else if_so several o
arm_by _ v e o = None

abbrev pub arm_for : ℕ → Arms → Option Arm
arm_for v tree.no_arm = None
arm_for v (tree.arm_and q e l) = arm_by q v e (arm_for v l)

-- ---- for a jump

-- to this loop of the answer
abbrev pub jumps_to : Option ℕ → Bool → Exp → Bool
jumps_to d again (tree.jump m l k) = is_number d l && same_bool again k
jumps_to d again _ = false

-- as the last statement of a block
abbrev pub jumps_last : Option ℕ → Bool → Body → Bool
jumps_last d again (tree.runs e (tree.ends u)) = jumps_to d again e && is_unit u
jumps_last d again _ = false

abbrev pub is_put : Option Put → (Put → Bool) → Bool
is_put None f = false
is_put (Some p) f = f p

-- where nothing is to be put back
abbrev pub jumps_bare : List ℕ → Option ℕ → Bool → Exp → Bool
jumps_bare [] d again e = jumps_to d again e
jumps_bare (x ∷ xs) d again e = false

-- behind assignments, with what is handed out and where it was received
abbrev pub jumps_behind : Told → Renaming → Renaming → List ℕ → List ℕ → Option ℕ → Bool → Exp → Bool
jumps_behind T R Rr xs os d again (tree.block m b) = is_put (put_back T R Rr xs os b) (λ p. jumps_last d again p.rest && is_within R p.inside)
jumps_behind T R Rr xs os d again e = jumps_bare xs d again e

abbrev pub is_renaming : Option Renaming → (Renaming → Bool) → Bool
is_renaming None f = false
is_renaming (Some R) f = f R

abbrev pub are_numbers : Option (List ℕ) → (List ℕ → Bool) → Bool
are_numbers None f = false
are_numbers (Some l) f = f l

abbrev pub is_arm : Option Arm → (Arm → Bool) → Bool
is_arm None f = false
is_arm (Some a) f = f a

-- with the loops outside
abbrev pub puts_back : Told → Jumping → Renaming → List ℕ → ℕ → Bool → Arm → Bool
puts_back T J R outs l again a = all_special R outs && are_numbers (received_in 0 a.parts) (λ qs. is_renaming (received R (without outs R) outs qs) (λ Rr. jumps_behind T R Rr outs qs (loop_of J.loops l) again a.body))

abbrev pub jump_arm : Told → Jumping → Renaming → Arms → ℕ → Bool → Option Pack → Bool
jump_arm T J R l n again None = true
jump_arm T J R l n again (Some p) = is_arm (arm_for p.variant l) (λ a. puts_back T J R p.outs n again a)

-- ---- for a return

abbrev pub has_no_part : Subpatterns → Bool
has_no_part tree.no_part = true
has_no_part _ = false

abbrev pub returns_nothing : Exp → Bool
returns_nothing (tree.give m e) = gives_bare [] e
returns_nothing _ = false

abbrev pub returns_own : ℕ → Exp → Bool
returns_own q (tree.give m e) = takes q e
returns_own q _ = false

-- what is received as the only part is returned
abbrev pub returns_only : Renaming → List ℕ → Exp → Bool
returns_only R (q ∷ []) e = is_new R q && returns_own q e
returns_only R _ e = false

abbrev pub is_return : Returning → Bool
is_return as_return = true
is_return _ = false

abbrev pub return_arm : Jumping → Renaming → Arms → Returning → Bool
return_arm J R l no_return = true
return_arm J R l (with_unit v) = is_return J.returning && is_arm (arm_for v l) (λ a. has_no_part a.parts && returns_nothing a.body)
return_arm J R l (with_value v) = is_return J.returning && is_arm (arm_for v l) (λ a. are_numbers (received_in 0 a.parts) (λ qs. returns_only R qs a.body))
return_arm J R l as_return = false

-- ---- for all exits but the run's end

abbrev pub exit_arm : Told → Bool → Jumping → Renaming → Arms → Exit → Bool
exit_arm T unit J R l next = true
exit_arm T unit J R l (breaks n) = jump_arm T J R l n false (packed T.plan n false)
exit_arm T unit J R l (continues n) = jump_arm T J R l n true (packed T.plan n true)
exit_arm T unit J R l returns = return_arm J R l (returning_if unit (variant_for T.plan returns))

abbrev pub exit_arms : Told → Bool → Jumping → Renaming → Arms → List Exit → Bool
exit_arms T unit J R l [] = true
exit_arms T unit J R l (x ∷ xs) = exit_arm T unit J R l x && exit_arms T unit J R l xs

-- whether the variant of a return has no part: the run's function gives the unit
abbrev pub is_empty_arm : Option Arm → Bool
is_empty_arm None = false
is_empty_arm (Some a) = has_no_part a.parts

abbrev pub gives_unit_by : Option ℕ → Arms → Bool
gives_unit_by None l = false
gives_unit_by (Some v) l = is_empty_arm (arm_for v l)

-- ---- for the run's end

-- variables that stand for none, each another
abbrev pub all_new : Renaming → List ℕ → Bool
all_new R [] = true
all_new R (q ∷ qs) = is_new R q && (not (is_in q qs) && all_new R qs)

abbrev pub end_arm : Renaming → ℕ → Arm → Bool
end_arm R n a = are_numbers (received_in 0 a.parts) (λ qs. all_new R qs && (gives_bare qs a.body && nat_eq (length qs) n))
