-- Why a place leads nowhere, or nothing is found where it leads, or it can't be written (Rust Reference, "Place expressions and
-- value expressions", "The dereference operator"): the way there is walked to where it ends, which lacks a value or has one of
-- another form.
use Rattle.std.specs.Prelude.{true, List, [], ◌∷◌, Option, Some, None}
use Rattle.rx_core.specs.declared.types.Step.{Step}
use Rattle.rx_typed.specs.Tree.{Place}
use Rattle.rx_meaning.specs.Endings.{Cause, lacks, astray, immutable, mistyped, missing_reference}
use Rattle.rx_meaning.specs.Values.{Value, lacking, part, element, State}
use Rattle.rx_meaning.specs.Places.{Spot, in_slot, in_value, content, deeper, may_write, pointed, start}

-- by what is there, and else this
abbrev pub where_some : {A : Type 0} → Option A → Cause → (A → Cause) → Cause
where_some None c go = c
where_some (Some a) c go = go a

-- at a value that is not of the form that is wanted
abbrev pub unlike : Cause → Value → Cause
unlike c (lacking l) = lacks
unlike c v = c

-- on a path from a value
abbrev pub why_no_part : List Step → Value → Cause
why_no_part [] v = unlike astray v
why_no_part (s ∷ ss) v = where_some (part v s) (unlike astray v) (λ u. why_no_part ss u)

abbrev pub why_no_content : List Value → Spot → Cause
why_no_content M (in_slot i p w) = where_some (element M i) astray (λ v. why_no_part p v)
why_no_content M (in_value v) = unlike astray v

-- on the steps from a spot
abbrev pub why_not_followed : List Value → List Step → Spot → Cause
why_not_followed M [] at = why_no_content M at
why_not_followed M (Step.Deref m ∷ ss) at =
    where_some (content M at) (why_no_content M at) (λ v. where_some (pointed (may_write at) v) (unlike missing_reference v) (λ to. why_not_followed M ss to))
why_not_followed M (s ∷ ss) at = where_some (deeper s at) (why_no_content M at) (λ to. why_not_followed M ss to)

abbrev pub why_not_found : Place → List Value → State → Cause
why_not_found p vs s = where_some (start p.root vs s.frame) astray (λ at. why_not_followed s.memory p.steps at)

-- where something was to be written
abbrev pub why_not_written : List Value → Spot → Cause
why_not_written M (in_slot i p true) = why_no_content M (in_slot i p true)
why_not_written M at = immutable

-- at a value that a test, or a condition, doesn't take
abbrev pub why_not_checked : Value → Cause
why_not_checked v = unlike mistyped v
