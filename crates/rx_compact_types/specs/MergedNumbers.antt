-- The numbers of lifetimes of a function of which several became one: of a declared one, that of what it became in the new list; of one
-- that is left out, as many behind the declared ones as before (Rust Reference, "Lifetime elision").
use Rattle.std.specs.Prelude.{ℕ, ◌+◌, ◌-◌, nat_lt, Bool, if◌then◌else◌, List, [], length, get_or, Option, Some, None}
use Rattle.rx_core.specs.declared.types.Span.{Span}
use Rattle.rx_tree.specs.Plain.{Function}
use Rattle.rx_resolve_names.specs.Meant.{number}
use Rattle.rx_compact_lifetimes.specs.Rewritten.{becomes}
use Rattle.rx_compact_lifetimes.specs.Merged.{mergings_of, merged}
use Rattle.rx_compact_lifetimes.specs.Steps.{names}
use Rattle.rx_compact_laws.specs.Resolved.{declared}
use Rattle.rx_compact_types.specs.Positions.{number_of}

abbrev pub name_or : List ℕ → Option (List ℕ) → List ℕ
name_or x None = x
name_or x (Some y) = y

abbrev pub merged_number : (ℕ → ℕ → Bool) → Span → Function → ℕ → ℕ
merged_number outlives s f l =
    if nat_lt l (number (length f.lifetimes)) then
    number_of (declared s (merged outlives f)) (name_or (get_or (names f.lifetimes) l []) (becomes (mergings_of outlives f) (get_or (names f.lifetimes) l [])))
    else (l - number (length f.lifetimes)) + number (length (merged outlives f).lifetimes)
