-- Frames and places of the code as plain ones; where the parts of variables begin.
use Rattle.std.specs.Prelude.{◌≡◌, ℕ, ◌+◌, ◌≤◌, List, [], ◌∷◌, map, option_map, Option}
use Rattle.rx_typed.specs.Types.{Typ}
use Rattle.rx_typed.specs.PlainTypes.{plain-Ty, declarations}
use Rattle.rx_typed_declarations.specs.Sizes.{told, Sized}
use Rattle.rx_facts_tables.specs.declared.frames.Frame as code_frame
use Rattle.rx_facts_tables.specs.declared.frames.Layout.{Layout}
use Rattle.rx_facts_tables.specs.declared.frames.Spot as code_spot
use Rattle.rx_facts_tables.specs.declared.frames.Located as code_located
use Rattle.rx_facts_tables.specs.Places as places
use Rattle.rx_facts_tables.specs.Places.{Frame, typed_spot, spot_parts, all_parts}

abbrev pub plain-Frame : code_frame.Frame → Frame
plain-Frame f = record { declared = declarations f.decls.now.items; sizes = told f.sizes.now; types = map (option_map plain-Ty) f.types.now }

-- the table of sizes is that of what is declared
abbrev pub IsSized : code_frame.Frame → Type 0
IsSized f = Sized (declarations f.decls.now.items) (told f.sizes.now)

abbrev pub plain-Spot : code_spot.Spot → places.Spot
plain-Spot (code_spot.Spot.Whole t) = places.whole (plain-Ty t.now)
plain-Spot (code_spot.Spot.Fields ts) = places.fields (map plain-Ty ts.now)
plain-Spot code_spot.Spot.Nowhere = places.nowhere

abbrev pub plain-Located : code_located.Located → places.Located
plain-Located l = record { first = l.first; spot = plain-Spot l.spot }

-- the first parts of variables, from this number on
abbrev pub starts_from : (ℕ → ℕ) → ℕ → List (Option Typ) → List ℕ
starts_from P n [] = []
starts_from P n (t ∷ ts) = n ∷ starts_from P (n + spot_parts P (typed_spot t)) ts

-- the layout of the variables; their parts have numbers of 32 bits
pub record IsLayout (F : Frame) (l : Layout) : Type 0 where
  pub starts : l.starts ≡ starts_from F.sizes 0 F.types
  pub total : l.total ≡ all_parts F.sizes F.types
  pub small : l.total ≤ 4294967295

-- what the code asks of a place so far: the numbers of its parts have 64 bits
abbrev pub Fits : (ℕ → ℕ) → places.Located → Type 0
Fits P l = l.first + spot_parts P l.spot ≤ 18446744073709551615
