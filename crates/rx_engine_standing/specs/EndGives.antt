-- What the end of a block gives in a text, by the values that the plan of a run hands out there (REM, "Extract function", outputs and control flow; Rust
-- Reference, "Block expressions", "Coercion types"): the value of the block's tail, as its place has taken it; else none but the unit.
use Rattle.std.specs.Prelude.{◌≡◌, false, List, [], ◌∷◌}
use Rattle.rx_typed.specs.declared.nodes.Node.{Node}
use Rattle.rx_typed.specs.declared.nodes.Site.{Site}
use Rattle.rx_typed.specs.Elaborated.{coercion}
use Rattle.rx_typed.specs.Named as named
use Rattle.rx_typed.specs.Named.{never, node_of, Else}
use Rattle.rx_typed.specs.Types.{unit_shape, Typ}
use Rattle.rx_typeck_solver.specs.Facts.{Assignment}
use Rattle.rx_typeck_typed.specs.Asking.{expected, type_of}
use Rattle.rx_hoist_extraction.specs.Values.{held_by, result_of, Value}
use Rattle.rx_hoist_naming.specs.NamedPlan.{passed}

-- a block stands where its value is copied, coerced or reborrowed
abbrev pub IsBlockSite : Site → Type 0
IsBlockSite Site.Value = Unit {0}
IsBlockSite Site.Expects = Unit {0}
IsBlockSite Site.Reborrows = Unit {0}
IsBlockSite _ = ⊥

-- its tail stands there too
abbrev pub TailStands : Node → Else → Type 0
TailStands n named.absent = Unit {0}
TailStands n (named.present e) = (node_of e).site ≡ n.site

-- the type of a value behind what its place makes of it
abbrev pub type_behind : Assignment → Node → Site → Typ
type_behind A m Site.Expects = passed (coercion (A (type_of m)) (A (expected m))) (A (type_of m))
type_behind A m _ = A (type_of m)

-- no value is handed out
abbrev pub GivesNone : Assignment → Else → Type 0
GivesNone A named.absent = Unit {0}
GivesNone A (named.present e) = never e ≡ false → A (type_of (node_of e)) ≡ unit_shape

abbrev pub GivesTail : Assignment → Else → Typ → Type 0
GivesTail A named.absent t = ⊥
GivesTail A (named.present e) t = (never e ≡ false) × (t ≡ type_behind A (node_of e) (node_of e).site)

abbrev pub EndGives : Assignment → Else → List Value → Type 0
EndGives A o [] = GivesNone A o
EndGives A o (held_by v ∷ hs) = GivesNone A o
EndGives A o (result_of t ∷ hs) = GivesTail A o t

-- another block's end has a tail only where a value is handed out
abbrev pub HasNoTail : List Value → Else → Type 0
HasNoTail [] o = o ≡ named.absent
HasNoTail (held_by v ∷ hs) o = o ≡ named.absent
HasNoTail (result_of t ∷ hs) o = Unit {0}
