-- The arguments of the call where they stand, and the params that they are passed for (Rust Reference, "Call expressions", "Borrow operators").
use Rattle.std.specs.Prelude.{◌≡◌, ℕ, true, IsTrue, Some}
use Rattle.rx_typed.specs.declared.nodes.Site.{Site}
use Rattle.rx_typed.specs.Types.{keeps_limits, outline}
use Rattle.rx_typed.specs.Named as named
use Rattle.rx_typed.specs.Named.{Exp, Exps}
use Rattle.rx_resolve_names.specs.Scopes.{variable_named}
use Rattle.rx_hoist_extraction.specs.Plan.{Param}
use Rattle.rx_hoist_extraction.specs.NewFunction.{passed}
use Rattle.rx_typeck_solver.specs.declared.facts.Subject.TheVariants as subject
use Rattle.rx_typeck_solver.specs.Facts.{KnownItems}
use Rattle.rx_engine_names.specs.Renaming.{Renaming}
use Rattle.rx_engine_names.specs.Calls.{Calls}
use Rattle.rx_engine_blocks.specs.Renumbering.{shape_at, Renumbering}
use Rattle.rx_engine_holes.specs.Entries.{Context}

-- a variable whose type is known, or a borrow of one, that is `mut` where this is mutable
abbrev pub IsPassed : Exp → Type 0
IsPassed (named.var n x) = (n.site ≡ Site.Expects) × (x.known ≡ true)
IsPassed (named.borrow n m (named.var k x)) = ((n.site ≡ Site.Expects) × (k.site ≡ Site.Place)) × ((x.known ≡ true) × (m ≡ true → x.mutable ≡ true))
IsPassed _ = ⊥

abbrev pub ArePassed : Exps → Type 0
ArePassed named.no_exp = Unit {0}
ArePassed (named.exp_and e es) = IsPassed e × ArePassed es

abbrev pub PassesOn : Exp → Type 0
PassesOn (named.call n g es) = ArePassed es
PassesOn _ = ⊥

-- the variable of a param has its type, and as it is passed this keeps the limits
abbrev pub HasItsType : KnownItems → Context → Renumbering → Calls → Renaming → Param → Type 0
HasItsType E B q C R x = ((j m : ℕ) → variable_named C.scope x.variable.name ≡ Some j → R.variable j m ≡ true → B (subject.Variable m) ≡ Some (shape_at q x.variable.typ))
    × IsTrue (keeps_limits E.sizes (outline (shape_at q (passed x.mode x.variable.typ))))
