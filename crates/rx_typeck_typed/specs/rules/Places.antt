-- What the rules of types ask of places: where they stand, where they are written, what is borrowed (Rust Reference, "Place expressions", "Coercion types", "Borrow operators").
use Rattle.std.specs.Prelude.{ℕ, Bool, true, false, not, List, [], ◌∷◌}
use Rattle.rx_typed.specs.declared.nodes.Node.{Node}
use Rattle.rx_typed.specs.declared.nodes.Site.{Site}
use Rattle.rx_typed.specs.declared.nodes.Use.{Use}
use Rattle.rx_typed.specs.Named as named
use Rattle.rx_typed.specs.Named.{Exp, node_of, is_variable, root}
use Rattle.rx_typeck_solver.specs.declared.facts.Rule.{Rule}
use Rattle.rx_typeck_solver.specs.declared.facts.Op.{Op}
use Rattle.rx_typeck_solver.specs.declared.facts.Op.TheVariants as op
use Rattle.rx_typeck_solver.specs.declared.facts.Test.{Test}
use Rattle.rx_typeck_solver.specs.declared.facts.Test.TheVariants as test
use Rattle.rx_typeck_solver.specs.declared.facts.Passing.{Passing}
use Rattle.rx_typeck_solver.specs.declared.facts.Fact.TheVariants as fact
use Rattle.rx_typeck_typed.specs.Asking.{Asking, ◌>>◌, nothing, ask, ask_mutable, when, type_of, expected, is, alike, all}
use Rattle.rx_typeck_typed.specs.rules.Types.{limits}

-- the dereferences that a place goes through: those of a field step by themselves, the one of `*`
abbrev pub through : Exp → List Passing
through (named.field n e x) = record { node = (node_of e).number; all = true } ∷ through e
through (named.part n e i) = record { node = (node_of e).number; all = true } ∷ through e
through (named.deref n e) = record { node = (node_of e).number; all = false } ∷ through e
through _ = []

-- at a coercion site the type is the expected one, before its coercion (Rust Reference, "Coercion types")
abbrev pub coerces : Node → Asking
coerces n = ask n Rule.Equal (is (type_of n) op.Coerced (type_of n ∷ expected n ∷ []) ∷ [])

-- what is no coercion site but reborrows expects the own type
abbrev pub expects_own : Node → Asking
expects_own n = ask n Rule.Equal (alike (expected n) (type_of n) ∷ [])

-- a place that isn't Copy isn't moved from behind a reference
abbrev pub kept : Node → Test → List Passing → Asking
kept n t ps = ask n Rule.MoveOut (fact.Passes t (type_of n ∷ []) [] ps ∷ [])

-- a place that is reborrowed mutably stands behind no shared reference
abbrev pub lendable : Node → ℕ → List Passing → Asking
lendable n x ps = ask_mutable n x (fact.Passes test.Lendable (type_of n ∷ expected n ∷ []) [] ps)

-- a place where it stands: its node, its variable, the dereferences that it goes through
abbrev pub place_in : Node → ℕ → List Passing → Site → Asking
place_in n x ps Site.Value = kept n test.Kept ps
place_in n x ps Site.Place = nothing
place_in n x ps Site.Scrutinee = nothing
place_in n x ps Site.Expects = coerces n >> kept n test.KeptOrLent ps >> lendable n x ps
place_in n x ps Site.Initialises = coerces n >> lendable n x ps
place_in n x ps Site.Reborrows = expects_own n >> kept n test.KeptOrLent ps >> lendable n x ps

abbrev pub place_at : Exp → Asking
place_at e = place_in (node_of e) (root e).number (through e) (node_of e).site

-- a value that is no place, where it stands
abbrev pub value_in : Node → Site → Asking
value_in n Site.Place = ask n Rule.NotPlace (fact.Never ∷ [])
value_in n Site.Expects = coerces n
value_in n Site.Initialises = coerces n
value_in n Site.Reborrows = expects_own n
value_in n _ = nothing

abbrev pub value_at : Node → Asking
value_at n = value_in n n.site

-- what has no type fits every site but a place
abbrev pub never_in : Node → Site → Asking
never_in n Site.Place = ask n Rule.NotPlace (fact.Never ∷ [])
never_in n _ = nothing

abbrev pub never_at : Node → Asking
never_at n = never_in n n.site

-- a place that is written, or borrowed mutably: whether its variable's own storage may be, the variable, the
-- dereferences that it goes through
abbrev pub writable : Node → Bool → ℕ → List Passing → Asking
writable n own x ps = ask_mutable n x (fact.Passes (test.Writable own) [] [] ps)

-- a whole variable that is assigned is no matter of types: whether it is one, the variable, the dereferences
abbrev pub assignable_at : Node → Bool → Use → List Passing → Asking
assignable_at n whole x ps = when (not whole) (writable n x.mutable x.number ps)

abbrev pub assignable : Node → Exp → Asking
assignable n p = assignable_at n (is_variable p) (root p) (through p)

-- a step from a place: a field, a part, what a reference leads to
abbrev pub step_at : Node → Op → Node → Asking
step_at n o e = ask n Rule.NotPlace (is (type_of n) o (type_of e ∷ []) ∷ [])

-- a borrow of a place: its node, its variable, the dereferences (Rust Reference, "Borrow operators")
abbrev pub borrowed : Node → Bool → Node → Use → List Passing → Asking
borrowed n m e x ps = ask n Rule.Equal (is (type_of n) (op.Referring m) (type_of e ∷ []) ∷ []) >> limits n
    >> when m (writable n x.mutable x.number ps) >> value_at n
