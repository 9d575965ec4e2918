-- How rules are told: each adds its demand to those before it, in the order of the text.
use Rattle.std.specs.Prelude.{ℕ, nat_le, Bool, true, false, ◌&&◌, ◌||◌, List, [], ◌∷◌, ◌++◌, Option, Some, None}
use Rattle.rx_core.specs.declared.types.Kind.{Kind}
use Rattle.rx_typed.specs.declared.nodes.Node.{Node}
use Rattle.rx_typeck_solver.specs.declared.facts.Kinds.{Kinds}
use Rattle.rx_typeck_solver.specs.declared.facts.Rule.{Rule}
use Rattle.rx_typeck_solver.specs.declared.facts.Broken.{Broken}
use Rattle.rx_typeck_solver.specs.declared.facts.Broken.TheVariants as broken
use Rattle.rx_typeck_solver.specs.declared.facts.Subject.{Subject}
use Rattle.rx_typeck_solver.specs.declared.facts.Subject.TheVariants as subject
use Rattle.rx_typeck_solver.specs.declared.facts.Op.{Op}
use Rattle.rx_typeck_solver.specs.declared.facts.Test.{Test}
use Rattle.rx_typeck_solver.specs.declared.facts.Fact.{Fact}
use Rattle.rx_typeck_solver.specs.declared.facts.Fact.TheVariants as fact
use Rattle.rx_typeck_solver.specs.declared.facts.Demand.{Demand}

abbrev pub Asking : Type 0
Asking = List Demand → List Demand

infixr 10 ◌>>◌
abbrev pub ◌>>◌ : Asking → Asking → Asking
f >> g = λ ds. g (f ds)

abbrev pub nothing : Asking
nothing ds = ds

abbrev pub asks : Node → Broken → Bool → List Fact → Asking
asks n b o fs ds = ds ++ record { node = n.number; span = n.span; broken = b; unsuffixed = o; facts = fs } ∷ []

-- a rule asks these facts at a node
abbrev pub ask : Node → Rule → List Fact → Asking
ask n r fs = asks n (broken.Mismatch r) false fs

-- what is assigned or borrowed mutably at a node is a part of this variable
abbrev pub ask_mutable : Node → ℕ → Fact → Asking
ask_mutable n x f = asks n (broken.Mutability x) false (f ∷ [])

abbrev pub when : Bool → Asking → Asking
when true f = f
when false f = nothing

-- a fact of a part that is asked only where it has a type
abbrev pub typed : Bool → Fact → List Fact
typed true f = []
typed false f = f ∷ []

-- ---- facts

abbrev pub type_of : Node → Subject
type_of n = subject.Node n.number

abbrev pub expected : Node → Subject
expected n = subject.Expected n.number

abbrev pub is : Subject → Op → List Subject → Fact
is x o xs = fact.Equals x o xs []

abbrev pub alike : Subject → Subject → Fact
alike x y = is x Op.Same (y ∷ [])

abbrev pub passes : Test → List Subject → Fact
passes t xs = fact.Passes t xs [] []

-- ---- sets of integer types

abbrev pub all : Kinds
all = record { u8 = true; u32 = true; u64 = true; i32 = true; i64 = true }

abbrev pub signed : Kinds
signed = record { u8 = false; u32 = false; u64 = false; i32 = true; i64 = true }

-- those that hold a literal; the flag says that it stands directly under a minus (Rust Reference, "Integer literal expressions")
abbrev pub fitting : Bool → ℕ → Kinds
fitting minus v = record {
  u8 = nat_le v 255;
  u32 = nat_le v 4294967295;
  u64 = nat_le v 18446744073709551615;
  i32 = nat_le v 2147483647 || (minus && nat_le v 2147483648);
  i64 = nat_le v 9223372036854775807 || (minus && nat_le v 9223372036854775808);
}

abbrev pub just : Kind → Kinds
just Kind.U8 = record { u8 = true; u32 = false; u64 = false; i32 = false; i64 = false }
just Kind.U32 = record { u8 = false; u32 = true; u64 = false; i32 = false; i64 = false }
just Kind.U64 = record { u8 = false; u32 = false; u64 = true; i32 = false; i64 = false }
just Kind.I32 = record { u8 = false; u32 = false; u64 = false; i32 = true; i64 = false }
just Kind.I64 = record { u8 = false; u32 = false; u64 = false; i32 = false; i64 = true }

abbrev pub with_suffix : Option Kind → Kinds
with_suffix None = all
with_suffix (Some k) = just k

abbrev pub is_open : Option Kind → Bool
is_open None = true
is_open (Some k) = false
