-- Types with their lifetimes, as they are written (Rust Reference, "Type expressions", "Lifetime elision").
use Rattle.std.specs.Prelude.{ℕ, Bool, true, false, nat_eq, if◌then◌else◌, List, [], ◌∷◌, length, Option, Some, None}
use Rattle.std.specs.Prelude.{Ok, Err, slice_get}
use Rattle.rx_core.specs.declared.types.Span.{Span}
use Rattle.rx_core.specs.declared.types.Ty.{Ty}
use Rattle.rx_core.specs.declared.types.Ty.TheVariants as ty
use Rattle.rx_tree.specs.declared.tree.Ident.{Ident}
use Rattle.rx_tree.specs.Plain as plain
use Rattle.rx_tree.specs.Plain.{TypeTree, TypeTrees, ItemTree, ProgramTree}
use Rattle.rx_typeck_solver.specs.declared.facts.Rule.{Rule}
use Rattle.rx_typeck_typed.specs.declared.fault.DeclareFault.TheVariants as fault
use Rattle.rx_typeck_typed.specs.declared.reader.Role.{Role}
use Rattle.rx_typeck_typed.specs.declared.reader.Role.TheVariants as role
use Rattle.rx_typeck_typed.specs.Steps.{Outcome, on_ok, Step, gives, and_then, in_front, an_entry, first, others, occurs}
use Rattle.rx_typeck_typed.specs.Steps.{another}

-- the lifetimes that a struct or enum declares
abbrev pub lifetimes_of : Option ItemTree → List Ident
lifetimes_of (Some (plain.struct_item s d)) = d.lifetimes
lifetimes_of (Some (plain.enum_item s d)) = d.lifetimes
lifetimes_of _ = []

-- a lifetime that a type leaves out, by where the type stands: a field leaves out none, in a parameter it is one of
-- its own, in a result it is the only one of the parameters, in a `let` it is free and has a number that is given
abbrev pub elided : Role → Span → Step ℕ
elided role.Field s r = Err (fault.Elision s)
elided role.Parameter s r = another r
elided (role.Answer None) s r = Err (fault.Elision s)
elided (role.Answer (Some l)) s r = occurs l r
elided (role.Let l) s r = occurs l r

-- one for each that is declared, all left out
abbrev pub all_elided : Role → Span → List Ident → Step (List ℕ)
all_elided e s [] = gives []
all_elided e s (d ∷ ds) = in_front (elided e s) (all_elided e s ds)

-- a lifetime of a list: a written one is the first of these numbers, `'_` leaves one out
abbrev pub one_listed : Role → Span → Option Ident → List ℕ → Step ℕ
one_listed e s None ns = elided e s
one_listed e s (Some x) ns = occurs (first ns)

-- the numbers that are left behind it
abbrev pub left_by : Option Ident → List ℕ → List ℕ
left_by None ns = ns
left_by (Some x) ns = others ns

abbrev pub listed : Role → Span → List (Option Ident) → List ℕ → Step (List ℕ)
listed e s [] ns = gives []
listed e s (l ∷ ls) ns = in_front (one_listed e s l ns) (listed e s ls (left_by l ns))

-- a list in a field has as many as are declared; in a function the rules of its body ask it
abbrev pub as_many : Role → Span → List Ident → List (Option Ident) → Outcome (Unit {0})
as_many role.Field s ds ls = if nat_eq (length ls) (length ds) then Ok tt else Err (fault.Mismatch s Rule.Lifetimes)
as_many role.Parameter s ds ls = Ok tt
as_many (role.Answer l) s ds ls = Ok tt
as_many (role.Let l) s ds ls = Ok tt

-- the lifetimes of a type that names an item with these, and the numbers of those that are written
abbrev pub lifetimes_at : Role → Span → List Ident → Option (List (Option Ident)) → List ℕ → Step (List ℕ)
lifetimes_at e s ds None ns r = all_elided e s ds r
lifetimes_at e s ds (Some ls) ns r = on_ok (as_many e s ds ls) (λ _. listed e s ls ns r)

-- that of a reference; a written one has an entry
abbrev pub lifetime_at : Role → Span → Option Ident → Step ℕ
lifetime_at e s None = elided e s
lifetime_at e s (Some l) = and_then an_entry (λ ns. occurs (first ns))

abbrev pub pointing : Bool → ℕ → Ty → Ty
pointing false l t = ty.Shared l t
pointing true l t = ty.Mut l t

-- a type that names an item, whose entry has the item's number, then those of the lifetimes that are written
abbrev pub named_of : ProgramTree → Role → Span → Option (List (Option Ident)) → Step Ty
named_of p e s ls = and_then an_entry (λ ns.
    and_then (lifetimes_at e s (lifetimes_of (slice_get p (first ns))) ls (others ns))
    (λ ls. gives (ty.Adt (first ns) ls)))

abbrev mutual
  pub type_of : ProgramTree → Role → TypeTree → Step Ty
  type_of p e (plain.kind_type s k) = gives (ty.Int k)
  type_of p e (plain.bool_type s) = gives ty.Bool
  type_of p e (plain.tuple_type s ts) = and_then (types_of p e ts) (λ ts. gives (ty.Tuple ts))
  type_of p e (plain.ref_type s l m t) = and_then (lifetime_at e s l)
      (λ l. and_then (type_of p e t) (λ t. gives (pointing m l t)))
  type_of p e (plain.named_type s x ls) = named_of p e s ls

  pub types_of : ProgramTree → Role → TypeTrees → Step (List Ty)
  types_of p e plain.no_type = gives []
  types_of p e (plain.type_and t ts) = in_front (type_of p e t) (types_of p e ts)
