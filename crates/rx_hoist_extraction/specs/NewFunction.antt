-- The new function: its lifetimes with their bounds, its parameters, its result, its body (REM, "Extract function"; Rust
-- Reference, "Functions", "Generic parameters", "Lifetime bounds"). Every lifetime position of the signature, parameters first,
-- has a fresh name of its own.
use Rattle.std.specs.Prelude.{ℕ, ◌+◌, Bool, true, false, ◌&&◌, ◌||◌, if◌then◌else◌, List, [], ◌∷◌, ◌++◌, map, filter, Option, Some, None}
use Rattle.std.specs.Str.{bytes_eq}
use Rattle.rx_core.specs.declared.types.Span.{Span}
use Rattle.rx_tree.specs.declared.tree.Ident.{Ident}
use Rattle.rx_tree.specs.declared.tree.BoundLifetime.{BoundLifetime}
use Rattle.rx_tree.specs.Plain as plain
use Rattle.rx_tree.specs.Plain.{TypeTree, Parameter, Function, ProgramTree}
use Rattle.rx_tree.specs.Positions.{NodeTree, a_type}
use Rattle.rx_tree.specs.Nodes.{within_statements, within_optional}
use Rattle.rx_resolve_names.specs.Meant.{Around}
use Rattle.rx_typed.specs.Types.{Typ, reference, tuple_of, shapes_of}
use Rattle.rx_hoist_extraction.specs.Names.{Names, is_among}
use Rattle.rx_hoist_extraction.specs.Run.{Parts, as_statements}
use Rattle.rx_hoist_extraction.specs.Plan.{Mode, by_value, by_reborrow, by_view, by_shared, by_mut, Param, Bounds, Plan, has_enum, enum_name}
use Rattle.rx_hoist_extraction.specs.Values.{next_values, types_of}
use Rattle.rx_hoist_extraction.specs.Fresh.{fresh_lifetime}
use Rattle.rx_hoist_extraction.specs.Made.{ident}
use Rattle.rx_hoist_extraction.specs.WrittenTypes.{positions, positions_of, lifetimes_from, list_if_any, full}
use Rattle.rx_hoist_extraction.specs.NewEnum.{enum_positions}
use Rattle.rx_hoist_extraction.specs.NewBody.{new_body}

-- ---- parameters

-- a `&mut T` as a `&T`
abbrev pub viewed : Typ → Typ
viewed (reference m t) = reference false t
viewed t = t

-- the type of a parameter for a variable of type t
abbrev pub passed : Mode → Typ → Typ
passed by_value t = t
passed by_reborrow t = t
passed by_view t = viewed t
passed by_shared t = reference false t
passed by_mut t = reference true t

abbrev pub passed_types : List Param → List Typ
passed_types ps = map (λ (x : Param). passed x.mode x.variable.typ) ps

-- `mut` where the run moves what is declared `mut`
abbrev pub is_by_value : Mode → Bool
is_by_value by_value = true
is_by_value _ = false

-- the next lifetime has number n
abbrev pub new_parameters : ProgramTree → Plan → Span → ℕ → List Param → List Parameter
new_parameters P pl r n [] = []
new_parameters P pl r n (x ∷ xs) = let t = passed x.mode x.variable.typ in
    record {
      name = ident r x.variable.name;
      mutable = is_by_value x.mode && (x.moved && x.variable.mutable);
      typ = full P r (fresh_lifetime pl.lifetimes) n t;
    }
    ∷ new_parameters P pl r (n + positions P t) xs

abbrev pub parameter_positions : ProgramTree → Plan → ℕ
parameter_positions P pl = positions_of P (passed_types pl.params)

-- ---- the result: the enum; else nothing, the one type, or the tuple

abbrev pub joined_type : List Typ → Option Typ
joined_type [] = None
joined_type (t ∷ []) = Some t
joined_type (t ∷ u ∷ ts) = Some (tuple_of (shapes_of (t ∷ u ∷ ts)))

abbrev pub full_if_any : ProgramTree → Plan → Span → ℕ → Option Typ → Option TypeTree
full_if_any P pl r n None = None
full_if_any P pl r n (Some t) = Some (full P r (fresh_lifetime pl.lifetimes) n t)

abbrev pub enum_type : ProgramTree → Plan → Span → ℕ → TypeTree
enum_type P pl r n = plain.named_type r (ident r (enum_name pl))
    (list_if_any (lifetimes_from r (fresh_lifetime pl.lifetimes) n (enum_positions P pl)))

abbrev pub new_result : ProgramTree → Plan → Span → ℕ → Option TypeTree
new_result P pl r n =
    if has_enum pl.exits then Some (enum_type P pl r n) else full_if_any P pl r n (joined_type (types_of (next_values pl)))

abbrev pub result_positions : ProgramTree → Plan → ℕ
result_positions P pl = if has_enum pl.exits then enum_positions P pl else positions_of P (types_of (next_values pl))

-- how many fresh lifetimes the signature has
abbrev pub signature_positions : ProgramTree → Plan → ℕ
signature_positions P pl = parameter_positions P pl + result_positions P pl

-- ---- lifetimes: those that types in the run name, in order of occurrence, then the fresh ones

abbrev pub lifetimes_listed : List (Option Ident) → List Ident
lifetimes_listed [] = []
lifetimes_listed (None ∷ ls) = lifetimes_listed ls
lifetimes_listed (Some l ∷ ls) = l ∷ lifetimes_listed ls

-- those that a node itself names
abbrev pub lifetimes_at : NodeTree → List Ident
lifetimes_at (a_type (plain.ref_type s l m t)) = lifetimes_listed (l ∷ [])
lifetimes_at (a_type (plain.named_type s x (Some ls))) = lifetimes_listed ls
lifetimes_at _ = []

abbrev pub lifetimes_at_all : List NodeTree → List Ident
lifetimes_at_all [] = []
lifetimes_at_all (n ∷ ns) = lifetimes_at n ++ lifetimes_at_all ns

-- each where it is found first
abbrev pub firsts_of : Names → List Ident → List Ident
firsts_of found [] = []
firsts_of found (l ∷ ls) = if is_among l.name found then firsts_of found ls else l ∷ firsts_of (l.name ∷ found) ls

abbrev pub copied_lifetimes : Parts → List Ident
copied_lifetimes p = firsts_of [] (lifetimes_at_all (within_statements (as_statements p.statements) ++ within_optional p.tail))

abbrev pub new_lifetimes : ProgramTree → Plan → Span → Parts → List Ident
new_lifetimes P pl r p = copied_lifetimes p ++ lifetimes_from r (fresh_lifetime pl.lifetimes) 0 (signature_positions P pl)

-- ---- bounds: each lifetime with those that it outlives, in the order of the list

abbrev pub is_bound : List ℕ → List ℕ → Bounds → Bool
is_bound long short [] = false
is_bound long short (b ∷ bs) = (bytes_eq long b.0 && bytes_eq short b.1) || is_bound long short bs

abbrev pub shorts_of : Span → Bounds → List Ident → List ℕ → List Ident
shorts_of r bs ls long = map (λ (l : Ident). ident r l.name) (filter (λ (l : Ident). is_bound long l.name bs) ls)

abbrev pub with_bounds : Span → Bounds → List Ident → List BoundLifetime
with_bounds r bs ls = map (λ (l : Ident). record { name = l; bounds = shorts_of r bs ls l.name }) ls

-- ---- the whole; `ls` is what stands round the run

abbrev pub new_function : ProgramTree → Plan → Bounds → Span → List Around → Parts → Function
new_function P pl bs r ls p = record {
  name = ident r pl.name;
  lifetimes = with_bounds r bs (new_lifetimes P pl r p);
  params = new_parameters P pl r 0 pl.params;
  result = new_result P pl r (parameter_positions P pl);
  body = new_body P pl r ls p;
}
