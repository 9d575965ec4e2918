-- A `let` whose type names a lifetime that became one with another, by computation.
use Rattle.std.proofs.Common.{◌≡◌, ℕ, Bool, true, false, List, [], ◌∷◌, map, Ok, Err, Some, None, refl}
use Rattle.std.specs.Prelude.{codes}
use Rattle.rx_core.specs.declared.types.Kind.TheVariants.{I64}
use Rattle.rx_core.specs.declared.types.Ty.{Ty}
use Rattle.rx_core.specs.declared.types.Ty.TheVariants as ty
use Rattle.rx_tree.specs.declared.tree.BoundLifetime.{BoundLifetime}
use Rattle.rx_tree.specs.declared.tree.Ident.{Ident}
use Rattle.rx_tree.specs.Erase.{nowhere}
use Rattle.rx_tree.specs.Plain as plain
use Rattle.rx_tree.specs.Plain.{TypeTree, Function}
use Rattle.rx_resolve_names.specs.declared.resolved.ItemNames.{ItemNames}
use Rattle.rx_resolve_names.specs.declared.resolved.NodeNames.{NodeNames}
use Rattle.rx_resolve_names.specs.Steps.{Outcome}
use Rattle.rx_resolve_names.specs.Items.{in_item}
use Rattle.rx_typed.specs.Naming.{Annotation, function_annotations}
use Rattle.rx_typeck_typed.specs.Lets.{let_type}
use Rattle.rx_typeck_typed.specs.Bindings.{behind}
use Rattle.rx_compact_lifetimes.specs.Merged.{merged}
use Rattle.rx_compact_lifetimes.specs.Elided.{elided}
use Rattle.rx_compact_types.specs.MergedNumbers.{merged_number}

abbrev an : List ℕ → Ident
an x = record { span = nowhere; name = x }

abbrev lifetime : List ℕ → List Ident → BoundLifetime
lifetime x bs = record { name = an x; bounds = bs }

abbrev reference : List ℕ → TypeTree
reference l = plain.ref_type nowhere (Some (an l)) false (plain.kind_type nowhere I64)

-- whose body is `let y: &l i64;`
abbrev fn : List BoundLifetime → List ℕ → Function
fn ls l = record {
  name = an (codes "f");
  lifetimes = ls;
  params = record { name = an (codes "x"); mutable = false; typ = reference (codes "'a") } ∷ [];
  result = None;
  body = plain.body nowhere (plain.statement_and (plain.let_statement nowhere (plain.bind nowhere (an (codes "y")) false) (Some (reference l)) plain.absent) plain.no_statement) plain.absent;
}

-- fn f<'a: 'b, 'b: 'a>(x: &'a i64) { let y: &'b i64; }    becomes    fn f<'a>(x: &'a i64) { let y: &'a i64; }
abbrev long : Function
long = fn (lifetime (codes "'a") (an (codes "'b") ∷ []) ∷ lifetime (codes "'b") (an (codes "'a") ∷ []) ∷ []) (codes "'b")

abbrev short : Function
short = fn (lifetime (codes "'a") [] ∷ []) (codes "'a")

abbrev equal : ℕ → ℕ → Bool
equal l k = true

is_short : elided true (merged equal long) ≡ short
is_short = refl

-- the second lifetime has the number of the first
second_is_first : merged_number equal nowhere long 1 ≡ 0
second_is_first = refl

abbrev names_of : Outcome ItemNames → List NodeNames
names_of (Ok t) = t.names
names_of (Err e) = []

-- what the `let`s of a program's only item write, a function of so many lifetimes
abbrev written_by : Function → ℕ → List Ty
written_by f n =
    map (λ (a : Annotation). let_type (plain.function_item nowhere f ∷ []) n a.typ (behind a).names)
    (function_annotations nowhere f (names_of (in_item (plain.function_item nowhere f ∷ []) 0 (plain.function_item nowhere f))))

long_writes : written_by long 2 ≡ ty.Shared 1 (ty.Int I64) ∷ []
long_writes = refl

short_writes : written_by short 1 ≡ ty.Shared 0 (ty.Int I64) ∷ []
short_writes = refl
