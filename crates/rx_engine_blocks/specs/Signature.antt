-- The types that are written, and parameters that have them.
use Rattle.std.specs.Prelude.{◌≡◌, List, [], ◌∷◌}
use Rattle.rx_typed.specs.Types.{Typ, integer, boolean, tuple_of, reference, named as item, shapes_of}
use Rattle.rx_typed.specs.Named as named
use Rattle.rx_typed.specs.Named.{Written, WrittenTypes, Parameter}
use Rattle.rx_typeck_solver.specs.declared.facts.Subject.TheVariants as subject
use Rattle.rx_typeck_solver.specs.Facts.{Assignment}

abbrev mutual
  pub typ_written : Written → Typ
  typ_written (named.a_kind n k) = integer k
  typ_written (named.a_bool n) = boolean
  typ_written (named.a_tuple n ts) = tuple_of (shapes_of (typs_written ts))
  typ_written (named.a_reference n m t) = reference m (typ_written t)
  typ_written (named.an_item n i ls) = item i

  pub typs_written : WrittenTypes → List Typ
  typs_written named.no_written = []
  typs_written (named.written_and t ts) = typ_written t ∷ typs_written ts

-- each parameter has the type that is written
abbrev pub AsWritten : Assignment → List Parameter → Type 0
AsWritten C [] = Unit {0}
AsWritten C (x ∷ xs) = (C (subject.Variable x.variable) ≡ typ_written x.typ) × AsWritten C xs
