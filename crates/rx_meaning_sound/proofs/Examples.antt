-- The declarations and tables of a program of structs, enums, a loop, and a move on one branch have no reference; those of one with a
-- borrow have.
use Rattle.std.specs.Prelude.{List, [], ◌∷◌, Bool, true, false, codes}
use Rattle.rx_core.specs.declared.types.Kind.{Kind}
use Rattle.rx_typed.specs.Types.{Typ, integer, boolean, tuple_of, reference, named, no_shape, shape_and, unit_shape, VariantDeclared, FieldDeclared, Declarations, struct_declared, enum_declared, function_declared}
use Rattle.rx_meaning_sound.specs.Plain.{IsPlain, EachPlain, ItemsPlain}

-- struct Point { x: i64, y: i64 }
-- enum Shape { Dot(Point), Line(Point, Point), Nothing }
-- fn length(shape: Shape) -> i64
-- fn main()
abbrev declared : Declarations
declared =
    struct_declared false 0 (record { name = codes "x"; typ = integer Kind.I64 } ∷ record { name = codes "y"; typ = integer Kind.I64 } ∷ [])
    ∷ enum_declared false 0 (record { name = codes "Dot"; parts = named 0 ∷ [] } ∷ record { name = codes "Line"; parts = named 0 ∷ named 0 ∷ [] } ∷ record { name = codes "Nothing"; parts = [] } ∷ [])
    ∷ function_declared (named 1 ∷ []) (integer Kind.I64)
    ∷ function_declared [] unit_shape ∷ []

pub items : ItemsPlain declared declared
items = ((tt, (tt, tt)), (((tt, tt), ((tt, (tt, tt)), (tt, tt))), (((tt, tt), tt), ((tt, tt), tt))))

-- fn main() {
--     let mut left = 3i64;
--     let mut sum = 0;
--     while left > 0 {
--         let shape = if left == 2 { Shape::Nothing } else { Shape::Dot(Point { x: left, y: 1 }) };
--         if left > 1 { sum = sum + length(shape); } else { println!("{}", left); }
--         left = left - 1;
--     }
-- }
-- what its nodes and variables are of
pub types : EachPlain declared (integer Kind.I64 ∷ boolean ∷ named 0 ∷ named 1 ∷ unit_shape ∷ tuple_of (shape_and (named 1) (shape_and boolean no_shape)) ∷ [])
types = (tt, (tt, (tt, (tt, (tt, ((tt, (tt, tt)), tt))))))

-- `&left`
borrowed : IsPlain declared (reference false (integer Kind.I64)) → ⊥
borrowed h = h

-- an enum of no variant has no value
empty : IsPlain (enum_declared false 0 [] ∷ []) (named 0) → ⊥
empty h = h
