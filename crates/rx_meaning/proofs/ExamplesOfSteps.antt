-- Single steps, computed: the range of each integer type, division, printing, and what is Wrong.
use Rattle.std.specs.Prelude.{◌≡◌, refl, pos, negsuc, true, false, List, [], ◌∷◌, Some, codes}
use Rattle.std.specs.Fmt.{digits}
use Rattle.rx_core.specs.declared.types.Kind.{Kind}
use Rattle.rx_core.specs.declared.types.Step.{Step}
use Rattle.rx_core.specs.declared.types.Step.TheVariants as step
use Rattle.rx_tree.specs.declared.tree.BinaryOp.{BinaryOp}
use Rattle.rx_typed.specs.Tree.{Temporary, Place, negation, own, under, temporary_at}
use Rattle.rx_lower_walks.specs.Matching.{has_tag}
use Rattle.rx_lower_walks.specs.Actions.{Read, Write, Borrow, Test}
use Rattle.rx_meaning.specs.declared.outcome.Trap.{Trap}
use Rattle.rx_meaning.specs.Endings.{wrong, lacks, astray, immutable, mistyped, missing_reference}
use Rattle.rx_meaning.specs.Values.{Value, number, truth, whole, tagged, pointer, lacking, unset, no_value, value_and, unit_value, State}
use Rattle.rx_meaning.specs.Results.{gives, ends}
use Rattle.rx_meaning.specs.Operators.{traps, least, greatest, compute, make, shown}
use Rattle.rx_meaning.specs.Operators as operators
use Rattle.rx_meaning.specs.Acting.{does_plainly}

-- ---- ranges

past_u8 : compute BinaryOp.Add Kind.U8 (pos 200) (pos 56) ≡ traps Trap.Overflow
past_u8 = refl

greatest_u8 : compute BinaryOp.Add Kind.U8 (pos 200) (pos 55) ≡ operators.gives (number Kind.U8 (pos 255))
greatest_u8 = refl

below_u32 : compute BinaryOp.Sub Kind.U32 (pos 3) (pos 4) ≡ traps Trap.Overflow
below_u32 = refl

past_u64 : compute BinaryOp.Mul Kind.U64 (greatest Kind.U64) (pos 2) ≡ traps Trap.Overflow
past_u64 = refl

past_i32 : compute BinaryOp.Add Kind.I32 (pos 2147483647) (pos 1) ≡ traps Trap.Overflow
past_i32 = refl

below_i64 : compute BinaryOp.Sub Kind.I64 (negsuc 9223372036854775807) (pos 1) ≡ traps Trap.Overflow
below_i64 = refl

least_i64 : compute BinaryOp.Sub Kind.I64 (negsuc 9223372036854775806) (pos 1) ≡ operators.gives (number Kind.I64 (negsuc 9223372036854775807))
least_i64 = refl

least_negated : make negation (0 ∷ []) (number Kind.I32 (least Kind.I32) ∷ []) ≡ traps Trap.Overflow
least_negated = refl

-- ---- division: towards zero, with the sign of the dividend

least_divided : compute BinaryOp.Div Kind.I32 (least Kind.I32) (negsuc 0) ≡ traps Trap.Overflow
least_divided = refl

least_remainder : compute BinaryOp.Rem Kind.I64 (least Kind.I64) (negsuc 0) ≡ traps Trap.Overflow
least_remainder = refl

by_zero : compute BinaryOp.Rem Kind.U8 (pos 7) (pos 0) ≡ traps Trap.DivideByZero
by_zero = refl

towards_zero : compute BinaryOp.Div Kind.I64 (negsuc 6) (pos 2) ≡ operators.gives (number Kind.I64 (negsuc 2))
towards_zero = refl

sign_of_dividend : compute BinaryOp.Rem Kind.I64 (negsuc 6) (pos 2) ≡ operators.gives (number Kind.I64 (negsuc 0))
sign_of_dividend = refl

-- ---- printing

printed_number : shown (number Kind.I64 (negsuc 41)) ≡ Some (codes "-42\n")
unfolding digits
printed_number = refl

printed_truth : shown (truth false) ≡ Some (codes "false\n")
printed_truth = refl

-- ---- places

abbrev into : Temporary
into = temporary_at 0 0

abbrev having : List Value → State
having M = record { memory = M; frame = record { item = 0; slots = (0, 0) ∷ (1, 1) ∷ [] }; input = []; turns = 0 }

abbrev one : Value
one = number Kind.I64 (pos 1)

-- a tuple of which a part was never written
half_set : Value
half_set = whole (value_and one (value_and (lacking unset) no_value))

abbrev first_of : List Step → Place
first_of ss = under (own 0) ss

never_written : does_plainly (Read false (own 0) into) [] (having (lacking unset ∷ [])) ≡ ends [] (wrong lacks)
never_written = refl

part_not_written : does_plainly (Read false (own 0) into) [] (having (half_set ∷ [])) ≡ ends [] (wrong lacks)
unfolding half_set
part_not_written = refl

-- a reference to it may be made, and what it leads to may not be read
borrowed : does_plainly (Borrow false (own 0) into) [] (having (half_set ∷ [])) ≡ gives [] (pointer 0 [] false) (having (half_set ∷ []))
unfolding half_set
borrowed = refl

nothing_tested : does_plainly (Test (own 0) (has_tag 0)) [] (having (lacking unset ∷ [])) ≡ ends [] (wrong lacks)
nothing_tested = refl

-- also one into what was never written, and one to where a reference leads that leads nowhere
into_nothing : does_plainly (Borrow false (first_of (step.Field 0 ∷ [])) into) [] (having (lacking unset ∷ [])) ≡ gives [] (pointer 0 (step.Field 0 ∷ []) false) (having (lacking unset ∷ []))
into_nothing = refl

nothing_there : does_plainly (Borrow true (first_of (step.Deref true ∷ [])) into) [] (having (pointer 1 (step.Variant 1 ∷ step.Field 0 ∷ []) true ∷ tagged 0 no_value ∷ []))
    ≡ gives [] (pointer 1 (step.Variant 1 ∷ step.Field 0 ∷ []) true) (having (pointer 1 (step.Variant 1 ∷ step.Field 0 ∷ []) true ∷ tagged 0 no_value ∷ []))
nothing_there = refl

-- what leads there is looked at: it may not be read, and through what was never written nothing is followed
read_there : does_plainly (Read false (first_of (step.Deref true ∷ [])) into) [] (having (pointer 1 (step.Variant 1 ∷ step.Field 0 ∷ []) true ∷ tagged 0 no_value ∷ [])) ≡ ends [] (wrong astray)
read_there = refl

borrowed_behind_nothing : does_plainly (Borrow true (first_of (step.Deref true ∷ [])) into) [] (having (lacking unset ∷ [])) ≡ ends [] (wrong lacks)
borrowed_behind_nothing = refl

borrowed_behind_a_number : does_plainly (Borrow true (first_of (step.Deref true ∷ [])) into) [] (having (one ∷ [])) ≡ ends [] (wrong missing_reference)
borrowed_behind_a_number = refl

other_part_written : does_plainly (Read false (first_of (step.Field 0 ∷ [])) into) [] (having (half_set ∷ [])) ≡ gives [] one (having (half_set ∷ []))
unfolding half_set
other_part_written = refl

other_variant : does_plainly (Read false (first_of (step.Variant 1 ∷ step.Field 0 ∷ [])) into) [] (having (tagged 0 (value_and one no_value) ∷ [])) ≡ ends [] (wrong astray)
other_variant = refl

its_variant : does_plainly (Read false (first_of (step.Variant 0 ∷ step.Field 0 ∷ [])) into) [] (having (tagged 0 (value_and one no_value) ∷ []))
    ≡ gives [] one (having (tagged 0 (value_and one no_value) ∷ []))
its_variant = refl

-- a test of a value of another form
tag_of_a_number : does_plainly (Test (own 0) (has_tag 1)) [] (having (one ∷ [])) ≡ ends [] (wrong mistyped)
tag_of_a_number = refl

-- a reference to what was never written leads to nothing to read; one that is no reference leads nowhere
behind_a_reference : does_plainly (Read false (first_of (step.Deref false ∷ [])) into) [] (having (pointer 1 [] false ∷ lacking unset ∷ [])) ≡ ends [] (wrong lacks)
behind_a_reference = refl

behind_a_number : does_plainly (Read false (first_of (step.Deref false ∷ [])) into) [] (having (one ∷ [])) ≡ ends [] (wrong missing_reference)
behind_a_number = refl

tag_tested : does_plainly (Test (own 0) (has_tag 1)) [] (having (tagged 0 no_value ∷ [])) ≡ gives [] (truth false) (having (tagged 0 no_value ∷ []))
tag_tested = refl

through_shared : does_plainly (Write (first_of (step.Deref false ∷ [])) into []) (one ∷ []) (having (pointer 1 [] false ∷ truth true ∷ [])) ≡ ends [] (wrong immutable)
through_shared = refl

-- a mutable reference behind a shared one
through_both : does_plainly (Write (first_of (step.Deref false ∷ step.Deref true ∷ [])) into []) (one ∷ []) (having (pointer 1 [] false ∷ pointer 2 [] true ∷ truth true ∷ []))
    ≡ ends [] (wrong immutable)
through_both = refl

through_mutable : does_plainly (Write (first_of (step.Deref true ∷ [])) into []) (one ∷ []) (having (pointer 1 [] true ∷ truth true ∷ []))
    ≡ gives [] unit_value (having (pointer 1 [] true ∷ one ∷ []))
through_mutable = refl

-- a mutable reference that is asked for behind a shared one is shared, and one behind a mutable one is that one
borrowed_behind_shared : does_plainly (Borrow true (first_of (step.Deref false ∷ [])) into) [] (having (pointer 1 [] false ∷ one ∷ []))
    ≡ gives [] (pointer 1 [] false) (having (pointer 1 [] false ∷ one ∷ []))
borrowed_behind_shared = refl

borrowed_again : does_plainly (Borrow true (first_of (step.Deref true ∷ [])) into) [] (having (pointer 1 [] true ∷ one ∷ []))
    ≡ gives [] (pointer 1 [] true) (having (pointer 1 [] true ∷ one ∷ []))
borrowed_again = refl
