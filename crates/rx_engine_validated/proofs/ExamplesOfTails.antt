-- Answers that are found to be extractions of runs with their block's tail: of one whose value is handed out in a tuple with a local, and of the whole
-- body of a function; of a unit that is dropped, and of one that is read. Answers that give another value, or don't give it back, aren't.
use Rattle.std.proofs.Common.{◌≡◌, ℕ, Bool, true, false, List, [], ◌∷◌, None, refl}
use Rattle.rx_typed.specs.Tree as tree
use Rattle.rx_typed.specs.Tree.{Exp, Body, Function, own}
use Rattle.rx_modes_policy.specs.declared.uses.Mode.TheVariants as mode
use Rattle.rx_exits_plan.specs.Points.{next}
use Rattle.rx_exits_plan.specs.Plan.{Plan}
use Rattle.rx_engine_simulation.specs.Passing.{New}
use Rattle.rx_engine_alike.specs.Items.{items_with}
use Rattle.rx_engine_extracted.specs.Told.{Told}
use Rattle.rx_engine_extracted.specs.Programs.{extracts}
use Rattle.rx_engine_validated.proofs.Examples.{m, number, alone, pair_of, rest, local_out}

abbrev told_of : ℕ → ℕ → Plan → List ℕ → List Bool → New → Told
told_of block count plan elsewhere muts n = record {
  run = record { block = block; first = 0; count = count; tail = true };
  around = [];
  plan = plan;
  modes = [];
  elsewhere = elsewhere;
  muts = muts;
  new = n;
  beyond = 10;
  items = items_with 0 1;
  units = [];
  gives_unit = false;
}

-- ---- a value beside a local

-- let a; let b = { .. }; println!("{}", a);
abbrev with_block : Body → Function
with_block b = record { params = []; body = tree.block (m 1) (tree.declares 2 (0 ∷ []) (tree.lets 3 (tree.bind 4 1 (tree.by_value false)) (tree.of_value (tree.block (m 16) b)) rest)) }

-- a = 7; 5
abbrev text : Function
text = with_block (tree.runs (tree.assign (m 5) (own 0) (number 6 7)) (tree.ends (number 20 5)))

abbrev plan : Plan
plan = record { exits = next ∷ []; params = []; locals = 0 ∷ []; outs = local_out; value = None; redeclared = []; loose = [] }

-- let (v, c) = new(); a = c; v
abbrev answer_giving : ℕ → Function
answer_giving v = with_block (tree.lets 30 (tree.parts (tree.part_and 0 (tree.bind 31 7 (tree.by_value false)) (tree.part_and 1 (tree.bind 32 8 (tree.by_value false)) tree.no_part))) (tree.of_value (tree.call (m 33) 1 tree.no_operand))
    (tree.runs (tree.assign (m 34) (own 0) (tree.read (m 35) true (own 8))) (tree.ends (tree.read (m 36) true (own v)))))

-- fn new() -> (i64, i64) { let a; a = 7; let v = 5; (v, a) }
abbrev giving : ℕ → New
giving z = record {
  number = 1;
  function = record {
    params = [];
    body = tree.block (m 13) (tree.declares 14 (5 ∷ []) (tree.runs (tree.assign (m 5) (own 5) (number 6 7))
        (tree.lets 40 (tree.bind 41 9 (tree.by_value false)) (tree.of_value (number 42 z))
        (tree.ends (tree.give (m 13) (tree.build (m 43) tree.tuple (tree.operand_and 0 (tree.read (m 44) true (own 9)) (tree.operand_and 1 (tree.read (m 45) true (own 5)) tree.no_operand))))))));
  };
}

abbrev told : New → Told
told n = told_of 16 1 plan (0 ∷ []) (false ∷ []) n

pub value_is_found : extracts (told (giving 5)) 0 (alone text) (pair_of (answer_giving 7) (giving 5).function) ≡ true
value_is_found = refl

pub another_value_is_not : extracts (told (giving 6)) 0 (alone text) (pair_of (answer_giving 7) (giving 6).function) ≡ false
another_value_is_not = refl

-- the local's value is given back
pub another_variable_is_not : extracts (told (giving 5)) 0 (alone text) (pair_of (answer_giving 8) (giving 5).function) ≡ false
another_variable_is_not = refl

-- ---- a whole body

-- println!("{}", 7); 5
abbrev printing : ℕ → Exp → Body
printing n e = tree.runs (tree.print (m 5) (number 6 7)) (tree.ends (tree.give (m n) e))

abbrev whole : Function
whole = record { params = []; body = tree.block (m 1) (printing 1 (number 20 5)) }

-- new()
abbrev calls_whole : Function
calls_whole = record { params = []; body = tree.block (m 50) (tree.ends (tree.give (m 50) (tree.call (m 51) 1 tree.no_operand))) }

-- fn new() -> i64 { println!("{}", 7); 5 }
abbrev new_whole : ℕ → New
new_whole z = record { number = 1; function = record { params = []; body = tree.block (m 52) (printing 52 (number 53 z)) } }

abbrev plan_whole : Plan
plan_whole = record { exits = next ∷ []; params = []; locals = []; outs = λ e. []; value = None; redeclared = []; loose = [] }

pub body_is_found : extracts (told_of 1 1 plan_whole [] [] (new_whole 5)) 0 (alone whole) (pair_of calls_whole (new_whole 5).function) ≡ true
body_is_found = refl

pub another_body_is_not : extracts (told_of 1 1 plan_whole [] [] (new_whole 6)) 0 (alone whole) (pair_of calls_whole (new_whole 6).function) ≡ false
another_body_is_not = refl

-- ---- a unit

-- let a; { a = 7; println!("{}", 8) } println!("{}", a);
abbrev with_unit : Body → Function
with_unit b = record { params = []; body = tree.block (m 1) (tree.declares 2 (0 ∷ []) (tree.runs (tree.block (m 16) b) rest)) }

abbrev text_of_unit : Function
text_of_unit = with_unit (tree.runs (tree.assign (m 5) (own 0) (number 6 7)) (tree.ends (tree.print (m 20) (number 21 8))))

-- a = new();
abbrev answer_of_unit : Function
answer_of_unit = with_unit (tree.runs (tree.assign (m 34) (own 0) (tree.call (m 33) 1 tree.no_operand)) (tree.ends (tree.unit (m 35))))

-- fn new() -> i64 { let a; a = 7; println!("{}", 8); a }
abbrev new_of_unit : New
new_of_unit = record {
  number = 1;
  function = record {
    params = [];
    body = tree.block (m 13) (tree.declares 14 (5 ∷ []) (tree.runs (tree.assign (m 5) (own 5) (number 6 7)) (tree.runs (tree.print (m 40) (number 41 8)) (tree.ends (tree.give (m 13) (tree.read (m 42) true (own 5)))))));
  };
}

pub unit_is_found : extracts (told new_of_unit) 0 (alone text_of_unit) (pair_of answer_of_unit new_of_unit.function) ≡ true
unit_is_found = refl

-- ---- a unit that is read

-- fn text(u: ()) { println!("{}", 7); u }
abbrev text_reading : Function
text_reading = record { params = record { node = 2; variable = 0 } ∷ []; body = tree.block (m 1) (printing 1 (tree.read (m 20) false (own 0))) }

-- { new(u); }
abbrev answer_reading : Function
answer_reading = record { params = record { node = 2; variable = 0 } ∷ []; body = tree.block (m 50) (tree.runs (tree.call (m 51) 1 (tree.operand_and 0 (tree.read (m 52) false (own 0)) tree.no_operand)) (tree.ends (tree.give (m 50) (tree.unit (m 53))))) }

-- fn new(u: ()) { println!("{}", 7); u }
abbrev new_reading : New
new_reading = record { number = 1; function = record { params = record { node = 3; variable = 4 } ∷ []; body = tree.block (m 60) (printing 60 (tree.read (m 61) false (own 4))) } }

abbrev plan_reading : Plan
plan_reading = record { exits = next ∷ []; params = 0 ∷ []; locals = []; outs = λ e. []; value = None; redeclared = []; loose = [] }

abbrev told_reading : Bool → Told
told_reading unit = record (told_of 1 1 plan_reading [] (false ∷ []) new_reading) { modes = mode.Value ∷ []; gives_unit = unit }

pub read_unit_is_found : extracts (told_reading true) 0 (alone text_reading) (pair_of answer_reading new_reading.function) ≡ true
read_unit_is_found = refl

-- a function that isn't declared to give the unit may read another value
pub another_type_is_not : extracts (told_reading false) 0 (alone text_reading) (pair_of answer_reading new_reading.function) ≡ false
another_type_is_not = refl
