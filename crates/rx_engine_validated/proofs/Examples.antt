-- Answers that are found to be extractions: of a run that gives a local its value, and of one in a loop that writes a variable and leaves the loop,
-- whose function borrows the variable and tells the `break` by a variant. One whose function does another thing isn't.
use Rattle.std.proofs.Common.{◌≡◌, ℕ, pos, true, false, List, [], ◌∷◌, Some, None, refl}
use Rattle.rx_core.specs.declared.types.Kind.{Kind}
use Rattle.rx_core.specs.declared.types.Step.TheVariants as step
use Rattle.rx_tree.specs.declared.tree.BinaryOp.{BinaryOp}
use Rattle.rx_typed.specs.Tree as tree
use Rattle.rx_typed.specs.Tree.{Mark, Exp, Arms, Body, Function, own, under}
use Rattle.rx_modes_policy.specs.declared.uses.Mode.TheVariants as mode
use Rattle.rx_meaning.specs.Programs.{Program}
use Rattle.rx_exits_plan.specs.Points.{Exit, next, breaks}
use Rattle.rx_exits_plan.specs.Plan.{Plan}
use Rattle.rx_engine_simulation.specs.Passing.{New}
use Rattle.rx_engine_alike.specs.Items.{items_with}
use Rattle.rx_engine_extracted.specs.Told.{Told}
use Rattle.rx_engine_extracted.specs.Programs.{extracts}

abbrev pub m : ℕ → Mark
m n = record { node = n; typ = None }

abbrev pub number : ℕ → ℕ → Exp
number n z = tree.build (m n) (tree.constant (tree.whole_number Kind.I64 (pos z))) tree.no_operand

-- one function, and one that calls a new one
abbrev pub alone : Function → Program
alone f = record { functions = Some f ∷ []; main = 0 }

abbrev pub pair_of : Function → Function → Program
pair_of f g = record { functions = Some f ∷ Some g ∷ []; main = 0 }

-- ---- a local

-- println!("{}", a);
abbrev pub rest : Body
rest = tree.runs (tree.print (m 7) (tree.read (m 8) false (own 0))) (tree.ends (tree.give (m 1) (tree.unit (m 1))))

-- let mut a; a = 7; println!("{}", a);
abbrev main_text : Function
main_text = record { params = []; body = tree.block (m 1) (tree.declares 2 (0 ∷ []) (tree.runs (tree.assign (m 5) (own 0) (number 6 7)) rest)) }

abbrev pub local_out : Exit → List ℕ
local_out next = 0 ∷ []
local_out _ = []

abbrev plan : Plan
plan = record { exits = next ∷ []; params = []; locals = 0 ∷ []; outs = local_out; value = None; redeclared = []; loose = [] }

-- let mut a; a = new(); println!("{}", a);
abbrev main_answer : Function
main_answer = record { params = []; body = tree.block (m 1) (tree.declares 2 (0 ∷ []) (tree.runs (tree.assign (m 9) (own 0) (tree.call (m 10) 1 tree.no_operand)) rest)) }

-- fn new() -> i64 { let mut a; a = 7; a }
abbrev giving : ℕ → New
giving z = record {
  number = 1;
  function = record {
    params = [];
    body = tree.block (m 13) (tree.declares 14 (5 ∷ []) (tree.runs (tree.assign (m 5) (own 5) (number 6 z))
        (tree.ends (tree.give (m 13) (tree.read (m 15) true (own 5))))));
  };
}

abbrev told : New → Told
told n = record {
  run = record { block = 1; first = 1; count = 1; tail = false };
  around = [];
  plan = plan;
  modes = [];
  elsewhere = 0 ∷ [];
  muts = true ∷ [];
  new = n;
  beyond = 6;
  items = items_with 0 1;
  units = [];
  gives_unit = false;
}

pub local_is_found : extracts (told (giving 7)) 0 (alone main_text) (pair_of main_answer (giving 7).function) ≡ true
local_is_found = refl

-- fn new() -> i64 { let mut a; a = 8; a }
pub another_value_is_not : extracts (told (giving 8)) 0 (alone main_text) (pair_of main_answer (giving 8).function) ≡ false
another_value_is_not = refl

-- ---- a loop

-- a += 1; match true { true => break, _ => () }
abbrev adding : Exp → Exp → Body → Body
adding e f b = tree.runs e (tree.runs (tree.choose (m 9) (tree.of_value (tree.build (m 10) (tree.constant (tree.truth true)) tree.no_operand))
    (tree.arm_and (tree.exactly 11 (tree.truth true)) f (tree.arm_and tree.any (tree.unit (m 9)) tree.no_arm))) b)

abbrev pass_end : Body
pass_end = tree.ends (tree.unit (m 16))

abbrev looping : Body → Function
looping b = record { params = []; body = tree.block (m 1) (tree.lets 2 (tree.bind 3 0 (tree.by_value true)) (tree.of_value (number 4 7)) (tree.runs (tree.loop (m 17) 0 (tree.block (m 16) b)) rest)) }

-- let mut a = 7; loop { a += 1; if true { break } } println!("{}", a);
abbrev loop_text : Function
loop_text = looping (adding (tree.update (m 5) BinaryOp.Add (own 0) (number 6 1)) (tree.jump (m 12) 0 false) pass_end)

abbrev plan_loop : Plan
plan_loop = record { exits = next ∷ breaks 0 ∷ []; params = 0 ∷ []; locals = []; outs = λ e. []; value = None; redeclared = []; loose = [] }

abbrev arms_of : Arms
arms_of = tree.arm_and (tree.variant 23 2 true 0 tree.no_part) (tree.block (m 24) (tree.ends (tree.unit (m 24))))
    (tree.arm_and (tree.variant 25 2 true 1 tree.no_part) (tree.jump (m 26) 0 false) tree.no_arm)

-- let mut a = 7; loop { match step(&mut a) { Exit::Next => {} Exit::Break_0 => break } } println!("{}", a);
abbrev loop_answer : Function
loop_answer = looping (tree.runs (tree.choose (m 20) (tree.of_value (tree.call (m 21) 1 (tree.operand_and 0 (tree.borrow (m 22) true (own 0)) tree.no_operand))) arms_of) pass_end)

abbrev telling : ℕ → Exp
telling v = tree.give (m 28) (tree.build (m 29) (tree.variant_of 2 v) tree.no_operand)

-- fn step(a: &mut i64) -> Exit { *a += 1; if true { return Exit::Break_0 } Exit::Next }
abbrev step_by : ℕ → New
step_by v = record {
  number = 1;
  function = record {
    params = record { node = 30; variable = 5 } ∷ [];
    body = tree.block (m 31) (adding (tree.update (m 5) BinaryOp.Add (under (own 5) (step.Deref true ∷ [])) (number 6 1))
        (telling v)
        (tree.ends (tree.give (m 31) (tree.build (m 32) (tree.variant_of 2 0) tree.no_operand))));
  };
}

abbrev told_loop : New → Told
told_loop n = record {
  run = record { block = 16; first = 0; count = 2; tail = false };
  around = 0 ∷ [];
  plan = plan_loop;
  modes = mode.Mut ∷ [];
  elsewhere = [];
  muts = true ∷ [];
  new = n;
  beyond = 6;
  items = items_with 0 1;
  units = [];
  gives_unit = false;
}

pub loop_is_found : extracts (told_loop (step_by 1)) 0 (alone loop_text) (pair_of loop_answer (step_by 1).function) ≡ true
loop_is_found = refl

-- the `break` is told by the variant of the run's end
pub another_variant_is_not : extracts (told_loop (step_by 0)) 0 (alone loop_text) (pair_of loop_answer (step_by 0).function) ≡ false
another_variant_is_not = refl
