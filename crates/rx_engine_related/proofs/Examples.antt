-- Programs that stand to each other as an extraction's do: a run that gives a local its value, which isn't declared `mut` and is lent behind
-- the run, and one in a loop that writes a variable and leaves the loop, whose function borrows the variable and tells the `break` by a
-- variant.
use Rattle.std.proofs.Common.{◌≡◌, ℕ, zero, suc, pos, ◌==◌, Bool, true, false, nat_eq, if◌then◌else◌, List, [], ◌∷◌, Option, Some, None, refl, sym, subst, arith, inl}
use Rattle.std.proofs.lemmas.Bool.Decides.{Decides-eqb}
use Rattle.rx_core.specs.declared.types.Kind.{Kind}
use Rattle.rx_core.specs.declared.types.Step.TheVariants as step
use Rattle.rx_tree.specs.declared.tree.BinaryOp.{BinaryOp}
use Rattle.rx_typed.specs.Tree as tree
use Rattle.rx_typed.specs.Tree.{Mark, Exp, Arms, Body, Function, own, under}
use Rattle.rx_lower_walks.specs.Walks.{here}
use Rattle.rx_facts_tables.specs.Places.{Frame}
use Rattle.rx_modes_policy.specs.declared.uses.Mode.TheVariants as mode
use Rattle.rx_meaning.specs.Values.{element}
use Rattle.rx_meaning.specs.Programs.{Program}
use Rattle.rx_exits_plan.specs.Points.{Exit, next, breaks, leaves}
use Rattle.rx_exits_plan.specs.Marked.{mark_then}
use Rattle.rx_exits_plan.specs.Asked.{Asked}
use Rattle.rx_exits_plan.specs.Plan.{Plan}
use Rattle.rx_engine_simulation.specs.Sights.{How, plain, free, special, through, Sight, sight, Renaming, sight_of, IsNew}
use Rattle.rx_engine_simulation.specs.Places.{direct, behind, no_steps, of_temporary}
use Rattle.rx_engine_simulation.specs.Binders.{no_param, new_plain, new_special, none_new, new_and, takes_none, no_binding, binding_and, no_test, test_and}
use Rattle.rx_engine_simulation.specs.Jumps.{Pack, loop_of}
use Rattle.rx_engine_simulation.specs.Like.{opens, opens_in, reads, borrows, builds, assigns, updates, units, prints, blocks, chooses, loops, gives, no_operands, of_values, no_arms, arms_and, ends_in, runs_on, declares_all, lets_in}
use Rattle.rx_engine_simulation.specs.Passing.{New, none_absent}
use Rattle.rx_engine_simulation.specs.Blocks.{Stretch, done, does_then, before}
use Rattle.rx_engine_simulation.specs.Packing.{takes_read, gives_one, gives_empty, gives_variant, receives_none, picks_here, picks_later}
use Rattle.rx_engine_simulation.specs.Packing as packing
use Rattle.rx_engine_simulation.specs.Handing.{received_none}
use Rattle.rx_engine_simulation.specs.Variants.{jumps_alone}
use Rattle.rx_engine_simulation.specs.Endings.{none_left}
use Rattle.rx_engine_simulation.specs.Statements.{body_of}
use Rattle.rx_engine_simulation.specs.Rereads.{RereadsEntry, in_function, no_function, RereadsProgram}
use Rattle.rx_engine_simulation.proofs.Rereads.{self_exp}
use Rattle.rx_engine_related.specs.ByForm as by_form
use Rattle.rx_engine_related.specs.ByForm.{SameEntry}
use Rattle.rx_engine_related.specs.Given.{given_all, is_lent, all_locals, a_local, enters_with}
use Rattle.rx_engine_related.specs.Handed.{is_local, hands_none, hands_assigned, all_back, none_again, handed_on}
use Rattle.rx_engine_related.specs.Leaving.{pack_if, packed, none_there, there_and, left_by_jump, back_arm, BackArm}
use Rattle.rx_engine_related.specs.Moved.{moved_all, moved_statement, gives_outs}
use Rattle.rx_engine_related.specs.Standing.{marked_run, call_alone, call_matched, run_becomes_call}
use Rattle.rx_engine_related.specs.InBlock.{run_block}
use Rattle.rx_engine_related.specs.Extracts.{Extracts}

abbrev pub m : ℕ → Mark
m n = record { node = n; typ = None }

abbrev pub number : ℕ → ℕ → Exp
number n z = tree.build (m n) (tree.constant (tree.whole_number Kind.I64 (pos z))) tree.no_operand

pub none_some : {A : Type 0} {a : A} → None ≡ Some a → ⊥
none_some e = cc

some_same : {A : Type 0} {a b : A} → Some a ≡ Some b → a ≡ b
some_same e = cc

pub bare_ends : packing.bare ≡ packing.no_way → ⊥
bare_ends e = cc

variant_ends : {v : ℕ} → packing.as_variant v ≡ packing.no_way → ⊥
variant_ends e = cc

pub none_seen : (y : ℕ) → IsNew [] y
none_seen y z e f g = none_some f

-- a program of a function that calls a new one
abbrev pub pair_of : Function → Function → Program
pair_of f g = record { functions = Some f ∷ Some g ∷ []; main = 0 }

pub itself : (f g : Function) → RereadsProgram (pair_of f g) (pair_of f g)
itself f g = record { all = entries; mains = refl }
  where
    entries : (n : ℕ) → RereadsEntry (element (pair_of f g).functions n) (element (pair_of f g).functions n)
    entries zero = in_function refl (self_exp f.body)
    entries (suc zero) = in_function refl (self_exp g.body)
    entries (suc (suc n)) = no_function tt tt

abbrev pub items : ℕ → ℕ
items zero = 0
items (suc f) = suc (suc f)

pub no_others : (f g h : Function) (n : ℕ) → (n ≡ 0 → ⊥) → SameEntry items (element (Some f ∷ []) n) (element (pair_of g h).functions (items n))
no_others f g h zero other = absurd (other refl)
no_others f g h (suc n) other = by_form.no_function tt tt

module _ (F : Frame) where
  -- ---- a local

  -- println!("{}", a);
  abbrev rest : Body
  rest = tree.runs (tree.print (m 7) (tree.read (m 8) false (own 0))) (tree.ends (tree.give (m 1) (tree.unit (m 1))))

  -- a = 7;
  abbrev giving : ℕ → Stretch
  giving x = does_then (tree.assign (m 5) (own x) (number 6 7)) done

  -- &a; println!("{}", a);
  abbrev lending : Body
  lending = tree.runs (tree.borrow (m 18) false (own 0)) rest

  -- let a; a = 7; &a; println!("{}", a);
  abbrev main_body : Body
  main_body = tree.declares 2 (0 ∷ []) (before (giving 0) lending)

  abbrev asked : Asked
  asked = record { function = record { params = []; body = tree.block (m 1) main_body }; run = record { block = 1; first = 1; count = 1; tail = false }; home = record { around = record { scope = []; loops = [] }; body = main_body }; frame = F }

  abbrev local_out : Exit → List ℕ
  local_out next = 0 ∷ []
  local_out _ = []

  abbrev plan : Plan
  plan = record { exits = next ∷ []; params = []; locals = 0 ∷ []; outs = local_out; value = None; redeclared = []; loose = [] }

  -- let a; a = new(); &a; println!("{}", a);
  abbrev calling : Body → Body
  calling b = tree.runs (tree.assign (m 9) (own 0) (tree.call (m 10) 1 tree.no_operand)) b

  abbrev main_answer : Function
  main_answer = record { params = []; body = tree.block (m 1) (tree.declares 2 (0 ∷ []) (calling lending)) }

  -- fn new() -> i64 { let a; a = 7; a }
  abbrev new : New
  new = record { number = 1; function = record { params = []; body = body_of (m 13) ((14, 5) ∷ []) (giving 5) (tree.ends (tree.give (m 13) (tree.read (m 15) true (own 5)))) } }

  abbrev outside : Renaming
  outside = (0, sight 0 special) ∷ []

  abbrev inside : Renaming
  inside = (0, sight 5 special) ∷ []

  covers : (x : ℕ) (e : Sight) → sight_of outside x ≡ Some e → (f : Sight) × (sight_of inside x ≡ Some f)
  covers x e f = by (nat_eq x 0) f
    where
      by : (b : Bool) → (if b then Some (sight 0 special) else None) ≡ Some e → (f : Sight) × ((if b then Some (sight 5 special) else None) ≡ Some f)
      by true f = (sight 5 special, refl)
      by false f = absurd (none_some f)

  its_own : (x y : ℕ) → sight_of outside x ≡ Some (sight y special) → (z : ℕ) × (sight_of inside x ≡ Some (sight z special))
  its_own x y f = by (nat_eq x 0) f
    where
      by : (b : Bool) → (if b then Some (sight 0 special) else None) ≡ Some (sight y special) → (z : ℕ) × ((if b then Some (sight 5 special) else None) ≡ Some (sight z special))
      by true f = (5, refl)
      by false f = absurd (none_some f)

  pub local_extracts : Extracts asked (false ∷ []) plan [] (record { functions = Some asked.function ∷ []; main = 0 }) (pair_of main_answer new.function)
  local_extracts = record {
    item = 0;
    is_there = refl;
    read = pair_of main_answer new.function;
    rereads = itself main_answer new.function;
    again = false;
    new = new;
    new_is_there = refl;
    items = items;
    main = refl;
    others = no_others asked.function main_answer new.function;
    units = [];
    are_units = λ f i. absurd i;
    calling = main_answer;
    calling_is_there = refl;
    related = record {
      inside = [];
      params = no_param;
      body = opens {e = tree.unit (m 1)} {e' = tree.unit (m 1)} {f = λ e. tree.block (m 1) main_body} {f' = λ e. tree.block (m 1) (tree.declares 2 (0 ∷ []) (calling lending))} 1 0 (omega arith) (run_block refl (declares_all outside (new_and special (new_special (inl refl)) refl (none_seen 0) none_new)
          (opens_in {Ra = outside} {b = lending} {b' = lending} {f = λ b. before (marked_run plan none_left (giving 0)) b} {f' = calling} 1 0 (omega arith)
          (run_becomes_call {r = giving 0} {l = none_left} {mc = m 10} inside inside (m 13) ((14, 5) ∷ []) refl (enters_with [] [] inside (λ x i. absurd i) given_all (a_local refl refl (none_seen 5) all_locals) none_absent covers its_own)
          (moved_statement (assigns (direct special refl tt ((λ o. tt), tt) no_steps) (builds tt no_operands)) moved_all) (gives_outs (there_and refl none_there) (gives_one takes_read)) (λ q. absurd (bare_ends q)) (call_alone refl)
          (handed_on [] outside outside (λ x e f. absurd (none_some f)) (λ x y e. absurd (none_some e)) (hands_assigned refl (none_seen 0) refl (is_local here)) none_again (λ x e f. f) (λ x e f. f)))
          (runs_on 0 0 (omega arith) (borrows (direct special refl tt (λ o. tt) no_steps)) (runs_on 0 0 (omega arith) (prints (reads (direct special refl tt tt no_steps))) (ends_in (gives refl units))))))) units;
    };
  }

  -- ---- a loop

  -- a += 1; match true { true => break, _ => () }
  abbrev adding : Exp → Exp → Stretch
  adding e f = does_then e (does_then (tree.choose (m 9) (tree.of_value (tree.build (m 10) (tree.constant (tree.truth true)) tree.no_operand)) (tree.arm_and (tree.exactly 11 (tree.truth true)) f (tree.arm_and tree.any (tree.unit (m 9)) tree.no_arm))) done)

  abbrev adds : Exp
  adds = tree.update (m 5) BinaryOp.Add (own 0) (number 6 1)

  abbrev breaking : Exp
  breaking = tree.jump (m 12) 0 false

  abbrev pass_end : Body
  pass_end = tree.ends (tree.unit (m 16))

  abbrev pass : Body
  pass = before (adding adds breaking) pass_end

  abbrev looping : Body → Function
  looping b = record { params = []; body = tree.block (m 1) (tree.lets 2 (tree.bind 3 0 (tree.by_value true)) (tree.of_value (number 4 7)) (tree.runs (tree.loop (m 17) 0 (tree.block (m 16) b)) rest)) }

  -- let mut a = 7; loop { a += 1; if true { break } } println!("{}", a);
  abbrev asked_loop : Asked
  asked_loop = record { function = looping pass; run = record { block = 16; first = 0; count = 2; tail = false }; home = record { around = record { scope = 0 ∷ []; loops = 0 ∷ [] }; body = pass }; frame = F }

  abbrev plan_loop : Plan
  plan_loop = record { exits = next ∷ breaks 0 ∷ []; params = 0 ∷ []; locals = []; outs = λ e. []; value = None; redeclared = []; loose = [] }

  -- the text with its marks
  abbrev marked_break : Exp
  marked_break = mark_then (leaves (breaks 0)) breaking

  abbrev arms_of : Arms
  arms_of = tree.arm_and (tree.variant 23 2 true 0 tree.no_part) (tree.block (m 24) (tree.ends (tree.unit (m 24)))) (tree.arm_and (tree.variant 25 2 true 1 tree.no_part) (tree.jump (m 26) 0 false) tree.no_arm)

  abbrev matching : Body → Body
  matching b = tree.runs (tree.choose (m 20) (tree.of_value (tree.call (m 21) 1 (tree.operand_and 0 (tree.borrow (m 22) true (own 0)) tree.no_operand))) arms_of) b

  -- let mut a = 7; loop { match step(&mut a) { Exit::Next => {} Exit::Break_0 => break } } println!("{}", a);
  abbrev loop_answer : Function
  loop_answer = looping (matching pass_end)

  -- *a += 1;
  abbrev adds_there : Exp
  adds_there = tree.update (m 5) BinaryOp.Add (under (own 5) (step.Deref true ∷ [])) (number 6 1)

  abbrev telling : Exp
  telling = tree.give (m 28) (tree.build (m 29) (tree.variant_of 2 1) tree.no_operand)

  -- fn step(a: &mut i64) -> Exit { *a += 1; if true { return Exit::Break_0 } Exit::Next }
  abbrev new_step : New
  new_step = record { number = 1; function = record { params = record { node = 30; variable = 5 } ∷ []; body = body_of (m 31) [] (adding adds_there telling) (tree.ends (tree.give (m 31) (tree.build (m 32) (tree.variant_of 2 0) tree.no_operand))) } }

  abbrev around : Renaming
  around = (0, sight 0 (plain free)) ∷ []

  abbrev there : Renaming
  there = (0, sight 5 (through free true)) ∷ []

  abbrev IsSlot : How → Type 0
  IsSlot (plain h) = Unit {0}
  IsSlot _ = ⊥

  none_special : (x y : ℕ) → sight_of around x ≡ Some (sight y special) → ⊥
  none_special x y f = by (nat_eq x 0) f
    where
      by : (b : Bool) → (if b then Some (sight 0 (plain free)) else None) ≡ Some (sight y special) → ⊥
      by true f = subst (λ (e : Sight). IsSlot e.how) (some_same f) tt
      by false f = none_some f

  covers_loop : (x : ℕ) (e : Sight) → sight_of around x ≡ Some e → (f : Sight) × (sight_of there x ≡ Some f)
  covers_loop x e f = by (nat_eq x 0) f
    where
      by : (b : Bool) → (if b then Some (sight 0 (plain free)) else None) ≡ Some e → (f : Sight) × ((if b then Some (sight 5 (through free true)) else None) ≡ Some f)
      by true f = (sight 5 (through free true), refl)
      by false f = absurd (none_some f)

  abbrev Jumps : Option ℕ → Pack → Type 0
  Jumps o p = (mj : Mark) × (d : ℕ) × (o ≡ Some d) × BackArm asked_loop (true ∷ []) plan_loop around arms_of p (tree.jump mj d false)

  breaks_on : (n : ℕ) (p : Pack) → packed plan_loop n false ≡ Some p → Jumps (loop_of ((0, 0) ∷ []) n) p
  breaks_on n p f = by (n == 0) refl f
    where
      by : (b : Bool) → (n == 0) ≡ b → pack_if [] (if b then Some 1 else None) ≡ Some p → Jumps (loop_of ((0, 0) ∷ []) n) p
      by true e q =
          subst (λ l. Jumps (loop_of ((0, 0) ∷ []) l) p) (sym ((Decides-eqb n 0).0 e))
          (subst (λ p. Jumps (Some 0) p) (some_same q) (m 26, 0, refl, back_arm around around around (λ x i. absurd i) (λ x e f. f) received_none receives_none (picks_later refl picks_here) all_back (λ x e f. f) jumps_alone))
      by false e q = absurd (none_some q)

  pub loop_extracts : Extracts asked_loop (true ∷ []) plan_loop (mode.Mut ∷ []) (record { functions = Some asked_loop.function ∷ []; main = 0 }) (pair_of loop_answer new_step.function)
  loop_extracts = record {
    item = 0;
    is_there = refl;
    read = pair_of loop_answer new_step.function;
    rereads = itself loop_answer new_step.function;
    again = false;
    new = new_step;
    new_is_there = refl;
    items = items;
    main = refl;
    others = no_others asked_loop.function loop_answer new_step.function;
    units = [];
    are_units = λ f i. absurd i;
    calling = loop_answer;
    calling_is_there = refl;
    related = record {
      inside = [];
      params = no_param;
      body = blocks (lets_in around 0 1 (omega arith) (of_values (builds tt no_operands)) (binding_and (plain free) takes_none no_steps (new_plain free tt) refl (none_seen 0) no_binding)
          (runs_on 1 0 (omega arith)
          (loops (λ n e. absurd (none_some e)) refl refl (opens {e = tree.unit (m 16)} {e' = tree.unit (m 16)} {f = λ e. tree.block (m 16) pass} {f' = λ e. tree.block (m 16) (matching pass_end)} 1 0 (omega arith) (run_block refl
          (opens_in {Ra = around} {b = pass_end} {b' = pass_end} {f = λ b. before (marked_run plan_loop none_left (adding adds marked_break)) b} {f' = matching} 1 0 (omega arith)
          (run_becomes_call {r = adding adds marked_break} {l = none_left} {mc = m 21} there there (m 31) [] refl
          (enters_with [] there there (λ x i. absurd i) (is_lent free refl (λ i. i) refl (none_seen 5) given_all) all_locals none_absent covers_loop (λ x y f. absurd (none_special x y f)))
          (moved_statement (updates (behind free true refl tt no_steps) (behind free true refl ((λ o. tt), tt) no_steps) (builds tt no_operands))
          (moved_statement (chooses 0 0 (omega arith) (of_values (builds tt no_operands)) (arms_and there (test_and (of_temporary no_steps) refl no_test) no_binding
          (opens {e = tree.unit (m 9)} {e' = tree.unit (m 9)} {f = λ x. marked_break} {f' = λ x. telling} 0 0 (omega arith) (left_by_jump {l = 0} {again = false} (record { variant = 1; outs = [] }) refl none_there (gives_variant packing.takes_none)) units)
          (arms_and there no_test no_binding units no_arms))) moved_all))
          (gives_outs none_there (gives_variant packing.takes_none))
          (λ q. absurd (variant_ends q)) (call_matched true refl (record { all_special = λ x y f. absurd (none_special x y f); jumps = on; return = tt }) picks_here receives_none tt gives_empty refl)
          (handed_on around around around (λ x e f. f) (λ x y f. absurd (none_special x y f)) hands_none none_again (λ x e f. f) (λ x e f. f)))
          (ends_in units))) units))
          (runs_on 0 0 (omega arith) (prints (reads (direct (plain free) refl tt tt no_steps))) (ends_in (gives refl units)))));
    };
  }
    where
      on : (n : ℕ) (again : Bool) (p : Pack) → packed plan_loop n again ≡ Some p → (mj : Mark) × (d : ℕ) × (loop_of ((0, 0) ∷ []) n ≡ Some d) × BackArm asked_loop (true ∷ []) plan_loop around arms_of p (tree.jump mj d again)
      on n true p f = absurd (none_some f)
      on n false p f = breaks_on n p f
