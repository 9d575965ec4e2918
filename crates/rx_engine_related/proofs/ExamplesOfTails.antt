-- Programs that stand to each other as an extraction's do, of runs with their block's tail: one whose value is handed out with a local that isn't declared
-- `mut`, and the whole body of a function.
use Rattle.std.proofs.Common.{◌≡◌, ◌⊎◌, inl, inr, ℕ, Bool, true, false, nat_eq, if◌then◌else◌, List, [], ◌∷◌, Some, None, refl, sym, ap, ◌∙◌, subst, arith, true≢false}
use Rattle.rx_typed.specs.Tree as tree
use Rattle.rx_typed.specs.Tree.{Exp, Body, Function, own}
use Rattle.rx_lower_walks.specs.Walks.{here}
use Rattle.rx_facts_tables.specs.Places.{Frame}
use Rattle.rx_exits_plan.specs.Points.{Exit, next, enters}
use Rattle.rx_exits_plan.specs.Asked.{Asked}
use Rattle.rx_exits_plan.specs.Plan.{Plan}
use Rattle.rx_engine_simulation.specs.Sights.{plain, free, special, Sight, sight, Renaming, sight_of}
use Rattle.rx_engine_simulation.specs.Places.{direct, no_steps}
use Rattle.rx_engine_simulation.specs.Binders.{no_param, new_plain, new_special, none_new, new_and, takes_none, no_binding, binding_and}
use Rattle.rx_engine_simulation.specs.Like.{opens, opens_in, reads, builds, assigns, prints, blocks, gives, no_operands, of_values, ends_in, runs_on, declares_all, lets_in, units}
use Rattle.rx_engine_simulation.specs.Passed.{let_pass}
use Rattle.rx_engine_simulation.specs.Passing.{New, none_absent}
use Rattle.rx_engine_simulation.specs.Blocks.{Stretch, done, does_then, before}
use Rattle.rx_engine_simulation.specs.Marks.{with_mark}
use Rattle.rx_engine_simulation.specs.Packing.{takes_read, takes_and, gives_tuple, receives_none, receives_and}
use Rattle.rx_engine_simulation.specs.Packing as packing
use Rattle.rx_engine_simulation.specs.Handing.{received_none, received_and}
use Rattle.rx_engine_simulation.specs.Endings.{a_tail, an_end, with_last}
use Rattle.rx_engine_simulation.specs.Statements.{body_of, as_tail, as_end}
use Rattle.rx_engine_simulation.proofs.Declaring.{eq_self}
use Rattle.rx_engine_related.specs.Given.{given_all, all_locals, a_local, enters_with}
use Rattle.rx_engine_related.specs.Handed.{is_local, all_back, goes_back}
use Rattle.rx_engine_related.specs.Leaving.{none_there, there_and}
use Rattle.rx_engine_related.specs.Moved.{moved_all, moved_statement}
use Rattle.rx_engine_related.specs.Tails.{tail_value, tail_in_tuple, tail_call_alone, value_back, value_behind, of_block, of_body, tail_becomes_call}
use Rattle.rx_engine_related.specs.ExtractsTail.{tail_block, ExtractsTail}
use Rattle.rx_engine_related.proofs.Examples.{m, number, pair_of, items, none_some, bare_ends, none_seen, itself, no_others}

module _ (F : Frame) where
  -- ---- a value beside a local

  -- a = 7;
  abbrev giving : ℕ → Stretch
  giving x = does_then (tree.assign (m 5) (own x) (number 6 7)) done

  -- 5
  abbrev five : Exp
  five = number 20 5

  -- a = 7; 5
  abbrev inner : Body
  inner = before (giving 0) (tree.ends five)

  -- println!("{}", a);
  abbrev rest : Body
  rest = tree.runs (tree.print (m 7) (tree.read (m 8) false (own 0))) (tree.ends (tree.give (m 1) (tree.unit (m 1))))

  abbrev with_block : Body → Body
  with_block b = tree.declares 2 (0 ∷ []) (tree.lets 3 (tree.bind 4 1 (tree.by_value false)) (tree.of_value (tree.block (m 16) b)) rest)

  -- let a; let b = { a = 7; 5 }; println!("{}", a);
  abbrev asked : Asked
  asked = record { function = record { params = []; body = tree.block (m 1) (with_block inner) }; run = record { block = 16; first = 0; count = 1; tail = true }; home = record { around = record { scope = 0 ∷ []; loops = [] }; body = inner }; frame = F }

  abbrev local_out : Exit → List ℕ
  local_out next = 0 ∷ []
  local_out _ = []

  abbrev plan : Plan
  plan = record { exits = next ∷ []; params = []; locals = 0 ∷ []; outs = local_out; value = None; redeclared = []; loose = [] }

  -- let (v, c) = new(); a = c; v
  abbrev call_inner : Body
  call_inner =
      tree.lets 30 (tree.parts (tree.part_and 0 (tree.bind 31 7 (tree.by_value false)) (tree.part_and 1 (tree.bind 32 8 (tree.by_value false)) tree.no_part))) (tree.of_value (tree.call (m 33) 1 tree.no_operand))
      (tree.runs (tree.assign (m 34) (own 0) (tree.read (m 35) true (own 8))) (tree.ends (tree.read (m 36) true (own 7))))

  abbrev answer : Function
  answer = record { params = []; body = tree.block (m 1) (with_block call_inner) }

  -- let v = 5; (v, a)
  abbrev new_end : Body
  new_end =
      tree.lets 40 (tree.bind 41 9 (tree.by_value false)) (tree.of_value (number 42 5))
      (tree.ends (tree.give (m 13) (tree.build (m 43) tree.tuple (tree.operand_and 0 (tree.read (m 44) true (own 9)) (tree.operand_and 1 (tree.read (m 45) true (own 5)) tree.no_operand)))))

  -- fn new() -> (i64, i64) { let a; a = 7; let v = 5; (v, a) }
  abbrev new : New
  new = record { number = 1; function = record { params = []; body = body_of (m 13) ((14, 5) ∷ []) (giving 5) new_end } }

  abbrev outside : Renaming
  outside = (0, sight 0 special) ∷ []

  abbrev inside : Renaming
  inside = (0, sight 5 special) ∷ []

  abbrev received : Renaming
  received = (0, sight 8 special) ∷ []

  other_number : {a b : ℕ} → nat_eq a b ≡ false → a ≡ b → ⊥
  other_number {a} {b} e f = true≢false (sym (eq_self a) ∙ subst (λ n. nat_eq a n ≡ false) (sym f) e)

  -- another number is not this one
  apart : {a b : ℕ} → nat_eq a b ≡ false → (a ≡ b) ⊎ ⊥ → ⊥
  apart e (inl f) = other_number e f
  apart e (inr f) = f

  -- a variable alone goes to no other number
  alone : (n k y : ℕ) → (k ≡ y → ⊥) → (z : ℕ) (e : Sight) → sight_of ((n, sight k special) ∷ []) z ≡ Some e → e.to ≡ y → ⊥
  alone n k y other z e f g = by (nat_eq z n) f
    where
      to_of : Sight → ℕ
      to_of s = s.to

      same : {a b : Sight} → Some a ≡ Some b → a ≡ b
      same h = cc

      by : (b : Bool) → (if b then Some (sight k special) else None) ≡ Some e → ⊥
      by true f = other (ap to_of (same f) ∙ g)
      by false f = none_some f

  covers : (x : ℕ) (e : Sight) → sight_of outside x ≡ Some e → (f : Sight) × (sight_of inside x ≡ Some f)
  covers x e f = by (nat_eq x 0) f
    where
      by : (b : Bool) → (if b then Some (sight 0 special) else None) ≡ Some e → (f : Sight) × ((if b then Some (sight 5 special) else None) ≡ Some f)
      by true f = (sight 5 special, refl)
      by false f = absurd (none_some f)

  its_own : (x y : ℕ) → sight_of outside x ≡ Some (sight y special) → (z : ℕ) × (sight_of inside x ≡ Some (sight z special))
  its_own x y f = by (nat_eq x 0) f
    where
      by : (b : Bool) → (if b then Some (sight 0 special) else None) ≡ Some (sight y special) → (z : ℕ) × ((if b then Some (sight 5 special) else None) ≡ Some (sight z special))
      by true f = (5, refl)
      by false f = absurd (none_some f)

  put_back : (x : ℕ) (e : Sight) → sight_of outside x ≡ Some e → sight_of ((0, sight 0 special) ∷ received) x ≡ Some e
  put_back x e f = by (nat_eq x 0) f
    where
      by : (b : Bool) → (if b then Some (sight 0 special) else None) ≡ Some e → (if b then Some (sight 0 special) else (if b then Some (sight 8 special) else None)) ≡ Some e
      by true f = f
      by false f = absurd (none_some f)

  pub value_extracts : ExtractsTail asked (false ∷ []) plan [] (record { functions = Some asked.function ∷ []; main = 0 }) (pair_of answer new.function)
  value_extracts = record {
    item = 0;
    is_there = refl;
    read = pair_of answer new.function;
    rereads = itself answer new.function;
    again = false;
    new = new;
    new_is_there = refl;
    items = items;
    main = refl;
    others = no_others asked.function answer new.function;
    units = [];
    are_units = λ f i. absurd i;
    calling = answer;
    calling_is_there = refl;
    related = record {
      inside = [];
      params = no_param;
      body = blocks (declares_all outside (new_and special (new_special (inl refl)) refl (none_seen 0) none_new)
          (lets_in ((1, sight 1 (plain free)) ∷ outside) 1 0 (omega arith)
          (of_values (opens {e = tree.unit (m 1)} {e' = tree.unit (m 1)} {f = λ e. tree.block (m 16) inner} {f' = λ e. tree.block (m 16) call_inner} 1 0 (omega arith) (tail_block refl
          (opens_in {Ra = outside} {b = rest} {b' = rest} {f = λ b. before (with_mark enters [] (giving 0)) (with_last (a_tail (let_pass five)) b)} {f' = λ b. call_inner} 1 0 (omega arith)
          (tail_becomes_call {r = giving 0} {l = a_tail (let_pass five)} {mc = m 33} inside inside (m 13) ((14, 5) ∷ []) of_block refl
          (enters_with [] [] inside (λ x i. absurd i) given_all (a_local refl refl (none_seen 5) all_locals) none_absent covers its_own)
          (moved_statement (assigns (direct special refl tt ((λ o. tt), tt) no_steps) (builds tt no_operands)) moved_all)
          (tail_in_tuple (builds tt no_operands) (alone 0 5 9 (other_number refl)) (λ i. apart refl i) (there_and refl none_there) (gives_tuple (takes_and takes_read (takes_and takes_read packing.takes_none))))
          (λ q. absurd (bare_ends q)) (tail_call_alone refl)
          (value_behind [] received ((0, sight 0 special) ∷ received) (λ x e f. absurd (none_some f)) (λ x y e. absurd (none_some e)) (alone 0 0 7 (other_number refl)) (λ i. apart refl i)
          (received_and refl (alone 0 0 8 (other_number refl)) (none_seen 8) received_none) (receives_and (receives_and receives_none))
          (goes_back refl (alone 0 8 0 (other_number refl)) (is_local here) takes_read all_back) put_back takes_read as_tail))
          (runs_on 0 0 (omega arith) (prints (reads (direct special refl tt tt no_steps))) (ends_in (gives refl units))))) units))
          (binding_and (plain free) takes_none no_steps (new_plain free tt) refl (alone 0 0 1 (other_number refl)) no_binding)
          (runs_on 0 0 (omega arith) (prints (reads (direct special refl tt tt no_steps))) (ends_in (gives refl units)))));
    };
  }

  -- ---- a whole body

  -- println!("{}", 7);
  abbrev printing : Stretch
  printing = does_then (tree.print (m 5) (number 6 7)) done

  -- { println!("{}", 7); 5 }
  abbrev whole : Body
  whole = before printing (tree.ends (tree.give (m 1) five))

  abbrev asked_whole : Asked
  asked_whole = record { function = record { params = []; body = tree.block (m 1) whole }; run = record { block = 1; first = 0; count = 1; tail = true }; home = record { around = record { scope = []; loops = [] }; body = whole }; frame = F }

  abbrev plan_whole : Plan
  plan_whole = record { exits = next ∷ []; params = []; locals = []; outs = λ e. []; value = None; redeclared = []; loose = [] }

  -- { new() }
  abbrev calls_whole : Body
  calls_whole = tree.ends (tree.give (m 50) (tree.call (m 51) 1 tree.no_operand))

  abbrev answer_whole : Function
  answer_whole = record { params = []; body = tree.block (m 50) calls_whole }

  -- fn new() -> i64 { println!("{}", 7); 5 }
  abbrev new_whole : New
  new_whole = record { number = 1; function = record { params = []; body = body_of (m 52) [] printing (tree.ends (tree.give (m 52) (number 53 5))) } }

  abbrev nothing_else : Body
  nothing_else = tree.ends (tree.unit (m 1))

  pub whole_extracts : ExtractsTail asked_whole [] plan_whole [] (record { functions = Some asked_whole.function ∷ []; main = 0 }) (pair_of answer_whole new_whole.function)
  whole_extracts = record {
    item = 0;
    is_there = refl;
    read = pair_of answer_whole new_whole.function;
    rereads = itself answer_whole new_whole.function;
    again = false;
    new = new_whole;
    new_is_there = refl;
    items = items;
    main = refl;
    others = no_others asked_whole.function answer_whole new_whole.function;
    units = [];
    are_units = λ f i. absurd i;
    calling = answer_whole;
    calling_is_there = refl;
    related = record {
      inside = [];
      params = no_param;
      body = opens {e = tree.unit (m 1)} {e' = tree.unit (m 1)} {f = λ e. tree.block (m 1) whole} {f' = λ e. tree.block (m 50) calls_whole} 1 0 (omega arith) (tail_block refl
          (opens_in {Ra = []} {b = nothing_else} {b' = nothing_else} {f = λ b. before (with_mark enters [] printing) (with_last (an_end (m 1) (let_pass five)) b)} {f' = λ b. calls_whole} 1 0 (omega arith)
          (tail_becomes_call {r = printing} {l = an_end (m 1) (let_pass five)} {mc = m 51} [] [] (m 52) [] (of_body refl) refl
          (enters_with [] [] [] (λ x i. absurd i) given_all all_locals none_absent (λ x e f. absurd (none_some f)) (λ x y f. absurd (none_some f)))
          (moved_statement (prints (builds tt no_operands)) moved_all) (tail_value (builds tt no_operands)) (λ q. absurd (bare_ends q)) (tail_call_alone refl)
          (value_back (λ x y e. absurd (none_some e)) (as_end refl))) (ends_in units))) units;
    };
  }
