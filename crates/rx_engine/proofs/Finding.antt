-- What meets all conditions is found to be an extraction: the run in its function, its plan, and where the new function is in the answer.
use Rattle.std.proofs.Common.{◌≡◌, ℕ, ◌+◌, ◌<◌, ◌≤◌, Bool, true, false, if◌then◌else◌, List, length, Option, Some, None, refl, sym, ap, ◌∙◌, subst, arith, leb-false, leb-true}
use Rattle.std.specs.Prelude.{nat_le, ◌&&◌, slice_get}
use Rattle.rx_tree.specs.Plain.{ProgramTree}
use Rattle.rx_tree.specs.Size.{IsNumbered}
use Rattle.rx_parse_grammar.specs.grammar.Items.{Parses}
use Rattle.rx_graph_cycles.specs.Reaches.{NoCycle}
use Rattle.rx_resolve_names.specs.declared.resolved.ItemNames.{ItemNames}
use Rattle.rx_typed.specs.Types as types
use Rattle.rx_typed.specs.Types.{Declarations, Typ, integer, boolean, tuple_of, reference, no_shape, shape_and, unit_shape, result_declared}
use Rattle.rx_typed.specs.PlainTypes.{declarations}
use Rattle.rx_typed_declarations.specs.Held.{held_by_each}
use Rattle.rx_typed_declarations.specs.Sizes.{Sized}
use Rattle.rx_typeck_typed.specs.declared.typed.Typed.{Typed}
use Rattle.rx_typeck_typed.specs.declared.typed.TypedFn.{TypedFn}
use Rattle.rx_typeck_typed.specs.Typing.{IsTyped}
use Rattle.rx_lower.specs.Functions.{function_at}
use Rattle.rx_facts.specs.Passing.{AllAre}
use Rattle.rx_facts.specs.Functions.{IsInitialised}
use Rattle.rx_check.specs.Passes.{IsFront}
use Rattle.rx_meaning.specs.Programs.{main_in}
use Rattle.rx_hoist_extraction.specs.Plan.{has_enum}
use Rattle.rx_hoist_extraction.specs.Extraction.{added}
use Rattle.rx_engine_alike.specs.Items.{items_with}
use Rattle.rx_engine_extracted.specs.Programs.{extracts}
use Rattle.rx_engine_validated.specs.Found.{IsFound}
use Rattle.rx_engine_extraction.specs.Source.{Text, IsText, Wish}
use Rattle.rx_engine_extraction.specs.Case.{Case}
use Rattle.rx_engine_extraction.specs.Made.{named, new_item}
use Rattle.rx_engine_extraction.specs.Confirmed.{is_unit_if, is_of_unit, Confirmed, told_by, whole_of, is_extracted, is_found}
use Rattle.rx_engine_extraction.specs.Conditions.{Condition, reached, whole, passable, unmoved, few_bytes, confirmed}
use Rattle.rx_engine_extraction.specs.Meeting.{Holds}
use Rattle.rx_engine_extraction.specs.Promise.{Extracts}
use Rattle.rx_engine_extraction.proofs.Orders.{number, earlier}
use Rattle.rx_engine_extraction.proofs.Worded.{function_among}
use Rattle.rx_engine.proofs.Items.{function_stands}

-- the new function's item stands for none of the text's
apart : (item made f : ℕ) → 0 < made → items_with item made f ≡ item + made → ⊥
apart item made f some e = by (nat_le f item) (λ h. leb-true f item h) (λ h. leb-false f item h) e
  where
    by : (b : Bool) → (b ≡ true → f ≤ item) → (b ≡ false → item < f) → (if b then f else f + made) ≡ item + made → ⊥
    by true below above q = let l = below refl in omega (arith, some, l, q)
    by false below above q = let l = above refl in omega (arith, l, q)

-- the new items are one or two
some_added : (b : Bool) → 0 < (if b then 2 else 1)
some_added true = omega arith
some_added false = omega arith

-- ---- what is found

-- the new function is in the answer, and the answer's program is found to be the text's with its call
record Found (T : Text) (d : Case) (n made : ℕ) (q : ProgramTree) (u : Typed) : Type 0 where
  new : TypedFn
  is_new : function_at u.functions n ≡ Some new
  seen : extracts (told_by T d n made (is_of_unit (declarations u.decls.items) n) new) d.run.function (whole_of T.program T.types) (whole_of q u) ≡ true

unit_shaped : (o : Option Typ) → is_unit_if o ≡ true → o ≡ Some unit_shape
unit_shaped (Some (tuple_of no_shape)) e = refl
unit_shaped None e = absurd (cc)
unit_shaped (Some (integer k)) e = absurd (cc)
unit_shaped (Some boolean) e = absurd (cc)
unit_shaped (Some (tuple_of (shape_and t ts))) e = absurd (cc)
unit_shaped (Some (reference m t)) e = absurd (cc)
unit_shaped (Some (types.named i)) e = absurd (cc)

-- a function that is said to give the unit is declared to
unit_declared : (D : Declarations) (n : ℕ) → is_of_unit D n ≡ true → result_declared (slice_get D n) ≡ Some unit_shape
unit_declared D n e = unit_shaped (result_declared (slice_get D n)) e

both_true : (a b : Bool) → (a && b) ≡ true → b ≡ true
both_true true b e = e
both_true false b e = absurd (cc)

module _ (T : Text) (d : Case) (n made : ℕ) (q : ProgramTree) (u : Typed) where
  found_at : (o : Option TypedFn) → function_at u.functions n ≡ o → is_extracted T d n made (is_of_unit (declarations u.decls.items) n) (whole_of q u) o ≡ true → Found T d n made q u
  found_at None at e = absurd (cc)
  found_at (Some g) at e = record {
    new = g;
    is_new = at;
    seen = both_true (nat_le (length g.names) 4294967295) (extracts (told_by T d n made (is_of_unit (declarations u.decls.items) n) g) d.run.function (whole_of T.program T.types) (whole_of q u)) e;
  }

  found_in : is_found T d n made q u ≡ true → Found T d n made q u
  found_in e = found_at (function_at u.functions n) refl e

-- ---- what meets all conditions

module _ (finite : (p : ProgramTree) (names : List ItemNames) (t : Typed) → IsTyped p names t → NoCycle (held_by_each (declarations t.decls.items)))
    (one_size : (D : Declarations) (P Q : ℕ → ℕ) → NoCycle (held_by_each D) → Sized D P → Sized D Q → (i : ℕ) → P i ≡ Q i)
    (numbered : (bytes : List ℕ) (p : ProgramTree) → Parses bytes p → length bytes ≤ 1048576 → IsNumbered p)
    (bytes : List ℕ) (w : Wish) (x : Extracts bytes w) (short : length bytes ≤ 1048576) where
  abbrev T : Text
  T = x.text

  abbrev d : Case
  d = x.case

  -- the new function's item, and how many items are new
  abbrev place : ℕ
  place = new_item T w d

  abbrev many : ℕ
  many = added (named T w d)

  abbrev c : Confirmed T w d
  c = x.last

  held_at : (k : Condition) → number k < number confirmed → Holds T w d k
  held_at k l = (earlier (Holds T w d) k confirmed l x.stands).it

  -- the passes up to initialisation accept the text, with the parts of the structs and enums that it is given
  front : IsFront T.program T.types
  front =
      let is = x.is_text in let f = is.accepted.front in
      let same = one_size (declarations T.types.decls.items) f.parts T.sizes (finite T.program f.names T.types f.typed) f.sized is.sized in record {
        names = f.names;
        meant = f.meant;
        typed = f.typed;
        covered = f.covered;
        small = f.small;
        parts = T.sizes;
        sized = is.sized;
        initialised = subst (λ (P : ℕ → ℕ). AllAre (IsInitialised (declarations T.types.decls.items) P) T.types.functions) (λ i n. same n i) f.initialised;
      }

  pub found : IsFound T.program c.program T.types c.types (main_in T.program 0) (main_in c.program 0)
  unfolding front
  found =
      let seated = (held_at reached (omega arith)).0 in
      let settled = held_at whole (omega arith) in
      let passed = held_at unmoved (omega arith) in
      let there = c.accepted.front in
      let f = found_in T d place many c.program c.types c.found in record {
        few = numbered bytes T.program x.is_text.parses short;
        few_there = numbered d.text c.program c.parses (held_at few_bytes (omega arith));
        front = front;
        accepted = there;
        told = told_by T d place many (is_of_unit (declarations c.types.decls.items) place) f.new;
        function = d.function;
        among = function_among T.types.functions d.run.function d.function seated.function;
        home = d.home;
        sits = seated.sits;
        plan = d.plan;
        is_plan = settled.0;
        told_plan = refl;
        kept = record { whole = settled.1; passed = held_at passable (omega arith); unaliased = passed.0 };
        around = refl;
        elsewhere = refl;
        muts = refl;
        unit = λ e. unit_declared (declarations c.types.decls.items) place e;
        item = d.run.function;
        made = many;
        is_there = function_stands T.program front.names T.types front.typed (main_in T.program 0) d.run.function d.function seated.function;
        items = refl;
        new_is_there = function_stands c.program there.names c.types there.typed (main_in c.program 0) place f.new f.is_new;
        apart = λ g e. apart d.run.function many g (some_added (has_enum (named T w d).exits)) e;
        found = f.seen;
      }
