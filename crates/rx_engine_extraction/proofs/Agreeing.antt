-- What two cases of one text decide alike, from what stands in both: the run, its function and block, the plan, how its params are passed,
-- and the bounds. The text may have been typed twice.
use Rattle.std.proofs.Common.{◌≡◌, ℕ, Bool, ◌&&◌, List, [], length, map, Option, Some, None, refl, sym, ap, subst, ◌∙◌}
use Rattle.std.specs.Prelude.{nat_le}
use Rattle.rx_core.specs.declared.types.Bound.{Bound}
use Rattle.rx_lex.specs.Tokens.{Lexes}
use Rattle.rx_tree.specs.Plain.{ProgramTree}
use Rattle.rx_parse_grammar.specs.grammar.Items.{Parses}
use Rattle.rx_meaning.specs.Programs.{Program}
use Rattle.rx_typed_declarations.specs.Sizes.{Sized}
use Rattle.rx_graph_cycles.specs.Reaches.{NoCycle}
use Rattle.rx_resolve_names.specs.declared.resolved.ItemNames.{ItemNames}
use Rattle.rx_typed.specs.Types.{Declarations}
use Rattle.rx_typed_declarations.specs.Held.{held_by_each}
use Rattle.rx_typed_declarations.proofs.Polarities.{same_declared}
use Rattle.rx_typeck_typed.specs.Programs.{Fits as Declared}
use Rattle.rx_typeck_typed.specs.declared.typed.Typed.{Typed}
use Rattle.rx_typeck_typed.specs.declared.typed.TypedFn.{TypedFn}
use Rattle.rx_typeck_typed.specs.Typing.{IsTyped}
use Rattle.rx_lower.specs.Functions.{function_at}
use Rattle.rx_facts.specs.Functions.{body}
use Rattle.rx_facts.specs.Passing.{Each}
use Rattle.rx_facts.specs.Same.{SameFunction, AreSame}
use Rattle.rx_typed_runs.specs.declared.runs.RunPos.{RunPos}
use Rattle.rx_select.specs.OneText.{OneText}
use Rattle.rx_select.proofs.Ways.{one_run}
use Rattle.rx_exits_jumps.specs.Seen.{first_home}
use Rattle.rx_exits_plan.specs.Asked.{Asked}
use Rattle.rx_exits_plan.specs.Plan.{Plan, IsPlan, is_moved}
use Rattle.rx_exits_plan.specs.PlainPlan.{IsExitPlan}
use Rattle.rx_modes_uses.specs.Modes.{IsModes}
use Rattle.rx_modes_uses.proofs.One.{one_list_of_modes}
use Rattle.rx_hoist_diverging.specs.Diverging.{diverging}
use Rattle.rx_hoist_nodes.specs.TypedRun.{typed_run}
use Rattle.rx_hoist_extraction.specs.Plan as names
use Rattle.rx_hoist_extraction.specs.Plan.{Bounds}
use Rattle.rx_hoist_extraction.specs.Extraction.{extraction, added, new_number}
use Rattle.rx_hoist_naming.specs.NamedPlan.{names_in, named_plan}
use Rattle.rx_repair.specs.Named.{named_at}
use Rattle.rx_engine_related.specs.AboutRun.{special_of}
use Rattle.rx_engine_alike.specs.Items.{items_with}
use Rattle.rx_engine_extracted.specs.Programs.{extracts}
use Rattle.rx_engine_extraction.specs.Source.{Text, IsText, Wish, declared_in}
use Rattle.rx_engine_extraction.specs.Case.{Case, asked}
use Rattle.rx_engine_extraction.specs.Made.{run_of, told, named, hoisted, new_item, named_bounds, extracted}
use Rattle.rx_engine_extraction.specs.Rendering.{Renders}
use Rattle.rx_typed.specs.PlainTypes.{declarations}
use Rattle.rx_engine_extraction.specs.Confirmed.{is_of_unit, units_among, units_if, whole_of, without_value, told_by, is_extracted, is_found, Confirmed}
use Rattle.rx_engine_extraction.specs.Meeting.{Selects, Seated, Passes, Fits, IsAnswer}
use Rattle.rx_engine_extraction.specs.Hoisting.{IsBare}
use Rattle.rx_engine_extraction.proofs.Ends.{block_function}
use Rattle.rx_engine_extraction.proofs.Bare.{extraction_bare}
use Rattle.rx_engine_extraction.proofs.AgreeingPlans.{one_plan, one_listed}
use Rattle.rx_engine_extraction.proofs.AgreeingTypes.{SameTyped, one_meaning, function_alike, framed_alike}
use Rattle.rx_engine_extraction.proofs.AgreeingFound.{whole_alike, units_alike}
use Rattle.rx_engine_extraction.proofs.AgreeingNames.{by_function, names_alike, plan_alike}

some_one : {A : Type 0} (a b : A) → ◌≡◌ {A = Option A} (Some a) (Some b) → a ≡ b
some_one a b e = cc

-- ---- a text that is typed twice

abbrev pub retyped : Text → Typed → Text
retyped T u = record T { types = u }

pub record Twice (T : Text) (u : Typed) : Type 0 where
  pub one_text : OneText T.tokens T.length T.program
  pub declared : declared_in T ≡ declared_in (retyped T u)
  pub functions : (n : ℕ) (f g : TypedFn) → function_at T.types.functions n ≡ Some f → function_at u.functions n ≡ Some g → SameTyped f g
  pub each : Each SameFunction T.types.functions u.functions

pub typed_twice : ((p : ProgramTree) (names : List ItemNames) (t u : Typed) → IsTyped p names t → IsTyped p names u → AreSame t u)
    → ((p : ProgramTree) (D : Declarations) → Declared p D → NoCycle (held_by_each D)) → ((D : Declarations) → NoCycle (held_by_each D) → (P : ℕ → ℕ) × Sized D P)
    → (bytes : List ℕ) (T : Text) (u : Typed) → IsText bytes T → IsText bytes (retyped T u) → Twice T u
typed_twice same finite some bytes T u is other =
    let x = is.accepted.front in let y = other.accepted.front in
    let typed : IsTyped T.program x.names u = subst (λ ns. IsTyped T.program ns u) (one_meaning T.program y.names x.names y.meant x.meant) y.typed in
    let alike = same T.program x.names T.types u x.typed typed in record {
      one_text = record {
        text = bytes;
        lexed = subst (λ ts. Lexes bytes ts) is.tokens is.parses.lexed;
        parsed = is.parses;
        long = is.long;
      };
      declared = same_declared T.types.decls.items u.decls.items alike.items;
      functions = λ n f g a b. function_alike same finite some T.program x.names T.types u x.typed typed n f g a b;
      each = alike.functions;
    }

-- ---- what is decided alike, one thing after another

pub record Seats (d e : Case) : Type 0 where
  pub run : d.run ≡ e.run
  pub function : SameTyped d.function e.function
  pub home : d.home ≡ e.home

pub record Passed (d e : Case) : Type 0 where
  pub seats : Seats d e
  pub plan : d.plan ≡ e.plan
  pub listed : d.listed ≡ e.listed
  pub modes : d.modes ≡ e.modes
  pub moved : d.moved ≡ e.moved

module _ (T : Text) (u : Typed) (z : Twice T u) (w : Wish) (d e : Case) where
  abbrev U : Text
  U = retyped T u

  pub as_seated : Selects T w d → Selects U w e → Seated T d.run d.function d.home → Seated U e.run e.function e.home → Seats d e
  as_seated a b s t =
      let r : d.run ≡ e.run = one_run T.length w.start w.end T.tokens T.program d.run e.run z.one_text a b in
      let f : SameTyped d.function e.function =
      z.functions e.run.function d.function e.function (subst (λ (x : RunPos). function_at T.types.functions x.function ≡ Some d.function) r s.function) t.function in
      record {
        run = r;
        function = f;
        home = some_one d.home e.home (sym s.first ∙ ((λ i. first_home (typed_run T.program (r i)) (f.same.bodies i)) ∙ t.first));
      }

  module _ (s : Seats d e) where
    pub asked_alike : asked T d ≡ asked U e
    asked_alike = λ i. record {
      function = s.function.same.bodies i;
      run = typed_run T.program (s.run i);
      home = s.home i;
      frame = record { declared = z.declared i; sizes = T.sizes; types = framed_alike d.function e.function s.function.same i };
    }

    pub names_of_both : names_in (told T w d) ≡ names_in (told U w e)
    names_of_both = names_alike (told T w d) e.function s.function

    pub as_planned : IsPlan (asked T d) d.plan → IsPlan (asked U e) e.plan → d.plan ≡ e.plan
    as_planned a b = one_plan (asked U e) d.plan e.plan (subst (λ (A : Asked). IsPlan A d.plan) asked_alike a) b

    pub as_passed : d.plan ≡ e.plan → Passes (asked T d) d.function w.choice d.plan d.listed d.modes d.moved
        → Passes (asked U e) e.function w.choice e.plan e.listed e.modes e.moved → Passed d e
    as_passed k a b = record {
      seats = s;
      plan = k;
      listed = one_listed (asked U e) d.listed e.listed (subst (λ (A : Asked). IsExitPlan A d.listed) asked_alike a.listed) b.listed a.agree b.agree;
      modes = one_list_of_modes (asked U e) e.function.mutable e.plan w.choice d.modes e.modes
          (subst (λ (x : Plan). IsModes (asked U e) e.function.mutable x w.choice d.modes) k
          (subst (λ (ms : List _). IsModes (asked U e) ms d.plan w.choice d.modes) s.function.same.mutable
          (subst (λ (A : Asked). IsModes A d.function.mutable d.plan w.choice d.modes) asked_alike a.are_modes))) b.are_modes;
      moved = a.are_moved ∙ ((λ i. map (is_moved (asked_alike i)) (k i).params) ∙ sym b.are_moved);
    }

  module _ (p : Passed d e) where
    pub named_alike : named T w d ≡ named U w e
    named_alike =
        (λ i. named_plan (record {
          tokens = T.tokens;
          program = T.program;
          declared = z.declared i;
          function = d.function;
          diverging = diverging (p.seats.function.same.bodies i).body;
          run = p.seats.run i;
          loops = (p.seats.home i).around.loops;
          plan = p.listed i;
          modes = p.modes i;
          moved = p.moved i;
          name = w.name;
        }))
        ∙ plan_alike (by_function (told U w e) d.function) e.function p.seats.function

    pub hoisted_alike : hoisted T w d ≡ hoisted U w e
    hoisted_alike = λ i. extraction T.program (run_of (p.seats.run i)) (named_alike i) []

    pub item_alike : new_item T w d ≡ new_item U w e
    item_alike = λ i. new_number (run_of (p.seats.run i)) (named_alike i)

    -- the function that is made has no bounds
    bare : Selects U w e → IsBare (hoisted U w e) (new_item U w e)
    bare b =
        let f = block_function T.program e.run.function e.run.block.path b.block b.at in
        extraction_bare T.program (run_of e.run) (named U w e) f.0 f.1 f.2

    pub as_bounded : ((p : ProgramTree) (n : ℕ) → IsBare p n → (t u : Typed) (g h : TypedFn) (bs cs : List Bound) → Fits p n t g bs → Fits p n u h cs → bs ≡ cs)
        → Selects U w e → Fits (hoisted T w d) (new_item T w d) d.types d.made d.bounds → Fits (hoisted U w e) (new_item U w e) e.types e.made e.bounds → d.bounds ≡ e.bounds
    as_bounded one s a b =
        one (hoisted U w e) (new_item U w e) (bare s) d.types e.types d.made e.made d.bounds e.bounds
        (subst (λ (n : ℕ). Fits (hoisted U w e) n d.types d.made d.bounds) item_alike
        (subst (λ (q : ProgramTree). Fits q (new_item T w d) d.types d.made d.bounds) hoisted_alike a)) b

    bounds_alike : d.bounds ≡ e.bounds → named_bounds T w d ≡ named_bounds U w e
    bounds_alike b = λ i. named_at (hoisted_alike i) (item_alike i) (b i)

    -- and so are their texts
    pub texts_alike : d.bounds ≡ e.bounds → (text : List ℕ) → IsAnswer T w d text → IsAnswer U w e text
    texts_alike b text h =
        subst (λ (bs : Bounds). Renders T.bytes T.tokens T.program (run_of e.run) (named U w e) bs text) (bounds_alike b)
        (subst (λ (k : names.Plan). Renders T.bytes T.tokens T.program (run_of e.run) k (named_bounds T w d) text) named_alike
        (subst (λ (r : RunPos). Renders T.bytes T.tokens T.program (run_of r) (named T w d) (named_bounds T w d) text) p.seats.run h))

    pub texts_back : d.bounds ≡ e.bounds → (text : List ℕ) → IsAnswer U w e text → IsAnswer T w d text
    texts_back b text h =
        subst (λ (r : RunPos). Renders T.bytes T.tokens T.program (run_of r) (named T w d) (named_bounds T w d) text) (sym p.seats.run)
        (subst (λ (k : names.Plan). Renders T.bytes T.tokens T.program (run_of e.run) k (named_bounds T w d) text) (sym named_alike)
        (subst (λ (bs : Bounds). Renders T.bytes T.tokens T.program (run_of e.run) (named U w e) bs text) (sym (bounds_alike b)) h))

    pub extracted_alike : d.bounds ≡ e.bounds → extracted T w d ≡ extracted U w e
    extracted_alike b = λ i. extraction T.program (run_of (p.seats.run i)) (named_alike i) (bounds_alike b i)

    -- what is told of a run, and what is found

    whole_same : whole_of T.program T.types ≡ whole_of T.program u
    whole_same = whole_alike T.program T.types u z.declared z.each

    units_same : units_among (declared_in T) T.types.functions ≡ units_among (declared_in U) u.functions
    units_same =
        units_alike (declared_in T) T.types.functions u.functions z.each
        ∙ (λ i. units_among (z.declared i) u.functions)

    told_same : (n made : ℕ) (unit : Bool) (g : TypedFn) → told_by T d n made unit g ≡ told_by U e n made unit g
    told_same n made unit g = λ i. record {
      run = typed_run T.program (p.seats.run i);
      around = (p.seats.home i).around.loops;
      plan = without_value (p.plan i);
      modes = p.modes i;
      elsewhere = special_of (asked_alike p.seats i) (p.seats.function.same.mutable i) (p.plan i);
      muts = p.seats.function.same.mutable i;
      new = record { number = n; function = body g };
      beyond = length g.names;
      items = items_with (p.seats.run i).function made;
      units = units_if (whole_same i).functions (units_same i);
      gives_unit = unit;
    }

    extracted_same : (n made : ℕ) (unit : Bool) (Q : Program) (o : Option TypedFn) → is_extracted T d n made unit Q o ≡ is_extracted U e n made unit Q o
    extracted_same n made unit Q None = refl
    extracted_same n made unit Q (Some g) = λ i. nat_le (length g.names) 4294967295 && extracts (told_same n made unit g i) (p.seats.run i).function (whole_same i) Q

    pub found_same : (n made : ℕ) (q : ProgramTree) (t : Typed) → is_found T d n made q t ≡ is_found U e n made q t
    found_same n made q t = extracted_same n made (is_of_unit (declarations t.decls.items) n) (whole_of q t) (function_at t.functions n)

    pub added_alike : added (named T w d) ≡ added (named U w e)
    added_alike = ap added named_alike

    -- what confirms the answer of the one confirms that of the other
    pub confirmed_same : d.text ≡ e.text → Confirmed U w e → Confirmed T w d
    confirmed_same b x = record {
      program = x.program;
      parses = subst (λ (text : List ℕ). Parses text x.program) (sym b) x.parses;
      types = x.types;
      accepted = x.accepted;
      found =
          (λ i. is_found T d (item_alike i) (added_alike i) x.program x.types)
          ∙ (found_same (new_item U w e) (added (named U w e)) x.program x.types ∙ x.found);
    }
