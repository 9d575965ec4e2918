-- What the laws on names ask of a run is had where the conditions up to the number of lifetimes are met.
use Rattle.std.proofs.Common.{◌≡◌, ℕ, ◌+◌, ◌<◌, ◌≤◌, ◌^◌, Bool, true, false, ◌||◌, ◌==◌, if◌then◌else◌, List, [], ◌∷◌, length, map, Some, refl, sym, ap, ◌∙◌, subst, arith}
use Rattle.std.proofs.lemmas.Bool.Decides.{Decides-eqb}
use Rattle.rx_lex.specs.Tok.{Tok}
use Rattle.rx_lex.specs.Tokens.{Lexes}
use Rattle.rx_parse_grammar.proofs.Numbered.{text_numbered}
use Rattle.rx_tree.specs.Plain.{ProgramTree}
use Rattle.rx_tree.specs.Size.{IsNumbered}
use Rattle.rx_graph_cycles.specs.Reaches.{NoCycle}
use Rattle.rx_resolve_names.specs.declared.resolved.ItemNames.{ItemNames}
use Rattle.rx_typed.specs.Types.{Declarations}
use Rattle.rx_typed.specs.PlainTypes.{declarations}
use Rattle.rx_typed.specs.PlainTree.{plain-TypedTree}
use Rattle.rx_typed_declarations.specs.Held.{held_by_each}
use Rattle.rx_typed_declarations.specs.Sizes.{Sized}
use Rattle.rx_typeck_typed.specs.declared.typed.Typed.{Typed}
use Rattle.rx_typeck_typed.specs.declared.typed.TypedFn.{TypedFn}
use Rattle.rx_typeck_typed.specs.Typing.{IsTyped}
use Rattle.rx_select.specs.RunOf.{RunOf}
use Rattle.rx_lower.specs.Functions.{function_at}
use Rattle.rx_lower_walks.specs.Walks.{Among}
use Rattle.rx_facts.specs.Passing.{AllAre}
use Rattle.rx_facts.specs.Functions.{IsInitialised}
use Rattle.rx_check.specs.Passes.{IsFront}
use Rattle.rx_exits_plan.specs.Runs.{Home, Run, Sits}
use Rattle.rx_exits_plan.specs.PartlyMoved.{PartlyMoved}
use Rattle.rx_exits_plan.specs.Shadowed.{Shadowed}
use Rattle.rx_exits_plan.specs.Plan.{is_moved, Plan}
use Rattle.rx_modes_policy.specs.declared.uses.Uses.{Uses}
use Rattle.rx_modes_policy.specs.Allowed.{allowed_by, HasMember, IsMember}
use Rattle.rx_modes_uses.specs.Modes.{IsModes}
use Rattle.rx_hoist_extraction.specs.FreeName.{FreeName}
use Rattle.rx_hoist_naming.specs.NamesWords.{identifiers}
use Rattle.rx_engine_related.specs.Accepted.{Accepted}
use Rattle.rx_engine_validated.specs.AskedOf.{asked_of}
use Rattle.rx_engine_planned.specs.Decided.{Decided}
use Rattle.rx_engine_tied.specs.Settled.{Settled}
use Rattle.rx_engine_extraction.specs.Source.{IsText, Text, Wish}
use Rattle.rx_engine_extraction.specs.Case.{asked, Case}
use Rattle.rx_engine_extraction.specs.Made.{told}
use Rattle.rx_engine_extraction.specs.Conditions.{Condition, few_levels, few_lifetimes, reached, selects, settled, unmoved, unused, visible, whole, word}
use Rattle.rx_engine_extraction.specs.Meeting.{Holds, same_name}
use Rattle.rx_engine_extraction.specs.Promise.{Stands}
use Rattle.rx_engine_extraction.proofs.Orders.{earlier, number}
use Rattle.rx_engine_extraction.proofs.Worded.{function_among}

-- the function of an item is of this item
its_item : (fs : List TypedFn) (n : ℕ) (g : TypedFn) → function_at fs n ≡ Some g → g.item ≡ n
its_item [] n g e = absurd (cc)
its_item (f ∷ fs) n g e = by (f.item == n) refl e (its_item fs n g)
  where
    by : (b : Bool) → (f.item == n) ≡ b → (if b then Some f else function_at fs n) ≡ Some g → (function_at fs n ≡ Some g → g.item ≡ n) → g.item ≡ n
    by true q e on = let s : f ≡ g = cc in ap (λ (h : TypedFn). h.item) (sym s) ∙ (Decides-eqb f.item n).0 q
    by false q e on = on e

none_of_three : (a b c : Bool) → (a || b || c) ≡ false → (a ≡ false) × (b ≡ false) × (c ≡ false)
none_of_three true b c e = absurd (cc)
none_of_three false true c e = absurd (cc)
none_of_three false false true e = absurd (cc)
none_of_three false false false e = (refl, refl, refl)

fewer : (a b : ℕ) → a + b ≤ 128 → b ≤ 2 ^ 32
fewer a b h = omega (arith, h)

module _ (finite : (p : ProgramTree) (names : List ItemNames) (t : Typed) → IsTyped p names t → NoCycle (held_by_each (declarations t.decls.items)))
    (one_size : (D : Declarations) (P Q : ℕ → ℕ) → NoCycle (held_by_each D) → Sized D P → Sized D Q → (i : ℕ) → P i ≡ Q i)
    (ready : (p : ProgramTree) (t : Typed) → IsNumbered p → (front : IsFront p t) → (f : TypedFn) → Among f t.functions → (r : Run) (h : Home) → Sits (plain-TypedTree f.tree) r h
    → Accepted (asked_of (declarations t.decls.items) front.parts f r h) f.mutable)
    (bytes : List ℕ) (T : Text) (w : Wish) (d : Case) (is : IsText bytes T) (short : T.length ≤ 1048576) (allowed : (u : Uses) → HasMember (allowed_by u) → IsMember (w.choice u) (allowed_by u)) (stands : Stands T w d few_levels) where
  met : (k : Condition) → number k < number few_levels → Holds T w d k
  met k l = (earlier (Holds T w d) k few_levels l stands).it

  -- the passes up to initialisation accept the text, with the parts of the structs and enums that it is given
  unfoldable pub front : IsFront T.program T.types
  front =
      let f = is.accepted.front in
      let same = one_size (declarations T.types.decls.items) f.parts T.sizes (finite T.program f.names T.types f.typed) f.sized is.sized in record {
        names = f.names;
        meant = f.meant;
        typed = f.typed;
        covered = f.covered;
        small = f.small;
        parts = T.sizes;
        sized = is.sized;
        initialised = subst (λ (P : ℕ → ℕ). AllAre (IsInitialised (declarations T.types.decls.items) P) T.types.functions) (λ i n. same n i) f.initialised;
      }

  pub few_bytes : length bytes < 2 ^ 32
  few_bytes = let l = is.long in omega (arith, l, short)

  pub decided : Decided (told T w d) (asked T d) bytes is.accepted.front.names T.types d.function.mutable
  unfolding front
  decided =
      let f = is.accepted.front in
      let seated = met reached (omega arith) in
      let passes = (met unmoved (omega arith)).1 in
      let among = function_among T.types.functions d.run.function d.function seated.0.function in record {
        lexed = subst (λ (ts : List Tok). Lexes bytes ts) is.tokens is.parses.lexed;
        parsed = is.parses;
        short = few_bytes;
        meant = f.meant;
        typed = f.typed;
        declared = refl;
        word = met word (omega arith);
        start = w.start;
        end = w.end;
        run = subst (λ (n : ℕ). RunOf n T.tokens T.program w.start w.end d.run) (sym is.long) (met selects (omega arith));
        item = sym (its_item T.types.functions d.run.function d.function seated.0.function);
        among = among;
        function = refl;
        loops = refl;
        sits = seated.0.sits;
        accepted = ready T.program T.types (text_numbered bytes T.program is.parses few_bytes) front d.function among (asked T d).run d.home seated.0.sits;
        reached = seated.1;
        plan = passes.listed;
        agree = passes.agree;
        few = fewer _ _ (met few_lifetimes (omega arith));
      }

  pub settled_so : Settled (told T w d) (asked T d) d.function.mutable w.choice
  settled_so =
      let passes = (met unmoved (omega arith)).1 in record {
        run = refl;
        mixed = met settled (omega arith);
        partly = λ x p. (met whole (omega arith)).1 x (subst (λ (k : Plan). PartlyMoved (asked T d) k x) (sym passes.plan) p);
        visible = λ x p. met visible (omega arith) x (subst (λ (k : Plan). Shadowed (asked T d) k (same_name T w d) x) (sym passes.plan) p);
        allowed = allowed;
        modes = subst (λ (k : Plan). IsModes (asked T d) d.function.mutable k w.choice d.modes) passes.plan passes.are_modes;
        moved = passes.are_moved ∙ ap (λ (k : Plan). map (is_moved (asked T d)) k.params) passes.plan;
      }

  pub free : FreeName (identifiers T.tokens) w.name
  free = let n = none_of_three _ _ _ (met unused (omega arith)) in record { word = met word (omega arith); unused = n.0; enum_unused = n.1; unreserved = n.2 }

  pub selected : RunOf T.length T.tokens T.program w.start w.end d.run
  selected = met selects (omega arith)
