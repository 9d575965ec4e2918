-- The bytes of a text are one text but for how it is typed: so two refusals of them tell one condition and are one, what is refused has no
-- extraction, and two answers are one.
use Rattle.std.proofs.Common.{◌≡◌, ◌≢◌, ℕ, List, sym, subst, ◌∙◌, arith}
use Rattle.rx_lex.specs.Tok.{Tok}
use Rattle.rx_lex.specs.Tokens.{Lexes}
use Rattle.rx_tree.specs.Plain.{ProgramTree}
use Rattle.rx_parse_grammar.specs.grammar.Items.{Parses}
use Rattle.rx_graph_cycles.specs.Reaches.{NoCycle}
use Rattle.rx_resolve_names.specs.declared.resolved.ItemNames.{ItemNames}
use Rattle.rx_resolve_names.specs.Causes.{Meant}
use Rattle.rx_typed.specs.Types.{Declarations}
use Rattle.rx_typed.specs.PlainTypes.{declarations}
use Rattle.rx_typed_declarations.specs.Held.{held_by_each}
use Rattle.rx_typed_declarations.specs.Sizes.{Sized}
use Rattle.rx_typed_declarations.proofs.Polarities.{same_declared}
use Rattle.rx_typeck_typed.specs.Programs.{Fits as Declared}
use Rattle.rx_typeck_typed.specs.declared.typed.Typed.{Typed}
use Rattle.rx_typeck_typed.specs.declared.typed.TypedFn.{TypedFn}
use Rattle.rx_typeck_typed.specs.Typing.{IsTyped}
use Rattle.rx_facts.specs.Same.{AreSame}
use Rattle.rx_core.specs.declared.types.Bound.{Bound}
use Rattle.rx_check.specs.declared.fault.CheckFault.{CheckFault}
use Rattle.rx_check.specs.declared.fault.CheckFault.TheVariants as check_fault
use Rattle.rx_check.specs.Causes as passes_of
use Rattle.rx_check.specs.Causes.{Causes, PassCauses}
use Rattle.rx_check.specs.Passes.{Fronted, Accepted}
use Rattle.rx_engine_extraction.specs.declared.refusal.Refusal.{Refusal}
use Rattle.rx_engine_extraction.specs.Source.{Text, IsText, Wish, declared_in}
use Rattle.rx_engine_extraction.specs.Alike.{AreOne}
use Rattle.rx_engine_extraction.specs.Conditions.{Condition, confirmed}
use Rattle.rx_engine_extraction.specs.Meeting.{Fits, Holds}
use Rattle.rx_engine_extraction.specs.Failing.{Fails}
use Rattle.rx_engine_extraction.specs.Hoisting.{IsBare}
use Rattle.rx_engine_extraction.specs.Promise.{Stands, Extracts, Keeps}
use Rattle.rx_engine_extraction.specs.Verdict.{RefusedBy, IsRefused}
use Rattle.rx_engine_extraction.proofs.AgreeingTypes.{one_meaning}
use Rattle.rx_engine_extraction.proofs.Agreeing.{retyped, Twice, typed_twice}
use Rattle.rx_engine_extraction.proofs.Clashing.{one_condition, none_extracted}
use Rattle.rx_engine_extraction.proofs.Standing.{bounds, one_text_of}
use Rattle.rx_engine_extraction.proofs.Telling.{told_alike}

module _ (one_tokens : (bytes : List ℕ) (ts us : List Tok) → Lexes bytes ts → Lexes bytes us → ts ≡ us)
    (one_tree : (bytes : List ℕ) (p q : ProgramTree) → Parses bytes p → Parses bytes q → p ≡ q)
    (same : (p : ProgramTree) (names : List ItemNames) (t u : Typed) → IsTyped p names t → IsTyped p names u → AreSame t u)
    (finite : (p : ProgramTree) (D : Declarations) → Declared p D → NoCycle (held_by_each D))
    (typed_finite : (p : ProgramTree) (names : List ItemNames) (t : Typed) → IsTyped p names t → NoCycle (held_by_each (declarations t.decls.items)))
    (some : (D : Declarations) → NoCycle (held_by_each D) → (P : ℕ → ℕ) × Sized D P)
    (one_size : (D : Declarations) (P Q : ℕ → ℕ) → NoCycle (held_by_each D) → Sized D P → Sized D Q → (i : ℕ) → P i ≡ Q i) where
  -- one text, but for its types
  one_text : (bytes : List ℕ) (T U : Text) → IsText bytes T → IsText bytes U → U ≡ retyped T U.types
  one_text bytes T U is other =
      let x = is.accepted.front in let y = other.accepted.front in
      let program : U.program ≡ T.program = one_tree bytes U.program T.program other.parses is.parses in
      let tokens : U.tokens ≡ T.tokens = sym other.tokens ∙ (one_tokens bytes other.parses.tokens is.parses.tokens other.parses.lexed is.parses.lexed ∙ is.tokens) in
      let written : U.bytes ≡ T.bytes = sym other.same ∙ is.same in
      let length : U.length ≡ T.length = sym other.long ∙ is.long in
      let meant : Meant T.program y.names = subst (λ (p : ProgramTree). Meant p y.names) program y.meant in
      let again : IsTyped T.program y.names U.types = subst (λ (p : ProgramTree). IsTyped p y.names U.types) program y.typed in
      let typed : IsTyped T.program x.names U.types = subst (λ (ns : List ItemNames). IsTyped T.program ns U.types) (one_meaning T.program y.names x.names meant x.meant) again in
      let declared : declared_in T ≡ declared_in U = same_declared T.types.decls.items U.types.decls.items (same T.program x.names T.types U.types x.typed typed).items in
      let sizes = one_size (declared_in U) U.sizes T.sizes (typed_finite T.program x.names U.types typed) other.sized (subst (λ (D : Declarations). Sized D T.sizes) declared is.sized) in
      λ i. record {
        bytes = written i;
        length = length i;
        tokens = tokens i;
        program = program i;
        types = U.types;
        sizes = λ n. sizes n i;
      }

  module _ (bytes : List ℕ) (T U : Text) (is : IsText bytes T) (other : IsText bytes U) where
    abbrev path : U ≡ retyped T U.types
    path = one_text bytes T U is other

    there : IsText bytes (retyped T U.types)
    there = subst (λ (V : Text). IsText bytes V) path other

    twice : Twice T U.types
    twice = typed_twice same finite some bytes T U.types is there

    back : Twice (retyped T U.types) T.types
    back = typed_twice same finite some bytes (retyped T U.types) T.types there is

    -- what is refused of the one is of the other, with its types
    abbrev refused_there : (w : Wish) (q : Refusal) → RefusedBy U w q → RefusedBy (retyped T U.types) w q
    refused_there w q y = record {
      case = y.case;
      condition = y.condition;
      stands = subst (λ (V : Text). Stands V w y.case y.condition) path y.stands;
      fails = subst (λ (V : Text). Fails V w y.case y.condition q) path y.fails;
    }

  module _ (one : (p : ProgramTree) (n : ℕ) → IsBare p n → (t u : Typed) (g h : TypedFn) (bs cs : List Bound) → Fits p n t g bs → Fits p n u h cs → bs ≡ cs) where
    pub answers_alike : (bytes : List ℕ) (w : Wish) (text other : List ℕ) (bs cs : List Bound) → Keeps bytes w text bs → Keeps bytes w other cs → (text ≡ other) × (bs ≡ cs)
    answers_alike bytes w text other bs cs x y =
        let a = x.extracts in let b = y.extracts in let p = path bytes a.text b.text a.is_text b.is_text in
        let z = twice bytes a.text b.text a.is_text b.is_text in
        let t = subst (λ (V : Text). Stands V w b.case confirmed) p b.stands in (
          x.rendered ∙ (one_text_of a.text b.text.types z w a.case b.case one confirmed (omega arith) a.stands t ∙ sym y.rendered),
          x.needed ∙ (bounds a.text b.text.types z w a.case b.case one confirmed (omega arith) a.stands t ∙ sym y.needed),
        )

    module _ (passed : (p : ProgramTree) (e : CheckFault) → Fronted p → PassCauses e p → e ≡ check_fault.OutOfMemory)
        (accepted : (p : ProgramTree) (e : CheckFault) → Accepted p → Causes e p → e ≡ check_fault.OutOfMemory) where
      pub conditions_alike : (bytes : List ℕ) (w : Wish) (r q : Refusal) (x : IsRefused bytes w r) (y : IsRefused bytes w q) → x.refused.condition ≡ y.refused.condition
      conditions_alike bytes w r q x y =
          one_condition passed accepted one x.text y.text.types (twice bytes x.text y.text x.is_text y.is_text) (back bytes x.text y.text x.is_text y.is_text) w r q
          x.refused (refused_there bytes x.text y.text x.is_text y.is_text w q y.refused)

      pub refused_or_extracted : (bytes : List ℕ) (w : Wish) (r : Refusal) → IsRefused bytes w r → Extracts bytes w → ⊥
      refused_or_extracted bytes w r x y =
          let p = path bytes x.text y.text x.is_text y.is_text in
          none_extracted passed accepted one x.text y.text.types (twice bytes x.text y.text x.is_text y.is_text) (back bytes x.text y.text x.is_text y.is_text) w r x.refused
          y.case (subst (λ (V : Text). Stands V w y.case confirmed) p y.stands) (subst (λ (V : Text). Holds V w y.case confirmed) p y.last)

      module _ (one_pass : (p : ProgramTree) (e f : CheckFault) → e ≢ check_fault.OutOfMemory → f ≢ check_fault.OutOfMemory → Causes e p → Causes f p → passes_of.AreOne e f) where
        pub refusals_alike : (bytes : List ℕ) (w : Wish) (r q : Refusal) → IsRefused bytes w r → IsRefused bytes w q → AreOne r q
        refusals_alike bytes w r q x y =
            let z = refused_there bytes x.text y.text x.is_text y.is_text w q y.refused in
            let c : z.condition ≡ x.refused.condition = sym (conditions_alike bytes w r q x y) in
            told_alike one_pass one x.text y.text.types (twice bytes x.text y.text x.is_text y.is_text) w x.refused.case z.case x.refused.condition r q x.refused.stands x.refused.fails
            (subst (λ (k : Condition). Stands (retyped x.text y.text.types) w z.case k) c z.stands) (subst (λ (k : Condition). Fails (retyped x.text y.text.types) w z.case k q) c z.fails)
