-- How an extraction ends, by what the parts of the end find.
use Rattle.std.proofs.Common.{◌≡◌, ℕ, true, List, [], Some, Result, slice_get, refl, sym, subst}
use Rattle.std.specs.Prelude.{IfOk, IfErr}
use Rattle.std.specs.Option.{IsSome}
use Rattle.rx_core.specs.declared.types.Bound.{Bound}
use Rattle.rx_core.specs.declared.types.Span.{Span}
use Rattle.rx_tree.specs.Lists.{nth}
use Rattle.rx_tree.specs.Size.{IsNumbered}
use Rattle.rx_tree.specs.Plain as plain
use Rattle.rx_tree.specs.Plain.{Function, ProgramTree}
use Rattle.rx_resolve_names.specs.declared.resolved.ItemNames.{ItemNames}
use Rattle.rx_typeck_typed.specs.Typing.{IsTyped}
use Rattle.rx_typeck_typed.specs.declared.typed.Typed.{Typed}
use Rattle.rx_typeck_typed.specs.declared.typed.TypedFn.{TypedFn}
use Rattle.rx_lower.specs.Functions.{function_at}
use Rattle.rx_check.specs.Front.{Front, IsFrontOf}
use Rattle.rx_check.specs.Passes.{IsFront}
use Rattle.rx_repair.specs.Lacking.{Needs}
use Rattle.rx_hoist.specs.Runs.{is_function}
use Rattle.rx_hoist_extraction.specs.Run.{Run}
use Rattle.rx_hoist_extraction.specs.Plan.{Bounds, Plan}
use Rattle.rx_hoist_extraction.specs.Extraction.{extraction, new_number}
use Rattle.rx_hoist_extraction.proofs.NewItemsAt.{new_function_at}
use Rattle.rx_print_spelling.specs.Formed.{FormedProgram}
use Rattle.rx_repair.specs.Named.{named_at}
use Rattle.rx_repair.specs.Repaired.{repaired}
use Rattle.rx_repair.proofs.Extracting.{repaired_extraction}
use Rattle.rx_repair.proofs.Once.{all_distinct}
use Rattle.rx_engine_extraction.specs.declared.refusal.Answer.{Answer}
use Rattle.rx_engine_extraction.specs.declared.refusal.Fault.{Fault}
use Rattle.rx_engine_extraction.specs.Ending.{IsAnswered, IsUnanswered, IsFinished}
use Rattle.rx_engine_extraction.specs.Hoisting.{IsBare}
use Rattle.rx_engine_extraction.proofs.Ends.{fitted_finished, all_named}
use Rattle.rx_engine_extraction.proofs.Forming.{function_there}

module _ (found : (p : ProgramTree) (names : List ItemNames) (t : Typed) → IsTyped p names t → (n : ℕ) (s : Span) (f : Function) → nth p n ≡ Some (plain.function_item s f)
    → (g : TypedFn) × (function_at t.functions n ≡ Some g)) (p : ProgramTree) (n : ℕ) (bare : IsBare p n) (x : Front) (front : IsFrontOf p x) where
  made : (g : TypedFn) × (function_at x.typed.functions n ≡ Some g)
  made = found p front.accepted.names x.typed front.accepted.typed n bare.span bare.function bare.there

  pub has_function : IsSome (function_at x.typed.functions n)
  has_function = subst (λ o. IsSome o) (sym made.1) refl

  pub finished_by : (R : Bounds → List ℕ → Type 0) (bs : List Bound) (r : ProgramTree) → r ≡ repaired p n bs
      → ((f : TypedFn) → function_at x.typed.functions n ≡ Some f → Needs x.typed.decls.items f bs) → (q : Result Answer Fault)
      → IfOk q (λ a. IsAnswered (R (named_at p n bs)) r bs a) → IfErr q (λ f. IsUnanswered (R (named_at p n bs)) r f) → IsFinished R p n q
  finished_by R bs r e needs q h k =
      fitted_finished R p n x.typed made.0 bs (record { front = front.accepted; made = made.1; bounds = needs made.0 made.1 }) q
      (subst (λ (y : ProgramTree). IfOk q (λ a. IsAnswered (R (named_at p n bs)) y bs a)) e h)
      (subst (λ (y : ProgramTree). IfErr q (λ f. IsUnanswered (R (named_at p n bs)) y f)) e k)

pub numbered_too : ((p : ProgramTree) (n : ℕ) (bounds : List Bound) → IsNumbered p → IsNumbered (repaired p n bounds))
    → (p : ProgramTree) (n : ℕ) (bs : List Bound) (r : ProgramTree) → r ≡ repaired p n bs → IsNumbered p → IsNumbered r
numbered_too law p n bs r e h = subst (λ (y : ProgramTree). IsNumbered y) (sym e) (law p n bs h)

-- ---- the program with bounds

module _ (P : ProgramTree) (r : Run) (pl : Plan) (s : Span) (f : Function) (there : nth P r.item ≡ Some (plain.function_item s f)) where
  bounded_bare : FormedProgram (extraction P r pl []) → (t : Typed) → IsFront (extraction P r pl []) t → (bs : List Bound)
      → repaired (extraction P r pl []) (new_number r pl) bs ≡ extraction P r pl (named_at (extraction P r pl []) (new_number r pl) bs)
  bounded_bare formed t front bs =
      repaired_extraction P r pl bs s f there (all_distinct (extraction P r pl []) front.names front.meant.names_are (new_number r pl)) (all_named (extraction P r pl []) (new_number r pl) formed)

  -- the program with the call that gets bounds is the extraction with them
  pub bounded : (p : ProgramTree) (n : ℕ) → p ≡ extraction P r pl [] → n ≡ new_number r pl → FormedProgram p → (t : Typed) → IsFront p t → (bs : List Bound)
      → repaired p n bs ≡ extraction P r pl (named_at p n bs)
  bounded p n e k formed t front bs =
      subst (λ (q : ProgramTree). repaired q n bs ≡ extraction P r pl (named_at q n bs)) (sym e)
      (subst (λ (m : ℕ). repaired (extraction P r pl []) m bs ≡ extraction P r pl (named_at (extraction P r pl []) m bs)) (sym k)
      (bounded_bare (subst (λ (q : ProgramTree). FormedProgram q) e formed) t (subst (λ (q : ProgramTree). IsFront q t) e front) bs))

  -- the new function is there
  pub function_made : (q : ProgramTree) (bs : Bounds) → q ≡ extraction P r pl bs → (n : ℕ) → n ≡ new_number r pl → is_function (slice_get q n) ≡ true
  function_made q bs e n k =
      subst (λ (x : ProgramTree). is_function (slice_get x n) ≡ true) (sym e)
      (subst (λ (m : ℕ). is_function (slice_get (extraction P r pl bs) m) ≡ true) (sym k)
      (function_there (extraction P r pl bs) (new_number r pl) _ _ (new_function_at P r pl bs s f there)))
