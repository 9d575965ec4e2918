-- So the new function is initialised: where its run is entered is a part of the text, which some walk comes to.
use Rattle.std.proofs.Common.{◌≡◌, ◌⊎◌, inl, inr, ℕ, Bool, List, [], ◌∷◌, ◌++◌, map, Some, refl, sym, ◌∙◌, subst, ap}
use Rattle.rx_typed.specs.Tree as tree
use Rattle.rx_typed.specs.Tree.{Mark, Parameter, Operands, Exp, Body, Function}
use Rattle.rx_typed_declarations.specs.Sizes.{Sized}
use Rattle.rx_lower_walks.specs.Actions.{Action}
use Rattle.rx_lower_walks.specs.Orders.{Order, order_body, order_function}
use Rattle.rx_lower_walks.specs.Walks.{stopped, Walk, stops, Among}
use Rattle.rx_facts_tables.specs.Initialised.{Initialised}
use Rattle.rx_exits_plan.specs.Blocks as block
use Rattle.rx_exits_plan.specs.Blocks.{Statement}
use Rattle.rx_exits_plan.specs.Runs.{inside}
use Rattle.rx_exits_plan.specs.Points.{next, enters, leaves}
use Rattle.rx_exits_plan.specs.Changed.{changed_statement}
use Rattle.rx_exits_plan.specs.Marked.{mark, marking, entering, ended}
use Rattle.rx_exits_plan.specs.Coming.{Into}
use Rattle.rx_exits_plan.specs.Asked.{Asked}
use Rattle.rx_exits_plan.specs.Plan.{Plan}
use Rattle.rx_exits_plan.specs.Unreachable.{SomeComes, At, Unreachable, not_begun}
use Rattle.rx_exits_plan.specs.Unreachable as unreachable
use Rattle.rx_exits_plan.proofs.Coming.{goes_on}
use Rattle.rx_modes_policy.specs.declared.uses.Mode.{Mode}
use Rattle.rx_meaning_keeping.proofs.Parts.{parted}
use Rattle.rx_engine_simulation.specs.Turns.{Allowance}
use Rattle.rx_engine_simulation.specs.Sights.{Sight, Renaming, sight_of}
use Rattle.rx_engine_simulation.specs.Places.{IsDirect}
use Rattle.rx_engine_simulation.specs.Jumps.{Jumping}
use Rattle.rx_engine_simulation.specs.Blocks.{Stretch, before, with_locals}
use Rattle.rx_engine_simulation.specs.Packing.{Way, Gives}
use Rattle.rx_engine_simulation.specs.Statements.{body_of}
use Rattle.rx_engine_related.specs.AboutRun.{special_of}
use Rattle.rx_engine_related.specs.ByForm.{IsItself}
use Rattle.rx_engine_related.specs.Given.{EntersWith}
use Rattle.rx_engine_related.specs.Had.{Had}
use Rattle.rx_engine_related.specs.Moved.{Moved}
use Rattle.rx_engine_related.specs.Leaving.{HaveThere}
use Rattle.rx_engine_related.specs.Running.{passing}
use Rattle.rx_engine_initial.specs.Matching.{Reach, Matches}
use Rattle.rx_engine_initial.specs.Variables.{Kept, Sides, LikeVariable, KnownVariables}
use Rattle.rx_engine_initial.specs.Copies.{world}
use Rattle.rx_engine_initial_forms.specs.Alike.{AlikeBody}
use Rattle.rx_engine_initial_forms.specs.Agreeing.{Agrees}
use Rattle.rx_engine_initial_forms.specs.Following.{AgreesOnLoops}
use Rattle.rx_engine_initial.specs.Planned.{IsTextOf}
use Rattle.rx_engine_initial.proofs.Tracing.{nil_right}
use Rattle.rx_engine_initial.proofs.Functions.{initialised_so}
use Rattle.rx_engine_initial_calls.proofs.Reached.{some_or_none}
use Rattle.rx_engine_initial_calls.proofs.Reaching.{within, rest_of, from_entry}
use Rattle.rx_engine_initial_related.specs.AlsoMarked.{AlsoMarkedStretch, done_too, does_too, begins_too, binds_too}
use Rattle.rx_engine_initial_related.specs.Moving.{LeavesBy, StretchMoves, stretch_of}
use Rattle.rx_engine_initial_related.proofs.MovedTrees.{also_marked, also_matched}
use Rattle.rx_engine_initial_related.proofs.MovedRuns.{entered_function_matches, gives_what_is_handed_out}
use Rattle.rx_engine_initial_related.proofs.Widening.{comes_in}

stretch_before : (ss : List Statement) (b : Body) → block.before ss b ≡ before (stretch_of ss) b
stretch_before [] b = refl
stretch_before (block.does e ∷ ss) b = ap (λ c. tree.runs e c) (stretch_before ss b)
stretch_before (block.begins s xs ∷ ss) b = ap (λ c. tree.declares s xs c) (stretch_before ss b)
stretch_before (block.binds s p c ∷ ss) b = ap (λ d. tree.lets s p c d) (stretch_before ss b)

pub stretch_marked : (ls : List ℕ) (ss : List Statement) → AlsoMarkedStretch (stretch_of (map (changed_statement (passing ls)) ss)) (stretch_of (map (changed_statement (marking ls)) ss))
stretch_marked ls [] = done_too
stretch_marked ls (block.does e ∷ ss) = does_too (also_marked ls e) (stretch_marked ls ss)
stretch_marked ls (block.begins s xs ∷ ss) = begins_too (stretch_marked ls ss)
stretch_marked ls (block.binds s p c ∷ ss) = binds_too (also_matched ls c) (stretch_marked ls ss)

pub no_kept : {A : Type 0} {c : Kept} → Among c [] → A
no_kept i = elim i [ ]

abbrev pub nothing_known : (S : Sides) → KnownVariables S
nothing_known S = record { variables = []; loops = []; one_there = λ x y z i j. no_kept i; one_here = λ x y z i j. no_kept i; apart = λ x y i j. no_kept i; alike = λ x y i. no_kept i }

reached_part : (S : Sides) (q : Order) (w : List Action) → Into q (order_function S.text) w → Reach (world S) q w
reached_part S q w i us o h = ([], stopped, subst (λ l. Walk (order_function S.text) l stopped) (sym (nil_right (w ++ us))) (goes_on i us (stops h)))

run_comes : (A : Asked) → ((q : At) → Unreachable A q → ⊥) → SomeComes A enters
run_comes A f = by (some_or_none A enters)
  where
    by : SomeComes A enters ⊎ (SomeComes A enters → ⊥) → SomeComes A enters
    by (inl c) = c
    by (inr n) = absurd (f unreachable.first (not_begun n))

-- where its body is alike what follows the run's entry
pub entered_function_initialised : (S : Sides) (A : Asked) (k : Plan) → Had A S.muts_there k → IsItself (Some (Some A.function)) → ((q : At) → Unreachable A q → ⊥) → Sized S.frame.declared S.frame.sizes → Sized S.frame_there.declared S.frame_there.sizes
    → IsTextOf S A k → Initialised S.frame_there S.muts_there S.text
    → {again : Bool} {modes : List Mode} {R Ra : Renaming} {es : Operands} {ps : List Parameter} {ls : List (ℕ × ℕ)} → EntersWith again k modes R es ps ls Ra → ((x : ℕ) (e : Sight) → sight_of Ra x ≡ Some e → IsDirect e.how → LikeVariable S e.to x)
    → (J : Jumping) → J.loops ≡ [] → (b' : Body) → ((T : KnownVariables S) → Agrees S Ra T → AgreesOnLoops S J T → AlikeBody S T b' (before (stretch_of (within A)) (tree.runs (mark (leaves next)) (rest_of A))))
    → (f : Function) (mb : Mark) → f.params ≡ ps → f.body ≡ tree.block mb (with_locals ls b') → Initialised S.frame S.muts f
entered_function_initialised S A k had self reached sized sized_there text initialised given types J none b' h f mb params body =
    let z = comes_in A k had.unmarked had.sits had.one_block (run_comes A reached) in
    let same : from_entry A ≡ before (stretch_of (within A)) (tree.runs (mark (leaves next)) (rest_of A)) = stretch_before (within A) (block.before (ended A.run.tail) (rest_of A)) ∙ ap (λ t. before (stretch_of (within A)) (block.before (ended t) (rest_of A))) had.short in
    initialised_so S (parted S.frame sized) (parted S.frame_there sized_there) initialised (nothing_known S) refl f (order_body (block.before (entering k.params) (from_entry A)) A.run.block z.to) z.front
    (reached_part S (order_body (block.before (entering k.params) (from_entry A)) A.run.block z.to) z.front (subst (λ (h : Function). Into (order_body (block.before (entering k.params) (from_entry A)) A.run.block z.to) (order_function h) z.front) (sym text.text) z.into))
    (subst (λ b. Matches (world S) (nothing_known S) (order_function f) (order_body (block.before (entering k.params) b) A.run.block z.to)) (sym same)
    (entered_function_matches S A k had self sized sized_there text initialised given types J none b' (before (stretch_of (within A)) (tree.runs (mark (leaves next)) (rest_of A))) h (nothing_known S) refl refl f mb params body A.run.block z.to))

pub new_function_initialised : (S : Sides) (A : Asked) (k : Plan) → Had A S.muts_there k → IsItself (Some (Some A.function)) → ((q : At) → Unreachable A q → ⊥) → Sized S.frame.declared S.frame.sizes → Sized S.frame_there.declared S.frame_there.sizes
    → IsTextOf S A k → Initialised S.frame_there S.muts_there S.text → Among next k.exits
    → {again : Bool} {modes : List Mode} {R Ra Rb : Renaming} {es : Operands} {ps : List Parameter} {ls : List (ℕ × ℕ)} → EntersWith again k modes R es ps ls Ra → ((x : ℕ) (e : Sight) → sight_of Ra x ≡ Some e → IsDirect e.how → LikeVariable S e.to x)
    → {items : ℕ → ℕ} {gain : Allowance} {U : List ℕ} {J : Jumping} {q : Stretch} (m : Moved items gain U (special_of A S.muts_there k) J Ra (stretch_of (map (changed_statement (passing A.home.around.loops)) (inside A.run A.home.body))) q Rb)
    → StretchMoves S m → LeavesBy k J → J.loops ≡ [] → {w : Way} {zs : List ℕ} {g : Exp} → HaveThere Rb (k.outs next) zs → Gives w zs g → (f : Function) (mb mg : Mark) → f.params ≡ ps → f.body ≡ body_of mb ls q (tree.ends (tree.give mg g))
    → Initialised S.frame S.muts f
new_function_initialised S A k had self reached sized sized_there text initialised nexts given types {J = J} {q = q} m s v none {g = g} have gives f mb mg params body =
    entered_function_initialised S A k had self reached sized sized_there text initialised given types J none (before q (tree.ends (tree.give mg g)))
    (λ T a j. gives_what_is_handed_out S A k had self sized sized_there text nexts m s v (stretch_marked A.home.around.loops (inside A.run A.home.body)) have gives mg (rest_of A) T a j) f mb params body
