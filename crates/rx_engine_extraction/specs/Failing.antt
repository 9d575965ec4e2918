-- When a case fails a condition, and the refusal that tells it (REM, "Extract function").
use Rattle.std.specs.Prelude.{◌≡◌, ◌≢◌, ℕ, ◌≤◌, ◌<◌, ◌^◌, true, false, List, [], ◌∷◌, ◌++◌, length, Option, Some}
use Rattle.rx_core.specs.declared.types.Span.{Span}
use Rattle.rx_core.specs.declared.types.Which.TheVariants as which
use Rattle.rx_tree.specs.Plain.{ProgramTree}
use Rattle.rx_tree.specs.Lists.{statement_span}
use Rattle.rx_tree.specs.Positions.{NodeTree, a_statement, an_expression, node_at}
use Rattle.rx_tree.specs.Spans.{expression_span}
use Rattle.rx_lex.specs.Words.{is_identifier}
use Rattle.rx_typed_runs.specs.declared.runs.RunPos.{RunPos}
use Rattle.rx_select.specs.RunOf.{RunOf}
use Rattle.rx_facts.specs.Functions.{span_of}
use Rattle.rx_exits_plan.specs.MixedInit.{MixedInit}
use Rattle.rx_exits_plan.specs.PartlyMoved.{PartlyMoved}
use Rattle.rx_exits_plan.specs.Plan.{Plan, IsPlan, variables_of}
use Rattle.rx_exits_plan.specs.Shadowed.{Shadowed}
use Rattle.rx_exits_plan.specs.Unreachable.{At, first, last, jump, Unreachable, Endless}
use Rattle.rx_modes_uses.specs.Aliased.{Aliased}
use Rattle.rx_modes_uses.specs.First.{First}
use Rattle.rx_modes_uses.specs.NotMut.{NotMut}
use Rattle.rx_hoist_extraction.specs.Limits.{first_past, count_parameters, count_lifetimes, made_parts}
use Rattle.rx_hoist_naming.specs.NameTest.{is_taken}
use Rattle.rx_hoist_naming.specs.NamesWords.{identifiers}
use Rattle.rx_hoist_made.specs.Counts.{capped}
use Rattle.rx_print_spelling.specs.Items.{print_program}
use Rattle.rx_check.specs.declared.fault.CheckFault.{CheckFault}
use Rattle.rx_check.specs.declared.fault.CheckFault.TheVariants as check_fault
use Rattle.rx_check.specs.Causes.{Causes, PassCauses}
use Rattle.rx_check.specs.declared.loans.LoanFault.TheVariants as loan_fault
use Rattle.rx_lower_lifetimes.specs.declared.whole.LowerFault.TheVariants as lower_fault
use Rattle.rx_engine_extraction.specs.declared.refusal.Refusal.{Refusal}
use Rattle.rx_engine_extraction.specs.declared.refusal.Refusal.TheVariants as refusal
use Rattle.rx_engine_extraction.specs.Source.{Text, Wish}
use Rattle.rx_engine_extraction.specs.Case.{Case, asked}
use Rattle.rx_engine_extraction.specs.Made.{run_of, named, hoisted, extracted}
use Rattle.rx_engine_extraction.specs.Levels.{HasManyLevels}
use Rattle.rx_engine_extraction.specs.Confirmed.{Confirmed}
use Rattle.rx_engine_extraction.specs.Conditions.{Condition, selects, word, unused, reached, left, settled, whole, visible, passable, unmoved, few_parameters, few_lifetimes, few_levels, few_parts, few_numbers, fits, few_sites, few_positions, fits_bounded, known, legal, readable, few_bytes, confirmed}
use Rattle.rx_engine_extraction.specs.Meeting.{most_parameters, most_lifetimes, most_parts, most_sites, most_bytes, Seated, same_name, parts_of, IsUnfit, IsAnswer}

-- ---- places

-- a variable is named where it is declared
abbrev pub named_at : Case → ℕ → Span
named_at d x = span_of d.function.names x

-- a statement, or the tail, of the run's block
abbrev pub span_if : Option NodeTree → Span
span_if (Some (a_statement a)) = statement_span a
span_if (Some (an_expression e)) = expression_span e
span_if _ = record { start = 0; end = 0 }

abbrev pub part_at : Text → Case → ℕ → Span
part_at T d k = span_if (node_at T.program d.run.block.item (d.run.block.path ++ k ∷ []))

abbrev pub place_of : Text → Case → At → Span
place_of T d first = part_at T d d.run.first
place_of T d last = part_at T d d.run.last
place_of T d (jump n) = span_of d.function.spans n

-- ---- which variable

-- the first of the run's of which this holds
abbrev pub FirstOf : Text → Case → (ℕ → Type 0) → ℕ → Type 0
FirstOf T d Q x = First Q (variables_of (asked T d)) x

abbrev pub IsPartlyMoved : Text → Case → ℕ → Type 0
IsPartlyMoved T d x = (k : Plan) × IsPlan (asked T d) k × FirstOf T d (PartlyMoved (asked T d) k) x

-- ---- numbers that pass a limit

-- the graph of a function of the program with the call has so many sites and lifetime positions, and one passes its limit
abbrev pub HasLarge : ProgramTree → ℕ → ℕ → Type 0
HasLarge p s l = (f : ℕ) × PassCauses (check_fault.Lower (lower_fault.TooLarge f s l)) p

-- ---- what fails

abbrev pub Fails : Text → Wish → Case → Condition → Refusal → Type 0
Fails T w d selects r = (r ≡ refusal.NotARun) × ((q : RunPos) → RunOf T.length T.tokens T.program w.start w.end q → ⊥)
Fails T w d word r = (r ≡ refusal.BadName) × (is_identifier w.name ≡ false)
Fails T w d unused r = (r ≡ refusal.NameTaken) × (is_taken (identifiers T.tokens) w.name ≡ true)
Fails T w d reached r = Seated T d.run d.function d.home × (q : At) × (r ≡ refusal.Unreachable (place_of T d q)) × Unreachable (asked T d) q
Fails T w d left r = (r ≡ refusal.Endless) × Endless (asked T d)
Fails T w d settled r = (x : ℕ) × (r ≡ refusal.MixedInit (named_at d x)) × FirstOf T d (MixedInit (asked T d)) x
Fails T w d whole r = (x : ℕ) × (r ≡ refusal.PartlyMoved (named_at d x)) × IsPartlyMoved T d x
Fails T w d visible r = (x : ℕ) × (r ≡ refusal.Shadowed (named_at d x)) × FirstOf T d (Shadowed (asked T d) d.plan (same_name T w d)) x
Fails T w d passable r = (x : ℕ) × (r ≡ refusal.NotMut (named_at d x)) × NotMut (asked T d) d.function.mutable d.plan x
Fails T w d unmoved r = (x : ℕ) × (r ≡ refusal.Aliased (named_at d x)) × Aliased (asked T d) d.function.mutable d.plan x
Fails T w d few_parameters r = let n = count_parameters (named T w d) in (r ≡ refusal.Limit which.Parameters (capped n)) × (most_parameters < n)
Fails T w d few_lifetimes r = let n = count_lifetimes T.program (named T w d) (parts_of T w d) in (r ≡ refusal.Limit which.Lifetimes (capped n)) × (most_lifetimes < n)
Fails T w d few_levels r = (n : ℕ) × (r ≡ refusal.Limit which.Levels (capped n)) × HasManyLevels T.bytes T.tokens T.program (run_of d.run) (named T w d) n
Fails T w d few_parts r = (n : ℕ) × (r ≡ refusal.Limit which.Parts (capped n)) × (first_past most_parts (made_parts T.sizes (named T w d)) ≡ Some n)
Fails T w d few_numbers r = let n = length (print_program (hoisted T w d)) in (r ≡ refusal.Limit which.Bytes n) × (2 ^ 32 ≤ n)
Fails T w d fits r = (e : CheckFault) × (r ≡ refusal.Unfit e) × IsUnfit e × PassCauses e (hoisted T w d)
Fails T w d few_sites r = (s l : ℕ) × (r ≡ refusal.Limit which.Sites s) × (most_sites < s) × HasLarge (hoisted T w d) s l
Fails T w d few_positions r = (s l : ℕ) × (r ≡ refusal.Limit which.Positions l) × (s ≤ most_sites) × HasLarge (hoisted T w d) s l
Fails T w d fits_bounded r = (e : CheckFault) × (r ≡ refusal.Unfit e) × (e ≢ check_fault.OutOfMemory) × PassCauses e (extracted T w d)
Fails T w d known r = (i l k : ℕ) × (r ≡ refusal.Region i l k) × Causes (check_fault.Region i l k) (extracted T w d)
Fails T w d legal r = (a b : Span) × (r ≡ refusal.Loan a b) × Causes (check_fault.Loan (loan_fault.Loan a b)) (extracted T w d)
Fails T w d readable r = (r ≡ refusal.Unconfirmed) × ((text : List ℕ) → IsAnswer T w d text → ⊥)
Fails T w d few_bytes r = (r ≡ refusal.Limit which.Bytes (length d.text)) × (most_bytes < length d.text)
Fails T w d confirmed r = (r ≡ refusal.Unconfirmed) × (Confirmed T w d → ⊥)
