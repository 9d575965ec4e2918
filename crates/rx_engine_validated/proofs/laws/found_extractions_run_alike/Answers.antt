use Rattle.std.proofs.Common.{◌≡◌, ◌*◌, ℕ, ℤ, List, Bool, true, false, refl, sym, ap, ◌∙◌, subst}
use Rattle.rx_tree.specs.Plain.{ProgramTree}
use Rattle.rx_typeck_typed.specs.declared.typed.Typed.{Typed}
use Rattle.rx_lower_walks.specs.Walks.{Among}
use Rattle.rx_exits_plan.specs.Points.{next, leaves}
use Rattle.rx_meaning.specs.Acting.{plainly}
use Rattle.rx_meaning.specs.Programs.{Program, run_by, outcome_of, ending_of, run, UpTo}
use Rattle.rx_machine.specs.Functions.{program_of}
use Rattle.rx_engine_validated.specs.Stretches.{all_in_front}
use Rattle.rx_engine_validated.specs.Telling.{with_value}
use Rattle.rx_engine_validated.specs.Undropped.{Undropped, as_it_is, undropped}
use Rattle.rx_engine_validated.specs.Found.{IsFound}
use Rattle.rx_engine_validated.proofs.FoundRuns.{asked_in, had_in, told_in, had_tail_in, told_tail_in}
use Rattle.rx_engine_validated.proofs.laws.found_extractions_run_alike.Goals as goal

pub returns-clause-answer : goal.returns-clause-answer
returns-clause-answer c = λ p q t u main other x given n. by p q t u main other x given n x.told.run.tail refl
  where
    same : (p q : ProgramTree) (t u : Typed) (main other : ℕ) (x : IsFound p q t u main other) (R : Program) → Undropped x.told (program_of u other) R → (given : List ℤ) (n : ℕ) → run_by plainly R given n ≡ run_by plainly (program_of u other) given n
    same p q t u main other x _ as_it_is given n = refl
    same p q t u main other x R (undropped unit drops) given n = c.dropped_units_run_so.ensures q u x.few_there x.accepted other x.told.new.number (x.unit unit) R drops given n

    by : (p q : ProgramTree) (t u : Typed) (main other : ℕ) (x : IsFound p q t u main other) (given : List ℤ) (n : ℕ) (b : Bool) → x.told.run.tail ≡ b
        → UpTo (run (program_of u other) given n) (run (program_of t main) given n)
    by p q t u main other x given n false short =
        let had = had_in x short (c.accepted_runs_are_had.ensures p t x.few x.front x.function x.among x.told.run x.home x.sits short x.plan x.is_plan x.kept) in
        c.extracted_programs_run_alike.ensures.answer (asked_in x) x.told.muts x.told.plan had x.told.modes (program_of t main) (program_of u other)
        (c.found_extractions_are_extractions.ensures (asked_in x) x.told x.item x.made (program_of t main) (program_of u other) (told_in x had
        (λ none. c.diverging_runs_never_end.ensures.marked p t x.few x.front x.function x.among x.told.run x.home x.sits short
        (c.runs_without_an_end_diverge.ensures x.told.run x.home (subst (λ l. Among next l → ⊥) x.is_plan.exits none)) x.home.around.loops _ _ all_in_front)) x.found)
        (c.accepted_programs_are_themselves.ensures p t x.few x.front main) given n (c.accepted_runs_find_references.ensures q u x.few_there x.accepted other given n)
    by p q t u main other x given n true whole =
        let had = had_tail_in x (c.accepted_tails_are_had.ensures p t x.few x.front x.function x.among x.told.run x.home x.sits whole x.plan x.is_plan x.kept) in
        let found = (c.found_tail_extractions_are_extractions.ensures (asked_in x) x.told x.plan.value x.item x.made (program_of t main) (program_of u other) (told_tail_in x had
        (λ none. c.diverging_tails_never_end.ensures p t x.few x.front x.function x.among x.told.run x.home x.sits whole
        (c.runs_without_an_end_diverge.ensures x.told.run x.home (subst (λ l. Among next l → ⊥) x.is_plan.exits none)) x.home.around.loops (leaves next))) x.found) in
        let runs = same p q t u main other x found.0 found.1 given n in
        subst (λ o. UpTo o (run (program_of t main) given n)) (ap outcome_of runs)
        (c.extracted_tails_run_alike.ensures.answer (asked_in x) x.told.muts (with_value x.plan.value x.told.plan) had x.told.modes (program_of t main) found.0 found.2
        (c.accepted_programs_are_themselves.ensures p t x.few x.front main) given n (λ e. c.accepted_runs_find_references.ensures q u x.few_there x.accepted other given n (ap ending_of (sym runs) ∙ e)))

pub returns-clause-text : goal.returns-clause-text
returns-clause-text c = λ p q t u main other x given n. by p q t u main other x given n x.told.run.tail refl
  where
    same : (p q : ProgramTree) (t u : Typed) (main other : ℕ) (x : IsFound p q t u main other) (R : Program) → Undropped x.told (program_of u other) R → (given : List ℤ) (n : ℕ) → run_by plainly R given n ≡ run_by plainly (program_of u other) given n
    same p q t u main other x _ as_it_is given n = refl
    same p q t u main other x R (undropped unit drops) given n = c.dropped_units_run_so.ensures q u x.few_there x.accepted other x.told.new.number (x.unit unit) R drops given n

    by : (p q : ProgramTree) (t u : Typed) (main other : ℕ) (x : IsFound p q t u main other) (given : List ℤ) (n : ℕ) (b : Bool) → x.told.run.tail ≡ b
        → UpTo (run (program_of t main) given n) (run (program_of u other) given (2 * n))
    by p q t u main other x given n false short =
        let had = had_in x short (c.accepted_runs_are_had.ensures p t x.few x.front x.function x.among x.told.run x.home x.sits short x.plan x.is_plan x.kept) in
        c.extracted_programs_run_alike.ensures.text (asked_in x) x.told.muts x.told.plan had x.told.modes (program_of t main) (program_of u other)
        (c.found_extractions_are_extractions.ensures (asked_in x) x.told x.item x.made (program_of t main) (program_of u other) (told_in x had
        (λ none. c.diverging_runs_never_end.ensures.marked p t x.few x.front x.function x.among x.told.run x.home x.sits short
        (c.runs_without_an_end_diverge.ensures x.told.run x.home (subst (λ l. Among next l → ⊥) x.is_plan.exits none)) x.home.around.loops _ _ all_in_front)) x.found)
        (c.accepted_programs_are_themselves.ensures p t x.few x.front main) given n (c.accepted_runs_find_references.ensures q u x.few_there x.accepted other given (2 * n))
    by p q t u main other x given n true whole =
        let had = had_tail_in x (c.accepted_tails_are_had.ensures p t x.few x.front x.function x.among x.told.run x.home x.sits whole x.plan x.is_plan x.kept) in
        let found = (c.found_tail_extractions_are_extractions.ensures (asked_in x) x.told x.plan.value x.item x.made (program_of t main) (program_of u other) (told_tail_in x had
        (λ none. c.diverging_tails_never_end.ensures p t x.few x.front x.function x.among x.told.run x.home x.sits whole
        (c.runs_without_an_end_diverge.ensures x.told.run x.home (subst (λ l. Among next l → ⊥) x.is_plan.exits none)) x.home.around.loops (leaves next))) x.found) in
        let runs = same p q t u main other x found.0 found.1 given (2 * n) in
        subst (λ o. UpTo (run (program_of t main) given n) o) (ap outcome_of runs)
        (c.extracted_tails_run_alike.ensures.text (asked_in x) x.told.muts (with_value x.plan.value x.told.plan) had x.told.modes (program_of t main) found.0 found.2
        (c.accepted_programs_are_themselves.ensures p t x.few x.front main) given n (λ e. c.accepted_runs_find_references.ensures q u x.few_there x.accepted other given (2 * n) (ap ending_of (sym runs) ∙ e)))
