-- By the laws of plans by names: the case's plan is one of its function, and its lifetime positions are few.
use Rattle.std.proofs.Common.{ℕ, ◌+◌, ◌≤◌, ◌^◌, Bool, length, refl, ap, ◌∙◌, arith}
use Rattle.std.specs.Option.{is_some}
use Rattle.rx_hoist_extraction.specs.NewFunction.{copied_lifetimes, signature_positions}
use Rattle.rx_hoist_naming.specs.NamedPlan.{value_if, last_number}
use Rattle.rx_engine_extraction.specs.Case.{asked}
use Rattle.rx_engine_extraction.specs.Made.{run_of, told, named}
use Rattle.rx_engine_extraction.specs.Meeting.{parts_of}
use Rattle.rx_engine_extraction.proofs.Worded.{function_among, no_value}
use Rattle.rx_engine_extraction.proofs.laws.plans_are_formed.Goals as goal

few_positions : (copied own : ℕ) → copied + own ≤ 128 → own ≤ 2 ^ 32
few_positions copied own h = omega (arith, h)

pub returns-clause-formed : goal.returns-clause-formed
returns-clause-formed c = λ T bytes names lexed parsed short meant typed w d selects word seated listed agree few.
    c.named_plans_are_formed.ensures (told T w d) bytes names T.types lexed parsed short meant typed refl (function_among T.types.functions d.run.function d.function seated.function) word (asked T d) seated.sits listed agree
    (few_positions (length (copied_lifetimes (parts_of T w d))) (signature_positions T.program (named T w d)) few)

pub returns-clause-value : goal.returns-clause-value
returns-clause-value c = λ T w d selects listed s f at past.
    let tail = c.tails_go_past.ensures T.program T.length T.tokens w.start w.end d.run selects s f at (run_of d.run).span (named T w d).pins (run_of d.run) refl refl past in
    ap (λ (b : Bool). value_if b d.function (last_number (told T w d))) (listed.value ∙ ap is_some (no_value T.program d.run d.home.body tail))
