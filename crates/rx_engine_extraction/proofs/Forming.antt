-- What is asked of the program and the run where a run is moved.
use Rattle.std.proofs.Common.{◌≡◌, ◌<◌, ◌≤◌, ◌+◌, ◌^◌, ℕ, zero, suc, true, List, [], ◌∷◌, length, Some, slice_get, refl, sym, ap, subst, ◌∙◌, arith}
use Rattle.rx_core.specs.declared.types.Span.{Span}
use Rattle.rx_tree.specs.Lists.{nth}
use Rattle.rx_hoist.specs.Runs.{is_function}
use Rattle.rx_lex.specs.Tokens.{Lexes}
use Rattle.rx_lex.specs.Words.{is_identifier}
use Rattle.rx_tree.specs.Plain as plain
use Rattle.rx_tree.specs.Plain.{Function, ProgramTree}
use Rattle.rx_parse_grammar.specs.grammar.Items.{Parses}
use Rattle.rx_print_spelling.specs.Formed.{FormedProgram}
use Rattle.rx_resolve_names.specs.declared.resolved.ItemNames.{ItemNames}
use Rattle.rx_typed_runs.specs.declared.runs.RunPos.{RunPos}
use Rattle.rx_resolve_names.specs.Causes.{Meant}
use Rattle.rx_typeck_typed.specs.Typing.{IsTyped}
use Rattle.rx_typeck_typed.specs.declared.typed.TypedFn.{TypedFn}
use Rattle.rx_exits_plan.specs.Runs.{Home}
use Rattle.rx_exits_plan.specs.PlainPlan.{IsExitPlan}
use Rattle.rx_hoist_extraction.specs.Plan.{Plan}
use Rattle.rx_hoist_extraction.specs.Limits.{count_lifetimes}
use Rattle.rx_hoist_naming.specs.Words.{OutsAgree}
use Rattle.rx_hoist_extraction.specs.Extraction.{extraction}
use Rattle.rx_hoist_plan.specs.PlainPlan.{plain-Plan}
use Rattle.rx_engine_extraction.specs.declared.given.Plans.{Plans}
use Rattle.rx_engine_extraction.specs.Source.{Text, Wish}
use Rattle.rx_engine_extraction.specs.Case.{Case, asked}
use Rattle.rx_engine_extraction.specs.Made.{run_of, named, hoisted}
use Rattle.rx_engine_extraction.specs.Meeting.{most_lifetimes, Selects, Seated, parts_of}
use Rattle.rx_engine_extraction.specs.Beginning.{IsChosen}
use Rattle.rx_engine_extraction.specs.Deciding.{case_at, with_plans, IsDecided}
use Rattle.rx_engine_extraction.specs.Moving.{called, lifetimes_in}

pub call_formed : ((T : Text) (bytes : List ℕ) (names : List ItemNames) → Lexes bytes T.tokens → Parses bytes T.program → length bytes < 2 ^ 32 → Meant T.program names → IsTyped T.program names T.types
    → (w : Wish) (d : Case) → Selects T w d → is_identifier w.name ≡ true → Seated T d.run d.function d.home → IsExitPlan (asked T d) d.listed → OutsAgree d.listed.exits
    → count_lifetimes T.program (named T w d) (parts_of T w d) ≤ most_lifetimes → FormedProgram (hoisted T w d))
    → (T : Text) (bytes : List ℕ) (names : List ItemNames) → Lexes bytes T.tokens → Parses bytes T.program → length bytes < 2 ^ 32 → Meant T.program names → IsTyped T.program names T.types
    → (w : Wish) (r : RunPos) (g : TypedFn) (h : Home) (x : Plans) → IsChosen T.tokens T.length T.program w.start w.end w.name r
    → IsDecided T (case_at r g h) w.name w.choice x → lifetimes_in T r (plain-Plan x.named) ≤ most_lifetimes → FormedProgram (called T r (plain-Plan x.named))
call_formed law T bytes names lexed parsed short meant typed w r g h x chosen decided few =
    let d = with_plans T (case_at r g h) x in
    let e = decided.planned.whole.settled.entered in
    subst (λ (k : Plan). FormedProgram (extraction T.program (run_of r) k [])) (sym decided.named)
    (law T bytes names lexed parsed short meant typed w d chosen.run chosen.word e.reached.0 decided.planned.listed decided.planned.agree
    (subst (λ (k : Plan). lifetimes_in T r k ≤ most_lifetimes) decided.named few))

pub got : (p : ProgramTree) (n : ℕ) → slice_get p n ≡ nth p n
got [] n = refl
got (i ∷ is) zero = refl
got (i ∷ is) (suc n) = got is n

pub function_there : (p : ProgramTree) (n : ℕ) (s : Span) (f : Function) → nth p n ≡ Some (plain.function_item s f) → is_function (slice_get p n) ≡ true
function_there p n s f e = ap is_function (got p n ∙ e)

-- its number, and the two behind it
pub few_behind : (n bytes : ℕ) → n < bytes → bytes ≤ 1048576 → n + 2 < 2 ^ 32
few_behind n bytes a b = omega (arith, a, b)
