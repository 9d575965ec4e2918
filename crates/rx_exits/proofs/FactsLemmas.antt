-- What is told of the run and the block that are asked of.
use Rattle.std.proofs.Common.{◌≡◌, ℕ, List, map, Result, Ok, IfOk, sym, ap, ◌∙◌, subst}
use Rattle.std.specs.declared.alloc.AllocError.{AllocError}
use Rattle.rx_exits_plan.specs.Runs.{Run, Home}
use Rattle.rx_exits_plan.specs.Asked.{Asked, IsParam, IsLocal}
use Rattle.rx_exits_plan.specs.Plan.{Chosen, foreign_of}
use Rattle.rx_exits.specs.Living.{IsLiving}
use Rattle.rx_exits.specs.declared.run_living.RunLiving.{RunLiving}
use Rattle.rx_exits_plan.specs.Exits as plan
use Rattle.rx_exits_plan.specs.Exits.{at_end}
use Rattle.rx_exits_plan.specs.Occurrences.{variables_of_run, foreign, those, is_direct, is_named_behind}
use Rattle.rx_exits_plan.specs.declared.plan.Exit.{Exit}
use Rattle.rx_exits_plan.specs.PlainPlan.{plain-Exit}
use Rattle.rx_exits_jumps.specs.ExitsBy.{exits_by}
use Rattle.rx_exits_plan.specs.declared.parts.Jump.{Jump}
use Rattle.rx_exits_plan.specs.PlainSyntax.{plain-Jump}
use Rattle.rx_exits_occurrences.specs.declared.naming.Variables.{Variables}
use Rattle.rx_exits.specs.declared.facts.Facts.{Facts}
use Rattle.rx_exits.specs.Planning.{IsFacts, IsEntry}

pub at_asked : {T : Type 0} (F : Run → Home → T) (A : Asked) (r : Run) (h : Home) → A.run ≡ r → A.home ≡ h → F r h ≡ F A.run A.home
at_asked F A r h run home = ap (λ (x : Run). F x h) (sym run) ∙ ap (λ (x : Home). F A.run x) (sym home)

pub of_ok : {T : Type 0} (P : T → Type 0) (r : Result T AllocError) (a : T) → r ≡ Ok a → IfOk r P → P a
of_ok {T = T} P r a e h = subst (λ (s : Result T AllocError). IfOk s P) e h

pub facts_are : (A : Asked) (r : Run) (h : Home) (v : Variables) (js : Result (List Jump) AllocError) (es : Result (List ℕ) AllocError) (f : Facts)
    → A.run ≡ r → A.home ≡ h → f.variables ≡ v → js ≡ Ok f.jumps → es ≡ Ok f.end
    → v.all ≡ variables_of_run r h.body → v.foreign ≡ foreign r h.body
    → v.direct ≡ those (is_direct r h.body) (variables_of_run r h.body) → v.behind ≡ those (is_named_behind r h.body) (variables_of_run r h.body)
    → IfOk js (λ (l : List Jump). map plain-Jump l ≡ plan.jumps r h) → IfOk es (λ (l : List ℕ). l ≡ (at_end r h).scope) → IsFacts A f
facts_are A r h v js es f run home fv fj fe all out direct behind jumps end = record {
  all = ap (λ (w : Variables). w.all) fv ∙ all ∙ at_asked (λ x y. variables_of_run x y.body) A r h run home;
  foreign = ap (λ (w : Variables). w.foreign) fv ∙ out ∙ at_asked (λ x y. foreign x y.body) A r h run home;
  direct = ap (λ (w : Variables). w.direct) fv ∙ direct ∙ at_asked (λ x y. those (is_direct x y.body) (variables_of_run x y.body)) A r h run home;
  behind = ap (λ (w : Variables). w.behind) fv ∙ behind ∙ at_asked (λ x y. those (is_named_behind x y.body) (variables_of_run x y.body)) A r h run home;
  jumps = of_ok (λ (l : List Jump). map plain-Jump l ≡ plan.jumps r h) js f.jumps fj jumps ∙ at_asked plan.jumps A r h run home;
  end = of_ok (λ (l : List ℕ). l ≡ (at_end r h).scope) es f.end fe end ∙ at_asked (λ x y. (at_end x y).scope) A r h run home;
}

pub entry_is : (A : Asked) (f : Facts) (fo : List ℕ) (ps ls : Result (List ℕ) AllocError) (e k : List ℕ × List ℕ) → IsFacts A f → fo ≡ f.variables.foreign
    → ps ≡ Ok e.0 → ls ≡ Ok e.1 → k ≡ e → IfOk ps (λ (l : List ℕ). Chosen (IsParam A) fo l) → IfOk ls (λ (l : List ℕ). Chosen (IsLocal A) fo l) → IsEntry A k.0 k.1
entry_is A f fo ps ls e k F fo_is pe le same params locals = record {
  params = subst (λ (d : List ℕ × List ℕ). Chosen (IsParam A) (foreign_of A) d.0) (sym same) (subst (λ l. Chosen (IsParam A) l e.0) (fo_is ∙ F.foreign) (of_ok (λ (l : List ℕ). Chosen (IsParam A) fo l) ps e.0 pe params));
  locals = subst (λ (d : List ℕ × List ℕ). Chosen (IsLocal A) (foreign_of A) d.1) (sym same) (subst (λ l. Chosen (IsLocal A) l e.1) (fo_is ∙ F.foreign) (of_ok (λ (l : List ℕ). Chosen (IsLocal A) fo l) ls e.1 le locals));
}

pub living_is : (A : Asked) (params : List ℕ) (e k : List ℕ × List ℕ) (r : Result RunLiving AllocError) (living : RunLiving) → params ≡ e.0 → k ≡ e → r ≡ Ok living
    → IfOk r (λ (l : RunLiving). IsLiving A params l) → IsLiving A k.0 living
living_is A params e k r living ps same is h =
    subst (λ l. IsLiving A l living) (ps ∙ ap (λ (d : List ℕ × List ℕ). d.0) (sym same)) (of_ok (λ (l : RunLiving). IsLiving A params l) r living is h)

-- the exits that are found are those of the run
pub exits_found : (A : Asked) (r : Run) (h : Home) (js known : List Jump) (found : Result (List Exit) AllocError) (all listed : List Exit)
    → A.run ≡ r → A.home ≡ h → js ≡ known → map plain-Jump known ≡ plan.jumps A.run A.home → found ≡ Ok all → listed ≡ all
    → IfOk found (λ (l : List Exit). map plain-Exit l ≡ exits_by (map plain-Jump js) r h) → map plain-Exit listed ≡ plan.exits A.run A.home
exits_found A r h js known found all listed run home js_is jumps_are is same told =
    ap (map plain-Exit) same ∙ of_ok (λ (l : List Exit). map plain-Exit l ≡ exits_by (map plain-Jump js) r h) found all is told
    ∙ at_asked (λ x y. exits_by (map plain-Jump js) x y) A r h run home
    ∙ ap (λ l. exits_by l A.run A.home) (ap (map plain-Jump) js_is ∙ jumps_are)
