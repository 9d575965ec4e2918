-- What the readers of a front end give is what is asked of.
use Rattle.std.proofs.Common.{◌≡◌, ℕ, Bool, List, refl, sym, ap, subst, ◌∙◌}
use Rattle.rx_lex.specs.Tok.{toks}
use Rattle.rx_tree.specs.PlainOf.{plain-Program}
use Rattle.rx_typed.specs.PlainTypes.{declarations}
use Rattle.rx_typed_declarations.specs.Sizes.{Sized, told}
use Rattle.rx_typed_runs.specs.declared.runs.RunPos.{RunPos}
use Rattle.rx_typeck_typed.specs.declared.typed.Typed.{Typed}
use Rattle.rx_typeck_typed.specs.declared.typed.TypedFn.{TypedFn}
use Rattle.rx_facts.specs.Functions.{body, frame_of}
use Rattle.rx_exits_plan.specs.Asked.{Asked}
use Rattle.rx_exits_plan.specs.PlainPlan.{plain-Run, plan_of, IsExitPlan}
use Rattle.rx_exits_plan.specs.declared.plan.ExitPlan.{ExitPlan}
use Rattle.rx_exits_plan.specs.PlainSyntax.{plain-Home}
use Rattle.rx_exits.specs.AskedOf.{asked_of}
use Rattle.rx_exits.specs.Points.{IsPoints}
use Rattle.rx_exits.specs.declared.run_points.RunPoints.{RunPoints}
use Rattle.rx_exits.specs.Asking.{IsAskedOf}
use Rattle.rx_modes.specs.Answer as modes
use Rattle.rx_modes.specs.declared.plan.ModeFault.{ModeFault}
use Rattle.rx_modes.specs.declared.plan.ModePlan.{ModePlan}
use Rattle.rx_modes_policy.specs.declared.uses.Mode.{Mode}
use Rattle.rx_modes_policy.specs.declared.uses.Uses.{Uses}
use Rattle.rx_hoist_diverging.specs.Diverging.{diverging}
use Rattle.rx_hoist_extraction.specs.Plan.{Plan}
use Rattle.rx_hoist_nodes.specs.TypedRun.{typed_run}
use Rattle.rx_hoist_naming.specs.NamedPlan.{named_plan}
use Rattle.rx_engine_extraction.specs.declared.given.Given.{Given}
use Rattle.rx_engine_extraction.specs.declared.given.Seat.{Seat}
use Rattle.rx_engine_extraction.specs.Source.{Text}
use Rattle.rx_engine_extraction.specs.Case.{Case, asked}
use Rattle.rx_engine_extraction.specs.Made.{named}
use Rattle.rx_engine_extraction.specs.Deciding.{text_of, case_at, asked_by, wish_by, with_modes}

-- ---- by what a reader of the front end gives

module _ (g : Given) (f : TypedFn) (s : Seat) (t : Typed) (typed : t ≡ g.front.now.typed) (z : List ℕ) (sizes : z ≡ g.front.now.facts.sizes) where
  abbrev there : Asked
  there = asked_of (declarations t.decls.items) (told z) f s.run (plain-Home s.home)

  pub by_parts : there ≡ asked_by g f s
  by_parts = ap (λ (x : Typed). asked_of (declarations x.decls.items) (told z) f s.run (plain-Home s.home)) typed
      ∙ ap (λ (y : List ℕ). asked_of (declarations g.front.now.typed.decls.items) (told y) f s.run (plain-Home s.home)) sizes

  pub sized_there : Sized (declarations g.front.now.typed.decls.items) (told z) → Sized (declarations t.decls.items) (told z)
  sized_there h = subst (λ (x : Typed). Sized (declarations x.decls.items) (told z)) (sym typed) h

  pub listed_there : (k : ExitPlan) → IsExitPlan (asked_by g f s) k → IsExitPlan there k
  listed_there k h = subst (λ B. IsExitPlan B k) (sym by_parts) h

  pub modes_here : (k : ExitPlan) (choice : Uses → Mode) (m : ModePlan) → modes.HasModes there f.mutable (plan_of there k) choice m
      → modes.HasModes (asked_by g f s) f.mutable (plan_of (asked_by g f s) k) choice m
  modes_here k choice m h = subst (λ B. modes.HasModes B f.mutable (plan_of B k) choice m) by_parts h

  pub refused_here : (k : ExitPlan) (e : ModeFault) → modes.IsRefused there f.mutable (plan_of there k) e
      → modes.IsRefused (asked_by g f s) f.mutable (plan_of (asked_by g f s) k) e
  refused_here k e h = subst (λ B. modes.IsRefused B f.mutable (plan_of B k) e) by_parts h

module _ (g : Given) (r : RunPos) (f : TypedFn) (s : Seat) (run : plain-Run s.run ≡ typed_run (plain-Program g.program.now) r) where
  abbrev T : Text
  T = text_of g

  abbrev at : Case
  at = case_at r f (plain-Home s.home)

  abbrev A : Asked
  A = asked T at

  pub same : asked_by g f s ≡ A
  same = ap (λ x. record { function = body f; run = x; home = plain-Home s.home; frame = frame_of (declarations g.front.now.typed.decls.items) (told g.front.now.facts.sizes) f }) run

  pub asked_is : (t : Typed) (typed : t ≡ g.front.now.typed) (z : List ℕ) (sizes : z ≡ g.front.now.facts.sizes) (p : RunPoints)
      → IsPoints (asked_of (declarations t.decls.items) (told z) f s.run (plain-Home s.home)) p → IsAskedOf A s.run s.home p
  asked_is t typed z sizes p h = record { run = sym run; home = refl; points = subst (λ B. IsPoints B p) (by_parts g f s t typed z sizes ∙ same) h }

  -- ---- the plan by names

  abbrev made : List ℕ → ExitPlan → Typed → List ℕ → List ℕ → List Mode → List Bool → Plan
  made name k t ds ls ms vs = named_plan (record {
    tokens = toks g.tokens.now.list;
    program = plain-Program g.program.now;
    declared = declarations t.decls.items;
    function = f;
    diverging = ds;
    run = r;
    loops = ls;
    plan = k;
    modes = ms;
    moved = vs;
    name = name;
  })

  pub named_told : (name : List ℕ) (choice : Uses → Mode) (k : ExitPlan) (m : ModePlan) (t : Typed) (ds ls : List ℕ) (ms : List Mode) (vs : List Bool)
      → t ≡ g.front.now.typed → ds ≡ diverging (body f).body → ls ≡ (plain-Home s.home).around.loops → ms ≡ m.modes → vs ≡ m.moved
      → made name k t ds ls ms vs ≡ named T (wish_by name choice) (with_modes T at k m.modes m.moved)
  named_told name choice k m t ds ls ms vs a b c d e =
      ap (λ x. made name k x ds ls ms vs) a
      ∙ (ap (λ x. made name k g.front.now.typed x ls ms vs) b
      ∙ (ap (λ x. made name k g.front.now.typed (diverging (body f).body) x ms vs) c
      ∙ (ap (λ x. made name k g.front.now.typed (diverging (body f).body) (plain-Home s.home).around.loops x vs) d
      ∙ ap (λ x. made name k g.front.now.typed (diverging (body f).body) (plain-Home s.home).around.loops m.modes x) e)))
