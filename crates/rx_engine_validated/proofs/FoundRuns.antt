-- What is told of a run in an answer that is found to be its extraction, where the run holds its block's tail and where it doesn't.
use Rattle.std.proofs.Common.{◌≡◌, ℕ, Bool, true, false, List, Option, Some, None, if◌then◌else◌, refl, sym, ap, ◌∙◌, subst}
use Rattle.rx_tree.specs.Plain.{ProgramTree}
use Rattle.rx_typed.specs.PlainTypes.{declarations}
use Rattle.rx_typeck_typed.specs.declared.typed.Typed.{Typed}
use Rattle.rx_lower_walks.specs.Walks.{Among}
use Rattle.rx_exits_plan.specs.Blocks.{tail, written_tail}
use Rattle.rx_exits_plan.specs.Points.{next}
use Rattle.rx_exits_plan.specs.Asked.{Asked}
use Rattle.rx_exits_plan.specs.Plan.{Plan, handed_value}
use Rattle.rx_machine.specs.Functions.{program_of}
use Rattle.rx_engine_related.specs.AboutRun.{special_of}
use Rattle.rx_engine_related.specs.Had.{Had}
use Rattle.rx_engine_related.specs.ExtractsTail.{HadTail}
use Rattle.rx_engine_validated.specs.AskedOf.{asked_of}
use Rattle.rx_engine_validated.specs.Telling.{NeverRuns, ToldOf, NeverRunsWhole, with_value, ToldOfTail}
use Rattle.rx_engine_validated.specs.Found.{IsFound}

module _ {p q : ProgramTree} {t u : Typed} {main other : ℕ} (x : IsFound p q t u main other) where
  abbrev pub asked_in : Asked
  asked_in = asked_of (declarations t.decls.items) x.front.parts x.function x.told.run x.home

  -- the end is an exit of what is told, or isn't
  abbrev NoEnd : Plan → Type 0
  NoEnd k = Among next k.exits → ⊥

  elsewhere_in : x.told.elsewhere ≡ special_of asked_in x.told.muts x.told.plan
  elsewhere_in = x.elsewhere ∙ ap (λ k. special_of asked_in x.function.mutable k) (sym x.told_plan) ∙ ap (λ l. special_of asked_in l x.told.plan) (sym x.muts)

  -- ---- without its block's tail it has no value

  no_value : x.told.run.tail ≡ false → x.plan.value ≡ None
  no_value short = x.is_plan.value ∙ ap (λ (b : Bool). handed_value (if b then Some (written_tail x.told.run.block (tail x.home.body)) else None)) short

  plan_same : x.told.run.tail ≡ false → x.plan ≡ x.told.plan
  plan_same short = ap (λ v. with_value v x.plan) (no_value short) ∙ sym x.told_plan

  pub had_in : x.told.run.tail ≡ false → Had asked_in x.function.mutable x.plan → Had asked_in x.told.muts x.told.plan
  had_in short had = subst (λ (l : List Bool). Had asked_in l x.told.plan) (sym x.muts) (subst (λ k. Had asked_in x.function.mutable k) (plan_same short) had)

  pub told_in : Had asked_in x.told.muts x.told.plan → (NoEnd x.plan → NeverRuns asked_in) → ToldOf asked_in x.told x.item x.made (program_of t main) (program_of u other)
  told_in had never = record {
    run = refl;
    around = x.around;
    elsewhere = elsewhere_in;
    had = had;
    never = subst (λ k. NoEnd k → NeverRuns asked_in) (sym x.told_plan) never;
    is_there = x.is_there;
    items = x.items;
    new_is_there = x.new_is_there;
    apart = x.apart;
  }

  -- ---- with it

  pub plan_again : x.plan ≡ with_value x.plan.value x.told.plan
  plan_again = ap (λ k. with_value x.plan.value k) (sym x.told_plan)

  pub had_tail_in : HadTail asked_in x.function.mutable x.plan → HadTail asked_in x.told.muts (with_value x.plan.value x.told.plan)
  had_tail_in had = subst (λ (l : List Bool). HadTail asked_in l (with_value x.plan.value x.told.plan)) (sym x.muts) (subst (λ k. HadTail asked_in x.function.mutable k) plan_again had)

  pub told_tail_in : HadTail asked_in x.told.muts (with_value x.plan.value x.told.plan) → (NoEnd x.plan → NeverRunsWhole asked_in)
      → ToldOfTail asked_in x.told x.plan.value x.item x.made (program_of t main) (program_of u other)
  told_tail_in had never = record {
    run = refl;
    around = x.around;
    elsewhere = elsewhere_in;
    had = had;
    never = subst (λ k. NoEnd k → NeverRunsWhole asked_in) (sym x.told_plan) never;
    is_there = x.is_there;
    items = x.items;
    new_is_there = x.new_is_there;
    apart = x.apart;
  }
