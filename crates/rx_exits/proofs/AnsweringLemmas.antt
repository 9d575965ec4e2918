-- The answers: a plan to go by, or the first variable that refuses it.
use Rattle.std.proofs.Common.{◌≡◌, ℕ, List, map, sym, ap, ◌∙◌, subst}
use Rattle.rx_lower_walks.specs.Walks.{Among}
use Rattle.rx_exits_plan.specs.declared.plan.ExitOuts.{ExitOuts}
use Rattle.rx_exits_plan.specs.Asked.{Asked}
use Rattle.rx_exits_plan.specs.Exits.{Jump}
use Rattle.rx_exits_plan.specs.Plan.{variables_of}
use Rattle.rx_exits_plan.specs.PlainPlan.{plain-Exit, outs_in, plan_of}
use Rattle.rx_exits_plan.specs.MixedInit.{MixedInit}
use Rattle.rx_exits_plan.specs.PartlyMoved.{PartlyMoved}
use Rattle.rx_exits_plan.specs.Shadowed.{Shadowed}
use Rattle.rx_modes_uses.specs.First.{First}
use Rattle.rx_exits_plan.specs.PlainSyntax.{plain-Jump}
use Rattle.rx_exits.specs.declared.facts.Facts.{Facts}
use Rattle.rx_exits.specs.declared.planning.Planned.{Planned}
use Rattle.rx_exits.specs.Planning.{IsFacts, IsPlanned, OutsAgree}
use Rattle.rx_exits.specs.Refusing as refusing
use Rattle.rx_exits.specs.Refusing.{same_name, NoneMixed, NonePartly, Answers}
use Rattle.rx_exits.specs.Telling.{IsMixed, IsPartly, IsShadowed}
use Rattle.rx_exits.proofs.RefusingLemmas.{first_map, mixed_to, mixed_from, none_mixed, partly_to, partly_from, none_partly, shadowed_to, shadowed_from, none_shadowed}

pub mixed_found : (A : Asked) (f : Facts) (foreign all : List ℕ) (x : ℕ) → IsFacts A f → foreign ≡ f.variables.foreign → all ≡ f.variables.all
    → First (λ y. IsMixed A foreign y) all x → First (MixedInit A) (variables_of A) x
mixed_found A f foreign all x F fo a h =
    first_map (λ y. IsMixed A foreign y) (MixedInit A) (variables_of A) x (λ y. mixed_to A foreign y (fo ∙ F.foreign)) (λ y. mixed_from A foreign y (fo ∙ F.foreign))
    (subst (λ l. First (λ y. IsMixed A foreign y) l x) (a ∙ F.all) h)

pub mixed_none : (A : Asked) (f : Facts) (foreign all : List ℕ) → IsFacts A f → foreign ≡ f.variables.foreign → all ≡ f.variables.all
    → ((x : ℕ) → Among x all → ¬ (IsMixed A foreign x)) → NoneMixed A
mixed_none A f foreign all F fo a h = none_mixed A foreign (fo ∙ F.foreign) (λ x i. h x (subst (λ l. Among x l) (sym (a ∙ F.all)) i))

module _ (A : Asked) (f : Facts) (p : Planned) (es : List ExitOuts) (F : IsFacts A f) (P : IsPlanned A p) (e : es ≡ p.plan.exits) where
  exits_same : (plan_of A p.plan).exits ≡ map (λ (x : ExitOuts). plain-Exit x.exit) es
  exits_same = ap (map (λ (x : ExitOuts). plain-Exit x.exit)) (sym e)

  outs_same : (plan_of A p.plan).outs ≡ outs_in es
  outs_same = ap outs_in (sym e)

  agree : OutsAgree es
  agree = subst OutsAgree (sym e) P.agree

  pub partly_found : (foreign all : List ℕ) (x : ℕ) → NoneMixed A → foreign ≡ f.variables.foreign → all ≡ f.variables.all
      → First (λ y. IsPartly A foreign es y) all x → refusing.IsPartly A x
  partly_found foreign all x none fo a h = record {
    mixed = none;
    plan = plan_of A p.plan;
    is_plan = P.plan.plan;
    first = first_map (λ y. IsPartly A foreign es y) (PartlyMoved A (plan_of A p.plan)) (variables_of A) x
        (λ y. partly_to A (plan_of A p.plan) foreign es y (fo ∙ F.foreign) none exits_same outs_same agree)
        (λ y. partly_from A (plan_of A p.plan) foreign es y (fo ∙ F.foreign) exits_same outs_same agree)
        (subst (λ l. First (λ y. IsPartly A foreign es y) l x) (a ∙ F.all) h);
  }

  pub partly_none : (foreign all : List ℕ) → foreign ≡ f.variables.foreign → all ≡ f.variables.all
      → ((x : ℕ) → Among x all → ¬ (IsPartly A foreign es x)) → NonePartly A (plan_of A p.plan)
  partly_none foreign all fo a h =
      none_partly A (plan_of A p.plan) foreign es P.plan.plan (fo ∙ F.foreign) exits_same outs_same agree (λ x i. h x (subst (λ l. Among x l) (sym (a ∙ F.all)) i))

  pub shadowed_found : (names : List (List ℕ)) (js : List Jump) (end all : List ℕ) (x : ℕ) → NoneMixed A → NonePartly A (plan_of A p.plan)
      → js ≡ map plain-Jump f.jumps → end ≡ f.end → all ≡ f.variables.all
      → First (λ y. IsShadowed names es js end y) all x → refusing.IsShadowed A (same_name names) x
  shadowed_found names js end all x none partly j n a h = record {
    mixed = none;
    plan = plan_of A p.plan;
    is_plan = P.plan.plan;
    partly = partly;
    first = first_map (λ y. IsShadowed names es js end y) (Shadowed A (plan_of A p.plan) (same_name names)) (variables_of A) x
        (λ y. shadowed_to A (plan_of A p.plan) names es js end y exits_same outs_same (j ∙ F.jumps) (n ∙ F.end))
        (λ y. shadowed_from A (plan_of A p.plan) names es js end y outs_same (j ∙ F.jumps) (n ∙ F.end))
        (subst (λ l. First (λ y. IsShadowed names es js end y) l x) (a ∙ F.all) h);
  }

  pub answered : (names : List (List ℕ)) (js : List Jump) (end all : List ℕ) → NoneMixed A → NonePartly A (plan_of A p.plan)
      → js ≡ map plain-Jump f.jumps → end ≡ f.end → all ≡ f.variables.all
      → ((x : ℕ) → Among x all → ¬ (IsShadowed names es js end x)) → Answers A (same_name names) p
  answered names js end all none partly j n a h = record {
    plan = P.plan;
    living = P.living;
    mixed = none;
    partly = partly;
    shadowed = none_shadowed A (plan_of A p.plan) names es js end P.plan.plan exits_same outs_same (j ∙ F.jumps) (n ∙ F.end) (λ x i. h x (subst (λ l. Among x l) (sym (a ∙ F.all)) i));
    agree = P.agree;
  }
