-- Which variables may be elsewhere by a plan: what an exit hands out, and what is declared again, which the run's end does not hand out.
use Rattle.std.proofs.Common.{◌≡◌, inl, inr, ℕ, Bool, true, false, not, ◌&&◌, List, [], ◌∷◌, ◌++◌, refl, sym, subst, true≢false}
use Rattle.rx_lower_walks.specs.Walks.{Among, here, there}
use Rattle.rx_facts_tables.proofs.Fronts.{both_true}
use Rattle.rx_exits_plan.specs.Points.{Exit, next}
use Rattle.rx_exits_plan.specs.Occurrences.{those, has_number, is_direct, is_named_behind}
use Rattle.rx_exits_plan.specs.Asked.{Asked}
use Rattle.rx_exits_plan.specs.Plan.{Plan, IsPlan, variables_of, is_redeclared}
use Rattle.rx_modes_given.specs.GivenAway.{is_given_away}
use Rattle.rx_engine_simulation.specs.Sights.{In}
use Rattle.rx_engine_related.specs.AboutRun.{handed, special_of}
use Rattle.rx_engine_related.proofs.Choosing.{of_those, number_there}

pub in_list : {x : ℕ} {l : List ℕ} → Among x l → In x l
in_list here = inl refl
in_list (there i) = inr (in_list i)

pub in_front : (x : ℕ) (l m : List ℕ) → In x l → In x (l ++ m)
in_front x [] m i = absurd i
in_front x (y ∷ l) m (inl e) = inl e
in_front x (y ∷ l) m (inr i) = inr (in_front x l m i)

pub in_rest : (x : ℕ) (l m : List ℕ) → In x m → In x (l ++ m)
in_rest x [] m i = i
in_rest x (y ∷ l) m i = inr (in_rest x l m i)

handed_by : (es : List Exit) (outs : Exit → List ℕ) (e : Exit) (x : ℕ) → Among e es → Among x (outs e) → In x (handed es outs)
handed_by [] outs e x i o = elim i [ ]
handed_by (_ ∷ es) outs e x here o = in_front x (outs e) (handed es outs) (in_list o)
handed_by (c ∷ es) outs e x (there i) o = in_rest x (outs c) (handed es outs) (handed_by es outs e x i o)

module _ (A : Asked) (muts : List Bool) (k : Plan) where
  pub out_special : (e : Exit) (x : ℕ) → Among e k.exits → Among x (k.outs e) → In x (special_of A muts k)
  out_special e x i o =
      in_rest x (those (is_given_away A muts) k.params) (k.locals ++ (handed k.exits k.outs ++ k.redeclared))
      (in_rest x k.locals (handed k.exits k.outs ++ k.redeclared) (in_front x (handed k.exits k.outs) k.redeclared (handed_by k.exits k.outs e x i o)))

  pub again_special : (x : ℕ) → Among x k.redeclared → In x (special_of A muts k)
  again_special x i =
      in_rest x (those (is_given_away A muts) k.params) (k.locals ++ (handed k.exits k.outs ++ k.redeclared))
      (in_rest x k.locals (handed k.exits k.outs ++ k.redeclared) (in_rest x (handed k.exits k.outs) k.redeclared (in_list i)))

module _ (A : Asked) (k : Plan) where
  none_not : (b : Bool) → b ≡ true → not b ≡ true → ⊥
  none_not true e f = true≢false (sym f)
  none_not false e f = true≢false (sym e)

  pub again_not_out : IsPlan A k → (x : ℕ) → Among x k.redeclared → Among x (k.outs next) → ⊥
  again_not_out p x i o =
      let z = of_those (is_redeclared A (k.outs next)) (variables_of A) (subst (λ l. Among x l) p.redeclared i) in
      let q = both_true (is_direct A.run A.home.body x && is_named_behind A.run A.home.body x) (not (has_number x (k.outs next))) z.1 in
      none_not (has_number x (k.outs next)) (number_there x (k.outs next) o) q.1
