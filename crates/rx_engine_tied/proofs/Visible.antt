-- What an exit hands out is meant by its name there: the condition Shadowed.
use Rattle.std.proofs.Common.{◌≡◌, ◌≢◌, ℕ, Bool, true, false, ◌==◌, List, Option, Some, None, refl, ap, ◌∙◌}
use Rattle.std.proofs.lemmas.Bool.Decides.{Decides-eqb}
use Rattle.rx_lower_walks.specs.Walks.{Among}
use Rattle.rx_exits_plan.specs.Points.{next}
use Rattle.rx_exits_plan.specs.Asked.{Asked}
use Rattle.rx_exits_plan.specs.Exits.{at_end, Jump, jumps}
use Rattle.rx_exits_plan.specs.Plan.{Plan}
use Rattle.rx_exits_plan.specs.Shadowed.{at_jump, at_the_end, meant}
use Rattle.rx_exits.specs.Refusing.{NoneShadowed, same_name}

not_another : (m : Option ℕ) (x : ℕ) → ((m ≢ Some x) → ⊥) → m ≡ Some x
not_another None x n = absurd (n (λ e. cc))
not_another (Some y) x n = by (y == x) refl
  where
    one : ◌≡◌ {A = Option ℕ} (Some y) (Some x) → y ≡ x
    one e = cc

    by : (b : Bool) → (y == x) ≡ b → ◌≡◌ {A = Option ℕ} (Some y) (Some x)
    by true e = ap (λ (z : ℕ). Some z) ((Decides-eqb y x).0 e)
    by false e = absurd (n (λ q. let s : (y == x) ≡ true = (Decides-eqb y x).1 (one q) in cc))

module _ (A : Asked) (k : Plan) (names : List (List ℕ)) (none : NoneShadowed A k (same_name names)) where
  pub out_at_jump : (j : Jump) → Among j (jumps A.run A.home) → (x : ℕ) → Among x (k.outs j.exit) → meant (same_name names) x j.scope ≡ Some x
  out_at_jump j i x o = not_another (meant (same_name names) x j.scope) x (λ n. none x (at_jump j i o n))

  pub out_at_end : Among next k.exits → (x : ℕ) → Among x (k.outs next) → meant (same_name names) x (at_end A.run A.home).scope ≡ Some x
  out_at_end i x o = not_another (meant (same_name names) x (at_end A.run A.home).scope) x (λ n. none x (at_the_end i o n))
