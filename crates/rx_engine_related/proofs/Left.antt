-- Where a run is left: what an exit hands out was written, and nothing that may be elsewhere is living but what the exit hands out.
use Rattle.std.proofs.Common.{◌≡◌, ◌≢◌, ℕ, Bool, true, false, List, [], ◌∷◌, refl, sym, subst}
use Rattle.rx_typed.specs.Tree.{own}
use Rattle.rx_lower_walks.specs.Actions.{Action}
use Rattle.rx_lower_walks.specs.Walks.{IsWalk, Among}
use Rattle.rx_facts_tables.specs.Setting.{is_set, AllSet}
use Rattle.rx_exits_plan.specs.Points.{Exit, returns, leaves}
use Rattle.rx_exits_plan.specs.Marked.{shown}
use Rattle.rx_exits_plan.specs.Asked.{Asked, ComesTo}
use Rattle.rx_exits_plan.specs.Plan.{Plan, IsPlan}
use Rattle.rx_exits_plan.specs.PartlyMoved.{PartlyMoved, at_exit}
use Rattle.rx_engine_simulation.specs.Histories.{Written, Living}
use Rattle.rx_engine_simulation.specs.Sights.{In}
use Rattle.rx_engine_simulation.specs.Programs.{back, IsHistory, Untouched, facts_of}
use Rattle.rx_engine_related.specs.AboutRun.{special_of, about_run, marked_with, text_of}
use Rattle.rx_engine_related.specs.Accepted.{Accepted}
use Rattle.rx_engine_related.specs.OnePlace.{LeadsToOnePlace}
use Rattle.rx_engine_related.proofs.Since.{back_both, next_walk}
use Rattle.rx_engine_related.proofs.Points.{written_at}
use Rattle.rx_engine_related.proofs.Recombining.{ahead_meets}
use Rattle.rx_engine_related.proofs.Lasting.{found_standing, ahead_living}
use Rattle.rx_engine_related.proofs.Living.{dead_behind}
use Rattle.rx_engine_related.proofs.Choosing.{out_is, not_live, special_is, offered_named}
use Rattle.rx_modes_uses.specs.NotMut.{NotMut}

pub out_set : (A : Asked) (k : Plan) (e : Exit) (x : ℕ) → ¬ (PartlyMoved A k x) → Among e k.exits → Among x (k.outs e) → (w : List Action) → ComesTo A (leaves e) w → AllSet A.frame w (own x)
out_set A k e x whole i o w c n is = by (is_set A.frame w n) refl
  where
    by : (t : Bool) → is_set A.frame w n ≡ t → is_set A.frame w n ≡ true
    by true q = q
    by false q = absurd (whole (at_exit w e i o c (n, is, q)))

pub out_written : (A : Asked) (muts : List Bool) → Accepted A muts → (k : Plan) → IsPlan A k → (xs : List ℕ) (e : Exit) (x : ℕ) → ¬ (PartlyMoved A k x) → Among e k.exits → Among x (k.outs e)
    → (h : List Action) → IsHistory (marked_with A xs) (shown (leaves e) ∷ h) → Written h x
out_written A muts acc k p xs e x whole i o h c =
    written_at A muts acc xs (leaves e) x (acc.named x (offered_named A k p x (out_is A k p e i x o).0)) (λ w q. out_set A k e x whole i o w q) h c

pub others_dead : (A : Asked) (muts : List Bool) (k : Plan) → IsPlan A k → ((y : ℕ) → ¬ (NotMut A muts k y)) → (u : Untouched (text_of A k) (about_run A muts k)) (e : Exit) (x : ℕ) → Among e k.exits → e ≢ returns → In x (special_of A muts k) → (Among x (k.outs e) → ⊥)
    → (h : List Action) → Living (facts_of (text_of A k) (about_run A muts k) u) x (shown (leaves e) ∷ h) → ⊥
others_dead A muts k p passed u e x i n s none h l = dead_behind A muts k u e x (not_live A muts k p passed e i n x (special_is A muts k p x s) none) h l

-- where the exit's marks lead to one place, each history that comes to one goes on as the walk on which the variable is live
pub out_living : (A : Asked) (muts : List Bool) → Accepted A muts → (k : Plan) (p : IsPlan A k) (u : Untouched (text_of A k) (about_run A muts k)) (e : Exit) (x : ℕ) → LeadsToOnePlace (text_of A k) (shown (leaves e)) → Among e k.exits → Among x (k.outs e)
    → (h : List Action) → IsHistory (text_of A k) (shown (leaves e) ∷ h) → Living (facts_of (text_of A k) (about_run A muts k) u) x (shown (leaves e) ∷ h)
out_living A muts acc k p u e x once i o h c =
    let l = (out_is A k p e i x o).1 in
    let w = once l.0 (back h []) l.1 l.2 (next_walk (text_of A k) (shown (leaves e)) h c) in
    ahead_living (text_of A k) x (λ a g q v. found_standing A muts acc k p x a g q v) (special_of A muts k) u w.0 (shown (leaves e) ∷ h) (subst (λ v. IsWalk (text_of A k) v) (sym (back_both h (shown (leaves e) ∷ w.0))) w.2) (ahead_meets x w.1 l.3)
