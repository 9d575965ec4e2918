-- What the new function does where it is left matches the text there, also where several jumps of the run take the exit: their marks lead to one
-- place, behind which walks go on alike but for variables that end.
use Rattle.std.proofs.Common.{◌≡◌, ℕ, true, List, [], ◌∷◌, ◌++◌, refl, sym, ◌∙◌, subst}
use Rattle.rx_typed.specs.Tree.{variable, Temporary, Function, own}
use Rattle.rx_typed_declarations.specs.Sizes.{Sized}
use Rattle.rx_lower_walks.specs.Actions.{Action}
use Rattle.rx_lower_walks.specs.Orders.{Order}
use Rattle.rx_lower_walks.specs.Walks.{IsWalk, Among}
use Rattle.rx_facts_tables.specs.Along.{ahead}
use Rattle.rx_facts_tables.specs.Places.{Frame}
use Rattle.rx_facts_tables.specs.Setting.{AllSet}
use Rattle.rx_facts_tables.specs.Live.{living}
use Rattle.rx_exits_plan.specs.Points.{Exit, leaves}
use Rattle.rx_exits_plan.specs.Marked.{shown}
use Rattle.rx_exits_plan.specs.Asked.{Asked}
use Rattle.rx_exits_plan.specs.Plan.{Plan, IsPlan}
use Rattle.rx_exits_plan.specs.PartlyMoved.{PartlyMoved}
use Rattle.rx_meaning_keeping.proofs.Parts.{parted}
use Rattle.rx_engine_related.specs.AboutRun.{text_of}
use Rattle.rx_engine_related.specs.OnePlace.{MeetInOne, alike, ends_in_one, ends_in_other, LeadsToOnePlace}
use Rattle.rx_engine_related.specs.Accepted.{Accepted}
use Rattle.rx_engine_related.proofs.Choosing.{out_is}
use Rattle.rx_engine_initial.specs.Matching.{Matches, is_gone}
use Rattle.rx_engine_initial.specs.Variables.{Sides, KnownVariables}
use Rattle.rx_engine_initial.specs.Copies.{world}
use Rattle.rx_engine_initial.specs.Handing.{Handing, Straight, giving}
use Rattle.rx_engine_initial.specs.Planned.{IsTextOf, MeetsMark, AllFor}
use Rattle.rx_engine_initial.proofs.Planned.{out_set, giving_gone, ahead_mark}

-- variables that end are no uses
meets_ahead : (x : ℕ) {us vs : List Action} → MeetInOne us vs → ahead (living (variable x)) us ≡ ahead (living (variable x)) vs
meets_ahead x alike = refl
meets_ahead x (ends_in_one m) = meets_ahead x m
meets_ahead x (ends_in_other m) = meets_ahead x m

module _ (A : Asked) (k : Plan) (plan : IsPlan A k) (e : Exit) (exits : Among e k.exits) (led : LeadsToOnePlace (text_of A k) (shown (leaves e))) where
  pub out_needed : (x : ℕ) → Among x (k.outs e) → (w : List Action) → IsWalk (text_of A k) (w ++ shown (leaves e) ∷ [])
      → (us : List Action) × IsWalk (text_of A k) (w ++ shown (leaves e) ∷ us) × (ahead (living (variable x)) us ≡ true)
  out_needed x o w c = let l = (out_is A k plan e exits x o).1 in let m = led l.0 w l.1 l.2 c in (m.0, m.2, sym (meets_ahead x m.1) ∙ l.3)

  module _ (S : Sides) (sized : Sized S.frame.declared S.frame.sizes) (acc : Accepted A S.muts_there) (o : IsTextOf S A k) (R : KnownVariables S) (q : Order) (whole : (x : ℕ) → ¬ (PartlyMoved A k x))
      (meets : MeetsMark S (leaves e) q) where
    set : (w : List Action) → IsWalk S.text (w ++ shown (leaves e) ∷ []) → (y : ℕ) → Among y (k.outs e) → AllSet S.frame_there w (own y)
    set w c y m = subst (λ (F : Frame). AllSet F w (own y)) (sym o.types) (out_set A S.muts_there acc k plan e y (whole y) exits m w (subst (λ (g : Function). IsWalk g (w ++ shown (leaves e) ∷ [])) o.text c))

    needed : (w : List Action) → IsWalk S.text (w ++ shown (leaves e) ∷ []) → (y : ℕ) → Among y (k.outs e)
        → (vs : List Action) × IsWalk S.text (w ++ shown (leaves e) ∷ vs) × (ahead (living (variable y)) (shown (leaves e) ∷ vs) ≡ true)
    needed w c y m = let z = out_needed y m w (subst (λ (g : Function). IsWalk g (w ++ shown (leaves e) ∷ [])) o.text c) in
        (z.0, subst (λ (g : Function). IsWalk g (w ++ shown (leaves e) ∷ z.0)) (sym o.text) z.1, ahead_mark (leaves e) y z.0 z.2)

    pub exit_matches : (xs : List ℕ) → AllFor R xs (k.outs e) → (l : List Action) → Handing xs l → (s : Order) → Straight s l → (n : ℕ) (t : Temporary) → Matches (world S) R (giving s n t) q
    exit_matches xs outs l d s f n t =
        is_gone (giving_gone S (parted S.frame sized) (parted S.frame_there (subst (λ (F : Frame). Sized F.declared F.sizes) (sym o.types) acc.sized)) R (shown (leaves e)) q xs
        (λ w r x m. let z = outs x m in (z.0, z.1, set w (meets w r) z.0 z.2, needed w (meets w r) z.0 z.2)) d s f n t)
