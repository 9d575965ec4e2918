-- What the new function does where it is left matches the text there.
use Rattle.std.proofs.Common.{◌≡◌, ℕ, Bool, true, List, [], ◌∷◌, ◌++◌, refl, sym, subst}
use Rattle.rx_typed.specs.Tree.{variable, Temporary, own}
use Rattle.rx_typed_declarations.specs.Sizes.{Sized}
use Rattle.rx_lower_walks.specs.Actions.{Action}
use Rattle.rx_lower_walks.specs.Orders.{Order}
use Rattle.rx_lower_walks.specs.Walks.{IsWalk, Among}
use Rattle.rx_facts_tables.specs.Along.{ahead}
use Rattle.rx_facts_tables.specs.Places.{Frame}
use Rattle.rx_facts_tables.specs.Setting.{AllSet}
use Rattle.rx_facts_tables.specs.Live.{living}
use Rattle.rx_exits_plan.specs.Points.{Exit, leaves}
use Rattle.rx_exits_plan.specs.Marked.{shown}
use Rattle.rx_exits_plan.specs.Asked.{Asked}
use Rattle.rx_exits_plan.specs.Plan.{Plan, IsPlan}
use Rattle.rx_exits_plan.specs.PartlyMoved.{PartlyMoved}
use Rattle.rx_meaning_keeping.proofs.Parts.{parted}
use Rattle.rx_engine_related.specs.AboutRun.{text_of}
use Rattle.rx_engine_related.specs.OneSite.{StandsOnce}
use Rattle.rx_engine_related.specs.Accepted.{Accepted}
use Rattle.rx_engine_initial.specs.Matching.{Reach, Matches, is_gone}
use Rattle.rx_engine_initial.specs.Variables.{as_itself, Sides, KnownVariables}
use Rattle.rx_engine_initial.specs.Copies.{world}
use Rattle.rx_engine_initial.specs.Handing.{Handing, Straight, giving}
use Rattle.rx_engine_initial.specs.Planned.{IsTextOf, MeetsMark, AllFor}
use Rattle.rx_engine_initial.proofs.Planned.{out_set, out_live, giving_gone, ahead_mark}

pub exits_so : (A : Asked) (k : Plan) → IsPlan A k → (S : Sides) → Sized S.frame.declared S.frame.sizes → Accepted A S.muts_there → IsTextOf S A k → (R : KnownVariables S) (e : Exit) (q : Order)
    → Among e k.exits → StandsOnce (text_of A k) (shown (leaves e)) → ((x : ℕ) → ¬ (PartlyMoved A k x)) → MeetsMark S (leaves e) q
    → (xs : List ℕ) → AllFor R xs (k.outs e) → (l : List Action) → Handing xs l → (s : Order) → Straight s l → (n : ℕ) (t : Temporary) → Matches (world S) R (giving s n t) q
exits_so A k plan S sized acc o R e q i once whole meets xs outs l d s f n t =
    is_gone (giving_gone S (parted S.frame sized) (parted S.frame_there (subst (λ (F : Frame). Sized F.declared F.sizes) (sym o.types) acc.sized)) R (shown (leaves e)) q xs (λ w r x m. by w (meets w r) (outs x m)) d s f n t)
  where
    there_too : (w vs : List Action) → IsWalk S.text (w ++ vs) → IsWalk (text_of A k) (w ++ vs)
    there_too w vs c = subst (λ g. IsWalk g (w ++ vs)) o.text c

    set : (w : List Action) → IsWalk S.text (w ++ shown (leaves e) ∷ []) → (y : ℕ) → Among y (k.outs e) → AllSet S.frame_there w (own y)
    set w c y m = subst (λ F. AllSet F w (own y)) (sym o.types) (out_set A S.muts_there acc k plan e y (whole y) i m w (there_too w (shown (leaves e) ∷ []) c))

    live : (w : List Action) → IsWalk S.text (w ++ shown (leaves e) ∷ []) → (y : ℕ) → Among y (k.outs e)
        → (vs : List Action) × IsWalk S.text (w ++ shown (leaves e) ∷ vs) × (ahead (living (variable y)) (shown (leaves e) ∷ vs) ≡ true)
    live w c y m = let z = out_live A S.muts_there acc k plan e y once i m w (there_too w (shown (leaves e) ∷ []) c) in
        (z.0, subst (λ g. IsWalk g (w ++ shown (leaves e) ∷ z.0)) (sym o.text) z.1, ahead_mark (leaves e) y z.0 z.2)

    by : (w : List Action) → IsWalk S.text (w ++ shown (leaves e) ∷ []) → {x : ℕ} → ((y : ℕ) × Among (as_itself x y) R.variables × Among y (k.outs e))
        → (y : ℕ) × Among (as_itself x y) R.variables × AllSet S.frame_there w (own y)
        × ((vs : List Action) × IsWalk S.text (w ++ shown (leaves e) ∷ vs) × (ahead (living (variable y)) (shown (leaves e) ∷ vs) ≡ true))
    by w c (y, m, j) = (y, m, set w c y j, live w c y j)
