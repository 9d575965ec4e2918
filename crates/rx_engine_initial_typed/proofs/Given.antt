-- What is copied to the new function does not move, or is needed no more, where modes are those that uses allow.
use Rattle.std.proofs.Common.{◌≡◌, ◌⊎◌, inl, inr, ℕ, Bool, true, false, not, List, Option, Some, slice_get, refl, sym, ◌∙◌, subst, ap, true≢false}
use Rattle.rx_typed.specs.Types.{Typ, copies}
use Rattle.rx_typed.specs.Tree.{Parameter, Operands, own, temporary_at}
use Rattle.rx_lower_walks.specs.Actions.{Read, at_mark}
use Rattle.rx_lower_walks.specs.Orders.{order_all}
use Rattle.rx_lower_walks.specs.Walks.{here}
use Rattle.rx_facts_tables.specs.Places.{Frame}
use Rattle.rx_exits_plan.specs.Asked.{Asked}
use Rattle.rx_exits_plan.specs.Plan.{Plan}
use Rattle.rx_modes_policy.specs.declared.uses.Mode.{Mode}
use Rattle.rx_modes_policy.specs.declared.uses.Mode.TheVariants as mode
use Rattle.rx_modes_policy.specs.declared.uses.Uses.{Uses}
use Rattle.rx_modes_policy.specs.Allowed.{allowed_by, IsMember, HasMember}
use Rattle.rx_modes_uses.specs.Paths.{OwnPath}
use Rattle.rx_modes_uses.specs.Deeds.{Done, moved}
use Rattle.rx_modes_uses.specs.Outside.{in_run}
use Rattle.rx_modes_uses.specs.Uses.{IsCopy}
use Rattle.rx_modes_uses.specs.Modes.{PassedIn, Each, with}
use Rattle.rx_engine_simulation.specs.Sights.{Hold, shut, plain, sight, Renaming, sight_of}
use Rattle.rx_engine_related.specs.Given.{GivenTo, given_all, moves_in, moves_again, is_copied, is_shared, is_lent, is_reborrowed, is_viewed}
use Rattle.rx_engine_blocks.specs.Renumbering.{Renumbering, shape_at}
use Rattle.rx_engine_initial.specs.Variables.{Sides, type_at}
use Rattle.rx_engine_initial_related.specs.CallerAsked.{NeededNoMore, GivenSo}
use Rattle.rx_engine_initial_typed.specs.SameTypes.{DeclaresAlike, TypedScope}
use Rattle.rx_engine_initial_typed.specs.ByType.{ReadsByType}
use Rattle.rx_engine_initial_typed.proofs.Corresponding.{typed_copies, own_moves}
use Rattle.rx_engine_initial_typed.proofs.Moves.{of_first, of_second}

-- ---- which uses allow to pass by value

abbrev uses : Bool → Bool → Bool → Bool → Bool → Bool → Bool → Bool → Bool → Bool → Uses
uses c r m w l t o d v s = record { copy = c; mut_ref = r; moved = m; written = w; lent = l; through = t; mut_out = o; declared_mut = d; live_out = v; set_in = s }

-- the run moves it; it changes something behind it, and nothing needs it on from an exit; or it is Copy
data ByValue (c m v : Bool) : Type 0 where
  is_moved : m ≡ true → ByValue c m v
  is_needless : v ≡ false → ByValue c m v
  copies_it : c ≡ true → ByValue c m v

neither : {X : Type 0} {o p : Option Mode} → (o ≡ Some mode.Value → ⊥) → (p ≡ Some mode.Value → ⊥) → (o ≡ Some mode.Value) ⊎ (p ≡ Some mode.Value) → X
neither f g (inl e) = absurd (f e)
neither f g (inr e) = absurd (g e)

by_value : (c r m w l t o d v s : Bool) → IsMember mode.Value (allowed_by (uses c r m w l t o d v s)) → ByValue c m v
by_value c r true w l t o d v s e = is_moved refl
by_value c r false w l t o d false s e = is_needless refl
by_value true r false w l t o d true s e = copies_it refl
by_value false r false true l t o false true s e = neither (λ q. cc) (λ q. cc) e
by_value false r false true l t o true true s e = neither (λ q. cc) (λ q. cc) e
by_value false true false false l true o false true s e = neither (λ q. cc) (λ q. cc) e
by_value false true false false true true o true true s e = neither (λ q. cc) (λ q. cc) e
by_value false true false false false true true true true s e = neither (λ q. cc) (λ q. cc) e
by_value false true false false false true false true true s e = neither (λ q. cc) (λ q. cc) e
by_value false false false false l true o true true s e = neither (λ q. cc) (λ q. cc) e
by_value false false false false l true o false true s e = neither (λ q. cc) (λ q. cc) e
by_value false true false false true false o false true s e = neither (λ q. cc) (λ q. cc) e
by_value false true false false true false o true true s e = neither (λ q. cc) (λ q. cc) e
by_value false true false false false false true false true s e = neither (λ q. cc) (λ q. cc) e
by_value false true false false false false true true true s e = neither (λ q. cc) (λ q. cc) e
by_value false true false false false false false false true s e = neither (λ q. cc) (λ q. cc) e
by_value false true false false false false false true true s e = neither (λ q. cc) (λ q. cc) e
by_value false false false false l false o false true s e = neither (λ q. cc) (λ q. cc) e
by_value false false false false l false o true true s e = neither (λ q. cc) (λ q. cc) e

-- ---- so what is copied does not move

module _ (r : Renumbering) (S : Sides) (alike : DeclaresAlike r S.frame_there S.frame) (A : Asked) (k : Plan) (muts : List Bool) (types : S.frame_there ≡ A.frame) (choice : Uses → Mode)
    (policy : (u : Uses) → HasMember (allowed_by u) → IsMember (choice u) (allowed_by u)) (R : Renaming) (scope : TypedScope r S R)
    (apart : (x y : ℕ) (w : Hold) → sight_of R x ≡ Some (sight y (plain w)) → ¬ (Done moved (OwnPath x) (in_run A))) where
  so_copied : (x y : ℕ) → sight_of R x ≡ Some (sight y (plain shut)) → (v : Bool) → ((t : Typ) → type_at S.frame.types y ≡ Some t → v ≡ not (copies S.frame.declared t)) → PassedIn A muts k choice x mode.Value → (v ≡ false) ⊎ NeededNoMore A k x
  so_copied x y h v moves p = let u = p.uses in by (by_value u.copy u.mut_ref u.moved u.written u.lent u.through u.mut_out u.declared_mut u.live_out u.set_in (subst (λ m. IsMember m (allowed_by u)) (sym p.chosen) (policy u p.some)))
    where
      copied : IsCopy A x → v ≡ false
      copied (t, has, c) = moves_not (typed_copies r S alike x y (scope x y (plain shut) h tt) t (ap (λ (F : Frame). slice_get F.types x) types ∙ has))
        where
          moves_not : (type_at S.frame.types y ≡ Some (shape_at r t)) × (copies S.frame.declared (shape_at r t) ≡ copies S.frame_there.declared t) → v ≡ false
          moves_not (e, q) = moves (shape_at r t) e ∙ ap not (q ∙ (ap (λ (F : Frame). copies F.declared t) types ∙ c))

      by : ByValue p.uses.copy p.uses.moved p.uses.live_out → (v ≡ false) ⊎ NeededNoMore A k x
      by (is_moved e) = absurd (apart x y shut h (p.are_uses.moved.0 e))
      by (is_needless e) = inr (λ z i l. true≢false (sym (p.are_uses.live_out.1 (z, i, l)) ∙ e))
      by (copies_it e) = inl (copied (p.are_uses.copy.0 e))

  pub given_so : {again : Bool} {cold : List ℕ} {Rp Rf : Renaming} {xs : List ℕ} {ms : List Mode} {es : Operands} {ps : List Parameter} (l : GivenTo again R cold Rp xs ms es ps Rf) → Each (PassedIn A muts k choice) xs ms → ReadsByType S.frame (order_all es) → GivenSo A k l
  given_so given_all p f = tt
  given_so (moves_in h n i g) (with q p) f = given_so g p (of_second f)
  given_so (moves_again a h n i g) (with q p) f = given_so g p (of_second f)
  given_so (is_copied {x = x} {y = y} {m = m} {moves = v} h c n i g) (with q p) f = (so_copied x y h v (λ t e. moves_so t e) q, given_so g p (of_second f))
    where
      moves_so : (t : Typ) → type_at S.frame.types y ≡ Some t → v ≡ not (copies S.frame.declared t)
      moves_so t e = own_moves S.frame y t v e ((of_first f).each (at_mark m (Read v (own y) (temporary_at m.node 0))) y (own y) v (temporary_at m.node 0) here refl refl)
  given_so (is_shared w h n i g) (with q p) f = given_so g p (of_second f)
  given_so (is_lent w h c n i g) (with q p) f = given_so g p (of_second f)
  given_so (is_reborrowed a h c n i g) (with q p) f = given_so g p (of_second f)
  given_so (is_viewed a h c n i g) (with q p) f = given_so g p (of_second f)
