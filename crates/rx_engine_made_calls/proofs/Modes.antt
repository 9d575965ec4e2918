-- Modes that the uses of a param allow fit: by the rows of the table.
use Rattle.std.proofs.Common.{if◌then◌else◌, ◌≡◌, ◌⊎◌, inl, inr, ℕ, Bool, true, false, not, ◌&&◌, ◌||◌, List, refl, ◌∙◌, subst}
use Rattle.rx_typed.specs.Types.{Typ}
use Rattle.rx_exits_plan.specs.Asked.{Asked}
use Rattle.rx_exits_plan.specs.Plan.{Plan}
use Rattle.rx_modes_policy.specs.declared.uses.Mode.TheVariants as mode
use Rattle.rx_modes_policy.specs.declared.uses.Mode.{Mode}
use Rattle.rx_modes_policy.specs.declared.choices.ModeChoice.{ModeChoice}
use Rattle.rx_modes_policy.specs.declared.uses.Uses.{Uses}
use Rattle.rx_modes_policy.specs.Allowed.{allowed_by, one as one_mode, none as no_mode, two as two_modes, IsMember}
use Rattle.rx_modes_given.specs.GivenAway.{is_given_away}
use Rattle.rx_engine_simulation.specs.Sights.{In}
use Rattle.rx_engine_related.specs.AboutRun.{special_of}
use Rattle.rx_engine_made_trees.specs.Nodes.{is_unique}
use Rattle.rx_engine_made_calls.specs.Seeing.{asks_again, copies, lends, looks, ModeFits, moves, shares}
use Rattle.rx_engine_made_calls.proofs.Telling.{one_some}

no_member : {m : Mode} → IsMember m no_mode → ⊥
no_member (inl e) = cc
no_member (inr e) = cc

one_member : {m n : Mode} → IsMember m (one_mode n) → n ≡ m
one_member {m = m} {n = n} (inl e) = one_some n m e
one_member {m = m} {n = n} (inr e) = one_some n m e

two_members : {m n l : Mode} → IsMember m (two_modes n l) → (n ≡ m) ⊎ (l ≡ m)
two_members {m = m} {n = n} (inl e) = inl (one_some n m e)
two_members {m = m} {l = l} (inr e) = inr (one_some l m e)

-- what is declared `mut` is not given away unless it is moved
mut_stays : (t r : Bool) → (t && not (r || true)) ≡ false
mut_stays true true = refl
mut_stays true false = refl
mut_stays false r = refl

module _ (A : Asked) (muts : List Bool) (k : Plan) (x : ℕ) (t : Typ) where
  abbrev Fits : Mode → Type 0
  Fits m = ModeFits A muts k true x t m

  fits_one : {m n : Mode} → Fits n → IsMember m (one_mode n) → Fits m
  fits_one f i = subst Fits (one_member i) f

  fits_two : {m n l : Mode} → Fits n → Fits l → IsMember m (two_modes n l) → Fits m
  fits_two {m = m} {n = n} {l = l} f g i = by (two_members i)
    where
      by : (n ≡ m) ⊎ (l ≡ m) → Fits m
      by (inl e) = subst Fits e f
      by (inr e) = subst Fits e g

  fits_if : (m : Mode) (c d : ModeChoice) (b : Bool) → (IsMember m c → Fits m) → (IsMember m d → Fits m) → IsMember m (if b then c else d) → Fits m
  fits_if m c d true f g i = f i
  fits_if m c d false f g i = g i

  none_fits : {m : Mode} → IsMember m no_mode → Fits m
  none_fits i = absurd (no_member i)

  -- whether it is moved, and whether it is a unique reference
  by_rows : (moved r : Bool) (m : Mode) (written through copy lent out d live set : Bool) → is_given_away A muts x ≡ (moved || (through && not (r || d))) → is_unique t ≡ r → (is_given_away A muts x ≡ false → In x (special_of A muts k) → ⊥)
      → IsMember m (allowed_by (record { copy = copy; mut_ref = r; moved = moved; written = written; lent = lent; through = through; mut_out = out; declared_mut = d; live_out = live; set_in = set })) → Fits m
  by_rows true r m written through copy lent out d live set e u other i = fits_if m no_mode (one_mode mode.Value) (live && not d) none_fits (fits_one (moves e (λ i. refl))) i
  by_rows false r m true through copy lent out false live set e u other i = none_fits i
  by_rows false r m true through copy lent out true live set e u other i = fits_one (lends (other (e ∙ mut_stays through r))) i
  by_rows false true m false true copy lent out d live set e u other i =
      fits_if m (one_mode mode.Reborrow) (if (d && not lent) && not out then two_modes mode.Reborrow mode.Mut else one_mode mode.Mut) (not d) (fits_one (asks_again (other e) refl u))
      (fits_if m (two_modes mode.Reborrow mode.Mut) (one_mode mode.Mut) ((d && not lent) && not out) (fits_two (asks_again (other e) refl u) (lends (other e))) (fits_one (lends (other e)))) i
  by_rows false false m false true copy lent out true live set e u other i = fits_one (lends (other e)) i
  by_rows false false m false true copy lent out false live set e u other i = fits_if m (one_mode mode.Value) no_mode (not live) (fits_one (moves e (λ i. refl))) none_fits i
  by_rows false true m false false copy lent out d live set e u other i =
      fits_if m (one_mode mode.Shared) (two_modes mode.View mode.Shared) (lent || out) (fits_one (shares (other e))) (fits_two (looks (other e) refl u) (shares (other e))) i
  by_rows false false m false false copy lent out d live set e u other i =
      fits_if m (one_mode mode.Shared) (if copy then two_modes mode.Value mode.Shared else one_mode mode.Shared) (copy && (lent || out)) (fits_one (shares (other e)))
      (fits_if m (two_modes mode.Value mode.Shared) (one_mode mode.Shared) copy (fits_two (copies e (other e) u) (shares (other e))) (fits_one (shares (other e)))) i

  pub modes_fit : (u : Uses) (m : Mode) → is_given_away A muts x ≡ (u.moved || (u.through && not (u.mut_ref || u.declared_mut))) → is_unique t ≡ u.mut_ref → (is_given_away A muts x ≡ false → In x (special_of A muts k) → ⊥)
      → IsMember m (allowed_by u) → ModeFits A muts k true x t m
  modes_fit u m e r other i = by_rows u.moved u.mut_ref m u.written u.through u.copy u.lent u.mut_out u.declared_mut u.live_out u.set_in e r other i
