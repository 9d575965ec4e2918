-- The uses of a param, by what is known of the run; and those of all, one behind the other.
use Rattle.std.proofs.Common.{◌≡◌, sym, ap, ◌∙◌, ℕ, zero, suc, ◌<◌, ◌≤◌, ◌+◌, Bool, List, [], ◌∷◌, ◌++◌, length, length-append, take, map, get_or, slice_get, option_map, Option, subst, arith}
use Rattle.std.specs.Bool.{Decides}
use Rattle.std.proofs.lemmas.Bool.Decides.{Decides-at, Decides-like}
use Rattle.std.proofs.lemmas.List.{take_more, take_all}
use Rattle.rx_typed.specs.PlainTypes.{declarations, plain-Ty}
use Rattle.rx_typed.specs.Types.{Typ}
use Rattle.rx_lower_walks.specs.Walks.{Among, here, there}
use Rattle.rx_exits_plan.specs.Asked.{Asked}
use Rattle.rx_exits_plan.specs.declared.plan.ExitOuts.{ExitOuts}
use Rattle.rx_exits_plan.specs.PlainPlan.{plan_of}
use Rattle.rx_exits.specs.Living.{IsLiving}
use Rattle.rx_modes_policy.specs.declared.uses.Uses.{Uses}
use Rattle.rx_modes_uses.specs.Uses.{IsUses}
use Rattle.rx_modes_deeds.specs.declared.deeds.Deeds.{Deeds}
use Rattle.rx_modes_deeds.specs.Doings.{deeds_at}
use Rattle.rx_modes.specs.declared.known.Known.{Known}
use Rattle.rx_modes.specs.Told.{IsKnown, is_copy, is_mutable_reference, is_mut, LiveBehind, Each, no_more, with}
use Rattle.rx_modes.proofs.Typing.{copy_told, reference_told, mut_told}

-- what is found of a variable, but for its actions
abbrev pub found : Known → ℕ → Deeds → Deeds → Bool → Uses
found known x d e live = record {
  copy = is_copy (declarations known.decls.now.items) (slice_get (map (option_map plain-Ty) known.types.now) x);
  mut_ref = is_mutable_reference (slice_get (map (option_map plain-Ty) known.types.now) x);
  moved = d.moved;
  written = d.changed;
  lent = d.shared;
  through = d.through;
  mut_out = e.borrowed_mutably;
  declared_mut = is_mut (slice_get known.mutable.now x);
  live_out = live;
  set_in = known.entered;
}

module _ (A : Asked) (muts : List Bool) (known : Known) (K : IsKnown A muts known) where
  found_told : (x : ℕ) → Among x known.plan.now.params → (live : Bool) → Decides live (LiveBehind A known.plan.now.params known.plan.now.exits x)
      → IsUses A muts (plan_of A known.plan.now) x (found known x (deeds_at known.inside.now x) (deeds_at known.outside.now x) live)
  found_told x among live told =
      let inside = K.inside x in let outside = K.outside x in let set = K.params x among in
      record {
        copy = copy_told A (map (option_map plain-Ty) known.types.now) x K.types (declarations known.decls.now.items) K.declared;
        mut_ref = reference_told A (map (option_map plain-Ty) known.types.now) x K.types;
        moved = inside.moved;
        written = inside.changed;
        lent = inside.shared;
        through = inside.through;
        mut_out = outside.borrowed_mutably;
        declared_mut = Decides-at (is_mut (slice_get known.mutable.now x)) (is_mut (slice_get muts x)) (ap (λ l. is_mut (slice_get l x)) K.mutable) (mut_told muts x);
        live_out = told;
        set_in = Decides-like known.entered (λ s. (s.0, s.1, set s.0 s.1)) (λ h. (h.0, h.1)) K.entered;
      }

-- as the code has them: each by what was called
abbrev pub shape : Bool → Bool → Bool → Deeds → Deeds → Bool → Bool → Uses
shape copy mut_ref declared d e live set = record {
  copy = copy;
  mut_ref = mut_ref;
  moved = d.moved;
  written = d.changed;
  lent = d.shared;
  through = d.through;
  mut_out = e.borrowed_mutably;
  declared_mut = declared;
  live_out = live;
  set_in = set;
}

abbrev type_at : Known → ℕ → Option (Option Typ)
type_at known x = slice_get (map (option_map plain-Ty) known.types.now) x

pub uses_told : (A : Asked) (muts : List Bool) (known : Known) (x : ℕ) (es : List ExitOuts) (d e : Deeds) (copy mut_ref declared live : Bool)
    → d ≡ deeds_at known.inside.now x → e ≡ deeds_at known.outside.now x
    → copy ≡ is_copy (declarations known.decls.now.items) (type_at known x) → mut_ref ≡ is_mutable_reference (type_at known x)
    → declared ≡ is_mut (slice_get known.mutable.now x) → es ≡ known.plan.now.exits
    → ((B : Asked) (params : List ℕ) → IsLiving B params known.living.now → Decides live (LiveBehind B params es x))
    → IsKnown A muts known → Among x known.plan.now.params → IsUses A muts (plan_of A known.plan.now) x (shape copy mut_ref declared d e live known.entered)
uses_told A muts known x es d e copy mut_ref declared live inside outside copies refers declares exits lives K among =
    let k = known in
    let D = deeds_at k.inside.now x in
    let c = is_copy (declarations k.decls.now.items) (type_at k x) in
    let r = is_mutable_reference (type_at k x) in
    subst (IsUses A muts (plan_of A k.plan.now) x)
    (sym (ap (λ v. shape v mut_ref declared d e live k.entered) copies ∙ ap (λ v. shape c v declared d e live k.entered) refers
    ∙ ap (λ v. shape c r v d e live k.entered) declares ∙ ap (λ v. shape c r (is_mut (slice_get k.mutable.now x)) v e live k.entered) inside
    ∙ ap (λ v. shape c r (is_mut (slice_get k.mutable.now x)) D v live k.entered) outside))
    (found_told A muts k K x among live (subst (λ l. Decides live (LiveBehind A k.plan.now.params l x)) exits (lives A k.plan.now.params K.living)))

-- ---- all of them

pub among_at : (xs : List ℕ) (i d : ℕ) → i < length xs → Among (get_or xs i d) xs
among_at [] i d less = absurd (omega (arith, less))
among_at (x ∷ xs) zero d less = here
among_at (x ∷ xs) (suc i) d less = there (among_at xs i d (omega (arith, less)))

each_last : {Q : ℕ → Uses → Type 0} {xs : List ℕ} {us : List Uses} (x : ℕ) (u : Uses) → Each Q xs us → Q x u → Each Q (xs ++ x ∷ []) (us ++ u ∷ [])
each_last x u no_more q = with q no_more
each_last x u (with p c) q = with p (each_last x u c q)

pub param_at : (xs ys : List ℕ) (i : ℕ) → xs ≡ ys → i < length xs → Among (get_or xs i 0) ys
param_at xs ys i e less = subst (λ l. Among (get_or xs i 0) l) e (among_at xs i 0 less)

pub each_more : (Q : ℕ → Uses → Type 0) (xs : List ℕ) (us vs : List Uses) (i d : ℕ) (u : Uses) → i < length xs → vs ≡ us ++ u ∷ [] → Q (get_or xs i d) u
    → Each Q (take i xs) us → Each Q (take (i + 1) xs) vs
each_more Q xs us vs i d u less e q c =
    subst (λ l. Each Q (take (i + 1) xs) l) (sym e) (subst (λ l. Each Q l (us ++ u ∷ [])) (sym (take_more xs i d less)) (each_last (get_or xs i d) u c q))

pub each_none : (Q : ℕ → Uses → Type 0) (xs : List ℕ) (us : List Uses) → us ≡ [] → Each Q (take 0 xs) us
each_none Q xs us e = subst (Each Q (take 0 xs)) (sym e) (none xs)
  where
    none : (l : List ℕ) → Each Q (take 0 l) []
    none [] = no_more
    none (x ∷ l) = no_more

pub counted : (us vs : List Uses) (u : Uses) (i : ℕ) → vs ≡ us ++ u ∷ [] → length us ≡ i → length vs ≡ i + 1
counted us vs u i e c = omega (arith, ap length e, length-append us (u ∷ []), c)

pub each_all : (Q : ℕ → Uses → Type 0) (xs ys : List ℕ) (us : List Uses) (i : ℕ) → length xs ≤ i → xs ≡ ys → Each Q (take i xs) us → Each Q ys us
each_all Q xs ys us i past e c = subst (λ l. Each Q l us) (take_all i xs past ∙ e) c
