-- Each temporary that an action fills is held, with a type.
use Rattle.std.proofs.Common.{◌≡◌, Bool, true, false, if◌then◌else◌, List, [], ◌∷◌, ◌++◌, Option, Some, None, refl, ap, ◌∙◌}
use Rattle.std.proofs.lemmas.Bool.Decides.{Decides-eqb}
use Rattle.rx_typed.specs.Regions.{RegionTyp}
use Rattle.rx_typed.specs.Tree.{Temporary}
use Rattle.rx_lower_walks.specs.Actions.{Action, filled}
use Rattle.rx_lower_walks.specs.Walks.{Among, here, there}
use Rattle.rx_lower_lifetimes.specs.Values.{KnownTypes, Held, same, is_held, value_type, hold, held_by}

same_itself : (t : Temporary) → same t t ≡ true
same_itself t = rw ((Decides-eqb t.node t.node).1 refl, (Decides-eqb t.which t.which).1 refl) refl

held_front : (H I : List Held) (d : Temporary) → is_held H d ≡ true → is_held (H ++ I) d ≡ true
held_front [] I d e = absurd cc
held_front (h ∷ H) I d e = go (same h.temporary d) (held_front H I d) e
  where
    go : (b : Bool) → (is_held H d ≡ true → is_held (H ++ I) d ≡ true) → (if b then true else is_held H d) ≡ true → (if b then true else is_held (H ++ I) d) ≡ true
    go true f e = refl
    go false f e = f e

held_last : (H : List Held) (d : Temporary) (t : RegionTyp) → is_held (H ++ record { temporary = d; typ = t } ∷ []) d ≡ true
held_last [] d t = ap (λ (b : Bool). if b then true else false) (same_itself d)
held_last (h ∷ H) d t = go (same h.temporary d) (held_last H d t)
  where
    go : (b : Bool) → is_held (H ++ record { temporary = d; typ = t } ∷ []) d ≡ true → (if b then true else is_held (H ++ record { temporary = d; typ = t } ∷ []) d) ≡ true
    go true e = refl
    go false e = e

stays_held : (H : List Held) (o : Option Temporary) (t : RegionTyp) (d : Temporary) → is_held H d ≡ true → is_held (hold H o t) d ≡ true
stays_held H None t d e = e
stays_held H (Some c) t d e = go (is_held H c)
  where
    go : (b : Bool) → is_held (if b then H else H ++ record { temporary = c; typ = t } ∷ []) d ≡ true
    go true = e
    go false = held_front H (record { temporary = c; typ = t } ∷ []) d e

becomes_held : (H : List Held) (d : Temporary) (t : RegionTyp) → is_held (hold H (Some d) t) d ≡ true
becomes_held H d t = go (is_held H d) refl
  where
    go : (b : Bool) → is_held H d ≡ b → is_held (if b then H else H ++ record { temporary = d; typ = t } ∷ []) d ≡ true
    go true e = e
    go false e = held_last H d t

all_stay : (K : KnownTypes) (us : List Action) (H : List Held) (d : Temporary) → is_held H d ≡ true → is_held (held_by K H us) d ≡ true
all_stay K [] H d e = e
all_stay K (a ∷ us) H d e = all_stay K us (hold H (filled a.act) (value_type K H a.act)) d (stays_held H (filled a.act) (value_type K H a.act) d e)

pub filled_are_held : (K : KnownTypes) (us : List Action) (H : List Held) (a : Action) (d : Temporary) → Among a us → filled a.act ≡ Some d → is_held (held_by K H us) d ≡ true
filled_are_held K [] H a d i e = elim i [ ]
filled_are_held K (u ∷ us) H a d here e =
    all_stay K us (hold H (filled u.act) (value_type K H u.act)) d
    (ap (λ o. is_held (hold H o (value_type K H u.act)) d) e ∙ becomes_held H d (value_type K H u.act))
filled_are_held K (u ∷ us) H a d (there i) e = filled_are_held K us (hold H (filled u.act) (value_type K H u.act)) a d i e
