-- The types of variables have as many lifetimes as what they name declares where these do with their lifetimes numbered.
use Rattle.std.proofs.Common.{◌≡◌, ℕ, suc, ◌+◌, List, [], ◌∷◌, ◌++◌, length, refl, sym, ap, ◌∙◌}
use Rattle.rx_typed.specs.Regions.{RegionTyp, region_integer, region_boolean, region_tuple, region_reference, region_named, RegionTyps, no_region, region_and}
use Rattle.rx_typed.specs.Types.{Declarations}
use Rattle.rx_typed.specs.Numbers.{open_one, open_in, numbers, numbered, all_numbered as types_numbered}
use Rattle.rx_lower_walks.specs.Walks.{Among, here, there}
use Rattle.rx_lower_lifetimes.specs.Values.{Open, Held}
use Rattle.rx_lower_lifetimes.specs.Numbered.{all_numbered, opened}
use Rattle.rx_repair.specs.Fitting.{HasAll, HaveAll}

abbrev pub AllOpen : Declarations → List Open → Type 0
AllOpen E [] = Unit {0}
AllOpen E (o ∷ os) = HasAll E o.typ × AllOpen E os

abbrev pub AllHeld : Declarations → List Held → Type 0
AllHeld E [] = Unit {0}
AllHeld E (h ∷ hs) = HasAll E h.typ × AllHeld E hs

as_many : (from next : ℕ) (ls : List ℕ) → length (numbers from next ls) ≡ length ls
as_many from next [] = refl
as_many from next (l ∷ ls) = ap (λ n. suc n) (as_many from (next + open_one from l) ls)

module _ (E : Declarations) (from : ℕ) where
  mutual
    was_whole : (t : RegionTyp) (next : ℕ) → HasAll E (numbered from next t) → HasAll E t
    was_whole (region_integer k) next h = tt
    was_whole region_boolean next h = tt
    was_whole (region_tuple ts) next h = were_whole ts next h
    was_whole (region_reference m l t) next h = was_whole t (next + open_one from l) h
    was_whole (region_named i ls) next h = sym (as_many from next ls) ∙ h

    were_whole : (ts : RegionTyps) (next : ℕ) → HaveAll E (types_numbered from next ts) → HaveAll E ts
    were_whole no_region next h = tt
    were_whole (region_and t ts) next h = (was_whole t next h.0, were_whole ts (next + open_in from t) h.1)

all_whole : (E : Declarations) (vs : List Open) (next : ℕ) → ((t : RegionTyp) → Among t (all_numbered next vs) → HasAll E t) → AllOpen E vs
all_whole E [] next h = tt
all_whole E (v ∷ vs) next h =
    (was_whole E v.from v.typ next (h (numbered v.from next v.typ) here), all_whole E vs (next + open_in v.from v.typ) (λ t w. h t (there w)))

front_whole : (E : Declarations) (vs ws : List Open) → AllOpen E (vs ++ ws) → AllOpen E vs
front_whole E [] ws h = tt
front_whole E (v ∷ vs) ws h = (h.0, front_whole E vs ws h.1)

behind_whole : (E : Declarations) (vs : List Open) (hs : List Held) → AllOpen E (vs ++ opened hs) → AllHeld E hs
behind_whole E (v ∷ vs) hs h = behind_whole E vs hs h.1
behind_whole E [] [] h = tt
behind_whole E [] (x ∷ hs) h = (h.0, behind_whole E [] hs h.1)

pub variables_whole : (E : Declarations) (vs : List Open) (hs : List Held) (next : ℕ) → ((t : RegionTyp) → Among t (all_numbered next (vs ++ opened hs)) → HasAll E t) → AllOpen E vs × AllHeld E hs
variables_whole E vs hs next h = let a = all_whole E (vs ++ opened hs) next h in (front_whole E vs (opened hs) a, behind_whole E vs hs a)
