-- What a function makes, a struct or enum, goes where one of its type is wanted (Rust Reference, "Struct expressions", "Enumerations").
use Rattle.std.specs.Prelude.{◌≡◌, ℕ, List, [], ◌∷◌, ◌++◌, Some}
use Rattle.rx_typed.specs.Regions.{RegionTyp, erased}
use Rattle.rx_typed.specs.Types.{Typ, named}
use Rattle.rx_typed.specs.Tree.{Temporary, Making, struct, variant_of}
use Rattle.rx_lower_walks.specs.Actions.{Act, Build, Action, does, filled}
use Rattle.rx_lower_walks.specs.Walks.{Among}
use Rattle.rx_lower_lifetimes.specs.Values.{KnownTypes, Held, value_type, held_by}
use Rattle.rx_region.specs.Constraints.{Context, held}

-- what gets a struct or enum that is made has its type
abbrev pub IsOfItem : Making → RegionTyp → Type 0
IsOfItem (struct i) t = erased t ≡ named i
IsOfItem (variant_of i v) t = erased t ≡ named i
IsOfItem _ t = Unit {0}

abbrev pub ActIsOfItem : Context → Act → Type 0
ActIsOfItem C (Build w is ts d) = IsOfItem w (held C d)
ActIsOfItem C _ = Unit {0}

-- of all that these actions make
abbrev pub AreOfItems : Context → List Action → Type 0
AreOfItems C us = (a : Action) → Among a us → ActIsOfItem C a.act

-- ---- types of temporaries, without lifetimes

-- temporaries that are held have these types
abbrev pub HeldAs : (Temporary → Typ) → List Held → Type 0
HeldAs T [] = Unit {0}
HeldAs T (h ∷ hs) = (erased h.typ ≡ T h.temporary) × HeldAs T hs

-- each action makes a value of the type of the temporary that it fills, where those that were filled before have theirs
abbrev pub ValuesAre : KnownTypes → (Temporary → Typ) → List Action → Type 0
ValuesAre K T us = (before after : List Action) (a : Action) (d : Temporary) → us ≡ before ++ a ∷ after → filled a.act ≡ Some d
    → HeldAs T (held_by K [] before) → erased (value_type K (held_by K [] before) a.act) ≡ T d

-- a struct or enum that is made is of the type of the temporary that gets it
abbrev pub ItemIs : Making → Typ → Type 0
ItemIs (struct i) t = t ≡ named i
ItemIs (variant_of i v) t = t ≡ named i
ItemIs _ t = Unit {0}

abbrev pub ItemsAre : (Temporary → Typ) → List Action → Type 0
ItemsAre T us = (n : ℕ) (w : Making) (is : List ℕ) (ts : List Temporary) (d : Temporary) → Among (does n (Build w is ts d)) us → ItemIs w (T d)
