-- The types of a function's variables and temporaries have as many lifetimes as what they name declares: along the actions that fill
-- temporaries, since what an action makes of such types is of such a type.
use Rattle.std.proofs.Common.{◌≡◌, ℕ, zero, suc, ◌+◌, Bool, true, false, ◌&&◌, ◌==◌, if◌then◌else◌, List, [], ◌∷◌, ◌++◌, map, get_or, Option, Some, None, option_map, slice_get, refl, sym, ap, ◌∙◌, true≢false}
use Rattle.std.proofs.lemmas.Bool.{and_parts}
use Rattle.std.proofs.lemmas.List.{length-replicate}
use Rattle.std.proofs.lemmas.Option.{slice_get-map}
use Rattle.rx_core.specs.declared.types.Ty.{Ty}
use Rattle.rx_typed.specs.declared.declarations.Decl.{Decl}
use Rattle.rx_typed.specs.declared.declarations.Decl.TheVariants as decl
use Rattle.rx_typed.specs.PlainTypes.{declarations, plain-Decl}
use Rattle.rx_typed.specs.Regions.{RegionTyp, region_boolean, regions_of, region-Ty}
use Rattle.rx_typed.specs.Types.{Declarations, lifetimes_declared}
use Rattle.rx_typed.specs.Tree.{Temporary, Root, variable, temporary, Place, Constant, whole_number, truth, Making, constant, negation, inversion, operation, lazy, tuple, struct, variant_of}
use Rattle.rx_typed.specs.Tree as tree
use Rattle.rx_typed_declarations.specs.WellFormed.{is_adt, fits, all_fit, bounds_fit, signature_fits, WellSigned}
use Rattle.rx_typed.specs.Numbers.{open_in}
use Rattle.rx_lower_walks.specs.Actions.{Act, Read, Borrow, Call, Build, Input, Action, filled}
use Rattle.rx_lower_walks.specs.Walks.{Among}
use Rattle.rx_lower_walks.specs.Walks as walks
use Rattle.rx_lower_lifetimes.specs.Values.{Open, KnownTypes, Held, lifetimes_of, same, is_held, held_type, open_unit, root_type, type_in, constant_type, compares, first, made_item, made_type, result_type, value_type, hold, held_by}
use Rattle.rx_lower_lifetimes.specs.Variables.{Written, parameter_type, written_type, told, raw_type, open_type, open_types}
use Rattle.rx_lower_lifetimes.specs.Numbered.{all_numbered, opened}
use Rattle.rx_repair.specs.Fitting.{HasAll, HaveAll}
use Rattle.rx_repair.proofs.RenamingPlaces.{Good}
use Rattle.rx_repair.proofs.Having.{numbered_has, fits_has, place_has}

-- ---- lists of types

abbrev pub AllHave : Declarations → List RegionTyp → Type 0
AllHave E [] = Unit {0}
AllHave E (t ∷ ts) = HasAll E t × AllHave E ts

abbrev pub AllOpen : Declarations → List Open → Type 0
AllOpen E [] = Unit {0}
AllOpen E (o ∷ os) = HasAll E o.typ × AllOpen E os

abbrev pub AllHeld : Declarations → List Held → Type 0
AllHeld E [] = Unit {0}
AllHeld E (h ∷ hs) = HasAll E h.typ × AllHeld E hs

abbrev pub AllWritten : Declarations → List Written → Type 0
AllWritten E [] = Unit {0}
AllWritten E (w ∷ ws) = HasAll E w.typ × AllWritten E ws

-- of a type that may be there
abbrev pub MayHave : Declarations → Option Ty → Type 0
MayHave E None = Unit {0}
MayHave E (Some t) = HasAll E (region-Ty t)

abbrev pub AllMayHave : Declarations → List (Option Ty) → Type 0
AllMayHave E [] = Unit {0}
AllMayHave E (o ∷ os) = MayHave E o × AllMayHave E os

-- what is made is a struct or enum, where it is one of an item
abbrev pub MakesItem : Declarations → Making → Type 0
MakesItem E (struct i) = is_adt (slice_get E i) ≡ true
MakesItem E (variant_of i v) = is_adt (slice_get E i) ≡ true
MakesItem E _ = Unit {0}

abbrev pub ActMakes : Declarations → Act → Type 0
ActMakes E (Build w is ts d) = MakesItem E w
ActMakes E _ = Unit {0}

abbrev pub AllMake : Declarations → List Action → Type 0
AllMake E [] = Unit {0}
AllMake E (a ∷ us) = ActMakes E a.act × AllMake E us

module _ (E : Declarations) where
  pub one_has : (t : RegionTyp) (ts : List RegionTyp) → AllHave E ts → Among t ts → HasAll E t
  one_has t [] h w = elim w [ ]
  one_has _ (t ∷ ts) h walks.here = h.0
  one_has t (u ∷ ts) h (walks.there w) = one_has t ts h.1 w

  variable_has : (V : List Open) (x : ℕ) → AllOpen E V → HasAll E (get_or V x open_unit).typ
  variable_has [] x h = tt
  variable_has (o ∷ V) zero h = h.0
  variable_has (o ∷ V) (suc x) h = variable_has V x h.1

  held_has : (H : List Held) (t : Temporary) → AllHeld E H → HasAll E (held_type H t)
  held_has [] t h = tt
  held_has (x ∷ H) t h = by (same x.temporary t) (held_has H t h.1)
    where
      by : (b : Bool) → HasAll E (held_type H t) → HasAll E (if b then x.typ else held_type H t)
      by true k = h.0
      by false k = k

  all_held_have : (H : List Held) (ts : List Temporary) → AllHeld E H → AllHave E (map (held_type H) ts)
  all_held_have H [] h = tt
  all_held_have H (t ∷ ts) h = (held_has H t h, all_held_have H ts h)

  first_has : (ts : List RegionTyp) → AllHave E ts → HasAll E (first ts)
  first_has [] h = tt
  first_has (t ∷ ts) h = h.0

  pub regions_have : (ts : List RegionTyp) → AllHave E ts → HaveAll E (regions_of ts)
  regions_have [] h = tt
  regions_have (t ∷ ts) h = (h.0, regions_have ts h.1)

  one_more : (H : List Held) (x : Held) → AllHeld E H → HasAll E x.typ → AllHeld E (H ++ x ∷ [])
  one_more [] x h k = (k, tt)
  one_more (y ∷ H) x h k = (h.0, one_more H x h.1 k)

  hold_has : (H : List Held) (o : Option Temporary) (t : RegionTyp) → AllHeld E H → HasAll E t → AllHeld E (hold H o t)
  hold_has H None t h k = h
  hold_has H (Some d) t h k = by (is_held H d)
    where
      by : (b : Bool) → AllHeld E (if b then H else H ++ record { temporary = d; typ = t } ∷ [])
      by true = h
      by false = one_more H (record { temporary = d; typ = t }) h k

  -- ---- the types that are opened have numbers

  pub numbers_have : (next : ℕ) (W : List Open) → AllOpen E W → AllHave E (all_numbered next W)
  numbers_have next [] h = tt
  numbers_have next (o ∷ W) h = (numbered_has E o.from next o.typ h.0, numbers_have (next + open_in o.from o.typ) W h.1)

  pub opened_have : (V : List Open) (H : List Held) → AllOpen E V → AllHeld E H → AllOpen E (V ++ opened H)
  opened_have [] [] h k = tt
  opened_have [] (x ∷ H) h k = (k.0, opened_have [] H tt k.1)
  opened_have (o ∷ V) H h k = (h.0, opened_have V H h.1 k)

  -- ---- variables

  parameter_has : (ps : List tree.Parameter) (ts : List Ty) (x : ℕ) → AllHave E (map region-Ty ts) → MayHave E (parameter_type ps ts x)
  parameter_has [] ts x h = tt
  parameter_has (p ∷ ps) [] x h = tt
  parameter_has (p ∷ ps) (t ∷ ts) x h = by (p.variable == x) (parameter_has ps ts x h.1)
    where
      by : (b : Bool) → MayHave E (parameter_type ps ts x) → MayHave E (if b then Some t else parameter_type ps ts x)
      by true k = h.0
      by false k = k

  abbrev MayBe : Option RegionTyp → Type 0
  MayBe None = Unit {0}
  MayBe (Some t) = HasAll E t

  written_has : (ws : List Written) (x : ℕ) → AllWritten E ws → MayBe (written_type ws x)
  written_has [] x h = tt
  written_has (w ∷ ws) x h = by (w.variable == x) (written_has ws x h.1)
    where
      by : (b : Bool) → MayBe (written_type ws x) → MayBe (if b then Some w.typ else written_type ws x)
      by true k = h.0
      by false k = k

  told_has : (o : Option Ty) (w : Option RegionTyp) → MayHave E o → MayBe w → MayBe (told o w)
  told_has (Some t) w h k = h
  told_has None w h k = k

  raw_has : (r : Option Ty) → MayHave E r → HasAll E (raw_type r)
  raw_has None h = tt
  raw_has (Some t) h = h

  open_has : (own : ℕ) (o : Option RegionTyp) (r : Option Ty) → MayBe o → MayHave E r → HasAll E (open_type own o r).typ
  open_has own (Some t) r h k = h
  open_has own None r h k = raw_has r k

  pub variables_have : (own : ℕ) (ps : List tree.Parameter) (ts : List Ty) (ws : List Written) (x : ℕ) (rs : List (Option Ty))
      → AllHave E (map region-Ty ts) → AllWritten E ws → AllMayHave E rs → AllOpen E (open_types own ps ts ws x rs)
  variables_have own ps ts ws x [] h k l = tt
  variables_have own ps ts ws x (r ∷ rs) h k l = (
    open_has own (told (parameter_type ps ts x) (written_type ws x)) r (told_has (parameter_type ps ts x) (written_type ws x) (parameter_has ps ts x h) (written_has ws x k)) l.0,
    variables_have own ps ts ws (suc x) rs h k l.1,
  )

-- ---- what actions make

count_is : (o : Option Decl) → is_adt (option_map plain-Decl o) ≡ true → lifetimes_of o ≡ lifetimes_declared (option_map plain-Decl o)
count_is None e = absurd (true≢false (sym e))
count_is (Some decl.Rt) e = absurd (true≢false (sym e))
count_is (Some (decl.Struct c l vs fs)) e = refl
count_is (Some (decl.Enum c l vs ds)) e = refl
count_is (Some (decl.Func l ps t bs)) e = absurd (true≢false (sym e))

pub item_has : (D : List Decl) (i : ℕ) → is_adt (slice_get (declarations D) i) ≡ true → HasAll (declarations D) (made_item D i)
item_has D i e =
    let at = slice_get-map plain-Decl D i in
    length-replicate (lifetimes_of (slice_get D i)) 0 ∙ (count_is (slice_get D i) (ap is_adt (sym at) ∙ e) ∙ ap lifetimes_declared (sym at))

module _ (D : List Decl) (good : Good D) (signed : WellSigned D) (V : List Open) (variables : AllOpen (declarations D) V) where
  abbrev K : KnownTypes
  K = record { items = D; variables = V }

  root_has : (H : List Held) (r : Root) → AllHeld (declarations D) H → HasAll (declarations D) (root_type K H r)
  root_has H (variable x) h = variable_has (declarations D) V x variables
  root_has H (temporary t) h = held_has (declarations D) H t h

  read_has : (H : List Held) (p : Place) → AllHeld (declarations D) H → HasAll (declarations D) (type_in K H p)
  read_has H p h = place_has D good (root_type K H p.root) p.steps (root_has H p.root h)

  result_has : (o : Option Decl) → ((d : Decl) → o ≡ Some d → signature_fits (declarations D) d ≡ true) → HasAll (declarations D) (result_type o)
  result_has None h = tt
  result_has (Some decl.Rt) h = tt
  result_has (Some (decl.Struct c l vs fs)) h = tt
  result_has (Some (decl.Enum c l vs ds)) h = tt
  result_has (Some (decl.Func l ps t bs)) h =
      let x = and_parts (all_fit (declarations D) l (regions_of (map region-Ty ps)) && fits (declarations D) l (region-Ty t)) (bounds_fit l bs) (h (decl.Func l ps t bs) refl) in
      fits_has (declarations D) l (region-Ty t) (and_parts (all_fit (declarations D) l (regions_of (map region-Ty ps))) (fits (declarations D) l (region-Ty t)) x.0).1

  operation_has : (b : Bool) (ts : List RegionTyp) → AllHave (declarations D) ts → HasAll (declarations D) (if b then region_boolean else first ts)
  operation_has true ts h = tt
  operation_has false ts h = first_has (declarations D) ts h

  constant_has : (c : Constant) → HasAll (declarations D) (constant_type c)
  constant_has (whole_number k z) = tt
  constant_has (truth b) = tt

  made_has : (w : Making) (ts : List RegionTyp) → MakesItem (declarations D) w → AllHave (declarations D) ts → HasAll (declarations D) (made_type D w ts)
  made_has (constant c) ts m h = constant_has c
  made_has negation ts m h = first_has (declarations D) ts h
  made_has inversion ts m h = tt
  made_has (operation o) ts m h = operation_has (compares o) ts h
  made_has lazy ts m h = tt
  made_has tuple ts m h = regions_have (declarations D) ts h
  made_has (struct i) ts m h = item_has D i m
  made_has (variant_of i v) ts m h = item_has D i m

  value_has : (H : List Held) (a : Act) → AllHeld (declarations D) H → ActMakes (declarations D) a → HasAll (declarations D) (value_type K H a)
  value_has H (Read m p d) h k = read_has H p h
  value_has H (Borrow m p d) h k = read_has H p h
  value_has H (Call f ts d) h k = result_has (slice_get D f) (λ d e. signed.signatures f d e)
  value_has H (Build w is ts d) h k = made_has w (map (held_type H) ts) k (all_held_have (declarations D) H ts h)
  value_has H (Input d) h k = tt
  value_has H _ h k = tt

  pub held_have : (H : List Held) (us : List Action) → AllHeld (declarations D) H → AllMake (declarations D) us → AllHeld (declarations D) (held_by K H us)
  held_have H [] h k = h
  held_have H (a ∷ us) h k = held_have (hold H (filled a.act) (value_type K H a.act)) us
      (hold_has (declarations D) H (filled a.act) (value_type K H a.act) h (value_has H a.act h k.0)) k.1
