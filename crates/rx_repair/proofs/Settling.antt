-- What the rules say of the type of a value where it stands: the type that its place gets, by what the site makes of it.
use Rattle.std.proofs.Common.{◌≡◌, Bool, true, false, ◌&&◌, List, [], ◌∷◌, ◌++◌, Some, None, refl, sym, ap, ◌∙◌, subst, append_assoc, append-nil}
use Rattle.rx_typed.specs.declared.nodes.Site.{Site}
use Rattle.rx_typed.specs.Types as types
use Rattle.rx_typed.specs.Types.{Typ, integer, boolean, tuple_of, reference, unit_shape, references}
use Rattle.rx_typed.specs.Naming.{passed_on}
use Rattle.rx_typed.specs.Elaborated as elaborated
use Rattle.rx_typed.specs.Elaborated.{Coercion, Met, meet, met}
use Rattle.rx_typeck_solver.specs.Facts.{coerced}
use Rattle.rx_repair.specs.TemporaryTypes.{at_site, own_or}

-- ---- what a type is no more than

-- no struct or enum
abbrev pub NoItem : Typ → Type 0
NoItem (types.named i) = ⊥
NoItem _ = Unit {0}

-- no mutable reference: no coercion changes it
abbrev pub NotLent : Typ → Type 0
NotLent (reference true t) = ⊥
NotLent _ = Unit {0}

pub no_item : (t u : Typ) → t ≡ u → NoItem u → NoItem t
no_item t u e h = subst NoItem (sym e) h

-- ---- coercions

-- the own type of a value, and that of what gets it
abbrev pub Passing : Coercion → Typ → Typ → Type 0
Passing elaborated.plain a w = a ≡ w
Passing elaborated.reborrow a w = (u : Typ) × (a ≡ reference true u) × (w ≡ reference true u)
Passing elaborated.share a w = (u : Typ) × (a ≡ reference true u) × (w ≡ reference false u)

pub coerced_passes : (a e : Typ) → coerced a e ≡ a → Passing (elaborated.coercion a e) a e
coerced_passes (reference true t) (reference true u) h = (t, refl, h)
coerced_passes (reference true t) (reference false u) h = (t, refl, ap (reference false) (let q : u ≡ t = cc in q))
coerced_passes _ _ h = sym h

pub own_passes : (a e : Typ) → e ≡ a → Passing (elaborated.coercion a e) a a
own_passes (reference true t) (reference true u) h = (t, refl, refl)
own_passes (reference true t) (reference false u) h = absurd (cc)
own_passes _ _ h = refl

pub own_is : (c : Coercion) (a w : Typ) → Passing c a w → NotLent a → a ≡ w
own_is elaborated.plain a w h n = h
own_is elaborated.reborrow a w h n = absurd (subst NotLent h.1 n)
own_is elaborated.share a w h n = absurd (subst NotLent h.1 n)

-- what is asked where it stands
abbrev pub Settles : Site → Typ → Typ → Type 0
Settles Site.Expects a e = coerced a e ≡ a
Settles Site.Initialises a e = coerced a e ≡ a
Settles Site.Reborrows a e = e ≡ a
Settles _ a e = Unit {0}

-- the coercion of a site
abbrev pub site_coercion : Site → Typ → Typ → Coercion
site_coercion Site.Value a e = elaborated.plain
site_coercion Site.Place a e = elaborated.plain
site_coercion Site.Scrutinee a e = elaborated.plain
site_coercion _ a e = elaborated.coercion a e

pub settled : (t : Site) (a e : Typ) → Settles t a e → Passing (site_coercion t a e) a (at_site t a e)
settled Site.Value a e h = refl
settled Site.Place a e h = refl
settled Site.Scrutinee a e h = refl
settled Site.Expects a e h = coerced_passes a e h
settled Site.Initialises a e h = coerced_passes a e h
settled Site.Reborrows a e h = own_passes a e h

pub own_settled : (t : Site) (a e : Typ) → Settles t a e → NotLent a → a ≡ at_site t a e
own_settled t a e h n = own_is (site_coercion t a e) a (at_site t a e) (settled t a e h) n

-- ---- parts of what joins values

-- what a part expects, and what it is
abbrev pub Before : Site → Typ → Typ → Type 0
Before Site.Expects em en = em ≡ en
Before Site.Initialises em en = em ≡ en
Before _ em en = Unit {0}

abbrev pub After : Site → Bool → Typ → Typ → Type 0
After Site.Expects v am an = Unit {0}
After Site.Initialises v am an = Unit {0}
After _ v am an = v ≡ false → am ≡ an

site_passed : (t : Site) (a e : Typ) → at_site t a e ≡ at_site (passed_on t) a e
site_passed Site.Value a e = refl
site_passed Site.Place a e = refl
site_passed Site.Scrutinee a e = refl
site_passed Site.Expects a e = refl
site_passed Site.Initialises a e = refl
site_passed Site.Reborrows a e = refl

pub passed_twice : (t : Site) → passed_on (passed_on t) ≡ passed_on t
passed_twice Site.Value = refl
passed_twice Site.Place = refl
passed_twice Site.Scrutinee = refl
passed_twice Site.Expects = refl
passed_twice Site.Initialises = refl
passed_twice Site.Reborrows = refl

own_part : (vm vn : Bool) (am an w : Typ) → (vm ≡ false → vn ≡ false) → (vm ≡ false → am ≡ an) → own_or vm am (own_or vn an w) ≡ own_or vn an w
own_part true vn am an w f h = refl
own_part false vn am an w f h = h refl ∙ ap (λ (b : Bool). own_or b an w) (sym (f refl))

-- a part has the type of the whole where both stand
part_there : (t : Site) (vm vn : Bool) (am em an en w : Typ) → Before t em en → After t vm am an → (vm ≡ false → vn ≡ false)
    → at_site t (own_or vm am (at_site t (own_or vn an w) en)) em ≡ at_site t (own_or vn an w) en
part_there Site.Expects vm vn am em an en w b a f = b
part_there Site.Initialises vm vn am em an en w b a f = b
part_there Site.Value vm vn am em an en w b a f = own_part vm vn am an w f a
part_there Site.Place vm vn am em an en w b a f = own_part vm vn am an w f a
part_there Site.Scrutinee vm vn am em an en w b a f = own_part vm vn am an w f a
part_there Site.Reborrows vm vn am em an en w b a f = own_part vm vn am an w f a

pub part_fits : (s t : Site) (vm vn : Bool) (am em an en w : Typ) → passed_on s ≡ passed_on t → Before t em en → After t vm am an → (vm ≡ false → vn ≡ false)
    → at_site s (own_or vm am (at_site t (own_or vn an w) en)) em ≡ at_site t (own_or vn an w) en
part_fits s t vm vn am em an en w p b a f =
    let x = own_or vm am (at_site t (own_or vn an w) en) in
    site_passed s x em ∙ (ap (λ (u : Site). at_site u x em) p ∙ (sym (site_passed t x em) ∙ part_there t vm vn am em an en w b a f))

-- a body of the unit, under an `if` without `else`
pub lone_fits : (s t : Site) (v : Bool) (am em an en w : Typ) → s ≡ Site.Value → (v ≡ false → am ≡ an) → Settles t an en → NotLent an
    → at_site s (own_or v am (at_site t (own_or (v && false) an w) en)) em ≡ at_site t (own_or (v && false) an w) en
lone_fits s t true am em an en w p h k n = ap (λ (u : Site). at_site u (at_site t an en) em) p
lone_fits s t false am em an en w p h k n = ap (λ (u : Site). at_site u am em) p ∙ (h refl ∙ own_settled t an en k n)

-- ---- binding modes

-- by reference exactly where references are gone through
abbrev pub MetAs : Met → List Bool → Type 0
MetAs None [] = Unit {0}
MetAs None (m ∷ ms) = ⊥
MetAs (Some k) [] = ⊥
MetAs (Some k) (m ∷ ms) = Unit {0}

met_one : (m : Bool) (r : Met) (ms : List Bool) → MetAs (meet m r) (ms ++ m ∷ [])
met_one m None [] = tt
met_one m None (k ∷ ms) = tt
met_one m (Some j) [] = tt
met_one m (Some j) (k ∷ ms) = tt

met_none : (r : Met) (ms : List Bool) → MetAs r ms → MetAs r (ms ++ ([] ++ []))
met_none r ms h = subst (λ (l : List Bool). MetAs r l) (sym (append-nil ms)) h

pub met_as : (t : Typ) (r : Met) (ms : List Bool) → MetAs r ms → MetAs (met t r) (ms ++ (references t ++ []))
met_as (integer k) r ms h = met_none r ms h
met_as boolean r ms h = met_none r ms h
met_as (tuple_of ts) r ms h = met_none r ms h
met_as (reference m t) r ms h = subst (λ (l : List Bool). MetAs (met t (meet m r)) l) (append_assoc ms (m ∷ []) (references t ++ [])) (met_as t (meet m r) (ms ++ m ∷ []) (met_one m r ms))
met_as (types.named i) r ms h = met_none r ms h
