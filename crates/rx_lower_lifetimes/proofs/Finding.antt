-- Where temporaries and variables stand.
use Rattle.std.proofs.Common.{append_assoc, drop, ◌==◌, ◌++◌, Result, Ok, Err, OnOk, ◌≡◌, ℕ, zero, suc, ◌+◌, ◌<◌, ◌≤◌, List, [], ◌∷◌, map, length, slice_get, get_or, Option, Some, None, Bool, true, false, ◌&&◌, if◌then◌else◌, refl, sym, ap, ◌∙◌, arith}
use Rattle.rx_typed.specs.Regions.{RegionTyp, region-Ty}
use Rattle.rx_core.specs.declared.types.Ty.{Ty}
use Rattle.std.proofs.lemmas.List.{at_drop_all, at_drop_more}
use Rattle.std.proofs.lemmas.Bool.Decides.{Decides-eqb}
use Rattle.rx_typed.specs.Tree.{Temporary, Parameter}
use Rattle.rx_typed.specs.declared.tree.Param.{Param}
use Rattle.rx_typed.specs.PlainTree.{plain-Param}
use Rattle.rx_lower_walks.specs.declared.actions.Temporary as code
use Rattle.rx_lower_walks.specs.PlainFlow.{plain-Temporary}
use Rattle.rx_typed.specs.Renaming.{unit_region}
use Rattle.rx_lower_lifetimes.specs.declared.held.Open.{Open}
use Rattle.rx_lower_lifetimes.specs.declared.held.Held.{Held}
use Rattle.rx_lower_lifetimes.specs.Values as values
use Rattle.rx_lower_lifetimes.specs.Values.{same, is_held, held_type, open_unit, hold}
use Rattle.rx_lower_lifetimes.specs.Finding.{place_of}
use Rattle.rx_lower_lifetimes.specs.Variables.{parameter_type}
use Rattle.rx_lower_lifetimes.specs.PlainOf.{plain-Open, plain-Held}

pub found : (hs : List Held) (t : Temporary) (n : ℕ) (h : Held) → n ≡ place_of (map plain-Held hs) t → n < length hs → h ≡ get_or hs n h
    → region-Ty h.ty ≡ held_type (map plain-Held hs) t
found [] t n h e less is = absurd (omega (arith, less))
found (x ∷ hs) t n h e less is = go (same (plain-Held x).temporary t) n (found hs t) e less is
  where
    go : (b : Bool) (n : ℕ) → ((m : ℕ) (k : Held) → m ≡ place_of (map plain-Held hs) t → m < length hs → k ≡ get_or hs m k → region-Ty k.ty ≡ held_type (map plain-Held hs) t)
        → n ≡ (if b then 0 else suc (place_of (map plain-Held hs) t)) → n < suc (length hs) → h ≡ get_or (x ∷ hs) n h
        → region-Ty h.ty ≡ (if b then region-Ty x.ty else held_type (map plain-Held hs) t)
    go true zero f e less is = ap (λ y. region-Ty y.ty) is
    go true (suc n) f e less is = absurd (omega (arith, e))
    go false zero f e less is = absurd (omega (arith, e))
    go false (suc n) f e less is = f n h (omega (arith, e)) (omega (arith, less)) is

pub unfound : (hs : List Held) (t : Temporary) (n : ℕ) → n ≡ place_of (map plain-Held hs) t → length hs ≤ n → unit_region ≡ held_type (map plain-Held hs) t
unfound [] t n e past = refl
unfound (x ∷ hs) t n e past = go (same (plain-Held x).temporary t) n (unfound hs t) e past
  where
    go : (b : Bool) (n : ℕ) → ((m : ℕ) → m ≡ place_of (map plain-Held hs) t → length hs ≤ m → unit_region ≡ held_type (map plain-Held hs) t)
        → n ≡ (if b then 0 else suc (place_of (map plain-Held hs) t)) → suc (length hs) ≤ n
        → unit_region ≡ (if b then region-Ty x.ty else held_type (map plain-Held hs) t)
    go true n f e past = absurd (omega (arith, e, past))
    go false zero f e past = absurd (omega (arith, e))
    go false (suc n) f e past = f n (omega (arith, e)) (omega (arith, past))

abbrev pub open_type : Option Open → RegionTyp
open_type None = unit_region
open_type (Some o) = region-Ty o.ty

pub variable_there : (vs : List Open) (x : ℕ) → (get_or (map plain-Open vs) x open_unit).typ ≡ open_type (slice_get vs x)
variable_there [] x = refl
variable_there (v ∷ vs) zero = refl
variable_there (v ∷ vs) (suc x) = variable_there vs x

-- those before a place, of which none has its node
pub skipped : (hs : List Held) (t : code.Temporary) (k : ℕ) → k ≤ length hs → ((i : ℕ) (h : Held) → i < k → slice_get hs i ≡ Some h → h.temporary.node ≡ t.node → ⊥)
    → k + place_of (map plain-Held (drop k hs)) (plain-Temporary t) ≡ place_of (map plain-Held hs) (plain-Temporary t)
skipped hs t zero within none = omega arith
skipped [] t (suc k) within none = absurd (omega (arith, within))
skipped (h ∷ hs) t (suc k) within none = go (h.temporary.node == t.node) refl (skipped hs t k (omega (arith, within)) (λ i g less. none (suc i) g (omega (arith, less))))
  where
    go : (b : Bool) → (h.temporary.node == t.node) ≡ b → k + place_of (map plain-Held (drop k hs)) (plain-Temporary t) ≡ place_of (map plain-Held hs) (plain-Temporary t)
        → suc k + place_of (map plain-Held (drop k hs)) (plain-Temporary t) ≡ (if b && (h.temporary.which == t.which) then 0 else suc (place_of (map plain-Held hs) (plain-Temporary t)))
    go true e rest = absurd (none zero h (omega arith) refl ((Decides-eqb h.temporary.node t.node).0 e))
    go false e rest = omega (arith, rest)

-- it is filled exactly where it stands among those that are
pub held_before : (hs : List values.Held) (t : Temporary) → place_of hs t < length hs → is_held hs t ≡ true
held_before [] t h = absurd (omega arith)
held_before (x ∷ hs) t h = go (same x.temporary t) (held_before hs t) h
  where
    go : (b : Bool) → (place_of hs t < length hs → is_held hs t ≡ true) → (if b then 0 else suc (place_of hs t)) < suc (length hs) → (if b then true else is_held hs t) ≡ true
    go true f h = refl
    go false f h = f (omega (arith, h))

pub held_behind : (hs : List values.Held) (t : Temporary) → length hs ≤ place_of hs t → is_held hs t ≡ false
held_behind [] t h = refl
held_behind (x ∷ hs) t h = go (same x.temporary t) (held_behind hs t) h
  where
    go : (b : Bool) → (length hs ≤ place_of hs t → is_held hs t ≡ false) → suc (length hs) ≤ (if b then 0 else suc (place_of hs t)) → (if b then true else is_held hs t) ≡ false
    go true f h = absurd (omega (arith, h))
    go false f h = f (omega (arith, h))

-- what becomes of those that are filled
length_plain : (hs : List Held) → length (map plain-Held hs) ≡ length hs
length_plain [] = refl
length_plain (h ∷ hs) = ap suc (length_plain hs)

abbrev hold_if : Bool → List values.Held → values.Held → List values.Held
hold_if b H h = if b then H else H ++ h ∷ []

pub held_stays : (hs : List Held) (o : Option Temporary) (d : Temporary) (t : RegionTyp) (n m : ℕ) → Some d ≡ o → n ≡ place_of (map plain-Held hs) d → n < m → m ≡ length hs
    → map plain-Held hs ≡ hold (map plain-Held hs) o t
held_stays hs o d t n m is e less long =
    let b : is_held (map plain-Held hs) d ≡ true = held_before (map plain-Held hs) d (omega (arith, e, less, long, length_plain hs)) in
    ap (λ c. hold_if c (map plain-Held hs) (record { temporary = d; typ = t })) (sym b) ∙ ap (λ p. hold (map plain-Held hs) p t) is

pub held_grows : (hs made : List Held) (o : Option Temporary) (d : code.Temporary) (ty : Ty) (t : RegionTyp) (n m : ℕ) → Some (plain-Temporary d) ≡ o → n ≡ place_of (map plain-Held hs) (plain-Temporary d)
    → m ≤ n → m ≡ length hs → region-Ty ty ≡ t → made ≡ hs ++ record { temporary = d; ty = ty } ∷ []
    → map plain-Held made ≡ hold (map plain-Held hs) o t
held_grows hs made o d ty t n m is e past long type_is grows =
    let b : is_held (map plain-Held hs) (plain-Temporary d) ≡ false = held_behind (map plain-Held hs) (plain-Temporary d) (omega (arith, e, past, long, length_plain hs)) in
    ap (map plain-Held) grows ∙ mapped hs (record { temporary = d; ty = ty })
    ∙ ap (λ u. map plain-Held hs ++ record { temporary = plain-Temporary d; typ = u } ∷ []) type_is
    ∙ ap (λ c. hold_if c (map plain-Held hs) (record { temporary = plain-Temporary d; typ = t })) (sym b) ∙ ap (λ p. hold (map plain-Held hs) p t) is
  where
    mapped : (xs : List Held) (x : Held) → map plain-Held (xs ++ x ∷ []) ≡ map plain-Held xs ++ plain-Held x ∷ []
    mapped [] x = refl
    mapped (y ∷ xs) x = ap (λ l. plain-Held y ∷ l) (mapped xs x)

pub on_weaker : {A E : Type 0} {P Q : Type 0} (r : Result A E) → (P → Q) → OnOk r P → OnOk r Q
on_weaker (Ok a) f p = f p
on_weaker (Err e) f p = p

-- ---- parameters

pub no_types : (ps : List Parameter) (x : ℕ) → parameter_type ps [] x ≡ None
no_types [] x = refl
no_types (p ∷ ps) x = refl

pub types_end : (ps : List Parameter) (ts : List Ty) (x i : ℕ) → length ts ≤ i → parameter_type ps (drop i ts) x ≡ None
types_end ps ts x i past = at_drop_all (λ l. parameter_type ps l x) ts i past ∙ no_types ps x

apart : (v x : ℕ) → (v ≡ x → ⊥) → (v == x) ≡ false
apart v x differ = go (v == x) refl
  where
    go : (b : Bool) → (v == x) ≡ b → (v == x) ≡ false
    go true e = absurd (differ ((Decides-eqb v x).0 e))
    go false e = e

pub next_type : (ps : List Param) (ts : List Ty) (x i : ℕ) (d : Param) → i < length ps → i < length ts → ((get_or ps i d).variable ≡ x → ⊥)
    → parameter_type (map plain-Param (drop (i + 1) ps)) (drop (i + 1) ts) x ≡ parameter_type (map plain-Param (drop i ps)) (drop i ts) x
next_type [] ts x i d lp lt differ = absurd (omega (arith, lp))
next_type (q ∷ ps) [] x i d lp lt differ = absurd (omega (arith, lt))
next_type (q ∷ ps) (t ∷ ts) x zero d lp lt differ =
    sym (ap (λ b. if b then Some t else parameter_type (map plain-Param ps) ts x) (apart q.variable x differ))
next_type (q ∷ ps) (t ∷ ts) x (suc i) d lp lt differ =
    let e : suc i + 1 ≡ suc (i + 1) = omega arith in
    ap (λ n. parameter_type (map plain-Param (drop n (q ∷ ps))) (drop n (t ∷ ts)) x) e ∙ next_type ps ts x i d (omega (arith, lp)) (omega (arith, lt)) differ

-- ---- the temporaries of those that are filled

abbrev pub temporaries_in : List Held → List Temporary
temporaries_in hs = map (λ h. h.temporary) (map plain-Held hs)

pub temporary_turn : (hs : List Held) (i : ℕ) (h : Held) (all made : List code.Temporary) (whole : List Temporary) → i < length hs → h ≡ get_or hs i h
    → made ≡ all ++ h.temporary ∷ [] → map plain-Temporary all ++ temporaries_in (drop i hs) ≡ whole
    → map plain-Temporary made ++ temporaries_in (drop (i + 1) hs) ≡ whole
temporary_turn hs i h all made whole less is grows so =
    ap (λ l. map plain-Temporary l ++ temporaries_in (drop (i + 1) hs)) grows
    ∙ ap (λ l. l ++ temporaries_in (drop (i + 1) hs)) (mapped all h.temporary)
    ∙ append_assoc (map plain-Temporary all) (plain-Temporary h.temporary ∷ []) (temporaries_in (drop (i + 1) hs))
    ∙ ap (λ l. map plain-Temporary all ++ l) (sym (at_drop_more temporaries_in hs i h less ∙ ap (λ y. temporaries_in (y ∷ drop (i + 1) hs)) (sym is)))
    ∙ so
  where
    mapped : (xs : List code.Temporary) (x : code.Temporary) → map plain-Temporary (xs ++ x ∷ []) ≡ map plain-Temporary xs ++ plain-Temporary x ∷ []
    mapped [] x = refl
    mapped (y ∷ xs) x = ap (λ l. plain-Temporary y ∷ l) (mapped xs x)
