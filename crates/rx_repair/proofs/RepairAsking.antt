-- What a function lacks is the same by any lists of the pairs that fields ask: they impose the same on its lifetimes, and tell the same of
-- its own.
use Rattle.std.proofs.Common.{◌≡◌, inl, inr, ℕ, ◌+◌, Bool, true, false, if◌then◌else◌, List, [], ◌∷◌, ◌++◌, get_or, refl, ap, subst, ◌∙◌}
use Rattle.rx_core.specs.declared.types.Bound.{Bound}
use Rattle.rx_typed.specs.declared.declarations.Decl.{Decl}
use Rattle.rx_typed.specs.Regions.{RegionTyp, RegionTyps, no_region, region_and, regions}
use Rattle.rx_typed.specs.Tree.{Temporary}
use Rattle.rx_lower_walks.specs.Graph.{Site}
use Rattle.rx_lower_walks.specs.Text.{actions_of}
use Rattle.rx_lower_walks.specs.Actions.{Act, Declare, Dead, Read, Write, Borrow, Test, Call, Build, Input, Print, Give, Action}
use Rattle.rx_region_outlives.specs.Implied.{HasPair, implied_in, implied_among}
use Rattle.rx_region_outlives.proofs.ImpliedLemmas.{has_front, has_behind, has_either, implied_told, among_told}
use Rattle.rx_typed.specs.Renaming.{Signature, unit_region}
use Rattle.rx_typed.specs.Places.{part_at}
use Rattle.rx_lower_lifetimes.specs.Numbered.{Own, none, region, signed}
use Rattle.rx_lower_lifetimes.specs.Lowered.{Lifetimes}
use Rattle.rx_region.specs.Constraints.{Context, held, flows, parts_flow, parameters_flow, made_parts, signature_asks, asks, all_ask, is_among, formed, imposed}
use Rattle.rx_region.specs.Known.{KnownToOutlive, itself, by, parameters_ask, told, Missing}
use Rattle.rx_region.specs.Solutions.{Point, Least, whole, ends, live, longer}
use Rattle.rx_check.specs.Contexts.{AreAsked}

-- the second list has all pairs of the first
abbrev Within : List Bound → List Bound → Type 0
Within ps qs = (l k : ℕ) → HasPair ps l k → HasPair qs l k

both_within : (ps qs rs ss : List Bound) → Within ps rs → Within qs ss → Within (ps ++ qs) (rs ++ ss)
both_within ps qs rs ss a b l k h =
    elim (has_either ps qs l k h) [ inl x ↦ has_front rs ss l k (a l k x) | inr y ↦ has_behind rs ss l k (b l k y) ]

chosen_within : (b : Bool) (ps qs : List Bound) → Within ps qs → Within (if b then [] else ps) (if b then [] else qs)
chosen_within true ps qs a l k h = h
chosen_within false ps qs a l k h = a l k h

equal_within : (ps qs : List Bound) → ps ≡ qs → Within ps qs
equal_within ps qs e l k h = subst (λ (x : List Bound). HasPair x l k) e h

abbrev pub context : List Decl → (ℕ → List Bound) → Lifetimes → Context
context D P L = record { items = D; implied = P; lifetimes = L }

module _ (D : List Decl) (P Q : ℕ → List Bound) (asked : AreAsked D P) (other : AreAsked D Q) where
  implied_within : (t : RegionTyp) → Within (implied_in P t) (implied_in Q t)
  implied_within t l k h = (implied_told (regions D) Q t (λ i n. other i) l k).1 ((implied_told (regions D) P t (λ i n. asked i) l k).0 h)

  among_within : (ts : RegionTyps) → Within (implied_among P ts) (implied_among Q ts)
  among_within ts l k h = (among_told (regions D) Q ts (λ i n. other i) l k).1 ((among_told (regions D) P ts (λ i n. asked i) l k).0 h)

  module _ (L : Lifetimes) where
    abbrev first : Context
    first = context D P L

    abbrev second : Context
    second = context D Q L

    signature_within : (S : Signature) → Within (signature_asks first S) (signature_asks second S)
    signature_within S = both_within S.bounds (implied_among P S.params ++ implied_in P S.answer) S.bounds (implied_among Q S.params ++ implied_in Q S.answer) (λ l k h. h)
        (both_within (implied_among P S.params) (implied_in P S.answer) (implied_among Q S.params) (implied_in Q S.answer) (among_within S.params) (implied_within S.answer))

    formed_within : (x : ℕ) (ts : List RegionTyp) → Within (formed first x ts) (formed second x ts)
    formed_within x [] = λ l k h. h
    formed_within x (t ∷ ts) =
        both_within (if is_among x L.params then [] else implied_in P t) (formed first (x + 1) ts) (if is_among x L.params then [] else implied_in Q t) (formed second (x + 1) ts)
        (chosen_within (is_among x L.params) (implied_in P t) (implied_in Q t) (implied_within t)) (formed_within (x + 1) ts)

    parameters_within : (xs : List ℕ) → Within (parameters_ask first xs) (parameters_ask second xs)
    parameters_within [] = λ l k h. h
    parameters_within (x ∷ xs) =
        both_within (implied_in P (get_or L.types x unit_region)) (parameters_ask first xs) (implied_in Q (get_or L.types x unit_region)) (parameters_ask second xs)
        (implied_within (get_or L.types x unit_region)) (parameters_within xs)

    told_within : Within (told first) (told second)
    told_within =
        both_within L.bounds (parameters_ask first L.params ++ implied_in P L.answer) L.bounds (parameters_ask second L.params ++ implied_in Q L.answer) (λ l k h. h)
        (both_within (parameters_ask first L.params) (implied_in P L.answer) (parameters_ask second L.params) (implied_in Q L.answer) (parameters_within L.params) (implied_within L.answer))

    parts_alike : (us : RegionTyps) (is : List ℕ) (ts : List Temporary) → parts_flow first us is ts ≡ parts_flow second us is ts
    parts_alike us [] ts = refl
    parts_alike us (i ∷ is) [] = refl
    parts_alike us (i ∷ is) (t ∷ ts) = λ j. flows first (held first t) (part_at us i) ++ parts_alike us is ts j

    parameters_alike : (us : RegionTyps) (ts : List Temporary) → parameters_flow first us ts ≡ parameters_flow second us ts
    parameters_alike no_region ts = refl
    parameters_alike (region_and u us) [] = refl
    parameters_alike (region_and u us) (t ∷ ts) = λ j. flows first (held first t) u ++ parameters_alike us ts j

    asks_within : (a : Act) (o : Own) → Within (asks first a o) (asks second a o)
    asks_within (Call f ts d) (signed S) =
        both_within (signature_asks first S) (parameters_flow first S.params ts ++ flows first S.answer (held first d))
        (signature_asks second S) (parameters_flow second S.params ts ++ flows second S.answer (held second d)) (signature_within S)
        (equal_within (parameters_flow first S.params ts ++ flows first S.answer (held first d)) (parameters_flow second S.params ts ++ flows second S.answer (held second d))
        (λ j. parameters_alike S.params ts j ++ flows first S.answer (held first d)))
    asks_within (Build w is ts d) o = equal_within (asks first (Build w is ts d) o) (asks second (Build w is ts d) o) (parts_alike (made_parts D w (held second d)) is ts)
    asks_within (Read m p d) o = λ l k h. h
    asks_within (Write p t ss) o = λ l k h. h
    asks_within (Borrow s p d) (region r) = λ l k h. h
    asks_within (Borrow s p d) none = λ l k h. h
    asks_within (Borrow s p d) (signed S) = λ l k h. h
    asks_within (Call f ts d) none = λ l k h. h
    asks_within (Call f ts d) (region r) = λ l k h. h
    asks_within (Give t) o = λ l k h. h
    asks_within (Declare x) o = λ l k h. h
    asks_within (Dead x) o = λ l k h. h
    asks_within (Test p c) o = λ l k h. h
    asks_within (Input d) o = λ l k h. h
    asks_within (Print t) o = λ l k h. h

    all_within : (us : List Action) (os : List Own) → Within (all_ask first us os) (all_ask second us os)
    all_within [] os = λ l k h. h
    all_within (a ∷ us) [] = λ l k h. h
    all_within (a ∷ us) (o ∷ os) =
        both_within (asks first a.act o) (all_ask first us os) (asks second a.act o) (all_ask second us os) (asks_within a.act o) (all_within us os)

    imposed_within : (us : List Action) → Within (imposed first us) (imposed second us)
    imposed_within us =
        both_within (all_ask first us L.owned) (formed first 0 L.types) (all_ask second us L.owned) (formed second 0 L.types) (all_within us L.owned) (formed_within 0 L.types)

    least_alike : (g : List Site) (l : ℕ) (x : Point) → Least first g l x → Least second g l x
    least_alike g l x (whole own there) = whole own there
    least_alike g l x (ends own) = ends own
    least_alike g l x (live r is there) = live r is there
    least_alike g l x (longer k pair h) = longer k (imposed_within (actions_of g) l k pair) (least_alike g k x h)

    known_alike : (l k : ℕ) → KnownToOutlive first l k → KnownToOutlive second l k
    known_alike l k itself = itself
    known_alike l k (by m pair h) = by m (told_within l m pair) (known_alike m k h)

module _ (D : List Decl) (P Q : ℕ → List Bound) (asked : AreAsked D P) (other : AreAsked D Q) (L : Lifetimes) where
  pub missing_alike : (g : List Site) (l k : ℕ) → Missing (context D P L) g l k → Missing (context D Q L) g l k
  missing_alike g l k m = record {
    long = m.long;
    short = m.short;
    needed = least_alike D P Q asked other L g l _ m.needed;
    unknown = λ h. m.unknown (known_alike D Q P other asked L l k h);
  }
