-- The temporaries of a function are the same, with types of the same form, where the signature of one function is short: along the actions
-- that fill them, since what an action makes is told by the forms of what it reads.
use Rattle.std.proofs.Common.{◌≡◌, inl, inr, ℕ, zero, suc, Bool, true, false, if◌then◌else◌, List, [], ◌∷◌, ◌++◌, map, get_or, replicate, Option, Some, None, slice_get, refl, sym, ap, ap₂, subst, ◌∙◌}
use Rattle.std.proofs.lemmas.List.{length-replicate}
use Rattle.rx_core.specs.declared.types.Step.{Step}
use Rattle.rx_typed.specs.declared.declarations.Decl.{Decl}
use Rattle.rx_typed.specs.PlainTypes.{declarations}
use Rattle.rx_typed.specs.Places.{place_type}
use Rattle.rx_typed.specs.Regions.{RegionTyp, region_boolean, region_tuple, region_reference, region_named, RegionTyps, no_region, region_and, regions_of, region-Ty}
use Rattle.rx_typed.specs.Renaming.{renamed, all_renamed}
use Rattle.rx_typed.specs.Types.{Declarations, lifetimes_declared}
use Rattle.rx_typed.specs.Tree.{Temporary, Root, variable, temporary, Place, Making, constant, negation, inversion, operation, lazy, tuple, struct, variant_of}
use Rattle.rx_lower_walks.specs.Actions.{Act, Declare, Dead, Read, Write, Borrow, Test, Call, Build, Input, Print, Give, Action, filled}
use Rattle.rx_lower_lifetimes.specs.Values.{Open, KnownTypes, Held, lifetimes_of, same, is_held, held_type, open_unit, root_type, type_in, compares, first, made_item, made_type, result_type, value_type, hold, held_by}
use Rattle.rx_lower_lifetimes.specs.Numbered.{opened}
use Rattle.rx_repair.specs.Fitting.{HasAll}
use Rattle.rx_repair.proofs.Deciding.{same_or}
use Rattle.rx_compact_types.specs.Positions.{no_number}
use Rattle.rx_compact_types.proofs.Filling.{unnumbered_same}
use Rattle.rx_compact_accepted.specs.AreShort.{AreShort}
use Rattle.rx_compact_accepted.proofs.Items.{place_same, result_elsewhere}
use Rattle.rx_compact_accepted.proofs.Fitted.{AllOpen, AllHeld}
use Rattle.rx_compact_accepted.proofs.PlacesRenamed.{Good, place_is}
use Rattle.rx_compact_accepted.proofs.Types.{form, OpenUnder, AllUnder}

-- the same temporaries, with types of the same form
abbrev pub AllLike : List Held → List Held → Type 0
AllLike [] [] = Unit {0}
AllLike (h ∷ hs) (k ∷ ks) = ((k.temporary ≡ h.temporary) × (form k.typ ≡ form h.typ)) × AllLike hs ks
AllLike _ _ = ⊥

-- ---- what is held

is_held_same : (hs ks : List Held) → AllLike hs ks → (d : Temporary) → is_held ks d ≡ is_held hs d
is_held_same [] [] l d = refl
is_held_same [] (k ∷ ks) l d = absurd l
is_held_same (h ∷ hs) [] l d = absurd l
is_held_same (h ∷ hs) (k ∷ ks) l d = ap₂ (λ t b. if same t d then true else b) l.0.0 (is_held_same hs ks l.1 d)

held_form : (hs ks : List Held) → AllLike hs ks → (d : Temporary) → form (held_type ks d) ≡ form (held_type hs d)
held_form [] [] l d = refl
held_form [] (k ∷ ks) l d = absurd l
held_form (h ∷ hs) [] l d = absurd l
held_form (h ∷ hs) (k ∷ ks) l d = ap (λ t. form (if same t d then k.typ else held_type ks d)) l.0.0 ∙ by (same h.temporary d) (held_form hs ks l.1 d)
  where
    by : (b : Bool) → form (held_type ks d) ≡ form (held_type hs d) → form (if b then k.typ else held_type ks d) ≡ form (if b then h.typ else held_type hs d)
    by true e = l.0.1
    by false e = e

like_more : (hs ks : List Held) (h k : Held) → AllLike hs ks → k.temporary ≡ h.temporary → form k.typ ≡ form h.typ → AllLike (hs ++ h ∷ []) (ks ++ k ∷ [])
like_more [] [] h k l e g = ((e, g), tt)
like_more [] (y ∷ ks) h k l e g = absurd l
like_more (x ∷ hs) [] h k l e g = absurd l
like_more (x ∷ hs) (y ∷ ks) h k l e g = (l.0, like_more hs ks h k l.1 e g)

-- where one is added its type is of the same form
hold_like : (hs ks : List Held) → AllLike hs ks → (o : Option Temporary) (t u : RegionTyp) → ((d : Temporary) → o ≡ Some d → is_held hs d ≡ false → form u ≡ form t) → AllLike (hold hs o t) (hold ks o u)
hold_like hs ks l None t u e = l
hold_like hs ks l (Some d) t u e =
    subst (λ b. AllLike (hold hs (Some d) t) (if b then ks else ks ++ record { temporary = d; typ = u } ∷ [])) (sym (is_held_same hs ks l d)) (by (is_held hs d) refl)
  where
    by : (b : Bool) → is_held hs d ≡ b → AllLike (if b then hs else hs ++ record { temporary = d; typ = t } ∷ []) (if b then ks else ks ++ record { temporary = d; typ = u } ∷ [])
    by true q = l
    by false q = like_more hs ks (record { temporary = d; typ = t }) (record { temporary = d; typ = u }) l refl (e d refl q)

-- ---- those that are held in the end

front_held : (E : Declarations) (hs : List Held) (x : Held) → AllHeld E (hs ++ x ∷ []) → AllHeld E hs
front_held E [] x h = tt
front_held E (y ∷ hs) x h = (h.0, front_held E hs x h.1)

last_held : (E : Declarations) (hs : List Held) (x : Held) → AllHeld E (hs ++ x ∷ []) → HasAll E x.typ
last_held E [] x h = h.0
last_held E (y ∷ hs) x h = last_held E hs x h.1

before_hold : (E : Declarations) (hs : List Held) (o : Option Temporary) (t : RegionTyp) → AllHeld E (hold hs o t) → AllHeld E hs
before_hold E hs None t h = h
before_hold E hs (Some d) t h = by (is_held hs d) h
  where
    by : (b : Bool) → AllHeld E (if b then hs else hs ++ record { temporary = d; typ = t } ∷ []) → AllHeld E hs
    by true k = k
    by false k = front_held E hs (record { temporary = d; typ = t }) k

added_held : (E : Declarations) (hs : List Held) (d : Temporary) (t : RegionTyp) → is_held hs d ≡ false → AllHeld E (hold hs (Some d) t) → HasAll E t
added_held E hs d t q h = last_held E hs (record { temporary = d; typ = t }) (subst (λ b. AllHeld E (if b then hs else hs ++ record { temporary = d; typ = t } ∷ [])) q h)

before_all : (E : Declarations) (K : KnownTypes) (us : List Action) (hs : List Held) → AllHeld E (held_by K hs us) → AllHeld E hs
before_all E K [] hs h = h
before_all E K (a ∷ us) hs h = before_hold E hs (filled a.act) (value_type K hs a.act) (before_all E K us (hold hs (filled a.act) (value_type K hs a.act)) h)

pub opened_under : (own new_own : ℕ) (g : ℕ → ℕ) (hs ks : List Held) → AllLike hs ks → AllUnder own new_own g (opened hs) (opened ks)
opened_under own new_own g [] [] l = tt
opened_under own new_own g [] (k ∷ ks) l = absurd l
opened_under own new_own g (h ∷ hs) [] l = absurd l
opened_under own new_own g (h ∷ hs) (k ∷ ks) l = (inr (refl, refl, l.0.1), opened_under own new_own g hs ks l.1)

pub same_temporaries : (hs ks : List Held) → AllLike hs ks → map (λ (h : Held). h.temporary) ks ≡ map (λ (h : Held). h.temporary) hs
same_temporaries [] [] l = refl
same_temporaries [] (k ∷ ks) l = absurd l
same_temporaries (h ∷ hs) [] l = absurd l
same_temporaries (h ∷ hs) (k ∷ ks) l = ap₂ (λ t ts. t ∷ ts) l.0.0 (same_temporaries hs ks l.1)

-- it has as many lifetimes as it names
held_has : (E : Declarations) (hs : List Held) (d : Temporary) → AllHeld E hs → HasAll E (held_type hs d)
held_has E [] d h = tt
held_has E (x ∷ hs) d h = by (same x.temporary d) (held_has E hs d h.1)
  where
    by : (b : Bool) → HasAll E (held_type hs d) → HasAll E (if b then x.typ else held_type hs d)
    by true k = h.0
    by false k = k

variable_has : (E : Declarations) (vs : List Open) (x : ℕ) → AllOpen E vs → HasAll E (get_or vs x open_unit).typ
variable_has E [] x h = tt
variable_has E (v ∷ vs) zero h = h.0
variable_has E (v ∷ vs) (suc x) h = variable_has E vs x h.1

variable_form : (own new_own : ℕ) (g : ℕ → ℕ) (vs ws : List Open) → AllUnder own new_own g vs ws → (x : ℕ) → form (get_or ws x open_unit).typ ≡ form (get_or vs x open_unit).typ
variable_form own new_own g [] [] h x = refl
variable_form own new_own g [] (w ∷ ws) h x = absurd h
variable_form own new_own g (v ∷ vs) [] h x = absurd h
variable_form own new_own g (v ∷ vs) (w ∷ ws) h zero = elim h.0 [
  | inl e ↦ ap form e.2 ∙ unnumbered_same g v.typ
  | inr e ↦ e.2
]
variable_form own new_own g (v ∷ vs) (w ∷ ws) h (suc x) = variable_form own new_own g vs ws h.1 x

-- ---- what is made, by the forms of the operands

row_form : (ts : List RegionTyp) → all_renamed no_number (regions_of ts) ≡ regions_of (map form ts)
row_form [] = refl
row_form (t ∷ ts) = ap (λ us. region_and (form t) us) (row_form ts)

first_form : (ts : List RegionTyp) → form (first ts) ≡ first (map form ts)
first_form [] = refl
first_form (t ∷ ts) = refl

module _ (i : ℕ) (f : ℕ → ℕ) (D E : List Decl) (S : AreShort i f D E) where
  -- what is made has as many lifetimes as its item declares without lifetimes
  item_made : (k : ℕ) → HasAll (declarations D) (made_item D k) → HasAll (declarations E) (made_item E k) → made_item E k ≡ made_item D k
  item_made k h w =
      let a = length-replicate (lifetimes_of (slice_get D k)) 0 in
      let b = length-replicate (lifetimes_of (slice_get E k)) 0 in
      ap (λ n. region_named k (replicate n 0)) (sym b ∙ (w ∙ (ap (λ A. lifetimes_declared (slice_get A k)) S.plain ∙ (sym h ∙ a))))

  made_form : (w : Making) (ts us : List RegionTyp) → HasAll (declarations D) (made_type D w ts) → HasAll (declarations E) (made_type E w us) → map form us ≡ map form ts → form (made_type E w us) ≡ form (made_type D w ts)
  made_form (constant c) ts us m n e = refl
  made_form negation ts us m n e = first_form us ∙ (ap first e ∙ sym (first_form ts))
  made_form inversion ts us m n e = refl
  made_form (operation o) ts us m n e = by (compares o)
    where
      by : (b : Bool) → form (if b then region_boolean else first us) ≡ form (if b then region_boolean else first ts)
      by true = refl
      by false = first_form us ∙ (ap first e ∙ sym (first_form ts))
  made_form lazy ts us m n e = refl
  made_form tuple ts us m n e = ap region_tuple (row_form us ∙ (ap regions_of e ∙ sym (row_form ts)))
  made_form (struct k) ts us m n e = ap form (item_made k m n)
  made_form (variant_of k v) ts us m n e = ap form (item_made k m n)

  result_form : (j : ℕ) → form (result_type (slice_get E j)) ≡ form (result_type (slice_get D j))
  result_form j = elim (same_or j i) [
    | inl e ↦ subst (λ k. form (result_type (slice_get E k)) ≡ form (result_type (slice_get D k))) (sym e)
        (ap (λ o. form (result_type o)) S.like.under.new ∙ (ap form S.like.under.answer_is ∙ (unnumbered_same f (region-Ty S.like.under.answer) ∙ sym (ap (λ o. form (result_type o)) S.like.under.old))))
    | inr ne ↦ ap form (result_elsewhere i f D E S.like j ne)
  ]

  module _ (good : Good D) (new_good : Good E) (own new_own : ℕ) (g : ℕ → ℕ) (vs ws : List Open)
      (fit : AllOpen (declarations D) vs) (new_fit : AllOpen (declarations E) ws) (under : AllUnder own new_own g vs ws) where
    abbrev K : KnownTypes
    K = record { items = D; variables = vs }

    abbrev J : KnownTypes
    J = record { items = E; variables = ws }

    root_form : (hs ks : List Held) → AllLike hs ks → (r : Root) → form (root_type J ks r) ≡ form (root_type K hs r)
    root_form hs ks l (variable x) = variable_form own new_own g vs ws under x
    root_form hs ks l (temporary d) = held_form hs ks l d

    root_has : (hs : List Held) → AllHeld (declarations D) hs → (r : Root) → HasAll (declarations D) (root_type K hs r)
    root_has hs h (variable x) = variable_has (declarations D) vs x fit
    root_has hs h (temporary d) = held_has (declarations D) hs d h

    new_root_has : (ks : List Held) → AllHeld (declarations E) ks → (r : Root) → HasAll (declarations E) (root_type J ks r)
    new_root_has ks h (variable x) = variable_has (declarations E) ws x new_fit
    new_root_has ks h (temporary d) = held_has (declarations E) ks d h

    place_form : (t u : RegionTyp) → HasAll (declarations D) t → HasAll (declarations E) u → form u ≡ form t → (ss : List Step) → form (place_type E u ss) ≡ form (place_type D t ss)
    place_form t u h k e ss =
        sym (place_is no_number E new_good u ss k) ∙ (place_same i f D E S.like (form u) ss ∙ (ap (λ x. place_type D x ss) e ∙ place_is no_number D good t ss h))

    type_form : (hs ks : List Held) → AllLike hs ks → AllHeld (declarations D) hs → AllHeld (declarations E) ks → (p : Place) → form (type_in J ks p) ≡ form (type_in K hs p)
    type_form hs ks l h k p = place_form (root_type K hs p.root) (root_type J ks p.root) (root_has hs h p.root) (new_root_has ks k p.root) (root_form hs ks l p.root) p.steps

    operand_forms : (hs ks : List Held) → AllLike hs ks → (ds : List Temporary) → map form (map (held_type ks) ds) ≡ map form (map (held_type hs) ds)
    operand_forms hs ks l [] = refl
    operand_forms hs ks l (d ∷ ds) = ap₂ (λ t ts. t ∷ ts) (held_form hs ks l d) (operand_forms hs ks l ds)

    value_form : (hs ks : List Held) → AllLike hs ks → AllHeld (declarations D) hs → AllHeld (declarations E) ks → (a : Act) → HasAll (declarations D) (value_type K hs a) → HasAll (declarations E) (value_type J ks a)
        → form (value_type J ks a) ≡ form (value_type K hs a)
    value_form hs ks l h k (Read m p d) y z = type_form hs ks l h k p
    value_form hs ks l h k (Borrow m p d) y z = ap (region_reference m 0) (type_form hs ks l h k p)
    value_form hs ks l h k (Call j ts d) y z = result_form j
    value_form hs ks l h k (Build w is ts d) y z = made_form w (map (held_type hs) ts) (map (held_type ks) ts) y z (operand_forms hs ks l ts)
    value_form hs ks l h k (Declare x) y z = refl
    value_form hs ks l h k (Dead x) y z = refl
    value_form hs ks l h k (Write p t ss) y z = refl
    value_form hs ks l h k (Test p c) y z = refl
    value_form hs ks l h k (Input d) y z = refl
    value_form hs ks l h k (Print t) y z = refl
    value_form hs ks l h k (Give t) y z = refl

    -- what an action makes, where it fills a temporary that none filled before
    filled_form : (hs ks : List Held) → AllLike hs ks → (a : Act) → AllHeld (declarations D) (hold hs (filled a) (value_type K hs a)) → AllHeld (declarations E) (hold ks (filled a) (value_type J ks a))
        → (d : Temporary) → filled a ≡ Some d → is_held hs d ≡ false → form (value_type J ks a) ≡ form (value_type K hs a)
    filled_form hs ks l a h k d e q =
        value_form hs ks l (before_hold (declarations D) hs (filled a) (value_type K hs a) h) (before_hold (declarations E) ks (filled a) (value_type J ks a) k) a
        (added_held (declarations D) hs d (value_type K hs a) q (subst (λ o. AllHeld (declarations D) (hold hs o (value_type K hs a))) e h))
        (added_held (declarations E) ks d (value_type J ks a) (is_held_same hs ks l d ∙ q) (subst (λ o. AllHeld (declarations E) (hold ks o (value_type J ks a))) e k))

    pub held_like : (us : List Action) (hs ks : List Held) → AllLike hs ks → AllHeld (declarations D) (held_by K hs us) → AllHeld (declarations E) (held_by J ks us) → AllLike (held_by K hs us) (held_by J ks us)
    held_like [] hs ks l h k = l
    held_like (a ∷ us) hs ks l h k =
        held_like us (hold hs (filled a.act) (value_type K hs a.act)) (hold ks (filled a.act) (value_type J ks a.act))
        (hold_like hs ks l (filled a.act) (value_type K hs a.act) (value_type J ks a.act)
        (filled_form hs ks l a.act (before_all (declarations D) K us (hold hs (filled a.act) (value_type K hs a.act)) h) (before_all (declarations E) J us (hold ks (filled a.act) (value_type J ks a.act)) k))) h k
