-- A value of a type by other numbers of items is one of the type, by those, and a pattern that takes the one takes the other.
use Rattle.std.proofs.Common.{◌≡◌, inl, inr, ℕ, zero, suc, ℤ, Bool, true, false, ◌<◌, List, [], ◌∷◌, map, length, Option, Some, None, option_map, slice_get, refl, sym, ap, ◌∙◌, subst, nat_eq, if◌then◌else◌}
use Rattle.std.proofs.lemmas.List.{length-map}
use Rattle.rx_core.specs.declared.types.Kind.{Kind}
use Rattle.rx_typed.specs.Types as types
use Rattle.rx_typed.specs.Types.{Shapes, no_shape, shape_and, Typ, integer, boolean, tuple_of, reference, shapes_listed, Declared, rt_declared, struct_declared, enum_declared, function_declared, FieldDeclared, VariantDeclared, Declarations, fields_declared, variants_declared, parts_declared, variant_parts}
use Rattle.rx_typed.specs.Tree as tree
use Rattle.rx_typed.specs.Tree.{Pattern, Subpatterns, no_part, part_and, whole_number}
use Rattle.rx_typed.specs.Elaborated.{as_shared}
use Rattle.rx_typed_declarations.specs.Held.{field_types}
use Rattle.rx_cover.specs.Values as value
use Rattle.rx_cover.specs.Values.{Value, Values, number, tuple, made, pointing, no_value, value_and, is_struct, IsOfType, AreOfTypes, InKind}
use Rattle.rx_cover.specs.Matching.{Matches, MatchParts, part_of, SomeMatches, Covers}
use Rattle.rx_engine_blocks.specs.Renumbering.{Renumbering, shape_at, shapes_at, field_at, variant_at, declared_at}
use Rattle.rx_engine_covered.specs.LikeChoices as like
use Rattle.rx_engine_covered.specs.LikeChoices.{LikePattern, LikeSubpatterns, LikeSeen, AllSeen}

module _ (r : Renumbering) where
  mutual
    pub data LikeValue : Value → Value → Type 0 where
      numbers : {n : ℤ} → LikeValue (number n) (number n)
      truths : {b : Bool} → LikeValue (value.truth b) (value.truth b)
      tuples : {vs vs' : Values} → LikeValues vs vs' → LikeValue (tuple vs) (tuple vs')
      structs : {i : ℕ} {vs vs' : Values} → LikeValues vs vs' → LikeValue (made i vs) (made (r.items i) vs')
      variants : {i k : ℕ} {vs vs' : Values} → LikeValues vs vs' → LikeValue (value.variant i k vs) (value.variant (r.items i) k vs')
      references : {v v' : Value} → LikeValue v v' → LikeValue (pointing v) (pointing v')

    pub data LikeValues : Values → Values → Type 0 where
      no_values : LikeValues no_value no_value
      values_and : {v v' : Value} {vs vs' : Values} → LikeValue v v' → LikeValues vs vs' → LikeValues (value_and v vs) (value_and v' vs')

  -- ---- what is declared

  struct_there : (o : Option Declared) → is_struct (option_map (declared_at r) o) ≡ is_struct o
  struct_there None = refl
  struct_there (Some rt_declared) = refl
  struct_there (Some (struct_declared c l fs)) = refl
  struct_there (Some (enum_declared c l vs)) = refl
  struct_there (Some (function_declared ps t)) = refl

  types_of_fields : (fs : List FieldDeclared) → field_types (map (field_at r) fs) ≡ map (shape_at r) (field_types fs)
  types_of_fields [] = refl
  types_of_fields (f ∷ fs) = ap (λ ts. shape_at r f.typ ∷ ts) (types_of_fields fs)

  fields_there : (o : Option Declared) → field_types (fields_declared (option_map (declared_at r) o)) ≡ map (shape_at r) (field_types (fields_declared o))
  fields_there None = refl
  fields_there (Some rt_declared) = refl
  fields_there (Some (struct_declared c l fs)) = types_of_fields fs
  fields_there (Some (enum_declared c l vs)) = refl
  fields_there (Some (function_declared ps t)) = refl

  pub variants_there : (o : Option Declared) → variants_declared (option_map (declared_at r) o) ≡ map (variant_at r) (variants_declared o)
  variants_there None = refl
  variants_there (Some rt_declared) = refl
  variants_there (Some (struct_declared c l fs)) = refl
  variants_there (Some (enum_declared c l vs)) = refl
  variants_there (Some (function_declared ps t)) = refl

  parts_at : (vs : List VariantDeclared) (k : ℕ) → parts_declared (slice_get (map (variant_at r) vs) k) ≡ map (shape_at r) (parts_declared (slice_get vs k))
  parts_at [] k = refl
  parts_at (v ∷ vs) zero = refl
  parts_at (v ∷ vs) (suc k) = parts_at vs k

  listed_there : (ts : Shapes Kind) → shapes_listed (shapes_at r ts) ≡ map (shape_at r) (shapes_listed ts)
  listed_there no_shape = refl
  listed_there (shape_and t ts) = ap (λ us. shape_at r t ∷ us) (listed_there ts)

  module _ (D E : Declarations) (items : (i : ℕ) → slice_get E (r.items i) ≡ option_map (declared_at r) (slice_get D i)) where
    struct_at : (i : ℕ) → is_struct (slice_get E (r.items i)) ≡ true → is_struct (slice_get D i) ≡ true
    struct_at i h = sym (struct_there (slice_get D i)) ∙ (sym (ap is_struct (items i)) ∙ h)

    fields_at : (i : ℕ) → field_types (fields_declared (slice_get E (r.items i))) ≡ map (shape_at r) (field_types (fields_declared (slice_get D i)))
    fields_at i = ap (λ o. field_types (fields_declared o)) (items i) ∙ fields_there (slice_get D i)

    variants_at : (i : ℕ) → variants_declared (slice_get E (r.items i)) ≡ map (variant_at r) (variants_declared (slice_get D i))
    variants_at i = ap variants_declared (items i) ∙ variants_there (slice_get D i)

    few_at : (i k : ℕ) → k < length (variants_declared (slice_get E (r.items i))) → k < length (variants_declared (slice_get D i))
    few_at i k h = subst (λ n. k < n) (ap length (variants_at i) ∙ length-map (variants_declared (slice_get D i)) (variant_at r)) h

    its_parts : (i k : ℕ) → variant_parts E (r.items i) k ≡ map (shape_at r) (variant_parts D i k)
    its_parts i k = ap (λ vs. parts_declared (slice_get vs k)) (variants_at i) ∙ parts_at (variants_declared (slice_get D i)) k

    -- ---- values

    abbrev Back : Typ → Value → Type 0
    Back t v' = (v : Value) × IsOfType D t v × LikeValue v v'

    abbrev AllBack : List Typ → Values → Type 0
    AllBack ts vs' = (vs : Values) × AreOfTypes D ts vs × LikeValues vs vs'

    struct_back : (i : ℕ) (vs' : Values) → is_struct (slice_get E (r.items i)) ≡ true → AllBack (field_types (fields_declared (slice_get D i))) vs' → (j : ℕ) → r.items i ≡ j → Back (types.named i) (made j vs')
    struct_back i vs' s b j q = subst (λ (j : ℕ). Back (types.named i) (made j vs')) q (made i b.0, (refl, struct_at i s, b.1), structs b.2)

    variant_back : (i k : ℕ) (vs' : Values) → k < length (variants_declared (slice_get E (r.items i))) → AllBack (variant_parts D i k) vs' → (j : ℕ) → r.items i ≡ j → Back (types.named i) (value.variant j k vs')
    variant_back i k vs' s b j q = subst (λ (j : ℕ). Back (types.named i) (value.variant j k vs')) q (value.variant i k b.0, (refl, few_at i k s, b.1), variants b.2)

    mutual
      pub value_back : (t : Typ) (v' : Value) → IsOfType E (shape_at r t) v' → Back t v'
      value_back (integer k) (number n) h = (number n, h, numbers)
      value_back boolean (value.truth b) h = (value.truth b, tt, truths)
      value_back (tuple_of ts) (tuple vs) h = let b = values_back (shapes_listed ts) vs (subst (λ (us : List Typ). AreOfTypes E us vs) (listed_there ts) h) in (tuple b.0, b.1, tuples b.2)
      value_back (reference m t) (pointing v) h = let b = value_back t v h in (pointing b.0, b.1, references b.2)
      value_back (types.named i) (made j vs) h =
          struct_back i vs h.1 (values_back (field_types (fields_declared (slice_get D i))) vs (subst (λ (us : List Typ). AreOfTypes E us vs) (fields_at i) h.2)) j h.0
      value_back (types.named i) (value.variant j k vs) h = variant_back i k vs h.1 (values_back (variant_parts D i k) vs (subst (λ (us : List Typ). AreOfTypes E us vs) (its_parts i k) h.2)) j h.0
      value_back _ _ h = absurd h

      values_back : (ts : List Typ) (vs' : Values) → AreOfTypes E (map (shape_at r) ts) vs' → AllBack ts vs'
      values_back [] no_value h = (no_value, tt, no_values)
      values_back (t ∷ ts) (value_and v vs) h = let b = value_back t v h.0 in let c = values_back ts vs h.1 in (value_and b.0 c.0, (b.1, c.1), values_and b.2 c.2)
      values_back [] (value_and v vs) h = absurd h
      values_back (t ∷ ts) no_value h = absurd h

  -- ---- patterns take them

  part_by : (b : Bool) {p p' q q' : Pattern} → LikePattern r p p' → LikePattern r q q' → LikePattern r (if b then p else q) (if b then p' else q')
  part_by true h k = h
  part_by false h k = k

  part_there : {ps ps' : Subpatterns} (k : ℕ) → LikeSubpatterns r ps ps' → LikePattern r (part_of ps k) (part_of ps' k)
  part_there k like.LikeSubpatterns.no_parts = like.LikePattern.takes_any
  part_there k (like.LikeSubpatterns.more_parts {i = i} h hs) = part_by (nat_eq i k) h (part_there k hs)

  mutual
    matches_there : {p p' : Pattern} {v v' : Value} → LikeValue v v' → LikePattern r p p' → Matches p v → Matches p' v'
    matches_there l like.LikePattern.takes_any m = tt
    matches_there l like.LikePattern.binds m = tt
    matches_there numbers (like.LikePattern.is_exactly {c = whole_number k i}) m = m
    matches_there truths (like.LikePattern.is_exactly {c = tree.truth b}) m = m
    matches_there (tuples l) (like.LikePattern.has_parts h) m = parts_match 0 l h m
    matches_there (structs l) (like.LikePattern.has_parts h) m = parts_match 0 l h m
    matches_there (variants l) (like.LikePattern.is_variant h) m = (ap r.items m.0, m.1, parts_match 0 l h m.2)
    matches_there (references l) (like.LikePattern.is_behind h) m = matches_there l h m
    matches_there _ (like.LikePattern.is_exactly {c = whole_number k i}) m = absurd m
    matches_there _ (like.LikePattern.is_exactly {c = tree.truth b}) m = absurd m
    matches_there _ (like.LikePattern.has_parts h) m = absurd m
    matches_there _ (like.LikePattern.is_variant h) m = absurd m
    matches_there _ (like.LikePattern.is_behind h) m = absurd m

    parts_match : {ps ps' : Subpatterns} (k : ℕ) {vs vs' : Values} → LikeValues vs vs' → LikeSubpatterns r ps ps' → MatchParts ps k vs → MatchParts ps' k vs'
    parts_match k no_values h m = tt
    parts_match k (values_and l ls) h m = (matches_there l (part_there k h) m.0, parts_match (suc k) ls h m.1)

  seen_there : {w : Bool} {p p' : Pattern} {v v' : Value} → LikeValue v v' → LikeSeen r w p p' → Matches p v → Matches p' v'
  seen_there l (like.LikeSeen.as_it_is h) m = matches_there l h m
  seen_there l like.LikeSeen.seen_any m = tt
  seen_there l like.LikeSeen.seen_binds m = tt
  seen_there (references l) (like.LikeSeen.behind_shared h) m = matches_there l h m
  seen_there _ (like.LikeSeen.behind_shared h) m = absurd m

  some_there : {w : Bool} {ps ps' : List Pattern} {v v' : Value} → LikeValue v v' → AllSeen r w ps ps' → SomeMatches ps v → SomeMatches ps' v'
  some_there l like.AllSeen.none_seen m = absurd m
  some_there l (like.AllSeen.more_seen h hs) (inl m) = inl (seen_there l h m)
  some_there l (like.AllSeen.more_seen h hs) (inr m) = inr (some_there l hs m)

-- ---- whether a reference is shared makes no difference for what values there are

to_shared : (D : Declarations) (t : Typ) (v : Value) → IsOfType D t v → IsOfType D (as_shared t) v
to_shared D (integer k) v h = h
to_shared D boolean v h = h
to_shared D (tuple_of ts) v h = h
to_shared D (reference m t) (pointing v) h = h
to_shared D (reference m t) _ h = absurd h
to_shared D (types.named i) v h = h

from_shared : (D : Declarations) (t : Typ) (v : Value) → IsOfType D (as_shared t) v → IsOfType D t v
from_shared D (integer k) v h = h
from_shared D boolean v h = h
from_shared D (tuple_of ts) v h = h
from_shared D (reference m t) (pointing v) h = h
from_shared D (reference m t) _ h = absurd h
from_shared D (types.named i) v h = h

pub covers_there : (r : Renumbering) (D E : Declarations) → ((i : ℕ) → slice_get E (r.items i) ≡ option_map (declared_at r) (slice_get D i)) → (w : Bool) (t t' : Typ) → as_shared t' ≡ as_shared (shape_at r t)
    → (ps ps' : List Pattern) → AllSeen r w ps ps' → Covers D t ps → Covers E t' ps'
covers_there r D E items w t t' e ps ps' l c v h =
    let b = value_back r D E items t v (from_shared E (shape_at r t) v (subst (λ (u : Typ). IsOfType E u v) e (to_shared E t' v h))) in
    some_there r b.2 l (c b.0 b.1)
