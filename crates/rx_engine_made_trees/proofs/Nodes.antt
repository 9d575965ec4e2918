-- What coercions make of values at nodes that keep their types.
use Rattle.std.proofs.Common.{◌≡◌, ℕ, true, false, refl, sym, ap, ◌∙◌, subst}
use Rattle.rx_typed.specs.declared.nodes.Node.{Node}
use Rattle.rx_typed.specs.declared.nodes.Site.{Site}
use Rattle.rx_typed.specs.Types.{Typ, integer, boolean, tuple_of, reference, named}
use Rattle.rx_typed.specs.Elaborated.{Assigned, Coercion, plain, reborrow, coercion, coercion_at, coercion_in}
use Rattle.rx_engine_made_trees.specs.Nodes.{KeepsItsType, of_any_type, looked_into, of_its_type, is_unique}

-- at a coercion site, by both types
pub coerced_so : (T : Assigned) (n : Node) (t u : Typ) → n.site ≡ Site.Expects → T.typ n.number ≡ t → T.expected n.number ≡ u → coercion_at T n ≡ coercion t u
coerced_so T n t u s i j = ap (coercion_in T n.number) s ∙ (ap (λ a. coercion a (T.expected n.number)) i ∙ ap (coercion t) j)

-- what expects its own type
pub unique_again : (t : Typ) → is_unique t ≡ true → coercion t t ≡ reborrow
unique_again (reference true t) e = refl
unique_again (reference false t) e = absurd (cc)
unique_again (integer k) e = absurd (cc)
unique_again boolean e = absurd (cc)
unique_again (tuple_of ts) e = absurd (cc)
unique_again (named i) e = absurd (cc)

pub others_plain : (t : Typ) → is_unique t ≡ false → coercion t t ≡ plain
others_plain (reference true t) e = absurd (cc)
others_plain (reference false t) e = refl
others_plain (integer k) e = refl
others_plain boolean e = refl
others_plain (tuple_of ts) e = refl
others_plain (named i) e = refl

-- nothing is shared
pub data NotShared : Coercion → Type 0 where
  stays_plain : NotShared plain
  stays_unique : NotShared reborrow

same_not_shared : (t : Typ) → NotShared (coercion t t)
same_not_shared (reference true t) = stays_unique
same_not_shared (reference false t) = stays_plain
same_not_shared (integer k) = stays_plain
same_not_shared boolean = stays_plain
same_not_shared (tuple_of ts) = stays_plain
same_not_shared (named i) = stays_plain

own_not_shared : (T : Assigned) (n : ℕ) (s : Site) → T.expected n ≡ T.typ n → NotShared (coercion_in T n s)
own_not_shared T n Site.Value e = stays_plain
own_not_shared T n Site.Place e = stays_plain
own_not_shared T n Site.Scrutinee e = stays_plain
own_not_shared T n Site.Expects e = subst (λ u. NotShared (coercion (T.typ n) u)) (sym e) (same_not_shared (T.typ n))
own_not_shared T n Site.Initialises e = subst (λ u. NotShared (coercion (T.typ n) u)) (sym e) (same_not_shared (T.typ n))
own_not_shared T n Site.Reborrows e = subst (λ u. NotShared (coercion (T.typ n) u)) (sym e) (same_not_shared (T.typ n))

pub not_shared : (T : Assigned) (n : Node) → KeepsItsType T n → NotShared (coercion_at T n)
not_shared T n (of_any_type s) = subst (λ t. NotShared (coercion_in T n.number t)) (sym s) stays_plain
not_shared T n (looked_into s) = subst (λ t. NotShared (coercion_in T n.number t)) (sym s) stays_plain
not_shared T n (of_its_type e) = own_not_shared T n.number n.site e
