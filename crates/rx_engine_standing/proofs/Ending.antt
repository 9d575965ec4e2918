-- Where a block's end stands in the text, it stands by other numbers with the call.
use Rattle.std.proofs.Common.{◌≡◌, ℕ, Bool, true, false, ◌||◌, List, [], ◌∷◌, Option, Some, option_map, refl, sym, ap, ◌∙◌, subst}
use Rattle.rx_core.specs.declared.types.Span.{Span}
use Rattle.rx_typed.specs.declared.nodes.Node.{Node}
use Rattle.rx_typed.specs.declared.nodes.Site.{Site}
use Rattle.rx_typed.specs.Elaborated.{as_shared, coercion}
use Rattle.rx_typed.specs.Named as named
use Rattle.rx_typed.specs.Named.{never, node_of, some_diverges, tail_never, Else, Exp, Statements}
use Rattle.rx_typed.specs.Types.{boolean, integer, named as item, reference, tuple_of, unit_shape, Typ}
use Rattle.rx_typeck_solver.specs.declared.facts.Demand.{Demand}
use Rattle.rx_typeck_solver.specs.declared.facts.Subject.TheVariants as subject
use Rattle.rx_typeck_solver.specs.Facts.{coerced, Assignment, KnownItems, MeetsEach}
use Rattle.rx_typeck_typed.specs.Asking.{expected, type_of}
use Rattle.rx_typeck_typed.specs.Demands as rules
use Rattle.rx_hoist_extraction.specs.Values.{held_by, result_of, Value}
use Rattle.rx_hoist_naming.specs.NamedPlan.{passed}
use Rattle.rx_engine_names.specs.HandedOut.{IsTail}
use Rattle.rx_engine_names.specs.HandedOut.IsTail.{no_value, no_result, call_is_tail, first_is_tail}
use Rattle.rx_engine_blocks.specs.Renumbering.{node_at, shape_at, Renumbering}
use Rattle.rx_engine_blocks.specs.Along.{PartialInverse}
use Rattle.rx_engine_holes.specs.CallFits.{Ends}
use Rattle.rx_engine_holes.specs.CallFits.Ends.{at_value, at_coercion, at_reborrow}
use Rattle.rx_engine_holes.specs.Entries.{of_text, Context}
use Rattle.rx_engine_holes.specs.Tail.{of_end}
use Rattle.rx_engine_changed.specs.HandedTypes.{EndStands}
use Rattle.rx_engine_changed.specs.Round.{SameEnd}
use Rattle.rx_engine_standing.specs.EndGives.{type_behind, EndGives, GivesNone, GivesTail, HasNoTail, IsBlockSite, TailStands}
use Rattle.rx_engine_standing.proofs.Earlier.{after_earlier, exp_earlier, join_earlier, split}
use Rattle.rx_engine_standing.proofs.Fitting.{exp_fits, joined_as, some_is, Fits}

-- ---- coercions

-- behind its coercion a value fits too
passed_fits : (t u : Typ) → coerced t u ≡ t → coerced (passed (coercion t u) t) u ≡ passed (coercion t u) t
passed_fits (reference true t) (reference true u) e = e
passed_fits (reference true t) (reference false u) e = ap (λ (o : Typ). as_shared o) e
passed_fits (reference true t) (integer k) e = e
passed_fits (reference true t) boolean e = e
passed_fits (reference true t) (tuple_of us) e = e
passed_fits (reference true t) (item i) e = e
passed_fits (reference false t) u e = e
passed_fits (integer k) u e = e
passed_fits boolean u e = e
passed_fits (tuple_of ts) u e = e
passed_fits (item i) u e = e

coerced_there : (q : Renumbering) (t u : Typ) → coerced (shape_at q t) (shape_at q u) ≡ shape_at q (coerced t u)
coerced_there q (reference true t) (reference true u) = refl
coerced_there q (reference true t) (reference false u) = refl
coerced_there q (reference true t) (integer k) = refl
coerced_there q (reference true t) boolean = refl
coerced_there q (reference true t) (tuple_of us) = refl
coerced_there q (reference true t) (item i) = refl
coerced_there q (reference false t) u = refl
coerced_there q (integer k) u = refl
coerced_there q boolean u = refl
coerced_there q (tuple_of ts) u = refl
coerced_there q (item i) u = refl

-- ---- what the text asks at a block's end

module _ (D : KnownItems) (A : Assignment) where
  -- without a tail: the unit, where it doesn't diverge
  unit_given : (n : Node) (v : Bool) (ds : List Demand) → v ≡ false → MeetsEach D A (rules.nothing_given n v ds) → A (type_of n) ≡ unit_shape
  unit_given n true ds e m = absurd (cc)
  unit_given n false ds e m = sym (some_is _ _ (split D A ds (_ ∷ []) m).1.0.0)

  -- the tail has the block's type, or what is expected of the block is expected of it
  part_has : (n m : Node) (v : Bool) (s : Site) → IsBlockSite s → (s ≡ Site.Expects → ⊥) → v ≡ false → (ds : List Demand) → MeetsEach D A (rules.part_after n s v m ds) → A (type_of n) ≡ A (type_of m)
  part_has n m true s b x e ds h = absurd (cc)
  part_has n m false Site.Value b x e ds h = sym (some_is _ _ (split D A ds (_ ∷ []) h).1.0.0)
  part_has n m false Site.Reborrows b x e ds h = sym (some_is _ _ (split D A ds (_ ∷ []) h).1.0.0)
  part_has n m false Site.Expects b x e ds h = absurd (x refl)
  part_has n m false Site.Place b x e ds h = absurd b
  part_has n m false Site.Scrutinee b x e ds h = absurd b
  part_has n m false Site.Initialises b x e ds h = absurd b

  part_expects : (n m : Node) (s : Site) → s ≡ Site.Expects → (ds : List Demand) → MeetsEach D A (rules.part_before n s m ds) → A (expected n) ≡ A (expected m)
  part_expects n m Site.Expects e ds h = some_is _ _ (split D A ds (_ ∷ []) h).1.0.0
  part_expects n m Site.Value e ds h = absurd (cc)
  part_expects n m Site.Place e ds h = absurd (cc)
  part_expects n m Site.Scrutinee e ds h = absurd (cc)
  part_expects n m Site.Initialises e ds h = absurd (cc)
  part_expects n m Site.Reborrows e ds h = absurd (cc)

  -- at a tail that gives a value
  record TailHas (n m : Node) : Type 0 where
    same : (n.site ≡ Site.Expects → ⊥) → A (type_of n) ≡ A (type_of m)
    expects : n.site ≡ Site.Expects → A (expected n) ≡ A (expected m)
    fits : n.site ≡ Site.Expects → Fits D A m

  tail_has : (f : ℕ) (n : Node) (e : Exp) (d : Bool) (ss : Statements) → IsBlockSite n.site → (node_of e).site ≡ n.site → never e ≡ false → MeetsEach D A (of_end f n d ss (named.present e) []) → TailHas n (node_of e)
  tail_has f n e d ss b s w m =
      let before = rules.part_before n n.site (node_of e) (rules.of_statements f ss []) in
      let here = after_earlier D A n n.site (never e) (node_of e) (rules.of_exp f e before) m in
      record {
        same = λ x. part_has n (node_of e) (never e) n.site b x w (rules.of_exp f e before) m;
        expects = λ x. part_expects n (node_of e) n.site x (rules.of_statements f ss []) (exp_earlier D A f e before here);
        fits = λ x. exp_fits D A f e w (s ∙ x) before here;
      }

  -- a tail of the unit, and a block that has it
  unit_tail : (f : ℕ) (n : Node) (e : Exp) (d : Bool) (ss : Statements) → IsBlockSite n.site → (node_of e).site ≡ n.site → never e ≡ false → A (type_of (node_of e)) ≡ unit_shape
      → MeetsEach D A (rules.join n (never e) (of_end f n d ss (named.present e) [])) → A (type_of n) ≡ unit_shape
  unit_tail f n e d ss b s w u m = by n.site refl
    where
      has : TailHas n (node_of e)
      has = tail_has f n e d ss b s w (join_earlier D A n (never e) (of_end f n d ss (named.present e) []) m)

      other : (n.site ≡ Site.Expects → ⊥) → A (type_of n) ≡ unit_shape
      other x = has.same x ∙ u

      by : (z : Site) → n.site ≡ z → A (type_of n) ≡ unit_shape
      by Site.Expects z =
          joined_as D A n (never e) w z (of_end f n d ss (named.present e) []) m ∙ has.expects z
          ∙ (subst (λ (t : Typ). coerced t (A (expected (node_of e))) ≡ t) u (has.fits z))
      by Site.Value z = other (λ x. absurd (cc))
      by Site.Place z = other (λ x. absurd (cc))
      by Site.Scrutinee z = other (λ x. absurd (cc))
      by Site.Initialises z = other (λ x. absurd (cc))
      by Site.Reborrows z = other (λ x. absurd (cc))

  -- ---- by other numbers

  module _ (E : KnownItems) (q : Renumbering) (w : PartialInverse q) where
    abbrev B : Context
    B = of_text q w A

    type_there : (n : Node) (s : Span) (t : Typ) → A (type_of n) ≡ t → B (type_of (node_at q n s)) ≡ Some (shape_at q t)
    type_there n s t e = ap (λ (o : Option ℕ). option_map (λ x. shape_at q (A x)) (option_map subject.Node o)) (w.node_there n.number) ∙ ap (λ (u : Typ). Some (shape_at q u)) e

    expected_there : (n : Node) (s : Span) → B (expected (node_at q n s)) ≡ Some (shape_at q (A (expected n)))
    expected_there n s = ap (λ (o : Option ℕ). option_map (λ x. shape_at q (A x)) (option_map subject.Expected o)) (w.node_there n.number)

    ends_with : (n m : Node) (s : Span) (z : Site) → n.site ≡ z → IsBlockSite z → TailHas n m → (t : Typ) → t ≡ type_behind A m z → (u : Typ) × Ends E B (node_at q n s) z (shape_at q t) u
    ends_with n m s Site.Value z b h t e = (unit_shape, at_value (type_there n s t (h.same (λ x. absurd (cc)) ∙ sym e)))
    ends_with n m s Site.Reborrows z b h t e = (shape_at q t, at_reborrow (type_there n s t (h.same (λ x. absurd (cc)) ∙ sym e)))
    ends_with n m s Site.Expects z b h t e = (
      shape_at q (A (expected n)),
      at_coercion (expected_there n s) (
          coerced_there q t (A (expected n)) ∙ ap (λ (u : Typ). shape_at q u) (
          ap (λ (u : Typ). coerced t u) (h.expects z)
          ∙ subst (λ (u : Typ). coerced u (A (expected m)) ≡ u) (sym e) (passed_fits (A (type_of m)) (A (expected m)) (h.fits z)))),
    )
    ends_with n m s Site.Place z b h t e = absurd b
    ends_with n m s Site.Scrutinee z b h t e = absurd b
    ends_with n m s Site.Initialises z b h t e = absurd b

    module _ (f : ℕ) (n : Node) (s : Span) (d : Bool) (xs ys : Statements) (block : IsBlockSite n.site) where
      abbrev Met : Else → Type 0
      Met o = MeetsEach D A (rules.join n (tail_never (d || some_diverges xs) o) (of_end f n d xs o []))

      none_stands : (o : Else) → TailStands n o → Met o → GivesNone A o → SameEnd xs o ys named.absent → (d || some_diverges ys) ≡ false → B (type_of (node_at q n s)) ≡ Some unit_shape
      none_stands named.absent t m g same e = type_there n s unit_shape (unit_given n (d || some_diverges xs) (rules.of_statements f xs []) (sym (same.1 d) ∙ e) (join_earlier D A n (d || some_diverges xs) (of_end f n d xs named.absent []) m))
      none_stands (named.present x) t m g same e = let v : never x ≡ false = sym (same.1 d) ∙ e in type_there n s unit_shape (unit_tail f n x d xs block t v (g v) m)

      value_stands : (o : Else) → TailStands n o → Met o → (t : Typ) → GivesTail A o t → (u : Typ) × Ends E B (node_at q n s) n.site (shape_at q t) u
      value_stands named.absent z m t g = absurd g
      value_stands (named.present x) z m t g =
          ends_with n (node_of x) s n.site refl block (tail_has f n x d xs block z g.0 (join_earlier D A n (never x) (of_end f n d xs (named.present x) []) m)) t
          (g.1 ∙ ap (λ (y : Site). type_behind A (node_of x) y) z)

      pub end_stands : (o o' : Else) → TailStands n o → Met o → SameEnd xs o ys o' → (hs : List Value) → EndGives A o hs → HasNoTail hs o' → EndStands E q B (node_at q n s) d ys hs
      end_stands o o' t m same [] g i = none_stands o t m g (subst (λ (z : Else). SameEnd xs o ys z) i same)
      end_stands o o' t m same (held_by v ∷ hs) g i = none_stands o t m g (subst (λ (z : Else). SameEnd xs o ys z) i same)
      end_stands o o' t m same (result_of u ∷ hs) g i = value_stands o t m u g

pub has_no_tail : {s : Span} {W : Exp → Type 0} {k : ℕ} {hs : List Value} {o : Else} → IsTail s W k hs o → HasNoTail hs o
has_no_tail no_value = refl
has_no_tail no_result = refl
has_no_tail (call_is_tail w) = tt
has_no_tail (first_is_tail m) = tt
