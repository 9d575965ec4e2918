-- The tests of an arm lead to what they test, each behind those in front of it, and so do the bindings behind all: by induction on patterns.
use Rattle.std.proofs.Common.{◌≡◌, ℕ, true, false, List, [], ◌∷◌, ◌++◌, Some, sym, subst, ap, append_assoc, append-nil}
use Rattle.rx_core.specs.declared.types.Step.{Step}
use Rattle.rx_typed.specs.Types.{Typ, named, Declarations}
use Rattle.rx_typed.specs.Tree.{Pattern, any, bind, exactly, parts, variant, behind, Subpatterns, no_part, part_and}
use Rattle.rx_typed.specs.Elaborated.{has_several}
use Rattle.rx_lower_walks.specs.Matching.{has_tag, PartTest, Binding, tests, tests_in, bindings, bindings_in}
use Rattle.rx_lower_walks.specs.Actions.{Subject, part}
use Rattle.rx_meaning.specs.Values.{Value, State}
use Rattle.rx_meaning.specs.Acting.{Acting}
use Rattle.rx_meaning_typed.specs.TypedActs.{typ_behind}
use Rattle.rx_meaning_typed.specs.NoReferences.{HasNoReference}
use Rattle.rx_meaning_covered.specs.Ways.{Leads}
use Rattle.rx_meaning_covered.specs.Arms.{Holds, InTurn, AllOther, AllLead}
use Rattle.rx_meaning_covered.specs.Fitting.{PatternFits, PartsFit}
use Rattle.rx_meaning_covered.proofs.Sound.{free_below}

pub other_front : (S : Subject) (bs cs : List Binding) → AllOther S (bs ++ cs) → AllOther S bs
other_front S [] cs h = tt
other_front S (b ∷ bs) cs h = (h.0, other_front S bs cs h.1)

pub other_behind : (S : Subject) (bs cs : List Binding) → AllOther S (bs ++ cs) → AllOther S cs
other_behind S [] cs h = h
other_behind S (b ∷ bs) cs h = other_behind S bs cs h.1

pub lead_both : (S : Subject) (vs : List Value) (s : State) (bs cs : List Binding) → AllLead S vs s bs → AllLead S vs s cs → AllLead S vs s (bs ++ cs)
lead_both S vs s [] cs h k = k
lead_both S vs s (b ∷ bs) cs h k = (h.0, lead_both S vs s bs cs h.1 k)

-- what is matched, and how ways to its parts go on: to a field; to a variant behind its test; to the only variant
module _ {E : Type 0} (D : Declarations) (A : Acting E) (S : Subject) (vs : List Value) (s : State) (TypAt : List Step → Typ → Type 0)
    (typ_on : (at : List Step) (st : Step) (t u : Typ) → TypAt at t → typ_behind D t st ≡ Some u → TypAt (at ++ st ∷ []) u)
    (to_field : (at : List Step) (i : ℕ) → Leads (part S at) vs s → Leads (part S (at ++ Step.Field i ∷ [])) vs s)
    (to_tested : (at : List Step) (t : Typ) (n v : ℕ) → TypAt at t → Leads (part S at) vs s → Holds A S vs s (record { node = n; steps = at; check = has_tag v }) → Leads (part S (at ++ Step.Variant v ∷ [])) vs s)
    (to_only : (at : List Step) (i v : ℕ) (u : Typ) → TypAt at (named i) → has_several D i ≡ false → typ_behind D (named i) (Step.Variant v) ≡ Some u → Leads (part S at) vs s → Leads (part S (at ++ Step.Variant v ∷ [])) vs s) where
  mutual
    pub in_turn : (p : Pattern) (at : List Step) (t : Typ) → TypAt at t → HasNoReference D t → PatternFits D t p → AllOther S (bindings at p) → Leads (part S at) vs s → (more : List PartTest) (Q : Type 0)
        → (AllLead S vs s (bindings at p) → InTurn A S vs s more Q) → InTurn A S vs s (tests at p ++ more) Q
    in_turn any at t ty free f o l more Q k = k tt
    in_turn (bind n x m) at t ty free f o l more Q k = k ((l, o.0), tt)
    in_turn (exactly n c) at t ty free f o l more Q k = (l, λ h. k tt)
    in_turn (parts ps) at t ty free f o l more Q k = parts_in_turn ps at t ty free f o l more Q k
    in_turn (variant n i true v ps) at t ty free f o l more Q k =
        (l, λ h. parts_in_turn ps (at ++ Step.Variant v ∷ []) f.2.0 (typ_on at (Step.Variant v) t f.2.0 ty f.2.1) (free_below D t f.2.0 (Step.Variant v) f.2.1 free) f.2.2 o (to_tested at t n v ty l h) more Q k)
    in_turn (variant n i false v ps) at t ty free f o l more Q k =
        parts_in_turn ps (at ++ Step.Variant v ∷ []) f.2.0 (typ_on at (Step.Variant v) t f.2.0 ty f.2.1) (free_below D t f.2.0 (Step.Variant v) f.2.1 free) f.2.2 o
        (to_only at i v f.2.0 (subst (λ z. TypAt at z) f.0 ty) (sym f.1) (subst (λ z. typ_behind D z (Step.Variant v) ≡ Some f.2.0) f.0 f.2.1) l) more Q k
    in_turn (behind m p) at t ty free f o l more Q k = absurd (free [] m f.0 (ap (λ z. Some z) f.1))

    parts_in_turn : (ps : Subpatterns) (at : List Step) (t : Typ) → TypAt at t → HasNoReference D t → PartsFit D t ps → AllOther S (bindings_in at ps) → Leads (part S at) vs s → (more : List PartTest) (Q : Type 0)
        → (AllLead S vs s (bindings_in at ps) → InTurn A S vs s more Q) → InTurn A S vs s (tests_in at ps ++ more) Q
    parts_in_turn no_part at t ty free f o l more Q k = k tt
    parts_in_turn (part_and i p ps) at t ty free f o l more Q k =
        let below = at ++ Step.Field i ∷ [] in
        subst (λ z. InTurn A S vs s z Q) (sym (append_assoc (tests below p) (tests_in at ps) more))
        (in_turn p below f.1.0 (typ_on at (Step.Field i) t f.1.0 ty f.1.1) (free_below D t f.1.0 (Step.Field i) f.1.1 free) f.1.2 (other_front S (bindings below p) (bindings_in at ps) o) (to_field at i l) (tests_in at ps ++ more) Q
        (λ a. parts_in_turn ps at t ty free f.2 (other_behind S (bindings below p) (bindings_in at ps) o) l more Q (λ b. k (lead_both S vs s (bindings below p) (bindings_in at ps) a b))))

  pub arm_in_turn : (p : Pattern) (t : Typ) → TypAt [] t → HasNoReference D t → PatternFits D t p → AllOther S (bindings [] p) → Leads (part S []) vs s → InTurn A S vs s (tests [] p) (AllLead S vs s (bindings [] p))
  arm_in_turn p t ty free f o l = subst (λ z. InTurn A S vs s z (AllLead S vs s (bindings [] p))) (append-nil (tests [] p)) (in_turn p [] t ty free f o l [] (AllLead S vs s (bindings [] p)) (λ a. a))
