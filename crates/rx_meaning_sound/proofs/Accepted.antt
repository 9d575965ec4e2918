-- A program that is accepted is covered, where what it matches is told by types and its literals are in range.
use Rattle.std.proofs.Common.{◌≡◌, ℕ, zero, suc, Bool, true, false, List, [], ◌∷◌, ◌++◌, length, Option, Some, None, refl, sym, ap, subst, ◌∙◌}
use Rattle.rx_typed.specs.Types.{Typ, Declarations}
use Rattle.rx_typed.specs.PlainTypes.{declarations}
use Rattle.rx_typed.specs.Tree.{Temporary, Pattern, Scrutinee, Arms, no_arm, arm_and, Function, mark_of}
use Rattle.rx_typed.specs.PlainTree.{plain-TypedTree}
use Rattle.rx_lower_walks.specs.Actions.{Subject, subject}
use Rattle.rx_lower_walks.specs.Walks.{Among, here, there}
use Rattle.rx_typeck_typed.specs.declared.typed.Typed.{Typed}
use Rattle.rx_typeck_typed.specs.declared.typed.TypedFn.{TypedFn}
use Rattle.rx_cover.specs.Matching.{Covers}
use Rattle.rx_cover.specs.Choices.{scrutinee_typ, patterns_of, choices_of}
use Rattle.rx_cover.specs.Causes.{AllCovered, CoversTyp}
use Rattle.rx_check.specs.Passes.{matches_of, FunctionsCovered}
use Rattle.rx_machine.specs.Functions.{is_function, first_of, behind, typed_functions}
use Rattle.rx_meaning_keeping.specs.Keeping.{IsFunction}
use Rattle.rx_meaning_typed.specs.TypedActs.{Typing}
use Rattle.rx_meaning_covered.specs.Standing.{Standing}
use Rattle.rx_meaning_covered.specs.Covered.{ArmsFit, IsNotOf, CoversChoice, CoversLet, FitsChoice, FitsLet}
use Rattle.rx_meaning_covered.proofs.Adding.{with_cover, zipped}
use Rattle.rx_meaning_sound.specs.Fresh.{ArmsFresh, IsFreshChoice, IsFreshLet}
use Rattle.rx_meaning_sound.specs.Matched.{ArmsOfTyp, ChoiceTyped, LetTyped}

-- ---- a choice that is covered, fresh, and typed

arms_fit : (D : Declarations) (S : Subject) (t : Typ) (l : Arms) → ArmsOfTyp D t l → ArmsFresh S l → ArmsFit D S t l
arms_fit D S t no_arm h g = tt
arms_fit D S t (arm_and p e l) h g = ((h.0, g.0), arms_fit D S t l h.1 g.1)

covers_typ : (D : Declarations) (o : Option Typ) (t : Typ) (ps : List Pattern) → o ≡ Some t → CoversTyp D o ps → Covers D t ps
covers_typ D o t ps e h = subst (λ z. CoversTyp D z ps) e h

module _ (N : Temporary → Bool) (T : Typing) where
  -- what is matched is not of these temporaries
  abbrev pub ClearChoice : Scrutinee → Arms → Type 0
  ClearChoice c l = IsNotOf N (subject c)

  abbrev pub ClearLet : Scrutinee → Pattern → Type 0
  ClearLet c p = IsNotOf N (subject c)

  abbrev Known : Scrutinee → Arms → Type 0
  Known c l = IsFreshChoice c l × CoversChoice T.declared c l

  abbrev KnownLet : Scrutinee → Pattern → Type 0
  KnownLet c p = IsFreshLet c p × CoversLet T.declared c p

  abbrev OfTyp : Scrutinee → Arms → Type 0
  OfTyp c l = ClearChoice c l × ChoiceTyped T c l

  abbrev LetOfTyp : Scrutinee → Pattern → Type 0
  LetOfTyp c p = ClearLet c p × LetTyped T c p

  fits_choice : (c : Scrutinee) (l : Arms) → Known c l → OfTyp c l → FitsChoice N T c l
  fits_choice c l k h gone = let x = h.1 gone in (
    h.0,
    record {
      typ = x.0;
      typed = x.1.typed;
      direct = k.0.0;
      arms = arms_fit T.declared (subject c) x.0 l x.2 k.0.1;
      covers = covers_typ T.declared (scrutinee_typ c) x.0 (patterns_of l) x.1.marked k.1;
      inhabited = x.1.inhabited;
    },
  )

  fits_let : (c : Scrutinee) (p : Pattern) → KnownLet c p → LetOfTyp c p → FitsLet N T c p
  fits_let c p k h gone = let x = h.1 gone in (
    h.0,
    record {
      typ = x.0;
      typed = x.1.typed;
      direct = k.0.0;
      fits = x.2;
      other = k.0.1;
      covers = covers_typ T.declared (scrutinee_typ c) x.0 (p ∷ []) x.1.marked k.1;
      inhabited = x.1.inhabited;
    },
  )

  pub function_stands : (F : Function) → AllCovered T.declared (choices_of F.body) → Standing IsFreshChoice IsFreshLet F.body → Standing ClearChoice ClearLet F.body → Standing (ChoiceTyped T) (LetTyped T) F.body → Standing (FitsChoice N T) (FitsLet N T) F.body
  function_stands F h fresh clear typed =
      zipped Known OfTyp (FitsChoice N T) KnownLet LetOfTyp (FitsLet N T) fits_choice fits_let F.body (with_cover T.declared IsFreshChoice IsFreshLet (mark_of F.body).node F.body h fresh)
      (zipped ClearChoice (ChoiceTyped T) OfTyp ClearLet (LetTyped T) LetOfTyp (λ c l a b. (a, b)) (λ c p a b. (a, b)) F.body clear typed)

-- ---- the functions of a program, by their items

behind_among : (b : Bool) (ts : List TypedFn) (g : TypedFn) → Among g (behind b ts) → Among g ts
behind_among true [] g a = a
behind_among true (t ∷ ts) g a = there a
behind_among false ts g a = a

first_stands : (b : Bool) (ts : List TypedFn) (F : Function) → first_of b ts ≡ Some F → (g : TypedFn) × Among g ts × (plain-TypedTree g.tree ≡ F)
first_stands true (t ∷ ts) F e = (t, here, let q : plain-TypedTree t.tree ≡ F = cc in q)
first_stands true [] F e = absurd (cc)
first_stands false ts F e = absurd (cc)

some_is : (a b : Option Function) → Some a ≡ Some b → a ≡ b
some_is a b e = cc

pub function_at : (D : Declarations) (ts : List TypedFn) (n : ℕ) (F : Function) → IsFunction (typed_functions D ts) n F → (g : TypedFn) × Among g ts × (plain-TypedTree g.tree ≡ F)
function_at [] ts n F e = absurd (cc)
function_at (d ∷ D) ts zero F e = first_stands (is_function d) ts F (let q : first_of (is_function d) ts ≡ Some F = some_is _ _ e in q)
function_at (d ∷ D) ts (suc n) F e = let x = function_at D (behind (is_function d) ts) n F e in (x.0, behind_among (is_function d) ts x.0 x.1, x.2)

covered_at : (D : Declarations) (ts : List TypedFn) → FunctionsCovered D ts → (g : TypedFn) → Among g ts → AllCovered D (matches_of g)
covered_at D [] h g a = elim a [ ]
covered_at D (t ∷ ts) h _ here = h.0
covered_at D (t ∷ ts) h g (there a) = covered_at D ts h.1 g a

pub function_covered : (t : Typed) → FunctionsCovered (declarations t.decls.items) t.functions → (g : TypedFn) → Among g t.functions → AllCovered (declarations t.decls.items) (choices_of (plain-TypedTree g.tree).body)
function_covered t h g a = covered_at (declarations t.decls.items) t.functions h g a
