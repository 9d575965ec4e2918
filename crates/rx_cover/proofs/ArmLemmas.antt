-- One column of patterns says what the patterns say.
use Rattle.std.proofs.Common.{◌≡◌, ℕ, ◌+◌, ◌<◌, List, [], ◌∷◌, ◌++◌, map, drop, length, get_or, Option, Some, None, option_map, refl, sym, ap, ◌∙◌, subst, inl, inr, ⊎_elim}
use Rattle.rx_cover.specs.declared.choices.Choice.{Choice}
use Rattle.rx_cover.specs.PlainChoices.{plain-Choice}
use Rattle.rx_typed.specs.Types.{Typ, Declarations}
use Rattle.rx_typed.specs.Tree.{Pattern}
use Rattle.rx_typed.specs.declared.tree.Arm.{Arm}
use Rattle.rx_typed.specs.PlainTree.{plain-Pattern, plain-Arm, arms_of}
use Rattle.rx_typed.proofs.Rules.{arm_by_parts}
use Rattle.rx_cover.specs.Values.{Value, Values, no_value, value_and, AreOfTypes}
use Rattle.rx_cover.specs.Matching.{SomeMatches}
use Rattle.rx_cover.specs.Choices.{patterns_of}
use Rattle.rx_cover.specs.Matrices.{Row, SomeRow, single_rows}
use Rattle.rx_cover.specs.declared.value.Value as code_value
use Rattle.rx_cover.specs.PlainValue.{plain-Value}
use Rattle.rx_cover.specs.Finding.{stacked, Settles, Missed, IsLast}
use Rattle.rx_cover.proofs.CellLemmas.{at_next}
use Rattle.rx_cover.proofs.MissingLemmas.{stacked_push}

single_from : (ps : List Pattern) (v : Value) (ws : Values) → SomeRow (single_rows ps) (value_and v ws) → SomeMatches ps v
single_from [] v ws s = s
single_from (p ∷ ps) v ws s = ⊎_elim (λ a. inl a.0) (λ b. inr (single_from ps v ws b)) s

single_to : (ps : List Pattern) (v : Value) (ws : Values) → SomeMatches ps v → SomeRow (single_rows ps) (value_and v ws)
single_to [] v ws s = s
single_to (p ∷ ps) v ws s = ⊎_elim (λ a. inl (a, tt)) (λ b. inr (single_to ps v ws b)) s

pub missed_none : (D : Declarations) (t : Typ) (ps : List Pattern) → Settles D (t ∷ []) (single_rows ps) None → Missed D t ps None
missed_none D t ps c = λ v h. single_from ps v no_value (c.each (value_and v no_value) (h, tt))

pub missed_some : (D : Declarations) (t : Typ) (ps : List Pattern) (stack : List code_value.Value) (o : Option code_value.Value) → Settles D (t ∷ []) (single_rows ps) (Some stack) → IsLast stack o
    → Missed D t ps (option_map plain-Value o)
missed_some D t ps stack None m e = absurd (subst (λ l. AreOfTypes D (t ∷ []) (stacked l)) e m.typed)
missed_some D t ps stack (Some v) m l =
    let q = ap stacked l.1 ∙ stacked_push l.0 v in
    ((subst (λ l. AreOfTypes D (t ∷ []) l) q m.typed).0, λ s. m.apart (subst (λ l. SomeRow (single_rows ps) l) (sym q) (single_to ps (plain-Value v) (stacked l.0) s)))

pub patterns_next : (xs : List Arm) (i : ℕ) (x : Arm) → i < length xs → x ≡ get_or xs i x
    → single_rows (patterns_of (arms_of (map plain-Arm (drop i xs)))) ≡ (plain-Pattern x.pattern ∷ []) ∷ single_rows (patterns_of (arms_of (map plain-Arm (drop (i + 1) xs))))
patterns_next xs i x l e = at_next (λ ys. single_rows (patterns_of (arms_of (map plain-Arm ys)))) xs i x l e ∙ rw (arm_by_parts x) refl

pub row_behind : (old mid : List Row) (r : Row) (rest all : List Row) → mid ≡ old ++ r ∷ [] → old ++ (r ∷ rest) ≡ all → mid ++ rest ≡ all
row_behind old mid r rest all e f = ap (λ l. l ++ rest) e ∙ behind old ∙ f
  where
    behind : (o : List Row) → (o ++ r ∷ []) ++ rest ≡ o ++ (r ∷ rest)
    behind [] = refl
    behind (x ∷ o) = ap (λ l. x ∷ l) (behind o)

-- ---- matches one after another

pub choices_next : (xs : List Choice) (i : ℕ) (x : Choice) → i < length xs → x ≡ get_or xs i x → map plain-Choice (drop i xs) ≡ plain-Choice x ∷ map plain-Choice (drop (i + 1) xs)
choices_next xs i x l e = at_next (map plain-Choice) xs i x l e
