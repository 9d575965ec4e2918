-- The effects of sites by the numbers of roots.
use Rattle.std.proofs.Common.{◌≡◌, ◌⊎◌, inl, inr, ℕ, ◌+◌, ◌<◌, ◌≤◌, Bool, true, false, ◌||◌, ◌==◌, List, [], ◌∷◌, ◌++◌, map, length, drop, get_or, Option, Some, None, MatchOption, option_map, option_to_list, slice_get, refl, ap, sym, ◌∙◌}
use Rattle.std.proofs.lemmas.List.{drop_more}
use Rattle.std.proofs.lemmas.Bool.{cases_eq}
use Rattle.std.proofs.lemmas.Bool.Decides.{Decides-eqb}
use Rattle.rx_graph.specs.Facts.{has}
use Rattle.rx_facts_tables.proofs.Turns.{has_more}
use Rattle.rx_lower_walks.specs.declared.actions.Root.{Root}
use Rattle.rx_lower_walks.specs.PlainFlow.{plain-Root}
use Rattle.rx_typed.specs.TypedPlaces.{same_root}
use Rattle.rx_facts_tables.specs.Live.{has_root, roots_of}
use Rattle.rx_facts_tables.specs.LiveTables.{IsNot}
use Rattle.rx_facts_tables.specs.Effects.{Numbers, Adds, listed}
use Rattle.rx_facts_tables.proofs.Roots.{itself, other, not_true}
use Rattle.rx_facts_tables.proofs.Numbering.{roots_left}

or_false : (b : Bool) → (b || false) ≡ b
or_false true = refl
or_false false = refl

regroup : (a b c : Bool) → ((a || b) || c) ≡ (a || (b || c))
regroup true b c = refl
regroup false b c = refl

-- so far, of the roots
abbrev pub SoFar : List Root → List ℕ → List Root → List ℕ → ℕ → Type 0
SoFar W old rs ns i = (k : ℕ) (r : Root) → slice_get W k ≡ Some r
    → (has ns k || has_root (map plain-Root (drop i rs)) (plain-Root r)) ≡ (has old k || has_root (map plain-Root rs) (plain-Root r))

module _ (W : List Root) (once : (j k : ℕ) (r : Root) → slice_get W j ≡ Some r → slice_get W k ≡ Some r → j ≡ k) where
  -- a number is that of a root
  numbered : (q : Root) (n : ℕ) → slice_get W n ≡ Some q → (k : ℕ) (r : Root) → slice_get W k ≡ Some r → (k == n) ≡ same_root (plain-Root r) (plain-Root q)
  numbered q n h k r e = by (cases_eq k n)
    where
      by : (k ≡ n) ⊎ (k ≡ n → ⊥) → (k == n) ≡ same_root (plain-Root r) (plain-Root q)
      by (inl x) =
          let z : r ≡ q = (let y : Some r ≡ Some q = sym e ∙ ap (λ m. slice_get W m) x ∙ h in cc) in
          (Decides-eqb k n).1 x ∙ sym (ap (λ (p : Root). same_root (plain-Root r) (plain-Root p)) (sym z) ∙ itself r)
      by (inr d) = not_true (k == n) (λ x. d ((Decides-eqb k n).0 x))
          ∙ sym (other r q (λ x. d (once k n r e (h ∙ ap (λ (p : Root). Some p) (sym x)))))

  -- what finding a root adds
  one_listed : (q : Root) (n : Option ℕ) (ns : List ℕ) → MatchOption n ((k : ℕ) → IsNot W k q) (λ k. slice_get W k ≡ Some q)
      → (k : ℕ) (r : Root) → slice_get W k ≡ Some r → has (ns ++ listed n) k ≡ (has ns k || same_root (plain-Root r) (plain-Root q))
  one_listed q None ns h k r e =
      let d : same_root (plain-Root r) (plain-Root q) ≡ false = other r q (λ x. h k (e ∙ ap (λ (p : Root). Some p) x)) in
      ap (λ l. has l k) (append_nil ns) ∙ sym (ap (λ b. has ns k || b) d ∙ or_false (has ns k))
    where
      append_nil : (l : List ℕ) → l ++ [] ≡ l
      append_nil [] = refl
      append_nil (x ∷ l) = ap (λ m. x ∷ m) (append_nil l)
  one_listed q (Some n) ns h k r e = has_more ns n k ∙ ap (λ b. has ns k || b) (numbered q n h k r e)

  pub listed_more : (old : List ℕ) (rs : List Root) (ns new : List ℕ) (i : ℕ) (d : Root) (n : Option ℕ) → i < length rs
      → MatchOption n ((k : ℕ) → IsNot W k (get_or rs i d)) (λ k. slice_get W k ≡ Some (get_or rs i d)) → new ≡ ns ++ listed n → SoFar W old rs ns i → SoFar W old rs new (i + 1)
  listed_more old rs ns new i d n within found is before k r e =
      ap (λ l. has l k || has_root (map plain-Root (drop (i + 1) rs)) (plain-Root r)) is
      ∙ ap (λ b. b || has_root (map plain-Root (drop (i + 1) rs)) (plain-Root r)) (one_listed (get_or rs i d) n ns found k r e)
      ∙ regroup (has ns k) (same_root (plain-Root r) (plain-Root (get_or rs i d))) (has_root (map plain-Root (drop (i + 1) rs)) (plain-Root r))
      ∙ ap (λ (l : List Root). has ns k || has_root (map plain-Root l) (plain-Root r)) (sym (drop_more rs i d within)) ∙ before k r e

  pub listed_done : (old : List ℕ) (rs : List Root) (ns : List ℕ) (i : ℕ) → length rs ≤ i → SoFar W old rs ns i → Adds W (map plain-Root rs) old ns
  listed_done old rs ns i past before k r e =
      sym (or_false (has ns k)) ∙ ap (λ (l : List Root). has ns k || has_root (map plain-Root l) (plain-Root r)) (sym (roots_left rs i past)) ∙ before k r e

  -- the number of one root, or none
  pub one_number : (q : Root) (k : ℕ) → slice_get W k ≡ Some q → Numbers W (map plain-Root (q ∷ [])) (k ∷ [])
  one_number q n h k r e = ap (λ b. b || false) (numbered q n h k r e)

  pub no_number : (q : Root) → ((k : ℕ) → IsNot W k q) → Numbers W (map plain-Root (q ∷ [])) []
  no_number q h k r e = sym (or_false (same_root (plain-Root r) (plain-Root q)) ∙ other r q (λ x. h k (e ∙ ap (λ (p : Root). Some p) x)))

pub numbers_then : (W : List Root) (first : Option Root) (rs all : List Root) (old new : List ℕ) → option_to_list first ++ rs ≡ all
    → Numbers W (map plain-Root (option_to_list first)) old → Adds W (map plain-Root rs) old new → Numbers W (map plain-Root all) new
numbers_then W first rs all old new is numbers adds k r e =
    adds k r e ∙ ap (λ b. b || has_root (map plain-Root rs) (plain-Root r)) (numbers k r e) ∙ both first
    ∙ ap (λ (l : List Root). has_root (map plain-Root l) (plain-Root r)) is
  where
    both : (o : Option Root) → (has_root (map plain-Root (option_to_list o)) (plain-Root r) || has_root (map plain-Root rs) (plain-Root r))
        ≡ has_root (map plain-Root (option_to_list o ++ rs)) (plain-Root r)
    both None = refl
    both (Some q) = ap (λ b. b || has_root (map plain-Root rs) (plain-Root r)) (or_false (same_root (plain-Root r) (plain-Root q)))

pub roots_are : (o : Option Root) → roots_of (option_map plain-Root o) ≡ map plain-Root (option_to_list o)
roots_are None = refl
roots_are (Some r) = refl
