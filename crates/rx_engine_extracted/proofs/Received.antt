-- Variables that the parts of a pattern are received in, found one by one.
use Rattle.std.proofs.Common.{◌≡◌, refl, sym, ap, ◌∙◌, ℕ, suc, ◌+◌, ◌<◌, ◌≤◌, nat_eq, Bool, true, false}
use Rattle.std.proofs.Common.{List, [], ◌∷◌, ◌++◌, map, drop, length, get_or, append_assoc, add-one, Option, Some, None, option_map}
use Rattle.std.proofs.lemmas.List.{at_drop_more, at_drop_all}
use Rattle.std.proofs.lemmas.Bool.{eq-eqb, eqb-true}
use Rattle.rx_typed.specs.Tree.{Pattern, Subpatterns, no_part, part_and}
use Rattle.rx_typed.specs.declared.tree.Subpattern.{Subpattern}
use Rattle.rx_typed.specs.PlainTree.{plain-Pattern, plain-Subpattern, subpatterns_of, subpattern_is}
use Rattle.rx_engine_alike.specs.Likeness.{if_so}
use Rattle.rx_engine_extracted.specs.Handing.{received_by, received_in, with_one}

-- these, in front of others
abbrev pub with_all : List ℕ → Option (List ℕ) → Option (List ℕ)
with_all qs None = None
with_all qs (Some l) = Some (qs ++ l)

-- from the part of this number on
abbrev pub received_from : List Subpattern → ℕ → Option (List ℕ)
received_from ps i = received_in i (subpatterns_of (map plain-Subpattern (drop i ps)))

pub with_all_none : (o : Option (List ℕ)) → with_all [] o ≡ o
with_all_none None = refl
with_all_none (Some l) = refl

pub with_all_one : (qs : List ℕ) (q : ℕ) (o : Option (List ℕ)) → with_all (qs ++ q ∷ []) o ≡ with_all qs (with_one (Some q) o)
with_all_one qs q None = refl
with_all_one qs q (Some l) = ap (λ (m : List ℕ). Some m) (append_assoc qs (q ∷ []) l)

-- the next part
pub received_turn : (ps : List Subpattern) (i : ℕ) (p : Subpattern) → i < length ps → p ≡ get_or ps i p
    → received_from ps i ≡ if_so (nat_eq i p.field) (with_one (received_by (plain-Pattern p.pattern)) (received_from ps (i + 1)))
received_turn ps i p less is =
    let rest : Subpatterns = subpatterns_of (map plain-Subpattern (drop (i + 1) ps)) in
    at_drop_more (λ (xs : List Subpattern). received_in i (subpatterns_of (map plain-Subpattern xs))) ps i p less
    ∙ ap (λ (q : Subpattern). received_in i (subpatterns_of (plain-Subpattern q ∷ map plain-Subpattern (drop (i + 1) ps)))) (sym is)
    ∙ ap (λ (q : ℕ × Pattern). received_in i (part_and q.0 q.1 rest)) (subpattern_is p.field p.pattern)
    ∙ ap (λ (k : ℕ). if_so (nat_eq i p.field) (with_one (received_by (plain-Pattern p.pattern)) (received_in k rest))) (sym (add-one i))

pub received_end : (ps : List Subpattern) (i : ℕ) → length ps ≤ i → received_from ps i ≡ Some []
received_end ps i past = at_drop_all (λ (xs : List Subpattern). received_in i (subpatterns_of (map plain-Subpattern xs))) ps i past

not_equal : (a b : ℕ) → (a ≡ b → ⊥) → nat_eq a b ≡ false
not_equal a b n = by (nat_eq a b) refl
  where
    by : (t : Bool) → nat_eq a b ≡ t → nat_eq a b ≡ false
    by true e = absurd (n (eqb-true a b e))
    by false e = e

if_none : {B : Type 0} (t : Bool) → if_so {B = B} t None ≡ None
if_none true = refl
if_none false = refl

no_more : (l : List ℕ) → l ++ [] ≡ l
no_more [] = refl
no_more (x ∷ l) = ap (λ m. x ∷ m) (no_more l)

-- ---- turns of the loop over them, with the variables so far

pub received_none : (ps : List Subpattern) (i : ℕ) (p : Subpattern) (qs : List ℕ) (x : Option (List ℕ)) → i < length ps → p ≡ get_or ps i p → None ≡ received_by (plain-Pattern p.pattern)
    → with_all qs (received_from ps i) ≡ x → None ≡ x
received_none ps i p qs x less is none all =
    let told : received_from ps i ≡ None = received_turn ps i p less is ∙ ap (λ (o : Option ℕ). if_so (nat_eq i p.field) (with_one o (received_from ps (i + 1)))) (sym none) ∙ if_none
    (nat_eq i p.field) in
    sym (ap (with_all qs) told) ∙ all

pub received_other : (ps : List Subpattern) (i : ℕ) (p : Subpattern) (qs : List ℕ) (x : Option (List ℕ)) → i < length ps → p ≡ get_or ps i p → (p.field ≡ i → ⊥)
    → with_all qs (received_from ps i) ≡ x → None ≡ x
received_other ps i p qs x less is other all =
    let told : received_from ps i ≡ None =
    received_turn ps i p less is ∙ ap (λ (t : Bool). if_so t (with_one (received_by (plain-Pattern p.pattern)) (received_from ps (i + 1)))) (not_equal i p.field (λ e. other (sym e))) in
    sym (ap (with_all qs) told) ∙ all

pub received_next : (ps : List Subpattern) (i : ℕ) (p : Subpattern) (qs rs : List ℕ) (q : ℕ) (x : Option (List ℕ)) → i < length ps → p ≡ get_or ps i p → p.field ≡ i
    → Some q ≡ received_by (plain-Pattern p.pattern) → rs ≡ qs ++ q ∷ [] → with_all qs (received_from ps i) ≡ x → with_all rs (received_from ps (i + 1)) ≡ x
received_next ps i p qs rs q x less is same found more all =
    let told : received_from ps i ≡ with_one (Some q) (received_from ps (i + 1)) =
    received_turn ps i p less is ∙ ap (λ (t : Bool). if_so t (with_one (received_by (plain-Pattern p.pattern)) (received_from ps (i + 1)))) (eq-eqb i p.field (sym same))
    ∙ ap (λ (o : Option ℕ). with_one o (received_from ps (i + 1))) (sym found) in
    ap (λ (l : List ℕ). with_all l (received_from ps (i + 1))) more ∙ with_all_one qs q (received_from ps (i + 1)) ∙ sym (ap (with_all qs) told) ∙ all

pub received_all : (ps : List Subpattern) (i : ℕ) (qs : List ℕ) (x : Option (List ℕ)) → length ps ≤ i → with_all qs (received_from ps i) ≡ x → Some qs ≡ x
received_all ps i qs x past all = ap (λ (l : List ℕ). Some l) (sym (no_more qs)) ∙ sym (ap (with_all qs) (received_end ps i past)) ∙ all
