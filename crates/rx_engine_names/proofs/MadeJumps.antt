-- The label that is made for a jump of an exit leads where the run's jump does: to the innermost loop without a label, to one further out by
-- its label.
use Rattle.std.proofs.Common.{◌≡◌, ℕ, zero, suc, ◌+◌, Bool, true, false, if◌then◌else◌, List, [], ◌∷◌, Option, Some, None, refl, sym, ap, ◌∙◌, subst, add-zero, zero-add, add-suc, suc-add, bytes_eq}
use Rattle.std.proofs.lemmas.Slice.Eq.{bytes_eq-Decides}
use Rattle.rx_core.specs.declared.types.Span.{Span}
use Rattle.rx_tree.specs.declared.tree.Ident.{Ident}
use Rattle.rx_tree.specs.Lists.{nth}
use Rattle.rx_resolve_names.specs.Meant.{Around, a_loop, a_test, Target, to_loop, through_test, target}
use Rattle.rx_hoist_extraction.specs.Run.{numbered}
use Rattle.rx_hoist_extraction.specs.Made.{ident}
use Rattle.rx_hoist_extraction.specs.Moved.{beyond, leaves}
use Rattle.rx_hoist_extraction.specs.Call.{made_label, jump_label}
use Rattle.rx_engine_names.specs.Moves.{labels_of, numbers_of}

not_through : (a : Target) (n : ℕ) → through_test a ≡ to_loop n → ⊥
not_through (to_loop m) n e = cc
not_through _ n e = cc

-- the name of a label tells where a jump with it leads
same_target : (a b : Ident) → a.name ≡ b.name → (ls : List Around) → target (Some a) ls ≡ target (Some b) ls
same_target a b e [] = refl
same_target a b e (a_test ∷ ls) = ap through_test (same_target a b e ls)
same_target a b e (a_loop None n ∷ ls) = same_target a b e ls
same_target a b e (a_loop (Some y) n ∷ ls) =
    ap (λ (x : List ℕ). if bytes_eq x y.name then to_loop n else target (Some a) ls) e ∙ ap (λ (t : Target). if bytes_eq b.name y.name then to_loop n else t) (same_target a b e ls)

-- a loop with the label, by its number from inside
abbrev Labelled : Ident → Option (Option Ident) → Type 0
Labelled a None = ⊥
Labelled a (Some None) = ⊥
Labelled a (Some (Some y)) = a.name ≡ y.name

abbrev LeadBy : ℕ → List Around → Ident → ℕ → Type 0
LeadBy i ls a n = (k : ℕ) × (target (Some a) (numbered (suc i) (labels_of ls)) ≡ to_loop (suc (i + k))) × (nth (numbers_of ls) k ≡ Some n) × Labelled a (nth (labels_of ls) k)

lead_by : (i : ℕ) (ls : List Around) (a : Ident) (n : ℕ) → target (Some a) ls ≡ to_loop n → LeadBy i ls a n
lead_by i [] a n e = absurd (cc)
lead_by i (a_test ∷ ls) a n e = absurd (not_through (target (Some a) ls) n e)
lead_by i (a_loop None m ∷ ls) a n e =
    let r = lead_by (suc i) ls a n e in (suc r.0, r.1 ∙ ap (λ z. to_loop (suc z)) (suc-add i r.0 ∙ sym (add-suc i r.0)), r.2, r.3)
lead_by i (a_loop (Some y) m ∷ ls) a n e = by (bytes_eq a.name y.name) refl e (lead_by (suc i) ls a n)
  where
    by : (b : Bool) → bytes_eq a.name y.name ≡ b → (if b then to_loop m else target (Some a) ls) ≡ to_loop n → (target (Some a) ls ≡ to_loop n → LeadBy (suc i) ls a n)
        → (k : ℕ) × ((if b then to_loop (suc i) else target (Some a) (numbered (suc (suc i)) (labels_of ls))) ≡ to_loop (suc (i + k))) × (nth (m ∷ numbers_of ls) k ≡ Some n) × Labelled a (nth (Some y ∷ labels_of ls) k)
    by true d e r = let h : m ≡ n = cc in (zero, ap (λ z. to_loop (suc z)) (sym (add-zero i)), ap (λ z. Some z) h, (bytes_eq-Decides a.name y.name).0 d)
    by false d e f = let r = f e in (suc r.0, r.1 ∙ ap (λ z. to_loop (suc z)) (suc-add i r.0 ∙ sym (add-suc i r.0)), r.2, r.3)

-- a jump without a label leads to the innermost loop
innermost : (ls : List Around) (l : Option Ident) (m n : ℕ) → target l ls ≡ to_loop m → nth (numbers_of ls) zero ≡ Some n → target None ls ≡ to_loop n
innermost [] l m n e h = absurd (cc)
innermost (a_test ∷ ls) l m n e h = absurd (not_through (target l ls) m e)
innermost (a_loop x k ∷ ls) l m n e h = ap to_loop (let d : k ≡ n = cc in d)

some_same : (j k : ℕ) → Some j ≡ Some k → j ≡ k
some_same j k e = cc

labelled_leads : (s : Span) (ls : List Around) (a : Ident) (n : ℕ) (o : Option (Option Ident)) → target (Some a) ls ≡ to_loop n → Labelled a o → target (made_label s o) ls ≡ to_loop n
labelled_leads s ls a n None e h = absurd h
labelled_leads s ls a n (Some None) e h = absurd h
labelled_leads s ls a n (Some (Some y)) e h = sym (same_target a (ident s y.name) h ls) ∙ e

by_label : (s : Span) (ls : List Around) (a : Ident) (n k : ℕ) → target (Some a) ls ≡ to_loop n → nth (numbers_of ls) k ≡ Some n → Labelled a (nth (labels_of ls) k) → target (jump_label s (labels_of ls) k) ls ≡ to_loop n
by_label s ls a n zero e h d = innermost ls (Some a) n n e h
by_label s ls a n (suc k) e h d = labelled_leads s ls a n (nth (labels_of ls) (suc k)) e d

-- a jump in the run leads to loop k round it: so does the one that is made
abbrev Leads : Span → List Around → ℕ → ℕ → Type 0
Leads s ls k n = (nth (numbers_of ls) k ≡ Some n) × (target (jump_label s (labels_of ls) k) ls ≡ to_loop n)

leads_at : (s : Span) (ls : List Around) (n j k : ℕ) → j ≡ k → Leads s ls j n → Leads s ls k n
leads_at s ls n j k e h = subst (λ (i : ℕ). Leads s ls i n) e h

pub made_jump_leads : (s : Span) (ls : List Around) (l : Option Ident) (k n : ℕ) → leaves l (numbered 1 (labels_of ls)) ≡ Some k → target l ls ≡ to_loop n → (nth (numbers_of ls) k ≡ Some n) × (target (jump_label s (labels_of ls) k) ls ≡ to_loop n)
made_jump_leads s [] l k n h e = absurd (cc)
made_jump_leads s (a_test ∷ ls) l k n h e = absurd (not_through (target l ls) n e)
made_jump_leads s (a_loop x m ∷ ls) None k n h e = leads_at s (a_loop x m ∷ ls) n zero k (some_same zero k h) (ap (λ (t : ℕ). Some t) (let d : m ≡ n = cc in d), e)
made_jump_leads s (a_loop x m ∷ ls) (Some a) k n h e =
    let all = a_loop x m ∷ ls in
    let r = lead_by 0 all a n e in
    leads_at s all n r.0 k (some_same r.0 k (sym (ap beyond (r.1 ∙ ap (λ z. to_loop (suc z)) (zero-add r.0))) ∙ h)) (r.2, by_label s all a n r.0 e r.2 r.3)
