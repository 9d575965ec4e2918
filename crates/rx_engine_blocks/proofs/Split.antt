-- Demands one behind another: what they tell, and their literals.
use Rattle.std.proofs.Common.{◌≡◌, ℕ, Bool, true, false, List, [], ◌∷◌, ◌++◌, refl, sym, subst, inl, inr, ◌⊎◌, ⊎_elim, if◌then◌else◌}
use Rattle.rx_typeck_solver.specs.declared.facts.Subject.{Subject}
use Rattle.rx_typeck_solver.specs.declared.facts.Demand.{Demand}
use Rattle.rx_typeck_solver.specs.Facts.{Assignment, KnownItems, MeetsEach}
use Rattle.rx_typeck_solver.specs.Valid.{Told, IsIn, literals_of}

pub both_met : (D : KnownItems) (A : Assignment) (xs ys : List Demand) → MeetsEach D A xs → MeetsEach D A ys → MeetsEach D A (xs ++ ys)
both_met D A [] ys h k = k
both_met D A (x ∷ xs) ys h k = (h.0, both_met D A xs ys h.1 k)

pub told_split : (xs ys : List Demand) (x : Subject) → Told (xs ++ ys) x → Told xs x ⊎ Told ys x
told_split [] ys x t = inr t
told_split (d ∷ xs) ys x (inl t) = inl (inl t)
told_split (d ∷ xs) ys x (inr t) = ⊎_elim (λ h. inl (inr h)) (λ h. inr h) (told_split xs ys x t)

pub told_left : (xs ys : List Demand) (x : Subject) → Told xs x → Told (xs ++ ys) x
told_left [] ys x t = absurd t
told_left (d ∷ xs) ys x (inl t) = inl t
told_left (d ∷ xs) ys x (inr t) = inr (told_left xs ys x t)

pub told_right : (xs ys : List Demand) (x : Subject) → Told ys x → Told (xs ++ ys) x
told_right [] ys x t = t
told_right (d ∷ xs) ys x t = inr (told_right xs ys x t)

pub literal_split : (xs ys : List Demand) (n : ℕ) → IsIn n (literals_of (xs ++ ys)) → IsIn n (literals_of xs) ⊎ IsIn n (literals_of ys)
literal_split [] ys n i = inr i
literal_split (d ∷ xs) ys n i = go d.unsuffixed i (literal_split xs ys n)
  where
    go : (b : Bool) → IsIn n (if b then d.node ∷ literals_of (xs ++ ys) else literals_of (xs ++ ys)) → (IsIn n (literals_of (xs ++ ys)) → IsIn n (literals_of xs) ⊎ IsIn n (literals_of ys))
        → IsIn n (if b then d.node ∷ literals_of xs else literals_of xs) ⊎ IsIn n (literals_of ys)
    go true (inl h) r = inl (inl h)
    go true (inr h) r = ⊎_elim (λ k. inl (inr k)) (λ k. inr k) (r h)
    go false h r = r h

pub literal_left : (xs ys : List Demand) (n : ℕ) → IsIn n (literals_of xs) → IsIn n (literals_of (xs ++ ys))
literal_left [] ys n i = absurd i
literal_left (d ∷ xs) ys n i = go d.unsuffixed i (literal_left xs ys n)
  where
    go : (b : Bool) → IsIn n (if b then d.node ∷ literals_of xs else literals_of xs) → (IsIn n (literals_of xs) → IsIn n (literals_of (xs ++ ys))) → IsIn n (if b then d.node ∷ literals_of (xs ++ ys) else literals_of (xs ++ ys))
    go true (inl h) r = inl h
    go true (inr h) r = inr (r h)
    go false h r = r h

pub literal_right : (xs ys : List Demand) (n : ℕ) → IsIn n (literals_of ys) → IsIn n (literals_of (xs ++ ys))
literal_right [] ys n i = i
literal_right (d ∷ xs) ys n i = go d.unsuffixed (literal_right xs ys n i)
  where
    go : (b : Bool) → IsIn n (literals_of (xs ++ ys)) → IsIn n (if b then d.node ∷ literals_of (xs ++ ys) else literals_of (xs ++ ys))
    go true h = inr h
    go false h = h

-- ---- of one demand

pub literal_one : (d : Demand) (n : ℕ) → IsIn n (literals_of (d ∷ [])) → (d.unsuffixed ≡ true) × (n ≡ d.node)
literal_one d n i = go d.unsuffixed refl i
  where
    go : (b : Bool) → d.unsuffixed ≡ b → IsIn n (if b then d.node ∷ [] else []) → (d.unsuffixed ≡ true) × (n ≡ d.node)
    go true e (inl h) = (e, h)
    go true e (inr h) = absurd h
    go false e h = absurd h

pub one_literal : (d : Demand) (n : ℕ) → d.unsuffixed ≡ true → n ≡ d.node → IsIn n (literals_of (d ∷ []))
one_literal d n u e = subst (λ b. IsIn n (if b then d.node ∷ [] else [])) (sym u) (inl e)
