-- An assignment that is given by entries gives each its type, where each subject was made and has one entry, or has this type in the text.
use Rattle.std.proofs.Common.{◌≡◌, ◌⊎◌, inl, inr, Bool, true, false, if◌then◌else◌, [], ◌∷◌, ◌++◌, Option, Some, None, option_map, refl, sym, ap, ◌∙◌}
use Rattle.rx_typed.specs.Types.{Typ}
use Rattle.rx_typeck_solver.specs.declared.facts.Subject.{Subject}
use Rattle.rx_typeck_solver.specs.Facts.{Assignment}
use Rattle.rx_typeck_solver.specs.Solver.{same_subject}
use Rattle.rx_typeck_solver.proofs.Base.{same_subject_true, same_subject_itself}
use Rattle.rx_engine_blocks.specs.Renumbering.{Renumbering, shape_at}
use Rattle.rx_engine_blocks.specs.Along.{composed, none_viewed, subject_back, text_or, PartialInverse}
use Rattle.rx_engine_holes.specs.Entries.{assigned, of_text, with_entries, Apart, Entries, Has, Context, Without}

pub has_first : (C : Assignment) (a b : Entries) → Has C (a ++ b) → Has C a × Has C b
has_first C [] b h = (tt, h)
has_first C (e ∷ a) b h = let p = has_first C a b h.1 in ((h.0, p.0), p.1)

-- what is told is had
abbrev pub Tells : Assignment → Context → Type 0
Tells C B = (x : Subject) (t : Typ) → B x ≡ Some t → C x ≡ t

one_some : (t u : Typ) → ◌≡◌ {A = Option Typ} (Some t) (Some u) → t ≡ u
one_some t u e = cc

no_some : (t : Typ) → ◌≡◌ {A = Option Typ} None (Some t) → ⊥
no_some t e = cc

pub tells_more : (C : Assignment) (B : Context) (es : Entries) → Tells C B → Has C es → Tells C (with_entries es B)
tells_more C B [] k h x t i = k x t i
tells_more C B (e ∷ es) k h x t i = go (same_subject x e.0) refl i (tells_more C B es k h.1 x t)
  where
    go : (b : Bool) → same_subject x e.0 ≡ b → (if b then Some e.1 else with_entries es B x) ≡ Some t → (with_entries es B x ≡ Some t → C x ≡ t) → C x ≡ t
    go true s j r = ap C (same_subject_true x e.0 s) ∙ (h.0 ∙ one_some e.1 t j)
    go false s j r = r j

module _ (q : Renumbering) (w : PartialInverse q) (A : Assignment) where
  abbrev through : Assignment → Assignment
  through W = composed q w none_viewed A W

  pub tells_text : (W : Assignment) → Tells (through W) (of_text q w A)
  tells_text W y t i = go (subject_back q w y) i
    where
      go : (o : Option Subject) → option_map (λ x. shape_at q (A x)) o ≡ Some t → text_or q none_viewed o A (W y) ≡ t
      go None j = absurd (no_some t j)
      go (Some x) j = one_some (shape_at q (A x)) t j

  new_is : (W : Assignment) (y : Subject) → subject_back q w y ≡ None → through W y ≡ W y
  new_is W y i = ap (λ o. text_or q none_viewed o A (W y)) i

  first_is : (e : Subject × Typ) (es : Entries) → assigned (e ∷ es) e.0 ≡ e.1
  first_is e es = ap (λ (b : Bool). if b then e.1 else assigned es e.0) (same_subject_itself e.0)

  later_is : (x : Subject) (e : Subject × Typ) (es : Entries) → same_subject x e.0 ≡ false → assigned (e ∷ es) x ≡ assigned es x
  later_is x e es s = ap (λ (b : Bool). if b then e.1 else assigned es x) s

  -- what was made is nothing that comes from the text
  differs : (a e : Subject × Typ) → subject_back q w a.0 ≡ None → of_text q w A e.0 ≡ Some e.1 → same_subject a.0 e.0 ≡ false
  differs a e n t = go (same_subject a.0 e.0) refl
    where
      go : (b : Bool) → same_subject a.0 e.0 ≡ b → b ≡ false
      go false s = refl
      go true s = absurd (no_some e.1 (sym (ap (option_map (λ x. shape_at q (A x))) n) ∙ (ap (of_text q w A) (same_subject_true a.0 e.0 s) ∙ t)))

  still_has : (e : Subject × Typ) (es fs : Entries) → Without e.0 fs ⊎ (of_text q w A e.0 ≡ Some e.1) → Apart q w A fs → Has (through (assigned es)) fs → Has (through (assigned (e ∷ es))) fs
  still_has e es [] o p h = tt
  still_has e es (a ∷ fs) o p h = (first p.0 o, still_has e es fs (later o) p.1 h.1)
    where
      so : subject_back q w a.0 ≡ None → same_subject a.0 e.0 ≡ false → through (assigned (e ∷ es)) a.0 ≡ a.1
      so n s = new_is (assigned (e ∷ es)) a.0 n ∙ (later_is a.0 e es s ∙ (sym (new_is (assigned es) a.0 n) ∙ h.0))

      first : ((subject_back q w a.0 ≡ None) × Without a.0 fs) ⊎ (of_text q w A a.0 ≡ Some a.1) → Without e.0 (a ∷ fs) ⊎ (of_text q w A e.0 ≡ Some e.1) → through (assigned (e ∷ es)) a.0 ≡ a.1
      first (inr t) o = tells_text (assigned (e ∷ es)) a.0 a.1 t
      first (inl n) (inl k) = so n.0 k.0
      first (inl n) (inr t) = so n.0 (differs a e n.0 t)

      later : Without e.0 (a ∷ fs) ⊎ (of_text q w A e.0 ≡ Some e.1) → Without e.0 fs ⊎ (of_text q w A e.0 ≡ Some e.1)
      later (inl k) = inl k.1
      later (inr t) = inr t

  pub entries_are_had : (es : Entries) → Apart q w A es → Has (through (assigned es)) es
  entries_are_had [] p = tt
  entries_are_had (e ∷ es) p = (first p.0, still_has e es es (kept p.0) p.1 (entries_are_had es p.1))
    where
      first : ((subject_back q w e.0 ≡ None) × Without e.0 es) ⊎ (of_text q w A e.0 ≡ Some e.1) → through (assigned (e ∷ es)) e.0 ≡ e.1
      first (inl n) = new_is (assigned (e ∷ es)) e.0 n.0 ∙ first_is e es
      first (inr t) = tells_text (assigned (e ∷ es)) e.0 e.1 t

      kept : ((subject_back q w e.0 ≡ None) × Without e.0 es) ⊎ (of_text q w A e.0 ≡ Some e.1) → Without e.0 es ⊎ (of_text q w A e.0 ≡ Some e.1)
      kept (inl n) = inl n.1
      kept (inr t) = inr t
