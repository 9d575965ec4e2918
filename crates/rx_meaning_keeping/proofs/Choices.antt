-- A formed tree is one in which each choice is of a kind that all its choices are of: by recursion on the tree.
use Rattle.std.proofs.Common.{List, ◌∷◌, inl, inr, refl}
use Rattle.rx_typed.specs.Tree.{Temporary, Exp, read, borrow, share, build, unit, lazily, assign, update, call, input, print, block, choose, loop, jump, give, Operands, no_operand, operand_and, Scrutinee, at_place, of_value, Arms, no_arm, arm_and, Body, ends, runs, lets, temporary_of, temporary_at}
use Rattle.rx_typed.specs.Tree as tree
use Rattle.rx_lower_walks.specs.Actions.{Subject, subject}
use Rattle.rx_meaning_keeping.specs.Formed.{Any, Formed, FormedAll, FormedScrutinee, FormedArms, FormedBody}
use Rattle.rx_meaning_keeping.specs.Choices.{HasChoice, OperandsHave, ScrutineeHas, ArmsHave, BodyHas}

module _ (C : Subject → Arms → Type 0) where
  mutual
    pub of_kind : (J : List Temporary) (e : Exp) (d : Temporary) → Formed Any J e d → ((S : Subject) (l : Arms) → HasChoice S l e → C S l) → Formed C J e d
    of_kind J (read m v p) d h k = h
    of_kind J (borrow m v p) d h k = h
    of_kind J (share m e) d h k = (of_kind J e (temporary_at m.node 1) h.0 k, h.1)
    of_kind J (build m w es) d h k = (all_of_kind J es h.0 k, h.1)
    of_kind J (unit m) d h k = h
    of_kind J (lazily m b e f) d h k = (of_kind J e (temporary_of e) h.0 (λ S l c. k S l (inl c)), of_kind J f (temporary_of f) h.1 (λ S l c. k S l (inr c)), h.2)
    of_kind J (assign m p e) d h k = (of_kind J e (temporary_of e) h.0 k, h.1)
    of_kind J (update m o p e) d h k = (of_kind J e (temporary_of e) h.0 k, h.1, h.2, h.3)
    of_kind J (call m f es) d h k = (all_of_kind J es h.0 k, h.1)
    of_kind J (input m) d h k = h
    of_kind J (print m e) d h k = (of_kind J e (temporary_of e) h.0 k, h.1)
    of_kind J (block m b) d h k = body_of_kind J b d h k
    of_kind J (choose m c x) d h k = (scrutinee_of_kind J c h.0 (λ S l c1. k S l (inr (inl c1))), k (subject c) x (inl (refl, refl)), arms_of_kind J (subject c) x d h.2 (λ S l c1. k S l (inr (inr c1))))
    of_kind J (loop m i e) d h k = (of_kind J e (temporary_of e) h.0 k, h.1)
    of_kind J (jump m i a) d h k = tt
    of_kind J (give m e) d h k = of_kind J e (temporary_of e) h k

    all_of_kind : (J : List Temporary) (es : Operands) → FormedAll Any J es → ((S : Subject) (l : Arms) → OperandsHave S l es → C S l) → FormedAll C J es
    all_of_kind J no_operand h k = tt
    all_of_kind J (operand_and i e es) h k = (of_kind J e (temporary_of e) h.0 (λ S l c. k S l (inl c)), all_of_kind (temporary_of e ∷ J) es h.1 (λ S l c. k S l (inr c)))

    scrutinee_of_kind : (J : List Temporary) (c : Scrutinee) → FormedScrutinee Any J c → ((S : Subject) (l : Arms) → ScrutineeHas S l c → C S l) → FormedScrutinee C J c
    scrutinee_of_kind J (at_place m p) h k = tt
    scrutinee_of_kind J (of_value e) h k = of_kind J e (temporary_of e) h k

    arms_of_kind : (J : List Temporary) (T : Subject) (x : Arms) (d : Temporary) → FormedArms Any J T x d → ((S : Subject) (l : Arms) → ArmsHave S l x → C S l) → FormedArms C J T x d
    arms_of_kind J T no_arm d h k = tt
    arms_of_kind J T (arm_and p e rest) d h k = (h.0, of_kind J e d h.1 (λ S l c. k S l (inl c)), arms_of_kind J T rest d h.2 (λ S l c. k S l (inr c)))

    body_of_kind : (J : List Temporary) (b : Body) (d : Temporary) → FormedBody Any J b d → ((S : Subject) (l : Arms) → BodyHas S l b → C S l) → FormedBody C J b d
    body_of_kind J (ends e) d h k = of_kind J e d h k
    body_of_kind J (runs e rest) d h k = (of_kind J e (temporary_of e) h.0 (λ S l c. k S l (inl c)), body_of_kind J rest d h.1 (λ S l c. k S l (inr c)))
    body_of_kind J (tree.declares i xs rest) d h k = body_of_kind J rest d h k
    body_of_kind J (lets i p c rest) d h k = (scrutinee_of_kind J c h.0 (λ S l c1. k S l (inl c1)), h.1, body_of_kind J rest d h.2 (λ S l c1. k S l (inr c1)))
