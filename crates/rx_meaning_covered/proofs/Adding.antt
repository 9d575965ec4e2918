-- Where the matches of a function are covered, each choice and each `let` of its tree is: by recursion on the tree.
use Rattle.std.proofs.Common.{ℕ, List, [], ◌∷◌, ◌++◌}
use Rattle.rx_typed.specs.Types.{Declarations}
use Rattle.rx_typed.specs.Tree.{Pattern, Exp, read, borrow, share, build, unit, lazily, assign, update, call, input, print, block, choose, loop, jump, give, Operands, no_operand, operand_and, Scrutinee, at_place, of_value, Arms, no_arm, arm_and, Body, ends, runs, lets, mark_of}
use Rattle.rx_typed.specs.Tree as tree
use Rattle.rx_cover.specs.Choices.{Choice, choices, choices_among, choices_before, choices_behind, choices_within}
use Rattle.rx_cover.specs.Causes.{AllCovered}
use Rattle.rx_meaning_covered.specs.Standing.{AnyChoice, AnyLet, Standing, StandingAll, StandingScrutinee, StandingArms, StandingBody}
use Rattle.rx_meaning_covered.specs.Covered.{CoversChoice, CoversLet}

covered_front : (D : Declarations) (cs ds : List Choice) → AllCovered D (cs ++ ds) → AllCovered D cs
covered_front D [] ds h = tt
covered_front D (c ∷ cs) ds h = (h.0, covered_front D cs ds h.1)

covered_behind : (D : Declarations) (cs ds : List Choice) → AllCovered D (cs ++ ds) → AllCovered D ds
covered_behind D [] ds h = h
covered_behind D (c ∷ cs) ds h = covered_behind D cs ds h.1

module _ (D : Declarations) (C : Scrutinee → Arms → Type 0) (L : Scrutinee → Pattern → Type 0) where
  abbrev C1 : Scrutinee → Arms → Type 0
  C1 c l = C c l × CoversChoice D c l

  abbrev L1 : Scrutinee → Pattern → Type 0
  L1 c p = L c p × CoversLet D c p

  mutual
    pub with_cover : (n : ℕ) (e : Exp) → AllCovered D (choices n e) → Standing C L e → Standing C1 L1 e
    with_cover n (read m v p) h s = s
    with_cover n (borrow m k p) h s = s
    with_cover n (share m e) h s = with_cover (mark_of e).node e h s
    with_cover n (build m w es) h s = all_with_cover es h s
    with_cover n (unit m) h s = s
    with_cover n (lazily m b e f) h s =
        let x = choices (mark_of e).node e in let y = choices (mark_of f).node f in (with_cover (mark_of e).node e (covered_front D x y h) s.0, with_cover (mark_of f).node f (covered_behind D x y h) s.1)
    with_cover n (assign m p e) h s = (s.0, with_cover (mark_of e).node e h s.1)
    with_cover n (update m o p e) h s = (s.0, with_cover (mark_of e).node e h s.1)
    with_cover n (call m f es) h s = all_with_cover es h s
    with_cover n (input m) h s = s
    with_cover n (print m e) h s = with_cover (mark_of e).node e h s
    with_cover n (block m b) h s = body_with_cover b h s
    with_cover n (choose m c l) h s =
        let x = choices_before c in let y = choices_behind l in (before_with_cover c (covered_front D x y h.1) s.0, (s.1, h.0.covers), behind_with_cover l (covered_behind D x y h.1) s.2)
    with_cover n (loop m l e) h s = with_cover m.node e h s
    with_cover n (jump m l k) h s = s
    with_cover n (give m e) h s = with_cover (mark_of e).node e h s

    all_with_cover : (es : Operands) → AllCovered D (choices_among es) → StandingAll C L es → StandingAll C1 L1 es
    all_with_cover no_operand h s = tt
    all_with_cover (operand_and i e es) h s = let x = choices (mark_of e).node e in let y = choices_among es in (with_cover (mark_of e).node e (covered_front D x y h) s.0, all_with_cover es (covered_behind D x y h) s.1)

    before_with_cover : (c : Scrutinee) → AllCovered D (choices_before c) → StandingScrutinee C L c → StandingScrutinee C1 L1 c
    before_with_cover (at_place m p) h s = s
    before_with_cover (of_value e) h s = with_cover (mark_of e).node e h s

    behind_with_cover : (l : Arms) → AllCovered D (choices_behind l) → StandingArms C L l → StandingArms C1 L1 l
    behind_with_cover no_arm h s = tt
    behind_with_cover (arm_and p e l) h s = let x = choices (mark_of e).node e in let y = choices_behind l in (with_cover (mark_of e).node e (covered_front D x y h) s.0, behind_with_cover l (covered_behind D x y h) s.1)

    body_with_cover : (b : Body) → AllCovered D (choices_within b) → StandingBody C L b → StandingBody C1 L1 b
    body_with_cover (ends e) h s = with_cover (mark_of e).node e h s
    body_with_cover (runs e b) h s = let x = choices (mark_of e).node e in let y = choices_within b in (with_cover (mark_of e).node e (covered_front D x y h) s.0, body_with_cover b (covered_behind D x y h) s.1)
    body_with_cover (tree.declares n xs b) h s = body_with_cover b h s
    body_with_cover (lets n p c b) h s = let x = choices_before c in let y = choices_within b in (before_with_cover c (covered_front D x y h.1) s.0, (s.1, h.0.covers), body_with_cover b (covered_behind D x y h.1) s.2)

-- ---- kinds that are told of the same tree

module _ (C C1 C2 : Scrutinee → Arms → Type 0) (L L1 L2 : Scrutinee → Pattern → Type 0) (f : (c : Scrutinee) (l : Arms) → C c l → C1 c l → C2 c l) (g : (c : Scrutinee) (p : Pattern) → L c p → L1 c p → L2 c p) where
  mutual
    pub zipped : (e : Exp) → Standing C L e → Standing C1 L1 e → Standing C2 L2 e
    zipped (read m v p) h s = h
    zipped (borrow m k p) h s = h
    zipped (share m e) h s = zipped e h s
    zipped (build m w es) h s = all_zipped es h s
    zipped (unit m) h s = tt
    zipped (lazily m b x y) h s = (zipped x h.0 s.0, zipped y h.1 s.1)
    zipped (assign m p e) h s = (h.0, zipped e h.1 s.1)
    zipped (update m o p e) h s = (h.0, zipped e h.1 s.1)
    zipped (call m i es) h s = all_zipped es h s
    zipped (input m) h s = tt
    zipped (print m e) h s = zipped e h s
    zipped (block m b) h s = body_zipped b h s
    zipped (choose m c l) h s = (scrutinee_zipped c h.0 s.0, f c l h.1 s.1, arms_zipped l h.2 s.2)
    zipped (loop m l e) h s = zipped e h s
    zipped (jump m l k) h s = tt
    zipped (give m e) h s = zipped e h s

    all_zipped : (es : Operands) → StandingAll C L es → StandingAll C1 L1 es → StandingAll C2 L2 es
    all_zipped no_operand h s = tt
    all_zipped (operand_and i e es) h s = (zipped e h.0 s.0, all_zipped es h.1 s.1)

    scrutinee_zipped : (c : Scrutinee) → StandingScrutinee C L c → StandingScrutinee C1 L1 c → StandingScrutinee C2 L2 c
    scrutinee_zipped (at_place m p) h s = h
    scrutinee_zipped (of_value e) h s = zipped e h s

    arms_zipped : (l : Arms) → StandingArms C L l → StandingArms C1 L1 l → StandingArms C2 L2 l
    arms_zipped no_arm h s = tt
    arms_zipped (arm_and p e l) h s = (zipped e h.0 s.0, arms_zipped l h.1 s.1)

    body_zipped : (b : Body) → StandingBody C L b → StandingBody C1 L1 b → StandingBody C2 L2 b
    body_zipped (ends e) h s = zipped e h s
    body_zipped (runs e b) h s = (zipped e h.0 s.0, body_zipped b h.1 s.1)
    body_zipped (tree.declares n xs b) h s = body_zipped b h s
    body_zipped (lets n p c b) h s = (scrutinee_zipped c h.0 s.0, g c p h.1 s.1, body_zipped b h.2 s.2)

pub choices_covered : (D : Declarations) (n : ℕ) (e : Exp) → AllCovered D (choices n e) → Standing AnyChoice AnyLet e → Standing (CoversChoice D) (CoversLet D) e
choices_covered D n e h s = zipped AnyChoice (λ c l. AnyChoice c l × CoversChoice D c l) (CoversChoice D) AnyLet (λ c p. AnyLet c p × CoversLet D c p) (CoversLet D) (λ c l a b. b.1) (λ c p a b. b.1) e s (with_cover D AnyChoice AnyLet n e h s)
