-- What statements that fit make stands between the spots where they begin and end, each once.
use Rattle.std.proofs.Common.{◌≡◌, ◌⊎◌, inl, inr, ℕ, suc, nat_eq, Bool, true, false, List, [], ◌∷◌, ◌++◌, Option, Some, None, option_map, refl, sym, ap, subst, eqb-true, arith}
use Rattle.rx_core.specs.declared.types.Kind.{Kind}
use Rattle.rx_typed.specs.declared.nodes.Node.{Node}
use Rattle.rx_typed.specs.declared.nodes.Site.{Site}
use Rattle.rx_typed.specs.Types.{named as item, tuple_of, unit_shape, Shapes, Typ}
use Rattle.rx_typed.specs.Named as named
use Rattle.rx_typed.specs.Naming as naming
use Rattle.rx_typed.specs.Named.{node_of, whole_binding, pattern_node, Arms, Else, Exp, Exps, Pattern, Patterns, Statement, Statements, Written, WrittenTypes}
use Rattle.rx_typeck_solver.specs.declared.facts.Subject.{Subject}
use Rattle.rx_typeck_solver.specs.declared.facts.Subject.TheVariants as subject
use Rattle.rx_typeck_solver.specs.Facts.{Assignment, KnownItems}
use Rattle.rx_typeck_solver.specs.Solver.{same_subject}
use Rattle.rx_typeck_typed.specs.Asking.{expected, type_of}
use Rattle.rx_engine_blocks.specs.Renumbering.{Renumbering}
use Rattle.rx_engine_blocks.specs.Signature.{typ_written}
use Rattle.rx_engine_blocks.specs.Along.{subject_back, PartialInverse}
use Rattle.rx_engine_holes.specs.Entries.{of_text, Apart, Context, Entries, Without}
use Rattle.rx_engine_holes.specs.CallFits.{all_written_entries, written_entries, ArgumentsFit, ArmsFit, EndFits, GivenFits, JumpFits, MembersFit, PartsBind, StatementFits, StatementsFit, ValueFits}
use Rattle.rx_engine_holes.specs.CallFits.GivenFits.{by_itself, borrowed}
use Rattle.rx_engine_holes.specs.CallFits.ArgumentsFit.{no_arguments, more_arguments}
use Rattle.rx_engine_holes.specs.CallFits.MembersFit.{no_members, more_members}
use Rattle.rx_engine_holes.specs.CallFits.PartsBind.{no_parts, more_parts}
use Rattle.rx_engine_holes.specs.CallFits.ValueFits.{a_call, a_variable, a_tuple, the_unit, a_match}
use Rattle.rx_engine_holes.specs.CallFits.ArmsFit.{no_arms, gives_value, leaves}
use Rattle.rx_engine_holes.specs.CallFits.JumpFits.{a_break, a_continue, a_return, a_return_with, a_jump_behind}
use Rattle.rx_engine_holes.specs.CallFits.StatementFits.{done, jumps, bound, several_bound, assigned, given, given_within, declared}
use Rattle.rx_engine_holes.specs.CallFits.StatementsFit.{no_more, a_statement}
use Rattle.rx_engine_holes.specs.CallFits.EndFits.{no_tail, a_tail}
use Rattle.rx_engine_changed.specs.Spots.{after, known_from, waits_for_at, waits_where, GivenThere, NumberedArms, NumberedElse, NumberedExp, NumberedExps, NumberedPatterns, NumberedStatement, NumberedStatements, NumberedType, NumberedTypes, Spot}
use Rattle.rx_engine_changed.specs.Inside.{Between, Inside, NewNodes, Reaches, StandsThere, VariablesStand}

-- ---- spots

pub on : {p q r : Spot} → Reaches p q → Reaches q r → Reaches p r
on a b = let i = a.nodes in let j = b.nodes in let k = a.variables in let l = b.variables in record { nodes = omega (arith, i, j); variables = omega (arith, k, l) }

pub still : (p : Spot) → Reaches p p
still p = record { nodes = omega arith; variables = omega arith }

pub one_on : (p : Spot) → Reaches p (after p)
one_on p = record { nodes = omega arith; variables = omega arith }

pub reaches_so : {p q r : Spot} → Reaches p q → r ≡ q → Reaches p r
reaches_so {p = p} a e = subst (Reaches p) (sym e) a

waits_for_reaches : (n : Node) (o : Option ℕ) (p : Spot) → Reaches p (waits_for_at n o p)
waits_for_reaches n None p = still p
waits_for_reaches n (Some x) p = record { nodes = omega arith; variables = omega arith }

pub waits_reaches : (b : Bool) (x : Pattern) (p : Spot) → Reaches p (waits_where b x p)
waits_reaches true x p = waits_for_reaches (pattern_node x) (whole_binding x) p
waits_reaches false x p = still p

known_reaches : (i j : ℕ) (p : Spot) → Reaches p (known_from i j p)
known_reaches i j p = record { nodes = omega arith; variables = omega arith }

given_reaches : (o : Option (ℕ × ℕ)) (x : ℕ) (d : Option ℕ) (p q : Spot) → GivenThere o x d p q → Reaches p q
given_reaches None x d p q g = reaches_so (still p) g.1
given_reaches (Some w) x d p q g = subst (Reaches p) (sym g.1) (record { nodes = omega arith; variables = omega arith })

-- ---- subjects between spots

other_false : (n m : ℕ) → (n ≡ m → ⊥) → nat_eq n m ≡ false
other_false n m w = by (nat_eq n m) refl
  where
    by : (b : Bool) → nat_eq n m ≡ b → b ≡ false
    by true e = absurd (w (eqb-true n m e))
    by false e = refl

later_differs : (p q r : Spot) (x y : Subject) → Between p q x → Between q r y → same_subject y x ≡ false
later_differs p q r (subject.Variable x) (subject.Variable y) a b = other_false y x (λ e. let i = a.1 in let j = b.0 in absurd (omega (arith, e, i, j)))
later_differs p q r (subject.Node x) (subject.Node y) a b = other_false y x (λ e. let i = a.1 in let j = b.0 in absurd (omega (arith, e, i, j)))
later_differs p q r (subject.Expected x) (subject.Expected y) a b = other_false y x (λ e. let i = a.1 in let j = b.0 in absurd (omega (arith, e, i, j)))
later_differs p q r (subject.Variable x) (subject.Node y) a b = refl
later_differs p q r (subject.Variable x) (subject.Expected y) a b = refl
later_differs p q r (subject.Node x) (subject.Variable y) a b = refl
later_differs p q r (subject.Node x) (subject.Expected y) a b = refl
later_differs p q r (subject.Expected x) (subject.Variable y) a b = refl
later_differs p q r (subject.Expected x) (subject.Node y) a b = refl

pub earlier_differs : (p q r : Spot) (x y : Subject) → Between p q x → Between q r y → same_subject x y ≡ false
earlier_differs p q r (subject.Variable x) (subject.Variable y) a b = other_false x y (λ e. let i = a.1 in let j = b.0 in absurd (omega (arith, e, i, j)))
earlier_differs p q r (subject.Node x) (subject.Node y) a b = other_false x y (λ e. let i = a.1 in let j = b.0 in absurd (omega (arith, e, i, j)))
earlier_differs p q r (subject.Expected x) (subject.Expected y) a b = other_false x y (λ e. let i = a.1 in let j = b.0 in absurd (omega (arith, e, i, j)))
earlier_differs p q r (subject.Variable x) (subject.Node y) a b = refl
earlier_differs p q r (subject.Variable x) (subject.Expected y) a b = refl
earlier_differs p q r (subject.Node x) (subject.Variable y) a b = refl
earlier_differs p q r (subject.Node x) (subject.Expected y) a b = refl
earlier_differs p q r (subject.Expected x) (subject.Variable y) a b = refl
earlier_differs p q r (subject.Expected x) (subject.Node y) a b = refl

between_wider : {p' p q q' : Spot} → Reaches p' p → Reaches q q' → (x : Subject) → Between p q x → Between p' q' x
between_wider a b (subject.Variable x) h = let i = a.variables in let j = b.variables in let k = h.0 in let l = h.1 in (omega (arith, i, k), omega (arith, j, l))
between_wider a b (subject.Node x) h = let i = a.nodes in let j = b.nodes in let k = h.0 in let l = h.1 in (omega (arith, i, k), omega (arith, j, l))
between_wider a b (subject.Expected x) h = let i = a.nodes in let j = b.nodes in let k = h.0 in let l = h.1 in (omega (arith, i, k), omega (arith, j, l))

pub inside_wider : {p' p q q' : Spot} → Reaches p' p → Reaches q q' → (es : Entries) → Inside p q es → Inside p' q' es
inside_wider a b [] h = tt
inside_wider a b (e ∷ es) h = (between_wider a b e.0 h.0, h.1, inside_wider a b es h.2)

-- what stands in front is none of these
without_later : (p q r : Spot) (x : Subject) → Between p q x → (es : Entries) → Inside q r es → Without x es
without_later p q r x a [] h = tt
without_later p q r x a (e ∷ es) h = (later_differs p q r x e.0 a h.0, without_later p q r x a es h.2)

without_earlier : (p q r : Spot) (x : Subject) → Between q r x → (es : Entries) → Inside p q es → Without x es
without_earlier p q r x a [] h = tt
without_earlier p q r x a (e ∷ es) h = (earlier_differs p q r e.0 x h.0 a, without_earlier p q r x a es h.2)

without_both : (x : Subject) (a b : Entries) → Without x a → Without x b → Without x (a ++ b)
without_both x [] b h g = g
without_both x (e ∷ a) b h g = (h.0, without_both x a b h.1 g)

inside_both : {p q r : Spot} → Reaches p q → Reaches q r → (a b : Entries) → Inside p q a → Inside q r b → Inside p r (a ++ b)
inside_both {p = p} {q = q} {r = r} i j [] b h g = inside_wider {p' = p} {p = q} {q = r} {q' = r} i (still r) b g
inside_both {p = p} {q = q} {r = r} i j (e ∷ a) b h g =
    (between_wider (still p) j e.0 h.0, without_both e.0 a b h.1 (without_later p q r e.0 h.0 b g), inside_both i j a b h.2 g)

-- ---- a node and what stands behind it

node_between : (n : ℕ) (p : Spot) → n ≡ p.number → Between p (after p) (subject.Node n)
node_between n p e = (omega (arith, e), omega (arith, e))

headed : (n : Node) (t : Typ) (p q : Spot) (a : Entries) → n.number ≡ p.number → Reaches (after p) q → Inside (after p) q a → Inside p q ((type_of n, t) ∷ a)
headed n t p q a e r h =
    (between_wider (still p) r (type_of n) (node_between n.number p e), without_later p (after p) q (type_of n) (node_between n.number p e) a h, inside_wider (one_on p) (still q) a h)

expected_headed : (n : Node) (t : Typ) (p q : Spot) (a : Entries) → n.number ≡ p.number → Reaches (after p) q → Without (expected n) a → Inside p q a → Inside p q ((expected n, t) ∷ a)
expected_headed n t p q a e r w h = (between_wider (still p) r (expected n) (node_between n.number p e), w, h)

-- an expression at its spot: what is expected there has no entry among these
pub record AtSpot (p q : Spot) (n : Node) (a : Entries) : Type 0 where
  pub reaches : Reaches (after p) q
  pub at : n.number ≡ p.number
  pub inside : Inside p q a
  pub unexpected : Without (expected n) a

typed_at : (n : Node) (t : Typ) (p q : Spot) (a : Entries) → n.number ≡ p.number → Reaches (after p) q → Inside (after p) q a → AtSpot p q n ((type_of n, t) ∷ a)
typed_at n t p q a e r h =
    record { reaches = r; at = e; inside = headed n t p q a e r h; unexpected = (refl, without_later p (after p) q (expected n) (node_between n.number p e) a h) }

untyped_at : (n : Node) (p q : Spot) (a : Entries) → n.number ≡ p.number → Reaches (after p) q → Inside (after p) q a → AtSpot p q n a
untyped_at n p q a e r h =
    record { reaches = r; at = e; inside = inside_wider (one_on p) (still q) a h; unexpected = without_later p (after p) q (expected n) (node_between n.number p e) a h }

-- with what is expected there
with_expected : {p q : Spot} {n : Node} {a : Entries} (u : Typ) → AtSpot p q n a → Inside p q ((expected n, u) ∷ a)
with_expected {p = p} {q = q} {n = n} {a = a} u x = expected_headed n u p q a x.at x.reaches x.unexpected x.inside

whole_reaches : {p q : Spot} {n : Node} {a : Entries} → AtSpot p q n a → Reaches p q
whole_reaches {p = p} x = on (one_on p) x.reaches

-- where variables are known is no matter
at_known : {p q : Spot} {n : Node} {a : Entries} (i j : ℕ) → AtSpot (known_from i j p) q n a → AtSpot p q n a
at_known {p = p} {q = q} {a = a} i j x =
    record { reaches = record { nodes = x.reaches.nodes; variables = x.reaches.variables }; at = x.at; inside = inside_wider (known_reaches i j p) (still q) a x.inside; unexpected = x.unexpected }

-- ---- types that are written, patterns

mutual
  type_inside : (w : Written) (p q : Spot) → NumberedType p w q → Reaches (after p) q × Inside p q (written_entries w)
  type_inside (named.a_kind n k) p q h = let r = reaches_so (still (after p)) h.1 in (r, headed n (typ_written (named.a_kind n k)) p q [] h.0.0 r tt)
  type_inside (named.a_bool n) p q h = let r = reaches_so (still (after p)) h.1 in (r, headed n (typ_written (named.a_bool n)) p q [] h.0.0 r tt)
  type_inside (named.a_tuple n ts) p q h = let x = types_inside ts (after p) q h.1 in (x.0, headed n (typ_written (named.a_tuple n ts)) p q (all_written_entries ts) h.0.0 x.0 x.1)
  type_inside (named.a_reference n m t) p q h = let x = type_inside t (after p) q h.1 in let r = on (one_on (after p)) x.0 in (r, headed n (typ_written (named.a_reference n m t)) p q (written_entries t) h.0.0 r x.1)
  type_inside (named.an_item n i ls) p q h = let r = reaches_so (still (after p)) h.1 in (r, headed n (typ_written (named.an_item n i ls)) p q [] h.0.0 r tt)

  types_inside : (ts : WrittenTypes) (p q : Spot) → NumberedTypes p ts q → Reaches p q × Inside p q (all_written_entries ts)
  types_inside named.no_written p q h = (reaches_so (still p) h, tt)
  types_inside (named.written_and t ts) p q h =
      let x = type_inside t p h.0 h.1 in let y = types_inside ts h.0 q h.2 in let r = on (one_on p) x.0 in
      (on r y.0, inside_both r y.0 (written_entries t) (all_written_entries ts) x.1 y.1)

-- a variable that a pattern declares
bound_inside : (n : Node) (d : ℕ) (t : Typ) (p r : Spot) → n.number ≡ p.number → d ≡ p.declared → r.number ≡ (after p).number → r.declared ≡ suc p.declared → Reaches (after p) r × Inside p r ((type_of n, t) ∷ (subject.Variable d, t) ∷ [])
bound_inside n d t p r e f i j =
    (record { nodes = omega (arith, i); variables = omega (arith, j) }, ((omega (arith, e), omega (arith, e, i)), (refl, tt), ((omega (arith, f), omega (arith, f, j)), tt, tt)))

module _ (E : KnownItems) where
  pub parts_inside : {ts : List Typ} {k : ℕ} {ps : Patterns} {a : Entries} → PartsBind E ts k ps a → (p q : Spot) → NumberedPatterns p ps q → Reaches p q × Inside p q a
  parts_inside no_parts p q h = (reaches_so (still p) h, tt)
  parts_inside (more_parts {d = d} {n = n} {t = t} {a = a} g l xs) p q h =
      let x = bound_inside n d t p h.0 h.1.0.0 h.1.1 (ap (λ (s : Spot). s.number) h.1.2) (ap (λ (s : Spot). s.declared) h.1.2) in
      let y = parts_inside xs h.0 q h.2 in let r = on (one_on p) x.0 in
      (on r y.0, inside_both r y.0 ((type_of n, t) ∷ (subject.Variable d, t) ∷ []) a x.1 y.1)

  -- ---- arguments and members

  given_inside : {B : Context} {e : Exp} {u : Typ} {a : Entries} → GivenFits E B e u a → (p q : Spot) (s : Site) → NumberedExp p s e q → Reaches p q × Inside p q a
  given_inside (by_itself {n = n} {t = t} {u = u} i y z c) p q s h =
      let r = reaches_so (still (after p)) h.2 in let x = headed n u p q [] h.0.0 r tt in
      (on (one_on p) r, (x.0, (refl, tt), (x.0, tt, tt)))
  given_inside (borrowed {n = n} {k = k} {m = m} {t = t} {u = u} i y z w l v c) p q s h =
      let r = reaches_so (still (after (after p))) h.1.2 in let r' = on (one_on (after p)) r in
      let x = headed k t (after p) q [] h.1.0.0 r tt in let z = typed_at n u p q ((type_of k, t) ∷ []) h.0.0 r' x in
      (on (one_on p) r', (z.inside.2.0, (earlier_differs p (after p) q (type_of n) (type_of k) (node_between n.number p h.0.0) x.0, (refl, tt)), (z.inside.0, (refl, tt), (z.inside.0, tt, tt))))

  arguments_inside : {B : Context} {g k : ℕ} {es : Exps} {a : Entries} → ArgumentsFit E B g k es a → (p q : Spot) (s : Site) → NumberedExps p s es q → Reaches p q × Inside p q a
  arguments_inside no_arguments p q s h = (reaches_so (still p) h, tt)
  arguments_inside (more_arguments {a = a} {b = b} i x xs) p q s h =
      let y = given_inside x p h.0 s h.1 in let z = arguments_inside xs h.0 q s h.2 in (on y.0 z.0, inside_both y.0 z.0 a b y.1 z.1)

  members_inside : {B : Context} {es : Exps} {ts : Shapes Kind} {a : Entries} → MembersFit E B es ts a → (p q : Spot) (s : Site) → NumberedExps p s es q → Reaches p q × Inside p q a
  members_inside no_members p q s h = (reaches_so (still p) h, tt)
  members_inside (more_members {n = n} {t = t} {a = a} i y z xs) p q s h =
      let r = reaches_so (still (after p)) h.1.2 in let x = headed n t p h.0 [] h.1.0.0 r tt in let w = members_inside xs h.0 q s h.2 in
      let o = on (one_on p) r in (on o w.0, inside_both o w.0 ((type_of n, t) ∷ []) a x w.1)

  -- ---- values, jumps and statements

  -- an arm: its pattern, its value or jump, the arms behind it
  arm_inside : (m : Node) (e : Exp) (i u : Typ) (a b c : Entries) (p r s q : Spot) → m.number ≡ p.number → Reaches (after p) r × Inside (after p) r a → AtSpot r s (node_of e) b → Reaches s q × Inside s q c
      → Reaches p q × Inside p q ((type_of m, i) ∷ (a ++ ((expected (node_of e), u) ∷ (b ++ c))))
  arm_inside m e i u a b c p r s q at x y z =
      let k = on (whole_reaches y) z.0 in (
        on (one_on p) (on x.0 k),
        headed m i p q _ at (on x.0 k) (inside_both x.0 k a ((expected (node_of e), u) ∷ (b ++ c)) x.1
            (inside_both (whole_reaches y) z.0 ((expected (node_of e), u) ∷ b) c (with_expected u y) z.1)),
      )

  -- an assignment: its own node and that of its place, and what is assigned
  assigned_inside : (k n e : Node) (o u v : Typ) (p r q : Spot) (a : Entries) → k.number ≡ (after p).number → n.number ≡ (after (after p)).number → Reaches (after (after (after p))) r → AtSpot r q e a
      → Reaches p q × Inside p q ((type_of n, u) ∷ (expected e, v) ∷ (type_of k, o) ∷ a)
  assigned_inside k n e o u v p r q a i j l x =
      let p1 = after p in let p2 = after p1 in let p3 = after p2 in
      let kb = node_between k.number p1 i in let nb = node_between n.number p2 j in
      let w = on l (whole_reaches x) in let r0 = on (one_on p) (on (one_on p1) (on (one_on p2) l)) in
      let a' = inside_wider l (still q) a x.inside in (
        on r0 (whole_reaches x),
        (
          between_wider (on (one_on p) (one_on p1)) w (type_of n) nb,
          (refl, (earlier_differs p1 p2 p3 (type_of k) (type_of n) kb nb, without_later p2 p3 q (type_of n) nb a a')),
          (
            between_wider r0 x.reaches (expected e) (node_between e.number r x.at),
            (refl, x.unexpected),
            (
              between_wider (one_on p) (on (one_on p2) w) (type_of k) kb,
              without_later p1 p2 q (type_of k) kb a (inside_wider (one_on p2) (still q) a a'),
              inside_wider r0 (still q) a x.inside,
            ),
          ),
        ),
      )

  module _ (f : ℕ) where
    mutual
      pub value_inside : {B : Context} {e : Exp} {u t : Typ} {a : Entries} → ValueFits E f B e u t a → (p q : Spot) (s : Site) → NumberedExp p s e q → AtSpot p q (node_of e) a
      value_inside (a_call {n = n} {t = t} {a = a} l x r) p q s h = let y = arguments_inside x (after p) q Site.Expects h.1 in typed_at n t p q a h.0.0 y.0 y.1
      value_inside (a_variable {n = n} {t = t} i y) p q s h = typed_at n t p q [] h.0.0 (reaches_so (still (after p)) h.2) tt
      value_inside (a_tuple {n = n} {ts = ts} {a = a} x l) p q s h = let y = members_inside x (after p) q Site.Value h.1 in typed_at n (tuple_of ts) p q a h.0.0 y.0 y.1
      value_inside (the_unit {n = n} {m = m} z) p q s h =
          let r = reaches_so (reaches_so (still (after (after p))) h.1.2) h.1.3 in let x = headed m unit_shape (after p) q [] h.1.0.0 r tt in
          typed_at n unit_shape p q ((type_of m, unit_shape) ∷ (expected m, unit_shape) ∷ []) h.0.0 (on (one_on (after p)) r) (x.0, (refl, tt), (x.0, tt, tt))
      value_inside (a_match {n = n} {e = e} {t = t} {a = a} {b = b} x z v w y m) p q s h =
          let i = value_inside x (after p) h.1 Site.Scrutinee h.2 in let j = arms_inside y h.1 q (naming.passed_on s) h.3 in
          typed_at n t p q (a ++ b) h.0.0 (on (whole_reaches i) j.0) (inside_both (whole_reaches i) j.0 a b i.inside j.1)

      arms_inside : {B : Context} {z : Site} {i : ℕ} {u t : Typ} {l : Arms} {a : Entries} → ArmsFit E f B z i u t l a → (p q : Spot) (s : Site) → NumberedArms p s l q → Reaches p q × Inside p q a
      arms_inside no_arms p q s h = (reaches_so (still p) h, tt)
      arms_inside {i = i} {u = u} (gives_value {m = m} {e = e} {a = a} {b = b} {c = c} l x r o z w xs) p q s h =
          arm_inside m e (item i) u a b c p h.0 h.2 q h.1.0.0 (parts_inside x (after p) h.0 h.1.1) (at_known p.declared h.0.declared (value_inside r (known_from p.declared h.0.declared h.0) h.2 s h.3)) (arms_inside xs h.2 q s h.4)
      arms_inside {i = i} {u = u} (leaves {m = m} {e = e} {a = a} {b = b} {c = c} l x r o z xs) p q s h =
          arm_inside m e (item i) u a b c p h.0 h.2 q h.1.0.0 (parts_inside x (after p) h.0 h.1.1) (at_known p.declared h.0.declared (jump_inside r (known_from p.declared h.0.declared h.0) h.2 s h.3)) (arms_inside xs h.2 q s h.4)

      jump_inside : {B : Context} {e : Exp} {u : Typ} {a : Entries} → JumpFits E f B e u a → (p q : Spot) (s : Site) → NumberedExp p s e q → AtSpot p q (node_of e) a
      jump_inside (a_break {n = n}) p q s h = untyped_at n p q [] h.0.0 (reaches_so (still (after p)) h.1) tt
      jump_inside (a_continue {n = n}) p q s h = untyped_at n p q [] h.0.0 (reaches_so (still (after p)) h.1) tt
      jump_inside (a_return {n = n} r) p q s h = untyped_at n p q [] h.0.0 (reaches_so (still (after p)) h.1) tt
      jump_inside (a_return_with {n = n} {r = r} i x z c) p q s h = let y = value_inside x (after p) q Site.Expects h.1 in untyped_at n p q _ h.0.0 (whole_reaches y) (with_expected r y)
      jump_inside (a_jump_behind {n = n} {m = m} {u = u} {a = a} z x v) p q s h =
          let y = statements_inside x (after (after p)) h.1.1 h.1.2 in let r = reaches_so y.0 h.1.3 in
          let w = with_expected u (untyped_at m (after p) q a h.1.0.0 r (subst (λ (z : Spot). Inside (after (after p)) z a) (sym h.1.3) y.1)) in
          untyped_at n p q _ h.0.0 (on (one_on (after p)) r) w

      pub statement_inside : {B : Context} {x : Statement} {a : Entries} → StatementFits E f B x a → (p q : Spot) → NumberedStatement p x q → Reaches p q × Inside p q a
      statement_inside (done {a = a} x z) p q h = let y = value_inside x (after p) q Site.Value h.1 in (on (one_on p) (whole_reaches y), inside_wider (one_on p) (still q) a y.inside)
      statement_inside (jumps {a = a} x z) p q h = let y = jump_inside x (after p) q Site.Value h.1 in (on (one_on p) (whole_reaches y), inside_wider (one_on p) (still q) a y.inside)
      statement_inside (bound {p = n} {d = d} {m = m} {e = e} {t = t} {a = a} x z i v l) p q h =
          let b = bound_inside n d t (after p) h.1 h.2.0.0 h.2.1 (ap (λ (s : Spot). s.number) h.2.2) (ap (λ (s : Spot). s.declared) h.2.2) in
          let y = value_inside x h.3 h.5 Site.Scrutinee h.6 in
          let r = on (one_on p) (on (one_on (after p)) b.0) in let k = on (reaches_so (still h.1) h.4) (whole_reaches y) in let k5 = known_from (after p).declared h.1.declared h.5 in let w = reaches_so (on (known_reaches (after p).declared h.1.declared h.5) (waits_reaches _ (named.bind n d m) k5)) h.7 in
          (on r (on k w), inside_both r (on k w) ((type_of n, t) ∷ (subject.Variable d, t) ∷ []) a (inside_wider (one_on p) (still h.1) ((type_of n, t) ∷ (subject.Variable d, t) ∷ []) b.1) (inside_wider (reaches_so (still h.1) h.4) w a y.inside))
      statement_inside (several_bound {p = n} {ps = ps} {e = e} {ts = ts} {a = a} {b = b} x z i v l bs) p q h =
          let c = parts_inside bs (after (after p)) h.1 h.2.1 in
          let y = value_inside x h.3 h.5 Site.Scrutinee h.6 in
          let r = on (one_on p) (on (one_on (after p)) c.0) in let k = on (reaches_so (still h.1) h.4) (whole_reaches y) in let k5 = known_from (after p).declared h.1.declared h.5 in let w = reaches_so (on (known_reaches (after p).declared h.1.declared h.5) (waits_reaches _ (named.tuple_pattern n ps) k5)) h.7 in
          (on r (on k w), inside_both r (on k w) ((type_of n, tuple_of ts) ∷ b) a (inside_wider (one_on p) (still h.1) ((type_of n, tuple_of ts) ∷ b) (headed n (tuple_of ts) (after p) h.1 b h.2.0.0 c.0 c.1)) (inside_wider (reaches_so (still h.1) h.4) w a y.inside))
      statement_inside (assigned {k = k} {p = n} {e = e} {t = t} {u = u} {a = a} i y s z v w c) p q h =
          let p1 = after p in let p2 = after p1 in
          let x = value_inside v h.1.1 q Site.Expects h.1.4 in
          let r = reaches_so (still (after p2)) h.1.2.2 in
          assigned_inside k n (node_of e) unit_shape u u p h.1.1 q a h.1.0.0 h.1.2.0.0 r x
      statement_inside (given {k = k} {p = n} {e = e} {t = t} {a = a} i y s v w l) p q h =
          let p2 = after (after p) in
          let x = value_inside v (after p2) h.1.3 Site.Reborrows h.1.4 in
          let o = given_reaches _ _ _ h.1.3 q h.1.6 in
          let z = assigned_inside k n (node_of e) unit_shape t t p (after p2) h.1.3 a h.1.0.0 h.1.1.0 (still (after p2)) x in
          (on z.0 o, inside_wider (still p) o ((type_of n, t) ∷ (expected (node_of e), t) ∷ (type_of k, unit_shape) ∷ a) z.1)
      statement_inside (given_within {k = k} {p = n} {e = e} {t = t} {a = a} i y s v w) p q h =
          let p2 = after (after p) in
          let x = value_inside v (after p2) h.1.3 Site.Reborrows h.1.4 in
          let o = given_reaches _ _ _ h.1.3 q h.1.6 in
          let z = assigned_inside k n (node_of e) unit_shape t t p (after p2) h.1.3 a h.1.0.0 h.1.1.0 (still (after p2)) x in
          (on z.0 o, inside_wider (still p) o ((type_of n, t) ∷ (expected (node_of e), t) ∷ (type_of k, unit_shape) ∷ a) z.1)
      statement_inside (declared {p = n} {d = d} {m = m} {w = w} l k) p q h =
          let b = bound_inside n d (typ_written w) (after p) h.1 h.2.0.0 h.2.1 (ap (λ (s : Spot). s.number) h.2.2) (ap (λ (s : Spot). s.declared) h.2.2) in
          let y = type_inside w h.1 h.3 h.4 in
          let r = on (one_on p) (on (one_on (after p)) b.0) in let o = on (one_on h.1) y.0 in let z = reaches_so (known_reaches (after p).declared h.1.declared h.3) h.5 in
          (on r (on o z), inside_both r (on o z) ((type_of n, typ_written w) ∷ (subject.Variable d, typ_written w) ∷ []) (written_entries w) (inside_wider (one_on p) (still h.1) ((type_of n, typ_written w) ∷ (subject.Variable d, typ_written w) ∷ []) b.1) (inside_wider (still h.1) z (written_entries w) y.1))

      pub statements_inside : {B : Context} {ss : Statements} {a : Entries} → StatementsFit E f B ss a → (p q : Spot) → NumberedStatements p ss q → Reaches p q × Inside p q a
      statements_inside no_more p q h = (reaches_so (still p) h, tt)
      statements_inside (a_statement {a = a} {b = b} x xs) p q h =
          let y = statement_inside x p h.0 h.1 in let z = statements_inside xs h.0 q h.2 in (on y.0 z.0, inside_both y.0 z.0 a b y.1 z.1)

    pub end_inside : {B : Context} {n : Node} {d : Bool} {ss : Statements} {o : Else} {a : Entries} → EndFits E f B n d ss o a → (p r q : Spot) (s : Site) → NumberedStatements p ss r → NumberedElse r s o q → Inside p q a
    end_inside (no_tail {a = a} x k) p r q s h g = subst (λ (z : Spot). Inside p z a) (sym g) (statements_inside x p r h).1
    end_inside (a_tail {u = u} {a = a} {b = b} x y v z w) p r q s h g =
        let i = statements_inside x p r h in let j = value_inside y r q s g in inside_both i.0 (whole_reaches j) a _ i.1 (with_expected u j)

-- ---- so they are apart

module _ (q : Renumbering) (w : PartialInverse q) (A : Assignment) where
  new_or_known : (a b : Spot) (x : Subject) (t : Typ) (es : Entries) → NewNodes q w a b → Between a b x → Without x es → StandsThere q w A x t → ((subject_back q w x ≡ None) × Without x es) ⊎ (of_text q w A x ≡ Some t)
  new_or_known a b (subject.Node n) t es new i o s = inl (ap (option_map subject.Node) (new n i.0 i.1), o)
  new_or_known a b (subject.Expected n) t es new i o s = inl (ap (option_map subject.Expected) (new n i.0 i.1), o)
  new_or_known a b (subject.Variable x) t es new i o (inl s) = inl (ap (option_map subject.Variable) s, o)
  new_or_known a b (subject.Variable x) t es new i o (inr s) = inr s

  pub inside_apart : (a b : Spot) (es : Entries) → NewNodes q w a b → Inside a b es → VariablesStand q w A es → Apart q w A es
  inside_apart a b [] new h v = tt
  inside_apart a b (e ∷ es) new h v = (new_or_known a b e.0 e.1 es new h.0 h.1 v.0, inside_apart a b es new h.2 v.1)
