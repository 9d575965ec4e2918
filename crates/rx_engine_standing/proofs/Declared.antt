-- The variables that have entries of types where statements fit are those that their trees declare, in order: so each has one entry.
use Rattle.std.proofs.Common.{◌≡◌, ◌≤◌, ◌<◌, ℕ, suc, Bool, true, false, Option, Some, None, List, [], ◌∷◌, ◌++◌, refl, sym, ap, ◌∙◌, append_assoc, append-nil, arith}
use Rattle.rx_core.specs.declared.types.Kind.{Kind}
use Rattle.rx_typed.specs.declared.nodes.Node.{Node}
use Rattle.rx_typed.specs.declared.nodes.Site.{Site}
use Rattle.rx_typed.specs.Named as named
use Rattle.rx_typed.specs.Named.{Arms, Else, Exp, Exps, Pattern, Patterns, Statement, Statements, Written, WrittenTypes}
use Rattle.rx_typed.specs.Types.{Shapes, Typ}
use Rattle.rx_typeck_solver.specs.declared.facts.Subject.{Subject}
use Rattle.rx_typeck_solver.specs.declared.facts.Subject.TheVariants as subject
use Rattle.rx_typeck_solver.specs.Facts.{KnownItems}
use Rattle.rx_engine_holes.specs.Entries.{Context, Entries}
use Rattle.rx_engine_holes.specs.CallFits.{all_written_entries, written_entries, ArgumentsFit, ArmsFit, EndFits, GivenFits, JumpFits, MembersFit, PartsBind, StatementFits, StatementsFit, ValueFits}
use Rattle.rx_engine_holes.specs.CallFits.GivenFits.{by_itself, borrowed}
use Rattle.rx_engine_holes.specs.CallFits.ArgumentsFit.{no_arguments, more_arguments}
use Rattle.rx_engine_holes.specs.CallFits.MembersFit.{no_members, more_members}
use Rattle.rx_engine_holes.specs.CallFits.PartsBind.{no_parts, more_parts}
use Rattle.rx_engine_holes.specs.CallFits.ValueFits.{a_call, a_variable, a_tuple, the_unit, a_match}
use Rattle.rx_engine_holes.specs.CallFits.ArmsFit.{no_arms, gives_value, leaves}
use Rattle.rx_engine_holes.specs.CallFits.JumpFits.{a_break, a_continue, a_return, a_return_with, a_jump_behind}
use Rattle.rx_engine_holes.specs.CallFits.StatementFits.{done, jumps, bound, several_bound, assigned, given, given_within, declared}
use Rattle.rx_engine_holes.specs.CallFits.StatementsFit.{no_more, a_statement}
use Rattle.rx_engine_holes.specs.CallFits.EndFits.{no_tail, a_tail}
use Rattle.rx_engine_changed.specs.Deeds as deeds
use Rattle.rx_engine_changed.proofs.Deeds.{from_above, AreFrom}
use Rattle.rx_engine_standing.proofs.Entries.{later_entry, the_entry, HasEntry}

-- ---- the variables of entries, in order

abbrev with_subject : Subject → List ℕ → List ℕ
with_subject (subject.Variable x) xs = x ∷ xs
with_subject (subject.Node n) xs = xs
with_subject (subject.Expected n) xs = xs

abbrev pub variables_in : Entries → List ℕ
variables_in [] = []
variables_in (e ∷ es) = with_subject e.0 (variables_in es)

in_both : (es fs : Entries) → variables_in (es ++ fs) ≡ variables_in es ++ variables_in fs
in_both [] fs = refl
in_both (e ∷ es) fs = by e.0 (in_both es fs)
  where
    by : (x : Subject) → variables_in (es ++ fs) ≡ variables_in es ++ variables_in fs → with_subject x (variables_in (es ++ fs)) ≡ with_subject x (variables_in es) ++ variables_in fs
    by (subject.Variable x) i = ap (λ (xs : List ℕ). x ∷ xs) i
    by (subject.Node n) i = i
    by (subject.Expected n) i = i

-- those of two parts, one behind the other
joined : (es fs : Entries) (xs ys : List ℕ) → variables_in es ≡ xs → variables_in fs ≡ ys → variables_in (es ++ fs) ≡ xs ++ ys
joined es fs xs ys e f = in_both es fs ∙ ap (λ (zs : List ℕ). zs ++ variables_in fs) e ∙ ap (λ (zs : List ℕ). xs ++ zs) f

-- an arm and those behind it
arm : (vs ls : List ℕ) {xs ys ps : List ℕ} → xs ≡ ps → ys ≡ vs ++ ls → xs ++ ys ≡ (ps ++ vs) ++ ls
arm vs ls {xs = xs} {ys = ys} {ps = ps} e f = ap (λ (zs : List ℕ). zs ++ ys) e ∙ ap (λ (zs : List ℕ). ps ++ zs) f ∙ sym (append_assoc ps vs ls)

-- ---- form by form

mutual
  written_none : (w : Written) → variables_in (written_entries w) ≡ []
  written_none (named.a_kind n k) = refl
  written_none (named.a_bool n) = refl
  written_none (named.a_tuple n ts) = all_written_none ts
  written_none (named.a_reference n m t) = written_none t
  written_none (named.an_item n i ls) = refl

  all_written_none : (ws : WrittenTypes) → variables_in (all_written_entries ws) ≡ []
  all_written_none named.no_written = refl
  all_written_none (named.written_and w ws) = joined (written_entries w) (all_written_entries ws) [] [] (written_none w) (all_written_none ws)

module _ (E : KnownItems) where
  given_declared : {B : Context} {e : Exp} {u : Typ} {a : Entries} → GivenFits E B e u a → variables_in a ≡ (deeds.of_exp e).variables
  given_declared (by_itself b k s c) = refl
  given_declared (borrowed b k s p m l c) = refl

  arguments_declared : {B : Context} {g k : ℕ} {es : Exps} {a : Entries} → ArgumentsFit E B g k es a → variables_in a ≡ (deeds.of_exps es).variables
  arguments_declared no_arguments = refl
  arguments_declared (more_arguments {a = a} {b = b} s x xs) = joined a b _ _ (given_declared x) (arguments_declared xs)

  parts_declared : {ts : List Typ} {k : ℕ} {ps : Patterns} {a : Entries} → PartsBind E ts k ps a → variables_in a ≡ (deeds.of_patterns ps).variables
  parts_declared no_parts = refl
  parts_declared (more_parts {d = d} s l rest) = ap (λ (xs : List ℕ). d ∷ xs) (parts_declared rest)

  members_declared : {B : Context} {es : Exps} {ts : Shapes Kind} {a : Entries} → MembersFit E B es ts a → variables_in a ≡ (deeds.of_exps es).variables
  members_declared no_members = refl
  members_declared (more_members b k s rest) = members_declared rest

  -- what waits for its type declares nothing
  awaits_none : (b : Bool) (p : Pattern) (xs : List ℕ) → xs ++ (deeds.awaited_if b p).variables ≡ xs
  awaits_none false p xs = append-nil xs
  awaits_none true p xs = ap (λ (ys : List ℕ). xs ++ ys) (awaited_none (named.whole_binding p)) ∙ append-nil xs
    where
      awaited_none : (o : Option ℕ) → (deeds.awaited o).variables ≡ []
      awaited_none None = refl
      awaited_none (Some x) = refl

  module _ (f : ℕ) where
    mutual
      value_declared : {B : Context} {e : Exp} {u t : Typ} {a : Entries} → ValueFits E f B e u t a → variables_in a ≡ (deeds.of_exp e).variables
      value_declared (a_call l x r) = arguments_declared x
      value_declared (a_variable b k) = refl
      value_declared (a_tuple m l) = members_declared m
      value_declared (the_unit s) = refl
      value_declared (a_match {a = a} {b = b} x s p v l w) = joined a b _ _ (value_declared x) (arms_declared l)

      arms_declared : {B : Context} {s : Site} {i : ℕ} {u t : Typ} {l : Arms} {a : Entries} → ArmsFit E f B s i u t l a → variables_in a ≡ (deeds.of_arms l).variables
      arms_declared no_arms = refl
      arms_declared (gives_value {e = e} {l = l} {a = a} {b = b} {c = c} {u = u} m ps x v s w rest) =
          in_both a ((subject.Expected (named.node_of e).number, u) ∷ (b ++ c)) ∙ arm (deeds.of_exp e).variables (deeds.of_arms l).variables (parts_declared ps) (joined b c _ _ (value_declared x) (arms_declared rest))
      arms_declared (leaves {e = e} {l = l} {a = a} {b = b} {c = c} {u = u} m ps x v s rest) =
          in_both a ((subject.Expected (named.node_of e).number, u) ∷ (b ++ c)) ∙ arm (deeds.of_exp e).variables (deeds.of_arms l).variables (parts_declared ps) (joined b c _ _ (jump_declared x) (arms_declared rest))

      jump_declared : {B : Context} {e : Exp} {u : Typ} {a : Entries} → JumpFits E f B e u a → variables_in a ≡ (deeds.of_exp e).variables
      jump_declared a_break = refl
      jump_declared a_continue = refl
      jump_declared (a_return r) = refl
      jump_declared (a_return_with r x s c) = value_declared x
      jump_declared (a_jump_behind s x d) = statements_declared x ∙ sym (append-nil _)

      statement_declared : {B : Context} {s : Statement} {a : Entries} → StatementFits E f B s a → variables_in a ≡ (deeds.of_statement s).variables
      statement_declared (done x s) = value_declared x
      statement_declared (jumps x s) = jump_declared x
      statement_declared (bound {p = p'} {d = d} {m = m} {e = e} x s p v l) = ap (λ (xs : List ℕ). d ∷ xs) (value_declared x ∙ sym (awaits_none (named.never e) (named.bind p' d m) (deeds.of_exp e).variables))
      statement_declared (several_bound {p = p'} {ps = qs} {e = e} {a = a} {b = b} x s p v l ps) =
          let both : variables_in (b ++ a) ≡ (deeds.of_patterns qs).variables ++ (deeds.of_exp e).variables = joined b a _ _ (parts_declared ps) (value_declared x) in
          both ∙ sym (awaits_none (named.never e) (named.tuple_pattern p' qs) ((deeds.of_patterns qs).variables ++ (deeds.of_exp e).variables))
      statement_declared (assigned b k s p x e c) = value_declared x
      statement_declared (given b d s x e v) = value_declared x ∙ sym (append-nil _)
      statement_declared (given_within b k s x e) = value_declared x ∙ sym (append-nil _)
      statement_declared (declared {d = d} {w = w} l k) = ap (λ (xs : List ℕ). d ∷ xs) (written_none w)

      statements_declared : {B : Context} {ss : Statements} {a : Entries} → StatementsFit E f B ss a → variables_in a ≡ (deeds.of_statements ss).variables
      statements_declared no_more = refl
      statements_declared (a_statement {a = a} {b = b} x xs) = joined a b _ _ (statement_declared x) (statements_declared xs)

    pub all_declared : {B : Context} {ss : Statements} {a : Entries} → StatementsFit E f B ss a → variables_in a ≡ (deeds.of_statements ss).variables
    all_declared x = statements_declared x

    pub end_declared : {B : Context} {n : Node} {d : Bool} {ss : Statements} {o : Else} {a : Entries} → EndFits E f B n d ss o a → variables_in a ≡ (deeds.also (deeds.of_statements ss) (deeds.of_else o)).variables
    end_declared (no_tail x u) = statements_declared x ∙ sym (append-nil _)
    end_declared (a_tail {ss = ss} {e = e} {u = u} {a = a} {b = b} x y v s w) = joined a ((subject.Expected (named.node_of e).number, u) ∷ b) (deeds.of_statements ss).variables (deeds.of_exp e).variables (statements_declared x) (value_declared y)

-- ---- entries of numbers in a row

variable_inner : (x y : ℕ) → ◌≡◌ {A = Subject} (subject.Variable x) (subject.Variable y) → x ≡ y
variable_inner x y e = cc

past : (es : Entries) (a b : ℕ) → AreFrom a (variables_in es) b → (y : ℕ) (t : Typ) → HasEntry (subject.Variable y) t es → (a ≤ y) × (y < b)
past [] a b r y t h = elim h [ ]
past ((subject.Variable x, u) ∷ es) a b r y t (the_entry p q) = let e = variable_inner x y p in let i = r.0 in let j = from_above (variables_in es) (suc a) b r.1 in (omega (arith, e, i), omega (arith, e, i, j))
past ((subject.Node n, u) ∷ es) a b r y t (the_entry p q) = absurd (cc)
past ((subject.Expected n, u) ∷ es) a b r y t (the_entry p q) = absurd (cc)
past ((subject.Variable x, u) ∷ es) a b r y t (later_entry h) = let z = past es (suc a) b r.1 y t h in let i = z.0 in (omega (arith, i), z.1)
past ((subject.Node n, u) ∷ es) a b r y t (later_entry h) = past es a b r y t h
past ((subject.Expected n, u) ∷ es) a b r y t (later_entry h) = past es a b r y t h

pub entry_between : (a b : ℕ) {es : Entries} {y : ℕ} {t : Typ} → AreFrom a (variables_in es) b → HasEntry (subject.Variable y) t es → (a ≤ y) × (y < b)
entry_between a b {es = es} {y = y} {t = t} r h = past es a b r y t h

-- each has one
alone : (x y : ℕ) (t : Typ) (es : Entries) (a b : ℕ) → AreFrom a (x ∷ variables_in es) b → ◌≡◌ {A = Subject} (subject.Variable x) (subject.Variable y) → HasEntry (subject.Variable y) t es → ⊥
alone x y t es a b r p h = let e = variable_inner x y p in let i = r.0 in let j = (past es (suc a) b r.1 y t h).0 in absurd (omega (arith, e, i, j))

one : (es : Entries) (a b : ℕ) → AreFrom a (variables_in es) b → (y : ℕ) (t u : Typ) → HasEntry (subject.Variable y) t es → HasEntry (subject.Variable y) u es → t ≡ u
one [] a b r y t u h k = elim h [ ]
one ((x, v) ∷ es) a b r y t u (the_entry p q) (the_entry p' q') = sym q ∙ q'
one ((subject.Variable x, v) ∷ es) a b r y t u (the_entry p q) (later_entry k) = absurd (alone x y u es a b r p k)
one ((subject.Node n, v) ∷ es) a b r y t u (the_entry p q) (later_entry k) = absurd (cc)
one ((subject.Expected n, v) ∷ es) a b r y t u (the_entry p q) (later_entry k) = absurd (cc)
one ((subject.Variable x, v) ∷ es) a b r y t u (later_entry h) (the_entry p q) = absurd (alone x y t es a b r p h)
one ((subject.Node n, v) ∷ es) a b r y t u (later_entry h) (the_entry p q) = absurd (cc)
one ((subject.Expected n, v) ∷ es) a b r y t u (later_entry h) (the_entry p q) = absurd (cc)
one ((subject.Variable x, v) ∷ es) a b r y t u (later_entry h) (later_entry k) = one es (suc a) b r.1 y t u h k
one ((subject.Node n, v) ∷ es) a b r y t u (later_entry h) (later_entry k) = one es a b r y t u h k
one ((subject.Expected n, v) ∷ es) a b r y t u (later_entry h) (later_entry k) = one es a b r y t u h k

pub one_type : (a b : ℕ) {es : Entries} {y : ℕ} {t u : Typ} → AreFrom a (variables_in es) b → HasEntry (subject.Variable y) t es → HasEntry (subject.Variable y) u es → t ≡ u
one_type a b {es = es} {y = y} {t = t} {u = u} r h k = one es a b r y t u h k
