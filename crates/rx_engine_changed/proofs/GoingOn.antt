-- A run and what stands for it, that do the same to what both know, go on in step: what corresponds stands in front of both, or is handed on by a
-- name that both bind, or is declared behind both.
use Rattle.std.specs.Prelude.{nat_lt}
use Rattle.std.proofs.Common.{◌≡◌, ◌≤◌, ◌<◌, ◌⊎◌, inl, inr, ℕ, zero, suc, Bool, true, false, List, [], ◌∷◌, ◌++◌, length, Option, Some, None, slice_get, refl, sym, ap, ◌∙◌, subst, arith}
use Rattle.std.proofs.lemmas.List.{append_assoc, append_cancel_left}
use Rattle.rx_tree.specs.Plain.{OptionalExpression, Statement}
use Rattle.rx_resolve_names.specs.Scopes.{Variables}
use Rattle.rx_resolve_names.specs.Meant.{Around}
use Rattle.rx_resolve_names.specs.Steps.{Inside}
use Rattle.rx_resolve_names.specs.declared.resolved.ItemNames.{ItemNames}
use Rattle.rx_resolve_names.specs.declared.resolved.NodeNames.{NodeNames}
use Rattle.rx_typed.specs.declared.nodes.Node.{Node}
use Rattle.rx_typed.specs.declared.nodes.Declaration.{Declaration}
use Rattle.rx_typed.specs.declared.nodes.Site.{Site}
use Rattle.rx_typed.specs.Named.{Else, Statements}
use Rattle.rx_typed.specs.Naming.{of_optional, of_statements, Cursor}
use Rattle.rx_hoist_extraction.specs.Run.{as_statements}
use Rattle.rx_engine_names.specs.Renaming.{Renaming}
use Rattle.rx_engine_names.specs.Moves.{StandsAt}
use Rattle.rx_engine_names.specs.Placed.{NamedByBoth, Told, ToldLast}
use Rattle.rx_engine_names.specs.Replaced.{NumberedBehind, NumberedLast}
use Rattle.rx_engine_names.proofs.CopiedParts.{tail_alone, text_alone}
use Rattle.rx_engine_changed.specs.Beside.{Piece}
use Rattle.rx_engine_changed.specs.Deeds.{also, left_if, of_else, settled_if, Deeds}
use Rattle.rx_engine_changed.specs.Deeds as deeds
use Rattle.rx_engine_changed.specs.DoAlike.{DoAlike, EndDoesAlike, RunDoesAlike}
use Rattle.rx_engine_changed.specs.Round.{GoesOn, GoesOnLast}
use Rattle.rx_engine_changed.specs.Stages.{given, known, not_yet, waits, waits_there, InStep, LikeDeclared, Mutability}
use Rattle.rx_engine_changed.proofs.Deeds.{does_on, from_same, optional_does, statements_does, AreFrom, Does, KeptInFront}

-- ---- lists

pub beyond : {A : Type 0} (vs : List A) (n : ℕ) → length vs ≤ n → slice_get vs n ≡ None
beyond [] n h = refl
beyond (v ∷ vs) zero h = absurd (omega (arith, h))
beyond (v ∷ vs) (suc n) h = beyond vs n (omega (arith, h))

pub none_beyond : {A : Type 0} (vs : List A) (n : ℕ) → slice_get vs n ≡ None → length vs ≤ n
none_beyond [] n e = omega arith
none_beyond (v ∷ vs) zero e = absurd (cc)
none_beyond (v ∷ vs) (suc n) e = let h = none_beyond vs n e in omega (arith, h)

pub below_or : (n d : ℕ) → (n < d) ⊎ (d ≤ n)
below_or n d = by (nat_lt n d) refl
  where
    by : (b : Bool) → nat_lt n d ≡ b → (n < d) ⊎ (d ≤ n)
    by true e = inl (grind arith)
    by false e = inr (grind arith)

-- ---- declarations

like_none : {made : List Piece} {X : Bool → Bool → Type 0} {o o' : Option Declaration} → LikeDeclared made X o o' → o ≡ None → o' ≡ None
like_none not_yet e = refl
like_none (known w) e = absurd (cc)
like_none (given w) e = absurd (cc)
like_none (waits w i) e = absurd (cc)

pub like_none_back : {made : List Piece} {X : Bool → Bool → Type 0} {o o' : Option Declaration} → LikeDeclared made X o o' → o' ≡ None → o ≡ None
like_none_back not_yet e = refl
like_none_back (known w) e = absurd (cc)
like_none_back (given w) e = absurd (cc)
like_none_back (waits w i) e = absurd (cc)

like_settled : {made : List Piece} {X : Bool → Bool → Type 0} {o o' : Option Declaration} (z : Bool) → LikeDeclared made X o o' → LikeDeclared made X (settled_if z o) (settled_if z o')
like_settled false h = h
like_settled true not_yet = not_yet
like_settled true (known w) = known w
like_settled true (given w) = known w
like_settled true (waits w i) = known w

like_waiting : {made : List Piece} {X : Bool → Bool → Type 0} {o o' : Option Declaration} → LikeDeclared made X o o' → waits_there o' ≡ waits_there o
like_waiting not_yet = refl
like_waiting (known w) = refl
like_waiting (given w) = refl
like_waiting (waits w i) = refl

pub true_false : true ≡ false → ⊥
true_false e = cc

unless : (b : Bool) → (b ≡ true → ⊥) → b ≡ false
unless true h = absurd (h refl)
unless false h = refl

settled_waits_not : (z : Bool) (o : Option Declaration) → waits_there o ≡ false → waits_there (settled_if z o) ≡ false
settled_waits_not false o e = e
settled_waits_not true None e = refl
settled_waits_not true (Some d) e = refl

-- ---- between cursors

-- what corresponds and stands not in front: alike behind both
abbrev BehindAlike : Renaming → Mutability → List Piece → Cursor → Cursor → Cursor → Cursor → Type 0
BehindAlike R W made c c' d d' = ((n m : ℕ) → R.variable n m ≡ true → c.declared ≤ n → c'.declared ≤ m → LikeDeclared made (W n m) (slice_get d.variables n) (slice_get d'.variables m))
    × ((n m : ℕ) → R.loop n m ≡ true → length c.loops ≤ n → length c'.loops ≤ m → slice_get d.loops n ≡ slice_get d'.loops m)

module _ (R : Renaming) (W : Mutability) (made : List Piece) (c c' d d' : Cursor) (f f' : Deeds) (st : InStep R W made c c') (x : Does c.declared f c d) (x' : Does c'.declared f' c' d') (same : DoAlike R f f' c c' d') where
  k : KeptInFront c.declared f c d
  k = x.kept (record { counted = st.counted; above = omega arith })

  k' : KeptInFront c'.declared f' c' d'
  k' = x'.kept (record { counted = st.counted'; above = omega arith })

  -- what doesn't wait gets no type in either
  settles_alike : (n m : ℕ) → R.variable n m ≡ true → n < c.declared → m < c'.declared → f.settles n ≡ f'.settles m
  settles_alike n m r h h' = by (waits_there (slice_get c.variables n)) refl
    where
      by : (b : Bool) → waits_there (slice_get c.variables n) ≡ b → f.settles n ≡ f'.settles m
      by true e = k.assigned n h e ∙ same.assigned n m r h h' e ∙ sym (k'.assigned m h' (like_waiting (st.variables n m r) ∙ e))
      by false e = unless (f.settles n) (λ w. true_false (sym (k.waited n h w) ∙ e)) ∙ sym (unless (f'.settles m) (λ w. true_false (sym (k'.waited m h' w) ∙ like_waiting (st.variables n m r) ∙ e)))

  in_front : (n m : ℕ) → R.variable n m ≡ true → n < c.declared → m < c'.declared → LikeDeclared made (W n m) (slice_get d.variables n) (slice_get d'.variables m)
  in_front n m r h h' =
      subst (λ (o : Option Declaration). LikeDeclared made (W n m) o (slice_get d'.variables m)) (sym (k.settled n h))
      (subst (λ (o : Option Declaration). LikeDeclared made (W n m) (settled_if (f.settles n) (slice_get c.variables n)) o) (sym (k'.settled m h'))
      (subst (λ (z : Bool). LikeDeclared made (W n m) (settled_if (f.settles n) (slice_get c.variables n)) (settled_if z (slice_get c'.variables m))) (settles_alike n m r h h')
      (like_settled (f.settles n) (st.variables n m r))))

  -- what corresponds stands in front of both or of neither
  there : (n m : ℕ) → R.variable n m ≡ true → n < c.declared → c'.declared ≤ m → ⊥
  there n m r h h' = let y = none_beyond c.variables n (like_none_back (st.variables n m r) (beyond c'.variables m (let e = st.counted' in omega (arith, e, h')))) in let e = st.counted in absurd (omega (arith, y, e, h))

  here : (n m : ℕ) → R.variable n m ≡ true → c.declared ≤ n → m < c'.declared → ⊥
  here n m r h h' = let y = none_beyond c'.variables m (like_none (st.variables n m r) (beyond c.variables n (let e = st.counted in omega (arith, e, h)))) in let e = st.counted' in absurd (omega (arith, y, e, h'))

  variables : BehindAlike R W made c c' d d' → (n m : ℕ) → R.variable n m ≡ true → LikeDeclared made (W n m) (slice_get d.variables n) (slice_get d'.variables m)
  variables behind n m r = by (below_or n c.declared) (below_or m c'.declared)
    where
      by : (n < c.declared) ⊎ (c.declared ≤ n) → (m < c'.declared) ⊎ (c'.declared ≤ m) → LikeDeclared made (W n m) (slice_get d.variables n) (slice_get d'.variables m)
      by (inl h) (inl h') = in_front n m r h h'
      by (inl h) (inr h') = absurd (there n m r h h')
      by (inr h) (inl h') = absurd (here n m r h h')
      by (inr h) (inr h') = behind.0 n m r h h'

  loops_in_front : (n m : ℕ) → R.loop n m ≡ true → n < length c.loops → m < length c'.loops → slice_get d.loops n ≡ slice_get d'.loops m
  loops_in_front n m r h h' = x.left n h ∙ ap (left_if (f.leaves n)) (st.loops n m r) ∙ ap (λ (z : Bool). left_if z (slice_get c'.loops m)) (same.left n m r h h') ∙ sym (x'.left m h')

  loops : BehindAlike R W made c c' d d' → (n m : ℕ) → R.loop n m ≡ true → slice_get d.loops n ≡ slice_get d'.loops m
  loops behind n m r = by (below_or n (length c.loops)) (below_or m (length c'.loops))
    where
      by : (n < length c.loops) ⊎ (length c.loops ≤ n) → (m < length c'.loops) ⊎ (length c'.loops ≤ m) → slice_get d.loops n ≡ slice_get d'.loops m
      by (inl h) (inl h') = loops_in_front n m r h h'
      by (inl h) (inr h') = let y = none_beyond c.loops n (st.loops n m r ∙ beyond c'.loops m h') in absurd (omega (arith, y, h))
      by (inr h) (inl h') = let y = none_beyond c'.loops m (sym (st.loops n m r) ∙ beyond c.loops n h) in absurd (omega (arith, y, h'))
      by (inr h) (inr h') = behind.1 n m r h h'

  alone : (m : ℕ) → ((n : ℕ) → R.variable n m ≡ true → ⊥) → waits_there (slice_get d'.variables m) ≡ false
  alone m w = by (below_or m c'.declared)
    where
      by : (m < c'.declared) ⊎ (c'.declared ≤ m) → waits_there (slice_get d'.variables m) ≡ false
      by (inl h) = ap waits_there (k'.settled m h) ∙ settled_waits_not (f'.settles m) (slice_get c'.variables m) (st.alone m w)
      by (inr h) = same.alone m h w

  in_step : BehindAlike R W made c c' d d' → InStep R W made d d'
  in_step behind = record { variables = variables behind; alone = alone; loops = loops behind; counted = k.counted; counted' = k'.counted }

-- ---- where both numberings have come to

ends_there : (I : Inside) (sc : Variables) (ls : List Around) (at : List ℕ) (front run : List Statement) (t : ItemNames) (x : Statements) (s : NumberedBehind I sc ls at front run t x) → StandsAt s.end.tables (of_statements (as_statements run) s.cursor).1
ends_there I sc ls at front run t x s =
    let A = text_alone I.program I.item I.lifetimes s.middle.scope ls at s.place (as_statements run) s.middle.tables s.end s.goes in
    let e : A.added ≡ s.added = append_cancel_left s.middle.tables.names A.added s.added (sym A.grown ∙ s.grown) in
    (A.numbers.holds s.cursor s.rest s.stands (subst (λ (l : List NodeNames). s.cursor.names ≡ l ++ s.rest) (sym e) s.names)).stands

-- numbers stand where the tables do, or nothing is declared
abbrev Tied : ℕ → ℕ → ℕ → ℕ → Type 0
Tied a b lo hi = ((a ≡ lo) × (b ≡ hi)) ⊎ ((b ≡ a) × (hi ≡ lo))

tied : (xs ys : List ℕ) (a b e f lo hi : ℕ) → xs ≡ ys → AreFrom a xs b → AreFrom e ys f → e ≡ lo → f ≡ hi → Tied a b lo hi
tied xs ys a b e f lo hi same h k p q = by (from_same ys a b e f (subst (λ (zs : List ℕ). AreFrom a zs b) same h) k)
  where
    by : ((a ≡ e) × (b ≡ f)) ⊎ ((b ≡ a) × (f ≡ e)) → Tied a b lo hi
    by (inl y) = inl (y.0 ∙ p, y.1 ∙ q)
    by (inr y) = inr (y.0, sym q ∙ y.1 ∙ p)

-- what stands neither in front of both nor behind both is something else
sorted : {Else : Type 0} (a b lo hi a' b' lo' hi' : ℕ) → Tied a b lo hi → Tied a' b' lo' hi' → (n m : ℕ) → a ≤ n → a' ≤ m → ((n < lo) × (m < lo')) ⊎ (Else ⊎ ((hi ≤ n) × (hi' ≤ m))) → Else ⊎ ((b ≤ n) × (b' ≤ m))
sorted a b lo hi a' b' lo' hi' (inl t) t' n m h h' (inl y) = let p = y.0 in let e = t.0 in absurd (omega (arith, p, e, h))
sorted a b lo hi a' b' lo' hi' (inr t) (inl t') n m h h' (inl y) = let p = y.1 in let e = t'.0 in absurd (omega (arith, p, e, h'))
sorted a b lo hi a' b' lo' hi' (inr t) (inr t') n m h h' (inl y) = let p = t.0 in let q = t'.0 in inr (omega (arith, p, h), omega (arith, q, h'))
sorted a b lo hi a' b' lo' hi' t t' n m h h' (inr (inl y)) = inl y
sorted a b lo hi a' b' lo' hi' t t' n m h h' (inr (inr y)) = inr (one a b lo hi t n h y.0, one a' b' lo' hi' t' m h' y.1)
  where
    one : (a b lo hi : ℕ) → Tied a b lo hi → (n : ℕ) → a ≤ n → hi ≤ n → b ≤ n
    one a b lo hi (inl t) n h k = let e = t.1 in omega (arith, e, k)
    one a b lo hi (inr t) n h k = let e = t.0 in omega (arith, e, h)

-- what corresponds stands in front of both, or is something else, or behind both
module _ {Named : ℕ → ℕ → Type 0} (R : Renaming) (W : Mutability) (made : List Piece) (c c' d d' : Cursor) (f f' : Deeds) (st : InStep R W made c c') (x : Does c.declared f c d) (x' : Does c'.declared f' c' d')
    (t t1 u u1 : ItemNames) (vars : Tied c.declared d.declared (length t.vars) (length t1.vars)) (vars' : Tied c'.declared d'.declared (length u.vars) (length u1.vars))
    (loops : Tied (length c.loops) (length d.loops) (length t.loops) (length t1.loops)) (loops' : Tied (length c'.loops) (length d'.loops) (length u.loops) (length u1.loops)) where
  sorted_behind : ((n m : ℕ) → R.variable n m ≡ true → ((n < length t.vars) × (m < length u.vars)) ⊎ (Named n m ⊎ ((length t1.vars ≤ n) × (length u1.vars ≤ m))))
      → ((n m : ℕ) → R.loop n m ≡ true → ((n < length t.loops) × (m < length u.loops)) ⊎ ((length t1.loops ≤ n) × (length u1.loops ≤ m)))
      → ((n m : ℕ) → R.variable n m ≡ true → c.declared ≤ n → c'.declared ≤ m → Named n m → LikeDeclared made (W n m) (slice_get d.variables n) (slice_get d'.variables m)) → BehindAlike R W made c c' d d'
  sorted_behind vs ls named = (
    λ n m r h h'. variable n m r h h' (sorted _ _ _ _ _ _ _ _ vars vars' n m h h' (vs n m r)),
    λ n m r h h'. loop n m (sorted {Else = ⊥} _ _ _ _ _ _ _ _ loops loops' n m h h' (or_nothing (ls n m r))),
  )
    where
      counted : length d.variables ≡ d.declared
      counted = (x.kept (record { counted = st.counted; above = omega arith })).counted

      counted' : length d'.variables ≡ d'.declared
      counted' = (x'.kept (record { counted = st.counted'; above = omega arith })).counted

      variable : (n m : ℕ) → R.variable n m ≡ true → c.declared ≤ n → c'.declared ≤ m → Named n m ⊎ ((d.declared ≤ n) × (d'.declared ≤ m)) → LikeDeclared made (W n m) (slice_get d.variables n) (slice_get d'.variables m)
      variable n m r h h' (inl y) = named n m r h h' y
      variable n m r h h' (inr y) =
          subst (λ (o : Option Declaration). LikeDeclared made (W n m) o (slice_get d'.variables m)) (sym (beyond d.variables n (let e = counted in let q = y.0 in omega (arith, e, q))))
          (subst (λ (o : Option Declaration). LikeDeclared made (W n m) None o) (sym (beyond d'.variables m (let e = counted' in let q = y.1 in omega (arith, e, q)))) not_yet)

      or_nothing : {A B : Type 0} → A ⊎ B → A ⊎ (⊥ ⊎ B)
      or_nothing (inl a) = inl a
      or_nothing (inr b) = inr (inr b)

      loop : (n m : ℕ) → ⊥ ⊎ ((length d.loops ≤ n) × (length d'.loops ≤ m)) → slice_get d.loops n ≡ slice_get d'.loops m
      loop n m (inl y) = absurd y
      loop n m (inr y) = beyond d.loops n y.0 ∙ sym (beyond d'.loops m y.1)

-- variables and loops stand where the tables do, or none is declared
record BothTied (c d : Cursor) (t t1 : ItemNames) : Type 0 where
  vars : Tied c.declared d.declared (length t.vars) (length t1.vars)
  loops : Tied (length c.loops) (length d.loops) (length t.loops) (length t1.loops)

both_tied : (f g : Deeds) (a b : ℕ) (c d e h : Cursor) (t t1 : ItemNames) → f.variables ≡ g.variables → f.loops ≡ g.loops → Does a f c d → Does b g e h → StandsAt t e → StandsAt t1 h → BothTied c d t t1
both_tied f g a b c d e h t t1 p q x y s z = record {
  vars = tied f.variables g.variables c.declared d.declared e.declared h.declared (length t.vars) (length t1.vars) p x.variables y.variables s.0 z.0;
  loops = tied f.loops g.loops (length c.loops) (length d.loops) (length e.loops) (length h.loops) (length t.loops) (length t1.loops) q x.loops y.loops s.1 z.1;
}

run_tied : (I : Inside) (sc : Variables) (ls : List Around) (at : List ℕ) (front run : List Statement) (t : ItemNames) (c : Cursor) (s : NumberedBehind I sc ls at front run t (of_statements (as_statements run) c).0)
    → BothTied c (of_statements (as_statements run) c).1 s.middle.tables s.end.tables
run_tied I sc ls at front run t c s =
    both_tied (deeds.of_statements (of_statements (as_statements run) c).0) (deeds.of_statements (of_statements (as_statements run) s.cursor).0) 0 0 c (of_statements (as_statements run) c).1 s.cursor (of_statements (as_statements run) s.cursor).1 s.middle.tables s.end.tables
    (ap (λ (x : Statements). (deeds.of_statements x).variables) s.is) (ap (λ (x : Statements). (deeds.of_statements x).loops) s.is) (statements_does 0 (as_statements run) c) (statements_does 0 (as_statements run) s.cursor) s.stands
    (ends_there I sc ls at front run t (of_statements (as_statements run) c).0 s)

-- with a tail
ends_last : (I : Inside) (sc : Variables) (ls : List Around) (at : List ℕ) (front run : List Statement) (o : OptionalExpression) (t : ItemNames) (x : Statements) (z : Else) (s : NumberedLast I sc ls at front run o t x z)
    → StandsAt s.resolves.tables (of_optional s.site o (of_statements (as_statements run) s.cursor).1).1
ends_last I sc ls at front run o t x z s =
    let A = text_alone I.program I.item I.lifetimes s.middle.scope ls at s.place (as_statements run) s.middle.tables s.resolves.end s.resolves.goes in
    let B = tail_alone I.program I.item I.lifetimes s.resolves.end.scope ls s.way o s.resolves.end.tables s.resolves.tables s.resolves.ends in
    let e : A.added ++ B.added ≡ s.added = append_cancel_left s.middle.tables.names (A.added ++ B.added) s.added (sym (append_assoc s.middle.tables.names A.added B.added) ∙ sym (ap (λ (l : List NodeNames). l ++ B.added) A.grown) ∙ sym B.grown ∙ s.grown) in
    let names : s.cursor.names ≡ A.added ++ (B.added ++ s.rest) = s.names ∙ ap (λ (l : List NodeNames). l ++ s.rest) (sym e) ∙ append_assoc A.added B.added s.rest in
    let y = A.numbers.holds s.cursor (B.added ++ s.rest) s.stands names in ((B.numbers s.site).holds (of_statements (as_statements run) s.cursor).1 s.rest y.stands y.left).stands

last_tied : (I : Inside) (sc : Variables) (ls : List Around) (at : List ℕ) (front run : List Statement) (o : OptionalExpression) (k : Site) (t : ItemNames) (c : Cursor)
    (s : NumberedLast I sc ls at front run o t (of_statements (as_statements run) c).0 (of_optional k o (of_statements (as_statements run) c).1).0)
    → BothTied c (of_optional k o (of_statements (as_statements run) c).1).1 s.middle.tables s.resolves.tables
last_tied I sc ls at front run o k t c s =
    let x = of_statements (as_statements run) c in let y = of_optional k o x.1 in let z = of_statements (as_statements run) s.cursor in let w = of_optional s.site o z.1 in
    both_tied (also (deeds.of_statements x.0) (of_else y.0)) (also (deeds.of_statements z.0) (of_else w.0)) 0 0 c y.1 s.cursor w.1 s.middle.tables s.resolves.tables
    (ap (λ (p : Statements). (deeds.of_statements p).variables ++ (of_else y.0).variables) s.is ∙ ap (λ (p : Else). (deeds.of_statements z.0).variables ++ (of_else p).variables) s.is_last)
    (ap (λ (p : Statements). (deeds.of_statements p).loops ++ (of_else y.0).loops) s.is ∙ ap (λ (p : Else). (deeds.of_statements z.0).loops ++ (of_else p).loops) s.is_last)
    (does_on 0 (statements_does 0 (as_statements run) c) (optional_does 0 o k x.1)) (does_on 0 (statements_does 0 (as_statements run) s.cursor) (optional_does 0 o s.site z.1)) s.stands
    (ends_last I sc ls at front run o t x.0 y.0 s)

-- ---- a run and what stands for it

pub run_goes_on : (R : Renaming) (W : Mutability) (T : Told) (I I' : Inside) (C : Cursor → Cursor → Type 0) (front run call : List Statement) → RunDoesAlike R W T I I' C front run call → GoesOn R W T I I' C front run call
run_goes_on R W T I I' C front run call alike made c c' p come st s =
    let y = alike made c c' p come st s in
    let d = (of_statements (as_statements run) c).1 in let d' = (of_statements (as_statements call) c').1 in
    let f = deeds.of_statements (of_statements (as_statements run) c).0 in let f' = deeds.of_statements (of_statements (as_statements call) c').0 in
    let x = statements_does c.declared (as_statements run) c in let x' = statements_does c'.declared (as_statements call) c' in
    let a = run_tied I p.scope p.around p.way front run p.tables c s.text in let b = run_tied I' p.start p.round p.way' front call p.tables' c' s.made in (
      in_step R W made c c' d d' f f' st x x' y.0
          (sorted_behind {Named = NamedByBoth run call s.text.end.scope s.made.end.scope} R W made c c' d d' f f' st x x' s.text.middle.tables s.text.end.tables s.made.middle.tables s.made.end.tables a.vars b.vars a.loops b.loops s.variables s.loops (λ n m r h h' z. y.1 n m r h h' z)),
      y.2,
    )

pub end_goes_on : (R : Renaming) (W : Mutability) (T : ToldLast) (I I' : Inside) (C : Node → Bool → Cursor → Cursor → Type 0) (front run call : List Statement) (tail last : OptionalExpression) → EndDoesAlike R W T I I' C front run call tail last → GoesOnLast R W T I I' C front run call tail last
end_goes_on R W T I I' C front run call tail last alike made c c' p n d come st s =
    let y = alike made c c' p n d come st s in let k = n.site in
    let X = of_statements (as_statements run) c in let X' = of_statements (as_statements call) c' in
    let O = of_optional k tail X.1 in let O' = of_optional k last X'.1 in
    let f = also (deeds.of_statements X.0) (of_else O.0) in let f' = also (deeds.of_statements X'.0) (of_else O'.0) in
    let x = does_on c.declared (statements_does c.declared (as_statements run) c) (optional_does c.declared tail k X.1) in let x' = does_on c'.declared (statements_does c'.declared (as_statements call) c') (optional_does c'.declared last k X'.1) in
    let a = last_tied I p.scope p.around p.way front run tail k p.tables c s.text in let b = last_tied I' p.start p.round p.way' front call last k p.tables' c' s.made in (
      in_step R W made c c' O.1 O'.1 f f' st x x' y.0
          (sorted_behind {Named = λ n m. ⊥} R W made c c' O.1 O'.1 f f' st x x' s.text.middle.tables s.text.resolves.tables s.made.middle.tables s.made.resolves.tables a.vars b.vars a.loops b.loops (λ n m r. none_named (s.variables n m r)) s.loops (λ n m r h h' z. absurd z)),
      y.1,
    )
  where
    none_named : {A B : Type 0} → A ⊎ B → A ⊎ (⊥ ⊎ B)
    none_named (inl a) = inl a
    none_named (inr b) = inr (inr b)
