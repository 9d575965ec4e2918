-- A part that is numbered beside another: nodes that are made, what is known behind both, and trees that are one by each numbering in which
-- these nodes correspond.
use Rattle.std.proofs.Common.{◌≡◌, ◌⊎◌, inl, inr, ℕ, ◌+◌, Bool, true, ◌&&◌, ◌||◌, List, [], ◌∷◌, Option, Some, None, refl, ap, ◌∙◌, subst, arith}
use Rattle.rx_core.specs.declared.types.Span.{Span}
use Rattle.rx_typed.specs.declared.nodes.Node.{Node}
use Rattle.rx_typed.specs.declared.nodes.Site.{Site}
use Rattle.rx_typed.specs.Named.{Written, Exp, Exps, Else, Fields, Arms, Body, Statement, Statements, never, else_never, all_never, body_never, tail_never, diverges, any_diverges, else_diverges, any_field_diverges, all_diverge, body_diverges, statement_diverges, some_diverges}
use Rattle.rx_typed.specs.Naming as numbering
use Rattle.rx_typed.specs.Naming.{Cursor, a_node, an_entry}
use Rattle.rx_engine_names.specs.Renaming.{Renaming}
use Rattle.rx_engine_blocks.specs.Renumbering.{node_at}
use Rattle.rx_engine_changed.specs.Beside.{Instead, Piece, paired, unpaired, replaced, IsPiece, Grows, stays, and_pair, newest, older, Later, no_later, one_later, Numbers, AllCorrespond, Follows}
use Rattle.rx_engine_changed.specs.Stages.{Mutability, InStep}
use Rattle.rx_engine_changed.proofs.Lists.{grows_on, still_piece, before, begins_later}
use Rattle.rx_engine_changed.proofs.Steps.{entry_number, one_node}

-- how many things stand for parts
abbrev pub insteads : List Piece → ℕ
insteads [] = 0
insteads (paired n n' ∷ ps) = insteads ps
insteads (unpaired n m n' m' ∷ ps) = insteads ps
insteads (replaced i ∷ ps) = 1 + insteads ps

-- one thing is such, behind pieces that were made before
pub record Such (P : List Piece → Instead → Type 0) (now : List Piece) (i : Instead) : Type 0 where
  pub made : List Piece
  pub still : Later (replaced i ∷ made) now
  pub such : P made i

-- so many things more stand for parts, and each is such
pub record Adds (P : List Piece → Instead → Type 0) (n : ℕ) (made now : List Piece) : Type 0 where
  pub many : insteads now ≡ n + insteads made
  pub still : Later made now
  pub each : (i : Instead) → IsPiece (replaced i) now → IsPiece (replaced i) made ⊎ Such P now i

-- `n` things stand for parts, each such as `P` says
pub record Kept (R : Renaming) (W : Mutability) (P : List Piece → Instead → Type 0) (n : ℕ) (made : List Piece) {A A' : Type 0} (T : A → A' → Type 0) (S : Numbers → A → A' → Type 0) (c c' : Cursor) (x : A × Cursor) (x' : A' × Cursor) : Type 0 where
  pub now : List Piece
  pub adds : Adds P n made now
  pub grows : Grows made c.number c'.number now x.1.number x'.1.number
  pub step : InStep R W now x.1 x'.1
  pub same : T x.0 x'.0
  pub like : (q : Numbers) → Follows R q → AllCorrespond q now → S q x.0 x'.0

-- ---- what can be seen of parts is the same

abbrev pub SameExp : Exp → Exp → Type 0
SameExp e e' = (never e' ≡ never e) × (diverges e' ≡ diverges e)

abbrev pub SameExps : Exps → Exps → Type 0
SameExps es es' = any_diverges es' ≡ any_diverges es

abbrev pub SameElse : Else → Else → Type 0
SameElse o o' = (else_never o' ≡ else_never o) × (else_diverges o' ≡ else_diverges o) × ((d : Bool) → tail_never d o' ≡ tail_never d o)

abbrev pub SameFields : Fields → Fields → Type 0
SameFields fs fs' = any_field_diverges fs' ≡ any_field_diverges fs

abbrev pub SameArms : Arms → Arms → Type 0
SameArms l l' = (all_never l' ≡ all_never l) × (all_diverge l' ≡ all_diverge l)

abbrev pub SameBody : Body → Body → Type 0
SameBody b b' = (body_never b' ≡ body_never b) × (body_diverges b' ≡ body_diverges b)

abbrev pub SameStatement : Statement → Statement → Type 0
SameStatement a a' = statement_diverges a' ≡ statement_diverges a

abbrev pub SameStatements : Statements → Statements → Type 0
SameStatements ss ss' = some_diverges ss' ≡ some_diverges ss

-- a type is written in both or in neither
abbrev pub SameAnnotation : Option Written → Option Written → Type 0
SameAnnotation t t' = numbering.has_no_type t' ≡ numbering.has_no_type t

abbrev pub Anything : {A A' : Type 0} → A → A' → Type 0
Anything a a' = Unit {0}

pub same_or : {a a' b b' : Bool} → a' ≡ a → b' ≡ b → (a' || b') ≡ (a || b)
same_or {a} {a'} {b} {b'} e f = ap (λ (x : Bool). x || b') e ∙ ap (λ (x : Bool). a || x) f

pub same_and : {a a' b b' : Bool} → a' ≡ a → b' ≡ b → (a' && b') ≡ (a && b)
same_and {a} {a'} {b} {b'} e f = ap (λ (x : Bool). x && b') e ∙ ap (λ (x : Bool). a && x) f

-- ---- parts are put together

pub later_on : {a b c : List Piece} → Later a b → Later b c → Later a c
later_on h no_later = h
later_on h (one_later k) = one_later (later_on h k)

pub adds_none : {P : List Piece → Instead → Type 0} {made : List Piece} → Adds P 0 made made
adds_none = record { many = omega arith; still = no_later; each = λ i z. inl z }

pub adds_pair : {P : List Piece → Instead → Type 0} {n : ℕ} {k k' : ℕ} {made now : List Piece} → Adds P n (paired k k' ∷ made) now → Adds P n made now
adds_pair {P = P} {k = k} {k' = k'} {made = made} {now = now} h = record { many = h.many; still = later_on (one_later no_later) h.still; each = λ i z. by i (h.each i z) }
  where
    by : (i : Instead) → IsPiece (replaced i) (paired k k' ∷ made) ⊎ Such P now i → IsPiece (replaced i) made ⊎ Such P now i
    by i (inl (older z)) = inl z
    by i (inr z) = inr z

pub adds_on : {P : List Piece → Instead → Type 0} {n m : ℕ} {made now later : List Piece} → Adds P n made now → Adds P m now later → Adds P (n + m) made later
adds_on {P = P} {n = n} {m = m} {made = made} {now = now} {later = later} h g = record { many = let a = h.many in let b = g.many in omega (arith, a, b); still = later_on h.still g.still; each = λ i z. by i (g.each i z) }
  where
    before_it : (i : Instead) → IsPiece (replaced i) made ⊎ Such P now i → IsPiece (replaced i) made ⊎ Such P later i
    before_it i (inl z) = inl z
    before_it i (inr x) = inr (record { made = x.made; still = later_on x.still g.still; such = x.such })

    by : (i : Instead) → IsPiece (replaced i) now ⊎ Such P later i → IsPiece (replaced i) made ⊎ Such P later i
    by i (inl z) = before_it i (h.each i z)
    by i (inr z) = inr z

pub none_more : (m : ℕ) → 0 + m ≡ m
none_more m = omega arith

pub adds_so : {P : List Piece → Instead → Type 0} {n m : ℕ} {made now : List Piece} → n ≡ m → Adds P n made now → Adds P m made now
adds_so e h = record { many = let a = h.many in omega (arith, a, e); still = h.still; each = h.each }

-- what stands for a part
pub adds_other : {P : List Piece → Instead → Type 0} {now : List Piece} (i : Instead) → P now i → Adds P 1 now (replaced i ∷ now)
adds_other {P = P} {now = now} i p = record { many = refl; still = one_later no_later; each = λ j z. by j z }
  where
    by : (j : Instead) → IsPiece (replaced j) (replaced i ∷ now) → IsPiece (replaced j) now ⊎ Such P (replaced i ∷ now) j
    by j newest = inr (record { made = now; still = no_later; such = p })
    by j (older z) = inl z

module _ {R : Renaming} {W : Mutability} {P : List Piece → Instead → Type 0} where
  abbrev pub gives : {made : List Piece} {A A' : Type 0} {T : A → A' → Type 0} {S : Numbers → A → A' → Type 0} (c c' : Cursor) (a : A) (a' : A') → InStep R W made c c' → T a a' → ((q : Numbers) → Follows R q → AllCorrespond q made → S q a a') → Kept R W P 0 made T S c c' (a, c) (a', c')
  gives {made = made} c c' a a' st t s = record { now = made; adds = adds_none; grows = stays (omega arith) (omega arith); step = st; same = t; like = s }

  abbrev pub becomes : {k : ℕ} {made : List Piece} {A A' B B' : Type 0} {T : A → A' → Type 0} {S : Numbers → A → A' → Type 0} {T2 : B → B' → Type 0} {S2 : Numbers → B → B' → Type 0} {c c' : Cursor} {x : A × Cursor} {x' : A' × Cursor} (f : A → B) (f' : A' → B')
      → Kept R W P k made T S c c' x x' → (T x.0 x'.0 → T2 (f x.0) (f' x'.0)) → ((q : Numbers) (a : A) (a' : A') → Follows R q → S q a a' → S2 q (f a) (f' a')) → Kept R W P k made T2 S2 c c' (f x.0, x.1) (f' x'.0, x'.1)
  becomes {x = x} {x' = x'} f f' k t s = record { now = k.now; adds = k.adds; grows = k.grows; step = k.step; same = t k.same; like = λ q h w. s q x.0 x'.0 h (k.like q h w) }

  abbrev pub both : {n m : ℕ} {made : List Piece} {A A' B B' : Type 0} {T : A → A' → Type 0} {S : Numbers → A → A' → Type 0} {T2 : B → B' → Type 0} {S2 : Numbers → B → B' → Type 0} {c c' : Cursor} {x : A × Cursor} {x' : A' × Cursor} {y : B × Cursor} {y' : B' × Cursor}
      → (k : Kept R W P n made T S c c' x x') → Kept R W P m k.now T2 S2 x.1 x'.1 y y'
      → Kept R W P (n + m) made (λ (p : A × B) (p' : A' × B'). T p.0 p'.0 × T2 p.1 p'.1) (λ (q : Numbers) (p : A × B) (p' : A' × B'). S q p.0 p'.0 × S2 q p.1 p'.1) c c' ((x.0, y.0), y.1) ((x'.0, y'.0), y'.1)
  both k l = record { now = l.now; adds = adds_on k.adds l.adds; grows = grows_on k.grows l.grows; step = l.step; same = (k.same, l.same); like = λ q h w. (k.like q h (before q l.grows w), l.like q h w) }

  -- the same where nothing else stands for a part of the first
  abbrev pub both_plainly : {m : ℕ} {made : List Piece} {A A' B B' : Type 0} {T : A → A' → Type 0} {S : Numbers → A → A' → Type 0} {T2 : B → B' → Type 0} {S2 : Numbers → B → B' → Type 0} {c c' : Cursor} {x : A × Cursor} {x' : A' × Cursor} {y : B × Cursor} {y' : B' × Cursor}
      → (k : Kept R W P 0 made T S c c' x x') → Kept R W P m k.now T2 S2 x.1 x'.1 y y'
      → Kept R W P m made (λ (p : A × B) (p' : A' × B'). T p.0 p'.0 × T2 p.1 p'.1) (λ (q : Numbers) (p : A × B) (p' : A' × B'). S q p.0 p'.0 × S2 q p.1 p'.1) c c' ((x.0, y.0), y.1) ((x'.0, y'.0), y'.1)
  both_plainly {m = m} k l = record { now = l.now; adds = adds_so (none_more m) (adds_on k.adds l.adds); grows = grows_on k.grows l.grows; step = l.step; same = (k.same, l.same); like = λ q h w. (k.like q h (before q l.grows w), l.like q h w) }

  -- behind a node, and behind an entry of names
  abbrev pub behind_node : {m : ℕ} {made : List Piece} {A A' : Type 0} {T : A → A' → Type 0} {S : Numbers → A → A' → Type 0} {x : A × Cursor} {x' : A' × Cursor} (s s' : Span) (t t' : Site) (c c' : Cursor)
      → Kept R W P m (paired c.number c'.number ∷ made) T S (a_node s t c).1 (a_node s' t' c').1 x x' → Kept R W P m made T (λ (q : Numbers) (y : A) (y' : A'). (q.by.nodes c.number ≡ c'.number) × S q y y') c c' x x'
  behind_node s s' t t' c c' k = record {
    now = k.now;
    adds = adds_pair k.adds;
    grows = grows_on (and_pair (stays (omega arith) (omega arith)) (omega arith) (omega arith)) k.grows;
    step = k.step;
    same = k.same;
    like = λ q h w. (w (paired c.number c'.number) (still_piece k.grows newest), k.like q h w);
  }

  abbrev pub behind_entry : {m : ℕ} {made : List Piece} {A A' : Type 0} {T : A → A' → Type 0} {S : Numbers → A → A' → Type 0} {x : A × Cursor} {x' : A' × Cursor} (c c' : Cursor) → Kept R W P m made T S (an_entry c).1 (an_entry c').1 x x' → Kept R W P m made T S c c' x x'
  behind_entry c c' k = record {
    now = k.now;
    adds = k.adds;
    grows = begins_later (let e = entry_number c in omega (arith, e)) (let e = entry_number c' in omega (arith, e)) k.grows;
    step = k.step;
    same = k.same;
    like = k.like;
  }

  abbrev pub behind_step : {m : ℕ} {made : List Piece} {A A' : Type 0} {T : A → A' → Type 0} {S : Numbers → A → A' → Type 0} {x : A × Cursor} {x' : A' × Cursor} (c c' d d' : Cursor) → d.number ≡ c.number → d'.number ≡ c'.number → Kept R W P m made T S d d' x x' → Kept R W P m made T S c c' x x'
  behind_step c c' d d' e e' k = record { now = k.now; adds = k.adds; grows = begins_later (omega (arith, e)) (omega (arith, e')) k.grows; step = k.step; same = k.same; like = k.like }

  -- in front of a step that makes no node
  abbrev pub in_front_of : {m : ℕ} {made : List Piece} {A A' : Type 0} {T : A → A' → Type 0} {S : Numbers → A → A' → Type 0} {c c' : Cursor} {x : A × Cursor} {x' : A' × Cursor} (k : Kept R W P m made T S c c' x x') (d d' : Cursor) → x.1.number ≡ d.number → x'.1.number ≡ d'.number → InStep R W k.now d d' → Kept R W P m made T S c c' (x.0, d) (x'.0, d')
  in_front_of k d d' e e' st = record { now = k.now; adds = k.adds; grows = grows_on k.grows (stays (omega (arith, e)) (omega (arith, e'))); step = st; same = k.same; like = k.like }

-- ---- a node by another number

pub at_node : (q : Numbers) (P : Node → Type 0) (k k' : ℕ) (s s' : Span) (t : Site) → q.by.nodes k ≡ k' → P (node_at q.by (record { number = k; span = s; site = t }) s') → P (record { number = k'; span = s'; site = t })
at_node q P k k' s s' t e p = subst (λ (j : ℕ). P (record { number = j; span = s'; site = t })) e p

-- ---- patterns

pub data WholeLike (R : Renaming) : Option ℕ → Option ℕ → Type 0 where
  no_whole : WholeLike R None None
  a_whole : {x x' : ℕ} → R.variable x x' ≡ true → WholeLike R (Some x) (Some x')

-- ---- one node

module _ {R : Renaming} {W : Mutability} {P : List Piece → Instead → Type 0} where
  -- alone
  abbrev pub a_leaf : {made : List Piece} {A A' : Type 0} {T : A → A' → Type 0} {S : Numbers → A → A' → Type 0} (s s' : Span) (t t' : Site) (c c' : Cursor) (a : A) (a' : A') → InStep R W (paired c.number c'.number ∷ made) (a_node s t c).1 (a_node s' t' c').1 → T a a'
      → ((q : Numbers) → Follows R q → q.by.nodes c.number ≡ c'.number → S q a a') → Kept R W P 0 made T S c c' (a, (a_node s t c).1) (a', (a_node s' t' c').1)
  a_leaf {made = made} s s' t t' c c' a a' st same f = record {
    now = paired c.number c'.number ∷ made;
    adds = adds_pair adds_none;
    grows = one_node c c';
    step = st;
    same = same;
    like = λ q h w. f q h (w (paired c.number c'.number) newest);
  }

  -- with an entry of names
  abbrev pub a_leaf_with_entry : {made : List Piece} {A A' : Type 0} {T : A → A' → Type 0} {S : Numbers → A → A' → Type 0} (s s' : Span) (t t' : Site) (c c' : Cursor) (a : A) (a' : A')
      → InStep R W (paired c.number c'.number ∷ made) (an_entry (a_node s t c).1).1 (an_entry (a_node s' t' c').1).1 → T a a'
      → ((q : Numbers) → Follows R q → q.by.nodes c.number ≡ c'.number → S q a a') → Kept R W P 0 made T S c c' (a, (an_entry (a_node s t c).1).1) (a', (an_entry (a_node s' t' c').1).1)
  a_leaf_with_entry {made = made} s s' t t' c c' a a' st same f = record {
    now = paired c.number c'.number ∷ made;
    adds = adds_pair adds_none;
    grows = grows_on (one_node c c') (stays (let e = entry_number (a_node s t c).1 in omega (arith, e)) (let e = entry_number (a_node s' t' c').1 in omega (arith, e)));
    step = st;
    same = same;
    like = λ q h w. f q h (w (paired c.number c'.number) newest);
  }
