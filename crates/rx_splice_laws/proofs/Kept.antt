-- What is claimed of tokens with edits: they are derived as the changed tree, apart from spans, with not many more levels.
use Rattle.std.proofs.Common.{◌≡◌, ℕ, suc, ◌+◌, ◌≤◌, max, Bool, true, false, List, [], ◌∷◌, ◌++◌, Option, codes, sym, ap, subst, ◌∙◌, arith, append_assoc}
use Rattle.std.specs.Prelude.{◌≢◌, option_map}
use Rattle.rx_core.specs.declared.types.Kind.{Kind}
use Rattle.rx_core.specs.Bytes.{same_bytes}
use Rattle.rx_tree.specs.declared.tree.Ident.{Ident}
use Rattle.rx_tree.specs.Plain as plain
use Rattle.rx_tree.specs.Plain.{TypeTree, PatternTree, Expression, Body}
use Rattle.rx_tree.specs.Erase.{erase, erase_ident, erase_type}
use Rattle.rx_lex.specs.Words.{goes_on}
use Rattle.rx_lex.specs.Tok.{Tok}
use Rattle.rx_parse_grammar.specs.grammar.Words.{IsMark, IsKeyword, IsName, IsNumber, span_of, ident}
use Rattle.rx_parse_grammar.specs.grammar.Patterns.{IsPattern}
use Rattle.rx_parse_grammar.specs.grammar.Expressions as g
use Rattle.rx_parse_grammar.specs.grammar.Expressions.{IsExpression, IsUnary, IsPostfix, IsPrimary, IsField, IsAnnotation}
use Rattle.rx_resolve_names.specs.Meant.{Around}
use Rattle.rx_hoist_extraction.specs.Names.{Names}
use Rattle.rx_hoist_extraction.specs.Changed.{Changes}
use Rattle.rx_splice_laws.specs.Edits.{Edit}
use Rattle.rx_splice_laws.specs.EditsOf.{EditsAt, is_short}
use Rattle.rx_splice_laws.specs.SplicedRun.{Part}
use Rattle.rx_splice_laws.proofs.Beside.{begins_run, ends_run}
use Rattle.rx_splice_laws.proofs.Edited.{Edited}

-- at most three levels for one, and those of a written type
abbrev pub Low : ℕ → ℕ → Type 0
Low h k = k ≤ 130 + (h + h + h)

pub low_more : (h k : ℕ) → Low h k → Low (suc h) (suc k)
low_more h k l = omega (arith, l)

pub low_both : (h k m n : ℕ) → Low h k → Low m n → Low (max h m) (max k n)
low_both h k m n l r = omega (arith, l, r)

-- how many levels there may be for so many: a bound that goes on where parts become a whole
pub record Widening (L : ℕ → ℕ → Type 0) : Type 0 where
  pub low_same : (h : ℕ) → L h h
  pub low_more : (h k : ℕ) → L h k → L (suc h) (suc k)
  pub low_both : (h k m n : ℕ) → L h k → L m n → L (max h m) (max k n)

pub widens : Widening Low
widens = record { low_same = λ h. omega arith; low_more = low_more; low_both = low_both }

pub record KeptBy (L : ℕ → ℕ → Type 0) {B D : Type 0} (J : List Tok → B → ℕ → Type 0) (view : B → D) (ts : List Tok) (h : ℕ) (es : List Edit) (want : D) : Type 0 where
  pub tokens : List Tok
  pub edited : Edited es ts tokens
  pub tree : B
  pub height : ℕ
  pub derived : J tokens tree height
  pub same : view tree ≡ want
  pub low : L h height

abbrev pub Kept : {B D : Type 0} → (List Tok → B → ℕ → Type 0) → (B → D) → List Tok → ℕ → List Edit → D → Type 0
Kept J view ts h es want = KeptBy Low J view ts h es want

pub keep : {L : ℕ → ℕ → Type 0} {B D : Type 0} {J : List Tok → B → ℕ → Type 0} {view : B → D} {ts : List Tok} {h : ℕ} {es : List Edit} {want : D} (us : List Tok) (y : B) (k : ℕ)
    → Edited es ts us → J us y k → view y ≡ want → L h k → KeptBy L J view ts h es want
keep us y k e d s l = record { tokens = us; edited = e; tree = y; height = k; derived = d; same = s; low = l }

-- what follows from the parts of a claim
pub one : {L : ℕ → ℕ → Type 0} {B D R : Type 0} {J : List Tok → B → ℕ → Type 0} {view : B → D} {ts : List Tok} {h : ℕ} {es : List Edit} {want : D} → KeptBy L J view ts h es want
    → ((us : List Tok) (y : B) (k : ℕ) → J us y k → Edited es ts us → view y ≡ want → L h k → R) → R
one r f = f r.tokens r.tree r.height r.derived r.edited r.same r.low

-- another judgement of the same
pub recast : {L : ℕ → ℕ → Type 0} {B D : Type 0} {J K : List Tok → B → ℕ → Type 0} {view : B → D} {ts : List Tok} {h : ℕ} {es : List Edit} {want : D}
    → ((us : List Tok) (y : B) (k : ℕ) → J us y k → K us y k) → KeptBy L J view ts h es want → KeptBy L K view ts h es want
recast f r = record { tokens = r.tokens; edited = r.edited; tree = r.tree; height = r.height; derived = f r.tokens r.tree r.height r.derived; same = r.same; low = r.low }

-- ---- parts of the tokens of a text

pub left : {all us : List Tok} (vs : List Tok) → Part all (us ++ vs) → Part all us
left {us = us} vs p = record { pre = p.pre; post = vs ++ p.post; is = p.is ∙ ap (λ x. p.pre ++ x) (append_assoc us vs p.post) }

pub right : {all vs : List Tok} (us : List Tok) → Part all (us ++ vs) → Part all vs
right {vs = vs} us p = record { pre = p.pre ++ us; post = p.post; is = p.is ∙ ap (λ x. p.pre ++ x) (append_assoc us vs p.post) ∙ sym (append_assoc p.pre us (vs ++ p.post)) }

pub tail : {all vs : List Tok} {t : Tok} → Part all (t ∷ vs) → Part all vs
tail {t = t} p = right (t ∷ []) p

pub at : {all us vs : List Tok} → us ≡ vs → Part all us → Part all vs
at {all} e p = subst (λ x. Part all x) e p

-- ---- a place for a primary: before `.`, or where a unary operand may stand

abbrev pub Place : Bool → List Tok → List Tok → Type 0
Place true all ts = (d : Tok) × IsMark (codes ".") d × Part all (ts ++ d ∷ [])
Place false all ts = Part all ts

abbrev pub At : Bool → Bool → List Tok → Expression → ℕ → Type 0
At true f ts x h = IsPostfix f ts x h
At false f ts x h = IsUnary f ts x h

pub placed : (b : Bool) {f : Bool} (us : List Tok) (y : Expression) (k : ℕ) → IsPostfix f us y k → At b f us y k
placed true us y k d = d
placed false us y k d = g.postfix d

pub within : (b : Bool) {all ts : List Tok} → Place b all ts → Part all ts
within true p = left (p.0 ∷ []) p.2
within false p = p

-- ---- what is wanted of the special forms, in a text with these tokens

-- behind a pattern, before z: the type that it gets
pub record TypedBy (L : ℕ → ℕ → Type 0) (C : Changes) (es : List Edit) (ps ys : List Tok) (z : Tok) (p : PatternTree) (y : Option TypeTree) (n : ℕ) : Type 0 where
  pub tokens : List Tok
  pub edited : Edited es (ps ++ (ys ++ z ∷ [])) (ps ++ (tokens ++ z ∷ []))
  pub type : Option TypeTree
  pub height : ℕ
  pub derived : IsAnnotation tokens type height
  pub same : option_map erase_type type ≡ option_map erase_type (C.at_let p y)
  pub low : L n height

abbrev pub Typed : Changes → List Edit → List Tok → List Tok → Tok → PatternTree → Option TypeTree → ℕ → Type 0
Typed = TypedBy Low

abbrev pub field_view : Ident × Expression → Ident × Expression
field_view p = (erase_ident p.0, erase p.1)

pub record SuitsBy (L : ℕ → ℕ → Type 0) (A : EditsAt) (C : Changes) (all : List Tok) : Type 0 where
  pub int : (f : Bool) (t : Tok) (v : ℕ) (k : Option Kind) → IsNumber t v k → Part all (t ∷ [])
      → KeptBy L (IsPrimary f) erase (t ∷ []) 1 (A.at_int t.span k) (erase (plain.int t.span v (C.at_int t.span k)))
  -- a variable, where a unary operand may stand and before `.`, and as a field
  pub variable : (f : Bool) (own : Names) (t : Tok) → IsName t → Part all (t ∷ [])
      → KeptBy L (IsUnary f) erase (t ∷ []) 1 (A.at_variable own false t.span t.text) (erase (C.at_variable own t.span t.text))
  pub before_dot : (f : Bool) (own : Names) (t d : Tok) → IsName t → IsMark (codes ".") d → Part all (t ∷ d ∷ [])
      → KeptBy L (IsPostfix f) erase (t ∷ []) 1 (A.at_variable own false t.span t.text) (erase (C.at_variable own t.span t.text))
  pub short : (own : Names) (t : Tok) → IsName t → Part all (t ∷ [])
      → KeptBy L IsField field_view (t ∷ []) 1 (A.at_variable own true t.span t.text) (erase_ident (ident t), erase (C.at_variable own t.span t.text))
  pub long : (n c : Tok) (us : List Tok) (x : Expression) (h : ℕ) → IsExpression us x h → Part all (n ∷ c ∷ us) → is_short (ident n) x ≡ false
  pub break : (ls : List Around) (ts : List Tok) (l : Option Ident) → ts ≢ [] → begins_run ts ≡ true → ends_run ts ≡ true → IsExpression ts (plain.break (span_of ts) l) 1
      → KeptBy L IsExpression erase ts 1 (A.at_break ls (span_of ts) l) (erase (C.at_break ls (span_of ts) l))
  pub continue : (ls : List Around) (ts : List Tok) (l : Option Ident) → ts ≢ [] → begins_run ts ≡ true → ends_run ts ≡ true → IsExpression ts (plain.continue (span_of ts) l) 1
      → KeptBy L IsExpression erase ts 1 (A.at_continue ls (span_of ts) l) (erase (C.at_continue ls (span_of ts) l))
  pub return : (t : Tok) → IsKeyword (codes "return") t
      → KeptBy L IsExpression erase (t ∷ []) 1 (A.at_return t.span) (erase (C.at_return t.span plain.absent))
  pub return_with : (t : Tok) (us : List Tok) (h : ℕ) (es : List Edit) (x : Expression) → IsKeyword (codes "return") t → us ≢ [] → Part all (t ∷ us)
      → KeptBy L IsExpression erase us h es (erase x)
      → KeptBy L IsExpression erase (t ∷ us) (suc h) (A.at_return_with (span_of (t ∷ us)) es) (erase (C.at_return (span_of (t ∷ us)) (plain.present x)))
  -- blocks stay what they are
  pub blocks_stay : (b c : Body) → C.at_block b c ≡ c
  pub typed : (ps ys : List Tok) (p : PatternTree) (y : Option TypeTree) (m n : ℕ) → IsPattern ps p m → IsAnnotation ys y n → (z : Tok) → same_bytes z.text (codes ")") ≡ false
      → ((r : List ℕ) → goes_on (z.text ++ r) ≡ false) → Part all (ps ++ (ys ++ z ∷ [])) → TypedBy L C (A.at_let p y) ps ys z p y n

abbrev pub Suits : EditsAt → Changes → List Tok → Type 0
Suits = SuitsBy Low
