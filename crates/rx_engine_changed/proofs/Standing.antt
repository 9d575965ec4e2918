-- What is known of variables where a part begins is known in it and behind it; rows of variables that are made.
use Rattle.std.proofs.Common.{if◌then◌else◌, ◌≡◌, ◌<◌, ◌+◌, ℕ, suc, Bool, true, List, [], ◌∷◌, ◌++◌, Option, Some, None, slice_get, refl, sym, ap, ◌∙◌, subst, arith}
use Rattle.rx_resolve_names.specs.Meant.{number}
use Rattle.rx_typed.specs.declared.nodes.Declaration.{Declaration}
use Rattle.rx_typed.specs.declared.nodes.Site.{Site}
use Rattle.rx_typed.specs.declared.nodes.Stage.{Stage}
use Rattle.rx_typed.specs.declared.nodes.Use.{Use}
use Rattle.rx_typed.specs.Types.{Typ}
use Rattle.rx_typed.specs.Named as named
use Rattle.rx_typed.specs.Named.{node_of, Exp}
use Rattle.rx_typed.specs.Naming.{is_known, waiting}
use Rattle.rx_typeck_solver.specs.declared.facts.Subject.{Subject}
use Rattle.rx_typeck_solver.specs.declared.facts.Subject.TheVariants as subject
use Rattle.rx_typeck_solver.specs.Solver.{same_subject}
use Rattle.rx_engine_holes.specs.Entries.{with_entries, Context, Entries}
use Rattle.rx_engine_changed.specs.Spots.{declared_at, IsUse, NumberedExp, Spot}
use Rattle.rx_engine_changed.specs.Inside.{Between, Inside}
use Rattle.rx_engine_changed.specs.HandedTypes.{IsStaged, VariableStands}
use Rattle.rx_engine_changed.proofs.Inside.{earlier_differs}
use Rattle.rx_engine_changed.proofs.Staging.{keeps_on, still_known, as_it_was, now_known, Counted, Keeps, KnownAt, Still}

-- ---- contexts

abbrev pub origin : Spot
origin = record { number = 0; declared = 0; variables = [] }

-- what was made later tells nothing of what stands in front
outside : (a : Entries) (B : Context) (p r : Spot) → Inside p r a → (x : Subject) → Between origin p x → with_entries a B x ≡ B x
outside [] B p r h x i = refl
outside (e ∷ es) B p r h x i =
    ap (λ (b : Bool). if b then Some e.1 else with_entries es B x) (earlier_differs origin p r x e.0 i h.0) ∙ outside es B p r h.2 x i

-- what is told in front of the second is told by the first
pub joined_context : (a b : Entries) (B : Context) (r s : Spot) → Inside r s b → (x : Subject) → Between origin r x → with_entries (a ++ b) B x ≡ with_entries a B x
joined_context [] b B r s h x i = outside b B r s h x i
joined_context (e ∷ a) b B r s h x i = ap (λ (o : Option Typ). if same_subject x e.0 then Some e.1 else o) (joined_context a b B r s h x i)

-- where a part has come to: what was known is known
pub record Later (B : Context) (p : Spot) (B' : Context) (p' : Spot) : Type 0 where
  pub keeps : Keeps p p'
  pub counted : Counted p
  pub nodes : (n : ℕ) → n < p.number → B' (subject.Node n) ≡ B (subject.Node n)
  pub variables : (k : ℕ) → k < p.declared → B' (subject.Variable k) ≡ B (subject.Variable k)

pub later_with : (a : Entries) (B : Context) (p r p' : Spot) → Inside p r a → Counted p → Keeps p p' → Later B p (with_entries a B) p'
later_with a B p r p' h c k = record {
  keeps = k;
  counted = c;
  nodes = λ n l. outside a B p r h (subject.Node n) (omega arith, l);
  variables = λ n l. outside a B p r h (subject.Variable n) (omega arith, l);
}

pub later_same : (B : Context) (p p' : Spot) → Counted p → Keeps p p' → Later B p B p'
later_same B p p' c k = record { keeps = k; counted = c; nodes = λ n l. refl; variables = λ n l. refl }

pub later_on : {A B C : Context} {p q r : Spot} → Later A p B q → Later B q C r → Later A p C r
later_on {p = p} {q = q} a b = record {
  keeps = keeps_on a.keeps b.keeps;
  counted = a.counted;
  nodes = λ n l. b.nodes n (let i = a.keeps.reaches.nodes in omega (arith, i, l)) ∙ a.nodes n l;
  variables = λ n l. b.variables n (let i = a.keeps.reaches.variables in omega (arith, i, l)) ∙ a.variables n l;
}

pub still_counted : {A B : Context} {p q : Spot} → Later A p B q → Counted q
still_counted a = a.keeps.counted a.counted

-- ---- one variable

staged_later : {A B : Context} {p q : Spot} (t : Typ) (s : Stage) → Later A p B q → IsStaged A p t s → IsStaged B q t s
staged_later t Stage.Known a h = tt
staged_later t (Stage.Waits n s) a h = let i = a.keeps.reaches.nodes in let l = h.0 in (omega (arith, i, l), a.nodes n l ∙ h.1)
staged_later t Stage.Given a h = absurd h

pub variable_later : {A B : Context} {p q : Spot} (k : ℕ) (t : Typ) → Later A p B q → VariableStands A p k t → VariableStands B q k t
variable_later {B = B} {p = p} {q = q} k t a h = record {
  earlier = let i = a.keeps.reaches.variables in let l = h.earlier in omega (arith, i, l);
  typed = a.variables k h.earlier ∙ h.typed;
  staged = by (a.keeps.kept a.counted k h.earlier);
}
  where
    by : Still (declared_at p k) (declared_at q k) → IsStaged B q t (declared_at q k).stage
    by (as_it_was e) = subst (λ (d : Declaration). IsStaged B q t d.stage) (sym e) (staged_later t (declared_at p k).stage a h.staged)
    by (now_known m s) = subst (IsStaged B q t) (sym s) tt

-- one that doesn't wait is known
pub settled : (B : Context) (p : Spot) (t : Typ) (x : ℕ) (s : Stage) → IsStaged B p t s → waiting x s ≡ None → s ≡ Stage.Known
settled B p t x Stage.Known h e = refl
settled B p t x (Stage.Waits n s) h e = absurd (cc)
settled B p t x Stage.Given h e = absurd h

pub known_use : (x : Use) (p : Spot) (k : ℕ) → IsUse x p → x.number ≡ k → (declared_at p k).stage ≡ Stage.Known → x.known ≡ true
known_use x p k i e s = ap (λ (u : Use). u.known) i ∙ (ap (λ (n : ℕ). is_known (declared_at p n).stage) e ∙ ap is_known s)

-- ---- a row of variables that were made, from a number on

abbrev pub RowTyped : Context → ℕ → List Typ → Type 0
RowTyped B d ts = (i : ℕ) (t : Typ) → slice_get ts i ≡ Some t → B (subject.Variable (d + i)) ≡ Some t

pub record RowStands (B : Context) (p : Spot) (d : ℕ) (ts : List Typ) : Type 0 where
  pub typed : RowTyped B d ts
  pub known : (i : ℕ) (t : Typ) → slice_get ts i ≡ Some t → KnownAt p (d + i)

pub row_later : {A B : Context} {p q : Spot} (d : ℕ) (ts : List Typ) → Later A p B q → RowStands A p d ts → RowStands B q d ts
row_later d ts a h = record {
  typed = λ i t e. a.variables (d + i) (h.known i t e).earlier ∙ h.typed i t e;
  known = λ i t e. still_known (d + i) a.counted a.keeps (h.known i t e);
}

-- their numbers are those by which they are named
abbrev pub RowFew : ℕ → ℕ → Type 0
RowFew d k = (i : ℕ) → i < k → number (d + i) ≡ d + i

pub next_number : (d i : ℕ) → d + suc i ≡ suc d + i
next_number d i = omega arith

pub row_behind : {B : Context} {p : Spot} (d : ℕ) (t : Typ) (ts : List Typ) → RowStands B p d (t ∷ ts) → RowStands B p (suc d) ts
row_behind {B = B} {p = p} d t ts h = record {
  typed = λ i u e. subst (λ (n : ℕ). B (subject.Variable n) ≡ Some u) (next_number d i) (h.typed (suc i) u e);
  known = λ i u e. subst (KnownAt p) (next_number d i) (h.known (suc i) u e);
}

first_number : (d : ℕ) → d + 0 ≡ d
first_number d = omega arith

pub few_first : (d k : ℕ) → RowFew d (suc k) → number d ≡ d
few_first d k few = subst (λ (n : ℕ). number n ≡ n) (first_number d) (few 0 (omega arith))

pub few_behind : (d k : ℕ) → RowFew d (suc k) → RowFew (suc d) k
few_behind d k few i w = subst (λ (n : ℕ). number n ≡ n) (next_number d i) (few (suc i) (omega (arith, w)))

pub row_first_typed : {B : Context} {p : Spot} (d : ℕ) (t : Typ) (ts : List Typ) → RowStands B p d (t ∷ ts) → B (subject.Variable d) ≡ Some t
row_first_typed {B = B} d t ts h = subst (λ (n : ℕ). B (subject.Variable n) ≡ Some t) (first_number d) (h.typed 0 t refl)

pub row_first_known : {B : Context} {p : Spot} (d : ℕ) (t : Typ) (ts : List Typ) → RowStands B p d (t ∷ ts) → KnownAt p d
row_first_known {p = p} d t ts h = subst (KnownAt p) (first_number d) (h.known 0 t refl)

-- ---- the site where an expression is numbered is its own

pub site_is : (e : Exp) (p : Spot) (t : Site) (q : Spot) → NumberedExp p t e q → (node_of e).site ≡ t
site_is (named.int n m v k) p t q h = h.0.1
site_is (named.bool n b) p t q h = h.0.1
site_is (named.tuple n es) p t q h = h.0.1
site_is (named.var n x) p t q h = h.0.1
site_is (named.field n e x) p t q h = h.0.1
site_is (named.part n e i) p t q h = h.0.1
site_is (named.deref n e) p t q h = h.0.1
site_is (named.negate n e) p t q h = h.0.1
site_is (named.invert n e) p t q h = h.0.1
site_is (named.borrow n m e) p t q h = h.0.1
site_is (named.binary n o a b) p t q h = h.0.1
site_is (named.assign n x e) p t q h = h.0.1
site_is (named.gives n k x d e) p t q h = h.0.1
site_is (named.update n o x e) p t q h = h.0.1
site_is (named.call n f es) p t q h = h.0.1
site_is (named.hidden_call n es) p t q h = h.0.1
site_is (named.next_input n) p t q h = h.0.1
site_is (named.variant n i v es) p t q h = h.0.1
site_is (named.make n i fs) p t q h = h.0.1
site_is (named.print n e) p t q h = h.0.1
site_is (named.block n b) p t q h = h.0.1
site_is (named.if n c b o) p t q h = h.0.1
site_is (named.if_let n x e b o) p t q h = h.0.1
site_is (named.match n e l) p t q h = h.0.1
site_is (named.loop n l k b) p t q h = h.0.1
site_is (named.while n l c b) p t q h = h.0.1
site_is (named.while_let n l x e b) p t q h = h.0.1
site_is (named.break n l) p t q h = h.0.1
site_is (named.continue n l) p t q h = h.0.1
site_is (named.return n o) p t q h = h.0.1
