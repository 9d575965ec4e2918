-- Where things stand in the tokens of a text: they rise, patterns end behind their parentheses, and values of fields stand behind their names.
use Rattle.std.proofs.Common.{◌≡◌, ℕ, ◌≤◌, ◌<◌, Bool, true, false, List, [], ◌∷◌, ◌++◌, codes, refl, sym, ap, subst, ◌∙◌, arith, append_assoc}
use Rattle.std.specs.Prelude.{◌≢◌, ⊤, ◌==◌, nat_le}
use Rattle.std.proofs.lemmas.Bool.{false_from_ne_true, eqb-true, leb-true}
use Rattle.std.proofs.lemmas.Bool.Decides.{nat_tests}
use Rattle.rx_core.specs.Bytes.{same_bytes}
use Rattle.rx_tree.specs.declared.tree.Ident.{Ident}
use Rattle.rx_tree.specs.Plain as plain
use Rattle.rx_tree.specs.Plain.{PatternTree, Expression}
use Rattle.rx_lex.specs.Tok.{Tok}
use Rattle.rx_lex.specs.Tokens.{Tokens}
use Rattle.rx_lex.proofs.TokenLaws.{Ordered, tokens_in_order}
use Rattle.rx_parse_grammar.specs.grammar.Words.{IsMark, span_of, final_span, ident}
use Rattle.rx_parse_grammar.specs.grammar.Patterns as pattern
use Rattle.rx_parse_grammar.specs.grammar.Patterns.{IsPattern}
use Rattle.rx_parse_grammar.specs.grammar.Expressions as g
use Rattle.rx_parse_grammar.specs.grammar.Expressions.{IsExpression, IsOperand, IsUnary, IsPostfix, IsPrimary, IsLike, IsIf}
use Rattle.rx_parse_grammar.proofs.PatternsRead.{pattern_some}
use Rattle.rx_splice_laws.specs.EditsOf.{is_short}
use Rattle.rx_splice_laws.specs.Places.{with_parentheses, past_closing, tokens_from}
use Rattle.rx_tree.specs.Spans.{pattern_span}
use Rattle.rx_splice_laws.specs.SplicedRun.{Part}
use Rattle.rx_splice_laws.proofs.Leaves.{Later, Rising}
use Rattle.rx_splice_laws.proofs.Fitting.{Settled}

later_of : (n from to : ℕ) (ts : List Tok) → n < from → Ordered from to ts → Later n ts
later_of n from to [] l o = tt
later_of n from to (t ∷ ts) l o = (omega (arith, l, o.0), later_of n t.span.end to ts (omega (arith, l, o.0, o.1)) o.2)

pub rising_of : (from to : ℕ) (ts : List Tok) → Ordered from to ts → Rising ts
rising_of from to [] o = tt
rising_of from to (t ∷ ts) o = (later_of t.span.start t.span.end to ts o.1 o.2, rising_of t.span.end to ts o.2)

-- ---- fields

later_left : (n : ℕ) (us vs : List Tok) → Later n (us ++ vs) → Later n us
later_left n [] vs l = tt
later_left n (u ∷ us) vs l = (l.0, later_left n us vs l.1)

later_right : (n : ℕ) (us vs : List Tok) → Later n (us ++ vs) → Later n vs
later_right n [] vs l = l
later_right n (u ∷ us) vs l = later_right n us vs l.1

rising_right : (us vs : List Tok) → Rising (us ++ vs) → Rising vs
rising_right [] vs r = r
rising_right (u ∷ us) vs r = rising_right us vs r.1

-- a variable stands behind this place
abbrev Late : ℕ → Expression → Type 0
Late n (plain.var s y) = n < s.start
Late n _ = ⊤

late_if : (n : ℕ) {ts : List Tok} {x : Expression} {h : ℕ} → IsIf ts x h → Late n x
late_if n (g.if_alone t us vs (g.condition x) b i j st c r is) = tt
late_if n (g.if_alone t us vs (g.fitting p x) b i j st c r is) = tt
late_if n (g.if_else t e us vs ws (g.condition x) y b i j k st se c r s is) = tt
late_if n (g.if_else t e us vs ws (g.fitting p x) y b i j k st se c r s is) = tt

late_like : (n : ℕ) {ts : List Tok} {x : Expression} {h : ℕ} → IsLike ts x h → Late n x
late_like n (g.block b h d) = tt
late_like n (g.conditional d) = late_if n d
late_like n (g.match t o c us vs x a more i j st so sc d r is) = tt
late_like n (g.loop ls us t l b h sl st d is) = tt
late_like n (g.while ls us vs t l (g.condition x) b i j sl st c d is) = tt
late_like n (g.while ls us vs t l (g.fitting p x) b i j sl st c d is) = tt

mutual
  late : (n : ℕ) {ts : List Tok} {x : Expression} {h : ℕ} → IsExpression ts x h → Later n ts → Late n x
  late n (g.operand d) l = late_operand n d l
  late n (g.assign us vs t a b i j s d e is) l = tt
  late n (g.update us vs t o a b i j s d e is) l = tt
  late n (g.return t s is) l = tt
  late n (g.return_with t us x h s d is) l = tt
  late n (g.break t s is) l = tt
  late n (g.break_from t k s e is) l = tt
  late n (g.continue t s is) l = tt
  late n (g.continue_with t k s e is) l = tt

  late_operand : (n : ℕ) {f : Bool} {j : ℕ} {ts : List Tok} {x : Expression} {h : ℕ} → IsOperand f j ts x h → Later n ts → Late n x
  late_operand n (g.unary d) l = late_unary n d l
  late_operand n (g.stronger d) l = late_operand n d l
  late_operand n (g.chain us vs t o a b i j z s d e is) l = tt
  late_operand n (g.compare us vs t o a b i j z s d e is) l = tt

  late_unary : (n : ℕ) {f : Bool} {ts : List Tok} {x : Expression} {h : ℕ} → IsUnary f ts x h → Later n ts → Late n x
  late_unary n (g.postfix d) l = late_postfix n d l
  late_unary n (g.negate t us x h s d is) l = tt
  late_unary n (g.invert t us x h s d is) l = tt
  late_unary n (g.deref t us x h s d is) l = tt
  late_unary n (g.borrow t ms us m x h s sm d is) l = tt
  late_unary n (g.borrow_twice t us x h s d is) l = tt

  late_postfix : (n : ℕ) {f : Bool} {ts : List Tok} {x : Expression} {h : ℕ} → IsPostfix f ts x h → Later n ts → Late n x
  late_postfix n (g.primary d) l = late_primary n d l
  late_postfix n (g.field us d m x h sd sn r is) l = tt
  late_postfix n (g.part us d m v x h sd sn r is) l = tt

  late_primary : (n : ℕ) {f : Bool} {ts : List Tok} {x : Expression} {h : ℕ} → IsPrimary f ts x h → Later n ts → Late n x
  late_primary n (g.number t v k s is) l = tt
  late_primary n (g.true_is t s is) l = tt
  late_primary n (g.false_is t s is) l = tt
  late_primary n (g.variable t s is) l = subst (λ us. n < (span_of us).start) (sym is) (subst (Later n) is l).0
  late_primary n (g.call t o c us xs h s so sc d is) l = tt
  late_primary n (g.next_input r q m o c sr sq sn so sc is) l = tt
  late_primary n (g.variant e q v se sq sv is) l = tt
  late_primary n (g.variant_with e q v o c us x xs h se sq sv so sc d is) l = tt
  late_primary n (g.structure m o c us fs h sn so sc d is) l = tt
  late_primary n (g.print r e o q m c us x h sr se so sq sm sc d is) l = tt
  late_primary n (g.unit o c so sc is) l = tt
  late_primary n (g.parentheses o c us x h so sc d is) l = late n d (later_left n us (c ∷ []) (subst (Later n) is l).1)
  late_primary n (g.tuple o m c us vs x xs h i so sm sc d r is) l = tt
  late_primary n (g.like d) l = late_like n d

apart : (n m : ℕ) → n < m → (n == m) ≡ false
apart n m l = false_from_ne_true (n == m) (λ e. let h : n ≡ m = eqb-true n m e in absurd (omega (arith, l, h)))

no_short : (n : Ident) (x : Expression) → Late n.span.start x → is_short n x ≡ false
no_short n (plain.var s y) l = apart n.span.start s.start l
no_short n x l = refl

long_of : (all : List Tok) → Rising all → (n c : Tok) (us : List Tok) (x : Expression) (h : ℕ) → IsExpression us x h → Part all (n ∷ c ∷ us) → is_short (ident n) x ≡ false
long_of all r n c us x h d p =
    let q = rising_right p.pre (n ∷ c ∷ (us ++ p.post)) (subst Rising p.is r) in
    no_short (ident n) x (late n.span.start d (later_left n.span.start us p.post q.0.1))

-- ---- patterns

abbrev pub Sooner : ℕ → List Tok → Type 0
Sooner e [] = ⊤
Sooner e (t ∷ ts) = (t.span.start < e) × Sooner e ts

record Ended (from to : ℕ) (us post : List Tok) : Type 0 where
  low : from ≤ (span_of us).end
  rest : Ordered (span_of us).end to post
  sooner : Sooner (span_of us).end us

ended : (from to : ℕ) (us post : List Tok) → us ≢ [] → Ordered from to (us ++ post) → Ended from to us post
ended from to [] post n o = absurd (n refl)
ended from to (t ∷ []) post n o = record { low = omega (arith, o.0, o.1); rest = o.2; sooner = (o.1, tt) }
ended from to (t ∷ u ∷ us) post n o =
    let r = ended t.span.end to (u ∷ us) post (λ e. absurd (cc)) o.2 in
    record { low = omega (arith, o.0, o.1, r.low); rest = r.rest; sooner = (omega (arith, o.1, r.low), r.sooner) }

record Ahead (from to : ℕ) (pre us post : List Tok) : Type 0 where
  low : from ≤ (span_of us).end
  sooner : Sooner (span_of us).end pre
  own : Sooner (span_of us).end us
  rest : Ordered (span_of us).end to post

ahead : (from to : ℕ) (pre us post : List Tok) → us ≢ [] → Ordered from to (pre ++ (us ++ post)) → Ahead from to pre us post
ahead from to [] us post n o = let r = ended from to us post n o in record { low = r.low; sooner = tt; own = r.sooner; rest = r.rest }
ahead from to (p ∷ pre) us post n o =
    let r = ahead p.span.end to pre us post n o.2 in
    record { low = omega (arith, o.0, o.1, r.low); sooner = (omega (arith, o.1, r.low), r.sooner); own = r.own; rest = r.rest }

below : (e s : ℕ) → s < e → nat_le e s ≡ false
below e s l = false_from_ne_true (nat_le e s) (λ h. let k : e ≤ s = leb-true e s h in absurd (omega (arith, l, k)))

pub from_rest : (e to : ℕ) (post : List Tok) → Ordered e to post → tokens_from e post ≡ post
from_rest e to [] o = refl
from_rest e to (t ∷ ts) o = let h : nat_le e t.span.start ≡ true = grind (arith, nat_tests, o.0) in rw h refl

pub skipped : (e : ℕ) (us post : List Tok) → Sooner e us → tokens_from e post ≡ post → tokens_from e (us ++ post) ≡ post
skipped e [] post s r = r
skipped e (u ∷ us) post s r = rw (below e u.span.start s.0) (skipped e us post s.1 r)

pub tokens_behind : (from to : ℕ) (pre us post : List Tok) → us ≢ [] → Ordered from to (pre ++ (us ++ post)) → tokens_from (span_of us).end (pre ++ (us ++ post)) ≡ post
tokens_behind from to pre us post n o =
    let r = ahead from to pre us post n o in
    skipped_front (span_of us).end pre (us ++ post) post r.sooner (skipped (span_of us).end us post r.own (from_rest (span_of us).end to post r.rest))
  where
    skipped_front : (e : ℕ) (pre ts post : List Tok) → Sooner e pre → tokens_from e ts ≡ post → tokens_from e (pre ++ ts) ≡ post
    skipped_front e [] ts post s r = r
    skipped_front e (p ∷ pre) ts post s r = rw (below e p.span.start s.0) (skipped_front e pre ts post s.1 r)

last_end : (s : Rattle.rx_core.specs.declared.types.Span.Span) (us : List Tok) (c : Tok) → (final_span s (us ++ c ∷ [])).end ≡ c.span.end
last_end s [] c = refl
last_end s (u ∷ us) c = last_end u.span us c

abbrev Closes : ℕ → ℕ → List Tok → PatternTree → Type 0
Closes from to ps p = (pre post : List Tok) → Ordered from to (pre ++ (ps ++ post)) → with_parentheses (pre ++ (ps ++ post)) (pattern_span p).end ≡ past_closing (span_of ps).end post

core : (from to : ℕ) (ps : List Tok) → ps ≢ [] → (pre post : List Tok) → Ordered from to (pre ++ (ps ++ post)) → with_parentheses (pre ++ (ps ++ post)) (span_of ps).end ≡ past_closing (span_of ps).end post
core from to ps n pre post o = ap (past_closing (span_of ps).end) (tokens_behind from to pre ps post n o)

enclosed : (from to : ℕ) (o c : Tok) (us ps : List Tok) (p : PatternTree) → IsMark (codes ")") c → ps ≡ o ∷ (us ++ c ∷ []) → Closes from to us p → Closes from to ps p
enclosed from to o c us ps p sc is r =
    subst (λ x. Closes from to x p) (sym is) (λ pre post q.
    let e : pre ++ ((o ∷ (us ++ c ∷ [])) ++ post) ≡ (pre ++ o ∷ []) ++ (us ++ (c ∷ post)) = ap (λ x. pre ++ (o ∷ x)) (append_assoc us (c ∷ []) post) ∙ sym (append_assoc pre (o ∷ []) (us ++ (c ∷ post))) in
    ap (λ x. with_parentheses x (pattern_span p).end) e ∙ r (pre ++ o ∷ []) (c ∷ post) (subst (Ordered from to) e q) ∙ closing post)
  where
    closing : (post : List Tok) → past_closing (span_of us).end (c ∷ post) ≡ past_closing (span_of (o ∷ (us ++ c ∷ []))).end post
    closing post = let h : same_bytes c.text (codes ")") ≡ true = ap (λ w. same_bytes w (codes ")")) sc.1 in rw h (ap (λ n. past_closing n post) (sym (last_end o.span us c)))

closes : (from to : ℕ) {ps : List Tok} {p : PatternTree} {m : ℕ} → IsPattern ps p m → Closes from to ps p
closes from to {ps} (pattern.wild t s is) = core from to ps (pattern_some (pattern.wild t s is))
closes from to {ps} (pattern.binding t s is) = core from to ps (pattern_some (pattern.binding t s is))
closes from to {ps} (pattern.mutable_binding m t k s is) = core from to ps (pattern_some (pattern.mutable_binding m t k s is))
closes from to {ps} (pattern.number t v k s is) = core from to ps (pattern_some (pattern.number t v k s is))
closes from to {ps} (pattern.negative t u v k s e is) = core from to ps (pattern_some (pattern.negative t u v k s e is))
closes from to {ps} (pattern.true_is t s is) = core from to ps (pattern_some (pattern.true_is t s is))
closes from to {ps} (pattern.false_is t s is) = core from to ps (pattern_some (pattern.false_is t s is))
closes from to {ps} (pattern.unit o c so sc is) = core from to ps (pattern_some (pattern.unit o c so sc is))
closes from to {ps} (pattern.parentheses o c us y h so sc d is) = enclosed from to o c us ps y sc is (closes from to d)
closes from to {ps} (pattern.tuple o m c us vs y ys h i so sm sc d r is) = core from to ps (pattern_some (pattern.tuple o m c us vs y ys h i so sm sc d r is))
closes from to {ps} (pattern.variant e q v se sq sv is) = core from to ps (pattern_some (pattern.variant e q v se sq sv is))
closes from to {ps} (pattern.variant_with e q v o c us y ys h se sq sv so sc d is) = core from to ps (pattern_some (pattern.variant_with e q v o c us y ys h se sq sv so sc d is))
closes from to {ps} (pattern.structure n o c us fs h sn so sc d is) = core from to ps (pattern_some (pattern.structure n o c us fs h sn so sc d is))

closed_of : (from to : ℕ) (all : List Tok) → Ordered from to all → (ps : List Tok) (p : PatternTree) (m : ℕ) (z : Tok) → IsPattern ps p m → same_bytes z.text (codes ")") ≡ false → Part all (ps ++ z ∷ [])
    → (ps ≢ []) × (with_parentheses all (pattern_span p).end ≡ (span_of ps).end)
closed_of from to all o ps p m z d n q =
    let e : all ≡ q.pre ++ (ps ++ (z ∷ q.post)) = q.is ∙ ap (λ x. q.pre ++ x) (append_assoc ps (z ∷ []) q.post) in
    (pattern_some d, ap (λ x. with_parentheses x (pattern_span p).end) e ∙ closes from to d q.pre (z ∷ q.post) (subst (Ordered from to) e o) ∙ rw n refl)

pub settled : (from to : ℕ) (all : List Tok) → Ordered from to all → Settled all
settled from to all o = record { rising = rising_of from to all o; closed = closed_of from to all o; long = long_of all (rising_of from to all o) }

pub text_settled : (at : ℕ) (t : List ℕ) (all : List Tok) → Tokens at t all → Settled all
text_settled at t all d = settled at _ all (tokens_in_order at t all d)
