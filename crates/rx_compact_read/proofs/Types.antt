-- Types in which lifetimes are written otherwise are derived from the tokens with the edits, by any calculus that knows what becomes of
-- a lifetime: by induction on the derivations.
use Rattle.std.proofs.Common.{◌≡◌, ◌⊎◌, inl, inr, ℕ, Bool, false, List, [], ◌∷◌, ◌++◌, map, Option, Some, None, codes, refl, sym, ap, subst, ◌∙◌, append_assoc, append-nil}
use Rattle.std.specs.Prelude.{◌≢◌, option_map}
use Rattle.rx_core.specs.declared.types.Span.{Span}
use Rattle.rx_tree.specs.declared.tree.Ident.{Ident}
use Rattle.rx_tree.specs.Lists.{Every}
use Rattle.rx_tree.specs.Plain as plain
use Rattle.rx_tree.specs.Plain.{TypeTree, TypeTrees, Parameter}
use Rattle.rx_tree.specs.PlainOf.{types_of}
use Rattle.rx_tree.specs.Erase.{nowhere, erase_ident, erase_label, erase_type, erase_types, erase_parameter}
use Rattle.rx_lex.specs.declared.token.Class.{Class}
use Rattle.rx_lex.specs.declared.token.Class.TheVariants as class
use Rattle.rx_lex.specs.Tok.{Tok}
use Rattle.rx_parse_grammar.specs.grammar.Words.{span_of, IsMark, IsLifetime, IsAnonymous, IsListOf, no_element, last_element, element, ident, second_ampersand}
use Rattle.rx_parse_grammar.specs.grammar.Types as t
use Rattle.rx_parse_grammar.specs.grammar.Types.{IsType, AreTypes, IsLifetimeArgument, IsReferenceLifetime}
use Rattle.rx_parse_grammar.specs.grammar.Items.{IsParameter, parameter, IsResult, no_result, result}
use Rattle.rx_parse_grammar.proofs.TypesRead.{type_some}
use Rattle.rx_parse_laws.specs.Parts.{erased_types}
use Rattle.rx_print_spelling.specs.Formed.{Lasting, MaybeLasting, FormedType, FormedTypes, FormedParameter, WrittenType}
use Rattle.rx_splice_laws.specs.Edits.{Edit}
use Rattle.rx_compact_lifetimes.specs.Rewritten.{lifetime_with}
use Rattle.rx_compact_text.specs.CompactedText.{renamed_edits, reference_edits, argument_edits, listed_edits, type_edits, types_edits, optional_edits, parameters_edits}

-- ---- types by what becomes of names

abbrev pub lifetime_by : (List ℕ → Option (List ℕ)) → Option Ident → Option Ident
lifetime_by m None = None
lifetime_by m (Some x) = lifetime_with x (m x.name)

abbrev mutual
  pub type_by : (List ℕ → Option (List ℕ)) → TypeTree → TypeTree
  type_by m (plain.kind_type s k) = plain.kind_type s k
  type_by m (plain.bool_type s) = plain.bool_type s
  type_by m (plain.tuple_type s ts) = plain.tuple_type s (types_by m ts)
  type_by m (plain.ref_type s l w t) = plain.ref_type s (lifetime_by m l) w (type_by m t)
  type_by m (plain.named_type s x ls) = plain.named_type s x (option_map (map (lifetime_by m)) ls)

  pub types_by : (List ℕ → Option (List ℕ)) → TypeTrees → TypeTrees
  types_by m plain.no_type = plain.no_type
  types_by m (plain.type_and t ts) = plain.type_and (type_by m t) (types_by m ts)

abbrev pub parameter_by : (List ℕ → Option (List ℕ)) → Parameter → Parameter
parameter_by m x = record x { typ = type_by m x.typ }

-- ---- a calculus of edits

-- `&`, or the two of `&&`
abbrev pub IsAmpersand : Tok → Type 0
IsAmpersand a = IsMark (codes "&") a ⊎ IsMark (codes "&&") a

pub record Renamed (R : List Edit → List Tok → List Tok → Type 0) (es : List Edit) (k : Tok) (n : List ℕ) : Type 0 where
  pub tok : Tok
  pub lifetime : IsLifetime tok
  pub text : tok.text ≡ n
  pub edited : R es (k ∷ []) (tok ∷ [])

pub record Anonymous (R : List Edit → List Tok → List Tok → Type 0) (es : List Edit) (k : Tok) : Type 0 where
  pub tok : Tok
  pub anonymous : IsAnonymous tok
  pub edited : R es (k ∷ []) (tok ∷ [])

pub record Calculus (text : List ℕ) (m : List ℕ → Option (List ℕ)) (R : List Edit → List Tok → List Tok → Type 0) : Type 0 where
  pub kept : (ts : List Tok) → R [] ts ts
  pub joined : {es fs : List Edit} {ts us vs ws : List Tok} → R es ts us → R fs vs ws → R (es ++ fs) (ts ++ vs) (us ++ ws)
  pub renamed : (k : Tok) (n : List ℕ) → IsLifetime k → Lasting (ident k) → m k.text ≡ Some n → Renamed R (renamed_edits (ident k) n) k n
  pub anonymous : (k : Tok) → IsLifetime k → Lasting (ident k) → m k.text ≡ None → Anonymous R (argument_edits (ident k) None) k
  pub gone : {es : List Edit} {vs us : List Tok} (a k : Tok) → IsAmpersand a → IsLifetime k → Lasting (ident k) → m k.text ≡ None → vs ≢ [] → R es vs us
      → R (reference_edits text (ident k) None ++ es) (a ∷ k ∷ vs) (a ∷ us)

-- tokens with the edits are derived, with as many levels
pub record Retyped (R : List Edit → List Tok → List Tok → Type 0) {B D : Type 0} (J : List Tok → B → ℕ → Type 0) (view : B → D) (es : List Edit) (ts : List Tok) (h : ℕ) (want : D) : Type 0 where
  pub tokens : List Tok
  pub edited : R es ts tokens
  pub tree : B
  pub derived : J tokens tree h
  pub same : view tree ≡ want

retyped : {R : List Edit → List Tok → List Tok → Type 0} {B D : Type 0} {J : List Tok → B → ℕ → Type 0} {view : B → D} {es : List Edit} {ts : List Tok} {h : ℕ} {want : D}
    (us : List Tok) (y : B) → R es ts us → J us y h → view y ≡ want → Retyped R J view es ts h want
retyped us y e d s = record { tokens = us; edited = e; tree = y; derived = d; same = s }

-- ---- the second half of `&&` is no other token

other_class : (k a : Tok) (us vs : List Tok) (c : Class) → second_ampersand k ∷ us ≡ a ∷ vs → a.class ≡ c → (class.Mark ≡ c → ⊥) → ⊥
other_class k a us vs c e s n = let h : second_ampersand k ≡ a = cc in n (ap (λ (x : Tok). x.class) h ∙ s)

other_mark : (w : List ℕ) (k a : Tok) (us vs : List Tok) → second_ampersand k ∷ us ≡ a ∷ vs → IsMark w a → (codes "&" ≡ w → ⊥) → ⊥
other_mark w k a us vs e s n = let h : second_ampersand k ≡ a = cc in n (ap (λ (x : Tok). x.text) h ∙ s.1)

behind_second : (k a : Tok) (us vs : List Tok) → second_ampersand k ∷ us ≡ a ∷ vs → us ≡ vs
behind_second k a us vs e = cc

no_keyword : class.Mark ≡ class.Keyword → ⊥
no_keyword e = absurd (cc)

no_name : class.Mark ≡ class.Identifier → ⊥
no_name e = absurd (cc)

no_open : codes "&" ≡ codes "(" → ⊥
no_open e = absurd (cc)

no_double : codes "&" ≡ codes "&&" → ⊥
no_double e = absurd (cc)

append_some : (us ws : List Tok) → ws ≢ [] → us ++ ws ≢ []
append_some [] ws n e = n e
append_some (u ∷ us) ws n e = absurd (cc)

some_types : (zs : List TypeTree) (a : TypeTree) (more : TypeTrees) → erased_types zs ≡ plain.type_and a more → (z : TypeTree) × (ws : List TypeTree) × (zs ≡ z ∷ ws)
some_types [] a more e = absurd (cc)
some_types (z ∷ ws) a more e = (z, ws, refl)

some_lifetimes : (zs : List (Option Ident)) (a : Option Ident) (more : List (Option Ident)) → map erase_label zs ≡ a ∷ more → (z : Option Ident) × (ws : List (Option Ident)) × (zs ≡ z ∷ ws)
some_lifetimes [] a more e = absurd (cc)
some_lifetimes (z ∷ ws) a more e = (z, ws, refl)

module _ (text : List ℕ) (m : List ℕ → Option (List ℕ)) (R : List Edit → List Tok → List Tok → Type 0) (C : Calculus text m R) where
  one_kept : {es : List Edit} {ts us : List Tok} (k : Tok) → R es ts us → R es (k ∷ ts) (k ∷ us)
  one_kept k e = C.joined (C.kept (k ∷ [])) e

  then_kept : {es : List Edit} {ts us : List Tok} → R es ts us → (bs : List Tok) → R es (ts ++ bs) (us ++ bs)
  then_kept {es} {ts} {us} e bs = subst (λ x. R x (ts ++ bs) (us ++ bs)) (append-nil es) (C.joined e (C.kept bs))

  and_none : {es : List Edit} {ts us : List Tok} → R es ts us → R (es ++ []) ts us
  and_none {es} {ts} {us} e = subst (λ x. R x ts us) (sym (append-nil es)) e

  moved : {es : List Edit} {ts vs us : List Tok} → ts ≡ vs → R es vs us → R es ts us
  moved {es} {us = us} i e = subst (λ x. R es x us) (sym i) e

  with_edits : {es fs : List Edit} {ts us : List Tok} → es ≡ fs → R fs ts us → R es ts us
  with_edits {ts = ts} {us = us} i e = subst (λ x. R x ts us) (sym i) e

  -- ---- lifetimes behind a name

  one_argument : {ts : List Tok} {l : Option Ident} {h : ℕ} → IsLifetimeArgument ts l h → MaybeLasting l
      → Retyped R IsLifetimeArgument erase_label (listed_edits m (l ∷ [])) ts h (erase_label (lifetime_by m l))
  one_argument (t.anonymous_argument k s) f = retyped (k ∷ []) None (C.kept (k ∷ [])) (t.anonymous_argument k s) refl
  one_argument (t.lifetime_argument k s) f = by (m k.text) refl where
    by : (o : Option (List ℕ)) → m k.text ≡ o → Retyped R IsLifetimeArgument erase_label (argument_edits (ident k) o ++ []) (k ∷ []) 0 (erase_label (lifetime_with (ident k) o))
    by None e = let r = C.anonymous k s f e in retyped (r.tok ∷ []) None (and_none r.edited) (t.anonymous_argument r.tok r.anonymous) refl
    by (Some n) e =
        let r = C.renamed k n s f e in
        retyped (r.tok ∷ []) (Some (ident r.tok)) (and_none r.edited) (t.lifetime_argument r.tok r.lifetime) (ap (λ (w : List ℕ). Some (record { span = nowhere; name = w })) r.text)

  arguments : {ts : List Tok} {ls : List (Option Ident)} {h : ℕ} → IsListOf IsLifetimeArgument ts ls h → Every MaybeLasting ls
      → Retyped R (IsListOf IsLifetimeArgument) (map erase_label) (listed_edits m ls) ts h (map erase_label (map (lifetime_by m) ls))
  arguments no_element f = retyped [] [] (C.kept []) no_element refl
  arguments (last_element d) f = let r = one_argument d f.0 in retyped r.tokens (r.tree ∷ []) r.edited (last_element r.derived) (ap (λ l. l ∷ []) r.same)
  arguments (element us vs c x xs a b d s r is) f =
      let p = one_argument d f.0 in
      let q = arguments r f.1 in
      retyped (p.tokens ++ (c ∷ q.tokens)) (p.tree ∷ q.tree) (moved is (with_edits (one_more x xs) (C.joined p.edited (one_kept c q.edited)))) (element p.tokens q.tokens c p.tree q.tree a b p.derived s q.derived refl)
      (ap (λ l. l ∷ map erase_label q.tree) p.same ∙ ap (λ ls. erase_label (lifetime_by m x) ∷ ls) q.same)
    where
      one_more : (x : Option Ident) (xs : List (Option Ident)) → listed_edits m (x ∷ xs) ≡ listed_edits m (x ∷ []) ++ listed_edits m xs
      one_more None xs = refl
      one_more (Some x) xs = sym (append_assoc (argument_edits x (m x.name)) [] (listed_edits m xs))

  -- ---- behind an ampersand

  record Pointed (es : List Edit) (a : Tok) (ts ms : List Tok) (h : ℕ) (l : Option Ident) (want : TypeTree) : Type 0 where
    lifetime : List Tok
    tokens : List Tok
    edited : R es (a ∷ ts) (a ∷ (lifetime ++ (ms ++ tokens)))
    label : Option Ident
    labelled : IsReferenceLifetime lifetime label
    tree : TypeTree
    derived : IsType tokens tree h
    same_label : erase_label label ≡ erase_label l
    same : erase_type tree ≡ want

  pointed : (a : Tok) (s : Span) (w : Bool) (y : TypeTree) (ls ms us : List Tok) (l : Option Ident) (h : ℕ) → IsAmpersand a → IsReferenceLifetime ls l → MaybeLasting l → us ≢ []
      → Retyped R IsType erase_type (type_edits text m y) us h (erase_type (type_by m y))
      → Pointed (type_edits text m (plain.ref_type s l w y)) a (ls ++ (ms ++ us)) ms h (lifetime_by m l) (erase_type (type_by m y))
  pointed a s w y ls ms us l h sa t.no_lifetime f n r = record {
    lifetime = [];
    tokens = r.tokens;
    edited = one_kept a (C.joined (C.kept ms) r.edited);
    label = None;
    labelled = t.no_lifetime;
    tree = r.tree;
    derived = r.derived;
    same_label = refl;
    same = r.same;
  }
  pointed a s w y ls ms us l h sa (t.anonymous k q) f n r = record {
    lifetime = k ∷ [];
    tokens = r.tokens;
    edited = one_kept a (one_kept k (C.joined (C.kept ms) r.edited));
    label = None;
    labelled = t.anonymous k q;
    tree = r.tree;
    derived = r.derived;
    same_label = refl;
    same = r.same;
  }
  pointed a s w y ls ms us l h sa (t.lifetime k q) f n r = by (m k.text) refl where
    by : (o : Option (List ℕ)) → m k.text ≡ o → Pointed (reference_edits text (ident k) o ++ type_edits text m y) a (k ∷ (ms ++ us)) ms h (lifetime_with (ident k) o) (erase_type (type_by m y))
    by None e = record {
      lifetime = [];
      tokens = r.tokens;
      edited = C.gone a k sa q f e (append_some ms us n) (C.joined (C.kept ms) r.edited);
      label = None;
      labelled = t.no_lifetime;
      tree = r.tree;
      derived = r.derived;
      same_label = refl;
      same = r.same;
    }
    by (Some x) e =
        let c = C.renamed k x q f e in record {
          lifetime = c.tok ∷ [];
          tokens = r.tokens;
          edited = one_kept a (C.joined c.edited (C.joined (C.kept ms) r.edited));
          label = Some (ident c.tok);
          labelled = t.lifetime c.tok c.lifetime;
          tree = r.tree;
          derived = r.derived;
          same_label = ap (λ (z : List ℕ). Some (record { span = nowhere; name = z })) c.text;
          same = r.same;
        }

  record Second (k : Tok) (us : List Tok) (y : TypeTree) (h : ℕ) : Type 0 where
    tokens : List Tok
    edited : R (type_edits text m y) (k ∷ us) (k ∷ tokens)
    tree : TypeTree
    derived : IsType (second_ampersand k ∷ tokens) tree h
    same : erase_type tree ≡ erase_type (type_by m y)

  abbrev Changed : List Tok → TypeTree → ℕ → Type 0
  Changed ts y h = Retyped R IsType erase_type (type_edits text m y) ts h (erase_type (type_by m y))

  mutual
    pub type_changed : {ts : List Tok} {y : TypeTree} {h : ℕ} → IsType ts y h → FormedType y → Changed ts y h
    type_changed {ts = ts} (t.kind k w s is) f = retyped ts _ (C.kept ts) (t.kind k w s is) refl
    type_changed {ts = ts} (t.bool k s is) f = retyped ts _ (C.kept ts) (t.bool k s is) refl
    type_changed {ts = ts} (t.named k s is) f = retyped ts _ (C.kept ts) (t.named k s is) refl
    type_changed (t.named_with k o c us l ls s so sc d is) f =
        let r = arguments d f.1.1 in
        let w = some_lifetimes r.tree (erase_label (lifetime_by m l)) (map erase_label (map (lifetime_by m) ls)) r.same in
        retyped (k ∷ o ∷ (r.tokens ++ c ∷ [])) _ (moved is (one_kept k (one_kept o (then_kept r.edited (c ∷ [])))))
        (t.named_with k o c r.tokens w.0 w.1 s so sc (subst (λ zs. IsListOf IsLifetimeArgument r.tokens zs 0) w.2 r.derived) refl)
        (ap (λ (zs : List (Option Ident)). plain.named_type nowhere (erase_ident (ident k)) (Some zs)) (ap (map erase_label) (sym w.2) ∙ r.same))
    type_changed {ts = ts} (t.reference k ls ms us l w y h s dl dm d is) f =
        let p = pointed k (span_of ts) w y ls ms us l h (inl s) dl f.0 (type_some d) (type_changed d f.1) in
        retyped (k ∷ (p.lifetime ++ (ms ++ p.tokens))) _ (moved is p.edited) (t.reference k p.lifetime ms p.tokens p.label w p.tree h s p.labelled dm p.derived refl)
        (ap (λ z. plain.ref_type nowhere z w (erase_type p.tree)) p.same_label ∙ ap (λ z. plain.ref_type nowhere (erase_label (lifetime_by m l)) w z) p.same)
    type_changed {ts = ts} (t.two_references k us y h s d is) f =
        let r = second_changed k us s d f.1 refl in
        retyped (k ∷ r.tokens) _ (moved is r.edited) (t.two_references k r.tokens r.tree h s r.derived refl) (ap (λ z. plain.ref_type nowhere None false z) r.same)
    type_changed {ts = ts} (t.unit o c so sc is) f = retyped ts _ (C.kept ts) (t.unit o c so sc is) refl
    type_changed (t.parentheses o c us y h so sc d is) f =
        let r = type_changed d f in
        retyped (o ∷ (r.tokens ++ c ∷ [])) r.tree (moved is (one_kept o (then_kept r.edited (c ∷ [])))) (t.parentheses o c r.tokens r.tree h so sc r.derived refl) r.same
    type_changed (t.tuple o a c us vs y ys h i so sa sc d r is) f =
        let p = type_changed d f.0 in
        let q = types_changed r f.1 in
        retyped (o ∷ (p.tokens ++ (a ∷ (q.tokens ++ c ∷ [])))) _ (moved is (one_kept o (C.joined p.edited (one_kept a (then_kept q.edited (c ∷ []))))))
        (t.tuple o a c p.tokens q.tokens p.tree q.tree h i so sa sc p.derived q.derived refl)
        (ap (λ z. plain.tuple_type nowhere (plain.type_and z (erased_types q.tree))) p.same ∙ ap (λ z. plain.tuple_type nowhere (plain.type_and (erase_type (type_by m y)) z)) q.same)

    -- behind the first half of `&&`
    second_changed : {ts : List Tok} {y : TypeTree} {h : ℕ} (k : Tok) (us : List Tok) → IsMark (codes "&&") k → IsType ts y h → FormedType y → ts ≡ second_ampersand k ∷ us → Second k us y h
    second_changed k us sk (t.kind a w s is) f e = absurd (other_class k a us [] class.Keyword (sym e ∙ is) s.0 no_keyword)
    second_changed k us sk (t.bool a s is) f e = absurd (other_class k a us [] class.Keyword (sym e ∙ is) s.0 no_keyword)
    second_changed k us sk (t.named a s is) f e = absurd (other_class k a us [] class.Identifier (sym e ∙ is) s no_name)
    second_changed k us sk (t.named_with a o c vs l ls s so sc d is) f e = absurd (other_class k a us (o ∷ (vs ++ c ∷ [])) class.Identifier (sym e ∙ is) s no_name)
    second_changed {ts = ts} k us sk (t.reference a ls ms vs l w y h s dl dm d is) f e =
        let p = pointed k (span_of ts) w y ls ms vs l h (inr sk) dl f.0 (type_some d) (type_changed d f.1) in record {
          tokens = p.lifetime ++ (ms ++ p.tokens);
          edited = moved (ap (λ x. k ∷ x) (behind_second k a us (ls ++ (ms ++ vs)) (sym e ∙ is))) p.edited;
          tree = _;
          derived = t.reference (second_ampersand k) p.lifetime ms p.tokens p.label w p.tree h (refl, refl) p.labelled dm p.derived refl;
          same = ap (λ z. plain.ref_type nowhere z w (erase_type p.tree)) p.same_label ∙ ap (λ z. plain.ref_type nowhere (erase_label (lifetime_by m l)) w z) p.same;
        }
    second_changed k us sk (t.two_references a vs y h s d is) f e = absurd (other_mark (codes "&&") k a us vs (sym e ∙ is) s no_double)
    second_changed k us sk (t.unit o c so sc is) f e = absurd (other_mark (codes "(") k o us (c ∷ []) (sym e ∙ is) so no_open)
    second_changed k us sk (t.parentheses o c vs y h so sc d is) f e = absurd (other_mark (codes "(") k o us (vs ++ c ∷ []) (sym e ∙ is) so no_open)
    second_changed k us sk (t.tuple o a c ws vs y ys h i so sa sc d r is) f e = absurd (other_mark (codes "(") k o us (ws ++ (a ∷ (vs ++ c ∷ []))) (sym e ∙ is) so no_open)

    types_changed : {ts : List Tok} {ys : List TypeTree} {h : ℕ} → AreTypes ts ys h → FormedTypes (types_of ys)
        → Retyped R AreTypes erased_types (types_edits text m (types_of ys)) ts h (erase_types (types_by m (types_of ys)))
    types_changed t.no_type f = retyped [] [] (C.kept []) t.no_type refl
    types_changed (t.last_type d) f = let r = type_changed d f.0 in retyped r.tokens (r.tree ∷ []) (and_none r.edited) (t.last_type r.derived) (ap (λ z. plain.type_and z plain.no_type) r.same)
    types_changed (t.type_and us vs c y ys a b d s r is) f =
        let p = type_changed d f.0 in
        let q = types_changed r f.1 in
        retyped (p.tokens ++ (c ∷ q.tokens)) (p.tree ∷ q.tree) (moved is (C.joined p.edited (one_kept c q.edited))) (t.type_and p.tokens q.tokens c p.tree q.tree a b p.derived s q.derived refl)
        (ap (λ z. plain.type_and z (erased_types q.tree)) p.same ∙ ap (λ z. plain.type_and (erase_type (type_by m y)) z) q.same)

  -- ---- parameters and the result

  one_parameter : {ts : List Tok} {x : Parameter} {h : ℕ} → IsParameter ts x h → FormedParameter x
      → Retyped R IsParameter erase_parameter (type_edits text m x.typ) ts h (erase_parameter (parameter_by m x))
  one_parameter (parameter ms us n c w y h sm sn sc d is) f =
      let r = type_changed d f.1 in
      retyped (ms ++ (n ∷ c ∷ r.tokens)) _ (moved is (C.joined (C.kept ms) (one_kept n (one_kept c r.edited)))) (parameter ms r.tokens n c w r.tree h sm sn sc r.derived refl)
      (ap (λ (z : TypeTree). record { name = erase_ident (ident n); mutable = w; typ = z }) r.same)

  pub parameters_changed : {ts : List Tok} {ps : List Parameter} {h : ℕ} → IsListOf IsParameter ts ps h → Every FormedParameter ps
      → Retyped R (IsListOf IsParameter) (map erase_parameter) (parameters_edits text m ps) ts h (map erase_parameter (map (parameter_by m) ps))
  parameters_changed no_element f = retyped [] [] (C.kept []) no_element refl
  parameters_changed (last_element d) f = let r = one_parameter d f.0 in retyped r.tokens (r.tree ∷ []) (and_none r.edited) (last_element r.derived) (ap (λ l. l ∷ []) r.same)
  parameters_changed (element us vs c x xs a b d s r is) f =
      let p = one_parameter d f.0 in
      let q = parameters_changed r f.1 in
      retyped (p.tokens ++ (c ∷ q.tokens)) (p.tree ∷ q.tree) (moved is (C.joined p.edited (one_kept c q.edited))) (element p.tokens q.tokens c p.tree q.tree a b p.derived s q.derived refl)
      (ap (λ l. l ∷ map erase_parameter q.tree) p.same ∙ ap (λ ls. erase_parameter (parameter_by m x) ∷ ls) q.same)

  pub result_changed : {ts : List Tok} {y : Option TypeTree} {h : ℕ} → IsResult ts y h → WrittenType y
      → Retyped R IsResult (option_map erase_type) (optional_edits text m y) ts h (option_map erase_type (option_map (type_by m) y))
  result_changed no_result f = retyped [] None (C.kept []) no_result refl
  result_changed (result a us y h sa d is) f =
      let r = type_changed d f in retyped (a ∷ r.tokens) (Some r.tree) (moved is (one_kept a r.edited)) (result a r.tokens r.tree h sa r.derived refl) (ap (λ (z : TypeTree). Some z) r.same)
