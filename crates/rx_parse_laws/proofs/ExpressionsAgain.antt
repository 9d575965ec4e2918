-- Expressions, statements and blocks speak of words alone: by induction on the derivation, each production again with the tokens
-- that stand in its places. Whether tokens begin as an expression that ends in a block goes the other way.
use Rattle.std.proofs.Common.{◌≡◌, ℕ, Bool, false, List, [], ◌∷◌, ◌++◌, Option, Some, None, codes, refl, sym, ap, subst, ◌∙◌}
use Rattle.std.specs.Prelude.{◌≢◌, option_map}
use Rattle.rx_core.specs.declared.types.Span.{Span}
use Rattle.rx_tree.specs.declared.tree.Ident.{Ident}
use Rattle.rx_tree.specs.Plain as plain
use Rattle.rx_tree.specs.Plain.{TypeTree, PatternTree, Expression, OptionalExpression, Body, Statement}
use Rattle.rx_tree.specs.PlainOf.{expressions_of, arms_of, statements_of}
use Rattle.rx_tree.specs.Erase.{nowhere, erase, erase_ident, erase_label, erase_type, erase_pattern, erase_all, erase_arms, erase_body, erase_statement, erase_statements, erase_optional}
use Rattle.rx_lex.specs.declared.token.Class.TheVariants as class
use Rattle.rx_lex.specs.Tok.{Tok}
use Rattle.rx_parse_grammar.specs.grammar.Words.{span_of, ident, second_ampersand}
use Rattle.rx_parse_grammar.specs.grammar.Expressions as g
use Rattle.rx_parse_grammar.specs.grammar.Expressions.{IsExpression, IsOperand, IsUnary, IsPostfix, IsPrimary, AreArguments, BeginsLike, Test}
use Rattle.rx_parse_laws.specs.Words.{words}
use Rattle.rx_parse_laws.specs.Parts.{erased_arguments, erased_field, erased_fields, erased_arms, erased_test, Within, erased_within}
use Rattle.rx_parse_laws.proofs.SameWords.{Same, Again, again, got, front, cut, closed, none, one_left, onto, behind, same_mark, same_keyword, same_named, same_lifetime, same_number, same_index, same_operator, same_update, same_ident, same_mutability}
use Rattle.rx_parse_laws.proofs.TypesAgain.{annotation_again}
use Rattle.rx_parse_laws.proofs.PatternsAgain.{pattern_again}

pub label_again : {ts : List Tok} {l : Option Ident} → g.IsLabel ts l → (us : List Tok) → words us ≡ words ts → Again g.IsLabel erase_label us (erase_label l)
label_again g.no_label us e = again None (subst (λ x. g.IsLabel x None) (sym (none us e)) g.no_label) refl
label_again (g.label t c s m) us e =
    let k = front us t (c ∷ []) e in
    let l = front k.more c [] k.rest_words in
    again (Some (ident k.tok)) (subst (λ x. g.IsLabel x (Some (ident k.tok))) (sym (onto k (onto l (none l.more l.rest_words)))) (g.label k.tok l.tok (same_lifetime k.same s) (same_mark _ l.same m)))
    (ap (λ (z : Ident). Some z) (same_ident k.same))

some_arguments : (zs : List Expression) (a : Expression) (more : plain.Expressions) → erased_arguments zs ≡ plain.expression_and a more
    → (z : Expression) × (ws : List Expression) × (zs ≡ z ∷ ws)
some_arguments [] a more e = absurd (cc)
some_arguments (z ∷ ws) a more e = (z, ws, refl)

if_erased : (x : Test) (b : Body) (y : OptionalExpression) (s : Span) → erase (g.if_of s x b y) ≡ g.if_of nowhere (erased_test x) (erase_body b) (erase_optional y)
if_erased (g.condition x) b y s = refl
if_erased (g.fitting p x) b y s = refl

while_erased : (x : Test) (l : Option Ident) (b : Body) (s : Span) → erase (g.while_of s l x b) ≡ g.while_of nowhere (erase_label l) (erased_test x) (erase_body b)
while_erased (g.condition x) l b s = refl
while_erased (g.fitting p x) l b s = refl

some_arms : (zs : List (PatternTree × Expression)) (p : PatternTree) (a : Expression) (more : plain.Arms) → erased_arms zs ≡ plain.arm_and p a more
    → (z : PatternTree × Expression) × (ws : List (PatternTree × Expression)) × (zs ≡ z ∷ ws)
some_arms [] p a more e = absurd (cc)
some_arms (z ∷ ws) p a more e = (z, ws, refl)

pub begins_again : (us ts : List Tok) → words us ≡ words ts → BeginsLike us → BeginsLike ts
begins_again us [] e d = absurd (no_like (subst BeginsLike (none us e) d))
  where
    no_like : BeginsLike [] → ⊥
    no_like d = elim d [ ]
begins_again us (t ∷ ts) e d = let k = front us t ts e in by k.same (subst BeginsLike k.is d)
  where
    back : {u t : Tok} → Same u t → Same t u
    back s = record { class = sym s.class; text = sym s.text }

    by : {u : Tok} {more : List Tok} → Same u t → BeginsLike (u ∷ more) → BeginsLike (t ∷ ts)
    by s (g.with_brace m) = g.with_brace (same_mark _ (back s) m)
    by s (g.with_if m) = g.with_if (same_keyword _ (back s) m)
    by s (g.with_match m) = g.with_match (same_keyword _ (back s) m)
    by s (g.with_loop m) = g.with_loop (same_keyword _ (back s) m)
    by s (g.with_while m) = g.with_while (same_keyword _ (back s) m)
    by s (g.with_label m) = g.with_label (same_lifetime (back s) m)

pub some_again : (us ts : List Tok) → words us ≡ words ts → ts ≢ [] → us ≢ []
some_again us ts e n z = n (none ts (sym e ∙ ap words z))

mutual
  pub operand_again : {f : Bool} {j : ℕ} {ts : List Tok} {x : Expression} {h : ℕ} → IsOperand f j ts x h → (us : List Tok) → words us ≡ words ts
      → Again (λ vs y. IsOperand f j vs y h) erase us (erase x)
  operand_again (g.unary d) us e = got (unary_again d us e) (λ y dy sy. again y (g.unary dy) sy)
  operand_again (g.stronger d) us e = got (operand_again d us e) (λ y dy sy. again y (g.stronger dy) sy)
  operand_again (g.chain a b t o l r m n z s d q is) us e =
      let c = cut a (t ∷ b) us (e ∙ ap words is) in
      let k = front c.second t b c.second_words in
      got (operand_again d c.first c.first_words) (λ y dy sy.
      got (operand_again q k.more k.rest_words) (λ w dw sw.
      again _ (g.chain c.first k.more k.tok o y w m n z (same_operator k.same s) dy dw (behind c k.is)) (rw (sy, sw) refl)))
  operand_again (g.compare a b t o l r m n z s d q is) us e =
      let c = cut a (t ∷ b) us (e ∙ ap words is) in
      let k = front c.second t b c.second_words in
      got (operand_again d c.first c.first_words) (λ y dy sy.
      got (operand_again q k.more k.rest_words) (λ w dw sw.
      again _ (g.compare c.first k.more k.tok o y w m n z (same_operator k.same s) dy dw (behind c k.is)) (rw (sy, sw) refl)))

  pub unary_again : {f : Bool} {ts : List Tok} {x : Expression} {h : ℕ} → IsUnary f ts x h → (us : List Tok) → words us ≡ words ts
      → Again (λ vs y. IsUnary f vs y h) erase us (erase x)
  unary_again (g.postfix d) us e = got (postfix_again d us e) (λ y dy sy. again y (g.postfix dy) sy)
  unary_again (g.negate t vs x h s d is) us e =
      let k = front us t vs (e ∙ ap words is) in
      got (unary_again d k.more k.rest_words) (λ y dy sy. again _ (g.negate k.tok k.more y h (same_mark _ k.same s) dy k.is) (rw sy refl))
  unary_again (g.invert t vs x h s d is) us e =
      let k = front us t vs (e ∙ ap words is) in
      got (unary_again d k.more k.rest_words) (λ y dy sy. again _ (g.invert k.tok k.more y h (same_mark _ k.same s) dy k.is) (rw sy refl))
  unary_again (g.deref t vs x h s d is) us e =
      let k = front us t vs (e ∙ ap words is) in
      got (unary_again d k.more k.rest_words) (λ y dy sy. again _ (g.deref k.tok k.more y h (same_mark _ k.same s) dy k.is) (rw sy refl))
  unary_again (g.borrow t ms vs m x h s sm d is) us e =
      let k = front us t (ms ++ vs) (e ∙ ap words is) in
      let c = cut ms vs k.more k.rest_words in
      got (unary_again d c.second c.second_words) (λ y dy sy. again _ (g.borrow k.tok c.first c.second m y h (same_mark _ k.same s) (same_mutability sm c.first c.first_words) dy (onto k c.is)) (rw sy refl))
  unary_again (g.borrow_twice t vs x h s d is) us e =
      let k = front us t vs (e ∙ ap words is) in
      got (unary_again d (second_ampersand k.tok ∷ k.more)
      (ap (λ l. (class.Mark, codes "&") ∷ l) k.rest_words)) (λ y dy sy. again _ (g.borrow_twice k.tok k.more y h (same_mark _ k.same s) dy k.is) (rw sy refl))

  pub postfix_again : {f : Bool} {ts : List Tok} {x : Expression} {h : ℕ} → IsPostfix f ts x h → (us : List Tok) → words us ≡ words ts
      → Again (λ vs y. IsPostfix f vs y h) erase us (erase x)
  postfix_again {f} {ts} {x} {h} (g.primary d) us e = got (primary_again d us e) (λ y dy sy. again y (g.primary dy) sy)
  postfix_again (g.field vs d n x h sd sn r is) us e =
      let c = cut vs (d ∷ n ∷ []) us (e ∙ ap words is) in
      let k = front c.second d (n ∷ []) c.second_words in
      let l = front k.more n [] k.rest_words in
      got (postfix_again r c.first c.first_words) (λ y dy sy.
      again _ (g.field c.first k.tok l.tok y h (same_mark _ k.same sd) (l.same.class ∙ sn) dy (behind c (onto k (one_left l))))
      (ap (λ (z : Expression). plain.field nowhere z (erase_ident (ident l.tok))) sy ∙ ap (λ (z : Ident). plain.field nowhere (erase x) z) (same_ident l.same)))
  postfix_again (g.part vs d t v x h sd st r is) us e =
      let c = cut vs (d ∷ t ∷ []) us (e ∙ ap words is) in
      let k = front c.second d (t ∷ []) c.second_words in
      let l = front k.more t [] k.rest_words in
      got (postfix_again r c.first c.first_words) (λ y dy sy.
      again _ (g.part c.first k.tok l.tok v y h (same_mark _ k.same sd) (same_index l.same st) dy (behind c (onto k (one_left l)))) (rw sy refl))

  pub primary_again : {f : Bool} {ts : List Tok} {x : Expression} {h : ℕ} → IsPrimary f ts x h → (us : List Tok) → words us ≡ words ts
      → Again (λ vs y. IsPrimary f vs y h) erase us (erase x)
  primary_again (g.number t v k s is) us e =
      let l = front us t [] (e ∙ ap words is) in again _ (g.number l.tok v k (same_number l.same s) (one_left l)) refl
  primary_again (g.true_is t s is) us e =
      let l = front us t [] (e ∙ ap words is) in again _ (g.true_is l.tok (same_keyword _ l.same s) (one_left l)) refl
  primary_again (g.false_is t s is) us e =
      let l = front us t [] (e ∙ ap words is) in again _ (g.false_is l.tok (same_keyword _ l.same s) (one_left l)) refl
  primary_again (g.variable t s is) us e =
      let l = front us t [] (e ∙ ap words is) in again _ (g.variable l.tok (l.same.class ∙ s) (one_left l))
      (ap (λ w. plain.var nowhere w) l.same.text)
  primary_again (g.call t o c vs xs h s so sc d is) us e =
      let k = front us t (o ∷ (vs ++ c ∷ [])) (e ∙ ap words is) in
      let l = front k.more o (vs ++ c ∷ []) k.rest_words in
      let z = closed vs c l.more l.rest_words in
      got (arguments_again d z.first z.first_words) (λ y dy sy.
      again _ (g.call k.tok l.tok z.tok z.first y h (k.same.class ∙ s) (same_mark _ l.same so) (same_mark _ z.same sc) dy (onto k (onto l z.is)))
      (ap (λ (i : Ident). plain.call nowhere i (erased_arguments y)) (same_ident k.same) ∙ ap (λ (w : plain.Expressions). plain.call nowhere (erase_ident (ident t)) w) sy))
  primary_again (g.next_input r q n o c sr sq sn so sc is) us e =
      let k = front us r (q ∷ n ∷ o ∷ c ∷ []) (e ∙ ap words is) in
      let l = front k.more q (n ∷ o ∷ c ∷ []) k.rest_words in
      let m = front l.more n (o ∷ c ∷ []) l.rest_words in
      let i = front m.more o (c ∷ []) m.rest_words in
      let j = front i.more c [] i.rest_words in
      again _ (g.next_input k.tok l.tok m.tok i.tok j.tok (same_named _ k.same sr) (same_mark _ l.same sq) (same_named _ m.same sn) (same_mark _ i.same so) (same_mark _ j.same sc)
      (onto k (onto l (onto m (onto i (one_left j)))))) refl
  primary_again (g.variant a q v sa sq sv is) us e =
      let k = front us a (q ∷ v ∷ []) (e ∙ ap words is) in
      let l = front k.more q (v ∷ []) k.rest_words in
      let m = front l.more v [] l.rest_words in
      again _ (g.variant k.tok l.tok m.tok (k.same.class ∙ sa) (same_mark _ l.same sq) (m.same.class ∙ sv) (onto k (onto l (one_left m))))
      (ap (λ (i : Ident). plain.variant nowhere i (erase_ident (ident m.tok)) plain.no_list) (same_ident k.same) ∙ ap (λ (i : Ident). plain.variant nowhere (erase_ident (ident a)) i plain.no_list) (same_ident m.same))
  primary_again (g.variant_with a q v o c vs x xs h sa sq sv so sc d is) us e =
      let k = front us a (q ∷ v ∷ o ∷ (vs ++ c ∷ [])) (e ∙ ap words is) in
      let l = front k.more q (v ∷ o ∷ (vs ++ c ∷ [])) k.rest_words in
      let m = front l.more v (o ∷ (vs ++ c ∷ [])) l.rest_words in
      let i = front m.more o (vs ++ c ∷ []) m.rest_words in
      let z = closed vs c i.more i.rest_words in
      got (arguments_again d z.first z.first_words) (λ y dy sy.
      let w = some_arguments y (erase x) (erase_all (expressions_of xs)) sy in
      again _ (g.variant_with k.tok l.tok m.tok i.tok z.tok z.first w.0 w.1 h (k.same.class ∙ sa) (same_mark _ l.same sq) (m.same.class ∙ sv) (same_mark _ i.same so) (same_mark _ z.same sc)
      (subst (λ ys. AreArguments z.first ys h) w.2 dy) (onto k (onto l (onto m (onto i z.is)))))
      (ap (λ (i : Ident). plain.variant nowhere i (erase_ident (ident m.tok)) (plain.a_list (erased_arguments (w.0 ∷ w.1)))) (same_ident k.same)
      ∙ ap (λ (i : Ident). plain.variant nowhere (erase_ident (ident a)) i (plain.a_list (erased_arguments (w.0 ∷ w.1)))) (same_ident m.same)
      ∙ ap (λ (u : plain.Expressions). plain.variant nowhere (erase_ident (ident a)) (erase_ident (ident v)) (plain.a_list u)) (ap erased_arguments (sym w.2) ∙ sy)))
  primary_again (g.structure n o c vs fs h sn so sc d is) us e =
      let k = front us n (o ∷ (vs ++ c ∷ [])) (e ∙ ap words is) in
      let l = front k.more o (vs ++ c ∷ []) k.rest_words in
      let z = closed vs c l.more l.rest_words in
      got (fields_again d z.first z.first_words) (λ y dy sy.
      again _ (g.structure k.tok l.tok z.tok z.first y h (k.same.class ∙ sn) (same_mark _ l.same so) (same_mark _ z.same sc) dy (onto k (onto l z.is)))
      (ap (λ (i : Ident). plain.make nowhere i (erased_fields y)) (same_ident k.same) ∙ ap (λ (w : plain.FieldExpressions). plain.make nowhere (erase_ident (ident n)) w) sy))
  primary_again (g.print r b o q m c vs x h sr sb so sq sm sc d is) us e =
      let k = front us r (b ∷ o ∷ q ∷ m ∷ (vs ++ c ∷ [])) (e ∙ ap words is) in
      let l = front k.more b (o ∷ q ∷ m ∷ (vs ++ c ∷ [])) k.rest_words in
      let i = front l.more o (q ∷ m ∷ (vs ++ c ∷ [])) l.rest_words in
      let j = front i.more q (m ∷ (vs ++ c ∷ [])) i.rest_words in
      let n = front j.more m (vs ++ c ∷ []) j.rest_words in
      let z = closed vs c n.more n.rest_words in
      got (expression_again d z.first z.first_words) (λ y dy sy.
      again _ (g.print k.tok l.tok i.tok j.tok n.tok z.tok z.first y h (same_named _ k.same sr) (same_mark _ l.same sb) (same_mark _ i.same so) (j.same.class ∙ sq) (same_mark _ n.same sm) (same_mark _ z.same sc) dy
      (onto k (onto l (onto i (onto j (onto n z.is)))))) (rw sy refl))
  primary_again (g.unit o c so sc is) us e =
      let k = front us o (c ∷ []) (e ∙ ap words is) in
      let l = front k.more c [] k.rest_words in
      again _ (g.unit k.tok l.tok (same_mark _ k.same so) (same_mark _ l.same sc) (onto k (one_left l))) refl
  primary_again (g.parentheses o c vs x h so sc d is) us e =
      let k = front us o (vs ++ c ∷ []) (e ∙ ap words is) in
      let z = closed vs c k.more k.rest_words in
      got (expression_again d z.first z.first_words) (λ y dy sy.
      again _ (g.parentheses k.tok z.tok z.first y h (same_mark _ k.same so) (same_mark _ z.same sc) dy (onto k z.is)) sy)
  primary_again (g.tuple o m c ws vs x xs h i so sm sc d r is) us e =
      let k = front us o (ws ++ (m ∷ (vs ++ c ∷ []))) (e ∙ ap words is) in
      let a = cut ws (m ∷ (vs ++ c ∷ [])) k.more k.rest_words in
      let l = front a.second m (vs ++ c ∷ []) a.second_words in
      let z = closed vs c l.more l.rest_words in
      got (expression_again d a.first a.first_words) (λ y dy sy.
      got (arguments_again r z.first z.first_words) (λ w dw sw.
      again _ (g.tuple k.tok l.tok z.tok a.first z.first y w h i (same_mark _ k.same so) (same_mark _ l.same sm) (same_mark _ z.same sc) dy dw
      (onto k (behind a (onto l z.is)))) (rw (sy, sw) refl)))
  primary_again (g.like d) us e = got (like_again d us e) (λ y dy sy. again y (g.like dy) sy)

  pub arguments_again : {ts : List Tok} {xs : List Expression} {h : ℕ} → AreArguments ts xs h → (us : List Tok) → words us ≡ words ts
      → Again (λ vs ys. AreArguments vs ys h) erased_arguments us (erased_arguments xs)
  arguments_again g.no_argument us e = again [] (subst (λ l. AreArguments l [] 0) (sym (none us e)) g.no_argument) refl
  arguments_again (g.last_argument d) us e = got (expression_again d us e) (λ y dy sy. again (y ∷ []) (g.last_argument dy) (rw sy refl))
  arguments_again (g.argument_and a b c x xs m n d s r is) us e =
      let k = cut a (c ∷ b) us (e ∙ ap words is) in
      let l = front k.second c b k.second_words in
      got (expression_again d k.first k.first_words) (λ y dy sy.
      got (arguments_again r l.more l.rest_words) (λ w dw sw.
      again (y ∷ w) (g.argument_and k.first l.more l.tok y w m n dy (same_mark _ l.same s) dw (behind k l.is)) (rw (sy, sw) refl)))

  pub field_again : {ts : List Tok} {x : Ident × Expression} {h : ℕ} → g.IsField ts x h → (us : List Tok) → words us ≡ words ts
      → Again (λ vs y. g.IsField vs y h) erased_field us (erased_field x)
  field_again (g.long_field n c vs x h sn sc d is) us e =
      let k = front us n (c ∷ vs) (e ∙ ap words is) in
      let l = front k.more c vs k.rest_words in
      got (expression_again d l.more l.rest_words) (λ y dy sy.
      again _ (g.long_field k.tok l.tok l.more y h (k.same.class ∙ sn) (same_mark _ l.same sc) dy (onto k l.is))
      (ap (λ (i : Ident). (i, erase y)) (same_ident k.same) ∙ ap (λ (z : Expression). (erase_ident (ident n), z)) sy))
  field_again (g.short_field n sn is) us e =
      let k = front us n [] (e ∙ ap words is) in
      again _ (g.short_field k.tok (k.same.class ∙ sn) (one_left k))
      (ap (λ (w : List ℕ). (record { span = nowhere; name = w }, plain.var nowhere w)) k.same.text)

  pub fields_again : {ts : List Tok} {xs : List (Ident × Expression)} {h : ℕ} → g.AreFields ts xs h → (us : List Tok) → words us ≡ words ts
      → Again (λ vs ys. g.AreFields vs ys h) erased_fields us (erased_fields xs)
  fields_again g.no_field us e = again [] (subst (λ l. g.AreFields l [] 0) (sym (none us e)) g.no_field) refl
  fields_again (g.last_field d) us e = got (field_again d us e) (λ y dy sy. again (y ∷ []) (g.last_field dy)
      (ap (λ (z : Ident × Expression). plain.field_and z.0 z.1 plain.no_field) sy))
  fields_again (g.field_and a b c x xs m n d s r is) us e =
      let k = cut a (c ∷ b) us (e ∙ ap words is) in
      let l = front k.second c b k.second_words in
      got (field_again d k.first k.first_words) (λ y dy sy.
      got (fields_again r l.more l.rest_words) (λ w dw sw.
      again (y ∷ w) (g.field_and k.first l.more l.tok y w m n dy (same_mark _ l.same s) dw (behind k l.is))
      (ap (λ (z : Ident × Expression). plain.field_and z.0 z.1 (erased_fields w)) sy ∙ ap (λ (z : plain.FieldExpressions). plain.field_and (erase_ident x.0) (erase x.1) z) sw)))

  pub expression_again : {ts : List Tok} {x : Expression} {h : ℕ} → IsExpression ts x h → (us : List Tok) → words us ≡ words ts
      → Again (λ vs y. IsExpression vs y h) erase us (erase x)
  expression_again (g.operand d) us e = got (operand_again d us e) (λ y dy sy. again y (g.operand dy) sy)
  expression_again (g.assign a b t l r m n s d q is) us e =
      let c = cut a (t ∷ b) us (e ∙ ap words is) in
      let k = front c.second t b c.second_words in
      got (operand_again d c.first c.first_words) (λ y dy sy.
      got (expression_again q k.more k.rest_words) (λ w dw sw.
      again _ (g.assign c.first k.more k.tok y w m n (same_mark _ k.same s) dy dw (behind c k.is)) (rw (sy, sw) refl)))
  expression_again (g.update a b t o l r m n s d q is) us e =
      let c = cut a (t ∷ b) us (e ∙ ap words is) in
      let k = front c.second t b c.second_words in
      got (operand_again d c.first c.first_words) (λ y dy sy.
      got (expression_again q k.more k.rest_words) (λ w dw sw.
      again _ (g.update c.first k.more k.tok o y w m n (same_update k.same s) dy dw (behind c k.is)) (rw (sy, sw) refl)))
  expression_again (g.return t s is) us e = let k = front us t [] (e ∙ ap words is) in again _ (g.return k.tok (same_keyword _ k.same s) (one_left k)) refl
  expression_again (g.return_with t vs x h s d is) us e =
      let k = front us t vs (e ∙ ap words is) in
      got (expression_again d k.more k.rest_words) (λ y dy sy. again _ (g.return_with k.tok k.more y h (same_keyword _ k.same s) dy k.is) (rw sy refl))
  expression_again (g.break t s is) us e = let k = front us t [] (e ∙ ap words is) in again _ (g.break k.tok (same_keyword _ k.same s) (one_left k)) refl
  expression_again (g.break_from t l s sl is) us e =
      let k = front us t (l ∷ []) (e ∙ ap words is) in
      let m = front k.more l [] k.rest_words in
      again _ (g.break_from k.tok m.tok (same_keyword _ k.same s) (same_lifetime m.same sl) (onto k (one_left m)))
      (ap (λ (i : Ident). plain.break nowhere (Some i)) (same_ident m.same))
  expression_again (g.continue t s is) us e = let k = front us t [] (e ∙ ap words is) in again _ (g.continue k.tok (same_keyword _ k.same s) (one_left k)) refl
  expression_again (g.continue_with t l s sl is) us e =
      let k = front us t (l ∷ []) (e ∙ ap words is) in
      let m = front k.more l [] k.rest_words in
      again _ (g.continue_with k.tok m.tok (same_keyword _ k.same s) (same_lifetime m.same sl) (onto k (one_left m)))
      (ap (λ (i : Ident). plain.continue nowhere (Some i)) (same_ident m.same))

  pub like_again : {ts : List Tok} {x : Expression} {h : ℕ} → g.IsLike ts x h → (us : List Tok) → words us ≡ words ts
      → Again (λ vs y. g.IsLike vs y h) erase us (erase x)
  like_again (g.block c h d) us e = got (block_again d us e) (λ y dy sy. again _ (g.block y h dy) (rw sy refl))
  like_again (g.conditional d) us e = got (if_again d us e) (λ y dy sy. again y (g.conditional dy) sy)
  like_again (g.match t o c ws vs x a more m n st so sc d r is) us e =
      let k = front us t (ws ++ (o ∷ (vs ++ c ∷ []))) (e ∙ ap words is) in
      let b = cut ws (o ∷ (vs ++ c ∷ [])) k.more k.rest_words in
      let l = front b.second o (vs ++ c ∷ []) b.second_words in
      let z = closed vs c l.more l.rest_words in
      got (operand_again d b.first b.first_words) (λ y dy sy.
      got (arms_again r z.first z.first_words) (λ w dw sw.
      let q = some_arms w (erase_pattern a.0) (erase a.1) (erase_arms (arms_of more)) sw in
      again _ (g.match k.tok l.tok z.tok b.first z.first y q.0 q.1 m n (same_keyword _ k.same st) (same_mark _ l.same so) (same_mark _ z.same sc) dy (subst (λ ys. g.AreArms z.first ys n) q.2 dw)
      (onto k (behind b (onto l z.is))))
      (ap (λ (i : Expression). plain.match nowhere i (erased_arms (q.0 ∷ q.1))) sy ∙ ap (λ (i : plain.Arms). plain.match nowhere (erase x) i) (ap erased_arms (sym q.2) ∙ sw))))
  like_again (g.loop ks vs t l b h sl st d is) us e =
      let c = cut ks (t ∷ vs) us (e ∙ ap words is) in
      let k = front c.second t vs c.second_words in
      got (label_again sl c.first c.first_words) (λ i di si.
      got (block_again d k.more k.rest_words) (λ y dy sy.
      again _ (g.loop c.first k.more k.tok i y h di (same_keyword _ k.same st) dy (behind c k.is)) (rw (si, sy) refl)))
  like_again (g.while ks ws vs t l x b m n sl st d r is) us e =
      let c = cut ks (t ∷ (ws ++ vs)) us (e ∙ ap words is) in
      let k = front c.second t (ws ++ vs) c.second_words in
      let q = cut ws vs k.more k.rest_words in
      got (label_again sl c.first c.first_words) (λ i di si.
      got (test_again d q.first q.first_words) (λ y dy sy.
      got (block_again r q.second q.second_words) (λ w dw sw.
      again _ (g.while c.first q.first q.second k.tok i y w m n di (same_keyword _ k.same st) dy dw (behind c (onto k q.is)))
      (while_erased y i w _ ∙ ap (λ (z : Option Ident). g.while_of nowhere z (erased_test y) (erase_body w)) si ∙ ap (λ (z : Test). g.while_of nowhere (erase_label l) z (erase_body w)) sy
      ∙ ap (λ (z : Body). g.while_of nowhere (erase_label l) (erased_test x) z) sw ∙ sym (while_erased x l b _)))))

  pub test_again : {ts : List Tok} {x : Test} {h : ℕ} → g.IsTest ts x h → (us : List Tok) → words us ≡ words ts
      → Again (λ vs y. g.IsTest vs y h) erased_test us (erased_test x)
  test_again (g.test d) us e = got (operand_again d us e) (λ y dy sy. again (g.condition y) (g.test dy) (ap (λ (z : Expression). g.condition z) sy))
  test_again (g.test_pattern t q ps vs p x m n st sq sp d is) us e =
      let k = front us t (ps ++ (q ∷ vs)) (e ∙ ap words is) in
      let c = cut ps (q ∷ vs) k.more k.rest_words in
      let l = front c.second q vs c.second_words in
      got (pattern_again sp c.first c.first_words) (λ w dw sw.
      got (operand_again d l.more l.rest_words) (λ y dy sy.
      again (g.fitting w y) (g.test_pattern k.tok l.tok c.first l.more w y m n (same_keyword _ k.same st) (same_mark _ l.same sq) dw dy (onto k (behind c l.is)))
      (ap (λ (z : PatternTree). g.fitting z (erase y)) sw ∙ ap (λ (z : Expression). g.fitting (erase_pattern p) z) sy)))

  pub if_again : {ts : List Tok} {x : Expression} {h : ℕ} → g.IsIf ts x h → (us : List Tok) → words us ≡ words ts
      → Again (λ vs y. g.IsIf vs y h) erase us (erase x)
  if_again (g.if_alone t ws vs x b m n st d r is) us e =
      let k = front us t (ws ++ vs) (e ∙ ap words is) in
      let q = cut ws vs k.more k.rest_words in
      got (test_again d q.first q.first_words) (λ y dy sy.
      got (block_again r q.second q.second_words) (λ w dw sw.
      again _ (g.if_alone k.tok q.first q.second y w m n (same_keyword _ k.same st) dy dw (onto k q.is))
      (if_erased y w plain.absent _ ∙ ap (λ (z : Test). g.if_of nowhere z (erase_body w) plain.absent) sy ∙ ap (λ (z : Body). g.if_of nowhere (erased_test x) z plain.absent) sw ∙ sym (if_erased x b plain.absent _))))
  if_again (g.if_else t l ws vs rs x y b m n j st sl d r o is) us e =
      let k = front us t (ws ++ (vs ++ (l ∷ rs))) (e ∙ ap words is) in
      let q = cut ws (vs ++ (l ∷ rs)) k.more k.rest_words in
      let p = cut vs (l ∷ rs) q.second q.second_words in
      let i = front p.second l rs p.second_words in
      got (test_again d q.first q.first_words) (λ z dz sz.
      got (block_again r p.first p.first_words) (λ w dw sw.
      got (else_again o i.more i.rest_words) (λ v dv sv.
      again _ (g.if_else k.tok i.tok q.first p.first i.more z v w m n j (same_keyword _ k.same st) (same_keyword _ i.same sl) dz dw dv (onto k (behind q (behind p i.is))))
      (if_erased z w (plain.present v) _ ∙ ap (λ (a : Test). g.if_of nowhere a (erase_body w) (plain.present (erase v))) sz ∙ ap (λ (a : Body). g.if_of nowhere (erased_test x) a (plain.present (erase v))) sw
      ∙ ap (λ (a : Expression). g.if_of nowhere (erased_test x) (erase_body b) (plain.present a)) sv ∙ sym (if_erased x b (plain.present y) _)))))

  pub else_again : {ts : List Tok} {x : Expression} {h : ℕ} → g.IsElse ts x h → (us : List Tok) → words us ≡ words ts
      → Again (λ vs y. g.IsElse vs y h) erase us (erase x)
  else_again (g.else_block c h d) us e = got (block_again d us e) (λ y dy sy. again _ (g.else_block y h dy) (rw sy refl))
  else_again (g.else_if d) us e = got (if_again d us e) (λ y dy sy. again y (g.else_if dy) sy)

  pub arms_again : {ts : List Tok} {xs : List (PatternTree × Expression)} {h : ℕ} → g.AreArms ts xs h → (us : List Tok) → words us ≡ words ts
      → Again (λ vs ys. g.AreArms vs ys h) erased_arms us (erased_arms xs)
  arms_again g.no_arm us e = again [] (subst (λ l. g.AreArms l [] 0) (sym (none us e)) g.no_arm) refl
  arms_again (g.like_arm a ps ws vs p x more m n k sp sa d r is) us e =
      let c = cut ps (a ∷ (ws ++ vs)) us (e ∙ ap words is) in
      let l = front c.second a (ws ++ vs) c.second_words in
      let q = cut ws vs l.more l.rest_words in
      got (pattern_again sp c.first c.first_words) (λ z dz sz.
      got (like_again d q.first q.first_words) (λ y dy sy.
      got (arms_again r q.second q.second_words) (λ w dw sw.
      again ((z, y) ∷ w) (g.like_arm l.tok c.first q.first q.second z y w m n k dz (same_mark _ l.same sa) dy dw (behind c (onto l q.is))) (rw (sz, sy, sw) refl))))
  arms_again (g.like_arm_and a b ps ws vs p x more m n k sp sa d sb r is) us e =
      let c = cut ps (a ∷ (ws ++ (b ∷ vs))) us (e ∙ ap words is) in
      let l = front c.second a (ws ++ (b ∷ vs)) c.second_words in
      let q = cut ws (b ∷ vs) l.more l.rest_words in
      let i = front q.second b vs q.second_words in
      got (pattern_again sp c.first c.first_words) (λ z dz sz.
      got (like_again d q.first q.first_words) (λ y dy sy.
      got (arms_again r i.more i.rest_words) (λ w dw sw.
      again ((z, y) ∷ w) (g.like_arm_and l.tok i.tok c.first q.first i.more z y w m n k dz (same_mark _ l.same sa) dy (same_mark _ i.same sb) dw (behind c (onto l (behind q i.is)))) (rw (sz, sy, sw) refl))))
  arms_again (g.arm_and a b ps ws vs p x more m n k sp sa d nb sb r is) us e =
      let c = cut ps (a ∷ (ws ++ (b ∷ vs))) us (e ∙ ap words is) in
      let l = front c.second a (ws ++ (b ∷ vs)) c.second_words in
      let q = cut ws (b ∷ vs) l.more l.rest_words in
      let i = front q.second b vs q.second_words in
      got (pattern_again sp c.first c.first_words) (λ z dz sz.
      got (expression_again d q.first q.first_words) (λ y dy sy.
      got (arms_again r i.more i.rest_words) (λ w dw sw.
      again ((z, y) ∷ w) (g.arm_and l.tok i.tok c.first q.first i.more z y w m n k dz (same_mark _ l.same sa) dy (λ g. nb (begins_again q.first ws q.first_words g)) (same_mark _ i.same sb) dw (behind c (onto l (behind q i.is)))) (rw (sz, sy, sw) refl))))
  arms_again (g.last_arm a ps ws p x m n sp sa d nb is) us e =
      let c = cut ps (a ∷ ws) us (e ∙ ap words is) in
      let l = front c.second a ws c.second_words in
      got (pattern_again sp c.first c.first_words) (λ z dz sz.
      got (expression_again d l.more l.rest_words) (λ y dy sy.
      again ((z, y) ∷ []) (g.last_arm l.tok c.first l.more z y m n dz (same_mark _ l.same sa) dy (λ g. nb (begins_again l.more ws l.rest_words g)) (behind c l.is)) (rw (sz, sy) refl)))

  pub block_again : {ts : List Tok} {x : Body} {h : ℕ} → g.IsBlock ts x h → (us : List Tok) → words us ≡ words ts
      → Again (λ vs y. g.IsBlock vs y h) erase_body us (erase_body x)
  block_again (g.braces o c vs ss y h so sc d is) us e =
      let k = front us o (vs ++ c ∷ []) (e ∙ ap words is) in
      let z = closed vs c k.more k.rest_words in
      got (statements_again d z.first z.first_words) (λ w dw sw.
      again _ (g.braces k.tok z.tok z.first w.0 w.1 h (same_mark _ k.same so) (same_mark _ z.same sc) dw (onto k z.is))
      (ap (λ (z : plain.Statements × OptionalExpression). plain.body nowhere z.0 z.1) sw))

  pub statement_again : {ts : List Tok} {x : Statement} {h : ℕ} → g.IsStatement ts x h → (us : List Tok) → words us ≡ words ts
      → Again (λ vs y. g.IsStatement vs y h) erase_statement us (erase_statement x)
  statement_again (g.let_with t q z ps ys vs p y x m n k st sq sz sp sy d is) us e =
      let a = front us t (ps ++ (ys ++ (q ∷ (vs ++ z ∷ [])))) (e ∙ ap words is) in
      let b = cut ps (ys ++ (q ∷ (vs ++ z ∷ []))) a.more a.rest_words in
      let c = cut ys (q ∷ (vs ++ z ∷ [])) b.second b.second_words in
      let l = front c.second q (vs ++ z ∷ []) c.second_words in
      let f = closed vs z l.more l.rest_words in
      got (pattern_again sp b.first b.first_words) (λ w dw sw.
      got (annotation_again sy c.first c.first_words) (λ i di si.
      got (expression_again d f.first f.first_words) (λ j dj sj.
      again _ (g.let_with a.tok l.tok f.tok b.first c.first f.first w i j m n k (same_keyword _ a.same st) (same_mark _ l.same sq) (same_mark _ f.same sz) dw di dj
      (onto a (behind b (behind c (onto l f.is))))) (rw (sw, si, sj) refl))))
  statement_again (g.let_without t n z ms ys m y h st sn sz sm sy is) us e =
      let a = front us t ((ms ++ n ∷ []) ++ (ys ++ z ∷ [])) (e ∙ ap words is) in
      let b = cut (ms ++ n ∷ []) (ys ++ z ∷ []) a.more a.rest_words in
      let i = closed ms n b.first b.first_words in
      let f = closed ys z b.second b.second_words in
      got (annotation_again sy f.first f.first_words) (λ j dj sj.
      again _ (g.let_without a.tok i.tok f.tok i.first f.first m j h (same_keyword _ a.same st) (i.same.class ∙ sn) (same_mark _ f.same sz) (same_mutability sm i.first i.first_words) dj
      (onto a (b.is ∙ ap (λ u. u ++ b.second) i.is ∙ ap (λ u. (i.first ++ i.tok ∷ []) ++ u) f.is)))
      (ap (λ (w : Ident). plain.let_statement nowhere (plain.bind nowhere w m) (option_map erase_type j) plain.absent) (same_ident i.same) ∙ ap (λ (w : Option TypeTree). plain.let_statement nowhere (plain.bind nowhere (erase_ident (ident n)) m) w plain.absent) sj))
  statement_again (g.done z vs x h sz d nb is) us e =
      let f = closed vs z us (e ∙ ap words is) in
      got (expression_again d f.first f.first_words) (λ y dy sy. again _ (g.done f.tok f.first y h (same_mark _ f.same sz) dy (λ g. nb (begins_again f.first vs f.first_words g)) f.is) (rw sy refl))
  statement_again (g.done_like z vs x h sz d is) us e =
      let f = closed vs z us (e ∙ ap words is) in
      got (like_again d f.first f.first_words) (λ y dy sy. again _ (g.done_like f.tok f.first y h (same_mark _ f.same sz) dy f.is) (rw sy refl))

  pub statements_again : {ts : List Tok} {ss : List Statement} {y : OptionalExpression} {h : ℕ} → g.AreStatements ts ss y h → (us : List Tok) → words us ≡ words ts
      → Again (λ vs (p : Within). g.AreStatements vs p.0 p.1 h) erased_within us (erase_statements (statements_of ss), erase_optional y)
  statements_again g.end us e = again ([], plain.absent) (subst (λ l. g.AreStatements l [] plain.absent 0) (sym (none us e)) g.end) refl
  statements_again {ts = ts} (g.tail d nb) us e =
      got (expression_again d us e) (λ y dy sy. again ([], plain.present y) (g.tail dy (λ g. nb (begins_again us ts e g)))
      (ap (λ (z : Expression). (plain.no_statement, plain.present z)) sy))
  statements_again (g.tail_like d) us e = got (like_again d us e) (λ y dy sy. again ([], plain.present y) (g.tail_like dy)
      (ap (λ (z : Expression). (plain.no_statement, plain.present z)) sy))
  statements_again (g.statement_and a b x ss y m n d r is) us e =
      let c = cut a b us (e ∙ ap words is) in
      got (statement_again d c.first c.first_words) (λ i di si.
      got (statements_again r c.second c.second_words) (λ w dw sw.
      again (i ∷ w.0, w.1) (g.statement_and c.first c.second i w.0 w.1 m n di dw c.is)
      (ap (λ (z : Statement). (plain.statement_and z (erase_statements (statements_of w.0)), erase_optional w.1)) si ∙ ap (λ (z : plain.Statements × OptionalExpression). (plain.statement_and (erase_statement x) z.0, z.1)) sw)))
  statements_again (g.like_and a b x ss y m n d r ne is) us e =
      let c = cut a b us (e ∙ ap words is) in
      got (like_again d c.first c.first_words) (λ i di si.
      got (statements_again r c.second c.second_words) (λ w dw sw.
      again (plain.expression_statement (span_of c.first) i false ∷ w.0, w.1) (g.like_and c.first c.second i w.0 w.1 m n di dw (some_again c.second b c.second_words ne) c.is)
      (ap (λ (z : Expression). (plain.statement_and (plain.expression_statement nowhere z false) (erase_statements (statements_of w.0)), erase_optional w.1)) si
      ∙ ap (λ (z : plain.Statements × OptionalExpression). (plain.statement_and (plain.expression_statement nowhere (erase x) false) z.0, z.1)) sw)))
