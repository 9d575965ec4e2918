-- Types speak of words alone: by induction on the derivation, each production again with the tokens that stand in its places.
use Rattle.std.proofs.Common.{◌≡◌, ℕ, List, [], ◌∷◌, ◌++◌, Option, Some, None, codes, refl, sym, ap, subst, ◌∙◌}
use Rattle.std.specs.Prelude.{option_map, map}
use Rattle.rx_tree.specs.declared.tree.Ident.{Ident}
use Rattle.rx_tree.specs.Plain as plain
use Rattle.rx_tree.specs.Plain.{TypeTree}
use Rattle.rx_tree.specs.Erase.{nowhere, erase_ident, erase_label, erase_type}
use Rattle.rx_lex.specs.Tok.{Tok}
use Rattle.rx_lex.specs.declared.token.Class.TheVariants as class
use Rattle.rx_parse_grammar.specs.grammar.Words.{IsListOf, ident, second_ampersand}
use Rattle.rx_parse_grammar.specs.grammar.Types as t
use Rattle.rx_parse_grammar.specs.grammar.Expressions as g
use Rattle.rx_parse_laws.specs.Words.{words}
use Rattle.rx_parse_laws.specs.Parts.{erased_types}
use Rattle.rx_parse_laws.proofs.SameWords.{Again, again, got, front, cut, closed, none, one_left, onto, behind, list_again, some_element, same_mark, same_keyword, same_lifetime, same_anonymous, same_ident, same_mutability}

abbrev labels_view : List (Option Ident) → List (Option Ident)
labels_view ls = map erase_label ls

pub argument_again : {ts : List Tok} {l : Option Ident} {h : ℕ} → t.IsLifetimeArgument ts l h → (us : List Tok) → words us ≡ words ts
    → Again (λ vs y. t.IsLifetimeArgument vs y h) erase_label us (erase_label l)
argument_again (t.anonymous_argument a m) us e =
    let k = front us a [] e in again None (subst (λ x. t.IsLifetimeArgument x None 0) (sym (one_left k)) (t.anonymous_argument k.tok (same_anonymous k.same m))) refl
argument_again (t.lifetime_argument a m) us e =
    let k = front us a [] e in
    again (Some (ident k.tok)) (subst (λ x. t.IsLifetimeArgument x (Some (ident k.tok)) 0) (sym (one_left k)) (t.lifetime_argument k.tok (same_lifetime k.same m)))
    (ap (λ (i : Ident). Some i) (same_ident k.same))

pub reference_again : {ts : List Tok} {l : Option Ident} → t.IsReferenceLifetime ts l → (us : List Tok) → words us ≡ words ts
    → Again t.IsReferenceLifetime erase_label us (erase_label l)
reference_again t.no_lifetime us e = again None (subst (λ x. t.IsReferenceLifetime x None) (sym (none us e)) t.no_lifetime) refl
reference_again (t.anonymous a m) us e =
    let k = front us a [] e in again None (subst (λ x. t.IsReferenceLifetime x None) (sym (one_left k)) (t.anonymous k.tok (same_anonymous k.same m))) refl
reference_again (t.lifetime a m) us e =
    let k = front us a [] e in
    again (Some (ident k.tok)) (subst (λ x. t.IsReferenceLifetime x (Some (ident k.tok))) (sym (one_left k)) (t.lifetime k.tok (same_lifetime k.same m)))
    (ap (λ (i : Ident). Some i) (same_ident k.same))

mutual
  pub type_again : {ts : List Tok} {y : TypeTree} {h : ℕ} → t.IsType ts y h → (us : List Tok) → words us ≡ words ts
      → Again (λ vs z. t.IsType vs z h) erase_type us (erase_type y)
  type_again (t.kind a k s is) us e = let l = front us a [] (e ∙ ap words is) in again _ (t.kind l.tok k (same_keyword _ l.same s) (one_left l)) refl
  type_again (t.bool a s is) us e = let l = front us a [] (e ∙ ap words is) in again _ (t.bool l.tok (same_keyword _ l.same s) (one_left l)) refl
  type_again (t.named a s is) us e = let l = front us a [] (e ∙ ap words is) in again _ (t.named l.tok (l.same.class ∙ s) (one_left l))
      (ap (λ (i : Ident). plain.named_type nowhere i None) (same_ident l.same))
  type_again (t.named_with a o c vs x xs s so sc d is) us e =
      let k = front us a (o ∷ (vs ++ c ∷ [])) (e ∙ ap words is) in
      let l = front k.more o (vs ++ c ∷ []) k.rest_words in
      let z = closed vs c l.more l.rest_words in
      got (list_again erase_label (λ ts x h d. argument_again d) d z.first z.first_words) (λ y dy sy.
      let w = some_element erase_label y (erase_label x) (labels_view xs) sy in
      again _ (t.named_with k.tok l.tok z.tok z.first w.0 w.1 (k.same.class ∙ s) (same_mark _ l.same so) (same_mark _ z.same sc) (subst (λ ys. IsListOf t.IsLifetimeArgument z.first ys 0) w.2 dy) (onto k (onto l z.is)))
      (ap (λ (i : Ident). plain.named_type nowhere i (Some (labels_view (w.0 ∷ w.1)))) (same_ident k.same) ∙ ap (λ (u : List (Option Ident)). plain.named_type nowhere (erase_ident (ident a)) (Some u)) (ap labels_view (sym w.2) ∙ sy)))
  type_again (t.reference a ls ms vs l m y h s sl sm d is) us e =
      let k = front us a (ls ++ (ms ++ vs)) (e ∙ ap words is) in
      let b = cut ls (ms ++ vs) k.more k.rest_words in
      let c = cut ms vs b.second b.second_words in
      got (reference_again sl b.first b.first_words) (λ i di si.
      got (type_again d c.second c.second_words) (λ z dz sz.
      again _ (t.reference k.tok b.first c.first c.second i m z h (same_mark _ k.same s) di (same_mutability sm c.first c.first_words) dz (onto k (behind b c.is))) (rw (si, sz) refl)))
  type_again (t.two_references a vs y h s d is) us e =
      let k = front us a vs (e ∙ ap words is) in
      got (type_again d (second_ampersand k.tok ∷ k.more)
      (ap (λ l. (class.Mark, codes "&") ∷ l) k.rest_words)) (λ z dz sz. again _ (t.two_references k.tok k.more z h (same_mark _ k.same s) dz k.is) (rw sz refl))
  type_again (t.unit o c so sc is) us e =
      let k = front us o (c ∷ []) (e ∙ ap words is) in
      let l = front k.more c [] k.rest_words in
      again _ (t.unit k.tok l.tok (same_mark _ k.same so) (same_mark _ l.same sc) (onto k (one_left l))) refl
  type_again (t.parentheses o c vs x h so sc d is) us e =
      let k = front us o (vs ++ c ∷ []) (e ∙ ap words is) in
      let z = closed vs c k.more k.rest_words in
      got (type_again d z.first z.first_words) (λ y dy sy. again _ (t.parentheses k.tok z.tok z.first y h (same_mark _ k.same so) (same_mark _ z.same sc) dy (onto k z.is)) sy)
  type_again (t.tuple o m c ws vs x xs h i so sm sc d r is) us e =
      let k = front us o (ws ++ (m ∷ (vs ++ c ∷ []))) (e ∙ ap words is) in
      let a = cut ws (m ∷ (vs ++ c ∷ [])) k.more k.rest_words in
      let l = front a.second m (vs ++ c ∷ []) a.second_words in
      let z = closed vs c l.more l.rest_words in
      got (type_again d a.first a.first_words) (λ y dy sy.
      got (types_again r z.first z.first_words) (λ w dw sw.
      again _ (t.tuple k.tok l.tok z.tok a.first z.first y w h i (same_mark _ k.same so) (same_mark _ l.same sm) (same_mark _ z.same sc) dy dw
      (onto k (behind a (onto l z.is)))) (rw (sy, sw) refl)))

  pub types_again : {ts : List Tok} {xs : List TypeTree} {h : ℕ} → t.AreTypes ts xs h → (us : List Tok) → words us ≡ words ts
      → Again (λ vs ys. t.AreTypes vs ys h) erased_types us (erased_types xs)
  types_again t.no_type us e = again [] (subst (λ l. t.AreTypes l [] 0) (sym (none us e)) t.no_type) refl
  types_again (t.last_type d) us e = got (type_again d us e) (λ y dy sy. again (y ∷ []) (t.last_type dy) (rw sy refl))
  types_again (t.type_and a b c x xs m n d s r is) us e =
      let k = cut a (c ∷ b) us (e ∙ ap words is) in
      let l = front k.second c b k.second_words in
      got (type_again d k.first k.first_words) (λ y dy sy.
      got (types_again r l.more l.rest_words) (λ w dw sw.
      again (y ∷ w) (t.type_and k.first l.more l.tok y w m n dy (same_mark _ l.same s) dw (behind k l.is)) (rw (sy, sw) refl)))

pub annotation_again : {ts : List Tok} {y : Option TypeTree} {h : ℕ} → g.IsAnnotation ts y h → (us : List Tok) → words us ≡ words ts
    → Again (λ vs z. g.IsAnnotation vs z h) (option_map erase_type) us (option_map erase_type y)
annotation_again g.no_type us e = again None (subst (λ l. g.IsAnnotation l None 0) (sym (none us e)) g.no_type) refl
annotation_again (g.with_type c vs y h sc d is) us e =
    let k = front us c vs (e ∙ ap words is) in
    got (type_again d k.more k.rest_words) (λ z dz sz. again (Some z) (g.with_type k.tok k.more z h (same_mark _ k.same sc) dz k.is)
    (ap (λ (w : TypeTree). Some w) sz))
