-- Patterns speak of words alone: by induction on the derivation, each production again with the tokens that stand in its places.
use Rattle.std.proofs.Common.{◌≡◌, ℕ, true, false, List, [], ◌∷◌, ◌++◌, refl, sym, ap, subst, ◌∙◌}
use Rattle.rx_tree.specs.declared.tree.Ident.{Ident}
use Rattle.rx_tree.specs.Plain as plain
use Rattle.rx_tree.specs.Plain.{PatternTree}
use Rattle.rx_tree.specs.PlainOf.{patterns_of}
use Rattle.rx_tree.specs.Erase.{nowhere, erase_ident, erase_pattern, erase_patterns}
use Rattle.rx_lex.specs.Tok.{Tok}
use Rattle.rx_parse_grammar.specs.grammar.Words.{ident}
use Rattle.rx_parse_grammar.specs.grammar.Patterns as p
use Rattle.rx_parse_laws.specs.Words.{words}
use Rattle.rx_parse_laws.specs.Parts.{erased_patterns, erased_field_pattern, erased_field_patterns}
use Rattle.rx_parse_laws.proofs.SameWords.{Again, again, got, front, cut, closed, none, one_left, onto, behind, same_mark, same_keyword, same_number, same_ident}

some_patterns : (zs : List PatternTree) (a : PatternTree) (more : plain.PatternTrees) → erased_patterns zs ≡ plain.pattern_and a more
    → (z : PatternTree) × (ws : List PatternTree) × (zs ≡ z ∷ ws)
some_patterns [] a more e = absurd (cc)
some_patterns (z ∷ ws) a more e = (z, ws, refl)

mutual
  pub pattern_again : {ts : List Tok} {x : PatternTree} {h : ℕ} → p.IsPattern ts x h → (us : List Tok) → words us ≡ words ts
      → Again (λ vs y. p.IsPattern vs y h) erase_pattern us (erase_pattern x)
  pattern_again (p.wild t s is) us e = let k = front us t [] (e ∙ ap words is) in again _ (p.wild k.tok (same_mark _ k.same s) (one_left k)) refl
  pattern_again (p.binding n s is) us e = let k = front us n [] (e ∙ ap words is) in again _ (p.binding k.tok (k.same.class ∙ s) (one_left k))
      (ap (λ (i : Ident). plain.bind nowhere i false) (same_ident k.same))
  pattern_again (p.mutable_binding m n s r is) us e =
      let k = front us m (n ∷ []) (e ∙ ap words is) in
      let l = front k.more n [] k.rest_words in
      again _ (p.mutable_binding k.tok l.tok (same_keyword _ k.same s) (l.same.class ∙ r) (onto k (one_left l)))
      (ap (λ (i : Ident). plain.bind nowhere i true) (same_ident l.same))
  pattern_again (p.number t v j s is) us e = let k = front us t [] (e ∙ ap words is) in again _ (p.number k.tok v j (same_number k.same s) (one_left k)) refl
  pattern_again (p.negative m t v j s r is) us e =
      let k = front us m (t ∷ []) (e ∙ ap words is) in
      let l = front k.more t [] k.rest_words in
      again _ (p.negative k.tok l.tok v j (same_mark _ k.same s) (same_number l.same r) (onto k (one_left l))) refl
  pattern_again (p.true_is t s is) us e = let k = front us t [] (e ∙ ap words is) in again _ (p.true_is k.tok (same_keyword _ k.same s) (one_left k)) refl
  pattern_again (p.false_is t s is) us e = let k = front us t [] (e ∙ ap words is) in again _ (p.false_is k.tok (same_keyword _ k.same s) (one_left k)) refl
  pattern_again (p.unit o c so sc is) us e =
      let k = front us o (c ∷ []) (e ∙ ap words is) in
      let l = front k.more c [] k.rest_words in
      again _ (p.unit k.tok l.tok (same_mark _ k.same so) (same_mark _ l.same sc) (onto k (one_left l))) refl
  pattern_again (p.parentheses o c vs x h so sc d is) us e =
      let k = front us o (vs ++ c ∷ []) (e ∙ ap words is) in
      let z = closed vs c k.more k.rest_words in
      got (pattern_again d z.first z.first_words) (λ y dy sy. again _ (p.parentheses k.tok z.tok z.first y h (same_mark _ k.same so) (same_mark _ z.same sc) dy (onto k z.is)) sy)
  pattern_again (p.tuple o m c ws vs x xs h i so sm sc d r is) us e =
      let k = front us o (ws ++ (m ∷ (vs ++ c ∷ []))) (e ∙ ap words is) in
      let a = cut ws (m ∷ (vs ++ c ∷ [])) k.more k.rest_words in
      let l = front a.second m (vs ++ c ∷ []) a.second_words in
      let z = closed vs c l.more l.rest_words in
      got (pattern_again d a.first a.first_words) (λ y dy sy.
      got (patterns_again r z.first z.first_words) (λ w dw sw.
      again _ (p.tuple k.tok l.tok z.tok a.first z.first y w h i (same_mark _ k.same so) (same_mark _ l.same sm) (same_mark _ z.same sc) dy dw
      (onto k (behind a (onto l z.is)))) (rw (sy, sw) refl)))
  pattern_again (p.variant a q v sa sq sv is) us e =
      let k = front us a (q ∷ v ∷ []) (e ∙ ap words is) in
      let l = front k.more q (v ∷ []) k.rest_words in
      let m = front l.more v [] l.rest_words in
      again _ (p.variant k.tok l.tok m.tok (k.same.class ∙ sa) (same_mark _ l.same sq) (m.same.class ∙ sv) (onto k (onto l (one_left m))))
      (ap (λ (i : Ident). plain.variant_pattern nowhere i (erase_ident (ident m.tok)) plain.no_pattern) (same_ident k.same) ∙ ap (λ (i : Ident). plain.variant_pattern nowhere (erase_ident (ident a)) i plain.no_pattern) (same_ident m.same))
  pattern_again (p.variant_with a q v o c vs x xs h sa sq sv so sc d is) us e =
      let k = front us a (q ∷ v ∷ o ∷ (vs ++ c ∷ [])) (e ∙ ap words is) in
      let l = front k.more q (v ∷ o ∷ (vs ++ c ∷ [])) k.rest_words in
      let m = front l.more v (o ∷ (vs ++ c ∷ [])) l.rest_words in
      let i = front m.more o (vs ++ c ∷ []) m.rest_words in
      let z = closed vs c i.more i.rest_words in
      got (patterns_again d z.first z.first_words) (λ y dy sy.
      let w = some_patterns y (erase_pattern x) (erase_patterns (patterns_of xs)) sy in
      again _ (p.variant_with k.tok l.tok m.tok i.tok z.tok z.first w.0 w.1 h (k.same.class ∙ sa) (same_mark _ l.same sq) (m.same.class ∙ sv) (same_mark _ i.same so) (same_mark _ z.same sc)
      (subst (λ ys. p.ArePatterns z.first ys h) w.2 dy) (onto k (onto l (onto m (onto i z.is)))))
      (ap (λ (i : Ident). plain.variant_pattern nowhere i (erase_ident (ident m.tok)) (erased_patterns (w.0 ∷ w.1))) (same_ident k.same)
      ∙ ap (λ (i : Ident). plain.variant_pattern nowhere (erase_ident (ident a)) i (erased_patterns (w.0 ∷ w.1))) (same_ident m.same)
      ∙ ap (λ (u : plain.PatternTrees). plain.variant_pattern nowhere (erase_ident (ident a)) (erase_ident (ident v)) u) (ap erased_patterns (sym w.2) ∙ sy)))
  pattern_again (p.structure n o c vs fs h sn so sc d is) us e =
      let k = front us n (o ∷ (vs ++ c ∷ [])) (e ∙ ap words is) in
      let l = front k.more o (vs ++ c ∷ []) k.rest_words in
      let z = closed vs c l.more l.rest_words in
      got (fields_again d z.first z.first_words) (λ y dy sy.
      again _ (p.structure k.tok l.tok z.tok z.first y h (k.same.class ∙ sn) (same_mark _ l.same so) (same_mark _ z.same sc) dy (onto k (onto l z.is)))
      (ap (λ (i : Ident). plain.make_pattern nowhere i (erased_field_patterns y)) (same_ident k.same) ∙ ap (λ (w : plain.FieldPatterns). plain.make_pattern nowhere (erase_ident (ident n)) w) sy))

  pub patterns_again : {ts : List Tok} {xs : List PatternTree} {h : ℕ} → p.ArePatterns ts xs h → (us : List Tok) → words us ≡ words ts
      → Again (λ vs ys. p.ArePatterns vs ys h) erased_patterns us (erased_patterns xs)
  patterns_again p.no_pattern us e = again [] (subst (λ l. p.ArePatterns l [] 0) (sym (none us e)) p.no_pattern) refl
  patterns_again (p.last_pattern d) us e = got (pattern_again d us e) (λ y dy sy. again (y ∷ []) (p.last_pattern dy) (rw sy refl))
  patterns_again (p.pattern_and a b c x xs m n d s r is) us e =
      let k = cut a (c ∷ b) us (e ∙ ap words is) in
      let l = front k.second c b k.second_words in
      got (pattern_again d k.first k.first_words) (λ y dy sy.
      got (patterns_again r l.more l.rest_words) (λ w dw sw.
      again (y ∷ w) (p.pattern_and k.first l.more l.tok y w m n dy (same_mark _ l.same s) dw (behind k l.is)) (rw (sy, sw) refl)))

  pub field_again : {ts : List Tok} {x : Ident × PatternTree} {h : ℕ} → p.IsFieldPattern ts x h → (us : List Tok) → words us ≡ words ts
      → Again (λ vs y. p.IsFieldPattern vs y h) erased_field_pattern us (erased_field_pattern x)
  field_again (p.field n c vs x h sn sc d is) us e =
      let k = front us n (c ∷ vs) (e ∙ ap words is) in
      let l = front k.more c vs k.rest_words in
      got (pattern_again d l.more l.rest_words) (λ y dy sy.
      again _ (p.field k.tok l.tok l.more y h (k.same.class ∙ sn) (same_mark _ l.same sc) dy (onto k l.is))
      (ap (λ (i : Ident). (i, erase_pattern y)) (same_ident k.same) ∙ ap (λ (z : PatternTree). (erase_ident (ident n), z)) sy))
  field_again (p.short_field n sn is) us e =
      let k = front us n [] (e ∙ ap words is) in
      again _ (p.short_field k.tok (k.same.class ∙ sn) (one_left k)) (ap (λ (i : Ident). (i, plain.bind nowhere i false)) (same_ident k.same))
  field_again (p.short_mutable m n s sn is) us e =
      let k = front us m (n ∷ []) (e ∙ ap words is) in
      let l = front k.more n [] k.rest_words in
      again _ (p.short_mutable k.tok l.tok (same_keyword _ k.same s) (l.same.class ∙ sn) (onto k (one_left l)))
      (ap (λ (i : Ident). (i, plain.bind nowhere i true)) (same_ident l.same))

  pub fields_again : {ts : List Tok} {xs : List (Ident × PatternTree)} {h : ℕ} → p.AreFieldPatterns ts xs h → (us : List Tok) → words us ≡ words ts
      → Again (λ vs ys. p.AreFieldPatterns vs ys h) erased_field_patterns us (erased_field_patterns xs)
  fields_again p.no_field us e = again [] (subst (λ l. p.AreFieldPatterns l [] 0) (sym (none us e)) p.no_field) refl
  fields_again (p.last_field d) us e = got (field_again d us e) (λ y dy sy. again (y ∷ []) (p.last_field dy)
      (ap (λ (z : Ident × PatternTree). plain.field_pattern_and z.0 z.1 plain.no_field_pattern) sy))
  fields_again (p.field_and a b c x xs m n d s r is) us e =
      let k = cut a (c ∷ b) us (e ∙ ap words is) in
      let l = front k.second c b k.second_words in
      got (field_again d k.first k.first_words) (λ y dy sy.
      got (fields_again r l.more l.rest_words) (λ w dw sw.
      again (y ∷ w) (p.field_and k.first l.more l.tok y w m n dy (same_mark _ l.same s) dw (behind k l.is))
      (ap (λ (z : Ident × PatternTree). plain.field_pattern_and z.0 z.1 (erased_field_patterns w)) sy ∙ ap (λ (z : plain.FieldPatterns). plain.field_pattern_and (erase_ident x.0) (erase_pattern x.1) z) sw)))
