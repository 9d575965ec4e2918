-- Items and files speak of words alone: by induction on the derivation, each production again with the tokens that stand in its places.
-- Derives have no spans, so they are the same.
use Rattle.std.proofs.Common.{◌≡◌, ℕ, Bool, List, [], ◌∷◌, ◌++◌, Option, Some, None, refl, sym, ap, subst, ◌∙◌, map}
use Rattle.std.specs.Prelude.{option_map}
use Rattle.rx_tree.specs.declared.tree.Ident.{Ident}
use Rattle.rx_tree.specs.declared.tree.Derive.{Derive}
use Rattle.rx_tree.specs.declared.tree.Derive.TheVariants.{Clone, Copy}
use Rattle.rx_tree.specs.declared.tree.BoundLifetime.{BoundLifetime}
use Rattle.rx_tree.specs.Plain as plain
use Rattle.rx_tree.specs.Plain.{TypeTree, TypeTrees, Body, Parameter, FieldOf, VariantOf, ItemTree, ProgramTree}
use Rattle.rx_tree.specs.Erase.{nowhere, erase_ident, erase_type, erase_body, erase_lifetime, erase_parameter, erase_field, erase_variant, erase_item, erase_program}
use Rattle.rx_lex.specs.Tok.{Tok}
use Rattle.rx_parse_grammar.specs.grammar.Words.{IsListOf, no_element, last_element, element, ident}
use Rattle.rx_parse_grammar.specs.grammar.Items as i
use Rattle.rx_parse_laws.specs.Words.{words}
use Rattle.rx_parse_laws.specs.Parts.{erased_types}
use Rattle.rx_parse_laws.proofs.SameWords.{Again, again, got, front, cut, closed, none, one_left, onto, behind, list_again, some_element, same_mark, same_keyword, same_named, same_lifetime, same_ident, same_mutability}
use Rattle.rx_parse_laws.proofs.TypesAgain.{type_again, types_again}
use Rattle.rx_parse_laws.proofs.ExpressionsAgain.{block_again}

-- ---- derives

pub derived_same : {ts : List Tok} {x : Derive} {h : ℕ} → i.IsDerivedName ts x h → (us : List Tok) → words us ≡ words ts → i.IsDerivedName us x h
derived_same (i.clone t s) us e =
    let k = front us t [] e in subst (λ l. i.IsDerivedName l Clone 0) (sym (one_left k)) (i.clone k.tok (same_named _ k.same s))
derived_same (i.copy t s) us e =
    let k = front us t [] e in subst (λ l. i.IsDerivedName l Copy 0) (sym (one_left k)) (i.copy k.tok (same_named _ k.same s))

pub derived_names_same : {ts : List Tok} {xs : List Derive} {h : ℕ} → IsListOf i.IsDerivedName ts xs h → (us : List Tok) → words us ≡ words ts
    → IsListOf i.IsDerivedName us xs h
derived_names_same no_element us e = subst (λ l. IsListOf i.IsDerivedName l [] 0) (sym (none us e)) no_element
derived_names_same (last_element d) us e = last_element (derived_same d us e)
derived_names_same (element a b c x xs m n d s r is) us e =
    let k = cut a (c ∷ b) us (e ∙ ap words is) in
    let l = front k.second c b k.second_words in
    element k.first l.more l.tok x xs m n (derived_same d k.first k.first_words) (same_mark _ l.same s) (derived_names_same r l.more l.rest_words) (behind k l.is)

pub derives_same : {ts : List Tok} {xs : List Derive} → i.AreDerives ts xs → (us : List Tok) → words us ≡ words ts → i.AreDerives us xs
derives_same i.no_derive us e = subst (λ l. i.AreDerives l []) (sym (none us e)) i.no_derive
derives_same (i.derive m b n o c z vs x xs sm sb sn so sc sz d is) us e =
    let k = front us m (b ∷ n ∷ o ∷ (vs ++ (c ∷ z ∷ []))) (e ∙ ap words is) in
    let l = front k.more b (n ∷ o ∷ (vs ++ (c ∷ z ∷ []))) k.rest_words in
    let p = front l.more n (o ∷ (vs ++ (c ∷ z ∷ []))) l.rest_words in
    let q = front p.more o (vs ++ (c ∷ z ∷ [])) p.rest_words in
    let r = cut vs (c ∷ z ∷ []) q.more q.rest_words in
    let v = front r.second c (z ∷ []) r.second_words in
    let w = front v.more z [] v.rest_words in
    i.derive k.tok l.tok p.tok q.tok v.tok w.tok r.first x xs (same_mark _ k.same sm) (same_mark _ l.same sb) (same_named _ p.same sn) (same_mark _ q.same so)
    (same_mark _ v.same sc) (same_mark _ w.same sz) (derived_names_same d r.first r.first_words)
    (onto k (onto l (onto p (onto q (behind r (onto v (one_left w)))))))

-- ---- lifetimes

pub lifetime_again : {ts : List Tok} {x : Ident} {h : ℕ} → i.IsLifetimeParameter ts x h → (us : List Tok) → words us ≡ words ts
    → Again (λ vs y. i.IsLifetimeParameter vs y h) erase_ident us (erase_ident x)
lifetime_again (i.lifetime_parameter t s) us e =
    let k = front us t [] e in
    again (ident k.tok) (subst (λ l. i.IsLifetimeParameter l (ident k.tok) 0) (sym (one_left k)) (i.lifetime_parameter k.tok (same_lifetime k.same s))) (same_ident k.same)

pub lifetimes_again : {ts : List Tok} {xs : List Ident} → i.AreLifetimes ts xs → (us : List Tok) → words us ≡ words ts
    → Again i.AreLifetimes (map erase_ident) us (map erase_ident xs)
lifetimes_again i.no_lifetime us e = again [] (subst (λ l. i.AreLifetimes l []) (sym (none us e)) i.no_lifetime) refl
lifetimes_again (i.lifetimes o c vs x xs so sc d is) us e =
    let k = front us o (vs ++ c ∷ []) (e ∙ ap words is) in
    let z = closed vs c k.more k.rest_words in
    got (list_again erase_ident (λ ts x h d. lifetime_again d) d z.first z.first_words) (λ y dy sy.
    let w = some_element erase_ident y (erase_ident x) (map erase_ident xs) sy in
    again (w.0 ∷ w.1) (i.lifetimes k.tok z.tok z.first w.0 w.1 (same_mark _ k.same so) (same_mark _ z.same sc)
    (subst (λ ys. IsListOf i.IsLifetimeParameter z.first ys 0) w.2 dy) (onto k z.is)) (ap (map erase_ident) (sym w.2) ∙ sy))

pub bounds_again : {ts : List Tok} {xs : List Ident} → i.AreBounds ts xs → (us : List Tok) → words us ≡ words ts
    → Again i.AreBounds (map erase_ident) us (map erase_ident xs)
bounds_again (i.last_bound t s) us e =
    let k = front us t [] e in
    again (ident k.tok ∷ []) (subst (λ l. i.AreBounds l (ident k.tok ∷ [])) (sym (one_left k)) (i.last_bound k.tok (same_lifetime k.same s)))
    (ap (λ (z : Ident). z ∷ []) (same_ident k.same))
bounds_again (i.bound_and t p vs xs s sp d) us e =
    let k = front us t (p ∷ vs) e in
    let l = front k.more p vs k.rest_words in
    got (bounds_again d l.more l.rest_words) (λ y dy sy.
    again (ident k.tok ∷ y) (subst (λ x. i.AreBounds x (ident k.tok ∷ y)) (sym (onto k l.is))
    (i.bound_and k.tok l.tok l.more y (same_lifetime k.same s) (same_mark _ l.same sp) dy))
    (ap (λ (z : Ident). z ∷ map erase_ident y) (same_ident k.same) ∙ ap (λ z. erase_ident (ident t) ∷ z) sy))

abbrev lifetime_of : Ident → List Ident → BoundLifetime
lifetime_of n bs = record { name = n; bounds = bs }

pub bound_lifetime_again : {ts : List Tok} {x : BoundLifetime} {h : ℕ} → i.IsBoundLifetime ts x h → (us : List Tok) → words us ≡ words ts
    → Again (λ vs y. i.IsBoundLifetime vs y h) erase_lifetime us (erase_lifetime x)
bound_lifetime_again (i.unbounded t s) us e =
    let k = front us t [] e in
    again (lifetime_of (ident k.tok) []) (subst (λ l. i.IsBoundLifetime l (lifetime_of (ident k.tok) []) 0) (sym (one_left k)) (i.unbounded k.tok (same_lifetime k.same s)))
    (ap (λ (z : Ident). lifetime_of z []) (same_ident k.same))
bound_lifetime_again (i.bounded t c vs xs s sc d) us e =
    let k = front us t (c ∷ vs) e in
    let l = front k.more c vs k.rest_words in
    got (bounds_again d l.more l.rest_words) (λ y dy sy.
    again (lifetime_of (ident k.tok) y) (subst (λ x. i.IsBoundLifetime x (lifetime_of (ident k.tok) y) 0) (sym (onto k l.is))
    (i.bounded k.tok l.tok l.more y (same_lifetime k.same s) (same_mark _ l.same sc) dy))
    (ap (λ (z : Ident). lifetime_of z (map erase_ident y)) (same_ident k.same) ∙ ap (λ z. lifetime_of (erase_ident (ident t)) z) sy))

pub bound_lifetimes_again : {ts : List Tok} {xs : List BoundLifetime} → i.AreBoundLifetimes ts xs → (us : List Tok) → words us ≡ words ts
    → Again i.AreBoundLifetimes (map erase_lifetime) us (map erase_lifetime xs)
bound_lifetimes_again i.no_bound_lifetime us e = again [] (subst (λ l. i.AreBoundLifetimes l []) (sym (none us e)) i.no_bound_lifetime) refl
bound_lifetimes_again (i.bound_lifetimes o c vs x xs so sc d is) us e =
    let k = front us o (vs ++ c ∷ []) (e ∙ ap words is) in
    let z = closed vs c k.more k.rest_words in
    got (list_again erase_lifetime (λ ts x h d. bound_lifetime_again d) d z.first z.first_words) (λ y dy sy.
    let w = some_element erase_lifetime y (erase_lifetime x) (map erase_lifetime xs) sy in
    again (w.0 ∷ w.1) (i.bound_lifetimes k.tok z.tok z.first w.0 w.1 (same_mark _ k.same so) (same_mark _ z.same sc)
    (subst (λ ys. IsListOf i.IsBoundLifetime z.first ys 0) w.2 dy) (onto k z.is)) (ap (map erase_lifetime) (sym w.2) ∙ sy))

-- ---- fields, variants, parameters, results

abbrev field_of : Ident → TypeTree → FieldOf
field_of n y = record { name = n; typ = y }

pub struct_field_again : {ts : List Tok} {x : FieldOf} {h : ℕ} → i.IsStructField ts x h → (us : List Tok) → words us ≡ words ts
    → Again (λ vs y. i.IsStructField vs y h) erase_field us (erase_field x)
struct_field_again (i.struct_field n c vs x h sn sc d is) us e =
    let k = front us n (c ∷ vs) (e ∙ ap words is) in
    let l = front k.more c vs k.rest_words in
    got (type_again d l.more l.rest_words) (λ y dy sy.
    again _ (i.struct_field k.tok l.tok l.more y h (k.same.class ∙ sn) (same_mark _ l.same sc) dy (onto k l.is))
    (ap (λ (z : Ident). field_of z (erase_type y)) (same_ident k.same) ∙ ap (λ (z : TypeTree). field_of (erase_ident (ident n)) z) sy))

some_types : (zs : List TypeTree) (a : TypeTree) (more : TypeTrees) → erased_types zs ≡ plain.type_and a more
    → (z : TypeTree) × (ws : List TypeTree) × (zs ≡ z ∷ ws)
some_types [] a more e = absurd (cc)
some_types (z ∷ ws) a more e = (z, ws, refl)

abbrev variant_of : Ident → TypeTrees → VariantOf
variant_of n ys = record { name = n; types = ys }

pub variant_again : {ts : List Tok} {x : VariantOf} {h : ℕ} → i.IsVariant ts x h → (us : List Tok) → words us ≡ words ts
    → Again (λ vs y. i.IsVariant vs y h) erase_variant us (erase_variant x)
variant_again (i.variant n s) us e =
    let k = front us n [] e in
    again (variant_of (ident k.tok) plain.no_type)
    (subst (λ l. i.IsVariant l (variant_of (ident k.tok) plain.no_type) 0) (sym (one_left k)) (i.variant k.tok (k.same.class ∙ s)))
    (ap (λ (z : Ident). variant_of z plain.no_type) (same_ident k.same))
variant_again (i.variant_with n o c vs x xs h sn so sc d is) us e =
    let k = front us n (o ∷ (vs ++ c ∷ [])) (e ∙ ap words is) in
    let l = front k.more o (vs ++ c ∷ []) k.rest_words in
    let z = closed vs c l.more l.rest_words in
    got (types_again d z.first z.first_words) (λ y dy sy.
    let w = some_types y (erase_type x) (erased_types xs) sy in
    again _ (i.variant_with k.tok l.tok z.tok z.first w.0 w.1 h (k.same.class ∙ sn) (same_mark _ l.same so) (same_mark _ z.same sc)
    (subst (λ ys. Rattle.rx_parse_grammar.specs.grammar.Types.AreTypes z.first ys h) w.2 dy) (onto k (onto l z.is)))
    (ap (λ (a : Ident). variant_of a (erased_types (w.0 ∷ w.1))) (same_ident k.same)
    ∙ ap (λ (a : TypeTrees). variant_of (erase_ident (ident n)) a) (ap erased_types (sym w.2) ∙ sy)))

abbrev parameter_of : Ident → Bool → TypeTree → Parameter
parameter_of n m y = record { name = n; mutable = m; typ = y }

pub parameter_again : {ts : List Tok} {x : Parameter} {h : ℕ} → i.IsParameter ts x h → (us : List Tok) → words us ≡ words ts
    → Again (λ vs y. i.IsParameter vs y h) erase_parameter us (erase_parameter x)
parameter_again (i.parameter ms vs n c m x h sm sn sc d is) us e =
    let a = cut ms (n ∷ c ∷ vs) us (e ∙ ap words is) in
    let k = front a.second n (c ∷ vs) a.second_words in
    let l = front k.more c vs k.rest_words in
    got (type_again d l.more l.rest_words) (λ y dy sy.
    again _ (i.parameter a.first l.more k.tok l.tok m y h (same_mutability sm a.first a.first_words) (k.same.class ∙ sn) (same_mark _ l.same sc) dy
    (behind a (onto k l.is)))
    (ap (λ (z : Ident). parameter_of z m (erase_type y)) (same_ident k.same) ∙ ap (λ (z : TypeTree). parameter_of (erase_ident (ident n)) m z) sy))

pub result_again : {ts : List Tok} {x : Option TypeTree} {h : ℕ} → i.IsResult ts x h → (us : List Tok) → words us ≡ words ts
    → Again (λ vs y. i.IsResult vs y h) (option_map erase_type) us (option_map erase_type x)
result_again i.no_result us e = again None (subst (λ l. i.IsResult l None 0) (sym (none us e)) i.no_result) refl
result_again (i.result a vs x h sa d is) us e =
    let k = front us a vs (e ∙ ap words is) in
    got (type_again d k.more k.rest_words) (λ y dy sy.
    again (Some y) (i.result k.tok k.more y h (same_mark _ k.same sa) dy k.is) (ap (λ (z : TypeTree). Some z) sy))

-- ---- items

abbrev structure_of : Ident → List Derive → List Ident → List FieldOf → ItemTree
structure_of n xs l fs = plain.struct_item nowhere (record { name = n; derives = xs; lifetimes = l; fields = fs })

abbrev enumeration_of : Ident → List Derive → List Ident → List VariantOf → ItemTree
enumeration_of n xs l vs = plain.enum_item nowhere (record { name = n; derives = xs; lifetimes = l; variants = vs })

abbrev function_of : Ident → List BoundLifetime → List Parameter → Option TypeTree → Body → ItemTree
function_of n l ps r b = plain.function_item nowhere (record { name = n; lifetimes = l; params = ps; result = r; body = b })

pub item_again : {ts : List Tok} {x : ItemTree} {h : ℕ} → i.IsItem ts x h → (us : List Tok) → words us ≡ words ts
    → Again (λ vs y. i.IsItem vs y h) erase_item us (erase_item x)
item_again (i.rt m r z sm sr sz is) us e =
    let k = front us m (r ∷ z ∷ []) (e ∙ ap words is) in
    let l = front k.more r (z ∷ []) k.rest_words in
    let p = front l.more z [] l.rest_words in
    again _ (i.rt k.tok l.tok p.tok (same_keyword _ k.same sm) (same_named _ l.same sr) (same_mark _ p.same sz) (onto k (onto l (one_left p)))) refl
item_again (i.structure t n o c ds ls vs xs l fs h st sn so sc sd sl d is) us e =
    let a = cut ds (t ∷ n ∷ (ls ++ (o ∷ (vs ++ c ∷ [])))) us (e ∙ ap words is) in
    let b = front a.second t (n ∷ (ls ++ (o ∷ (vs ++ c ∷ [])))) a.second_words in
    let k = front b.more n (ls ++ (o ∷ (vs ++ c ∷ []))) b.rest_words in
    let p = cut ls (o ∷ (vs ++ c ∷ [])) k.more k.rest_words in
    let q = front p.second o (vs ++ c ∷ []) p.second_words in
    let z = closed vs c q.more q.rest_words in
    got (lifetimes_again sl p.first p.first_words) (λ y dy sy.
    got (list_again erase_field (λ ts x h d. struct_field_again d) d z.first z.first_words) (λ w dw sw.
    again _ (i.structure b.tok k.tok q.tok z.tok a.first p.first z.first xs y w h (same_keyword _ b.same st) (k.same.class ∙ sn) (same_mark _ q.same so)
    (same_mark _ z.same sc) (derives_same sd a.first a.first_words) dy dw (behind a (onto b (onto k (behind p (onto q z.is))))))
    (ap (λ (v : Ident). structure_of v xs (map erase_ident y) (map erase_field w)) (same_ident k.same)
    ∙ ap (λ v. structure_of (erase_ident (ident n)) xs v (map erase_field w)) sy
    ∙ ap (λ v. structure_of (erase_ident (ident n)) xs (map erase_ident l) v) sw)))
item_again (i.enumeration t n o c ds ls vs xs l x more h st sn so sc sd sl d is) us e =
    let a = cut ds (t ∷ n ∷ (ls ++ (o ∷ (vs ++ c ∷ [])))) us (e ∙ ap words is) in
    let b = front a.second t (n ∷ (ls ++ (o ∷ (vs ++ c ∷ [])))) a.second_words in
    let k = front b.more n (ls ++ (o ∷ (vs ++ c ∷ []))) b.rest_words in
    let p = cut ls (o ∷ (vs ++ c ∷ [])) k.more k.rest_words in
    let q = front p.second o (vs ++ c ∷ []) p.second_words in
    let z = closed vs c q.more q.rest_words in
    got (lifetimes_again sl p.first p.first_words) (λ y dy sy.
    got (list_again erase_variant (λ ts x h d. variant_again d) d z.first z.first_words) (λ w dw sw.
    let f = some_element erase_variant w (erase_variant x) (map erase_variant more) sw in
    again _ (i.enumeration b.tok k.tok q.tok z.tok a.first p.first z.first xs y f.0 f.1 h (same_keyword _ b.same st) (k.same.class ∙ sn) (same_mark _ q.same so)
    (same_mark _ z.same sc) (derives_same sd a.first a.first_words) dy (subst (λ ys. IsListOf i.IsVariant z.first ys h) f.2 dw)
    (behind a (onto b (onto k (behind p (onto q z.is))))))
    (ap (λ (v : Ident). enumeration_of v xs (map erase_ident y) (map erase_variant (f.0 ∷ f.1))) (same_ident k.same)
    ∙ ap (λ v. enumeration_of (erase_ident (ident n)) xs v (map erase_variant (f.0 ∷ f.1))) sy
    ∙ ap (λ v. enumeration_of (erase_ident (ident n)) xs (map erase_ident l) v) (ap (map erase_variant) (sym f.2) ∙ sw))))
item_again (i.function f n o c ls vs rs bs l ps r b h i' k' sf sn so sc sl d sr sb is) us e =
    let a = front us f (n ∷ (ls ++ (o ∷ (vs ++ (c ∷ (rs ++ bs)))))) (e ∙ ap words is) in
    let k = front a.more n (ls ++ (o ∷ (vs ++ (c ∷ (rs ++ bs))))) a.rest_words in
    let p = cut ls (o ∷ (vs ++ (c ∷ (rs ++ bs)))) k.more k.rest_words in
    let q = front p.second o (vs ++ (c ∷ (rs ++ bs))) p.second_words in
    let v = cut vs (c ∷ (rs ++ bs)) q.more q.rest_words in
    let w = front v.second c (rs ++ bs) v.second_words in
    let z = cut rs bs w.more w.rest_words in
    got (bound_lifetimes_again sl p.first p.first_words) (λ y1 d1 s1.
    got (list_again erase_parameter (λ ts x h d. parameter_again d) d v.first v.first_words) (λ y2 d2 s2.
    got (result_again sr z.first z.first_words) (λ y3 d3 s3.
    got (block_again sb z.second z.second_words) (λ y4 d4 s4.
    again _ (i.function a.tok k.tok q.tok w.tok p.first v.first z.first z.second y1 y2 y3 y4 h i' k' (same_keyword _ a.same sf) (k.same.class ∙ sn)
    (same_mark _ q.same so) (same_mark _ w.same sc) d1 d2 d3 d4 (onto a (onto k (behind p (onto q (behind v (onto w z.is)))))))
    (ap (λ (x : Ident). function_of x (map erase_lifetime y1) (map erase_parameter y2) (option_map erase_type y3) (erase_body y4)) (same_ident k.same)
    ∙ ap (λ x. function_of (erase_ident (ident n)) x (map erase_parameter y2) (option_map erase_type y3) (erase_body y4)) s1
    ∙ ap (λ x. function_of (erase_ident (ident n)) (map erase_lifetime l) x (option_map erase_type y3) (erase_body y4)) s2
    ∙ ap (λ x. function_of (erase_ident (ident n)) (map erase_lifetime l) (map erase_parameter ps) x (erase_body y4)) s3
    ∙ ap (λ x. function_of (erase_ident (ident n)) (map erase_lifetime l) (map erase_parameter ps) (option_map erase_type r) x) s4)))))

pub file_again : {ts : List Tok} {p : ProgramTree} {h : ℕ} → i.IsFile ts p h → (us : List Tok) → words us ≡ words ts
    → Again (λ vs q. i.IsFile vs q h) erase_program us (erase_program p)
file_again i.no_item us e = again [] (subst (λ l. i.IsFile l [] 0) (sym (none us e)) i.no_item) refl
file_again (i.item_and a b x xs m n d r is) us e =
    let k = cut a b us (e ∙ ap words is) in
    got (item_again d k.first k.first_words) (λ y dy sy.
    got (file_again r k.second k.second_words) (λ w dw sw.
    again (y ∷ w) (i.item_and k.first k.second y w m n dy dw k.is)
    (ap (λ z. z ∷ erase_program w) sy ∙ ap (λ z. erase_item x ∷ z) sw)))
