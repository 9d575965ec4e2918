-- A function from its tokens with the edits of its short signature.
use Rattle.std.proofs.Common.{◌≡◌, ℕ, ◌+◌, max, Bool, List, [], ◌∷◌, ◌++◌, map, Option, codes, length, length-append, drop, refl, sym, ap, subst, ◌∙◌, arith, append_assoc, append-nil}
use Rattle.std.specs.Prelude.{option_map}
use Rattle.rx_core.specs.declared.types.Span.{Span}
use Rattle.rx_tree.specs.declared.tree.Ident.{Ident}
use Rattle.rx_tree.specs.declared.tree.BoundLifetime.{BoundLifetime}
use Rattle.rx_tree.specs.Lists.{Every}
use Rattle.rx_tree.specs.Plain as plain
use Rattle.rx_tree.specs.Plain.{TypeTree, Parameter, Body, Function, ItemTree}
use Rattle.rx_tree.specs.Erase.{nowhere, erase_ident, erase_lifetime, erase_parameter, erase_type, erase_body, erase_item}
use Rattle.rx_lex.specs.declared.token.Class.TheVariants.{Identifier, Lifetime}
use Rattle.rx_lex.specs.Tok.{Tok}
use Rattle.rx_lex.specs.Tokens.{Tokens, Lexes, AreWords, token_at}
use Rattle.rx_lex.proofs.TokenLaws.{tokens_in_order}
use Rattle.rx_parse_grammar.specs.grammar.Words.{IsMark, IsKeyword, IsName, IsListOf, span_of, ident}
use Rattle.rx_parse_grammar.specs.grammar.Expressions as g
use Rattle.rx_parse_grammar.specs.grammar.Expressions.{IsBlock}
use Rattle.rx_parse_grammar.specs.grammar.Items.{IsParameter, IsResult, AreBoundLifetimes, no_bound_lifetime, bound_lifetimes, IsItem, function}
use Rattle.rx_parse_laws.specs.Words.{words}
use Rattle.rx_parse_laws.proofs.SameWords.{same_mark}
use Rattle.rx_print_spelling.specs.Pieces.{Piece, flat}
use Rattle.rx_print_spelling.specs.Items.{in_angles, bound_pieces}
use Rattle.rx_print_spelling.specs.Formed.{FormedBound, FormedItem}
use Rattle.rx_print_spelling.proofs.Pieces.{places, flat-append}
use Rattle.rx_print_spelling.proofs.Derives.{Derives}
use Rattle.rx_print_spelling.proofs.TextsFormed.{words_left, words_right}
use Rattle.rx_hoist_extraction.specs.Changed.{changed_body}
use Rattle.rx_splice_laws.specs.Edits.{Edit, spliced}
use Rattle.rx_splice_laws.specs.EditsOf.{body_edits}
use Rattle.rx_splice_laws.specs.SplicedRun.{Part}
use Rattle.rx_splice_laws.proofs.AsRead.{onto, onto-append, onto_is}
use Rattle.rx_splice_laws.proofs.Cut.{words-append}
use Rattle.rx_splice_laws.proofs.Edited.{then_kept}
use Rattle.rx_splice_laws.proofs.Kept.{KeptBy}
use Rattle.rx_splice_laws.proofs.Settling.{text_settled}
use Rattle.rx_splice_laws.proofs.Spelled.{spells, IsUnslashed}
use Rattle.rx_splice_laws.proofs.Stars.{part_seen}
use Rattle.rx_compact_lifetimes.specs.Rewritten.{becomes, retyping}
use Rattle.rx_compact_lifetimes.specs.Merged.{mergings_of, merged}
use Rattle.rx_compact_lifetimes.specs.Elided.{elisions, in_body, elided}
use Rattle.rx_compact_text.specs.CompactedText.{becomes_both, list_end, list_edits, parameters_edits, optional_edits, let_edits, compacted_edits}
use Rattle.rx_compact_placed.proofs.Angles as angles_of
use Rattle.rx_compact_read.proofs.Types.{Calculus, Retyped, type_by, parameter_by, parameters_changed, result_changed}
use Rattle.rx_compact_read.proofs.Halves.{opening, closing, front, cut, parameters_halved, result_halved}
use Rattle.rx_compact_read.proofs.SignatureEdits.{Changed, kept, lifetime, gone, joined, spells_signature, drop_front}
use Rattle.rx_compact_read.proofs.Names.{merged_name, merged_or_same, signature_name, list_formed, body_once, parameters_next, optional_next}
use Rattle.rx_compact_read.proofs.Each.{anonymous_word, each_let, unslashed}
use Rattle.rx_compact_read.proofs.Bodies.{renamed_by, SameLevels, body_changed}
use Rattle.rx_compact_read.proofs.Lists.{list_read}
use Rattle.rx_compact_read.proofs.Parted.{Parted, Listed, listed, unlisted}
use Rattle.rx_compact_read.proofs.Joining.{Listing, no_list, new_list, lost_list, Joined, joined_parts}

abbrev signature_by : (ℕ → ℕ → Bool) → Bool → Function → List ℕ → Option (List ℕ)
signature_by outlives single f = becomes_both (mergings_of outlives f) (elisions single (in_body (merged outlives f).body) (merged outlives f))

abbrev new_lifetimes : (ℕ → ℕ → Bool) → Bool → Function → List BoundLifetime
new_lifetimes outlives single f = (elided single (merged outlives f)).lifetimes

abbrev function_of : Tok → List BoundLifetime → List Parameter → Option TypeTree → Body → Function
function_of n l ps r b = record { name = ident n; lifetimes = l; params = ps; result = r; body = b }

-- the function with the short signature, from tokens that stand among those of the text with the edits
pub record ReadItem (text : List ℕ) (es : List Edit) (pre post : List Tok) (k : ℕ) (x : ItemTree) : Type 0 where
  pub own : List Tok
  pub tree : ItemTree
  pub derived : IsItem own tree k
  pub same : erase_item tree ≡ erase_item x
  pub tokens : List Tok
  pub read : Tokens 0 (spliced 0 text es) tokens
  pub alike : words tokens ≡ words (pre ++ (own ++ post))

-- ---- the signature, as a calculus

signature_calculus : (text : List ℕ) (outlives : ℕ → ℕ → Bool) (single : Bool) (f : Function) → Every FormedBound f.lifetimes → Calculus text (signature_by outlives single f) (Changed text)
signature_calculus text outlives single f F = record {
  kept = kept;
  joined = λ a b. joined a b;
  renamed = λ k n l w e. renamed_by (Changed text) kept lifetime k n l (signature_name outlives single f F k.text n w e);
  anonymous = λ k l w e. record { tok = token_at 0 Lifetime (codes "'_"); anonymous = (refl, refl); edited = lifetime k (codes "'_") l anonymous_word };
  gone = λ a k sa l w e n r. gone a k sa n r;
}

-- ---- from the parts

words_tail : (xs ys zs : List Tok) → words ys ≡ words zs → words (xs ++ ys) ≡ words (xs ++ zs)
words_tail xs ys zs e = words-append xs ys ∙ ap (λ w. words xs ++ w) e ∙ sym (words-append xs zs)

regrouped : (pre l u m b post : List Tok) (f n o c : Tok) → (pre ++ f ∷ n ∷ []) ++ (l ++ ((o ∷ (u ++ (c ∷ m))) ++ (b ++ post))) ≡ pre ++ ((f ∷ n ∷ (l ++ (o ∷ (u ++ (c ∷ (m ++ b)))))) ++ post)
regrouped pre l u m b post f n o c =
    append_assoc pre (f ∷ n ∷ []) (l ++ ((o ∷ (u ++ (c ∷ m))) ++ (b ++ post)))
    ∙ ap (λ x. pre ++ (f ∷ n ∷ (l ++ (o ∷ x)))) (append_assoc u (c ∷ m) (b ++ post) ∙ ap (λ x. u ++ (c ∷ x)) (sym (append_assoc m b post)) ∙ sym (append_assoc u (c ∷ (m ++ b)) post))
    ∙ ap (λ x. pre ++ (f ∷ n ∷ x)) (sym (append_assoc l (o ∷ (u ++ (c ∷ (m ++ b)))) post))

same_function : (n : Ident) (l l2 : List BoundLifetime) (ps ps2 : List Parameter) (r r2 : Option TypeTree) (b b2 : Body) → l ≡ l2 → ps ≡ ps2 → r ≡ r2 → b ≡ b2
    → ◌≡◌ {A = ItemTree} (plain.function_item nowhere (record { name = n; lifetimes = l; params = ps; result = r; body = b })) (plain.function_item nowhere (record { name = n; lifetimes = l2; params = ps2; result = r2; body = b2 }))
same_function n l l2 ps ps2 r r2 b b2 e f g h =
    ap (λ x. plain.function_item nowhere (record { name = n; lifetimes = x; params = ps; result = r; body = b })) e
    ∙ ap (λ x. plain.function_item nowhere (record { name = n; lifetimes = l2; params = x; result = r; body = b })) f
    ∙ ap (λ x. plain.function_item nowhere (record { name = n; lifetimes = l2; params = ps2; result = x; body = b })) g
    ∙ ap (λ x. plain.function_item nowhere (record { name = n; lifetimes = l2; params = ps2; result = r2; body = x })) h

of_parts : (text : List ℕ) (es esP esR esB : List Edit) (pre post : List Tok) (kf n o c : Tok) (us rs bs : List Tok) (l : List BoundLifetime) (ps : List Parameter) (r : Option TypeTree) (b : Body) (h i j : ℕ) (new : List Piece) (s : Span)
    (outlives : ℕ → ℕ → Bool) (single : Bool) → IsKeyword (codes "fn") kf → IsName n → IsMark (codes "(") o → IsMark (codes ")") c
    → (P : Retyped (Changed text) (IsListOf IsParameter) (map erase_parameter) esP us h (map erase_parameter (map (parameter_by (signature_by outlives single (function_of n l ps r b))) ps)))
    → (R : Retyped (Changed text) IsResult (option_map erase_type) esR rs i (option_map erase_type (option_map (type_by (signature_by outlives single (function_of n l ps r b))) r)))
    → (B : KeptBy SameLevels IsBlock erase_body bs j esB (erase_body (changed_body (retyping (type_by (becomes (mergings_of outlives (function_of n l ps r b))))) [] [] b)))
    → ((at : ℕ) → Derives AreBoundLifetimes (map erase_lifetime) (places at new) (map erase_lifetime (new_lifetimes outlives single (function_of n l ps r b))))
    → Joined text es (pre ++ kf ∷ n ∷ []) new (o ∷ (P.tokens ++ (c ∷ R.tokens))) (B.tokens ++ post)
    → ReadItem text es pre post (max h (max i j)) (plain.function_item s (elided single (merged outlives (function_of n l ps r b))))
of_parts text es esP esR esB pre post kf n o c us rs bs l ps r b h i j new s outlives single sk sn so sc P R B D J =
    let mr = mergings_of outlives (function_of n l ps r b) in
    let me = elisions single (in_body (merged outlives (function_of n l ps r b)).body) (merged outlives (function_of n l ps r b)) in
    let fr = front J.signature o (P.tokens ++ (c ∷ R.tokens)) (opening o so) J.halves in
    let cu = cut P.tokens c R.tokens fr.more (closing c sc) fr.rest_halves in
    let pp = parameters_halved P.derived cu.first cu.first_halves in
    let rr = result_halved R.derived cu.more cu.rest_halves in
    let dd = D J.at in
    let sign : J.signature ≡ fr.tok ∷ (cu.first ++ (cu.tok ∷ cu.more)) = fr.is ∙ ap (λ x. fr.tok ∷ x) cu.is in
    let own : List Tok = kf ∷ n ∷ (places J.at new ++ (fr.tok ∷ (cu.first ++ (cu.tok ∷ (cu.more ++ B.tokens))))) in
    let tree : ItemTree = plain.function_item (span_of own) (function_of n dd.tree pp.tree rr.tree B.tree) in
    record {
      own = own;
      tree = tree;
      derived = subst (λ q. IsItem own tree (max h (max i q))) B.low
          (function kf n fr.tok cu.tok (places J.at new) cu.first cu.more B.tokens dd.tree pp.tree rr.tree B.tree h i B.height sk sn (same_mark _ fr.same so) (same_mark _ cu.same sc) dd.derived pp.derived rr.derived B.derived refl);
      same = same_function (erase_ident (ident n)) _ _ _ _ _ _ _ _ dd.same (pp.same ∙ P.same ∙ ap (map erase_parameter) (sym (parameters_next mr me ps)))
          (rr.same ∙ R.same ∙ ap (option_map erase_type) (sym (optional_next mr me r))) (B.same ∙ ap erase_body (sym (body_once mr b)));
      tokens = (pre ++ kf ∷ n ∷ []) ++ (places J.at new ++ (J.signature ++ J.behind));
      read = J.read;
      alike = words_tail (pre ++ kf ∷ n ∷ []) (places J.at new ++ (J.signature ++ J.behind)) (places J.at new ++ (J.signature ++ (B.tokens ++ post)))
          (words_tail (places J.at new) (J.signature ++ J.behind) (J.signature ++ (B.tokens ++ post)) (words_tail J.signature J.behind (B.tokens ++ post) J.body_words))
          ∙ ap words (ap (λ x. (pre ++ kf ∷ n ∷ []) ++ (places J.at new ++ (x ++ (B.tokens ++ post)))) sign ∙ regrouped pre (places J.at new) cu.first cu.more B.tokens post kf n fr.tok cu.tok);
    }

-- ---- the parts

record Begun (ts : List Tok) : Type 0 where
  brace : Tok
  more : List Tok
  is : ts ≡ brace ∷ more
  mark : IsMark (codes "{") brace

block_begins : {ts : List Tok} {b : Body} {h : ℕ} → IsBlock ts b h → Begun ts
block_begins (g.braces o c us ss y h so sc d is) = record { brace = o; more = us ++ c ∷ []; is = is; mark = so }

-- where the signature stands in the text
signature_at : (text : List ℕ) (a l s b : List Piece) → flat (a ++ (l ++ (s ++ b))) ≡ text → drop ((0 + length (flat a)) + length (flat l)) text ≡ onto s (onto b [])
signature_at text a l s b e =
    drop_front text 0 ((0 + length (flat a)) + length (flat l)) (a ++ l) (s ++ b) [] (sym e ∙ sym (append-nil (flat (a ++ (l ++ (s ++ b))))) ∙ sym (onto_is (a ++ (l ++ (s ++ b))) []) ∙ ap (λ x. onto x []) (sym (append_assoc a l (s ++ b))))
    (omega (arith, ap length (flat-append a l), length-append (flat a) (flat l)))
    ∙ onto-append s b []

whole : (all pre post own ls us rs bs : List Tok) (f n o c : Tok) → all ≡ pre ++ (own ++ post) → own ≡ f ∷ n ∷ (ls ++ (o ∷ (us ++ (c ∷ (rs ++ bs)))))
    → all ≡ (pre ++ f ∷ n ∷ []) ++ (ls ++ ((o ∷ (us ++ (c ∷ rs))) ++ (bs ++ post)))
whole all pre post own ls us rs bs f n o c is w = is ∙ ap (λ x. pre ++ (x ++ post)) w ∙ sym (regrouped pre ls us rs bs post f n o c)

body_part : (all a ls s bs post : List Tok) → all ≡ a ++ (ls ++ (s ++ (bs ++ post))) → Part all bs
body_part all a ls s bs post e = record { pre = (a ++ ls) ++ s; post = post; is = e ∙ sym (append_assoc a ls (s ++ (bs ++ post))) ∙ sym (append_assoc (a ++ ls) s (bs ++ post)) }

rest_part : (all a ls s rest : List Tok) → all ≡ a ++ (ls ++ (s ++ rest)) → Part all rest
rest_part all a ls s rest e = record {
  pre = (a ++ ls) ++ s;
  post = [];
  is = e ∙ sym (append_assoc a ls (s ++ rest)) ∙ sym (append_assoc (a ++ ls) s rest) ∙ ap (λ x. ((a ++ ls) ++ s) ++ x) (sym (append-nil rest));
}

sign_words : (all a ls s rest : List Tok) → AreWords all → all ≡ a ++ (ls ++ (s ++ rest)) → AreWords s
sign_words all a ls s rest w e = words_left s rest (words_right ls (s ++ rest) (words_right a (ls ++ (s ++ rest)) (subst AreWords e w)))

-- a list that is written anew, or left out
any_list : (n o c : Tok) (a l : List Piece) (new : List BoundLifetime) (from to : ℕ) → n.class ≡ Identifier → IsMark (codes "<") o → IsMark (codes ">") c → Every FormedBound new → Listed a l o c
    → from ≡ 0 + length (flat a) → to ≡ (0 + length (flat a)) + length (flat l) → Listing n (0 + length (flat a)) l (in_angles (map bound_pieces new)) (record { from = from; to = to; by = in_angles (map bound_pieces new) } ∷ [])
any_list n o c a l [] from to i so sc f d e g = lost_list n o c a l from to i so d e g
any_list n o c a l (x ∷ xs) from to i so sc f d e g = new_list n o c a l x xs from to so sc f d e g

-- with the pieces and what becomes of the list
of_pieces : (text : List ℕ) (all pre post : List Tok) → Lexes text all → AreWords all → (kf n o c : Tok) (ls us rs bs : List Tok) (l : List BoundLifetime) (ps : List Parameter) (r : Option TypeTree) (b : Body) (h i j : ℕ) (s : Span)
    (outlives : ℕ → ℕ → Bool) (single : Bool) → IsKeyword (codes "fn") kf → IsName n → IsMark (codes "(") o → IsMark (codes ")") c → IsListOf IsParameter us ps h → IsResult rs r i → IsBlock bs b j
    → FormedItem (plain.function_item s (function_of n l ps r b)) → all ≡ (pre ++ kf ∷ n ∷ []) ++ (ls ++ ((o ∷ (us ++ (c ∷ rs))) ++ (bs ++ post)))
    → (Q : Parted text all (pre ++ kf ∷ n ∷ []) ls (o ∷ (us ++ (c ∷ rs))) (bs ++ post)) (new : List Piece) (esL : List Edit) → Listing n (0 + length (flat Q.a)) Q.l new esL
    → ((at : ℕ) → Derives AreBoundLifetimes (map erase_lifetime) (places at new) (map erase_lifetime (new_lifetimes outlives single (function_of n l ps r b))))
    → ReadItem text (esL ++ (parameters_edits text (signature_by outlives single (function_of n l ps r b)) ps
    ++ (optional_edits text (signature_by outlives single (function_of n l ps r b)) r ++ body_edits (let_edits text (becomes (mergings_of outlives (function_of n l ps r b)))) [] [] b))) pre post (max h (max i j))
    (plain.function_item s (elided single (merged outlives (function_of n l ps r b))))
of_pieces text all pre post d W kf n o c ls us rs bs l ps r b h i j s outlives single sk sn so sc dp dr db F is Q new esL L D =
    let f = function_of n l ps r b in
    let m = signature_by outlives single f in
    let mb = becomes (mergings_of outlives f) in
    let C = signature_calculus text outlives single f F.1 in
    let P = parameters_changed text m (Changed text) C dp F.2 in
    let R = result_changed text m (Changed text) C dr F.3 in
    let B = body_changed text mb all (text_settled 0 text all d.tokens) W (merged_name outlives f F.1) bs b j db (body_part all (pre ++ kf ∷ n ∷ []) ls (o ∷ (us ++ (c ∷ rs))) bs post is) in
    let changed : Changed text (parameters_edits text m ps ++ optional_edits text m r) (o ∷ (us ++ (c ∷ rs))) (o ∷ (P.tokens ++ (c ∷ R.tokens))) =
    joined (kept (o ∷ [])) (joined P.edited (joined (kept (c ∷ [])) R.edited)) in
    let S = spells_signature text changed (sign_words all (pre ++ kf ∷ n ∷ []) ls (o ∷ (us ++ (c ∷ rs))) (bs ++ post) W is) ((0 + length (flat Q.a)) + length (flat Q.l)) Q.s (onto Q.b []) Q.third (signature_at text Q.a Q.l Q.s Q.b Q.whole) in
    let T = spells all (then_kept B.edited post) (each_let (IsUnslashed all) (unslashed all) text mb (merged_or_same outlives f F.1) b) (part_seen all (bs ++ post) (rest_part all (pre ++ kf ∷ n ∷ []) ls (o ∷ (us ++ (c ∷ rs))) (bs ++ post) is))
    (((0 + length (flat Q.a)) + length (flat Q.l)) + length (flat Q.s)) Q.b Q.fourth in
    let z = block_begins B.derived in
    let J = joined_parts text all (pre ++ kf ∷ n ∷ []) ls (o ∷ (us ++ (c ∷ rs))) (bs ++ post) Q n o z.brace (pre ++ kf ∷ []) (us ++ (c ∷ rs)) (z.more ++ post) new esL (parameters_edits text m ps ++ optional_edits text m r)
    (body_edits (let_edits text mb) [] [] b) (o ∷ (P.tokens ++ (c ∷ R.tokens))) (B.tokens ++ post) (sym (append_assoc pre (kf ∷ []) (n ∷ []))) sn refl so L S T (ap (λ x. x ++ post) z.is) z.mark in
    let J2 = subst (λ es. Joined text (esL ++ es) (pre ++ kf ∷ n ∷ []) new (o ∷ (P.tokens ++ (c ∷ R.tokens))) (B.tokens ++ post)) (append_assoc (parameters_edits text m ps) (optional_edits text m r) (body_edits (let_edits text mb) [] [] b)) J in
    of_parts text _ (parameters_edits text m ps) (optional_edits text m r) (body_edits (let_edits text mb) [] [] b) pre post kf n o c us rs bs l ps r b h i j new s outlives single sk sn so sc P R B D J2

of_list : (text : List ℕ) (all pre post : List Tok) → Lexes text all → AreWords all → (kf n o c : Tok) (ls us rs bs : List Tok) (l : List BoundLifetime) (ps : List Parameter) (r : Option TypeTree) (b : Body) (h i j : ℕ) (s : Span)
    (outlives : ℕ → ℕ → Bool) (single : Bool) → IsKeyword (codes "fn") kf → IsName n → IsMark (codes "(") o → IsMark (codes ")") c → AreBoundLifetimes ls l → IsListOf IsParameter us ps h → IsResult rs r i → IsBlock bs b j
    → FormedItem (plain.function_item s (function_of n l ps r b)) → all ≡ (pre ++ kf ∷ n ∷ []) ++ (ls ++ ((o ∷ (us ++ (c ∷ rs))) ++ (bs ++ post)))
    → ReadItem text (compacted_edits outlives single text all (function_of n l ps r b)) pre post (max h (max i j)) (plain.function_item s (elided single (merged outlives (function_of n l ps r b))))
of_list text all pre post d W kf n o c ls us rs bs l ps r b h i j s outlives single sk sn so sc no_bound_lifetime dp dr db F is =
    let q = unlisted text all (pre ++ kf ∷ n ∷ []) (o ∷ (us ++ (c ∷ rs))) (bs ++ post) d.tokens is in
    let Q = q.0 in
    of_pieces text all pre post d W kf n o c [] us rs bs [] ps r b h i j s outlives single sk sn so sc dp dr db F is Q [] []
    (subst (λ x. Listing n (0 + length (flat Q.a)) x [] []) (sym q.1) (no_list n (0 + length (flat Q.a)) sn)) (list_read [] tt)
of_list text all pre post d W kf n o c ls us rs bs l ps r b h i j s outlives single sk sn so sc (bound_lifetimes p e vs x xs sp se dv w) dp dr db F is =
    let f = function_of n (x ∷ xs) ps r b in
    let new = new_lifetimes outlives single f in
    let formed = list_formed outlives single f F.1 in
    let is2 : all ≡ (pre ++ kf ∷ n ∷ []) ++ ((p ∷ (vs ++ e ∷ [])) ++ ((o ∷ (us ++ (c ∷ rs))) ++ (bs ++ post))) = is ∙ ap (λ y. (pre ++ kf ∷ n ∷ []) ++ (y ++ ((o ∷ (us ++ (c ∷ rs))) ++ (bs ++ post)))) w in
    let is3 : all ≡ ((pre ++ kf ∷ []) ++ n ∷ []) ++ ((p ∷ (vs ++ e ∷ [])) ++ ((o ∷ (us ++ (c ∷ rs))) ++ (bs ++ post))) = is2 ∙ ap (λ y. y ++ ((p ∷ (vs ++ e ∷ [])) ++ ((o ∷ (us ++ (c ∷ rs))) ++ (bs ++ post)))) (sym (append_assoc pre (kf ∷ []) (n ∷ []))) in
    let q = listed text all (pre ++ kf ∷ n ∷ []) vs (o ∷ (us ++ (c ∷ rs))) (bs ++ post) p e d.tokens is2 in
    let Q = q.0 in
    let G = q.1 in
    let order = tokens_in_order 0 text all d.tokens in
    let start = angles_of.begins 0 _ all (pre ++ kf ∷ []) vs ((o ∷ (us ++ (c ∷ rs))) ++ (bs ++ post)) n p e is3 order in
    let end = angles_of.ends 0 _ all (pre ++ kf ∷ []) vs ((o ∷ (us ++ (c ∷ rs))) ++ (bs ++ post)) n p e is3 order (list_end x xs) se (angles_of.list_ends dv) in
    of_pieces text all pre post d W kf n o c (p ∷ (vs ++ e ∷ [])) us rs bs (x ∷ xs) ps r b h i j s outlives single sk sn so sc dp dr db F is2 Q (in_angles (map bound_pieces new)) (list_edits all f (x ∷ xs) new)
    (any_list n p e Q.a Q.l new _ _ sn sp se formed G (start ∙ G.starts) (end ∙ G.ends)) (list_read new formed)

pub item_read : (text : List ℕ) (all pre own post : List Tok) (s : Span) (f : Function) (k : ℕ) → Lexes text all → AreWords all → all ≡ pre ++ (own ++ post) → IsItem own (plain.function_item s f) k → FormedItem (plain.function_item s f)
    → (outlives : ℕ → ℕ → Bool) (single : Bool) → ReadItem text (compacted_edits outlives single text all f) pre post k (plain.function_item s (elided single (merged outlives f)))
item_read text all pre own post s f k d W is (function kf n o c ls us rs bs l ps r b h i j sk sn so sc dl dp dr db w) F outlives single =
    of_list text all pre post d W kf n o c ls us rs bs l ps r b h i j _ outlives single sk sn so sc dl dp dr db F (whole all pre post own ls us rs bs kf n o c is w)
