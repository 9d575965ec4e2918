-- A body in which lifetimes have other names is derived from its tokens with the edits, with as many levels.
use Rattle.std.proofs.Common.{◌≡◌, ℕ, suc, max, Bool, true, false, List, [], ◌∷◌, ◌++◌, Option, Some, None, refl, sym, ap, subst, ◌∙◌}
use Rattle.std.specs.Prelude.{if◌then◌else◌}
use Rattle.std.specs.Str.{bytes_eq}
use Rattle.std.proofs.lemmas.Slice.Eq.{bytes_eq-Decides}
use Rattle.rx_tree.specs.Plain as plain
use Rattle.rx_tree.specs.Plain.{TypeTree, TypeTrees, PatternTree, Expression, Body}
use Rattle.rx_tree.specs.Erase.{nowhere, erase_body}
use Rattle.rx_lex.specs.declared.token.Class.TheVariants.{Lifetime}
use Rattle.rx_lex.specs.Words.{IsWord}
use Rattle.rx_lex.specs.Tok.{Tok}
use Rattle.rx_lex.specs.Tokens.{AreWords, token_at}
use Rattle.rx_parse_grammar.specs.grammar.Words.{IsLifetime, ident}
use Rattle.rx_parse_grammar.specs.grammar.Expressions as g
use Rattle.rx_parse_grammar.specs.grammar.Expressions.{IsBlock, IsAnnotation}
use Rattle.rx_print_spelling.specs.Pieces.{word}
use Rattle.rx_print_spelling.proofs.TextsFormed.{words_left, words_right, type_formed}
use Rattle.rx_hoist_extraction.specs.Changed.{changed_body}
use Rattle.rx_splice_laws.specs.Edits.{Edit, replaced}
use Rattle.rx_splice_laws.specs.EditsOf.{body_edits}
use Rattle.rx_splice_laws.specs.SplicedRun.{Part}
use Rattle.rx_splice_laws.proofs.Edited as calculus
use Rattle.rx_splice_laws.proofs.Edited.{Edited, made, one_kept, then_kept}
use Rattle.rx_splice_laws.proofs.Kept.{Widening, KeptBy, TypedBy, SuitsBy, keep}
use Rattle.rx_splice_laws.proofs.Changing.{block_kept}
use Rattle.rx_splice_laws.proofs.Fitting.{Settled}
use Rattle.rx_compact_lifetimes.specs.Rewritten.{retyping}
use Rattle.rx_compact_text.specs.CompactedText.{renamed_edits, optional_edits, let_edits}
use Rattle.rx_compact_read.proofs.Types.{Calculus, Renamed, type_by, type_changed}
use Rattle.rx_compact_read.proofs.Names.{Name}

-- ---- a lifetime by its new name, in a calculus in which one may give way to another

pub renamed_by : (R : List Edit → List Tok → List Tok → Type 0) → ((ts : List Tok) → R [] ts ts)
    → ((k : Tok) (w : List ℕ) → IsLifetime k → IsWord Lifetime w → R (replaced k.span (word Lifetime w ∷ []) ∷ []) (k ∷ []) (made (word Lifetime w ∷ [])))
    → (k : Tok) (n : List ℕ) → IsLifetime k → Name n → Renamed R (renamed_edits (ident k) n) k n
renamed_by R kept other k n l w = by (bytes_eq n k.text) refl where
  by : (b : Bool) → bytes_eq n k.text ≡ b → Renamed R (if b then [] else replaced k.span (word Lifetime n ∷ []) ∷ []) k n
  by true e = record { tok = k; lifetime = l; text = sym ((bytes_eq-Decides n k.text).0 e); edited = kept (k ∷ []) }
  by false e = record { tok = token_at 0 Lifetime n; lifetime = (refl, w.1); text = refl; edited = other k n l w.0 }

-- ---- as many levels

abbrev pub SameLevels : ℕ → ℕ → Type 0
SameLevels h k = k ≡ h

pub same_levels : Widening SameLevels
same_levels = record {
  low_same = λ h. refl;
  low_more = λ h k e. ap suc e;
  low_both = λ h k m n e f. ap (λ x. max x n) e ∙ ap (λ x. max h x) f;
}

-- ---- a body

module _ (text : List ℕ) (m : List ℕ → Option (List ℕ)) (all : List Tok) (T : Settled all) (W : AreWords all) (G : (x : List ℕ) → Name x → (n : List ℕ) × (m x ≡ Some n) × Name n) where
  never : {A : Type 0} (x : List ℕ) → Name x → m x ≡ None → A
  never x n e = let r = G x n in absurd (no_some r.0 (sym e ∙ r.1)) where
    no_some : (y : List ℕ) → None ≡ Some y → ⊥
    no_some y e = absurd (cc)

  named : (x n : List ℕ) → Name x → m x ≡ Some n → Name n
  named x n h e = let r = G x h in subst Name (some_is r.0 n (sym r.1 ∙ e)) r.2 where
    some_is : (y n : List ℕ) → Some y ≡ Some n → y ≡ n
    some_is y n e = cc

  in_bodies : Calculus text m Edited
  in_bodies = record {
    kept = calculus.kept;
    joined = λ a b. calculus.joined a b;
    renamed = λ k n l f e. renamed_by Edited calculus.kept calculus.renamed k n l (named k.text n f e);
    anonymous = λ k l f e. never k.text f e;
    gone = λ a k sa l f e n r. never k.text f e;
  }

  typed_let : (ps ys : List Tok) (p : PatternTree) (y : Option TypeTree) (n : ℕ) → IsAnnotation ys y n → (z : Tok) → AreWords ys
      → TypedBy SameLevels (retyping (type_by m)) (optional_edits text m y) ps ys z p y n
  typed_let ps ys p y n g.no_type z a = record { tokens = []; edited = calculus.kept (ps ++ z ∷ []); type = None; height = 0; derived = g.no_type; same = refl; low = refl }
  typed_let ps ys p y n (g.with_type c us t h sc d is) z a =
      let r = type_changed text m Edited in_bodies d (type_formed d (subst AreWords is a).1) in record {
        tokens = c ∷ r.tokens;
        edited = calculus.joined (calculus.kept ps) (then_kept (calculus.moved is (one_kept c r.edited)) (z ∷ []));
        type = Some r.tree;
        height = h;
        derived = g.with_type c r.tokens r.tree h sc r.derived refl;
        same = ap (λ (x : TypeTree). Some x) r.same;
        low = refl;
      }

  part_words : (ts : List Tok) → Part all ts → AreWords ts
  part_words ts p = words_left ts p.post (words_right p.pre (ts ++ p.post) (subst AreWords p.is W))

  suits : SuitsBy SameLevels (let_edits text m) (retyping (type_by m)) all
  suits = record {
    int = λ f t v k n p. keep _ _ _ (calculus.kept (t ∷ [])) (g.number t v k n refl) refl refl;
    variable = λ f own t n p. keep _ _ _ (calculus.kept (t ∷ [])) (g.postfix (g.primary (g.variable t n refl))) refl refl;
    before_dot = λ f own t d n s p. keep _ _ _ (calculus.kept (t ∷ [])) (g.primary (g.variable t n refl)) refl refl;
    short = λ own t n p. keep _ _ _ (calculus.kept (t ∷ [])) (g.short_field t n refl) refl refl;
    long = T.long;
    break = λ ls ts l n b e d. keep _ _ _ (calculus.kept ts) d refl refl;
    continue = λ ls ts l n b e d. keep _ _ _ (calculus.kept ts) d refl refl;
    return = λ t s. keep _ _ _ (calculus.kept (t ∷ [])) (g.return t s refl) refl refl;
    return_with = λ t us h es x s n p r. keep _ _ _ (one_kept t r.edited) (g.return_with t r.tokens r.tree r.height s r.derived refl)
        (ap (λ (z : Expression). plain.return nowhere (plain.present z)) r.same) (ap suc r.low);
    blocks_stay = λ b c. refl;
    typed = λ ps ys p y a n sp sy z e w q. let k = part_words (ps ++ (ys ++ z ∷ [])) q in
        let r = typed_let ps ys p y n sy z (words_left ys (z ∷ []) (words_right ps (ys ++ z ∷ []) k)) in
        record { tokens = r.tokens; edited = r.edited; type = r.type; height = r.height; derived = r.derived; same = r.same; low = r.low };
  }

  pub body_changed : (ts : List Tok) (b : Body) (h : ℕ) → IsBlock ts b h → Part all ts
      → KeptBy SameLevels IsBlock erase_body ts h (body_edits (let_edits text m) [] [] b) (erase_body (changed_body (retyping (type_by m)) [] [] b))
  body_changed ts b h d p = block_kept SameLevels same_levels (let_edits text m) (retyping (type_by m)) all suits d [] [] p
