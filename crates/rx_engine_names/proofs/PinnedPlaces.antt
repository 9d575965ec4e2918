-- Where kinds and types are written out, literals and `let`s fill their holes: a type that is made resolves, by induction on it, and
-- its tree says that type.
use Rattle.std.proofs.Common.{◌≡◌, ℕ, Bool, true, false, if◌then◌else◌, List, [], ◌∷◌, Option, Some, None, option_map, Ok, refl, sym, ap, ◌∙◌, subst, append-nil}
use Rattle.rx_core.specs.declared.types.Span.{Span}
use Rattle.rx_core.specs.declared.types.Kind as kinds
use Rattle.rx_tree.specs.Lists.{Every}
use Rattle.rx_tree.specs.Plain as plain
use Rattle.rx_tree.specs.Plain.{TypeTree, PatternTree, ProgramTree}
use Rattle.rx_tree.specs.Spans.{pattern_span}
use Rattle.rx_resolve_names.specs.declared.resolved.ItemNames.{ItemNames}
use Rattle.rx_resolve_names.specs.declared.resolved.NodeNames.{NodeNames}
use Rattle.rx_resolve_names.specs.Steps.{Outcome, Inside, one, both, child, next, entry, with_names, names}
use Rattle.rx_resolve_names.specs.Names.{in_type, in_types, in_optional_type}
use Rattle.rx_typed.specs.declared.nodes.Node.{Node}
use Rattle.rx_typed.specs.declared.nodes.Site.{Site}
use Rattle.rx_typed.specs.Named as named
use Rattle.rx_typed.specs.Naming as numbering
use Rattle.rx_typed.specs.Naming.{give, a_node, an_entry, first, of_type, of_types, of_optional_type}
use Rattle.rx_typed.specs.Types as types
use Rattle.rx_typed.specs.Types.{Typ, Shape, Shapes, integer, boolean, tuple_of, reference, no_shape, shape_and}
use Rattle.rx_hoist_extraction.specs.Made.{ident}
use Rattle.rx_hoist_extraction.specs.Plan.{Pins}
use Rattle.rx_hoist_extraction.specs.Run.{same_place}
use Rattle.rx_hoist_extraction.specs.WrittenTypes.{name_of, elided, all_elided}
use Rattle.rx_hoist_extraction.specs.Pinned.{at_place, suffix_of, pinned_suffix, pinned_type, pinning}
use Rattle.rx_engine_names.specs.Renaming.{Renaming, Made}
use Rattle.rx_engine_names.specs.LikeNamed.{SameSpan, LikeExp, like_hole, like_int, like_typed, like_other_type, like_no_annotation}
use Rattle.rx_engine_names.specs.WrittenOut.{Says, SayAll, says_kind, says_bool, says_tuple, says_reference, says_item, says_no_type, says_more_types, with_kind, with_type, written_out}
use Rattle.rx_engine_names.proofs.SideBySide.{then_ok, the_same, Frame, Reached, grows_not, Kind, Numbers, numbers_then, numbers_give, numbers_map, numbers_right, Keeps, taken_next, taken_names, taken_declared, taken_loops, Part, in_turn, restated, unchanged}
use Rattle.rx_engine_names.proofs.Scoped.{Outer}
use Rattle.rx_engine_names.proofs.Fitting.{Fits}
use Rattle.rx_engine_names.proofs.CopiedPatterns.{optional_type_alike}
use Rattle.rx_engine_names.proofs.Standing.{AnnotationNumbers}
use Rattle.rx_engine_names.proofs.FoundTypes.{Finds, FindAll}
use Rattle.rx_engine_names.proofs.PlainPlaces.{Becomes}

-- ---- a type that is made, where the first has nothing

pub keeps_node : (s : Span) (i : Site) → Keeps (a_node s i)
keeps_node s i = record { names = λ c. refl; declared = λ c. refl; loops = λ c. refl }

abbrev MadeType : ItemNames → ItemNames → Shape kinds.Kind → TypeTree → ItemNames → Kind
MadeType t u y z t' R u' es es' = Numbers (λ (a : Unit {0}) w. Says R y w) t u t' u' es es' (give tt) (of_type z)

abbrev MadeTypes : ItemNames → ItemNames → Shapes kinds.Kind → plain.TypeTrees → ItemNames → Kind
MadeTypes t u y z t' R u' es es' = Numbers (λ (a : Unit {0}) w. SayAll R y w) t u t' u' es es' (give tt) (of_types z)

-- a node and an entry that the second has alone
item_numbers : (R : Renaming) (i : ℕ) (n : Node) (x : NodeNames) {t u : ItemNames} → R.item i ≡ first x.numbers
    → Numbers (λ (a : Unit {0}) w. Says R (types.named i) w) t u t (with_names x u) [] (x ∷ []) (give tt) (numbering.and_then an_entry (λ ns. give (named.an_item n (first ns.0) None)))
item_numbers R i n x h = record {
  holds = λ c c' rest rest' q e e'. record {
    like = says_item (h ∙ ap (λ (a : List ℕ × Bool). first a.0) (sym (taken_next x rest' c' e')));
    cursors = record { declared = q.declared; declared' = taken_declared x rest' c' e' ∙ q.declared'; loops = q.loops; loops' = taken_loops x rest' c' e' ∙ q.loops' };
    left = e;
    left' = taken_names x rest' c' e';
  };
}

module _ (L : Frame) (I I' : Inside) (F : Fits L.items I I') (P : ProgramTree) (s : Span) where
  mutual
    made_type : (M : Made) (at' : List ℕ) (y : Shape kinds.Kind) → Finds I P y → (t u : ItemNames) → Reached L M t u
        → Part L M t t u (λ G v. in_type I' at' (elided P s y) u ≡ Ok v) (MadeType t u y (elided P s y) t)
    made_type M at' (integer k) f t u q =
        unchanged L M t t u (λ G v. Ok u ≡ Ok v) (MadeType t u (integer k) (plain.kind_type s k)) refl q refl (λ R. numbers_right (keeps_node s Site.Value) (λ n. numbers_give tt (named.a_kind n k) says_kind))
    made_type M at' boolean f t u q =
        unchanged L M t t u (λ G v. Ok u ≡ Ok v) (MadeType t u boolean (plain.bool_type s)) refl q refl (λ R. numbers_right (keeps_node s Site.Value) (λ n. numbers_give tt (named.a_bool n) says_bool))
    made_type M at' (tuple_of ys) f t u q =
        restated (made_types M at' 0 ys f t u q) (λ a. a) (λ R sv k. numbers_right (keeps_node s Site.Value) (λ n. numbers_map (λ a. a) (named.a_tuple n) k (λ a w h. says_tuple h)))
    made_type M at' (reference m y) f t u q =
        restated (made_type M (child at' 0) y f t u q) (λ a. a) (λ R sv k. numbers_right (keeps_node s Site.Value) (λ n. numbers_map (λ a. a) (named.a_reference n m) k (λ a w h. says_reference h)))
    made_type M at' (types.named i) f t u q =
        let x = ident s (name_of P i) in let j = F.items_fit.types x i (f s) in let z = entry I' at' (j.0 ∷ []) in record {
          made = M;
          grows = grows_not M;
          table = with_names z u;
          answer = ap (λ (o : Outcome ℕ). names I' at' (both (one o) (Ok [])) u) j.1;
          reached = record { vars = q.vars; loops = q.loops; passages = q.passages };
          added = [];
          added' = z ∷ [];
          grown = sym (append-nil t.names);
          grown' = refl;
          numbers = λ R sv. numbers_right (keeps_node s Site.Value) (λ n. item_numbers R i n z (sv.items_are i ∙ j.2));
        }

    made_types : (M : Made) (at' : List ℕ) (i' : ℕ) (ys : Shapes kinds.Kind) → FindAll I P ys → (t u : ItemNames) → Reached L M t u
        → Part L M t t u (λ G v. in_types I' at' i' (all_elided P s ys) u ≡ Ok v) (MadeTypes t u ys (all_elided P s ys) t)
    made_types M at' i' no_shape f t u q = unchanged L M t t u (λ G v. Ok u ≡ Ok v) (MadeTypes t u no_shape plain.no_type) refl q refl (λ R. numbers_give tt named.no_written says_no_type)
    made_types M at' i' (shape_and y ys) f t u q =
        let A = made_type M (child at' i') y f.0 t u q in
        let B = made_types A.made at' (next i') ys f.1 t A.table A.reached in
        in_turn A B (λ x z. then_ok (in_type I' (child at' i') (elided P s y)) (in_types I' at' (next i') (all_elided P s ys)) u A.table B.table x z)
        (λ R sv k h. numbers_then k (λ a w g. numbers_map (λ a. a) (named.written_and w) h (λ a ws d. says_more_types g d)))

  -- ---- the places

  module _ (pins : Pins) (known : Outer) (found : Every (λ (x : Span × Typ). Finds I P x.1) pins.types) where
    found_at : (xs : List (Span × Typ)) (p : Span) (y : Typ) → Every (λ (x : Span × Typ). Finds I P x.1) xs → at_place xs p ≡ Some y → Finds I P y
    found_at [] p y h e = absurd (cc)
    found_at (x ∷ xs) p y h e = by (same_place x.0 p) e (found_at xs p y h.1)
      where
        by : (b : Bool) → (if b then Some x.1 else at_place xs p) ≡ Some y → (at_place xs p ≡ Some y → Finds I P y) → Finds I P y
        by true e r = subst (λ (z : Typ). Finds I P z) (let h : x.1 ≡ y = cc in h) h.0
        by false e r = r e

    suffix_fits : (R : Renaming) (p : Span) (n n' : Node) (b b' : Bool) (v : ℕ) (k : Option kinds.Kind) → n.span ≡ p → SameSpan n n' → LikeExp (written_out (Some pins)) R (named.int n b v k) (named.int n' b' v (pinned_suffix pins p k))
    suffix_fits R p n n' b b' v (Some k) h g = like_int g
    suffix_fits R p n n' b b' v None h g = by (suffix_of (at_place pins.kinds p)) (ap (λ (z : Span). suffix_of (at_place pins.kinds z)) h)
      where
        by : (o : Option kinds.Kind) → suffix_of (at_place pins.kinds n.span) ≡ o → LikeExp (written_out (Some pins)) R (named.int n b v None) (named.int n' b' v o)
        by None e = like_int g
        by (Some k) e = like_hole (with_kind g e)

    abbrev TypePart : (M : Made) (at' : List ℕ) (p : PatternTree) (y : Option TypeTree) (z : Option TypeTree) (t t' u : ItemNames) → Type 0
    TypePart M at' p y z t t' u = Part L M t t' u (λ G v. in_optional_type I' at' z u ≡ Ok v) (AnnotationNumbers (written_out (Some pins)) (pattern_span p) t u y z t')

    type_fits : (M : Made) (at at' : List ℕ) (p : PatternTree) (y : Option TypeTree) (t t' u : ItemNames) → in_optional_type I at y t ≡ Ok t' → Reached L M t u → TypePart M at' p y (pinned_type P s pins p y) t t' u
    type_fits M at at' p (Some y) t t' u e q = restated (optional_type_alike L M I I' F at at' (Some y) t t' u e q) (λ z. z) (λ R sv h. numbers_map (λ z. z) (λ z. z) h (λ a b r. like_typed r))
    type_fits M at at' p None t t' u e q = subst (λ (z : ItemNames). TypePart M at' p None (option_map (elided P s) (at_place pins.types (pattern_span p))) t z u) (the_same t t' e) (by (at_place pins.types (pattern_span p)) refl)
      where
        by : (o : Option Typ) → at_place pins.types (pattern_span p) ≡ o → TypePart M at' p None (option_map (elided P s) o) t t u
        by None h = unchanged L M t t u (λ G v. Ok u ≡ Ok v) (AnnotationNumbers (written_out (Some pins)) (pattern_span p) t u None None) refl q refl (λ R. numbers_give None None (like_typed like_no_annotation))
        by (Some y) h = restated (made_type M at' y (found_at pins.types (pattern_span p) y found h) t u q) (λ a. a) (λ R sv k. numbers_map (λ a. None) (λ w. Some w) k (λ a w d. like_other_type (with_type h d)))

    pub pinned_becomes : Becomes L (written_out (Some pins)) I I' F.items_fit (pinning P s pins) known
    pinned_becomes = record { suffix = suffix_fits; annotated = type_fits; blocks = λ M own m w at at' b c t t' u e q h. h tt }
