-- Types that are made in the second program alone, with lifetimes or without: they resolve, and their trees say these types. By
-- induction on the type.
use Rattle.std.proofs.Common.{◌≡◌, ℕ, zero, suc, ◌+◌, ◌≤◌, ◌<◌, arith, Bool, false, List, [], ◌∷◌, length, map, Option, Some, None, Ok, refl, sym, ap, ◌∙◌, subst}
use Rattle.rx_core.specs.declared.types.Span.{Span}
use Rattle.rx_core.specs.declared.types.Kind as kinds
use Rattle.rx_tree.specs.declared.tree.Ident.{Ident}
use Rattle.rx_tree.specs.Plain as plain
use Rattle.rx_tree.specs.Plain.{TypeTree, TypeTrees, ProgramTree}
use Rattle.rx_resolve_names.specs.declared.resolved.ItemNames.{ItemNames}
use Rattle.rx_resolve_names.specs.declared.resolved.NodeNames.{NodeNames}
use Rattle.rx_resolve_names.specs.Steps.{Outcome, Inside, one, both, child, next}
use Rattle.rx_resolve_names.specs.Names.{lifetime_in, lifetimes_in, type_in, written, in_lifetime, in_type, in_types}
use Rattle.rx_typed.specs.declared.nodes.Node.{Node}
use Rattle.rx_typed.specs.declared.nodes.Site.{Site}
use Rattle.rx_typed.specs.Named as named
use Rattle.rx_typed.specs.Named.{Written, WrittenTypes}
use Rattle.rx_typed.specs.Naming as numbering
use Rattle.rx_typed.specs.Naming.{give, an_entry, first, lifetimes_written, of_type, of_types}
use Rattle.rx_typed.specs.Types as types
use Rattle.rx_typed.specs.Types.{Shape, Shapes, integer, boolean, tuple_of, reference, no_shape, shape_and}
use Rattle.rx_hoist_extraction.specs.Made.{ident}
use Rattle.rx_hoist_extraction.specs.WrittenTypes.{name_of, lifetimes_of, positions, all_positions, lifetimes_from, list_if_any, full, all_full, elided, all_elided}
use Rattle.rx_engine_names.specs.Renaming.{Renaming, Made, Serves}
use Rattle.rx_engine_names.specs.WrittenOut.{Says, SayAll, says_kind, says_bool, says_tuple, says_reference, says_item, says_no_type, says_more_types}
use Rattle.rx_engine_names.specs.NewFunction.{count_if_any, SaysFull, SayAllFull, full_kind, full_bool, full_tuple, full_reference, full_item, full_no_type, full_more_types}
use Rattle.rx_engine_names.proofs.SideBySide.{then_ok}
use Rattle.rx_engine_names.proofs.Fitting.{FitItems}
use Rattle.rx_engine_names.proofs.FoundTypes.{Finds, FindAll}
use Rattle.rx_engine_names.proofs.Alone.{Alone, alone_give, alone_then, alone_map, alone_node, KindAlone, Makes, makes_nothing, makes_then, makes_map, makes_entry}

-- ---- kinds of what is made

abbrev pub TypeAlone : (Renaming → Written → Type 0) → ItemNames → TypeTree → KindAlone
TypeAlone S u y R u' es = Alone (S R) u u' es (of_type y)

abbrev pub TypesAlone : (Renaming → WrittenTypes → Type 0) → ItemNames → TypeTrees → KindAlone
TypesAlone S u y R u' es = Alone (S R) u u' es (of_types y)

-- ---- an item of which so many lifetimes are written

written_list : (ls : List Ident) → written (list_if_any ls) ≡ map (λ x. Some x) ls
written_list [] = refl
written_list (l ∷ ls) = refl

length_of_row : (s : Span) (row : ℕ → List ℕ) (n many : ℕ) → length (map (λ (x : Ident). Some x) (lifetimes_from s row n many)) ≡ many
length_of_row s row n zero = refl
length_of_row s row n (suc many) = ap suc (length_of_row s row (suc n) many)

pub many_written : (s : Span) (row : ℕ → List ℕ) (n many : ℕ) → lifetimes_written (list_if_any (lifetimes_from s row n many)) ≡ count_if_any many
many_written s row n zero = refl
many_written s row n (suc many) = ap (λ z. Some (suc z)) (length_of_row s row (suc n) many)

item_alone : {S : Written → Type 0} {u u' : ItemNames} {es : List NodeNames} (n : Node) (j : ℕ) (ns : List ℕ) (many : Option ℕ) → S (named.an_item n j many)
    → Alone (λ a. a ≡ (j ∷ ns, false)) u u' es an_entry → Alone S u u' es (numbering.and_then an_entry (λ a. give (named.an_item n (first a.0) many)))
item_alone {S = S} n j ns many h N = alone_map (λ (a : List ℕ × Bool). named.an_item n (first a.0) many) N (λ a e. subst (λ (z : List ℕ × Bool). S (named.an_item n (first z.0) many)) (sym e) h)

module _ (items : ℕ → ℕ) (M : Made) (I' : Inside) (s : Span) where
  -- ---- with a lifetime at each position: those of a row that are below a number have meanings

  module _ (row : ℕ → List ℕ) (total : ℕ) (meant : (i : ℕ) → i < total → (k : ℕ) × (lifetime_in I' (ident s (row i)) ≡ Ok k)) where
    pub row_meant : (n many : ℕ) → n + many ≤ total → (ks : List ℕ) × (lifetimes_in I' (map (λ x. Some x) (lifetimes_from s row n many)) ≡ Ok ks)
    row_meant n zero l = ([], refl)
    row_meant n (suc many) l =
        let a = meant n (omega (arith, l)) in
        let b = row_meant (suc n) many (omega (arith, l)) in
        (a.0 ∷ b.0, ap (λ (o : Outcome ℕ). both (one o) (lifetimes_in I' (map (λ x. Some x) (lifetimes_from s row (suc n) many)))) a.1 ∙ ap (λ (o : Outcome (List ℕ)). both (Ok (a.0 ∷ [])) o) b.1)

    -- a struct or enum by its name, with its lifetimes
    pub item_made : (S : Renaming → Written → Type 0) (at' : List ℕ) (x : List ℕ) (j n many : ℕ) → type_in I' (ident s x) ≡ Ok j → n + many ≤ total
        → ((R : Renaming) → Serves items M R → (d : Node) → d.span ≡ s → S R (named.an_item d j (count_if_any many))) → (u : ItemNames)
        → Makes items M u (λ v. in_type I' at' (plain.named_type s (ident s x) (list_if_any (lifetimes_from s row n many))) u ≡ Ok v) (TypeAlone S u (plain.named_type s (ident s x) (list_if_any (lifetimes_from s row n many))))
    item_made S at' x j n many is l h u =
        let ls = lifetimes_from s row n many in
        let ks = row_meant n many l in
        let r = both (one (type_in I' (ident s x))) (lifetimes_in I' (written (list_if_any ls))) in
        let e : r ≡ Ok (j ∷ ks.0) = ap (λ (o : Outcome ℕ). both (one o) (lifetimes_in I' (written (list_if_any ls)))) is
        ∙ ap (λ (z : List (Option Ident)). both (Ok (j ∷ [])) (lifetimes_in I' z)) (written_list ls) ∙ ap (λ (o : Outcome (List ℕ)). both (Ok (j ∷ [])) o) ks.1 in
        let A = makes_entry {items = items} {M = M} I' at' u j ks.0 r e in
        makes_map A (λ a. a) (λ R sv N. alone_node s Site.Value (λ d g. item_alone d j ks.0 (lifetimes_written (list_if_any ls))
        (subst (λ (z : Option ℕ). S R (named.an_item d j z)) (sym (many_written s row n many)) (h R sv d g)) N))

    module _ (I : Inside) (F : FitItems items I I') (P : ProgramTree) where
      mutual
        pub full_made : (at' : List ℕ) (n : ℕ) (y : Shape kinds.Kind) → Finds I P y → n + positions P y ≤ total → (u : ItemNames)
            → Makes items M u (λ v. in_type I' at' (full P s row n y) u ≡ Ok v) (TypeAlone (λ R w. SaysFull P s R y w) u (full P s row n y))
        full_made at' n (integer k) f l u = makes_nothing u (λ v. Ok u ≡ Ok v) (TypeAlone (λ R w. SaysFull P s R (integer k) w) u (plain.kind_type s k)) refl (λ R. alone_node s Site.Value (λ d g. alone_give (named.a_kind d k) (full_kind g)))
        full_made at' n boolean f l u = makes_nothing u (λ v. Ok u ≡ Ok v) (TypeAlone (λ R w. SaysFull P s R boolean w) u (plain.bool_type s)) refl (λ R. alone_node s Site.Value (λ d g. alone_give (named.a_bool d) (full_bool g)))
        full_made at' n (tuple_of ys) f l u = makes_map (all_made at' 0 n ys f l u) (λ a. a) (λ R sv N. alone_node s Site.Value (λ d g. alone_map (named.a_tuple d) N (λ ws h. full_tuple g h)))
        full_made at' n (reference m y) f l u =
            let a = meant n (omega (arith, l)) in
            let A = makes_entry {items = items} {M = M} I' at' u a.0 [] (one (lifetime_in I' (ident s (row n)))) (ap (λ (o : Outcome ℕ). one o) a.1) in
            let B = full_made (child at' 0) (suc n) y f (omega (arith, l)) A.table in
            makes_then A B (λ p q. then_ok (in_lifetime I' at' (Some (ident s (row n)))) (in_type I' (child at' 0) (full P s row (suc n) y)) u A.table B.table p q)
            (λ R sv N O. alone_node s Site.Value (λ d g. alone_then N (λ _ _. alone_map (named.a_reference d m) O (λ w h. full_reference g h))))
        full_made at' n (types.named i) f l u =
            let j = F.types (ident s (name_of P i)) i (f s) in
            item_made (λ R w. SaysFull P s R (types.named i) w) at' (name_of P i) j.0 n (lifetimes_of P i) j.1 l (λ R sv d g. full_item g (sv.items_are i ∙ j.2)) u

        all_made : (at' : List ℕ) (i' n : ℕ) (ys : Shapes kinds.Kind) → FindAll I P ys → n + all_positions P ys ≤ total → (u : ItemNames)
            → Makes items M u (λ v. in_types I' at' i' (all_full P s row n ys) u ≡ Ok v) (TypesAlone (λ R w. SayAllFull P s R ys w) u (all_full P s row n ys))
        all_made at' i' n no_shape f l u = makes_nothing u (λ v. Ok u ≡ Ok v) (TypesAlone (λ R w. SayAllFull P s R no_shape w) u plain.no_type) refl (λ R. alone_give named.no_written full_no_type)
        all_made at' i' n (shape_and y ys) f l u =
            let A = full_made (child at' i') n y f.0 (omega (arith, l)) u in
            let B = all_made at' (next i') (n + positions P y) ys f.1 (omega (arith, l)) A.table in
            makes_then A B (λ p q. then_ok (in_type I' (child at' i') (full P s row n y)) (in_types I' at' (next i') (all_full P s row (n + positions P y) ys)) u A.table B.table p q)
            (λ R sv N O. alone_then N (λ w g. alone_map (named.written_and w) O (λ ws h. full_more_types g h)))

  -- ---- without lifetimes

  module _ (I : Inside) (F : FitItems items I I') (P : ProgramTree) where
    mutual
      pub elided_made : (at' : List ℕ) (y : Shape kinds.Kind) → Finds I P y → (u : ItemNames) → Makes items M u (λ v. in_type I' at' (elided P s y) u ≡ Ok v) (TypeAlone (λ R w. Says R y w) u (elided P s y))
      elided_made at' (integer k) f u = makes_nothing u (λ v. Ok u ≡ Ok v) (TypeAlone (λ R w. Says R (integer k) w) u (plain.kind_type s k)) refl (λ R. alone_node s Site.Value (λ d g. alone_give (named.a_kind d k) says_kind))
      elided_made at' boolean f u = makes_nothing u (λ v. Ok u ≡ Ok v) (TypeAlone (λ R w. Says R boolean w) u (plain.bool_type s)) refl (λ R. alone_node s Site.Value (λ d g. alone_give (named.a_bool d) says_bool))
      elided_made at' (tuple_of ys) f u = makes_map (all_elided_made at' 0 ys f u) (λ a. a) (λ R sv N. alone_node s Site.Value (λ d g. alone_map (named.a_tuple d) N (λ ws h. says_tuple h)))
      elided_made at' (reference m y) f u = makes_map (elided_made (child at' 0) y f u) (λ a. a) (λ R sv N. alone_node s Site.Value (λ d g. alone_map (named.a_reference d m) N (λ w h. says_reference h)))
      elided_made at' (types.named i) f u =
          let j = F.types (ident s (name_of P i)) i (f s) in
          let A = makes_entry {items = items} {M = M} I' at' u j.0 [] (both (one (type_in I' (ident s (name_of P i)))) (Ok [])) (ap (λ (o : Outcome ℕ). both (one o) (Ok [])) j.1) in
          makes_map A (λ a. a) (λ R sv N. alone_node s Site.Value (λ d g. item_alone {S = λ w. Says R (types.named i) w} d j.0 [] None (says_item (sv.items_are i ∙ j.2)) N))

      all_elided_made : (at' : List ℕ) (i' : ℕ) (ys : Shapes kinds.Kind) → FindAll I P ys → (u : ItemNames) → Makes items M u (λ v. in_types I' at' i' (all_elided P s ys) u ≡ Ok v) (TypesAlone (λ R w. SayAll R ys w) u (all_elided P s ys))
      all_elided_made at' i' no_shape f u = makes_nothing u (λ v. Ok u ≡ Ok v) (TypesAlone (λ R w. SayAll R no_shape w) u plain.no_type) refl (λ R. alone_give named.no_written says_no_type)
      all_elided_made at' i' (shape_and y ys) f u =
          let A = elided_made (child at' i') y f.0 u in
          let B = all_elided_made at' (next i') ys f.1 A.table in
          makes_then A B (λ p q. then_ok (in_type I' (child at' i') (elided P s y)) (in_types I' at' (next i') (all_elided P s ys)) u A.table B.table p q)
          (λ R sv N O. alone_then N (λ w g. alone_map (named.written_and w) O (λ ws h. says_more_types g h)))
