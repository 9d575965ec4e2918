-- Entries are looked at as the types that they stand for.
use Rattle.std.proofs.Common.{◌≡◌, ℕ, Bool, length, get_or, Option, Some, None, refl, sym, ap, ◌∙◌, arith}
use Rattle.std.specs.Prelude.{option_map}
use Rattle.rx_core.specs.declared.types.Kind.{Kind}
use Rattle.rx_typed.specs.Types.{Shapes, integer, boolean, tuple_of, reference, named, shapes_map, peeled}
use Rattle.rx_typeck_solver.specs.declared.facts.Kinds.{Kinds}
use Rattle.rx_typeck_solver.specs.declared.facts.Subject.{Subject}
use Rattle.rx_typeck_solver.specs.declared.arena.Form.{Form}
use Rattle.rx_typeck_solver.specs.declared.arena.Form.TheVariants as form
use Rattle.rx_typeck_solver.specs.declared.solver.Solved.{Solved}
use Rattle.rx_typeck_solver.specs.Facts.{part_of}
use Rattle.rx_typeck_solver.specs.Solver.{Fixed, pick, filled_leaf, filled_by, filled_or}
use Rattle.rx_typeck_solver.specs.Parents.{set_of}
use Rattle.rx_typeck_solver.specs.Cells.{term_in, shapes_in, cell_form, cell, term, form_at}
use Rattle.rx_typeck_solver.specs.Tabled.{index_of, table_of}
use Rattle.rx_typeck_solver.specs.Growing.{MadeIs}
use Rattle.rx_typeck_solver.specs.Solving.{types_of, HasTerm, IsSound}
use Rattle.rx_typeck_solver.specs.Views.{kind_found, IsEntry, typ_at, PartIs}
use Rattle.rx_typeck_solver.proofs.Natural.{peeled_map, parts_map}
use Rattle.rx_typeck_solver.proofs.Pairing.{term_is, to_lower}
use Rattle.rx_typeck_solver.proofs.States.{table_is}

pub entry_some : (s : Solved) (x : Subject) (o : Option ℕ) (i : ℕ) → IsSound s → o ≡ index_of s.tables x → o ≡ Some i → HasTerm s x × IsEntry s i × (types_of s x ≡ typ_at s i)
entry_some s x o i g e h =
    let q : table_of s.arena.entries.items s.tables x ≡ Some (term s.arena.entries.items i) = table_is s.arena.entries.items s.tables x o e ∙ ap (option_map (term s.arena.entries.items)) h in
    ((term s.arena.entries.items i, q), g.fits.terms x i (sym e ∙ h), ap (filled_or (kind_found s)) q)

pub entry_none : (s : Solved) (x : Subject) (o : Option ℕ) → o ≡ index_of s.tables x → o ≡ None → HasTerm s x → ⊥
entry_none s x o e h t =
    let q : table_of s.arena.entries.items s.tables x ≡ None = table_is s.arena.entries.items s.tables x o e ∙ ap (option_map (term s.arena.entries.items)) h in
    let y : None ≡ Some t.0 = sym q ∙ t.1 in cc

module _ (s : Solved) (g : IsSound s) (i : ℕ) (f : Form) (t : IsEntry s i) (e : f ≡ form_at s.arena.entries.items i) where
  is : typ_at s i ≡ filled_by (kind_found s) (term_in (cell_form (cell s.arena.entries.items) f))
  is = ap (filled_by (kind_found s)) (term_is s.arena.entries.items (length s.tables.classes.parents.items) i f g.fits.formed t.0 e)

  as_form : (h : Form) → f ≡ h → typ_at s i ≡ filled_by (kind_found s) (term_in (cell_form (cell s.arena.entries.items) h))
  as_form h r = is ∙ ap (λ x. filled_by (kind_found s) (term_in (cell_form (cell s.arena.entries.items) x))) r

  pub fixed_seen : (k : Kind) → f ≡ form.Fixed k → typ_at s i ≡ integer k
  fixed_seen k r = as_form (form.Fixed k) r

  pub open_seen : (n c : ℕ) (k : Kinds) (p : Kind) → f ≡ form.KindOf n → c ≡ get_or s.tables.classes.parents.items n n → k ≡ set_of s.tables.classes.sets.items c → p ≡ pick k → typ_at s i ≡ integer p
  open_seen n c k p r ec ek ep = as_form (form.KindOf n) r ∙ ap integer (sym (ep ∙ ap pick (ek ∙ ap (set_of s.tables.classes.sets.items) (ec ∙ g.flat n))))

  pub truth_seen : f ≡ form.Boolean → typ_at s i ≡ boolean
  truth_seen r = as_form form.Boolean r

  pub tuple_seen : (j : ℕ) → f ≡ form.Tuple j → (ts : Shapes Kind) × (typ_at s i ≡ tuple_of ts)
  tuple_seen j r = (shapes_map (filled_leaf (kind_found s)) (shapes_in (cell s.arena.entries.items j)), as_form (form.Tuple j) r)

  pub reference_seen : (m : Bool) (j : ℕ) → f ≡ form.Reference m j → IsEntry s j × (typ_at s i ≡ reference m (typ_at s j))
  reference_seen m j r =
      let p = to_lower s.arena.entries.items (length s.tables.classes.parents.items) i f m j g.fits.formed t.0 e r in
      let l = p.0 in let h = t.0 in ((omega (arith, l, h), p.1), as_form (form.Reference m j) r)

  pub named_seen : (k : ℕ) → f ≡ form.Named k → typ_at s i ≡ named k
  named_seen k r = as_form (form.Named k) r

  pub nothing_seen : f ≡ form.Nothing → (ts : Shapes Kind) × (typ_at s i ≡ tuple_of ts)
  nothing_seen r = (_, as_form form.Nothing r)

  pub list_seen : (j k : ℕ) → f ≡ form.And j k → (ts : Shapes Kind) × (typ_at s i ≡ tuple_of ts)
  list_seen j k r = (_, as_form (form.And j k) r)

pub part_seen : (s : Solved) (i k : ℕ) (r : Option ℕ) → MadeIs s.arena.entries.items r (part_of k (peeled (term s.arena.entries.items i))) → PartIs s r (part_of k (peeled (typ_at s i)))
part_seen s i k r m = go r m
  where
    is : part_of k (peeled (typ_at s i)) ≡ option_map (filled_by (kind_found s)) (part_of k (peeled (term s.arena.entries.items i)))
    is = ap (part_of k) (peeled_map (filled_leaf (kind_found s)) (term s.arena.entries.items i)) ∙ parts_map (filled_leaf (kind_found s)) Fixed (λ k. k) (λ k. refl) k (peeled (term s.arena.entries.items i))

    go : (r : Option ℕ) → MadeIs s.arena.entries.items r (part_of k (peeled (term s.arena.entries.items i))) → PartIs s r (part_of k (peeled (typ_at s i)))
    go None m = is ∙ ap (option_map (filled_by (kind_found s))) m
    go (Some j) m = (m.0, is ∙ ap (option_map (filled_by (kind_found s))) m.1)
