-- Such places look like the text's, and what they ask stands for what the text asks.
use Rattle.std.proofs.Common.{◌≡◌, ℕ, Bool, true, false, List, [], ◌∷◌, ◌++◌, append_assoc, append-nil, sym, subst}
use Rattle.rx_core.specs.declared.types.Span.{Span}
use Rattle.rx_typed.specs.declared.nodes.Node.{Node}
use Rattle.rx_typed.specs.declared.nodes.Use.{Use}
use Rattle.rx_typed.specs.Named as named
use Rattle.rx_typed.specs.Named.{Exp}
use Rattle.rx_typeck_solver.specs.declared.facts.Subject.{Subject}
use Rattle.rx_typeck_solver.specs.declared.facts.Demand.{Demand}
use Rattle.rx_typeck_solver.specs.Facts.{Assignment, KnownItems}
use Rattle.rx_typeck_typed.specs.Asking.{all, fitting}
use Rattle.rx_typeck_typed.specs.Demands as rules
use Rattle.rx_engine_blocks.specs.Renumbering.{Renumbering, node_at}
use Rattle.rx_engine_blocks.specs.DemandsLike.{Is, DemandsLike}
use Rattle.rx_engine_blocks.specs.DemandsLike.Is.{itself}
use Rattle.rx_engine_blocks.specs.DemandsLike.FactLike.{like_fact}
use Rattle.rx_engine_blocks.specs.DemandsLike.FactsLike.{like_no_fact, like_more_facts}
use Rattle.rx_engine_blocks.specs.DemandsLike.DemandsLike.{like_more_demands, like_other_demands}
use Rattle.rx_engine_blocks.specs.Along.{PartialInverse, Viewed, composed}
use Rattle.rx_engine_blocks.specs.Parts.{AllAbout, SameAs}
use Rattle.rx_engine_blocks.specs.Made.{MadeExp}
use Rattle.rx_engine_blocks.proofs.MadeCode.{exp_keeps, returns_keep}
use Rattle.rx_engine_blocks.specs.Blocks.{Behind}
use Rattle.rx_engine_blocks.specs.Seen as seen
use Rattle.rx_engine_blocks.specs.Seen.{SeenDemands}
use Rattle.rx_engine_blocks.specs.Pinned as pinned
use Rattle.rx_engine_blocks.specs.Pinned.{PinnedDemands}
use Rattle.rx_engine_blocks.specs.Sites.{ChangedSite}
use Rattle.rx_engine_blocks.specs.Sites.ChangedSite.{no_test, new_test}
use Rattle.rx_engine_typing.specs.Renumbered.{NodeAt, use_so}
use Rattle.rx_engine_typing.specs.Renumbered.NodeAt.{renumbered}
use Rattle.rx_engine_typing.proofs.Looks.{Fits, OtherUse, RootOf, Longer, Remade, RootLike as root, ThroughLike as through_like}
use Rattle.rx_engine_typing.proofs.Rules.{place_like, value_like, never_like}
use Rattle.rx_engine_typing.proofs.Forms.{Asks}
use Rattle.rx_engine_holes.specs.Special.{SpecialExp, special_at}
use Rattle.rx_engine_holes.specs.Special.SpecialExp.{a_dereference, a_suffix, a_break, a_continue}

module _ (Returns : Type 0) (r : Renumbering) (u : PartialInverse r) (view : Viewed) (behind : Behind) (D E : KnownItems) (A V : Assignment) (loops : ℕ → ℕ) (S : List Demand → List Demand → Type 0)
    (seen_so : (gs gs' : List Demand) → SeenDemands r u view behind gs gs' → S gs gs') (pinned_so : (gs gs' : List Demand) → PinnedDemands r A gs gs' → S gs gs')
    (added_so : (d : Demand) → AllAbout (SameAs (composed r u view A V) V) d.facts → d.unsuffixed ≡ false → S [] (d ∷ [])) (changed_so : (gs gs' : List Demand) → ChangedSite r view D E A gs gs' → S gs gs') where
  abbrev H : Exp → Exp → Type 0
  H = SpecialExp r u view behind A V

  abbrev R : List Demand → List Demand → Type 0
  R = DemandsLike r S

  pub longer : Longer r S
  longer = record {
    lengthen = λ n s b b' t t' xs anc ps k. seen_so _ _ (seen.SeenDemands.longer xs anc ps k);
    assigned = λ n s b' own qs. seen_so _ _ (seen.SeenDemands.assigned n.number);
  }

  -- a variable that is `mut` in one alone
  remade : Remade r S
  remade = record { lost = λ n b own ps. changed_so _ _ no_test; new = λ n s b own ps. changed_so _ _ (new_test (r.nodes n.number)) }

  pub used : (x : Use) (m k : Bool) → k ≡ x.known → OtherUse r S x m k
  used x m k e = record { remade = remade; named = λ n s ds ds' d. subst (λ (j : Bool). R (rules.named_at n x x.known ds) (rules.named_at (node_at r n s) (use_so r m j x) j ds')) (sym e) (by n s x.known ds ds' d) }
    where
      by : (n : Node) (s : Span) (j : Bool) (ds ds' : List Demand) → R ds ds' → R (rules.named_at n x j ds) (rules.named_at (node_at r n s) (use_so r m j x) j ds')
      by n s true ds ds' d = like_more_demands d (record { node = itself; unsuffixed = itself; facts = like_more_facts like_fact like_no_fact })
      by n s false ds ds' d = like_more_demands d (record { node = itself; unsuffixed = itself; facts = like_more_facts like_fact like_no_fact })

  pub special_fits : Fits r loops (special_at Returns r u view behind A V) S
  special_fits = record { node = node; place = place; root = its_root; diverges = diverges; never = never; uses = used; block_node = λ b b' h. absurd h; block_diverges = λ b b' h. absurd h; block_never = λ b b' h. absurd h }
    where
      node : (e e' : Exp) → H e e' → NodeAt r (named.node_of e) (named.node_of e')
      node e e' (a_dereference h i v) = renumbered
      node e e' (a_suffix h) = renumbered
      node e e' (a_break h) = renumbered
      node e e' (a_continue h) = renumbered

      place : (e e' : Exp) → H e e' → Is (named.is_place e) (named.is_place e')
      place e e' (a_dereference h i v) = itself
      place e e' (a_suffix h) = itself
      place e e' (a_break h) = itself
      place e e' (a_continue h) = itself

      its_root : (e e' : Exp) → H e e' → RootOf r S e e'
      its_root e e' (a_dereference {k = k} h i v) = root.seen longer k
      its_root e e' (a_suffix h) = root.plain
      its_root e e' (a_break h) = root.plain
      its_root e e' (a_continue h) = root.plain

      diverges : (e e' : Exp) → H e e' → Is (named.diverges e) (named.diverges e')
      diverges e e' (a_dereference h i v) = itself
      diverges e e' (a_suffix h) = itself
      diverges e e' (a_break h) = itself
      diverges e e' (a_continue h) = itself

      never : (e e' : Exp) → H e e' → Is (named.never e) (named.never e')
      never e e' (a_dereference h i v) = itself
      never e e' (a_suffix h) = itself
      never e e' (a_break h) = itself
      never e e' (a_continue h) = itself

  pub one_then_two : (ds ds' : List Demand) (a a' b' : Demand) → R (ds ++ a ∷ []) (ds' ++ a' ∷ b' ∷ []) → R (ds ++ a ∷ []) ((ds' ++ a' ∷ []) ++ b' ∷ [])
  one_then_two ds ds' a a' b' h = subst (λ xs. R (ds ++ a ∷ []) xs) (sym (append_assoc ds' (a' ∷ []) (b' ∷ []))) h

  -- one demand that is added
  pub add_one : (ds : List Demand) (d : Demand) → AllAbout (SameAs (composed r u view A V) V) d.facts → d.unsuffixed ≡ false → (gs : List Demand) → R ds gs → R ds (gs ++ d ∷ [])
  add_one ds d a e gs h = subst (λ xs. R xs (gs ++ d ∷ [])) (append-nil ds) (like_other_demands [] (d ∷ []) h (added_so d a e))

  pub made_return : (f : ℕ) (n : Node) (e : Exp) → MadeExp (SameAs (composed r u view A V) V) e → (ds ds' : List Demand) → R ds ds'
      → R ds (rules.of_exp f e (rules.returns_unit f n (named.present e) ds'))
  made_return f n e h ds ds' d = exp_keeps P (R ds) (add_one ds) f e h _ (returns_keep P (R ds) (add_one ds) f n (named.present e) h ds' d)
    where
      P : Subject → Type 0
      P = SameAs (composed r u view A V) V

  -- in one function for another
  pub special_asks_in : (f f' : ℕ) (e e' : Exp) (ds ds' : List Demand) → H e e' → R ds ds' → R (rules.of_exp f e ds) (rules.of_exp f' e' ds')
  special_asks_in f f' e e' ds ds' (a_dereference {n = n} {s = s} {x = x} {y = y} {k = k} h i v) d =
      place_like r loops (special_at Returns r u view behind A V) S special_fits n s x y n.site (through_like.longer longer k)
      (one_then_two ds ds' _ _ _ (like_other_demands _ _ d (seen_so _ _ (seen.SeenDemands.seen_variable h i v))))
  special_asks_in f f' e e' ds ds' (a_suffix {n = n} {s = s} {m = m} {v = v} {l = l} h) d =
      like_other_demands (pinned.of_range n.number n.span (fitting m v) true) _
      (value_like r loops (special_at Returns r u view behind A V) S special_fits n s n.site (like_other_demands (pinned.of_suffix n.number n.span all) _ d (pinned_so _ _ (pinned.PinnedDemands.suffixed n.number h))))
      (pinned_so _ _ (pinned.PinnedDemands.in_range n.number))
  special_asks_in f f' e e' ds ds' (a_break {n = n} {s = s} {e = x} h) d =
      never_like r loops (special_at Returns r u view behind A V) S special_fits n s n.site (made_return f' (node_at r n s) x h ds ds' d)
  special_asks_in f f' e e' ds ds' (a_continue {n = n} {s = s} {e = x} h) d =
      never_like r loops (special_at Returns r u view behind A V) S special_fits n s n.site (made_return f' (node_at r n s) x h ds ds' d)

  pub special_asks : Asks r loops (special_at Returns r u view behind A V) S
  special_asks = record { asks = λ f e e' ds ds' h d. special_asks_in f (r.items f) e e' ds ds' h d; block_asks = λ f b b' ds ds' h d. absurd h; given_asks = λ f n p s t x m d e e' k h. absurd k }
