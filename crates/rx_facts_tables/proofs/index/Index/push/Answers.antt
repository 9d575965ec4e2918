use Rattle.std.specs.Vec.{with_items}
use Rattle.std.proofs.Common.{ℕ, List, [], ◌∷◌, length, subst, sym, ap, ◌∙◌, ◌≡◌}
use Rattle.std.proofs.lemmas.List.{with_items_is}
use Rattle.rx_facts_tables.specs.Turning.{Joined}
use Rattle.rx_facts_tables.proofs.Numbering.{on_ok, indexed}
use Rattle.rx_facts_tables.proofs.index.Index.push.Goals as goal

back : (c : goal.After-push) → (with_items c.grow.new.lists c.add_at.new.lists).items ≡ c.add_at.new.lists
back c = with_items_is c.grow.new.lists c.add_at.new.lists (c.in_ok-add_at.ensures.count ∙ ap (λ (l : List (List ℕ)). length l) c.as_mut_slice.ensures.value ∙ sym c.grow.new.lists.ok.0)

pub returns-clause-index : goal.returns-clause-index
returns-clause-index c = on_ok c.push.result (λ h. indexed c.args.self.now (record { roots = c.push.new.self; buckets = with_items c.grow.new.lists c.add_at.new.lists })
    c.grow.new.lists.items c.as_mut_slice.result.now c.args.root c.len-number.result c.key.result c.key-2.result
    c.requires.index c.requires.fresh c.len-number.ensures c.in_ok-grow.ensures.same c.key.ensures c.key-2.ensures c.in_ok-grow.ensures.within c.as_mut_slice.ensures.value
    (subst (λ (l : List (List ℕ)). Joined c.as_mut_slice.result.now l (c.key-2.result ∷ []) c.len-number.result) (sym (back c)) c.in_ok-add_at.ensures) h)
    c.push.ensures.ok
