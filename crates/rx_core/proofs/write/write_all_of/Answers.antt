-- The sink took a front of the bytes: those of the turns before, and what the last turn took.
use Rattle.std.proofs.Common.{◌≡◌, ℕ, ◌-◌, ◌≤◌, ◌<◌, List, length, take, drop, sym, subst, ◌∙◌, arith, length-take, length-drop}
use Rattle.rx_core.specs.Streams.{Grown}
use Rattle.rx_core.proofs.StreamsLemmas.{grown-on, grown-still}
use Rattle.rx_core.proofs.write.write_all_of.Goals as goal

some_left : (n done : ℕ) → done ≤ n → (done ≡ n → ⊥) → 1 ≤ n - done
some_left n done h k = omega arith

all_but : (n done left : ℕ) → done ≤ n → n - done ≡ left → n - left ≡ done
all_but n done left h e = omega arith

still : (a b : ℕ) → a ≤ b → (a < b → ⊥) → b ≡ a
still a b h k = omega arith

piece_long : (xs : List ℕ) (done : ℕ) → 1 ≤ length xs - done → 0 < length (take (length xs - done) (drop done xs))
piece_long xs done h = omega (arith, length-take (length xs - done) (drop done xs), length-drop done xs)

pub returns-in-Ok-eq0-clause-front : goal.returns-in-Ok-eq0-clause-front
returns-in-Ok-eq0-clause-front g c = (
  c.loop-turn.done,
  c.loop-turn.invariant.within,
  grown-still _ _ _ _ _ _ c.in-Ok-eq0.field-0-test c.loop-turn.invariant.grown c.in-Ok-eq0.ensures.takes,
)

pub returns-in-Ok-eq0-clause-stuck : goal.returns-in-Ok-eq0-clause-stuck
returns-in-Ok-eq0-clause-stuck g c = λ left h.
    let e : length c.args.bytes.now - c.loop-turn.done ≡ left = cc in
    let n = length c.args.bytes.now in
    let p = some_left n c.loop-turn.done c.loop-turn.invariant.within c.if-done-bytes.false in
    let s = c.put.ensures.stood (cc) (piece_long c.args.bytes.now c.loop-turn.done p) in
    let front = grown-still _ _ _ _ _ _ c.in-Ok-eq0.field-0-test c.loop-turn.invariant.grown c.in-Ok-eq0.ensures.takes in (
      subst (λ (k : ℕ). 1 ≤ k) e p,
      omega (arith, e),
      subst (λ (k : ℕ). k < 18446744073709551615 → k < g.K.Sink.standstills c.put.new.self) c.loop-turn.invariant.standstills s,
      subst (λ (k : ℕ). Grown (g.K.Sink.contents c.args.sink.now) (g.K.Sink.contents c.put.new.self) (take k c.args.bytes.now))
          (sym (all_but n c.loop-turn.done left c.loop-turn.invariant.within e)) front,
    )

pub loop-turn-preserved : goal.loop-turn-preserved
loop-turn-preserved g c =
    let p = grown-on _ _ _ c.args.bytes.now c.loop-turn.done c.in-Ok.n c.loop-turn.invariant.within c.in-Ok.ensures.bound
    c.loop-turn.invariant.grown c.in-Ok.ensures.takes in
    record {
      busy = grind arith;
      within = p.0;
      grown = p.1;
      sound = c.in-Ok.ensures.sound ∙ c.loop-turn.invariant.sound;
      counted = omega (arith, c.put.ensures.counted.0);
      puts = omega (arith, c.put.ensures.counted.1);
      faults = omega arith;
      standstills =
          still _ _ c.put.ensures.standstills (λ h. let q = (c.put.ensures.moved h).0 in c.in-Ok.n-test.1 (cc))
          ∙ c.loop-turn.invariant.standstills;
    }
