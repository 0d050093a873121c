-- `ranges::walk::next_block` meets its contract.
use mathlib.Core.Path.{◌≡◌, refl, sym, ◌∙◌}
use mathlib.Core.List.{List}
use Prim.Native.Nat.{ℕ, zero, suc, ◌+◌, ◌-◌, ◌≤◌, ◌<◌}
use native.Mathlib.Omega.{arith}
use borrow.Author.Tests.{lt-ltb, le-ltb}
use Rattle.std.specs.Result.{result_ok}
use Rattle.std.specs.Prelude.{Ok, Err, Some, None}
use Rattle.text.specs.Read.{Read, on_option}
use Rattle.ranges.specs.Ranges.{least_again, pair_at, on_pair}
use Rattle.ranges.specs.Walk.{step_in, step_of}
use Rattle.ranges.specs.declared.walk.Walk.{Walk}
use Rattle.ranges.proofs.RangesLaws.{pair_most}
use Rattle.ranges.proofs.walk.next_block.Goals as goal

was_ok : {A : Type 0} (q : Read A) {x : A × ℕ} → result_ok q ≡ Some x → q ≡ Ok x
was_ok (Ok x) e = cc
was_ok (Err p) e = absurd (let z : ◌≡◌ {A = ℕ} 0 1 = cc in omega arith)

-- one step of a walk, by cases
module _ (s : List ℕ) (w : Walk) where
  step-here : w.block < w.end → step_of s w ≡ Some (w.block, record { at = w.at; left = w.left; block = w.block + 1; end = w.end })
  unfolding step_of step_in
  step-here h = go w.left
    where
      go : (n : ℕ) → step_in n s w.at w.block w.end ≡ Some (w.block, record { at = w.at; left = n; block = w.block + 1; end = w.end })
      go zero = rw (lt-ltb w.block w.end h)
      go (suc n) = rw (lt-ltb w.block w.end h)

  module _ (h : w.end ≤ w.block) where
    step-none : w.left ≡ 0 → step_of s w ≡ None
    unfolding step_of step_in
    step-none z = rw (z, le-ltb w.block w.end h)

    -- a pair more, read from the text
    step-read : (n : ℕ) → w.left ≡ suc n → step_of s w ≡
        on_option (result_ok (pair_at least_again s w.at)) (λ p. step_of s (record { at = p.1; left = n; block = p.0.0; end = p.0.1 })) None
    unfolding step_of step_in
    step-read n l = rw (l, le-ltb w.block w.end h) (go (pair_at least_again s w.at))
      where
        go : (q : Read (ℕ × ℕ)) → on_pair q (λ start end next. step_in n s next start end) (λ p. None) ≡
            on_option (result_ok q) (λ p. step_in n s p.1 p.0.0 p.0.1) None
        go (Ok ((start, end), next)) = refl
        go (Err p) = refl

pub returns-then-rest-eq0 : goal.returns-then-rest-eq0
returns-then-rest-eq0 c = sym (step-none _ _ (omega arith) (omega arith)) ∙ c.loop-rest.invariant.1

pub returns-in_err-start : goal.returns-in_err-start
returns-in_err-start c =
    let w = c.loop-rest.rest in
    let e : result_ok (pair_at least_again c.args.s.now w.at) ≡ None = rw (← c.read_pair.ensures) (sym c.ok.ensures.value ∙ c.in_err-start.was) in
    let k : step_of c.args.s.now w ≡ None = rw (step-read c.args.s.now w (omega arith) (w.left - 1) (omega arith), e) in
    c.from_residual.ensures ∙ sym k ∙ c.loop-rest.invariant.1

pub loop-rest-preserved : goal.loop-rest-preserved
loop-rest-preserved c =
    let w = c.loop-rest.rest in
    let s = c.in_ok-start in
    let e : result_ok (pair_at least_again c.args.s.now w.at) ≡ Some ((s.start, s.end), s.next) =
    rw (← c.read_pair.ensures) (sym c.ok.ensures.value ∙ s.was) in
    let k : step_of c.args.s.now w ≡ step_of c.args.s.now (record { at = s.next; left = w.left - 1; block = s.start; end = s.end }) =
    rw (step-read c.args.s.now w (omega arith) (w.left - 1) (omega arith), e) in
    (pair_most _ _ _ (was_ok (pair_at least_again c.args.s.now w.at) e), sym k ∙ c.loop-rest.invariant.1)

pub returns : goal.returns
returns c = sym (step-here _ _ (omega arith)) ∙ c.loop-rest.invariant.1
