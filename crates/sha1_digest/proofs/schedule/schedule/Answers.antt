-- `sha1_digest::schedule::schedule` meets its contract.
use Rattle.std.proofs.Common.{◌≡◌, sym, refl, ◌∙◌, zero-add, arith, length-set, take_all}
use Rattle.sha1_digest.specs.Sha1 as S
use Rattle.sha1_digest.proofs.ScheduleLaws.{next_first, next_later, schedule_more}
use Rattle.sha1_digest.proofs.schedule.schedule.Goals as goal

pub first-init : goal.first-init
unfolding S.schedule
first-init c = record { len = c.told-w; words = refl }

pub first-preserved : goal.first-preserved
first-preserved c =
    let l = c.first in
    let p = c.args.block.now in
    let first = next_first p 0 (S.schedule p 0 l.t) l.t (omega arith) in
    record {
      len = length-set _ _ _ ∙ l.invariant.len;
      words = schedule_more p 0 l.t l.w c.load.result (omega arith) l.invariant.words (c.load.ensures ∙ sym (rw zero-add at first));
    }

pub later-init : goal.later-init
later-init c =
    let t : c.first.t ≡ 16 = omega arith in
    rw t at c.first.invariant

pub later-preserved : goal.later-preserved
later-preserved c =
    let l = c.later in
    let p = c.args.block.now in
    record {
      len = length-set _ _ _ ∙ l.invariant.len;
      words = schedule_more p 0 l.t l.w c.rotate_left.result (omega arith) l.invariant.words
          (c.rotate_left.ensures ∙ next_later p 0 _ l.w l.t (omega arith) l.invariant.words);
    }

pub returns : goal.returns
returns c =
    let l = c.later in
    let t : l.t ≡ 80 = omega arith in
    sym (take_all 80 l.w (omega arith)) ∙ (rw t at l.invariant.words)
