-- The lines of a list that was opened change, of the image, only the blocks of their targets, of the work area only the blocks of their
-- sources, of the result area only those of their results, and of the stash area only line 4's blocks: a step without a byte, a byte of new
-- data, and any number of them, up to a stop or past it.
-- Assumes nothing.
use mathlib.Core.Path.{◌≡◌, refl, sym, subst, ◌∙◌}
use mathlib.Core.Bool.{Bool, true, false}
use mathlib.Core.Logic.{⊎_elim}
use mathlib.Core.List.{List, []}
use Prim.Native.Nat.{ℕ, ◌*◌, ◌/◌, ◌≤◌, ◌<◌}
use native.Mathlib.Omega.{arith}
use borrow.Author.Tests.{ltb-true, eqb-true, eqb-false}
use lib.Dec.{ltb, eqb}
use lib.ListN.{length, take, set, length-take}
use Rattle.text.specs.Line.{line_at}
use Rattle.text.proofs.ChoiceLaws.{bool, picks, both_true, either_false}
use Rattle.text.specs.Read.{on_option}
use Rattle.ranges.specs.Ranges.{least_blocks}
use Rattle.command.specs.Patching.{patching_of}
use Rattle.ranges.specs.Walk.{blocks_at}
use Rattle.ranges.specs.declared.RangeSet.{RangeSet}
use Rattle.state.specs.Limits.{block_bytes}
use Rattle.state.specs.Refusals.{none}
use Rattle.state.specs.States.{is_ready}
use Rattle.state.specs.Stashes.{Stash, held, find_in, size_at, blocks_held, younger}
use Rattle.state.specs.Stretches.{stretch_blocks}
use Rattle.state.specs.declared.Lengths.{Lengths}
use Rattle.state.specs.declared.State.{State}
use Rattle.state.proofs.StashLaws.{blocks_held-before}
use Rattle.command.specs.Commands.{command_of}
use Rattle.command.specs.Targets.{new_target, target_blocks}
use Rattle.command.specs.declared.source.Source.{Source}
use Rattle.command.specs.declared.patching.Patching.{Patching}
use Rattle.command.specs.declared.Command.{Command}
use Rattle.command.specs.declared.Command.TheVariants as command
use Rattle.rules.specs.Rules.{refusal_for, refusal_of}
use Rattle.rules.specs.declared.Terms.{Terms}
use Rattle.rules.proofs.RuleLaws.{stash-fits, move_fits, bsdiff_fits}
use Rattle.transfer_list.specs.Header.{header_of}
use Rattle.transfer_list.specs.Opening.{first_at, terms_of}
use Rattle.transfer_list.specs.declared.header.Header.{Header}
use Rattle.machine.specs.Machine.{feeds}
use Rattle.machine.specs.Stops.{call_ends}
use Rattle.machine.proofs.MachineLaws.{Sound, feeds-keeps}
use Rattle.machine.proofs.StopLaws.{call-keeps}
use Rattle.patch.specs.Patch.{is_patch, patched_by}
use Rattle.patch.proofs.PatchLaws.{patched-length}
use Rattle.updater.specs.Areas.{Areas, with_image, with_stash, with_work, with_result}
use Rattle.updater.specs.Bytes.{address_of}
use Rattle.updater.specs.Source.{together, hashes_to, stretched}
use Rattle.updater.specs.Effect.{Effect, move_filled, stash_filled, patch_of, result_filled, patch_filled, bsdiff_filled, filled, written_from, is_finished}
use Rattle.updater.specs.Runnable.{Runnable}
use Rattle.updater.specs.Steps.{Config, passed, refused_with, further_into, marked_with, Stepped, fill_step, free_step, step_of, state_after, after}
use Rattle.updater.specs.declared.commands.StepEnd.{StepEnd}
use Rattle.updater.specs.declared.commands.StepEnd.TheVariants.{Passed, Ended, Filled, Stretched, Refused}
use Rattle.updater.specs.Run.{current_line, current_command, refusal_here, quiet_step, new_blocks, new_bytes, put_byte, is_stopped, needs_byte}
use Rattle.updater.specs.Run.{machine}
use Rattle.updater.proofs.FitLaws.{not_stopped}
use Rattle.updater.proofs.AtLineLaws.{step_here, step}
use Rattle.updater.proofs.RunLaws.{is_new}
use Rattle.updater.proofs.RunnableLaws.{runnable}
use Rattle.sequence.specs.Footprint.{SameIn, source_length, result_length, command_at, most_blocks, UpTo, OnlyWritten}
use Rattle.sequence.proofs.Running.{Running}
use Rattle.sequence.proofs.RunningLaws.{running-line, running-sound}
use Rattle.sequence.proofs.SameLaws.{same, same_then, same-fewer, OutOf, Past, over-same, moved_same, zeroed-same, written_same}
use Rattle.sequence.proofs.SameLaws.{put_same, supplied-same, together-same}
use Rattle.sequence.proofs.WholeLineLaws.{moved_down-none}
use Rattle.std.specs.Prelude.{Option, Some, None}

-- ---- a command

-- what a command on the line l may change, where n blocks may be held
record Writes (l : List ℕ) (c : Command) (n : ℕ) (before after : Areas) : Type 0 where
  image : SameIn (OutOf (target_blocks l c)) before.image after.image
  work : SameIn (Past (source_length c)) before.work after.work
  result : SameIn (Past (result_length c)) before.result after.result
  stash : SameIn (Past n) before.stash after.stash
  patch : after.patch ≡ before.patch

writes_nothing : (l : List ℕ) (c : Command) (n : ℕ) (a : Areas) → Writes l c n a a
writes_nothing l c n a =
    record { image = same a.image; work = same a.work; result = same a.result; stash = same a.stash; patch = refl }

-- one area alone
module _ {l : List ℕ} {c : Command} {n : ℕ} {a : Areas} where
  writes-image : {image : List ℕ} → SameIn (OutOf (target_blocks l c)) a.image image → Writes l c n a (with_image a image)
  writes-image e = record { image = e; work = same a.work; result = same a.result; stash = same a.stash; patch = refl }

  writes-work : {work : List ℕ} → SameIn (Past (source_length c)) a.work work → Writes l c n a (with_work a work)
  writes-work e = record { image = same a.image; work = e; result = same a.result; stash = same a.stash; patch = refl }

  writes-result : {result : List ℕ} → SameIn (Past (result_length c)) a.result result → Writes l c n a (with_result a result)
  writes-result e = record { image = same a.image; work = same a.work; result = e; stash = same a.stash; patch = refl }

  writes-stash : {stash : List ℕ} → SameIn (Past n) a.stash stash → Writes l c n a (with_stash a stash)
  writes-stash e = record { image = same a.image; work = same a.work; result = same a.result; stash = e; patch = refl }

-- .. and then another
writes_then : {l : List ℕ} {c : Command} {n : ℕ} {a b d : Areas} → Writes l c n a b → Writes l c n b d → Writes l c n a d
writes_then e f =
    record {
      image = same_then e.image f.image;
      work = same_then e.work f.work;
      result = same_then e.result f.result;
      stash = same_then e.stash f.stash;
      patch = f.patch ∙ e.patch;
    }

-- what a patch changes, with the source in the work area
patch-writes : (l : List ℕ) (k : ℕ) (a : Areas) (patching : Patching) (target : RangeSet) (n : ℕ) (source : Source) →
    target.blocks ≤ length a.result / block_bytes →
    Writes l (command.Bsdiff target n source) k a (patch_filled l patching target n a).areas
unfolding patch_filled result_filled result_length
patch-writes l k a patching target n source room =
    let c = command.Bsdiff target n source in
    let p = patch_of patching a in
    let bytes = patched_by p (take (block_bytes * n) a.work) in
    picks (λ (x : Effect). Writes l c k a x.areas) (is_patch p (block_bytes * target.blocks)) _ _
    (λ g.
    let size = patched-length p (take (block_bytes * n) a.work) (block_bytes * target.blocks) g in
    writes-result (over-same a.result 0 bytes target.blocks (omega arith) (omega arith)))
    (λ g. writes_nothing l c k a)

module _ (l : List ℕ) (terms : Terms) (held : List Stash) (hash : List ℕ) (a : Areas)
    (blocks : blocks_held held ≤ terms.blocks) (room : block_bytes * terms.blocks ≤ length a.stash) where
  -- filling
  fill_writes_lem : (c : Command) → refusal_for l terms held hash c ≡ none → Runnable l held a c →
      Writes l c terms.blocks a (filled l held hash c a).areas
  unfolding filled move_filled bsdiff_filled stash_filled Runnable source_length
  fill_writes_lem (command.Zero set) e r = writes_nothing l (command.Zero set) terms.blocks a
  fill_writes_lem (command.Erase set) e r = writes_nothing l (command.Erase set) terms.blocks a
  fill_writes_lem (command.New set) e r = writes_nothing l (command.New set) terms.blocks a
  fill_writes_lem (command.Move target n source) e r =
      let f = move_fits l terms held hash e refl in
      writes-work (together-same l a.stash held n terms a.image source a.work f.from r.room)
  fill_writes_lem (command.Bsdiff target n source) e r =
      let c = command.Bsdiff target n source in
      let work = together l a.image a.stash held source a.work in
      let f = bsdiff_fits l terms held hash e refl in
      let source-made = writes-work (together-same l a.stash held n terms a.image source a.work f.from r.patched.room) in
      picks (λ (x : Effect). Writes l c terms.blocks a x.areas) (hashes_to work n hash) _ _
      (λ t. writes_then source-made (patch-writes l terms.blocks (with_work a work) (patching_of l) target n source r.patched.holds))
      (λ t. source-made)
  fill_writes_lem (command.Stash set) e r =
      writes-work (supplied-same l a.stash held set.blocks a.image set.at a.work r.room)
  fill_writes_lem command.Free e r = writes_nothing l command.Free terms.blocks a
  fill_writes_lem command.Unsupported e r = writes_nothing l command.Unsupported terms.blocks a
  fill_writes_lem (command.Bad p) e r = writes_nothing l (command.Bad p) terms.blocks a

  -- writing from what was filled
  from-writes : (c : Command) → refusal_for l terms held hash c ≡ none → Runnable l held a c →
      Writes l c terms.blocks a (written_from l held c a)
  unfolding written_from Runnable target_blocks
  from-writes (command.Zero set) e r = writes_nothing l (command.Zero set) terms.blocks a
  from-writes (command.Erase set) e r = writes_nothing l (command.Erase set) terms.blocks a
  from-writes (command.New set) e r = writes_nothing l (command.New set) terms.blocks a
  from-writes (command.Move target n source) e r =
      writes-image (written_same (blocks_at l target.at) (take (block_bytes * n) a.work) a.image r.goal.below)
  from-writes (command.Bsdiff target n source) e r =
      writes-image
      (written_same (blocks_at l target.at) (take (block_bytes * target.blocks) a.result) a.image r.patched.goal.below)
  from-writes (command.Stash set) e r =
      let f = stash-fits l terms held hash e refl in
      let most = f.room in
      let short = length-take (block_bytes * set.blocks) a.work in
      writes-stash
      (over-same a.stash (block_bytes * blocks_held held) (take (block_bytes * set.blocks) a.work) terms.blocks (omega arith)
      (omega arith))
  from-writes command.Free e r = writes_nothing l command.Free terms.blocks a
  from-writes command.Unsupported e r = writes_nothing l command.Unsupported terms.blocks a
  from-writes (command.Bad p) e r = writes_nothing l (command.Bad p) terms.blocks a

  -- one of the two; what is finished changes nothing
  fill_step_writes_lem : (c : Command) (ready : ℕ) → refusal_for l terms held hash c ≡ none → Runnable l held a c →
      Writes l c terms.blocks a (fill_step l held hash c ready a).areas
  unfolding fill_step
  fill_step_writes_lem c ready e r =
      picks (λ (x : Stepped). Writes l c terms.blocks a x.areas) (is_ready ready) _ _
      (λ t. from-writes c e r)
      (λ t.
      picks (λ (x : Stepped). Writes l c terms.blocks a x.areas) (is_finished l hash c a.image) _ _
      (λ u. writes_nothing l c terms.blocks a)
      (λ u. fill_writes_lem c e r))

  -- a stretch of a `free`
  stretched-same : (j k : ℕ) → SameIn (Past terms.blocks) a.stash (stretched held j k a.stash)
  unfolding stretched stretch_blocks
  stretched-same j k =
      let gap = size_at held j in
      let moved = k * gap in
      let n = stretch_blocks gap (younger held j) k in
      let older = blocks_held-before held j in
      ⊎_elim
      (λ t.
      let none : block_bytes * n ≡ 0 = omega (arith, eqb-true n 0 t) in
      rw none (subst (SameIn (Past terms.blocks) a.stash) (sym (moved_down-none a.stash _ _)) (same a.stash)))
      (λ t.
      let some = eqb-false n 0 t in
      moved_same a.stash _ _ _ terms.blocks (omega arith) (omega (arith, some)) (omega (arith, some)))
      (bool (eqb n 0))

  free_writes : (k : ℕ) (f : Option ℕ) → Writes l command.Free terms.blocks a (free_step held k a f).areas
  unfolding free_step
  free_writes k (Some j) = writes-stash (stretched-same j k)
  free_writes k None = writes_nothing l command.Free terms.blocks a

  -- a step of a command
  step_writes_lem : (c : Command) (ready k : ℕ) → refusal_for l terms held hash c ≡ none → Runnable l held a c →
      Writes l c terms.blocks a (step_of l held hash c ready k a).areas
  unfolding step_of Runnable target_blocks
  step_writes_lem (command.Zero set) ready k e r = writes-image (zeroed-same (blocks_at l set.at) a.image r.below)
  step_writes_lem (command.Erase set) ready k e r = writes-image (zeroed-same (blocks_at l set.at) a.image r.below)
  step_writes_lem (command.New set) ready k e r = writes_nothing l (command.New set) terms.blocks a
  step_writes_lem (command.Move target n source) ready k e r = fill_step_writes_lem (command.Move target n source) ready e r
  step_writes_lem (command.Bsdiff target n source) ready k e r = fill_step_writes_lem (command.Bsdiff target n source) ready e r
  step_writes_lem (command.Stash set) ready k e r = fill_step_writes_lem (command.Stash set) ready e r
  step_writes_lem command.Free ready k e r = free_writes k (find_in held hash)
  step_writes_lem command.Unsupported ready k e r = writes_nothing l command.Unsupported terms.blocks a
  step_writes_lem (command.Bad p) ready k e r = writes_nothing l (command.Bad p) terms.blocks a

-- a byte into a `new`
byte-writes : (l : List ℕ) (held : List Stash) (a : Areas) (n : ℕ) (c : Command) (k x : ℕ) → Runnable l held a c → k < new_bytes c →
    Writes l c n a (with_image a (set a.image (address_of (new_blocks l c) k) x))
unfolding new_bytes new_blocks target_blocks Runnable
byte-writes l held a n c k x r h =
    writes-image (go (new_target c) refl h)
  where
    go : (t : Option RangeSet) → new_target c ≡ t → k < on_option t (λ set. block_bytes * set.blocks) 0 →
        SameIn (OutOf (target_blocks l c)) a.image (set a.image (address_of (on_option t (λ set. blocks_at l set.at) []) k) x)
    go (Some set) e h =
        let q = is_new c e in
        let r : Runnable l held a (command.New set) = subst (Runnable l held a) q r in
        rw q (put_same (blocks_at l set.at) k x a.image (omega (arith, r.size)))
    go None e h = absurd (omega arith)

-- ---- the lines up to the current one

-- before any line has run nothing has changed
pub written_none : (s : List ℕ) (last : ℕ) (a : Areas) → OnlyWritten s last a a
written_none s last a =
    record { image = same a.image; work = same a.work; result = same a.result; stash = same a.stash; patch = refl }

up_to-later : {s : List ℕ} {last later at : ℕ} → last ≤ later → UpTo s last at → UpTo s later at
up_to-later h u = record { first = u.first; reached = omega (arith, u.reached); start = u.start }

module _ (s : List ℕ) (a₀ : Areas) where
  -- the lines up to the one at `last`, and what the command of that line changes
  written-more : {last later : ℕ} {a b : Areas} → UpTo s last last → last ≤ later → OnlyWritten s last a₀ a →
      Writes (line_at s last) (command_at s last) (most_blocks (header_of s)) a b → OnlyWritten s later a₀ b
  written-more {last} u h w x =
      record {
        image =
            same_then (same-fewer (λ b e at v. e at (up_to-later h v)) w.image) (same-fewer (λ b e. e last (up_to-later h u)) x.image);
        work =
            same_then (same-fewer (λ b e at v. e at (up_to-later h v)) w.work) (same-fewer (λ b e. e last (up_to-later h u)) x.work);
        result =
            same_then (same-fewer (λ b e at v. e at (up_to-later h v)) w.result) (same-fewer (λ b e. e last (up_to-later h u)) x.result);
        stash = same_then w.stash x.stash;
        patch = x.patch ∙ w.patch;
      }

-- a step without a byte does not go back
after-at : (l hash : List ℕ) (c : Command) (t : State) (end : StepEnd) → t.at ≤ (state_after l hash c t end).at
unfolding state_after passed marked_with refused_with
after-at l hash c t Passed = omega arith
after-at l hash c t Ended = omega arith
after-at l hash c t Filled = omega arith
after-at l hash c t Stretched = omega arith
after-at l hash c t (Refused number) = omega arith

module _ (s : List ℕ) (lengths : Lengths) (h : Header) (p : Config) (v : Running s lengths h p) where
  -- the current line
  up_to-here : UpTo s p.state.at p.state.at
  unfolding first_at
  up_to-here = record { first = rw v.header v.at_line_lem.first; reached = omega arith; start = v.at_line_lem.ended }

  line_four : most_blocks (header_of s) ≡ h.blocks
  unfolding most_blocks
  line_four = rw v.header

  module _ (e : refusal_here least_blocks s (terms_of lengths h) p ≡ none) where
    here-writes : Writes (current_line s p) (current_command least_blocks s p) (most_blocks (header_of s)) p.areas (step_here s p).areas
    unfolding after refusal_of
    here-writes =
        rw line_four
        (step_writes_lem (current_line s p) (terms_of lengths h) (held p.state) (command_of least_blocks (current_line s p)).hash p.areas
        v.fits.blocks v.fits.stash (current_command least_blocks s p) p.state.ready p.state.stretches e
        (runnable s (terms_of lengths h) p v.fits e))

    here-byte : (x : ℕ) → p.state.into < new_bytes (current_command least_blocks s p) →
        Writes (current_line s p) (current_command least_blocks s p) (most_blocks (header_of s)) p.areas (put_byte least_blocks s x p).areas
    unfolding put_byte
    here-byte x l =
        byte-writes (current_line s p) (held p.state) p.areas (most_blocks (header_of s)) (current_command least_blocks s p) p.state.into x
        (runnable s (terms_of lengths h) p v.fits e) l

  here_later : p.state.at ≤ (step_here s p).state.at
  unfolding after
  here_later = after-at (current_line s p) (command_of least_blocks (current_line s p)).hash (current_command least_blocks s p) p.state _

-- ---- the machine

module _ (s : List ℕ) (lengths : Lengths) (h : Header) (a₀ : Areas) where
  abbrev Written : Config → Type 0
  Written p = OnlyWritten s p.state.at a₀ p.areas

  quiet-written : (p : Config) → Running s lengths h p → Written p → (machine least_blocks s (terms_of lengths h)).waits p ≡ false →
      Written (quiet_step least_blocks s (terms_of lengths h) p)
  quiet-written p v w m =
      let b = not_stopped s p (either_false (is_stopped s p) (needs_byte least_blocks s (terms_of lengths h) p) m).0 in
      let e = running-line s lengths h p v b.unrefused b.within in
      rw (step s (terms_of lengths h) p b e)
      (written-more s a₀ (up_to-here s lengths h p v) (here_later s lengths h p v) w (here-writes s lengths h p v e))

  put_written : (p : Config) (x : ℕ) → Running s lengths h p → Written p → (machine least_blocks s (terms_of lengths h)).waits p ≡ true →
      is_stopped s p ≡ false → Written (put_byte least_blocks s x p)
  unfolding needs_byte put_byte further_into
  put_written p x v w m n =
      let b = both_true (eqb (refusal_here least_blocks s (terms_of lengths h) p) none) (ltb p.state.into (new_bytes (current_command least_blocks s p))) (rw n at m) in
      let e = eqb-true (refusal_here least_blocks s (terms_of lengths h) p) none b.0 in
      let l = ltb-true p.state.into (new_bytes (current_command least_blocks s p)) b.1 in
      written-more s a₀ (up_to-here s lengths h p v) (omega arith) w (here-byte s lengths h p v e x l)

  pub written-sound : Sound (machine least_blocks s (terms_of lengths h)) (λ p. Running s lengths h p × OnlyWritten s p.state.at a₀ p.areas)
  written-sound =
      let g = running-sound s lengths h in
      record {
        falls = λ p v. g.falls p v.0;
        rests = λ p v. g.rests p v.0;
        quiet_keeps = λ p v m. (g.quiet_keeps p v.0 m, quiet-written p v.0 v.1 m);
        put_keeps = λ p x v m n. (g.put_keeps p x v.0 m n, put_written p x v.0 v.1 m n);
      }

  -- any bytes of new data
  pub feeds-written : (xs : List ℕ) (p : Config) → Running s lengths h p → OnlyWritten s p.state.at a₀ p.areas →
      OnlyWritten s (feeds (machine least_blocks s (terms_of lengths h)) xs p).state.at a₀ (feeds (machine least_blocks s (terms_of lengths h)) xs p).areas
  feeds-written xs p v w =
      (feeds-keeps (machine least_blocks s (terms_of lengths h)) (λ p. Running s lengths h p × Written p) written-sound xs p (v, w)).1

  -- .. and a call, which may stop before their end
  pub call-written : (halts : Config → Bool) (xs : List ℕ) (p : Config) → Running s lengths h p → OnlyWritten s p.state.at a₀ p.areas →
      OnlyWritten s (call_ends (machine least_blocks s (terms_of lengths h)) halts xs p).config.state.at a₀
      (call_ends (machine least_blocks s (terms_of lengths h)) halts xs p).config.areas
  call-written halts xs p v w =
      (call-keeps (machine least_blocks s (terms_of lengths h)) halts (λ p. Running s lengths h p × Written p) written-sound xs p (v, w)).1
