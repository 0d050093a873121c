-- A line by the two readings: the same command where no range is empty, and now ill formed where one is; what was ill formed stays so.
-- Assumes nothing.
use mathlib.Core.Path.{◌≡◌, refl, ◌∙◌, subst}
use mathlib.Core.Bool.{Bool, true, false}
use mathlib.Core.Logic.{◌⊎◌, inl, inr, ⊎_elim}
use Prim.Native.Nat.{ℕ}
use native.Mathlib.Omega.{arith}
use mathlib.Core.List.{List}
use lib.ListN.{length}
use Rattle.text.specs.Choice.{either}
use Rattle.text.specs.Expected.{expected_at, dash, space, lf}
use Rattle.text.specs.Hash.{no_hash}
use Rattle.text.proofs.ChoiceLaws.{either_is}
use Rattle.ranges.specs.Ranges.{least_blocks, ranges_at}
use Rattle.ranges.specs.declared.RangeSet.{RangeSet}
use Rattle.command.specs.Words.{range_word, hash_word, spelling, word_of}
use Rattle.command.specs.Fields.{number_field, hash_field, set_field, last_set}
use Rattle.command.specs.Parts.{uses_at, parts_at, parts_field}
use Rattle.command.specs.Commands.{with_set, range_line, after_dash, with_places, after_blocks, source_from, source_field, command_for, length_from, target_from, stash_from, free_from, after_hash, hashed_line, digest_from, patched_line, length_line, bsdiff_line, line_by, command_of}
use Rattle.command.specs.declared.word.RangeWord.{RangeWord}
use Rattle.command.specs.declared.word.RangeWord.TheVariants as range
use Rattle.command.specs.declared.word.HashWord.{HashWord}
use Rattle.command.specs.declared.word.HashWord.TheVariants as hash
use Rattle.command.specs.declared.word.Word.{Word}
use Rattle.command.specs.declared.word.Word.TheVariants as word
use Rattle.command.specs.declared.sourced.Purpose.{Purpose}
use Rattle.command.specs.declared.sourced.Purpose.TheVariants as purpose
use Rattle.command.specs.declared.source.Source.{Source}
use Rattle.command.specs.declared.source.Source.TheVariants.{Blocks, Stashes, Both}
use Rattle.command.specs.declared.Command.{Command}
use Rattle.command.specs.declared.Command.TheVariants.{Stash, Bad}
use Rattle.command.specs.declared.Line.{Line}
use Rattle.compatibility.specs.EmptyRanges.{least_before, empty_in_set, empty_in_uses, empty_in_source, empty_in_command, has_empty}
use Rattle.compatibility.proofs.Sets.{RangesTold, ranges-told}
use Rattle.compatibility.proofs.Parts.{PartsTold, parts_told}
use Rattle.std.specs.Prelude.{Result, Ok, Err}
use Rattle.text.specs.Read.{Read, on_read, on_result}

pub clash : {t : Bool} → t ≡ true → t ≡ false → ⊥
clash e f = let z : ◌≡◌ {A = ℕ} 0 1 = cc in omega arith

-- ---- an answer of a reader, as it was and as it is. `Ill` are the faults, `empty` says that some range is empty

module _ {A : Type 0} (Ill : A → Type 0) (empty : A → Bool) where
  -- a fault, or with an empty range
  abbrev pub Spoilt : A → Type 0
  Spoilt a = Ill a ⊎ (empty a ≡ true)

  -- the same, and no range empty; or now a fault
  abbrev pub Told : A → A → Type 0
  Told a b = ((a ≡ b) × (empty a ≡ false)) ⊎ (Ill b × Spoilt a)

  module _ (bad : ℕ → A) (ill : (p : ℕ) → Ill (bad p)) where
    told-expected : (x : Result ℕ ℕ) (f g : ℕ → A) → ((i : ℕ) → Told (f i) (g i)) → Told (on_result x f bad) (on_result x g bad)
    told-expected (Ok i) f g h = h i
    told-expected (Err p) f g h = inr (ill p, inl (ill p))

    told-read : {B : Type 0} (x : Read B) (f g : B → ℕ → A) → ((v : B) (i : ℕ) → Told (f v i) (g v i)) → Told (on_read x f bad) (on_read x g bad)
    told-read (Ok (v, i)) f g h = h v i
    told-read (Err p) f g h = inr (ill p, inl (ill p))

    spoilt-expected : (x : Result ℕ ℕ) (f : ℕ → A) → ((i : ℕ) → Spoilt (f i)) → Spoilt (on_result x f bad)
    spoilt-expected (Ok i) f h = h i
    spoilt-expected (Err p) f h = inl (ill p)

    spoilt-read : {B : Type 0} (x : Read B) (f : B → ℕ → A) → ((v : B) (i : ℕ) → Spoilt (f v i)) → Spoilt (on_read x f bad)
    spoilt-read (Ok (v, i)) f h = h v i
    spoilt-read (Err p) f h = inl (ill p)

    -- a set, and what follows it: with an empty range it spoils the whole
    told-ranges : (l : List ℕ) (x y : Read RangeSet) (f g : RangeSet → ℕ → A) → RangesTold l x y →
        ((set : RangeSet) (i : ℕ) → empty_in_set l set ≡ false → Told (f set i) (g set i)) →
        ((set : RangeSet) (i : ℕ) → empty_in_set l set ≡ true → Spoilt (f set i)) → Told (on_read x f bad) (on_read y g bad)
    told-ranges l (Ok (a, n)) (Ok (b, m)) f g t h k =
        subst (λ b. Told (f a n) (g b m)) t.0 (subst (λ m. Told (f a n) (g a m)) t.1 (h a n t.2))
    told-ranges l (Ok (a, n)) (Err p) f g t h k = inr (ill p, k a n t)
    told-ranges l (Err q) (Ok (b, m)) f g t h k = absurd t
    told-ranges l (Err q) (Err p) f g t h k = inr (ill p, inl (ill q))

-- ---- fields

module _ (l : List ℕ) where
  field_told : (at : ℕ) → RangesTold l (set_field least_before l at) (set_field least_blocks l at)
  unfolding set_field
  field_told at = go (expected_at l at space)
    where
      go : (x : Result ℕ ℕ) → RangesTold l (on_result x (ranges_at least_before l) Err) (on_result x (ranges_at least_blocks l) Err)
      go (Ok i) = ranges-told l i
      go (Err p) = tt

  last-told : (at : ℕ) → RangesTold l (last_set least_before l at) (last_set least_blocks l at)
  unfolding last_set
  last-told at = go (set_field least_before l at) (set_field least_blocks l at) (field_told at)
    where
      end : RangeSet → ℕ → Read RangeSet
      end set i = on_result (expected_at l i lf) (λ x. Ok (set, x)) Err

      same : (a : RangeSet) (x : Result ℕ ℕ) → empty_in_set l a ≡ false →
          RangesTold l (on_result x (λ x. Ok (a, x)) Err) (on_result x (λ x. Ok (a, x)) Err)
      same a (Ok i) e = (refl, refl, e)
      same a (Err p) e = tt

      spoilt : (a : RangeSet) (p : ℕ) (x : Result ℕ ℕ) → empty_in_set l a ≡ true → RangesTold l (on_result x (λ x. Ok (a, x)) Err) (Err p)
      spoilt a p (Ok i) e = e
      spoilt a p (Err q) e = tt

      go : (x y : Read RangeSet) → RangesTold l x y → RangesTold l (on_read x end Err) (on_read y end Err)
      go (Ok (a, n)) (Ok (b, m)) t =
          subst (λ b. RangesTold l (end a n) (end b m)) t.0
          (subst (λ m. RangesTold l (end a n) (end a m)) t.1 (same a (expected_at l n lf) t.2))
      go (Ok (a, n)) (Err p) t = spoilt a p (expected_at l n lf) t
      go (Err q) (Ok (b, m)) t = absurd t
      go (Err q) (Err p) t = tt

  -- ---- sources

  abbrev IllSource : Result Source ℕ → Type 0
  IllSource (Ok s) = ⊥
  IllSource (Err p) = Unit {0}

  abbrev empty_source : Result Source ℕ → Bool
  empty_source (Ok s) = empty_in_source l s
  empty_source (Err p) = false

  abbrev SourceTold : Result Source ℕ → Result Source ℕ → Type 0
  SourceTold = Told IllSource empty_source

  abbrev SpoiltSource : Result Source ℕ → Type 0
  SpoiltSource = Spoilt IllSource empty_source

  -- Ps, where no set before them has an empty range
  parts_then : (make : ℕ → Source) (at : ℕ) → ((i : ℕ) → empty_in_source l (make i) ≡ empty_in_uses l (uses_at l i)) →
      SourceTold (on_result (parts_field least_before l at) (λ first. Ok (make first)) Err)
      (on_result (parts_field least_blocks l at) (λ first. Ok (make first)) Err)
  unfolding parts_field
  parts_then make at is = go (expected_at l at space)
    where
      on : Result ℕ ℕ → Result Source ℕ
      on x = on_result x (λ first. Ok (make first)) Err

      read : (i : ℕ) (x y : Result ℕ ℕ) → PartsTold i (empty_in_uses l (uses_at l i)) x y → SourceTold (on x) (on y)
      read i (Ok f) (Ok g) t = inl (rw (t.0, t.1), rw t.0 (is i ∙ t.2))
      read i (Ok f) (Err p) t = inr (tt, inr (rw t.0 (is i ∙ t.1)))
      read i (Err q) (Ok g) t = absurd t
      read i (Err q) (Err p) t = inr (tt, inl tt)

      go : (x : Result ℕ ℕ) → SourceTold (on (on_result x (parts_at least_before l) Err)) (on (on_result x (parts_at least_blocks l) Err))
      go (Ok i) = read i (parts_at least_before l i) (parts_at least_blocks l i) (parts_told l i)
      go (Err p) = inr (tt, inl tt)

  parts_spoilt : (make : ℕ → Source) (x : Result ℕ ℕ) → ((i : ℕ) → empty_in_source l (make i) ≡ true) →
      SpoiltSource (on_result x (λ first. Ok (make first)) Err)
  parts_spoilt make (Ok f) e = inr (e f)
  parts_spoilt make (Err p) e = inl tt

  ill_source : (p : ℕ) → IllSource (Err p)
  ill_source p = tt

  dash-told : (at : ℕ) → SourceTold (after_dash least_before l at) (after_dash least_blocks l at)
  unfolding after_dash empty_in_source
  dash-told at = parts_then Stashes at (λ i. refl)

  places-told : (set : RangeSet) (at : ℕ) → empty_in_set l set ≡ false → SourceTold (with_places least_before l set at) (with_places least_blocks l set at)
  unfolding with_places empty_in_source
  places-told set at e =
      told-ranges IllSource empty_source Err ill_source l (set_field least_before l at) (set_field least_blocks l at) _ _ (field_told at)
      (λ places i f. parts_then (Both set places) i (λ first. rw (e, f)))
      (λ places i f. parts_spoilt (Both set places) (parts_field least_before l i) (λ first. rw (e, f)))

  places-spoilt : (set : RangeSet) (at : ℕ) → empty_in_set l set ≡ true → SpoiltSource (with_places least_before l set at)
  unfolding with_places empty_in_source
  places-spoilt set at e = go (set_field least_before l at)
    where
      go : (x : Read RangeSet) →
          SpoiltSource (on_read x (λ places i. on_result (parts_field least_before l i) (λ first. Ok (Both set places first)) Err) Err)
      go (Ok (places, i)) = parts_spoilt (Both set places) (parts_field least_before l i) (λ first. rw e)
      go (Err p) = inl tt

  blocks-told : (set : RangeSet) (at : ℕ) → empty_in_set l set ≡ false → SourceTold (after_blocks least_before l set at) (after_blocks least_blocks l set at)
  unfolding after_blocks empty_in_source
  blocks-told set at e = go (expected_at l at lf)
    where
      go : (x : Result ℕ ℕ) →
          SourceTold (on_result x (λ next. Ok (Blocks set)) (λ p. with_places least_before l set at))
          (on_result x (λ next. Ok (Blocks set)) (λ p. with_places least_blocks l set at))
      go (Ok next) = inl (refl, e)
      go (Err p) = places-told set at e

  blocks-spoilt : (set : RangeSet) (at : ℕ) → empty_in_set l set ≡ true → SpoiltSource (after_blocks least_before l set at)
  unfolding after_blocks empty_in_source
  blocks-spoilt set at e = go (expected_at l at lf)
    where
      go : (x : Result ℕ ℕ) → SpoiltSource (on_result x (λ next. Ok (Blocks set)) (λ p. with_places least_before l set at))
      go (Ok next) = inr e
      go (Err p) = places-spoilt set at e

  from_told : (at : ℕ) → SourceTold (source_from least_before l at) (source_from least_blocks l at)
  unfolding source_from
  from_told at = go (expected_at l at dash)
    where
      go : (x : Result ℕ ℕ) →
          SourceTold (on_result x (after_dash least_before l) (λ p. on_read (ranges_at least_before l at) (after_blocks least_before l) Err))
          (on_result x (after_dash least_blocks l) (λ p. on_read (ranges_at least_blocks l at) (after_blocks least_blocks l) Err))
      go (Ok i) = dash-told i
      go (Err p) =
          told-ranges IllSource empty_source Err ill_source l (ranges_at least_before l at) (ranges_at least_blocks l at) _ _ (ranges-told l at)
          blocks-told blocks-spoilt

  source_told : (at : ℕ) → SourceTold (source_field least_before l at) (source_field least_blocks l at)
  unfolding source_field
  source_told at =
      told-expected IllSource empty_source Err ill_source (expected_at l at space) (source_from least_before l) (source_from least_blocks l) from_told

  -- ---- commands

  -- an ill formed line
  abbrev pub IllCommand : Command → Type 0
  IllCommand c = (p : ℕ) × (c ≡ Bad p)

  abbrev CommandTold : Command → Command → Type 0
  CommandTold = Told IllCommand (empty_in_command l)

  abbrev SpoiltCommand : Command → Type 0
  SpoiltCommand = Spoilt IllCommand (empty_in_command l)

  ill-command : (p : ℕ) → IllCommand (Bad p)
  ill-command p = (p, refl)

  -- a last set, in a command that has no other
  set_then : (make : RangeSet → Command) (x y : Read RangeSet) → ((set : RangeSet) → empty_in_command l (make set) ≡ empty_in_set l set) → RangesTold l x y →
      CommandTold (on_read x (λ set next. make set) Bad) (on_read y (λ set next. make set) Bad)
  set_then make x y is t =
      told-ranges IllCommand (empty_in_command l) Bad ill-command l x y (λ set next. make set) (λ set next. make set) t
      (λ set i e. inl (refl, is set ∙ e)) (λ set i e. inr (is set ∙ e))

  range_empty : (w : RangeWord) (set : RangeSet) → empty_in_command l (with_set w set) ≡ empty_in_set l set
  unfolding empty_in_command
  range_empty range.Zero set = refl
  range_empty range.Erase set = refl
  range_empty range.New set = refl

  for_empty : (p : Purpose) (target : RangeSet) (n : ℕ) (s : Source) →
      empty_in_command l (command_for p target n s) ≡ either (empty_in_set l target) (empty_in_source l s)
  unfolding empty_in_command
  for_empty purpose.Move target n s = refl
  for_empty purpose.Bsdiff target n s = refl

  module _ (p : Purpose) (target : RangeSet) (n : ℕ) where
    on_source_told : empty_in_set l target ≡ false → (x y : Result Source ℕ) → SourceTold x y →
        CommandTold (on_result x (command_for p target n) Bad) (on_result y (command_for p target n) Bad)
    on_source_told e (Ok a) (Ok b) (inl t) =
        let z : a ≡ b = cc in inl (rw z, for_empty p target n a ∙ rw e t.1)
    on_source_told e (Ok a) (Ok b) (inr t) = absurd t.0
    on_source_told e (Ok a) (Err r) (inl t) = absurd (let z : ◌≡◌ {A = ℕ} 0 1 = cc in omega arith)
    on_source_told e (Ok a) (Err r) (inr (i, inl j)) = absurd j
    on_source_told e (Ok a) (Err r) (inr (i, inr j)) =
        inr ((r, refl), inr (for_empty p target n a ∙ either_is (empty_in_set l target) j))
    on_source_told e (Err q) (Ok b) (inl t) = absurd (let z : ◌≡◌ {A = ℕ} 0 1 = cc in omega arith)
    on_source_told e (Err q) (Ok b) (inr t) = absurd t.0
    on_source_told e (Err q) (Err r) t = inr ((r, refl), inl (q, refl))

    on_source-spoilt : empty_in_set l target ≡ true → (x : Result Source ℕ) → SpoiltCommand (on_result x (command_for p target n) Bad)
    on_source-spoilt e (Ok a) = inr (for_empty p target n a ∙ rw e)
    on_source-spoilt e (Err q) = inl (q, refl)

  length-told : (p : Purpose) (target : RangeSet) (at : ℕ) → empty_in_set l target ≡ false →
      CommandTold (length_from least_before l p target at) (length_from least_blocks l p target at)
  unfolding length_from
  length-told p target at e =
      told-read IllCommand (empty_in_command l) Bad ill-command (number_field l at) _ _
      (λ n i. on_source_told p target n e (source_field least_before l i) (source_field least_blocks l i) (source_told i))

  length-spoilt : (p : Purpose) (target : RangeSet) (at : ℕ) → empty_in_set l target ≡ true → SpoiltCommand (length_from least_before l p target at)
  unfolding length_from
  length-spoilt p target at e =
      spoilt-read IllCommand (empty_in_command l) Bad ill-command (number_field l at) _
      (λ n i. on_source-spoilt p target n e (source_field least_before l i))

  target_told : (p : Purpose) (at : ℕ) → CommandTold (target_from least_before l p at) (target_from least_blocks l p at)
  unfolding target_from
  target_told p at =
      told-ranges IllCommand (empty_in_command l) Bad ill-command l (set_field least_before l at) (set_field least_blocks l at)
      (length_from least_before l p) (length_from least_blocks l p) (field_told at) (length-told p) (length-spoilt p)

  free_told : (at : ℕ) → CommandTold (free_from l at) (free_from l at)
  unfolding free_from empty_in_command
  free_told at = told-expected IllCommand (empty_in_command l) Bad ill-command (expected_at l at lf) _ _ (λ next. inl (refl, refl))

  after-told : (w : HashWord) (at : ℕ) → CommandTold (after_hash least_before l w at) (after_hash least_blocks l w at)
  unfolding stash_from empty_in_command
  after-told hash.Move at = target_told purpose.Move at
  after-told hash.Stash at = set_then Stash (last_set least_before l at) (last_set least_blocks l at) (λ set. refl) (last-told at)
  after-told hash.Free at = free_told at

  digest_told : (at : ℕ) → CommandTold (digest_from least_before l at) (digest_from least_blocks l at)
  unfolding digest_from
  digest_told at = told-read IllCommand (empty_in_command l) Bad ill-command (hash_field l at) _ _ (λ digest. target_told purpose.Bsdiff)

  -- ---- lines

  -- a line's hash is read the same
  pub record LineTold (a b : Line) : Type 0 where
    pub hash : a.hash ≡ b.hash
    pub command : CommandTold a.command b.command

  unread : (c : Command) → empty_in_command l c ≡ false → CommandTold c c
  unread c e = inl (refl, e)

  bad-told : (p : ℕ) → CommandTold (Bad p) (Bad p)
  bad-told p = inr ((p, refl), inl (p, refl))

  read-told : {A : Type 0} (x : Read A) (f g : A → ℕ → Line) → ((v : A) (i : ℕ) → LineTold (f v i) (g v i)) →
      LineTold (on_read x f (λ p. record { command = Bad p; hash = no_hash })) (on_read x g (λ p. record { command = Bad p; hash = no_hash }))
  read-told (Ok (v, i)) f g h = h v i
  read-told (Err p) f g h = record { hash = refl; command = bad-told p }

  patched-told : (at : ℕ) → LineTold (patched_line least_before l at) (patched_line least_blocks l at)
  unfolding patched_line
  patched-told at = read-told (hash_field l at) _ _ (λ hash i. record { hash = refl; command = digest_told i })

  bsdiff_told : LineTold (bsdiff_line least_before l) (bsdiff_line least_blocks l)
  unfolding bsdiff_line length_line
  bsdiff_told =
      read-told (number_field l (length (spelling word.Bsdiff))) _ _ (λ start i. read-told (number_field l i) _ _ (λ size. patched-told))

  word-told : (w : Word) → LineTold (line_by least_before l w) (line_by least_blocks l w)
  unfolding range_line hashed_line empty_in_command
  word-told (word.Ranges w) =
      record {
        hash = refl;
        command = set_then (with_set w) (last_set least_before l (length (range_word w))) (last_set least_blocks l (length (range_word w))) (range_empty w)
            (last-told (length (range_word w)));
      }
  word-told (word.Hash w) = read-told (hash_field l (length (hash_word w))) _ _ (λ hash i. record { hash = refl; command = after-told w i })
  word-told word.Bsdiff = bsdiff_told
  word-told word.Imgdiff = record { hash = refl; command = inl (refl, refl) }
  word-told word.Unknown = record { hash = refl; command = bad-told _ }

  pub line-told : LineTold (command_of least_before l) (command_of least_blocks l)
  unfolding command_of
  line-told = word-told (word_of l)

  -- ---- what comes of it

  line-is : (a b : Line) → a.hash ≡ b.hash → a.command ≡ b.command → a ≡ b
  line-is a b h c = together c h
    where
      together : {c d : Command} {h k : List ℕ} → c ≡ d → h ≡ k → ◌≡◌ {A = Line} (record { command = c; hash = h }) (record { command = d; hash = k })
      together e f = cc

  -- two lines that are ill formed, or the same
  pub data SameLine (a b : Line) : Type 0 where
    same : a ≡ b → SameLine a b
    ill : a.hash ≡ b.hash → IllCommand a.command → IllCommand b.command → SameLine a b

  pub line_same : has_empty l ≡ false → SameLine (command_of least_before l) (command_of least_blocks l)
  unfolding has_empty
  line_same e = go (command_of least_before l) (command_of least_blocks l) e line-told
    where
      go : (a b : Line) → empty_in_command l a.command ≡ false → LineTold a b → SameLine a b
      go a b f t = ⊎_elim
          (λ s. same (line-is a b t.hash s.0))
          (λ s. ⊎_elim (λ i. ill t.hash i s.0) (λ i. absurd (clash i f)) s.1) t.command

  pub line-lost : has_empty l ≡ true → IllCommand (command_of least_blocks l).command
  unfolding has_empty
  line-lost e = ⊎_elim (λ s. absurd (clash e s.1)) (λ s. s.0) line-told.command

  -- a line that is not ill formed now was the same, without an empty range
  pub line_kept : (IllCommand (command_of least_blocks l).command → ⊥) →
      (command_of least_before l ≡ command_of least_blocks l) × (has_empty l ≡ false)
  unfolding has_empty
  line_kept none = go (command_of least_before l) (command_of least_blocks l) none line-told
    where
      go : (a b : Line) → (IllCommand b.command → ⊥) → LineTold a b → (a ≡ b) × (empty_in_command l a.command ≡ false)
      go a b good t = ⊎_elim (λ s. (line-is a b t.hash s.0, s.1)) (λ s. absurd (good s.0)) t.command
