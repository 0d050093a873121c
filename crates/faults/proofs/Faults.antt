-- THE THEOREMS, document 02, R-6: the byte that is reported of a command line, of a header line and of a range set is the first at which no
-- good one could go on; and a line for which none is reported is good. To believe them, read `specs/Language.antt`, `specs/Lines.antt` and
-- `specs/Findings.antt`.
-- Assumes nothing.
use mathlib.Core.Path.{◌≡◌, refl, sym, ◌∙◌, subst}
use Prim.Native.Nat.{ℕ, ◌+◌, ◌≤◌}
use native.Mathlib.Omega.{arith}
use mathlib.Core.List.{List, [], ◌∷◌}
use lib.ListN.{length, drop}
use Rattle.text.specs.Expected.{expected_at, lf}
use Rattle.text.specs.Number.{number_at}
use Rattle.text.specs.Line.{line_at}
use Rattle.text.specs.Read.{on_read, on_result}
use Rattle.ranges.specs.Ranges.{least_blocks, ranges_at}
use Rattle.command.specs.Commands.{command_of}
use Rattle.command.specs.declared.Command.{Command}
use Rattle.command.specs.declared.Command.TheVariants.{Zero, Erase, New, Move, Bsdiff, Stash, Free, Unsupported, Bad}
use Rattle.faults.specs.Language.{Language, FirstFault, Finding, good, fault, Found, End}
use Rattle.faults.specs.Lines.{RangeSet, CommandLine, HeaderLine}
use Rattle.faults.specs.Findings.{finding_at, ended}
use Rattle.faults.proofs.LanguageLaws.{Reads, fault_here_lem, not-later}
use Rattle.faults.proofs.Seen.{seen, is_lf, never, line-seen, line-line, all_seen, seen-length}
use Rattle.faults.proofs.Sets as sets
use Rattle.faults.proofs.Fields.{Ending, end-apart, end-then, number-then}
use Rattle.faults.proofs.CommandLines.{line-found}
use Rattle.std.specs.Prelude.{Err}

-- a text has one first fault at most
pub fault-one : {L : Language} {i : ℕ} {s : List ℕ} {p q : ℕ} → FirstFault L i s p → FirstFault L i s q → p ≡ q
fault-one f g = omega (arith, not-later f g, not-later g f)

-- ---- command lines

moved : {L : Language} {s : List ℕ} {p q : ℕ} (at : ℕ) → FirstFault L 0 s p → q ≡ at + p → FirstFault L at s q
moved at f e = record { before = f.before; place = omega (arith, f.place); within = f.within; goes = f.goes; stops = f.stops; ill = f.ill }

-- a line's fault is reported by its place in the text
in_text : (L : Language) (at : ℕ) (s : List ℕ) (c : Command) → Found L 0 s (finding_at 0 c) → Found L at s (finding_at at c)
unfolding finding_at
in_text L at s (Bad p) f = moved at f (omega arith)
in_text L at s Unsupported f = moved at f (omega arith)
in_text L at s (Zero set) f = f
in_text L at s (Erase set) f = f
in_text L at s (New set) f = f
in_text L at s (Move target n source) f = f
in_text L at s (Bsdiff target n source) f = f
in_text L at s (Stash set) f = f
in_text L at s Free f = f

-- the command line that starts at position `at` of the text
pub command-found : (s : List ℕ) (at : ℕ) → Found CommandLine at (line_at s at) (finding_at at (command_of least_blocks (line_at s at)).command)
unfolding line_at
command-found s at =
    in_text CommandLine at (line_at s at) (command_of least_blocks (line_at s at)).command
    (subst (λ l. Found CommandLine 0 l (finding_at 0 (command_of least_blocks (line_at s at)).command)) own (line-found (line_at s at)).found)
  where
    own : seen is_lf (line_at s at) ≡ line_at s at
    own = sym (line-seen (line_at s at)) ∙ line-line (drop at s)

-- a fault lies within the bytes that were read, whatever these are, or where they end
pub fault-within : (l : List ℕ) {p : ℕ} → (command_of least_blocks l).command ≡ Bad p → p ≤ length l
unfolding finding_at
fault-within l {p} e =
    let f : FirstFault CommandLine 0 (seen is_lf l) (0 + p) =
    subst (λ c. Found CommandLine 0 (seen is_lf l) (finding_at 0 c)) e (line-found l).found in
    omega (arith, f.place, f.within, seen-length is_lf l)

-- ---- header lines

-- the header line that starts at position `at` of the text
pub header-found : (s : List ℕ) (at : ℕ) → Found HeaderLine at (line_at s at)
    (on_read (number_at s at) (λ v i. on_result (expected_at s i lf) (λ next. good) fault) fault)
unfolding line_at HeaderLine
header-found s at = rw (line-seen (drop at s)) (number-then s end _ end-apart (λ v i h. end-then s end _ (λ next. refl))).found
  where
    end : Ending Finding
    end = record { of = λ r. r; bad = fault; is = λ p. refl }

-- ---- range sets that stand alone: `RangeSet End` are the texts that are a range set and nothing more

pub set_found : (s : List ℕ) (at : ℕ) →
    Found (RangeSet End) at (drop at s) (on_read (ranges_at least_blocks s at) (λ set next. ended (drop next s) next) fault)
unfolding End ended
set_found s at =
    subst (λ t. Found (RangeSet End) at t (on_read (ranges_at least_blocks s at) (λ set next. ended (drop next s) next) fault)) (all_seen (drop at s))
    (sets.set_found never (λ b n. refl) s at End (λ b t e l. l) (λ r. on_read r (λ set next. ended (drop next s) next) fault) (λ p. refl)
    (λ set next h. over (drop next s) next) at (omega arith)).found
  where
    over : (t : List ℕ) (next : ℕ) → Reads End next (seen never t) (ended t next)
    over [] next = record { alive = ([], tt); found = tt }
    over (b ∷ t) next = fault_here_lem (seen never (b ∷ t)) ([], tt) (λ u l. l)

-- .. so a fault that the reader of a set reports is the first
pub set-fault : (s : List ℕ) (at : ℕ) {p : ℕ} → ranges_at least_blocks s at ≡ Err p → FirstFault (RangeSet End) at (drop at s) p
set-fault s at e =
    subst (λ r. Found (RangeSet End) at (drop at s) (on_read r (λ set next. ended (drop next s) next) fault)) e (set_found s at)
