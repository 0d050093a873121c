-- Document 02, R-6: 3 and 6 report the byte of the text of the first fault: the first byte at which no good line could go on, be it the line's
-- LF, or the text's end. Which lines are good is said in crate faults, without positions.
-- Assumes nothing: these are definitions.
use Rattle.std.specs.Prelude.{◌≡◌, false, List, ◌⊎◌, ℕ, zero, suc, ◌+◌, ◌-◌, ◌≤◌, ◌<◌, length}
use Rattle.text.specs.Line.{line_at}
use Rattle.state.specs.Refusals.{header_form, line_form, has_byte}
use Rattle.state.specs.declared.Refusal.{Refusal}
use Rattle.faults.specs.Language.{Language, FirstFault}
use Rattle.faults.specs.Lines.{HeaderLine, CommandLine}
use Rattle.transfer_list.specs.Header.{first_line}

-- where the line starts that comes after n lines of the text
unfoldable pub start_after : ℕ → List ℕ → ℕ
start_after zero s = 0
start_after (suc n) s = start_after n s + length (line_at s (start_after n s))

-- where a line starts; lines count from 1
abbrev pub line_start : List ℕ → ℕ → ℕ
line_start s line = start_after (line - 1) s

-- the line that starts at a position of the text is not good, and p is its first fault: one of its bytes, or the text's end
pub record FaultAt (L : Language) (s : List ℕ) (at p : ℕ) : Type 0 where
  pub first : FirstFault L at (line_at s at) p
  pub place : (p < at + length (line_at s at)) ⊎ (p ≡ length s)

-- every line before this one is good: those of the header, and the command lines after it
pub record GoodBefore (s : List ℕ) (line : ℕ) : Type 0 where
  pub header : (k : ℕ) → 0 < k → k < first_line → k < line → HeaderLine (line_at s (line_start s k))
  pub commands : (k : ℕ) → first_line ≤ k → k < line → CommandLine (line_at s (line_start s k))

-- a refusal names the first line that is not good, and the byte that it reports is that line's first fault
pub record Pinpoints (L : Language) (s : List ℕ) (r : Refusal) : Type 0 where
  pub before : GoodBefore s r.line
  pub fault : FaultAt L s (line_start s r.line) r.byte

-- what a refusal reports of a text: 3 is a line of the header, absent ones too, and 6 a command line that is there
pub record Reports (s : List ℕ) (r : Refusal) : Type 0 where
  pub header : r.number ≡ header_form → (0 < r.line) × (r.line < first_line) × Pinpoints HeaderLine s r
  pub line : r.number ≡ line_form → (first_line ≤ r.line) × (line_start s r.line < length s) × Pinpoints CommandLine s r
  pub other : has_byte r.number ≡ false → r.byte ≡ 0
