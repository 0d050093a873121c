-- The loop's invariant: i numbers stand after the mark.
use Prim.Native.Nat.{◌+◌, ◌*◌}
use mathlib.Core.Path.{◌≡◌}
use mathlib.Core.List.{◌++◌}
use lib.ListN.{take}
use Rattle.saved.specs.Layout.{word_bytes}
use Rattle.saved.specs.Saved.{words_of}
use Rattle.saved.proofs.write.put_numbers.Given as goal

abbrev pub invariant-loop-i : goal.invariant-loop-i
invariant-loop-i l = take (l.body + word_bytes * l.i) l.to ≡ take l.body l.initial.to ++ words_of (take l.i l.from)
